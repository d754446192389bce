-- Sample programs, and the events and the ends of their runs.
use Rattle.std.specs.Prelude.{◌≡◌, ℕ, pos, true, false, List, [], ◌∷◌, Option, Some, None, codes}
use Rattle.gp_base.specs.declared.name.LineNo.{LineNo}
use Rattle.gp_base.specs.declared.event.Event.{Event}
use Rattle.gp_base.specs.declared.event.Event.TheVariants as event
use Rattle.gp_base.specs.declared.event.GateName.TheVariants as gate
use Rattle.gp_base.specs.Run.{Out, Returned, Stopped, Stop, TurnsUsed, OutcomesUsed, DivisionByZero, Stuck}
use Rattle.gp_base.specs.World.{World, start}
use Rattle.gp_tree.specs.declared.expr.BinOp.TheVariants as op
use Rattle.gp_tree.specs.declared.place.Targets.TheVariants as targets
use Rattle.gp_tree.specs.Expression as expr
use Rattle.gp_tree.specs.Expression.{Expression, Expressions, no_expressions, with_expression}
use Rattle.gp_tree.specs.Program.{ProgramItem, import_item, struct_item, function_item}
use Rattle.gp_tree.specs.TypeExpression.{named_type}
use Rattle.gp_tree.specs.declared.place.Place.{Place}
use Rattle.gp_tree.specs.declared.place.Targets.{Targets}
use Rattle.gp_tree.specs.Statement as stmt
use Rattle.gp_tree.specs.Statement.{Statement, Statements, no_statements, with_statement}
use Rattle.gp_meaning.specs.Calls.{Called}
use Rattle.gp_meaning.specs.Runs.{run_of}

-- how a run ended, and its events
pub record Ended : Type 0 where
  pub stopped : Option Stop
  pub events : List Event

abbrev pub ended : Out World Called → Ended
ended (Returned c w) = record { stopped = None; events = w.events }
ended (Stopped e w) = record { stopped = Some e; events = w.events }

-- ---- words for programs

-- the line of all of a program; no run reads it
module _ (line : LineNo) where
  abbrev imported : List ℕ → List (List ℕ) → ProgramItem
  imported name names = import_item (record { line = line; «module» = name; names = names })

  abbrev main : Statements → ProgramItem
  main body = function_item (record { line = line; mark = line; name = codes "main"; params = []; result_type = None; body = body })

  abbrev name : List ℕ → Expression
  name text = expr.place (record { name = text; fields = [] })

  abbrev one : Expression → Expressions
  one e = with_expression e no_expressions

  abbrev two : Expression → Expression → Expressions
  two e f = with_expression e (one f)

  abbrev assign : List ℕ → Expression → Statement
  assign text e = stmt.assign line (targets.One (record { name = text; fields = [] })) e

  abbrev do_call : List ℕ → Expressions → Statement
  do_call text es = stmt.evaluate line (expr.call text es)

  abbrev ◌∷ₛ◌ : Statement → Statements → Statements
  ◌∷ₛ◌ s ss = with_statement s ss

  infixr 20 ◌∷ₛ◌
  abbrev end : Statements
  end = no_statements

  -- for i in range(3): result("i", i)
  abbrev pub counting_program : List ProgramItem
  counting_program =
      imported (codes "guppylang.std.builtins") (codes "result" ∷ [])
      ∷ main (stmt.for_loop line (codes "i") (expr.number (pos 3)) (do_call (codes "result") (two (expr.text (codes "i")) (name (codes "i"))) ∷ₛ end) ∷ₛ end)
      ∷ []

  -- q = qubit(); h(q); while measured, with each measurement of a new qubit
  abbrev pub measuring_program : List ProgramItem
  measuring_program =
      imported (codes "guppylang.std.quantum") (codes "qubit" ∷ codes "h" ∷ codes "measure" ∷ [])
      ∷ main (assign (codes "q") (expr.call (codes "qubit") no_expressions)
      ∷ₛ stmt.while_loop line (expr.call (codes "measure") (one (name (codes "q")))) (assign (codes "q") (expr.call (codes "qubit") no_expressions) ∷ₛ do_call (codes "h") (one (name (codes "q"))) ∷ₛ end)
      ∷ₛ end)
      ∷ []

  -- n = 1 // 0 behind a result
  abbrev pub dividing_program : List ProgramItem
  dividing_program =
      imported (codes "guppylang.std.builtins") (codes "result" ∷ [])
      ∷ main (do_call (codes "result") (two (expr.text (codes "a")) (expr.boolean true)) ∷ₛ assign (codes "n") (expr.binary op.FloorDiv (expr.number (pos 1)) (expr.number (pos 0))) ∷ₛ end)
      ∷ []

  abbrev field : List ℕ → List ℕ → Place
  field text part = record { name = text; fields = part ∷ [] }

  abbrev report : List ℕ → Expression → Statement
  report tag e = do_call (codes "result") (two (expr.text tag) e)

  abbrev divided_by_zero : Expression
  divided_by_zero = expr.binary op.FloorDiv (expr.number (pos 1)) (expr.number (pos 0))

  -- a written function lends a field of its borrowed parameter, and sets another field to 5
  abbrev change : ProgramItem
  change =
      function_item (record {
        line = line;
        mark = line;
        name = codes "change";
        params = record { name = codes "p"; ty = named_type (codes "Pair"); owned = false } ∷ [];
        result_type = None;
        body =
            do_call (codes "h") (one (expr.place (field (codes "p") (codes "a"))))
            ∷ₛ stmt.assign line (targets.One (field (codes "p") (codes "n"))) (expr.number (pos 5))
            ∷ₛ end;
      })

  -- p = Pair(qubit(), 4); change(p); result("n", p.n); discard(p.a)
  abbrev pub lending_program : List ProgramItem
  lending_program =
      imported (codes "guppylang.std.builtins") (codes "result" ∷ [])
      ∷ imported (codes "guppylang.std.quantum") (codes "qubit" ∷ codes "h" ∷ codes "discard" ∷ [])
      ∷ struct_item (record {
        line = line;
        mark = line;
        name = codes "Pair";
        fields = record { line = line; name = codes "a"; ty = named_type (codes "qubit") } ∷ record { line = line; name = codes "n"; ty = named_type (codes "int") } ∷ [];
      })
      ∷ change
      ∷ main (assign (codes "p") (expr.call (codes "Pair") (two (expr.call (codes "qubit") no_expressions) (expr.number (pos 4))))
      ∷ₛ do_call (codes "change") (one (name (codes "p")))
      ∷ₛ report (codes "n") (expr.place (field (codes "p") (codes "n")))
      ∷ₛ do_call (codes "discard") (one (expr.place (field (codes "p") (codes "a"))))
      ∷ₛ end)
      ∷ []

  abbrev both_names : Targets
  both_names = targets.Pattern (record { name = codes "a"; fields = [] } ∷ record { name = codes "b"; fields = [] } ∷ [])

  -- a, b = 1, 2; a, b = b, a; and sides that would divide by zero
  abbrev pub choosing_program : List ProgramItem
  choosing_program =
      imported (codes "guppylang.std.builtins") (codes "result" ∷ [])
      ∷ main (stmt.assign line both_names (expr.tuple (two (expr.number (pos 1)) (expr.number (pos 2))))
      ∷ₛ stmt.assign line both_names (expr.tuple (two (name (codes "b")) (name (codes "a"))))
      ∷ₛ report (codes "a") (name (codes "a"))
      ∷ₛ report (codes "and") (expr.both (expr.boolean false) (expr.binary op.Eq divided_by_zero (expr.number (pos 0))))
      ∷ₛ report (codes "or") (expr.either (expr.boolean true) (expr.binary op.Eq divided_by_zero (expr.number (pos 0))))
      ∷ₛ report (codes "if") (expr.choice (expr.boolean true) (expr.number (pos 7)) divided_by_zero)
      ∷ₛ end)
      ∷ []

  -- for i in range(9), with `continue` at 0, `break` at 2 and a result of 1; then return 7
  abbrev first : ProgramItem
  first =
      function_item (record {
        line = line;
        mark = line;
        name = codes "first";
        params = [];
        result_type = Some (named_type (codes "int"));
        body =
            stmt.for_loop line (codes "i") (expr.number (pos 9))
            (stmt.if_else line (expr.binary op.Eq (name (codes "i")) (expr.number (pos 0))) (stmt.continue_loop line ∷ₛ end) end
            ∷ₛ stmt.if_else line (expr.binary op.Eq (name (codes "i")) (expr.number (pos 2))) (stmt.break_loop line ∷ₛ end) end
            ∷ₛ report (codes "i") (name (codes "i"))
            ∷ₛ end)
            ∷ₛ stmt.return_value line (Some (expr.number (pos 7)))
            ∷ₛ report (codes "behind") (expr.number (pos 0))
            ∷ₛ end;
      })

  abbrev pub leaving_program : List ProgramItem
  leaving_program =
      imported (codes "guppylang.std.builtins") (codes "result" ∷ []) ∷ first ∷ main (report (codes "n") (expr.call (codes "first") no_expressions) ∷ₛ end) ∷ []

  -- f = first, which is called by that name
  abbrev pub naming_program : List ProgramItem
  naming_program =
      imported (codes "guppylang.std.builtins") (codes "result" ∷ [])
      ∷ first
      ∷ main (assign (codes "f") (name (codes "first")) ∷ₛ report (codes "n") (expr.call (codes "f") no_expressions) ∷ₛ end)
      ∷ []

  -- first = 1, which hides the function
  abbrev pub hiding_program : List ProgramItem
  hiding_program = first ∷ main (assign (codes "first") (expr.number (pos 1)) ∷ₛ do_call (codes "first") no_expressions ∷ₛ end) ∷ []

  -- n = 1 + True
  abbrev pub stuck_program : List ProgramItem
  stuck_program = main (assign (codes "n") (expr.binary op.Add (expr.number (pos 1)) (expr.boolean true)) ∷ₛ end) ∷ []

pub record SamplesRun : Type 0 where
  -- with turns enough, and with one turn: a turn is needed after each round
  pub counts : (line : LineNo) → ended (run_of (counting_program line) (codes "main") [] (start 3 []))
      ≡ record { stopped = None; events = event.ResultInt (codes "i") (pos 0) ∷ event.ResultInt (codes "i") (pos 1) ∷ event.ResultInt (codes "i") (pos 2) ∷ [] }
  pub counts_with_a_turn : (line : LineNo) → ended (run_of (counting_program line) (codes "main") [] (start 1 []))
      ≡ record { stopped = Some TurnsUsed; events = event.ResultInt (codes "i") (pos 0) ∷ event.ResultInt (codes "i") (pos 1) ∷ [] }
  pub measures : (line : LineNo) → ended (run_of (measuring_program line) (codes "main") [] (start 5 (true ∷ false ∷ [])))
      ≡ record { stopped = None; events = event.Alloc 0 ∷ event.MeasureFree 0 true ∷ event.Alloc 1 ∷ event.Gate1 gate.H 1 ∷ event.MeasureFree 1 false ∷ [] }
  pub measures_too_often : (line : LineNo) → ended (run_of (measuring_program line) (codes "main") [] (start 5 (true ∷ [])))
      ≡ record { stopped = Some OutcomesUsed; events = event.Alloc 0 ∷ event.MeasureFree 0 true ∷ event.Alloc 1 ∷ event.Gate1 gate.H 1 ∷ [] }
  pub divides : (line : LineNo) → ended (run_of (dividing_program line) (codes "main") [] (start 5 [])) ≡ record { stopped = Some DivisionByZero; events = event.ResultBool (codes "a") true ∷ [] }
  pub is_stuck : (line : LineNo) → ended (run_of (stuck_program line) (codes "main") [] (start 5 [])) ≡ record { stopped = Some Stuck; events = [] }
  -- a call takes a turn, once its arguments have values; what was borrowed comes back with its field
  pub lends : (line : LineNo) → ended (run_of (lending_program line) (codes "main") [] (start 1 []))
      ≡ record { stopped = None; events = event.Alloc 0 ∷ event.Gate1 gate.H 0 ∷ event.ResultInt (codes "n") (pos 5) ∷ event.Free 0 ∷ [] }
  pub lends_without_a_turn : (line : LineNo) → ended (run_of (lending_program line) (codes "main") [] (start 0 [])) ≡ record { stopped = Some TurnsUsed; events = event.Alloc 0 ∷ [] }
  pub chooses : (line : LineNo) → ended (run_of (choosing_program line) (codes "main") [] (start 0 []))
      ≡ record {
        stopped = None;
        events = event.ResultInt (codes "a") (pos 2) ∷ event.ResultBool (codes "and") false ∷ event.ResultBool (codes "or") true ∷ event.ResultInt (codes "if") (pos 7) ∷ [];
      }
  -- a turn for the call, one for `continue` and one for the way back behind the result
  pub leaves_loops : (line : LineNo) → ended (run_of (leaving_program line) (codes "main") [] (start 3 []))
      ≡ record { stopped = None; events = event.ResultInt (codes "i") (pos 1) ∷ event.ResultInt (codes "n") (pos 7) ∷ [] }
  pub leaves_loops_too_late : (line : LineNo) → ended (run_of (leaving_program line) (codes "main") [] (start 2 []))
      ≡ record { stopped = Some TurnsUsed; events = event.ResultInt (codes "i") (pos 1) ∷ [] }
  -- a call by a value takes a turn as one by the function's name does
  pub calls_by_value : (line : LineNo) → ended (run_of (naming_program line) (codes "main") [] (start 3 []))
      ≡ record { stopped = None; events = event.ResultInt (codes "i") (pos 1) ∷ event.ResultInt (codes "n") (pos 7) ∷ [] }
  pub calls_by_value_without_a_turn : (line : LineNo) → ended (run_of (naming_program line) (codes "main") [] (start 0 [])) ≡ record { stopped = Some TurnsUsed; events = [] }
  pub calls_no_number : (line : LineNo) → ended (run_of (hiding_program line) (codes "main") [] (start 9 [])) ≡ record { stopped = Some Stuck; events = [] }
