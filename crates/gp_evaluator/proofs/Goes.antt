-- The runs of the forms of text in memory, by the runs of their parts.
use Rattle.std.proofs.Common.{◌≡◌, ℕ, ℤ, pos, Bool, true, false, if◌then◌else◌, List, [], ◌∷◌, Option, Some, None, drop, refl, ap, sym, ◌∙◌}
use Rattle.std.specs.declared.alloc.Global.{Global}
use Rattle.std.specs.declared.boxed.Box.{Box}
use Rattle.std.specs.declared.vec.Vec.{Vec}
use Rattle.gp_base.specs.declared.name.LineNo.{LineNo}
use Rattle.gp_base.specs.Run.{Returned, Stopped, Stuck, ret, ◌>>=◌, or_stuck}
use Rattle.gp_tree.specs.declared.expr.BinOp.{BinOp}
use Rattle.gp_tree.specs.declared.expr.Expr.{Expr}
use Rattle.gp_tree.specs.declared.expr.Expr.TheVariants as variants
use Rattle.gp_tree.specs.declared.place.Place.{Place}
use Rattle.gp_tree.specs.declared.place.Targets.{Targets}
use Rattle.gp_tree.specs.declared.stmt.Stmt.{Stmt}
use Rattle.gp_tree.specs.declared.stmt.Stmt.TheVariants as stmts
use Rattle.gp_tree.specs.declared.type_expr.TypeExpr.{TypeExpr}
use Rattle.gp_tree.specs.Expression as expr
use Rattle.gp_tree.specs.Expression.{Expression, expression, expressions, maybe_expression}
use Rattle.gp_tree.specs.Statement as stmt
use Rattle.gp_tree.specs.Statement.{Statement, statement, statements}
use Rattle.gp_meaning.specs.Calls.{Functions}
use Rattle.gp_evaluator.specs.Evaluation.{tag_count}
use Rattle.gp_meaning.specs.Meaning.{Frame, Rest, Normal, Break, Continue, Return, value, needed, truth, looked_up, evaluated, evaluated_each, evaluated_behind, executed, executed_each, looped, counted, then_normal}
use Rattle.gp_meaning.specs.Operators.{operated, or_stop, minus_of}
use Rattle.gp_meaning.specs.State.{State, value_at, assign, assign_name}
use Rattle.gp_meaning.specs.Value.{number, boolean, tuple, values_of, number_of}
use Rattle.gp_evaluator.proofs.Texts.{as_number, as_boolean, as_text, as_place, as_minus, as_negation, as_binary, as_both, as_either, as_choice, as_tuple, as_call, as_assign, as_annotated, as_evaluate, as_return, as_if, as_while, as_for, as_break, as_continue, as_pass}

-- ---- expressions

module _ (F : Frame) (f : Functions) (s : State) (e : Expr) where
  pub number_goes : (n : ℤ) → e ≡ variants.Int n → evaluated F f (expression e) s ≡ Returned (Some (number n)) s
  number_goes n is = ap (λ z. evaluated F f z s) (as_number e n is)

  pub boolean_goes : (b : Bool) → e ≡ variants.Bool b → evaluated F f (expression e) s ≡ Returned (Some (boolean b)) s
  boolean_goes b is = ap (λ z. evaluated F f z s) (as_boolean e b is)

  pub text_goes : (t : List ℕ) → e ≡ variants.Text t → evaluated F f (expression e) s ≡ Stopped Stuck s
  text_goes t is = ap (λ z. evaluated F f z s) (as_text e t is)

  pub place_goes : (p : Place) → e ≡ variants.Place p → evaluated F f (expression e) s ≡ looked_up (value_at F.known F.names s.variables p) s
  place_goes p is = ap (λ z. evaluated F f z s) (as_place e p is)

  pub minus_goes : (a : Box Expr Global) (x : Expr) → e ≡ variants.Neg a → x ≡ a.value
      → evaluated F f (expression e) s ≡ (needed (evaluated F f (expression x)) >>= λ v. or_stuck (minus_of v) >>= value) s
  minus_goes a x is at = ap (λ z. evaluated F f z s) (as_minus e a is ∙ ap (λ y. expr.minus (expression y)) (sym at))

  pub negation_goes : (a : Box Expr Global) (x : Expr) → e ≡ variants.Not a → x ≡ a.value
      → evaluated F f (expression e) s ≡ (truth (evaluated F f (expression x)) >>= λ b. value (boolean (if b then false else true))) s
  negation_goes a x is at = ap (λ z. evaluated F f z s) (as_negation e a is ∙ ap (λ y. expr.negation (expression y)) (sym at))

  -- with the second part as it stands in the tree, and as it is read
  pub binary_goes : (o : BinOp) (a b : Box Expr Global) (x y : Expr) → e ≡ variants.Binary o a b → x ≡ a.value → y ≡ b.value
      → evaluated F f (expression e) s ≡ (needed (evaluated F f (expression x)) >>= λ v. needed (evaluated F f (expression y)) >>= λ w. or_stop (operated o v w) >>= value) s
  binary_goes o a b x y is at on =
      ap (λ z. evaluated F f z s) (as_binary e o a b is ∙ ap (λ y. expr.binary o (expression y) (expression b.value)) (sym at) ∙ ap (λ z. expr.binary o (expression x) (expression z)) (sym on))

  pub both_goes : (a b : Box Expr Global) (x y : Expr) → e ≡ variants.And a b → x ≡ a.value → y ≡ b.value
      → evaluated F f (expression e) s ≡ (truth (evaluated F f (expression x)) >>= λ v. if v then (truth (evaluated F f (expression y)) >>= λ w. value (boolean w)) else value (boolean false)) s
  both_goes a b x y is at on =
      ap (λ z. evaluated F f z s) (as_both e a b is ∙ ap (λ y. expr.both (expression y) (expression b.value)) (sym at) ∙ ap (λ z. expr.both (expression x) (expression z)) (sym on))

  pub either_goes : (a b : Box Expr Global) (x y : Expr) → e ≡ variants.Or a b → x ≡ a.value → y ≡ b.value
      → evaluated F f (expression e) s ≡ (truth (evaluated F f (expression x)) >>= λ v. if v then value (boolean true) else (truth (evaluated F f (expression y)) >>= λ w. value (boolean w))) s
  either_goes a b x y is at on =
      ap (λ z. evaluated F f z s) (as_either e a b is ∙ ap (λ y. expr.either (expression y) (expression b.value)) (sym at) ∙ ap (λ z. expr.either (expression x) (expression z)) (sym on))

  pub choice_goes : (c a b : Box Expr Global) (x y w : Expr) → e ≡ variants.Choice c a b → x ≡ c.value → y ≡ a.value → w ≡ b.value
      → evaluated F f (expression e) s
      ≡ (truth (evaluated F f (expression x)) >>= λ t. if t then (needed (evaluated F f (expression y)) >>= value) else (needed (evaluated F f (expression w)) >>= value)) s
  choice_goes c a b x y w is at on by =
      ap (λ z. evaluated F f z s)
      (as_choice e c a b is ∙ ap (λ z. expr.choice (expression z) (expression a.value) (expression b.value)) (sym at)
      ∙ ap (λ z. expr.choice (expression x) (expression z) (expression b.value)) (sym on) ∙ ap (λ z. expr.choice (expression x) (expression y) (expression z)) (sym by))

  pub tuple_goes : (es : Vec Expr Global) (xs : List Expr) → e ≡ variants.Tuple es → xs ≡ es.items
      → evaluated F f (expression e) s ≡ (evaluated_each F f (expressions xs) >>= λ vs. value (tuple (values_of vs))) s
  tuple_goes es xs is at = ap (λ z. evaluated F f z s) (as_tuple e es is ∙ ap (λ z. expr.tuple (expressions z)) (sym at))

  pub call_goes : (name text : List ℕ) (es : Vec Expr Global) (xs : List Expr) → e ≡ variants.Call name es → text ≡ name → xs ≡ es.items
      → evaluated F f (expression e) s ≡ evaluated F f (expr.call text (expressions xs)) s
  call_goes name text es xs is same at = ap (λ z. evaluated F f z s) (as_call e name es is ∙ ap (λ n. expr.call n (expressions es.items)) (sym same) ∙ ap (λ z. expr.call text (expressions z)) (sym at))

-- the values behind a tag are those of the arguments that are left
pub behind_is : (F : Frame) (f : Functions) (tag : Option (List ℕ)) (es : List Expr) (s : State)
    → evaluated_behind F f tag (expressions es) s ≡ evaluated_each F f (expressions (drop (tag_count tag) es)) s
behind_is F f (Some t) [] s = refl
behind_is F f (Some t) (e ∷ es) s = refl
behind_is F f None [] s = refl
behind_is F f None (e ∷ es) s = refl

-- ---- statements

module _ (F : Frame) (R : Rest) (s : State) (x : Stmt) (line : LineNo) where
  pub assign_goes : (ts : Targets) (e : Expr) → x ≡ stmts.Assign line ts e
      → executed F R (statement x) s ≡ (needed (evaluated F R.call (expression e)) >>= λ v. then_normal (assign F.names ts v)) s
  assign_goes ts e is = ap (λ z. executed F R z s) (as_assign x line ts e is)

  pub annotated_goes : (name : List ℕ) (ty : TypeExpr) (e : Expr) → x ≡ stmts.Annotated line name ty e
      → executed F R (statement x) s ≡ (needed (evaluated F R.call (expression e)) >>= λ v. then_normal (assign_name F.names name v)) s
  annotated_goes name ty e is = ap (λ z. executed F R z s) (as_annotated x line name ty e is)

  pub evaluate_goes : (e : Expr) → x ≡ stmts.Evaluate line e → executed F R (statement x) s ≡ (evaluated F R.call (expression e) >>= λ _. ret Normal) s
  evaluate_goes e is = ap (λ z. executed F R z s) (as_evaluate x line e is)

  pub return_goes : (o : Option Expr) → x ≡ stmts.Return line o → o ≡ None → executed F R (statement x) s ≡ Returned (Return None) s
  return_goes o is n = ap (λ z. executed F R z s) (as_return x line o is ∙ ap (λ o. stmt.return_value line (maybe_expression o)) n)

  pub return_value_goes : (o : Option Expr) (e : Expr) → x ≡ stmts.Return line o → o ≡ Some e
      → executed F R (statement x) s ≡ (needed (evaluated F R.call (expression e)) >>= λ v. ret (Return (Some v))) s
  return_value_goes o e is n = ap (λ z. executed F R z s) (as_return x line o is ∙ ap (λ o. stmt.return_value line (maybe_expression o)) n)

  pub if_goes : (c : Expr) (body other : Vec Stmt Global) (b o : List Stmt) → x ≡ stmts.If line c body other → b ≡ body.items → o ≡ other.items
      → executed F R (statement x) s ≡ (truth (evaluated F R.call (expression c)) >>= λ t. if t then executed_each F R (statements b) else executed_each F R (statements o)) s
  if_goes c body other b o is at on =
      ap (λ z. executed F R z s)
      (as_if x line c body other is ∙ ap (λ z. stmt.if_else line (expression c) (statements z) (statements other.items)) (sym at) ∙ ap (λ z. stmt.if_else line (expression c) (statements b) (statements z)) (sym on))

  pub while_goes : (c : Expr) (body : Vec Stmt Global) (b : List Stmt) → x ≡ stmts.While line c body → b ≡ body.items
      → executed F R (statement x) s ≡ looped F R (expression c) (statements b) s
  while_goes c body b is at = ap (λ z. executed F R z s) (as_while x line c body is ∙ ap (λ z. stmt.while_loop line (expression c) (statements z)) (sym at))

  pub for_goes : (name text : List ℕ) (e : Expr) (body : Vec Stmt Global) (b : List Stmt) → x ≡ stmts.For line name e body → text ≡ name → b ≡ body.items
      → executed F R (statement x) s ≡ (needed (evaluated F R.call (expression e)) >>= λ v. or_stuck (number_of v) >>= λ limit. counted F R text (statements b) (pos 0) limit) s
  for_goes name text e body b is same at =
      ap (λ z. executed F R z s)
      (as_for x line name e body is ∙ ap (λ n. stmt.for_loop line n (expression e) (statements body.items)) (sym same) ∙ ap (λ z. stmt.for_loop line text (expression e) (statements z)) (sym at))

  pub break_goes : x ≡ stmts.Break line → executed F R (statement x) s ≡ Returned Break s
  break_goes is = ap (λ z. executed F R z s) (as_break x line is)

  pub continue_goes : x ≡ stmts.Continue line → executed F R (statement x) s ≡ Returned Continue s
  continue_goes is = ap (λ z. executed F R z s) (as_continue x line is)

  pub pass_goes : x ≡ stmts.Pass line → executed F R (statement x) s ≡ Returned Normal s
  pass_goes is = ap (λ z. executed F R z s) (as_pass x line is)
