-- Runs have clean events, whatever the program.
use Rattle.std.proofs.Common.{ℕ, zero, suc, ℤ, pos, ◌+ℤ◌, Bool, true, false, if◌then◌else◌, List, [], ◌∷◌, Option, Some, None, Ok, Err, refl, sym, append-nil}
use Rattle.std.specs.Prelude.{int_lt, slice_get, length, ◌==◌}
use Rattle.gp_base.specs.declared.event.Event.TheVariants as event
use Rattle.gp_base.specs.declared.event.GateName.TheVariants as gate
use Rattle.gp_base.specs.Clean.{IsCleanBetween, world_after}
use Rattle.gp_base.specs.Run.{Run, Out, Returned, Stopped, Stop, Stuck, TurnsUsed, ret, stop, go_on, ◌>>=◌, or_stuck}
use Rattle.gp_base.specs.World.{World, take_turn, turn_of}
use Rattle.gp_base.proofs.Steps.{Relates, then_relates, ret_relates, stop_relates, clean_step, clean_same, clean_chain, does_on, free_relates, measure_relates, measure_free_relates, two_relate, three_relate, allocate_relates, IsStep}
use Rattle.gp_tree.specs.declared.place.Place.{Place}
use Rattle.gp_tree.specs.declared.place.Targets.{Targets}
use Rattle.gp_tree.specs.declared.place.Targets.TheVariants as targets
use Rattle.gp_tree.specs.Expression as expr
use Rattle.gp_tree.specs.Expression.{Expression, Expressions}
use Rattle.gp_tree.specs.Statement as stmt
use Rattle.gp_tree.specs.Statement.{Statement, Statements}
use Rattle.gp_types.specs.declared.builtins.Builtin.{Builtin}
use Rattle.gp_types.specs.declared.builtins.Builtin.TheVariants as built_in
use Rattle.gp_locals.specs.Environment.{Names}
use Rattle.gp_scope.specs.Known.{Known}
use Rattle.gp_types.specs.Signature.{Parameter}
use Rattle.gp_locals.specs.Callee.{Callee, Function, Made, BuiltIn}
use Rattle.gp_meaning.specs.Calls.{Called, Functions, resolved, called, performed, reported, gives, put_back, put_back_each, tag_of, qubit_at, number_at}
use Rattle.gp_meaning.specs.Meaning.{Frame, entered, Completion, Normal, Break, Continue, Return, Rest, Routine, Routines, value, needed, truth, looked_up, callee, evaluated, evaluated_each, evaluated_behind, then_normal, on_normal, after_body, looping, counting, executed, executed_each, ends_by, returns, ran_named, finals_of, level}
use Rattle.gp_meaning.specs.Operators.{Operated, operated, minus_of, or_stop}
use Rattle.gp_meaning.specs.State as state
use Rattle.gp_meaning.specs.State.{State, Variables, on_world, with_variables, without_variables, begun_with, assign, assign_place, assign_each, assign_parts, assign_name, value_at}
use Rattle.gp_meaning.specs.Value as values
use Rattle.gp_meaning.specs.Value.{Value}
use Rattle.gp_meaning.specs.CleanRuns.{RunsAreClean}

-- ---- runs of the world

abbrev W : {A : Type 0} → Run World A → Type 0
W m = Relates IsCleanBetween clean_step m

world_found : {A : Type 0} (o : Option A) → W (or_stuck o)
world_found None = stop_relates IsCleanBetween clean_step Stuck
world_found (Some a) = ret_relates IsCleanBetween clean_step a

world_gives : (o : Option Value) (qs : List ℕ) → W (gives o qs)
world_gives o qs = ret_relates IsCleanBetween clean_step _

world_bind : {A B : Type 0} (m : Run World A) (k : A → Run World B) → W m → ((a : A) → W (k a)) → W (m >>= k)
world_bind m k f g = then_relates IsCleanBetween clean_step m k f g

world_reported : (tag : Option (List ℕ)) (v : Option Value) → W (reported tag v)
world_reported None v = stop_relates IsCleanBetween clean_step Stuck
world_reported (Some t) None = stop_relates IsCleanBetween clean_step Stuck
world_reported (Some t) (Some (values.number n)) = record { relates = λ w. IsStep.happens clean_step (event.ResultInt t n) w refl }
world_reported (Some t) (Some (values.boolean b)) = record { relates = λ w. IsStep.happens clean_step (event.ResultBool t b) w refl }
world_reported (Some t) (Some (values.qubit q)) = stop_relates IsCleanBetween clean_step Stuck
world_reported (Some t) (Some (values.tuple q)) = stop_relates IsCleanBetween clean_step Stuck
world_reported (Some t) (Some (values.structure q)) = stop_relates IsCleanBetween clean_step Stuck
world_reported (Some t) (Some (values.function q)) = stop_relates IsCleanBetween clean_step Stuck

performed_clean : (b : Builtin) (tag : Option (List ℕ)) (vs : List Value) → W (performed b tag vs)
performed_clean built_in.Qubit tag vs = world_bind _ _ (allocate_relates IsCleanBetween clean_step) (λ q. world_gives (Some (values.qubit q)) [])
performed_clean built_in.Discard tag vs = world_bind _ _ (world_found (qubit_at vs 0)) (λ q. world_bind _ _ (free_relates IsCleanBetween clean_step q) (λ _. world_gives None []))
performed_clean built_in.Measure tag vs = world_bind _ _ (world_found (qubit_at vs 0)) (λ q. world_bind _ _ (measure_free_relates IsCleanBetween clean_step q) (λ b. world_gives (Some (values.boolean b)) []))
performed_clean built_in.ProjectZ tag vs = world_bind _ _ (world_found (qubit_at vs 0)) (λ q. world_bind _ _ (measure_relates IsCleanBetween clean_step q) (λ b. world_gives (Some (values.boolean b)) (q ∷ [])))
performed_clean built_in.Reset tag vs = world_bind _ _ (world_found (qubit_at vs 0)) (λ q. world_bind _ _ (does_on IsCleanBetween clean_step q (event.Reset q) (λ f. refl)) (λ _. world_gives None (q ∷ [])))
performed_clean (built_in.OneQubitGate g) tag vs = world_bind _ _ (world_found (qubit_at vs 0)) (λ q. world_bind _ _ (does_on IsCleanBetween clean_step q (event.Gate1 g q) (λ f. refl)) (λ _. world_gives None (q ∷ [])))
performed_clean (built_in.TwoQubitGate g) tag vs = world_bind _ _ (world_found (qubit_at vs 0)) (λ p. world_bind _ _ (world_found (qubit_at vs 1)) (λ q. world_bind _ _ (two_relate IsCleanBetween clean_step g p q) (λ _. world_gives None (p ∷ q ∷ []))))
performed_clean built_in.Toffoli tag vs =
    world_bind _ _ (world_found (qubit_at vs 0)) (λ p. world_bind _ _ (world_found (qubit_at vs 1)) (λ q. world_bind _ _ (world_found (qubit_at vs 2)) (λ r. world_bind _ _ (three_relate IsCleanBetween clean_step gate.Toffoli p q r) (λ _. world_gives None (p ∷ q ∷ r ∷ [])))))
performed_clean (built_in.Rotation g) tag vs = world_bind _ _ (world_found (qubit_at vs 0)) (λ q. world_bind _ _ (world_found (number_at vs 1)) (λ a. world_bind _ _ (does_on IsCleanBetween clean_step q (event.Rotation g q a) (λ f. refl)) (λ _. world_gives None (q ∷ []))))
performed_clean built_in.Result tag vs = world_reported tag (slice_get vs 0)

turn_clean : (w : World) (n : ℕ) → IsCleanBetween w (world_after (turn_of n w))
turn_clean w zero = clean_same w
turn_clean w (suc n) = record { events = []; appended = sym (append-nil w.events); clean = refl }

world_turn : W take_turn
world_turn = record { relates = λ w. turn_clean w w.turns }

-- ---- runs of states

abbrev after : {A : Type 0} → Out State A → World
after (Returned a s) = s.world
after (Stopped e s) = s.world

record C {A : Type 0} (m : Run State A) : Type 0 where
  clean : (s : State) → IsCleanBetween s.world (after (m s))

bind_on : {A B : Type 0} (w : World) (o : Out State A) (k : A → Run State B) → IsCleanBetween w (after o) → ((a : A) → C (k a)) → IsCleanBetween w (after (go_on o k))
bind_on w (Returned a s) k h f = clean_chain w s.world (after (k a s)) h ((f a).clean s)
bind_on w (Stopped e s) k h f = h

bind : {A B : Type 0} (m : Run State A) (k : A → Run State B) → C m → ((a : A) → C (k a)) → C (m >>= k)
bind m k h f = record { clean = λ s. bind_on s.world (m s) k (h.clean s) f }

same : {A : Type 0} (a : A) → C (ret a)
same a = record { clean = λ s. clean_same s.world }

stops : {A : Type 0} (e : Stop) → C {A = A} (stop e)
stops e = record { clean = λ s. clean_same s.world }

find : {A : Type 0} (o : Option A) → C (or_stuck o)
find None = stops Stuck
find (Some a) = same a

either_way : {A : Type 0} (b : Bool) (m n : Run State A) → C m → C n → C (if b then m else n)
either_way true m n f g = f
either_way false m n f g = g

carried : {A : Type 0} (vs : Variables) (w : World) (o : Out World A) → IsCleanBetween w (world_after o) → IsCleanBetween w (after (with_variables vs o))
carried vs w (Returned a v) h = h
carried vs w (Stopped e v) h = h

world_run : {A : Type 0} (m : Run World A) → W m → C (on_world m)
world_run m h = record { clean = λ s. carried s.variables s.world (m s.world) (h.relates s.world) }

need : (m : Run State (Option Value)) → C m → C (needed m)
need m h = bind m or_stuck h find

test : (m : Run State (Option Value)) → C m → C (truth m)
test m h = bind (needed m) _ (need m h) (λ v. find (values.boolean_of v))

set_name : (names : Names) (name : List ℕ) (v : Value) → C (assign_name names name v)
set_name names name v = record { clean = λ s. clean_same s.world }

set_place : (names : Names) (p : Place) (v : Value) → C (assign_place names p v)
set_place names p v = record { clean = λ s. (bind (or_stuck (state.placed (state.variable names s.variables p.name) p.fields v)) (assign_name names p.name) (find _) (set_name names p.name)).clean s }

set_each : (names : Names) (ps : List Place) (vs : List Value) → C (assign_each names ps vs)
set_each names [] vs = same tt
set_each names (p ∷ ps) [] = same tt
set_each names (p ∷ ps) (v ∷ vs) = bind (assign_place names p v) _ (set_place names p v) (λ _. set_each names ps vs)

set_targets : (names : Names) (ts : Targets) (v : Value) → C (assign names ts v)
set_targets names (targets.One p) v = set_place names p v
set_targets names (targets.Pattern ps) v = bind (or_stuck (values.parts_of v)) (assign_parts names ps) (find _) (λ vs. either_way (length ps == length vs) _ _ (set_each names ps vs) (stops Stuck))

back : (names : Names) (a : Expression) (v : Value) → C (put_back names a v)
back names (expr.place p) v = set_place names p v
back names (expr.number n) v = same tt
back names (expr.boolean n) v = same tt
back names (expr.text n) v = same tt
back names (expr.minus n) v = same tt
back names (expr.negation n) v = same tt
back names (expr.binary o n m) v = same tt
back names (expr.both n m) v = same tt
back names (expr.either n m) v = same tt
back names (expr.choice k n m) v = same tt
back names (expr.tuple n) v = same tt
back names (expr.call k n) v = same tt

backs : (names : Names) (es : Expressions) (os : List (Option Value)) → C (put_back_each names es os)
backs names expr.no_expressions os = same tt
backs names (expr.with_expression a es) [] = same tt
backs names (expr.with_expression a es) (None ∷ os) = backs names es os
backs names (expr.with_expression a es) (Some v ∷ os) = bind (put_back names a v) _ (back names a v) (λ _. backs names es os)

answer : (a : Operated) → C (or_stop a)
answer (Ok v) = same v
answer (Err e) = stops e

module _ (F : Frame) (functions : Functions) (ok : (name : List ℕ) (vs : List Value) → W (functions name vs)) where
  abbrev run : Expression → Run State (Option Value)
  run a = evaluated F functions a

  call_clean : (k : Callee) (name : List ℕ) (tag : Option (List ℕ)) (vs : List Value) → W (called functions k name tag vs)
  call_clean (Function ps r) name tag vs = world_bind take_turn _ world_turn (λ _. ok name vs)
  call_clean (Made t) name tag vs = ret_relates IsCleanBetween clean_step _
  call_clean (BuiltIn b) name tag vs = performed_clean b tag vs

  abbrev AllClean : Expressions → Type 0
  AllClean expr.no_expressions = Unit {0}
  AllClean (expr.with_expression a es) = C (run a) × AllClean es

  each_clean : (es : Expressions) → AllClean es → C (evaluated_each F functions es)
  each_clean expr.no_expressions h = same []
  each_clean (expr.with_expression a es) h = bind (needed (run a)) _ (need (run a) h.0) (λ v. bind (evaluated_each F functions es) _ (each_clean es h.1) (λ vs. same (v ∷ vs)))

  behind_clean : (tag : Option (List ℕ)) (es : Expressions) → AllClean es → C (evaluated_behind F functions tag es)
  behind_clean (Some t) (expr.with_expression a es) h = each_clean es h.1
  behind_clean (Some t) expr.no_expressions h = same []
  behind_clean None expr.no_expressions h = same []
  behind_clean None (expr.with_expression a es) h = each_clean (expr.with_expression a es) h

  read_clean : (o : Option Value) → C (looked_up o)
  read_clean o = bind (or_stuck o) value (find o) (λ v. same (Some v))

  callee_clean : (name : List ℕ) → C (callee F name)
  callee_clean name = record { clean = λ s. (find (resolved F.known F.names s.variables name)).clean s }

  mutual
    clean_expression : (a : Expression) → C (run a)
    clean_expression (expr.number n) = same _
    clean_expression (expr.boolean n) = same _
    clean_expression (expr.text n) = stops Stuck
    clean_expression (expr.place p) = record { clean = λ s. (read_clean (value_at F.known F.names s.variables p)).clean s }
    clean_expression (expr.minus a) = bind (needed (run a)) _ (need (run a) (clean_expression a)) (λ x. bind (or_stuck (minus_of x)) value (find _) (λ v. same (Some v)))
    clean_expression (expr.negation a) = bind (truth (run a)) _ (test (run a) (clean_expression a)) (λ b. same _)
    clean_expression (expr.binary o a b) =
        bind (needed (run a)) _ (need (run a) (clean_expression a)) (λ x. bind (needed (run b)) _ (need (run b) (clean_expression b)) (λ y. bind (or_stop (operated o x y)) value (answer (operated o x y)) (λ v. same (Some v))))
    clean_expression (expr.both a b) = bind (truth (run a)) _ (test (run a) (clean_expression a)) (λ x. either_way x _ _ (bind (truth (run b)) _ (test (run b) (clean_expression b)) (λ y. same _)) (same _))
    clean_expression (expr.either a b) = bind (truth (run a)) _ (test (run a) (clean_expression a)) (λ x. either_way x _ _ (same _) (bind (truth (run b)) _ (test (run b) (clean_expression b)) (λ y. same _)))
    clean_expression (expr.choice c a b) =
        bind (truth (run c)) _ (test (run c) (clean_expression c)) (λ t. either_way t _ _ (bind (needed (run a)) value (need (run a) (clean_expression a)) (λ v. same (Some v))) (bind (needed (run b)) value (need (run b) (clean_expression b)) (λ v. same (Some v))))
    clean_expression (expr.tuple es) = bind (evaluated_each F functions es) _ (each_clean es (clean_all es)) (λ vs. same _)
    clean_expression (expr.call name es) =
        bind (callee F name) _ (callee_clean name)
        (λ k. bind (or_stuck (tag_of k.callee es)) _ (find _)
        (λ tag. bind (evaluated_behind F functions tag es) _ (behind_clean tag es (clean_all es))
        (λ vs. bind (on_world (called functions k.callee k.name tag vs)) _ (world_run _ (call_clean k.callee k.name tag vs))
        (λ c. bind (put_back_each F.names es c.finals) _ (backs F.names es c.finals) (λ _. same c.answer)))))

    clean_all : (es : Expressions) → AllClean es
    clean_all expr.no_expressions = tt
    clean_all (expr.with_expression a es) = (clean_expression a, clean_all es)

-- what runs go on with is clean
record CleanRest (R : Rest) : Type 0 where
  calls : (name : List ℕ) (vs : List Value) → W (R.call name vs)
  again : (F : Frame) (c : Expression) (body : Statements) → C (R.again F c body)
  count : (F : Frame) (name : List ℕ) (body : Statements) (k limit : ℤ) → C (R.count F name body k limit)

module _ (F : Frame) (R : Rest) (ok : CleanRest R) where
  ev : (a : Expression) → C (evaluated F R.call a)
  ev a = clean_expression F R.call ok.calls a

  next_after : (m : Run State (Unit {0})) → C m → C (then_normal m)
  next_after m h = bind m _ h (λ _. same Normal)

  body_clean : (again : Run State Completion) → C again → (flow : Completion) → C (after_body again flow)
  body_clean again h Normal = bind (on_world take_turn) _ (world_run take_turn world_turn) (λ _. h)
  body_clean again h Continue = bind (on_world take_turn) _ (world_run take_turn world_turn) (λ _. h)
  body_clean again h Break = same Normal
  body_clean again h (Return v) = same (Return v)

  looping_clean : (t : Run State Bool) (body again : Run State Completion) → C t → C body → C again → C (looping t body again)
  looping_clean t body again ht hb ha = bind t _ ht (λ b. either_way b _ _ (bind body (after_body again) hb (body_clean again ha)) (same Normal))

  counting_clean : (name : List ℕ) (body : Run State Completion) (again : ℤ → Run State Completion) (k limit : ℤ) → C body → ((n : ℤ) → C (again n)) → C (counting F.names name body again k limit)
  counting_clean name body again k limit hb ha =
      either_way (int_lt k limit) _ _ (bind (assign_name F.names name (values.number k)) _ (set_name F.names name (values.number k)) (λ _. bind body (after_body (again (k +ℤ pos 1))) hb (body_clean (again (k +ℤ pos 1)) (ha (k +ℤ pos 1))))) (same Normal)

  on_next_clean : (m : Run State Completion) → C m → (flow : Completion) → C (on_normal m flow)
  on_next_clean m h Normal = h
  on_next_clean m h Break = same Break
  on_next_clean m h Continue = same Continue
  on_next_clean m h (Return v) = same (Return v)

  mutual
    clean_statement : (s : Statement) → C (executed F R s)
    clean_statement (stmt.assign line ts a) = bind (needed (evaluated F R.call a)) _ (need _ (ev a)) (λ v. next_after _ (set_targets F.names ts v))
    clean_statement (stmt.annotated line name ty a) = bind (needed (evaluated F R.call a)) _ (need _ (ev a)) (λ v. next_after _ (set_name F.names name v))
    clean_statement (stmt.evaluate line a) = bind (evaluated F R.call a) _ (ev a) (λ _. same Normal)
    clean_statement (stmt.return_value line None) = same (Return None)
    clean_statement (stmt.return_value line (Some a)) = bind (needed (evaluated F R.call a)) _ (need _ (ev a)) (λ v. same (Return (Some v)))
    clean_statement (stmt.if_else line c body other) = bind (truth (evaluated F R.call c)) _ (test _ (ev c)) (λ t. either_way t _ _ (clean_block body) (clean_block other))
    clean_statement (stmt.while_loop line c body) = looping_clean _ _ _ (test _ (ev c)) (clean_block body) (ok.again F c body)
    clean_statement (stmt.for_loop line name a body) =
        bind (needed (evaluated F R.call a)) _ (need _ (ev a)) (λ v. bind (or_stuck (values.number_of v)) _ (find _) (λ limit. counting_clean name _ (λ n. R.count F name body n limit) (pos 0) limit (clean_block body) (λ n. ok.count F name body n limit)))
    clean_statement (stmt.break_loop line) = same Break
    clean_statement (stmt.continue_loop line) = same Continue
    clean_statement (stmt.pass line) = same Normal

    clean_block : (ss : Statements) → C (executed_each F R ss)
    clean_block stmt.no_statements = same Normal
    clean_block (stmt.with_statement s ss) = bind (executed F R s) (on_normal (executed_each F R ss)) (clean_statement s) (on_next_clean (executed_each F R ss) (clean_block ss))

-- ---- functions

returns_clean : (names : Names) (params : List Parameter) (o : Option Value) → C (returns names params o)
returns_clean names params o = record { clean = λ s. (bind (or_stuck (finals_of names params s.variables)) _ (find _) (λ finals. same (record { answer = o; finals = finals }))).clean s }

ends_clean : (names : Names) (params : List Parameter) (completion : Completion) → C (ends_by names params completion)
ends_clean names params Normal = returns_clean names params None
ends_clean names params (Return v) = returns_clean names params v
ends_clean names params Break = stops Stuck
ends_clean names params Continue = stops Stuck

dropped : {A : Type 0} (w : World) (o : Out State A) → IsCleanBetween w (after o) → IsCleanBetween w (world_after (without_variables o))
dropped w (Returned a s) h = h
dropped w (Stopped e s) h = h

ran_clean : (known : Known) (o : Option Routine) (R : Rest) → CleanRest R → (vs : List Value) → W (ran_named known o R vs)
ran_clean known None R ok vs = stop_relates IsCleanBetween clean_step Stuck
ran_clean known (Some r) R ok vs =
    let F : Frame = record { known = known; names = r.names } in
    record {
      relates = λ w.
          let s : State = record { variables = entered r.names r.params vs; world = w } in
          dropped {A = Called} w ((executed_each F R r.body >>= ends_by r.names r.params) s)
          ((bind (executed_each F R r.body) (ends_by r.names r.params) (clean_block F R ok r.body) (ends_clean r.names r.params)).clean s);
    }

level_clean : (known : Known) (routines : Routines) (n : ℕ) → CleanRest (level known routines n)
level_clean known routines zero = record { calls = λ name vs. stop_relates IsCleanBetween clean_step TurnsUsed; again = λ F c body. stops TurnsUsed; count = λ F name body k limit. stops TurnsUsed }
level_clean known routines (suc n) =
    let ok = level_clean known routines n in
    let R = level known routines n in
    record {
      calls = λ name vs. ran_clean known (routines name) R ok vs;
      again = λ F c body. looping_clean F R ok _ _ _ (test _ (ev F R ok c)) (clean_block F R ok body) (ok.again F c body);
      count = λ F name body k limit. counting_clean F R ok name _ (λ m. R.count F name body m limit) k limit (clean_block F R ok body) (λ m. ok.count F name body m limit);
    }

pub runs_are_clean : RunsAreClean
runs_are_clean P name vs w = (ran_clean P.known (P.routines name) (level P.known P.routines w.turns) (level_clean P.known P.routines w.turns) vs).relates w
