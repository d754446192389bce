-- Expressions under functions that agree.
use Rattle.std.proofs.Common.{◌≡◌, ℕ, ◌<◌, List, [], ◌∷◌, Option, Some, None, Ok, Err, arith}
use Rattle.gp_base.specs.declared.event.GateName.TheVariants as gate
use Rattle.gp_base.specs.Run.{Run, Stuck, or_stuck}
use Rattle.gp_base.specs.World.{World, allocate, free, measure, measure_free, reset, apply_gate, apply_gate_on_two, apply_gate_on_three, rotate}
use Rattle.gp_locals.specs.Callee.{Callee, Function, Made, BuiltIn}
use Rattle.gp_locals.specs.Environment.{Names}
use Rattle.gp_tree.specs.Expression as expr
use Rattle.gp_tree.specs.Expression.{Expression, Expressions, no_expressions, with_expression}
use Rattle.gp_tree.specs.declared.place.Place.{Place}
use Rattle.gp_types.specs.declared.builtins.Builtin.{Builtin}
use Rattle.gp_types.specs.declared.builtins.Builtin.TheVariants as built_in
use Rattle.gp_meaning.specs.Value.{Value, number, boolean, qubit, boolean_of}
use Rattle.gp_meaning.specs.State.{State, on_world, placed, variable, value_at, assign_name, assign_place}
use Rattle.gp_meaning.specs.Operators.{Operated, operated, minus_of, or_stop}
use Rattle.gp_meaning.specs.Calls.{Functions, gives, performed, reported, qubit_at, number_at, resolved, called, tag_of, put_back, put_back_each}
use Rattle.gp_meaning.specs.Meaning.{Frame, value, needed, truth, looked_up, callee, evaluated, evaluated_each, evaluated_behind}
use Rattle.gp_meaning.proofs.Levels.{Agree, agree_bind, agree_kept, agree_ret, agree_stop, agree_found, agree_if, turns, turns_left, Falls, bind_falls, found_falls, free_falls, measure_falls, measure_free_falls, reset_falls, gate_falls, gate_on_two_falls, gate_on_three_falls, rotate_falls, turn_then, agree_on_world}

-- functions that are the same where fewer turns are left, and never gain one
pub record AgreeFunctions (t : ℕ) (f f' : Functions) : Type 0 where
  pub falls : (name : List ℕ) (vs : List Value) → Falls (f name vs)
  pub same : (name : List ℕ) (vs : List Value) (w : World) → w.turns < t → f name vs w ≡ f' name vs w

reported_falls : (tag : Option (List ℕ)) (v : Option Value) → Falls (reported tag v)
reported_falls (Some tag) (Some (number n)) w = omega arith
reported_falls (Some tag) (Some (boolean b)) w = omega arith
reported_falls _ _ w = omega arith

performed_falls : (b : Builtin) (tag : Option (List ℕ)) (vs : List Value) → Falls (performed b tag vs)
performed_falls built_in.Qubit tag vs = bind_falls allocate (λ q. gives (Some (qubit q)) []) (λ w. omega arith) (λ q w. omega arith)
performed_falls built_in.Discard tag vs = bind_falls (or_stuck (qubit_at vs 0)) _ (found_falls _) (λ q. bind_falls (free q) _ (free_falls q) (λ _ w. omega arith))
performed_falls built_in.Measure tag vs = bind_falls (or_stuck (qubit_at vs 0)) _ (found_falls _) (λ q. bind_falls (measure_free q) _ (measure_free_falls q) (λ b w. omega arith))
performed_falls built_in.ProjectZ tag vs = bind_falls (or_stuck (qubit_at vs 0)) _ (found_falls _) (λ q. bind_falls (measure q) _ (measure_falls q) (λ b w. omega arith))
performed_falls built_in.Reset tag vs = bind_falls (or_stuck (qubit_at vs 0)) _ (found_falls _) (λ q. bind_falls (reset q) _ (reset_falls q) (λ _ w. omega arith))
performed_falls (built_in.OneQubitGate g) tag vs = bind_falls (or_stuck (qubit_at vs 0)) _ (found_falls _) (λ q. bind_falls (apply_gate g q) _ (gate_falls g q) (λ _ w. omega arith))
performed_falls (built_in.TwoQubitGate g) tag vs =
    bind_falls (or_stuck (qubit_at vs 0)) _ (found_falls _)
    (λ p. bind_falls (or_stuck (qubit_at vs 1)) _ (found_falls _) (λ q. bind_falls (apply_gate_on_two g p q) _ (gate_on_two_falls g p q) (λ _ w. omega arith)))
performed_falls built_in.Toffoli tag vs =
    bind_falls (or_stuck (qubit_at vs 0)) _ (found_falls _)
    (λ p. bind_falls (or_stuck (qubit_at vs 1)) _ (found_falls _)
    (λ q. bind_falls (or_stuck (qubit_at vs 2)) _ (found_falls _) (λ r. bind_falls (apply_gate_on_three gate.Toffoli p q r) _ (gate_on_three_falls gate.Toffoli p q r) (λ _ w. omega arith))))
performed_falls (built_in.Rotation g) tag vs =
    bind_falls (or_stuck (qubit_at vs 0)) _ (found_falls _) (λ q. bind_falls (or_stuck (number_at vs 1)) _ (found_falls _) (λ a. bind_falls (rotate g q a) _ (rotate_falls g q a) (λ _ w. omega arith)))
performed_falls built_in.Result tag vs = reported_falls tag _

pub called_agree : (t : ℕ) (f f' : Functions) → AgreeFunctions t f f' → (callee : Callee) (name : List ℕ) (tag : Option (List ℕ)) (vs : List Value)
    → Agree turns t (called f callee name tag vs) (called f' callee name tag vs)
called_agree t f f' A (Function ps r) name tag vs = turn_then t (f name vs) (f' name vs) (A.falls name vs) (A.same name vs)
called_agree t f f' A (Made ty) name tag vs = agree_ret turns t _
called_agree t f f' A (BuiltIn b) name tag vs = agree_kept turns t (performed b tag vs) (performed_falls b tag vs)

pub name_agree : (t : ℕ) (names : Names) (name : List ℕ) (v : Value) → Agree turns_left t (assign_name names name v) (assign_name names name v)
name_agree t names name v = agree_kept turns_left t (assign_name names name v) (λ s. omega arith)

pub place_agree : (t : ℕ) (names : Names) (p : Place) (v : Value) → Agree turns_left t (assign_place names p v) (assign_place names p v)
place_agree t names p v =
    agree_kept turns_left t (assign_place names p v)
    (λ s. let o = placed (variable names s.variables p.name) p.fields v in (agree_bind turns_left t (or_stuck o) (or_stuck o) _ _ (agree_found turns_left t o) (λ x. name_agree t names p.name x)).falls s)

back_agree : (t : ℕ) (names : Names) (e : Expression) (v : Value) → Agree turns_left t (put_back names e v) (put_back names e v)
back_agree t names (expr.place p) v = place_agree t names p v
back_agree t names _ v = agree_ret turns_left t tt

backs_agree : (t : ℕ) (names : Names) (es : Expressions) (finals : List (Option Value)) → Agree turns_left t (put_back_each names es finals) (put_back_each names es finals)
backs_agree t names (with_expression e es) (Some v ∷ finals) =
    agree_bind turns_left t (put_back names e v) (put_back names e v) _ _ (back_agree t names e v) (λ _. backs_agree t names es finals)
backs_agree t names (with_expression e es) (None ∷ finals) = backs_agree t names es finals
backs_agree t names (with_expression e es) [] = agree_ret turns_left t tt
backs_agree t names no_expressions finals = agree_ret turns_left t tt

module _ (t : ℕ) (F : Frame) (f f' : Functions) (A : AgreeFunctions t f f') where
  pub value_agree : (v : Value) → Agree turns_left t (value v) (value v)
  value_agree v = agree_ret turns_left t (Some v)

  pub needed_agree : (m m' : Run State (Option Value)) → Agree turns_left t m m' → Agree turns_left t (needed m) (needed m')
  needed_agree m m' G = agree_bind turns_left t m m' or_stuck or_stuck G (λ o. agree_found turns_left t o)

  pub truth_agree : (m m' : Run State (Option Value)) → Agree turns_left t m m' → Agree turns_left t (truth m) (truth m')
  truth_agree m m' G = agree_bind turns_left t (needed m) (needed m') _ _ (needed_agree m m' G) (λ v. agree_found turns_left t (boolean_of v))

  answered_agree : (a : Operated) → Agree turns_left t (or_stop a) (or_stop a)
  answered_agree (Ok v) = agree_ret turns_left t v
  answered_agree (Err e) = agree_stop turns_left t e

  read_agree : (o : Option Value) → Agree turns_left t (looked_up o) (looked_up o)
  read_agree o = agree_bind turns_left t (or_stuck o) (or_stuck o) _ _ (agree_found turns_left t o) (λ v. value_agree v)

  callee_agree : (name : List ℕ) → Agree turns_left t (callee F name) (callee F name)
  callee_agree name = agree_kept turns_left t (callee F name) (λ s. (agree_found turns_left t (resolved F.known F.names s.variables name)).falls s)

  mutual
    pub evaluated_agree : (e : Expression) → Agree turns_left t (evaluated F f e) (evaluated F f' e)
    evaluated_agree (expr.number n) = value_agree (number n)
    evaluated_agree (expr.boolean b) = value_agree (boolean b)
    evaluated_agree (expr.text w) = agree_stop turns_left t Stuck
    evaluated_agree (expr.place p) = agree_kept turns_left t (evaluated F f (expr.place p)) (λ s. (read_agree (value_at F.known F.names s.variables p)).falls s)
    evaluated_agree (expr.minus a) =
        agree_bind turns_left t (needed (evaluated F f a)) (needed (evaluated F f' a)) _ _ (needed_agree _ _ (evaluated_agree a))
        (λ x. agree_bind turns_left t (or_stuck (minus_of x)) (or_stuck (minus_of x)) _ _ (agree_found turns_left t (minus_of x)) value_agree)
    evaluated_agree (expr.negation a) =
        agree_bind turns_left t (truth (evaluated F f a)) (truth (evaluated F f' a)) _ _ (truth_agree _ _ (evaluated_agree a)) (λ b. value_agree _)
    evaluated_agree (expr.binary o a b) =
        agree_bind turns_left t (needed (evaluated F f a)) (needed (evaluated F f' a)) _ _ (needed_agree _ _ (evaluated_agree a))
        (λ x. agree_bind turns_left t (needed (evaluated F f b)) (needed (evaluated F f' b)) _ _ (needed_agree _ _ (evaluated_agree b))
        (λ y. agree_bind turns_left t (or_stop (operated o x y)) (or_stop (operated o x y)) _ _ (answered_agree (operated o x y)) value_agree))
    evaluated_agree (expr.both a b) =
        agree_bind turns_left t (truth (evaluated F f a)) (truth (evaluated F f' a)) _ _ (truth_agree _ _ (evaluated_agree a))
        (λ x. agree_if turns_left t x _ _ _ _
        (agree_bind turns_left t (truth (evaluated F f b)) (truth (evaluated F f' b)) _ _ (truth_agree _ _ (evaluated_agree b)) (λ y. value_agree _)) (value_agree _))
    evaluated_agree (expr.either a b) =
        agree_bind turns_left t (truth (evaluated F f a)) (truth (evaluated F f' a)) _ _ (truth_agree _ _ (evaluated_agree a))
        (λ x. agree_if turns_left t x _ _ _ _
        (value_agree _) (agree_bind turns_left t (truth (evaluated F f b)) (truth (evaluated F f' b)) _ _ (truth_agree _ _ (evaluated_agree b)) (λ y. value_agree _)))
    evaluated_agree (expr.choice c a b) =
        agree_bind turns_left t (truth (evaluated F f c)) (truth (evaluated F f' c)) _ _ (truth_agree _ _ (evaluated_agree c))
        (λ x. agree_if turns_left t x _ _ _ _
        (agree_bind turns_left t (needed (evaluated F f a)) (needed (evaluated F f' a)) _ _ (needed_agree _ _ (evaluated_agree a)) value_agree)
        (agree_bind turns_left t (needed (evaluated F f b)) (needed (evaluated F f' b)) _ _ (needed_agree _ _ (evaluated_agree b)) value_agree))
    evaluated_agree (expr.tuple es) =
        agree_bind turns_left t (evaluated_each F f es) (evaluated_each F f' es) _ _ (each_agree es) (λ vs. value_agree _)
    evaluated_agree (expr.call name es) =
        agree_bind turns_left t (callee F name) (callee F name) _ _ (callee_agree name)
        (λ k. agree_bind turns_left t (or_stuck (tag_of k.callee es)) (or_stuck (tag_of k.callee es)) _ _ (agree_found turns_left t _)
        (λ tag. agree_bind turns_left t (evaluated_behind F f tag es) (evaluated_behind F f' tag es) _ _ (behind_agree tag es)
        (λ vs. agree_bind turns_left t (on_world (called f k.callee k.name tag vs)) (on_world (called f' k.callee k.name tag vs)) _ _ (agree_on_world t _ _ (called_agree t f f' A k.callee k.name tag vs))
        (λ c. agree_bind turns_left t (put_back_each F.names es c.finals) (put_back_each F.names es c.finals) _ _ (backs_agree t F.names es c.finals)
        (λ _. agree_ret turns_left t c.answer)))))

    pub each_agree : (es : Expressions) → Agree turns_left t (evaluated_each F f es) (evaluated_each F f' es)
    each_agree no_expressions = agree_ret turns_left t []
    each_agree (with_expression e es) =
        agree_bind turns_left t (needed (evaluated F f e)) (needed (evaluated F f' e)) _ _ (needed_agree _ _ (evaluated_agree e))
        (λ v. agree_bind turns_left t (evaluated_each F f es) (evaluated_each F f' es) _ _ (each_agree es) (λ vs. agree_ret turns_left t (v ∷ vs)))

    pub behind_agree : (tag : Option (List ℕ)) (es : Expressions) → Agree turns_left t (evaluated_behind F f tag es) (evaluated_behind F f' tag es)
    behind_agree (Some w) (with_expression e es) = each_agree es
    behind_agree (Some w) no_expressions = agree_ret turns_left t []
    behind_agree None no_expressions = agree_ret turns_left t []
    behind_agree None (with_expression e es) =
        agree_bind turns_left t (needed (evaluated F f e)) (needed (evaluated F f' e)) _ _ (needed_agree _ _ (evaluated_agree e))
        (λ v. agree_bind turns_left t (evaluated_each F f es) (evaluated_each F f' es) _ _ (each_agree es) (λ vs. agree_ret turns_left t (v ∷ vs)))
