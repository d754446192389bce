-- What ops without a region do, by shape.
use Rattle.std.specs.Prelude.{ℕ, ℤ, Bool, List, [], ◌∷◌, Result, IfOk}
use Rattle.gp_base.specs.declared.event.Event.TheVariants as event
use Rattle.gp_base.specs.declared.event.GateName.{GateName}
use Rattle.gp_base.specs.Run.{Run, Returned, ◌>>=◌, ret}
use Rattle.gp_base.specs.World.{World, does, did, ended, with_outcome, apply_gate, apply_gate_on_two, apply_gate_on_three, rotate, reset, free, measure, measure_free}
use Rattle.hg_graph.specs.Run.{with_qubit, with_two_qubits, with_three_qubits, with_angle, with_int, with_two_ints, with_bool, with_two_bools, with_tuple, nothing, divide}
use Rattle.hg_graph.specs.Value.{Value, Int, Qubit, Variant, packed, truth}
use Rattle.hg_ops.specs.Op.{Division}
use Rattle.hg_run.specs.declared.state.Done.{Done}
use Rattle.hg_run.specs.declared.state.Machine.{Machine}
use Rattle.hg_run.specs.code.Stepped.{Does}

-- the op was done, if there was memory for it, and left the machine as it is
abbrev pub DoesStill : {E : Type 0} → Run World (List Value) → Machine → Result Done E → Type 0
DoesStill run m result = IfOk result (λ how. Does run m how m)

-- a gate on one qubit, on two, on three, and with an angle
abbrev pub gate_run : GateName → List Value → Run World (List Value)
gate_run name vs = with_qubit vs (λ q. apply_gate name q >>= (λ _. ret (Qubit q ∷ [])))

abbrev pub two_run : GateName → List Value → Run World (List Value)
two_run name vs = with_two_qubits vs (λ p q. apply_gate_on_two name p q >>= (λ _. ret (Qubit p ∷ Qubit q ∷ [])))

abbrev pub three_run : GateName → List Value → Run World (List Value)
three_run name vs = with_three_qubits vs (λ p q r. apply_gate_on_three name p q r >>= (λ _. ret (Qubit p ∷ Qubit q ∷ Qubit r ∷ [])))

abbrev pub rotation_run : GateName → List Value → Run World (List Value)
rotation_run name vs = with_angle vs (λ q a. rotate name q a >>= (λ _. ret (Qubit q ∷ [])))

-- other ops on a qubit
abbrev pub reset_run : List Value → Run World (List Value)
reset_run vs = with_qubit vs (λ q. reset q >>= (λ _. ret (Qubit q ∷ [])))

abbrev pub free_run : List Value → Run World (List Value)
free_run vs = with_qubit vs (λ q. free q >>= nothing)

abbrev pub measure_run : List Value → Run World (List Value)
measure_run vs = with_qubit vs (λ q. measure q >>= (λ b. ret (Qubit q ∷ truth b ∷ [])))

abbrev pub measure_free_run : List Value → Run World (List Value)
measure_free_run vs = with_qubit vs (λ q. measure_free q >>= (λ b. ret (truth b ∷ [])))

-- a live qubit takes an outcome, and the second ends it
abbrev pub outcome_run : ℕ → Run World (List Value)
outcome_run q = with_outcome (λ outcome w. Returned (Qubit q ∷ truth outcome ∷ []) (did (event.Measure q outcome) w))

abbrev pub last_outcome_run : ℕ → Run World (List Value)
last_outcome_run q = with_outcome (λ outcome w. Returned (truth outcome ∷ []) (did (event.MeasureFree q outcome) (record w { flags = ended w.flags q })))

-- results
abbrev pub int_result_run : (tag : List ℕ) → List Value → Run World (List Value)
int_result_run tag vs = with_int vs (λ a. does (event.ResultInt tag a) >>= nothing)

abbrev pub bool_result_run : (tag : List ℕ) → List Value → Run World (List Value)
bool_result_run tag vs = with_bool vs (λ b. does (event.ResultBool tag b) >>= nothing)

-- a number is made of two, by division, and of one
abbrev pub calculation_run : (ℤ → ℤ → ℤ) → List Value → Run World (List Value)
calculation_run f vs = with_two_ints vs (λ a b. ret (Int (f a b) ∷ []))

abbrev pub division_run : Division → List Value → Run World (List Value)
division_run which vs = with_two_ints vs (divide which)

abbrev pub negation_run : (ℤ → ℤ) → List Value → Run World (List Value)
negation_run f vs = with_int vs (λ a. ret (Int (f a) ∷ []))

-- a truth value is made of two numbers, of one truth value and of two
abbrev pub comparison_run : (ℤ → ℤ → Bool) → List Value → Run World (List Value)
comparison_run f vs = with_two_ints vs (λ a b. ret (truth (f a b) ∷ []))

abbrev pub not_run : (Bool → Bool) → List Value → Run World (List Value)
not_run f vs = with_bool vs (λ a. ret (truth (f a) ∷ []))

abbrev pub bool_run : (Bool → Bool → Bool) → List Value → Run World (List Value)
bool_run f vs = with_two_bools vs (λ a b. ret (truth (f a b) ∷ []))

-- a variant is made, and the values of one that is a tuple are given
abbrev pub tag_run : ℕ → List Value → Run World (List Value)
tag_run k vs = ret (Variant k (packed vs) ∷ [])

abbrev pub unpack_run : List Value → Run World (List Value)
unpack_run vs = with_tuple vs ret
