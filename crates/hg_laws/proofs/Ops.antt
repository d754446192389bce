-- What the op of a node changes of the world.
use Rattle.std.proofs.Common.{ℤ, pos, Bool, true, false, cond, List, [], ◌∷◌, refl}
use Rattle.gp_base.specs.Clean.{world_after}
use Rattle.gp_base.specs.declared.event.Event.TheVariants as event
use Rattle.gp_base.specs.declared.event.GateName.TheVariants as name
use Rattle.gp_base.specs.Number.{is_same}
use Rattle.gp_base.specs.Run.{Run, DivisionByZero, Stuck, ret, stop}
use Rattle.gp_base.specs.World.{World, does, allocate, free, measure, measure_free, reset, apply_gate, apply_gate_on_two, apply_gate_on_three, rotate}
use Rattle.gp_base.proofs.Steps
use Rattle.gp_base.proofs.Steps.{IsStep}
use Rattle.hg_ops.specs.Op as op
use Rattle.hg_ops.specs.Op.{Op, Extension, Division, one_qubit_name, two_qubit_name, rotation_name}
use Rattle.hg_graph.specs.Run.{nothing, divide, divided, perform_extension, perform}
use Rattle.hg_graph.specs.Value.{Value, Int, Qubit, Variant, truth, packed}
use Rattle.hg_laws.proofs.Matches.{qubit_case, two_qubits_case, three_qubits_case, angle_case, int_case, two_ints_case, bool_case, two_bools_case, tuple_case}

module _ (R : World → World → Type 0) (S : IsStep R) where
  abbrev Relates : {A : Type 0} → Run World A → Type 0
  Relates m = Steps.Relates R S m

  divide_relates : (which : Division) (a b : ℤ) → Relates (divide which a b)
  divide_relates which a b = record { relates = λ w. go w (is_same b (pos 0)) }
    where
      go : (w : World) (c : Bool) → R w (world_after (cond c (stop DivisionByZero) (ret (Int (divided which a b) ∷ [])) w))
      go w true = S.same w
      go w false = S.same w

  abbrev P : Run World (List Value) → Type 0
  P m = Relates m

  abbrev no : Relates {A = List Value} (stop Stuck)
  no = Steps.stop_relates R S Stuck

  pub extension_relates : (e : Extension) (vs : List Value) → Relates (perform_extension e vs)
  unfolding perform_extension
  extension_relates op.Alloc [] = Steps.then_relates R S allocate (λ q. ret (Qubit q ∷ [])) (Steps.allocate_relates R S) (λ q. Steps.ret_relates R S _)
  extension_relates op.Alloc (v ∷ vs) = no
  extension_relates op.Free vs = qubit_case P no vs _ (λ q. Steps.then_relates R S (free q) nothing (Steps.free_relates R S q) (λ _. Steps.ret_relates R S []))
  extension_relates op.MeasureFree vs = qubit_case P no vs _ (λ q. Steps.then_relates R S (measure_free q) (λ b. ret (truth b ∷ [])) (Steps.measure_free_relates R S q) (λ b. Steps.ret_relates R S _))
  extension_relates op.Measure vs = qubit_case P no vs _ (λ q. Steps.then_relates R S (measure q) (λ b. ret (Qubit q ∷ truth b ∷ [])) (Steps.measure_relates R S q) (λ b. Steps.ret_relates R S _))
  extension_relates op.Reset vs = qubit_case P no vs _ (λ q. Steps.then_relates R S (reset q) (λ _. ret (Qubit q ∷ [])) (Steps.does_on R S q (event.Reset q) (λ flags. refl)) (λ _. Steps.ret_relates R S _))
  extension_relates (op.Gate1 gate) vs = qubit_case P no vs _ (λ q. Steps.then_relates R S (apply_gate (one_qubit_name gate) q) (λ _. ret (Qubit q ∷ [])) (Steps.does_on R S q (event.Gate1 (one_qubit_name gate) q) (λ flags. refl)) (λ _. Steps.ret_relates R S _))
  extension_relates (op.Gate2 gate) vs = two_qubits_case P no vs _ (λ p q. Steps.then_relates R S (apply_gate_on_two (two_qubit_name gate) p q) (λ _. ret (Qubit p ∷ Qubit q ∷ [])) (Steps.two_relate R S (two_qubit_name gate) p q) (λ _. Steps.ret_relates R S _))
  extension_relates op.Toffoli vs = three_qubits_case P no vs _ (λ p q r. Steps.then_relates R S (apply_gate_on_three name.Toffoli p q r) (λ _. ret (Qubit p ∷ Qubit q ∷ Qubit r ∷ [])) (Steps.three_relate R S name.Toffoli p q r) (λ _. Steps.ret_relates R S _))
  extension_relates (op.Rotation gate) vs = angle_case P no vs _ (λ q a. Steps.then_relates R S (rotate (rotation_name gate) q a) (λ _. ret (Qubit q ∷ [])) (Steps.does_on R S q (event.Rotation (rotation_name gate) q a) (λ flags. refl)) (λ _. Steps.ret_relates R S _))
  extension_relates (op.ResultInt tag) vs = int_case P no vs _ (λ a. Steps.then_relates R S (does (event.ResultInt tag a)) nothing (record { relates = λ w. S.happens (event.ResultInt tag a) w refl }) (λ _. Steps.ret_relates R S _))
  extension_relates (op.ResultBool tag) vs = bool_case P no vs _ (λ a. Steps.then_relates R S (does (event.ResultBool tag a)) nothing (record { relates = λ w. S.happens (event.ResultBool tag a) w refl }) (λ _. Steps.ret_relates R S _))
  extension_relates (op.Calculate which) vs = two_ints_case P no vs _ (λ a b. Steps.ret_relates R S _)
  extension_relates (op.Divide which) vs = two_ints_case P no vs _ (divide_relates which)
  extension_relates op.Negate vs = int_case P no vs _ (λ a. Steps.ret_relates R S _)
  extension_relates (op.Compare which) vs = two_ints_case P no vs _ (λ a b. Steps.ret_relates R S _)
  extension_relates op.Not vs = bool_case P no vs _ (λ a. Steps.ret_relates R S _)
  extension_relates (op.CompareBools which) vs = two_bools_case P no vs _ (λ a b. Steps.ret_relates R S _)
  extension_relates (op.Unpack types) vs = tuple_case P no vs ret (λ us. Steps.ret_relates R S us)

  pub perform_relates : (kind : Op) (vs : List Value) → Relates (perform kind vs)
  unfolding perform
  perform_relates (op.Ext e) vs = extension_relates e vs
  perform_relates (op.Tag rows k) vs = Steps.ret_relates R S (Variant k (packed vs) ∷ [])
  perform_relates _ vs = Steps.stop_relates R S Stuck
