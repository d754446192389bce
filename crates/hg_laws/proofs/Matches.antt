-- What holds of an op's run for values of the kinds that it takes, and for a stuck one, holds for all values.
use Rattle.std.proofs.Common.{ℕ, zero, ℤ, Bool, List, [], ◌∷◌, Option, Some, None}
use Rattle.gp_base.specs.Run.{Run, Stuck, stop}
use Rattle.gp_base.specs.World.{World}
use Rattle.hg_graph.specs.Run.{with_qubit, with_two_qubits, with_three_qubits, with_angle, with_int, with_two_ints, if_truth, with_bool, with_two_bools, with_tuple}
use Rattle.hg_graph.specs.Value.{Value, Int, Qubit, Variant, values, truth_of}

module _ (P : Run World (List Value) → Type 0) (stuck : P (stop Stuck)) where
  pub qubit_case : (vs : List Value) (k : ℕ → Run World (List Value)) → ((q : ℕ) → P (k q)) → P (with_qubit vs k)
  qubit_case (Qubit q ∷ []) k h = h q
  qubit_case _ k h = stuck

  pub two_qubits_case : (vs : List Value) (k : ℕ → ℕ → Run World (List Value)) → ((p q : ℕ) → P (k p q)) → P (with_two_qubits vs k)
  two_qubits_case (Qubit p ∷ Qubit q ∷ []) k h = h p q
  two_qubits_case _ k h = stuck

  pub three_qubits_case : (vs : List Value) (k : ℕ → ℕ → ℕ → Run World (List Value)) → ((p q r : ℕ) → P (k p q r)) → P (with_three_qubits vs k)
  three_qubits_case (Qubit p ∷ Qubit q ∷ Qubit r ∷ []) k h = h p q r
  three_qubits_case _ k h = stuck

  pub angle_case : (vs : List Value) (k : ℕ → ℤ → Run World (List Value)) → ((q : ℕ) (a : ℤ) → P (k q a)) → P (with_angle vs k)
  angle_case (Qubit q ∷ Int a ∷ []) k h = h q a
  angle_case _ k h = stuck

  pub int_case : (vs : List Value) (k : ℤ → Run World (List Value)) → ((a : ℤ) → P (k a)) → P (with_int vs k)
  int_case (Int a ∷ []) k h = h a
  int_case _ k h = stuck

  pub two_ints_case : (vs : List Value) (k : ℤ → ℤ → Run World (List Value)) → ((a b : ℤ) → P (k a b)) → P (with_two_ints vs k)
  two_ints_case (Int a ∷ Int b ∷ []) k h = h a b
  two_ints_case _ k h = stuck

  pub truth_case : (o : Option Bool) (k : Bool → Run World (List Value)) → ((b : Bool) → P (k b)) → P (if_truth o k)
  truth_case None k h = stuck
  truth_case (Some b) k h = h b

  pub bool_case : (vs : List Value) (k : Bool → Run World (List Value)) → ((b : Bool) → P (k b)) → P (with_bool vs k)
  bool_case (v ∷ []) k h = truth_case (truth_of v) k h
  bool_case _ k h = stuck

  pub two_bools_case : (vs : List Value) (k : Bool → Bool → Run World (List Value)) → ((a b : Bool) → P (k a b)) → P (with_two_bools vs k)
  two_bools_case (u ∷ v ∷ []) k h = truth_case (truth_of u) _ (λ a. truth_case (truth_of v) (k a) (h a))
  two_bools_case _ k h = stuck

  pub tuple_case : (vs : List Value) (k : List Value → Run World (List Value)) → ((us : List Value) → P (k us)) → P (with_tuple vs k)
  tuple_case (Variant zero us ∷ []) k h = h (values us)
  tuple_case _ k h = stuck
