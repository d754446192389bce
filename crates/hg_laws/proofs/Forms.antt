-- The forms of values of given types.
use Rattle.std.proofs.Common.{◌≡◌, ℕ, zero, suc, ℤ, Bool, true, false, not, List, [], ◌∷◌, Some, refl, ap, ap₂, ◌∙◌}
use Rattle.gp_base.specs.Run.{Returned}
use Rattle.gp_base.specs.World.{World}
use Rattle.hg_ops.specs.GraphType as type
use Rattle.hg_ops.specs.GraphType.{bool_type, tuple_type}
use Rattle.hg_ops.specs.Op as op
use Rattle.hg_ops.specs.Op.{Types, Extension, extension_ins, is_extension_effect}
use Rattle.hg_graph.specs.Run.{calculated, compared, compared_bools, if_truth, perform_extension}
use Rattle.hg_graph.specs.Value.{Value, Int, Qubit, Variant, Function, Values, no_values, value, values, truth, truth_of, Functions, HasType, HaveTypes}
use Rattle.hg_laws.proofs.Values.{no_row}

module _ (F : Functions) where
  pub qubit_form : (vs : List Value) → HaveTypes F vs (type.Qubit ∷ []) → (p : ℕ) × (vs ≡ Qubit p ∷ [])
  qubit_form [] h = absurd h
  qubit_form (Function n ∷ vs) h = absurd h.0
  qubit_form (Int n ∷ vs) h = absurd h.0
  qubit_form (Variant k us ∷ vs) h = absurd h.0
  qubit_form (Qubit p ∷ []) h = (p, refl)
  qubit_form (Qubit p ∷ v ∷ vs) h = absurd h.1

  pub two_qubits_form : (vs : List Value) → HaveTypes F vs (type.Qubit ∷ type.Qubit ∷ []) → (a b : ℕ) × (vs ≡ Qubit a ∷ Qubit b ∷ [])
  two_qubits_form [] h = absurd h
  two_qubits_form (Function n ∷ vs) h = absurd h.0
  two_qubits_form (Int n ∷ vs) h = absurd h.0
  two_qubits_form (Variant k us ∷ vs) h = absurd h.0
  two_qubits_form (Qubit a ∷ vs) h = let f = qubit_form vs h.1 in (a, f.0, ap (λ l. Qubit a ∷ l) f.1)

  pub three_qubits_form : (vs : List Value) → HaveTypes F vs (type.Qubit ∷ type.Qubit ∷ type.Qubit ∷ []) → (a b c : ℕ) × (vs ≡ Qubit a ∷ Qubit b ∷ Qubit c ∷ [])
  three_qubits_form [] h = absurd h
  three_qubits_form (Function n ∷ vs) h = absurd h.0
  three_qubits_form (Int n ∷ vs) h = absurd h.0
  three_qubits_form (Variant k us ∷ vs) h = absurd h.0
  three_qubits_form (Qubit a ∷ vs) h = let f = two_qubits_form vs h.1 in (a, f.0, f.1, ap (λ l. Qubit a ∷ l) f.2)

  pub int_form : (vs : List Value) → HaveTypes F vs (type.Int ∷ []) → (a : ℤ) × (vs ≡ Int a ∷ [])
  int_form [] h = absurd h
  int_form (Function n ∷ vs) h = absurd h.0
  int_form (Qubit n ∷ vs) h = absurd h.0
  int_form (Variant k us ∷ vs) h = absurd h.0
  int_form (Int a ∷ []) h = (a, refl)
  int_form (Int a ∷ v ∷ vs) h = absurd h.1

  pub two_ints_form : (vs : List Value) → HaveTypes F vs (type.Int ∷ type.Int ∷ []) → (a b : ℤ) × (vs ≡ Int a ∷ Int b ∷ [])
  two_ints_form [] h = absurd h
  two_ints_form (Function n ∷ vs) h = absurd h.0
  two_ints_form (Qubit n ∷ vs) h = absurd h.0
  two_ints_form (Variant k us ∷ vs) h = absurd h.0
  two_ints_form (Int a ∷ vs) h = let f = int_form vs h.1 in (a, f.0, ap (λ l. Int a ∷ l) f.1)

  pub angle_form : (vs : List Value) → HaveTypes F vs (type.Qubit ∷ type.Int ∷ []) → (q : ℕ) × (a : ℤ) × (vs ≡ Qubit q ∷ Int a ∷ [])
  angle_form [] h = absurd h
  angle_form (Function n ∷ vs) h = absurd h.0
  angle_form (Int n ∷ vs) h = absurd h.0
  angle_form (Variant k us ∷ vs) h = absurd h.0
  angle_form (Qubit q ∷ vs) h = let f = int_form vs h.1 in (q, f.0, ap (λ l. Qubit q ∷ l) f.1)

  truth_form : (v : Value) → HasType F v bool_type → (b : Bool) × (v ≡ truth b)
  truth_form (Int n) h = absurd h
  truth_form (Qubit q) h = absurd h
  truth_form (Function n) h = absurd h
  truth_form (Variant zero no_values) h = (false, refl)
  truth_form (Variant zero (value v vs)) h = absurd h
  truth_form (Variant (suc zero) no_values) h = (true, refl)
  truth_form (Variant (suc zero) (value v vs)) h = absurd h
  truth_form (Variant (suc (suc k)) vs) h = absurd (no_row F vs h)

  pub bool_form : (vs : List Value) → HaveTypes F vs (bool_type ∷ []) → (b : Bool) × (vs ≡ truth b ∷ [])
  bool_form [] h = absurd h
  bool_form (v ∷ []) h = let f = truth_form v h.0 in (f.0, ap (λ x. x ∷ []) f.1)
  bool_form (v ∷ u ∷ vs) h = absurd h.1

  pub two_bools_form : (vs : List Value) → HaveTypes F vs (bool_type ∷ bool_type ∷ []) → (a b : Bool) × (vs ≡ truth a ∷ truth b ∷ [])
  two_bools_form [] h = absurd h
  two_bools_form (v ∷ vs) h = let f = truth_form v h.0 in let r = bool_form vs h.1 in (f.0, r.0, ap₂ (λ x l. x ∷ l) f.1 r.1)

  pub tuple_form : (ts : Types) (vs : List Value) → HaveTypes F vs (tuple_type ts ∷ []) → (us : Values) × (vs ≡ Variant 0 us ∷ [])
  tuple_form ts [] h = absurd h
  tuple_form ts (Function n ∷ vs) h = absurd h.0
  tuple_form ts (Int n ∷ vs) h = absurd h.0
  tuple_form ts (Qubit n ∷ vs) h = absurd h.0
  tuple_form ts (Variant zero us ∷ []) h = (us, refl)
  tuple_form ts (Variant zero us ∷ v ∷ vs) h = absurd h.1
  tuple_form ts (Variant (suc k) us ∷ vs) h = absurd (no_row F us h.0)

pub truth-of : (b : Bool) → truth_of (truth b) ≡ Some b
truth-of true = refl
truth-of false = refl

-- an op without an effect gives values, and leaves the world
pub pure_extension : (F : Functions) (e : Extension) (vs : List Value) → is_extension_effect e ≡ false → HaveTypes F vs (extension_ins e) → (us : List Value) × ((w : World) → perform_extension e vs w ≡ Returned us w)
unfolding perform_extension
pure_extension F (op.Calculate which) vs x h = let f = two_ints_form F vs h in (Int (calculated which f.0 f.1) ∷ [], λ w. ap (λ us. perform_extension (op.Calculate which) us w) f.2)
pure_extension F op.Negate vs x h = let f = int_form F vs h in (Int (Rattle.gp_base.specs.Number.negated f.0) ∷ [], λ w. ap (λ us. perform_extension op.Negate us w) f.1)
pure_extension F (op.Compare which) vs x h = let f = two_ints_form F vs h in (truth (compared which f.0 f.1) ∷ [], λ w. ap (λ us. perform_extension (op.Compare which) us w) f.2)
pure_extension F op.Not vs x h = let f = bool_form F vs h in (truth (not f.0) ∷ [], λ w. ap (λ us. perform_extension op.Not us w) f.1 ∙ ap (λ o. if_truth o (λ a. Rattle.gp_base.specs.Run.ret (truth (not a) ∷ [])) w) (truth-of f.0))
pure_extension F (op.CompareBools which) vs x h =
    let f = two_bools_form F vs h in
    (truth (compared_bools which f.0 f.1) ∷ [], λ w. ap (λ us. perform_extension (op.CompareBools which) us w) f.2 ∙ ap₂ (λ o p. if_truth o (λ a. if_truth p (λ b. Rattle.gp_base.specs.Run.ret (truth (compared_bools which a b) ∷ []))) w) (truth-of f.0) (truth-of f.1))
pure_extension F (op.Unpack types) vs x h = let f = tuple_form F types vs h in (values f.0, λ w. ap (λ us. perform_extension (op.Unpack types) us w) f.1)
pure_extension F _ vs x h = absurd cc
