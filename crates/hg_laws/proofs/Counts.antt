-- Qubits that go into an op come out of it, or are made or given up.
use Rattle.std.proofs.Common.{◌≡◌, ℕ, zero, suc, ◌+◌, ◌≤◌, ℤ, pos, Bool, true, false, cond, not, ◌&&◌, eqb, List, [], ◌∷◌, ◌++◌, length, refl, sym, ap, ap₂, ◌∙◌, subst, arith}
use Rattle.std.proofs.lemmas.Bool.{eq-eqb}
use Rattle.std.proofs.Math.Dec.{eqb-zero-suc, eqb-suc-zero, eqb-suc-suc}
use Rattle.gp_base.specs.Clean.{world_after}
use Rattle.gp_base.specs.declared.event.Event.TheVariants as event
use Rattle.gp_base.specs.Number.{is_same}
use Rattle.gp_base.specs.Run.{Run, Out, Returned, Stopped, TurnsUsed, OutcomesUsed, DivisionByZero, Stuck, go_on, ◌>>=◌, ret, stop}
use Rattle.gp_base.specs.World.{World, is_live, are_two_live, are_three_live, ended, did, next, outcome_of}
use Rattle.hg_ops.specs.Op as op
use Rattle.hg_ops.specs.Op.{Extension, Division, extension_ins, one_qubit_name, two_qubit_name, rotation_name}
use Rattle.hg_graph.specs.Moments.{once_if, EndsWell}
use Rattle.hg_graph.specs.Run.{nothing, divide, divided, compared_bools, if_truth, perform_extension}
use Rattle.hg_graph.specs.Value.{Value, Int, Qubit, Variant, values, truth, Functions, HaveTypes, uses, uses_all}
use Rattle.hg_laws.proofs.Values.{uses-values}
use Rattle.hg_laws.proofs.Forms.{qubit_form, two_qubits_form, three_qubits_form, angle_form, int_form, two_ints_form, bool_form, two_bools_form, tuple_form, truth-of}

abbrev pub lives : World → ℕ → ℕ
lives w q = once_if (is_live w.flags q)

-- the qubits in the values, and those that stand elsewhere, are the live ones
abbrev pub Counted : (ℕ → ℕ) → List Value → World → Type 0
Counted rest vs w = (q : ℕ) → uses_all q vs + rest q ≡ lives w q

-- ---- flags
pub live_push : (flags : List Bool) (q : ℕ) → once_if (is_live (flags ++ true ∷ []) q) ≡ once_if (eqb (length flags) q) + once_if (is_live flags q)
live_push [] zero = refl
live_push [] (suc q) = sym (ap (λ b. once_if b + 0) (eqb-zero-suc q))
live_push (f ∷ flags) zero = let z : once_if (eqb (suc (length flags)) zero) ≡ 0 = ap once_if (eqb-suc-zero (length flags)) in omega arith
live_push (f ∷ flags) (suc q) = live_push flags q ∙ sym (ap (λ b. once_if b + once_if (is_live flags q)) (eqb-suc-suc (length flags) q))

pub live_ended : (flags : List Bool) (p q : ℕ) → is_live flags p ≡ true → once_if (eqb p q) + once_if (is_live (ended flags p) q) ≡ once_if (is_live flags q)
live_ended [] p q l = absurd cc
live_ended (f ∷ flags) zero zero l = sym (ap once_if l)
live_ended (f ∷ flags) zero (suc q) l = ap (λ b. once_if b + once_if (is_live flags q)) (eqb-zero-suc q) ∙ plain (once_if (is_live flags q))
  where
    plain : (x : ℕ) → 0 + x ≡ x
    plain x = omega arith
live_ended (f ∷ flags) (suc p) zero l = ap (λ b. once_if b + once_if f) (eqb-suc-zero p) ∙ plain (once_if f)
  where
    plain : (x : ℕ) → 0 + x ≡ x
    plain x = omega arith
live_ended (f ∷ flags) (suc p) (suc q) l = ap (λ b. once_if b + once_if (is_live (ended flags p) q)) (eqb-suc-suc p q) ∙ live_ended flags p q l

pub at_most_once : (b : Bool) → once_if b ≤ 1
at_most_once true = omega arith
at_most_once false = omega arith

live_if : (b : Bool) → 1 ≤ once_if b → b ≡ true
live_if true l = refl
live_if false l = absurd (omega arith)

pub has_one : (q : ℕ) → uses q (Qubit q) ≡ 1
has_one q = ap once_if (eq-eqb q q refl)

module _ (rest : ℕ → ℕ) (w : World) where
  live_of : (q : ℕ) (vs : List Value) → Counted rest vs w → 1 ≤ uses_all q vs → is_live w.flags q ≡ true
  live_of q vs c l = live_if (is_live w.flags q) (let z = c q in omega arith)

  apart_of : (p q : ℕ) (vs : List Value) → Counted rest vs w → (eqb p q ≡ true → 2 ≤ uses_all q vs) → not (eqb p q) ≡ true
  apart_of p q vs c l = go (eqb p q) refl
    where
      two : 2 ≤ uses_all q vs → ⊥
      two h = let z = c q in let m = at_most_once (is_live w.flags q) in absurd (omega arith)

      go : (b : Bool) → eqb p q ≡ b → not (eqb p q) ≡ true
      go false e = ap not e
      go true e = absurd (two (l e))

  one_live : (p : ℕ) → Counted rest (Qubit p ∷ []) w → is_live w.flags p ≡ true
  one_live p c = live_of p (Qubit p ∷ []) c (let a = has_one p in omega arith)

  angle_live : (p : ℕ) (a : ℤ) → Counted rest (Qubit p ∷ Int a ∷ []) w → is_live w.flags p ≡ true
  angle_live p a c = live_of p (Qubit p ∷ Int a ∷ []) c (let x = has_one p in omega arith)

  same_one : (p q : ℕ) → eqb p q ≡ true → uses q (Qubit p) ≡ 1
  same_one p q e = ap once_if e

  two_live : (p q : ℕ) → Counted rest (Qubit p ∷ Qubit q ∷ []) w → are_two_live w.flags p q ≡ true
  two_live p q c =
      let vs : List Value = Qubit p ∷ Qubit q ∷ [] in
      let a = has_one p in let b = has_one q in
      ap₂ ◌&&◌ (ap₂ ◌&&◌ (live_of p vs c (omega arith)) (live_of q vs c (omega arith))) (apart_of p q vs c (λ e. let s = same_one p q e in omega arith))

  three_live : (p q r : ℕ) → Counted rest (Qubit p ∷ Qubit q ∷ Qubit r ∷ []) w → are_three_live w.flags p q r ≡ true
  three_live p q r c =
      let vs : List Value = Qubit p ∷ Qubit q ∷ Qubit r ∷ [] in
      let a = has_one p in let b = has_one q in let d = has_one r in
      ap₂ ◌&&◌ (ap₂ ◌&&◌ (ap₂ ◌&&◌ (ap₂ ◌&&◌ (ap₂ ◌&&◌ (live_of p vs c (omega arith)) (live_of q vs c (omega arith))) (live_of r vs c (omega arith))) (apart_of p q vs c (λ e. let s = same_one p q e in omega arith))) (apart_of p r vs c (λ e. let s = same_one p r e in omega arith))) (apart_of q r vs c (λ e. let s = same_one q r e in omega arith))

  abbrev Keeps : Out World (List Value) → Type 0
  Keeps o = EndsWell (Counted rest) o

  -- where the test of an op holds
  passes : (b : Bool) (o : Out World (Unit {0})) (k : Unit {0} → Run World (List Value)) → b ≡ true → Keeps (go_on o k) → Keeps (go_on (cond b o (Stopped Stuck w)) k)
  passes b o k e h = subst (λ x. Keeps (go_on (cond x o (Stopped Stuck w)) k)) (sym e) h

  passes_bool : (b : Bool) (o : Out World Bool) (k : Bool → Run World (List Value)) → b ≡ true → Keeps (go_on o k) → Keeps (go_on (cond b o (Stopped Stuck w)) k)
  passes_bool b o k e h = subst (λ x. Keeps (go_on (cond x o (Stopped Stuck w)) k)) (sym e) h

  ends : (p : ℕ) → Counted rest (Qubit p ∷ []) w → (q : ℕ) → 0 + rest q ≡ once_if (is_live (ended w.flags p) q)
  ends p c q = let z = c q in let e = live_ended w.flags p q (one_live p c) in omega arith

  measured : (p : ℕ) → Counted rest (Qubit p ∷ []) w → (outcomes : List Bool) → Keeps (go_on (outcome_of outcomes (λ outcome v. Returned outcome (did (event.Measure p outcome) v)) w) (λ b. ret (Qubit p ∷ truth b ∷ [])))
  measured p c [] = tt
  measured p c (b ∷ outcomes) = λ q. let z = c q in omega arith

  measured_free : (p : ℕ) → Counted rest (Qubit p ∷ []) w → (outcomes : List Bool) → Keeps (go_on (outcome_of outcomes (λ outcome v. Returned outcome (did (event.MeasureFree p outcome) (record v { flags = ended v.flags p }))) w) (λ b. ret (truth b ∷ [])))
  measured_free p c [] = tt
  measured_free p c (b ∷ outcomes) = λ q. let z = ends p c q in omega arith

  divides : (which : Division) (a b : ℤ) → Counted rest (Int a ∷ Int b ∷ []) w → Keeps (divide which a b w)
  divides which a b c = go (is_same b (pos 0))
    where
      go : (x : Bool) → Keeps (cond x (stop DivisionByZero) (ret (Int (divided which a b) ∷ [])) w)
      go true = tt
      go false = λ q. let z = c q in omega arith

  module _ (F : Functions) where
    -- values of the form that the op takes
    formed : (e : Extension) (vs us : List Value) → vs ≡ us → Counted rest vs w → (Counted rest us w → Keeps (perform_extension e us w)) → Keeps (perform_extension e vs w)
    formed e vs us q c h = subst (λ x. Keeps (perform_extension e x w)) (sym q) (h (subst (λ x. Counted rest x w) q c))

    truth_keeps : (b : Bool) (k : Bool → List Value) → Keeps (ret (k b) w) → Keeps (if_truth (Rattle.hg_graph.specs.Value.truth_of (truth b)) (λ a. ret (k a)) w)
    truth_keeps b k h = subst (λ o. Keeps (if_truth o (λ a. ret (k a)) w)) (sym (truth-of b)) h

    pub extension_keeps : (e : Extension) (vs : List Value) → HaveTypes F vs (extension_ins e) → Counted rest vs w → Keeps (perform_extension e vs w)
    unfolding perform_extension
    extension_keeps op.Alloc [] h c = λ q. let z = c q in let e = live_push w.flags q in omega arith
    extension_keeps op.Alloc (v ∷ vs) h c = absurd h
    extension_keeps op.Free vs h c = let f = qubit_form F vs h in
        formed op.Free vs _ f.1 c (λ d. passes (is_live w.flags f.0) _ nothing (one_live f.0 d) (ends f.0 d))
    extension_keeps op.MeasureFree vs h c = let f = qubit_form F vs h in
        formed op.MeasureFree vs _ f.1 c (λ d. passes_bool (is_live w.flags f.0) _ _ (one_live f.0 d) (measured_free f.0 d w.outcomes))
    extension_keeps op.Measure vs h c = let f = qubit_form F vs h in
        formed op.Measure vs _ f.1 c (λ d. passes_bool (is_live w.flags f.0) _ _ (one_live f.0 d) (measured f.0 d w.outcomes))
    extension_keeps op.Reset vs h c = let f = qubit_form F vs h in
        formed op.Reset vs _ f.1 c (λ d. passes (is_live w.flags f.0) _ (λ _. ret (Qubit f.0 ∷ [])) (one_live f.0 d) d)
    extension_keeps (op.Gate1 gate) vs h c = let f = qubit_form F vs h in
        formed (op.Gate1 gate) vs _ f.1 c (λ d. passes (is_live w.flags f.0) _ (λ _. ret (Qubit f.0 ∷ [])) (one_live f.0 d) d)
    extension_keeps (op.Gate2 gate) vs h c = let f = two_qubits_form F vs h in
        formed (op.Gate2 gate) vs _ f.2 c (λ d. passes (are_two_live w.flags f.0 f.1) _ (λ _. ret (Qubit f.0 ∷ Qubit f.1 ∷ [])) (two_live f.0 f.1 d) d)
    extension_keeps op.Toffoli vs h c = let f = three_qubits_form F vs h in
        formed op.Toffoli vs _ f.3 c (λ d. passes (are_three_live w.flags f.0 f.1 f.2) _ (λ _. ret (Qubit f.0 ∷ Qubit f.1 ∷ Qubit f.2 ∷ [])) (three_live f.0 f.1 f.2 d) d)
    extension_keeps (op.Rotation gate) vs h c = let f = angle_form F vs h in
        formed (op.Rotation gate) vs _ f.2 c (λ d. passes (is_live w.flags f.0) _ (λ _. ret (Qubit f.0 ∷ [])) (angle_live f.0 f.1 d) (λ q. let z = d q in omega arith))
    extension_keeps (op.ResultInt tag) vs h c = let f = int_form F vs h in formed (op.ResultInt tag) vs _ f.1 c (λ d q. let z = d q in omega arith)
    extension_keeps (op.ResultBool tag) vs h c = let f = bool_form F vs h in
        formed (op.ResultBool tag) vs _ f.1 c (λ d. subst (λ o. Keeps (if_truth o (λ b. Rattle.gp_base.specs.World.does (event.ResultBool tag b) >>= nothing) w)) (sym (truth-of f.0)) (λ q. let z = d q in omega arith))
    extension_keeps (op.Calculate which) vs h c = let f = two_ints_form F vs h in formed (op.Calculate which) vs _ f.2 c (λ d q. let z = d q in omega arith)
    extension_keeps (op.Divide which) vs h c = let f = two_ints_form F vs h in formed (op.Divide which) vs _ f.2 c (divides which f.0 f.1)
    extension_keeps op.Negate vs h c = let f = int_form F vs h in formed op.Negate vs _ f.1 c (λ d q. let z = d q in omega arith)
    extension_keeps (op.Compare which) vs h c = let f = two_ints_form F vs h in formed (op.Compare which) vs _ f.2 c (λ d q. let z = d q in omega arith)
    extension_keeps op.Not vs h c = let f = bool_form F vs h in
        formed op.Not vs _ f.1 c (λ d. truth_keeps f.0 (λ a. truth (not a) ∷ []) (λ q. let z = d q in omega arith))
    extension_keeps (op.CompareBools which) vs h c = let f = two_bools_form F vs h in
        formed (op.CompareBools which) vs _ f.2 c (λ d. subst (λ o. Keeps (if_truth o (λ a. if_truth (Rattle.hg_graph.specs.Value.truth_of (truth f.1)) (λ b. ret (truth (compared_bools which a b) ∷ []))) w)) (sym (truth-of f.0)) (truth_keeps f.1 (λ b. truth (compared_bools which f.0 b) ∷ []) (λ q. let z = d q in omega arith)))
    extension_keeps (op.Unpack types) vs h c = let f = tuple_form F types vs h in formed (op.Unpack types) vs _ f.1 c (λ d q. let z = d q in let u = uses-values q f.0 in omega arith)

-- what ends well ends so in a related world
pub ends_in : {A : Type 0} (Q : A → World → Type 0) (R : World → Type 0) (o : Out World A) → EndsWell Q o → R (world_after o) → EndsWell (λ a v. Q a v × R v) o
ends_in Q R (Returned a w) h r = (h, r)
ends_in Q R (Stopped TurnsUsed w) h r = tt
ends_in Q R (Stopped OutcomesUsed w) h r = tt
ends_in Q R (Stopped DivisionByZero w) h r = tt
ends_in Q R (Stopped Stuck w) h r = h
