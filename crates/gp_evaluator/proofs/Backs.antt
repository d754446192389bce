-- Final values that go back one after another.
use Rattle.std.proofs.Common.{◌≡◌, ℕ, zero, suc, ◌<◌, ◌≤◌, ◌+◌, add-one, List, [], ◌∷◌, Option, Some, None, get_or, drop, length, refl, sym, ap, ◌∙◌, arith}
use Rattle.gp_base.specs.Run.{Out, Returned, go_on}
use Rattle.gp_locals.specs.Environment.{Names}
use Rattle.gp_tree.specs.Expression.{Expression, expressions_of}
use Rattle.gp_meaning.specs.State.{State}
use Rattle.gp_meaning.specs.Value.{Value}
use Rattle.gp_meaning.specs.Calls.{put_back, put_back_each}

abbrev pub backs : Names → List Expression → List (Option Value) → State → Out State (Unit {0})
backs names es finals = put_back_each names (expressions_of es) finals

pub back_some : (names : Names) (es : List Expression) (finals : List (Option Value)) (i : ℕ) (e : Expression) (v : Value) (s : State) → i < length es → i < length finals
    → e ≡ get_or es i e → Some v ≡ get_or finals i (Some v)
    → backs names (drop i es) (drop i finals) s ≡ go_on (put_back names e v s) (λ _. backs names (drop (suc i) es) (drop (suc i) finals))
back_some names [] finals i e v s h g p q = absurd (omega (arith, h))
back_some names (x ∷ es) [] i e v s h g p q = absurd (omega (arith, g))
back_some names (x ∷ es) (y ∷ finals) zero e v s h g p q =
    ap (λ o. put_back_each names (expressions_of (x ∷ es)) (o ∷ finals) s) (sym q) ∙ ap (λ z. go_on (put_back names z v s) (λ _. backs names es finals)) (sym p)
back_some names (x ∷ es) (y ∷ finals) (suc i) e v s h g p q = back_some names es finals i e v s (omega (arith, h)) (omega (arith, g)) p q

pub back_none : (names : Names) (es : List Expression) (finals : List (Option Value)) (i : ℕ) (s : State) → i < length es → i < length finals → None ≡ get_or finals i None
    → backs names (drop i es) (drop i finals) s ≡ backs names (drop (suc i) es) (drop (suc i) finals) s
back_none names [] finals i s h g q = absurd (omega (arith, h))
back_none names (x ∷ es) [] i s h g q = absurd (omega (arith, g))
back_none names (x ∷ es) (y ∷ finals) zero s h g q = ap (λ o. put_back_each names (expressions_of (x ∷ es)) (o ∷ finals) s) (sym q)
back_none names (x ∷ es) (y ∷ finals) (suc i) s h g q = back_none names es finals i s (omega (arith, h)) (omega (arith, g)) q

pub backs_out : (names : Names) (es : List Expression) (finals : List (Option Value)) (i : ℕ) (s : State) → length es ≤ i → backs names (drop i es) (drop i finals) s ≡ Returned tt s
backs_out names [] finals zero s h = refl
backs_out names [] finals (suc i) s h = refl
backs_out names (x ∷ es) finals zero s h = absurd (omega (arith, h))
backs_out names (x ∷ es) [] (suc i) s h = ends (drop i es) where
  ends : (xs : List Expression) → backs names xs [] s ≡ Returned tt s
  ends [] = refl
  ends (x ∷ xs) = refl
backs_out names (x ∷ es) (y ∷ finals) (suc i) s h = backs_out names es finals i s (omega (arith, h))

pub backs_end : (names : Names) (es : List Expression) (finals : List (Option Value)) (i : ℕ) (s : State) → length finals ≤ i → backs names (drop i es) (drop i finals) s ≡ Returned tt s
backs_end names es [] zero s h = ends es where
  ends : (xs : List Expression) → backs names xs [] s ≡ Returned tt s
  ends [] = refl
  ends (x ∷ xs) = refl
backs_end names [] [] (suc i) s h = refl
backs_end names (x ∷ es) [] (suc i) s h = ends (drop i es) where
  ends : (xs : List Expression) → backs names xs [] s ≡ Returned tt s
  ends [] = refl
  ends (x ∷ xs) = refl
backs_end names es (y ∷ finals) zero s h = absurd (omega (arith, h))
backs_end names [] (y ∷ finals) (suc i) s h = refl
backs_end names (x ∷ es) (y ∷ finals) (suc i) s h = backs_end names es finals i s (omega (arith, h))

-- at the next place
pub next_place : (names : Names) (es : List Expression) (finals : List (Option Value)) (i : ℕ) (s : State) → backs names (drop (i + 1) es) (drop (i + 1) finals) s ≡ backs names (drop (suc i) es) (drop (suc i) finals) s
next_place names es finals i s = ap (λ k. backs names (drop k es) (drop k finals) s) (add-one i)

pub out_on : (names : Names) (es : List Expression) (finals : List (Option Value)) (i : ℕ) (s : State) → length es ≤ i → backs names (drop (i + 1) es) (drop (i + 1) finals) s ≡ backs names (drop i es) (drop i finals) s
out_on names es finals i s h = backs_out names es finals (i + 1) s (omega arith) ∙ sym (backs_out names es finals i s h)
