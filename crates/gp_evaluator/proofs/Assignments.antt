-- Assignments one after another.
use Rattle.std.proofs.Common.{◌≡◌, ℕ, zero, suc, ◌<◌, ◌≤◌, ◌+◌, add-one, List, [], ◌∷◌, get_or, drop, length, refl, sym, ap, ◌∙◌, if◌then◌else◌, arith}
use Rattle.std.proofs.lemmas.Bool.{eq-eqb}
use Rattle.gp_base.specs.Run.{Returned, Stopped, Stop, Stuck, stop, go_on}
use Rattle.gp_locals.specs.Environment.{Names}
use Rattle.gp_tree.specs.declared.place.Place.{Place}
use Rattle.gp_meaning.specs.State.{State, assign_place, assign_each, assign_parts}
use Rattle.gp_meaning.specs.Value.{Value, values_of, listed}

pub listed_of : (vs : List Value) → listed (values_of vs) ≡ vs
listed_of [] = refl
listed_of (v ∷ vs) = ap (λ xs. v ∷ xs) (listed_of vs)

each_step : (names : Names) (places : List Place) (vs : List Value) (i : ℕ) (p : Place) (v : Value) (s : State) → i < length places → length places ≡ length vs
    → p ≡ get_or places i p → v ≡ get_or vs i v
    → assign_each names (drop i places) (drop i vs) s ≡ go_on (assign_place names p v s) (λ _. assign_each names (drop (suc i) places) (drop (suc i) vs))
each_step names [] vs i p v s h l e f = absurd (omega (arith, h))
each_step names (q ∷ places) [] i p v s h l e f = absurd (omega (arith, l))
each_step names (q ∷ places) (u ∷ vs) zero p v s h l e f =
    ap (λ x. go_on (assign_place names x u s) (λ _. assign_each names places vs)) (sym e) ∙ ap (λ x. go_on (assign_place names p x s) (λ _. assign_each names places vs)) (sym f)
each_step names (q ∷ places) (u ∷ vs) (suc i) p v s h l e f = each_step names places vs i p v s (omega (arith, h)) (omega (arith, l)) e f

module _ (names : Names) (places : List Place) (vs : List Value) (i : ℕ) (p : Place) (v : Value) (s : State) (h : i < length places) (l : length places ≡ length vs)
    (e : p ≡ get_or places i p) (f : v ≡ get_or vs i v) where
  pub each_on : (t : State) → assign_place names p v s ≡ Returned tt t → assign_each names (drop (i + 1) places) (drop (i + 1) vs) t ≡ assign_each names (drop i places) (drop i vs) s
  each_on t g =
      ap (λ k. assign_each names (drop k places) (drop k vs) t) (add-one i)
      ∙ sym (each_step names places vs i p v s h l e f ∙ ap (λ o. go_on o (λ _. assign_each names (drop (suc i) places) (drop (suc i) vs))) g)

  pub each_stops : (why : Stop) (t : State) → assign_place names p v s ≡ Stopped why t → assign_each names (drop i places) (drop i vs) s ≡ Stopped why t
  each_stops why t g = each_step names places vs i p v s h l e f ∙ ap (λ o. go_on o (λ _. assign_each names (drop (suc i) places) (drop (suc i) vs))) g

pub each_ends : (names : Names) (places : List Place) (vs : List Value) (i : ℕ) (s : State) → length places ≤ i → assign_each names (drop i places) (drop i vs) s ≡ Returned tt s
each_ends names [] vs zero s h = refl
each_ends names [] vs (suc i) s h = refl
each_ends names (p ∷ places) vs zero s h = absurd (omega (arith, h))
each_ends names (p ∷ places) [] (suc i) s h = ends (drop i places) where
  ends : (ps : List Place) → assign_each names ps [] s ≡ Returned tt s
  ends [] = refl
  ends (q ∷ ps) = refl
each_ends names (p ∷ places) (v ∷ vs) (suc i) s h = each_ends names places vs i s (omega (arith, h))

pub parts_are : (names : Names) (places : List Place) (vs : List Value) (s : State) → length places ≡ length vs → assign_parts names places vs s ≡ assign_each names places vs s
parts_are names places vs s l = ap (λ b. (if b then assign_each names places vs else stop Stuck) s) (eq-eqb (length places) (length vs) l)

pub ruleset assignments = (each_on, each_stops, each_ends)
