-- In whatever order ready things fire, the same is seen, if of two that are ready one is pure.
use Rattle.std.proofs.Common.{◌≡◌, ◌≢◌, ◌⊎◌, inl, inr, ⊎_elim, ℕ, zero, suc, List, [], ◌∷◌, refl, sym, ap, ◌∙◌}
use Rattle.gp_base.specs.Run.{Run, Stuck, go_on, ◌>>=◌, ret, stop}
use Rattle.gp_base.specs.World.{World}
use Rattle.gp_base.specs.Membership.{In}
use Rattle.hg_laws.proofs.Runs.{Giving, then_same}

abbrev pub first_of : {A B : Type 0} → List A → (A → Run World B) → Run World B
first_of [] k = stop Stuck
first_of (x ∷ xs) k = k x

module _ {C V S R : Type 0} (ready : S → List C) (fire : C → Run World V) (add : S → C → V → S) (finish : S → Run World R) where
  -- the first ready one fires, n times
  abbrev pub canon : ℕ → S → Run World R
  canon zero s = finish s
  canon (suc n) s = first_of (ready s) (λ c. fire c >>= (λ v. canon n (add s c v)))

-- what has to hold of the ready ones in a good state, with n more to fire
pub record IsDiamond {C V S R : Type 0} (ready : S → List C) (fire : C → Run World V) (add : S → C → V → S) (finish : S → Run World R) (Good : ℕ → S → Type 0) (Fine : C → V → Type 0) : Type 0 where
  pub same_or : (n : ℕ) (s : S) (c d : C) → Good n s → In c (ready s) → In d (ready s) → (c ≡ d) ⊎ (c ≢ d)
  pub fine : (n : ℕ) (s : S) (c : C) → Good (suc n) s → In c (ready s) → (w : World) → Giving (Fine c) (fire c w)
  pub grows : (n : ℕ) (s : S) (c : C) (v : V) → Good (suc n) s → In c (ready s) → Fine c v → Good n (add s c v)
  pub over : (s : S) (c : C) → Good zero s → In c (ready s) → ⊥
  pub stays : (n : ℕ) (s : S) (c d : C) (v : V) → Good (suc n) s → In c (ready s) → In d (ready s) → c ≢ d → Fine c v → In d (ready (add s c v))
  pub pure_one : (n : ℕ) (s : S) (c d : C) → Good (suc n) s → In c (ready s) → In d (ready s) → c ≢ d → ((v : V) × Fine c v × ((w : World) → fire c w ≡ ret v w)) ⊎ ((v : V) × Fine d v × ((w : World) → fire d w ≡ ret v w))
  pub swaps : (n : ℕ) (s : S) (c d : C) (u v : V) → Good (suc (suc n)) s → In c (ready s) → In d (ready s) → c ≢ d → Fine c u → Fine d v → (w : World) → canon ready fire add finish n (add (add s c u) d v) w ≡ canon ready fire add finish n (add (add s d v) c u) w

module _ {C V S R : Type 0} (ready : S → List C) (fire : C → Run World V) (add : S → C → V → S) (finish : S → Run World R) (Good : ℕ → S → Type 0) (Fine : C → V → Type 0) (D : IsDiamond ready fire add finish Good Fine) where
  -- c fires first, and then the first ready ones
  abbrev from : ℕ → S → C → Run World R
  from n s c = fire c >>= (λ v. canon ready fire add finish n (add s c v))

  abbrev Any : ℕ → Type 0
  Any n = (s : S) (c : C) → Good (suc n) s → In c (ready s) → (w : World) → from n s c w ≡ canon ready fire add finish (suc n) s w

  -- c is pure
  one_pure : (n : ℕ) → Any n → (s : S) (c d : C) (v : V) → Good (suc (suc n)) s → In c (ready s) → In d (ready s) → c ≢ d → Fine c v → ((w : World) → fire c w ≡ ret v w) → (w : World) → from (suc n) s c w ≡ from (suc n) s d w
  one_pure n ih s c d v g i j ne f p w =
      let K = λ (x : V). canon ready fire add finish (suc n) (add s c x) in
      let one : from (suc n) s c w ≡ K v w = ap (λ z. go_on z K) (p w) in
      let two : K v w ≡ from n (add s c v) d w = sym (ih (add s c v) d (D.grows _ s c v g i f) (D.stays _ s c d v g i j ne f) w) in
      let ne' : d ≢ c = λ e. ne (sym e) in
      let three : from n (add s c v) d w ≡ from (suc n) s d w =
      then_same (Fine d) (fire d w) _ _ (D.fine _ s d g j w) (λ x fx u.
      D.swaps n s c d v x g i j ne f fx u
      ∙ sym (ap (λ z. go_on z (λ y. canon ready fire add finish n (add (add s d x) c y))) (p u))
      ∙ ih (add s d x) c (D.grows _ s d x g j fx) (D.stays _ s d c x g j i ne' fx) u)
      in one ∙ two ∙ three

  two_ready : (n : ℕ) → Any n → (s : S) (c d : C) → Good (suc (suc n)) s → In c (ready s) → In d (ready s) → c ≢ d → (w : World) → from (suc n) s c w ≡ from (suc n) s d w
  two_ready n ih s c d g i j ne w =
      elim (D.pure_one _ s c d g i j ne) [ inl p ↦ one_pure n ih s c d p.0 g i j ne p.1 p.2 w | inr p ↦ sym (one_pure n ih s d c p.0 g j i (λ e. ne (sym e)) p.1 p.2 w) ]

  -- a state with two different ready ones has two more to fire
  no_two : (s : S) (c d : C) → Good (suc zero) s → In c (ready s) → In d (ready s) → c ≢ d → ⊥
  no_two s c d g i j ne =
      elim (D.pure_one _ s c d g i j ne) [ inl p ↦ D.over _ d (D.grows _ s c p.0 g i p.1) (D.stays _ s c d p.0 g i j ne p.1) | inr p ↦ D.over _ c (D.grows _ s d p.0 g j p.1) (D.stays _ s d c p.0 g j i (λ e. ne (sym e)) p.1) ]

  to_first : (n : ℕ) (s : S) (l : List C) → ((c d : C) → In c l → In d l → (w : World) → from n s c w ≡ from n s d w) → (c : C) → In c l → (w : World) → from n s c w ≡ first_of l (from n s) w
  to_first n s [] h c i w = absurd i
  to_first n s (x ∷ l) h c i w = h c x i (inl refl) w

  pub any_first : (n : ℕ) → Any n
  any_first zero s c g i w =
      to_first zero s (ready s) (λ x y ix iy u. ⊎_elim (λ e. ap (λ z. from zero s z u) e) (λ ne. absurd (no_two s x y g ix iy ne)) (D.same_or _ s x y g ix iy)) c i w
  any_first (suc n) s c g i w =
      to_first (suc n) s (ready s) (λ x y ix iy u. ⊎_elim (λ e. ap (λ z. from (suc n) s z u) e) (λ ne. two_ready n (any_first n) s x y g ix iy ne u) (D.same_or _ s x y g ix iy)) c i w
