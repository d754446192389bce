-- What is at the front of a text.
use Rattle.std.proofs.Common.{◌≡◌, ℕ, suc, ◌<◌, Bool, true, false, cond, [], ◌∷◌, ◌++◌, length, take, drop, refl, sym, ap, subst, ◌∙◌, arith}
use Rattle.std.proofs.Math.Numerals.{one-add}
use Rattle.std.specs.List.{prefix_len}
use Rattle.gp_lex.specs.Chars.{Text, every, first_passes, run}

-- ---- choices

pub data Chosen {A : Type 0} (b : Bool) (x y z : A) : Type 0 where
  yes : b ≡ true → x ≡ z → Chosen b x y z
  no : b ≡ false → y ≡ z → Chosen b x y z

pub chosen : {A : Type 0} (b : Bool) (x y z : A) → cond b x y ≡ z → Chosen b x y z
chosen true x y z e = yes refl e
chosen false x y z e = no refl e

-- ---- runs

-- what passes is taken, up to what does not
pub record Runs (p : ℕ → Bool) (bs a rest : Text) : Type 0 where
  pub parts : bs ≡ a ++ rest
  pub pass : every p a ≡ true
  pub stops : first_passes p rest ≡ false

runs_step : (p : ℕ → Bool) (b : ℕ) (bs : Text) → Runs p bs (run p bs).0 (run p bs).1 → (x : Bool) → p b ≡ x → Runs p (b ∷ bs) (run p (b ∷ bs)).0 (run p (b ∷ bs)).1
unfolding run
runs_step p b bs more true e =
    let len : prefix_len p (b ∷ bs) ≡ suc (prefix_len p bs) = rw e (one-add (prefix_len p bs)) in
    subst (λ (n : ℕ). Runs p (b ∷ bs) (take n (b ∷ bs)) (drop n (b ∷ bs))) (sym len)
    (record { parts = ap (λ (z : Text). b ∷ z) more.parts; pass = rw e more.pass; stops = more.stops })
runs_step p b bs more false e =
    let len : prefix_len p (b ∷ bs) ≡ 0 = rw e refl in
    subst (λ (n : ℕ). Runs p (b ∷ bs) (take n (b ∷ bs)) (drop n (b ∷ bs))) (sym len) (record { parts = refl; pass = refl; stops = e })

runs_none : (p : ℕ → Bool) → Runs p [] (run p []).0 (run p []).1
unfolding run
runs_none p = record { parts = refl; pass = refl; stops = refl }

pub runs : (p : ℕ → Bool) (bs : Text) → Runs p bs (run p bs).0 (run p bs).1
runs p [] = runs_none p
runs p (b ∷ bs) = runs_step p b bs (runs p bs) (p b) refl

-- no longer front passes
pub every_front : (p : ℕ → Bool) (a rest b more : Text) → a ++ rest ≡ b ++ more → length a < length b → first_passes p rest ≡ false → every p b ≡ false
every_front p [] [] [] more e lt stops = absurd (omega arith)
every_front p [] [] (c ∷ b) more e lt stops = absurd cc
every_front p [] (d ∷ rest) [] more e lt stops = absurd (omega arith)
every_front p [] (d ∷ rest) (c ∷ b) more e lt stops =
    let same : d ≡ c = cc in
    let fails : p c ≡ false = ap p (sym same) ∙ stops in
    rw fails refl
every_front p (d ∷ a) rest [] more e lt stops = absurd (omega arith)
every_front p (d ∷ a) rest (c ∷ b) more e lt stops =
    let tails : a ++ rest ≡ b ++ more = cc in
    let fails = every_front p a rest b more tails (omega arith) stops in
    last (p c) (every p b) fails
  where
    last : (x y : Bool) → y ≡ false → cond x y false ≡ false
    last true y h = h
    last false y h = refl

run_yes : (p : ℕ → Bool) (c : ℕ) (cs : Text) → p c ≡ true → run p (c ∷ cs) ≡ (c ∷ (run p cs).0, (run p cs).1)
unfolding run
run_yes p c cs h = rw (h, one-add (prefix_len p cs)) refl

run_no : (p : ℕ → Bool) (c : ℕ) (cs : Text) → p c ≡ false → run p (c ∷ cs) ≡ ([], c ∷ cs)
unfolding run
run_no p c cs h = rw h refl

run_nothing : (p : ℕ → Bool) → run p [] ≡ ([], [])
unfolding run
run_nothing p = refl

false_true : {A : Type 0} → false ≡ true → A
false_true e = absurd cc

-- a text that passes, before one whose first character doesn't, is taken as it is
pub run_is : (p : ℕ → Bool) (a rest : Text) → every p a ≡ true → first_passes p rest ≡ false → run p (a ++ rest) ≡ (a, rest)
run_is p [] [] pass stops = run_nothing p
run_is p [] (c ∷ rest) pass stops = run_no p c rest stops
run_is p (c ∷ a) rest pass stops =
    elim (chosen _ _ _ _ pass) [
      | yes h go ↦ run_yes p c (a ++ rest) h ∙ ap (λ (x : Text × Text). (c ∷ x.0, x.1)) (run_is p a rest go stops)
      | no h go ↦ false_true go
    ]
