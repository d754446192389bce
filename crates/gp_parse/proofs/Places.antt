-- The frame of an indentation, as a loop over the frames finds it.
use Rattle.std.proofs.Common.{◌≡◌, ℕ, ◌≤◌, Bool, true, false, eqb, ltb, List, [], ◌∷◌, refl, arith}
use Rattle.std.proofs.lemmas.Bool.{eq-eqb, eqb-true, ltb-true}
use Rattle.gp_parse.specs.code.NestingMachine.{Frame, place}

pub place_found : (i : ℕ) (x : Frame) (xs : List Frame) → x.indent ≡ i → place i x xs ≡ x ∷ xs
place_found i x [] e = rw (eq-eqb x.indent i e) refl
place_found i x (y ∷ ys) e = rw (eq-eqb x.indent i e) refl

not_eq_by : (a b : ℕ) (r : Bool) → eqb a b ≡ r → (a ≡ b → ⊥) → r ≡ false
not_eq_by a b true e ne = absurd (ne (eqb-true a b e))
not_eq_by a b false e ne = refl

not_lt_by : (a b : ℕ) (r : Bool) → ltb a b ≡ r → b ≤ a → r ≡ false
not_lt_by a b true e le = absurd (let lt = ltb-true a b e in omega arith)
not_lt_by a b false e le = refl

pub place_lost : (i : ℕ) (x : Frame) (xs : List Frame) → (x.indent ≡ i → ⊥) → x.indent ≤ i → place i x xs ≡ []
place_lost i x [] ne le = rw (not_eq_by x.indent i (eqb x.indent i) refl ne) refl
place_lost i x (y ∷ ys) ne le = rw (not_eq_by x.indent i (eqb x.indent i) refl ne, not_lt_by i x.indent (ltb i x.indent) refl le) refl
