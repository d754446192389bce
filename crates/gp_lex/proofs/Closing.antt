-- The three quotes that close a string, as a loop looks for them.
use Rattle.std.proofs.Common.{◌≡◌, ℕ, zero, suc, eq-eqb, ◌+◌, ◌<◌, ◌≤◌, Bool, true, false, eqb, get_or, [], ◌∷◌, length, drop, Option, Some, None, refl, sym, ap, ◌∙◌, arith, length-drop}
use Rattle.std.proofs.lemmas.Bool.{eqb-true}
use Rattle.std.specs.Prelude.{option_map}
use Rattle.gp_lex.specs.Chars.{Text}
use Rattle.gp_lex.specs.Tokens.{begins_thrice, closing}

-- so many characters later
abbrev pub later : ℕ → Option ℕ → Option ℕ
later len None = None
later len (Some n) = Some (len + n)

-- the two characters at a position, and what is behind them
record Two (text : Text) (len : ℕ) : Type 0 where
  first : ℕ
  second : ℕ
  rest : Text
  here : drop len text ≡ first ∷ second ∷ rest
  one : drop (len + 1) text ≡ second ∷ rest
  two : drop (len + 2) text ≡ rest
  is : (d : ℕ) → get_or text len d ≡ first

two_at : (text : Text) (len : ℕ) → len + 1 < length text → Two text len
two_at [] len lt = absurd (omega arith)
two_at (c ∷ []) zero lt = absurd (omega arith)
two_at (c ∷ d ∷ text) zero lt = record { first = c; second = d; rest = text; here = refl; one = refl; two = refl; is = λ d. refl }
two_at (c ∷ text) (suc len) lt =
    let t = two_at text len (omega arith) in
    let a : suc len + 1 ≡ suc (len + 1) = omega arith in
    let b : suc len + 2 ≡ suc (len + 2) = omega arith in
    record {
      first = t.first;
      second = t.second;
      rest = t.rest;
      here = t.here;
      is = t.is;
      one = ap (λ (n : ℕ). drop n (c ∷ text)) a ∙ t.one;
      two = ap (λ (n : ℕ). drop n (c ∷ text)) b ∙ t.two;
    }

more : (k len : ℕ) (o : Option ℕ) → later len (option_map (λ (n : ℕ). n + k) o) ≡ later (len + k) o
more k len None = refl
more k len (Some n) = let e : len + (n + k) ≡ len + k + n = omega arith in ap (λ (m : ℕ). Some m) e

over_backslash : (q c d : ℕ) (cs : Text) → eqb c 92 ≡ true → closing q (c ∷ d ∷ cs) ≡ option_map (λ (n : ℕ). n + 2) (closing q cs)
unfolding closing
over_backslash q c d cs h = rw h refl

at_quotes : (q c d : ℕ) (cs : Text) → eqb c 92 ≡ false → begins_thrice q (c ∷ d ∷ cs) ≡ true → closing q (c ∷ d ∷ cs) ≡ Some 0
unfolding closing
at_quotes q c d cs h t = rw (h, t) refl

over_other : (q c d : ℕ) (cs : Text) → eqb c 92 ≡ false → begins_thrice q (c ∷ d ∷ cs) ≡ false → closing q (c ∷ d ∷ cs) ≡ option_map (λ (n : ℕ). n + 1) (closing q (d ∷ cs))
unfolding closing
over_other q c d cs h t = rw (h, t) refl

none_left : (q : ℕ) (cs : Text) → length cs ≤ 1 → closing q cs ≡ None
unfolding closing
none_left q [] le = refl
none_left q (c ∷ []) le = refl
none_left q (c ∷ d ∷ cs) le = absurd (omega arith)

is_not : (r n : ℕ) → (r ≡ n → ⊥) → eqb r n ≡ false
is_not r n h = by (eqb r n) refl
  where
    by : (b : Bool) → eqb r n ≡ b → b ≡ false
    by true e = absurd (h (eqb-true r n e))
    by false e = refl

-- the loop behind a backslash, before another character, and at three quotes; r is the character at the position
pub passes_backslash : (q len r : ℕ) (text : Text) (total : Option ℕ) → len + 1 < length text → r ≡ get_or text len r → r ≡ 92
    → total ≡ later len (closing q (drop len text)) → (len + 2 ≤ length text) × (total ≡ later (len + 2) (closing q (drop (len + 2) text)))
passes_backslash q len r text total lt at h so_far =
    let t = two_at text len lt in (
      omega arith,
      so_far ∙ ap (λ (z : Text). later len (closing q z)) t.here
          ∙ ap (later len) (over_backslash q t.first t.second t.rest (eq-eqb t.first 92 (sym (t.is r) ∙ sym at ∙ h)))
          ∙ more 2 len (closing q t.rest)
          ∙ ap (λ (z : Text). later (len + 2) (closing q z)) (sym t.two),
    )

other_first : (text : Text) (len r : ℕ) (t : Two text len) → r ≡ get_or text len r → (r ≡ 92 → ⊥) → eqb t.first 92 ≡ false
other_first text len r t at h = ap (λ (z : ℕ). eqb z 92) (sym (at ∙ t.is r)) ∙ is_not r 92 h

pub passes_other : (q len r : ℕ) (text rest : Text) (total : Option ℕ) → len + 1 < length text → r ≡ get_or text len r → (r ≡ 92 → ⊥) → rest ≡ drop len text → begins_thrice q rest ≡ false
    → total ≡ later len (closing q (drop len text)) → (len + 1 ≤ length text) × (total ≡ later (len + 1) (closing q (drop (len + 1) text)))
passes_other q len r text rest total lt at h same n so_far =
    let t = two_at text len lt in (
      omega arith,
      so_far ∙ ap (λ (z : Text). later len (closing q z)) t.here
          ∙ ap (later len) (over_other q t.first t.second t.rest (other_first text len r t at h) (ap (begins_thrice q) (sym t.here ∙ sym same) ∙ n))
          ∙ more 1 len (closing q (t.second ∷ t.rest))
          ∙ ap (λ (z : Text). later (len + 1) (closing q z)) (sym t.one),
    )

pub closes_here : (q len r : ℕ) (text rest : Text) (total : Option ℕ) → len + 1 < length text → r ≡ get_or text len r → (r ≡ 92 → ⊥) → rest ≡ drop len text → begins_thrice q rest ≡ true
    → total ≡ later len (closing q (drop len text)) → Some len ≡ total
closes_here q len r text rest total lt at h same n so_far =
    let t = two_at text len lt in
    let zero_more : len + 0 ≡ len = omega arith in
    sym (so_far ∙ ap (λ (z : Text). later len (closing q z)) t.here
    ∙ ap (later len) (at_quotes q t.first t.second t.rest (other_first text len r t at h) (ap (begins_thrice q) (sym t.here ∙ sym same) ∙ n))
    ∙ ap (λ (m : ℕ). Some m) zero_more)

pub closes_nowhere : (q len : ℕ) (text : Text) → len ≤ length text → length text ≤ len + 1 → later len (closing q (drop len text)) ≡ None
closes_nowhere q len text le over = ap (later len) (none_left q (drop len text) (omega (arith, length-drop len text)))

pub begins_so : (q : ℕ) (text : Text) → closing q text ≡ later 0 (closing q (drop 0 text))
begins_so q text = by (closing q text)
  where
    by : (o : Option ℕ) → o ≡ later 0 o
    by None = refl
    by (Some n) = let e : n ≡ 0 + n = omega arith in ap (λ (m : ℕ). Some m) e
