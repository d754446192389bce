-- The symbol that is cut off is the longest.
use Rattle.std.proofs.Common.{◌≡◌, ℕ, ◌<◌, [], ◌∷◌, ◌++◌, length, Option, Some, None, refl, ap, arith, length-append}
use Rattle.gp_lex.specs.declared.token.Symbol.{Symbol}
use Rattle.gp_lex.specs.Chars.{Text}
use Rattle.gp_lex.specs.Tokens.{symbol_of_one, symbol_of_two, symbol_of_three, symbol_of}
use Rattle.gp_lex.specs.code.Reading.{or_else, with_rest, symbol_at}

abbrev pub some : {A : Type 0} → A → Option A
some x = Some x

pub some_is : {A : Type 0} (x y : A) → some x ≡ some y → x ≡ y
some_is x y e = cc

pub some_none : {A : Type 0} (x : A) → some x ≡ None → ⊥
some_none x e = cc

-- ---- symbols

-- the longest symbol at the front
pub record Marks (bs : Text) (x : Symbol × Text) : Type 0 where
  pub text : Text
  pub parts : bs ≡ text ++ x.1
  pub spells : symbol_of text ≡ Some x.0
  pub longest : (b more : Text) → bs ≡ b ++ more → length text < length b → symbol_of b ≡ None

data Either_or {A : Type 0} (o other : Option A) (x : A) : Type 0 where
  this : o ≡ Some x → Either_or o other x
  that : o ≡ None → other ≡ Some x → Either_or o other x

or_else_is : {A : Type 0} (o other : Option A) (x : A) → or_else o other ≡ Some x → Either_or o other x
or_else_is (Some y) other x e = this e
or_else_is None other x e = that refl e

with_rest_is : (rest : Text) (o : Option Symbol) (x : Symbol × Text) → with_rest rest o ≡ Some x → (o ≡ Some x.0) × (rest ≡ x.1)
with_rest_is rest (Some s) x e = let h = some_is (s, rest) x e in (ap (λ (p : Symbol × Text). some p.0) h, ap (λ (p : Symbol × Text). p.1) h)
with_rest_is rest None x e = absurd cc

with_rest_none : (rest : Text) (o : Option Symbol) → with_rest rest o ≡ None → o ≡ None
with_rest_none rest (Some s) e = absurd cc
with_rest_none rest None e = refl

-- fronts of a text of three bytes or more, longer than one, two or three
longer_3 : (b c d : ℕ) (bs f more : Text) → b ∷ c ∷ d ∷ bs ≡ f ++ more → 3 < length f → symbol_of f ≡ None
longer_3 b c d bs [] more e lt = absurd (omega arith)
longer_3 b c d bs (x ∷ []) more e lt = absurd (omega arith)
longer_3 b c d bs (x ∷ y ∷ []) more e lt = absurd (omega arith)
longer_3 b c d bs (x ∷ y ∷ z ∷ []) more e lt = absurd (omega arith)
longer_3 b c d bs (x ∷ y ∷ z ∷ w ∷ f) more e lt = refl

longer_2 : (b c d : ℕ) (bs f more : Text) → symbol_of_three b c d ≡ None → b ∷ c ∷ d ∷ bs ≡ f ++ more → 2 < length f → symbol_of f ≡ None
longer_2 b c d bs [] more t3 e lt = absurd (omega arith)
longer_2 b c d bs (x ∷ []) more t3 e lt = absurd (omega arith)
longer_2 b c d bs (x ∷ y ∷ []) more t3 e lt = absurd (omega arith)
longer_2 b c d bs (x ∷ y ∷ z ∷ []) more t3 e lt =
    let p : b ≡ x = cc in
    let q : c ≡ y = cc in
    let r : d ≡ z = cc in
    rw (← p, ← q, ← r) t3
longer_2 b c d bs (x ∷ y ∷ z ∷ w ∷ f) more t3 e lt = refl

longer_1 : (b c d : ℕ) (bs f more : Text) → symbol_of_three b c d ≡ None → symbol_of_two b c ≡ None → b ∷ c ∷ d ∷ bs ≡ f ++ more → 1 < length f → symbol_of f ≡ None
longer_1 b c d bs [] more t3 t2 e lt = absurd (omega arith)
longer_1 b c d bs (x ∷ []) more t3 t2 e lt = absurd (omega arith)
longer_1 b c d bs (x ∷ y ∷ []) more t3 t2 e lt =
    let p : b ≡ x = cc in
    let q : c ≡ y = cc in
    rw (← p, ← q) t2
longer_1 b c d bs (x ∷ y ∷ z ∷ f) more t3 t2 e lt = longer_2 b c d bs (x ∷ y ∷ z ∷ f) more t3 e (omega arith)

short_2 : (b c : ℕ) (f more : Text) → b ∷ c ∷ [] ≡ f ++ more → 2 < length f → symbol_of f ≡ None
short_2 b c f more e lt = absurd (omega (arith, ap length e, length-append f more))

short_1 : (b c : ℕ) (f more : Text) → symbol_of_two b c ≡ None → b ∷ c ∷ [] ≡ f ++ more → 1 < length f → symbol_of f ≡ None
short_1 b c [] more t2 e lt = absurd (omega arith)
short_1 b c (x ∷ []) more t2 e lt = absurd (omega arith)
short_1 b c (x ∷ y ∷ []) more t2 e lt =
    let p : b ≡ x = cc in
    let q : c ≡ y = cc in
    rw (← p, ← q) t2
short_1 b c (x ∷ y ∷ z ∷ f) more t2 e lt = short_2 b c (x ∷ y ∷ z ∷ f) more e (omega arith)

alone : (b : ℕ) (f more : Text) → b ∷ [] ≡ f ++ more → 1 < length f → symbol_of f ≡ None
alone b [] more e lt = absurd (omega arith)
alone b (x ∷ []) more e lt = absurd (omega arith)
alone b (x ∷ y ∷ f) more e lt = absurd cc

pub symbol_marks : (bs : Text) (x : Symbol × Text) → symbol_at bs ≡ Some x → Marks bs x
unfolding symbol_at
symbol_marks [] x e = absurd cc
symbol_marks (b ∷ []) x e =
    let h = with_rest_is [] (symbol_of_one b) x e in
    record { text = b ∷ []; parts = ap (λ (z : Text). b ∷ z) h.1; spells = h.0; longest = alone b }
symbol_marks (b ∷ c ∷ []) x e =
    elim (or_else_is _ _ x e) [
      | this k ↦
          let h = with_rest_is [] (symbol_of_two b c) x k in
          record { text = b ∷ c ∷ []; parts = ap (λ (z : Text). b ∷ c ∷ z) h.1; spells = h.0; longest = short_2 b c }
      | that n k ↦
          let h = with_rest_is (c ∷ []) (symbol_of_one b) x k in
          let t2 = with_rest_none _ _ n in
          record { text = b ∷ []; parts = ap (λ (z : Text). b ∷ z) h.1; spells = h.0; longest = λ f more. short_1 b c f more t2 }
    ]
symbol_marks (b ∷ c ∷ d ∷ bs) x e =
    elim (or_else_is _ _ x e) [
      | this k ↦
          let h = with_rest_is bs (symbol_of_three b c d) x k in
          record { text = b ∷ c ∷ d ∷ []; parts = ap (λ (z : Text). b ∷ c ∷ d ∷ z) h.1; spells = h.0; longest = longer_3 b c d bs }
      | that n k ↦
          let t3 = with_rest_none _ _ n in
          elim (or_else_is _ _ x k) [
            | this k2 ↦
                let h = with_rest_is (d ∷ bs) (symbol_of_two b c) x k2 in
                record { text = b ∷ c ∷ []; parts = ap (λ (z : Text). b ∷ c ∷ z) h.1; spells = h.0; longest = λ f more. longer_2 b c d bs f more t3 }
            | that n2 k2 ↦
                let h = with_rest_is (c ∷ d ∷ bs) (symbol_of_one b) x k2 in
                let t2 = with_rest_none _ _ n2 in
                record { text = b ∷ []; parts = ap (λ (z : Text). b ∷ z) h.1; spells = h.0; longest = λ f more. longer_1 b c d bs f more t3 t2 }
          ]
    ]

or_else_none : {A : Type 0} (o other : Option A) → or_else o other ≡ None → (o ≡ None) × (other ≡ None)
or_else_none (Some x) other e = absurd cc
or_else_none None other e = (refl, e)

-- no symbol is cut off only where there is none
pub no_symbol_at : (a rest : Text) → symbol_at (a ++ rest) ≡ None → symbol_of a ≡ None
unfolding symbol_at
no_symbol_at [] rest e = refl
no_symbol_at (b ∷ []) [] e = with_rest_none _ _ e
no_symbol_at (b ∷ []) (c ∷ []) e = with_rest_none _ _ (or_else_none _ _ e).1
no_symbol_at (b ∷ []) (c ∷ d ∷ bs) e = with_rest_none _ _ (or_else_none _ _ (or_else_none _ _ e).1).1
no_symbol_at (b ∷ c ∷ []) [] e = with_rest_none _ _ (or_else_none _ _ e).0
no_symbol_at (b ∷ c ∷ []) (d ∷ bs) e = with_rest_none _ _ (or_else_none _ _ (or_else_none _ _ e).1).0
no_symbol_at (b ∷ c ∷ d ∷ []) rest e = with_rest_none _ _ (or_else_none _ _ e).0
no_symbol_at (b ∷ c ∷ d ∷ f ∷ bs) rest e = refl
