-- Steps of a reading, taken apart.
use Rattle.std.proofs.Common.{◌≡◌, ℕ, Bool, true, false, List, [], ◌∷◌, ◌++◌, Option, Some, None, refl, ap, sym, ◌∙◌, append_assoc, subst, rules}
use denote.Enum.Bare.{sameb, same_true}
use Rattle.gp_lex.specs.contracts.token.Keyword.{the_type as keyword_type}
use Rattle.gp_lex.specs.contracts.token.Symbol.{the_type as symbol_type}
use Rattle.gp_lex.specs.declared.token.Keyword.{Keyword}
use Rattle.gp_lex.specs.declared.token.Symbol.{Symbol}
use Rattle.gp_lex.specs.declared.token.Token.{Token}
use Rattle.gp_lex.specs.declared.token.Token.TheVariants as t
use Rattle.gp_form.specs.code.Steps.{Read, ◌>>=◌, found, if_same, past_symbol, past_word, past_name}

pub bind_some : {A B : Type 0} (r : Option A) (f : A → Option B) (y : B) → (r >>= f) ≡ Some y → (x : A) × (r ≡ Some x) × (f x ≡ Some y)
bind_some (Some x) f y e = (x, refl, e)
bind_some None f y e = absurd cc

-- what went on behind what was found, and what did not
pub data Either_found {A B : Type 0} (o : Option A) (f : A → Option B) (other : Option B) (y : B) : Type 0 where
  on : (x : A) → o ≡ Some x → f x ≡ Some y → Either_found o f other y
  off : o ≡ None → other ≡ Some y → Either_found o f other y

pub found_some : {A B : Type 0} (o : Option A) (f : A → Option B) (other : Option B) (y : B) → found o f other ≡ Some y → Either_found o f other y
found_some (Some x) f other y e = on x refl e
found_some None f other y e = off refl e

abbrev pub some : {A : Type 0} → A → Option A
some x = Some x

pub some_is : {A : Type 0} (x y : A) → some x ≡ some y → x ≡ y
some_is x y e = cc

pub none_some : {A : Type 0} (x : A) → None ≡ some x → ⊥
none_some x e = absurd cc

-- ---- one token

if_same_is : (b : Bool) (ts rest : List Token) → if_same b ts ≡ Some rest → (b ≡ true) × (ts ≡ rest)
if_same_is true ts rest e = (refl, some_is ts rest e)
if_same_is false ts rest e = absurd cc

pub symbol_is : (x : Symbol) (ts rest : List Token) → past_symbol x ts ≡ Some rest → ts ≡ t.Symbol x ∷ rest
unfolding past_symbol
symbol_is x [] rest e = absurd cc
symbol_is x (t.Symbol y ∷ ts) rest e =
    let h = if_same_is (sameb symbol_type y x) ts rest e in
    let same : y ≡ x = same_true symbol_type (search rules) y x h.0 in
    ap (λ (z : Symbol). t.Symbol z ∷ ts) same ∙ ap (λ (z : List Token). t.Symbol x ∷ z) h.1
symbol_is x (t.Name n ∷ ts) rest e = absurd cc
symbol_is x (t.Keyword k ∷ ts) rest e = absurd cc
symbol_is x (t.Number n ∷ ts) rest e = absurd cc
symbol_is x (t.Text n ∷ ts) rest e = absurd cc

pub word_is : (x : Keyword) (ts rest : List Token) → past_word x ts ≡ Some rest → ts ≡ t.Keyword x ∷ rest
unfolding past_word
word_is x [] rest e = absurd cc
word_is x (t.Keyword y ∷ ts) rest e =
    let h = if_same_is (sameb keyword_type y x) ts rest e in
    let same : y ≡ x = same_true keyword_type (search rules) y x h.0 in
    ap (λ (z : Keyword). t.Keyword z ∷ ts) same ∙ ap (λ (z : List Token). t.Keyword x ∷ z) h.1
word_is x (t.Name n ∷ ts) rest e = absurd cc
word_is x (t.Symbol k ∷ ts) rest e = absurd cc
word_is x (t.Number n ∷ ts) rest e = absurd cc
word_is x (t.Text n ∷ ts) rest e = absurd cc

pub name_is : (ts : List Token) (x : List ℕ × List Token) → past_name ts ≡ Some x → ts ≡ t.Name x.0 ∷ x.1
unfolding past_name
name_is [] x e = absurd cc
name_is (t.Name n ∷ ts) x e = ap (λ (z : List ℕ × List Token). t.Name z.0 ∷ z.1) (some_is (n, ts) x e)
name_is (t.Symbol k ∷ ts) x e = absurd cc
name_is (t.Keyword k ∷ ts) x e = absurd cc
name_is (t.Number n ∷ ts) x e = absurd cc
name_is (t.Text n ∷ ts) x e = absurd cc

-- ---- what was taken from the front

-- what was taken from the front is one of R
pub record Front {X : Type 0} (R : List Token → X → Type 0) (ts : List Token) (x : X × List Token) : Type 0 where
  pub taken : List Token
  pub parts : ts ≡ taken ++ x.1
  pub is : R taken x.0

abbrev pub IsSound : {X : Type 0} → (List Token → X → Type 0) → Read X → Type 0
IsSound {X} R p = (ts : List Token) (x : X × List Token) → p ts ≡ Some x → Front R ts x

-- what was read, by its parts
pub made : {X : Type 0} (R : List Token → X → Type 0) (ts : List Token) (v : X) (rest : List Token) (x : X × List Token) (a : List Token) → some {A = X × List Token} (v, rest) ≡ Some x → ts ≡ a ++ rest → R a v → Front R ts x
made {X} R ts v rest x a e parts is = subst (λ (y : X × List Token). Front R ts y) (some_is (v, rest) x e) (record { taken = a; parts = parts; is = is })

-- a looser rule
pub wider : {X : Type 0} {R S : List Token → X → Type 0} (ts : List Token) (x : X × List Token) → ((a : List Token) (e : X) → R a e → S a e) → Front R ts x → Front S ts x
wider ts x f a = record { taken = a.taken; parts = a.parts; is = f a.taken x.0 a.is }

-- one token, and what stands behind it
pub behind : (y : Token) (ts rest a end : List Token) → ts ≡ y ∷ rest → rest ≡ a ++ end → ts ≡ (y ∷ a) ++ end
behind y ts rest a end e f = e ∙ ap (λ (z : List Token). y ∷ z) f

-- two parts with a token between them
pub between : (y : Token) (ts a rest next b end : List Token) → ts ≡ a ++ rest → rest ≡ y ∷ next → next ≡ b ++ end → ts ≡ (a ++ y ∷ b) ++ end
between y ts a rest next b end e f h = e ∙ ap (λ (z : List Token). a ++ z) (behind y rest next b end f h) ∙ sym (append_assoc a (y ∷ b) end)

-- two parts
pub joined_parts : (ts a rest b end : List Token) → ts ≡ a ++ rest → rest ≡ b ++ end → ts ≡ (a ++ b) ++ end
joined_parts ts a rest b end e f = e ∙ ap (λ (z : List Token). a ++ z) f ∙ sym (append_assoc a b end)
