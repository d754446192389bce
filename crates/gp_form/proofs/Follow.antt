-- Which tokens begin an expression of a level, and which go on with one.
use Rattle.std.proofs.Common.{◌≡◌, ℕ, ◌+◌, ◌<◌, ◌≤◌, List, [], ◌∷◌, ◌++◌, length, Option, Some, None, refl, ap, ◌∙◌, arith, rules}
use denote.Enum.Bare.{sameb, false_same}
use Rattle.gp_lex.specs.contracts.token.Keyword.{the_type as keyword_type}
use Rattle.gp_lex.specs.contracts.token.Symbol.{the_type as symbol_type}
use Rattle.gp_lex.specs.declared.token.Keyword.{Keyword}
use Rattle.gp_lex.specs.declared.token.Keyword.TheVariants as k
use Rattle.gp_lex.specs.declared.token.Symbol.{Symbol}
use Rattle.gp_lex.specs.declared.token.Symbol.TheVariants as s
use Rattle.gp_lex.specs.declared.token.Token.{Token}
use Rattle.gp_lex.specs.declared.token.Token.TheVariants as t
use Rattle.gp_form.specs.declared.level.Join.{Join}
use Rattle.gp_form.specs.declared.level.Level.{Level}
use Rattle.gp_form.specs.declared.level.Level.TheVariants.{Disjunction, Conjunction, Comparison, Sum, Term}
use Rattle.gp_form.specs.declared.list_end.ListEnd.{ListEnd}
use Rattle.gp_form.specs.declared.list_end.ListEnd.TheVariants as end
use Rattle.gp_form.specs.Grammar.{join_at}
use Rattle.gp_form.specs.code.Reading.{with_join, past_join, at_end, past_end, looseness}
use Rattle.gp_form.specs.code.Steps.{if_same, past_symbol, past_word}

-- How tightly a token goes on with what stands before it, 0 for a token that never does. It goes on with
-- an expression of a level where this and the level's looseness are 9 or more.
abbrev pub binds : Token → ℕ
binds (t.Symbol s.LeftParen) = 9
binds (t.Symbol s.Dot) = 9
binds (t.Symbol s.Star) = 7
binds (t.Symbol s.FloorDiv) = 7
binds (t.Symbol s.Percent) = 7
binds (t.Symbol s.Plus) = 6
binds (t.Symbol s.Minus) = 6
binds (t.Symbol s.Equal) = 5
binds (t.Symbol s.NotEqual) = 5
binds (t.Symbol s.Less) = 5
binds (t.Symbol s.LessEqual) = 5
binds (t.Symbol s.Greater) = 5
binds (t.Symbol s.GreaterEqual) = 5
binds (t.Keyword k.AndWord) = 3
binds (t.Keyword k.OrWord) = 2
binds (t.Keyword k.IfWord) = 1
binds _ = 0

abbrev pub first_binds : List Token → ℕ
first_binds [] = 0
first_binds (x ∷ ts) = binds x

-- the looseness of the tightest level whose expressions the token may begin, 9 for a token that begins none
abbrev pub opening : Token → ℕ
opening (t.Number n) = 0
opening (t.Text n) = 0
opening (t.Name n) = 0
opening (t.Symbol s.LeftParen) = 0
opening (t.Symbol s.Minus) = 1
opening (t.Symbol _) = 9
opening (t.Keyword k.TrueWord) = 0
opening (t.Keyword k.FalseWord) = 0
opening (t.Keyword k.NotWord) = 5
opening (t.Keyword _) = 9

-- ---- what joins binds as its level does

pub joins_bind : (l : Level) (x : Token) (j : Join) → join_at l x ≡ Some j → binds x + looseness l ≡ 9
joins_bind Disjunction (t.Keyword k.OrWord) j h = refl
joins_bind Conjunction (t.Keyword k.AndWord) j h = refl
joins_bind Comparison (t.Symbol s.Equal) j h = refl
joins_bind Comparison (t.Symbol s.NotEqual) j h = refl
joins_bind Comparison (t.Symbol s.Less) j h = refl
joins_bind Comparison (t.Symbol s.LessEqual) j h = refl
joins_bind Comparison (t.Symbol s.Greater) j h = refl
joins_bind Comparison (t.Symbol s.GreaterEqual) j h = refl
joins_bind Sum (t.Symbol s.Plus) j h = refl
joins_bind Sum (t.Symbol s.Minus) j h = refl
joins_bind Term (t.Symbol s.Star) j h = refl
joins_bind Term (t.Symbol s.FloorDiv) j h = refl
joins_bind Term (t.Symbol s.Percent) j h = refl
joins_bind _ _ j h = absurd cc

no_join_at : (l : Level) (x : Token) (ts : List Token) (o : Option Join) → join_at l x ≡ o → binds x + looseness l ≤ 8 → with_join o ts ≡ None
no_join_at l x ts (Some j) h ends = absurd (omega (arith, joins_bind l x j h))
no_join_at l x ts None h ends = refl

pub no_join : (l : Level) (rest : List Token) → first_binds rest + looseness l ≤ 8 → past_join l rest ≡ None
unfolding past_join
no_join l [] ends = refl
no_join l (x ∷ ts) ends = no_join_at l x ts (join_at l x) refl ends

pub some_join : (l : Level) (x : Token) (j : Join) (ts : List Token) → join_at l x ≡ Some j → past_join l (x ∷ ts) ≡ Some (j, ts)
unfolding past_join
some_join l x j ts h = ap (λ (o : Option Join). with_join o ts) h

-- ---- tokens that are not there

symbol_differs : (x y : Symbol) (ts : List Token) → (y ≡ x → ⊥) → if_same (sameb symbol_type y x) ts ≡ None
symbol_differs x y ts h = rw (false_same symbol_type (search rules) y x h) refl

word_differs : (x y : Keyword) (ts : List Token) → (y ≡ x → ⊥) → if_same (sameb keyword_type y x) ts ≡ None
word_differs x y ts h = rw (false_same keyword_type (search rules) y x h) refl

-- a measure of tokens that tells the symbol from the one that stands there
pub no_symbol : (f : Token → ℕ) (x : Symbol) (y : Token) (ts : List Token) → f y < f (t.Symbol x) → past_symbol x (y ∷ ts) ≡ None
unfolding past_symbol
no_symbol f x (t.Symbol y) ts h = symbol_differs x y ts (λ e. let same : f (t.Symbol y) ≡ f (t.Symbol x) = ap (λ (z : Symbol). f (t.Symbol z)) e in absurd (omega arith))
no_symbol f x (t.Keyword y) ts h = refl
no_symbol f x (t.Number y) ts h = refl
no_symbol f x (t.Text y) ts h = refl
no_symbol f x (t.Name y) ts h = refl

pub no_word : (f : Token → ℕ) (x : Keyword) (y : Token) (ts : List Token) → f y < f (t.Keyword x) → past_word x (y ∷ ts) ≡ None
unfolding past_word
no_word f x (t.Keyword y) ts h = word_differs x y ts (λ e. let same : f (t.Keyword y) ≡ f (t.Keyword x) = ap (λ (z : Keyword). f (t.Keyword z)) e in absurd (omega arith))
no_word f x (t.Symbol y) ts h = refl
no_word f x (t.Number y) ts h = refl
no_word f x (t.Text y) ts h = refl
no_word f x (t.Name y) ts h = refl

pub no_bracket : (rest : List Token) → first_binds rest ≤ 8 → past_symbol s.LeftParen rest ≡ None
unfolding past_symbol
no_bracket [] ends = refl
no_bracket (x ∷ ts) ends = no_symbol binds s.LeftParen x ts (omega arith)

pub no_dot : (rest : List Token) → first_binds rest ≤ 8 → past_symbol s.Dot rest ≡ None
unfolding past_symbol
no_dot [] ends = refl
no_dot (x ∷ ts) ends = no_symbol binds s.Dot x ts (omega arith)

pub no_if : (rest : List Token) → first_binds rest ≤ 0 → past_word k.IfWord rest ≡ None
unfolding past_word
no_if [] ends = refl
no_if (x ∷ ts) ends = no_word binds k.IfWord x ts (omega arith)

-- a comma is no end
pub comma_goes_on : (to : ListEnd) (ts : List Token) → past_end to (t.Symbol s.Comma ∷ ts) ≡ None
unfolding past_end past_symbol
comma_goes_on end.Paren ts = refl
comma_goes_on end.Line ts = refl

-- ---- how tokens begin

-- the first of the tokens begins an expression of a level that is so loose
pub record Begins (a : List Token) (loose : ℕ) : Type 0 where
  pub token : Token
  pub others : List Token
  pub parts : a ≡ token ∷ others
  pub within : opening token ≤ loose

pub begins_looser : (a : List Token) (m n : ℕ) → m ≤ n → Begins a m → Begins a n
begins_looser a m n le b = record { token = b.token; others = b.others; parts = b.parts; within = omega (arith, b.within) }

pub begins_longer : (a b : List Token) (n : ℕ) → Begins a n → Begins (a ++ b) n
begins_longer a b n h = record { token = h.token; others = h.others ++ b; parts = ap (λ (z : List Token). z ++ b) h.parts; within = h.within }

pub some_token : (a : List Token) (n : ℕ) → Begins a n → 0 < length a
some_token a n h = omega (arith, ap length h.parts)

pub not_symbol : (x : Symbol) (a rest : List Token) (n : ℕ) → Begins a n → n < opening (t.Symbol x) → past_symbol x (a ++ rest) ≡ None
not_symbol x a rest n h lt = ap (λ (z : List Token). past_symbol x (z ++ rest)) h.parts ∙ no_symbol opening x h.token (h.others ++ rest) (omega (arith, h.within))

pub not_word : (x : Keyword) (a rest : List Token) (n : ℕ) → Begins a n → n < opening (t.Keyword x) → past_word x (a ++ rest) ≡ None
not_word x a rest n h lt = ap (λ (z : List Token). past_word x (z ++ rest)) h.parts ∙ no_word opening x h.token (h.others ++ rest) (omega (arith, h.within))

pub not_end : (to : ListEnd) (a rest : List Token) (n : ℕ) → Begins a n → n < 9 → past_end to (a ++ rest) ≡ None
unfolding past_end
not_end end.Paren a rest n h lt = not_symbol s.RightParen a rest n h lt
not_end end.Line a rest n h lt = ap (λ (z : List Token). at_end (z ++ rest)) h.parts
