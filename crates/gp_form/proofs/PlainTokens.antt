-- No sign of assignment and no colon stands in an expression or a place.
use Rattle.std.proofs.Common.{◌≡◌, ℕ, Bool, true, false, cond, List, [], ◌∷◌, ◌++◌, Some, refl}
use Rattle.gp_lex.specs.declared.token.Keyword.TheVariants as k
use Rattle.gp_lex.specs.declared.token.Symbol.TheVariants as s
use Rattle.gp_lex.specs.declared.token.Token.{Token}
use Rattle.gp_lex.specs.declared.token.Token.TheVariants as t
use Rattle.gp_form.specs.declared.level.Join.{Join}
use Rattle.gp_form.specs.declared.level.Level.{Level}
use Rattle.gp_form.specs.declared.level.Level.TheVariants.{Disjunction, Conjunction, Comparison, Sum, Term}
use Rattle.gp_form.specs.Grammar as g
use Rattle.gp_form.specs.Grammar.{join_at, SpellsFields, SpellsPlace, Spells, SpellsItems, SpellsTuple, SpellsExpressions}
use Rattle.gp_tree.specs.declared.place.Place.{Place}
use Rattle.gp_tree.specs.Expression.{Expression, Expressions}

abbrev pub is_plain : Token → Bool
is_plain (t.Symbol s.Assign) = false
is_plain (t.Symbol s.PlusAssign) = false
is_plain (t.Symbol s.MinusAssign) = false
is_plain (t.Symbol s.StarAssign) = false
is_plain (t.Symbol s.FloorDivAssign) = false
is_plain (t.Symbol s.PercentAssign) = false
is_plain (t.Symbol s.Colon) = false
is_plain _ = true

abbrev pub are_plain : List Token → Bool
are_plain [] = true
are_plain (x ∷ xs) = cond (is_plain x) (are_plain xs) false

joins_plain : (l : Level) (x : Token) (j : Join) → join_at l x ≡ Some j → is_plain x ≡ true
joins_plain Disjunction (t.Keyword k.OrWord) j h = refl
joins_plain Conjunction (t.Keyword k.AndWord) j h = refl
joins_plain Comparison (t.Symbol s.Equal) j h = refl
joins_plain Comparison (t.Symbol s.NotEqual) j h = refl
joins_plain Comparison (t.Symbol s.Less) j h = refl
joins_plain Comparison (t.Symbol s.LessEqual) j h = refl
joins_plain Comparison (t.Symbol s.Greater) j h = refl
joins_plain Comparison (t.Symbol s.GreaterEqual) j h = refl
joins_plain Sum (t.Symbol s.Plus) j h = refl
joins_plain Sum (t.Symbol s.Minus) j h = refl
joins_plain Term (t.Symbol s.Star) j h = refl
joins_plain Term (t.Symbol s.FloorDiv) j h = refl
joins_plain Term (t.Symbol s.Percent) j h = refl
joins_plain _ _ j h = absurd cc

pub both_plain : (a b : List Token) → are_plain a ≡ true → are_plain b ≡ true → are_plain (a ++ b) ≡ true
both_plain [] b h k = k
both_plain (x ∷ a) b h k = by (is_plain x) h (both_plain a b)
  where
    by : (c : Bool) → cond c (are_plain a) false ≡ true → (are_plain a ≡ true → are_plain b ≡ true → are_plain (a ++ b) ≡ true) → cond c (are_plain (a ++ b)) false ≡ true
    by true h more = more h k
    by false h more = absurd cc

pub with_token : (a b : List Token) (x : Token) → are_plain a ≡ true → is_plain x ≡ true → are_plain b ≡ true → are_plain (a ++ x ∷ b) ≡ true
with_token a b x h p k = both_plain a (x ∷ b) h (rw p k)

fields_plain : {a : List Token} {fields : List (List ℕ)} → SpellsFields a fields → are_plain a ≡ true
fields_plain g.no_field = refl
fields_plain (g.one_field n a fields d) = fields_plain d

pub place_plain : {a : List Token} {p : Place} → SpellsPlace a p → are_plain a ≡ true
place_plain (g.path n a fields d) = fields_plain d

mutual
  pub plain : {l : Level} {a : List Token} {e : Expression} → Spells l a e → are_plain a ≡ true
  plain (g.numeral n) = refl
  plain g.truth = refl
  plain g.falsity = refl
  plain (g.string bytes) = refl
  plain (g.reading a p d) = place_plain d
  plain (g.calling n a es d) = both_plain a (t.Symbol s.RightParen ∷ []) (items_plain d) refl
  plain (g.grouped a e d) = both_plain a (t.Symbol s.RightParen ∷ []) (plain d) refl
  plain (g.tupled a es d) = both_plain a (t.Symbol s.RightParen ∷ []) (tuple_plain d) refl
  plain (g.negative a e d) = plain d
  plain (g.factor_atom a e d) = plain d
  plain (g.term_factor a e d) = plain d
  plain (g.multiplied a b x j l r d h f) = with_token a b x (plain d) (joins_plain Term x j h) (plain f)
  plain (g.sum_term a e d) = plain d
  plain (g.added a b x j l r d h f) = with_token a b x (plain d) (joins_plain Sum x j h) (plain f)
  plain (g.comparison_sum a e d) = plain d
  plain (g.compared a b x j l r d h f) = with_token a b x (plain d) (joins_plain Comparison x j h) (plain f)
  plain (g.inverted a e d) = plain d
  plain (g.inversion_comparison a e d) = plain d
  plain (g.conjunction_inversion a e d) = plain d
  plain (g.conjoined a b x j l r d h f) = with_token a b x (plain d) (joins_plain Conjunction x j h) (plain f)
  plain (g.disjunction_conjunction a e d) = plain d
  plain (g.disjoined a b x j l r d h f) = with_token a b x (plain d) (joins_plain Disjunction x j h) (plain f)
  plain (g.whole_disjunction a e d) = plain d
  plain (g.chosen a b c x y z p q r) = with_token a (b ++ t.Keyword k.ElseWord ∷ c) (t.Keyword k.IfWord) (plain p) refl (with_token b c (t.Keyword k.ElseWord) (plain q) refl (plain r))

  tuple_plain : {a : List Token} {es : Expressions} → SpellsTuple a es → are_plain a ≡ true
  tuple_plain (g.parts a b e es d ds) = with_token a b (t.Symbol s.Comma) (plain d) refl (items_plain ds)

  items_plain : {a : List Token} {es : Expressions} → SpellsItems a es → are_plain a ≡ true
  items_plain g.no_items = refl
  items_plain (g.last_item a e d) = plain d
  items_plain (g.one_item a b e es d ds) = with_token a b (t.Symbol s.Comma) (plain d) refl (items_plain ds)

pub expressions_plain : {a : List Token} {e : Expression} → SpellsExpressions a e → are_plain a ≡ true
expressions_plain (g.single a e d) = plain d
expressions_plain (g.several a es d) = tuple_plain d
