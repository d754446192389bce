-- Which tokens spell which expression: a constructor for each alternative of the grammar, in the grammar's order.
use Rattle.std.specs.Prelude.{◌≡◌, ℕ, ℤ, true, false, List, [], ◌∷◌, ◌++◌, Option, Some, None}
use Rattle.gp_lex.specs.declared.token.Keyword.TheVariants as k
use Rattle.gp_lex.specs.declared.token.Symbol.TheVariants as s
use Rattle.gp_lex.specs.declared.token.Token.{Token}
use Rattle.gp_lex.specs.declared.token.Token.TheVariants as t
use Rattle.gp_form.specs.declared.level.Join.{Join}
use Rattle.gp_form.specs.declared.level.Join.TheVariants as join
use Rattle.gp_form.specs.declared.level.Level.{Level}
use Rattle.gp_form.specs.declared.level.Level.TheVariants.{Whole, Disjunction, Conjunction, Inversion, Comparison, Sum, Term, Factor, Atom}
use Rattle.gp_tree.specs.declared.expr.BinOp.TheVariants as op
use Rattle.gp_tree.specs.declared.place.Place.{Place}
use Rattle.gp_tree.specs.Expression.{Expression, number, boolean, text, place, minus, negation, binary, both, either, choice, tuple, call, Expressions, no_expressions, with_expression}

-- ---- places

abbrev pub place_of : List ℕ → List (List ℕ) → Place
place_of n fields = record { name = n; fields = fields }

-- {"." NAME}
pub data SpellsFields : List Token → List (List ℕ) → Type 0 where
  no_field : SpellsFields [] []
  one_field : (n : List ℕ) (a : List Token) (fields : List (List ℕ)) → SpellsFields a fields → SpellsFields (t.Symbol s.Dot ∷ t.Name n ∷ a) (n ∷ fields)

-- place = NAME {"." NAME}
pub data SpellsPlace : List Token → Place → Type 0 where
  path : (n : List ℕ) (a : List Token) (fields : List (List ℕ)) → SpellsFields a fields → SpellsPlace (t.Name n ∷ a) (place_of n fields)

-- ---- the operators of each level, and what they make of their operands

abbrev pub join_at : Level → Token → Option Join
join_at Term (t.Symbol s.Star) = Some (join.By op.Mul)
join_at Term (t.Symbol s.FloorDiv) = Some (join.By op.FloorDiv)
join_at Term (t.Symbol s.Percent) = Some (join.By op.Mod)
join_at Sum (t.Symbol s.Plus) = Some (join.By op.Add)
join_at Sum (t.Symbol s.Minus) = Some (join.By op.Sub)
join_at Comparison (t.Symbol s.Equal) = Some (join.By op.Eq)
join_at Comparison (t.Symbol s.NotEqual) = Some (join.By op.Ne)
join_at Comparison (t.Symbol s.Less) = Some (join.By op.Lt)
join_at Comparison (t.Symbol s.LessEqual) = Some (join.By op.Le)
join_at Comparison (t.Symbol s.Greater) = Some (join.By op.Gt)
join_at Comparison (t.Symbol s.GreaterEqual) = Some (join.By op.Ge)
join_at Conjunction (t.Keyword k.AndWord) = Some join.And
join_at Disjunction (t.Keyword k.OrWord) = Some join.Or
join_at _ _ = None

abbrev pub joined : Join → Expression → Expression → Expression
joined join.And left right = both left right
joined join.Or left right = either left right
joined (join.By o) left right = binary o left right

-- ---- expressions

mutual
  -- these tokens spell this expression at this level
  pub data Spells : Level → List Token → Expression → Type 0 where
    -- atom = NUMBER | "True" | "False" | STRING | place | call | "(" expression ")" | "(" tuple ")"
    -- call = NAME "(" [items] ")"
    numeral : (n : ℤ) → Spells Atom (t.Number n ∷ []) (number n)
    truth : Spells Atom (t.Keyword k.TrueWord ∷ []) (boolean true)
    falsity : Spells Atom (t.Keyword k.FalseWord ∷ []) (boolean false)
    string : (bytes : List ℕ) → Spells Atom (t.Text bytes ∷ []) (text bytes)
    reading : (a : List Token) (p : Place) → SpellsPlace a p → Spells Atom a (place p)
    calling : (n : List ℕ) (a : List Token) (es : Expressions) → SpellsItems a es → Spells Atom (t.Name n ∷ t.Symbol s.LeftParen ∷ (a ++ t.Symbol s.RightParen ∷ [])) (call n es)
    grouped : (a : List Token) (e : Expression) → Spells Whole a e → Spells Atom (t.Symbol s.LeftParen ∷ (a ++ t.Symbol s.RightParen ∷ [])) e
    tupled : (a : List Token) (es : Expressions) → SpellsTuple a es → Spells Atom (t.Symbol s.LeftParen ∷ (a ++ t.Symbol s.RightParen ∷ [])) (tuple es)
    -- factor = "-" factor | atom
    negative : (a : List Token) (e : Expression) → Spells Factor a e → Spells Factor (t.Symbol s.Minus ∷ a) (minus e)
    factor_atom : (a : List Token) (e : Expression) → Spells Atom a e → Spells Factor a e
    -- term = factor {("*" | "//" | "%") factor}
    term_factor : (a : List Token) (e : Expression) → Spells Factor a e → Spells Term a e
    multiplied : (a b : List Token) (x : Token) (j : Join) (left right : Expression) → Spells Term a left → join_at Term x ≡ Some j → Spells Factor b right → Spells Term (a ++ x ∷ b) (joined j left right)
    -- sum = term {("+" | "-") term}
    sum_term : (a : List Token) (e : Expression) → Spells Term a e → Spells Sum a e
    added : (a b : List Token) (x : Token) (j : Join) (left right : Expression) → Spells Sum a left → join_at Sum x ≡ Some j → Spells Term b right → Spells Sum (a ++ x ∷ b) (joined j left right)
    -- comparison = sum [("==" | "!=" | "<" | "<=" | ">" | ">=") sum]
    comparison_sum : (a : List Token) (e : Expression) → Spells Sum a e → Spells Comparison a e
    compared : (a b : List Token) (x : Token) (j : Join) (left right : Expression) → Spells Sum a left → join_at Comparison x ≡ Some j → Spells Sum b right → Spells Comparison (a ++ x ∷ b) (joined j left right)
    -- inversion = "not" inversion | comparison
    inverted : (a : List Token) (e : Expression) → Spells Inversion a e → Spells Inversion (t.Keyword k.NotWord ∷ a) (negation e)
    inversion_comparison : (a : List Token) (e : Expression) → Spells Comparison a e → Spells Inversion a e
    -- conjunction = inversion {"and" inversion}
    conjunction_inversion : (a : List Token) (e : Expression) → Spells Inversion a e → Spells Conjunction a e
    conjoined : (a b : List Token) (x : Token) (j : Join) (left right : Expression) → Spells Conjunction a left → join_at Conjunction x ≡ Some j → Spells Inversion b right → Spells Conjunction (a ++ x ∷ b) (joined j left right)
    -- disjunction = conjunction {"or" conjunction}
    disjunction_conjunction : (a : List Token) (e : Expression) → Spells Conjunction a e → Spells Disjunction a e
    disjoined : (a b : List Token) (x : Token) (j : Join) (left right : Expression) → Spells Disjunction a left → join_at Disjunction x ≡ Some j → Spells Conjunction b right → Spells Disjunction (a ++ x ∷ b) (joined j left right)
    -- expression = disjunction ["if" disjunction "else" expression]
    whole_disjunction : (a : List Token) (e : Expression) → Spells Disjunction a e → Spells Whole a e
    chosen : (a b c : List Token) (value test other : Expression) → Spells Disjunction a value → Spells Disjunction b test → Spells Whole c other → Spells Whole (a ++ t.Keyword k.IfWord ∷ (b ++ t.Keyword k.ElseWord ∷ c)) (choice test value other)

  -- tuple = expression "," [items]
  pub data SpellsTuple : List Token → Expressions → Type 0 where
    parts : (a b : List Token) (e : Expression) (es : Expressions) → Spells Whole a e → SpellsItems b es → SpellsTuple (a ++ t.Symbol s.Comma ∷ b) (with_expression e es)

  -- [items], where items = expression {"," expression} [","]: nothing, or an expression alone, or one with a
  -- comma behind it, and then the same again
  pub data SpellsItems : List Token → Expressions → Type 0 where
    no_items : SpellsItems [] no_expressions
    last_item : (a : List Token) (e : Expression) → Spells Whole a e → SpellsItems a (with_expression e no_expressions)
    one_item : (a b : List Token) (e : Expression) (es : Expressions) → Spells Whole a e → SpellsItems b es → SpellsItems (a ++ t.Symbol s.Comma ∷ b) (with_expression e es)

-- An expression, or a tuple without its parentheses: expressions = expression | tuple
pub data SpellsExpressions : List Token → Expression → Type 0 where
  single : (a : List Token) (e : Expression) → Spells Whole a e → SpellsExpressions a e
  several : (a : List Token) (es : Expressions) → SpellsTuple a es → SpellsExpressions a (tuple es)
