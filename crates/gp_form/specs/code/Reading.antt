-- Reading expressions and places from left to right.
use Rattle.std.specs.Prelude.{ℕ, zero, suc, ◌+◌, Bool, true, false, List, [], ◌∷◌, ◌++◌, length, Option, Some, None}
use Rattle.gp_lex.specs.declared.token.Keyword.{Keyword}
use Rattle.gp_lex.specs.declared.token.Keyword.TheVariants as k
use Rattle.gp_lex.specs.declared.token.Symbol.TheVariants as s
use Rattle.gp_lex.specs.declared.token.Token.{Token}
use Rattle.gp_lex.specs.declared.token.Token.TheVariants as t
use Rattle.gp_form.specs.declared.level.Join.{Join}
use Rattle.gp_form.specs.declared.level.Level.{Level}
use Rattle.gp_form.specs.declared.level.Level.TheVariants.{Whole, Disjunction, Conjunction, Inversion, Comparison, Sum, Term, Factor, Atom}
use Rattle.gp_form.specs.declared.list_end.ListEnd.{ListEnd}
use Rattle.gp_form.specs.declared.list_end.ListEnd.TheVariants as end
use Rattle.gp_form.specs.Grammar.{join_at, joined, place_of}
use Rattle.gp_form.specs.code.Steps.{Read, ◌>>=◌, found, past_symbol, past_word, past_name}
use Rattle.gp_tree.specs.declared.place.Place.{Place}
use Rattle.gp_tree.specs.Expression.{Expression, number, boolean, text, place, minus, negation, choice, tuple, call, with_expression, expressions_of}

-- ---- places

-- fields behind dots, as long as they come, for at most so many turns, behind those that were found before
unfoldable pub fields_from : ℕ → List (List ℕ) → Read (List (List ℕ))
fields_from zero fields ts = Some (fields, ts)
fields_from (suc n) fields ts = found (past_symbol s.Dot ts) (λ rest. past_name rest >>= λ x. fields_from n (fields ++ x.0 ∷ []) x.1) (Some (fields, ts))

-- the place that this name begins, behind the name
unfoldable pub path_from : List ℕ → Read Place
path_from n ts = fields_from (length ts) [] ts >>= λ x. Some (place_of n x.0, x.1)

unfoldable pub place_front : Read Place
place_front ts = past_name ts >>= λ x. path_from x.0 x.1

-- ---- operators

-- what joins at this level, and the tokens after it
abbrev pub with_join : Option Join → Read Join
with_join (Some j) ts = Some (j, ts)
with_join None ts = None

unfoldable pub past_join : Level → Read Join
past_join l [] = None
past_join l (x ∷ ts) = with_join (join_at l x) ts

-- operators of a level and their right operands, as long as they come, for at most so many turns
unfoldable pub chain_from : Level → Read Expression → ℕ → Expression → Read Expression
chain_from l next zero left ts = Some (left, ts)
chain_from l next (suc n) left ts = found (past_join l ts) (λ j. next j.1 >>= λ x. chain_from l next n (joined j.0 left x.0) x.1) (Some (left, ts))

unfoldable pub chain : Level → Read Expression → Read Expression
chain l next ts = next ts >>= λ x. chain_from l next (length ts) x.0 x.1

-- ---- the end of a list

abbrev pub at_end : List Token → Option (List Token)
at_end [] = Some []
at_end (x ∷ ts) = None

-- the tokens behind the end, where it stands at the front
unfoldable pub past_end : ListEnd → List Token → Option (List Token)
past_end end.Paren ts = past_symbol s.RightParen ts
past_end end.Line ts = at_end ts

-- ---- levels

abbrev pub truth_of : Keyword → Option Bool
truth_of k.TrueWord = Some true
truth_of k.FalseWord = Some false
truth_of _ = None

-- Inside brackets and behind a prefix each level is read by inner.
module _ (inner : Level → Read Expression) where
  -- what stands behind an item: the end, or a comma and more items
  abbrev pub after_item : ListEnd → Expression → Read (List Expression) → Read (List Expression)
  after_item to e go ts = found (past_end to ts) (λ rest. Some (e ∷ [], rest)) (found (past_symbol s.Comma ts) (λ rest. go rest >>= λ x. Some (e ∷ x.0, x.1)) None)

  -- items up to the end, for at most so many turns
  unfoldable pub items_from : ListEnd → ℕ → Read (List Expression)
  items_from to zero ts = found (past_end to ts) (λ rest. Some ([], rest)) None
  items_from to (suc n) ts = found (past_end to ts) (λ rest. Some ([], rest)) (inner Whole ts >>= λ x. after_item to x.0 (items_from to n) x.1)

  unfoldable pub items : ListEnd → Read (List Expression)
  items to ts = items_from to (length ts) ts

  -- an expression, or a tuple without its parentheses, up to the end
  unfoldable pub expressions : ListEnd → Read Expression
  expressions to ts = inner Whole ts >>= λ x. found (past_end to x.1) (λ rest. Some (x.0, rest))
      (found (past_symbol s.Comma x.1) (λ rest. items to rest >>= λ y. Some (tuple (with_expression x.0 (expressions_of y.0)), y.1)) None)

  -- behind a name
  unfoldable pub named : List ℕ → Read Expression
  named n ts = found (past_symbol s.LeftParen ts) (λ rest. items end.Paren rest >>= λ x. Some (call n (expressions_of x.0), x.1))
      (path_from n ts >>= λ x. Some (place x.0, x.1))

  unfoldable pub atom : Read Expression
  atom (t.Number n ∷ ts) = Some (number n, ts)
  atom (t.Keyword x ∷ ts) = truth_of x >>= λ b. Some (boolean b, ts)
  atom (t.Text bytes ∷ ts) = Some (text bytes, ts)
  atom (t.Name n ∷ ts) = named n ts
  atom (t.Symbol x ∷ ts) = found (past_symbol s.LeftParen (t.Symbol x ∷ ts)) (expressions end.Paren) None
  atom [] = None

  unfoldable pub factor : Read Expression
  factor ts = found (past_symbol s.Minus ts) (λ rest. inner Factor rest >>= λ x. Some (minus x.0, x.1)) (atom ts)

  abbrev pub term : Read Expression
  term = chain Term factor

  abbrev pub sum : Read Expression
  sum = chain Sum term

  unfoldable pub comparison : Read Expression
  comparison ts = sum ts >>= λ x. found (past_join Comparison x.1) (λ j. sum j.1 >>= λ y. Some (joined j.0 x.0 y.0, y.1)) (Some x)

  unfoldable pub inversion : Read Expression
  inversion ts = found (past_word k.NotWord ts) (λ rest. inner Inversion rest >>= λ x. Some (negation x.0, x.1)) (comparison ts)

  abbrev pub conjunction : Read Expression
  conjunction = chain Conjunction inversion

  abbrev pub disjunction : Read Expression
  disjunction = chain Disjunction conjunction

  unfoldable pub whole : Read Expression
  whole ts = disjunction ts >>= λ x. found (past_word k.IfWord x.1)
      (λ rest. disjunction rest >>= λ y. found (past_word k.ElseWord y.1) (λ rest. inner Whole rest >>= λ z. Some (choice y.0 x.0 z.0, z.1)) None)
      (Some x)

  abbrev pub level : Level → Read Expression
  level Whole = whole
  level Disjunction = disjunction
  level Conjunction = conjunction
  level Inversion = inversion
  level Comparison = comparison
  level Sum = sum
  level Term = term
  level Factor = factor
  level Atom = atom

-- the level of the operands
abbrev pub tighter : Level → Level
tighter Whole = Disjunction
tighter Disjunction = Conjunction
tighter Conjunction = Inversion
tighter Inversion = Comparison
tighter Comparison = Sum
tighter Sum = Term
tighter Term = Factor
tighter Factor = Atom
tighter Atom = Atom

-- how many levels are tighter
abbrev pub looseness : Level → ℕ
looseness Whole = 8
looseness Disjunction = 7
looseness Conjunction = 6
looseness Inversion = 5
looseness Comparison = 4
looseness Sum = 3
looseness Term = 2
looseness Factor = 1
looseness Atom = 0

-- at most so deep
unfoldable pub read : ℕ → Level → Read Expression
read zero l ts = None
read (suc n) l ts = level (read n) l ts

-- ---- what the forms of lines want

-- an expression at the front
unfoldable pub expression_front : Read Expression
expression_front ts = level (read (length ts)) Whole ts

-- an expression, or a tuple without its parentheses, and no token behind it
unfoldable pub all_expressions : List Token → Option Expression
all_expressions ts = expressions (read (length ts + 1)) end.Line ts >>= λ x. Some x.0
