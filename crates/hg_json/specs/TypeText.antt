-- The text of a type, and the type that a text spells. The rows of a Sum stand in round brackets with bars between. A
-- function's types stand in square brackets: its inputs, a colon, its outputs. The types of a row have commas between.
-- Nothing else stands there, blanks neither.
use Rattle.std.specs.Prelude.{ℕ, zero, suc, max, Bool, true, false, ◌==◌, ◌||◌, List, [], ◌∷◌, length, Option, Some, None, if◌then◌else◌, ⊤}
use Rattle.hg_ops.specs.GraphType.{GraphType, Int, Qubit, Sum, Function, Row, no_types, next, Rows, no_rows, next_row, sum_type, function_type}
use Rattle.hg_json.specs.Steps.{◌>>=◌, found, past, separated}
use Rattle.hg_json.specs.declared.profile.Profile.{Profile}
use Rattle.hg_json.specs.declared.profile.Profile.TheVariants as profile

-- ---- the marks

abbrev pub comma : ℕ
comma = 44

abbrev pub bar : ℕ
bar = 124

abbrev pub colon : ℕ
colon = 58

-- round and square brackets
abbrev pub open_sum : ℕ
open_sum = 40

abbrev pub close_sum : ℕ
close_sum = 41

abbrev pub open_function : ℕ
open_function = 91

abbrev pub close_function : ℕ
close_function = 93

-- ---- the text

-- the text, in front of what follows it
abbrev mutual
  pub type_onto : GraphType → List ℕ → List ℕ
  -- int
  type_onto Int rest = 105 ∷ 110 ∷ 116 ∷ rest
  -- qubit
  type_onto Qubit rest = 113 ∷ 117 ∷ 98 ∷ 105 ∷ 116 ∷ rest
  type_onto (Sum rows) rest = open_sum ∷ rows_onto rows (close_sum ∷ rest)
  type_onto (Function ins outs) rest = open_function ∷ row_onto ins (colon ∷ row_onto outs (close_function ∷ rest))

  pub row_onto : Row → List ℕ → List ℕ
  row_onto no_types rest = rest
  row_onto (next t ts) rest = type_onto t (more_types_onto ts rest)

  -- types behind another one
  pub more_types_onto : Row → List ℕ → List ℕ
  more_types_onto no_types rest = rest
  more_types_onto (next t ts) rest = comma ∷ type_onto t (more_types_onto ts rest)

  pub rows_onto : Rows → List ℕ → List ℕ
  rows_onto no_rows rest = rest
  rows_onto (next_row r rs) rest = row_onto r (more_rows_onto rs rest)

  -- rows behind another one
  pub more_rows_onto : Rows → List ℕ → List ℕ
  more_rows_onto no_rows rest = rest
  more_rows_onto (next_row r rs) rest = bar ∷ row_onto r (more_rows_onto rs rest)

abbrev pub type_text : GraphType → List ℕ
type_text t = type_onto t []

-- Which types have a text of their own: each Sum in them has a row. (The text of a Sum without rows is that of the
-- Sum of one row without types.)
abbrev mutual
  pub HasText : GraphType → Type 0
  HasText Int = ⊤
  HasText Qubit = ⊤
  HasText (Sum no_rows) = ⊥
  HasText (Sum (next_row r rs)) = RowHasText r × RowsHaveText rs
  HasText (Function ins outs) = RowHasText ins × RowHasText outs

  pub RowHasText : Row → Type 0
  RowHasText no_types = ⊤
  RowHasText (next t ts) = HasText t × RowHasText ts

  pub RowsHaveText : Rows → Type 0
  RowsHaveText no_rows = ⊤
  RowsHaveText (next_row r rs) = RowHasText r × RowsHaveText rs

-- how many brackets are open at once in the text
abbrev mutual
  pub brackets : GraphType → ℕ
  brackets Int = 0
  brackets Qubit = 0
  brackets (Sum rows) = suc (rows_brackets rows)
  brackets (Function ins outs) = suc (max (row_brackets ins) (row_brackets outs))

  pub row_brackets : Row → ℕ
  row_brackets no_types = 0
  row_brackets (next t ts) = max (brackets t) (row_brackets ts)

  pub rows_brackets : Rows → ℕ
  rows_brackets no_rows = 0
  rows_brackets (next_row r rs) = max (row_brackets r) (rows_brackets rs)

-- ---- reading

-- whether a version has functions as values
abbrev pub has_functions : Profile → Bool
has_functions profile.First = false
has_functions profile.Second = true

-- what stands behind a word
unfoldable pub past_int : List ℕ → Option (List ℕ)
past_int bs = past 105 bs >>= past 110 >>= past 116

unfoldable pub past_qubit : List ℕ → Option (List ℕ)
past_qubit bs = past 113 bs >>= past 117 >>= past 98 >>= past 105 >>= past 116

-- whether a row ends before its first type
unfoldable pub ends_row : List ℕ → Bool
ends_row [] = true
ends_row (b ∷ bs) = (b == bar) || (b == close_sum) || (b == colon) || (b == close_function)

module _ (version : Profile) (inner : List ℕ → Option (GraphType × List ℕ)) where
  -- a row, before what ends it
  unfoldable pub row_from : List ℕ → Option (List GraphType × List ℕ)
  row_from bs = if ends_row bs then Some ([], bs) else separated inner comma (length bs) bs

  -- a Sum behind its bracket
  unfoldable pub sum_from : List ℕ → Option (GraphType × List ℕ)
  sum_from bs = separated row_from bar (length bs) bs >>= λ rows. past close_sum rows.1 >>= λ rest. Some (sum_type rows.0, rest)

  -- a function behind its bracket
  unfoldable pub function_from : List ℕ → Option (GraphType × List ℕ)
  function_from bs =
      row_from bs >>= λ ins. past colon ins.1 >>= λ more.
      row_from more >>= λ outs. past close_function outs.1 >>= λ rest. Some (function_type ins.0 outs.0, rest)

  -- a type with brackets
  unfoldable pub bracketed_from : List ℕ → Option (GraphType × List ℕ)
  bracketed_from bs =
      found (past open_sum bs) sum_from
      (if has_functions version then (past open_function bs >>= function_from) else None)

-- a type without brackets, or another one
unfoldable pub plain_or : Option (GraphType × List ℕ) → List ℕ → Option (GraphType × List ℕ)
plain_or other bs = found (past_int bs) (λ rest. Some (Int, rest)) (found (past_qubit bs) (λ rest. Some (Qubit, rest)) other)

-- a type at the front, with at most so many brackets open at once, and what stands behind it
unfoldable pub type_at : Profile → ℕ → List ℕ → Option (GraphType × List ℕ)
type_at version zero bs = plain_or None bs
type_at version (suc n) bs = plain_or (bracketed_from version (type_at version n) bs) bs

-- the most brackets that are open at once in a text that is read
abbrev pub most_brackets : ℕ
most_brackets = 100

abbrev pub whole : GraphType × List ℕ → Option GraphType
whole (t, []) = Some t
whole (t, b ∷ bs) = None

-- the type that a text spells in a version
unfoldable pub type_of : Profile → List ℕ → Option GraphType
type_of version bs = type_at version most_brackets bs >>= whole
