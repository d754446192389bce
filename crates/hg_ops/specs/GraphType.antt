-- The types of values at the ports of a graph. An op has its types as lists; inside a type the lists are `Row` and
-- `Rows`, copies of lists that may lead back to the type.
use Rattle.std.specs.Prelude.{Bool, true, false, ◌||◌, List, [], ◌∷◌}

mutual
  -- A whole number, a qubit, a Sum: one of several rows, each with values of its types, or a function from the values of
  -- one row to those of another.
  pub data GraphType : Type 0 where
    Int : GraphType
    Qubit : GraphType
    Sum : Rows → GraphType
    Function : (ins outs : Row) → GraphType

  -- a list of types
  pub data Row : Type 0 where
    no_types : Row
    next : GraphType → Row → Row

  -- a list of rows
  pub data Rows : Type 0 where
    no_rows : Rows
    next_row : Row → Rows → Rows

-- a row as a list, and back
abbrev pub types : Row → List GraphType
types no_types = []
types (next t r) = t ∷ types r

abbrev pub row_of : List GraphType → Row
row_of [] = no_types
row_of (t ∷ ts) = next t (row_of ts)

-- rows as a list of lists, and back
abbrev pub row_lists : Rows → List (List GraphType)
row_lists no_rows = []
row_lists (next_row r rs) = types r ∷ row_lists rs

abbrev pub rows_of : List (List GraphType) → Rows
rows_of [] = no_rows
rows_of (ts ∷ rest) = next_row (row_of ts) (rows_of rest)

-- the Sum of these rows, and that of one row, as of a tuple
abbrev pub sum_type : List (List GraphType) → GraphType
sum_type rows = Sum (rows_of rows)

abbrev pub tuple_type : List GraphType → GraphType
tuple_type ts = sum_type (ts ∷ [])

-- the functions that take these types and give those
abbrev pub function_type : List GraphType → List GraphType → GraphType
function_type ins outs = Function (row_of ins) (row_of outs)

-- a truth value: row 0 for false, row 1 for true, both without values
abbrev pub bool_type : GraphType
bool_type = sum_type ([] ∷ [] ∷ [])

abbrev mutual
  -- a value of the type holds a qubit, or another value of it does: it has to be used exactly once; no function holds one
  pub is_linear : GraphType → Bool
  is_linear Int = false
  is_linear Qubit = true
  is_linear (Sum rs) = rows_linear rs
  is_linear (Function ins outs) = false

  pub row_linear : Row → Bool
  row_linear no_types = false
  row_linear (next t r) = is_linear t || row_linear r

  pub rows_linear : Rows → Bool
  rows_linear no_rows = false
  rows_linear (next_row r rs) = row_linear r || rows_linear rs
