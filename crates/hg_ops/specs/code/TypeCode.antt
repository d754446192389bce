-- Types as data by which the check tells values apart.
use Rattle.std.specs.Prelude.{◌≡◌, List}
use Rattle.std.specs.Coded.{Coded, coded_list}
use base.Stored.{Gv, gnil, gnum, gcons}
use Rattle.std.proofs.Common.{refl, ap}
use Rattle.hg_ops.specs.GraphType.{GraphType, Int, Qubit, Sum, Function, Row, no_types, next, Rows, no_rows, next_row}

-- the types at some ports, in order
abbrev pub Types : Type 0
Types = List GraphType

abbrev mutual
  pub type_code : GraphType → Gv
  type_code Int = gnil
  type_code Qubit = gnum 0
  type_code (Sum rows) = gcons gnil (rows_code rows)
  type_code (Function ins outs) = gcons (gnum 0) (gcons (row_code ins) (row_code outs))

  pub row_code : Row → Gv
  row_code no_types = gnil
  row_code (next type row) = gcons (type_code type) (row_code row)

  pub rows_code : Rows → Gv
  rows_code no_rows = gnil
  rows_code (next_row row rows) = gcons (row_code row) (rows_code rows)

abbrev head : Gv → Gv
head (gcons a b) = a
head _ = gnil

abbrev tail : Gv → Gv
tail (gcons a b) = b
tail _ = gnil

mutual
  pub type_code-inj : (a b : GraphType) → type_code a ≡ type_code b → a ≡ b
  type_code-inj Int Int e = refl
  type_code-inj Int Qubit e = cc
  type_code-inj Int (Sum rows) e = cc
  type_code-inj Int (Function ins outs) e = cc
  type_code-inj Qubit Int e = cc
  type_code-inj Qubit Qubit e = refl
  type_code-inj Qubit (Sum rows) e = cc
  type_code-inj Qubit (Function ins outs) e = cc
  type_code-inj (Sum rows) Int e = cc
  type_code-inj (Sum rows) Qubit e = cc
  type_code-inj (Sum a) (Sum b) e = ap Sum (rows_code-inj a b (ap tail e))
  type_code-inj (Sum rows) (Function ins outs) e = cc
  type_code-inj (Function ins outs) Int e = cc
  type_code-inj (Function ins outs) Qubit e = cc
  type_code-inj (Function ins outs) (Sum rows) e = cc
  type_code-inj (Function a b) (Function c d) e = λ i. Function (row_code-inj a c (ap (λ x. head (tail x)) e) i) (row_code-inj b d (ap (λ x. tail (tail x)) e) i)

  pub row_code-inj : (a b : Row) → row_code a ≡ row_code b → a ≡ b
  row_code-inj no_types no_types e = refl
  row_code-inj no_types (next type row) e = cc
  row_code-inj (next type row) no_types e = cc
  row_code-inj (next a as_) (next b bs) e = λ i. next (type_code-inj a b (ap head e) i) (row_code-inj as_ bs (ap tail e) i)

  pub rows_code-inj : (a b : Rows) → rows_code a ≡ rows_code b → a ≡ b
  rows_code-inj no_rows no_rows e = refl
  rows_code-inj no_rows (next_row row rows) e = cc
  rows_code-inj (next_row row rows) no_rows e = cc
  rows_code-inj (next_row a as_) (next_row b bs) e = λ i. next_row (row_code-inj a b (ap head e) i) (rows_code-inj as_ bs (ap tail e) i)

abbrev pub coded_type : Coded GraphType
coded_type = record { code = type_code; inj = type_code-inj }

abbrev pub coded_types : Coded Types
coded_types = coded_list coded_type
