-- The text of a type is read as the type.
use Rattle.std.proofs.Common.{◌≡◌, ◌≤◌, ◌<◌, ◌+◌, ℕ, zero, suc, List, [], ◌∷◌, length, true, false, Option, Some, None, refl, ap, ap₂, ◌∙◌, arith}
use Rattle.hg_ops.specs.GraphType.{GraphType, Int, Qubit, Sum, Function, Row, no_types, next, Rows, no_rows, next_row, types, row_of, row_lists, rows_of}
use Rattle.hg_json.specs.declared.profile.Profile.TheVariants as profile
use Rattle.hg_json.specs.InHand.{IsSpelled}
use Rattle.hg_json.specs.Steps.{past, separated}
use Rattle.hg_json.specs.TypeText.{comma, bar, colon, close_sum, close_function, type_onto, row_onto, more_types_onto, rows_onto, more_rows_onto, type_text, HasText, RowHasText, RowsHaveText, brackets, row_brackets, rows_brackets, past_int, past_qubit, ends_row, row_from, sum_from, function_from, bracketed_from, plain_or, type_at, type_of}

row_of-types : (r : Row) → row_of (types r) ≡ r
row_of-types no_types = refl
row_of-types (next t r) = ap (next t) (row_of-types r)

rows_of-row_lists : (rs : Rows) → rows_of (row_lists rs) ≡ rs
rows_of-row_lists no_rows = refl
rows_of-row_lists (next_row r rs) = ap₂ next_row (row_of-types r) (rows_of-row_lists rs)

-- lengths
abbrev mutual
  row_len : Row → ℕ
  row_len no_types = 0
  row_len (next t ts) = suc (row_len ts)

  rows_len : Rows → ℕ
  rows_len no_rows = 0
  rows_len (next_row r rs) = suc (rows_len rs)

mutual
  type_long : (t : GraphType) (rest : List ℕ) → suc (length rest) ≤ length (type_onto t rest)
  type_long Int rest = omega arith
  type_long Qubit rest = omega arith
  type_long (Sum rs) rest = omega (arith, rows_long rs (close_sum ∷ rest))
  type_long (Function ins outs) rest = omega (arith, row_long ins (colon ∷ row_onto outs (close_function ∷ rest)), row_long outs (close_function ∷ rest))

  row_long : (r : Row) (rest : List ℕ) → row_len r + length rest ≤ length (row_onto r rest)
  row_long no_types rest = omega arith
  row_long (next t ts) rest = omega (arith, type_long t (more_types_onto ts rest), more_types_long ts rest)

  more_types_long : (r : Row) (rest : List ℕ) → row_len r + length rest ≤ length (more_types_onto r rest)
  more_types_long no_types rest = omega arith
  more_types_long (next t ts) rest = omega (arith, type_long t (more_types_onto ts rest), more_types_long ts rest)

  rows_long : (rs : Rows) (rest : List ℕ) → length rest ≤ length (rows_onto rs rest)
  rows_long no_rows rest = omega arith
  rows_long (next_row r rs) rest = omega (arith, row_long r (more_rows_onto rs rest), more_rows_long rs rest)

  more_rows_long : (rs : Rows) (rest : List ℕ) → rows_len rs + length rest ≤ length (more_rows_onto rs rest)
  more_rows_long no_rows rest = omega arith
  more_rows_long (next_row r rs) rest = omega (arith, row_long r (more_rows_onto rs rest), more_rows_long rs rest)

-- what stands behind a row
record Stops (bs : List ℕ) : Type 0 where
  ends : ends_row bs ≡ true
  further : past comma bs ≡ None

stops_bar : (bs : List ℕ) → Stops (bar ∷ bs)
unfolding ends_row past
stops_bar bs = record { ends = refl; further = refl }

stops_sum : (bs : List ℕ) → Stops (close_sum ∷ bs)
unfolding ends_row past
stops_sum bs = record { ends = refl; further = refl }

stops_colon : (bs : List ℕ) → Stops (colon ∷ bs)
unfolding ends_row past
stops_colon bs = record { ends = refl; further = refl }

stops_function : (bs : List ℕ) → Stops (close_function ∷ bs)
unfolding ends_row past
stops_function bs = record { ends = refl; further = refl }

stops_rows : (rs : Rows) (rest : List ℕ) → Stops (more_rows_onto rs (close_sum ∷ rest))
stops_rows no_rows rest = stops_sum rest
stops_rows (next_row r rs) rest = stops_bar (row_onto r (more_rows_onto rs (close_sum ∷ rest)))

-- a type begins with nothing that ends a row
begins_type : (t : GraphType) (rest : List ℕ) → ends_row (type_onto t rest) ≡ false
unfolding ends_row
begins_type Int rest = refl
begins_type Qubit rest = refl
begins_type (Sum rs) rest = refl
begins_type (Function ins outs) rest = refl

-- ---- one step of reading

row_none : (d : ℕ) (s : List ℕ) → Stops s → row_from profile.Second (type_at profile.Second d) s ≡ Some ([], s)
unfolding row_from
row_none d s stop = rw stop.ends refl

row_some : (d : ℕ) (bs : List ℕ) → ends_row bs ≡ false → row_from profile.Second (type_at profile.Second d) bs ≡ separated (type_at profile.Second d) comma (length bs) bs
unfolding row_from
row_some d bs more = rw more refl

module _ {A : Type 0} (entry : List ℕ → Option (A × List ℕ)) (mark n : ℕ) (bs behind : List ℕ) (x : A) (read : entry bs ≡ Some (x, behind)) where
  the_last : past mark behind ≡ None → separated entry mark (suc n) bs ≡ Some (x ∷ [], behind)
  unfolding separated
  the_last ends = rw (read, ends) refl

  one_more : (rest s : List ℕ) (xs : List A) → past mark behind ≡ Some rest → separated entry mark n rest ≡ Some (xs, s) → separated entry mark (suc n) bs ≡ Some (x ∷ xs, s)
  unfolding separated
  one_more rest s xs more others = rw (read, more, others) refl

mutual
  unfolding type_at plain_or past_int past_qubit past bracketed_from sum_from function_from

  type_back : (t : GraphType) (d : ℕ) (rest : List ℕ) → HasText t → brackets t ≤ d → type_at profile.Second d (type_onto t rest) ≡ Some (t, rest)
  type_back Int zero rest h l = refl
  type_back Int (suc d) rest h l = refl
  type_back Qubit zero rest h l = refl
  type_back Qubit (suc d) rest h l = refl
  type_back (Sum no_rows) d rest h l = absurd h
  type_back (Sum (next_row r rs)) zero rest h l = absurd (omega arith)
  type_back (Sum (next_row r rs)) (suc d) rest h l =
      let behind = more_rows_onto rs (close_sum ∷ rest) in
      rw (rows_back r rs d (length (row_onto r behind)) rest (row_back r d behind h.0 (omega arith) (stops_rows rs rest)) h.1 (omega arith) (omega (arith, row_long r behind, more_rows_long rs (close_sum ∷ rest))), row_of-types r, rows_of-row_lists rs) refl
  type_back (Function ins outs) zero rest h l = absurd (omega arith)
  type_back (Function ins outs) (suc d) rest h l =
      let behind = close_function ∷ rest in
      rw (row_back ins d (colon ∷ row_onto outs behind) h.0 (omega arith) (stops_colon _), row_back outs d behind h.1 (omega arith) (stops_function rest), row_of-types ins, row_of-types outs) refl

  row_back : (r : Row) (d : ℕ) (s : List ℕ) → RowHasText r → row_brackets r ≤ d → Stops s → row_from profile.Second (type_at profile.Second d) (row_onto r s) ≡ Some (types r, s)
  row_back no_types d s h l stop = row_none d s stop
  row_back (next t ts) d s h l stop =
      let bs = type_onto t (more_types_onto ts s) in
      row_some d bs (begins_type t (more_types_onto ts s))
      ∙ types_back t ts d (length bs) s (type_back t d (more_types_onto ts s) h.0 (omega arith)) h.1 (omega arith) (omega (arith, type_long t (more_types_onto ts s), more_types_long ts s)) stop

  types_back : (t : GraphType) (ts : Row) (d n : ℕ) (s : List ℕ) → type_at profile.Second d (type_onto t (more_types_onto ts s)) ≡ Some (t, more_types_onto ts s) → RowHasText ts → row_brackets ts ≤ d → row_len ts < n → Stops s
      → separated (type_at profile.Second d) comma n (type_onto t (more_types_onto ts s)) ≡ Some (t ∷ types ts, s)
  types_back t ts d zero s first hs ls k stop = absurd (omega arith)
  types_back t no_types d (suc n) s first hs ls k stop = the_last (type_at profile.Second d) comma n (type_onto t s) s t first stop.further
  types_back t (next u us) d (suc n) s first hs ls k stop =
      let more = type_onto u (more_types_onto us s) in
      one_more (type_at profile.Second d) comma n (type_onto t (comma ∷ more)) (comma ∷ more) t first more s (u ∷ types us) refl
      (types_back u us d n s (type_back u d (more_types_onto us s) hs.0 (omega arith)) hs.1 (omega arith) (omega arith) stop)

  rows_back : (r : Row) (rs : Rows) (d n : ℕ) (rest : List ℕ)
      → row_from profile.Second (type_at profile.Second d) (row_onto r (more_rows_onto rs (close_sum ∷ rest))) ≡ Some (types r, more_rows_onto rs (close_sum ∷ rest)) → RowsHaveText rs → rows_brackets rs ≤ d → rows_len rs < n
      → separated (row_from profile.Second (type_at profile.Second d)) bar n (row_onto r (more_rows_onto rs (close_sum ∷ rest))) ≡ Some (types r ∷ row_lists rs, close_sum ∷ rest)
  rows_back r rs d zero rest first hs ls k = absurd (omega arith)
  rows_back r no_rows d (suc n) rest first hs ls k =
      let behind = close_sum ∷ rest in
      the_last (row_from profile.Second (type_at profile.Second d)) bar n (row_onto r behind) behind (types r) first refl
  rows_back r (next_row q qs) d (suc n) rest first hs ls k =
      let behind = more_rows_onto qs (close_sum ∷ rest) in
      let more = row_onto q behind in
      one_more (row_from profile.Second (type_at profile.Second d)) bar n (row_onto r (bar ∷ more)) (bar ∷ more) (types r) first more (close_sum ∷ rest) (types q ∷ row_lists qs) refl
      (rows_back q qs d n rest (row_back q d behind hs.0 (omega arith) (stops_rows qs rest)) hs.1 (omega arith) (omega arith))

pub type_again : (t : GraphType) → IsSpelled t → type_of profile.Second (type_text t) ≡ Some t
unfolding type_of
type_again t h = rw (type_back t 100 [] h.text h.shallow) refl
