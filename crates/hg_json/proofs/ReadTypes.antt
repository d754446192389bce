-- A type that was read is one that is written: each Sum has a row, and few brackets are open at once.
use Rattle.std.proofs.Common.{ℕ, zero, suc, ◌<◌, ◌≤◌, List, [], ◌∷◌, length, Option, Some, None, arith}
use Rattle.hg_ops.specs.GraphType.{GraphType, Int, Qubit, row_of, rows_of, sum_type, function_type}
use Rattle.hg_json.specs.declared.profile.Profile.{Profile}
use Rattle.hg_json.specs.InHand.{IsSpelled}
use Rattle.hg_json.specs.Steps.{◌>>=◌, found, past, separated}
use Rattle.hg_json.specs.TypeText.{comma, bar, colon, open_sum, close_sum, open_function, close_function, HasText, RowHasText, RowsHaveText, brackets, row_brackets, rows_brackets, has_functions, past_int, past_qubit, ends_row, row_from, sum_from, function_from, bracketed_from, plain_or, type_at, most_brackets, whole, type_of}
use Rattle.hg_json.proofs.Yields.{Yields, Each, yields_any, yields_from, yields_if, yields_found}

-- a type with a text in which at most so many brackets are open at once
abbrev Spelled : ℕ → GraphType → Type 0
Spelled d t = HasText t × (brackets t ≤ d)

-- the same of each type of a row, and of each row
row_spelled : (d : ℕ) (ts : List GraphType) → Each (Spelled d) ts → RowHasText (row_of ts) × (row_brackets (row_of ts) ≤ d)
row_spelled d [] h = (tt, omega arith)
row_spelled d (t ∷ ts) h = let more = row_spelled d ts h.1 in ((h.0.0, more.0), omega (arith, h.0.1, more.1))

rows_spelled : (d : ℕ) (rows : List (List GraphType)) → Each (Each (Spelled d)) rows → RowsHaveText (rows_of rows) × (rows_brackets (rows_of rows) ≤ d)
rows_spelled d [] h = (tt, omega arith)
rows_spelled d (ts ∷ rows) h =
    let one = row_spelled d ts h.0 in
    let more = rows_spelled d rows h.1 in
    ((one.0, more.0), omega (arith, one.1, more.1))

sum_spelled : (d : ℕ) (rows : List (List GraphType)) → 0 < length rows → Each (Each (Spelled d)) rows → Spelled (suc d) (sum_type rows)
sum_spelled d [] some h = absurd (omega arith)
sum_spelled d (ts ∷ rows) some h = let all = rows_spelled d (ts ∷ rows) h in (all.0, omega (arith, all.1))

function_spelled : (d : ℕ) (ins outs : List GraphType) → Each (Spelled d) ins → Each (Spelled d) outs → Spelled (suc d) (function_type ins outs)
function_spelled d ins outs h k =
    let left = row_spelled d ins h in
    let right = row_spelled d outs k in
    ((left.0, right.0), omega (arith, left.1, right.1))

-- what stands in front of the rest
abbrev Front : {A : Type 0} → (A → Type 0) → A × List ℕ → Type 0
Front P x = P x.0

module _ {A : Type 0} (P : A → Type 0) (entry : List ℕ → Option (A × List ℕ)) (mark : ℕ) (h : (bs : List ℕ) → Yields (Front P) (entry bs)) where
  -- one entry or more
  abbrev Some_of : List A × List ℕ → Type 0
  Some_of = Front (λ xs. (0 < length xs) × Each P xs)

  separated_read : (n : ℕ) (bs : List ℕ) → Yields Some_of (separated entry mark n bs)
  unfolding separated
  separated_read zero bs = tt
  separated_read (suc n) bs =
      yields_from (Front P) Some_of (entry bs) (λ x. found (past mark x.1) (λ rest. separated entry mark n rest >>= λ y. Some (x.0 ∷ y.0, y.1)) (Some (x.0 ∷ [], x.1)))
      (λ x p. yields_found Some_of (past mark x.1) (λ rest. separated entry mark n rest >>= λ y. Some (x.0 ∷ y.0, y.1)) (Some (x.0 ∷ [], x.1))
      (λ rest. yields_from Some_of Some_of (separated entry mark n rest) (λ y. Some (x.0 ∷ y.0, y.1)) (λ y q. (omega arith, (p, q.1))) (separated_read n rest))
      (omega arith, (p, tt)))
      (h bs)

module _ (version : Profile) (inner : List ℕ → Option (GraphType × List ℕ)) (d : ℕ) (h : (bs : List ℕ) → Yields (Front (Spelled d)) (inner bs)) where
  abbrev Row_of : List GraphType × List ℕ → Type 0
  Row_of = Front (Each (Spelled d))

  abbrev Deeper : GraphType × List ℕ → Type 0
  Deeper = Front (Spelled (suc d))

  row_read : (bs : List ℕ) → Yields Row_of (row_from version inner bs)
  unfolding row_from
  row_read bs = yields_if Row_of (ends_row bs) (Some ([], bs)) (separated inner comma (length bs) bs) (λ e. tt) (λ e. some (separated inner comma (length bs) bs) (separated_read (Spelled d) inner comma h (length bs) bs))
    where
      some : (o : Option (List GraphType × List ℕ)) → Yields (Front (λ xs. (0 < length xs) × Each (Spelled d) xs)) o → Yields Row_of o
      some None p = tt
      some (Some x) p = p.1

  sum_read : (bs : List ℕ) → Yields Deeper (sum_from version inner bs)
  unfolding sum_from
  sum_read bs =
      yields_from (Front (λ rows. (0 < length rows) × Each (Each (Spelled d)) rows)) Deeper (separated (row_from version inner) bar (length bs) bs)
      (λ rows. past close_sum rows.1 >>= λ rest. Some (sum_type rows.0, rest))
      (λ rows p. yields_any Deeper (past close_sum rows.1) (λ rest. Some (sum_type rows.0, rest)) (λ rest. sum_spelled d rows.0 p.0 p.1))
      (separated_read (Each (Spelled d)) (row_from version inner) bar row_read (length bs) bs)

  function_read : (bs : List ℕ) → Yields Deeper (function_from version inner bs)
  unfolding function_from
  function_read bs =
      let made : List GraphType → List GraphType × List ℕ → Option (GraphType × List ℕ) = λ ins outs. past close_function outs.1 >>= λ rest. Some (function_type ins outs.0, rest) in
      let second : List GraphType → List ℕ → Option (GraphType × List ℕ) = λ ins more. row_from version inner more >>= λ outs. made ins outs in
      yields_from Row_of Deeper (row_from version inner bs) (λ ins. past colon ins.1 >>= λ more. second ins.0 more)
      (λ ins p. yields_any Deeper (past colon ins.1) (second ins.0)
      (λ more. yields_from Row_of Deeper (row_from version inner more) (made ins.0)
      (λ outs q. yields_any Deeper (past close_function outs.1) (λ rest. Some (function_type ins.0 outs.0, rest)) (λ rest. function_spelled d ins.0 outs.0 p q))
      (row_read more)))
      (row_read bs)

  bracketed_read : (bs : List ℕ) → Yields Deeper (bracketed_from version inner bs)
  unfolding bracketed_from
  bracketed_read bs =
      yields_found Deeper (past open_sum bs) (sum_from version inner) _ sum_read
      (yields_if Deeper (has_functions version) (past open_function bs >>= function_from version inner) None
      (λ e. yields_any Deeper (past open_function bs) (function_from version inner) function_read) (λ e. tt))

plain_read : (d : ℕ) (other : Option (GraphType × List ℕ)) (bs : List ℕ) → Yields (Front (Spelled d)) other → Yields (Front (Spelled d)) (plain_or other bs)
unfolding plain_or
plain_read d other bs h =
    let P = Front (Spelled d) in
    yields_found P (past_int bs) (λ rest. Some (Int, rest)) _ (λ rest. (tt, omega arith))
    (yields_found P (past_qubit bs) (λ rest. Some (Qubit, rest)) other (λ rest. (tt, omega arith)) h)

type_read : (version : Profile) (d : ℕ) (bs : List ℕ) → Yields (Front (Spelled d)) (type_at version d bs)
unfolding type_at
type_read version zero bs = plain_read zero None bs tt
type_read version (suc d) bs = plain_read (suc d) (bracketed_from version (type_at version d) bs) bs (bracketed_read version (type_at version d) d (type_read version d) bs)

pub type_is_spelled : (version : Profile) (bs : List ℕ) → Yields IsSpelled (type_of version bs)
unfolding type_of
type_is_spelled version bs = yields_from (Front (Spelled most_brackets)) IsSpelled (type_at version most_brackets bs) whole all (type_read version most_brackets bs)
  where
    all : (x : GraphType × List ℕ) → Spelled most_brackets x.0 → Yields IsSpelled (whole x)
    all (t, []) h = record { text = h.0; shallow = h.1 }
    all (t, b ∷ bs) h = tt
