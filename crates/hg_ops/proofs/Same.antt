-- Equal types.
use Rattle.std.proofs.Common.{◌≡◌, ℕ, zero, suc, ◌<◌, Bool, true, false, List, [], ◌∷◌, map, length, slice_index_or, Decides, refl, sym, ap, ap₂, arith, ◌∙◌}
use Rattle.hg_ops.specs.GraphType.{GraphType, Row, no_types, Rows, Sum, Function, types, row_of, row_lists, rows_of, sum_type, function_type}

types-row_of : (ts : List GraphType) → types (row_of ts) ≡ ts
types-row_of [] = refl
types-row_of (t ∷ ts) = ap (λ rest. t ∷ rest) (types-row_of ts)

row_lists-rows_of : (rows : List (List GraphType)) → row_lists (rows_of rows) ≡ rows
row_lists-rows_of [] = refl
row_lists-rows_of (ts ∷ rows) = let row = types-row_of ts in let rest = row_lists-rows_of rows in cc

abbrev rows_of_sum : GraphType → Rows
rows_of_sum (Sum rows) = rows
rows_of_sum _ = rows_of []

sums_alike : (rows others : List (List GraphType)) → sum_type rows ≡ sum_type others → rows ≡ others
sums_alike rows others e = sym (row_lists-rows_of rows) ∙ ap (λ sum. row_lists (rows_of_sum sum)) e ∙ row_lists-rows_of others

-- Sums are the same exactly where their rows are
pub sum_decides : (r : Bool) (rows others : List (List GraphType)) → Decides r (rows ≡ others) → Decides r (sum_type rows ≡ sum_type others)
sum_decides r rows others decides = ((λ is. ap sum_type (decides.0 is)), (λ e. decides.1 (sums_alike rows others e)))

abbrev ins_of_function : GraphType → Row
ins_of_function (Function ins outs) = ins
ins_of_function _ = no_types

abbrev outs_of_function : GraphType → Row
outs_of_function (Function ins outs) = outs
outs_of_function _ = no_types

functions_alike : (ins outs others results : List GraphType) → function_type ins outs ≡ function_type others results → (ins ≡ others) × (outs ≡ results)
functions_alike ins outs others results e =
    (sym (types-row_of ins) ∙ ap (λ f. types (ins_of_function f)) e ∙ types-row_of others, sym (types-row_of outs) ∙ ap (λ f. types (outs_of_function f)) e ∙ types-row_of results)

-- function types of one row of inputs are the same exactly where the rows of outputs are, and those of others are not
pub function_decides : (r s : Bool) (ins outs others results : List GraphType) → Decides r (ins ≡ others) → r ≡ true → Decides s (outs ≡ results)
    → Decides s (function_type ins outs ≡ function_type others results)
function_decides r s ins outs others results d t e = ((λ is. ap₂ function_type (d.0 t) (e.0 is)), (λ is. e.1 (functions_alike ins outs others results is).1))

pub function_differs : (r : Bool) (ins outs others results : List GraphType) → Decides r (ins ≡ others) → r ≡ false → Decides r (function_type ins outs ≡ function_type others results)
function_differs r ins outs others results d f = ((λ is. absurd cc), (λ is. d.1 (functions_alike ins outs others results is).0))

-- equal lists have equal items at each place
pub items_alike : {A B : Type 0} (f : A → B) (xs ys : List A) (k : ℕ) (x y : A)
    → x ≡ slice_index_or xs k x → y ≡ slice_index_or ys k y → k < length xs → map f xs ≡ map f ys → f x ≡ f y
items_alike f [] ys k x y is_x is_y inside e = absurd (omega (arith, inside))
items_alike f (a ∷ xs) [] k x y is_x is_y inside e = absurd cc
items_alike f (a ∷ xs) (b ∷ ys) zero x y is_x is_y inside e = cc
items_alike f (a ∷ xs) (b ∷ ys) (suc k) x y is_x is_y inside e = items_alike f xs ys k x y is_x is_y (omega (arith, inside)) cc
