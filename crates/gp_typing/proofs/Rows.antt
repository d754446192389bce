-- Rows of types and of values: as lists, and grown at their end.
use Rattle.std.proofs.Common.{◌≡◌, ◌<◌, ◌≤◌, ℕ, zero, suc, List, [], ◌∷◌, ◌++◌, map, take, drop, get_or, length, false, refl, ap, sym, ◌∙◌, arith, Option, Some, None, Ok, Err}
use Rattle.gp_types.specs.Types as types
use Rattle.gp_types.specs.Types.{Ty, Tys, Field, FunParam, tys_of, fields_of, params_of, answer_of, answered}
use Rattle.gp_types.specs.Signature.{Parameter, function_params}
use Rattle.gp_types.specs.declared.builtins.BuiltinParameter.{BuiltinParameter}
use Rattle.gp_typing.specs.Checks.{Checked, ◌>>=◌}
use Rattle.gp_typing.specs.Expressions as spec
use Rattle.gp_typing.specs.Expressions.{Value, Values, before, no_values}
use Rattle.gp_typing.specs.Typed as typed
use Rattle.gp_typing.specs.Typed.{TypedExpression, TypedExpressions}
use Rattle.gp_typing.specs.View.{expressions_of}

pub built_in_row : (ps : List BuiltinParameter) → tys_of (map (λ p. spec.built_in_ty p.ty) ps) ≡ spec.built_in_tys ps
built_in_row [] = refl
built_in_row (p ∷ ps) = ap (λ ts. types.more (spec.built_in_ty p.ty) ts) (built_in_row ps)

pub written_row : {A : Type 0} (view : A → Parameter) (ps : List A) → tys_of (map (λ p. (view p).ty) ps) ≡ spec.taken_tys (function_params (map view ps))
written_row view [] = refl
written_row view (p ∷ ps) = ap (λ ts. types.more (view p).ty ts) (written_row view ps)

pub value_row : {A : Type 0} (view : A → FunParam) (ps : List A) → tys_of (map (λ p. (view p).ty) ps) ≡ spec.taken_tys (params_of (map view ps))
value_row view [] = refl
value_row view (p ∷ ps) = ap (λ ts. types.more (view p).ty ts) (value_row view ps)

-- an answer's type is that of the result
pub answered_again : (t : Option Ty) → answered (answer_of t) ≡ t
answered_again None = refl
answered_again (Some t) = refl

pub field_row : {A : Type 0} (view : A → Field) (fs : List A) → tys_of (map (λ f. (view f).ty) fs) ≡ spec.field_tys (fields_of (map view fs))
field_row view [] = refl
field_row view (f ∷ fs) = ap (λ ts. types.more (view f).ty ts) (field_row view fs)

pub count_row : {A : Type 0} (view : A → Ty) (xs : List A) → spec.count_of (tys_of (map view xs)) ≡ length xs
count_row view [] = refl
count_row view (x ∷ xs) = ap suc (count_row view xs)

-- trees and types before those of an answer
abbrev pub trees_before : List TypedExpression → TypedExpressions → TypedExpressions
trees_before [] rest = rest
trees_before (x ∷ xs) rest = typed.with_expression x (trees_before xs rest)

abbrev pub types_before : List Ty → Tys → Tys
types_before [] rest = rest
types_before (t ∷ ts) rest = types.more t (types_before ts rest)

abbrev pub values_before : List TypedExpression → List Ty → Checked Values → Checked Values
values_before xs ts (Ok vs) = Ok (record { trees = trees_before xs vs.trees; types = types_before ts vs.types })
values_before xs ts (Err f) = Err f

trees_before-push : (xs : List TypedExpression) (x : TypedExpression) (rest : TypedExpressions) → trees_before xs (typed.with_expression x rest) ≡ trees_before (xs ++ x ∷ []) rest
trees_before-push [] x rest = refl
trees_before-push (y ∷ ys) x rest = ap (λ r. typed.with_expression y r) (trees_before-push ys x rest)

types_before-push : (ts : List Ty) (t : Ty) (rest : Tys) → types_before ts (types.more t rest) ≡ types_before (ts ++ t ∷ []) rest
types_before-push [] t rest = refl
types_before-push (u ∷ us) t rest = ap (λ r. types.more u r) (types_before-push us t rest)

trees_before-none : (xs : List TypedExpression) → trees_before xs typed.no_expressions ≡ expressions_of xs
trees_before-none [] = refl
trees_before-none (x ∷ xs) = ap (λ r. typed.with_expression x r) (trees_before-none xs)

types_before-none : (ts : List Ty) → types_before ts types.none ≡ tys_of ts
types_before-none [] = refl
types_before-none (t ∷ ts) = ap (λ r. types.more t r) (types_before-none ts)

row_of : TypedExpressions → Tys → Checked Values
row_of trees tys = Ok (record { trees = trees; types = tys })

pub values_before-nothing : (answer : Checked Values) → values_before [] [] answer ≡ answer
values_before-nothing (Ok vs) = refl
values_before-nothing (Err f) = refl

pub values_before-end : (xs : List TypedExpression) (ts : List Ty) → values_before xs ts (Ok no_values) ≡ Ok (record { trees = expressions_of xs; types = tys_of ts })
unfolding row_of
values_before-end xs ts = ap (λ r. row_of r (types_before ts types.none)) (trees_before-none xs) ∙ ap (row_of (expressions_of xs)) (types_before-none ts)

pub values_before-push : (xs : List TypedExpression) (ts : List Ty) (v : Value) (answer : Checked Values)
    → values_before xs ts (answer >>= λ vs. Ok (before v vs)) ≡ values_before (xs ++ v.tree ∷ []) (ts ++ v.ty ∷ []) answer
unfolding row_of
values_before-push xs ts v (Ok vs) =
    ap (λ r. row_of r (types_before ts (types.more v.ty vs.types))) (trees_before-push xs v.tree vs.trees)
    ∙ ap (row_of (trees_before (xs ++ v.tree ∷ []) vs.trees)) (types_before-push ts v.ty vs.types)
values_before-push xs ts v (Err f) = refl

-- all items were gone through
pub all_taken : {A B : Type 0} (f : A → B) (xs : List A) (n : ℕ) (made : List B) → made ≡ map f (take n xs) → length xs ≤ n → made ≡ map f xs
all_taken f xs n made e h = e ∙ ap (map f) (take-all xs n h) where
  take-all : {A : Type 0} (xs : List A) (n : ℕ) → length xs ≤ n → take n xs ≡ xs
  take-all [] zero h = refl
  take-all [] (suc n) h = refl
  take-all (x ∷ xs) zero h = absurd (omega (arith, h))
  take-all (x ∷ xs) (suc n) h = ap (λ l. x ∷ l) (take-all xs n (omega (arith, h)))

-- what `result` reports is no more than one value
pub is_reported-many : (tag : Option (List ℕ)) (tys : List Ty) → 2 ≤ length tys → spec.is_reported tag (tys_of tys) ≡ false
is_reported-many None tys h = refl
is_reported-many (Some tag) [] h = absurd (omega (arith, h))
is_reported-many (Some tag) (t ∷ []) h = absurd (omega (arith, h))
is_reported-many (Some tag) (t ∷ u ∷ ts) h = refl

pub path_type_none : (fields : List (List ℕ)) → spec.path_type None fields ≡ None
path_type_none [] = refl
path_type_none (f ∷ fs) = refl

-- a path ends where a field is missing
pub path-stops : (t : Ty) (fields : List (List ℕ)) (i : ℕ) (whole : Option Ty) (f : List ℕ) → i < length fields → f ≡ get_or fields i f
    → None ≡ spec.part_type t f → spec.path_type (Some t) (drop i fields) ≡ whole → None ≡ whole
path-stops t [] i whole f h e p q = absurd (omega (arith, h))
path-stops t (g ∷ fs) zero whole f h e p q = sym (path_type_none fs) ∙ ap (λ z. spec.path_type z fs) (p ∙ ap (spec.part_type t) e) ∙ q
path-stops t (g ∷ fs) (suc i) whole f h e p q = path-stops t fs i whole f (omega (arith, h)) e p q

pub drop-at : {A : Type 0} (xs : List A) (i : ℕ) (x : A) → i < length xs → x ≡ get_or xs i x → drop i xs ≡ x ∷ drop (suc i) xs
drop-at [] i x h e = absurd (omega (arith, h))
drop-at (y ∷ ys) zero x h e = ap (λ z. z ∷ ys) (sym e)
drop-at (y ∷ ys) (suc i) x h e = drop-at ys i x (omega (arith, h)) e

pub drop-all : {A : Type 0} (xs : List A) (i : ℕ) → length xs ≤ i → drop i xs ≡ []
drop-all [] zero h = refl
drop-all [] (suc i) h = refl
drop-all (x ∷ xs) zero h = absurd (omega (arith, h))
drop-all (x ∷ xs) (suc i) h = drop-all xs i (omega (arith, h))
