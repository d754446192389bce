-- Spelled types: their parts in memory, and their sizes.
use Rattle.std.proofs.Common.{◌≡◌, Option, Some, None, ℕ, zero, suc, ◌+◌, ◌<◌, ◌≤◌, List, [], ◌∷◌, ◌++◌, map, length, get_or, take, add-one, refl, sym, ap, ap₂, ◌∙◌, arith}
use Rattle.gp_tree.specs.declared.type_expr.TypeExpr.{TypeExpr}
use Rattle.gp_tree.specs.declared.struct_decl.FieldDecl.{FieldDecl}
use Rattle.gp_tree.specs.Program.{field_definition}
use Rattle.gp_tree.specs.declared.type_expr.FunParamExpr.{FunParamExpr}
use Rattle.gp_tree.specs.TypeExpression.{TypeExpression, ParameterType, type_expression, type_expressions, parameter_type, parameter_types, result_type, type_step, parameter_step, tuple_type, function_type}
use Rattle.gp_tree.specs.declared.type_expr.TypeExpr.TheFolds.{fold-roll-TypeExpr, fold_out-FunParamExpr}
use Rattle.gp_tree.specs.declared.type_expr.TypeExpr.TheOpen.{TypeExpr-F}
use Rattle.gp_tree.specs.declared.type_expr.TypeExpr.TheVariants.{Tuple, rolls-Tuple, Callable, rolls-Callable}
use Rattle.std.specs.declared.alloc.Global.{Global}
use Rattle.std.specs.Rc.{rc_slice_items}
use Rattle.std.specs.declared.rc.RcSlice.{RcSlice}
use Rattle.std.specs.declared.rc.Rc.{Rc}
use Rattle.gp_types.specs.declared.ty.Ty as declared_ty
use Rattle.gp_types.specs.declared.ty.Field as declared_field
use Rattle.gp_types.specs.declared.mode.Mode.{Mode}
use Rattle.gp_types.specs.declared.ty.Ty.TheFolds.{fold-roll-Ty, fold_out-Field, fold_out-FunParam}
use Rattle.gp_types.specs.declared.ty.Ty.TheOpen.{Ty-F}
use Rattle.gp_types.specs.declared.ty.Ty.TheVariants as variants
use Rattle.gp_types.specs.Signature.{mode_of}
use Rattle.gp_types.specs.View.{ty_view, field_view, param_view, ty_step, field_step, param_step}
use Rattle.gp_types.specs.Types as types
use Rattle.gp_types.specs.Types.{Ty, tys_of, fields_of, params_of}
use Rattle.gp_types.specs.Size.{size, total_size, total_field_size, total_param_size}
use Rattle.gp_tree.specs.Program.{ProgramItem}
use Rattle.gp_scope.specs.Definitions.{struct_named}
use Rattle.gp_scope.specs.Spelled.{spelled_by, all_spelled_by, params_spelled_by, fields_spelled_by, spelled_field, spelled_param, basic_type, opened}

pub spelled-items : (w : List ℕ → Ty) (xs : List TypeExpr) → tys_of (map (λ t. spelled_by w (type_expression t)) xs) ≡ all_spelled_by w (type_expressions xs)
spelled-items w [] = refl
spelled-items w (x ∷ xs) = ap (λ ts. types.more (spelled_by w (type_expression x)) ts) (spelled-items w xs)

pub spelled-fields : (w : List ℕ → Ty) (xs : List FieldDecl) → fields_of (map (λ f. spelled_field w (field_definition f)) xs) ≡ fields_spelled_by w (map field_definition xs)
spelled-fields w [] = refl
spelled-fields w (x ∷ xs) = ap (λ fs. types.field x.name (spelled_by w (type_expression x.ty)) fs) (spelled-fields w xs)

pub spelled-params : (w : List ℕ → Ty) (xs : List FunParamExpr) → params_of (map (λ p. spelled_param w (parameter_type p)) xs) ≡ params_spelled_by w (parameter_types xs)
spelled-params w [] = refl
spelled-params w (x ∷ xs) =
    let ty = spelled_by w (parameter_type x).ty in ap (λ ps. types.param ty (mode_of ty (parameter_type x).owned) ps) (spelled-params w xs)

pub item-size : (w : List ℕ → Ty) (xs : List TypeExpr) (i : ℕ) (x : TypeExpr) → i < length xs → x ≡ get_or xs i x
    → size (spelled_by w (type_expression x)) ≤ total_size (all_spelled_by w (type_expressions xs))
item-size w [] i x h e = absurd (omega arith)
item-size w (y ∷ ys) zero x h e =
    let same : size (spelled_by w (type_expression x)) ≡ size (spelled_by w (type_expression y)) = ap (λ t. size (spelled_by w (type_expression t))) e in
    omega arith
item-size w (y ∷ ys) (suc i) x h e =
    let rest : size (spelled_by w (type_expression x)) ≤ total_size (all_spelled_by w (type_expressions ys)) = item-size w ys i x (omega arith) e in
    omega arith

pub field-size : (w : List ℕ → Ty) (xs : List FieldDecl) (i : ℕ) (x : FieldDecl) → i < length xs → x ≡ get_or xs i x
    → size (spelled_by w (type_expression x.ty)) ≤ total_field_size (fields_spelled_by w (map field_definition xs))
field-size w [] i x h e = absurd (omega arith)
field-size w (y ∷ ys) zero x h e =
    let same : size (spelled_by w (type_expression x.ty)) ≡ size (spelled_by w (type_expression y.ty)) = ap (λ t. size (spelled_by w (type_expression t.ty))) e in
    omega arith
field-size w (y ∷ ys) (suc i) x h e =
    let rest : size (spelled_by w (type_expression x.ty)) ≤ total_field_size (fields_spelled_by w (map field_definition ys)) = field-size w ys i x (omega arith) e in
    omega arith

pub parameter_type-is : (x : FunParamExpr) → parameter_type x ≡ record { ty = type_expression x.ty; owned = x.owned }
parameter_type-is x = fold_out-FunParamExpr TypeExpression ParameterType type_step parameter_step x

pub param-size : (w : List ℕ → Ty) (xs : List FunParamExpr) (i : ℕ) (x : FunParamExpr) → i < length xs → x ≡ get_or xs i x
    → size (spelled_by w (parameter_type x).ty) ≤ total_param_size (params_spelled_by w (parameter_types xs))
param-size w [] i x h e = absurd (omega arith)
param-size w (y ∷ ys) zero x h e =
    let same : size (spelled_by w (parameter_type x).ty) ≡ size (spelled_by w (parameter_type y).ty) = ap (λ t. size (spelled_by w (parameter_type t).ty)) e in
    omega arith
param-size w (y ∷ ys) (suc i) x h e =
    let rest : size (spelled_by w (parameter_type x).ty) ≤ total_param_size (params_spelled_by w (parameter_types ys)) = param-size w ys i x (omega arith) e in
    omega arith

map-push : {A C : Type 0} (f : A → C) (xs : List A) (x : A) → map f (xs ++ x ∷ []) ≡ map f xs ++ f x ∷ []
map-push f [] x = refl
map-push f (y ∷ ys) x = ap (λ l. f y ∷ l) (map-push f ys x)

map-take : {B C : Type 0} (g : B → C) (xs : List B) (i : ℕ) (y : B) → i < length xs → y ≡ get_or xs i y → map g (take (suc i) xs) ≡ map g (take i xs) ++ g y ∷ []
map-take g [] i y h e = absurd (omega arith)
map-take g (x ∷ xs) zero y h e = ap (λ z. g z ∷ []) (sym e)
map-take g (x ∷ xs) (suc i) y h e = ap (λ l. g x ∷ l) (map-take g xs i y (omega arith) e)

-- one part more was made
pub part-made : {A B C : Type 0} (f : A → C) (g : B → C) (made made' : List A) (x : A) (xs : List B) (i : ℕ) (y : B) → made' ≡ made ++ x ∷ []
    → map f made ≡ map g (take i xs) → i < length xs → y ≡ get_or xs i y → f x ≡ g y → map f made' ≡ map g (take (i + 1) xs)
part-made f g made made' x xs i y pushed before h e same =
    ap (map f) pushed ∙ map-push f made x ∙ ap₂ (λ l z. l ++ z ∷ []) before same ∙ sym (map-take g xs i y h e) ∙ ap (λ k. map g (take k xs)) (sym (add-one i))

-- types in memory, one level seen
pub ty_view-Tuple : (items : RcSlice declared_ty.Ty Global) → ty_view (variants.Tuple items) ≡ types.Tuple (tys_of (map ty_view (rc_slice_items items)))
ty_view-Tuple items = ap ty_view (sym (variants.rolls-Tuple items)) ∙ fold-roll-Ty types.Ty types.Field types.FunParam ty_step field_step param_step (Ty-F.Tuple items)

pub ty_view-Struct : (name : List ℕ) (fields : RcSlice declared_field.Field Global) → ty_view (variants.Struct name fields) ≡ types.Struct name (fields_of (map field_view (rc_slice_items fields)))
ty_view-Struct name fields = ap ty_view (sym (variants.rolls-Struct name fields)) ∙ fold-roll-Ty types.Ty types.Field types.FunParam ty_step field_step param_step (Ty-F.Struct name fields)

pub field_view-made : (name : List ℕ) (ty : declared_ty.Ty) → field_view (record { name = name; ty = ty }) ≡ record { name = name; ty = ty_view ty }
field_view-made name ty = fold_out-Field types.Ty types.Field types.FunParam ty_step field_step param_step (record { name = name; ty = ty })

pub param_view-made : (ty : declared_ty.Ty) (mode : Mode) → param_view (record { ty = ty; mode = mode }) ≡ record { ty = ty_view ty; mode = mode }
param_view-made ty mode = fold_out-FunParam types.Ty types.Field types.FunParam ty_step field_step param_step (record { ty = ty; mode = mode })

pub type_expression-Tuple : (parts : RcSlice TypeExpr Global) → type_expression (Tuple parts) ≡ tuple_type (type_expressions (rc_slice_items parts))
type_expression-Tuple parts = ap type_expression (sym (rolls-Tuple parts)) ∙ fold-roll-TypeExpr TypeExpression ParameterType type_step parameter_step (TypeExpr-F.Tuple parts)

pub type_expression-Callable : (params : RcSlice FunParamExpr Global) (answer : Option (Rc TypeExpr Global))
    → type_expression (Callable params answer) ≡ function_type (parameter_types (rc_slice_items params)) (result_type answer)
type_expression-Callable params None =
    ap type_expression (sym (rolls-Callable params None)) ∙ fold-roll-TypeExpr TypeExpression ParameterType type_step parameter_step (TypeExpr-F.Callable params None)
type_expression-Callable params (Some t) =
    ap type_expression (sym (rolls-Callable params (Some t))) ∙ fold-roll-TypeExpr TypeExpression ParameterType type_step parameter_step (TypeExpr-F.Callable params (Some t))

-- the type of a name that is no struct's
pub opened-basic : (levels : ℕ) (program : List ProgramItem) (name : List ℕ) → struct_named program name ≡ None → opened levels program name ≡ basic_type name
opened-basic zero program name e = refl
opened-basic (suc levels) program name e =
    ap (λ s. elim s [ None ↦ basic_type name | Some s ↦ types.Struct name (fields_spelled_by (opened levels program) s.fields) ]) e
