-- The types of expressions. Parts are checked from left to right, inner ones first, and a rule of an expression's own
-- comes after all its parts.
use Rattle.std.specs.Prelude.{ℕ, suc, ◌+◌, Bool, true, false, ◌&&◌, ◌||◌, not, if◌then◌else◌, List, [], ◌∷◌, Option, Some, None, Ok, Err, bytes_eq, eqb, ltb, nat_lt}
use Rattle.gp_base.specs.declared.name.LineNo.{LineNo}
use Rattle.gp_tree.specs.declared.expr.BinOp.{BinOp}
use Rattle.gp_tree.specs.declared.expr.BinOp.TheVariants as op
use Rattle.gp_tree.specs.declared.place.Place.{Place}
use Rattle.gp_tree.specs.Expression as expr
use Rattle.gp_tree.specs.Expression.{Expression, Expressions}
use Rattle.gp_types.specs.Types as types
use Rattle.gp_types.specs.Types.{Ty, Tys, Fields, FunParams, answered}
use Rattle.gp_types.specs.Same.{same_type, same_types}
use Rattle.gp_types.specs.Size.{size}
use Rattle.gp_types.specs.declared.limit.TheConstants.{TYPE_SIZE_LIMIT}
use Rattle.gp_types.specs.Signature.{Signature, function_type}
use Rattle.gp_types.specs.Builtins.{parameters_of, answer_of}
use Rattle.gp_types.specs.declared.builtins.BuiltinParameter.{BuiltinParameter}
use Rattle.gp_types.specs.declared.builtins.BuiltinType.{BuiltinType}
use Rattle.gp_types.specs.declared.builtins.BuiltinType.TheVariants as built_in_type
use Rattle.gp_typing.specs.declared.fault.TypeFault.TheVariants.{UnknownName, NotOnEveryPath, Mismatch, WrongCount, TooBigType}
use Rattle.gp_typing.specs.Checks.{Checked, ◌>>=◌, check, found}
use Rattle.gp_locals.specs.Callee.{Callee, Function, Made, BuiltIn, by_type, outside, takes_tag}
use Rattle.gp_locals.specs.Environment.{Names, Environment, type_of}
use Rattle.gp_locals.specs.Tag.{is_tag}
use Rattle.gp_scope.specs.Known.{Known}
use Rattle.gp_typing.specs.Typed as typed
use Rattle.gp_typing.specs.Typed.{TypedExpression, TypedExpressions, TypedKind, of_type}

-- ---- values: expressions that have a type

pub record Value : Type 0 where
  pub tree : TypedExpression
  pub ty : Ty

abbrev pub value_of : LineNo → TypedExpression → Checked Value
value_of line (of_type None kind) = Err (Mismatch line)
value_of line (of_type (Some ty) kind) = Ok (record { tree = of_type (Some ty) kind; ty = ty })

-- an expression that stands where a value is needed
abbrev pub valued : LineNo → Checked TypedExpression → Checked Value
valued line e = e >>= value_of line

abbrev pub has_type : Ty → TypedKind → Checked TypedExpression
has_type ty kind = Ok (of_type (Some ty) kind)

-- values in a row, and their types
pub record Values : Type 0 where
  pub trees : TypedExpressions
  pub types : Tys

abbrev pub no_values : Values
no_values = record { trees = typed.no_expressions; types = types.none }

abbrev pub before : Value → Values → Values
before v vs = record { trees = typed.with_expression v.tree vs.trees; types = types.more v.ty vs.types }

-- ---- places

abbrev pub field_type : Fields → List ℕ → Option Ty
field_type types.end name = None
field_type (types.field other ty fields) name = if bytes_eq other name then Some ty else field_type fields name

-- the type of a field, where the type is a struct that has it
abbrev pub part_type : Ty → List ℕ → Option Ty
part_type (types.Struct name fields) field = field_type fields field
part_type _ field = None

-- the type at the end of a path of fields
abbrev pub path_type : Option Ty → List (List ℕ) → Option Ty
path_type ty [] = ty
path_type None (field ∷ fields) = None
path_type (Some ty) (field ∷ fields) = path_type (part_type ty field) fields

-- the type of a function of the program where its name stands for it as a value
abbrev pub function_value : LineNo → Signature → Checked Ty
function_value line s = check (not (nat_lt TYPE_SIZE_LIMIT (size (function_type s)))) (TooBigType line) >>= λ _. Ok (function_type s)

-- The type of a name: a name of the function must be usable; another one must be that of a function of the program.
abbrev pub named_type : LineNo → Option (Option Ty) → Option Signature → Checked Ty
named_type line (Some usable) its = found usable (NotOnEveryPath line)
named_type line None its = found its (UnknownName line) >>= function_value line

abbrev pub place_type : Known → Names → Environment → LineNo → Place → Checked Ty
place_type known names e line place =
    named_type line (type_of names e place.name) (known.signature_of place.name)
    >>= λ ty. found (path_type (Some ty) place.fields) (UnknownName line)

-- ---- operators

abbrev pub is_int : Ty → Bool
is_int types.Int = true
is_int _ = false

abbrev pub is_bool : Ty → Bool
is_bool types.Bool = true
is_bool _ = false

-- from two whole numbers to this type
abbrev pub from_ints : Ty → Ty → Ty → Option Ty
from_ints ty left right = if is_int left && is_int right then Some ty else None

-- `==` and `!=` compare two whole numbers or two truth values
abbrev pub from_equals : Ty → Ty → Option Ty
from_equals left right = if (is_int left && is_int right) || (is_bool left && is_bool right) then Some types.Bool else None

abbrev pub answer_type : BinOp → Ty → Ty → Option Ty
answer_type op.Eq left right = from_equals left right
answer_type op.Ne left right = from_equals left right
answer_type op.Lt left right = from_ints types.Bool left right
answer_type op.Le left right = from_ints types.Bool left right
answer_type op.Gt left right = from_ints types.Bool left right
answer_type op.Ge left right = from_ints types.Bool left right
answer_type _ left right = from_ints types.Int left right

-- ---- calls

abbrev pub built_in_ty : BuiltinType → Ty
built_in_ty built_in_type.Int = types.Int
built_in_ty built_in_type.Bool = types.Bool
built_in_ty built_in_type.Qubit = types.Qubit

abbrev pub built_in_tys : List BuiltinParameter → Tys
built_in_tys [] = types.none
built_in_tys (p ∷ ps) = types.more (built_in_ty p.ty) (built_in_tys ps)

abbrev pub taken_tys : FunParams → Tys
taken_tys types.no_params = types.none
taken_tys (types.param ty mode ps) = types.more ty (taken_tys ps)

abbrev pub field_tys : Fields → Tys
field_tys types.end = types.none
field_tys (types.field name ty fields) = types.more ty (field_tys fields)

abbrev pub part_tys : Ty → Tys
part_tys (types.Struct name fields) = field_tys fields
part_tys _ = types.none

-- the types of a callee's parameters, without the tag of `result` and what follows it
abbrev pub parameter_tys : Callee → Tys
parameter_tys (Function ps r) = taken_tys ps
parameter_tys (Made ty) = part_tys ty
parameter_tys (BuiltIn b) = built_in_tys (parameters_of b)

abbrev pub built_in_answer : Option BuiltinType → Option Ty
built_in_answer None = None
built_in_answer (Some ty) = Some (built_in_ty ty)

abbrev pub callee_answer : Callee → Option Ty
callee_answer (Function ps r) = answered r
callee_answer (Made ty) = Some ty
callee_answer (BuiltIn b) = built_in_answer (answer_of b)

-- What a call of a name calls: a name of the function must be usable and have a function type; another one must be that
-- of something outside that can be called.
abbrev pub callee_at : LineNo → Option (Option Ty) → Option Callee → Checked Callee
callee_at line (Some (Some ty)) callee = found (by_type ty) (Mismatch line)
callee_at line (Some None) callee = Err (NotOnEveryPath line)
callee_at line None callee = found callee (UnknownName line)

-- the arguments of a call: the tag, where the first one is one, and the values
pub record Arguments : Type 0 where
  pub tag : Option (List ℕ)
  pub values : Values

abbrev pub untagged : Values → Arguments
untagged values = record { tag = None; values = values }

abbrev pub count_of : Tys → ℕ
count_of types.none = 0
count_of (types.more ty tys) = suc (count_of tys)

abbrev pub tags : Option (List ℕ) → ℕ
tags None = 0
tags (Some tag) = 1

abbrev pub argument_count : Arguments → ℕ
argument_count arguments = tags arguments.tag + count_of arguments.values.types

abbrev pub parameter_count : Callee → ℕ
parameter_count callee = if takes_tag callee then 2 else count_of (parameter_tys callee)

-- `result` reports one whole number or one truth value, under a tag
abbrev pub is_reported : Option (List ℕ) → Tys → Bool
is_reported (Some tag) (types.more ty types.none) = is_int ty || is_bool ty
is_reported _ _ = false

abbrev pub arguments_fit : Callee → Arguments → Bool
arguments_fit callee arguments =
    if takes_tag callee
    then is_reported arguments.tag arguments.values.types
    else same_types arguments.values.types (parameter_tys callee)

abbrev pub argument_trees : Arguments → TypedExpressions
argument_trees arguments = with_tag arguments.tag arguments.values.trees where
  with_tag : Option (List ℕ) → TypedExpressions → TypedExpressions
  with_tag None trees = trees
  with_tag (Some tag) trees = typed.with_expression (of_type None (typed.text tag)) trees

-- a call with its arguments: first their number, then their types
abbrev pub called : LineNo → List ℕ → Callee → Arguments → Checked TypedExpression
called line name callee arguments =
    check (eqb (argument_count arguments) (parameter_count callee)) (WrongCount line)
    >>= λ _. check (arguments_fit callee arguments) (Mismatch line)
    >>= λ _. Ok (of_type (callee_answer callee) (typed.call name (argument_trees arguments)))

-- ---- expressions

-- the type of a tuple of these values
abbrev pub tupled : LineNo → Values → Checked TypedExpression
tupled line values =
    check (not (ltb TYPE_SIZE_LIMIT (size (types.Tuple values.types)))) (TooBigType line)
    >>= λ _. has_type (types.Tuple values.types) (typed.tuple values.trees)

abbrev mutual
  -- an expression of a statement of this line
  pub typing : Known → Names → Environment → LineNo → Expression → Checked TypedExpression
  typing known names e line (expr.number n) = has_type types.Int (typed.number n)
  typing known names e line (expr.boolean b) = has_type types.Bool (typed.boolean b)
  typing known names e line (expr.text t) = Err (Mismatch line)
  typing known names e line (expr.place p) = place_type known names e line p >>= λ ty. has_type ty (typed.place p)
  typing known names e line (expr.minus a) =
      valued line (typing known names e line a)
      >>= λ x. check (is_int x.ty) (Mismatch line)
      >>= λ _. has_type types.Int (typed.minus x.tree)
  typing known names e line (expr.negation a) =
      valued line (typing known names e line a)
      >>= λ x. check (is_bool x.ty) (Mismatch line)
      >>= λ _. has_type types.Bool (typed.negation x.tree)
  typing known names e line (expr.binary o a b) =
      valued line (typing known names e line a)
      >>= λ x. valued line (typing known names e line b)
      >>= λ y. found (answer_type o x.ty y.ty) (Mismatch line)
      >>= λ ty. has_type ty (typed.binary o x.tree y.tree)
  typing known names e line (expr.both a b) =
      valued line (typing known names e line a)
      >>= λ x. valued line (typing known names e line b)
      >>= λ y. check (is_bool x.ty && is_bool y.ty) (Mismatch line)
      >>= λ _. has_type types.Bool (typed.both x.tree y.tree)
  typing known names e line (expr.either a b) =
      valued line (typing known names e line a)
      >>= λ x. valued line (typing known names e line b)
      >>= λ y. check (is_bool x.ty && is_bool y.ty) (Mismatch line)
      >>= λ _. has_type types.Bool (typed.either x.tree y.tree)
  typing known names e line (expr.choice c a b) =
      valued line (typing known names e line c)
      >>= λ test. valued line (typing known names e line a)
      >>= λ x. valued line (typing known names e line b)
      >>= λ y. check (is_bool test.ty && same_type x.ty y.ty) (Mismatch line)
      >>= λ _. has_type x.ty (typed.choice test.tree x.tree y.tree)
  typing known names e line (expr.tuple es) = values_of known names e line es >>= λ values. tupled line values
  typing known names e line (expr.call name es) =
      callee_at line (type_of names e name) (outside known name)
      >>= λ callee. arguments_of known names e line (takes_tag callee) es
      >>= λ arguments. called line name callee arguments

  -- expressions that all stand where values are needed
  pub values_of : Known → Names → Environment → LineNo → Expressions → Checked Values
  values_of known names e line expr.no_expressions = Ok no_values
  values_of known names e line (expr.with_expression a es) =
      valued line (typing known names e line a)
      >>= λ x. values_of known names e line es
      >>= λ values. Ok (before x values)

  -- the arguments of a call; a string is looked at where it stands
  pub arguments_of : Known → Names → Environment → LineNo → (tagged : Bool) → Expressions → Checked Arguments
  arguments_of known names e line true (expr.with_expression (expr.text t) es) =
      check (is_tag t) (Mismatch line)
      >>= λ _. values_of known names e line es
      >>= λ values. Ok (record { tag = Some t; values = values })
  arguments_of known names e line tagged expr.no_expressions = Ok (untagged no_values)
  arguments_of known names e line tagged (expr.with_expression a es) =
      valued line (typing known names e line a)
      >>= λ x. values_of known names e line es
      >>= λ values. Ok (untagged (before x values))
