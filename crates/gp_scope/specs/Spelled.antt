-- The types that written types spell, and what a program's structs, functions and annotated assignments have of them.
use Rattle.std.specs.Prelude.{◌≡◌, ℕ, zero, suc, List, [], ◌∷◌, map, length, Option, Some, None, option_map, codes, bytes_eq, if◌then◌else◌, nat_eq, find}
use Rattle.gp_base.specs.declared.name.LineNo.{LineNo}
use Rattle.gp_tree.specs.Form as form
use Rattle.gp_tree.specs.Program.{ProgramItem, FieldDefinition, StructDefinition, FunctionDefinition}
use Rattle.gp_tree.specs.TypeExpression.{TypeExpression, TypeExpressions, ParameterTypes, ParameterType, ResultType, named_type, tuple_type, function_type, no_types, with_type, no_parameters, with_parameter, no_result, with_result}
use Rattle.gp_types.specs.Types as types
use Rattle.gp_types.specs.Types.{Ty, Tys, Field, Fields, FunParam, FunParams, Answer}
use Rattle.gp_types.specs.Signature.{Parameter, Signature, mode_of}
use Rattle.gp_scope.specs.Definitions.{struct_named, function_named}
use Rattle.gp_scope.specs.Annotations.{program_annotations}

-- the type that a written type spells, where names stand for these types
abbrev mutual
  pub spelled_by : (List ℕ → Ty) → TypeExpression → Ty
  spelled_by types_of (named_type name) = types_of name
  spelled_by types_of (tuple_type items) = types.Tuple (all_spelled_by types_of items)
  spelled_by types_of (function_type params answer) = types.Function (params_spelled_by types_of params) (answer_spelled_by types_of answer)

  pub all_spelled_by : (List ℕ → Ty) → TypeExpressions → Tys
  all_spelled_by types_of no_types = types.none
  all_spelled_by types_of (with_type t ts) = types.more (spelled_by types_of t) (all_spelled_by types_of ts)

  pub params_spelled_by : (List ℕ → Ty) → ParameterTypes → FunParams
  params_spelled_by types_of no_parameters = types.no_params
  params_spelled_by types_of (with_parameter t owned ps) =
      types.param (spelled_by types_of t) (mode_of (spelled_by types_of t) owned) (params_spelled_by types_of ps)

  pub answer_spelled_by : (List ℕ → Ty) → ResultType → Answer
  answer_spelled_by types_of no_result = types.no_answer
  answer_spelled_by types_of (with_result t) = types.answers (spelled_by types_of t)

abbrev pub fields_spelled_by : (List ℕ → Ty) → List FieldDefinition → Fields
fields_spelled_by types_of [] = types.end
fields_spelled_by types_of (f ∷ fs) = types.field f.name (spelled_by types_of f.ty) (fields_spelled_by types_of fs)

abbrev pub spelled_field : (List ℕ → Ty) → FieldDefinition → Field
spelled_field types_of f = record { name = f.name; ty = spelled_by types_of f.ty }

abbrev pub spelled_param : (List ℕ → Ty) → ParameterType → FunParam
spelled_param types_of p = record { ty = spelled_by types_of p.ty; mode = mode_of (spelled_by types_of p.ty) p.owned }

-- the type of a name that is no struct's: `int`, `bool` or else `qubit`
abbrev pub basic_type : List ℕ → Ty
basic_type name = if bytes_eq name (codes "int") then types.Int else if bytes_eq name (codes "bool") then types.Bool else types.Qubit

-- The type of a name, with structs opened so many levels deep. Where no level is left a struct's name counts as another.
abbrev pub opened : ℕ → List ProgramItem → List ℕ → Ty
opened zero program name = basic_type name
opened (suc levels) program name =
    elim (struct_named program name) [ None ↦ basic_type name | Some s ↦ types.Struct name (fields_spelled_by (opened levels program) s.fields) ]

-- The type that a written type of the program spells. Where no struct is on a cycle, structs are at most as deep in
-- one another as the program has items, so each of them is opened.
abbrev pub spelled : List ProgramItem → TypeExpression → Ty
spelled program t = spelled_by (opened (length program) program) t

abbrev pub struct_type_of : List ProgramItem → List ℕ → Option Ty
struct_type_of program name = option_map (λ s. spelled program (named_type name)) (struct_named program name)

abbrev pub parameter_of : List ProgramItem → form.Parameter → Parameter
parameter_of program p = let ty = spelled program p.ty in record { name = p.name; ty = ty; mode = mode_of ty p.owned }

abbrev pub signature_of : List ProgramItem → FunctionDefinition → Signature
signature_of program f = record { params = map (parameter_of program) f.params; result = option_map (spelled program) f.result_type }

abbrev pub function_signature : List ProgramItem → List ℕ → Option Signature
function_signature program name = option_map (signature_of program) (function_named program name)

-- the type that the annotated assignment on a line writes; of two on one line the first counts
abbrev pub annotated_type : List ProgramItem → LineNo → Option Ty
annotated_type program line = option_map (λ a. spelled program a.ty) (find (λ a. nat_eq line.0 a.line.0) (program_annotations program))

-- each struct's type has its name and its fields with their types
abbrev pub StructsHaveFields : List ProgramItem → Type 0
StructsHaveFields program =
    (name : List ℕ) (s : StructDefinition) → struct_named program name ≡ Some s
    → opened (length program) program name ≡ types.Struct name (fields_spelled_by (opened (length program) program) s.fields)
