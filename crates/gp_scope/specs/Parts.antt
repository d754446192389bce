-- The checks of the parts of definitions: fields, parameters, results and annotated assignments.
use Rattle.std.specs.Prelude.{ℕ, Bool, not, ◌||◌, ◌&&◌, List, [], ◌∷◌, ◌++◌, Option, Some, None, codes, bytes_eq, is_some}
use Rattle.gp_base.specs.declared.name.LineNo.{LineNo}
use Rattle.gp_tree.specs.Form.{Parameter}
use Rattle.gp_tree.specs.Program.{ProgramItem, struct_item, function_item, FieldDefinition, FunctionDefinition}
use Rattle.gp_tree.specs.TypeExpression.{TypeExpression, TypeExpressions, ParameterTypes, ResultType, named_type, tuple_type, function_type, no_types, with_type, no_parameters, with_parameter, no_result, with_result}
use Rattle.gp_scope.specs.declared.fault.ScopeFault.TheVariants as fault
use Rattle.gp_scope.specs.Checks.{Found, first, fault_where, is_among}
use Rattle.gp_scope.specs.Definitions.{imports, struct_named}
use Rattle.gp_scope.specs.Annotations.{Annotation, annotations}

-- whether the name is that of a type: `int`, `bool`, an imported `qubit`, or a struct of the program
abbrev pub is_type : List ProgramItem → List ℕ → Bool
is_type program name =
    bytes_eq name (codes "int") || bytes_eq name (codes "bool") || (bytes_eq name (codes "qubit") && imports program name) || is_some (struct_named program name)

-- `@owned` needs an import
abbrev pub mark_fault : List ProgramItem → LineNo → (owned : Bool) → Found
mark_fault program line owned = fault_where (owned && not (imports program (codes "owned"))) (fault.NotImported line)

-- The first fault of a written type, from left to right: a name that is no type's, and in a function type the word
-- `Callable` or a mark `@owned` without its import.
abbrev mutual
  pub type_fault : List ProgramItem → LineNo → TypeExpression → Found
  type_fault program line (named_type name) = fault_where (not (is_type program name)) (fault.UnknownType line)
  type_fault program line (tuple_type items) = types_fault program line items
  type_fault program line (function_type params answer) =
      first (fault_where (not (imports program (codes "Callable"))) (fault.NotImported line))
      (first (parameter_types_fault program line params) (result_type_fault program line answer))

  pub types_fault : List ProgramItem → LineNo → TypeExpressions → Found
  types_fault program line no_types = None
  types_fault program line (with_type t ts) = first (type_fault program line t) (types_fault program line ts)

  pub parameter_types_fault : List ProgramItem → LineNo → ParameterTypes → Found
  parameter_types_fault program line no_parameters = None
  parameter_types_fault program line (with_parameter t owned ps) =
      first (type_fault program line t) (first (mark_fault program line owned) (parameter_types_fault program line ps))

  pub result_type_fault : List ProgramItem → LineNo → ResultType → Found
  result_type_fault program line no_result = None
  result_type_fault program line (with_result t) = type_fault program line t

-- the fields of a struct, where those before have the names `taken`
abbrev pub fields_fault : (program : List ProgramItem) (taken : List (List ℕ)) → List FieldDefinition → Found
fields_fault program taken [] = None
fields_fault program taken (f ∷ fs) =
    first (fault_where (is_among f.name taken) (fault.NameTwice f.line))
    (first (type_fault program f.line f.ty) (fields_fault program (taken ++ f.name ∷ []) fs))

-- the parameters of a function on this line: of each its name, its type, then its mark
abbrev pub parameters_fault : (program : List ProgramItem) (line : LineNo) (taken : List (List ℕ)) → List Parameter → Found
parameters_fault program line taken [] = None
parameters_fault program line taken (p ∷ ps) =
    first (fault_where (is_among p.name taken) (fault.NameTwice line))
    (first (type_fault program line p.ty)
    (first (mark_fault program line p.owned) (parameters_fault program line (taken ++ p.name ∷ []) ps)))

abbrev pub result_fault : List ProgramItem → LineNo → Option TypeExpression → Found
result_fault program line None = None
result_fault program line (Some t) = type_fault program line t

abbrev pub annotations_fault : List ProgramItem → List Annotation → Found
annotations_fault program [] = None
annotations_fault program (a ∷ rest) = first (type_fault program a.line a.ty) (annotations_fault program rest)

abbrev pub function_fault : List ProgramItem → FunctionDefinition → Found
function_fault program f =
    first (parameters_fault program f.line [] f.params) (first (result_fault program f.line f.result_type) (annotations_fault program (annotations f.body)))

abbrev pub parts_fault : (program : List ProgramItem) → List ProgramItem → Found
parts_fault program [] = None
parts_fault program (struct_item s ∷ items) = first (fields_fault program [] s.fields) (parts_fault program items)
parts_fault program (function_item f ∷ items) = first (function_fault program f) (parts_fault program items)
parts_fault program (_ ∷ items) = parts_fault program items
