-- The checks of the sizes of types.
use Rattle.std.specs.Prelude.{List, [], ◌∷◌, Option, Some, None, nat_lt}
use Rattle.gp_base.specs.declared.name.LineNo.{LineNo}
use Rattle.gp_tree.specs.Form.{Parameter}
use Rattle.gp_tree.specs.Program.{ProgramItem, struct_item, function_item, FunctionDefinition}
use Rattle.gp_tree.specs.TypeExpression.{TypeExpression, named_type}
use Rattle.gp_types.specs.Size.{size}
use Rattle.gp_types.specs.declared.limit.TheConstants.{TYPE_SIZE_LIMIT}
use Rattle.gp_scope.specs.declared.fault.ScopeFault.TheVariants as fault
use Rattle.gp_scope.specs.Checks.{Found, first, fault_where}
use Rattle.gp_scope.specs.Annotations.{Annotation, annotations}
use Rattle.gp_scope.specs.Spelled.{spelled}

-- the type that is written on this line has a size above the limit
abbrev pub big_type_fault : List ProgramItem → LineNo → TypeExpression → Found
big_type_fault program line t = fault_where (nat_lt TYPE_SIZE_LIMIT (size (spelled program t))) (fault.TooBigType line)

abbrev pub big_parameters_fault : List ProgramItem → LineNo → List Parameter → Found
big_parameters_fault program line [] = None
big_parameters_fault program line (p ∷ ps) = first (big_type_fault program line p.ty) (big_parameters_fault program line ps)

abbrev pub big_result_fault : List ProgramItem → LineNo → Option TypeExpression → Found
big_result_fault program line None = None
big_result_fault program line (Some t) = big_type_fault program line t

abbrev pub big_annotations_fault : List ProgramItem → List Annotation → Found
big_annotations_fault program [] = None
big_annotations_fault program (a ∷ rest) = first (big_type_fault program a.line a.ty) (big_annotations_fault program rest)

abbrev pub big_function_fault : List ProgramItem → FunctionDefinition → Found
big_function_fault program f =
    first (big_parameters_fault program f.line f.params) (first (big_result_fault program f.line f.result_type) (big_annotations_fault program (annotations f.body)))

abbrev pub sizes_fault : (program : List ProgramItem) → List ProgramItem → Found
sizes_fault program [] = None
sizes_fault program (struct_item s ∷ items) = first (big_type_fault program s.line (named_type s.name)) (sizes_fault program items)
sizes_fault program (function_item f ∷ items) = first (big_function_fault program f) (sizes_fault program items)
sizes_fault program (_ ∷ items) = sizes_fault program items
