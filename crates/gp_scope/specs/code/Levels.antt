-- Sizes of written types by the sizes of names, and of structs level by level.
use Rattle.std.specs.Prelude.{ℕ, zero, suc, ◌+◌, List, [], ◌∷◌, Some, None, min}
use Rattle.gp_tree.specs.Program.{ProgramItem, FieldDefinition}
use Rattle.gp_tree.specs.TypeExpression.{TypeExpression, TypeExpressions, ParameterTypes, ResultType, named_type, tuple_type, function_type, no_types, with_type, no_parameters, with_parameter, no_result, with_result}
use Rattle.gp_scope.specs.Definitions.{struct_named}

-- the size of a written type, where names have these sizes
abbrev mutual
  pub size_by : (List ℕ → ℕ) → TypeExpression → ℕ
  size_by sizes (named_type name) = sizes name
  size_by sizes (tuple_type items) = suc (total_by sizes items)
  size_by sizes (function_type params answer) = suc (params_total sizes params + answer_size_by sizes answer)

  pub total_by : (List ℕ → ℕ) → TypeExpressions → ℕ
  total_by sizes no_types = 0
  total_by sizes (with_type t ts) = size_by sizes t + total_by sizes ts

  pub params_total : (List ℕ → ℕ) → ParameterTypes → ℕ
  params_total sizes no_parameters = 0
  params_total sizes (with_parameter t owned ps) = size_by sizes t + params_total sizes ps

  pub answer_size_by : (List ℕ → ℕ) → ResultType → ℕ
  answer_size_by sizes no_result = 0
  answer_size_by sizes (with_result t) = size_by sizes t

abbrev pub fields_total : (List ℕ → ℕ) → List FieldDefinition → ℕ
fields_total sizes [] = 0
fields_total sizes (f ∷ fs) = size_by sizes f.ty + fields_total sizes fs

-- The size of a name's type with structs opened so many levels deep, where one that isn't opened counts 1, and at most
-- 65 for each.
unfoldable pub level_size : ℕ → List ProgramItem → List ℕ → ℕ
level_size zero program name = 1
level_size (suc levels) program name =
    elim (struct_named program name) [ None ↦ 1 | Some s ↦ min (suc (fields_total (level_size levels program) s.fields)) 65 ]
