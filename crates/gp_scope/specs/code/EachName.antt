-- Tests of all names in written types.
use Rattle.std.specs.Prelude.{ℕ, Bool, true, ◌&&◌, List, [], ◌∷◌}
use Rattle.gp_tree.specs.Program.{FieldDefinition}
use Rattle.gp_tree.specs.TypeExpression.{TypeExpression, TypeExpressions, ParameterTypes, ResultType, named_type, tuple_type, function_type, no_types, with_type, no_parameters, with_parameter, no_result, with_result}

-- whether the test holds of each name of a written type
abbrev mutual
  pub each_name : (List ℕ → Bool) → TypeExpression → Bool
  each_name test (named_type name) = test name
  each_name test (tuple_type items) = each_name_of test items
  each_name test (function_type params answer) = each_name_taken test params && each_name_answered test answer

  pub each_name_of : (List ℕ → Bool) → TypeExpressions → Bool
  each_name_of test no_types = true
  each_name_of test (with_type t ts) = each_name test t && each_name_of test ts

  pub each_name_taken : (List ℕ → Bool) → ParameterTypes → Bool
  each_name_taken test no_parameters = true
  each_name_taken test (with_parameter t owned ps) = each_name test t && each_name_taken test ps

  pub each_name_answered : (List ℕ → Bool) → ResultType → Bool
  each_name_answered test no_result = true
  each_name_answered test (with_result t) = each_name test t

abbrev pub each_field_name : (List ℕ → Bool) → List FieldDefinition → Bool
each_field_name test [] = true
each_field_name test (f ∷ fs) = each_name test f.ty && each_field_name test fs
