-- The size of a type: 1 for `int`, `bool` and `qubit`, and 1 more than the sizes of its parts for a tuple, a struct or a
-- function type, whose parts are its parameters and its answer, if there is one.
use Rattle.std.specs.Prelude.{ℕ, suc, ◌+◌}
use Rattle.gp_types.specs.Types as types
use Rattle.gp_types.specs.Types.{Ty, Tys, Fields, FunParams, Answer}

abbrev mutual
  pub size : Ty → ℕ
  size (types.Tuple items) = suc (total_size items)
  size (types.Struct name fields) = suc (total_field_size fields)
  size (types.Function params answer) = suc (total_param_size params + answer_size answer)
  size _ = 1

  pub total_size : Tys → ℕ
  total_size types.none = 0
  total_size (types.more t ts) = size t + total_size ts

  pub total_field_size : Fields → ℕ
  total_field_size types.end = 0
  total_field_size (types.field name t fs) = size t + total_field_size fs

  pub total_param_size : FunParams → ℕ
  total_param_size types.no_params = 0
  total_param_size (types.param t mode ps) = size t + total_param_size ps

  pub answer_size : Answer → ℕ
  answer_size types.no_answer = 0
  answer_size (types.answers t) = size t
