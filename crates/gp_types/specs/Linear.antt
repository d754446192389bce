-- Linear types: those whose values hold a qubit.
use Rattle.std.specs.Prelude.{Bool, true, false, ◌||◌}
use Rattle.gp_types.specs.Types as types
use Rattle.gp_types.specs.Types.{Ty, Tys, Fields}

abbrev mutual
  pub is_linear : Ty → Bool
  is_linear types.Qubit = true
  is_linear (types.Tuple items) = has_linear items
  is_linear (types.Struct name fields) = has_linear_field fields
  is_linear _ = false

  pub has_linear : Tys → Bool
  has_linear types.none = false
  has_linear (types.more t ts) = is_linear t || has_linear ts

  pub has_linear_field : Fields → Bool
  has_linear_field types.end = false
  has_linear_field (types.field name t fs) = is_linear t || has_linear_field fs
