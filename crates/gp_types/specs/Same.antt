-- Equal types: struct types by their names, tuple types part by part, and function types by the types and the modes of
-- their parameters, in order, and what they answer.
use Rattle.std.specs.Prelude.{Bool, true, false, ◌&&◌, bytes_eq}
use Rattle.gp_types.specs.declared.mode.Mode.{Mode}
use Rattle.gp_types.specs.declared.mode.Mode.TheVariants.{Borrowed, Owned, Copied}
use Rattle.gp_types.specs.Types as types
use Rattle.gp_types.specs.Types.{Ty, Tys, FunParams, Answer}

abbrev pub same_mode : Mode → Mode → Bool
same_mode Borrowed Borrowed = true
same_mode Owned Owned = true
same_mode Copied Copied = true
same_mode _ _ = false

abbrev mutual
  pub same_type : Ty → Ty → Bool
  same_type types.Int types.Int = true
  same_type types.Bool types.Bool = true
  same_type types.Qubit types.Qubit = true
  same_type (types.Tuple items) (types.Tuple others) = same_types items others
  same_type (types.Struct name fields) (types.Struct other its_fields) = bytes_eq name other
  same_type (types.Function params answer) (types.Function its_params its_answer) = same_params params its_params && same_answers answer its_answer
  same_type _ _ = false

  pub same_types : Tys → Tys → Bool
  same_types types.none types.none = true
  same_types (types.more t ts) (types.more u us) = same_type t u && same_types ts us
  same_types _ _ = false

  pub same_params : FunParams → FunParams → Bool
  same_params types.no_params types.no_params = true
  same_params (types.param t mode ps) (types.param u other qs) = (same_mode mode other && same_type t u) && same_params ps qs
  same_params _ _ = false

  pub same_answers : Answer → Answer → Bool
  same_answers types.no_answer types.no_answer = true
  same_answers (types.answers t) (types.answers u) = same_type t u
  same_answers _ _ = false
