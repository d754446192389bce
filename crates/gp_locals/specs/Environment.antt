-- Environments: the types that the names of a function have at some place of its text.
use Rattle.std.specs.Prelude.{ℕ, ◌+◌, Bool, true, false, ◌&&◌, if◌then◌else◌, List, [], ◌∷◌, Option, Some, None, map, position, slice_index_or, slice_set, bytes_eq, ltb, not}
use Rattle.gp_types.specs.Types.{Ty}
use Rattle.gp_types.specs.Same.{same_type}
use Rattle.gp_types.specs.Size.{size}
use Rattle.gp_locals.specs.declared.limit.TheConstants.{TOTAL_SIZE_LIMIT}

-- the names of a function, in the order of their first appearance
abbrev pub Names : Type 0
Names = List (List ℕ)

-- the type of each of these names, where the name is usable
abbrev pub Environment : Type 0
Environment = List (Option Ty)

-- the place of a name among them, none where it isn't a name of the function
abbrev pub place_among : Names → List ℕ → Option ℕ
place_among names name = position (bytes_eq name) names

-- no name is usable
abbrev pub nothing_usable : Names → Environment
nothing_usable names = map (λ name. None) names

abbrev pub type_at : Environment → Option ℕ → Option (Option Ty)
type_at e None = None
type_at e (Some i) = Some (slice_index_or e i None)

-- The type of a name. The outer answer is none where it isn't a name of the function, the inner one where it isn't usable.
abbrev pub type_of : Names → Environment → List ℕ → Option (Option Ty)
type_of names e name = type_at e (place_among names name)

abbrev pub put_at : Environment → Option ℕ → Ty → Environment
put_at e None ty = e
put_at e (Some i) ty = slice_set e i (Some ty)

-- the environment after the name has got this type
abbrev pub put : Names → Environment → List ℕ → Ty → Environment
put names e name ty = put_at e (place_among names name) ty

-- one equal type on both paths
abbrev pub common : Option Ty → Option Ty → Option Ty
common None other = None
common (Some ty) None = None
common (Some ty) (Some other) = if same_type ty other then Some ty else None

-- what is usable where two paths join
abbrev pub join : Environment → Environment → Environment
join [] others = []
join (ty ∷ e) [] = None ∷ join e []
join (ty ∷ e) (other ∷ others) = common ty other ∷ join e others

-- where paths join that may not be reached
abbrev pub join_reached : Option Environment → Option Environment → Option Environment
join_reached None other = other
join_reached (Some e) None = Some e
join_reached (Some e) (Some others) = Some (join e others)

-- the type of a usable name is the same on the other path
abbrev pub is_kept : Option Ty → Option Ty → Bool
is_kept None other = true
is_kept (Some ty) None = false
is_kept (Some ty) (Some other) = same_type ty other

-- each name that is usable in the first has the same type in the second
abbrev pub keeps : Environment → Environment → Bool
keeps [] others = true
keeps (ty ∷ e) [] = is_kept ty None && keeps e []
keeps (ty ∷ e) (other ∷ others) = is_kept ty other && keeps e others

abbrev pub keeps_reached : Environment → Option Environment → Bool
keeps_reached e None = true
keeps_reached e (Some others) = keeps e others

abbrev pub size_of : Option Ty → ℕ
size_of None = 0
size_of (Some ty) = size ty

-- the sizes of the usable names' types
abbrev pub total_size : Environment → ℕ
total_size [] = 0
total_size (ty ∷ e) = size_of ty + total_size e

-- within the limit, where the place is reached
abbrev pub is_within : Option Environment → Bool
is_within None = true
is_within (Some e) = not (ltb TOTAL_SIZE_LIMIT (total_size e))

-- a usable name with its type
pub record NameType : Type 0 where
  pub name : List ℕ
  pub ty : Ty

abbrev pub with_usable : List ℕ → Option Ty → List NameType → List NameType
with_usable name None rest = rest
with_usable name (Some ty) rest = record { name = name; ty = ty } ∷ rest

-- the usable names with their types, in the order of their first appearance in the function
abbrev pub usable : Names → Environment → List NameType
usable [] e = []
usable (name ∷ names) [] = []
usable (name ∷ names) (ty ∷ e) = with_usable name ty (usable names e)
