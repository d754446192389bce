-- Environments as lists of their usable names alone.
use Rattle.std.specs.Prelude.{◌≡◌, ℕ, zero, suc, ◌+◌, Bool, false, if◌then◌else◌, ◌==◌, ltb, List, [], ◌∷◌, Option, Some, None, slice_get}
use Rattle.gp_types.specs.Types.{Ty}
use Rattle.gp_types.specs.Size.{size}
use Rattle.gp_locals.specs.Environment.{Environment, Names, NameType, is_kept}

-- a usable name with its type, by its position among the names of the function
pub record UsableName : Type 0 where
  pub position : ℕ
  pub ty : Ty

abbrev pub at_position : ℕ → Ty → UsableName
at_position p ty = record { position = p; ty = ty }

-- the usable names of an environment whose first name has this position
abbrev pub usable_from : ℕ → Environment → List UsableName
usable_from k [] = []
usable_from k (None ∷ e) = usable_from (suc k) e
usable_from k (Some ty ∷ e) = record { position = k; ty = ty } ∷ usable_from (suc k) e

-- the environment of n names from position k on, of which these are usable
abbrev pub spread : ℕ → ℕ → List UsableName → Environment
spread k zero us = []
spread k (suc n) [] = None ∷ spread (suc k) n []
spread k (suc n) (u ∷ us) = if ltb k u.position then None ∷ spread (suc k) n (u ∷ us) else Some u.ty ∷ spread (suc k) n us

-- each of these is a usable name of n, once, in the order of the positions
abbrev pub IsListed : ℕ → List UsableName → Type 0
IsListed n us = usable_from 0 (spread 0 n us) ≡ us

-- the type of the name at a position, where it is usable
abbrev pub type_among : ℕ → List UsableName → Option Ty
type_among p [] = None
type_among p (u ∷ us) = if u.position == p then Some u.ty else type_among p us

-- how many stand before the first that isn't below a position
abbrev pub count_below : ℕ → List UsableName → ℕ
count_below p [] = 0
count_below p (u ∷ us) = if ltb u.position p then suc (count_below p us) else 0

-- a usable name with this position
abbrev pub stands_at : ℕ → Option UsableName → Bool
stands_at p None = false
stands_at p (Some u) = u.position == p

-- the usable names after the one at a position has got this type
abbrev pub put_among : ℕ → Ty → List UsableName → List UsableName
put_among p ty [] = record { position = p; ty = ty } ∷ []
put_among p ty (u ∷ us) =
    if ltb u.position p then u ∷ put_among p ty us
    else if u.position == p then record { position = p; ty = ty } ∷ us
    else record { position = p; ty = ty } ∷ u ∷ us

-- a usable name has the same type among others
abbrev pub is_kept_among : List UsableName → UsableName → Bool
is_kept_among others u = is_kept (Some u.ty) (type_among u.position others)

-- the sizes of their types
abbrev pub sizes : List UsableName → ℕ
sizes [] = 0
sizes (u ∷ us) = size u.ty + sizes us

abbrev pub with_name_at : Option (List ℕ) → Ty → List NameType → List NameType
with_name_at None ty rest = rest
with_name_at (Some name) ty rest = record { name = name; ty = ty } ∷ rest

-- the usable names by their names
abbrev pub by_names : Names → List UsableName → List NameType
by_names names [] = []
by_names names (u ∷ us) = with_name_at (slice_get names u.position) u.ty (by_names names us)
