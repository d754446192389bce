-- The leaves of a type: those of its fields in order where it is a struct, else the one that it is itself.
use Rattle.std.specs.Prelude.{ℕ, List, [], ◌∷◌, ◌++◌, map}
use Rattle.gp_types.specs.Types as types
use Rattle.gp_types.specs.Types.{Ty, Fields}

-- a leaf: the names of the fields that lead to it, outermost first, and its type
pub record Leaf : Type 0 where
  pub path : List (List ℕ)
  pub ty : Ty

abbrev pub inside : List ℕ → Leaf → Leaf
inside name leaf = record { path = name ∷ leaf.path; ty = leaf.ty }

abbrev mutual
  pub leaves : Ty → List Leaf
  leaves (types.Struct name fields) = field_leaves fields
  leaves t = record { path = []; ty = t } ∷ []

  pub field_leaves : Fields → List Leaf
  field_leaves types.end = []
  field_leaves (types.field name t fs) = map (inside name) (leaves t) ++ field_leaves fs
