-- The names of a function: its parameters and each name that it assigns, counts with or annotates, anywhere in it.
use Rattle.std.specs.Prelude.{ℕ, if◌then◌else◌, List, [], ◌∷◌, ◌++◌, flat_map, bytes_eq}
use Rattle.std.specs.List.{list_any}
use Rattle.gp_tree.specs.declared.place.Place.{Place}
use Rattle.gp_tree.specs.declared.place.Targets.{Targets}
use Rattle.gp_tree.specs.declared.place.Targets.TheVariants as targets
use Rattle.gp_tree.specs.Statement as stmt
use Rattle.gp_tree.specs.Statement.{Statement, Statements}

-- the name of a place without fields
abbrev pub whole_name : List ℕ → List (List ℕ) → List (List ℕ)
whole_name name [] = name ∷ []
whole_name name (field ∷ fields) = []

abbrev pub names_of_place : Place → List (List ℕ)
names_of_place place = whole_name place.name place.fields

-- the names that are assigned as a whole
abbrev pub names_of_targets : Targets → List (List ℕ)
names_of_targets (targets.One place) = names_of_place place
names_of_targets (targets.Pattern places) = flat_map names_of_place places

abbrev mutual
  pub names_of_statement : Statement → List (List ℕ)
  names_of_statement (stmt.assign line ts value) = names_of_targets ts
  names_of_statement (stmt.annotated line name ty value) = name ∷ []
  names_of_statement (stmt.if_else line test body other) = names_of_block body ++ names_of_block other
  names_of_statement (stmt.while_loop line test body) = names_of_block body
  names_of_statement (stmt.for_loop line name count body) = name ∷ names_of_block body
  names_of_statement _ = []

  pub names_of_block : Statements → List (List ℕ)
  names_of_block stmt.no_statements = []
  names_of_block (stmt.with_statement s ss) = names_of_statement s ++ names_of_block ss

-- names, with one more where it isn't among them
abbrev pub with_name : List (List ℕ) → List ℕ → List (List ℕ)
with_name names name = if list_any (bytes_eq name) names then names else names ++ name ∷ []

abbrev pub with_names : List (List ℕ) → List (List ℕ) → List (List ℕ)
with_names names [] = names
with_names names (name ∷ more) = with_names (with_name names name) more

-- the names of a function with these parameters and this body, each once, in the order of their first appearance
abbrev pub locals : List (List ℕ) → Statements → List (List ℕ)
locals parameters body = with_names [] (parameters ++ names_of_block body)
