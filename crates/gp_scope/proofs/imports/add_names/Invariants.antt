use Rattle.std.proofs.Common.{◌≡◌, ℕ, List, ◌||◌, drop}
use Rattle.gp_scope.specs.Checks.{is_among}
use Rattle.gp_scope.specs.Tables.{has_name}
use Rattle.gp_scope.proofs.imports.add_names.Given as goal

-- a name is in the set, or in what is left
abbrev pub invariant-loop-name : goal.invariant-loop-name
invariant-loop-name l =
    (name : List ℕ) → (is_among name (drop l.name-index l.name-items) || has_name l.imported name) ≡ (is_among name l.import.names || has_name l.initial.imported name)
