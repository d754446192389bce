-- What is said of a graph: that it is valid, or which rule is broken.
use Rattle.std.specs.Prelude.{◌≡◌, ℕ, Option, Some, None}
use Rattle.hg_graph.specs.Graph.{Graph}
use Rattle.hg_graph.specs.Valid.{Rule, IsValid, IsBroken, number_of}
use Rattle.hg_valid.specs.declared.broken.Broken.{Broken}

-- the rule with this number is the least that is broken, and the node is the least that breaks it
abbrev pub IsBrokenBy : Graph → ℕ → ℕ → Type 0
IsBrokenBy g number n = (rule : Rule) × (number_of rule ≡ number) × IsBroken g rule n

abbrev pub FirstBroken : Graph → Option Broken → Type 0
FirstBroken g None = IsValid g
FirstBroken g (Some broken) = IsBrokenBy g broken.rule broken.node.0
