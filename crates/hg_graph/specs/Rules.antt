-- Two of the rules of valid graphs, each said of all nodes.
use Rattle.std.specs.Prelude.{ℕ, ◌<◌, length}
use Rattle.hg_graph.specs.Graph.{Graph}
use Rattle.hg_graph.specs.Valid.{InputsAreFed, LinearOutputsAreTaken}

-- each value input port has exactly one link
abbrev pub InputsLinkedOnce : Graph → Type 0
InputsLinkedOnce g = (n : ℕ) → n < length g.nodes → InputsAreFed g n

-- each linear value output port has exactly one link
abbrev pub LinearOutputsLinkedOnce : Graph → Type 0
LinearOutputsLinkedOnce g = (n : ℕ) → n < length g.nodes → LinearOutputsAreTaken g n
