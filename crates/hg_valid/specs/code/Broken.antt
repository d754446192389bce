-- Which node is the first to break a rule.
use Rattle.std.specs.Prelude.{ℕ, ◌<◌, length, Option, Some, None}
use Rattle.hg_graph.specs.Graph.{Graph}
use Rattle.hg_graph.specs.Valid.{Rule, Keeps, number_of}

-- every node keeps the rule
abbrev pub AllKeep : Graph → Rule → Type 0
AllKeep g rule = (n : ℕ) → n < length g.nodes → Keeps g rule n

-- every node keeps each rule before this one
abbrev pub EarlierHold : Graph → Rule → Type 0
EarlierHold g rule = (other : Rule) → number_of other < number_of rule → AllKeep g other

-- node n breaks the rule, and each smaller node keeps it
pub record IsFirstToBreak (g : Graph) (rule : Rule) (n : ℕ) : Type 0 where
  pub is_node : n < length g.nodes
  pub broken : Keeps g rule n → ⊥
  pub earlier_nodes : (m : ℕ) → m < n → Keeps g rule m

-- the least node that breaks the rule, or none where every node keeps it
abbrev pub FirstToBreak : Graph → Rule → Option ℕ → Type 0
FirstToBreak g rule None = AllKeep g rule
FirstToBreak g rule (Some n) = IsFirstToBreak g rule n
