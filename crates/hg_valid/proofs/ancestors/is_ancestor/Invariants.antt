use Rattle.std.proofs.Common.{◌<◌, length}
use Rattle.hg_graph.specs.Valid.{IsAncestor}
use Rattle.hg_valid.specs.code.Ancestors.{IsAtOrAbove}
use Rattle.hg_valid.proofs.ancestors.is_ancestor.Given as goal

-- the way up has come to an ancestor of the node, and the one that is looked for is there or further up
abbrev pub invariant-loop-at : goal.invariant-loop-at
invariant-loop-at l = record {
  is_node : l.at.0 < length l.graph.nodes;
  above : IsAncestor l.graph l.at.0 l.fn.node.0;
  further : IsAncestor l.graph l.ancestor.0 l.fn.node.0 → IsAtOrAbove l.graph l.ancestor.0 l.at.0;
}

abbrev pub decreases-loop-at : goal.decreases-loop-at
decreases-loop-at l = l.at.0
