use Rattle.std.proofs.Common.{◌+◌, vec_len}
use Rattle.indexmap.specs.IndexMap.{index_map_len}
use Rattle.gp_tree.specs.Program.{program_items}
use Rattle.gp_scope.proofs.SearchSteps.{Search}
use Rattle.gp_scope.proofs.cycles.holds_itself.Given as goal

abbrev pub invariant-loop-next : goal.invariant-loop-next
invariant-loop-next l = Search (program_items l.names.items.now) l.name l.unseen l.waiting.items

abbrev pub decreases-loop-next : goal.decreases-loop-next
decreases-loop-next l = vec_len l.waiting + index_map_len l.unseen
