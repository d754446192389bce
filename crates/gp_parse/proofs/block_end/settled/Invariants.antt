use Rattle.std.proofs.Common.{◌≡◌, map, length}
use Rattle.gp_tree.specs.Statement.{statement}
use Rattle.gp_parse.specs.code.NestingMachine.{settled}
use Rattle.gp_parse.specs.code.NestingViews.{branch_of}
use Rattle.gp_parse.proofs.block_end.settled.Given as goal

abbrev pub invariant-branches : goal.invariant-branches
invariant-branches l = settled (map branch_of l.chain) (map statement l.block.items) ≡ settled (map branch_of l.fn.chain) (map statement l.fn.other.items)

abbrev pub decreases-branches : goal.decreases-branches
decreases-branches l = length l.chain
