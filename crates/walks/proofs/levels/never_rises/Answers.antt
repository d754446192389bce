use Rattle.std.proofs.Common.{◌≡◌, arith}
use Rattle.walks.specs.Walks.{row}
use Rattle.walks.proofs.Searches.{row_read, rows_in}
use Rattle.walks.proofs.LevelLemmas.{rises_not}
use Rattle.walks.proofs.levels.never_rises.Goals as goal

pub greatest-requires : goal.greatest-requires
greatest-requires c =
    let lists = c.args.successors.now in
    let nodes : c.as_slice.result.now ≡ row lists c.loop-node.node = row_read lists c.loop-node.node c.index-successors-node.result c.as_slice.result.now c.loop-node-test.true c.index-successors-node.is c.as_slice.ensures in
    rows_in lists c.requires.closed c.loop-node.node c.as_slice.result.now c.args.levels.now nodes c.requires.levels

pub loop-node-preserved : goal.loop-node-preserved
loop-node-preserved c =
    let lists = c.args.successors.now in
    let nodes : c.as_slice.result.now ≡ row lists c.loop-node.node = row_read lists c.loop-node.node c.index-successors-node.result c.as_slice.result.now c.loop-node-test.true c.index-successors-node.is c.as_slice.ensures in
    rises_not lists c.args.levels.now c.as_slice.result.now c.loop-node.node c.greatest.result c.loop-node.invariant nodes c.greatest.ensures.each (omega arith)
