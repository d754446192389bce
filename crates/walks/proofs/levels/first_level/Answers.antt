use Rattle.std.proofs.Common.{◌≡◌, arith}
use Rattle.walks.specs.Walks.{row}
use Rattle.walks.proofs.Searches.{row_read, rows_in}
use Rattle.walks.proofs.LevelLemmas.{falls_more, none_before}
use Rattle.walks.proofs.levels.first_level.Goals as goal

pub greatest-requires : goal.greatest-requires
greatest-requires c =
    let lists = c.args.successors.now in
    let nodes : c.as_slice.result.now ≡ row lists c.loop-node.node = row_read lists c.loop-node.node c.index-successors-node.result c.as_slice.result.now c.loop-node-test.true c.index-successors-node.is c.as_slice.ensures in
    rows_in lists c.requires.closed c.loop-node.node c.as_slice.result.now c.args.levels.now nodes c.requires.levels

pub returns-then-greatest-levels : goal.returns-then-greatest-levels
returns-then-greatest-levels c =
    none_before c.args.successors.now c.requires.closed c.args.levels.now c.if-not-never_rises.ensures c.loop-node.node c.loop-node.invariant c.loop-node-test.true

pub loop-node-preserved : goal.loop-node-preserved
loop-node-preserved c =
    let lists = c.args.successors.now in
    let nodes : c.as_slice.result.now ≡ row lists c.loop-node.node = row_read lists c.loop-node.node c.index-successors-node.result c.as_slice.result.now c.loop-node-test.true c.index-successors-node.is c.as_slice.ensures in
    falls_more lists c.args.levels.now c.as_slice.result.now c.loop-node.node c.greatest.result c.loop-node.invariant nodes c.greatest.ensures.each (omega arith)
