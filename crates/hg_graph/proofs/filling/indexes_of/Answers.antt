use Rattle.hg_graph.proofs.Filled.{starts, ends}
use Rattle.hg_graph.proofs.filling.indexes_of.Goals as goal

pub fill_children-requires-clause-fresh : goal.fill_children-requires-clause-fresh
fill_children-requires-clause-fresh c = starts c.args.nodes.now c.in_ok-indexes.indexes.items c.in_ok-indexes.ensures

pub returns : goal.returns
returns c = ends c.args.nodes.now c.fill_children.new.indexes.items c.requires.some c.requires.parents_in c.in_ok-fill_children.ensures
