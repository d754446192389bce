use Rattle.std.proofs.Common.{◌<◌, sym, arith}
use Rattle.hg_graph.specs.Valid.{of_child}
use Rattle.hg_valid.proofs.Up.{ancestor_lt, two}
use Rattle.hg_valid.proofs.ancestors.step_up.Goals as goal

pub returns-in-Some-clause-less : goal.returns-in-Some-clause-less
returns-in-Some-clause-less c =
    let above = c.requires.jumps.lead_up c.args.node.0 c.in-Some.jump (sym c.in-Some.ensures) in
    let some : 0 < c.args.node.0 = omega (arith, c.requires.below) in
    ancestor_lt c.args.graph.now c.node_count-count.ensures.graph c.requires.places c.in-Some.jump.to.0 c.args.node.0 c.requires.node_in some above

pub returns-in-Some-clause-further : goal.returns-in-Some-clause-further
returns-in-Some-clause-further c =
    let above = c.requires.jumps.lead_up c.args.node.0 c.in-Some.jump (sym c.in-Some.ensures) in
    λ h. two c.args.graph.now c.node_count-count.ensures.graph c.requires.places c.args.ancestor.0 c.in-Some.jump.to.0 c.args.node.0 c.requires.node_in h above c.if-jump-ancestor.true

pub returns-in_default-clause-up : goal.returns-in_default-clause-up
returns-in_default-clause-up c = of_child (sym c.parent.ensures)

pub returns-in_default-clause-less : goal.returns-in_default-clause-less
returns-in_default-clause-less c =
    let some : 0 < c.args.node.0 = omega (arith, c.requires.below) in
    ancestor_lt c.args.graph.now c.node_count-count.ensures.graph c.requires.places c.parent.result.0 c.args.node.0 c.requires.node_in some (of_child (sym c.parent.ensures))
