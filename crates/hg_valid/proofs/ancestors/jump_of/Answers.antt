use Rattle.std.proofs.Common.{sym, subst}
use Rattle.hg_graph.specs.Valid.{IsAncestor, of_child, of_further}
use Rattle.hg_valid.proofs.Up.{up}
use Rattle.hg_valid.proofs.ancestors.jump_of.Goals as goal

pub returns : goal.returns
returns c =
    let first = c.requires.jumps c.parent-parent.result.0 c.in-Some.near (sym c.in-Some.ensures) in
    let second = c.requires.jumps c.in-Some.near.to.0 c.in-Some-jump_at.far (sym c.in-Some-jump_at.ensures) in
    of_further (subst (IsAncestor c.args.graph.now c.in-Some-jump_at.far.to.0) c.parent-parent.ensures (up c.args.graph.now _ _ _ second first))

pub returns-2 : goal.returns-2
returns-2 c = of_child (sym c.parent-parent.ensures)
