use Rattle.std.proofs.Common.{◌<◌, ℕ, length, sym, ap, subst, ◌∙◌}
use Rattle.std.specs.Option.{option_map}
use Rattle.hg_graph.specs.Graph.{children}
use Rattle.hg_graph.specs.View.{number_of}
use Rattle.hg_valid.proofs.Edges.{got_some}
use Rattle.hg_valid.proofs.RegionCounts.{got_at, child_within}
use Rattle.hg_valid.proofs.ordered.child_of.Goals as goal

pub unreachable-requires : goal.unreachable-requires
unreachable-requires c = got_some (children c.args.graph.now c.args.node.0) c.args.k c.requires.child_in (sym c.child.ensures ∙ ap (option_map number_of) c.in-None.is)

pub returns-clause-is : goal.returns-clause-is
returns-clause-is c = sym (got_at (children c.args.graph.now c.args.node.0) c.args.k c.in-Some.child.0 (sym c.child.ensures ∙ ap (option_map number_of) c.in-Some.is)).1

pub returns-clause-within : goal.returns-clause-within
returns-clause-within c =
    let e = (got_at (children c.args.graph.now c.args.node.0) c.args.k c.in-Some.child.0 (sym c.child.ensures ∙ ap (option_map number_of) c.in-Some.is)).1 in
    subst (λ (n : ℕ). n < length c.args.graph.now.nodes) e (child_within c.args.graph.now c.args.node.0 c.args.k c.requires.child_in)
