use Rattle.std.proofs.Common.{ap, sym, ◌∙◌}
use Rattle.hg_graph.specs.View.{port_view}
use Rattle.hg_run.specs.code.Orders.{target_at, first_at}
use Rattle.hg_run.proofs.Takers.{taker_first, first_none, first_some}
use Rattle.hg_run.proofs.reads.numbered_taker.Goals as goal

pub returns-in-None : goal.returns-in-None
returns-in-None c =
    first_none c.args.graph.now.links c.links_from.result.now c.in-None.ensures.value
    ∙ (ap (first_at c.args.graph.now.links) c.links_from.ensures ∙ sym (taker_first c.args.graph.now.links (port_view c.args.from)))

pub returns-in-Some : goal.returns-in-Some
returns-in-Some c =
    c.target_at.ensures
    ∙ (ap target_at c.link_at.ensures
    ∙ (first_some c.args.graph.now.links c.links_from.result.now c.in-Some.number.now c.in-Some.ensures.value
    ∙ (ap (first_at c.args.graph.now.links) c.links_from.ensures ∙ sym (taker_first c.args.graph.now.links (port_view c.args.from)))))
