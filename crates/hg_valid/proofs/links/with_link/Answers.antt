use Rattle.std.proofs.Common.{◌++◌, ◌∷◌, [], take, refl, sym, subst}
use Rattle.std.specs.Option.{option_map}
use Rattle.hg_graph.specs.View.{link_view, number_of}
use Rattle.hg_laws.proofs.Children.{get_in}
use Rattle.hg_valid.specs.code.LinkRules.{LeastTarget, IsLeastTarget}
use Rattle.hg_valid.proofs.ByPlace.{take_plus}
use Rattle.hg_valid.proofs.Targets.{least_same, least_more}
use Rattle.hg_valid.proofs.links.with_link.Goals as goal

pub link_keeps-requires-clause-link_in : goal.link_keeps-requires-clause-link_in
link_keeps-requires-clause-link_in c =
    c.node_count-count.ensures.graph.links (link_view c.in-Some.link) (get_in c.args.graph.now.links c.args.number (link_view c.in-Some.link) (sym c.in-Some.ensures))

pub returns-then-link_keeps : goal.returns-then-link_keeps
returns-then-link_keeps c =
    let links = c.args.graph.now.links in
    let link = link_view c.in-Some.link in
    let found = option_map number_of c.args.found in
    subst (λ ls. LeastTarget c.args.graph.now c.args.rule ls found) (sym (take_plus links c.args.number link (sym c.in-Some.ensures)))
    (least_same c.args.graph.now c.args.rule (take c.args.number links) link found c.requires.found (c.if-link_keeps.ensures.0 refl))

pub returns-else-link_keeps : goal.returns-else-link_keeps
returns-else-link_keeps c =
    let links = c.args.graph.now.links in
    let link = link_view c.in-Some.link in
    let found = option_map number_of c.args.found in
    let more = least_more c.args.graph.now c.args.rule (take c.args.number links) link found c.requires.found (λ k. let h = c.if-link_keeps.ensures.1 k in cc) in
    subst (λ ls. IsLeastTarget c.args.graph.now c.args.rule ls c.lesser.result.0) (sym (take_plus links c.args.number link (sym c.in-Some.ensures)))
    (subst (IsLeastTarget c.args.graph.now c.args.rule (take c.args.number links ++ link ∷ [])) (sym c.lesser.ensures) more)
