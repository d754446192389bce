use Rattle.std.proofs.Common.{◌≡◌, ◌≢◌, ◌∙◌, ℕ, ◌∷◌, [], Option, Some, None, slice_get, length, sym, ap, rules}
use Rattle.std.specs.Option.{option_map, IfSome, IfNone}
use Rattle.hg_graph.specs.Graph.{Graph, Port, IsGraph, links_from}
use Rattle.hg_graph.specs.NodeIndex.{numbers_from}
use Rattle.hg_graph.specs.View.{port_view}
use Rattle.hg_graph.specs.declared.link.Port as declared
use Rattle.hg_valid.specs.code.Parts.{target_of, IsOnlyTarget}
use Rattle.hg_valid.proofs.PortLinks.{length-numbers_from, only_target, some_target}
use Rattle.hg_valid.proofs.port_links.only_target.Goals as goal

found : (g : Graph) → IsGraph g → (from : Port) (k : ℕ) (r : Option declared.Port) → numbers_from g.links from ≡ k ∷ []
    → option_map port_view r ≡ target_of (slice_get g.links k) → IfSome r (λ to. IsOnlyTarget g from (port_view to))
found g G from k None e s = search rules
found g G from k (Some to) e s = only_target g G from k (port_view to) e (sym s)

missing : (g : Graph) (from : Port) (k : ℕ) (r : Option declared.Port) → numbers_from g.links from ≡ k ∷ []
    → option_map port_view r ≡ target_of (slice_get g.links k) → IfNone r (links_from g.links from ≢ 1)
missing g from k None e s = some_target g.links from k e (sym s)
missing g from k (Some to) e s = search rules

pub returns-in-Some-clause-some : goal.returns-in-Some-clause-some
returns-in-Some-clause-some c =
    found c.args.graph.now c.node_count-count.ensures.graph (port_view c.args.from) c.in-Some.number c.target.result
    (sym c.links_from.ensures ∙ c.in-Some.ensures.some) (c.target.ensures ∙ ap target_of c.link_at.ensures)

pub returns-in-Some-clause-none : goal.returns-in-Some-clause-none
returns-in-Some-clause-none c =
    missing c.args.graph.now (port_view c.args.from) c.in-Some.number c.target.result
    (sym c.links_from.ensures ∙ c.in-Some.ensures.some) (c.target.ensures ∙ ap target_of c.link_at.ensures)

pub returns-in-None-clause-none : goal.returns-in-None-clause-none
returns-in-None-clause-none c =
    λ once. c.in-None.ensures.none (ap length c.links_from.ensures ∙ length-numbers_from c.args.graph.now.links (port_view c.args.from) ∙ once)
