use Rattle.std.proofs.Common.{◌≡◌, ◌≢◌, ◌∙◌, ℕ, ◌∷◌, [], Option, Some, None, slice_get, length, sym, ap, rules}
use Rattle.std.specs.Option.{option_map, IfSome, IfNone}
use Rattle.hg_graph.specs.Graph.{Graph, Port, IsGraph, links_into}
use Rattle.hg_graph.specs.NodeIndex.{numbers_into}
use Rattle.hg_graph.specs.code.Sources.{source_of}
use Rattle.hg_graph.specs.View.{port_view}
use Rattle.hg_graph.specs.declared.link.Port as declared
use Rattle.hg_valid.specs.code.Parts.{IsOnlySource}
use Rattle.hg_valid.proofs.PortLinks.{length-numbers_into, only_source, some_source}
use Rattle.hg_valid.proofs.port_links.only_source.Goals as goal

found : (g : Graph) → IsGraph g → (to : Port) (k : ℕ) (r : Option declared.Port) → numbers_into g.links to ≡ k ∷ []
    → option_map port_view r ≡ source_of (slice_get g.links k) → IfSome r (λ from. IsOnlySource g to (port_view from))
found g G to k None e s = search rules
found g G to k (Some from) e s = only_source g G to k (port_view from) e (sym s)

missing : (g : Graph) (to : Port) (k : ℕ) (r : Option declared.Port) → numbers_into g.links to ≡ k ∷ []
    → option_map port_view r ≡ source_of (slice_get g.links k) → IfNone r (links_into g.links to ≢ 1)
missing g to k None e s = some_source g.links to k e (sym s)
missing g to k (Some from) e s = search rules

pub returns-in-Some-clause-some : goal.returns-in-Some-clause-some
returns-in-Some-clause-some c =
    found c.args.graph.now c.node_count-count.ensures.graph (port_view c.args.to) c.in-Some.number c.source.result
    (sym c.links_into.ensures ∙ c.in-Some.ensures.some) (c.source.ensures ∙ ap source_of c.link_at.ensures)

pub returns-in-Some-clause-none : goal.returns-in-Some-clause-none
returns-in-Some-clause-none c =
    missing c.args.graph.now (port_view c.args.to) c.in-Some.number c.source.result
    (sym c.links_into.ensures ∙ c.in-Some.ensures.some) (c.source.ensures ∙ ap source_of c.link_at.ensures)

pub returns-in-None-clause-none : goal.returns-in-None-clause-none
returns-in-None-clause-none c =
    λ once. c.in-None.ensures.none (ap length c.links_into.ensures ∙ length-numbers_into c.args.graph.now.links (port_view c.args.to) ∙ once)
