use Rattle.std.proofs.Common.{◌≡◌, ◌≤◌, ◌++◌, ◌∷◌, ◌∙◌, [], List, length, map, ap, sym, arith}
use Rattle.std.proofs.lemmas.List.{map-append}
use Rattle.hg_graph.specs.Graph.{Link}
use Rattle.hg_graph.specs.NodeIndex as spec
use Rattle.hg_graph.specs.code.NodeIndexView.{node_index_view}
use Rattle.hg_graph.specs.View.{link_view}
use Rattle.hg_graph.proofs.Pushed.{with_input-past}
use Rattle.hg_graph.proofs.node_index.NodeIndex.push_input.Goals as goal

pub returns-in_ok-push-clause-ok : goal.returns-in_ok-push-clause-ok
returns-in_ok-push-clause-ok c =
    let i : spec.NodeIndex = node_index_view c.self.inside in
    let past : length c.self.inside.inputs.items ≤ c.args.index = omega arith in
    let strays : map link_view c.push.new.self.items ≡ i.strays ++ link_view c.args.link ∷ [] =
    ap (map link_view) c.in_ok-push.ensures.items ∙ map-append link_view c.self.inside.strays.items (c.args.link ∷ []) in
    ap (λ (s : List Link). record i { strays = s }) strays
    ∙ sym (with_input-past i c.args.index c.args.number (link_view c.args.link) past)
    ∙ ap (spec.with_input c.args.index (link_view c.args.link) c.args.number) c.self.view_is
