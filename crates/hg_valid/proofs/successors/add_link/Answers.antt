use Rattle.std.proofs.Common.{◌≡◌, ◌<◌, length, refl, sym, ap, Some, ◌∙◌, arith}
use Rattle.std.specs.Option.{option_map}
use Rattle.hg_ops.specs.Op.{ins_of}
use Rattle.hg_graph.specs.Graph.{Ports, Order, op_at}
use Rattle.hg_graph.specs.View.{port_view, link_view}
use Rattle.hg_valid.proofs.Edges.{got_some, ports_join, link_within, edge_added}
use Rattle.hg_valid.proofs.successors.add_link.Goals as goal

pub op-requires : goal.op-requires
op-requires c =
    let a = c.in-Some-Ports in
    (link_within c.args.graph.now c.requires.graph c.args.k (Ports (port_view a.from) (port_view a.to)) (sym (ap (option_map link_view) (a.is ∙ ap Some a.field-0-is)) ∙ c.link_at.ensures)).1

pub push_to-requires : goal.push_to-requires
push_to-requires c =
    let a = c.in-Some-Ports in
    let h = (link_within c.args.graph.now c.requires.graph c.args.k (Ports (port_view a.from) (port_view a.to)) (sym (ap (option_map link_view) (a.is ∙ ap Some a.field-0-is)) ∙ c.link_at.ensures)).0 in
    let e : length c.args.lists.now.items ≡ length c.args.graph.now.nodes = c.requires.before.count in
    omega (arith, h)

pub push_to-requires-in-Some-Order : goal.push_to-requires-in-Some-Order
push_to-requires-in-Some-Order c =
    let a = c.in-Some-Order in
    let h = (link_within c.args.graph.now c.requires.graph c.args.k (Order a.before.0 a.after.0) (sym (ap (option_map link_view) (a.is ∙ ap Some a.field-0-is)) ∙ c.link_at.ensures)).0 in
    let e : length c.args.lists.now.items ≡ length c.args.graph.now.nodes = c.requires.before.count in
    omega (arith, h)

pub unreachable-requires : goal.unreachable-requires
unreachable-requires c = got_some c.args.graph.now.links c.args.k c.requires.link_in (sym c.link_at.ensures ∙ ap (option_map link_view) c.in-None.is)

pub returns-in_ok-push_to-in-Some-Ports : goal.returns-in_ok-push_to-in-Some-Ports
returns-in_ok-push_to-in-Some-Ports c =
    let a = c.in-Some-Ports in
    let g = c.args.graph.now in
    let is = sym (ap (option_map link_view) (a.is ∙ ap Some a.field-0-is)) ∙ c.link_at.ensures in
    let w = link_within g c.requires.graph c.args.k (Ports (port_view a.from) (port_view a.to)) is in
    let e : length c.args.lists.now.items ≡ length g.nodes = c.requires.before.count in
    let count : c.value_input_count.result ≡ length (ins_of (op_at g a.to.node.0)) = c.value_input_count.ensures ∙ ap (λ op. length (ins_of op)) c.op.ensures in
    let below : a.to.index < c.value_input_count.result = c.if-to-value_input_count.true in
    edge_added g c.args.k c.args.lists.now.items _ a.from.node.0 a.to.node.0 c.requires.before
    (ports_join g c.args.k (Ports (port_view a.from) (port_view a.to)) is a.from.node.0 a.to.node.0 (refl, refl, omega arith)) (omega (arith, w.0)) c.in_ok-push_to-in-Some-Ports.ensures

pub returns-in_ok-push_to-in-Some-Order : goal.returns-in_ok-push_to-in-Some-Order
returns-in_ok-push_to-in-Some-Order c =
    let a = c.in-Some-Order in
    let g = c.args.graph.now in
    let is = sym (ap (option_map link_view) (a.is ∙ ap Some a.field-0-is)) ∙ c.link_at.ensures in
    let w = link_within g c.requires.graph c.args.k (Order a.before.0 a.after.0) is in
    let e : length c.args.lists.now.items ≡ length g.nodes = c.requires.before.count in
    edge_added g c.args.k c.args.lists.now.items _ a.before.0 a.after.0 c.requires.before
    (ports_join g c.args.k (Order a.before.0 a.after.0) is a.before.0 a.after.0 (refl, refl)) (omega (arith, w.0)) c.in_ok-push_to-in-Some-Order.ensures
