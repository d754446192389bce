use Rattle.hg_graph.specs.Value.{Value}
use Rattle.std.proofs.Common.{List, [], ◌∷◌, ◌++◌, ◌+◌, ◌-◌, sym, ap, ◌∙◌, arith}
use Rattle.std.specs.Option.{option_map}
use Rattle.hg_graph.specs.Graph.{Port}
use Rattle.hg_graph.specs.Run.{outs_at, inputs, pulled}
use Rattle.hg_graph.specs.View.{port_view}
use Rattle.hg_run.specs.code.ValueView.{value_view}
use Rattle.hg_run.proofs.Scans.{prepended, pulled_none, pulled_some, pulled_all}
use Rattle.hg_run.proofs.picking.inputs_of.Goals as goal

pub returns-in-None : goal.returns-in-None
unfolding inputs
returns-in-None c =
    let look = outs_at c.args.fired.now in
    let count = c.static_input-count.result.index in
    pulled_none c.args.graph.now.links look c.args.node.0 c.loop-index.index count c.loop-index.ins (option_map port_view c.feeder.result) c.feeder.ensures (omega arith) _ c.in-None.ensures c.loop-index.invariant
    ∙ ap (λ (port : Port). pulled c.args.graph.now.links look c.args.node.0 0 port.index) c.static_input-count.ensures

pub loop-index-preserved : goal.loop-index-preserved
loop-index-preserved c =
    let look = outs_at c.args.fired.now in
    let count = c.static_input-count.result.index in
    let front = ap (λ (front : List Value). prepended front (pulled c.args.graph.now.links look c.args.node.0 (c.loop-index.index + 1) (count - (c.loop-index.index + 1)))) in
    let same = c.in_ok-copy-in-Some.ensures in
    let more = c.in_ok-push-in-Some.ensures in
    pulled_some c.args.graph.now.links look c.args.node.0 c.loop-index.index count c.loop-index.ins (option_map port_view c.feeder.result) c.feeder.ensures (omega arith) _ (value_view c.in-Some.value.now) c.in-Some.ensures c.loop-index.invariant
    ∙ front (ap (λ (v : Value). c.loop-index.ins ++ v ∷ []) (sym same) ∙ sym more)

pub returns : goal.returns
unfolding inputs
returns c =
    let look = outs_at c.args.fired.now in
    let count = c.static_input-count.result.index in
    pulled_all c.args.graph.now.links look c.args.node.0 c.loop-index.index count c.loop-index.ins _ (omega arith) c.loop-index.invariant
    ∙ ap (λ (port : Port). pulled c.args.graph.now.links look c.args.node.0 0 port.index) c.static_input-count.ensures
