use Rattle.std.proofs.Common.{◌<◌, length, arith}
use Rattle.hg_graph.specs.Graph.{op_at, parent_at}
use Rattle.hg_json.specs.GraphText.{node_data}
use Rattle.hg_json.proofs.Pushes.{one_written, node-read}
use Rattle.hg_json.proofs.writing.push_nodes.Goals as goal

pub loop-number-preserved : goal.loop-number-preserved
loop-number-preserved c =
    let k = c.loop-number.number in
    let within : k < length c.args.graph.now.nodes = omega arith in
    one_written node_data c.args.graph.now.nodes k c.loop-number.out.items c.push_node.new.out.items _ (record { op = op_at c.args.graph.now k; parent = parent_at c.args.graph.now k }) within (node-read c.args.graph.now k _ within) c.in_ok-push_node.ensures c.loop-number.invariant
