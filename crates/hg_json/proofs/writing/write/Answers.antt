use Rattle.hg_json.proofs.Pushes.{whole_text}
use Rattle.hg_json.proofs.writing.write.Goals as goal

pub returns : goal.returns
returns c =
    let start = c.in_ok-extend_from_slice.ensures.items in
    let edges = c.in_ok-push_links.ensures in
    let nodes = c.in_ok-push_nodes.ensures in
    rw (c.in_ok-extend_from_slice-3.ensures.items, nodes, c.in_ok-extend_from_slice-2.ensures.items, edges, start, c.new-out.ensures.items) (whole_text c.args.graph.now)
