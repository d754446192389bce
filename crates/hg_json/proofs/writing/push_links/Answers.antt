use Rattle.std.proofs.Common.{ap, arith}
use Rattle.std.specs.Option.{option_map}
use Rattle.hg_graph.specs.View.{link_view}
use Rattle.hg_json.specs.GraphText.{link_data}
use Rattle.hg_json.proofs.Pushes.{one_written, link-read}
use Rattle.hg_json.proofs.writing.push_links.Goals as goal

pub loop-k-preserved : goal.loop-k-preserved
loop-k-preserved c =
    let read = link-read c.args.graph.now.links c.loop-k.k _ (link_view c.unwrap-link.result) c.link_at.ensures (ap (option_map link_view) c.unwrap-link.ensures) in
    one_written link_data c.args.graph.now.links c.loop-k.k c.loop-k.out.items c.push_link.new.out.items _ (link_view c.unwrap-link.result) (omega arith) read c.in_ok-push_link.ensures c.loop-k.invariant
