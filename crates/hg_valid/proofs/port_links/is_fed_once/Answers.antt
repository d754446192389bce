use Rattle.std.proofs.Common.{arith}
use Rattle.hg_graph.specs.View.{port_view}
use Rattle.hg_valid.proofs.PortLinks.{length-numbers_into}
use Rattle.hg_valid.proofs.port_links.is_fed_once.Goals as goal

pub returns : goal.returns
returns c = let e = length-numbers_into c.args.graph.now.links (port_view c.args.to) in grind (arith, Rattle.std.proofs.lemmas.Grind.common_steps)
