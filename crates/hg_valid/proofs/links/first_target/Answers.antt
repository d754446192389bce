use Rattle.std.proofs.Common.{◌≤◌, length, subst, arith}
use Rattle.std.specs.Option.{option_map}
use Rattle.hg_graph.specs.View.{number_of}
use Rattle.hg_valid.specs.code.LinkRules.{LeastTarget}
use Rattle.hg_valid.proofs.ByPlace.{take_all}
use Rattle.hg_valid.proofs.Targets.{first_of_links}
use Rattle.hg_valid.proofs.links.first_target.Goals as goal

pub returns : goal.returns
returns c =
    let g = c.args.graph.now in
    let found = option_map number_of c.loop-number.found in
    let l : length g.links ≤ c.loop-number.number = omega arith in
    first_of_links g c.node_count-count.ensures.graph c.args.rule found (subst (λ links. LeastTarget g c.args.rule links found) (take_all g.links c.loop-number.number l) c.loop-number.invariant)
