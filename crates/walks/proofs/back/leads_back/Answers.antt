use Rattle.std.proofs.Common.{◌≡◌, ◌<◌, ℕ, length, get_or, subst, sym, arith, false}
use Rattle.std.proofs.lemmas.List.{get_or_read}
use Rattle.walks.specs.code.Reach.{IsReach}
use Rattle.walks.proofs.WalkLemmas.{reached_in}
use Rattle.walks.proofs.Reached.{tells_back}
use Rattle.walks.proofs.back.leads_back.Goals as goal

pub follow-requires-in-loop-k-clause-node_in : goal.follow-requires-in-loop-k-clause-node_in
follow-requires-in-loop-k-clause-node_in c =
    let R : IsReach c.args.successors.now c.args.start c.loop-k.reach.reached.items c.loop-k.reach.nodes.items = c.loop-k.invariant.reach in
    let l : c.loop-k.k < length c.loop-k.reach.nodes.items = omega (arith, c.loop-k-test.true, c.len.ensures, c.loop-k.reach.nodes.ok.0) in
    let is : c.index-node.result.now ≡ get_or c.loop-k.reach.nodes.items c.loop-k.k 0 = get_or_read c.loop-k.reach.nodes.items c.loop-k.k c.index-node.result.now l c.index-node.ensures 0 in
    subst (λ (n : ℕ). n < length c.args.successors.now) (sym is) (reached_in c.args.successors.now c.requires.closed c.args.start _ (R.walks _ (R.marked c.loop-k.k l)))

pub returns : goal.returns
returns c =
    let V = c.loop-k.invariant in
    let count : length c.loop-k.reach.reached.items ≡ length c.args.successors.now = V.reach.count in
    let start_in : c.args.start < length c.args.successors.now = c.requires.start_in in
    let within : c.args.start < length c.loop-k.reach.reached.items = omega arith in
    tells_back c.args.successors.now c.args.start c.loop-k.k c.loop-k.reach.reached.items c.loop-k.reach.nodes.items V.reach (omega (arith, c.loop-k-test.false, c.len.ensures, c.loop-k.reach.nodes.ok.0)) V.begun (λ i h k. V.done i h)
    c.index.result.now (get_or_read c.loop-k.reach.reached.items c.args.start c.index.result.now within c.index.ensures false)
