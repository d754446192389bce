use Rattle.std.proofs.Common.{◌≡◌, ◌<◌, ℕ, List, length, sym, subst, arith}
use Rattle.walks.specs.Cycles.{IsFirstBack, NoneBack}
use Rattle.hg_valid.specs.code.Successors.{AreSuccessors}
use Rattle.hg_valid.proofs.Edges.{closed_successors, path_of, walk_of}
use Rattle.hg_valid.proofs.cycle.first_on_cycle.Goals as goal

pub first_back-requires : goal.first_back-requires
first_back-requires c =
    let S : AreSuccessors c.args.graph.now c.deref.result.now = subst (λ (xs : List (List ℕ)). AreSuccessors c.args.graph.now xs) (sym c.deref.ensures.value) c.in_ok-successors.ensures in
    closed_successors c.args.graph.now c.node_count-count.ensures.graph c.deref.result.now S

pub returns-in-Some : goal.returns-in-Some
returns-in-Some c =
    let g = c.args.graph.now in
    let lists : List (List ℕ) = c.deref.result.now in
    let S : AreSuccessors g lists = subst (λ (xs : List (List ℕ)). AreSuccessors g xs) (sym c.deref.ensures.value) c.in_ok-successors.ensures in
    let count : length lists ≡ length g.nodes = S.count in
    let F : IsFirstBack lists c.in-Some.node = rw c.in-Some.is at c.in_ok-node.ensures in
    let l : c.in-Some.node < length lists = F.is_node in
    record {
      is_node = omega arith;
      broken = λ keeps. keeps (path_of g lists S c.in-Some.node c.in-Some.node F.back);
      earlier_nodes = λ m h p. F.none_before m h (walk_of g lists S m m p);
    }

pub returns : goal.returns
returns c = λ n l p.
    let g = c.args.graph.now in
    let lists : List (List ℕ) = c.deref.result.now in
    let S : AreSuccessors g lists = subst (λ (xs : List (List ℕ)). AreSuccessors g xs) (sym c.deref.ensures.value) c.in_ok-successors.ensures in
    let count : length lists ≡ length g.nodes = S.count in
    let N : NoneBack lists = rw c.in-None.is at c.in_ok-node.ensures in
    N.none n (omega arith) (walk_of g lists S n n p)
