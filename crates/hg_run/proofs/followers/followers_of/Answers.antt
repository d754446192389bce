use Rattle.std.proofs.Common.{sym, ◌∙◌, ◌+◌, List, subst, arith}
use Rattle.std.proofs.lemmas.List.{length-map}
use Rattle.hg_graph.specs.declared.link.NodeId.{NodeId}
use Rattle.hg_graph.specs.View.{link_view}
use Rattle.hg_run.specs.code.FollowersView.{lists_of}
use Rattle.hg_run.proofs.Following.{FollowUpTo, follow_more, follow_done, source_within, past, same_length}
use Rattle.hg_run.proofs.followers.followers_of.Goals as goal

pub returns-in-None : goal.returns-in-None
returns-in-None c = follow_done c.args.graph.now (lists_of c.loop-k.followers) c.loop-k.k (past c.args.graph.now.links c.loop-k.k (sym c.in-None.ensures)) c.loop-k.invariant.1

pub add-requires : goal.add-requires
add-requires c = let w = source_within c.args.graph.now c.loop-k.k (link_view c.in-Some.link) c.node_count.ensures.graph c.in-Some.ensures in let e = c.loop-k.invariant.0 in let s = c.source_of.ensures in omega (arith, w, e, s)

pub loop-k-preserved : goal.loop-k-preserved
loop-k-preserved c =
    let w = source_within c.args.graph.now c.loop-k.k (link_view c.in-Some.link) c.node_count.ensures.graph c.in-Some.ensures in
    let n = same_length (λ list. list.items) c.loop-k.followers.lists.items c.add.new.followers.lists.items c.source_of.result.0 c.target_of.result c.in_ok-add-in-Some.ensures in (
      n ∙ c.loop-k.invariant.0,
      subst (λ (lists : List (List NodeId)). FollowUpTo c.args.graph.now lists (c.loop-k.k + 1)) (sym c.in_ok-add-in-Some.ensures)
          (follow_more c.args.graph.now (lists_of c.loop-k.followers) c.loop-k.k c.source_of.result.0 (link_view c.in-Some.link) c.target_of.result c.in-Some.ensures c.source_of.ensures c.target_of.ensures
          (let e = c.loop-k.invariant.0 in let s = c.source_of.ensures in omega (arith, w, e, s, length-map c.loop-k.followers.lists.items (λ list. list.items)))
          c.loop-k.invariant.1),
    )

pub returns : goal.returns
returns c = follow_done c.args.graph.now (lists_of c.loop-k.followers) c.loop-k.k (omega arith) c.loop-k.invariant.1
