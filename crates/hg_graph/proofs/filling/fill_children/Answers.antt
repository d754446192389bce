use Rattle.std.proofs.Common.{◌≡◌, ◌∙◌, ℕ, get_or, sym, ap, subst, add-one, suc}
use Rattle.hg_graph.specs.Graph.{Graph, parent_at}
use Rattle.hg_graph.specs.code.GraphIndex.{IsFilled, updated}
use Rattle.hg_graph.specs.NodeIndex.{with_child}
use Rattle.hg_graph.specs.NodeView.{node_view}
use Rattle.std.proofs.Common.{map}
use Rattle.hg_graph.proofs.Filled.{bare_of, parent_at-bare_of, is_other, is_same}
use Rattle.hg_graph.proofs.IndexedNodes.{IsFilled-root, IsFilled-child}
use Rattle.hg_graph.proofs.filling.fill_children.Goals as goal
use Rattle.hg_graph.proofs.filling.fill_children.Goals.{then-ne+in_ok-push_child, else-ne}

pub loop-n-preserved : goal.loop-n-preserved
loop-n-preserved c =
    let g : Graph = bare_of c.args.nodes.now in
    let n : ℕ = c.loop-n.n in
    let parent : ℕ = (get_or c.args.nodes.now n c.index-nodes-n.result).parent.0 in
    let is : parent_at g n ≡ parent = parent_at-bare_of c.args.nodes.now n c.index-nodes-n.result c.loop-n-test.true in
    let done : IsFilled g (suc n) c.if-ne.indexes.items =
    elim c.if-ne.branch [
      | then-ne+in_ok-push_child w ↦
          subst (IsFilled g (suc n)) (sym (ap (λ v. v.items) w.indexes-is ∙ w.in_ok-push_child.ensures.ok ∙ ap (λ p. updated p (with_child n) c.loop-n.indexes.items) (sym is)))
          (IsFilled-child (map node_view c.args.nodes.now) n c.loop-n.indexes.items c.loop-n.invariant (λ e. is_other parent n (sym c.ne.ensures ∙ w.if-ne.true) (sym is ∙ e)))
      | else-ne w ↦
          subst (IsFilled g (suc n)) (sym (ap (λ v. v.items) w.indexes-is))
          (IsFilled-root (map node_view c.args.nodes.now) n c.loop-n.indexes.items c.loop-n.invariant (is ∙ is_same parent n (sym c.ne.ensures ∙ w.if-ne.false)))
    ] in
    subst (λ k. IsFilled g k c.if-ne.indexes.items) (sym (add-one n)) done
