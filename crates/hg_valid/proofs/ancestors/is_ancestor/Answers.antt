use Rattle.std.proofs.Common.{inl, inr, ◌<◌, ◌≤◌, length, sym, subst, arith}
use Rattle.std.proofs.lemmas.Bool.{eqb-true, eq-eqb}
use Rattle.hg_graph.specs.Valid.{IsAncestor, of_child}
use Rattle.hg_valid.specs.code.Ancestors.{IsAtOrAbove}
use Rattle.hg_valid.proofs.Up.{up, ancestor_in, at_most, parent_or}
use Rattle.hg_valid.proofs.ancestors.is_ancestor.Goals as goal

pub loop-at-init : goal.loop-at-init
loop-at-init c =
    let g = c.args.graph.now in
    let e = c.parent-at.ensures in
    record {
      is_node = subst (λ n. n < length g.nodes) (sym e) (c.node_count-count.ensures.graph.parents c.args.node.0 c.requires.node_in);
      above = of_child (sym e);
      further = λ h. subst (IsAtOrAbove g c.args.ancestor.0) (sym e) (parent_or g c.args.ancestor.0 c.args.node.0 h);
    }

pub loop-at-preserved : goal.loop-at-preserved
loop-at-preserved c =
    let g = c.args.graph.now in
    let I = c.loop-at.invariant in
    record {
      is_node = ancestor_in g c.node_count-count.ensures.graph c.requires.places _ c.loop-at.at.0 I.is_node c.step_up-at.ensures.up;
      above = up g _ c.loop-at.at.0 c.args.node.0 c.step_up-at.ensures.up I.above;
      further = λ h. elim (I.further h) [
        | inl e ↦ absurd (omega arith)
        | inr k ↦ c.step_up-at.ensures.further k
      ];
    }

pub returns : goal.returns
returns c =
    let g = c.args.graph.now in
    let I = c.loop-at.invariant in
    let low : c.loop-at.at.0 ≤ c.args.ancestor.0 = omega arith in (
      λ t. subst (λ a. IsAncestor g a c.args.node.0) (eqb-true c.loop-at.at.0 c.args.ancestor.0 t) I.above,
      λ h. elim (I.further h) [
        | inl e ↦ eq-eqb c.loop-at.at.0 c.args.ancestor.0 (sym e)
        | inr k ↦ eq-eqb c.loop-at.at.0 c.args.ancestor.0 (at_most g c.node_count-count.ensures.graph c.requires.places c.args.ancestor.0 c.loop-at.at.0 I.is_node k low)
      ],
    )
