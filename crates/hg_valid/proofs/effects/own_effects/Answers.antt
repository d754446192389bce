use Rattle.std.proofs.Common.{◌∙◌, sym, ap, inl, inr, arith, false, rules}
use Rattle.std.proofs.lemmas.Bool.{cases_eq}
use Rattle.std.proofs.lemmas.List.{get_or_push, get_or_append_left}
use Rattle.hg_ops.specs.Op.{is_effect}
use Rattle.hg_graph.specs.Graph.{op_at}
use Rattle.walks.specs.Counts.{is_marked}
use Rattle.hg_valid.proofs.EffectNodes.{own_marks}
use Rattle.hg_valid.proofs.effects.own_effects.Goals as goal

pub loop-n-preserved : goal.loop-n-preserved
loop-n-preserved c = record {
  count = search rules;
  each = λ k h. let e = c.in_ok-push.ensures.items in elim (cases_eq k c.loop-n.n) [
    | inl f ↦ ap (λ xs. is_marked xs k) e ∙ get_or_push c.loop-n.marks.items c.is_effect.result false k (c.loop-n.invariant.count ∙ sym f) ∙ c.is_effect.ensures ∙ ap is_effect c.op.ensures ∙ ap (λ i. is_effect (op_at c.args.graph.now i)) (sym f)
    | inr ne ↦ ap (λ xs. is_marked xs k) e ∙ get_or_append_left c.loop-n.marks.items _ false k (let q = c.loop-n.invariant.count in omega arith) ∙ c.loop-n.invariant.each k (omega arith)
  ];
}

pub returns : goal.returns
returns c =
    let e = c.node_count-n-end.ensures.count in
    let h = c.loop-n.invariant.count in
    let t = c.loop-n-test.false in
    own_marks c.args.graph.now c.loop-n.marks.items (omega arith) (λ n l. c.loop-n.invariant.each n (omega arith))
