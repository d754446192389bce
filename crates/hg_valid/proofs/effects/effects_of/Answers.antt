use Rattle.std.proofs.Common.{◌≡◌, ◌+◌, ◌-◌, ◌<◌, ℕ, suc, List, Bool, length, ◌∙◌, sym, ap, subst, slice_set, true, false, arith}
use Rattle.std.proofs.lemmas.List.{get_or_read}
use Rattle.walks.specs.Counts.{is_marked}
use Rattle.hg_valid.specs.code.Effects.{AreCarried}
use Rattle.hg_valid.proofs.EffectNodes.{carried_past, carried_on, carried_all}
use Rattle.hg_valid.proofs.effects.effects_of.Goals as goal
use Rattle.hg_valid.proofs.effects.effects_of.Goals.{then-index, else-index}

pub loop-passed-preserved : goal.loop-passed-preserved
loop-passed-preserved c =
    let g = c.args.graph.now in
    let count : ℕ = c.node_count-count.result in
    let total : count ≡ length g.nodes = c.node_count-count.ensures.count in
    let passed : ℕ = c.loop-passed.passed in
    let more : passed < count = c.loop-passed-test.true in
    let n : ℕ = count - 1 - passed in
    let marks : List Bool = c.loop-passed.marks.items in
    let now : count - passed ≡ suc n = omega arith in
    let then : n ≡ count - (passed + 1) = omega arith in
    let l : n < length g.nodes = omega arith in
    let C : AreCarried g (suc n) marks = subst (λ (k : ℕ). AreCarried g k marks) now c.loop-passed.invariant in
    let within : n < length marks = let e : length marks ≡ length g.nodes = C.count in omega arith in
    let read : c.index.result.now ≡ is_marked marks n = get_or_read marks n c.index.result.now within c.index.ensures false in
    let next : AreCarried g n c.if-index.marks.items = elim c.if-index.branch [
      | then-index w ↦ subst (λ (xs : List Bool). AreCarried g n xs) (sym (ap (λ v. v.items) w.marks-is ∙ ap (λ (p : ℕ). slice_set marks p true) w.parent.ensures))
          (carried_on g n marks c.requires.root c.requires.others c.node_count-count.ensures.graph.parents l C (sym read ∙ w.if-index.true))
      | else-index w ↦ subst (λ (xs : List Bool). AreCarried g n xs) (sym (ap (λ v. v.items) w.marks-is)) (carried_past g n marks C (sym read ∙ w.if-index.false))
    ] in
    subst (λ (k : ℕ). AreCarried g k c.if-index.marks.items) then next

pub returns : goal.returns
returns c =
    let t = c.loop-passed-test.false in
    let none : c.node_count-count.result - c.loop-passed.passed ≡ 0 = omega arith in
    carried_all c.args.graph.now c.loop-passed.marks.items (subst (λ (k : ℕ). AreCarried c.args.graph.now k c.loop-passed.marks.items) none c.loop-passed.invariant)
