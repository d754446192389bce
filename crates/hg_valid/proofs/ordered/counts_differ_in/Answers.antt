use Rattle.std.proofs.Common.{◌≡◌, ◌≢◌, ◌<◌, ◌+◌, ℕ, List, Bool, length, get_or, sym, ap, subst, slice_set, ◌∙◌, true, false, arith}
use Rattle.std.proofs.lemmas.List.{get_or_read, length-set}
use Rattle.hg_graph.specs.Graph.{children}
use Rattle.walks.specs.Counts.{is_marked}
use Rattle.hg_valid.specs.code.Regions.{IsSeen, child_at}
use Rattle.hg_valid.proofs.RegionCounts.{seen_past, seen_on, seen_same, seen_all}
use Rattle.hg_valid.proofs.ordered.counts_differ_in.Goals as goal
use Rattle.hg_valid.proofs.ordered.counts_differ_in.Goals.{then-marks-child+else-index-region, else-marks-child}

pub returns-clause-differ : goal.returns-clause-differ
returns-clause-differ c =
    let e = c.child_count-k-end.ensures in
    let t = c.loop-k-test.false in
    seen_all c.args.graph.now c.args.region.0 c.loop-k.k c.args.marks.now c.args.counts.now c.loop-k.seen.items c.loop-k.invariant.seen (omega arith)

pub returns-then-index-region-clause-differ : goal.returns-then-index-region-clause-differ
returns-then-index-region-clause-differ c =
    let g = c.args.graph.now in
    let child : ℕ = c.child_of-child.result in
    let is : child ≡ child_at g c.args.region.0 c.loop-k.k = c.child_of-child.ensures.is in
    let counts : List ℕ = c.args.counts.now in
    let seen : List ℕ = c.loop-k.seen.items in
    let at : ℕ = get_or counts child 0 in
    let few : at < length c.args.seen.now.items = c.requires.few child in
    let within : at < length seen = let e = c.loop-k.invariant.count in omega arith in
    let read : c.index.result.now ≡ get_or seen at 0 = get_or_read seen at c.index.result.now within c.index.ensures 0 in
    let k : c.loop-k.k < length (children g c.args.region.0) = let e = c.child_count-k-end.ensures in let t = c.loop-k-test.true in omega arith in
    let m : is_marked c.args.marks.now child ≡ true = c.if-marks-child.true in
    let same : get_or seen (get_or counts (child_at g c.args.region.0 c.loop-k.k) 0) 0 ≡ c.args.region.0 + 1 = ap (λ n. get_or seen (get_or counts n 0) 0) (sym is) ∙ sym read ∙ c.if-index-region.true in
    seen_same g c.args.region.0 c.loop-k.k c.args.marks.now counts seen c.loop-k.invariant.seen k (ap (is_marked c.args.marks.now) (sym is) ∙ m) same

pub loop-k-preserved : goal.loop-k-preserved
loop-k-preserved c =
    let g = c.args.graph.now in
    let r : ℕ = c.args.region.0 in
    let k : ℕ = c.loop-k.k in
    let marks : List Bool = c.args.marks.now in
    let child : ℕ = c.child_of-child.result in
    let is : child ≡ child_at g r k = c.child_of-child.ensures.is in
    let counts : List ℕ = c.args.counts.now in
    let seen : List ℕ = c.loop-k.seen.items in
    let S : IsSeen g r k marks counts seen = c.loop-k.invariant.seen in
    let few : get_or counts child 0 < length c.args.seen.now.items = c.requires.few child in
    let within : get_or counts child 0 < length seen = let e = c.loop-k.invariant.count in omega arith in
    elim c.if-marks-child.branch [
      | then-marks-child+else-index-region w ↦
          let m : is_marked marks child ≡ true = w.if-marks-child.true in
          let read : w.index.result.now ≡ get_or seen (get_or counts child 0) 0 = get_or_read seen (get_or counts child 0) w.index.result.now within w.index.ensures 0 in
          let new : get_or seen (get_or counts (child_at g r k) 0) 0 ≢ r + 1 = λ e. w.if-index-region.false (read ∙ ap (λ n. get_or seen (get_or counts n 0) 0) is ∙ e) in
          let on : IsSeen g r (k + 1) marks counts (slice_set seen (get_or counts (child_at g r k) 0) (r + 1)) =
          seen_on g r k marks counts seen S (ap (is_marked marks) (sym is) ∙ m) (subst (λ (n : ℕ). get_or counts n 0 < length seen) is within) new in
          let made : c.if-marks-child.seen.items ≡ slice_set seen (get_or counts child 0) (r + 1) = ap (λ v. v.items) w.seen-is in
          record {
            seen = subst (λ (xs : List ℕ). IsSeen g r (k + 1) marks counts xs) (ap (λ n. slice_set seen (get_or counts n 0) (r + 1)) (sym is) ∙ sym made) on;
            count = ap length made ∙ length-set seen (get_or counts child 0) (r + 1) ∙ c.loop-k.invariant.count;
          }
      | else-marks-child w ↦
          let made : c.if-marks-child.seen.items ≡ seen = ap (λ v. v.items) w.seen-is in
          let m : is_marked marks child ≡ false = w.if-marks-child.false in
          record {
            seen = subst (λ (xs : List ℕ). IsSeen g r (k + 1) marks counts xs) (sym made) (seen_past g r k marks counts seen S (ap (is_marked marks) (sym is) ∙ m));
            count = ap length made ∙ c.loop-k.invariant.count;
          }
    ]
