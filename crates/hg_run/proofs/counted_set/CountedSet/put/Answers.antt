use Rattle.std.proofs.Common.{◌≡◌, ◌+◌, ◌*◌, refl, ◌∙◌, arith}
use Rattle.std.proofs.lemmas.List.{length-set}
use Rattle.hg_run.specs.code.CountedSetView.{count_at}
use Rattle.hg_run.proofs.Counts.{half_small, sums_up}
use Rattle.hg_run.proofs.counted_set.CountedSet.put.Goals as goal

pub overflow_add-left : goal.overflow_add-left
overflow_add-left c =
    let flags = c.loop-at.self-inside.flags.items in
    let counts = c.loop-at.self-inside.counts.items in
    let at = c.loop-at.at in
    let i = c.loop-at.invariant in
    let left : c.count_at-left.result ≡ count_at flags counts (2 * at) = rw (c.count_at-left.ensures, c.deref.ensures.value, c.deref-in-loop-at.ensures.value) refl in
    let right : c.count_at-right.result ≡ count_at flags counts (2 * at + 1) = rw (c.count_at-right.ensures, c.deref-in-loop-at-2.ensures.value, c.deref-in-loop-at-3.ensures.value) refl in
    let less = i.2 in
    let a = half_small flags counts at i.3 (2 * at) (omega arith) (omega arith) (omega arith) in
    let b = half_small flags counts at i.3 (2 * at + 1) (omega arith) (omega arith) (omega arith) in
    omega (arith, a, b, left, right, c.loop-at.self-inside.counts.small)

pub loop-at-preserved : goal.loop-at-preserved
loop-at-preserved c =
    let flags = c.loop-at.self-inside.flags.items in
    let counts = c.loop-at.self-inside.counts.items in
    let at = c.loop-at.at in
    let i = c.loop-at.invariant in
    let sum = c.count_at-left.result + c.count_at-right.result in
    let e : sum ≡ count_at flags counts (2 * at) + count_at flags counts (2 * at + 1)
    = rw (c.count_at-left.ensures, c.deref.ensures.value, c.deref-in-loop-at.ensures.value, c.count_at-right.ensures, c.deref-in-loop-at-2.ensures.value, c.deref-in-loop-at-3.ensures.value) refl in
    let less = i.2 in
    let wide = i.1 in (
      length-set counts at sum ∙ i.0,
      omega (arith, wide, length-set counts at sum),
      omega (arith, less, length-set counts at sum),
      sums_up flags counts at sum (omega arith) less e i.3,
      i.4,
    )
