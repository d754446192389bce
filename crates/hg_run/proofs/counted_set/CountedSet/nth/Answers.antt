use Rattle.std.proofs.Common.{◌≡◌, ◌+◌, ◌*◌, refl, arith}
use Rattle.hg_run.specs.code.CountedSetView.{count_at}
use Rattle.hg_run.proofs.Counts.{at_root, to_left, to_right, found, rank_before}
use Rattle.hg_run.proofs.counted_set.CountedSet.nth.Goals as goal
use Rattle.hg_run.proofs.counted_set.CountedSet.nth.Goals.{then-left-rest, else-left-rest}

pub loop-init : goal.loop-init
loop-init c = at_root c.self.inside.flags.items c.self.inside.counts.items c.self.inside.depth c.self.invariant c.args.rank (rw c.self.view_is c.requires)

pub loop-preserved : goal.loop-preserved
loop-preserved c =
    let flags = c.self.inside.flags.items in
    let counts = c.self.inside.counts.items in
    let e : c.count_at-left.result ≡ count_at flags counts (2 * (c.loop.width + c.loop.place)) = rw (c.count_at-left.ensures, c.deref.ensures.value, c.deref-in-loop.ensures.value) refl in
    elim c.if-left-rest.branch [
      | then-left-rest w ↦
          rw (w.place-is, w.rest-is, e)
          (to_right flags counts c.self.inside.depth c.self.invariant c.args.rank c.loop.counter c.loop.width c.loop.place c.loop.rest c.loop-test.true c.loop.invariant (omega (arith, w.if-left-rest, e)))
      | else-left-rest w ↦
          rw (w.place-is, w.rest-is)
          (to_left flags counts c.self.inside.depth c.self.invariant c.args.rank c.loop.counter c.loop.width c.loop.place c.loop.rest c.loop-test.true c.loop.invariant (omega (arith, w.if-left-rest, e)))
    ]

pub returns-clause-found : goal.returns-clause-found
returns-clause-found c =
    let flags = c.self.inside.flags.items in
    let counts = c.self.inside.counts.items in
    rw (← c.self.view_is) (found flags counts c.self.inside.depth c.self.invariant c.args.rank c.loop.counter c.loop.width c.loop.place c.loop.rest (omega (arith, c.loop-test.false, c.loop.auto.counter-end)) c.loop.invariant)

pub returns-clause-before : goal.returns-clause-before
returns-clause-before c =
    let flags = c.self.inside.flags.items in
    let counts = c.self.inside.counts.items in
    rw (← c.self.view_is) (rank_before flags counts c.self.inside.depth c.self.invariant c.args.rank c.loop.counter c.loop.width c.loop.place c.loop.rest (omega (arith, c.loop-test.false, c.loop.auto.counter-end)) c.loop.invariant)
