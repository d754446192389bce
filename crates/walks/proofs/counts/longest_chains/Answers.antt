use Rattle.std.proofs.Common.{arith}
use Rattle.walks.proofs.Searches.{search_starts, all_counted, none_back}
use Rattle.walks.proofs.counts.longest_chains.Goals as goal

pub loop-root-init : goal.loop-root-init
loop-root-init c =
    let made = c.in_ok-search.ensures in
    record {
      search = search_starts c.args.successors.now c.args.marks.now _ _ _ made.steps made.path made.counts;
      ended = made.path;
      done = λ n h. absurd (omega arith);
    }

pub returns-clause-counts : goal.returns-clause-counts
returns-clause-counts c = all_counted c.args.successors.now c.args.marks.now _ _ _ c.loop-root.invariant.search (λ n l. c.loop-root.invariant.done n (omega arith))

pub returns-clause-exact : goal.returns-clause-exact
returns-clause-exact c = none_back c.args.successors.now c.args.marks.now _ _ _ c.loop-root.invariant.search (λ n l. c.loop-root.invariant.done n (omega arith))
