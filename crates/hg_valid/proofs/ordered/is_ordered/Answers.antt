use Rattle.std.proofs.Common.{ℕ, List, sym, subst}
use Rattle.hg_graph.specs.Valid.{IsValid, Places}
use Rattle.walks.specs.Walks.{IsClosed}
use Rattle.walks.specs.Cycles.{HasCycle}
use Rattle.hg_valid.proofs.Edges.{closed_successors}
use Rattle.hg_valid.proofs.RegionCounts.{HasTested, tested_order, tested_runs, no_cycle}
use Rattle.hg_valid.proofs.ordered.is_ordered.Goals as goal

pub effects_of-requires-clause-others : goal.effects_of-requires-clause-others
effects_of-requires-clause-others c = λ n p l.
    let V : IsValid c.graph-graph.result.now = subst IsValid (sym c.graph-graph.ensures.same) c.graph-graph.ensures.valid in
    ((V.keeps Places n l).others p).1

pub longest_chains-requires-clause-closed : goal.longest_chains-requires-clause-closed
longest_chains-requires-clause-closed c =
    let V : IsValid c.graph-graph.result.now = subst IsValid (sym c.graph-graph.ensures.same) c.graph-graph.ensures.valid in
    subst (λ (xs : List (List ℕ)). IsClosed xs) (sym c.deref.ensures.value) (closed_successors c.graph-graph.result.now V.graph _ c.in_ok-successors.ensures)

pub unreachable-requires : goal.unreachable-requires
unreachable-requires c =
    let V : IsValid c.graph-graph.result.now = subst IsValid (sym c.graph-graph.ensures.same) c.graph-graph.ensures.valid in
    no_cycle c.graph-graph.result.now V _ c.in_ok-successors.ensures (subst (λ (xs : List (List ℕ)). HasCycle xs) c.deref.ensures.value (rw c.in-None.is at c.in_ok-counts.ensures.exact))

pub returns-clause-ordered : goal.returns-clause-ordered
returns-clause-ordered c =
    let T : HasTested c.args.graph.now c.graph-graph.result.now c.in_ok-successors.successors.items c.deref.result.now c.in_ok-marks.marks.items c.deref-2.result.now c.deref-in-Some.result.now c.in-Some.counts.items c.deref-in-Some-2.result.now = record {
      valid = c.graph-graph.ensures.valid;
      given_is = c.graph-graph.ensures.same;
      successors = rw c.graph-graph.ensures.same at c.in_ok-successors.ensures;
      effects = rw c.graph-graph.ensures.same at c.in_ok-marks.ensures;
      counted = rw c.in-Some.is at c.in_ok-counts.ensures.counts;
      lists_are = c.deref.ensures.value;
      marks_are = c.deref-2.ensures.value;
      marks_again = c.deref-in-Some.ensures.value;
      counts_are = c.deref-in-Some-2.ensures.value;
    } in
    tested_order _ c.args.graph.now c.graph-graph.result.now _ _ _ _ _ _ _ T c.counts_differ.result c.counts_differ.ensures

pub returns-clause-runs : goal.returns-clause-runs
returns-clause-runs c =
    let T : HasTested c.args.graph.now c.graph-graph.result.now c.in_ok-successors.successors.items c.deref.result.now c.in_ok-marks.marks.items c.deref-2.result.now c.deref-in-Some.result.now c.in-Some.counts.items c.deref-in-Some-2.result.now = record {
      valid = c.graph-graph.ensures.valid;
      given_is = c.graph-graph.ensures.same;
      successors = rw c.graph-graph.ensures.same at c.in_ok-successors.ensures;
      effects = rw c.graph-graph.ensures.same at c.in_ok-marks.ensures;
      counted = rw c.in-Some.is at c.in_ok-counts.ensures.counts;
      lists_are = c.deref.ensures.value;
      marks_are = c.deref-2.ensures.value;
      marks_again = c.deref-in-Some.ensures.value;
      counts_are = c.deref-in-Some-2.ensures.value;
    } in
    tested_runs _ c.args.graph.now c.graph-graph.ensures.valid c.counts_differ.result (tested_order _ c.args.graph.now c.graph-graph.result.now _ _ _ _ _ _ _ T c.counts_differ.result c.counts_differ.ensures)
