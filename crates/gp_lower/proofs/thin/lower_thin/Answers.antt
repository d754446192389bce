use Rattle.std.proofs.Common.{◌≡◌, ◌+◌, ◌∙◌, subst, sym, length}
use Rattle.hg_graph.specs.Rules.{InputsLinkedOnce, LinearOutputsLinkedOnce}
use Rattle.hg_graph.proofs.ThinLinked.{thin_graphs_are_linked}
use Rattle.hg_graph.proofs.ThinRuns.{thin_graphs_run}
use Rattle.gp_lower.specs.Thin.{RunsGates}
use Rattle.gp_lower.proofs.Grown.{grows, counted, done, holds}
use Rattle.gp_lower.proofs.thin.lower_thin.Goals as goal

pub loop-line-preserved : goal.loop-line-preserved
loop-line-preserved c =
    let said = c.in_ok-last.ensures in
    let nodes = rw c.op_of.ensures at said.nodes in
    let here = c.loop-line.invariant in
    let count : length c.loop-line.graph.nodes ≡ 4 + (c.loop-line.line-index + 1) = counted _ _ _ c.loop-line-test.true here.0 in
    (grows _ _ _ _ _ _ c.loop-line-test.true here.0 here.1 nodes said.links, said.number ∙ count)

pub returns-clause-graph : goal.returns-clause-graph
returns-clause-graph c gates complete = done _ _ _ _ gates c.loop-line-test.false c.as_slice-line-items.ensures c.loop-line.invariant.0 complete

pub returns-clause-inputs : goal.returns-clause-inputs
returns-clause-inputs c =
    holds _ _ _ _ InputsLinkedOnce (λ gates. (thin_graphs_are_linked gates).0) c.requires c.loop-line-test.false c.as_slice-line-items.ensures c.loop-line.invariant.0

pub returns-clause-linear_outputs : goal.returns-clause-linear_outputs
returns-clause-linear_outputs c =
    holds _ _ _ _ LinearOutputsLinkedOnce (λ gates. (thin_graphs_are_linked gates).1) c.requires c.loop-line-test.false c.as_slice-line-items.ensures c.loop-line.invariant.0

pub returns-clause-runs : goal.returns-clause-runs
returns-clause-runs c gates complete =
    subst (RunsGates gates) (sym (done _ _ _ _ gates c.loop-line-test.false c.as_slice-line-items.ensures c.loop-line.invariant.0 complete)) (thin_graphs_run gates)
