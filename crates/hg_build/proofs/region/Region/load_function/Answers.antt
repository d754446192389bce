use Rattle.hg_build.proofs.Calls.{load_clause}
use Rattle.hg_build.proofs.Linear.{load_exact, load_pending}
use Rattle.hg_build.proofs.Containing.{load_contains}
use Rattle.hg_build.proofs.Ordering.{node_ordered}
use Rattle.hg_build.proofs.Keeps.{load_keeps}
use Rattle.hg_build.proofs.region.Region.load_function.Goals as goal

pub returns-clause-exact : goal.returns-clause-exact
returns-clause-exact c = load_exact _ _ _ _ _ _ c.in_ok-node.ensures

pub returns-clause-built : goal.returns-clause-built
returns-clause-built c = load_clause _ _ _ _ _ c.in_ok-node.ensures

pub returns-clause-pending : goal.returns-clause-pending
returns-clause-pending c = load_pending _ _ _ _ _ _ c.in_ok-node.ensures

pub returns-clause-kept : goal.returns-clause-kept
returns-clause-kept c = load_keeps _ _ _ _ _ c.in_ok-node.ensures

pub returns-clause-contained : goal.returns-clause-contained
returns-clause-contained c = load_contains _ _ _ _ _ c.in_ok-node.ensures

pub returns-clause-ordered : goal.returns-clause-ordered
returns-clause-ordered c = node_ordered _ _ _ _ _ _ _ c.in_ok-node.ensures
