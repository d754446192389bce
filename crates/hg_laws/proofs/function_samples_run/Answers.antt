use Rattle.hg_laws.proofs.FunctionSamples.{function_samples_run_lem}
use Rattle.hg_laws.proofs.function_samples_run.Goals as goal

pub returns : goal.returns
returns c = function_samples_run_lem
