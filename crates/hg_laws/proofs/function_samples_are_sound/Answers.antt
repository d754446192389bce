use Rattle.hg_laws.proofs.FunctionSamples.{function_samples_are_sound_lem}
use Rattle.hg_laws.proofs.function_samples_are_sound.Goals as goal

pub returns : goal.returns
returns c = function_samples_are_sound_lem
