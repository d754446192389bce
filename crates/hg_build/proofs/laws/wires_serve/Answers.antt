use Rattle.hg_build.proofs.Known.{wires_serve}
use Rattle.hg_build.proofs.laws.wires_serve.Goals as goal

pub returns : goal.returns
returns c = wires_serve
