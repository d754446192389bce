-- Why a graph isn't valid.
use Rattle.std.specs.Prelude.{◌≡◌}
use Rattle.hg_graph.specs.Graph.{Graph}
use Rattle.hg_valid.specs.Answers.{IsBrokenBy}
use Rattle.hg_valid.specs.declared.valid.Invalid.{Invalid}
use Rattle.hg_valid.specs.declared.valid.Invalid.TheVariants.{Rule, Memory}

-- the graph is handed back as it was, and the rule and the node are the least that are broken and break it
abbrev pub IsRefused : Graph → Invalid → Type 0
IsRefused g (Rule rule node graph) = (graph ≡ g) × IsBrokenBy g rule node.0
IsRefused g (Memory graph) = graph ≡ g
