-- The refusals of graph texts.
use Rattle.hg_graph.specs.Graph.{Graph}
use Rattle.hg_valid.specs.Answers.{IsBrokenBy}
use Rattle.hg_json.specs.declared.fault.JsonFault.{JsonFault}
use Rattle.hg_json.specs.declared.fault.JsonFault.TheVariants as json
use Rattle.guppy_call.specs.declared.mode_error.ModeError.{ModeError}
use Rattle.guppy_call.specs.declared.mode_error.ModeError.TheVariants as error
use Rattle.guppy_call.specs.declared.refusal.Refusal.TheVariants as refusal
use Rattle.guppy_call.specs.declared.refusal.GraphFault.TheVariants as fault

-- what a mode answers for a fault of reading
abbrev pub error_of : JsonFault → ModeError
error_of json.NotJson = error.Refused (refusal.Graph fault.NotJson)
error_of json.Top = error.Refused (refusal.Graph fault.Top)
error_of json.Version = error.Refused (refusal.Graph fault.Version)
error_of (json.Node number) = error.Refused (refusal.Graph (fault.Node number))
error_of (json.Link number) = error.Refused (refusal.Graph (fault.Link number))
error_of json.Memory = error.Memory

-- what a mode answers for a graph that isn't valid
abbrev pub IsErrorOf : Graph → ModeError → Type 0
IsErrorOf g (error.Refused (refusal.Rule rule node)) = IsBrokenBy g rule node
IsErrorOf g (error.Refused _) = ⊥
IsErrorOf g error.Memory = Unit {0}
