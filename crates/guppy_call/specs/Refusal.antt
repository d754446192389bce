-- The texts and statuses of refusals.
use Rattle.std.specs.Prelude.{ℕ, List, ◌++◌, codes, decimal}
use Rattle.guppy_call.specs.declared.status.Status.{Status}
use Rattle.guppy_call.specs.declared.status.Status.TheVariants as status
use Rattle.guppy_call.specs.declared.refusal.SourceFault as fault
use Rattle.guppy_call.specs.declared.refusal.SourceFault.TheVariants as f
use Rattle.guppy_call.specs.declared.refusal.GraphFault as graph
use Rattle.guppy_call.specs.declared.refusal.GraphFault.TheVariants as g
use Rattle.guppy_call.specs.declared.refusal.Refusal.{Refusal}
use Rattle.guppy_call.specs.declared.refusal.Refusal.TheVariants.{WordsNotUnderstood, ReadFault, TooLong, NotBuilt, Source, Graph, Rule, NoEntry, EntryNotClosed}

abbrev pub fault_text : fault.SourceFault → List ℕ
fault_text f.GivenUp = codes "GivenUp"
fault_text f.HeldAtReturn = codes "HeldAtReturn"

abbrev pub graph_fault_text : graph.GraphFault → List ℕ
graph_fault_text g.NotJson = codes "NotJson"
graph_fault_text g.Top = codes "Top"
graph_fault_text g.Version = codes "Version"
graph_fault_text (g.Node number) = codes "Shape node " ++ decimal number
graph_fault_text (g.Link number) = codes "Shape link " ++ decimal number

abbrev pub refusal_text : Refusal → List ℕ
refusal_text WordsNotUnderstood = codes "guppy: words not understood"
refusal_text ReadFault = codes "guppy: read fault"
refusal_text TooLong = codes "guppy: input too long"
refusal_text NotBuilt = codes "guppy: form not built yet"
refusal_text (Source line fault) = codes "line " ++ (decimal line.0 ++ (codes ": " ++ fault_text fault))
refusal_text (Graph fault) = codes "graph: " ++ graph_fault_text fault
refusal_text (Rule rule node) = codes "graph: rule " ++ (decimal rule ++ (codes " node " ++ decimal node))
refusal_text NoEntry = codes "entry: NoEntry"
refusal_text EntryNotClosed = codes "entry: EntryNotClosed"

abbrev pub status_of : Refusal → Status
status_of WordsNotUnderstood = status.Words
status_of ReadFault = status.ReadFault
status_of TooLong = status.Refused
status_of NotBuilt = status.Refused
status_of (Source line fault) = status.Refused
status_of (Graph fault) = status.Refused
status_of (Rule rule node) = status.Refused
status_of NoEntry = status.Refused
status_of EntryNotClosed = status.Refused
