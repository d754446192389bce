-- What is told of a run.
use Rattle.std.specs.Prelude.{◌≡◌, ℕ, Bool, List, []}
use Rattle.gp_base.specs.declared.event.Event.{Event}
use Rattle.gp_base.specs.declared.event.End.{End}
use Rattle.gp_base.specs.declared.event.End.TheVariants as end
use Rattle.gp_base.specs.EventText.{trace}
use Rattle.gp_base.specs.Run.{Out, Returned, Stopped, Stop, TurnsUsed, OutcomesUsed, DivisionByZero, Stuck}
use Rattle.gp_base.specs.World.{World, start}
use Rattle.hg_graph.specs.Graph.{Graph}
use Rattle.hg_graph.specs.Run.{graph_run}
use Rattle.hg_graph.specs.Value.{Value}
use Rattle.hg_run.specs.Entries.{entry_of, IfClosed}

-- the run of function f without arguments, with so many turns, these outcomes and these picks
abbrev pub entry_run : Graph → (f turns : ℕ) → List Bool → (picks : List ℕ) → Out World (List Value)
entry_run g f turns outcomes picks = graph_run g f [] (start turns outcomes) picks

-- what is said of the run of the function with this name, where it may be run
abbrev pub IfRuns : Graph → (name : List ℕ) → (turns : ℕ) → List Bool → (picks : List ℕ) → (Out World (List Value) → Type 0) → Type 0
IfRuns g name turns outcomes picks P = IfClosed (entry_of g name) (λ f. P (entry_run g f turns outcomes picks))

-- the trace of a run; of one that is stuck none is defined
abbrev pub trace_of_stop : Stop → List Event → List ℕ
trace_of_stop TurnsUsed events = trace events end.TurnsUsed
trace_of_stop OutcomesUsed events = trace events end.OutcomesUsed
trace_of_stop DivisionByZero events = trace events end.DivisionByZero
trace_of_stop Stuck events = []

abbrev pub trace_of : Out World (List Value) → List ℕ
trace_of (Returned vs w) = trace w.events end.Returned
trace_of (Stopped stop w) = trace_of_stop stop w.events

-- the end of a run, where it isn't stuck
abbrev pub IsEndOfStop : Stop → End → Type 0
IsEndOfStop TurnsUsed how = how ≡ end.TurnsUsed
IsEndOfStop OutcomesUsed how = how ≡ end.OutcomesUsed
IsEndOfStop DivisionByZero how = how ≡ end.DivisionByZero
IsEndOfStop Stuck how = ⊥

abbrev pub EndsAs : Out World (List Value) → End → Type 0
EndsAs (Returned vs w) how = how ≡ end.Returned
EndsAs (Stopped stop w) how = IsEndOfStop stop how
