-- What `run` answers.
use Rattle.std.specs.Prelude.{◌≡◌, ℕ, List, []}
use Rattle.gp_base.specs.Run.{Out, Returned, Stopped}
use Rattle.gp_base.specs.World.{World, start}
use Rattle.guppy_words.specs.Meaning.{Running}
use Rattle.hg_graph.specs.Graph.{Graph}
use Rattle.hg_graph.specs.Run.{graph_run}
use Rattle.hg_graph.specs.Value.{Value}
use Rattle.hg_run.specs.Entries.{entry_of, Missing, NotClosed, Closed}
use Rattle.hg_run.specs.Told.{trace_of}
use Rattle.guppy_call.specs.declared.refusal.Refusal.{Refusal}
use Rattle.guppy_call.specs.declared.refusal.Refusal.TheVariants as refusal
use Rattle.guppy_call.specs.declared.status.Status.{Status}
use Rattle.guppy_call.specs.declared.status.Status.TheVariants as status
use Rattle.guppy_call.specs.Call.{Answer, refused}
use Rattle.guppy_call.specs.GraphTexts.{IsValidText, IsRefusedText}

-- the run of a function without arguments, with the turns, outcomes and picks that the words tell
abbrev pub run_by : Running → Graph → ℕ → Out World (List Value)
run_by running g f = graph_run g f [] (start running.turns running.outcomes) running.picks

-- the same under other picks
abbrev pub under : List ℕ → Running → Running
under picks running = record running { picks = picks }

-- a run that returns is done, and one that ends before is stopped
abbrev pub status_of_run : Out World (List Value) → Status
status_of_run (Returned vs w) = status.Done
status_of_run (Stopped stop w) = status.Stopped

-- the trace of a run goes to `out`
abbrev pub told : Out World (List Value) → Answer
told run = record { status = status_of_run run; out = trace_of run; err = [] }

-- What is due for a graph text: it is refused as by `validate`; or its graph is valid, and has no function of the name, or one
-- that can't be run alone, or one whose run is told.
pub data IsDueRun (running : Running) (text : List ℕ) : Answer → Type 0 where
  refuses : (why : Refusal) → IsRefusedText text why → IsDueRun running text (refused why)
  no_entry : (g : Graph) → IsValidText text g → entry_of g running.entry ≡ Missing → IsDueRun running text (refused refusal.NoEntry)
  not_closed : (g : Graph) → IsValidText text g → entry_of g running.entry ≡ NotClosed → IsDueRun running text (refused refusal.EntryNotClosed)
  runs : (g : Graph) → IsValidText text g → (f : ℕ) → entry_of g running.entry ≡ Closed f → IsDueRun running text (told (run_by running g f))
