-- What the steps of a call give.
use Rattle.std.specs.Prelude.{◌≡◌, ℕ, List, [], Option, Result, Ok, Err, Vec}
use Rattle.std.specs.declared.alloc.Global.{Global}
use Rattle.gp_base.specs.Outside.{Wrote}
use Rattle.hg_graph.specs.Graph.{Graph}
use Rattle.hg_run.specs.Entries.{Entry, entry_of, Missing, NotClosed, Closed}
use Rattle.hg_run.specs.declared.fault.RunFault.{RunFault}
use Rattle.hg_run.specs.declared.fault.RunFault.TheVariants as fault
use Rattle.guppy_words.specs.Meaning.{Running}
use Rattle.guppy_call.specs.declared.mode_error.ModeError.{ModeError}
use Rattle.guppy_call.specs.declared.mode_error.ModeError.TheVariants.{Refused, Memory}
use Rattle.guppy_call.specs.declared.refusal.Refusal.TheVariants as refusal
use Rattle.guppy_call.specs.declared.status.Status.{Status}
use Rattle.guppy_call.specs.declared.status.Status.TheVariants as status
use Rattle.guppy_call.specs.Refusal.{refusal_text, status_of}
use Rattle.guppy_call.specs.Call.{Answer, Sends, line_of, refused}
use Rattle.guppy_call.specs.GraphTexts.{IsRefusedText}
use Rattle.guppy_call.specs.RunDue.{run_by, told}

-- the result is this answer: the line to write, or the refusal; or there was no memory
abbrev pub Makes : Result (Vec ℕ Global) ModeError → Answer → Type 0
Makes (Ok line) answer = answer ≡ record { status = status.Done; out = line.items; err = [] }
Makes (Err (Refused refusal)) answer = answer ≡ refused refusal
Makes (Err Memory) answer = Unit {0}

-- what is refused is the input
abbrev pub RefusesInput : {A : Type 0} → Result A ModeError → Type 0
RefusesInput (Ok made) = Unit {0}
RefusesInput (Err (Refused refusal)) = status_of refusal ≡ status.Refused
RefusesInput (Err Memory) = Unit {0}

-- a text that is refused so, as an input; or there was no memory
abbrev pub RefusesText : List ℕ → ModeError → Type 0
RefusesText text (Refused refusal) = IsRefusedText text refusal × (status_of refusal ≡ status.Refused)
RefusesText text Memory = Unit {0}

-- what is answered by what stands under the name of the function that is to be run
abbrev pub answer_by : Running → Graph → Entry → Answer
answer_by running g Missing = refused refusal.NoEntry
answer_by running g NotClosed = refused refusal.EntryNotClosed
answer_by running g (Closed f) = told (run_by running g f)

abbrev pub run_answer : Running → Graph → Answer
run_answer running g = answer_by running g (entry_of g running.entry)

-- what a run that failed comes to: a line of a refusal that is sent, or a status
abbrev pub FailsAs : RunFault → Status → Option (List ℕ) → Option (List ℕ) → Type 0
FailsAs fault.NoEntry result before after = Sends result status.Refused before after (line_of (refusal_text refusal.NoEntry))
FailsAs fault.EntryNotClosed result before after = Sends result status.Refused before after (line_of (refusal_text refusal.EntryNotClosed))
FailsAs fault.WriteFault result before after = (result ≡ status.WriteFault) × Wrote before after []
FailsAs fault.Memory result before after = (result ≡ status.Memory) × Wrote before after []
