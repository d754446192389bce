-- What is seen of a call of the program.
use Rattle.std.specs.Prelude.{◌≡◌, ◌⊎◌, ℕ, List, [], ◌∷◌, ◌++◌, Option}
use Rattle.gp_base.specs.Outside.{Rose, Wrote, WrotePart}
use Rattle.guppy_call.specs.declared.status.Status.{Status}
use Rattle.guppy_call.specs.declared.status.Status.TheVariants as status
use Rattle.guppy_call.specs.declared.refusal.Refusal.{Refusal}
use Rattle.guppy_call.specs.declared.refusal.Refusal.TheVariants.{ReadFault}
use Rattle.guppy_call.specs.Refusal.{refusal_text, status_of}

-- A call that writes to one sink ends with the status that is due, and the text is written; or a fault of
-- writing or want of memory came between, and a part of the text is.
abbrev pub Sends : Status → Status → Option (List ℕ) → Option (List ℕ) → List ℕ → Type 0
Sends result due before after text =
    ((result ≡ due) × Wrote before after text) ⊎ (((result ≡ status.WriteFault) ⊎ (result ≡ status.Memory)) × WrotePart before after text)

-- What a call is to answer: its status, and what it writes to `out` and to `err`.
pub record Answer : Type 0 where
  pub status : Status
  pub out : List ℕ
  pub err : List ℕ

-- a text with a line feed
abbrev pub line_of : List ℕ → List ℕ
line_of text = text ++ 10 ∷ []

-- a refusal writes its line to `err` alone, and what is done writes its line to `out` alone
abbrev pub refused : Refusal → Answer
refused refusal = record { status = status_of refusal; out = []; err = line_of (refusal_text refusal) }

abbrev pub done : List ℕ → Answer
done text = record { status = status.Done; out = line_of text; err = [] }

-- The status of a call, and the bytes of both sinks, where they are told, before and after it.
pub record Seen : Type 0 where
  pub status : Status
  pub out : Option (List ℕ)
  pub out_after : Option (List ℕ)
  pub err : Option (List ℕ)
  pub err_after : Option (List ℕ)

abbrev pub seen : Status → Option (List ℕ) → Option (List ℕ) → Option (List ℕ) → Option (List ℕ) → Seen
seen status out out_after err err_after =
    record { status = status; out = out; out_after = out_after; err = err; err_after = err_after }

-- the call answered so, and all was written
pub record Answered (call : Seen) (answer : Answer) : Type 0 where
  pub status : call.status ≡ answer.status
  pub out : Wrote call.out call.out_after answer.out
  pub err : Wrote call.err call.err_after answer.err

-- a fault of writing or want of memory came between, and each sink has a part from the front of its text
pub record CutShort (call : Seen) (answer : Answer) : Type 0 where
  pub status : (call.status ≡ status.WriteFault) ⊎ (call.status ≡ status.Memory)
  pub out : WrotePart call.out call.out_after answer.out
  pub err : WrotePart call.err call.err_after answer.err

abbrev pub Delivers : Seen → Answer → Type 0
Delivers call answer = Answered call answer ⊎ CutShort call answer

-- there was no memory, and nothing was written
pub record HasNoMemory (call : Seen) : Type 0 where
  pub status : call.status ≡ status.Memory
  pub out : Wrote call.out call.out_after []
  pub err : Wrote call.err call.err_after []

-- the call delivers the answer; or the count of faults of its files rose, and it delivers that
abbrev pub Settles : ℕ → ℕ → Seen → Answer → Type 0
Settles faults faults_after call answer = (Rose faults faults_after × Delivers call (refused ReadFault)) ⊎ Delivers call answer
