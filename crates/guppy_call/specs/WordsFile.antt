-- Calls that read the file that their words name.
use Rattle.std.specs.Prelude.{◌≡◌, ◌⊎◌, ℕ, List, Some}
use Rattle.gp_base.specs.Outside.{Holdings, contents_of, IsMissing, Rose}
use Rattle.guppy_words.specs.Meaning.{Meaning, Running, run, file_read, meaning_of}
use Rattle.guppy_call.specs.declared.refusal.Refusal.TheVariants.{ReadFault}
use Rattle.guppy_call.specs.Call.{Answer, refused, Seen, Delivers, HasNoMemory}
use Rattle.guppy_call.specs.Input.{AreRead}

-- the words have this meaning
abbrev pub Means : List (List ℕ) → Meaning → Type 0
Means words meaning = meaning_of words ≡ Some meaning

-- the words have this meaning, for a file that holds this text
pub record FileHolds (meaning : Meaning) (words : List (List ℕ)) (held : Holdings) (text : List ℕ) : Type 0 where
  pub means : Means words meaning
  pub contents : contents_of held (file_read meaning) ≡ Some text

-- the words name a file that is missing
pub record FileMissing (words : List (List ℕ)) (held : Holdings) : Type 0 where
  pub meaning : Meaning
  pub means : Means words meaning
  pub missing : IsMissing held (file_read meaning)

-- the words ask for a run
abbrev pub RunsFile : List (List ℕ) → Type 0
RunsFile words = (file : List ℕ) × (running : Running) × Means words (run file running)

-- How a call for a file ends, whatever its files tell, by what is due for a text: reading failed, for its
-- cause; or there was no memory to read; or a text was read, and what is due for it is delivered.
pub data AnswersFile (IsDue : List ℕ → Answer → Type 0) (limit : ℕ) (faults faults_after : ℕ) (held : Holdings) (file : List ℕ) (call : Seen) : Type 0 where
  failed : Rose faults faults_after ⊎ IsMissing held file → Delivers call (refused ReadFault) → AnswersFile IsDue limit faults faults_after held file call
  no_memory : HasNoMemory call → AnswersFile IsDue limit faults faults_after held file call
  read : (text : List ℕ) → AreRead held file limit text → ((answer : Answer) → IsDue text answer → Delivers call answer) → AnswersFile IsDue limit faults faults_after held file call
