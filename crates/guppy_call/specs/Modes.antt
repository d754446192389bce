-- What the modes read and what is due for it.
use Rattle.std.specs.Prelude.{ℕ, List}
use Rattle.guppy_words.specs.Meaning.{Meaning, compile, validate, migrate, run}
use Rattle.guppy_call.specs.Call.{Answer}
use Rattle.guppy_call.specs.Compile.{source_limit, IsDue}
use Rattle.guppy_call.specs.GraphTexts.{graph_text_limit}
use Rattle.guppy_call.specs.Migration.{IsDueMigration}
use Rattle.guppy_call.specs.RunDue.{IsDueRun}
use Rattle.guppy_call.specs.Validity.{IsDueValidity}

-- the most bytes of an input
abbrev pub limit_of : Meaning → ℕ
limit_of (compile file) = source_limit
limit_of (validate file) = graph_text_limit
limit_of (migrate file) = graph_text_limit
limit_of (run file running) = graph_text_limit

-- what is due for an input
abbrev pub IsDueIn : Meaning → List ℕ → Answer → Type 0
IsDueIn (compile file) = IsDue
IsDueIn (validate file) = IsDueValidity
IsDueIn (migrate file) = IsDueMigration
IsDueIn (run file running) = IsDueRun running

-- the mode is `run`
abbrev pub IsRun : Meaning → Type 0
IsRun (compile file) = ⊥
IsRun (validate file) = ⊥
IsRun (migrate file) = ⊥
IsRun (run file running) = Unit {0}
