-- Each text has exactly one form, and exactly one answer is due for it.
use Rattle.std.specs.Prelude.{◌≡◌, ℕ, List}
use Rattle.guppy_call.specs.Call.{Answer}
use Rattle.guppy_call.specs.Compile as compile
use Rattle.guppy_call.specs.Compile.{IsDue}
use Rattle.guppy_call.specs.Migration as migration
use Rattle.guppy_call.specs.Migration.{IsDueMigration}
use Rattle.guppy_call.specs.RunDue as run
use Rattle.guppy_call.specs.RunDue.{IsDueRun}
use Rattle.guppy_words.specs.Meaning.{Running}
use Rattle.guppy_call.specs.declared.refusal.Refusal.{Refusal}
use Rattle.guppy_call.specs.GraphTexts as texts
use Rattle.guppy_call.specs.GraphTexts.{IsRefusedText}
use Rattle.guppy_call.specs.Validity as validity
use Rattle.guppy_call.specs.Validity.{IsDueValidity}

-- the five forms of a source text
pub data TextForm : Type 0 where
  too_long : TextForm
  not_built : TextForm
  given_up : TextForm
  held_at_return : TextForm
  compiled : TextForm

-- the three forms of a graph text that is refused
pub data RefusedForm : Type 0 where
  too_long : RefusedForm
  no_graph : RefusedForm
  broken : RefusedForm

-- the forms of a graph text that is validated, migrated or run
pub data ValidityForm : Type 0 where
  refused_for : RefusedForm → ValidityForm
  valid : ValidityForm

pub data MigrationForm : Type 0 where
  refused_for : RefusedForm → MigrationForm
  migrated : MigrationForm

pub data RunForm : Type 0 where
  refused_for : RefusedForm → RunForm
  no_entry : RunForm
  not_closed : RunForm
  runs : RunForm

-- the form for which an answer is due
abbrev pub form_of : (text : List ℕ) (answer : Answer) → IsDue text answer → TextForm
form_of text _ (compile.too_long long) = TextForm.too_long
form_of text _ (compile.not_built other) = TextForm.not_built
form_of text _ (compile.given_up gates next more thin) = TextForm.given_up
form_of text _ (compile.held_at_return gates thin) = TextForm.held_at_return
form_of text _ (compile.compiled gates thin) = TextForm.compiled

abbrev pub refused_form_of : (text : List ℕ) (why : Refusal) → IsRefusedText text why → RefusedForm
refused_form_of text _ (texts.too_long long) = RefusedForm.too_long
refused_form_of text _ (texts.no_graph within why refused) = RefusedForm.no_graph
refused_form_of text _ (texts.broken g read rule n first) = RefusedForm.broken

abbrev pub validity_form_of : (text : List ℕ) (answer : Answer) → IsDueValidity text answer → ValidityForm
validity_form_of text _ (validity.refuses why cause) = ValidityForm.refused_for (refused_form_of text why cause)
validity_form_of text _ (validity.valid g read) = ValidityForm.valid

abbrev pub migration_form_of : (text : List ℕ) (answer : Answer) → IsDueMigration text answer → MigrationForm
migration_form_of text _ (migration.refuses why cause) = MigrationForm.refused_for (refused_form_of text why cause)
migration_form_of text _ (migration.migrates g read) = MigrationForm.migrated

abbrev pub run_form_of : (running : Running) (text : List ℕ) (answer : Answer) → IsDueRun running text answer → RunForm
run_form_of running text _ (run.refuses why cause) = RunForm.refused_for (refused_form_of text why cause)
run_form_of running text _ (run.no_entry g read entry) = RunForm.no_entry
run_form_of running text _ (run.not_closed g read entry) = RunForm.not_closed
run_form_of running text _ (run.runs g read f entry) = RunForm.runs

-- exactly one answer is due, and all of its causes have one form
pub record HasOneAnswer {Form : Type 0} (Due : Answer → Type 0) (form : (answer : Answer) → Due answer → Form) : Type 0 where
  pub answer : Answer
  pub due : Due answer
  pub only : (other : Answer) → Due other → other ≡ answer
  pub one_form : (other : Answer) (cause : Due other) → form other cause ≡ form answer due

-- for each source text
abbrev pub TextsHaveOneAnswer : Type 0
TextsHaveOneAnswer = (text : List ℕ) → HasOneAnswer (IsDue text) (form_of text)

-- for each graph text, validated, migrated or run
abbrev pub GraphTextsHaveOneValidity : Type 0
GraphTextsHaveOneValidity = (text : List ℕ) → HasOneAnswer (IsDueValidity text) (validity_form_of text)

abbrev pub GraphTextsHaveOneMigration : Type 0
GraphTextsHaveOneMigration = (text : List ℕ) → HasOneAnswer (IsDueMigration text) (migration_form_of text)

abbrev pub GraphTextsHaveOneRun : Type 0
GraphTextsHaveOneRun = (running : Running) (text : List ℕ) → HasOneAnswer (IsDueRun running text) (run_form_of running text)
