-- What is due of `migrate` and `run`.
use Rattle.std.proofs.Common.{◌≡◌, ℕ, List, [], Ok, Err, Result, Option, inl, inr, refl, sym, ap, subst, ◌∙◌, arith}
use Rattle.gp_base.proofs.Written.{appended-nil}
use Rattle.gp_base.specs.Outside.{Wrote, WrotePart}
use Rattle.gp_base.specs.Run.{Out, Returned, Stopped, TurnsUsed, OutcomesUsed, DivisionByZero, Stuck}
use Rattle.gp_base.specs.World.{World, start}
use Rattle.gp_base.specs.declared.event.End.{End}
use Rattle.guppy_words.specs.Meaning.{Running}
use Rattle.hg_graph.specs.Graph.{Graph}
use Rattle.hg_graph.specs.Moments.{IsProper}
use Rattle.hg_graph.specs.Ordered.{IsOrdered}
use Rattle.hg_graph.specs.Valid.{IsValid}
use Rattle.hg_graph.specs.Value.{Value}
use Rattle.hg_json.specs.GraphText.{json}
use Rattle.hg_laws.proofs.Main.{picks_change_nothing_lem}
use Rattle.hg_run.proofs.Found.{found}
use Rattle.hg_run.specs.Entries.{Entry, entry_of, Missing, NotClosed, Closed}
use Rattle.hg_run.specs.Told.{trace_of, EndsAs}
use Rattle.guppy_call.specs.declared.mode_error.ModeError.{ModeError}
use Rattle.guppy_call.specs.declared.mode_error.ModeError.TheVariants as error
use Rattle.guppy_call.specs.declared.refusal.Refusal.{Refusal}
use Rattle.guppy_call.specs.declared.refusal.Refusal.TheVariants as refusal
use Rattle.guppy_call.specs.declared.status.Status.{Status}
use Rattle.guppy_call.specs.declared.status.Status.TheVariants as status
use Rattle.guppy_call.specs.Call.{Answer, Seen, seen, Delivers, refused, done}
use Rattle.guppy_call.specs.GraphTexts.{IsValidText, IsRefusedText}
use Rattle.guppy_call.specs.Made.{Makes, RefusesText, answer_by, run_answer, FailsAs}
use Rattle.guppy_call.specs.Migration as migration
use Rattle.guppy_call.specs.Migration.{IsDueMigration}
use Rattle.guppy_call.specs.OneAnswer.{MigrationForm, RunForm, ValidityForm, refused_form_of, migration_form_of, run_form_of, GraphTextsHaveOneMigration, GraphTextsHaveOneRun}
use Rattle.guppy_call.specs.RunDue as run
use Rattle.guppy_call.specs.RunDue.{run_by, under, status_of_run, told, IsDueRun}
use Rattle.guppy_call.specs.code.Ends.{status_of_end}
use Rattle.guppy_call.proofs.ValidTexts.{one_valid, never_both, one_cause, one_refused_form, valid_or_refused}

-- ---- `migrate`

pub refused_migration : (text : List ℕ) (why : Refusal) → IsRefusedText text why → (answer : Answer) → IsDueMigration text answer → answer ≡ refused why
refused_migration text why r answer (migration.refuses other s) = ap refused (one_cause text why other r s)
refused_migration text why r answer (migration.migrates g v) = absurd (never_both text g why v r)

pub due_migrated : (text : List ℕ) (g : Graph) → IsValidText text g → (answer : Answer) → IsDueMigration text answer → answer ≡ done (json g)
due_migrated text g v answer (migration.refuses why r) = absurd (never_both text g why v r)
due_migrated text g v answer (migration.migrates h w) = ap (λ h. done (json h)) (one_valid text g h v w)

pub made_unmigrated : (text : List ℕ) (e : ModeError) → RefusesText text e → (answer : Answer) → IsDueMigration text answer → Makes (Err e) answer
made_unmigrated text (error.Refused why) r answer due = refused_migration text why r.0 answer due
made_unmigrated text error.Memory r answer due = tt

form_refused : (text : List ℕ) (why : Refusal) (r : IsRefusedText text why) (answer : Answer) (due : IsDueMigration text answer)
    → migration_form_of text answer due ≡ MigrationForm.refused_for (refused_form_of text why r)
form_refused text why r answer (migration.refuses other s) = ap MigrationForm.refused_for (one_refused_form text why other r s)
form_refused text why r answer (migration.migrates g v) = absurd (never_both text g why v r)

form_migrated : (text : List ℕ) (g : Graph) → IsValidText text g → (answer : Answer) (due : IsDueMigration text answer) → migration_form_of text answer due ≡ MigrationForm.migrated
form_migrated text g v answer (migration.refuses why r) = absurd (never_both text g why v r)
form_migrated text g v answer (migration.migrates h w) = refl

pub graph_texts_have_one_migration : GraphTextsHaveOneMigration
graph_texts_have_one_migration text = elim (valid_or_refused text) [
  | inl v ↦ record {
    answer = done (json v.0);
    due = migration.migrates v.0 v.1;
    only = due_migrated text v.0 v.1;
    one_form = form_migrated text v.0 v.1;
  }
  | inr r ↦ record {
    answer = refused r.0;
    due = migration.refuses r.0 r.1;
    only = refused_migration text r.0 r.1;
    one_form = form_refused text r.0 r.1;
  }
]

-- ---- `run`

pub refused_run : (running : Running) (text : List ℕ) (why : Refusal) → IsRefusedText text why → (answer : Answer) → IsDueRun running text answer → answer ≡ refused why
refused_run running text why r answer (run.refuses other s) = ap refused (one_cause text why other r s)
refused_run running text why r answer (run.no_entry g v e) = absurd (never_both text g why v r)
refused_run running text why r answer (run.not_closed g v e) = absurd (never_both text g why v r)
refused_run running text why r answer (run.runs g v f e) = absurd (never_both text g why v r)

by_entry : (running : Running) (g : Graph) (entry : Entry) → entry_of g running.entry ≡ entry → run_answer running g ≡ answer_by running g entry
by_entry running g entry e = ap (answer_by running g) e

-- what is due for a valid graph is told by what stands under the name
pub due_run : (running : Running) (text : List ℕ) (g : Graph) → IsValidText text g → (answer : Answer) → IsDueRun running text answer → answer ≡ run_answer running g
due_run running text g v answer (run.refuses why r) = absurd (never_both text g why v r)
due_run running text g v answer (run.no_entry h w e) = let same = one_valid text g h v w in sym (by_entry running g Missing (subst (λ z. entry_of z running.entry ≡ Missing) same e))
due_run running text g v answer (run.not_closed h w e) = let same = one_valid text g h v w in sym (by_entry running g NotClosed (subst (λ z. entry_of z running.entry ≡ NotClosed) same e))
due_run running text g v answer (run.runs h w f e) =
    let same = one_valid text g h v w in
    ap (λ z. told (run_by running z f)) same ∙ sym (by_entry running g (Closed f) (subst (λ z. entry_of z running.entry ≡ Closed f) same e))

due_by : (running : Running) (text : List ℕ) (g : Graph) → IsValidText text g → (entry : Entry) → entry_of g running.entry ≡ entry → IsDueRun running text (answer_by running g entry)
due_by running text g v Missing e = run.no_entry g v e
due_by running text g v NotClosed e = run.not_closed g v e
due_by running text g v (Closed f) e = run.runs g v f e

abbrev form_by : Entry → RunForm
form_by Missing = RunForm.no_entry
form_by NotClosed = RunForm.not_closed
form_by (Closed f) = RunForm.runs

run_form_refused : (running : Running) (text : List ℕ) (why : Refusal) (r : IsRefusedText text why) (answer : Answer) (due : IsDueRun running text answer)
    → run_form_of running text answer due ≡ RunForm.refused_for (refused_form_of text why r)
run_form_refused running text why r answer (run.refuses other s) = ap RunForm.refused_for (one_refused_form text why other r s)
run_form_refused running text why r answer (run.no_entry g v e) = absurd (never_both text g why v r)
run_form_refused running text why r answer (run.not_closed g v e) = absurd (never_both text g why v r)
run_form_refused running text why r answer (run.runs g v f e) = absurd (never_both text g why v r)

run_form_valid : (running : Running) (text : List ℕ) (g : Graph) → IsValidText text g → (answer : Answer) (due : IsDueRun running text answer)
    → run_form_of running text answer due ≡ form_by (entry_of g running.entry)
run_form_valid running text g v answer (run.refuses why r) = absurd (never_both text g why v r)
run_form_valid running text g v answer (run.no_entry h w e) = let same = one_valid text g h v w in sym (ap form_by (subst (λ z. entry_of z running.entry ≡ Missing) same e))
run_form_valid running text g v answer (run.not_closed h w e) = let same = one_valid text g h v w in sym (ap form_by (subst (λ z. entry_of z running.entry ≡ NotClosed) same e))
run_form_valid running text g v answer (run.runs h w f e) = let same = one_valid text g h v w in sym (ap form_by (subst (λ z. entry_of z running.entry ≡ Closed f) same e))

pub graph_texts_have_one_run : GraphTextsHaveOneRun
graph_texts_have_one_run running text = elim (valid_or_refused text) [
  | inl v ↦
      let due : IsDueRun running text (run_answer running v.0) = due_by running text v.0 v.1 (entry_of v.0 running.entry) refl in
      record {
        answer = run_answer running v.0;
        due = due;
        only = due_run running text v.0 v.1;
        one_form = λ other cause. run_form_valid running text v.0 v.1 other cause ∙ sym (run_form_valid running text v.0 v.1 _ due);
      }
  | inr r ↦ record {
    answer = refused r.0;
    due = run.refuses r.0 r.1;
    only = refused_run running text r.0 r.1;
    one_form = run_form_refused running text r.0 r.1;
  }
]

-- ---- picks

same_under : (running : Running) (g : Graph) (picks : List ℕ) (f : ℕ) → IsValid g → IsOrdered g → IsProper g f [] (start running.turns running.outcomes)
    → run_by (under picks running) g f ≡ run_by running g f
same_under running g picks f valid ordered proper =
    picks_change_nothing_lem g valid ordered f [] (start running.turns running.outcomes) proper picks
    ∙ sym (picks_change_nothing_lem g valid ordered f [] (start running.turns running.outcomes) proper running.picks)

proper_entry : (g : Graph) (name : List ℕ) (f : ℕ) (w : World) → entry_of g name ≡ Closed f → IsProper g f [] w
proper_entry g name f w e =
    let entry = found g name f e in
    record { is_node = entry.is_node; name = entry.name; ins = []; outs = entry.outs; is_function = entry.is_function; typed = tt; live = λ q. omega arith }

-- what is due under other picks is due, where the graph is ordered
pub due_under : (text : List ℕ) (g : Graph) (running : Running) (picks : List ℕ) (answer : Answer) → IsValidText text g → IsOrdered g
    → IsDueRun (under picks running) text answer → IsDueRun running text answer
due_under text g running picks _ v ordered (run.refuses why r) = run.refuses why r
due_under text g running picks _ v ordered (run.no_entry h w e) = run.no_entry h w e
due_under text g running picks _ v ordered (run.not_closed h w e) = run.not_closed h w e
due_under text g running picks _ v ordered (run.runs h w f e) =
    let is_ordered = subst IsOrdered (sym (one_valid text g h v w)) ordered in
    let same = same_under running h picks f w.valid is_ordered (proper_entry h running.entry f _ e) in
    subst (IsDueRun running text) (ap told (sym same)) (run.runs h w f e)

-- ---- what the code answers

ended : (run : Out World (List Value)) (how : End) → EndsAs run how → status_of_end how ≡ status_of_run run
ended (Returned vs w) how e = ap status_of_end e
ended (Stopped TurnsUsed w) how e = ap status_of_end e
ended (Stopped OutcomesUsed w) how e = ap status_of_end e
ended (Stopped DivisionByZero w) how e = ap status_of_end e
ended (Stopped Stuck w) how e = absurd e

pub told-whole : (run : Out World (List Value)) (how : End) (result : Status) (out out_after err : Option (List ℕ)) → EndsAs run how → result ≡ status_of_end how
    → Wrote out out_after (trace_of run) → Delivers (seen result out out_after err err) (told run)
told-whole run how result out out_after err ends is wrote = inl (record { status = is ∙ ended run how ends; out = wrote; err = appended-nil err })
