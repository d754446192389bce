-- What a call answers over files that tell their contents.
use Rattle.std.proofs.Common.{◌≡◌, ℕ, ◌+◌, ◌<◌, ◌≤◌, List, length, take, Some, None, inl, inr, refl, sym, ap, subst, ◌∙◌, arith}
use Rattle.std.specs.Option.{option_map}
use Rattle.std.proofs.lemmas.List.{take_all, length-take-le}
use Rattle.gp_base.specs.Outside.{Holdings, contents_of, IsMissing}
use Rattle.hg_graph.specs.Thin.{ThinGate, thin_graph}
use Rattle.hg_graph.proofs.ThinLinked.{thin_graphs_are_linked}
use Rattle.hg_graph.proofs.ThinRuns.{thin_graphs_run}
use Rattle.guppy_call.specs.Call.{Answer, Seen, Settles, Delivers, refused}
use Rattle.guppy_call.specs.Compile as compile
use Rattle.guppy_call.specs.Compile.{source_limit, IsDue, IsGraphOf}
use Rattle.guppy_call.specs.RunDue as run
use Rattle.guppy_call.specs.GraphTexts.{graph_text_limit}
use Rattle.guppy_call.specs.RunDue.{IsDueRun}
use Rattle.guppy_call.specs.declared.refusal.Refusal.{Refusal}
use Rattle.guppy_call.specs.declared.refusal.Refusal.TheVariants.{ReadFault}
use Rattle.hg_graph.specs.Graph.{Graph}
use Rattle.guppy_call.specs.GraphTexts as texts
use Rattle.guppy_call.specs.GraphTexts.{IsValidText, IsRefusedText}
use Rattle.guppy_call.specs.Validity as validity
use Rattle.guppy_call.specs.Validity.{IsDueValidity}
use Rattle.guppy_call.specs.WordsFile.{Means, FileHolds, RunsFile, AnswersFile, failed, no_memory, read}
use Rattle.guppy_call.specs.Input.{AreRead}
use Rattle.guppy_call.specs.Migration as migration
use Rattle.guppy_call.specs.Migration.{IsDueMigration}
use Rattle.guppy_call.specs.Modes.{limit_of, IsDueIn, IsRun}
use Rattle.guppy_words.specs.Meaning as mode
use Rattle.guppy_words.specs.Meaning.{Meaning, Running, file_read, meaning_of}
use Rattle.hg_laws.proofs.Places.{valid_graphs_keep_places_lem, valid_graphs_end_well_lem}
use Rattle.hg_valid.specs.Runs.{KeepsPlaces, RunsEndWell}

-- the first bytes of a text that are read
abbrev pub front : ℕ → List ℕ → List ℕ
front limit text = take (limit + 1) text

not_missing : (held : Holdings) (file text : List ℕ) → contents_of held file ≡ Some text → IsMissing held file → ⊥
not_missing None file text e missing = missing
not_missing (Some holds) file text e missing = cc

what_was_read : (limit : ℕ) (held : Holdings) (file text bytes : List ℕ) → contents_of held file ≡ Some text → AreRead held file limit bytes → bytes ≡ front limit text
what_was_read limit None file text bytes e are_read = absurd cc
what_was_read limit (Some holds) file text bytes e are_read =
    let same : Some bytes ≡ Some (front limit text) = sym are_read ∙ ap (option_map (front limit)) e in
    cc

-- what is due for the bytes that are read of a file's contents is answered, unless a fault was counted
settles : (Due : List ℕ → Answer → Type 0) (limit n m : ℕ) (held : Holdings) (file text : List ℕ) (call : Seen) (answer : Answer) → contents_of held file ≡ Some text
    → AnswersFile Due limit n m held file call → Due (front limit text) answer → Settles n m call answer
settles Due limit n m held file text call answer e (failed cause delivered) due =
    elim cause [ inl rose ↦ inl (rose, delivered) | inr missing ↦ absurd (not_missing held file text e missing) ]
settles Due limit n m held file text call answer e (no_memory unwritten) due =
    inr (inr (record { status = inr unwritten.status; out = (0, unwritten.out); err = (0, unwritten.err) }))
settles Due limit n m held file text call answer e (read bytes are_read delivers) due =
    inr (delivers answer (subst (λ t. Due t answer) (sym (what_was_read limit held file text bytes e are_read)) due))

-- a text within the limit is read whole, and of a longer one one byte too many
pub whole : (limit : ℕ) (text : List ℕ) → length text ≤ limit → text ≡ front limit text
whole limit text within = sym (take_all (limit + 1) text (omega arith))

pub longer : (limit : ℕ) (text : List ℕ) → limit < length text → limit < length (front limit text)
longer limit text long =
    let count : length (front limit text) ≡ limit + 1 = length-take-le (limit + 1) text (omega arith) in
    omega arith

-- ---- what is due for a text is due for the bytes that are read of it

due-whole : (text : List ℕ) (answer : Answer) → length text ≤ source_limit → IsDue text answer → IsDue (front source_limit text) answer
due-whole text answer within due = subst (λ t. IsDue t answer) (whole source_limit text within) due

due-source : (text : List ℕ) (answer : Answer) → IsDue text answer → IsDue (front source_limit text) answer
due-source text _ (compile.too_long long) = compile.too_long (longer source_limit text long)
due-source text _ (compile.not_built n) = due-whole text _ n.within (compile.not_built n)
due-source text _ (compile.given_up gates next more t) = due-whole text _ t.within (compile.given_up gates next more t)
due-source text _ (compile.held_at_return gates t) = due-whole text _ t.within (compile.held_at_return gates t)
due-source text _ (compile.compiled gates t) = due-whole text _ t.within (compile.compiled gates t)

refused-front : (text : List ℕ) (why : Refusal) → length text ≤ graph_text_limit → IsRefusedText text why → IsRefusedText (front graph_text_limit text) why
refused-front text why within r = subst (λ t. IsRefusedText t why) (whole graph_text_limit text within) r

refused-read : (text : List ℕ) (why : Refusal) → IsRefusedText text why → IsRefusedText (front graph_text_limit text) why
refused-read text _ (texts.too_long long) = texts.too_long (longer graph_text_limit text long)
refused-read text _ (texts.no_graph within why e) = refused-front text _ within (texts.no_graph within why e)
refused-read text _ (texts.broken g t rule n b) = refused-front text _ t.within (texts.broken g t rule n b)

valid-read : (text : List ℕ) (g : Graph) → IsValidText text g → IsValidText (front graph_text_limit text) g
valid-read text g v = subst (λ t. IsValidText t g) (whole graph_text_limit text v.reads.within) v

due-validity : (text : List ℕ) (answer : Answer) → IsDueValidity text answer → IsDueValidity (front graph_text_limit text) answer
due-validity text _ (validity.refuses why r) = validity.refuses why (refused-read text why r)
due-validity text _ (validity.valid g v) = validity.valid g (valid-read text g v)

due-migration : (text : List ℕ) (answer : Answer) → IsDueMigration text answer → IsDueMigration (front graph_text_limit text) answer
due-migration text _ (migration.refuses why r) = migration.refuses why (refused-read text why r)
due-migration text _ (migration.migrates g v) = migration.migrates g (valid-read text g v)

due-run : (running : Running) (text : List ℕ) (answer : Answer) → IsDueRun running text answer → IsDueRun running (front graph_text_limit text) answer
due-run running text _ (run.refuses why r) = run.refuses why (refused-read text why r)
due-run running text _ (run.no_entry g v e) = run.no_entry g (valid-read text g v) e
due-run running text _ (run.not_closed g v e) = run.not_closed g (valid-read text g v) e
due-run running text _ (run.runs g v f e) = run.runs g (valid-read text g v) f e

due-front : (m : Meaning) (text : List ℕ) (answer : Answer) → IsDueIn m text answer → IsDueIn m (front (limit_of m) text) answer
due-front (mode.compile file) = due-source
due-front (mode.validate file) = due-validity
due-front (mode.migrate file) = due-migration
due-front (mode.run file running) = due-run running

-- the graph of gates, with what holds of it
pub graph_of : (gates : List ThinGate) → IsGraphOf gates (thin_graph gates)
graph_of gates = record {
  graph = refl;
  inputs = (thin_graphs_are_linked gates).0;
  linear_outputs = (thin_graphs_are_linked gates).1;
  runs = thin_graphs_run gates;
}

-- ---- what the words mean

-- how a call for the file of a meaning ends
abbrev pub Serves : Meaning → ℕ → ℕ → Holdings → Seen → Type 0
Serves m n k held call = AnswersFile (IsDueIn m) (limit_of m) n k held (file_read m) call

one_meaning : (m other : Meaning) (words : List (List ℕ)) → meaning_of words ≡ Some m → Means words other → m ≡ other
one_meaning m other words e f = let same : Some m ≡ Some other = sym e ∙ f in cc

-- what is answered for a request is answered for what the words mean
pub served-as : (m other : Meaning) (words : List (List ℕ)) (n k : ℕ) (held : Holdings) (call : Seen) → meaning_of words ≡ Some m → Means words other
    → Serves m n k held call → Serves other n k held call
served-as m other words n k held call e f served = subst (λ z. Serves z n k held call) (one_meaning m other words e f) served

-- what is due is answered
pub settled-as : (m other : Meaning) (words : List (List ℕ)) (n k : ℕ) (held : Holdings) (call : Seen) (text : List ℕ) (answer : Answer) → meaning_of words ≡ Some m
    → FileHolds other words held text → Serves m n k held call → IsDueIn other text answer → Settles n k call answer
settled-as m other words n k held call text answer e holds served due =
    settles (IsDueIn other) (limit_of other) n k held (file_read other) text call answer holds.contents (served-as m other words n k held call e holds.means served) (due-front other text answer due)

-- where the file is missing, that is told
not_read : (limit : ℕ) (held : Holdings) (file text : List ℕ) → IsMissing held file → AreRead held file limit text → ⊥
not_read limit None file text missing are_read = missing
not_read limit (Some holds) file text missing are_read = absurd (let same : option_map (front limit) None ≡ Some text = sym (ap (option_map (front limit)) missing) ∙ are_read in cc)

pub served_missing : (m : Meaning) (n k : ℕ) (held : Holdings) (call : Seen) → Serves m n k held call → IsMissing held (file_read m) → Delivers call (refused ReadFault)
served_missing m n k held call (failed cause delivered) missing = delivered
served_missing m n k held call (no_memory unwritten) missing = inr (record { status = inr unwritten.status; out = (0, unwritten.out); err = (0, unwritten.err) })
served_missing m n k held call (read text are_read delivers) missing = absurd (not_read (limit_of m) held (file_read m) text missing are_read)

pub meaningless : {A : Type 0} (words : List (List ℕ)) (m : Meaning) → meaning_of words ≡ None → Means words m → A
meaningless words m e f = absurd (let same : None ≡ Some m = sym e ∙ f in cc)

-- a request to run is one of the words
pub runs-file : (m : Meaning) (words : List (List ℕ)) → meaning_of words ≡ Some m → IsRun m → RunsFile words
runs-file (mode.compile file) words e h = absurd h
runs-file (mode.validate file) words e h = absurd h
runs-file (mode.migrate file) words e h = absurd h
runs-file (mode.run file running) words e h = (file, running, e)

-- ---- the laws of valid graphs, of a text's graph

pub keeps_places : (text : List ℕ) (g : Graph) → IsValidText text g → KeepsPlaces g × RunsEndWell g
keeps_places text g v = (valid_graphs_keep_places_lem g v.valid, valid_graphs_end_well_lem g v.valid)
