-- What graph texts are, and what is due for one that is validated.
use Rattle.std.proofs.Common.{◌≡◌, ℕ, ◌<◌, ◌≤◌, ◌^◌, ◌⊎◌, inl, inr, List, length, Result, Ok, Err, refl, sym, ap, ap₂, subst, arith}
use Rattle.std.specs.Prelude.{codes}
use Rattle.std.proofs.lemmas.Bool.{cases_lt}
use Rattle.hg_graph.specs.Graph.{Graph}
use Rattle.hg_graph.specs.Valid.{IsBroken, number_of}
use Rattle.hg_json.specs.declared.fault.JsonFault.{JsonFault}
use Rattle.hg_json.specs.declared.fault.JsonFault.TheVariants as json
use Rattle.hg_json.specs.Answers.{Refuses}
use Rattle.hg_json.specs.GraphText as graph_text
use Rattle.hg_json.specs.Reading as reading
use Rattle.hg_json.specs.Reading.{graph_of}
use Rattle.hg_json.proofs.ReadGraphs.{read_is_graph, texts_are_written_anew}
use Rattle.hg_laws.proofs.Broken.{one_is_broken_lem}
use Rattle.hg_laws.proofs.Decided.{valid_or_broken_lem}
use Rattle.hg_valid.specs.Answers.{IsBrokenBy}
use Rattle.guppy_call.specs.code.GraphFault.{error_of, IsErrorOf}
use Rattle.guppy_call.specs.declared.mode_error.ModeError.{ModeError}
use Rattle.guppy_call.specs.declared.mode_error.ModeError.TheVariants as error
use Rattle.guppy_call.specs.Made.{Makes, RefusesText}
use Rattle.guppy_call.specs.declared.refusal.Refusal.{Refusal}
use Rattle.guppy_call.specs.declared.refusal.Refusal.TheVariants as refusal
use Rattle.guppy_call.specs.Call.{Answer, refused, done}
use Rattle.guppy_call.specs.GraphTexts as texts
use Rattle.guppy_call.specs.GraphTexts.{graph_text_limit, graph_refusal, IsGraphText, IsValidText, IsRefusedText}
use Rattle.guppy_call.specs.Validity as validity
use Rattle.guppy_call.specs.Validity.{IsDueValidity}
use Rattle.guppy_call.specs.OneAnswer.{ValidityForm, RefusedForm, refused_form_of, validity_form_of, GraphTextsHaveOneValidity}

same_graph : (text : List ℕ) (g h : Graph) → graph_of text ≡ Ok g → graph_of text ≡ Ok h → h ≡ g
same_graph text g h e f = cc

same_why : (text : List ℕ) (why other : reading.Refusal) → graph_of text ≡ Err why → graph_of text ≡ Err other → other ≡ why
same_why text why other e f = cc

-- ---- no text is refused for two causes, and none of a valid graph is

pub one_valid : (text : List ℕ) (g h : Graph) → IsValidText text g → IsValidText text h → h ≡ g
one_valid text g h v w = same_graph text g h v.reads.graph w.reads.graph

pub never_both : (text : List ℕ) (g : Graph) (why : Refusal) → IsValidText text g → IsRefusedText text why → ⊥
never_both text g why v (texts.too_long long) = omega (arith, v.reads.within)
never_both text g why v (texts.no_graph within w e) = absurd (let f = v.reads.graph in cc)
never_both text g why v (texts.broken h t rule n b) =
    one_is_broken_lem.none g rule n v.valid (subst (λ z. IsBroken z rule n) (same_graph text g h v.reads.graph t.graph) b)

pub one_cause : (text : List ℕ) (why other : Refusal) → IsRefusedText text why → IsRefusedText text other → other ≡ why
one_cause text _ _ (texts.too_long long) (texts.too_long more) = refl
one_cause text _ _ (texts.too_long long) (texts.no_graph within w e) = absurd (omega arith)
one_cause text _ _ (texts.too_long long) (texts.broken g t rule n b) = absurd (omega (arith, t.within))
one_cause text _ _ (texts.no_graph within w e) (texts.too_long long) = absurd (omega arith)
one_cause text _ _ (texts.no_graph within w e) (texts.no_graph l x f) = ap graph_refusal (same_why text w x e f)
one_cause text _ _ (texts.no_graph within w e) (texts.broken g t rule n b) = absurd (let f = t.graph in cc)
one_cause text _ _ (texts.broken g t rule n b) (texts.too_long long) = absurd (omega (arith, t.within))
one_cause text _ _ (texts.broken g t rule n b) (texts.no_graph l x f) = absurd (let e = t.graph in cc)
one_cause text _ _ (texts.broken g t rule n b) (texts.broken h u other m c) =
    let same = one_is_broken_lem.one g other rule m n (subst (λ z. IsBroken z other m) (same_graph text g h t.graph u.graph) c) b in
    ap₂ (λ r k. refusal.Rule (number_of r) k) same.0 same.1

-- ---- each text is one or the other

abbrev ValidOrRefused : List ℕ → Type 0
ValidOrRefused text = ((g : Graph) × IsValidText text g) ⊎ ((why : Refusal) × IsRefusedText text why)

by_graph : (text : List ℕ) → length text ≤ graph_text_limit → (read : Result Graph reading.Refusal) → graph_of text ≡ read → ValidOrRefused text
by_graph text within (Err why) e = inr (graph_refusal why, texts.no_graph within why e)
by_graph text within (Ok g) e =
    let t : IsGraphText text g = record { within = within; graph = e } in
    elim (valid_or_broken_lem g (read_is_graph text g e)) [
      | inl v ↦ inl (g, record { reads = t; valid = v })
      | inr b ↦ inr (refusal.Rule (number_of b.0) b.1, texts.broken g t b.0 b.1 b.2)
    ]

pub valid_or_refused : (text : List ℕ) → ValidOrRefused text
valid_or_refused text = elim (cases_lt graph_text_limit (length text)) [
  | inl long ↦ inr (refusal.TooLong, texts.too_long long)
  | inr within ↦ by_graph text within (graph_of text) refl
]

-- ---- the text that is written for a graph that was read

pub migrated_texts_read_back : (text : List ℕ) (g : Graph) → IsGraphText text g → length g.nodes < 2 ^ 64 → graph_of (graph_text.json g) ≡ Ok g
migrated_texts_read_back text g t few = texts_are_written_anew text g t.graph few

-- ---- what the code answers

pub long_text : (text : List ℕ) → graph_text_limit < length text → RefusesText text (error.Refused refusal.TooLong)
long_text text long = (texts.too_long long, refl)

pub unread_text : (text : List ℕ) (f : JsonFault) (e : ModeError) → length text ≤ graph_text_limit → Refuses f (graph_of text) → e ≡ error_of f → RefusesText text e
unread_text text json.NotJson e within h is = subst (RefusesText text) (sym is) (texts.no_graph within reading.NotJson h, refl)
unread_text text json.Top e within h is = subst (RefusesText text) (sym is) (texts.no_graph within reading.Top h, refl)
unread_text text json.Version e within h is = subst (RefusesText text) (sym is) (texts.no_graph within reading.Version h, refl)
unread_text text (json.Node k) e within h is = subst (RefusesText text) (sym is) (texts.no_graph within (reading.BadNode k) h, refl)
unread_text text (json.Link k) e within h is = subst (RefusesText text) (sym is) (texts.no_graph within (reading.BadLink k) h, refl)
unread_text text json.Memory e within h is = subst (RefusesText text) (sym is) tt

broken_text : (text : List ℕ) (g : Graph) (number n : ℕ) → length text ≤ graph_text_limit → graph_of text ≡ Ok g → IsBrokenBy g number n → RefusesText text (error.Refused (refusal.Rule number n))
broken_text text g number n within e b =
    let t : IsGraphText text g = record { within = within; graph = e } in
    (subst (λ k. IsRefusedText text (refusal.Rule k n)) b.1 (texts.broken g t b.0 n b.2), refl)

pub invalid_text : (text : List ℕ) (g : Graph) (e : ModeError) → length text ≤ graph_text_limit → graph_of text ≡ Ok g → IsErrorOf g e → RefusesText text e
invalid_text text g (error.Refused (refusal.Rule rule node)) within read h = broken_text text g rule node within read h
invalid_text text g (error.Refused refusal.WordsNotUnderstood) within read h = absurd h
invalid_text text g (error.Refused refusal.ReadFault) within read h = absurd h
invalid_text text g (error.Refused refusal.TooLong) within read h = absurd h
invalid_text text g (error.Refused refusal.NotBuilt) within read h = absurd h
invalid_text text g (error.Refused (refusal.Source line fault)) within read h = absurd h
invalid_text text g (error.Refused (refusal.Graph fault)) within read h = absurd h
invalid_text text g (error.Refused refusal.NoEntry) within read h = absurd h
invalid_text text g (error.Refused refusal.EntryNotClosed) within read h = absurd h
invalid_text text g error.Memory within read h = tt

-- ---- what is due where a text is validated

pub due_refused : (text : List ℕ) (why : Refusal) → IsRefusedText text why → (answer : Answer) → IsDueValidity text answer → answer ≡ refused why
due_refused text why r answer (validity.refuses other s) = ap refused (one_cause text why other r s)
due_refused text why r answer (validity.valid g v) = absurd (never_both text g why v r)

pub due_valid : (text : List ℕ) (g : Graph) → IsValidText text g → (answer : Answer) → IsDueValidity text answer → answer ≡ done (codes "valid")
due_valid text g v answer (validity.refuses why r) = absurd (never_both text g why v r)
due_valid text g v answer (validity.valid h w) = refl

pub one_refused_form : (text : List ℕ) (why other : Refusal) (r : IsRefusedText text why) (s : IsRefusedText text other) → refused_form_of text other s ≡ refused_form_of text why r
one_refused_form text _ _ (texts.too_long long) (texts.too_long more) = refl
one_refused_form text _ _ (texts.too_long long) (texts.no_graph within w e) = absurd (omega arith)
one_refused_form text _ _ (texts.too_long long) (texts.broken g t rule n b) = absurd (omega (arith, t.within))
one_refused_form text _ _ (texts.no_graph within w e) (texts.too_long long) = absurd (omega arith)
one_refused_form text _ _ (texts.no_graph within w e) (texts.no_graph l x f) = refl
one_refused_form text _ _ (texts.no_graph within w e) (texts.broken g t rule n b) = absurd (let f = t.graph in cc)
one_refused_form text _ _ (texts.broken g t rule n b) (texts.too_long long) = absurd (omega (arith, t.within))
one_refused_form text _ _ (texts.broken g t rule n b) (texts.no_graph l x f) = absurd (let e = t.graph in cc)
one_refused_form text _ _ (texts.broken g t rule n b) (texts.broken h u other m c) = refl

form_refused : (text : List ℕ) (why : Refusal) (r : IsRefusedText text why) → (answer : Answer) (due : IsDueValidity text answer) → validity_form_of text answer due ≡ ValidityForm.refused_for (refused_form_of text why r)
form_refused text why r answer (validity.refuses other s) = ap ValidityForm.refused_for (one_refused_form text why other r s)
form_refused text why r answer (validity.valid g v) = absurd (never_both text g why v r)

form_valid : (text : List ℕ) (g : Graph) → IsValidText text g → (answer : Answer) (due : IsDueValidity text answer) → validity_form_of text answer due ≡ ValidityForm.valid
form_valid text g v answer (validity.refuses why r) = absurd (never_both text g why v r)
form_valid text g v answer (validity.valid h w) = refl

pub graph_texts_have_one_validity : GraphTextsHaveOneValidity
graph_texts_have_one_validity text = elim (valid_or_refused text) [
  | inl v ↦ record {
    answer = done (codes "valid");
    due = validity.valid v.0 v.1;
    only = due_valid text v.0 v.1;
    one_form = form_valid text v.0 v.1;
  }
  | inr r ↦ record {
    answer = refused r.0;
    due = validity.refuses r.0 r.1;
    only = due_refused text r.0 r.1;
    one_form = form_refused text r.0 r.1;
  }
]

pub made_refused : (text : List ℕ) (e : ModeError) → RefusesText text e → (answer : Answer) → IsDueValidity text answer → Makes (Err e) answer
made_refused text (error.Refused why) r answer due = due_refused text why r.0 answer due
made_refused text error.Memory r answer due = tt
