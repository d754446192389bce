-- Exactly one answer is due for each text.
use Rattle.std.proofs.Common.{◌≡◌, ◌≢◌, ◌⊎◌, inl, inr, ℕ, zero, suc, ◌+◌, ◌<◌, ◌≤◌, List, [], ◌∷◌, ◌++◌, length, refl, sym, ap, ap₂, subst, ◌∙◌, arith, append_assoc, append-nil}
use Rattle.std.proofs.lemmas.Bool.{cases_eq, cases_lt}
use Rattle.gp_lower.specs.declared.thin_text.ThinLine.{ThinLine}
use Rattle.gp_lower.specs.declared.thin_text.ThinLine.TheVariants as line
use Rattle.gp_lower.specs.ThinText.{line_text, lines_text, thin_head, thin_text}
use Rattle.gp_lower.proofs.ThinLemmas.{one_reading, not_thin}
use Rattle.hg_graph.specs.Thin.{ThinGate, H, X, thin_graph}
use Rattle.gp_lower.specs.Thin.{gate_line, gate_lines}
use Rattle.hg_json.specs.GraphText.{json}
use Rattle.guppy_call.specs.declared.refusal.Refusal.TheVariants.{TooLong, NotBuilt}
use Rattle.guppy_call.specs.Call.{Answer, refused, done}
use Rattle.guppy_call.specs.Compile as compile
use Rattle.guppy_call.specs.Compile.{source_limit, IsNotThin, given_up_at, held_at_return_at, IsDue}
use Rattle.guppy_call.specs.OneAnswer.{TextForm, form_of, HasOneAnswer, TextsHaveOneAnswer}
use Rattle.guppy_call.proofs.Due.{due-not_thin}

-- ---- a text is thin or it isn't

abbrev BeginsWith : List ℕ → List ℕ → Type 0
BeginsWith front text = (rest : List ℕ) × (text ≡ front ++ rest)

abbrev IsOther : List ℕ → List ℕ → Type 0
IsOther front text = (rest : List ℕ) → text ≢ front ++ rest

begins : (front text : List ℕ) → BeginsWith front text ⊎ IsOther front text
begins [] text = inl (text, refl)
begins (x ∷ front) [] = inr (λ rest e. cc)
begins (x ∷ front) (y ∷ text) = elim (cases_eq y x) [
  | inl e ↦ elim (begins front text) [
    | inl r ↦ inl (r.0, ap₂ (λ a b. a ∷ b) e r.1)
    | inr n ↦ inr (λ rest f. n rest cc)
  ]
  | inr ne ↦ inr (λ rest f. ne cc)
]

record FirstLine (text : List ℕ) : Type 0 where
  line : ThinLine
  rest : List ℕ
  is : text ≡ line_text line ++ rest

none_first : (text : List ℕ) → IsOther (line_text line.H) text → IsOther (line_text line.X) text → IsOther (line_text line.Discard) text → (first : ThinLine) → IsOther (line_text first) text
none_first text h x d line.H = h
none_first text h x d line.X = x
none_first text h x d line.Discard = d

first_line : (text : List ℕ) → FirstLine text ⊎ ((first : ThinLine) → IsOther (line_text first) text)
first_line text = elim (begins (line_text line.H) text) [
  | inl r ↦ inl (record { line = line.H; rest = r.0; is = r.1 })
  | inr h ↦ elim (begins (line_text line.X) text) [
    | inl r ↦ inl (record { line = line.X; rest = r.0; is = r.1 })
    | inr x ↦ elim (begins (line_text line.Discard) text) [
      | inl r ↦ inl (record { line = line.Discard; rest = r.0; is = r.1 })
      | inr d ↦ inr (none_first text h x d)
    ]
  ]
]

shorter : (first : ThinLine) (rest : List ℕ) → length rest < length (line_text first ++ rest)
shorter line.H rest = omega arith
shorter line.X rest = omega arith
shorter line.Discard rest = omega arith

abbrev IsThinText : List ℕ → Type 0
IsThinText text = (lines : List ThinLine) × (text ≡ thin_text lines)

lines_text-push : (lines : List ThinLine) (first : ThinLine) → lines_text (lines ++ first ∷ []) ≡ lines_text lines ++ line_text first
lines_text-push [] first = append-nil (line_text first)
lines_text-push (one ∷ lines) first = ap (λ t. line_text one ++ t) (lines_text-push lines first) ∙ sym (append_assoc (line_text one) (lines_text lines) (line_text first))

one_more : (lines : List ThinLine) (first : ThinLine) (rest : List ℕ) → thin_text lines ++ (line_text first ++ rest) ≡ thin_text (lines ++ first ∷ []) ++ rest
one_more lines first rest =
    sym (append_assoc (thin_text lines) (line_text first) rest)
    ∙ ap (λ t. t ++ rest) (append_assoc thin_head (lines_text lines) (line_text first) ∙ ap (λ t. thin_head ++ t) (sym (lines_text-push lines first)))

further : (n : ℕ) (text : List ℕ) (lines : List ThinLine) (rest : List ℕ) → length rest ≤ n → text ≡ thin_text lines ++ rest → IsThinText text ⊎ (IsThinText text → ⊥)
further n text lines [] l e = inl (lines, e ∙ append-nil (thin_text lines))
further zero text lines (x ∷ rest) l e = absurd (omega arith)
further (suc n) text lines (x ∷ rest) l e = elim (first_line (x ∷ rest)) [
  | inl F ↦
      let short = shorter F.line F.rest in
      let same : length (x ∷ rest) ≡ length (line_text F.line ++ F.rest) = ap length F.is in
      let less : length F.rest ≤ n = omega arith in
      further n text (lines ++ F.line ∷ []) F.rest less (e ∙ ap (λ t. thin_text lines ++ t) F.is ∙ one_more lines F.line F.rest)
  | inr none ↦ inr (λ t. not_thin lines t.0 (x ∷ rest) (omega arith) none (sym e ∙ t.1))
]

text_thin_or_not : (text : List ℕ) → IsThinText text ⊎ (IsThinText text → ⊥)
text_thin_or_not text = elim (begins thin_head text) [
  | inl r ↦ further (length r.0) text [] r.0 (omega arith) (r.1 ∙ ap (λ t. t ++ r.0) (sym (append-nil thin_head)))
  | inr n ↦ inr (λ t. n (lines_text t.0) t.1)
]

-- ---- what is due for a thin text

-- what is due where these gates stand before the lines
abbrev answer_from : List ThinGate → List ThinLine → Answer
answer_from gates [] = refused (held_at_return_at 5)
answer_from gates (line.H ∷ lines) = answer_from (gates ++ H ∷ []) lines
answer_from gates (line.X ∷ lines) = answer_from (gates ++ X ∷ []) lines
answer_from gates (line.Discard ∷ []) = done (json (thin_graph gates))
answer_from gates (line.Discard ∷ next ∷ more) = refused (given_up_at (8 + length gates))

gate_lines-push : (gates : List ThinGate) (gate : ThinGate) (lines : List ThinLine) → gate_lines gates ++ gate_line gate ∷ lines ≡ gate_lines (gates ++ gate ∷ []) ++ lines
gate_lines-push [] gate lines = refl
gate_lines-push (first ∷ gates) gate lines = ap (λ l. gate_line first ∷ l) (gate_lines-push gates gate lines)

is_due : (text : List ℕ) → length text ≤ source_limit → (gates : List ThinGate) (lines : List ThinLine) → text ≡ thin_text (gate_lines gates ++ lines) → IsDue text (answer_from gates lines)
is_due text l gates [] e = compile.held_at_return gates (record { within = l; spelled = e ∙ ap thin_text (append-nil (gate_lines gates)) })
is_due text l gates (line.H ∷ lines) e = is_due text l (gates ++ H ∷ []) lines (e ∙ ap thin_text (gate_lines-push gates H lines))
is_due text l gates (line.X ∷ lines) e = is_due text l (gates ++ X ∷ []) lines (e ∙ ap thin_text (gate_lines-push gates X lines))
is_due text l gates (line.Discard ∷ []) e = compile.compiled gates (record { within = l; spelled = e })
is_due text l gates (line.Discard ∷ next ∷ more) e = compile.given_up gates next more (record { within = l; spelled = e })

past_gates : (front gates : List ThinGate) (lines : List ThinLine) → answer_from front (gate_lines gates ++ lines) ≡ answer_from (front ++ gates) lines
past_gates front [] lines = ap (λ gs. answer_from gs lines) (sym (append-nil front))
past_gates front (H ∷ gates) lines = past_gates (front ++ H ∷ []) gates lines ∙ ap (λ gs. answer_from gs lines) (append_assoc front (H ∷ []) gates)
past_gates front (X ∷ gates) lines = past_gates (front ++ X ∷ []) gates lines ∙ ap (λ gs. answer_from gs lines) (append_assoc front (X ∷ []) gates)

held : (gates : List ThinGate) → answer_from [] (gate_lines gates) ≡ refused (held_at_return_at 5)
held gates = ap (answer_from []) (sym (append-nil (gate_lines gates))) ∙ past_gates [] gates []

only_thin : (text : List ℕ) (lines : List ThinLine) → length text ≤ source_limit → text ≡ thin_text lines → (answer : Answer) → IsDue text answer → answer ≡ answer_from [] lines
only_thin text lines l e answer (compile.too_long long) = absurd (omega arith)
only_thin text lines l e answer (compile.not_built n) = absurd (n.other lines e)
only_thin text lines l e answer (compile.given_up gates next more t) =
    sym (past_gates [] gates (line.Discard ∷ next ∷ more)) ∙ ap (answer_from []) (one_reading _ _ (sym t.spelled ∙ e))
only_thin text lines l e answer (compile.held_at_return gates t) = sym (held gates) ∙ ap (answer_from []) (one_reading _ _ (sym t.spelled ∙ e))
only_thin text lines l e answer (compile.compiled gates t) =
    sym (past_gates [] gates (line.Discard ∷ [])) ∙ ap (answer_from []) (one_reading _ _ (sym t.spelled ∙ e))

only_long : (text : List ℕ) → source_limit < length text → (answer : Answer) → IsDue text answer → answer ≡ refused TooLong
only_long text long answer (compile.too_long more) = refl
only_long text long answer (compile.not_built n) = absurd (omega (arith, n.within))
only_long text long answer (compile.given_up gates next more t) = absurd (omega (arith, t.within))
only_long text long answer (compile.held_at_return gates t) = absurd (omega (arith, t.within))
only_long text long answer (compile.compiled gates t) = absurd (omega (arith, t.within))

-- ---- the form of a text

abbrev form_from : List ThinLine → TextForm
form_from [] = TextForm.held_at_return
form_from (line.H ∷ lines) = form_from lines
form_from (line.X ∷ lines) = form_from lines
form_from (line.Discard ∷ []) = TextForm.compiled
form_from (line.Discard ∷ next ∷ more) = TextForm.given_up

form_past_gates : (gates : List ThinGate) (lines : List ThinLine) → form_from (gate_lines gates ++ lines) ≡ form_from lines
form_past_gates [] lines = refl
form_past_gates (H ∷ gates) lines = form_past_gates gates lines
form_past_gates (X ∷ gates) lines = form_past_gates gates lines

held_form : (gates : List ThinGate) → form_from (gate_lines gates) ≡ TextForm.held_at_return
held_form gates = ap form_from (sym (append-nil (gate_lines gates))) ∙ form_past_gates gates []

thin_form : (text : List ℕ) (lines : List ThinLine) → length text ≤ source_limit → text ≡ thin_text lines → (answer : Answer) (due : IsDue text answer) → form_of text answer due ≡ form_from lines
thin_form text lines l e answer (compile.too_long long) = absurd (omega arith)
thin_form text lines l e answer (compile.not_built n) = absurd (n.other lines e)
thin_form text lines l e answer (compile.given_up gates next more t) =
    sym (form_past_gates gates (line.Discard ∷ next ∷ more)) ∙ ap form_from (one_reading _ _ (sym t.spelled ∙ e))
thin_form text lines l e answer (compile.held_at_return gates t) = sym (held_form gates) ∙ ap form_from (one_reading _ _ (sym t.spelled ∙ e))
thin_form text lines l e answer (compile.compiled gates t) =
    sym (form_past_gates gates (line.Discard ∷ [])) ∙ ap form_from (one_reading _ _ (sym t.spelled ∙ e))

long_form : (text : List ℕ) → source_limit < length text → (answer : Answer) (due : IsDue text answer) → form_of text answer due ≡ TextForm.too_long
long_form text long answer (compile.too_long more) = refl
long_form text long answer (compile.not_built n) = absurd (omega (arith, n.within))
long_form text long answer (compile.given_up gates next more t) = absurd (omega (arith, t.within))
long_form text long answer (compile.held_at_return gates t) = absurd (omega (arith, t.within))
long_form text long answer (compile.compiled gates t) = absurd (omega (arith, t.within))

other_form : (text : List ℕ) → IsNotThin text → (answer : Answer) (due : IsDue text answer) → form_of text answer due ≡ TextForm.not_built
other_form text n answer (compile.too_long long) = absurd (omega (arith, n.within))
other_form text n answer (compile.not_built m) = refl
other_form text n answer (compile.given_up gates next more t) = absurd (n.other _ t.spelled)
other_form text n answer (compile.held_at_return gates t) = absurd (n.other _ t.spelled)
other_form text n answer (compile.compiled gates t) = absurd (n.other _ t.spelled)

pub texts_have_one_answer : TextsHaveOneAnswer
texts_have_one_answer text = elim (cases_lt source_limit (length text)) [
  | inl long ↦ record { answer = refused TooLong; due = compile.too_long long; only = only_long text long; one_form = long_form text long }
  | inr within ↦ elim (text_thin_or_not text) [
    | inl t ↦
        let due : IsDue text (answer_from [] t.0) = is_due text within [] t.0 t.1 in
        record {
          answer = answer_from [] t.0;
          due = due;
          only = only_thin text t.0 within t.1;
          one_form = λ other cause. thin_form text t.0 within t.1 other cause ∙ sym (thin_form text t.0 within t.1 _ due);
        }
    | inr n ↦
        let other : IsNotThin text = record { within = within; other = λ lines e. n (lines, e) } in
        record { answer = refused NotBuilt; due = compile.not_built other; only = due-not_thin text other; one_form = other_form text other }
  ]
]
