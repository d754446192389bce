-- The lines of a trace.
use Rattle.std.proofs.Common.{◌≡◌, ℕ, zero, suc, ◌-◌, ◌/◌, ◌%◌, ◌<◌, Bool, true, false, ◌==◌, nat_le, if◌then◌else◌, List, [], ◌∷◌, ◌++◌, length, get_or, decimal, pos, negsuc, ℤ, refl, ap, ◌∙◌, arith}
use Rattle.std.proofs.lemmas.List.{append_assoc}
use Rattle.std.proofs.lemmas.List.Folds.{list_all-append}
use Rattle.std.proofs.lemmas.List.Sums.{AllPass-from_list_all, list_all-from_AllPass}
use Rattle.std.proofs.lemmas.List.Splits.{slice_split_at, length-slice_split}
use Rattle.std.proofs.lemmas.Bool.{le-leb}
use Rattle.std.proofs.lemmas.Bool.Decides.{nat_tests}
use Rattle.std.specs.Fmt.{digits, digits_onto, digit_glyph, signed_decimal}
use Rattle.std.specs.List.{list_all, slice_split}
use Rattle.std.specs.Str.Lines.{lines, lines_of_parts, strip_carriage_return}
use Rattle.gp_base.specs.declared.event.End.{End}
use Rattle.gp_base.specs.declared.event.End.TheVariants as end
use Rattle.gp_base.specs.declared.event.Event.{Event}
use Rattle.gp_base.specs.declared.event.Event.TheVariants.{Alloc, Free, MeasureFree, Measure, Reset, Gate1, Gate2, Gate3, Rotation, ResultInt, ResultBool}
use Rattle.gp_base.specs.declared.event.GateName.{GateName}
use Rattle.gp_base.specs.declared.event.GateName.TheVariants as gate
use Rattle.gp_base.specs.EventText.{gate_text, outcome_text, truth_text, event_words, joined, end_text, trace, HasValidTag, TraceIsLines}
use Rattle.gp_base.specs.Tag.{IsTag}

-- the bytes are from the blank on, so that none ends a line
abbrev IsPlain : List ℕ → Type 0
IsPlain text = list_all (nat_le 32) text ≡ true

-- such a byte is none of those before the blank
not_before_blank : (byte low : ℕ) → nat_le 32 byte ≡ true → low < 32 → (byte == low) ≡ false
not_before_blank byte low h l = grind (arith, nat_tests)

IsPlain-append : (front text : List ℕ) → IsPlain front → IsPlain text → IsPlain (front ++ text)
IsPlain-append front text f t = rw (list_all-append (nat_le 32) front text, f, t)

digit_glyph_is_plain : (d : ℕ) → nat_le 32 (digit_glyph false d) ≡ true
digit_glyph_is_plain d = grind (arith, nat_tests)

IsPlain-digits : (k n : ℕ) (acc : List ℕ) → IsPlain acc → IsPlain (digits_onto k 10 false n acc)
IsPlain-digits zero n acc h = h
IsPlain-digits (suc k) n acc h =
    let p : IsPlain (digit_glyph false (n % 10) ∷ acc) = rw (digit_glyph_is_plain (n % 10), h) in
    elim (n / 10 == 0) as (λ b. IsPlain (if b then digit_glyph false (n % 10) ∷ acc else digits_onto k 10 false (n / 10) (digit_glyph false (n % 10) ∷ acc))) [
      | true ↦ p
      | false ↦ IsPlain-digits k (n / 10) _ p
    ]

IsPlain-decimal : (n : ℕ) → IsPlain (decimal n)
unfolding digits
IsPlain-decimal n = IsPlain-digits 64 n [] refl

IsPlain-signed : (z : ℤ) → IsPlain (signed_decimal z)
IsPlain-signed (pos n) = IsPlain-decimal n
IsPlain-signed (negsuc n) = IsPlain-decimal (suc n)

IsPlain-tag : (tag : List ℕ) → IsTag tag → IsPlain tag
IsPlain-tag tag h =
    list_all-from_AllPass (nat_le 32) tag (λ k d lt. le-leb 32 (get_or tag k d) (h.printable k d lt).0)

IsPlain-gate : (gate : GateName) → IsPlain (gate_text gate)
IsPlain-gate gate.H = refl
IsPlain-gate _ = refl

IsPlain-outcome : (outcome : Bool) → IsPlain (outcome_text outcome)
IsPlain-outcome true = refl
IsPlain-outcome false = refl

IsPlain-truth : (truth : Bool) → IsPlain (truth_text truth)
IsPlain-truth true = refl
IsPlain-truth false = refl

IsPlain-end : (end : End) → IsPlain (end_text end)
IsPlain-end end.Returned = refl
IsPlain-end _ = refl

-- words of such bytes
abbrev ArePlain : List (List ℕ) → Type 0
ArePlain [] = Unit {0}
ArePlain (word ∷ words) = IsPlain word × ArePlain words

IsPlain-joined : (words : List (List ℕ)) → ArePlain words → IsPlain (joined words)
IsPlain-joined [] h = refl
IsPlain-joined (word ∷ []) h = h.0
IsPlain-joined (word ∷ second ∷ words) h = IsPlain-append word _ h.0 (IsPlain-joined (second ∷ words) h.1)

ArePlain-event_words : (event : Event) → HasValidTag event → ArePlain (event_words event)
ArePlain-event_words (Alloc q) h = (refl, (IsPlain-decimal q, tt))
ArePlain-event_words (Free q) h = (refl, (IsPlain-decimal q, tt))
ArePlain-event_words (MeasureFree q outcome) h = (refl, (IsPlain-decimal q, (IsPlain-outcome outcome, tt)))
ArePlain-event_words (Measure q outcome) h = (refl, (IsPlain-decimal q, (IsPlain-outcome outcome, tt)))
ArePlain-event_words (Reset q) h = (refl, (IsPlain-decimal q, tt))
ArePlain-event_words (Gate1 gate q) h = (IsPlain-gate gate, (IsPlain-decimal q, tt))
ArePlain-event_words (Gate2 gate p q) h = (IsPlain-gate gate, (IsPlain-decimal p, (IsPlain-decimal q, tt)))
ArePlain-event_words (Gate3 gate p q r) h =
    (IsPlain-gate gate, (IsPlain-decimal p, (IsPlain-decimal q, (IsPlain-decimal r, tt))))
ArePlain-event_words (Rotation gate q angle) h =
    (IsPlain-gate gate, (IsPlain-decimal q, (IsPlain-signed angle, tt)))
ArePlain-event_words (ResultInt tag n) h = (refl, (IsPlain-tag tag h, (IsPlain-signed n, tt)))
ArePlain-event_words (ResultBool tag truth) h = (refl, (IsPlain-tag tag h, (IsPlain-truth truth, tt)))

-- such bytes lose nothing as a line
strip-IsPlain : (text : List ℕ) → IsPlain text → strip_carriage_return text ≡ text
strip-IsPlain [] h = refl
strip-IsPlain (byte ∷ bytes) h =
    let last = AllPass-from_list_all (nat_le 32) (byte ∷ bytes) h (length bytes) 0 (omega arith) in
    let place : length (byte ∷ bytes) - 1 ≡ length bytes = omega arith in
    rw (place, not_before_blank (get_or (byte ∷ bytes) (length bytes) 0) 13 last (omega arith))

lines_of_parts-cons : (part : List ℕ) (parts : List (List ℕ)) → 0 < length parts → lines_of_parts (part ∷ parts) ≡ strip_carriage_return part ∷ lines_of_parts parts
lines_of_parts-cons part [] h = absurd (omega arith)
lines_of_parts-cons part (second ∷ parts) h = refl

-- the first line of a text
lines-first : (text rest : List ℕ) → IsPlain text → lines (text ++ 10 ∷ rest) ≡ text ∷ lines rest
lines-first text rest h =
    let plain = AllPass-from_list_all (nat_le 32) text h in
    let split : slice_split (λ b. b == 10) (text ++ 10 ∷ rest) ≡ text ∷ slice_split (λ b. b == 10) rest = slice_split_at (λ b. b == 10) text 10 rest (λ k d lt. not_before_blank (get_or text k d) 10 (plain k d lt) (omega arith)) refl in
    ap lines_of_parts split
    ∙ lines_of_parts-cons text (slice_split (λ b. b == 10) rest) (omega (arith, length-slice_split (λ b. b == 10) rest))
    ∙ ap (λ line. line ∷ lines rest) (strip-IsPlain text h)

trace-cons : (event : Event) (events : List Event) (end : End) → trace (event ∷ events) end ≡ joined (event_words event) ++ 10 ∷ trace events end
trace-cons event events end = simp append_assoc

pub trace_is_lines_lem : TraceIsLines
trace_is_lines_lem [] end h = lines-first (end_text end) [] (IsPlain-end end)
trace_is_lines_lem (event ∷ events) end h =
    ap lines (trace-cons event events end)
    ∙ lines-first (joined (event_words event)) (trace events end) (IsPlain-joined _ (ArePlain-event_words event (h 0 event (omega arith))))
    ∙ ap (λ more. joined (event_words event) ∷ more) (trace_is_lines_lem events end (λ k d lt. h (suc k) d (omega arith)))
