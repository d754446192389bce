-- Lemmas on thin texts.
use Rattle.std.proofs.Common.{◌≡◌, ◌≢◌, ◌==◌, ℕ, ◌<◌, if◌then◌else◌, List, [], ◌∷◌, ◌++◌, length, get_or, refl, sym, ap, ◌∙◌, append_assoc, append-nil, arith}
use Rattle.std.proofs.lemmas.List.{append_cancel_left}
use Rattle.gp_lower.specs.declared.thin_text.ThinLine.{ThinLine}
use Rattle.gp_lower.specs.declared.thin_text.ThinLine.TheVariants.{H, X, Discard}
use Rattle.gp_lower.specs.ThinText.{line_text, lines_text, thin_head, thin_text, OneReading}

-- the line whose byte behind the four spaces is this
abbrev marked_line : ℕ → ThinLine
marked_line byte = if byte == 104 then H else (if byte == 120 then X else Discard)

mark_of : (line : ThinLine) (rest : List ℕ) → marked_line (get_or (line_text line ++ rest) 4 0) ≡ line
mark_of H rest = refl
mark_of X rest = refl
mark_of Discard rest = refl

-- a text begins with one line only, and one rest follows it
first_is : (a b : ThinLine) (x y : List ℕ) → line_text a ++ x ≡ line_text b ++ y → (a ≡ b) × (x ≡ y)
first_is a b x y same =
    let one = sym (mark_of a x) ∙ ap (λ text. marked_line (get_or text 4 0)) same ∙ mark_of b y in
    (one, append_cancel_left (line_text a) x y (same ∙ ap (λ line. line_text line ++ y) (sym one)))

-- no line is empty
line_some : (line : ThinLine) (rest : List ℕ) → line_text line ++ rest ≢ []
line_some H rest same = cc
line_some X rest same = cc
line_some Discard rest same = cc

-- lines that a text begins with are the first of its lines, and the others follow
lines_are : (a b : List ThinLine) (rest : List ℕ) → lines_text a ++ rest ≡ lines_text b
    → (more : List ThinLine) × (b ≡ a ++ more) × (rest ≡ lines_text more)
lines_are [] b rest same = (b, refl, same)
lines_are (line ∷ a) [] rest same = absurd (line_some line _ (rw append_assoc at same))
lines_are (line ∷ a) (next ∷ b) rest same =
    let first = first_is line next _ _ (rw append_assoc at same) in
    let later = lines_are a b rest first.1 in
    (later.0, cc, later.2)

-- only the end of a text has no lines
no_lines : (more : List ThinLine) → lines_text more ≡ [] → more ≡ []
no_lines [] same = refl
no_lines (line ∷ more) same = absurd (line_some line _ same)

pub one_reading : OneReading
one_reading a b same =
    let later = lines_are a b [] (append_cancel_left thin_head _ _ (rw append-nil same)) in
    sym (later.1 ∙ ap (λ more. a ++ more) (no_lines later.0 (sym later.2)) ∙ append-nil a)

-- what is left of a thin text is empty, or begins with a line
starts : (more : List ThinLine) → 0 < length (lines_text more)
    → ((line : ThinLine) (after : List ℕ) → lines_text more ≢ line_text line ++ after) → ⊥
starts [] some none = omega arith
starts (line ∷ more) some none = none line (lines_text more) refl

pub not_thin : (lines all : List ThinLine) (rest : List ℕ) → 0 < length rest
    → ((line : ThinLine) (after : List ℕ) → rest ≢ line_text line ++ after)
    → thin_text lines ++ rest ≢ thin_text all
not_thin lines all rest some none same =
    let later = lines_are lines all rest (append_cancel_left thin_head _ _ (rw append_assoc at same)) in
    starts later.0 (rw later.2 at some) (rw later.2 at none)
