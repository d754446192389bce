-- The end of a comment, as a loop looks for it.
use Rattle.std.proofs.Common.{◌≡◌, ℕ, suc, ◌+◌, ◌<◌, ◌≤◌, Bool, false, ◌∷◌, length, drop, get_or, refl, sym, ap, ◌∙◌, arith, drop-cons}
use Rattle.gp_lex.specs.Chars.{Text, ends_line}
use Rattle.gp_lex.specs.Pieces.{comment_len}

one_more : (c : ℕ) (cs : Text) → ends_line (c ∷ cs) ≡ false → comment_len (c ∷ cs) ≡ comment_len cs + 1
one_more c cs h = rw h refl

front_is : (text : Text) (len : ℕ) → len < length text → drop len text ≡ get_or text len 0 ∷ drop (len + 1) text
front_is text len lt = drop-cons text len 0 lt ∙ ap (λ (k : ℕ). get_or text len 0 ∷ drop k text) (let e : suc len ≡ len + 1 = omega arith in e)

-- the loop behind a character of the comment
pub goes_on : (len : ℕ) (text rest : Text) (b : Bool) → len < length text → rest ≡ drop len text → b ≡ ends_line rest → b ≡ false
    → comment_len text ≡ len + comment_len (drop len text) → (len + 1 ≤ length text) × (comment_len text ≡ len + 1 + comment_len (drop (len + 1) text))
goes_on len text rest b lt same test fails so_far =
    let f = front_is text len lt in
    let h : ends_line (get_or text len 0 ∷ drop (len + 1) text) ≡ false = ap ends_line (sym (same ∙ f)) ∙ sym test ∙ fails in
    let step = ap comment_len f ∙ one_more (get_or text len 0) (drop (len + 1) text) h in
    (omega arith, omega (arith, so_far, step))
