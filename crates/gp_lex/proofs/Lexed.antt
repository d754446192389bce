-- The lines that are read are the text's, and the fault is its first.
use Rattle.std.proofs.Common.{◌≡◌, ◌⊎◌, inl, inr, ℕ, ◌+◌, ◌≤◌, Bool, true, false, cond, eqb, List, [], ◌∷◌, length, take, None, Result, Ok, Err, refl, sym, ap, ◌∙◌, arith}
use Rattle.std.specs.Prelude.{IsUtf8, chars}
use Rattle.std.specs.Str.{is_utf8}
use Rattle.std.specs.Str.Lossy.{utf8_valid_len}
use Rattle.std.proofs.lemmas.Str.{IsUtf8-from_is_utf8, is_utf8-from_IsUtf8, chars-encodes, length-le-encodes}
use Rattle.gp_lex.specs.declared.fault.LexFault.{LexFault}
use Rattle.gp_lex.specs.declared.fault.LexFault.TheVariants as fault
use Rattle.gp_lex.specs.declared.line.LogicalLine.{LogicalLine}
use Rattle.gp_lex.specs.Chars.{Text, line_feeds}
use Rattle.gp_lex.specs.Pieces.{Piece, at_start, line_no, Spelled, Faulty}
use Rattle.gp_lex.specs.Lines.{lines_from, without_mark, source, HasLines, HasFault, not_utf8, in_text, IsLexed, PiecesAreOne, LinesOrFault}
use Rattle.gp_lex.specs.code.Reading.{Gives, pieces_from, lines_of}
use Rattle.gp_lex.proofs.Exact.{bind_ok, here, later, bind_err, ok_is}
use Rattle.gp_lex.proofs.Whole.{pieces_spelled, pieces_faulty, cuts, refuses, joined}
use Rattle.gp_lex.proofs.Turns.{Total}

-- ---- one list of pieces, one list of lines, one fault

abbrev Pieces : Type 0
Pieces = Result (List Piece) LexFault

pub one_list_of_pieces : (text : Text) (ps qs : List Piece) → Spelled at_start text ps → Spelled at_start text qs → ps ≡ qs
one_list_of_pieces text ps qs p q = ok_is ps qs (sym (cuts p (length text) (omega arith)) ∙ cuts q (length text) (omega arith))

one_fault_in : (text : Text) (f g : LexFault) → Faulty at_start text f → Faulty at_start text g → f ≡ g
one_fault_in text f g p q = same (sym (refuses p (length text) (omega arith)) ∙ refuses q (length text) (omega arith))
  where
    same : ◌≡◌ {A = Pieces} (Err f) (Err g) → f ≡ g
    same e = cc

never_both_in : (text : Text) (ps : List Piece) (f : LexFault) → Spelled at_start text ps → Faulty at_start text f → ⊥
never_both_in text ps f p q = differ (sym (cuts p (length text) (omega arith)) ∙ refuses q (length text) (omega arith))
  where
    differ : ◌≡◌ {A = Pieces} (Ok ps) (Err f) → ⊥
    differ e = cc

pub one_list_of_lines : (bytes : List ℕ) (ls ms : List LogicalLine) → HasLines bytes ls → HasLines bytes ms → ls ≡ ms
one_list_of_lines bytes ls ms p q =
    sym p.parted ∙ ap (lines_from at_start None) (one_list_of_pieces (source bytes) p.pieces q.pieces p.spelled q.spelled) ∙ q.parted

pub one_first_fault : (bytes : List ℕ) (f g : LexFault) → HasFault bytes f → HasFault bytes g → f ≡ g
one_first_fault bytes f g (not_utf8 n) (not_utf8 m) = refl
one_first_fault bytes f g (not_utf8 n) (in_text d u q) = absurd (n u)
one_first_fault bytes f g (in_text d u p) (not_utf8 m) = absurd (m u)
one_first_fault bytes f g (in_text c u p) (in_text d v q) = one_fault_in (source bytes) c d p q

pub never_lines_and_fault : (bytes : List ℕ) (ls : List LogicalLine) (f : LexFault) → HasLines bytes ls → HasFault bytes f → ⊥
never_lines_and_fault bytes ls f p (not_utf8 n) = n p.is_text
never_lines_and_fault bytes ls f p (in_text d u q) = never_both_in (source bytes) p.pieces d p.spelled q

-- ---- what is read

lines_are : (bytes : List ℕ) (ls : List LogicalLine) → IsUtf8 bytes → lines_of (source bytes) ≡ Ok ls → HasLines bytes ls
unfolding lines_of
lines_are bytes ls u e =
    let x = bind_ok (pieces_from (length (source bytes)) at_start (source bytes)) _ ls e in
    record {
      is_text = u;
      pieces = x.0;
      spelled = pieces_spelled (length (source bytes)) at_start (source bytes) x.0 (omega arith) x.1;
      parted = ok_is (lines_from at_start None x.0) ls x.2;
    }

fault_is : (bytes : List ℕ) (f : LexFault) → IsUtf8 bytes → lines_of (source bytes) ≡ Err f → HasFault bytes f
unfolding lines_of
fault_is bytes f u e =
    elim (bind_err (pieces_from (length (source bytes)) at_start (source bytes)) _ f e) [
      | here h ↦ in_text f u (pieces_faulty (length (source bytes)) at_start (source bytes) f (omega arith) h)
      | later x h go ↦ absurd cc
    ]

pub lexed : (bytes : List ℕ) (r : Total) → IsUtf8 bytes → Gives (λ ls. ls) r (lines_of (source bytes)) → IsLexed bytes r
lexed bytes (Ok ls) u h = lines_are bytes ls u h
lexed bytes (Err fault.Memory) u h = tt
lexed bytes (Err (fault.NotUtf8 n)) u h = fault_is bytes (fault.NotUtf8 n) u h
lexed bytes (Err (fault.TabIndent n)) u h = fault_is bytes (fault.TabIndent n) u h
lexed bytes (Err (fault.BadChar n)) u h = fault_is bytes (fault.BadChar n) u h
lexed bytes (Err (fault.Unclosed n)) u h = fault_is bytes (fault.Unclosed n) u h
lexed bytes (Err (fault.BadNumber n)) u h = fault_is bytes (fault.BadNumber n) u h
lexed bytes (Err (fault.NotNfkc n)) u h = fault_is bytes (fault.NotNfkc n) u h

abbrev Either : List ℕ → Type 0
Either bytes = ((ls : List LogicalLine) × HasLines bytes ls) ⊎ ((f : LexFault) × HasFault bytes f)

pub lines_or_fault : (bytes : List ℕ) → Either bytes
lines_or_fault bytes = by_text (is_utf8 bytes) refl
  where
    by_reading : IsUtf8 bytes → (r : Total) → lines_of (source bytes) ≡ r → Either bytes
    by_reading u (Ok ls) e = inl (ls, lines_are bytes ls u e)
    by_reading u (Err f) e = inr (f, fault_is bytes f u e)

    no_text : is_utf8 bytes ≡ false → IsUtf8 bytes → ⊥
    no_text h u = let yes = is_utf8-from_IsUtf8 bytes u in cc

    by_text : (b : Bool) → is_utf8 bytes ≡ b → Either bytes
    by_text true h = by_reading (IsUtf8-from_is_utf8 bytes h) (lines_of (source bytes)) refl
    by_text false h = inr (fault.NotUtf8 (line_no (line_feeds (take (utf8_valid_len bytes) bytes) + 1)), not_utf8 (no_text h))

-- ---- the laws

pub pieces_are_one : PiecesAreOne
pieces_are_one = record { one = one_list_of_pieces; joined = λ text ps h. joined h }

pub one_or_the_other : LinesOrFault
one_or_the_other = record { one_list = one_list_of_lines; one_fault = one_first_fault; never_both = never_lines_and_fault; always_one = lines_or_fault }

-- ---- sizes

mark_len : (cs : Text) → length (without_mark cs) ≤ length cs
mark_len [] = omega arith
mark_len (c ∷ cs) = by (eqb c 0xFEFF)
  where
    by : (b : Bool) → length (cond b cs (c ∷ cs)) ≤ length (c ∷ cs)
    by true = omega arith
    by false = omega arith

pub source_len : (bytes : List ℕ) → IsUtf8 bytes → length (source bytes) ≤ length bytes
source_len bytes (cs, (scalar, e)) =
    let is : chars bytes ≡ cs = ap chars (sym e) ∙ chars-encodes cs scalar in
    omega (arith, mark_len (chars bytes), ap length is, length-le-encodes cs, ap length e)
