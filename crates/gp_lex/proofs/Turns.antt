-- Pieces one after the other, as a loop cuts them off and gathers the lines.
use Rattle.std.proofs.Common.{◌≡◌, ℕ, suc, ◌+◌, ◌-◌, ◌<◌, ◌≤◌, false, eqb, List, [], ◌∷◌, ◌++◌, length, Option, Some, None, Result, Ok, Err, refl, sym, ap, subst, ◌∙◌, arith, append_assoc, length-append}
use Rattle.std.specs.Prelude.{◌==◌}
use Rattle.std.proofs.lemmas.List.Sums.{count_by-le-length}
use Rattle.gp_lex.specs.declared.fault.LexFault.{LexFault}
use Rattle.gp_lex.specs.declared.fault.LexFault.TheVariants as fault
use Rattle.gp_lex.specs.declared.line.LogicalLine.{LogicalLine}
use Rattle.gp_lex.specs.declared.context.Bracket.{Bracket}
use Rattle.gp_lex.specs.declared.context.Context.{Context}
use Rattle.gp_lex.specs.declared.context.Margin.{Margin}
use Rattle.gp_lex.specs.declared.context.PieceKind.{PieceKind}
use Rattle.gp_lex.specs.Chars.{Text, line_feeds}
use Rattle.gp_lex.specs.Pieces as g
use Rattle.gp_lex.specs.Pieces.{Piece, at_start, behind, indent_of, with_space, with_tab, new_margin, IsPiece}
use Rattle.gp_lex.specs.Lines.{begun_behind, ended_by, lines_from}
use Rattle.gp_lex.specs.code.Reading.{◌>>=◌, Fails, Gives, piece_at, at_end, front, pieces_from, with_lines, lines_of}
use Rattle.gp_lex.proofs.Exact.{piece_reads}
use Rattle.gp_lex.proofs.Whole.{turn, turn_fails, nothing_left, reads_front, reads_less}

abbrev pub Total : Type 0
Total = Result (List LogicalLine) LexFault

-- ---- sizes

feeds_bound : (cs : Text) → line_feeds cs ≤ length cs
feeds_bound cs = count_by-le-length (λ c. c == 10) cs

space_bound : (m : Option Margin) → indent_of (with_space m) ≤ indent_of m + 1
space_bound None = omega arith
space_bound (Some m) = omega arith

tab_bound : (m : Option Margin) → indent_of (with_tab m) ≤ indent_of m
tab_bound None = omega arith
tab_bound (Some m) = omega arith

end_bound : (bs : List Bracket) (m : Option Margin) → indent_of (new_margin bs m) ≤ indent_of m
end_bound [] m = omega arith
end_bound (b ∷ bs) m = omega arith

-- a piece counts at most its characters
record Small (at : Context) (a : Text) (kind : PieceKind) : Type 0 where
  line : (behind at a kind).line ≤ at.line + length a
  indent : indent_of (behind at a kind).margin ≤ indent_of at.margin + length a

small : (at : Context) {a : Text} {kind : PieceKind} {rest : Text} → IsPiece at a kind rest → Small at a kind
small at (g.space rest) = record { line = omega arith; indent = space_bound at.margin }
small at (g.tab rest) = record { line = omega arith; indent = omega (arith, tab_bound at.margin) }
small at (g.comment body rest e) = record { line = omega arith; indent = omega arith }
small at (g.line_feed rest) = record { line = omega arith; indent = omega (arith, end_bound at.brackets at.margin) }
small at (g.return_and_line_feed rest) = record { line = omega arith; indent = omega (arith, end_bound at.brackets at.margin) }
small at (g.token a rest l x clean h tok fit) = record { line = omega (arith, feeds_bound a); indent = omega arith }

-- ---- turns

regroup : (found : List LogicalLine) (at : Context) (begun : Option LogicalLine) (a : Text) (kind : PieceKind) (read : Result (List Piece) LexFault)
    → with_lines found at begun (read >>= λ ps. Ok (record { text = a; kind = kind } ∷ ps)) ≡ with_lines (found ++ ended_by at begun kind) (behind at a kind) (begun_behind at begun kind) read
regroup found at begun a kind (Ok ps) = ap (λ (ls : List LogicalLine). Ok ls) (sym (append_assoc found (ended_by at begun kind) (lines_from (behind at a kind) (begun_behind at begun kind) ps)))
regroup found at begun a kind (Err f) = refl

pub less : (at : Context) (rest next : Text) (kind : PieceKind) → piece_at at rest ≡ Ok (kind, next) → length next ≤ length rest
less at rest next kind e = omega (arith, reads_less at rest (kind, next) (piece_reads at rest (kind, next) e))

-- what the loop keeps: so many turns are done, and the lines of the whole are those found before those that come
pub record Kept (size : ℕ) (total : Total) (turns done : ℕ) (found : List LogicalLine) (at : Context) (begun : Option LogicalLine) (rest : Text) : Type 0 where
  pub line : at.line + length rest ≤ size + 1
  pub indent : indent_of at.margin + length rest ≤ size
  pub so_far : total ≡ with_lines found at begun (pieces_from (turns - done) at rest)

-- one piece more
pub goes_on : (size : ℕ) (total : Total) (turns done : ℕ) (found : List LogicalLine) (at : Context) (begun : Option LogicalLine) (rest next : Text) (kind : PieceKind)
    (found' : List LogicalLine) (at' : Context) (begun' : Option LogicalLine) → done < turns → 0 < length rest → piece_at at rest ≡ Ok (kind, next)
    → at' ≡ behind at (front rest next) kind → begun' ≡ begun_behind at begun kind → found' ≡ found ++ ended_by at begun kind
    → Kept size total turns done found at begun rest → Kept size total turns (done + 1) found' at' begun' next
goes_on size total turns done found at begun rest next kind found' at' begun' lt some e at_is begun_is found_is kept =
    let left : turns - done ≡ suc (turns - (done + 1)) = omega arith in
    let n = turns - (done + 1) in
    let r = piece_reads at rest (kind, next) e in
    let s = small at r.is in
    let text = reads_front at rest (kind, next) r in
    let size_is : length rest ≡ length r.text + length next = ap length r.parts ∙ length-append r.text next in
    let there = at_is ∙ ap (λ (z : Text). behind at z kind) text in
    let line_is : at'.line ≤ at.line + length r.text = omega (arith, s.line, ap (λ (z : Context). z.line) there) in
    let indent_is : indent_of at'.margin ≤ indent_of at.margin + length r.text = omega (arith, s.indent, ap (λ (z : Context). indent_of z.margin) there) in
    record {
      line = omega (arith, kept.line);
      indent = omega (arith, kept.indent);
      so_far = kept.so_far ∙ ap (λ (m : ℕ). with_lines found at begun (pieces_from m at rest)) left
          ∙ ap (with_lines found at begun) (turn n at rest (kind, next) some e)
          ∙ regroup found at begun (front rest next) kind (pieces_from n (behind at (front rest next) kind) next)
          ∙ ap (λ (z : Context). with_lines (found ++ ended_by at begun kind) z (begun_behind at begun kind) (pieces_from n z next)) (sym at_is)
          ∙ ap (λ (z : Option LogicalLine). with_lines (found ++ ended_by at begun kind) at' z (pieces_from n at' next)) (sym begun_is)
          ∙ ap (λ (z : List LogicalLine). with_lines z at' begun' (pieces_from n at' next)) (sym found_is);
    }

abbrev pub refused : LexFault → Total
refused f = Err f

refuses_all : (f : LexFault) (n : ℕ) (found : List LogicalLine) (at : Context) (begun : Option LogicalLine) (rest : Text) → 0 < length rest → piece_at at rest ≡ Err f → with_lines found at begun (pieces_from (suc n) at rest) ≡ Err f
refuses_all f n found at begun rest some e = ap (with_lines found at begun) (turn_fails n at rest f some e)

stops : (size : ℕ) (f : LexFault) (total : Total) (turns done : ℕ) (found : List LogicalLine) (at : Context) (begun : Option LogicalLine) (rest : Text) → done < turns → 0 < length rest → piece_at at rest ≡ Err f
    → Kept size total turns done found at begun rest → total ≡ Err f
stops size f total turns done found at begun rest lt some e kept =
    let left : turns - done ≡ suc (turns - (done + 1)) = omega arith in
    kept.so_far ∙ ap (λ (m : ℕ). with_lines found at begun (pieces_from m at rest)) left ∙ refuses_all f (turns - (done + 1)) found at begun rest some e

-- the loop at a fault
pub fails : (size : ℕ) (f : LexFault) (total : Total) (turns done : ℕ) (found : List LogicalLine) (at : Context) (begun : Option LogicalLine) (rest : Text) → done < turns → 0 < length rest → Fails f (piece_at at rest)
    → Kept size total turns done found at begun rest → Fails f total
fails size fault.Memory total turns done found at begun rest lt some e kept = tt
fails size (fault.NotUtf8 n) total turns done found at begun rest lt some e kept = stops size (fault.NotUtf8 n) total turns done found at begun rest lt some e kept
fails size (fault.TabIndent n) total turns done found at begun rest lt some e kept = stops size (fault.TabIndent n) total turns done found at begun rest lt some e kept
fails size (fault.BadChar n) total turns done found at begun rest lt some e kept = stops size (fault.BadChar n) total turns done found at begun rest lt some e kept
fails size (fault.Unclosed n) total turns done found at begun rest lt some e kept = stops size (fault.Unclosed n) total turns done found at begun rest lt some e kept
fails size (fault.BadNumber n) total turns done found at begun rest lt some e kept = stops size (fault.BadNumber n) total turns done found at begun rest lt some e kept
fails size (fault.NotNfkc n) total turns done found at begun rest lt some e kept = stops size (fault.NotNfkc n) total turns done found at begun rest lt some e kept

-- the loop where nothing is left
pub over : (size : ℕ) (total r : Total) (turns done : ℕ) (found : List LogicalLine) (at : Context) (begun : Option LogicalLine) (rest : Text) → length rest ≡ 0
    → Gives (λ ls. ls) r (with_lines found at begun (at_end at.brackets)) → Kept size total turns done found at begun rest → Gives (λ ls. ls) r total
over size total r turns done found at begun [] none given kept =
    subst (λ (z : Total). Gives (λ ls. ls) r z) (sym (kept.so_far ∙ ap (with_lines found at begun) (nothing_left (turns - done) at))) given
over size total r turns done found at begun (c ∷ cs) none given kept = absurd (omega arith)

no_turns : (at : Context) (rest : Text) → pieces_from 0 at rest ≡ at_end at.brackets
unfolding pieces_from
no_turns at rest = refl

-- the loop after its last turn
pub done_all : (size : ℕ) (total r : Total) (turns done : ℕ) (found : List LogicalLine) (at : Context) (begun : Option LogicalLine) (rest : Text) → turns ≤ done
    → Gives (λ ls. ls) r (with_lines found at begun (at_end at.brackets)) → Kept size total turns done found at begun rest → Gives (λ ls. ls) r total
done_all size total r turns done found at begun rest le given kept =
    let none : turns - done ≡ 0 = omega arith in
    subst (λ (z : Total). Gives (λ ls. ls) r z)
    (sym (kept.so_far ∙ ap (λ (m : ℕ). with_lines found at begun (pieces_from m at rest)) none ∙ ap (with_lines found at begun) (no_turns at rest))) given

pub is_some : (cs : Text) → eqb (length cs) 0 ≡ false → 0 < length cs
is_some [] h = absurd cc
is_some (c ∷ cs) h = omega arith

pub start : (cs : Text) → Kept (length cs) (lines_of cs) (length cs) 0 [] at_start None cs
unfolding lines_of
start cs =
    let all : length cs ≡ length cs - 0 = omega arith in
    record { line = omega arith; indent = omega arith; so_far = ap (λ (m : ℕ). with_lines [] at_start None (pieces_from m at_start cs)) all }
