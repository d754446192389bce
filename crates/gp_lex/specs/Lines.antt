-- The logical lines of a text, and its first fault.
use Rattle.std.specs.Prelude.{◌≡◌, ◌⊎◌, ℕ, ◌+◌, ◌==◌, List, [], ◌∷◌, ◌++◌, take, flat_map, chars, Option, Some, None, Result, Ok, Err, IsUtf8, if◌then◌else◌}
use Rattle.std.specs.Str.Lossy.{utf8_valid_len}
use Rattle.gp_base.specs.declared.name.LineNo.{LineNo}
use Rattle.gp_lex.specs.declared.fault.LexFault.{LexFault}
use Rattle.gp_lex.specs.declared.fault.LexFault.TheVariants as fault
use Rattle.gp_lex.specs.declared.line.LogicalLine.{LogicalLine}
use Rattle.gp_lex.specs.declared.token.Token.{Token}
use Rattle.gp_lex.specs.declared.context.Bracket.{Bracket}
use Rattle.gp_lex.specs.declared.context.Context.{Context}
use Rattle.gp_lex.specs.declared.context.PieceKind.{PieceKind}
use Rattle.gp_lex.specs.declared.context.PieceKind.TheVariants as k
use Rattle.gp_lex.specs.Chars.{Text, line_feeds}
use Rattle.gp_lex.specs.Pieces.{Piece, at_start, line_no, indent_of, behind, Spelled, Faulty}

-- ---- logical lines

-- the logical line that has begun, with one token more; a first token gives it its number and its indentation
abbrev pub with_token : LineNo → ℕ → Option LogicalLine → Token → LogicalLine
with_token number indent None x = record { number = number; indent = indent; tokens = x ∷ [] }
with_token number indent (Some line) x = record line { tokens = line.tokens ++ x ∷ [] }

-- a line that has no token is none
abbrev pub finished : Option LogicalLine → List LogicalLine
finished None = []
finished (Some line) = line ∷ []

-- A line end parts logical lines where no bracket is open.
abbrev pub begun_behind_end : List Bracket → Option LogicalLine → Option LogicalLine
begun_behind_end [] begun = None
begun_behind_end (b ∷ bs) begun = begun

abbrev pub ended_by_end : List Bracket → Option LogicalLine → List LogicalLine
ended_by_end [] begun = finished begun
ended_by_end (b ∷ bs) begun = []

-- the line that goes on behind a piece, and the lines that end with it
abbrev pub begun_behind : Context → Option LogicalLine → PieceKind → Option LogicalLine
begun_behind at begun (k.Token x) = Some (with_token (line_no at.line) (indent_of at.margin) begun x)
begun_behind at begun k.LineEnd = begun_behind_end at.brackets begun
begun_behind at begun _ = begun

abbrev pub ended_by : Context → Option LogicalLine → PieceKind → List LogicalLine
ended_by at begun k.LineEnd = ended_by_end at.brackets begun
ended_by at begun _ = []

-- the logical lines of pieces, behind a line that has begun
abbrev pub lines_from : Context → Option LogicalLine → List Piece → List LogicalLine
lines_from at begun [] = finished begun
lines_from at begun (p ∷ ps) = ended_by at begun p.kind ++ lines_from (behind at p.text p.kind) (begun_behind at begun p.kind) ps

-- ---- texts

-- without the byte order mark at the start
abbrev pub without_mark : Text → Text
without_mark [] = []
without_mark (c ∷ cs) = if c == 0xFEFF then cs else c ∷ cs

-- the characters of a source text
abbrev pub source : List ℕ → Text
source bytes = without_mark (chars bytes)

-- These are the logical lines of the bytes.
pub record HasLines (bytes : List ℕ) (lines : List LogicalLine) : Type 0 where
  pub is_text : IsUtf8 bytes
  pub pieces : List Piece
  pub spelled : Spelled at_start (source bytes) pieces
  pub parted : lines_from at_start None pieces ≡ lines

-- This is the first fault of the bytes.
pub data HasFault (bytes : List ℕ) : LexFault → Type 0 where
  not_utf8 : (IsUtf8 bytes → ⊥) → HasFault bytes (fault.NotUtf8 (line_no (line_feeds (take (utf8_valid_len bytes) bytes) + 1)))
  in_text : (f : LexFault) → IsUtf8 bytes → Faulty at_start (source bytes) f → HasFault bytes f

-- the lines of the bytes, or their first fault, unless memory ran out
abbrev pub IsLexed : List ℕ → Result (List LogicalLine) LexFault → Type 0
IsLexed bytes (Ok lines) = HasLines bytes lines
IsLexed bytes (Err fault.Memory) = Unit {0}
IsLexed bytes (Err f) = HasFault bytes f

-- ---- laws

-- bytes have at most one list of pieces, and the pieces' texts join to them
pub record PiecesAreOne : Type 0 where
  pub one : (text : Text) (ps qs : List Piece) → Spelled at_start text ps → Spelled at_start text qs → ps ≡ qs
  pub joined : (text : Text) (ps : List Piece) → Spelled at_start text ps → flat_map (λ p. p.text) ps ≡ text

-- bytes have one list of lines or one fault, and never both
pub record LinesOrFault : Type 0 where
  pub one_list : (bytes : List ℕ) (ls ms : List LogicalLine) → HasLines bytes ls → HasLines bytes ms → ls ≡ ms
  pub one_fault : (bytes : List ℕ) (f g : LexFault) → HasFault bytes f → HasFault bytes g → f ≡ g
  pub never_both : (bytes : List ℕ) (ls : List LogicalLine) (f : LexFault) → HasLines bytes ls → HasFault bytes f → ⊥
  pub always_one : (bytes : List ℕ) → ((ls : List LogicalLine) × HasLines bytes ls) ⊎ ((f : LexFault) × HasFault bytes f)
