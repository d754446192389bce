-- Pieces from left to right: what the functions of the crate read at the front of a text.
use Rattle.std.specs.Prelude.{◌≡◌, ◌-◌, ℕ, zero, suc, ◌==◌, ◌&&◌, List, [], ◌∷◌, ◌++◌, length, take, drop, Option, Some, None, Result, Ok, Err, if◌then◌else◌}
use Rattle.gp_base.specs.declared.name.LineNo.{LineNo}
use Rattle.gp_lex.specs.declared.fault.LexFault.{LexFault}
use Rattle.gp_lex.specs.declared.fault.LexFault.TheVariants as fault
use Rattle.gp_lex.specs.declared.line.LogicalLine.{LogicalLine}
use Rattle.gp_lex.specs.declared.token.Symbol.{Symbol}
use Rattle.gp_lex.specs.declared.token.Token.{Token}
use Rattle.gp_lex.specs.declared.context.Bracket.{Bracket}
use Rattle.gp_lex.specs.declared.context.Context.{Context}
use Rattle.gp_lex.specs.declared.context.PieceKind.{PieceKind}
use Rattle.gp_lex.specs.declared.context.PieceKind.TheVariants as k
use Rattle.gp_lex.specs.Chars.{Text, starts_name, continues_name, is_digit, is_quote, run}
use Rattle.gp_lex.specs.Tokens.{symbol_of_one, symbol_of_two, symbol_of_three, string_at, Lexeme, word, digits, quoted, sign, token_of}
use Rattle.gp_lex.specs.Pieces.{Piece, at_start, line_no, behind, is_tabbed, fits, comment_len, has_backslash}
use Rattle.gp_lex.specs.Lines.{lines_from}

infixl 10 ◌>>=◌
abbrev pub ◌>>=◌ : {A B : Type 0} → Result A LexFault → (A → Result B LexFault) → Result B LexFault
(Ok x) >>= f = f x
(Err e) >>= f = Err e

-- what a function returned, seen by view, is what reading gives, unless memory ran out
abbrev pub Fails : {Y : Type 0} → LexFault → Result Y LexFault → Type 0
Fails fault.Memory read = Unit {0}
Fails f read = read ≡ Err f

abbrev pub Gives : {X Y : Type 0} → (X → Y) → Result X LexFault → Result Y LexFault → Type 0
Gives view (Ok x) read = read ≡ Ok (view x)
Gives view (Err e) read = Fails e read

-- the same of a function that takes no memory
abbrev pub Finds : {X Y : Type 0} → (X → Y) → Option X → Option Y → Type 0
Finds view (Some x) read = read ≡ Some (view x)
Finds view None read = read ≡ None

-- ---- symbols

abbrev pub or_else : {A : Type 0} → Option A → Option A → Option A
or_else (Some x) other = Some x
or_else None other = other

abbrev pub with_rest : Text → Option Symbol → Option (Symbol × Text)
with_rest rest (Some x) = Some (x, rest)
with_rest rest None = None

-- the longest symbol at the front, and the text behind it
unfoldable pub symbol_at : Text → Option (Symbol × Text)
symbol_at [] = None
symbol_at (b ∷ []) = with_rest [] (symbol_of_one b)
symbol_at (b ∷ c ∷ []) = or_else (with_rest [] (symbol_of_two b c)) (with_rest (c ∷ []) (symbol_of_one b))
symbol_at (b ∷ c ∷ d ∷ bs) =
    or_else (with_rest bs (symbol_of_three b c d)) (or_else (with_rest (d ∷ bs) (symbol_of_two b c)) (with_rest (c ∷ d ∷ bs) (symbol_of_one b)))

-- ---- lexemes

abbrev pub as_sign : Option (Symbol × Text) → Option (Lexeme × Text)
as_sign (Some x) = Some (sign x.0, x.1)
as_sign None = None

abbrev pub as_quoted : Option (Text × Text) → Option (Lexeme × Text)
as_quoted (Some x) = Some (quoted x.0, x.1)
as_quoted None = None

-- the longest lexeme at the front, and the text behind it
unfoldable pub lexeme_at : Text → Option (Lexeme × Text)
lexeme_at [] = None
lexeme_at (c ∷ cs) =
    if starts_name c then Some (word (run continues_name (c ∷ cs)).0, (run continues_name (c ∷ cs)).1)
    else (if is_digit c then Some (digits (run is_digit (c ∷ cs)).0, (run is_digit (c ∷ cs)).1)
    else (if is_quote c then as_quoted (string_at c cs) else as_sign (symbol_at (c ∷ cs))))

-- ---- pieces

-- a piece, and the text behind it
abbrev pub Next : Type 0
Next = PieceKind × Text

unfoldable pub line_end_at : Text → Option Next
line_end_at [] = None
line_end_at (c ∷ []) = if c == 10 then Some (k.LineEnd, []) else None
line_end_at (c ∷ d ∷ cs) = if c == 10 then Some (k.LineEnd, d ∷ cs) else (if c == 13 && d == 10 then Some (k.LineEnd, cs) else None)

-- the blank, comment or line end at the front
unfoldable pub gap_at : Text → Option Next
gap_at [] = None
gap_at (c ∷ cs) =
    if c == 32 then Some (k.Space, cs)
    else (if c == 9 then Some (k.Tab, cs)
    else (if c == 35 then Some (k.Comment, drop (comment_len cs) cs) else line_end_at (c ∷ cs)))

-- the token that was read, where it may stand behind the open brackets
abbrev pub fitted : Context → Token → Text → Result Next LexFault
fitted at x rest = if fits x at.brackets then Ok (k.Token x, rest) else Err (fault.BadChar (line_no at.line))

-- the token of a lexeme, and the text behind it
abbrev pub read_as : LineNo → Lexeme → Text → Result (Token × Text) LexFault
read_as line l rest = token_of line l rest >>= λ x. Ok (x, rest)

-- the word and the number at the front
abbrev pub word_read : LineNo → Text → Result (Token × Text) LexFault
word_read line cs = read_as line (word (run continues_name cs).0) (run continues_name cs).1

abbrev pub number_read : LineNo → Text → Result (Token × Text) LexFault
number_read line cs = read_as line (digits (run is_digit cs).0) (run is_digit cs).1

-- the string that begins with this quote, as it was found behind the quote
abbrev pub read_string : LineNo → ℕ → Text → Option (Text × Text) → Result (Token × Text) LexFault
read_string line quote cs None = if has_backslash quote cs then Err (fault.BadChar line) else Err (fault.Unclosed line)
read_string line quote cs (Some x) = read_as line (quoted x.0) x.1

abbrev pub read_sign : LineNo → Option (Symbol × Text) → Result (Token × Text) LexFault
read_sign line None = Err (fault.BadChar line)
read_sign line (Some x) = read_as line (sign x.0) x.1

-- the token at the front, and the text behind it
unfoldable pub read_token : LineNo → Text → Result (Token × Text) LexFault
read_token line [] = Err (fault.BadChar line)
read_token line (c ∷ cs) =
    if starts_name c then word_read line (c ∷ cs)
    else (if is_digit c then number_read line (c ∷ cs)
    else (if is_quote c then read_string line c cs (string_at c cs) else read_sign line (symbol_at (c ∷ cs))))

unfoldable pub token_piece : Context → Text → Result Next LexFault
token_piece at cs =
    if is_tabbed at.margin then Err (fault.TabIndent (line_no at.line)) else (read_token (line_no at.line) cs >>= λ x. fitted at x.0 x.1)

abbrev pub gap_or : Option Next → Result Next LexFault → Result Next LexFault
gap_or (Some x) other = Ok x
gap_or None other = other

-- the piece at the front
unfoldable pub piece_at : Context → Text → Result Next LexFault
piece_at at cs = gap_or (gap_at cs) (token_piece at cs)

-- ---- all pieces

abbrev pub at_end : List Bracket → Result (List Piece) LexFault
at_end [] = Ok []
at_end (b ∷ bs) = Err (fault.Unclosed b.line)

-- the characters before this rest of a text
abbrev pub front : Text → Text → Text
front cs rest = take (length cs - length rest) cs

-- at most so many pieces
unfoldable pub pieces_from : ℕ → Context → Text → Result (List Piece) LexFault
pieces_from zero at cs = at_end at.brackets
pieces_from (suc n) at [] = at_end at.brackets
pieces_from (suc n) at (c ∷ cs) =
    piece_at at (c ∷ cs) >>= λ x. pieces_from n (behind at (front (c ∷ cs) x.1) x.0) x.1
    >>= λ ps. Ok (record { text = front (c ∷ cs) x.1; kind = x.0 } ∷ ps)

-- the lines of the pieces that come, behind those that were found
abbrev pub with_lines : List LogicalLine → Context → Option LogicalLine → Result (List Piece) LexFault → Result (List LogicalLine) LexFault
with_lines found at begun read = read >>= λ ps. Ok (found ++ lines_from at begun ps)

unfoldable pub lines_of : Text → Result (List LogicalLine) LexFault
lines_of cs = with_lines [] at_start None (pieces_from (length cs) at_start cs)
