-- Which pieces spell a text, and where it can't be read on.
use Rattle.std.specs.Prelude.{◌≡◌, ℕ, ◌+◌, ◌<◌, Bool, true, false, ◌&&◌, ◌||◌, not, ◌==◌, List, [], ◌∷◌, ◌++◌, length, Option, Some, None, Ok, Err, if◌then◌else◌}
use Rattle.gp_base.specs.declared.name.LineNo.{LineNo}
use Rattle.gp_base.specs.Stacks.{top_of, below_top}
use Rattle.gp_lex.specs.declared.fault.LexFault.{LexFault}
use Rattle.gp_lex.specs.declared.fault.LexFault.TheVariants.{TabIndent, BadChar, Unclosed}
use Rattle.gp_lex.specs.declared.token.Symbol.{Symbol}
use Rattle.gp_lex.specs.declared.token.Symbol.TheVariants.{LeftParen, RightParen, LeftBracket, RightBracket}
use Rattle.gp_lex.specs.declared.token.Token.{Token}
use Rattle.gp_lex.specs.declared.token.Token.TheVariants as t
use Rattle.gp_lex.specs.declared.context.Bracket.{Bracket}
use Rattle.gp_lex.specs.declared.context.Context.{Context}
use Rattle.gp_lex.specs.declared.context.Margin.{Margin}
use Rattle.gp_lex.specs.declared.context.PieceKind.{PieceKind}
use Rattle.gp_lex.specs.declared.context.PieceKind.TheVariants as k
use Rattle.gp_lex.specs.Chars.{Text, is_quote, is_plain, ends_line, first_passes, line_feeds, run}
use Rattle.gp_lex.specs.Tokens.{begins_twice, string_at, Lexeme, lexeme_of, token_of}

-- A piece of a text.
pub record Piece : Type 0 where
  pub text : Text
  pub kind : PieceKind

-- ---- what stands before a position

-- A `Context` is the physical line of a position, counted from 1, the brackets that are open there, innermost
-- first, and, where the logical line has no token yet, the blanks on the physical line before the position.

abbrev pub no_margin : Margin
no_margin = record { spaces = 0; tabbed = false }

abbrev pub at_start : Context
at_start = record { line = 1; brackets = []; margin = Some no_margin }

abbrev pub line_no : ℕ → LineNo
line_no n = record { 0 = n }

-- the number of spaces before the first token of a logical line
abbrev pub indent_of : Option Margin → ℕ
indent_of None = 0
indent_of (Some m) = m.spaces

-- the margin behind a line end, which parts logical lines unless a bracket is open
abbrev pub new_margin : List Bracket → Option Margin → Option Margin
new_margin [] margin = Some no_margin
new_margin (b ∷ bs) margin = margin

-- the open brackets behind a token, which closes one only where it matches
abbrev pub brackets_behind : ℕ → Token → List Bracket → List Bracket
brackets_behind line (t.Symbol LeftParen) open_ = record { symbol = LeftParen; line = line_no line } ∷ open_
brackets_behind line (t.Symbol LeftBracket) open_ = record { symbol = LeftBracket; line = line_no line } ∷ open_
brackets_behind line (t.Symbol RightParen) open_ = below_top open_
brackets_behind line (t.Symbol RightBracket) open_ = below_top open_
brackets_behind line x open_ = open_

-- one blank more
abbrev pub with_space : Option Margin → Option Margin
with_space None = None
with_space (Some m) = Some (record m { spaces = m.spaces + 1 })

abbrev pub with_tab : Option Margin → Option Margin
with_tab None = None
with_tab (Some m) = Some (record m { tabbed = true })

-- what stands before the position behind a piece
abbrev pub behind : Context → Text → PieceKind → Context
behind at a k.Space = record at { margin = with_space at.margin }
behind at a k.Tab = record at { margin = with_tab at.margin }
behind at a k.Comment = at
behind at a k.LineEnd = record at { line = at.line + 1; margin = new_margin at.brackets at.margin }
behind at a (k.Token x) = record { line = at.line + line_feeds a; brackets = brackets_behind at.line x at.brackets; margin = None }

-- a tab stands in the indentation of a logical line whose first token comes here
abbrev pub is_tabbed : Option Margin → Bool
is_tabbed None = false
is_tabbed (Some m) = m.tabbed

abbrev pub is_left_paren : Symbol → Bool
is_left_paren LeftParen = true
is_left_paren _ = false

abbrev pub is_left_bracket : Symbol → Bool
is_left_bracket LeftBracket = true
is_left_bracket _ = false

-- whether a bracket is open, and the innermost one passes
abbrev pub innermost_passes : (Symbol → Bool) → Option Bracket → Bool
innermost_passes passes None = false
innermost_passes passes (Some b) = passes b.symbol

-- whether a token may stand behind these open brackets: a closing bracket matches the innermost one
abbrev pub fits : Token → List Bracket → Bool
fits (t.Symbol RightParen) open_ = innermost_passes is_left_paren (top_of open_)
fits (t.Symbol RightBracket) open_ = innermost_passes is_left_bracket (top_of open_)
fits _ open_ = true

-- ---- pieces

-- two quotes are no string where the same quote stands behind them
abbrev pub splits_quotes : Text → Text → Bool
splits_quotes (c ∷ d ∷ []) (e ∷ rest) = is_quote c && c == d && c == e
splits_quotes _ _ = false

-- a lexeme at the front, the longest that can stand there
pub record IsAt (a rest : Text) (x : Lexeme) : Type 0 where
  pub spells : lexeme_of a ≡ Some x
  pub longest : (b more : Text) → a ++ rest ≡ b ++ more → length a < length b → lexeme_of b ≡ None
  pub whole : splits_quotes a rest ≡ false

-- how many characters stand before the line end, or before the end of the text
abbrev pub comment_len : Text → ℕ
comment_len [] = 0
comment_len (c ∷ cs) = if ends_line (c ∷ cs) then 0 else comment_len cs + 1

-- whether a blank, a comment or a line end begins the text
abbrev pub is_gap : Text → Bool
is_gap [] = false
is_gap (c ∷ cs) = c == 32 || c == 9 || c == 35 || ends_line (c ∷ cs)

-- what piece stands at a position, and what behind it
pub data IsPiece (at : Context) : Text → PieceKind → Text → Type 0 where
  space : (rest : Text) → IsPiece at (32 ∷ []) k.Space rest
  tab : (rest : Text) → IsPiece at (9 ∷ []) k.Tab rest
  comment : (body rest : Text) → comment_len (body ++ rest) ≡ length body → IsPiece at (35 ∷ body) k.Comment rest
  line_feed : (rest : Text) → IsPiece at (10 ∷ []) k.LineEnd rest
  return_and_line_feed : (rest : Text) → IsPiece at (13 ∷ 10 ∷ []) k.LineEnd rest
  token : (a rest : Text) (l : Lexeme) (x : Token) → is_tabbed at.margin ≡ false → IsAt a rest l → token_of (line_no at.line) l rest ≡ Ok x
      → fits x at.brackets ≡ true → IsPiece at a (k.Token x) rest

-- These pieces spell the text behind a position: their texts join to it, and no bracket stays open.
pub data Spelled : Context → Text → List Piece → Type 0 where
  ended : (at : Context) → at.brackets ≡ [] → Spelled at [] []
  piece : (at : Context) (a : Text) (kind : PieceKind) (rest : Text) (ps : List Piece) → IsPiece at a kind rest → Spelled (behind at a kind) rest ps
      → Spelled at (a ++ rest) (record { text = a; kind = kind } ∷ ps)

-- ---- faults

-- a string of one line has a backslash before its closing quote
abbrev pub has_backslash : ℕ → Text → Bool
has_backslash quote cs = not (begins_twice quote cs) && first_passes (λ c. c == 92) (run (is_plain quote) cs).1

-- Nothing can be read at a position, and why.
pub data Unread (at : Context) : Text → LexFault → Type 0 where
  -- a tab before the first token of a logical line comes before every other fault
  tab_indent : (c : ℕ) (cs : Text) → is_gap (c ∷ cs) ≡ false → is_tabbed at.margin ≡ true → Unread at (c ∷ cs) (TabIndent (line_no at.line))
  -- the lexeme is no token
  no_token : (a rest : Text) (l : Lexeme) (f : LexFault) → is_tabbed at.margin ≡ false → IsAt a rest l → token_of (line_no at.line) l rest ≡ Err f
      → Unread at (a ++ rest) f
  -- a closing bracket that doesn't match
  unmatched : (a rest : Text) (l : Lexeme) (x : Token) → is_tabbed at.margin ≡ false → IsAt a rest l → token_of (line_no at.line) l rest ≡ Ok x
      → fits x at.brackets ≡ false → Unread at (a ++ rest) (BadChar (line_no at.line))
  -- no lexeme
  bad_char : (c : ℕ) (cs : Text) → is_gap (c ∷ cs) ≡ false → is_tabbed at.margin ≡ false → is_quote c ≡ false
      → ((a rest : Text) → c ∷ cs ≡ a ++ rest → lexeme_of a ≡ None) → Unread at (c ∷ cs) (BadChar (line_no at.line))
  -- a string that isn't triple-quoted has a backslash before its closing quote and on its line
  backslash : (q : ℕ) (cs : Text) → is_tabbed at.margin ≡ false → is_quote q ≡ true → string_at q cs ≡ None → has_backslash q cs ≡ true
      → Unread at (q ∷ cs) (BadChar (line_no at.line))
  -- a string without its end
  unclosed : (q : ℕ) (cs : Text) → is_tabbed at.margin ≡ false → is_quote q ≡ true → string_at q cs ≡ None → has_backslash q cs ≡ false
      → Unread at (q ∷ cs) (Unclosed (line_no at.line))

-- The first fault behind a position: pieces up to a position at which nothing can be read, or a bracket that is
-- open at the end of the text, the innermost one.
pub data Faulty : Context → Text → LexFault → Type 0 where
  here : (at : Context) (rest : Text) (f : LexFault) → Unread at rest f → Faulty at rest f
  bracket : (at : Context) (b : Bracket) (bs : List Bracket) → at.brackets ≡ b ∷ bs → Faulty at [] (Unclosed b.line)
  later : (at : Context) (a : Text) (kind : PieceKind) (rest : Text) (f : LexFault) → IsPiece at a kind rest → Faulty (behind at a kind) rest f → Faulty at (a ++ rest) f
