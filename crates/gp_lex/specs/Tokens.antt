-- Which texts are tokens.
use Rattle.std.specs.Prelude.{ℕ, ◌+◌, ◌-◌, ◌*◌, ◌^◌, pos, Bool, false, ◌&&◌, ◌||◌, not, ◌==◌, nat_lt, List, [], ◌∷◌, drop, take, codes, bytes_eq, encode_utf8_all, Option, Some, None, option_map, Result, Ok, Err, if◌then◌else◌}
use Rattle.std.specs.List.{list_all}
use Rattle.unicode_normalization.specs.Forms.{Nfkc, is_in_form}
use Rattle.gp_base.specs.declared.name.LineNo.{LineNo}
use Rattle.gp_lex.specs.declared.fault.LexFault.{LexFault}
use Rattle.gp_lex.specs.declared.fault.LexFault.TheVariants.{BadNumber, NotNfkc}
use Rattle.gp_lex.specs.declared.token.Keyword.{Keyword}
use Rattle.gp_lex.specs.declared.token.Keyword.TheVariants.{FalseWord, NoneWord, TrueWord, AndWord, AsWord, AssertWord, AsyncWord, AwaitWord, BreakWord, ClassWord, ContinueWord, DefWord, DelWord, ElifWord, ElseWord, ExceptWord, FinallyWord, ForWord, FromWord, GlobalWord, IfWord, ImportWord, InWord, IsWord, LambdaWord, NonlocalWord, NotWord, OrWord, PassWord, RaiseWord, ReturnWord, TryWord, WhileWord, WithWord, YieldWord}
use Rattle.gp_lex.specs.declared.token.Symbol.{Symbol}
use Rattle.gp_lex.specs.declared.token.Symbol.TheVariants.{LeftParen, RightParen, LeftBracket, RightBracket, Comma, Colon, Dot, At, Assign, Less, Greater, Plus, Minus, Star, Percent, Arrow, Equal, NotEqual, LessEqual, GreaterEqual, FloorDiv, PlusAssign, MinusAssign, StarAssign, PercentAssign, FloorDivAssign}
use Rattle.gp_lex.specs.declared.token.Token.{Token}
use Rattle.gp_lex.specs.declared.token.Token.TheVariants as t
use Rattle.gp_lex.specs.Chars.{Text, starts_name, continues_name, is_digit, is_quote, is_plain, every, first_passes, run}

-- ---- symbols

abbrev pub symbol_of_one : ℕ → Option Symbol
symbol_of_one b =
    if b == 40 then Some LeftParen else
    (if b == 41 then Some RightParen else
    (if b == 91 then Some LeftBracket else
    (if b == 93 then Some RightBracket else
    (if b == 44 then Some Comma else
    (if b == 58 then Some Colon else
    (if b == 46 then Some Dot else
    (if b == 64 then Some At else
    (if b == 61 then Some Assign else
    (if b == 60 then Some Less else
    (if b == 62 then Some Greater else
    (if b == 43 then Some Plus else
    (if b == 45 then Some Minus else
    (if b == 42 then Some Star else
    (if b == 37 then Some Percent else None))))))))))))))

abbrev pub symbol_of_two : ℕ → ℕ → Option Symbol
symbol_of_two b c =
    if b == 45 && c == 62 then Some Arrow else
    (if b == 61 && c == 61 then Some Equal else
    (if b == 33 && c == 61 then Some NotEqual else
    (if b == 60 && c == 61 then Some LessEqual else
    (if b == 62 && c == 61 then Some GreaterEqual else
    (if b == 47 && c == 47 then Some FloorDiv else
    (if b == 43 && c == 61 then Some PlusAssign else
    (if b == 45 && c == 61 then Some MinusAssign else
    (if b == 42 && c == 61 then Some StarAssign else
    (if b == 37 && c == 61 then Some PercentAssign else None)))))))))

abbrev pub symbol_of_three : ℕ → ℕ → ℕ → Option Symbol
symbol_of_three b c d = if b == 47 && c == 47 && d == 61 then Some FloorDivAssign else None

-- the symbol that a text is
abbrev pub symbol_of : Text → Option Symbol
symbol_of [] = None
symbol_of (b ∷ []) = symbol_of_one b
symbol_of (b ∷ c ∷ []) = symbol_of_two b c
symbol_of (b ∷ c ∷ d ∷ []) = symbol_of_three b c d
symbol_of (b ∷ c ∷ d ∷ e ∷ cs) = None

-- ---- strings

-- whether the text begins with this character twice
abbrev pub begins_twice : ℕ → Text → Bool
begins_twice quote [] = false
begins_twice quote (c ∷ []) = false
begins_twice quote (c ∷ d ∷ cs) = c == quote && d == quote

-- whether it begins with it three times
abbrev pub begins_thrice : ℕ → Text → Bool
begins_thrice quote [] = false
begins_thrice quote (c ∷ cs) = c == quote && begins_twice quote cs

-- how many characters stand before the next three quotes of this kind, a backslash being passed over together
-- with the character behind it
unfoldable pub closing : ℕ → Text → Option ℕ
closing quote [] = None
closing quote (c ∷ []) = None
closing quote (c ∷ d ∷ cs) =
    if c == 92 then option_map (λ n. n + 2) (closing quote cs)
    else (if begins_thrice quote (c ∷ d ∷ cs) then Some 0 else option_map (λ n. n + 1) (closing quote (d ∷ cs)))

-- the characters before the three closing quotes, and those behind them
abbrev pub triple_quoted : Text → Option ℕ → Option (Text × Text)
triple_quoted cs None = None
triple_quoted cs (Some n) = Some (take n cs, drop (n + 3) cs)

-- the characters before the closing quote, and those behind it
abbrev pub single_quoted : ℕ → Text → Text → Option (Text × Text)
single_quoted quote body [] = None
single_quoted quote body (c ∷ rest) = if c == quote then Some (body, rest) else None

-- The string that begins with this quote, with what stands behind the quote: its characters between the quotes
-- as written, and those behind the whole string. Three equal quotes begin a triple-quoted string.
unfoldable pub string_at : ℕ → Text → Option (Text × Text)
string_at quote cs =
    if begins_twice quote cs then triple_quoted (drop 2 cs) (closing quote (drop 2 cs))
    else single_quoted quote (run (is_plain quote) cs).0 (run (is_plain quote) cs).1

-- ---- lexemes

-- What a text is before its value is looked at.
pub data Lexeme : Type 0 where
  word : Text → Lexeme
  digits : Text → Lexeme
  quoted : Text → Lexeme
  sign : Symbol → Lexeme

-- a string that ends with the text
abbrev pub as_string : Option (Text × Text) → Option Lexeme
as_string None = None
as_string (Some (body, [])) = Some (quoted body)
as_string (Some (body, c ∷ cs)) = None

-- the one lexeme that the whole text is
abbrev pub lexeme_of : Text → Option Lexeme
lexeme_of [] = None
lexeme_of (c ∷ cs) =
    if starts_name c then (if every continues_name cs then Some (word (c ∷ cs)) else None)
    else (if is_digit c then (if every is_digit cs then Some (digits (c ∷ cs)) else None)
    else (if is_quote c then as_string (string_at c cs) else option_map sign (symbol_of (c ∷ cs))))

-- ---- tokens

-- the keyword with these bytes
abbrev pub keyword_of : List ℕ → Option Keyword
keyword_of bytes =
    if bytes_eq bytes (codes "False") then Some FalseWord else
    (if bytes_eq bytes (codes "None") then Some NoneWord else
    (if bytes_eq bytes (codes "True") then Some TrueWord else
    (if bytes_eq bytes (codes "and") then Some AndWord else
    (if bytes_eq bytes (codes "as") then Some AsWord else
    (if bytes_eq bytes (codes "assert") then Some AssertWord else
    (if bytes_eq bytes (codes "async") then Some AsyncWord else
    (if bytes_eq bytes (codes "await") then Some AwaitWord else
    (if bytes_eq bytes (codes "break") then Some BreakWord else
    (if bytes_eq bytes (codes "class") then Some ClassWord else
    (if bytes_eq bytes (codes "continue") then Some ContinueWord else
    (if bytes_eq bytes (codes "def") then Some DefWord else
    (if bytes_eq bytes (codes "del") then Some DelWord else
    (if bytes_eq bytes (codes "elif") then Some ElifWord else
    (if bytes_eq bytes (codes "else") then Some ElseWord else
    (if bytes_eq bytes (codes "except") then Some ExceptWord else
    (if bytes_eq bytes (codes "finally") then Some FinallyWord else
    (if bytes_eq bytes (codes "for") then Some ForWord else
    (if bytes_eq bytes (codes "from") then Some FromWord else
    (if bytes_eq bytes (codes "global") then Some GlobalWord else
    (if bytes_eq bytes (codes "if") then Some IfWord else
    (if bytes_eq bytes (codes "import") then Some ImportWord else
    (if bytes_eq bytes (codes "in") then Some InWord else
    (if bytes_eq bytes (codes "is") then Some IsWord else
    (if bytes_eq bytes (codes "lambda") then Some LambdaWord else
    (if bytes_eq bytes (codes "nonlocal") then Some NonlocalWord else
    (if bytes_eq bytes (codes "not") then Some NotWord else
    (if bytes_eq bytes (codes "or") then Some OrWord else
    (if bytes_eq bytes (codes "pass") then Some PassWord else
    (if bytes_eq bytes (codes "raise") then Some RaiseWord else
    (if bytes_eq bytes (codes "return") then Some ReturnWord else
    (if bytes_eq bytes (codes "try") then Some TryWord else
    (if bytes_eq bytes (codes "while") then Some WhileWord else
    (if bytes_eq bytes (codes "with") then Some WithWord else
    (if bytes_eq bytes (codes "yield") then Some YieldWord else None))))))))))))))))))))))))))))))))))

-- the number with these digits behind a number
abbrev pub number_from : ℕ → Text → ℕ
number_from n [] = n
number_from n (c ∷ cs) = number_from (n * 10 + (c - 48)) cs

-- two or more digits with a zero before others
abbrev pub has_leading_zero : Text → Bool
has_leading_zero [] = false
has_leading_zero (c ∷ cs) = c == 48 && not (list_all (λ d. d == 48) cs)

-- whether the digits are no number of the language
abbrev pub is_bad_number : Text → Bool
is_bad_number cs = has_leading_zero cs || nat_lt (2 ^ 63 - 1) (number_from 0 cs)

-- a keyword, or a name that is its own NFKC form
abbrev pub word_token : LineNo → Text → Option Keyword → Result Token LexFault
word_token line cs (Some keyword) = Ok (t.Keyword keyword)
word_token line cs None = if is_in_form Nfkc cs then Ok (t.Name (encode_utf8_all cs)) else Err (NotNfkc line)

-- The token of a lexeme on this line, before what stands behind it; or why it is none.
abbrev pub token_of : LineNo → Lexeme → Text → Result Token LexFault
token_of line (word cs) rest = word_token line cs (keyword_of (encode_utf8_all cs))
token_of line (digits cs) rest =
    if is_bad_number cs || first_passes continues_name rest then Err (BadNumber line) else Ok (t.Number (pos (number_from 0 cs)))
token_of line (quoted body) rest = Ok (t.Text (encode_utf8_all body))
token_of line (sign symbol) rest = Ok (t.Symbol symbol)
