-- The bounds on a line's size.
use Rattle.std.specs.Prelude.{◌≡◌, ◌+◌, ◌<◌, Bool, true, false, List, ◌++◌, length, count_by, ◌⊎◌}
use Rattle.gp_lex.specs.declared.token.Token.{Token}
use Rattle.gp_lex.specs.declared.token.Token.TheVariants as t
use Rattle.gp_lex.specs.declared.token.Symbol.TheVariants as s

abbrev pub is_opening : Token → Bool
is_opening (t.Symbol s.LeftParen) = true
is_opening (t.Symbol s.LeftBracket) = true
is_opening _ = false

abbrev pub is_closing : Token → Bool
is_closing (t.Symbol s.RightParen) = true
is_closing (t.Symbol s.RightBracket) = true
is_closing _ = false

-- behind some front of the tokens more than 50 brackets are open: so many more were opened than closed
abbrev pub OpensTooMany : List Token → Type 0
OpensTooMany ts = (front : List Token) × (rest : List Token) × (ts ≡ front ++ rest) × (count_by is_closing front + 50 < count_by is_opening front)

-- more than 600 tokens, or more than 50 brackets open at once
abbrev pub IsTooBig : List Token → Type 0
IsTooBig ts = (600 < length ts) ⊎ OpensTooMany ts
