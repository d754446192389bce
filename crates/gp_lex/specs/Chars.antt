-- Classes of characters. A character is its code point, and a text is a list of characters.
use Rattle.std.specs.Prelude.{ℕ, Bool, true, false, ◌&&◌, ◌||◌, not, ◌==◌, nat_le, List, [], ◌∷◌, take, drop, count_by, if◌then◌else◌}
use Rattle.std.specs.List.{prefix_len}
use Rattle.unicode_ident.specs.Ident.{is_xid_start, is_xid_continue}

abbrev pub Text : Type 0
Text = List ℕ

-- whether a name may begin with the character: `_`, or one with the Unicode property XID_Start
abbrev pub starts_name : ℕ → Bool
starts_name c = is_xid_start c || c == 95

-- whether a name may go on with the character: one with the Unicode property XID_Continue, as `_` and digits
abbrev pub continues_name : ℕ → Bool
continues_name c = is_xid_continue c

abbrev pub is_digit : ℕ → Bool
is_digit c = nat_le 48 c && nat_le c 57

-- `"` and `'`
abbrev pub is_quote : ℕ → Bool
is_quote c = c == 34 || c == 39

-- whether the character may stand in a string of one line that begins with this quote: not the quote, a
-- backslash or a line feed
abbrev pub is_plain : ℕ → ℕ → Bool
is_plain quote c = not (c == quote || c == 92 || c == 10)

-- whether a line ends at the front: a line feed, or a carriage return directly followed by one
abbrev pub ends_line : Text → Bool
ends_line [] = false
ends_line (c ∷ []) = c == 10
ends_line (c ∷ d ∷ cs) = c == 10 || (c == 13 && d == 10)

-- whether every character passes
abbrev pub every : (ℕ → Bool) → Text → Bool
every passes [] = true
every passes (c ∷ cs) = if passes c then every passes cs else false

-- whether there is a first character, and it passes
abbrev pub first_passes : (ℕ → Bool) → Text → Bool
first_passes passes [] = false
first_passes passes (c ∷ cs) = passes c

-- the characters from the front on that pass, and those behind them
unfoldable pub run : (ℕ → Bool) → Text → Text × Text
run passes cs = (take (prefix_len passes cs) cs, drop (prefix_len passes cs) cs)

abbrev pub line_feeds : Text → ℕ
line_feeds cs = count_by (λ c. c == 10) cs
