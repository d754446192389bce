-- Classes of characters, and what a text is by its first character.
use Rattle.std.proofs.Common.{◌≡◌, ℕ, Bool, true, false, cond, eqb, ◌||◌, [], ◌∷◌, Some, None, refl, ap, ◌∙◌, lit<, arith}
use Rattle.std.proofs.lemmas.Bool.{eqb-true}
use Rattle.std.proofs.lemmas.Bool.Decides.{nat_tests}
use Rattle.std.specs.Prelude.{option_map}
use Rattle.unicode_ident.specs.Ident.{is_xid_start, is_xid_continue}
use Rattle.unicode_ident.proofs.IdentLemmas.{is_xid_start-ascii, is_xid_continue-ascii, is_xid_start-is_xid_continue}
use Rattle.gp_lex.specs.Chars.{Text, starts_name, continues_name, is_digit, is_quote, every}
use Rattle.gp_lex.specs.Tokens.{symbol_of, string_at, word, digits, sign, as_string, lexeme_of}
use Rattle.gp_lex.specs.Pieces.{splits_quotes}
use Rattle.gp_lex.proofs.Fronts.{yes, no, chosen}

-- ---- names

pub starts_continues : (c : ℕ) → starts_name c ≡ true → continues_name c ≡ true
starts_continues c h =
    elim (chosen (is_xid_start c) true (eqb c 95) true (either_is (is_xid_start c) (eqb c 95) h)) [
      | yes x go ↦ is_xid_start-is_xid_continue c x
      | no x go ↦ ap is_xid_continue (eqb-true c 95 go) ∙ is_xid_continue-ascii 95 (lit< tt)
    ]
  where
    either_is : (a b : Bool) → (a || b) ≡ true → cond a true b ≡ true
    either_is true b e = refl
    either_is false b e = e

no_start_34 : starts_name 34 ≡ false
no_start_34 = rw (is_xid_start-ascii 34 (lit< tt)) refl

no_start_39 : starts_name 39 ≡ false
no_start_39 = rw (is_xid_start-ascii 39 (lit< tt)) refl

no_start_32 : starts_name 32 ≡ false
no_start_32 = rw (is_xid_start-ascii 32 (lit< tt)) refl

no_start_9 : starts_name 9 ≡ false
no_start_9 = rw (is_xid_start-ascii 9 (lit< tt)) refl

no_start_35 : starts_name 35 ≡ false
no_start_35 = rw (is_xid_start-ascii 35 (lit< tt)) refl

no_start_10 : starts_name 10 ≡ false
no_start_10 = rw (is_xid_start-ascii 10 (lit< tt)) refl

no_start_13 : starts_name 13 ≡ false
no_start_13 = rw (is_xid_start-ascii 13 (lit< tt)) refl

-- a quote begins no name
pub quote_starts : (c : ℕ) → is_quote c ≡ true → starts_name c ≡ false
quote_starts c h =
    elim (chosen (eqb c 34) true (eqb c 39) true (either_is (eqb c 34) (eqb c 39) h)) [
      | yes x go ↦ ap starts_name (eqb-true c 34 x) ∙ no_start_34
      | no x go ↦ ap starts_name (eqb-true c 39 go) ∙ no_start_39
    ]
  where
    either_is : (a b : Bool) → (a || b) ≡ true → cond a true b ≡ true
    either_is true b e = refl
    either_is false b e = e

pub starts_quote : (c : ℕ) → starts_name c ≡ true → is_quote c ≡ false
starts_quote c h = by (is_quote c) refl
  where
    by : (b : Bool) → is_quote c ≡ b → b ≡ false
    by true e = let no = quote_starts c e in absurd cc
    by false e = refl

pub digit_quote : (c : ℕ) → is_digit c ≡ true → is_quote c ≡ false
digit_quote c h = grind (arith, nat_tests)

pub quote_digit : (c : ℕ) → is_quote c ≡ true → is_digit c ≡ false
quote_digit c h = grind (arith, nat_tests)

-- what doesn't begin with a quote splits none
pub no_quotes : (c : ℕ) (a rest : Text) → is_quote c ≡ false → splits_quotes (c ∷ a) rest ≡ false
no_quotes c [] rest h = refl
no_quotes c (d ∷ []) [] h = refl
no_quotes c (d ∷ []) (e ∷ rest) h = rw h refl
no_quotes c (d ∷ e ∷ a) rest h = refl

-- ---- what a text is, by its first character

pub of_start : (c : ℕ) (a : Text) → starts_name c ≡ true → lexeme_of (c ∷ a) ≡ cond (every continues_name a) (Some (word (c ∷ a))) None
of_start c a h = rw h refl

pub of_digit : (c : ℕ) (a : Text) → starts_name c ≡ false → is_digit c ≡ true → lexeme_of (c ∷ a) ≡ cond (every is_digit a) (Some (digits (c ∷ a))) None
of_digit c a s h = rw (s, h) refl

pub of_quote : (c : ℕ) (a : Text) → is_quote c ≡ true → lexeme_of (c ∷ a) ≡ as_string (string_at c a)
of_quote c a h = rw (quote_starts c h, quote_digit c h, h) refl

pub of_other : (c : ℕ) (a : Text) → starts_name c ≡ false → is_digit c ≡ false → is_quote c ≡ false → lexeme_of (c ∷ a) ≡ option_map sign (symbol_of (c ∷ a))
of_other c a s d q = rw (s, d, q) refl

-- ---- no lexeme begins so

space_symbol : (a : Text) → symbol_of (32 ∷ a) ≡ None
space_symbol [] = refl
space_symbol (b ∷ []) = refl
space_symbol (b ∷ c ∷ []) = refl
space_symbol (b ∷ c ∷ d ∷ a) = refl

tab_symbol : (a : Text) → symbol_of (9 ∷ a) ≡ None
tab_symbol [] = refl
tab_symbol (b ∷ []) = refl
tab_symbol (b ∷ c ∷ []) = refl
tab_symbol (b ∷ c ∷ d ∷ a) = refl

hash_symbol : (a : Text) → symbol_of (35 ∷ a) ≡ None
hash_symbol [] = refl
hash_symbol (b ∷ []) = refl
hash_symbol (b ∷ c ∷ []) = refl
hash_symbol (b ∷ c ∷ d ∷ a) = refl

feed_symbol : (a : Text) → symbol_of (10 ∷ a) ≡ None
feed_symbol [] = refl
feed_symbol (b ∷ []) = refl
feed_symbol (b ∷ c ∷ []) = refl
feed_symbol (b ∷ c ∷ d ∷ a) = refl

return_symbol : (a : Text) → symbol_of (13 ∷ a) ≡ None
return_symbol [] = refl
return_symbol (b ∷ []) = refl
return_symbol (b ∷ c ∷ []) = refl
return_symbol (b ∷ c ∷ d ∷ a) = refl

pub no_space : (a : Text) → lexeme_of (32 ∷ a) ≡ None
no_space a = of_other 32 a no_start_32 refl refl ∙ ap (option_map sign) (space_symbol a)

pub no_tab : (a : Text) → lexeme_of (9 ∷ a) ≡ None
no_tab a = of_other 9 a no_start_9 refl refl ∙ ap (option_map sign) (tab_symbol a)

pub no_hash : (a : Text) → lexeme_of (35 ∷ a) ≡ None
no_hash a = of_other 35 a no_start_35 refl refl ∙ ap (option_map sign) (hash_symbol a)

pub no_feed : (a : Text) → lexeme_of (10 ∷ a) ≡ None
no_feed a = of_other 10 a no_start_10 refl refl ∙ ap (option_map sign) (feed_symbol a)

pub no_return : (a : Text) → lexeme_of (13 ∷ a) ≡ None
no_return a = of_other 13 a no_start_13 refl refl ∙ ap (option_map sign) (return_symbol a)
