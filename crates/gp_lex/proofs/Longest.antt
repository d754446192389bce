-- The lexeme that is cut off is the longest, and the only one.
use Rattle.std.proofs.Common.{◌≡◌, ℕ, ◌<◌, Bool, true, false, cond, [], ◌∷◌, ◌++◌, length, Option, Some, None, refl, sym, ap, subst, ◌∙◌, arith, inl, inr, length-append}
use Rattle.std.specs.Prelude.{option_map}
use Rattle.std.proofs.lemmas.Bool.{cases_lt}
use Rattle.gp_lex.specs.declared.token.Symbol.{Symbol}
use Rattle.gp_lex.specs.Chars.{Text, starts_name, continues_name, is_digit, is_quote, every, first_passes, run}
use Rattle.gp_lex.specs.Tokens.{symbol_of, string_at, Lexeme, word, digits, quoted, sign, as_string, lexeme_of}
use Rattle.gp_lex.specs.Pieces.{splits_quotes, IsAt}
use Rattle.gp_lex.specs.code.Reading.{symbol_at, as_sign, as_quoted, lexeme_at}
use Rattle.gp_lex.proofs.Fronts.{Runs, runs, every_front}
use Rattle.gp_lex.proofs.Symbols.{some, some_is, some_none, symbol_marks, no_symbol_at}
use Rattle.gp_lex.proofs.Strings.{string_extends, StringCut, string_cut}
use Rattle.gp_lex.proofs.Classes.{starts_continues, quote_starts, starts_quote, digit_quote, quote_digit, no_quotes, of_start, of_digit, of_quote, of_other}

abbrev Found : Type 0
Found = Lexeme × Text

-- a lexeme at the front of a text
pub record Taken (bs : Text) (x : Lexeme × Text) : Type 0 where
  pub text : Text
  pub parts : bs ≡ text ++ x.1
  pub is : IsAt text x.1 x.0

-- ---- names and numbers

word_cut : (b : ℕ) (a rest : Text) (x : Found) → starts_name b ≡ true → every continues_name (b ∷ a) ≡ true → first_passes continues_name rest ≡ false → some (word (b ∷ a), rest) ≡ Some x → Taken (b ∷ (a ++ rest)) x
word_cut b a rest x h pass stops e = subst (λ (y : Found). Taken (b ∷ (a ++ rest)) y) (some_is (word (b ∷ a), rest) x e)
    (record { text = b ∷ a; parts = refl; is = record { spells = of_start b a h ∙ rest_is (continues_name b) pass; longest = longer; whole = no_quotes b a rest (starts_quote b h) } })
  where
    rest_is : (c : Bool) → cond c (every continues_name a) false ≡ true → cond (every continues_name a) (some (word (b ∷ a))) None ≡ Some (word (b ∷ a))
    rest_is true p = rw p refl
    rest_is false p = absurd cc

    longer : (f more : Text) → (b ∷ a) ++ rest ≡ f ++ more → length (b ∷ a) < length f → lexeme_of f ≡ None
    longer [] more e lt = absurd (omega arith)
    longer (c ∷ f) more e lt =
        let same : b ≡ c = cc in
        let tails : a ++ rest ≡ f ++ more = cc in
        let fails = every_front continues_name a rest f more tails (omega arith) stops in
        of_start c f (subst (λ (z : ℕ). starts_name z ≡ true) same h) ∙ rw fails refl

digits_cut : (b : ℕ) (a rest : Text) (x : Found) → starts_name b ≡ false → is_digit b ≡ true → every is_digit (b ∷ a) ≡ true → first_passes is_digit rest ≡ false → some (digits (b ∷ a), rest) ≡ Some x → Taken (b ∷ (a ++ rest)) x
digits_cut b a rest x s h pass stops e = subst (λ (y : Found). Taken (b ∷ (a ++ rest)) y) (some_is (digits (b ∷ a), rest) x e)
    (record { text = b ∷ a; parts = refl; is = record { spells = of_digit b a s h ∙ rest_is (is_digit b) pass; longest = longer; whole = no_quotes b a rest (digit_quote b h) } })
  where
    rest_is : (c : Bool) → cond c (every is_digit a) false ≡ true → cond (every is_digit a) (some (digits (b ∷ a))) None ≡ Some (digits (b ∷ a))
    rest_is true p = rw p refl
    rest_is false p = absurd cc

    longer : (f more : Text) → (b ∷ a) ++ rest ≡ f ++ more → length (b ∷ a) < length f → lexeme_of f ≡ None
    longer [] more e lt = absurd (omega arith)
    longer (c ∷ f) more e lt =
        let same : b ≡ c = cc in
        let tails : a ++ rest ≡ f ++ more = cc in
        let fails = every_front is_digit a rest f more tails (omega arith) stops in
        of_digit c f (ap starts_name (sym same) ∙ s) (ap is_digit (sym same) ∙ h) ∙ rw fails refl

-- a run that begins with a character that passes
record Front (p : ℕ → Bool) (b : ℕ) (bs : Text) (a rest : Text) : Type 0 where
  others : Text
  front : a ≡ b ∷ others
  behind : bs ≡ others ++ rest
  pass : every p (b ∷ others) ≡ true
  stops : first_passes p rest ≡ false

front_of : (p : ℕ → Bool) (b : ℕ) (bs a rest : Text) → p b ≡ true → Runs p (b ∷ bs) a rest → Front p b bs a rest
front_of p b bs [] rest h r =
    let e = r.parts in
    let here : first_passes p (b ∷ bs) ≡ first_passes p rest = ap (first_passes p) e in
    absurd (let no : true ≡ false = sym h ∙ here ∙ r.stops in cc)
front_of p b bs (c ∷ a) rest h r =
    let e = r.parts in
    let same : c ≡ b = cc in
    let tails : bs ≡ a ++ rest = cc in
    record { others = a; front = ap (λ (z : ℕ). z ∷ a) same; behind = tails; pass = subst (λ (z : ℕ). every p (z ∷ a) ≡ true) same r.pass; stops = r.stops }

-- ---- strings

whole_is : (o : Option (Text × Text)) (l : Lexeme) → as_string o ≡ Some l → (b : Text) × (o ≡ Some (b, [])) × (l ≡ quoted b)
whole_is None l e = absurd cc
whole_is (Some (b, [])) l e = (b, refl, sym (some_is (quoted b) l e))
whole_is (Some (b, c ∷ cs)) l e = absurd cc

some_text : (q : ℕ) (a b : Text) → string_at q a ≡ Some (b, []) → 0 < length a
unfolding string_at run
some_text q [] b e = absurd cc
some_text q (c ∷ a) b e = omega arith

-- a longer front of a text that begins with a string is no string
longer_string : (q : ℕ) (a rest b f more : Text) → is_quote q ≡ true → string_at q a ≡ Some (b, []) → splits_quotes (q ∷ a) rest ≡ false → a ++ rest ≡ f ++ more → length a < length f → as_string (string_at q f) ≡ None
longer_string q a rest b f more h e s parts lt = go (as_string (string_at q f)) refl
  where
    long : (f : Text) → 1 < length f → splits_quotes (q ∷ f) more ≡ false
    long [] lt = refl
    long (c ∷ []) lt = absurd (omega arith)
    long (c ∷ d ∷ f) lt = refl

    go : (o : Option Lexeme) → as_string (string_at q f) ≡ o → o ≡ None
    go None e2 = refl
    go (Some l) e2 =
        let w = whole_is (string_at q f) l e2 in
        let some = some_text q a b e in
        let here = string_extends q a rest b h e s in
        let there = string_extends q f more w.0 h w.1 (long f (omega arith)) in
        let same : ◌≡◌ {A = Option (Text × Text)} (Some (b, rest)) (Some (w.0, more)) = sym here ∙ ap (string_at q) parts ∙ there in
        let ends : rest ≡ more = ap (λ (x : Text × Text). x.1) (some_is (b, rest) (w.0, more) same) in
        absurd (omega (arith, ap length parts, length-append a rest, length-append f more, ap length ends))

as_quoted_is : (o : Option (Text × Text)) (x : Found) → as_quoted o ≡ Some x → (y : Text × Text) × (o ≡ Some y) × (x ≡ (quoted y.0, y.1))
as_quoted_is (Some y) x e = (y, refl, sym (some_is (quoted y.0, y.1) x e))
as_quoted_is None x e = absurd cc

quoted_taken : (q : ℕ) (cs b rest : Text) → is_quote q ≡ true → string_at q cs ≡ Some (b, rest) → Taken (q ∷ cs) (quoted b, rest)
quoted_taken q cs b rest h e =
    let k = string_cut q cs b rest e in
    record {
      text = q ∷ k.text;
      parts = ap (λ (z : Text). q ∷ z) k.parts;
      is = record { spells = of_quote q k.text h ∙ ap as_string k.spells; longest = longer k; whole = k.whole };
    }
  where
    longer : (k : StringCut q cs b rest) (f more : Text) → (q ∷ k.text) ++ rest ≡ f ++ more → length (q ∷ k.text) < length f → lexeme_of f ≡ None
    longer k [] more e lt = absurd (omega arith)
    longer k (c ∷ f) more e lt =
        let same : q ≡ c = cc in
        let tails : k.text ++ rest ≡ f ++ more = cc in
        ap (λ (z : ℕ). lexeme_of (z ∷ f)) (sym same) ∙ of_quote q f h ∙ longer_string q k.text rest b f more h k.spells k.whole tails (omega arith)

-- ---- symbols

as_sign_is : (o : Option (Symbol × Text)) (x : Found) → as_sign o ≡ Some x → (y : Symbol × Text) × (o ≡ Some y) × (x ≡ (sign y.0, y.1))
as_sign_is (Some y) x e = (y, refl, sym (some_is (sign y.0, y.1) x e))
as_sign_is None x e = absurd cc

-- a character that begins no name, number or string
pub record Other (c : ℕ) : Type 0 where
  pub starts : starts_name c ≡ false
  pub digit : is_digit c ≡ false
  pub quote : is_quote c ≡ false

other_is : (c : ℕ) (a : Text) → Other c → lexeme_of (c ∷ a) ≡ option_map sign (symbol_of (c ∷ a))
other_is c a o = of_other c a o.starts o.digit o.quote

sign_taken : (c : ℕ) (cs a rest : Text) (s : Symbol) → Other c → c ∷ cs ≡ a ++ rest → symbol_of a ≡ Some s → ((f more : Text) → c ∷ cs ≡ f ++ more → length a < length f → symbol_of f ≡ None) → Taken (c ∷ cs) (sign s, rest)
sign_taken c cs [] rest s o parts h longest = absurd cc
sign_taken c cs (b ∷ a) rest s o parts h longest =
    let same : c ≡ b = cc in
    let other = subst (λ (z : ℕ). Other z) same o in
    record { text = b ∷ a; parts = parts; is = record { spells = other_is b a other ∙ ap (option_map sign) h; longest = longer other; whole = no_quotes b a rest other.quote } }
  where
    longer : Other b → (f more : Text) → (b ∷ a) ++ rest ≡ f ++ more → length (b ∷ a) < length f → lexeme_of f ≡ None
    longer other [] more e lt = refl
    longer other (d ∷ f) more e lt =
        let same : b ≡ d = cc in
        let there = subst (λ (z : ℕ). Other z) same other in
        other_is d f there ∙ ap (option_map sign) (longest (d ∷ f) more (parts ∙ e) lt)

sign_cut : (c : ℕ) (cs : Text) (x : Found) → Other c → as_sign (symbol_at (c ∷ cs)) ≡ Some x → Taken (c ∷ cs) x
sign_cut c cs x o e =
    let y = as_sign_is _ x e in
    let m = symbol_marks (c ∷ cs) y.0 y.1 in
    subst (λ (z : Found). Taken (c ∷ cs) z) (sym y.2) (sign_taken c cs m.text y.0.1 y.0.0 o m.parts m.spells m.longest)

-- ---- what is cut off

-- what a front begins with, in the order of the tests
pub data Begins (c : ℕ) : Type 0 where
  name : starts_name c ≡ true → Begins c
  number : starts_name c ≡ false → is_digit c ≡ true → Begins c
  string : is_quote c ≡ true → starts_name c ≡ false → is_digit c ≡ false → Begins c
  other : Other c → Begins c

pub begins : (c : ℕ) → Begins c
begins c = by_start (starts_name c) refl
  where
    by_quote : starts_name c ≡ false → is_digit c ≡ false → (q : Bool) → is_quote c ≡ q → Begins c
    by_quote s d true q = string q s d
    by_quote s d false q = other (record { starts = s; digit = d; quote = q })

    by_digit : starts_name c ≡ false → (d : Bool) → is_digit c ≡ d → Begins c
    by_digit s true d = number s d
    by_digit s false d = by_quote s d (is_quote c) refl

    by_start : (s : Bool) → starts_name c ≡ s → Begins c
    by_start true s = name s
    by_start false s = by_digit s (is_digit c) refl

at_name : (c : ℕ) (cs : Text) → starts_name c ≡ true → lexeme_at (c ∷ cs) ≡ Some (word (run continues_name (c ∷ cs)).0, (run continues_name (c ∷ cs)).1)
unfolding lexeme_at
at_name c cs h = rw h refl

at_number : (c : ℕ) (cs : Text) → starts_name c ≡ false → is_digit c ≡ true → lexeme_at (c ∷ cs) ≡ Some (digits (run is_digit (c ∷ cs)).0, (run is_digit (c ∷ cs)).1)
unfolding lexeme_at
at_number c cs s h = rw (s, h) refl

pub at_string : (c : ℕ) (cs : Text) → is_quote c ≡ true → lexeme_at (c ∷ cs) ≡ as_quoted (string_at c cs)
unfolding lexeme_at
at_string c cs h = rw (quote_starts c h, quote_digit c h, h) refl

at_other : (c : ℕ) (cs : Text) → Other c → lexeme_at (c ∷ cs) ≡ as_sign (symbol_at (c ∷ cs))
unfolding lexeme_at
at_other c cs o = let s = o.starts in let d = o.digit in let q = o.quote in rw (s, d, q) refl

nothing_at : lexeme_at [] ≡ None
unfolding lexeme_at
nothing_at = refl

taken_by : (c : ℕ) (cs : Text) (x : Found) → Begins c → lexeme_at (c ∷ cs) ≡ Some x → Taken (c ∷ cs) x
taken_by c cs x (name h) e =
    let f = front_of continues_name c cs _ _ (starts_continues c h) (runs continues_name (c ∷ cs)) in
    subst (λ (z : Text). Taken (c ∷ z) x) (sym f.behind)
    (word_cut c f.others _ x h f.pass f.stops (ap (λ (z : Text). some (word z, (run continues_name (c ∷ cs)).1)) (sym f.front) ∙ sym (at_name c cs h) ∙ e))
taken_by c cs x (number s h) e =
    let f = front_of is_digit c cs _ _ h (runs is_digit (c ∷ cs)) in
    subst (λ (z : Text). Taken (c ∷ z) x) (sym f.behind)
    (digits_cut c f.others _ x s h f.pass f.stops (ap (λ (z : Text). some (digits z, (run is_digit (c ∷ cs)).1)) (sym f.front) ∙ sym (at_number c cs s h) ∙ e))
taken_by c cs x (string h s d) e =
    let y = as_quoted_is (string_at c cs) x (sym (at_string c cs h) ∙ e) in
    subst (λ (z : Found). Taken (c ∷ cs) z) (sym y.2) (quoted_taken c cs y.0.0 y.0.1 h y.1)
taken_by c cs x (other o) e = sign_cut c cs x o (sym (at_other c cs o) ∙ e)

pub lexeme_taken : (bs : Text) (x : Lexeme × Text) → lexeme_at bs ≡ Some x → Taken bs x
lexeme_taken [] x e = absurd (let no = nothing_at in cc)
lexeme_taken (c ∷ cs) x e = taken_by c cs x (begins c) e

-- ---- where a lexeme stands, one is cut off

as_quoted_none : (o : Option (Text × Text)) → as_quoted o ≡ None → o ≡ None
as_quoted_none (Some y) e = absurd cc
as_quoted_none None e = refl

as_sign_none : (o : Option (Symbol × Text)) → as_sign o ≡ None → o ≡ None
as_sign_none (Some y) e = absurd cc
as_sign_none None e = refl

no_string : (q : ℕ) (a rest : Text) → is_quote q ≡ true → string_at q (a ++ rest) ≡ None → splits_quotes (q ∷ a) rest ≡ false → as_string (string_at q a) ≡ None
no_string q a rest h e s = go (as_string (string_at q a)) refl
  where
    go : (o : Option Lexeme) → as_string (string_at q a) ≡ o → o ≡ None
    go None e2 = refl
    go (Some l) e2 =
        let w = whole_is (string_at q a) l e2 in
        let here = string_extends q a rest w.0 h w.1 s in
        absurd (some_none (w.0, rest) (sym here ∙ e))

none_by : (c : ℕ) (a rest : Text) → Begins c → lexeme_at (c ∷ (a ++ rest)) ≡ None → splits_quotes (c ∷ a) rest ≡ false → lexeme_of (c ∷ a) ≡ None
none_by c a rest (name h) e s = absurd (some_none (word (run continues_name (c ∷ (a ++ rest))).0, (run continues_name (c ∷ (a ++ rest))).1) (sym (at_name c (a ++ rest) h) ∙ e))
none_by c a rest (number n h) e s = absurd (some_none (digits (run is_digit (c ∷ (a ++ rest))).0, (run is_digit (c ∷ (a ++ rest))).1) (sym (at_number c (a ++ rest) n h) ∙ e))
none_by c a rest (string h n d) e s =
    of_quote c a h ∙ no_string c a rest h (as_quoted_none (string_at c (a ++ rest)) (sym (at_string c (a ++ rest) h) ∙ e)) s
none_by c a rest (other o) e s =
    other_is c a o ∙ ap (option_map sign) (no_symbol_at (c ∷ a) rest (as_sign_none (symbol_at (c ∷ (a ++ rest))) (sym (at_other c (a ++ rest) o) ∙ e)))

pub no_lexeme : (a rest : Text) → lexeme_at (a ++ rest) ≡ None → splits_quotes a rest ≡ false → lexeme_of a ≡ None
no_lexeme [] rest e s = refl
no_lexeme (c ∷ a) rest e s = none_by c a rest (begins c) e s

-- ---- one lexeme at a place

same_length : (a rest b more : Text) → a ++ rest ≡ b ++ more → length a ≡ length b → (a ≡ b) × (rest ≡ more)
same_length [] rest [] more e len = (refl, e)
same_length [] rest (c ∷ b) more e len = absurd (omega arith)
same_length (d ∷ a) rest [] more e len = absurd (omega arith)
same_length (d ∷ a) rest (c ∷ b) more e len =
    let head : d ≡ c = cc in
    let tails : a ++ rest ≡ b ++ more = cc in
    let h = same_length a rest b more tails (omega arith) in
    (ap (λ (z : ℕ). z ∷ a) head ∙ ap (λ (z : Text). c ∷ z) h.0, h.1)

-- two lexemes at one place are one
record Same (a rest b more : Text) (x y : Lexeme) : Type 0 where
  text : a ≡ b
  behind : rest ≡ more
  lexeme : x ≡ y

longer_none : (a rest b more : Text) (x y : Lexeme) → a ++ rest ≡ b ++ more → IsAt a rest x → IsAt b more y → length a < length b → ⊥
longer_none a rest b more x y e p q lt = let no = p.longest b more e lt in let yes = q.spells in absurd cc

one_lexeme : (a rest b more : Text) (x y : Lexeme) → a ++ rest ≡ b ++ more → IsAt a rest x → IsAt b more y → Same a rest b more x y
one_lexeme a rest b more x y e p q =
    elim (cases_lt (length a) (length b)) [
      | inl lt ↦ absurd (longer_none a rest b more x y e p q lt)
      | inr le ↦
          elim (cases_lt (length b) (length a)) [
            | inl lt ↦ absurd (longer_none b more a rest y x (sym e) q p lt)
            | inr le2 ↦
                let h = same_length a rest b more e (omega arith) in
                record { text = h.0; behind = h.1; lexeme = some_is x y (sym p.spells ∙ ap lexeme_of h.0 ∙ q.spells) }
          ]
    ]

-- the lexeme that stands at a place is cut off there
pub lexeme_found : (a rest : Text) (x : Lexeme) → IsAt a rest x → lexeme_at (a ++ rest) ≡ Some (x, rest)
lexeme_found a rest x h = go (lexeme_at (a ++ rest)) refl
  where
    go : (o : Option (Lexeme × Text)) → lexeme_at (a ++ rest) ≡ o → o ≡ Some (x, rest)
    go None e = absurd (let no = no_lexeme a rest e h.whole in let yes = h.spells in cc)
    go (Some y) e =
        let k = lexeme_taken (a ++ rest) y e in
        let s = one_lexeme a rest k.text y.1 x y.0 k.parts h k.is in
        ap (λ (z : Lexeme). some (z, y.1)) (sym s.lexeme) ∙ ap (λ (z : Text). some (x, z)) (sym s.behind)
