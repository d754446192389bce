-- The texts in a UTF-8 text of JSON are UTF-8.
use Rattle.std.proofs.Common.{◌≡◌, ℕ, ◌+◌, ◌*◌, ◌<◌, ◌≤◌, Bool, true, false, cond, ◌&&◌, ◌||◌, List, [], ◌∷◌, ◌++◌, length, Option, Some, None, IsUtf8, inl, inr, refl, sym, ap, subst, arith, append_assoc, append-nil, ltb-true, lt-ltb, le-leb, eqb-true, length-append}
use Rattle.std.specs.Prelude.{⊤, ◌==◌, nat_lt, nat_le}
use Rattle.std.specs.Char.{digit_value, is_digit, encode_utf8}
use Rattle.std.proofs.lemmas.Bool.{and_parts, or_cases, cases_lt}
use Rattle.std.proofs.lemmas.Str.{IsUtf8-append, IsUtf8-encode, IsUtf8-take, IsUtf8-drop, IsUtf8-past_char, IsCharBoundary-before_ascii, encode_ascii}
use Rattle.std.proofs.Math.Seq.{take-append_seam, drop-append_seam, get_or-append_seam}
use Rattle.std.proofs.Math.Utf8.{scalar, low_scalar}
use Rattle.json.specs.Token.{Token, begin_object, end_object, begin_array, end_array, key, string, number, boolean, null, bad}
use Rattle.json.specs.Text.{code_unit, short_escape, is_high_surrogate, is_low_surrogate, surrogate_pair, Within, plain, after_backslash, after_u, after_high, prepend, content}
use Rattle.json.specs.Word.{is_operator, is_space, head, ends_word, after_number, number_before, word}
use Rattle.json.specs.Lex.{Lexeme, token, comma, colon, Class, quote, backslash, operator, space, other, class, operator_lexeme, string_token, Mode, between, in_word, in_string, in_escape, lex_byte, lex, Place, fresh, after_value, after_comma, after_key, begins_colon, may_begin, may_close, if_allowed, place_token, punctuate, tokens}
use Rattle.hg_json.proofs.Yields.{Yields, Each, yields_if, yields_then}

-- ---- UTF-8 before and behind an ASCII byte

behind : (x : ℕ) (xs : List ℕ) → IsUtf8 (x ∷ xs) → x < 128 → IsUtf8 xs
behind x xs u small = IsUtf8-past_char (x ∷ xs) xs x u (sym (ap (λ l. l ++ xs) (encode_ascii x small)))

before : (front : List ℕ) (x : ℕ) (xs : List ℕ) → IsUtf8 (front ++ x ∷ xs) → x < 128 → IsUtf8 front
before front x xs u small =
    let at = get_or-append_seam front x xs 0 in
    subst IsUtf8 (take-append_seam front (x ∷ xs))
    (IsUtf8-take (front ++ x ∷ xs) (length front) u (IsCharBoundary-before_ascii (front ++ x ∷ xs) (length front) (omega (arith, length-append front (x ∷ xs))) (omega (arith, at))))

cut : (front : List ℕ) (x : ℕ) (xs : List ℕ) → IsUtf8 (front ++ x ∷ xs) → x < 128 → IsUtf8 front × IsUtf8 xs
cut front x xs u small =
    let boundary = IsCharBoundary-before_ascii (front ++ x ∷ xs) (length front) (omega (arith, length-append front (x ∷ xs))) (omega (arith, get_or-append_seam front x xs 0)) in
    let both = subst IsUtf8 (drop-append_seam front (x ∷ xs)) (IsUtf8-drop (front ++ x ∷ xs) (length front) u boundary) in
    (before front x xs u small, behind x xs both small)

one_byte : (c : ℕ) → c < 128 → IsUtf8 (c ∷ [])
one_byte c small = subst IsUtf8 (encode_ascii c small) (IsUtf8-encode c (low_scalar c (omega arith)))

-- ---- escapes

hex_ascii : (a : ℕ) → is_digit a 16 ≡ true → a < 128
hex_ascii a h = let l = ltb-true (digit_value a) 16 h in grind (arith, l)

short_ascii : (x : ℕ) → Yields (λ c. (x < 128) × (c < 128)) (short_escape x)
unfolding short_escape
short_ascii x =
    let P : ℕ → Type 0 = λ c. (x < 128) × (c < 128) in
    let is : (k : ℕ) → (x == k) ≡ true → k < 128 → x < 128 = λ k e l. omega (arith, eqb-true x k e) in
    yields_if P ((x == 34) || (x == 92) || (x == 47)) (Some x) _
    (λ e. let small : x < 128 = elim (or_cases ((x == 34) || (x == 92)) (x == 47) e) [
      | inl f ↦ elim (or_cases (x == 34) (x == 92) f) [ inl g ↦ is 34 g (omega arith) | inr g ↦ is 92 g (omega arith) ]
      | inr f ↦ is 47 f (omega arith)
    ] in (small, small))
    (λ e. yields_if P (x == 98) (Some 8) _ (λ f. (is 98 f (omega arith), omega arith))
    (λ f. yields_if P (x == 102) (Some 12) _ (λ g. (is 102 g (omega arith), omega arith))
    (λ g. yields_if P (x == 110) (Some 10) _ (λ k. (is 110 k (omega arith), omega arith))
    (λ k. yields_if P (x == 114) (Some 13) _ (λ l. (is 114 l (omega arith), omega arith))
    (λ l. yields_if P (x == 116) (Some 9) None (λ m. (is 116 m (omega arith), omega arith)) (λ m. tt))))))

unit_ascii : (a b c d : ℕ) (xs : List ℕ) → IsUtf8 (a ∷ b ∷ c ∷ d ∷ xs) → Yields (λ u. IsUtf8 xs × (u < 65536)) (code_unit a b c d)
unfolding code_unit
unit_ascii a b c d xs utf8 =
    yields_if (λ u. IsUtf8 xs × (u < 65536)) (is_digit a 16 && is_digit b 16 && is_digit c 16 && is_digit d 16) _ None
    (λ e.
    let p = and_parts (is_digit a 16 && is_digit b 16 && is_digit c 16) (is_digit d 16) e in
    let q = and_parts (is_digit a 16 && is_digit b 16) (is_digit c 16) p.0 in
    let r = and_parts (is_digit a 16) (is_digit b 16) q.0 in
    let rest = behind d xs (behind c _ (behind b _ (behind a _ utf8 (hex_ascii a r.0)) (hex_ascii b r.1)) (hex_ascii c q.1)) (hex_ascii d p.1) in
    (rest, bound (digit_value a) (digit_value b) (digit_value c) (digit_value d) (ltb-true _ _ r.0) (ltb-true _ _ r.1) (ltb-true _ _ q.1) (ltb-true _ _ p.1)))
    (λ e. tt)
  where
    bound : (i j k l : ℕ) → i < 16 → j < 16 → k < 16 → l < 16 → i * 4096 + j * 256 + k * 16 + l < 65536
    bound i j k l f g h m = omega arith

high_scalar : (c : ℕ) → 57344 ≤ c → c < 1114112 → scalar c ≡ true
high_scalar c l h = rw (le-leb 57344 c l, lt-ltb c 1114112 h) (both_ways (nat_lt c 55296))
  where
    both_ways : (b : Bool) → cond b true true ≡ true
    both_ways true = refl
    both_ways false = refl

-- a code unit that is no half of a pair
unit_scalar : (u : ℕ) → is_high_surrogate u ≡ false → is_low_surrogate u ≡ false → u < 65536 → scalar u ≡ true
unit_scalar u h l few = elim (cases_lt u 55296) [
  | inl small ↦ low_scalar u small
  | inr big ↦ elim (cases_lt u 57344) [
    | inl under ↦ absurd (elim (cases_lt u 56320) [
      | inl first ↦ clash _ _ (le-leb 55296 u big) (lt-ltb u 56320 first) h
      | inr second ↦ clash _ _ (le-leb 56320 u second) (lt-ltb u 57344 under) l
    ])
    | inr above ↦ high_scalar u above (omega arith)
  ]
]
  where
    clash : (a b : Bool) → a ≡ true → b ≡ true → (a && b) ≡ false → ⊥
    clash true true p q e = cc
    clash true false p q e = cc
    clash false b p q e = cc

pair_scalar : (h l : ℕ) → is_high_surrogate h ≡ true → is_low_surrogate l ≡ true → scalar (surrogate_pair h l) ≡ true
pair_scalar h l e f =
    let p = and_parts (nat_le 55296 h) (nat_lt h 56320) e in
    let q = and_parts (nat_le 56320 l) (nat_lt l 57344) f in
    let below_h = ltb-true h 56320 p.1 in
    let below_l = ltb-true l 57344 q.1 in
    high_scalar (surrogate_pair h l) (omega arith) (omega arith)

-- ---- the content of a string

prepended : (front bytes : List ℕ) (r : Option (List ℕ)) → Yields (λ s. IsUtf8 ((front ++ bytes) ++ s)) r → Yields (λ s. IsUtf8 (front ++ s)) (prepend bytes r)
prepended front bytes None h = tt
prepended front bytes (Some s) h = subst IsUtf8 (append_assoc front bytes s) h

-- Where the bytes before and those behind may be parted. Inside a character they may not.
abbrev Fits : Within → List ℕ → List ℕ → Type 0
Fits plain front xs = IsUtf8 (front ++ xs)
Fits after_backslash front xs = IsUtf8 front × IsUtf8 xs
Fits after_u front xs = IsUtf8 front × IsUtf8 xs
Fits (after_high h) front xs = IsUtf8 front × IsUtf8 xs × (is_high_surrogate h ≡ true)

-- a character that stands for an escape, and what follows
joins : (front bytes xs : List ℕ) → IsUtf8 front → IsUtf8 bytes → IsUtf8 xs → IsUtf8 ((front ++ bytes) ++ xs)
joins front bytes xs u v w = IsUtf8-append (front ++ bytes) xs (IsUtf8-append front bytes u v) w

content_utf8 : (w : Within) (front xs : List ℕ) → Fits w front xs → Yields (λ s. IsUtf8 (front ++ s)) (content w xs)
unfolding content
content_utf8 plain front [] u = tt
content_utf8 plain front (x ∷ xs) u =
    let P : List ℕ → Type 0 = λ s. IsUtf8 (front ++ s) in
    yields_if P (x == 34) (Some []) _ (λ q. subst IsUtf8 (sym (append-nil front)) (before front x xs u (omega (arith, eqb-true x 34 q))))
    (λ q. yields_if P (x == 92) (content after_backslash xs) _ (λ b. content_utf8 after_backslash front xs (cut front x xs u (omega (arith, eqb-true x 92 b))))
    (λ b. yields_if P (nat_lt x 32) None (prepend (x ∷ []) (content plain xs)) (λ l. tt)
    (λ l. prepended front (x ∷ []) (content plain xs) (content_utf8 plain (front ++ x ∷ []) xs (subst IsUtf8 (sym (append_assoc front (x ∷ []) xs)) u)))))
content_utf8 after_backslash front [] u = tt
content_utf8 after_backslash front (x ∷ xs) u =
    let P : List ℕ → Type 0 = λ s. IsUtf8 (front ++ s) in
    yields_if P (x == 117) (content after_u xs) _ (λ e. content_utf8 after_u front xs (u.0, behind x xs u.1 (omega (arith, eqb-true x 117 e))))
    (λ e. yields_then (λ c. (x < 128) × (c < 128)) P (short_escape x) (λ c. prepend (c ∷ []) (content plain xs))
    (λ c small. prepended front (c ∷ []) (content plain xs) (content_utf8 plain (front ++ c ∷ []) xs (joins front (c ∷ []) xs u.0 (one_byte c small.1) (behind x xs u.1 small.0))))
    (short_ascii x))
content_utf8 after_u front [] u = tt
content_utf8 after_u front (a ∷ []) u = tt
content_utf8 after_u front (a ∷ b ∷ []) u = tt
content_utf8 after_u front (a ∷ b ∷ c ∷ []) u = tt
content_utf8 after_u front (a ∷ b ∷ c ∷ d ∷ xs) u =
    let P : List ℕ → Type 0 = λ s. IsUtf8 (front ++ s) in
    yields_then (λ n. IsUtf8 xs × (n < 65536)) P (code_unit a b c d)
    (λ n. cond (is_high_surrogate n) (content (after_high n) xs) (cond (is_low_surrogate n) None (prepend (encode_utf8 n) (content plain xs))))
    (λ n k. yields_if P (is_high_surrogate n) (content (after_high n) xs) _ (λ h. content_utf8 (after_high n) front xs (u.0, k.0, h))
    (λ h. yields_if P (is_low_surrogate n) None (prepend (encode_utf8 n) (content plain xs)) (λ l. tt)
    (λ l. prepended front (encode_utf8 n) (content plain xs) (content_utf8 plain (front ++ encode_utf8 n) xs (joins front (encode_utf8 n) xs u.0 (IsUtf8-encode n (unit_scalar n h l k.1)) k.0)))))
    (unit_ascii a b c d xs u.1)
content_utf8 (after_high h) front [] u = tt
content_utf8 (after_high h) front (s ∷ []) u = tt
content_utf8 (after_high h) front (s ∷ t ∷ []) u = tt
content_utf8 (after_high h) front (s ∷ t ∷ a ∷ []) u = tt
content_utf8 (after_high h) front (s ∷ t ∷ a ∷ b ∷ []) u = tt
content_utf8 (after_high h) front (s ∷ t ∷ a ∷ b ∷ c ∷ []) u = tt
content_utf8 (after_high h) front (s ∷ t ∷ a ∷ b ∷ c ∷ d ∷ xs) u =
    let P : List ℕ → Type 0 = λ r. IsUtf8 (front ++ r) in
    let joined : ℕ → Option (List ℕ) = λ l. cond (is_low_surrogate l) (prepend (encode_utf8 (surrogate_pair h l)) (content plain xs)) None in
    yields_if P ((s == 92) && (t == 117)) _ None
    (λ e.
    let p = and_parts (s == 92) (t == 117) e in
    let hex = behind t _ (behind s _ u.1 (omega (arith, eqb-true s 92 p.0))) (omega (arith, eqb-true t 117 p.1)) in
    yields_then (λ n. IsUtf8 xs × (n < 65536)) P (code_unit a b c d) joined
    (λ l k. yields_if P (is_low_surrogate l) (prepend (encode_utf8 (surrogate_pair h l)) (content plain xs)) None
    (λ y. prepended front (encode_utf8 (surrogate_pair h l)) (content plain xs)
    (content_utf8 plain (front ++ encode_utf8 (surrogate_pair h l)) xs (joins front (encode_utf8 (surrogate_pair h l)) xs u.0 (IsUtf8-encode (surrogate_pair h l) (pair_scalar h l u.2 y)) k.0)))
    (λ y. tt))
    (unit_ascii a b c d xs hex))
    (λ e. tt)

-- ---- lexemes

abbrev pub TokenText : Token → Type 0
TokenText (string s) = IsUtf8 s
TokenText _ = ⊤

abbrev LexemeText : Lexeme → Type 0
LexemeText (token t) = TokenText t
LexemeText comma = ⊤
LexemeText colon = ⊤

token_if : (b : Bool) (s t : Token) → TokenText s → TokenText t → TokenText (cond b s t)
token_if true s t h k = h
token_if false s t h k = k

lexeme_if : (b : Bool) (s t : Lexeme) → LexemeText s → LexemeText t → LexemeText (cond b s t)
lexeme_if true s t h k = h
lexeme_if false s t h k = k

operator_text : (x : ℕ) → LexemeText (operator_lexeme x)
operator_text x =
    lexeme_if (x == 123) _ _ tt (lexeme_if (x == 125) _ _ tt (lexeme_if (x == 91) _ _ tt (lexeme_if (x == 93) _ _ tt (lexeme_if (x == 44) comma colon tt tt))))

number_text : (t : List ℕ) (rest : Option (List ℕ)) → TokenText (number_before t rest)
number_text t None = tt
number_text t (Some rest) = token_if (ends_word rest) _ bad tt tt

word_text : (t : List ℕ) → TokenText (word t)
unfolding word
word_text t =
    token_if (head t == 116) _ _ (token_if _ (boolean true) bad tt tt)
    (token_if (head t == 102) _ _ (token_if _ (boolean false) bad tt tt)
    (token_if (head t == 110) _ _ (token_if _ null bad tt tt) (number_text t (after_number t))))

string_text : (o : Option (List ℕ)) → Yields IsUtf8 o → TokenText (string_token o)
string_text None h = tt
string_text (Some s) h = h

quote_is : (x : ℕ) → class x ≡ quote → x ≡ 34
quote_is x e = eqb-true x 34 (first (x == 34) (x == 92) (is_operator x) (is_space x) e)
  where
    first : (a b c d : Bool) → cond a quote (cond b backslash (cond c operator (cond d space other))) ≡ quote → a ≡ true
    first true b c d e = refl
    first false true c d e = cc
    first false false true d e = cc
    first false false false true e = cc
    first false false false false e = cc

module _ (x : ℕ) (xs : List ℕ) (k : Mode → List Lexeme) (later : (next : Mode) → Each LexemeText (k next)) where
  byte_texts : (m : Mode) (c : Class) → (c ≡ quote → IsUtf8 xs) → Each LexemeText (lex_byte m c x xs k)
  byte_texts between quote u = (string_text (content plain xs) (content_utf8 plain [] xs (u refl)), later in_string)
  byte_texts between backslash u = (tt, later in_word)
  byte_texts between operator u = (operator_text x, later between)
  byte_texts between space u = later between
  byte_texts between other u = (word_text (x ∷ xs), later in_word)
  byte_texts in_word quote u = later in_word
  byte_texts in_word backslash u = later in_word
  byte_texts in_word operator u = (operator_text x, later between)
  byte_texts in_word space u = later between
  byte_texts in_word other u = later in_word
  byte_texts in_string quote u = later between
  byte_texts in_string backslash u = later in_escape
  byte_texts in_string operator u = later in_string
  byte_texts in_string space u = later in_string
  byte_texts in_string other u = later in_string
  byte_texts in_escape c u = later in_string

lex_texts : (m : Mode) (front xs : List ℕ) → IsUtf8 (front ++ xs) → Each LexemeText (lex m xs)
unfolding lex
lex_texts m front [] u = tt
lex_texts m front (x ∷ xs) u =
    byte_texts x xs (λ next. lex next xs) (λ next. lex_texts next (front ++ x ∷ []) xs (subst IsUtf8 (sym (append_assoc front (x ∷ []) xs)) u)) m (class x)
    (λ e. (cut front x xs u (omega (arith, quote_is x e))).1)

-- ---- tokens

module _ (k : Place → List Token) (later : (next : Place) → Each TokenText (k next)) where
  allowed_texts : (b : Bool) (t : Token) (next : Place) → TokenText t → Each TokenText (if_allowed b t k next)
  allowed_texts true t next h = (h, later next)
  allowed_texts false t next h = (tt, tt)

  place_texts : (p : Place) (t : Token) (before_colon : Bool) → TokenText t → Each TokenText (place_token p t before_colon k)
  place_texts p begin_object b h = allowed_texts (may_begin p) begin_object fresh tt
  place_texts p end_object b h = allowed_texts (may_close p) end_object after_value tt
  place_texts p begin_array b h = allowed_texts (may_begin p) begin_array fresh tt
  place_texts p end_array b h = allowed_texts (may_close p) end_array after_value tt
  place_texts p (key s) b h = (tt, tt)
  place_texts p (string s) true h = allowed_texts (may_begin p) (key s) after_key tt
  place_texts p (string s) false h = allowed_texts (may_begin p) (string s) after_value h
  place_texts p (number s) b h = allowed_texts (may_begin p) (number s) after_value tt
  place_texts p (boolean v) b h = allowed_texts (may_begin p) (boolean v) after_value tt
  place_texts p null b h = allowed_texts (may_begin p) null after_value tt
  place_texts p bad b h = (tt, tt)

punctuated : (p : Place) (ls : List Lexeme) → Each LexemeText ls → Each TokenText (punctuate p ls)
unfolding punctuate
punctuated fresh [] h = tt
punctuated after_value [] h = tt
punctuated after_comma [] h = (tt, tt)
punctuated after_key [] h = (tt, tt)
punctuated fresh (token t ∷ ls) h = place_texts (λ next. punctuate next ls) (λ next. punctuated next ls h.1) fresh t (begins_colon ls) h.0
punctuated after_value (token t ∷ ls) h = place_texts (λ next. punctuate next ls) (λ next. punctuated next ls h.1) after_value t (begins_colon ls) h.0
punctuated after_comma (token t ∷ ls) h = place_texts (λ next. punctuate next ls) (λ next. punctuated next ls h.1) after_comma t (begins_colon ls) h.0
punctuated after_key (token t ∷ ls) h = place_texts (λ next. punctuate next ls) (λ next. punctuated next ls h.1) after_key t (begins_colon ls) h.0
punctuated fresh (comma ∷ ls) h = (tt, tt)
punctuated after_value (comma ∷ ls) h = punctuated after_comma ls h.1
punctuated after_comma (comma ∷ ls) h = (tt, tt)
punctuated after_key (comma ∷ ls) h = (tt, tt)
punctuated fresh (colon ∷ ls) h = (tt, tt)
punctuated after_value (colon ∷ ls) h = (tt, tt)
punctuated after_comma (colon ∷ ls) h = (tt, tt)
punctuated after_key (colon ∷ ls) h = punctuated fresh ls h.1

pub token_texts : (text : List ℕ) → IsUtf8 text → Each TokenText (tokens text)
token_texts text u = punctuated fresh (lex between text) (lex_texts between [] text u)
