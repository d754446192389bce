-- In the value of a UTF-8 text each text is UTF-8, and each whole number has 64 bits.
use Rattle.std.proofs.Common.{ℕ, zero, suc, pos, neg_ℤ, ◌<◌, ◌≤◌, ◌^◌, Bool, cond, ◌&&◌, List, [], ◌∷◌, length, Option, Some, None, Ordering, Less, Equal, Greater, nat_cmp, IsUtf8, arith, ltb-true, leb-true}
use Rattle.std.specs.Prelude.{⊤, Float, ◌==◌, nat_lt, nat_le, slice_index, option_map, option_and_then}
use Rattle.std.specs.Ordering.{match_ordering}
use Rattle.std.specs.Cmp.Lexicographic.{slice_cmp}
use Rattle.std.specs.Float.{float_is_finite}
use Rattle.std.proofs.lemmas.Bool.{and_parts}
use Rattle.json.specs.Token.{Token}
use Rattle.json.specs.Lex.{tokens}
use Rattle.json.specs.Json as json
use Rattle.json.specs.Json.{Json, Parse, parse_map, after_end_array, read_key, items_step, members_step, items, members, value_with, value, if_last}
use Rattle.serde_json.specs.Data.{Num, unsigned, negative, float, Data, null, boolean, number, string, array, object, Items, no_items, item, Members, no_members, member, put}
use Rattle.serde_json.specs.Find.{get_member, get, as_str, as_number, as_i64}
use Rattle.serde_json.specs.Read.{number_of, of_json, of_items, of_members, max_depth, read}
use Rattle.hg_json.specs.InHand.{IsSigned}
use Rattle.hg_json.specs.Reading.{natural_of}
use Rattle.hg_json.specs.Steps.{◌>>=◌}
use Rattle.hg_json.proofs.Yields.{Yields, Each, yields_if, yields_then, yields_map}
use Rattle.hg_json.proofs.ReadTexts.{TokenText, token_texts}

-- ---- the grammar over tokens

abbrev mutual
  HasTexts : Json → Type 0
  HasTexts json.null = ⊤
  HasTexts (json.boolean b) = ⊤
  HasTexts (json.number s) = ⊤
  HasTexts (json.string s) = IsUtf8 s
  HasTexts (json.array js) = ItemsHaveTexts js
  HasTexts (json.object ms) = MembersHaveTexts ms

  ItemsHaveTexts : json.Items → Type 0
  ItemsHaveTexts json.no_items = ⊤
  ItemsHaveTexts (json.item j js) = HasTexts j × ItemsHaveTexts js

  MembersHaveTexts : json.Members → Type 0
  MembersHaveTexts json.no_members = ⊤
  MembersHaveTexts (json.member k j ms) = HasTexts j × MembersHaveTexts ms

-- what was parsed, and the tokens behind it
abbrev Parsed : {A : Type 0} → (A → Type 0) → A × List Token → Type 0
Parsed P p = P p.0 × Each TokenText p.1

-- a parser over tokens whose texts are UTF-8
abbrev Parses : {A : Type 0} → (A → Type 0) → Parse A → Type 0
Parses P parse = (ts : List Token) → Each TokenText ts → Yields (Parsed P) (parse ts)

parse_mapped : {A B : Type 0} (P : A → Type 0) (Q : B → Type 0) (f : A → B) → ((a : A) → P a → Q (f a)) → (r : Option (A × List Token)) → Yields (Parsed P) r → Yields (Parsed Q) (parse_map f r)
parse_mapped P Q f h None p = tt
parse_mapped P Q f h (Some a) p = (h a.0 p.0, p.1)

end_texts : (ts : List Token) → Each TokenText ts → Yields (Each TokenText) (after_end_array ts)
end_texts [] h = tt
end_texts (Token.end_array ∷ ts) h = h.1
end_texts (t ∷ ts) h = tt

key_texts : (ts : List Token) → Each TokenText ts → Yields (Parsed {A = Option (List ℕ)} (λ k. ⊤)) (read_key ts)
key_texts [] h = tt
key_texts (Token.end_object ∷ ts) h = (tt, h.1)
key_texts (Token.key s ∷ ts) h = (tt, h.1)
key_texts (t ∷ ts) h = tt

module _ (one : Parse Json) (h : Parses HasTexts one) where
  item_texts : (more : Parse json.Items) → Parses ItemsHaveTexts more → (ts : List Token) → Each TokenText ts → (o : Option (List Token)) → Yields (Each TokenText) o → Yields (Parsed ItemsHaveTexts) (items_step one more ts o)
  item_texts more m ts t (Some rest) r = (tt, r)
  item_texts more m ts t None r =
      yields_then (Parsed HasTexts) (Parsed ItemsHaveTexts) (one ts) (λ p. parse_map (json.item p.0) (more p.1))
      (λ p q. parse_mapped ItemsHaveTexts ItemsHaveTexts (json.item p.0) (λ js k. (q.0, k)) (more p.1) (m p.1 q.1))
      (h ts t)

  items_texts : (n : ℕ) → Parses ItemsHaveTexts (items one n)
  unfolding items
  items_texts zero ts t = tt
  items_texts (suc n) ts t = item_texts (items one n) (items_texts n) ts t (after_end_array ts) (end_texts ts t)

  member_texts : (more : Parse json.Members) → Parses MembersHaveTexts more → (k : Option (List ℕ)) → Parses MembersHaveTexts (members_step one more k)
  member_texts more m None ts t = (tt, t)
  member_texts more m (Some k) ts t =
      yields_then (Parsed HasTexts) (Parsed MembersHaveTexts) (one ts) (λ p. parse_map (json.member k p.0) (more p.1))
      (λ p q. parse_mapped MembersHaveTexts MembersHaveTexts (json.member k p.0) (λ ms l. (q.0, l)) (more p.1) (m p.1 q.1))
      (h ts t)

  members_texts : (n : ℕ) → Parses MembersHaveTexts (members one n)
  unfolding members
  members_texts zero ts t = tt
  members_texts (suc n) ts t =
      yields_then (Parsed {A = Option (List ℕ)} (λ k. ⊤)) (Parsed MembersHaveTexts) (read_key ts) (λ p. members_step one (members one n) p.0 p.1)
      (λ p q. member_texts (members one n) (members_texts n) p.0 p.1 q.1) (key_texts ts t)

with_texts : (a : Parse json.Items) (o : Parse json.Members) → Parses ItemsHaveTexts a → Parses MembersHaveTexts o → Parses HasTexts (value_with a o)
with_texts a o f g [] t = tt
with_texts a o f g (Token.begin_object ∷ ts) t = parse_mapped MembersHaveTexts HasTexts json.object (λ ms h. h) (o ts) (g ts t.1)
with_texts a o f g (Token.begin_array ∷ ts) t = parse_mapped ItemsHaveTexts HasTexts json.array (λ js h. h) (a ts) (f ts t.1)
with_texts a o f g (Token.string s ∷ ts) t = t
with_texts a o f g (Token.number s ∷ ts) t = t
with_texts a o f g (Token.boolean b ∷ ts) t = t
with_texts a o f g (Token.null ∷ ts) t = t
with_texts a o f g (Token.end_object ∷ ts) t = tt
with_texts a o f g (Token.end_array ∷ ts) t = tt
with_texts a o f g (Token.key s ∷ ts) t = tt
with_texts a o f g (Token.bad ∷ ts) t = tt

value_texts : (depth : ℕ) → Parses HasTexts (value depth)
unfolding value
value_texts zero = with_texts (λ ts. None) (λ ts. None) (λ ts t. tt) (λ ts t. tt)
value_texts (suc depth) =
    with_texts (λ ts. items (value depth) (length ts) ts) (λ ts. members (value depth) (length ts) ts)
    (λ ts. items_texts (value depth) (value_texts depth) (length ts) ts) (λ ts. members_texts (value depth) (value_texts depth) (length ts) ts)

-- ---- data

abbrev HasWidth : Num → Type 0
HasWidth (unsigned n) = n < 2 ^ 64
HasWidth (negative z) = IsSigned z
HasWidth (float x) = ⊤

abbrev mutual
  pub IsSound : Data → Type 0
  IsSound null = ⊤
  IsSound (boolean b) = ⊤
  IsSound (number n) = HasWidth n
  IsSound (string s) = IsUtf8 s
  IsSound (array ds) = AreSound ds
  IsSound (object ms) = HasSound ms

  pub AreSound : Items → Type 0
  AreSound no_items = ⊤
  AreSound (item d ds) = IsSound d × AreSound ds

  HasSound : Members → Type 0
  HasSound no_members = ⊤
  HasSound (member k d ms) = IsSound d × HasSound ms

finite_sound : (x : Float) → Yields HasWidth (cond (float_is_finite x) (Some (float x)) None)
finite_sound x = yields_if HasWidth (float_is_finite x) (Some (float x)) None (λ e. tt) (λ e. tt)

signed_sound : (n : ℕ) → 0 < n → n ≤ 2 ^ 63 → IsSigned (neg_ℤ (pos n))
signed_sound zero some few = absurd (omega arith)
signed_sound (suc n) some few = omega arith

-- a number whose digits are n, as it is whole or not, and as it is near x
whole_sound : (whole : Bool) (n : ℕ) (x : Float) → Yields HasWidth (cond (whole && nat_lt n (2 ^ 64)) (Some (unsigned n)) (cond (float_is_finite x) (Some (float x)) None))
whole_sound whole n x =
    yields_if HasWidth (whole && nat_lt n (2 ^ 64)) (Some (unsigned n)) _ (λ e. ltb-true n (2 ^ 64) (and_parts whole (nat_lt n (2 ^ 64)) e).1) (λ e. finite_sound x)

below_sound : (whole : Bool) (n : ℕ) (x : Float) → Yields HasWidth (cond (whole && nat_lt 0 n && nat_le n (2 ^ 63)) (Some (negative (neg_ℤ (pos n)))) (cond (float_is_finite x) (Some (float x)) None))
below_sound whole n x =
    yields_if HasWidth (whole && nat_lt 0 n && nat_le n (2 ^ 63)) (Some (negative (neg_ℤ (pos n)))) _
    (λ e.
    let q = and_parts (whole && nat_lt 0 n) (nat_le n (2 ^ 63)) e in
    signed_sound n (ltb-true 0 n (and_parts whole (nat_lt 0 n) q.0).1) (leb-true n (2 ^ 63) q.1))
    (λ e. finite_sound x)

number_sound : (s : List ℕ) → Yields HasWidth (number_of s)
unfolding number_of
number_sound s = yields_if HasWidth (slice_index s 0 == 45) _ _ (λ e. search below_sound) (λ e. search whole_sound)

put_sound : (k : List ℕ) (d : Data) (ms : Members) → IsSound d → HasSound ms → HasSound (put k d ms)
put_sound k d no_members s h = (s, tt)
put_sound k d (member l e ms) s h = placed (put_sound k d ms s h.1) (slice_cmp nat_cmp k l)
  where
    placed : HasSound (put k d ms) → (o : Ordering) → HasSound (match_ordering o (member k d (member l e ms)) (member l d ms) (member l e (put k d ms)))
    placed more Less = (s, h)
    placed more Equal = (s, h.1)
    placed more Greater = (h.0, more)

mutual
  data_sound : (j : Json) → HasTexts j → Yields IsSound (of_json j)
  data_sound json.null h = tt
  data_sound (json.boolean b) h = tt
  data_sound (json.number s) h = yields_map HasWidth IsSound (number_of s) number (λ n k. k) (number_sound s)
  data_sound (json.string s) h = h
  data_sound (json.array js) h = yields_map AreSound IsSound (of_items js) array (λ ds k. k) (items_sound js h)
  data_sound (json.object ms) h = yields_map HasSound IsSound (of_members ms no_members) object (λ found k. k) (members_sound ms no_members h tt)

  items_sound : (js : json.Items) → ItemsHaveTexts js → Yields AreSound (of_items js)
  items_sound json.no_items h = tt
  items_sound (json.item j js) h =
      yields_then IsSound AreSound (of_json j) (λ d. option_map (item d) (of_items js))
      (λ d s. yields_map AreSound AreSound (of_items js) (item d) (λ ds k. (s, k)) (items_sound js h.1)) (data_sound j h.0)

  members_sound : (ms : json.Members) (found : Members) → MembersHaveTexts ms → HasSound found → Yields HasSound (of_members ms found)
  members_sound json.no_members found h s = s
  members_sound (json.member k j ms) found h s =
      yields_then IsSound HasSound (of_json j) (λ d. of_members ms (put k d found))
      (λ d t. members_sound ms (put k d found) h.1 (put_sound k d found t s)) (data_sound j h.0)

pub read_sound : (text : List ℕ) → IsUtf8 text → Yields IsSound (read text)
read_sound text u =
    yields_then HasTexts IsSound (option_and_then (λ p. if_last p.0 p.1) (value max_depth (tokens text))) of_json data_sound
    (yields_then (Parsed HasTexts) HasTexts (value max_depth (tokens text)) (λ p. if_last p.0 p.1) (λ p h. last p.0 p.1 h.0) (value_texts max_depth (tokens text) (token_texts text u)))
  where
    last : (j : Json) (ts : List Token) → HasTexts j → Yields HasTexts (if_last j ts)
    last j [] h = h
    last j (t ∷ ts) h = tt

-- ---- looking into data

member_sound : (key : List ℕ) (ms : Members) → HasSound ms → Yields IsSound (get_member key ms)
member_sound key no_members h = tt
member_sound key (member l e ms) h = found (member_sound key ms h.1) (slice_cmp nat_cmp key l)
  where
    found : Yields IsSound (get_member key ms) → (o : Ordering) → Yields IsSound (match_ordering o (get_member key ms) (Some e) (get_member key ms))
    found later Less = later
    found later Equal = h.0
    found later Greater = later

pub get_sound : (key : List ℕ) (d : Data) → IsSound d → Yields IsSound (get key d)
get_sound key null h = tt
get_sound key (boolean b) h = tt
get_sound key (number n) h = tt
get_sound key (string s) h = tt
get_sound key (array ds) h = tt
get_sound key (object ms) h = member_sound key ms h

pub str_utf8 : (d : Data) → IsSound d → Yields IsUtf8 (as_str d)
str_utf8 null h = tt
str_utf8 (boolean b) h = tt
str_utf8 (number n) h = tt
str_utf8 (string s) h = h
str_utf8 (array ds) h = tt
str_utf8 (object ms) h = tt

abbrev pub IsNatural : ℕ → Type 0
IsNatural n = n < 2 ^ 64

pub natural_few : (d : Data) → IsSound d → Yields IsNatural (natural_of d)
natural_few null h = tt
natural_few (boolean b) h = tt
natural_few (number (unsigned n)) h = h
natural_few (number (negative z)) h = tt
natural_few (number (float x)) h = tt
natural_few (string s) h = tt
natural_few (array ds) h = tt
natural_few (object ms) h = tt

pub integer_signed : (d : Data) → IsSound d → Yields IsSigned (as_number d >>= as_i64)
integer_signed null h = tt
integer_signed (boolean b) h = tt
integer_signed (number (unsigned n)) h = yields_if IsSigned (nat_lt n (2 ^ 63)) _ None (λ e. ltb-true n (2 ^ 63) e) (λ e. tt)
integer_signed (number (negative z)) h = h
integer_signed (number (float x)) h = tt
integer_signed (string s) h = tt
integer_signed (array ds) h = tt
integer_signed (object ms) h = tt
