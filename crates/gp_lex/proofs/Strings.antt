-- A string is cut off where it ends.
use Rattle.std.proofs.Common.{◌≡◌, ℕ, ◌<◌, ◌≤◌, ◌+◌, Bool, true, false, eqb, eq-eqb, not, ◌&&◌, ◌||◌, [], ◌∷◌, ◌++◌, length, take, drop, Option, Some, None, refl, sym, ap, ◌∙◌, arith, append_assoc}
use Rattle.std.proofs.lemmas.List.{take-append-le, drop-append-le, take-append-drop, length-take-le}
use Rattle.std.proofs.Math.Seq.{drop-length}
use Rattle.std.proofs.lemmas.Bool.{eqb-true}
use Rattle.std.proofs.lemmas.Bool.Decides.{nat_tests}
use Rattle.std.specs.Prelude.{option_map}
use Rattle.gp_lex.specs.Chars.{Text, is_quote, is_plain, every, run}
use Rattle.gp_lex.specs.Tokens.{begins_twice, begins_thrice, closing, triple_quoted, single_quoted, string_at}
use Rattle.gp_lex.specs.Pieces.{splits_quotes}
use Rattle.gp_lex.proofs.Fronts.{yes, no, chosen, runs, run_is}
use Rattle.gp_lex.proofs.Symbols.{some, some_is}

abbrev Cut : Type 0
Cut = Text × Text

map_some : {A B : Type 0} (f : A → B) (o : Option A) (y : B) → option_map f o ≡ Some y → (x : A) × (o ≡ Some x) × (f x ≡ y)
map_some f (Some x) y e = (x, refl, some_is (f x) y e)
map_some f None y e = absurd cc

false_true : {A : Type 0} → false ≡ true → A
false_true e = absurd cc

-- ---- three quotes

thrice_extends : (q : ℕ) (cs rest : Text) → 3 ≤ length cs → begins_thrice q (cs ++ rest) ≡ begins_thrice q cs
thrice_extends q [] rest le = absurd (omega arith)
thrice_extends q (c ∷ []) rest le = absurd (omega arith)
thrice_extends q (c ∷ d ∷ []) rest le = absurd (omega arith)
thrice_extends q (c ∷ d ∷ e ∷ cs) rest le = refl

never : (b : Bool) → (b && false) ≡ false
never true = refl
never false = refl

thrice_long : (q : ℕ) (cs : Text) → begins_thrice q cs ≡ true → 3 ≤ length cs
thrice_long q [] h = absurd cc
thrice_long q (c ∷ []) h = false_true (sym (never (eqb c q)) ∙ h)
thrice_long q (c ∷ d ∷ []) h = false_true (sym (never (eqb c q)) ∙ h)
thrice_long q (c ∷ d ∷ e ∷ cs) h = omega arith

pub closing_bound : (q : ℕ) (cs : Text) (n : ℕ) → closing q cs ≡ Some n → n + 3 ≤ length cs
unfolding closing
closing_bound q [] n e = absurd cc
closing_bound q (c ∷ []) n e = absurd cc
closing_bound q (c ∷ d ∷ cs) n e =
    elim (chosen (eqb c 92) _ _ _ e) [
      | yes h go ↦ let x = map_some (λ (m : ℕ). m + 2) (closing q cs) n go in omega (arith, closing_bound q cs x.0 x.1, x.2)
      | no h go ↦
          elim (chosen (begins_thrice q (c ∷ d ∷ cs)) _ _ _ go) [
            | yes k end ↦ let zero_is = some_is 0 n end in omega (arith, thrice_long q (c ∷ d ∷ cs) k, zero_is)
            | no k end ↦ let x = map_some (λ (m : ℕ). m + 1) (closing q (d ∷ cs)) n end in omega (arith, closing_bound q (d ∷ cs) x.0 x.1, x.2)
          ]
    ]

pub closing_extends : (q : ℕ) (cs rest : Text) (n : ℕ) → closing q cs ≡ Some n → closing q (cs ++ rest) ≡ Some n
unfolding closing
closing_extends q [] rest n e = absurd cc
closing_extends q (c ∷ []) rest n e = absurd cc
closing_extends q (c ∷ d ∷ cs) rest n e =
    elim (chosen (eqb c 92) _ _ _ e) [
      | yes h go ↦ let x = map_some (λ (m : ℕ). m + 2) (closing q cs) n go in rw (h, closing_extends q cs rest x.0 x.1) (ap some x.2)
      | no h go ↦
          elim (chosen (begins_thrice q (c ∷ d ∷ cs)) _ _ _ go) [
            | yes k end ↦ let more = thrice_extends q (c ∷ d ∷ cs) rest (thrice_long q (c ∷ d ∷ cs) k) in rw (h, more, k) end
            | no k end ↦
                let x = map_some (λ (m : ℕ). m + 1) (closing q (d ∷ cs)) n end in
                let bound = closing_bound q (d ∷ cs) x.0 x.1 in
                let more = thrice_extends q (c ∷ d ∷ cs) rest (omega arith) in
                rw (h, more, k, closing_extends q (d ∷ cs) rest x.0 x.1) (ap some x.2)
          ]
    ]

pub closing_narrows : (q : ℕ) (cs rest : Text) (n : ℕ) → closing q (cs ++ rest) ≡ Some n → n + 3 ≤ length cs → closing q cs ≡ Some n
unfolding closing
closing_narrows q [] rest n e le = absurd (omega arith)
closing_narrows q (c ∷ []) rest n e le = absurd (omega arith)
closing_narrows q (c ∷ d ∷ cs) rest n e le =
    elim (chosen (eqb c 92) _ _ _ e) [
      | yes h go ↦ let x = map_some (λ (m : ℕ). m + 2) (closing q (cs ++ rest)) n go in rw (h, closing_narrows q cs rest x.0 x.1 (omega (arith, x.2))) (ap some x.2)
      | no h go ↦
          let more = thrice_extends q (c ∷ d ∷ cs) rest (omega arith) in
          elim (chosen (begins_thrice q (c ∷ d ∷ (cs ++ rest))) _ _ _ go) [
            | yes k end ↦ let here = sym more ∙ k in rw (h, here) end
            | no k end ↦
                let x = map_some (λ (m : ℕ). m + 1) (closing q (d ∷ (cs ++ rest))) n end in
                let here = sym more ∙ k in
                rw (h, here, closing_narrows q (d ∷ cs) rest x.0 x.1 (omega (arith, x.2))) (ap some x.2)
          ]
    ]

-- ---- one quote

not_plain : (x y z : Bool) → not (x || y || z) ≡ true → x ≡ false
not_plain true y z h = absurd cc
not_plain false y z h = refl

eqb_same : (n : ℕ) → eqb n n ≡ true
eqb_same n = eq-eqb n n refl

quote_stops : (q : ℕ) → is_plain q q ≡ false
quote_stops q = rw eqb_same refl

twice_first : (q c : ℕ) (cs : Text) → eqb c q ≡ false → begins_twice q (c ∷ cs) ≡ false
twice_first q c [] h = refl
twice_first q c (d ∷ cs) h = rw h refl

-- a text that begins with a plain character doesn't begin with the quote
twice_plain : (q c : ℕ) (b rest : Text) → every (is_plain q) (c ∷ b) ≡ true → begins_twice q ((c ∷ b) ++ rest) ≡ false
twice_plain q c b rest pass =
    elim (chosen (is_plain q c) _ _ _ pass) [
      | yes h go ↦ twice_first q c (b ++ rest) (not_plain (eqb c q) (eqb c 92) (eqb c 10) h)
      | no h go ↦ false_true go
    ]

plain_string : (q : ℕ) (b rest : Text) → every (is_plain q) b ≡ true → begins_twice q (b ++ q ∷ rest) ≡ false → string_at q (b ++ q ∷ rest) ≡ Some (b, rest)
unfolding string_at
plain_string q b rest pass single = rw (single, run_is (is_plain q) b (q ∷ rest) pass (quote_stops q), eqb_same) refl

single_is : (q : ℕ) (body tail b rest : Text) → single_quoted q body tail ≡ Some (b, rest) → (body ≡ b) × (tail ≡ q ∷ rest)
single_is q body [] b rest e = absurd cc
single_is q body (c ∷ cs) b rest e =
    elim (chosen (eqb c q) _ _ _ e) [
      | yes h go ↦
          let same = some_is (body, cs) (b, rest) go in
          (ap (λ (x : Cut). x.0) same, ap (λ (z : ℕ). z ∷ cs) (eqb-true c q h) ∙ ap (λ (x : Cut). q ∷ x.1) same)
      | no h go ↦ absurd cc
    ]

triple_is : (cs : Text) (o : Option ℕ) (b rest : Text) → triple_quoted cs o ≡ Some (b, rest) → (n : ℕ) × (o ≡ Some n) × (take n cs ≡ b) × (drop (n + 3) cs ≡ rest)
triple_is cs None b rest e = absurd cc
triple_is cs (Some n) b rest e =
    let same = some_is (take n cs, drop (n + 3) cs) (b, rest) e in
    (n, refl, ap (λ (x : Cut). x.0) same, ap (λ (x : Cut). x.1) same)

-- a string of one line: its plain characters and its closing quote
record Line (q : ℕ) (cs b rest : Text) : Type 0 where
  parts : cs ≡ b ++ q ∷ rest
  plain : every (is_plain q) b ≡ true

line_is : (q : ℕ) (cs b rest : Text) → single_quoted q (run (is_plain q) cs).0 (run (is_plain q) cs).1 ≡ Some (b, rest) → Line q cs b rest
line_is q cs b rest e =
    let r = runs (is_plain q) cs in
    let s = single_is q (run (is_plain q) cs).0 (run (is_plain q) cs).1 b rest e in
    record {
      parts = r.parts ∙ ap (λ (z : Text). z ++ (run (is_plain q) cs).1) s.0 ∙ ap (λ (z : Text). b ++ z) s.1;
      plain = ap (every (is_plain q)) (sym s.0) ∙ r.pass;
    }

-- a string of three quotes
record Triple (q : ℕ) (cs b rest : Text) : Type 0 where
  count : ℕ
  closes : closing q cs ≡ Some count
  body : take count cs ≡ b
  behind : drop (count + 3) cs ≡ rest

data Kind (q : ℕ) (cs b rest : Text) : Type 0 where
  line : begins_twice q cs ≡ false → Line q cs b rest → Kind q cs b rest
  triple : begins_twice q cs ≡ true → Triple q (drop 2 cs) b rest → Kind q cs b rest

kind_of : (q : ℕ) (cs b rest : Text) → string_at q cs ≡ Some (b, rest) → Kind q cs b rest
unfolding string_at
kind_of q cs b rest e =
    elim (chosen (begins_twice q cs) _ _ _ e) [
      | yes h go ↦
          let t = triple_is (drop 2 cs) (closing q (drop 2 cs)) b rest go in
          triple h (record { count = t.0; closes = t.1; body = t.2; behind = t.3 })
      | no h go ↦ line h (line_is q cs b rest go)
    ]

triple_string : (q c d : ℕ) (cs b rest : Text) → begins_twice q (c ∷ d ∷ cs) ≡ true → Triple q cs b rest → string_at q (c ∷ d ∷ cs) ≡ Some (b, rest)
unfolding string_at
triple_string q c d cs b rest h t = rw (h, t.closes) (ap (λ (z : Text). some (z, drop (t.count + 3) cs)) t.body ∙ ap (λ (z : Text). some (b, z)) t.behind)

-- ---- the whole string

-- no third quote
no_third : (q e : ℕ) (rest : Text) → is_quote q ≡ true → splits_quotes (q ∷ q ∷ []) (e ∷ rest) ≡ false → begins_twice q (q ∷ e ∷ rest) ≡ false
no_third q e rest h s = grind (arith, nat_tests)

third : (q e : ℕ) (rest : Text) → begins_twice q (q ∷ e ∷ rest) ≡ false → splits_quotes (q ∷ q ∷ []) (e ∷ rest) ≡ false
third q e rest h = grind (arith, nat_tests)

-- the closing quote isn't the second of three
not_twice : (q : ℕ) (b rest : Text) → is_quote q ≡ true → every (is_plain q) b ≡ true → splits_quotes (q ∷ (b ++ q ∷ [])) rest ≡ false → begins_twice q (b ++ q ∷ rest) ≡ false
not_twice q [] [] h pass s = refl
not_twice q [] (e ∷ rest) h pass s = no_third q e rest h s
not_twice q (c ∷ b) rest h pass s = twice_plain q c b (q ∷ rest) pass

line_extends : (q : ℕ) (a rest b : Text) → is_quote q ≡ true → Line q a b [] → splits_quotes (q ∷ a) rest ≡ false → string_at q (a ++ rest) ≡ Some (b, rest)
line_extends q a rest b h l s =
    let whole : splits_quotes (q ∷ (b ++ q ∷ [])) rest ≡ false = ap (λ (z : Text). splits_quotes (q ∷ z) rest) (sym l.parts) ∙ s in
    let joined : a ++ rest ≡ b ++ q ∷ rest = ap (λ (z : Text). z ++ rest) l.parts ∙ append_assoc b (q ∷ []) rest in
    ap (string_at q) joined ∙ plain_string q b rest l.plain (not_twice q b rest h l.plain whole)

triple_extends : (q : ℕ) (cs rest b : Text) → Triple q cs b [] → Triple q (cs ++ rest) b rest
triple_extends q cs rest b t =
    let bound = closing_bound q cs t.count t.closes in
    record {
      count = t.count;
      closes = closing_extends q cs rest t.count t.closes;
      body = take-append-le t.count cs rest (omega arith) ∙ t.body;
      behind = drop-append-le (t.count + 3) cs rest bound ∙ ap (λ (z : Text). z ++ rest) t.behind;
    }

string_extends_by : (q : ℕ) (a rest b : Text) → is_quote q ≡ true → Kind q a b [] → splits_quotes (q ∷ a) rest ≡ false → string_at q (a ++ rest) ≡ Some (b, rest)
string_extends_by q a rest b h (line single l) s = line_extends q a rest b h l s
string_extends_by q [] rest b h (triple twice t) s = false_true twice
string_extends_by q (c ∷ []) rest b h (triple twice t) s = false_true twice
string_extends_by q (c ∷ d ∷ a) rest b h (triple twice t) s = triple_string q c d (a ++ rest) b rest twice (triple_extends q a rest b t)

-- a whole string is cut off before any text that doesn't make its quotes three
pub string_extends : (q : ℕ) (a rest b : Text) → is_quote q ≡ true → string_at q a ≡ Some (b, []) → splits_quotes (q ∷ a) rest ≡ false → string_at q (a ++ rest) ≡ Some (b, rest)
string_extends q a rest b h e s = string_extends_by q a rest b h (kind_of q a b [] e) s

-- what is cut off is a whole string
pub record StringCut (q : ℕ) (cs b rest : Text) : Type 0 where
  pub text : Text
  pub parts : cs ≡ text ++ rest
  pub spells : string_at q text ≡ Some (b, [])
  pub whole : splits_quotes (q ∷ text) rest ≡ false

line_whole : (q : ℕ) (b rest : Text) → begins_twice q (b ++ q ∷ rest) ≡ false → splits_quotes (q ∷ (b ++ q ∷ [])) rest ≡ false
line_whole q [] [] h = refl
line_whole q [] (e ∷ rest) h = third q e rest h
line_whole q (c ∷ []) rest h = refl
line_whole q (c ∷ d ∷ b) rest h = refl

line_single : (q : ℕ) (b : Text) → every (is_plain q) b ≡ true → begins_twice q (b ++ q ∷ []) ≡ false
line_single q [] pass = refl
line_single q (c ∷ b) pass = twice_plain q c b (q ∷ []) pass

line_cut : (q : ℕ) (cs b rest : Text) → begins_twice q cs ≡ false → Line q cs b rest → StringCut q cs b rest
line_cut q cs b rest single l = record {
  text = b ++ q ∷ [];
  parts = l.parts ∙ sym (append_assoc b (q ∷ []) rest);
  spells = plain_string q b [] l.plain (line_single q b l.plain);
  whole = line_whole q b rest (ap (begins_twice q) (sym l.parts) ∙ single);
}

-- the front of three quotes that closes them
triple_narrows : (q : ℕ) (cs b rest : Text) (t : Triple q cs b rest) → Triple q (take (t.count + 3) cs) b []
triple_narrows q cs b rest t =
    let n = t.count in
    let bound = closing_bound q cs n t.closes in
    let len : length (take (n + 3) cs) ≡ n + 3 = length-take-le (n + 3) cs bound in
    let join : take (n + 3) cs ++ drop (n + 3) cs ≡ cs = take-append-drop (n + 3) cs in
    record {
      count = n;
      closes = closing_narrows q (take (n + 3) cs) (drop (n + 3) cs) n (ap (closing q) join ∙ t.closes) (omega arith);
      body = sym (take-append-le n (take (n + 3) cs) (drop (n + 3) cs) (omega arith)) ∙ ap (take n) join ∙ t.body;
      behind = ap (λ (k : ℕ). drop k (take (n + 3) cs)) (sym len) ∙ drop-length (take (n + 3) cs);
    }

long_whole : (q c d : ℕ) (a rest : Text) → 0 < length a → splits_quotes (q ∷ c ∷ d ∷ a) rest ≡ false
long_whole q c d [] rest lt = absurd (omega arith)
long_whole q c d (e ∷ a) rest lt = refl

triple_cut : (q c d : ℕ) (cs b rest : Text) → begins_twice q (c ∷ d ∷ cs) ≡ true → Triple q cs b rest → StringCut q (c ∷ d ∷ cs) b rest
triple_cut q c d cs b rest twice t =
    let bound = closing_bound q cs t.count t.closes in
    let len : length (take (t.count + 3) cs) ≡ t.count + 3 = length-take-le (t.count + 3) cs bound in
    let join : take (t.count + 3) cs ++ drop (t.count + 3) cs ≡ cs = take-append-drop (t.count + 3) cs in
    record {
      text = c ∷ d ∷ take (t.count + 3) cs;
      parts = ap (λ (z : Text). c ∷ d ∷ z) (sym join ∙ ap (λ (z : Text). take (t.count + 3) cs ++ z) t.behind);
      spells = triple_string q c d (take (t.count + 3) cs) b [] twice (triple_narrows q cs b rest t);
      whole = long_whole q c d (take (t.count + 3) cs) rest (omega arith);
    }

string_cut_by : (q : ℕ) (cs b rest : Text) → Kind q cs b rest → StringCut q cs b rest
string_cut_by q cs b rest (line single l) = line_cut q cs b rest single l
string_cut_by q [] b rest (triple twice t) = false_true twice
string_cut_by q (c ∷ []) b rest (triple twice t) = false_true twice
string_cut_by q (c ∷ d ∷ cs) b rest (triple twice t) = triple_cut q c d cs b rest twice t

pub string_cut : (q : ℕ) (cs b rest : Text) → string_at q cs ≡ Some (b, rest) → StringCut q cs b rest
string_cut q cs b rest e = string_cut_by q cs b rest (kind_of q cs b rest e)
