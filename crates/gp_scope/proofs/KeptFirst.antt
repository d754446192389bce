-- What tables of a scope hold after a value was added, of which the first of a name counts.
use Rattle.std.proofs.Common.{◌≡◌, ℕ, Bool, true, false, cond, List, Option, Some, None, is_some, option_map, refl, sym, ap, subst, ◌∙◌, if◌then◌else◌, bytes_eq, string_bytes, nat_eq, true≢false, arith}
use Rattle.std.specs.String.{string_eq}
use Rattle.std.specs.Option.{option_or}
use Rattle.std.specs.declared.string.String.{String}
use Rattle.std.specs.declared.alloc.Global.{Global}
use Rattle.std.proofs.lemmas.Bool.Decides.{nat_tests}
use Rattle.std.proofs.lemmas.Slice.Eq.{bytes_eq-Decides}
use Rattle.std.proofs.lemmas.Map.Text.{hash_map_updates_text}
use Rattle.indexmap.specs.IndexMap.{IndexMap, get_by, get_by_text}
use Rattle.indexmap.specs.IndexMap as map_spec
use Rattle.gp_scope.specs.Tables.{Hasher}
use Rattle.gp_scope.proofs.TableLemmas.{bytes_eq-sym}

or_none : {A : Type 0} (r : Option A) → r ≡ option_or r None
or_none None = refl
or_none (Some x) = refl

not_some : {A : Type 0} (r : Option A) → is_some r ≡ false → r ≡ None
not_some None h = refl
not_some (Some x) h = absurd (true≢false h)

-- a value is added where a look-up found none
added : {A : Type 0} (b c : Bool) (old : Option A) (v : A) → b ≡ c → (b ≡ true → old ≡ None) → cond b (Some v) old ≡ option_or old (if c then Some v else None)
added true true old v e h = ap (λ r. option_or r (Some v)) (sym (h refl))
added true false old v e h = absurd (true≢false e)
added false true old v e h = absurd (true≢false (sym e))
added false false old v e h = or_none old

pub text-add : {V : Type 0} (m n : IndexMap (String Global) V Hasher) (k : String Global) (v : V) (name : List ℕ) → string_bytes k ≡ name
    → map_spec.Updates string_eq m n k (Some v) → is_some (get_by_text m name) ≡ false
    → (q : List ℕ) → get_by_text n q ≡ option_or (get_by_text m q) (if bytes_eq q name then Some v else None)
text-add m n k v name is h absent q =
    hash_map_updates_text (string_bytes k) m n (Some v) h q
    ∙ added (bytes_eq (string_bytes k) q) (bytes_eq q name) (get_by_text m q) v
    (ap (λ t. bytes_eq t q) is ∙ bytes_eq-sym name q)
    (λ e. not_some (get_by_text m q) (subst (λ t. is_some (get_by_text m t) ≡ false) (sym is ∙ (bytes_eq-Decides (string_bytes k) q).0 e) absent))

pub line-add : {V : Type 0} (m n : IndexMap ℕ V Hasher) (k : ℕ) (v : V) → map_spec.Updates nat_eq m n k (Some v) → is_some (get_by (nat_eq k) m) ≡ false
    → (q : ℕ) → get_by (nat_eq q) n ≡ option_or (get_by (nat_eq q) m) (if nat_eq q k then Some v else None)
line-add m n k v h absent q =
    h.0 q
    ∙ added (nat_eq k q) (nat_eq q k) (get_by (nat_eq q) m) v (nat_eq-sym k q)
    (λ e. not_some (get_by (nat_eq q) m) (subst (λ t. is_some (get_by (nat_eq t) m) ≡ false) (nat_eq-is k q e) absent))
  where
    nat_eq-is : (a b : ℕ) → nat_eq a b ≡ true → a ≡ b
    nat_eq-is a b e = grind (arith, nat_tests)

    nat_eq-sym : (a b : ℕ) → nat_eq a b ≡ nat_eq b a
    nat_eq-sym a b = grind (arith, nat_tests)

-- a value goes from what is left into a table
pub moved : {V D A : Type 0} (view : V → A) (value : D → A) (old new : Option V) (b : Bool) (made : V) (d : D) (rest : Option D) (target : Option A)
    → new ≡ option_or old (if b then Some made else None) → (b ≡ true → view made ≡ value d)
    → option_or (option_map view old) (option_map value (cond b (Some d) rest)) ≡ target → option_or (option_map view new) (option_map value rest) ≡ target
moved view value (Some x) new b made d rest target e same h = ap (λ r. option_or (option_map view r) (option_map value rest)) e ∙ h
moved view value None new true made d rest target e same h = ap (λ r. option_or (option_map view r) (option_map value rest)) e ∙ ap Some (same refl) ∙ h
moved view value None new false made d rest target e same h = ap (λ r. option_or (option_map view r) (option_map value rest)) e ∙ h
