-- Names of a function as texts in memory, and as lists of bytes.
use Rattle.std.proofs.Common.{◌≡◌, ℕ, String, Global, string_bytes, Bool, true, false, List, [], ◌∷◌, ◌++◌, map, refl, ap, ◌∙◌, bytes_eq, position}
use Rattle.std.specs.List.{list_any, position_or_len}
use Rattle.std.proofs.lemmas.List.{length-map}
use Rattle.std.specs.String.{string_eq}
use Rattle.indexmap.specs.IndexSet.{insert_key}
use Rattle.gp_types.specs.declared.signature.SigParam.{SigParam}
use Rattle.gp_types.specs.Signature.{parameter_names, parameter_view}
use Rattle.gp_locals.specs.Locals.{with_name, with_names}

module _ {X Y : Type 0} (g : X → Y) (f : Y → Bool) where
  position_or_len-map : (xs : List X) → position_or_len f (map g xs) ≡ position_or_len (λ x. f (g x)) xs
  position_or_len-map [] = refl
  position_or_len-map (x ∷ xs) = rw (position_or_len-map xs)

  pub position-map : (xs : List X) → position f (map g xs) ≡ position (λ x. f (g x)) xs
  position-map xs = rw (position_or_len-map xs, length-map xs g)

  pub list_any-map : (xs : List X) → list_any f (map g xs) ≡ list_any (λ x. f (g x)) xs
  list_any-map [] = refl
  list_any-map (x ∷ xs) = rw (list_any-map xs)

-- one name after the other
pub with_names_append : (names more others : List (List ℕ)) → with_names names (more ++ others) ≡ with_names (with_names names more) others
with_names_append names [] others = refl
with_names_append names (name ∷ more) others = with_names_append (with_name names name) more others

-- the names of parameters in memory
abbrev pub parameter_name : SigParam → List ℕ
parameter_name p = p.name

pub names_seen : (ps : List SigParam) → map parameter_name ps ≡ parameter_names (map parameter_view ps)
names_seen [] = refl
names_seen (p ∷ ps) = ap (λ (names : List (List ℕ)). parameter_name p ∷ names) (names_seen ps)

-- ---- sets of names

map-snoc : {X Y : Type 0} (g : X → Y) (xs : List X) (x : X) → map g (xs ++ x ∷ []) ≡ map g xs ++ g x ∷ []
map-snoc g [] x = refl
map-snoc g (y ∷ xs) x = rw (map-snoc g xs x)

module _ (keys : List (String Global)) where
  -- whether a text is among the texts of the set
  abbrev has : List ℕ → Bool
  has name = list_any (λ k. bytes_eq name (string_bytes k)) keys

  texts : (name : List ℕ) → list_any (bytes_eq name) (map string_bytes keys) ≡ has name
  texts name = list_any-map string_bytes (bytes_eq name) keys

  pub present : (name : List ℕ) → has name ≡ true → map string_bytes keys ≡ with_name (map string_bytes keys) name
  present name h = let e : list_any (bytes_eq name) (map string_bytes keys) ≡ true = texts name ∙ h in rw e

  pub inserted : (k : String Global) → map string_bytes (insert_key string_eq keys k) ≡ with_name (map string_bytes keys) (string_bytes k)
  inserted k = go (has (string_bytes k)) refl where
    go : (b : Bool) → has (string_bytes k) ≡ b → map string_bytes (insert_key string_eq keys k) ≡ with_name (map string_bytes keys) (string_bytes k)
    go true h = let e : list_any (bytes_eq (string_bytes k)) (map string_bytes keys) ≡ true = texts (string_bytes k) ∙ h in rw (e, h)
    go false h = let e : list_any (bytes_eq (string_bytes k)) (map string_bytes keys) ≡ false = texts (string_bytes k) ∙ h in rw (e, h, map-snoc string_bytes keys k)
