-- What tables of names hold after a name was added.
use Rattle.std.proofs.Common.{◌≡◌, ℕ, suc, ◌+◌, ◌<◌, Bool, true, false, cond, not, ◌||◌, List, [], ◌∷◌, ◌++◌, map, length, get_or, drop, Bor, refl, sym, ap, subst, ◌∙◌, if◌then◌else◌, bytes_eq, Option, Some, None, is_some, option_map, string_bytes, drop-cons, add-one, true≢false}
use Rattle.std.specs.List.{list_any}
use Rattle.std.specs.String.{string_eq}
use Rattle.std.specs.Option.{option_or}
use Rattle.std.specs.declared.string.String.{String}
use Rattle.std.specs.declared.alloc.Global.{Global}
use Rattle.std.proofs.lemmas.Slice.Eq.{bytes_eq-Decides}
use Rattle.std.proofs.lemmas.Map.Text.{hash_set_updates_text, hash_map_updates_str}
use Rattle.indexmap.specs.IndexMap.{IndexMap, get_by}
use Rattle.indexmap.specs.IndexMap as map_spec
use Rattle.indexmap.specs.IndexSet.{IndexSet, insert_key}
use Rattle.indexmap.specs.IndexSet as set_spec
use Rattle.gp_tree.specs.declared.struct_decl.StructDecl.{StructDecl}
use Rattle.gp_tree.specs.Program.{struct_definition, StructDefinition}
use Rattle.gp_scope.specs.Checks.{is_among}
use Rattle.gp_scope.specs.Tables.{Hasher, has_name, struct_at, texts}

-- what is left of a list, from an item on
pub left : {A : Type 0} (xs : List A) (i : ℕ) (x : A) → i < length xs → x ≡ get_or xs i x → drop i xs ≡ x ∷ drop (i + 1) xs
left xs i x h e = simp add-one (drop-cons xs i x h ∙ ap (λ y. y ∷ drop (suc i) xs) (sym e))

pub bytes_eq-sym : (a b : List ℕ) → bytes_eq a b ≡ bytes_eq b a
bytes_eq-sym a b = go (bytes_eq a b) (bytes_eq b a) refl refl
  where
    go : (x y : Bool) → bytes_eq a b ≡ x → bytes_eq b a ≡ y → x ≡ y
    go true true e f = refl
    go false false e f = refl
    go true false e f = sym ((bytes_eq-Decides b a).1 (sym ((bytes_eq-Decides a b).0 e))) ∙ f
    go false true e f = sym e ∙ (bytes_eq-Decides a b).1 (sym ((bytes_eq-Decides b a).0 f))

abbrev pub key_texts : List (Bor (List ℕ)) → List (List ℕ)
key_texts ks = map (λ k. k.now) ks

among_keys : (name : List ℕ) (ks : List (Bor (List ℕ))) → is_among name (key_texts ks) ≡ list_any (λ k. bytes_eq name k.now) ks
among_keys name [] = refl
among_keys name (k ∷ ks) = ap (λ b. bytes_eq name k.now || b) (among_keys name ks)

pub among_texts : (name : List ℕ) (s : IndexSet (Bor (List ℕ)) Hasher) → is_among name (texts s) ≡ list_any (λ k. bytes_eq name k.now) s.keys
among_texts name s = among_keys name s.keys

texts-append : (ks : List (Bor (List ℕ))) (k : Bor (List ℕ)) → key_texts (ks ++ k ∷ []) ≡ key_texts ks ++ k.now ∷ []
texts-append [] k = refl
texts-append (x ∷ xs) k = ap (λ l. x.now ∷ l) (texts-append xs k)

-- a new key goes last
pub texts-insert : (s n : IndexSet (Bor (List ℕ)) Hasher) (k : Bor (List ℕ)) → n.keys ≡ insert_key (λ x y. bytes_eq x.now y.now) s.keys k
    → list_any (λ x. bytes_eq k.now x.now) s.keys ≡ false → texts n ≡ texts s ++ k.now ∷ []
texts-insert s n k added e = ap key_texts added ∙ ap (λ b. key_texts (if b then s.keys else s.keys ++ k ∷ [])) e ∙ texts-append s.keys k

pub has_name-insert : (s n : IndexSet (String Global) Hasher) (v : String Global) → set_spec.Updates string_eq s n v true
    → (q : List ℕ) → has_name n q ≡ (bytes_eq q (string_bytes v) || has_name s q)
has_name-insert s n v h q = hash_set_updates_text (string_bytes v) s n true h q ∙ go (bytes_eq (string_bytes v) q) (bytes_eq q (string_bytes v)) (bytes_eq-sym (string_bytes v) q)
  where
    go : (a b : Bool) → a ≡ b → cond a true (has_name s q) ≡ (b || has_name s q)
    go true b e = ap (λ x. x || has_name s q) e
    go false b e = ap (λ x. x || has_name s q) e

regroup : (a r h : Bool) → (r || (a || h)) ≡ ((a || r) || h)
regroup true true h = refl
regroup true false h = refl
regroup false true h = refl
regroup false false h = refl

-- a name goes from what is left into the set
pub names_step : (q : List ℕ) (xs : List (List ℕ)) (i : ℕ) (x : List ℕ) (old new target : Bool) → i < length xs → x ≡ get_or xs i x → new ≡ (bytes_eq q x || old)
    → (is_among q (drop i xs) || old) ≡ target → (is_among q (drop (i + 1) xs) || new) ≡ target
names_step q xs i x old new target h e added before =
    ap (λ b. is_among q (drop (i + 1) xs) || b) added ∙ regroup (bytes_eq q x) (is_among q (drop (i + 1) xs)) old
    ∙ sym (ap (λ l. is_among q l || old) (left xs i x h e)) ∙ before

pub struct_at-insert : (m n : IndexMap (Bor (List ℕ)) (Bor StructDecl) Hasher) (k : Bor (List ℕ)) (v : Bor StructDecl)
    → map_spec.Updates (λ x y. bytes_eq x.now y.now) m n k (Some v) → is_some (get_by (λ x. bytes_eq k.now x.now) m) ≡ false
    → (q : List ℕ) → struct_at n q ≡ option_or (struct_at m q) (if bytes_eq q k.now then Some (struct_definition v.now) else None)
struct_at-insert m n k v h absent q = ap (option_map (λ s. struct_definition s.now)) (hash_map_updates_str k.now m n (Some v) h q) ∙ go (bytes_eq k.now q) refl
  where
    none : (r : Option (Bor StructDecl)) → is_some r ≡ false → option_map (λ s. struct_definition s.now) r ≡ None
    none None e = refl
    none (Some x) e = absurd (true≢false e)

    same : (b : Bool) → bytes_eq q k.now ≡ b → (r : Option StructDefinition) → r ≡ option_or r (if b then Some (struct_definition v.now) else None) → r ≡ option_or r (if bytes_eq q k.now then Some (struct_definition v.now) else None)
    same b e r g = subst (λ x. r ≡ option_or r (if x then Some (struct_definition v.now) else None)) (sym e) g

    right : (r : Option StructDefinition) → r ≡ option_or r None
    right None = refl
    right (Some x) = refl

    go : (b : Bool) → bytes_eq k.now q ≡ b
        → option_map (λ s. struct_definition s.now) (cond b (Some v) (get_by (λ x. bytes_eq q x.now) m))
        ≡ option_or (struct_at m q) (if bytes_eq q k.now then Some (struct_definition v.now) else None)
    go false e = same false (bytes_eq-sym q k.now ∙ e) (struct_at m q) (right (struct_at m q))
    go true e =
        let is : k.now ≡ q = (bytes_eq-Decides k.now q).0 e in
        let gone : struct_at m q ≡ None = subst (λ y. struct_at m y ≡ None) is (none (get_by (λ x. bytes_eq k.now x.now) m) absent) in
        ap (λ b. if b then Some (struct_definition v.now) else None) (sym (bytes_eq-sym q k.now ∙ e))
        ∙ ap (λ r. option_or r (if bytes_eq q k.now then Some (struct_definition v.now) else None)) (sym gone)

pub false_of : (r b : Bool) → r ≡ not b → r ≡ true → b ≡ false
false_of r true e h = absurd (true≢false (sym h ∙ e))
false_of r false e h = refl

pub struct_at-add : (m n : IndexMap (Bor (List ℕ)) (Bor StructDecl) Hasher) (k : Bor (List ℕ)) (v : Bor StructDecl) (name : List ℕ) → k.now ≡ name
    → map_spec.Updates (λ x y. bytes_eq x.now y.now) m n k (Some v) → is_some (get_by (λ x. bytes_eq k.now x.now) m) ≡ false
    → (q : List ℕ) → struct_at n q ≡ option_or (struct_at m q) (if bytes_eq q name then Some (struct_definition v.now) else None)
struct_at-add m n k v name is h absent q = struct_at-insert m n k v h absent q ∙ ap (λ t. option_or (struct_at m q) (if bytes_eq q t then Some (struct_definition v.now) else None)) is
