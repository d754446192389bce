-- A search from a struct over what the structs hold.
use Rattle.std.proofs.Common.{◌≡◌, ◌⊎◌, inl, inr, ℕ, Bool, true, false, cond, ◌||◌, ◌&&◌, List, [], ◌∷◌, ◌++◌, Option, Some, None, is_some, option_map, refl, sym, ap, subst, ◌∙◌, true≢false, Bor, bytes_eq, if◌then◌else◌}
use Rattle.std.proofs.lemmas.Slice.Eq.{bytes_eq-Decides}
use Rattle.std.proofs.lemmas.Map.Text.{hash_map_updates_str}
use Rattle.indexmap.specs.IndexMap.{IndexMap, get_by, UpdatesBy}
use Rattle.gp_tree.specs.declared.struct_decl.StructDecl.{StructDecl}
use Rattle.gp_tree.specs.Program.{StructDefinition, struct_definition}
use Rattle.gp_scope.specs.Checks.{is_among}
use Rattle.gp_scope.specs.Tables.{Hasher, struct_at, texts_of}
use Rattle.gp_scope.proofs.TableLemmas.{bytes_eq-sym}

-- a name taken out of a table
pub struct_at-remove : (m n : IndexMap (Bor (List ℕ)) (Bor StructDecl) Hasher) (name : Bor (List ℕ))
    → UpdatesBy (λ x y. bytes_eq x.now y.now) (λ k. bytes_eq name.now k.now) m n None → (q : List ℕ)
    → struct_at n q ≡ (if bytes_eq q name.now then None else struct_at m q)
struct_at-remove m n name h q =
    ap (option_map (λ s. struct_definition s.now)) (hash_map_updates_str name.now m n None h q)
    ∙ go (bytes_eq name.now q)
    ∙ ap (λ b. if b then None else struct_at m q) (bytes_eq-sym name.now q)
  where
    go : (b : Bool) → option_map (λ s. struct_definition s.now) (cond b None (get_by (λ k. bytes_eq q k.now) m)) ≡ (if b then None else struct_at m q)
    go true = refl
    go false = refl

pub among-push : (q : List ℕ) (names : List (Bor (List ℕ))) (name : Bor (List ℕ)) → is_among q (texts_of (names ++ name ∷ [])) ≡ (is_among q (texts_of names) || bytes_eq q name.now)
among-push q [] name = go (bytes_eq q name.now)
  where
    go : (b : Bool) → (b || false) ≡ b
    go true = refl
    go false = refl
among-push q (n ∷ ns) name = ap (λ b. bytes_eq q n.now || b) (among-push q ns name) ∙ go (bytes_eq q n.now)
  where
    go : (b : Bool) → (b || (is_among q (texts_of ns) || bytes_eq q name.now)) ≡ ((b || is_among q (texts_of ns)) || bytes_eq q name.now)
    go true = refl
    go false = refl

-- one name more was taken out
seen_step : (a b : Bool) (was : Option StructDefinition) → (if b then None else if a then None else was) ≡ (if a || b then None else was)
seen_step true true was = refl
seen_step true false was = refl
seen_step false true was = refl
seen_step false false was = refl

pub seen-step : (first m n : IndexMap (Bor (List ℕ)) (Bor StructDecl) Hasher) (names : List (Bor (List ℕ))) (name : Bor (List ℕ))
    → ((q : List ℕ) → struct_at m q ≡ (if is_among q (texts_of names) then None else struct_at first q))
    → UpdatesBy (λ x y. bytes_eq x.now y.now) (λ k. bytes_eq name.now k.now) m n None
    → (q : List ℕ) → struct_at n q ≡ (if is_among q (texts_of (names ++ name ∷ [])) then None else struct_at first q)
seen-step first m n names name before h q =
    struct_at-remove m n name h q
    ∙ ap (λ r. if bytes_eq q name.now then None else r) (before q)
    ∙ seen_step (is_among q (texts_of names)) (bytes_eq q name.now) (struct_at first q)
    ∙ ap (λ b. if b then None else struct_at first q) (sym (among-push q names name))

-- and waits, where the table had it
found_step : (w0 a b s : Bool) → (b ≡ true → s ≡ true) → ((w0 || (a && s)) || b) ≡ (w0 || ((a || b) && s))
found_step true a b s h = refl
found_step false true true true h = refl
found_step false true true false h = absurd (true≢false (sym (h refl)))
found_step false true false true h = refl
found_step false true false false h = refl
found_step false false true true h = refl
found_step false false true false h = absurd (true≢false (sym (h refl)))
found_step false false false true h = refl
found_step false false false false h = refl

missing_step : (w0 a b s : Bool) → (b ≡ true → (a ≡ true) ⊎ (s ≡ false)) → (w0 || (a && s)) ≡ (w0 || ((a || b) && s))
missing_step true a b s h = refl
missing_step false true b s h = refl
missing_step false false false s h = refl
missing_step false false true false h = refl
missing_step false false true true h = elim (h refl) [ inl e ↦ absurd (true≢false (sym e)) | inr e ↦ absurd (true≢false e) ]

had : (a : Bool) (was : Option StructDefinition) → is_some (if a then None else was) ≡ true → is_some was ≡ true
had true was h = absurd (true≢false (sym h))
had false was h = h

had_not : (a : Bool) (was : Option StructDefinition) → is_some (if a then None else was) ≡ false → (a ≡ true) ⊎ (is_some was ≡ false)
had_not true was h = inl refl
had_not false was h = inr h

pub is_some-map : {A B : Type 0} (f : A → B) (r : Option A) → is_some (option_map f r) ≡ is_some r
is_some-map f None = refl
is_some-map f (Some x) = refl

module _ (first m : IndexMap (Bor (List ℕ)) (Bor StructDecl) Hasher) (names : List (Bor (List ℕ))) (name : Bor (List ℕ))
    (before : (q : List ℕ) → struct_at m q ≡ (if is_among q (texts_of names) then None else struct_at first q))
    (old waiting : List (Bor (List ℕ)))
    (waited : (q : List ℕ) → is_among q (texts_of waiting) ≡ (is_among q (texts_of old) || (is_among q (texts_of names) && is_some (struct_at first q)))) where
  pub found-step : is_some (get_by (λ k. bytes_eq name.now k.now) m) ≡ true → (q : List ℕ)
      → is_among q (texts_of (waiting ++ name ∷ [])) ≡ (is_among q (texts_of old) || (is_among q (texts_of (names ++ name ∷ [])) && is_some (struct_at first q)))
  found-step found q =
      among-push q waiting name ∙ ap (λ b. b || bytes_eq q name.now) (waited q)
      ∙ found_step (is_among q (texts_of old)) (is_among q (texts_of names)) (bytes_eq q name.now) (is_some (struct_at first q))
      (λ e. had (is_among q (texts_of names)) (struct_at first q)
      (ap is_some (sym (before q)) ∙ is_some-map (λ s. struct_definition s.now) (get_by (λ k. bytes_eq q k.now) m)
      ∙ subst (λ z. is_some (get_by (λ k. bytes_eq z k.now) m) ≡ true) (sym ((bytes_eq-Decides q name.now).0 e)) found))
      ∙ ap (λ b. is_among q (texts_of old) || (b && is_some (struct_at first q))) (sym (among-push q names name))

  pub missing-step : is_some (get_by (λ k. bytes_eq name.now k.now) m) ≡ false → (q : List ℕ)
      → is_among q (texts_of waiting) ≡ (is_among q (texts_of old) || (is_among q (texts_of (names ++ name ∷ [])) && is_some (struct_at first q)))
  missing-step missing q =
      waited q
      ∙ missing_step (is_among q (texts_of old)) (is_among q (texts_of names)) (bytes_eq q name.now) (is_some (struct_at first q))
      (λ e. had_not (is_among q (texts_of names)) (struct_at first q)
      (ap is_some (sym (before q)) ∙ is_some-map (λ s. struct_definition s.now) (get_by (λ k. bytes_eq q k.now) m)
      ∙ subst (λ z. is_some (get_by (λ k. bytes_eq z k.now) m) ≡ false) (sym ((bytes_eq-Decides q name.now).0 e)) missing))
      ∙ ap (λ b. is_among q (texts_of old) || (b && is_some (struct_at first q))) (sym (among-push q names name))
