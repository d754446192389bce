-- What a search keeps, from its start to its end.
use Rattle.std.proofs.Common.{◌≡◌, ◌⊎◌, inl, inr, ℕ, Bool, true, false, ◌||◌, ◌&&◌, not, List, [], ◌∷◌, ◌++◌, Option, Some, None, is_some, refl, sym, ap, subst, ◌∙◌, true≢false, Bor, bytes_eq, if◌then◌else◌}
use Rattle.std.specs.Bool.{MatchBool}
use Rattle.std.proofs.lemmas.Slice.Eq.{bytes_eq-Decides}
use Rattle.indexmap.specs.IndexMap.{IndexMap, get_by}
use Rattle.gp_tree.specs.declared.struct_decl.StructDecl.{StructDecl}
use Rattle.gp_tree.specs.Program.{ProgramItem, StructDefinition, struct_definition}
use Rattle.gp_scope.specs.Checks.{is_among}
use Rattle.gp_scope.specs.Definitions.{struct_named}
use Rattle.gp_scope.specs.Cycles.{fields_mention, holds, IsWay, Reaches, IsOnCycle}
use Rattle.gp_scope.specs.Tables.{Hasher, HasStructs, struct_at, texts_of}
use Rattle.gp_scope.proofs.CycleLemmas.{HeldBy, held_by, holds-some, way-push, bytes_eq-same}
use Rattle.gp_scope.proofs.SearchLemmas.{among-push, is_some-map}

abbrev pub Structs : Type 0
Structs = IndexMap (Bor (List ℕ)) (Bor StructDecl) Hasher

-- The structs that were seen are those that the start reaches over names that no longer wait; what a name holds that was
-- seen and doesn't wait was seen.
pub record Search (program : List ProgramItem) (start : List ℕ) (unseen : Structs) (waiting : List (Bor (List ℕ))) : Type 0 where
  pub same : (q : List ℕ) (s : StructDefinition) → struct_at unseen q ≡ Some s → struct_named program q ≡ Some s
  pub reached : (q : List ℕ) → is_some (struct_named program q) ≡ true → struct_at unseen q ≡ None → Reaches program start q
  pub waiting_reached : (q : List ℕ) → is_among q (texts_of waiting) ≡ true → (q ≡ start) ⊎ Reaches program start q
  pub done : (q : List ℕ) → (q ≡ start) ⊎ ((is_some (struct_named program q) ≡ true) × (struct_at unseen q ≡ None))
      → (is_among q (texts_of waiting) ≡ true) ⊎ ((r : List ℕ) → holds program q r ≡ true → struct_at unseen r ≡ None)

none_some : {A : Type 0} (r : Option A) → is_some r ≡ true → r ≡ None → ⊥
none_some r h e = true≢false (sym h ∙ ap is_some e)

or_either : (a b : Bool) → (a || b) ≡ true → (a ≡ true) ⊎ (b ≡ true)
or_either true b h = inl refl
or_either false b h = inr h

or_first : (a b : Bool) → a ≡ true → (a || b) ≡ true
or_first true b h = refl
or_first false b h = absurd (true≢false (sym h))

or_second : (a b : Bool) → b ≡ true → (a || b) ≡ true
or_second true b h = refl
or_second false b h = h

and_first : (a b : Bool) → (a && b) ≡ true → a ≡ true
and_first true b h = refl
and_first false b h = h

and_both : (a b : Bool) → a ≡ true → b ≡ true → (a && b) ≡ true
and_both true b h g = g
and_both false b h g = h

pub search-start : (program : List ProgramItem) (unseen : Structs) (name : Bor (List ℕ)) → HasStructs program unseen → Search program name.now unseen (name ∷ [])
search-start program unseen name has = record {
  same = λ q s e. sym (has q) ∙ e;
  reached = λ q h e. absurd (none_some (struct_named program q) h (sym (has q) ∙ e));
  waiting_reached = λ q h. elim (or_either (bytes_eq q name.now) false h) [ inl e ↦ inl ((bytes_eq-Decides q name.now).0 e) | inr e ↦ absurd (true≢false (sym e)) ];
  done = λ q h. elim h [
    | inl e ↦ inl (or_first (bytes_eq q name.now) false ((bytes_eq-Decides q name.now).1 e))
    | inr g ↦ absurd (none_some (struct_named program q) g.0 (sym (has q) ∙ g.1))
  ];
}

onward : (program : List ProgramItem) (start next q : List ℕ) → (next ≡ start) ⊎ Reaches program start next → holds program next q ≡ true → Reaches program start q
onward program start next q (inl e) h = subst (λ z. Reaches program z q) e ([], h)
onward program start next q (inr way) h = (way.0 ++ next ∷ [], way-push program way.0 start next q way.1 h)

gone : (m : Bool) (was : Option StructDefinition) → was ≡ None → (if m then None else was) ≡ None
gone true was h = refl
gone false was h = h

taken : (m : Bool) (was : Option StructDefinition) → m ≡ true → (if m then None else was) ≡ None
taken true was h = refl
taken false was h = absurd (true≢false (sym h))

-- the name that comes next is a struct's, and what it holds was taken out and waits
module _ (program : List ProgramItem) (start : List ℕ) (unseen unseen' : Structs) (rest waiting' : List (Bor (List ℕ))) (next : Bor (List ℕ)) (s : StructDefinition)
    (is : struct_named program next.now ≡ Some s) (search : Search program start unseen (rest ++ next ∷ []))
    (seen : (q : List ℕ) → struct_at unseen' q ≡ (if fields_mention s.fields q then None else struct_at unseen q))
    (waits : (q : List ℕ) → is_among q (texts_of waiting') ≡ (is_among q (texts_of rest) || (fields_mention s.fields q && is_some (struct_at unseen q)))) where
  held : (q : List ℕ) → fields_mention s.fields q ≡ true → Reaches program start q
  held q m =
      onward program start next.now q
      (search.waiting_reached next.now (among-push next.now rest next ∙ or_second (is_among next.now (texts_of rest)) _ (bytes_eq-same next.now)))
      (holds-some program next.now q s is ∙ m)

  same' : (q : List ℕ) (d : StructDefinition) → struct_at unseen' q ≡ Some d → struct_named program q ≡ Some d
  same' q d e = go (fields_mention s.fields q) (sym (seen q) ∙ e)
    where
      go : (m : Bool) → (if m then None else struct_at unseen q) ≡ Some d → struct_named program q ≡ Some d
      go true h = absurd cc
      go false h = search.same q d h

  reached' : (q : List ℕ) → is_some (struct_named program q) ≡ true → struct_at unseen' q ≡ None → Reaches program start q
  reached' q h e = go (fields_mention s.fields q) refl (sym (seen q) ∙ e)
    where
      go : (m : Bool) → fields_mention s.fields q ≡ m → (if m then None else struct_at unseen q) ≡ None → Reaches program start q
      go true m g = held q m
      go false m g = search.reached q h g

  waiting_reached' : (q : List ℕ) → is_among q (texts_of waiting') ≡ true → (q ≡ start) ⊎ Reaches program start q
  waiting_reached' q h = elim (or_either (is_among q (texts_of rest)) _ (sym (waits q) ∙ h)) [
    | inl e ↦ search.waiting_reached q (among-push q rest next ∙ or_first (is_among q (texts_of rest)) _ e)
    | inr e ↦ inr (held q (and_first (fields_mention s.fields q) _ e))
  ]

  kept : (q : List ℕ) → (is_among q (texts_of (rest ++ next ∷ [])) ≡ true) ⊎ ((r : List ℕ) → holds program q r ≡ true → struct_at unseen r ≡ None)
      → (is_among q (texts_of waiting') ≡ true) ⊎ ((r : List ℕ) → holds program q r ≡ true → struct_at unseen' r ≡ None)
  kept q (inl e) = elim (or_either (is_among q (texts_of rest)) _ (sym (among-push q rest next) ∙ e)) [
    | inl f ↦ inl (waits q ∙ or_first (is_among q (texts_of rest)) _ f)
    | inr f ↦ inr (λ r h. seen r ∙ taken (fields_mention s.fields r) (struct_at unseen r)
        (sym (holds-some program next.now r s is) ∙ subst (λ z. holds program z r ≡ true) ((bytes_eq-Decides q next.now).0 f) h))
  ]
  kept q (inr f) = inr (λ r h. seen r ∙ gone (fields_mention s.fields r) (struct_at unseen r) (f r h))

  done' : (q : List ℕ) → (q ≡ start) ⊎ ((is_some (struct_named program q) ≡ true) × (struct_at unseen' q ≡ None))
      → (is_among q (texts_of waiting') ≡ true) ⊎ ((r : List ℕ) → holds program q r ≡ true → struct_at unseen' r ≡ None)
  done' q (inl e) = kept q (search.done q (inl e))
  done' q (inr h) = go (struct_at unseen q) refl (fields_mention s.fields q) refl
    where
      go : (was : Option StructDefinition) → struct_at unseen q ≡ was → (m : Bool) → fields_mention s.fields q ≡ m
          → (is_among q (texts_of waiting') ≡ true) ⊎ ((r : List ℕ) → holds program q r ≡ true → struct_at unseen' r ≡ None)
      go None e m f = kept q (search.done q (inr (h.0, e)))
      go (Some d) e true f = inl (waits q ∙ or_second (is_among q (texts_of rest)) _ (and_both (fields_mention s.fields q) _ f (ap is_some e)))
      go (Some d) e false f =
          absurd (none_some (struct_at unseen q) (ap is_some e) (sym (ap (λ b. if b then None else struct_at unseen q) f) ∙ sym (seen q) ∙ h.1))

  pub search-step : Search program start unseen' waiting'
  search-step = record { same = same'; reached = reached'; waiting_reached = waiting_reached'; done = done' }

-- the name that comes next is no struct's
pub search-skip : (program : List ProgramItem) (start : List ℕ) (unseen : Structs) (rest : List (Bor (List ℕ))) (next : Bor (List ℕ)) → struct_named program next.now ≡ None
    → Search program start unseen (rest ++ next ∷ []) → Search program start unseen rest
search-skip program start unseen rest next none search = record {
  same = search.same;
  reached = search.reached;
  waiting_reached = λ q h. search.waiting_reached q (among-push q rest next ∙ or_first (is_among q (texts_of rest)) _ h);
  done = λ q h. kept q (search.done q h);
}
  where
    kept : (q : List ℕ) → (is_among q (texts_of (rest ++ next ∷ [])) ≡ true) ⊎ ((r : List ℕ) → holds program q r ≡ true → struct_at unseen r ≡ None)
        → (is_among q (texts_of rest) ≡ true) ⊎ ((r : List ℕ) → holds program q r ≡ true → struct_at unseen r ≡ None)
    kept q (inr f) = inr f
    kept q (inl e) = elim (or_either (is_among q (texts_of rest)) _ (sym (among-push q rest next) ∙ e)) [
      | inl f ↦ inl f
      | inr f ↦ inr (λ r h.
          let by : HeldBy program q r = held_by program q r h in
          absurd (none_some (struct_named program next.now)
          (subst (λ z. is_some (struct_named program z) ≡ true) ((bytes_eq-Decides q next.now).0 f) (ap is_some by.is)) none))
    ]

-- at the end
way_seen : (program : List ProgramItem) (start : List ℕ) (unseen : Structs) → Search program start unseen [] → (between : List (List ℕ)) (from to : List ℕ)
    → (from ≡ start) ⊎ (struct_at unseen from ≡ None) → IsWay program from between to → struct_at unseen to ≡ None
way_seen program start unseen search between from to h way = go between from h way
  where
    step : (from to : List ℕ) → (from ≡ start) ⊎ (struct_at unseen from ≡ None) → holds program from to ≡ true → struct_at unseen to ≡ None
    step from to h e =
        let by : HeldBy program from to = held_by program from to e in
        let known : (from ≡ start) ⊎ ((is_some (struct_named program from) ≡ true) × (struct_at unseen from ≡ None)) =
        elim h [ inl x ↦ inl x | inr x ↦ inr (ap is_some by.is, x) ] in
        elim (search.done from known) [ inl x ↦ absurd (true≢false (sym x)) | inr f ↦ f to e ]

    go : (between : List (List ℕ)) (from : List ℕ) → (from ≡ start) ⊎ (struct_at unseen from ≡ None) → IsWay program from between to → struct_at unseen to ≡ None
    go [] from h way = step from to h way
    go (next ∷ between) from h way = go between next (inr (step from next h way.0)) way.1

pub search-no : (program : List ProgramItem) (start : List ℕ) (unseen : Structs) → Search program start unseen [] → is_some (struct_at unseen start) ≡ true
    → IsOnCycle program start → ⊥
search-no program start unseen search h cycle =
    none_some (struct_at unseen start) h (way_seen program start unseen search cycle.0 start start (inl refl) cycle.1)

is_none : {A : Type 0} (r : Option A) → is_some r ≡ false → r ≡ None
is_none None h = refl
is_none (Some x) h = absurd (true≢false h)

pub search-yes : (program : List ProgramItem) (start : List ℕ) (unseen : Structs) → Search program start unseen [] → is_some (struct_named program start) ≡ true
    → is_some (struct_at unseen start) ≡ false → IsOnCycle program start
search-yes program start unseen search h e = search.reached start h (is_none (struct_at unseen start) e)

-- a name of no struct is on no cycle
pub no-struct : (program : List ProgramItem) (q : List ℕ) → is_some (struct_named program q) ≡ false → IsOnCycle program q → ⊥
no-struct program q h cycle = go cycle.0 cycle.1
  where
    first_held : (to : List ℕ) → holds program q to ≡ true → ⊥
    first_held to e = let by : HeldBy program q to = held_by program q to e in true≢false (ap is_some (sym by.is) ∙ h)

    go : (between : List (List ℕ)) → IsWay program q between q → ⊥
    go [] way = first_held q way
    go (next ∷ between) way = first_held next way.0

-- the answer of a search whose table still has the start, or not
pub search-answers : (program : List ProgramItem) (start : List ℕ) (unseen : Structs) (waiting : List (Bor (List ℕ))) → Search program start unseen waiting → waiting ≡ []
    → is_some (struct_named program start) ≡ true → (b : Bool) → b ≡ is_some (struct_at unseen start) → MatchBool (not b) (IsOnCycle program start) (IsOnCycle program start → ⊥)
search-answers program start unseen waiting search ended h true e =
    search-no program start unseen (subst (λ w. Search program start unseen w) ended search) (sym e)
search-answers program start unseen waiting search ended h false e =
    search-yes program start unseen (subst (λ w. Search program start unseen w) ended search) h (sym e)

-- the table of structs has a name exactly where the program has a struct of that name
pub has-some : (program : List ProgramItem) (structs : Structs) → HasStructs program structs → (q : List ℕ)
    → is_some (struct_named program q) ≡ is_some (get_by (λ k. bytes_eq q k.now) structs)
has-some program structs has q = ap is_some (sym (has q)) ∙ is_some-map (λ s. struct_definition s.now) (get_by (λ k. bytes_eq q k.now) structs)

pub at-some : (structs : Structs) (q : List ℕ) → is_some (struct_at structs q) ≡ is_some (get_by (λ k. bytes_eq q k.now) structs)
at-some structs q = is_some-map (λ s. struct_definition s.now) (get_by (λ k. bytes_eq q k.now) structs)
