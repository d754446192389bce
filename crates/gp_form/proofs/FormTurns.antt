-- The turns of the other loops, beside what the reading says.
use Rattle.std.proofs.Common.{◌≡◌, ℕ, suc, ◌+◌, ◌-◌, ◌<◌, ◌≤◌, Bool, true, false, cond, List, [], ◌∷◌, ◌++◌, length, get_or, take, drop, count_by, flat_map, is_some, Option, Some, None, refl, sym, ap, ◌∙◌, arith, length-append, length-drop, append_assoc, add-one, add-zero, drop-cons}
use Rattle.std.proofs.Math.Seq.{take-suc, take-append_seam, take-length}
use Rattle.std.proofs.Math.ListN.{drop_of_length-le}
use Rattle.std.proofs.lemmas.List.{append-nil, take-append-drop, take_all, length-take}
use Rattle.std.proofs.lemmas.List.Sums.{count_by_more_yes, count_by_more_no, count_by-le-length}
use Rattle.std.proofs.lemmas.Grind.{flat_map-append}
use Rattle.gp_lex.specs.declared.token.Symbol.TheVariants as s
use Rattle.gp_lex.specs.declared.token.Token.{Token}
use Rattle.gp_form.specs.declared.assigning.Assigning.{Assigning}
use Rattle.gp_form.specs.declared.part_fault.PartFault.{PartFault}
use Rattle.gp_form.specs.declared.part_fault.PartFault.TheVariants as fault
use Rattle.gp_form.specs.LineSize.{is_opening, is_closing, OpensTooMany}
use Rattle.gp_form.specs.code.FormReading.{nothing, assigning, split, names_from}
use Rattle.gp_form.specs.code.Steps.{◌>>=◌, Fails, Finds, past_symbol, past_name}
use Rattle.gp_form.proofs.Turns.{one_more, no_more}

-- ---- the first token that assigns

abbrev pub Split : Type 0
Split = Option (List Token × Assigning × List Token)

abbrev pub behind_front : List Token → Split → Split
behind_front front read = read >>= λ z. Some (front ++ z.0, z.1, z.2)

pub split_start : (ts : List Token) → split ts ≡ behind_front (take 0 ts) (split (drop 0 ts))
split_start ts = all (split ts)
  where
    all : (read : Split) → read ≡ behind_front [] read
    all (Some x) = refl
    all None = refl

module _ (ts : List Token) (at : ℕ) (total : Split) (so_far : total ≡ behind_front (take at ts) (split (drop at ts))) where
  module _ (x : Token) (below : at < length ts) (is : x ≡ get_or ts at x) where
    here : drop at ts ≡ x ∷ drop (at + 1) ts
    here = rw add-one (drop-cons ts at x below ∙ ap (λ (z : Token). z ∷ drop (suc at) ts) (sym is))

    longer : take (at + 1) ts ≡ take at ts ++ x ∷ []
    longer = rw add-one (take-suc ts at x below ∙ ap (λ (z : Token). take at ts ++ z ∷ []) (sym is))

    pub split_stop : (y : Assigning) → assigning x ≡ Some y → total ≡ Some (take at ts, y, drop (at + 1) ts)
    unfolding split
    split_stop y h =
        let now : behind_front (take at ts) (split (x ∷ drop (at + 1) ts)) ≡ Some (take at ts ++ [], y, drop (at + 1) ts) = rw h refl in
        so_far ∙ ap (λ (z : List Token). behind_front (take at ts) (split z)) here ∙ now ∙ ap (λ (z : List Token). Some (z, y, drop (at + 1) ts)) (append-nil (take at ts))

    regroup : (front : List Token) (read : Split) → behind_front front (read >>= λ z. Some (x ∷ z.0, z.1, z.2)) ≡ behind_front (front ++ x ∷ []) read
    regroup front (Some z) = ap (λ (w : List Token). Some (w, z.1, z.2)) (sym (append_assoc front (x ∷ []) z.0))
    regroup front None = refl

    pub split_go_on : assigning x ≡ None → total ≡ behind_front (take (at + 1) ts) (split (drop (at + 1) ts))
    unfolding split
    split_go_on h =
        let now : behind_front (take at ts) (split (x ∷ drop (at + 1) ts)) ≡ behind_front (take at ts) (split (drop (at + 1) ts) >>= λ z. Some (x ∷ z.0, z.1, z.2)) = rw h refl in
        so_far ∙ ap (λ (z : List Token). behind_front (take at ts) (split z)) here ∙ now ∙ regroup (take at ts) (split (drop (at + 1) ts)) ∙ ap (λ (z : List Token). behind_front z (split (drop (at + 1) ts))) (sym longer)

  pub split_end : length ts ≤ at → total ≡ None
  unfolding split
  split_end done = so_far ∙ ap (λ (z : List Token). behind_front (take at ts) (split z)) (drop_of_length-le ts done)

pub behind_place : (ts : List Token) (k : ℕ) → take (length ts - k) (drop k ts) ≡ drop k ts
behind_place ts k = ap (λ (n : ℕ). take n (drop k ts)) (sym (length-drop k ts)) ∙ take-length (drop k ts)

-- ---- what was found

pub there : {X Y : Type 0} (view : X → Y) (r : Option X) (o : Option Y) → Finds view r o → is_some r ≡ true → (y : Y) × (o ≡ Some y)
there view (Some x) o h e = (view x, h)
there view None o h e = absurd cc

pub not_there : {X Y : Type 0} (view : X → Y) (r : Option X) (o : Option Y) → Finds view r o → is_some r ≡ false → o ≡ None
not_there view (Some x) o h e = absurd cc
not_there view None o h e = h

-- ---- names without parentheses

abbrev pub with_names : List (List ℕ) → Option (List (List ℕ)) → Option (List (List ℕ))
with_names front read = read >>= λ ns. Some (front ++ ns)

pub names_start : (n : ℕ) (ts : List Token) → names_from n ts ≡ with_names [] (names_from (n - 0) ts)
names_start n ts = let turns : n ≡ n - 0 = omega arith in all (names_from n ts) ∙ ap (λ (k : ℕ). with_names [] (names_from k ts)) turns
  where
    all : (read : Option (List (List ℕ))) → read ≡ with_names [] read
    all (Some x) = refl
    all None = refl

module _ (front : List (List ℕ)) (n at : ℕ) (ts : List Token) (total : Option (List (List ℕ))) (so_far : total ≡ with_names front (names_from (n - at) ts)) where
  abbrev turn : ℕ → Option (List (List ℕ))
  turn k = with_names front (names_from k ts)

  pub names_fail : (e : PartFault) → at < n → Fails e (past_name ts) → Fails e total
  unfolding names_from
  names_fail fault.Memory below fails = tt
  names_fail fault.NotSpelled below fails =
      let now : turn (suc (n - (at + 1))) ≡ None = rw fails refl in
      one_more turn n at below so_far ∙ now

  module _ (below : at < n) (x : List ℕ) (next : List Token) (read : past_name ts ≡ Some (x, next)) where
    pub names_end : (after : List Token) → nothing next ≡ Some after → total ≡ Some (front ++ x ∷ [])
    unfolding names_from
    names_end after closes =
        let now : turn (suc (n - (at + 1))) ≡ Some (front ++ x ∷ []) = rw (read, closes) refl in
        one_more turn n at below so_far ∙ now

    pub names_stop : nothing next ≡ None → past_symbol s.Comma next ≡ None → total ≡ None
    unfolding names_from
    names_stop going ends =
        let now : turn (suc (n - (at + 1))) ≡ None = rw (read, going, ends) refl in
        one_more turn n at below so_far ∙ now

    more_names : (others : Option (List (List ℕ))) → with_names front (others >>= λ ns. Some (x ∷ ns)) ≡ with_names (front ++ x ∷ []) others
    more_names (Some ns) = ap (λ (z : List (List ℕ)). Some z) (sym (append_assoc front (x ∷ []) ns))
    more_names None = refl

    pub names_go_on : (after : List Token) → nothing next ≡ None → past_symbol s.Comma next ≡ Some after → total ≡ with_names (front ++ x ∷ []) (names_from (n - (at + 1)) after)
    unfolding names_from
    names_go_on after going comma =
        let now : turn (suc (n - (at + 1))) ≡ with_names front (names_from (n - (at + 1)) after >>= λ ns. Some (x ∷ ns)) = rw (read, going, comma) refl in
        one_more turn n at below so_far ∙ now ∙ more_names (names_from (n - (at + 1)) after)

  pub names_run_out : n ≤ at → total ≡ None
  unfolding names_from
  names_run_out done = no_more turn n at done so_far

-- ---- brackets

-- behind so many tokens too many brackets are open
abbrev pub IsOver : List Token → ℕ → Type 0
IsOver ts k = count_by is_closing (take k ts) + 50 < count_by is_opening (take k ts)

pub opens_here : (ts : List Token) (k : ℕ) → IsOver ts k → OpensTooMany ts
opens_here ts k over = (take k ts, drop k ts, sym (take-append-drop k ts), over)

pub opens_nowhere : (ts : List Token) → ((k : ℕ) → k ≤ length ts → count_by is_opening (take k ts) ≤ count_by is_closing (take k ts) + 50) → OpensTooMany ts → ⊥
opens_nowhere ts within many =
    let front = many.0 in
    let rest = many.1 in
    let here : take (length front) ts ≡ front = ap (take (length front)) many.2 ∙ take-append_seam front rest in
    let bound = within (length front) (omega (arith, ap length many.2, length-append front rest)) in
    let opened = ap (count_by is_opening) here in
    let closed = ap (count_by is_closing) here in
    omega (arith, many.3)

pub counted : (p : Token → Bool) (ts : List Token) (i : ℕ) (x : Token) → i < length ts → x ≡ get_or ts i x → count_by p (take (i + 1) ts) ≡ count_by p (take i ts) + cond (p x) 1 0
counted p ts i x below is = by (p x) refl
  where
    by : (b : Bool) → p x ≡ b → count_by p (take (i + 1) ts) ≡ count_by p (take i ts) + cond b 1 0
    by true h = count_by_more_yes p ts i x below (ap p (sym is) ∙ h)
    by false h = count_by_more_no p ts i x below (ap p (sym is) ∙ h) ∙ sym (add-zero (count_by p (take i ts)))

pub counted-le : (p : Token → Bool) (ts : List Token) (i : ℕ) → count_by p (take i ts) ≤ length ts
counted-le p ts i = omega (arith, count_by-le-length p (take i ts), length-take i ts)

-- ---- dots

pub dots_start : (name : List ℕ) (fields : List (List ℕ)) → name ≡ name ++ flat_map (λ n. 46 ∷ n) (take 0 fields)
dots_start name fields = sym (append-nil name)

pub dots_go_on : (name text : List ℕ) (fields : List (List ℕ)) (i : ℕ) (x : List ℕ) → i < length fields → x ≡ get_or fields i x → text ≡ name ++ flat_map (λ n. 46 ∷ n) (take i fields) → (text ++ 46 ∷ []) ++ x ≡ name ++ flat_map (λ n. 46 ∷ n) (take (i + 1) fields)
dots_go_on name text fields i x below is so_far =
    let dot : List ℕ → List ℕ = λ n. 46 ∷ n in
    let longer : take (i + 1) fields ≡ take i fields ++ x ∷ [] = rw add-one (take-suc fields i x below ∙ ap (λ (z : List ℕ). take i fields ++ z ∷ []) (sym is)) in
    let more : flat_map dot (take (i + 1) fields) ≡ flat_map dot (take i fields) ++ 46 ∷ x = ap (flat_map dot) longer ∙ flat_map-append dot (take i fields) (x ∷ []) ∙ ap (λ (z : List ℕ). flat_map dot (take i fields) ++ 46 ∷ z) (append-nil x) in
    append_assoc text (46 ∷ []) x ∙ ap (λ (z : List ℕ). z ++ 46 ∷ x) so_far ∙ append_assoc name (flat_map dot (take i fields)) (46 ∷ x) ∙ ap (λ (z : List ℕ). name ++ z) (sym more)

pub dots_all : (name : List ℕ) (fields : List (List ℕ)) (i : ℕ) → length fields ≤ i → name ++ flat_map (λ n. 46 ∷ n) (take i fields) ≡ name ++ flat_map (λ n. 46 ∷ n) fields
dots_all name fields i done = ap (λ (z : List (List ℕ)). name ++ flat_map (λ n. 46 ∷ n) z) (take_all i fields done)
