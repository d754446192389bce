-- Which children of a region are ready to fire: as a list in rising number.
use Rattle.std.proofs.Common.{◌≡◌, ℕ, zero, suc, ◌+◌, ◌<◌, ◌≤◌, take, drop, get_or, Bool, true, false, cond, List, [], ◌∷◌, length, Option, Some, None, is_some, refl, sym, ap, ◌∙◌, arith}
use Rattle.std.specs.Prelude.{slice_get, filter, filter_map, not, ◌&&◌, ◌==◌}
use Rattle.std.specs.List.{cons_option}
use Rattle.std.proofs.lemmas.Option.{get_or_from_slice_get, slice_get_within}
use Rattle.gp_base.specs.Run.{Returned, Stopped, Stuck}
use Rattle.hg_ops.specs.Op.{fires}
use Rattle.hg_graph.specs.Graph.{Graph, op_at, parent_at, children, firing_children, numbers}
use Rattle.hg_graph.specs.Run.{Look, Ready, candidate, ready, inputs, with_inputs, has_fired, orders_kept, choose}
use Rattle.hg_graph.specs.Value.{Value}
use Rattle.hg_laws.proofs.Children.{both_true}
use Rattle.hg_steps.specs.Machine.{Plain}
use Rattle.hg_run.specs.code.CountedSetView.{one_if, ones}
use Rattle.hg_run.specs.code.Due.{HasDues}
use Rattle.hg_run.specs.code.Waits.{is_due}
use Rattle.hg_run.specs.code.StateView.{place_of}
use Rattle.hg_run.proofs.Scans.{choose_is}

-- ---- children are in rising number: numbers that rise, from a least one on
abbrev pub Rises : ℕ → List ℕ → Type 0
Rises lo [] = Unit {0}
Rises lo (x ∷ xs) = (lo ≤ x) × Rises (suc x) xs

rises_less : (lo hi : ℕ) (xs : List ℕ) → lo ≤ hi → Rises hi xs → Rises lo xs
rises_less lo hi [] l r = tt
rises_less lo hi (x ∷ xs) l r = (omega (arith, l, r.0), r.1)

rises_filter : (lo : ℕ) (test : ℕ → Bool) (xs : List ℕ) → Rises lo xs → Rises lo (filter test xs)
rises_filter lo test [] r = tt
rises_filter lo test (x ∷ xs) r = go lo x test xs r (rises_filter (suc x) test xs r.1) (test x)
  where
    go : (lo x : ℕ) (test : ℕ → Bool) (xs : List ℕ) → Rises lo (x ∷ xs) → Rises (suc x) (filter test xs) → (t : Bool) → Rises lo (cond t (x ∷ filter test xs) (filter test xs))
    go lo x test xs r f true = (r.0, f)
    go lo x test xs r f false = rises_less lo (suc x) (filter test xs) (let l = r.0 in omega arith) f

rises_numbers : (first count : ℕ) → Rises first (numbers first count)
rises_numbers first zero = tt
rises_numbers first (suc count) = (omega arith, rises_numbers (suc first) count)

pub rises_children : (g : Graph) (c : ℕ) → Rises 0 (children g c)
unfolding children
rises_children g c = rises_filter 0 (λ n. parent_at g n == c && not (n == c)) (numbers 0 (length g.nodes)) (rises_numbers 0 (length g.nodes))

-- each is from the least on
rises_at : (lo : ℕ) (xs : List ℕ) (p n : ℕ) → Rises lo xs → slice_get xs p ≡ Some n → lo ≤ n
rises_at lo [] p n r e = absurd cc
rises_at lo (x ∷ xs) zero n r e = let q : x ≡ n = cc in omega (arith, r.0, q)
rises_at lo (x ∷ xs) (suc p) n r e = omega (arith, r.0, rises_at (suc x) xs p n r.1 e)

pub rises_order : (lo : ℕ) (xs : List ℕ) (p q m n : ℕ) → Rises lo xs → slice_get xs p ≡ Some m → slice_get xs q ≡ Some n → p < q → m < n
rises_order lo [] p q m n r d e l = absurd cc
rises_order lo (x ∷ xs) p zero m n r d e l = absurd (omega (arith, l))
rises_order lo (x ∷ xs) zero (suc q) m n r d e l = let s : x ≡ m = cc in omega (arith, rises_at (suc x) xs q n r.1 e, s)
rises_order lo (x ∷ xs) (suc p) (suc q) m n r d e l = rises_order (suc x) xs p q m n r.1 d e (omega (arith, l))

-- ---- those that are due
module _ {B : Type 0} (f : ℕ → Bool) (h : ℕ → Option B) where
  abbrev found_in : List ℕ → List B
  found_in xs = filter_map h (filter f xs)

  -- the flags of a list
  abbrev Agree : List ℕ → List Bool → Type 0
  Agree xs flags = (p n : ℕ) → slice_get xs p ≡ Some n → get_or flags p false ≡ (f n && is_some (h n))

  one_more : (x : ℕ) (xs : List ℕ) (t : Bool) → filter_map h (cond t (x ∷ filter f xs) (filter f xs)) ≡ cond t (cons_option (h x) (found_in xs)) (found_in xs)
  one_more x xs true = refl
  one_more x xs false = refl

  counted : (found : List B) (count : ℕ) (t : Bool) (o : Option B) (b : Bool) → b ≡ (t && is_some o) → length found ≡ count → length (cond t (cons_option o found) found) ≡ one_if b + count
  counted found count true None b e later = omega (arith, ap one_if e, later)
  counted found count true (Some v) b e later = omega (arith, ap one_if e, later)
  counted found count false o b e later = omega (arith, ap one_if e, later)

  first_at : (found : List B) (t : Bool) (o : Option B) (b : Bool) → b ≡ (t && is_some o) → b ≡ true → slice_get (cond t (cons_option o found) found) 0 ≡ o
  first_at found true None b e s = absurd (differ (sym e ∙ s))
    where
      differ : false ≡ true → ⊥
      differ q = absurd cc
  first_at found true (Some v) b e s = refl
  first_at found false o b e s = absurd (differ (sym e ∙ s))
    where
      differ : false ≡ true → ⊥
      differ q = absurd cc

  later_at : (found : List B) (k : ℕ) (t : Bool) (o : Option B) (b : Bool) → b ≡ (t && is_some o) → slice_get (cond t (cons_option o found) found) (one_if b + k) ≡ slice_get found k
  later_at found k true None b e = ap (slice_get found) (let q : one_if b + k ≡ k = omega (arith, ap one_if e) in q)
  later_at found k true (Some v) b e = ap (slice_get (v ∷ found)) (let q : one_if b + k ≡ suc k = omega (arith, ap one_if e) in q)
  later_at found k false o b e = ap (slice_get found) (let q : one_if b + k ≡ k = omega (arith, ap one_if e) in q)

  pub count_found : (xs : List ℕ) (flags : List Bool) → length flags ≡ length xs → Agree xs flags → length (found_in xs) ≡ ones flags
  count_found [] [] l a = refl
  count_found [] (b ∷ flags) l a = absurd (omega (arith, l))
  count_found (x ∷ xs) [] l a = absurd (omega (arith, l))
  count_found (x ∷ xs) (b ∷ flags) l a = ap length (one_more x xs (f x)) ∙ counted (found_in xs) (ones flags) (f x) (h x) b (a 0 x refl) (count_found xs flags (omega (arith, l)) (λ p n e. a (suc p) n e))

  abbrev or_here : ℕ → Option ℕ → ℕ
  or_here d None = d
  or_here d (Some n) = n

  abbrev or_flag : Bool → Option Bool → Bool
  or_flag b None = b
  or_flag b (Some t) = t

  pub found_at : (xs : List ℕ) (flags : List Bool) (p n : ℕ) → Agree xs flags → slice_get xs p ≡ Some n → slice_get flags p ≡ Some true → slice_get (found_in xs) (ones (take p flags)) ≡ h n
  found_at [] flags p n a e s = absurd cc
  found_at (x ∷ xs) [] p n a e s = absurd cc
  found_at (x ∷ xs) (b ∷ flags) zero n a e s =
      ap (λ found. slice_get found 0) (one_more x xs (f x)) ∙ (first_at (found_in xs) (f x) (h x) b (a 0 x refl) (ap (or_flag b) s) ∙ ap (λ o. h (or_here x o)) e)
  found_at (x ∷ xs) (b ∷ flags) (suc p) n a e s =
      ap (λ found. slice_get found (one_if b + ones (take p flags))) (one_more x xs (f x))
      ∙ (later_at (found_in xs) (ones (take p flags)) (f x) (h x) b (a 0 x refl) ∙ found_at xs flags p n (λ q m d. a (suc q) m d) e s)

-- ---- the choice
ready_inputs : (g : Graph) (look : Look) (n : ℕ) → is_some (candidate g look n) ≡ true → candidate g look n ≡ with_inputs n (inputs g look n)
unfolding candidate
ready_inputs g look n h = go (has_fired look n) (orders_kept g.links look n) h
  where
    go : (f k : Bool) → is_some (cond f None (cond k (with_inputs n (inputs g look n)) None)) ≡ true → cond f None (cond k (with_inputs n (inputs g look n)) None) ≡ with_inputs n (inputs g look n)
    go true k h = absurd cc
    go false true h = refl
    go false false h = absurd cc

module _ (g : Graph) (c : ℕ) (look : Look) (flags : List Bool) (has : HasDues g c look flags) where
  agree : (p n : ℕ) → slice_get (children g c) p ≡ Some n → get_or flags p false ≡ is_due g look n
  agree p n e = has.at p n e refl

  count_same : length (ready g c look) ≡ ones flags
  unfolding ready firing_children
  count_same = count_found (λ n. fires (op_at g n)) (candidate g look) (children g c) flags has.all agree

  at_place : (p n : ℕ) → slice_get (children g c) p ≡ Some n → slice_get flags p ≡ Some true → slice_get (ready g c look) (ones (take p flags)) ≡ candidate g look n
  unfolding ready firing_children
  at_place p n e s = found_at (λ n. fires (op_at g n)) (candidate g look) (children g c) flags p n agree e s

  is_ready : (p n : ℕ) → slice_get (children g c) p ≡ Some n → slice_get flags p ≡ Some true → is_some (candidate g look n) ≡ true
  is_ready p n e s = (both_true (fires (op_at g n)) (is_some (candidate g look n)) (sym (agree p n e) ∙ get_or_from_slice_get flags p true false s)).1

  pub none_chosen : (s : Plain) → ones flags ≡ 0 → choose (ready g c look) s ≡ Stopped Stuck s
  none_chosen s e = go (ready g c look) (count_same ∙ e)
    where
      go : (rs : List Ready) → length rs ≡ 0 → choose rs s ≡ Stopped Stuck s
      go [] e = refl
      go (r ∷ rs) e = absurd (omega (arith, e))

  module _ (p n : ℕ) (e : slice_get (children g c) p ≡ Some n) (m : slice_get flags p ≡ Some true) where
    as_inputs : candidate g look n ≡ with_inputs n (inputs g look n)
    as_inputs = ready_inputs g look n (is_ready p n e m)

    pub chosen : (s : Plain) (picks : List ℕ) (ins : List Value) → s.picks ≡ picks → ones (take p flags) ≡ place_of picks (ones flags) → Some ins ≡ inputs g look n
        → choose (ready g c look) s ≡ Returned (record { node = n; ins = ins }) (record s { picks = drop 1 picks })
    chosen s picks ins same rank i =
        let place = ones (take p flags) in
        let there : slice_get (ready g c look) place ≡ Some (record { node = n; ins = ins }) = at_place p n e m ∙ (as_inputs ∙ ap (with_inputs n) (sym i)) in
        let l : 0 < length (ready g c look) = omega (arith, slice_get_within (ready g c look) place (record { node = n; ins = ins }) there) in
        choose_is (ready g c look) s picks (record { node = n; ins = ins }) same l
        (λ d. sym (get_or_from_slice_get (ready g c look) place (record { node = n; ins = ins }) d there) ∙ ap (λ k. get_or (ready g c look) k d) (rank ∙ ap (place_of picks) (sym count_same)))

    pub unfired : look n ≡ None
    unfolding candidate
    unfired = go (look n) (is_ready p n e m)
      where
        go : (o : Option (List Value)) → is_some (cond (is_some o) None (cond (orders_kept g.links look n) (with_inputs n (inputs g look n)) None)) ≡ true → o ≡ None
        go None h = refl
        go (Some vs) h = absurd cc

    pub never_none : None ≡ inputs g look n → ⊥
    never_none i = no (with_inputs n (inputs g look n)) (ap (with_inputs n) (sym i)) (ap is_some (sym as_inputs) ∙ is_ready p n e m)
      where
        no : (o : Option Ready) → o ≡ None → is_some o ≡ true → ⊥
        no None q h = absurd cc
        no (Some r) q h = absurd cc

  -- a member is a child
  pub never_past : (p : ℕ) → None ≡ slice_get (children g c) p → slice_get flags p ≡ Some true → ⊥
  never_past p e m = no (children g c) p (sym e) (omega (arith, slice_get_within flags p true m, has.all))
    where
      no : (xs : List ℕ) (p : ℕ) → slice_get xs p ≡ None → p < length xs → ⊥
      no [] p e l = omega (arith, l)
      no (x ∷ xs) zero e l = absurd cc
      no (x ∷ xs) (suc p) e l = no xs p e (omega (arith, l))
