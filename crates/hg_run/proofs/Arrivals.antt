-- What has come to the children of a region.
use Rattle.std.proofs.Common.{◌≡◌, ◌⊎◌, inl, inr, ℕ, zero, suc, ◌+◌, ◌<◌, ◌≤◌, set, get_or, Bool, true, false, cond, List, [], ◌∷◌, length, Option, Some, None, is_some, refl, sym, ap, ap₂, ◌∙◌, subst, arith}
use Rattle.std.specs.Prelude.{slice_get, replicate, not, ◌&&◌, ◌||◌, ◌==◌, nat_le}
use Rattle.std.proofs.lemmas.Bool.{cases_order, cases_lt}
use Rattle.std.proofs.lemmas.List.{length-set, length-replicate, get_or-set_same, get_or-set_other}
use Rattle.std.proofs.lemmas.Option.{slice_get_within}
use Rattle.hg_ops.specs.Op.{fires}
use Rattle.hg_graph.specs.Graph.{Graph, Link, Ports, Order, Port, op_at, children, feeder}
use Rattle.hg_graph.specs.NodeIndex.{orders_into}
use Rattle.hg_graph.specs.Run.{Look, Fired, outs_at, candidate, orders_kept, has_fired, value_of, value_at, cons_both, pulled, inputs, with_inputs}
use Rattle.hg_graph.specs.Value.{Value}
use Rattle.hg_laws.proofs.Children.{child_is, get_in}
use Rattle.hg_laws.proofs.Looks.{eqb_no}
use Rattle.hg_run.specs.code.Orders.{order_at, orders_at}
use Rattle.hg_run.specs.code.Waits.{is_due, awaits_none, value_came, link_of, order_came, input_count_at, order_count_at, HaveCome, IsFirstMissing, HaveSeen}
use Rattle.hg_run.proofs.OrderScans.{by_numbers}

-- ---- the inputs
module _ (links : List Link) (look : Look) (n : ℕ) where
  abbrev came : ℕ → Bool
  came i = is_some (value_of look (feeder links (record { node = n; index = i })))

  joined : (o : Option Value) (vs : Option (List Value)) → is_some (cons_both o vs) ≡ (is_some o && is_some vs)
  joined None vs = refl
  joined (Some v) None = refl
  joined (Some v) (Some vs) = refl

  all_pulled : (p count : ℕ) → ((i : ℕ) → p ≤ i → i < p + count → came i ≡ true) → is_some (pulled links look n p count) ≡ true
  all_pulled p zero h = refl
  all_pulled p (suc count) h =
      joined (value_of look (feeder links (record { node = n; index = p }))) (pulled links look n (suc p) count)
      ∙ ap₂ (λ a b. a && b) (h p (omega arith) (omega arith)) (all_pulled (suc p) count (λ i l m. h i (omega (arith, l)) (omega (arith, m))))

  and_false : (a : Bool) → (a && false) ≡ false
  and_false true = refl
  and_false false = refl

  one_missing : (p count i : ℕ) → p ≤ i → i < p + count → came i ≡ false → is_some (pulled links look n p count) ≡ false
  one_missing p zero i l m e = absurd (omega (arith, l, m))
  one_missing p (suc count) i l m e =
      joined (value_of look (feeder links (record { node = n; index = p }))) (pulled links look n (suc p) count)
      ∙ go (cases_lt p i) (λ h. one_missing (suc p) count i (omega (arith, h)) (omega (arith, m)) e)
    where
      go : (p < i) ⊎ (i ≤ p) → (p < i → is_some (pulled links look n (suc p) count) ≡ false) → (came p && is_some (pulled links look n (suc p) count)) ≡ false
      go (inl h) later = ap (λ b. came p && b) (later h) ∙ and_false (came p)
      go (inr h) later = ap (λ b. b && is_some (pulled links look n (suc p) count)) (ap came (let q : p ≡ i = omega (arith, h, l) in q) ∙ e)

  -- ---- the order links
  abbrev kept : List ℕ → ℕ → Bool
  kept numbers k = order_at look n (link_of links (slice_get numbers k))

  all_kept : (numbers : List ℕ) → ((k : ℕ) → k < length numbers → kept numbers k ≡ true) → orders_at links look n numbers ≡ true
  all_kept [] h = refl
  all_kept (m ∷ numbers) h = ap₂ (λ a b. a && b) (h 0 (omega arith)) (all_kept numbers (λ k l. h (suc k) (omega (arith, l))))

  one_open : (numbers : List ℕ) (k : ℕ) → k < length numbers → kept numbers k ≡ false → orders_at links look n numbers ≡ false
  one_open [] k l e = absurd (omega (arith, l))
  one_open (m ∷ numbers) zero l e = ap (λ a. a && orders_at links look n numbers) e
  one_open (m ∷ numbers) (suc k) l e = ap (λ b. order_at look n (slice_get links m) && b) (one_open numbers k (omega (arith, l)) e) ∙ and_false (order_at look n (slice_get links m))

pub order_here : (g : Graph) (look : Look) (n : ℕ) (numbers : List ℕ) (k d : ℕ) (link : Option Link) → numbers ≡ orders_into g.links n → k < length numbers → link ≡ slice_get g.links (get_or numbers k d) → order_at look n link ≡ order_came g look n k
order_here g look n numbers k d link e l is = ap (order_at look n) (is ∙ (ap (link_of g.links) (sym (get_some numbers k d l)) ∙ ap (λ numbers. link_of g.links (slice_get numbers k)) e))
  where
    get_some : (xs : List ℕ) (k d : ℕ) → k < length xs → slice_get xs k ≡ Some (get_or xs k d)
    get_some [] k d l = absurd (omega (arith, l))
    get_some (x ∷ xs) zero d l = refl
    get_some (x ∷ xs) (suc k) d l = get_some xs k d (omega (arith, l))

-- ---- what is due
some_with : (n : ℕ) (vs : Option (List Value)) → is_some (with_inputs n vs) ≡ is_some vs
some_with n None = refl
some_with n (Some vs) = refl

candidate_some : (g : Graph) (look : Look) (n : ℕ) → is_some (candidate g look n) ≡ (not (has_fired look n) && (is_some (inputs g look n) && orders_kept g.links look n))
unfolding candidate
candidate_some g look n = go (has_fired look n) (orders_kept g.links look n) (inputs g look n)
  where
    go : (f k : Bool) (vs : Option (List Value)) → is_some (cond f None (cond k (with_inputs n vs) None)) ≡ (not f && (is_some vs && k))
    go true k vs = refl
    go false true None = refl
    go false true (Some vs) = refl
    go false false None = refl
    go false false (Some vs) = refl

module _ (g : Graph) (look : Look) (n value order : ℕ) (v : IsFirstMissing (value_came g look n) (input_count_at g n) value) (o : IsFirstMissing (order_came g look n) (order_count_at g n) order) where
  values_tell : nat_le (input_count_at g n) value ≡ is_some (inputs g look n)
  unfolding inputs
  values_tell = go (cases_lt value (input_count_at g n))
    where
      go : (value < input_count_at g n) ⊎ (input_count_at g n ≤ value) → nat_le (input_count_at g n) value ≡ is_some (pulled g.links look n 0 (input_count_at g n))
      go (inl h) = (let e : nat_le (input_count_at g n) value ≡ false = grind arith in e) ∙ sym (one_missing g.links look n 0 (input_count_at g n) value (omega arith) (omega (arith, h)) (v.here h))
      go (inr h) = (let e : nat_le (input_count_at g n) value ≡ true = grind arith in e) ∙ sym (all_pulled g.links look n 0 (input_count_at g n) (λ i l m. v.before i (omega (arith, m, h))))

  orders_tell : nat_le (order_count_at g n) order ≡ orders_kept g.links look n
  orders_tell = go (cases_lt order (order_count_at g n)) ∙ sym (by_numbers g.links look n)
    where
      go : (order < order_count_at g n) ⊎ (order_count_at g n ≤ order) → nat_le (order_count_at g n) order ≡ orders_at g.links look n (orders_into g.links n)
      go (inl h) = (let e : nat_le (order_count_at g n) order ≡ false = grind arith in e) ∙ sym (one_open g.links look n (orders_into g.links n) order h (o.here h))
      go (inr h) = (let e : nat_le (order_count_at g n) order ≡ true = grind arith in e) ∙ sym (all_kept g.links look n (orders_into g.links n) (λ k l. o.before k (omega (arith, l, h))))

  pub due_tells : awaits_none g look n value order ≡ is_due g look n
  due_tells = ap (λ b. fires (op_at g n) && b) (ap₂ (λ a b. not (has_fired look n) && (a && b)) values_tell orders_tell ∙ sym (candidate_some g look n))

-- ---- what has come stays
module _ (g : Graph) (fired : List Fired) (r : ℕ) (outs : List Value) (first : outs_at fired r ≡ None) where
  abbrev more : List Fired
  more = record { node = r; outs = outs } ∷ fired

  differ : true ≡ false → ⊥
  differ e = absurd cc

  same : (m : ℕ) → has_fired (outs_at fired) m ≡ true → outs_at more m ≡ outs_at fired m
  same m h = ap (λ t. cond t (Some outs) (outs_at fired m)) (eqb_no r m (λ e. differ (sym h ∙ ap is_some (ap (outs_at fired) (sym e) ∙ first))))

  pub value_stays : (n i : ℕ) → value_came g (outs_at fired) n i ≡ true → value_came g (outs_at more) n i ≡ true
  value_stays n i h = go (feeder g.links (record { node = n; index = i })) h
    where
      had : (o : Option (List Value)) (p : ℕ) → is_some (value_at o p) ≡ true → is_some o ≡ true
      had None p h = h
      had (Some vs) p h = refl

      go : (from : Option Port) → is_some (value_of (outs_at fired) from) ≡ true → is_some (value_of (outs_at more) from) ≡ true
      go None h = h
      go (Some from) h = ap (λ o. is_some (value_at o from.index)) (same from.node (had (outs_at fired from.node) from.index h)) ∙ h

  pub order_stays : (n k : ℕ) → order_came g (outs_at fired) n k ≡ true → order_came g (outs_at more) n k ≡ true
  order_stays n k h = go (link_of g.links (slice_get (orders_into g.links n) k)) h
    where
      kept_on : (t : Bool) (a : ℕ) → ((not t || has_fired (outs_at fired) a) && true) ≡ true → ((not t || has_fired (outs_at more) a) && true) ≡ true
      kept_on false a h = refl
      kept_on true a h = ap (λ b. b && true) (ap is_some (same a (fst (has_fired (outs_at fired) a) h))) ∙ h
        where
          fst : (b : Bool) → (b && true) ≡ true → b ≡ true
          fst true h = refl
          fst false h = h

      go : (link : Option Link) → order_at (outs_at fired) n link ≡ true → order_at (outs_at more) n link ≡ true
      go None h = refl
      go (Some (Ports a b)) h = refl
      go (Some (Order a b)) h = kept_on (b == n) a h

pub seen_stays : (g : Graph) (c : ℕ) (before after : ℕ → ℕ → Bool) (seen : List ℕ) → ((n i : ℕ) → before n i ≡ true → after n i ≡ true) → HaveSeen g c before seen → HaveSeen g c after seen
seen_stays g c before after seen stays s = record { all = s.all; at = λ p n e i l. stays n i (s.at p n e i l) }

-- one child has been looked at
pub seen_more : (g : Graph) (c place node k : ℕ) (came : ℕ → ℕ → Bool) (seen : List ℕ) → slice_get (children g c) place ≡ Some node → HaveCome (came node) k → HaveSeen g c came seen → HaveSeen g c came (set seen place k)
seen_more g c place node k came seen here come s = record { all = length-set seen place k ∙ s.all; at = λ p n e. go p n e (cases_order p place) }
  where
    or_node : Option ℕ → ℕ
    or_node None = node
    or_node (Some n) = n

    within : place < length seen
    within = omega (arith, slice_get_within (children g c) place node here, s.all)

    go : (p n : ℕ) → slice_get (children g c) p ≡ Some n → (p ≡ place) ⊎ ((p < place) ⊎ (place < p)) → HaveCome (came n) (get_or (set seen place k) p 0)
    go p n e (inl q) =
        subst (HaveCome (came n)) (sym (ap (λ p. get_or (set seen place k) p 0) q ∙ get_or-set_same seen place k 0 within))
        (subst (λ n. HaveCome (came n) k) (some_inj (sym here ∙ (ap (slice_get (children g c)) (sym q) ∙ e))) come)
      where
        some_inj : Some node ≡ Some n → node ≡ n
        some_inj e = cc
    go p n e (inr (inl q)) = subst (HaveCome (came n)) (sym (get_or-set_other seen place p k 0 (λ e. omega (arith, e, q)))) (s.at p n e)
    go p n e (inr (inr q)) = subst (HaveCome (came n)) (sym (get_or-set_other seen place p k 0 (λ e. omega (arith, e, q)))) (s.at p n e)

-- what has been seen of one child
pub seen_here : (g : Graph) (c place node was d : ℕ) (came : ℕ → ℕ → Bool) (seen : List ℕ) → slice_get (children g c) place ≡ Some node → HaveSeen g c came seen → was ≡ get_or seen place d → HaveCome (came node) was
seen_here g c place node was d came seen here s e = subst (HaveCome (came node)) (sym (e ∙ any seen place d within)) (s.at place node here)
  where
    within : place < length seen
    within = omega (arith, slice_get_within (children g c) place node here, s.all)

    any : (xs : List ℕ) (k d : ℕ) → k < length xs → get_or xs k d ≡ get_or xs k 0
    any [] k d l = absurd (omega (arith, l))
    any (x ∷ xs) zero d l = refl
    any (x ∷ xs) (suc k) d l = any xs k d (omega (arith, l))

pub place_within : (g : Graph) (c place node : ℕ) {A : Type 0} (seen : List A) → slice_get (children g c) place ≡ Some node → length seen ≡ length (children g c) → place < length seen
place_within g c place node seen here e = omega (arith, slice_get_within (children g c) place node here, e)

-- nothing has been seen
pub none_seen : (g : Graph) (c count : ℕ) (came : ℕ → ℕ → Bool) (seen : List ℕ) → seen ≡ replicate count 0 → count ≡ length (children g c) → HaveSeen g c came seen
none_seen g c count came seen e l = record {
  all = ap length e ∙ (length-replicate count 0 ∙ l);
  at = λ p n f i h. let z : get_or seen p 0 ≡ 0 = ap (λ seen. get_or seen p 0) e ∙ zeros count p in absurd (omega (arith, h, z));
}
  where
    zeros : (count k : ℕ) → get_or (replicate {A = ℕ} count 0) k 0 ≡ 0
    zeros zero k = refl
    zeros (suc count) zero = refl
    zeros (suc count) (suc k) = zeros count k

-- the number of a child
pub child_within : (g : Graph) (c place node : ℕ) → slice_get (children g c) place ≡ Some node → node < length g.nodes
child_within g c place node e = (child_is g c node (get_in (children g c) place node e)).0
