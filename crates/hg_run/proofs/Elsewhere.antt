-- A firing changes what is due only where its links lead.
use Rattle.std.proofs.Common.{◌≡◌, ◌≢◌, ◌⊎◌, inl, inr, ℕ, zero, suc, ◌+◌, ◌<◌, ◌≤◌, map, drop, set, get_or, Bool, true, false, cond, List, [], ◌∷◌, length, Option, Some, None, is_some, refl, sym, ap, ap₂, ◌∙◌, subst, arith}
use Rattle.std.specs.Prelude.{slice_get, not, ◌&&◌, ◌||◌, ◌==◌}
use Rattle.std.proofs.lemmas.Bool.{eqb-true, eq-eqb, cases_order}
use Rattle.std.proofs.lemmas.Option.{slice_get_within}
use Rattle.gp_base.specs.Membership.{In}
use Rattle.hg_ops.specs.Op.{ins_of, fires}
use Rattle.hg_graph.specs.Graph.{Graph, Link, Ports, Order, Port, op_at, children, feeder, is_port}
use Rattle.hg_graph.specs.Run.{Look, Fired, outs_at, candidate, orders_kept, has_fired, value_of, value_at, cons_both, pulled, inputs, with_inputs}
use Rattle.hg_graph.specs.Value.{Value}
use Rattle.hg_graph.specs.declared.link.NodeId.{NodeId}
use Rattle.hg_laws.proofs.Children.{both_true, get_in}
use Rattle.hg_laws.proofs.Looks.{eqb_no}
use Rattle.hg_graph.specs.View.{number_of}
use Rattle.std.proofs.lemmas.List.{drop_more, drop_all, length-map, length-set, get_or-set_same, get_or-set_other}
use Rattle.hg_run.proofs.DueLists.{rises_children, rises_order}
use Rattle.hg_steps.specs.Counters.{source_of}
use Rattle.hg_run.specs.declared.state.Dues.{Dues}
use Rattle.hg_run.specs.code.Waits.{is_due, value_came, order_came}
use Rattle.hg_run.proofs.Arrivals.{value_stays, order_stays, seen_stays}
use Rattle.hg_run.specs.code.Due.{KnowsOtherDues, KnowsDuesBeside, HasDues, HasOtherDues, HasDuesBeside, IsPlace, Refreshes, is_among, target_of, followers_at, HasFollowers}

module _ (look more : Look) (r n : ℕ) (same : (m : ℕ) → m ≢ r → more m ≡ look m) where
  -- no link leads from r to n
  abbrev pub Apart : List Link → Type 0
  Apart links = (link : Link) → In link links → source_of link ≡ r → target_of link ≡ n → ⊥

  feeder_same : (links : List Link) (p : ℕ) → Apart links → value_of more (feeder links (record { node = n; index = p })) ≡ value_of look (feeder links (record { node = n; index = p }))
  feeder_same [] p h = refl
  feeder_same (Order a b ∷ links) p h = feeder_same links p (λ link i. h link (inr i))
  feeder_same (Ports a b ∷ links) p h = go a b links p (feeder_same links p (λ link i. h link (inr i))) (h (Ports a b) (inl refl)) (is_port b (record { node = n; index = p })) refl
    where
      go : (a b : Port) (links : List Link) (p : ℕ) → value_of more (feeder links (record { node = n; index = p })) ≡ value_of look (feeder links (record { node = n; index = p })) → (a.node ≡ r → b.node ≡ n → ⊥)
          → (t : Bool) → is_port b (record { node = n; index = p }) ≡ t → value_of more (cond t (Some a) (feeder links (record { node = n; index = p }))) ≡ value_of look (cond t (Some a) (feeder links (record { node = n; index = p })))
      go a b links p later h true e = ap (λ o. value_at o a.index) (same a.node (λ q. h q (eqb-true b.node n (both_true (b.node == n) (b.index == p) e).0)))
      go a b links p later h false e = later

  pulled_same : (links : List Link) (p count : ℕ) → Apart links → pulled links more n p count ≡ pulled links look n p count
  pulled_same links p zero h = refl
  pulled_same links p (suc count) h = ap₂ cons_both (feeder_same links p h) (pulled_same links (suc p) count h)

  orders_same : (links : List Link) → Apart links → orders_kept links more n ≡ orders_kept links look n
  orders_same [] h = refl
  orders_same (Ports a b ∷ links) h = orders_same links (λ link i. h link (inr i))
  orders_same (Order a b ∷ links) h = ap₂ (λ t u. t && u) (go a b (h (Order a b) (inl refl)) (b == n) refl) (orders_same links (λ link i. h link (inr i)))
    where
      go : (a b : ℕ) → (a ≡ r → b ≡ n → ⊥) → (t : Bool) → (b == n) ≡ t → (not t || has_fired more a) ≡ (not t || has_fired look a)
      go a b h true e = ap is_some (same a (λ q. h q (eqb-true b n e)))
      go a b h false e = refl

  pub candidate_same : (g : Graph) → n ≢ r → Apart g.links → candidate g more n ≡ candidate g look n
  unfolding candidate inputs
  candidate_same g ne h =
      ap (λ o. cond (is_some o) None (cond (orders_kept g.links more n) (with_inputs n (inputs g more n)) None)) (same n ne)
      ∙ ap₂ (λ t vs. cond (has_fired look n) None (cond t (with_inputs n vs) None)) (orders_same g.links h) (pulled_same g.links 0 (length (ins_of (op_at g n))) h)

-- what has fired is due no more
fired_no : (g : Graph) (look : Look) (n : ℕ) (vs : List Value) → look n ≡ Some vs → candidate g look n ≡ None
unfolding candidate
fired_no g look n vs e = ap (λ o. cond (is_some o) None (cond (orders_kept g.links look n) (with_inputs n (inputs g look n)) None)) e

due_none : (g : Graph) (look : Look) (n : ℕ) → candidate g look n ≡ None → is_due g look n ≡ false
due_none g look n e = ap (λ o. fires (op_at g n) && is_some o) e ∙ go (fires (op_at g n))
  where
    go : (a : Bool) → (a && false) ≡ false
    go false = refl
    go true = refl

both : (b : Bool) → b ≡ true → b ≡ false → ⊥
both true e f = absurd cc
both false e f = absurd cc

-- After a firing of r the set has what is due beside the nodes that follow r.
pub beside : (g : Graph) (c : ℕ) (fired : List Fired) (r : ℕ) (outs : List Value) (lists : List (List NodeId)) (flags : List Bool) → HasFollowers g lists → HasOtherDues g c (outs_at fired) r flags
    → HasDuesBeside g c (outs_at (record { node = r; outs = outs } ∷ fired)) (followers_at lists r) flags
beside g c fired r outs lists flags follow has = record { all = has.all; at = λ p n e away. has.at p n e refl ∙ go n away (r == n) refl }
  where
    look : Look
    look = outs_at fired

    more : Look
    more = outs_at (record { node = r; outs = outs } ∷ fired)

    other : (m : ℕ) → m ≢ r → more m ≡ look m
    other m ne = ap (λ t. cond t (Some outs) (look m)) (eqb_no r m (λ e. ne (sym e)))

    no_link : (n : ℕ) → is_among n (followers_at lists r) ≡ false → Apart look more r n other g.links
    no_link n away link i s t = both (is_among n (followers_at lists r)) (sym (ap₂ (λ a b. is_among b (followers_at lists a)) s t) ∙ follow link i) away

    go : (n : ℕ) → is_among n (followers_at lists r) ≡ false → (t : Bool) → (r == n) ≡ t → (not t && is_due g look n) ≡ is_due g more n
    go n away true e = sym (due_none g more n (fired_no g more n outs (ap (λ t. cond t (Some outs) (look n)) e)))
    go n away false e = ap (λ o. fires (op_at g n) && is_some o) (sym (candidate_same look more r n other g (λ q. both (r == n) (eq-eqb r n (sym q)) e) (no_link n away)))

pub known_beside : (g : Graph) (c : ℕ) (fired : List Fired) (r : ℕ) (outs : List Value) (lists : List (List NodeId)) (dues : Dues) → HasFollowers g lists → KnowsOtherDues g c (outs_at fired) r dues
    → KnowsDuesBeside g c (outs_at (record { node = r; outs = outs } ∷ fired)) (followers_at lists r) dues
known_beside g c fired r outs lists dues follow known = record {
  ready = beside g c fired r outs lists dues.ready follow known.ready;
  seen = record {
    values = seen_stays g c (value_came g (outs_at fired)) (value_came g (outs_at (record { node = r; outs = outs } ∷ fired))) dues.values.items (value_stays g fired r outs known.first) known.seen.values;
    orders = seen_stays g c (order_came g (outs_at fired)) (order_came g (outs_at (record { node = r; outs = outs } ∷ fired))) dues.orders.items (order_stays g fired r outs known.first) known.seen.orders;
  };
}

-- as a region opens
among_of : (n : ℕ) (nodes : List NodeId) → In n (map number_of nodes) → is_among n nodes ≡ true
among_of n [] i = absurd i
among_of n (m ∷ nodes) (inl e) = ap (λ t. t || is_among n nodes) (eq-eqb m.0 n (sym e))
among_of n (m ∷ nodes) (inr i) = go (m.0 == n) (among_of n nodes i)
  where
    go : (t : Bool) → is_among n nodes ≡ true → (t || is_among n nodes) ≡ true
    go true e = refl
    go false e = e

pub at_first : (g : Graph) (c : ℕ) (look : Look) (nodes : List NodeId) (flags : List Bool) → map number_of nodes ≡ children g c → length flags ≡ length (children g c) → HasDuesBeside g c look nodes flags
at_first g c look nodes flags e l = record { all = l; at = λ p n f away. absurd (both (is_among n nodes) (among_of n nodes (subst (In n) (sym e) (get_in (children g c) p n f))) away) }

-- one more node has been looked at
pub beside_less : (g : Graph) (c : ℕ) (look : Look) (nodes : List NodeId) (k : ℕ) (d : NodeId) (old new : List Bool) → k < length nodes → HasDuesBeside g c look (drop k nodes) old
    → Refreshes g c look (get_or nodes k d).0 old new → HasDuesBeside g c look (drop (k + 1) nodes) new
beside_less g c look nodes k d old new l has up = record { all = up.all ∙ has.all; at = λ p n e away. up.at p n e ∙ go p n e away ((get_or nodes k d).0 == n) refl }
  where
    go : (p n : ℕ) → slice_get (children g c) p ≡ Some n → is_among n (drop (k + 1) nodes) ≡ false → (t : Bool) → ((get_or nodes k d).0 == n) ≡ t → cond t (is_due g look n) (get_or old p false) ≡ is_due g look n
    go p n f away true e = refl
    go p n f away false e = has.at p n f (ap (is_among n) (drop_more nodes k d l) ∙ ap₂ (λ t u. t || u) e away)

-- all have been
pub beside_none : (g : Graph) (c : ℕ) (look : Look) (nodes : List NodeId) (k : ℕ) (flags : List Bool) → length nodes ≤ k → HasDuesBeside g c look (drop k nodes) flags → HasDues g c look flags
beside_none g c look nodes k flags l has = subst (λ nodes. HasDuesBeside g c look nodes flags) (drop_all k nodes l) has

-- the number of a child
pub number_at : (nodes : List NodeId) (xs : List ℕ) (k : ℕ) (d : NodeId) → map number_of nodes ≡ xs → k < length nodes → slice_get xs k ≡ Some (get_or nodes k d).0
number_at nodes xs k d e l = sym (ap (λ xs. slice_get xs k) e) ∙ go nodes k l
  where
    go : (nodes : List NodeId) (k : ℕ) → k < length nodes → slice_get (map number_of nodes) k ≡ Some (get_or nodes k d).0
    go [] k l = absurd (omega (arith, l))
    go (n ∷ nodes) zero l = refl
    go (n ∷ nodes) (suc k) l = go nodes k (omega (arith, l))

abbrev number_or : ℕ → Option ℕ → ℕ
number_or d None = d
number_or d (Some n) = n

-- another number
pub not_here : (nodes : List NodeId) (xs : List ℕ) (k node : ℕ) (d : NodeId) → map number_of nodes ≡ xs → (k < length nodes → (get_or nodes k d).0 ≡ node → ⊥) → (m : ℕ) → slice_get xs k ≡ Some m → m ≢ node
not_here nodes xs k node d e other m f q =
    let l : k < length nodes = omega (arith, slice_get_within xs k m f, ap length e, length-map nodes number_of) in
    other l (ap (number_or node) (sym (number_at nodes xs k d e l) ∙ f) ∙ q)

-- ---- one place
module _ (g : Graph) (c node : ℕ) where
  -- no child
  pub refreshed_none : (look : Look) (flags : List Bool) → IsPlace g c node None → Refreshes g c look node flags flags
  refreshed_none look flags none = record { all = refl; at = λ p n e. go p n e (node == n) refl }
    where
      go : (p n : ℕ) → slice_get (children g c) p ≡ Some n → (t : Bool) → (node == n) ≡ t → get_or flags p false ≡ cond t (is_due g look n) (get_or flags p false)
      go p n e false q = refl
      go p n e true q = absurd (none p (e ∙ ap Some (sym (eqb-true node n q))))

  abbrev or_number : ℕ → Option ℕ → ℕ
  or_number d None = d
  or_number d (Some n) = n

  -- the flags after a change at the place
  changed : (place : ℕ) (flags : List Bool) (flag : Bool) (test : ℕ → Bool) → IsPlace g c node (Some place) → length flags ≡ length (children g c) → flag ≡ test node
      → (p n : ℕ) → slice_get (children g c) p ≡ Some n → get_or (set flags place flag) p false ≡ cond (node == n) (test n) (get_or flags p false)
  changed place flags flag test is l f p n e = go (node == n) refl (cases_order p place)
    where
      here : node ≡ n → p ≡ place
      here q = is.1 p (e ∙ ap Some (sym q))

      same : p ≡ place → node ≡ n
      same q = ap (or_number node) (sym is.0 ∙ (ap (slice_get (children g c)) (sym q) ∙ e))

      go : (t : Bool) → (node == n) ≡ t → (p ≡ place) ⊎ ((p < place) ⊎ (place < p)) → get_or (set flags place flag) p false ≡ cond t (test n) (get_or flags p false)
      go true q o =
          ap (λ p. get_or (set flags place flag) p false) (here (eqb-true node n q))
          ∙ (get_or-set_same flags place flag false (omega (arith, slice_get_within (children g c) place node is.0, l)) ∙ (f ∙ ap test (eqb-true node n q)))
      go false q (inl s) = absurd (both (node == n) (eq-eqb node n (same s)) q)
      go false q (inr (inl s)) = get_or-set_other flags place p flag false (λ e. omega (arith, e, s))
      go false q (inr (inr s)) = get_or-set_other flags place p flag false (λ e. omega (arith, e, s))

  pub refreshed : (look : Look) (place : ℕ) (flags : List Bool) (flag : Bool) → IsPlace g c node (Some place) → length flags ≡ length (children g c) → flag ≡ is_due g look node → Refreshes g c look node flags (set flags place flag)
  refreshed look place flags flag is l f = record { all = length-set flags place flag; at = changed place flags flag (is_due g look) is l f }

  -- the one that runs is taken out
  pub but_one : (look : Look) (place : ℕ) (flags : List Bool) → IsPlace g c node (Some place) → HasDues g c look flags → HasOtherDues g c look node (set flags place false)
  but_one look place flags is has = record { all = length-set flags place false ∙ has.all; at = λ p n e away. changed place flags false (λ n. false) is has.all refl p n e ∙ (ap (cond (node == n) false) (has.at p n e refl) ∙ go (node == n) (is_due g look n)) }
    where
      go : (t b : Bool) → cond t false b ≡ (not t && b)
      go true b = refl
      go false b = refl

  pub but_none : (look : Look) (flags : List Bool) → IsPlace g c node None → HasDues g c look flags → HasOtherDues g c look node flags
  but_none look flags none has = record { all = has.all; at = λ p n e away. has.at p n e refl ∙ go p n e (node == n) refl }
    where
      go : (p n : ℕ) → slice_get (children g c) p ≡ Some n → (t : Bool) → (node == n) ≡ t → is_due g look n ≡ (not t && is_due g look n)
      go p n e false q = refl
      go p n e true q = absurd (none p (e ∙ ap Some (sym (eqb-true node n q))))

-- ---- the search for a place
module _ (g : Graph) (c node : ℕ) where
  -- those below a place are less
  abbrev pub AreBelow : ℕ → Type 0
  AreBelow low = (p n : ℕ) → slice_get (children g c) p ≡ Some n → p < low → n < node

  -- those from a place on aren't
  abbrev pub AreAbove : ℕ → Type 0
  AreAbove high = (p n : ℕ) → slice_get (children g c) p ≡ Some n → high ≤ p → node ≤ n

  pub below_more : (middle m : ℕ) → slice_get (children g c) middle ≡ Some m → m < node → AreBelow (middle + 1)
  below_more middle m e l p n f h = elim (cases_order p middle) [
    | inl q ↦ let s : m ≡ n = ap (or_number g c node m) (sym e ∙ (ap (slice_get (children g c)) (sym q) ∙ f)) in omega (arith, s, l)
    | inr o ↦ elim o [
      | inl q ↦ omega (arith, rises_order 0 (children g c) p middle n m (rises_children g c) f e q, l)
      | inr q ↦ absurd (omega (arith, h, q))
    ]
  ]

  pub above_more : (middle m : ℕ) → slice_get (children g c) middle ≡ Some m → node ≤ m → AreAbove middle
  above_more middle m e l p n f h = elim (cases_order p middle) [
    | inl q ↦ let s : m ≡ n = ap (or_number g c node m) (sym e ∙ (ap (slice_get (children g c)) (sym q) ∙ f)) in omega (arith, s, l)
    | inr o ↦ elim o [
      | inl q ↦ absurd (omega (arith, h, q))
      | inr q ↦ omega (arith, rises_order 0 (children g c) middle p m n (rises_children g c) e f q, l)
    ]
  ]

  pub is_place : (place : ℕ) → slice_get (children g c) place ≡ Some node → IsPlace g c node (Some place)
  is_place place e = (
    e,
    λ p f. elim (cases_order p place) [
      | inl q ↦ q
      | inr o ↦ elim o [
        | inl q ↦ absurd (omega (arith, rises_order 0 (children g c) p place node node (rises_children g c) f e q))
        | inr q ↦ absurd (omega (arith, rises_order 0 (children g c) place p node node (rises_children g c) e f q))
      ]
    ],
  )

  -- the one at the place is another, or there is none
  pub no_place : (low high : ℕ) → high ≤ low → AreBelow low → AreAbove high → ((m : ℕ) → slice_get (children g c) low ≡ Some m → m ≢ node) → IsPlace g c node None
  no_place low high l below above other p e = elim (cases_order p low) [
    | inl q ↦ other node (ap (slice_get (children g c)) (sym q) ∙ e) refl
    | inr o ↦ elim o [
      | inl q ↦ omega (arith, below p node e q)
      | inr q ↦ past_low q (slice_get (children g c) low) refl
    ]
  ]
    where
      none_past : (xs : List ℕ) (k p n : ℕ) → slice_get xs k ≡ None → slice_get xs p ≡ Some n → k ≤ p → ⊥
      none_past [] k p n f e l = absurd cc
      none_past (x ∷ xs) zero p n f e l = absurd cc
      none_past (x ∷ xs) (suc k) zero n f e l = omega (arith, l)
      none_past (x ∷ xs) (suc k) (suc p) n f e l = none_past xs k p n f e (omega (arith, l))

      past_low : low < p → (o : Option ℕ) → slice_get (children g c) low ≡ o → ⊥
      past_low q None f = none_past (children g c) low p node f e (omega (arith, q))
      past_low q (Some m) f = let a = above low m f l in omega (arith, rises_order 0 (children g c) low p m node (rises_children g c) f e q, a)
