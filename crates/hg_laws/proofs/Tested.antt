-- A graph that passes every test is valid, and one whose effect nodes stand on a chain is ordered.
use Rattle.std.proofs.Common.{◌≡◌, ◌≢◌, ◌⊎◌, inl, inr, ℕ, zero, suc, ◌+◌, ◌<◌, ◌≤◌, Bool, true, false, not, ◌&&◌, ◌||◌, eqb, ltb, List, [], ◌∷◌, length, filter, is_some, refl, sym, ap, ◌∙◌, subst, arith}
use Rattle.std.proofs.lemmas.Bool.{eqb-true, ltb-true, cases_lt}
use Rattle.std.proofs.lemmas.Option.{slice_get_past}
use Rattle.hg_ops.specs.Op.{Op, FuncDefn, Cfg, DataflowBlock, Conditional, Call, LoadConstant, LoadFunction, ins_of, outs_of, is_dataflow_container, is_effect}
use Rattle.gp_base.specs.Membership.{In}
use Rattle.hg_graph.specs.Graph.{Graph, Port, Link, Ports, Order, IsGraph, op_of, op_at, parent_at, children, firing_children, feeder, links_into, static_input}
use Rattle.hg_graph.specs.Ordered.{HasEffect, own, inside, IsOrdered}
use Rattle.hg_graph.specs.Valid
use Rattle.hg_graph.specs.Valid.{Rule, IsValid, Keeps, KeepsBlocks, KeepsCases, KeepsSuccessors, KeepsStatic, KeepsCallee, KeepsName, HasPlace, HasSuccessor, Edge, Path, edge, joined, along_value, along_order, may_stand_in}
use Rattle.hg_laws.proofs.Lists.{In-filter_back}
use Rattle.hg_laws.proofs.Looks.{not_both}
use Rattle.hg_laws.proofs.Children.{child_is, kid_is}
use Rattle.hg_laws.proofs.Known.{Known, known}
use Rattle.hg_laws.proofs.Regions.{child_greater}
use Rattle.hg_laws.proofs.Order.{any, has_effect}
use Rattle.hg_laws.proofs.Tests.{both, either, is_false, all_in, in_all, below, in_below, place_ok, place, boundary_of, boundary, blocks_of, blocks, cases_of, cases, link_ok, links_join, local_ok, stays_inside, within_ok, link_within, rises, path_rises, inputs_ok, outputs_ok, outputs_taken, successors_ok, successors, static, constant_ok, constant, callee_ok, callee, has_name, no_name, tags_ok, tags_keep}

module _ (g : Graph) where
  abbrev blocks_ok : ℕ → Op → Bool
  blocks_ok n (Cfg ins outs) = blocks_of g (children g n) ins outs
  blocks_ok n _ = true

  blocks_keep : (n : ℕ) (o : Op) → blocks_ok n o ≡ true → KeepsBlocks g n o
  blocks_keep n (Cfg ins outs) e = blocks g n (children g n) ins outs refl e
  blocks_keep n _ e = tt

  abbrev cases_ok : ℕ → Op → Bool
  cases_ok n (Conditional rows ins outs) = cases_of g (children g n) rows ins outs
  cases_ok n _ = true

  cases_keep : (n : ℕ) (o : Op) → cases_ok n o ≡ true → KeepsCases g n o
  cases_keep n (Conditional rows ins outs) e = cases g n rows ins outs e
  cases_keep n _ e = tt

  abbrev next_ok : ℕ → Op → Bool
  next_ok n (DataflowBlock ins rows others) = successors_ok g n 0 rows others
  next_ok n _ = true

  next_keeps : (n : ℕ) (o : Op) → next_ok n o ≡ true → KeepsSuccessors g n o
  next_keeps n (DataflowBlock ins rows others) e = λ k r q. let z : 0 + k ≡ k = omega arith in subst (λ x. HasSuccessor g n x r others) z (successors g n 0 rows others e k r q)
  next_keeps n _ e = tt

  abbrev static_ok : ℕ → Op → Bool
  static_ok n (Call ins outs) = is_some (feeder g.links (static_input g n)) && eqb (links_into g.links (static_input g n)) 1
  static_ok n (LoadFunction ins outs) = is_some (feeder g.links (static_input g n)) && eqb (links_into g.links (static_input g n)) 1
  static_ok n LoadConstant = constant_ok g n (feeder g.links (static_input g n)) && eqb (links_into g.links (static_input g n)) 1
  static_ok n _ = true

  static_keeps : (n : ℕ) (o : Op) → static_ok n o ≡ true → KeepsStatic g n o
  static_keeps n (Call ins outs) e =
      let b = both (is_some (feeder g.links (static_input g n))) (eqb (links_into g.links (static_input g n)) 1) e in
      static g n (feeder g.links (static_input g n)) refl b.0 (eqb-true (links_into g.links (static_input g n)) 1 b.1)
  static_keeps n (LoadFunction ins outs) e =
      let b = both (is_some (feeder g.links (static_input g n))) (eqb (links_into g.links (static_input g n)) 1) e in
      static g n (feeder g.links (static_input g n)) refl b.0 (eqb-true (links_into g.links (static_input g n)) 1 b.1)
  static_keeps n LoadConstant e =
      let b = both (constant_ok g n (feeder g.links (static_input g n))) (eqb (links_into g.links (static_input g n)) 1) e in
      constant g n (feeder g.links (static_input g n)) refl b.0 (eqb-true (links_into g.links (static_input g n)) 1 b.1)
  static_keeps n _ e = tt

  abbrev callees_ok : ℕ → Op → Bool
  callees_ok n (Call ins outs) = callee_ok g (feeder g.links (static_input g n)) ins outs
  callees_ok n (LoadFunction ins outs) = callee_ok g (feeder g.links (static_input g n)) ins outs
  callees_ok n _ = true

  callees_keep : (n : ℕ) (o : Op) → callees_ok n o ≡ true → KeepsCallee g n o
  callees_keep n (Call ins outs) e = callee g n ins outs (feeder g.links (static_input g n)) refl e
  callees_keep n (LoadFunction ins outs) e = callee g n ins outs (feeder g.links (static_input g n)) refl e
  callees_keep n _ e = tt

  abbrev names_ok : ℕ → Op → Bool
  names_ok n (FuncDefn name ins outs) = below (λ m. not (has_name g (op_at g m) name)) n
  names_ok n _ = true

  names_keep : (n : ℕ) (o : Op) → names_ok n o ≡ true → KeepsName g n o
  names_keep n (FuncDefn name ins outs) e = λ m l q. no_name g (op_at g m) name (is_false (has_name g (op_at g m) name) (in_below (λ k. not (has_name g (op_at g k) name)) n m e l)) q
  names_keep n _ e = tt

  abbrev suits_ok : ℕ → Bool
  suits_ok n = eqb (parent_at g n) n || may_stand_in (op_at g (parent_at g n)) (op_at g n)

  abbrev boundary_ok : ℕ → Bool
  boundary_ok n = not (is_dataflow_container (op_at g n)) || boundary_of g n (children g n)

  -- the tests of a node
  abbrev node_tests : ℕ → List Bool
  node_tests n =
      ltb (parent_at g n) (length g.nodes) ∷ place_ok g n ∷ suits_ok n ∷ boundary_ok n ∷ blocks_ok n (op_at g n) ∷ cases_ok n (op_at g n) ∷ inputs_ok g n ∷ outputs_ok g n 0 (outs_of (op_at g n))
      ∷ next_ok n (op_at g n) ∷ static_ok n (op_at g n) ∷ callees_ok n (op_at g n) ∷ names_ok n (op_at g n) ∷ tags_ok (op_at g n) ∷ []

  abbrev all_true : List Bool → Bool
  all_true bs = all_in (λ b. b) bs

  -- the tests of a graph, with a rank for each node that each edge rises
  unfoldable pub valid_ok : (ℕ → ℕ) → Bool
  valid_ok rank =
      ltb 0 (length g.nodes) && (all_in (within_ok g) g.links && (all_in (link_ok g) g.links && (all_in (local_ok g) g.links && (all_in (rises g rank) g.links && below (λ n. all_true (node_tests n)) (length g.nodes)))))

  module _ (n : ℕ) (t : all_true (node_tests n) ≡ true) where
    test : (b : Bool) → In b (node_tests n) → b ≡ true
    test b i = in_all (λ x. x) (node_tests n) b t i

    suits : parent_at g n ≢ n → may_stand_in (op_at g (parent_at g n)) (op_at g n) ≡ true
    suits ne = elim (either (eqb (parent_at g n) n) (may_stand_in (op_at g (parent_at g n)) (op_at g n)) (test (suits_ok n) (inr (inr (inl refl))))) [ inl h ↦ absurd (ne (eqb-true (parent_at g n) n h)) | inr h ↦ h ]

    has_boundary : is_dataflow_container (op_at g n) ≡ true → Valid.HasBoundary g n
    has_boundary f = elim (either (not (is_dataflow_container (op_at g n))) (boundary_of g n (children g n)) (test (boundary_ok n) (inr (inr (inr (inl refl)))))) [
      | inl h ↦ not_both (is_dataflow_container (op_at g n)) f (is_false (is_dataflow_container (op_at g n)) h)
      | inr h ↦ boundary g n (children g n) refl h
    ]

    taken : Valid.LinearOutputsAreTaken g n
    taken p type q l =
        let z : 0 + p ≡ p = omega arith in
        subst (λ x. Rattle.hg_graph.specs.Graph.links_from g.links (record { node = n; index = x }) ≡ 1) z
        (outputs_taken g n 0 (outs_of (op_at g n)) (test (outputs_ok g n 0 (outs_of (op_at g n))) (inr (inr (inr (inr (inr (inr (inr (inl refl))))))))) p type q l)

    node_keeps : (rule : Rule) → Valid.LinksJoin g n → Valid.LinksStayInside g n → Valid.IsOnNoCycle g n → Keeps g rule n
    node_keeps Valid.Places a b c = place g n (test (place_ok g n) (inr (inl refl)))
    node_keeps Valid.Children a b c = suits
    node_keeps Valid.Boundaries a b c = has_boundary
    node_keeps Valid.Blocks a b c = blocks_keep n (op_at g n) (test (blocks_ok n (op_at g n)) (inr (inr (inr (inr (inl refl))))))
    node_keeps Valid.Cases a b c = cases_keep n (op_at g n) (test (cases_ok n (op_at g n)) (inr (inr (inr (inr (inr (inl refl)))))))
    node_keeps Valid.Links a b c = a
    node_keeps Valid.Inputs a b c = λ p l. eqb-true _ 1 (in_below (λ k. eqb (links_into g.links (record { node = n; index = k })) 1) (length (ins_of (op_at g n))) p (test (inputs_ok g n) (inr (inr (inr (inr (inr (inr (inl refl)))))))) l)
    node_keeps Valid.LinearOutputs a b c = taken
    node_keeps Valid.SameParent a b c = b
    node_keeps Valid.NoCycle a b c = c
    node_keeps Valid.Successors a b c = next_keeps n (op_at g n) (test (next_ok n (op_at g n)) (inr (inr (inr (inr (inr (inr (inr (inr (inl refl))))))))))
    node_keeps Valid.StaticLinks a b c = static_keeps n (op_at g n) (test (static_ok n (op_at g n)) (inr (inr (inr (inr (inr (inr (inr (inr (inr (inl refl)))))))))))
    node_keeps Valid.Callees a b c = callees_keep n (op_at g n) (test (callees_ok n (op_at g n)) (inr (inr (inr (inr (inr (inr (inr (inr (inr (inr (inl refl))))))))))))
    node_keeps Valid.Names a b c = names_keep n (op_at g n) (test (names_ok n (op_at g n)) (inr (inr (inr (inr (inr (inr (inr (inr (inr (inr (inr (inl refl)))))))))))))
    node_keeps Valid.VariantsAndTags a b c = tags_keep (op_at g n) (test (tags_ok (op_at g n)) (inr (inr (inr (inr (inr (inr (inr (inr (inr (inr (inr (inr (inl refl))))))))))))))

  pub passes_valid : (rank : ℕ → ℕ) → valid_ok rank ≡ true → IsValid g
  unfolding valid_ok
  passes_valid rank e =
      let a = both (ltb 0 (length g.nodes)) _ e in
      let b = both (all_in (within_ok g) g.links) _ a.1 in
      let c = both (all_in (link_ok g) g.links) _ b.1 in
      let d = both (all_in (local_ok g) g.links) _ c.1 in
      let f = both (all_in (rises g rank) g.links) (below (λ n. all_true (node_tests n)) (length g.nodes)) d.1 in
      record {
        graph = record {
          some = ltb-true 0 (length g.nodes) a.0;
          parents = λ n l. let t = in_below (λ m. all_true (node_tests m)) (length g.nodes) n f.1 l in ltb-true (parent_at g n) (length g.nodes) (test n t (ltb (parent_at g n) (length g.nodes)) (inl refl));
          links = λ link i. link_within g link (in_all (within_ok g) g.links link b.0 i);
        };
        keeps = λ rule n l. node_keeps n (in_below (λ m. all_true (node_tests m)) (length g.nodes) n f.1 l) rule (links_join g n c.0) (stays_inside g n d.0) (λ p. let r = path_rises g rank f.0 n n p in absurd (no (rank n) r));
      }
    where
      no : (x : ℕ) → x < x → ⊥
      no x l = absurd (omega arith)

-- ---- order
module _ (g : Graph) where
  abbrev pub joins : ℕ → ℕ → Link → Bool
  joins a b (Ports p q) = eqb p.node a && (eqb q.node b && ltb q.index (length (ins_of (op_at g q.node))))
  joins a b (Order x y) = eqb x a && eqb y b

  pub any_link : (test : Link → Bool) (links : List Link) → any test links ≡ true → (link : Link) × In link links × (test link ≡ true)
  any_link test [] e = absurd cc
  any_link test (x ∷ links) e = elim (either (test x) (any test links) e) [ inl h ↦ (x, inl refl, h) | inr h ↦ let r = any_link test links h in (r.0, inr r.1, r.2) ]

  pub link_edge : (a b : ℕ) (link : Link) → In link g.links → joins a b link ≡ true → Edge g a b
  link_edge a b (Ports p q) i e =
      let x = both (eqb p.node a) _ e in
      let y = both (eqb q.node b) (ltb q.index (length (ins_of (op_at g q.node)))) x.1 in
      subst (λ m. Edge g m b) (eqb-true p.node a x.0) (subst (Edge g p.node) (eqb-true q.node b y.0) (along_value p.index q.index i (ltb-true q.index (length (ins_of (op_at g q.node))) y.1)))
  link_edge a b (Order x y) i e =
      let r = both (eqb x a) (eqb y b) e in
      subst (λ m. Edge g m b) (eqb-true x a r.0) (subst (Edge g x) (eqb-true y b r.1) (along_order i))

  -- each node of a list has an edge to the next one
  abbrev chained : ℕ → List ℕ → Bool
  chained a [] = true
  chained a (b ∷ rest) = any (joins a b) g.links && chained b rest

  abbrev is_chain : List ℕ → Bool
  is_chain [] = true
  is_chain (a ∷ rest) = chained a rest

  path_along : (a : ℕ) (rest : List ℕ) → chained a rest ≡ true → (b : ℕ) → In b rest → Path g a b
  path_along a [] e b i = absurd i
  path_along a (c ∷ rest) e b i = go (both (any (joins a c) g.links) (chained c rest) e) i (λ h j. path_along c rest h b j)
    where
      first : any (joins a c) g.links ≡ true → Path g a c
      first h = let l = any_link (joins a c) g.links h in edge (link_edge a c l.0 l.1 l.2)

      go : (any (joins a c) g.links ≡ true) × (chained c rest ≡ true) → (b ≡ c) ⊎ In b rest → (chained c rest ≡ true → In b rest → Path g c b) → Path g a b
      go h (inl s) more = subst (Path g a) (sym s) (first h.0)
      go h (inr j) more = joined (first h.0) (more h.1 j)

  chain_of_rest : (a : ℕ) (rest : List ℕ) → chained a rest ≡ true → is_chain rest ≡ true
  chain_of_rest a [] e = refl
  chain_of_rest a (b ∷ rest) e = (both (any (joins a b) g.links) (chained b rest) e).1

  on_chain : (l : List ℕ) → is_chain l ≡ true → (a b : ℕ) → In a l → In b l → a ≢ b → Path g a b ⊎ Path g b a
  on_chain [] e a b i j ne = absurd i
  on_chain (x ∷ rest) e a b (inl s) (inl t) ne = absurd (ne (s ∙ sym t))
  on_chain (x ∷ rest) e a b (inl s) (inr j) ne = inl (subst (λ m. Path g m b) (sym s) (path_along x rest e b j))
  on_chain (x ∷ rest) e a b (inr i) (inl t) ne = inr (subst (λ m. Path g m a) (sym t) (path_along x rest e a i))
  on_chain (x ∷ rest) e a b (inr i) (inr j) ne = on_chain rest (chain_of_rest x rest e) a b i j ne

  abbrev effects_of : ℕ → List ℕ
  effects_of c = filter (has_effect g (length g.nodes)) (firing_children g c)

  unfoldable pub ordered_ok : Bool
  ordered_ok = below (λ c. not (is_dataflow_container (op_at g c)) || is_chain (effects_of c)) (length g.nodes)

  -- an effect is seen at a depth that reaches it
  or_true : (a b : Bool) → (a ≡ true) ⊎ (b ≡ true) → (a || b) ≡ true
  or_true true b h = refl
  or_true false b (inl h) = absurd cc
  or_true false b (inr h) = h

  pub any_of : {A : Type 0} (test : A → Bool) (xs : List A) (x : A) → In x xs → test x ≡ true → any test xs ≡ true
  any_of test [] x i e = absurd i
  any_of test (y ∷ xs) x (inl s) e = or_true (test y) (any test xs) (inl (ap test (sym s) ∙ e))
  any_of test (y ∷ xs) x (inr i) e = or_true (test y) (any test xs) (inr (any_of test xs x i e))

  seen_effect : (K : Known g) (n d : ℕ) → HasEffect g n → n < length g.nodes → length g.nodes ≤ d + n → has_effect g d n ≡ true
  seen_effect K n zero (own e) l h = absurd (omega arith)
  seen_effect K n (suc d) (own e) l h = or_true (is_effect (op_at g n)) (any (has_effect g d) (children g n)) (inl e)
  seen_effect K n zero (inside {m = m} i k) l h = absurd (omega arith)
  seen_effect K n (suc d) (inside {m = m} i k) l h =
      let more = child_greater g K n m i in
      or_true (is_effect (op_at g n)) (any (has_effect g d) (children g n)) (inr (any_of (has_effect g d) (children g n) m i (seen_effect K m d k (child_is g n m i).0 (omega arith))))

  pub passes_ordered : IsValid g → ordered_ok ≡ true → IsOrdered g
  unfolding ordered_ok op_at
  passes_ordered V e c a b f ia ib ea eb ne = go (cases_lt c (length g.nodes))
    where
      K : Known g
      K = known g V

      in_effects : (m : ℕ) → In m (firing_children g c) → HasEffect g m → In m (effects_of c)
      in_effects m i h = In-filter_back (has_effect g (length g.nodes)) (firing_children g c) m i (seen_effect K m (length g.nodes) h (child_is g c m (kid_is g c m i).0).0 (omega arith))

      past : length g.nodes ≤ c → is_dataflow_container (op_at g c) ≡ true → ⊥
      past l h = no (ap (λ x. is_dataflow_container (op_of x)) (sym (slice_get_past g.nodes c l)) ∙ h)
        where
          no : false ≡ true → ⊥
          no q = cc

      go : (c < length g.nodes) ⊎ (length g.nodes ≤ c) → Path g a b ⊎ Path g b a
      go (inr l) = absurd (past l f)
      go (inl l) = elim (either (not (is_dataflow_container (op_at g c))) (is_chain (effects_of c)) (in_below (λ x. not (is_dataflow_container (op_at g x)) || is_chain (effects_of x)) (length g.nodes) c e l)) as (λ _. Path g a b ⊎ Path g b a) [
        | inl h ↦ not_both (is_dataflow_container (op_at g c)) f (is_false (is_dataflow_container (op_at g c)) h)
        | inr h ↦ on_chain (effects_of c) h a b (in_effects a ia ea) (in_effects b ib eb) ne
      ]
