-- What stands at unread linear ports is what the links carry.
use Rattle.std.proofs.Common.{◌≡◌, ◌≢◌, ◌⊎◌, inl, inr, ℕ, suc, ◌+◌, ◌<◌, ◌≤◌, Bool, true, false, cond, not, ◌&&◌, eqb, List, [], ◌∷◌, length, Option, Some, None, is_some, refl, sym, ap, ap₂, ◌∙◌, subst, arith}
use Rattle.std.specs.Prelude.{slice_get}
use Rattle.std.proofs.lemmas.Bool.Decides.{eqb_tells}
use Rattle.std.proofs.lemmas.Bool.{eqb-true, eq-eqb}
use Rattle.std.proofs.lemmas.Option.{slice_get_past}
use Rattle.std.proofs.lemmas.Bool.{cases_lt}
use Rattle.hg_ops.specs.GraphType.{GraphType, is_linear}
use Rattle.hg_ops.specs.Op.{Types, outs_of}
use Rattle.gp_base.specs.Membership.{In}
use Rattle.hg_graph.specs.Graph.{Graph, Port, op_at, op_of, taker}
use Rattle.hg_graph.specs.Moments.{has_read, FiredOnce, IsGoodOpen, AreGoodOpen, is_read, at_ports, at_nodes, unread}
use Rattle.hg_graph.specs.Run.{Fired, Open, Look, outs_at, has_fired, value_at}
use Rattle.hg_graph.specs.Value.{Value, HasType, HaveTypes, functions, uses}
use Rattle.hg_laws.proofs.Lists.{total, total_four, total_same, total_zero, ports, ports-zero, ports-suc, by_ports, get_within}
use Rattle.hg_laws.proofs.Values.{have_length, copyable_uses, uses_option}
use Rattle.hg_laws.proofs.Wires.{Wire, value_links, wires_from, node_after, node_of, along, at_index}
use Rattle.hg_laws.proofs.Looks.{eqb_no, has_none, has_cases}
use Rattle.hg_laws.proofs.Known.{Known}
use Rattle.hg_laws.proofs.Carry.{carried_by, held_open}
use Rattle.hg_laws.proofs.Safe.{held_all}

-- the node that has a port's link has fired or runs
abbrev taken_by : Look → Option ℕ → Option ℕ → Bool
taken_by look running None = true
taken_by look running (Some n) = has_read look running n

-- the unread linear ports of a node and of a list of nodes, over the value links
abbrev wire_ports : ℕ → List Wire → Look → Option ℕ → ℕ → ℕ → List Value → Types → ℕ
wire_ports q ws look running n p [] ts = 0
wire_ports q ws look running n p (v ∷ vs) [] = 0
wire_ports q ws look running n p (v ∷ vs) (t ∷ ts) =
    cond (is_linear t && not (taken_by look running (node_after ws n p))) (uses q v) 0 + wire_ports q ws look running n (suc p) vs ts

abbrev wire_nodes : ℕ → Graph → Look → Option ℕ → List Fired → ℕ
wire_nodes q g look running [] = 0
wire_nodes q g look running (f ∷ s) = wire_ports q (value_links g) look running f.node 0 f.outs (outs_of (op_at g f.node)) + wire_nodes q g look running s

-- the same over all links
read_same : (look : Look) (running : Option ℕ) (o : Option Port) → is_read look running o ≡ taken_by look running (node_of o)
read_same look running None = refl
read_same look running (Some p) = refl

ports_same' : (q : ℕ) (g : Graph) (look : Look) (running : Option ℕ) (n p : ℕ) (vs : List Value) (ts : Types) → ((j : ℕ) (t : GraphType) → slice_get ts j ≡ Some t → node_of (taker g.links (at_index n (p + j))) ≡ node_after (value_links g) n (p + j)) → at_ports q g.links look running n p vs ts ≡ wire_ports q (value_links g) look running n p vs ts
ports_same' q g look running n p [] ts h = refl
ports_same' q g look running n p (v ∷ vs) [] h = refl
ports_same' q g look running n p (v ∷ vs) (t ∷ ts) h =
    let z : p + 0 ≡ p = omega arith in
    let shift : (j : ℕ) → suc p + j ≡ p + suc j = λ j. omega arith in
    let here : node_of (taker g.links (at_index n p)) ≡ node_after (value_links g) n p = subst (λ x. node_of (taker g.links (at_index n x)) ≡ node_after (value_links g) n x) z (h 0 t refl) in
    ap₂ (λ b r. cond (is_linear t && not b) (uses q v) 0 + r) (read_same look running (taker g.links (at_index n p)) ∙ ap (taken_by look running) here)
    (ports_same' q g look running n (suc p) vs ts (λ j u e. subst (λ x. node_of (taker g.links (at_index n x)) ≡ node_after (value_links g) n x) (sym (shift j)) (h (suc j) u e)))

taken_always : (g : Graph) (V : Known g) (n j : ℕ) (t : GraphType) → slice_get (outs_of (op_at g n)) j ≡ Some t → node_of (taker g.links (at_index n j)) ≡ node_after (value_links g) n j
unfolding op_at
taken_always g V n j t e = elim (cases_lt n (length g.nodes)) [
  | inl l ↦ V.taken n j t l e
  | inr l ↦ absurd (no (sym (ap (λ x. slice_get (outs_of (op_of x)) j) (slice_get_past g.nodes n l)) ∙ e))
]
  where
    no_type : Types
    no_type = []

    no : slice_get no_type j ≡ Some t → ⊥
    no h = cc

nodes_same : (q : ℕ) (g : Graph) (V : Known g) (look : Look) (running : Option ℕ) (s : List Fired) → at_nodes q g look running s ≡ wire_nodes q g look running s
nodes_same q g V look running [] = refl
nodes_same q g V look running (f ∷ s) =
    let z : (j : ℕ) → 0 + j ≡ j = λ j. omega arith in
    ap₂ ◌+◌ (ports_same' q g look running f.node 0 f.outs (outs_of (op_at g f.node)) (λ j t e. subst (λ x. node_of (taker g.links (at_index f.node x)) ≡ node_after (value_links g) f.node x) (sym (z j)) (taken_always g V f.node j t e))) (nodes_same q g V look running s)

-- ---- the links from one port
none_out : (f : Wire → ℕ) (ws : List Wire) (n j : ℕ) → wires_from ws n j ≡ 0 → total (λ w. cond (eqb w.from n && eqb w.fp j) (f w) 0) ws ≡ 0
unfolding total
none_out f [] n j e = refl
none_out f (w ∷ ws) n j e = go (eqb w.from n && eqb w.fp j) e (λ q. none_out f ws n j q)
  where
    go : (b : Bool) → cond b 1 0 + wires_from ws n j ≡ 0 → (wires_from ws n j ≡ 0 → total (λ w. cond (eqb w.from n && eqb w.fp j) (f w) 0) ws ≡ 0) → cond b (f w) 0 + total (λ w. cond (eqb w.from n && eqb w.fp j) (f w) 0) ws ≡ 0
    go true q r = absurd (omega arith)
    go false q r = let x = r (omega arith) in omega arith

abbrev taken_at : Look → Option ℕ → ℕ → Option ℕ → ℕ
taken_at look running x t = cond (taken_by look running t) 0 x

one_out : (look : Look) (running : Option ℕ) (x : ℕ) (ws : List Wire) (n j : ℕ) → wires_from ws n j ≡ 1 → total (λ w. cond (eqb w.from n && eqb w.fp j) (cond (has_read look running w.to) 0 x) 0) ws ≡ taken_at look running x (node_after ws n j)
unfolding total
one_out look running x [] n j e = absurd (omega arith)
one_out look running x (w ∷ ws) n j e = go (eqb w.from n && eqb w.fp j) e (λ q. one_out look running x ws n j q)
  where
    go : (b : Bool) → cond b 1 0 + wires_from ws n j ≡ 1 → (wires_from ws n j ≡ 1 → total (λ w. cond (eqb w.from n && eqb w.fp j) (cond (has_read look running w.to) 0 x) 0) ws ≡ taken_at look running x (node_after ws n j)) → cond b (cond (has_read look running w.to) 0 x) 0 + total (λ w. cond (eqb w.from n && eqb w.fp j) (cond (has_read look running w.to) 0 x) 0) ws ≡ taken_at look running x (cond b (Some w.to) (node_after ws n j))
    go true q r = let z = none_out (λ y. cond (has_read look running y.to) 0 x) ws n j (omega arith) in omega arith
    go false q r = let y = r (omega arith) in omega arith

module _ (g : Graph) (V : Known g) (q : ℕ) (look : Look) (running : Option ℕ) where
  -- what one port shows
  abbrev port : ℕ → ℕ → Value → GraphType → ℕ
  port n p v t = cond (is_linear t && not (taken_by look running (node_after (value_links g) n p))) (uses q v) 0

  -- what the links of one node carry
  abbrev mine : ℕ → Wire → ℕ
  mine n w = cond (eqb w.from n) (carried_by q look running w) 0

  zero_cond : (b : Bool) (x : ℕ) → x ≡ 0 → cond b 0 x ≡ 0
  zero_cond true x e = refl
  zero_cond false x e = e

  flip_cond : (b : Bool) (x : ℕ) → cond b 0 x ≡ cond (not b) x 0
  flip_cond true x = refl
  flip_cond false x = refl

  one_port : (n j : ℕ) (vs : List Value) (v : Value) (t : GraphType) → n < length g.nodes → look n ≡ Some vs → slice_get (outs_of (op_at g n)) j ≡ Some t → slice_get vs j ≡ Some v → HasType (functions g) v t → total (λ w. cond (eqb w.from n && eqb w.fp j) (carried_by q look running w) 0) (value_links g) ≡ port n j v t
  one_port n j vs v t l s e ev h = go (is_linear t) refl
    where
      at_source : (w : Wire) → w.from ≡ n → w.fp ≡ j → uses_option q (along look (Some w)) ≡ uses q v
      at_source w a b = ap₂ (λ x y. uses_option q (value_at (look x) y)) a b ∙ (ap (λ x. uses_option q (value_at x j)) s ∙ ap (uses_option q) ev)

      same_terms : (x : ℕ) → uses q v ≡ x → total (λ w. cond (eqb w.from n && eqb w.fp j) (carried_by q look running w) 0) (value_links g) ≡ total (λ w. cond (eqb w.from n && eqb w.fp j) (cond (has_read look running w.to) 0 x) 0) (value_links g)
      same_terms x ux = total_same _ _ (value_links g) (λ w iw. each w (eqb_tells w.from n) (eqb_tells w.fp j))
        where
          each : (w : Wire) → ((eqb w.from n ≡ true) × (w.from ≡ n)) ⊎ ((eqb w.from n ≡ false) × (w.from ≢ n)) → ((eqb w.fp j ≡ true) × (w.fp ≡ j)) ⊎ ((eqb w.fp j ≡ false) × (w.fp ≢ j)) → cond (eqb w.from n && eqb w.fp j) (carried_by q look running w) 0 ≡ cond (eqb w.from n && eqb w.fp j) (cond (has_read look running w.to) 0 x) 0
          each w (inl a) (inl b) = ap (λ z. cond (eqb w.from n && eqb w.fp j) (cond (has_read look running w.to) 0 z) 0) (at_source w a.1 b.1 ∙ ux)
          each w (inr a) b = ap (λ z. cond (z && eqb w.fp j) (carried_by q look running w) 0) a.0 ∙ sym (ap (λ z. cond (z && eqb w.fp j) (cond (has_read look running w.to) 0 x) 0) a.0)
          each w (inl a) (inr b) = ap₂ (λ y z. cond (y && z) (carried_by q look running w) 0) a.0 b.0 ∙ sym (ap₂ (λ y z. cond (y && z) (cond (has_read look running w.to) 0 x) 0) a.0 b.0)

      go : (x : Bool) → is_linear t ≡ x → total (λ w. cond (eqb w.from n && eqb w.fp j) (carried_by q look running w) 0) (value_links g) ≡ cond (is_linear t && not (taken_by look running (node_after (value_links g) n j))) (uses q v) 0
      go true x =
          same_terms (uses q v) refl
          ∙ (one_out look running (uses q v) (value_links g) n j (V.spent n j t l e x)
          ∙ (flip_cond (taken_by look running (node_after (value_links g) n j)) (uses q v)
          ∙ sym (ap (λ y. cond (y && not (taken_by look running (node_after (value_links g) n j))) (uses q v) 0) x)))
      go false x =
          let z = copyable_uses (functions g) q v t h x in
          same_terms 0 z
          ∙ (total_zero _ (value_links g) (λ w iw. twice (eqb w.from n && eqb w.fp j) (has_read look running w.to))
          ∙ sym (ap (λ y. cond (y && not (taken_by look running (node_after (value_links g) n j))) (uses q v) 0) x))
        where
          twice : (a b : Bool) → ◌≡◌ {A = ℕ} (cond a (cond b 0 0) 0) 0
          twice true true = refl
          twice true false = refl
          twice false b = refl

  -- all ports of a node that has fired
  ports_of : (n p : ℕ) (vs us : List Value) (ts : List GraphType) → n < length g.nodes → look n ≡ Some us → HaveTypes (functions g) vs ts → ((j : ℕ) (t : GraphType) → slice_get ts j ≡ Some t → slice_get (outs_of (op_at g n)) (p + j) ≡ Some t) → ((j : ℕ) (v : Value) → slice_get vs j ≡ Some v → slice_get us (p + j) ≡ Some v) → ports (λ j. total (λ w. cond (eqb w.from n && eqb w.fp j) (carried_by q look running w) 0) (value_links g)) p (length vs) ≡ wire_ports q (value_links g) look running n p vs ts
  ports_of n p [] us ts l s h ht hv = ports-zero _ p
  ports_of n p (v ∷ vs) us [] l s h ht hv = absurd h
  ports_of n p (v ∷ vs) us (t ∷ ts) l s h ht hv =
      let z : p + 0 ≡ p = omega arith in
      let shift : (j : ℕ) → suc p + j ≡ p + suc j = λ j. omega arith in
      ports-suc _ p (length vs)
      ∙ ap₂ ◌+◌ (one_port n p us v t l s (ap (slice_get (outs_of (op_at g n))) (sym z) ∙ ht 0 t refl) (ap (slice_get us) (sym z) ∙ hv 0 v refl) h.0)
      (ports_of n (suc p) vs us ts l s h.1 (λ j u k. ap (slice_get (outs_of (op_at g n))) (shift j) ∙ ht (suc j) u k) (λ j u k. ap (slice_get us) (shift j) ∙ hv (suc j) u k))

  -- a number past the nodes has no ports
  past : (n : ℕ) (vs : List Value) → length g.nodes ≤ n → HaveTypes (functions g) vs (outs_of (op_at g n)) → total (mine n) (value_links g) ≡ wire_ports q (value_links g) look running n 0 vs (outs_of (op_at g n))
  unfolding op_at
  past n vs l h =
      total_zero (mine n) (value_links g) (λ w iw. let j = V.wires w iw in ap (λ b. cond b (carried_by q look running w) 0) (eqb_no w.from n (λ e. below w.from n j.from_in l e)))
      ∙ sym (none vs (subst (HaveTypes (functions g) vs) (ap (λ x. outs_of (op_of x)) (slice_get_past g.nodes n l)) h))
    where
      below : (a b : ℕ) → a < length g.nodes → length g.nodes ≤ b → a ≡ b → ⊥
      below a b x y e = absurd (omega arith)

      none : (us : List Value) → HaveTypes (functions g) us [] → wire_ports q (value_links g) look running n 0 us (outs_of (op_at g n)) ≡ 0
      none [] k = refl
      none (u ∷ us) k = absurd k

  one_node : (n : ℕ) (vs : List Value) → look n ≡ Some vs → HaveTypes (functions g) vs (outs_of (op_at g n)) → total (mine n) (value_links g) ≡ wire_ports q (value_links g) look running n 0 vs (outs_of (op_at g n))
  one_node n vs s h = elim (cases_lt n (length g.nodes)) [ inl l ↦ here l | inr l ↦ past n vs l h ]
    where
      here : n < length g.nodes → total (mine n) (value_links g) ≡ wire_ports q (value_links g) look running n 0 vs (outs_of (op_at g n))
      here l =
          let z : (j : ℕ) → 0 + j ≡ j = λ j. omega arith in
          let len : length vs ≡ length (outs_of (op_at g n)) = have_length (functions g) vs (outs_of (op_at g n)) h in
          by_ports (λ w. eqb w.from n) (λ w. w.fp) (carried_by q look running) (length vs) (value_links g)
          (λ w iw e. let j = V.wires w iw in subst (λ x. w.fp < x) (sym len) (subst (λ m. w.fp < length (outs_of (op_at g m))) (eqb-true w.from n e) (get_within (outs_of (op_at g w.from)) w.fp j.ty j.from_port)))
          ∙ ports_of n 0 vs vs (outs_of (op_at g n)) l s h (λ j t k. ap (slice_get (outs_of (op_at g n))) (z j) ∙ k) (λ j v k. ap (slice_get vs) (z j) ∙ k)

  -- the nodes of a fired list, one by one
  abbrev sum_of : List Fired → ℕ
  sum_of [] = 0
  sum_of (f ∷ s) = total (mine f.node) (value_links g) + sum_of s

  by_nodes : (s : List Fired) → FiredOnce s → sum_of s ≡ total (λ w. cond (has_fired (outs_at s) w.from) (carried_by q look running w) 0) (value_links g)
  by_nodes [] o = sym (total_zero _ (value_links g) (λ w iw. refl))
  by_nodes (f ∷ s) o =
      let ih = by_nodes s o.1 in
      let sums = total_four (mine f.node) (λ w. cond (has_fired (outs_at s) w.from) (carried_by q look running w) 0) (λ w. cond (has_fired (outs_at (f ∷ s)) w.from) (carried_by q look running w) 0) (λ _. 0) (value_links g) (λ w iw. each w (eqb_tells w.from f.node)) in
      let z = total_zero (λ _. 0) (value_links g) (λ w _. refl) in
      omega arith
    where
      three : (x y u x' y' u' : ℕ) → x ≡ x' → y ≡ y' → u ≡ u' → x' + y' ≡ u' → x + y ≡ u + 0
      three x y u x' y' u' a b c d = omega arith

      each : (w : Wire) → ((eqb w.from f.node ≡ true) × (w.from ≡ f.node)) ⊎ ((eqb w.from f.node ≡ false) × (w.from ≢ f.node)) → mine f.node w + cond (has_fired (outs_at s) w.from) (carried_by q look running w) 0 ≡ cond (has_fired (outs_at (f ∷ s)) w.from) (carried_by q look running w) 0 + 0
      each w (inl a) =
          let x = carried_by q look running w in
          three _ _ _ x 0 x
          (ap (λ b. cond b x 0) a.0)
          (ap (λ b. cond b x 0) (ap (has_fired (outs_at s)) a.1 ∙ o.0))
          (ap (λ b. cond (is_some (cond b (Some f.outs) (outs_at s w.from))) x 0) (eq-eqb f.node w.from (sym a.1)))
          (omega arith)
      each w (inr a) =
          let x = carried_by q look running w in
          three _ _ _ 0 (cond (has_fired (outs_at s) w.from) x 0) (cond (has_fired (outs_at s) w.from) x 0)
          (ap (λ b. cond b x 0) a.0)
          refl
          (ap (λ b. cond (is_some (cond b (Some f.outs) (outs_at s w.from))) x 0) (eqb_no f.node w.from (λ e. a.1 (sym e))))
          (omega arith)

-- the first entry of a node is its own, where each node stands once
own_entry : (s : List Fired) (f : Fired) → FiredOnce s → In f s → outs_at s f.node ≡ Some f.outs
own_entry [] f o i = absurd i
own_entry (e ∷ s) f o (inl p) = ap (λ b. cond b (Some e.outs) (outs_at s f.node)) (eq-eqb e.node f.node (ap (λ x. x.node) (sym p))) ∙ ap (λ x. Some x.outs) (sym p)
own_entry (e ∷ s) f o (inr i) =
    elim (eqb_tells e.node f.node) [
      | inl p ↦ absurd (clash (sym (ap (outs_at s) p.1 ∙ own_entry s f o.1 i) ∙ has_none (outs_at s) e.node o.0))
      | inr p ↦ ap (λ b. cond b (Some e.outs) (outs_at s f.node)) p.0 ∙ own_entry s f o.1 i
    ]
  where
    clash : Some f.outs ≡ None → ⊥
    clash h = cc

module _ (g : Graph) (V : Known g) (q : ℕ) where
  fired_ports : (look : Look) (running : Option ℕ) (s : List Fired) → ((f : Fired) → In f s → (look f.node ≡ Some f.outs) × HaveTypes (functions g) f.outs (outs_of (op_at g f.node))) → sum_of g V q look running s ≡ wire_nodes q g look running s
  fired_ports look running [] h = refl
  fired_ports look running (f ∷ s) h =
      let k = h f (inl refl) in
      ap₂ ◌+◌ (one_node g V q look running f.node f.outs k.0 k.1) (fired_ports look running s (λ e i. h e (inr i)))

  pub open_ports : (o : Open) → IsGoodOpen g o → held_open q g o ≡ at_nodes q g (outs_at o.fired) o.running o.fired
  unfolding held_open
  open_ports o G =
      let look = outs_at o.fired in
      total_same (carried_by q look o.running) (λ w. cond (has_fired look w.from) (carried_by q look o.running w) 0) (value_links g) (λ w iw. each w (has_cases look w.from))
      ∙ (sym (by_nodes g V q look o.running o.fired G.once)
      ∙ fired_ports look o.running o.fired (λ f i. let own = own_entry o.fired f G.once i in (own, G.typed f.node f.outs own))
      ∙ sym (nodes_same q g V look o.running o.fired))
    where
      each : (w : Wire) → (has_fired (outs_at o.fired) w.from ≡ true) ⊎ (has_fired (outs_at o.fired) w.from ≡ false) → carried_by q (outs_at o.fired) o.running w ≡ cond (has_fired (outs_at o.fired) w.from) (carried_by q (outs_at o.fired) o.running w) 0
      each w (inl e) = sym (ap (λ b. cond b (carried_by q (outs_at o.fired) o.running w) 0) e)
      each w (inr e) =
          ap (λ x. cond (has_read (outs_at o.fired) o.running w.to) 0 (uses_option q (value_at x w.fp))) (has_none (outs_at o.fired) w.from e)
          ∙ (zero (has_read (outs_at o.fired) o.running w.to)
          ∙ sym (ap (λ b. cond b (carried_by q (outs_at o.fired) o.running w) 0) e))
        where
          zero : (b : Bool) → ◌≡◌ {A = ℕ} (cond b 0 0) 0
          zero true = refl
          zero false = refl

  pub all_ports : (os : List Open) → AreGoodOpen g os → held_all q g os ≡ unread q g os
  unfolding held_all
  all_ports [] h = refl
  all_ports (o ∷ os) h = ap₂ ◌+◌ (open_ports o h.0) (all_ports os h.1)
