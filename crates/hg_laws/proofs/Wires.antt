-- Value links and order links as lists of their own, and look-ups in them.
use Rattle.std.proofs.Common.{◌≡◌, ◌⊎◌, inl, inr, ℕ, zero, suc, ◌+◌, ◌<◌, ◌≤◌, Bool, true, false, cond, not, ◌&&◌, ◌||◌, eqb, ltb, List, [], ◌∷◌, length, filter_map, Option, Some, None, refl, sym, ap, ap₂, ◌∙◌, subst, arith}
use Rattle.std.specs.List.{cons_option}
use Rattle.std.proofs.lemmas.Bool.{ltb-true, lt-ltb, eqb-true}
use Rattle.hg_ops.specs.Op.{ins_of}
use Rattle.gp_base.specs.Membership.{In}
use Rattle.hg_graph.specs.Graph.{Graph, Port, Link, Ports, Order, op_at, is_port, feeder, taker, links_into, links_from}
use Rattle.hg_graph.specs.Run.{Look, has_fired, value_at, value_of, cons_both, pulled, inputs, orders_kept}
use Rattle.hg_graph.specs.Valid.{Edge, along_value, along_order}
use Rattle.hg_graph.specs.Value.{Value}
use Rattle.hg_laws.proofs.Lists.{In-filter_map, In-filter_map_back}

pub record Wire : Type 0 where
  pub from : ℕ
  pub fp : ℕ
  pub to : ℕ
  pub tp : ℕ

pub record Pair : Type 0 where
  pub before : ℕ
  pub after : ℕ

-- a link into a value input port
abbrev pub value_link : Graph → Link → Option Wire
value_link g (Ports a b) =
    cond (ltb b.index (length (ins_of (op_at g b.node)))) (Some (record { from = a.node; fp = a.index; to = b.node; tp = b.index })) None
value_link g (Order a b) = None

abbrev pub order_link : Link → Option Pair
order_link (Ports a b) = None
order_link (Order a b) = Some (record { before = a; after = b })

unfoldable pub value_links : Graph → List Wire
value_links g = filter_map (value_link g) g.links

unfoldable pub order_links : Graph → List Pair
order_links g = filter_map order_link g.links

-- ---- look-ups
abbrev pub wire_into : List Wire → ℕ → ℕ → Option Wire
wire_into [] n p = None
wire_into (w ∷ ws) n p = cond (eqb w.to n && eqb w.tp p) (Some w) (wire_into ws n p)

abbrev pub wires_into : List Wire → ℕ → ℕ → ℕ
wires_into [] n p = 0
wires_into (w ∷ ws) n p = cond (eqb w.to n && eqb w.tp p) 1 0 + wires_into ws n p

abbrev pub wires_from : List Wire → ℕ → ℕ → ℕ
wires_from [] n p = 0
wires_from (w ∷ ws) n p = cond (eqb w.from n && eqb w.fp p) 1 0 + wires_from ws n p

abbrev pub node_after : List Wire → ℕ → ℕ → Option ℕ
node_after [] n p = None
node_after (w ∷ ws) n p = cond (eqb w.from n && eqb w.fp p) (Some w.to) (node_after ws n p)

-- the value at the source of a wire
abbrev pub along : Look → Option Wire → Option Value
along look None = None
along look (Some w) = value_at (look w.from) w.fp

abbrev pub gathered : List Wire → Look → ℕ → ℕ → ℕ → Option (List Value)
gathered ws look n p zero = Some []
gathered ws look n p (suc k) = cons_both (along look (wire_into ws n p)) (gathered ws look n (suc p) k)

abbrev pub orders_done : List Pair → Look → ℕ → Bool
orders_done [] look n = true
orders_done (l ∷ ls) look n = (not (eqb l.after n) || has_fired look l.before) && orders_done ls look n

-- ---- the same, in the list of all links
abbrev pub at_index : ℕ → ℕ → Port
at_index n p = record { node = n; index = p }

both : (a b : Bool) → (a && b) ≡ true → (a ≡ true) × (b ≡ true)
both true b e = (refl, e)
both false b e = absurd cc

true_or_false : (b : Bool) → (b ≡ true) ⊎ (b ≡ false)
true_or_false true = inl refl
true_or_false false = inr refl

clash : {Z : Type 0} (b : Bool) → b ≡ true → b ≡ false → Z
clash b t f = absurd cc

-- the port is the one
pub is_port_true : (b : Port) (n p : ℕ) → is_port b (at_index n p) ≡ true → (b.node ≡ n) × (b.index ≡ p)
is_port_true b n p e = let r = both (eqb b.node n) (eqb b.index p) e in (eqb-true b.node n r.0, eqb-true b.index p r.1)

abbrev pub wire_if : Bool → Port → Port → Option Wire
wire_if c a b = cond c (Some (record { from = a.node; fp = a.index; to = b.node; tp = b.index })) None

abbrev pub sources : Option Wire → Option Port
sources None = None
sources (Some w) = Some (at_index w.from w.fp)

abbrev pub node_of : Option Port → Option ℕ
node_of None = None
node_of (Some p) = Some p.node

module _ (g : Graph) where
  abbrev wires : List Link → List Wire
  wires links = filter_map (value_link g) links

  abbrev is_value : Port → Bool
  is_value b = ltb b.index (length (ins_of (op_at g b.node)))

  -- a value input port has value links alone
  value_in : (b : Port) (n p : ℕ) → p < length (ins_of (op_at g n)) → is_port b (at_index n p) ≡ true → is_value b ≡ true
  value_in b n p l e =
      let r = is_port_true b n p e in
      lt-ltb b.index (length (ins_of (op_at g b.node))) (subst (λ x. x < length (ins_of (op_at g b.node))) (sym r.1) (subst (λ m. p < length (ins_of (op_at g m))) (sym r.0) l))

  into_step : (a b : Port) (links : List Link) (n p : ℕ) (c d : Bool) → is_value b ≡ c → is_port b (at_index n p) ≡ d → (d ≡ true → c ≡ true) → links_into links (at_index n p) ≡ wires_into (wires links) n p → cond d 1 0 + links_into links (at_index n p) ≡ wires_into (cons_option (wire_if c a b) (wires links)) n p
  into_step a b links n p true d ec ed h r = ap₂ (λ x y. cond x 1 0 + y) (sym ed) r
  into_step a b links n p false true ec ed h r = absurd (no (h refl))
    where
      no : ◌≡◌ {A = Bool} false true → ⊥
      no e = cc
  into_step a b links n p false false ec ed h r = let z = r in omega arith

  pub into_same : (links : List Link) (n p : ℕ) → p < length (ins_of (op_at g n)) → links_into links (at_index n p) ≡ wires_into (wires links) n p
  into_same [] n p l = refl
  into_same (Order a b ∷ links) n p l = into_same links n p l
  into_same (Ports a b ∷ links) n p l = into_step a b links n p (is_value b) (is_port b (at_index n p)) refl refl (value_in b n p l) (into_same links n p l)

  feeder_step : (a b : Port) (links : List Link) (n p : ℕ) (c d : Bool) → is_value b ≡ c → is_port b (at_index n p) ≡ d → (d ≡ true → c ≡ true) → feeder links (at_index n p) ≡ sources (wire_into (wires links) n p) → cond d (Some a) (feeder links (at_index n p)) ≡ sources (wire_into (cons_option (wire_if c a b) (wires links)) n p)
  feeder_step a b links n p true true ec ed h r = ap (λ x. sources (cond x (Some (record { from = a.node; fp = a.index; to = b.node; tp = b.index })) (wire_into (wires links) n p))) (sym ed)
  feeder_step a b links n p true false ec ed h r = r ∙ ap (λ x. sources (cond x (Some (record { from = a.node; fp = a.index; to = b.node; tp = b.index })) (wire_into (wires links) n p))) (sym ed)
  feeder_step a b links n p false true ec ed h r = absurd (no (h refl))
    where
      no : ◌≡◌ {A = Bool} false true → ⊥
      no e = cc
  feeder_step a b links n p false false ec ed h r = r

  pub feeder_same : (links : List Link) (n p : ℕ) → p < length (ins_of (op_at g n)) → feeder links (at_index n p) ≡ sources (wire_into (wires links) n p)
  feeder_same [] n p l = refl
  feeder_same (Order a b ∷ links) n p l = feeder_same links n p l
  feeder_same (Ports a b ∷ links) n p l = feeder_step a b links n p (is_value b) (is_port b (at_index n p)) refl refl (value_in b n p l) (feeder_same links n p l)

  along_same : (look : Look) (o : Option Wire) → value_of look (sources o) ≡ along look o
  along_same look None = refl
  along_same look (Some w) = refl

  pub gathered_same : (look : Look) (n p k : ℕ) → p + k ≤ length (ins_of (op_at g n)) → pulled g.links look n p k ≡ gathered (wires g.links) look n p k
  gathered_same look n p zero l = refl
  gathered_same look n p (suc k) l =
      ap₂ cons_both (ap (value_of look) (feeder_same g.links n p (omega arith)) ∙ along_same look (wire_into (wires g.links) n p)) (gathered_same look n (suc p) k (omega arith))

  pub orders_same : (links : List Link) (look : Look) (n : ℕ) → orders_kept links look n ≡ orders_done (filter_map order_link links) look n
  orders_same [] look n = refl
  orders_same (Ports a b ∷ links) look n = orders_same links look n
  orders_same (Order a b ∷ links) look n = ap (λ x. (not (eqb b n) || has_fired look a) && x) (orders_same links look n)

  -- ---- links out of a value output port, where all those lead into value input ports
  from_step : (a b : Port) (links : List Link) (n p : ℕ) (c d : Bool) → is_value b ≡ c → is_port a (at_index n p) ≡ d → (d ≡ true → c ≡ true) → links_from links (at_index n p) ≡ wires_from (wires links) n p → cond d 1 0 + links_from links (at_index n p) ≡ wires_from (cons_option (wire_if c a b) (wires links)) n p
  from_step a b links n p true d ec ed h r = ap₂ (λ x y. cond x 1 0 + y) (sym ed) r
  from_step a b links n p false true ec ed h r = absurd (no (h refl))
    where
      no : ◌≡◌ {A = Bool} false true → ⊥
      no e = cc
  from_step a b links n p false false ec ed h r = let z = r in omega arith

  pub from_same : (links : List Link) (n p : ℕ) → ((a b : Port) → In (Ports a b) links → is_port a (at_index n p) ≡ true → is_value b ≡ true) → links_from links (at_index n p) ≡ wires_from (wires links) n p
  from_same [] n p h = refl
  from_same (Order a b ∷ links) n p h = from_same links n p (λ x y i. h x y (inr i))
  from_same (Ports a b ∷ links) n p h = from_step a b links n p (is_value b) (is_port a (at_index n p)) refl refl (h a b (inl refl)) (from_same links n p (λ x y i. h x y (inr i)))

  after_step : (a b : Port) (links : List Link) (n p : ℕ) (c d : Bool) → is_value b ≡ c → is_port a (at_index n p) ≡ d → (d ≡ true → c ≡ true) → node_of (taker links (at_index n p)) ≡ node_after (wires links) n p → node_of (cond d (Some b) (taker links (at_index n p))) ≡ node_after (cons_option (wire_if c a b) (wires links)) n p
  after_step a b links n p true true ec ed h r = ap (λ x. cond x (Some b.node) (node_after (wires links) n p)) (sym ed)
  after_step a b links n p true false ec ed h r = r ∙ ap (λ x. cond x (Some b.node) (node_after (wires links) n p)) (sym ed)
  after_step a b links n p false true ec ed h r = absurd (no (h refl))
    where
      no : ◌≡◌ {A = Bool} false true → ⊥
      no e = cc
  after_step a b links n p false false ec ed h r = r

  pub after_same : (links : List Link) (n p : ℕ) → ((a b : Port) → In (Ports a b) links → is_port a (at_index n p) ≡ true → is_value b ≡ true) → node_of (taker links (at_index n p)) ≡ node_after (wires links) n p
  after_same [] n p h = refl
  after_same (Order a b ∷ links) n p h = after_same links n p (λ x y i. h x y (inr i))
  after_same (Ports a b ∷ links) n p h = after_step a b links n p (is_value b) (is_port a (at_index n p)) refl refl (h a b (inl refl)) (after_same links n p (λ x y i. h x y (inr i)))

  -- ---- a wire is a link
  pub wire_link : (w : Wire) → In w (value_links g) → In (Ports (at_index w.from w.fp) (at_index w.to w.tp)) g.links × (w.tp < length (ins_of (op_at g w.to)))
  unfolding value_links
  wire_link w i =
      let r = In-filter_map (value_link g) g.links w i in
      from_link r.0 r.1 r.2
    where
      some_is : (x y : Wire) → Some x ≡ Some y → x ≡ y
      some_is x y q = cc

      ports : (a b : Port) → In (Ports a b) g.links → (c : Bool) → is_value b ≡ c → wire_if c a b ≡ Some w → In (Ports (at_index w.from w.fp) (at_index w.to w.tp)) g.links × (w.tp < length (ins_of (op_at g w.to)))
      ports a b j false ec e = absurd cc
      ports a b j true ec e =
          let s = some_is (record { from = a.node; fp = a.index; to = b.node; tp = b.index }) w e in
          (subst (λ x. In (Ports (at_index x.from x.fp) (at_index x.to x.tp)) g.links) s j, subst (λ x. x.tp < length (ins_of (op_at g x.to))) s (ltb-true b.index (length (ins_of (op_at g b.node))) ec))

      from_link : (l : Link) → In l g.links → value_link g l ≡ Some w → In (Ports (at_index w.from w.fp) (at_index w.to w.tp)) g.links × (w.tp < length (ins_of (op_at g w.to)))
      from_link (Ports a b) j e = ports a b j (is_value b) refl e
      from_link (Order a b) j e = absurd cc

  pub link_wire : (a p b q : ℕ) → In (Ports (at_index a p) (at_index b q)) g.links → q < length (ins_of (op_at g b)) → In (record { from = a; fp = p; to = b; tp = q }) (value_links g)
  unfolding value_links
  link_wire a p b q i l =
      In-filter_map_back (value_link g) g.links (Ports (at_index a p) (at_index b q)) (record { from = a; fp = p; to = b; tp = q }) i
      (ap (λ c. wire_if c (at_index a p) (at_index b q)) (lt-ltb q (length (ins_of (op_at g b))) l))

  pub pair_link : (l : Pair) → In l (order_links g) → In (Order l.before l.after) g.links
  unfolding order_links
  pair_link l i =
      let r = In-filter_map order_link g.links l i in
      from_link r.0 r.1 r.2
    where
      some_is : (x y : Pair) → Some x ≡ Some y → x ≡ y
      some_is x y q = cc

      from_link : (k : Link) → In k g.links → order_link k ≡ Some l → In (Order l.before l.after) g.links
      from_link (Ports a b) j e = absurd cc
      from_link (Order a b) j e = subst (λ x. In (Order x.before x.after) g.links) (some_is (record { before = a; after = b }) l e) j

  pub link_pair : (a b : ℕ) → In (Order a b) g.links → In (record { before = a; after = b }) (order_links g)
  unfolding order_links
  link_pair a b i = In-filter_map_back order_link g.links (Order a b) (record { before = a; after = b }) i refl

  -- ---- edges
  pub wire_edge : (w : Wire) → In w (value_links g) → Edge g w.from w.to
  wire_edge w i = let r = wire_link w i in along_value w.fp w.tp r.0 r.1

  pub pair_edge : (l : Pair) → In l (order_links g) → Edge g l.before l.after
  pair_edge l i = along_order (pair_link l i)

  pub edge_cases : (a b : ℕ) → Edge g a b → ((w : Wire) × In w (value_links g) × (w.from ≡ a) × (w.to ≡ b)) ⊎ ((l : Pair) × In l (order_links g) × (l.before ≡ a) × (l.after ≡ b))
  edge_cases a b (along_value p q i l) = inl (record { from = a; fp = p; to = b; tp = q }, link_wire a p b q i l, refl, refl)
  edge_cases a b (along_order i) = inr (record { before = a; after = b }, link_pair a b i, refl, refl)

  -- ---- what a region looks up
  pub inputs_are : (look : Look) (n : ℕ) → inputs g look n ≡ gathered (value_links g) look n 0 (length (ins_of (op_at g n)))
  unfolding inputs value_links
  inputs_are look n = gathered_same look n 0 (length (ins_of (op_at g n))) (omega arith)

  pub orders_are : (look : Look) (n : ℕ) → orders_kept g.links look n ≡ orders_done (order_links g) look n
  unfolding order_links
  orders_are look n = orders_same g.links look n
