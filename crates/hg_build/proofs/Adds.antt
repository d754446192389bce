-- What one more node makes of what was built.
use Rattle.std.proofs.Common.{◌≡◌, ◌≢◌, ◌⊎◌, inl, inr, ⊎_elim, ℕ, suc, ◌≤◌, ◌<◌, true, cond, List, [], ◌∷◌, ◌++◌, length, Option, Some, None, refl, sym, ap, ◌∙◌, subst, arith, le_refl}
use Rattle.gp_base.specs.Membership.{In}
use Rattle.hg_ops.specs.Op.{Op, fires}
use Rattle.hg_graph.specs.Graph.{Graph, Port, Link, Order, LinkIsWithin, op_at, parent_at, children, firing_children, feeder}
use Rattle.hg_build.specs.Steps.{Grows, OrderRises, FedBy}
use Rattle.hg_build.specs.Wired.{with_node, with_links, value_links, order_links, static_links, after_node}
use Rattle.hg_build.specs.Built.{Sound}
use Rattle.hg_build.proofs.Real.{in_split}
use Rattle.hg_build.proofs.Moves.{fed_in}
use Rattle.hg_build.proofs.Grow.{Grown, grown_trans, node_grown, links_grown, count_node, op_new, parent_new, firing_parent, graph_node, graph_links, no_feeder, fed_new, unfed_values, unfed_static, unfed_order, static_new, op_links, parent_links, firing_links, children_links, children_other, no_children}

-- ---- orders
no_order_values : (n q : ℕ) (ps : List Port) (a b : ℕ) → In (Order a b) (value_links n q ps) → ⊥
no_order_values n q [] a b i = i
no_order_values n q (p ∷ ps) a b (inl e) = cc
no_order_values n q (p ∷ ps) a b (inr i) = no_order_values n (suc q) ps a b i

no_order_static : (source : Option ℕ) (n q a b : ℕ) → In (Order a b) (static_links source n q) → ⊥
no_order_static None n q a b i = i
no_order_static (Some f) n q a b (inl e) = cc
no_order_static (Some f) n q a b (inr i) = i

-- the order still rises in a graph with the same places
order_same : (g h : Graph) (a b : ℕ) → Grows g h → OrderRises g a b → OrderRises h a b
order_same g h a b w o =
    let x = o.rises in let y = o.within in let z = w.more in let u = o.below in
    let pb = w.parents b y in
    let pa = w.parents a (omega arith) in
    record {
      rises = x;
      within = omega arith;
      below = omega arith;
      same = pa ∙ o.same ∙ sym pb;
      fires_too = ap fires (w.ops a (omega arith)) ∙ o.fires_too;
    }

pub sound_node : (g : Graph) (kind : Op) (c : ℕ) → c < length g.nodes → Sound g → Sound (with_node g kind c)
sound_node g kind c lt s = record {
  graph = graph_node g kind c lt s.graph;
  orders = λ a b i. order_same g (with_node g kind c) a b (node_grown (length g.nodes) c c g kind (inl refl)).grows (s.orders a b i);
}

pub sound_links : (g : Graph) (ls : List Link) → ((link : Link) → In link ls → LinkIsWithin (length g.nodes) link) → ((a b : ℕ) → In (Order a b) ls → OrderRises g a b) → Sound g → Sound (with_links g ls)
sound_links g ls w o s = record {
  graph = graph_links g ls w s.graph;
  orders = λ a b i. order_same g (with_links g ls) a b (links_grown 0 0 g ls).grows (⊎_elim (λ j. s.orders a b j) (λ j. o a b j) (in_split g.links ls (Order a b) i));
}

-- ports of nodes below n
abbrev pub PortsBelow : ℕ → List Port → Type 0
PortsBelow n [] = Unit {0}
PortsBelow n (p ∷ ps) = (p.node < n) × PortsBelow n ps

pub values_within : (n t q : ℕ) (ps : List Port) → t < n → PortsBelow n ps → (link : Link) → In link (value_links t q ps) → LinkIsWithin n link
values_within n t q [] lt b link i = absurd i
values_within n t q (p ∷ ps) lt b link (inl e) = subst (LinkIsWithin n) (sym e) (b.0, lt)
values_within n t q (p ∷ ps) lt b link (inr i) = values_within n t (suc q) ps lt b.1 link i

pub sound_values : (g : Graph) (t : ℕ) (ps : List Port) → t < length g.nodes → PortsBelow (length g.nodes) ps → Sound g → Sound (with_links g (value_links t 0 ps))
sound_values g t ps lt b s = sound_links g (value_links t 0 ps) (values_within (length g.nodes) t 0 ps lt b) (λ x y i. absurd (no_order_values t 0 ps x y i)) s

abbrev pub SourceBelow : ℕ → Option ℕ → Type 0
SourceBelow n None = Unit {0}
SourceBelow n (Some f) = f < n

pub static_within : (source : Option ℕ) (n t q : ℕ) → t < n → SourceBelow n source → (link : Link) → In link (static_links source t q) → LinkIsWithin n link
static_within None n t q lt b link i = absurd i
static_within (Some f) n t q lt b link (inl e) = subst (LinkIsWithin n) (sym e) (b, lt)
static_within (Some f) n t q lt b link (inr i) = absurd i

sound_static : (g : Graph) (source : Option ℕ) (t q : ℕ) → t < length g.nodes → SourceBelow (length g.nodes) source → Sound g → Sound (with_links g (static_links source t q))
sound_static g source t q lt b s = sound_links g (static_links source t q) (static_within source (length g.nodes) t q lt b) (λ x y i. absurd (no_order_static source t q x y i)) s

-- an order link after an effect node
abbrev pub OrderFits : Graph → Option ℕ → ℕ → Type 0
OrderFits g None n = Unit {0}
OrderFits g (Some l) n = OrderRises g l n

order_within : (g : Graph) (last : Option ℕ) (n : ℕ) → OrderFits g last n → (link : Link) → In link (order_links last n) → LinkIsWithin (length g.nodes) link
order_within g None n f link i = absurd i
order_within g (Some l) n f link (inl e) = let x = f.rises in let y = f.within in subst (LinkIsWithin (length g.nodes)) (sym e) (omega arith, y)
order_within g (Some l) n f link (inr i) = absurd i

order_is : (g : Graph) (last : Option ℕ) (n : ℕ) → OrderFits g last n → (a b : ℕ) → In (Order a b) (order_links last n) → OrderRises g a b
order_is g None n f a b i = absurd i
order_is g (Some l) n f a b (inl e) = let x : a ≡ l = cc in let y : b ≡ n = cc in rw (x, y) f
order_is g (Some l) n f a b (inr i) = absurd i

pub sound_order : (g : Graph) (last : Option ℕ) (n : ℕ) → OrderFits g last n → Sound g → Sound (with_links g (order_links last n))
sound_order g last n f s = sound_links g (order_links last n) (order_within g last n f) (order_is g last n f) s

-- ---- a node with its links

-- an effect node of c
abbrev pub PriorIn : Graph → ℕ → Option ℕ → Type 0
PriorIn g c None = Unit {0}
PriorIn g c (Some l) = (c < l) × (l < length g.nodes) × (parent_at g l ≡ c) × (fires (op_at g l) ≡ true)

prior_fits : (g h : Graph) (c n : ℕ) (prior : Option ℕ) → Grows g h → n ≡ length g.nodes → n < length h.nodes → parent_at h n ≡ c → PriorIn g c prior → OrderFits h prior n
prior_fits g h c n None w e lt p x = tt
prior_fits g h c n (Some l) w e lt p x =
    let a = x.0 in let b = x.1 in
    let pl = w.parents l b in
    record {
      rises = omega arith;
      within = lt;
      below = omega arith;
      same = pl ∙ x.2 ∙ sym p;
      fires_too = ap fires (w.ops l b) ∙ x.3;
    }

pub record NodeAdded (g h : Graph) (kind : Op) (c : ℕ) (ps : List Port) (source : Option ℕ) : Type 0 where
  pub grown : (p : ℕ) → (c ≡ p) ⊎ (length g.nodes ≤ c) → Grown (length g.nodes) p g h
  pub sound : Sound h
  pub one_more : length h.nodes ≡ suc (length g.nodes)
  pub at : op_at h (length g.nodes) ≡ kind
  pub parent : parent_at h (length g.nodes) ≡ c
  pub childless : children h (length g.nodes) ≡ []
  pub firing : firing_children h c ≡ firing_children g c ++ cond (fires kind) (length g.nodes ∷ []) []
  pub fed : FedBy h (length g.nodes) 0 ps
  pub static : (f : ℕ) → source ≡ Some f → feeder h.links (record { node = length g.nodes; index = length ps }) ≡ Some (record { node = f; index = 0 })
  pub unfed : (to : Port) → to.node < length g.nodes → feeder g.links to ≡ None → feeder h.links to ≡ None

pub ports_more : (n m : ℕ) (ps : List Port) → n ≤ m → PortsBelow n ps → PortsBelow m ps
ports_more n m [] le b = tt
ports_more n m (p ∷ ps) le b = let x = b.0 in (omega arith, ports_more n m ps le b.1)

pub source_more : (n m : ℕ) (source : Option ℕ) → n ≤ m → SourceBelow n source → SourceBelow m source
source_more n m None le b = tt
source_more n m (Some f) le b = omega arith

pub node_added : (g : Graph) (kind : Op) (c : ℕ) (ps : List Port) (source prior : Option ℕ) → c < length g.nodes → Sound g → PortsBelow (length g.nodes) ps → SourceBelow (length g.nodes) source → PriorIn g c prior → NodeAdded g (after_node g kind c ps source prior) kind c ps source
node_added g kind c ps source prior lt s pb sb pr =
    let n = length g.nodes in
    let g1 = with_node g kind c in
    let g2 = with_links g1 (value_links n 0 ps) in
    let g3 = with_links g2 (static_links source n (length ps)) in
    let h = with_links g3 (order_links prior n) in
    let more : length g1.nodes ≡ suc n = count_node g kind c in
    let s1 : Sound g1 = sound_node g kind c lt s in
    let s2 : Sound g2 = sound_values g1 n ps (omega arith) (ports_more n (length g1.nodes) ps (omega arith) pb) s1 in
    let s3 : Sound g3 = sound_static g2 source n (length ps) (omega arith) (source_more n (length g1.nodes) source (omega arith) sb) s2 in
    let gr3 : (p : ℕ) → (c ≡ p) ⊎ (n ≤ c) → Grown n p g g3 = λ p o. grown_trans n p g g2 g3 (grown_trans n p g g1 g2 (node_grown n p c g kind o) (links_grown n p g1 (value_links n 0 ps))) (links_grown n p g2 (static_links source n (length ps))) in
    let par : parent_at g3 n ≡ c = parent_links g2 (static_links source n (length ps)) n ∙ parent_links g1 (value_links n 0 ps) n ∙ parent_new g kind c in
    let fits : OrderFits g3 prior n = prior_fits g g3 c n prior (gr3 c (inl refl)).grows refl (omega arith) par pr in
    record {
      grown = λ p o. grown_trans n p g g3 h (gr3 p o) (links_grown n p g3 (order_links prior n));
      sound = sound_order g3 prior n fits s3;
      one_more = more;
      at = op_links g3 (order_links prior n) n ∙ op_links g2 (static_links source n (length ps)) n ∙ op_links g1 (value_links n 0 ps) n ∙ op_new g kind c;
      parent = parent_links g3 (order_links prior n) n ∙ par;
      childless = let ne : n ≢ c = omega arith in children_links g3 (order_links prior n) n ∙ children_links g2 (static_links source n (length ps)) n ∙ children_links g1 (value_links n 0 ps) n ∙ children_other g kind c n ne ∙ no_children g s.graph n (le_refl n);
      firing = firing_links g3 (order_links prior n) c ∙ firing_links g2 (static_links source n (length ps)) c ∙ firing_links g1 (value_links n 0 ps) c ∙ firing_parent g kind c lt;
      fed = fed_in g2 h n 0 ps (grown_trans 0 0 g2 g3 h (links_grown 0 0 g2 (static_links source n (length ps))) (links_grown 0 0 g3 (order_links prior n))).grows (fed_new g1 n ps (λ q. no_feeder g s.graph n q (le_refl n)));
      static = λ f e. (links_grown 0 0 g3 (order_links prior n)).grows.feeders (record { node = n; index = length ps }) (record { node = f; index = 0 }) (subst (λ o. feeder (with_links g2 (static_links o n (length ps))).links (record { node = n; index = length ps }) ≡ Some (record { node = f; index = 0 })) (sym e) (static_new g1 n f ps (λ q. no_feeder g s.graph n q (le_refl n))));
      unfed = λ to l e. let ne : to.node ≢ n = omega arith in unfed_order g3 prior n to (unfed_static g2 source n (length ps) to ne (unfed_values g1 n ps to ne e));
    }
