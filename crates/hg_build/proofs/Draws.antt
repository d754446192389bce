-- What nodes and links make of the rules that a graph keeps.
use Rattle.std.proofs.Common.{◌≡◌, ◌≢◌, ◌⊎◌, inl, inr, ⊎_elim, ℕ, ℤ, zero, suc, ◌+◌, ◌≤◌, ◌<◌, Bool, true, false, cond, ◌&&◌, eqb, List, [], ◌∷◌, ◌++◌, length, map, Option, Some, None, slice_get, refl, sym, ap, ◌∙◌, subst, arith, eq-eqb, ne_eqb, append_assoc, length-append}
use Rattle.gp_base.specs.Membership.{In}
use Rattle.hg_ops.specs.GraphType.{GraphType}
use Rattle.hg_ops.specs.Op.{Op, Types, FuncDefn, Const, Output, Call, LoadConstant, LoadFunction, PortKind, ValuePort, FunctionPort, ConstantPort, ins_of, outs_of, input_ports, output_ports, is_operation}
use Rattle.hg_graph.specs.Graph.{Graph, Port, Link, Ports, Order, IsGraph, LinkIsWithin, op_at, parent_at, feeder, is_port, links_into, static_input}
use Rattle.hg_graph.specs.Valid.{HasPlace, SuitsParent, may_stand_in, is_module, LinksJoin, JoinsPorts, JoinsNodes, LinksStayInside, is_local, Edge, along_value, along_order, KeepsName, KeepsTags, is_output, is_input, name_of}
use Rattle.hg_build.specs.Steps.{Grows}
use Rattle.hg_build.specs.Wired.{with_node, with_links, value_links, order_links, static_links}
use Rattle.hg_build.specs.Drawn.{Drawn, StaticAt, Typed, owes_static}
use Rattle.hg_build.proofs.Real.{in_split}
use Rattle.hg_build.proofs.Grow.{count_node, op_old, op_new, parent_old, parent_new, op_links, parent_links, graph_node, graph_links, node_grows, links_grow}
use Rattle.hg_build.proofs.Joins.{with_none}
use Rattle.hg_build.specs.Wired.{after_node}
use Rattle.hg_build.proofs.Linear.{split, skip, hit, other_port}

-- ---- what stays of a node

joins_ports : (g h : Graph) (from to : Port) → op_at h from.node ≡ op_at g from.node → op_at h to.node ≡ op_at g to.node → JoinsPorts g from to → JoinsPorts h from to
joins_ports g h from to a b j = record {
  kind = j.kind;
  output = ap (λ o. slice_get (output_ports o) from.index) a ∙ j.output;
  input = ap (λ o. slice_get (input_ports o) to.index) b ∙ j.input;
}

joins_nodes : (g h : Graph) (x y : ℕ) → op_at h x ≡ op_at g x → op_at h y ≡ op_at g y → JoinsNodes g x y → JoinsNodes h x y
joins_nodes g h x y a b j = record {
  from_operation = ap is_operation a ∙ j.from_operation;
  to_operation = ap is_operation b ∙ j.to_operation;
  no_output = ap is_output a ∙ j.no_output;
  no_input = ap is_input b ∙ j.no_input;
}

static_same : (g h : Graph) (n : ℕ) → op_at h n ≡ op_at g n → static_input h n ≡ static_input g n
static_same g h n e = ap (λ o. record { node = n; index = length (ins_of o) }) e

-- the static link of a node stays in a graph that grows by no such link
static_grows : (g h : Graph) (n : ℕ) (kind : Op) → Grows g h → IsGraph g → n < length g.nodes → links_into h.links (static_input g n) ≡ links_into g.links (static_input g n) → ((from : Port) → feeder g.links (static_input g n) ≡ Some from → from.node < length g.nodes) → StaticAt g n kind → StaticAt h n kind
static_grows g h n (Call ins outs) w s lt e src x =
    let q = static_same g h n (w.ops n lt) in
    let c = x.callee in
    record {
      static = record { once = ap (links_into h.links) q ∙ e ∙ x.static.once; source = x.static.source; is_source = ap (feeder h.links) q ∙ w.feeders (static_input g n) x.static.source x.static.is_source };
      callee = record { source = c.source; is_source = ap (feeder h.links) q ∙ w.feeders (static_input g n) c.source c.is_source; name = c.name; is_function = w.ops c.source.node (src c.source c.is_source) ∙ c.is_function };
    }
static_grows g h n (LoadFunction ins outs) w s lt e src x =
    let q = static_same g h n (w.ops n lt) in
    let c = x.callee in
    record {
      static = record { once = ap (links_into h.links) q ∙ e ∙ x.static.once; source = x.static.source; is_source = ap (feeder h.links) q ∙ w.feeders (static_input g n) x.static.source x.static.is_source };
      callee = record { source = c.source; is_source = ap (feeder h.links) q ∙ w.feeders (static_input g n) c.source c.is_source; name = c.name; is_function = w.ops c.source.node (src c.source c.is_source) ∙ c.is_function };
    }
static_grows g h n LoadConstant w s lt e src x =
    let q = static_same g h n (w.ops n lt) in
    record {
      static = record { once = ap (links_into h.links) q ∙ e ∙ x.static.once; source = x.static.source; is_source = ap (feeder h.links) q ∙ w.feeders (static_input g n) x.static.source x.static.is_source };
      beside = w.parents x.static.source.node (src x.static.source x.static.is_source) ∙ x.beside ∙ sym (w.parents n lt);
    }
static_grows g h n _ w s lt e src x = tt

-- the source of a link is a node
feeder_within : (ls : List Link) (count : ℕ) (to from : Port) → ((link : Link) → In link ls → LinkIsWithin count link) → feeder ls to ≡ Some from → from.node < count
feeder_within [] count to from h e = absurd cc
feeder_within (Order a b ∷ ls) count to from h e = feeder_within ls count to from (λ l i. h l (inr i)) e
feeder_within (Ports a b ∷ ls) count to from h e = by_test (is_port b to) e (feeder_within ls count to from (λ l i. h l (inr i)))
  where
    some_is : (x y : Port) → Some x ≡ Some y → x ≡ y
    some_is x y q = cc

    by_test : (t : Bool) → cond t (Some a) (feeder ls to) ≡ Some from → (feeder ls to ≡ Some from → from.node < count) → from.node < count
    by_test true q r = let x : a.node < count = (h (Ports a b) (inl refl)).0 in let y : a.node ≡ from.node = ap (λ (z : Port). z.node) (some_is a from q) in omega arith
    by_test false q r = r q

name_grows : (g h : Graph) (n : ℕ) (kind : Op) → Grows g h → n < length g.nodes → KeepsName g n kind → KeepsName h n kind
name_grows g h n (FuncDefn name ins outs) w lt k = λ m l e. k m l (ap name_of (sym (w.ops m (omega arith))) ∙ e)
name_grows g h n _ w lt k = tt

into_append : (ls rs : List Link) (p : Port) → links_into (ls ++ rs) p ≡ links_into ls p + links_into rs p
into_append [] rs p = omega arith
into_append (Ports a b ∷ ls) rs p = let h = into_append ls rs p in omega arith
into_append (Order a b ∷ ls) rs p = into_append ls rs p

-- ---- links into one node

abbrev pub target : Link → ℕ
target (Ports a b) = b.node
target (Order a b) = b

into_other : (ls : List Link) (t : ℕ) (p : Port) → ((link : Link) → In link ls → target link ≡ t) → p.node ≢ t → links_into ls p ≡ 0
into_other [] t p h ne = refl
into_other (Order a b ∷ ls) t p h ne = into_other ls t p (λ l i. h l (inr i)) ne
into_other (Ports a b ∷ ls) t p h ne =
    let q = h (Ports a b) (inl refl) in
    skip (is_port b p) (links_into ls p) 0 (other_port b p (λ e. ne (sym e ∙ q))) (into_other ls t p (λ l i. h l (inr i)) ne)

-- What is to be known of the node t to which all the new links lead.
pub record LinksTo (g : Graph) (ls : List Link) (t : ℕ) (due owed due' owed' : List ℕ) : Type 0 where
  pub node : t < length g.nodes
  pub within : (link : Link) → In link ls → LinkIsWithin (length g.nodes) link
  pub into : (link : Link) → In link ls → target link ≡ t
  pub joins : (from to : Port) → In (Ports from to) ls → JoinsPorts g from to
  pub orders : (a b : ℕ) → In (Order a b) ls → JoinsNodes g a b × (parent_at g a ≡ parent_at g b) × (a < b)
  pub local : (from to : Port) → In (Ports from to) ls → is_local (slice_get (input_ports (op_at g t)) to.index) ≡ true → parent_at g from.node ≡ parent_at g t
  pub rises : (from to : Port) → In (Ports from to) ls → to.index < length (ins_of (op_at g t)) → (from.node < t) ⊎ (is_output (op_at g t) ≡ true)
  pub fed : (In t due' → ⊥) → (p : ℕ) → p < length (ins_of (op_at g t)) → links_into (with_links g ls).links (record { node = t; index = p }) ≡ 1
  pub unfed : In t due' → (p : ℕ) → p < length (ins_of (op_at g t)) → links_into (with_links g ls).links (record { node = t; index = p }) ≡ 0
  pub statics : (In t owed' → ⊥) → StaticAt (with_links g ls) t (op_at g t)
  pub unowed : In t owed' → links_into (with_links g ls).links (static_input g t) ≡ 0
  pub due_in : (m : ℕ) → m ≢ t → In m due' → In m due
  pub due_out : (m : ℕ) → m ≢ t → In m due → In m due'
  pub owed_in : (m : ℕ) → m ≢ t → In m owed' → In m owed
  pub owed_out : (m : ℕ) → m ≢ t → In m owed → In m owed'

pub drawn_links : (g : Graph) (ls : List Link) (t : ℕ) (due owed due' owed' : List ℕ) → Drawn g due owed → LinksTo g ls t due owed due' owed' → Drawn (with_links g ls) due' owed'
drawn_links g ls t due owed due' owed' d k = record {
  graph = graph_links g ls k.within d.graph;
  places = λ n l. let p = d.places n l in record { root = λ e. (same n ∙ (p.root e).0, parent_links g ls n ∙ (p.root e).1); others = λ e. (ap is_module (same n) ∙ (p.others e).0, let x = (p.others e).1 in let y = parent_links g ls n in omega arith) };
  suits = λ n l e. suit n (d.suits n l) e;
  joins = λ n l. record {
    ports = λ from to i q. joins_ports g h from to (same from.node) (same to.node) (⊎_elim (λ j. (d.joins n l).ports from to j q) (λ j. k.joins from to j) (in_split g.links ls (Ports from to) i));
    orders = λ a i. joins_nodes g h a n (same a) (same n) (⊎_elim (λ j. (d.joins n l).orders a j) (λ j. (k.orders a n j).0) (in_split g.links ls (Order a n) i));
  };
  fed = λ n l o p lp. by_node n (split_eq n) l o p lp;
  unfed = λ n l i p lp. unfed_by n (split_eq n) l i p lp;
  inside = λ n l. record {
    ports = λ from to i q loc. ⊎_elim (λ j. parent_links g ls from.node ∙ (d.inside n l).ports from to j q (loc_old n to loc) ∙ sym (parent_links g ls n)) (λ j. new_local n from to j q (loc_old n to loc)) (in_split g.links ls (Ports from to) i);
    orders = λ a i. ⊎_elim (λ j. parent_links g ls a ∙ (d.inside n l).orders a j ∙ sym (parent_links g ls n)) (λ j. parent_links g ls a ∙ (k.orders a n j).1 ∙ sym (parent_links g ls n)) (in_split g.links ls (Order a n) i);
  };
  rises = λ a b e. edge a b e;
  statics = λ n l o. subst (StaticAt h n) (sym (same n)) (static_by n (split_eq n) l o);
  unowed = λ n l i. unowed_by n (split_eq n) l i;
  names = λ n l. subst (KeepsName h n) (sym (same n)) (name_grows g h n (op_at g n) w l (d.names n l));
  tags = λ n l. subst KeepsTags (sym (same n)) (d.tags n l);
}
  where
    h : Graph
    h = with_links g ls

    w : Grows g (with_links g ls)
    w = links_grow g ls

    same : (m : ℕ) → op_at (with_links g ls) m ≡ op_at g m
    same m = op_links g ls m

    split_eq : (n : ℕ) → (n ≡ t) ⊎ (n ≢ t)
    split_eq n = ⊎_elim (λ l. inr (λ e. absurd (omega arith))) (λ r. ⊎_elim (λ e. inl e) (λ u. inr (λ e. absurd (omega arith))) r) (split n t)

    suit : (n : ℕ) → SuitsParent g n → parent_at (with_links g ls) n ≢ n → may_stand_in (op_at (with_links g ls) (parent_at (with_links g ls) n)) (op_at (with_links g ls) n) ≡ true
    suit n s e = rw (parent_links g ls n, op_links g ls (parent_at g n), op_links g ls n) (s (λ q. e (parent_links g ls n ∙ q)))

    width : (n p : ℕ) → p < length (ins_of (op_at (with_links g ls) n)) → p < length (ins_of (op_at g n))
    width n p lp = let e = ap (λ o. length (ins_of o)) (same n) in omega arith

    other : (n p : ℕ) → n ≢ t → links_into (with_links g ls).links (record { node = n; index = p }) ≡ links_into g.links (record { node = n; index = p })
    other n p ne = let a = into_append g.links ls (record { node = n; index = p }) in let b = into_other ls t (record { node = n; index = p }) k.into ne in omega arith

    by_node : (n : ℕ) → (n ≡ t) ⊎ (n ≢ t) → n < length g.nodes → (In n due' → ⊥) → (p : ℕ) → p < length (ins_of (op_at (with_links g ls) n)) → links_into (with_links g ls).links (record { node = n; index = p }) ≡ 1
    by_node n (inl e) l o p lp = rw e (k.fed (λ i. o (subst (λ x. In x due') (sym e) i)) p (width t p (subst (λ x. p < length (ins_of (op_at (with_links g ls) x))) e lp)))
    by_node n (inr ne) l o p lp = other n p ne ∙ d.fed n l (λ i. o (k.due_out n ne i)) p (width n p lp)

    unfed_by : (n : ℕ) → (n ≡ t) ⊎ (n ≢ t) → n < length g.nodes → In n due' → (p : ℕ) → p < length (ins_of (op_at (with_links g ls) n)) → links_into (with_links g ls).links (record { node = n; index = p }) ≡ 0
    unfed_by n (inl e) l i p lp = rw e (k.unfed (subst (λ x. In x due') e i) p (width t p (subst (λ x. p < length (ins_of (op_at (with_links g ls) x))) e lp)))
    unfed_by n (inr ne) l i p lp = other n p ne ∙ d.unfed n l (k.due_in n ne i) p (width n p lp)

    loc_old : (n : ℕ) (to : Port) → is_local (slice_get (input_ports (op_at (with_links g ls) n)) to.index) ≡ true → is_local (slice_get (input_ports (op_at g n)) to.index) ≡ true
    loc_old n to e = ap (λ o. is_local (slice_get (input_ports o) to.index)) (sym (same n)) ∙ e

    new_local : (n : ℕ) (from to : Port) → In (Ports from to) ls → to.node ≡ n → is_local (slice_get (input_ports (op_at g n)) to.index) ≡ true → parent_at (with_links g ls) from.node ≡ parent_at (with_links g ls) n
    new_local n from to j q loc =
        let e : n ≡ t = sym q ∙ k.into (Ports from to) j in
        parent_links g ls from.node ∙ k.local from to j (subst (λ x. is_local (slice_get (input_ports (op_at g x)) to.index) ≡ true) e loc) ∙ sym (ap (parent_at g) e) ∙ sym (parent_links g ls n)

    later : (a b : ℕ) → (a < b) ⊎ (is_output (op_at g b) ≡ true) → (a < b) ⊎ (is_output (op_at (with_links g ls) b) ≡ true)
    later a b (inl x) = inl x
    later a b (inr x) = inr (ap is_output (same b) ∙ x)

    new_edge : (a b p q : ℕ) → In (Ports (record { node = a; index = p }) (record { node = b; index = q })) ls → q < length (ins_of (op_at g b)) → (a < b) ⊎ (is_output (op_at (with_links g ls) b) ≡ true)
    new_edge a b p q j lq =
        let e : b ≡ t = k.into (Ports (record { node = a; index = p }) (record { node = b; index = q })) j in
        later a b (subst (λ x. (a < x) ⊎ (is_output (op_at g x) ≡ true)) (sym e) (k.rises (record { node = a; index = p }) (record { node = b; index = q }) j (subst (λ x. q < length (ins_of (op_at g x))) e lq)))

    edge : (a b : ℕ) → Edge (with_links g ls) a b → (a < b) ⊎ (is_output (op_at (with_links g ls) b) ≡ true)
    edge a b (along_value p q i lq) = ⊎_elim (λ j. later a b (d.rises a b (along_value p q j (width b q lq)))) (λ j. new_edge a b p q j (width b q lq)) (in_split g.links ls (Ports (record { node = a; index = p }) (record { node = b; index = q })) i)
    edge a b (along_order i) = ⊎_elim (λ j. later a b (d.rises a b (along_order j))) (λ j. inl (k.orders a b j).2) (in_split g.links ls (Order a b) i)

    static_by : (n : ℕ) → (n ≡ t) ⊎ (n ≢ t) → n < length g.nodes → (In n owed' → ⊥) → StaticAt (with_links g ls) n (op_at g n)
    static_by n (inl e) l o = subst (λ x. StaticAt (with_links g ls) x (op_at g x)) (sym e) (k.statics (λ i. o (subst (λ x. In x owed') (sym e) i)))
    static_by n (inr ne) l o = static_grows g (with_links g ls) n (op_at g n) w d.graph l (other n (length (ins_of (op_at g n))) ne) (λ from q. feeder_within g.links (length g.nodes) (static_input g n) from d.graph.links q) (d.statics n l (λ i. o (k.owed_out n ne i)))

    unowed_by : (n : ℕ) → (n ≡ t) ⊎ (n ≢ t) → n < length g.nodes → In n owed' → links_into (with_links g ls).links (static_input (with_links g ls) n) ≡ 0
    unowed_by n (inl e) l i = ap (links_into (with_links g ls).links) (static_same g (with_links g ls) n (same n) ∙ ap (static_input g) e) ∙ k.unowed (subst (λ x. In x owed') e i)
    unowed_by n (inr ne) l i = ap (links_into (with_links g ls).links) (static_same g (with_links g ls) n (same n)) ∙ other n (length (ins_of (op_at g n))) ne ∙ d.unowed n l (k.owed_in n ne i)

ports_from : (a b c d : Port) → Ports a b ≡ Ports c d → a ≡ c
ports_from a b c d e = cc

ports_to : (a b c d : Port) → Ports a b ≡ Ports c d → b ≡ d
ports_to a b c d e = cc

-- ---- a node

into_none : (ls : List Link) (count : ℕ) (p : Port) → count ≤ p.node → ((link : Link) → In link ls → LinkIsWithin count link) → links_into ls p ≡ 0
into_none [] count p le h = refl
into_none (Order a b ∷ ls) count p le h = into_none ls count p le (λ l i. h l (inr i))
into_none (Ports a b ∷ ls) count p le h =
    let w = (h (Ports a b) (inl refl)).1 in
    let ne : b.node ≢ p.node = omega arith in
    skip (is_port b p) (links_into ls p) 0 (other_port b p ne) (into_none ls count p le (λ l i. h l (inr i)))

-- what a new node has to be
-- no node has a name that the op has
abbrev pub Fresh : Graph → Op → Type 0
Fresh g kind = (name : List ℕ) → name_of kind ≡ Some name → (m : ℕ) → m < length g.nodes → name_of (op_at g m) ≡ Some name → ⊥

pub nameless : (g : Graph) (kind : Op) → name_of kind ≡ None → Fresh g kind
nameless g kind e name q = absurd (no_name name (sym q ∙ e))
  where
    no_name : (xs : List ℕ) → Some xs ≡ None → ⊥
    no_name xs q = cc

pub record NodeFits (g : Graph) (kind : Op) (c : ℕ) : Type 0 where
  pub parent : c < length g.nodes
  pub no_module : is_module kind ≡ false
  pub suits : may_stand_in (op_at g c) kind ≡ true
  pub fresh : Fresh g kind
  pub tags : KeepsTags kind

fresh_keeps : (g h : Graph) (kind o : Op) → ((m : ℕ) → m < length g.nodes → op_at h m ≡ op_at g m) → Fresh g kind → o ≡ kind → KeepsName h (length g.nodes) o
fresh_keeps g h kind (FuncDefn name ins outs) w f e = λ m l q. f name (sym (ap name_of e)) m l (ap name_of (sym (w m l)) ∙ q)
fresh_keeps g h kind _ w f e = tt

pub drawn_node : (g : Graph) (kind : Op) (c : ℕ) (due owed : List ℕ) → NodeFits g kind c → Drawn g due owed → Drawn (with_node g kind c) (length g.nodes ∷ due) (length g.nodes ∷ owed)
drawn_node g kind c due owed f d = record {
  graph = graph_node g kind c f.parent d.graph;
  places = λ n l. by_side n l (λ o. place_old n o) (λ e. place_new n e);
  suits = λ n l. by_side n l (λ o. suits_old n o) (λ e. suits_new n e);
  joins = λ n l. by_side n l (λ o. joins_old n o) (λ e. joins_new n e);
  fed = λ n l o p lp. old_side n l (λ e. o (inl e)) (λ m. let q = op_old g kind c n m in d.fed n m (λ i. o (inr i)) p (let z = ap (λ x. length (ins_of x)) q in omega arith));
  unfed = λ n l i p lp. by_side n l (λ m. unfed_old n m i p lp) (λ e. none_into n p e);
  inside = λ n l. by_side n l (λ o. inside_old n o) (λ e. inside_new n e);
  rises = λ a b e. edge a b e;
  statics = λ n l o. old_side n l (λ e. o (inl e)) (λ m. subst (StaticAt h n) (sym (op_old g kind c n m)) (static_grows g h n (op_at g n) (node_grows g kind c) d.graph m refl (λ from q. feeder_within g.links (length g.nodes) (static_input g n) from d.graph.links q) (d.statics n m (λ i. o (inr i)))));
  unowed = λ n l i. by_side n l (λ m. unowed_old n m i) (λ e. into_none g.links (length g.nodes) (static_input h n) (omega arith) d.graph.links);
  names = λ n l. by_side n l (λ m. subst (KeepsName h n) (sym (op_old g kind c n m)) (name_grows g h n (op_at g n) (node_grows g kind c) m (d.names n m))) (λ e. subst (λ k. KeepsName h k (op_at h n)) (sym e) (fresh_keeps g h kind (op_at h n) (λ m l2. op_old g kind c m l2) f.fresh (new_op n e)));
  tags = λ n l. by_side n l (λ m. subst KeepsTags (sym (op_old g kind c n m)) (d.tags n m)) (λ e. subst KeepsTags (sym (new_op n e)) f.tags);
}
  where
    h : Graph
    h = with_node g kind c

    more : length (with_node g kind c).nodes ≡ suc (length g.nodes)
    more = count_node g kind c

    new_op : (n : ℕ) → n ≡ length g.nodes → op_at (with_node g kind c) n ≡ kind
    new_op n e = ap (op_at (with_node g kind c)) e ∙ op_new g kind c

    new_parent : (n : ℕ) → n ≡ length g.nodes → parent_at (with_node g kind c) n ≡ c
    new_parent n e = ap (parent_at (with_node g kind c)) e ∙ parent_new g kind c

    by_side : {A : Type 0} (n : ℕ) → n < length (with_node g kind c).nodes → (n < length g.nodes → A) → (n ≡ length g.nodes → A) → A
    by_side n l a b = ⊎_elim a (λ r. ⊎_elim b (λ u. absurd (let m = more in omega arith)) r) (split n (length g.nodes))

    old_side : {A : Type 0} (n : ℕ) → n < length (with_node g kind c).nodes → (n ≡ length g.nodes → ⊥) → (n < length g.nodes → A) → A
    old_side n l ne a = ⊎_elim a (λ r. ⊎_elim (λ e. absurd (ne e)) (λ u. absurd (let m = more in omega arith)) r) (split n (length g.nodes))

    place_old : (n : ℕ) → n < length g.nodes → HasPlace (with_node g kind c) n
    place_old n l =
        let p = d.places n l in
        let o = op_old g kind c n l in let q = parent_old g kind c n l in
        record { root = λ e. (o ∙ (p.root e).0, q ∙ (p.root e).1); others = λ e. (ap is_module o ∙ (p.others e).0, let x = (p.others e).1 in omega arith) }

    place_new : (n : ℕ) → n ≡ length g.nodes → HasPlace (with_node g kind c) n
    place_new n e =
        let l = f.parent in
        let q = new_parent n e in
        record { root = λ z. absurd (omega arith); others = λ z. (ap is_module (new_op n e) ∙ f.no_module, omega arith) }

    suits_old : (n : ℕ) → n < length g.nodes → SuitsParent (with_node g kind c) n
    suits_old n l ne =
        let q = parent_old g kind c n l in
        let pl = d.graph.parents n l in
        rw (q, op_old g kind c (parent_at g n) pl, op_old g kind c n l) (d.suits n l (λ z. ne (q ∙ z)))

    suits_new : (n : ℕ) → n ≡ length g.nodes → SuitsParent (with_node g kind c) n
    suits_new n e ne = rw (new_parent n e, op_old g kind c c f.parent, new_op n e) f.suits

    ports_in : (from to : Port) → In (Ports from to) g.links → (from.node < length g.nodes) × (to.node < length g.nodes)
    ports_in from to i = d.graph.links (Ports from to) i

    orders_in : (a b : ℕ) → In (Order a b) g.links → (a < length g.nodes) × (b < length g.nodes)
    orders_in a b i = d.graph.links (Order a b) i

    joins_old : (n : ℕ) → n < length g.nodes → LinksJoin (with_node g kind c) n
    joins_old n l = record {
      ports = λ from to i q. let w = ports_in from to i in joins_ports g (with_node g kind c) from to (op_old g kind c from.node w.0) (op_old g kind c to.node w.1) ((d.joins n l).ports from to i q);
      orders = λ a i. let w = orders_in a n i in joins_nodes g (with_node g kind c) a n (op_old g kind c a w.0) (op_old g kind c n w.1) ((d.joins n l).orders a i);
    }

    joins_new : (n : ℕ) → n ≡ length g.nodes → LinksJoin (with_node g kind c) n
    joins_new n e = record {
      ports = λ from to i q. let w = (ports_in from to i).1 in absurd (omega arith);
      orders = λ a i. let w = (orders_in a n i).1 in absurd (omega arith);
    }

    inside_old : (n : ℕ) → n < length g.nodes → LinksStayInside (with_node g kind c) n
    inside_old n l = record {
      ports = λ from to i q loc. let w = ports_in from to i in parent_old g kind c from.node w.0 ∙ (d.inside n l).ports from to i q (ap (λ o. is_local (slice_get (input_ports o) to.index)) (sym (op_old g kind c n l)) ∙ loc) ∙ sym (parent_old g kind c n l);
      orders = λ a i. let w = orders_in a n i in parent_old g kind c a w.0 ∙ (d.inside n l).orders a i ∙ sym (parent_old g kind c n l);
    }

    inside_new : (n : ℕ) → n ≡ length g.nodes → LinksStayInside (with_node g kind c) n
    inside_new n e = record {
      ports = λ from to i q loc. let w = (ports_in from to i).1 in absurd (omega arith);
      orders = λ a i. let w = (orders_in a n i).1 in absurd (omega arith);
    }

    none_into : (n p : ℕ) → n ≡ length g.nodes → links_into g.links (record { node = n; index = p }) ≡ 0
    none_into n p e = into_none g.links (length g.nodes) (record { node = n; index = p }) (omega arith) d.graph.links

    unfed_old : (n : ℕ) → n < length g.nodes → In n (length g.nodes ∷ due) → (p : ℕ) → p < length (ins_of (op_at (with_node g kind c) n)) → links_into g.links (record { node = n; index = p }) ≡ 0
    unfed_old n l (inl e) p lp = absurd (omega arith)
    unfed_old n l (inr i) p lp = d.unfed n l i p (let z = ap (λ x. length (ins_of x)) (op_old g kind c n l) in omega arith)

    unowed_old : (n : ℕ) → n < length g.nodes → In n (length g.nodes ∷ owed) → links_into g.links (static_input (with_node g kind c) n) ≡ 0
    unowed_old n l (inl e) = absurd (omega arith)
    unowed_old n l (inr i) = ap (links_into g.links) (static_same g (with_node g kind c) n (op_old g kind c n l)) ∙ d.unowed n l i

    later : (a b : ℕ) → b < length g.nodes → (a < b) ⊎ (is_output (op_at g b) ≡ true) → (a < b) ⊎ (is_output (op_at (with_node g kind c) b) ≡ true)
    later a b l (inl x) = inl x
    later a b l (inr x) = inr (ap is_output (op_old g kind c b l) ∙ x)

    edge : (a b : ℕ) → Edge (with_node g kind c) a b → (a < b) ⊎ (is_output (op_at (with_node g kind c) b) ≡ true)
    edge a b (along_value p q i lq) =
        let w = (ports_in (record { node = a; index = p }) (record { node = b; index = q }) i).1 in
        later a b w (d.rises a b (along_value p q i (let z = ap (λ x. length (ins_of x)) (op_old g kind c b w) in omega arith)))
    edge a b (along_order i) = later a b (orders_in a b i).1 (d.rises a b (along_order i))

-- ---- value links

-- the ports are of nodes of a region, all before n
abbrev pub Beside : Graph → ℕ → List Port → Type 0
Beside g t [] = Unit {0}
Beside g t (p ∷ ps) = (p.node < length g.nodes) × (parent_at g p.node ≡ parent_at g t) × ((p.node < t) ⊎ (is_output (op_at g t) ≡ true)) × Beside g t ps

typed_length : (g : Graph) (ps : List Port) (ts : Types) → Typed g ps ts → length ps ≡ length ts
typed_length g [] [] y = refl
typed_length g [] (t ∷ ts) y = absurd y
typed_length g (p ∷ ps) [] y = absurd y
typed_length g (p ∷ ps) (t ∷ ts) y = ap suc (typed_length g ps ts y.1)

map_get : {A B : Type 0} (f : A → B) (xs : List A) (ys : List B) (k : ℕ) (x : A) → slice_get xs k ≡ Some x → slice_get (map f xs ++ ys) k ≡ Some (f x)
map_get f [] ys k x e = absurd cc
map_get f (y ∷ xs) ys zero x e = cc
map_get f (y ∷ xs) ys (suc k) x e = map_get f xs ys k x e

-- each of the links, from input q on, where the types before it are `front`
values_join : (g : Graph) (t q : ℕ) (ps : List Port) (front ts : Types) → Typed g ps ts → ins_of (op_at g t) ≡ front ++ ts → length front ≡ q → (from to : Port) → In (Ports from to) (value_links t q ps) → JoinsPorts g from to
values_join g t q [] front ts y e l from to i = absurd i
values_join g t q (p ∷ ps) front [] y e l from to i = absurd y
values_join g t q (p ∷ ps) front (x ∷ ts) y e l from to (inl r) =
    let a : from ≡ p = ports_from from to p (record { node = t; index = q }) r in
    let b : to ≡ record { node = t; index = q } = ports_to from to p (record { node = t; index = q }) r in
    rw (a, b) (record {
      kind = ValuePort x;
      output = map_get ValuePort (outs_of (op_at g p.node)) _ p.index x y.0;
      input = map_get ValuePort (ins_of (op_at g t)) _ q x (rw (e, sym l) (get_middle front ts x));
    })
  where
    get_middle : (xs ys : Types) (z : GraphType) → slice_get (xs ++ z ∷ ys) (length xs) ≡ Some z
    get_middle [] ys z = refl
    get_middle (u ∷ xs) ys z = get_middle xs ys z
values_join g t q (p ∷ ps) front (x ∷ ts) y e l from to (inr i) =
    values_join g t (suc q) ps (front ++ x ∷ []) ts y.1 (e ∙ sym (append_assoc front (x ∷ []) ts)) (let r = length-append front (x ∷ []) in omega arith) from to i

values_beside : (g : Graph) (t q : ℕ) (ps : List Port) → Beside g t ps → (from to : Port) → In (Ports from to) (value_links t q ps) → (from.node < length g.nodes) × (parent_at g from.node ≡ parent_at g t) × ((from.node < t) ⊎ (is_output (op_at g t) ≡ true)) × (to.node ≡ t)
values_beside g t q [] b from to i = absurd i
values_beside g t q (p ∷ ps) b from to (inl r) =
    let x : from ≡ p = ports_from from to p (record { node = t; index = q }) r in
    let y : to ≡ record { node = t; index = q } = ports_to from to p (record { node = t; index = q }) r in
    rw (x, y) (b.0, b.1, b.2, refl)
values_beside g t q (p ∷ ps) b from to (inr i) = values_beside g t (suc q) ps b.3 from to i

no_order : (n q : ℕ) (ps : List Port) (a b : ℕ) → In (Order a b) (value_links n q ps) → ⊥
no_order n q [] a b i = i
no_order n q (p ∷ ps) a b (inl e) = cc
no_order n q (p ∷ ps) a b (inr i) = no_order n (suc q) ps a b i

values_all : (g : Graph) (t q : ℕ) (ps : List Port) → t < length g.nodes → Beside g t ps → (link : Link) → In link (value_links t q ps) → LinkIsWithin (length g.nodes) link × (target link ≡ t)
values_all g t q ps lt b (Ports from to) i = let x = values_beside g t q ps b from to i in let y = x.3 in let z = x.0 in ((z, omega arith), y)
values_all g t q ps lt b (Order x y) i = absurd (no_order t q ps x y i)

-- how many of the links lead into a port
into_before : (t q : ℕ) (ps : List Port) (i : ℕ) → i < q → links_into (value_links t q ps) (record { node = t; index = i }) ≡ 0
into_before t q [] i lt = refl
into_before t q (p ∷ ps) i lt = let ne : q ≢ i = omega arith in skip (is_port (record { node = t; index = q }) (record { node = t; index = i })) _ 0 (rw (eq-eqb t t refl, ne_eqb q i ne) refl) (into_before t (suc q) ps i (omega arith))

into_here : (t q : ℕ) (ps : List Port) (i : ℕ) → q ≤ i → i < q + length ps → links_into (value_links t q ps) (record { node = t; index = i }) ≡ 1
into_here t q [] i le lt = absurd (omega arith)
into_here t q (p ∷ ps) i le lt = ⊎_elim (λ u. absurd (omega arith)) (λ r. ⊎_elim (λ e. hit (is_port (record { node = t; index = q }) (record { node = t; index = i })) _ 0 (rw (eq-eqb t t refl, eq-eqb q i (sym e)) refl) (into_before t (suc q) ps i (omega arith))) (λ u. let ne : q ≢ i = omega arith in skip (is_port (record { node = t; index = q }) (record { node = t; index = i })) _ 1 (rw (eq-eqb t t refl, ne_eqb q i ne) refl) (into_here t (suc q) ps i (omega arith) (omega arith))) r) (split i q)

into_past : (t q : ℕ) (ps : List Port) (i : ℕ) → q + length ps ≤ i → links_into (value_links t q ps) (record { node = t; index = i }) ≡ 0
into_past t q [] i le = refl
into_past t q (p ∷ ps) i le = let ne : q ≢ i = omega arith in skip (is_port (record { node = t; index = q }) (record { node = t; index = i })) _ 0 (rw (eq-eqb t t refl, ne_eqb q i ne) refl) (into_past t (suc q) ps i (omega arith))

pub drawn_values : (g : Graph) (t : ℕ) (ps : List Port) (due owed : List ℕ) → Drawn g (t ∷ due) owed → t < length g.nodes → (In t due → ⊥) → Typed g ps (ins_of (op_at g t)) → Beside g t ps → Drawn (with_links g (value_links t 0 ps)) due owed
drawn_values g t ps due owed d lt nin y b = drawn_links g ls t (t ∷ due) owed due owed d (record {
  node = lt;
  within = λ l i. (values_all g t 0 ps lt b l i).0;
  into = λ l i. (values_all g t 0 ps lt b l i).1;
  joins = λ from to i. values_join g t 0 ps [] (ins_of (op_at g t)) y refl refl from to i;
  orders = λ x z i. absurd (no_order t 0 ps x z i);
  local = λ from to i l. (values_beside g t 0 ps b from to i).1;
  rises = λ from to i l. (values_beside g t 0 ps b from to i).2;
  fed = λ o p lp. let a = into_append g.links ls (record { node = t; index = p }) in let c = into_here t 0 ps p (omega arith) (let w = wide in omega arith) in let e = d.unfed t lt (inl refl) p lp in omega arith;
  unfed = λ i p lp. absurd (nin i);
  statics = λ o. static_grows g (with_links g ls) t (op_at g t) (links_grow g ls) d.graph lt static_none (λ from q. feeder_within g.links (length g.nodes) (static_input g t) from d.graph.links q) (d.statics t lt o);
  unowed = λ i. static_none ∙ d.unowed t lt i;
  due_in = λ m ne i. inr i;
  due_out = λ m ne i. ⊎_elim (λ e. absurd (ne e)) (λ j. j) i;
  owed_in = λ m ne i. i;
  owed_out = λ m ne i. i;
})
  where
    ls : List Link
    ls = value_links t 0 ps

    wide : length ps ≡ length (ins_of (op_at g t))
    wide = typed_length g ps (ins_of (op_at g t)) y

    static_none : links_into (with_links g (value_links t 0 ps)).links (static_input g t) ≡ links_into g.links (static_input g t)
    static_none = let a = into_append g.links (value_links t 0 ps) (static_input g t) in let c = into_past t 0 ps (length (ins_of (op_at g t))) (let w = wide in omega arith) in omega arith

-- ---- static, order and control links

one_link : (from to : Port) (p : Port) → p.node ≢ to.node ⊎ (p.index ≢ to.index) → links_into (Ports from to ∷ []) p ≡ 0
one_link from to p (inl ne) = skip (is_port to p) 0 0 (other_port to p (λ e. ne (sym e))) refl
one_link from to p (inr ne) = skip (is_port to p) 0 0 (other_index (eqb to.node p.node) (eqb to.index p.index) (ne_eqb to.index p.index (λ e. ne (sym e)))) refl
  where
    other_index : (b c : Bool) → c ≡ false → (b && c) ≡ false
    other_index true c e = e
    other_index false c e = refl

same_link : (from to : Port) → links_into (Ports from to ∷ []) to ≡ 1
same_link from to = hit (is_port to to) 0 0 (rw (eq-eqb to.node to.node refl, eq-eqb to.index to.index refl) refl) refl

only : (link other : Link) → In link (other ∷ []) → link ≡ other
only link other (inl e) = e
only link other (inr i) = absurd i

is_order : (a b x y : ℕ) → Order a b ≡ Order x y → (a ≡ x) × (b ≡ y)
is_order a b x y e = (cc, cc)

order_no_ports : {A : Type 0} (from to : Port) (x y : ℕ) → Ports from to ≡ Order x y → A
order_no_ports from to x y e = absurd cc

-- an order link
pub drawn_order : (g : Graph) (l t : ℕ) (due owed : List ℕ) → Drawn g due owed → t < length g.nodes → l < t → JoinsNodes g l t → parent_at g l ≡ parent_at g t → Drawn (with_links g (Order l t ∷ [])) due owed
drawn_order g l t due owed d lt lr j par = drawn_links g ls t due owed due owed d (record {
  node = lt;
  within = λ x i. subst (LinkIsWithin (length g.nodes)) (sym (only x (Order l t) i)) (omega arith, lt);
  into = λ x i. ap target (only x (Order l t) i);
  joins = λ from to i. order_no_ports from to l t (only (Ports from to) (Order l t) i);
  orders = λ a b i. let e = is_order a b l t (only (Order a b) (Order l t) i) in rw (e.0, e.1) (j, par, lr);
  local = λ from to i. order_no_ports from to l t (only (Ports from to) (Order l t) i);
  rises = λ from to i. order_no_ports from to l t (only (Ports from to) (Order l t) i);
  fed = λ o p lp. let a = into_append g.links ls (record { node = t; index = p }) in let e = d.fed t lt o p lp in omega arith;
  unfed = λ i p lp. let a = into_append g.links ls (record { node = t; index = p }) in let e = d.unfed t lt i p lp in omega arith;
  statics = λ o. static_grows g (with_links g ls) t (op_at g t) (links_grow g ls) d.graph lt (let a = into_append g.links ls (static_input g t) in omega arith) (λ from q. feeder_within g.links (length g.nodes) (static_input g t) from d.graph.links q) (d.statics t lt o);
  unowed = λ i. let a = into_append g.links ls (static_input g t) in let e = d.unowed t lt i in omega arith;
  due_in = λ m ne i. i;
  due_out = λ m ne i. i;
  owed_in = λ m ne i. i;
  owed_out = λ m ne i. i;
})
  where
    ls : List Link
    ls = Order l t ∷ []

-- One link of ports that is no value link. What is to be known of its target.
pub record OtherLink (g : Graph) (from : Port) (t q : ℕ) (due owed owed' : List ℕ) : Type 0 where
  pub node : t < length g.nodes
  pub source : from.node < length g.nodes
  pub past : length (ins_of (op_at g t)) ≤ q
  pub joins : JoinsPorts g from (record { node = t; index = q })
  pub local : is_local (slice_get (input_ports (op_at g t)) q) ≡ true → parent_at g from.node ≡ parent_at g t
  pub statics : (In t owed' → ⊥) → StaticAt (with_links g (Ports from (record { node = t; index = q }) ∷ [])) t (op_at g t)
  pub unowed : In t owed' → links_into (with_links g (Ports from (record { node = t; index = q }) ∷ [])).links (static_input g t) ≡ 0
  pub owed_in : (m : ℕ) → m ≢ t → In m owed' → In m owed
  pub owed_out : (m : ℕ) → m ≢ t → In m owed → In m owed'

pub drawn_other : (g : Graph) (from : Port) (t q : ℕ) (due owed owed' : List ℕ) → Drawn g due owed → OtherLink g from t q due owed owed' → Drawn (with_links g (Ports from (record { node = t; index = q }) ∷ [])) due owed'
drawn_other g from t q due owed owed' d k = drawn_links g ls t due owed due owed' d (record {
  node = k.node;
  within = λ x i. subst (LinkIsWithin (length g.nodes)) (sym (only x (Ports from to) i)) (k.source, k.node);
  into = λ x i. ap target (only x (Ports from to) i);
  joins = λ f u i. let e = only (Ports f u) (Ports from to) i in rw (ports_from f u from to e, ports_to f u from to e) k.joins;
  orders = λ a b i. order_no_ports from to a b (sym (only (Order a b) (Ports from to) i));
  local = λ f u i loc. let e = only (Ports f u) (Ports from to) i in ap (λ (z : Port). parent_at g z.node) (ports_from f u from to e) ∙ k.local (ap (λ (z : Port). is_local (slice_get (input_ports (op_at g t)) z.index)) (sym (ports_to f u from to e)) ∙ loc);
  rises = λ f u i lp. let e = ap (λ (z : Port). z.index) (ports_to f u from to (only (Ports f u) (Ports from to) i)) in let x = k.past in absurd (omega arith);
  fed = λ o p lp. let x = k.past in let ne : p ≢ q = omega arith in let a = into_append g.links ls (record { node = t; index = p }) in let b = one_link from to (record { node = t; index = p }) (inr ne) in let e = d.fed t k.node o p lp in omega arith;
  unfed = λ i p lp. let x = k.past in let ne : p ≢ q = omega arith in let a = into_append g.links ls (record { node = t; index = p }) in let b = one_link from to (record { node = t; index = p }) (inr ne) in let e = d.unfed t k.node i p lp in omega arith;
  statics = k.statics;
  unowed = k.unowed;
  due_in = λ m ne i. i;
  due_out = λ m ne i. i;
  owed_in = k.owed_in;
  owed_out = k.owed_out;
})
  where
    to : Port
    to = record { node = t; index = q }

    ls : List Link
    ls = Ports from to ∷ []

get_past_map : (ts : Types) (x : PortKind) → slice_get (map ValuePort ts ++ x ∷ []) (length ts) ≡ Some x
get_past_map [] x = refl
get_past_map (t ∷ ts) x = get_past_map ts x

feeder_new : (ls : List Link) (from to : Port) → links_into ls to ≡ 0 → feeder (ls ++ Ports from to ∷ []) to ≡ Some from
feeder_new [] from to e = rw (eq-eqb to.node to.node refl, eq-eqb to.index to.index refl) refl
feeder_new (Order a b ∷ ls) from to e = feeder_new ls from to e
feeder_new (Ports a b ∷ ls) from to e = by_test (is_port b to) refl e (feeder_new ls from to)
  where
    one_no : (n : ℕ) → 1 + n ≡ 0 → ⊥
    one_no n z = omega arith

    zero_left : (n : ℕ) → 0 + n ≡ 0 → n ≡ 0
    zero_left n z = omega arith

    by_test : (t : Bool) → is_port b to ≡ t → cond t 1 0 + links_into ls to ≡ 0 → (links_into ls to ≡ 0 → feeder (ls ++ Ports from to ∷ []) to ≡ Some from) → cond t (Some a) (feeder (ls ++ Ports from to ∷ []) to) ≡ Some from
    by_test true r z h = absurd (one_no (links_into ls to) z)
    by_test false r z h = h (let y = zero_left (links_into ls to) z in y)

-- the static link of a call
pub drawn_call : (g : Graph) (f t : ℕ) (name : List ℕ) (ins outs : Types) (due owed : List ℕ) → Drawn g due (t ∷ owed) → t < length g.nodes → f < length g.nodes → (In t owed → ⊥) → op_at g t ≡ Call ins outs → op_at g f ≡ FuncDefn name ins outs → Drawn (with_links g (Ports (record { node = f; index = 0 }) (record { node = t; index = length ins }) ∷ [])) due owed
drawn_call g f t name ins outs due owed d lt lf nin at fn = drawn_other g from t (length ins) due (t ∷ owed) owed d (record {
  node = lt;
  source = lf;
  past = omega (arith, wide);
  joins = record { kind = FunctionPort; output = ap (λ o. slice_get (output_ports o) 0) fn; input = ap (λ o. slice_get (input_ports o) (length ins)) at ∙ get_past_map ins FunctionPort };
  local = λ loc. absurd (not_local (ap (λ o. is_local (slice_get (input_ports o) (length ins))) (sym at) ∙ loc));
  statics = λ o. subst (StaticAt h t) (sym at) (record {
    static = record { once = ap (links_into h.links) (sym to_is) ∙ once; source = from; is_source = ap (feeder h.links) (sym to_is) ∙ feeder_new g.links from to none };
    callee = record { source = from; is_source = ap (feeder h.links) (sym to_is) ∙ feeder_new g.links from to none; name = name; is_function = op_links g (Ports from to ∷ []) f ∙ fn };
  });
  unowed = λ i. absurd (nin i);
  owed_in = λ m ne i. inr i;
  owed_out = λ m ne i. ⊎_elim (λ e. absurd (ne e)) (λ j. j) i;
})
  where
    from : Port
    from = record { node = f; index = 0 }

    to : Port
    to = record { node = t; index = length ins }

    h : Graph
    h = with_links g (Ports from to ∷ [])

    wide : length (ins_of (op_at g t)) ≡ length ins
    wide = ap (λ o. length (ins_of o)) at

    to_is : record { node = t; index = length ins } ≡ static_input (with_links g (Ports (record { node = f; index = 0 }) (record { node = t; index = length ins }) ∷ [])) t
    to_is = ap (λ k. record { node = t; index = k }) (sym (ap (λ o. length (ins_of o)) (op_links g (Ports (record { node = f; index = 0 }) (record { node = t; index = length ins }) ∷ []) t ∙ at)))

    none : links_into g.links (record { node = t; index = length ins }) ≡ 0
    none = ap (λ k. links_into g.links (record { node = t; index = k })) (sym (ap (λ o. length (ins_of o)) at)) ∙ d.unowed t lt (inl refl)

    once : links_into (g.links ++ Ports (record { node = f; index = 0 }) (record { node = t; index = length ins }) ∷ []) (record { node = t; index = length ins }) ≡ 1
    once = let a = into_append g.links (Ports (record { node = f; index = 0 }) (record { node = t; index = length ins }) ∷ []) (record { node = t; index = length ins }) in let b = same_link (record { node = f; index = 0 }) (record { node = t; index = length ins }) in let c = none in omega arith

    no_local : false ≡ true → ⊥
    no_local e = cc

    not_local : is_local (slice_get (map ValuePort ins ++ FunctionPort ∷ []) (length ins)) ≡ true → ⊥
    not_local e = no_local (sym (ap is_local (get_past_map ins FunctionPort)) ∙ e)

-- the static link of a number
pub drawn_constant : (g : Graph) (f t : ℕ) (value : ℤ) (due owed : List ℕ) → Drawn g due (t ∷ owed) → t < length g.nodes → f < length g.nodes → (In t owed → ⊥) → op_at g t ≡ LoadConstant → op_at g f ≡ Const value → parent_at g f ≡ parent_at g t → Drawn (with_links g (Ports (record { node = f; index = 0 }) (record { node = t; index = 0 }) ∷ [])) due owed
drawn_constant g f t value due owed d lt lf nin at fn par = drawn_other g from t 0 due (t ∷ owed) owed d (record {
  node = lt;
  source = lf;
  past = omega (arith, wide);
  joins = record { kind = ConstantPort; output = ap (λ o. slice_get (output_ports o) 0) fn; input = ap (λ o. slice_get (input_ports o) 0) at };
  local = λ loc. absurd (no_local (ap (λ o. is_local (slice_get (input_ports o) 0)) (sym at) ∙ loc));
  statics = λ o. subst (StaticAt h t) (sym at) (record {
    static = record { once = ap (links_into h.links) (sym to_is) ∙ once; source = from; is_source = ap (feeder h.links) (sym to_is) ∙ feeder_new g.links from to none };
    beside = parent_links g (Ports from to ∷ []) f ∙ par ∙ sym (parent_links g (Ports from to ∷ []) t);
  });
  unowed = λ i. absurd (nin i);
  owed_in = λ m ne i. inr i;
  owed_out = λ m ne i. ⊎_elim (λ e. absurd (ne e)) (λ j. j) i;
})
  where
    from : Port
    from = record { node = f; index = 0 }

    to : Port
    to = record { node = t; index = 0 }

    h : Graph
    h = with_links g (Ports from to ∷ [])

    wide : length (ins_of (op_at g t)) ≡ 0
    wide = ap (λ o. length (ins_of o)) at

    to_is : record { node = t; index = 0 } ≡ static_input (with_links g (Ports (record { node = f; index = 0 }) (record { node = t; index = 0 }) ∷ [])) t
    to_is = ap (λ k. record { node = t; index = k }) (sym (ap (λ o. length (ins_of o)) (op_links g (Ports (record { node = f; index = 0 }) (record { node = t; index = 0 }) ∷ []) t ∙ at)))

    none : links_into g.links (record { node = t; index = 0 }) ≡ 0
    none = ap (λ k. links_into g.links (record { node = t; index = k })) (sym (ap (λ o. length (ins_of o)) at)) ∙ d.unowed t lt (inl refl)

    once : links_into (g.links ++ Ports (record { node = f; index = 0 }) (record { node = t; index = 0 }) ∷ []) (record { node = t; index = 0 }) ≡ 1
    once = let a = into_append g.links (Ports (record { node = f; index = 0 }) (record { node = t; index = 0 }) ∷ []) (record { node = t; index = 0 }) in let b = same_link (record { node = f; index = 0 }) (record { node = t; index = 0 }) in let c = none in omega arith

    no_local : false ≡ true → ⊥
    no_local e = cc

-- the static link of a function that is loaded
pub drawn_load : (g : Graph) (f t : ℕ) (name : List ℕ) (ins outs : Types) (due owed : List ℕ) → Drawn g due (t ∷ owed) → t < length g.nodes → f < length g.nodes → (In t owed → ⊥) → op_at g t ≡ LoadFunction ins outs → op_at g f ≡ FuncDefn name ins outs → Drawn (with_links g (Ports (record { node = f; index = 0 }) (record { node = t; index = 0 }) ∷ [])) due owed
drawn_load g f t name ins outs due owed d lt lf nin at fn = drawn_other g from t 0 due (t ∷ owed) owed d (record {
  node = lt;
  source = lf;
  past = omega (arith, wide);
  joins = record { kind = FunctionPort; output = ap (λ o. slice_get (output_ports o) 0) fn; input = ap (λ o. slice_get (input_ports o) 0) at };
  local = λ loc. absurd (no_local (ap (λ o. is_local (slice_get (input_ports o) 0)) (sym at) ∙ loc));
  statics = λ o. subst (StaticAt h t) (sym at) (record {
    static = record { once = ap (links_into h.links) (sym to_is) ∙ once; source = from; is_source = ap (feeder h.links) (sym to_is) ∙ feeder_new g.links from to none };
    callee = record { source = from; is_source = ap (feeder h.links) (sym to_is) ∙ feeder_new g.links from to none; name = name; is_function = op_links g (Ports from to ∷ []) f ∙ fn };
  });
  unowed = λ i. absurd (nin i);
  owed_in = λ m ne i. inr i;
  owed_out = λ m ne i. ⊎_elim (λ e. absurd (ne e)) (λ j. j) i;
})
  where
    from : Port
    from = record { node = f; index = 0 }

    to : Port
    to = record { node = t; index = 0 }

    h : Graph
    h = with_links g (Ports from to ∷ [])

    wide : length (ins_of (op_at g t)) ≡ 0
    wide = ap (λ o. length (ins_of o)) at

    to_is : record { node = t; index = 0 } ≡ static_input (with_links g (Ports (record { node = f; index = 0 }) (record { node = t; index = 0 }) ∷ [])) t
    to_is = ap (λ k. record { node = t; index = k }) (sym (ap (λ o. length (ins_of o)) (op_links g (Ports (record { node = f; index = 0 }) (record { node = t; index = 0 }) ∷ []) t ∙ at)))

    none : links_into g.links (record { node = t; index = 0 }) ≡ 0
    none = ap (λ k. links_into g.links (record { node = t; index = k })) (sym (ap (λ o. length (ins_of o)) at)) ∙ d.unowed t lt (inl refl)

    once : links_into (g.links ++ Ports (record { node = f; index = 0 }) (record { node = t; index = 0 }) ∷ []) (record { node = t; index = 0 }) ≡ 1
    once = let a = into_append g.links (Ports (record { node = f; index = 0 }) (record { node = t; index = 0 }) ∷ []) (record { node = t; index = 0 }) in let b = same_link (record { node = f; index = 0 }) (record { node = t; index = 0 }) in let c = none in omega arith

    no_local : false ≡ true → ⊥
    no_local e = cc

-- what has no static input owes none
abbrev pub is_static : Op → Bool
is_static kind = owes_static kind

pub free_static : (g : Graph) (n : ℕ) (kind : Op) → is_static kind ≡ false → StaticAt g n kind
free_static g n (Call ins outs) e = absurd cc
free_static g n (LoadFunction ins outs) e = absurd cc
free_static g n LoadConstant e = absurd cc
free_static g n _ e = tt

pub owed_free : (g : Graph) (t : ℕ) (due owed : List ℕ) → Drawn g due (t ∷ owed) → is_static (op_at g t) ≡ false → Drawn g due owed
owed_free g t due owed d e = record {
  graph = d.graph;
  places = d.places;
  suits = d.suits;
  joins = d.joins;
  fed = d.fed;
  unfed = d.unfed;
  inside = d.inside;
  rises = d.rises;
  statics = λ n l o. ⊎_elim (λ x. d.statics n l (λ i. ⊎_elim (λ q. absurd (omega arith)) o i)) (λ r. ⊎_elim (λ q. subst (λ m. StaticAt g m (op_at g m)) (sym q) (free_static g t (op_at g t) e)) (λ x. d.statics n l (λ i. ⊎_elim (λ q. absurd (omega arith)) o i)) r) (split n t);
  unowed = λ n l i. d.unowed n l (inr i);
  names = d.names;
  tags = d.tags;
}

-- ---- a node with its value links
abbrev pub InRegion : Graph → ℕ → List Port → Type 0
InRegion g c [] = Unit {0}
InRegion g c (p ∷ ps) = (p.node < length g.nodes) × (parent_at g p.node ≡ c) × InRegion g c ps

pub typed_node : (g : Graph) (kind : Op) (c : ℕ) (ps : List Port) (ts : Types) → InRegion g c ps → Typed g ps ts → Typed (with_node g kind c) ps ts
typed_node g kind c [] [] r y = tt
typed_node g kind c [] (t ∷ ts) r y = absurd y
typed_node g kind c (p ∷ ps) [] r y = absurd y
typed_node g kind c (p ∷ ps) (t ∷ ts) r y = (ap (λ o. slice_get (outs_of o) p.index) (op_old g kind c p.node r.0) ∙ y.0, typed_node g kind c ps ts r.2 y.1)

beside_node : (g : Graph) (kind : Op) (c : ℕ) (ps : List Port) → InRegion g c ps → Beside (with_node g kind c) (length g.nodes) ps
beside_node g kind c [] r = tt
beside_node g kind c (p ∷ ps) r =
    let more = count_node g kind c in
    let a = r.0 in
    (omega arith, parent_old g kind c p.node a ∙ r.1 ∙ sym (parent_new g kind c), inl a, beside_node g kind c ps r.2)

-- all are below n
abbrev pub AllBelow : List ℕ → ℕ → Type 0
AllBelow xs n = (m : ℕ) → In m xs → m < n

pub drawn_start : (g : Graph) (kind : Op) (c : ℕ) (ps : List Port) (due owed : List ℕ) → Drawn g due owed → NodeFits g kind c → AllBelow due (length g.nodes) → Typed g ps (ins_of kind) → InRegion g c ps → Drawn (with_links (with_node g kind c) (value_links (length g.nodes) 0 ps)) due (length g.nodes ∷ owed)
drawn_start g kind c ps due owed d f b y r =
    let n = length g.nodes in
    let g1 = with_node g kind c in
    let more = count_node g kind c in
    drawn_values g1 n ps due (n ∷ owed) (drawn_node g kind c due owed f d) (omega arith) (λ i. let x = b n i in absurd (omega arith)) (subst (λ o. Typed g1 ps (ins_of o)) (sym (op_new g kind c)) (typed_node g kind c ps (ins_of kind) r y)) (beside_node g kind c ps r)

-- an order link, where there is a node before
abbrev pub PriorFits : Graph → ℕ → Option ℕ → Type 0
PriorFits g c None = Unit {0}
PriorFits g c (Some l) = (l < length g.nodes) × (parent_at g l ≡ c) × (is_operation (op_at g l) ≡ true) × (is_output (op_at g l) ≡ false)

pub drawn_prior : (g : Graph) (prior : Option ℕ) (t c : ℕ) (due owed : List ℕ) → Drawn g due owed → t < length g.nodes → ((l : ℕ) → prior ≡ Some l → l < t) → PriorFits g c prior → parent_at g t ≡ c → is_operation (op_at g t) ≡ true → is_input (op_at g t) ≡ false → Drawn (with_links g (order_links prior t)) due owed
drawn_prior g None t c due owed d lt lr f par op ni = subst (λ x. Drawn x due owed) (sym (with_none g)) d
drawn_prior g (Some l) t c due owed d lt lr f par op ni =
    drawn_order g l t due owed d lt (lr l refl) (record { from_operation = f.2; to_operation = op; no_output = f.3; no_input = ni }) (f.1 ∙ sym par)

-- `op`, `conditional` and `cfg`: a node without a static input
pub after_drawn : (g : Graph) (kind : Op) (c : ℕ) (ps : List Port) (prior : Option ℕ) (due owed : List ℕ) → Drawn g due owed → NodeFits g kind c → AllBelow due (length g.nodes) → Typed g ps (ins_of kind) → InRegion g c ps → PriorFits g c prior → is_static kind ≡ false → is_operation kind ≡ true → is_input kind ≡ false → Drawn (after_node g kind c ps None prior) due owed
after_drawn g kind c ps prior due owed d f b y r pf st op ni =
    let n = length g.nodes in
    let g1 = with_node g kind c in
    let g2 = with_links g1 (value_links n 0 ps) in
    let more : length g1.nodes ≡ suc n = count_node g kind c in
    let at : op_at g2 n ≡ kind = op_links g1 (value_links n 0 ps) n ∙ op_new g kind c in
    let d2 : Drawn g2 due owed = owed_free g2 n due owed (drawn_start g kind c ps due owed d f b y r) (ap is_static at ∙ st) in
    subst (λ x. Drawn (with_links x (order_links prior n)) due owed) (sym (with_none g2)) (drawn_prior g2 prior n c due owed d2 (omega arith) (before prior pf) (fits prior pf) (parent_links g1 (value_links n 0 ps) n ∙ parent_new g kind c) (ap is_operation at ∙ op) (ap is_input at ∙ ni))
  where
    before : (prior : Option ℕ) → PriorFits g c prior → (l : ℕ) → prior ≡ Some l → l < length g.nodes
    before None x l e = absurd cc
    before (Some m) x l e = let q : m ≡ l = cc in let y = x.0 in omega arith

    fits : (prior : Option ℕ) → PriorFits g c prior → PriorFits (with_links (with_node g kind c) (value_links (length g.nodes) 0 ps)) c prior
    fits None x = tt
    fits (Some l) x =
        let more = count_node g kind c in
        let a = x.0 in
        let q = op_links (with_node g kind c) (value_links (length g.nodes) 0 ps) l ∙ op_old g kind c l a in
        (omega arith, parent_links (with_node g kind c) (value_links (length g.nodes) 0 ps) l ∙ parent_old g kind c l a ∙ x.1, ap is_operation q ∙ x.2, ap is_output q ∙ x.3)

-- a node without inputs
pub silent_drawn : (g : Graph) (kind : Op) (c : ℕ) (due owed : List ℕ) → Drawn g due owed → NodeFits g kind c → AllBelow due (length g.nodes) → ins_of kind ≡ [] → is_static kind ≡ false → Drawn (with_node g kind c) due owed
silent_drawn g kind c due owed d f b e st =
    let n = length g.nodes in
    let g1 = with_node g kind c in
    let at = op_new g kind c in
    owed_free g1 n due owed (subst (λ x. Drawn x due (n ∷ owed)) (with_none g1) (drawn_start g kind c [] due owed d f b (subst (λ ts. Typed g [] ts) (sym e) tt) tt)) (ap is_static at ∙ st)

-- an `Output`, whose inputs are due
pub output_drawn : (g : Graph) (types : Types) (c : ℕ) (due owed : List ℕ) → Drawn g due owed → NodeFits g (Output types) c → Drawn (with_node g (Output types) c) (length g.nodes ∷ due) owed
output_drawn g types c due owed d f = owed_free (with_node g (Output types) c) (length g.nodes) (length g.nodes ∷ due) owed (drawn_node g (Output types) c due owed f d) (ap is_static (op_new g (Output types) c))

-- `call`
pub call_drawn : (g : Graph) (f c : ℕ) (name : List ℕ) (ins outs : Types) (ps : List Port) (prior : Option ℕ) (due owed : List ℕ) → Drawn g due owed → NodeFits g (Call ins outs) c → AllBelow due (length g.nodes) → AllBelow owed (length g.nodes) → Typed g ps ins → InRegion g c ps → PriorFits g c prior → f < length g.nodes → op_at g f ≡ FuncDefn name ins outs → Drawn (after_node g (Call ins outs) c ps (Some f) prior) due owed
call_drawn g f c name ins outs ps prior due owed d nf b bo y r pf lf fn =
    let n = length g.nodes in
    let kind = Call ins outs in
    let g1 = with_node g kind c in
    let g2 = with_links g1 (value_links n 0 ps) in
    let sl = Ports (record { node = f; index = 0 }) (record { node = n; index = length ps }) ∷ [] in
    let g3 = with_links g2 sl in
    let more : length g1.nodes ≡ suc n = count_node g kind c in
    let at : op_at g2 n ≡ kind = op_links g1 (value_links n 0 ps) n ∙ op_new g kind c in
    let fn2 : op_at g2 f ≡ FuncDefn name ins outs = op_links g1 (value_links n 0 ps) f ∙ op_old g kind c f lf ∙ fn in
    let wide : length ps ≡ length ins = typed_length g ps ins y in
    let d2 = drawn_start g kind c ps due owed d nf b y r in
    let d3 : Drawn g3 due owed = subst (λ k. Drawn (with_links g2 (Ports (record { node = f; index = 0 }) (record { node = n; index = k }) ∷ [])) due owed) (sym wide) (drawn_call g2 f n name ins outs due owed d2 (omega arith) (omega arith) (λ i. let x = bo n i in absurd (omega arith)) at fn2) in
    drawn_prior g3 prior n c due owed d3 (omega arith) (before prior pf) (fits prior pf) (parent_links g2 sl n ∙ parent_links g1 (value_links n 0 ps) n ∙ parent_new g kind c) (ap is_operation (op_links g2 sl n ∙ at)) (ap is_input (op_links g2 sl n ∙ at))
  where
    before : (prior : Option ℕ) → PriorFits g c prior → (l : ℕ) → prior ≡ Some l → l < length g.nodes
    before None x l e = absurd cc
    before (Some m) x l e = let q : m ≡ l = cc in let y = x.0 in omega arith

    g3_ : Graph
    g3_ = with_links (with_links (with_node g (Call ins outs) c) (value_links (length g.nodes) 0 ps)) (Ports (record { node = f; index = 0 }) (record { node = length g.nodes; index = length ps }) ∷ [])

    fits : (prior : Option ℕ) → PriorFits g c prior → PriorFits (with_links (with_links (with_node g (Call ins outs) c) (value_links (length g.nodes) 0 ps)) (Ports (record { node = f; index = 0 }) (record { node = length g.nodes; index = length ps }) ∷ [])) c prior
    fits None x = tt
    fits (Some l) x =
        let g1 = with_node g (Call ins outs) c in
        let g2 = with_links g1 (value_links (length g.nodes) 0 ps) in
        let sl = Ports (record { node = f; index = 0 }) (record { node = length g.nodes; index = length ps }) ∷ [] in
        let more = count_node g (Call ins outs) c in
        let a = x.0 in
        let q = op_links g2 sl l ∙ op_links g1 (value_links (length g.nodes) 0 ps) l ∙ op_old g (Call ins outs) c l a in
        (omega arith, parent_links g2 sl l ∙ parent_links g1 (value_links (length g.nodes) 0 ps) l ∙ parent_old g (Call ins outs) c l a ∙ x.1, ap is_operation q ∙ x.2, ap is_output q ∙ x.3)

-- `load_function`
pub load_drawn : (g : Graph) (f c : ℕ) (name : List ℕ) (ins outs : Types) (due owed : List ℕ) → Drawn g due owed → NodeFits g (LoadFunction ins outs) c → AllBelow due (length g.nodes) → AllBelow owed (length g.nodes) → f < length g.nodes → op_at g f ≡ FuncDefn name ins outs → Drawn (after_node g (LoadFunction ins outs) c [] (Some f) None) due owed
load_drawn g f c name ins outs due owed d nf b bo lf fn =
    let n = length g.nodes in
    let kind = LoadFunction ins outs in
    let g1 = with_node g kind c in
    let g2 = with_links g1 (value_links n 0 []) in
    let more : length g1.nodes ≡ suc n = count_node g kind c in
    let at : op_at g2 n ≡ kind = op_links g1 (value_links n 0 []) n ∙ op_new g kind c in
    let fn2 : op_at g2 f ≡ FuncDefn name ins outs = op_links g1 (value_links n 0 []) f ∙ op_old g kind c f lf ∙ fn in
    let d2 = drawn_start g kind c [] due owed d nf b tt tt in
    let d3 = drawn_load g2 f n name ins outs due owed d2 (omega arith) (omega arith) (λ i. let x = bo n i in absurd (omega arith)) at fn2 in
    subst (λ x. Drawn x due owed) (sym (with_none (with_links g2 (static_links (Some f) n 0)))) d3
