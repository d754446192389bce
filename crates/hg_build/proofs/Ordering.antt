-- The clauses on the order of effect nodes, from what the calls add.
use Rattle.std.proofs.Common.{◌≡◌, ◌≢◌, ◌⊎◌, inl, inr, ⊎_elim, ℕ, ℤ, zero, suc, ◌≤◌, ◌<◌, Bool, true, false, cond, List, [], ◌∷◌, ◌++◌, length, Option, Some, None, slice_get, refl, sym, ap, ◌∙◌, subst, arith, le_refl, append-nil, append_assoc}
use Rattle.gp_base.specs.Membership.{In}
use Rattle.hg_ops.specs.Op.{Op, Types, Const, Input, Output, Case, Conditional, LoadConstant, is_effect, is_dataflow_container}
use Rattle.hg_graph.specs.Graph.{Graph, Port, Link, Ports, Order, IsGraph, op_at, parent_at, children}
use Rattle.hg_laws.proofs.Children.{child_is, is_child, kid_is}
use Rattle.hg_build.specs.Steps.{Step, Grows, Hole, HoleDoes, HolesDo, nodes_of}
use Rattle.hg_build.specs.Wired.{with_node, with_links, with_cases, value_links, order_links, static_links, after_node, after_constant, after_choice, after_ends, after_control, after_leave, inner_place, inner_of, leave_prior, leave_last, IsNode, IsOpened, IsConstant, IsChoice, IsBlock, IsControl, IsEntered, IsLeft, IsFinished}
use Rattle.hg_build.specs.Built.{Fill, Choice, Flow, FillAt, Frame, Base, Below, BuiltAt, FillingAt}
use Rattle.hg_build.specs.Marks.{MarkedAt, Beneath, Standing, OrderedAt, OrderedSoFar}
use Rattle.hg_build.specs.Ordering.{OrderedIn, OpenOrdered, NodeOrdered, QuietOrdered, BlockOrdered, ControlOrdered, EnterOrdered, LeaveOrdered, FinishOrdered}
use Rattle.hg_build.specs.declared.region.Region.{Region}
use Rattle.hg_build.specs.declared.region.Place.{Place}
use Rattle.hg_build.specs.declared.region.Outer.{Outer}
use Rattle.hg_build.specs.declared.wire.Held.{Held}
use Rattle.hg_build.proofs.Moves.{steps_rise, grows_trans}
use Rattle.hg_build.proofs.Grow.{count_node, op_new, parent_new, op_links, parent_links, node_grows, links_grow, graph_node}
use Rattle.hg_build.proofs.Frames.{stands, rise_get, in_end}
use Rattle.hg_build.proofs.Linear.{split, op_past}
use Rattle.hg_build.proofs.Containers.{with_cases_more}
use Rattle.hg_build.proofs.Rules.{outer_below, filling_stands, after_grows, cases_grow, ends_grow}
use Rattle.hg_build.proofs.Orders.{Others, effect_marked_at, quiet_marked_at, enter_marked_at, leave_marked_at, function_open, function_close}

-- ---- where the open regions stand

standing_last : (g : Graph) (p : Place) (last : Option ℕ) (frs : List Frame) → Standing g p frs → Standing g (record p { last = last }) frs
standing_last g p last [] s = s
standing_last g p last (fr ∷ frs) s = s

node_below : (g : Graph) (base : Base) (c i : ℕ) (fr : Frame) (frs : List Frame) → Below g base c i (fr ∷ frs) → (fr.outer.place.output < fr.outer.node) × (fr.outer.node < c) × (c < i)
node_below g base c i fr frs b =
    let y = b.1 in
    let d : suc fr.outer.place.output ≤ fr.outer.node = steps_rise g (fr.outer.place.input ∷ []) (suc fr.outer.place.output) fr.outer.node fr.steps y.steps in
    let r = rise_get fr.outer.node y.top fr.hole fr.holes (record { node = c; act = None }) y.rise b.0 in
    let r0 = r.0 in let r1 = r.1 in let u = y.topped in
    (omega arith, r.0, omega arith)

standing_in : (g h : Graph) (base : Base) (p : Place) (frs : List Frame) → IsGraph g → Grows g h → p.container < length g.nodes → Below g base p.container p.input frs → Standing g p frs → Standing h p frs
standing_in g h base p [] s w lt b t = (w.parents p.container lt ∙ t.0, ap is_dataflow_container (w.ops 0 s.some) ∙ t.1)
standing_in g h base p (fr ∷ frs) s w lt b t =
    let x = t.0 in
    let o = outer_below g base p.container p.input fr frs b in
    let o0 = o.0 in let o1 = o.1 in let o2 = o.2 in let o3 = o.3 in
    let nb = node_below g base p.container p.input fr frs b in
    let n1 = nb.1 in
    let nl : fr.outer.node < length g.nodes = omega arith in (
      record {
        parent = w.parents p.container lt ∙ x.parent;
        above = w.parents fr.outer.node nl ∙ x.above;
        no_region = ap is_dataflow_container (w.ops fr.outer.node nl) ∙ x.no_region;
        chained = x.chained ∙ sym (ap is_effect (w.ops fr.outer.node nl));
      },
      standing_in g h base fr.outer.place frs s w (omega arith) b.2 t.1,
    )

-- the regions that wait are lower
others_from : (g : Graph) (base : Base) (c i x : ℕ) (frs : List Frame) → Below g base c i frs → c ≤ x → Others x frs
others_from g base c i x [] b le = tt
others_from g base c i x (fr ∷ frs) b le =
    let o = outer_below g base c i fr frs b in
    let o0 = o.0 in let o1 = o.1 in
    let nb = node_below g base c i fr frs b in
    let n0 = nb.0 in let n1 = nb.1 in
    (λ e. omega arith, others_from g base fr.outer.place.container fr.outer.place.input x frs b.2 (omega arith))

-- ---- nodes

after_links : (g : Graph) (kind : Op) (c : ℕ) (ps : List Port) (source prior : Option ℕ) → (after_node g kind c ps source prior).links ≡ g.links ++ (value_links (length g.nodes) 0 ps ++ (static_links source (length g.nodes) (length ps) ++ order_links prior (length g.nodes)))
after_links g kind c ps source prior =
    let n = length g.nodes in
    let v = value_links n 0 ps in let s = static_links source n (length ps) in let o = order_links prior n in
    append_assoc (g.links ++ v) s o ∙ append_assoc g.links v (s ++ o)

pub after_at : (g : Graph) (kind : Op) (c : ℕ) (ps : List Port) (source prior : Option ℕ) → (op_at (after_node g kind c ps source prior) (length g.nodes) ≡ kind) × (parent_at (after_node g kind c ps source prior) (length g.nodes) ≡ c)
after_at g kind c ps source prior =
    let n = length g.nodes in
    let g1 = with_node g kind c in
    let g2 = with_links g1 (value_links n 0 ps) in
    let g3 = with_links g2 (static_links source n (length ps)) in (
      op_links g3 (order_links prior n) n ∙ op_links g2 (static_links source n (length ps)) n ∙ op_links g1 (value_links n 0 ps) n ∙ op_new g kind c,
      parent_links g3 (order_links prior n) n ∙ parent_links g2 (static_links source n (length ps)) n ∙ parent_links g1 (value_links n 0 ps) n ∙ parent_new g kind c,
    )

-- one more node, whose op is no effect
quiet_one : (g h : Graph) (kind : Op) → length h.nodes ≡ suc (length g.nodes) → op_at h (length g.nodes) ≡ kind → is_effect kind ≡ false → (m : ℕ) → length g.nodes ≤ m → is_effect (op_at h m) ≡ false
quiet_one g h kind more at q m le = by_place (split m (length g.nodes))
  where
    by_place : (m < length g.nodes) ⊎ ((m ≡ length g.nodes) ⊎ (length g.nodes < m)) → is_effect (op_at h m) ≡ false
    by_place (inl l) = absurd (omega arith)
    by_place (inr (inl e)) = ap (λ k. is_effect (op_at h k)) e ∙ ap is_effect at ∙ q
    by_place (inr (inr u)) = ap is_effect (op_past h m (omega arith))

quiet_node : (g : Graph) (kind : Op) (c : ℕ) (p : Place) (frs : List Frame) (marked : List ℕ) → is_effect kind ≡ false → IsGraph g → MarkedAt g p frs marked → MarkedAt (with_node g kind c) p frs marked
quiet_node g kind c p frs marked q s k =
    quiet_marked_at g (with_node g kind c) [] p frs marked s (node_grows g kind c) (sym (append-nil g.links)) (quiet_one g (with_node g kind c) kind (count_node g kind c) (op_new g kind c) q) k

quiet_after : (g : Graph) (kind : Op) (c : ℕ) (ps : List Port) (source prior : Option ℕ) (p : Place) (frs : List Frame) (marked : List ℕ) → is_effect kind ≡ false → IsGraph g → MarkedAt g p frs marked → MarkedAt (after_node g kind c ps source prior) p frs marked
quiet_after g kind c ps source prior p frs marked q s k =
    quiet_marked_at g (after_node g kind c ps source prior) _ p frs marked s (after_grows g kind c ps source prior) (after_links g kind c ps source prior) (quiet_one g (after_node g kind c ps source prior) kind (count_node g kind c) (after_at g kind c ps source prior).0 q) k

in_back : (xs ys : List Link) (x : Link) → In x ys → In x (xs ++ ys)
in_back [] ys x i = i
in_back (y ∷ xs) ys x i = inr (in_back xs ys x i)

order_in : (xs : List Link) (prior : Option ℕ) (n l : ℕ) → prior ≡ Some l → In (Order l n) (xs ++ order_links prior n)
order_in xs None n l e = absurd (none e)
  where
    none : None ≡ Some l → ⊥
    none e = cc
order_in xs (Some k) n l e =
    let q : k ≡ l = cc in
    in_back xs (Order k n ∷ []) (Order l n) (inl (ap (λ m. Order m n) (sym q)))

node_marked : (g : Graph) (base : Base) (p : Place) (width : ℕ) (frs : List Frame) (ss : List Step) (kind : Op) (ps : List Port) (source : Option ℕ) (marked : List ℕ) (t : Bool) → is_effect kind ≡ t → BuiltAt g base p width frs ss → MarkedAt g p frs marked → MarkedAt (after_node g kind p.container ps source (cond t p.last None)) (record p { last = cond t (Some (length g.nodes)) p.last }) frs (cond t (length g.nodes ∷ marked) marked)
node_marked g base p width frs ss kind ps source marked false q b k = quiet_after g kind p.container ps source None p frs marked q b.sound.graph k
node_marked g base p width frs ss kind ps source marked true q b k =
    let h = after_node g kind p.container ps source p.last in
    effect_marked_at g h _ p frs marked b.sound.graph (after_grows g kind p.container ps source p.last) (after_links g kind p.container ps source p.last) (count_node g kind p.container) (after_at g kind p.container ps source p.last).1
    (λ l e. order_in ((g.links ++ value_links (length g.nodes) 0 ps) ++ static_links source (length g.nodes) (length ps)) p.last (length g.nodes) l e)
    (others_from g base p.container p.input p.container frs b.below (le_refl p.container)) k

ordered_is : (r : Region) (g : Graph) (p : Place) (frs : List Frame) (marked : List ℕ) → r.graph ≡ g → r.place ≡ p → OrderedAt g p frs marked → OrderedIn r frs marked
ordered_is r g p frs marked e f d = subst (λ x. OrderedAt x r.place frs marked) (sym e) (subst (λ x. OrderedAt g x frs marked) (sym f) d)

container_in : (g : Graph) (base : Base) (p : Place) (width : ℕ) (frs : List Frame) (ss : List Step) → BuiltAt g base p width frs ss → p.container < length g.nodes
container_in g base p width frs ss b =
    let z = stands g p width ss b.open_at in
    let z0 = z.above in let z1 = z.next in let z2 = z.within in omega arith

pub node_ordered : (old new : Region) (kind : Op) (ps : List Port) (source : Option ℕ) (n : ℕ) (handed : List Held) → IsNode old new kind ps source n handed → NodeOrdered old new kind
node_ordered old new kind ps source n handed a = record {
  by = λ base width frs ss marked b k.
      ordered_is new _ _ frs _ a.graph a.place (record {
        marked_at = node_marked old.graph base old.place width frs ss kind ps source marked (is_effect kind) refl b k.marked_at;
        standing = standing_last _ old.place _ frs (standing_in old.graph _ base old.place frs b.sound.graph (after_grows old.graph kind old.place.container ps source _) (container_in old.graph base old.place width frs ss b) b.below k.standing);
      });
}

pub constant_ordered : (old new : Region) (value : ℤ) (out : Port) → IsConstant old new value out → QuietOrdered old new
constant_ordered old new value out a = record {
  by = λ base width frs ss marked b k.
      let g = old.graph in let c = old.place.container in
      let lt = container_in g base old.place width frs ss b in
      let g1 = with_node g (Const value) c in
      let w : Grows g (after_constant g value c) = grows_trans g g1 (after_constant g value c) (node_grows g (Const value) c) (after_grows g1 LoadConstant c [] (Some (length g.nodes)) None) in
      ordered_is new _ _ frs marked a.graph a.place (record {
        marked_at = quiet_after g1 LoadConstant c [] (Some (length g.nodes)) None old.place frs marked refl (graph_node g (Const value) c lt b.sound.graph) (quiet_node g (Const value) c old.place frs marked refl b.sound.graph k.marked_at);
        standing = standing_in g _ base old.place frs b.sound.graph w lt b.below k.standing;
      });
}

quiet_cases : (n : ℕ) (rows : List Types) (ins outs : Types) (g : Graph) (m : ℕ) → length g.nodes ≤ m → is_effect (op_at (with_cases g n rows ins outs) m) ≡ false
quiet_cases n [] ins outs g m le = ap (λ x. is_effect (op_at x m)) (ap (λ x. record g { nodes = x }) (append-nil g.nodes)) ∙ ap is_effect (op_past g m le)
quiet_cases n (row ∷ rows) ins outs g m le =
    ap (λ x. is_effect (op_at x m)) (with_cases_more g n row rows ins outs)
    ∙ by_place (split m (length g.nodes)) (λ l. quiet_cases n rows ins outs (with_node g (Case (row ++ ins) outs) n) m l)
  where
    more : length (with_node g (Case (row ++ ins) outs) n).nodes ≡ suc (length g.nodes)
    more = count_node g (Case (row ++ ins) outs) n

    by_place : (m < length g.nodes) ⊎ ((m ≡ length g.nodes) ⊎ (length g.nodes < m)) → (length (with_node g (Case (row ++ ins) outs) n).nodes ≤ m → is_effect (op_at (with_cases (with_node g (Case (row ++ ins) outs) n) n rows ins outs) m) ≡ false) → is_effect (op_at (with_cases (with_node g (Case (row ++ ins) outs) n) n rows ins outs) m) ≡ false
    by_place (inl l) r = absurd (omega arith)
    by_place (inr (inl e)) r =
        let g1 = with_node g (Case (row ++ ins) outs) n in
        let w = cases_grow n rows ins outs g1 in
        ap (λ k. is_effect (op_at (with_cases g1 n rows ins outs) k)) e ∙ ap is_effect (w.ops (length g.nodes) (let x = more in omega arith) ∙ op_new g (Case (row ++ ins) outs) n)
    by_place (inr (inr u)) r = r (let x = more in omega arith)

pub choice_ordered : (old new : Region) (rows : List Types) (ins outs : Types) (ps : List Port) (n : ℕ) (handed : List Held) → IsChoice old new rows ins outs ps n handed → QuietOrdered old new
choice_ordered old new rows ins outs ps n handed a = record {
  by = λ base width frs ss marked b k.
      let g = old.graph in let c = old.place.container in
      let kind = Conditional rows ins outs in
      let h1 = after_node g kind c ps None None in
      let h = after_choice g rows ins outs c ps in
      let w2 : Grows h1 h = cases_grow (length g.nodes) rows ins outs h1 in
      let w : Grows g h = grows_trans g h1 h (after_grows g kind c ps None None) w2 in
      let at = (after_at g kind c ps None None).0 in
      let more : length h1.nodes ≡ suc (length g.nodes) = count_node g kind c in
      ordered_is new _ _ frs marked a.graph a.place (record {
        marked_at = quiet_marked_at g h _ old.place frs marked b.sound.graph w (after_links g kind c ps None None) (quiet g h1 h w2 at more rows ins outs (quiet_cases (length g.nodes) rows ins outs h1)) k.marked_at;
        standing = standing_in g h base old.place frs b.sound.graph w (container_in g base old.place width frs ss b) b.below k.standing;
      });
}
  where
    quiet : (g h1 h : Graph) → Grows h1 h → op_at h1 (length g.nodes) ≡ Conditional rows ins outs → length h1.nodes ≡ suc (length g.nodes) → (rows' : List Types) (ins' outs' : Types) → ((m : ℕ) → length h1.nodes ≤ m → is_effect (op_at h m) ≡ false) → (m : ℕ) → length g.nodes ≤ m → is_effect (op_at h m) ≡ false
    quiet g h1 h w at more rows' ins' outs' r m le =
        ⊎_elim (λ l. absurd (omega arith)) (λ x. ⊎_elim (λ e. ap (λ k. is_effect (op_at h k)) e ∙ ap is_effect (w.ops (length g.nodes) (omega arith) ∙ at)) (λ u. r m (omega arith)) x) (split m (length g.nodes))

-- ---- `block` and `control`
filling_standing : (g h : Graph) (base : Base) (p : Place) (width : ℕ) (frs : List Frame) (ss : List Step) (n : ℕ) (ps : List Port) (fill : Fill) (holes : List Hole) → FillingAt g base p width frs ss n ps fill holes → Grows g h → Standing g p frs → Standing h p frs
filling_standing g h base p width frs ss n ps fill holes b w t =
    let z = filling_stands g base p width frs ss n ps fill holes b in
    let z0 = z.0 in let z1 = z.1 in let z2 = z.2 in let z3 = z.3 in
    standing_in g h base p frs b.sound.graph w (omega arith) b.below t

pub block_ordered : (old new : Region) (cfg : ℕ) (kind : Op) (n : ℕ) → IsBlock old new cfg kind n → BlockOrdered old new cfg kind
block_ordered old new cfg kind n a = record {
  by = λ base width frs ss ps fill holes marked b q k.
      ordered_is new _ _ frs marked a.graph a.place (record {
        marked_at = quiet_node old.graph kind cfg old.place frs marked q b.sound.graph k.marked_at;
        standing = filling_standing old.graph (with_node old.graph kind cfg) base old.place width frs ss cfg ps fill holes b (node_grows old.graph kind cfg) k.standing;
      });
}

pub control_ordered : (old new : Region) (from : Port) (to : ℕ) → IsControl old new from to → ControlOrdered old new
control_ordered old new from to a = record {
  by = λ base width frs ss n ps fill holes marked b k.
      let ls = Ports from (record { node = to; index = 0 }) ∷ [] in
      ordered_is new _ _ frs marked a.graph a.place (record {
        marked_at = quiet_marked_at old.graph (after_control old.graph from to) ls old.place frs marked b.sound.graph (links_grow old.graph ls) refl (λ m le. ap is_effect (op_links old.graph ls m ∙ op_past old.graph m le)) k.marked_at;
        standing = filling_standing old.graph (after_control old.graph from to) base old.place width frs ss n ps fill holes b (links_grow old.graph ls) k.standing;
      });
}

-- ---- `open` and `enter`
quiet_ends : (g : Graph) (c : ℕ) (ins outs : Types) (p : Place) (frs : List Frame) (marked : List ℕ) → c < length g.nodes → IsGraph g → MarkedAt g p frs marked → MarkedAt (after_ends g c ins outs) p frs marked
quiet_ends g c ins outs p frs marked lt s k =
    quiet_node (with_node g (Input ins) c) (Output outs) c p frs marked refl (graph_node g (Input ins) c lt s) (quiet_node g (Input ins) c p frs marked refl s k)

pub open_ordered : (old : Graph) (c : ℕ) (ins outs : Types) (new : Region) (handed : List Held) → IsOpened old c ins outs new handed → OpenOrdered old c new
open_ordered old c ins outs new handed a = record {
  by = λ marked s some lt par nd none k.
      let w = ends_grow old c ins outs in
      ordered_is new _ _ [] marked a.graph a.place (record {
        marked_at = quiet_ends old c ins outs (inner_place old c) [] marked lt s (function_open old c marked (inner_place old c) refl refl none s (λ m e q. let x = ap (parent_at old) (sym q) ∙ e in let y = sym par ∙ x in omega arith) k.owns k.marks);
        standing = (w.parents c lt ∙ par, ap is_dataflow_container (w.ops 0 s.some) ∙ nd);
      });
}

-- an unfilled hole has no children
hole_empty : (g : Graph) (e top end k c : ℕ) (holes : List Hole) → HolesDo g e top end holes → slice_get holes k ≡ Some (record { node = c; act = None }) → c ≢ e → children g c ≡ []
hole_empty g e top end k c [] d is ne = absurd (none is)
  where
    none : slice_get {X = Hole} [] k ≡ Some (record { node = c; act = None }) → ⊥
    none q = cc
hole_empty g e top end zero c (hole ∷ holes) d is ne =
    let same : hole ≡ record { node = c; act = None } = cc in
    let x : c ≢ e → HoleDoes g top end c None = subst (λ (u : Hole). u.node ≢ e → HoleDoes g top end u.node u.act) same d.0 in
    x ne
hole_empty g e top end (suc k) c (hole ∷ holes) d is ne = hole_empty g e top end k c holes d.1 is ne

fill_no_region : (g : Graph) (n : ℕ) (fill : Fill) (holes : List Hole) → FillAt g n fill holes → is_dataflow_container (op_at g n) ≡ false
fill_no_region g n Choice holes f = ap is_dataflow_container f.is
fill_no_region g n (Flow ways) holes f = ap is_dataflow_container f.is

pub enter_ordered : (old : Region) (c : ℕ) (outer : Outer) (inner : Region) (handed : List Held) → IsEntered old c outer inner handed → EnterOrdered old c outer inner
enter_ordered old c outer inner handed a = record {
  by = λ base width frs ss ps fill holes k fr marked b is e d.
      let g = old.graph in let p = old.place in
      let y = b.halfway in
      let ins = (inner_of (op_at g c)).0 in let outs = (inner_of (op_at g c)).1 in
      let h = after_ends g c ins outs in
      let w : Grows g h = ends_grow g c ins outs in
      let at = rise_get outer.node y.top k holes (record { node = c; act = None }) y.rise is in
      let a0 = at.0 in let a1 = at.1 in let u = y.topped in
      let cl : c < length g.nodes = omega arith in
      let nl : outer.node < length g.nodes = omega arith in
      let kid = kid_is g p.container outer.node (subst (λ xs. In outer.node xs) (sym y.firing) (in_end (nodes_of ss) outer.node)) in
      let none = hole_empty g outer.node y.top (length g.nodes) k c holes y.does is (λ q. omega arith) in
      let parent : parent_at g c ≡ outer.node = sym (ap (λ (o : Outer). o.node) a.paused) in
      let op : outer.place ≡ p = ap (λ (o : Outer). o.place) a.paused in
      let ch : outer.chained ≡ is_effect (op_at g outer.node) = ap (λ (o : Outer). o.chained) a.paused ∙ ap (λ m. is_effect (op_at g m)) parent in
      let ms = quiet_ends g c ins outs p frs marked cl b.sound.graph d.marked_at in
      let st = filling_standing g h base p width frs ss outer.node ps fill holes b w d.standing in
      ordered_is inner _ _ (fr ∷ frs) marked a.graph a.place (record {
        marked_at = enter_marked_at g h p (inner_place g c) frs fr marked (ap (λ (o : Outer). o.place) e ∙ op) refl
            (λ m i q. unmarked g h m c outer.node none parent w (d.marked_at.marks.nodes m i) q (λ z. omega arith)) ms;
        standing = (
          subst (Beneath h c) (sym e) (record {
            parent = w.parents c cl ∙ parent;
            above = w.parents outer.node nl ∙ (child_is g p.container outer.node kid.0).1 ∙ ap (λ (x : Place). x.container) (sym op);
            no_region = ap is_dataflow_container (w.ops outer.node nl) ∙ fill_no_region g outer.node fill holes y.filling;
            chained = ch ∙ sym (ap is_effect (w.ops outer.node nl));
          }),
          subst (λ x. Standing h x frs) (sym (ap (λ (o : Outer). o.place) e ∙ op)) st,
        );
      });
}
  where
    unmarked : (g h : Graph) (m c n : ℕ) → children g c ≡ [] → parent_at g c ≡ n → Grows g h → m < length g.nodes → parent_at h m ≡ c → (n ≡ c → ⊥) → ⊥
    unmarked g h m c n none par w lt q ne =
        let p : parent_at g m ≡ c = sym (w.parents m lt) ∙ q in
        subst (λ xs. In m xs) none (is_child g c m lt p (λ z. ne (sym par ∙ ap (parent_at g) (sym z) ∙ p)))

-- ---- `leave` and `finish`
leave_links : (g : Graph) (o : ℕ) (ps : List Port) (prior : Option ℕ) (n : ℕ) → (after_leave g o ps prior n).links ≡ g.links ++ (value_links o 0 ps ++ order_links prior n)
leave_links g o ps prior n = append_assoc g.links (value_links o 0 ps) (order_links prior n)

pub leave_ordered : (inner : Region) (outer : Outer) (ps : List Port) (new : Region) → IsLeft inner outer ps new → LeaveOrdered inner outer new
leave_ordered inner outer ps new a = record {
  by = λ base width fr frs ss marked e b d.
      let g = inner.graph in let p = inner.place in
      let q = fr.outer.place in
      let n = fr.outer.node in
      let prior = leave_prior fr.outer p.last in
      let h = after_leave g p.output ps prior n in
      let w : Grows g h = grows_trans g (with_links g (value_links p.output 0 ps)) h (links_grow g (value_links p.output 0 ps)) (links_grow (with_links g (value_links p.output 0 ps)) (order_links prior n)) in
      let lt = container_in g base p width (fr ∷ frs) ss b in
      let o = outer_below g base p.container p.input fr frs b.below in
      let o0 = o.0 in let o1 = o.1 in
      let nb = node_below g base p.container p.input fr frs b.below in
      let n0 = nb.0 in let n1 = nb.1 in
      let nl : n < length g.nodes = omega arith in
      let st = d.standing.0 in
      let m = d.marked_at in
      let r = leave_marked_at g h _ fr.outer p frs marked b.sound.graph w (leave_links g p.output ps prior n) refl lt nl
      (w.parents p.container lt ∙ st.parent) (w.parents n nl ∙ st.above) (ap is_dataflow_container (w.ops n nl) ∙ st.no_region) (st.chained ∙ sym (ap is_effect (w.ops n nl)))
      (λ l z. order_in (g.links ++ value_links p.output 0 ps) prior n l z)
      (λ z. omega arith)
      (others_from g base q.container q.input n frs b.below.2 (omega arith))
      (others_from g base q.container q.input q.container frs b.below.2 (le_refl q.container))
      m.owns m.marks m.latest.0 m.latest.1 in (
        r.0,
        ordered_is new h (record q { last = leave_last fr.outer p.last }) frs r.0
            (a.graph ∙ ap (λ (x : Outer). after_leave g p.output ps (leave_prior x p.last) x.node) (sym e))
            (a.place ∙ ap (λ (x : Outer). record x.place { last = leave_last x p.last }) (sym e))
            (record {
              marked_at = r.1;
              standing = standing_last h q (leave_last fr.outer p.last) frs (standing_in g h base q frs b.sound.graph w (omega arith) b.below.2 d.standing.1);
            }),
      );
}

pub finish_ordered : (r : Region) (ps : List Port) (g : Graph) → IsFinished r ps g → FinishOrdered r g
finish_ordered r ps g a = record {
  by = λ base width ss marked b d.
      let p = r.place in
      let vl = value_links p.output 0 ps in
      let h = with_links r.graph vl in
      let w = links_grow r.graph vl in
      let lt = container_in r.graph base p width [] ss b in
      let m = quiet_marked_at r.graph h vl p [] marked b.sound.graph w refl (λ k le. ap is_effect (op_links r.graph vl k ∙ op_past r.graph k le)) d.marked_at in
      let x = function_close h p marked lt (w.parents p.container lt ∙ d.standing.0) (ap is_dataflow_container (w.ops 0 b.sound.graph.some) ∙ d.standing.1) m in
      (x.0, subst (λ u. OrderedSoFar u x.0) (sym a.graph) (record { owns = x.1; marks = x.2 }));
}
