-- The clauses on the rules on containers, from what the calls add.
use Rattle.std.proofs.Common.{◌≡◌, ◌≢◌, ◌⊎◌, inl, inr, ⊎_elim, ℕ, ℤ, zero, suc, ◌+◌, ◌≤◌, ◌<◌, Bool, true, false, cond, List, [], ◌∷◌, ◌++◌, length, Option, Some, None, slice_get, refl, sym, ap, ap₂, ◌∙◌, subst, arith}
use Rattle.gp_base.specs.Membership.{In}
use Rattle.hg_ops.specs.GraphType.{sum_type}
use Rattle.hg_ops.specs.Op.{Op, Types, FuncDefn, Const, Cfg, DataflowBlock, ExitBlock, Conditional, Tag, Call, CallIndirect, LoadConstant, LoadFunction, Ext, ins_of, inner_ins, inner_outs, is_dataflow_container}
use Rattle.hg_graph.specs.Graph.{Graph, Port, Link, Ports, Order, IsGraph, LinkIsWithin, op_at, parent_at, children, is_port, links_from, taker}
use Rattle.hg_graph.specs.Valid.{KeepsBlocks, KeepsCases, KeepsSuccessors, is_boundary, is_block}
use Rattle.hg_laws.proofs.Children.{child_is, is_child, get_in}
use Rattle.hg_laws.proofs.Named.{within}
use Rattle.hg_build.specs.Steps.{Step, PortsIn, known_after, is_leaf, Grows, Hole, Way, way_at, CasesAt, BlocksAt}
use Rattle.hg_build.specs.Wired.{with_node, with_links, value_links, order_links, static_links, after_node, after_constant, after_choice, after_ends, after_control, after_leave, inner_of, call_of, load_of, IsNode, IsOpened, IsConstant, IsChoice, IsBlock, IsControl, IsEntered, IsLeft, IsFinished}
use Rattle.hg_build.specs.Built.{Fill, Choice, Flow, Frame, Base, BuiltAt, FillingAt, FillAt}
use Rattle.hg_build.specs.Clauses.{next_node}
use Rattle.hg_build.specs.Pending.{times}
use Rattle.hg_build.specs.Drawn.{DrawnAt, Typed, Contains}
use Rattle.hg_build.specs.Containing.{ContainsAt, TakenOff, with_cases_of, OpenContains, EnterContains, OpContains, ConstantContains, CallContains, LoadContains, ChoiceContains, FlowContains, BlockContains, ControlContains, LeaveContains, FinishContains, Charted, FlowCharted, BlockCharted, ControlCharted, WholeIsReady, OutputIsThere, target_of, froms, WaysFrom}
use Rattle.hg_build.specs.declared.region.Region.{Region}
use Rattle.hg_build.specs.declared.region.Place.{Place}
use Rattle.hg_build.specs.declared.region.Outer.{Outer}
use Rattle.hg_build.specs.declared.wire.Held.{Held}
use Rattle.hg_build.proofs.Real.{in_last}
use Rattle.hg_build.proofs.Grow.{count_node, op_old, op_new, op_links, children_links, children_parent, node_grows, links_grow, graph_node, graph_links}
use Rattle.hg_build.proofs.Adds.{SourceBelow, source_more, static_within, values_within, ports_more, node_added}
use Rattle.hg_build.proofs.Frames.{stands, scope_below}
use Rattle.hg_build.proofs.Containers.{flow_first}
use Rattle.hg_build.proofs.Linear.{from_append, skip, other_port}
use Rattle.hg_build.proofs.Draws.{typed_node}
use Rattle.hg_build.proofs.Rules.{flows_head, scope_region, filling_stands, ends_grow, after_grows, cases_grow}
use Rattle.hg_build.proofs.Contents.{CasesFrom, SourceFree, clash, is_plain_node, cases_from, get_at, values_same, order_same, links_contained, plain_contained, ready_now, ends_contained, start_contained, choice_contained, node_whole, control_contained, block_contained, exit_contained}

-- an open region isn't empty
not_empty : (g : Graph) (c i : ℕ) (empty unready : List ℕ) → slice_get (children g c) 0 ≡ Some i → Contains g empty unready → In c empty → ⊥
not_empty g c i empty unready e d ic = none (ap (λ xs. slice_get xs 0) (sym (d.vacant c ic)) ∙ e)
  where
    none : slice_get [] 0 ≡ Some i → ⊥
    none q = cc

-- the list of the empty containers stays
stays : (g h : Graph) (empty unready unready' : List ℕ) → Grows g h → ContainsAt g empty unready → Contains h empty unready' → ContainsAt h empty unready'
stays g h empty unready unready' w d c = record {
  contains = c;
  within = λ m i. let a = d.within m i in let b = w.more in omega arith;
  regions = λ m i. ap is_dataflow_container (w.ops m (d.within m i)) ∙ d.regions m i;
}

-- ---- a node with its links

-- a source that is no block
abbrev pub Free : Graph → Option ℕ → Type 0
Free g None = Unit {0}
Free g (Some f) = (f < length g.nodes) × (is_block (op_at g f) ≡ false)

free_below : (g : Graph) (source : Option ℕ) → Free g source → SourceBelow (length g.nodes) source
free_below g None f = tt
free_below g (Some x) f = f.0

free_in : (g : Graph) (kind : Op) (c : ℕ) (ls : List Link) (source : Option ℕ) → Free g source → SourceFree (with_links (with_node g kind c) ls) source
free_in g kind c ls None f = tt
free_in g kind c ls (Some x) f = ap is_block (op_links (with_node g kind c) ls x ∙ op_old g kind c x f.0) ∙ f.1

values_graph : (g : Graph) (kind : Op) (p : Place) (width : ℕ) (base : Base) (frs : List Frame) (ss : List Step) (ps : List Port) → BuiltAt g base p width frs ss → PortsIn ps (known_after (p.input ∷ []) ss) → IsGraph (with_links (with_node g kind p.container) (value_links (length g.nodes) 0 ps))
values_graph g kind p width base frs ss ps b i =
    let n = length g.nodes in
    let z = stands g p width ss b.open_at in
    let z0 = z.above in let z1 = z.next in let z2 = z.within in
    let g1 = with_node g kind p.container in
    let more : length g1.nodes ≡ suc n = count_node g kind p.container in
    graph_links g1 (value_links n 0 ps) (values_within (length g1.nodes) n 0 ps (omega arith) (ports_more n (length g1.nodes) ps (omega arith) (scope_below g p width ss ps b.open_at i))) (graph_node g kind p.container (omega arith) b.sound.graph)

node_at : (g : Graph) (base : Base) (p : Place) (width : ℕ) (frs : List Frame) (ss : List Step) (kind : Op) (ps : List Port) (source prior : Option ℕ) (empty unready : List ℕ) → BuiltAt g base p width frs ss → DrawnAt g p frs → Free g source → is_boundary kind ≡ false → is_block kind ≡ false → is_dataflow_container kind ≡ false → is_plain_node kind ≡ true → Typed g ps (ins_of kind) → PortsIn ps (known_after (p.input ∷ []) ss) → ContainsAt g empty unready → ContainsAt (after_node g kind p.container ps source prior) empty unready
node_at g base p width frs ss kind ps source prior empty unready b dr f nb nk nd pl y i d =
    let n = length g.nodes in
    let c = p.container in
    let z = stands g p width ss b.open_at in
    let z0 = z.above in let z1 = z.next in let z2 = z.within in
    let g1 = with_node g kind c in
    let more : length g1.nodes ≡ suc n = count_node g kind c in
    let g2 = with_links g1 (value_links n 0 ps) in
    let s2 = values_graph g kind p width base frs ss ps b i in
    let s3 = graph_links g2 (static_links source n (length ps)) (static_within source (length g1.nodes) n (length ps) (omega arith) (source_more n (length g1.nodes) source (omega arith) (free_below g source f))) s2 in
    stays g (after_node g kind c ps source prior) empty unready unready (after_grows g kind c ps source prior) d
    (node_whole g kind c ps source prior empty unready b.sound.graph (omega arith) (not_empty g c p.input empty unready b.open_at.laid.input d.contains) (flows_head g p frs dr.flows) nb nk nd pl (typed_node g kind c ps (ins_of kind) (scope_region g p width ss ps b.open_at i) y) s2 s3 (free_in g kind c (value_links n 0 ps) source f) d.contains)

leaf_is : (kind : Op) → is_leaf kind ≡ true → (is_boundary kind ≡ false) × (is_block kind ≡ false) × (is_dataflow_container kind ≡ false) × (is_plain_node kind ≡ true)
leaf_is (Tag rows k) e = (refl, refl, refl, refl)
leaf_is (Ext x) e = (refl, refl, refl, refl)
leaf_is (CallIndirect ins outs) e = (refl, refl, refl, refl)
leaf_is _ e = absurd (wrong e)
  where
    wrong : false ≡ true → ⊥
    wrong e = cc

pub op_contains : (old new : Region) (kind : Op) (ps : List Port) (n : ℕ) (handed : List Held) → IsNode old new kind ps None n handed → OpContains old new kind ps
op_contains old new kind ps n handed a = record {
  by = λ base width frs ss empty unready b dr is y i d.
      let k = leaf_is kind is in
      subst (λ x. ContainsAt x empty unready) (sym a.graph) (node_at old.graph base old.place width frs ss kind ps None _ empty unready b dr tt k.0 k.1 k.2 k.3 y i d);
}

function_free : (g : Graph) (f : ℕ) (name : List ℕ) (ins outs : Types) → op_at g f ≡ FuncDefn name ins outs → Free g (Some f)
function_free g f name ins outs e = (within g f name ins outs e, ap is_block e)

pub call_contains : (old new : Region) (f : ℕ) (ps : List Port) (n : ℕ) (handed : List Held) → IsNode old new (call_of (op_at old.graph f)) ps (Some f) n handed → CallContains old new f ps
call_contains old new f ps n handed a = record {
  by = λ base width frs ss name ins outs empty unready b dr fn y i d.
      let x : IsNode old new (Call ins outs) ps (Some f) n handed = subst (λ k. IsNode old new k ps (Some f) n handed) (ap call_of fn) a in
      subst (λ z. ContainsAt z empty unready) (sym x.graph) (node_at old.graph base old.place width frs ss (Call ins outs) ps (Some f) _ empty unready b dr (function_free old.graph f name ins outs fn) refl refl refl refl y i d);
}

pub load_contains : (old new : Region) (f n : ℕ) (handed : List Held) → IsNode old new (load_of (op_at old.graph f)) [] (Some f) n handed → LoadContains old new f
load_contains old new f n handed a = record {
  by = λ base width frs ss name ins outs empty unready b dr fn d.
      let x : IsNode old new (LoadFunction ins outs) [] (Some f) n handed = subst (λ k. IsNode old new k [] (Some f) n handed) (ap load_of fn) a in
      subst (λ z. ContainsAt z empty unready) (sym x.graph) (node_at old.graph base old.place width frs ss (LoadFunction ins outs) [] (Some f) None empty unready b dr (function_free old.graph f name ins outs fn) refl refl refl refl tt tt d);
}

constant_at : (g : Graph) (base : Base) (p : Place) (width : ℕ) (frs : List Frame) (ss : List Step) (value : ℤ) (empty unready : List ℕ) → BuiltAt g base p width frs ss → DrawnAt g p frs → ContainsAt g empty unready → ContainsAt (after_constant g value p.container) empty unready
constant_at g base p width frs ss value empty unready b dr d =
    let n = length g.nodes in
    let c = p.container in
    let z = stands g p width ss b.open_at in
    let z0 = z.above in let z1 = z.next in let z2 = z.within in
    let fl = flows_head g p frs dr.flows in
    let ne = not_empty g c p.input empty unready b.open_at.laid.input d.contains in
    let g1 = with_node g (Const value) c in
    let m1 : length g1.nodes ≡ suc n = count_node g (Const value) c in
    let s1 = graph_node g (Const value) c (omega arith) b.sound.graph in
    let d1 = stays g g1 empty unready unready (node_grows g (Const value) c) d (plain_contained g (Const value) c empty unready b.sound.graph (omega arith) (ne, inr (fl, refl, refl)) refl refl d.contains) in
    let n1 = length g1.nodes in
    let g2 = with_node g1 LoadConstant c in
    let m2 : length g2.nodes ≡ suc n1 = count_node g1 LoadConstant c in
    let s2 = graph_links g2 [] (λ link i. absurd i) (graph_node g1 LoadConstant c (omega arith) s1) in
    let s3 = graph_links (with_links g2 []) (static_links (Some n) n1 0) (static_within (Some n) (length g2.nodes) n1 0 (omega arith) (omega arith)) s2 in
    let fn : is_block (op_at g1 n) ≡ false = ap is_block (op_new g (Const value) c) in
    stays g1 (after_constant g value c) empty unready unready (after_grows g1 LoadConstant c [] (Some n) None) d1
    (node_whole g1 LoadConstant c [] (Some n) None empty unready s1 (omega arith) ne (ap is_dataflow_container (op_old g (Const value) c c (omega arith)) ∙ fl) refl refl refl refl tt s2 s3 (free_in g1 LoadConstant c [] (Some n) (omega arith, fn)) d1.contains)

pub constant_contains : (old new : Region) (value : ℤ) (out : Port) → IsConstant old new value out → ConstantContains old new
constant_contains old new value out a = record {
  by = λ base width frs ss empty unready b dr d. subst (λ x. ContainsAt x empty unready) (sym a.graph) (constant_at old.graph base old.place width frs ss value empty unready b dr d);
}

-- ---- `conditional`
cases_among : (first : ℕ) (rows : List Types) (empty : List ℕ) (m : ℕ) → In m (with_cases_of first rows empty) → In m empty ⊎ ((k : ℕ) × (m ≡ first + k) × (k < length rows))
cases_among first [] empty m i = inl i
cases_among first (row ∷ rows) empty m i =
    ⊎_elim (λ j. ⊎_elim (λ e. inr (0, omega arith, omega arith)) (λ x. inl x) j) (λ r. inr (let x = r.1 in let y = r.2 in (suc r.0, omega arith, omega arith))) (cases_among (suc first) rows (first ∷ empty) m i)

choice_at : (g : Graph) (base : Base) (p : Place) (width : ℕ) (frs : List Frame) (ss : List Step) (rows : List Types) (ins outs : Types) (ps : List Port) (empty unready : List ℕ) → BuiltAt g base p width frs ss → DrawnAt g p frs → Typed g ps (sum_type rows ∷ ins) → PortsIn ps (known_after (p.input ∷ []) ss) → ContainsAt g empty unready → ContainsAt (after_choice g rows ins outs p.container ps) (with_cases_of (suc (length g.nodes)) rows empty) unready
choice_at g base p width frs ss rows ins outs ps empty unready b dr y i d =
    let n = length g.nodes in
    let c = p.container in
    let kind = Conditional rows ins outs in
    let z = stands g p width ss b.open_at in
    let z0 = z.above in let z1 = z.next in let z2 = z.within in
    let h1 = after_node g kind c ps None None in
    let h = after_choice g rows ins outs c ps in
    let a = node_added g kind c ps None None (omega arith) b.sound (scope_below g p width ss ps b.open_at i) tt tt in
    let more : length h1.nodes ≡ suc n = a.one_more in
    let w1 : Grows g h1 = after_grows g kind c ps None None in
    let w2 : Grows h1 h = cases_grow n rows ins outs h1 in
    let cf = cases_from n rows ins outs h1 (omega arith) in
    record {
      contains = choice_contained g rows ins outs c ps empty unready b.sound.graph (omega arith) (not_empty g c p.input empty unready b.open_at.laid.input d.contains) d.within (flows_head g p frs dr.flows) (typed_node g kind c ps (ins_of kind) (scope_region g p width ss ps b.open_at i) y) (values_graph g kind p width base frs ss ps b i) a.sound.graph a.at a.childless d.contains;
      within = λ m j. ⊎_elim (λ x. let q = d.within m x in let u = w1.more in let v = w2.more in omega arith) (λ r. (case_is m r.0 r.1 r.2 more cf).0) (cases_among (suc n) rows empty m j);
      regions = λ m j. ⊎_elim (λ x. ap is_dataflow_container (w2.ops m (let q = d.within m x in let u = w1.more in omega arith) ∙ w1.ops m (d.within m x)) ∙ d.regions m x) (λ r. (case_is m r.0 r.1 r.2 more cf).1) (cases_among (suc n) rows empty m j);
    }
  where
    case_is : (m k : ℕ) → m ≡ suc (length g.nodes) + k → k < length rows → length (after_node g (Conditional rows ins outs) p.container ps None None).nodes ≡ suc (length g.nodes) → CasesFrom (after_choice g rows ins outs p.container ps) (length g.nodes) (length (after_node g (Conditional rows ins outs) p.container ps None None).nodes) (children (after_node g (Conditional rows ins outs) p.container ps None None) (length g.nodes)) rows ins outs → (m < length (after_choice g rows ins outs p.container ps).nodes) × (is_dataflow_container (op_at (after_choice g rows ins outs p.container ps) m) ≡ true)
    case_is m k e lt more cf =
        let h = after_choice g rows ins outs p.container ps in
        let r = get_at rows k lt in
        let x = cf.each k r.0 r.1 in
        let q : length (after_node g (Conditional rows ins outs) p.container ps None None).nodes + k ≡ m = omega (arith, e, more) in
        let l = (child_is h (length g.nodes) _ (get_in (children h (length g.nodes)) _ _ x.0)).0 in
        (subst (λ u. u < length h.nodes) q l, ap (λ u. is_dataflow_container (op_at h u)) (sym q) ∙ ap is_dataflow_container x.1)

pub choice_contains : (old new : Region) (rows : List Types) (ins outs : Types) (ps : List Port) (n : ℕ) (handed : List Held) → IsChoice old new rows ins outs ps n handed → ChoiceContains old new rows ins ps
choice_contains old new rows ins outs ps n handed a = record {
  by = λ base width frs ss empty unready b dr y i d. subst (λ x. ContainsAt x (with_cases_of (suc (next_node old)) rows empty) unready) (sym a.graph) (choice_at old.graph base old.place width frs ss rows ins outs ps empty unready b dr y i d);
}

-- ---- `cfg`, `block`, `control`
flow_at : (g : Graph) (base : Base) (p : Place) (width : ℕ) (frs : List Frame) (ss : List Step) (ins outs : Types) (ps : List Port) (prior : Option ℕ) (empty unready : List ℕ) → BuiltAt g base p width frs ss → DrawnAt g p frs → Typed g ps ins → PortsIn ps (known_after (p.input ∷ []) ss) → ContainsAt g empty unready → ContainsAt (after_node g (Cfg ins outs) p.container ps None prior) empty (length g.nodes ∷ unready)
flow_at g base p width frs ss ins outs ps prior empty unready b dr y i d =
    let c = p.container in
    let kind = Cfg ins outs in
    let z = stands g p width ss b.open_at in
    let z0 = z.above in let z1 = z.next in let z2 = z.within in
    stays g (after_node g kind c ps None prior) empty unready (length g.nodes ∷ unready) (after_grows g kind c ps None prior) d
    (start_contained g kind c ps prior empty unready b.sound.graph (omega arith) (not_empty g c p.input empty unready b.open_at.laid.input d.contains) (flows_head g p frs dr.flows) refl refl refl (typed_node g kind c ps ins (scope_region g p width ss ps b.open_at i) y) (values_graph g kind p width base frs ss ps b i) d.contains)

pub flow_contains : (old new : Region) (ins outs : Types) (ps : List Port) (n : ℕ) (handed : List Held) → IsNode old new (Cfg ins outs) ps None n handed → FlowContains old new ins ps
flow_contains old new ins outs ps n handed a = record {
  by = λ base width frs ss empty unready b dr y i d. subst (λ x. ContainsAt x empty (next_node old ∷ unready)) (sym a.graph) (flow_at old.graph base old.place width frs ss ins outs ps _ empty unready b dr y i d);
}

flow_filled : (g : Graph) (base : Base) (p : Place) (width : ℕ) (frs : List Frame) (ss : List Step) (n : ℕ) (ps : List Port) (ways : List Way) (holes : List Hole) (empty unready : List ℕ) → FillingAt g base p width frs ss n ps (Flow ways) holes → ContainsAt g empty unready → (is_dataflow_container (op_at g n) ≡ false) × (n < length g.nodes) × (In n empty → ⊥)
flow_filled g base p width frs ss n ps ways holes empty unready b d =
    let nd = ap is_dataflow_container b.halfway.filling.is in
    (nd, (filling_stands g base p width frs ss n ps (Flow ways) holes b).3, λ i. clash (is_dataflow_container (op_at g n)) (d.regions n i) nd)

block_at : (g : Graph) (n : ℕ) (ins : Types) (rows : List Types) (others : Types) (empty unready : List ℕ) → IsGraph g → (is_dataflow_container (op_at g n) ≡ false) × (n < length g.nodes) × (In n empty → ⊥) → In n unready → ContainsAt g empty unready → ContainsAt (with_node g (DataflowBlock ins rows others) n) (length g.nodes ∷ empty) unready
block_at g n ins rows others empty unready s f i d =
    let kind = DataflowBlock ins rows others in
    let h = with_node g kind n in
    let more : length h.nodes ≡ suc (length g.nodes) = count_node g kind n in
    let w = node_grows g kind n in
    record {
      contains = block_contained g n ins rows others empty unready s f.1 f.0 i f.2 d.contains;
      within = λ m j. ⊎_elim (λ e. omega arith) (λ x. let q = d.within m x in omega arith) j;
      regions = λ m j. ⊎_elim (λ e. ap (λ u. is_dataflow_container (op_at h u)) e ∙ ap is_dataflow_container (op_new g kind n)) (λ x. ap is_dataflow_container (w.ops m (d.within m x)) ∙ d.regions m x) j;
    }

pub block_contains : (old new : Region) (cfg : ℕ) (kind : Op) (n : ℕ) → IsBlock old new cfg kind n → BlockContains old new cfg kind
block_contains old new cfg kind n a = record {
  block = λ base width frs ss ps ways holes ins rows others empty unready e b i d.
      subst (λ x. ContainsAt x (next_node old ∷ empty) unready) (sym (a.graph ∙ ap (λ k. with_node old.graph k cfg) e)) (block_at old.graph cfg ins rows others empty unready b.sound.graph (flow_filled old.graph base old.place width frs ss cfg ps ways holes empty unready b d) i d);
  exit = λ base width frs ss ps ways holes types empty unready e b i d.
      let f = flow_filled old.graph base old.place width frs ss cfg ps ways holes empty unready b d in
      subst (λ x. ContainsAt x empty unready) (sym (a.graph ∙ ap (λ k. with_node old.graph k cfg) e)) (stays old.graph (with_node old.graph (ExitBlock types) cfg) empty unready unready (node_grows old.graph (ExitBlock types) cfg) d (exit_contained old.graph cfg types empty unready b.sound.graph f.1 f.0 i f.2 d.contains));
}

pub control_contains : (old new : Region) (from : Port) (to : ℕ) → IsControl old new from to → ControlContains old new from
control_contains old new from to a = record {
  by = λ empty unready s i d. subst (λ x. ContainsAt x empty unready) (sym a.graph) (stays old.graph (after_control old.graph from to) empty unready unready (links_grow old.graph _) d (control_contained old.graph from to empty unready s i d.contains));
}

-- ---- `open` and `enter`
ends_at : (g : Graph) (c : ℕ) (empty rest unready : List ℕ) → IsGraph g → TakenOff empty c rest → ContainsAt g empty unready → ContainsAt (after_ends g c (inner_ins (op_at g c)) (inner_outs (op_at g c))) rest unready
ends_at g c empty rest unready s t d =
    let w = ends_grow g c (inner_ins (op_at g c)) (inner_outs (op_at g c)) in
    record {
      contains = ends_contained g c empty rest unready s (d.within c t.here) (d.regions c t.here) t.here t.others t.apart d.contains;
      within = λ m i. let a = d.within m (t.apart m i).0 in let b = w.more in omega arith;
      regions = λ m i. let j = (t.apart m i).0 in ap is_dataflow_container (w.ops m (d.within m j)) ∙ d.regions m j;
    }

pub open_contains : (old : Graph) (c : ℕ) (ins outs : Types) (new : Region) (handed : List Held) → IsOpened old c ins outs new handed → OpenContains old c ins outs new
open_contains old c ins outs new handed a = record {
  by = λ empty rest unready s t e f d. subst (λ x. ContainsAt x rest unready) (sym (a.graph ∙ ap₂ (λ x y. after_ends old c x y) e f)) (ends_at old c empty rest unready s t d);
}

-- what is in a hole is a case or a block
abbrev pub SameInner : Op → Type 0
SameInner o = ((inner_of o).0 ≡ inner_ins o) × ((inner_of o).1 ≡ inner_outs o)

case_inner : (g : Graph) (n q k : ℕ) (holes : List Hole) (hole : Hole) → CasesAt g n q holes → slice_get holes k ≡ Some hole → SameInner (op_at g hole.node)
case_inner g n q k [] hole c e = absurd (none e)
  where
    none : slice_get [] k ≡ Some hole → ⊥
    none e = cc
case_inner g n q zero (x ∷ holes) hole c e =
    let same : x ≡ hole = cc in
    subst (λ (u : Hole). SameInner (op_at g u.node)) same (subst SameInner (sym c.0.is) (refl, refl))
case_inner g n q (suc k) (x ∷ holes) hole c e = case_inner g n (suc q) k holes hole c.1 e

block_inner : (g : Graph) (k : ℕ) (holes : List Hole) (hole : Hole) → BlocksAt g holes → slice_get holes k ≡ Some hole → SameInner (op_at g hole.node)
block_inner g k [] hole c e = absurd (none e)
  where
    none : slice_get [] k ≡ Some hole → ⊥
    none e = cc
block_inner g zero (x ∷ holes) hole c e =
    let same : x ≡ hole = cc in
    subst (λ (u : Hole). SameInner (op_at g u.node)) same (subst SameInner (sym c.0.is) (refl, refl))
block_inner g (suc k) (x ∷ holes) hole c e = block_inner g k holes hole c.1 e

hole_inner : (g : Graph) (n k : ℕ) (fill : Fill) (holes : List Hole) (hole : Hole) → FillAt g n fill holes → slice_get holes k ≡ Some hole → SameInner (op_at g hole.node)
hole_inner g n k Choice holes hole f e = case_inner g n 0 k holes hole f.cases e
hole_inner g n k (Flow ways) holes hole f e = block_inner g k holes hole f.blocks e

pub enter_contains : (old : Region) (c : ℕ) (outer : Outer) (inner : Region) (handed : List Held) → IsEntered old c outer inner handed → EnterContains old c outer inner
enter_contains old c outer inner handed a = record {
  by = λ base width frs ss ps fill holes k empty rest unready b is t d.
      let x = hole_inner old.graph outer.node k fill holes (record { node = c; act = None }) b.halfway.filling is in
      subst (λ u. ContainsAt u rest unready) (sym (a.graph ∙ ap₂ (λ u v. after_ends old.graph c u v) x.0 x.1)) (ends_at old.graph c empty rest unready b.sound.graph t d);
}

-- ---- `leave` and `finish`
close_at : (g : Graph) (base : Base) (p : Place) (width : ℕ) (frs : List Frame) (ss : List Step) (ps : List Port) (prior : Option ℕ) (n : ℕ) (empty unready : List ℕ) → BuiltAt g base p width frs ss → Typed g ps (ins_of (op_at g p.output)) → PortsIn ps (known_after (p.input ∷ []) ss) → ContainsAt g empty unready → ContainsAt (with_links g (value_links p.output 0 ps)) empty unready × ContainsAt (after_leave g p.output ps prior n) empty unready
close_at g base p width frs ss ps prior n empty unready b y i d =
    let z = stands g p width ss b.open_at in
    let vl = value_links p.output 0 ps in
    let h1 = with_links g vl in
    let s1 = graph_links g vl (values_within (length g.nodes) p.output 0 ps z.within (scope_below g p width ss ps b.open_at i)) b.sound.graph in
    let d1 = stays g h1 empty unready unready (links_grow g vl) d (links_contained g vl empty unready b.sound.graph (values_same g p.output ps _ y) d.contains) in
    (d1, stays h1 (with_links h1 (order_links prior n)) empty unready unready (links_grow h1 (order_links prior n)) d1 (links_contained h1 (order_links prior n) empty unready s1 (order_same h1 prior n) d1.contains))

pub leave_contains : (inner : Region) (outer : Outer) (ps : List Port) (new : Region) → IsLeft inner outer ps new → LeaveContains inner ps new
leave_contains inner outer ps new a = record {
  by = λ base width frs ss empty unready b y i d. subst (λ x. ContainsAt x empty unready) (sym a.graph) (close_at inner.graph base inner.place width frs ss ps _ outer.node empty unready b y i d).1;
}

pub finish_contains : (r : Region) (ps : List Port) (g : Graph) → IsFinished r ps g → FinishContains r ps g
finish_contains r ps g a = record {
  by = λ base width frs ss empty unready b y i d. subst (λ x. ContainsAt x empty unready) (sym a.graph) (close_at r.graph base r.place width frs ss ps None 0 empty unready b y i d).0;
}

-- ---- the chart of a CFG

times_append : (xs ys : List Port) (p : Port) → times (xs ++ ys) p ≡ times xs p + times ys p
times_append [] ys p = omega arith
times_append (x ∷ xs) ys p = let e = times_append xs ys p in omega arith

froms_append : (ways : List Way) (way : Way) → froms (ways ++ way ∷ []) ≡ froms ways ++ way.from ∷ []
froms_append [] way = refl
froms_append (x ∷ ways) way = ap (λ ps. x.from ∷ ps) (froms_append ways way)

abbrev pub first_of : Option Port → Option Port → Option Port
first_of None b = b
first_of (Some a) b = Some a

taker_more : (ls : List Link) (a b p : Port) → taker (ls ++ Ports a b ∷ []) p ≡ first_of (taker ls p) (cond (is_port a p) (Some b) None)
taker_more [] a b p = refl
taker_more (Order x y ∷ ls) a b p = taker_more ls a b p
taker_more (Ports x y ∷ ls) a b p = by_test (is_port x p) (taker_more ls a b p)
  where
    by_test : (t : Bool) → taker (ls ++ Ports a b ∷ []) p ≡ first_of (taker ls p) (cond (is_port a p) (Some b) None) → cond t (Some y) (taker (ls ++ Ports a b ∷ []) p) ≡ first_of (cond t (Some y) (taker ls p)) (cond (is_port a p) (Some b) None)
    by_test true e = refl
    by_test false e = e

way_more : (ways : List Way) (way : Way) (p : Port) → target_of (way_at (ways ++ way ∷ []) p) ≡ first_of (target_of (way_at ways p)) (cond (is_port way.from p) (Some (record { node = way.to; index = 0 })) None)
way_more [] way p = by_test (is_port way.from p)
  where
    by_test : (t : Bool) → target_of (cond t (Some way) None) ≡ cond t (Some (record { node = way.to; index = 0 })) None
    by_test true = refl
    by_test false = refl
way_more (x ∷ ways) way p = by_test (is_port x.from p) (way_more ways way p)
  where
    by_test : (t : Bool) → target_of (way_at (ways ++ way ∷ []) p) ≡ first_of (target_of (way_at ways p)) (cond (is_port way.from p) (Some (record { node = way.to; index = 0 })) None) → target_of (cond t (Some x) (way_at (ways ++ way ∷ []) p)) ≡ first_of (target_of (cond t (Some x) (way_at ways p))) (cond (is_port way.from p) (Some (record { node = way.to; index = 0 })) None)
    by_test true e = refl
    by_test false e = e

in_more : (kids : List ℕ) (n m : ℕ) → In m kids → In m (kids ++ n ∷ [])
in_more [] n m i = absurd i
in_more (k ∷ kids) n m (inl e) = inl e
in_more (k ∷ kids) n m (inr i) = inr (in_more kids n m i)

ways_more : (kids : List ℕ) (n : ℕ) (ways : List Way) → WaysFrom kids ways → WaysFrom (kids ++ n ∷ []) ways
ways_more kids n [] w = tt
ways_more kids n (way ∷ ways) w = (in_more kids n way.from.node w.0, ways_more kids n ways w.1)

ways_push : (kids : List ℕ) (way : Way) (ways : List Way) → In way.from.node kids → WaysFrom kids ways → WaysFrom kids (ways ++ way ∷ [])
ways_push kids way [] i w = (i, tt)
ways_push kids way (x ∷ ways) i w = (w.0, ways_push kids way ways i w.1)

-- nothing comes out of what is no node yet
no_link : (ls : List Link) (count : ℕ) (p : Port) → ((link : Link) → In link ls → LinkIsWithin count link) → count ≤ p.node → (links_from ls p ≡ 0) × (taker ls p ≡ None)
no_link [] count p h le = (refl, refl)
no_link (Order a b ∷ ls) count p h le = no_link ls count p (λ l i. h l (inr i)) le
no_link (Ports a b ∷ ls) count p h le =
    let r = no_link ls count p (λ l i. h l (inr i)) le in
    let lt = (h (Ports a b) (inl refl)).0 in
    let t = other_port a p (λ e. omega arith) in
    (skip (is_port a p) (links_from ls p) 0 t r.0, ap (λ b'. cond b' (Some b) (taker ls p)) t ∙ r.1)

no_way : (kids : List ℕ) (ways : List Way) (p : Port) → WaysFrom kids ways → ((m : ℕ) → In m kids → m ≢ p.node) → (times (froms ways) p ≡ 0) × (target_of (way_at ways p) ≡ None)
no_way kids [] p w h = (refl, refl)
no_way kids (way ∷ ways) p w h =
    let r = no_way kids ways p w.1 h in
    let t = other_port way.from p (h way.from.node w.0) in
    (skip (is_port way.from p) (times (froms ways) p) 0 t r.0, ap (λ b. target_of (cond b (Some way) (way_at ways p))) t ∙ r.1)

pub flow_charted : (old new : Region) (ins outs : Types) (ps : List Port) (node : ℕ) (handed : List Held) → IsNode old new (Cfg ins outs) ps None node handed → FlowCharted old new ins ps node
flow_charted old new ins outs ps node handed a = record {
  by = λ base width frs ss b ar i. record {
    are = subst (λ m. children new.graph m ≡ []) (sym a.number) (subst (λ x. children x (next_node old) ≡ []) (sym a.graph) (flow_first old.graph base old.place width frs ss ins outs ps b ar i));
    own = tt;
    count = λ p j. absurd j;
    takes = λ p j. absurd j;
  };
}

chart_block : (g : Graph) (kind : Op) (cfg : ℕ) (kids : List ℕ) (ways : List Way) → IsGraph g → cfg < length g.nodes → Charted g cfg kids ways → Charted (with_node g kind cfg) cfg (kids ++ length g.nodes ∷ []) ways
chart_block g kind cfg kids ways s lt c = record {
  are = children_parent g kind cfg lt ∙ ap (λ ks. ks ++ length g.nodes ∷ []) c.are;
  own = ways_more kids (length g.nodes) ways c.own;
  count = λ p i. ⊎_elim (λ j. c.count p j) (λ e. let r = fresh p e in r.0) (in_last kids (length g.nodes) p.node i);
  takes = λ p i. ⊎_elim (λ j. c.takes p j) (λ e. let r = fresh p e in r.1) (in_last kids (length g.nodes) p.node i);
}
  where
    kid_below : (m : ℕ) → In m kids → m < length g.nodes
    kid_below m i = (child_is g cfg m (subst (λ ks. In m ks) (sym c.are) i)).0

    fresh : (p : Port) → p.node ≡ length g.nodes → (links_from g.links p ≡ times (froms ways) p) × (taker g.links p ≡ target_of (way_at ways p))
    fresh p e =
        let x = no_link g.links (length g.nodes) p s.links (omega arith) in
        let y = no_way kids ways p c.own (λ m i q. let l = kid_below m i in omega arith) in
        (x.0 ∙ sym y.0, x.1 ∙ sym y.1)

pub block_charted : (old new : Region) (cfg : ℕ) (kind : Op) (n : ℕ) → IsBlock old new cfg kind n → BlockCharted old new cfg n
block_charted old new cfg kind n a = record {
  by = λ kids ways s lt c.
      subst (λ m. Charted new.graph cfg (kids ++ m ∷ []) ways) (sym a.number) (subst (λ x. Charted x cfg (kids ++ next_node old ∷ []) ways) (sym a.graph) (chart_block old.graph kind cfg kids ways s lt c));
}

chart_control : (g : Graph) (from : Port) (to cfg : ℕ) (kids : List ℕ) (ways : List Way) (leaves : Bool) → In from.node kids → Charted g cfg kids ways → Charted (after_control g from to) cfg kids (ways ++ record { from = from; to = to; leaves = leaves } ∷ [])
chart_control g from to cfg kids ways leaves i c = record {
  are = children_links g (Ports from (record { node = to; index = 0 }) ∷ []) cfg ∙ c.are;
  own = ways_push kids (record { from = from; to = to; leaves = leaves }) ways i c.own;
  count = λ p j.
      let x = from_append g.links (Ports from (record { node = to; index = 0 }) ∷ []) p in
      let y = ap (λ ps. times ps p) (froms_append ways (record { from = from; to = to; leaves = leaves })) in
      let z = times_append (froms ways) (from ∷ []) p in
      let w = c.count p j in
      omega arith;
  takes = λ p j.
      taker_more g.links from (record { node = to; index = 0 }) p
      ∙ ap (λ o. first_of o (cond (is_port from p) (Some (record { node = to; index = 0 })) None)) (c.takes p j)
      ∙ sym (way_more ways (record { from = from; to = to; leaves = leaves }) p);
}

pub control_charted : (old new : Region) (from : Port) (to : ℕ) → IsControl old new from to → ControlCharted old new from to
control_charted old new from to a = record {
  by = λ cfg kids ways leaves i c. subst (λ x. Charted x cfg kids (ways ++ record { from = from; to = to; leaves = leaves } ∷ [])) (sym a.graph) (chart_control old.graph from to cfg kids ways leaves i c);
}

pub whole_is_ready : WholeIsReady
whole_is_ready g n kids ways ins outs empty unready c w d = record {
  contains = ready_now g n empty unready
      (subst (KeepsBlocks g n) (sym w.is) (record {
        entry = w.entry;
        exit = w.exit;
        rest = w.rest;
        rows = w.rows;
        others = w.others;
        are_children = c.are ∙ w.kids_are;
        entry_is = w.entry_is;
        exit_is = w.exit_is;
        no_other = w.no_other;
      }))
      (subst (KeepsCases g n) (sym w.is) tt)
      (λ m l q. leads m (subst (λ ks. In m ks) c.are (is_child g n m l q (λ e. w.apart (ap (parent_at g) (sym e) ∙ q ∙ refl)))) (op_at g m) refl)
      d.contains;
  within = d.within;
  regions = d.regions;
}
  where
    leads : (m : ℕ) → In m kids → (kind : Op) → op_at g m ≡ kind → KeepsSuccessors g m kind
    leads m i (DataflowBlock ins' rows' others') e = λ k row r.
        let x = w.leads m ins' rows' others' i e k row r in
        let p : Port = record { node = m; index = k } in
        record {
          once = c.count p i ∙ x.once;
          target = record { node = (x.way).to; index = 0 };
          is_target = c.takes p i ∙ ap target_of x.is;
          is_block = x.block;
          fits = x.fits;
        }
    leads m i _ e = tt

pub output_is_there : OutputIsThere
output_is_there r base width frs ss empty unready b dr d =
    let g = r.graph in let p = r.place in
    let z = stands g p width ss b.open_at in
    let z0 = z.above in let z1 = z.next in let z2 = z.within in
    let x = d.contains.bounds p.container (omega arith) (flows_head g p frs dr.flows) (not_empty g p.container p.input empty unready b.open_at.laid.input d.contains) in
    let same : x.output ≡ p.output = some_same x.output p.output (ap (λ ks. slice_get ks 1) (sym x.are_children) ∙ b.open_at.laid.output) in
    ap (op_at g) (sym same) ∙ x.output_is
  where
    some_same : (m n : ℕ) → Some m ≡ Some n → m ≡ n
    some_same m n e = cc
