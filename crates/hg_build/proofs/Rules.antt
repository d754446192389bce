-- Which rules the calls of the builder keep.
use Rattle.std.proofs.Common.{◌≡◌, ◌⊎◌, inl, inr, ⊎_elim, ℕ, ℤ, zero, suc, ◌≤◌, ◌<◌, Bool, true, false, cond, List, [], ◌∷◌, ◌++◌, length, map, Option, Some, None, slice_get, refl, sym, ap, ◌∙◌, subst, arith, append-nil}
use Rattle.gp_base.specs.Membership.{In}
use Rattle.hg_ops.specs.GraphType.{sum_type}
use Rattle.hg_ops.specs.Op.{Op, Types, Module, FuncDefn, Const, Input, Output, Dfg, Cfg, DataflowBlock, ExitBlock, Conditional, Case, TailLoop, Tag, Call, CallIndirect, LoadConstant, LoadFunction, Ext, ControlPort, ins_of, output_ports, is_operation, is_dataflow_container, fires, is_effect}
use Rattle.hg_graph.specs.Graph.{Graph, Port, Ports, op_at, parent_at, children, firing_children}
use Rattle.hg_graph.specs.Valid.{may_stand_in, stands_in_region, is_module, name_of, KeepsTags, is_output, is_input}
use Rattle.hg_laws.proofs.Named.{within}
use Rattle.hg_laws.proofs.Children.{child_is, kid_is, get_in}
use Rattle.hg_build.specs.Steps.{Step, nodes_of, PortsIn, known_after, is_leaf, Grows, Hole, Way}
use Rattle.hg_build.specs.Wired.{static_links, with_node, with_links, with_cases, value_links, order_links, after_node, after_constant, after_choice, after_ends, inner_place, after_leave, after_control, effect_prior, last_after, leave_prior, leave_last, adds_order}
use Rattle.hg_build.specs.Built.{LastIn, OpenAt, Frame, Halfway, Base, Below, BuiltAt, FillingAt, Flow, Fill}
use Rattle.hg_build.specs.Drawn.{Drawn, DrawnAt, dues, Flows, Typed, Blockish}
use Rattle.hg_build.specs.declared.region.Place.{Place}
use Rattle.hg_build.proofs.Real.{grows_self}
use Rattle.hg_build.proofs.Moves.{steps_rise, grows_trans}
use Rattle.hg_build.proofs.Grow.{count_node, op_old, op_new, parent_old, parent_new, op_links, parent_links, node_grows, links_grow}
use Rattle.hg_build.proofs.Frames.{stands, rise_top, rise_get, in_end}
use Rattle.hg_build.proofs.Containers.{with_cases_more, prior_rises}
use Rattle.hg_build.proofs.Adds.{OrderFits}
use Rattle.hg_build.proofs.Joins.{with_none}
use Rattle.hg_build.proofs.Draws.{NodeFits, nameless, AllBelow, InRegion, PriorFits, after_drawn, call_drawn, load_drawn, silent_drawn, output_drawn, drawn_values, drawn_prior, drawn_constant, drawn_other, drawn_start, is_static, free_static, Beside}

-- ---- what stands in a region
stands_in : (o kind : Op) → is_dataflow_container o ≡ true → may_stand_in o kind ≡ stands_in_region kind
stands_in (FuncDefn name ins outs) kind e = refl
stands_in (Dfg ins outs) kind e = refl
stands_in (Case ins outs) kind e = refl
stands_in (DataflowBlock ins rows others) kind e = refl
stands_in (TailLoop a l r) kind e = refl
stands_in _ kind e = absurd (wrong e)
  where
    wrong : false ≡ true → ⊥
    wrong e = cc

operates : (kind : Op) → stands_in_region kind ≡ true → fires kind ≡ true → (is_operation kind ≡ true) × (is_output kind ≡ false)
operates (Const value) s f = absurd cc
operates (Output types) s f = absurd cc
operates Module s f = absurd cc
operates (FuncDefn name ins outs) s f = absurd cc
operates (DataflowBlock ins rows others) s f = absurd cc
operates (ExitBlock types) s f = absurd cc
operates (Case ins outs) s f = absurd cc
operates (Input types) s f = absurd cc
operates (Dfg ins outs) s f = (refl, refl)
operates (Cfg ins outs) s f = (refl, refl)
operates (Conditional rows ins outs) s f = (refl, refl)
operates (TailLoop a l r) s f = (refl, refl)
operates (Tag rows k) s f = (refl, refl)
operates (Call ins outs) s f = (refl, refl)
operates (CallIndirect ins outs) s f = (refl, refl)
operates (LoadFunction ins outs) s f = (refl, refl)
operates LoadConstant s f = (refl, refl)
operates (Ext x) s f = (refl, refl)

-- a child that fires is an operation
kid_operates : (g : Graph) (c l : ℕ) (due owed : List ℕ) → Drawn g due owed → is_dataflow_container (op_at g c) ≡ true → In l (firing_children g c) → (l < length g.nodes) × (parent_at g l ≡ c) × (is_operation (op_at g l) ≡ true) × (is_output (op_at g l) ≡ false)
kid_operates g c l due owed d fl i =
    let kid = kid_is g c l i in
    let child = child_is g c l kid.0 in
    let s : may_stand_in (op_at g (parent_at g l)) (op_at g l) ≡ true = d.suits l child.0 (λ e. child.2 (sym e ∙ child.1)) in
    let s' : stands_in_region (op_at g l) ≡ true = sym (stands_in (op_at g c) (op_at g l) fl) ∙ ap (λ x. may_stand_in (op_at g x) (op_at g l)) (sym child.1) ∙ s in
    let o = operates (op_at g l) s' kid.1 in
    (child.0, child.1, o.0, o.1)

prior_of : (g : Graph) (c : ℕ) (last : Option ℕ) (nodes : List ℕ) (due owed : List ℕ) → Drawn g due owed → is_dataflow_container (op_at g c) ≡ true → firing_children g c ≡ nodes → LastIn last nodes → PriorFits g c last
prior_of g c None nodes due owed d fl e i = tt
prior_of g c (Some l) nodes due owed d fl e i = kid_operates g c l due owed d fl (subst (λ xs. In l xs) (sym e) i)

prior_if : (g : Graph) (c : ℕ) (last : Option ℕ) (t : Bool) → PriorFits g c last → PriorFits g c (cond t last None)
prior_if g c last true f = f
prior_if g c last false f = tt

known_in : (known : List ℕ) (ss : List Step) (n : ℕ) → In n (known_after known ss) → In n known ⊎ In n (nodes_of ss)
known_in known [] n i = inl i
known_in known (s ∷ ss) n i = ⊎_elim (λ j. ⊎_elim (λ e. inr (inl e)) (λ k. inl k) j) (λ j. inr (inr j)) (known_in (s.node ∷ known) ss n i)

pub known_child : (g : Graph) (p : Place) (width : ℕ) (ss : List Step) (n : ℕ) → OpenAt g p width ss → In n (known_after (p.input ∷ []) ss) → (n < length g.nodes) × (parent_at g n ≡ p.container)
known_child g p width ss n y i = ⊎_elim (λ j. ⊎_elim (λ e. subst (λ m. (m < length g.nodes) × (parent_at g m ≡ p.container)) (sym e) (let c = child_is g p.container p.input (get_in (children g p.container) 0 p.input y.laid.input) in (c.0, c.1))) (λ k. absurd k) j) (λ j. let c = child_is g p.container n (kid_is g p.container n (subst (λ xs. In n xs) (sym y.laid.firing) j)).0 in (c.0, c.1)) (known_in (p.input ∷ []) ss n i)

pub scope_region : (g : Graph) (p : Place) (width : ℕ) (ss : List Step) (ps : List Port) → OpenAt g p width ss → PortsIn ps (known_after (p.input ∷ []) ss) → InRegion g p.container ps
scope_region g p width ss [] y i = tt
scope_region g p width ss (x ∷ ps) y i = let c = known_child g p width ss x.node y i.0 in (c.0, c.1, scope_region g p width ss ps y i.1)

-- ---- what is due
pub flows_head : (g : Graph) (p : Place) (frs : List Frame) → Flows g p frs → is_dataflow_container (op_at g p.container) ≡ true
flows_head g p [] f = f
flows_head g p (fr ∷ frs) f = f.0

pub outer_below : (g : Graph) (base : Base) (c i : ℕ) (fr : Frame) (frs : List Frame) → Below g base c i (fr ∷ frs) → (fr.outer.place.container < fr.outer.place.input) × (fr.outer.place.input < fr.outer.place.output) × (fr.outer.place.output < i) × (i ≤ length g.nodes)
outer_below g base c i fr frs b =
    let y = b.1 in
    let d : suc fr.outer.place.output ≤ fr.outer.node = steps_rise g (fr.outer.place.input ∷ []) (suc fr.outer.place.output) fr.outer.node fr.steps y.steps in
    let t = rise_top fr.outer.node y.top fr.holes y.rise in
    let u = y.topped in let v = y.started in
    (y.above, y.next, omega arith, v)

dues_under : (g : Graph) (base : Base) (p : Place) (frs : List Frame) → p.input < p.output → Below g base p.container p.input frs → (m : ℕ) → In m (dues p frs) → m ≤ p.output
dues_under g base p [] lt b m (inl e) = omega arith
dues_under g base p [] lt b m (inr i) = absurd i
dues_under g base p (fr ∷ frs) lt b m (inl e) = omega arith
dues_under g base p (fr ∷ frs) lt b m (inr i) =
    let o = outer_below g base p.container p.input fr frs b in
    let x = o.1 in let y = o.2 in
    let r = dues_under g base fr.outer.place frs x b.2 m i in
    omega arith

pub dues_below : (g : Graph) (base : Base) (p : Place) (width : ℕ) (frs : List Frame) (ss : List Step) → BuiltAt g base p width frs ss → AllBelow (dues p frs) (length g.nodes)
dues_below g base p width frs ss b m i =
    let z = stands g p width ss b.open_at in
    let z1 = z.next in let z2 = z.within in
    let r = dues_under g base p frs z1 b.below m i in omega arith

flows_in : (g h : Graph) (base : Base) (p : Place) (frs : List Frame) → Grows g h → p.container < length g.nodes → p.container < p.input → Below g base p.container p.input frs → Flows g p frs → Flows h p frs
flows_in g h base p [] w lt ci b f = ap is_dataflow_container (w.ops p.container lt) ∙ f
flows_in g h base p (fr ∷ frs) w lt ci b f =
    let o = outer_below g base p.container p.input fr frs b in
    let o0 = o.0 in let o1 = o.1 in let o2 = o.2 in let o3 = o.3 in
    (ap is_dataflow_container (w.ops p.container lt) ∙ f.0, flows_in g h base fr.outer.place frs w (omega arith) o0 b.2 f.1)

dues_last : (p : Place) (last : Option ℕ) (frs : List Frame) → dues (record p { last = last }) frs ≡ dues p frs
dues_last p last [] = refl
dues_last p last (fr ∷ frs) = refl

flows_last : (g : Graph) (p : Place) (last : Option ℕ) (frs : List Frame) → Flows g p frs → Flows g (record p { last = last }) frs
flows_last g p last [] f = f
flows_last g p last (fr ∷ frs) f = f

drawn_from : (g h : Graph) (base : Base) (p : Place) (last : Option ℕ) (width : ℕ) (frs : List Frame) (ss : List Step) → BuiltAt g base p width frs ss → DrawnAt g p frs → Grows g h → Drawn h (dues p frs) [] → DrawnAt h (record p { last = last }) frs
drawn_from g h base p last width frs ss b d w x =
    let z = stands g p width ss b.open_at in
    let z0 = z.above in let z1 = z.next in let z2 = z.within in
    record {
      drawn = subst (λ xs. Drawn h xs []) (sym (dues_last p last frs)) x;
      flows = flows_last h p last frs (flows_in g h base p frs w (omega arith) z0 b.below d.flows);
    }

-- ---- `op`
leaf_kind : (kind : Op) → is_leaf kind ≡ true → (is_module kind ≡ false) × (stands_in_region kind ≡ true) × (name_of kind ≡ None) × (is_static kind ≡ false) × (is_operation kind ≡ true) × (is_input kind ≡ false)
leaf_kind (Tag rows k) e = (refl, refl, refl, refl, refl, refl)
leaf_kind (Ext x) e = (refl, refl, refl, refl, refl, refl)
leaf_kind (CallIndirect ins outs) e = (refl, refl, refl, refl, refl, refl)
leaf_kind _ e = absurd (wrong e)
  where
    wrong : false ≡ true → ⊥
    wrong e = cc

region_fits : (g : Graph) (kind : Op) (c : ℕ) → c < length g.nodes → is_dataflow_container (op_at g c) ≡ true → is_module kind ≡ false → stands_in_region kind ≡ true → name_of kind ≡ None → KeepsTags kind → NodeFits g kind c
region_fits g kind c lt fl m s n t = record { parent = lt; no_module = m; suits = stands_in (op_at g c) kind fl ∙ s; fresh = nameless g kind n; tags = t }

-- any node without a static input that stands in a region
region_drawn : (g : Graph) (base : Base) (p : Place) (width : ℕ) (frs : List Frame) (ss : List Step) (kind : Op) (ps : List Port) (prior : Option ℕ) → BuiltAt g base p width frs ss → DrawnAt g p frs → is_module kind ≡ false → stands_in_region kind ≡ true → name_of kind ≡ None → is_static kind ≡ false → is_operation kind ≡ true → is_input kind ≡ false → KeepsTags kind → Typed g ps (ins_of kind) → PortsIn ps (known_after (p.input ∷ []) ss) → PriorFits g p.container prior → Drawn (after_node g kind p.container ps None prior) (dues p frs) []
region_drawn g base p width frs ss kind ps prior b d m s n st op ni t y i pf =
    let z = stands g p width ss b.open_at in
    let z0 = z.above in let z1 = z.next in let z2 = z.within in
    after_drawn g kind p.container ps prior (dues p frs) [] d.drawn (region_fits g kind p.container (omega arith) (flows_head g p frs d.flows) m s n t) (dues_below g base p width frs ss b) y (scope_region g p width ss ps b.open_at i) pf st op ni

pub after_grows : (g : Graph) (kind : Op) (c : ℕ) (ps : List Port) (source prior : Option ℕ) → Grows g (after_node g kind c ps source prior)
after_grows g kind c ps source prior =
    let n = length g.nodes in
    let g1 = with_node g kind c in
    let g2 = with_links g1 (value_links n 0 ps) in
    let g3 = with_links g2 (static_links source n (length ps)) in
    grows_trans g g1 (with_links g3 (order_links prior n)) (node_grows g kind c) (grows_trans g1 g2 (with_links g3 (order_links prior n)) (links_grow g1 (value_links n 0 ps)) (grows_trans g2 g3 (with_links g3 (order_links prior n)) (links_grow g2 (static_links source n (length ps))) (links_grow g3 (order_links prior n))))

pub op_drawn : (g : Graph) (base : Base) (p : Place) (width : ℕ) (frs : List Frame) (ss : List Step) (kind : Op) (ps : List Port) → BuiltAt g base p width frs ss → DrawnAt g p frs → is_leaf kind ≡ true → KeepsTags kind → Typed g ps (ins_of kind) → PortsIn ps (known_after (p.input ∷ []) ss) → DrawnAt (after_node g kind p.container ps None (effect_prior p.last kind)) (record p { last = last_after p.last kind (length g.nodes) }) frs
op_drawn g base p width frs ss kind ps b d is t y i =
    let k = leaf_kind kind is in
    let pf = prior_if g p.container p.last (is_effect kind) (prior_of g p.container p.last (nodes_of ss) (dues p frs) [] d.drawn (flows_head g p frs d.flows) b.open_at.laid.firing b.open_at.last) in
    drawn_from g (after_node g kind p.container ps None (effect_prior p.last kind)) base p (last_after p.last kind (length g.nodes)) width frs ss b d (after_grows g kind p.container ps None (effect_prior p.last kind)) (region_drawn g base p width frs ss kind ps (effect_prior p.last kind) b d k.0 k.1 k.2 k.3 k.4 k.5 t y i pf)

-- ---- `call`, `constant`, `cfg`
prior_region : (g : Graph) (base : Base) (p : Place) (width : ℕ) (frs : List Frame) (ss : List Step) → BuiltAt g base p width frs ss → DrawnAt g p frs → PriorFits g p.container p.last
prior_region g base p width frs ss b d = prior_of g p.container p.last (nodes_of ss) (dues p frs) [] d.drawn (flows_head g p frs d.flows) b.open_at.laid.firing b.open_at.last

pub call_kept : (g : Graph) (base : Base) (p : Place) (width : ℕ) (frs : List Frame) (ss : List Step) (f : ℕ) (name : List ℕ) (ins outs : Types) (ps : List Port) → BuiltAt g base p width frs ss → DrawnAt g p frs → f < length g.nodes → op_at g f ≡ FuncDefn name ins outs → Typed g ps ins → PortsIn ps (known_after (p.input ∷ []) ss) → DrawnAt (after_node g (Call ins outs) p.container ps (Some f) p.last) (record p { last = Some (length g.nodes) }) frs
call_kept g base p width frs ss f name ins outs ps b d lf fn y i =
    let z = stands g p width ss b.open_at in
    let z0 = z.above in let z1 = z.next in let z2 = z.within in
    let kind = Call ins outs in
    drawn_from g (after_node g kind p.container ps (Some f) p.last) base p (Some (length g.nodes)) width frs ss b d (after_grows g kind p.container ps (Some f) p.last)
    (call_drawn g f p.container name ins outs ps p.last (dues p frs) [] d.drawn (region_fits g kind p.container (omega arith) (flows_head g p frs d.flows) refl refl refl tt) (dues_below g base p width frs ss b) (λ m x. absurd x) y (scope_region g p width ss ps b.open_at i) (prior_region g base p width frs ss b d) lf fn)

pub load_kept : (g : Graph) (base : Base) (p : Place) (width : ℕ) (frs : List Frame) (ss : List Step) (f : ℕ) (name : List ℕ) (ins outs : Types) → BuiltAt g base p width frs ss → DrawnAt g p frs → op_at g f ≡ FuncDefn name ins outs → DrawnAt (after_node g (LoadFunction ins outs) p.container [] (Some f) None) p frs
load_kept g base p width frs ss f name ins outs b d fn =
    let z = stands g p width ss b.open_at in
    let z0 = z.above in let z1 = z.next in let z2 = z.within in
    let kind = LoadFunction ins outs in
    drawn_from g (after_node g kind p.container [] (Some f) None) base p p.last width frs ss b d (after_grows g kind p.container [] (Some f) None)
    (load_drawn g f p.container name ins outs (dues p frs) [] d.drawn (region_fits g kind p.container (omega arith) (flows_head g p frs d.flows) refl refl refl tt) (dues_below g base p width frs ss b) (λ m x. absurd x) (within g f name ins outs fn) fn)

pub constant_kept : (g : Graph) (base : Base) (p : Place) (width : ℕ) (frs : List Frame) (ss : List Step) (value : ℤ) → BuiltAt g base p width frs ss → DrawnAt g p frs → DrawnAt (after_constant g value p.container) p frs
constant_kept g base p width frs ss value b d =
    let z = stands g p width ss b.open_at in
    let z0 = z.above in let z1 = z.next in let z2 = z.within in
    let n = length g.nodes in
    let c = p.container in
    let fl = flows_head g p frs d.flows in
    let below = dues_below g base p width frs ss b in
    let g1 = with_node g (Const value) c in
    let m1 : length g1.nodes ≡ suc n = count_node g (Const value) c in
    let d1 : Drawn g1 (dues p frs) [] = silent_drawn g (Const value) c (dues p frs) [] d.drawn (region_fits g (Const value) c (omega arith) fl refl refl refl tt) below refl refl in
    let fl1 : is_dataflow_container (op_at g1 c) ≡ true = ap is_dataflow_container (op_old g (Const value) c c (omega arith)) ∙ fl in
    let n1 = length g1.nodes in
    let g2 = with_node g1 LoadConstant c in
    let m2 : length g2.nodes ≡ suc n1 = count_node g1 LoadConstant c in
    let d2 : Drawn (with_links g2 (value_links n1 0 [])) (dues p frs) (n1 ∷ []) = drawn_start g1 LoadConstant c [] (dues p frs) [] d1 (region_fits g1 LoadConstant c (omega arith) fl1 refl refl refl tt) (λ m i. let x = below m i in omega arith) tt tt in
    let g3 = with_links g2 [] in
    let at : op_at g3 n1 ≡ LoadConstant = op_links g2 [] n1 ∙ op_new g1 LoadConstant c in
    let fn : op_at g3 n ≡ Const value = op_links g2 [] n ∙ op_old g1 LoadConstant c n (omega arith) ∙ op_new g (Const value) c in
    let par : parent_at g3 n ≡ parent_at g3 n1 = parent_links g2 [] n ∙ parent_old g1 LoadConstant c n (omega arith) ∙ parent_new g (Const value) c ∙ sym (parent_links g2 [] n1 ∙ parent_new g1 LoadConstant c) in
    let d3 = drawn_constant g3 n n1 value (dues p frs) [] d2 (omega arith) (omega arith) (λ x. x) at fn par in
    let h = after_constant g value c in
    let w : Grows g h = grows_trans g g1 h (node_grows g (Const value) c) (after_grows g1 LoadConstant c [] (Some n) None) in
    record {
      drawn = subst (λ x. Drawn x (dues p frs) []) (sym (with_none (with_links g3 (static_links (Some n) n1 0)))) d3;
      flows = flows_in g h base p frs w (omega arith) z0 b.below d.flows;
    }

pub cfg_kept : (g : Graph) (base : Base) (p : Place) (width : ℕ) (frs : List Frame) (ss : List Step) (ins outs : Types) (ps : List Port) → BuiltAt g base p width frs ss → DrawnAt g p frs → Typed g ps ins → PortsIn ps (known_after (p.input ∷ []) ss) → DrawnAt (after_node g (Cfg ins outs) p.container ps None p.last) (record p { last = Some (length g.nodes) }) frs
cfg_kept g base p width frs ss ins outs ps b d y i =
    let kind = Cfg ins outs in
    drawn_from g (after_node g kind p.container ps None p.last) base p (Some (length g.nodes)) width frs ss b d (after_grows g kind p.container ps None p.last)
    (region_drawn g base p width frs ss kind ps p.last b d refl refl refl refl refl refl tt y i (prior_region g base p width frs ss b d))

-- ---- `conditional`
cases_drawn : (n : ℕ) (all rows : List Types) (cin cout ins outs : Types) (g : Graph) (due owed : List ℕ) → n < length g.nodes → op_at g n ≡ Conditional all cin cout → AllBelow due (length g.nodes) → Drawn g due owed → Drawn (with_cases g n rows ins outs) due owed
cases_drawn n all [] cin cout ins outs g due owed lt at b d = subst (λ x. Drawn x due owed) (ap (λ x. record g { nodes = x }) (sym (append-nil g.nodes))) d
cases_drawn n all (row ∷ rows) cin cout ins outs g due owed lt at b d =
    let kind = Case (row ++ ins) outs in
    let g1 = with_node g kind n in
    let more : length g1.nodes ≡ suc (length g.nodes) = count_node g kind n in
    let fits : NodeFits g kind n = record { parent = lt; no_module = refl; suits = ap (λ o. may_stand_in o kind) at; fresh = nameless g kind refl; tags = tt } in
    subst (λ h. Drawn h due owed) (sym (with_cases_more g n row rows ins outs)) (cases_drawn n all rows cin cout ins outs g1 due owed (omega arith) (op_old g kind n n lt ∙ at) (λ m i. let x = b m i in omega arith) (silent_drawn g kind n due owed d fits b refl refl))

pub cases_grow : (n : ℕ) (rows : List Types) (ins outs : Types) (g : Graph) → Grows g (with_cases g n rows ins outs)
cases_grow n [] ins outs g = subst (λ h. Grows g h) (ap (λ x. record g { nodes = x }) (sym (append-nil g.nodes))) (grows_self g)
cases_grow n (row ∷ rows) ins outs g =
    let g1 = with_node g (Case (row ++ ins) outs) n in
    subst (λ h. Grows g h) (sym (with_cases_more g n row rows ins outs)) (grows_trans g g1 (with_cases g1 n rows ins outs) (node_grows g (Case (row ++ ins) outs) n) (cases_grow n rows ins outs g1))

pub choice_kept : (g : Graph) (base : Base) (p : Place) (width : ℕ) (frs : List Frame) (ss : List Step) (rows : List Types) (ins outs : Types) (ps : List Port) → BuiltAt g base p width frs ss → DrawnAt g p frs → 0 < length rows → Typed g ps (sum_type rows ∷ ins) → PortsIn ps (known_after (p.input ∷ []) ss) → DrawnAt (after_choice g rows ins outs p.container ps) p frs
choice_kept g base p width frs ss rows ins outs ps b d some y i =
    let kind = Conditional rows ins outs in
    let n = length g.nodes in
    let h1 = after_node g kind p.container ps None None in
    let more : length h1.nodes ≡ suc n = count_node g kind p.container in
    let g1 = with_node g kind p.container in
    let g2 = with_links g1 (value_links n 0 ps) in
    let at : op_at h1 n ≡ kind = op_links (with_links g2 []) [] n ∙ op_links g2 [] n ∙ op_links g1 (value_links n 0 ps) n ∙ op_new g kind p.container in
    let h = after_choice g rows ins outs p.container ps in
    let w : Grows g h = grows_trans g h1 h (after_grows g kind p.container ps None None) (cases_grow n rows ins outs h1) in
    drawn_from g h base p p.last width frs ss b d w
    (cases_drawn n rows rows ins outs ins outs h1 (dues p frs) [] (omega arith) at (λ m j. let x = dues_below g base p width frs ss b m j in omega arith) (region_drawn g base p width frs ss kind ps None b d refl refl refl refl refl refl some y i tt))

-- ---- `open` and `enter`: a container that may have Input and Output
ends_drawn : (g : Graph) (c : ℕ) (ins outs : Types) (due : List ℕ) → Drawn g due [] → c < length g.nodes → is_dataflow_container (op_at g c) ≡ true → AllBelow due (length g.nodes) → Drawn (after_ends g c ins outs) (suc (length g.nodes) ∷ due) []
ends_drawn g c ins outs due d lt fl b =
    let g1 = with_node g (Input ins) c in
    let more : length g1.nodes ≡ suc (length g.nodes) = count_node g (Input ins) c in
    let d1 : Drawn g1 due [] = silent_drawn g (Input ins) c due [] d (region_fits g (Input ins) c lt fl refl refl refl tt) b refl refl in
    let fl1 : is_dataflow_container (op_at g1 c) ≡ true = ap is_dataflow_container (op_old g (Input ins) c c lt) ∙ fl in
    subst (λ m. Drawn (after_ends g c ins outs) (m ∷ due) []) more (output_drawn g1 outs c due [] d1 (region_fits g1 (Output outs) c (omega arith) fl1 refl refl refl tt))

pub ends_grow : (g : Graph) (c : ℕ) (ins outs : Types) → Grows g (after_ends g c ins outs)
ends_grow g c ins outs = grows_trans g (with_node g (Input ins) c) (after_ends g c ins outs) (node_grows g (Input ins) c) (node_grows (with_node g (Input ins) c) (Output outs) c)

pub open_kept : (g : Graph) (c : ℕ) (ins outs : Types) → Drawn g [] [] → c < length g.nodes → is_dataflow_container (op_at g c) ≡ true → DrawnAt (after_ends g c ins outs) (inner_place g c) []
open_kept g c ins outs d lt fl = record {
  drawn = ends_drawn g c ins outs [] d lt fl (λ m i. absurd i);
  flows = ap is_dataflow_container ((ends_grow g c ins outs).ops c lt) ∙ fl;
}

-- ---- `leave` and `finish`: the links into an Output
output_fed : (g : Graph) (base : Base) (p : Place) (width : ℕ) (frs : List Frame) (ss : List Step) (ps : List Port) (due : List ℕ) → BuiltAt g base p width frs ss → Drawn g (p.output ∷ due) [] → (In p.output due → ⊥) → Typed g ps (ins_of (op_at g p.output)) → is_output (op_at g p.output) ≡ true → PortsIn ps (known_after (p.input ∷ []) ss) → Drawn (with_links g (value_links p.output 0 ps)) due []
output_fed g base p width frs ss ps due b d nin y out i =
    let z = stands g p width ss b.open_at in
    let o = child_is g p.container p.output (get_in (children g p.container) 1 p.output b.open_at.laid.output) in
    drawn_values g p.output ps due [] d z.within nin y (beside ps (scope_region g p width ss ps b.open_at i) o.1)
  where
    beside : (ps : List Port) → InRegion g p.container ps → parent_at g p.output ≡ p.container → Beside g p.output ps
    beside [] r e = tt
    beside (x ∷ ps) r e = (r.0, r.1 ∙ sym e, inr out, beside ps r.2 e)

pub finish_kept : (g : Graph) (base : Base) (p : Place) (width : ℕ) (ss : List Step) (ps : List Port) → BuiltAt g base p width [] ss → DrawnAt g p [] → Typed g ps (ins_of (op_at g p.output)) → is_output (op_at g p.output) ≡ true → PortsIn ps (known_after (p.input ∷ []) ss) → Drawn (with_links g (value_links p.output 0 ps)) [] []
finish_kept g base p width ss ps b d y out i = output_fed g base p width [] ss ps [] b d.drawn (λ x. x) y out i

pub enter_kept : (g : Graph) (base : Base) (p : Place) (width n : ℕ) (frs : List Frame) (fr : Frame) (c : ℕ) (ins outs : Types) → fr.outer.place ≡ p → Drawn g (dues p frs) [] → Flows g p frs → AllBelow (dues p frs) (length g.nodes) → c < length g.nodes → is_dataflow_container (op_at g c) ≡ true → Flows (after_ends g c ins outs) p frs → DrawnAt (after_ends g c ins outs) (inner_place g c) (fr ∷ frs)
enter_kept g base p width n frs fr c ins outs e d f b lt fl fl' = record {
  drawn = subst (λ x. Drawn (after_ends g c ins outs) (suc (length g.nodes) ∷ dues x frs) []) (sym e) (ends_drawn g c ins outs (dues p frs) d lt fl b);
  flows = (ap is_dataflow_container ((ends_grow g c ins outs).ops c lt) ∙ fl, subst (λ x. Flows (after_ends g c ins outs) x frs) (sym e) fl');
}

-- the effect node before a Conditional is before it
prior_before : (g : Graph) (e start : ℕ) (fr : Frame) (inner : Option ℕ) (l : ℕ) → Halfway g e start fr → leave_prior fr.outer inner ≡ Some l → l < fr.outer.node
prior_before g e start fr inner l y q = by_prior (leave_prior fr.outer inner) q (prior_rises g e start fr inner y)
  where
    by_prior : (o : Option ℕ) → o ≡ Some l → OrderFits g o fr.outer.node → l < fr.outer.node
    by_prior None q f = absurd cc
    by_prior (Some k) q f = let x : k ≡ l = cc in let y = f.rises in omega arith

pub leave_kept : (g : Graph) (base : Base) (p : Place) (width : ℕ) (fr : Frame) (frs : List Frame) (ss : List Step) (ps : List Port) → BuiltAt g base p width (fr ∷ frs) ss → DrawnAt g p (fr ∷ frs) → Typed g ps (ins_of (op_at g p.output)) → is_output (op_at g p.output) ≡ true → PortsIn ps (known_after (p.input ∷ []) ss) → DrawnAt (after_leave g p.output ps (leave_prior fr.outer p.last) fr.outer.node) (record fr.outer.place { last = leave_last fr.outer p.last }) frs
leave_kept g base p width fr frs ss ps b d y out i =
    let z = stands g p width ss b.open_at in
    let z0 = z.above in let z1 = z.next in let z2 = z.within in
    let q = fr.outer.place in
    let half = b.below.1 in
    let o = outer_below g base p.container p.input fr frs b.below in
    let o0 = o.0 in let o1 = o.1 in let o2 = o.2 in
    let n = fr.outer.node in
    let vl = value_links p.output 0 ps in
    let h1 = with_links g vl in
    let prior = leave_prior fr.outer p.last in
    let t = rise_top n half.top fr.holes half.rise in
    let tp = half.topped in let st = half.started in
    let d1 : Drawn h1 (dues q frs) [] = output_fed g base p width (fr ∷ frs) ss ps (dues q frs) b d.drawn (λ j. let r = dues_under g base q frs o1 b.below.2 p.output j in omega arith) y out i in
    let nn : In n (firing_children g q.container) = subst (λ xs. In n xs) (sym half.firing) (in_end (nodes_of fr.steps) n) in
    let fl : is_dataflow_container (op_at g q.container) ≡ true = flows_head g q frs d.flows.1 in
    let ok = kid_operates g q.container n (dues p (fr ∷ frs)) [] d.drawn fl nn in
    let h = with_links h1 (order_links prior n) in
    let w : Grows g h = grows_trans g h1 h (links_grow g vl) (links_grow h1 (order_links prior n)) in
    let x = op_links g vl n in
    let d2 : Drawn h (dues q frs) [] = drawn_prior h1 prior n q.container (dues q frs) [] d1 ok.0 (before half) (by_adds (adds_order fr.outer p.last) (prior_of g q.container q.last (nodes_of fr.steps ++ n ∷ []) (dues p (fr ∷ frs)) [] d.drawn fl half.firing half.last)) (parent_links g vl n ∙ ok.1) (ap is_operation x ∙ ok.2) (ap is_input x ∙ no_input (op_at g n) (kid_is g q.container n nn).1) in
    record {
      drawn = subst (λ xs. Drawn h xs []) (sym (dues_last q (leave_last fr.outer p.last) frs)) d2;
      flows = flows_last h q (leave_last fr.outer p.last) frs (flows_in g h base q frs w (omega arith) o0 b.below.2 d.flows.1);
    }
  where
    no_input : (kind : Op) → fires kind ≡ true → is_input kind ≡ false
    no_input (Input types) e = absurd cc
    no_input Module e = refl
    no_input (FuncDefn name ins outs) e = refl
    no_input (Const v) e = refl
    no_input (Output types) e = refl
    no_input (Dfg ins outs) e = refl
    no_input (Cfg ins outs) e = refl
    no_input (DataflowBlock ins rows others) e = refl
    no_input (ExitBlock types) e = refl
    no_input (Conditional rows ins outs) e = refl
    no_input (Case ins outs) e = refl
    no_input (TailLoop a l r) e = refl
    no_input (Tag rows k) e = refl
    no_input (Call ins outs) e = refl
    no_input (CallIndirect ins outs) e = refl
    no_input (LoadFunction ins outs) e = refl
    no_input LoadConstant e = refl
    no_input (Ext x) e = refl

    before : Halfway g p.container p.input fr → (l : ℕ) → leave_prior fr.outer p.last ≡ Some l → l < fr.outer.node
    before half l e = (prior_before g p.container p.input fr p.last l half e)

    fits_links : (last : Option ℕ) → PriorFits g fr.outer.place.container last → PriorFits (with_links g (value_links p.output 0 ps)) fr.outer.place.container last
    fits_links None f = tt
    fits_links (Some l) f = let vl = value_links p.output 0 ps in (f.0, parent_links g vl l ∙ f.1, ap is_operation (op_links g vl l) ∙ f.2, ap is_output (op_links g vl l) ∙ f.3)

    by_adds : (t : Bool) → PriorFits g fr.outer.place.container fr.outer.place.last → PriorFits (with_links g (value_links p.output 0 ps)) fr.outer.place.container (cond t fr.outer.place.last None)
    by_adds true f = fits_links fr.outer.place.last f
    by_adds false f = tt

-- ---- `block` and `control`
pub block_kept : (g : Graph) (n : ℕ) (ins : Types) (rows : List Types) (others cin cout : Types) (due : List ℕ) → Drawn g due [] → n < length g.nodes → op_at g n ≡ Cfg cin cout → AllBelow due (length g.nodes) → 0 < length rows → Drawn (with_node g (DataflowBlock ins rows others) n) due []
block_kept g n ins rows others cin cout due d lt at b some = silent_drawn g (DataflowBlock ins rows others) n due [] d (record { parent = lt; no_module = refl; suits = ap (λ o. may_stand_in o (DataflowBlock ins rows others)) at; fresh = nameless g (DataflowBlock ins rows others) refl; tags = some }) b refl refl

pub exit_kept : (g : Graph) (n : ℕ) (types cin cout : Types) (due : List ℕ) → Drawn g due [] → n < length g.nodes → op_at g n ≡ Cfg cin cout → AllBelow due (length g.nodes) → Drawn (with_node g (ExitBlock types) n) due []
exit_kept g n types cin cout due d lt at b = silent_drawn g (ExitBlock types) n due [] d (record { parent = lt; no_module = refl; suits = ap (λ o. may_stand_in o (ExitBlock types)) at; fresh = nameless g (ExitBlock types) refl; tags = tt }) b refl refl

control_get : (rows : List Types) (k : ℕ) → k < length rows → slice_get (map (λ row. ControlPort) rows) k ≡ Some ControlPort
control_get [] k lt = absurd (omega arith)
control_get (row ∷ rows) zero lt = refl
control_get (row ∷ rows) (suc k) lt = control_get rows k (omega arith)

pub block_is : (ins : Types) (rows : List Types) (others : Types) → Blockish (DataflowBlock ins rows others)
block_is ins rows others = record { no_ins = refl; control = refl; free = refl }

pub exit_is : (types : Types) → Blockish (ExitBlock types)
exit_is types = record { no_ins = refl; control = refl; free = refl }

pub control_kept : (g : Graph) (from : Port) (to : ℕ) (ins : Types) (rows : List Types) (others : Types) (due : List ℕ) → Drawn g due [] → from.node < length g.nodes → to < length g.nodes → op_at g from.node ≡ DataflowBlock ins rows others → from.index < length rows → Blockish (op_at g to) → parent_at g from.node ≡ parent_at g to → Drawn (after_control g from to) due []
control_kept g from to ins rows others due d fl tl at lt bl par = drawn_other g from to 0 due [] [] d (record {
  node = tl;
  source = fl;
  past = let z = ap length bl.no_ins in omega arith;
  joins = record { kind = ControlPort; output = ap (λ o. slice_get (output_ports o) from.index) at ∙ control_get rows from.index lt; input = bl.control };
  local = λ loc. par;
  statics = λ o. free_static (after_control g from to) to (op_at g to) bl.free;
  unowed = λ i. absurd i;
  owed_in = λ m ne i. i;
  owed_out = λ m ne i. i;
})

-- ---- while a node waits to be filled
pub filling_stands : (g : Graph) (base : Base) (p : Place) (width : ℕ) (frs : List Frame) (ss : List Step) (n : ℕ) (ps : List Port) (fill : Fill) (holes : List Hole) → FillingAt g base p width frs ss n ps fill holes → (p.container < p.input) × (p.input < p.output) × (p.output < n) × (n < length g.nodes)
filling_stands g base p width frs ss n ps fill holes b =
    let y = b.halfway in
    let a = y.above in let c = y.next in
    let d : suc p.output ≤ n = steps_rise g (p.input ∷ []) (suc p.output) n ss y.steps in
    let t = rise_top n y.top holes y.rise in
    let u = y.topped in
    (a, c, omega arith, omega arith)

pub filling_dues : (g : Graph) (base : Base) (p : Place) (width : ℕ) (frs : List Frame) (ss : List Step) (n : ℕ) (ps : List Port) (fill : Fill) (holes : List Hole) → FillingAt g base p width frs ss n ps fill holes → AllBelow (dues p frs) (length g.nodes)
filling_dues g base p width frs ss n ps fill holes b m i =
    let z = filling_stands g base p width frs ss n ps fill holes b in
    let z1 = z.1 in let z2 = z.2 in let z3 = z.3 in
    let r = dues_under g base p frs z1 b.below m i in omega arith

pub filling_flows : (g h : Graph) (base : Base) (p : Place) (width : ℕ) (frs : List Frame) (ss : List Step) (n : ℕ) (ps : List Port) (fill : Fill) (holes : List Hole) → FillingAt g base p width frs ss n ps fill holes → Grows g h → Flows g p frs → Flows h p frs
filling_flows g h base p width frs ss n ps fill holes b w f =
    let z = filling_stands g base p width frs ss n ps fill holes b in
    let z0 = z.0 in let z1 = z.1 in let z2 = z.2 in let z3 = z.3 in
    flows_in g h base p frs w (omega arith) z0 b.below f

pub enter_drawn : (g : Graph) (base : Base) (p : Place) (width : ℕ) (frs : List Frame) (ss : List Step) (n : ℕ) (ps : List Port) (fill : Fill) (holes : List Hole) (k c : ℕ) (ins outs : Types) (fr : Frame) → FillingAt g base p width frs ss n ps fill holes → slice_get holes k ≡ Some (record { node = c; act = None }) → DrawnAt g p frs → is_dataflow_container (op_at g c) ≡ true → fr.outer.place ≡ p → DrawnAt (after_ends g c ins outs) (inner_place g c) (fr ∷ frs)
enter_drawn g base p width frs ss n ps fill holes k c ins outs fr b is d fl e =
    let y = b.halfway in
    let at = rise_get n y.top k holes (record { node = c; act = None }) y.rise is in
    let at1 = at.1 in let u = y.topped in
    enter_kept g base p width n frs fr c ins outs e d.drawn d.flows (filling_dues g base p width frs ss n ps fill holes b) (omega arith) fl (filling_flows g (after_ends g c ins outs) base p width frs ss n ps fill holes b (ends_grow g c ins outs) d.flows)

pub block_drawn : (g : Graph) (base : Base) (p : Place) (width : ℕ) (frs : List Frame) (ss : List Step) (n : ℕ) (ps : List Port) (ways : List Way) (holes : List Hole) (ins : Types) (rows : List Types) (others : Types) → FillingAt g base p width frs ss n ps (Flow ways) holes → DrawnAt g p frs → 0 < length rows → DrawnAt (with_node g (DataflowBlock ins rows others) n) p frs
block_drawn g base p width frs ss n ps ways holes ins rows others b d some =
    let f = b.halfway.filling in
    record {
      drawn = block_kept g n ins rows others f.ins f.outs (dues p frs) d.drawn (filling_stands g base p width frs ss n ps (Flow ways) holes b).3 f.is (filling_dues g base p width frs ss n ps (Flow ways) holes b) some;
      flows = filling_flows g (with_node g (DataflowBlock ins rows others) n) base p width frs ss n ps (Flow ways) holes b (node_grows g (DataflowBlock ins rows others) n) d.flows;
    }

pub exit_drawn : (g : Graph) (base : Base) (p : Place) (width : ℕ) (frs : List Frame) (ss : List Step) (n : ℕ) (ps : List Port) (ways : List Way) (holes : List Hole) (types : Types) → FillingAt g base p width frs ss n ps (Flow ways) holes → DrawnAt g p frs → DrawnAt (with_node g (ExitBlock types) n) p frs
exit_drawn g base p width frs ss n ps ways holes types b d =
    let f = b.halfway.filling in
    record {
      drawn = exit_kept g n types f.ins f.outs (dues p frs) d.drawn (filling_stands g base p width frs ss n ps (Flow ways) holes b).3 f.is (filling_dues g base p width frs ss n ps (Flow ways) holes b);
      flows = filling_flows g (with_node g (ExitBlock types) n) base p width frs ss n ps (Flow ways) holes b (node_grows g (ExitBlock types) n) d.flows;
    }

pub control_drawn : (g : Graph) (base : Base) (p : Place) (width : ℕ) (frs : List Frame) (ss : List Step) (n : ℕ) (ps : List Port) (ways : List Way) (holes : List Hole) (from : Port) (to : ℕ) (ins : Types) (rows : List Types) (others : Types) → FillingAt g base p width frs ss n ps (Flow ways) holes → DrawnAt g p frs → from.node < length g.nodes → to < length g.nodes → op_at g from.node ≡ DataflowBlock ins rows others → from.index < length rows → Blockish (op_at g to) → parent_at g from.node ≡ parent_at g to → DrawnAt (after_control g from to) p frs
control_drawn g base p width frs ss n ps ways holes from to ins rows others b d fl tl at lt bl par = record {
  drawn = control_kept g from to ins rows others (dues p frs) d.drawn fl tl at lt bl par;
  flows = filling_flows g (after_control g from to) base p width frs ss n ps (Flow ways) holes b (links_grow g (Ports from (record { node = to; index = 0 }) ∷ [])) d.flows;
}
