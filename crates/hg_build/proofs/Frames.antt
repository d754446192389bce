-- What stays of a region and of those that wait round it, and what one more step makes of them.
use Rattle.std.proofs.Common.{◌≡◌, ◌≢◌, ◌⊎◌, inl, inr, ⊎_elim, ℕ, ℤ, zero, suc, ◌≤◌, ◌<◌, Bool, true, false, cond, List, [], ◌∷◌, ◌++◌, length, Option, Some, None, slice_get, refl, sym, ap, ◌∙◌, subst, arith, le_refl, append-nil}
use Rattle.gp_base.specs.Membership.{In}
use Rattle.hg_ops.specs.Op.{Op, Types, Tag, Ext, Const, LoadConstant, LoadFunction, FuncDefn, Call, CallIndirect, ins_of, fires, is_effect}
use Rattle.hg_graph.specs.Graph.{Graph, Port, op_at, firing_children, feeder}
use Rattle.hg_laws.proofs.Children.{child_is, kid_is}
use Rattle.hg_build.specs.Steps.{Act, Calls, Step, nodes_of, Grows, FiresAs, PortsIn, StepAt, StepsAt, known_after, Hole, Way, HolesDo, HoleDoes, CasesAt, BlocksAt, EndsAt, IsWayAt, WaysAt, is_plain, plain_act, constant_act, call_act, function_act, indirect_act, Finds}
use Rattle.hg_build.specs.Wired.{with_node, after_node, effect_prior, last_after, after_constant}
use Rattle.hg_build.specs.Built.{LastIn, OpenAt, Fill, Choice, Flow, EntryAt, FillAt, HolesRise, Frame, Halfway, Base, FunctionsAt, Below, BuiltAt}
use Rattle.hg_build.specs.declared.region.Place.{Place}
use Rattle.hg_build.proofs.Real.{above_at}
use Rattle.hg_build.proofs.Moves.{steps_rise, steps_in, steps_push, steps_longer, fed_in, region_in}
use Rattle.hg_build.proofs.Fires.{plain_node, constant_node, call_node, load_node, indirect_node, finds_in}
use Rattle.hg_laws.proofs.Named.{within}
use Rattle.hg_build.proofs.Grow.{Grown, Off, part_grown, node_grown, count_node, firing_parent, op_new}
use Rattle.hg_build.proofs.Adds.{NodeAdded, node_added, PortsBelow, SourceBelow, PriorIn, sound_node}

pub steps_grown : (n p : ℕ) (g h : Graph) → Grown n p g h → (known : List ℕ) (at end : ℕ) (ss : List Step) → end ≤ n → Off at end p → StepsAt g known at ss end → StepsAt h known at ss end
steps_grown n p g h w known at end ss le o st = steps_in g h known at end ss (part_grown n p at end g h w le o) st

-- ---- holes
pub rise_top : (n top : ℕ) (holes : List Hole) → HolesRise n top holes → n < top
rise_top n top [] r = r
rise_top n top (hole ∷ holes) r = let a = r.0 in let b = rise_top hole.node top holes r.1 in omega arith

pub rise_get : (n top k : ℕ) (holes : List Hole) (hole : Hole) → HolesRise n top holes → slice_get holes k ≡ Some hole → (n < hole.node) × (hole.node < top)
rise_get n top k [] hole r e = absurd cc
rise_get n top zero (x ∷ holes) hole r e =
    let q : x.node ≡ hole.node = the_node x hole e in
    let a = r.0 in let b = rise_top x.node top holes r.1 in (omega arith, omega arith)
  where
    the_node : (x y : Hole) → Some x ≡ Some y → x.node ≡ y.node
    the_node x y e = cc
rise_get n top (suc k) (x ∷ holes) hole r e = let a = r.0 in let b = rise_get x.node top k holes hole r.1 e in let b0 = b.0 in let b1 = b.1 in (omega arith, b1)

cases_in : (g h : Graph) (m n k top : ℕ) (holes : List Hole) → Grows g h → HolesRise m top holes → top ≤ length g.nodes → CasesAt g n k holes → CasesAt h n k holes
cases_in g h m n k top [] w r le c = tt
cases_in g h m n k top (hole ∷ holes) w r le c =
    let a = rise_top hole.node top holes r.1 in
    (record { child = w.kids n k hole.node c.0.child; ins = c.0.ins; outs = c.0.outs; is = w.ops hole.node (omega arith) ∙ c.0.is }, cases_in g h hole.node n (suc k) top holes w r.1 le c.1)

blocks_in : (g h : Graph) (m top : ℕ) (holes : List Hole) → Grows g h → HolesRise m top holes → top ≤ length g.nodes → BlocksAt g holes → BlocksAt h holes
blocks_in g h m top [] w r le c = tt
blocks_in g h m top (hole ∷ holes) w r le c =
    let a = rise_top hole.node top holes r.1 in
    (record { ins = c.0.ins; rows = c.0.rows; others = c.0.others; is = w.ops hole.node (omega arith) ∙ c.0.is }, blocks_in g h hole.node top holes w r.1 le c.1)

ends_in : (g h : Graph) (m : ℕ) (leaves : Bool) → Grows g h → m < length g.nodes → EndsAt g leaves m → EndsAt h leaves m
ends_in g h m true w lt e = record { types = e.types; is = w.ops m lt ∙ e.is }
ends_in g h m false w lt e = record { ins = e.ins; rows = e.rows; others = e.others; is = w.ops m lt ∙ e.is }

pub way_in : (g h : Graph) (way : Way) → Grows g h → IsWayAt g way → IsWayAt h way
way_in g h way w x =
    let a = x.within in let b = w.more in
    record { target = x.target; takes = w.takers way.from x.target x.takes; node = x.node; within = omega arith; ends = ends_in g h way.to way.leaves w a x.ends }

pub ways_in : (g h : Graph) (ways : List Way) → Grows g h → WaysAt g ways → WaysAt h ways
ways_in g h [] w x = tt
ways_in g h (way ∷ ways) w x = (way_in g h way w x.0, ways_in g h ways w x.1)

entry_in : (g h : Graph) (n : ℕ) (holes : List Hole) → Grows g h → EntryAt g n holes → EntryAt h n holes
entry_in g h n [] w e = tt
entry_in g h n (hole ∷ holes) w e = w.kids n 0 hole.node e

pub functions_in : (g h : Graph) (m top : ℕ) (holes : List Hole) → Grows g h → HolesRise m top holes → top ≤ length g.nodes → FunctionsAt g holes → FunctionsAt h holes
functions_in g h m top [] w r le c = tt
functions_in g h m top (hole ∷ holes) w r le c =
    let a = rise_top hole.node top holes r.1 in
    (record { name = c.0.name; ins = c.0.ins; outs = c.0.outs; is = w.ops hole.node (omega arith) ∙ c.0.is }, functions_in g h hole.node top holes w r.1 le c.1)

pub fill_in : (g h : Graph) (n top : ℕ) (fill : Fill) (holes : List Hole) → Grows g h → HolesRise n top holes → top ≤ length g.nodes → FillAt g n fill holes → FillAt h n fill holes
fill_in g h n top Choice holes w r le f =
    let a = rise_top n top holes r in
    record { rows = f.rows; ins = f.ins; outs = f.outs; is = w.ops n (omega arith) ∙ f.is; cases = cases_in g h n n 0 top holes w r le f.cases }
fill_in g h n top (Flow ways) holes w r le f =
    let a = rise_top n top holes r in
    record { ins = f.ins; outs = f.outs; is = w.ops n (omega arith) ∙ f.is; entry = entry_in g h n holes w f.entry; blocks = blocks_in g h n top holes w r le f.blocks; ways_at = ways_in g h ways w f.ways_at }

-- growth is in the open hole, or behind all that is in the holes
abbrev pub InHole : ℕ → ℕ → ℕ → ℕ → Type 0
InHole e top start p = ((p ≡ e) × (e < top)) ⊎ (start ≤ p)

holes_grown : (n p : ℕ) (g h : Graph) → Grown n p g h → (e m top start : ℕ) (holes : List Hole) → HolesRise m top holes → top ≤ start → start ≤ n → InHole e top start p → HolesDo g e top start holes → HolesDo h e top start holes
holes_grown n p g h w e m top start [] r tp le ic d = tt
holes_grown n p g h w e m top start (hole ∷ holes) r tp le ic d =
    let a = rise_top hole.node top holes r.1 in
    (λ ne. does hole.act (ok ne a) (d.0 ne), holes_grown n p g h w e hole.node top start holes r.1 tp le ic d.1)
  where
    ok : hole.node ≢ e → hole.node < top → hole.node ≢ p
    ok ne lt q = ⊎_elim (λ x. ne (q ∙ x.0)) (λ x. absurd (omega arith)) ic

    off : Off top start p
    off = ⊎_elim (λ x. let x0 = x.0 in let x1 = x.1 in inl (omega arith)) (λ x. inr x) ic

    does : (act : Option (Calls → Act)) → hole.node ≢ p → HoleDoes g top start hole.node act → HoleDoes h top start hole.node act
    does None ne x = let a = rise_top hole.node top holes r.1 in w.kids hole.node (omega arith) ne ∙ x
    does (Some act) ne x = let a = rise_top hole.node top holes r.1 in region_in g h hole.node top start act (w.firing hole.node (omega arith) ne) (part_grown n p top start g h w le off) x

-- ---- regions that wait

-- ports of nodes below n that had no link have none
abbrev pub Unfed : ℕ → Graph → Graph → Type 0
Unfed n g h = (to : Port) → to.node < n → feeder g.links to ≡ None → feeder h.links to ≡ None

pub unfed_less : (n m : ℕ) (g h : Graph) → m ≤ n → Unfed n g h → Unfed m g h
unfed_less n m g h le u to lt e = u to (omega arith) e

pub halfway_grown : (n p : ℕ) (g h : Graph) → Grown n p g h → (e start : ℕ) (fr : Frame) → start ≤ n → (y : Halfway g e start fr) → InHole e y.top start p → fr.outer.node ≤ p → Unfed fr.outer.node g h → Halfway h e start fr
halfway_grown n p g h w e start fr le y ic pk uf =
    let c = fr.outer.place.container in let i = fr.outer.place.input in let o = fr.outer.place.output in let k = fr.outer.node in
    let a : c < i = y.above in
    let b : i < o = y.next in
    let d : suc o ≤ k = steps_rise g (i ∷ []) (suc o) k fr.steps y.steps in
    let t : y.top ≤ start = y.topped in
    let kt : k < y.top = rise_top k y.top fr.holes y.rise in
    let more : length g.nodes ≤ length h.nodes = w.grows.more in
    let sl : start ≤ length g.nodes = y.started in
    record {
      input = w.grows.kids c 0 i y.input;
      output = w.grows.kids c 1 o y.output;
      firing = w.firing c (omega arith) (omega arith) ∙ y.firing;
      above = a;
      next = b;
      steps = steps_grown n p g h w (i ∷ []) (suc o) k fr.steps (omega arith) (inr (omega arith)) y.steps;
      wide = ap (λ op. length (ins_of op)) (w.grows.ops o (omega arith)) ∙ y.wide;
      unfed = λ q. uf (record { node = o; index = q }) (omega arith) (y.unfed q);
      last = y.last;
      filling = fill_in g h k y.top fr.fill fr.holes w.grows y.rise (omega arith) y.filling;
      fed = fed_in g h k 0 fr.ins w.grows y.fed;
      inputs = ap (λ op. length (ins_of op)) (w.grows.ops k (omega arith)) ∙ y.inputs;
      ports = y.ports;
      top = y.top;
      rise = y.rise;
      topped = t;
      started = omega arith;
      does = holes_grown n p g h w e k y.top start fr.holes y.rise t le ic y.does;
    }

pub below_grown : (n p : ℕ) (g h : Graph) → Grown n p g h → (base : Base) (c i : ℕ) (frs : List Frame) → i ≤ n → (p ≡ c) ⊎ (i ≤ p) → Unfed i g h → Below g base c i frs → Below h base c i frs
below_grown n p g h w base c i [] le ic uf y =
    let m = y.1 in
    let at = rise_get 0 m.top base.hole base.functions (record { node = c; act = None }) m.rise y.0 in
    let a = m.started in let b = m.topped in let d = w.grows.more in (
      y.0,
      record {
        are = functions_in g h 0 m.top base.functions w.grows m.rise (omega arith) m.are;
        top = m.top;
        rise = m.rise;
        topped = b;
        started = omega arith;
        does = holes_grown n p g h w c 0 m.top i base.functions m.rise b le (⊎_elim (λ q. inl (q, at.1)) (λ u. inr u) ic) m.does;
      },
    )
below_grown n p g h w base c i (fr ∷ frs) le ic uf y =
    let half = y.1 in
    let k = fr.outer.node in
    let i0 = fr.outer.place.input in let o0 = fr.outer.place.output in
    let at = rise_get k half.top fr.hole fr.holes (record { node = c; act = None }) half.rise y.0 in
    let at0 : k < c = at.0 in
    let at1 : c < half.top = at.1 in
    let t : half.top ≤ i = half.topped in
    let kt : k < half.top = rise_top k half.top fr.holes half.rise in
    let d : suc o0 ≤ k = steps_rise g (i0 ∷ []) (suc o0) k fr.steps half.steps in
    let b : i0 < o0 = half.next in
    let pk : k < p = ⊎_elim (λ q. omega arith) (λ u. omega arith) ic in
    (y.0, halfway_grown n p g h w c i fr le half (⊎_elim (λ q. inl (q, at1)) (λ u. inr u) ic) (omega arith) (unfed_less i k g h (omega arith) uf), below_grown n p g h w base fr.outer.place.container i0 frs (omega arith) (inr (omega arith)) (unfed_less i i0 g h (omega arith) uf) y.2)

-- ---- one more step

pub nodes_push : (ss : List Step) (s : Step) → nodes_of (ss ++ s ∷ []) ≡ nodes_of ss ++ s.node ∷ []
nodes_push [] s = refl
nodes_push (x ∷ ss) s = ap (λ ks. x.node ∷ ks) (nodes_push ss s)

pub known_push : (known : List ℕ) (ss : List Step) (s : Step) → known_after known (ss ++ s ∷ []) ≡ s.node ∷ known_after known ss
known_push known [] s = refl
known_push known (x ∷ ss) s = known_push (x.node ∷ known) ss s

-- the nodes that are known are nodes of the graph
known_below : (g : Graph) (known : List ℕ) (at end n : ℕ) (ss : List Step) → StepsAt g known at ss end → ((m : ℕ) → In m known → m < length g.nodes) → In n (known_after known ss) → n < length g.nodes
known_below g known at end n [] st b i = b n i
known_below g known at end n (s ∷ ss) st b i =
    let x = st.3.below in let y = st.3.within in
    known_below g (s.node ∷ known) st.1 end n ss st.4 (λ m j. ⊎_elim (λ e. omega arith) (λ k. b m k) j) i

ports_below : (n : ℕ) (known : List ℕ) (ps : List Port) → ((m : ℕ) → In m known → m < n) → PortsIn ps known → PortsBelow n ps
ports_below n known [] b i = tt
ports_below n known (p ∷ ps) b i = (b p.node i.0, ports_below n known ps b i.1)

-- where a region stands
pub record Stands (g : Graph) (p : Place) : Type 0 where
  pub above : p.container < p.input
  pub next : p.input < p.output
  pub within : p.output < length g.nodes

pub stands : (g : Graph) (p : Place) (width : ℕ) (ss : List Step) → OpenAt g p width ss → Stands g p
stands g p width ss y = record { above = y.laid.above; next = y.laid.next; within = y.laid.within }

pub scope_below : (g : Graph) (p : Place) (width : ℕ) (ss : List Step) (ps : List Port) → OpenAt g p width ss → PortsIn ps (known_after (p.input ∷ []) ss) → PortsBelow (length g.nodes) ps
scope_below g p width ss ps y i =
    let a = y.laid.next in let b = y.laid.within in
    ports_below (length g.nodes) (known_after (p.input ∷ []) ss) ps (λ m j. known_below g (p.input ∷ []) (suc p.output) (length g.nodes) m ss y.laid.steps (λ k x. ⊎_elim (λ e. omega arith) (λ f. absurd f) x) j) i

-- the last effect node is an effect node of the region
pub prior_in : (g : Graph) (p : Place) (width : ℕ) (ss : List Step) (last : Option ℕ) → OpenAt g p width ss → LastIn last (nodes_of ss) → PriorIn g p.container last
prior_in g p width ss None y l = tt
prior_in g p width ss (Some l) y i =
    let kid = kid_is g p.container l (subst (λ xs. In l xs) (sym y.laid.firing) i) in
    let child = child_is g p.container l kid.0 in
    let up : suc p.output ≤ l = above_at g (p.input ∷ []) (suc p.output) (length g.nodes) ss l y.laid.steps i in
    let a = y.laid.above in let b = y.laid.next in
    (omega arith, child.0, child.1, kid.1)

pub open_push : (g h : Graph) (p : Place) (last : Option ℕ) (width lo : ℕ) (ss : List Step) (s : Step) → OpenAt g p width ss → Grown (length g.nodes) p.container g h → length g.nodes ≤ lo → firing_children h p.container ≡ firing_children g p.container ++ s.node ∷ [] → Unfed (length g.nodes) g h → LastIn last (nodes_of ss ++ s.node ∷ []) → StepAt h (known_after (p.input ∷ []) ss) lo (length h.nodes) s → OpenAt h (record p { last = last }) width (ss ++ s ∷ [])
open_push g h p last width lo ss s y w le f uf la st =
    let l = y.laid in
    let c = p.container in let i = p.input in let o = p.output in
    let a : c < i = l.above in
    let b : i < o = l.next in
    let d : o < length g.nodes = l.within in
    let e : suc o ≤ length g.nodes = steps_rise g (i ∷ []) (suc o) (length g.nodes) ss l.steps in
    let more : length g.nodes ≤ length h.nodes = w.grows.more in
    record {
      laid = record {
        input = w.grows.kids c 0 i l.input;
        output = w.grows.kids c 1 o l.output;
        firing = f ∙ ap (λ ks. ks ++ s.node ∷ []) l.firing ∙ sym (nodes_push ss s);
        above = a;
        next = b;
        within = omega arith;
        steps = steps_push h (i ∷ []) (suc o) (length g.nodes) lo (length h.nodes) (length h.nodes) ss s (steps_grown (length g.nodes) c g h w (i ∷ []) (suc o) (length g.nodes) ss (le_refl (length g.nodes)) (inl (omega arith)) l.steps) le (le_refl (length h.nodes)) st;
      };
      wide = ap (λ op. length (ins_of op)) (w.grows.ops o d) ∙ y.wide;
      unfed = λ q. uf (record { node = o; index = q }) d (y.unfed q);
      last = subst (LastIn last) (sym (nodes_push ss s)) la;
    }

pub last_more : (last : Option ℕ) (nodes : List ℕ) (n : ℕ) → LastIn last nodes → LastIn last (nodes ++ n ∷ [])
last_more None nodes n l = tt
last_more (Some x) nodes n l = more x nodes l
  where
    more : (x : ℕ) (ys : List ℕ) → In x ys → In x (ys ++ n ∷ [])
    more x [] i = absurd i
    more x (y ∷ ys) (inl e) = inl e
    more x (y ∷ ys) (inr i) = inr (more x ys i)

pub in_end : (ys : List ℕ) (n : ℕ) → In n (ys ++ n ∷ [])
in_end [] n = inl refl
in_end (y ∷ ys) n = inr (in_end ys n)

pub later_in : (last : Option ℕ) (n : ℕ) (nodes : List ℕ) (t : Bool) → LastIn last nodes → LastIn (cond t (Some n) last) (nodes ++ n ∷ [])
later_in last n nodes true l = in_end nodes n
later_in last n nodes false l = last_more last nodes n l

pub prior_some : (g : Graph) (c : ℕ) (last : Option ℕ) (t : Bool) → PriorIn g c last → PriorIn g c (cond t last None)
prior_some g c last true l = l
prior_some g c last false l = tt

-- what a node with its links makes of a region, whatever it does
pub node_step : (g : Graph) (base : Base) (p : Place) (width : ℕ) (frs : List Frame) (ss : List Step) (kind : Op) (ps : List Port) (source : Option ℕ) (act : Calls → Act) → BuiltAt g base p width frs ss → fires kind ≡ true → length (ins_of kind) ≡ length ps → PortsIn ps (known_after (p.input ∷ []) ss) → SourceBelow (length g.nodes) source → ((h : Graph) → NodeAdded g h kind p.container ps source → FiresAs h (length g.nodes) (length h.nodes) (length g.nodes) act) → BuiltAt (after_node g kind p.container ps source (effect_prior p.last kind)) base (record p { last = last_after p.last kind (length g.nodes) }) width frs (ss ++ record { node = length g.nodes; ins = ps; act = act } ∷ [])
node_step g base p width frs ss kind ps source act b fi ar pi sb does =
    let n = length g.nodes in
    let y = b.open_at in
    let h = after_node g kind p.container ps source (effect_prior p.last kind) in
    let z = stands g p width ss y in
    let z0 = z.above in let z1 = z.next in let z2 = z.within in
    let d : NodeAdded g h kind p.container ps source = node_added g kind p.container ps source (effect_prior p.last kind) (omega arith) b.sound (scope_below g p width ss ps y pi) sb (prior_some g p.container p.last (is_effect kind) (prior_in g p width ss p.last y y.last)) in
    let more : length h.nodes ≡ suc n = d.one_more in
    let st : StepAt h (known_after (p.input ∷ []) ss) n (length h.nodes) (record { node = n; ins = ps; act = act }) = record {
      from = le_refl n;
      below = omega arith;
      within = le_refl (length h.nodes);
      fed = d.fed;
      inputs = ap (λ op. length (ins_of op)) d.at ∙ ar;
      ports = pi;
      does = does h d;
    } in
    record {
      sound = d.sound;
      open_at = open_push g h p (last_after p.last kind n) width n ss (record { node = n; ins = ps; act = act }) y (d.grown p.container (inl refl)) (le_refl n) (d.firing ∙ ap (λ t. firing_children g p.container ++ cond t (n ∷ []) []) fi) (λ to lt e. d.unfed to lt e) (later_in p.last n (nodes_of ss) (is_effect kind) y.last) st;
      below = below_grown n p.container g h (d.grown p.container (inl refl)) base p.container p.input frs (omega arith) (inl refl) (λ to lt e. d.unfed to (omega arith) e) b.below;
    }

plain_op_fires : (kind : Op) → is_plain kind ≡ true → fires kind ≡ true
plain_op_fires (Tag rows tag) e = refl
plain_op_fires (Ext x) e = refl
plain_op_fires _ e = absurd (no e)
  where
    no : false ≡ true → ⊥
    no e = cc

-- `op` adds a step
pub op_built : (g : Graph) (base : Base) (p : Place) (width : ℕ) (frs : List Frame) (ss : List Step) (kind : Op) (ps : List Port) → BuiltAt g base p width frs ss → is_plain kind ≡ true → length (ins_of kind) ≡ length ps → PortsIn ps (known_after (p.input ∷ []) ss) → BuiltAt (after_node g kind p.container ps None (effect_prior p.last kind)) base (record p { last = last_after p.last kind (length g.nodes) }) width frs (ss ++ record { node = length g.nodes; ins = ps; act = plain_act kind } ∷ [])
op_built g base p width frs ss kind ps b is ar pi =
    node_step g base p width frs ss kind ps None (plain_act kind) b (plain_op_fires kind is) ar pi tt (λ h d. let more = d.one_more in plain_node h (length g.nodes) (length h.nodes) (length g.nodes) kind (omega arith) d.at is)

-- `call` adds a step
pub call_built : (g : Graph) (base : Base) (p : Place) (width : ℕ) (frs : List Frame) (ss : List Step) (ins outs : Types) (ps : List Port) (f : ℕ) → BuiltAt g base p width frs ss → length ins ≡ length ps → PortsIn ps (known_after (p.input ∷ []) ss) → f < length g.nodes → BuiltAt (after_node g (Call ins outs) p.container ps (Some f) p.last) base (record p { last = Some (length g.nodes) }) width frs (ss ++ record { node = length g.nodes; ins = ps; act = call_act f } ∷ [])
call_built g base p width frs ss ins outs ps f b ar pi lt =
    let n = length g.nodes in
    node_step g base p width frs ss (Call ins outs) ps (Some f) (call_act f) b refl ar pi lt (λ h d. let more = d.one_more in call_node h n (length h.nodes) n (record { node = f; index = 0 }) ins outs (omega arith) d.at (ap (λ k. feeder h.links (record { node = n; index = k })) (ap (λ op. length (ins_of op)) d.at ∙ ar) ∙ d.static f refl))

-- `op` adds a step that calls the function of its first value
pub indirect_built : (g : Graph) (base : Base) (p : Place) (width : ℕ) (frs : List Frame) (ss : List Step) (ins outs : Types) (find : List ℕ → Option ℕ) (ps : List Port) → BuiltAt g base p width frs ss → Finds g ins outs find → length (ins_of (CallIndirect ins outs)) ≡ length ps → PortsIn ps (known_after (p.input ∷ []) ss) → BuiltAt (after_node g (CallIndirect ins outs) p.container ps None p.last) base (record p { last = Some (length g.nodes) }) width frs (ss ++ record { node = length g.nodes; ins = ps; act = indirect_act find } ∷ [])
indirect_built g base p width frs ss ins outs find ps b fs ar pi =
    node_step g base p width frs ss (CallIndirect ins outs) ps None (indirect_act find) b refl ar pi tt (λ h d.
    let more = d.one_more in
    indirect_node h (length g.nodes) (length h.nodes) (length g.nodes) ins outs find (omega arith) d.at (λ name f e. finds_in g h ins outs name f (d.grown p.container (inl refl)).grows (fs name f e)))

-- `load_function` adds a step
pub load_built : (g : Graph) (base : Base) (p : Place) (width : ℕ) (frs : List Frame) (ss : List Step) (f : ℕ) (name : List ℕ) (ins outs : Types) → BuiltAt g base p width frs ss → op_at g f ≡ FuncDefn name ins outs → BuiltAt (after_node g (LoadFunction ins outs) p.container [] (Some f) None) base p width frs (ss ++ record { node = length g.nodes; ins = []; act = function_act name } ∷ [])
load_built g base p width frs ss f name ins outs b is =
    let n = length g.nodes in
    let lf = within g f name ins outs is in
    node_step g base p width frs ss (LoadFunction ins outs) [] (Some f) (function_act name) b refl refl tt lf (λ h d.
    let more = d.one_more in
    load_node h n (length h.nodes) n (record { node = f; index = 0 }) name ins outs ins outs (omega arith) d.at (ap (λ k. feeder h.links (record { node = n; index = k })) (ap (λ op. length (ins_of op)) d.at) ∙ d.static f refl) ((d.grown p.container (inl refl)).grows.ops f lf ∙ is))

-- a Const is no step
pub const_built : (g : Graph) (base : Base) (p : Place) (width : ℕ) (frs : List Frame) (ss : List Step) (value : ℤ) → BuiltAt g base p width frs ss → BuiltAt (with_node g (Const value) p.container) base p width frs ss
const_built g base p width frs ss value b =
    let n = length g.nodes in
    let y = b.open_at in
    let l = y.laid in
    let c = p.container in let i = p.input in let o = p.output in
    let h = with_node g (Const value) c in
    let w : Grown n c g h = node_grown n c c g (Const value) (inl refl) in
    let z0 : c < i = l.above in let z1 : i < o = l.next in let z2 : o < n = l.within in
    let more : length h.nodes ≡ suc n = count_node g (Const value) c in
    record {
      sound = sound_node g (Const value) c (omega arith) b.sound;
      open_at = record {
        laid = record {
          input = w.grows.kids c 0 i l.input;
          output = w.grows.kids c 1 o l.output;
          firing = firing_parent g (Const value) c (omega arith) ∙ append-nil (firing_children g c) ∙ l.firing;
          above = z0;
          next = z1;
          within = omega arith;
          steps = steps_longer h (i ∷ []) (suc o) n (length h.nodes) ss (omega arith) (steps_grown n c g h w (i ∷ []) (suc o) n ss (le_refl n) (inl (omega arith)) l.steps);
        };
        wide = ap (λ op. length (ins_of op)) (w.grows.ops o z2) ∙ y.wide;
        unfed = y.unfed;
        last = y.last;
      };
      below = below_grown n c g h w base c i frs (omega arith) (inl refl) (λ to lt e. e) b.below;
    }

-- `constant` adds a step
pub constant_built : (g : Graph) (base : Base) (p : Place) (width : ℕ) (frs : List Frame) (ss : List Step) (value : ℤ) → BuiltAt g base p width frs ss → BuiltAt (after_constant g value p.container) base p width frs (ss ++ record { node = suc (length g.nodes); ins = []; act = constant_act value } ∷ [])
constant_built g base p width frs ss value b =
    let n = length g.nodes in
    let g1 = with_node g (Const value) p.container in
    let more : length g1.nodes ≡ suc n = count_node g (Const value) p.container in
    let x = node_step g1 base p width frs ss LoadConstant [] (Some n) (constant_act value) (const_built g base p width frs ss value b) refl refl tt (omega arith) (λ h d.
    let m1 = d.one_more in
    let w = (d.grown p.container (inl refl)).grows in
    constant_node h (length g1.nodes) (length h.nodes) (length g1.nodes) (record { node = n; index = 0 }) value (omega arith) d.at (ap (λ k. feeder h.links (record { node = length g1.nodes; index = k })) (ap (λ op. length (ins_of op)) d.at) ∙ d.static n refl) (omega arith) (w.ops n (omega arith) ∙ op_new g (Const value) p.container)) in
    subst (λ m. BuiltAt (after_constant g value p.container) base p width frs (ss ++ record { node = m; ins = []; act = constant_act value } ∷ [])) more x
