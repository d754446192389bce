-- What `conditional`, `cfg`, `block`, `control`, `enter`, `leave`, `open` and `finish` make of what was built.
use Rattle.std.proofs.Common.{◌≡◌, ◌≢◌, inl, inr, ⊎_elim, ℕ, zero, suc, ◌+◌, ◌≤◌, ◌<◌, Bool, true, false, cond, not, ◌&&◌, List, [], ◌∷◌, ◌++◌, length, filter, Option, Some, None, slice_get, slice_set, refl, sym, ap, ◌∙◌, subst, arith, le_refl, append-nil, append_assoc, length-append, eq-eqb}
use Rattle.gp_base.specs.Membership.{In}
use Rattle.hg_ops.specs.Op.{Op, Types, Input, Output, Case, Conditional, Cfg, DataflowBlock, ExitBlock, ins_of, fires}
use Rattle.hg_graph.specs.Graph.{Graph, Port, Link, Ports, op_at, parent_at, children, firing_children, feeder, taker}
use Rattle.hg_laws.proofs.Children.{child_is, kid_is}
use Rattle.hg_build.specs.Steps.{Act, Calls, Step, body, nodes_of, SamePart, FiresAs, OrderRises, PortsIn, StepAt, StepsAt, Laid, known_after, Hole, Way, HolesDo, HolesWithin, HoleDoes, RegionAs, CasesAt, IsCaseAt, BlocksAt, IsBlockAt, EndsAt, IsWayAt, WaysAt, IsFunctionAt}
use Rattle.hg_build.specs.Wired.{with_node, with_links, with_cases, case_nodes, value_links, order_links, after_node, after_choice, after_ends, inner_place, after_leave, after_control, leave_prior, leave_last, adds_order, is_last}
use Rattle.hg_build.specs.Built.{Sound, LastIn, OpenAt, Fill, Choice, Flow, fill_act, EntryAt, FillAt, HolesRise, Frame, Halfway, Base, FunctionsAt, ModuleAt, Below, BuiltAt, FillingAt, frame_at, new_holes, Unfilled, FirstBlock, FunctionsBuilt}
use Rattle.hg_build.specs.declared.region.Place.{Place}
use Rattle.hg_build.specs.declared.region.Outer.{Outer}
use Rattle.hg_build.proofs.Real.{above_at, in_last}
use Rattle.hg_build.proofs.Moves.{same_part, steps_rise, steps_in, steps_push, fed_in, region_in, region_runs}
use Rattle.hg_build.proofs.Fires.{choice_node, cfg_node}
use Rattle.hg_build.proofs.Grow.{Grown, grown_self, grown_trans, node_grown, links_grown, count_node, op_new, firing_parent, children_parent, children_other, firing_links, op_links, get_end, no_children, no_feeder, fed_new, unfed_values, unfed_order, taker_new, links_grow}
use Rattle.hg_build.proofs.Adds.{NodeAdded, node_added, OrderFits, sound_node, sound_values, sound_order}
use Rattle.hg_build.proofs.Frames.{Unfed, unfed_less, steps_grown, rise_top, rise_get, halfway_grown, below_grown, nodes_push, stands, scope_below, prior_in, last_more, in_end}

-- ---- the cases of a Conditional

pub with_cases_more : (g : Graph) (n : ℕ) (row : Types) (rows : List Types) (ins outs : Types) → with_cases g n (row ∷ rows) ins outs ≡ with_cases (with_node g (Case (row ++ ins) outs) n) n rows ins outs
with_cases_more g n row rows ins outs = ap (λ x. record g { nodes = x }) (sym (append_assoc g.nodes (record { op = Case (row ++ ins) outs; parent = n } ∷ []) (case_nodes n rows ins outs)))

pub record CasesAdded (N p : ℕ) (g h : Graph) (n : ℕ) (rows : List Types) : Type 0 where
  pub grown : Grown N p g h
  pub sound : Sound h
  pub more : length h.nodes ≡ length g.nodes + length rows
  pub links : h.links ≡ g.links
  pub cases : (j : ℕ) → j ≡ length (children g n) → CasesAt h n j (new_holes (length g.nodes) rows)
  pub others : (m : ℕ) → m ≢ n → children h m ≡ children g m
  pub firing : (m : ℕ) → m ≢ n → firing_children h m ≡ firing_children g m

firing_other_ : (g : Graph) (n : ℕ) (kind : Op) (m : ℕ) → m ≢ n → firing_children (with_node g kind n) m ≡ firing_children g m
firing_other_ g n kind m ne = (node_grown (suc m) n n g kind (inl refl)).firing m (le_refl (suc m)) ne

pub cases_added : (N p n : ℕ) (rows : List Types) (ins outs : Types) (g : Graph) → N ≤ n → n < length g.nodes → Sound g → CasesAdded N p g (with_cases g n rows ins outs) n rows
cases_added N p n [] ins outs g le lt s =
    subst (λ h. CasesAdded N p g h n []) (ap (λ x. record g { nodes = x }) (sym (append-nil g.nodes))) (record {
      grown = grown_self N p g;
      sound = s;
      more = omega arith;
      links = refl;
      cases = λ j e. tt;
      others = λ m e. refl;
      firing = λ m e. refl;
    })
cases_added N p n (row ∷ rows) ins outs g le lt s =
    let kind = Case (row ++ ins) outs in
    let g1 = with_node g kind n in
    let more : length g1.nodes ≡ suc (length g.nodes) = count_node g kind n in
    let r : CasesAdded N p g1 (with_cases g1 n rows ins outs) n rows = cases_added N p n rows ins outs g1 le (omega arith) (sound_node g kind n lt s) in
    let kids : children g1 n ≡ children g n ++ length g.nodes ∷ [] = children_parent g kind n lt in
    subst (λ h. CasesAdded N p g h n (row ∷ rows)) (sym (with_cases_more g n row rows ins outs)) (record {
      grown = grown_trans N p g g1 (with_cases g1 n rows ins outs) (node_grown N p n g kind (inr le)) r.grown;
      sound = r.sound;
      more = omega (arith, r.more);
      links = r.links;
      cases = λ j e.
          let here : slice_get (children g1 n) j ≡ Some (length g.nodes) = rw (kids, e) (get_end (children g n) (length g.nodes)) in
          let len : length (children g1 n) ≡ suc (length (children g n)) = ap length kids ∙ length_end (children g n) (length g.nodes) in (
            record { child = r.grown.grows.kids n j (length g.nodes) here; ins = row ++ ins; outs = outs; is = r.grown.grows.ops (length g.nodes) (omega arith) ∙ op_new g kind n },
            subst (λ k. CasesAt (with_cases g1 n rows ins outs) n (suc j) (new_holes k rows)) more (r.cases (suc j) (omega arith)),
          );
      others = λ m ne. r.others m ne ∙ children_other g kind n m ne;
      firing = λ m ne. r.firing m ne ∙ firing_other_ g n kind m ne;
    })
  where
    length_end : (xs : List ℕ) (x : ℕ) → length (xs ++ x ∷ []) ≡ suc (length xs)
    length_end xs x = let l = length-append xs (x ∷ []) in omega arith

new_rise : (n k top : ℕ) (rows : List Types) → n < k → k + length rows ≡ top → HolesRise n top (new_holes k rows)
new_rise n k top [] lt e = omega arith
new_rise n k top (row ∷ rows) lt e = (lt, new_rise k (suc k) top rows (omega arith) (omega arith))

new_do : (g : Graph) (e top start k : ℕ) (rows : List Types) → ((m : ℕ) → k ≤ m → children g m ≡ []) → HolesDo g e top start (new_holes k rows)
new_do g e top start k [] h = tt
new_do g e top start k (row ∷ rows) h = (λ ne. h k (le_refl k), new_do g e top start (suc k) rows (λ m le. h m (omega arith)))

-- ---- a node that waits

-- A node with its links becomes the waiting last node of its region; a further graph has grown from that one under the node alone.
wait_at : (g h1 h : Graph) (base : Base) (p : Place) (last : Option ℕ) (width : ℕ) (frs : List Frame) (ss : List Step) (kind : Op) (ps : List Port) (fill : Fill) (holes : List Hole) (top : ℕ) → BuiltAt g base p width frs ss → fires kind ≡ true → length (ins_of kind) ≡ length ps → PortsIn ps (known_after (p.input ∷ []) ss) → NodeAdded g h1 kind p.container ps None → Grown (length g.nodes) p.container h1 h → h.links ≡ h1.links → firing_children h p.container ≡ firing_children h1 p.container → Sound h → LastIn last (nodes_of ss ++ length g.nodes ∷ []) → FillAt h (length g.nodes) fill holes → HolesRise (length g.nodes) top holes → top ≤ length h.nodes → HolesDo h (length g.nodes) top (length h.nodes) holes → FillingAt h base (record p { last = last }) width frs ss (length g.nodes) ps fill holes
wait_at g h1 h base p last width frs ss kind ps fill holes top b fi ar pi d w ls fc s la fl ri tp dos =
    let n = length g.nodes in
    let y = b.open_at in
    let l = y.laid in
    let c = p.container in let i = p.input in let o = p.output in
    let z0 : c < i = l.above in let z1 : i < o = l.next in let z2 : o < n = l.within in
    let all : Grown n c g h = grown_trans n c g h1 h (d.grown c (inl refl)) w in
    let more : length h1.nodes ≡ suc n = d.one_more in
    let mh : length h1.nodes ≤ length h.nodes = w.grows.more in
    let uf : Unfed n g h = λ to lt e. ap (λ x. feeder x to) ls ∙ d.unfed to lt e in
    record {
      sound = s;
      halfway = record {
        input = all.grows.kids c 0 i l.input;
        output = all.grows.kids c 1 o l.output;
        firing = fc ∙ d.firing ∙ ap (λ t. firing_children g c ++ cond t (n ∷ []) []) fi ∙ ap (λ ks. ks ++ n ∷ []) l.firing;
        above = z0;
        next = z1;
        steps = steps_grown n c g h all (i ∷ []) (suc o) n ss (le_refl n) (inl (omega arith)) l.steps;
        wide = ap (λ op. length (ins_of op)) (all.grows.ops o z2) ∙ y.wide;
        unfed = λ q. uf (record { node = o; index = q }) z2 (y.unfed q);
        last = la;
        filling = fl;
        fed = fed_in h1 h n 0 ps w.grows d.fed;
        inputs = ap (λ op. length (ins_of op)) (w.grows.ops n (omega arith) ∙ d.at) ∙ ar;
        ports = pi;
        top = top;
        rise = ri;
        topped = tp;
        started = le_refl (length h.nodes);
        does = dos;
      };
      below = below_grown n c g h all base c i frs (omega arith) (inl refl) (λ to lt e. uf to (omega arith) e) b.below;
    }

pub choice_built : (g : Graph) (base : Base) (p : Place) (width : ℕ) (frs : List Frame) (ss : List Step) (rows : List Types) (ins outs : Types) (ps : List Port) → BuiltAt g base p width frs ss → suc (length ins) ≡ length ps → PortsIn ps (known_after (p.input ∷ []) ss) → FillingAt (after_choice g rows ins outs p.container ps) base p width frs ss (length g.nodes) ps Choice (new_holes (suc (length g.nodes)) rows)
choice_built g base p width frs ss rows ins outs ps b ar pi =
    let n = length g.nodes in
    let kind = Conditional rows ins outs in
    let y = b.open_at in
    let z = stands g p width ss y in
    let z0 = z.above in let z1 = z.next in let z2 = z.within in
    let h1 = after_node g kind p.container ps None None in
    let h = with_cases h1 n rows ins outs in
    let d : NodeAdded g h1 kind p.container ps None = node_added g kind p.container ps None None (omega arith) b.sound (scope_below g p width ss ps y pi) tt tt in
    let more : length h1.nodes ≡ suc n = d.one_more in
    let a : CasesAdded n p.container h1 h n rows = cases_added n p.container n rows ins outs h1 (le_refl n) (omega arith) d.sound in
    let top = suc n + length rows in
    let len : length h.nodes ≡ top = a.more ∙ ap (λ k. k + length rows) more in
    let none : (m : ℕ) → suc n ≤ m → children h m ≡ [] = λ m le. let ne : m ≢ n = omega arith in a.others m ne ∙ no_children h1 d.sound.graph m (omega arith) in
    let nc : p.container ≢ n = omega arith in
    wait_at g h1 h base p p.last width frs ss kind ps Choice (new_holes (suc n) rows) top b refl ar pi d a.grown a.links (a.firing p.container nc) a.sound (last_more p.last (nodes_of ss) n y.last)
    (record { rows = rows; ins = ins; outs = outs; is = a.grown.grows.ops n (omega arith) ∙ d.at; cases = subst (λ k. CasesAt h n 0 (new_holes k rows)) more (a.cases 0 (sym (ap length d.childless))) })
    (new_rise n (suc n) top rows (le_refl (suc n)) refl) (omega arith) (new_do h n top (length h.nodes) (suc n) rows none)

-- `cfg` leaves a CFG without blocks
pub flow_built : (g : Graph) (base : Base) (p : Place) (width : ℕ) (frs : List Frame) (ss : List Step) (ins outs : Types) (ps : List Port) → BuiltAt g base p width frs ss → length ins ≡ length ps → PortsIn ps (known_after (p.input ∷ []) ss) → FillingAt (after_node g (Cfg ins outs) p.container ps None p.last) base (record p { last = Some (length g.nodes) }) width frs ss (length g.nodes) ps (Flow []) []
flow_built g base p width frs ss ins outs ps b ar pi =
    let n = length g.nodes in
    let kind = Cfg ins outs in
    let y = b.open_at in
    let z = stands g p width ss y in
    let z0 = z.above in let z1 = z.next in let z2 = z.within in
    let h = after_node g kind p.container ps None p.last in
    let d : NodeAdded g h kind p.container ps None = node_added g kind p.container ps None p.last (omega arith) b.sound (scope_below g p width ss ps y pi) tt (prior_in g p width ss p.last y y.last) in
    let more : length h.nodes ≡ suc n = d.one_more in
    wait_at g h h base p (Some n) width frs ss kind ps (Flow []) [] (suc n) b refl ar pi d (grown_self n p.container h) refl refl d.sound (in_end (nodes_of ss) n)
    (record { ins = ins; outs = outs; is = d.at; entry = tt; blocks = tt; ways_at = tt }) (le_refl (suc n)) (omega arith) tt

-- ---- a waiting node whose holes are filled is a step

pub rise_within : (n m top : ℕ) (holes : List Hole) → n ≤ m → HolesRise m top holes → HolesWithin n top holes
rise_within n m top [] le r = tt
rise_within n m top (hole ∷ holes) le r =
    let a = r.0 in let b = rise_top hole.node top holes r.1 in
    (omega arith, b, rise_within n hole.node top holes (omega arith) r.1)

fill_node : (g : Graph) (n top end : ℕ) (fill : Fill) (holes : List Hole) → FillAt g n fill holes → HolesRise n top holes → top ≤ end → end ≤ length g.nodes → HolesDo g n top end holes → FiresAs g n end n (fill_act fill holes)
fill_node g n top end Choice holes f r tp el d =
    let a = rise_top n top holes r in
    choice_node g n top end f.rows f.ins f.outs holes f.is (omega arith) (rise_within n n top holes (le_refl n) r) tp el f.cases d
fill_node g n top end (Flow ways) holes f r tp el d =
    let a = rise_top n top holes r in
    cfg_node g n top end f.ins f.outs holes ways f.is (omega arith) (rise_within n n top holes (le_refl n) r) tp el f.entry f.blocks f.ways_at d

pub filled_step : (g : Graph) (base : Base) (p : Place) (width : ℕ) (frs : List Frame) (ss : List Step) (n : ℕ) (ins : List Port) (fill : Fill) (holes : List Hole) → FillingAt g base p width frs ss n ins fill holes → BuiltAt g base p width frs (ss ++ record { node = n; ins = ins; act = fill_act fill holes } ∷ [])
filled_step g base p width frs ss n ins fill holes b =
    let y = b.halfway in
    let i = p.input in let o = p.output in
    let s : Step = record { node = n; ins = ins; act = fill_act fill holes } in
    let t : y.top ≤ length g.nodes = y.topped in
    let nt : n < y.top = rise_top n y.top holes y.rise in
    let st : StepAt g (known_after (i ∷ []) ss) n (length g.nodes) s = record {
      from = le_refl n;
      below = omega arith;
      within = le_refl (length g.nodes);
      fed = y.fed;
      inputs = y.inputs;
      ports = y.ports;
      does = fill_node g n y.top (length g.nodes) fill holes y.filling y.rise t (le_refl (length g.nodes)) y.does;
    } in
    let z0 = y.above in let z1 = y.next in
    let e : suc o ≤ n = steps_rise g (i ∷ []) (suc o) n ss y.steps in
    record {
      sound = b.sound;
      open_at = record {
        laid = record {
          input = y.input;
          output = y.output;
          firing = y.firing ∙ sym (nodes_push ss s);
          above = z0;
          next = z1;
          within = omega arith;
          steps = steps_push g (i ∷ []) (suc o) n n (length g.nodes) (length g.nodes) ss s y.steps (le_refl n) (le_refl (length g.nodes)) st;
        };
        wide = y.wide;
        unfed = y.unfed;
        last = subst (LastIn p.last) (sym (nodes_push ss s)) y.last;
      };
      below = b.below;
    }

-- ---- `enter`

hole_empty : (g : Graph) (n m top start k c : ℕ) (holes : List Hole) → n ≤ m → HolesRise m top holes → HolesDo g n top start holes → slice_get holes k ≡ Some (record { node = c; act = None }) → children g c ≡ []
hole_empty g n m top start k c [] le r d e = absurd cc
hole_empty g n m top start zero c (hole ∷ holes) le r d e =
    let a = r.0 in
    let q : hole ≡ record { node = c; act = None } = the_hole hole (record { node = c; act = None }) e in
    let ne : c ≢ n = λ x. no_hole x q a in
    (subst (λ x. x.node ≢ n → HoleDoes g top start x.node x.act) q d.0) ne
  where
    the_hole : (x y : Hole) → Some x ≡ Some y → x ≡ y
    the_hole x y e = cc

    no_hole : c ≡ n → hole ≡ record { node = c; act = None } → m < hole.node → ⊥
    no_hole x q a = let y : hole.node ≡ c = ap (λ (z : Hole). z.node) q in omega arith
hole_empty g n m top start (suc k) c (hole ∷ holes) le r d e =
    let a = r.0 in hole_empty g n hole.node top start k c holes (omega arith) r.1 d.1 e

-- all holes but another one
holes_but : (g : Graph) (n e m top start : ℕ) (holes : List Hole) → n ≤ m → HolesRise m top holes → HolesDo g n top start holes → HolesDo g e top start holes
holes_but g n e m top start [] le r d = tt
holes_but g n e m top start (hole ∷ holes) le r d =
    let a = r.0 in
    let ne : hole.node ≢ n = omega arith in
    (λ _. d.0 ne, holes_but g n e hole.node top start holes (omega arith) r.1 d.1)

-- a container without children is opened
ends_open : (g : Graph) (c : ℕ) (ins outs : Types) → Sound g → c < length g.nodes → children g c ≡ [] → OpenAt (after_ends g c ins outs) (inner_place g c) (length outs) []
unfolding firing_children
ends_open g c ins outs s lt none =
    let n = length g.nodes in
    let g1 = with_node g (Input ins) c in
    let h = with_node g1 (Output outs) c in
    let c1 : length g1.nodes ≡ suc n = count_node g (Input ins) c in
    let c2 : length h.nodes ≡ suc (length g1.nodes) = count_node g1 (Output outs) c in
    let kids : children h c ≡ n ∷ suc n ∷ [] = children_parent g1 (Output outs) c (omega arith) ∙ ap (λ ks. ks ++ length g1.nodes ∷ []) (children_parent g (Input ins) c lt ∙ ap (λ ks. ks ++ n ∷ []) none) ∙ ap (λ m. n ∷ m ∷ []) c1 in
    let none' : firing_children g c ≡ [] = ap (filter (λ m. fires (op_at g m))) none in
    let firing : firing_children h c ≡ [] = firing_parent g1 (Output outs) c (omega arith) ∙ append-nil (firing_children g1 c) ∙ firing_parent g (Input ins) c lt ∙ append-nil (firing_children g c) ∙ none' in
    let at : op_at h (suc n) ≡ Output outs = ap (op_at h) (sym c1) ∙ op_new g1 (Output outs) c in
    record {
      laid = record {
        input = ap (λ ks. slice_get ks 0) kids;
        output = ap (λ ks. slice_get ks 1) kids;
        firing = firing;
        above = lt;
        next = le_refl (suc n);
        within = omega arith;
        steps = omega arith;
      };
      wide = ap (λ op. length (ins_of op)) at;
      unfed = λ q. no_feeder g s.graph (suc n) q (omega arith);
      last = tt;
    }

ends_grown : (g : Graph) (c : ℕ) (ins outs : Types) → Grown (length g.nodes) c g (after_ends g c ins outs)
ends_grown g c ins outs =
    let n = length g.nodes in
    let g1 = with_node g (Input ins) c in
    grown_trans n c g g1 (after_ends g c ins outs) (node_grown n c c g (Input ins) (inl refl)) (node_grown n c c g1 (Output outs) (inl refl))

ends_sound : (g : Graph) (c : ℕ) (ins outs : Types) → c < length g.nodes → Sound g → Sound (after_ends g c ins outs)
ends_sound g c ins outs lt s =
    let g1 = with_node g (Input ins) c in
    let c1 : length g1.nodes ≡ suc (length g.nodes) = count_node g (Input ins) c in
    sound_node g1 (Output outs) c (omega arith) (sound_node g (Input ins) c lt s)

pub enter_built : (g : Graph) (base : Base) (p : Place) (width : ℕ) (frs : List Frame) (ss : List Step) (n k c : ℕ) (chained : Bool) (ps : List Port) (fill : Fill) (holes : List Hole) (ins outs : Types) → FillingAt g base p width frs ss n ps fill holes → slice_get holes k ≡ Some (record { node = c; act = None }) → BuiltAt (after_ends g c ins outs) base (inner_place g c) (length outs) (frame_at p n chained width ss ps fill holes k ∷ frs) []
enter_built g base p width frs ss n k c chained ps fill holes ins outs b is =
    let y = b.halfway in
    let m = length g.nodes in
    let fr = frame_at p n chained width ss ps fill holes k in
    let h = after_ends g c ins outs in
    let t : y.top ≤ m = y.topped in
    let at = rise_get n y.top k holes (record { node = c; act = None }) y.rise is in
    let at0 : n < c = at.0 in
    let at1 : c < y.top = at.1 in
    let d1 : p.container < p.input = y.above in
    let d2 : p.input < p.output = y.next in
    let d3 : suc p.output ≤ n = steps_rise g (p.input ∷ []) (suc p.output) n ss y.steps in
    let w : Grown m c g h = ends_grown g c ins outs in
    let half : Halfway g c m fr = record {
      input = y.input;
      output = y.output;
      firing = y.firing;
      above = d1;
      next = d2;
      steps = y.steps;
      wide = y.wide;
      unfed = y.unfed;
      last = y.last;
      filling = y.filling;
      fed = y.fed;
      inputs = y.inputs;
      ports = y.ports;
      top = y.top;
      rise = y.rise;
      topped = t;
      started = le_refl m;
      does = holes_but g n c n y.top m holes (le_refl n) y.rise y.does;
    } in
    record {
      sound = ends_sound g c ins outs (omega arith) b.sound;
      open_at = ends_open g c ins outs b.sound (omega arith) (hole_empty g n n y.top m k c holes (le_refl n) y.rise y.does is);
      below = (is, halfway_grown m c g h w c m fr (le_refl m) half (inl (refl, at1)) (omega arith) (λ to lt e. e), below_grown m c g h w base p.container p.input frs (omega arith) (inr (omega arith)) (λ to lt e. e) b.below);
    }

-- ---- `leave`

get_node : (x : Hole) (c : ℕ) → Some x ≡ Some (record { node = c; act = None }) → x.node ≡ c
get_node x c e = cc

-- the hole at place k gets filled
rise_set : (n top k c : ℕ) (act : Option (Calls → Act)) (holes : List Hole) → slice_get holes k ≡ Some (record { node = c; act = None }) → HolesRise n top holes → HolesRise n top (slice_set holes k (record { node = c; act = act }))
rise_set n top k c act [] e r = r
rise_set n top zero c act (hole ∷ holes) e r = let q : hole.node ≡ c = get_node hole c e in subst (λ x. (n < x) × HolesRise x top holes) q r
rise_set n top (suc k) c act (hole ∷ holes) e r = (r.0, rise_set hole.node top k c act holes e r.1)

cases_set : (g : Graph) (n j k c : ℕ) (act : Option (Calls → Act)) (holes : List Hole) → slice_get holes k ≡ Some (record { node = c; act = None }) → CasesAt g n j holes → CasesAt g n j (slice_set holes k (record { node = c; act = act }))
cases_set g n j k c act [] e r = r
cases_set g n j zero c act (hole ∷ holes) e r = (subst (λ x. IsCaseAt g n j x) (get_node hole c e) r.0, r.1)
cases_set g n j (suc k) c act (hole ∷ holes) e r = (r.0, cases_set g n (suc j) k c act holes e r.1)

blocks_set : (g : Graph) (k c : ℕ) (act : Option (Calls → Act)) (holes : List Hole) → slice_get holes k ≡ Some (record { node = c; act = None }) → BlocksAt g holes → BlocksAt g (slice_set holes k (record { node = c; act = act }))
blocks_set g k c act [] e r = r
blocks_set g zero c act (hole ∷ holes) e r = (subst (λ x. IsBlockAt g x) (get_node hole c e) r.0, r.1)
blocks_set g (suc k) c act (hole ∷ holes) e r = (r.0, blocks_set g k c act holes e r.1)

entry_set : (g : Graph) (n k c : ℕ) (act : Option (Calls → Act)) (holes : List Hole) → slice_get holes k ≡ Some (record { node = c; act = None }) → EntryAt g n holes → EntryAt g n (slice_set holes k (record { node = c; act = act }))
entry_set g n k c act [] e r = r
entry_set g n zero c act (hole ∷ holes) e r = r ∙ ap Some (get_node hole c e)
entry_set g n (suc k) c act (hole ∷ holes) e r = r

functions_set : (g : Graph) (k c : ℕ) (act : Option (Calls → Act)) (holes : List Hole) → slice_get holes k ≡ Some (record { node = c; act = None }) → FunctionsAt g holes → FunctionsAt g (slice_set holes k (record { node = c; act = act }))
functions_set g k c act [] e r = r
functions_set g zero c act (hole ∷ holes) e r = (subst (λ x. IsFunctionAt g x) (get_node hole c e) r.0, r.1)
functions_set g (suc k) c act (hole ∷ holes) e r = (r.0, functions_set g k c act holes e r.1)

fill_set : (g : Graph) (n k c : ℕ) (act : Option (Calls → Act)) (fill : Fill) (holes : List Hole) → slice_get holes k ≡ Some (record { node = c; act = None }) → FillAt g n fill holes → FillAt g n fill (slice_set holes k (record { node = c; act = act }))
fill_set g n k c act Choice holes e f = record { rows = f.rows; ins = f.ins; outs = f.outs; is = f.is; cases = cases_set g n 0 k c act holes e f.cases }
fill_set g n k c act (Flow ways) holes e f = record { ins = f.ins; outs = f.outs; is = f.is; entry = entry_set g n k c act holes e f.entry; blocks = blocks_set g k c act holes e f.blocks; ways_at = f.ways_at }

region_wider : (g : Graph) (c lo hi lo' hi' : ℕ) (act : Calls → Act) → lo' ≤ lo → hi ≤ hi' → RegionAs g c lo hi act → RegionAs g c lo' hi' act
region_wider g c lo hi lo' hi' act l u r = record { by = λ h k e. r.by h k (same_part lo' hi' lo hi g h l u e) }

hole_longer : (g : Graph) (top start end n : ℕ) (act : Option (Calls → Act)) → start ≤ end → HoleDoes g top start n act → HoleDoes g top end n act
hole_longer g top start end n None le d = d
hole_longer g top start end n (Some act) le d = region_wider g n top start top end act (le_refl top) le d

-- holes behind the one that was open
holes_after : (g : Graph) (c m n top start end : ℕ) (holes : List Hole) → c ≤ m → HolesRise m top holes → start ≤ end → HolesDo g c top start holes → HolesDo g n top end holes
holes_after g c m n top start end [] cm r le d = tt
holes_after g c m n top start end (hole ∷ holes) cm r le d =
    let a = r.0 in
    let ne : hole.node ≢ c = omega arith in
    (λ _. hole_longer g top start end hole.node hole.act le (d.0 ne), holes_after g c hole.node n top start end holes (omega arith) r.1 le d.1)

holes_close : (g : Graph) (c m n top start end k : ℕ) (act : Calls → Act) (holes : List Hole) → HolesRise m top holes → slice_get holes k ≡ Some (record { node = c; act = None }) → start ≤ end → RegionAs g c top end act → HolesDo g c top start holes → HolesDo g n top end (slice_set holes k (record { node = c; act = Some act }))
holes_close g c m n top start end k act [] r e le run d = absurd cc
holes_close g c m n top start end zero act (hole ∷ holes) r e le run d =
    let q : c ≡ hole.node = sym (get_node hole c e) in
    (λ _. run, holes_after g c hole.node n top start end holes (omega arith) r.1 le d.1)
holes_close g c m n top start end (suc k) act (hole ∷ holes) r e le run d =
    let a = rise_get hole.node top k holes (record { node = c; act = None }) r.1 e in
    let a0 = a.0 in
    let ne : hole.node ≢ c = omega arith in
    (λ _. hole_longer g top start end hole.node hole.act le (d.0 ne), holes_close g c hole.node n top start end k act holes r.1 e le run d.1)

steps_below : (g : Graph) (known : List ℕ) (at end n : ℕ) (ss : List Step) → StepsAt g known at ss end → In n (nodes_of ss) → n < end
steps_below g known at end n [] st i = absurd i
steps_below g known at end n (s ∷ ss) st (inl e) =
    let a = st.3.below in let b = steps_rise g (s.node ∷ known) st.1 end ss st.4 in omega arith
steps_below g known at end n (s ∷ ss) st (inr i) = steps_below g (s.node ∷ known) st.1 end n ss st.4 i

into_front : (x n : ℕ) (ys : List ℕ) → In x ys → In x (ys ++ n ∷ [])
into_front x n [] i = absurd i
into_front x n (y ∷ ys) (inl e) = inl e
into_front x n (y ∷ ys) (inr i) = inr (into_front x n ys i)

no_order : (c l : Bool) → (not c && not l) ≡ true → l ≡ true → ⊥
no_order true l e f = cc
no_order false true e f = cc
no_order false false e f = cc

-- the order link of a Conditional rises
pub prior_rises : (g : Graph) (e start : ℕ) (fr : Frame) (inner : Option ℕ) → Halfway g e start fr → OrderFits g (leave_prior fr.outer inner) fr.outer.node
prior_rises g e start fr inner y = by_test (adds_order fr.outer inner) refl fr.outer.place.last refl
  where
    l_rises : (l : ℕ) → In l (nodes_of fr.steps) → OrderRises g l fr.outer.node
    l_rises l i =
        let c = fr.outer.place.container in let n = fr.outer.node in
        let x = rise_top n y.top fr.holes y.rise in
        let t = y.topped in let s = y.started in
        let ln : In l (firing_children g c) = subst (λ xs. In l xs) (sym y.firing) (into_front l n (nodes_of fr.steps) i) in
        let nn : In n (firing_children g c) = subst (λ xs. In n xs) (sym y.firing) (in_end (nodes_of fr.steps) n) in
        let kl = kid_is g c l ln in
        let cl = child_is g c l kl.0 in
        let cn = child_is g c n (kid_is g c n nn).0 in
        let pn : parent_at g n ≡ c = cn.1 in
        let up = above_at g (fr.outer.place.input ∷ []) (suc fr.outer.place.output) n fr.steps l y.steps i in
        let a = y.above in let b = y.next in
        record {
          rises = steps_below g (fr.outer.place.input ∷ []) (suc fr.outer.place.output) n l fr.steps y.steps i;
          within = omega arith;
          below = omega arith;
          same = cl.1 ∙ sym pn;
          fires_too = kl.1;
        }

    not_last : (inner : Option ℕ) (l : ℕ) → adds_order fr.outer inner ≡ true → fr.outer.place.last ≡ Some l → l ≢ fr.outer.node
    not_last None l e q x = cc
    not_last (Some z) l e q x =
        let r : is_last fr.outer.place.last fr.outer.node ≡ true = ap (λ o. is_last o fr.outer.node) q ∙ eq-eqb l fr.outer.node x in
        no_order fr.outer.chained (is_last fr.outer.place.last fr.outer.node) e r

    by_last : (last : Option ℕ) → fr.outer.place.last ≡ last → ((l : ℕ) → last ≡ Some l → l ≢ fr.outer.node) → LastIn last (nodes_of fr.steps ++ fr.outer.node ∷ []) → OrderFits g last fr.outer.node
    by_last None q ne i = tt
    by_last (Some l) q ne i = ⊎_elim (λ j. l_rises l j) (λ x. absurd (ne l refl x)) (in_last (nodes_of fr.steps) fr.outer.node l i)

    by_test : (t : Bool) → adds_order fr.outer inner ≡ t → (last : Option ℕ) → fr.outer.place.last ≡ last → OrderFits g (cond t fr.outer.place.last None) fr.outer.node
    by_test false e last q = tt
    by_test true e last q = by_last fr.outer.place.last refl (λ l z. not_last inner l e z) y.last

-- what links alone leave
same_links : (g : Graph) (ls : List Link) (lo hi : ℕ) → SamePart lo hi g (with_links g ls)
same_links g ls lo hi = record { grows = links_grow g ls; firing = λ m a b. firing_links g ls m }

laid_links : (g : Graph) (ls : List Link) (c i o : ℕ) (ss : List Step) (end : ℕ) → Laid g c i o ss end → Laid (with_links g ls) c i o ss end
laid_links g ls c i o ss end l =
    let w = links_grow g ls in
    record {
      input = w.kids c 0 i l.input;
      output = w.kids c 1 o l.output;
      firing = firing_links g ls c ∙ l.firing;
      above = l.above;
      next = l.next;
      within = l.within;
      steps = steps_in g (with_links g ls) (i ∷ []) (suc o) end ss (same_links g ls (suc o) end) l.steps;
    }

-- a region that gets its outputs runs as its steps do
closed_runs : (g : Graph) (p : Place) (width : ℕ) (ss : List Step) (ps : List Port) (lo : ℕ) → OpenAt g p width ss → width ≡ length ps → lo ≤ p.input → RegionAs (with_links g (value_links p.output 0 ps)) p.container lo (length g.nodes) (body p.input ss ps)
closed_runs g p width ss ps lo y wi le =
    let h = with_links g (value_links p.output 0 ps) in
    region_runs h p.container p.input p.output lo (length g.nodes) ss ps (laid_links g (value_links p.output 0 ps) p.container p.input p.output ss (length g.nodes) y.laid) (fed_new g p.output ps y.unfed) (ap (λ op. length (ins_of op)) (op_links g (value_links p.output 0 ps) p.output) ∙ y.wide ∙ wi) le

pub leave_built : (g : Graph) (base : Base) (p : Place) (width : ℕ) (fr : Frame) (frs : List Frame) (ss : List Step) (ps : List Port) → BuiltAt g base p width (fr ∷ frs) ss → width ≡ length ps → PortsIn ps (known_after (p.input ∷ []) ss) → FillingAt (after_leave g p.output ps (leave_prior fr.outer p.last) fr.outer.node) base (record fr.outer.place { last = leave_last fr.outer p.last }) fr.width frs fr.steps fr.outer.node fr.ins fr.fill (slice_set fr.holes fr.hole (record { node = p.container; act = Some (body p.input ss ps) }))
leave_built g base p width fr frs ss ps b wi pi =
    let y0 = b.below.1 in
    let is = b.below.0 in
    let m = length g.nodes in
    let c = p.container in let i = p.input in let o = p.output in
    let n = fr.outer.node in
    let i0 = fr.outer.place.input in let o0 = fr.outer.place.output in
    let prior = leave_prior fr.outer p.last in
    let vl = value_links o 0 ps in
    let ol = order_links prior n in
    let h1 = with_links g vl in
    let h = with_links h1 ol in
    let z = stands g p width ss b.open_at in
    let z0 : c < i = z.above in let z1 : i < o = z.next in let z2 : o < m = z.within in
    let s1 : Sound h1 = sound_values g o ps z2 (scope_below g p width ss ps b.open_at pi) b.sound in
    let w1 : Grown m m g h1 = links_grown m m g vl in
    let w2 : Grown m m h1 h = links_grown m m h1 ol in
    let w : Grown m m g h = grown_trans m m g h1 h w1 w2 in
    let t0 : y0.top ≤ i = y0.topped in
    let nt : n < y0.top = rise_top n y0.top fr.holes y0.rise in
    let at = rise_get n y0.top fr.hole fr.holes (record { node = c; act = None }) y0.rise is in
    let at0 : n < c = at.0 in
    let at1 : c < y0.top = at.1 in
    let e1 : i0 < o0 = y0.next in
    let e2 : suc o0 ≤ n = steps_rise g (i0 ∷ []) (suc o0) n fr.steps y0.steps in
    let uf : Unfed i g h = λ to lt e. let ne : to.node ≢ o = omega arith in unfed_order h1 prior n to (unfed_values g o ps to ne e) in
    let y1 : Halfway h1 c i fr = halfway_grown m m g h1 w1 c i fr (omega arith) y0 (inr (omega arith)) (omega arith) (λ to lt e. let ne : to.node ≢ o = omega arith in unfed_values g o ps to ne e) in
    let y : Halfway h c i fr = halfway_grown m m g h w c i fr (omega arith) y0 (inr (omega arith)) (omega arith) (unfed_less i n g h (omega arith) uf) in
    let t1 : y.top ≤ i = y.topped in
    let run1 : RegionAs h1 c y.top m (body i ss ps) = closed_runs g p width ss ps y.top b.open_at wi t1 in
    let run : RegionAs h c y.top m (body i ss ps) = region_in h1 h c y.top m (body i ss ps) (firing_links h1 ol c) (same_links h1 ol y.top m) run1 in
    record {
      sound = sound_order h1 prior n (prior_rises h1 c i fr p.last y1) s1;
      halfway = record {
        input = y.input;
        output = y.output;
        firing = y.firing;
        above = y.above;
        next = e1;
        steps = y.steps;
        wide = y.wide;
        unfed = y.unfed;
        last = by_last fr.outer (adds_order fr.outer p.last) y0.last;
        filling = fill_set h n fr.hole c (Some (body i ss ps)) fr.fill fr.holes is y.filling;
        fed = y.fed;
        inputs = y.inputs;
        ports = y.ports;
        top = y.top;
        rise = rise_set n y.top fr.hole c (Some (body i ss ps)) fr.holes is y.rise;
        topped = omega arith;
        started = le_refl m;
        does = holes_close h c n n y.top i m fr.hole (body i ss ps) fr.holes y.rise is (omega arith) run y.does;
      };
      below = below_grown m m g h w base fr.outer.place.container i0 frs (omega arith) (inr (omega arith)) (λ to lt e. uf to (omega arith) e) b.below.2;
    }
  where
    by_last : (outer : Outer) (t : Bool) → LastIn outer.place.last (nodes_of fr.steps ++ outer.node ∷ []) → LastIn (cond t (Some outer.node) outer.place.last) (nodes_of fr.steps ++ outer.node ∷ [])
    by_last outer true l = in_end (nodes_of fr.steps) outer.node
    by_last outer false l = l

-- ---- functions

pub open_built : (g : Graph) (functions : List Hole) (k c : ℕ) (ins outs : Types) → FunctionsBuilt g functions → slice_get functions k ≡ Some (record { node = c; act = None }) → BuiltAt (after_ends g c ins outs) (record { functions = functions; hole = k }) (inner_place g c) (length outs) [] []
open_built g functions k c ins outs b is =
    let y = b.at in
    let m = length g.nodes in
    let h = after_ends g c ins outs in
    let t : y.top ≤ m = y.topped in
    let at = rise_get 0 y.top k functions (record { node = c; act = None }) y.rise is in
    let at0 : 0 < c = at.0 in
    let at1 : c < y.top = at.1 in
    let w : Grown m c g h = ends_grown g c ins outs in
    let half : ModuleAt g c m functions = record { are = y.are; top = y.top; rise = y.rise; topped = t; started = le_refl m; does = holes_but g 0 c 0 y.top m functions (le_refl 0) y.rise y.does } in
    record {
      sound = ends_sound g c ins outs (omega arith) b.sound;
      open_at = ends_open g c ins outs b.sound (omega arith) (hole_empty g 0 0 y.top m k c functions (le_refl 0) y.rise y.does is);
      below = below_grown m c g h w (record { functions = functions; hole = k }) c m [] (le_refl m) (inl refl) (λ to lt e. e) (is, half);
    }

pub finish_built : (g : Graph) (base : Base) (p : Place) (width : ℕ) (ss : List Step) (ps : List Port) → BuiltAt g base p width [] ss → width ≡ length ps → PortsIn ps (known_after (p.input ∷ []) ss) → FunctionsBuilt (with_links g (value_links p.output 0 ps)) (slice_set base.functions base.hole (record { node = p.container; act = Some (body p.input ss ps) }))
finish_built g base p width ss ps b wi pi =
    let is = b.below.0 in
    let y0 = b.below.1 in
    let m = length g.nodes in
    let c = p.container in let i = p.input in let o = p.output in
    let z = stands g p width ss b.open_at in
    let z0 : c < i = z.above in let z1 : i < o = z.next in let z2 : o < m = z.within in
    let vl = value_links o 0 ps in
    let h = with_links g vl in
    let w : Grown m m g h = links_grown m m g vl in
    let bl : Below h base c i [] = below_grown m m g h w base c i [] (omega arith) (inr (omega arith)) (λ to lt e. let ne : to.node ≢ o = omega arith in unfed_values g o ps to ne e) b.below in
    let y : ModuleAt h c i base.functions = bl.1 in
    let t : y.top ≤ i = y.topped in
    record {
      sound = sound_values g o ps z2 (scope_below g p width ss ps b.open_at pi) b.sound;
      at = record {
        are = functions_set h base.hole c (Some (body i ss ps)) base.functions is y.are;
        top = y.top;
        rise = rise_set 0 y.top base.hole c (Some (body i ss ps)) base.functions is y.rise;
        topped = omega arith;
        started = le_refl m;
        does = holes_close h c 0 0 y.top i m base.hole (body i ss ps) base.functions y.rise is (omega arith) (closed_runs g p width ss ps y.top b.open_at wi t) y.does;
      };
    }

-- ---- blocks of a CFG

pub holes_push : (holes : List Hole) (n top c end : ℕ) (act : Option (Calls → Act)) → HolesRise n top holes → top ≤ c → c < end → HolesRise n end (holes ++ record { node = c; act = act } ∷ [])
holes_push [] n top c end act r le lt = (omega arith, lt)
holes_push (hole ∷ holes) n top c end act r le lt = (r.0, holes_push holes hole.node top c end act r.1 le lt)

unfilled_do : (g : Graph) (n top start end new : ℕ) (holes : List Hole) → Unfilled holes → HolesDo g n top start holes → HolesDo g n new end holes
unfilled_do g n top start end new [] u d = tt
unfilled_do g n top start end new (hole ∷ holes) u d =
    (λ ne. subst (HoleDoes g new end hole.node) (sym u.0) (subst (HoleDoes g top start hole.node) u.0 (d.0 ne)), unfilled_do g n top start end new holes u.1 d.1)

pub do_push : (g : Graph) (n top end c : ℕ) (holes : List Hole) → HolesDo g n top end holes → children g c ≡ [] → HolesDo g n top end (holes ++ record { node = c; act = None } ∷ [])
do_push g n top end c [] d e = (λ _. e, tt)
do_push g n top end c (hole ∷ holes) d e = (d.0, do_push g n top end c holes d.1 e)

blocks_push : (g : Graph) (holes : List Hole) (c : ℕ) → BlocksAt g holes → IsBlockAt g c → BlocksAt g (holes ++ record { node = c; act = None } ∷ [])
blocks_push g [] c b x = (x, tt)
blocks_push g (hole ∷ holes) c b x = (b.0, blocks_push g holes c b.1 x)

pub block_built : (g : Graph) (base : Base) (p : Place) (width : ℕ) (frs : List Frame) (ss : List Step) (n : ℕ) (ps : List Port) (ways : List Way) (holes : List Hole) (ins : Types) (rows : List Types) (others : Types) → FillingAt g base p width frs ss n ps (Flow ways) holes → Unfilled holes → FirstBlock g n holes → FillingAt (with_node g (DataflowBlock ins rows others) n) base p width frs ss n ps (Flow ways) (holes ++ record { node = length g.nodes; act = None } ∷ [])
block_built g base p width frs ss n ps ways holes ins rows others b u first =
    let y0 = b.halfway in
    let m = length g.nodes in
    let kind = DataflowBlock ins rows others in
    let h = with_node g kind n in
    let fr = frame_at p n true width ss ps (Flow ways) holes 0 in
    let t0 : y0.top ≤ m = y0.topped in
    let nt : n < y0.top = rise_top n y0.top holes y0.rise in
    let more : length h.nodes ≡ suc m = count_node g kind n in
    let w : Grown m n g h = node_grown m n n g kind (inl refl) in
    let y : Halfway h n m fr = halfway_grown m n g h w n m fr (le_refl m) y0 (inl (refl, nt)) (le_refl n) (λ to lt e. e) in
    let t : y.top ≤ m = y.topped in
    let z0 : p.container < p.input = y0.above in
    let z1 : p.input < p.output = y0.next in
    let z2 : suc p.output ≤ n = steps_rise g (p.input ∷ []) (suc p.output) n ss y0.steps in
    let mn : m ≢ n = omega arith in
    let is : IsBlockAt h m = record { ins = ins; rows = rows; others = others; is = op_new g kind n } in
    let none : children h m ≡ [] = children_other g kind n m mn ∙ no_children g b.sound.graph m (le_refl m) in
    record {
      sound = sound_node g kind n (omega arith) b.sound;
      halfway = record {
        input = y.input;
        output = y.output;
        firing = y.firing;
        above = y.above;
        next = y.next;
        steps = y.steps;
        wide = y.wide;
        unfed = y.unfed;
        last = y.last;
        fed = y.fed;
        inputs = y.inputs;
        ports = y.ports;
        filling = record { ins = y.filling.ins; outs = y.filling.outs; is = y.filling.is; entry = entry holes first y.filling.entry (children_parent g kind n (omega arith)); blocks = blocks_push h holes m y.filling.blocks is; ways_at = y.filling.ways_at };
        top = length h.nodes;
        rise = holes_push holes n y.top m (length h.nodes) None y.rise t (omega arith);
        topped = le_refl (length h.nodes);
        started = le_refl (length h.nodes);
        does = do_push h n (length h.nodes) (length h.nodes) m holes (unfilled_do h n y.top m (length h.nodes) (length h.nodes) holes u y.does) none;
      };
      below = below_grown m n g h w base p.container p.input frs (omega arith) (inr (omega arith)) (λ to lt e. e) b.below;
    }
  where
    entry : (holes : List Hole) → FirstBlock g n holes → EntryAt (with_node g (DataflowBlock ins rows others) n) n holes → children (with_node g (DataflowBlock ins rows others) n) n ≡ children g n ++ length g.nodes ∷ [] → EntryAt (with_node g (DataflowBlock ins rows others) n) n (holes ++ record { node = length g.nodes; act = None } ∷ [])
    entry [] f e k = ap (λ ks. slice_get ks 0) (k ∙ ap (λ ks. ks ++ length g.nodes ∷ []) f)
    entry (hole ∷ holes) f e k = e

pub exit_built : (g : Graph) (base : Base) (p : Place) (width : ℕ) (frs : List Frame) (ss : List Step) (n : ℕ) (ps : List Port) (ways : List Way) (holes : List Hole) (types : Types) → FillingAt g base p width frs ss n ps (Flow ways) holes → Unfilled holes → FillingAt (with_node g (ExitBlock types) n) base p width frs ss n ps (Flow ways) holes
exit_built g base p width frs ss n ps ways holes types b u =
    let y0 = b.halfway in
    let m = length g.nodes in
    let kind = ExitBlock types in
    let h = with_node g kind n in
    let fr = frame_at p n true width ss ps (Flow ways) holes 0 in
    let t0 : y0.top ≤ m = y0.topped in
    let nt : n < y0.top = rise_top n y0.top holes y0.rise in
    let more : length h.nodes ≡ suc m = count_node g kind n in
    let w : Grown m n g h = node_grown m n n g kind (inl refl) in
    let y : Halfway h n m fr = halfway_grown m n g h w n m fr (le_refl m) y0 (inl (refl, nt)) (le_refl n) (λ to lt e. e) in
    let t : y.top ≤ m = y.topped in
    let z0 : p.container < p.input = y0.above in
    let z1 : p.input < p.output = y0.next in
    let z2 : suc p.output ≤ n = steps_rise g (p.input ∷ []) (suc p.output) n ss y0.steps in
    record {
      sound = sound_node g kind n (omega arith) b.sound;
      halfway = record {
        input = y.input;
        output = y.output;
        firing = y.firing;
        above = y.above;
        next = y.next;
        steps = y.steps;
        wide = y.wide;
        unfed = y.unfed;
        last = y.last;
        fed = y.fed;
        inputs = y.inputs;
        ports = y.ports;
        filling = y.filling;
        top = y.top;
        rise = y.rise;
        topped = omega arith;
        started = le_refl (length h.nodes);
        does = unfilled_do h n y.top m (length h.nodes) y.top holes u y.does;
      };
      below = below_grown m n g h w base p.container p.input frs (omega arith) (inr (omega arith)) (λ to lt e. e) b.below;
    }

ways_push : (g : Graph) (ways : List Way) (way : Way) → WaysAt g ways → IsWayAt g way → WaysAt g (ways ++ way ∷ [])
ways_push g [] way x y = (y, tt)
ways_push g (v ∷ ways) way x y = (x.0, ways_push g ways way x.1 y)

ends_links : (g : Graph) (ls : List Link) (m : ℕ) (leaves : Bool) → EndsAt g leaves m → EndsAt (with_links g ls) leaves m
ends_links g ls m true e = record { types = e.types; is = op_links g ls m ∙ e.is }
ends_links g ls m false e = record { ins = e.ins; rows = e.rows; others = e.others; is = op_links g ls m ∙ e.is }

pub control_built : (g : Graph) (base : Base) (p : Place) (width : ℕ) (frs : List Frame) (ss : List Step) (n : ℕ) (ps : List Port) (ways : List Way) (holes : List Hole) (from : Port) (to : ℕ) (leaves : Bool) → FillingAt g base p width frs ss n ps (Flow ways) holes → from.node < length g.nodes → n < to → to < length g.nodes → EndsAt g leaves to → taker g.links from ≡ None → FillingAt (after_control g from to) base p width frs ss n ps (Flow (ways ++ record { from = from; to = to; leaves = leaves } ∷ [])) holes
control_built g base p width frs ss n ps ways holes from to leaves b fl nl tl en none =
    let y0 = b.halfway in
    let m = length g.nodes in
    let ls = Ports from (record { node = to; index = 0 }) ∷ [] in
    let h = after_control g from to in
    let fr = frame_at p n true width ss ps (Flow ways) holes 0 in
    let w : Grown m m g h = links_grown m m g ls in
    let t0 : y0.top ≤ m = y0.topped in
    let nt : n < y0.top = rise_top n y0.top holes y0.rise in
    let z0 : p.container < p.input = y0.above in
    let z1 : p.input < p.output = y0.next in
    let z2 : suc p.output ≤ n = steps_rise g (p.input ∷ []) (suc p.output) n ss y0.steps in
    let uf : Unfed n g h = λ t lt e. let ne : t.node ≢ to = omega arith in unfed_values g to (from ∷ []) t ne e in
    let y : Halfway h n m fr = halfway_grown m m g h w n m fr (le_refl m) y0 (inr (le_refl m)) (omega arith) uf in
    record {
      sound = sound_values g to (from ∷ []) tl (fl, tt) b.sound;
      halfway = record {
        input = y.input;
        output = y.output;
        firing = y.firing;
        above = y.above;
        next = y.next;
        steps = y.steps;
        wide = y.wide;
        unfed = y.unfed;
        last = y.last;
        fed = y.fed;
        inputs = y.inputs;
        ports = y.ports;
        filling = record { ins = y.filling.ins; outs = y.filling.outs; is = y.filling.is; entry = y.filling.entry; blocks = y.filling.blocks; ways_at = ways_push h ways (record { from = from; to = to; leaves = leaves }) y.filling.ways_at (record { target = record { node = to; index = 0 }; takes = taker_new g from (record { node = to; index = 0 }) none; node = refl; within = tl; ends = ends_links g ls to leaves en }) };
        top = y.top;
        rise = y.rise;
        topped = y.topped;
        started = y.started;
        does = y.does;
      };
      below = below_grown m m g h w base p.container p.input frs (omega arith) (inr (omega arith)) (unfed_less n p.input g h (omega arith) uf) b.below;
    }

-- a CFG has no child at first
pub flow_first : (g : Graph) (base : Base) (p : Place) (width : ℕ) (frs : List Frame) (ss : List Step) (ins outs : Types) (ps : List Port) → BuiltAt g base p width frs ss → length ins ≡ length ps → PortsIn ps (known_after (p.input ∷ []) ss) → children (after_node g (Cfg ins outs) p.container ps None p.last) (length g.nodes) ≡ []
flow_first g base p width frs ss ins outs ps b ar pi =
    let y = b.open_at in
    let z = stands g p width ss y in
    let z0 = z.above in let z1 = z.next in let z2 = z.within in
    (node_added g (Cfg ins outs) p.container ps None p.last (omega arith) b.sound (scope_below g p width ss ps y pi) tt (prior_in g p width ss p.last y y.last)).childless
