-- A function of one block, from the clauses of the calls.
use Rattle.std.proofs.Common.{◌≡◌, ◌≢◌, ◌⊎◌, inl, inr, ⊎_elim, ℕ, zero, suc, ◌+◌, ◌<◌, true, false, cond, eq-eqb, None, Some, List, [], ◌∷◌, ◌++◌, length, slice_get, slice_set, refl, sym, ap, ◌∙◌, subst, arith}
use Rattle.gp_base.specs.Membership.{In}
use Rattle.hg_ops.specs.GraphType.{sum_type, is_linear}
use Rattle.hg_ops.specs.Op.{Op, Types, Module, FuncDefn, Cfg, DataflowBlock, ExitBlock, Tag, Input, Output, ins_of, outs_of, inner_ins, inner_outs, is_effect, is_dataflow_container}
use Rattle.hg_graph.specs.Graph.{Graph, Port, op_at, parent_at}
use Rattle.hg_graph.specs.Valid.{is_output, is_block, block_ins}
use Rattle.hg_build.specs.Steps.{Step, Way, Hole, Grows, body, plain_act, cfg_act}
use Rattle.hg_build.specs.Wired.{IsOpened, IsNode, IsBlock, IsControl, IsEntered, IsLeft, IsFinished, with_node, with_links, value_links, order_links, effect_prior, ports_of, out_held, inner_of}
use Rattle.hg_build.specs.Built.{FunctionsBuilt, Base, Frame, Built, Filling, Flow, Fill}
use Rattle.hg_build.specs.Clauses.{OpenBuilt, OpBuilt, FinishBuilt, FlowBuilt, BlockBuilt, ControlBuilt, EnterBuilt, LeaveBuilt, InScope, step, empty_hole, full_hole, next_node}
use Rattle.hg_build.specs.Pending.{PendsAfter, Pends, Fits, linears}
use Rattle.hg_build.specs.Drawn.{Drawn, Typed, Blockish}
use Rattle.hg_build.specs.Kept.{OpenKept, OpKept, FlowKept, LeaveKept, FinishKept, EnterKept, BlockKept, ControlKept, DrawnIn}
use Rattle.hg_build.specs.Containing.{ContainsAt, TakenOff, OpenContains, EnterContains, OpContains, FlowContains, BlockContains, ControlContains, LeaveContains, FinishContains, FlowCharted, BlockCharted, ControlCharted, Charted, IsWhole, LeadsOn}
use Rattle.hg_build.specs.Ordering.{OpenOrdered, NodeOrdered, BlockOrdered, ControlOrdered, EnterOrdered, LeaveOrdered, FinishOrdered, OrderedIn}
use Rattle.hg_build.specs.Whole.{SoundSoFar}
use Rattle.hg_build.specs.Blocks.{first_port, way_out, tags, leaves_at_once, IsOneBlockFunction}
use Rattle.hg_build.specs.declared.region.Region.{Region}
use Rattle.hg_build.specs.declared.region.Place.{Place}
use Rattle.hg_build.specs.declared.region.Outer.{Outer}
use Rattle.hg_build.specs.declared.wire.Held.{Held}
use Rattle.hg_build.proofs.Calls.{filled_is_step}
use Rattle.hg_build.proofs.Grow.{count_node, op_new, parent_new, op_links, parent_links}
use Rattle.hg_build.proofs.Moves.{grows_trans}
use Rattle.hg_build.proofs.Known.{calls_grow}
use Rattle.hg_build.proofs.Rules.{exit_is}
use Rattle.hg_build.proofs.Containing.{whole_is_ready, output_is_there}

-- ---- what the calls say, one record for each
pub record OpenCall (old : Graph) (f : ℕ) (ins outs : Types) (r : Region) (h : List Held) : Type 0 where
  pub exact : IsOpened old f ins outs r h
  pub built : OpenBuilt old f (length outs) r
  pub pending : f < length old.nodes → PendsAfter old r.graph [] h
  pub kept : OpenKept old f r
  pub contained : OpenContains old f ins outs r
  pub ordered : OpenOrdered old f r

pub record FlowCall (r s : Region) (ins outs : Types) (hs : List Held) (n : ℕ) (h : List Held) : Type 0 where
  pub exact : IsNode r s (Cfg ins outs) (ports_of hs) None n h
  pub built : FlowBuilt r s ins (ports_of hs) n
  pub pending : PendsAfter r.graph s.graph hs h
  pub kept : FlowKept r s ins (ports_of hs)
  pub contained : FlowContains r s ins (ports_of hs)
  pub ordered : NodeOrdered r s (Cfg ins outs)
  pub charted : FlowCharted r s ins (ports_of hs) n

pub record BlockCall (r s : Region) (cfg : ℕ) (kind : Op) (n : ℕ) : Type 0 where
  pub exact : IsBlock r s cfg kind n
  pub built : BlockBuilt r s cfg kind n
  pub pending : outs_of kind ≡ [] → PendsAfter r.graph s.graph [] []
  pub kept : BlockKept r s cfg kind
  pub contained : BlockContains r s cfg kind
  pub ordered : BlockOrdered r s cfg kind
  pub charted : BlockCharted r s cfg n

pub record ControlCall (r s : Region) (from : Port) (to : ℕ) : Type 0 where
  pub exact : IsControl r s from to
  pub built : ControlBuilt r s from to
  pub pending : outs_of (op_at r.graph from.node) ≡ [] → PendsAfter r.graph s.graph [] []
  pub kept : ControlKept r s from to
  pub contained : ControlContains r s from
  pub ordered : ControlOrdered r s
  pub charted : ControlCharted r s from to

pub record EnterCall (r : Region) (c : ℕ) (outer : Outer) (s : Region) (h : List Held) : Type 0 where
  pub exact : IsEntered r c outer s h
  pub built : EnterBuilt r c outer s
  pub pending : c < length r.graph.nodes → PendsAfter r.graph s.graph [] h
  pub kept : EnterKept r c outer s
  pub contained : EnterContains r c outer s
  pub ordered : EnterOrdered r c outer s

pub record OpCall (r s : Region) (kind : Op) (hs h : List Held) : Type 0 where
  pub exact : IsNode r s kind (ports_of hs) None (length r.graph.nodes) h
  pub built : OpBuilt r s kind (ports_of hs)
  pub pending : PendsAfter r.graph s.graph hs h
  pub kept : OpKept r s kind (ports_of hs)
  pub contained : OpContains r s kind (ports_of hs)
  pub ordered : NodeOrdered r s kind

pub record LeaveCall (r : Region) (outer : Outer) (hs : List Held) (s : Region) : Type 0 where
  pub exact : IsLeft r outer (ports_of hs) s
  pub built : LeaveBuilt r outer (ports_of hs) s
  pub pending : PendsAfter r.graph s.graph hs []
  pub kept : LeaveKept r outer (ports_of hs) s
  pub contained : LeaveContains r (ports_of hs) s
  pub ordered : LeaveOrdered r outer s

pub record FinishCall (r : Region) (hs : List Held) (g : Graph) : Type 0 where
  pub built : FinishBuilt r (ports_of hs) g
  pub pending : PendsAfter r.graph g hs []
  pub kept : FinishKept r (ports_of hs) g
  pub contained : FinishContains r (ports_of hs) g
  pub ordered : FinishOrdered r g

-- ---- what new nodes are
abbrev entry_op : Op
entry_op = DataflowBlock [] ([] ∷ []) []

abbrev tag_op : Op
tag_op = Tag ([] ∷ []) 0

abbrev tag_wire : ℕ → Held
tag_wire n = record { node = n; index = 0; linear = is_linear (sum_type ([] ∷ [])) }

abbrev IsAt : Graph → ℕ → Op → ℕ → Type 0
IsAt g n kind p = (op_at g n ≡ kind) × (parent_at g n ≡ p) × (n < length g.nodes)

stays : (g h : Graph) (n p : ℕ) (kind : Op) → Grows g h → IsAt g n kind p → IsAt h n kind p
stays g h n p kind w a = let lt = a.2 in let m = w.more in (w.ops n lt ∙ a.0, w.parents n lt ∙ a.1, omega arith)

node_at : (r s : Region) (kind : Op) (ps : List Port) (n : ℕ) (h : List Held) → IsNode r s kind ps None n h → IsAt s.graph n kind r.place.container
node_at r s kind ps n h a =
    let m = length r.graph.nodes in
    let c = r.place.container in
    let g1 = with_node r.graph kind c in
    let g2 = with_links g1 (value_links m 0 ps) in
    let g3 = with_links g2 [] in
    let ls = order_links (effect_prior r.place.last kind) m in
    subst (λ x. IsAt s.graph x kind c) (sym a.number) (subst (λ x. IsAt x m kind c) (sym a.graph) (
      op_links g3 ls m ∙ op_links g2 [] m ∙ op_links g1 (value_links m 0 ps) m ∙ op_new r.graph kind c,
      parent_links g3 ls m ∙ parent_links g2 [] m ∙ parent_links g1 (value_links m 0 ps) m ∙ parent_new r.graph kind c,
      (let l = count_node r.graph kind c in omega arith),
    ))

block_at : (r s : Region) (kind : Op) (cfg n : ℕ) → IsBlock r s cfg kind n → IsAt s.graph n kind cfg
block_at r s kind cfg n a =
    let m = length r.graph.nodes in
    subst (λ x. IsAt s.graph x kind cfg) (sym a.number) (subst (λ x. IsAt x m kind cfg) (sym a.graph) (op_new r.graph kind cfg, parent_new r.graph kind cfg, (let l = count_node r.graph kind cfg in omega arith)))

pos : (old : Graph) (name : List ℕ) (m : ℕ) → op_at old m ≡ FuncDefn name [] [] → op_at old 0 ≡ Module → 0 < m
pos old name zero a b = let e : FuncDefn name [] [] ≡ Module = sym a ∙ b in absurd cc
pos old name (suc m) a b = omega arith

-- ---- the CFG is whole
abbrev rows_in : Op → List Types
rows_in (DataflowBlock ins rows others) = rows
rows_in _ = []

abbrev others_in : Op → Types
others_in (DataflowBlock ins rows others) = others
others_in _ = []

one_leads : (g : Graph) (b x p : ℕ) → IsAt g x (ExitBlock []) p → (rows : List Types) (others : Types) → rows ≡ [] ∷ [] → others ≡ [] → (k : ℕ) (row : Types) → slice_get rows k ≡ Some row → LeadsOn g (way_out b x ∷ []) b k row others
one_leads g b x p at rows others re oe zero row e =
    let r : row ≡ [] = let y : slice_get ([] ∷ []) 0 ≡ Some row = subst (λ z. slice_get z 0 ≡ Some row) re e in cc in
    subst (λ z. LeadsOn g (way_out b x ∷ []) b 0 z others) (sym r) (subst (λ z. LeadsOn g (way_out b x ∷ []) b 0 [] z) (sym oe) (record {
      once = rw (eq-eqb b b refl) refl;
      way = way_out b x;
      is = rw (eq-eqb b b refl) refl;
      block = ap is_block at.0;
      fits = ap block_ins at.0;
    }))
one_leads g b x p at rows others re oe (suc k) row e =
    let y : slice_get ([] ∷ []) (suc k) ≡ Some row = subst (λ z. slice_get z (suc k) ≡ Some row) re e in absurd cc

whole : (g : Graph) (n b x f : ℕ) → IsAt g n (Cfg [] []) f → f < n → IsAt g b entry_op n → IsAt g x (ExitBlock []) n → IsWhole g n (b ∷ x ∷ []) (way_out b x ∷ []) [] []
whole g n b x f an lt ab ax = record {
  apart = λ e. let q = an.1 in omega arith;
  is = an.0;
  entry = b;
  exit = x;
  rest = [];
  kids_are = refl;
  rows = [] ∷ [];
  others = [];
  entry_is = ab.0;
  exit_is = ax.0;
  no_other = λ m i. absurd i;
  leads = λ m ins' rows' others' i is k row e. leads m ins' rows' others' i is k row e;
}
  where
    not_exit : (m : ℕ) (ins' : Types) (rows' : List Types) (others' : Types) → m ≡ x → op_at g m ≡ DataflowBlock ins' rows' others' → ⊥
    not_exit m ins' rows' others' e is = let q : DataflowBlock ins' rows' others' ≡ ExitBlock [] = sym is ∙ ap (op_at g) e ∙ ax.0 in absurd cc

    leads : (m : ℕ) (ins' : Types) (rows' : List Types) (others' : Types) → In m (b ∷ x ∷ []) → op_at g m ≡ DataflowBlock ins' rows' others' → (k : ℕ) (row : Types) → slice_get rows' k ≡ Some row → LeadsOn g (way_out b x ∷ []) m k row others'
    leads m ins' rows' others' (inl e) is k row r =
        let q : DataflowBlock ins' rows' others' ≡ entry_op = sym is ∙ ap (op_at g) e ∙ ab.0 in
        subst (λ z. LeadsOn g (way_out b x ∷ []) z k row others') (sym e) (one_leads g b x n ax rows' others' (ap rows_in q) (ap others_in q) k row r)
    leads m ins' rows' others' (inr (inl e)) is k row r = absurd (not_exit m ins' rows' others' e is)
    leads m ins' rows' others' (inr (inr i)) is k row r = absurd i

-- ---- what the function does
abbrev leaving : (c i m d e x j q : ℕ) → Hole
leaving c i m d e x j q =
    full_hole c (body i (step m [] (cfg_act (full_hole d (body j (step q [] (plain_act tag_op) ∷ []) (first_port q ∷ [])) ∷ []) (way_out e x ∷ [])) ∷ []) [])

same_hole : (c i m d e x j q f n : ℕ) → c ≡ f → i ≡ n → m ≡ n + 2 → d ≡ n + 3 → e ≡ n + 3 → x ≡ n + 4 → j ≡ n + 5 → q ≡ n + 7 → leaving c i m d e x j q ≡ full_hole f (leaves_at_once n)
same_hole c i m d e x j q f n h1 h2 h3 h4 h5 h6 h7 h8 =
    ap (λ z. leaving z i m d e x j q) h1
    ∙ (ap (λ z. leaving f z m d e x j q) h2
    ∙ (ap (λ z. leaving f n z d e x j q) h3
    ∙ (ap (λ z. leaving f n (n + 2) z e x j q) h4
    ∙ (ap (λ z. leaving f n (n + 2) (n + 3) z x j q) h5
    ∙ (ap (λ z. leaving f n (n + 2) (n + 3) (n + 3) z j q) h6
    ∙ (ap (λ z. leaving f n (n + 2) (n + 3) (n + 3) (n + 4) z q) h7
    ∙ ap (λ z. leaving f n (n + 2) (n + 3) (n + 3) (n + 4) (n + 5) z) h8))))))

-- ---- the function
taken_off : (rest : List ℕ) (b : ℕ) → ((m : ℕ) → In m rest → m ≢ b) → TakenOff (b ∷ rest) b rest
taken_off rest b apart = record { here = inl refl; others = others; apart = λ m i. (inr i, apart m i) }
  where
    others : (m : ℕ) → In m (b ∷ rest) → (m ≡ b) ⊎ In m rest
    others m (inl e) = inl e
    others m (inr i) = inr i

module _ (old : Graph) (f : ℕ) (r1 r2 r3 r4 r5 r6 r7 r8 : Region) (outer : Outer) (cfg b x : ℕ) (h2 : List Held) (new : Graph) (oc : OpenCall old f [] [] r1 []) (fc : FlowCall r1 r2 [] [] [] cfg h2) (kb : BlockCall r2 r3 cfg entry_op b) (kx : BlockCall r3 r4 cfg (ExitBlock []) x) (kc : ControlCall r4 r5 (first_port b) x) (ke : EnterCall r5 b outer r6 []) (kt : OpCall r6 r7 tag_op [] (tag_wire (next_node r6) ∷ [])) (kl : LeaveCall r7 outer (tag_wire (next_node r6) ∷ []) r8) (kf : FinishCall r8 [] new) (functions : List Hole) (k : ℕ) (empty rest marked name : List ℕ) (s : SoundSoFar old functions empty marked) (is : slice_get functions k ≡ Some (empty_hole f)) (t : TakenOff empty f rest) (fn : op_at old f ≡ FuncDefn name [] []) (par : parent_at old f ≡ 0) where
  pub one_block : (marked' : List ℕ) × SoundSoFar new (slice_set functions k (full_hole f (leaves_at_once (length old.nodes)))) rest marked'
  one_block =
      let n = length old.nodes in
      let g0 = s.drawn.graph in
      let lt : f < n = s.contains.within f t.here in
      let root : op_at old 0 ≡ Module = let h = (s.drawn.places 0 (omega arith)).root refl in h.0 in
      let base : Base = record { functions = functions; hole = k } in
      let e2 : h2 ≡ [] = fc.exact.wires in
      let b1 : Built r1 base 0 [] [] = oc.built.by functions k s.built is in
      let d1 : DrawnIn r1 [] = oc.kept.by s.drawn lt (ap is_dataflow_container fn) in
      let c1 : ContainsAt r1.graph rest [] = oc.contained.by empty rest [] g0 t (sym (ap inner_ins fn)) (sym (ap inner_outs fn)) s.contains in
      let o1 : OrderedIn r1 [] marked = oc.ordered.by marked g0 (pos old name f fn root) lt par (ap is_dataflow_container root) (s.contains.contains.vacant f t.here) s.ordered in
      let p1 : Pends r1.graph [] = let p = oc.pending lt in p.by g0 [] [] s.pends tt (λ p. refl) in
      let n1 : next_node r1 ≡ n + 2 = let a = ap (λ (x : Graph). length x.nodes) oc.exact.graph in let l1 = count_node old (Input []) f in let l2 = count_node (with_node old (Input []) f) (Output []) f in omega arith in
      let v2 = fc.built.by base 0 [] [] b1 refl tt in
      let d2 : DrawnIn r2 [] = fc.kept.by base 0 [] [] b1 d1 tt tt in
      let c2 : ContainsAt r2.graph rest (cfg ∷ []) = subst (λ m. ContainsAt r2.graph rest (m ∷ [])) (sym fc.exact.number) (fc.contained.by base 0 [] [] rest [] b1 d1 tt tt c1) in
      let o2 = fc.ordered.by base 0 [] [] marked b1 o1 in
      let p2 : Pends r2.graph [] = subst (λ h. Pends r2.graph (linears h ++ [])) e2 (fc.pending.by b1.sound.graph [] [] p1 tt (λ p. refl)) in
      let ch2 = fc.charted.by base 0 [] [] b1 refl tt in
      let a2 = node_at r1 r2 (Cfg [] []) [] cfg h2 fc.exact in
      let n2 : next_node r2 ≡ n + 3 = let a = ap (λ (x : Graph). length x.nodes) fc.exact.graph in let l1 = count_node r1.graph (Cfg [] []) r1.place.container in omega arith in
      let m2 : cfg ≡ n + 2 = fc.exact.number ∙ n1 in
      let hs : List Hole = empty_hole b ∷ [] in
      let v3 : Filling r3 base 0 [] [] cfg [] (Flow []) hs = kb.built.block base 0 [] [] [] [] [] [] ([] ∷ []) [] refl v2.0 tt v2.1 in
      let d3 : DrawnIn r3 [] = kb.kept.block base 0 [] [] [] [] [] [] ([] ∷ []) [] refl v2.0 d2 (omega arith) in
      let c3 : ContainsAt r3.graph (b ∷ rest) (cfg ∷ []) = subst (λ m. ContainsAt r3.graph (m ∷ rest) (cfg ∷ [])) (sym kb.exact.number) (kb.contained.block base 0 [] [] [] [] [] [] ([] ∷ []) [] rest (cfg ∷ []) refl v2.0 (inl refl) c2) in
      let o3 = kb.ordered.by base 0 [] [] [] (Flow []) [] _ v2.0 refl o2 in
      let p3 : Pends r3.graph [] = let p = kb.pending refl in p.by v2.0.sound.graph [] [] p2 tt (λ p. refl) in
      let ch3 = kb.charted.by [] [] v2.0.sound.graph (omega arith) ch2 in
      let a3 = block_at r2 r3 entry_op cfg b kb.exact in
      let w3 = calls_grow.block r2 r3 cfg entry_op b kb.exact in
      let n3 : next_node r3 ≡ n + 4 = let a = ap (λ (x : Graph). length x.nodes) kb.exact.graph in let l1 = count_node r2.graph entry_op cfg in omega arith in
      let m3 : b ≡ n + 3 = kb.exact.number ∙ n2 in
      let v4 : Filling r4 base 0 [] [] cfg [] (Flow []) hs = kx.built.exit base 0 [] [] [] [] hs [] refl v3 (refl, tt) in
      let d4 : DrawnIn r4 [] = kx.kept.exit base 0 [] [] [] [] hs [] refl v3 d3 in
      let c4 : ContainsAt r4.graph (b ∷ rest) (cfg ∷ []) = kx.contained.exit base 0 [] [] [] [] hs [] (b ∷ rest) (cfg ∷ []) refl v3 (inl refl) c3 in
      let o4 = kx.ordered.by base 0 [] [] [] (Flow []) hs _ v3 refl o3 in
      let p4 : Pends r4.graph [] = let p = kx.pending refl in p.by v3.sound.graph [] [] p3 tt (λ p. refl) in
      let ch4 : Charted r4.graph cfg (b ∷ x ∷ []) [] = kx.charted.by (b ∷ []) [] v3.sound.graph (omega arith) ch3 in
      let ax4 = block_at r3 r4 (ExitBlock []) cfg x kx.exact in
      let w4 = calls_grow.block r3 r4 cfg (ExitBlock []) x kx.exact in
      let ab4 = stays r3.graph r4.graph b cfg entry_op w4 a3 in
      let m4 : x ≡ n + 4 = kx.exact.number ∙ n3 in
      let ways : List Way = way_out b x ∷ [] in
      let v5 : Filling r5 base 0 [] [] cfg [] (Flow ways) hs = kc.built.by base 0 [] [] cfg [] [] hs true v4 ab4.2 (omega arith) ax4.2 (record { types = []; is = ax4.0 }) (ch4.takes (first_port b) (inl refl)) in
      let d5 : DrawnIn r5 [] = kc.kept.by base 0 [] [] cfg [] [] hs [] ([] ∷ []) [] v4 d4 ab4.2 ax4.2 ab4.0 (omega arith) (subst Blockish (sym ax4.0) (exit_is [])) (ab4.1 ∙ sym ax4.1) in
      let c5 : ContainsAt r5.graph (b ∷ rest) (cfg ∷ []) = kc.contained.by (b ∷ rest) (cfg ∷ []) v4.sound.graph (inl ab4.1) c4 in
      let o5 = kc.ordered.by base 0 [] [] cfg [] (Flow []) hs _ v4 o4 in
      let p5 : Pends r5.graph [] = let p = kc.pending (ap outs_of ab4.0) in p.by v4.sound.graph [] [] p4 tt (λ p. refl) in
      let ch5 : Charted r5.graph cfg (b ∷ x ∷ []) ways = kc.charted.by cfg (b ∷ x ∷ []) [] true (inl refl) ch4 in
      let w5 = calls_grow.control r4 r5 (first_port b) x kc.exact in
      let ab5 = stays r4.graph r5.graph b cfg entry_op w5 ab4 in
      let ax5 = stays r4.graph r5.graph x cfg (ExitBlock []) w5 ax4 in
      let pf : r1.place.container ≡ f = ap (λ (p : Place). p.container) oc.exact.place in
      let ac5 = stays r4.graph r5.graph cfg r1.place.container (Cfg [] []) w5 (stays r3.graph r4.graph cfg r1.place.container (Cfg [] []) w4 (stays r2.graph r3.graph cfg r1.place.container (Cfg [] []) w3 a2)) in
      let ready : ContainsAt r5.graph (b ∷ rest) [] = whole_is_ready r5.graph cfg (b ∷ x ∷ []) ways [] [] (b ∷ rest) [] ch5 (whole r5.graph cfg b x r1.place.container ac5 (omega arith) ab5 ax5) c5 in
      let on : outer.node ≡ cfg = ap (λ (o : Outer). o.node) ke.exact.paused ∙ ab5.1 in
      let v5' : Filling r5 base 0 [] [] outer.node [] (Flow ways) hs = subst (λ m. Filling r5 base 0 [] [] m [] (Flow ways) hs) (sym on) v5 in
      let fr : Frame = record { outer = outer; width = 0; steps = []; ins = []; fill = Flow ways; holes = hs; hole = 0 } in
      let frs : List Frame = fr ∷ [] in
      let g5 = v5.sound.graph in
      let off : TakenOff (b ∷ rest) b rest = taken_off rest b (λ m i e. let l : m < n = s.contains.within m (t.apart m i).0 in omega arith) in
      let b6 : Built r6 base 1 frs [] = subst (λ w. Built r6 base w frs []) (ap (λ (o : Op). length (inner_of o).1) ab5.0) (ke.built.by base 0 [] [] [] (Flow ways) hs 0 v5' refl) in
      let d6 : DrawnIn r6 frs = ke.kept.by base 0 [] [] [] (Flow ways) hs 0 fr v5' refl d5 (ap is_dataflow_container ab5.0) refl in
      let c6 : ContainsAt r6.graph rest [] = ke.contained.by base 0 [] [] [] (Flow ways) hs 0 (b ∷ rest) rest [] v5' refl off ready in
      let o6 = ke.ordered.by base 0 [] [] [] (Flow ways) hs 0 fr _ v5' refl refl o5 in
      let p6 : Pends r6.graph [] = let p = ke.pending ab5.2 in p.by g5 [] [] p5 tt (λ p. refl) in
      let n6 = next_node r6 in
      let ss7 : List Step = step n6 [] (plain_act tag_op) ∷ [] in
      let b7 : Built r7 base 1 frs ss7 = kt.built.by base 1 frs [] b6 refl refl tt in
      let d7 : DrawnIn r7 frs = kt.kept.by base 1 frs [] b6 d6 refl (omega arith, omega arith) tt tt in
      let c7 : ContainsAt r7.graph rest [] = kt.contained.by base 1 frs [] rest [] b6 d6 refl tt tt c6 in
      let o7 = kt.ordered.by base 1 frs [] _ b6 o6 in
      let p7 : Pends r7.graph [] = kt.pending.by b6.sound.graph [] [] p6 tt (λ p. refl) in
      let n4 : next_node r4 ≡ n + 5 = let a = ap (λ (x : Graph). length x.nodes) kx.exact.graph in let l1 = count_node r3.graph (ExitBlock []) cfg in omega arith in
      let n5 : next_node r5 ≡ n + 5 = let a : next_node r5 ≡ next_node r4 = ap (λ (x : Graph). length x.nodes) kc.exact.graph in omega arith in
      let n6e : next_node r6 ≡ n + 7 = let a = ap (λ (x : Graph). length x.nodes) ke.exact.graph in let l1 = count_node r5.graph (Input (inner_of (op_at r5.graph b)).0) b in let l2 = count_node (with_node r5.graph (Input (inner_of (op_at r5.graph b)).0) b) (Output (inner_of (op_at r5.graph b)).1) b in omega arith in
      let r7c : r7.place.container ≡ b = ap (λ (p : Place). p.container) kt.exact.place ∙ ap (λ (p : Place). p.container) ke.exact.place in
      let r7i : r7.place.input ≡ n + 5 = let a : r7.place.input ≡ next_node r5 = ap (λ (p : Place). p.input) kt.exact.place ∙ ap (λ (p : Place). p.input) ke.exact.place in omega arith in
      let pc : r5.place.container ≡ f = ap (λ (p : Place). p.container) kc.exact.place ∙ (ap (λ (p : Place). p.container) kx.exact.place ∙ (ap (λ (p : Place). p.container) kb.exact.place ∙ (ap (λ (p : Place). p.container) fc.exact.place ∙ pf))) in
      let pi : r5.place.input ≡ n = ap (λ (p : Place). p.input) kc.exact.place ∙ (ap (λ (p : Place). p.input) kx.exact.place ∙ (ap (λ (p : Place). p.input) kb.exact.place ∙ (ap (λ (p : Place). p.input) fc.exact.place ∙ ap (λ (p : Place). p.input) oc.exact.place))) in
      let r8c : r8.place.container ≡ f = ap (λ (p : Place). p.container) kl.exact.place ∙ (ap (λ (o : Outer). o.place.container) ke.exact.paused ∙ pc) in
      let r8i : r8.place.input ≡ n = ap (λ (p : Place). p.input) kl.exact.place ∙ (ap (λ (o : Outer). o.place.input) ke.exact.paused ∙ pi) in
      let at7 = node_at r6 r7 tag_op [] n6 _ kt.exact in
      let w6 = calls_grow.entered r5 b outer r6 [] ke.exact in
      let w7 = calls_grow.node r6 r7 tag_op [] None n6 _ kt.exact in
      let ab7 = stays r6.graph r7.graph b cfg entry_op w7 (stays r5.graph r6.graph b cfg entry_op w6 ab5) in
      let io : inner_outs (op_at r7.graph r7.place.container) ≡ sum_type ([] ∷ []) ∷ [] = ap (λ z. inner_outs (op_at r7.graph z)) r7c ∙ ap inner_outs ab7.0 in
      let ot : op_at r7.graph r7.place.output ≡ Output (sum_type ([] ∷ []) ∷ []) = output_is_there r7 base 1 frs ss7 rest [] b7 d7 c7 ∙ ap Output io in
      let ps7 : List Port = first_port n6 ∷ [] in
      let ty7 : Typed r7.graph ps7 (ins_of (op_at r7.graph r7.place.output)) = subst (Typed r7.graph ps7) (sym (ap ins_of ot)) (ap (λ o. slice_get (outs_of o) 0) at7.0, tt) in
      let in7 : InScope r7 ss7 ps7 = (inl refl, tt) in
      let v8 = kl.built.by base 0 1 [] [] ss7 [] (Flow ways) hs 0 b7 refl in7 in
      let d8 : DrawnIn r8 [] = kl.kept.by base 1 fr [] ss7 refl b7 d7 ty7 (ap is_output ot) in7 in
      let c8 : ContainsAt r8.graph rest [] = kl.contained.by base 1 frs ss7 rest [] b7 ty7 in7 c7 in
      let o8 = kl.ordered.by base 1 fr [] ss7 _ refl b7 o7 in
      let p8 : Pends r8.graph [] = kl.pending.by b7.sound.graph [] [] p7 kt.pending.fits (λ p. refl) in
      let holes8 : List Hole = full_hole r7.place.container (body r7.place.input ss7 ps7) ∷ [] in
      let ss8 : List Step = step outer.node [] (cfg_act holes8 ways) ∷ [] in
      let b8 : Built r8 base 0 [] ss8 = filled_is_step r8 base 0 [] [] outer.node [] (Flow ways) holes8 v8 in
      let f1 = stays old r1.graph f 0 (FuncDefn name [] []) (calls_grow.opened old f [] [] r1 [] oc.exact) (fn, par, lt) in
      let f2 = stays r1.graph r2.graph f 0 (FuncDefn name [] []) (calls_grow.node r1 r2 (Cfg [] []) [] None cfg h2 fc.exact) f1 in
      let f5 = stays r4.graph r5.graph f 0 (FuncDefn name [] []) w5 (stays r3.graph r4.graph f 0 (FuncDefn name [] []) w4 (stays r2.graph r3.graph f 0 (FuncDefn name [] []) w3 f2)) in
      let f7 = stays r6.graph r7.graph f 0 (FuncDefn name [] []) w7 (stays r5.graph r6.graph f 0 (FuncDefn name [] []) w6 f5) in
      let f8 = stays r7.graph r8.graph f 0 (FuncDefn name [] []) (calls_grow.left r7 outer ps7 r8 kl.exact) f7 in
      let io8 : inner_outs (op_at r8.graph r8.place.container) ≡ [] = ap (λ z. inner_outs (op_at r8.graph z)) r8c ∙ ap inner_outs f8.0 in
      let ot8 : op_at r8.graph r8.place.output ≡ Output [] = output_is_there r8 base 0 [] ss8 rest [] b8 d8 c8 ∙ ap Output io8 in
      let ty8 : Typed r8.graph [] (ins_of (op_at r8.graph r8.place.output)) = subst (Typed r8.graph []) (sym (ap ins_of ot8)) tt in
      let does : full_hole r8.place.container (body r8.place.input ss8 []) ≡ full_hole f (leaves_at_once n)
      = same_hole r8.place.container r8.place.input outer.node r7.place.container b x r7.place.input n6 f n r8c r8i (on ∙ m2) (r7c ∙ m3) m3 m4 r7i n6e in
      let fb = kf.built.by base 0 ss8 b8 refl tt in
      let o9 = kf.ordered.by base 0 ss8 _ b8 o8.1 in (
        o9.0,
        record {
          built = subst (λ z. FunctionsBuilt new (slice_set functions k z)) does fb;
          drawn = kf.kept.by base 0 ss8 b8 d8 ty8 (ap is_output ot8) tt;
          pends = kf.pending.by b8.sound.graph [] [] p8 tt (λ p. refl);
          contains = kf.contained.by base 0 [] ss8 rest [] b8 ty8 tt c8;
          ordered = o9.1;
        },
      )

-- ---- with the rows and wires that a caller has
pub function_by : (old : Graph) (f : ℕ) (r1 r2 r3 r4 r5 r6 r7 r8 : Region) (outer : Outer) (cfg b x : ℕ) (i1 o1 i2 o2 i3 t3 i4 : Types) (ro3 ro7 : List Types) (h1 h2 h6 h7 h9 : List Held) (new : Graph)
    → i1 ≡ [] → o1 ≡ [] → i2 ≡ [] → o2 ≡ [] → i3 ≡ [] → ro3 ≡ [] ∷ [] → t3 ≡ [] → i4 ≡ [] → ro7 ≡ [] ∷ [] → h9 ≡ []
    → OpenCall old f i1 o1 r1 h1 → FlowCall r1 r2 i2 o2 h1 cfg h2 → BlockCall r2 r3 cfg (DataflowBlock i3 ro3 t3) b → BlockCall r3 r4 cfg (ExitBlock i4) x → ControlCall r4 r5 (first_port b) x
    → EnterCall r5 b outer r6 h6 → OpCall r6 r7 (Tag ro7 0) h6 h7 → LeaveCall r7 outer h7 r8 → FinishCall r8 h9 new → IsOneBlockFunction old f new
function_by old f r1 r2 r3 r4 r5 r6 r7 r8 outer cfg b x i1 o1 i2 o2 i3 t3 i4 ro3 ro7 h1 h2 h6 h7 h9 new a1 a2 a3 a4 a5 a6 a7 a8 a9 a10 oc0 fc0 kb0 kx0 kc ke0 kt0 kl0 kf0 =
    let oc1 : OpenCall old f [] [] r1 h1 = subst (λ z. OpenCall old f [] z r1 h1) a2 (subst (λ z. OpenCall old f z o1 r1 h1) a1 oc0) in
    let e1 : h1 ≡ [] = oc1.exact.wires in
    let oc : OpenCall old f [] [] r1 [] = subst (OpenCall old f [] [] r1) e1 oc1 in
    let fc : FlowCall r1 r2 [] [] [] cfg h2 = subst (λ z. FlowCall r1 r2 [] [] z cfg h2) e1 (subst (λ z. FlowCall r1 r2 [] z h1 cfg h2) a4 (subst (λ z. FlowCall r1 r2 z o2 h1 cfg h2) a3 fc0)) in
    let kb : BlockCall r2 r3 cfg entry_op b = subst (λ z. BlockCall r2 r3 cfg (DataflowBlock [] ([] ∷ []) z) b) a7 (subst (λ z. BlockCall r2 r3 cfg (DataflowBlock [] z t3) b) a6 (subst (λ z. BlockCall r2 r3 cfg (DataflowBlock z ro3 t3) b) a5 kb0)) in
    let kx : BlockCall r3 r4 cfg (ExitBlock []) x = subst (λ z. BlockCall r3 r4 cfg (ExitBlock z) x) a8 kx0 in
    let w4 = calls_grow.block r3 r4 cfg (ExitBlock []) x kx.exact in
    let w5 = calls_grow.control r4 r5 (first_port b) x kc.exact in
    let ab5 = stays r4.graph r5.graph b cfg entry_op w5 (stays r3.graph r4.graph b cfg entry_op w4 (block_at r2 r3 entry_op cfg b kb.exact)) in
    let e6 : h6 ≡ [] = ke0.exact.wires ∙ ap (λ (o : Op). out_held (next_node r5) 0 (inner_of o).0) ab5.0 in
    let ke : EnterCall r5 b outer r6 [] = subst (EnterCall r5 b outer r6) e6 ke0 in
    let kt1 : OpCall r6 r7 tag_op [] h7 = subst (λ z. OpCall r6 r7 tag_op z h7) e6 (subst (λ z. OpCall r6 r7 (Tag z 0) h6 h7) a9 kt0) in
    let e7 : h7 ≡ tag_wire (next_node r6) ∷ [] = kt1.exact.wires in
    let kt : OpCall r6 r7 tag_op [] (tag_wire (next_node r6) ∷ []) = subst (OpCall r6 r7 tag_op []) e7 kt1 in
    let kl : LeaveCall r7 outer (tag_wire (next_node r6) ∷ []) r8 = subst (λ z. LeaveCall r7 outer z r8) e7 kl0 in
    let kf : FinishCall r8 [] new = subst (λ z. FinishCall r8 z new) a10 kf0 in
    record { by = λ functions k empty rest marked name s is t fn par. one_block old f r1 r2 r3 r4 r5 r6 r7 r8 outer cfg b x h2 new oc fc kb kx kc ke kt kl kf functions k empty rest marked name s is t fn par }
