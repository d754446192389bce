-- What a node does, by its op.
use Rattle.std.proofs.Common.{◌≡◌, ◌≢◌, ℕ, ℤ, zero, suc, ◌+◌, ◌≤◌, ◌<◌, Bool, true, false, cond, eqb, eqb-true, ltb, List, [], ◌∷◌, ◌++◌, length, Option, Some, None, slice_get, refl, sym, ap, ◌∙◌, subst, arith, le_refl}
use Rattle.gp_base.specs.Run.{Out, Returned, Stopped, TurnsUsed, OutcomesUsed, DivisionByZero, Stuck, ◌>>=◌, ret}
use Rattle.gp_base.specs.World.{World, take_turn}
use Rattle.hg_ops.specs.Op.{Op, Types, FuncDefn, Const, Cfg, Conditional, Tag, Call, CallIndirect, LoadConstant, LoadFunction, Ext}
use Rattle.hg_graph.specs.Graph.{Graph, Port, op_at, children, feeder, taker, static_input, is_port}
use Rattle.hg_graph.specs.Run.{Open, Enter, no_note, with_world, at_node, at_port, with_variant, with_function, after_turn, fire_op, enter_op, jump, perform}
use Rattle.hg_graph.specs.Valid.{name_of}
use Rattle.hg_graph.specs.Value.{Value, Int, Qubit, Variant, Function, values, callee}
use Rattle.hg_laws.proofs.Named.{within}
use Rattle.hg_build.proofs.Names.{found_named}
use Rattle.hg_laws.proofs.Children.{both_true}
use Rattle.hg_build.specs.Steps.{Act, Calls, quiet, Tracks, Runner, Grows, SamePart, FiresAs, plain_act, constant_act, call_act, function_act, found_act, indirect_act, Finds, IsNamed, Hole, filled, hole_act, by_variant, choice_act, Way, hole_at, way_at, go_way, forward, walk, cfg_act, is_plain, HoleDoes, HolesDo, HolesWithin, CasesAt, IsBlockAt, BlocksAt, EndsAt, WaysAt}
use Rattle.hg_build.specs.Built.{EntryAt}
use Rattle.hg_build.proofs.Real.{tracks_then}
use Rattle.hg_build.proofs.Moves.{same_part}

tracks_world : {A : Type 0} (w : World) (o : Out World A) → Tracks o (with_world (quiet w) o)
tracks_world w (Returned a v) = refl
tracks_world w (Stopped TurnsUsed v) = refl
tracks_world w (Stopped OutcomesUsed v) = refl
tracks_world w (Stopped DivisionByZero v) = refl
tracks_world w (Stopped Stuck v) = tt

-- ---- ops without a region

plain_fires : (h : Graph) (R : Enter (Unit {0})) (kind : Op) → is_plain kind ≡ true → (outer : List Open) (n : ℕ) (vs : List Value) (w : World) → Tracks (perform kind vs w) (fire_op no_note h R R kind outer n vs (quiet w))
unfolding fire_op
plain_fires h R (Tag rows tag) e outer n vs w = tracks_world w (perform (Tag rows tag) vs w)
plain_fires h R (Ext x) e outer n vs w = tracks_world w (perform (Ext x) vs w)
plain_fires h R _ e outer n vs w = absurd (no e)
  where
    no : false ≡ true → ⊥
    no e = cc

pub plain_node : (g : Graph) (lo hi n : ℕ) (kind : Op) → n < length g.nodes → op_at g n ≡ kind → is_plain kind ≡ true → FiresAs g lo hi n (plain_act kind)
plain_node g lo hi n kind lt at is = record {
  by = λ h e R calls r outer vs w. rw (e.grows.ops n lt ∙ at) (plain_fires h R kind is outer n vs w);
}

static_same : (g h : Graph) (n : ℕ) → op_at h n ≡ op_at g n → static_input h n ≡ static_input g n
static_same g h n e = rw e refl

pub constant_node : (g : Graph) (lo hi n : ℕ) (p : Port) (value : ℤ) → n < length g.nodes → op_at g n ≡ LoadConstant → feeder g.links (static_input g n) ≡ Some p → p.node < length g.nodes → op_at g p.node ≡ Const value → FiresAs g lo hi n (constant_act value)
unfolding fire_op
constant_node g lo hi n p value lt at fed pl is = record {
  by = λ h e R calls r outer vs w.
      let same = e.grows.ops n lt in
      rw (same ∙ at, static_same g h n same, e.grows.feeders (static_input g n) p fed, e.grows.ops p.node pl ∙ is) refl;
}

pub call_node : (g : Graph) (lo hi n : ℕ) (p : Port) (ins outs : Types) → n < length g.nodes → op_at g n ≡ Call ins outs → feeder g.links (static_input g n) ≡ Some p → FiresAs g lo hi n (call_act p.node)
unfolding fire_op
call_node g lo hi n p ins outs lt at fed = record {
  by = λ h e R calls r outer vs w.
      let same = e.grows.ops n lt in
      rw (same ∙ at, static_same g h n same, e.grows.feeders (static_input g n) p fed) (tracks_then (take_turn w) (with_world (quiet w) (take_turn w)) (λ _. calls p.node vs) (λ _. R outer p.node vs) (tracks_world w (take_turn w)) (λ _ v. r.answers p.node outer vs v));
}

pub load_node : (g : Graph) (lo hi n : ℕ) (p : Port) (name : List ℕ) (ins outs ins' outs' : Types) → n < length g.nodes → op_at g n ≡ LoadFunction ins' outs' → feeder g.links (static_input g n) ≡ Some p → op_at g p.node ≡ FuncDefn name ins outs → FiresAs g lo hi n (function_act name)
unfolding fire_op
load_node g lo hi n p name ins outs ins' outs' lt at fed is = record {
  by = λ h e R calls r outer vs w.
      let same = e.grows.ops n lt in
      rw (same ∙ at, static_same g h n same, e.grows.feeders (static_input g n) p fed, e.grows.ops p.node (within g p.node name ins outs is) ∙ is) refl;
}

-- the functions that are found stay where they are
pub finds_in : (g h : Graph) (ins outs : Types) (name : List ℕ) (f : ℕ) → Grows g h → IsNamed g ins outs name f → IsNamed h ins outs name f
finds_in g h ins outs name f w x =
    let lt = within g f name ins outs x.is in
    record { is = w.ops f lt ∙ x.is; new = λ m l e. x.new m l (ap name_of (sym (w.ops m (omega arith))) ∙ e) }

pub indirect_node : (g : Graph) (lo hi n : ℕ) (ins outs : Types) (find : List ℕ → Option ℕ) → n < length g.nodes → op_at g n ≡ CallIndirect ins outs → Finds g ins outs find → FiresAs g lo hi n (indirect_act find)
unfolding fire_op
indirect_node g lo hi n ins outs find lt at fs = record {
  by = λ h e R calls r outer vs w. rw (e.grows.ops n lt ∙ at) (by_value h e R calls r outer vs w);
}
  where
    called : (h : Graph) → SamePart lo hi g h → (R : Enter (Unit {0})) (calls : Calls) → Runner h R calls → (outer : List Open) (name : List ℕ) (us : List Value) (w : World) (o : Option ℕ) → find name ≡ o → Tracks (found_act o calls us w) (at_node (callee h ins outs name) (λ f. after_turn R outer f us) (quiet w))
    called h e R calls r outer name us w None q = tt
    called h e R calls r outer name us w (Some f) q =
        rw (found_named h ins outs name f (finds_in g h ins outs name f e.grows (fs name f q)))
        (tracks_then (take_turn w) (with_world (quiet w) (take_turn w)) (λ _. calls f us) (λ _. R outer f us) (tracks_world w (take_turn w)) (λ _ v. r.answers f outer us v))

    by_value : (h : Graph) → SamePart lo hi g h → (R : Enter (Unit {0})) (calls : Calls) → Runner h R calls → (outer : List Open) (vs : List Value) (w : World) → Tracks (indirect_act find calls vs w) (with_function vs (λ name us. at_node (callee h ins outs name) (λ f. after_turn R outer f us)) (quiet w))
    by_value h e R calls r outer [] w = tt
    by_value h e R calls r outer (Int a ∷ vs) w = tt
    by_value h e R calls r outer (Qubit q ∷ vs) w = tt
    by_value h e R calls r outer (Variant k us ∷ vs) w = tt
    by_value h e R calls r outer (Function name ∷ vs) w = called h e R calls r outer name vs w (find name) refl

-- ---- nodes with regions

case_tracks : (g h : Graph) (n k top end : ℕ) (cases : List Hole) → HolesWithin n top cases → top ≤ end → end ≤ length g.nodes → CasesAt g n k cases → HolesDo g n top end cases → SamePart n end g h → (R : Enter (Unit {0})) (calls : Calls) → Runner h R calls → (j q : ℕ) → q ≡ k + j → (outer : List Open) (us : List Value) (w : World) → Tracks (hole_act (slice_get cases j) calls us w) (at_node (slice_get (children h n) q) (λ c. R outer c us) (quiet w))
unfolding enter_op
case_tracks g h n k top end [] i tp el c d e R calls r j q eq outer us w = tt
case_tracks g h n k top end (hole ∷ cases) i tp el c d e R calls r zero q eq outer us w =
    let eq' : q ≡ k = omega arith in
    rw (eq', e.grows.kids n k hole.node c.0.child) (by_act hole.act (d.0 ne))
  where
    ne : hole.node ≢ n
    ne = let a = i.0 in omega arith

    by_act : (act : Option (Calls → Act)) → HoleDoes g top end hole.node act → Tracks (filled act calls us w) (R outer hole.node us (quiet w))
    by_act None x = tt
    by_act (Some act) x =
        let a = i.0 in let b = i.1 in
        rw (r.unfolds outer hole.node us (quiet w), e.grows.ops hole.node (omega arith) ∙ c.0.is)
        (x.by h (e.firing hole.node (omega arith) (omega arith)) (same_part n end top end g h (omega arith) (le_refl end) e) R calls r outer us w)
case_tracks g h n k top end (hole ∷ cases) i tp el c d e R calls r (suc j) q eq outer us w =
    case_tracks g h n (suc k) top end cases i.2 tp el c.1 d.1 e R calls r j q (omega arith) outer us w

-- a Conditional does what its cases do
pub choice_node : (g : Graph) (n top end : ℕ) (rows : List Types) (ins outs : Types) (cases : List Hole) → op_at g n ≡ Conditional rows ins outs → n < length g.nodes → HolesWithin n top cases → top ≤ end → end ≤ length g.nodes → CasesAt g n 0 cases → HolesDo g n top end cases → FiresAs g n end n (choice_act cases)
unfolding fire_op enter_op
choice_node g n top end rows ins outs cases at lt i tp el c d = record {
  by = λ h e R calls r outer vs w.
      rw (e.grows.ops n lt ∙ at, r.unfolds outer n vs (quiet w), e.grows.ops n lt ∙ at) (by_value h e R calls r outer vs w);
}
  where
    by_value : (h : Graph) → SamePart n end g h → (R : Enter (Unit {0})) (calls : Calls) → Runner h R calls → (outer : List Open) (vs : List Value) (w : World) → Tracks (choice_act cases calls vs w) (with_variant vs (λ k us. at_node (slice_get (children h n) k) (λ c. R outer c us)) (quiet w))
    by_value h e R calls r outer [] w = tt
    by_value h e R calls r outer (Int a ∷ vs) w = tt
    by_value h e R calls r outer (Qubit q ∷ vs) w = tt
    by_value h e R calls r outer (Function name ∷ vs) w = tt
    by_value h e R calls r outer (Variant k us ∷ vs) w =
        case_tracks g h n 0 top end cases i tp el c d e R calls r k k (omega arith) outer (values us ++ vs) w

pub port_is : (a b : Port) → is_port a b ≡ true → a ≡ b
port_is a b e =
    let t = both_true (eqb a.node b.node) (eqb a.index b.index) e in
    let x : a.node ≡ b.node = eqb-true a.node b.node t.0 in
    let y : a.index ≡ b.index = eqb-true a.index b.index t.1 in
    λ i. record { node = x i; index = y i }

-- ---- the walk over the blocks of a CFG

-- node m does this, under what runs the nodes
abbrev pub Enters : Enter (Unit {0}) → (ℕ → Act) → Type 0
Enters R f = (m : ℕ) (outer : List Open) (vs : List Value) (w : World) → Tracks (f m vs w) (R outer m vs (quiet w))

module _ (g h : Graph) (n top end : ℕ) (tp : top ≤ end) (el : end ≤ length g.nodes) (e : SamePart n end g h) (R : Enter (Unit {0})) (calls : Calls) (r : Runner h R calls) where
  jump_tracks : (inside again : ℕ → Act) → Enters R inside → Enters R again → (m : ℕ) (ways : List Way) → WaysAt g ways → (k : ℕ) (outer : List Open) (vs : List Value) (w : World) → Tracks (go_way inside again m (way_at ways (record { node = m; index = k })) vs w) (at_port (taker h.links (record { node = m; index = k })) (λ to. jump no_note h R R (op_at h to) outer m to vs) (quiet w))
  jump_tracks inside again is ag m [] ws k outer vs w = tt
  jump_tracks inside again is ag m (way ∷ ways) ws k outer vs w =
      by_port (is_port way.from (record { node = m; index = k })) refl (jump_tracks inside again is ag m ways ws.1 k outer vs w)
    where
      turn : (to : ℕ) (outer : List Open) (vs : List Value) (w : World) → Tracks ((take_turn >>= (λ _. again to vs)) w) (after_turn R outer to vs (quiet w))
      turn to outer vs w = tracks_then (take_turn w) (with_world (quiet w) (take_turn w)) (λ _. again to vs) (λ _. R outer to vs) (tracks_world w (take_turn w)) (λ _ v. ag to outer vs v)

      by_less : (b : Bool) (to : ℕ) → Tracks (cond b (inside to vs) (take_turn >>= (λ _. again to vs)) w) (cond b (R outer to vs) (after_turn R outer to vs) (quiet w))
      by_less true to = is to outer vs w
      by_less false to = turn to outer vs w

      by_end : (leaves : Bool) (to : ℕ) → to < length g.nodes → EndsAt g leaves to → Tracks (cond leaves (ret vs) (cond (ltb m to) (inside to vs) (take_turn >>= (λ _. again to vs))) w) (jump no_note h R R (op_at h to) outer m to vs (quiet w))
      by_end true to lt x = rw (e.grows.ops to lt ∙ x.is) refl
      by_end false to lt x = rw (e.grows.ops to lt ∙ x.is) (by_less (ltb m to) to)

      by_port : (b : Bool) → is_port way.from (record { node = m; index = k }) ≡ b → Tracks (go_way inside again m (way_at ways (record { node = m; index = k })) vs w) (at_port (taker h.links (record { node = m; index = k })) (λ to. jump no_note h R R (op_at h to) outer m to vs) (quiet w)) → Tracks (go_way inside again m (cond b (Some way) (way_at ways (record { node = m; index = k }))) vs w) (at_port (taker h.links (record { node = m; index = k })) (λ to. jump no_note h R R (op_at h to) outer m to vs) (quiet w))
      by_port false q rest = rest
      by_port true q rest =
          let x = ws.0 in
          let p : way.from ≡ record { node = m; index = k } = port_is way.from (record { node = m; index = k }) q in
          let t : taker h.links (record { node = m; index = k }) ≡ Some x.target = e.grows.takers (record { node = m; index = k }) x.target (ap (taker g.links) (sym p) ∙ x.takes) in
          rw (t, x.node) (by_end way.leaves way.to x.within x.ends)

  -- a block that is filled
  block_tracks : (inside again : ℕ → Act) → Enters R inside → Enters R again → (ways : List Way) → WaysAt g ways → (m : ℕ) → n < m → m < top → IsBlockAt g m → (act : Option (Calls → Act)) → HoleDoes g top end m act → (outer : List Open) (vs : List Value) (w : World) → Tracks ((filled act calls vs >>= (λ us. by_variant us (λ k xs. go_way inside again m (way_at ways (record { node = m; index = k })) xs))) w) (R outer m vs (quiet w))
  unfolding enter_op
  block_tracks inside again is ag ways ws m above below at None x outer vs w = tt
  block_tracks inside again is ag ways ws m above below at (Some act) x outer vs w =
      rw (r.unfolds outer m vs (quiet w), e.grows.ops m (omega arith) ∙ at.is)
      (tracks_then (act calls vs w) _ _ _ (x.by h (e.firing m (omega arith) (omega arith)) (same_part n end top end g h (omega arith) (le_refl end) e) R calls r outer vs w) leads)
    where
      leads : (us : List Value) (v : World) → Tracks (by_variant us (λ k xs. go_way inside again m (way_at ways (record { node = m; index = k })) xs) v) (with_variant us (λ k xs. at_port (taker h.links (record { node = m; index = k })) (λ to. jump no_note h R R (op_at h to) outer m to xs)) (quiet v))
      leads [] v = tt
      leads (Int a ∷ us) v = tt
      leads (Qubit q ∷ us) v = tt
      leads (Function name ∷ us) v = tt
      leads (Variant k xs ∷ us) v = jump_tracks inside again is ag m ways ws k outer (values xs ++ us) v

  -- the block with this number
  at_block : (inside again : ℕ → Act) → Enters R inside → Enters R again → (ways : List Way) → WaysAt g ways → (blocks : List Hole) → HolesWithin n top blocks → BlocksAt g blocks → HolesDo g n top end blocks → (m : ℕ) (outer : List Open) (vs : List Value) (w : World) → Tracks ((hole_act (hole_at blocks m) calls vs >>= (λ us. by_variant us (λ k xs. go_way inside again m (way_at ways (record { node = m; index = k })) xs))) w) (R outer m vs (quiet w))
  at_block inside again is ag ways ws [] i b d m outer vs w = tt
  at_block inside again is ag ways ws (hole ∷ blocks) i b d m outer vs w =
      by_node (eqb hole.node m) refl (at_block inside again is ag ways ws blocks i.2 b.1 d.1 m outer vs w)
    where
      here : hole.node ≡ m → Tracks ((filled hole.act calls vs >>= (λ us. by_variant us (λ k xs. go_way inside again m (way_at ways (record { node = m; index = k })) xs))) w) (R outer m vs (quiet w))
      here q =
          let a = i.0 in let c = i.1 in
          let ne : hole.node ≢ n = omega arith in
          block_tracks inside again is ag ways ws m (omega arith) (omega arith) (subst (λ x. IsBlockAt g x) q b.0) hole.act (subst (λ x. HoleDoes g top end x hole.act) q (d.0 ne)) outer vs w

      by_node : (t : Bool) → eqb hole.node m ≡ t → Tracks ((hole_act (hole_at blocks m) calls vs >>= (λ us. by_variant us (λ k xs. go_way inside again m (way_at ways (record { node = m; index = k })) xs))) w) (R outer m vs (quiet w)) → Tracks ((hole_act (cond t (Some hole) (hole_at blocks m)) calls vs >>= (λ us. by_variant us (λ k xs. go_way inside again m (way_at ways (record { node = m; index = k })) xs))) w) (R outer m vs (quiet w))
      by_node false q rest = rest
      by_node true q rest = here (eqb-true hole.node m q)

  module _ (blocks : List Hole) (ways : List Way) (i : HolesWithin n top blocks) (b : BlocksAt g blocks) (ws : WaysAt g ways) (d : HolesDo g n top end blocks) where
    forward_tracks : (again : ℕ → Act) → Enters R again → (count : ℕ) → Enters R (forward blocks ways calls again count)
    forward_tracks again ag zero m outer vs w = tt
    forward_tracks again ag (suc count) m outer vs w =
        at_block (forward blocks ways calls again count) again (forward_tracks again ag count) ag ways ws blocks i b d m outer vs w

    walk_tracks : (turns : ℕ) → Enters R (walk blocks ways calls turns)
    walk_tracks zero m outer vs w = tt
    walk_tracks (suc turns) m outer vs w = forward_tracks (walk blocks ways calls turns) (walk_tracks turns) (length blocks) m outer vs w

-- a CFG walks over its blocks
pub cfg_node : (g : Graph) (n top end : ℕ) (ins outs : Types) (blocks : List Hole) (ways : List Way) → op_at g n ≡ Cfg ins outs → n < length g.nodes → HolesWithin n top blocks → top ≤ end → end ≤ length g.nodes → EntryAt g n blocks → BlocksAt g blocks → WaysAt g ways → HolesDo g n top end blocks → FiresAs g n end n (cfg_act blocks ways)
unfolding fire_op enter_op
cfg_node g n top end ins outs [] ways at lt i tp el en b ws d = record { by = λ h e R calls r outer vs w. tt }
cfg_node g n top end ins outs (entry ∷ blocks) ways at lt i tp el en b ws d = record {
  by = λ h e R calls r outer vs w.
      rw (e.grows.ops n lt ∙ at, r.unfolds outer n vs (quiet w), e.grows.ops n lt ∙ at, e.grows.kids n 0 entry.node en)
      (walk_tracks g h n top end tp el e R calls r (entry ∷ blocks) ways i b ws d (suc w.turns) entry.node outer vs w);
}
