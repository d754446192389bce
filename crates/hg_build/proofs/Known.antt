-- Wires that a region knows.
use Rattle.std.proofs.Common.{◌≡◌, inl, inr, ℕ, ℤ, suc, List, [], ◌∷◌, ◌++◌, length, Option, Some, None, slice_get, refl, sym, ap, ◌∙◌, subst}
use Rattle.gp_base.specs.Membership.{In}
use Rattle.hg_ops.specs.GraphType.{GraphType}
use Rattle.hg_ops.specs.Op.{Op, Types, Const, Conditional, LoadConstant, outs_of}
use Rattle.hg_graph.specs.Graph.{Graph, Port, op_at}
use Rattle.hg_build.specs.Steps.{Step, known_after, Grows}
use Rattle.hg_build.specs.Wired.{out_held, with_node, with_links, value_links, order_links, after_node, after_constant, after_choice, after_leave}
use Rattle.hg_build.specs.Built.{Frame, Base, Built}
use Rattle.hg_build.specs.Clauses.{next_node, step}
use Rattle.hg_build.specs.Known.{AreWires, ServesCalls, WiresServe, CallsGrow}
use Rattle.hg_build.specs.declared.region.Region.{Region}
use Rattle.hg_build.specs.declared.region.Place.{Place}
use Rattle.hg_build.specs.declared.wire.Held.{Held}
use Rattle.hg_build.proofs.Moves.{grows_trans}
use Rattle.hg_build.proofs.Grow.{node_grows, links_grow}
use Rattle.hg_build.proofs.Rules.{known_child, after_grows, cases_grow, ends_grow}
use Rattle.hg_build.proofs.Ordering.{after_at}

serve : (r : Region) (base : Base) (width : ℕ) (frs : List Frame) (ss : List Step) (hs : List Held) (ts : Types) → Built r base width frs ss → AreWires r ss hs ts → ServesCalls r ss hs ts
serve r base width frs ss [] [] b w = record { scope = tt; typed = tt; fits = tt; many = refl }
serve r base width frs ss [] (t ∷ ts) b w = absurd w
serve r base width frs ss (h ∷ hs) [] b w = absurd w
serve r base width frs ss (h ∷ hs) (t ∷ ts) b w =
    let x = serve r base width frs ss hs ts b w.1 in
    let y = w.0 in
    record {
      scope = (y.known, x.scope);
      typed = (y.type, x.typed);
      fits = (record { within = (known_child r.graph r.place width ss h.node b.open_at y.known).0; type = t; is = y.type; same = y.linear }, x.fits);
      many = ap suc x.many;
    }

known_more : (known : List ℕ) (ss : List Step) (s : Step) (m : ℕ) → In m (known_after known ss) → In m (known_after known (ss ++ s ∷ []))
known_more known [] s m i = inr i
known_more known (x ∷ ss) s m i = known_more (x.node ∷ known) ss s m i

known_last : (known : List ℕ) (ss : List Step) (s : Step) → In s.node (known_after known (ss ++ s ∷ []))
known_last known [] s = inl refl
known_last known (x ∷ ss) s = known_last (x.node ∷ known) ss s

-- wires stay as the graph grows by a step
wires_stay : (old new : Region) (base : Base) (width : ℕ) (frs : List Frame) (ss : List Step) (s : Step) (hs : List Held) (ts : Types) → Built old base width frs ss → Grows old.graph new.graph → new.place.input ≡ old.place.input → AreWires old ss hs ts → AreWires new (ss ++ s ∷ []) hs ts
wires_stay old new base width frs ss s [] [] b g e w = tt
wires_stay old new base width frs ss s [] (t ∷ ts) b g e w = absurd w
wires_stay old new base width frs ss s (h ∷ hs) [] b g e w = absurd w
wires_stay old new base width frs ss s (h ∷ hs) (t ∷ ts) b g e w =
    let y = w.0 in
    let lt = (known_child old.graph old.place width ss h.node b.open_at y.known).0 in (
      record {
        known = subst (λ i. In h.node (known_after (i ∷ []) (ss ++ s ∷ []))) (sym e) (known_more (old.place.input ∷ []) ss s h.node y.known);
        type = ap (λ o. slice_get (outs_of o) h.index) (g.ops h.node lt) ∙ y.type;
        linear = y.linear;
      },
      wires_stay old new base width frs ss s hs ts b g e w.1,
    )

handed_from : (new : Region) (ss : List Step) (s : Step) (kind : Op) (front ts : Types) (q : ℕ) → q ≡ length front → outs_of kind ≡ front ++ ts → op_at new.graph s.node ≡ kind → AreWires new (ss ++ s ∷ []) (out_held s.node q ts) ts
handed_from new ss s kind front [] q e f at = tt
handed_from new ss s kind front (t ∷ ts) q e f at = (
  record {
    known = known_last (new.place.input ∷ []) ss s;
    type = ap (λ o. slice_get (outs_of o) q) at ∙ ap (λ xs. slice_get xs q) f ∙ ap (λ k. slice_get (front ++ t ∷ ts) k) e ∙ get_after front t ts;
    linear = refl;
  },
  handed_from new ss s kind (front ++ t ∷ []) ts (suc q) (ap suc e ∙ sym (longer front t)) (f ∙ sym (moved front t ts)) at,
)
  where
    get_after : (xs : Types) (x : GraphType) (ys : Types) → slice_get (xs ++ x ∷ ys) (length xs) ≡ Some x
    get_after [] x ys = refl
    get_after (z ∷ xs) x ys = get_after xs x ys

    longer : (xs : Types) (x : GraphType) → length (xs ++ x ∷ []) ≡ suc (length xs)
    longer [] x = refl
    longer (z ∷ xs) x = ap suc (longer xs x)

    moved : (xs : Types) (x : GraphType) (ys : Types) → (xs ++ x ∷ []) ++ ys ≡ xs ++ x ∷ ys
    moved [] x ys = refl
    moved (z ∷ xs) x ys = ap (λ us. z ∷ us) (moved xs x ys)

pub wires_serve : WiresServe
wires_serve = record {
  serve = serve;
  grown = wires_stay;
  stay = λ old new base width frs ss kind ps source n handed hs ts act b a w.
      wires_stay old new base width frs ss (step (next_node old) ps act) hs ts b (subst (Grows old.graph) (sym a.graph) (after_grows old.graph kind old.place.container ps source _)) (ap (λ (p : Place). p.input) a.place) w;
  handed = λ old new ss kind ps source n handed act a.
      subst (λ hs. AreWires new (ss ++ step (next_node old) ps act ∷ []) hs (outs_of kind)) (sym a.wires)
      (handed_from new ss (step (next_node old) ps act) kind [] (outs_of kind) 0 refl refl (ap (λ g. op_at g (next_node old)) a.graph ∙ (after_at old.graph kind old.place.container ps source _).0));
  stay_constant = λ old new base width frs ss value out hs ts act b a w.
      let g = old.graph in let c = old.place.container in
      let g1 = with_node g (Const value) c in
      let grows : Grows g (after_constant g value c) = grows_trans g g1 (after_constant g value c) (node_grows g (Const value) c) (after_grows g1 LoadConstant c [] (Some (length g.nodes)) None) in
      wires_stay old new base width frs ss (step (suc (next_node old)) [] act) hs ts b (subst (Grows g) (sym a.graph) grows) (ap (λ (p : Place). p.input) a.place) w;
  stay_choice = λ old new base width frs ss rows ins outs ps n handed hs ts act b a w.
      let g = old.graph in let c = old.place.container in
      let h1 = after_node g (Conditional rows ins outs) c ps None None in
      let h = after_choice g rows ins outs c ps in
      let grows : Grows g h = grows_trans g h1 h (after_grows g (Conditional rows ins outs) c ps None None) (cases_grow (length g.nodes) rows ins outs h1) in
      wires_stay old new base width frs ss (step (next_node old) ps act) hs ts b (subst (Grows g) (sym a.graph) grows) (ap (λ (p : Place). p.input) a.place) w;
}

constant_grows : (g : Graph) (value : ℤ) (c : ℕ) → Grows g (after_constant g value c)
constant_grows g value c =
    let g1 = with_node g (Const value) c in
    grows_trans g g1 (after_constant g value c) (node_grows g (Const value) c) (after_grows g1 LoadConstant c [] (Some (length g.nodes)) None)

choice_grows : (g : Graph) (rows : List Types) (ins outs : Types) (c : ℕ) (ps : List Port) → Grows g (after_choice g rows ins outs c ps)
choice_grows g rows ins outs c ps =
    let h1 = after_node g (Conditional rows ins outs) c ps None None in
    grows_trans g h1 (after_choice g rows ins outs c ps) (after_grows g (Conditional rows ins outs) c ps None None) (cases_grow (length g.nodes) rows ins outs h1)

leave_grows : (g : Graph) (o : ℕ) (ps : List Port) (prior : Option ℕ) (n : ℕ) → Grows g (after_leave g o ps prior n)
leave_grows g o ps prior n =
    let h1 = with_links g (value_links o 0 ps) in
    grows_trans g h1 (after_leave g o ps prior n) (links_grow g (value_links o 0 ps)) (links_grow h1 (order_links prior n))

pub calls_grow : CallsGrow
calls_grow = record {
  node = λ old new kind ps source n handed a. subst (Grows old.graph) (sym a.graph) (after_grows old.graph kind old.place.container ps source _);
  constant = λ old new value out a. subst (Grows old.graph) (sym a.graph) (constant_grows old.graph value old.place.container);
  choice = λ old new rows ins outs ps n handed a. subst (Grows old.graph) (sym a.graph) (choice_grows old.graph rows ins outs old.place.container ps);
  block = λ old new cfg kind n a. subst (Grows old.graph) (sym a.graph) (node_grows old.graph kind cfg);
  control = λ old new from to a. subst (Grows old.graph) (sym a.graph) (links_grow old.graph _);
  opened = λ old c ins outs new handed a. subst (Grows old) (sym a.graph) (ends_grow old c ins outs);
  entered = λ old c outer inner handed a. subst (Grows old.graph) (sym a.graph) (ends_grow old.graph c _ _);
  left = λ inner outer ps new a. subst (Grows inner.graph) (sym a.graph) (leave_grows inner.graph inner.place.output ps _ outer.node);
  finished = λ old ps new a. subst (Grows old.graph) (sym a.graph) (links_grow old.graph _);
  joined = grows_trans;
}
