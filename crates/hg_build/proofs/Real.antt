-- A graph that realizes a list of steps runs as the steps do.
use Rattle.std.proofs.Common.{◌≡◌, ◌≢◌, ◌⊎◌, inl, inr, ⊎_elim, ℕ, suc, ◌≤◌, ◌<◌, Bool, true, false, cond, not, ◌&&◌, ◌||◌, eqb, List, [], ◌∷◌, ◌++◌, length, filter_map, Option, Some, None, is_some, refl, sym, ap, ◌∙◌, subst, arith, eq-eqb, eqb-true, ne_eqb, append_assoc, le_refl}
use Rattle.gp_base.specs.Membership.{In}
use Rattle.gp_base.specs.Run.{Run, Out, Returned, Stopped, TurnsUsed, OutcomesUsed, DivisionByZero, Stuck, go_on, ◌>>=◌, or_stuck}
use Rattle.gp_base.specs.World.{World}
use Rattle.hg_ops.specs.Op.{ins_of}
use Rattle.hg_graph.specs.Graph.{Graph, Port, Link, Ports, Order, op_at, parent_at, firing_children}
use Rattle.hg_graph.specs.Run.{Fired, Open, Look, outs_at, has_fired, pulled, inputs, orders_kept, Ready, candidate, ready, State, Enter, no_note, fire, firings, region}
use Rattle.hg_graph.specs.Value.{Value}
use Rattle.hg_laws.proofs.Children.{child_is, is_child, kid_is, is_kid}
use Rattle.hg_build.specs.Steps.{Calls, Step, values_at, run_steps, body, nodes_of, quiet, Tracks, Runner, OrderRises, Grows, SamePart, FedBy, StepsAt, Laid}

-- ---- runs that track

pub tracks_then : {A B : Type 0} (o : Out World A) (p : Out (State (Unit {0})) A) (k : A → Run World B) (l : A → Run (State (Unit {0})) B) → Tracks o p → ((a : A) (w : World) → Tracks (k a w) (l a (quiet w))) → Tracks (go_on o k) (go_on p l)
tracks_then (Returned a w) p k l e h = subst (λ q. Tracks (k a w) (go_on q l)) (sym e) (h a w)
tracks_then (Stopped TurnsUsed w) p k l e h = ap (λ q. go_on q l) e
tracks_then (Stopped OutcomesUsed w) p k l e h = ap (λ q. go_on q l) e
tracks_then (Stopped DivisionByZero w) p k l e h = ap (λ q. go_on q l) e
tracks_then (Stopped Stuck w) p k l e h = tt

then_then : {S A B C : Type 0} (o : Out S A) (k : A → Run S B) (l : B → Run S C) → go_on (go_on o k) l ≡ go_on o (λ a. k a >>= l)
then_then (Returned a s) k l = refl
then_then (Stopped e s) k l = refl

-- ---- what has fired

-- the nodes that are known have fired
pub record Knows (fired : List Fired) (known : List ℕ) : Type 0 where
  pub by : (n : ℕ) → In n known → has_fired (outs_at fired) n ≡ true

-- none from here on has fired
pub record Fresh (fired : List Fired) (at : ℕ) : Type 0 where
  pub by : (n : ℕ) → at ≤ n → outs_at fired n ≡ None

some_more : (b : Bool) (outs : List Value) (o : Option (List Value)) → is_some o ≡ true → is_some (cond b (Some outs) o) ≡ true
some_more true outs o e = refl
some_more false outs o e = e

knows_more : (fired : List Fired) (known : List ℕ) (m : ℕ) (outs : List Value) → Knows fired known → Knows (record { node = m; outs = outs } ∷ fired) (m ∷ known)
knows_more fired known m outs k = record {
  by = λ n h. ⊎_elim (λ e. rw (eq-eqb m n (sym e)) refl) (λ i. some_more (eqb m n) outs (outs_at fired n) (k.by n i)) h;
}

fresh_more : (fired : List Fired) (at up m : ℕ) (outs : List Value) → Fresh fired at → at ≤ up → m < up → Fresh (record { node = m; outs = outs } ∷ fired) up
fresh_more fired at up m outs k le lt = record {
  by = λ n h. let ne : m ≢ n = omega arith in rw (ne_eqb m n ne) (k.by n (omega arith));
}

-- ---- readiness

pulled_is : (g : Graph) (fired : List Fired) (n q : ℕ) (ps : List Port) → FedBy g n q ps → pulled g.links (outs_at fired) n q (length ps) ≡ values_at fired ps
pulled_is g fired n q [] e = refl
pulled_is g fired n q (p ∷ ps) e = rw (e.0, pulled_is g fired n (suc q) ps e.1) refl

inputs_are : (g : Graph) (fired : List Fired) (n : ℕ) (ps : List Port) → FedBy g n 0 ps → length (ins_of (op_at g n)) ≡ length ps → inputs g (outs_at fired) n ≡ values_at fired ps
unfolding inputs
inputs_are g fired n ps e l = rw l (pulled_is g fired n 0 ps e)

-- each order link into n comes from a node that has fired
orders_from : (links : List Link) (look : Look) (n : ℕ) → ((a : ℕ) → In (Order a n) links → has_fired look a ≡ true) → orders_kept links look n ≡ true
orders_from [] look n h = refl
orders_from (Ports a b ∷ links) look n h = orders_from links look n (λ x i. h x (inr i))
orders_from (Order a b ∷ links) look n h =
    by_test (eqb b n) refl (orders_from links look n (λ x i. h x (inr i)))
  where
    by_test : (t : Bool) → eqb b n ≡ t → orders_kept links look n ≡ true → ((not t || has_fired look a) && orders_kept links look n) ≡ true
    by_test false e rest = rest
    by_test true e rest = rw (h a (inl (ap (λ m. Order a m) (sym (eqb-true b n e))))) rest

-- a node that has fired is no candidate
fired_none : (g : Graph) (look : Look) (n : ℕ) → has_fired look n ≡ true → candidate g look n ≡ None
unfolding candidate
fired_none g look n e = rw e refl

is_candidate : (g : Graph) (look : Look) (n : ℕ) (vs : List Value) → look n ≡ None → orders_kept g.links look n ≡ true → inputs g look n ≡ Some vs → candidate g look n ≡ Some (record { node = n; ins = vs })
unfolding candidate
is_candidate g look n vs a b c = rw (a, b, c) refl

-- the first candidate of a list whose front has fired
first_ready : (g : Graph) (look : Look) (done later : List ℕ) (n : ℕ) (vs : List Value) → ((m : ℕ) → In m done → has_fired look m ≡ true) → candidate g look n ≡ Some (record { node = n; ins = vs }) → filter_map (candidate g look) (done ++ n ∷ later) ≡ record { node = n; ins = vs } ∷ filter_map (candidate g look) later
first_ready g look [] later n vs f c = rw c refl
first_ready g look (m ∷ done) later n vs f c = rw (fired_none g look m (f m (inl refl))) (first_ready g look done later n vs (λ x i. f x (inr i)) c)

-- ---- the steps of a region

-- a step that comes before another one in a rising list
pub above_at : (g : Graph) (known : List ℕ) (at end : ℕ) (ss : List Step) (n : ℕ) → StepsAt g known at ss end → In n (nodes_of ss) → at ≤ n
above_at g known at end [] n st i = absurd i
above_at g known at end (s ∷ ss) n st (inl e) = let a = st.2 in let b = st.3.from in omega arith
above_at g known at end (s ∷ ss) n st (inr i) =
    let r = above_at g (s.node ∷ known) st.1 end ss n st.4 i in
    let a = st.2 in let b = st.3.from in let c = st.3.below in omega arith

pub in_split : {A : Type 0} (xs ys : List A) (x : A) → In x (xs ++ ys) → In x xs ⊎ In x ys
in_split [] ys x i = inr i
in_split (y ∷ xs) ys x (inl e) = inl (inl e)
in_split (y ∷ xs) ys x (inr i) = ⊎_elim (λ j. inl (inr j)) (λ j. inr j) (in_split xs ys x i)

pub in_last : {A : Type 0} (xs : List A) (y x : A) → In x (xs ++ y ∷ []) → In x xs ⊎ (x ≡ y)
in_last xs y x i = ⊎_elim (λ j. inl j) (λ j. ⊎_elim (λ e. inr e) (λ k. absurd k) j) (in_split xs (y ∷ []) x i)

pub in_middle : {A : Type 0} (xs ys : List A) (y : A) → In y (xs ++ y ∷ ys)
in_middle [] ys y = inl refl
in_middle (x ∷ xs) ys y = inr (in_middle xs ys y)

-- each order link into the next step comes from a step that is done
order_done : (g : Graph) (c : ℕ) (done later : List ℕ) (a n : ℕ) → firing_children g c ≡ done ++ n ∷ later → ((m : ℕ) → In m later → n < m) → OrderRises g a n → In a done
order_done g c done later a n e up o =
    let here : In n (firing_children g c) = subst (λ xs. In n xs) (sym e) (in_middle done later n) in
    let kid = child_is g c n (kid_is g c n here).0 in
    let lt : a < n = o.rises in
    let w : n < length g.nodes = o.within in
    let pn : parent_at g n ≡ c = kid.1 in
    let pa : parent_at g a ≡ c = o.same ∙ pn in
    let b : parent_at g n < a = o.below in
    let ne : a ≢ c = above_ne a c (parent_at g n) pn b in
    let i : In a (firing_children g c) = is_kid g c a (is_child g c a (omega arith) pa ne) o.fires_too in
    ⊎_elim (λ x. x) (λ j. absurd (not_later a lt j)) (in_split done (n ∷ later) a (subst (λ xs. In a xs) e i))
  where
    above_ne : (a c p : ℕ) → p ≡ c → p < a → a ≢ c
    above_ne a c p e lt = omega arith

    not_later : (a : ℕ) → a < n → In a (n ∷ later) → ⊥
    not_later a lt (inl q) = omega arith
    not_later a lt (inr q) = let r = up a q in omega arith

nodes_below : (g : Graph) (known : List ℕ) (at end : ℕ) (ss : List Step) (n : ℕ) → StepsAt g known at ss end → n < at → (m : ℕ) → In m (nodes_of ss) → n < m
nodes_below g known at end ss n st lt m i = let r = above_at g known at end ss m st i in omega arith

-- each step's node does what the step does
abbrev pub AllFire : Graph → Enter (Unit {0}) → Calls → List Step → Type 0
AllFire h R calls [] = Unit {0}
AllFire h R calls (s ∷ ss) =
    ((outer : List Open) (vs : List Value) (w : World) → Tracks (s.act calls vs w) (fire no_note h R R outer s.node vs (quiet w))) × AllFire h R calls ss

module _ (h : Graph) (R : Enter (Unit {0})) (calls : Calls) (runner : Runner h R calls) (c o end : ℕ) (outs : List Port) (fed : FedBy h o 0 outs) (width : length (ins_of (op_at h o)) ≡ length outs) where
  abbrev rest_of : (ss : List Step) → List Fired → Run World (List Value)
  rest_of ss fired = run_steps calls ss fired >>= (λ f. or_stuck (values_at f outs))

  ends : (fired : List Fired) (v : Option (List Value)) (w : World) → values_at fired outs ≡ v → Tracks (or_stuck v w) (or_stuck (inputs h (outs_at fired) o) (quiet w))
  ends fired None w e = tt
  ends fired (Some vs) w e = ap (λ x. or_stuck x (quiet w)) (inputs_are h fired o outs fed width ∙ e)

  -- one firing
  fire_next : (count : ℕ) (fired : List Fired) (outer : List Open) (w : World) (r : Ready) (rest : List Ready) → ready h c (outs_at fired) ≡ r ∷ rest → firings no_note h (fire no_note h R R) outer c o (suc count) fired (quiet w) ≡ go_on (fire no_note h R R (record { container = c; fired = fired; running = Some r.node } ∷ outer) r.node r.ins (quiet w)) (λ os. firings no_note h (fire no_note h R R) outer c o count (record { node = r.node; outs = os } ∷ fired))
  unfolding firings
  fire_next count fired outer w r rest e = rw e refl

  step_next : (s : Step) (ss : List Step) (fired : List Fired) (w : World) (vs : List Value) → values_at fired s.ins ≡ Some vs → rest_of (s ∷ ss) fired w ≡ go_on (s.act calls vs w) (λ os. rest_of ss (record { node = s.node; outs = os } ∷ fired))
  unfolding run_steps
  step_next s ss fired w vs e = rw e (then_then (s.act calls vs w) (λ os. run_steps calls ss (record { node = s.node; outs = os } ∷ fired)) (λ f. or_stuck (values_at f outs)))

  step_stuck : (s : Step) (ss : List Step) (fired : List Fired) (w : World) (p : Out (State (Unit {0})) (List Value)) → values_at fired s.ins ≡ None → Tracks (rest_of (s ∷ ss) fired w) p
  unfolding run_steps
  step_stuck s ss fired w p e = rw e tt

  step_tracks : (s : Step) (ss : List Step) (count : ℕ) (fired : List Fired) (outer : List Open) (w : World) (done later : List ℕ) (v : Option (List Value)) → values_at fired s.ins ≡ v → ((vs : List Value) → v ≡ Some vs → candidate h (outs_at fired) s.node ≡ Some (record { node = s.node; ins = vs })) → ((m : ℕ) → In m done → has_fired (outs_at fired) m ≡ true) → firing_children h c ≡ done ++ s.node ∷ later → ((outer : List Open) (vs : List Value) (w : World) → Tracks (s.act calls vs w) (fire no_note h R R outer s.node vs (quiet w))) → ((os : List Value) (w : World) → Tracks (rest_of ss (record { node = s.node; outs = os } ∷ fired) w) (firings no_note h (fire no_note h R R) outer c o count (record { node = s.node; outs = os } ∷ fired) (quiet w))) → Tracks (rest_of (s ∷ ss) fired w) (firings no_note h (fire no_note h R R) outer c o (suc count) fired (quiet w))
  unfolding ready
  step_tracks s ss count fired outer w done later None q cand dn e act go = step_stuck s ss fired w _ q
  step_tracks s ss count fired outer w done later (Some vs) q cand dn e act go =
      let r = ap (filter_map (candidate h (outs_at fired))) e ∙ first_ready h (outs_at fired) done later s.node vs dn (cand vs refl) in
      rw (step_next s ss fired w vs q, fire_next count fired outer w (record { node = s.node; ins = vs }) (filter_map (candidate h (outs_at fired)) later) r)
      (tracks_then (s.act calls vs w) _ _ _ (act (record { container = c; fired = fired; running = Some s.node } ∷ outer) vs w) go)

  firings_track : (ss : List Step) (known done : List ℕ) (at : ℕ) (fired : List Fired) (outer : List Open) (w : World) → StepsAt h known at ss end → AllFire h R calls ss → Knows fired known → ((m : ℕ) → In m done → has_fired (outs_at fired) m ≡ true) → Fresh fired at → firing_children h c ≡ done ++ nodes_of ss → Tracks (rest_of ss fired w) (firings no_note h (fire no_note h R R) outer c o (length ss) fired (quiet w))
  unfolding run_steps firings
  firings_track [] known done at fired outer w st acts kn dn fr e = ends fired (values_at fired outs) w refl
  firings_track (s ∷ ss) known done at fired outer w st acts kn dn fr e =
      let lo = st.0 in let hi = st.1 in
      let a : at ≤ lo = st.2 in
      let b : lo ≤ s.node = st.3.from in
      let d : s.node < hi = st.3.below in
      let later : (m : ℕ) → In m (nodes_of ss) → s.node < m = nodes_below h (s.node ∷ known) hi end ss s.node st.4 d in
      let ordered : orders_kept h.links (outs_at fired) s.node ≡ true = orders_from h.links (outs_at fired) s.node (λ x i. dn x (order_done h c done (nodes_of ss) x s.node e later (runner.orders x s.node i))) in
      step_tracks s ss (length ss) fired outer w done (nodes_of ss) (values_at fired s.ins) refl (λ vs q. is_candidate h (outs_at fired) s.node vs (fr.by s.node (omega arith)) ordered (inputs_are h fired s.node s.ins st.3.fed st.3.inputs ∙ q)) dn e acts.0
      (λ os v. firings_track ss (s.node ∷ known) (done ++ s.node ∷ []) hi (record { node = s.node; outs = os } ∷ fired) outer v st.4 acts.1 (knows_more fired known s.node os kn) (λ m i. ⊎_elim (λ j. some_more (eqb s.node m) os (outs_at fired m) (dn m j)) (λ q. rw (eq-eqb s.node m (sym q)) refl) (in_last done s.node m i)) (fresh_more fired at hi s.node os fr (omega arith) d) (e ∙ sym (append_assoc done (s.node ∷ []) (nodes_of ss))))

-- ---- a region

pub grows_self : (g : Graph) → Grows g g
grows_self g = record { more = le_refl (length g.nodes); ops = λ n l. refl; parents = λ n l. refl; kids = λ c k n e. e; feeders = λ to from e. e; takers = λ from to e. e }

pub same_self : (lo hi : ℕ) (g : Graph) → SamePart lo hi g g
same_self lo hi g = record { grows = grows_self g; firing = λ n a b. refl }

all_fire : (h : Graph) (R : Enter (Unit {0})) (calls : Calls) → Runner h R calls → (known : List ℕ) (at end : ℕ) (ss : List Step) → StepsAt h known at ss end → AllFire h R calls ss
all_fire h R calls r known at end [] st = tt
all_fire h R calls r known at end (s ∷ ss) st =
    (λ outer vs w. st.3.does.by h (same_self st.0 st.1 h) R calls r outer vs w, all_fire h R calls r (s.node ∷ known) st.1 end ss st.4)

knows_input : (i : ℕ) (args : List Value) → Knows (record { node = i; outs = args } ∷ []) (i ∷ [])
knows_input i args = record { by = λ n h. ⊎_elim (λ e. rw (eq-eqb i n (sym e)) refl) (λ x. absurd x) h }

fresh_input : (i o : ℕ) (args : List Value) → i < o → Fresh (record { node = i; outs = args } ∷ []) (suc o)
fresh_input i o args lt = record { by = λ n h. let ne : i ≢ n = omega arith in rw (ne_eqb i n ne) refl }

pub length_nodes : (ss : List Step) → length (nodes_of ss) ≡ length ss
length_nodes [] = refl
length_nodes (s ∷ ss) = ap suc (length_nodes ss)

-- a region that is laid and closed does what its body says
pub region_tracks : (h : Graph) (R : Enter (Unit {0})) (calls : Calls) → Runner h R calls → (c i o end : ℕ) (ss : List Step) (outs : List Port) → Laid h c i o ss end → FedBy h o 0 outs → length (ins_of (op_at h o)) ≡ length outs → (outer : List Open) (vs : List Value) (w : World) → Tracks (body i ss outs calls vs w) (region no_note h (fire no_note h R R) outer c vs (quiet w))
unfolding body region
region_tracks h R calls r c i o end ss outs l fed width outer vs w =
    rw (l.input, l.output, ap length l.firing ∙ length_nodes ss)
    (firings_track h R calls r c o end outs fed width ss (i ∷ []) [] (suc o) (record { node = i; outs = vs } ∷ []) outer w l.steps (all_fire h R calls r (i ∷ []) (suc o) end ss l.steps) (knows_input i vs) (λ m x. absurd x) (fresh_input i o vs l.next) l.firing)
