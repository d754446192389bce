-- What is laid in one graph is laid in each graph that has the same part.
use Rattle.std.proofs.Common.{◌≡◌, ℕ, suc, ◌≤◌, ◌<◌, List, [], ◌∷◌, ◌++◌, length, ap, ◌∙◌, arith, le_refl}
use Rattle.hg_ops.specs.Op.{ins_of}
use Rattle.hg_graph.specs.Graph.{Graph, Port, op_at, firing_children}
use Rattle.hg_build.specs.Steps.{Act, Calls, Step, body, Grows, SamePart, FiresAs, RegionAs, FedBy, StepAt, StepsAt, Laid, known_after}
use Rattle.hg_build.proofs.Real.{region_tracks}

pub grows_trans : (g h j : Graph) → Grows g h → Grows h j → Grows g j
grows_trans g h j a b = record {
  more = let x = a.more in let y = b.more in omega arith;
  ops = λ n l. let x = a.more in b.ops n (omega arith) ∙ a.ops n l;
  parents = λ n l. let x = a.more in b.parents n (omega arith) ∙ a.parents n l;
  kids = λ c k n e. b.kids c k n (a.kids c k n e);
  feeders = λ to from e. b.feeders to from (a.feeders to from e);
  takers = λ from to e. b.takers from to (a.takers from to e);
}

pub same_trans : (lo hi : ℕ) (g h j : Graph) → SamePart lo hi g h → SamePart lo hi h j → SamePart lo hi g j
same_trans lo hi g h j a b = record {
  grows = grows_trans g h j a.grows b.grows;
  firing = λ n p q. b.firing n p q ∙ a.firing n p q;
}

pub same_part : (lo hi lo' hi' : ℕ) (g h : Graph) → lo ≤ lo' → hi' ≤ hi → SamePart lo hi g h → SamePart lo' hi' g h
same_part lo hi lo' hi' g h l u a = record {
  grows = a.grows;
  firing = λ n p q. a.firing n (omega arith) (omega arith);
}

pub fires_in : (g h : Graph) (lo hi n : ℕ) (act : Calls → Act) → SamePart lo hi g h → FiresAs g lo hi n act → FiresAs h lo hi n act
fires_in g h lo hi n act s f = record { by = λ j t. f.by j (same_trans lo hi g h j s t) }

-- with more nodes round it
pub fires_wider : (g : Graph) (lo hi lo' hi' n : ℕ) (act : Calls → Act) → lo' ≤ lo → hi ≤ hi' → FiresAs g lo hi n act → FiresAs g lo' hi' n act
fires_wider g lo hi lo' hi' n act l u f = record { by = λ j t. f.by j (same_part lo' hi' lo hi g j l u t) }

pub region_in : (g h : Graph) (c lo hi : ℕ) (act : Calls → Act) → firing_children h c ≡ firing_children g c → SamePart lo hi g h → RegionAs g c lo hi act → RegionAs h c lo hi act
region_in g h c lo hi act k s r = record { by = λ j kj t. r.by j (kj ∙ k) (same_trans lo hi g h j s t) }

pub fed_in : (g h : Graph) (n q : ℕ) (ps : List Port) → Grows g h → FedBy g n q ps → FedBy h n q ps
fed_in g h n q [] e f = tt
fed_in g h n q (p ∷ ps) e f = (e.feeders (record { node = n; index = q }) p f.0, fed_in g h n (suc q) ps e f.1)

pub step_in : (g h : Graph) (known : List ℕ) (lo hi : ℕ) (s : Step) → SamePart lo hi g h → StepAt g known lo hi s → StepAt h known lo hi s
step_in g h known lo hi s e st =
    let a = st.below in let b = st.within in let c = e.grows.more in
    record {
      from = st.from;
      below = a;
      within = omega arith;
      fed = fed_in g h s.node 0 s.ins e.grows st.fed;
      inputs = ap (λ op. length (ins_of op)) (e.grows.ops s.node (omega arith)) ∙ st.inputs;
      ports = st.ports;
      does = fires_in g h lo hi s.node s.act e st.does;
    }

pub steps_rise : (g : Graph) (known : List ℕ) (at end : ℕ) (ss : List Step) → StepsAt g known at ss end → at ≤ end
steps_rise g known at end [] h = h
steps_rise g known at end (s ∷ ss) h =
    let r = steps_rise g (s.node ∷ known) h.1 end ss h.4 in
    let a = h.2 in let b = h.3.from in let c = h.3.below in omega arith

pub steps_in : (g h : Graph) (known : List ℕ) (at end : ℕ) (ss : List Step) → SamePart at end g h → StepsAt g known at ss end → StepsAt h known at ss end
steps_in g h known at end [] e st = st
steps_in g h known at end (s ∷ ss) e st =
    let r = steps_rise g (s.node ∷ known) st.1 end ss st.4 in
    let a = st.2 in let b = st.3.from in let c = st.3.below in
    (st.0, st.1, st.2, step_in g h known st.0 st.1 s (same_part at end st.0 st.1 g h a r e) st.3, steps_in g h (s.node ∷ known) st.1 end ss (same_part at end st.1 end g h (omega arith) (le_refl end) e) st.4)

-- a later end
pub steps_longer : (g : Graph) (known : List ℕ) (at end end' : ℕ) (ss : List Step) → end ≤ end' → StepsAt g known at ss end → StepsAt g known at ss end'
steps_longer g known at end end' [] le h = omega arith
steps_longer g known at end end' (s ∷ ss) le h = (h.0, h.1, h.2, h.3, steps_longer g (s.node ∷ known) h.1 end end' ss le h.4)

-- one more step at the end
pub steps_push : (g : Graph) (known : List ℕ) (at mid lo hi end : ℕ) (ss : List Step) (s : Step) → StepsAt g known at ss mid → mid ≤ lo → hi ≤ end → StepAt g (known_after known ss) lo hi s → StepsAt g known at (ss ++ s ∷ []) end
steps_push g known at mid lo hi end [] s h l u st = (lo, hi, omega arith, st, u)
steps_push g known at mid lo hi end (x ∷ ss) s h l u st = (h.0, h.1, h.2, h.3, steps_push g (x.node ∷ known) h.1 mid lo hi end ss s h.4 l u st)

-- a region that is laid and closed
pub region_runs : (g : Graph) (c i o lo hi : ℕ) (ss : List Step) (outs : List Port) → Laid g c i o ss hi → FedBy g o 0 outs → length (ins_of (op_at g o)) ≡ length outs → lo ≤ i → RegionAs g c lo hi (body i ss outs)
region_runs g c i o lo hi ss outs l fed n le = record {
  by = λ h k e R calls r outer vs w.
      let io : i < o = l.next in
      let ow : o < length g.nodes = l.within in
      let more : length g.nodes ≤ length h.nodes = e.grows.more in
      let laid : Laid h c i o ss hi = record {
        input = e.grows.kids c 0 i l.input;
        output = e.grows.kids c 1 o l.output;
        firing = k ∙ l.firing;
        above = l.above;
        next = l.next;
        within = omega arith;
        steps = steps_in g h (i ∷ []) (suc o) hi ss (same_part lo hi (suc o) hi g h (omega arith) (le_refl hi) e) l.steps;
      } in
      region_tracks h R calls r c i o hi ss outs laid (fed_in g h o 0 outs e.grows fed) (ap (λ op. length (ins_of op)) (e.grows.ops o ow) ∙ n) outer vs w;
}
