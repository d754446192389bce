-- A function that gives a number, from the clauses of the calls.
use Rattle.std.proofs.Common.{◌≡◌, ℕ, ℤ, suc, ◌<◌, true, false, None, List, [], ◌∷◌, ◌++◌, length, slice_set, refl, sym, ap, ◌∙◌, subst, inl}
use Rattle.hg_ops.specs.Op.{Types, Input, Output, DataflowBlock, ExitBlock}
use Rattle.hg_graph.specs.Graph.{Graph, Port, op_at, taker}
use Rattle.hg_build.specs.Steps.{Step, body, constant_act, choice_act, cfg_act, Way, IsBlockAt, IsExitAt, PortsIn}
use Rattle.hg_build.specs.Built.{FunctionsBuilt, Base, Frame, Built, Filling, Choice, Flow, new_holes}
use Rattle.hg_build.specs.Wired.{IsOpened, IsConstant, with_node, inner_place, inner_of, port_of, ports_of}
use Rattle.hg_build.specs.Clauses.{OpenBuilt, ConstantBuilt, FinishBuilt, ChoiceBuilt, FlowBuilt, BlockBuilt, ControlBuilt, EnterBuilt, LeaveBuilt, InScope, step, full_hole, next_node}
use Rattle.hg_build.specs.Sample.{IsNumberFunction}
use Rattle.hg_build.specs.declared.region.Region.{Region}
use Rattle.hg_build.specs.declared.region.Place.{Place}
use Rattle.hg_build.specs.declared.wire.Held.{Held}
use Rattle.hg_build.specs.declared.region.Outer.{Outer}
use Rattle.hg_build.proofs.Calls.{filled_is_step}
use Rattle.hg_build.proofs.Grow.{count_node}

pub number_function_is : (old : Graph) (f : ℕ) (outs : Types) (value : ℤ) (r1 r2 : Region) (handed : List Held) (out : Port) (ps : List Port) (g : Graph) → IsOpened old f [] outs r1 handed → OpenBuilt old f (length outs) r1 → IsConstant r1 r2 value out → ConstantBuilt r1 r2 value → ps ≡ out ∷ [] → FinishBuilt r2 ps g → IsNumberFunction old f outs value g
number_function_is old f outs value r1 r2 handed out ps g io ob ic cb pe fb = record {
  by = λ functions k fs is one.
      let n = length old.nodes in
      let nodes : next_node r1 ≡ suc (suc n) = ap (λ (x : Graph). length x.nodes) io.graph ∙ count_node (with_node old (Input []) f) (Output outs) f ∙ ap suc (count_node old (Input []) f) in
      let b = cb.by _ _ _ _ (ob.by functions k fs is) in
      let port : out ≡ record { node = suc (next_node r1); index = 0 } = ic.wire in
      let known = subst (λ (p : Port). p.node ≡ suc (next_node r1)) (sym port) refl in
      let done = fb.by _ (length outs) _ b (one ∙ sym (ap length pe)) (subst (λ qs. PortsIn qs (suc (next_node r1) ∷ r2.place.input ∷ [])) (sym pe) (inl known, tt)) in
      let place : r2.place ≡ inner_place old f = ic.place ∙ io.place in
      subst (λ m. FunctionsBuilt g (slice_set functions k (full_hole f (body n (step (suc m) [] (constant_act value) ∷ []) (record { node = suc m; index = 0 } ∷ []))))) nodes
      (subst (λ p. FunctionsBuilt g (slice_set functions k (full_hole f (body n (step (suc (next_node r1)) [] (constant_act value) ∷ []) (p ∷ []))))) port
      (subst (λ qs. FunctionsBuilt g (slice_set functions k (full_hole f (body n (step (suc (next_node r1)) [] (constant_act value) ∷ []) qs)))) pe
      (subst (λ (p : Place). FunctionsBuilt g (slice_set functions k (full_hole p.container (body p.input (step (suc (next_node r1)) [] (constant_act value) ∷ []) ps)))) place done)));
}

pub number_function_by : (old : Graph) (f : ℕ) (ins outs : Types) (value value' : ℤ) (r1 r2 : Region) (handed held held' : List Held) (h : Held) (g : Graph) → value' ≡ value → ins ≡ [] → IsOpened old f ins outs r1 handed → OpenBuilt old f (length outs) r1 → IsConstant r1 r2 value' (port_of h) → ConstantBuilt r1 r2 value → held ≡ [] → held' ≡ held ++ h ∷ [] → FinishBuilt r2 (ports_of held') g → IsNumberFunction old f outs value g
number_function_by old f ins outs value value' r1 r2 handed held held' h g v e io ob ic cb z p fb =
    number_function_is old f outs value r1 r2 handed (port_of h) (ports_of held') g (subst (λ x. IsOpened old f x outs r1 handed) e io) ob (subst (λ x. IsConstant r1 r2 x (port_of h)) v ic) cb (ap ports_of (p ∙ ap (λ hs. hs ++ h ∷ []) z)) fb

-- ---- a Conditional of two rows, from the clauses of `conditional`, `enter`, `leave`, `enter`, `leave`

-- what is built inside a case, whatever waits round it
abbrev pub Inside : Region → Region → ℕ → List Step → Type 0
Inside r s width ss = (base : Base) (frs : List Frame) → Built r base width frs [] → Built s base width frs ss

pub two_cases : (r0 r1 r2 r3 r4 r5 r6 r7 : Region) (o1 o2 : Outer) (first second ins : Types) (ps outs1 outs2 : List Port) (n w1 w2 : ℕ) (ss1 ss2 : List Step) → ChoiceBuilt r0 r1 (first ∷ second ∷ []) ins ps n → EnterBuilt r1 (suc n) o1 r2 → o1.node ≡ n → length (inner_of (op_at r1.graph (suc n))).1 ≡ w1 → Inside r2 r3 w1 ss1 → LeaveBuilt r3 o1 outs1 r4 → EnterBuilt r4 (suc (suc n)) o2 r5 → o2.node ≡ n → length (inner_of (op_at r4.graph (suc (suc n)))).1 ≡ w2 → Inside r5 r6 w2 ss2 → LeaveBuilt r6 o2 outs2 r7 → w1 ≡ length outs1 → InScope r3 ss1 outs1 → w2 ≡ length outs2 → InScope r6 ss2 outs2
    → (base : Base) (width : ℕ) (frs : List Frame) (ss : List Step) → Built r0 base width frs ss → suc (length ins) ≡ length ps → InScope r0 ss ps
    → Built r7 base width frs (ss ++ step n ps (choice_act (full_hole r3.place.container (body r3.place.input ss1 outs1) ∷ full_hole r6.place.container (body r6.place.input ss2 outs2) ∷ [])) ∷ [])
two_cases r0 r1 r2 r3 r4 r5 r6 r7 o1 o2 first second ins ps outs1 outs2 n w1 w2 ss1 ss2 cb e1 n1 q1 i1 l1 e2 n2 q2 i2 l2 a1 s1 a2 s2 base width frs ss b ar sc =
    let f1 = cb.by base width frs ss b ar sc in
    let h1 = new_holes (suc n) (first ∷ second ∷ []) in
    let b2 = e1.by base width frs ss ps Choice h1 0 (subst (λ m. Filling r1 base width frs ss m ps Choice h1) (sym n1) f1) refl in
    let fr1 : Frame = record { outer = o1; width = width; steps = ss; ins = ps; fill = Choice; holes = h1; hole = 0 } in
    let b3 = i1 base (fr1 ∷ frs) (subst (λ w. Built r2 base w (fr1 ∷ frs) []) q1 b2) in
    let f4 = l1.by base width w1 frs ss ss1 ps Choice h1 0 b3 a1 s1 in
    let h2 = slice_set h1 0 (full_hole r3.place.container (body r3.place.input ss1 outs1)) in
    let b5 = e2.by base width frs ss ps Choice h2 1 (subst (λ m. Filling r4 base width frs ss m ps Choice h2) (n1 ∙ sym n2) f4) refl in
    let fr2 : Frame = record { outer = o2; width = width; steps = ss; ins = ps; fill = Choice; holes = h2; hole = 1 } in
    let b6 = i2 base (fr2 ∷ frs) (subst (λ w. Built r5 base w (fr2 ∷ frs) []) q2 b5) in
    let f7 = l2.by base width w2 frs ss ss2 ps Choice h2 1 b6 a2 s2 in
    filled_is_step r7 base width frs ss n ps Choice (slice_set h2 1 (full_hole r6.place.container (body r6.place.input ss2 outs2))) (subst (λ m. Filling r7 base width frs ss m ps Choice (slice_set h2 1 (full_hole r6.place.container (body r6.place.input ss2 outs2)))) n2 f7)

-- ---- a CFG of two blocks, the first leading to the second and the second out, from the clauses of `cfg`, `block`, `control`,
-- `enter` and `leave`
abbrev pub ways_of : ℕ → ℕ → ℕ → List Way
ways_of b1 b2 x = record { from = record { node = b1; index = 0 }; to = b2; leaves = false } ∷ record { from = record { node = b2; index = 0 }; to = x; leaves = true } ∷ []

pub two_blocks : (r0 r1 r2 r3 r4 r5 r6 r7 r8 r9 r10 r11 r12 : Region) (o1 o2 : Outer) (ins i1 i2 u1 u2 t : Types) (w1 w2 : List Types) (ps outs1 outs2 : List Port) (n b1 x b2 d1 d2 : ℕ) (ss1 ss2 : List Step) → FlowBuilt r0 r1 ins ps n → BlockBuilt r1 r2 n (DataflowBlock i1 w1 u1) b1 → BlockBuilt r2 r3 n (ExitBlock t) x → BlockBuilt r3 r4 n (DataflowBlock i2 w2 u2) b2
    → ControlBuilt r4 r5 (record { node = b1; index = 0 }) b2 → b1 < next_node r4 → n < b2 → b2 < next_node r4 → IsBlockAt r4.graph b2 → taker r4.graph.links (record { node = b1; index = 0 }) ≡ None
    → ControlBuilt r5 r6 (record { node = b2; index = 0 }) x → b2 < next_node r5 → n < x → x < next_node r5 → IsExitAt r5.graph x → taker r5.graph.links (record { node = b2; index = 0 }) ≡ None
    → EnterBuilt r6 b1 o1 r7 → o1.node ≡ n → length (inner_of (op_at r6.graph b1)).1 ≡ d1 → Inside r7 r8 d1 ss1 → LeaveBuilt r8 o1 outs1 r9 → d1 ≡ length outs1 → InScope r8 ss1 outs1
    → EnterBuilt r9 b2 o2 r10 → o2.node ≡ n → length (inner_of (op_at r9.graph b2)).1 ≡ d2 → Inside r10 r11 d2 ss2 → LeaveBuilt r11 o2 outs2 r12 → d2 ≡ length outs2 → InScope r11 ss2 outs2
    → (base : Base) (width : ℕ) (frs : List Frame) (ss : List Step) → Built r0 base width frs ss → length ins ≡ length ps → InScope r0 ss ps
    → Built r12 base width frs (ss ++ step n ps (cfg_act (full_hole r8.place.container (body r8.place.input ss1 outs1) ∷ full_hole r11.place.container (body r11.place.input ss2 outs2) ∷ []) (ways_of b1 b2 x)) ∷ [])
two_blocks r0 r1 r2 r3 r4 r5 r6 r7 r8 r9 r10 r11 r12 o1 o2 ins i1 i2 u1 u2 t w1 w2 ps outs1 outs2 n b1 x b2 d1 d2 ss1 ss2 cf k1 kx k2 c1 l1 g1 m1 e1 f1 c2 l2 g2 m2 e2 f2 en1 n1 q1 in1 lv1 a1 s1 en2 n2 q2 in2 lv2 a2 s2 base width frs ss b ar sc =
    let v1 = cf.by base width frs ss b ar sc in
    let v2 = k1.block base width frs ss ps [] [] i1 w1 u1 refl v1.0 tt v1.1 in
    let h1 = record { node = b1; act = None } ∷ [] in
    let v3 = kx.exit base width frs ss ps [] h1 t refl v2 (refl, tt) in
    let v4 = k2.block base width frs ss ps [] h1 i2 w2 u2 refl v3 (refl, tt) tt in
    let h2 = record { node = b1; act = None } ∷ record { node = b2; act = None } ∷ [] in
    let v5 = c1.by base width frs ss n ps [] h2 false v4 l1 g1 m1 e1 f1 in
    let y1 = record { from = record { node = b1; index = 0 }; to = b2; leaves = false } ∷ [] in
    let v6 = c2.by base width frs ss n ps y1 h2 true v5 l2 g2 m2 e2 f2 in
    let fl = Flow (ways_of b1 b2 x) in
    let v7 = en1.by base width frs ss ps fl h2 0 (subst (λ m. Filling r6 base width frs ss m ps fl h2) (sym n1) v6) refl in
    let fr1 : Frame = record { outer = o1; width = width; steps = ss; ins = ps; fill = fl; holes = h2; hole = 0 } in
    let v8 = in1 base (fr1 ∷ frs) (subst (λ w. Built r7 base w (fr1 ∷ frs) []) q1 v7) in
    let v9 = lv1.by base width d1 frs ss ss1 ps fl h2 0 v8 a1 s1 in
    let h3 = slice_set h2 0 (full_hole r8.place.container (body r8.place.input ss1 outs1)) in
    let v10 = en2.by base width frs ss ps fl h3 1 (subst (λ m. Filling r9 base width frs ss m ps fl h3) (n1 ∙ sym n2) v9) refl in
    let fr2 : Frame = record { outer = o2; width = width; steps = ss; ins = ps; fill = fl; holes = h3; hole = 1 } in
    let v11 = in2 base (fr2 ∷ frs) (subst (λ w. Built r10 base w (fr2 ∷ frs) []) q2 v10) in
    let v12 = lv2.by base width d2 frs ss ss2 ps fl h3 1 v11 a2 s2 in
    let h4 = slice_set h3 1 (full_hole r11.place.container (body r11.place.input ss2 outs2)) in
    filled_is_step r12 base width frs ss n ps fl h4 (subst (λ m. Filling r12 base width frs ss m ps fl h4) n2 v12)
