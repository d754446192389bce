-- Whatever is picked, the same is seen of a run of a valid ordered graph.
use Rattle.std.proofs.Common.{◌≡◌, ℕ, zero, suc, ◌+◌, ◌<◌, ◌≤◌, Bool, true, false, cond, ltb, List, [], ◌∷◌, ◌++◌, length, Some, refl, sym, ap, ◌∙◌, subst, arith}
use Rattle.std.specs.Prelude.{slice_get}
use Rattle.std.proofs.lemmas.Bool.{ltb-true}
use Rattle.gp_base.specs.Run.{Returned}
use Rattle.gp_base.specs.World.{World}
use Rattle.hg_ops.specs.GraphType.{sum_type}
use Rattle.hg_ops.specs.Op.{Op, Types, FuncDefn, Dfg, Cfg, DataflowBlock, ExitBlock, Conditional, Case, TailLoop, ins_of, outs_of, is_dataflow_container, is_effect, inner_ins, inner_outs}
use Rattle.hg_graph.specs.Graph.{Graph, op_at, children, firing_children, taker}
use Rattle.hg_graph.specs.Moments.{IsProper}
use Rattle.hg_graph.specs.Ordered.{IsOrdered}
use Rattle.hg_graph.specs.Run.{Open, outs_at, no_note, Enter, at_node, with_variant, after_turn, fire, firings, region, after_round, jump, enter_op, level, resume, runs, run_function, graph_run}
use Rattle.hg_graph.specs.Valid.{is_block, block_ins}
use Rattle.hg_graph.specs.Value.{Value, Int, Qubit, Variant, Function, values, HaveTypes, functions}
use Rattle.hg_laws.proofs.Values.{or_false, have-append, variant_row}
use Rattle.hg_laws.proofs.Flow.{sound_start}
use Rattle.hg_laws.proofs.Children.{get_in, child_is, kid_is}
use Rattle.hg_laws.proofs.Known.{HasRegion, Known, region_of}
use Rattle.hg_laws.proofs.Regions.{is_region, child_greater, inner_kid}
use Rattle.hg_laws.proofs.Typed.{TypedEnter, entry_ins, exit_of, region_at, option_same, level_typed, resume_typed}
use Rattle.hg_laws.proofs.Alike.{at, seen, Alike, AlikeEnter, then_alike, shown, ret_alike, stuck_alike, inside_alike, again_alike, at_node_alike, at_port_alike, variant_alike}
use Rattle.hg_laws.proofs.Order.{is_plain, any, has_effect, PureEnter, any_false, firings_show, canon_pure}

module _ (g : Graph) (V : Known g) (inside again : Enter (Unit {0})) (TI : TypedEnter g inside) (TA : TypedEnter g again) (D : ℕ) (AI : AlikeEnter g D inside) (AA : AlikeEnter g (length g.nodes) again) (PI : PureEnter g D inside) where
  abbrev doing : Enter (Unit {0})
  doing = fire no_note g inside again

  region_is : (outer : List Open) (c : ℕ) (vs : List Value) (H : HasRegion g c) → region no_note g doing outer c vs ≡ firings no_note g doing outer c H.output (length (firing_children g c)) (record { node = H.input; outs = vs } ∷ [])
  unfolding region
  region_is outer c vs H =
      ap (λ x. at_node x (λ input. at_node (slice_get (children g c) 1) (λ output. firings no_note g doing outer c output (length (firing_children g c)) (record { node = input; outs = vs } ∷ [])))) (ap (λ l. slice_get l 0) H.list)
      ∙ ap (λ x. at_node x (λ output. firings no_note g doing outer c output (length (firing_children g c)) (record { node = H.input; outs = vs } ∷ []))) (ap (λ l. slice_get l 1) H.list)

  start_types : (c : ℕ) (vs : List Value) (H : HasRegion g c) → HaveTypes (functions g) vs (inner_ins (op_at g c)) → HaveTypes (functions g) vs (outs_of (op_at g H.input))
  start_types c vs H h = subst (HaveTypes (functions g) vs) (sym (ap outs_of H.input_op)) h

  module _ (O : IsOrdered g) where
    region_pure : (c : ℕ) (vs : List Value) (kind : Op) → op_at g c ≡ kind → c < length g.nodes → is_dataflow_container kind ≡ true → length g.nodes ≤ suc D + c → has_effect g (suc D) c ≡ false → HaveTypes (functions g) vs (inner_ins kind) → (us : List Value) × HaveTypes (functions g) us (inner_outs kind) × ((w : World) → seen (region no_note g doing [] c vs) w ≡ Returned us w)
    region_pure c vs kind e l f d ef h =
        let fl = ap is_dataflow_container e ∙ f in
        let H = region_of g V c fl (V.regions c l fl) in
        let R = is_region g V c l fl H in
        let S = sound_start g c H.input H.output R vs (start_types c vs H (subst (λ x. HaveTypes (functions g) vs (inner_ins x)) (sym e) h)) in
        let quiet = any_false (has_effect g D) (children g c) (or_false (is_effect (op_at g c)) (any (has_effect g D) (children g c)) ef).1 in
        let p = canon_pure g V inside again TI TA D AI AA PI c H.input H.output fl R (inner_kid g c H) d (length (firing_children g c)) (outs_at (record { node = H.input; outs = vs } ∷ [])) S (λ k ik. quiet k (kid_is g c k ik).0) in
        let sh = firings_show g V inside again TI TA D AI AA PI c H.input H.output fl R (inner_kid g c H) d O [] (length (firing_children g c)) (record { node = H.input; outs = vs } ∷ []) S in
        (p.0, subst (HaveTypes (functions g) p.0) (ap ins_of H.output_op ∙ ap inner_outs e) p.1, λ w. ap (λ m. seen m w) (region_is [] c vs H) ∙ (sh.same (at w []) ∙ p.2 w))

    region_alike : (outer outer' : List Open) (c : ℕ) (vs : List Value) (kind : Op) → op_at g c ≡ kind → c < length g.nodes → is_dataflow_container kind ≡ true → length g.nodes ≤ suc D + c → HaveTypes (functions g) vs (inner_ins kind) → Alike (region no_note g doing outer c vs) (region no_note g doing outer' c vs)
    region_alike outer outer' c vs kind e l f d h =
        let fl = ap is_dataflow_container e ∙ f in
        let H = region_of g V c fl (V.regions c l fl) in
        let R = is_region g V c l fl H in
        let S = sound_start g c H.input H.output R vs (start_types c vs H (subst (λ x. HaveTypes (functions g) vs (inner_ins x)) (sym e) h)) in
        let sh = λ (os : List Open). firings_show g V inside again TI TA D AI AA PI c H.input H.output fl R (inner_kid g c H) d O os (length (firing_children g c)) (record { node = H.input; outs = vs } ∷ []) S in
        subst (λ m. Alike m (region no_note g doing outer' c vs)) (sym (region_is outer c vs H))
        (subst (λ m. Alike (firings no_note g doing outer c H.output (length (firing_children g c)) (record { node = H.input; outs = vs } ∷ [])) m) (sym (region_is outer' c vs H))
        (shown _ _ _ (sh outer) (sh outer')))

    round_alike : (outer outer' : List Open) (n : ℕ) (a lv rs : Types) (k : ℕ) (r : Types) (us : List Value) → op_at g n ≡ TailLoop a lv rs → n < length g.nodes → slice_get (a ∷ lv ∷ []) k ≡ Some r → HaveTypes (functions g) us (r ++ rs) → Alike (after_round no_note g again outer n k us) (after_round no_note g again outer' n k us)
    round_alike outer outer' n a lv rs zero r us e l q h = again_alike g V inside again TI TA D AI AA outer outer' n us (TailLoop a lv rs) e l (subst (λ x. HaveTypes (functions g) us (x ++ rs)) (option_same (Some a) r a q refl) h)
    round_alike outer outer' n a lv rs (suc zero) r us e l q h = ret_alike us
    round_alike outer outer' n a lv rs (suc (suc k)) r us e l q h = stuck_alike

    jump_alike : (outer outer' : List Open) (n m : ℕ) (vs : List Value) (kind : Op) → op_at g m ≡ kind → m < length g.nodes → is_block kind ≡ true → length g.nodes ≤ suc D + n → HaveTypes (functions g) vs (block_ins kind) → Alike (jump no_note g inside again kind outer n m vs) (jump no_note g inside again kind outer' n m vs)
    jump_alike outer outer' n m vs (ExitBlock r) e l k d h = ret_alike vs
    jump_alike outer outer' n m vs (DataflowBlock i rs o) e l k d h = go (ltb n m) refl
      where
        go : (c : Bool) → ltb n m ≡ c → Alike (cond c (inside outer m vs) (after_turn again outer m vs)) (cond c (inside outer' m vs) (after_turn again outer' m vs))
        go true q = let less = ltb-true n m q in inside_alike g V inside again TI TA D AI AA outer outer' m vs (DataflowBlock i rs o) e l (omega arith) h
        go false q = again_alike g V inside again TI TA D AI AA outer outer' m vs (DataflowBlock i rs o) e l h
    jump_alike outer outer' n m vs _ e l k d h = absurd cc

    enter_op_alike : (outer outer' : List Open) (n : ℕ) (vs : List Value) (kind : Op) → op_at g n ≡ kind → n < length g.nodes → length g.nodes ≤ suc D + n → HaveTypes (functions g) vs (entry_ins kind) → Alike (enter_op no_note g inside again kind outer n vs) (enter_op no_note g inside again kind outer' n vs)
    unfolding enter_op
    enter_op_alike outer outer' n vs (FuncDefn name i o) e l d h = region_alike outer outer' n vs (FuncDefn name i o) e l refl d h
    enter_op_alike outer outer' n vs (Dfg i o) e l d h = region_alike outer outer' n vs (Dfg i o) e l refl d h
    enter_op_alike outer outer' n vs (Case i o) e l d h = region_alike outer outer' n vs (Case i o) e l refl d h
    enter_op_alike outer outer' n vs (Conditional rows i o) e l d h =
        variant_alike (functions g) vs rows i _ _ h (λ j r us q ty.
        at_node_alike (slice_get (children g n) j) _ _ (λ c ec.
        let C = V.cases n j rows r i o l e q in
        let same : C.case ≡ c = option_same (slice_get (children g n) j) C.case c C.is_child ec in
        let ic = get_in (children g n) j c ec in
        let more = child_greater g V n c ic in
        inside_alike g V inside again TI TA D AI AA outer outer' c us (Case (r ++ i) o) (ap (op_at g) (sym same) ∙ C.case_is) (child_is g n c ic).0 (omega arith) ty))
    enter_op_alike outer outer' n vs (TailLoop a lv rs) e l d h =
        then_alike (λ us. HaveTypes (functions g) us (inner_outs (TailLoop a lv rs))) _ _ _ _ (region_at no_note g V inside again TI TA outer' n vs (TailLoop a lv rs) e l refl h)
        (region_alike outer outer' n vs (TailLoop a lv rs) e l refl d h)
        (λ us ty. variant_alike (functions g) us (a ∷ lv ∷ []) rs _ _ ty (λ j r xs q tx. round_alike outer outer' n a lv rs j r xs e l q tx))
    enter_op_alike outer outer' n vs (Cfg i o) e l d h =
        at_node_alike (slice_get (children g n) 0) _ _ (λ b eb.
        let B = V.first_blocks n i o l e in
        let same : B.entry ≡ b = option_same (slice_get (children g n) 0) B.entry b (ap (λ x. slice_get x 0) B.are_children) eb in
        let ic = get_in (children g n) 0 b eb in
        let more = child_greater g V n b ic in
        inside_alike g V inside again TI TA D AI AA outer outer' b vs (DataflowBlock i B.rows B.others) (ap (op_at g) (sym same) ∙ B.entry_is) (child_is g n b ic).0 (omega arith) h)
    enter_op_alike outer outer' n vs (DataflowBlock i rows o) e l d h =
        then_alike (λ us. HaveTypes (functions g) us (inner_outs (DataflowBlock i rows o))) _ _ _ _ (region_at no_note g V inside again TI TA outer' n vs (DataflowBlock i rows o) e l refl h)
        (region_alike outer outer' n vs (DataflowBlock i rows o) e l refl d h)
        (λ us ty. variant_alike (functions g) us rows o _ _ ty (λ j r xs q tx.
        at_port_alike (taker g.links (record { node = n; index = j })) _ _ (λ m em.
        let L = V.controls n j i rows o r l e q in
        let same : L.block ≡ m = option_same (taker g.links (record { node = n; index = j })) L.block m L.at em in
        jump_alike outer outer' n m.node xs (op_at g m.node) refl (subst (λ x. x.node < length g.nodes) same L.is_in) (ap (λ x. is_block (op_at g x.node)) (sym same) ∙ L.is_one) d (subst (HaveTypes (functions g) xs) (sym L.fits ∙ ap (λ x. block_ins (op_at g x.node)) same) tx))))
    enter_op_alike outer outer' n vs _ e l d h = stuck_alike

    -- a Conditional without an effect
    case_pure : (n : ℕ) (rows : List Types) (i o : Types) (vs : List Value) → op_at g n ≡ Conditional rows i o → n < length g.nodes → length g.nodes ≤ suc D + n → has_effect g (suc D) n ≡ false → HaveTypes (functions g) vs (sum_type rows ∷ i) → (us : List Value) × HaveTypes (functions g) us o × ((w : World) → seen (with_variant vs (λ k xs. at_node (slice_get (children g n) k) (λ c. inside [] c xs))) w ≡ Returned us w)
    case_pure n rows i o [] e l d ef h = absurd h
    case_pure n rows i o (Int x ∷ vs) e l d ef h = absurd h.0
    case_pure n rows i o (Qubit x ∷ vs) e l d ef h = absurd h.0
    case_pure n rows i o (Function x ∷ vs) e l d ef h = absurd h.0
    case_pure n rows i o (Variant k us ∷ vs) e l d ef h =
        let r = variant_row (functions g) rows k us h.0 in
        let C = V.cases n k rows r.0 i o l e r.1 in
        let ic = get_in (children g n) k C.case C.is_child in
        let more = child_greater g V n C.case ic in
        let quiet = any_false (has_effect g D) (children g n) (or_false (is_effect (op_at g n)) (any (has_effect g D) (children g n)) ef).1 C.case ic in
        let xs = values us ++ vs in
        let ty : HaveTypes (functions g) xs (r.0 ++ i) = have-append (functions g) (values us) vs r.0 i r.2 h.1 in
        let p = PI.pure C.case xs (child_is g n C.case ic).0 (ap is_plain C.case_is) (omega arith) quiet (subst (λ x. HaveTypes (functions g) xs (entry_ins x)) (sym C.case_is) ty) in
        (p.0, subst (λ x. HaveTypes (functions g) p.0 (exit_of g C.case x)) C.case_is p.1, λ w. ap (λ x. seen (at_node x (λ c. inside [] c xs)) w) C.is_child ∙ p.2 w)

    pub enter_op_pure : (n : ℕ) (vs : List Value) (kind : Op) → op_at g n ≡ kind → n < length g.nodes → is_plain kind ≡ true → length g.nodes ≤ suc D + n → has_effect g (suc D) n ≡ false → HaveTypes (functions g) vs (entry_ins kind) → (us : List Value) × HaveTypes (functions g) us (exit_of g n kind) × ((w : World) → seen (enter_op no_note g inside again kind [] n vs) w ≡ Returned us w)
    unfolding enter_op
    enter_op_pure n vs (Dfg i o) e l k d ef h = region_pure n vs (Dfg i o) e l refl d ef h
    enter_op_pure n vs (Case i o) e l k d ef h = region_pure n vs (Case i o) e l refl d ef h
    enter_op_pure n vs (Conditional rows i o) e l k d ef h = case_pure n rows i o vs e l d ef h
    enter_op_pure n vs _ e l k d ef h = absurd cc

module _ (g : Graph) (V : Known g) (O : IsOrdered g) where
  pub record Both (again : Enter (Unit {0})) (d : ℕ) : Type 0 where
    pub alike : AlikeEnter g d (level no_note g again d)
    pub pure : PureEnter g d (level no_note g again d)

  pub level_both : (again : Enter (Unit {0})) → TypedEnter g again → AlikeEnter g (length g.nodes) again → (d : ℕ) → Both again d
  level_both again TA AA zero = record {
    alike = record { alike = λ outer outer' n vs l d h. absurd (omega arith) };
    pure = record { pure = λ n vs l k d ef h. absurd (omega arith) };
  }
  level_both again TA AA (suc d) =
      let B = level_both again TA AA d in
      let T = level_typed no_note g V again TA d in
      record {
        alike = record { alike = λ outer outer' n vs l dd h. enter_op_alike g V (level no_note g again d) again T TA d B.alike AA B.pure O outer outer' n vs (op_at g n) refl l dd h };
        pure = record { pure = λ n vs l k dd ef h. enter_op_pure g V (level no_note g again d) again T TA d B.alike AA B.pure O n vs (op_at g n) refl l k dd ef h };
      }

  pub resume_alike : (t : ℕ) → AlikeEnter g (length g.nodes) (resume no_note g t)
  resume_alike zero = record { alike = λ outer outer' n vs l d h. stuck_alike }
  resume_alike (suc t) = record { alike = λ outer outer' n vs l d h. ((level_both (resume no_note g t) (resume_typed no_note g V t) (resume_alike t) (length g.nodes)).alike).alike outer outer' n vs l d h }

  pub any_order : (f : ℕ) (vs : List Value) (w : World) → IsProper g f vs w → (p q : List ℕ) → graph_run g f vs w p ≡ graph_run g f vs w q
  unfolding graph_run run_function runs
  any_order f vs w P p q =
      ((resume_alike (suc w.turns)).alike [] [] f vs P.is_node (omega arith) (subst (λ x. HaveTypes (functions g) vs (entry_ins x)) (sym P.is_function) P.typed)).alike w p q
