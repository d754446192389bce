-- The clauses of the builder's calls, from what they add.
use Rattle.std.proofs.Common.{◌≡◌, ℕ, suc, List, [], ◌∷◌, ◌++◌, length, Some, None, ℤ, slice_set, refl, sym, ap, ◌∙◌, subst}
use Rattle.hg_ops.specs.Op.{Op, Types, FuncDefn, Call, CallIndirect, LoadFunction, Cfg, ins_of, outs_of}
use Rattle.hg_graph.specs.Graph.{Graph, Port, op_at, children}
use Rattle.hg_build.specs.Steps.{Step, body, Hole}
use Rattle.hg_build.specs.Wired.{IsNode, IsOpened, IsConstant, IsChoice, IsBlock, IsControl, IsEntered, IsLeft, IsFinished, inner_of, call_of, load_of}
use Rattle.hg_build.specs.Built.{Frame, Base, Built, BuiltAt, Filling, FillingAt, FunctionsBuilt, Fill, Flow, Choice, new_holes}
use Rattle.hg_build.specs.Clauses.{OpenBuilt, OpBuilt, ConstantBuilt, CallBuilt, LoadBuilt, ChoiceBuilt, FlowBuilt, BlockBuilt, ControlBuilt, FilledIsStep, EnterBuilt, LeaveBuilt, FinishBuilt, next_node}
use Rattle.hg_build.specs.declared.region.Region.{Region}
use Rattle.hg_build.specs.declared.region.Place.{Place}
use Rattle.hg_build.specs.declared.region.Outer.{Outer}
use Rattle.hg_build.specs.declared.wire.Held.{Held}
use Rattle.hg_build.proofs.Frames.{op_built, indirect_built, call_built, load_built, constant_built}
use Rattle.hg_build.proofs.Containers.{choice_built, flow_built, flow_first, block_built, exit_built, control_built, filled_step, enter_built, leave_built, open_built, finish_built}

built_from : (r : Region) (g : Graph) (base : Base) (p : Place) (width : ℕ) (frs : List Frame) (ss : List Step) → r.graph ≡ g → r.place ≡ p → BuiltAt g base p width frs ss → Built r base width frs ss
built_from r g base p width frs ss e f b = subst (λ x. BuiltAt x base r.place width frs ss) (sym e) (subst (λ x. BuiltAt g base x width frs ss) (sym f) b)

filling_from : (r : Region) (g : Graph) (base : Base) (p : Place) (width : ℕ) (frs : List Frame) (ss : List Step) (n : ℕ) (ps : List Port) (fill : Fill) (holes : List Hole) → r.graph ≡ g → r.place ≡ p → FillingAt g base p width frs ss n ps fill holes → Filling r base width frs ss n ps fill holes
filling_from r g base p width frs ss n ps fill holes e f b = subst (λ x. FillingAt x base r.place width frs ss n ps fill holes) (sym e) (subst (λ x. FillingAt g base x width frs ss n ps fill holes) (sym f) b)

pub open_clause : (old : Graph) (container : ℕ) (ins outs : Types) (new : Region) (handed : List Held) → IsOpened old container ins outs new handed → OpenBuilt old container (length outs) new
open_clause old container ins outs new handed a = record {
  by = λ functions k b is. built_from new _ _ _ _ _ _ a.graph a.place (open_built old functions k container ins outs b is);
}

pub op_clause : (old new : Region) (kind : Op) (ps : List Port) (n : ℕ) (outs : List Held) → IsNode old new kind ps None n outs → OpBuilt old new kind ps
op_clause old new kind ps n handed a = record {
  by = λ base width frs ss b is ar sc. built_from new _ base _ width frs _ a.graph a.place (op_built old.graph base old.place width frs ss kind ps b is ar sc);
  indirect = λ base width frs ss ins outs find b e fs ar sc.
      let x : IsNode old new (CallIndirect ins outs) ps None n handed = subst (λ k. IsNode old new k ps None n handed) e a in
      built_from new _ base _ width frs _ x.graph x.place (indirect_built old.graph base old.place width frs ss ins outs find ps b fs (ap (λ k. length (ins_of k)) (sym e) ∙ ar) sc);
}

pub constant_clause : (old new : Region) (value : ℤ) (out : Port) → IsConstant old new value out → ConstantBuilt old new value
constant_clause old new value out a = record {
  by = λ base width frs ss b. built_from new _ base _ width frs _ a.graph a.place (constant_built old.graph base old.place width frs ss value b);
}

pub call_clause : (old new : Region) (f : ℕ) (ins outs : Types) (ps : List Port) (n : ℕ) (handed : List Held) → IsNode old new (Call ins outs) ps (Some f) n handed → CallBuilt old new f ins ps
call_clause old new f ins outs ps n handed a = record {
  by = λ base width frs ss b ar sc lt. built_from new _ base _ width frs _ a.graph a.place (call_built old.graph base old.place width frs ss ins outs ps f b ar sc lt);
}

pub load_clause : (old new : Region) (f n : ℕ) (handed : List Held) → IsNode old new (load_of (op_at old.graph f)) [] (Some f) n handed → LoadBuilt old new f
load_clause old new f n handed a = record {
  by = λ base width frs ss name ins outs b is.
      let x : IsNode old new (LoadFunction ins outs) [] (Some f) n handed = subst (λ k. IsNode old new k [] (Some f) n handed) (ap load_of is) a in
      built_from new _ base _ width frs _ x.graph x.place (load_built old.graph base old.place width frs ss f name ins outs b is);
}

pub choice_clause : (old new : Region) (rows : List Types) (ins outs : Types) (ps : List Port) (node : ℕ) (handed : List Held) → IsChoice old new rows ins outs ps node handed → ChoiceBuilt old new rows ins ps node
choice_clause old new rows ins outs ps node handed a = record {
  by = λ base width frs ss b ar sc.
      subst (λ m. Filling new base width frs ss m ps Choice (new_holes (suc m) rows)) (sym a.number) (filling_from new _ base _ width frs ss _ ps Choice _ a.graph a.place (choice_built old.graph base old.place width frs ss rows ins outs ps b ar sc));
}

pub flow_clause : (old new : Region) (ins outs : Types) (ps : List Port) (node : ℕ) (handed : List Held) → IsNode old new (Cfg ins outs) ps None node handed → FlowBuilt old new ins ps node
flow_clause old new ins outs ps node handed a = record {
  by = λ base width frs ss b ar sc. (
    subst (λ m. Filling new base width frs ss m ps (Flow []) []) (sym a.number) (filling_from new _ base _ width frs ss _ ps (Flow []) [] a.graph a.place (flow_built old.graph base old.place width frs ss ins outs ps b ar sc)),
    subst (λ m. children new.graph m ≡ []) (sym a.number) (subst (λ x. children x (next_node old) ≡ []) (sym a.graph) (flow_first old.graph base old.place width frs ss ins outs ps b ar sc)),
  );
}

pub block_clause : (old new : Region) (cfg : ℕ) (kind : Op) (node : ℕ) → IsBlock old new cfg kind node → BlockBuilt old new cfg kind node
block_clause old new cfg kind node a = record {
  block = λ base width frs ss ps ways holes ins rows others e b u f.
      subst (λ m. Filling new base width frs ss cfg ps (Flow ways) (holes ++ record { node = m; act = None } ∷ [])) (sym a.number) (filling_from new _ base _ width frs ss cfg ps (Flow ways) _ (a.graph ∙ ap (λ x. record old.graph { nodes = old.graph.nodes ++ record { op = x; parent = cfg } ∷ [] }) e) a.place (block_built old.graph base old.place width frs ss cfg ps ways holes ins rows others b u f));
  exit = λ base width frs ss ps ways holes types e b u.
      filling_from new _ base _ width frs ss cfg ps (Flow ways) holes (a.graph ∙ ap (λ x. record old.graph { nodes = old.graph.nodes ++ record { op = x; parent = cfg } ∷ [] }) e) a.place (exit_built old.graph base old.place width frs ss cfg ps ways holes types b u);
}

pub control_clause : (old new : Region) (from : Port) (to : ℕ) → IsControl old new from to → ControlBuilt old new from to
control_clause old new from to a = record {
  by = λ base width frs ss n ps ways holes leaves b fl nl tl en none. filling_from new _ base _ width frs ss n ps _ holes a.graph a.place (control_built old.graph base old.place width frs ss n ps ways holes from to leaves b fl nl tl en none);
}

pub filled_is_step : FilledIsStep
filled_is_step r base width frs ss n ps fill holes b = filled_step r.graph base r.place width frs ss n ps fill holes b

pub enter_clause : (old : Region) (container : ℕ) (outer : Outer) (inner : Region) (handed : List Held) → IsEntered old container outer inner handed → EnterBuilt old container outer inner
enter_clause old container outer inner handed a = record {
  by = λ base width frs ss ps fill holes k b is.
      let o : Outer = record { place = old.place; node = outer.node; chained = outer.chained } in
      let e : outer ≡ o = same_outer outer old.place (ap (λ (x : Outer). x.place) a.paused) in
      let types = inner_of (op_at old.graph container) in
      subst (λ x. Built inner base (length types.1) (record { outer = x; width = width; steps = ss; ins = ps; fill = fill; holes = holes; hole = k } ∷ frs) []) (sym e)
      (built_from inner _ base _ _ _ [] a.graph a.place (enter_built old.graph base old.place width frs ss outer.node k container outer.chained ps fill holes types.0 types.1 b is));
}
  where
    same_outer : (x : Outer) (p : Place) → x.place ≡ p → x ≡ record { place = p; node = x.node; chained = x.chained }
    same_outer x p e = ap (λ q. record x { place = q }) e

pub leave_clause : (inner : Region) (outer : Outer) (ps : List Port) (new : Region) → IsLeft inner outer ps new → LeaveBuilt inner outer ps new
leave_clause inner outer ps new a = record {
  by = λ base width width' frs ss ss' ins fill holes k b wi sc.
      filling_from new _ base _ width frs ss outer.node ins fill _ a.graph a.place (leave_built inner.graph base inner.place width' (record { outer = outer; width = width; steps = ss; ins = ins; fill = fill; holes = holes; hole = k }) frs ss' ps b wi sc);
}

pub finish_clause : (r : Region) (ps : List Port) (g : Graph) → IsFinished r ps g → FinishBuilt r ps g
finish_clause r ps g a = record {
  by = λ base width ss b wi sc.
      subst (λ x. FunctionsBuilt x (slice_set base.functions base.hole (record { node = r.place.container; act = Some (body r.place.input ss ps) }))) (sym a.graph) (finish_built r.graph base r.place width ss ps b wi sc);
}

call_is : (o : Op) → call_of o ≡ Call (ins_of (call_of o)) (outs_of (call_of o))
call_is (FuncDefn name ins outs) = refl
call_is _ = refl

pub call_of_clause : (old new : Region) (o : Op) (f : ℕ) (ps : List Port) (n : ℕ) (handed : List Held) → IsNode old new (call_of o) ps (Some f) n handed → CallBuilt old new f (ins_of (call_of o)) ps
call_of_clause old new o f ps n handed a =
    call_clause old new f (ins_of (call_of o)) (outs_of (call_of o)) ps n handed (subst (λ k. IsNode old new k ps (Some f) n handed) (call_is o) a)
