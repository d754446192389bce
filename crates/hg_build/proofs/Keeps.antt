-- The clauses on the rules that the calls keep, from what they add.
use Rattle.std.proofs.Common.{◌≡◌, ℕ, List, [], ◌∷◌, Some, None, ℤ, sym, ap, ◌∙◌, subst}
use Rattle.hg_ops.specs.Op.{Op, Types, Call, LoadFunction, Cfg}
use Rattle.hg_graph.specs.Graph.{Graph, Port, op_at}
use Rattle.hg_build.specs.Wired.{IsNode, IsOpened, IsConstant, IsChoice, IsBlock, IsControl, IsEntered, IsLeft, IsFinished, with_node, call_of, load_of, after_leave, leave_prior, leave_last}
use Rattle.hg_build.specs.Built.{Frame}
use Rattle.hg_build.specs.Drawn.{Drawn, DrawnAt}
use Rattle.hg_build.specs.Kept.{OpenKept, OpKept, ConstantKept, CallKept, LoadKept, ChoiceKept, FlowKept, LeaveKept, FinishKept, EnterKept, BlockKept, ControlKept, DrawnIn}
use Rattle.hg_build.specs.declared.region.Region.{Region}
use Rattle.hg_build.specs.declared.region.Place.{Place}
use Rattle.hg_build.specs.declared.region.Outer.{Outer}
use Rattle.hg_build.specs.declared.wire.Held.{Held}
use Rattle.hg_build.proofs.Rules.{op_drawn, constant_kept, call_kept, load_kept, choice_kept, cfg_kept, open_kept, leave_kept, finish_kept, enter_drawn, block_drawn, exit_drawn, control_drawn}

kept_from : (r : Region) (g : Graph) (p : Place) (frs : List Frame) → r.graph ≡ g → r.place ≡ p → DrawnAt g p frs → DrawnIn r frs
kept_from r g p frs e f d = subst (λ x. DrawnAt x r.place frs) (sym e) (subst (λ x. DrawnAt g x frs) (sym f) d)

pub open_keeps : (old : Graph) (c : ℕ) (ins outs : Types) (new : Region) (handed : List Held) → IsOpened old c ins outs new handed → OpenKept old c new
open_keeps old c ins outs new handed a = record { by = λ d lt fl. kept_from new _ _ [] a.graph a.place (open_kept old c ins outs d lt fl) }

pub op_keeps : (old new : Region) (kind : Op) (ps : List Port) (n : ℕ) (handed : List Held) → IsNode old new kind ps None n handed → OpKept old new kind ps
op_keeps old new kind ps n handed a = record { by = λ base width frs ss b d is t y i. kept_from new _ _ frs a.graph a.place (op_drawn old.graph base old.place width frs ss kind ps b d is t y i) }

pub constant_keeps : (old new : Region) (value : ℤ) (out : Port) → IsConstant old new value out → ConstantKept old new
constant_keeps old new value out a = record { by = λ base width frs ss b d. kept_from new _ _ frs a.graph a.place (constant_kept old.graph base old.place width frs ss value b d) }

pub call_keeps : (old new : Region) (f : ℕ) (ps : List Port) (n : ℕ) (handed : List Held) → IsNode old new (call_of (op_at old.graph f)) ps (Some f) n handed → CallKept old new f ps
call_keeps old new f ps n handed a = record {
  by = λ base width frs ss name ins outs b d lf fn y i.
      let x : IsNode old new (Call ins outs) ps (Some f) n handed = subst (λ k. IsNode old new k ps (Some f) n handed) (ap call_of fn) a in
      kept_from new _ _ frs x.graph x.place (call_kept old.graph base old.place width frs ss f name ins outs ps b d lf fn y i);
}

pub load_keeps : (old new : Region) (f n : ℕ) (handed : List Held) → IsNode old new (load_of (op_at old.graph f)) [] (Some f) n handed → LoadKept old new f
load_keeps old new f n handed a = record {
  by = λ base width frs ss name ins outs b d fn.
      let x : IsNode old new (LoadFunction ins outs) [] (Some f) n handed = subst (λ k. IsNode old new k [] (Some f) n handed) (ap load_of fn) a in
      kept_from new _ _ frs x.graph x.place (load_kept old.graph base old.place width frs ss f name ins outs b d fn);
}

pub choice_keeps : (old new : Region) (rows : List Types) (ins outs : Types) (ps : List Port) (n : ℕ) (handed : List Held) → IsChoice old new rows ins outs ps n handed → ChoiceKept old new rows ins ps
choice_keeps old new rows ins outs ps n handed a = record { by = λ base width frs ss b d some y i. kept_from new _ _ frs a.graph a.place (choice_kept old.graph base old.place width frs ss rows ins outs ps b d some y i) }

pub flow_keeps : (old new : Region) (ins outs : Types) (ps : List Port) (n : ℕ) (handed : List Held) → IsNode old new (Cfg ins outs) ps None n handed → FlowKept old new ins ps
flow_keeps old new ins outs ps n handed a = record { by = λ base width frs ss b d y i. kept_from new _ _ frs a.graph a.place (cfg_kept old.graph base old.place width frs ss ins outs ps b d y i) }

pub leave_keeps : (inner : Region) (outer : Outer) (ps : List Port) (new : Region) → IsLeft inner outer ps new → LeaveKept inner outer ps new
leave_keeps inner outer ps new a = record {
  by = λ base width fr frs ss e b d y o i.
      kept_from new _ _ frs (a.graph ∙ ap (λ x. after_leave inner.graph inner.place.output ps (leave_prior x inner.place.last) x.node) (sym e)) (a.place ∙ ap (λ (x : Outer). record x.place { last = leave_last x inner.place.last }) (sym e)) (leave_kept inner.graph base inner.place width fr frs ss ps b d y o i);
}

pub finish_keeps : (r : Region) (ps : List Port) (g : Graph) → IsFinished r ps g → FinishKept r ps g
finish_keeps r ps g a = record { by = λ base width ss b d y o i. subst (λ x. Drawn x [] []) (sym a.graph) (finish_kept r.graph base r.place width ss ps b d y o i) }

pub enter_keeps : (old : Region) (c : ℕ) (outer : Outer) (inner : Region) (handed : List Held) → IsEntered old c outer inner handed → EnterKept old c outer inner
enter_keeps old c outer inner handed a = record {
  by = λ base width frs ss ps fill holes k fr b is d fl e.
      kept_from inner _ _ (fr ∷ frs) a.graph a.place (enter_drawn old.graph base old.place width frs ss outer.node ps fill holes k c _ _ fr b is d fl (ap (λ (x : Outer). x.place) (e ∙ a.paused)));
}

pub block_keeps : (old new : Region) (cfg : ℕ) (kind : Op) (n : ℕ) → IsBlock old new cfg kind n → BlockKept old new cfg kind
block_keeps old new cfg kind n a = record {
  block = λ base width frs ss ps ways holes ins rows others e b d some. kept_from new _ _ frs (a.graph ∙ ap (λ x. with_node old.graph x cfg) e) a.place (block_drawn old.graph base old.place width frs ss cfg ps ways holes ins rows others b d some);
  exit = λ base width frs ss ps ways holes types e b d. kept_from new _ _ frs (a.graph ∙ ap (λ x. with_node old.graph x cfg) e) a.place (exit_drawn old.graph base old.place width frs ss cfg ps ways holes types b d);
}

pub control_keeps : (old new : Region) (from : Port) (to : ℕ) → IsControl old new from to → ControlKept old new from to
control_keeps old new from to a = record {
  by = λ base width frs ss n ps ways holes ins rows others b d fl tl at lt bl par. kept_from new _ _ frs a.graph a.place (control_drawn old.graph base old.place width frs ss n ps ways holes from to ins rows others b d fl tl at lt bl par);
}
