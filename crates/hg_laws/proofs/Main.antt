-- The laws of whole runs.
use Rattle.std.proofs.Common.{suc, [], sym, ap, subst}
use Rattle.hg_laws.specs.Laws.{RunsAreClean, PicksChangeNothing, BoundsSuffice, RunsUnfold, AnyReadyFirst, ValidRegionsGoOn}
use Rattle.hg_graph.specs.Run.{no_note, outs_at}
use Rattle.hg_ops.specs.Op.{ins_of, outs_of}
use Rattle.hg_graph.specs.Value.{HaveTypes, functions}
use Rattle.hg_laws.proofs.Looks.{plus, In-ready}
use Rattle.hg_laws.proofs.Flow.{partway_sound, sound_partway, sound_start, sound_plus, some_ready, all_fed, typed_inputs}
use Rattle.hg_laws.proofs.Regions.{is_region}
use Rattle.hg_laws.proofs.Known.{known, region_of}
use Rattle.hg_laws.proofs.AnyOrder.{any_order}
use Rattle.hg_laws.proofs.AnyFirst
use Rattle.hg_laws.proofs.Bounds
use Rattle.hg_laws.proofs.Cleanly.{always_clean}

pub runs_are_clean_lem : RunsAreClean
runs_are_clean_lem g f arguments w picks = always_clean g f arguments w picks

pub picks_change_nothing_lem : PicksChangeNothing
picks_change_nothing_lem g V O f arguments w proper picks = any_order g (known g V) O f arguments w proper picks []

pub bounds_suffice_lem : BoundsSuffice
bounds_suffice_lem g V turns depth n outer vs s t d = Bounds.bounds_suffice no_note g (known g V) turns depth n outer vs s t d

pub runs_unfold_lem : RunsUnfold
runs_unfold_lem g V outer n vs s = Bounds.runs_unfold no_note g (known g V) outer n vs s

pub any_ready_first_lem : AnyReadyFirst
unfolding region_of
any_ready_first_lem g V O c l f boundary count fired r P ir outer others s t e =
    AnyFirst.any_ready_first g (known g V) O c l f (region_of g (known g V) c f boundary) outer others count fired r (partway_sound g c boundary.input _ (suc count) P) ir s t e

pub valid_regions_go_on_lem : ValidRegionsGoOn
unfolding region_of
valid_regions_go_on_lem g V c l f boundary =
    let K = known g V in
    let R = is_region g K c l f (region_of g K c f boundary) in
    record {
      begins = λ arguments h. sound_partway g c boundary.input _ _ (sound_start g c boundary.input boundary.output R arguments (subst (HaveTypes (functions g) arguments) (sym (ap outs_of boundary.input_is)) h));
      takes = λ count fired r P i. typed_inputs g c boundary.input boundary.output R (outs_at fired) (suc count) r.node r.ins (partway_sound g c boundary.input (outs_at fired) (suc count) P) ((In-ready g c (outs_at fired) r i).1).pulls;
      fires = λ count fired r outs P i h.
          let k = In-ready g c (outs_at fired) r i in
          sound_partway g c boundary.input (plus (outs_at fired) r.node outs) count (sound_plus g c boundary.input boundary.output R (outs_at fired) count r outs (partway_sound g c boundary.input (outs_at fired) (suc count) P) k.0 k.1 h);
      goes_on = λ count fired P e. some_ready g c boundary.input boundary.output R (outs_at fired) count (partway_sound g c boundary.input (outs_at fired) (suc count) P) e;
      ends = λ fired P.
          let S = partway_sound g c boundary.input (outs_at fired) 0 P in
          let a = all_fed g c boundary.input boundary.output R (outs_at fired) S in
          (a.0, a.1, subst (HaveTypes (functions g) a.0) (ap ins_of boundary.output_is) (typed_inputs g c boundary.input boundary.output R (outs_at fired) 0 boundary.output a.0 S a.1));
    }
