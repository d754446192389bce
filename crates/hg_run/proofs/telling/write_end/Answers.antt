use Rattle.std.proofs.Common.{[], ◌∷◌}
use Rattle.std.proofs.lemmas.Result.{on_err_weaker}
use Rattle.gp_base.specs.EventText.{end_text}
use Rattle.gp_base.specs.Outside.{appended}
use Rattle.hg_run.proofs.Buffered.{grown_more}
use Rattle.hg_run.proofs.Told.{on_err, WrotePart-first, WrotePart-second}
use Rattle.hg_run.proofs.telling.write_end.Goals as goal

pub returns-in_err-put-clause-err : goal.returns-in_err-put-clause-err
returns-in_err-put-clause-err g c =
    let part = rw (c.as_bytes.ensures.value, c.end_text.ensures) at c.in_err-put.ensures.err in
    on_err _ (WrotePart-first (end_text c.args.end) (10 ∷ []) _ _ part)

pub returns-clause-err : goal.returns-clause-err
returns-clause-err g c =
    let first = rw (c.as_bytes.ensures.value, c.end_text.ensures) at c.in_ok-put.ensures.ok in
    let S = g.S.Sink in
    let now = appended (S.bytes c.put.new.sink) c.put.new.self in
    let after = appended (S.bytes c.put-2.new.sink) c.put-2.new.self in
    on_err_weaker c.put-2.result (WrotePart-second (end_text c.args.end) (10 ∷ []) (appended (S.bytes c.args.sink.now) c.args.buffer.now) now after first) c.put-2.ensures.err

pub returns-clause-grown : goal.returns-clause-grown
returns-clause-grown g c = grown_more _ _ _ c.in_ok-put.ensures.grown c.put-2.ensures.grown
