use Rattle.std.proofs.Common.{inr, refl}
use Rattle.hg_graph.specs.Thin.{thin_graph}
use Rattle.guppy_words.specs.Meaning as mode
use Rattle.guppy_words.specs.Meaning.{request_view}
use Rattle.guppy_call.specs.Compile as compile
use Rattle.guppy_call.proofs.Delivered.{not_delivered}
use Rattle.guppy_call.proofs.GraphModes.{due_under}
use Rattle.guppy_call.proofs.Told.{settled-as, served-as, served_missing, keeps_places, graph_of}
use Rattle.guppy_call.proofs.call.guppy.Goals as goal

pub returns-in-Ok-clause-missing : goal.returns-in-Ok-clause-missing
returns-in-Ok-clause-missing g c k =
    served_missing k.meaning _ _ _ _ (served-as (request_view c.in-Ok.request) k.meaning c.args.words.now _ _ _ _ c.in-Ok.ensures k.means c.serve.ensures.served) k.missing

pub returns-in-Ok-clause-answers : goal.returns-in-Ok-clause-answers
returns-in-Ok-clause-answers g c meaning text answer holds due =
    settled-as (request_view c.in-Ok.request) meaning c.args.words.now _ _ _ _ text answer c.in-Ok.ensures holds c.serve.ensures.served due

pub returns-in-Ok-clause-compiled : goal.returns-in-Ok-clause-compiled
returns-in-Ok-clause-compiled g c file text gates holds thin =
    let settled = settled-as (request_view c.in-Ok.request) (mode.compile file) c.args.words.now _ _ _ _ text _ c.in-Ok.ensures holds c.serve.ensures.served (compile.compiled gates thin) in
    (thin_graph gates, graph_of gates, settled)

pub returns-in-Ok-clause-places : goal.returns-in-Ok-clause-places
returns-in-Ok-clause-places g c = keeps_places

pub returns-in-Ok-clause-picks : goal.returns-in-Ok-clause-picks
returns-in-Ok-clause-picks g c file text running graph picks answer holds valid ordered due =
    settled-as
    (request_view c.in-Ok.request)
    (mode.run file running)
    c.args.words.now
    _
    _
    _
    _
    text
    answer
    c.in-Ok.ensures
    holds
    c.serve.ensures.served
    (due_under text graph running picks answer valid ordered due)

pub returns-in-Err-NoMeaning-clause-places : goal.returns-in-Err-NoMeaning-clause-places
returns-in-Err-NoMeaning-clause-places g c = keeps_places

pub returns-in-Err-Memory-clause-compiled : goal.returns-in-Err-Memory-clause-compiled
returns-in-Err-Memory-clause-compiled g c file text gates holds thin = (thin_graph gates, graph_of gates, inr (not_delivered _ _ _ _ refl))

pub returns-in-Err-Memory-clause-places : goal.returns-in-Err-Memory-clause-places
returns-in-Err-Memory-clause-places g c = keeps_places
