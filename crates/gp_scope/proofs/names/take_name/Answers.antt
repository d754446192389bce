use Rattle.std.proofs.Common.{not, ap, sym, ◌∙◌}
use Rattle.gp_scope.proofs.TableLemmas.{among_texts, texts-insert, false_of}
use Rattle.gp_scope.proofs.names.take_name.Goals as goal

pub returns-clause-free : goal.returns-clause-free
returns-clause-free c = c.in_ok-insert.ensures.added ∙ ap not (sym (among_texts c.args.name.now c.args.taken.now))

pub returns-clause-added : goal.returns-clause-added
returns-clause-added c = λ free.
    texts-insert c.args.taken.now c.insert.new.self c.args.name c.in_ok-insert.ensures.keys (false_of _ _ c.in_ok-insert.ensures.added free)
