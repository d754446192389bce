use Rattle.std.proofs.Common.{[], ap, ◌∙◌, unwrap_or}
use Rattle.std.proofs.lemmas.Option.{unwrap_or-slice_get}
use Rattle.hg_ops.proofs.signatures.row_at.Goals as goal

pub returns-in-None : goal.returns-in-None
returns-in-None c = c.new.ensures ∙ ap (λ row. unwrap_or row []) c.in-None.ensures ∙ unwrap_or-slice_get c.args.rows.now c.args.k []
