use Rattle.std.proofs.Common.{[], ap, ◌∙◌, length, unwrap_or}
use Rattle.std.proofs.lemmas.Option.{unwrap_or-slice_get}
use Rattle.hg_ops.proofs.ports.row_len.Goals as goal

pub returns-in-None-clause-len : goal.returns-in-None-clause-len
returns-in-None-clause-len c =
    ap length (ap (λ row. unwrap_or row []) c.in-None.ensures ∙ unwrap_or-slice_get c.args.rows.now c.args.k [])
