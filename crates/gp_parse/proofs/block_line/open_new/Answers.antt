use Rattle.std.proofs.Common.{◌+◌, ◌∷◌, subst}
use Rattle.gp_tree.specs.Form as forms
use Rattle.gp_parse.specs.FirstFault.{within}
use Rattle.gp_parse.specs.code.NestingMachine as spec
use Rattle.gp_parse.specs.code.NestingViews.{Leaves, header_of, frame_of}
use Rattle.gp_parse.proofs.block_line.open_new.Goals as goal

pub returns : goal.returns
returns c = λ xs.
    subst (λ (z : spec.Frame). Leaves c.open_block.result (frame_of c.open_block.new.frame ∷ xs) (spec.opens (within 50) (spec.opening z (header_of c.args.header) (z.opening.level + 1) c.args.in_loop) c.args.line (forms.form_behind c.args.behind) z xs))
    (rw c.new.ensures.items at c.in_ok-settle.ensures)
    (c.open_block.ensures xs)
