use Rattle.std.proofs.Common.{◌∷◌, Result, subst, sym}
use Rattle.gp_tree.specs.Form as forms
use Rattle.gp_tree.specs.Statement.{statement}
use Rattle.gp_parse.specs.FirstFault.{Fault, within}
use Rattle.gp_parse.specs.code.NestingCode as code
use Rattle.gp_parse.specs.code.NestingMachine as spec
use Rattle.gp_parse.specs.code.NestingViews.{Leaves, header_of, frame_of}
use Rattle.gp_parse.proofs.Openings.{opens_is}
use Rattle.gp_parse.proofs.block_line.open_block.Goals as goal

pub returns : goal.returns
returns c = λ xs.
    subst (λ (z : Result spec.Blocks Fault). Leaves c.begin_at.result (frame_of c.begin_at.new.frame ∷ xs) z)
    (sym (opens_is (within 50) (spec.opening (frame_of c.args.frame.now) (header_of c.args.header) c.args.level c.args.in_loop) c.args.line (frame_of c.args.frame.now) xs (forms.form_behind c.args.behind) (code.maybe_statement statement c.in_ok-behind.behind) c.in_ok-behind.ensures))
    (c.begin_at.ensures xs)
