use Rattle.std.proofs.Common.{rules, tests}
use Rattle.std.proofs.lemmas.Iterator.{YieldsList-from_slice}
use Rattle.std.proofs.lemmas.Iterator.Consumers.{YieldsList-from_copied}
use Rattle.std.proofs.lemmas.Iterator.Search.{find_from_yields_List}
use Rattle.hg_ops.proofs.Names.{has_name, ext_ops, named-exact}
use Rattle.hg_ops.proofs.ext_op.op_of_name.Goals as goal

pub returns : goal.returns
returns c =
    named-exact c.find.result c.args.name.now
    (find_from_yields_List (has_name c.args.name.now) _ _ c.find.result c.find.ensures.ran (YieldsList-from_copied (YieldsList-from_slice ext_ops cc)) (λ x b q k. search (rules, tests)))
