use Rattle.std.proofs.Common.{arith}
use Rattle.std.proofs.lemmas.Bool.Decides.{nat_tests}
use Rattle.gp_tree.specs.TypeExpression.{named_type}
use Rattle.gp_scope.proofs.big.check_struct.Goals as goal

pub returns-then-value_of-gt-TYPE_SIZE_LIMIT : goal.returns-then-value_of-gt-TYPE_SIZE_LIMIT
returns-then-value_of-gt-TYPE_SIZE_LIMIT c = grind (arith, nat_tests, c.requires (named_type c.args.name.now))

pub returns : goal.returns
returns c = grind (arith, nat_tests, c.requires (named_type c.args.name.now))
