use Rattle.std.proofs.Common.{subst, arith}
use Rattle.hg_graph.specs.Valid.{Places}
use Rattle.hg_valid.specs.code.Broken.{EarlierHold}
use Rattle.hg_valid.specs.code.RuleView.{node_rule_view}
use Rattle.hg_valid.proofs.nodes.node_keeps.Goals as goal

pub keeps_static-requires-clause-places : goal.keeps_static-requires-clause-places
keeps_static-requires-clause-places c =
    let earlier = subst (λ rule. EarlierHold c.args.graph.now (node_rule_view rule)) c.in-StaticLinks.is c.requires.earlier in
    earlier Places (omega arith)
