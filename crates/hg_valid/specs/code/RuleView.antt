-- What contracts see of a rule.
use Rattle.hg_graph.specs.Valid as spec
use Rattle.hg_valid.specs.declared.rule.Rule.{Rule}
use Rattle.hg_valid.specs.declared.rule.Rule.TheVariants.{Node, Link, NoCycle, Names}
use Rattle.hg_valid.specs.declared.rule.NodeRule.{NodeRule}
use Rattle.hg_valid.specs.declared.rule.NodeRule.TheVariants as node
use Rattle.hg_valid.specs.declared.rule.LinkRule.{LinkRule}
use Rattle.hg_valid.specs.declared.rule.LinkRule.TheVariants as link

abbrev pub node_rule_view : NodeRule → spec.Rule
node_rule_view node.Places = spec.Places
node_rule_view node.Children = spec.Children
node_rule_view node.Boundaries = spec.Boundaries
node_rule_view node.Blocks = spec.Blocks
node_rule_view node.Cases = spec.Cases
node_rule_view node.Inputs = spec.Inputs
node_rule_view node.LinearOutputs = spec.LinearOutputs
node_rule_view node.Successors = spec.Successors
node_rule_view node.StaticLinks = spec.StaticLinks
node_rule_view node.Callees = spec.Callees
node_rule_view node.VariantsAndTags = spec.VariantsAndTags

abbrev pub link_rule_view : LinkRule → spec.Rule
link_rule_view link.Joins = spec.Links
link_rule_view link.SameParent = spec.SameParent

abbrev pub rule_view : Rule → spec.Rule
rule_view (Node rule) = node_rule_view rule
rule_view (Link rule) = link_rule_view rule
rule_view NoCycle = spec.NoCycle
rule_view Names = spec.Names
