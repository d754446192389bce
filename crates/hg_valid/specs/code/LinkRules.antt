-- The rules that are tested link by link.
use Rattle.std.specs.Prelude.{◌≡◌, ℕ, ◌<◌, nat_lt, if◌then◌else◌, List, Option, Some, None}
use Rattle.gp_base.specs.Membership.{In}
use Rattle.hg_graph.specs.Graph.{Graph, Link}
use Rattle.hg_valid.specs.declared.rule.LinkRule.{LinkRule}
use Rattle.hg_valid.specs.declared.rule.LinkRule.TheVariants.{Joins, SameParent}
use Rattle.hg_valid.specs.code.Parts.{target, LinkJoins, LinkStays}

-- the link keeps the rule
abbrev pub LinkKeeps : Graph → LinkRule → Link → Type 0
LinkKeeps g Joins link = LinkJoins g link
LinkKeeps g SameParent link = LinkStays g link

-- a link of the list leads to node n and breaks the rule, and each that leads to a smaller node keeps it
pub record IsLeastTarget (g : Graph) (rule : LinkRule) (links : List Link) (n : ℕ) : Type 0 where
  pub link : Link
  pub is_among : In link links
  pub leads_to : target link ≡ n
  pub broken : LinkKeeps g rule link → ⊥
  pub earlier_nodes : (other : Link) → In other links → target other < n → LinkKeeps g rule other

-- the least node to which a link of the list leads that breaks the rule, or none where each keeps it
abbrev pub LeastTarget : Graph → LinkRule → List Link → Option ℕ → Type 0
LeastTarget g rule links None = (link : Link) → In link links → LinkKeeps g rule link
LeastTarget g rule links (Some n) = IsLeastTarget g rule links n

-- the node, or a smaller one that was found before
abbrev pub lesser : Option ℕ → ℕ → ℕ
lesser None n = n
lesser (Some m) n = if nat_lt m n then m else n
