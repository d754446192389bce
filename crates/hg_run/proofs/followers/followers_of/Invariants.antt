use Rattle.std.proofs.Common.{◌≡◌, length}
use Rattle.hg_run.specs.code.FollowersView.{lists_of}
use Rattle.hg_run.proofs.Following.{FollowUpTo}
use Rattle.hg_run.proofs.followers.followers_of.Given as goal

abbrev pub invariant-loop-k : goal.invariant-loop-k
invariant-loop-k l = (length l.followers.lists.items ≡ length l.graph.nodes) × FollowUpTo l.graph (lists_of l.followers) l.k
