-- What contracts see of where links lead.
use Rattle.std.specs.Prelude.{List, map}
use Rattle.hg_graph.specs.declared.link.NodeId.{NodeId}
use Rattle.hg_run.specs.declared.followers.Followers.{Followers}

abbrev pub lists_of : Followers → List (List NodeId)
lists_of followers = map (λ list. list.items) followers.lists.items
