-- What a run looks up in its graph.
use Rattle.hg_graph.specs.Graph.{Graph}
use Rattle.hg_run.specs.declared.tables.Tables.{Tables}
use Rattle.hg_run.specs.code.Due.{HasFollowers}
use Rattle.hg_run.specs.code.FollowersView.{lists_of}
use Rattle.hg_run.specs.code.FunctionsView.{HasFunctions}

-- the tables are those of the graph
pub record HasTables (g : Graph) (tables : Tables) : Type 0 where
  pub followers : HasFollowers g (lists_of tables.followers)
  pub functions : HasFunctions g tables.functions
