-- What is kept of the nodes of a graph while its rules are tested.
use Rattle.std.specs.Prelude.{length}
use Rattle.hg_graph.specs.Graph.{Graph}
use Rattle.hg_valid.specs.declared.tables.Tables.{Tables}
use Rattle.hg_valid.specs.code.Ancestors.{AreJumps}
use Rattle.hg_valid.specs.code.Signatures.{AreSignatures}

pub record AreTables (g : Graph) (tables : Tables) : Type 0 where
  pub signatures : AreSignatures g (length g.nodes) tables.signatures.items
  pub jumps : AreJumps g (length g.nodes) tables.jumps.items
