-- The graph of a thin text while it grows.
use Rattle.std.specs.Prelude.{List, [], ◌∷◌, length, map, codes}
use Rattle.gp_lower.specs.declared.thin_text.ThinLine.{ThinLine}
use Rattle.hg_ops.specs.Op as op
use Rattle.hg_graph.specs.Graph.{Graph}
use Rattle.hg_graph.specs.Thin.{in_main, chain}
use Rattle.gp_lower.specs.Thin.{line_op}

-- the graph after these lines
abbrev pub grown : List ThinLine → Graph
grown lines = record {
  nodes = record { op = op.Module; parent = 0 } ∷ record { op = op.FuncDefn (codes "main") [] []; parent = 0 } ∷ in_main (op.Input []) ∷ in_main (op.Output []) ∷ in_main (op.Ext op.Alloc) ∷ map in_main (map line_op lines);
  links = chain 4 (length lines);
}
