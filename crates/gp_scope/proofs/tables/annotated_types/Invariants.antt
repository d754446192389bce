use Rattle.std.proofs.Common.{◌≡◌, drop, option_map, find, nat_eq}
use Rattle.std.specs.Option.{option_or}
use Rattle.indexmap.specs.IndexMap.{get_by}
use Rattle.gp_base.specs.declared.name.LineNo.{LineNo}
use Rattle.gp_tree.specs.Program.{program_items}
use Rattle.gp_types.specs.View.{ty_view}
use Rattle.gp_scope.specs.Annotations.{program_annotations}
use Rattle.gp_scope.specs.Spelled.{spelled, annotated_type}
use Rattle.gp_scope.proofs.tables.annotated_types.Given as goal

-- a line's type is in the table, or its assignment is in what is left
abbrev pub invariant-loop-item : goal.invariant-loop-item
invariant-loop-item l = (line : LineNo) →
    option_or (option_map ty_view (get_by (nat_eq line.0) l.table))
    (option_map (λ a. spelled (program_items l.names.items.now) a.ty) (find (λ a. nat_eq line.0 a.line.0) (program_annotations (program_items (drop l.item-index l.names.items.now)))))
    ≡ annotated_type (program_items l.names.items.now) line
