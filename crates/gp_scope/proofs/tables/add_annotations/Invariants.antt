use Rattle.std.proofs.Common.{◌≡◌, map, drop, option_map, find, nat_eq}
use Rattle.std.specs.Option.{option_or}
use Rattle.indexmap.specs.IndexMap.{get_by}
use Rattle.gp_base.specs.declared.name.LineNo.{LineNo}
use Rattle.gp_tree.specs.Program.{program_items}
use Rattle.gp_types.specs.View.{ty_view}
use Rattle.gp_scope.specs.code.AnnotationView.{annotation}
use Rattle.gp_scope.specs.Spelled.{spelled}
use Rattle.gp_scope.proofs.tables.add_annotations.Given as goal

-- a line's type is in the table, or its assignment is in what is left
abbrev pub invariant-loop-annotation : goal.invariant-loop-annotation
invariant-loop-annotation l = (line : LineNo) →
    option_or (option_map ty_view (get_by (nat_eq line.0) l.table))
    (option_map (λ a. spelled (program_items l.names.items.now) a.ty) (find (λ a. nat_eq line.0 a.line.0) (map annotation (drop l.annotation-index l.found))))
    ≡ option_or (option_map ty_view (get_by (nat_eq line.0) l.initial.table))
    (option_map (λ a. spelled (program_items l.names.items.now) a.ty) (find (λ a. nat_eq line.0 a.line.0) (map annotation l.found)))
