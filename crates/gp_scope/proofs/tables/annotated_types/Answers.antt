use Rattle.std.proofs.Common.{rules, arith, ◌≡◌, map, drop, ◌+◌, ◌∙◌, ap, option_map, find, nat_eq}
use Rattle.std.specs.Option.{option_or}
use Rattle.indexmap.specs.IndexMap.{get_by}
use Rattle.gp_tree.specs.Program.{program_items}
use Rattle.gp_tree.specs.Statement.{statements}
use Rattle.gp_types.specs.View.{ty_view}
use Rattle.gp_scope.specs.code.AnnotationView.{annotation}
use Rattle.gp_scope.specs.Annotations.{program_annotations}
use Rattle.gp_scope.specs.Annotations as spec
use Rattle.gp_scope.specs.Spelled.{spelled}
use Rattle.gp_scope.proofs.ScopeLoops.{at-item, find-both}
use Rattle.gp_scope.proofs.tables.annotated_types.Goals as goal
use Rattle.gp_scope.proofs.tables.annotated_types.Goals.{in-Import, in-Struct, in-Function+in_ok-found-in-Function+in_ok-add_annotations-in-Function}

pub loop-item-preserved : goal.loop-item-preserved
loop-item-preserved c = λ line.
    let program = program_items c.args.names.now.items.now in
    let items = c.args.names.now.items.now in
    let F = λ (t : _) (xs : _). option_or (option_map ty_view (get_by (nat_eq line.0) t)) (option_map (λ a. spelled program a.ty) (find (λ a. nat_eq line.0 a.line.0) (program_annotations (program_items xs)))) in
    elim c.match-item.branch [
      | in-Import w ↦
          ap (λ t. F t (drop (c.loop-item.item-index + 1) items)) w.table-is
          ∙ at-item (λ xs. F c.loop-item.table xs) items c.loop-item.item-index c.item-item.result _ (omega arith) c.item-item.is w.in-Import.is
          ∙ c.loop-item.invariant line
      | in-Struct w ↦
          ap (λ t. F t (drop (c.loop-item.item-index + 1) items)) w.table-is
          ∙ at-item (λ xs. F c.loop-item.table xs) items c.loop-item.item-index c.item-item.result _ (omega arith) c.item-item.is w.in-Struct.is
          ∙ c.loop-item.invariant line
      | in-Function+in_ok-found-in-Function+in_ok-add_annotations-in-Function w ↦
          let found : map annotation w.deref-in-Function.result.now ≡ spec.annotations (statements w.in-Function.function.body.items) = search rules in
          ap (λ t. F t (drop (c.loop-item.item-index + 1) items)) w.table-is
          ∙ ap (λ r. option_or r (option_map (λ a. spelled program a.ty) (find (λ a. nat_eq line.0 a.line.0) (program_annotations (program_items (drop (c.loop-item.item-index + 1) items))))))
          (w.in_ok-add_annotations-in-Function.ensures line
          ∙ ap (λ xs. option_or (option_map ty_view (get_by (nat_eq line.0) c.loop-item.table)) (option_map (λ a. spelled program a.ty) (find (λ a. nat_eq line.0 a.line.0) xs))) found)
          ∙ find-both (λ a. nat_eq line.0 a.line.0) (λ a. spelled program a.ty) (spec.annotations (statements w.in-Function.function.body.items)) (program_annotations (program_items (drop (c.loop-item.item-index + 1) items))) (option_map ty_view (get_by (nat_eq line.0) c.loop-item.table))
          ∙ at-item (λ xs. F c.loop-item.table xs) items c.loop-item.item-index c.item-item.result _ (omega arith) c.item-item.is w.in-Function.is
          ∙ c.loop-item.invariant line
    ]
