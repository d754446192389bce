use Rattle.std.proofs.Common.{arith, drop, ◌+◌, ◌∙◌, ap, option_map, None, if◌then◌else◌, bytes_eq}
use Rattle.std.specs.Option.{option_or}
use Rattle.indexmap.specs.IndexMap.{get_by_text}
use Rattle.gp_tree.specs.Program.{program_items}
use Rattle.gp_tree.specs.TypeExpression.{named_type}
use Rattle.gp_types.specs.View.{ty_view}
use Rattle.gp_scope.specs.Definitions.{struct_named}
use Rattle.gp_scope.specs.ScopeView.{known_in}
use Rattle.gp_scope.specs.Spelled.{spelled}
use Rattle.gp_scope.proofs.ScopeLoops.{at-item}
use Rattle.gp_typing.proofs.StructTypeLemmas.{struct-copied}
use Rattle.gp_typing.proofs.struct_types.struct_types.Goals as goal
use Rattle.gp_typing.proofs.struct_types.struct_types.Goals.{in-Import, in-Function, in-Struct+in_ok-add_type-in-Struct}

pub loop-item-preserved : goal.loop-item-preserved
loop-item-preserved c = λ q.
    let items = c.args.items.now in
    let program = program_items items in
    let known = known_in c.args.scope.now in
    elim c.match-item.branch [
      | in-Import w ↦
          ap (λ t. option_or (option_map ty_view (get_by_text t q)) (option_map (λ s. spelled program (named_type q)) (struct_named (program_items (drop (c.loop-item.item-index + 1) items)) q))) w.table-is
          ∙ at-item (λ xs. option_or (option_map ty_view (get_by_text c.loop-item.table q)) (option_map (λ s. spelled program (named_type q)) (struct_named (program_items xs) q))) items c.loop-item.item-index c.item-item.result _ (omega arith) c.item-item.is w.in-Import.is
          ∙ c.loop-item.invariant q
      | in-Function w ↦
          ap (λ t. option_or (option_map ty_view (get_by_text t q)) (option_map (λ s. spelled program (named_type q)) (struct_named (program_items (drop (c.loop-item.item-index + 1) items)) q))) w.table-is
          ∙ at-item (λ xs. option_or (option_map ty_view (get_by_text c.loop-item.table q)) (option_map (λ s. spelled program (named_type q)) (struct_named (program_items xs) q))) items c.loop-item.item-index c.item-item.result _ (omega arith) c.item-item.is w.in-Function.is
          ∙ c.loop-item.invariant q
      | in-Struct+in_ok-add_type-in-Struct w ↦
          ap (λ t. option_or (option_map ty_view (get_by_text t q)) (option_map (λ s. spelled program (named_type q)) (struct_named (program_items (drop (c.loop-item.item-index + 1) items)) q))) w.table-is
          ∙ struct-copied program items c.loop-item.item-index c.item-item.result w.in-Struct.decl (omega arith) c.item-item.is w.in-Struct.is
          (λ n. option_map ty_view (get_by_text c.loop-item.table n)) (λ n. option_map ty_view (get_by_text w.add_type.new.table n)) (known.struct_of w.in-Struct.decl.name)
          (λ n. w.in_ok-add_type-in-Struct.ensures n ∙ ap (λ m. option_or (option_map ty_view (get_by_text c.loop-item.table n)) (if bytes_eq n m then known.struct_of m else None)) w.as_str.ensures)
          (c.requires.structs_are w.in-Struct.decl.name) q (c.loop-item.invariant q)
    ]
