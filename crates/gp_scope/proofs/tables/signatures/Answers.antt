use Rattle.std.proofs.Common.{arith, drop, ◌+◌, ◌∙◌, ap, option_map, Some, None, if◌then◌else◌, bytes_eq}
use Rattle.std.specs.Option.{option_or}
use Rattle.indexmap.specs.IndexMap.{get_by_text}
use Rattle.gp_tree.specs.Program.{program_items}
use Rattle.gp_types.specs.Signature.{signature_view}
use Rattle.gp_scope.specs.Definitions.{function_named}
use Rattle.gp_scope.specs.Spelled.{signature_of}
use Rattle.gp_scope.proofs.ScopeLoops.{at-item, function-added}
use Rattle.gp_scope.proofs.tables.signatures.Goals as goal
use Rattle.gp_scope.proofs.tables.signatures.Goals.{in-Import, in-Struct, in-Function+in_ok-made-in-Function+in_ok-keep_first-in-Function}

pub loop-item-preserved : goal.loop-item-preserved
loop-item-preserved c = λ q.
    let program = program_items c.args.names.now.items.now in
    let items = c.args.names.now.items.now in
    elim c.match-item.branch [
      | in-Import w ↦
          ap (λ t. option_or (option_map signature_view (get_by_text t q)) (option_map (signature_of program) (function_named (program_items (drop (c.loop-item.item-index + 1) items)) q))) w.table-is
          ∙ at-item (λ xs. option_or (option_map signature_view (get_by_text c.loop-item.table q)) (option_map (signature_of program) (function_named (program_items xs) q))) items c.loop-item.item-index c.item-item.result _ (omega arith) c.item-item.is w.in-Import.is
          ∙ c.loop-item.invariant q
      | in-Struct w ↦
          ap (λ t. option_or (option_map signature_view (get_by_text t q)) (option_map (signature_of program) (function_named (program_items (drop (c.loop-item.item-index + 1) items)) q))) w.table-is
          ∙ at-item (λ xs. option_or (option_map signature_view (get_by_text c.loop-item.table q)) (option_map (signature_of program) (function_named (program_items xs) q))) items c.loop-item.item-index c.item-item.result _ (omega arith) c.item-item.is w.in-Struct.is
          ∙ c.loop-item.invariant q
      | in-Function+in_ok-made-in-Function+in_ok-keep_first-in-Function w ↦
          ap (λ t. option_or (option_map signature_view (get_by_text t q)) (option_map (signature_of program) (function_named (program_items (drop (c.loop-item.item-index + 1) items)) q))) w.table-is
          ∙ function-added program items c.loop-item.item-index c.item-item.result w.in-Function.function (omega arith) c.item-item.is w.in-Function.is c.loop-item.table w.keep_first.new.table w.in_ok-made-in-Function.made
          (λ n. w.in_ok-keep_first-in-Function.ensures n ∙ ap (λ m. option_or (get_by_text c.loop-item.table n) (if bytes_eq n m then Some w.in_ok-made-in-Function.made else None)) w.as_str.ensures)
          w.in_ok-made-in-Function.ensures q _ (c.loop-item.invariant q)
    ]
