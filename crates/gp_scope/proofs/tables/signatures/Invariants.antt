use Rattle.std.proofs.Common.{◌≡◌, ℕ, List, drop, option_map}
use Rattle.std.specs.Option.{option_or}
use Rattle.indexmap.specs.IndexMap.{get_by_text}
use Rattle.gp_tree.specs.Program.{program_items}
use Rattle.gp_types.specs.Signature.{signature_view}
use Rattle.gp_scope.specs.Definitions.{function_named}
use Rattle.gp_scope.specs.Spelled.{signature_of, function_signature}
use Rattle.gp_scope.proofs.tables.signatures.Given as goal

-- a signature is in the table, or its function is in what is left
abbrev pub invariant-loop-item : goal.invariant-loop-item
invariant-loop-item l = (q : List ℕ) →
    option_or (option_map signature_view (get_by_text l.table q)) (option_map (signature_of (program_items l.names.items.now)) (function_named (program_items (drop l.item-index l.names.items.now)) q))
    ≡ function_signature (program_items l.names.items.now) q
