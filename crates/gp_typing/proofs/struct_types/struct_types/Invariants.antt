use Rattle.std.proofs.Common.{◌≡◌, ℕ, List, drop, option_map}
use Rattle.std.specs.Option.{option_or}
use Rattle.indexmap.specs.IndexMap.{get_by_text}
use Rattle.gp_tree.specs.Program.{program_items}
use Rattle.gp_tree.specs.TypeExpression.{named_type}
use Rattle.gp_types.specs.View.{ty_view}
use Rattle.gp_scope.specs.Definitions.{struct_named}
use Rattle.gp_scope.specs.Spelled.{spelled, struct_type_of}
use Rattle.gp_typing.proofs.struct_types.struct_types.Given as goal

-- a struct's type is in the table, or its struct is in what is left
abbrev pub invariant-loop-item : goal.invariant-loop-item
invariant-loop-item l = (q : List ℕ) →
    option_or (option_map ty_view (get_by_text l.table q)) (option_map (λ s. spelled (program_items l.items) (named_type q)) (struct_named (program_items (drop l.item-index l.items)) q))
    ≡ struct_type_of (program_items l.items) q
