use Rattle.std.proofs.Common.{◌≡◌, ℕ, ◌+◌, ◌<◌, List, Bool, true, ◌&&◌, ap, sym, ◌∙◌, refl, drop, length, get_or, arith}
use Rattle.std.specs.List.{list_all}
use Rattle.gp_tree.specs.declared.struct_decl.StructDecl.{StructDecl}
use Rattle.gp_tree.specs.declared.program.Item.{Item}
use Rattle.gp_tree.specs.declared.program.Item.TheVariants as item
use Rattle.gp_tree.specs.Program.{program_items}
use Rattle.gp_scope.specs.Definitions.{structs_in}
use Rattle.gp_scope.specs.code.Components.{held_within}
use Rattle.gp_scope.specs.Tables.{value_in}
use Rattle.gp_scope.proofs.ScopeLoops.{at-item}
use Rattle.gp_scope.proofs.cycles.are_ordered.Goals as goal
use Rattle.gp_scope.proofs.cycles.are_ordered.Goals.{in-Struct+else-not-is_held_within, in_default}

abbrev all_pass : (List ℕ → Bool) → List Item → Bool
all_pass test items = list_all (λ s. test s.name) (structs_in (program_items items))

struct_passes : (test : List ℕ → Bool) (items : List Item) (i : ℕ) (x : Item) (d : StructDecl) → i < length items → x ≡ get_or items i x → x ≡ item.Struct d
    → test d.name ≡ true → (target : Bool) → all_pass test (drop i items) ≡ target → all_pass test (drop (i + 1) items) ≡ target
struct_passes test items i x d h at is passes target before =
    sym (ap (λ b. b && all_pass test (drop (i + 1) items)) passes) ∙ at-item (all_pass test) items i x (item.Struct d) h at is ∙ before

other_passes : (test : List ℕ → Bool) (items : List Item) (i : ℕ) (x : Item) → i < length items → x ≡ get_or items i x → ((d : StructDecl) → x ≡ item.Struct d → ⊥)
    → (target : Bool) → all_pass test (drop i items) ≡ target → all_pass test (drop (i + 1) items) ≡ target
other_passes test items i x h at not target before = go x refl
  where
    go : (y : Item) → x ≡ y → all_pass test (drop (i + 1) items) ≡ target
    go (item.Import m) is = at-item (all_pass test) items i x (item.Import m) h at is ∙ before
    go (item.Struct d) is = absurd (not d is)
    go (item.Function f) is = at-item (all_pass test) items i x (item.Function f) h at is ∙ before

pub loop-item-preserved : goal.loop-item-preserved
loop-item-preserved c =
    let items = c.args.names.now.items.now in
    let numbers = value_in c.args.names.now.structs c.args.numbers.now in
    let test : List ℕ → Bool = λ n. held_within (program_items items) numbers (numbers n) n in
    elim c.match-item.branch [
      | in-Struct+else-not-is_held_within w ↦
          struct_passes test items c.loop-item.item-index c.item-item.result w.in-Struct.decl (omega arith) c.item-item.is w.in-Struct.is
          (ap test (sym w.as_str-name.ensures)
          ∙ ap (λ n. held_within (program_items items) numbers n w.as_str-name.result.now) (sym w.value_of.ensures)
          ∙ sym w.is_held_within.ensures ∙ w.if-not-is_held_within.false)
          _ c.loop-item.invariant
      | in_default w ↦ other_passes test items c.loop-item.item-index c.item-item.result (omega arith) c.item-item.is w.in_default.not-Struct _ c.loop-item.invariant
    ]
