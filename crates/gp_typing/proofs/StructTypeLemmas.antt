-- The table of a program's struct types, as it is copied from the scope.
use Rattle.std.proofs.Common.{◌≡◌, ℕ, ◌+◌, ◌<◌, Bool, true, false, cond, List, length, get_or, drop, Option, Some, None, option_map, refl, sym, ap, ◌∙◌, if◌then◌else◌, bytes_eq}
use Rattle.std.specs.Option.{option_or}
use Rattle.std.proofs.lemmas.Slice.Eq.{bytes_eq-Decides}
use Rattle.gp_tree.specs.declared.program.Item.{Item}
use Rattle.gp_tree.specs.declared.program.Item.TheVariants as item
use Rattle.gp_tree.specs.declared.struct_decl.StructDecl.{StructDecl}
use Rattle.gp_tree.specs.Program.{ProgramItem, program_items, struct_definition}
use Rattle.gp_tree.specs.TypeExpression.{named_type}
use Rattle.gp_types.specs.Types.{Ty}
use Rattle.gp_scope.specs.Definitions.{struct_named}
use Rattle.gp_scope.specs.Spelled.{spelled, struct_type_of}
use Rattle.gp_scope.proofs.ScopeLoops.{at-item}

-- a value goes from what is left into a table
kept : {D A : Type 0} (value : D → A) (old : Option A) (b : Bool) (found : Option A) (d : D) (rest : Option D) (target : Option A)
    → (b ≡ true → found ≡ target) → option_or old (option_map value (cond b (Some d) rest)) ≡ target
    → option_or (option_or old (if b then found else None)) (option_map value rest) ≡ target
kept value (Some x) b found d rest target same h = h
kept value None false found d rest target same h = h
kept value None true found d rest target same h = ap (λ r. option_or r (option_map value rest)) (same refl ∙ sym h) ∙ h

-- a struct is left no more, and its type is in the table
pub struct-copied : (program : List ProgramItem) (items : List Item) (i : ℕ) (x : Item) (d : StructDecl) → i < length items → x ≡ get_or items i x → x ≡ item.Struct d
    → (old new : List ℕ → Option Ty) (found : Option Ty)
    → ((q : List ℕ) → new q ≡ option_or (old q) (if bytes_eq q d.name then found else None))
    → found ≡ struct_type_of program d.name → (q : List ℕ)
    → option_or (old q) (option_map (λ s. spelled program (named_type q)) (struct_named (program_items (drop i items)) q)) ≡ struct_type_of program q
    → option_or (new q) (option_map (λ s. spelled program (named_type q)) (struct_named (program_items (drop (i + 1) items)) q)) ≡ struct_type_of program q
struct-copied program items i x d h at is old new found put found_is q before =
    ap (λ r. option_or r (option_map (λ s. spelled program (named_type q)) (struct_named (program_items (drop (i + 1) items)) q))) (put q)
    ∙ kept (λ s. spelled program (named_type q)) (old q) (bytes_eq q d.name) found (struct_definition d) (struct_named (program_items (drop (i + 1) items)) q) (struct_type_of program q)
    (λ e. found_is ∙ ap (struct_type_of program) (sym ((bytes_eq-Decides q d.name).0 e)))
    (at-item (λ xs. option_or (old q) (option_map (λ s. spelled program (named_type q)) (struct_named (program_items xs) q))) items i x (item.Struct d) h at is ∙ before)

-- what is added to a table, seen through a view
pub mapped : {V A : Type 0} (view : V → A) (old : Option V) (b : Bool) (v : V) (found : Option A) → Some (view v) ≡ found
    → option_map view (option_or old (if b then Some v else None)) ≡ option_or (option_map view old) (if b then found else None)
mapped view (Some x) b v found e = refl
mapped view None true v found e = e
mapped view None false v found e = refl
