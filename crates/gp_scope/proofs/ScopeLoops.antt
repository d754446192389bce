-- Loops that fill the tables of a scope: what goes from the items that are left into a table.
use Rattle.std.proofs.Common.{◌≡◌, ℕ, ◌+◌, ◌<◌, Bool, true, false, cond, List, [], ◌∷◌, ◌++◌, length, get_or, drop, find, Option, Some, None, option_map, refl, sym, ap, ◌∙◌, if◌then◌else◌, bytes_eq}
use Rattle.std.specs.Option.{option_or}
use Rattle.std.specs.declared.string.String.{String}
use Rattle.std.specs.declared.alloc.Global.{Global}
use Rattle.std.proofs.lemmas.Slice.Eq.{bytes_eq-Decides}
use Rattle.indexmap.specs.IndexMap.{IndexMap, get_by_text}
use Rattle.gp_tree.specs.declared.function.Function.{Function}
use Rattle.gp_tree.specs.declared.program.Item.{Item}
use Rattle.gp_tree.specs.declared.program.Item.TheVariants as item
use Rattle.gp_tree.specs.declared.struct_decl.StructDecl.{StructDecl}
use Rattle.gp_tree.specs.Program.{ProgramItem, program_items, struct_definition, function_definition}
use Rattle.gp_tree.specs.TypeExpression.{named_type}
use Rattle.gp_types.specs.declared.ty.Ty as declared_ty
use Rattle.gp_types.specs.declared.signature.Signature as declared_signature
use Rattle.gp_types.specs.Types as types
use Rattle.gp_types.specs.Signature as signatures
use Rattle.gp_types.specs.View.{ty_view}
use Rattle.gp_types.specs.Signature.{signature_view}
use Rattle.gp_scope.specs.Definitions.{struct_named, function_named}
use Rattle.gp_scope.specs.Spelled.{spelled, signature_of}
use Rattle.gp_scope.specs.Tables.{Hasher}
use Rattle.gp_scope.proofs.TableLemmas.{left}
use Rattle.gp_scope.proofs.KeptFirst.{moved}

-- what is said of the items that are left, at the item that comes next
pub at-item : {A : Type 0} (F : List Item → A) (items : List Item) (i : ℕ) (x y : Item) → i < length items → x ≡ get_or items i x → x ≡ y
    → F (y ∷ drop (i + 1) items) ≡ F (drop i items)
at-item F items i x y h at is = ap (λ z. F (z ∷ drop (i + 1) items)) (sym is) ∙ ap F (sym (left items i x h at))

pub struct-added : (program : List ProgramItem) (items : List Item) (i : ℕ) (x : Item) (d : StructDecl) → i < length items → x ≡ get_or items i x → x ≡ item.Struct d
    → (old new : IndexMap (String Global) declared_ty.Ty Hasher) (made : declared_ty.Ty)
    → ((q : List ℕ) → get_by_text new q ≡ option_or (get_by_text old q) (if bytes_eq q d.name then Some made else None))
    → ty_view made ≡ spelled program (named_type d.name) → (q : List ℕ) (target : Option types.Ty)
    → option_or (option_map ty_view (get_by_text old q)) (option_map (λ s. spelled program (named_type q)) (struct_named (program_items (drop i items)) q)) ≡ target
    → option_or (option_map ty_view (get_by_text new q)) (option_map (λ s. spelled program (named_type q)) (struct_named (program_items (drop (i + 1) items)) q)) ≡ target
struct-added program items i x d h at is old new made put made_is q target before =
    moved ty_view (λ s. spelled program (named_type q)) (get_by_text old q) (get_by_text new q) (bytes_eq q d.name) made (struct_definition d) (struct_named (program_items (drop (i + 1) items)) q) target
    (put q) (λ e. made_is ∙ ap (λ n. spelled program (named_type n)) (sym ((bytes_eq-Decides q d.name).0 e)))
    (at-item (λ xs. option_or (option_map ty_view (get_by_text old q)) (option_map (λ s. spelled program (named_type q)) (struct_named (program_items xs) q))) items i x (item.Struct d) h at is ∙ before)

pub function-added : (program : List ProgramItem) (items : List Item) (i : ℕ) (x : Item) (f : Function) → i < length items → x ≡ get_or items i x → x ≡ item.Function f
    → (old new : IndexMap (String Global) declared_signature.Signature Hasher) (made : declared_signature.Signature)
    → ((q : List ℕ) → get_by_text new q ≡ option_or (get_by_text old q) (if bytes_eq q f.name then Some made else None))
    → signature_view made ≡ signature_of program (function_definition f) → (q : List ℕ) (target : Option signatures.Signature)
    → option_or (option_map signature_view (get_by_text old q)) (option_map (signature_of program) (function_named (program_items (drop i items)) q)) ≡ target
    → option_or (option_map signature_view (get_by_text new q)) (option_map (signature_of program) (function_named (program_items (drop (i + 1) items)) q)) ≡ target
function-added program items i x f h at is old new made put made_is q target before =
    moved signature_view (signature_of program) (get_by_text old q) (get_by_text new q) (bytes_eq q f.name) made (function_definition f) (function_named (program_items (drop (i + 1) items)) q) target
    (put q) (λ e. made_is)
    (at-item (λ xs. option_or (option_map signature_view (get_by_text old q)) (option_map (signature_of program) (function_named (program_items xs) q))) items i x (item.Function f) h at is ∙ before)

-- the first of two lists is looked at first
pub find-both : {A B : Type 0} (p : A → Bool) (g : A → B) (xs ys : List A) (first : Option B)
    → option_or (option_or first (option_map g (find p xs))) (option_map g (find p ys)) ≡ option_or first (option_map g (find p (xs ++ ys)))
find-both p g xs ys (Some x) = refl
find-both p g [] ys None = refl
find-both p g (x ∷ xs) ys None =
    elim (p x) as (λ b. option_or (option_map g (cond b (Some x) (find p xs))) (option_map g (find p ys)) ≡ option_map g (cond b (Some x) (find p (xs ++ ys))))
    [ true ↦ refl | false ↦ find-both p g xs ys None ]
