-- What the tables of names hold that the code makes of a program.
use Rattle.std.specs.Prelude.{◌≡◌, ℕ, Bool, List, Option, option_map, map, bytes_eq, string_bytes, slice_get, unwrap_or}
use Rattle.std.specs.Option.{option_map_or}
use Rattle.std.specs.declared.hash.FoldHasher.{FoldHasher}
use Rattle.std.specs.declared.hash.BuildHasherDefault.{BuildHasherDefault}
use Rattle.std.specs.declared.string.String.{String}
use Rattle.std.specs.declared.alloc.Global.{Global}
use Rattle.std.specs.Borrow.{Bor}
use Rattle.indexmap.specs.IndexMap.{IndexMap, get_by, index_of_by}
use Rattle.indexmap.specs.IndexSet.{IndexSet, contains_by}
use Rattle.gp_tree.specs.declared.struct_decl.StructDecl.{StructDecl}
use Rattle.gp_tree.specs.Program.{ProgramItem, StructDefinition, struct_definition}
use Rattle.gp_scope.specs.Definitions.{imports, struct_named}

abbrev pub Hasher : Type 0
Hasher = BuildHasherDefault FoldHasher

abbrev pub has_name : IndexSet (String Global) Hasher → List ℕ → Bool
has_name names name = contains_by (λ k. bytes_eq name (string_bytes k)) names

-- borrowed texts as their bytes
abbrev pub texts_of : List (Bor (List ℕ)) → List (List ℕ)
texts_of names = map (λ k. k.now) names

-- the names of a set of borrowed texts, in its order
abbrev pub texts : IndexSet (Bor (List ℕ)) Hasher → List (List ℕ)
texts names = map (λ k. k.now) names.keys

abbrev pub struct_at : IndexMap (Bor (List ℕ)) (Bor StructDecl) Hasher → List ℕ → Option StructDefinition
struct_at structs name = option_map (λ s. struct_definition s.now) (get_by (λ k. bytes_eq name k.now) structs)

abbrev pub HasImports : List ProgramItem → IndexSet (String Global) Hasher → Type 0
HasImports program imported = (name : List ℕ) → has_name imported name ≡ imports program name

abbrev pub HasStructs : List ProgramItem → IndexMap (Bor (List ℕ)) (Bor StructDecl) Hasher → Type 0
HasStructs program structs = (name : List ℕ) → struct_at structs name ≡ struct_named program name

-- the number of a name, where the structs of a table have these numbers by their places: that of the struct, else 1
abbrev pub value_in : IndexMap (Bor (List ℕ)) (Bor StructDecl) Hasher → (numbers : List ℕ) → List ℕ → ℕ
value_in structs numbers name = option_map_or (λ place. unwrap_or (slice_get numbers place) 1) (index_of_by (λ k. bytes_eq name k.now) structs) 1
