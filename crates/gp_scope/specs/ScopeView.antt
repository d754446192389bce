-- What a scope says of names and lines.
use Rattle.std.specs.Prelude.{◌≡◌, ℕ, List, option_map, length, nat_eq}
use Rattle.indexmap.specs.IndexMap.{get_by, get_by_text}
use Rattle.gp_base.specs.declared.name.LineNo.{LineNo}
use Rattle.gp_tree.specs.Program.{ProgramItem}
use Rattle.gp_types.specs.View.{ty_view}
use Rattle.gp_types.specs.Signature.{signature_view}
use Rattle.gp_scope.specs.declared.scope.Scope.{Scope}
use Rattle.gp_scope.specs.Definitions.{functions_in}
use Rattle.gp_scope.specs.Known.{Known, known_of}
use Rattle.gp_scope.specs.Spelled.{StructsHaveFields}
use Rattle.gp_scope.specs.Tables.{has_name}

-- what the scope says of names and lines
abbrev pub known_in : Scope → Known
known_in s = record {
  is_imported = has_name s.imports;
  struct_of = λ name. option_map ty_view (get_by_text s.structs name);
  signature_of = λ name. option_map signature_view (get_by_text s.signatures name);
  annotated_at = λ line. option_map ty_view (get_by (nat_eq line.0) s.annotated);
}

-- the scope is the program's: it says of each name and each line what the program does
pub record IsScopeOf (program : List ProgramItem) (s : Scope) : Type 0 where
  pub imports_are : (name : List ℕ) → (known_in s).is_imported name ≡ (known_of program).is_imported name
  pub structs_are : (name : List ℕ) → (known_in s).struct_of name ≡ (known_of program).struct_of name
  pub signatures_are : (name : List ℕ) → (known_in s).signature_of name ≡ (known_of program).signature_of name
  pub annotated_are : (line : LineNo) → (known_in s).annotated_at line ≡ (known_of program).annotated_at line
  pub functions_are : s.functions ≡ length (functions_in program)
  -- each struct's type has its name and its fields with their types
  pub structs_have_fields : StructsHaveFields program
