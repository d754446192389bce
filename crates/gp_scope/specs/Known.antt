-- What a program's names mean outside of its functions.
use Rattle.std.specs.Prelude.{ℕ, Bool, List, Option}
use Rattle.gp_base.specs.declared.name.LineNo.{LineNo}
use Rattle.gp_tree.specs.Program.{ProgramItem}
use Rattle.gp_types.specs.Types.{Ty}
use Rattle.gp_types.specs.Signature.{Signature}
use Rattle.gp_scope.specs.Definitions.{imports}
use Rattle.gp_scope.specs.Spelled.{struct_type_of, function_signature, annotated_type}

-- whether a name is imported; the type of the struct of a name; the signature of the function of a name; the type that the
-- annotated assignment of a line writes
pub record Known : Type 0 where
  pub is_imported : List ℕ → Bool
  pub struct_of : List ℕ → Option Ty
  pub signature_of : List ℕ → Option Signature
  pub annotated_at : LineNo → Option Ty

-- what the program says of names and lines
abbrev pub known_of : List ProgramItem → Known
known_of program = record {
  is_imported = imports program;
  struct_of = struct_type_of program;
  signature_of = function_signature program;
  annotated_at = annotated_type program;
}
