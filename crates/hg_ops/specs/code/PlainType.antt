-- The types that a list of ops names by a word.
use Rattle.hg_ops.specs.declared.signatures.Plain.{Plain}
use Rattle.hg_ops.specs.declared.signatures.Plain.TheVariants as plain
use Rattle.hg_ops.specs.declared.signatures.PlainRow.{PlainRow}
use Rattle.hg_ops.specs.declared.signatures.PlainRow.TheVariants as plain_row
use Rattle.std.specs.Prelude.{List, [], ◌∷◌}
use Rattle.hg_ops.specs.GraphType.{GraphType, Int, Qubit, bool_type}

abbrev pub plain_type : Plain → GraphType
plain_type plain.Int = Int
plain_type plain.Qubit = Qubit
plain_type plain.Bool = bool_type

abbrev pub plain_types : PlainRow → List GraphType
plain_types plain_row.Empty = []
plain_types plain_row.Qubit = Qubit ∷ []
plain_types plain_row.Int = Int ∷ []
plain_types plain_row.Bool = bool_type ∷ []
plain_types plain_row.QubitAndBool = Qubit ∷ bool_type ∷ []
plain_types plain_row.TwoInts = Int ∷ Int ∷ []
plain_types plain_row.TwoBools = bool_type ∷ bool_type ∷ []
