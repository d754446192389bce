-- Numbers of structs that show which of them are on no cycle.
use Rattle.std.specs.Prelude.{ℕ, ◌-◌, Bool, true, ◌&&◌, List, Some, None, nat_lt, nat_le}
use Rattle.std.specs.List.{list_all}
use Rattle.gp_tree.specs.Program.{ProgramItem}
use Rattle.gp_scope.specs.Definitions.{struct_named, structs_in}
use Rattle.gp_scope.specs.code.EachName.{each_field_name}

-- whether all names that the struct of this name holds have numbers up to the limit
abbrev pub held_within : List ProgramItem → (numbers : List ℕ → ℕ) → (limit : ℕ) → List ℕ → Bool
held_within program numbers limit name =
    elim (struct_named program name) [ None ↦ true | Some s ↦ each_field_name (λ held. nat_le (numbers held) limit) s.fields ]

-- whether no struct has a number below that of a name that it holds
abbrev pub are_ordered : List ProgramItem → (numbers : List ℕ → ℕ) → Bool
are_ordered program numbers = list_all (λ s. held_within program numbers (numbers s.name) s.name) (structs_in program)

-- whether the struct of this name has a number above those of all names that it holds
abbrev pub is_above_held : List ProgramItem → (numbers : List ℕ → ℕ) → List ℕ → Bool
is_above_held program numbers name = nat_lt 0 (numbers name) && held_within program numbers (numbers name - 1) name
