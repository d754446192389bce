use Rattle.std.proofs.Common.{◌≡◌, suc, map, min}
use Rattle.gp_tree.specs.Program.{struct_definition}
use Rattle.gp_scope.specs.code.Levels.{fields_total}
use Rattle.gp_scope.specs.Tables.{value_in}
use Rattle.gp_scope.proofs.sizes.next_sizes.Given as goal

-- the sizes of the structs so far
abbrev pub invariant-loop-decl : goal.invariant-loop-decl
invariant-loop-decl l = l.next.items ≡ map (λ s. min (suc (fields_total (value_in l.names.structs l.sizes) (struct_definition s.now.now).fields)) 65) l.yielded
