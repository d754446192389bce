use Rattle.std.proofs.Common.{◌≡◌, map, drop}
use Rattle.gp_tree.specs.Program.{program_items}
use Rattle.gp_typing.specs.Functions.{program_typing}
use Rattle.gp_scope.specs.ScopeView.{known_in}
use Rattle.gp_typing.specs.View.{function_view}
use Rattle.gp_typing.proofs.ProgramLemmas.{program_left}
use Rattle.gp_typing.proofs.program.check_functions.Given as goal

-- the functions so far, with those that are left, are all
abbrev pub invariant-loop-item : goal.invariant-loop-item
invariant-loop-item l =
    program_left (known_in l.scope) (map function_view l.functions) (program_items (drop l.item-index l.items))
    ≡ program_typing (known_in l.scope) (program_items l.items)
