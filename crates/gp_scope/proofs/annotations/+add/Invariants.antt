use Rattle.std.proofs.Common.{◌≡◌, ◌++◌, map, drop}
use Rattle.gp_tree.specs.Statement.{statements}
use Rattle.gp_scope.specs.Annotations as spec
use Rattle.gp_scope.specs.code.AnnotationView.{annotation}
use Rattle.gp_scope.proofs.annotations.+add.Given as goal

-- what was found and what is left are all
abbrev pub invariant-add_block-loop-stmt : goal.invariant-add_block-loop-stmt
invariant-add_block-loop-stmt l =
    map annotation l.found.items ++ spec.annotations (statements (drop l.stmt-index l.block))
    ≡ map annotation l.initial.found.items ++ spec.annotations (statements l.block)
