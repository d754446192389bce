use Rattle.std.proofs.Common.{◌≡◌, map, drop}
use Rattle.gp_tree.specs.Program.{program_items}
use Rattle.gp_scope.specs.code.AnnotationView.{annotation}
use Rattle.gp_scope.specs.Parts as spec
use Rattle.gp_scope.proofs.parts.check_annotations.Given as goal

-- what is left decides
abbrev pub invariant-loop-annotation : goal.invariant-loop-annotation
invariant-loop-annotation l =
    spec.annotations_fault (program_items l.names.items.now) (map annotation (drop l.annotation-index l.annotations))
    ≡ spec.annotations_fault (program_items l.names.items.now) (map annotation l.annotations)
