-- The annotated assignment that one in memory is.
use Rattle.gp_tree.specs.TypeExpression.{type_expression}
use Rattle.gp_scope.specs.declared.annotations.Annotation as declared
use Rattle.gp_scope.specs.Annotations.{Annotation}

abbrev pub annotation : declared.Annotation → Annotation
annotation a = record { line = a.line; ty = type_expression a.ty.now }
