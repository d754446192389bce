-- The annotated assignments of a block and of a program, in text order.
use Rattle.std.specs.Prelude.{List, [], ◌∷◌, ◌++◌}
use Rattle.gp_base.specs.declared.name.LineNo.{LineNo}
use Rattle.gp_tree.specs.Program.{ProgramItem, function_item}
use Rattle.gp_tree.specs.Statement as tree
use Rattle.gp_tree.specs.Statement.{Statement, Statements}
use Rattle.gp_tree.specs.TypeExpression.{TypeExpression}

-- an annotated assignment: its line and the type that it writes
pub record Annotation : Type 0 where
  pub line : LineNo
  pub ty : TypeExpression

abbrev mutual
  pub annotations_in : Statement → List Annotation
  annotations_in (tree.annotated line name ty value) = record { line = line; ty = ty } ∷ []
  annotations_in (tree.if_else line test body other) = annotations body ++ annotations other
  annotations_in (tree.while_loop line test body) = annotations body
  annotations_in (tree.for_loop line name count body) = annotations body
  annotations_in _ = []

  pub annotations : Statements → List Annotation
  annotations tree.no_statements = []
  annotations (tree.with_statement s ss) = annotations_in s ++ annotations ss

abbrev pub program_annotations : List ProgramItem → List Annotation
program_annotations [] = []
program_annotations (function_item f ∷ items) = annotations f.body ++ program_annotations items
program_annotations (_ ∷ items) = program_annotations items
