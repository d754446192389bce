-- Functions, structs and programs as plain data, and the data that those in memory are.
use Rattle.std.specs.Prelude.{ℕ, List, map, Option}
use Rattle.gp_base.specs.declared.name.LineNo.{LineNo}
use Rattle.gp_tree.specs.declared.function.Function.{Function}
use Rattle.gp_tree.specs.declared.program.Import.{Import}
use Rattle.gp_tree.specs.declared.program.Item.{Item}
use Rattle.gp_tree.specs.declared.program.Item.TheVariants as item
use Rattle.gp_tree.specs.declared.struct_decl.FieldDecl.{FieldDecl}
use Rattle.gp_tree.specs.declared.struct_decl.StructDecl.{StructDecl}
use Rattle.gp_tree.specs.Form.{Parameter, parameter}
use Rattle.gp_tree.specs.Statement.{Statements, statements}
use Rattle.gp_tree.specs.TypeExpression.{TypeExpression, type_expression, maybe_type}

-- a function with its lines: that of its `def`, and that of its decorator
pub record FunctionDefinition : Type 0 where
  pub line : LineNo
  pub mark : LineNo
  pub name : List ℕ
  pub params : List Parameter
  pub result_type : Option TypeExpression
  pub body : Statements

pub record FieldDefinition : Type 0 where
  pub line : LineNo
  pub name : List ℕ
  pub ty : TypeExpression

-- a struct with its lines: that of its `class`, and that of its decorator
pub record StructDefinition : Type 0 where
  pub line : LineNo
  pub mark : LineNo
  pub name : List ℕ
  pub fields : List FieldDefinition

pub data ProgramItem : Type 0 where
  import_item : Import → ProgramItem
  struct_item : StructDefinition → ProgramItem
  function_item : FunctionDefinition → ProgramItem

abbrev pub function_definition : Function → FunctionDefinition
function_definition f = record { line = f.line; mark = f.mark; name = f.name; params = map parameter f.params; result_type = maybe_type f.result; body = statements f.body.items }

abbrev pub field_definition : FieldDecl → FieldDefinition
field_definition f = record { line = f.line; name = f.name; ty = type_expression f.ty }

abbrev pub struct_definition : StructDecl → StructDefinition
struct_definition s = record { line = s.line; mark = s.mark; name = s.name; fields = map field_definition s.fields }

abbrev pub program_item : Item → ProgramItem
program_item (item.Import i) = import_item i
program_item (item.Struct s) = struct_item (struct_definition s)
program_item (item.Function f) = function_item (function_definition f)

-- a program in memory as plain data
abbrev pub program_items : List Item → List ProgramItem
program_items items = map program_item items
