-- The forms of lines as plain data, and the data that the form of a line in memory is.
use Rattle.std.specs.Prelude.{ℕ, Bool, List, map, Option, Some, None}
use Rattle.std.specs.declared.boxed.Box.{Box}
use Rattle.std.specs.declared.alloc.Global.{Global}
use Rattle.gp_tree.specs.declared.expr.BinOp.{BinOp}
use Rattle.gp_tree.specs.declared.function.Param.{Param}
use Rattle.gp_tree.specs.declared.line_form.LineForm.{LineForm, fold-LineForm}
use Rattle.gp_tree.specs.declared.line_form.LineForm.TheOpen.{LineForm-F}
use Rattle.gp_tree.specs.declared.place.Place.{Place}
use Rattle.gp_tree.specs.declared.place.Targets.{Targets}
use Rattle.gp_tree.specs.Expression.{Expression, expression, maybe_expression}
use Rattle.gp_tree.specs.TypeExpression.{TypeExpression, type_expression, maybe_type}

-- a parameter of a function
pub record Parameter : Type 0 where
  pub name : List ℕ
  pub ty : TypeExpression
  pub owned : Bool

-- a parameter in memory as plain data
abbrev pub parameter : Param → Parameter
parameter p = record { name = p.name; ty = type_expression p.ty; owned = p.owned }

mutual
  -- the form of a line; the last part of a header is the simple statement behind its colon, if there is one
  pub data Form : Type 0 where
    docstring : Form
    assign : Targets → Expression → Form
    annotated : List ℕ → TypeExpression → Expression → Form
    augmented : Place → BinOp → Expression → Form
    evaluate : Expression → Form
    return_value : Option Expression → Form
    break_loop : Form
    continue_loop : Form
    pass : Form
    def_header : List ℕ → List Parameter → Option TypeExpression → MaybeForm → Form
    class_header : List ℕ → Form
    if_header : Expression → MaybeForm → Form
    elif_header : Expression → MaybeForm → Form
    while_header : Expression → MaybeForm → Form
    else_header : MaybeForm → Form
    for_header : List ℕ → Expression → MaybeForm → Form
    function_decorator : Form
    struct_decorator : Form
    import_names : List ℕ → List (List ℕ) → Form
    field : List ℕ → TypeExpression → Form
    module_call : List ℕ → Form

  pub data MaybeForm : Type 0 where
    no_form : MaybeForm
    some_form : Form → MaybeForm

abbrev pub boxed_form : Option (Box Form Global) → MaybeForm
boxed_form None = no_form
boxed_form (Some f) = some_form f.value

-- one level, with the form inside already seen as plain data
abbrev pub form_step : LineForm-F Form → Form
form_step LineForm-F.Docstring = docstring
form_step (LineForm-F.Assign targets value) = assign targets (expression value)
form_step (LineForm-F.Annotated name ty value) = annotated name (type_expression ty) (expression value)
form_step (LineForm-F.Augmented place op value) = augmented place op (expression value)
form_step (LineForm-F.Evaluate value) = evaluate (expression value)
form_step (LineForm-F.Return value) = return_value (maybe_expression value)
form_step LineForm-F.Break = break_loop
form_step LineForm-F.Continue = continue_loop
form_step LineForm-F.Pass = pass
form_step (LineForm-F.Def name params result body) = def_header name (map parameter params) (maybe_type result) (boxed_form body)
form_step (LineForm-F.Class name) = class_header name
form_step (LineForm-F.If test body) = if_header (expression test) (boxed_form body)
form_step (LineForm-F.Elif test body) = elif_header (expression test) (boxed_form body)
form_step (LineForm-F.While test body) = while_header (expression test) (boxed_form body)
form_step (LineForm-F.Else body) = else_header (boxed_form body)
form_step (LineForm-F.For name count body) = for_header name (expression count) (boxed_form body)
form_step LineForm-F.FunctionDecorator = function_decorator
form_step LineForm-F.StructDecorator = struct_decorator
form_step (LineForm-F.Import name names) = import_names name names
form_step (LineForm-F.Field name ty) = field name (type_expression ty)
form_step (LineForm-F.ModuleCall name) = module_call name

-- the form of a line in memory as plain data
abbrev pub form : LineForm → Form
form = fold-LineForm Form form_step

-- the simple statement behind a colon, before it has a place in memory of its own
abbrev pub maybe_form : Option LineForm → MaybeForm
maybe_form None = no_form
maybe_form (Some f) = some_form (form f)

-- the simple statement behind a colon
abbrev pub form_behind : Option (Box LineForm Global) → MaybeForm
form_behind None = no_form
form_behind (Some f) = some_form (form f.value)
