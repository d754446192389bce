-- Lines one after the other, with the blocks that are open and what is known of their statements.
use Rattle.std.specs.Prelude.{◌+◌, ℕ, Bool, true, false, List, [], ◌∷◌, ◌++◌, Option, Some, None, Result, Ok, Err, if◌then◌else◌, nat_lt, ◌==◌}
use Rattle.gp_base.specs.declared.name.LineNo.{LineNo}
use Rattle.gp_tree.specs.declared.place.Targets.TheVariants.{One}
use Rattle.gp_tree.specs.Expression.{Expression}
use Rattle.gp_tree.specs.Expression as e
use Rattle.gp_tree.specs.Form.{Form, MaybeForm, no_form, some_form}
use Rattle.gp_tree.specs.Form as f
use Rattle.gp_tree.specs.Program.{FieldDefinition, ProgramItem, import_item}
use Rattle.gp_tree.specs.Statement.{Statement, Statements, statements_of}
use Rattle.gp_tree.specs.Statement as s
use Rattle.gp_parse.specs.Nesting.{Line, Head, function_of, struct_of}
use Rattle.gp_parse.specs.FirstFault.{Fault, nesting, too_deep}

-- ---- one line alone

abbrev pub in_loop : Bool → Statement → Option Statement
in_loop loop x = if loop then Some x else None

-- the statement of a simple form
abbrev pub simple_of : Bool → LineNo → Form → Option Statement
simple_of loop n f.docstring = Some (s.pass n)
simple_of loop n (f.assign t v) = Some (s.assign n t v)
simple_of loop n (f.annotated x ty v) = Some (s.annotated n x ty v)
simple_of loop n (f.augmented p op v) = Some (s.assign n (One p) (e.binary op (e.place p) v))
simple_of loop n (f.evaluate v) = Some (s.evaluate n v)
simple_of loop n (f.return_value v) = Some (s.return_value n v)
simple_of loop n f.break_loop = in_loop loop (s.break_loop n)
simple_of loop n f.continue_loop = in_loop loop (s.continue_loop n)
simple_of loop n f.pass = Some (s.pass n)
simple_of loop n _ = None

abbrev pub class_line_of : LineNo → Form → Option (List FieldDefinition)
class_line_of n (f.field name ty) = Some (record { line = n; name = name; ty = ty } ∷ [])
class_line_of n f.docstring = Some []
class_line_of n f.pass = Some []
class_line_of n _ = None

abbrev pub top_line_of : LineNo → Form → Option (List ProgramItem)
top_line_of n (f.import_names name names) = Some (import_item (record { line = n; «module» = name; names = names }) ∷ [])
top_line_of n f.docstring = Some []
top_line_of n f.pass = Some []
top_line_of n (f.module_call name) = Some []
top_line_of n _ = None

-- ---- open blocks

-- the header whose block is open: of a function, of an `if` or `elif`, of an `else`, of a `while`, of a `for`
pub data Header : Type 0 where
  function_body : Header
  branch : LineNo → Expression → Header
  other_branch : Header
  while_body : LineNo → Expression → Header
  for_body : LineNo → List ℕ → Expression → Header

-- a block that was begun: its header with the header's indentation, its level, and whether it stands in a loop
pub record Opening : Type 0 where
  pub header : Header
  pub indent : ℕ
  pub level : ℕ
  pub in_loop : Bool

-- an `if` or `elif` whose other branch may still come
pub record Branch : Type 0 where
  pub line : LineNo
  pub test : Expression
  pub block : Statements

-- An open block: its statements so far, but for an `if` whose other branch may still come. That one is the chain
-- of its branches, the last one first, and the level of the last one's block.
pub record Frame : Type 0 where
  pub opening : Opening
  pub indent : ℕ
  pub done : List Statement
  pub chain : List Branch
  pub reached : ℕ

-- The open blocks, the innermost first; and a block that was begun without a simple form, and wants its lines.
pub record Blocks : Type 0 where
  pub wants : Option Opening
  pub frames : List Frame

-- the branches with this last other branch
abbrev pub settled : List Branch → List Statement → List Statement
settled [] others = others
settled (b ∷ c) others = settled c (s.if_else b.line b.test b.block (statements_of others) ∷ [])

abbrev pub with_done : Frame → List Statement → Frame
with_done x xs = record { opening = x.opening; indent = x.indent; done = xs; chain = []; reached = x.reached }

-- no other branch comes
abbrev pub settle : Frame → Frame
settle x = with_done x (x.done ++ settled x.chain [])

abbrev pub add : Statement → Frame → Frame
add y x = with_done x (x.done ++ y ∷ [])

-- all statements of the block
abbrev pub block_of : Frame → List Statement
block_of x = x.done ++ settled x.chain []

-- a block that ends goes to its header in the frame around it

abbrev pub put_done : Header → List Statement → Frame → List Statement
put_done function_body xs y = y.done
put_done (branch n test) xs y = y.done
put_done other_branch xs y = y.done ++ settled y.chain xs
put_done (while_body n test) xs y = y.done ++ s.while_loop n test (statements_of xs) ∷ []
put_done (for_body n name count) xs y = y.done ++ s.for_loop n name count (statements_of xs) ∷ []

abbrev pub put_chain : Header → List Statement → Frame → List Branch
put_chain (branch n test) xs y = record { line = n; test = test; block = statements_of xs } ∷ y.chain
put_chain other_branch xs y = []
put_chain function_body xs y = y.chain
put_chain (while_body n test) xs y = y.chain
put_chain (for_body n name count) xs y = y.chain

abbrev pub put_reached : Opening → Header → Frame → ℕ
put_reached o (branch n test) y = o.level
put_reached o function_body y = y.reached
put_reached o other_branch y = y.reached
put_reached o (while_body n test) y = y.reached
put_reached o (for_body n name count) y = y.reached

abbrev pub put : Opening → List Statement → Frame → Frame
put o xs y = record { opening = y.opening; indent = y.indent; done = put_done o.header xs y; chain = put_chain o.header xs y; reached = put_reached o o.header y }

-- the frames with the deeper blocks closed, where one of them has this indentation
abbrev pub place : ℕ → Frame → List Frame → List Frame
place i x [] = if x.indent == i then x ∷ [] else []
place i x (y ∷ ys) = if x.indent == i then x ∷ y ∷ ys else (if nat_lt i x.indent then place i (put x.opening (block_of x) y) ys else [])

-- all blocks closed: the statements of the outermost
abbrev pub closed : Frame → List Frame → List Statement
closed x [] = block_of x
closed x (y ∷ ys) = closed (put x.opening (block_of x) y) ys

-- ---- the next line in a function

-- a header, by the simple form behind its colon
abbrev pub opens_with : (ℕ → Bool) → Opening → LineNo → Option Statement → Frame → List Frame → Result Blocks Fault
opens_with fits o n None x xs = Err (nesting n)
opens_with fits o n (Some y) x xs = if fits o.level then Ok (record { wants = None; frames = put o (y ∷ []) x ∷ xs }) else Err (too_deep n)

abbrev pub opens : (ℕ → Bool) → Opening → LineNo → MaybeForm → Frame → List Frame → Result Blocks Fault
opens fits o n no_form x xs = if fits o.level then Ok (record { wants = Some o; frames = x ∷ xs }) else Err (too_deep n)
opens fits o n (some_form form) x xs = opens_with fits o n (simple_of o.in_loop n form) x xs

-- a block of an `if` that may go on
abbrev pub opens_other : (ℕ → Bool) → Opening → LineNo → MaybeForm → Frame → List Frame → List Branch → Result Blocks Fault
opens_other fits o n behind x xs [] = Err (nesting n)
opens_other fits o n behind x xs (b ∷ c) = opens fits o n behind x xs

abbrev pub adds : Option Statement → LineNo → Frame → List Frame → Result Blocks Fault
adds None n x xs = Err (nesting n)
adds (Some y) n x xs = Ok (record { wants = None; frames = add y (settle x) ∷ xs })

abbrev pub opening : Frame → Header → ℕ → Bool → Opening
opening x h l loop = record { header = h; indent = x.indent; level = l; in_loop = loop }

-- the next line of the first frame
abbrev pub goes_on : (ℕ → Bool) → LineNo → Form → Frame → List Frame → Result Blocks Fault
goes_on fits n (f.while_header test behind) x xs = opens fits (opening x (while_body n test) (x.opening.level + 1) true) n behind (settle x) xs
goes_on fits n (f.for_header name count behind) x xs = opens fits (opening x (for_body n name count) (x.opening.level + 1) true) n behind (settle x) xs
goes_on fits n (f.if_header test behind) x xs = opens fits (opening x (branch n test) (x.opening.level + 1) x.opening.in_loop) n behind (settle x) xs
goes_on fits n (f.elif_header test behind) x xs = opens_other fits (opening x (branch n test) (x.reached + 1) x.opening.in_loop) n behind x xs x.chain
goes_on fits n (f.else_header behind) x xs = opens_other fits (opening x other_branch x.reached x.opening.in_loop) n behind x xs x.chain
goes_on fits n form x xs = adds (simple_of x.opening.in_loop n form) n x xs

abbrev pub at_frames : (ℕ → Bool) → LineNo → Form → List Frame → Result Blocks Fault
at_frames fits n form [] = Err (nesting n)
at_frames fits n form (x ∷ xs) = goes_on fits n form x xs

abbrev pub opened : Opening → ℕ → Frame
opened o i = record { opening = o; indent = i; done = []; chain = []; reached = 0 }

abbrev pub placed : ℕ → List Frame → List Frame
placed i [] = []
placed i (x ∷ xs) = place i x xs

abbrev pub step_by : (ℕ → Bool) → Line → Option Opening → List Frame → Result Blocks Fault
step_by fits x None frames = at_frames fits x.number x.form (placed x.indent frames)
step_by fits x (Some o) frames = if nat_lt o.indent x.indent then goes_on fits x.number x.form (opened o x.indent) frames else Err (nesting x.number)

-- ---- the next line of a program

-- where the lines so far end
pub data Position : Type 0 where
  between : Position
  -- behind the decorator of a function, and of a class, with its line
  function_marked : LineNo → Position
  class_marked : LineNo → Position
  -- behind a `class` line, with its decorator's line, its line and its name; and in its block, with the indentation and the fields so far
  class_begun : LineNo → LineNo → List ℕ → Position
  in_class : LineNo → LineNo → List ℕ → ℕ → List FieldDefinition → Position
  in_function : Head → Blocks → Position

pub record State : Type 0 where
  pub items : List ProgramItem
  pub position : Position

abbrev pub at : List ProgramItem → Position → Result State Fault
at items p = Ok (record { items = items; position = p })

abbrev pub adds_items : Option (List ProgramItem) → LineNo → List ProgramItem → Result State Fault
adds_items None n items = Err (nesting n)
adds_items (Some more) n items = at (items ++ more) between

abbrev pub top_form : LineNo → Form → List ProgramItem → Result State Fault
top_form n f.function_decorator items = at items (function_marked n)
top_form n f.struct_decorator items = at items (class_marked n)
top_form n form items = adds_items (top_line_of n form) n items

-- a line that begins an item
abbrev pub at_top : List ProgramItem → Line → Result State Fault
at_top items x = if x.indent == 0 then top_form x.number x.form items else Err (nesting x.number)

abbrev pub body_opening : Opening
body_opening = record { header = function_body; indent = 0; level = 1; in_loop = false }

abbrev pub def_with : Head → Option Statement → List ProgramItem → Result State Fault
def_with h None items = Err (nesting h.line)
def_with h (Some y) items = at (items ++ function_of h (y ∷ []) ∷ []) between

abbrev pub def_behind : Head → MaybeForm → List ProgramItem → Result State Fault
def_behind h no_form items = at items (in_function h (record { wants = Some body_opening; frames = [] }))
def_behind h (some_form form) items = def_with h (simple_of false h.line form) items

abbrev pub def_line : LineNo → LineNo → Form → List ProgramItem → Result State Fault
def_line mark n (f.def_header name params ty behind) items = def_behind (record { mark = mark; line = n; name = name; params = params; result_type = ty }) behind items
def_line mark n _ items = Err (nesting n)

abbrev pub class_line : LineNo → LineNo → Form → List ProgramItem → Result State Fault
class_line mark n (f.class_header name) items = at items (class_begun mark n name)
class_line mark n _ items = Err (nesting n)

abbrev pub adds_fields : Option (List FieldDefinition) → LineNo → LineNo → LineNo → List ℕ → ℕ → List FieldDefinition → List ProgramItem → Result State Fault
adds_fields None m mark n name i ds items = Err (nesting m)
adds_fields (Some es) m mark n name i ds items = at items (in_class mark n name i (ds ++ es))

abbrev pub in_blocks : Head → List ProgramItem → Result Blocks Fault → Result State Fault
in_blocks h items (Ok b) = at items (in_function h b)
in_blocks h items (Err d) = Err d

-- a line at the top behind a function's block
abbrev pub behind_function : Head → List ProgramItem → Line → Option Opening → List Frame → Result State Fault
behind_function h items x (Some o) frames = Err (nesting x.number)
behind_function h items x None [] = Err (nesting x.number)
behind_function h items x None (y ∷ ys) = at_top (items ++ function_of h (closed y ys) ∷ []) x

abbrev pub step_at : (ℕ → Bool) → Line → List ProgramItem → Position → Result State Fault
step_at fits x items between = at_top items x
step_at fits x items (function_marked mark) = if x.indent == 0 then def_line mark x.number x.form items else Err (nesting x.number)
step_at fits x items (class_marked mark) = if x.indent == 0 then class_line mark x.number x.form items else Err (nesting x.number)
step_at fits x items (class_begun mark n name) = if nat_lt 0 x.indent then adds_fields (class_line_of x.number x.form) x.number mark n name x.indent [] items else Err (nesting x.number)
step_at fits x items (in_class mark n name i ds) = if x.indent == i then adds_fields (class_line_of x.number x.form) x.number mark n name i ds items else at_top (items ++ struct_of mark n name ds ∷ []) x
step_at fits x items (in_function h b) = if x.indent == 0 then behind_function h items x b.wants b.frames else in_blocks h items (step_by fits x b.wants b.frames)

unfoldable pub step : (ℕ → Bool) → State → Line → Result State Fault
step fits s x = step_at fits x s.items s.position

-- ---- all lines

-- the program, where the lines may end here, or the fault at the last line
abbrev pub ends_function : Head → List ProgramItem → LineNo → Option Opening → List Frame → Result (List ProgramItem) Fault
ends_function h items last (Some o) frames = Err (nesting last)
ends_function h items last None [] = Err (nesting last)
ends_function h items last None (y ∷ ys) = Ok (items ++ function_of h (closed y ys) ∷ [])

abbrev pub ends_at : List ProgramItem → LineNo → Position → Result (List ProgramItem) Fault
ends_at items last between = Ok items
ends_at items last (function_marked mark) = Err (nesting last)
ends_at items last (class_marked mark) = Err (nesting last)
ends_at items last (class_begun mark n name) = Err (nesting last)
ends_at items last (in_class mark n name i ds) = Ok (items ++ struct_of mark n name ds ∷ [])
ends_at items last (in_function h b) = ends_function h items last b.wants b.frames

abbrev pub goes_to : {A B : Type 0} → Result A Fault → (A → Result B Fault) → Result B Fault
goes_to (Ok x) k = k x
goes_to (Err d) k = Err d

unfoldable pub run : (ℕ → Bool) → State → List Line → Result State Fault
run fits s [] = Ok s
run fits s (x ∷ p) = goes_to (step fits s x) (λ t. run fits t p)

unfoldable pub read : (ℕ → Bool) → State → LineNo → List Line → Result (List ProgramItem) Fault
read fits s last [] = ends_at s.items last s.position
read fits s last (x ∷ xs) = goes_to (step fits s x) (λ t. read fits t x.number xs)

abbrev pub start : State
start = record { items = []; position = between }
