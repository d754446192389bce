-- Open blocks in memory as plain data, and what a call gives by the data that it should.
use Rattle.std.specs.Prelude.{◌≡◌, List, ◌∷◌, map, Option, Some, None, Result, Ok, Err}
use Rattle.gp_tree.specs.Expression.{expression}
use Rattle.gp_tree.specs.Form.{parameter}
use Rattle.gp_tree.specs.Statement.{statement, statements}
use Rattle.gp_parse.specs.declared.open_blocks.Header.{Header}
use Rattle.gp_parse.specs.declared.open_blocks.Header.TheVariants as h
use Rattle.gp_parse.specs.declared.open_blocks.Opening.{Opening}
use Rattle.gp_parse.specs.declared.open_blocks.Branch.{Branch}
use Rattle.gp_parse.specs.declared.open_blocks.Frame.{Frame}
use Rattle.gp_parse.specs.declared.parse_fault.ParseFault.{ParseFault}
use Rattle.gp_parse.specs.declared.parse_fault.ParseFault.TheVariants as fault
use Rattle.gp_parse.specs.declared.position.Position.{Position}
use Rattle.gp_parse.specs.declared.position.Position.TheVariants as p
use Rattle.gp_parse.specs.declared.position.OpenFunction.{OpenFunction}
use Rattle.gp_tree.specs.declared.program.Item.{Item}
use Rattle.gp_tree.specs.declared.function.Function.{Function}
use Rattle.gp_tree.specs.Program.{ProgramItem, field_definition, program_items}
use Rattle.gp_tree.specs.TypeExpression.{maybe_type}
use Rattle.gp_parse.specs.Nesting.{Head}
use Rattle.gp_parse.specs.FirstFault.{Fault, nesting, too_deep}
use Rattle.gp_parse.specs.code.NestingMachine as m

abbrev pub header_of : Header → m.Header
header_of h.Function = m.function_body
header_of (h.Branch n test) = m.branch n (expression test)
header_of h.Other = m.other_branch
header_of (h.While n test) = m.while_body n (expression test)
header_of (h.For n name count) = m.for_body n name (expression count)

abbrev pub opening_of : Opening → m.Opening
opening_of o = record { header = header_of o.header; indent = o.indent; level = o.level; in_loop = o.in_loop }

abbrev pub branch_of : Branch → m.Branch
branch_of b = record { line = b.line; test = expression b.test; block = statements b.block.items }

abbrev pub frame_of : Frame → m.Frame
frame_of x = record { opening = opening_of x.opening; indent = x.indent; done = map statement x.done.items; chain = map branch_of x.chain; reached = x.reached }

abbrev pub maybe_opening : Option Opening → Option m.Opening
maybe_opening None = None
maybe_opening (Some o) = Some (opening_of o)

-- what a call gave, seen by view, is this; or there was no memory
abbrev pub Follows : {X Y : Type 0} → (X → Y) → Result X ParseFault → Result Y Fault → Type 0
Follows view (Ok x) r = r ≡ Ok (view x)
Follows view (Err (fault.Nesting n)) r = r ≡ Err (nesting n)
Follows view (Err (fault.TooDeep n)) r = r ≡ Err (too_deep n)
Follows view (Err fault.Memory) r = Unit {0}
Follows view (Err (fault.TooBig n)) r = ⊥
Follows view (Err (fault.NotALine n)) r = ⊥

abbrev pub function_head : Function → Head
function_head f = record { mark = f.mark; line = f.line; name = f.name; params = map parameter f.params; result_type = maybe_type f.result }

abbrev pub open_blocks : OpenFunction → m.Blocks
open_blocks f = record { wants = maybe_opening f.wants; frames = map frame_of f.frames }

abbrev pub position_of : Position → m.Position
position_of p.Between = m.between
position_of (p.FunctionMarked k) = m.function_marked k
position_of (p.ClassMarked k) = m.class_marked k
position_of (p.ClassBegun k n name) = m.class_begun k n name
position_of (p.InClass i s) = m.in_class s.mark s.line s.name i (map field_definition s.fields)
position_of (p.InFunction f) = m.in_function (function_head f.value.function) (open_blocks f.value)

abbrev pub state_of : List Item → Position → m.State
state_of items p = record { items = program_items items; position = position_of p }

-- what a call gave, and the frames that it left, are this; or there was no memory
abbrev pub Leaves : Result (Option Opening) ParseFault → List m.Frame → Result m.Blocks Fault → Type 0
Leaves (Ok w) frames r = r ≡ Ok (record { wants = maybe_opening w; frames = frames })
Leaves (Err (fault.Nesting n)) frames r = r ≡ Err (nesting n)
Leaves (Err (fault.TooDeep n)) frames r = r ≡ Err (too_deep n)
Leaves (Err fault.Memory) frames r = Unit {0}
Leaves (Err (fault.TooBig n)) frames r = ⊥
Leaves (Err (fault.NotALine n)) frames r = ⊥

-- the same of a call that changes the first frame alone
abbrev pub Turns : Result (Option Opening) ParseFault → m.Frame → (List m.Frame → Result m.Blocks Fault) → Type 0
Turns result frame step = (xs : List m.Frame) → Leaves result (frame ∷ xs) (step xs)

-- what a call gave, and the items that it left, are this state; or there was no memory
abbrev pub LeavesState : Result Position ParseFault → List Item → Result m.State Fault → Type 0
LeavesState (Ok p) items r = r ≡ Ok (state_of items p)
LeavesState (Err (fault.Nesting n)) items r = r ≡ Err (nesting n)
LeavesState (Err (fault.TooDeep n)) items r = r ≡ Err (too_deep n)
LeavesState (Err fault.Memory) items r = Unit {0}
LeavesState (Err (fault.TooBig n)) items r = ⊥
LeavesState (Err (fault.NotALine n)) items r = ⊥

-- the items that a call left are these; or there was no memory
abbrev pub LeavesItems : Result (Unit {0}) ParseFault → List Item → Result (List ProgramItem) Fault → Type 0
LeavesItems (Ok x) items r = r ≡ Ok (program_items items)
LeavesItems (Err (fault.Nesting n)) items r = r ≡ Err (nesting n)
LeavesItems (Err (fault.TooDeep n)) items r = r ≡ Err (too_deep n)
LeavesItems (Err fault.Memory) items r = Unit {0}
LeavesItems (Err (fault.TooBig n)) items r = ⊥
LeavesItems (Err (fault.NotALine n)) items r = ⊥
