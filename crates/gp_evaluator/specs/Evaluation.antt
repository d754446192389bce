-- What the parts of the evaluator answer: runs that go on with all that the program says.
use Rattle.std.specs.Prelude.{ℕ, ℤ, Bool, true, false, List, Option, Some, None, if◌then◌else◌, option_map}
use Rattle.gp_base.specs.Run.{Run}
use Rattle.gp_locals.specs.CalleeView.{callee_view}
use Rattle.gp_locals.specs.Environment.{Names}
use Rattle.gp_scope.specs.ScopeView.{known_in}
use Rattle.gp_scope.specs.declared.scope.Scope.{Scope}
use Rattle.gp_tree.specs.Expression.{Expression, Expressions}
use Rattle.gp_tree.specs.Program.{program_items}
use Rattle.gp_tree.specs.Statement.{Statement, Statements}
use Rattle.gp_tree.specs.declared.place.Place.{Place}
use Rattle.gp_tree.specs.declared.program.Item.{Item}
use Rattle.gp_types.specs.Signature.{Parameter, is_borrowed_mode}
use Rattle.gp_evaluator.specs.declared.completion.Completion as declared_completion
use Rattle.gp_evaluator.specs.declared.completion.Completion.TheVariants as completions
use Rattle.gp_evaluator.specs.declared.frame.Frame as declared_frame
use Rattle.gp_evaluator.specs.declared.names.Resolved as declared_names
use Rattle.gp_evaluator.specs.declared.variables.Variables as declared_variables
use Rattle.gp_evaluator.specs.declared.world.World as declared_world
use Rattle.gp_meaning.specs.Meaning.{Frame, Completion, Normal, Break, Continue, Return, Rest, needed, truth, evaluated, evaluated_each, executed, executed_each, looped, counted, routines_of}
use Rattle.gp_meaning.specs.Runs.{Source, rest_in}
use Rattle.gp_meaning.specs.Calls.{Resolved, resolved}
use Rattle.gp_meaning.specs.State.{State, Variables, value_at, variable}
use Rattle.gp_meaning.specs.Value.{Value}
use Rattle.gp_evaluator.specs.View.{value_view, variables_view, world_view, state}

-- ---- how statements end

abbrev pub completion_view : declared_completion.Completion → Completion
completion_view completions.Normal = Normal
completion_view completions.Break = Break
completion_view completions.Continue = Continue
completion_view (completions.Return v) = Return (option_map value_view v)

-- whether a loop goes back to its head behind a body that ends so
abbrev pub goes_back : Completion → Bool
goes_back Normal = true
goes_back Continue = true
goes_back Break = false
goes_back (Return v) = false

-- how a loop ends that doesn't go back
abbrev pub after_loop : Completion → Completion
after_loop (Return v) = Return v
after_loop _ = Normal

-- ---- what a function leaves

-- the final value of a parameter, where it is borrowed
abbrev pub final_of : Names → Parameter → Variables → Option (Option Value)
final_of names p vs = if is_borrowed_mode p.mode then option_map (λ v. Some v) (variable names vs p.name) else Some None

-- ---- tags

-- how many arguments stand before the values
abbrev pub tag_count : Option (List ℕ) → ℕ
tag_count (Some t) = 1
tag_count None = 0

-- ---- names

-- what a call calls
abbrev pub resolved_view : declared_names.Resolved → Resolved
resolved_view r = record { name = r.name; callee = callee_view r.callee }

abbrev pub resolved_in : declared_frame.Frame → declared_variables.Variables → List ℕ → Option Resolved
resolved_in f vs name = resolved (known_in f.scope.now) f.names.now (variables_view vs) name

-- the value at a place
abbrev pub read_in : declared_frame.Frame → declared_variables.Variables → Place → Option Value
read_in f vs place = value_at (known_in f.scope.now) f.names.now (variables_view vs) place

-- ---- runs

-- what the items and the scope of a program say
abbrev pub source_in : List Item → Scope → Source
source_in items scope = record { known = known_in scope; routines = routines_of (known_in scope) (program_items items) }

abbrev pub rest_of : List Item → Scope → Rest
rest_of items scope = rest_in (source_in items scope)

abbrev pub frame_view : declared_frame.Frame → Frame
frame_view f = record { known = known_in f.scope.now; names = f.names.now }

abbrev pub rest_for : declared_frame.Frame → Rest
rest_for f = rest_of f.items.now f.scope.now

-- the state in memory
abbrev pub state_of : declared_variables.Variables → declared_world.World → State
state_of vs w = state (variables_view vs) (world_view w)

abbrev pub expression_run : declared_frame.Frame → Expression → Run State (Option Value)
expression_run f e = evaluated (frame_view f) (rest_for f).call e

abbrev pub value_run : declared_frame.Frame → Expression → Run State Value
value_run f e = needed (expression_run f e)

abbrev pub truth_run : declared_frame.Frame → Expression → Run State Bool
truth_run f e = truth (expression_run f e)

abbrev pub values_run : declared_frame.Frame → Expressions → Run State (List Value)
values_run f es = evaluated_each (frame_view f) (rest_for f).call es

abbrev pub statement_run : declared_frame.Frame → Statement → Run State Completion
statement_run f s = executed (frame_view f) (rest_for f) s

abbrev pub block_run : declared_frame.Frame → Statements → Run State Completion
block_run f ss = executed_each (frame_view f) (rest_for f) ss

abbrev pub while_run : declared_frame.Frame → Expression → Statements → Run State Completion
while_run f c body = looped (frame_view f) (rest_for f) c body

abbrev pub for_run : declared_frame.Frame → List ℕ → Statements → (count limit : ℤ) → Run State Completion
for_run f name body count limit = counted (frame_view f) (rest_for f) name body count limit
