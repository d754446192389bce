-- What values, worlds and the ends of runs in memory are.
use Rattle.std.specs.Prelude.{◌≡◌, ◌≢◌, List, map, option_map, Option, Some, None, Result, Ok, Err, MatchResult}
use Rattle.gp_base.specs.Run as run
use Rattle.gp_base.specs.Run.{Run, Out, Returned, Stopped, Stop}
use Rattle.gp_base.specs.World.{World}
use Rattle.gp_evaluator.specs.declared.built_ins.Called as declared_called
use Rattle.gp_evaluator.specs.declared.halt.Halt.{Halt}
use Rattle.gp_evaluator.specs.declared.halt.Halt.TheVariants as halt
use Rattle.gp_evaluator.specs.declared.value.Value as declared
use Rattle.gp_evaluator.specs.declared.value.FieldValue as declared_field
use Rattle.gp_evaluator.specs.declared.value.Value.TheOpen.{Value-F, FieldValue-F}
use Rattle.gp_evaluator.specs.declared.variables.Variables as declared_variables
use Rattle.gp_evaluator.specs.declared.world.World as declared_world
use Rattle.gp_meaning.specs.Calls.{Called}
use Rattle.gp_meaning.specs.Value.{Value, FieldValue, number, boolean, qubit, tuple, structure, function, values_of, fields_of}
use Rattle.gp_meaning.specs.State.{State, Variables}

-- one level, with the values inside already seen
abbrev pub value_step : Value-F Value FieldValue → Value
value_step (Value-F.Int n) = number n
value_step (Value-F.Bool b) = boolean b
value_step (Value-F.Qubit q) = qubit q
value_step (Value-F.Tuple vs) = tuple (values_of vs.items)
value_step (Value-F.Struct fs) = structure (fields_of fs.items)
value_step (Value-F.Function name) = function name

abbrev pub field_step : FieldValue-F Value FieldValue → FieldValue
field_step f = record { name = f.name; value = f.value }

abbrev pub value_view : declared.Value → Value
value_view = declared.fold-Value Value FieldValue value_step field_step

abbrev pub field_view : declared_field.FieldValue → FieldValue
field_view = declared_field.fold-FieldValue Value FieldValue value_step field_step

abbrev pub values_view : List declared.Value → List Value
values_view vs = map value_view vs

abbrev pub variables_view : declared_variables.Variables → Variables
variables_view vs = map (option_map value_view) vs.values.items

abbrev pub called_view : declared_called.Called → Called
called_view c = record { answer = option_map value_view c.answer; finals = map (option_map value_view) c.finals.items }

abbrev pub world_view : declared_world.World → World
world_view w = record { flags = w.flags.items; turns = w.turns; outcomes = w.outcomes.now; events = w.events }

-- the end that a run has; that of want of memory is none
abbrev pub stop_of : Halt → Stop
stop_of halt.TurnsUsed = run.TurnsUsed
stop_of halt.OutcomesUsed = run.OutcomesUsed
stop_of halt.DivisionByZero = run.DivisionByZero
stop_of _ = run.Stuck

-- The code's answer and the state that it leaves are those of the run. Want of memory may take their place.
abbrev pub Ran : {S A B : Type 0} → (A → B) → Result A Halt → S → Out S B → Type 0
Ran view result s out = MatchResult result (λ made. out ≡ Returned (view made) s) (λ why. why ≢ halt.Memory → out ≡ Stopped (stop_of why) s)

-- the same of an answer that needs no state
abbrev pub Given : {A B : Type 0} → (A → B) → Result A Halt → Result B Stop → Type 0
Given view result answer = MatchResult result (λ made. answer ≡ Ok (view made)) (λ why. why ≢ halt.Memory → answer ≡ Err (stop_of why))

-- the same of what is looked for, where a run is stuck that doesn't find it
abbrev pub Found : {A B : Type 0} → (A → B) → Result A Halt → Option B → Type 0
Found view result looked_for = MatchResult result (λ made. looked_for ≡ Some (view made)) (λ why. why ≢ halt.Memory → (why ≡ halt.Stuck) × (looked_for ≡ None))

-- the state with these values of the names
abbrev pub state : Variables → World → State
state vs w = record { variables = vs; world = w }

-- the code's answer, and the values of the names that it leaves, are those of a run that leaves the world alone
abbrev pub RanAlone : {A B : Type 0} → (A → B) → Result A Halt → (before after : Variables) → Run State B → Type 0
RanAlone view result before after m = (w : World) → Ran view result (state after w) (m (state before w))
