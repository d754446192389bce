-- Runs at the level of the turns that are left; each higher level gives the same.
use Rattle.std.specs.Prelude.{ℕ, ℤ, Bool, List, Option}
use Rattle.gp_base.specs.Run.{Run}
use Rattle.gp_base.specs.World.{World}
use Rattle.gp_locals.specs.Callee.{Callee}
use Rattle.gp_scope.specs.Known.{Known, known_of}
use Rattle.gp_tree.specs.Expression.{Expression, Expressions}
use Rattle.gp_tree.specs.Program.{ProgramItem}
use Rattle.gp_tree.specs.Statement.{Statement, Statements}
use Rattle.gp_meaning.specs.Value.{Value}
use Rattle.gp_meaning.specs.State.{State}
use Rattle.gp_meaning.specs.Calls.{Called, called}
use Rattle.gp_meaning.specs.Meaning.{Frame, Completion, Rest, Routines, needed, truth, evaluated, evaluated_each, executed, executed_each, looped, counted, ran_named, routines_of, level}

-- what a program's names mean, and its functions
pub record Source : Type 0 where
  pub known : Known
  pub routines : Routines

-- a run at the level of its turns
abbrev pub at_turns : {A : Type 0} → Source → (Rest → Run State A) → Run State A
at_turns P m s = m (level P.known P.routines s.world.turns) s

abbrev pub evaluated_in : Source → Frame → Expression → Run State (Option Value)
evaluated_in P F e = at_turns P (λ r. evaluated F r.call e)

abbrev pub value_in : Source → Frame → Expression → Run State Value
value_in P F e = at_turns P (λ r. needed (evaluated F r.call e))

abbrev pub truth_in : Source → Frame → Expression → Run State Bool
truth_in P F e = at_turns P (λ r. truth (evaluated F r.call e))

abbrev pub values_in : Source → Frame → Expressions → Run State (List Value)
values_in P F es = at_turns P (λ r. evaluated_each F r.call es)

abbrev pub executed_in : Source → Frame → Statement → Run State Completion
executed_in P F s = at_turns P (λ r. executed F r s)

abbrev pub block_in : Source → Frame → Statements → Run State Completion
block_in P F ss = at_turns P (λ r. executed_each F r ss)

-- a `while` and a `for` at their heads
abbrev pub while_in : Source → Frame → Expression → Statements → Run State Completion
while_in P F c body = at_turns P (λ r. looped F r c body)

abbrev pub for_in : Source → Frame → List ℕ → Statements → (count limit : ℤ) → Run State Completion
for_in P F name body count limit = at_turns P (λ r. counted F r name body count limit)

-- a written function, once its turn is taken
abbrev pub function_in : Source → List ℕ → List Value → Run World Called
function_in P name vs w = ran_named P.known (P.routines name) (level P.known P.routines w.turns) vs w

-- a call with its tag and its values
abbrev pub called_in : Source → Callee → List ℕ → Option (List ℕ) → List Value → Run World Called
called_in P callee name tag vs = called (function_in P) callee name tag vs

-- what a program says
abbrev pub source : List ProgramItem → Source
source program = record { known = known_of program; routines = routines_of (known_of program) program }

-- the run of a function of a program, with these values of its parameters
abbrev pub run_of : List ProgramItem → List ℕ → List Value → Run World Called
run_of program name vs = function_in (source program) name vs

-- What runs of a program go on with once a turn is taken: all that the program says, each at the level of the turns that
-- are then left.
unfoldable pub rest_in : Source → Rest
rest_in P = record { call = function_in P; again = while_in P; count = for_in P }
