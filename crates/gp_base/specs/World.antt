-- The world that a run changes. The run of a source and the run of a graph change it by the same words.
use Rattle.std.specs.Prelude.{◌≡◌, ◌<◌, ℕ, zero, suc, ℤ, Bool, true, false, if◌then◌else◌, not, ◌&&◌, ◌==◌, List, [], ◌∷◌, ◌++◌, length}
use Rattle.gp_base.specs.declared.event.GateName.{GateName}
use Rattle.gp_base.specs.declared.event.Event.{Event}
use Rattle.gp_base.specs.declared.event.Event.TheVariants as event
use Rattle.gp_base.specs.Run.{Run, Returned, TurnsUsed, OutcomesUsed, Stuck, stop}

-- One flag for each qubit that was allocated so far, in the order of their numbers: whether it is live.
-- So the next number is how many flags there are, and every live number is below it. Then the turns and the
-- outcomes of measurements that are left, and the events so far, the newest last.
pub record World : Type 0 where
  pub flags : List Bool
  pub turns : ℕ
  pub outcomes : List Bool
  pub events : List Event

-- the world in which a program starts: no qubit, and nothing has happened
abbrev pub start : ℕ → List Bool → World
start turns outcomes = record { flags = []; turns = turns; outcomes = outcomes; events = [] }

-- the number that the next qubit gets
abbrev pub next : World → ℕ
next w = length w.flags

-- whether the qubit is live
abbrev pub is_live : List Bool → ℕ → Bool
is_live [] q = false
is_live (flag ∷ flags) zero = flag
is_live (flag ∷ flags) (suc q) = is_live flags q

-- the flags when the qubit has ended
abbrev pub ended : List Bool → ℕ → List Bool
ended [] q = []
ended (flag ∷ flags) zero = false ∷ flags
ended (flag ∷ flags) (suc q) = flag ∷ ended flags q

-- the world after an event
abbrev pub did : Event → World → World
did e w = record w { events = w.events ++ e ∷ [] }

-- a run for which a qubit has to be live
abbrev pub on_live : {A : Type 0} → ℕ → Run World A → Run World A
on_live q m w = if is_live w.flags q then m w else stop Stuck w

-- whether two qubits are live and not the same one, and three
abbrev pub are_two_live : List Bool → ℕ → ℕ → Bool
are_two_live flags p q = is_live flags p && is_live flags q && not (p == q)

abbrev pub are_three_live : List Bool → ℕ → ℕ → ℕ → Bool
are_three_live flags p q r =
    is_live flags p && is_live flags q && is_live flags r && not (p == q) && not (p == r) && not (q == r)

-- runs for which two or three qubits have to be live and distinct
abbrev pub on_two_live : {A : Type 0} → ℕ → ℕ → Run World A → Run World A
on_two_live p q m w = if are_two_live w.flags p q then m w else stop Stuck w

abbrev pub on_three_live : {A : Type 0} → ℕ → ℕ → ℕ → Run World A → Run World A
on_three_live p q r m w = if are_three_live w.flags p q r then m w else stop Stuck w

-- a run that does nothing but an event
abbrev pub does : Event → Run World (Unit {0})
does e w = Returned tt (did e w)

-- a new qubit begins to live
abbrev pub allocate : Run World ℕ
allocate w = Returned (next w) (did (event.Alloc (next w)) (record w { flags = w.flags ++ true ∷ [] }))

-- a live qubit ends
abbrev pub free : ℕ → Run World (Unit {0})
free q = on_live q (λ w. Returned tt (did (event.Free q) (record w { flags = ended w.flags q })))

-- a gate on one live qubit, on two, on three, and a rotation of one by an angle
abbrev pub apply_gate : GateName → ℕ → Run World (Unit {0})
apply_gate gate q = on_live q (λ w. Returned tt (did (event.Gate1 gate q) w))

abbrev pub apply_gate_on_two : GateName → ℕ → ℕ → Run World (Unit {0})
apply_gate_on_two gate p q = on_two_live p q (does (event.Gate2 gate p q))

abbrev pub apply_gate_on_three : GateName → ℕ → ℕ → ℕ → Run World (Unit {0})
apply_gate_on_three gate p q r = on_three_live p q r (does (event.Gate3 gate p q r))

abbrev pub rotate : GateName → ℕ → ℤ → Run World (Unit {0})
rotate gate q angle = on_live q (does (event.Rotation gate q angle))

-- a live qubit is set to its first state
abbrev pub reset : ℕ → Run World (Unit {0})
reset q = on_live q (does (event.Reset q))

-- takes the next outcome; where none is left the run ends
abbrev pub outcome_of : {A : Type 0} → List Bool → (Bool → Run World A) → Run World A
outcome_of [] k w = stop OutcomesUsed w
outcome_of (outcome ∷ outcomes) k w = k outcome (record w { outcomes = outcomes })

abbrev pub with_outcome : {A : Type 0} → (Bool → Run World A) → Run World A
with_outcome k w = outcome_of w.outcomes k w

-- a live qubit is measured and lives on, and is measured and ends
abbrev pub measure : ℕ → Run World Bool
measure q = on_live q (with_outcome (λ outcome w. Returned outcome (did (event.Measure q outcome) w)))

abbrev pub measure_free : ℕ → Run World Bool
measure_free q =
    on_live q (with_outcome (λ outcome w. Returned outcome (did (event.MeasureFree q outcome) (record w { flags = ended w.flags q }))))

-- takes a turn; where none is left the run ends
abbrev pub turn_of : ℕ → Run World (Unit {0})
turn_of zero w = stop TurnsUsed w
turn_of (suc turns) w = Returned tt (record w { turns = turns })

abbrev pub take_turn : Run World (Unit {0})
take_turn w = turn_of w.turns w

-- every live qubit is below the next number
abbrev pub LiveBelowNext : Type 0
LiveBelowNext = (w : World) (q : ℕ) → is_live w.flags q ≡ true → q < next w
