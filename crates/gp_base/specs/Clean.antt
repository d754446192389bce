-- Lists of events that use live qubits only.
use Rattle.std.specs.Prelude.{◌≡◌, ℕ, ℤ, Bool, true, if◌then◌else◌, ◌==◌, List, [], ◌∷◌, ◌++◌, length, Option, Some, None, IsSome, option_and_then}
use Rattle.gp_base.specs.declared.event.Event.{Event}
use Rattle.gp_base.specs.declared.event.Event.TheVariants.{Alloc, Free, MeasureFree, Measure, Reset, Gate1, Gate2, Gate3, Rotation, ResultInt, ResultBool}
use Rattle.gp_base.specs.declared.event.GateName.{GateName}
use Rattle.gp_base.specs.Run.{Out, Returned, Stopped}
use Rattle.gp_base.specs.World.{World, start, is_live, are_two_live, are_three_live, ended, allocate, free, apply_gate, apply_gate_on_two, apply_gate_on_three, rotate, reset, measure, measure_free, take_turn}

-- the flags, where the test holds
abbrev pub where_true : Bool → List Bool → Option (List Bool)
where_true test flags = if test then Some flags else None

-- the flags after an event, where the event may come: it names only live qubits and none twice, an
-- allocation names the next number, and what frees a qubit ends its life
abbrev pub flags_after_event : Event → List Bool → Option (List Bool)
flags_after_event (Alloc q) flags = where_true (q == length flags) (flags ++ true ∷ [])
flags_after_event (Free q) flags = where_true (is_live flags q) (ended flags q)
flags_after_event (MeasureFree q outcome) flags = where_true (is_live flags q) (ended flags q)
flags_after_event (Measure q outcome) flags = where_true (is_live flags q) flags
flags_after_event (Reset q) flags = where_true (is_live flags q) flags
flags_after_event (Gate1 gate q) flags = where_true (is_live flags q) flags
flags_after_event (Gate2 gate p q) flags = where_true (are_two_live flags p q) flags
flags_after_event (Gate3 gate p q r) flags = where_true (are_three_live flags p q r) flags
flags_after_event (Rotation gate q angle) flags = where_true (is_live flags q) flags
flags_after_event (ResultInt tag n) flags = Some flags
flags_after_event (ResultBool tag b) flags = Some flags

-- the flags after a list of events, where it is clean
abbrev pub flags_after : List Event → List Bool → Option (List Bool)
flags_after [] flags = Some flags
flags_after (e ∷ es) flags = option_and_then (flags_after es) (flags_after_event e flags)

-- the events are clean from these flags
abbrev pub IsClean : List Event → List Bool → Type 0
IsClean es flags = IsSome (flags_after es flags)

-- the events of a world are clean from the start, and leave the world's flags
abbrev pub IsCleanWorld : World → Type 0
IsCleanWorld w = flags_after w.events [] ≡ Some w.flags

-- from one world to another by events that are clean from the first and leave the flags of the second
pub record IsCleanBetween (before after : World) : Type 0 where
  pub events : List Event
  pub appended : after.events ≡ before.events ++ events
  pub clean : flags_after events before.flags ≡ Some after.flags

-- the world in which a run ended
abbrev pub world_after : {A : Type 0} → Out World A → World
world_after (Returned a w) = w
world_after (Stopped e w) = w

-- Every word that changes a world does so by events that are clean from the world's flags and leave the flags after it, also
-- where it stops, and whatever happened before. Such steps join; a program starts in a clean world, and they keep it clean.
pub record WorldsStayClean : Type 0 where
  pub started : (turns : ℕ) (outcomes : List Bool) → IsCleanWorld (start turns outcomes)
  pub kept : (before after : World) → IsCleanBetween before after → IsCleanWorld before → IsCleanWorld after
  pub joined : (u v w : World) → IsCleanBetween u v → IsCleanBetween v w → IsCleanBetween u w
  pub allocated : (w : World) → IsCleanBetween w (world_after (allocate w))
  pub freed : (w : World) (q : ℕ) → IsCleanBetween w (world_after (free q w))
  pub gated : (w : World) (gate : GateName) (q : ℕ) → IsCleanBetween w (world_after (apply_gate gate q w))
  pub gated_two : (w : World) (gate : GateName) (p q : ℕ) → IsCleanBetween w (world_after (apply_gate_on_two gate p q w))
  pub gated_three : (w : World) (gate : GateName) (p q r : ℕ) → IsCleanBetween w (world_after (apply_gate_on_three gate p q r w))
  pub rotated : (w : World) (gate : GateName) (q : ℕ) (angle : ℤ) → IsCleanBetween w (world_after (rotate gate q angle w))
  pub reset_to_first : (w : World) (q : ℕ) → IsCleanBetween w (world_after (reset q w))
  pub measured : (w : World) (q : ℕ) → IsCleanBetween w (world_after (measure q w))
  pub measured_free : (w : World) (q : ℕ) → IsCleanBetween w (world_after (measure_free q w))
  pub turned : (w : World) → IsCleanBetween w (world_after (take_turn w))
