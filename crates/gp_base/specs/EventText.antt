-- The text of events and of a run's end.
use Rattle.std.specs.Prelude.{◌≡◌, ℕ, Bool, if◌then◌else◌, List, [], ◌∷◌, ◌++◌, All, map, flat_map, codes, decimal}
use Rattle.std.specs.Fmt.{signed_decimal}
use Rattle.std.specs.List.{join_with_byte}
use Rattle.std.specs.Str.Lines.{lines}
use Rattle.gp_base.specs.declared.event.End.{End}
use Rattle.gp_base.specs.declared.event.End.TheVariants.{Returned, TurnsUsed, OutcomesUsed, DivisionByZero}
use Rattle.gp_base.specs.declared.event.Event.{Event}
use Rattle.gp_base.specs.declared.event.Event.TheVariants.{Alloc, Free, MeasureFree, Measure, Reset, Gate1, Gate2, Gate3, Rotation, ResultInt, ResultBool}
use Rattle.gp_base.specs.declared.event.GateName.{GateName}
use Rattle.gp_base.specs.declared.event.GateName.TheVariants.{H, X, Y, Z, S, Sdg, T, Tdg, Cx, Cy, Cz, Toffoli, Rx, Ry, Rz}
use Rattle.gp_base.specs.Tag.{IsTag}

-- the name of a gate
abbrev pub gate_text : GateName → List ℕ
gate_text H = codes "h"
gate_text X = codes "x"
gate_text Y = codes "y"
gate_text Z = codes "z"
gate_text S = codes "s"
gate_text Sdg = codes "sdg"
gate_text T = codes "t"
gate_text Tdg = codes "tdg"
gate_text Cx = codes "cx"
gate_text Cy = codes "cy"
gate_text Cz = codes "cz"
gate_text Toffoli = codes "toffoli"
gate_text Rx = codes "rx"
gate_text Ry = codes "ry"
gate_text Rz = codes "rz"

-- the outcome of a measurement
abbrev pub outcome_text : Bool → List ℕ
outcome_text outcome = if outcome then codes "1" else codes "0"

-- a truth value
abbrev pub truth_text : Bool → List ℕ
truth_text truth = if truth then codes "True" else codes "False"

-- the words of an event; only a tag may have blanks
abbrev pub event_words : Event → List (List ℕ)
event_words (Alloc q) = codes "alloc" ∷ decimal q ∷ []
event_words (Free q) = codes "free" ∷ decimal q ∷ []
event_words (MeasureFree q outcome) = codes "measure_free" ∷ decimal q ∷ outcome_text outcome ∷ []
event_words (Measure q outcome) = codes "measure" ∷ decimal q ∷ outcome_text outcome ∷ []
event_words (Reset q) = codes "reset" ∷ decimal q ∷ []
event_words (Gate1 gate q) = gate_text gate ∷ decimal q ∷ []
event_words (Gate2 gate p q) = gate_text gate ∷ decimal p ∷ decimal q ∷ []
event_words (Gate3 gate p q r) = gate_text gate ∷ decimal p ∷ decimal q ∷ decimal r ∷ []
event_words (Rotation gate q angle) = gate_text gate ∷ decimal q ∷ signed_decimal angle ∷ []
event_words (ResultInt tag n) = codes "result" ∷ tag ∷ signed_decimal n ∷ []
event_words (ResultBool tag truth) = codes "result" ∷ tag ∷ truth_text truth ∷ []

-- the words with one blank between each two
abbrev pub joined : List (List ℕ) → List ℕ
joined words = join_with_byte 32 words

-- the line of an event, with its line feed
abbrev pub event_line : Event → List ℕ
event_line event = joined (event_words event) ++ codes "\n"

-- how a run ended
abbrev pub end_text : End → List ℕ
end_text Returned = codes "end return"
end_text TurnsUsed = codes "end turns"
end_text OutcomesUsed = codes "end outcomes"
end_text DivisionByZero = codes "end division"

-- what is told of a run: the line of each event in order, and the line of its end
abbrev pub trace : List Event → End → List ℕ
trace events end = flat_map event_line events ++ end_text end ++ codes "\n"

-- a result has a valid tag; other events have no tag
abbrev pub HasValidTag : Event → Type 0
HasValidTag (ResultInt tag n) = IsTag tag
HasValidTag (ResultBool tag truth) = IsTag tag
HasValidTag _ = Unit {0}

-- the lines of a trace are the joined words of each event in order, and then the text of the end
abbrev pub TraceIsLines : Type 0
TraceIsLines = (events : List Event) (end : End) → All HasValidTag events
    → lines (trace events end) ≡ map (λ event. joined (event_words event)) events ++ end_text end ∷ []
