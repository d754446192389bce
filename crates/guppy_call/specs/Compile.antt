-- What `compile` answers.
use Rattle.std.specs.Prelude.{◌≡◌, ◌≢◌, ℕ, ◌+◌, ◌<◌, ◌≤◌, Bool, true, false, List, ◌∷◌, ◌++◌, length}
use Rattle.gp_lower.specs.declared.thin_text.ThinLine.{ThinLine}
use Rattle.gp_lower.specs.declared.thin_text.ThinLine.TheVariants.{H, X, Discard}
use Rattle.gp_lower.specs.ThinText.{thin_text}
use Rattle.hg_graph.specs.Graph.{Graph}
use Rattle.hg_graph.specs.Rules.{InputsLinkedOnce, LinearOutputsLinkedOnce}
use Rattle.hg_graph.specs.Thin.{ThinGate, thin_graph}
use Rattle.gp_lower.specs.Thin.{gate_lines, complete_lines, RunsGates}
use Rattle.guppy_call.specs.declared.refusal.Refusal.TheVariants.{TooLong, NotBuilt, Source}
use Rattle.guppy_call.specs.declared.refusal.SourceFault.TheVariants.{GivenUp, HeldAtReturn}
use Rattle.guppy_call.specs.declared.refusal.Refusal.{Refusal}
use Rattle.guppy_call.specs.Call.{Answer, refused, done}
use Rattle.hg_json.specs.GraphText.{json}

-- the most bytes that a source text has
abbrev pub source_limit : ℕ
source_limit = 131072

-- a text within the limit whose lines after `q = qubit()` are these
pub record IsThin (text : List ℕ) (lines : List ThinLine) : Type 0 where
  pub within : length text ≤ source_limit
  pub spelled : text ≡ thin_text lines

-- a text within the limit that isn't thin
pub record IsNotThin (text : List ℕ) : Type 0 where
  pub within : length text ≤ source_limit
  pub other : (lines : List ThinLine) → text ≢ thin_text lines

-- whether a line gives the qubit up
abbrev pub is_discard : ThinLine → Bool
is_discard H = false
is_discard X = false
is_discard Discard = true

-- lines that give the qubit up and go on
abbrev pub spent_lines : List ThinGate → ThinLine → List ThinLine → List ThinLine
spent_lines gates next more = gate_lines gates ++ Discard ∷ next ∷ more

-- a fault on a line, by its number
abbrev pub given_up_at : ℕ → Refusal
given_up_at line = Source (record { 0 = line }) GivenUp

abbrev pub held_at_return_at : ℕ → Refusal
held_at_return_at line = Source (record { 0 = line }) HeldAtReturn

-- What is due for a text. The lines after `q = qubit()` begin with line 7 of a thin text, and its `def` is
-- on line 5. A text has exactly one of these five forms.
pub data IsDue (text : List ℕ) : Answer → Type 0 where
  too_long : source_limit < length text → IsDue text (refused TooLong)
  not_built : IsNotThin text → IsDue text (refused NotBuilt)
  given_up : (gates : List ThinGate) (next : ThinLine) (more : List ThinLine)
      → IsThin text (spent_lines gates next more) → IsDue text (refused (given_up_at (8 + length gates)))
  held_at_return : (gates : List ThinGate) → IsThin text (gate_lines gates) → IsDue text (refused (held_at_return_at 5))
  compiled : (gates : List ThinGate) → IsThin text (complete_lines gates) → IsDue text (done (json (thin_graph gates)))

-- The thin graph of the gates: each value input port and each linear value output port has exactly one
-- link, and its runs are those of the gates.
pub record IsGraphOf (gates : List ThinGate) (g : Graph) : Type 0 where
  pub graph : g ≡ thin_graph gates
  pub inputs : InputsLinkedOnce g
  pub linear_outputs : LinearOutputsLinkedOnce g
  pub runs : RunsGates gates g
