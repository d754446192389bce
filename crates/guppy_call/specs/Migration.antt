-- What `migrate` answers.
use Rattle.std.specs.Prelude.{ℕ, List}
use Rattle.hg_graph.specs.Graph.{Graph}
use Rattle.hg_json.specs.GraphText.{json}
use Rattle.guppy_call.specs.declared.refusal.Refusal.{Refusal}
use Rattle.guppy_call.specs.Call.{Answer, refused, done}
use Rattle.guppy_call.specs.GraphTexts.{IsValidText, IsRefusedText}

-- What is due for a graph text: it is refused as by `validate`, or its graph is written as a text.
pub data IsDueMigration (text : List ℕ) : Answer → Type 0 where
  refuses : (why : Refusal) → IsRefusedText text why → IsDueMigration text (refused why)
  migrates : (g : Graph) → IsValidText text g → IsDueMigration text (done (json g))
