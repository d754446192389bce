-- What `validate` answers.
use Rattle.std.specs.Prelude.{ℕ, List, codes}
use Rattle.hg_graph.specs.Graph.{Graph}
use Rattle.guppy_call.specs.declared.refusal.Refusal.{Refusal}
use Rattle.guppy_call.specs.Call.{Answer, refused, done}
use Rattle.guppy_call.specs.GraphTexts.{IsValidText, IsRefusedText}

-- What is due for a graph text. Each text is refused for one cause, or it is the text of a valid graph, and never both.
pub data IsDueValidity (text : List ℕ) : Answer → Type 0 where
  refuses : (why : Refusal) → IsRefusedText text why → IsDueValidity text (refused why)
  valid : (g : Graph) → IsValidText text g → IsDueValidity text (done (codes "valid"))
