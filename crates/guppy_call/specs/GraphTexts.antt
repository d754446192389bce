-- What graph texts are: texts of valid graphs, or refused.
use Rattle.std.specs.Prelude.{◌≡◌, ℕ, ◌<◌, ◌≤◌, List, length, Ok, Err}
use Rattle.hg_graph.specs.Graph.{Graph}
use Rattle.hg_graph.specs.Valid.{Rule, IsValid, IsBroken, number_of}
use Rattle.hg_json.specs.Reading as json
use Rattle.hg_json.specs.Reading.{graph_of}
use Rattle.guppy_call.specs.declared.refusal.Refusal.{Refusal}
use Rattle.guppy_call.specs.declared.refusal.Refusal.TheVariants as refusal
use Rattle.guppy_call.specs.declared.refusal.GraphFault.TheVariants as fault

-- the refusal of a text that has no graph
abbrev pub graph_refusal : json.Refusal → Refusal
graph_refusal json.NotJson = refusal.Graph fault.NotJson
graph_refusal json.Top = refusal.Graph fault.Top
graph_refusal json.Version = refusal.Graph fault.Version
graph_refusal (json.BadNode k) = refusal.Graph (fault.Node k)
graph_refusal (json.BadLink k) = refusal.Graph (fault.Link k)

-- the most bytes that a graph text has
abbrev pub graph_text_limit : ℕ
graph_text_limit = 33554432

-- a text within the limit has this reading
pub record IsGraphText (text : List ℕ) (g : Graph) : Type 0 where
  pub within : length text ≤ graph_text_limit
  pub graph : graph_of text ≡ Ok g

-- a text within the limit of a valid graph
pub record IsValidText (text : List ℕ) (g : Graph) : Type 0 where
  pub reads : IsGraphText text g
  pub valid : IsValid g

-- A text that is refused: it is too long, it stands for no graph, or its graph breaks a rule. Then the least rule that is
-- broken is named, and the least node that breaks it.
pub data IsRefusedText (text : List ℕ) : Refusal → Type 0 where
  too_long : graph_text_limit < length text → IsRefusedText text refusal.TooLong
  no_graph : length text ≤ graph_text_limit → (why : json.Refusal) → graph_of text ≡ Err why → IsRefusedText text (graph_refusal why)
  broken : (g : Graph) → IsGraphText text g → (rule : Rule) (n : ℕ) → IsBroken g rule n → IsRefusedText text (refusal.Rule (number_of rule) n)
