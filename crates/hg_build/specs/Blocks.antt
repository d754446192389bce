-- A function whose body is a CFG of one block, which leads to the exit.
use Rattle.std.specs.Prelude.{◌≡◌, ℕ, ◌+◌, true, List, [], ◌∷◌, length, Some, slice_get, slice_set}
use Rattle.hg_ops.specs.Op.{FuncDefn, Tag}
use Rattle.hg_graph.specs.Graph.{Graph, Port, op_at, parent_at}
use Rattle.hg_build.specs.Steps.{Act, Calls, body, plain_act, cfg_act, Hole, Way}
use Rattle.hg_build.specs.Clauses.{step, empty_hole, full_hole}
use Rattle.hg_build.specs.Containing.{TakenOff}
use Rattle.hg_build.specs.Whole.{SoundSoFar}

abbrev pub first_port : ℕ → Port
first_port n = record { node = n; index = 0 }

-- a way out of block b to the exit x
abbrev pub way_out : ℕ → ℕ → Way
way_out b x = record { from = first_port b; to = x; leaves = true }

-- what block b does: behind Input comes the Tag
abbrev pub tags : ℕ → ℕ → Calls → Act
tags input n = body input (step n [] (plain_act (Tag ([] ∷ []) 0)) ∷ []) (first_port n ∷ [])

-- What the function does, where the graph had n nodes before. Behind Input and Output come the CFG, its block, its exit,
-- the Input and the Output of the block, and the Tag.
abbrev pub leaves_at_once : ℕ → Calls → Act
leaves_at_once n = body n
    (step (n + 2) [] (cfg_act (full_hole (n + 3) (tags (n + 5) (n + 7)) ∷ [])
    (way_out (n + 3) (n + 4) ∷ [])) ∷ [])
    []

-- What was sound so far is so again, and the function is filled.
pub record IsOneBlockFunction (old : Graph) (f : ℕ) (new : Graph) : Type 0 where
  pub by : (functions : List Hole) (k : ℕ) (empty rest marked name : List ℕ)
      → SoundSoFar old functions empty marked → slice_get functions k ≡ Some (empty_hole f)
      → TakenOff empty f rest → op_at old f ≡ FuncDefn name [] [] → parent_at old f ≡ 0
      → (marked' : List ℕ) × SoundSoFar new
      (slice_set functions k (full_hole f (leaves_at_once (length old.nodes)))) rest marked'
