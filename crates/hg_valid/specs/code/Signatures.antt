-- The types at the value ports of the nodes of a graph.
use Rattle.std.specs.Prelude.{◌≡◌, ℕ, ◌<◌, List, length, slice_get, Some}
use Rattle.hg_ops.specs.Op.{ins_of, outs_of}
use Rattle.hg_graph.specs.Graph.{Graph, op_at}
use Rattle.hg_valid.specs.declared.signatures.Signature.{Signature}

-- those of node n
abbrev pub signature_at : Graph → ℕ → Signature
signature_at g n = record { ins = ins_of (op_at g n); outs = outs_of (op_at g n) }

-- those of the first nodes
pub record AreSignatures (g : Graph) (count : ℕ) (signatures : List Signature) : Type 0 where
  pub count_is : length signatures ≡ count
  pub each : (n : ℕ) → n < count → slice_get signatures n ≡ Some (signature_at g n)
