-- The function with which a run begins.
use Rattle.std.proofs.Common.{◌≡◌, ℕ, zero, suc, ◌+◌, ◌-◌, ◌<◌, ◌≤◌, Bool, true, false, cond, List, [], ◌∷◌, length, refl, sym, ap, ◌∙◌, subst, arith}
use Rattle.std.specs.Str.{bytes_eq}
use Rattle.hg_ops.specs.Op.{Op, Types, Module, FuncDefn, Const, Input, Output, Dfg, Cfg, DataflowBlock, ExitBlock, Conditional, Case, TailLoop, Tag, Call, CallIndirect, LoadConstant, LoadFunction, Ext}
use Rattle.hg_graph.specs.Graph.{Graph, op_at}
use Rattle.hg_run.specs.Entries.{Entry, Missing, NotClosed, Closed, has_linear, entry_with, entry_by, entry_or, entry_from, entry_of}
use Rattle.hg_run.specs.code.Left.{IsEntry}

module _ (g : Graph) (name : List ℕ) where
  next : (n : ℕ) → n < length g.nodes → entry_from g name n (length g.nodes - n) ≡ entry_or (entry_by name n (op_at g n)) (entry_from g name (n + 1) (length g.nodes - (n + 1)))
  next n l =
      ap (entry_from g name n) (let e : length g.nodes - n ≡ suc (length g.nodes - (n + 1)) = omega arith in e)
      ∙ ap (λ m. entry_or (entry_by name n (op_at g n)) (entry_from g name m (length g.nodes - (n + 1)))) (let e : suc n ≡ n + 1 = omega arith in e)

  -- one more node
  pub entry_more : (whole : Entry) (n : ℕ) (kind : Op) (here : Entry) → n < length g.nodes → kind ≡ op_at g n → here ≡ entry_by name n kind → whole ≡ entry_from g name n (length g.nodes - n)
      → whole ≡ entry_or here (entry_from g name (n + 1) (length g.nodes - (n + 1)))
  entry_more whole n kind here l k h so_far =
      so_far ∙ (next n l ∙ ap (λ e. entry_or e (entry_from g name (n + 1) (length g.nodes - (n + 1)))) (sym (h ∙ ap (entry_by name n) k)))

abbrev number_or : Entry → ℕ
number_or Missing = 0
number_or NotClosed = 0
number_or (Closed n) = n

-- a function that may be run
closed : (g : Graph) (k n : ℕ) (other : List ℕ) (ins outs : Types) (rest : Entry) → FuncDefn other ins outs ≡ op_at g k → k < length g.nodes → entry_or (entry_with ins outs k) rest ≡ Closed n → IsEntry g n
closed g k n other [] outs rest e l h = go (has_linear outs) h
  where
    go : (t : Bool) → entry_or (cond t NotClosed (Closed k)) rest ≡ Closed n → IsEntry g n
    go true h = absurd cc
    go false h = subst (IsEntry g) (ap number_or h) (record { is_node = l; name = other; outs = outs; is_function = sym e })
closed g k n other (type ∷ ins) outs rest e l h = absurd cc

found_here : (g : Graph) (name : List ℕ) (k n : ℕ) (kind : Op) (rest : Entry) → kind ≡ op_at g k → k < length g.nodes → entry_or (entry_by name k kind) rest ≡ Closed n → (rest ≡ Closed n → IsEntry g n) → IsEntry g n
found_here g name k n (FuncDefn other ins outs) rest e l h later = go (bytes_eq other name) h
  where
    go : (t : Bool) → entry_or (cond t (entry_with ins outs k) Missing) rest ≡ Closed n → IsEntry g n
    go true h = closed g k n other ins outs rest e l h
    go false h = later h
found_here g name k n Module rest is l h later = later h
found_here g name k n (Const v) rest is l h later = later h
found_here g name k n (Input t) rest is l h later = later h
found_here g name k n (Output t) rest is l h later = later h
found_here g name k n (Dfg i o) rest is l h later = later h
found_here g name k n (Cfg i o) rest is l h later = later h
found_here g name k n (DataflowBlock i r o) rest is l h later = later h
found_here g name k n (ExitBlock t) rest is l h later = later h
found_here g name k n (Conditional r i o) rest is l h later = later h
found_here g name k n (Case i o) rest is l h later = later h
found_here g name k n (TailLoop a b c) rest is l h later = later h
found_here g name k n (Tag r t) rest is l h later = later h
found_here g name k n (Call i o) rest is l h later = later h
found_here g name k n (CallIndirect i o) rest is l h later = later h
found_here g name k n (LoadFunction i o) rest is l h later = later h
found_here g name k n LoadConstant rest is l h later = later h
found_here g name k n (Ext e) rest is l h later = later h

found_from : (g : Graph) (name : List ℕ) (n k count : ℕ) → k + count ≤ length g.nodes → entry_from g name k count ≡ Closed n → IsEntry g n
found_from g name n k zero l h = absurd cc
found_from g name n k (suc count) l h = found_here g name k n (op_at g k) (entry_from g name (suc k) count) refl (omega (arith, l)) h (found_from g name n (suc k) count (omega (arith, l)))

pub found : (g : Graph) (name : List ℕ) (n : ℕ) → entry_of g name ≡ Closed n → IsEntry g n
found g name n h = found_from g name n 0 (length g.nodes) (omega arith) h
