-- The kinds of ports.
use Rattle.std.proofs.Common.{◌≡◌, ℕ, zero, suc, ◌-◌, ◌<◌, ◌≤◌, true, List, [], ◌∷◌, ◌++◌, length, map, Some, None, slice_get, refl, sym, ap, subst, arith, ◌∙◌}
use Rattle.hg_ops.specs.GraphType.{GraphType}
use Rattle.hg_ops.specs.Op.{Op, Types, FuncDefn, Const, DataflowBlock, ExitBlock, Call, LoadConstant, LoadFunction, PortKind, ValuePort, ControlPort, ins_of, outs_of, other_inputs, other_outputs, input_ports}
use Rattle.hg_graph.specs.Graph.{Graph, Port, op_at}
use Rattle.hg_graph.specs.Valid.{JoinsPorts, is_local}
use Rattle.hg_valid.specs.code.OtherKinds.{SameKind}

-- ---- value ports and those behind them
pub value_at : (ts : Types) (rest : List PortKind) (p : ℕ) (t : GraphType) → slice_get ts p ≡ Some t → slice_get (map ValuePort ts ++ rest) p ≡ Some (ValuePort t)
value_at [] rest p t e = absurd cc
value_at (u ∷ ts) rest zero t e = cc
value_at (u ∷ ts) rest (suc p) t e = value_at ts rest p t e

pub behind : (ts : Types) (rest : List PortKind) (p : ℕ) → length ts ≤ p → slice_get (map ValuePort ts ++ rest) p ≡ slice_get rest (p - length ts)
behind [] rest p l = let e : p ≡ p - 0 = omega arith in ap (slice_get rest) e
behind (t ∷ ts) rest zero l = absurd (omega arith)
behind (t ∷ ts) rest (suc p) l = let e : p - length ts ≡ suc p - suc (length ts) = omega arith in behind ts rest p (omega arith) ∙ ap (slice_get rest) e

pub none_past : {A : Type 0} (xs : List A) (p : ℕ) → slice_get xs p ≡ None → length xs ≤ p
none_past [] p e = omega arith
none_past (x ∷ xs) zero e = absurd cc
none_past (x ∷ xs) (suc p) e = let l = none_past xs p e in omega arith

-- ---- no value behind the value ports
pub no_value_in : (t : GraphType) (op : Op) (p : ℕ) → slice_get (other_inputs op) p ≡ Some (ValuePort t) → ⊥
no_value_in t (DataflowBlock i r o) zero e = cc
no_value_in t (DataflowBlock i r o) (suc p) e = cc
no_value_in t (ExitBlock ts) zero e = cc
no_value_in t (ExitBlock ts) (suc p) e = cc
no_value_in t (Call i o) zero e = cc
no_value_in t (Call i o) (suc p) e = cc
no_value_in t LoadConstant zero e = cc
no_value_in t LoadConstant (suc p) e = cc
no_value_in t (LoadFunction i o) zero e = cc
no_value_in t (LoadFunction i o) (suc p) e = cc
no_value_in t _ p e = cc

no_value_control : (t : GraphType) (rows : List Types) (p : ℕ) → slice_get (map (λ row. ControlPort) rows) p ≡ Some (ValuePort t) → ⊥
no_value_control t [] p e = cc
no_value_control t (row ∷ rows) zero e = cc
no_value_control t (row ∷ rows) (suc p) e = no_value_control t rows p e

pub no_value_out : (t : GraphType) (op : Op) (p : ℕ) → slice_get (other_outputs op) p ≡ Some (ValuePort t) → ⊥
no_value_out t (FuncDefn n i o) zero e = cc
no_value_out t (FuncDefn n i o) (suc p) e = cc
no_value_out t (Const v) zero e = cc
no_value_out t (Const v) (suc p) e = cc
no_value_out t (DataflowBlock i r o) p e = no_value_control t r p e
no_value_out t _ p e = cc

-- ---- the two ends of a link
module _ (g : Graph) (from to : Port) where
  abbrev outs : Types
  outs = outs_of (op_at g from.node)

  abbrev ins : Types
  ins = ins_of (op_at g to.node)

  pub both_values : (t u : GraphType) → slice_get outs from.index ≡ Some t → slice_get ins to.index ≡ Some u → t ≡ u → JoinsPorts g from to
  both_values t u e f s = record {
    kind = ValuePort t;
    output = value_at outs (other_outputs (op_at g from.node)) from.index t e;
    input = value_at ins (other_inputs (op_at g to.node)) to.index u f ∙ ap (λ x. Some (ValuePort x)) (sym s);
  }

  pub values_alike : (t u : GraphType) → slice_get outs from.index ≡ Some t → slice_get ins to.index ≡ Some u → JoinsPorts g from to → t ≡ u
  values_alike t u e f J =
      let a = value_at outs (other_outputs (op_at g from.node)) from.index t e in
      let b = value_at ins (other_inputs (op_at g to.node)) to.index u f in
      let c : Some (ValuePort t) ≡ Some (ValuePort u) = sym a ∙ J.output ∙ sym J.input ∙ b in cc

  pub both_behind : slice_get outs from.index ≡ None → slice_get ins to.index ≡ None
      → SameKind (slice_get (other_outputs (op_at g from.node)) (from.index - length outs)) (slice_get (other_inputs (op_at g to.node)) (to.index - length ins)) → JoinsPorts g from to
  both_behind e f S = record {
    kind = S.kind;
    output = behind outs (other_outputs (op_at g from.node)) from.index (none_past outs from.index e) ∙ S.first;
    input = behind ins (other_inputs (op_at g to.node)) to.index (none_past ins to.index f) ∙ S.second;
  }

  pub kinds_alike : slice_get outs from.index ≡ None → slice_get ins to.index ≡ None → JoinsPorts g from to
      → SameKind (slice_get (other_outputs (op_at g from.node)) (from.index - length outs)) (slice_get (other_inputs (op_at g to.node)) (to.index - length ins))
  kinds_alike e f J = record {
    kind = J.kind;
    first = sym (behind outs (other_outputs (op_at g from.node)) from.index (none_past outs from.index e)) ∙ J.output;
    second = sym (behind ins (other_inputs (op_at g to.node)) to.index (none_past ins to.index f)) ∙ J.input;
  }

  pub value_to_other : (t : GraphType) → slice_get outs from.index ≡ Some t → slice_get ins to.index ≡ None → JoinsPorts g from to → ⊥
  value_to_other t e f J =
      no_value_in t (op_at g to.node) (to.index - length ins)
      (sym (behind ins (other_inputs (op_at g to.node)) to.index (none_past ins to.index f)) ∙ J.input ∙ sym J.output ∙ value_at outs (other_outputs (op_at g from.node)) from.index t e)

  pub other_to_value : (u : GraphType) → slice_get outs from.index ≡ None → slice_get ins to.index ≡ Some u → JoinsPorts g from to → ⊥
  other_to_value u e f J =
      no_value_out u (op_at g from.node) (from.index - length outs)
      (sym (behind outs (other_outputs (op_at g from.node)) from.index (none_past outs from.index e)) ∙ J.output ∙ sym J.input ∙ value_at ins (other_inputs (op_at g to.node)) to.index u f)

-- ---- local ports
there : {A : Type 0} (xs : List A) (p : ℕ) → p < length xs → (x : A) × (slice_get xs p ≡ Some x)
there [] p l = absurd (omega arith)
there (x ∷ xs) zero l = (x, refl)
there (x ∷ xs) (suc p) l = there xs p (omega arith)

pub local_value : (op : Op) (p : ℕ) → p < length (ins_of op) → is_local (slice_get (input_ports op) p) ≡ true
local_value op p l = let t = there (ins_of op) p l in ap is_local (value_at (ins_of op) (other_inputs op) p t.0 t.1)

pub local_behind : (op : Op) (p : ℕ) → length (ins_of op) ≤ p → is_local (slice_get (input_ports op) p) ≡ is_local (slice_get (other_inputs op) (p - length (ins_of op)))
local_behind op p l = ap is_local (behind (ins_of op) (other_inputs op) p l)

-- a block has an output for each row
pub control_at : (rows : List Types) (p : ℕ) → p < length rows → slice_get (map (λ row. ControlPort) rows) p ≡ Some ControlPort
control_at [] p l = absurd (omega arith)
control_at (row ∷ rows) zero l = refl
control_at (row ∷ rows) (suc p) l = control_at rows p (omega arith)

pub control_past : (rows : List Types) (p : ℕ) → length rows ≤ p → slice_get (map (λ row. ControlPort) rows) p ≡ None
control_past [] p l = refl
control_past (row ∷ rows) zero l = absurd (omega arith)
control_past (row ∷ rows) (suc p) l = control_past rows p (omega arith)

-- the kinds of equal ports of equal ops
pub same_kinds : (a b c d : Op) (p q r s : ℕ) → a ≡ b → c ≡ d → p ≡ q → r ≡ s → SameKind (slice_get (other_outputs a) p) (slice_get (other_inputs c) r) → SameKind (slice_get (other_outputs b) q) (slice_get (other_inputs d) s)
same_kinds a b c d p q r s e f g h K =
    subst (λ x. SameKind (slice_get (other_outputs x) q) (slice_get (other_inputs d) s)) e
    (subst (λ x. SameKind (slice_get (other_outputs a) q) (slice_get (other_inputs x) s)) f
    (subst (λ x. SameKind (slice_get (other_outputs a) x) (slice_get (other_inputs c) s)) g
    (subst (λ x. SameKind (slice_get (other_outputs a) p) (slice_get (other_inputs c) x)) h K)))
