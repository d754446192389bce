-- What is used of a valid graph.
use Rattle.std.proofs.Common.{◌≡◌, ◌≢◌, ◌⊎◌, inl, inr, ℕ, zero, suc, ◌<◌, Bool, true, false, cond, ltb, ℤ, List, [], ◌∷◌, ◌++◌, length, map, Option, Some, refl, sym, ap, ap₂, ◌∙◌, subst, arith}
use Rattle.std.specs.Prelude.{slice_get}
use Rattle.std.proofs.lemmas.Bool.{lt-ltb}
use Rattle.hg_ops.specs.GraphType.{GraphType, is_linear}
use Rattle.hg_ops.specs.Op.{Op, Types, Module, FuncDefn, Const, Input, Output, Dfg, Cfg, DataflowBlock, ExitBlock, Conditional, Case, TailLoop, Tag, Call, CallIndirect, LoadConstant, LoadFunction, Ext, PortKind, ValuePort, ControlPort, ConstantPort, ins_of, outs_of, other_inputs, other_outputs, input_ports, output_ports, is_dataflow_container, is_operation, inner_ins, inner_outs}
use Rattle.gp_base.specs.Membership.{In}
use Rattle.hg_graph.specs.Graph.{Graph, Port, Link, Ports, Order, is_port, op_at, parent_at, children, feeder, taker, static_input}
use Rattle.hg_graph.specs.Valid
use Rattle.hg_graph.specs.Valid.{IsValid, Keeps, KeepsBlocks, KeepsCases, KeepsSuccessors, KeepsStatic, KeepsCallee, KeepsName, KeepsTags, HasPlace, HasBoundary, HasBlocks, HasCase, HasCases, HasStatic, HasConstant, HasCallee, HasSuccessor, JoinsPorts, JoinsNodes, LinksJoin, LinksStayInside, Edge, Path, edge, joined, along_value, along_order, may_stand_in, stands_in_region, is_boundary, is_output, is_input, is_exit, is_block, is_local, block_ins}
use Rattle.hg_laws.proofs.Lists.{get_within}
use Rattle.hg_laws.proofs.Looks.{not_both}
use Rattle.hg_laws.proofs.Wires.{Wire, Pair, value_links, order_links, wires_into, wires_from, node_after, at_index, is_port_true, node_of, into_same, from_same, after_same, wire_link, pair_link}
use Rattle.hg_graph.specs.Value.{functions}
use Rattle.hg_laws.proofs.Children.{child_is, is_child}
use Rattle.hg_laws.proofs.Named.{functions_new, within}

-- what may stand in a region beside `Input` and `Output`
abbrev pub is_inner : Op → Bool
is_inner (Const value) = true
is_inner (Dfg ins outs) = true
is_inner (Cfg ins outs) = true
is_inner (Conditional rows ins outs) = true
is_inner (TailLoop again leave rest) = true
is_inner (Tag rows tag) = true
is_inner (Call ins outs) = true
is_inner (CallIndirect ins outs) = true
is_inner LoadConstant = true
is_inner (LoadFunction ins outs) = true
is_inner (Ext e) = true
is_inner _ = false

-- the two ends of a value link
pub record JoinsWire (g : Graph) (w : Wire) : Type 0 where
  pub ty : GraphType
  pub from_in : w.from < length g.nodes
  pub to_in : w.to < length g.nodes
  pub from_port : slice_get (outs_of (op_at g w.from)) w.fp ≡ Some ty
  pub to_port : slice_get (ins_of (op_at g w.to)) w.tp ≡ Some ty
  pub together : parent_at g w.from ≡ parent_at g w.to

pub record JoinsPair (g : Graph) (l : Pair) : Type 0 where
  pub before_in : l.before < length g.nodes
  pub after_in : l.after < length g.nodes
  pub before_op : is_operation (op_at g l.before) ≡ true
  pub after_op : is_operation (op_at g l.after) ≡ true
  pub not_output : is_output (op_at g l.before) ≡ false
  pub not_input : is_input (op_at g l.after) ≡ false
  pub together : parent_at g l.before ≡ parent_at g l.after

-- the children of a dataflow container
pub record HasRegion (g : Graph) (c : ℕ) : Type 0 where
  pub input : ℕ
  pub output : ℕ
  pub rest : List ℕ
  pub list : children g c ≡ input ∷ output ∷ rest
  pub input_op : op_at g input ≡ Input (inner_ins (op_at g c))
  pub output_op : op_at g output ≡ Output (inner_outs (op_at g c))
  pub inner : (n : ℕ) → In n rest → is_inner (op_at g n) ≡ true

-- where the control link of a block's row leads
pub record Leads (g : Graph) (n k : ℕ) (row others : Types) : Type 0 where
  pub block : Port
  pub at : taker g.links (record { node = n; index = k }) ≡ Some block
  pub is_in : block.node < length g.nodes
  pub together : parent_at g block.node ≡ parent_at g n
  pub is_one : is_block (op_at g block.node) ≡ true
  pub fits : block_ins (op_at g block.node) ≡ row ++ others

pub record Known (g : Graph) : Type 0 where
  pub root : op_at g 0 ≡ Module
  pub root_parent : parent_at g 0 ≡ 0
  pub rises : (n : ℕ) → 0 < n → n < length g.nodes → parent_at g n < n
  pub regions : (c : ℕ) → c < length g.nodes → is_dataflow_container (op_at g c) ≡ true → HasBoundary g c
  pub suits : (n : ℕ) → 0 < n → n < length g.nodes → may_stand_in (op_at g (parent_at g n)) (op_at g n) ≡ true
  pub wires : (w : Wire) → In w (value_links g) → JoinsWire g w
  pub orders : (l : Pair) → In l (order_links g) → JoinsPair g l
  pub fed : (n p : ℕ) → n < length g.nodes → p < length (ins_of (op_at g n)) → wires_into (value_links g) n p ≡ 1
  pub spent : (n p : ℕ) (t : GraphType) → n < length g.nodes → slice_get (outs_of (op_at g n)) p ≡ Some t → is_linear t ≡ true → wires_from (value_links g) n p ≡ 1
  pub taken : (n p : ℕ) (t : GraphType) → n < length g.nodes → slice_get (outs_of (op_at g n)) p ≡ Some t → node_of (taker g.links (record { node = n; index = p })) ≡ node_after (value_links g) n p
  pub no_circle : (n : ℕ) → Path g n n → ⊥
  pub cases : (n k : ℕ) (rows : List Types) (r ins outs : Types) → n < length g.nodes → op_at g n ≡ Conditional rows ins outs → slice_get rows k ≡ Some r → HasCase g n k r ins outs
  pub tags : (n k : ℕ) (rows : List Types) → n < length g.nodes → op_at g n ≡ Tag rows k → (r : Types) × (slice_get rows k ≡ Some r)
  pub constants : (n : ℕ) → n < length g.nodes → op_at g n ≡ LoadConstant → (c : Port) × (v : ℤ) × (feeder g.links (static_input g n) ≡ Some c) × (op_at g c.node ≡ Const v)
  pub calls : (n : ℕ) (ins outs : Types) → n < length g.nodes → op_at g n ≡ Call ins outs → (f : Port) × (name : List ℕ) × (feeder g.links (static_input g n) ≡ Some f) × (f.node < length g.nodes) × (op_at g f.node ≡ FuncDefn name ins outs)
  pub loads : (n : ℕ) (ins outs : Types) → n < length g.nodes → op_at g n ≡ LoadFunction ins outs → (f : Port) × (name : List ℕ) × (feeder g.links (static_input g n) ≡ Some f) × (op_at g f.node ≡ FuncDefn name ins outs) × (functions g name ≡ Some (record { ins = ins; outs = outs }))
  pub first_blocks : (n : ℕ) (ins outs : Types) → n < length g.nodes → op_at g n ≡ Cfg ins outs → HasBlocks g n ins outs
  pub controls : (n k : ℕ) (ins : Types) (rows : List Types) (others r : Types) → n < length g.nodes → op_at g n ≡ DataflowBlock ins rows others → slice_get rows k ≡ Some r → Leads g n k r others
  pub exits : (n : ℕ) (t : Types) → n < length g.nodes → op_at g n ≡ ExitBlock t → t ≡ outs_of (op_at g (parent_at g n))

-- ---- lists of ports
-- a port stands among the value ports or behind them
port_cases : (ts : Types) (rest : List PortKind) (p : ℕ) (k : PortKind) → slice_get (map ValuePort ts ++ rest) p ≡ Some k → ((t : GraphType) × (slice_get ts p ≡ Some t) × (k ≡ ValuePort t)) ⊎ ((j : ℕ) × (slice_get rest j ≡ Some k))
port_cases [] rest p k e = inr (p, e)
port_cases (t ∷ ts) rest zero k e = inl (t, refl, is k e)
  where
    is : (x : PortKind) → Some (ValuePort t) ≡ Some x → x ≡ ValuePort t
    is x q = cc
port_cases (t ∷ ts) rest (suc p) k e = port_cases ts rest p k e

value_port_at : (ts : Types) (rest : List PortKind) (p : ℕ) (t : GraphType) → slice_get ts p ≡ Some t → slice_get (map ValuePort ts ++ rest) p ≡ Some (ValuePort t)
value_port_at [] rest p t e = absurd cc
value_port_at (u ∷ ts) rest zero t e = cc
value_port_at (u ∷ ts) rest (suc p) t e = value_port_at ts rest p t e

behind_ports : (ts : Types) (k : PortKind) (rest : List PortKind) → slice_get (map ValuePort ts ++ k ∷ rest) (length ts) ≡ Some k
behind_ports [] k rest = refl
behind_ports (t ∷ ts) k rest = behind_ports ts k rest

there_is : {A : Type 0} (xs : List A) (p : ℕ) → p < length xs → (x : A) × (slice_get xs p ≡ Some x)
there_is [] p l = absurd (omega arith)
there_is (x ∷ xs) zero l = (x, refl)
there_is (x ∷ xs) (suc p) l = there_is xs p (omega arith)

some_same : {A : Type 0} (o : Option A) (x y : A) → o ≡ Some x → o ≡ Some y → x ≡ y
some_same o x y a b = cc

value_kind : (t u : GraphType) → ValuePort t ≡ ValuePort u → t ≡ u
value_kind t u e = cc

no_value_behind : (t : GraphType) (o : Op) (j : ℕ) → slice_get (other_inputs o) j ≡ Some (ValuePort t) → ⊥
no_value_behind t (DataflowBlock i r o) zero e = cc
no_value_behind t (DataflowBlock i r o) (suc j) e = cc
no_value_behind t (ExitBlock ts) zero e = cc
no_value_behind t (ExitBlock ts) (suc j) e = cc
no_value_behind t (Call i o) zero e = cc
no_value_behind t (Call i o) (suc j) e = cc
no_value_behind t (LoadFunction i o) zero e = cc
no_value_behind t (LoadFunction i o) (suc j) e = cc
no_value_behind t LoadConstant zero e = cc
no_value_behind t LoadConstant (suc j) e = cc
no_value_behind t _ j e = cc

control_at : (rows : List Types) (j : ℕ) (k : PortKind) → slice_get (map (λ row. ControlPort) rows) j ≡ Some k → k ≡ ControlPort
control_at [] j k e = absurd cc
control_at (r ∷ rows) zero k e = cc
control_at (r ∷ rows) (suc j) k e = control_at rows j k e

controls_at : (rows : List Types) (j : ℕ) (r : Types) → slice_get rows j ≡ Some r → slice_get (map (λ row. ControlPort) rows) j ≡ Some ControlPort
controls_at [] j r e = absurd cc
controls_at (x ∷ rows) zero r e = refl
controls_at (x ∷ rows) (suc j) r e = controls_at rows j r e

no_value_after : (t : GraphType) (o : Op) (j : ℕ) → slice_get (other_outputs o) j ≡ Some (ValuePort t) → ⊥
no_value_after t (FuncDefn n i o) zero e = cc
no_value_after t (FuncDefn n i o) (suc j) e = cc
no_value_after t (Const v) zero e = cc
no_value_after t (Const v) (suc j) e = cc
no_value_after t (DataflowBlock i rows o) j e = no (control_at rows j (ValuePort t) e)
  where
    no : ValuePort t ≡ ControlPort → ⊥
    no e = cc
no_value_after t _ j e = cc

-- what has a constant's output is a constant
constant_source : (o : Op) (j : ℕ) → slice_get (other_outputs o) j ≡ Some ConstantPort → (v : ℤ) × (o ≡ Const v)
constant_source (FuncDefn n i o) zero e = absurd cc
constant_source (FuncDefn n i o) (suc j) e = absurd cc
constant_source (Const v) j e = (v, refl)
constant_source (DataflowBlock i rows o) j e = absurd (no (control_at rows j ConstantPort e))
  where
    no : ConstantPort ≡ ControlPort → ⊥
    no e = cc
constant_source _ j e = absurd cc

-- ---- the first link into a port and out of one
feeder_in : (links : List Link) (to a : Port) → feeder links to ≡ Some a → In (Ports a to) links
feeder_in [] to a e = absurd cc
feeder_in (Order x y ∷ links) to a e = inr (feeder_in links to a e)
feeder_in (Ports x y ∷ links) to a e = go (is_port y to) refl e (λ q. feeder_in links to a q)
  where
    some_is : (b c : Port) → Some b ≡ Some c → b ≡ c
    some_is b c q = cc

    go : (c : Bool) → is_port y to ≡ c → cond c (Some x) (feeder links to) ≡ Some a → (feeder links to ≡ Some a → In (Ports a to) links) → (Ports a to ≡ Ports x y) ⊎ In (Ports a to) links
    go true ec q rest =
        let r = is_port_true y to.node to.index ec in
        inl (ap₂ Ports (sym (some_is x a q)) (λ i. record { node = sym r.0 i; index = sym r.1 i }))
    go false ec q rest = inr (rest q)

taker_in : (links : List Link) (from b : Port) → taker links from ≡ Some b → In (Ports from b) links
taker_in [] from b e = absurd cc
taker_in (Order x y ∷ links) from b e = inr (taker_in links from b e)
taker_in (Ports x y ∷ links) from b e = go (is_port x from) refl e (λ q. taker_in links from b q)
  where
    some_is : (u v : Port) → Some u ≡ Some v → u ≡ v
    some_is u v q = cc

    go : (c : Bool) → is_port x from ≡ c → cond c (Some y) (taker links from) ≡ Some b → (taker links from ≡ Some b → In (Ports from b) links) → (Ports from b ≡ Ports x y) ⊎ In (Ports from b) links
    go true ec q rest =
        let r = is_port_true x from.node from.index ec in
        inl (ap₂ Ports (λ i. record { node = sym r.0 i; index = sym r.1 i }) (sym (some_is y b q)))
    go false ec q rest = inr (rest q)

-- ---- rules
pub inner_of : (o : Op) → stands_in_region o ≡ true → is_boundary o ≡ false → is_inner o ≡ true
inner_of (Const v) s b = refl
inner_of (Dfg i o) s b = refl
inner_of (Cfg i o) s b = refl
inner_of (Conditional r i o) s b = refl
inner_of (TailLoop a l r) s b = refl
inner_of (Tag r t) s b = refl
inner_of (Call i o) s b = refl
inner_of (CallIndirect i o) s b = refl
inner_of (LoadFunction i o) s b = refl
inner_of LoadConstant s b = refl
inner_of (Ext e) s b = refl
inner_of _ s b = absurd cc

pub in_container : (o child : Op) → is_dataflow_container o ≡ true → may_stand_in o child ≡ true → stands_in_region child ≡ true
in_container (FuncDefn n i o) child d m = m
in_container (Dfg i o) child d m = m
in_container (Case i o) child d m = m
in_container (DataflowBlock i r o) child d m = m
in_container (TailLoop a l r) child d m = m
in_container _ child d m = absurd cc

-- an exit stands in a `CFG`
exit_in : (o : Op) (t : Types) → may_stand_in o (ExitBlock t) ≡ true → (i : Types) × (u : Types) × (o ≡ Cfg i u)
exit_in (Cfg i o) t m = (i, o, refl)
exit_in _ t m = absurd cc

pub positive : (n : ℕ) → n ≢ 0 → 0 < n
positive n ne = omega arith

module _ (g : Graph) (V : IsValid g) where
  N : ℕ
  N = length g.nodes

  place : (n : ℕ) → n < length g.nodes → HasPlace g n
  place n l = V.keeps Valid.Places n l

  is_root_parent : parent_at g 0 ≡ 0
  is_root_parent = ((place 0 (V.graph).some).root refl).1

  -- a child of another node isn't node 0
  no_root : (c n : ℕ) → In n (children g c) → 0 < n
  no_root c n i =
      let k = child_is g c n i in
      positive n (λ e. k.2 (e ∙ (sym is_root_parent ∙ (ap (parent_at g) (sym e) ∙ k.1))))

  joins : (w : Wire) → In w (value_links g) → JoinsWire g w
  joins w i =
      let r = wire_link g w i in
      let inside = (V.graph).links (Ports (at_index w.from w.fp) (at_index w.to w.tp)) r.0 in
      let J = (V.keeps Valid.Links w.to inside.1).ports (at_index w.from w.fp) (at_index w.to w.tp) r.0 refl in
      let t = there_is (ins_of (op_at g w.to)) w.tp r.1 in
      let kind : J.kind ≡ ValuePort t.0 = some_same (slice_get (input_ports (op_at g w.to)) w.tp) J.kind (ValuePort t.0) J.input (value_port_at (ins_of (op_at g w.to)) (other_inputs (op_at g w.to)) w.tp t.0 t.1) in
      let out = elim (port_cases (outs_of (op_at g w.from)) (other_outputs (op_at g w.from)) w.fp (ValuePort t.0) (J.output ∙ ap Some kind)) as (λ x. slice_get (outs_of (op_at g w.from)) w.fp ≡ Some t.0) [
        | inl a ↦ a.1 ∙ ap Some (sym (value_kind t.0 a.0 a.2))
        | inr b ↦ absurd (no_value_after t.0 (op_at g w.from) b.0 b.1)
      ] in
      record {
        ty = t.0;
        from_in = inside.0;
        to_in = inside.1;
        from_port = out;
        to_port = t.1;
        together = (V.keeps Valid.SameParent w.to inside.1).ports (at_index w.from w.fp) (at_index w.to w.tp) r.0 refl (ap is_local (value_port_at (ins_of (op_at g w.to)) (other_inputs (op_at g w.to)) w.tp t.0 t.1));
      }

  joins_pair : (l : Pair) → In l (order_links g) → JoinsPair g l
  joins_pair l i =
      let r = pair_link g l i in
      let inside = (V.graph).links (Order l.before l.after) r in
      let J = (V.keeps Valid.Links l.after inside.1).orders l.before r in
      record {
        before_in = inside.0;
        after_in = inside.1;
        before_op = J.from_operation;
        after_op = J.to_operation;
        not_output = J.no_output;
        not_input = J.no_input;
        together = (V.keeps Valid.SameParent l.after inside.1).orders l.before r;
      }

  -- links out of value outputs are value links
  to_value : (n p : ℕ) (t : GraphType) → slice_get (outs_of (op_at g n)) p ≡ Some t → (a b : Port) → In (Ports a b) g.links → is_port a (at_index n p) ≡ true → ltb b.index (length (ins_of (op_at g b.node))) ≡ true
  to_value n p t e a b i h =
      let same = is_port_true a n p h in
      let inside = (V.graph).links (Ports a b) i in
      let J = (V.keeps Valid.Links b.node inside.1).ports a b i refl in
      let at : slice_get (outs_of (op_at g a.node)) a.index ≡ Some t = ap₂ (λ x y. slice_get (outs_of (op_at g x)) y) same.0 same.1 ∙ e in
      let kind : J.kind ≡ ValuePort t = some_same (slice_get (output_ports (op_at g a.node)) a.index) J.kind (ValuePort t) J.output (value_port_at (outs_of (op_at g a.node)) (other_outputs (op_at g a.node)) a.index t at) in
      elim (port_cases (ins_of (op_at g b.node)) (other_inputs (op_at g b.node)) b.index (ValuePort t) (J.input ∙ ap Some kind)) [
        | inl x ↦ lt-ltb b.index (length (ins_of (op_at g b.node))) (get_within (ins_of (op_at g b.node)) b.index x.0 x.1)
        | inr y ↦ absurd (no_value_behind t (op_at g b.node) y.0 y.1)
      ]

  source_in : (a b : ℕ) → Path g a b → a < length g.nodes
  source_in a b (edge (along_value p q i l)) = ((V.graph).links (Ports (at_index a p) (at_index b q)) i).0
  source_in a b (edge (along_order i)) = ((V.graph).links (Order a b) i).0
  source_in a b (joined {b = m} p q) = source_in a m p

  is_constant : (n : ℕ) → n < length g.nodes → op_at g n ≡ LoadConstant → (c : Port) × (v : ℤ) × (feeder g.links (static_input g n) ≡ Some c) × (op_at g c.node ≡ Const v)
  is_constant n l e =
      let C = subst (KeepsStatic g n) e (V.keeps Valid.StaticLinks n l) in
      let S = C.static in
      let i = feeder_in g.links (static_input g n) S.source S.is_source in
      let J = (V.keeps Valid.Links n l).ports S.source (static_input g n) i refl in
      let kind : J.kind ≡ ConstantPort = some_same (slice_get (input_ports (op_at g n)) (length (ins_of (op_at g n)))) J.kind ConstantPort J.input (ap (λ x. slice_get (input_ports x) (length (ins_of x))) e) in
      let k = elim (port_cases (outs_of (op_at g (S.source).node)) (other_outputs (op_at g (S.source).node)) (S.source).index ConstantPort (J.output ∙ ap Some kind)) as (λ x. (v : ℤ) × (op_at g (S.source).node ≡ Const v)) [
        | inl x ↦ absurd (no x.0 x.2)
        | inr y ↦ constant_source (op_at g (S.source).node) y.0 y.1
      ] in
      (S.source, k.0, S.is_source, k.1)
    where
      no : (t : GraphType) → ConstantPort ≡ ValuePort t → ⊥
      no t e = cc

  leads : (n k : ℕ) (ins : Types) (rows : List Types) (others r : Types) → n < length g.nodes → op_at g n ≡ DataflowBlock ins rows others → slice_get rows k ≡ Some r → Leads g n k r others
  leads n k ins rows others r l e q =
      let S = subst (KeepsSuccessors g n) e (V.keeps Valid.Successors n l) k r q in
      let i = taker_in g.links (at_index n k) S.target S.is_target in
      let inside = (V.graph).links (Ports (at_index n k) S.target) i in
      let J = (V.keeps Valid.Links (S.target).node inside.1).ports (at_index n k) S.target i refl in
      let kind : J.kind ≡ ControlPort = some_same (slice_get (output_ports (op_at g n)) k) J.kind ControlPort J.output (ap (λ x. slice_get (output_ports x) k) e ∙ controls_at rows k r q) in
      record {
        block = S.target;
        at = S.is_target;
        is_in = inside.1;
        together = sym ((V.keeps Valid.SameParent (S.target).node inside.1).ports (at_index n k) S.target i refl (ap is_local (J.input ∙ ap Some kind)));
        is_one = S.is_block;
        fits = S.fits;
      }

  is_exit_of : (n : ℕ) (t : Types) → n < length g.nodes → op_at g n ≡ ExitBlock t → t ≡ outs_of (op_at g (parent_at g n))
  is_exit_of n t l e =
      let up = positive n (λ z. no_module (sym (((place 0 (V.graph).some).root refl).0) ∙ (ap (op_at g) (sym z) ∙ e))) in
      let less = ((place n l).others up).1 in
      let pl : parent_at g n < length g.nodes = omega arith in
      let c = exit_in (op_at g (parent_at g n)) t (ap (may_stand_in (op_at g (parent_at g n))) (sym e) ∙ V.keeps Valid.Children n l (λ z. below n (parent_at g n) (sym z) less)) in
      let B = subst (KeepsBlocks g (parent_at g n)) c.2 (V.keeps Valid.Blocks (parent_at g n) pl) in
      let i = is_child g (parent_at g n) n l refl (λ z. below n (parent_at g n) z less) in
      let outs : t ≡ c.1 = elim (subst (In n) B.are_children i) [
        | inl a ↦ absurd (no_block B.rows B.others c.0 (sym (ap (op_at g) a ∙ B.entry_is) ∙ e))
        | inr b ↦ elim b [
          | inl a ↦ types_are c.1 (sym (ap (op_at g) a ∙ B.exit_is) ∙ e)
          | inr a ↦ not_both (is_exit (op_at g n)) (ap is_exit e) (B.no_other n a)
        ]
      ] in
      outs ∙ sym (ap outs_of c.2)
    where
      no_module : Module ≡ ExitBlock t → ⊥
      no_module h = cc

      below : (a b : ℕ) → a ≡ b → b < a → ⊥
      below a b z h = absurd (omega arith)

      no_block : (rows : List Types) (others ins : Types) → DataflowBlock ins rows others ≡ ExitBlock t → ⊥
      no_block rows others ins h = cc

      types_are : (u : Types) → ExitBlock u ≡ ExitBlock t → t ≡ u
      types_are u h = cc

  -- a function that is loaded is the first of its name
  loaded : (n : ℕ) (ins outs : Types) → n < length g.nodes → op_at g n ≡ LoadFunction ins outs
      → (f : Port) × (name : List ℕ) × (feeder g.links (static_input g n) ≡ Some f) × (op_at g f.node ≡ FuncDefn name ins outs) × (functions g name ≡ Some (record { ins = ins; outs = outs }))
  loaded n i o l e =
      let C = subst (KeepsCallee g n) e (V.keeps Valid.Callees n l) in
      let inside = within g (C.source).node C.name i o C.is_function in
      let new = subst (KeepsName g (C.source).node) C.is_function (V.keeps Valid.Names (C.source).node inside) in
      (C.source, C.name, C.is_source, C.is_function, functions_new g (C.source).node C.name i o C.is_function new)

  smaller : (n p : ℕ) → p ≡ n → p < n → ⊥
  smaller n p e l = absurd (omega arith)

  pub known : Known g
  unfolding value_links
  known = record {
    root = ((place 0 (V.graph).some).root refl).0;
    root_parent = is_root_parent;
    rises = λ n z l. ((place n l).others z).1;
    regions = λ c l f. V.keeps Valid.Boundaries c l f;
    suits = λ n z l. V.keeps Valid.Children n l (λ e. smaller n (parent_at g n) e ((place n l).others z).1);
    wires = joins;
    orders = joins_pair;
    fed = λ n p l h. sym (into_same g g.links n p h) ∙ V.keeps Valid.Inputs n l p h;
    spent = λ n p t l e k. sym (from_same g g.links n p (to_value n p t e)) ∙ V.keeps Valid.LinearOutputs n l p t e k;
    taken = λ n p t l e. after_same g g.links n p (to_value n p t e);
    no_circle = λ n p. V.keeps Valid.NoCycle n (source_in n n p) p;
    cases = λ n k rows r i o l e q. (subst (KeepsCases g n) e (V.keeps Valid.Cases n l)).each k r q;
    tags = λ n k rows l e. there_is rows k (subst KeepsTags e (V.keeps Valid.VariantsAndTags n l)).1;
    constants = is_constant;
    calls = λ n i o l e. let C = subst (KeepsCallee g n) e (V.keeps Valid.Callees n l) in (C.source, C.name, C.is_source, within g (C.source).node C.name i o C.is_function, C.is_function);
    loads = loaded;
    first_blocks = λ n i o l e. subst (KeepsBlocks g n) e (V.keeps Valid.Blocks n l);
    controls = leads;
    exits = is_exit_of;
  }

module _ (g : Graph) (K : Known g) where
  unfoldable pub region_of : (c : ℕ) → is_dataflow_container (op_at g c) ≡ true → HasBoundary g c → HasRegion g c
  region_of c f B = record {
    input = B.input;
    output = B.output;
    rest = B.rest;
    list = B.are_children;
    input_op = B.input_is;
    output_op = B.output_is;
    inner = λ n i.
        let k = child_is g c n (subst (In n) (sym B.are_children) (inr (inr i))) in
        let up = positive n (λ z. k.2 (z ∙ (sym K.root_parent ∙ (ap (parent_at g) (sym z) ∙ k.1)))) in
        inner_of (op_at g n) (in_container (op_at g c) (op_at g n) f (ap (λ x. may_stand_in (op_at g x) (op_at g n)) (sym k.1) ∙ K.suits n up k.0)) (B.no_other n i);
  }
