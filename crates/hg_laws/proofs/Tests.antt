-- Tests by computation: a graph that passes them is valid, and ordered.
use Rattle.std.proofs.Common.{◌≡◌, ◌≢◌, ◌⊎◌, inl, inr, ℕ, zero, suc, ◌+◌, ◌<◌, Bool, true, false, not, ◌&&◌, ◌||◌, eqb, ltb, leb, List, [], ◌∷◌, ◌++◌, length, Option, Some, None, is_some, refl, sym, ap, ap₂, ◌∙◌, subst, arith}
use Rattle.std.specs.Prelude.{slice_get, All}
use Rattle.std.specs.Str.{bytes_eq}
use Rattle.std.proofs.lemmas.Bool.{eqb-true, ltb-true, lt-ltb, leb-true}
use Rattle.std.proofs.lemmas.Bool.Decides.{eqb_tells}
use Rattle.std.proofs.lemmas.Slice.Eq.{bytes_eq-Decides}
use Rattle.gp_base.specs.Tag.{IsPrintable, IsTag}
use Rattle.hg_ops.specs.GraphType as type
use Rattle.hg_ops.specs.GraphType.{GraphType, Row, Rows, no_types, next, no_rows, next_row, is_linear}
use Rattle.hg_ops.specs.Op.{Op, Types, Module, FuncDefn, Const, Input, Output, Dfg, Cfg, DataflowBlock, ExitBlock, Conditional, Case, TailLoop, Tag, Call, CallIndirect, LoadConstant, LoadFunction, Ext, ResultInt, ResultBool, PortKind, ValuePort, ControlPort, FunctionPort, ConstantPort, ins_of, input_ports, output_ports, is_operation, inner_ins, inner_outs}
use Rattle.hg_ops.specs.SameType.{same_type, same_row, same_rows, same_types}
use Rattle.gp_base.specs.Membership.{In}
use Rattle.hg_graph.specs.Graph.{Graph, Port, Link, Ports, Order, LinkIsWithin, op_at, parent_at, children, feeder, taker, links_into, links_from, static_input}
use Rattle.hg_graph.specs.Valid.{KeepsTags, HasPlace, HasBoundary, HasBlocks, HasCases, HasStatic, HasConstant, HasCallee, HasSuccessor, LinksJoin, LinksStayInside, Path, IsAncestor, of_child, of_further, edge, joined, along_value, along_order, is_module, is_boundary, is_output, is_input, is_exit, is_block, is_local, block_ins, name_of}
use Rattle.hg_laws.proofs.Looks.{not_both}

-- ---- tests of lists and numbers
pub both : (a b : Bool) → (a && b) ≡ true → (a ≡ true) × (b ≡ true)
both true b e = (refl, e)
both false b e = absurd cc

pub either : (a b : Bool) → (a || b) ≡ true → (a ≡ true) ⊎ (b ≡ true)
either true b e = inl refl
either false b e = inr e

pub is_false : (b : Bool) → not b ≡ true → b ≡ false
is_false true e = absurd cc
is_false false e = refl

abbrev pub all_in : {A : Type 0} → (A → Bool) → List A → Bool
all_in test [] = true
all_in test (x ∷ xs) = test x && all_in test xs

pub in_all : {A : Type 0} (test : A → Bool) (xs : List A) (x : A) → all_in test xs ≡ true → In x xs → test x ≡ true
in_all test [] x e i = absurd i
in_all test (y ∷ xs) x e (inl s) = ap test s ∙ (both (test y) (all_in test xs) e).0
in_all test (y ∷ xs) x e (inr i) = in_all test xs x (both (test y) (all_in test xs) e).1 i

abbrev pub below : (ℕ → Bool) → ℕ → Bool
below test zero = true
below test (suc n) = test n && below test n

pub in_below : (test : ℕ → Bool) (n p : ℕ) → below test n ≡ true → p < n → test p ≡ true
in_below test zero p e l = absurd (omega arith)
in_below test (suc n) p e l = elim (eqb_tells p n) [
  | inl s ↦ ap test s.1 ∙ (both (test n) (below test n) e).0
  | inr s ↦ in_below test n p (both (test n) (below test n) e).1 (less s.1)
]
  where
    less : p ≢ n → p < n
    less ne = omega arith

-- ---- equal types
mutual
  type_same : (t u : GraphType) → same_type t u ≡ true → t ≡ u
  type_same type.Int type.Int e = refl
  type_same type.Qubit type.Qubit e = refl
  type_same (type.Sum a) (type.Sum b) e = ap type.Sum (rows_same a b e)
  type_same (type.Function a b) (type.Function c d) e = let r = both (same_row a c) (same_row b d) e in ap₂ type.Function (row_same a c r.0) (row_same b d r.1)
  type_same _ _ e = absurd cc

  row_same : (r s : Row) → same_row r s ≡ true → r ≡ s
  row_same no_types no_types e = refl
  row_same (next t r) (next u s) e = let b = both (same_type t u) (same_row r s) e in ap₂ next (type_same t u b.0) (row_same r s b.1)
  row_same _ _ e = absurd cc

  rows_same : (r s : Rows) → same_rows r s ≡ true → r ≡ s
  rows_same no_rows no_rows e = refl
  rows_same (next_row r rs) (next_row s ss) e = let b = both (same_row r s) (same_rows rs ss) e in ap₂ next_row (row_same r s b.0) (rows_same rs ss b.1)
  rows_same _ _ e = absurd cc

pub types_same : (ts us : Types) → same_types ts us ≡ true → ts ≡ us
types_same [] [] e = refl
types_same (t ∷ ts) (u ∷ us) e = let b = both (same_type t u) (same_types ts us) e in ap₂ (λ x l. x ∷ l) (type_same t u b.0) (types_same ts us b.1)
types_same _ _ e = absurd cc

-- ---- ops of given types
abbrev is_input_of : Op → Types → Bool
is_input_of (Input ts) us = same_types ts us
is_input_of _ us = false

input_of : (o : Op) (us : Types) → is_input_of o us ≡ true → o ≡ Input us
input_of (Input ts) us e = ap Input (types_same ts us e)
input_of _ us e = absurd cc

abbrev is_output_of : Op → Types → Bool
is_output_of (Output ts) us = same_types ts us
is_output_of _ us = false

output_of : (o : Op) (us : Types) → is_output_of o us ≡ true → o ≡ Output us
output_of (Output ts) us e = ap Output (types_same ts us e)
output_of _ us e = absurd cc

abbrev is_exit_of : Op → Types → Bool
is_exit_of (ExitBlock ts) us = same_types ts us
is_exit_of _ us = false

exit_of : (o : Op) (us : Types) → is_exit_of o us ≡ true → o ≡ ExitBlock us
exit_of (ExitBlock ts) us e = ap ExitBlock (types_same ts us e)
exit_of _ us e = absurd cc

abbrev is_entry_of : Op → Types → Bool
is_entry_of (DataflowBlock ts rows others) us = same_types ts us
is_entry_of _ us = false

entry_of : (o : Op) (us : Types) → is_entry_of o us ≡ true → (rows : List Types) × (others : Types) × (o ≡ DataflowBlock us rows others)
entry_of (DataflowBlock ts rows others) us e = (rows, others, ap (λ x. DataflowBlock x rows others) (types_same ts us e))
entry_of _ us e = absurd cc

abbrev is_case_of : Op → Types → Types → Bool
is_case_of (Case ts us) vs ws = same_types ts vs && same_types us ws
is_case_of _ vs ws = false

case_of : (o : Op) (vs ws : Types) → is_case_of o vs ws ≡ true → o ≡ Case vs ws
case_of (Case ts us) vs ws e = let b = both (same_types ts vs) (same_types us ws) e in ap₂ Case (types_same ts vs b.0) (types_same us ws b.1)
case_of _ vs ws e = absurd cc

abbrev is_function_of : Op → Types → Types → Bool
is_function_of (FuncDefn name ts us) vs ws = same_types ts vs && same_types us ws
is_function_of _ vs ws = false

function_of : (o : Op) (vs ws : Types) → is_function_of o vs ws ≡ true → (name : List ℕ) × (o ≡ FuncDefn name vs ws)
function_of (FuncDefn name ts us) vs ws e = let b = both (same_types ts vs) (same_types us ws) e in (name, ap₂ (λ x y. FuncDefn name x y) (types_same ts vs b.0) (types_same us ws b.1))
function_of _ vs ws e = absurd cc

module_of : (o : Op) → is_module o ≡ true → o ≡ Module
module_of Module e = refl
module_of _ e = absurd cc

-- ---- kinds of ports
abbrev pub same_kind : Option PortKind → Option PortKind → Bool
same_kind (Some (ValuePort t)) (Some (ValuePort u)) = same_type t u
same_kind (Some ControlPort) (Some ControlPort) = true
same_kind (Some FunctionPort) (Some FunctionPort) = true
same_kind (Some ConstantPort) (Some ConstantPort) = true
same_kind _ _ = false

pub kind_same : (a b : Option PortKind) → same_kind a b ≡ true → (k : PortKind) × (a ≡ Some k) × (b ≡ Some k)
kind_same (Some (ValuePort t)) (Some (ValuePort u)) e = (ValuePort u, ap (λ x. Some (ValuePort x)) (type_same t u e), refl)
kind_same (Some ControlPort) (Some ControlPort) e = (ControlPort, refl, refl)
kind_same (Some FunctionPort) (Some FunctionPort) e = (FunctionPort, refl, refl)
kind_same (Some ConstantPort) (Some ConstantPort) e = (ConstantPort, refl, refl)
kind_same _ _ e = absurd cc

-- ---- the rules
module _ (g : Graph) where
  abbrev pub place_ok : ℕ → Bool
  place_ok zero = is_module (op_at g 0) && eqb (parent_at g 0) 0
  place_ok (suc n) = not (is_module (op_at g (suc n))) && ltb (parent_at g (suc n)) (suc n)

  pub place : (n : ℕ) → place_ok n ≡ true → HasPlace g n
  place zero e = let b = both (is_module (op_at g 0)) (eqb (parent_at g 0) 0) e in record { root = λ z. (module_of (op_at g 0) b.0, eqb-true (parent_at g 0) 0 b.1); others = λ l. absurd (omega arith) }
  place (suc n) e = let b = both (not (is_module (op_at g (suc n)))) (ltb (parent_at g (suc n)) (suc n)) e in record { root = λ z. absurd (no z); others = λ l. (is_false (is_module (op_at g (suc n))) b.0, ltb-true (parent_at g (suc n)) (suc n) b.1) }
    where
      no : suc n ≡ 0 → ⊥
      no z = cc

  abbrev pub boundary_of : ℕ → List ℕ → Bool
  boundary_of c (i ∷ o ∷ rest) = is_input_of (op_at g i) (inner_ins (op_at g c)) && (is_output_of (op_at g o) (inner_outs (op_at g c)) && all_in (λ n. not (is_boundary (op_at g n))) rest)
  boundary_of c _ = false

  pub boundary : (c : ℕ) (l : List ℕ) → children g c ≡ l → boundary_of c l ≡ true → HasBoundary g c
  boundary c [] q e = absurd cc
  boundary c (i ∷ []) q e = absurd cc
  boundary c (i ∷ o ∷ rest) q e =
      let a = both (is_input_of (op_at g i) (inner_ins (op_at g c))) _ e in
      let b = both (is_output_of (op_at g o) (inner_outs (op_at g c))) (all_in (λ n. not (is_boundary (op_at g n))) rest) a.1 in
      record {
        input = i;
        output = o;
        rest = rest;
        are_children = q;
        input_is = input_of (op_at g i) (inner_ins (op_at g c)) a.0;
        output_is = output_of (op_at g o) (inner_outs (op_at g c)) b.0;
        no_other = λ n j. is_false (is_boundary (op_at g n)) (in_all (λ m. not (is_boundary (op_at g m))) rest n b.1 j);
      }

  abbrev pub blocks_of : List ℕ → Types → Types → Bool
  blocks_of (b ∷ x ∷ rest) ins outs = is_entry_of (op_at g b) ins && (is_exit_of (op_at g x) outs && all_in (λ n. not (is_exit (op_at g n))) rest)
  blocks_of _ ins outs = false

  pub blocks : (n : ℕ) (l : List ℕ) (ins outs : Types) → children g n ≡ l → blocks_of l ins outs ≡ true → HasBlocks g n ins outs
  blocks n [] ins outs q e = absurd cc
  blocks n (b ∷ []) ins outs q e = absurd cc
  blocks n (b ∷ x ∷ rest) ins outs q e =
      let a = both (is_entry_of (op_at g b) ins) _ e in
      let d = both (is_exit_of (op_at g x) outs) (all_in (λ m. not (is_exit (op_at g m))) rest) a.1 in
      let t = entry_of (op_at g b) ins a.0 in
      record {
        entry = b;
        exit = x;
        rest = rest;
        rows = t.0;
        others = t.1;
        are_children = q;
        entry_is = t.2;
        exit_is = exit_of (op_at g x) outs d.0;
        no_other = λ m j. is_false (is_exit (op_at g m)) (in_all (λ k. not (is_exit (op_at g k))) rest m d.1 j);
      }

  abbrev pub cases_of : List ℕ → List Types → Types → Types → Bool
  cases_of [] [] ins outs = true
  cases_of (c ∷ cs) (r ∷ rows) ins outs = is_case_of (op_at g c) (r ++ ins) outs && cases_of cs rows ins outs
  cases_of _ _ ins outs = false

  cases_length : (cs : List ℕ) (rows : List Types) (ins outs : Types) → cases_of cs rows ins outs ≡ true → length cs ≡ length rows
  cases_length [] [] ins outs e = refl
  cases_length (c ∷ cs) (r ∷ rows) ins outs e = ap suc (cases_length cs rows ins outs (both (is_case_of (op_at g c) (r ++ ins) outs) (cases_of cs rows ins outs) e).1)
  cases_length [] (r ∷ rows) ins outs e = absurd cc
  cases_length (c ∷ cs) [] ins outs e = absurd cc

  case_at : (cs : List ℕ) (rows : List Types) (ins outs : Types) → cases_of cs rows ins outs ≡ true → (k : ℕ) (r : Types) → slice_get rows k ≡ Some r → (c : ℕ) × (slice_get cs k ≡ Some c) × (op_at g c ≡ Case (r ++ ins) outs)
  case_at [] [] ins outs e k r q = absurd cc
  case_at (c ∷ cs) (s ∷ rows) ins outs e zero r q =
      let b = both (is_case_of (op_at g c) (s ++ ins) outs) (cases_of cs rows ins outs) e in
      (c, refl, case_of (op_at g c) (s ++ ins) outs b.0 ∙ ap (λ x. Case (x ++ ins) outs) (is s r q))
    where
      is : (x y : Types) → Some x ≡ Some y → x ≡ y
      is x y q = cc
  case_at (c ∷ cs) (s ∷ rows) ins outs e (suc k) r q = case_at cs rows ins outs (both (is_case_of (op_at g c) (s ++ ins) outs) (cases_of cs rows ins outs) e).1 k r q
  case_at [] (s ∷ rows) ins outs e k r q = absurd cc
  case_at (c ∷ cs) [] ins outs e k r q = absurd cc

  pub cases : (n : ℕ) (rows : List Types) (ins outs : Types) → cases_of (children g n) rows ins outs ≡ true → HasCases g n rows ins outs
  cases n rows ins outs e = record {
    count = cases_length (children g n) rows ins outs e;
    each = λ k row q. let c = case_at (children g n) rows ins outs e k row q in record { case = c.0; is_child = c.1; case_is = c.2 };
  }

  -- ---- links
  abbrev pub link_ok : Link → Bool
  link_ok (Ports a b) = same_kind (slice_get (output_ports (op_at g a.node)) a.index) (slice_get (input_ports (op_at g b.node)) b.index)
  link_ok (Order a b) = is_operation (op_at g a) && (is_operation (op_at g b) && (not (is_output (op_at g a)) && not (is_input (op_at g b))))

  pub links_join : (n : ℕ) → all_in link_ok g.links ≡ true → LinksJoin g n
  links_join n e = record {
    ports = λ a b i q. let k = kind_same (slice_get (output_ports (op_at g a.node)) a.index) (slice_get (input_ports (op_at g b.node)) b.index) (in_all link_ok g.links (Ports a b) e i) in record { kind = k.0; output = k.1; input = k.2 };
    orders = λ a i.
        let x = both (is_operation (op_at g a)) _ (in_all link_ok g.links (Order a n) e i) in
        let y = both (is_operation (op_at g n)) _ x.1 in
        let z = both (not (is_output (op_at g a))) (not (is_input (op_at g n))) y.1 in
        record { from_operation = x.0; to_operation = y.0; no_output = is_false (is_output (op_at g a)) z.0; no_input = is_false (is_input (op_at g n)) z.1 };
  }

  abbrev pub local_ok : Link → Bool
  local_ok (Ports a b) = not (is_local (slice_get (input_ports (op_at g b.node)) b.index)) || eqb (parent_at g a.node) (parent_at g b.node)
  local_ok (Order a b) = eqb (parent_at g a) (parent_at g b)

  pub stays_inside : (n : ℕ) → all_in local_ok g.links ≡ true → LinksStayInside g n
  stays_inside n e = record {
    ports = λ a b i q t. elim (either (not (is_local (slice_get (input_ports (op_at g b.node)) b.index))) (eqb (parent_at g a.node) (parent_at g b.node)) (in_all local_ok g.links (Ports a b) e i)) [
      | inl h ↦ not_both (is_local (slice_get (input_ports (op_at g n)) b.index)) t (ap (λ x. is_local (slice_get (input_ports (op_at g x)) b.index)) (sym q) ∙ is_false (is_local (slice_get (input_ports (op_at g b.node)) b.index)) h)
      | inr h ↦ eqb-true (parent_at g a.node) (parent_at g b.node) h ∙ ap (parent_at g) q
    ];
    orders = λ a i. eqb-true (parent_at g a) (parent_at g n) (in_all local_ok g.links (Order a n) e i);
  }

  abbrev pub within_ok : Link → Bool
  within_ok (Ports a b) = ltb a.node (length g.nodes) && ltb b.node (length g.nodes)
  within_ok (Order a b) = ltb a (length g.nodes) && ltb b (length g.nodes)

  pub link_within : (l : Link) → within_ok l ≡ true → LinkIsWithin (length g.nodes) l
  link_within (Ports a b) e = let r = both (ltb a.node (length g.nodes)) (ltb b.node (length g.nodes)) e in (ltb-true a.node (length g.nodes) r.0, ltb-true b.node (length g.nodes) r.1)
  link_within (Order a b) e = let r = both (ltb a (length g.nodes)) (ltb b (length g.nodes)) e in (ltb-true a (length g.nodes) r.0, ltb-true b (length g.nodes) r.1)

  -- each edge goes to a node of a greater rank
  module _ (rank : ℕ → ℕ) where
    abbrev pub rises : Link → Bool
    rises (Ports a b) = not (ltb b.index (length (ins_of (op_at g b.node)))) || ltb (rank a.node) (rank b.node)
    rises (Order a b) = ltb (rank a) (rank b)

    pub path_rises : all_in rises g.links ≡ true → (a b : ℕ) → Path g a b → rank a < rank b
    path_rises e a b (edge (along_value p q i l)) = elim (either (not (ltb q (length (ins_of (op_at g b))))) (ltb (rank a) (rank b)) (in_all rises g.links (Ports (record { node = a; index = p }) (record { node = b; index = q })) e i)) [
      | inl h ↦ not_both (ltb q (length (ins_of (op_at g b)))) (lt-ltb q (length (ins_of (op_at g b))) l) (is_false (ltb q (length (ins_of (op_at g b)))) h)
      | inr h ↦ ltb-true (rank a) (rank b) h
    ]
    path_rises e a b (edge (along_order i)) = ltb-true (rank a) (rank b) (in_all rises g.links (Order a b) e i)
    path_rises e a b (joined {b = m} p q) = let x = path_rises e a m p in let y = path_rises e m b q in omega arith

  -- ---- ports
  abbrev pub inputs_ok : ℕ → Bool
  inputs_ok n = below (λ p. eqb (links_into g.links (record { node = n; index = p })) 1) (length (ins_of (op_at g n)))

  abbrev pub outputs_ok : ℕ → ℕ → Types → Bool
  outputs_ok n p [] = true
  outputs_ok n p (t ∷ ts) = (not (is_linear t) || eqb (links_from g.links (record { node = n; index = p })) 1) && outputs_ok n (suc p) ts

  pub outputs_taken : (n p : ℕ) (ts : Types) → outputs_ok n p ts ≡ true → (j : ℕ) (t : GraphType) → slice_get ts j ≡ Some t → is_linear t ≡ true → links_from g.links (record { node = n; index = p + j }) ≡ 1
  outputs_taken n p [] e j t q l = absurd cc
  outputs_taken n p (u ∷ ts) e zero t q l =
      let b = both (not (is_linear u) || eqb (links_from g.links (record { node = n; index = p })) 1) (outputs_ok n (suc p) ts) e in
      let z : p + 0 ≡ p = omega arith in
      elim (either (not (is_linear u)) (eqb (links_from g.links (record { node = n; index = p })) 1) b.0) as (λ _. links_from g.links (record { node = n; index = p + 0 }) ≡ 1) [
        | inl h ↦ not_both (is_linear t) l (ap is_linear (sym (is u t q)) ∙ is_false (is_linear u) h)
        | inr h ↦ ap (λ x. links_from g.links (record { node = n; index = x })) z ∙ eqb-true (links_from g.links (record { node = n; index = p })) 1 h
      ]
    where
      is : (x y : GraphType) → Some x ≡ Some y → x ≡ y
      is x y q = cc
  outputs_taken n p (u ∷ ts) e (suc j) t q l =
      let b = both (not (is_linear u) || eqb (links_from g.links (record { node = n; index = p })) 1) (outputs_ok n (suc p) ts) e in
      let z : p + suc j ≡ suc p + j = omega arith in
      ap (λ x. links_from g.links (record { node = n; index = x })) z ∙ outputs_taken n (suc p) ts b.1 j t q l

  -- ---- blocks
  abbrev target_ok : Option Port → Types → Bool
  target_ok None ts = false
  target_ok (Some p) ts = is_block (op_at g p.node) && same_types (block_ins (op_at g p.node)) ts

  abbrev pub successors_ok : ℕ → ℕ → List Types → Types → Bool
  successors_ok n k [] others = true
  successors_ok n k (r ∷ rows) others =
      eqb (links_from g.links (record { node = n; index = k })) 1 && (target_ok (taker g.links (record { node = n; index = k })) (r ++ others) && successors_ok n (suc k) rows others)

  successor : (n k : ℕ) (r others : Types) (o : Option Port) → taker g.links (record { node = n; index = k }) ≡ o → target_ok o (r ++ others) ≡ true → links_from g.links (record { node = n; index = k }) ≡ 1 → HasSuccessor g n k r others
  successor n k r others None q e c = absurd cc
  successor n k r others (Some p) q e c = let b = both (is_block (op_at g p.node)) (same_types (block_ins (op_at g p.node)) (r ++ others)) e in
      record { once = c; target = p; is_target = q; is_block = b.0; fits = types_same (block_ins (op_at g p.node)) (r ++ others) b.1 }

  pub successors : (n k : ℕ) (rows : List Types) (others : Types) → successors_ok n k rows others ≡ true → (j : ℕ) (r : Types) → slice_get rows j ≡ Some r → HasSuccessor g n (k + j) r others
  successors n k [] others e j r q = absurd cc
  successors n k (s ∷ rows) others e zero r q =
      let a = both (eqb (links_from g.links (record { node = n; index = k })) 1) _ e in
      let b = both (target_ok (taker g.links (record { node = n; index = k })) (s ++ others)) (successors_ok n (suc k) rows others) a.1 in
      let z : k ≡ k + 0 = omega arith in
      subst (λ x. HasSuccessor g n x r others) z (subst (λ x. HasSuccessor g n k x others) (is s r q) (successor n k s others (taker g.links (record { node = n; index = k })) refl b.0 (eqb-true (links_from g.links (record { node = n; index = k })) 1 a.0)))
    where
      is : (x y : Types) → Some x ≡ Some y → x ≡ y
      is x y q = cc
  successors n k (s ∷ rows) others e (suc j) r q =
      let a = both (eqb (links_from g.links (record { node = n; index = k })) 1) _ e in
      let b = both (target_ok (taker g.links (record { node = n; index = k })) (s ++ others)) (successors_ok n (suc k) rows others) a.1 in
      let z : suc k + j ≡ k + suc j = omega arith in
      subst (λ x. HasSuccessor g n x r others) z (successors n (suc k) rows others b.1 j r q)

  -- ---- static links
  abbrev ancestor_ok : ℕ → ℕ → ℕ → Bool
  ancestor_ok zero a n = false
  ancestor_ok (suc steps) a n = eqb (parent_at g n) a || ancestor_ok steps a (parent_at g n)

  ancestor : (steps a n : ℕ) → ancestor_ok steps a n ≡ true → IsAncestor g a n
  ancestor zero a n e = absurd cc
  ancestor (suc steps) a n e = elim (either (eqb (parent_at g n) a) (ancestor_ok steps a (parent_at g n)) e) [ inl h ↦ of_child (eqb-true (parent_at g n) a h) | inr h ↦ of_further (ancestor steps a (parent_at g n) h) ]

  pub static : (n : ℕ) (o : Option Port) → feeder g.links (static_input g n) ≡ o → is_some o ≡ true → links_into g.links (static_input g n) ≡ 1 → HasStatic g n
  static n None q e c = absurd cc
  static n (Some p) q e c = record { once = c; source = p; is_source = q }

  abbrev pub constant_ok : ℕ → Option Port → Bool
  constant_ok n None = false
  constant_ok n (Some p) = ancestor_ok (length g.nodes) (parent_at g p.node) n

  pub constant : (n : ℕ) (o : Option Port) → feeder g.links (static_input g n) ≡ o → constant_ok n o ≡ true → links_into g.links (static_input g n) ≡ 1 → HasConstant g n
  constant n None q e c = absurd cc
  constant n (Some p) q e c = record { static = record { once = c; source = p; is_source = q }; seen = ancestor (length g.nodes) (parent_at g p.node) n e }

  abbrev pub callee_ok : Option Port → Types → Types → Bool
  callee_ok None ins outs = false
  callee_ok (Some p) ins outs = is_function_of (op_at g p.node) ins outs

  pub callee : (n : ℕ) (ins outs : Types) (o : Option Port) → feeder g.links (static_input g n) ≡ o → callee_ok o ins outs ≡ true → HasCallee g n ins outs
  callee n ins outs None q e = absurd cc
  callee n ins outs (Some p) q e = let f = function_of (op_at g p.node) ins outs e in record { source = p; is_source = q; name = f.0; is_function = f.1 }

  -- ---- names and tags
  abbrev pub has_name : Op → List ℕ → Bool
  has_name (FuncDefn other ins outs) name = bytes_eq other name
  has_name _ name = false

  pub no_name : (o : Op) (name : List ℕ) → has_name o name ≡ false → name_of o ≡ Some name → ⊥
  no_name (FuncDefn other ins outs) name e q = not_both (bytes_eq other name) ((bytes_eq-Decides other name).1 (is other name q)) e
    where
      is : (x y : List ℕ) → Some x ≡ Some y → x ≡ y
      is x y q = cc
  no_name Module name e q = cc
  no_name (Const v) name e q = cc
  no_name (Input r) name e q = cc
  no_name (Output r) name e q = cc
  no_name (Dfg i o) name e q = cc
  no_name (Cfg i o) name e q = cc
  no_name (DataflowBlock i r o) name e q = cc
  no_name (ExitBlock r) name e q = cc
  no_name (Conditional r i o) name e q = cc
  no_name (Case i o) name e q = cc
  no_name (TailLoop a l r) name e q = cc
  no_name (Tag r t) name e q = cc
  no_name (Call i o) name e q = cc
  no_name (CallIndirect i o) name e q = cc
  no_name LoadConstant name e q = cc
  no_name (LoadFunction i o) name e q = cc
  no_name (Ext x) name e q = cc

abbrev pub printable : ℕ → Bool
printable byte = leb 32 byte && leb byte 126

all_printable : (tag : List ℕ) → all_in printable tag ≡ true → All IsPrintable tag
all_printable [] e k d l = absurd (omega arith)
all_printable (c ∷ tag) e zero d l = let b = both (printable c) (all_in printable tag) e in let r = both (leb 32 c) (leb c 126) b.0 in (leb-true 32 c r.0, leb-true c 126 r.1)
all_printable (c ∷ tag) e (suc k) d l = all_printable tag (both (printable c) (all_in printable tag) e).1 k d (omega arith)

abbrev pub tag_ok : List ℕ → Bool
tag_ok tag = ltb 0 (length tag) && (leb (length tag) 255 && all_in printable tag)

pub is_tag : (tag : List ℕ) → tag_ok tag ≡ true → IsTag tag
is_tag tag e =
    let a = both (ltb 0 (length tag)) _ e in
    let b = both (leb (length tag) 255) (all_in printable tag) a.1 in
    record { some = ltb-true 0 (length tag) a.0; few = leb-true (length tag) 255 b.0; printable = all_printable tag b.1 }

abbrev pub tags_ok : Op → Bool
tags_ok (Tag rows tag) = ltb 0 (length rows) && ltb tag (length rows)
tags_ok (Conditional rows ins outs) = ltb 0 (length rows)
tags_ok (DataflowBlock ins rows others) = ltb 0 (length rows)
tags_ok (Ext (ResultInt tag)) = tag_ok tag
tags_ok (Ext (ResultBool tag)) = tag_ok tag
tags_ok _ = true

pub tags_keep : (o : Op) → tags_ok o ≡ true → KeepsTags o
tags_keep (Tag rows tag) e = let b = both (ltb 0 (length rows)) (ltb tag (length rows)) e in (ltb-true 0 (length rows) b.0, ltb-true tag (length rows) b.1)
tags_keep (Conditional rows ins outs) e = ltb-true 0 (length rows) e
tags_keep (DataflowBlock ins rows others) e = ltb-true 0 (length rows) e
tags_keep (Ext (ResultInt tag)) e = is_tag tag e
tags_keep (Ext (ResultBool tag)) e = is_tag tag e
tags_keep _ e = tt
