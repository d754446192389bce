-- Each rule is kept by a node or not, and of a graph that isn't valid there are a least broken rule and a least node.
use Rattle.std.proofs.Common.{◌≡◌, ◌≢◌, ◌⊎◌, inl, inr, ℕ, zero, suc, ◌<◌, ◌≤◌, Bool, true, false, eqb, ltb, leb, List, [], ◌∷◌, ◌++◌, length, Option, Some, None, refl, sym, ap, ap₂, ◌∙◌, subst, arith}
use Rattle.std.specs.Prelude.{slice_get, All}
use Rattle.std.specs.Str.{bytes_eq}
use Rattle.std.proofs.lemmas.Bool.{cases_lt, cases_eq, eq-eqb, lt-ltb, le-leb}
use Rattle.std.proofs.lemmas.Slice.Eq.{bytes_eq-Decides}
use Rattle.gp_base.specs.Tag.{IsPrintable, IsTag}
use Rattle.gp_base.specs.Membership.{In}
use Rattle.hg_ops.specs.GraphType.{is_linear}
use Rattle.hg_ops.specs.Op.{Op, Types, Module, FuncDefn, Input, Output, Cfg, DataflowBlock, ExitBlock, Conditional, Case, Tag, Call, LoadConstant, LoadFunction, Ext, ResultInt, ResultBool, PortKind, ValuePort, ControlPort, FunctionPort, ConstantPort, ins_of, outs_of, input_ports, output_ports, is_dataflow_container, is_operation, inner_ins, inner_outs}
use Rattle.hg_ops.specs.SameType.{same_types}
use Rattle.hg_graph.specs.Graph.{Graph, Port, Link, Ports, Order, IsGraph, op_at, parent_at, children, feeder, taker, links_into, links_from, static_input}
use Rattle.hg_graph.specs.Valid
use Rattle.hg_graph.specs.Valid.{Rule, Keeps, IsValid, IsBroken, number_of, HasPlace, SuitsParent, HasBoundary, HasBlocks, HasCase, HasCases, JoinsPorts, JoinsNodes, LinksJoin, LinksStayInside, InputsAreFed, LinearOutputsAreTaken, Edge, Path, edge, joined, along_value, along_order, HasSuccessor, HasSuccessors, IsAncestor, of_child, of_further, HasStatic, HasConstant, HasCallee, HasNewName, KeepsBlocks, KeepsCases, KeepsSuccessors, KeepsStatic, KeepsCallee, KeepsName, KeepsTags, is_module, is_boundary, is_output, is_input, is_exit, is_block, is_local, block_ins, may_stand_in, name_of}
use Rattle.hg_laws.specs.Laws.{ValidOrBroken}
use Rattle.hg_laws.proofs.Broken.{same_rule}
use Rattle.hg_laws.proofs.Named.{and_true, same_types-refl, same_type-refl}
use Rattle.hg_laws.proofs.Order.{any}
use Rattle.hg_laws.proofs.Tests.{types_same, same_kind, kind_same, all_in, printable, tag_ok, is_tag}
use Rattle.hg_laws.proofs.Tested.{joins, any_link, link_edge, any_of}

abbrev pub Tells : Type 0 → Type 0
Tells A = A ⊎ (A → ⊥)

as_tells : {A B : Type 0} → (A → B) → (B → A) → Tells A → Tells B
as_tells f h (inl a) = inl (f a)
as_tells f h (inr x) = inr (λ b. x (h b))

not_tells : {A : Type 0} → Tells A → Tells (A → ⊥)
not_tells (inl a) = inr (λ f. f a)
not_tells (inr f) = inl f

and_tells : {A B : Type 0} → Tells A → Tells B → Tells (A × B)
and_tells (inl a) (inl b) = inl (a, b)
and_tells (inl a) (inr f) = inr (λ p. f p.1)
and_tells (inr f) t = inr (λ p. f p.0)

or_tells : {A B : Type 0} → Tells A → Tells B → Tells (A ⊎ B)
or_tells (inl a) t = inl (inl a)
or_tells (inr f) (inl b) = inl (inr b)
or_tells {A} {B} (inr f) (inr h) = inr neither
  where
    neither : A ⊎ B → ⊥
    neither (inl a) = f a
    neither (inr b) = h b

given_tells : {A B : Type 0} → A → Tells B → Tells (A → B)
given_tells a (inl b) = inl (λ _. b)
given_tells a (inr f) = inr (λ h. f (h a))

if_tells : {A B : Type 0} → Tells A → (A → Tells B) → Tells (A → B)
if_tells (inr f) t = inl (λ a. absurd (f a))
if_tells (inl a) t = given_tells a (t a)

true_tells : (b : Bool) → Tells (b ≡ true)
true_tells true = inl refl
true_tells false = inr (λ e. cc)

false_tells : (b : Bool) → Tells (b ≡ false)
false_tells true = inr (λ e. cc)
false_tells false = inl refl

by_test : {A : Type 0} (b : Bool) → (b ≡ true → A) → (A → b ≡ true) → Tells A
by_test b f h = as_tells f h (true_tells b)

lt_tells : (a b : ℕ) → Tells (a < b)
lt_tells a b = go (cases_lt a b)
  where
    go : (a < b) ⊎ (b ≤ a) → Tells (a < b)
    go (inl l) = inl l
    go (inr l) = inr (λ h. absurd (omega arith))

-- ---- numbers, lists and options
abbrev First : (ℕ → Type 0) → ℕ → Type 0
First P n = (m : ℕ) × (m < n) × (P m → ⊥) × ((k : ℕ) → k < m → P k)

first_step : (P : ℕ → Type 0) (n : ℕ) → ((k : ℕ) → k < n → P k) ⊎ First P n → Tells (P n) → ((k : ℕ) → k < suc n → P k) ⊎ First P (suc n)
first_step P n (inr f) t = inr (f.0, let l = f.1 in omega arith, f.2, f.3)
first_step P n (inl h) (inr f) = inr (n, omega arith, f, h)
first_step P n (inl h) (inl p) = inl (λ k l. at k l (cases_eq k n))
  where
    at : (k : ℕ) → k < suc n → (k ≡ n) ⊎ (k ≡ n → ⊥) → P k
    at k l (inl e) = subst P (sym e) p
    at k l (inr ne) = h k (omega arith)

first_below : (P : ℕ → Type 0) (n : ℕ) → ((k : ℕ) → k < n → Tells (P k)) → ((k : ℕ) → k < n → P k) ⊎ First P n
first_below P zero t = inl (λ k l. absurd (omega arith))
first_below P (suc n) t = first_step P n (first_below P n (λ k l. t k (omega arith))) (t n (omega arith))

below_tells : (P : ℕ → Type 0) (n : ℕ) → ((k : ℕ) → k < n → Tells (P k)) → Tells ((k : ℕ) → k < n → P k)
below_tells P n t = go (first_below P n t)
  where
    go : ((k : ℕ) → k < n → P k) ⊎ ((m : ℕ) × (m < n) × (P m → ⊥) × ((k : ℕ) → k < m → P k)) → Tells ((k : ℕ) → k < n → P k)
    go (inl h) = inl h
    go (inr f) = inr (λ h. f.2 (h f.0 f.1))

get_step : {A : Type 0} (P : ℕ → A → Type 0) (x : A) (xs : List A) → Tells (P 0 x) → Tells ((k : ℕ) (y : A) → slice_get xs k ≡ Some y → P (suc k) y) → Tells ((k : ℕ) (y : A) → slice_get (x ∷ xs) k ≡ Some y → P k y)
get_step P x xs (inr f) t = inr (λ h. f (h 0 x refl))
get_step P x xs (inl p) (inr f) = inr (λ h. f (λ k y e. h (suc k) y e))
get_step {A} P x xs (inl p) (inl h) = inl go
  where
    some : (a b : A) → Some a ≡ Some b → a ≡ b
    some a b e = cc

    go : (k : ℕ) (y : A) → slice_get (x ∷ xs) k ≡ Some y → P k y
    go zero y e = subst (P 0) (some x y e) p
    go (suc k) y e = h k y e

get_tells : {A : Type 0} (P : ℕ → A → Type 0) (xs : List A) → ((k : ℕ) (x : A) → slice_get xs k ≡ Some x → Tells (P k x)) → Tells ((k : ℕ) (x : A) → slice_get xs k ≡ Some x → P k x)
get_tells P [] t = inl (λ k x e. absurd cc)
get_tells P (x ∷ xs) t = get_step P x xs (t 0 x refl) (get_tells (λ k y. P (suc k) y) xs (λ k y e. t (suc k) y e))

in_step : {A : Type 0} (P : A → Type 0) (y : A) (ys : List A) → Tells (P y) → Tells ((x : A) → In x ys → P x) → Tells ((x : A) → In x (y ∷ ys) → P x)
in_step P y ys (inr f) t = inr (λ h. f (h y (inl refl)))
in_step P y ys (inl p) (inr f) = inr (λ h. f (λ x i. h x (inr i)))
in_step {A} P y ys (inl p) (inl h) = inl go
  where
    go : (x : A) → (x ≡ y) ⊎ In x ys → P x
    go x (inl e) = subst P (sym e) p
    go x (inr i) = h x i

in_tells : {A : Type 0} (P : A → Type 0) (xs : List A) → ((x : A) → Tells (P x)) → Tells ((x : A) → In x xs → P x)
in_tells P [] t = inl (λ x i. absurd i)
in_tells P (y ∷ ys) t = in_step P y ys (t y) (in_tells P ys t)

option_tells : {A : Type 0} (P : A → Type 0) (o : Option A) → ((x : A) → Tells (P x)) → Tells ((x : A) × (o ≡ Some x) × P x)
option_tells P None t = inr (λ h. let e = h.1 in cc)
option_tells {A} P (Some x) t = go (t x)
  where
    some : (a b : A) → Some a ≡ Some b → a ≡ b
    some a b e = cc

    go : Tells (P x) → Tells ((y : A) × (Some x ≡ Some y) × P y)
    go (inl p) = inl (x, refl, p)
    go (inr f) = inr (λ h. f (subst P (sym (some x h.0 h.1)) h.2))

-- ---- types and ops
types_tells : (ts us : Types) → Tells (ts ≡ us)
types_tells ts us = by_test (same_types ts us) (types_same ts us) (λ q. ap (same_types ts) (sym q) ∙ same_types-refl ts)

input_tells : (o : Op) (us : Types) → Tells (o ≡ Input us)
input_tells (Input ts) us = as_tells (ap Input) is (types_tells ts us)
  where
    is : Input ts ≡ Input us → ts ≡ us
    is e = cc
input_tells _ us = inr (λ e. cc)

output_tells : (o : Op) (us : Types) → Tells (o ≡ Output us)
output_tells (Output ts) us = as_tells (ap Output) is (types_tells ts us)
  where
    is : Output ts ≡ Output us → ts ≡ us
    is e = cc
output_tells _ us = inr (λ e. cc)

exit_tells : (o : Op) (us : Types) → Tells (o ≡ ExitBlock us)
exit_tells (ExitBlock ts) us = as_tells (ap ExitBlock) is (types_tells ts us)
  where
    is : ExitBlock ts ≡ ExitBlock us → ts ≡ us
    is e = cc
exit_tells _ us = inr (λ e. cc)

entry_tells : (o : Op) (us : Types) → Tells ((rows : List Types) × (others : Types) × (o ≡ DataflowBlock us rows others))
entry_tells (DataflowBlock ts rows others) us = as_tells (λ e. (rows, others, ap (λ x. DataflowBlock x rows others) e)) (λ h. is h.0 h.1 h.2) (types_tells ts us)
  where
    is : (a : List Types) (b : Types) → DataflowBlock ts rows others ≡ DataflowBlock us a b → ts ≡ us
    is a b e = cc
entry_tells _ us = inr (λ h. let e = h.2 in cc)

case_tells : (o : Op) (vs ws : Types) → Tells (o ≡ Case vs ws)
case_tells (Case ts us) vs ws = as_tells (λ p. ap₂ Case p.0 p.1) is (and_tells (types_tells ts vs) (types_tells us ws))
  where
    is : Case ts us ≡ Case vs ws → (ts ≡ vs) × (us ≡ ws)
    is e = (cc, cc)
case_tells _ vs ws = inr (λ e. cc)

function_tells : (o : Op) (vs ws : Types) → Tells ((name : List ℕ) × (o ≡ FuncDefn name vs ws))
function_tells (FuncDefn name ts us) vs ws = as_tells (λ p. (name, ap₂ (FuncDefn name) p.0 p.1)) (λ h. is h.0 h.1) (and_tells (types_tells ts vs) (types_tells us ws))
  where
    is : (n : List ℕ) → FuncDefn name ts us ≡ FuncDefn n vs ws → (ts ≡ vs) × (us ≡ ws)
    is n e = (cc, cc)
function_tells _ vs ws = inr (λ h. let e = h.1 in cc)

module_tells : (o : Op) → Tells (o ≡ Module)
module_tells Module = inl refl
module_tells _ = inr (λ e. cc)

kind_refl : (k : PortKind) → same_kind (Some k) (Some k) ≡ true
kind_refl (ValuePort t) = same_type-refl t
kind_refl ControlPort = refl
kind_refl FunctionPort = refl
kind_refl ConstantPort = refl

-- ---- the rules
module _ (g : Graph) where
  place_tells : (n : ℕ) → Tells (HasPlace g n)
  place_tells n =
      as_tells (λ p. record { root = p.0; others = p.1 }) (λ H. (H.root, H.others))
      (and_tells (if_tells (cases_eq n 0) (λ _. and_tells (module_tells (op_at g n)) (cases_eq (parent_at g n) 0)))
      (if_tells (lt_tells 0 n) (λ _. and_tells (false_tells (is_module (op_at g n))) (lt_tells (parent_at g n) n))))

  suits_tells : (n : ℕ) → Tells (SuitsParent g n)
  suits_tells n = if_tells (not_tells (cases_eq (parent_at g n) n)) (λ _. true_tells (may_stand_in (op_at g (parent_at g n)) (op_at g n)))

  heads : (x y a b : ℕ) (xs bs : List ℕ) → x ∷ y ∷ xs ≡ a ∷ b ∷ bs → (x ≡ a) × (y ≡ b) × (xs ≡ bs)
  heads x y a b xs bs e = (cc, cc, cc)

  boundary_tells : (c : ℕ) (l : List ℕ) → children g c ≡ l → Tells (HasBoundary g c)
  boundary_tells c [] q = inr (λ B. let e = sym q ∙ B.are_children in cc)
  boundary_tells c (x ∷ []) q = inr (λ B. let e = sym q ∙ B.are_children in cc)
  boundary_tells c (i ∷ o ∷ rest) q =
      as_tells (λ p. record { input = i; output = o; rest = rest; are_children = q; input_is = p.0; output_is = (p.1).0; no_other = (p.1).1 })
      (λ B. let h = heads i o B.input B.output rest B.rest (sym q ∙ B.are_children) in (ap (op_at g) h.0 ∙ B.input_is, (ap (op_at g) h.1 ∙ B.output_is, λ n j. B.no_other n (subst (In n) h.2 j))))
      (and_tells (input_tells (op_at g i) (inner_ins (op_at g c))) (and_tells (output_tells (op_at g o) (inner_outs (op_at g c))) (in_tells (λ n. is_boundary (op_at g n) ≡ false) rest (λ n. false_tells (is_boundary (op_at g n))))))

  blocks_tells : (c : ℕ) (ins outs : Types) (l : List ℕ) → children g c ≡ l → Tells (HasBlocks g c ins outs)
  blocks_tells c ins outs [] q = inr (λ B. let e = sym q ∙ B.are_children in cc)
  blocks_tells c ins outs (x ∷ []) q = inr (λ B. let e = sym q ∙ B.are_children in cc)
  blocks_tells c ins outs (i ∷ o ∷ rest) q =
      as_tells (λ p. record { entry = i; exit = o; rest = rest; rows = (p.0).0; others = (p.0).1; are_children = q; entry_is = (p.0).2; exit_is = (p.1).0; no_other = (p.1).1 })
      (λ B. let h = heads i o B.entry B.exit rest B.rest (sym q ∙ B.are_children) in ((B.rows, B.others, ap (op_at g) h.0 ∙ B.entry_is), (ap (op_at g) h.1 ∙ B.exit_is, λ n j. B.no_other n (subst (In n) h.2 j))))
      (and_tells (entry_tells (op_at g i) ins) (and_tells (exit_tells (op_at g o) outs) (in_tells (λ n. is_exit (op_at g n) ≡ false) rest (λ n. false_tells (is_exit (op_at g n))))))

  keeps_blocks : (n : ℕ) (o : Op) → Tells (KeepsBlocks g n o)
  keeps_blocks n (Cfg ins outs) = blocks_tells n ins outs (children g n) refl
  keeps_blocks n _ = inl tt

  has_case : (n k : ℕ) (row ins outs : Types) → Tells (HasCase g n k row ins outs)
  has_case n k row ins outs =
      as_tells (λ p. record { case = p.0; is_child = p.1; case_is = p.2 }) (λ C. (C.case, C.is_child, C.case_is))
      (option_tells (λ c. op_at g c ≡ Case (row ++ ins) outs) (slice_get (children g n) k) (λ c. case_tells (op_at g c) (row ++ ins) outs))

  keeps_cases : (n : ℕ) (o : Op) → Tells (KeepsCases g n o)
  keeps_cases n (Conditional rows ins outs) =
      as_tells (λ p. record { count = p.0; each = p.1 }) (λ C. (C.count, C.each))
      (and_tells (cases_eq (length (children g n)) (length rows)) (get_tells (λ k row. HasCase g n k row ins outs) rows (λ k row _. has_case n k row ins outs)))
  keeps_cases n _ = inl tt

  joins_ports : (a b : Port) → Tells (JoinsPorts g a b)
  joins_ports a b =
      by_test (same_kind (slice_get (output_ports (op_at g a.node)) a.index) (slice_get (input_ports (op_at g b.node)) b.index))
      (λ e. let k = kind_same (slice_get (output_ports (op_at g a.node)) a.index) (slice_get (input_ports (op_at g b.node)) b.index) e in record { kind = k.0; output = k.1; input = k.2 })
      (λ J. ap₂ same_kind J.output J.input ∙ kind_refl J.kind)

  joins_nodes : (a b : ℕ) → Tells (JoinsNodes g a b)
  joins_nodes a b =
      as_tells (λ p. record { from_operation = p.0; to_operation = (p.1).0; no_output = ((p.1).1).0; no_input = ((p.1).1).1 }) (λ J. (J.from_operation, (J.to_operation, (J.no_output, J.no_input))))
      (and_tells (true_tells (is_operation (op_at g a))) (and_tells (true_tells (is_operation (op_at g b))) (and_tells (false_tells (is_output (op_at g a))) (false_tells (is_input (op_at g b))))))

  abbrev LinkJoins : ℕ → Link → Type 0
  LinkJoins n (Ports a b) = b.node ≡ n → JoinsPorts g a b
  LinkJoins n (Order a b) = b ≡ n → JoinsNodes g a b

  link_joins : (n : ℕ) (link : Link) → Tells (LinkJoins n link)
  link_joins n (Ports a b) = if_tells (cases_eq b.node n) (λ _. joins_ports a b)
  link_joins n (Order a b) = if_tells (cases_eq b n) (λ _. joins_nodes a b)

  links_join : (n : ℕ) → Tells (LinksJoin g n)
  links_join n =
      as_tells (λ h. record { ports = λ a b i. h (Ports a b) i; orders = λ a i. h (Order a n) i refl }) back
      (in_tells (LinkJoins n) g.links (link_joins n))
    where
      back : LinksJoin g n → (link : Link) → In link g.links → LinkJoins n link
      back L (Ports a b) i = L.ports a b i
      back L (Order a b) i = λ e. subst (λ x. JoinsNodes g a x) (sym e) (L.orders a (subst (λ x. In (Order a x) g.links) e i))

  abbrev LinkStays : ℕ → Link → Type 0
  LinkStays n (Ports a b) = b.node ≡ n → is_local (slice_get (input_ports (op_at g n)) b.index) ≡ true → parent_at g a.node ≡ parent_at g n
  LinkStays n (Order a b) = b ≡ n → parent_at g a ≡ parent_at g n

  link_stays : (n : ℕ) (link : Link) → Tells (LinkStays n link)
  link_stays n (Ports a b) = if_tells (cases_eq b.node n) (λ _. if_tells (true_tells (is_local (slice_get (input_ports (op_at g n)) b.index))) (λ _. cases_eq (parent_at g a.node) (parent_at g n)))
  link_stays n (Order a b) = if_tells (cases_eq b n) (λ _. cases_eq (parent_at g a) (parent_at g n))

  links_stay : (n : ℕ) → Tells (LinksStayInside g n)
  links_stay n =
      as_tells (λ h. record { ports = λ a b i. h (Ports a b) i; orders = λ a i. h (Order a n) i refl }) back
      (in_tells (LinkStays n) g.links (link_stays n))
    where
      back : LinksStayInside g n → (link : Link) → In link g.links → LinkStays n link
      back L (Ports a b) i = L.ports a b i
      back L (Order a b) i = λ e. L.orders a (subst (λ x. In (Order a x) g.links) e i)

  inputs_fed : (n : ℕ) → Tells (InputsAreFed g n)
  inputs_fed n = below_tells (λ p. links_into g.links (record { node = n; index = p }) ≡ 1) (length (ins_of (op_at g n))) (λ p _. cases_eq (links_into g.links (record { node = n; index = p })) 1)

  outputs_taken : (n : ℕ) → Tells (LinearOutputsAreTaken g n)
  outputs_taken n =
      get_tells (λ p type. is_linear type ≡ true → links_from g.links (record { node = n; index = p }) ≡ 1) (outs_of (op_at g n))
      (λ p type _. if_tells (true_tells (is_linear type)) (λ _. cases_eq (links_from g.links (record { node = n; index = p })) 1))

  -- ---- paths, by the nodes through which they may lead
  joins_true : (a b : ℕ) → Edge g a b → any (joins g a b) g.links ≡ true
  joins_true a b (along_value p q i l) = any_of g (joins g a b) g.links _ i (and_true (eqb a a) _ (eq-eqb a a refl) (and_true (eqb b b) _ (eq-eqb b b refl) (lt-ltb q (length (ins_of (op_at g b))) l)))
  joins_true a b (along_order i) = any_of g (joins g a b) g.links _ i (and_true (eqb a a) (eqb b b) (eq-eqb a a refl) (eq-eqb b b refl))

  edge_tells : (a b : ℕ) → Tells (Edge g a b)
  edge_tells a b = by_test (any (joins g a b) g.links) (λ e. let l = any_link g (joins g a b) g.links e in link_edge g a b l.0 l.1 l.2) (joins_true a b)

  abbrev Through : ℕ → ℕ → ℕ → Type 0
  Through zero a b = Edge g a b
  Through (suc k) a b = Through k a b ⊎ (Through k a k × Through k k b)

  through_tells : (k a b : ℕ) → Tells (Through k a b)
  through_tells zero a b = edge_tells a b
  through_tells (suc k) a b = or_tells (through_tells k a b) (and_tells (through_tells k a k) (through_tells k k b))

  is_path : (k a b : ℕ) → Through k a b → Path g a b
  is_path zero a b e = edge e
  is_path (suc k) a b (inl t) = is_path k a b t
  is_path (suc k) a b (inr t) = joined (is_path k a k t.0) (is_path k k b t.1)

  to_last : (k a : ℕ) → Through (suc k) a k → Through k a k
  to_last k a (inl t) = t
  to_last k a (inr t) = t.0

  from_last : (k b : ℕ) → Through (suc k) k b → Through k k b
  from_last k b (inl t) = t
  from_last k b (inr t) = t.1

  both_through : (k m : ℕ) → ((a b : ℕ) → Through k a m → Through k m b → Through k a b) → (a b : ℕ) → Through (suc k) a m → Through (suc k) m b → Through (suc k) a b
  both_through k m h a b (inl s) (inl t) = inl (h a b s t)
  both_through k m h a b (inl s) (inr t) = inr (h a k s t.0, t.1)
  both_through k m h a b (inr s) (inl t) = inr (s.0, h k b s.1 t)
  both_through k m h a b (inr s) (inr t) = inr (s.0, t.1)

  through_both : (k m : ℕ) → m < k → (a b : ℕ) → Through k a m → Through k m b → Through k a b
  through_both zero m l a b s t = absurd (omega arith)
  through_both (suc k) m l a b s t = go (cases_eq m k) (λ h. through_both k m h)
    where
      go : (m ≡ k) ⊎ (m ≡ k → ⊥) → (m < k → (x y : ℕ) → Through k x m → Through k m y → Through k x y) → Through (suc k) a b
      go (inl e) h = inr (to_last k a (subst (λ x. Through (suc k) a x) e s), from_last k b (subst (λ x. Through (suc k) x b) e t))
      go (inr ne) h = both_through k m (h (omega arith)) a b s t

  lifted : (k a b : ℕ) → Edge g a b → Through k a b
  lifted zero a b e = e
  lifted (suc k) a b e = inl (lifted k a b e)

  target_in : IsGraph g → (a b : ℕ) → Path g a b → b < length g.nodes
  target_in G a b (edge (along_value p q i l)) = (G.links (Ports (record { node = a; index = p }) (record { node = b; index = q })) i).1
  target_in G a b (edge (along_order i)) = (G.links (Order a b) i).1
  target_in G a b (joined {b = m} p q) = target_in G m b q

  through : IsGraph g → (a b : ℕ) → Path g a b → Through (length g.nodes) a b
  through G a b (edge e) = lifted (length g.nodes) a b e
  through G a b (joined {b = m} p q) = through_both (length g.nodes) m (target_in G a m p) a b (through G a m p) (through G m b q)

  no_cycle : IsGraph g → (n : ℕ) → Tells (Path g n n → ⊥)
  no_cycle G n = not_tells (as_tells (is_path (length g.nodes) n n) (through G n n) (through_tells (length g.nodes) n n))

  -- ---- static and control links
  has_successor : (n k : ℕ) (row others : Types) → Tells (HasSuccessor g n k row others)
  has_successor n k row others =
      as_tells (λ p. record { once = p.0; target = (p.1).0; is_target = (p.1).1; is_block = ((p.1).2).0; fits = ((p.1).2).1 }) (λ S. (S.once, (S.target, S.is_target, (S.is_block, S.fits))))
      (and_tells (cases_eq (links_from g.links (record { node = n; index = k })) 1)
      (option_tells (λ to. (is_block (op_at g to.node) ≡ true) × (block_ins (op_at g to.node) ≡ row ++ others)) (taker g.links (record { node = n; index = k }))
      (λ to. and_tells (true_tells (is_block (op_at g to.node))) (types_tells (block_ins (op_at g to.node)) (row ++ others)))))

  keeps_successors : (n : ℕ) (o : Op) → Tells (KeepsSuccessors g n o)
  keeps_successors n (DataflowBlock ins rows others) = get_tells (λ k row. HasSuccessor g n k row others) rows (λ k row _. has_successor n k row others)
  keeps_successors n _ = inl tt

  static_tells : (n : ℕ) → Tells (HasStatic g n)
  static_tells n =
      as_tells (λ p. record { once = p.0; source = (p.1).0; is_source = (p.1).1 }) (λ S. (S.once, (S.source, S.is_source, tt)))
      (and_tells (cases_eq (links_into g.links (static_input g n)) 1) (option_tells (λ from. Unit {0}) (feeder g.links (static_input g n)) (λ from. inl tt)))

  root_alone : parent_at g 0 ≡ 0 → (a n : ℕ) → n ≡ 0 → IsAncestor g a n → a ≡ 0
  root_alone r a n z (of_child e) = sym e ∙ (ap (parent_at g) z ∙ r)
  root_alone r a n z (of_further h) = root_alone r a (parent_at g n) (ap (parent_at g) z ∙ r) h

  either_way : (a n : ℕ) → IsAncestor g a n → (parent_at g n ≡ a) ⊎ IsAncestor g a (parent_at g n)
  either_way a n (of_child e) = inl e
  either_way a n (of_further h) = inr h

  module _ (places : (m : ℕ) → m < length g.nodes → HasPlace g m) (some : 0 < length g.nodes) where
    root : parent_at g 0 ≡ 0
    root = ((places 0 some).root refl).1

    ancestor_tells : (a steps n : ℕ) → n < length g.nodes → n < steps → Tells (IsAncestor g a n)
    ancestor_tells a zero n l s = absurd (omega arith)
    ancestor_tells a (suc steps) n l s = go (cases_eq (parent_at g n) a) (cases_eq n 0) (λ p q. ancestor_tells a steps (parent_at g n) p q)
      where
        further : (parent_at g n ≡ a → ⊥) → Tells (IsAncestor g a (parent_at g n)) → Tells (IsAncestor g a n)
        further ne (inl h) = inl (of_further h)
        further ne (inr f) = inr (λ h. split (either_way a n h))
          where
            split : (parent_at g n ≡ a) ⊎ IsAncestor g a (parent_at g n) → ⊥
            split (inl e) = ne e
            split (inr h) = f h

        go : (parent_at g n ≡ a) ⊎ (parent_at g n ≡ a → ⊥) → (n ≡ 0) ⊎ (n ≡ 0 → ⊥) → (parent_at g n < length g.nodes → parent_at g n < steps → Tells (IsAncestor g a (parent_at g n))) → Tells (IsAncestor g a n)
        go (inl e) z rest = inl (of_child e)
        go (inr ne) (inl z) rest = inr (λ h. ne (ap (parent_at g) z ∙ (root ∙ sym (root_alone root a n z h))))
        go (inr ne) (inr nz) rest = let less = ((places n l).others (omega arith)).1 in further ne (rest (omega arith) (omega arith))

    keeps_static : (n : ℕ) → n < length g.nodes → (o : Op) → Tells (KeepsStatic g n o)
    keeps_static n l (Call ins outs) = static_tells n
    keeps_static n l (LoadFunction ins outs) = static_tells n
    keeps_static n l LoadConstant =
        as_tells (λ p. record { static = record { once = p.0; source = (p.1).0; is_source = (p.1).1 }; seen = (p.1).2 }) (λ C. ((C.static).once, ((C.static).source, (C.static).is_source, C.seen)))
        (and_tells (cases_eq (links_into g.links (static_input g n)) 1)
        (option_tells (λ from. IsAncestor g (parent_at g from.node) n) (feeder g.links (static_input g n)) (λ from. ancestor_tells (parent_at g from.node) (suc n) n l (omega arith))))
    keeps_static n l _ = inl tt

  callee_tells : (n : ℕ) (ins outs : Types) → Tells (HasCallee g n ins outs)
  callee_tells n ins outs =
      as_tells (λ p. record { source = p.0; is_source = p.1; name = (p.2).0; is_function = (p.2).1 }) (λ C. (C.source, C.is_source, (C.name, C.is_function)))
      (option_tells (λ from. (name : List ℕ) × (op_at g from.node ≡ FuncDefn name ins outs)) (feeder g.links (static_input g n)) (λ from. function_tells (op_at g from.node) ins outs))

  keeps_callee : (n : ℕ) (o : Op) → Tells (KeepsCallee g n o)
  keeps_callee n (Call ins outs) = callee_tells n ins outs
  keeps_callee n (LoadFunction ins outs) = callee_tells n ins outs
  keeps_callee n _ = inl tt

  -- ---- names
  named_tells : (o : Option (List ℕ)) (name : List ℕ) → Tells (o ≡ Some name)
  named_tells None name = inr (λ e. cc)
  named_tells (Some other) name = by_test (bytes_eq other name) (λ e. ap Some ((bytes_eq-Decides other name).0 e)) (λ e. (bytes_eq-Decides other name).1 (is e))
    where
      is : Some other ≡ Some name → other ≡ name
      is e = cc

  keeps_name : (n : ℕ) (o : Op) → Tells (KeepsName g n o)
  keeps_name n (FuncDefn name ins outs) = below_tells (λ m. name_of (op_at g m) ≢ Some name) n (λ m _. not_tells (named_tells (name_of (op_at g m)) name))
  keeps_name n _ = inl tt

-- ---- tags
printable_true : (c : ℕ) → IsPrintable c → printable c ≡ true
printable_true c p = and_true (leb 32 c) (leb c 126) (le-leb 32 c p.0) (le-leb c 126 p.1)

all_true : (tag : List ℕ) → All IsPrintable tag → all_in printable tag ≡ true
all_true [] h = refl
all_true (c ∷ tag) h = and_true (printable c) (all_in printable tag) (printable_true c (h 0 0 (omega arith))) (all_true tag (λ k d l. h (suc k) d (omega arith)))

tag_tells : (tag : List ℕ) → Tells (IsTag tag)
tag_tells tag = by_test (tag_ok tag) (is_tag tag) (λ T. and_true (ltb 0 (length tag)) _ (lt-ltb 0 (length tag) T.some) (and_true (leb (length tag) 255) _ (le-leb (length tag) 255 T.few) (all_true tag T.printable)))

keeps_tags : (o : Op) → Tells (KeepsTags o)
keeps_tags (Tag rows tag) = and_tells (lt_tells 0 (length rows)) (lt_tells tag (length rows))
keeps_tags (Conditional rows ins outs) = lt_tells 0 (length rows)
keeps_tags (DataflowBlock ins rows others) = lt_tells 0 (length rows)
keeps_tags (Ext (ResultInt tag)) = tag_tells tag
keeps_tags (Ext (ResultBool tag)) = tag_tells tag
keeps_tags _ = inl tt

-- ---- rule by rule
module _ (g : Graph) (G : IsGraph g) where
  abbrev Hold : ℕ → Type 0
  Hold k = (other : Rule) → number_of other < k → (m : ℕ) → m < length g.nodes → Keeps g other m

  abbrev Broken : Type 0
  Broken = (rule : Rule) × (n : ℕ) × IsBroken g rule n

  keeps_tells : (rule : Rule) → Hold (number_of rule) → (n : ℕ) → n < length g.nodes → Tells (Keeps g rule n)
  keeps_tells Valid.Places h n l = place_tells g n
  keeps_tells Valid.Children h n l = suits_tells g n
  keeps_tells Valid.Boundaries h n l = if_tells (true_tells (is_dataflow_container (op_at g n))) (λ _. boundary_tells g n (children g n) refl)
  keeps_tells Valid.Blocks h n l = keeps_blocks g n (op_at g n)
  keeps_tells Valid.Cases h n l = keeps_cases g n (op_at g n)
  keeps_tells Valid.Links h n l = links_join g n
  keeps_tells Valid.Inputs h n l = inputs_fed g n
  keeps_tells Valid.LinearOutputs h n l = outputs_taken g n
  keeps_tells Valid.SameParent h n l = links_stay g n
  keeps_tells Valid.NoCycle h n l = no_cycle g G n
  keeps_tells Valid.Successors h n l = keeps_successors g n (op_at g n)
  keeps_tells Valid.StaticLinks h n l = keeps_static g (λ m k. h Valid.Places (omega arith) m k) G.some n l (op_at g n)
  keeps_tells Valid.Callees h n l = keeps_callee g n (op_at g n)
  keeps_tells Valid.Names h n l = keeps_name g n (op_at g n)
  keeps_tells Valid.VariantsAndTags h n l = keeps_tags (op_at g n)

  next_rule : (rule : Rule) → Hold (number_of rule) ⊎ Broken → Hold (suc (number_of rule)) ⊎ Broken
  next_rule rule (inr b) = inr b
  next_rule rule (inl h) = go (first_below (Keeps g rule) (length g.nodes) (keeps_tells rule h))
    where
      here : ((m : ℕ) → m < length g.nodes → Keeps g rule m) → (other : Rule) → number_of other < suc (number_of rule) → (number_of other ≡ number_of rule) ⊎ (number_of other ≡ number_of rule → ⊥) → (m : ℕ) → m < length g.nodes → Keeps g other m
      here k other l (inl e) m i = subst (λ r. Keeps g r m) (sym (same_rule other rule e)) (k m i)
      here k other l (inr ne) m i = h other (omega arith) m i

      go : ((m : ℕ) → m < length g.nodes → Keeps g rule m) ⊎ First (Keeps g rule) (length g.nodes) → Hold (suc (number_of rule)) ⊎ Broken
      go (inl k) = inl (λ other l m i. here k other l (cases_eq (number_of other) (number_of rule)) m i)
      go (inr f) = inr (rule, f.0, record { earlier_rules = h; earlier_nodes = f.3; is_node = f.1; broken = f.2 })

  number_positive : (rule : Rule) → number_of rule < 1 → ⊥
  number_positive Valid.Places l = absurd (omega arith)
  number_positive Valid.Children l = absurd (omega arith)
  number_positive Valid.Boundaries l = absurd (omega arith)
  number_positive Valid.Blocks l = absurd (omega arith)
  number_positive Valid.Cases l = absurd (omega arith)
  number_positive Valid.Links l = absurd (omega arith)
  number_positive Valid.Inputs l = absurd (omega arith)
  number_positive Valid.LinearOutputs l = absurd (omega arith)
  number_positive Valid.SameParent l = absurd (omega arith)
  number_positive Valid.NoCycle l = absurd (omega arith)
  number_positive Valid.Successors l = absurd (omega arith)
  number_positive Valid.StaticLinks l = absurd (omega arith)
  number_positive Valid.Callees l = absurd (omega arith)
  number_positive Valid.Names l = absurd (omega arith)
  number_positive Valid.VariantsAndTags l = absurd (omega arith)

  number_few : (rule : Rule) → number_of rule < 16
  number_few Valid.Places = omega arith
  number_few Valid.Children = omega arith
  number_few Valid.Boundaries = omega arith
  number_few Valid.Blocks = omega arith
  number_few Valid.Cases = omega arith
  number_few Valid.Links = omega arith
  number_few Valid.Inputs = omega arith
  number_few Valid.LinearOutputs = omega arith
  number_few Valid.SameParent = omega arith
  number_few Valid.NoCycle = omega arith
  number_few Valid.Successors = omega arith
  number_few Valid.StaticLinks = omega arith
  number_few Valid.Callees = omega arith
  number_few Valid.Names = omega arith
  number_few Valid.VariantsAndTags = omega arith

  all_rules : Hold 16 ⊎ Broken
  all_rules =
      next_rule Valid.VariantsAndTags (next_rule Valid.Names (next_rule Valid.Callees (next_rule Valid.StaticLinks (next_rule Valid.Successors
      (next_rule Valid.NoCycle (next_rule Valid.SameParent (next_rule Valid.LinearOutputs (next_rule Valid.Inputs (next_rule Valid.Links
      (next_rule Valid.Cases (next_rule Valid.Blocks (next_rule Valid.Boundaries (next_rule Valid.Children (next_rule Valid.Places (inl (λ other l. absurd (number_positive other l)))))))))))))))))

  pub valid_or_broken : IsValid g ⊎ Broken
  valid_or_broken = go all_rules
    where
      go : Hold 16 ⊎ Broken → IsValid g ⊎ Broken
      go (inl h) = inl (record { graph = G; keeps = λ rule n l. h rule (number_few rule) n l })
      go (inr b) = inr b

pub valid_or_broken_lem : ValidOrBroken
valid_or_broken_lem g G = valid_or_broken g G
