-- What is read is a graph that is written and read back: there is a node, parents and links name nodes, numbers have 64
-- bits, names are UTF-8, and each type has a text.
use Rattle.std.proofs.Common.{◌≡◌, ℕ, zero, suc, ◌<◌, ◌^◌, Bool, true, false, cond, List, [], ◌∷◌, length, slice_get, inl, inr, Option, Some, None, Result, Ok, Err, IsUtf8, refl, sym, ap, subst, arith, ltb-true}
use Rattle.std.specs.Prelude.{codes, ◌==◌, nat_lt, bytes_eq}
use Rattle.std.specs.List.{All, AllByRecursion}
use Rattle.std.specs.Str.{is_utf8}
use Rattle.std.proofs.lemmas.List.Elements.{All-nil, All-cons}
use Rattle.std.proofs.lemmas.Str.{IsUtf8-from_is_utf8}
use Rattle.serde_json.specs.Data.{Data, null, boolean, number, string, array, object, Items, no_items, item}
use Rattle.serde_json.specs.Find.{get, as_str, as_array, as_number, as_i64}
use Rattle.serde_json.specs.Read.{read}
use Rattle.gp_base.specs.Membership.{In}
use Rattle.hg_ops.specs.Op.{Types, Op, Module, FuncDefn, Const, Input, Output, Dfg, Cfg, DataflowBlock, ExitBlock, Conditional, Case, TailLoop, Tag, Call, CallIndirect, LoadConstant, LoadFunction, Ext, ResultInt, ResultBool, Unpack}
use Rattle.hg_ops.specs.declared.ext_op.ExtOp.{ExtOp}
use Rattle.hg_ops.specs.declared.ext_op.ExtOp.TheVariants as ext
use Rattle.hg_graph.specs.Graph.{parent_of, parent_at, Node, Link, Ports, Order, Graph, IsGraph, LinkIsWithin}
use Rattle.hg_json.specs.declared.profile.Profile.{Profile}
use Rattle.hg_json.specs.ExtNames.{ext_op_named}
use Rattle.hg_json.specs.GraphText.{json}
use Rattle.hg_json.specs.InHand.{IsSigned, HasBounds, IsWithin, HasPorts, IsInHand, IsSpelled, RowIsSpelled, RowsAreSpelled, HasSpelledTypes, AreSpelled}
use Rattle.hg_json.specs.Steps.{◌>>=◌, when}
use Rattle.hg_json.specs.TypeText.{has_functions, type_of}
use Rattle.hg_json.specs.Reading.{Refusal, NotJson, Top, Version, BadNode, BadLink, or_refuse, after, natural_of, text_at, natural_at, items_at, integer_at, all_of, type_in, row_in, rows_in, row_at, rows_at, func_defn, input, output, dfg, cfg, dataflow_block, exit_block, conditional, case_of, tail_loop, tag, call, call_indirect, load_function, unpack, constant, result_int, result_bool, extension_op, extension_named, plain_named, op_named, node_of, profile_named, pair_in, two, End, AtPort, AtNode, end_at, end_of, joined, link_of, each, count, linked, entries_of, versioned, graph_in, value_of, graph_of}
use Rattle.hg_json.proofs.Back.{graph_back}
use Rattle.hg_json.proofs.Yields.{Yields, Reads, Each, yields_any, yields_from, yields_when, yields_if, reads_any, reads_from, reads_both}
use Rattle.hg_json.proofs.ReadTypes.{type_is_spelled}
use Rattle.hg_json.proofs.ReadValues.{IsSound, AreSound, IsNatural, read_sound, get_sound, str_utf8, natural_few, integer_signed}

-- ---- keys

text_read : (key : List ℕ) (d : Data) → IsSound d → Yields IsUtf8 (text_at key d)
text_read key d s = yields_from IsSound IsUtf8 (get key d) as_str str_utf8 (get_sound key d s)

natural_read : (key : List ℕ) (d : Data) → IsSound d → Yields IsNatural (natural_at key d)
natural_read key d s = yields_from IsSound IsNatural (get key d) natural_of natural_few (get_sound key d s)

integer_read : (key : List ℕ) (d : Data) → IsSound d → Yields IsSigned (integer_at key d)
integer_read key d s = yields_from IsSound IsSigned (get key d) (λ value. as_number value >>= as_i64) integer_signed (get_sound key d s)

array_sound : (d : Data) → IsSound d → Yields AreSound (as_array d)
array_sound null h = tt
array_sound (boolean b) h = tt
array_sound (number n) h = tt
array_sound (string s) h = tt
array_sound (array ds) h = h
array_sound (object ms) h = tt

items_read : (key : List ℕ) (d : Data) → IsSound d → Yields AreSound (items_at key d)
items_read key d s = yields_from IsSound AreSound (get key d) as_array array_sound (get_sound key d s)

-- ---- lists of types

all_read : {A : Type 0} (P : A → Type 0) (f : Data → Option A) → ((d : Data) → Yields P (f d)) → (ds : Items) → Yields (AllByRecursion P) (all_of f ds)
unfolding all_of
all_read P f h no_items = tt
all_read P f h (item d ds) =
    yields_from P (AllByRecursion P) (f d) (λ x. all_of f ds >>= λ xs. Some (x ∷ xs))
    (λ x p. yields_from (AllByRecursion P) (AllByRecursion P) (all_of f ds) (λ xs. Some (x ∷ xs)) (λ xs q. (p, q)) (all_read P f h ds)) (h d)

type_spelled : (version : Profile) (d : Data) → Yields IsSpelled (type_in version d)
unfolding type_in
type_spelled version d = yields_any IsSpelled (as_str d) (type_of version) (type_is_spelled version)

row_spelled : (version : Profile) (d : Data) → Yields RowIsSpelled (row_in version d)
unfolding row_in
row_spelled version d = yields_any RowIsSpelled (as_array d) (all_of (type_in version)) (all_read IsSpelled (type_in version) (type_spelled version))

rows_spelled : (version : Profile) (d : Data) → Yields RowsAreSpelled (rows_in version d)
unfolding rows_in
rows_spelled version d = yields_any RowsAreSpelled (as_array d) (all_of (row_in version)) (all_read RowIsSpelled (row_in version) (row_spelled version))

row_read : (version : Profile) (key : List ℕ) (d : Data) → Yields RowIsSpelled (row_at version key d)
unfolding row_at
row_read version key d = yields_any RowIsSpelled (get key d) (row_in version) (row_spelled version)

rows_read : (version : Profile) (key : List ℕ) (d : Data) → Yields RowsAreSpelled (rows_at version key d)
unfolding rows_at
rows_read version key d = yields_any RowsAreSpelled (get key d) (rows_in version) (rows_spelled version)

-- ---- ops

-- names are UTF-8, numbers have 64 bits, and each type has a text
abbrev OpIsRead : Op → Type 0
OpIsRead op = HasBounds op × HasSpelledTypes op

module _ (version : Profile) (d : Data) where
  -- ops with one list of types, with two and with three
  one_row : (key : List ℕ) (make : Types → Op) → ((a : Types) → RowIsSpelled a → OpIsRead (make a)) → Yields OpIsRead (row_at version key d >>= λ a. Some (make a))
  one_row key make h = yields_from RowIsSpelled OpIsRead (row_at version key d) (λ a. Some (make a)) h (row_read version key d)

  two_rows : (key then : List ℕ) (make : Types → Types → Op) → ((a b : Types) → RowIsSpelled a → RowIsSpelled b → OpIsRead (make a b))
      → Yields OpIsRead (row_at version key d >>= λ a. row_at version then d >>= λ b. Some (make a b))
  two_rows key then make h =
      yields_from RowIsSpelled OpIsRead (row_at version key d) (λ a. row_at version then d >>= λ b. Some (make a b))
      (λ a p. one_row then (make a) (λ b q. h a b p q)) (row_read version key d)

  three_rows : (key then last : List ℕ) (make : Types → Types → Types → Op) → ((a b c : Types) → RowIsSpelled a → RowIsSpelled b → RowIsSpelled c → OpIsRead (make a b c))
      → Yields OpIsRead (row_at version key d >>= λ a. row_at version then d >>= λ b. row_at version last d >>= λ c. Some (make a b c))
  three_rows key then last make h =
      yields_from RowIsSpelled OpIsRead (row_at version key d) (λ a. row_at version then d >>= λ b. row_at version last d >>= λ c. Some (make a b c))
      (λ a p. two_rows then last (make a) (λ b c q r. h a b c p q r)) (row_read version key d)

  module _ (s : IsSound d) where
    function_read : Yields OpIsRead (func_defn version d)
    unfolding func_defn
    function_read =
        yields_from IsUtf8 OpIsRead (text_at (codes "name") d) (λ name. row_at version (codes "ins") d >>= λ ins. row_at version (codes "outs") d >>= λ outs. Some (FuncDefn name ins outs))
        (λ name u. two_rows (codes "ins") (codes "outs") (FuncDefn name) (λ a b p q. (u, (p, q)))) (text_read (codes "name") d s)

    constant_read : Yields OpIsRead (constant d)
    unfolding constant
    constant_read = yields_from IsSigned OpIsRead (integer_at (codes "value") d) (λ value. Some (Const value)) (λ value h. (h, tt)) (integer_read (codes "value") d s)

    result_int_read : Yields OpIsRead (result_int d)
    unfolding result_int
    result_int_read = yields_from IsUtf8 OpIsRead (text_at (codes "tag") d) (λ text. Some (Ext (ResultInt text))) (λ text u. (u, tt)) (text_read (codes "tag") d s)

    result_bool_read : Yields OpIsRead (result_bool d)
    unfolding result_bool
    result_bool_read = yields_from IsUtf8 OpIsRead (text_at (codes "tag") d) (λ text. Some (Ext (ResultBool text))) (λ text u. (u, tt)) (text_read (codes "tag") d s)

    tag_read : Yields OpIsRead (tag version d)
    unfolding tag
    tag_read =
        yields_from RowsAreSpelled OpIsRead (rows_at version (codes "rows") d) (λ rows. natural_at (codes "tag") d >>= λ n. Some (Tag rows n))
        (λ rows p. yields_from IsNatural OpIsRead (natural_at (codes "tag") d) (λ n. Some (Tag rows n)) (λ n few. (few, p)) (natural_read (codes "tag") d s))
        (rows_read version (codes "rows") d)

    block_read : Yields OpIsRead (dataflow_block version d)
    unfolding dataflow_block
    block_read =
        yields_from RowIsSpelled OpIsRead (row_at version (codes "ins") d) (λ ins. rows_at version (codes "rows") d >>= λ rows. row_at version (codes "others") d >>= λ others. Some (DataflowBlock ins rows others))
        (λ ins p. yields_from RowsAreSpelled OpIsRead (rows_at version (codes "rows") d) (λ rows. row_at version (codes "others") d >>= λ others. Some (DataflowBlock ins rows others))
        (λ rows q. one_row (codes "others") (DataflowBlock ins rows) (λ others r. (tt, (p, q, r))))
        (rows_read version (codes "rows") d))
        (row_read version (codes "ins") d)

    conditional_read : Yields OpIsRead (conditional version d)
    unfolding conditional
    conditional_read =
        yields_from RowsAreSpelled OpIsRead (rows_at version (codes "rows") d) (λ rows. row_at version (codes "ins") d >>= λ ins. row_at version (codes "outs") d >>= λ outs. Some (Conditional rows ins outs))
        (λ rows p. two_rows (codes "ins") (codes "outs") (Conditional rows) (λ ins outs q r. (tt, (p, q, r))))
        (rows_read version (codes "rows") d)

    extension_read : (op : ExtOp) → Yields OpIsRead (extension_op version op d)
    unfolding extension_op unpack
    extension_read ext.ResultInt = result_int_read
    extension_read ext.ResultBool = result_bool_read
    extension_read ext.Unpack = one_row (codes "types") (λ types. Ext (Unpack types)) (λ types p. (tt, p))
    extension_read op = (tt, tt)

    plain_read : (name : List ℕ) → Yields OpIsRead (plain_named version name d)
    unfolding plain_named extension_named input output call call_indirect load_function
    plain_read name =
        yields_if OpIsRead (bytes_eq name (codes "Input")) (input version d) _ (λ e. one_row (codes "types") Input (λ types p. (tt, p)))
        (λ e. yields_if OpIsRead (bytes_eq name (codes "Output")) (output version d) _ (λ e. one_row (codes "types") Output (λ types p. (tt, p)))
        (λ e. yields_if OpIsRead (bytes_eq name (codes "Tag")) (tag version d) _ (λ e. tag_read)
        (λ e. yields_if OpIsRead (bytes_eq name (codes "Call")) (call version d) _ (λ e. two_rows (codes "ins") (codes "outs") Call (λ a b p q. (tt, (p, q))))
        (λ e. yields_if OpIsRead (bytes_eq name (codes "CallIndirect")) (call_indirect version d) _
        (λ e. yields_when OpIsRead (has_functions version) _ (λ f. two_rows (codes "ins") (codes "outs") CallIndirect (λ a b p q. (tt, (p, q)))))
        (λ e. yields_if OpIsRead (bytes_eq name (codes "LoadConstant")) (Some LoadConstant) _ (λ e. (tt, tt))
        (λ e. yields_if OpIsRead (bytes_eq name (codes "LoadFunction")) (load_function version d) _
        (λ e. yields_when OpIsRead (has_functions version) _ (λ f. two_rows (codes "ins") (codes "outs") LoadFunction (λ a b p q. (tt, (p, q)))))
        (λ e. yields_any OpIsRead (ext_op_named name) (λ op. extension_op version op d) extension_read)))))))

    op_read : (name : List ℕ) → Yields OpIsRead (op_named version name d)
    unfolding op_named dfg cfg exit_block case_of tail_loop
    op_read name =
        yields_if OpIsRead (bytes_eq name (codes "Module")) (Some Module) _ (λ e. (tt, tt))
        (λ e. yields_if OpIsRead (bytes_eq name (codes "FuncDefn")) (func_defn version d) _ (λ e. function_read)
        (λ e. yields_if OpIsRead (bytes_eq name (codes "Const")) (constant d) _ (λ e. constant_read)
        (λ e. yields_if OpIsRead (bytes_eq name (codes "DFG")) (dfg version d) _ (λ e. two_rows (codes "ins") (codes "outs") Dfg (λ a b p q. (tt, (p, q))))
        (λ e. yields_if OpIsRead (bytes_eq name (codes "CFG")) (cfg version d) _ (λ e. two_rows (codes "ins") (codes "outs") Cfg (λ a b p q. (tt, (p, q))))
        (λ e. yields_if OpIsRead (bytes_eq name (codes "DataflowBlock")) (dataflow_block version d) _ (λ e. block_read)
        (λ e. yields_if OpIsRead (bytes_eq name (codes "ExitBlock")) (exit_block version d) _ (λ e. one_row (codes "types") ExitBlock (λ types p. (tt, p)))
        (λ e. yields_if OpIsRead (bytes_eq name (codes "Conditional")) (conditional version d) _ (λ e. conditional_read)
        (λ e. yields_if OpIsRead (bytes_eq name (codes "Case")) (case_of version d) _ (λ e. two_rows (codes "ins") (codes "outs") Case (λ a b p q. (tt, (p, q))))
        (λ e. yields_if OpIsRead (bytes_eq name (codes "TailLoop")) (tail_loop version d) (plain_named version name d)
        (λ e. three_rows (codes "again") (codes "leave") (codes "rest") TailLoop (λ a b c p q r. (tt, (p, q, r)))) (λ e. plain_read name))))))))))

-- ---- nodes

abbrev NodeIsRead : ℕ → Node → Type 0
NodeIsRead total node = (node.parent < total) × OpIsRead node.op

node_read : (version : Profile) (total : ℕ) (d : Data) → IsSound d → Yields (NodeIsRead total) (node_of version total d)
unfolding node_of
node_read version total d s =
    let made : ℕ → Op → Node = λ parent op. record { op = op; parent = parent } in
    let last : List ℕ → ℕ → Option Node = λ name parent. when (nat_lt parent total) (op_named version name d >>= λ op. Some (made parent op)) in
    yields_any (NodeIsRead total) (text_at (codes "op") d) (λ name. natural_at (codes "parent") d >>= λ parent. last name parent)
    (λ name. yields_any (NodeIsRead total) (natural_at (codes "parent") d) (last name)
    (λ parent. yields_when (NodeIsRead total) (nat_lt parent total) (op_named version name d >>= λ op. Some (made parent op))
    (λ e. yields_from OpIsRead (NodeIsRead total) (op_named version name d) (λ op. Some (made parent op)) (λ op h. (ltb-true parent total e, h)) (op_read version d s name))))

-- ---- links

-- a node of the graph, and a port number of 64 bits
abbrev EndIsRead : ℕ → End → Type 0
EndIsRead total (AtPort port) = (port.node < total) × (port.index < 2 ^ 64)
EndIsRead total (AtNode node) = node < total

abbrev LinkIsRead : ℕ → Link → Type 0
LinkIsRead total link = IsWithin total link × HasPorts link

abbrev PairIsSound : Data × Data → Type 0
PairIsSound pair = IsSound pair.0 × IsSound pair.1

two_sound : (ds : Items) → AreSound ds → Yields PairIsSound (two ds)
two_sound no_items h = tt
two_sound (item a no_items) h = tt
two_sound (item a (item b no_items)) h = (h.0, h.1.0)
two_sound (item a (item b (item c ds))) h = tt

pair_sound : (d : Data) → IsSound d → Yields PairIsSound (pair_in d)
pair_sound d s = yields_from AreSound PairIsSound (as_array d) two two_sound (array_sound d s)

port_read : (total node : ℕ) (d : Data) → IsSound d → node < total → Yields (EndIsRead total) (natural_of d >>= λ index. Some (AtPort (record { node = node; index = index })))
port_read total node d s l = yields_from IsNatural (EndIsRead total) (natural_of d) (λ index. Some (AtPort (record { node = node; index = index }))) (λ index few. (l, few)) (natural_few d s)

end_read : (total : ℕ) (d : Data) → IsSound d → Yields (EndIsRead total) (end_of total d)
unfolding end_of
end_read total d s =
    let at : Data × Data → ℕ → Option End = λ pair node. when (nat_lt node total) (end_at node pair.1) in
    yields_from PairIsSound (EndIsRead total) (pair_in d) (λ pair. natural_of pair.0 >>= λ node. at pair node)
    (λ pair h. yields_any (EndIsRead total) (natural_of pair.0) (at pair)
    (λ node. yields_when (EndIsRead total) (nat_lt node total) (end_at node pair.1) (λ e. at_read node pair.1 h.1 (ltb-true node total e))))
    (pair_sound d s)
  where
    at_read : (node : ℕ) (x : Data) → IsSound x → node < total → Yields (EndIsRead total) (end_at node x)
    at_read node null h l = l
    at_read node x h l = port_read total node x h l

joined_read : (total : ℕ) (a b : End) → EndIsRead total a → EndIsRead total b → Yields (LinkIsRead total) (joined a b)
joined_read total (AtPort from) (AtPort to) l m = ((l.0, m.0), (l.1, m.1))
joined_read total (AtNode before) (AtNode after) l m = ((l, m), tt)
joined_read total (AtPort from) (AtNode after) l m = tt
joined_read total (AtNode before) (AtPort to) l m = tt

link_read : (total : ℕ) (d : Data) → IsSound d → Yields (LinkIsRead total) (link_of total d)
unfolding link_of
link_read total d s =
    yields_from PairIsSound (LinkIsRead total) (pair_in d) (λ pair. end_of total pair.0 >>= λ from. end_of total pair.1 >>= λ to. joined from to)
    (λ pair h. yields_from (EndIsRead total) (LinkIsRead total) (end_of total pair.0) (λ from. end_of total pair.1 >>= λ to. joined from to)
    (λ from l. yields_from (EndIsRead total) (LinkIsRead total) (end_of total pair.1) (joined from) (λ to m. joined_read total from to l m) (end_read total pair.1 h.1))
    (end_read total pair.0 h.0))
    (pair_sound d s)

-- ---- lists of entries

both_read : {A : Type 0} (P : A → Type 0) (why : Refusal) (o : Option A) (rest : Result (List A) Refusal) → Yields P o → Reads (Each P) rest → Reads (Each P) (after (or_refuse why o) (λ x. after rest (λ xs. Ok (x ∷ xs))))
both_read P why None rest p q = tt
both_read P why (Some x) (Err e) p q = tt
both_read P why (Some x) (Ok xs) p q = (p, q)

each_read : {A : Type 0} (P : A → Type 0) (f : Data → Option A) (refusal : ℕ → Refusal) → ((d : Data) → IsSound d → Yields P (f d)) → (k : ℕ) (ds : Items) → AreSound ds → Reads (Each P) (each f refusal k ds)
unfolding each
each_read P f refusal h k no_items s = tt
each_read P f refusal h k (item d ds) s = both_read P (refusal k) (f d) (each f refusal (suc k) ds) (h d s.0) (each_read P f refusal h (suc k) ds s.1)

-- as many entries as there are items
abbrev AreAsMany : {A : Type 0} → Items → List A → Type 0
AreAsMany ds xs = length xs ≡ count ds

both_many : {A : Type 0} (why : Refusal) (o : Option A) (rest : Result (List A) Refusal) (d : Data) (ds : Items) → Reads (AreAsMany {A = A} ds) rest → Reads (AreAsMany {A = A} (item d ds)) (after (or_refuse why o) (λ x. after rest (λ xs. Ok (x ∷ xs))))
both_many why None rest d ds p = tt
both_many why (Some x) (Err e) d ds p = tt
both_many why (Some x) (Ok xs) d ds p = ap suc p

as_many : {A : Type 0} (f : Data → Option A) (refusal : ℕ → Refusal) (k : ℕ) (ds : Items) → Reads (AreAsMany {A = A} ds) (each f refusal k ds)
unfolding each
as_many f refusal k no_items = refl
as_many f refusal k (item d ds) = both_many (refusal k) (f d) (each f refusal (suc k) ds) d ds (as_many f refusal (suc k) ds)

-- ---- the whole

record IsRead (g : Graph) : Type 0 where
  some : 0 < length g.nodes
  nodes_read : Each (NodeIsRead (length g.nodes)) g.nodes
  links_read : Each (LinkIsRead (length g.nodes)) g.links

linked_read : (nodes : List Node) (edges : Items) → AreSound edges → 0 < length nodes → Each (NodeIsRead (length nodes)) nodes → Reads IsRead (linked nodes edges)
unfolding linked
linked_read nodes edges s some h =
    let total = length nodes in
    reads_from (Each (LinkIsRead total)) IsRead (each (link_of total) BadLink 0 edges) (λ links. Ok (record { nodes = nodes; links = links }))
    (λ links k. record { some = some; nodes_read = h; links_read = k }) (each_read (LinkIsRead total) (link_of total) BadLink (link_read total) 0 edges s)

entries_read : (version : Profile) (nodes edges : Items) → AreSound nodes → AreSound edges → (count nodes ≡ 0 → ⊥) → Reads IsRead (entries_of version nodes edges)
unfolding entries_of
entries_read version nodes edges s t some =
    let total = count nodes in
    let Found : List Node → Type 0 = λ found. Each (NodeIsRead total) found × AreAsMany nodes found in
    reads_from Found IsRead (each (node_of version total) BadNode 0 nodes) (λ found. linked found edges)
    (λ found h. linked_read found edges t (rw h.1 (not_zero total some)) (rw h.1 h.0))
    (reads_both (Each (NodeIsRead total)) (AreAsMany nodes) (each (node_of version total) BadNode 0 nodes)
    (each_read (NodeIsRead total) (node_of version total) BadNode (node_read version total) 0 nodes s) (as_many (node_of version total) BadNode 0 nodes))
  where
    not_zero : (n : ℕ) → (n ≡ 0 → ⊥) → 0 < n
    not_zero zero h = absurd (h refl)
    not_zero (suc n) h = omega arith

unless : (none : Bool) (r : Result Graph Refusal) → (none ≡ false → Reads IsRead r) → Reads IsRead (cond none (Err Top) r)
unless true r h = tt
unless false r h = h refl

versioned_read : (name : List ℕ) (nodes edges : Items) → AreSound nodes → AreSound edges → Reads IsRead (versioned name nodes edges)
unfolding versioned
versioned_read name nodes edges s t =
    unless (count nodes == 0) (after (or_refuse Version (profile_named name)) (λ version. entries_of version nodes edges))
    (λ e. reads_any IsRead (or_refuse Version (profile_named name)) (λ version. entries_of version nodes edges) (λ version. entries_read version nodes edges s t (λ z. none (count nodes) z e)))
  where
    none : (n : ℕ) → n ≡ 0 → (n == 0) ≡ false → ⊥
    none n z e = absurd (let f : (0 == 0) ≡ false = rw z at e in cc)

reads_found : {A : Type 0} (P : A → Type 0) (why : Refusal) (o : Option A) → Yields P o → Reads P (or_refuse why o)
reads_found P why None h = tt
reads_found P why (Some x) h = h

graph_in_read : (d : Data) → IsSound d → Reads IsRead (graph_in d)
unfolding graph_in
graph_in_read d s =
    let edged : List ℕ → Items → Result Graph Refusal = λ version nodes. after (or_refuse Top (items_at (codes "edges") d)) (versioned version nodes) in
    let noded : List ℕ → Result Graph Refusal = λ version. after (or_refuse Top (items_at (codes "nodes") d)) (edged version) in
    reads_any IsRead (or_refuse Top (text_at (codes "version") d)) noded
    (λ version. reads_from AreSound IsRead (or_refuse Top (items_at (codes "nodes") d)) (edged version)
    (λ nodes h. reads_from AreSound IsRead (or_refuse Top (items_at (codes "edges") d)) (versioned version nodes) (λ edges k. versioned_read version nodes edges h k)
    (reads_found AreSound Top (items_at (codes "edges") d) (items_read (codes "edges") d s)))
    (reads_found AreSound Top (items_at (codes "nodes") d) (items_read (codes "nodes") d s)))

value_read : (bytes : List ℕ) → Reads IsSound (value_of bytes)
unfolding value_of
value_read bytes = reads_found IsSound NotJson (when (is_utf8 bytes) (read bytes)) (yields_when IsSound (is_utf8 bytes) (read bytes) (λ e. read_sound bytes (IsUtf8-from_is_utf8 bytes e)))

text_is_read : (bytes : List ℕ) → Reads IsRead (graph_of bytes)
unfolding graph_of
text_is_read bytes = reads_from IsSound IsRead (value_of bytes) graph_in graph_in_read (value_read bytes)

is_read : (bytes : List ℕ) (g : Graph) → graph_of bytes ≡ Ok g → IsRead g
is_read bytes g e = subst (Reads IsRead) e (text_is_read bytes)

-- ---- what was read is a graph

each_in : {A : Type 0} (P : A → Type 0) (xs : List A) (x : A) → Each P xs → In x xs → P x
each_in P [] x h i = absurd i
each_in P (y ∷ ys) x h (inl e) = subst P (sym e) h.0
each_in P (y ∷ ys) x h (inr i) = each_in P ys x h.1 i

parent_within : (total : ℕ) (nodes : List Node) (n : ℕ) → Each (NodeIsRead total) nodes → n < length nodes → parent_of (slice_get nodes n) < total
parent_within total [] n h l = absurd (omega arith)
parent_within total (node ∷ nodes) zero h l = h.0.0
parent_within total (node ∷ nodes) (suc n) h l = parent_within total nodes n h.1 (omega arith)

link_within : (total : ℕ) (link : Link) → LinkIsRead total link → LinkIsWithin total link
link_within total (Ports from to) h = h.0
link_within total (Order before after) h = h.0

pub read_is_graph : (bytes : List ℕ) (g : Graph) → graph_of bytes ≡ Ok g → IsGraph g
unfolding parent_at
read_is_graph bytes g e =
    let r = is_read bytes g e in
    record {
      some = r.some;
      parents = λ n l. parent_within (length g.nodes) g.nodes n r.nodes_read l;
      links = λ link i. link_within (length g.nodes) link (each_in (LinkIsRead (length g.nodes)) g.links link r.links_read i);
    }

-- ---- and it is read back from what is written for it

every : {A : Type 0} (P Q : A → Type 0) → ((x : A) → P x → Q x) → (xs : List A) → Each P xs → All Q xs
every P Q h [] k = All-nil Q
every P Q h (x ∷ xs) k = All-cons Q x xs (h x k.0) (every P Q h xs k.1)

pub read_graphs_are_spelled : (bytes : List ℕ) (g : Graph) → graph_of bytes ≡ Ok g → length g.nodes < 2 ^ 64 → IsInHand g × AreSpelled g
read_graphs_are_spelled bytes g e few =
    let r = is_read bytes g e in
    let total = length g.nodes in (
      record {
        some = r.some;
        few = few;
        parents_in = every (NodeIsRead total) (λ node. node.parent < total) (λ node h. h.0) g.nodes r.nodes_read;
        bounds = every (NodeIsRead total) (λ node. HasBounds node.op) (λ node h. h.1.0) g.nodes r.nodes_read;
        ends_in = every (LinkIsRead total) (IsWithin total) (λ link h. h.0) g.links r.links_read;
        ports = every (LinkIsRead total) HasPorts (λ link h. h.1) g.links r.links_read;
      },
      every (NodeIsRead total) (λ node. HasSpelledTypes node.op) (λ node h. h.1.1) g.nodes r.nodes_read,
    )

pub texts_are_written_anew : (bytes : List ℕ) (g : Graph) → graph_of bytes ≡ Ok g → length g.nodes < 2 ^ 64 → graph_of (json g) ≡ Ok g
texts_are_written_anew bytes g e few = let h = read_graphs_are_spelled bytes g e few in graph_back g h.0 h.1
