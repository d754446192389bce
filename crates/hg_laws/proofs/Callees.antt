-- What an indirect call finds.
use Rattle.std.proofs.Common.{◌≡◌, ℕ, suc, ◌+◌, Bool, true, false, cond, List, [], ◌∷◌, Option, Some, None, refl, sym, ap, ap₂, ◌∙◌, arith}
use Rattle.std.specs.Prelude.{slice_get}
use Rattle.std.specs.Str.{bytes_eq}
use Rattle.std.proofs.lemmas.Slice.Eq.{bytes_eq-Decides}
use Rattle.hg_ops.specs.GraphType.{function_type}
use Rattle.hg_ops.specs.Op.{Op, Types, FuncDefn}
use Rattle.hg_ops.specs.SameType.{same_types}
use Rattle.hg_graph.specs.Graph.{Node, Graph, op_of, op_at}
use Rattle.hg_graph.specs.Valid.{name_of}
use Rattle.hg_graph.specs.Value.{Function, HasType, Signature, place_by, place_among, function_named, functions, is_signature, callee}
use Rattle.hg_laws.specs.Laws.{CalleesAreTyped}
use Rattle.hg_laws.proofs.Named.{names_function, function_typed}
use Rattle.hg_laws.proofs.Tests.{both, types_same}

some_same : {A : Type 0} (a b : A) → Some a ≡ Some b → a ≡ b
some_same a b e = cc

-- the node that is found for a name has it
record IsNamedAt (nodes : List Node) (first place : ℕ) (name : List ℕ) : Type 0 where
  index : ℕ
  is_place : place ≡ first + index
  has_name : name_of (op_of (slice_get nodes index)) ≡ Some name

found_here : (node : Node) (nodes : List Node) (k p : ℕ) (name : List ℕ) (o : Op) → node.op ≡ o → place_by name k o (place_among nodes (suc k) name) ≡ Some p
    → (place_among nodes (suc k) name ≡ Some p → IsNamedAt nodes (suc k) p name) → IsNamedAt (node ∷ nodes) k p name
found_here node nodes k p name (FuncDefn other i u) e q rest = go (bytes_eq other name) refl q
  where
    go : (b : Bool) → bytes_eq other name ≡ b → cond b (Some k) (place_among nodes (suc k) name) ≡ Some p → IsNamedAt (node ∷ nodes) k p name
    go true t f = record { index = 0; is_place = let z = some_same k p f in omega arith; has_name = ap name_of e ∙ ap Some ((bytes_eq-Decides other name).0 t) }
    go false t f = let r = rest f in record { index = suc r.index; is_place = let z = r.is_place in omega arith; has_name = r.has_name }
found_here node nodes k p name _ e q rest = let r = rest q in record { index = suc r.index; is_place = let z = r.is_place in omega arith; has_name = r.has_name }

found : (nodes : List Node) (k p : ℕ) (name : List ℕ) → place_among nodes k name ≡ Some p → IsNamedAt nodes k p name
found [] k p name e = absurd cc
found (node ∷ nodes) k p name e = found_here node nodes k p name node.op refl e (found nodes (suc k) p name)

named_so : (g : Graph) (p : ℕ) (name : List ℕ) → function_named g name ≡ Some p → name_of (op_at g p) ≡ Some name
unfolding function_named op_at
named_so g p name e =
    let r = found g.nodes 0 p name e in
    let z : p ≡ r.index = let q = r.is_place in omega arith in
    ap (λ k. name_of (op_of (slice_get g.nodes k))) z ∙ r.has_name

-- what is called has the types of the call, and its name
if_some : (b : Bool) (o : Option ℕ) (p : ℕ) → cond b o None ≡ Some p → (b ≡ true) × (o ≡ Some p)
if_some true o p e = (refl, e)
if_some false o p e = absurd cc

signed_so : (i u : Types) (o : Option Signature) → is_signature i u o ≡ true → o ≡ Some (record { ins = i; outs = u })
signed_so i u None e = absurd cc
signed_so i u (Some s) e =
    let b = both (same_types s.ins i) (same_types s.outs u) e in
    ap₂ (λ x y. Some (record { ins = x; outs = y })) (types_same s.ins i b.0) (types_same s.outs u b.1)

called : (g : Graph) (i u : Types) (name : List ℕ) (p : ℕ) → callee g i u name ≡ Some p → (is_signature i u (functions g name) ≡ true) × (function_named g name ≡ Some p)
unfolding callee
called g i u name p e = if_some (is_signature i u (functions g name)) (function_named g name) p e

pub callees_are_typed_lem : CalleesAreTyped
callees_are_typed_lem g name i u = (forth, λ h. function_typed g name i u (signed_so i u (functions g name) (called g i u name h.0 h.1).0))
  where
    own_name : (own : List ℕ) (p : ℕ) → op_at g p ≡ FuncDefn own i u → name_of (op_at g p) ≡ Some name → op_at g p ≡ FuncDefn name i u
    own_name own p e n = e ∙ ap (λ x. FuncDefn x i u) (some_same own name (sym (ap name_of e) ∙ n))

    forth : HasType (functions g) (Function name) (function_type i u) → (f : ℕ) × (callee g i u name ≡ Some f) × (op_at g f ≡ FuncDefn name i u)
    forth h =
        let c = names_function g name i u h in
        (c.place, c.found, own_name c.name c.place c.is_function (named_so g c.place name (called g i u name c.place c.found).1))
