-- The first function of a name is found.
use Rattle.std.proofs.Common.{◌≡◌, ℕ, zero, suc, ◌+◌, ◌<◌, Bool, true, false, cond, List, [], ◌∷◌, Option, Some, None, slice_get, refl, ap, ◌∙◌, arith}
use Rattle.std.specs.Str.{bytes_eq}
use Rattle.std.proofs.lemmas.Slice.Eq.{bytes_eq-Decides}
use Rattle.hg_ops.specs.Op.{Op, Types, Module, FuncDefn}
use Rattle.hg_graph.specs.Graph.{Node, Graph, op_of, op_at}
use Rattle.hg_graph.specs.Valid.{name_of}
use Rattle.hg_graph.specs.Value.{place_by, place_among, function_named, is_signature, callee}
use Rattle.hg_laws.proofs.Named.{functions_new, and_true, same_types-refl}
use Rattle.hg_ops.specs.SameType.{same_types}
use Rattle.hg_build.specs.Steps.{IsNamed}

place_here : (o : Op) (name : List ℕ) (i u : Types) (k : ℕ) (rest : Option ℕ) → o ≡ FuncDefn name i u → place_by name k o rest ≡ Some k
place_here o name i u k rest e =
    ap (λ x. place_by name k x rest) e ∙ ap (λ b. cond b (Some k) rest) ((bytes_eq-Decides name name).1 refl)

place_later : (o : Op) (name : List ℕ) (k : ℕ) (rest : Option ℕ) → (name_of o ≡ Some name → ⊥) → place_by name k o rest ≡ rest
place_later (FuncDefn other i u) name k rest fresh = go (bytes_eq other name) refl
  where
    go : (b : Bool) → bytes_eq other name ≡ b → cond b (Some k) rest ≡ rest
    go true e = absurd (fresh (ap Some ((bytes_eq-Decides other name).0 e)))
    go false e = refl
place_later _ name k rest fresh = refl

place_of : (nodes : List Node) (k j : ℕ) (name : List ℕ) (i u : Types) → op_of (slice_get nodes j) ≡ FuncDefn name i u → ((m : ℕ) → m < j → name_of (op_of (slice_get nodes m)) ≡ Some name → ⊥) → place_among nodes k name ≡ Some (k + j)
place_of [] k j name i u e fresh = absurd (none e)
  where
    none : Module ≡ FuncDefn name i u → ⊥
    none h = cc
place_of (node ∷ nodes) k zero name i u e fresh = place_here node.op name i u k _ e ∙ ap Some (let z : k ≡ k + 0 = omega arith in z)
place_of (node ∷ nodes) k (suc j) name i u e fresh =
    place_later node.op name k _ (fresh 0 (omega arith))
    ∙ (place_of nodes (suc k) j name i u e (λ m l. fresh (suc m) (omega arith)) ∙ ap Some (let z : suc k + j ≡ k + suc j = omega arith in z))

place_named : (g : Graph) (ins outs : Types) (name : List ℕ) (f : ℕ) → IsNamed g ins outs name f → function_named g name ≡ Some f
unfolding function_named op_at
place_named g ins outs name f x = place_of g.nodes 0 f name ins outs x.is x.new ∙ ap Some (let z : 0 + f ≡ f = omega arith in z)

pub found_named : (g : Graph) (ins outs : Types) (name : List ℕ) (f : ℕ) → IsNamed g ins outs name f → callee g ins outs name ≡ Some f
unfolding callee
found_named g ins outs name f x =
    let same = and_true (same_types ins ins) (same_types outs outs) (same_types-refl ins) (same_types-refl outs) in
    ap (λ s. cond (is_signature ins outs s) (function_named g name) None) (functions_new g f name ins outs x.is x.new)
    ∙ (ap (λ b. cond b (function_named g name) None) same ∙ place_named g ins outs name f x)
