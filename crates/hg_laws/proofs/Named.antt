-- Functions by their names.
use Rattle.std.proofs.Common.{◌≡◌, inl, inr, ℕ, zero, suc, ◌+◌, ◌<◌, Bool, true, false, ◌&&◌, cond, List, [], ◌∷◌, length, Option, Some, None, refl, sym, ap, ap₂, ◌∙◌, arith}
use Rattle.std.specs.Prelude.{slice_get}
use Rattle.std.specs.Str.{bytes_eq}
use Rattle.std.proofs.lemmas.Bool.{cases_lt}
use Rattle.std.proofs.lemmas.Option.{slice_get_past}
use Rattle.std.proofs.lemmas.Slice.Eq.{bytes_eq-Decides}
use Rattle.hg_ops.specs.GraphType as type
use Rattle.hg_ops.specs.GraphType.{GraphType, Row, Rows, no_types, next, no_rows, next_row, types, row_of, function_type}
use Rattle.hg_ops.specs.Op.{Op, Types, Module, FuncDefn}
use Rattle.hg_ops.specs.SameType.{same_type, same_row, same_rows, same_types}
use Rattle.hg_graph.specs.Graph.{Node, Graph, op_of, op_at}
use Rattle.hg_graph.specs.Valid.{HasNewName, name_of}
use Rattle.hg_graph.specs.Value.{Function, HasType, Signature, place_by, place_among, function_named, signature_of, signature_at, functions, is_signature, callee}
use Rattle.hg_laws.proofs.Values.{types-row_of}

-- ---- the first function of a name
place_here : (o : Op) (name : List ℕ) (i u : Types) (k : ℕ) (rest : Option ℕ) → o ≡ FuncDefn name i u → place_by name k o rest ≡ Some k
place_here o name i u k rest e =
    ap (λ x. place_by name k x rest) e ∙ ap (λ b. cond b (Some k) rest) ((bytes_eq-Decides name name).1 refl)

place_later : (o : Op) (name : List ℕ) (k : ℕ) (rest : Option ℕ) → (name_of o ≡ Some name → ⊥) → place_by name k o rest ≡ rest
place_later (FuncDefn other i u) name k rest fresh = go (bytes_eq other name) refl
  where
    go : (b : Bool) → bytes_eq other name ≡ b → cond b (Some k) rest ≡ rest
    go true e = absurd (fresh (ap Some ((bytes_eq-Decides other name).0 e)))
    go false e = refl
place_later _ name k rest fresh = refl

place_of : (nodes : List Node) (k j : ℕ) (name : List ℕ) (i u : Types) → op_of (slice_get nodes j) ≡ FuncDefn name i u
    → ((m : ℕ) → m < j → name_of (op_of (slice_get nodes m)) ≡ Some name → ⊥) → place_among nodes k name ≡ Some (k + j)
place_of [] k j name i u e fresh = absurd (none e)
  where
    none : Module ≡ FuncDefn name i u → ⊥
    none h = cc
place_of (node ∷ nodes) k zero name i u e fresh = place_here node.op name i u k _ e ∙ ap Some (let z : k ≡ k + 0 = omega arith in z)
place_of (node ∷ nodes) k (suc j) name i u e fresh =
    place_later node.op name k _ (fresh 0 (omega arith))
    ∙ (place_of nodes (suc k) j name i u e (λ m l. fresh (suc m) (omega arith)) ∙ ap Some (let z : suc k + j ≡ k + suc j = omega arith in z))

pub functions_new : (g : Graph) (n : ℕ) (name : List ℕ) (i u : Types) → op_at g n ≡ FuncDefn name i u → HasNewName g n name → functions g name ≡ Some (record { ins = i; outs = u })
unfolding functions function_named op_at
functions_new g n name i u e new = ap (signature_at g) (place_of g.nodes 0 n name i u e new ∙ ap Some (let z : 0 + n ≡ n = omega arith in z)) ∙ ap signature_of e

-- ---- equal types are found equal
pub and_true : (a b : Bool) → a ≡ true → b ≡ true → (a && b) ≡ true
and_true true b x y = y
and_true false b x y = absurd cc

mutual
  pub same_type-refl : (t : GraphType) → same_type t t ≡ true
  same_type-refl type.Int = refl
  same_type-refl type.Qubit = refl
  same_type-refl (type.Sum a) = same_rows-refl a
  same_type-refl (type.Function a b) = and_true (same_row a a) (same_row b b) (same_row-refl a) (same_row-refl b)

  same_row-refl : (r : Row) → same_row r r ≡ true
  same_row-refl no_types = refl
  same_row-refl (next t r) = and_true (same_type t t) (same_row r r) (same_type-refl t) (same_row-refl r)

  same_rows-refl : (r : Rows) → same_rows r r ≡ true
  same_rows-refl no_rows = refl
  same_rows-refl (next_row r rs) = and_true (same_row r r) (same_rows rs rs) (same_row-refl r) (same_rows-refl rs)

pub same_types-refl : (ts : Types) → same_types ts ts ≡ true
same_types-refl [] = refl
same_types-refl (t ∷ ts) = and_true (same_type t t) (same_types ts ts) (same_type-refl t) (same_types-refl ts)

-- ---- what a typed function value names
function_of : (o : Op) (s : Signature) → signature_of o ≡ Some s → (name : List ℕ) × (o ≡ FuncDefn name s.ins s.outs)
function_of (FuncDefn name i u) s e = (name, let h = is (record { ins = i; outs = u }) s e in ap₂ (FuncDefn name) (ap (λ x. x.ins) h) (ap (λ x. x.outs) h))
  where
    is : (a b : Signature) → Some a ≡ Some b → a ≡ b
    is a b q = cc
function_of _ s e = absurd cc

pub within : (g : Graph) (n : ℕ) (name : List ℕ) (i o : Types) → op_at g n ≡ FuncDefn name i o → n < length g.nodes
unfolding op_at
within g n name i o e = elim (cases_lt n (length g.nodes)) [ inl l ↦ l | inr l ↦ absurd (no (ap op_of (sym (slice_get_past g.nodes n l)) ∙ e)) ]
  where
    no : Module ≡ FuncDefn name i o → ⊥
    no h = cc

-- the function that a value of a function type names
pub record Names (g : Graph) (value : List ℕ) (ins outs : Types) : Type 0 where
  pub place : ℕ
  pub found : callee g ins outs value ≡ Some place
  pub is_node : place < length g.nodes
  pub name : List ℕ
  pub is_function : op_at g place ≡ FuncDefn name ins outs

signed : (g : Graph) (value : List ℕ) (i u : Types) (o : Option ℕ) → function_named g value ≡ o → signature_at g o ≡ Some (record { ins = i; outs = u }) → functions g value ≡ Some (record { ins = i; outs = u }) → Names g value i u
unfolding callee
signed g value i u None q e f = absurd cc
signed g value i u (Some p) q e f =
    let h = function_of (op_at g p) (record { ins = i; outs = u }) e in
    let same = and_true (same_types i i) (same_types u u) (same_types-refl i) (same_types-refl u) in
    record {
      place = p;
      found = ap (λ s. cond (is_signature i u s) (function_named g value) None) f ∙ (ap (λ b. cond b (function_named g value) None) same ∙ q);
      is_node = within g p h.0 i u h.1;
      name = h.0;
      is_function = h.1;
    }

pub names_function : (g : Graph) (value : List ℕ) (i u : Types) → HasType (functions g) (Function value) (function_type i u) → Names g value i u
unfolding functions
names_function g value i u h =
    let e : functions g value ≡ Some (record { ins = i; outs = u }) = h ∙ ap₂ (λ a b. Some (record { ins = a; outs = b })) (types-row_of i) (types-row_of u) in
    signed g value i u (function_named g value) refl e e

-- and back
pub function_typed : (g : Graph) (value : List ℕ) (i u : Types) → functions g value ≡ Some (record { ins = i; outs = u }) → HasType (functions g) (Function value) (function_type i u)
function_typed g value i u e = e ∙ ap₂ (λ a b. Some (record { ins = a; outs = b })) (sym (types-row_of i)) (sym (types-row_of u))
