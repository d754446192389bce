-- Functions by their names.
use Rattle.std.proofs.Common.{◌≡◌, ℕ, suc, ◌+◌, ◌<◌, Bool, true, false, ◌&&◌, cond, List, length, drop, get_or, ◌≤◌, ◌⊎◌, inl, inr, Option, Some, None, refl, sym, ap, ap₂, ◌∙◌, subst, arith}
use Rattle.std.specs.Prelude.{slice_get, Decides}
use Rattle.std.specs.BTreeMap as tree
use Rattle.std.specs.Cmp.Lexicographic.{slice_cmp}
use Rattle.std.specs.Ordering.{nat_cmp}
use Rattle.std.specs.Str.{bytes_eq}
use Rattle.std.proofs.Math.Seq.{drop-length}
use Rattle.std.proofs.lemmas.Option.{slice_get_cases}
use Rattle.std.proofs.lemmas.Map.Text.{btree_map_updates_str}
use denote.Ref.{Bor}
use Rattle.hg_ops.specs.Op.{Op, FuncDefn, Types}
use Rattle.hg_ops.specs.SameType.{same_types}
use Rattle.hg_graph.specs.Graph.{Graph, Node, op_of, op_at}
use Rattle.hg_graph.specs.Valid.{name_of}
use Rattle.hg_graph.specs.Value.{place_by, place_among, function_named, functions, signature_of, is_signature, callee}
use Rattle.hg_laws.proofs.Named.{same_types-refl}
use Rattle.hg_laws.proofs.Tests.{types_same}
use Rattle.hg_run.proofs.Scans.{drop_found}
use Rattle.hg_run.specs.code.FunctionsView.{number_in}

-- the first function of each name among the nodes from n on
abbrev pub HasFrom : Graph → ℕ → tree.BTreeMap (Bor (List ℕ)) ℕ → Type 0
HasFrom g n numbers = (name : List ℕ) → number_in numbers name ≡ place_among (drop n g.nodes) n name

placed_named : (q name : List ℕ) (n : ℕ) (op : Op) (rest : Option ℕ) → name_of op ≡ Some name → place_by q n op rest ≡ cond (bytes_eq name q) (Some n) rest
placed_named q name n (FuncDefn other ins outs) rest e = ap (λ x. cond (bytes_eq x q) (Some n) rest) (is other name e)
  where
    is : (a b : List ℕ) → Some a ≡ Some b → a ≡ b
    is a b e = cc
placed_named q name n _ rest e = absurd cc

placed_unnamed : (q : List ℕ) (n : ℕ) (op : Op) (rest : Option ℕ) → name_of op ≡ None → place_by q n op rest ≡ rest
placed_unnamed q n (FuncDefn other ins outs) rest e = absurd cc
placed_unnamed q n _ rest e = refl

-- one node before them
from_node : (g : Graph) (n : ℕ) (node : Node) (q : List ℕ) → slice_get g.nodes n ≡ Some node
    → place_among (drop n g.nodes) n q ≡ place_by q n node.op (place_among (drop (n + 1) g.nodes) (n + 1) q)
from_node g n node q e =
    ap (λ nodes. place_among nodes n q) (drop_found g.nodes n node e)
    ∙ ap (λ m. place_by q n node.op (place_among (drop (n + 1) g.nodes) m q)) (let s : suc n ≡ n + 1 = omega arith in s)

pub none_from : (g : Graph) (numbers : tree.BTreeMap (Bor (List ℕ)) ℕ) → ((name : List ℕ) → number_in numbers name ≡ None) → HasFrom g (length g.nodes) numbers
none_from g numbers h name = h name ∙ sym (ap (λ nodes. place_among nodes (length g.nodes) name) (drop-length g.nodes))

from_at : (g : Graph) (n : ℕ) (q : List ℕ) → n < length g.nodes
    → place_among (drop n g.nodes) n q ≡ place_by q n (op_at g n) (place_among (drop (n + 1) g.nodes) (n + 1) q)
unfolding op_at
from_at g n q l = split (slice_get_cases g.nodes n).1
  where
    split : ((x : Node) × (n < length g.nodes) × (slice_get g.nodes n ≡ Some x) × (get_or g.nodes n x ≡ x)) ⊎ ((length g.nodes ≤ n) × (slice_get g.nodes n ≡ None))
        → place_among (drop n g.nodes) n q ≡ place_by q n (op_at g n) (place_among (drop (n + 1) g.nodes) (n + 1) q)
    split (inl (x, l, e, d)) = from_node g n x q e ∙ ap (λ o. place_by q n (op_of o) (place_among (drop (n + 1) g.nodes) (n + 1) q)) (sym e)
    split (inr (past, e)) = absurd (omega (arith, l, past))

-- the names from n on are those from k on, with that of node n
module _ (g : Graph) (n k : ℕ) (next : n + 1 ≡ k) (within : k ≤ length g.nodes) (old : tree.BTreeMap (Bor (List ℕ)) ℕ) (so_far : HasFrom g k old) where
  later : HasFrom g (n + 1) old
  later = subst (λ k. HasFrom g k old) (sym next) so_far

  pub from_named : (name : List ℕ) (new : tree.BTreeMap (Bor (List ℕ)) ℕ) → name_of (op_at g n) ≡ Some name
      → tree.UpdatesBy (λ x y. slice_cmp nat_cmp x.now y.now) (λ k. slice_cmp nat_cmp name k.now) old new (Some n) → (n ≤ length g.nodes) × HasFrom g n new
  from_named name new named updates = (
    omega (arith, next, within),
    λ q.
        btree_map_updates_str name old new (Some n) updates q
        ∙ (ap (cond (bytes_eq name q) (Some n)) (later q)
        ∙ (sym (placed_named q name n (op_at g n) (place_among (drop (n + 1) g.nodes) (n + 1) q) named) ∙ sym (from_at g n q (omega (arith, next, within))))),
  )

  pub from_unnamed : name_of (op_at g n) ≡ None → (n ≤ length g.nodes) × HasFrom g n old
  from_unnamed unnamed = (
    omega (arith, next, within),
    λ q.
        later q ∙ (sym (placed_unnamed q n (op_at g n) (place_among (drop (n + 1) g.nodes) (n + 1) q) unnamed) ∙ sym (from_at g n q (omega (arith, next, within)))),
  )

-- all names have been seen
pub from_first : (g : Graph) (k : ℕ) (numbers : tree.BTreeMap (Bor (List ℕ)) ℕ) → k ≡ 0 → HasFrom g k numbers → (name : List ℕ) → number_in numbers name ≡ function_named g name
unfolding function_named
from_first g k numbers none so_far name = subst (λ k. HasFrom g k numbers) none so_far name

-- ---- types that a function has
same_decided : (b : Bool) (ts us : Types) → Decides b (ts ≡ us) → b ≡ same_types ts us
same_decided b ts us d = go b (same_types ts us) d refl
  where
    differ : (s : Bool) → ts ≡ us → same_types ts us ≡ s → true ≡ s
    differ s e h = sym (same_types-refl ts) ∙ (ap (same_types ts) e ∙ h)

    go : (b s : Bool) → Decides b (ts ≡ us) → same_types ts us ≡ s → b ≡ s
    go true s d h = differ s (d.0 refl) h
    go false false d h = refl
    go false true d h = d.1 (types_same ts us h)

module _ (op : Op) (name : List ℕ) (own_ins own_outs ins outs : Types) (is : op ≡ FuncDefn name own_ins own_outs) where
  pub has_both : (a b : Bool) → Decides a (own_ins ≡ ins) → Decides b (own_outs ≡ outs) → a ≡ true → b ≡ is_signature ins outs (signature_of op)
  has_both a b c d e =
      ap (λ a. a && b) (sym e)
      ∙ (ap₂ (λ a b. a && b) (same_decided a own_ins ins c) (same_decided b own_outs outs d) ∙ ap (λ op. is_signature ins outs (signature_of op)) (sym is))

  pub has_not : (a : Bool) → Decides a (own_ins ≡ ins) → a ≡ false → a ≡ is_signature ins outs (signature_of op)
  has_not a c e =
      e
      ∙ (ap (λ a. a && same_types own_outs outs) (sym e ∙ same_decided a own_ins ins c) ∙ ap (λ op. is_signature ins outs (signature_of op)) (sym is))

-- ---- the function that is called
module _ (g : Graph) (ins outs : Types) (name : List ℕ) where
  pub callee_none : function_named g name ≡ None → None ≡ callee g ins outs name
  unfolding callee functions
  callee_none e = ap (λ o. cond (is_signature ins outs (Rattle.hg_graph.specs.Value.signature_at g o)) o None) (sym e)

  pub callee_some : (f : ℕ) (t : Bool) → function_named g name ≡ Some f → t ≡ is_signature ins outs (signature_of (op_at g f)) → cond t (Some f) None ≡ callee g ins outs name
  unfolding callee functions
  callee_some f t e h =
      ap (λ t. cond t (Some f) None) h ∙ ap (λ o. cond (is_signature ins outs (Rattle.hg_graph.specs.Value.signature_at g o)) o None) (sym e)
