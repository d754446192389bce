-- The first children of a node.
use Rattle.std.proofs.Common.{◌≡◌, ℕ, zero, suc, ◌≤◌, Bool, false, List, ◌∷◌, Some, None, slice_get, sym, ap, subst, arith, ◌∙◌}
use Rattle.hg_ops.specs.Op.{Op, Types, Input, Output, ExitBlock, inner_ins, inner_outs}
use Rattle.gp_base.specs.Membership.{In}
use Rattle.hg_graph.specs.Graph.{Graph, op_at, children}
use Rattle.hg_graph.specs.Valid.{HasBoundary, HasBlocks, is_boundary, is_exit}
use Rattle.hg_valid.specs.code.Parts.{NoOtherBoundary, NoOtherExit, IsPairOf, IsEntryOf, AreFirstBlocks}
use Rattle.hg_laws.proofs.Children.{get_in}
use Rattle.hg_valid.proofs.ByPlace.{in_get, two_first}

some_is : (a b : ℕ) → Some a ≡ Some b → a ≡ b
some_is a b e = cc

-- items from place 2 on pass a test
module _ (test : ℕ → Bool) (xs rest : List ℕ) (a b : ℕ) (are : xs ≡ a ∷ b ∷ rest) where
  at_rest : (k : ℕ) → slice_get xs (suc (suc k)) ≡ slice_get rest k
  at_rest k = ap (λ ys. slice_get ys (suc (suc k))) are

  others_from : ((k m : ℕ) → 2 ≤ k → slice_get xs k ≡ Some m → test m ≡ false) → (m : ℕ) → In m rest → test m ≡ false
  others_from none m i = let r = in_get rest m i in none (suc (suc r.0)) m (omega arith) (at_rest r.0 ∙ r.1)

  others_to : ((m : ℕ) → In m rest → test m ≡ false) → (k m : ℕ) → 2 ≤ k → slice_get xs k ≡ Some m → test m ≡ false
  others_to none zero m l e = absurd (omega arith)
  others_to none (suc zero) m l e = absurd (omega arith)
  others_to none (suc (suc k)) m l e = none m (get_in rest k m (sym (at_rest k) ∙ e))

module _ (g : Graph) (c a b : ℕ) (first : slice_get (children g c) 0 ≡ Some a) (second : slice_get (children g c) 1 ≡ Some b) where
  pub boundary_made : IsPairOf (op_at g c) (op_at g a) (op_at g b) → NoOtherBoundary g c → HasBoundary g c
  boundary_made P none = let r = two_first (children g c) a b first second in record {
    input = a;
    output = b;
    rest = r.0;
    are_children = r.1;
    input_is = P.input;
    output_is = P.output;
    no_other = others_from (λ m. is_boundary (op_at g m)) (children g c) r.0 a b r.1 none;
  }

  pub blocks_made : (ins outs : Types) → AreFirstBlocks (op_at g a) (op_at g b) ins outs → NoOtherExit g c → HasBlocks g c ins outs
  blocks_made ins outs P none = let r = two_first (children g c) a b first second in record {
    entry = a;
    exit = b;
    rest = r.0;
    rows = P.entry.0;
    others = P.entry.1;
    are_children = r.1;
    entry_is = P.entry.2;
    exit_is = P.exit;
    no_other = others_from (λ m. is_exit (op_at g m)) (children g c) r.0 a b r.1 none;
  }

  pub boundary_pair : HasBoundary g c → IsPairOf (op_at g c) (op_at g a) (op_at g b)
  boundary_pair H = record {
    input = subst (λ m. op_at g m ≡ Input (inner_ins (op_at g c))) (some_is H.input a (sym (ap (λ xs. slice_get xs 0) H.are_children) ∙ first)) H.input_is;
    output = subst (λ m. op_at g m ≡ Output (inner_outs (op_at g c))) (some_is H.output b (sym (ap (λ xs. slice_get xs 1) H.are_children) ∙ second)) H.output_is;
  }

  pub blocks_pair : (ins outs : Types) → HasBlocks g c ins outs → AreFirstBlocks (op_at g a) (op_at g b) ins outs
  blocks_pair ins outs H = record {
    entry = subst (λ m. IsEntryOf (op_at g m) ins) (some_is H.entry a (sym (ap (λ xs. slice_get xs 0) H.are_children) ∙ first)) (H.rows, H.others, H.entry_is);
    exit = subst (λ m. op_at g m ≡ ExitBlock outs) (some_is H.exit b (sym (ap (λ xs. slice_get xs 1) H.are_children) ∙ second)) H.exit_is;
  }

module _ (g : Graph) (c : ℕ) where
  pub boundary_others : HasBoundary g c → NoOtherBoundary g c
  boundary_others H = others_to (λ m. is_boundary (op_at g m)) (children g c) H.rest H.input H.output H.are_children H.no_other

  pub blocks_others : (ins outs : Types) → HasBlocks g c ins outs → NoOtherExit g c
  blocks_others ins outs H = others_to (λ m. is_exit (op_at g m)) (children g c) H.rest H.entry H.exit H.are_children H.no_other

  -- a boundary needs two children
  pub boundary_first : HasBoundary g c → slice_get (children g c) 0 ≡ None → ⊥
  boundary_first H e = let f = sym (ap (λ xs. slice_get xs 0) H.are_children) ∙ e in cc

  pub boundary_second : HasBoundary g c → slice_get (children g c) 1 ≡ None → ⊥
  boundary_second H e = let f = sym (ap (λ xs. slice_get xs 1) H.are_children) ∙ e in cc

  pub blocks_first : (ins outs : Types) → HasBlocks g c ins outs → slice_get (children g c) 0 ≡ None → ⊥
  blocks_first ins outs H e = let f = sym (ap (λ xs. slice_get xs 0) H.are_children) ∙ e in cc

  pub blocks_second : (ins outs : Types) → HasBlocks g c ins outs → slice_get (children g c) 1 ≡ None → ⊥
  blocks_second ins outs H e = let f = sym (ap (λ xs. slice_get xs 1) H.are_children) ∙ e in cc

-- the first children by equal ops
pub pair_along : (a b c d e f : Op) → a ≡ d → b ≡ e → c ≡ f → IsPairOf a b c → IsPairOf d e f
pair_along a b c d e f p q r P = subst (λ x. IsPairOf x e f) p (subst (λ x. IsPairOf a x f) q (subst (λ x. IsPairOf a b x) r P))

pub blocks_along : (a b c d : Op) (ins outs : Types) → a ≡ c → b ≡ d → AreFirstBlocks a b ins outs → AreFirstBlocks c d ins outs
blocks_along a b c d ins outs p q P = subst (λ x. AreFirstBlocks x d ins outs) p (subst (λ x. AreFirstBlocks a x ins outs) q P)
