-- Functions with the name of one before them.
use Rattle.std.proofs.Common.{◌≡◌, ◌≢◌, ◌⊎◌, inl, inr, ℕ, suc, ◌<◌, Bool, true, false, cond, List, length, Option, Some, None, refl, sym, ap, subst, arith, ◌∙◌}
use Rattle.std.specs.BTreeMap as tree
use Rattle.std.specs.Cmp.Lexicographic.{slice_cmp}
use Rattle.std.specs.Option.{is_some}
use Rattle.std.specs.Ordering.{nat_cmp}
use Rattle.std.specs.Str.{bytes_eq}
use Rattle.std.proofs.lemmas.Map.Text.{btree_map_updates_str}
use denote.Ref.{Bor}
use Rattle.std.proofs.lemmas.Bool.Decides.{eqb_tells}
use Rattle.std.proofs.lemmas.Slice.Eq.{bytes_eq-Decides}
use Rattle.hg_ops.specs.Op.{Op, FuncDefn}
use Rattle.hg_graph.specs.Graph.{Graph, op_at}
use Rattle.hg_graph.specs.Valid.{Keeps, KeepsName, HasNewName, Names, name_of}
use Rattle.hg_valid.specs.code.Broken.{IsFirstToBreak}

-- the names of the functions among the first n nodes are those that the test finds, and no two are the same
pub record AreNamed (g : Graph) (n : ℕ) (has : List ℕ → Bool) : Type 0 where
  pub sound : (name : List ℕ) → has name ≡ true → (m : ℕ) × (m < n) × (name_of (op_at g m) ≡ Some name)
  pub complete : (name : List ℕ) (m : ℕ) → m < n → name_of (op_at g m) ≡ Some name → has name ≡ true
  pub kept : (m : ℕ) → m < n → Keeps g Names m

unnamed : (g : Graph) (n : ℕ) (op : Op) → name_of op ≡ None → KeepsName g n op
unnamed g n (FuncDefn name ins outs) e = absurd cc
unnamed g n _ e = tt

renamed : (g : Graph) (n : ℕ) (op : Op) (name : List ℕ) → name_of op ≡ Some name → HasNewName g n name → KeepsName g n op
renamed g n (FuncDefn other ins outs) name e h = subst (HasNewName g n) (is name other e) h
  where
    is : (a b : List ℕ) → Some b ≡ Some a → a ≡ b
    is a b e = cc
renamed g n _ name e h = tt

new_name : (g : Graph) (n : ℕ) (op : Op) (name : List ℕ) → name_of op ≡ Some name → KeepsName g n op → HasNewName g n name
new_name g n (FuncDefn other ins outs) name e h = subst (HasNewName g n) (is other name e) h
  where
    is : (a b : List ℕ) → Some a ≡ Some b → a ≡ b
    is a b e = cc
new_name g n _ name e h = absurd cc

not_both : (b : Bool) → b ≡ true → b ≡ false → ⊥
not_both b e f = cc

module _ (g : Graph) (n : ℕ) (has : List ℕ → Bool) (A : AreNamed g n has) where
  below : (m : ℕ) → m < suc n → (m < n) ⊎ (m ≡ n)
  below m l = elim (eqb_tells m n) [ inl e ↦ inr e.1 | inr e ↦ inl (less e.1) ]
    where
      less : m ≢ n → m < n
      less ne = omega arith

  -- a node without a name
  pub pass_unnamed : name_of (op_at g n) ≡ None → AreNamed g (suc n) has
  pass_unnamed e = record {
    sound = λ name h. let r = A.sound name h in (r.0, omega (arith, r.1), r.2);
    complete = λ name m l f. elim (below m l) [ inl s ↦ A.complete name m s f | inr s ↦ absurd (no name m s f) ];
    kept = λ m l. elim (below m l) [ inl s ↦ A.kept m s | inr s ↦ subst (Keeps g Names) (sym s) (unnamed g n (op_at g n) e) ];
  }
    where
      no : (name : List ℕ) (m : ℕ) → m ≡ n → name_of (op_at g m) ≡ Some name → ⊥
      no name m s f = let k : Some name ≡ None = sym f ∙ ap (λ x. name_of (op_at g x)) s ∙ e in cc

  module _ (name : List ℕ) (named : name_of (op_at g n) ≡ Some name) where
    -- a function with a new name
    pub pass_new : (more : List ℕ → Bool) → ((q : List ℕ) → more q ≡ cond (bytes_eq name q) true (has q)) → has name ≡ false → AreNamed g (suc n) more
    pass_new more adds fresh = record {
      sound = λ q h. found q h (bytes_eq name q) refl;
      complete = λ q m l f. elim (below m l) [ inl s ↦ adds q ∙ kept_true (bytes_eq name q) (has q) (A.complete q m s f) | inr s ↦ adds q ∙ ap (λ t. cond t true (has q)) (this q m s f) ];
      kept = λ m l. elim (below m l) [ inl s ↦ A.kept m s | inr s ↦ subst (Keeps g Names) (sym s) (renamed g n (op_at g n) name named new) ];
    }
      where
        found : (q : List ℕ) → more q ≡ true → (t : Bool) → bytes_eq name q ≡ t → (m : ℕ) × (m < suc n) × (name_of (op_at g m) ≡ Some q)
        found q h true e = (n, omega arith, named ∙ ap Some ((bytes_eq-Decides name q).0 e))
        found q h false e = let r = A.sound q (sym (ap (λ t. cond t true (has q)) e) ∙ sym (adds q) ∙ h) in (r.0, omega (arith, r.1), r.2)

        kept_true : (t u : Bool) → u ≡ true → cond t true u ≡ true
        kept_true true u e = refl
        kept_true false u e = e

        this : (q : List ℕ) (m : ℕ) → m ≡ n → name_of (op_at g m) ≡ Some q → bytes_eq name q ≡ true
        this q m s f = (bytes_eq-Decides name q).1 (same q (sym named ∙ sym (ap (λ x. name_of (op_at g x)) s) ∙ f))
          where
            same : (r : List ℕ) → Some name ≡ Some r → name ≡ r
            same r e = cc

        new : HasNewName g n name
        new m l f = not_both (has name) (A.complete name m l f) fresh

    -- a function with the name of one before it
    pub named_again : n < length g.nodes → has name ≡ true → IsFirstToBreak g Names n
    named_again l h = record {
      is_node = l;
      broken = λ K. let r = A.sound name h in new_name g n (op_at g n) name named K r.0 r.1 r.2;
      earlier_nodes = A.kept;
    }

-- ---- a map from names
-- the map has the name
abbrev pub finds : tree.BTreeMap (Bor (List ℕ)) ℕ → List ℕ → Bool
finds names q = is_some (tree.get_by (λ k. slice_cmp nat_cmp q k.now) names)

some_cond : (t : Bool) (v : ℕ) (x : Option ℕ) → is_some (cond t (Some v) x) ≡ cond t true (is_some x)
some_cond true v x = refl
some_cond false v x = refl

-- with a name more
pub finds_more : (name : List ℕ) (old new : tree.BTreeMap (Bor (List ℕ)) ℕ) (v : ℕ)
    → tree.UpdatesBy (λ x y. slice_cmp nat_cmp x.now y.now) (λ k. slice_cmp nat_cmp name k.now) old new (Some v)
    → (q : List ℕ) → finds new q ≡ cond (bytes_eq name q) true (finds old q)
finds_more name old new v updates q =
    ap is_some (btree_map_updates_str name old new (Some v) updates q) ∙ some_cond (bytes_eq name q) v (tree.get_by (λ k. slice_cmp nat_cmp q k.now) old)
