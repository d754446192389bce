-- The least broken rule and its least node.
use Rattle.std.proofs.Common.{◌≡◌, ◌⊎◌, inl, inr, ℕ, suc, ◌+◌, ◌<◌, ◌≤◌, List, [], ◌∷◌, refl, sym, ap, ◌∙◌, subst, arith}
use Rattle.std.specs.Prelude.{slice_index_or}
use Rattle.std.proofs.lemmas.Bool.{cases_lt}
use Rattle.hg_graph.specs.Graph.{Graph}
use Rattle.hg_graph.specs.Valid.{Rule, Places, Children, Boundaries, Blocks, Cases, Links, Inputs, LinearOutputs, SameParent, NoCycle, Successors, StaticLinks, Callees, Names, VariantsAndTags, number_of, IsBroken}
use Rattle.hg_laws.specs.Laws.{OneIsBroken}

rules : List Rule
rules = Places ∷ Places ∷ Children ∷ Boundaries ∷ Blocks ∷ Cases ∷ Links ∷ Inputs ∷ LinearOutputs ∷ SameParent ∷ NoCycle ∷ Successors ∷ StaticLinks ∷ Callees ∷ Names ∷ VariantsAndTags ∷ []

rule_at : ℕ → Rule
rule_at n = slice_index_or rules n Places

number-rule : (rule : Rule) → rule_at (number_of rule) ≡ rule
unfolding rule_at rules
number-rule Places = refl
number-rule Children = refl
number-rule Boundaries = refl
number-rule Blocks = refl
number-rule Cases = refl
number-rule Links = refl
number-rule Inputs = refl
number-rule LinearOutputs = refl
number-rule SameParent = refl
number-rule NoCycle = refl
number-rule Successors = refl
number-rule StaticLinks = refl
number-rule Callees = refl
number-rule Names = refl
number-rule VariantsAndTags = refl

order : (a b : ℕ) → (a < b) ⊎ ((b < a) ⊎ (a ≡ b))
order a b = Rattle.std.proofs.Common.⊎_elim (λ l. inl l) (λ h. inr (Rattle.std.proofs.Common.⊎_elim (λ l. inl l) (λ k. inr (same h k)) (cases_lt b a))) (cases_lt a b)
  where
    same : b ≤ a → a ≤ b → a ≡ b
    same h k = omega arith

pub same_rule : (rule other : Rule) → number_of rule ≡ number_of other → rule ≡ other
same_rule rule other e = sym (number-rule rule) ∙ (ap rule_at e ∙ number-rule other)

least_rule : (g : Graph) (rule other : Rule) (n m : ℕ) → IsBroken g rule n → IsBroken g other m → rule ≡ other
least_rule g rule other n m a b =
    elim (order (number_of rule) (number_of other)) [
      | inl l ↦ absurd (a.broken (b.earlier_rules rule l n a.is_node))
      | inr r ↦ elim r [
        | inl l ↦ absurd (b.broken (a.earlier_rules other l m b.is_node))
        | inr e ↦ same_rule rule other e
      ]
    ]

least_node : (g : Graph) (rule : Rule) (n m : ℕ) → IsBroken g rule n → IsBroken g rule m → n ≡ m
least_node g rule n m a b =
    elim (order n m) [
      | inl l ↦ absurd (a.broken (b.earlier_nodes n l))
      | inr r ↦ elim r [
        | inl l ↦ absurd (b.broken (a.earlier_nodes m l))
        | inr e ↦ e
      ]
    ]

pub one_is_broken_lem : OneIsBroken
one_is_broken_lem = record {
  one = λ g rule other n m a b. let e = least_rule g rule other n m a b in (e, least_node g other n m (subst (λ r. IsBroken g r n) e a) b);
  none = λ g rule n V b. b.broken (V.keeps rule n b.is_node);
}
