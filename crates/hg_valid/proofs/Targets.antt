-- The least target of a link that breaks a rule.
use Rattle.std.proofs.Common.{◌≡◌, inl, inr, ℕ, ◌<◌, true, cond, List, [], ◌∷◌, ◌++◌, length, Option, Some, None, refl, sym, ap, subst, arith, ◌∙◌}
use Rattle.std.proofs.lemmas.Bool.{cases_lt, lt-ltb, le-ltb}
use Rattle.gp_base.specs.Membership.{In}
use Rattle.hg_graph.specs.Graph.{Graph, Link, Ports, Order, IsGraph, LinkIsWithin, op_at, parent_at}
use Rattle.hg_graph.specs.Valid.{Keeps, is_local}
use Rattle.hg_ops.specs.Op.{input_ports}
use Rattle.std.specs.Prelude.{slice_get}
use Rattle.hg_valid.specs.code.Broken.{FirstToBreak}
use Rattle.hg_valid.specs.code.LinkRules.{LinkKeeps, IsLeastTarget, LeastTarget, lesser}
use Rattle.hg_valid.specs.code.Parts.{target}
use Rattle.hg_valid.specs.code.RuleView.{link_rule_view}
use Rattle.hg_valid.specs.declared.rule.LinkRule.{LinkRule}
use Rattle.hg_valid.specs.declared.rule.LinkRule.TheVariants.{Joins, SameParent}
use Rattle.hg_valid.proofs.ByPlace.{In-append, In-front, In-last}

module _ (g : Graph) where
  -- ---- a node keeps the rule where the links to it do
  pub node_keeps : (rule : LinkRule) (n : ℕ) → ((link : Link) → In link g.links → target link ≡ n → LinkKeeps g rule link) → Keeps g (link_rule_view rule) n
  node_keeps Joins n keep = record {
    ports = λ from to i e. keep (Ports from to) i e;
    orders = λ before i. keep (Order before n) i refl;
  }
  node_keeps SameParent n keep = record {
    ports = λ from to i e local. keep (Ports from to) i e (subst (λ m. is_local (slice_get (input_ports (op_at g m)) to.index) ≡ true) (sym e) local) ∙ ap (parent_at g) e;
    orders = λ before i. keep (Order before n) i refl;
  }

  pub link_keeps : (rule : LinkRule) (link : Link) → In link g.links → Keeps g (link_rule_view rule) (target link) → LinkKeeps g rule link
  link_keeps Joins (Ports from to) i K = K.ports from to i refl
  link_keeps Joins (Order before after) i K = K.orders before i
  link_keeps SameParent (Ports from to) i K = λ local. K.ports from to i refl local
  link_keeps SameParent (Order before after) i K = K.orders before i

  target_in : (link : Link) → LinkIsWithin (length g.nodes) link → target link < length g.nodes
  target_in (Ports a b) W = W.1
  target_in (Order a b) W = W.1

  pub first_of_links : IsGraph g → (rule : LinkRule) (found : Option ℕ) → LeastTarget g rule g.links found → FirstToBreak g (link_rule_view rule) found
  first_of_links G rule None L = λ n l. node_keeps rule n (λ link i e. L link i)
  first_of_links G rule (Some n) L = record {
    is_node = subst (λ m. m < length g.nodes) L.leads_to (target_in L.link (G.links L.link L.is_among));
    broken = λ K. L.broken (link_keeps rule L.link L.is_among (subst (Keeps g (link_rule_view rule)) (sym L.leads_to) K));
    earlier_nodes = λ m l. node_keeps rule m (λ link i e. L.earlier_nodes link i (omega arith));
  }

  -- ---- one link more
  module _ (rule : LinkRule) (links : List Link) (link : Link) where
    pub least_same : (found : Option ℕ) → LeastTarget g rule links found → LinkKeeps g rule link → LeastTarget g rule (links ++ link ∷ []) found
    least_same None L K = λ other i. elim (In-append links (link ∷ []) other i) [
      | inl j ↦ L other j
      | inr j ↦ elim j [ inl e ↦ subst (LinkKeeps g rule) (sym e) K | inr z ↦ absurd z ]
    ]
    least_same (Some n) L K = record {
      link = L.link;
      is_among = In-front links (link ∷ []) L.link L.is_among;
      leads_to = L.leads_to;
      broken = L.broken;
      earlier_nodes = λ other i l. elim (In-append links (link ∷ []) other i) [
        | inl j ↦ L.earlier_nodes other j l
        | inr j ↦ elim j [ inl e ↦ subst (LinkKeeps g rule) (sym e) K | inr z ↦ absurd z ]
      ];
    }

    this_one : (LinkKeeps g rule link → ⊥) → ((other : Link) → In other links → target other < target link → LinkKeeps g rule other) → IsLeastTarget g rule (links ++ link ∷ []) (target link)
    this_one never earlier = record {
      link = link;
      is_among = In-last links link;
      leads_to = refl;
      broken = never;
      earlier_nodes = λ other i l. elim (In-append links (link ∷ []) other i) [
        | inl j ↦ earlier other j l
        | inr j ↦ elim j [ inl e ↦ absurd (less other e l) | inr z ↦ absurd z ]
      ];
    }
      where
        less : (other : Link) → other ≡ link → target other < target link → ⊥
        less other e l = let s = ap target e in absurd (omega arith)

    still : (n : ℕ) → n < target link → IsLeastTarget g rule links n → IsLeastTarget g rule (links ++ link ∷ []) n
    still n s L = record {
      link = L.link;
      is_among = In-front links (link ∷ []) L.link L.is_among;
      leads_to = L.leads_to;
      broken = L.broken;
      earlier_nodes = λ other i l. elim (In-append links (link ∷ []) other i) [
        | inl j ↦ L.earlier_nodes other j l
        | inr j ↦ elim j [ inl e ↦ absurd (less other e l) | inr z ↦ absurd z ]
      ];
    }
      where
        less : (other : Link) → other ≡ link → target other < n → ⊥
        less other e l = let t = ap target e in absurd (omega arith)

    pub least_more : (found : Option ℕ) → LeastTarget g rule links found → (LinkKeeps g rule link → ⊥) → LeastTarget g rule (links ++ link ∷ []) (Some (lesser found (target link)))
    least_more None L never = this_one never (λ other i l. L other i)
    least_more (Some n) L never = elim (cases_lt n (target link)) [
      | inl s ↦ subst (λ t. IsLeastTarget g rule (links ++ link ∷ []) (cond t n (target link))) (sym (lt-ltb n (target link) s)) (still n s L)
      | inr s ↦ subst (λ t. IsLeastTarget g rule (links ++ link ∷ []) (cond t n (target link))) (sym (le-ltb n (target link) s)) (this_one never (λ other i l. L.earlier_nodes other i (omega arith)))
    ]
