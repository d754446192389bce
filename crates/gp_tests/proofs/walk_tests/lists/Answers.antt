use Rattle.std.proofs.Common.{◌≡◌, inl, inr, ℕ, ◌<◌, List, [], length, get_or, subst, arith}
use Rattle.std.specs.Prelude.{All}
use Rattle.std.proofs.lemmas.Bool.{cases_lt}
use Rattle.std.proofs.lemmas.List.{get_or_past}
use Rattle.gp_base.specs.Membership.{In}
use Rattle.walks.specs.Walks.{row, IsClosed}
use Rattle.walks.proofs.WalkLemmas.{place_in}
use Rattle.gp_tests.proofs.walk_tests.lists.Goals as goal

closed : (lists : List (List ℕ)) (count : ℕ) → length lists ≡ count → All (λ nodes. All (λ node. node < count) nodes) lists → IsClosed lists
closed lists count e each = record {
  within = λ a b i. elim (cases_lt a (length lists)) [
    | inl l ↦
        let p = place_in b (row lists a) i in
        let h : get_or (row lists a) p.0 0 < count = each a [] l p.0 0 p.1 in
        let q : get_or (row lists a) p.0 0 ≡ b = p.2 in
        omega arith
    | inr l ↦ absurd (subst (λ (ns : List ℕ). In b ns) (get_or_past lists a [] l) i)
  ];
}

pub returns-clause-closed : goal.returns-clause-closed
returns-clause-closed c =
    let count : length c.loop-row.lists.items ≡ length c.args.rows.now = omega (arith, c.loop-row.invariant.longer, c.loop-row-test.false) in
    closed c.loop-row.lists.items (length c.args.rows.now) count c.loop-row.invariant.closed
