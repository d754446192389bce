use Rattle.std.proofs.Common.{◌≡◌, ◌<◌, ◌++◌, ◌∷◌, [], ℕ, List, Bool, inl, inr, length, get_or, slice_set, subst, sym, arith, false, true, ◌∙◌, ap}
use Rattle.std.proofs.lemmas.Bool.{cases_eq}
use Rattle.std.proofs.lemmas.List.{get_or_read}
use Rattle.gp_base.specs.Membership.{In}
use Rattle.walks.specs.Walks.{row, Leads}
use Rattle.walks.specs.Counts.{is_marked}
use Rattle.walks.specs.code.Reach.{IsReach, HasGrown}
use Rattle.walks.specs.declared.back.Reach.{Reach}
use Rattle.walks.proofs.WalkLemmas.{place_in, in_place}
use Rattle.walks.proofs.Searches.{row_read}
use Rattle.walks.proofs.Reached.{reached_one, grown_on, walk_to}
use Rattle.walks.proofs.back.Reach.follow.Goals as goal
use Rattle.walks.proofs.back.Reach.follow.Goals.{then-not-index+in_ok-push, else-not-index}

pub index-requires : goal.index-requires
index-requires c =
    let lists = c.args.successors.now in
    let s = c.loop-next.self in
    let nodes : c.as_slice-next-items.result.now ≡ row lists c.args.node = row_read lists c.args.node c.index-successors-node.result c.as_slice-next-items.result.now c.requires.node_in c.index-successors-node.is c.as_slice-next-items.ensures in
    let i : Leads lists c.args.node (get_or c.as_slice-next-items.result.now c.loop-next.next-index 0) =
    subst (λ (ns : List ℕ). In (get_or c.as_slice-next-items.result.now c.loop-next.next-index 0) ns) nodes (in_place c.as_slice-next-items.result.now c.loop-next.next-index c.loop-next-test.true) in
    let l = c.requires.closed.within c.args.node _ i in
    let e : length s.reached.items ≡ length lists = c.loop-next.invariant.reach.count in
    omega (arith, l, s.reached.ok.0)

pub index_mut-requires : goal.index_mut-requires
index_mut-requires c =
    let lists = c.args.successors.now in
    let s = c.loop-next.self in
    let nodes : c.as_slice-next-items.result.now ≡ row lists c.args.node = row_read lists c.args.node c.index-successors-node.result c.as_slice-next-items.result.now c.requires.node_in c.index-successors-node.is c.as_slice-next-items.ensures in
    let i : Leads lists c.args.node (get_or c.as_slice-next-items.result.now c.loop-next.next-index 0) =
    subst (λ (ns : List ℕ). In (get_or c.as_slice-next-items.result.now c.loop-next.next-index 0) ns) nodes (in_place c.as_slice-next-items.result.now c.loop-next.next-index c.loop-next-test.true) in
    let l = c.requires.closed.within c.args.node _ i in
    let e : length s.reached.items ≡ length lists = c.loop-next.invariant.reach.count in
    omega (arith, l, s.reached.ok.0)

pub loop-next-preserved : goal.loop-next-preserved
loop-next-preserved c =
    let lists = c.args.successors.now in
    let start : ℕ = c.args.self.now.start in
    let s = c.loop-next.self in
    let items : List ℕ = c.as_slice-next-items.result.now in
    let k : ℕ = c.loop-next.next-index in
    let next : ℕ = get_or items k 0 in
    let nodes : items ≡ row lists c.args.node = row_read lists c.args.node c.index-successors-node.result items c.requires.node_in c.index-successors-node.is c.as_slice-next-items.ensures in
    let i : Leads lists c.args.node next = subst (λ (ns : List ℕ). In next ns) nodes (in_place items k c.loop-next-test.true) in
    let l : next < length lists = c.requires.closed.within c.args.node next i in
    let R : IsReach lists start s.reached.items s.nodes.items = c.loop-next.invariant.reach in
    let G : HasGrown c.args.self.now.reached.items s.reached.items c.args.self.now.nodes.items s.nodes.items = c.loop-next.invariant.grown in
    let e : length s.reached.items ≡ length lists = R.count in
    let within : next < length s.reached.items = omega arith in
    let read : c.index.result.now ≡ is_marked s.reached.items next = get_or_read s.reached.items next c.index.result.now within c.index.ensures false in
    elim c.if-not-index.branch [
      | then-not-index+in_ok-push w ↦
          let new : is_marked s.reached.items next ≡ false = sym read ∙ w.if-not-index.true in
          let O = reached_one lists start s.reached.items s.nodes.items R next l (walk_to lists start c.args.node next c.args.self.now.reached.items c.args.self.now.nodes.items c.requires.reach c.requires.node_is i) new in
          let re : c.if-not-index.self.reached.items ≡ slice_set s.reached.items next true = ap (λ (v : Reach). v.reached.items) w.self-is in
          let ne : c.if-not-index.self.nodes.items ≡ s.nodes.items ++ next ∷ [] = ap (λ (v : Reach). v.nodes.items) w.self-is ∙ w.in_ok-push.ensures.items in
          let R' = subst (λ (xs : List Bool). IsReach lists start xs c.if-not-index.self.nodes.items) (sym re) (subst (λ (xs : List ℕ). IsReach lists start (slice_set s.reached.items next true) xs) (sym ne) O.0) in
          let H : HasGrown s.reached.items c.if-not-index.self.reached.items s.nodes.items c.if-not-index.self.nodes.items =
          subst (λ (xs : List Bool). HasGrown s.reached.items xs s.nodes.items c.if-not-index.self.nodes.items) (sym re) (subst (λ (xs : List ℕ). HasGrown s.reached.items (slice_set s.reached.items next true) s.nodes.items xs) (sym ne) O.1) in
          record {
            reach = R';
            start_is = ap (λ (v : Reach). v.start) w.self-is ∙ c.loop-next.invariant.start_is;
            grown = grown_on _ _ _ _ _ _ G H;
            so_far = λ j h. elim (cases_eq j k) [
              | inl f ↦ ap (λ n. is_marked c.if-not-index.self.reached.items (get_or items n 0)) f ∙ ap (λ xs. is_marked xs next) re ∙ O.2
              | inr nf ↦ H.kept _ (c.loop-next.invariant.so_far j (omega arith))
            ];
          }
      | else-not-index w ↦
          let old : is_marked s.reached.items next ≡ true = sym read ∙ w.if-not-index.false in
          let same = sym w.self-is in
          record {
            reach = subst (λ (v : Reach). IsReach lists start v.reached.items v.nodes.items) same R;
            start_is = ap (λ (v : Reach). v.start) w.self-is ∙ c.loop-next.invariant.start_is;
            grown = subst (λ (v : Reach). HasGrown c.args.self.now.reached.items v.reached.items c.args.self.now.nodes.items v.nodes.items) same G;
            so_far = λ j h. ap (λ (v : Reach). is_marked v.reached.items (get_or items j 0)) w.self-is ∙ elim (cases_eq j k) [
              | inl f ↦ ap (λ n. is_marked s.reached.items (get_or items n 0)) f ∙ old
              | inr nf ↦ c.loop-next.invariant.so_far j (omega arith)
            ];
          }
    ]

pub returns-clause-followed : goal.returns-clause-followed
returns-clause-followed c =
    let lists = c.args.successors.now in
    let items : List ℕ = c.as_slice-next-items.result.now in
    let nodes : items ≡ row lists c.args.node = row_read lists c.args.node c.index-successors-node.result items c.requires.node_in c.index-successors-node.is c.as_slice-next-items.ensures in
    let t = c.loop-next-test.false in
    record {
      reach = c.loop-next.invariant.reach;
      grown = c.loop-next.invariant.grown;
      all = λ b i.
          let r = place_in b items (subst (λ (ns : List ℕ). In b ns) (sym nodes) i) in
          let h : r.0 < length items = r.1 in
          ap (is_marked c.loop-next.self.reached.items) (sym r.2) ∙ c.loop-next.invariant.so_far r.0 (omega arith);
    }
