use Rattle.std.proofs.Common.{◌≡◌, ◌+◌, ◌<◌, ◌≤◌, ℕ, length, get_or, sym, ap, subst, ◌∙◌, arith}
use Rattle.std.proofs.lemmas.List.{get_or_read}
use Rattle.walks.specs.Walks.{row}
use Rattle.walks.specs.code.Search.{IsSearch}
use Rattle.walks.specs.declared.counts.Search.{Search}
use Rattle.walks.proofs.Searches.{root_entered}
use Rattle.walks.proofs.counts.Search.run.Goals as goal
use Rattle.walks.proofs.counts.Search.run.Goals.{then-index-gt0+in_ok-enter, else-index-gt0}

pub loop-node-init : goal.loop-node-init
loop-node-init c =
    let lists = c.args.successors.now in
    let marks = c.args.marks.now in
    let s = c.args.self.now in
    let root : ℕ = c.args.root in
    let S : IsSearch lists marks s.steps.items s.path.items s.counts.items = c.requires.search in
    let sl : length s.steps.items ≡ length lists = S.step_count in
    let within : root < length s.steps.items = omega arith in
    let read : c.index.result.now ≡ get_or s.steps.items root 0 = get_or_read s.steps.items root c.index.result.now within c.index.ensures 0 in
    elim c.if-index-gt0.branch [
      | then-index-gt0+in_ok-enter w ↦
          let some : 0 < c.index.result.now = w.if-index-gt0.true in
          let E = root_entered lists marks s.steps.items c.if-index-gt0.self.steps.items s.path.items c.if-index-gt0.self.path.items s.counts.items c.if-index-gt0.self.counts.items root S c.requires.begins c.requires.root_in (omega arith)
          (ap (λ (v : Search). v.steps.items) w.self-is ∙ w.in_ok-enter.ensures.steps) (ap (λ (v : Search). v.path.items) w.self-is ∙ w.in_ok-enter.ensures.path) (ap (λ (v : Search). v.counts.items) w.self-is ∙ w.in_ok-enter.ensures.counts) in
          record { search = E.0; falls = E.1; entered = E.2 }
      | else-index-gt0 w ↦
          let none : c.index.result.now ≤ 0 = w.if-index-gt0.false in
          let zero : get_or s.steps.items root 0 ≤ length (row lists root) + 1 = omega arith in
          let same = sym w.self-is in
          record {
            search = subst (λ (v : Search). IsSearch lists marks v.steps.items v.path.items v.counts.items) same S;
            falls = subst (λ (v : Search). (n : ℕ) → get_or v.steps.items n 0 ≤ get_or s.steps.items n 0) same (λ n. omega arith);
            entered = subst (λ (v : Search). get_or v.steps.items root 0 ≤ length (row lists root) + 1) same zero;
          }
    ]
