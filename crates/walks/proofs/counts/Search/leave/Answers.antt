use Rattle.std.proofs.Common.{◌≡◌, ◌-◌, take, vec_len, ◌+◌, ◌<◌, ℕ, length, ap, ◌∙◌, cond, true, false, arith}
use Rattle.walks.specs.Walks.{row}
use Rattle.walks.specs.Counts.{mark, is_marked}
use Rattle.walks.proofs.Searches.{last_is_open, row_read, rows_in, best_below, gone_left, greatest_of}
use Rattle.walks.proofs.counts.Search.leave.Goals as goal
use Rattle.walks.proofs.counts.Search.leave.Goals.{then-marks-node, else-marks-node}

pub greatest-best-requires : goal.greatest-best-requires
greatest-best-requires c =
    let lists = c.args.successors.now in
    let s = c.args.self.now in
    let o = last_is_open lists c.args.marks.now s.steps.items s.path.items s.counts.items c.args.node c.requires.search c.requires.last in
    rows_in lists c.requires.closed c.args.node c.as_slice.result.now c.deref.result.now
    (row_read lists c.args.node c.index-successors-node.result c.as_slice.result.now o.0 c.index-successors-node.is c.as_slice.ensures)
    (ap length c.deref.ensures.value ∙ c.requires.search.count_count)

pub overflow_add-count : goal.overflow_add-count
overflow_add-count c =
    let lists = c.args.successors.now in
    let s = c.args.self.now in
    let o = last_is_open lists c.args.marks.now s.steps.items s.path.items s.counts.items c.args.node c.requires.search c.requires.last in
    let nodes = row_read lists c.args.node c.index-successors-node.result c.as_slice.result.now o.0 c.index-successors-node.is c.as_slice.ensures in
    let h : c.greatest-best.result < length lists =
    best_below lists c.requires.closed c.args.marks.now s.steps.items s.path.items s.counts.items c.as_slice.result.now c.args.node c.greatest-best.result
    c.requires.search c.requires.last c.requires.last_step nodes
    (greatest_of c.as_slice.result.now c.deref.result.now s.counts.items c.greatest-best.result c.deref.ensures.value c.greatest-best.ensures.each c.greatest-best.ensures.one) in
    let k : length c.deref.result.now ≡ length lists = ap length c.deref.ensures.value ∙ c.requires.search.count_count in
    omega (arith, c.deref.type_inv.0)

pub returns : goal.returns
returns c =
    let lists = c.args.successors.now in
    let marks = c.args.marks.now in
    let s = c.args.self.now in
    let o = last_is_open lists marks s.steps.items s.path.items s.counts.items c.args.node c.requires.search c.requires.last in
    let nodes : c.as_slice.result.now ≡ row lists c.args.node = row_read lists c.args.node c.index-successors-node.result c.as_slice.result.now o.0 c.index-successors-node.is c.as_slice.ensures in
    let best : ℕ = c.greatest-best.result in
    let count : c.if-marks-node.count ≡ mark marks c.args.node + best =
    elim c.if-marks-node.branch [
      | then-marks-node w ↦ let m : is_marked marks c.args.node ≡ true = w.if-marks-node.true in let k : mark marks c.args.node ≡ 1 = ap (λ b. cond b 1 0) m in let i : c.if-marks-node.count ≡ best + 1 = w.count-is in omega arith
      | else-marks-node w ↦ let m : is_marked marks c.args.node ≡ false = w.if-marks-node.false in let k : mark marks c.args.node ≡ 0 = ap (λ b. cond b 1 0) m in let i : c.if-marks-node.count ≡ best = w.count-is in omega arith
    ] in
    let shown : vec_len s.path ≡ length s.path.items = omega (arith, s.path.ok.0) in
    gone_left lists c.requires.closed marks s.steps.items s.path.items c.pop.new.self.items s.counts.items c.as_slice.result.now c.args.node best c.if-marks-node.count
    c.requires.search c.requires.last c.requires.last_step (c.pop.ensures.rest ∙ ap (λ n. take (n - 1) s.path.items) shown) nodes
    (greatest_of c.as_slice.result.now c.deref.result.now s.counts.items best c.deref.ensures.value c.greatest-best.ensures.each c.greatest-best.ensures.one)
    count
