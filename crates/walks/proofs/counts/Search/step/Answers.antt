use Rattle.std.proofs.Common.{◌≡◌, refl, ◌-◌, ◌<◌, ◌≤◌, ℕ, length, get_or, sym, ap, ◌∙◌, arith}
use Rattle.std.proofs.lemmas.List.{get_or_read}
use Rattle.walks.specs.Walks.{row}
use Rattle.walks.proofs.Searches.{IsNext, last_is_open, row_read, next_in, gone_looked, cycle_seen, gone_in}
use Rattle.walks.proofs.counts.Search.step.Goals as goal

pub index-next_left-requires : goal.index-next_left-requires
index-next_left-requires c =
    let lists = c.args.successors.now in
    let marks = c.args.marks.now in
    let s = c.args.self.now in
    let o = last_is_open lists marks s.steps.items s.path.items s.counts.items c.args.node c.requires.search c.requires.last in
    let next : ℕ = get_or c.as_slice.result.now (c.index-left.result.now - 2) 0 in
    let N : IsNext lists c.as_slice.result.now s.steps.items c.args.node c.index-left.result.now next = record {
      nodes_are = row_read lists c.args.node c.index-successors-node.result c.as_slice.result.now o.0 c.index-successors-node.is c.as_slice.ensures;
      left_is = get_or_read s.steps.items c.args.node c.index-left.result.now o.1 c.index-left.ensures 0;
      further = c.if-left-eq1.false;
      next_is = refl;
    } in
    let h = next_in lists c.requires.closed marks s.steps.items s.path.items s.counts.items c.as_slice.result.now c.args.node c.index-left.result.now next c.requires.search c.requires.last N in
    omega (arith, s.steps.ok.0, h.1)

pub returns-then-next_left-eq0 : goal.returns-then-next_left-eq0
returns-then-next_left-eq0 c =
    let lists = c.args.successors.now in
    let marks = c.args.marks.now in
    let s = c.args.self.now in
    let o = last_is_open lists marks s.steps.items s.path.items s.counts.items c.args.node c.requires.search c.requires.last in
    let next : ℕ = get_or c.as_slice.result.now (c.index-left.result.now - 2) 0 in
    let N : IsNext lists c.as_slice.result.now s.steps.items c.args.node c.index-left.result.now next = record {
      nodes_are = row_read lists c.args.node c.index-successors-node.result c.as_slice.result.now o.0 c.index-successors-node.is c.as_slice.ensures;
      left_is = get_or_read s.steps.items c.args.node c.index-left.result.now o.1 c.index-left.ensures 0;
      further = c.if-left-eq1.false;
      next_is = refl;
    } in
    let h = next_in lists c.requires.closed marks s.steps.items s.path.items s.counts.items c.as_slice.result.now c.args.node c.index-left.result.now next c.requires.search c.requires.last N in
    gone_looked lists marks s.steps.items s.path.items s.counts.items c.as_slice.result.now c.args.node c.index-left.result.now next c.requires.search c.requires.last N
    (sym (get_or_read s.steps.items next c.index-next_left.result.now h.1 c.index-next_left.ensures 0) ∙ c.if-next_left-eq0.true)

pub bounds-successors-next : goal.bounds-successors-next
bounds-successors-next c =
    let lists = c.args.successors.now in
    let marks = c.args.marks.now in
    let s = c.args.self.now in
    let o = last_is_open lists marks s.steps.items s.path.items s.counts.items c.args.node c.requires.search c.requires.last in
    let next : ℕ = get_or c.as_slice.result.now (c.index-left.result.now - 2) 0 in
    let N : IsNext lists c.as_slice.result.now s.steps.items c.args.node c.index-left.result.now next = record {
      nodes_are = row_read lists c.args.node c.index-successors-node.result c.as_slice.result.now o.0 c.index-successors-node.is c.as_slice.ensures;
      left_is = get_or_read s.steps.items c.args.node c.index-left.result.now o.1 c.index-left.ensures 0;
      further = c.if-left-eq1.false;
      next_is = refl;
    } in
    (next_in lists c.requires.closed marks s.steps.items s.path.items s.counts.items c.as_slice.result.now c.args.node c.index-left.result.now next c.requires.search c.requires.last N).0

pub offset_bounds-successors-next : goal.offset_bounds-successors-next
offset_bounds-successors-next c =
    let lists = c.args.successors.now in
    let marks = c.args.marks.now in
    let s = c.args.self.now in
    let o = last_is_open lists marks s.steps.items s.path.items s.counts.items c.args.node c.requires.search c.requires.last in
    let next : ℕ = get_or c.as_slice.result.now (c.index-left.result.now - 2) 0 in
    let N : IsNext lists c.as_slice.result.now s.steps.items c.args.node c.index-left.result.now next = record {
      nodes_are = row_read lists c.args.node c.index-successors-node.result c.as_slice.result.now o.0 c.index-successors-node.is c.as_slice.ensures;
      left_is = get_or_read s.steps.items c.args.node c.index-left.result.now o.1 c.index-left.ensures 0;
      further = c.if-left-eq1.false;
      next_is = refl;
    } in
    let h : next < length lists = (next_in lists c.requires.closed marks s.steps.items s.path.items s.counts.items c.as_slice.result.now c.args.node c.index-left.result.now next c.requires.search c.requires.last N).0 in
    omega arith

pub returns-then-next_left-len : goal.returns-then-next_left-len
returns-then-next_left-len c =
    let lists = c.args.successors.now in
    let marks = c.args.marks.now in
    let s = c.args.self.now in
    let o = last_is_open lists marks s.steps.items s.path.items s.counts.items c.args.node c.requires.search c.requires.last in
    let next : ℕ = get_or c.as_slice.result.now (c.index-left.result.now - 2) 0 in
    let N : IsNext lists c.as_slice.result.now s.steps.items c.args.node c.index-left.result.now next = record {
      nodes_are = row_read lists c.args.node c.index-successors-node.result c.as_slice.result.now o.0 c.index-successors-node.is c.as_slice.ensures;
      left_is = get_or_read s.steps.items c.args.node c.index-left.result.now o.1 c.index-left.ensures 0;
      further = c.if-left-eq1.false;
      next_is = refl;
    } in
    let h = next_in lists c.requires.closed marks s.steps.items s.path.items s.counts.items c.as_slice.result.now c.args.node c.index-left.result.now next c.requires.search c.requires.last N in
    let left : c.index-next_left.result.now ≡ get_or s.steps.items next 0 = get_or_read s.steps.items next c.index-next_left.result.now h.1 c.index-next_left.ensures 0 in
    let count : c.len.result ≡ length (row lists next) = c.len.ensures ∙ ap length (row_read lists next c.index-successors-next.result c.index-successors-next.result h.0 c.index-successors-next.is refl) in
    let few : c.index-next_left.result.now - 1 ≤ c.len.result = c.if-next_left-len.true in
    cycle_seen lists c.requires.closed marks s.steps.items s.path.items s.counts.items c.as_slice.result.now c.args.node c.index-left.result.now next c.requires.search c.requires.last N
    (λ e. c.if-next_left-eq0.false (left ∙ e)) (omega arith)

pub enter-requires-clause-node_in : goal.enter-requires-clause-node_in
enter-requires-clause-node_in c =
    let lists = c.args.successors.now in
    let marks = c.args.marks.now in
    let s = c.args.self.now in
    let o = last_is_open lists marks s.steps.items s.path.items s.counts.items c.args.node c.requires.search c.requires.last in
    let next : ℕ = get_or c.as_slice.result.now (c.index-left.result.now - 2) 0 in
    let N : IsNext lists c.as_slice.result.now s.steps.items c.args.node c.index-left.result.now next = record {
      nodes_are = row_read lists c.args.node c.index-successors-node.result c.as_slice.result.now o.0 c.index-successors-node.is c.as_slice.ensures;
      left_is = get_or_read s.steps.items c.args.node c.index-left.result.now o.1 c.index-left.ensures 0;
      further = c.if-left-eq1.false;
      next_is = refl;
    } in
    (next_in lists c.requires.closed marks s.steps.items s.path.items s.counts.items c.as_slice.result.now c.args.node c.index-left.result.now next c.requires.search c.requires.last N).1

pub enter-requires-clause-is_new : goal.enter-requires-clause-is_new
enter-requires-clause-is_new c =
    let lists = c.args.successors.now in
    let marks = c.args.marks.now in
    let s = c.args.self.now in
    let o = last_is_open lists marks s.steps.items s.path.items s.counts.items c.args.node c.requires.search c.requires.last in
    let next : ℕ = get_or c.as_slice.result.now (c.index-left.result.now - 2) 0 in
    let N : IsNext lists c.as_slice.result.now s.steps.items c.args.node c.index-left.result.now next = record {
      nodes_are = row_read lists c.args.node c.index-successors-node.result c.as_slice.result.now o.0 c.index-successors-node.is c.as_slice.ensures;
      left_is = get_or_read s.steps.items c.args.node c.index-left.result.now o.1 c.index-left.ensures 0;
      further = c.if-left-eq1.false;
      next_is = refl;
    } in
    let h = next_in lists c.requires.closed marks s.steps.items s.path.items s.counts.items c.as_slice.result.now c.args.node c.index-left.result.now next c.requires.search c.requires.last N in
    let left : c.index-next_left.result.now ≡ get_or s.steps.items next 0 = get_or_read s.steps.items next c.index-next_left.result.now h.1 c.index-next_left.ensures 0 in
    let f = c.if-next_left-eq0.false in
    omega arith

pub returns : goal.returns
returns c =
    let lists = c.args.successors.now in
    let marks = c.args.marks.now in
    let s = c.args.self.now in
    let o = last_is_open lists marks s.steps.items s.path.items s.counts.items c.args.node c.requires.search c.requires.last in
    let next : ℕ = get_or c.as_slice.result.now (c.index-left.result.now - 2) 0 in
    let N : IsNext lists c.as_slice.result.now s.steps.items c.args.node c.index-left.result.now next = record {
      nodes_are = row_read lists c.args.node c.index-successors-node.result c.as_slice.result.now o.0 c.index-successors-node.is c.as_slice.ensures;
      left_is = get_or_read s.steps.items c.args.node c.index-left.result.now o.1 c.index-left.ensures 0;
      further = c.if-left-eq1.false;
      next_is = refl;
    } in
    let h = next_in lists c.requires.closed marks s.steps.items s.path.items s.counts.items c.as_slice.result.now c.args.node c.index-left.result.now next c.requires.search c.requires.last N in
    let left : c.index-next_left.result.now ≡ get_or s.steps.items next 0 = get_or_read s.steps.items next c.index-next_left.result.now h.1 c.index-next_left.ensures 0 in
    let count : c.len.result ≡ length (row lists next) = c.len.ensures ∙ ap length (row_read lists next c.index-successors-next.result c.index-successors-next.result h.0 c.index-successors-next.is refl) in
    let many : c.len.result < c.index-next_left.result.now - 1 = c.if-next_left-len.false in
    gone_in lists c.requires.closed marks s.steps.items c.enter.new.self.steps.items s.path.items c.enter.new.self.path.items s.counts.items c.enter.new.self.counts.items c.as_slice.result.now c.args.node
    c.index-left.result.now next c.requires.search c.requires.last N (omega arith) c.in_ok-enter.ensures.steps c.in_ok-enter.ensures.path c.in_ok-enter.ensures.counts
