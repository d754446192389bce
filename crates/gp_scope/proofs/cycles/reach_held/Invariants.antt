use Rattle.std.proofs.Common.{◌≡◌, ℕ, List, ◌+◌, ◌||◌, ◌&&◌, None, is_some, if◌then◌else◌, vec_len}
use Rattle.indexmap.specs.IndexMap.{index_map_len}
use Rattle.gp_scope.specs.Checks.{is_among}
use Rattle.gp_scope.specs.Tables.{struct_at, texts_of}
use Rattle.gp_scope.proofs.cycles.reach_held.Given as goal

-- the names so far were taken out of the table, and those that it had wait
abbrev pub invariant-loop-name : goal.invariant-loop-name
invariant-loop-name l = record {
  seen : (q : List ℕ) → struct_at l.unseen q ≡ (if is_among q (texts_of l.yielded) then None else struct_at l.initial.unseen q);
  waiting : (q : List ℕ) → is_among q (texts_of l.waiting.items) ≡ (is_among q (texts_of l.initial.waiting.items) || (is_among q (texts_of l.yielded) && is_some (struct_at l.initial.unseen q)));
  count : vec_len l.waiting + index_map_len l.unseen ≡ vec_len l.initial.waiting + index_map_len l.initial.unseen;
}
