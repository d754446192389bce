use Rattle.std.proofs.Common.{◌≡◌, ℕ, ◌+◌, ◌≤◌, take, count_by}
use Rattle.gp_form.specs.LineSize.{is_opening, is_closing}
use Rattle.gp_form.proofs.line_size.opens_too_many.Given as goal

abbrev pub invariant-loop-token : goal.invariant-loop-token
invariant-loop-token l = record {
  opened : l.opened ≡ count_by is_opening (take l.token-index l.tokens);
  closed : l.closed ≡ count_by is_closing (take l.token-index l.tokens);
  within : (k : ℕ) → k ≤ l.token-index → count_by is_opening (take k l.tokens) ≤ count_by is_closing (take k l.tokens) + 50;
}
