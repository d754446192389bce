use Rattle.std.proofs.Common.{◌≡◌, ◌+◌, ◌<◌, ◌≤◌, ℕ, count_by, take, length, cond, Bool, true, false, refl, ap, ◌∙◌, arith, rules}
use mir.Val.{bool_byte}
use Rattle.gp_form.specs.LineSize.{is_opening, is_closing}
use Rattle.gp_form.proofs.FormTurns.{opens_here, opens_nowhere, counted}
use Rattle.gp_form.proofs.line_size.opens_too_many.Goals as goal

byte_is : (b : Bool) → bool_byte b ≡ cond b 1 0
byte_is true = refl
byte_is false = refl

pub returns-then-opened-closed : goal.returns-then-opened-closed
returns-then-opened-closed c =
    let ts = c.args.tokens.now in
    let i = c.loop-token.token-index in
    let opened = counted is_opening ts i c.token-item.result c.loop-token-test.true c.token-item.is in
    let closed = counted is_closing ts i c.token-item.result c.loop-token-test.true c.token-item.is in
    let over : count_by is_closing (take (i + 1) ts) + 50 < count_by is_opening (take (i + 1) ts) =
    let a : ◌≡◌ {A = ℕ} c.from-opened.result (cond (is_opening c.token-item.result) 1 0) = c.from-opened.ensures ∙ ap bool_byte c.is_opening.ensures ∙ byte_is (is_opening c.token-item.result) in
    let b : ◌≡◌ {A = ℕ} c.from-closed.result (cond (is_closing c.token-item.result) 1 0) = c.from-closed.ensures ∙ ap bool_byte c.is_closing.ensures ∙ byte_is (is_closing c.token-item.result) in
    omega arith in
    (λ e. opens_here ts (i + 1) over, λ many. search rules)

pub returns : goal.returns
returns c =
    let ts = c.args.tokens.now in
    let within : (k : ℕ) → k ≤ length ts → count_by is_opening (take k ts) ≤ count_by is_closing (take k ts) + 50 = λ k le. c.loop-token.invariant.within k (omega arith) in
    (λ e. absurd cc, λ many. absurd (opens_nowhere ts within many))
