use Rattle.std.proofs.Common.{◌≡◌, ◌↔◌, IsTrue, Bool, true, false, sym, ap, ◌∙◌}
use Rattle.gp_form.specs.code.FormReading as spec
use Rattle.gp_form.specs.LineSize.{IsTooBig}
use Rattle.gp_form.proofs.FormWhole.{found_is, nothing_is}
use Rattle.gp_form.proofs.line.line_form.Goals as goal

not_so : (b : Bool) (P : Type 0) → (IsTrue b ↔ P) → b ≡ false → P → ⊥
not_so true P h e p = absurd cc
not_so false P h e p = let k : IsTrue false = h.1 p in absurd cc

pub returns-in-Ok : goal.returns-in-Ok
returns-in-Ok c =
    let small = rw c.as_slice-tokens.ensures at (not_so c.is_too_big.result (IsTooBig c.as_slice-tokens.result.now) c.is_too_big.ensures c.if-is_too_big.false) in
    let read = ap spec.line (sym c.as_slice-tokens.ensures) ∙ c.in-Ok.ensures in
    found_is c.args.line.now c.in-Ok.found small read

pub returns-in-Err-NotSpelled : goal.returns-in-Err-NotSpelled
returns-in-Err-NotSpelled c =
    let small = rw c.as_slice-tokens.ensures at (not_so c.is_too_big.result (IsTooBig c.as_slice-tokens.result.now) c.is_too_big.ensures c.if-is_too_big.false) in
    let read = ap spec.line (sym c.as_slice-tokens.ensures) ∙ (rw c.in-Err-NotSpelled.field-0-is at c.in-Err-NotSpelled.ensures) in
    nothing_is c.args.line.now small read
