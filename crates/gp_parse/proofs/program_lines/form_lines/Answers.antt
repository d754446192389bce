use Rattle.std.proofs.Common.{◌≡◌, ◌+◌, ◌++◌, ◌∷◌, [], List, map, take, sym, ap, subst, ◌∙◌, rules}
use Rattle.std.proofs.lemmas.List.{map-append}
use Rattle.std.proofs.lemmas.Result.{err_from_is_err_and}
use Rattle.gp_parse.specs.declared.form_line.FormLine.{FormLine}
use Rattle.gp_parse.specs.Nesting.{Line}
use Rattle.gp_parse.specs.FormLine.{line_of}
use Rattle.gp_parse.specs.Programs.{HaveForms}
use Rattle.gp_parse.proofs.ProgramForms.{one_turn, stops}
use Rattle.gp_parse.proofs.program_lines.form_lines.Goals as goal

pub loop-line-preserved : goal.loop-line-preserved
loop-line-preserved c =
    let at = c.loop-line in
    let one = one_turn c.args.lines.now at.line-index c.line-item.result (map line_of at.forms.items) (line_of c.in_ok-form_line.field-0) c.loop-line-test.true c.line-item.is at.invariant c.in_ok-form_line.ensures in
    let pushed : c.push.new.self.items ≡ at.forms.items ++ c.in_ok-form_line.field-0 ∷ [] = search (rules, c.in_ok-push.ensures.items) in
    subst (λ (z : List Line). HaveForms (take (at.line-index + 1) c.args.lines.now) z) (sym (ap (λ (z : List FormLine). map line_of z) pushed ∙ map-append line_of at.forms.items (c.in_ok-form_line.field-0 ∷ []))) one

pub returns-in_err-form_line : goal.returns-in_err-form_line
returns-in_err-form_line c =
    let at = c.loop-line in
    let p = err_from_is_err_and c.from_residual.result c.from_residual.ensures.1 in
    rw (p.1, p.2)
    (stops c.args.lines.now at.line-index c.line-item.result (map line_of at.forms.items) c.in_err-form_line.field-0.0 c.loop-line-test.true c.line-item.is at.invariant c.in_err-form_line.ensures)
