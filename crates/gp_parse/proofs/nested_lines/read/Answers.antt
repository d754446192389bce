use Rattle.std.proofs.Common.{◌≡◌, ◌∷◌, [], List, Result, length, map, refl, subst, ap, sym, ◌∙◌, arith}
use Rattle.std.proofs.lemmas.Result.{err_from_is_err_and}
use Rattle.std.specs.Vec.Iter.{into_iter_items}
use Rattle.gp_tree.specs.Program.{ProgramItem, program_items}
use Rattle.gp_parse.specs.declared.form_line.FormLine.{FormLine}
use Rattle.gp_parse.specs.FirstFault.{Fault, within}
use Rattle.gp_parse.specs.code.NestingMachine.{read}
use Rattle.gp_parse.specs.FormLine.{line_of}
use Rattle.gp_parse.specs.code.NestingViews.{Follows, state_of}
use Rattle.gp_parse.proofs.Readings.{read_turn, read_stop, read_end, read_of_state}
use Rattle.gp_parse.proofs.nested_lines.read.Goals as goal

nothing_left : {X : Type 0} (l : List X) → length l ≡ 0 → l ≡ []
nothing_left [] h = refl
nothing_left (x ∷ xs) h = absurd (omega arith)

pub loop-line-preserved : goal.loop-line-preserved
loop-line-preserved c =
    let at = c.loop-line in
    let steps : into_iter_items at.line-iterator ≡ c.in-Some.line ∷ into_iter_items c.next.new.self = c.in-Some.ensures.steps.0 in
    let so_far = at.invariant.0 ∙ ap (λ (z : List FormLine). read (within 50) (state_of at.items at.position) at.last (map line_of z)) steps in (
      read_turn (within 50) (state_of at.items at.position) at.last (line_of c.in-Some.line) (map line_of (into_iter_items c.next.new.self)) _ (state_of c.step.new.items c.in_ok-next.next) so_far c.in_ok-next.ensures,
      let was = at.invariant.1 in
          let gone = c.in-Some.ensures.steps.1 in
          let short = ap length steps in
          omega arith,
    )

pub returns-in_err-next : goal.returns-in_err-next
returns-in_err-next c =
    let at = c.loop-line in
    let steps : into_iter_items at.line-iterator ≡ c.in-Some.line ∷ into_iter_items c.next.new.self = c.in-Some.ensures.steps.0 in
    let so_far = at.invariant.0 ∙ ap (λ (z : List FormLine). read (within 50) (state_of at.items at.position) at.last (map line_of z)) steps in
    let p = err_from_is_err_and c.from_residual.result c.from_residual.ensures.1 in
    rw (p.1, p.2)
    (read_of_state c.in_err-next.field-0.0 c.step.new.items _ _ (λ d h. read_stop (within 50) (state_of at.items at.position) at.last (line_of c.in-Some.line) (map line_of (into_iter_items c.next.new.self)) _ d so_far h) c.in_err-next.ensures)

pub returns : goal.returns
returns c =
    let at = c.loop-line in
    let none = c.in-None.ensures.steps in
    let empty : into_iter_items at.line-iterator ≡ [] = nothing_left _ (sym at.invariant.1 ∙ none.0) in
    let so_far = at.invariant.0 ∙ ap (λ (z : List FormLine). read (within 50) (state_of at.items at.position) at.last (map line_of z)) empty in
    subst (λ (z : Result (List ProgramItem) Fault). Follows program_items c.finish.result z) (sym (read_end (within 50) (state_of at.items at.position) at.last _ so_far)) c.finish.ensures
