use Rattle.std.proofs.Common.{◌≡◌, ℕ, ◌+◌, length, take, sym, ap, subst, ◌∙◌, arith}
use Rattle.std.specs.Prelude.{chars}
use Rattle.gp_base.specs.declared.name.LineNo.{LineNo}
use Rattle.gp_lex.specs.declared.fault.LexFault.TheVariants.{NotUtf8}
use Rattle.gp_lex.specs.Chars.{Text, line_feeds}
use Rattle.gp_lex.specs.Pieces.{line_no}
use Rattle.gp_lex.specs.Lines.{without_mark, source, HasFault, not_utf8}
use Rattle.gp_lex.specs.code.Reading.{Gives, lines_of}
use Rattle.gp_lex.proofs.Lexed.{lexed, source_len}
use Rattle.gp_lex.proofs.reader.lines.Goals as goal

pub returns-in-Err : goal.returns-in-Err
returns-in-Err c =
    let place = c.valid_up_to.ensures ∙ c.in-Err.ensures.valid_len in
    let line = c.line_behind.ensures ∙ ap (λ (n : ℕ). line_no (line_feeds (take n c.args.text.now) + 1)) place in
    subst (λ (z : LineNo). HasFault c.args.text.now (NotUtf8 z)) (sym line) (not_utf8 c.in-Err.ensures.cases.0)

pub lines_of-requires : goal.lines_of-requires
lines_of-requires c =
    let is : c.without_mark.result.now ≡ source c.args.text.now =
    c.without_mark.ensures ∙ ap without_mark (c.as_slice.ensures.value ∙ c.in_ok-characters.ensures ∙ ap chars c.in-Ok.ensures.cases.0) in
    omega (arith, ap length is, source_len c.args.text.now c.in-Ok.ensures.cases.1)

pub returns : goal.returns
returns c =
    let is : c.without_mark.result.now ≡ source c.args.text.now =
    c.without_mark.ensures ∙ ap without_mark (c.as_slice.ensures.value ∙ c.in_ok-characters.ensures ∙ ap chars c.in-Ok.ensures.cases.0) in
    lexed c.args.text.now c.lines_of.result c.in-Ok.ensures.cases.1 (subst (λ (z : Text). Gives (λ ls. ls) c.lines_of.result (lines_of z)) is c.lines_of.ensures)
