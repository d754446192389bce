use Rattle.std.proofs.Common.{sym, ◌∙◌}
use Rattle.gp_lex.specs.Tokens.{closing}
use Rattle.gp_lex.proofs.Strings.{closing_bound}
use Rattle.gp_lex.proofs.Closing.{closes_here, closes_nowhere, passes_other, passes_backslash}
use Rattle.gp_lex.proofs.quoted.closing.Goals as goal

pub returns-then-begins_thrice : goal.returns-then-begins_thrice
returns-then-begins_thrice c =
    let e = closes_here c.args.quote c.loop-len.len c.index-text-len.result c.args.text.now c.split_at.result.1.now (closing c.args.quote c.args.text.now) c.loop-len-test.true
    c.index-text-len.is c.if-text-len-eq92.false c.split_at.ensures.back (sym c.begins_thrice.ensures ∙ c.if-begins_thrice.true) c.loop-len.invariant.1 in
    record { value = e; bound = closing_bound c.args.quote c.args.text.now c.loop-len.len (sym e) }

pub loop-len-preserved : goal.loop-len-preserved
loop-len-preserved c =
    passes_other c.args.quote c.loop-len.len c.index-text-len.result c.args.text.now c.split_at.result.1.now (closing c.args.quote c.args.text.now) c.loop-len-test.true
    c.index-text-len.is c.if-text-len-eq92.false c.split_at.ensures.back (sym c.begins_thrice.ensures ∙ c.if-begins_thrice.false) c.loop-len.invariant.1

pub loop-len-preserved-then-text-len-eq92 : goal.loop-len-preserved-then-text-len-eq92
loop-len-preserved-then-text-len-eq92 c =
    passes_backslash c.args.quote c.loop-len.len c.index-text-len.result c.args.text.now (closing c.args.quote c.args.text.now) c.loop-len-test.true
    c.index-text-len.is c.if-text-len-eq92.true c.loop-len.invariant.1

pub returns-clause-value : goal.returns-clause-value
returns-clause-value c = sym (c.loop-len.invariant.1 ∙ closes_nowhere c.args.quote c.loop-len.len c.args.text.now c.loop-len.invariant.0 c.loop-len-test.false)
