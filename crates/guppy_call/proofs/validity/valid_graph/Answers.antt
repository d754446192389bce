use Rattle.guppy_call.proofs.ValidTexts.{long_text, unread_text, invalid_text}
use Rattle.guppy_call.proofs.validity.valid_graph.Goals as goal

pub returns-then-text-gt-MAX_TEXT_BYTES-clause-refused : goal.returns-then-text-gt-MAX_TEXT_BYTES-clause-refused
returns-then-text-gt-MAX_TEXT_BYTES-clause-refused c = long_text c.args.text.now c.if-text-gt-MAX_TEXT_BYTES.true

pub returns-in-Err-clause-refused : goal.returns-in-Err-clause-refused
returns-in-Err-clause-refused c = unread_text c.args.text.now c.in-Err.fault c.from.result c.if-text-gt-MAX_TEXT_BYTES.false c.in-Err.ensures c.from.ensures

pub returns-in-Err-validate-clause-refused : goal.returns-in-Err-validate-clause-refused
returns-in-Err-validate-clause-refused c =
    invalid_text c.args.text.now c.in-Ok.graph c.error_of.result c.if-text-gt-MAX_TEXT_BYTES.false c.in-Ok.ensures (c.error_of.ensures c.in-Ok.graph c.in-Err-validate.ensures.err)
