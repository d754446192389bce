use Rattle.gp_front.proofs.OneAnswer.{texts_have_one_answer}
use Rattle.gp_front.proofs.laws.one_answer.Goals as goal

pub returns : goal.returns
returns c = texts_have_one_answer c.lines_or_fault.ensures
