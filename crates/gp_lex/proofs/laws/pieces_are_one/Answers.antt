use Rattle.gp_lex.proofs.Lexed.{pieces_are_one as law}
use Rattle.gp_lex.proofs.laws.pieces_are_one.Goals as goal

pub returns : goal.returns
returns c = law
