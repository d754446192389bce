use Rattle.gp_scope.specs.code.NamesOf.{AreWhole}
use Rattle.gp_scope.proofs.phase.make_scope.Goals as goal

pub returns : goal.returns
returns c =
    let known : AreWhole c.args.names = assumption in
    record {
      imports_are = known.0.0;
      structs_are = c.in_ok-structs.ensures;
      signatures_are = c.in_ok-signatures.ensures;
      functions_are = c.function_count-functions.ensures;
      annotated_are = c.in_ok-annotated.ensures;
      structs_have_fields = known.1;
    }
