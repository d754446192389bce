use Rattle.std.proofs.Common.{rules, ◌∙◌}
use Rattle.gp_tree.specs.Program.{function_definition}
use Rattle.gp_types.specs.Signature.{signature_view}
use Rattle.gp_scope.specs.ScopeView.{known_in}
use Rattle.gp_typing.specs.Functions.{function_typing}
use Rattle.gp_typing.specs.View.{block_view, function_view}
use Rattle.gp_typing.proofs.Binds.{exits}
use Rattle.gp_typing.proofs.FunctionLemmas.{function_err, function_ok, whole_copied}
use Rattle.gp_typing.proofs.functions.check_function.Goals as goal

pub returns-in_err-body : goal.returns-in_err-body
returns-in_err-body c =
    exits function_view c.from_residual-in_err-body.result (function_typing (known_in c.args.scope.now) (function_definition c.args.function.now)) c.in_err-body.field-0.0 c.from_residual-in_err-body.ensures.1
    (λ n. function_err (known_in c.args.scope.now) (function_definition c.args.function.now) (signature_view c.in-Some.signature.now) c.in_ok-names.names c.in_ok-start.start
    (search rules) (search rules) (search rules) c.in_err-body.field-0.0 (search (rules, c.in_err-body.ensures n)))

pub returns : goal.returns
returns c =
    function_ok (known_in c.args.scope.now) (function_definition c.args.function.now) (signature_view c.in-Some.signature.now) c.in_ok-names.names c.in_ok-start.start
    (search rules) (search rules) (search rules) (block_view c.in_ok-body.body) (search (rules, c.in_ok-body.ensures))
    ∙ whole_copied (function_definition c.args.function.now) (signature_view c.in-Some.signature.now) (block_view c.in_ok-body.body) c.in_ok-name.name (signature_view c.in_ok-signature.signature) (search rules) (search rules)
