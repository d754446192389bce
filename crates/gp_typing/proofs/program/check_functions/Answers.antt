use Rattle.std.proofs.Common.{arith, ◌+◌, ◌∙◌, ap, sym, map, drop}
use Rattle.gp_tree.specs.Program.{program_items, function_definition}
use Rattle.gp_scope.specs.ScopeView.{known_in}
use Rattle.gp_scope.proofs.ScopeLoops.{at-item}
use Rattle.gp_typing.specs.Functions.{program_typing}
use Rattle.gp_typing.specs.View.{function_view}
use Rattle.gp_typing.proofs.Binds.{exits}
use Rattle.gp_typing.proofs.ProgramLemmas.{program_left, program_starts, program_step, program_stops, pushed}
use Rattle.gp_typing.proofs.program.check_functions.Goals as goal
use Rattle.gp_typing.proofs.program.check_functions.Goals.{in-Import, in-Struct, in-Function+in_ok-check_function-in-Function+in_ok-push-in-Function}

pub loop-item-init : goal.loop-item-init
loop-item-init c =
    ap (λ fs. program_left (known_in c.args.scope.now) (map function_view fs) (program_items c.args.items.now)) c.new-functions.ensures
    ∙ program_starts (known_in c.args.scope.now) (program_items c.args.items.now)

pub loop-item-preserved : goal.loop-item-preserved
loop-item-preserved c =
    let known = known_in c.args.scope.now in
    let items = c.args.items.now in
    elim c.match-item.branch [
      | in-Import w ↦
          ap (λ t. program_left known (map function_view t) (program_items (drop (c.loop-item.item-index + 1) items))) w.functions-is
          ∙ at-item (λ xs. program_left known (map function_view c.loop-item.functions) (program_items xs)) items c.loop-item.item-index c.item-item.result _ (omega arith) c.item-item.is w.in-Import.is
          ∙ c.loop-item.invariant
      | in-Struct w ↦
          ap (λ t. program_left known (map function_view t) (program_items (drop (c.loop-item.item-index + 1) items))) w.functions-is
          ∙ at-item (λ xs. program_left known (map function_view c.loop-item.functions) (program_items xs)) items c.loop-item.item-index c.item-item.result _ (omega arith) c.item-item.is w.in-Struct.is
          ∙ c.loop-item.invariant
      | in-Function+in_ok-check_function-in-Function+in_ok-push-in-Function w ↦
          ap (λ t. program_left known (map function_view t) (program_items (drop (c.loop-item.item-index + 1) items))) (w.functions-is ∙ w.in_ok-push-in-Function.ensures.ok)
          ∙ ap (λ fs. program_left known fs (program_items (drop (c.loop-item.item-index + 1) items))) (pushed function_view c.loop-item.functions w.in_ok-check_function-in-Function.field-0)
          ∙ program_step known (map function_view c.loop-item.functions) (function_definition w.in-Function.function) (program_items (drop (c.loop-item.item-index + 1) items)) (function_view w.in_ok-check_function-in-Function.field-0) w.in_ok-check_function-in-Function.ensures
          ∙ at-item (λ xs. program_left known (map function_view c.loop-item.functions) (program_items xs)) items c.loop-item.item-index c.item-item.result _ (omega arith) c.item-item.is w.in-Function.is
          ∙ c.loop-item.invariant
    ]

pub returns-in_err-check_function-in-Function : goal.returns-in_err-check_function-in-Function
returns-in_err-check_function-in-Function c =
    let known = known_in c.args.scope.now in
    let items = c.args.items.now in
    exits (map function_view) c.from_residual.result (program_typing known (program_items items)) c.in_err-check_function-in-Function.field-0.0 c.from_residual.ensures.1
    (λ n. sym c.loop-item.invariant
    ∙ sym (at-item (λ xs. program_left known (map function_view c.loop-item.functions) (program_items xs)) items c.loop-item.item-index c.item-item.result _ (omega arith) c.item-item.is c.in-Function.is)
    ∙ program_stops known (map function_view c.loop-item.functions) (function_definition c.in-Function.function) (program_items (drop (c.loop-item.item-index + 1) items)) c.in_err-check_function-in-Function.field-0.0 (c.in_err-check_function-in-Function.ensures n))
