-- The run of a call whose callee, tag, arguments and answer are known.
use Rattle.std.proofs.Common.{◌≡◌, ℕ, List, Option, Some, drop, refl, ap, ◌∙◌}
use Rattle.gp_base.specs.Run.{Out, Run, Returned, ret, go_on, ◌>>=◌, or_stuck}
use Rattle.gp_base.specs.World.{World}
use Rattle.gp_tree.specs.declared.expr.Expr.{Expr}
use Rattle.gp_tree.specs.Expression as expr
use Rattle.gp_tree.specs.Expression.{expressions}
use Rattle.gp_evaluator.specs.Evaluation.{tag_count}
use Rattle.gp_evaluator.specs.View.{state}
use Rattle.gp_meaning.specs.Calls.{Called, Functions, Resolved, called, resolved, tag_of, put_back_each}
use Rattle.gp_meaning.specs.Meaning.{Frame, evaluated, evaluated_each, evaluated_behind}
use Rattle.gp_meaning.specs.State.{State, on_world, with_variables}
use Rattle.gp_meaning.specs.Value.{Value}
use Rattle.gp_evaluator.proofs.Goes.{behind_is}

-- what is left of it are the final values that go back
pub call_goes_back : (F : Frame) (f : Functions) (name : List ℕ) (es : List Expr) (s u : State) (r : Resolved) (tag : Option (List ℕ)) (vs : List Value) (c : Called) (w : World)
    → resolved F.known F.names s.variables name ≡ Some r → tag_of r.callee (expressions es) ≡ Some tag
    → evaluated_each F f (expressions (drop (tag_count tag) es)) s ≡ Returned vs u → called f r.callee r.name tag vs u.world ≡ Returned c w
    → evaluated F f (expr.call name (expressions es)) s ≡ go_on (put_back_each F.names (expressions es) c.finals (state u.variables w)) (λ _. ret c.answer)
call_goes_back F f name es s u r tag vs c w found tagged given went =
    ap (λ (o : Option Resolved). go_on (or_stuck o s) (λ r. or_stuck (tag_of r.callee (expressions es)) >>= behind r)) found
    ∙ ap (λ (o : Option (Option (List ℕ))). go_on (or_stuck o s) (behind r)) tagged
    ∙ ap (λ (o : Out State (List Value)). go_on o (performed r tag)) (behind_is F f tag es s ∙ given)
    ∙ ap (λ (o : Out World Called). go_on (with_variables u.variables o) back) went
  where
    back : Called → Run State (Option Value)
    back c = put_back_each F.names (expressions es) c.finals >>= λ _. ret c.answer

    performed : Resolved → Option (List ℕ) → List Value → Run State (Option Value)
    performed r tag vs = on_world (called f r.callee r.name tag vs) >>= back

    behind : Resolved → Option (List ℕ) → Run State (Option Value)
    behind r tag = evaluated_behind F f tag (expressions es) >>= performed r tag
