-- The runs of written functions, by their parts.
use Rattle.std.proofs.Common.{◌≡◌, ℕ, List, Option, Some, None, Result, Ok, Err, ap, sym, ◌∙◌}
use Rattle.gp_base.specs.Run.{Out, Stopped, Stuck, ◌>>=◌}
use Rattle.gp_base.specs.World.{World}
use Rattle.gp_locals.specs.Environment.{Names}
use Rattle.gp_locals.specs.Locals.{locals}
use Rattle.gp_scope.specs.Definitions.{function_named}
use Rattle.gp_scope.specs.Known.{Known}
use Rattle.gp_scope.specs.ScopeView.{known_in}
use Rattle.gp_scope.specs.declared.scope.Scope.{Scope}
use Rattle.gp_tree.specs.Program.{FunctionDefinition, program_items}
use Rattle.gp_tree.specs.declared.program.Item.{Item}
use Rattle.gp_types.specs.Signature.{Signature, parameter_names}
use Rattle.gp_evaluator.specs.declared.halt.Halt.{Halt}
use Rattle.gp_evaluator.specs.Evaluation.{rest_of, source_in}
use Rattle.gp_meaning.specs.Meaning.{executed_each, ends_by, ran_named, routine_with}
use Rattle.gp_meaning.specs.State.{State, Variables, without_variables, no_variables, set_each}
use Rattle.gp_meaning.specs.Value.{Value}
use Rattle.gp_evaluator.specs.View.{Ran, state}
use Rattle.gp_meaning.proofs.Rests.{call_again}

module _ (items : List Item) (scope : Scope) (name : List ℕ) (vs : List Value) (w : World) where
  abbrev known : Known
  known = known_in scope

  pub no_function : function_named (program_items items) name ≡ None → (rest_of items scope).call name vs w ≡ Stopped Stuck w
  no_function e = call_again (source_in items scope) name vs w ∙ ap (λ (o : Option FunctionDefinition). ran_named known (routine_with o (known.signature_of name)) (rest_of items scope) vs w) e

  pub no_signature : (f : FunctionDefinition) → function_named (program_items items) name ≡ Some f → known.signature_of name ≡ None → (rest_of items scope).call name vs w ≡ Stopped Stuck w
  no_signature f e g =
      call_again (source_in items scope) name vs w ∙ ap (λ (o : Option FunctionDefinition). ran_named known (routine_with o (known.signature_of name)) (rest_of items scope) vs w) e
      ∙ ap (λ (o : Option Signature). ran_named known (routine_with (Some f) o) (rest_of items scope) vs w) g

  pub function_goes : (f : FunctionDefinition) (s : Signature) (names : Names) (begun : Variables) → function_named (program_items items) name ≡ Some f → known.signature_of name ≡ Some s
      → names ≡ locals (parameter_names s.params) f.body → begun ≡ set_each names (no_variables names) (parameter_names s.params) vs
      → (rest_of items scope).call name vs w
      ≡ without_variables ((executed_each (record { known = known; names = names }) (rest_of items scope) f.body >>= ends_by names s.params) (state begun w))
  function_goes f s names begun e g n b =
      call_again (source_in items scope) name vs w ∙ ap (λ (o : Option FunctionDefinition). ran_named known (routine_with o (known.signature_of name)) (rest_of items scope) vs w) e
      ∙ ap (λ (o : Option Signature). ran_named known (routine_with (Some f) o) (rest_of items scope) vs w) g
      ∙ ap (λ (ns : Names).
      without_variables
      ((executed_each (record { known = known; names = ns }) (rest_of items scope) f.body >>= ends_by ns s.params) (state (set_each ns (no_variables ns) (parameter_names s.params) vs) w)))
      (sym n)
      ∙ ap (λ (z : Variables). without_variables ((executed_each (record { known = known; names = names }) (rest_of items scope) f.body >>= ends_by names s.params) (state z w))) (sym b)

-- the same answer, of the world alone
pub of_world : {A B : Type 0} (view : A → B) (r : Result A Halt) (vs : Variables) (w : World) (out : Out State B) → Ran view r (state vs w) out → Ran view r w (without_variables out)
of_world view (Ok a) vs w out h = ap without_variables h
of_world view (Err why) vs w out h = λ n. ap without_variables (h n)
