-- What a run comes to, from what its steps do.
use Rattle.std.proofs.Common.{Option, None, ◌≡◌, ◌≢◌, ap, sym, subst, ◌∙◌, Result, Ok, Err}
use Rattle.std.specs.Result.{IsErrAnd}
use Rattle.gp_base.specs.Run.{Out, Stopped}
use Rattle.gp_evaluator.specs.declared.halt.Halt.{Halt}
use Rattle.gp_evaluator.specs.declared.halt.Halt.TheVariants.{Memory}
use Rattle.gp_evaluator.specs.declared.halt.Halt.TheVariants as halt
use Rattle.gp_evaluator.specs.View.{Ran, Found, stop_of}

-- the exit of a `?`
pub exits : {S A B : Type 0} (view : A → B) (r : Result A Halt) (s : S) (out : Out S B) (f : Halt) → IsErrAnd r (λ y. y ≡ f) → (f ≢ Memory → out ≡ Stopped (stop_of f) s) → Ran view r s out
exits view (Ok a) s out f e h = absurd e
exits view (Err y) s out f e h = λ n. h (subst (λ z. z ≢ Memory) e n) ∙ ap (λ z. Stopped (stop_of z) s) (sym e)

-- the same at want of memory
pub exits_memory : {S A B : Type 0} (view : A → B) (r : Result A Halt) (s : S) (out : Out S B) → IsErrAnd r (λ y. y ≡ Memory) → Ran view r s out
exits_memory view (Ok a) s out e = absurd e
exits_memory view (Err y) s out e = λ n. absurd (n e)

-- a last call
pub ends : {S A B : Type 0} (view : A → B) (r : Result A Halt) (s : S) (out last : Out S B) → out ≡ last → Ran view r s last → Ran view r s out
ends view r s out last e h = subst (λ z. Ran view r s z) (sym e) h

-- the exit of a `?` of what looks for something
pub found_exits : {A B : Type 0} (view : A → B) (r : Result A Halt) (o : Option B) (f : Halt) → IsErrAnd r (λ y. y ≡ f) → (f ≢ Memory → (f ≡ halt.Stuck) × (o ≡ None)) → Found view r o
found_exits view (Ok a) o f e h = absurd e
found_exits view (Err y) o f e h = λ n. let g = h (subst (λ z. z ≢ Memory) e n) in (e ∙ g.0, g.1)
