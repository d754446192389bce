-- Runs one after another, and what is seen of the run of a graph apart from picks and notes.
use Rattle.std.proofs.Common.{◌≡◌, refl, sym, ap, ◌∙◌, subst}
use Rattle.gp_base.specs.Run.{Run, Out, Returned, Stopped, go_on, ◌>>=◌}
use Rattle.gp_base.specs.World.{World, take_turn}
use Rattle.hg_graph.specs.Run.{State, with_world, on_world, world_out}

-- what is returned has the property
abbrev pub Giving : {S A : Type 0} → (A → Type 0) → Out S A → Type 0
Giving Q (Returned a s) = Q a
Giving Q (Stopped e s) = Unit {0}

pub record Gives {S A : Type 0} (Q : A → Type 0) (m : Run S A) : Type 0 where
  pub gives : (s : S) → Giving Q (m s)

giving_on : {S A B : Type 0} (Q : A → Type 0) (T : B → Type 0) (o : Out S A) (k : A → Run S B) → Giving Q o → ((a : A) → Q a → Gives T (k a)) → Giving T (go_on o k)
giving_on Q T (Returned a s) k q h = (h a q).gives s
giving_on Q T (Stopped e s) k q h = tt

pub then_gives : {S A B : Type 0} (Q : A → Type 0) (T : B → Type 0) (m : Run S A) (k : A → Run S B) → Gives Q m → ((a : A) → Q a → Gives T (k a)) → Gives T (m >>= k)
then_gives Q T m k g h = record { gives = λ s. giving_on Q T (m s) k (g.gives s) h }

pub anything : {S A : Type 0} (o : Out S A) → Giving (λ _. Unit {0}) o
anything (Returned a s) = tt
anything (Stopped e s) = tt

pub no_types : {S A : Type 0} (m : Run S A) → Gives (λ _. Unit {0}) m
no_types m = record { gives = λ s. anything (m s) }

giving_with : {N A : Type 0} (Q : A → Type 0) (s : State N) (o : Out World A) → Giving Q o → Giving Q (with_world s o)
giving_with Q s (Returned a w) q = q
giving_with Q s (Stopped e w) q = tt

pub on_world_gives : {N A : Type 0} (Q : A → Type 0) (m : Run World A) → Gives Q m → Gives {S = State N} Q (on_world m)
on_world_gives Q m g = record { gives = λ s. giving_with Q s (m s.world) (g.gives s.world) }

-- ---- the run shows this meaning, whatever the picks and notes
pub record Shows {N A : Type 0} (m : Run (State N) A) (d : Run World A) : Type 0 where
  pub same : (s : State N) → world_out (m s) ≡ d s.world

go_on_shows : {N A B : Type 0} (Q : A → Type 0) (o : Out (State N) A) (k : A → Run (State N) B) (e : A → Run World B) → Giving Q (world_out o) → ((a : A) → Q a → Shows (k a) (e a)) → world_out (go_on o k) ≡ go_on (world_out o) e
go_on_shows Q (Returned a s) k e q h = (h a q).same s
go_on_shows Q (Stopped x s) k e q h = refl

pub bind_shows : {N A B : Type 0} (Q : A → Type 0) (m : Run (State N) A) (d : Run World A) (k : A → Run (State N) B) (e : A → Run World B) → Shows m d → Gives Q d → ((a : A) → Q a → Shows (k a) (e a)) → Shows (m >>= k) (d >>= e)
bind_shows Q m d k e s q h = record {
  same = λ t. go_on_shows Q (m t) k e (subst (Giving Q) (sym (s.same t)) (q.gives t.world)) h ∙ ap (λ x. go_on x e) (s.same t);
}

world_out-with : {N A : Type 0} (s : State N) (o : Out World A) → world_out (with_world s o) ≡ o
world_out-with s (Returned a w) = refl
world_out-with s (Stopped e w) = refl

pub on_world_shows : {N A : Type 0} (m : Run World A) → Shows {N = N} (on_world m) m
on_world_shows m = record { same = λ s. world_out-with s (m s.world) }

-- ---- laws
pub then_same : {S A B : Type 0} (Q : A → Type 0) (o : Out S A) (k l : A → Run S B) → Giving Q o → ((a : A) → Q a → (s : S) → k a s ≡ l a s) → go_on o k ≡ go_on o l
then_same Q (Returned a s) k l q h = h a q s
then_same Q (Stopped e s) k l q h = refl

pub then_then : {S A B C : Type 0} (o : Out S A) (k : A → Run S B) (l : B → Run S C) → go_on (go_on o k) l ≡ go_on o (λ a. k a >>= l)
then_then (Returned a s) k l = refl
then_then (Stopped e s) k l = refl

pub turn_gives : Gives (λ _. Unit {0}) take_turn
turn_gives = no_types take_turn
