-- Runs of two levels that are the same, and runs that never gain a turn.
use Rattle.std.proofs.Common.{◌≡◌, ℕ, zero, suc, ℤ, ◌<◌, ◌≤◌, Bool, true, false, if◌then◌else◌, List, [], ◌∷◌, Option, Some, None, refl, ap, ◌∙◌, arith}
use Rattle.gp_base.specs.Run.{Out, Run, Returned, Stopped, Stop, Stuck, ret, stop, go_on, ◌>>=◌, or_stuck}
use Rattle.gp_base.specs.declared.event.GateName.{GateName}
use Rattle.gp_base.specs.World.{World, take_turn, turn_of, is_live, are_two_live, are_three_live, on_live, outcome_of, free, measure, measure_free, reset, apply_gate, apply_gate_on_two, apply_gate_on_three, rotate}
use Rattle.gp_meaning.specs.State.{State, Variables, on_world, with_variables}

-- what a state counts, where a run ends
abbrev pub after : {S A : Type 0} → (S → ℕ) → Out S A → ℕ
after count (Returned a s) = count s
after count (Stopped e s) = count s

-- the runs are the same from states of at most this count, and the first never raises it
pub record Agree {S A : Type 0} (count : S → ℕ) (t : ℕ) (m m' : Run S A) : Type 0 where
  pub falls : (s : S) → after count (m s) ≤ count s
  pub same : (s : S) → count s ≤ t → m s ≡ m' s

falls_on : {S A B : Type 0} (count : S → ℕ) (o : Out S A) (k : A → Run S B) (n : ℕ) → ((a : A) (s : S) → after count (k a s) ≤ count s) → after count o ≤ n → after count (go_on o k) ≤ n
falls_on count (Returned a s) k n f h = let g = f a s in omega arith
falls_on count (Stopped e s) k n f h = h

pub same_on : {S A B : Type 0} (count : S → ℕ) (o : Out S A) (k k' : A → Run S B) (t : ℕ) → ((a : A) (s : S) → count s ≤ t → k a s ≡ k' a s) → after count o ≤ t → go_on o k ≡ go_on o k'
same_on count (Returned a s) k k' t f h = f a s h
same_on count (Stopped e s) k k' t f h = refl

module _ {S : Type 0} (count : S → ℕ) (t : ℕ) where
  pub agree_bind : {A B : Type 0} (m m' : Run S A) (k k' : A → Run S B) → Agree count t m m' → ((a : A) → Agree count t (k a) (k' a)) → Agree count t (m >>= k) (m' >>= k')
  agree_bind m m' k k' G H = record {
    falls = λ s. falls_on count (m s) k (count s) (λ a r. (H a).falls r) (G.falls s);
    same = λ s h. same_on count (m s) k k' t (λ a r h'. (H a).same r h') (let f = G.falls s in omega arith) ∙ ap (λ o. go_on o k') (G.same s h);
  }

  pub agree_kept : {A : Type 0} (m : Run S A) → ((s : S) → after count (m s) ≤ count s) → Agree count t m m
  agree_kept m f = record { falls = f; same = λ s h. refl }

  pub agree_ret : {A : Type 0} (a : A) → Agree count t (ret a) (ret a)
  agree_ret a = agree_kept (ret a) (λ s. omega arith)

  pub agree_stop : {A : Type 0} (e : Stop) → Agree {S = S} {A = A} count t (stop e) (stop e)
  agree_stop e = agree_kept (stop e) (λ s. omega arith)

  pub agree_found : {A : Type 0} (o : Option A) → Agree count t (or_stuck o) (or_stuck o)
  agree_found None = agree_stop Stuck
  agree_found (Some a) = agree_ret a

  pub agree_if : {A : Type 0} (b : Bool) (m m' n n' : Run S A) → Agree count t m m' → Agree count t n n' → Agree count t (if b then m else n) (if b then m' else n')
  agree_if true m m' n n' G H = G
  agree_if false m m' n n' G H = H

-- ---- what changes the world and leaves its turns

abbrev pub turns : World → ℕ
turns w = w.turns

abbrev pub turns_left : State → ℕ
turns_left s = s.world.turns

abbrev pub Falls : {A : Type 0} → Run World A → Type 0
Falls m = (w : World) → after turns (m w) ≤ w.turns

if_falls : {A : Type 0} (b : Bool) (o o' : Out World A) (n : ℕ) → after turns o ≤ n → after turns o' ≤ n → after turns (if b then o else o') ≤ n
if_falls true o o' n h h' = h
if_falls false o o' n h h' = h'

pub bind_falls : {A B : Type 0} (m : Run World A) (k : A → Run World B) → Falls m → ((a : A) → Falls (k a)) → Falls (m >>= k)
bind_falls m k f g w = falls_on turns (m w) k w.turns g (f w)

pub live_falls : {A : Type 0} (q : ℕ) (m : Run World A) → Falls m → Falls (on_live q m)
live_falls q m f w = if_falls (is_live w.flags q) (m w) (stop Stuck w) w.turns (f w) (omega arith)

outcome_falls : {A : Type 0} (k : Bool → Run World A) (n : ℕ) → ((b : Bool) (w : World) → w.turns ≡ n → after turns (k b w) ≤ n) → (os : List Bool) (w : World) → w.turns ≡ n → after turns (outcome_of os k w) ≤ n
outcome_falls k n f [] w e = omega arith
outcome_falls k n f (o ∷ os) w e = f o (record w { outcomes = os }) e

pub free_falls : (q : ℕ) → Falls (free q)
free_falls q = live_falls q _ (λ w. omega arith)

pub measure_falls : (q : ℕ) → Falls (measure q)
measure_falls q = live_falls q _ (λ w. outcome_falls _ w.turns (λ b v e. omega (arith, e)) w.outcomes w refl)

pub measure_free_falls : (q : ℕ) → Falls (measure_free q)
measure_free_falls q = live_falls q _ (λ w. outcome_falls _ w.turns (λ b v e. omega (arith, e)) w.outcomes w refl)

pub reset_falls : (q : ℕ) → Falls (reset q)
reset_falls q = live_falls q _ (λ w. omega arith)

pub gate_falls : (g : GateName) (q : ℕ) → Falls (apply_gate g q)
gate_falls g q = live_falls q _ (λ w. omega arith)

pub gate_on_two_falls : (g : GateName) (p q : ℕ) → Falls (apply_gate_on_two g p q)
gate_on_two_falls g p q w = if_falls (are_two_live w.flags p q) _ (stop Stuck w) w.turns (omega arith) (omega arith)

pub gate_on_three_falls : (g : GateName) (p q r : ℕ) → Falls (apply_gate_on_three g p q r)
gate_on_three_falls g p q r w = if_falls (are_three_live w.flags p q r) _ (stop Stuck w) w.turns (omega arith) (omega arith)

pub rotate_falls : (g : GateName) (q : ℕ) (a : ℤ) → Falls (rotate g q a)
rotate_falls g q a = live_falls q _ (λ w. omega arith)

pub found_falls : {A : Type 0} (o : Option A) → Falls (or_stuck o)
found_falls None w = omega arith
found_falls (Some a) w = omega arith

-- ---- turns

-- what follows a turn needs to agree only where fewer turns are left
pub turn_then : {A : Type 0} (t : ℕ) (k k' : Run World A) → Falls k → ((w : World) → w.turns < t → k w ≡ k' w) → Agree turns t (take_turn >>= λ _. k) (take_turn >>= λ _. k')
turn_then t k k' f h = record { falls = λ w. down w.turns w refl; same = λ w l. on w.turns w l } where
  down : (n : ℕ) (w : World) → n ≡ w.turns → after turns (go_on (turn_of n w) (λ _. k)) ≤ w.turns
  down zero w e = omega arith
  down (suc n) w e = let g = f (record w { turns = n }) in omega arith

  on : (n : ℕ) (w : World) → n ≤ t → go_on (turn_of n w) (λ _. k) ≡ go_on (turn_of n w) (λ _. k')
  on zero w l = refl
  on (suc n) w l = h (record w { turns = n }) (omega arith)

-- runs of the world as runs of states
carried : {A : Type 0} (vs : Variables) (o : Out World A) → after turns_left (with_variables vs o) ≡ after turns o
carried vs (Returned a w) = refl
carried vs (Stopped e w) = refl

pub agree_on_world : {A : Type 0} (t : ℕ) (m m' : Run World A) → Agree turns t m m' → Agree turns_left t (on_world m) (on_world m')
agree_on_world t m m' G = record {
  falls = λ s. let e = carried s.variables (m s.world) in let f = G.falls s.world in omega arith;
  same = λ s h. ap (with_variables s.variables) (G.same s.world h);
}

pub turn_then_state : {A : Type 0} (t : ℕ) (k k' : Run State A) → ((s : State) → after turns_left (k s) ≤ turns_left s) → ((s : State) → turns_left s < t → k s ≡ k' s)
    → Agree turns_left t (on_world take_turn >>= λ _. k) (on_world take_turn >>= λ _. k')
turn_then_state t k k' f h = record { falls = λ s. down s.world.turns s.variables s.world refl; same = λ s l. on s.world.turns s.variables s.world l } where
  down : (n : ℕ) (vs : Variables) (w : World) → n ≡ w.turns → after turns_left (go_on (with_variables vs (turn_of n w)) (λ _. k)) ≤ w.turns
  down zero vs w e = omega arith
  down (suc n) vs w e = let g = f (record { variables = vs; world = record w { turns = n } }) in omega arith

  on : (n : ℕ) (vs : Variables) (w : World) → n ≤ t → go_on (with_variables vs (turn_of n w)) (λ _. k) ≡ go_on (with_variables vs (turn_of n w)) (λ _. k')
  on zero vs w l = refl
  on (suc n) vs w l = h (record { variables = vs; world = record w { turns = n } }) (omega arith)
