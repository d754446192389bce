-- Whether the values of an op have the shape that it takes.
use Rattle.std.specs.Prelude.{◌≡◌, List}
use Rattle.gp_base.specs.Run.{Run, Stopped, Stuck}
use Rattle.gp_base.specs.World.{World}
use Rattle.hg_graph.specs.Value.{Value}

-- they don't: whatever the op would do, it is stuck
abbrev pub IsRefused : {K : Type 0} → (K → Run World (List Value)) → Type 0
IsRefused {K = K} takes = (k : K) (w : World) → takes k w ≡ Stopped Stuck w

-- they do: the op goes on with what was read, one thing or two
abbrev pub Takes : {A : Type 0} → ((A → Run World (List Value)) → Run World (List Value)) → A → Type 0
Takes {A = A} takes a = (k : A → Run World (List Value)) (w : World) → takes k w ≡ k a w

abbrev pub TakesTwo : {A B : Type 0} → ((A → B → Run World (List Value)) → Run World (List Value)) → A → B → Type 0
TakesTwo {A = A} {B = B} takes a b = (k : A → B → Run World (List Value)) (w : World) → takes k w ≡ k a b w
