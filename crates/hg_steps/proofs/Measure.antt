-- Each step leaves fewer steps.
use Rattle.std.proofs.Common.{◌≡◌, ℕ, zero, suc, ◌+◌, ◌-◌, ◌*◌, ◌<◌, ◌≤◌, Bool, true, false, cond, ltb, List, [], ◌∷◌, length, Option, Some, None, refl, sym, ap, ◌∙◌, subst, arith}
use Rattle.std.specs.Prelude.{slice_get, filter, not, ◌&&◌, ◌==◌}
use Rattle.std.proofs.Math.Nat.{mul-le-mul_right}
use Rattle.std.proofs.lemmas.Bool.{ltb-true}
use Rattle.gp_base.specs.Clean.{world_after}
use Rattle.gp_base.specs.Membership.{In}
use Rattle.gp_base.specs.Run.{Run, Out, Returned, Stopped, go_on, ◌>>=◌, or_stuck}
use Rattle.gp_base.specs.World.{World, turn_of}
use Rattle.gp_base.proofs.Steps.{SameTurns, turns_step}
use Rattle.hg_ops.specs.Op.{Op, FuncDefn, Const, Dfg, Cfg, DataflowBlock, ExitBlock, Conditional, Case, TailLoop, Call, CallIndirect, LoadConstant, LoadFunction, fires}
use Rattle.hg_graph.specs.Graph.{Graph, op_at, parent_at, children, firing_children, feeder, taker, static_input, numbers}
use Rattle.hg_graph.specs.Run.{Fired, outs_at, inputs, Ready, ready, perform, with_world, on_world, choose, pick_from, constant, name_of_function}
use Rattle.hg_graph.specs.Value.{Value, callee}
use Rattle.hg_laws.proofs.Children.{get_in, kid_is, child_is}
use Rattle.hg_laws.proofs.Known.{Known, known}
use Rattle.hg_laws.proofs.Regions.{child_greater}
use Rattle.hg_laws.proofs.Looks.{In-ready}
use Rattle.hg_laws.proofs.Ops.{perform_relates}
use Rattle.hg_laws.proofs.Runs.{Giving}
use Rattle.hg_laws.proofs.Typed.{choose_gives}
use Rattle.hg_steps.specs.Machine.{Frame, Task, Enters, Gives, Config, Plain, variant_of, function_of, enters, gives, enters_after_turn, opens, enter_step, fire_step, round_step, jump_step, close_step, give_step, kept, step_on, step}
use Rattle.hg_steps.specs.Laws.{AfterStep, StepsEnd}
use Rattle.hg_steps.specs.Measure.{room, node_room, room_behind, frame_room, frames_room, task_room, config_room, steps_left, is_done_with}

abbrev pub state_after : {A : Type 0} → Out Plain A → Plain
state_after (Returned a s) = s
state_after (Stopped e s) = s

-- ---- rooms
room-next : (count d : ℕ) → room count d < room count (suc d)
unfolding room
room-next count d = let p : suc (room count d) ≤ suc count * suc (room count d) = grind arith in omega arith

room-more : (count d e : ℕ) → room count d ≤ room count (d + e)
room-more count d zero = let q : d + 0 ≡ d = omega arith in subst (λ x. room count d ≤ room count x) (sym q) (omega arith)
room-more count d (suc e) = let q : d + suc e ≡ suc (d + e) = omega arith in subst (λ x. room count d ≤ room count x) (sym q) (let a = room-more count d e in let b = room-next count (d + e) in omega arith)

room-mono : (count d e : ℕ) → d ≤ e → room count d ≤ room count e
room-mono count d e l = let q : d + (e - d) ≡ e = omega arith in subst (λ x. room count d ≤ room count x) q (room-more count d (e - d))

-- the rows of a filter are no more than those of the list
filter-length : {A : Type 0} (p : A → Bool) (xs : List A) → length (filter p xs) ≤ length xs
filter-length p [] = omega arith
filter-length p (x ∷ xs) = go (p x) (filter-length p xs)
  where
    go : (b : Bool) → length (filter p xs) ≤ length xs → length (cond b (x ∷ filter p xs) (filter p xs)) ≤ suc (length xs)
    go true h = omega arith
    go false h = omega arith

length-numbers : (first count : ℕ) → length (numbers first count) ≡ count
length-numbers first zero = refl
length-numbers first (suc count) = ap suc (length-numbers (suc first) count)

module _ (g : Graph) where
  behind-node : (n : ℕ) → n < length g.nodes → room_behind g n < node_room g n
  unfolding node_room room_behind
  behind-node n l = let q : length g.nodes - n ≡ suc (length g.nodes - suc n) = omega arith in subst (λ x. room (length g.nodes) (length g.nodes - suc n) < room (length g.nodes) x) (sym q) (room-next (length g.nodes) (length g.nodes - suc n))

  greater-room : (n m : ℕ) → n < m → node_room g m ≤ room_behind g n
  unfolding node_room room_behind
  greater-room n m l = room-mono (length g.nodes) (length g.nodes - m) (length g.nodes - suc n) (omega arith)

  any-room : (n : ℕ) → node_room g n ≤ node_room g 0
  unfolding node_room
  any-room n = room-mono (length g.nodes) (length g.nodes - n) (length g.nodes - 0) (omega arith)

  kids-few : (n : ℕ) → length (firing_children g n) ≤ length g.nodes
  unfolding firing_children children
  kids-few n =
      let a = filter-length (λ m. fires (op_at g m)) (children g n) in
      let b = filter-length (λ m. (parent_at g m == n) && not (m == n)) (numbers 0 (length g.nodes)) in
      let c = length-numbers 0 (length g.nodes) in
      omega arith

  -- a region that opens takes less than the room of its container
  opened-room : (n left : ℕ) → n < length g.nodes → left ≤ length g.nodes → suc (suc left * suc (room_behind g n)) < node_room g n
  unfolding node_room room_behind room
  opened-room n left l few =
      let q : length g.nodes - n ≡ suc (length g.nodes - suc n) = omega arith in
      subst (λ x. suc (suc left * suc (room (length g.nodes) (length g.nodes - suc n))) < room (length g.nodes) x) (sym q)
      (let p : suc left * suc (room (length g.nodes) (length g.nodes - suc n)) ≤ suc (length g.nodes) * suc (room (length g.nodes) (length g.nodes - suc n)) = mul-le-mul_right _ (omega arith) in omega arith)

  -- ---- what a step leaves
  abbrev Below : ℕ → Out Plain Config → Type 0
  Below b (Returned config s) = steps_left g s.world.turns config < b
  Below b (Stopped e s) = Unit {0}

  below-or_stuck : {A : Type 0} (b : ℕ) (o : Option A) (k : A → Run Plain Config) (s : Plain) → ((a : A) → o ≡ Some a → Below b (k a s)) → Below b ((or_stuck o >>= k) s)
  below-or_stuck b None k s h = tt
  below-or_stuck b (Some a) k s h = h a refl

  -- the steps that are left with this room and these turns
  abbrev steps : ℕ → ℕ → ℕ
  steps turns w = turns * suc (node_room g 0) + w

  below-enters : (w n : ℕ) (vs : List Value) (frames : List Frame) (s : Plain) → node_room g n + frames_room g frames < w → Below (steps s.world.turns w) (enters n vs frames s)
  unfolding steps_left
  below-enters w n vs frames s l = omega arith

  below-gives : (w : ℕ) (vs : List Value) (frames : List Frame) (s : Plain) → frames_room g frames < w → Below (steps s.world.turns w) (gives vs frames s)
  unfolding steps_left
  below-gives w vs frames s l = omega arith

  below-turn : (w n : ℕ) (vs : List Value) (frames : List Frame) (s : Plain) → frames_room g frames ≤ w → Below (steps s.world.turns w) (enters_after_turn n vs frames s)
  unfolding steps_left
  below-turn w n vs frames s l = go s.world.turns
    where
      go : (t : ℕ) → Below (steps t w) (go_on (with_world s (turn_of t s.world)) (λ _. enters n vs frames))
      go zero = tt
      go (suc t) =
          let r = any-room n in
          let q : suc t * suc (node_room g 0) ≡ t * suc (node_room g 0) + suc (node_room g 0) = omega arith in
          omega arith

  module _ (V : Known g) where
    below-opens : (n : ℕ) (vs : List Value) (frames : List Frame) (s : Plain) → Below (steps s.world.turns (node_room g n + frames_room g frames)) (opens g n vs frames s)
    unfolding opens
    below-opens n vs frames s =
        below-or_stuck _ (slice_get (children g n) 0) _ s (λ input e. below-or_stuck _ (slice_get (children g n) 1) _ s (λ output e'.
        below-gives _ vs _ s (let k = child_is g n input (get_in (children g n) 0 input e) in
        let more = child_greater g V n input (get_in (children g n) 0 input e) in
        let less = k.0 in
        let r = opened-room n (length (firing_children g n)) (omega arith) (kids-few n) in omega arith)))

    below-enter : (kind : Op) (n : ℕ) (vs : List Value) (frames : List Frame) (s : Plain) → Below (steps s.world.turns (node_room g n + frames_room g frames)) (enter_step g kind n vs frames s)
    unfolding enter_step
    below-enter (FuncDefn name i o) n vs frames s = below-opens n vs frames s
    below-enter (Dfg i o) n vs frames s = below-opens n vs frames s
    below-enter (Case i o) n vs frames s = below-opens n vs frames s
    below-enter (TailLoop a l r) n vs frames s = below-opens n vs frames s
    below-enter (DataflowBlock i r o) n vs frames s = below-opens n vs frames s
    below-enter (Conditional r i o) n vs frames s =
        below-or_stuck _ (variant_of vs) _ s (λ v e. below-or_stuck _ (slice_get (children g n) v.tag) _ s (λ c e'. below-child n c v.values frames s (get_in (children g n) v.tag c e')))
      where
        below-child : (n c : ℕ) (us : List Value) (frames : List Frame) (s : Plain) → In c (children g n) → Below (steps s.world.turns (node_room g n + frames_room g frames)) (enters c us frames s)
        below-child n c us frames s i =
            below-enters _ c us frames s (let more = child_greater g V n c i in let less = (child_is g n c i).0 in let a = behind-node n (omega arith) in let b = greater-room n c more in omega arith)
    below-enter (Cfg i o) n vs frames s =
        below-or_stuck _ (slice_get (children g n) 0) _ s (λ c e. below-enters _ c vs frames s (let i = get_in (children g n) 0 c e in let more = child_greater g V n c i in let less = (child_is g n c i).0 in let a = behind-node n (omega arith) in let b = greater-room n c more in omega arith))
    below-enter _ n vs frames s = tt

    -- what leaves the turns alone
    below-world : {A : Type 0} (b : ℕ) (m : Run World A) (k : A → Run Plain Config) (s : Plain) → (world_after (m s.world)).turns ≡ s.world.turns
        → ((a : A) (t : Plain) → t.world.turns ≡ s.world.turns → Below b (k a t)) → Below b ((on_world m >>= k) s)
    below-world {A = A} b m k s e h = go (m s.world) e
      where
        go : (o : Out World A) → (world_after o).turns ≡ s.world.turns → Below b (go_on (with_world s o) k)
        go (Returned a w) e = h a (record s { world = w }) e
        go (Stopped x w) e = tt

    below-constant : (b : ℕ) (kind : Op) (k : List Value → Run Plain Config) (s : Plain) → ((us : List Value) → Below b (k us s)) → Below b ((constant kind >>= k) s)
    below-constant b (Const n) k s h = h _
    below-constant b _ k s h = tt

    below-name : (b : ℕ) (kind : Op) (k : List Value → Run Plain Config) (s : Plain) → ((us : List Value) → Below b (k us s)) → Below b ((name_of_function kind >>= k) s)
    below-name b (FuncDefn name ins outs) k s h = h _
    below-name b _ k s h = tt

    below-same : (w : ℕ) (s t : Plain) (o : Out Plain Config) → t.world.turns ≡ s.world.turns → Below (steps t.world.turns w) o → Below (steps s.world.turns w) o
    below-same w s t o e h = subst (λ turns. Below (steps turns w) o) e h

    -- a child with a greater number fires, from room for it and what it leaves
    below-fire : (kind : Op) (c n : ℕ) (vs : List Value) (frames : List Frame) (s : Plain) → c < n → Below (steps s.world.turns (suc (room_behind g c) + frames_room g frames)) (fire_step g kind n vs frames s)
    unfolding fire_step
    below-fire (Dfg i o) c n vs frames s l = below-enters _ n vs frames s (let r = greater-room c n l in omega arith)
    below-fire (Conditional r i o) c n vs frames s l = below-enters _ n vs frames s (let r = greater-room c n l in omega arith)
    below-fire (TailLoop a b r) c n vs frames s l = below-enters _ n vs frames s (let r = greater-room c n l in omega arith)
    below-fire (Cfg i o) c n vs frames s l = below-enters _ n vs frames s (let r = greater-room c n l in omega arith)
    below-fire (Call i o) c n vs frames s l = below-or_stuck _ (feeder g.links (static_input g n)) _ s (λ f e. below-turn _ f.node vs frames s (omega arith))
    below-fire (CallIndirect i o) c n vs frames s l =
        below-or_stuck _ (function_of vs) _ s (λ v e. below-or_stuck _ (callee g i o v.name) _ s (λ f e'. below-turn _ f v.values frames s (omega arith)))
    below-fire (LoadFunction i o) c n vs frames s l =
        below-or_stuck _ (feeder g.links (static_input g n)) _ s (λ f e. below-name _ (op_at g f.node) _ s (λ us. below-gives _ us frames s (omega arith)))
    below-fire LoadConstant c n vs frames s l =
        below-or_stuck _ (feeder g.links (static_input g n)) _ s (λ f e. below-constant _ (op_at g f.node) _ s (λ us. below-gives _ us frames s (omega arith)))
    below-fire kind c n vs frames s l =
        below-world _ (perform kind vs) _ s ((perform_relates SameTurns turns_step kind vs).relates s.world) (λ us t e. below-same _ s t (gives us frames t) e (below-gives _ us frames t (omega arith)))

    below-round : (w k n : ℕ) (vs : List Value) (frames : List Frame) (s : Plain) → frames_room g frames < w → Below (steps s.world.turns w) (round_step g k n vs frames s)
    below-round w zero n vs frames s l = below-turn w n vs frames s (omega arith)
    below-round w (suc zero) n vs frames s l = below-gives w vs frames s l
    below-round w (suc (suc k)) n vs frames s l = tt

    below-jump : (kind : Op) (n to : ℕ) (vs : List Value) (frames : List Frame) (s : Plain) → Below (steps s.world.turns (suc (room_behind g n) + frames_room g frames)) (jump_step g kind n to vs frames s)
    below-jump (ExitBlock types) n to vs frames s = below-gives _ vs frames s (omega arith)
    below-jump _ n to vs frames s = go (ltb n to) refl
      where
        go : (b : Bool) → ltb n to ≡ b → Below (steps s.world.turns (suc (room_behind g n) + frames_room g frames)) (cond b (enters to vs frames) (enters_after_turn to vs frames) s)
        go true e = below-enters _ to vs frames s (let r = greater-room n to (ltb-true n to e) in omega arith)
        go false e = below-turn _ to vs frames s (omega arith)

    below-close : (kind : Op) (n : ℕ) (us : List Value) (frames : List Frame) (s : Plain) → Below (steps s.world.turns (suc (room_behind g n) + frames_room g frames)) (close_step g kind n us frames s)
    unfolding close_step
    below-close (TailLoop a l r) n us frames s = below-or_stuck _ (variant_of us) _ s (λ v e. below-round _ v.tag n v.values frames s (omega arith))
    below-close (DataflowBlock i r o) n us frames s =
        below-or_stuck _ (variant_of us) _ s (λ v e. below-or_stuck _ (taker g.links (record { node = n; index = v.tag })) _ s (λ to e'. below-jump (op_at g to.node) n to.node v.values frames s))
    below-close _ n us frames s = below-gives _ us frames s (omega arith)

    below-more : (w v : ℕ) (t : ℕ) (o : Out Plain Config) → w ≤ v → Below (steps t w) o → Below (steps t v) o
    below-more w v t (Returned config s) l h = omega arith
    below-more w v t (Stopped e s) l h = tt

    below-choose : (b : ℕ) (xs : List Ready) (k : Ready → Run Plain Config) (s : Plain) → ((r : Ready) (t : Plain) → In r xs → t.world.turns ≡ s.world.turns → Below b (k r t)) → Below b ((choose xs >>= k) s)
    below-choose b xs k s h = go (choose xs s) ((choose_gives xs).gives s) (stays xs s)
      where
        stays : (xs : List Ready) (s : Plain) → (state_after (choose xs s)).world.turns ≡ s.world.turns
        stays [] s = refl
        stays (x ∷ xs) s = pick s.picks
          where
            pick : (picks : List ℕ) → (state_after (pick_from x xs picks s)).world.turns ≡ s.world.turns
            pick [] = refl
            pick (p ∷ picks) = refl

        go : (o : Out Plain Ready) → Giving (λ r. In r xs) o → (state_after o).world.turns ≡ s.world.turns → Below b (go_on o k)
        go (Returned r t) i e = h r t i e
        go (Stopped x t) i e = tt

    below-give : (left : ℕ) (f : Frame) (fired : List Fired) (frames : List Frame) (s : Plain) → f.left ≡ left → Below (steps s.world.turns (frame_room g f + frames_room g frames)) (give_step g left f fired frames s)
    unfolding give_step
    below-give zero f fired frames s z =
        below-or_stuck _ (inputs g (outs_at fired) f.output) _ s (λ us e. below-more _ _ s.world.turns (close_step g (op_at g f.container) f.container us frames s)
        (let q : suc f.left * suc (room_behind g f.container) ≡ suc (room_behind g f.container) = ap (λ x. suc x * suc (room_behind g f.container)) z ∙ omega arith in omega arith)
        (below-close (op_at g f.container) f.container us frames s))
    below-give (suc left) f fired frames s z =
        below-choose _ (ready g f.container (outs_at fired)) _ s (λ r t i e.
        below-same _ s t _ e (below-more _ _ t.world.turns (fire_step g (op_at g r.node) r.node r.ins _ t)
        (let q : suc f.left * suc (room_behind g f.container) ≡ suc left * suc (room_behind g f.container) + suc (room_behind g f.container) = ap (λ x. suc x * suc (room_behind g f.container)) z ∙ omega arith in omega arith)
        (below-fire (op_at g r.node) f.container r.node r.ins (record f { running = r.node; fired = fired; left = left } ∷ frames) t
        (child_greater g V f.container r.node (kid_is g f.container r.node (In-ready g f.container (outs_at fired) r i).0).0))))

    pub below-step : (task : Task) (frames : List Frame) (s : Plain) → is_done_with task frames ≡ false → Below (steps s.world.turns (task_room g task + frames_room g frames)) (step_on g task frames s)
    below-step (Enters n vs) frames s d = below-enter (op_at g n) n vs frames s
    below-step (Gives vs) [] s d = absurd cc
    below-step (Gives vs) (f ∷ frames) s d =
        below-more (frame_room g f + frames_room g frames) (0 + (frame_room g f + frames_room g frames)) s.world.turns (give_step g f.left f (kept g f vs) frames s) (omega arith) (below-give f.left f (kept g f vs) frames s refl)

pub steps_end_lem : StepsEnd
unfolding steps_left
steps_end_lem g V config s d = go (step g config s) (below-step g (known g V) config.task config.frames s d)
  where
    go : (o : Out Plain Config) → Below g (steps g s.world.turns (config_room g config)) o → AfterStep (λ after t. steps_left g t.world.turns after < steps_left g s.world.turns config) o
    go (Returned after t) h = h
    go (Stopped e t) h = tt
