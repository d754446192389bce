-- Parts of steps.
use Rattle.std.proofs.Common.{ap₂, Result, Ok, Err, IfOk, ◌≡◌, ◌≢◌, ℕ, zero, suc, ◌-◌, ◌<◌, List, [], ◌∷◌, ◌++◌, map, Option, Some, None, refl, sym, ap, ◌∙◌, arith}
use Rattle.std.specs.Prelude.{reverse}
use Rattle.std.proofs.lemmas.List.{reverse-append, map-append}
use Rattle.gp_base.specs.Run.{Run, Out, Returned, Stopped, Stuck, go_on, ◌>>=◌, or_stuck}
use Rattle.hg_ops.specs.Op.{Op}
use Rattle.hg_graph.specs.Run.{Fired, Ready, choose, ready, outs_at, inputs}
use Rattle.hg_graph.specs.Graph.{Graph, op_at}
use Rattle.hg_graph.specs.Value.{Value}
use Rattle.hg_steps.specs.Machine.{Config, Plain, Frame, round_step, fire_step, close_step, give_step}
use Rattle.hg_run.specs.declared.state.Frame.{Frame as DeclaredFrame}
use Rattle.hg_run.specs.code.StateView.{frame_view, frame_list}

-- what may be missing is missing, or there
pub stuck_at : {A : Type 0} (o : Option A) (k : A → Run Plain Config) (s : Plain) → None ≡ o → (or_stuck o >>= k) s ≡ Stopped Stuck s
stuck_at None k s e = refl
stuck_at (Some a) k s e = absurd cc

pub goes_at : {A : Type 0} (o : Option A) (a : A) (k : A → Run Plain Config) (s : Plain) → Some a ≡ o → (or_stuck o >>= k) s ≡ k a s
goes_at o a k s e = ap (λ o. (or_stuck o >>= k) s) (sym e)

-- a frame is laid upon others, and taken off them
pub frames_more : (frames : List DeclaredFrame) (f : DeclaredFrame) → frame_list (frames ++ f ∷ []) ≡ frame_view f ∷ frame_list frames
frames_more frames f = ap reverse (map-append frame_view frames (f ∷ [])) ∙ reverse-append (map frame_view frames) (frame_view f ∷ [])

-- the same fact of another word for a result
pub if_ok : {T E : Type 0} (r : Result T E) (P Q : T → Type 0) → IfOk r P → ((a : T) → P a → Q a) → IfOk r Q
if_ok (Ok a) P Q p h = h a p
if_ok (Err e) P Q p h = tt

-- a variant that says neither to go on nor to leave
pub round_other : (g : Graph) (k n : ℕ) (vs : List Value) (frames : List Frame) (s : Plain) → k ≢ 0 → k ≢ 1 → round_step g k n vs frames s ≡ Stopped Stuck s
round_other g zero n vs frames s a b = absurd (a refl)
round_other g (suc zero) n vs frames s a b = absurd (b refl)
round_other g (suc (suc k)) n vs frames s a b = refl

-- a region that opens
pub opened : (frames new : List DeclaredFrame) (f : DeclaredFrame) (left : ℕ) → new ≡ frames ++ f ∷ [] → f.fired ≡ [] → f.left ≡ left
    → record { container = f.container.0; output = f.output.0; running = f.running.0; fired = []; left = left } ∷ frame_list frames ≡ frame_list new
opened frames new f left e none count =
    ap₂ (λ fired left. record { container = f.container.0; output = f.output.0; running = f.running.0; fired = fired; left = left } ∷ frame_list frames) (sym none) (sym count)
    ∙ (sym (frames_more frames f) ∙ ap frame_list (sym e))

module _ (g : Graph) (f : Frame) (left : ℕ) (fired : List Fired) (frames : List Frame) (s : Plain) where
  -- no child is ready
  pub give_stuck : (t : Plain) → 0 < left → choose (ready g f.container (outs_at fired)) s ≡ Stopped Stuck t → give_step g left f fired frames s ≡ Stopped Stuck t
  unfolding give_step
  give_stuck t l e = go left l
    where
      go : (left : ℕ) → 0 < left → give_step g left f fired frames s ≡ Stopped Stuck t
      go zero l = absurd (omega arith)
      go (suc left) l = ap (λ o. go_on o (λ r. fire_step g (op_at g r.node) r.node r.ins (record f { running = r.node; fired = fired; left = left } ∷ frames))) e

  -- a child fires
  pub give_fires : (t : Plain) (r : Ready) (kind : Op) (more : List Frame) (out : Out Plain Config) → 0 < left → choose (ready g f.container (outs_at fired)) s ≡ Returned r t
      → kind ≡ op_at g r.node → more ≡ record { container = f.container; output = f.output; running = r.node; fired = fired; left = left - 1 } ∷ frames
      → fire_step g kind r.node r.ins more t ≡ out → give_step g left f fired frames s ≡ out
  unfolding give_step
  give_fires t r kind more out l e k m h = go left l m
    where
      go : (left : ℕ) → 0 < left → more ≡ record { container = f.container; output = f.output; running = r.node; fired = fired; left = left - 1 } ∷ frames → give_step g left f fired frames s ≡ out
      go zero l m = absurd (omega arith)
      go (suc left) l m =
          let less : suc left - 1 ≡ left = omega arith in
          ap (λ o. go_on o (λ r. fire_step g (op_at g r.node) r.node r.ins (record f { running = r.node; fired = fired; left = left } ∷ frames))) e
          ∙ (ap₂ (λ kind frames. fire_step g kind r.node r.ins frames t) (sym k) (ap (λ n. record { container = f.container; output = f.output; running = r.node; fired = fired; left = n } ∷ frames) (sym less) ∙ sym m) ∙ h)

-- of a frame a step reads its container and its output
pub give_same : (g : Graph) (f h : Frame) (left : ℕ) (fired : List Fired) (frames : List Frame) (s : Plain) → f.container ≡ h.container → f.output ≡ h.output → give_step g left f fired frames s ≡ give_step g left h fired frames s
unfolding give_step
give_same g f h zero fired frames s c o = ap₂ (λ container output. (or_stuck (inputs g (outs_at fired) output) >>= (λ us. close_step g (op_at g container) container us frames)) s) c o
give_same g f h (suc left) fired frames s c o =
    ap₂ (λ container output. (choose (ready g container (outs_at fired)) >>= (λ r. fire_step g (op_at g r.node) r.node r.ins (record { container = container; output = output; running = r.node; fired = fired; left = left } ∷ frames))) s) c o
