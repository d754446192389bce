-- Ordered regions: whatever is picked, the same is seen.
use Rattle.std.proofs.Common.{◌≡◌, ◌≢◌, ◌⊎◌, inl, inr, ℕ, zero, suc, ◌+◌, ◌%◌, ◌<◌, ◌≤◌, Bool, true, false, ◌||◌, ℤ, List, [], ◌∷◌, length, Option, Some, None, refl, sym, ap, ◌∙◌, subst, arith}
use Rattle.std.specs.Prelude.{slice_index_or}
use Rattle.std.proofs.Math.Path.{fun_ext}
use Rattle.std.proofs.lemmas.Bool.Decides.{eqb_tells}
use Rattle.std.proofs.Math.Nat.{mod-lt}
use Rattle.gp_base.specs.Run.{Run, Returned, Stuck, go_on, ◌>>=◌, ret, stop, or_stuck}
use Rattle.gp_base.specs.World.{World, start}
use Rattle.hg_ops.specs.Op.{Op, Types, Module, FuncDefn, Const, Input, Output, Dfg, Cfg, DataflowBlock, ExitBlock, Conditional, Case, TailLoop, Tag, Call, CallIndirect, LoadConstant, LoadFunction, Ext, ins_of, outs_of, fires, is_dataflow_container, is_effect}
use Rattle.gp_base.specs.Membership.{In}
use Rattle.hg_graph.specs.Graph.{Graph, Port, op_at, children, firing_children, feeder, static_input}
use Rattle.hg_graph.specs.Ordered.{HasEffect, own, inside, IsOrdered}
use Rattle.hg_graph.specs.Run.{Fired, Open, Look, outs_at, has_fired, inputs, Ready, ready, perform, no_note, on_world, choose, pick_from, at_moment, Enter, at_port, name_of_function, constant, fire_op, fire, firings, world_out}
use Rattle.hg_graph.specs.Valid.{Edge, Path, edge, joined}
use Rattle.hg_graph.specs.Value.{Value, Int, Variant, Function, packed, HaveTypes, functions}
use Rattle.hg_laws.proofs.Runs.{Giving, Shows, bind_shows}
use Rattle.hg_laws.proofs.Values.{or_false}
use Rattle.hg_laws.proofs.Wires.{order_links, edge_cases}
use Rattle.hg_laws.proofs.Forms.{pure_extension}
use Rattle.hg_laws.proofs.Diamond.{first_of, canon, IsDiamond, any_first}
use Rattle.hg_laws.proofs.Looks.{plus, plus_swap, In-ready, In-ready_back, stays_ready, orders_in, not_both}
use Rattle.hg_laws.proofs.Flow.{IsRegion, Sound, typed_inputs, sound_plus, some_ready, all_fed, fed_by_fired, none_left}
use Rattle.hg_laws.proofs.Children.{child_is, kid_is}
use Rattle.hg_laws.proofs.Known.{is_inner, Known}
use Rattle.hg_laws.proofs.Regions.{child_greater}
use Rattle.hg_laws.proofs.Typed.{TypedEnter, entry_ins, exit_of, fire_gives, place_in}
use Rattle.hg_laws.proofs.Alike.{Plain, Doing, at, seen, seen_gives, AlikeEnter, shows_right, fire_alike}

abbrev pub is_plain : Op → Bool
is_plain (Dfg i o) = true
is_plain (Case i o) = true
is_plain (Conditional r i o) = true
is_plain _ = false

abbrev pub any : {A : Type 0} → (A → Bool) → List A → Bool
any test [] = false
any test (x ∷ xs) = test x || any test xs

-- an effect op in a node, at most `depth` deep
abbrev pub has_effect : Graph → ℕ → ℕ → Bool
has_effect g zero n = is_effect (op_at g n)
has_effect g (suc depth) n = is_effect (op_at g n) || any (has_effect g depth) (children g n)

or_cases : (a b : Bool) → (a || b) ≡ true → (a ≡ true) ⊎ (b ≡ true)
or_cases true b e = inl refl
or_cases false b e = inr e

any_true : {A : Type 0} (t : A → Bool) (xs : List A) → any t xs ≡ true → (x : A) × In x xs × (t x ≡ true)
any_true t [] e = absurd cc
any_true t (x ∷ xs) e = elim (or_cases (t x) (any t xs) e) [ inl h ↦ (x, inl refl, h) | inr h ↦ let r = any_true t xs h in (r.0, inr r.1, r.2) ]

pub is_effectful : (g : Graph) (depth n : ℕ) → has_effect g depth n ≡ true → HasEffect g n
is_effectful g zero n e = own e
is_effectful g (suc depth) n e =
    elim (or_cases (is_effect (op_at g n)) (any (has_effect g depth) (children g n)) e) [
      | inl h ↦ own h
      | inr h ↦ let r = any_true (has_effect g depth) (children g n) h in inside r.1 (is_effectful g depth r.0 r.2)
    ]

-- a node without an effect in it gives values, and does nothing else
pub record PureEnter (g : Graph) (D : ℕ) (E : Enter (Unit {0})) : Type 0 where
  pub pure : (n : ℕ) (vs : List Value) → n < length g.nodes → is_plain (op_at g n) ≡ true → length g.nodes ≤ D + n → has_effect g D n ≡ false → HaveTypes (functions g) vs (entry_ins (op_at g n)) → (us : List Value) × HaveTypes (functions g) us (exit_of g n (op_at g n)) × ((w : World) → seen (E [] n vs) w ≡ Returned us w)

pub any_false : {A : Type 0} (t : A → Bool) (xs : List A) → any t xs ≡ false → (x : A) → In x xs → t x ≡ false
any_false t [] e x i = absurd i
any_false t (y ∷ xs) e x (inl s) = ap t s ∙ (or_false (t y) (any t xs) e).0
any_false t (y ∷ xs) e x (inr i) = any_false t xs (or_false (t y) (any t xs) e).1 x i

no_effect : (g : Graph) (d n : ℕ) → has_effect g d n ≡ false → is_effect (op_at g n) ≡ false
no_effect g zero n e = e
no_effect g (suc d) n e = (or_false (is_effect (op_at g n)) _ e).0

module _ (g : Graph) (V : Known g) (inside again : Enter (Unit {0})) (TI : TypedEnter g inside) (TA : TypedEnter g again) (D : ℕ) (AI : AlikeEnter g D inside) (AA : AlikeEnter g (length g.nodes) again) (PI : PureEnter g D inside) where
  -- what a node shows as it fires
  abbrev pub shows_fire : Ready → Run World (List Value)
  shows_fire r = seen (fire_op no_note g inside again (op_at g r.node) [] r.node r.ins)

  given_values : (outer : List Open) (n : ℕ) (vs us : List Value) (kind : Op) → op_at g n ≡ kind → n < length g.nodes → HaveTypes (functions g) vs (ins_of kind) → ((w : World) → seen (fire_op no_note g inside again kind outer n vs) w ≡ Returned us w) → HaveTypes (functions g) us (outs_of kind)
  given_values outer n vs us kind e l h s = subst (Giving (λ x. HaveTypes (functions g) x (outs_of kind))) (s (start 0 [])) ((seen_gives _ (fire_op no_note g inside again kind outer n vs) (fire_gives no_note g V inside again TI TA outer n vs kind e l h)).gives (start 0 []))

  const_shows : (o : Option Port) (c : Port) (v : ℤ) → o ≡ Some c → op_at g c.node ≡ Const v → (w : World) → seen (at_port o (λ x. constant (op_at g x))) w ≡ Returned (Int v ∷ []) w
  const_shows o c v e k w = ap (λ x. seen (at_port x (λ y. constant (op_at g y))) w) e ∙ ap (λ x. seen (constant x) w) k

  name_shows : (o : Option Port) (f : Port) (name : List ℕ) (i u : Types) → o ≡ Some f → op_at g f.node ≡ FuncDefn name i u → (w : World) → seen (at_port o (λ x. name_of_function (op_at g x))) w ≡ Returned (Function name ∷ []) w
  name_shows o f name i u e k w = ap (λ x. seen (at_port x (λ y. name_of_function (op_at g y))) w) e ∙ ap (λ x. seen (name_of_function x) w) k

  pure_fire : (n : ℕ) (vs : List Value) (kind : Op) → op_at g n ≡ kind → n < length g.nodes → length g.nodes ≤ D + n → has_effect g D n ≡ false → is_inner kind ≡ true → fires kind ≡ true → is_effect kind ≡ false → HaveTypes (functions g) vs (ins_of kind) → (us : List Value) × ((w : World) → seen (fire_op no_note g inside again kind [] n vs) w ≡ Returned us w)
  unfolding fire_op perform
  pure_fire n vs (Dfg i o) e l d ef k f x h =
      let r = PI.pure n vs l (ap is_plain e) d ef (subst (λ y. HaveTypes (functions g) vs (entry_ins y)) (sym e) h) in (r.0, r.2)
  pure_fire n vs (Conditional rs i o) e l d ef k f x h =
      let r = PI.pure n vs l (ap is_plain e) d ef (subst (λ y. HaveTypes (functions g) vs (entry_ins y)) (sym e) h) in (r.0, r.2)
  pure_fire n vs (LoadFunction i o) e l d ef k f x h = let c = V.loads n i o l e in (Function c.1 ∷ [], name_shows (feeder g.links (static_input g n)) c.0 c.1 i o c.2 c.3)
  pure_fire n vs LoadConstant e l d ef k f x h = let c = V.constants n l e in (Int c.1 ∷ [], const_shows (feeder g.links (static_input g n)) c.0 c.1 c.2 c.3)
  pure_fire n vs (Tag rows t) e l d ef k f x h = (Variant t (packed vs) ∷ [], λ w. refl)
  pure_fire n vs (Ext y) e l d ef k f x h = let p = pure_extension (functions g) y vs x h in (p.0, λ w. ap (λ o. world_out (Rattle.hg_graph.specs.Run.with_world (at w []) o)) (p.1 w))
  pure_fire n vs (TailLoop a b r) e l d ef k f x h = absurd cc
  pure_fire n vs (Cfg i o) e l d ef k f x h = absurd cc
  pure_fire n vs (Call i o) e l d ef k f x h = absurd cc
  pure_fire n vs (CallIndirect i o) e l d ef k f x h = absurd cc
  pure_fire n vs Module e l d ef k f x h = absurd cc
  pure_fire n vs (FuncDefn name i o) e l d ef k f x h = absurd cc
  pure_fire n vs (Input r) e l d ef k f x h = absurd cc
  pure_fire n vs (Output r) e l d ef k f x h = absurd cc
  pure_fire n vs (Const a) e l d ef k f x h = absurd cc
  pure_fire n vs (Case i o) e l d ef k f x h = absurd cc
  pure_fire n vs (DataflowBlock i r o) e l d ef k f x h = absurd cc
  pure_fire n vs (ExitBlock r) e l d ef k f x h = absurd cc

  module _ (c i o : ℕ) (fl : is_dataflow_container (op_at g c) ≡ true) (R : IsRegion g c i o) (inner : (k : ℕ) → In k (firing_children g c) → is_inner (op_at g k) ≡ true) (deep : length g.nodes ≤ suc D + c) where
    abbrev pub add : Look → Ready → List Value → Look
    add look r vs = plus look r.node vs

    option_run : Option (List Value) → Run World (List Value)
    option_run None = stop Stuck
    option_run (Some vs) = ret vs

    pub finish : Look → Run World (List Value)
    finish look = option_run (inputs g look o)

    abbrev pub Good : ℕ → Look → Type 0
    Good n look = Sound g c i look n

    abbrev pub Fine : Ready → List Value → Type 0
    Fine r vs = HaveTypes (functions g) vs (outs_of (op_at g r.node))

    kid_in : (r : Ready) → In r.node (firing_children g c) → r.node < length g.nodes
    kid_in r k = (child_is g c r.node (kid_is g c r.node k).0).0

    kid_deep : (r : Ready) → In r.node (firing_children g c) → length g.nodes ≤ D + r.node
    kid_deep r k = let more = child_greater g V c r.node (kid_is g c r.node k).0 in omega arith

    -- a child without effect
    pure_kid : (look : Look) (n : ℕ) (r : Ready) → Good n look → In r (ready g c look) → has_effect g D r.node ≡ false → (us : List Value) × Fine r us × ((w : World) → shows_fire r w ≡ ret us w)
    pure_kid look n r s ir ef =
        let k = In-ready g c look r ir in
        let ins = typed_inputs g c i o R look n r.node r.ins s (k.1).pulls in
        let p = pure_fire r.node r.ins (op_at g r.node) refl (kid_in r k.0) (kid_deep r k.0) ef (inner r.node k.0) (kid_is g c r.node k.0).1 (no_effect g D r.node ef) ins in
        (p.0, given_values [] r.node r.ins p.0 (op_at g r.node) refl (kid_in r k.0) ins p.1, p.1)

    same_ready : (look : Look) (r t : Ready) → In r (ready g c look) → In t (ready g c look) → r.node ≡ t.node → r ≡ t
    same_ready look r t ir it e =
        let a = (In-ready g c look r ir).1 in
        let b = (In-ready g c look t it).1 in
        let ins : r.ins ≡ t.ins = same_some (inputs g look r.node) r.ins t.ins a.pulls (ap (inputs g look) e ∙ b.pulls) in
        λ x. record { node = e x; ins = ins x }
      where
        same_some : (z : Option (List Value)) (x y : List Value) → z ≡ Some x → z ≡ Some y → x ≡ y
        same_some z x y p q = cc

    -- what stands before a ready node on a path has fired
    path_back : (look : Look) (n a b : ℕ) → Good n look → Path g a b → ((z : ℕ) → Edge g z b → has_fired look z ≡ true) → has_fired look a ≡ true
    path_back look n a b s (edge e) h = h a e
    path_back look n a b s (joined {b = m} p q) h =
        let t = path_back look n m b s q h in
        path_back look n a m s p (λ z e. elim (edge_cases g z m e) [
          | inl x ↦ ap (has_fired look) (sym x.2) ∙ s.closed x.0 x.1 (ap (has_fired look) x.3 ∙ t)
          | inr x ↦ ap (has_fired look) (sym x.2) ∙ s.closed_order x.0 x.1 (ap (has_fired look) x.3 ∙ t)
        ])

    no_path : (look : Look) (n : ℕ) (r t : Ready) → Good n look → In r (ready g c look) → In t (ready g c look) → Path g r.node t.node → ⊥
    no_path look n r t s ir it p =
        let a = (In-ready g c look r ir).1 in
        let b = In-ready g c look t it in
        let f = path_back look n r.node t.node s p (λ z e. elim (edge_cases g z t.node e) [
          | inl x ↦ ap (has_fired look) (sym x.2) ∙ fed_by_fired g c i o R look t.node t.ins (inl b.0) (b.1).pulls x.0 x.1 x.3
          | inr x ↦ ap (has_fired look) (sym x.2) ∙ orders_in (order_links g) look t.node x.0 (b.1).ordered x.1 x.3
        ]) in
        not_both (has_fired look r.node) f a.fresh

    -- where no child has an effect, a region gives values and does nothing else
    pub canon_pure : (n : ℕ) (look : Look) → Good n look → ((k : ℕ) → In k (firing_children g c) → has_effect g D k ≡ false) → (us : List Value) × HaveTypes (functions g) us (ins_of (op_at g o)) × ((w : World) → canon (ready g c) shows_fire add finish n look w ≡ ret us w)
    unfolding finish option_run
    canon_pure zero look s h =
        let f = all_fed g c i o R look s in
        (f.0, typed_inputs g c i o R look 0 o f.0 s f.1, λ w. ap (λ x. option_run x w) f.1)
    canon_pure (suc n) look s h = go (ready g c look) refl (λ vs r x. canon_pure n (plus look r.node vs) x h)
      where
        Result : List Ready → Type 0
        Result l = (us : List Value) × HaveTypes (functions g) us (ins_of (op_at g o)) × ((w : World) → first_of l (λ r. shows_fire r >>= (λ v. canon (ready g c) shows_fire add finish n (add look r v))) w ≡ ret us w)

        go : (l : List Ready) → ready g c look ≡ l → ((vs : List Value) (r : Ready) → Good n (plus look r.node vs) → (us : List Value) × HaveTypes (functions g) us (ins_of (op_at g o)) × ((w : World) → canon (ready g c) shows_fire add finish n (plus look r.node vs) w ≡ ret us w)) → Result (ready g c look)
        go [] e ih = absurd (some_ready g c i o R look n s e)
        go (r ∷ l) e ih =
            let ir : In r (ready g c look) = subst (In r) (sym e) (inl refl) in
            let k = In-ready g c look r ir in
            let p = pure_kid look (suc n) r s ir (h r.node k.0) in
            let z = ih p.0 r (sound_plus g c i o R look n r p.0 s k.0 k.1 p.1) in
            let K = λ (v : List Value). canon (ready g c) shows_fire add finish n (add look r v) in
            (z.0, z.1, λ w. ap (λ x. first_of x (λ t. shows_fire t >>= (λ v. canon (ready g c) shows_fire add finish n (add look t v))) w) e ∙ (ap (λ x. go_on x K) (p.2 w) ∙ z.2 w))

    bool_cases : (b : Bool) → (b ≡ true) ⊎ (b ≡ false)
    bool_cases true = inl refl
    bool_cases false = inr refl

    module _ (O : IsOrdered g) where
      one_pure : (look : Look) (n : ℕ) (r t : Ready) → Good n look → In r (ready g c look) → In t (ready g c look) → r ≢ t → (has_effect g D r.node ≡ false) ⊎ (has_effect g D t.node ≡ false)
      one_pure look n r t s ir it ne = go (bool_cases (has_effect g D r.node)) (bool_cases (has_effect g D t.node))
        where
          go : (has_effect g D r.node ≡ true) ⊎ (has_effect g D r.node ≡ false) → (has_effect g D t.node ≡ true) ⊎ (has_effect g D t.node ≡ false) → (has_effect g D r.node ≡ false) ⊎ (has_effect g D t.node ≡ false)
          go (inr a) b = inl a
          go (inl a) (inr b) = inr b
          go (inl a) (inl b) =
              elim (O c r.node t.node fl (In-ready g c look r ir).0 (In-ready g c look t it).0 (is_effectful g D r.node a) (is_effectful g D t.node b) (λ e. ne (same_ready look r t ir it e))) [
                | inl p ↦ absurd (no_path look n r t s ir it p)
                | inr p ↦ absurd (no_path look n t r s it ir p)
              ]

      pub diamond : IsDiamond (ready g c) shows_fire add finish Good Fine
      diamond = record {
        same_or = λ n look r t s ir it. elim (eqb_tells r.node t.node) [ inl e ↦ inl (same_ready look r t ir it e.1) | inr e ↦ inr (λ q. e.1 (ap (λ x. x.node) q)) ];
        fine = λ n look r s ir w. let k = In-ready g c look r ir in (seen_gives _ (fire_op no_note g inside again (op_at g r.node) [] r.node r.ins) (fire_gives no_note g V inside again TI TA [] r.node r.ins (op_at g r.node) refl (kid_in r k.0) (typed_inputs g c i o R look (suc n) r.node r.ins s (k.1).pulls))).gives w;
        grows = λ n look r vs s ir h. let k = In-ready g c look r ir in sound_plus g c i o R look n r vs s k.0 k.1 h;
        over = λ look r s ir. let k = In-ready g c look r ir in not_both (has_fired look r.node) (none_left look (firing_children g c) r.node k.0 s.count) (k.1).fresh;
        stays = λ n look r t vs s ir it ne h. let a = In-ready g c look r ir in let b = In-ready g c look t it in
            In-ready_back g c (plus look r.node vs) t b.0 (stays_ready g look t r.node vs (a.1).fresh (λ e. ne (same_ready look r t ir it e)) b.1);
        pure_one = λ n look r t s ir it ne. elim (one_pure look (suc n) r t s ir it ne) [ inl e ↦ inl (pure_kid look (suc n) r s ir e) | inr e ↦ inr (pure_kid look (suc n) t s it e) ];
        swaps = λ n look r t us vs s ir it ne hu hv w. ap (λ l. canon (ready g c) shows_fire add finish n l w) (fun_ext (plus_swap look r.node t.node us vs (λ e. ne (same_ready look r t ir it e))));
      }

      -- ---- a region shows what its first ready nodes show
      picks_one : (x : Ready) (l : List Ready) (s : Plain) (p : List ℕ) → (r : Ready) × (t : Plain) × In r (x ∷ l) × (s.world ≡ t.world) × (pick_from x l p s ≡ Returned r t)
      picks_one x l s [] = (x, s, inl refl, refl, refl)
      picks_one x l s (k ∷ p) =
          let pos : 0 < suc (length l) = omega arith in
          (slice_index_or (x ∷ l) (k % suc (length l)) x, record s { picks = p }, place_in (x ∷ l) (k % suc (length l)) x (mod-lt k pos), refl, refl)

      chooses : (l : List Ready) (s : Plain) → ((r : Ready) × (t : Plain) × In r l × (s.world ≡ t.world) × (choose l s ≡ Returned r t)) ⊎ (l ≡ [])
      chooses [] s = inr refl
      chooses (x ∷ l) s = inl (picks_one x l s s.picks)

      pub firings_show : (outer : List Open) (n : ℕ) (fired : List Fired) → Good n (outs_at fired) → Shows (firings no_note g (fire no_note g inside again) outer c o n fired) (canon (ready g c) shows_fire add finish n (outs_at fired))
      unfolding firings finish option_run
      firings_show outer zero fired H = record { same = λ s. last (inputs g (outs_at fired) o) s }
        where
          last : (x : Option (List Value)) (s : Plain) → world_out ((at_moment no_note (record { container = c; fired = fired; running = None } ∷ outer) >>= (λ _. or_stuck x)) s) ≡ option_run x s.world
          last None s = refl
          last (Some vs) s = refl
      firings_show outer (suc n) fired H =
          record { same = λ s. go (λ r vs h. firings_show outer n (record { node = r.node; outs = vs } ∷ fired) h) s (chooses (ready g c (outs_at fired)) s) }
        where
          after_choice : Ready → Doing
          after_choice r = fire_op no_note g inside again (op_at g r.node) (record { container = c; fired = fired; running = Some r.node } ∷ outer) r.node r.ins >>= (λ vs. firings no_note g (fire no_note g inside again) outer c o n (record { node = r.node; outs = vs } ∷ fired))

          chosen : ((r : Ready) (vs : List Value) → Good n (plus (outs_at fired) r.node vs) → Shows (firings no_note g (fire no_note g inside again) outer c o n (record { node = r.node; outs = vs } ∷ fired)) (canon (ready g c) shows_fire add finish n (plus (outs_at fired) r.node vs))) → (s : Plain) (r : Ready) → In r (ready g c (outs_at fired)) → world_out (after_choice r s) ≡ canon (ready g c) shows_fire add finish (suc n) (outs_at fired) s.world
          chosen ih s r ir =
              let k = In-ready g c (outs_at fired) r ir in
              let ins = typed_inputs g c i o R (outs_at fired) (suc n) r.node r.ins H (k.1).pulls in
              let sh = bind_shows (Fine r) (fire_op no_note g inside again (op_at g r.node) (record { container = c; fired = fired; running = Some r.node } ∷ outer) r.node r.ins) (shows_fire r)
              (λ vs. firings no_note g (fire no_note g inside again) outer c o n (record { node = r.node; outs = vs } ∷ fired)) (λ vs. canon (ready g c) shows_fire add finish n (plus (outs_at fired) r.node vs))
              (shows_right _ _ (fire_alike g V inside again TI TA D AI AA (record { container = c; fired = fired; running = Some r.node } ∷ outer) [] r.node r.ins (op_at g r.node) refl (kid_in r k.0) (kid_deep r k.0) ins))
              (seen_gives _ (fire_op no_note g inside again (op_at g r.node) [] r.node r.ins) (fire_gives no_note g V inside again TI TA [] r.node r.ins (op_at g r.node) refl (kid_in r k.0) ins))
              (λ vs h. ih r vs (sound_plus g c i o R (outs_at fired) n r vs H k.0 k.1 h)) in
              sh.same s ∙ any_first (ready g c) shows_fire add finish Good Fine diamond n (outs_at fired) r H ir s.world

          go : ((r : Ready) (vs : List Value) → Good n (plus (outs_at fired) r.node vs) → Shows (firings no_note g (fire no_note g inside again) outer c o n (record { node = r.node; outs = vs } ∷ fired)) (canon (ready g c) shows_fire add finish n (plus (outs_at fired) r.node vs))) → (s : Plain) → ((r : Ready) × (t : Plain) × In r (ready g c (outs_at fired)) × (s.world ≡ t.world) × (choose (ready g c (outs_at fired)) s ≡ Returned r t)) ⊎ (ready g c (outs_at fired) ≡ []) → world_out (go_on (choose (ready g c (outs_at fired)) s) after_choice) ≡ canon (ready g c) shows_fire add finish (suc n) (outs_at fired) s.world
          go ih s (inl r) = ap (λ z. world_out (go_on z after_choice)) r.4 ∙ (chosen ih r.1 r.0 r.2 ∙ sym (ap (canon (ready g c) shows_fire add finish (suc n) (outs_at fired)) r.3))
          go ih s (inr e) = absurd (some_ready g c i o R (outs_at fired) n H e)
