-- How a region fires where one node is ready.
use Rattle.std.proofs.Common.{◌≡◌, ◌≢◌, inl, inr, ℕ, zero, suc, ◌+◌, ◌<◌, ◌≤◌, Bool, true, false, cond, List, [], ◌∷◌, length, drop, Some, None, slice_index_or, ◌%◌, filter_map, refl, ap, ap₂, ◌∙◌, arith}
use Rattle.std.proofs.lemmas.Bool.{cases_lt}
use Rattle.gp_base.specs.Run.{Out, Returned, go_on}
use Rattle.gp_base.specs.World.{World}
use Rattle.hg_ops.specs.GraphType.{GraphType}
use Rattle.hg_ops.specs.Op.{Extension, Ext, ins_of}
use Rattle.hg_graph.specs.Graph.{Graph, op_at, numbers, firing_children, feeder}
use Rattle.hg_graph.specs.Value.{Value}
use Rattle.hg_graph.specs.Run.{State, no_note, Open, Enter, choose, Look, has_fired, outs_at, Fired, orders_kept, value_at, value_of, cons_both, pulled, inputs, Ready, with_inputs, candidate, ready, perform_extension, perform, with_world, fire_op, fire, firings}
use Rattle.hg_graph.specs.Thin.{chain}
use Rattle.hg_graph.proofs.ThinNumbers.{filter_map_one}
use Rattle.hg_graph.proofs.ThinLinks.{first_port, orders_kept_after, orders_kept_before}

-- ---- candidates
pub candidate_fired : (g : Graph) (look : Look) (n : ℕ) → has_fired look n ≡ true → candidate g look n ≡ None
unfolding candidate
candidate_fired g look n h = ap (λ b. cond b None (cond (orders_kept g.links look n) (with_inputs n (inputs g look n)) None)) h

pub candidate_waits : (g : Graph) (look : Look) (n : ℕ) → has_fired look n ≡ false → orders_kept g.links look n ≡ false → candidate g look n ≡ None
unfolding candidate
candidate_waits g look n h o = ap₂ (λ b c. cond b None (cond c (with_inputs n (inputs g look n)) None)) h o

pub candidate_ready : (g : Graph) (look : Look) (n : ℕ) (ins : List Value) → has_fired look n ≡ false → orders_kept g.links look n ≡ true → inputs g look n ≡ Some ins → candidate g look n ≡ Some (record { node = n; ins = ins })
unfolding candidate
candidate_ready g look n ins h o i = ap₂ (λ b c. cond b None (cond c (with_inputs n (inputs g look n)) None)) h o ∙ ap (with_inputs n) i

-- The children from 4 on fire in the order of a chain, and those below `next` have.
pub record InChain (g : Graph) (count next : ℕ) (look : Look) : Type 0 where
  pub links : g.links ≡ chain 4 count
  pub children : firing_children g 1 ≡ numbers 4 (suc count)
  pub before : (n : ℕ) → 4 ≤ n → n < next → has_fired look n ≡ true
  pub after : (n : ℕ) → next ≤ n → has_fired look n ≡ false

kept_links : (g : Graph) (count : ℕ) (look : Look) (n : ℕ) (b : Bool) → g.links ≡ chain 4 count → orders_kept (chain 4 count) look n ≡ b → orders_kept g.links look n ≡ b
kept_links g count look n b e k = ap (λ links. orders_kept links look n) e ∙ k

-- a child other than the next one is not ready
not_ready : (g : Graph) (count next : ℕ) (look : Look) (n : ℕ) → InChain g count next look → 4 ≤ next → 4 ≤ n → n < 4 + suc count → n ≢ next → candidate g look n ≡ None
not_ready g count next look zero c l four h ne = absurd (omega arith)
not_ready g count next look (suc n) c l four h ne =
    elim (cases_lt (suc n) next) [
      | inl lt ↦ candidate_fired g look (suc n) (c.before (suc n) four lt)
      | inr ge ↦
          let le : next ≤ n = omega arith in
          candidate_waits g look (suc n) (c.after (suc n) ge)
          (kept_links g count look (suc n) false c.links (orders_kept_before look n 4 count (omega arith) (omega arith) (c.after n le)))
    ]

-- the next one is, where its inputs are there
next_ready : (g : Graph) (count next : ℕ) (look : Look) (ins : List Value) → InChain g count next look → inputs g look next ≡ Some ins → candidate g look next ≡ Some (record { node = next; ins = ins })
next_ready g count next look ins c i =
    candidate_ready g look next ins (c.after next (omega arith))
    (kept_links g count look next true c.links (orders_kept_after look next 4 count (λ j l e. c.before j l (omega arith)))) i

pub ready_one : (g : Graph) (count next : ℕ) (look : Look) (ins : List Value) → InChain g count next look → 4 ≤ next → next < 4 + suc count → inputs g look next ≡ Some ins → ready g 1 look ≡ record { node = next; ins = ins } ∷ []
unfolding ready
ready_one g count next look ins c l h i =
    ap (filter_map (candidate g look)) c.children
    ∙ filter_map_one (candidate g look) 4 (suc count) next (record { node = next; ins = ins }) l h (next_ready g count next look ins c i)
    (λ n four b ne. not_ready g count next look n c l four b ne)

-- ---- inputs

pub no_inputs : (g : Graph) (look : Look) (n : ℕ) → ins_of (op_at g n) ≡ [] → inputs g look n ≡ Some []
unfolding inputs
no_inputs g look n e = ap (λ types. pulled g.links look n 0 (length types)) e

pub one_input : (g : Graph) (look : Look) (n before : ℕ) (type : GraphType) (v : Value) → ins_of (op_at g n) ≡ type ∷ [] → feeder g.links (first_port n) ≡ Some (first_port before) → look before ≡ Some (v ∷ []) → inputs g look n ≡ Some (v ∷ [])
unfolding inputs
one_input g look n before type v e f o =
    ap (λ types. pulled g.links look n 0 (length types)) e
    ∙ ap (λ from. cons_both (value_of look from) (Some [])) f
    ∙ ap (λ outs. cons_both (value_at outs 0) (Some [])) o

-- ---- a step

-- a state of a run that writes nothing down
abbrev pub plain_state : World → List ℕ → State (Unit {0})
plain_state w picks = record { world = w; picks = picks; notes = tt }

choose_one : {A : Type 0} (x : A) (w : World) (picks : List ℕ) → choose (x ∷ []) (plain_state w picks) ≡ Returned x (plain_state w (drop 1 picks))
choose_one x w [] = refl
choose_one x w (k ∷ picks) = ap (λ y. Returned y (plain_state w picks)) (only (k % 1))
  where
    only : (i : ℕ) → slice_index_or (x ∷ []) i x ≡ x
    only zero = refl
    only (suc i) = refl

-- an op of an extension does what it does to the world
pub extension_fires : (g : Graph) (inside again : Enter (Unit {0})) (regions : List Open) (n : ℕ) (ins outs : List Value) (e : Extension) (w v : World) (picks : List ℕ) → op_at g n ≡ Ext e → perform_extension e ins w ≡ Returned outs v
    → fire no_note g inside again regions n ins (plain_state w picks) ≡ Returned outs (plain_state v picks)
unfolding fire_op perform
extension_fires g inside again regions n ins outs e w v picks is p =
    ap (λ kind. fire_op no_note g inside again kind regions n ins (plain_state w picks)) is ∙ ap (with_world (plain_state w picks)) p

-- the one ready child fires
pub one_step : (g : Graph) (enter : Enter (Unit {0})) (outer : List Open) (c output count : ℕ) (fired : List Fired) (w v : World) (picks : List ℕ) (r : Ready) (outs : List Value) → ready g c (outs_at fired) ≡ r ∷ []
    → ((regions : List Open) → enter regions r.node r.ins (plain_state w (drop 1 picks)) ≡ Returned outs (plain_state v (drop 1 picks)))
    → firings no_note g enter outer c output (suc count) fired (plain_state w picks) ≡ firings no_note g enter outer c output count (record { node = r.node; outs = outs } ∷ fired) (plain_state v (drop 1 picks))
unfolding firings
one_step g enter outer c output count fired w v picks r outs e p =
    let regions : Ready → List Open = λ r. record { container = c; fired = fired; running = Some r.node } ∷ outer in
    let rest : Ready → List Value → State (Unit {0}) → Out (State (Unit {0})) (List Value) = λ r outs. firings no_note g enter outer c output count (record { node = r.node; outs = outs } ∷ fired) in
    let next : Ready → State (Unit {0}) → Out (State (Unit {0})) (List Value) = λ r s. go_on (enter (regions r) r.node r.ins s) (rest r) in
    ap (λ l. go_on (choose l (plain_state w picks)) next) e
    ∙ ap (λ o. go_on o next) (choose_one r w picks)
    ∙ ap (λ o. go_on o (rest r)) (p (regions r))
