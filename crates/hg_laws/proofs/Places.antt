-- One place for each qubit at each moment, and how runs end, in the words of the laws.
use Rattle.std.proofs.Common.{◌≡◌, ◌⊎◌, inl, inr, ℕ, zero, suc, ◌+◌, ◌-◌, ◌<◌, ◌≤◌, Bool, true, false, ◌&&◌, ◌||◌, ltb, leb, List, [], ◌∷◌, length, refl, sym, ap, ap₂, ◌∙◌, subst, arith}
use Rattle.std.proofs.lemmas.Bool.{ltb-true, lt-ltb, leb-true, le-leb, cases_lt}
use Rattle.gp_base.specs.Run.{Out, Returned, Stopped, TurnsUsed, OutcomesUsed, DivisionByZero, Stuck}
use Rattle.gp_base.specs.World.{World, start, is_live}
use Rattle.hg_graph.specs.Graph.{Graph}
use Rattle.hg_laws.specs.Laws.{ValidGraphsKeepPlaces, MomentsChangeNothing, ValidGraphsEndWell, ClosedRunsHoldNone}
use Rattle.hg_graph.specs.Moments.{write_down, noted_run, is_own, once_if, HasOnePlace, EachMoment, IsProper, ReturnsItsQubits, EndsWell, notes_of, unread}
use Rattle.hg_graph.specs.Run.{Open, State, no_note, Note, resume, runs, world_out, run_function, graph_run}
use Rattle.hg_graph.specs.Value.{Value, HaveTypes, functions, uses_all}
use Rattle.hg_laws.proofs.Runs.{Giving, Gives}
use Rattle.hg_laws.proofs.Values.{no_qubits}
use Rattle.gp_base.proofs.Steps.{IsLater, later_step}
use Rattle.hg_laws.proofs.Known.{Known, known}
use Rattle.hg_laws.proofs.Typed.{exit_of, entry_ins, resume_typed}
use Rattle.hg_laws.proofs.Counts.{lives, at_most_once}
use Rattle.hg_laws.proofs.Safe.{Balanced, Placed, Safely, elsewhere, open_none, can_enter, resume_safe}
use Rattle.hg_laws.proofs.Ports.{all_ports}
use Rattle.hg_laws.proofs.Mirrors.{runs_mirror}

bool_cases : (b : Bool) → (b ≡ true) ⊎ (b ≡ false)
bool_cases true = inl refl
bool_cases false = inr refl

not_live_past : (flags : List Bool) (q : ℕ) → length flags ≤ q → is_live flags q ≡ false
not_live_past [] q l = refl
not_live_past (f ∷ flags) zero l = absurd (omega arith)
not_live_past (f ∷ flags) (suc q) l = not_live_past flags q (omega arith)

and_true : (b : Bool) → (b && true) ≡ b
and_true true = refl
and_true false = refl

and_false : (b : Bool) → (b && false) ≡ false
and_false true = refl
and_false false = refl

once_same : (a b : Bool) → once_if a ≡ once_if b → a ≡ b
once_same true true e = refl
once_same true false e = absurd (omega arith)
once_same false true e = absurd (omega arith)
once_same false false e = refl

none_once : (b : Bool) → once_if b ≡ 0 → b ≡ false
none_once true e = absurd (omega arith)
none_once false e = refl

module _ (before : World) (arguments : List Value) (proper : (q : ℕ) → uses_all q arguments ≤ once_if (is_live before.flags q)) where
  -- the qubits that are live at the start and don't come with the arguments
  abbrev foreign : ℕ → ℕ
  foreign q = lives before q - uses_all q arguments

  -- which qubits are the run's own
  own_cases : (q : ℕ) → ((is_own before arguments q ≡ true) × (foreign q ≡ 0)) ⊎ ((is_own before arguments q ≡ false) × (uses_all q arguments ≡ 0) × (q < length before.flags))
  own_cases q = elim (cases_lt 0 (uses_all q arguments)) [
    | inl l ↦ inl (ap (λ b. b || leb (length before.flags) q) (lt-ltb 0 (uses_all q arguments) l), let p = proper q in let m = at_most_once (is_live before.flags q) in omega arith)
    | inr n ↦ elim (cases_lt q (length before.flags)) [
      | inl l ↦ inr (ap₂ ◌||◌ (no_ltb 0 (uses_all q arguments) n) (no_leb (length before.flags) q l), omega arith, l)
      | inr m ↦ inl (ap₂ ◌||◌ (no_ltb 0 (uses_all q arguments) n) (leb-is (length before.flags) q m), let z : lives before q ≡ 0 = ap once_if (not_live_past before.flags q m) in omega arith)
    ]
  ]
    where
      no_ltb : (a b : ℕ) → b ≤ a → ltb a b ≡ false
      no_ltb a b l = elim (bool_cases (ltb a b)) [ inl t ↦ absurd (let x = ltb-true a b t in omega arith) | inr f ↦ f ]

      leb-is : (a b : ℕ) → a ≤ b → leb a b ≡ true
      leb-is a b l = le-leb a b l

      no_leb : (a b : ℕ) → b < a → leb a b ≡ false
      no_leb a b l = elim (bool_cases (leb a b)) [ inl t ↦ absurd (let x = leb-true a b t in omega arith) | inr f ↦ f ]

  -- what is counted beside the foreign ones is the run's own
  own_count : (u q : ℕ) (w : World) → IsLater before w → u + foreign q ≡ lives w q → u ≡ once_if (is_live w.flags q && is_own before arguments q)
  own_count u q w later e = go (own_cases q)
    where
      zero_of : uses_all q arguments ≡ 0 → q < length before.flags → (b : Bool) → is_live before.flags q ≡ b → u ≡ 0
      zero_of z l true live = let f : lives before q ≡ 1 = ap once_if live in let m = at_most_once (is_live w.flags q) in omega arith
      zero_of z l false dead = let f : lives w q ≡ 0 = ap once_if (later.gone q l dead) in omega arith

      go : ((is_own before arguments q ≡ true) × (foreign q ≡ 0)) ⊎ ((is_own before arguments q ≡ false) × (uses_all q arguments ≡ 0) × (q < length before.flags)) → u ≡ once_if (is_live w.flags q && is_own before arguments q)
      go (inl o) =
          let f = o.1 in
          let z : u ≡ lives w q = omega arith in
          z ∙ sym (ap (λ b. once_if (is_live w.flags q && b)) o.0 ∙ ap once_if (and_true (is_live w.flags q)))
      go (inr o) = zero_of o.1 o.2 (is_live before.flags q) refl ∙ sym (ap (λ b. once_if (is_live w.flags q && b)) o.0 ∙ ap once_if (and_false (is_live w.flags q)))

  -- the others are as they were
  others_stay : (u q : ℕ) (w : World) → IsLater before w → u + foreign q ≡ lives w q → is_own before arguments q ≡ false → is_live w.flags q ≡ is_live before.flags q
  others_stay u q w later e other =
      let own = own_count u q w later e in
      let z : u ≡ 0 = own ∙ (ap (λ b. once_if (is_live w.flags q && b)) other ∙ ap once_if (and_false (is_live w.flags q))) in
      elim (own_cases q) [
        | inl o ↦ absurd (clash (sym o.0 ∙ other))
        | inr o ↦ let n = o.1 in once_same (is_live w.flags q) (is_live before.flags q) (omega arith)
      ]
    where
      clash : true ≡ false → ⊥
      clash h = cc

  module _ (g : Graph) (V : Known g) where
    one_place : (os : List Open) (w : World) → Placed before g foreign os w → HasOnePlace g before arguments (record { regions = os; world = w })
    one_place os w p = record {
      regions = p.regions;
      places = λ q. own_count (unread q g os) q w p.later (ap (λ x. x + foreign q) (sym (all_ports g V q os p.regions)) ∙ p.places q);
    }

    begins : Balanced before (elsewhere g foreign []) arguments before
    begins = record { count = λ q. let z = open_none q g in let h = proper q in omega arith; later = later_step.same before }

-- ---- moments
notes_safely : {N A : Type 0} (I : N → Type 0) (Q : A → World → Type 0) (o : Out (State N) A) → Safely I Q o → I (notes_of o)
notes_safely I Q (Returned a s) h = h.0
notes_safely I Q (Stopped TurnsUsed s) h = h
notes_safely I Q (Stopped OutcomesUsed s) h = h
notes_safely I Q (Stopped DivisionByZero s) h = h
notes_safely I Q (Stopped Stuck s) h = absurd h

pub valid_graphs_keep_places_lem : ValidGraphsKeepPlaces
unfolding noted_run runs
valid_graphs_keep_places_lem g V f arguments w P picks =
    let K = known g V in
    let I = EachMoment (HasOnePlace g w arguments) in
    let s = (resume_safe I write_down w g (foreign w arguments P.live) (λ os v n p i. (one_place w arguments P.live g K os v p, i)) K (suc w.turns)).safe [] f arguments w P.is_node (ap can_enter P.is_function) (omega arith)
    (subst (λ x. HaveTypes (functions g) arguments (entry_ins x)) (sym P.is_function) P.typed) tt (begins w arguments P.live g K) (omega arith) in
    notes_safely I _ (resume write_down g (suc w.turns) [] f arguments (record { world = w; picks = picks; notes = [] })) (s.safe picks [] tt)

pub moments_change_nothing_lem : MomentsChangeNothing
unfolding noted_run graph_run run_function
moments_change_nothing_lem g f arguments w picks = runs_mirror write_down g [] f arguments (record { world = w; picks = picks; notes = [] })

-- ---- ends
ends_well : {A : Type 0} (Q S : A → World → Type 0) (T : A → Type 0) (o : Out (State (Unit {0})) A) → ((a : A) (v : World) → Q a v → T a → S a v) → Safely (λ _. Unit {0}) Q o → Giving T o → EndsWell S (world_out o)
ends_well Q S T (Returned a s) f h t = f a s.world h.1 t
ends_well Q S T (Stopped TurnsUsed s) f h t = tt
ends_well Q S T (Stopped OutcomesUsed s) f h t = tt
ends_well Q S T (Stopped DivisionByZero s) f h t = tt
ends_well Q S T (Stopped Stuck s) f h t = h

abbrev quiet : Note (Unit {0})
quiet = no_note

pub valid_graphs_end_well_lem : ValidGraphsEndWell
unfolding graph_run run_function runs
valid_graphs_end_well_lem g V f arguments w P picks =
    let K = known g V in
    let s = (resume_safe (λ _. Unit {0}) quiet w g (foreign w arguments P.live) (λ os v n p i. tt) K (suc w.turns)).safe [] f arguments w P.is_node (ap can_enter P.is_function) (omega arith)
    (subst (λ x. HaveTypes (functions g) arguments (entry_ins x)) (sym P.is_function) P.typed) tt (begins w arguments P.live g K) (omega arith) in
    let T = subst (λ x. Gives (λ us. HaveTypes (functions g) us (exit_of g f x)) (resume quiet g (suc w.turns) [] f arguments)) P.is_function ((resume_typed quiet g K (suc w.turns)).typed [] f arguments P.is_node (subst (λ x. HaveTypes (functions g) arguments (entry_ins x)) (sym P.is_function) P.typed)) in
    let at : State (Unit {0}) = record { world = w; picks = picks; notes = tt } in
    ends_well _ (ReturnsItsQubits g w arguments P.outs) (λ us. HaveTypes (functions g) us P.outs) (resume quiet g (suc w.turns) [] f arguments at)
    (λ us v q ty. record {
      typed = ty;
      own = λ x. own_count w arguments P.live (uses_all x us) x v (q.0).later (let z = open_none x g in let c = (q.0).count x in omega arith);
      others = λ x other. others_stay w arguments P.live (uses_all x us) x v (q.0).later (let z = open_none x g in let c = (q.0).count x in omega arith) other;
    })
    (s.safe picks tt tt) (T.gives at)

pub closed_runs_hold_none_lem : ClosedRunsHoldNone
closed_runs_hold_none_lem g V f name outs l e copyable turns outcomes picks returned w run q =
    let w0 = start turns outcomes in
    let P : IsProper g f [] w0 = record { is_node = l; name = name; ins = []; outs = outs; is_function = e; typed = tt; live = λ x. omega arith } in
    let R = subst (EndsWell (ReturnsItsQubits g w0 [] outs)) run (valid_graphs_end_well_lem g V f [] w0 P picks) in
    let z = no_qubits (functions g) q returned outs R.typed copyable in
    none_once (is_live w.flags q) (sym (R.own q ∙ ap once_if (ap (λ b. is_live w.flags q && b) own ∙ and_true (is_live w.flags q))) ∙ z)
  where
    own : is_own (start turns outcomes) [] q ≡ true
    own = le-leb 0 q (omega arith)
