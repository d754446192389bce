-- What relates the world before a run to the world after it, over the words that change worlds.
use Rattle.std.proofs.Common.{◌≡◌, ℕ, zero, suc, ◌<◌, ◌≤◌, Bool, true, false, cond, List, [], ◌∷◌, ◌++◌, length, Option, Some, None, refl, sym, ap, ◌∙◌, subst, arith, append_assoc, append-nil, eq-eqb}
use Rattle.std.specs.Option.{option_and_then}
use Rattle.gp_base.specs.Clean.{flags_after_event, flags_after, IsCleanBetween, IsCleanWorld, world_after, where_true, WorldsStayClean}
use Rattle.gp_base.specs.declared.event.Event.{Event}
use Rattle.gp_base.specs.declared.event.Event.TheVariants as event
use Rattle.gp_base.specs.declared.event.GateName.{GateName}
use Rattle.gp_base.specs.Run.{Run, Out, Returned, Stopped, Stop, Stuck, go_on, ◌>>=◌, ret, stop}
use Rattle.gp_base.specs.World.{World, next, is_live, are_two_live, are_three_live, ended, did, on_live, does, allocate, free, measure, measure_free, outcome_of, reset, apply_gate, apply_gate_on_two, apply_gate_on_three, rotate, turn_of}

-- A relation of worlds that holds over every step of a word: of nothing, of two steps, of an event that leaves the flags,
-- of a new qubit, of one that ends, and of outcomes that are taken.
pub record IsStep (R : World → World → Type 0) : Type 0 where
  pub same : (w : World) → R w w
  pub chain : (u v w : World) → R u v → R v w → R u w
  pub happens : (e : Event) (w : World) → flags_after_event e w.flags ≡ Some w.flags → R w (did e w)
  pub allocates : (w : World) → R w (did (event.Alloc (next w)) (record w { flags = w.flags ++ true ∷ [] }))
  pub ends : (e : Event) (q : ℕ) (w : World) → is_live w.flags q ≡ true → flags_after_event e w.flags ≡ Some (ended w.flags q) → R w (did e (record w { flags = ended w.flags q }))
  pub takes : (outcomes : List Bool) (w : World) → R w (record w { outcomes = outcomes })

module _ (R : World → World → Type 0) (S : IsStep R) where
  pub record Relates {A : Type 0} (m : Run World A) : Type 0 where
    pub relates : (w : World) → R w (world_after (m w))

  relates_on : {A B : Type 0} (w : World) (o : Out World A) (k : A → Run World B) → R w (world_after o) → ((a : A) → Relates (k a)) → R w (world_after (go_on o k))
  relates_on w (Returned a v) k r h = S.chain w v (world_after (k a v)) r ((h a).relates v)
  relates_on w (Stopped e v) k r h = r

  pub then_relates : {A B : Type 0} (m : Run World A) (k : A → Run World B) → Relates m → ((a : A) → Relates (k a)) → Relates (m >>= k)
  then_relates m k r h = record { relates = λ w. relates_on w (m w) k (r.relates w) h }

  pub ret_relates : {A : Type 0} (a : A) → Relates (ret a)
  ret_relates a = record { relates = λ w. S.same w }

  pub stop_relates : {A : Type 0} (e : Stop) → Relates {A = A} (stop e)
  stop_relates e = record { relates = λ w. S.same w }

  -- where a test holds
  if_relates : {A : Type 0} (w : World) (b c : Bool) (o : Out World A) → b ≡ c → (c ≡ true → R w (world_after o)) → R w (world_after (cond b o (stop Stuck w)))
  if_relates w b true o e h = subst (λ x. R w (world_after (cond x o (stop Stuck w)))) (sym e) (h refl)
  if_relates w b false o e h = subst (λ x. R w (world_after (cond x o (stop Stuck w)))) (sym e) (S.same w)

  true_flags : (b : Bool) (flags : List Bool) → b ≡ true → where_true b flags ≡ Some flags
  true_flags b flags e = ap (λ x. where_true x flags) e

  pub does_on : (q : ℕ) (e : Event) → ((flags : List Bool) → flags_after_event e flags ≡ where_true (is_live flags q) flags) → Relates (on_live q (does e))
  does_on q e h = record { relates = λ w. if_relates w (is_live w.flags q) (is_live w.flags q) (does e w) refl (λ l. S.happens e w (h w.flags ∙ true_flags (is_live w.flags q) w.flags l)) }

  pub free_relates : (q : ℕ) → Relates (free q)
  free_relates q = record { relates = λ w. if_relates w (is_live w.flags q) (is_live w.flags q) _ refl (λ l. S.ends (event.Free q) q w l (true_flags (is_live w.flags q) (ended w.flags q) l)) }

  measured : (q : ℕ) (w : World) (outcomes : List Bool) → is_live w.flags q ≡ true → R w (world_after (outcome_of outcomes (λ outcome v. Returned outcome (did (event.Measure q outcome) v)) w))
  measured q w [] l = S.same w
  measured q w (b ∷ outcomes) l =
      S.chain w (record w { outcomes = outcomes }) _ (S.takes outcomes w) (S.happens (event.Measure q b) (record w { outcomes = outcomes }) (true_flags (is_live w.flags q) w.flags l))

  pub measure_relates : (q : ℕ) → Relates (measure q)
  measure_relates q = record { relates = λ w. if_relates w (is_live w.flags q) (is_live w.flags q) _ refl (measured q w w.outcomes) }

  measured_free : (q : ℕ) (w : World) (outcomes : List Bool) → is_live w.flags q ≡ true → R w (world_after (outcome_of outcomes (λ outcome v. Returned outcome (did (event.MeasureFree q outcome) (record v { flags = ended v.flags q }))) w))
  measured_free q w [] l = S.same w
  measured_free q w (b ∷ outcomes) l =
      S.chain w (record w { outcomes = outcomes }) _ (S.takes outcomes w) (S.ends (event.MeasureFree q b) q (record w { outcomes = outcomes }) l (true_flags (is_live w.flags q) (ended w.flags q) l))

  pub measure_free_relates : (q : ℕ) → Relates (measure_free q)
  measure_free_relates q = record { relates = λ w. if_relates w (is_live w.flags q) (is_live w.flags q) _ refl (measured_free q w w.outcomes) }

  pub two_relate : (gate : GateName) (p q : ℕ) → Relates (apply_gate_on_two gate p q)
  two_relate gate p q = record { relates = λ w. if_relates w (are_two_live w.flags p q) (are_two_live w.flags p q) _ refl (λ l. S.happens (event.Gate2 gate p q) w (true_flags (are_two_live w.flags p q) w.flags l)) }

  pub three_relate : (gate : GateName) (p q r : ℕ) → Relates (apply_gate_on_three gate p q r)
  three_relate gate p q r = record { relates = λ w. if_relates w (are_three_live w.flags p q r) (are_three_live w.flags p q r) _ refl (λ l. S.happens (event.Gate3 gate p q r) w (true_flags (are_three_live w.flags p q r) w.flags l)) }

  pub allocate_relates : Relates allocate
  allocate_relates = record { relates = S.allocates }

-- ---- three such relations

-- the turns that are left stay
abbrev pub SameTurns : World → World → Type 0
SameTurns w v = v.turns ≡ w.turns

pub turns_step : IsStep SameTurns
turns_step = record {
  same = λ w. refl;
  chain = λ u v w a b. b ∙ a;
  happens = λ e w h. refl;
  allocates = λ w. refl;
  ends = λ e q w l h. refl;
  takes = λ outcomes w. refl;
}

-- qubits are added, and those that have ended don't come back
pub record IsLater (w v : World) : Type 0 where
  pub more : length w.flags ≤ length v.flags
  pub gone : (q : ℕ) → q < length w.flags → is_live w.flags q ≡ false → is_live v.flags q ≡ false

-- a new qubit changes no other
pub live-before : (flags : List Bool) (b : Bool) (q : ℕ) → q < length flags → is_live (flags ++ b ∷ []) q ≡ is_live flags q
live-before [] b q l = absurd (omega arith)
live-before (f ∷ flags) b zero l = refl
live-before (f ∷ flags) b (suc q) l = live-before flags b q (omega arith)

pub length-push : (flags : List Bool) (b : Bool) → length (flags ++ b ∷ []) ≡ suc (length flags)
length-push [] b = refl
length-push (f ∷ flags) b = ap suc (length-push flags b)

pub length-ended : (flags : List Bool) (q : ℕ) → length (ended flags q) ≡ length flags
length-ended [] q = refl
length-ended (f ∷ flags) zero = refl
length-ended (f ∷ flags) (suc q) = ap suc (length-ended flags q)

pub ended-gone : (flags : List Bool) (p q : ℕ) → is_live flags q ≡ false → is_live (ended flags p) q ≡ false
ended-gone [] p q h = refl
ended-gone (f ∷ flags) zero zero h = refl
ended-gone (f ∷ flags) zero (suc q) h = h
ended-gone (f ∷ flags) (suc p) zero h = h
ended-gone (f ∷ flags) (suc p) (suc q) h = ended-gone flags p q h

pub later_step : IsStep IsLater
later_step = record {
  same = λ w. record { more = omega arith; gone = λ q l h. h };
  chain = λ u v w a b. record { more = let x = a.more in let y = b.more in omega arith; gone = λ q l h. b.gone q (let x = a.more in omega arith) (a.gone q l h) };
  happens = λ e w h. record { more = omega arith; gone = λ q l g. g };
  allocates = λ w. record { more = let e = length-push w.flags true in omega arith; gone = λ q l h. live-before w.flags true q l ∙ h };
  ends = λ e p w l h. record { more = let x = length-ended w.flags p in omega arith; gone = λ q k g. ended-gone w.flags p q g };
  takes = λ outcomes w. record { more = omega arith; gone = λ q l g. g };
}

-- the events are clean
one_event : (e : Event) (flags after : List Bool) → flags_after_event e flags ≡ Some after → flags_after (e ∷ []) flags ≡ Some after
one_event e flags after h = ap (option_and_then (flags_after [])) h

flags_after-append : (a b : List Event) (flags mid : List Bool) → flags_after a flags ≡ Some mid → flags_after (a ++ b) flags ≡ flags_after b mid
flags_after-append [] b flags mid h = ap (λ o. option_and_then (flags_after b) o) h
flags_after-append (e ∷ a) b flags mid h = go (flags_after_event e flags) h (λ m k. flags_after-append a b m mid k)
  where
    go : (o : Option (List Bool)) → option_and_then (flags_after a) o ≡ Some mid → ((m : List Bool) → flags_after a m ≡ Some mid → flags_after (a ++ b) m ≡ flags_after b mid) → option_and_then (flags_after (a ++ b)) o ≡ flags_after b mid
    go None k r = absurd cc
    go (Some m) k r = r m k

pub clean_same : (w : World) → IsCleanBetween w w
clean_same w = record { events = []; appended = sym (append-nil w.events); clean = refl }

pub clean_chain : (u v w : World) → IsCleanBetween u v → IsCleanBetween v w → IsCleanBetween u w
clean_chain u v w a b = record {
  events = a.events ++ b.events;
  appended = b.appended ∙ (ap (λ l. l ++ b.events) a.appended ∙ append_assoc u.events a.events b.events);
  clean = flags_after-append a.events b.events u.flags v.flags a.clean ∙ b.clean;
}

pub clean_step : IsStep IsCleanBetween
clean_step = record {
  same = clean_same;
  chain = clean_chain;
  happens = λ e w h. record { events = e ∷ []; appended = refl; clean = one_event e w.flags w.flags h };
  allocates = λ w. record { events = event.Alloc (next w) ∷ []; appended = refl; clean = one_event (event.Alloc (next w)) w.flags (w.flags ++ true ∷ []) (ap (λ b. where_true b (w.flags ++ true ∷ [])) (eq-eqb (length w.flags) (length w.flags) refl)) };
  ends = λ e q w l h. record { events = e ∷ []; appended = refl; clean = one_event e w.flags (ended w.flags q) h };
  takes = λ outcomes w. record { events = []; appended = sym (append-nil w.events); clean = refl };
}

-- ---- clean worlds
stays_clean : (w v : World) → IsCleanBetween w v → IsCleanWorld w → IsCleanWorld v
stays_clean w v b c = ap (λ es. flags_after es []) b.appended ∙ (flags_after-append w.events b.events [] w.flags c ∙ b.clean)

turn_clean : (w : World) (n : ℕ) → IsCleanBetween w (world_after (turn_of n w))
turn_clean w zero = clean_same w
turn_clean w (suc n) = record { events = []; appended = sym (append-nil w.events); clean = refl }

pub worlds_stay_clean_lem : WorldsStayClean
worlds_stay_clean_lem = record {
  started = λ turns outcomes. refl;
  kept = stays_clean;
  joined = clean_chain;
  allocated = (allocate_relates IsCleanBetween clean_step).relates;
  freed = λ w q. (free_relates IsCleanBetween clean_step q).relates w;
  gated = λ w gate q. (does_on IsCleanBetween clean_step q (event.Gate1 gate q) (λ flags. refl)).relates w;
  gated_two = λ w gate p q. (two_relate IsCleanBetween clean_step gate p q).relates w;
  gated_three = λ w gate p q r. (three_relate IsCleanBetween clean_step gate p q r).relates w;
  rotated = λ w gate q angle. (does_on IsCleanBetween clean_step q (event.Rotation gate q angle) (λ flags. refl)).relates w;
  reset_to_first = λ w q. (does_on IsCleanBetween clean_step q (event.Reset q) (λ flags. refl)).relates w;
  measured = λ w q. (measure_relates IsCleanBetween clean_step q).relates w;
  measured_free = λ w q. (measure_free_relates IsCleanBetween clean_step q).relates w;
  turned = λ w. turn_clean w w.turns;
}
