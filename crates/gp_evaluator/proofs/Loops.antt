-- Rows, blocks and loops, one step at a time.
use Rattle.std.proofs.Common.{◌≡◌, ℕ, zero, suc, ℤ, pos, ◌+ℤ◌, int_lt, ◌<◌, ◌≤◌, ◌+◌, add-one, Bool, true, false, if◌then◌else◌, List, [], ◌∷◌, ◌++◌, get_or, drop, length, refl, ap, sym, ◌∙◌, arith}
use Rattle.gp_base.specs.Run.{Out, Run, Returned, Stopped, Stop, ret, go_on, ◌>>=◌}
use Rattle.gp_base.specs.World.{World, take_turn}
use Rattle.gp_tree.specs.declared.expr.Expr.{Expr}
use Rattle.gp_tree.specs.declared.stmt.Stmt.{Stmt}
use Rattle.gp_tree.specs.Expression.{Expression, expression, expressions}
use Rattle.gp_tree.specs.Statement.{Statements, statement, statements}
use Rattle.gp_meaning.specs.Calls.{Functions}
use Rattle.gp_evaluator.specs.Evaluation.{goes_back, after_loop}
use Rattle.gp_meaning.specs.Meaning.{Frame, Rest, Completion, Normal, Break, Continue, Return, needed, truth, evaluated, evaluated_each, executed, executed_each, looped, counted, on_normal, after_body}
use Rattle.gp_meaning.specs.Runs.{Source, rest_in}
use Rattle.gp_meaning.specs.State.{State, Variables, on_world, with_variables, set, assign_name}
use Rattle.gp_meaning.specs.Value.{Value, number}
use Rattle.gp_evaluator.specs.View.{state}
use Rattle.gp_meaning.proofs.Rests.{while_again, for_again}

-- ---- values in a row

values_step : (F : Frame) (f : Functions) (es : List Expr) (i : ℕ) (x : Expr) (s : State) → i < length es → x ≡ get_or es i x
    → evaluated_each F f (expressions (drop i es)) s
    ≡ (needed (evaluated F f (expression x)) >>= λ v. evaluated_each F f (expressions (drop (suc i) es)) >>= λ vs. ret (v ∷ vs)) s
values_step F f [] i x s h is = absurd (omega (arith, h))
values_step F f (e ∷ es) zero x s h is =
    ap (λ (y : Expr). (needed (evaluated F f (expression y)) >>= λ v. evaluated_each F f (expressions es) >>= λ vs. ret (v ∷ vs)) s) (sym is)
values_step F f (e ∷ es) (suc i) x s h is = values_step F f es i x s (omega (arith, h)) is

module _ (F : Frame) (f : Functions) (es : List Expr) (whole : Out State (List Value)) (made : List Value) (i : ℕ) (s : State)
    (before : whole ≡ (evaluated_each F f (expressions (drop i es)) >>= λ vs. ret (made ++ vs)) s) where
  pub values_err : (x : Expr) (why : Stop) (t : State) → i < length es → x ≡ get_or es i x → needed (evaluated F f (expression x)) s ≡ Stopped why t → whole ≡ Stopped why t
  values_err x why t h is e =
      before ∙ ap (λ o. go_on o (λ vs. ret (made ++ vs))) (values_step F f es i x s h is ∙ ap (λ o. go_on o (λ v. evaluated_each F f (expressions (drop (suc i) es)) >>= λ vs. ret (v ∷ vs))) e)

  pub values_ok : (x : Expr) (v : Value) (t : State) (more : List Value) → i < length es → x ≡ get_or es i x → needed (evaluated F f (expression x)) s ≡ Returned v t → more ≡ made ++ v ∷ []
      → whole ≡ (evaluated_each F f (expressions (drop (i + 1) es)) >>= λ vs. ret (more ++ vs)) t
  values_ok x v t more h is e m =
      before
      ∙ ap (λ o. go_on o (λ vs. ret (made ++ vs))) (values_step F f es i x s h is ∙ ap (λ o. go_on o (λ v. evaluated_each F f (expressions (drop (suc i) es)) >>= λ vs. ret (v ∷ vs))) e)
      ∙ joined (evaluated_each F f (expressions (drop (suc i) es)) t)
      ∙ ap (λ (k : ℕ). (evaluated_each F f (expressions (drop k es)) >>= λ vs. ret ((made ++ v ∷ []) ++ vs)) t) (sym (add-one i))
      ∙ ap (λ (m : List Value). (evaluated_each F f (expressions (drop (i + 1) es)) >>= λ vs. ret (m ++ vs)) t) (sym m)
    where
      behind : (xs vs : List Value) → xs ++ v ∷ vs ≡ (xs ++ v ∷ []) ++ vs
      behind [] vs = refl
      behind (x ∷ xs) vs = ap (λ ys. x ∷ ys) (behind xs vs)

      joined : (o : Out State (List Value)) → go_on (go_on o (λ vs. ret (v ∷ vs))) (λ vs. ret (made ++ vs)) ≡ go_on o (λ vs. ret ((made ++ v ∷ []) ++ vs))
      joined (Returned vs u) = ap (λ (xs : List Value). Returned xs u) (behind made vs)
      joined (Stopped why u) = refl

  pub values_end : length es ≤ i → whole ≡ Returned made s
  values_end h = before ∙ ap (λ o. go_on o (λ vs. ret (made ++ vs))) (none es i h) ∙ ap (λ (xs : List Value). Returned xs s) (right made)
    where
      right : (xs : List Value) → xs ++ [] ≡ xs
      right [] = refl
      right (x ∷ xs) = ap (λ ys. x ∷ ys) (right xs)

      none : (es : List Expr) (i : ℕ) → length es ≤ i → evaluated_each F f (expressions (drop i es)) s ≡ Returned [] s
      none [] zero h = refl
      none [] (suc i) h = refl
      none (e ∷ es) zero h = absurd (omega (arith, h))
      none (e ∷ es) (suc i) h = none es i (omega (arith, h))

pub values_begin : (F : Frame) (f : Functions) (es : List Expr) (i : ℕ) (s : State)
    → evaluated_each F f (expressions (drop i es)) s ≡ (evaluated_each F f (expressions (drop i es)) >>= λ vs. ret ([] ++ vs)) s
values_begin F f es i s = same (evaluated_each F f (expressions (drop i es)) s) where
  same : (o : Out State (List Value)) → o ≡ go_on o (λ vs. ret ([] ++ vs))
  same (Returned vs u) = refl
  same (Stopped why u) = refl

-- ---- blocks

module _ (F : Frame) (R : Rest) where
  pub block_step : (ss : List Stmt) (i : ℕ) (x : Stmt) (s : State) → i < length ss → x ≡ get_or ss i x
      → executed_each F R (statements (drop i ss)) s ≡ (executed F R (statement x) >>= on_normal (executed_each F R (statements (drop (suc i) ss)))) s
  block_step [] i x s h is = absurd (omega (arith, h))
  block_step (y ∷ ss) zero x s h is = ap (λ (z : Stmt). (executed F R (statement z) >>= on_normal (executed_each F R (statements ss))) s) (sym is)
  block_step (y ∷ ss) (suc i) x s h is = block_step ss i x s (omega (arith, h)) is

  pub block_end : (ss : List Stmt) (i : ℕ) (s : State) → length ss ≤ i → executed_each F R (statements (drop i ss)) s ≡ Returned Normal s
  block_end [] zero s h = refl
  block_end [] (suc i) s h = refl
  block_end (y ∷ ss) zero s h = absurd (omega (arith, h))
  block_end (y ∷ ss) (suc i) s h = block_end ss i s (omega (arith, h))

  pub block_err : (ss : List Stmt) (i : ℕ) (x : Stmt) (s t : State) (why : Stop) → i < length ss → x ≡ get_or ss i x → executed F R (statement x) s ≡ Stopped why t
      → executed_each F R (statements (drop i ss)) s ≡ Stopped why t
  block_err ss i x s t why h is e = block_step ss i x s h is ∙ ap (λ o. go_on o (on_normal (executed_each F R (statements (drop (suc i) ss))))) e

  pub block_next : (ss : List Stmt) (i : ℕ) (x : Stmt) (s t : State) (completion : Completion) → i < length ss → x ≡ get_or ss i x → executed F R (statement x) s ≡ Returned completion t → completion ≡ Normal
      → executed_each F R (statements (drop i ss)) s ≡ executed_each F R (statements (drop (i + 1) ss)) t
  block_next ss i x s t completion h is e n =
      block_step ss i x s h is ∙ ap (λ o. go_on o (on_normal (executed_each F R (statements (drop (suc i) ss))))) e
      ∙ ap (λ (z : Completion). on_normal (executed_each F R (statements (drop (suc i) ss))) z t) n ∙ ap (λ (k : ℕ). executed_each F R (statements (drop k ss)) t) (sym (add-one i))

  -- whether the next statement follows
  abbrev pub is_next : Completion → Bool
  is_next Normal = true
  is_next _ = false

  pub block_other : (ss : List Stmt) (i : ℕ) (x : Stmt) (s t : State) (completion : Completion) → i < length ss → x ≡ get_or ss i x → executed F R (statement x) s ≡ Returned completion t → is_next completion ≡ false
      → executed_each F R (statements (drop i ss)) s ≡ Returned completion t
  block_other ss i x s t completion h is e n = block_step ss i x s h is ∙ ap (λ o. go_on o (on_normal (executed_each F R (statements (drop (suc i) ss))))) e ∙ other completion n where
    other : (completion : Completion) → is_next completion ≡ false → on_normal (executed_each F R (statements (drop (suc i) ss))) completion t ≡ Returned completion t
    other Normal n = absurd cc
    other Break n = refl
    other Continue n = refl
    other (Return v) n = refl

-- ---- loops

after_is : (again : Run State Completion) (completion : Completion) (s : State) → after_body again completion s ≡ (if goes_back completion then (on_world take_turn >>= λ _. again) else ret (after_loop completion)) s
after_is again Normal s = refl
after_is again Continue s = refl
after_is again Break s = refl
after_is again (Return v) s = refl

back : (again : Run State Completion) (completion : Completion) (s : State) → goes_back completion ≡ true → after_body again completion s ≡ (on_world take_turn >>= λ _. again) s
back again completion s g = after_is again completion s ∙ ap (λ (b : Bool). (if b then (on_world take_turn >>= λ _. again) else ret (after_loop completion)) s) g

leaves_loop : (again : Run State Completion) (completion : Completion) (s : State) → goes_back completion ≡ false → after_body again completion s ≡ Returned (after_loop completion) s
leaves_loop again completion s g = after_is again completion s ∙ ap (λ (b : Bool). (if b then (on_world take_turn >>= λ _. again) else ret (after_loop completion)) s) g

turn_taken : (again : Run State Completion) (vs : Variables) (w v : World) → take_turn w ≡ Returned tt v → (on_world take_turn >>= λ _. again) (state vs w) ≡ again (state vs v)
turn_taken again vs w v e = ap (λ (o : Out World (Unit {0})). go_on (with_variables vs o) (λ _. again)) e

turn_missing : (again : Run State Completion) (vs : Variables) (w v : World) (why : Stop) → take_turn w ≡ Stopped why v → (on_world take_turn >>= λ _. again) (state vs w) ≡ Stopped why (state vs v)
turn_missing again vs w v why e = ap (λ (o : Out World (Unit {0})). go_on (with_variables vs o) (λ _. again)) e

module _ (P : Source) (F : Frame) (c : Expression) (body : Statements) (s : State) where
  abbrev R : Rest
  R = rest_in P

  abbrev turn : Run State Completion
  turn = executed_each F R body >>= after_body (R.again F c body)

  pub while_err : (why : Stop) (t : State) → truth (evaluated F R.call c) s ≡ Stopped why t → looped F R c body s ≡ Stopped why t
  while_err why t e = ap (λ o. go_on o (λ t. if t then turn else ret Normal)) e

  pub while_end : (t : State) → truth (evaluated F R.call c) s ≡ Returned false t → looped F R c body s ≡ Returned Normal t
  while_end t e = ap (λ o. go_on o (λ t. if t then turn else ret Normal)) e

  while_in_body : (t : State) → truth (evaluated F R.call c) s ≡ Returned true t → looped F R c body s ≡ turn t
  while_in_body t e = ap (λ o. go_on o (λ t. if t then turn else ret Normal)) e

  pub while_body_err : (t u : State) (why : Stop) → truth (evaluated F R.call c) s ≡ Returned true t → executed_each F R body t ≡ Stopped why u → looped F R c body s ≡ Stopped why u
  while_body_err t u why e f = while_in_body t e ∙ ap (λ o. go_on o (after_body (R.again F c body))) f

  while_behind : (t u : State) (completion : Completion) → truth (evaluated F R.call c) s ≡ Returned true t → executed_each F R body t ≡ Returned completion u → looped F R c body s ≡ after_body (R.again F c body) completion u
  while_behind t u completion e f = while_in_body t e ∙ ap (λ o. go_on o (after_body (R.again F c body))) f

  pub while_left : (t u : State) (completion : Completion) → truth (evaluated F R.call c) s ≡ Returned true t → executed_each F R body t ≡ Returned completion u → goes_back completion ≡ false
      → looped F R c body s ≡ Returned (after_loop completion) u
  while_left t u completion e f g = while_behind t u completion e f ∙ leaves_loop (R.again F c body) completion u g

  pub while_no_turn : (t : State) (vs : Variables) (w v : World) (completion : Completion) (why : Stop) → truth (evaluated F R.call c) s ≡ Returned true t → executed_each F R body t ≡ Returned completion (state vs w)
      → goes_back completion ≡ true → take_turn w ≡ Stopped why v → looped F R c body s ≡ Stopped why (state vs v)
  while_no_turn t vs w v completion why e f g h = while_behind t (state vs w) completion e f ∙ back (R.again F c body) completion (state vs w) g ∙ turn_missing (R.again F c body) vs w v why h

  pub while_round : (t : State) (vs : Variables) (w v : World) (completion : Completion) → truth (evaluated F R.call c) s ≡ Returned true t → executed_each F R body t ≡ Returned completion (state vs w)
      → goes_back completion ≡ true → take_turn w ≡ Returned tt v → looped F R c body s ≡ looped F R c body (state vs v)
  while_round t vs w v completion e f g h =
      while_behind t (state vs w) completion e f ∙ back (R.again F c body) completion (state vs w) g ∙ turn_taken (R.again F c body) vs w v h ∙ while_again P F c body (state vs v)

module _ (P : Source) (F : Frame) (name : List ℕ) (body : Statements) (n limit : ℤ) (vs : Variables) (w : World) where
  abbrev next_count : Run State Completion
  next_count = (rest_in P).count F name body (n +ℤ pos 1) limit

  abbrev with_count : State
  with_count = state (set F.names vs name (number n)) w

  pub for_end : int_lt n limit ≡ false → counted F (rest_in P) name body n limit (state vs w) ≡ Returned Normal (state vs w)
  for_end h = ap (λ (b : Bool). (if b then (assign_name F.names name (number n) >>= λ _. executed_each F (rest_in P) body >>= after_body next_count) else ret Normal) (state vs w)) h

  for_in_body : int_lt n limit ≡ true → counted F (rest_in P) name body n limit (state vs w) ≡ (executed_each F (rest_in P) body >>= after_body next_count) with_count
  for_in_body h = ap (λ (b : Bool). (if b then (assign_name F.names name (number n) >>= λ _. executed_each F (rest_in P) body >>= after_body next_count) else ret Normal) (state vs w)) h

  pub for_body_err : (u : State) (why : Stop) → int_lt n limit ≡ true → executed_each F (rest_in P) body with_count ≡ Stopped why u → counted F (rest_in P) name body n limit (state vs w) ≡ Stopped why u
  for_body_err u why h f = for_in_body h ∙ ap (λ o. go_on o (after_body next_count)) f

  for_behind : (u : State) (completion : Completion) → int_lt n limit ≡ true → executed_each F (rest_in P) body with_count ≡ Returned completion u → counted F (rest_in P) name body n limit (state vs w) ≡ after_body next_count completion u
  for_behind u completion h f = for_in_body h ∙ ap (λ o. go_on o (after_body next_count)) f

  pub for_left : (u : State) (completion : Completion) → int_lt n limit ≡ true → executed_each F (rest_in P) body with_count ≡ Returned completion u → goes_back completion ≡ false
      → counted F (rest_in P) name body n limit (state vs w) ≡ Returned (after_loop completion) u
  for_left u completion h f g = for_behind u completion h f ∙ leaves_loop next_count completion u g

  pub for_no_turn : (us : Variables) (x v : World) (completion : Completion) (why : Stop) → int_lt n limit ≡ true → executed_each F (rest_in P) body with_count ≡ Returned completion (state us x)
      → goes_back completion ≡ true → take_turn x ≡ Stopped why v → counted F (rest_in P) name body n limit (state vs w) ≡ Stopped why (state us v)
  for_no_turn us x v completion why h f g e = for_behind (state us x) completion h f ∙ back next_count completion (state us x) g ∙ turn_missing next_count us x v why e

  pub for_round : (us : Variables) (x v : World) (completion : Completion) → int_lt n limit ≡ true → executed_each F (rest_in P) body with_count ≡ Returned completion (state us x)
      → goes_back completion ≡ true → take_turn x ≡ Returned tt v → counted F (rest_in P) name body n limit (state vs w) ≡ counted F (rest_in P) name body (n +ℤ pos 1) limit (state us v)
  for_round us x v completion h f g e =
      for_behind (state us x) completion h f ∙ back next_count completion (state us x) g ∙ turn_taken next_count us x v e ∙ for_again P F name body (n +ℤ pos 1) limit (state us v)
