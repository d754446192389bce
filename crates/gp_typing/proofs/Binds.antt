-- Checks one after another: what the whole answers, from what its steps do.
use Rattle.std.proofs.Common.{◌≡◌, ◌≢◌, ◌<◌, ◌≤◌, ◌+◌, ℕ, ℤ, suc, add-one, Bool, true, false, List, [], ◌∷◌, ◌++◌, length, get_or, drop, refl, ap, sym, subst, ◌∙◌, Option, Some, None, Result, Ok, Err}
use Rattle.std.specs.Result.{IsErrAnd}
use Rattle.std.specs.declared.alloc.Global.{Global}
use Rattle.std.specs.declared.boxed.Box.{Box}
use Rattle.std.specs.declared.vec.Vec.{Vec}
use Rattle.gp_base.specs.declared.name.LineNo.{LineNo}
use Rattle.gp_tree.specs.declared.expr.BinOp.{BinOp}
use Rattle.gp_tree.specs.declared.expr.Expr.{Expr}
use Rattle.gp_tree.specs.declared.expr.Expr.TheFolds.{fold-roll-Expr}
use Rattle.gp_tree.specs.declared.expr.Expr.TheOpen.{Expr-F}
use Rattle.gp_tree.specs.declared.expr.Expr.TheVariants as variants
use Rattle.gp_tree.specs.declared.place.Place.{Place}
use Rattle.gp_tree.specs.Expression as expr
use Rattle.gp_tree.specs.Expression.{Expression, Expressions, expression, expression_step, expressions}
use Rattle.gp_types.specs.Types as types
use Rattle.gp_typing.specs.declared.context.Context.{Context}
use Rattle.gp_typing.specs.declared.fault.TypeFault.{TypeFault}
use Rattle.gp_typing.specs.declared.fault.TypeFault.TheVariants.{Memory, Mismatch}
use Rattle.gp_typing.specs.code.CallView.{call_in, callee_in, tag_of}
use Rattle.gp_typing.specs.Checks.{Checked, ◌>>=◌, check, Answers}
use Rattle.gp_locals.specs.Callee.{Callee, takes_tag}
use Rattle.gp_locals.specs.Environment.{Names, Environment}
use Rattle.gp_locals.specs.Tag.{is_tag}
use Rattle.gp_typing.specs.Expressions.{Value, Values, Arguments, valued, before, untagged, has_type, tupled, called, tags, typing, values_of, arguments_of}
use Rattle.gp_typing.specs.code.ExpressionView.{typed_in, valued_in, values_in}
use Rattle.gp_scope.specs.Known.{Known}
use Rattle.gp_scope.specs.ScopeView.{known_in}
use Rattle.gp_typing.specs.code.Operations.{place_in, minus_of, negation_of, binary_of, both_of, either_of, choice_of}
use Rattle.gp_typing.specs.Typed as typed
use Rattle.gp_typing.proofs.Rows.{values_before, values_before-push, values_before-end, drop-at, drop-all}
use Rattle.gp_typing.specs.View.{expressions_of}
use Rattle.gp_typing.specs.Typed.{TypedExpression}

pub bind-err : {A B : Type 0} (m : Checked A) (k : A → Checked B) (f : TypeFault) → m ≡ Err f → (m >>= k) ≡ Err f
bind-err m k f e = ap (λ z. z >>= k) e

pub bind-ok : {A B : Type 0} (m : Checked A) (k : A → Checked B) (a : A) → m ≡ Ok a → (m >>= k) ≡ k a
bind-ok m k a e = ap (λ z. z >>= k) e

-- the exit of a `?`
pub exits : {A B : Type 0} (view : A → B) (r : Result A TypeFault) (m : Checked B) (f : TypeFault) → IsErrAnd r (λ y. y ≡ f) → (f ≢ Memory → m ≡ Err f) → Answers view r m
exits view (Ok a) m f e h = absurd e
exits view (Err y) m f e h = λ n. h (subst (λ z. z ≢ Memory) e n) ∙ ap Err (sym e)

-- the same at want of memory
pub exits-memory : {A B : Type 0} (view : A → B) (r : Result A TypeFault) (m : Checked B) → IsErrAnd r (λ y. y ≡ Memory) → Answers view r m
exits-memory view (Ok a) m e = absurd e
exits-memory view (Err y) m e = λ n. absurd (n e)

-- a last call
pub ends : {A B : Type 0} (view : A → B) (r : Result A TypeFault) (m n : Checked B) → m ≡ n → Answers view r n → Answers view r m
ends view r m n e h = subst (λ z. Answers view r z) (sym e) h

moved : (C : Context) (a' a : Expr) → a' ≡ a → (answer : Checked Value) → valued_in C (expression a') ≡ answer → valued_in C (expression a) ≡ answer
moved C a' a d answer h = ap (λ x. valued_in C (expression x)) (sym d) ∙ h

-- ---- one, two and three operands

module _ (C : Context) (e a' a : Expr) (k : Value → Checked TypedExpression)
    (is : typed_in C (expression e) ≡ (valued_in C (expression a) >>= k)) (d : a' ≡ a) where
  pub one-err : (f : TypeFault) → valued_in C (expression a') ≡ Err f → typed_in C (expression e) ≡ Err f
  one-err f h = is ∙ bind-err (valued_in C (expression a)) k f (moved C a' a d (Err f) h)

  pub one-ok : (x : Value) → valued_in C (expression a') ≡ Ok x → typed_in C (expression e) ≡ k x
  one-ok x h = is ∙ bind-ok (valued_in C (expression a)) k x (moved C a' a d (Ok x) h)

module _ (C : Context) (e a' a b' b : Expr) (k : Value → Value → Checked TypedExpression)
    (is : typed_in C (expression e) ≡ (valued_in C (expression a) >>= λ x. valued_in C (expression b) >>= λ y. k x y)) where
  pub two-err : a' ≡ a → (f : TypeFault) → valued_in C (expression a') ≡ Err f → typed_in C (expression e) ≡ Err f
  two-err d f h = one-err C e a' a (λ x. valued_in C (expression b) >>= λ y. k x y) is d f h

  pub two-err-2 : a' ≡ a → b' ≡ b → (x : Value) → valued_in C (expression a') ≡ Ok x → (f : TypeFault) → valued_in C (expression b') ≡ Err f → typed_in C (expression e) ≡ Err f
  two-err-2 d d2 x h f h2 =
      one-ok C e a' a (λ x. valued_in C (expression b) >>= λ y. k x y) is d x h ∙ bind-err (valued_in C (expression b)) (k x) f (moved C b' b d2 (Err f) h2)

  pub two-ok : a' ≡ a → b' ≡ b → (x : Value) → valued_in C (expression a') ≡ Ok x → (y : Value) → valued_in C (expression b') ≡ Ok y → typed_in C (expression e) ≡ k x y
  two-ok d d2 x h y h2 =
      one-ok C e a' a (λ x. valued_in C (expression b) >>= λ y. k x y) is d x h ∙ bind-ok (valued_in C (expression b)) (k x) y (moved C b' b d2 (Ok y) h2)

module _ (C : Context) (e a' a b' b o' o : Expr) (k : Value → Value → Value → Checked TypedExpression)
    (is : typed_in C (expression e) ≡ (valued_in C (expression a) >>= λ x. valued_in C (expression b) >>= λ y. valued_in C (expression o) >>= λ z. k x y z)) (d : a' ≡ a) where
  pub three-err : (f : TypeFault) → valued_in C (expression a') ≡ Err f → typed_in C (expression e) ≡ Err f
  three-err f h = one-err C e a' a (λ x. valued_in C (expression b) >>= λ y. valued_in C (expression o) >>= λ z. k x y z) is d f h

  after-first : (x : Value) → valued_in C (expression a') ≡ Ok x → typed_in C (expression e) ≡ (valued_in C (expression b) >>= λ y. valued_in C (expression o) >>= λ z. k x y z)
  after-first x h = one-ok C e a' a (λ x. valued_in C (expression b) >>= λ y. valued_in C (expression o) >>= λ z. k x y z) is d x h

  pub three-err-2 : b' ≡ b → (x : Value) → valued_in C (expression a') ≡ Ok x → (f : TypeFault) → valued_in C (expression b') ≡ Err f → typed_in C (expression e) ≡ Err f
  three-err-2 d2 x h f h2 = one-err C e b' b (λ y. valued_in C (expression o) >>= λ z. k x y z) (after-first x h) d2 f h2

  pub three-err-3 : b' ≡ b → o' ≡ o → (x : Value) → valued_in C (expression a') ≡ Ok x → (y : Value) → valued_in C (expression b') ≡ Ok y
      → (f : TypeFault) → valued_in C (expression o') ≡ Err f → typed_in C (expression e) ≡ Err f
  three-err-3 d2 d3 x h y h2 f h3 = two-err-2 C e b' b o' o (k x) (after-first x h) d2 d3 y h2 f h3

  pub three-ok : b' ≡ b → o' ≡ o → (x : Value) → valued_in C (expression a') ≡ Ok x → (y : Value) → valued_in C (expression b') ≡ Ok y
      → (z : Value) → valued_in C (expression o') ≡ Ok z → typed_in C (expression e) ≡ k x y z
  three-ok d2 d3 x h y h2 z h3 = two-ok C e b' b o' o (k x) (after-first x h) d2 d3 y h2 z h3

-- ---- one level of an expression

pub number-typed : (C : Context) (e : Expr) (n : ℤ) → e ≡ variants.Int n → typed_in C (expression e) ≡ has_type types.Int (typed.number n)
number-typed C e n is = ap (λ x. typed_in C (expression x)) (is ∙ sym (variants.rolls-Int n)) ∙ ap (typed_in C) (fold-roll-Expr Expression expression_step (Expr-F.Int n))

pub boolean-typed : (C : Context) (e : Expr) (b : Bool) → e ≡ variants.Bool b → typed_in C (expression e) ≡ has_type types.Bool (typed.boolean b)
boolean-typed C e b is = ap (λ x. typed_in C (expression x)) (is ∙ sym (variants.rolls-Bool b)) ∙ ap (typed_in C) (fold-roll-Expr Expression expression_step (Expr-F.Bool b))

pub text-typed : (C : Context) (e : Expr) (w : List ℕ) → e ≡ variants.Text w → typed_in C (expression e) ≡ Err (Mismatch C.line)
text-typed C e w is = ap (λ x. typed_in C (expression x)) (is ∙ sym (variants.rolls-Text w)) ∙ ap (typed_in C) (fold-roll-Expr Expression expression_step (Expr-F.Text w))

pub place-typed : (C : Context) (e : Expr) (p : Place) → e ≡ variants.Place p → typed_in C (expression e) ≡ place_in C p
place-typed C e p is = ap (λ x. typed_in C (expression x)) (is ∙ sym (variants.rolls-Place p)) ∙ ap (typed_in C) (fold-roll-Expr Expression expression_step (Expr-F.Place p))

pub minus-typed : (C : Context) (e : Expr) (a : Box Expr Global) → e ≡ variants.Neg a → typed_in C (expression e) ≡ (valued_in C (expression a.value) >>= λ x. minus_of C.line x)
minus-typed C e a is = ap (λ x. typed_in C (expression x)) (is ∙ sym (variants.rolls-Neg a)) ∙ ap (typed_in C) (fold-roll-Expr Expression expression_step (Expr-F.Neg a))

pub negation-typed : (C : Context) (e : Expr) (a : Box Expr Global) → e ≡ variants.Not a → typed_in C (expression e) ≡ (valued_in C (expression a.value) >>= λ x. negation_of C.line x)
negation-typed C e a is = ap (λ x. typed_in C (expression x)) (is ∙ sym (variants.rolls-Not a)) ∙ ap (typed_in C) (fold-roll-Expr Expression expression_step (Expr-F.Not a))

pub binary-typed : (C : Context) (e : Expr) (o : BinOp) (a b : Box Expr Global) → e ≡ variants.Binary o a b → typed_in C (expression e) ≡ (valued_in C (expression a.value) >>= λ x. valued_in C (expression b.value) >>= λ y. binary_of C.line o x y)
binary-typed C e o a b is = ap (λ x. typed_in C (expression x)) (is ∙ sym (variants.rolls-Binary o a b)) ∙ ap (typed_in C) (fold-roll-Expr Expression expression_step (Expr-F.Binary o a b))

pub both-typed : (C : Context) (e : Expr) (a b : Box Expr Global) → e ≡ variants.And a b → typed_in C (expression e) ≡ (valued_in C (expression a.value) >>= λ x. valued_in C (expression b.value) >>= λ y. both_of C.line x y)
both-typed C e a b is = ap (λ x. typed_in C (expression x)) (is ∙ sym (variants.rolls-And a b)) ∙ ap (typed_in C) (fold-roll-Expr Expression expression_step (Expr-F.And a b))

pub either-typed : (C : Context) (e : Expr) (a b : Box Expr Global) → e ≡ variants.Or a b → typed_in C (expression e) ≡ (valued_in C (expression a.value) >>= λ x. valued_in C (expression b.value) >>= λ y. either_of C.line x y)
either-typed C e a b is = ap (λ x. typed_in C (expression x)) (is ∙ sym (variants.rolls-Or a b)) ∙ ap (typed_in C) (fold-roll-Expr Expression expression_step (Expr-F.Or a b))

pub choice-typed : (C : Context) (e : Expr) (c a b : Box Expr Global) → e ≡ variants.Choice c a b → typed_in C (expression e) ≡ (valued_in C (expression c.value) >>= λ w. valued_in C (expression a.value) >>= λ x. valued_in C (expression b.value) >>= λ y. choice_of C.line w x y)
choice-typed C e c a b is = ap (λ x. typed_in C (expression x)) (is ∙ sym (variants.rolls-Choice c a b)) ∙ ap (typed_in C) (fold-roll-Expr Expression expression_step (Expr-F.Choice c a b))

pub tuple-typed : (C : Context) (e : Expr) (es : Vec Expr Global) → e ≡ variants.Tuple es → typed_in C (expression e) ≡ (values_in C (expressions es.items) >>= λ vs. tupled C.line vs)
tuple-typed C e es is = ap (λ x. typed_in C (expression x)) (is ∙ sym (variants.rolls-Tuple es)) ∙ ap (typed_in C) (fold-roll-Expr Expression expression_step (Expr-F.Tuple es))

pub call-typed : (C : Context) (e : Expr) (name : List ℕ) (es : Vec Expr Global) → e ≡ variants.Call name es → typed_in C (expression e) ≡ call_in C name (expressions es.items)
call-typed C e name es is = ap (λ x. typed_in C (expression x)) (is ∙ sym (variants.rolls-Call name es)) ∙ ap (typed_in C) (fold-roll-Expr Expression expression_step (Expr-F.Call name es))

-- ---- the arguments of a call

untag : (m : Checked Value) (n : Checked Values)
    → (m >>= λ x. n >>= λ values. Ok (untagged (before x values))) ≡ ((m >>= λ x. n >>= λ values. Ok (before x values)) >>= λ values. Ok (untagged values))
untag (Ok x) (Ok values) = refl
untag (Ok x) (Err f) = refl
untag (Err f) n = refl

tagged-by : (m : Checked (Unit {0})) (w : List ℕ) (k : Option (List ℕ) → Checked Arguments) → (m >>= λ _. k (Some w)) ≡ ((m >>= λ _. Ok (Some w)) >>= k)
tagged-by (Ok u) w k = refl
tagged-by (Err f) w k = refl

abbrev tail-behind : Option (List ℕ) → Expression → Expressions → Expressions
tail-behind None x xs = expr.with_expression x xs
tail-behind (Some w) x xs = xs

module _ (K : Known) (N : Names) (E : Environment) (line : LineNo) where
  abbrev rest : Expression → Expressions → Option (List ℕ) → Checked Arguments
  rest x xs tag = values_of K N E line (tail-behind tag x xs) >>= λ values. Ok (record { tag = tag; values = values })

  plain : (x : Expression) (xs : Expressions)
      → (valued line (typing K N E line x) >>= λ y. values_of K N E line xs >>= λ values. Ok (untagged (before y values))) ≡ rest x xs None
  plain x xs = untag (valued line (typing K N E line x)) (values_of K N E line xs)

  arguments-step : (tagged : Bool) (x : Expression) (xs : Expressions)
      → arguments_of K N E line tagged (expr.with_expression x xs) ≡ (tag_of line tagged (expr.with_expression x xs) >>= rest x xs)
  arguments-step false x xs = plain x xs
  arguments-step true (expr.text w) xs = tagged-by (check (is_tag w) (Mismatch line)) w (rest (expr.text w) xs)
  arguments-step true (expr.number n) xs = plain (expr.number n) xs
  arguments-step true (expr.boolean b) xs = plain (expr.boolean b) xs
  arguments-step true (expr.place p) xs = plain (expr.place p) xs
  arguments-step true (expr.minus a) xs = plain (expr.minus a) xs
  arguments-step true (expr.negation a) xs = plain (expr.negation a) xs
  arguments-step true (expr.binary o a b) xs = plain (expr.binary o a b) xs
  arguments-step true (expr.both a b) xs = plain (expr.both a b) xs
  arguments-step true (expr.either a b) xs = plain (expr.either a b) xs
  arguments-step true (expr.choice c a b) xs = plain (expr.choice c a b) xs
  arguments-step true (expr.tuple es) xs = plain (expr.tuple es) xs
  arguments-step true (expr.call f es) xs = plain (expr.call f es) xs

  -- first the tag, then the values behind it
  pub arguments-in : (tagged : Bool) (xs : List Expr)
      → arguments_of K N E line tagged (expressions xs)
      ≡ (tag_of line tagged (expressions xs) >>= λ tag. values_of K N E line (expressions (drop (tags tag) xs)) >>= λ values. Ok (record { tag = tag; values = values }))
  arguments-in true [] = refl
  arguments-in false [] = refl
  arguments-in tagged (x ∷ xs) = arguments-step tagged (expression x) (expressions xs) ∙ same (tag_of line tagged (expressions (x ∷ xs))) where
    same-rest : (tag : Option (List ℕ)) → rest (expression x) (expressions xs) tag
        ≡ (values_of K N E line (expressions (drop (tags tag) (x ∷ xs))) >>= λ values. Ok (record { tag = tag; values = values }))
    same-rest None = refl
    same-rest (Some w) = refl

    same : (m : Checked (Option (List ℕ))) → (m >>= rest (expression x) (expressions xs))
        ≡ (m >>= λ tag. values_of K N E line (expressions (drop (tags tag) (x ∷ xs))) >>= λ values. Ok (record { tag = tag; values = values }))
    same (Ok tag) = same-rest tag
    same (Err f) = refl

-- ---- calls

abbrev arguments-of-call : Context → Bool → List Expr → Checked Arguments
arguments-of-call C tagged xs = arguments_of (known_in C.scope.now) C.names.now C.environment.now C.line tagged (expressions xs)

module _ (C : Context) (name : List ℕ) (xs : List Expr) where
  pub call-none : (f : TypeFault) → callee_in C name ≡ Err f → call_in C name (expressions xs) ≡ Err f
  call-none f h = ap (λ m. m >>= λ callee. arguments-of-call C (takes_tag callee) xs >>= λ arguments. called C.line name callee arguments) h

  module _ (callee : Callee) (known : callee_in C name ≡ Ok callee) where
    found-callee : call_in C name (expressions xs) ≡ (arguments-of-call C (takes_tag callee) xs >>= λ arguments. called C.line name callee arguments)
    found-callee = ap (λ m. m >>= λ callee. arguments-of-call C (takes_tag callee) xs >>= λ arguments. called C.line name callee arguments) known

    abbrev after-tag : Option (List ℕ) → Checked Arguments
    after-tag tag = values_in C (expressions (drop (tags tag) xs)) >>= λ values. Ok (record { tag = tag; values = values })

    in-steps : call_in C name (expressions xs) ≡ ((tag_of C.line (takes_tag callee) (expressions xs) >>= after-tag) >>= λ arguments. called C.line name callee arguments)
    in-steps = found-callee ∙ ap (λ m. m >>= λ arguments. called C.line name callee arguments)
        (arguments-in (known_in C.scope.now) C.names.now C.environment.now C.line (takes_tag callee) xs)

    pub call-no-tag : (f : TypeFault) → tag_of C.line (takes_tag callee) (expressions xs) ≡ Err f → call_in C name (expressions xs) ≡ Err f
    call-no-tag f h = in-steps ∙ ap (λ m. (m >>= after-tag) >>= λ arguments. called C.line name callee arguments) h

    pub call-no-values : (tag : Option (List ℕ)) → tag_of C.line (takes_tag callee) (expressions xs) ≡ Ok tag
        → (f : TypeFault) → values_in C (expressions (drop (tags tag) xs)) ≡ Err f → call_in C name (expressions xs) ≡ Err f
    call-no-values tag h f v =
        in-steps ∙ ap (λ m. (m >>= after-tag) >>= λ arguments. called C.line name callee arguments) h
        ∙ ap (λ m. (m >>= λ values. Ok (record { tag = tag; values = values })) >>= λ arguments. called C.line name callee arguments) v

    pub call-called : (tag : Option (List ℕ)) → tag_of C.line (takes_tag callee) (expressions xs) ≡ Ok tag
        → (values : Values) → values_in C (expressions (drop (tags tag) xs)) ≡ Ok values
        → call_in C name (expressions xs) ≡ called C.line name callee (record { tag = tag; values = values })
    call-called tag h values v =
        in-steps ∙ ap (λ m. (m >>= after-tag) >>= λ arguments. called C.line name callee arguments) h
        ∙ ap (λ m. (m >>= λ values. Ok (record { tag = tag; values = values })) >>= λ arguments. called C.line name callee arguments) v

-- ---- values in a row

module _ (C : Context) (xs : List Expr) (i : ℕ) (ts : List TypedExpression) (tys : List types.Ty) (whole : Checked Values)
    (so-far : whole ≡ values_before ts tys (values_in C (expressions (drop i xs)))) where
  pub values-step : (x : Expr) → i < length xs → x ≡ get_or xs i x → (v : Value) → valued_in C (expression x) ≡ Ok v
      → (ts' : List TypedExpression) → ts' ≡ ts ++ v.tree ∷ [] → (tys' : List types.Ty) → tys' ≡ tys ++ v.ty ∷ []
      → whole ≡ values_before ts' tys' (values_in C (expressions (drop (i + 1) xs)))
  values-step x h e v is ts' p tys' q =
      so-far ∙ ap (λ l. values_before ts tys (values_in C (expressions l))) (drop-at xs i x h e)
      ∙ ap (λ m. values_before ts tys (m >>= λ y. values_in C (expressions (drop (suc i) xs)) >>= λ values. Ok (before y values))) is
      ∙ values_before-push ts tys v (values_in C (expressions (drop (suc i) xs)))
      ∙ ap (λ n. values_before (ts ++ v.tree ∷ []) (tys ++ v.ty ∷ []) (values_in C (expressions (drop n xs)))) (sym (add-one i))
      ∙ ap (λ l. values_before l (tys ++ v.ty ∷ []) (values_in C (expressions (drop (i + 1) xs)))) (sym p)
      ∙ ap (λ l. values_before ts' l (values_in C (expressions (drop (i + 1) xs)))) (sym q)

  pub values-err : (x : Expr) → i < length xs → x ≡ get_or xs i x → (f : TypeFault) → valued_in C (expression x) ≡ Err f → whole ≡ Err f
  values-err x h e f is =
      so-far ∙ ap (λ l. values_before ts tys (values_in C (expressions l))) (drop-at xs i x h e)
      ∙ ap (λ m. values_before ts tys (m >>= λ y. values_in C (expressions (drop (suc i) xs)) >>= λ values. Ok (before y values))) is

  pub values-end : length xs ≤ i → whole ≡ Ok (record { trees = expressions_of ts; types = types.tys_of tys })
  values-end h = so-far ∙ ap (λ l. values_before ts tys (values_in C (expressions l))) (drop-all xs i h) ∙ values_before-end ts tys
