-- Want of memory is no fault of types.
use Rattle.std.proofs.Common.{◌≡◌, ◌≢◌, ℕ, Bool, true, false, ◌&&◌, not, List, [], ◌∷◌, Option, Some, None, is_some, Ok, Err, eqb, ltb, nat_lt, subst}
use Rattle.gp_base.specs.declared.name.LineNo.{LineNo}
use Rattle.gp_tree.specs.declared.place.Place.{Place}
use Rattle.gp_tree.specs.declared.place.Targets.{Targets}
use Rattle.gp_tree.specs.declared.place.Targets.TheVariants as targets
use Rattle.gp_tree.specs.Expression as expr
use Rattle.gp_tree.specs.Expression.{Expression, Expressions}
use Rattle.gp_tree.specs.Program.{FunctionDefinition, ProgramItem, import_item, struct_item, function_item}
use Rattle.gp_tree.specs.Statement as stmt
use Rattle.gp_tree.specs.Statement.{Statement, Statements}
use Rattle.gp_types.specs.Types as types
use Rattle.gp_types.specs.Types.{Ty, Tys}
use Rattle.gp_scope.specs.Known.{Known}
use Rattle.gp_locals.specs.Environment.{Names, Environment, type_of, put, is_within}
use Rattle.gp_typing.specs.declared.fault.TypeFault.{TypeFault}
use Rattle.gp_typing.specs.declared.fault.TypeFault.TheVariants as fault
use Rattle.gp_typing.specs.Checks.{Checked, ◌>>=◌, check, found}
use Rattle.gp_locals.specs.Callee.{Callee, by_type, outside, takes_tag}
use Rattle.gp_locals.specs.Tag.{is_tag}
use Rattle.gp_types.specs.Same.{same_type}
use Rattle.gp_types.specs.Size.{size}
use Rattle.gp_types.specs.declared.limit.TheConstants.{TYPE_SIZE_LIMIT}
use Rattle.gp_types.specs.Signature.{Signature, function_type}
use Rattle.gp_typing.specs.Expressions.{Arguments, is_int, is_bool, answer_type, path_type, named_type, callee_at, argument_count, parameter_count, arguments_fit, value_of, valued, place_type, called, tupled, typing, values_of, arguments_of}
use Rattle.gp_typing.specs.Functions.{frame_of, at_start, function_typing, program_typing}
use Rattle.gp_typing.specs.Statements.{Frame, line_of, are_as_many, tuple_parts, is_result, comes_back, assigned_at, assigned_places, assigned, statement_typing, block_typing}
use Rattle.gp_typing.specs.Typed.{TypedExpression, TypedFunction, of_type}

-- what is answered is `Ok`, or a fault of types
data IsOfTypes {A : Type 0} : Checked A → Type 0 where
  fine : {a : A} → IsOfTypes (Ok a)
  faulty : {f : TypeFault} → f ≢ fault.Memory → IsOfTypes (Err f)

-- ---- steps

bound : {A B : Type 0} (r : Checked A) (k : A → Checked B) → IsOfTypes r → ((a : A) → IsOfTypes (k a)) → IsOfTypes (r >>= k)
bound (Ok a) k h g = g a
bound (Err f) k (faulty h) g = faulty h

checked : {B : Type 0} (b : Bool) (f : TypeFault) (k : Unit {0} → Checked B) → f ≢ fault.Memory → IsOfTypes (k tt) → IsOfTypes (check b f >>= k)
checked true f k h g = g
checked false f k h g = faulty h

looked_up : {A B : Type 0} (o : Option A) (f : TypeFault) (k : A → Checked B) → f ≢ fault.Memory → ((a : A) → IsOfTypes (k a)) → IsOfTypes (found o f >>= k)
looked_up None f k h g = faulty h
looked_up (Some a) f k h g = g a

found_is : {A : Type 0} (o : Option A) (f : TypeFault) → f ≢ fault.Memory → IsOfTypes (found o f)
found_is None f h = faulty h
found_is (Some a) f h = fine

unknown : (n : LineNo) → fault.UnknownName n ≢ fault.Memory
unknown n e = cc

not_usable : (n : LineNo) → fault.NotOnEveryPath n ≢ fault.Memory
not_usable n e = cc

mismatch : (n : LineNo) → fault.Mismatch n ≢ fault.Memory
mismatch n e = cc

wrong_count : (n : LineNo) → fault.WrongCount n ≢ fault.Memory
wrong_count n e = cc

too_big : (n : LineNo) → fault.TooBigType n ≢ fault.Memory
too_big n e = cc

too_many : (n : LineNo) → fault.TooManyPlaces n ≢ fault.Memory
too_many n e = cc

no_return : (n : LineNo) → fault.MissingReturn n ≢ fault.Memory
no_return n e = cc

unreachable : (n : LineNo) → fault.Unreachable n ≢ fault.Memory
unreachable n e = cc

changed : (n : LineNo) → fault.LoopChangesType n ≢ fault.Memory
changed n e = cc

borrowed : (n : LineNo) → fault.BorrowedAssigned n ≢ fault.Memory
borrowed n e = cc

-- ---- expressions

value_is : (line : LineNo) (e : TypedExpression) → IsOfTypes (value_of line e)
value_is line (of_type None kind) = faulty (mismatch line)
value_is line (of_type (Some ty) kind) = fine

valued_is : (line : LineNo) (e : Checked TypedExpression) → IsOfTypes e → IsOfTypes (valued line e)
valued_is line e h = bound e (value_of line) h (value_is line)

name_is : (line : LineNo) (usable : Option (Option Ty)) (its : Option Signature) → IsOfTypes (named_type line usable its)
name_is line (Some usable) its = found_is usable _ (not_usable line)
name_is line None its =
    looked_up {A = Signature} its _ _ (unknown line) (λ s. checked (not (nat_lt TYPE_SIZE_LIMIT (size (function_type s)))) _ _ (too_big line) fine)

place_is : (known : Known) (names : Names) (e : Environment) (line : LineNo) (place : Place) → IsOfTypes (place_type known names e line place)
place_is known names e line place =
    bound _ _ (name_is line (type_of names e place.name) (known.signature_of place.name)) (λ ty. found_is (path_type (Some ty) place.fields) _ (unknown line))

callee_is : (line : LineNo) (usable : Option (Option Ty)) (callee : Option Callee) → IsOfTypes (callee_at line usable callee)
callee_is line (Some (Some ty)) callee = found_is (by_type ty) _ (mismatch line)
callee_is line (Some None) callee = faulty (not_usable line)
callee_is line None callee = found_is callee _ (unknown line)

called_is : (line : LineNo) (name : List ℕ) (callee : Callee) (arguments : Arguments) → IsOfTypes (called line name callee arguments)
called_is line name callee arguments =
    checked (eqb (argument_count arguments) (parameter_count callee)) _ _ (wrong_count line)
    (checked (arguments_fit callee arguments) _ _ (mismatch line) fine)

mutual
  typing_is : (known : Known) (names : Names) (e : Environment) (line : LineNo) (x : Expression) → IsOfTypes (typing known names e line x)
  typing_is known names e line (expr.number n) = fine
  typing_is known names e line (expr.boolean b) = fine
  typing_is known names e line (expr.text t) = faulty (mismatch line)
  typing_is known names e line (expr.place p) = bound _ _ (place_is known names e line p) (λ ty. fine)
  typing_is known names e line (expr.minus a) =
      bound _ _ (valued_is line _ (typing_is known names e line a)) (λ x. checked (is_int x.ty) _ _ (mismatch line) fine)
  typing_is known names e line (expr.negation a) =
      bound _ _ (valued_is line _ (typing_is known names e line a)) (λ x. checked (is_bool x.ty) _ _ (mismatch line) fine)
  typing_is known names e line (expr.binary o a b) =
      bound _ _ (valued_is line _ (typing_is known names e line a))
      (λ x. bound _ _ (valued_is line _ (typing_is known names e line b)) (λ y. looked_up {A = Ty} (answer_type o x.ty y.ty) _ _ (mismatch line) (λ ty. fine)))
  typing_is known names e line (expr.both a b) =
      bound _ _ (valued_is line _ (typing_is known names e line a))
      (λ x. bound _ _ (valued_is line _ (typing_is known names e line b)) (λ y. checked (is_bool x.ty && is_bool y.ty) _ _ (mismatch line) fine))
  typing_is known names e line (expr.either a b) =
      bound _ _ (valued_is line _ (typing_is known names e line a))
      (λ x. bound _ _ (valued_is line _ (typing_is known names e line b)) (λ y. checked (is_bool x.ty && is_bool y.ty) _ _ (mismatch line) fine))
  typing_is known names e line (expr.choice c a b) =
      bound _ _ (valued_is line _ (typing_is known names e line c))
      (λ test. bound _ _ (valued_is line _ (typing_is known names e line a))
      (λ x. bound _ _ (valued_is line _ (typing_is known names e line b)) (λ y. checked (is_bool test.ty && same_type x.ty y.ty) _ _ (mismatch line) fine)))
  typing_is known names e line (expr.tuple es) = bound _ _ (values_are known names e line es) (λ values. checked (not (ltb TYPE_SIZE_LIMIT (size (types.Tuple values.types)))) _ _ (too_big line) fine)
  typing_is known names e line (expr.call name es) =
      bound _ _ (callee_is line (type_of names e name) (outside known name)) (λ callee. bound _ _ (arguments_are known names e line (takes_tag callee) es) (λ arguments. called_is line name callee arguments))

  values_are : (known : Known) (names : Names) (e : Environment) (line : LineNo) (es : Expressions) → IsOfTypes (values_of known names e line es)
  values_are known names e line expr.no_expressions = fine
  values_are known names e line (expr.with_expression a es) =
      bound _ _ (valued_is line _ (typing_is known names e line a)) (λ x. bound _ _ (values_are known names e line es) (λ values. fine))

  arguments_are : (known : Known) (names : Names) (e : Environment) (line : LineNo) (tagged : Bool) (es : Expressions) → IsOfTypes (arguments_of known names e line tagged es)
  arguments_are known names e line true expr.no_expressions = fine
  arguments_are known names e line false expr.no_expressions = fine
  arguments_are known names e line true (expr.with_expression (expr.text t) es) =
      checked (is_tag t) _ _ (mismatch line) (bound _ _ (values_are known names e line es) (λ values. fine))
  arguments_are known names e line true (expr.with_expression (expr.number n) es) =
      bound _ _ (values_are known names e line es) (λ values. fine)
  arguments_are known names e line true (expr.with_expression (expr.boolean b) es) =
      bound _ _ (values_are known names e line es) (λ values. fine)
  arguments_are known names e line true (expr.with_expression (expr.place p) es) =
      bound _ _ (valued_is line _ (typing_is known names e line (expr.place p))) (λ x. bound _ _ (values_are known names e line es) (λ values. fine))
  arguments_are known names e line true (expr.with_expression (expr.minus a) es) =
      bound _ _ (valued_is line _ (typing_is known names e line (expr.minus a))) (λ x. bound _ _ (values_are known names e line es) (λ values. fine))
  arguments_are known names e line true (expr.with_expression (expr.negation a) es) =
      bound _ _ (valued_is line _ (typing_is known names e line (expr.negation a))) (λ x. bound _ _ (values_are known names e line es) (λ values. fine))
  arguments_are known names e line true (expr.with_expression (expr.binary o a b) es) =
      bound _ _ (valued_is line _ (typing_is known names e line (expr.binary o a b))) (λ x. bound _ _ (values_are known names e line es) (λ values. fine))
  arguments_are known names e line true (expr.with_expression (expr.both a b) es) =
      bound _ _ (valued_is line _ (typing_is known names e line (expr.both a b))) (λ x. bound _ _ (values_are known names e line es) (λ values. fine))
  arguments_are known names e line true (expr.with_expression (expr.either a b) es) =
      bound _ _ (valued_is line _ (typing_is known names e line (expr.either a b))) (λ x. bound _ _ (values_are known names e line es) (λ values. fine))
  arguments_are known names e line true (expr.with_expression (expr.choice c a b) es) =
      bound _ _ (valued_is line _ (typing_is known names e line (expr.choice c a b))) (λ x. bound _ _ (values_are known names e line es) (λ values. fine))
  arguments_are known names e line true (expr.with_expression (expr.tuple xs) es) =
      bound _ _ (valued_is line _ (typing_is known names e line (expr.tuple xs))) (λ x. bound _ _ (values_are known names e line es) (λ values. fine))
  arguments_are known names e line true (expr.with_expression (expr.call name xs) es) =
      bound _ _ (valued_is line _ (typing_is known names e line (expr.call name xs))) (λ x. bound _ _ (values_are known names e line es) (λ values. fine))
  arguments_are known names e line false (expr.with_expression a es) =
      bound _ _ (valued_is line _ (typing_is known names e line a)) (λ x. bound _ _ (values_are known names e line es) (λ values. fine))

-- ---- statements

assigned_at_is : (known : Known) (frame : Frame) (e : Environment) (line : LineNo) (fields : List (List ℕ)) (place : Place) (ty : Ty) → IsOfTypes (assigned_at known frame e line fields place ty)
assigned_at_is known frame e line [] place ty = checked (not (frame.is_borrowed place.name)) _ _ (borrowed line) fine
assigned_at_is known frame e line (field ∷ fields) place ty =
    bound _ _ (place_is known frame.names e line place) (λ its. checked (same_type its ty) _ _ (mismatch line) fine)

assigned_places_is : (known : Known) (frame : Frame) (e : Environment) (line : LineNo) (places : List Place) (tys : Tys) → IsOfTypes (assigned_places known frame e line places tys)
assigned_places_is known frame e line [] types.none = fine
assigned_places_is known frame e line (place ∷ places) (types.more ty tys) =
    bound _ _ (assigned_at_is known frame e line place.fields place ty) (λ next. assigned_places_is known frame next line places tys)
assigned_places_is known frame e line [] (types.more ty tys) = faulty (wrong_count line)
assigned_places_is known frame e line (place ∷ places) types.none = faulty (wrong_count line)

assigned_is : (known : Known) (frame : Frame) (e : Environment) (line : LineNo) (ts : Targets) (ty : Ty) → IsOfTypes (assigned known frame e line ts ty)
assigned_is known frame e line (targets.One place) ty = assigned_at_is known frame e line place.fields place ty
assigned_is known frame e line (targets.Pattern places) ty =
    looked_up {A = Tys} (tuple_parts ty) _ _ (mismatch line) (λ tys. checked (are_as_many places tys) _ _ (wrong_count line) (assigned_places_is known frame e line places tys))

mutual
  statement_is : (known : Known) (frame : Frame) (e : Environment) (s : Statement) → IsOfTypes (statement_typing known frame e s)
  statement_is known frame e (stmt.assign line ts value) =
      bound _ _ (valued_is line _ (typing_is known frame.names e line value)) (λ v. bound _ _ (assigned_is known frame e line ts v.ty) (λ next. fine))
  statement_is known frame e (stmt.annotated line name written value) =
      bound _ _ (valued_is line _ (typing_is known frame.names e line value))
      (λ v. looked_up {A = Ty} (known.annotated_at line) _ _ (mismatch line) (λ ty. checked (same_type ty v.ty) _ _ (mismatch line) (checked (not (frame.is_borrowed name)) _ _ (borrowed line) fine)))
  statement_is known frame e (stmt.evaluate line value) = bound _ _ (typing_is known frame.names e line value) (λ v. fine)
  statement_is known frame e (stmt.return_value line None) = checked (not (is_some frame.result)) _ _ (mismatch line) fine
  statement_is known frame e (stmt.return_value line (Some value)) =
      bound _ _ (valued_is line _ (typing_is known frame.names e line value)) (λ v. checked (is_result frame.result v.ty) _ _ (mismatch line) fine)
  statement_is known frame e (stmt.if_else line test body other) =
      bound _ _ (valued_is line _ (typing_is known frame.names e line test))
      (λ t. checked (is_bool t.ty) _ _ (mismatch line) (bound _ _ (block_is known frame (Some e) body) (λ x. bound _ _ (block_is known frame (Some e) other) (λ y. fine))))
  statement_is known frame e (stmt.while_loop line test body) =
      bound _ _ (valued_is line _ (typing_is known frame.names e line test))
      (λ t. checked (is_bool t.ty) _ _ (mismatch line) (bound _ _ (block_is known frame (Some e) body) (λ b. checked (comes_back e b.ends) _ _ (changed line) fine)))
  statement_is known frame e (stmt.for_loop line name count body) =
      bound _ _ (valued_is line _ (typing_is known frame.names e line count))
      (λ n. checked (is_int n.ty) _ _ (mismatch line) (checked (not (frame.is_borrowed name)) _ _ (borrowed line) (bound _ _ (block_is known frame (Some (put frame.names e name types.Int)) body) (λ b. checked (comes_back e b.ends) _ _ (changed line) fine))))
  statement_is known frame e (stmt.break_loop line) = fine
  statement_is known frame e (stmt.continue_loop line) = fine
  statement_is known frame e (stmt.pass line) = fine

  block_is : (known : Known) (frame : Frame) (e : Option Environment) (ss : Statements) → IsOfTypes (block_typing known frame e ss)
  block_is known frame None stmt.no_statements = fine
  block_is known frame (Some e) stmt.no_statements = fine
  block_is known frame None (stmt.with_statement s ss) = faulty (unreachable (line_of s))
  block_is known frame (Some e) (stmt.with_statement s ss) =
      bound _ _ (statement_is known frame e s) (λ x. checked (is_within x.ends.next) _ _ (too_many (line_of s)) (bound _ _ (block_is known frame x.ends.next ss) (λ b. fine)))

-- ---- functions

function_is : (known : Known) (f : FunctionDefinition) → IsOfTypes (function_typing known f)
unfolding function_typing
function_is known f =
    looked_up {A = Signature} (known.signature_of f.name) _ _ (unknown f.line)
    (λ s. checked (is_within (Some (at_start f s))) _ _ (too_many f.line) (bound _ _ (block_is known (frame_of f s) (Some (at_start f s)) f.body) (λ b. checked (not (is_some s.result && is_some b.ends.next)) _ _ (no_return f.line) fine)))

program_is : (known : Known) (items : List ProgramItem) → IsOfTypes (program_typing known items)
program_is known [] = fine
program_is known (function_item f ∷ items) = bound _ _ (function_is known f) (λ typed. bound _ _ (program_is known items) (λ others. fine))
program_is known (struct_item s ∷ items) = program_is known items
program_is known (import_item i ∷ items) = program_is known items

was : {A : Type 0} {f : TypeFault} → IsOfTypes {A = A} (Err f) → f ≢ fault.Memory
was (faulty h) = h

pub type_faults : (known : Known) (items : List ProgramItem) (f : TypeFault) → program_typing known items ≡ Err f → f ≢ fault.Memory
type_faults known items f e = was (subst (λ (r : Checked (List TypedFunction)). IsOfTypes r) e (program_is known items))
