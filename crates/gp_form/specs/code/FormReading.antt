-- Reading a line's tokens from left to right: what a part at the front is, and the tokens after it.
use Rattle.std.specs.Prelude.{ℕ, zero, suc, Bool, true, false, bytes_eq, List, [], ◌∷◌, length, codes, Option, Some, None}
use Rattle.gp_lex.specs.declared.token.Token.{Token}
use Rattle.gp_lex.specs.declared.token.Token.TheVariants as t
use Rattle.gp_lex.specs.declared.token.Symbol.{Symbol}
use Rattle.gp_lex.specs.declared.token.Symbol.TheVariants as s
use Rattle.gp_lex.specs.declared.token.Keyword.{Keyword}
use Rattle.gp_lex.specs.declared.token.Keyword.TheVariants as k
use Rattle.gp_tree.specs.declared.place.Place.{Place}
use Rattle.gp_tree.specs.declared.place.Targets.{Targets}
use Rattle.gp_tree.specs.declared.place.Targets.TheVariants as to
use Rattle.gp_tree.specs.Expression.{Expression}
use Rattle.gp_tree.specs.TypeExpression.{TypeExpression, ParameterType, named_type, tuple_type, function_type, types_of, parameters_of, result_of}
use Rattle.gp_tree.specs.Form.{Parameter, Form, MaybeForm, no_form, some_form}
use Rattle.gp_tree.specs.Form as f
use Rattle.gp_form.specs.declared.assigning.Assigning.{Assigning}
use Rattle.gp_form.specs.declared.assigning.Assigning.TheVariants.{Plain, By}
use Rattle.gp_form.specs.declared.list_end.ListEnd.TheVariants as until
use Rattle.gp_form.specs.Forms.{marked, parameter_of, augmenting, dotted}
use Rattle.gp_form.specs.code.Reading.{past_end, place_front, expression_front, all_expressions}
use Rattle.gp_form.specs.code.Steps.{Read, ◌>>=◌, found, if_same, past_symbol, past_word, past_name}

-- ---- one token

-- the tokens behind a name with this text
unfoldable pub past_soft_word : List ℕ → List Token → Option (List Token)
past_soft_word text (t.Name n ∷ ts) = if_same (bytes_eq n text) ts
past_soft_word text _ = None

-- no tokens
abbrev pub nothing : List Token → Option (List Token)
nothing = past_end until.Line

-- what a front was read as, where it is all of the tokens
abbrev pub all_of : {A : Type 0} → A × List Token → Option A
all_of x = nothing x.1 >>= λ rest. Some x.0

-- a place, and an expression, that all of the tokens are
abbrev pub all_place : List Token → Option Place
all_place ts = place_front ts >>= all_of

abbrev pub all_expression : List Token → Option Expression
all_expression ts = expression_front ts >>= all_of

-- ---- items with commas between them, up to what closes them

module _ {X : Type 0} (item : Read X) (closed : List Token → Option (List Token)) where
  abbrev pub after_item : X → Read (List X) → Read (List X)
  after_item x go ts = found (closed ts) (λ rest. Some (x ∷ [], rest)) (past_symbol s.Comma ts >>= λ rest. go rest >>= λ y. Some (x ∷ y.0, y.1))

  -- for at most so many turns
  unfoldable pub listed_from : ℕ → Read (List X)
  listed_from zero ts = None
  listed_from (suc n) ts = found (closed ts) (λ rest. Some ([], rest)) (item ts >>= λ x. after_item x.0 (listed_from n) x.1)

  unfoldable pub listed : Read (List X)
  listed ts = listed_from (suc (length ts)) ts

-- ---- types

-- a type of tuples with one part or more
abbrev pub some_tuple : List TypeExpression → Option TypeExpression
some_tuple [] = None
some_tuple (x ∷ xs) = Some (tuple_type (types_of (x ∷ xs)))

-- the word `tuple` and its bracket
unfoldable pub past_tuple : List Token → Option (List Token)
past_tuple ts = past_soft_word (codes "tuple") ts >>= past_symbol s.LeftBracket

-- the word `Callable` and both its brackets
unfoldable pub past_callable : List Token → Option (List Token)
past_callable ts = past_soft_word (codes "Callable") ts >>= λ rest. past_symbol s.LeftBracket rest >>= past_symbol s.LeftBracket

unfoldable pub owned_mark : Read Bool
owned_mark ts = found (past_symbol s.At ts) (λ rest. past_soft_word (codes "owned") rest >>= λ rest. Some (true, rest)) (Some (false, ts))

abbrev pub a_named_type : Read TypeExpression
a_named_type ts = past_name ts >>= λ x. Some (named_type x.0, x.1)

module _ (inner : Read TypeExpression) where
  -- behind the bracket of a tuple's type
  unfoldable pub tuple_behind : Read TypeExpression
  tuple_behind ts = listed inner (past_symbol s.RightBracket) ts >>= λ xs. some_tuple xs.0 >>= λ x. Some (x, xs.1)

  -- a type with its mark
  unfoldable pub marked_type : Read ParameterType
  marked_type ts = inner ts >>= λ x. owned_mark x.1 >>= λ y. Some (marked x.0 y.0, y.1)

  -- a type, or `None`
  unfoldable pub answer : Read (Option TypeExpression)
  answer ts = found (past_word k.NoneWord ts) (λ rest. Some (None, rest)) (inner ts >>= λ x. Some (Some x.0, x.1))

  -- behind both brackets of a function type
  unfoldable pub function_behind : Read TypeExpression
  function_behind ts = listed marked_type (past_symbol s.RightBracket) ts >>= λ ps. past_symbol s.Comma ps.1 >>= λ rest. answer rest >>= λ r. past_symbol s.RightBracket r.1 >>= λ rest. Some (function_type (parameters_of ps.0) (result_of r.0), rest)

  unfoldable pub type_with : Read TypeExpression
  type_with ts = found (past_tuple ts) tuple_behind (found (past_callable ts) function_behind (a_named_type ts))

-- at most so deep
unfoldable pub type_at : ℕ → Read TypeExpression
type_at zero ts = None
type_at (suc n) ts = type_with (type_at n) ts

abbrev pub a_type : Read TypeExpression
a_type ts = type_at (suc (length ts)) ts

abbrev pub a_marked_type : Read ParameterType
a_marked_type ts = marked_type (type_at (suc (length ts))) ts

abbrev pub an_answer : Read (Option TypeExpression)
an_answer ts = answer (type_at (suc (length ts))) ts

-- ---- parameters

unfoldable pub param : Read Parameter
param ts = past_name ts >>= λ n. past_symbol s.Colon n.1 >>= λ rest. a_marked_type rest >>= λ x. Some (parameter_of n.0 x.0, x.1)

-- ---- targets

-- the places of a pattern in parentheses
unfoldable pub pattern_inside : List Token → Option Targets
pattern_inside ts = place_front ts >>= λ p. past_symbol s.Comma p.1 >>= λ rest. listed place_front (past_end until.Paren) rest >>= λ ps. nothing ps.1 >>= λ rest. Some (to.Pattern (p.0 ∷ ps.0))

-- one place, or those of a pattern without parentheses
unfoldable pub pattern_outside : List Token → Option Targets
pattern_outside ts = place_front ts >>= λ p. found (nothing p.1) (λ rest. Some (to.One p.0)) (past_symbol s.Comma p.1 >>= λ rest. listed place_front nothing rest >>= λ ps. Some (to.Pattern (p.0 ∷ ps.0)))

unfoldable pub targets : List Token → Option Targets
targets ts = found (past_symbol s.LeftParen ts) pattern_inside (pattern_outside ts)

-- ---- simple forms

abbrev pub assigning_symbol : Symbol → Option Assigning
assigning_symbol s.Assign = Some Plain
assigning_symbol x = augmenting x >>= λ o. Some (By o)

abbrev pub assigning : Token → Option Assigning
assigning (t.Symbol x) = assigning_symbol x
assigning _ = None

-- the first token that assigns, and what stands before and behind it
unfoldable pub split : List Token → Option (List Token × Assigning × List Token)
split [] = None
split (x ∷ ts) = found (assigning x) (λ y. Some ([], y, ts)) (split ts >>= λ z. Some (x ∷ z.0, z.1, z.2))

unfoldable pub assigned : List Token × Assigning × List Token → Option Form
assigned (left, Plain, right) = targets left >>= λ to. all_expressions right >>= λ x. Some (f.assign to x)
assigned (left, By o, right) = all_place left >>= λ p. all_expression right >>= λ x. Some (f.augmented p o x)

-- behind a name and a colon
unfoldable pub declaration : List ℕ → List Token → Option Form
declaration n ts = a_type ts >>= λ ty. found (nothing ty.1) (λ rest. Some (f.field n ty.0)) (past_symbol s.Assign ty.1 >>= λ rest. all_expressions rest >>= λ x. Some (f.annotated n ty.0 x))

unfoldable pub past_declared : Read (List ℕ)
past_declared ts = past_name ts >>= λ n. past_symbol s.Colon n.1 >>= λ rest. Some (n.0, rest)

-- the words that a module is asked for
unfoldable pub past_request : List Token → Option (List Token)
past_request ts = found (past_soft_word (codes "compile") ts) (λ rest. Some rest) (past_soft_word (codes "check") ts)

-- a call of a function of the module
unfoldable pub module_call : List Token → Option (List ℕ)
module_call ts = past_name ts >>= λ n. past_symbol s.Dot n.1 >>= λ rest. past_request rest >>= λ rest. past_symbol s.LeftParen rest >>= λ rest. past_symbol s.RightParen rest >>= λ rest. nothing rest >>= λ rest. Some n.0

-- a string
unfoldable pub past_string : List Token → Option (List Token)
past_string (t.Text text ∷ ts) = Some ts
past_string _ = None

-- a string alone
unfoldable pub docstring : List Token → Option (List Token)
docstring ts = past_string ts >>= nothing

-- what neither assigns nor declares
unfoldable pub evaluated : List Token → Option Form
evaluated ts = found (module_call ts) (λ n. Some (f.module_call n)) (found (docstring ts) (λ rest. Some f.docstring) (all_expressions ts >>= λ x. Some (f.evaluate x)))

-- what no word leads
unfoldable pub unled : List Token → Option Form
unled ts = found (past_declared ts) (λ n. declaration n.0 n.1) (found (split ts) assigned (evaluated ts))

abbrev pub alone : Form → List Token → Option Form
alone x ts = nothing ts >>= λ rest. Some x

unfoldable pub returned : List Token → Option Form
returned ts = found (nothing ts) (λ rest. Some (f.return_value None)) (found (past_word k.NoneWord ts) (alone (f.return_value None)) (all_expressions ts >>= λ x. Some (f.return_value (Some x))))

-- a simple form, a field or a module call
unfoldable pub statement : List Token → Option Form
statement ts = found (past_word k.ReturnWord ts) returned (found (past_word k.BreakWord ts) (alone f.break_loop) (found (past_word k.ContinueWord ts) (alone f.continue_loop) (found (past_word k.PassWord ts) (alone f.pass) (unled ts))))

abbrev pub only_simple : Form → Option Form
only_simple (f.field n x) = None
only_simple (f.module_call n) = None
only_simple x = Some x

unfoldable pub simple : List Token → Option Form
simple ts = statement ts >>= only_simple

-- ---- headers

-- behind what a colon follows
unfoldable pub body : List Token → Option MaybeForm
body ts = past_symbol s.Colon ts >>= λ rest. found (nothing rest) (λ rest. Some no_form) (simple rest >>= λ x. Some (some_form x))

unfoldable pub result_type : Read (Option TypeExpression)
result_type ts = found (past_symbol s.Arrow ts) an_answer (Some (None, ts))

unfoldable pub def_header : List Token → Option Form
def_header ts = past_name ts >>= λ n. past_symbol s.LeftParen n.1 >>= λ rest. listed param (past_end until.Paren) rest >>= λ ps. result_type ps.1 >>= λ ty. body ty.1 >>= λ x. Some (f.def_header n.0 ps.0 ty.0 x)

unfoldable pub class_header : List Token → Option Form
class_header ts = past_name ts >>= λ n. past_symbol s.Colon n.1 >>= alone (f.class_header n.0)

-- a test, and the end of its header
abbrev pub test_and_body : List Token → Option (Expression × MaybeForm)
test_and_body ts = expression_front ts >>= λ x. body x.1 >>= λ y. Some (x.0, y)

abbrev pub tested : (Expression → MaybeForm → Form) → List Token → Option Form
tested make ts = test_and_body ts >>= λ x. Some (make x.0 x.1)

unfoldable pub else_header : List Token → Option Form
else_header ts = body ts >>= λ x. Some (f.else_header x)

unfoldable pub maybe_comma : List Token → List Token
maybe_comma ts = found (past_symbol s.Comma ts) (λ rest. rest) ts

unfoldable pub past_range : List Token → Option (List Token)
past_range ts = past_word k.InWord ts >>= λ rest. past_soft_word (codes "range") rest >>= past_symbol s.LeftParen

unfoldable pub for_header : List Token → Option Form
for_header ts = past_name ts >>= λ n. past_range n.1 >>= λ rest. expression_front rest >>= λ x. past_symbol s.RightParen (maybe_comma x.1) >>= λ rest. body rest >>= λ y. Some (f.for_header n.0 x.0 y)

unfoldable pub decorator : List Token → Option Form
decorator ts = past_soft_word (codes "guppy") ts >>= λ rest. found (nothing rest) (λ rest. Some f.function_decorator) (past_symbol s.Dot rest >>= λ rest. past_soft_word (codes "struct") rest >>= alone f.struct_decorator)

-- one name or more, and no tokens behind them
abbrev pub some_names : List (List ℕ) → List Token → Option (List (List ℕ))
some_names [] ts = None
some_names (n ∷ ns) ts = nothing ts >>= λ rest. Some (n ∷ ns)

-- names without parentheses, for at most so many turns
unfoldable pub names_from : ℕ → List Token → Option (List (List ℕ))
names_from zero ts = None
names_from (suc m) ts = past_name ts >>= λ n. found (nothing n.1) (λ rest. Some (n.0 ∷ [])) (past_symbol s.Comma n.1 >>= λ rest. names_from m rest >>= λ ns. Some (n.0 ∷ ns))

abbrev pub bare_names : List Token → Option (List (List ℕ))
bare_names ts = names_from (length ts) ts

unfoldable pub imported : List Token → Option (List (List ℕ))
imported ts = found (past_symbol s.LeftParen ts) (λ rest. listed past_name (past_end until.Paren) rest >>= λ ns. some_names ns.0 ns.1) (bare_names ts)

unfoldable pub import_names : List Token → Option Form
import_names ts = place_front ts >>= λ p. past_word k.ImportWord p.1 >>= λ rest. imported rest >>= λ ns. Some (f.import_names (dotted p.0) ns)

-- ---- lines

-- the first token where it is a keyword
unfoldable pub first_word : List Token → Option (Keyword × List Token)
first_word (t.Keyword x ∷ ts) = Some (x, ts)
first_word _ = None

-- what a word leads, and the tokens behind it
abbrev pub led : Keyword → List Token → Option Form → Option Form
led k.DefWord ts other = def_header ts
led k.ClassWord ts other = class_header ts
led k.IfWord ts other = tested f.if_header ts
led k.ElifWord ts other = tested f.elif_header ts
led k.WhileWord ts other = tested f.while_header ts
led k.ElseWord ts other = else_header ts
led k.ForWord ts other = for_header ts
led k.FromWord ts other = import_names ts
led _ ts other = other

unfoldable pub line : List Token → Option Form
line ts = found (first_word ts) (λ x. led x.0 x.1 (statement ts)) (found (past_symbol s.At ts) decorator (statement ts))
