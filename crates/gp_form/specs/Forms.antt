-- Which tokens spell which line form: a constructor for each rule of the grammar, in its order. The words
-- `tuple`, `Callable`, `owned`, `range`, `guppy`, `struct`, `compile` and `check` are no keywords: a form asks for
-- them as names with that text.
use Rattle.std.specs.Prelude.{◌≡◌, ℕ, Bool, true, false, List, [], ◌∷◌, ◌++◌, flat_map, codes, Option, Some, None}
use Rattle.gp_lex.specs.declared.token.Token.{Token}
use Rattle.gp_lex.specs.declared.token.Token.TheVariants as t
use Rattle.gp_lex.specs.declared.token.Symbol.{Symbol}
use Rattle.gp_lex.specs.declared.token.Symbol.TheVariants as s
use Rattle.gp_lex.specs.declared.token.Keyword.TheVariants as k
use Rattle.gp_tree.specs.declared.expr.BinOp.{BinOp}
use Rattle.gp_tree.specs.declared.expr.BinOp.TheVariants as op
use Rattle.gp_tree.specs.declared.place.Place.{Place}
use Rattle.gp_tree.specs.declared.place.Targets.{Targets}
use Rattle.gp_tree.specs.declared.place.Targets.TheVariants as to
use Rattle.gp_tree.specs.Expression.{Expression}
use Rattle.gp_tree.specs.TypeExpression.{TypeExpression, TypeExpressions, ParameterType, ParameterTypes, named_type, tuple_type, function_type, no_types, with_type, no_parameters, with_parameter, result_of}
use Rattle.gp_tree.specs.Form.{Parameter, Form, MaybeForm, no_form, some_form}
use Rattle.gp_tree.specs.Form as f
use Rattle.gp_form.specs.declared.level.Level.TheVariants.{Whole}
use Rattle.gp_form.specs.Grammar.{Spells, SpellsPlace, SpellsExpressions}

-- These tokens are items of a kind with commas between them, and maybe a comma after the last.
pub data Listed {X : Type 0} (R : List Token → X → Type 0) : List Token → List X → Type 0 where
  nothing : Listed R [] []
  last : (a : List Token) (x : X) → R a x → Listed R a (x ∷ [])
  going_on : (a b : List Token) (x : X) (xs : List X) → R a x → Listed R b xs → Listed R (a ++ t.Symbol s.Comma ∷ b) (x ∷ xs)

-- ---- types

abbrev pub marked : TypeExpression → Bool → ParameterType
marked x is_owned = record { ty = x; owned = is_owned }

mutual
  pub data SpellsType : List Token → TypeExpression → Type 0 where
    named : (n : List ℕ) → SpellsType (t.Name n ∷ []) (named_type n)
    tuple : (a : List Token) (x : TypeExpression) (xs : TypeExpressions) → SpellsTypes a (with_type x xs) → SpellsType (t.Name (codes "tuple") ∷ t.Symbol s.LeftBracket ∷ (a ++ t.Symbol s.RightBracket ∷ [])) (tuple_type (with_type x xs))
    function : (a b : List Token) (ps : ParameterTypes) (r : Option TypeExpression) → SpellsMarkedTypes a ps → SpellsAnswer b r → SpellsType (t.Name (codes "Callable") ∷ t.Symbol s.LeftBracket ∷ t.Symbol s.LeftBracket ∷ (a ++ t.Symbol s.RightBracket ∷ t.Symbol s.Comma ∷ (b ++ t.Symbol s.RightBracket ∷ []))) (function_type ps (result_of r))

  -- types with commas between them, and maybe a comma after the last
  pub data SpellsTypes : List Token → TypeExpressions → Type 0 where
    nothing : SpellsTypes [] no_types
    last : (a : List Token) (x : TypeExpression) → SpellsType a x → SpellsTypes a (with_type x no_types)
    going_on : (a b : List Token) (x : TypeExpression) (xs : TypeExpressions) → SpellsType a x → SpellsTypes b xs → SpellsTypes (a ++ t.Symbol s.Comma ∷ b) (with_type x xs)

  -- a type, and maybe the mark `@owned` behind it
  pub data SpellsMarkedType : List Token → ParameterType → Type 0 where
    plain : (a : List Token) (x : TypeExpression) → SpellsType a x → SpellsMarkedType a (marked x false)
    owned : (a : List Token) (x : TypeExpression) → SpellsType a x → SpellsMarkedType (a ++ t.Symbol s.At ∷ t.Name (codes "owned") ∷ []) (marked x true)

  -- the same with commas between them, and maybe a comma after the last
  pub data SpellsMarkedTypes : List Token → ParameterTypes → Type 0 where
    no_marked : SpellsMarkedTypes [] no_parameters
    last_marked : (a : List Token) (p : ParameterType) → SpellsMarkedType a p → SpellsMarkedTypes a (with_parameter p.ty p.owned no_parameters)
    more_marked : (a b : List Token) (p : ParameterType) (ps : ParameterTypes) → SpellsMarkedType a p → SpellsMarkedTypes b ps → SpellsMarkedTypes (a ++ t.Symbol s.Comma ∷ b) (with_parameter p.ty p.owned ps)

  -- what a function answers: values of a type, or nothing
  pub data SpellsAnswer : List Token → Option TypeExpression → Type 0 where
    typed : (a : List Token) (x : TypeExpression) → SpellsType a x → SpellsAnswer a (Some x)
    none : SpellsAnswer (t.Keyword k.NoneWord ∷ []) None

-- ---- parameters

abbrev pub parameter_of : List ℕ → ParameterType → Parameter
parameter_of n p = record { name = n; ty = p.ty; owned = p.owned }

pub data SpellsParam : List Token → Parameter → Type 0 where
  param : (n : List ℕ) (a : List Token) (p : ParameterType) → SpellsMarkedType a p → SpellsParam (t.Name n ∷ t.Symbol s.Colon ∷ a) (parameter_of n p)

-- ---- targets

-- places with a comma after the first
pub data SpellsPlaces : List Token → List Place → Type 0 where
  places : (a b : List Token) (p : Place) (ps : List Place) → SpellsPlace a p → Listed SpellsPlace b ps → SpellsPlaces (a ++ t.Symbol s.Comma ∷ b) (p ∷ ps)

pub data SpellsTargets : List Token → Targets → Type 0 where
  one : (a : List Token) (p : Place) → SpellsPlace a p → SpellsTargets a (to.One p)
  pattern : (a : List Token) (ps : List Place) → SpellsPlaces a ps → SpellsTargets a (to.Pattern ps)
  grouped : (a : List Token) (ps : List Place) → SpellsPlaces a ps → SpellsTargets (t.Symbol s.LeftParen ∷ (a ++ t.Symbol s.RightParen ∷ [])) (to.Pattern ps)

-- ---- simple forms

-- the operator of an augmented assignment
abbrev pub augmenting : Symbol → Option BinOp
augmenting s.PlusAssign = Some op.Add
augmenting s.MinusAssign = Some op.Sub
augmenting s.StarAssign = Some op.Mul
augmenting s.FloorDivAssign = Some op.FloorDiv
augmenting s.PercentAssign = Some op.Mod
augmenting _ = None

pub data SpellsSimple : List Token → Form → Type 0 where
  docstring : (text : List ℕ) → SpellsSimple (t.Text text ∷ []) f.docstring
  assignment : (a b : List Token) (to : Targets) (x : Expression) → SpellsTargets a to → SpellsExpressions b x → SpellsSimple (a ++ t.Symbol s.Assign ∷ b) (f.assign to x)
  annotated : (n : List ℕ) (a b : List Token) (ty : TypeExpression) (x : Expression) → SpellsType a ty → SpellsExpressions b x → SpellsSimple (t.Name n ∷ t.Symbol s.Colon ∷ (a ++ t.Symbol s.Assign ∷ b)) (f.annotated n ty x)
  augmented : (a b : List Token) (y : Symbol) (p : Place) (o : BinOp) (x : Expression) → SpellsPlace a p → augmenting y ≡ Some o → Spells Whole b x → SpellsSimple (a ++ t.Symbol y ∷ b) (f.augmented p o x)
  expression : (a : List Token) (x : Expression) → SpellsExpressions a x → ((text : List ℕ) → a ≡ t.Text text ∷ [] → ⊥) → SpellsSimple a (f.evaluate x)
  return_nothing : SpellsSimple (t.Keyword k.ReturnWord ∷ []) (f.return_value None)
  return_none : SpellsSimple (t.Keyword k.ReturnWord ∷ t.Keyword k.NoneWord ∷ []) (f.return_value None)
  return_value : (a : List Token) (x : Expression) → SpellsExpressions a x → SpellsSimple (t.Keyword k.ReturnWord ∷ a) (f.return_value (Some x))
  break_loop : SpellsSimple (t.Keyword k.BreakWord ∷ []) f.break_loop
  continue_loop : SpellsSimple (t.Keyword k.ContinueWord ∷ []) f.continue_loop
  pass : SpellsSimple (t.Keyword k.PassWord ∷ []) f.pass

-- ---- parts of headers and imports

-- what stands behind a header's colon: nothing, or a simple form
pub data SpellsBody : List Token → MaybeForm → Type 0 where
  block : SpellsBody [] no_form
  simple : (a : List Token) (x : Form) → SpellsSimple a x → SpellsBody a (some_form x)

-- what a function answers, behind an arrow; nothing where there is no arrow
pub data SpellsResult : List Token → Option TypeExpression → Type 0 where
  missing : SpellsResult [] None
  given : (a : List Token) (x : Option TypeExpression) → SpellsAnswer a x → SpellsResult (t.Symbol s.Arrow ∷ a) x

pub data IsMaybeComma : List Token → Type 0 where
  absent : IsMaybeComma []
  present : IsMaybeComma (t.Symbol s.Comma ∷ [])

pub data SpellsName : List Token → List ℕ → Type 0 where
  name : (n : List ℕ) → SpellsName (t.Name n ∷ []) n

-- names with commas between them and none after the last
pub data SpellsNames : List Token → List (List ℕ) → Type 0 where
  one : (n : List ℕ) → SpellsNames (t.Name n ∷ []) (n ∷ [])
  going_on : (n : List ℕ) (a : List Token) (ns : List (List ℕ)) → SpellsNames a ns → SpellsNames (t.Name n ∷ t.Symbol s.Comma ∷ a) (n ∷ ns)

-- the names of an import; in parentheses there may be a comma after the last
pub data SpellsImported : List Token → List (List ℕ) → Type 0 where
  bare : (a : List Token) (ns : List (List ℕ)) → SpellsNames a ns → SpellsImported a ns
  grouped : (a : List Token) (n : List ℕ) (ns : List (List ℕ)) → Listed SpellsName a (n ∷ ns) → SpellsImported (t.Symbol s.LeftParen ∷ (a ++ t.Symbol s.RightParen ∷ [])) (n ∷ ns)

-- the text of names with dots between them
abbrev pub dotted : Place → List ℕ
dotted p = p.name ++ flat_map (λ n. 46 ∷ n) p.fields

-- ---- line forms

pub data SpellsForm : List Token → Form → Type 0 where
  simple : (a : List Token) (x : Form) → SpellsSimple a x → SpellsForm a x
  def_header : (n : List ℕ) (a b c : List Token) (ps : List Parameter) (ty : Option TypeExpression) (body : MaybeForm) → Listed SpellsParam a ps → SpellsResult b ty → SpellsBody c body → SpellsForm (t.Keyword k.DefWord ∷ t.Name n ∷ t.Symbol s.LeftParen ∷ (a ++ t.Symbol s.RightParen ∷ (b ++ t.Symbol s.Colon ∷ c))) (f.def_header n ps ty body)
  class_header : (n : List ℕ) → SpellsForm (t.Keyword k.ClassWord ∷ t.Name n ∷ t.Symbol s.Colon ∷ []) (f.class_header n)
  if_header : (a b : List Token) (x : Expression) (body : MaybeForm) → Spells Whole a x → SpellsBody b body → SpellsForm (t.Keyword k.IfWord ∷ (a ++ t.Symbol s.Colon ∷ b)) (f.if_header x body)
  elif_header : (a b : List Token) (x : Expression) (body : MaybeForm) → Spells Whole a x → SpellsBody b body → SpellsForm (t.Keyword k.ElifWord ∷ (a ++ t.Symbol s.Colon ∷ b)) (f.elif_header x body)
  while_header : (a b : List Token) (x : Expression) (body : MaybeForm) → Spells Whole a x → SpellsBody b body → SpellsForm (t.Keyword k.WhileWord ∷ (a ++ t.Symbol s.Colon ∷ b)) (f.while_header x body)
  else_header : (b : List Token) (body : MaybeForm) → SpellsBody b body → SpellsForm (t.Keyword k.ElseWord ∷ t.Symbol s.Colon ∷ b) (f.else_header body)
  for_header : (n : List ℕ) (a b c : List Token) (x : Expression) (body : MaybeForm) → Spells Whole a x → IsMaybeComma b → SpellsBody c body → SpellsForm (t.Keyword k.ForWord ∷ t.Name n ∷ t.Keyword k.InWord ∷ t.Name (codes "range") ∷ t.Symbol s.LeftParen ∷ (a ++ (b ++ t.Symbol s.RightParen ∷ t.Symbol s.Colon ∷ c))) (f.for_header n x body)
  function_decorator : SpellsForm (t.Symbol s.At ∷ t.Name (codes "guppy") ∷ []) f.function_decorator
  struct_decorator : SpellsForm (t.Symbol s.At ∷ t.Name (codes "guppy") ∷ t.Symbol s.Dot ∷ t.Name (codes "struct") ∷ []) f.struct_decorator
  import_names : (a b : List Token) (p : Place) (ns : List (List ℕ)) → SpellsPlace a p → SpellsImported b ns → SpellsForm (t.Keyword k.FromWord ∷ (a ++ t.Keyword k.ImportWord ∷ b)) (f.import_names (dotted p) ns)
  field : (n : List ℕ) (a : List Token) (x : TypeExpression) → SpellsType a x → SpellsForm (t.Name n ∷ t.Symbol s.Colon ∷ a) (f.field n x)
  compile_call : (n : List ℕ) → SpellsForm (t.Name n ∷ t.Symbol s.Dot ∷ t.Name (codes "compile") ∷ t.Symbol s.LeftParen ∷ t.Symbol s.RightParen ∷ []) (f.module_call n)
  check_call : (n : List ℕ) → SpellsForm (t.Name n ∷ t.Symbol s.Dot ∷ t.Name (codes "check") ∷ t.Symbol s.LeftParen ∷ t.Symbol s.RightParen ∷ []) (f.module_call n)

-- A line has at most one form.
abbrev pub HasOneForm : Type 0
HasOneForm = (ts : List Token) (x y : Form) → SpellsForm ts x → SpellsForm ts y → x ≡ y
