-- The form that tokens spell is read.
use Rattle.std.proofs.Common.{◌≡◌, ℕ, suc, ◌-◌, ◌≤◌, Bool, true, false, cond, bytes_eq, List, [], ◌∷◌, ◌++◌, length, codes, Option, Some, None, refl, sym, ap, ◌∙◌, append_assoc, arith, length-append}
use Rattle.std.proofs.lemmas.List.{append-nil}
use Rattle.gp_lex.specs.declared.token.Token.{Token}
use Rattle.gp_lex.specs.declared.token.Token.TheVariants as t
use Rattle.gp_lex.specs.declared.token.Symbol.{Symbol}
use Rattle.gp_lex.specs.declared.token.Symbol.TheVariants as s
use Rattle.gp_lex.specs.declared.token.Keyword.{Keyword}
use Rattle.gp_lex.specs.declared.token.Keyword.TheVariants as k
use Rattle.gp_tree.specs.declared.expr.BinOp.{BinOp}
use Rattle.gp_tree.specs.declared.place.Place.{Place}
use Rattle.gp_tree.specs.declared.place.Targets.{Targets}
use Rattle.gp_tree.specs.declared.place.Targets.TheVariants as to
use Rattle.gp_tree.specs.Expression.{Expression}
use Rattle.gp_tree.specs.TypeExpression.{TypeExpression, TypeExpressions, ParameterType, ParameterTypes, named_type, tuple_type, function_type, no_types, with_type, no_parameters, with_parameter, types_of, parameters_of, result_of}
use Rattle.gp_tree.specs.Form.{Parameter, Form, MaybeForm, no_form, some_form}
use Rattle.gp_tree.specs.Form as f
use Rattle.gp_form.specs.declared.assigning.Assigning.{Assigning}
use Rattle.gp_form.specs.declared.assigning.Assigning.TheVariants.{Plain, By}
use Rattle.gp_form.specs.declared.level.Level.TheVariants.{Whole}
use Rattle.gp_form.specs.Grammar as x
use Rattle.gp_form.specs.Grammar.{Spells, SpellsPlace, SpellsExpressions}
use Rattle.gp_form.specs.declared.list_end.ListEnd.{ListEnd}
use Rattle.gp_form.specs.declared.list_end.ListEnd.TheVariants as until
use Rattle.gp_form.specs.Forms as g
use Rattle.gp_form.specs.Forms.{Listed, marked, SpellsType, SpellsTypes, SpellsMarkedType, SpellsMarkedTypes, SpellsAnswer, parameter_of, SpellsParam, SpellsPlaces, SpellsTargets, augmenting, SpellsSimple, SpellsBody, SpellsResult, IsMaybeComma, SpellsName, SpellsNames, SpellsImported, dotted, SpellsForm, HasOneForm}
use Rattle.gp_form.specs.code.Steps.{Read, ◌>>=◌, if_same, past_symbol, past_word, past_name}
use Rattle.gp_form.specs.code.Reading.{fields_from, path_from, past_join, chain_from, chain, past_end, expressions, named, atom, factor, comparison, inversion, whole, read, place_front, expression_front, all_expressions}
use Rattle.gp_form.specs.code.FormReading.{past_soft_word, nothing, past_string, listed, some_tuple, past_tuple, past_callable, owned_mark, tuple_behind, marked_type, answer, function_behind, type_with, type_at, a_type, a_marked_type, an_answer, param, pattern_inside, pattern_outside, targets, assigning_symbol, assigning, split, assigned, declaration, past_declared, past_request, docstring, module_call, evaluated, unled, returned, statement, only_simple, simple, body, result_type, def_header, class_header, tested, else_header, maybe_comma, past_range, for_header, decorator, names_from, imported, import_names, first_word, led, line}
use Rattle.gp_form.proofs.StepLemmas.{some, some_is}
use Rattle.gp_form.proofs.FormWords.{this_text}
use Rattle.gp_form.proofs.ListedItems.{ItemReads, ListReads, nothing_reads, last_reads, going_on_reads, listed_reads, all_reads}
use Rattle.gp_form.proofs.Follow.{first_binds, opening, Begins, begins_longer, comma_goes_on, not_word}
use Rattle.gp_form.proofs.PlainTokens.{is_plain, are_plain, both_plain, with_token, place_plain, expressions_plain}
use Rattle.gp_form.proofs.FormSound.{docstring_is, module_call_sound}
use Rattle.gp_form.proofs.ExpressionComplete.{place_front_complete, expression_begins, expression_front_complete, all_expressions_complete}

-- ---- types

-- a name is the first of the tokens
record Named (a : List Token) : Type 0 where
  name : List ℕ
  others : List Token
  parts : a ≡ t.Name name ∷ others

named_symbol : (x : Symbol) (a rest : List Token) → Named a → past_symbol x (a ++ rest) ≡ None
unfolding past_symbol
named_symbol x a rest h = ap (λ (z : List Token). past_symbol x (z ++ rest)) h.parts

named_word : (x : Keyword) (a rest : List Token) → Named a → past_word x (a ++ rest) ≡ None
unfolding past_word
named_word x a rest h = ap (λ (z : List Token). past_word x (z ++ rest)) h.parts

named_something : (a rest : List Token) → Named a → nothing (a ++ rest) ≡ None
unfolding past_end
named_something a rest h = ap (λ (z : List Token). nothing (z ++ rest)) h.parts

named_longer : (a b : List Token) → Named a → Named (a ++ b)
named_longer a b h = record { name = h.name; others = h.others ++ b; parts = ap (λ (z : List Token). z ++ b) h.parts }

-- the signs of types

bracket_closes : (rest : List Token) → past_symbol s.RightBracket (t.Symbol s.RightBracket ∷ rest) ≡ Some rest
unfolding past_symbol
bracket_closes rest = refl

comma_in_brackets : (b : List Token) → past_symbol s.RightBracket (t.Symbol s.Comma ∷ b) ≡ None
unfolding past_symbol
comma_in_brackets b = refl

right_is_no_left : (rest : List Token) → past_symbol s.LeftBracket (t.Symbol s.RightBracket ∷ rest) ≡ None
unfolding past_symbol
right_is_no_left rest = refl

comma_is_no_left : (rest : List Token) → past_symbol s.LeftBracket (t.Symbol s.Comma ∷ rest) ≡ None
unfolding past_symbol
comma_is_no_left rest = refl

at_is_no_left : (rest : List Token) → past_symbol s.LeftBracket (t.Symbol s.At ∷ rest) ≡ None
unfolding past_symbol
at_is_no_left rest = refl

right_is_no_mark : (rest : List Token) → past_symbol s.At (t.Symbol s.RightBracket ∷ rest) ≡ None
unfolding past_symbol
right_is_no_mark rest = refl

comma_is_no_mark : (rest : List Token) → past_symbol s.At (t.Symbol s.Comma ∷ rest) ≡ None
unfolding past_symbol
comma_is_no_mark rest = refl

past_comma : (rest : List Token) → past_symbol s.Comma (t.Symbol s.Comma ∷ rest) ≡ Some rest
unfolding past_symbol
past_comma rest = refl

past_none : (rest : List Token) → past_word k.NoneWord (t.Keyword k.NoneWord ∷ rest) ≡ Some rest
unfolding past_word
past_none rest = refl

this_tuple : (rest : List Token) → past_tuple (t.Name (codes "tuple") ∷ t.Symbol s.LeftBracket ∷ rest) ≡ Some rest
unfolding past_tuple past_symbol
this_tuple rest = rw (this_text (codes "tuple") (t.Symbol s.LeftBracket ∷ rest)) refl

callable_is_no_tuple : (rest : List Token) → past_tuple (t.Name (codes "Callable") ∷ rest) ≡ None
unfolding past_tuple past_soft_word
callable_is_no_tuple rest = refl

this_callable : (rest : List Token) → past_callable (t.Name (codes "Callable") ∷ t.Symbol s.LeftBracket ∷ t.Symbol s.LeftBracket ∷ rest) ≡ Some rest
unfolding past_callable past_symbol
this_callable rest = rw (this_text (codes "Callable") (t.Symbol s.LeftBracket ∷ t.Symbol s.LeftBracket ∷ rest)) refl

unmarked : (rest : List Token) → past_symbol s.At rest ≡ None → owned_mark rest ≡ Some (false, rest)
unfolding owned_mark
unmarked rest h = rw h refl

this_mark : (rest : List Token) → owned_mark (t.Symbol s.At ∷ t.Name (codes "owned") ∷ rest) ≡ Some (true, rest)
unfolding owned_mark past_symbol
this_mark rest = rw (this_text (codes "owned") rest) refl

-- items in brackets

module _ {X : Type 0} (item : Read X) (rest : List Token) where
  abbrev BracketItem : List Token → X → Type 0
  BracketItem = ItemReads item (past_symbol s.RightBracket) (t.Symbol s.RightBracket ∷ rest)

  abbrev BracketItems : List Token → List X → Type 0
  BracketItems = ListReads item (past_symbol s.RightBracket) (t.Symbol s.RightBracket ∷ rest) rest

  none_in_brackets : BracketItems [] []
  none_in_brackets = nothing_reads item (past_symbol s.RightBracket) (t.Symbol s.RightBracket ∷ rest) rest (bracket_closes rest) comma_in_brackets

  last_in_brackets : (a : List Token) (x : X) → BracketItem a x → BracketItems a (x ∷ [])
  last_in_brackets = last_reads item (past_symbol s.RightBracket) (t.Symbol s.RightBracket ∷ rest) rest (bracket_closes rest) comma_in_brackets

  more_in_brackets : (a b : List Token) (x : X) (xs : List X) → BracketItem a x → BracketItems b xs → BracketItems (a ++ t.Symbol s.Comma ∷ b) (x ∷ xs)
  more_in_brackets = going_on_reads item (past_symbol s.RightBracket) (t.Symbol s.RightBracket ∷ rest) rest (bracket_closes rest) comma_in_brackets

  all_in_brackets : (a : List Token) (xs : List X) → BracketItems a xs → listed item (past_symbol s.RightBracket) (a ++ t.Symbol s.RightBracket ∷ rest) ≡ Some (xs, rest)
  all_in_brackets = all_reads item (past_symbol s.RightBracket) (t.Symbol s.RightBracket ∷ rest) rest (bracket_closes rest) comma_in_brackets

-- what is shown of each kind

record TypeComplete (a : List Token) (x : TypeExpression) : Type 0 where
  begins : Named a
  reads : (n : ℕ) (rest : List Token) → length a ≤ n → past_symbol s.LeftBracket rest ≡ None → type_at n (a ++ rest) ≡ Some (x, rest)

record MarkedComplete (a : List Token) (p : ParameterType) : Type 0 where
  begins : Named a
  reads : (n : ℕ) (rest : List Token) → length a ≤ n → past_symbol s.LeftBracket rest ≡ None → past_symbol s.At rest ≡ None → marked_type (type_at n) (a ++ rest) ≡ Some (p, rest)

abbrev AnswerComplete : List Token → Option TypeExpression → Type 0
AnswerComplete a x = (n : ℕ) (rest : List Token) → length a ≤ n → past_symbol s.LeftBracket rest ≡ None → answer (type_at n) (a ++ rest) ≡ Some (x, rest)

-- what is read of types, and that they are these
record ReadsTypes (n : ℕ) (rest : List Token) (a : List Token) (xs : TypeExpressions) : Type 0 where
  trees : List TypeExpression
  are : types_of trees ≡ xs
  reads : BracketItems (type_at n) rest a trees

abbrev TypesComplete : List Token → TypeExpressions → Type 0
TypesComplete a xs = (n : ℕ) (rest : List Token) → length a ≤ n → ReadsTypes n rest a xs

record ReadsMarked (n : ℕ) (rest : List Token) (a : List Token) (ps : ParameterTypes) : Type 0 where
  trees : List ParameterType
  are : parameters_of trees ≡ ps
  reads : BracketItems (marked_type (type_at n)) rest a trees

abbrev MarkedTypesComplete : List Token → ParameterTypes → Type 0
MarkedTypesComplete a ps = (n : ℕ) (rest : List Token) → length a ≤ n → ReadsMarked n rest a ps

-- names

not_tuple : (rest : List Token) (same : Bool) → past_symbol s.LeftBracket rest ≡ None → (if_same same rest >>= past_symbol s.LeftBracket) ≡ None
not_tuple rest true h = h
not_tuple rest false h = refl

not_callable : (rest : List Token) (same : Bool) → past_symbol s.LeftBracket rest ≡ None → (if_same same rest >>= λ z. past_symbol s.LeftBracket z >>= past_symbol s.LeftBracket) ≡ None
not_callable rest true h = rw h refl
not_callable rest false h = refl

named_complete : (n : List ℕ) → TypeComplete (t.Name n ∷ []) (named_type n)
unfolding type_at type_with past_tuple past_callable past_soft_word past_name
named_complete n = record {
  begins = record { name = n; others = []; parts = refl };
  reads = λ m rest le ends.
      let turn : m ≡ suc (m - 1) = omega arith in
      let here : type_with (type_at (m - 1)) (t.Name n ∷ rest) ≡ Some (named_type n, rest) = rw (not_tuple rest (bytes_eq n (codes "tuple")) ends, not_callable rest (bytes_eq n (codes "Callable")) ends) refl in
      ap (λ (d : ℕ). type_at d (t.Name n ∷ rest)) turn ∙ here;
}

-- tuples

some_read : (ys : List TypeExpression) (x : TypeExpression) (xs : TypeExpressions) → types_of ys ≡ with_type x xs → some_tuple ys ≡ Some (tuple_type (with_type x xs))
some_read [] x xs e = absurd cc
some_read (y ∷ ys) x xs e = ap (λ (z : TypeExpressions). some (tuple_type z)) e

tuple_complete : (a : List Token) (x : TypeExpression) (xs : TypeExpressions) → TypesComplete a (with_type x xs) → TypeComplete (t.Name (codes "tuple") ∷ t.Symbol s.LeftBracket ∷ (a ++ t.Symbol s.RightBracket ∷ [])) (tuple_type (with_type x xs))
unfolding type_at type_with tuple_behind
tuple_complete a x xs c = record {
  begins = record { name = codes "tuple"; others = t.Symbol s.LeftBracket ∷ (a ++ t.Symbol s.RightBracket ∷ []); parts = refl };
  reads = λ m rest le ends.
      let sized = length-append a (t.Symbol s.RightBracket ∷ []) in
      let turn : m ≡ suc (m - 1) = omega arith in
      let inside = c (m - 1) rest (omega (arith, sized)) in
      let all = all_in_brackets (type_at (m - 1)) rest a inside.trees inside.reads in
      let tokens = t.Name (codes "tuple") ∷ t.Symbol s.LeftBracket ∷ ((a ++ t.Symbol s.RightBracket ∷ []) ++ rest) in
      let here : type_with (type_at (m - 1)) tokens ≡ Some (tuple_type (with_type x xs), rest) =
      rw (this_tuple ((a ++ t.Symbol s.RightBracket ∷ []) ++ rest), append_assoc a (t.Symbol s.RightBracket ∷ []) rest, all, some_read inside.trees x xs inside.are) refl in
      ap (λ (d : ℕ). type_at d tokens) turn ∙ here;
}

type_item : (a : List Token) (x : TypeExpression) (n : ℕ) (rest : List Token) → length a ≤ n → TypeComplete a x → BracketItem (type_at n) rest a x
type_item a x n rest le c = record {
  at_end = c.reads n (t.Symbol s.RightBracket ∷ rest) le (right_is_no_left rest);
  at_comma = λ b. c.reads n (t.Symbol s.Comma ∷ b) le (comma_is_no_left b);
  opens_end = named_symbol s.RightBracket a (t.Symbol s.RightBracket ∷ rest) c.begins;
  opens_comma = λ b. named_symbol s.RightBracket a (t.Symbol s.Comma ∷ b) c.begins;
}

no_types_complete : TypesComplete [] no_types
no_types_complete n rest le = record { trees = []; are = refl; reads = none_in_brackets (type_at n) rest }

last_type_complete : (a : List Token) (x : TypeExpression) → TypeComplete a x → TypesComplete a (with_type x no_types)
last_type_complete a x c n rest le = record { trees = x ∷ []; are = refl; reads = last_in_brackets (type_at n) rest a x (type_item a x n rest le c) }

more_types_complete : (a b : List Token) (x : TypeExpression) (xs : TypeExpressions) → TypeComplete a x → TypesComplete b xs → TypesComplete (a ++ t.Symbol s.Comma ∷ b) (with_type x xs)
more_types_complete a b x xs c d n rest le =
    let sized = length-append a (t.Symbol s.Comma ∷ b) in
    let others = d n rest (omega (arith, sized)) in
    let item = type_item a x n rest (omega (arith, sized)) c in
    record { trees = x ∷ others.trees; are = ap (λ (z : TypeExpressions). with_type x z) others.are; reads = more_in_brackets (type_at n) rest a b x others.trees item others.reads }

-- types with a mark or without one

unmarked_complete : (a : List Token) (x : TypeExpression) → TypeComplete a x → MarkedComplete a (marked x false)
unfolding marked_type
unmarked_complete a x c = record {
  begins = c.begins;
  reads = λ n rest le ends unmark. rw (c.reads n rest le ends, unmarked rest unmark) refl;
}

owned_complete : (a : List Token) (x : TypeExpression) → TypeComplete a x → MarkedComplete (a ++ t.Symbol s.At ∷ t.Name (codes "owned") ∷ []) (marked x true)
unfolding marked_type
owned_complete a x c = record {
  begins = named_longer a (t.Symbol s.At ∷ t.Name (codes "owned") ∷ []) c.begins;
  reads = λ n rest le ends unmark.
      let mark = t.Symbol s.At ∷ t.Name (codes "owned") ∷ [] in
      let sized = length-append a mark in
      let ty = c.reads n (mark ++ rest) (omega (arith, sized)) (at_is_no_left (t.Name (codes "owned") ∷ rest)) in
      ap (marked_type (type_at n)) (append_assoc a mark rest) ∙ rw (ty, this_mark rest) refl;
}

marked_item : (a : List Token) (p : ParameterType) (n : ℕ) (rest : List Token) → length a ≤ n → MarkedComplete a p → BracketItem (marked_type (type_at n)) rest a p
marked_item a p n rest le c = record {
  at_end = c.reads n (t.Symbol s.RightBracket ∷ rest) le (right_is_no_left rest) (right_is_no_mark rest);
  at_comma = λ b. c.reads n (t.Symbol s.Comma ∷ b) le (comma_is_no_left b) (comma_is_no_mark b);
  opens_end = named_symbol s.RightBracket a (t.Symbol s.RightBracket ∷ rest) c.begins;
  opens_comma = λ b. named_symbol s.RightBracket a (t.Symbol s.Comma ∷ b) c.begins;
}

no_marked_complete : MarkedTypesComplete [] no_parameters
no_marked_complete n rest le = record { trees = []; are = refl; reads = none_in_brackets (marked_type (type_at n)) rest }

last_marked_complete : (a : List Token) (p : ParameterType) → MarkedComplete a p → MarkedTypesComplete a (with_parameter p.ty p.owned no_parameters)
last_marked_complete a p c n rest le = record { trees = p ∷ []; are = refl; reads = last_in_brackets (marked_type (type_at n)) rest a p (marked_item a p n rest le c) }

more_marked_complete : (a b : List Token) (p : ParameterType) (ps : ParameterTypes) → MarkedComplete a p → MarkedTypesComplete b ps → MarkedTypesComplete (a ++ t.Symbol s.Comma ∷ b) (with_parameter p.ty p.owned ps)
more_marked_complete a b p ps c d n rest le =
    let sized = length-append a (t.Symbol s.Comma ∷ b) in
    let others = d n rest (omega (arith, sized)) in
    let item = marked_item a p n rest (omega (arith, sized)) c in
    record { trees = p ∷ others.trees; are = ap (λ (z : ParameterTypes). with_parameter p.ty p.owned z) others.are; reads = more_in_brackets (marked_type (type_at n)) rest a b p others.trees item others.reads }

-- function types

typed_complete : (a : List Token) (x : TypeExpression) → TypeComplete a x → AnswerComplete a (Some x)
unfolding answer
typed_complete a x c n rest le ends = rw (named_word k.NoneWord a rest c.begins, c.reads n rest le ends) refl

none_complete : AnswerComplete (t.Keyword k.NoneWord ∷ []) None
unfolding answer
none_complete n rest le ends = rw (past_none rest) refl

-- behind the word and both brackets
function_reads : (n : ℕ) (a b : List Token) (ps : ParameterTypes) (r : Option TypeExpression) (rest : List Token) → length a ≤ n → length b ≤ n → MarkedTypesComplete a ps → AnswerComplete b r → function_behind (type_at n) (a ++ t.Symbol s.RightBracket ∷ t.Symbol s.Comma ∷ (b ++ t.Symbol s.RightBracket ∷ rest)) ≡ Some (function_type ps (result_of r), rest)
unfolding function_behind
function_reads n a b ps r rest le lb c d =
    let end = t.Symbol s.RightBracket ∷ rest in
    let after = t.Symbol s.Comma ∷ (b ++ end) in
    let inside = c n after le in
    let all = all_in_brackets (marked_type (type_at n)) after a inside.trees inside.reads in
    let answered = d n end lb (right_is_no_left rest) in
    rw (all, past_comma (b ++ end), answered, bracket_closes rest) (ap (λ (z : ParameterTypes). some (function_type z (result_of r), rest)) inside.are)

function_complete : (a b : List Token) (ps : ParameterTypes) (r : Option TypeExpression) → MarkedTypesComplete a ps → AnswerComplete b r → TypeComplete (t.Name (codes "Callable") ∷ t.Symbol s.LeftBracket ∷ t.Symbol s.LeftBracket ∷ (a ++ t.Symbol s.RightBracket ∷ t.Symbol s.Comma ∷ (b ++ t.Symbol s.RightBracket ∷ []))) (function_type ps (result_of r))
unfolding type_at type_with
function_complete a b ps r c d =
    let closing = t.Symbol s.RightBracket ∷ [] in
    let behind = t.Symbol s.RightBracket ∷ t.Symbol s.Comma ∷ (b ++ closing) in
    let lead = λ (z : List Token). t.Name (codes "Callable") ∷ t.Symbol s.LeftBracket ∷ t.Symbol s.LeftBracket ∷ z in
    record {
      begins = record { name = codes "Callable"; others = t.Symbol s.LeftBracket ∷ t.Symbol s.LeftBracket ∷ (a ++ behind); parts = refl };
      reads = λ m rest le ends.
          let first = length-append a behind in
          let second = length-append b closing in
          let turn : m ≡ suc (m - 1) = omega arith in
          let regroup : (a ++ behind) ++ rest ≡ a ++ t.Symbol s.RightBracket ∷ t.Symbol s.Comma ∷ (b ++ t.Symbol s.RightBracket ∷ rest) = append_assoc a behind rest ∙ ap (λ (z : List Token). a ++ t.Symbol s.RightBracket ∷ t.Symbol s.Comma ∷ z) (append_assoc b closing rest) in
          let inside = function_reads (m - 1) a b ps r rest (omega (arith, first, second)) (omega (arith, first, second)) c d in
          let tokens = lead ((a ++ behind) ++ rest) in
          let here : type_with (type_at (m - 1)) tokens ≡ Some (function_type ps (result_of r), rest) =
          rw (callable_is_no_tuple (t.Symbol s.LeftBracket ∷ t.Symbol s.LeftBracket ∷ ((a ++ behind) ++ rest)), this_callable ((a ++ behind) ++ rest), regroup, inside) refl in
          ap (λ (d : ℕ). type_at d tokens) turn ∙ here;
    }

mutual
  complete_type : {a : List Token} {x : TypeExpression} → SpellsType a x → TypeComplete a x
  complete_type (g.named n) = named_complete n
  complete_type (g.tuple a x xs d) = tuple_complete a x xs (complete_types d)
  complete_type (g.function a b ps r d e) = function_complete a b ps r (complete_marked_types d) (complete_answer e)

  complete_types : {a : List Token} {xs : TypeExpressions} → SpellsTypes a xs → TypesComplete a xs
  complete_types g.nothing = no_types_complete
  complete_types (g.last a x d) = last_type_complete a x (complete_type d)
  complete_types (g.going_on a b x xs d ds) = more_types_complete a b x xs (complete_type d) (complete_types ds)

  complete_marked_type : {a : List Token} {p : ParameterType} → SpellsMarkedType a p → MarkedComplete a p
  complete_marked_type (g.plain a x d) = unmarked_complete a x (complete_type d)
  complete_marked_type (g.owned a x d) = owned_complete a x (complete_type d)

  complete_marked_types : {a : List Token} {ps : ParameterTypes} → SpellsMarkedTypes a ps → MarkedTypesComplete a ps
  complete_marked_types g.no_marked = no_marked_complete
  complete_marked_types (g.last_marked a p d) = last_marked_complete a p (complete_marked_type d)
  complete_marked_types (g.more_marked a b p ps d ds) = more_marked_complete a b p ps (complete_marked_type d) (complete_marked_types ds)

  complete_answer : {a : List Token} {x : Option TypeExpression} → SpellsAnswer a x → AnswerComplete a x
  complete_answer (g.typed a x d) = typed_complete a x (complete_type d)
  complete_answer g.none = none_complete

pub type_complete : {a : List Token} {x : TypeExpression} → SpellsType a x → (rest : List Token) → past_symbol s.LeftBracket rest ≡ None → a_type (a ++ rest) ≡ Some (x, rest)
type_complete {a} d rest ends = (complete_type d).reads (suc (length (a ++ rest))) rest (omega (arith, length-append a rest)) ends

marked_type_complete : {a : List Token} {p : ParameterType} → SpellsMarkedType a p → (rest : List Token) → past_symbol s.LeftBracket rest ≡ None → past_symbol s.At rest ≡ None → a_marked_type (a ++ rest) ≡ Some (p, rest)
marked_type_complete {a} d rest ends unmark = (complete_marked_type d).reads (suc (length (a ++ rest))) rest (omega (arith, length-append a rest)) ends unmark

answer_complete : {a : List Token} {x : Option TypeExpression} → SpellsAnswer a x → (rest : List Token) → past_symbol s.LeftBracket rest ≡ None → an_answer (a ++ rest) ≡ Some (x, rest)
answer_complete {a} d rest ends = complete_answer d (suc (length (a ++ rest))) rest (omega (arith, length-append a rest)) ends

-- ---- single tokens

line_ends : nothing [] ≡ Some []
unfolding past_end
line_ends = refl

paren_closes : (rest : List Token) → past_end until.Paren (t.Symbol s.RightParen ∷ rest) ≡ Some rest
unfolding past_end past_symbol
paren_closes rest = refl

-- symbols other than this one
comma_no_dot : (rest : List Token) → past_symbol s.Dot (t.Symbol s.Comma ∷ rest) ≡ None
unfolding past_symbol
comma_no_dot rest = refl

end_no_dot : past_symbol s.Dot [] ≡ None
unfolding past_symbol
end_no_dot = refl

paren_no_dot : (rest : List Token) → past_symbol s.Dot (t.Symbol s.RightParen ∷ rest) ≡ None
unfolding past_symbol
paren_no_dot rest = refl

-- ---- parameters

param_complete : {a : List Token} {p : Parameter} → SpellsParam a p → (rest : List Token) → past_symbol s.LeftBracket rest ≡ None → past_symbol s.At rest ≡ None → param (a ++ rest) ≡ Some (p, rest)
unfolding param past_name past_symbol
param_complete (g.param n a p d) rest ends unmark = rw (marked_type_complete d rest ends unmark) refl

param_named : {a : List Token} {p : Parameter} → SpellsParam a p → Named a
param_named (g.param n a p d) = record { name = n; others = t.Symbol s.Colon ∷ a; parts = refl }

-- a name is not the end
named_goes_on : (to : ListEnd) (a rest : List Token) → Named a → past_end to (a ++ rest) ≡ None
unfolding past_end
named_goes_on until.Paren a rest h = named_symbol s.RightParen a rest h
named_goes_on until.Line a rest h = named_something a rest h

paren_no_bracket : (rest : List Token) → past_symbol s.LeftBracket (t.Symbol s.RightParen ∷ rest) ≡ None
unfolding past_symbol
paren_no_bracket rest = refl

paren_no_mark : (rest : List Token) → past_symbol s.At (t.Symbol s.RightParen ∷ rest) ≡ None
unfolding past_symbol
paren_no_mark rest = refl

param_item : (rest a : List Token) (p : Parameter) → SpellsParam a p → ItemReads param (past_end until.Paren) (t.Symbol s.RightParen ∷ rest) a p
param_item rest a p d = record {
  at_end = param_complete d (t.Symbol s.RightParen ∷ rest) (paren_no_bracket rest) (paren_no_mark rest);
  at_comma = λ b. param_complete d (t.Symbol s.Comma ∷ b) (comma_is_no_left b) (comma_is_no_mark b);
  opens_end = named_goes_on until.Paren a (t.Symbol s.RightParen ∷ rest) (param_named d);
  opens_comma = λ b. named_goes_on until.Paren a (t.Symbol s.Comma ∷ b) (param_named d);
}

params_complete : {a : List Token} {ps : List Parameter} → Listed SpellsParam a ps → (rest : List Token) → listed param (past_end until.Paren) (a ++ t.Symbol s.RightParen ∷ rest) ≡ Some (ps, rest)
params_complete {a} {ps} d rest =
    let end = t.Symbol s.RightParen ∷ rest in
    all_reads param (past_end until.Paren) end rest (paren_closes rest) (comma_goes_on until.Paren) a ps (listed_reads param (past_end until.Paren) end rest (paren_closes rest) (comma_goes_on until.Paren) SpellsParam (param_item rest) d)

-- ---- targets

place_named : {a : List Token} {p : Place} → SpellsPlace a p → Named a
place_named (x.path n a fields d) = record { name = n; others = a; parts = refl }

place_begins : {a : List Token} {p : Place} → SpellsPlace a p → Begins a 8
place_begins (x.path n a fields d) = record { token = t.Name n; others = a; parts = refl; within = omega arith }

place_all : {a : List Token} {p : Place} → SpellsPlace a p → place_front a ≡ Some (p, [])
place_all {a} d = ap place_front (sym (append-nil a)) ∙ place_front_complete d [] end_no_dot

module _ (to : ListEnd) (end rest : List Token) (closes : past_end to end ≡ Some rest) (ends : past_symbol s.Dot end ≡ None) where
  place_item : (a : List Token) (p : Place) → SpellsPlace a p → ItemReads place_front (past_end to) end a p
  place_item a p d = record {
    at_end = place_front_complete d end ends;
    at_comma = λ b. place_front_complete d (t.Symbol s.Comma ∷ b) (comma_no_dot b);
    opens_end = named_goes_on to a end (place_named d);
    opens_comma = λ b. named_goes_on to a (t.Symbol s.Comma ∷ b) (place_named d);
  }

  places_complete : {a : List Token} {ps : List Place} → Listed SpellsPlace a ps → listed place_front (past_end to) (a ++ end) ≡ Some (ps, rest)
  places_complete {a} {ps} d = all_reads place_front (past_end to) end rest closes (comma_goes_on to) a ps (listed_reads place_front (past_end to) end rest closes (comma_goes_on to) SpellsPlace place_item d)

places_all : {a : List Token} {ps : List Place} → Listed SpellsPlace a ps → listed place_front nothing a ≡ Some (ps, [])
places_all {a} d = ap (listed place_front nothing) (sym (append-nil a)) ∙ places_complete until.Line [] [] line_ends end_no_dot d

no_paren : (a rest : List Token) → Named a → past_symbol s.LeftParen (a ++ rest) ≡ None
no_paren a rest h = named_symbol s.LeftParen a rest h

outside_one : {a : List Token} {p : Place} → SpellsPlace a p → pattern_outside a ≡ Some (to.One p)
unfolding pattern_outside
outside_one d = rw (place_all d, line_ends) refl

outside_places : {a : List Token} {ps : List Place} → SpellsPlaces a ps → pattern_outside a ≡ Some (to.Pattern ps)
unfolding pattern_outside
outside_places (g.places a b p ps d ds) = rw (place_front_complete d (t.Symbol s.Comma ∷ b) (comma_no_dot b), comma_goes_on until.Line b, past_comma b, places_all ds) refl

inside_places : {a : List Token} {ps : List Place} → SpellsPlaces a ps → pattern_inside (a ++ t.Symbol s.RightParen ∷ []) ≡ Some (to.Pattern ps)
unfolding pattern_inside
inside_places (g.places a b p ps d ds) =
    let end = t.Symbol s.RightParen ∷ [] in
    ap pattern_inside (append_assoc a (t.Symbol s.Comma ∷ b) end)
    ∙ rw (place_front_complete d (t.Symbol s.Comma ∷ (b ++ end)) (comma_no_dot (b ++ end)), past_comma (b ++ end), places_complete until.Paren end [] (paren_closes []) (paren_no_dot []) ds, line_ends) refl

places_named : {a : List Token} {ps : List Place} → SpellsPlaces a ps → Named a
places_named (g.places a b p ps d ds) = let h = place_named d in record { name = h.name; others = h.others ++ t.Symbol s.Comma ∷ b; parts = ap (λ (z : List Token). z ++ t.Symbol s.Comma ∷ b) h.parts }

no_paren_first : (a : List Token) → Named a → past_symbol s.LeftParen a ≡ None
no_paren_first a h = ap (past_symbol s.LeftParen) (sym (append-nil a)) ∙ no_paren a [] h

past_paren : (rest : List Token) → past_symbol s.LeftParen (t.Symbol s.LeftParen ∷ rest) ≡ Some rest
unfolding past_symbol
past_paren rest = refl

targets_complete : {a : List Token} {v : Targets} → SpellsTargets a v → targets a ≡ Some v
unfolding targets
targets_complete (g.one a p d) = rw (no_paren_first a (place_named d)) (outside_one d)
targets_complete (g.pattern a ps d) = rw (no_paren_first a (places_named d)) (outside_places d)
targets_complete (g.grouped a ps d) = rw (past_paren (a ++ t.Symbol s.RightParen ∷ [])) (inside_places d)

listed_plain : {a : List Token} {ps : List Place} → Listed SpellsPlace a ps → are_plain a ≡ true
listed_plain g.nothing = refl
listed_plain (g.last a p d) = place_plain d
listed_plain (g.going_on a b p ps d ds) = with_token a b (t.Symbol s.Comma) (place_plain d) refl (listed_plain ds)

places_plain : {a : List Token} {ps : List Place} → SpellsPlaces a ps → are_plain a ≡ true
places_plain (g.places a b p ps d ds) = with_token a b (t.Symbol s.Comma) (place_plain d) refl (listed_plain ds)

targets_plain : {a : List Token} {v : Targets} → SpellsTargets a v → are_plain a ≡ true
targets_plain (g.one a p d) = place_plain d
targets_plain (g.pattern a ps d) = places_plain d
targets_plain (g.grouped a ps d) = both_plain a (t.Symbol s.RightParen ∷ []) (places_plain d) refl

named_begins : (a : List Token) → Named a → Begins a 8
named_begins a h = record { token = t.Name h.name; others = h.others; parts = h.parts; within = omega arith }

targets_begin : {a : List Token} {v : Targets} → SpellsTargets a v → Begins a 8
targets_begin (g.one a p d) = place_begins d
targets_begin (g.pattern a ps d) = named_begins a (places_named d)
targets_begin (g.grouped a ps d) = record { token = t.Symbol s.LeftParen; others = a ++ t.Symbol s.RightParen ∷ []; parts = refl; within = omega arith }

-- ---- what assigns, and where nothing does

plain_parts : (c d : Bool) → cond c d false ≡ true → (c ≡ true) × (d ≡ true)
plain_parts true d h = (refl, h)
plain_parts false d h = absurd cc

plain_assigns : (z : Token) → is_plain z ≡ true → assigning z ≡ None
plain_assigns (t.Symbol s.Assign) h = absurd cc
plain_assigns (t.Symbol s.PlusAssign) h = absurd cc
plain_assigns (t.Symbol s.MinusAssign) h = absurd cc
plain_assigns (t.Symbol s.StarAssign) h = absurd cc
plain_assigns (t.Symbol s.FloorDivAssign) h = absurd cc
plain_assigns (t.Symbol s.PercentAssign) h = absurd cc
plain_assigns (t.Symbol _) h = refl
plain_assigns (t.Name n) h = refl
plain_assigns (t.Keyword n) h = refl
plain_assigns (t.Number n) h = refl
plain_assigns (t.Text n) h = refl

split_at : (a b : List Token) (x : Symbol) (y : Assigning) → are_plain a ≡ true → assigning_symbol x ≡ Some y → split (a ++ t.Symbol x ∷ b) ≡ Some (a, y, b)
unfolding split
split_at [] b x y h e = rw e refl
split_at (z ∷ a) b x y h e =
    let p = plain_parts (is_plain z) (are_plain a) h in
    rw (plain_assigns z p.0, split_at a b x y p.1 e) refl

split_none : (a : List Token) → are_plain a ≡ true → split a ≡ None
unfolding split
split_none [] h = refl
split_none (z ∷ a) h =
    let p = plain_parts (is_plain z) (are_plain a) h in
    rw (plain_assigns z p.0, split_none a p.1) refl

no_colon : (z : Token) (ts : List Token) → is_plain z ≡ true → past_symbol s.Colon (z ∷ ts) ≡ None
unfolding past_symbol
no_colon (t.Symbol s.Colon) ts h = absurd cc
no_colon (t.Symbol _) ts h = refl
no_colon (t.Name n) ts h = refl
no_colon (t.Keyword n) ts h = refl
no_colon (t.Number n) ts h = refl
no_colon (t.Text n) ts h = refl

undeclared : (z : Token) (ts : List Token) → past_symbol s.Colon ts ≡ None → past_declared (z ∷ ts) ≡ None
unfolding past_declared past_name
undeclared (t.Name n) ts h = rw h refl
undeclared (t.Symbol n) ts h = refl
undeclared (t.Keyword n) ts h = refl
undeclared (t.Number n) ts h = refl
undeclared (t.Text n) ts h = refl

none_declared : past_declared [] ≡ None
unfolding past_declared past_name
none_declared = refl

end_no_colon : past_symbol s.Colon [] ≡ None
unfolding past_symbol
end_no_colon = refl

plain_undeclared : (a : List Token) → are_plain a ≡ true → past_declared a ≡ None
plain_undeclared [] h = none_declared
plain_undeclared (z ∷ []) h = undeclared z [] end_no_colon
plain_undeclared (z ∷ w ∷ a) h =
    let p = plain_parts (is_plain z) (are_plain (w ∷ a)) h in
    undeclared z (w ∷ a) (no_colon w a (plain_parts (is_plain w) (are_plain a) p.1).0)

symbol_undeclared : (x : Symbol) (b : List Token) → past_declared (t.Symbol x ∷ b) ≡ None
unfolding past_declared past_name
symbol_undeclared x b = refl

split_undeclared : (a b : List Token) (x : Symbol) → are_plain a ≡ true → past_symbol s.Colon (t.Symbol x ∷ b) ≡ None → past_declared (a ++ t.Symbol x ∷ b) ≡ None
split_undeclared [] b x h e = symbol_undeclared x b
split_undeclared (z ∷ []) b x h e = undeclared z (t.Symbol x ∷ b) e
split_undeclared (z ∷ w ∷ a) b x h e =
    let p = plain_parts (is_plain z) (are_plain (w ∷ a)) h in
    undeclared z (w ∷ (a ++ t.Symbol x ∷ b)) (no_colon w (a ++ t.Symbol x ∷ b) (plain_parts (is_plain w) (are_plain a) p.1).0)

assigning_no_colon : (x : Symbol) (y : Assigning) (b : List Token) → assigning_symbol x ≡ Some y → past_symbol s.Colon (t.Symbol x ∷ b) ≡ None
unfolding past_symbol
assigning_no_colon s.Colon y b h = absurd cc
assigning_no_colon _ y b h = refl

augments : (x : Symbol) (o : BinOp) → augmenting x ≡ Some o → assigning_symbol x ≡ Some (By o)
augments s.PlusAssign o h = cc
augments s.MinusAssign o h = cc
augments s.StarAssign o h = cc
augments s.FloorDivAssign o h = cc
augments s.PercentAssign o h = cc
augments _ o h = absurd cc

-- ---- simple forms

-- nothing else than an expression

call_parts : {a : List Token} {n : List ℕ} → SpellsForm a (f.module_call n) → (w : List ℕ) × (a ≡ t.Name n ∷ t.Symbol s.Dot ∷ t.Name w ∷ t.Symbol s.LeftParen ∷ t.Symbol s.RightParen ∷ [])
call_parts (g.simple a v d) = elim d [ ]
call_parts (g.compile_call n) = (codes "compile", refl)
call_parts (g.check_call n) = (codes "check", refl)

call_is_no_expression : (n w : List ℕ) → all_expressions (t.Name n ∷ t.Symbol s.Dot ∷ t.Name w ∷ t.Symbol s.LeftParen ∷ t.Symbol s.RightParen ∷ []) ≡ None
unfolding all_expressions expressions past_end read whole chain chain_from past_join comparison inversion factor atom named path_from fields_from past_symbol past_name past_word
call_is_no_expression n w = refl

no_call_with : {a : List Token} {v : Expression} → SpellsExpressions a v → (o : Option (List ℕ)) → module_call a ≡ o → o ≡ None
no_call_with {a} {v} d None h = refl
no_call_with {a} {v} d (Some n) h =
    let c = call_parts (module_call_sound a n h) in
    let none : all_expressions a ≡ None = ap all_expressions c.1 ∙ call_is_no_expression n c.0 in
    let some : all_expressions a ≡ Some v = all_expressions_complete a v d in
    absurd cc

no_call : {a : List Token} {v : Expression} → SpellsExpressions a v → module_call a ≡ None
no_call {a} d = no_call_with d (module_call a) refl

no_docstring_with : (a : List Token) → ((text : List ℕ) → a ≡ t.Text text ∷ [] → ⊥) → (o : Option (List Token)) → docstring a ≡ o → o ≡ None
no_docstring_with a other None h = refl
no_docstring_with a other (Some rest) h = let p = docstring_is a rest h in absurd (other p.0 p.1)

no_docstring : (a : List Token) → ((text : List ℕ) → a ≡ t.Text text ∷ [] → ⊥) → docstring a ≡ None
no_docstring a other = no_docstring_with a other (docstring a) refl

expressions_begin : {a : List Token} {v : Expression} → SpellsExpressions a v → Begins a 8
expressions_begin (x.single a v d) = expression_begins d
expressions_begin (x.several a vs (x.parts b c v ws d ds)) = begins_longer b (t.Symbol s.Comma ∷ c) 8 (expression_begins d)

-- a statement that no word leads
unled_first : (y : Token) (ts : List Token) → opening y ≤ 8 → statement (y ∷ ts) ≡ unled (y ∷ ts)
unfolding statement past_word
unled_first (t.Keyword k.TrueWord) ts h = refl
unled_first (t.Keyword k.FalseWord) ts h = refl
unled_first (t.Keyword k.NotWord) ts h = refl
unled_first (t.Keyword _) ts h = absurd (omega arith)
unled_first (t.Symbol y) ts h = refl
unled_first (t.Name n) ts h = refl
unled_first (t.Number n) ts h = refl
unled_first (t.Text n) ts h = refl

statement_first : (y : Token) (ts : List Token) → opening y ≤ 8 → line (y ∷ ts) ≡ statement (y ∷ ts)
unfolding line first_word past_symbol
statement_first (t.Keyword k.TrueWord) ts h = refl
statement_first (t.Keyword k.FalseWord) ts h = refl
statement_first (t.Keyword k.NotWord) ts h = refl
statement_first (t.Keyword _) ts h = absurd (omega arith)
statement_first (t.Symbol s.LeftParen) ts h = refl
statement_first (t.Symbol s.Minus) ts h = refl
statement_first (t.Symbol _) ts h = absurd (omega arith)
statement_first (t.Name n) ts h = refl
statement_first (t.Number n) ts h = refl
statement_first (t.Text n) ts h = refl

record SimpleComplete (a : List Token) (v : Form) : Type 0 where
  some_token : nothing a ≡ None
  reads : statement a ≡ Some v
  leads : line a ≡ statement a
  only : only_simple v ≡ Some v

unled_leads : (a : List Token) → Begins a 8 → line a ≡ statement a
unled_leads a b = ap line b.parts ∙ statement_first b.token b.others b.within ∙ ap statement (sym b.parts)

unled_statement : (a : List Token) → Begins a 8 → statement a ≡ unled a
unled_statement a b = ap statement b.parts ∙ unled_first b.token b.others b.within ∙ ap unled (sym b.parts)

some_first : (y : Token) (ts : List Token) → nothing (y ∷ ts) ≡ None
unfolding past_end
some_first y ts = refl

begins_some : (a : List Token) → Begins a 8 → nothing a ≡ None
begins_some a b = ap nothing b.parts ∙ some_first b.token b.others

as_unled : (a : List Token) (v : Form) → Begins a 8 → unled a ≡ Some v → only_simple v ≡ Some v → SimpleComplete a v
as_unled a v b h only = record { some_token = begins_some a b; reads = unled_statement a b ∙ h; leads = unled_leads a b; only = only }

docstring_complete : (text : List ℕ) → unled (t.Text text ∷ []) ≡ Some f.docstring
unfolding unled past_declared past_name split evaluated module_call docstring past_string past_end
docstring_complete text = refl

assignment_complete : (a b : List Token) (v : Targets) (e : Expression) → SpellsTargets a v → SpellsExpressions b e → unled (a ++ t.Symbol s.Assign ∷ b) ≡ Some (f.assign v e)
unfolding unled assigned
assignment_complete a b v e d ds =
    let plain = targets_plain d in
    rw (split_undeclared a b s.Assign plain (assigning_no_colon s.Assign Plain b refl), split_at a b s.Assign Plain plain refl, targets_complete d, all_expressions_complete b e ds) refl

augmented_complete : (a b : List Token) (y : Symbol) (p : Place) (o : BinOp) (e : Expression) → SpellsPlace a p → augmenting y ≡ Some o → Spells Whole b e → unled (a ++ t.Symbol y ∷ b) ≡ Some (f.augmented p o e)
unfolding unled assigned
augmented_complete a b y p o e d h ds =
    let plain = place_plain d in
    let value : expression_front b ≡ Some (e, []) = ap expression_front (sym (append-nil b)) ∙ expression_front_complete b e [] ds refl in
    rw (split_undeclared a b y plain (assigning_no_colon y (By o) b (augments y o h)), split_at a b y (By o) plain (augments y o h), place_all d, line_ends, value, line_ends) refl

this_declared : (n : List ℕ) (ts : List Token) → past_declared (t.Name n ∷ t.Symbol s.Colon ∷ ts) ≡ Some (n, ts)
unfolding past_declared past_name past_symbol
this_declared n ts = refl

past_assign : (rest : List Token) → past_symbol s.Assign (t.Symbol s.Assign ∷ rest) ≡ Some rest
unfolding past_symbol
past_assign rest = refl

assign_no_bracket : (rest : List Token) → past_symbol s.LeftBracket (t.Symbol s.Assign ∷ rest) ≡ None
unfolding past_symbol
assign_no_bracket rest = refl

end_no_bracket : past_symbol s.LeftBracket [] ≡ None
unfolding past_symbol
end_no_bracket = refl

type_all : {a : List Token} {ty : TypeExpression} → SpellsType a ty → a_type a ≡ Some (ty, [])
type_all {a} d = ap a_type (sym (append-nil a)) ∙ type_complete d [] end_no_bracket

annotated_complete : (n : List ℕ) (a b : List Token) (ty : TypeExpression) (e : Expression) → SpellsType a ty → SpellsExpressions b e → unled (t.Name n ∷ t.Symbol s.Colon ∷ (a ++ t.Symbol s.Assign ∷ b)) ≡ Some (f.annotated n ty e)
unfolding unled declaration
annotated_complete n a b ty e d ds =
    rw (this_declared n (a ++ t.Symbol s.Assign ∷ b), type_complete d (t.Symbol s.Assign ∷ b) (assign_no_bracket b), some_first (t.Symbol s.Assign) b, past_assign b, all_expressions_complete b e ds) refl

field_complete : (n : List ℕ) (a : List Token) (ty : TypeExpression) → SpellsType a ty → unled (t.Name n ∷ t.Symbol s.Colon ∷ a) ≡ Some (f.field n ty)
unfolding unled declaration
field_complete n a ty d = rw (this_declared n a, type_all d, line_ends) refl

expression_complete : (a : List Token) (e : Expression) → SpellsExpressions a e → ((text : List ℕ) → a ≡ t.Text text ∷ [] → ⊥) → unled a ≡ Some (f.evaluate e)
unfolding unled evaluated
expression_complete a e d other =
    let plain = expressions_plain d in
    rw (plain_undeclared a plain, split_none a plain, no_call d, no_docstring a other, all_expressions_complete a e d) refl

-- behind `return`
returned_nothing : returned [] ≡ Some (f.return_value None)
unfolding returned past_end
returned_nothing = refl

returned_none : returned (t.Keyword k.NoneWord ∷ []) ≡ Some (f.return_value None)
unfolding returned past_end past_word
returned_none = refl

returned_value : (a : List Token) (e : Expression) → SpellsExpressions a e → returned a ≡ Some (f.return_value (Some e))
unfolding returned
returned_value a e d =
    let b = expressions_begin d in
    let no_none : past_word k.NoneWord a ≡ None = ap (past_word k.NoneWord) (sym (append-nil a)) ∙ not_word k.NoneWord a [] 8 b (omega arith) in
    rw (begins_some a b, no_none, all_expressions_complete a e d) refl

return_leads : (ts : List Token) → line (t.Keyword k.ReturnWord ∷ ts) ≡ statement (t.Keyword k.ReturnWord ∷ ts)
unfolding line first_word
return_leads ts = refl

return_statement : (ts : List Token) → statement (t.Keyword k.ReturnWord ∷ ts) ≡ returned ts
unfolding statement past_word
return_statement ts = refl

as_returned : (a : List Token) (v : Option Expression) → returned a ≡ Some (f.return_value v) → SimpleComplete (t.Keyword k.ReturnWord ∷ a) (f.return_value v)
as_returned a v h = record { some_token = some_first (t.Keyword k.ReturnWord) a; reads = return_statement a ∙ h; leads = return_leads a; only = refl }

break_complete : SimpleComplete (t.Keyword k.BreakWord ∷ []) f.break_loop
unfolding line first_word statement past_word past_end
break_complete = record { some_token = refl; reads = refl; leads = refl; only = refl }

continue_complete : SimpleComplete (t.Keyword k.ContinueWord ∷ []) f.continue_loop
unfolding line first_word statement past_word past_end
continue_complete = record { some_token = refl; reads = refl; leads = refl; only = refl }

pass_complete : SimpleComplete (t.Keyword k.PassWord ∷ []) f.pass
unfolding line first_word statement past_word past_end
pass_complete = record { some_token = refl; reads = refl; leads = refl; only = refl }

simple_complete : {a : List Token} {v : Form} → SpellsSimple a v → SimpleComplete a v
simple_complete (g.docstring text) = as_unled (t.Text text ∷ []) f.docstring (record { token = t.Text text; others = []; parts = refl; within = omega arith }) (docstring_complete text) refl
simple_complete (g.assignment a b v e d ds) = as_unled (a ++ t.Symbol s.Assign ∷ b) (f.assign v e) (begins_longer a (t.Symbol s.Assign ∷ b) 8 (targets_begin d)) (assignment_complete a b v e d ds) refl
simple_complete (g.annotated n a b ty e d ds) = as_unled (t.Name n ∷ t.Symbol s.Colon ∷ (a ++ t.Symbol s.Assign ∷ b)) (f.annotated n ty e) (record { token = t.Name n; others = t.Symbol s.Colon ∷ (a ++ t.Symbol s.Assign ∷ b); parts = refl; within = omega arith }) (annotated_complete n a b ty e d ds) refl
simple_complete (g.augmented a b y p o e d h ds) = as_unled (a ++ t.Symbol y ∷ b) (f.augmented p o e) (begins_longer a (t.Symbol y ∷ b) 8 (place_begins d)) (augmented_complete a b y p o e d h ds) refl
simple_complete (g.expression a e d other) = as_unled a (f.evaluate e) (expressions_begin d) (expression_complete a e d other) refl
simple_complete g.return_nothing = as_returned [] None returned_nothing
simple_complete g.return_none = as_returned (t.Keyword k.NoneWord ∷ []) None returned_none
simple_complete (g.return_value a e d) = as_returned a (Some e) (returned_value a e d)
simple_complete g.break_loop = break_complete
simple_complete g.continue_loop = continue_complete
simple_complete g.pass = pass_complete

simple_reads : {a : List Token} {v : Form} → SpellsSimple a v → simple a ≡ Some v
unfolding simple
simple_reads d = let c = simple_complete d in rw c.reads c.only

-- ---- headers

past_colon : (rest : List Token) → past_symbol s.Colon (t.Symbol s.Colon ∷ rest) ≡ Some rest
unfolding past_symbol
past_colon rest = refl

body_complete : {b : List Token} {y : MaybeForm} → SpellsBody b y → body (t.Symbol s.Colon ∷ b) ≡ Some y
unfolding body
body_complete g.block = rw (past_colon [], line_ends) refl
body_complete (g.simple a v d) = rw (past_colon a, (simple_complete d).some_token, simple_reads d) refl

colon_no_bracket : (rest : List Token) → past_symbol s.LeftBracket (t.Symbol s.Colon ∷ rest) ≡ None
unfolding past_symbol
colon_no_bracket rest = refl

colon_no_arrow : (rest : List Token) → past_symbol s.Arrow (t.Symbol s.Colon ∷ rest) ≡ None
unfolding past_symbol
colon_no_arrow rest = refl

past_arrow : (rest : List Token) → past_symbol s.Arrow (t.Symbol s.Arrow ∷ rest) ≡ Some rest
unfolding past_symbol
past_arrow rest = refl

result_complete : {b : List Token} {ty : Option TypeExpression} → SpellsResult b ty → (c : List Token) → result_type (b ++ t.Symbol s.Colon ∷ c) ≡ Some (ty, t.Symbol s.Colon ∷ c)
unfolding result_type
result_complete g.missing c = rw (colon_no_arrow c) refl
result_complete (g.given a ty d) c = rw (past_arrow (a ++ t.Symbol s.Colon ∷ c)) (answer_complete d (t.Symbol s.Colon ∷ c) (colon_no_bracket c))

def_complete : (n : List ℕ) (a b c : List Token) (ps : List Parameter) (ty : Option TypeExpression) (y : MaybeForm) → Listed SpellsParam a ps → SpellsResult b ty → SpellsBody c y → def_header (t.Name n ∷ t.Symbol s.LeftParen ∷ (a ++ t.Symbol s.RightParen ∷ (b ++ t.Symbol s.Colon ∷ c))) ≡ Some (f.def_header n ps ty y)
unfolding def_header past_name
def_complete n a b c ps ty y d r h =
    rw (past_paren (a ++ t.Symbol s.RightParen ∷ (b ++ t.Symbol s.Colon ∷ c)), params_complete d (b ++ t.Symbol s.Colon ∷ c), result_complete r c, body_complete h) refl

tested_complete : (make : Expression → MaybeForm → Form) (a b : List Token) (e : Expression) (y : MaybeForm) → Spells Whole a e → SpellsBody b y → tested make (a ++ t.Symbol s.Colon ∷ b) ≡ Some (make e y)
tested_complete make a b e y d h = rw (expression_front_complete a e (t.Symbol s.Colon ∷ b) d refl, body_complete h) refl

else_complete : (b : List Token) (y : MaybeForm) → SpellsBody b y → else_header (t.Symbol s.Colon ∷ b) ≡ Some (f.else_header y)
unfolding else_header
else_complete b y h = rw (body_complete h) refl

this_range : (rest : List Token) → past_range (t.Keyword k.InWord ∷ t.Name (codes "range") ∷ t.Symbol s.LeftParen ∷ rest) ≡ Some rest
unfolding past_range past_word
this_range rest = rw (this_text (codes "range") (t.Symbol s.LeftParen ∷ rest)) (past_paren rest)

-- what stands behind the count of a loop
count_ends : {b : List Token} → IsMaybeComma b → (rest : List Token) → first_binds (b ++ t.Symbol s.RightParen ∷ rest) ≡ 0
count_ends g.absent rest = refl
count_ends g.present rest = refl

skipped : {b : List Token} → IsMaybeComma b → (rest : List Token) → maybe_comma (b ++ t.Symbol s.RightParen ∷ rest) ≡ t.Symbol s.RightParen ∷ rest
unfolding maybe_comma past_symbol
skipped g.absent rest = refl
skipped g.present rest = refl

past_right : (rest : List Token) → past_symbol s.RightParen (t.Symbol s.RightParen ∷ rest) ≡ Some rest
unfolding past_symbol
past_right rest = refl

for_complete : (n : List ℕ) (a b c : List Token) (e : Expression) (y : MaybeForm) → Spells Whole a e → IsMaybeComma b → SpellsBody c y → for_header (t.Name n ∷ t.Keyword k.InWord ∷ t.Name (codes "range") ∷ t.Symbol s.LeftParen ∷ (a ++ (b ++ t.Symbol s.RightParen ∷ t.Symbol s.Colon ∷ c))) ≡ Some (f.for_header n e y)
unfolding for_header past_name
for_complete n a b c e y d m h =
    let end = t.Symbol s.Colon ∷ c in
    let behind = b ++ t.Symbol s.RightParen ∷ end in
    rw (this_range (a ++ behind), expression_front_complete a e behind d (count_ends m end), skipped m end, past_right end, body_complete h) refl

class_complete : (n : List ℕ) → class_header (t.Name n ∷ t.Symbol s.Colon ∷ []) ≡ Some (f.class_header n)
unfolding class_header past_name past_symbol past_end
class_complete n = refl

guppy_complete : decorator (t.Name (codes "guppy") ∷ []) ≡ Some f.function_decorator
unfolding decorator
guppy_complete = rw (this_text (codes "guppy") [], line_ends) refl

past_dot : (rest : List Token) → past_symbol s.Dot (t.Symbol s.Dot ∷ rest) ≡ Some rest
unfolding past_symbol
past_dot rest = refl

struct_complete : decorator (t.Name (codes "guppy") ∷ t.Symbol s.Dot ∷ t.Name (codes "struct") ∷ []) ≡ Some f.struct_decorator
unfolding decorator
struct_complete =
    let dot = t.Symbol s.Dot ∷ t.Name (codes "struct") ∷ [] in
    rw (this_text (codes "guppy") dot, some_first (t.Symbol s.Dot) (t.Name (codes "struct") ∷ []), past_dot (t.Name (codes "struct") ∷ []), this_text (codes "struct") [], line_ends) refl

names_complete : {a : List Token} {ns : List (List ℕ)} → SpellsNames a ns → (m : ℕ) → length a ≤ m → names_from m a ≡ Some ns
unfolding names_from past_name
names_complete (g.one n) m le =
    let turn : m ≡ suc (m - 1) = omega arith in
    ap (λ (d : ℕ). names_from d (t.Name n ∷ [])) turn ∙ rw line_ends refl
names_complete (g.going_on n a ns d) m le =
    let turn : m ≡ suc (m - 1) = omega arith in
    let here : names_from (suc (m - 1)) (t.Name n ∷ t.Symbol s.Comma ∷ a) ≡ Some (n ∷ ns) =
    rw (some_first (t.Symbol s.Comma) a, past_comma a, names_complete d (m - 1) (omega arith)) refl in
    ap (λ (d : ℕ). names_from d (t.Name n ∷ t.Symbol s.Comma ∷ a)) turn ∙ here

names_named : {a : List Token} {ns : List (List ℕ)} → SpellsNames a ns → Named a
names_named (g.one n) = record { name = n; others = []; parts = refl }
names_named (g.going_on n a ns d) = record { name = n; others = t.Symbol s.Comma ∷ a; parts = refl }

name_reads : (n : List ℕ) (rest : List Token) → past_name (t.Name n ∷ rest) ≡ Some (n, rest)
unfolding past_name
name_reads n rest = refl

name_item : (rest a : List Token) (n : List ℕ) → SpellsName a n → ItemReads past_name (past_end until.Paren) (t.Symbol s.RightParen ∷ rest) a n
name_item rest a n (g.name m) = record {
  at_end = name_reads m (t.Symbol s.RightParen ∷ rest);
  at_comma = λ b. name_reads m (t.Symbol s.Comma ∷ b);
  opens_end = named_goes_on until.Paren (t.Name m ∷ []) (t.Symbol s.RightParen ∷ rest) (record { name = m; others = []; parts = refl });
  opens_comma = λ b. named_goes_on until.Paren (t.Name m ∷ []) (t.Symbol s.Comma ∷ b) (record { name = m; others = []; parts = refl });
}

imported_complete : {a : List Token} {ns : List (List ℕ)} → SpellsImported a ns → imported a ≡ Some ns
unfolding imported
imported_complete (g.bare a ns d) = rw (no_paren_first a (names_named d)) (names_complete d (length a) (omega arith))
imported_complete (g.grouped a n ns d) =
    let end = t.Symbol s.RightParen ∷ [] in
    let all = all_reads past_name (past_end until.Paren) end [] (paren_closes []) (comma_goes_on until.Paren) a (n ∷ ns) (listed_reads past_name (past_end until.Paren) end [] (paren_closes []) (comma_goes_on until.Paren) SpellsName (name_item []) d) in
    rw (past_paren (a ++ end), all, line_ends) refl

import_no_dot : (rest : List Token) → past_symbol s.Dot (t.Keyword k.ImportWord ∷ rest) ≡ None
unfolding past_symbol
import_no_dot rest = refl

past_import : (rest : List Token) → past_word k.ImportWord (t.Keyword k.ImportWord ∷ rest) ≡ Some rest
unfolding past_word
past_import rest = refl

import_complete : (a b : List Token) (p : Place) (ns : List (List ℕ)) → SpellsPlace a p → SpellsImported b ns → import_names (a ++ t.Keyword k.ImportWord ∷ b) ≡ Some (f.import_names (dotted p) ns)
unfolding import_names
import_complete a b p ns d h = rw (place_front_complete d (t.Keyword k.ImportWord ∷ b) (import_no_dot b), past_import b, imported_complete h) refl

-- ---- lines

led_line : (w : Keyword) (ts : List Token) → line (t.Keyword w ∷ ts) ≡ led w ts (statement (t.Keyword w ∷ ts))
unfolding line first_word
led_line w ts = refl

decorated_line : (ts : List Token) → line (t.Symbol s.At ∷ ts) ≡ decorator ts
unfolding line first_word past_symbol
decorated_line ts = refl

name_begins : (n : List ℕ) (ts : List Token) → Begins (t.Name n ∷ ts) 8
name_begins n ts = record { token = t.Name n; others = ts; parts = refl; within = omega arith }

unled_line : (a : List Token) (v : Form) → Begins a 8 → unled a ≡ Some v → line a ≡ Some v
unled_line a v b h = unled_leads a b ∙ unled_statement a b ∙ h

compile_complete : (n : List ℕ) → unled (t.Name n ∷ t.Symbol s.Dot ∷ t.Name (codes "compile") ∷ t.Symbol s.LeftParen ∷ t.Symbol s.RightParen ∷ []) ≡ Some (f.module_call n)
unfolding unled past_declared past_name past_symbol split evaluated module_call past_request past_soft_word past_end
compile_complete n = refl

check_complete : (n : List ℕ) → unled (t.Name n ∷ t.Symbol s.Dot ∷ t.Name (codes "check") ∷ t.Symbol s.LeftParen ∷ t.Symbol s.RightParen ∷ []) ≡ Some (f.module_call n)
unfolding unled past_declared past_name past_symbol split evaluated module_call past_request past_soft_word past_end
check_complete n = refl

-- the form that tokens spell is what they are read as
pub line_complete : {ts : List Token} {v : Form} → SpellsForm ts v → line ts ≡ Some v
line_complete (g.simple a v d) = let c = simple_complete d in c.leads ∙ c.reads
line_complete (g.def_header n a b c ps ty y d r h) = led_line k.DefWord (t.Name n ∷ t.Symbol s.LeftParen ∷ (a ++ t.Symbol s.RightParen ∷ (b ++ t.Symbol s.Colon ∷ c))) ∙ def_complete n a b c ps ty y d r h
line_complete (g.class_header n) = led_line k.ClassWord (t.Name n ∷ t.Symbol s.Colon ∷ []) ∙ class_complete n
line_complete (g.if_header a b e y d h) = led_line k.IfWord (a ++ t.Symbol s.Colon ∷ b) ∙ tested_complete f.if_header a b e y d h
line_complete (g.elif_header a b e y d h) = led_line k.ElifWord (a ++ t.Symbol s.Colon ∷ b) ∙ tested_complete f.elif_header a b e y d h
line_complete (g.while_header a b e y d h) = led_line k.WhileWord (a ++ t.Symbol s.Colon ∷ b) ∙ tested_complete f.while_header a b e y d h
line_complete (g.else_header b y h) = led_line k.ElseWord (t.Symbol s.Colon ∷ b) ∙ else_complete b y h
line_complete (g.for_header n a b c e y d m h) = led_line k.ForWord (t.Name n ∷ t.Keyword k.InWord ∷ t.Name (codes "range") ∷ t.Symbol s.LeftParen ∷ (a ++ (b ++ t.Symbol s.RightParen ∷ t.Symbol s.Colon ∷ c))) ∙ for_complete n a b c e y d m h
line_complete g.function_decorator = decorated_line (t.Name (codes "guppy") ∷ []) ∙ guppy_complete
line_complete g.struct_decorator = decorated_line (t.Name (codes "guppy") ∷ t.Symbol s.Dot ∷ t.Name (codes "struct") ∷ []) ∙ struct_complete
line_complete (g.import_names a b p ns d h) = led_line k.FromWord (a ++ t.Keyword k.ImportWord ∷ b) ∙ import_complete a b p ns d h
line_complete (g.field n a ty d) = unled_line (t.Name n ∷ t.Symbol s.Colon ∷ a) (f.field n ty) (name_begins n (t.Symbol s.Colon ∷ a)) (field_complete n a ty d)
line_complete (g.compile_call n) = unled_line (t.Name n ∷ t.Symbol s.Dot ∷ t.Name (codes "compile") ∷ t.Symbol s.LeftParen ∷ t.Symbol s.RightParen ∷ []) (f.module_call n) (name_begins n _) (compile_complete n)
line_complete (g.check_call n) = unled_line (t.Name n ∷ t.Symbol s.Dot ∷ t.Name (codes "check") ∷ t.Symbol s.LeftParen ∷ t.Symbol s.RightParen ∷ []) (f.module_call n) (name_begins n _) (check_complete n)

-- a line has at most one form
pub one_form : HasOneForm
one_form ts v w d h = some_is v w (sym (line_complete d) ∙ line_complete h)
