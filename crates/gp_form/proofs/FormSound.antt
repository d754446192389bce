-- The form that is read is spelled so.
use Rattle.std.proofs.Common.{◌≡◌, ℕ, zero, suc, Bool, true, false, List, [], ◌∷◌, ◌++◌, length, codes, Option, Some, None, refl, sym, ap, subst, ◌∙◌, append_assoc}
use Rattle.std.proofs.lemmas.List.{append-nil}
use Rattle.gp_lex.specs.declared.token.Token.{Token}
use Rattle.gp_lex.specs.declared.token.Token.TheVariants as t
use Rattle.gp_lex.specs.declared.token.Symbol.{Symbol}
use Rattle.gp_lex.specs.declared.token.Symbol.TheVariants as s
use Rattle.gp_lex.specs.declared.token.Keyword.{Keyword}
use Rattle.gp_lex.specs.declared.token.Keyword.TheVariants as k
use Rattle.gp_tree.specs.declared.expr.BinOp.{BinOp}
use Rattle.gp_tree.specs.declared.place.Targets.{Targets}
use Rattle.gp_tree.specs.declared.place.Targets.TheVariants as to
use Rattle.gp_tree.specs.Expression.{Expression}
use Rattle.gp_tree.specs.TypeExpression.{TypeExpression, ParameterType, named_type, tuple_type, function_type, types_of, parameters_of, result_of}
use Rattle.gp_tree.specs.Form.{Parameter, Form, MaybeForm, no_form, some_form}
use Rattle.gp_tree.specs.Form as f
use Rattle.gp_form.specs.declared.assigning.Assigning.{Assigning}
use Rattle.gp_form.specs.declared.assigning.Assigning.TheVariants.{Plain, By}
use Rattle.gp_form.specs.declared.level.Level.TheVariants.{Whole}
use Rattle.gp_form.specs.Grammar.{Spells, SpellsPlace}
use Rattle.gp_form.specs.declared.list_end.ListEnd.TheVariants as until
use Rattle.gp_form.specs.Forms as g
use Rattle.gp_form.specs.Forms.{Listed, marked, SpellsType, SpellsTypes, SpellsMarkedType, SpellsMarkedTypes, SpellsAnswer, parameter_of, SpellsParam, SpellsPlaces, SpellsTargets, augmenting, SpellsSimple, SpellsBody, SpellsResult, IsMaybeComma, SpellsName, SpellsNames, SpellsImported, dotted, SpellsForm}
use Rattle.gp_form.specs.code.Steps.{Read, ◌>>=◌, past_symbol, past_word, past_name}
use Rattle.gp_form.specs.code.Reading.{past_end, place_front, expression_front}
use Rattle.gp_form.specs.code.FormReading.{nothing, past_string, all_of, some_tuple, past_tuple, past_callable, owned_mark, tuple_behind, marked_type, answer, function_behind, type_with, type_at, a_type, a_marked_type, an_answer, param, pattern_inside, pattern_outside, targets, assigning_symbol, assigning, split, assigned, declaration, past_declared, past_request, docstring, module_call, evaluated, unled, alone, returned, statement, only_simple, simple, body, result_type, def_header, class_header, test_and_body, tested, else_header, maybe_comma, past_range, for_header, decorator, some_names, names_from, imported, import_names, first_word, led, line}
use Rattle.gp_form.proofs.StepLemmas.{bind_some, found_some, on, off, some, some_is, symbol_is, word_is, name_is, Front, IsSound, made, joined_parts}
use Rattle.gp_form.proofs.FormWords.{text_is, paren_is, nothing_is, string_is}
use Rattle.gp_form.proofs.ListedItems.{listed_sound, to_the_end}
use Rattle.gp_form.proofs.ExpressionSound.{place_front_sound, expression_front_sound, all_expressions_sound}

-- the same tokens, and the same of what they spell
moved : {X : Type 0} (R : List Token → X → Type 0) (a ts : List Token) (x y : X) → ts ≡ a → some x ≡ some y → R a x → R ts y
moved {X} R a ts x y e h is = subst (λ (z : List Token). R z y) (sym e) (subst (λ (z : X). R a z) (some_is x y h) is)

-- all of the tokens
whole : {X : Type 0} (R : List Token → X → Type 0) (ts : List Token) (x : X × List Token) → Front R ts x → x.1 ≡ [] → R ts x.0
whole R ts x h none = subst (λ (z : List Token). R z x.0) (sym (h.parts ∙ ap (λ (z : List Token). h.taken ++ z) none ∙ append-nil h.taken)) h.is

nothing_closes : (ts rest : List Token) → nothing ts ≡ Some rest → ts ≡ [] ++ rest
nothing_closes ts rest h = let p = nothing_is ts rest h in p.0 ∙ sym p.1

-- ---- types

types_from : {a : List Token} {xs : List TypeExpression} → Listed SpellsType a xs → SpellsTypes a (types_of xs)
types_from g.nothing = g.nothing
types_from (g.last a v d) = g.last a v d
types_from (g.going_on a b v vs d ds) = g.going_on a b v (types_of vs) d (types_from ds)

marked_types_from : {a : List Token} {ps : List ParameterType} → Listed SpellsMarkedType a ps → SpellsMarkedTypes a (parameters_of ps)
marked_types_from g.nothing = g.no_marked
marked_types_from (g.last a p d) = g.last_marked a p d
marked_types_from (g.going_on a b p ps d ds) = g.more_marked a b p (parameters_of ps) d (marked_types_from ds)

-- the lead of a tuple's type, and of a function type
abbrev tuple_lead : List Token → List Token
tuple_lead ts = t.Name (codes "tuple") ∷ t.Symbol s.LeftBracket ∷ ts

abbrev callable_lead : List Token → List Token
callable_lead ts = t.Name (codes "Callable") ∷ t.Symbol s.LeftBracket ∷ t.Symbol s.LeftBracket ∷ ts

past_tuple_is : (ts rest : List Token) → past_tuple ts ≡ Some rest → ts ≡ tuple_lead rest
unfolding past_tuple
past_tuple_is ts rest h =
    let word = bind_some _ _ rest h in
    text_is (codes "tuple") ts word.0 word.1 ∙ ap (λ (z : List Token). t.Name (codes "tuple") ∷ z) (symbol_is s.LeftBracket word.0 rest word.2)

past_callable_is : (ts rest : List Token) → past_callable ts ≡ Some rest → ts ≡ callable_lead rest
unfolding past_callable
past_callable_is ts rest h =
    let word = bind_some _ _ rest h in
    let left = bind_some _ _ rest word.2 in
    let brackets : word.0 ≡ t.Symbol s.LeftBracket ∷ t.Symbol s.LeftBracket ∷ rest = symbol_is s.LeftBracket word.0 left.0 left.1 ∙ ap (λ (z : List Token). t.Symbol s.LeftBracket ∷ z) (symbol_is s.LeftBracket left.0 rest left.2) in
    text_is (codes "Callable") ts word.0 word.1 ∙ ap (λ (z : List Token). t.Name (codes "Callable") ∷ z) brackets

data SpellsMark : List Token → Bool → Type 0 where
  absent : SpellsMark [] false
  present : SpellsMark (t.Symbol s.At ∷ t.Name (codes "owned") ∷ []) true

owned_mark_sound : IsSound SpellsMark owned_mark
unfolding owned_mark
owned_mark_sound ts x h =
    elim (found_some _ _ _ x h) [
      | on rest k go ↦
          let o = bind_some _ _ x go in
          made SpellsMark ts true o.0 x (t.Symbol s.At ∷ t.Name (codes "owned") ∷ []) o.2 (symbol_is s.At ts rest k ∙ ap (λ (z : List Token). t.Symbol s.At ∷ z) (text_is (codes "owned") rest o.0 o.1)) present
      | off k go ↦ made SpellsMark ts false ts x [] go refl absent
    ]

with_mark : (a : List Token) (ty : TypeExpression) {b : List Token} {o : Bool} → SpellsType a ty → SpellsMark b o → SpellsMarkedType (a ++ b) (marked ty o)
with_mark a ty is absent = subst (λ (z : List Token). SpellsMarkedType z (marked ty false)) (sym (append-nil a)) (g.plain a ty is)
with_mark a ty is present = g.owned a ty is

some_tuple_sound : (a : List Token) (vs : List TypeExpression) (x : TypeExpression) → Listed SpellsType a vs → some_tuple vs ≡ Some x → SpellsType (tuple_lead (a ++ t.Symbol s.RightBracket ∷ [])) x
some_tuple_sound a [] x is h = absurd cc
some_tuple_sound a (v ∷ vs) x is h = moved SpellsType _ _ (tuple_type (types_of (v ∷ vs))) x refl h (g.tuple a v (types_of vs) (types_from is))

module _ (inner : Read TypeExpression) (inner_sound : IsSound SpellsType inner) where
  tuple_sound : (ts rest : List Token) (x : TypeExpression × List Token) → ts ≡ tuple_lead rest → tuple_behind inner rest ≡ Some x → Front SpellsType ts x
  unfolding tuple_behind
  tuple_sound ts rest x lead h =
      let parts = bind_some _ _ x h in
      let v = bind_some _ _ x parts.2 in
      let all = listed_sound SpellsType (Listed SpellsType) inner (past_symbol s.RightBracket) (t.Symbol s.RightBracket ∷ []) g.nothing g.last g.going_on inner_sound (symbol_is s.RightBracket) rest parts.0 parts.1 in
      let closed : rest ≡ (all.inside ++ t.Symbol s.RightBracket ∷ []) ++ parts.0.1 = all.parts ∙ sym (append_assoc all.inside (t.Symbol s.RightBracket ∷ []) parts.0.1) in
      made SpellsType ts v.0 parts.0.1 x (tuple_lead (all.inside ++ t.Symbol s.RightBracket ∷ [])) v.2 (lead ∙ ap tuple_lead closed) (some_tuple_sound all.inside parts.0.0 v.0 all.is v.1)

  marked_type_sound : IsSound SpellsMarkedType (marked_type inner)
  unfolding marked_type
  marked_type_sound ts x h =
      let ty = bind_some _ _ x h in
      let mark = bind_some _ _ x ty.2 in
      let a = inner_sound ts ty.0 ty.1 in
      let b = owned_mark_sound ty.0.1 mark.0 mark.1 in
      made SpellsMarkedType ts (marked ty.0.0 mark.0.0) mark.0.1 x (a.taken ++ b.taken) mark.2 (joined_parts ts a.taken ty.0.1 b.taken mark.0.1 a.parts b.parts) (with_mark a.taken ty.0.0 a.is b.is)

  answer_sound : IsSound SpellsAnswer (answer inner)
  unfolding answer
  answer_sound ts x h =
      elim (found_some _ _ _ x h) [
        | on rest m go ↦ made SpellsAnswer ts None rest x (t.Keyword k.NoneWord ∷ []) go (word_is k.NoneWord ts rest m) g.none
        | off m go ↦
            let b = bind_some _ _ x go in
            let a = inner_sound ts b.0 b.1 in
            made SpellsAnswer ts (Some b.0.0) b.0.1 x a.taken b.2 a.parts (g.typed a.taken b.0.0 a.is)
      ]

  function_sound : (ts rest : List Token) (x : TypeExpression × List Token) → ts ≡ callable_lead rest → function_behind inner rest ≡ Some x → Front SpellsType ts x
  unfolding function_behind
  function_sound ts rest x lead h =
      let ps = bind_some _ _ x h in
      let comma = bind_some _ _ x ps.2 in
      let r = bind_some _ _ x comma.2 in
      let end = bind_some _ _ x r.2 in
      let all = listed_sound SpellsMarkedType (Listed SpellsMarkedType) (marked_type inner) (past_symbol s.RightBracket) (t.Symbol s.RightBracket ∷ []) g.nothing g.last g.going_on marked_type_sound (symbol_is s.RightBracket) rest ps.0 ps.1 in
      let b = answer_sound comma.0 r.0 r.1 in
      let closing = t.Symbol s.RightBracket ∷ [] in
      let answered : comma.0 ≡ (b.taken ++ closing) ++ end.0 = b.parts ∙ ap (λ (z : List Token). b.taken ++ z) (symbol_is s.RightBracket r.0.1 end.0 end.1) ∙ sym (append_assoc b.taken closing end.0) in
      let behind : ps.0.1 ≡ t.Symbol s.Comma ∷ ((b.taken ++ closing) ++ end.0) = symbol_is s.Comma ps.0.1 comma.0 comma.1 ∙ ap (λ (z : List Token). t.Symbol s.Comma ∷ z) answered in
      let inside = all.inside ++ t.Symbol s.RightBracket ∷ t.Symbol s.Comma ∷ (b.taken ++ closing) in
      let parts : rest ≡ inside ++ end.0 = all.parts ∙ ap (λ (z : List Token). all.inside ++ t.Symbol s.RightBracket ∷ z) behind ∙ sym (append_assoc all.inside (t.Symbol s.RightBracket ∷ t.Symbol s.Comma ∷ (b.taken ++ closing)) end.0) in
      made SpellsType ts (function_type (parameters_of ps.0.0) (result_of r.0.0)) end.0 x (callable_lead inside) end.2 (lead ∙ ap callable_lead parts) (g.function all.inside b.taken (parameters_of ps.0.0) r.0.0 (marked_types_from all.is) b.is)

  type_with_sound : IsSound SpellsType (type_with inner)
  unfolding type_with
  type_with_sound ts x h =
      elim (found_some _ _ _ x h) [
        | on rest m go ↦ tuple_sound ts rest x (past_tuple_is ts rest m) go
        | off m other ↦
            elim (found_some _ _ _ x other) [
              | on rest n go ↦ function_sound ts rest x (past_callable_is ts rest n) go
              | off n go ↦
                  let b = bind_some _ _ x go in
                  made SpellsType ts (named_type b.0.0) b.0.1 x (t.Name b.0.0 ∷ []) b.2 (name_is ts b.0 b.1) (g.named b.0.0)
            ]
      ]

type_at_sound : (n : ℕ) → IsSound SpellsType (type_at n)
unfolding type_at
type_at_sound zero ts x h = absurd cc
type_at_sound (suc n) ts x h = type_with_sound (type_at n) (type_at_sound n) ts x h

pub type_sound : IsSound SpellsType a_type
type_sound ts x h = type_at_sound (suc (length ts)) ts x h

a_marked_type_sound : IsSound SpellsMarkedType a_marked_type
a_marked_type_sound ts x h = let n = suc (length ts) in marked_type_sound (type_at n) (type_at_sound n) ts x h

an_answer_sound : IsSound SpellsAnswer an_answer
an_answer_sound ts x h = let n = suc (length ts) in answer_sound (type_at n) (type_at_sound n) ts x h

-- ---- parameters

param_sound : IsSound SpellsParam param
unfolding param
param_sound ts x h =
    let n = bind_some _ _ x h in
    let colon = bind_some _ _ x n.2 in
    let ty = bind_some _ _ x colon.2 in
    let a = a_marked_type_sound colon.0 ty.0 ty.1 in
    let lead = λ (z : List Token). t.Name n.0.0 ∷ t.Symbol s.Colon ∷ z in
    let front : ts ≡ lead colon.0 = name_is ts n.0 n.1 ∙ ap (λ (z : List Token). t.Name n.0.0 ∷ z) (symbol_is s.Colon n.0.1 colon.0 colon.1) in
    made SpellsParam ts (parameter_of n.0.0 ty.0.0) ty.0.1 x (lead a.taken) ty.2 (front ∙ ap lead a.parts) (g.param n.0.0 a.taken ty.0.0 a.is)

-- ---- targets

pattern_inside_sound : (ts : List Token) (v : Targets) → pattern_inside ts ≡ Some v → SpellsTargets (t.Symbol s.LeftParen ∷ ts) v
unfolding pattern_inside
pattern_inside_sound ts v h =
    let p = bind_some _ _ v h in
    let comma = bind_some _ _ v p.2 in
    let ps = bind_some _ _ v comma.2 in
    let end = bind_some _ _ v ps.2 in
    let a = place_front_sound ts p.0 p.1 in
    let all = listed_sound SpellsPlace (Listed SpellsPlace) place_front (past_end until.Paren) (t.Symbol s.RightParen ∷ []) g.nothing g.last g.going_on place_front_sound paren_is comma.0 ps.0 ps.1 in
    let closing : comma.0 ≡ all.inside ++ t.Symbol s.RightParen ∷ [] = all.parts ∙ ap (λ (z : List Token). all.inside ++ t.Symbol s.RightParen ∷ z) (nothing_is ps.0.1 end.0 end.1).0 in
    let behind : p.0.1 ≡ t.Symbol s.Comma ∷ (all.inside ++ t.Symbol s.RightParen ∷ []) = symbol_is s.Comma p.0.1 comma.0 comma.1 ∙ ap (λ (z : List Token). t.Symbol s.Comma ∷ z) closing in
    let parts : ts ≡ (a.taken ++ t.Symbol s.Comma ∷ all.inside) ++ t.Symbol s.RightParen ∷ [] =
    a.parts ∙ ap (λ (z : List Token). a.taken ++ z) behind ∙ sym (append_assoc a.taken (t.Symbol s.Comma ∷ all.inside) (t.Symbol s.RightParen ∷ [])) in
    moved SpellsTargets _ (t.Symbol s.LeftParen ∷ ts) (to.Pattern (p.0.0 ∷ ps.0.0)) v (ap (λ (z : List Token). t.Symbol s.LeftParen ∷ z) parts) end.2
    (g.grouped (a.taken ++ t.Symbol s.Comma ∷ all.inside) (p.0.0 ∷ ps.0.0) (g.places a.taken all.inside p.0.0 ps.0.0 a.is all.is))

pattern_outside_sound : (ts : List Token) (v : Targets) → pattern_outside ts ≡ Some v → SpellsTargets ts v
unfolding pattern_outside
pattern_outside_sound ts v h =
    let p = bind_some _ _ v h in
    let a = place_front_sound ts p.0 p.1 in
    elim (found_some _ _ _ v p.2) [
      | on rest k go ↦ moved SpellsTargets ts ts (to.One p.0.0) v refl go (g.one ts p.0.0 (whole SpellsPlace ts p.0 a (nothing_is p.0.1 rest k).0))
      | off k other ↦
          let comma = bind_some _ _ v other in
          let ps = bind_some _ _ v comma.2 in
          let all = to_the_end (Listed SpellsPlace) comma.0 ps.0 (listed_sound SpellsPlace (Listed SpellsPlace) place_front nothing [] g.nothing g.last g.going_on place_front_sound nothing_closes comma.0 ps.0 ps.1) in
          let parts : ts ≡ a.taken ++ t.Symbol s.Comma ∷ comma.0 = a.parts ∙ ap (λ (z : List Token). a.taken ++ z) (symbol_is s.Comma p.0.1 comma.0 comma.1) in
          moved SpellsTargets _ ts (to.Pattern (p.0.0 ∷ ps.0.0)) v parts ps.2 (g.pattern (a.taken ++ t.Symbol s.Comma ∷ comma.0) (p.0.0 ∷ ps.0.0) (g.places a.taken comma.0 p.0.0 ps.0.0 a.is all))
    ]

targets_sound : (ts : List Token) (v : Targets) → targets ts ≡ Some v → SpellsTargets ts v
unfolding targets
targets_sound ts v h =
    elim (found_some _ _ _ v h) [
      | on rest k go ↦ subst (λ (z : List Token). SpellsTargets z v) (sym (symbol_is s.LeftParen ts rest k)) (pattern_inside_sound rest v go)
      | off k go ↦ pattern_outside_sound ts v go
    ]

-- ---- simple forms

-- a simple form, a field or a module call
data SpellsStatement : List Token → Form → Type 0 where
  as_simple : (a : List Token) (v : Form) → only_simple v ≡ Some v → SpellsSimple a v → SpellsStatement a v
  as_field : (a : List Token) (n : List ℕ) (ty : TypeExpression) → SpellsForm a (f.field n ty) → SpellsStatement a (f.field n ty)
  as_call : (a : List Token) (n : List ℕ) → SpellsForm a (f.module_call n) → SpellsStatement a (f.module_call n)

as_form : {a : List Token} {v : Form} → SpellsStatement a v → SpellsForm a v
as_form (as_simple a v only d) = g.simple a v d
as_form (as_field a n ty d) = d
as_form (as_call a n d) = d

-- what assigns stands between these
record Splits (ts left : List Token) (y : Assigning) (right : List Token) : Type 0 where
  token : Symbol
  parts : ts ≡ left ++ t.Symbol token ∷ right
  assigns : assigning_symbol token ≡ Some y

assigning_is : (x : Token) (y : Assigning) (rest : List Token) → assigning x ≡ Some y → Splits (x ∷ rest) [] y rest
assigning_is (t.Symbol x) y rest h = record { token = x; parts = refl; assigns = h }
assigning_is (t.Name x) y rest h = absurd cc
assigning_is (t.Keyword x) y rest h = absurd cc
assigning_is (t.Number x) y rest h = absurd cc
assigning_is (t.Text x) y rest h = absurd cc

split_sound : (ts : List Token) (x : List Token × Assigning × List Token) → split ts ≡ Some x → Splits ts x.0 x.1 x.2
unfolding split
split_sound [] x h = absurd cc
split_sound (y ∷ ts) x h =
    elim (found_some _ _ _ x h) [
      | on kind k go ↦
          let here = assigning_is y kind ts k in
          subst (λ (z : List Token × Assigning × List Token). Splits (y ∷ ts) z.0 z.1 z.2) (some_is ([], kind, ts) x go) here
      | off k other ↦
          let b = bind_some _ _ x other in
          let more = split_sound ts b.0 b.1 in
          let here : Splits (y ∷ ts) (y ∷ b.0.0) b.0.1 b.0.2 = record { token = more.token; parts = ap (λ (z : List Token). y ∷ z) more.parts; assigns = more.assigns } in
          subst (λ (z : List Token × Assigning × List Token). Splits (y ∷ ts) z.0 z.1 z.2) (some_is (y ∷ b.0.0, b.0.1, b.0.2) x b.2) here
    ]

plain_symbol : (x : Symbol) → assigning_symbol x ≡ Some Plain → x ≡ s.Assign
plain_symbol s.Assign h = refl
plain_symbol s.PlusAssign h = absurd cc
plain_symbol s.MinusAssign h = absurd cc
plain_symbol s.StarAssign h = absurd cc
plain_symbol s.FloorDivAssign h = absurd cc
plain_symbol s.PercentAssign h = absurd cc
plain_symbol _ h = absurd cc

augmenting_symbol : (x : Symbol) (o : BinOp) → assigning_symbol x ≡ Some (By o) → augmenting x ≡ Some o
augmenting_symbol s.Assign o h = absurd cc
augmenting_symbol s.PlusAssign o h = cc
augmenting_symbol s.MinusAssign o h = cc
augmenting_symbol s.StarAssign o h = cc
augmenting_symbol s.FloorDivAssign o h = cc
augmenting_symbol s.PercentAssign o h = cc
augmenting_symbol _ o h = absurd cc

-- what all of the tokens are read as
all_of_sound : {X : Type 0} (R : List Token → X → Type 0) (p : Read X) → IsSound R p → (ts : List Token) (v : X) → (p ts >>= all_of) ≡ Some v → R ts v
all_of_sound {X} R p sound ts v h =
    let x = bind_some _ _ v h in
    let end = bind_some _ _ v x.2 in
    subst (λ (z : X). R ts z) (some_is x.0.0 v end.2) (whole R ts x.0 (sound ts x.0 x.1) (nothing_is x.0.1 end.0 end.1).0)

assigned_sound : (ts left : List Token) (y : Assigning) (right : List Token) (v : Form) → Splits ts left y right → assigned (left, y, right) ≡ Some v → SpellsStatement ts v
unfolding assigned
assigned_sound ts left Plain right v here h =
    let to = bind_some _ _ v h in
    let x = bind_some _ _ v to.2 in
    let parts : ts ≡ left ++ t.Symbol s.Assign ∷ right = here.parts ∙ ap (λ (z : Symbol). left ++ t.Symbol z ∷ right) (plain_symbol here.token here.assigns) in
    moved SpellsStatement _ ts (f.assign to.0 x.0) v parts x.2 (as_simple _ _ refl (g.assignment left right to.0 x.0 (targets_sound left to.0 to.1) (all_expressions_sound right x.0 x.1)))
assigned_sound ts left (By o) right v here h =
    let p = bind_some _ _ v h in
    let x = bind_some _ _ v p.2 in
    let b = all_of_sound SpellsPlace place_front place_front_sound left p.0 p.1 in
    let c = all_of_sound (Spells Whole) expression_front expression_front_sound right x.0 x.1 in
    moved SpellsStatement _ ts (f.augmented p.0 o x.0) v here.parts x.2 (as_simple _ _ refl (g.augmented left right here.token p.0 o x.0 b (augmenting_symbol here.token o here.assigns) c))

past_declared_is : (ts : List Token) (x : List ℕ × List Token) → past_declared ts ≡ Some x → ts ≡ t.Name x.0 ∷ t.Symbol s.Colon ∷ x.1
unfolding past_declared
past_declared_is ts x h =
    let n = bind_some _ _ x h in
    let colon = bind_some _ _ x n.2 in
    let parts : ts ≡ t.Name n.0.0 ∷ t.Symbol s.Colon ∷ colon.0 = name_is ts n.0 n.1 ∙ ap (λ (z : List Token). t.Name n.0.0 ∷ z) (symbol_is s.Colon n.0.1 colon.0 colon.1) in
    parts ∙ ap (λ (z : List ℕ × List Token). t.Name z.0 ∷ t.Symbol s.Colon ∷ z.1) (some_is (n.0.0, colon.0) x colon.2)

declaration_sound : (n : List ℕ) (ts : List Token) (v : Form) → declaration n ts ≡ Some v → SpellsStatement (t.Name n ∷ t.Symbol s.Colon ∷ ts) v
unfolding declaration
declaration_sound n ts v h =
    let ty = bind_some _ _ v h in
    let a = type_sound ts ty.0 ty.1 in
    let lead = λ (z : List Token). t.Name n ∷ t.Symbol s.Colon ∷ z in
    elim (found_some _ _ _ v ty.2) [
      | on rest k go ↦ moved SpellsStatement _ (lead ts) (f.field n ty.0.0) v refl go (as_field _ _ _ (g.field n ts ty.0.0 (whole SpellsType ts ty.0 a (nothing_is ty.0.1 rest k).0)))
      | off k other ↦
          let sign = bind_some _ _ v other in
          let x = bind_some _ _ v sign.2 in
          let parts : ts ≡ a.taken ++ t.Symbol s.Assign ∷ sign.0 = a.parts ∙ ap (λ (z : List Token). a.taken ++ z) (symbol_is s.Assign ty.0.1 sign.0 sign.1) in
          moved SpellsStatement _ (lead ts) (f.annotated n ty.0.0 x.0) v (ap lead parts) x.2 (as_simple _ _ refl (g.annotated n a.taken sign.0 ty.0.0 x.0 a.is (all_expressions_sound sign.0 x.0 x.1)))
    ]

-- one of the words that a module is asked for
data Requests (ts rest : List Token) : Type 0 where
  compile : ts ≡ t.Name (codes "compile") ∷ rest → Requests ts rest
  check : ts ≡ t.Name (codes "check") ∷ rest → Requests ts rest

past_request_is : (ts rest : List Token) → past_request ts ≡ Some rest → Requests ts rest
unfolding past_request
past_request_is ts rest h =
    elim (found_some _ _ _ rest h) [
      | on end k go ↦ compile (text_is (codes "compile") ts end k ∙ ap (λ (z : List Token). t.Name (codes "compile") ∷ z) (some_is end rest go))
      | off k other ↦ check (text_is (codes "check") ts rest other)
    ]

pub module_call_sound : (ts : List Token) (n : List ℕ) → module_call ts ≡ Some n → SpellsForm ts (f.module_call n)
unfolding module_call
module_call_sound ts m h =
    let n = bind_some _ _ m h in
    let dot = bind_some _ _ m n.2 in
    let word = bind_some _ _ m dot.2 in
    let left = bind_some _ _ m word.2 in
    let right = bind_some _ _ m left.2 in
    let end = bind_some _ _ m right.2 in
    let brackets : word.0 ≡ t.Symbol s.LeftParen ∷ t.Symbol s.RightParen ∷ [] =
    symbol_is s.LeftParen word.0 left.0 left.1 ∙ ap (λ (z : List Token). t.Symbol s.LeftParen ∷ z) (symbol_is s.RightParen left.0 right.0 right.1) ∙ ap (λ (z : List Token). t.Symbol s.LeftParen ∷ t.Symbol s.RightParen ∷ z) (nothing_is right.0 end.0 end.1).0 in
    let front : ts ≡ t.Name n.0.0 ∷ t.Symbol s.Dot ∷ dot.0 = name_is ts n.0 n.1 ∙ ap (λ (z : List Token). t.Name n.0.0 ∷ z) (symbol_is s.Dot n.0.1 dot.0 dot.1) in
    let same = some_is n.0.0 m end.2 in
    let back = λ (z : List Token) (e : dot.0 ≡ z) (is : SpellsForm (t.Name n.0.0 ∷ t.Symbol s.Dot ∷ z) (f.module_call n.0.0)).
    let parts : ts ≡ t.Name n.0.0 ∷ t.Symbol s.Dot ∷ z = front ∙ ap (λ (y : List Token). t.Name n.0.0 ∷ t.Symbol s.Dot ∷ y) e in
    subst (λ (y : List ℕ). SpellsForm ts (f.module_call y)) same (subst (λ (y : List Token). SpellsForm y (f.module_call n.0.0)) (sym parts) is) in
    elim (past_request_is dot.0 word.0 word.1) [
      | compile asked ↦ back (t.Name (codes "compile") ∷ t.Symbol s.LeftParen ∷ t.Symbol s.RightParen ∷ []) (asked ∙ ap (λ (z : List Token). t.Name (codes "compile") ∷ z) brackets) (g.compile_call n.0.0)
      | check asked ↦ back (t.Name (codes "check") ∷ t.Symbol s.LeftParen ∷ t.Symbol s.RightParen ∷ []) (asked ∙ ap (λ (z : List Token). t.Name (codes "check") ∷ z) brackets) (g.check_call n.0.0)
    ]

pub docstring_is : (ts rest : List Token) → docstring ts ≡ Some rest → (text : List ℕ) × (ts ≡ t.Text text ∷ [])
unfolding docstring
docstring_is ts rest h =
    let b = bind_some _ _ rest h in
    let text = string_is ts b.0 b.1 in
    (text.0, text.1 ∙ ap (λ (z : List Token). t.Text text.0 ∷ z) (nothing_is b.0 rest b.2).0)

this_docstring : (text : List ℕ) → docstring (t.Text text ∷ []) ≡ Some []
unfolding docstring past_string past_end
this_docstring text = refl

pub no_docstring : (ts : List Token) → docstring ts ≡ None → (text : List ℕ) → ts ≡ t.Text text ∷ [] → ⊥
no_docstring ts h text e = let k : docstring ts ≡ Some [] = ap docstring e ∙ this_docstring text in absurd cc

evaluated_sound : (ts : List Token) (v : Form) → evaluated ts ≡ Some v → SpellsStatement ts v
unfolding evaluated
evaluated_sound ts v h =
    elim (found_some _ _ _ v h) [
      | on n k go ↦ moved SpellsStatement ts ts (f.module_call n) v refl go (as_call _ _ (module_call_sound ts n k))
      | off k other ↦
          elim (found_some _ _ _ v other) [
            | on rest m go ↦
                let text = docstring_is ts rest m in
                moved SpellsStatement _ ts f.docstring v text.1 go (as_simple _ _ refl (g.docstring text.0))
            | off m go ↦
                let x = bind_some _ _ v go in
                moved SpellsStatement _ ts (f.evaluate x.0) v refl x.2 (as_simple _ _ refl (g.expression ts x.0 (all_expressions_sound ts x.0 x.1) (no_docstring ts m)))
          ]
    ]

unled_sound : (ts : List Token) (v : Form) → unled ts ≡ Some v → SpellsStatement ts v
unfolding unled
unled_sound ts v h =
    elim (found_some _ _ _ v h) [
      | on n k go ↦ subst (λ (z : List Token). SpellsStatement z v) (sym (past_declared_is ts n k)) (declaration_sound n.0 n.1 v go)
      | off k other ↦
          elim (found_some _ _ _ v other) [
            | on x m go ↦ assigned_sound ts x.0 x.1 x.2 v (split_sound ts x m) go
            | off m go ↦ evaluated_sound ts v go
          ]
    ]

alone_sound : (a ts : List Token) (w v : Form) → SpellsStatement (a ++ []) w → alone w ts ≡ Some v → SpellsStatement (a ++ ts) v
alone_sound a ts w v is h =
    let end = bind_some _ _ v h in
    moved SpellsStatement (a ++ []) (a ++ ts) w v (ap (λ (z : List Token). a ++ z) (nothing_is ts end.0 end.1).0) end.2 is

returned_sound : (ts : List Token) (v : Form) → returned ts ≡ Some v → SpellsStatement (t.Keyword k.ReturnWord ∷ ts) v
unfolding returned
returned_sound ts v h =
    let lead = λ (z : List Token). t.Keyword k.ReturnWord ∷ z in
    elim (found_some _ _ _ v h) [
      | on rest m go ↦ moved SpellsStatement _ (lead ts) (f.return_value None) v (ap lead (nothing_is ts rest m).0) go (as_simple _ _ refl g.return_nothing)
      | off m other ↦
          elim (found_some _ _ _ v other) [
            | on rest n go ↦ subst (λ (z : List Token). SpellsStatement (lead z) v) (sym (word_is k.NoneWord ts rest n)) (alone_sound (t.Keyword k.ReturnWord ∷ t.Keyword k.NoneWord ∷ []) rest (f.return_value None) v (as_simple _ _ refl g.return_none) go)
            | off n go ↦
                let x = bind_some _ _ v go in
                moved SpellsStatement _ (lead ts) (f.return_value (Some x.0)) v refl x.2 (as_simple _ _ refl (g.return_value ts x.0 (all_expressions_sound ts x.0 x.1)))
          ]
    ]

statement_sound : (ts : List Token) (v : Form) → statement ts ≡ Some v → SpellsStatement ts v
unfolding statement
statement_sound ts v h =
    let back = λ (w : Keyword) (rest : List Token) (e : past_word w ts ≡ Some rest) (is : SpellsStatement (t.Keyword w ∷ rest) v). subst (λ (z : List Token). SpellsStatement z v) (sym (word_is w ts rest e)) is in
    elim (found_some _ _ _ v h) [
      | on rest m go ↦ back k.ReturnWord rest m (returned_sound rest v go)
      | off m other ↦
          elim (found_some _ _ _ v other) [
            | on rest n go ↦ back k.BreakWord rest n (alone_sound (t.Keyword k.BreakWord ∷ []) rest f.break_loop v (as_simple _ _ refl g.break_loop) go)
            | off n other2 ↦
                elim (found_some _ _ _ v other2) [
                  | on rest o go ↦ back k.ContinueWord rest o (alone_sound (t.Keyword k.ContinueWord ∷ []) rest f.continue_loop v (as_simple _ _ refl g.continue_loop) go)
                  | off o other3 ↦
                      elim (found_some _ _ _ v other3) [
                        | on rest p go ↦ back k.PassWord rest p (alone_sound (t.Keyword k.PassWord ∷ []) rest f.pass v (as_simple _ _ refl g.pass) go)
                        | off p go ↦ unled_sound ts v go
                      ]
                ]
          ]
    ]

-- a statement that is neither a field nor a module call
of_statement : {a : List Token} {w : Form} (v : Form) → SpellsStatement a w → only_simple w ≡ Some v → SpellsSimple a v
of_statement v (as_simple a w only d) h = subst (λ (z : Form). SpellsSimple a z) (some_is w v (sym only ∙ h)) d
of_statement v (as_field a n ty d) h = absurd cc
of_statement v (as_call a n d) h = absurd cc

simple_sound : (ts : List Token) (v : Form) → simple ts ≡ Some v → SpellsSimple ts v
unfolding simple
simple_sound ts v h =
    let b = bind_some _ _ v h in
    of_statement v (statement_sound ts b.0 b.1) b.2

-- ---- headers

-- the colon and what stands behind it
record BehindColon (ts : List Token) (x : MaybeForm) : Type 0 where
  behind : List Token
  parts : ts ≡ t.Symbol s.Colon ∷ behind
  is : SpellsBody behind x

body_sound : (ts : List Token) (v : MaybeForm) → body ts ≡ Some v → BehindColon ts v
unfolding body
body_sound ts v h =
    let colon = bind_some _ _ v h in
    let parts = symbol_is s.Colon ts colon.0 colon.1 in
    elim (found_some _ _ _ v colon.2) [
      | on rest k go ↦ record { behind = colon.0; parts = parts; is = moved SpellsBody _ colon.0 no_form v (nothing_is colon.0 rest k).0 go g.block }
      | off k go ↦
          let x = bind_some _ _ v go in
          record { behind = colon.0; parts = parts; is = moved SpellsBody colon.0 colon.0 (some_form x.0) v refl x.2 (g.simple colon.0 x.0 (simple_sound colon.0 x.0 x.1)) }
    ]

result_type_sound : IsSound SpellsResult result_type
unfolding result_type
result_type_sound ts x h =
    elim (found_some _ _ _ x h) [
      | on rest m go ↦
          let a = an_answer_sound rest x go in
          record { taken = t.Symbol s.Arrow ∷ a.taken; parts = symbol_is s.Arrow ts rest m ∙ ap (λ (z : List Token). t.Symbol s.Arrow ∷ z) a.parts; is = g.given a.taken x.0 a.is }
      | off m go ↦ made SpellsResult ts None ts x [] go refl g.missing
    ]

def_header_sound : (ts : List Token) (v : Form) → def_header ts ≡ Some v → SpellsForm (t.Keyword k.DefWord ∷ ts) v
unfolding def_header
def_header_sound ts v h =
    let n = bind_some _ _ v h in
    let left = bind_some _ _ v n.2 in
    let ps = bind_some _ _ v left.2 in
    let ty = bind_some _ _ v ps.2 in
    let x = bind_some _ _ v ty.2 in
    let a = listed_sound SpellsParam (Listed SpellsParam) param (past_end until.Paren) (t.Symbol s.RightParen ∷ []) g.nothing g.last g.going_on param_sound paren_is left.0 ps.0 ps.1 in
    let b = result_type_sound ps.0.1 ty.0 ty.1 in
    let c = body_sound ty.0.1 x.0 x.1 in
    let result = b.parts ∙ ap (λ (z : List Token). b.taken ++ z) c.parts in
    let params = a.parts ∙ ap (λ (z : List Token). a.inside ++ t.Symbol s.RightParen ∷ z) result in
    let front : ts ≡ t.Name n.0.0 ∷ t.Symbol s.LeftParen ∷ left.0 = name_is ts n.0 n.1 ∙ ap (λ (z : List Token). t.Name n.0.0 ∷ z) (symbol_is s.LeftParen n.0.1 left.0 left.1) in
    let parts = ap (λ (z : List Token). t.Keyword k.DefWord ∷ z) (front ∙ ap (λ (z : List Token). t.Name n.0.0 ∷ t.Symbol s.LeftParen ∷ z) params) in
    moved SpellsForm _ (t.Keyword k.DefWord ∷ ts) (f.def_header n.0.0 ps.0.0 ty.0.0 x.0) v parts x.2 (g.def_header n.0.0 a.inside b.taken c.behind ps.0.0 ty.0.0 x.0 a.is b.is c.is)

class_header_sound : (ts : List Token) (v : Form) → class_header ts ≡ Some v → SpellsForm (t.Keyword k.ClassWord ∷ ts) v
unfolding class_header
class_header_sound ts v h =
    let n = bind_some _ _ v h in
    let colon = bind_some _ _ v n.2 in
    let end = bind_some _ _ v colon.2 in
    let front : ts ≡ t.Name n.0.0 ∷ t.Symbol s.Colon ∷ [] = name_is ts n.0 n.1 ∙ ap (λ (z : List Token). t.Name n.0.0 ∷ z) (symbol_is s.Colon n.0.1 colon.0 colon.1 ∙ ap (λ (z : List Token). t.Symbol s.Colon ∷ z) (nothing_is colon.0 end.0 end.1).0) in
    moved SpellsForm _ (t.Keyword k.ClassWord ∷ ts) (f.class_header n.0.0) v (ap (λ (z : List Token). t.Keyword k.ClassWord ∷ z) front) end.2 (g.class_header n.0.0)

tested_sound : (w : Keyword) (make : Expression → MaybeForm → Form) → ((a b : List Token) (x : Expression) (y : MaybeForm) → Spells Whole a x → SpellsBody b y → SpellsForm (t.Keyword w ∷ (a ++ t.Symbol s.Colon ∷ b)) (make x y)) →
    (ts : List Token) (v : Form) → tested make ts ≡ Some v → SpellsForm (t.Keyword w ∷ ts) v
tested_sound w make is ts v h =
    let both = bind_some (test_and_body ts) (λ x. Some (make x.0 x.1)) v h in
    let x = bind_some _ _ both.0 both.1 in
    let y = bind_some _ _ both.0 x.2 in
    let a = expression_front_sound ts x.0 x.1 in
    let b = body_sound x.0.1 y.0 y.1 in
    let parts = ap (λ (z : List Token). t.Keyword w ∷ z) (a.parts ∙ ap (λ (z : List Token). a.taken ++ z) b.parts) in
    let made = ap (λ (z : Expression × MaybeForm). some (make z.0 z.1)) (some_is (x.0.0, y.0) both.0 y.2) ∙ both.2 in
    moved SpellsForm _ (t.Keyword w ∷ ts) (make x.0.0 y.0) v parts made (is a.taken b.behind x.0.0 y.0 a.is b.is)

else_header_sound : (ts : List Token) (v : Form) → else_header ts ≡ Some v → SpellsForm (t.Keyword k.ElseWord ∷ ts) v
unfolding else_header
else_header_sound ts v h =
    let x = bind_some _ _ v h in
    let b = body_sound ts x.0 x.1 in
    moved SpellsForm _ (t.Keyword k.ElseWord ∷ ts) (f.else_header x.0) v (ap (λ (z : List Token). t.Keyword k.ElseWord ∷ z) b.parts) x.2 (g.else_header b.behind x.0 b.is)

-- a comma, or nothing
record SkipsComma (ts : List Token) : Type 0 where
  skipped : List Token
  parts : ts ≡ skipped ++ maybe_comma ts
  is : IsMaybeComma skipped

skips_comma : (ts : List Token) (o : Option (List Token)) → past_symbol s.Comma ts ≡ o → SkipsComma ts
unfolding maybe_comma
skips_comma ts (Some rest) h = record { skipped = t.Symbol s.Comma ∷ []; parts = symbol_is s.Comma ts rest h ∙ rw h refl; is = g.present }
skips_comma ts None h = record { skipped = []; parts = rw h refl; is = g.absent }

past_range_is : (ts rest : List Token) → past_range ts ≡ Some rest → ts ≡ t.Keyword k.InWord ∷ t.Name (codes "range") ∷ t.Symbol s.LeftParen ∷ rest
unfolding past_range
past_range_is ts rest h =
    let word = bind_some _ _ rest h in
    let range = bind_some _ _ rest word.2 in
    word_is k.InWord ts word.0 word.1 ∙ ap (λ (z : List Token). t.Keyword k.InWord ∷ z) (text_is (codes "range") word.0 range.0 range.1 ∙ ap (λ (z : List Token). t.Name (codes "range") ∷ z) (symbol_is s.LeftParen range.0 rest range.2))

for_header_sound : (ts : List Token) (v : Form) → for_header ts ≡ Some v → SpellsForm (t.Keyword k.ForWord ∷ ts) v
unfolding for_header
for_header_sound ts v h =
    let n = bind_some _ _ v h in
    let range = bind_some _ _ v n.2 in
    let x = bind_some _ _ v range.2 in
    let right = bind_some _ _ v x.2 in
    let y = bind_some _ _ v right.2 in
    let a = expression_front_sound range.0 x.0 x.1 in
    let b = skips_comma x.0.1 (past_symbol s.Comma x.0.1) refl in
    let c = body_sound right.0 y.0 y.1 in
    let closing = symbol_is s.RightParen (maybe_comma x.0.1) right.0 right.1 ∙ ap (λ (z : List Token). t.Symbol s.RightParen ∷ z) c.parts in
    let count = a.parts ∙ ap (λ (z : List Token). a.taken ++ z) (b.parts ∙ ap (λ (z : List Token). b.skipped ++ z) closing) in
    let front = name_is ts n.0 n.1 ∙ ap (λ (z : List Token). t.Name n.0.0 ∷ z) (past_range_is n.0.1 range.0 range.1 ∙ ap (λ (z : List Token). t.Keyword k.InWord ∷ t.Name (codes "range") ∷ t.Symbol s.LeftParen ∷ z) count) in
    moved SpellsForm _ (t.Keyword k.ForWord ∷ ts) (f.for_header n.0.0 x.0.0 y.0) v (ap (λ (z : List Token). t.Keyword k.ForWord ∷ z) front) y.2 (g.for_header n.0.0 a.taken b.skipped c.behind x.0.0 y.0 a.is b.is c.is)

decorator_sound : (ts : List Token) (v : Form) → decorator ts ≡ Some v → SpellsForm (t.Symbol s.At ∷ ts) v
unfolding decorator
decorator_sound ts v h =
    let word = bind_some _ _ v h in
    let lead = λ (z : List Token). t.Symbol s.At ∷ z in
    let guppy = text_is (codes "guppy") ts word.0 word.1 in
    elim (found_some _ _ _ v word.2) [
      | on rest m go ↦ moved SpellsForm _ (lead ts) f.function_decorator v (ap lead (guppy ∙ ap (λ (z : List Token). t.Name (codes "guppy") ∷ z) (nothing_is word.0 rest m).0)) go g.function_decorator
      | off m other ↦
          let dot = bind_some _ _ v other in
          let struct = bind_some _ _ v dot.2 in
          let end = bind_some _ _ v struct.2 in
          let behind = symbol_is s.Dot word.0 dot.0 dot.1 ∙ ap (λ (z : List Token). t.Symbol s.Dot ∷ z) (text_is (codes "struct") dot.0 struct.0 struct.1 ∙ ap (λ (z : List Token). t.Name (codes "struct") ∷ z) (nothing_is struct.0 end.0 end.1).0) in
          moved SpellsForm _ (lead ts) f.struct_decorator v (ap lead (guppy ∙ ap (λ (z : List Token). t.Name (codes "guppy") ∷ z) behind)) end.2 g.struct_decorator
    ]

names_from_sound : (m : ℕ) (ts : List Token) (v : List (List ℕ)) → names_from m ts ≡ Some v → SpellsNames ts v
unfolding names_from
names_from_sound zero ts v h = absurd cc
names_from_sound (suc m) ts v h =
    let n = bind_some _ _ v h in
    let front = name_is ts n.0 n.1 in
    elim (found_some _ _ _ v n.2) [
      | on rest k go ↦ moved SpellsNames _ ts (n.0.0 ∷ []) v (front ∙ ap (λ (z : List Token). t.Name n.0.0 ∷ z) (nothing_is n.0.1 rest k).0) go (g.one n.0.0)
      | off k other ↦
          let comma = bind_some _ _ v other in
          let ns = bind_some _ _ v comma.2 in
          moved SpellsNames _ ts (n.0.0 ∷ ns.0) v (front ∙ ap (λ (z : List Token). t.Name n.0.0 ∷ z) (symbol_is s.Comma n.0.1 comma.0 comma.1)) ns.2 (g.going_on n.0.0 comma.0 ns.0 (names_from_sound m comma.0 ns.0 ns.1))
    ]

name_sound : IsSound SpellsName past_name
name_sound ts x h = record { taken = t.Name x.0 ∷ []; parts = name_is ts x h; is = g.name x.0 }

grouped_sound : (rest inside end : List Token) (ns v : List (List ℕ)) → rest ≡ inside ++ t.Symbol s.RightParen ∷ end → Listed SpellsName inside ns → some_names ns end ≡ Some v → SpellsImported (t.Symbol s.LeftParen ∷ rest) v
grouped_sound rest inside end [] v parts is h = absurd cc
grouped_sound rest inside end (n ∷ ns) v parts is h =
    let b = bind_some _ _ v h in
    let none = (nothing_is end b.0 b.1).0 in
    let all : rest ≡ inside ++ t.Symbol s.RightParen ∷ [] = parts ∙ ap (λ (z : List Token). inside ++ t.Symbol s.RightParen ∷ z) none in
    moved SpellsImported _ (t.Symbol s.LeftParen ∷ rest) (n ∷ ns) v (ap (λ (z : List Token). t.Symbol s.LeftParen ∷ z) all) b.2 (g.grouped inside n ns is)

imported_sound : (ts : List Token) (v : List (List ℕ)) → imported ts ≡ Some v → SpellsImported ts v
unfolding imported
imported_sound ts v h =
    elim (found_some _ _ _ v h) [
      | on rest k go ↦
          let b = bind_some _ _ v go in
          let a = listed_sound SpellsName (Listed SpellsName) past_name (past_end until.Paren) (t.Symbol s.RightParen ∷ []) g.nothing g.last g.going_on name_sound paren_is rest b.0 b.1 in
          subst (λ (z : List Token). SpellsImported z v) (sym (symbol_is s.LeftParen ts rest k)) (grouped_sound rest a.inside b.0.1 b.0.0 v a.parts a.is b.2)
      | off k go ↦ g.bare ts v (names_from_sound (length ts) ts v go)
    ]

import_names_sound : (ts : List Token) (v : Form) → import_names ts ≡ Some v → SpellsForm (t.Keyword k.FromWord ∷ ts) v
unfolding import_names
import_names_sound ts v h =
    let p = bind_some _ _ v h in
    let word = bind_some _ _ v p.2 in
    let ns = bind_some _ _ v word.2 in
    let a = place_front_sound ts p.0 p.1 in
    let parts = a.parts ∙ ap (λ (z : List Token). a.taken ++ z) (word_is k.ImportWord p.0.1 word.0 word.1) in
    moved SpellsForm _ (t.Keyword k.FromWord ∷ ts) (f.import_names (dotted p.0.0) ns.0) v (ap (λ (z : List Token). t.Keyword k.FromWord ∷ z) parts) ns.2 (g.import_names a.taken word.0 p.0.0 ns.0 a.is (imported_sound word.0 ns.0 ns.1))

-- ---- lines

first_word_is : (ts : List Token) (x : Keyword × List Token) → first_word ts ≡ Some x → ts ≡ t.Keyword x.0 ∷ x.1
unfolding first_word
first_word_is [] x h = absurd cc
first_word_is (t.Keyword w ∷ ts) x h = cc
first_word_is (t.Name w ∷ ts) x h = absurd cc
first_word_is (t.Symbol w ∷ ts) x h = absurd cc
first_word_is (t.Number w ∷ ts) x h = absurd cc
first_word_is (t.Text w ∷ ts) x h = absurd cc

led_sound : (w : Keyword) (ts : List Token) (v : Form) → led w ts (statement (t.Keyword w ∷ ts)) ≡ Some v → SpellsForm (t.Keyword w ∷ ts) v
led_sound k.DefWord ts v h = def_header_sound ts v h
led_sound k.ClassWord ts v h = class_header_sound ts v h
led_sound k.IfWord ts v h = tested_sound k.IfWord f.if_header g.if_header ts v h
led_sound k.ElifWord ts v h = tested_sound k.ElifWord f.elif_header g.elif_header ts v h
led_sound k.WhileWord ts v h = tested_sound k.WhileWord f.while_header g.while_header ts v h
led_sound k.ElseWord ts v h = else_header_sound ts v h
led_sound k.ForWord ts v h = for_header_sound ts v h
led_sound k.FromWord ts v h = import_names_sound ts v h
led_sound w ts v h = as_form (statement_sound (t.Keyword w ∷ ts) v h)

-- the form that a line is read as is spelled by its tokens
pub line_sound : (ts : List Token) (v : Form) → line ts ≡ Some v → SpellsForm ts v
unfolding line
line_sound ts v h =
    elim (found_some _ _ _ v h) [
      | on x m go ↦
          let parts = first_word_is ts x m in
          let here : led x.0 x.1 (statement (t.Keyword x.0 ∷ x.1)) ≡ Some v = ap (λ (z : List Token). led x.0 x.1 (statement z)) (sym parts) ∙ go in
          subst (λ (z : List Token). SpellsForm z v) (sym parts) (led_sound x.0 x.1 v here)
      | off m other ↦
          elim (found_some _ _ _ v other) [
            | on rest n go ↦ subst (λ (z : List Token). SpellsForm z v) (sym (symbol_is s.At ts rest n)) (decorator_sound rest v go)
            | off n go ↦ as_form (statement_sound ts v go)
          ]
    ]
