-- What is read of expressions and places is spelled so.
use Rattle.std.proofs.Common.{◌≡◌, ℕ, zero, suc, ◌+◌, Bool, true, false, List, [], ◌∷◌, ◌++◌, length, Option, Some, None, refl, sym, ap, subst, ◌∙◌, append_assoc}
use Rattle.std.proofs.lemmas.List.{append-nil}
use Rattle.gp_lex.specs.declared.token.Keyword.{Keyword}
use Rattle.gp_lex.specs.declared.token.Keyword.TheVariants as k
use Rattle.gp_lex.specs.declared.token.Symbol.TheVariants as s
use Rattle.gp_lex.specs.declared.token.Token.{Token}
use Rattle.gp_lex.specs.declared.token.Token.TheVariants as t
use Rattle.gp_form.specs.declared.level.Join.{Join}
use Rattle.gp_form.specs.declared.level.Level.{Level}
use Rattle.gp_form.specs.declared.level.Level.TheVariants.{Whole, Disjunction, Conjunction, Inversion, Comparison, Sum, Term, Factor, Atom}
use Rattle.gp_form.specs.declared.list_end.ListEnd.{ListEnd}
use Rattle.gp_form.specs.declared.list_end.ListEnd.TheVariants as end
use Rattle.gp_form.specs.Grammar as g
use Rattle.gp_form.specs.Grammar.{join_at, joined, place_of, SpellsFields, SpellsPlace, Spells, SpellsItems, SpellsTuple, SpellsExpressions}
use Rattle.gp_form.specs.code.Reading.{fields_from, path_from, place_front, with_join, past_join, chain_from, chain, at_end, past_end, truth_of, items_from, items, expressions, named, atom, factor, term, sum, comparison, inversion, conjunction, disjunction, whole, level, read, expression_front, all_expressions}
use Rattle.gp_form.specs.code.Steps.{Read, ◌>>=◌, past_symbol}
use Rattle.gp_form.proofs.StepLemmas.{bind_some, on, off, found_some, some, some_is, none_some, symbol_is, word_is, name_is, Front, IsSound, made, wider, behind, between, joined_parts}
use Rattle.gp_tree.specs.declared.place.Place.{Place}
use Rattle.gp_tree.specs.Expression.{Expression, number, boolean, text, place, minus, negation, choice, tuple, call, with_expression, expressions_of}

-- ---- places

-- the fields that were read, behind those that were found before
record MoreFields (front : List (List ℕ)) (ts : List Token) (x : List (List ℕ) × List Token) : Type 0 where
  taken : List Token
  parts : ts ≡ taken ++ x.1
  fields : List (List ℕ)
  all : x.0 ≡ front ++ fields
  is : SpellsFields taken fields

no_more_fields : (front : List (List ℕ)) (ts : List Token) (x : List (List ℕ) × List Token) → some {A = List (List ℕ) × List Token} (front, ts) ≡ Some x → MoreFields front ts x
no_more_fields front ts x e = subst (λ (y : List (List ℕ) × List Token). MoreFields front ts y) (some_is (front, ts) x e) (record { taken = []; parts = refl; fields = []; all = sym (append-nil front); is = g.no_field })

fields_sound : (n : ℕ) (front : List (List ℕ)) (ts : List Token) (x : List (List ℕ) × List Token) → fields_from n front ts ≡ Some x → MoreFields front ts x
unfolding fields_from
fields_sound zero front ts x e = no_more_fields front ts x e
fields_sound (suc n) front ts x e =
    elim (found_some _ _ _ x e) [
      | on rest h go ↦
          let b = bind_some _ _ x go in
          let more = fields_sound n (front ++ b.0.0 ∷ []) b.0.1 x b.2 in
          record {
            taken = t.Symbol s.Dot ∷ t.Name b.0.0 ∷ more.taken;
            parts = symbol_is s.Dot ts rest h ∙ ap (λ (z : List Token). t.Symbol s.Dot ∷ z) (name_is rest b.0 b.1 ∙ ap (λ (z : List Token). t.Name b.0.0 ∷ z) more.parts);
            fields = b.0.0 ∷ more.fields;
            all = more.all ∙ append_assoc front (b.0.0 ∷ []) more.fields;
            is = g.one_field b.0.0 more.taken more.fields more.is;
          }
      | off h go ↦ no_more_fields front ts x go
    ]

path_sound : (n : List ℕ) (ts : List Token) (x : Place × List Token) → path_from n ts ≡ Some x → Front SpellsPlace (t.Name n ∷ ts) x
unfolding path_from
path_sound n ts x e =
    let b = bind_some _ _ x e in
    let f = fields_sound (length ts) [] ts b.0 b.1 in
    let is : SpellsPlace (t.Name n ∷ f.taken) (place_of n b.0.0) = subst (λ (z : List (List ℕ)). SpellsPlace (t.Name n ∷ f.taken) (place_of n z)) (sym f.all) (g.path n f.taken f.fields f.is) in
    made SpellsPlace (t.Name n ∷ ts) (place_of n b.0.0) b.0.1 x (t.Name n ∷ f.taken) b.2 (ap (λ (z : List Token). t.Name n ∷ z) f.parts) is

-- a place that is read at the front stands there
pub place_front_sound : IsSound SpellsPlace place_front
unfolding place_front
place_front_sound ts x e =
    let b = bind_some _ _ x e in
    let a = path_sound b.0.0 b.0.1 x b.2 in
    record { taken = a.taken; parts = name_is ts b.0 b.1 ∙ a.parts; is = a.is }

-- ---- operators that group to the left

-- a token that joins, and what it joins
record Joins (l : Level) (ts : List Token) (j : Join) (rest : List Token) : Type 0 where
  token : Token
  parts : ts ≡ token ∷ rest
  joins : join_at l token ≡ Some j

with_join_is : (o : Option Join) (ts : List Token) (x : Join × List Token) → with_join o ts ≡ Some x → (o ≡ Some x.0) × (ts ≡ x.1)
with_join_is (Some j) ts x e = let h = some_is (j, ts) x e in (ap (λ (p : Join × List Token). some p.0) h, ap (λ (p : Join × List Token). p.1) h)
with_join_is None ts x e = absurd cc

join_is : (l : Level) (ts : List Token) (x : Join × List Token) → past_join l ts ≡ Some x → Joins l ts x.0 x.1
unfolding past_join
join_is l [] x e = absurd cc
join_is l (y ∷ ts) x e = let h = with_join_is (join_at l y) ts x e in record { token = y; parts = ap (λ (z : List Token). y ∷ z) h.1; joins = h.0 }

module _ (l : Level) (R : List Token → Expression → Type 0) (next : Read Expression) (next_sound : IsSound R next)
    (up : (a : List Token) (e : Expression) → R a e → Spells l a e)
    (step : (a b : List Token) (x : Token) (j : Join) (left right : Expression) → Spells l a left → join_at l x ≡ Some j → R b right → Spells l (a ++ x ∷ b) (joined j left right)) where
  chain_from_sound : (n : ℕ) (front : List Token) (left : Expression) (ts : List Token) (x : Expression × List Token) → Spells l front left → chain_from l next n left ts ≡ Some x → Front (Spells l) (front ++ ts) x
  unfolding chain_from
  chain_from_sound zero front left ts x is e = made (Spells l) (front ++ ts) left ts x front e refl is
  chain_from_sound (suc n) front left ts x is e =
      elim (found_some _ _ _ x e) [
        | on j h go ↦
            let b = bind_some _ _ x go in
            let here = join_is l ts j h in
            let a = next_sound j.1 b.0 b.1 in
            let grown = step front a.taken here.token j.0 left b.0.0 is here.joins a.is in
            let parts = between here.token (front ++ ts) front ts j.1 a.taken b.0.1 refl here.parts a.parts in
            let more = chain_from_sound n (front ++ here.token ∷ a.taken) (joined j.0 left b.0.0) b.0.1 x grown b.2 in
            record { taken = more.taken; parts = parts ∙ more.parts; is = more.is }
        | off h go ↦ made (Spells l) (front ++ ts) left ts x front go refl is
      ]

  chain_sound : IsSound (Spells l) (chain l next)
  unfolding chain
  chain_sound ts x e =
      let b = bind_some _ _ x e in
      let a = next_sound ts b.0 b.1 in
      let more = chain_from_sound (length ts) a.taken b.0.0 b.0.1 x (up a.taken b.0.0 a.is) b.2 in
      record { taken = more.taken; parts = a.parts ∙ more.parts; is = more.is }

-- ---- the end of a list

-- the tokens that are the end
abbrev closing : ListEnd → List Token
closing end.Paren = t.Symbol s.RightParen ∷ []
closing end.Line = []

at_end_is : (ts rest : List Token) → at_end ts ≡ Some rest → ts ≡ rest
at_end_is [] rest e = some_is [] rest e
at_end_is (x ∷ ts) rest e = absurd cc

end_is : (to : ListEnd) (ts rest : List Token) → past_end to ts ≡ Some rest → ts ≡ closing to ++ rest
unfolding past_end
end_is end.Paren ts rest e = symbol_is s.RightParen ts rest e
end_is end.Line ts rest e = at_end_is ts rest e

-- items, and the end behind them
record Closed (to : ListEnd) (a : List Token) (es : List Expression) : Type 0 where
  inside : List Token
  parts : a ≡ inside ++ closing to
  is : SpellsItems inside (expressions_of es)

-- an expression or a tuple without its parentheses, and the end behind it
record ClosedOne (to : ListEnd) (a : List Token) (e : Expression) : Type 0 where
  inside : List Token
  parts : a ≡ inside ++ closing to
  is : SpellsExpressions inside e

-- parentheses round what may stand in them
enclosed : {a : List Token} {e : Expression} → SpellsExpressions a e → Spells Atom (t.Symbol s.LeftParen ∷ (a ++ t.Symbol s.RightParen ∷ [])) e
enclosed (g.single a e d) = g.grouped a e d
enclosed (g.several a es d) = g.tupled a es d

truth_sound : (x : Keyword) (b : Bool) → truth_of x ≡ Some b → Spells Atom (t.Keyword x ∷ []) (boolean b)
truth_sound k.TrueWord b e = subst (λ z. Spells Atom (t.Keyword k.TrueWord ∷ []) (boolean z)) (some_is true b e) g.truth
truth_sound k.FalseWord b e = subst (λ z. Spells Atom (t.Keyword k.FalseWord ∷ []) (boolean z)) (some_is false b e) g.falsity
truth_sound _ b e = absurd cc

-- ---- levels

module _ (inner : Level → Read Expression) (inner_sound : (l : Level) → IsSound (Spells l) (inner l)) where
  no_items_sound : (to : ListEnd) (ts rest : List Token) (x : List Expression × List Token) → past_end to ts ≡ Some rest → some {A = List Expression × List Token} ([], rest) ≡ Some x → Front (Closed to) ts x
  no_items_sound to ts rest x h go = made (Closed to) ts [] rest x (closing to) go (end_is to ts rest h) (record { inside = []; parts = refl; is = g.no_items })

  items_from_sound : (to : ListEnd) (n : ℕ) → IsSound (Closed to) (items_from inner to n)
  unfolding items_from
  items_from_sound to zero ts x e =
      elim (found_some _ _ _ x e) [
        | on rest h go ↦ no_items_sound to ts rest x h go
        | off h nothing ↦ absurd cc
      ]
  items_from_sound to (suc n) ts x e =
      elim (found_some _ _ _ x e) [
        | on rest h go ↦ no_items_sound to ts rest x h go
        | off h go ↦
            let b = bind_some _ _ x go in
            let a = inner_sound Whole ts b.0 b.1 in
            elim (found_some _ _ _ x b.2) [
              | on rest k end ↦
                  made (Closed to) ts (b.0.0 ∷ []) rest x (a.taken ++ closing to) end
                  (joined_parts ts a.taken b.0.1 (closing to) rest a.parts (end_is to b.0.1 rest k))
                  (record { inside = a.taken; parts = refl; is = g.last_item a.taken b.0.0 a.is })
              | off k other ↦
                  elim (found_some _ _ _ x other) [
                    | on rest m comma ↦
                        let c = bind_some _ _ x comma in
                        let others = items_from_sound to n rest c.0 c.1 in
                        let all = between (t.Symbol s.Comma) ts a.taken b.0.1 rest others.taken c.0.1 a.parts (symbol_is s.Comma b.0.1 rest m) others.parts in
                        let regroup : a.taken ++ t.Symbol s.Comma ∷ others.taken ≡ (a.taken ++ t.Symbol s.Comma ∷ others.is.inside) ++ closing to =
                        ap (λ (z : List Token). a.taken ++ t.Symbol s.Comma ∷ z) others.is.parts ∙ sym (append_assoc a.taken (t.Symbol s.Comma ∷ others.is.inside) (closing to)) in
                        made (Closed to) ts (b.0.0 ∷ c.0.0) c.0.1 x (a.taken ++ t.Symbol s.Comma ∷ others.taken) c.2 all
                        (record { inside = a.taken ++ t.Symbol s.Comma ∷ others.is.inside; parts = regroup; is = g.one_item a.taken others.is.inside b.0.0 (expressions_of c.0.0) a.is others.is.is })
                    | off m nothing ↦ absurd cc
                  ]
            ]
      ]

  items_sound : (to : ListEnd) → IsSound (Closed to) (items inner to)
  unfolding items
  items_sound to ts = items_from_sound to (length ts) ts

  expressions_sound : (to : ListEnd) → IsSound (ClosedOne to) (expressions inner to)
  unfolding expressions
  expressions_sound to ts x e =
      let b = bind_some _ _ x e in
      let a = inner_sound Whole ts b.0 b.1 in
      elim (found_some _ _ _ x b.2) [
        | on rest h go ↦
            made (ClosedOne to) ts b.0.0 rest x (a.taken ++ closing to) go
            (joined_parts ts a.taken b.0.1 (closing to) rest a.parts (end_is to b.0.1 rest h))
            (record { inside = a.taken; parts = refl; is = g.single a.taken b.0.0 a.is })
        | off h other ↦
            elim (found_some _ _ _ x other) [
              | on rest m comma ↦
                  let c = bind_some _ _ x comma in
                  let others = items_sound to rest c.0 c.1 in
                  let all = between (t.Symbol s.Comma) ts a.taken b.0.1 rest others.taken c.0.1 a.parts (symbol_is s.Comma b.0.1 rest m) others.parts in
                  let regroup : a.taken ++ t.Symbol s.Comma ∷ others.taken ≡ (a.taken ++ t.Symbol s.Comma ∷ others.is.inside) ++ closing to =
                  ap (λ (z : List Token). a.taken ++ t.Symbol s.Comma ∷ z) others.is.parts ∙ sym (append_assoc a.taken (t.Symbol s.Comma ∷ others.is.inside) (closing to)) in
                  made (ClosedOne to) ts (tuple (with_expression b.0.0 (expressions_of c.0.0))) c.0.1 x (a.taken ++ t.Symbol s.Comma ∷ others.taken) c.2 all
                  (record {
                    inside = a.taken ++ t.Symbol s.Comma ∷ others.is.inside;
                    parts = regroup;
                    is = g.several _ _ (g.parts a.taken others.is.inside b.0.0 (expressions_of c.0.0) a.is others.is.is);
                  })
              | off m nothing ↦ absurd cc
            ]
      ]

  named_sound : (n : List ℕ) (ts : List Token) (x : Expression × List Token) → named inner n ts ≡ Some x → Front (Spells Atom) (t.Name n ∷ ts) x
  unfolding named
  named_sound n ts x e =
      elim (found_some _ _ _ x e) [
        | on rest h go ↦
            let c = bind_some _ _ x go in
            let others = items_sound end.Paren rest c.0 c.1 in
            let regroup = ap (λ (z : List Token). t.Name n ∷ t.Symbol s.LeftParen ∷ z) (sym others.is.parts) in
            made (Spells Atom) (t.Name n ∷ ts) (call n (expressions_of c.0.0)) c.0.1 x (t.Name n ∷ t.Symbol s.LeftParen ∷ others.taken) c.2
            (ap (λ (z : List Token). t.Name n ∷ z) (behind (t.Symbol s.LeftParen) ts rest others.taken c.0.1 (symbol_is s.LeftParen ts rest h) others.parts))
            (subst (λ (z : List Token). Spells Atom z (call n (expressions_of c.0.0))) regroup (g.calling n others.is.inside (expressions_of c.0.0) others.is.is))
        | off h go ↦
            let b = bind_some _ _ x go in
            let a = path_sound n ts b.0 b.1 in
            made (Spells Atom) (t.Name n ∷ ts) (place b.0.0) b.0.1 x a.taken b.2 a.parts (g.reading a.taken b.0.0 a.is)
      ]

  atom_sound : IsSound (Spells Atom) (atom inner)
  unfolding atom
  atom_sound [] x e = absurd cc
  atom_sound (t.Number n ∷ ts) x e = made (Spells Atom) (t.Number n ∷ ts) (number n) ts x (t.Number n ∷ []) e refl (g.numeral n)
  atom_sound (t.Text n ∷ ts) x e = made (Spells Atom) (t.Text n ∷ ts) (text n) ts x (t.Text n ∷ []) e refl (g.string n)
  atom_sound (t.Name n ∷ ts) x e = named_sound n ts x e
  atom_sound (t.Keyword y ∷ ts) x e =
      let b = bind_some _ _ x e in
      made (Spells Atom) (t.Keyword y ∷ ts) (boolean b.0) ts x (t.Keyword y ∷ []) b.2 refl (truth_sound y b.0 b.1)
  atom_sound (t.Symbol y ∷ ts) x e =
      elim (found_some _ _ _ x e) [
        | on rest h go ↦
            let a = expressions_sound end.Paren rest x go in
            let regroup = ap (λ (z : List Token). t.Symbol s.LeftParen ∷ z) (sym a.is.parts) in
            record {
              taken = t.Symbol s.LeftParen ∷ a.taken;
              parts = behind (t.Symbol s.LeftParen) (t.Symbol y ∷ ts) rest a.taken x.1 (symbol_is s.LeftParen (t.Symbol y ∷ ts) rest h) a.parts;
              is = subst (λ (z : List Token). Spells Atom z x.0) regroup (enclosed a.is.is);
            }
        | off h nothing ↦ absurd cc
      ]

  factor_sound : IsSound (Spells Factor) (factor inner)
  unfolding factor
  factor_sound ts x e =
      elim (found_some _ _ _ x e) [
        | on rest h go ↦
            let b = bind_some _ _ x go in
            let a = inner_sound Factor rest b.0 b.1 in
            made (Spells Factor) ts (minus b.0.0) b.0.1 x (t.Symbol s.Minus ∷ a.taken) b.2 (behind (t.Symbol s.Minus) ts rest a.taken b.0.1 (symbol_is s.Minus ts rest h) a.parts) (g.negative a.taken b.0.0 a.is)
        | off h go ↦ wider ts x g.factor_atom (atom_sound ts x go)
      ]

  term_sound : IsSound (Spells Term) (term inner)
  term_sound = chain_sound Term (Spells Factor) (factor inner) factor_sound g.term_factor g.multiplied

  sum_sound : IsSound (Spells Sum) (sum inner)
  sum_sound = chain_sound Sum (Spells Term) (term inner) term_sound g.sum_term g.added

  comparison_sound : IsSound (Spells Comparison) (comparison inner)
  unfolding comparison
  comparison_sound ts x e =
      let b = bind_some _ _ x e in
      let a = sum_sound ts b.0 b.1 in
      elim (found_some _ _ _ x b.2) [
        | on j h go ↦
            let c = bind_some _ _ x go in
            let here = join_is Comparison b.0.1 j h in
            let d = sum_sound j.1 c.0 c.1 in
            made (Spells Comparison) ts (joined j.0 b.0.0 c.0.0) c.0.1 x (a.taken ++ here.token ∷ d.taken) c.2
            (between here.token ts a.taken b.0.1 j.1 d.taken c.0.1 a.parts here.parts d.parts)
            (g.compared a.taken d.taken here.token j.0 b.0.0 c.0.0 a.is here.joins d.is)
        | off h go ↦ made (Spells Comparison) ts b.0.0 b.0.1 x a.taken go a.parts (g.comparison_sum a.taken b.0.0 a.is)
      ]

  inversion_sound : IsSound (Spells Inversion) (inversion inner)
  unfolding inversion
  inversion_sound ts x e =
      elim (found_some _ _ _ x e) [
        | on rest h go ↦
            let b = bind_some _ _ x go in
            let a = inner_sound Inversion rest b.0 b.1 in
            made (Spells Inversion) ts (negation b.0.0) b.0.1 x (t.Keyword k.NotWord ∷ a.taken) b.2 (behind (t.Keyword k.NotWord) ts rest a.taken b.0.1 (word_is k.NotWord ts rest h) a.parts) (g.inverted a.taken b.0.0 a.is)
        | off h go ↦ wider ts x g.inversion_comparison (comparison_sound ts x go)
      ]

  conjunction_sound : IsSound (Spells Conjunction) (conjunction inner)
  conjunction_sound = chain_sound Conjunction (Spells Inversion) (inversion inner) inversion_sound g.conjunction_inversion g.conjoined

  disjunction_sound : IsSound (Spells Disjunction) (disjunction inner)
  disjunction_sound = chain_sound Disjunction (Spells Conjunction) (conjunction inner) conjunction_sound g.disjunction_conjunction g.disjoined

  whole_sound : IsSound (Spells Whole) (whole inner)
  unfolding whole
  whole_sound ts x e =
      let b = bind_some _ _ x e in
      let a = disjunction_sound ts b.0 b.1 in
      elim (found_some _ _ _ x b.2) [
        | on rest h go ↦
            let c = bind_some _ _ x go in
            let d = disjunction_sound rest c.0 c.1 in
            elim (found_some _ _ _ x c.2) [
              | on rest2 h2 go2 ↦
                  let f = bind_some _ _ x go2 in
                  let i = inner_sound Whole rest2 f.0 f.1 in
                  let back = between (t.Keyword k.ElseWord) rest d.taken c.0.1 rest2 i.taken f.0.1 d.parts (word_is k.ElseWord c.0.1 rest2 h2) i.parts in
                  made (Spells Whole) ts (choice c.0.0 b.0.0 f.0.0) f.0.1 x (a.taken ++ t.Keyword k.IfWord ∷ (d.taken ++ t.Keyword k.ElseWord ∷ i.taken)) f.2
                  (between (t.Keyword k.IfWord) ts a.taken b.0.1 rest (d.taken ++ t.Keyword k.ElseWord ∷ i.taken) f.0.1 a.parts (word_is k.IfWord b.0.1 rest h) back)
                  (g.chosen a.taken d.taken i.taken b.0.0 c.0.0 f.0.0 a.is d.is i.is)
              | off h2 nothing ↦ absurd cc
            ]
        | off h go ↦ made (Spells Whole) ts b.0.0 b.0.1 x a.taken go a.parts (g.whole_disjunction a.taken b.0.0 a.is)
      ]

  level_sound : (l : Level) → IsSound (Spells l) (level inner l)
  level_sound Whole = whole_sound
  level_sound Disjunction = disjunction_sound
  level_sound Conjunction = conjunction_sound
  level_sound Inversion = inversion_sound
  level_sound Comparison = comparison_sound
  level_sound Sum = sum_sound
  level_sound Term = term_sound
  level_sound Factor = factor_sound
  level_sound Atom = atom_sound

read_sound : (n : ℕ) (l : Level) → IsSound (Spells l) (read n l)
unfolding read
read_sound zero l ts x e = absurd cc
read_sound (suc n) l ts x e = level_sound (read n) (read_sound n) l ts x e

-- ---- what the forms of lines want

-- an expression that is read at the front stands there
pub expression_front_sound : IsSound (Spells Whole) expression_front
unfolding expression_front
expression_front_sound ts x e = level_sound (read (length ts)) (read_sound (length ts)) Whole ts x e

-- nothing stands behind what goes up to the end of the line
at_end_empty : (ts rest : List Token) → at_end ts ≡ Some rest → rest ≡ []
at_end_empty [] rest e = sym (some_is [] rest e)
at_end_empty (x ∷ ts) rest e = absurd cc

no_rest : {X : Type 0} (v : X) (rest : List Token) (x : X × List Token) → some {A = X × List Token} (v, rest) ≡ Some x → rest ≡ [] → x.1 ≡ []
no_rest {X} v rest x e h = sym (ap (λ (p : X × List Token). p.1) (some_is (v, rest) x e)) ∙ h

line_items_end : (inner : Level → Read Expression) (n : ℕ) (ts : List Token) (x : List Expression × List Token) → items_from inner end.Line n ts ≡ Some x → x.1 ≡ []
unfolding items_from past_end
line_items_end inner zero ts x e =
    elim (found_some _ _ _ x e) [
      | on rest h go ↦ no_rest [] rest x go (at_end_empty ts rest h)
      | off h nothing ↦ absurd cc
    ]
line_items_end inner (suc n) ts x e =
    elim (found_some _ _ _ x e) [
      | on rest h go ↦ no_rest [] rest x go (at_end_empty ts rest h)
      | off h go ↦
          let b = bind_some (inner Whole ts) _ x go in
          elim (found_some _ _ _ x b.2) [
            | on rest k end ↦ no_rest (b.0.0 ∷ []) rest x end (at_end_empty b.0.1 rest k)
            | off k other ↦
                elim (found_some (past_symbol s.Comma b.0.1) (λ rest. items_from inner end.Line n rest >>= λ y. Some (b.0.0 ∷ y.0, y.1)) None x other) [
                  | on rest m comma ↦
                      let c = bind_some (items_from inner end.Line n rest) _ x comma in
                      no_rest (b.0.0 ∷ c.0.0) c.0.1 x c.2 (line_items_end inner n rest c.0 c.1)
                  | off m nothing ↦ absurd (none_some x nothing)
                ]
          ]
    ]

line_end_is : (inner : Level → Read Expression) (ts : List Token) (x : Expression × List Token) → expressions inner end.Line ts ≡ Some x → x.1 ≡ []
unfolding expressions items past_end
line_end_is inner ts x e =
    let b = bind_some (inner Whole ts) _ x e in
    elim (found_some _ _ _ x b.2) [
      | on rest h go ↦ no_rest b.0.0 rest x go (at_end_empty b.0.1 rest h)
      | off h other ↦
          elim (found_some (past_symbol s.Comma b.0.1) (λ rest. items inner end.Line rest >>= λ y. Some (tuple (with_expression b.0.0 (expressions_of y.0)), y.1)) None x other) [
            | on rest m comma ↦
                let c = bind_some (items inner end.Line rest) _ x comma in
                no_rest (tuple (with_expression b.0.0 (expressions_of c.0.0))) c.0.1 x c.2 (line_items_end inner (length rest) rest c.0 c.1)
            | off m nothing ↦ absurd (none_some x nothing)
          ]
    ]

-- an expression or a tuple without its parentheses that is read as all of the tokens is spelled by them
pub all_expressions_sound : (ts : List Token) (e : Expression) → all_expressions ts ≡ Some e → SpellsExpressions ts e
unfolding all_expressions
all_expressions_sound ts e h =
    let inner = read (length ts + 1) in
    let b = bind_some (expressions inner end.Line ts) (λ x. Some x.0) e h in
    let a = expressions_sound inner (read_sound (length ts + 1)) end.Line ts b.0 b.1 in
    let all : ts ≡ a.is.inside =
    a.parts ∙ ap (λ (z : List Token). a.taken ++ z) (line_end_is inner ts b.0 b.1) ∙ append-nil a.taken ∙ a.is.parts ∙ append-nil a.is.inside in
    subst (λ (z : List Token). SpellsExpressions z e) (sym all) (subst (λ (z : Expression). SpellsExpressions a.is.inside z) (some_is b.0.0 e b.2) a.is.is)
