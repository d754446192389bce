-- What is spelled so is read, whatever ends it. So tokens spell at most one expression.
use Rattle.std.proofs.Common.{◌≡◌, ℕ, ℤ, zero, suc, ◌+◌, ◌-◌, ◌<◌, ◌≤◌, true, false, List, [], ◌∷◌, ◌++◌, length, Option, Some, None, refl, sym, ap, ◌∙◌, append_assoc, arith, length-append}
use Rattle.std.proofs.lemmas.List.{append-nil}
use Rattle.gp_lex.specs.declared.token.Keyword.TheVariants as k
use Rattle.gp_lex.specs.declared.token.Symbol.TheVariants as s
use Rattle.gp_lex.specs.declared.token.Token.{Token}
use Rattle.gp_lex.specs.declared.token.Token.TheVariants as t
use Rattle.gp_form.specs.declared.level.Join.{Join}
use Rattle.gp_form.specs.declared.level.Level.{Level}
use Rattle.gp_form.specs.declared.level.Level.TheVariants.{Whole, Disjunction, Conjunction, Inversion, Comparison, Sum, Term, Factor, Atom}
use Rattle.gp_form.specs.declared.list_end.ListEnd.{ListEnd}
use Rattle.gp_form.specs.declared.list_end.ListEnd.TheVariants as end
use Rattle.gp_form.specs.Grammar as g
use Rattle.gp_form.specs.Grammar.{join_at, joined, place_of, SpellsFields, SpellsPlace, Spells, SpellsItems, SpellsTuple, SpellsExpressions}
use Rattle.gp_form.specs.code.Reading.{fields_from, path_from, place_front, chain_from, chain, past_end, items_from, items, expressions, named, atom, factor, comparison, inversion, whole, level, tighter, looseness, read, expression_front, all_expressions}
use Rattle.gp_form.specs.code.Steps.{◌>>=◌, past_symbol, past_word, past_name}
use Rattle.gp_form.proofs.Follow.{first_binds, joins_bind, no_join, some_join, no_bracket, no_dot, no_if, comma_goes_on, Begins, begins_looser, begins_longer, some_token, not_symbol, not_word, not_end}
use Rattle.gp_form.proofs.StepLemmas.{some, some_is}
use Rattle.gp_tree.specs.declared.place.Place.{Place}
use Rattle.gp_tree.specs.Expression.{Expression, number, boolean, text, place, minus, negation, choice, tuple, call, Expressions, no_expressions, with_expression, expressions_of}

-- ---- places

fields_complete : {a : List Token} {fields : List (List ℕ)} → SpellsFields a fields → (m : ℕ) (front : List (List ℕ)) (rest : List Token) → length a ≤ m → past_symbol s.Dot rest ≡ None → fields_from m front (a ++ rest) ≡ Some (front ++ fields, rest)
unfolding fields_from past_symbol past_name
fields_complete g.no_field zero front rest le ends = ap (λ (z : List (List ℕ)). some (z, rest)) (sym (append-nil front))
fields_complete g.no_field (suc m) front rest le ends = rw ends (ap (λ (z : List (List ℕ)). some (z, rest)) (sym (append-nil front)))
fields_complete (g.one_field n a fields d) zero front rest le ends = absurd (omega arith)
fields_complete (g.one_field n a fields d) (suc m) front rest le ends =
    fields_complete d m (front ++ n ∷ []) rest (omega arith) ends ∙ ap (λ (z : List (List ℕ)). some (z, rest)) (append_assoc front (n ∷ []) fields)

path_complete : (n : List ℕ) (a : List Token) (fields : List (List ℕ)) (rest : List Token) → SpellsFields a fields → past_symbol s.Dot rest ≡ None → path_from n (a ++ rest) ≡ Some (place_of n fields, rest)
unfolding path_from
path_complete n a fields rest d ends =
    rw (fields_complete d (length (a ++ rest)) [] rest (omega (arith, length-append a rest)) ends) refl

-- a place is read where no dot stands behind it
pub place_front_complete : {a : List Token} {p : Place} → SpellsPlace a p → (rest : List Token) → past_symbol s.Dot rest ≡ None → place_front (a ++ rest) ≡ Some (p, rest)
unfolding place_front past_name
place_front_complete (g.path n a fields d) rest ends = path_complete n a fields rest d ends

-- ---- what is shown of each level

-- the levels whose operators group to the left
abbrev IsChain : Level → Type 0
IsChain Disjunction = Unit {0}
IsChain Conjunction = Unit {0}
IsChain Sum = Unit {0}
IsChain Term = Unit {0}
IsChain _ = ⊥

-- the reading comes to a turn of the chain with this expression in hand, and turns enough for the rest
record Into (l : Level) (n : ℕ) (ts : List Token) (e : Expression) (rest : List Token) : Type 0 where
  turns : ℕ
  enough : length rest < turns
  leads : level (read n) l ts ≡ chain_from l (level (read n) (tighter l)) turns e rest

record Complete (l : Level) (a : List Token) (e : Expression) : Type 0 where
  begins : Begins a (looseness l)
  reads : (n : ℕ) (rest : List Token) → length a ≤ n → first_binds rest + looseness l ≤ 8 → level (read n) l (a ++ rest) ≡ Some (e, rest)
  chains : IsChain l → (n : ℕ) (rest : List Token) → length a ≤ n → first_binds rest + looseness (tighter l) ≤ 8 → Into l n (a ++ rest) e rest

at_depth : (n : ℕ) (l : Level) (ts : List Token) → 0 < n → read n l ts ≡ level (read (n - 1)) l ts
unfolding read
at_depth n l ts some = let e : n ≡ suc (n - 1) = omega arith in ap (λ (k : ℕ). read k l ts) e

-- read one step deeper
deeper : (l : Level) (a : List Token) (e : Expression) (n : ℕ) (rest : List Token) → Complete l a e → length a < n → first_binds rest + looseness l ≤ 8 → read n l (a ++ rest) ≡ Some (e, rest)
deeper l a e n rest c le ends = at_depth n l (a ++ rest) (omega arith) ∙ c.reads (n - 1) rest (omega arith) ends

-- ---- operators that group to the left

module _ (l : Level) (is : IsChain l) (loose : looseness l ≡ suc (looseness (tighter l)))
    (is_chain : (n : ℕ) (ts : List Token) → level (read n) l ts ≡ chain l (level (read n) (tighter l)) ts) where
  base_into : (a : List Token) (e : Expression) → Complete (tighter l) a e → (n : ℕ) (rest : List Token) → length a ≤ n → first_binds rest + looseness (tighter l) ≤ 8 → Into l n (a ++ rest) e rest
  unfolding chain
  base_into a e c n rest le ends =
      let here = c.reads n rest le ends in
      record {
        turns = length (a ++ rest);
        enough = omega (arith, length-append a rest, some_token a _ c.begins);
        leads = is_chain n (a ++ rest) ∙ ap (λ (o : Option (Expression × List Token)). o >>= λ x. chain_from l (level (read n) (tighter l)) (length (a ++ rest)) x.0 x.1) here;
      }

  step_into : (a b : List Token) (x : Token) (j : Join) (left right : Expression) → Complete l a left → join_at l x ≡ Some j → Complete (tighter l) b right → (n : ℕ) (rest : List Token) → length (a ++ x ∷ b) ≤ n → first_binds rest + looseness (tighter l) ≤ 8 → Into l n ((a ++ x ∷ b) ++ rest) (joined j left right) rest
  unfolding chain_from
  step_into a b x j left right c h d n rest le ends =
      let next = level (read n) (tighter l) in
      let i = c.chains is n (x ∷ (b ++ rest)) (omega (arith, length-append a (x ∷ b))) (omega (arith, joins_bind l x j h, loose)) in
      let turns : i.turns ≡ suc (i.turns - 1) = omega (arith, i.enough) in
      let long : length (b ++ rest) + 1 < i.turns = omega (arith, i.enough) in
      let there = d.reads n rest (omega (arith, length-append a (x ∷ b))) ends in
      let turn : chain_from l next (suc (i.turns - 1)) left (x ∷ (b ++ rest)) ≡ chain_from l next (i.turns - 1) (joined j left right) rest =
      rw (some_join l x j (b ++ rest) h, there) refl in
      record {
        turns = i.turns - 1;
        enough = omega (arith, length-append b rest, long);
        leads = ap (λ (z : List Token). level (read n) l z) (append_assoc a (x ∷ b) rest) ∙ i.leads ∙ ap (λ (m : ℕ). chain_from l next m left (x ∷ (b ++ rest))) turns ∙ turn;
      }

  ends_chain : (n : ℕ) (ts : List Token) (e : Expression) (rest : List Token) → Into l n ts e rest → first_binds rest + looseness l ≤ 8 → level (read n) l ts ≡ Some (e, rest)
  unfolding chain_from
  ends_chain n ts e rest i ends =
      let next = level (read n) (tighter l) in
      let turns : i.turns ≡ suc (i.turns - 1) = omega (arith, i.enough) in
      let turn : chain_from l next (suc (i.turns - 1)) e rest ≡ Some (e, rest) = rw (no_join l rest ends) refl in
      i.leads ∙ ap (λ (m : ℕ). chain_from l next m e rest) turns ∙ turn

  base : (a : List Token) (e : Expression) → Complete (tighter l) a e → Complete l a e
  base a e c = record {
    begins = begins_looser a _ _ (omega (arith, loose)) c.begins;
    reads = λ n rest le ends. ends_chain n (a ++ rest) e rest (base_into a e c n rest le (omega (arith, loose))) ends;
    chains = λ _ n rest le ends. base_into a e c n rest le ends;
  }

  step : (a b : List Token) (x : Token) (j : Join) (left right : Expression) → Complete l a left → join_at l x ≡ Some j → Complete (tighter l) b right → Complete l (a ++ x ∷ b) (joined j left right)
  step a b x j left right c h d = record {
    begins = begins_longer a (x ∷ b) _ c.begins;
    reads = λ n rest le ends. ends_chain n ((a ++ x ∷ b) ++ rest) (joined j left right) rest (step_into a b x j left right c h d n rest le (omega (arith, loose))) ends;
    chains = λ _ n rest le ends. step_into a b x j left right c h d n rest le ends;
  }

-- ---- items, and what stands in parentheses

-- what is read of items, and that they are these
record ReadsItems (o : Option (List Expression × List Token)) (es : Expressions) (rest : List Token) : Type 0 where
  found : List Expression
  are : expressions_of found ≡ es
  reads : o ≡ Some (found, rest)

abbrev CompleteItems : List Token → Expressions → Type 0
CompleteItems a es = (to : ListEnd) (n m : ℕ) (tail rest : List Token) → past_end to tail ≡ Some rest → first_binds tail ≡ 0 → length a < n → length a ≤ m → ReadsItems (items_from (read n) to m (a ++ tail)) es rest

items_turn : (to : ListEnd) (n m : ℕ) (ts : List Token) → 0 < m → items_from (read n) to m ts ≡ items_from (read n) to (suc (m - 1)) ts
items_turn to n m ts some = let e : m ≡ suc (m - 1) = omega arith in ap (λ (k : ℕ). items_from (read n) to k ts) e

no_items_complete : CompleteItems [] no_expressions
unfolding items_from
no_items_complete to n zero tail rest ends loose deep long = record { found = []; are = refl; reads = rw ends refl }
no_items_complete to n (suc m) tail rest ends loose deep long = record { found = []; are = refl; reads = rw ends refl }

last_item_complete : (a : List Token) (e : Expression) → Complete Whole a e → CompleteItems a (with_expression e no_expressions)
unfolding items_from
last_item_complete a e c to n m tail rest ends loose deep long =
    let some = some_token a _ c.begins in
    let going = not_end to a tail _ c.begins (omega arith) in
    let here = deeper Whole a e n tail c deep (omega arith) in
    record { found = e ∷ []; are = refl; reads = items_turn to n m (a ++ tail) (omega arith) ∙ rw (going, here, ends) refl }

one_item_complete : (a b : List Token) (e : Expression) (es : Expressions) → Complete Whole a e → CompleteItems b es → CompleteItems (a ++ t.Symbol s.Comma ∷ b) (with_expression e es)
unfolding items_from past_symbol
one_item_complete a b e es c d to n m tail rest ends loose deep long =
    let comma = t.Symbol s.Comma ∷ (b ++ tail) in
    let sized = length-append a (t.Symbol s.Comma ∷ b) in
    let going = not_end to a comma _ c.begins (omega arith) in
    let here = deeper Whole a e n comma c (omega (arith, sized)) (omega arith) in
    let others = d to n (m - 1) tail rest ends loose (omega (arith, sized)) (omega (arith, sized)) in
    record {
      found = e ∷ others.found;
      are = ap (λ (z : Expressions). with_expression e z) others.are;
      reads = ap (items_from (read n) to m) (append_assoc a (t.Symbol s.Comma ∷ b) tail) ∙ items_turn to n m (a ++ comma) (omega (arith, sized)) ∙ rw (going, here, comma_goes_on to (b ++ tail), others.reads) refl;
    }

all_items : (to : ListEnd) (n : ℕ) (a : List Token) (es : Expressions) (tail rest : List Token) → CompleteItems a es → past_end to tail ≡ Some rest → first_binds tail ≡ 0 → length a < n → ReadsItems (items (read n) to (a ++ tail)) es rest
unfolding items
all_items to n a es tail rest c ends loose deep = c to n (length (a ++ tail)) tail rest ends loose deep (omega (arith, length-append a tail))

abbrev CompleteExpressions : List Token → Expression → Type 0
CompleteExpressions a e = (to : ListEnd) (n : ℕ) (tail rest : List Token) → past_end to tail ≡ Some rest → first_binds tail ≡ 0 → length a < n → expressions (read n) to (a ++ tail) ≡ Some (e, rest)

single_complete : (a : List Token) (e : Expression) → Complete Whole a e → CompleteExpressions a e
unfolding expressions
single_complete a e c to n tail rest ends loose deep = rw (deeper Whole a e n tail c deep (omega arith), ends) refl

parts_complete : (a b : List Token) (e : Expression) (es : Expressions) → Complete Whole a e → CompleteItems b es → CompleteExpressions (a ++ t.Symbol s.Comma ∷ b) (tuple (with_expression e es))
unfolding expressions past_symbol
parts_complete a b e es c d to n tail rest ends loose deep =
    let comma = t.Symbol s.Comma ∷ (b ++ tail) in
    let sized = length-append a (t.Symbol s.Comma ∷ b) in
    let here = deeper Whole a e n comma c (omega (arith, sized)) (omega arith) in
    let others = all_items to n b es tail rest d ends loose (omega (arith, sized)) in
    ap (expressions (read n) to) (append_assoc a (t.Symbol s.Comma ∷ b) tail) ∙ rw (here, comma_goes_on to (b ++ tail), others.reads) (ap (λ (z : Expressions). some (tuple (with_expression e z), rest)) others.are)

closes : (rest : List Token) → past_end end.Paren (t.Symbol s.RightParen ∷ rest) ≡ Some rest
unfolding past_end past_symbol
closes rest = refl

-- ---- atoms

numeral_complete : (n : ℤ) → Complete Atom (t.Number n ∷ []) (number n)
unfolding atom
numeral_complete n = record { begins = record { token = t.Number n; others = []; parts = refl; within = omega arith }; reads = λ _ rest le ends. refl; chains = λ h. absurd h }

truth_complete : Complete Atom (t.Keyword k.TrueWord ∷ []) (boolean true)
unfolding atom
truth_complete = record { begins = record { token = t.Keyword k.TrueWord; others = []; parts = refl; within = omega arith }; reads = λ _ rest le ends. refl; chains = λ h. absurd h }

falsity_complete : Complete Atom (t.Keyword k.FalseWord ∷ []) (boolean false)
unfolding atom
falsity_complete = record { begins = record { token = t.Keyword k.FalseWord; others = []; parts = refl; within = omega arith }; reads = λ _ rest le ends. refl; chains = λ h. absurd h }

string_complete : (bytes : List ℕ) → Complete Atom (t.Text bytes ∷ []) (text bytes)
unfolding atom
string_complete bytes = record { begins = record { token = t.Text bytes; others = []; parts = refl; within = omega arith }; reads = λ _ rest le ends. refl; chains = λ h. absurd h }

no_call : {a : List Token} {fields : List (List ℕ)} → SpellsFields a fields → (rest : List Token) → first_binds rest ≤ 8 → past_symbol s.LeftParen (a ++ rest) ≡ None
unfolding past_symbol
no_call g.no_field rest ends = no_bracket rest ends
no_call (g.one_field n a fields d) rest ends = refl

reading_complete : {a : List Token} {p : Place} → SpellsPlace a p → Complete Atom a (place p)
unfolding atom named
reading_complete (g.path n a fields d) = record {
  begins = record { token = t.Name n; others = a; parts = refl; within = omega arith };
  reads = λ _ rest le ends. rw (no_call d rest (omega arith), path_complete n a fields rest d (no_dot rest (omega arith))) refl;
  chains = λ h. absurd h;
}

calling_complete : (n : List ℕ) (a : List Token) (es : Expressions) → CompleteItems a es → Complete Atom (t.Name n ∷ t.Symbol s.LeftParen ∷ (a ++ t.Symbol s.RightParen ∷ [])) (call n es)
unfolding atom named past_symbol
calling_complete n a es c = record {
  begins = record { token = t.Name n; others = _; parts = refl; within = omega arith };
  reads = λ m rest le ends.
      let tail = t.Symbol s.RightParen ∷ rest in
      let here = all_items end.Paren m a es tail rest c (closes rest) refl (omega (arith, length-append a (t.Symbol s.RightParen ∷ []))) in
      rw (append_assoc a (t.Symbol s.RightParen ∷ []) rest, here.reads) (ap (λ (z : Expressions). some (call n z, rest)) here.are);
  chains = λ h. absurd h;
}

enclosed_complete : (a : List Token) (e : Expression) → CompleteExpressions a e → Complete Atom (t.Symbol s.LeftParen ∷ (a ++ t.Symbol s.RightParen ∷ [])) e
unfolding atom past_symbol
enclosed_complete a e c = record {
  begins = record { token = t.Symbol s.LeftParen; others = _; parts = refl; within = omega arith };
  reads = λ m rest le ends.
      let tail = t.Symbol s.RightParen ∷ rest in
      let here = c end.Paren m tail rest (closes rest) refl (omega (arith, length-append a (t.Symbol s.RightParen ∷ []))) in
      ap (expressions (read m) end.Paren) (append_assoc a (t.Symbol s.RightParen ∷ []) rest) ∙ here;
  chains = λ h. absurd h;
}

-- ---- the other levels

factor_atom_complete : (a : List Token) (e : Expression) → Complete Atom a e → Complete Factor a e
unfolding factor
factor_atom_complete a e c = record {
  begins = begins_looser a _ _ (omega arith) c.begins;
  reads = λ n rest le ends. rw (not_symbol s.Minus a rest _ c.begins (omega arith)) (c.reads n rest le (omega arith));
  chains = λ h. absurd h;
}

negative_complete : (a : List Token) (e : Expression) → Complete Factor a e → Complete Factor (t.Symbol s.Minus ∷ a) (minus e)
unfolding factor past_symbol
negative_complete a e c = record {
  begins = record { token = t.Symbol s.Minus; others = a; parts = refl; within = omega arith };
  reads = λ n rest le ends. rw (deeper Factor a e n rest c (omega arith) ends) refl;
  chains = λ h. absurd h;
}

comparison_sum_complete : (a : List Token) (e : Expression) → Complete Sum a e → Complete Comparison a e
unfolding comparison
comparison_sum_complete a e c = record {
  begins = begins_looser a _ _ (omega arith) c.begins;
  reads = λ n rest le ends. rw (c.reads n rest le (omega arith), no_join Comparison rest ends) refl;
  chains = λ h. absurd h;
}

compared_complete : (a b : List Token) (x : Token) (j : Join) (left right : Expression) → Complete Sum a left → join_at Comparison x ≡ Some j → Complete Sum b right → Complete Comparison (a ++ x ∷ b) (joined j left right)
unfolding comparison
compared_complete a b x j left right c h d = record {
  begins = begins_longer a (x ∷ b) _ (begins_looser a _ _ (omega arith) c.begins);
  reads = λ n rest le ends.
      let sized = length-append a (x ∷ b) in
      let first = c.reads n (x ∷ (b ++ rest)) (omega (arith, sized)) (omega (arith, joins_bind Comparison x j h)) in
      let second = d.reads n rest (omega (arith, sized)) (omega arith) in
      ap (comparison (read n)) (append_assoc a (x ∷ b) rest) ∙ rw (first, some_join Comparison x j (b ++ rest) h, second) refl;
  chains = λ z. absurd z;
}

inversion_comparison_complete : (a : List Token) (e : Expression) → Complete Comparison a e → Complete Inversion a e
unfolding inversion
inversion_comparison_complete a e c = record {
  begins = begins_looser a _ _ (omega arith) c.begins;
  reads = λ n rest le ends. rw (not_word k.NotWord a rest _ c.begins (omega arith)) (c.reads n rest le (omega arith));
  chains = λ h. absurd h;
}

inverted_complete : (a : List Token) (e : Expression) → Complete Inversion a e → Complete Inversion (t.Keyword k.NotWord ∷ a) (negation e)
unfolding inversion past_word
inverted_complete a e c = record {
  begins = record { token = t.Keyword k.NotWord; others = a; parts = refl; within = omega arith };
  reads = λ n rest le ends. rw (deeper Inversion a e n rest c (omega arith) ends) refl;
  chains = λ h. absurd h;
}

whole_disjunction_complete : (a : List Token) (e : Expression) → Complete Disjunction a e → Complete Whole a e
unfolding whole
whole_disjunction_complete a e c = record {
  begins = begins_looser a _ _ (omega arith) c.begins;
  reads = λ n rest le ends. rw (c.reads n rest le (omega arith), no_if rest (omega arith)) refl;
  chains = λ h. absurd h;
}

chosen_complete : (a b c : List Token) (value test other : Expression) → Complete Disjunction a value → Complete Disjunction b test → Complete Whole c other → Complete Whole (a ++ t.Keyword k.IfWord ∷ (b ++ t.Keyword k.ElseWord ∷ c)) (choice test value other)
unfolding whole past_word
chosen_complete a b c value test other p q r = record {
  begins = begins_longer a _ _ (begins_looser a _ _ (omega arith) p.begins);
  reads = λ n rest le ends.
      let tail = t.Keyword k.ElseWord ∷ c in
      let sized = length-append a (t.Keyword k.IfWord ∷ (b ++ tail)) in
      let sized2 = length-append b tail in
      let first = p.reads n (t.Keyword k.IfWord ∷ (b ++ (tail ++ rest))) (omega (arith, sized)) (omega arith) in
      let second = q.reads n (tail ++ rest) (omega (arith, sized, sized2)) (omega arith) in
      let third = deeper Whole c other n rest r (omega (arith, sized, sized2)) ends in
      let regroup : (a ++ t.Keyword k.IfWord ∷ (b ++ tail)) ++ rest ≡ a ++ t.Keyword k.IfWord ∷ (b ++ (tail ++ rest)) =
      append_assoc a (t.Keyword k.IfWord ∷ (b ++ tail)) rest ∙ ap (λ (w : List Token). a ++ t.Keyword k.IfWord ∷ w) (append_assoc b tail rest) in
      ap (whole (read n)) regroup ∙ rw (first, second, third) refl;
  chains = λ h. absurd h;
}

mutual
  complete : {l : Level} {a : List Token} {e : Expression} → Spells l a e → Complete l a e
  complete (g.numeral n) = numeral_complete n
  complete g.truth = truth_complete
  complete g.falsity = falsity_complete
  complete (g.string bytes) = string_complete bytes
  complete (g.reading a p d) = reading_complete d
  complete (g.calling n a es d) = calling_complete n a es (complete_items d)
  complete (g.grouped a e d) = enclosed_complete a e (single_complete a e (complete d))
  complete (g.tupled a es d) = enclosed_complete a (tuple es) (complete_tuple d)
  complete (g.negative a e d) = negative_complete a e (complete d)
  complete (g.factor_atom a e d) = factor_atom_complete a e (complete d)
  complete (g.term_factor a e d) = base Term tt refl (λ n ts. refl) a e (complete d)
  complete (g.multiplied a b x j left right d h f) = step Term tt refl (λ n ts. refl) a b x j left right (complete d) h (complete f)
  complete (g.sum_term a e d) = base Sum tt refl (λ n ts. refl) a e (complete d)
  complete (g.added a b x j left right d h f) = step Sum tt refl (λ n ts. refl) a b x j left right (complete d) h (complete f)
  complete (g.comparison_sum a e d) = comparison_sum_complete a e (complete d)
  complete (g.compared a b x j left right d h f) = compared_complete a b x j left right (complete d) h (complete f)
  complete (g.inverted a e d) = inverted_complete a e (complete d)
  complete (g.inversion_comparison a e d) = inversion_comparison_complete a e (complete d)
  complete (g.conjunction_inversion a e d) = base Conjunction tt refl (λ n ts. refl) a e (complete d)
  complete (g.conjoined a b x j left right d h f) = step Conjunction tt refl (λ n ts. refl) a b x j left right (complete d) h (complete f)
  complete (g.disjunction_conjunction a e d) = base Disjunction tt refl (λ n ts. refl) a e (complete d)
  complete (g.disjoined a b x j left right d h f) = step Disjunction tt refl (λ n ts. refl) a b x j left right (complete d) h (complete f)
  complete (g.whole_disjunction a e d) = whole_disjunction_complete a e (complete d)
  complete (g.chosen a b c value test other p q r) = chosen_complete a b c value test other (complete p) (complete q) (complete r)

  complete_tuple : {a : List Token} {es : Expressions} → SpellsTuple a es → CompleteExpressions a (tuple es)
  complete_tuple (g.parts a b e es d ds) = parts_complete a b e es (complete d) (complete_items ds)

  complete_items : {a : List Token} {es : Expressions} → SpellsItems a es → CompleteItems a es
  complete_items g.no_items = no_items_complete
  complete_items (g.last_item a e d) = last_item_complete a e (complete d)
  complete_items (g.one_item a b e es d ds) = one_item_complete a b e es (complete d) (complete_items ds)

-- ---- what the forms of lines want

-- how an expression begins
pub expression_begins : {a : List Token} {e : Expression} → Spells Whole a e → Begins a 8
expression_begins d = (complete d).begins

-- an expression is read where what stands behind it does not go on with it
pub expression_front_complete : (a : List Token) (e : Expression) (rest : List Token) → Spells Whole a e → first_binds rest ≡ 0 → expression_front (a ++ rest) ≡ Some (e, rest)
unfolding expression_front
expression_front_complete a e rest d ends = (complete d).reads (length (a ++ rest)) rest (omega (arith, length-append a rest)) (omega arith)

-- tokens spell at most one expression
pub one_expression : (a : List Token) (e f : Expression) → Spells Whole a e → Spells Whole a f → e ≡ f
one_expression a e f d h =
    ap (λ (p : Expression × List Token). p.0) (some_is (e, []) (f, []) (sym (expression_front_complete a e [] d refl) ∙ expression_front_complete a f [] h refl))

complete_expressions : {a : List Token} {e : Expression} → SpellsExpressions a e → CompleteExpressions a e
complete_expressions (g.single a e d) = single_complete a e (complete d)
complete_expressions (g.several a es d) = complete_tuple d

at_line_end : past_end end.Line [] ≡ Some []
unfolding past_end
at_line_end = refl

-- an expression or a tuple without its parentheses is read as all of its tokens
pub all_expressions_complete : (ts : List Token) (e : Expression) → SpellsExpressions ts e → all_expressions ts ≡ Some e
unfolding all_expressions
all_expressions_complete ts e d =
    let here = complete_expressions d end.Line (length ts + 1) [] [] at_line_end refl (omega arith) in
    let all : expressions (read (length ts + 1)) end.Line ts ≡ Some (e, []) = ap (expressions (read (length ts + 1)) end.Line) (sym (append-nil ts)) ∙ here in
    rw all refl

-- tokens spell at most one of them
pub one_expressions : (ts : List Token) (e f : Expression) → SpellsExpressions ts e → SpellsExpressions ts f → e ≡ f
one_expressions ts e f d h = some_is e f (sym (all_expressions_complete ts e d) ∙ all_expressions_complete ts f h)
