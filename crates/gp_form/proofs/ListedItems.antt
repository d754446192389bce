-- Items with commas between them are what the reading of them says.
use Rattle.std.proofs.Common.{◌≡◌, ℕ, zero, suc, ◌-◌, ◌<◌, List, [], ◌∷◌, ◌++◌, length, Option, Some, None, refl, sym, ap, subst, ◌∙◌, append_assoc, arith, length-append}
use Rattle.std.proofs.lemmas.List.{append-nil}
use Rattle.gp_lex.specs.declared.token.Token.{Token}
use Rattle.gp_lex.specs.declared.token.Token.TheVariants as t
use Rattle.gp_lex.specs.declared.token.Symbol.TheVariants as s
use Rattle.gp_form.specs.Forms as g
use Rattle.gp_form.specs.Forms.{Listed}
use Rattle.gp_form.specs.code.Steps.{Read, past_symbol}
use Rattle.gp_form.specs.code.FormReading.{nothing, listed_from, listed}
use Rattle.gp_form.proofs.StepLemmas.{bind_some, found_some, on, off, symbol_is, IsSound}
use Rattle.gp_form.proofs.FormWords.{nothing_is}

-- ---- what is read is spelled so

-- items, and what closed them
pub record ListFront {X : Type 0} (S : List Token → List X → Type 0) (closed : List Token → Option (List Token)) (end : List Token) (ts : List Token) (x : List X × List Token) : Type 0 where
  pub inside : List Token
  pub parts : ts ≡ inside ++ (end ++ x.1)
  pub is : S inside x.0
  pub closes : closed (end ++ x.1) ≡ Some x.1

spelled : {X : Type 0} (S : List Token → List X → Type 0) (a : List Token) (xs ys : List X) → xs ≡ ys → S a xs → S a ys
spelled {X} S a xs ys e is = subst (λ (z : List X). S a z) e is

module _ {X : Type 0} (R : List Token → X → Type 0) (S : List Token → List X → Type 0) (item : Read X) (closed : List Token → Option (List Token)) (end : List Token)
    (none : S [] [])
    (last : (a : List Token) (x : X) → R a x → S a (x ∷ []))
    (going_on : (a b : List Token) (x : X) (xs : List X) → R a x → S b xs → S (a ++ t.Symbol s.Comma ∷ b) (x ∷ xs))
    (item_sound : IsSound R item)
    (closed_sound : (ts rest : List Token) → closed ts ≡ Some rest → ts ≡ end ++ rest) where
  closing : (ts rest others : List Token) → closed ts ≡ Some rest → ts ≡ end ++ rest → rest ≡ others → closed (end ++ others) ≡ Some others
  closing ts rest others h parts same = subst (λ (z : List Token). closed (end ++ z) ≡ Some z) same (subst (λ (z : List Token). closed z ≡ Some rest) parts h)

  listed_from_sound : (n : ℕ) (ts : List Token) (x : List X × List Token) → listed_from item closed n ts ≡ Some x → ListFront S closed end ts x
  unfolding listed_from
  listed_from_sound zero ts x e = absurd cc
  listed_from_sound (suc n) ts x e =
      elim (found_some _ _ _ x e) [
        | on rest h go ↦
            let parts = closed_sound ts rest h in
            let empty : [] ≡ x.0 = cc in
            record { inside = []; parts = cc; is = spelled S [] [] x.0 empty none; closes = closing ts rest x.1 h parts cc }
        | off h go ↦
            let b = bind_some _ _ x go in
            let a = item_sound ts b.0 b.1 in
            elim (found_some _ _ _ x b.2) [
              | on rest k end_here ↦
                  let parts = closed_sound b.0.1 rest k in
                  let one : b.0.0 ∷ [] ≡ x.0 = cc in
                  let all : ts ≡ a.taken ++ (end ++ rest) = a.parts ∙ ap (λ (z : List Token). a.taken ++ z) parts in
                  record { inside = a.taken; parts = cc; is = spelled S a.taken (b.0.0 ∷ []) x.0 one (last a.taken b.0.0 a.is); closes = closing b.0.1 rest x.1 k parts cc }
              | off k other ↦
                  let c = bind_some _ _ x other in
                  let d = bind_some _ _ x c.2 in
                  let others = listed_from_sound n c.0 d.0 d.1 in
                  let comma = symbol_is s.Comma b.0.1 c.0 c.1 in
                  let more : b.0.0 ∷ d.0.0 ≡ x.0 = cc in
                  let regroup : (a.taken ++ t.Symbol s.Comma ∷ others.inside) ++ (end ++ d.0.1) ≡ a.taken ++ t.Symbol s.Comma ∷ (others.inside ++ (end ++ d.0.1)) = append_assoc a.taken (t.Symbol s.Comma ∷ others.inside) (end ++ d.0.1) in
                  let behind : b.0.1 ≡ t.Symbol s.Comma ∷ (others.inside ++ (end ++ d.0.1)) = comma ∙ ap (λ (z : List Token). t.Symbol s.Comma ∷ z) others.parts in
                  let all : ts ≡ a.taken ++ t.Symbol s.Comma ∷ (others.inside ++ (end ++ d.0.1)) = a.parts ∙ ap (λ (z : List Token). a.taken ++ z) behind in
                  record { inside = a.taken ++ t.Symbol s.Comma ∷ others.inside; parts = cc; is = spelled S (a.taken ++ t.Symbol s.Comma ∷ others.inside) (b.0.0 ∷ d.0.0) x.0 more (going_on a.taken others.inside b.0.0 d.0.0 a.is others.is); closes = closing (end ++ d.0.1) d.0.1 x.1 others.closes refl cc }
            ]
      ]

  pub listed_sound : (ts : List Token) (x : List X × List Token) → listed item closed ts ≡ Some x → ListFront S closed end ts x
  unfolding listed
  listed_sound ts x e = listed_from_sound (suc (length ts)) ts x e

-- items up to the end of the tokens
pub to_the_end : {X : Type 0} (S : List Token → List X → Type 0) (ts : List Token) (x : List X × List Token) → ListFront S nothing [] ts x → S ts x.0
to_the_end S ts x h =
    let none = (nothing_is x.1 x.1 h.closes).0 in
    let all : ts ≡ h.inside = h.parts ∙ ap (λ (z : List Token). h.inside ++ z) none ∙ append-nil h.inside in
    subst (λ (z : List Token). S z x.0) (sym all) h.is

-- ---- what is spelled so is read

-- An item is read in front of what may follow it, and is not taken for what closes.
pub record ItemReads {X : Type 0} (item : Read X) (closed : List Token → Option (List Token)) (end : List Token) (a : List Token) (x : X) : Type 0 where
  pub at_end : item (a ++ end) ≡ Some (x, end)
  pub at_comma : (b : List Token) → item (a ++ t.Symbol s.Comma ∷ b) ≡ Some (x, t.Symbol s.Comma ∷ b)
  pub opens_end : closed (a ++ end) ≡ None
  pub opens_comma : (b : List Token) → closed (a ++ t.Symbol s.Comma ∷ b) ≡ None

-- the items are read in turns enough
abbrev pub ListReads : {X : Type 0} → Read X → (List Token → Option (List Token)) → List Token → List Token → List Token → List X → Type 0
ListReads item closed end rest a xs = (m : ℕ) → length a < m → listed_from item closed m (a ++ end) ≡ Some (xs, rest)

module _ {X : Type 0} (item : Read X) (closed : List Token → Option (List Token)) (end rest : List Token) (closes : closed end ≡ Some rest) (comma_open : (b : List Token) → closed (t.Symbol s.Comma ∷ b) ≡ None) where
  abbrev AreRead : List Token → List X → Type 0
  AreRead = ListReads item closed end rest

  turn : (m : ℕ) (ts : List Token) → 0 < m → listed_from item closed m ts ≡ listed_from item closed (suc (m - 1)) ts
  turn m ts some = let e : m ≡ suc (m - 1) = omega arith in ap (λ (k : ℕ). listed_from item closed k ts) e

  pub nothing_reads : AreRead [] []
  unfolding listed_from
  nothing_reads m long = turn m end long ∙ rw closes refl

  pub last_reads : (a : List Token) (x : X) → ItemReads item closed end a x → AreRead a (x ∷ [])
  unfolding listed_from
  last_reads a x c m long = turn m (a ++ end) (omega arith) ∙ rw (c.opens_end, c.at_end, closes) refl

  pub going_on_reads : (a b : List Token) (x : X) (xs : List X) → ItemReads item closed end a x → AreRead b xs → AreRead (a ++ t.Symbol s.Comma ∷ b) (x ∷ xs)
  unfolding listed_from past_symbol
  going_on_reads a b x xs c d m long =
      let sized = length-append a (t.Symbol s.Comma ∷ b) in
      let others = d (m - 1) (omega (arith, sized)) in
      ap (listed_from item closed m) (append_assoc a (t.Symbol s.Comma ∷ b) end) ∙ turn m (a ++ t.Symbol s.Comma ∷ (b ++ end)) (omega arith)
      ∙ rw (c.opens_comma (b ++ end), c.at_comma (b ++ end), comma_open (b ++ end), others) refl

  -- items of a kind whose items are read
  pub listed_reads : (R : List Token → X → Type 0) → ((a : List Token) (x : X) → R a x → ItemReads item closed end a x) → {a : List Token} {xs : List X} → Listed R a xs → AreRead a xs
  listed_reads R each g.nothing = nothing_reads
  listed_reads R each (g.last a x d) = last_reads a x (each a x d)
  listed_reads R each (g.going_on a b x xs d ds) = going_on_reads a b x xs (each a x d) (listed_reads R each ds)

  pub all_reads : (a : List Token) (xs : List X) → AreRead a xs → listed item closed (a ++ end) ≡ Some (xs, rest)
  unfolding listed
  all_reads a xs c = c (suc (length (a ++ end))) (omega (arith, length-append a end))
