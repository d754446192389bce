-- What a function's open blocks keep from line to line, and how they end.
use Rattle.std.proofs.Common.{◌≡◌, ℕ, ◌+◌, ◌<◌, Bool, true, false, cond, eqb, ltb, List, [], ◌∷◌, ◌++◌, Option, Some, None, Ok, refl, sym, subst, ◌∙◌, arith}
use Rattle.std.proofs.lemmas.Bool.{ltb-true}
use Rattle.gp_base.specs.declared.name.LineNo.{LineNo}
use Rattle.gp_tree.specs.Form.{Form, MaybeForm, no_form, some_form}
use Rattle.gp_tree.specs.Form as f
use Rattle.gp_tree.specs.Statement.{Statement}
use Rattle.gp_tree.specs.Statement as s
use Rattle.gp_parse.specs.Nesting as g
use Rattle.gp_parse.specs.Nesting.{Line, line, IsDeeper}
use Rattle.gp_parse.specs.FirstFault.{nesting, too_deep}
use Rattle.gp_parse.specs.code.NestingMachine.{simple_of, Opening, Branch, Frame, Blocks, settle, add, block_of, put, place, closed, opens_with, opens, opens_other, adds, goes_on, at_frames, opened, placed, step_by}
use Rattle.gp_parse.proofs.NestingRest.{Rest, After, nothing_in, yes, no, chosen, ok, err, ok_is, err_ok}
use Rattle.gp_parse.proofs.NestingComplete.{Falls, falls_put, nothing_is}

module _ (fits : ℕ → Bool) where
  abbrev pub Good : Option Opening → List Frame → Type 0
  Good None [] = ⊥
  Good None (x ∷ xs) = Falls fits (x ∷ xs)
  Good (Some o) [] = fits o.level ≡ true
  Good (Some o) (x ∷ xs) = (fits o.level ≡ true) × (o.indent ≡ x.indent) × Falls fits (x ∷ xs)

  abbrev pub IsGood : Blocks → Type 0
  IsGood b = Good b.wants b.frames

  pub good_falls : (w : Option Opening) (xs : List Frame) → Good w xs → Falls fits xs
  good_falls None [] h = tt
  good_falls None (x ∷ xs) h = h
  good_falls (Some o) [] h = tt
  good_falls (Some o) (x ∷ xs) h = h.2

  pub good_fits : (w : Option Opening) (xs : List Frame) → Good w xs → (o : Opening) → w ≡ Some o → fits o.level ≡ true
  good_fits None xs h o e = absurd cc
  good_fits (Some p) [] h o e = let same : p ≡ o = cc in subst (λ (z : Opening). fits z.level ≡ true) same h
  good_fits (Some p) (x ∷ xs) h o e = let same : p ≡ o = cc in subst (λ (z : Opening). fits z.level ≡ true) same h.0

  -- the same frame with other statements
  falls_as : (x y : Frame) (xs : List Frame) → y.indent ≡ x.indent → Falls fits (x ∷ xs) → Falls fits (y ∷ xs)
  falls_as x y [] e h = omega arith
  falls_as x y (z ∷ zs) e h = let lt = h.0 in (omega arith, h.1)

  opens_good : (o : Opening) (n : LineNo) (behind : MaybeForm) (x : Frame) (xs : List Frame) (t : Blocks) → o.indent ≡ x.indent → Falls fits (x ∷ xs) → opens fits o n behind x xs ≡ Ok t → IsGood t
  opens_good o n no_form x xs t same falls e =
      elim (chosen _ _ _ _ e) [
        | yes h go ↦ subst (λ (z : Blocks). IsGood z) (ok_is (record { wants = Some o; frames = x ∷ xs }) t go) (h, same, falls)
        | no h go ↦ absurd (err_ok (too_deep n) t go)
      ]
  opens_good o n (some_form form) x xs t same falls e = by (simple_of o.in_loop n form) e
    where
      by : (r : Option Statement) → opens_with fits o n r x xs ≡ Ok t → IsGood t
      by None e = absurd (err_ok (nesting n) t e)
      by (Some y) e =
          elim (chosen _ _ _ _ e) [
            | yes h go ↦ subst (λ (z : Blocks). IsGood z) (ok_is (record { wants = None; frames = put o (y ∷ []) x ∷ xs }) t go) (falls_put fits o (y ∷ []) x xs falls)
            | no h go ↦ absurd (err_ok (too_deep n) t go)
          ]

  opens_other_good : (o : Opening) (n : LineNo) (behind : MaybeForm) (x : Frame) (xs : List Frame) (c : List Branch) (t : Blocks) → o.indent ≡ x.indent → Falls fits (x ∷ xs) → opens_other fits o n behind x xs c ≡ Ok t → IsGood t
  opens_other_good o n behind x xs [] t same falls e = absurd (err_ok (nesting n) t e)
  opens_other_good o n behind x xs (b ∷ c) t same falls e = opens_good o n behind x xs t same falls e

  adds_good : (r : Option Statement) (n : LineNo) (x : Frame) (xs : List Frame) (t : Blocks) → Falls fits (x ∷ xs) → adds r n x xs ≡ Ok t → IsGood t
  adds_good None n x xs t falls e = absurd (err_ok (nesting n) t e)
  adds_good (Some y) n x xs t falls e = subst (λ (z : Blocks). IsGood z) (ok_is (record { wants = None; frames = add y (settle x) ∷ xs }) t e) (falls_as x (add y (settle x)) xs refl falls)

  goes_on_good : (n : LineNo) (form : Form) (x : Frame) (xs : List Frame) (t : Blocks) → Falls fits (x ∷ xs) → goes_on fits n form x xs ≡ Ok t → IsGood t
  goes_on_good n (f.while_header test behind) x xs t falls e = opens_good _ n behind (settle x) xs t refl (falls_as x (settle x) xs refl falls) e
  goes_on_good n (f.for_header name count behind) x xs t falls e = opens_good _ n behind (settle x) xs t refl (falls_as x (settle x) xs refl falls) e
  goes_on_good n (f.if_header test behind) x xs t falls e = opens_good _ n behind (settle x) xs t refl (falls_as x (settle x) xs refl falls) e
  goes_on_good n (f.elif_header test behind) x xs t falls e = opens_other_good _ n behind x xs x.chain t refl falls e
  goes_on_good n (f.else_header behind) x xs t falls e = opens_other_good _ n behind x xs x.chain t refl falls e
  goes_on_good n form x xs t falls e = adds_good (simple_of x.opening.in_loop n form) n x xs t falls e

  at_frames_good : (n : LineNo) (form : Form) (xs : List Frame) (t : Blocks) → Falls fits xs → at_frames fits n form xs ≡ Ok t → IsGood t
  at_frames_good n form [] t h e = absurd (err_ok (nesting n) t e)
  at_frames_good n form (x ∷ xs) t h e = goes_on_good n form x xs t h e

  place_last : (b : Bool) (z : Frame) → Falls fits (z ∷ []) → Falls fits (cond b (z ∷ []) [])
  place_last true z h = h
  place_last false z h = tt

  place_by : (b c : Bool) (xs ys : List Frame) → Falls fits xs → Falls fits ys → Falls fits (cond b xs (cond c ys []))
  place_by true c xs ys h k = h
  place_by false true xs ys h k = k
  place_by false false xs ys h k = tt

  place_falls : (i : ℕ) (z : Frame) (zs : List Frame) → Falls fits (z ∷ zs) → Falls fits (place i z zs)
  place_falls i z [] h = place_last (eqb z.indent i) z h
  place_falls i z (w ∷ ws) h = place_by (eqb z.indent i) (ltb i z.indent) (z ∷ w ∷ ws) (place i (put z.opening (block_of z) w) ws) h (place_falls i (put z.opening (block_of z) w) ws (falls_put fits z.opening (block_of z) w ws h.1))

  placed_falls : (i : ℕ) (zs : List Frame) → Falls fits zs → Falls fits (placed i zs)
  placed_falls i [] h = tt
  placed_falls i (z ∷ zs) h = place_falls i z zs h

  opened_falls : (o : Opening) (i : ℕ) (xs : List Frame) → Good (Some o) xs → o.indent < i → Falls fits (opened o i ∷ xs)
  opened_falls o i [] h lt = omega arith
  opened_falls o i (x ∷ xs) h lt = let same = h.1 in (omega arith, h.2)

  pub step_by_good : (x : Line) (w : Option Opening) (xs : List Frame) (t : Blocks) → Good w xs → step_by fits x w xs ≡ Ok t → IsGood t
  step_by_good x None xs t h e = at_frames_good x.number x.form (placed x.indent xs) t (placed_falls x.indent xs (good_falls None xs h)) e
  step_by_good x (Some o) xs t h e =
      elim (chosen _ _ _ _ e) [
        | yes k go ↦ goes_on_good x.number x.form (opened o x.indent) xs t (opened_falls o x.indent xs h (ltb-true o.indent x.indent k)) go
        | no k go ↦ absurd (err_ok (nesting x.number) t go)
      ]

  -- ---- the end

  pub closes : (x : Frame) (xs : List Frame) → After fits None (x ∷ xs) [] (closed x xs)
  closes x [] = record { first = []; second = []; block = block_of x; parts = refl; left = nothing_in fits x; right = (refl, refl) }
  closes x (y ∷ ys) = record { first = []; second = []; block = block_of x; parts = refl; left = nothing_in fits x; right = closes (put x.opening (block_of x) y) ys }

  rest_closes : (o : Opening) (xs : List Frame) (b : List Statement) → (all : List Statement) × Rest fits o xs b [] all
  rest_closes o [] b = (b, (refl, refl))
  rest_closes o (y ∷ ys) b = (closed (put o b y) ys, closes (put o b y) ys)

  -- open blocks can end, at most one line later
  pub ends : (n : LineNo) (w : Option Opening) (xs : List Frame) → Good w xs → (q : List Line) × (all : List Statement) × After fits w xs q all
  ends n None [] h = absurd h
  ends n None (x ∷ xs) h = ([], closed x xs, closes x xs)
  ends n (Some o) xs h =
      let j = o.indent + 1 in
      let x : Line = line n j f.pass in
      let r = rest_closes o xs (s.pass n ∷ []) in
      let is : IsDeeper fits o.indent o.level o.in_loop (x ∷ []) (s.pass n ∷ []) =
      g.deeper o.indent o.level o.in_loop x [] (s.pass n ∷ []) (good_fits (Some o) xs h o refl) (omega arith)
      (g.and_more j o.level o.in_loop (x ∷ []) [] (s.pass n) [] (g.simple j o.level o.in_loop n f.pass (s.pass n) (g.pass o.in_loop n)) (g.no_more j o.level o.in_loop)) in
      (x ∷ [], r.0, record { first = x ∷ []; second = []; block = s.pass n ∷ []; parts = refl; left = is; right = r.1 })

  no_front : (a b : List Line) → [] ≡ a ++ b → a ≡ []
  no_front [] b e = refl
  no_front (x ∷ a) b e = absurd cc

  no_back : (a b : List Line) → [] ≡ a ++ b → b ≡ []
  no_back [] b e = sym e
  no_back (x ∷ a) b e = absurd cc

  deeper_some : {i l : ℕ} {loop : Bool} {a : List Line} {b : List Statement} → IsDeeper fits i l loop a b → a ≡ [] → ⊥
  deeper_some (g.deeper i l loop x a xs h lt is) e = let none : x ∷ a ≡ [] = e in cc

  -- blocks that end here have the statements that closing them gives, and no block is wanted
  pub closed_is : (x : Frame) (xs : List Frame) (all : List Statement) → After fits None (x ∷ xs) [] all → all ≡ closed x xs
  closed_is x [] all r = r.right.1 ∙ nothing_is fits x r.block (subst (λ (z : List Line). Rattle.gp_parse.proofs.NestingRest.InFrame fits x z r.block) (no_front r.first r.second r.parts) r.left)
  closed_is x (y ∷ ys) all r =
      let b : r.block ≡ block_of x = nothing_is fits x r.block (subst (λ (z : List Line). Rattle.gp_parse.proofs.NestingRest.InFrame fits x z r.block) (no_front r.first r.second r.parts) r.left) in
      closed_is (put x.opening (block_of x) y) ys all
      (subst (λ (c : List Statement). Rest fits x.opening (y ∷ ys) c [] all) b (subst (λ (z : List Line). Rest fits x.opening (y ∷ ys) r.block z all) (no_back r.first r.second r.parts) r.right))

  pub wants_more : (o : Opening) (xs : List Frame) (all : List Statement) → After fits (Some o) xs [] all → ⊥
  wants_more o xs all r = deeper_some r.left (no_front r.first r.second r.parts)
