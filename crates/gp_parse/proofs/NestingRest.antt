-- What may still come in a function's open blocks. A line that is taken could come.
use Rattle.std.proofs.Common.{◌≡◌, ℕ, ◌+◌, Bool, true, false, cond, eqb, ltb, List, [], ◌∷◌, ◌++◌, Option, Some, None, Result, Ok, Err, refl, sym, ap, subst, ◌∙◌, append_assoc}
use Rattle.std.proofs.lemmas.Bool.{eqb-true, ltb-true}
use Rattle.std.proofs.lemmas.List.{append-nil}
use Rattle.gp_base.specs.declared.name.LineNo.{LineNo}
use Rattle.gp_tree.specs.Form.{Form, MaybeForm, no_form, some_form}
use Rattle.gp_tree.specs.Form as f
use Rattle.gp_tree.specs.Statement.{Statement, statements_of}
use Rattle.gp_tree.specs.Statement as s
use Rattle.gp_parse.specs.Nesting as g
use Rattle.gp_parse.specs.Nesting.{Line, line, IsSimple, AreStatements, IsStatement, IsOtherBranch, IsBlock, IsDeeper}
use Rattle.gp_parse.specs.FirstFault.{Fault, nesting, too_deep}
use Rattle.gp_parse.specs.code.NestingMachine.{simple_of, Header, branch, other_branch, while_body, for_body, Opening, Branch, Frame, Blocks, settled, settle, add, block_of, put, place, opens_with, opens, opens_other, adds, opening, goes_on, at_frames, opened, placed, step_by}
use Rattle.gp_parse.proofs.NestingForms.{simple_is}

-- lines in two parts, the first of which is a block
pub record Split (P : List Line → List Statement → Type 0) (Q : List Statement → List Line → Type 0) (a : List Line) : Type 0 where
  pub first : List Line
  pub second : List Line
  pub block : List Statement
  pub parts : a ≡ first ++ second
  pub left : P first block
  pub right : Q block second

-- a line, and lines in two parts behind it
pub record Led (P : List Line → List Statement → Type 0) (Q : List Statement → List Line → Type 0) (y : Line) (a : List Line) : Type 0 where
  pub inside : List Line
  pub outside : List Line
  pub block : List Statement
  pub parts : a ≡ inside ++ outside
  pub left : P (y ∷ inside) block
  pub right : Q block outside

pub data Chosen {A : Type 0} (b : Bool) (x y z : A) : Type 0 where
  yes : b ≡ true → x ≡ z → Chosen b x y z
  no : b ≡ false → y ≡ z → Chosen b x y z

pub chosen : {A : Type 0} (b : Bool) (x y z : A) → cond b x y ≡ z → Chosen b x y z
chosen true x y z e = yes refl e
chosen false x y z e = no refl e

abbrev pub ok : {A : Type 0} → A → Result A Fault
ok t = Ok t

abbrev pub err : {A : Type 0} → Fault → Result A Fault
err d = Err d

pub ok_is : {A : Type 0} (s t : A) → ok s ≡ ok t → s ≡ t
ok_is s t e = cc

pub err_ok : {A : Type 0} (d : Fault) (t : A) → err {A = A} d ≡ ok t → ⊥
err_ok d t e = cc

module _ (fits : ℕ → Bool) where
  -- the other branch of the last of these, if there is one
  abbrev pub OtherOf : ℕ → ℕ → Bool → List Branch → List Line → List Statement → Type 0
  OtherOf i k loop [] a os = (a ≡ []) × (os ≡ [])
  OtherOf i k loop (b ∷ c) a os = IsOtherBranch fits i k loop a os

  -- lines that end the first block with these statements
  pub record InFrame (x : Frame) (a : List Line) (all : List Statement) : Type 0 where
    pub first : List Line
    pub second : List Line
    pub others : List Statement
    pub more : List Statement
    pub parts : a ≡ first ++ second
    pub other : OtherOf x.indent x.reached x.opening.in_loop x.chain first others
    pub rest : AreStatements fits x.indent x.opening.level x.opening.in_loop second more
    pub whole : all ≡ x.done ++ (settled x.chain others ++ more)

  -- lines behind a block that ends the function with these statements
  abbrev pub Rest : Opening → List Frame → List Statement → List Line → List Statement → Type 0
  Rest o [] block a all = (a ≡ []) × (all ≡ block)
  Rest o (y ∷ ys) block a all = Split (InFrame (put o block y)) (λ (c : List Statement) (r : List Line). Rest y.opening ys c r all) a

  abbrev pub After : Option Opening → List Frame → List Line → List Statement → Type 0
  After None [] a all = ⊥
  After None (x ∷ xs) a all = Split (InFrame x) (λ (c : List Statement) (r : List Line). Rest x.opening xs c r all) a
  After (Some o) xs a all = Split (IsDeeper fits o.indent o.level o.in_loop) (λ (c : List Statement) (r : List Line). Rest o xs c r all) a

  -- ---- a line that was taken could come

  nothing_other : (i k : ℕ) (loop : Bool) (c : List Branch) → OtherOf i k loop c [] []
  nothing_other i k loop [] = (refl, refl)
  nothing_other i k loop (b ∷ c) = g.missing i k loop

  pub nothing_in : (x : Frame) → InFrame x [] (block_of x)
  nothing_in x = record {
    first = [];
    second = [];
    others = [];
    more = [];
    parts = refl;
    other = nothing_other x.indent x.reached x.opening.in_loop x.chain;
    rest = g.no_more x.indent x.opening.level x.opening.in_loop;
    whole = ap (λ (z : List Statement). x.done ++ z) (sym (append-nil (settled x.chain [])));
  }

  -- a statement next
  abbrev pub Here : Frame → List Frame → Line → List Line → List Statement → Type 0
  Here x xs y a all = Led (InFrame x) (λ (c : List Statement) (r : List Line). Rest x.opening xs c r all) y a

  stmt_here : (x : Frame) (xs : List Frame) (y : Line) (a b d q : List Line) (st : Statement) (more all_here all : List Statement)
      → IsStatement fits x.indent x.opening.level x.opening.in_loop (y ∷ a) st → AreStatements fits x.indent x.opening.level x.opening.in_loop b more
      → all_here ≡ (x.done ++ settled x.chain []) ++ (st ∷ more) → Rest x.opening xs all_here d all → q ≡ a ++ (b ++ d) → Here x xs y q all
  stmt_here x xs y a b d q st more all_here all is rest whole right e = record {
    inside = a ++ b;
    outside = d;
    block = all_here;
    parts = e ∙ sym (append_assoc a b d);
    left = record {
      first = [];
      second = y ∷ (a ++ b);
      others = [];
      more = st ∷ more;
      parts = refl;
      other = nothing_other x.indent x.reached x.opening.in_loop x.chain;
      rest = g.and_more x.indent x.opening.level x.opening.in_loop (y ∷ a) b st more is rest;
      whole = whole ∙ append_assoc x.done (settled x.chain []) (st ∷ more);
    };
    right = right;
  }

  -- the block of a header that was taken
  header_sound : (o : Opening) (n : LineNo) (behind : MaybeForm) (x : Frame) (xs : List Frame) (t : Blocks) (q : List Line) (all : List Statement)
      → opens fits o n behind x xs ≡ Ok t → After t.wants t.frames q all
      → Split (IsBlock fits o.indent o.level o.in_loop n behind) (λ (c : List Statement) (r : List Line). Rest o (x ∷ xs) c r all) q
  header_sound o n no_form x xs t q all e r =
      elim (chosen _ _ _ _ e) [
        | yes h go ↦ from (subst (λ (z : Blocks). After z.wants z.frames q all) (sym (ok_is (record { wants = Some o; frames = x ∷ xs }) t go)) r)
        | no h go ↦ absurd (err_ok (too_deep n) t go)
      ]
    where
      from : After (Some o) (x ∷ xs) q all → Split (IsBlock fits o.indent o.level o.in_loop n no_form) (λ (c : List Statement) (r : List Line). Rest o (x ∷ xs) c r all) q
      from r = record { first = r.first; second = r.second; block = r.block; parts = r.parts; left = g.below o.indent o.level o.in_loop n r.first r.block r.left; right = r.right }
  header_sound o n (some_form form) x xs t q all e r = by (simple_of o.in_loop n form) refl e
    where
      by : (r : Option Statement) → simple_of o.in_loop n form ≡ r → opens_with fits o n r x xs ≡ Ok t
          → Split (IsBlock fits o.indent o.level o.in_loop n (some_form form)) (λ (c : List Statement) (r : List Line). Rest o (x ∷ xs) c r all) q
      by None is e = absurd (err_ok (nesting n) t e)
      by (Some y) is e =
          elim (chosen _ _ _ _ e) [
            | yes h go ↦ record {
              first = [];
              second = q;
              block = y ∷ [];
              parts = refl;
              left = g.on_the_line o.indent o.level o.in_loop n form y h (simple_is o.in_loop n form y is);
              right = subst (λ (z : Blocks). After z.wants z.frames q all) (sym (ok_is (record { wants = None; frames = put o (y ∷ []) x ∷ xs }) t go)) r;
            }
            | no h go ↦ absurd (err_ok (too_deep n) t go)
          ]

  -- a block, what stands in its frame behind it, and the rest
  parts_3 : (q a p b d : List Line) → q ≡ a ++ p → p ≡ b ++ d → q ≡ a ++ (b ++ d)
  parts_3 q a p b d e h = e ∙ ap (λ (z : List Line). a ++ z) h

  adds_sound : (n : LineNo) (form : Form) (x : Frame) (xs : List Frame) (t : Blocks) (q : List Line) (all : List Statement)
      → adds (simple_of x.opening.in_loop n form) n x xs ≡ Ok t → After t.wants t.frames q all → Here x xs (line n x.indent form) q all
  adds_sound n form x xs t q all e r = by (simple_of x.opening.in_loop n form) refl e
    where
      from : (y : Statement) → IsSimple x.opening.in_loop n form y → After None (add y (settle x) ∷ xs) q all → Here x xs (line n x.indent form) q all
      from y is r =
          stmt_here x xs (line n x.indent form) [] r.left.second r.second q y r.left.more r.block all
          (g.simple x.indent x.opening.level x.opening.in_loop n form y is) r.left.rest
          (r.left.whole ∙ ap (λ (z : List Statement). ((x.done ++ settled x.chain []) ++ y ∷ []) ++ (z ++ r.left.more)) r.left.other.1 ∙ append_assoc (x.done ++ settled x.chain []) (y ∷ []) r.left.more)
          r.right
          (r.parts ∙ ap (λ (z : List Line). z ++ r.second) (r.left.parts ∙ ap (λ (z : List Line). z ++ r.left.second) r.left.other.0))

      by : (r : Option Statement) → simple_of x.opening.in_loop n form ≡ r → adds r n x xs ≡ Ok t → Here x xs (line n x.indent form) q all
      by None is e = absurd (err_ok (nesting n) t e)
      by (Some y) is e = from y (simple_is x.opening.in_loop n form y is) (subst (λ (z : Blocks). After z.wants z.frames q all) (sym (ok_is (record { wants = None; frames = add y (settle x) ∷ xs }) t e)) r)

  -- a loop with its block
  loop_sound : (h : Header) (n : LineNo) (form : Form) (behind : MaybeForm) (made : List Statement → Statement) (x : Frame) (xs : List Frame) (t : Blocks) (q : List Line) (all : List Statement)
      → ((block : List Statement) → put (opening x h (x.opening.level + 1) true) block (settle x) ≡ add (made block) (settle x))
      → ((a : List Line) (block : List Statement) → IsBlock fits x.indent (x.opening.level + 1) true n behind a block → IsStatement fits x.indent x.opening.level x.opening.in_loop (line n x.indent form ∷ a) (made block))
      → opens fits (opening x h (x.opening.level + 1) true) n behind (settle x) xs ≡ Ok t → After t.wants t.frames q all → Here x xs (line n x.indent form) q all
  loop_sound h n form behind made x xs t q all puts makes e r =
      let p = header_sound (opening x h (x.opening.level + 1) true) n behind (settle x) xs t q all e r in
      let b = p.right in
      let inner : InFrame (add (made p.block) (settle x)) b.first b.block = subst (λ (z : Frame). InFrame z b.first b.block) (puts p.block) b.left in
      stmt_here x xs (line n x.indent form) p.first inner.second b.second q (made p.block) inner.more b.block all
      (makes p.first p.block p.left) inner.rest
      (inner.whole ∙ ap (λ (z : List Statement). ((x.done ++ settled x.chain []) ++ made p.block ∷ []) ++ (z ++ inner.more)) inner.other.1 ∙ append_assoc (x.done ++ settled x.chain []) (made p.block ∷ []) inner.more)
      b.right
      (p.parts ∙ ap (λ (z : List Line). p.first ++ z) (b.parts ∙ ap (λ (z : List Line). z ++ b.second) (inner.parts ∙ ap (λ (z : List Line). z ++ inner.second) inner.other.0)))

  if_sound : (n : LineNo) (test : Rattle.gp_tree.specs.Expression.Expression) (behind : MaybeForm) (x : Frame) (xs : List Frame) (t : Blocks) (q : List Line) (all : List Statement)
      → opens fits (opening x (branch n test) (x.opening.level + 1) x.opening.in_loop) n behind (settle x) xs ≡ Ok t → After t.wants t.frames q all → Here x xs (line n x.indent (f.if_header test behind)) q all
  if_sound n test behind x xs t q all e r =
      let p = header_sound (opening x (branch n test) (x.opening.level + 1) x.opening.in_loop) n behind (settle x) xs t q all e r in
      let b = p.right in
      let o = b.left in
      stmt_here x xs (line n x.indent (f.if_header test behind)) (p.first ++ o.first) o.second b.second q (s.if_else n test (statements_of p.block) (statements_of o.others)) o.more b.block all
      (g.if_else x.indent x.opening.level x.opening.in_loop n test behind p.first o.first p.block o.others p.left o.other) o.rest
      o.whole
      b.right
      (p.parts ∙ ap (λ (z : List Line). p.first ++ z) (b.parts ∙ ap (λ (z : List Line). z ++ b.second) o.parts ∙ append_assoc o.first o.second b.second) ∙ sym (append_assoc p.first o.first (o.second ++ b.second)))

  -- `x` with this chain
  abbrev chained : Frame → List Branch → Frame
  chained x c = record { opening = x.opening; indent = x.indent; done = x.done; chain = c; reached = x.reached }

  elif_sound : (n : LineNo) (test : Rattle.gp_tree.specs.Expression.Expression) (behind : MaybeForm) (x : Frame) (c : List Branch) (xs : List Frame) (t : Blocks) (q : List Line) (all : List Statement)
      → opens_other fits (opening x (branch n test) (x.reached + 1) x.opening.in_loop) n behind (chained x c) xs c ≡ Ok t → After t.wants t.frames q all → Here (chained x c) xs (line n x.indent (f.elif_header test behind)) q all
  elif_sound n test behind x [] xs t q all e r = absurd (err_ok (nesting n) t e)
  elif_sound n test behind x (w ∷ ws) xs t q all e r =
      let p = header_sound (opening x (branch n test) (x.reached + 1) x.opening.in_loop) n behind (chained x (w ∷ ws)) xs t q all e r in
      let b = p.right in
      let o = b.left in
      record {
        inside = (p.first ++ o.first) ++ o.second;
        outside = b.second;
        block = b.block;
        parts = p.parts ∙ ap (λ (z : List Line). p.first ++ z) (b.parts ∙ ap (λ (z : List Line). z ++ b.second) o.parts) ∙ sym (append_assoc p.first (o.first ++ o.second) b.second) ∙ ap (λ (z : List Line). z ++ b.second) (sym (append_assoc p.first o.first o.second));
        left = record {
          first = line n x.indent (f.elif_header test behind) ∷ (p.first ++ o.first);
          second = o.second;
          others = s.if_else n test (statements_of p.block) (statements_of o.others) ∷ [];
          more = o.more;
          parts = refl;
          other = g.elif_block x.indent x.reached x.opening.in_loop n test behind p.first o.first p.block o.others p.left o.other;
          rest = o.rest;
          whole = o.whole;
        };
        right = b.right;
      }

  else_sound : (n : LineNo) (behind : MaybeForm) (x : Frame) (c : List Branch) (xs : List Frame) (t : Blocks) (q : List Line) (all : List Statement)
      → opens_other fits (opening x other_branch x.reached x.opening.in_loop) n behind (chained x c) xs c ≡ Ok t → After t.wants t.frames q all → Here (chained x c) xs (line n x.indent (f.else_header behind)) q all
  else_sound n behind x [] xs t q all e r = absurd (err_ok (nesting n) t e)
  else_sound n behind x (w ∷ ws) xs t q all e r =
      let p = header_sound (opening x other_branch x.reached x.opening.in_loop) n behind (chained x (w ∷ ws)) xs t q all e r in
      let b = p.right in
      let o = b.left in
      record {
        inside = p.first ++ o.second;
        outside = b.second;
        block = b.block;
        parts = p.parts ∙ ap (λ (z : List Line). p.first ++ z) (b.parts ∙ ap (λ (z : List Line). z ++ b.second) (o.parts ∙ ap (λ (z : List Line). z ++ o.second) o.other.0)) ∙ sym (append_assoc p.first o.second b.second);
        left = record {
          first = line n x.indent (f.else_header behind) ∷ p.first;
          second = o.second;
          others = p.block;
          more = o.more;
          parts = refl;
          other = g.else_block x.indent x.reached x.opening.in_loop n behind p.first p.block p.left;
          rest = o.rest;
          whole = o.whole ∙ ap (λ (z : List Statement). (x.done ++ settled (w ∷ ws) p.block) ++ (z ++ o.more)) o.other.1 ∙ append_assoc x.done (settled (w ∷ ws) p.block) o.more;
        };
        right = b.right;
      }

  goes_on_sound : (n : LineNo) (form : Form) (x : Frame) (xs : List Frame) (t : Blocks) (q : List Line) (all : List Statement)
      → goes_on fits n form x xs ≡ Ok t → After t.wants t.frames q all → Here x xs (line n x.indent form) q all
  goes_on_sound n (f.while_header test behind) x xs t q all e r =
      loop_sound (while_body n test) n (f.while_header test behind) behind (λ (b : List Statement). s.while_loop n test (statements_of b)) x xs t q all (λ b. refl)
      (λ a b h. g.while_loop x.indent x.opening.level x.opening.in_loop n test behind a b h) e r
  goes_on_sound n (f.for_header name count behind) x xs t q all e r =
      loop_sound (for_body n name count) n (f.for_header name count behind) behind (λ (b : List Statement). s.for_loop n name count (statements_of b)) x xs t q all (λ b. refl)
      (λ a b h. g.for_loop x.indent x.opening.level x.opening.in_loop n name count behind a b h) e r
  goes_on_sound n (f.if_header test behind) x xs t q all e r = if_sound n test behind x xs t q all e r
  goes_on_sound n (f.elif_header test behind) x xs t q all e r = elif_sound n test behind x x.chain xs t q all e r
  goes_on_sound n (f.else_header behind) x xs t q all e r = else_sound n behind x x.chain xs t q all e r
  goes_on_sound n form x xs t q all e r = adds_sound n form x xs t q all e r

  -- ---- frames

  as_rest : (x : Frame) (xs : List Frame) (y : Line) (q : List Line) (all : List Statement) → Here x xs y q all → After None (x ∷ xs) (y ∷ q) all
  as_rest x xs y q all h = record { first = y ∷ h.inside; second = h.outside; block = h.block; parts = ap (λ (z : List Line). y ∷ z) h.parts; left = h.left; right = h.right }

  -- the first frame ends here
  close_first : (x y : Frame) (ys : List Frame) (q : List Line) (all : List Statement) → After None (put x.opening (block_of x) y ∷ ys) q all → After None (x ∷ y ∷ ys) q all
  close_first x y ys q all r = record { first = []; second = q; block = block_of x; parts = refl; left = nothing_in x; right = r }

  at_frames_sound : (form : Form) (n : LineNo) (i : ℕ) (xs : List Frame) (t : Blocks) (q : List Line) (all : List Statement)
      → ((x : Frame) (ys : List Frame) → xs ≡ x ∷ ys → x.indent ≡ i) → at_frames fits n form xs ≡ Ok t → After t.wants t.frames q all → After None xs (line n i form ∷ q) all
  at_frames_sound form n i [] t q all same e r = absurd (err_ok (nesting n) t e)
  at_frames_sound form n i (x ∷ xs) t q all same e r =
      subst (λ (j : ℕ). After None (x ∷ xs) (line n j form ∷ q) all) (same x xs refl) (as_rest x xs (line n x.indent form) q all (goes_on_sound n form x xs t q all e r))

  frames_none : (x : Frame) (ys : List Frame) → ◌≡◌ {A = List Frame} [] (x ∷ ys) → ⊥
  frames_none x ys e = cc

  first_frame : (z : Frame) (zs : List Frame) (x : Frame) (ys : List Frame) → ◌≡◌ {A = List Frame} (z ∷ zs) (x ∷ ys) → z ≡ x
  first_frame z zs x ys e = cc

  -- the first frame that is left has the line's indentation
  place_indent : (i : ℕ) (z : Frame) (zs : List Frame) (x : Frame) (ys : List Frame) → place i z zs ≡ x ∷ ys → x.indent ≡ i
  place_indent i z [] x ys e =
      elim (chosen _ _ _ _ e) [
        | yes h go ↦ ap (λ (w : Frame). w.indent) (sym (first_frame z [] x ys go)) ∙ eqb-true z.indent i h
        | no h go ↦ absurd (frames_none x ys go)
      ]
  place_indent i z (w ∷ ws) x ys e =
      elim (chosen _ _ _ _ e) [
        | yes h go ↦ ap (λ (w : Frame). w.indent) (sym (first_frame z (w ∷ ws) x ys go)) ∙ eqb-true z.indent i h
        | no h other ↦
            elim (chosen _ _ _ _ other) [
              | yes k go ↦ place_indent i (put z.opening (block_of z) w) ws x ys go
              | no k go ↦ absurd (frames_none x ys go)
            ]
      ]

  placed_indent : (i : ℕ) (zs : List Frame) (x : Frame) (ys : List Frame) → placed i zs ≡ x ∷ ys → x.indent ≡ i
  placed_indent i [] x ys e = absurd (frames_none x ys e)
  placed_indent i (z ∷ zs) x ys e = place_indent i z zs x ys e

  place_last : (i : ℕ) (z : Frame) (q : List Line) (all : List Statement) (b : Bool) → After None (cond b (z ∷ []) []) q all → After None (z ∷ []) q all
  place_last i z q all true r = r
  place_last i z q all false r = absurd r

  place_by : (i : ℕ) (z w : Frame) (ws : List Frame) (q : List Line) (all : List Statement) (b c : Bool)
      → (After None (place i (put z.opening (block_of z) w) ws) q all → After None (put z.opening (block_of z) w ∷ ws) q all)
      → After None (cond b (z ∷ w ∷ ws) (cond c (place i (put z.opening (block_of z) w) ws) [])) q all → After None (z ∷ w ∷ ws) q all
  place_by i z w ws q all true c h r = r
  place_by i z w ws q all false true h r = close_first z w ws q all (h r)
  place_by i z w ws q all false false h r = absurd r

  place_sound : (i : ℕ) (z : Frame) (zs : List Frame) (q : List Line) (all : List Statement) → After None (place i z zs) q all → After None (z ∷ zs) q all
  place_sound i z [] q all r = place_last i z q all (eqb z.indent i) r
  place_sound i z (w ∷ ws) q all r = place_by i z w ws q all (eqb z.indent i) (ltb i z.indent) (place_sound i (put z.opening (block_of z) w) ws q all) r

  placed_sound : (i : ℕ) (zs : List Frame) (q : List Line) (all : List Statement) → After None (placed i zs) q all → After None zs q all
  placed_sound i [] q all r = r
  placed_sound i (z ∷ zs) q all r = place_sound i z zs q all r

  -- what a frame that was just opened has is the whole block
  opened_block : (o : Opening) (i : ℕ) (a : List Line) (all : List Statement) → InFrame (opened o i) a all → AreStatements fits i o.level o.in_loop a all
  opened_block o i a all h =
      subst (λ (z : List Line). AreStatements fits i o.level o.in_loop z all) (sym (h.parts ∙ ap (λ (z : List Line). z ++ h.second) h.other.0))
      (subst (λ (z : List Statement). AreStatements fits i o.level o.in_loop h.second z) (sym (h.whole ∙ ap (λ (z : List Statement). z ++ h.more) h.other.1)) h.rest)

  pub step_by_sound : (x : Line) (w : Option Opening) (xs : List Frame) (t : Blocks) (q : List Line) (all : List Statement)
      → step_by fits x w xs ≡ Ok t → After t.wants t.frames q all → ((o : Opening) → w ≡ Some o → fits o.level ≡ true) → After w xs (x ∷ q) all
  step_by_sound x None xs t q all e r good = placed_sound x.indent xs (x ∷ q) all (at_frames_sound x.form x.number x.indent (placed x.indent xs) t q all (λ y ys p. placed_indent x.indent xs y ys p) e r)
  step_by_sound x (Some o) xs t q all e r good =
      elim (chosen _ _ _ _ e) [
        | yes h go ↦
            let p = goes_on_sound x.number x.form (opened o x.indent) xs t q all go r in
            record {
              first = x ∷ p.inside;
              second = p.outside;
              block = p.block;
              parts = ap (λ (z : List Line). x ∷ z) p.parts;
              left = g.deeper o.indent o.level o.in_loop x p.inside p.block (good o refl) (ltb-true o.indent x.indent h) (opened_block o x.indent (x ∷ p.inside) p.block p.left);
              right = p.right;
            }
        | no h go ↦ absurd (err_ok (nesting x.number) t go)
      ]
