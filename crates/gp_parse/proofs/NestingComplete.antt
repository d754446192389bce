-- A line that could come in a function's open blocks is taken.
use Rattle.std.proofs.Common.{◌≡◌, ℕ, ◌+◌, ◌<◌, ◌≤◌, Bool, true, false, eqb, List, [], ◌∷◌, ◌++◌, Option, Some, None, Ok, refl, sym, ap, subst, ◌∙◌, append_assoc, arith, ◌⊎◌, inl, inr}
use Rattle.std.proofs.lemmas.Bool.{eqb-true, lt-ltb, eq-eqb}
use Rattle.std.proofs.lemmas.List.{append-nil}
use Rattle.gp_base.specs.declared.name.LineNo.{LineNo}
use Rattle.gp_tree.specs.Form.{Form, MaybeForm, no_form, some_form}
use Rattle.gp_tree.specs.Form as f
use Rattle.gp_tree.specs.Statement.{Statement, statements_of}
use Rattle.gp_tree.specs.Statement as s
use Rattle.gp_parse.specs.Nesting as g
use Rattle.gp_parse.specs.Nesting.{Line, line, IsSimple, AreStatements, IsStatement, IsOtherBranch, IsBlock, IsDeeper}
use Rattle.gp_parse.specs.code.NestingMachine.{simple_of, Header, branch, other_branch, while_body, for_body, Opening, Branch, Frame, Blocks, settled, settle, add, block_of, put, place, opens_with, opens, opening, goes_on, at_frames, step_by}
use Rattle.gp_parse.proofs.NestingForms.{simple_found}
use Rattle.gp_parse.proofs.NestingRest.{OtherOf, InFrame, Rest, After}

-- a frame by its parts
abbrev pub frame : Header → ℕ → ℕ → Bool → ℕ → List Statement → List Branch → ℕ → Frame
frame h oi l loop i done chain reached = record { opening = record { header = h; indent = oi; level = l; in_loop = loop }; indent = i; done = done; chain = chain; reached = reached }

module _ (fits : ℕ → Bool) where
  -- the blocks after a line, and what may come in them
  record Next (n : LineNo) (form : Form) (x : Frame) (xs : List Frame) (q : List Line) (all : List Statement) : Type 0 where
    blocks : Blocks
    goes : goes_on fits n form x xs ≡ Ok blocks
    after : After fits blocks.wants blocks.frames q all

  -- a header with its block is taken
  record Opens (o : Opening) (n : LineNo) (behind : MaybeForm) (x : Frame) (xs : List Frame) (q : List Line) (all : List Statement) : Type 0 where
    blocks : Blocks
    goes : opens fits o n behind x xs ≡ Ok blocks
    after : After fits blocks.wants blocks.frames q all

  header_complete : (o : Opening) (x : Frame) (xs : List Frame) {n : LineNo} {behind : MaybeForm} {i l : ℕ} {loop : Bool} {a : List Line} {block : List Statement} (r : List Line) (all : List Statement)
      → i ≡ o.indent → l ≡ o.level → loop ≡ o.in_loop → IsBlock fits i l loop n behind a block → Rest fits o (x ∷ xs) block r all → Opens o n behind x xs (a ++ r) all
  header_complete o x xs r all pi pl pb (g.below i l loop n a block d) rest = record {
    blocks = record { wants = Some o; frames = x ∷ xs };
    goes = rw (fits_so d) refl;
    after = record { first = a; second = r; block = block; parts = refl; left = d2; right = rest };
  }
    where
      d2 : IsDeeper fits o.indent o.level o.in_loop a block
      d2 = subst (λ (z : ℕ). IsDeeper fits z o.level o.in_loop a block) pi (subst (λ (z : ℕ). IsDeeper fits i z o.in_loop a block) pl (subst (λ (z : Bool). IsDeeper fits i l z a block) pb d))

      fits_in : {i l : ℕ} {loop : Bool} {a : List Line} {block : List Statement} → IsDeeper fits i l loop a block → fits l ≡ true
      fits_in (g.deeper i l loop x a xs h lt b) = h

      fits_so : IsDeeper fits i l loop a block → fits o.level ≡ true
      fits_so d = subst (λ (z : ℕ). fits z ≡ true) pl (fits_in d)
  header_complete o x xs r all pi pl pb (g.on_the_line i l loop n form y h is) rest = record {
    blocks = record { wants = None; frames = put o (y ∷ []) x ∷ xs };
    goes = ap (λ (z : Option Statement). opens_with fits o n z x xs) found ∙ rw fits_here refl;
    after = rest;
  }
    where
      found : simple_of o.in_loop n form ≡ Some y
      found = subst (λ (z : Bool). simple_of z n form ≡ Some y) pb (simple_found is)

      fits_here : fits o.level ≡ true
      fits_here = subst (λ (z : ℕ). fits z ≡ true) pl h

  -- a simple form is added to its block
  goes_simple : (x : Frame) (xs : List Frame) {loop : Bool} {n : LineNo} {form : Form} {y : Statement} → IsSimple loop n form y → loop ≡ x.opening.in_loop
      → goes_on fits n form x xs ≡ Ok (record { wants = None; frames = add y (settle x) ∷ xs })
  goes_simple x xs (g.docstring loop n) e = refl
  goes_simple x xs (g.assign loop n t v) e = refl
  goes_simple x xs (g.annotated loop n z ty v) e = refl
  goes_simple x xs (g.augmented loop n p op v) e = refl
  goes_simple x xs (g.evaluate loop n v) e = refl
  goes_simple x xs (g.return_value loop n v) e = refl
  goes_simple x xs (g.break_loop n) e = rw (sym e) refl
  goes_simple x xs (g.continue_loop n) e = rw (sym e) refl
  goes_simple x xs (g.pass loop n) e = refl

  -- a statement: its first line, and what is done with it
  record Goes (i l : ℕ) (loop : Bool) (a : List Line) (st : Statement) : Type 0 where
    line : Line
    behind : List Line
    parts : a ≡ line ∷ behind
    indent : line.indent ≡ i
    next : (h : Header) (oi : ℕ) (d : List Statement) (c : List Branch) (k : ℕ) (xs : List Frame) (b : List Line) (more : List Statement) (r : List Line) (all : List Statement)
        → AreStatements fits i l loop b more → Rest fits (record { header = h; indent = oi; level = l; in_loop = loop }) xs (d ++ (settled c [] ++ (st ∷ more))) r all
        → Next line.number line.form (frame h oi l loop i d c k) xs (behind ++ (b ++ r)) all

  -- the statements of a frame, regrouped round one that is added
  around : (d u more : List Statement) (st : Statement) → d ++ (u ++ (st ∷ more)) ≡ ((d ++ u) ++ st ∷ []) ++ ([] ++ more)
  around d u more st = sym (append_assoc (d ++ u) (st ∷ []) more ∙ append_assoc d u (st ∷ more))

  added : (i l : ℕ) (loop : Bool) (h : Header) (oi : ℕ) (d : List Statement) (c : List Branch) (k : ℕ) (xs : List Frame) (st : Statement) (b : List Line) (more : List Statement) (r : List Line) (all : List Statement)
      → AreStatements fits i l loop b more → Rest fits (record { header = h; indent = oi; level = l; in_loop = loop }) xs (d ++ (settled c [] ++ (st ∷ more))) r all
      → After fits None (add st (settle (frame h oi l loop i d c k)) ∷ xs) (b ++ r) all
  added i l loop h oi d c k xs st b more r all rest right = record {
    first = b;
    second = r;
    block = d ++ (settled c [] ++ (st ∷ more));
    parts = refl;
    left = record { first = []; second = b; others = []; more = more; parts = refl; other = (refl, refl); rest = rest; whole = around d (settled c []) more st };
    right = right;
  }

  stmt_goes : {i l : ℕ} {loop : Bool} {a : List Line} {st : Statement} → IsStatement fits i l loop a st → Goes i l loop a st
  stmt_goes (g.simple i l loop n form y is) = record {
    line = line n i form;
    behind = [];
    parts = refl;
    indent = refl;
    next = λ h oi d c k xs b more r all rest right. record {
      blocks = record { wants = None; frames = add y (settle (frame h oi l loop i d c k)) ∷ xs };
      goes = goes_simple (frame h oi l loop i d c k) xs is refl;
      after = added i l loop h oi d c k xs y b more r all rest right;
    };
  }
  stmt_goes (g.while_loop i l loop n test behind a ys block) = record {
    line = line n i (f.while_header test behind);
    behind = a;
    parts = refl;
    indent = refl;
    next = λ h oi d c k xs b more r all rest right.
        let x : Frame = frame h oi l loop i d c k in
        let o = header_complete (opening x (while_body n test) (l + 1) true) (settle x) xs (b ++ r) all refl refl refl block (added i l loop h oi d c k xs (s.while_loop n test (statements_of ys)) b more r all rest right) in
        record { blocks = o.blocks; goes = o.goes; after = o.after };
  }
  stmt_goes (g.for_loop i l loop n name count behind a ys block) = record {
    line = line n i (f.for_header name count behind);
    behind = a;
    parts = refl;
    indent = refl;
    next = λ h oi d c k xs b more r all rest right.
        let x : Frame = frame h oi l loop i d c k in
        let o = header_complete (opening x (for_body n name count) (l + 1) true) (settle x) xs (b ++ r) all refl refl refl block (added i l loop h oi d c k xs (s.for_loop n name count (statements_of ys)) b more r all rest right) in
        record { blocks = o.blocks; goes = o.goes; after = o.after };
  }
  stmt_goes (g.if_else i l loop n test behind a e ys zs block other) = record {
    line = line n i (f.if_header test behind);
    behind = a ++ e;
    parts = refl;
    indent = refl;
    next = λ h oi d c k xs b more r all rest right.
        let x : Frame = frame h oi l loop i d c k in
        let o = header_complete (opening x (branch n test) (l + 1) loop) (settle x) xs (e ++ (b ++ r)) all refl refl refl block
        (record {
          first = e ++ b;
          second = r;
          block = d ++ (settled c [] ++ (s.if_else n test (statements_of ys) (statements_of zs) ∷ more));
          parts = sym (append_assoc e b r);
          left = record { first = e; second = b; others = zs; more = more; parts = refl; other = other; rest = rest; whole = sym (append_assoc d (settled c []) (s.if_else n test (statements_of ys) (statements_of zs) ∷ more)) };
          right = right;
        }) in
        record { blocks = o.blocks; goes = o.goes; after = subst (λ (z : List Line). After fits o.blocks.wants o.blocks.frames z all) (sym (append_assoc a e (b ++ r))) o.after };
  }

  -- an `elif` or `else`: its first line, and what is done with it
  record GoesOn (i k : ℕ) (loop : Bool) (a : List Line) (os : List Statement) : Type 0 where
    line : Line
    behind : List Line
    parts : a ≡ line ∷ behind
    indent : line.indent ≡ i
    next : (h : Header) (oi l : ℕ) (d : List Statement) (w : Branch) (ws : List Branch) (xs : List Frame) (b : List Line) (more : List Statement) (r : List Line) (all : List Statement)
        → AreStatements fits i l loop b more → Rest fits (record { header = h; indent = oi; level = l; in_loop = loop }) xs (d ++ (settled (w ∷ ws) os ++ more)) r all
        → Next line.number line.form (frame h oi l loop i d (w ∷ ws) k) xs (behind ++ (b ++ r)) all

  others_go : {i k : ℕ} {loop : Bool} {a : List Line} {os : List Statement} → IsOtherBranch fits i k loop a os → ((a ≡ []) × (os ≡ [])) ⊎ GoesOn i k loop a os
  others_go (g.missing i k loop) = inl (refl, refl)
  others_go (g.else_block i k loop n behind a ys block) = inr (record {
    line = line n i (f.else_header behind);
    behind = a;
    parts = refl;
    indent = refl;
    next = λ h oi l d w ws xs b more r all rest right.
        let x : Frame = frame h oi l loop i d (w ∷ ws) k in
        let o = header_complete (opening x other_branch k loop) x xs (b ++ r) all refl refl refl block
        (record {
          first = b;
          second = r;
          block = d ++ (settled (w ∷ ws) ys ++ more);
          parts = refl;
          left = record { first = []; second = b; others = []; more = more; parts = refl; other = (refl, refl); rest = rest; whole = sym (append_assoc d (settled (w ∷ ws) ys) more) };
          right = right;
        }) in
        record { blocks = o.blocks; goes = o.goes; after = o.after };
  })
  others_go (g.elif_block i k loop n test behind a e ys zs block other) = inr (record {
    line = line n i (f.elif_header test behind);
    behind = a ++ e;
    parts = refl;
    indent = refl;
    next = λ h oi l d w ws xs b more r all rest right.
        let x : Frame = frame h oi l loop i d (w ∷ ws) k in
        let o = header_complete (opening x (branch n test) (k + 1) loop) x xs (e ++ (b ++ r)) all refl refl refl block
        (record {
          first = e ++ b;
          second = r;
          block = d ++ (settled (w ∷ ws) (s.if_else n test (statements_of ys) (statements_of zs) ∷ []) ++ more);
          parts = sym (append_assoc e b r);
          left = record { first = e; second = b; others = zs; more = more; parts = refl; other = other; rest = rest; whole = refl };
          right = right;
        }) in
        record { blocks = o.blocks; goes = o.goes; after = subst (λ (z : List Line). After fits o.blocks.wants o.blocks.frames z all) (sym (append_assoc a e (b ++ r))) o.after };
  })

  record First (i l : ℕ) (loop : Bool) (a : List Line) (more : List Statement) : Type 0 where
    stmt : Statement
    lines : List Line
    behind : List Line
    rest : List Statement
    parts : a ≡ lines ++ behind
    made : more ≡ stmt ∷ rest
    goes : Goes i l loop lines stmt
    block : AreStatements fits i l loop behind rest

  block_first : {i l : ℕ} {loop : Bool} {a : List Line} {more : List Statement} → AreStatements fits i l loop a more → ((a ≡ []) × (more ≡ [])) ⊎ First i l loop a more
  block_first (g.no_more i l loop) = inl (refl, refl)
  block_first (g.and_more i l loop a b st more is rest) = inr (record { stmt = st; lines = a; behind = b; rest = more; parts = refl; made = refl; goes = stmt_goes is; block = rest })

  -- the first line of what comes in a frame
  record Taken (h : Header) (oi l : ℕ) (loop : Bool) (i : ℕ) (d : List Statement) (c : List Branch) (k : ℕ) (x : Line) (q : List Line) (block : List Statement) : Type 0 where
    indent : x.indent ≡ i
    next : (xs : List Frame) (r : List Line) (all : List Statement) → Rest fits (record { header = h; indent = oi; level = l; in_loop = loop }) xs block r all
        → Next x.number x.form (frame h oi l loop i d c k) xs (q ++ r) all

  by_first : (h : Header) (oi l : ℕ) (loop : Bool) (i : ℕ) (d : List Statement) (c : List Branch) (k : ℕ) (x : Line) (q a : List Line) (more block : List Statement)
      → First i l loop a more → a ≡ x ∷ q → block ≡ d ++ (settled c [] ++ more) → Taken h oi l loop i d c k x q block
  by_first h oi l loop i d c k x q a more block p e whole =
      let all : p.goes.line ∷ (p.goes.behind ++ p.behind) ≡ x ∷ q = sym (p.parts ∙ ap (λ (z : List Line). z ++ p.behind) p.goes.parts) ∙ e in
      let head : p.goes.line ≡ x = cc in
      let tail : p.goes.behind ++ p.behind ≡ q = cc in
      let is : block ≡ d ++ (settled c [] ++ (p.stmt ∷ p.rest)) = whole ∙ ap (λ (z : List Statement). d ++ (settled c [] ++ z)) p.made in
      record {
        indent = ap (λ (z : Line). z.indent) (sym head) ∙ p.goes.indent;
        next = λ xs r all right.
            subst (λ (z : Line). Next z.number z.form (frame h oi l loop i d c k) xs (q ++ r) all) head
            (subst (λ (z : List Line). Next p.goes.line.number p.goes.line.form (frame h oi l loop i d c k) xs z all) (sym (append_assoc p.goes.behind p.behind r) ∙ ap (λ (z : List Line). z ++ r) tail)
            (p.goes.next h oi d c k xs p.behind p.rest r all p.block (subst (λ (z : List Statement). Rest fits (record { header = h; indent = oi; level = l; in_loop = loop }) xs z r all) is right)));
      }

  by_other : (h : Header) (oi l : ℕ) (loop : Bool) (i : ℕ) (d : List Statement) (w : Branch) (ws : List Branch) (k : ℕ) (x : Line) (q a b : List Line) (os more block : List Statement)
      → GoesOn i k loop a os → AreStatements fits i l loop b more → x ∷ q ≡ a ++ b → block ≡ d ++ (settled (w ∷ ws) os ++ more) → Taken h oi l loop i d (w ∷ ws) k x q block
  by_other h oi l loop i d w ws k x q a b os more block p rest e whole =
      let all : p.line ∷ (p.behind ++ b) ≡ x ∷ q = sym (e ∙ ap (λ (z : List Line). z ++ b) p.parts) in
      let head : p.line ≡ x = cc in
      let tail : p.behind ++ b ≡ q = cc in
      record {
        indent = ap (λ (z : Line). z.indent) (sym head) ∙ p.indent;
        next = λ xs r all right.
            subst (λ (z : Line). Next z.number z.form (frame h oi l loop i d (w ∷ ws) k) xs (q ++ r) all) head
            (subst (λ (z : List Line). Next p.line.number p.line.form (frame h oi l loop i d (w ∷ ws) k) xs z all) (sym (append_assoc p.behind b r) ∙ ap (λ (z : List Line). z ++ r) tail)
            (p.next h oi l d w ws xs b more r all rest (subst (λ (z : List Statement). Rest fits (record { header = h; indent = oi; level = l; in_loop = loop }) xs z r all) whole right)));
      }

  block_taken : (h : Header) (oi l : ℕ) (loop : Bool) (i : ℕ) (d : List Statement) (c : List Branch) (k : ℕ) (x : Line) (q a : List Line) (more block : List Statement)
      → a ≡ x ∷ q → AreStatements fits i l loop a more → block ≡ d ++ (settled c [] ++ more) → Taken h oi l loop i d c k x q block
  block_taken h oi l loop i d c k x q a more block e is whole =
      elim (block_first is) [
        | inl p ↦ absurd (let no : x ∷ q ≡ [] = sym e ∙ p.0 in cc)
        | inr p ↦ by_first h oi l loop i d c k x q a more block p e whole
      ]

  abbrev chained : Frame → List Branch → Frame
  chained x c = record { opening = x.opening; indent = x.indent; done = x.done; chain = c; reached = x.reached }

  frame_taken : (y : Frame) (c : List Branch) (x : Line) (q : List Line) (block : List Statement) → InFrame fits (chained y c) (x ∷ q) block
      → Taken y.opening.header y.opening.indent y.opening.level y.opening.in_loop y.indent y.done c y.reached x q block
  frame_taken y [] x q block t =
      block_taken y.opening.header y.opening.indent y.opening.level y.opening.in_loop y.indent y.done [] y.reached x q t.second t.more block
      (sym (t.parts ∙ ap (λ (z : List Line). z ++ t.second) t.other.0)) t.rest (t.whole ∙ ap (λ (z : List Statement). y.done ++ (z ++ t.more)) t.other.1)
  frame_taken y (w ∷ ws) x q block t =
      elim (others_go t.other) [
        | inl p ↦
            block_taken y.opening.header y.opening.indent y.opening.level y.opening.in_loop y.indent y.done (w ∷ ws) y.reached x q t.second t.more block
            (sym (t.parts ∙ ap (λ (z : List Line). z ++ t.second) p.0)) t.rest (t.whole ∙ ap (λ (z : List Statement). y.done ++ (settled (w ∷ ws) z ++ t.more)) p.1)
        | inr p ↦
            by_other y.opening.header y.opening.indent y.opening.level y.opening.in_loop y.indent y.done w ws y.reached x q t.first t.second t.others t.more block p t.rest t.parts t.whole
      ]

  -- ---- the frame that the line is for

  -- each frame is deeper than the one around it, and the outermost deeper than 0
  abbrev pub Falls : List Frame → Type 0
  Falls [] = Unit {0}
  Falls (x ∷ []) = 0 < x.indent
  Falls (x ∷ y ∷ ys) = (y.indent < x.indent) × Falls (y ∷ ys)

  pub falls_put : (o : Opening) (b : List Statement) (y : Frame) (ys : List Frame) → Falls (y ∷ ys) → Falls (put o b y ∷ ys)
  falls_put o b y [] h = h
  falls_put o b y (z ∷ zs) h = h

  no_front : (a b : List Line) → [] ≡ a ++ b → a ≡ []
  no_front [] b e = refl
  no_front (x ∷ a) b e = absurd cc

  no_back : (a b : List Line) → [] ≡ a ++ b → b ≡ []
  no_back [] b e = sym e
  no_back (x ∷ a) b e = absurd cc

  no_statements : {i l : ℕ} {loop : Bool} {a : List Line} {more : List Statement} → AreStatements fits i l loop a more → a ≡ [] → more ≡ []
  no_statements is e =
      elim (block_first is) [
        | inl p ↦ p.1
        | inr p ↦ absurd (let no : p.goes.line ∷ (p.goes.behind ++ p.behind) ≡ [] = sym (p.parts ∙ ap (λ (z : List Line). z ++ p.behind) p.goes.parts) ∙ e in cc)
      ]

  no_other : (i k : ℕ) (loop : Bool) (c : List Branch) (a : List Line) (os : List Statement) → OtherOf fits i k loop c a os → a ≡ [] → os ≡ []
  no_other i k loop [] a os h e = h.1
  no_other i k loop (w ∷ ws) a os h e =
      elim (others_go h) [
        | inl p ↦ p.1
        | inr p ↦ absurd (let no : p.line ∷ p.behind ≡ [] = sym p.parts ∙ e in cc)
      ]

  -- a frame that ends with no more lines
  pub nothing_is : (x : Frame) (b : List Statement) → InFrame fits x [] b → b ≡ block_of x
  nothing_is x b h =
      let others : h.others ≡ [] = no_other x.indent x.reached x.opening.in_loop x.chain h.first h.others h.other (no_front h.first h.second h.parts) in
      let more : h.more ≡ [] = no_statements h.rest (no_back h.first h.second h.parts) in
      h.whole ∙ ap (λ (z : List Statement). x.done ++ (settled x.chain z ++ h.more)) others ∙ ap (λ (z : List Statement). x.done ++ (settled x.chain [] ++ z)) more ∙ ap (λ (z : List Statement). x.done ++ z) (append-nil (settled x.chain []))

  record Found (x : Line) (q : List Line) (all : List Statement) (z : Frame) (zs : List Frame) : Type 0 where
    frame : Frame
    others : List Frame
    at : place x.indent z zs ≡ frame ∷ others
    next : Next x.number x.form frame others q all
    below : x.indent ≤ z.indent
    positive : 0 < x.indent

  falls_positive : (z : Frame) (zs : List Frame) → Falls (z ∷ zs) → 0 < z.indent
  falls_positive z [] h = h
  falls_positive z (w ∷ ws) h = let p = falls_positive w ws h.1 in let q = h.0 in omega arith

  place_here : (i : ℕ) (z : Frame) (zs : List Frame) → eqb z.indent i ≡ true → place i z zs ≡ z ∷ zs
  place_here i z [] h = rw h refl
  place_here i z (w ∷ ws) h = rw h refl

  found_here : (z : Frame) (zs : List Frame) (x : Line) (q a d : List Line) (block all : List Statement) → Falls (z ∷ zs) → InFrame fits z (x ∷ a) block → Rest fits z.opening zs block d all → q ≡ a ++ d → Found x q all z zs
  found_here z zs x q a d block all falls left right e =
      let t = frame_taken z z.chain x a block left in
      let same : x.indent ≡ z.indent = t.indent in
      let pos : 0 < z.indent = falls_positive z zs falls in
      record {
        frame = z;
        others = zs;
        at = place_here x.indent z zs (eq-eqb z.indent x.indent (sym same));
        next = subst (λ (w : List Line). Next x.number x.form z zs w all) (sym e) (t.next zs d all right);
        below = omega arith;
        positive = omega arith;
      }

  not_eq_by : (a b : ℕ) (r : Bool) → eqb a b ≡ r → b < a → r ≡ false
  not_eq_by a b true e lt = absurd (let same = eqb-true a b e in omega arith)
  not_eq_by a b false e lt = refl

  not_eq : (a b : ℕ) → b < a → eqb a b ≡ false
  not_eq a b lt = not_eq_by a b (eqb a b) refl lt

  found_below : (z w : Frame) (ws : List Frame) (x : Line) (q : List Line) (all : List Statement) → Falls (z ∷ w ∷ ws) → Found x q all (put z.opening (block_of z) w) ws → Found x q all z (w ∷ ws)
  found_below z w ws x q all falls p =
      let le : x.indent ≤ w.indent = p.below in
      let lt : w.indent < z.indent = falls.0 in
      let lower : x.indent < z.indent = omega arith in
      let differs : eqb z.indent x.indent ≡ false = not_eq z.indent x.indent lower in
      record { frame = p.frame; others = p.others; at = rw (differs, lt-ltb x.indent z.indent lower) p.at; next = p.next; below = omega arith; positive = p.positive }

  rest_found : (z : Frame) (zs : List Frame) (x : Line) (q : List Line) (all : List Statement) → Falls (z ∷ zs) → After fits None (z ∷ zs) (x ∷ q) all → Found x q all z zs
  rest_found z [] x q all falls r = split r.first r.parts r.left
    where
      split : (a : List Line) → x ∷ q ≡ a ++ r.second → InFrame fits z a r.block → Found x q all z []
      split [] e left = absurd (let no : x ∷ q ≡ [] = e ∙ r.right.0 in cc)
      split (y ∷ a) e left =
          let head : x ≡ y = cc in
          let tail : q ≡ a ++ r.second = cc in
          found_here z [] x q a r.second r.block all falls (subst (λ (w : Line). InFrame fits z (w ∷ a) r.block) (sym head) left) r.right tail
  rest_found z (w ∷ ws) x q all falls r = split r.first r.parts r.left (λ (h : After fits None (put z.opening (block_of z) w ∷ ws) (x ∷ q) all). rest_found (put z.opening (block_of z) w) ws x q all (falls_put z.opening (block_of z) w ws falls.1) h)
    where
      split : (a : List Line) → x ∷ q ≡ a ++ r.second → InFrame fits z a r.block → (After fits None (put z.opening (block_of z) w ∷ ws) (x ∷ q) all → Found x q all (put z.opening (block_of z) w) ws) → Found x q all z (w ∷ ws)
      split [] e left h =
          found_below z w ws x q all falls
          (h (subst (λ (c : List Statement). Rest fits z.opening (w ∷ ws) c (x ∷ q) all) (nothing_is z r.block left) (subst (λ (d : List Line). Rest fits z.opening (w ∷ ws) r.block d all) (sym e) r.right)))
      split (y ∷ a) e left h =
          let head : x ≡ y = cc in
          let tail : q ≡ a ++ r.second = cc in
          found_here z (w ∷ ws) x q a r.second r.block all falls (subst (λ (v : Line). InFrame fits z (v ∷ a) r.block) (sym head) left) r.right tail

  -- ---- one step

  record DeeperParts (i l : ℕ) (loop : Bool) (a : List Line) (block : List Statement) : Type 0 where
    line : Line
    others : List Line
    parts : a ≡ line ∷ others
    below : i < line.indent
    statements : AreStatements fits line.indent l loop (line ∷ others) block

  deeper_parts : {i l : ℕ} {loop : Bool} {a : List Line} {block : List Statement} → IsDeeper fits i l loop a block → DeeperParts i l loop a block
  deeper_parts (g.deeper i l loop x a xs h lt is) = record { line = x; others = a; parts = refl; below = lt; statements = is }

  pub record Steps (x : Line) (w : Option Opening) (xs : List Frame) (q : List Line) (all : List Statement) : Type 0 where
    pub blocks : Blocks
    pub goes : step_by fits x w xs ≡ Ok blocks
    pub after : After fits blocks.wants blocks.frames q all
    pub positive : 0 < x.indent

  pub step_by_complete : (x : Line) (w : Option Opening) (xs : List Frame) (q : List Line) (all : List Statement) → Falls xs → After fits w xs (x ∷ q) all → Steps x w xs q all
  step_by_complete x None [] q all falls r = absurd r
  step_by_complete x None (z ∷ zs) q all falls r =
      let p = rest_found z zs x q all falls r in
      record { blocks = p.next.blocks; goes = ap (at_frames fits x.number x.form) p.at ∙ p.next.goes; after = p.next.after; positive = p.positive }
  step_by_complete x (Some o) xs q all falls r = of_deeper x o xs q r.first r.second r.block r.parts (deeper_parts r.left) r.right
    where
      of_deeper : (x : Line) (o : Opening) (xs : List Frame) (q a b : List Line) (block : List Statement) → x ∷ q ≡ a ++ b → DeeperParts o.indent o.level o.in_loop a block → Rest fits o xs block b all → Steps x (Some o) xs q all
      of_deeper x o xs q a b block e p right =
          let every : p.line ∷ (p.others ++ b) ≡ x ∷ q = sym (e ∙ ap (λ (z : List Line). z ++ b) p.parts) in
          let head : p.line ≡ x = cc in
          let tail : p.others ++ b ≡ q = cc in
          let t = (block_taken o.header o.indent o.level o.in_loop p.line.indent [] [] 0 p.line p.others (p.line ∷ p.others) block block refl p.statements refl).next xs b all right in
          let goes : step_by fits p.line (Some o) xs ≡ Ok t.blocks = rw (lt-ltb o.indent p.line.indent p.below) t.goes in
          let lt : o.indent < p.line.indent = p.below in
          subst (λ (z : Line). Steps z (Some o) xs q all) head (record { blocks = t.blocks; goes = goes; after = subst (λ (z : List Line). After fits t.blocks.wants t.blocks.frames z all) tail t.after; positive = omega arith })
