-- A line that could come in a program is taken.
use Rattle.std.proofs.Common.{◌≡◌, ℕ, ◌<◌, Bool, true, false, eqb, List, [], ◌∷◌, ◌++◌, Option, Some, None, Result, Ok, refl, sym, ap, subst, ◌∙◌, append_assoc, arith, ◌⊎◌, inl, inr}
use Rattle.std.proofs.lemmas.Bool.{lt-ltb, eq-eqb, eqb-true}
use Rattle.std.proofs.lemmas.List.{append-nil}
use Rattle.gp_base.specs.declared.name.LineNo.{LineNo}
use Rattle.gp_tree.specs.Form.{Form, MaybeForm, Parameter, no_form, some_form}
use Rattle.gp_tree.specs.Form as f
use Rattle.gp_tree.specs.Program.{FieldDefinition, ProgramItem}
use Rattle.gp_tree.specs.Statement.{Statement}
use Rattle.gp_tree.specs.TypeExpression.{TypeExpression}
use Rattle.gp_parse.specs.Nesting as g
use Rattle.gp_parse.specs.Nesting.{Line, line, Head, function_of, struct_of, IsClassLine, IsTopLine, IsBlock, IsDeeper, AreFields, IsClassBlock, IsItem, Nests}
use Rattle.gp_parse.specs.FirstFault.{Fault}
use Rattle.gp_parse.specs.code.NestingMachine.{simple_of, class_line_of, Opening, Frame, Blocks, closed, Position, between, function_marked, class_marked, class_begun, in_class, in_function, State, top_form, at_top, body_opening, def_with, def_behind, adds_fields, in_blocks, behind_function, step_at, step}
use Rattle.gp_parse.proofs.NestingForms.{simple_found, class_line_found}
use Rattle.gp_parse.proofs.NestingRest.{After}
use Rattle.gp_parse.proofs.NestingComplete.{step_by_complete}
use Rattle.gp_parse.proofs.NestingBlocks.{IsGood, good_falls, closed_is, wants_more}
use Rattle.gp_parse.proofs.NestingTop.{AfterAt, AfterState, GoodAt, head}

module _ (fits : ℕ → Bool) where
  -- the state after a line, and what may come in it
  record TopStep (made : Result State Fault) (q : List Line) (all : List ProgramItem) : Type 0 where
    pub state : State
    pub goes : made ≡ Ok state
    pub after : AfterState fits state q all

  -- ---- items

  top_simple : {n : LineNo} {form : Form} {its : List ProgramItem} (items : List ProgramItem) → IsTopLine n form its → top_form n form items ≡ Ok (record { items = items ++ its; position = between })
  top_simple items (g.import_names n name names) = refl
  top_simple items (g.docstring n) = refl
  top_simple items (g.pass n) = refl
  top_simple items (g.module_call n name) = refl

  -- an item: its first line, and what is done with it
  record ItemGoes (a : List Line) (its : List ProgramItem) : Type 0 where
    line : Line
    behind : List Line
    parts : a ≡ line ∷ behind
    indent : line.indent ≡ 0
    next : (items : List ProgramItem) (b : List Line) (others : List ProgramItem) → Nests fits b others → TopStep (at_top items line) (behind ++ b) (items ++ (its ++ others))

  item_goes : {a : List Line} {its : List ProgramItem} → IsItem fits a its → ItemGoes a its
  item_goes (g.alone n form its is) = record {
    line = line n 0 form;
    behind = [];
    parts = refl;
    indent = refl;
    next = λ items b others h. record {
      state = record { items = items ++ its; position = between };
      goes = top_simple items is;
      after = record { items = others; whole = sym (append_assoc items its others); after = h };
    };
  }
  item_goes (g.function k n name params ty behind a xs block) = record {
    line = line k 0 f.function_decorator;
    behind = line n 0 (f.def_header name params ty behind) ∷ a;
    parts = refl;
    indent = refl;
    next = λ items b others h. record {
      state = record { items = items; position = function_marked k };
      goes = refl;
      after = record {
        items = function_of (head k n name params ty) xs ∷ others;
        whole = refl;
        after = record {
          first = line n 0 (f.def_header name params ty behind) ∷ a;
          second = b;
          inner = function_of (head k n name params ty) xs ∷ [];
          others = others;
          parts = refl;
          left = g.function k n name params ty behind a xs block;
          rest = h;
          whole = refl;
        };
      };
    };
  }
  item_goes (g.class k n name a ds block) = record {
    line = line k 0 f.struct_decorator;
    behind = line n 0 (f.class_header name) ∷ a;
    parts = refl;
    indent = refl;
    next = λ items b others h. record {
      state = record { items = items; position = class_marked k };
      goes = refl;
      after = record {
        items = struct_of k n name ds ∷ others;
        whole = refl;
        after = record {
          first = line n 0 (f.class_header name) ∷ a;
          second = b;
          inner = struct_of k n name ds ∷ [];
          others = others;
          parts = refl;
          left = g.class k n name a ds block;
          rest = h;
          whole = refl;
        };
      };
    };
  }

  record FirstItem (a : List Line) (all : List ProgramItem) : Type 0 where
    lines : List Line
    behind : List Line
    items : List ProgramItem
    others : List ProgramItem
    parts : a ≡ lines ++ behind
    made : all ≡ items ++ others
    goes : ItemGoes lines items
    nests : Nests fits behind others

  first_item : {a : List Line} {all : List ProgramItem} → Nests fits a all → ((a ≡ []) × (all ≡ [])) ⊎ FirstItem a all
  first_item g.no_more = inl (refl, refl)
  first_item (g.and_more a b items others is rest) = inr (record { lines = a; behind = b; items = items; others = others; parts = refl; made = refl; goes = item_goes is; nests = rest })

  record TopTaken (x : Line) (q : List Line) (more : List ProgramItem) : Type 0 where
    indent : x.indent ≡ 0
    next : (items : List ProgramItem) → TopStep (at_top items x) q (items ++ more)

  top_taken : (x : Line) (q : List Line) (more : List ProgramItem) → Nests fits (x ∷ q) more → TopTaken x q more
  top_taken x q more h =
      elim (first_item h) [
        | inl e ↦ absurd (let none : x ∷ q ≡ [] = e.0 in cc)
        | inr p ↦
            let every : p.goes.line ∷ (p.goes.behind ++ p.behind) ≡ x ∷ q = sym (p.parts ∙ ap (λ (z : List Line). z ++ p.behind) p.goes.parts) in
            let first : p.goes.line ≡ x = cc in
            let tail : p.goes.behind ++ p.behind ≡ q = cc in
            record {
              indent = ap (λ (z : Line). z.indent) (sym first) ∙ p.goes.indent;
              next = λ items.
                  subst (λ (z : Line). TopStep (at_top items z) q (items ++ more)) first
                  (subst (λ (z : List Line). TopStep (at_top items p.goes.line) z (items ++ more)) tail
                  (subst (λ (z : List ProgramItem). TopStep (at_top items p.goes.line) (p.goes.behind ++ p.behind) (items ++ z)) (sym p.made) (p.goes.next items p.behind p.others p.nests)));
            }
      ]

  -- ---- behind a decorator

  no_function : {n : LineNo} {form : Form} {its : List ProgramItem} → IsTopLine n form its → form ≡ f.function_decorator → ⊥
  no_function (g.import_names n name names) e = cc
  no_function (g.docstring n) e = cc
  no_function (g.pass n) e = cc
  no_function (g.module_call n name) e = cc

  no_class : {n : LineNo} {form : Form} {its : List ProgramItem} → IsTopLine n form its → form ≡ f.struct_decorator → ⊥
  no_class (g.import_names n name names) e = cc
  no_class (g.docstring n) e = cc
  no_class (g.pass n) e = cc
  no_class (g.module_call n name) e = cc

  first_line : (x y : Line) (a b : List Line) → x ∷ a ≡ y ∷ b → x ≡ y
  first_line x y a b e = cc

  other_lines : (x y : Line) (a b : List Line) → x ∷ a ≡ y ∷ b → a ≡ b
  other_lines x y a b e = cc

  record MarkedFunction (k : LineNo) (a : List Line) (its : List ProgramItem) : Type 0 where
    n : LineNo
    name : List ℕ
    params : List Parameter
    ty : Option TypeExpression
    behind : MaybeForm
    lines : List Line
    block : List Statement
    parts : a ≡ line n 0 (f.def_header name params ty behind) ∷ lines
    made : its ≡ function_of (head k n name params ty) block ∷ []
    is : IsBlock fits 0 1 false n behind lines block

  marked_function : {b : List Line} {its : List ProgramItem} (k : LineNo) (a : List Line) → IsItem fits b its → b ≡ line k 0 f.function_decorator ∷ a → MarkedFunction k a its
  marked_function k a (g.alone n form its is) e = absurd (no_function is (ap (λ (z : Line). z.form) (first_line _ _ _ _ e)))
  marked_function k a (g.function m n name params ty behind lines xs block) e = record {
    n = n;
    name = name;
    params = params;
    ty = ty;
    behind = behind;
    lines = lines;
    block = xs;
    parts = sym (other_lines _ _ _ _ e);
    made = ap (λ (z : LineNo). function_of (head z n name params ty) xs ∷ []) (ap (λ (z : Line). z.number) (first_line _ _ _ _ e));
    is = block;
  }
  marked_function k a (g.class m n name lines ds block) e = absurd (let same : f.struct_decorator ≡ f.function_decorator = ap (λ (z : Line). z.form) (first_line _ _ _ _ e) in cc)

  record MarkedClass (k : LineNo) (a : List Line) (its : List ProgramItem) : Type 0 where
    n : LineNo
    name : List ℕ
    lines : List Line
    fields : List FieldDefinition
    parts : a ≡ line n 0 (f.class_header name) ∷ lines
    made : its ≡ struct_of k n name fields ∷ []
    is : IsClassBlock lines fields

  marked_class : {b : List Line} {its : List ProgramItem} (k : LineNo) (a : List Line) → IsItem fits b its → b ≡ line k 0 f.struct_decorator ∷ a → MarkedClass k a its
  marked_class k a (g.alone n form its is) e = absurd (no_class is (ap (λ (z : Line). z.form) (first_line _ _ _ _ e)))
  marked_class k a (g.function m n name params ty behind lines xs block) e = absurd (let same : f.function_decorator ≡ f.struct_decorator = ap (λ (z : Line). z.form) (first_line _ _ _ _ e) in cc)
  marked_class k a (g.class m n name lines ds block) e = record {
    n = n;
    name = name;
    lines = lines;
    fields = ds;
    parts = sym (other_lines _ _ _ _ e);
    made = ap (λ (z : LineNo). struct_of z n name ds ∷ []) (ap (λ (z : Line). z.number) (first_line _ _ _ _ e));
    is = block;
  }

  -- a `def` line with its block
  def_complete : {i l : ℕ} {loop : Bool} {n : LineNo} {behind : MaybeForm} {a : List Line} {xs : List Statement} (k : LineNo) (name : List ℕ) (params : List Parameter) (ty : Option TypeExpression) (items : List ProgramItem) (b : List Line) (others all : List ProgramItem)
      → IsBlock fits i l loop n behind a xs → i ≡ 0 → l ≡ 1 → loop ≡ false → Nests fits b others → all ≡ items ++ (function_of (head k n name params ty) xs ∷ others)
      → TopStep (def_behind (head k n name params ty) behind items) (a ++ b) all
  def_complete k name params ty items b others all (g.on_the_line i l loop n form y h is) pi pl pb nests whole = record {
    state = record { items = items ++ function_of (head k n name params ty) (y ∷ []) ∷ []; position = between };
    goes = ap (λ (z : Option Statement). def_with (head k n name params ty) z items) (subst (λ (z : Bool). simple_of z n form ≡ Some y) pb (simple_found is));
    after = record { items = others; whole = whole ∙ sym (append_assoc items (function_of (head k n name params ty) (y ∷ []) ∷ []) others); after = nests };
  }
  def_complete k name params ty items b others all (g.below i l loop n a xs d) pi pl pb nests whole = record {
    state = record { items = items; position = in_function (head k n name params ty) (record { wants = Some body_opening; frames = [] }) };
    goes = refl;
    after = record {
      items = function_of (head k n name params ty) xs ∷ others;
      whole = whole;
      after = record {
        first = a;
        second = b;
        inner = xs;
        others = others;
        parts = refl;
        left = record { first = a; second = []; block = xs; parts = sym (append-nil a); left = d2; right = (refl, refl) };
        rest = nests;
        whole = refl;
      };
    };
  }
    where
      d2 : IsDeeper fits 0 1 false a xs
      d2 = subst (λ (z : ℕ). IsDeeper fits z 1 false a xs) pi (subst (λ (z : ℕ). IsDeeper fits i z false a xs) pl (subst (λ (z : Bool). IsDeeper fits i l z a xs) pb d))

  -- the first line of two parts, where the first part has it
  record FirstPart (x : Line) (q a b : List Line) (y : Line) (c : List Line) : Type 0 where
    same : x ≡ y
    behind : q ≡ c ++ b

  first_part : (x : Line) (q a b : List Line) (y : Line) (c : List Line) → x ∷ q ≡ a ++ b → a ≡ y ∷ c → FirstPart x q a b y c
  first_part x q a b y c e h =
      let every : x ∷ q ≡ y ∷ (c ++ b) = e ∙ ap (λ (z : List Line). z ++ b) h in
      record { same = cc; behind = cc }

  function_complete : (k : LineNo) (x : Line) (q : List Line) (items all more : List ProgramItem) → all ≡ items ++ more → AfterAt fits (function_marked k) (x ∷ q) more → TopStep (step_at fits x items (function_marked k)) q all
  function_complete k x q items all more whole r =
      let m = marked_function k r.first r.left refl in
      let p = first_part x q r.first r.second (line m.n 0 (f.def_header m.name m.params m.ty m.behind)) m.lines r.parts m.parts in
      let t = def_complete k m.name m.params m.ty items r.second r.others all m.is refl refl refl r.rest (whole ∙ ap (λ (z : List ProgramItem). items ++ z) (r.whole ∙ ap (λ (z : List ProgramItem). z ++ r.others) m.made)) in
      let here : TopStep (step_at fits (line m.n 0 (f.def_header m.name m.params m.ty m.behind)) items (function_marked k)) (m.lines ++ r.second) all = record { state = t.state; goes = t.goes; after = t.after } in
      subst (λ (z : Line). TopStep (step_at fits z items (function_marked k)) q all) (sym p.same)
      (subst (λ (z : List Line). TopStep (step_at fits (line m.n 0 (f.def_header m.name m.params m.ty m.behind)) items (function_marked k)) z all) (sym p.behind) here)

  class_complete : (k : LineNo) (x : Line) (q : List Line) (items all more : List ProgramItem) → all ≡ items ++ more → AfterAt fits (class_marked k) (x ∷ q) more → TopStep (step_at fits x items (class_marked k)) q all
  class_complete k x q items all more whole r =
      let m = marked_class k r.first r.left refl in
      let p = first_part x q r.first r.second (line m.n 0 (f.class_header m.name)) m.lines r.parts m.parts in
      let here : TopStep (step_at fits (line m.n 0 (f.class_header m.name)) items (class_marked k)) (m.lines ++ r.second) all =
      record {
        state = record { items = items; position = class_begun k m.n m.name };
        goes = refl;
        after = record {
          items = more;
          whole = whole;
          after = record { first = m.lines; second = r.second; inner = m.fields; others = r.others; parts = refl; left = m.is; rest = r.rest; whole = r.whole ∙ ap (λ (z : List ProgramItem). z ++ r.others) m.made };
        };
      } in
      subst (λ (z : Line). TopStep (step_at fits z items (class_marked k)) q all) (sym p.same)
      (subst (λ (z : List Line). TopStep (step_at fits (line m.n 0 (f.class_header m.name)) items (class_marked k)) z all) (sym p.behind) here)

  -- ---- in a class

  record FirstField (i : ℕ) (a : List Line) (ds : List FieldDefinition) : Type 0 where
    n : LineNo
    form : Form
    behind : List Line
    found : List FieldDefinition
    rest : List FieldDefinition
    parts : a ≡ line n i form ∷ behind
    made : ds ≡ found ++ rest
    is : IsClassLine n form found
    fields : AreFields i behind rest

  first_field : {i : ℕ} {a : List Line} {ds : List FieldDefinition} → AreFields i a ds → ((a ≡ []) × (ds ≡ [])) ⊎ FirstField i a ds
  first_field (g.no_more i) = inl (refl, refl)
  first_field (g.and_more i n form a ds es is fields) = inr (record { n = n; form = form; behind = a; found = ds; rest = es; parts = refl; made = refl; is = is; fields = fields })

  -- a line of the block, behind these fields
  field_complete : (k m : LineNo) (name : List ℕ) (i : ℕ) (ds es : List FieldDefinition) (x : Line) (q a b : List Line) (items all others : List ProgramItem)
      → FirstField i a es → x ∷ q ≡ a ++ b → Nests fits b others → all ≡ items ++ (struct_of k m name (ds ++ es) ∷ others)
      → TopStep (adds_fields (class_line_of x.number x.form) x.number k m name i ds items) q all × (x.indent ≡ i)
  field_complete k m name i ds es x q a b items all others h e nests whole =
      let p = first_part x q a b (line h.n i h.form) h.behind e h.parts in
      let here : TopStep (adds_fields (class_line_of h.n h.form) h.n k m name i ds items) (h.behind ++ b) all =
      record {
        state = record { items = items; position = in_class k m name i (ds ++ h.found) };
        goes = ap (λ (z : Option (List FieldDefinition)). adds_fields z h.n k m name i ds items) (class_line_found h.is);
        after = record {
          items = struct_of k m name (ds ++ es) ∷ others;
          whole = whole;
          after = record {
            first = h.behind;
            second = b;
            inner = h.rest;
            others = others;
            parts = refl;
            left = h.fields;
            rest = nests;
            whole = ap (λ (z : List FieldDefinition). struct_of k m name z ∷ others) (ap (λ (z : List FieldDefinition). ds ++ z) h.made ∙ sym (append_assoc ds h.found h.rest));
          };
        };
      } in (
        subst (λ (z : Line). TopStep (adds_fields (class_line_of z.number z.form) z.number k m name i ds items) q all) (sym p.same) (subst (λ (z : List Line). TopStep (adds_fields (class_line_of h.n h.form) h.n k m name i ds items) z all) (sym p.behind) here),
        ap (λ (z : Line). z.indent) p.same,
      )

  record ClassParts (a : List Line) (ds : List FieldDefinition) : Type 0 where
    indent : ℕ
    deeper : 0 < indent
    fields : FirstField indent a ds

  class_parts : {a : List Line} {ds : List FieldDefinition} → IsClassBlock a ds → ClassParts a ds
  class_parts (g.deeper x a ds lt fields) = record {
    indent = x.indent;
    deeper = lt;
    fields = elim (first_field fields) [
      | inl e ↦ absurd (let none : x ∷ a ≡ [] = e.0 in cc)
      | inr p ↦ p
    ];
  }

  begun_complete : (k m : LineNo) (name : List ℕ) (x : Line) (q : List Line) (items all more : List ProgramItem) → all ≡ items ++ more → AfterAt fits (class_begun k m name) (x ∷ q) more → TopStep (step_at fits x items (class_begun k m name)) q all
  begun_complete k m name x q items all more whole r =
      let c = class_parts r.left in
      let h = field_complete k m name c.indent [] r.inner x q r.first r.second items all r.others c.fields r.parts r.rest (whole ∙ ap (λ (z : List ProgramItem). items ++ z) r.whole) in
      let t : TopStep (adds_fields (class_line_of x.number x.form) x.number k m name x.indent [] items) q all = subst (λ (z : ℕ). TopStep (adds_fields (class_line_of x.number x.form) x.number k m name z [] items) q all) (sym h.1) h.0 in
      let lt : 0 < x.indent = subst (λ (z : ℕ). 0 < z) (sym h.1) c.deeper in
      record { state = t.state; goes = rw (lt-ltb 0 x.indent lt) t.goes; after = t.after }

  not_eq_by : (a b : ℕ) (r : Bool) → eqb a b ≡ r → (a ≡ b → ⊥) → r ≡ false
  not_eq_by a b true e ne = absurd (ne (eqb-true a b e))
  not_eq_by a b false e ne = refl

  not_eq : (a b : ℕ) → (a ≡ b → ⊥) → eqb a b ≡ false
  not_eq a b ne = not_eq_by a b (eqb a b) refl ne

  in_class_complete : (k m : LineNo) (name : List ℕ) (i : ℕ) (ds : List FieldDefinition) (x : Line) (q : List Line) (items all more : List ProgramItem) → 0 < i → all ≡ items ++ more → AfterAt fits (in_class k m name i ds) (x ∷ q) more → TopStep (step_at fits x items (in_class k m name i ds)) q all
  in_class_complete k m name i ds x q items all more lt whole r =
      elim (first_field r.left) [
        | inl e ↦
            let here : Nests fits (x ∷ q) r.others = subst (λ (z : List Line). Nests fits z r.others) (sym (r.parts ∙ ap (λ (z : List Line). z ++ r.second) e.0)) r.rest in
            let t = top_taken x q r.others here in
            let done = t.next (items ++ struct_of k m name ds ∷ []) in
            let zero = t.indent in
            let differs : eqb x.indent i ≡ false = not_eq x.indent i (λ same. absurd (omega arith)) in
            let is : all ≡ (items ++ struct_of k m name ds ∷ []) ++ r.others =
            whole ∙ ap (λ (z : List ProgramItem). items ++ z) (r.whole ∙ ap (λ (z : List FieldDefinition). struct_of k m name (ds ++ z) ∷ r.others) e.1 ∙ ap (λ (z : List FieldDefinition). struct_of k m name z ∷ r.others) (append-nil ds)) ∙ sym (append_assoc items (struct_of k m name ds ∷ []) r.others) in
            record { state = done.state; goes = rw differs done.goes; after = subst (λ (z : List ProgramItem). AfterState fits done.state q z) (sym is) done.after }
        | inr p ↦
            let h = field_complete k m name i ds r.inner x q r.first r.second items all r.others p r.parts r.rest (whole ∙ ap (λ (z : List ProgramItem). items ++ z) r.whole) in
            record { state = h.0.state; goes = rw (eq-eqb x.indent i h.1) h.0.goes; after = h.0.after }
      ]

  -- ---- in a function

  behind_complete : (h : Head) (w : Option Opening) (xs : List Frame) (x : Line) (q : List Line) (items all others : List ProgramItem) (block : List Statement)
      → After fits w xs [] block → Nests fits (x ∷ q) others → all ≡ items ++ (function_of h block ∷ others) → TopStep (behind_function h items x w xs) q all
  behind_complete h (Some o) xs x q items all others block r nests whole = absurd (wants_more fits o xs block r)
  behind_complete h None [] x q items all others block r nests whole = absurd r
  behind_complete h None (y ∷ ys) x q items all others block r nests whole =
      let t = top_taken x q others nests in
      let done = t.next (items ++ function_of h (closed y ys) ∷ []) in
      let is : all ≡ (items ++ function_of h (closed y ys) ∷ []) ++ others =
      whole ∙ ap (λ (z : List Statement). items ++ (function_of h z ∷ others)) (closed_is fits y ys block r) ∙ sym (append_assoc items (function_of h (closed y ys) ∷ []) others) in
      record { state = done.state; goes = done.goes; after = subst (λ (z : List ProgramItem). AfterState fits done.state q z) (sym is) done.after }

  in_function_complete : (h : Head) (b : Blocks) (x : Line) (q : List Line) (items all more : List ProgramItem) → IsGood fits b → all ≡ items ++ more → AfterAt fits (in_function h b) (x ∷ q) more → TopStep (step_at fits x items (in_function h b)) q all
  in_function_complete h b x q items all more good whole r = split r.first r.parts r.left
    where
      split : (a : List Line) → x ∷ q ≡ a ++ r.second → After fits b.wants b.frames a r.inner → TopStep (step_at fits x items (in_function h b)) q all
      split [] e left =
          let here : Nests fits (x ∷ q) r.others = subst (λ (z : List Line). Nests fits z r.others) (sym e) r.rest in
          let t = behind_complete h b.wants b.frames x q items all r.others r.inner left here (whole ∙ ap (λ (z : List ProgramItem). items ++ z) r.whole) in
          record { state = t.state; goes = rw (eq-eqb x.indent 0 (top_taken x q r.others here).indent) t.goes; after = t.after }
      split (y ∷ a) e left =
          let same : x ≡ y = cc in
          let tail : q ≡ a ++ r.second = cc in
          let t = step_by_complete fits x b.wants b.frames a r.inner (good_falls fits b.wants b.frames good) (subst (λ (z : Line). After fits b.wants b.frames (z ∷ a) r.inner) (sym same) left) in
          let pos = t.positive in
          let differs : eqb x.indent 0 ≡ false = not_eq x.indent 0 (λ zero. absurd (omega arith)) in
          record {
            state = record { items = items; position = in_function h t.blocks };
            goes = rw differs (ap (in_blocks h items) t.goes);
            after = record {
              items = more;
              whole = whole;
              after = record { first = a; second = r.second; inner = r.inner; others = r.others; parts = tail; left = t.after; rest = r.rest; whole = r.whole };
            };
          }

  -- ---- one step

  step_at_complete : (x : Line) (items : List ProgramItem) (p : Position) (q : List Line) (all more : List ProgramItem) → GoodAt fits p → all ≡ items ++ more → AfterAt fits p (x ∷ q) more → TopStep (step_at fits x items p) q all
  step_at_complete x items between q all more good whole r =
      let t = (top_taken x q more r).next items in record { state = t.state; goes = t.goes; after = subst (λ (z : List ProgramItem). AfterState fits t.state q z) (sym whole) t.after }
  step_at_complete x items (function_marked k) q all more good whole r = function_complete k x q items all more whole r
  step_at_complete x items (class_marked k) q all more good whole r = class_complete k x q items all more whole r
  step_at_complete x items (class_begun k n name) q all more good whole r = begun_complete k n name x q items all more whole r
  step_at_complete x items (in_class k n name i ds) q all more good whole r = in_class_complete k n name i ds x q items all more good whole r
  step_at_complete x items (in_function h b) q all more good whole r = in_function_complete h b x q items all more good whole r

  -- a line that could come is taken
  pub step_complete : (x : Line) (s : State) (q : List Line) (all : List ProgramItem) → GoodAt fits s.position → AfterState fits s (x ∷ q) all → (t : State) × (step fits s x ≡ Ok t) × AfterState fits t q all
  unfolding step
  step_complete x s q all good r = let t = step_at_complete x s.items s.position q all r.items good r.whole r.after in (t.state, t.goes, t.after)
