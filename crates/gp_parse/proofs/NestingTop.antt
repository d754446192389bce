-- What may still come in a program. A line that is taken could come.
use Rattle.std.proofs.Common.{◌≡◌, ℕ, ◌<◌, Bool, true, false, List, [], ◌∷◌, ◌++◌, Option, Some, None, Result, Ok, Err, refl, sym, ap, subst, ◌∙◌, append_assoc}
use Rattle.std.proofs.lemmas.Bool.{eqb-true, ltb-true}
use Rattle.std.proofs.lemmas.List.{append-nil}
use Rattle.gp_base.specs.declared.name.LineNo.{LineNo}
use Rattle.gp_tree.specs.Form.{Form, MaybeForm, no_form, some_form}
use Rattle.gp_tree.specs.Form as f
use Rattle.gp_tree.specs.Program.{FieldDefinition, ProgramItem}
use Rattle.gp_tree.specs.Statement.{Statement}
use Rattle.gp_parse.specs.Nesting as g
use Rattle.gp_parse.specs.Nesting.{Line, line, Head, function_of, struct_of, IsClassLine, IsTopLine, IsBlock, IsDeeper, AreFields, IsClassBlock, IsItem, Nests}
use Rattle.gp_parse.specs.FirstFault.{Fault, nesting}
use Rattle.gp_parse.specs.code.NestingMachine.{simple_of, class_line_of, top_line_of, Opening, Frame, Blocks, closed, step_by, Position, between, function_marked, class_marked, class_begun, in_class, in_function, State, adds_items, top_form, at_top, body_opening, def_with, def_behind, def_line, class_line, adds_fields, in_blocks, behind_function, step_at, step}
use Rattle.gp_parse.proofs.NestingForms.{simple_is, class_line_is, top_line_is}
use Rattle.gp_parse.proofs.NestingRest.{After, yes, no, chosen, ok_is, err_ok, step_by_sound}
use Rattle.gp_parse.proofs.NestingBlocks.{IsGood, good_fits, step_by_good, closes}

-- lines in two parts: those that end what was begun, and the items behind it
pub record Begun (fits : ℕ → Bool) (A : Type 0) (P : List Line → A → Type 0) (make : A → List ProgramItem) (q : List Line) (all : List ProgramItem) : Type 0 where
  pub first : List Line
  pub second : List Line
  pub inner : A
  pub others : List ProgramItem
  pub parts : q ≡ first ++ second
  pub left : P first inner
  pub rest : Nests fits second others
  pub whole : all ≡ make inner ++ others

abbrev pub head : LineNo → LineNo → List ℕ → List f.Parameter → Option Rattle.gp_tree.specs.TypeExpression.TypeExpression → Head
head k n name params ty = record { mark = k; line = n; name = name; params = params; result_type = ty }

module _ (fits : ℕ → Bool) where
  abbrev pub Marked : Form → LineNo → List Line → List ProgramItem → Type 0
  Marked d k q all = Begun fits (List ProgramItem) (λ (a : List Line) (items : List ProgramItem). IsItem fits (line k 0 d ∷ a) items) (λ (items : List ProgramItem). items) q all

  -- the lines that may come at a position, with the items that they give
  abbrev pub AfterAt : Position → List Line → List ProgramItem → Type 0
  AfterAt between q all = Nests fits q all
  AfterAt (function_marked k) q all = Marked f.function_decorator k q all
  AfterAt (class_marked k) q all = Marked f.struct_decorator k q all
  AfterAt (class_begun k n name) q all = Begun fits (List FieldDefinition) IsClassBlock (λ (ds : List FieldDefinition). struct_of k n name ds ∷ []) q all
  AfterAt (in_class k n name i ds) q all = Begun fits (List FieldDefinition) (AreFields i) (λ (es : List FieldDefinition). struct_of k n name (ds ++ es) ∷ []) q all
  AfterAt (in_function h b) q all = Begun fits (List Statement) (After fits b.wants b.frames) (λ (xs : List Statement). function_of h xs ∷ []) q all

  pub record AfterState (t : State) (q : List Line) (all : List ProgramItem) : Type 0 where
    pub items : List ProgramItem
    pub whole : all ≡ t.items ++ items
    pub after : AfterAt t.position q items

  abbrev pub GoodAt : Position → Type 0
  GoodAt between = Unit {0}
  GoodAt (function_marked k) = Unit {0}
  GoodAt (class_marked k) = Unit {0}
  GoodAt (class_begun k n name) = Unit {0}
  GoodAt (in_class k n name i ds) = 0 < i
  GoodAt (in_function h b) = IsGood fits b

  -- ---- a line that was taken could come

  -- items that come at the top
  record Tops (items : List ProgramItem) (q : List Line) (all : List ProgramItem) : Type 0 where
    more : List ProgramItem
    whole : all ≡ items ++ more
    nests : Nests fits q more

  mark_sound : (d : Form) (n : LineNo) (i : ℕ) (q : List Line) (items all more : List ProgramItem) → i ≡ 0 → all ≡ items ++ more → Marked d n q more → Tops items (line n i d ∷ q) all
  mark_sound d n i q items all more zero whole r = record {
    more = more;
    whole = whole;
    nests = subst (λ (z : List Line). Nests fits z more) (ap (λ (j : ℕ). line n j d ∷ (r.first ++ r.second)) (sym zero) ∙ ap (λ (z : List Line). line n i d ∷ z) (sym r.parts))
        (subst (λ (z : List ProgramItem). Nests fits (line n 0 d ∷ (r.first ++ r.second)) z) (sym r.whole) (g.and_more (line n 0 d ∷ r.first) r.second r.inner r.others r.left r.rest));
  }

  alone_sound : (n : LineNo) (form : Form) (i : ℕ) (q : List Line) (items all : List ProgramItem) (t : State) → i ≡ 0 → adds_items (top_line_of n form) n items ≡ Ok t → AfterState t q all → Tops items (line n i form ∷ q) all
  alone_sound n form i q items all t zero e r = by (top_line_of n form) refl e
    where
      from : (its : List ProgramItem) → IsTopLine n form its → AfterState (record { items = items ++ its; position = between }) q all → Tops items (line n i form ∷ q) all
      from its is r = record {
        more = its ++ r.items;
        whole = r.whole ∙ append_assoc items its r.items;
        nests = subst (λ (j : ℕ). Nests fits (line n j form ∷ q) (its ++ r.items)) (sym zero) (g.and_more (line n 0 form ∷ []) q its r.items (g.alone n form its is) r.after);
      }

      by : (o : Option (List ProgramItem)) → top_line_of n form ≡ o → adds_items o n items ≡ Ok t → Tops items (line n i form ∷ q) all
      by None is e = absurd (err_ok (nesting n) t e)
      by (Some its) is e = from its (top_line_is n form its is) (subst (λ (z : State). AfterState z q all) (sym (ok_is (record { items = items ++ its; position = between }) t e)) r)

  top_form_sound : (n : LineNo) (form : Form) (i : ℕ) (q : List Line) (items all : List ProgramItem) (t : State) → i ≡ 0 → top_form n form items ≡ Ok t → AfterState t q all → Tops items (line n i form ∷ q) all
  top_form_sound n f.function_decorator i q items all t zero e r =
      let h : AfterState (record { items = items; position = function_marked n }) q all = subst (λ (z : State). AfterState z q all) (sym (ok_is (record { items = items; position = function_marked n }) t e)) r in
      mark_sound f.function_decorator n i q items all h.items zero h.whole h.after
  top_form_sound n f.struct_decorator i q items all t zero e r =
      let h : AfterState (record { items = items; position = class_marked n }) q all = subst (λ (z : State). AfterState z q all) (sym (ok_is (record { items = items; position = class_marked n }) t e)) r in
      mark_sound f.struct_decorator n i q items all h.items zero h.whole h.after
  top_form_sound n form i q items all t zero e r = alone_sound n form i q items all t zero e r

  at_top_sound : (x : Line) (q : List Line) (items all : List ProgramItem) (t : State) → at_top items x ≡ Ok t → AfterState t q all → Tops items (x ∷ q) all
  at_top_sound x q items all t e r =
      elim (chosen _ _ _ _ e) [
        | yes h go ↦ top_form_sound x.number x.form x.indent q items all t (eqb-true x.indent 0 h) go r
        | no h go ↦ absurd (err_ok (nesting x.number) t go)
      ]

  -- an item that ends before the line
  behind_item : (make : List ProgramItem) (items all : List ProgramItem) (p : Position) (q : List Line) → ((others : List ProgramItem) → Nests fits q others → AfterAt p q (make ++ others))
      → Tops (items ++ make) q all → AfterState (record { items = items; position = p }) q all
  behind_item make items all p q from h = record { items = make ++ h.more; whole = h.whole ∙ append_assoc items make h.more; after = from h.more h.nests }

  all_lines : (o : Opening) (a : List Line) (xs : List Statement) → After fits (Some o) [] a xs → IsDeeper fits o.indent o.level o.in_loop a xs
  all_lines o a xs r =
      subst (λ (z : List Statement). IsDeeper fits o.indent o.level o.in_loop a z) (sym r.right.1)
      (subst (λ (z : List Line). IsDeeper fits o.indent o.level o.in_loop z r.block) (sym (r.parts ∙ ap (λ (z : List Line). r.first ++ z) r.right.0 ∙ append-nil r.first)) r.left)

  module _ (first_fits : fits 1 ≡ true) where
    def_sound : (k n : LineNo) (name : List ℕ) (params : List f.Parameter) (ty : Option Rattle.gp_tree.specs.TypeExpression.TypeExpression) (behind : MaybeForm) (q : List Line) (items all : List ProgramItem) (t : State)
        → def_behind (record { mark = k; line = n; name = name; params = params; result_type = ty }) behind items ≡ Ok t → AfterState t q all
        → AfterState (record { items = items; position = function_marked k }) (line n 0 (f.def_header name params ty behind) ∷ q) all
    def_sound k n name params ty no_form q items all t e r =
        let h : Head = record { mark = k; line = n; name = name; params = params; result_type = ty } in
        let p : Position = in_function h (record { wants = Some body_opening; frames = [] }) in
        let a : AfterState (record { items = items; position = p }) q all = subst (λ (z : State). AfterState z q all) (sym (ok_is (record { items = items; position = p }) t e)) r in
        let b = a.after in
        record {
          items = a.items;
          whole = a.whole;
          after = record {
            first = line n 0 (f.def_header name params ty no_form) ∷ b.first;
            second = b.second;
            inner = function_of h b.inner ∷ [];
            others = b.others;
            parts = ap (λ (z : List Line). line n 0 (f.def_header name params ty no_form) ∷ z) b.parts;
            left = g.function k n name params ty no_form b.first b.inner (g.below 0 1 false n b.first b.inner (all_lines body_opening b.first b.inner b.left));
            rest = b.rest;
            whole = b.whole;
          };
        }
    def_sound k n name params ty (some_form form) q items all t e r = by (simple_of false n form) refl e
      where
        from : (y : Statement) → simple_of false n form ≡ Some y → AfterState (record { items = items ++ function_of (head k n name params ty) (y ∷ []) ∷ []; position = between }) q all
            → AfterState (record { items = items; position = function_marked k }) (line n 0 (f.def_header name params ty (some_form form)) ∷ q) all
        from y is r = record {
          items = function_of (head k n name params ty) (y ∷ []) ∷ r.items;
          whole = r.whole ∙ append_assoc items (function_of (head k n name params ty) (y ∷ []) ∷ []) r.items;
          after = record {
            first = line n 0 (f.def_header name params ty (some_form form)) ∷ [];
            second = q;
            inner = function_of (head k n name params ty) (y ∷ []) ∷ [];
            others = r.items;
            parts = refl;
            left = g.function k n name params ty (some_form form) [] (y ∷ []) (g.on_the_line 0 1 false n form y first_fits (simple_is false n form y is));
            rest = r.after;
            whole = refl;
          };
        }

        by : (o : Option Statement) → simple_of false n form ≡ o → def_with (head k n name params ty) o items ≡ Ok t → AfterState (record { items = items; position = function_marked k }) (line n 0 (f.def_header name params ty (some_form form)) ∷ q) all
        by None is e = absurd (err_ok (nesting n) t e)
        by (Some y) is e = from y is (subst (λ (z : State). AfterState z q all) (sym (ok_is (record { items = items ++ function_of (head k n name params ty) (y ∷ []) ∷ []; position = between }) t e)) r)

    def_line_sound : (k n : LineNo) (form : Form) (q : List Line) (items all : List ProgramItem) (t : State) → def_line k n form items ≡ Ok t → AfterState t q all → AfterState (record { items = items; position = function_marked k }) (line n 0 form ∷ q) all
    def_line_sound k n (f.def_header name params ty behind) q items all t e r = def_sound k n name params ty behind q items all t e r
    def_line_sound k n form q items all t e r = absurd (err_ok (nesting n) t e)

    class_line_sound : (k n : LineNo) (form : Form) (q : List Line) (items all : List ProgramItem) (t : State) → class_line k n form items ≡ Ok t → AfterState t q all → AfterState (record { items = items; position = class_marked k }) (line n 0 form ∷ q) all
    class_line_sound k n (f.class_header name) q items all t e r =
        let a : AfterState (record { items = items; position = class_begun k n name }) q all = subst (λ (z : State). AfterState z q all) (sym (ok_is (record { items = items; position = class_begun k n name }) t e)) r in
        let b = a.after in
        record {
          items = a.items;
          whole = a.whole;
          after = record {
            first = line n 0 (f.class_header name) ∷ b.first;
            second = b.second;
            inner = struct_of k n name b.inner ∷ [];
            others = b.others;
            parts = ap (λ (z : List Line). line n 0 (f.class_header name) ∷ z) b.parts;
            left = g.class k n name b.first b.inner b.left;
            rest = b.rest;
            whole = b.whole;
          };
        }
    class_line_sound k n form q items all t e r = absurd (err_ok (nesting n) t e)

    -- a line of a class's block, behind which these fields may come
    record Fields (i : ℕ) (k n : LineNo) (name : List ℕ) (ds : List FieldDefinition) (x : Line) (q : List Line) (items all : List ProgramItem) : Type 0 where
      found : List FieldDefinition
      is : IsClassLine x.number x.form found
      state : AfterState (record { items = items; position = in_class k n name i (ds ++ found) }) q all

    fields_sound : (x : Line) (k n : LineNo) (name : List ℕ) (i : ℕ) (ds : List FieldDefinition) (q : List Line) (items all : List ProgramItem) (t : State)
        → adds_fields (class_line_of x.number x.form) x.number k n name i ds items ≡ Ok t → AfterState t q all → Fields i k n name ds x q items all
    fields_sound x k n name i ds q items all t e r = by (class_line_of x.number x.form) refl e
      where
        by : (o : Option (List FieldDefinition)) → class_line_of x.number x.form ≡ o → adds_fields o x.number k n name i ds items ≡ Ok t → Fields i k n name ds x q items all
        by None is e = absurd (err_ok (nesting x.number) t e)
        by (Some es) is e = record {
          found = es;
          is = class_line_is x.number x.form es is;
          state = subst (λ (z : State). AfterState z q all) (sym (ok_is (record { items = items; position = in_class k n name i (ds ++ es) }) t e)) r;
        }

    begun_sound : (x : Line) (k n : LineNo) (name : List ℕ) (q : List Line) (items all : List ProgramItem) → 0 < x.indent → Fields x.indent k n name [] x q items all → AfterState (record { items = items; position = class_begun k n name }) (x ∷ q) all
    begun_sound x k n name q items all lt h =
        let b = h.state.after in
        record {
          items = h.state.items;
          whole = h.state.whole;
          after = record {
            first = x ∷ b.first;
            second = b.second;
            inner = h.found ++ b.inner;
            others = b.others;
            parts = ap (λ (z : List Line). x ∷ z) b.parts;
            left = g.deeper x b.first (h.found ++ b.inner) lt (g.and_more x.indent x.number x.form b.first h.found b.inner h.is b.left);
            rest = b.rest;
            whole = b.whole;
          };
        }

    field_sound : (x : Line) (k n : LineNo) (name : List ℕ) (i : ℕ) (ds : List FieldDefinition) (q : List Line) (items all : List ProgramItem) → x.indent ≡ i → Fields i k n name ds x q items all → AfterState (record { items = items; position = in_class k n name i ds }) (x ∷ q) all
    field_sound x k n name i ds q items all same h =
        let b = h.state.after in
        record {
          items = h.state.items;
          whole = h.state.whole;
          after = record {
            first = x ∷ b.first;
            second = b.second;
            inner = h.found ++ b.inner;
            others = b.others;
            parts = ap (λ (z : List Line). x ∷ z) b.parts;
            left = subst (λ (z : ℕ). AreFields i (line x.number z x.form ∷ b.first) (h.found ++ b.inner)) (sym same) (g.and_more i x.number x.form b.first h.found b.inner h.is b.left);
            rest = b.rest;
            whole = b.whole ∙ ap (λ (z : List FieldDefinition). struct_of k n name z ∷ b.others) (append_assoc ds h.found b.inner);
          };
        }

    class_ends : (k n : LineNo) (name : List ℕ) (i : ℕ) (ds : List FieldDefinition) (q : List Line) (others : List ProgramItem) → Nests fits q others → AfterAt (in_class k n name i ds) q (struct_of k n name ds ∷ others)
    class_ends k n name i ds q others h = record { first = []; second = q; inner = []; others = others; parts = refl; left = g.no_more i; rest = h; whole = ap (λ (z : List FieldDefinition). struct_of k n name z ∷ others) (sym (append-nil ds)) }

    function_ends : (h : Head) (y : Frame) (ys : List Frame) (q : List Line) (others : List ProgramItem) → Nests fits q others → AfterAt (in_function h (record { wants = None; frames = y ∷ ys })) q (function_of h (closed y ys) ∷ others)
    function_ends h y ys q others nests = record { first = []; second = q; inner = closed y ys; others = others; parts = refl; left = closes fits y ys; rest = nests; whole = refl }

    behind_sound : (h : Head) (x : Line) (w : Option Opening) (xs : List Frame) (q : List Line) (items all : List ProgramItem) (t : State) → behind_function h items x w xs ≡ Ok t → AfterState t q all → AfterState (record { items = items; position = in_function h (record { wants = w; frames = xs }) }) (x ∷ q) all
    behind_sound h x (Some o) xs q items all t e r = absurd (err_ok (nesting x.number) t e)
    behind_sound h x None [] q items all t e r = absurd (err_ok (nesting x.number) t e)
    behind_sound h x None (y ∷ ys) q items all t e r =
        behind_item (function_of h (closed y ys) ∷ []) items all (in_function h (record { wants = None; frames = y ∷ ys })) (x ∷ q) (λ others n. function_ends h y ys (x ∷ q) others n) (at_top_sound x q (items ++ function_of h (closed y ys) ∷ []) all t e r)

    inside_sound : (h : Head) (x : Line) (b : Blocks) (q : List Line) (items all : List ProgramItem) (t : State) → IsGood fits b → in_blocks h items (step_by fits x b.wants b.frames) ≡ Ok t → AfterState t q all → AfterState (record { items = items; position = in_function h b }) (x ∷ q) all
    inside_sound h x b q items all t good e r = by (step_by fits x b.wants b.frames) refl e
      where
        from : (c : Blocks) → step_by fits x b.wants b.frames ≡ Ok c → AfterState (record { items = items; position = in_function h c }) q all → AfterState (record { items = items; position = in_function h b }) (x ∷ q) all
        from c is r = record {
          items = r.items;
          whole = r.whole;
          after = record {
            first = x ∷ r.after.first;
            second = r.after.second;
            inner = r.after.inner;
            others = r.after.others;
            parts = ap (λ (z : List Line). x ∷ z) r.after.parts;
            left = step_by_sound fits x b.wants b.frames c r.after.first r.after.inner is r.after.left (good_fits fits b.wants b.frames good);
            rest = r.after.rest;
            whole = r.after.whole;
          };
        }

        by : (o : Result Blocks Fault) → step_by fits x b.wants b.frames ≡ o → in_blocks h items o ≡ Ok t → AfterState (record { items = items; position = in_function h b }) (x ∷ q) all
        by (Err d) is e = absurd (err_ok d t e)
        by (Ok c) is e = from c is (subst (λ (z : State). AfterState z q all) (sym (ok_is (record { items = items; position = in_function h c }) t e)) r)

    step_at_sound : (x : Line) (items : List ProgramItem) (p : Position) (t : State) (q : List Line) (all : List ProgramItem) → GoodAt p → step_at fits x items p ≡ Ok t → AfterState t q all → AfterState (record { items = items; position = p }) (x ∷ q) all
    step_at_sound x items between t q all good e r = let h = at_top_sound x q items all t e r in record { items = h.more; whole = h.whole; after = h.nests }
    step_at_sound x items (function_marked k) t q all good e r =
        elim (chosen _ _ _ _ e) [
          | yes h go ↦ subst (λ (i : ℕ). AfterState (record { items = items; position = function_marked k }) (line x.number i x.form ∷ q) all) (sym (eqb-true x.indent 0 h)) (def_line_sound k x.number x.form q items all t go r)
          | no h go ↦ absurd (err_ok (nesting x.number) t go)
        ]
    step_at_sound x items (class_marked k) t q all good e r =
        elim (chosen _ _ _ _ e) [
          | yes h go ↦ subst (λ (i : ℕ). AfterState (record { items = items; position = class_marked k }) (line x.number i x.form ∷ q) all) (sym (eqb-true x.indent 0 h)) (class_line_sound k x.number x.form q items all t go r)
          | no h go ↦ absurd (err_ok (nesting x.number) t go)
        ]
    step_at_sound x items (class_begun k n name) t q all good e r =
        elim (chosen _ _ _ _ e) [
          | yes h go ↦ begun_sound x k n name q items all (ltb-true 0 x.indent h) (fields_sound x k n name x.indent [] q items all t go r)
          | no h go ↦ absurd (err_ok (nesting x.number) t go)
        ]
    step_at_sound x items (in_class k n name i ds) t q all good e r =
        elim (chosen _ _ _ _ e) [
          | yes h go ↦ field_sound x k n name i ds q items all (eqb-true x.indent i h) (fields_sound x k n name i ds q items all t go r)
          | no h go ↦ behind_item (struct_of k n name ds ∷ []) items all (in_class k n name i ds) (x ∷ q) (λ others n2. class_ends k n name i ds (x ∷ q) others n2) (at_top_sound x q (items ++ struct_of k n name ds ∷ []) all t go r)
        ]
    step_at_sound x items (in_function h b) t q all good e r =
        elim (chosen _ _ _ _ e) [
          | yes z go ↦ behind_sound h x b.wants b.frames q items all t go r
          | no z go ↦ inside_sound h x b q items all t good go r
        ]

    -- a line that was taken could come
    pub step_sound : (x : Line) (s t : State) (q : List Line) (all : List ProgramItem) → GoodAt s.position → step fits s x ≡ Ok t → AfterState t q all → AfterState s (x ∷ q) all
    unfolding step
    step_sound x s t q all good e r = step_at_sound x s.items s.position t q all good e r

    -- ---- what a state keeps

    adds_good : (o : Option (List ProgramItem)) (n : LineNo) (items : List ProgramItem) (t : State) → adds_items o n items ≡ Ok t → GoodAt t.position
    adds_good None n items t e = absurd (err_ok (nesting n) t e)
    adds_good (Some more) n items t e = subst (λ (z : State). GoodAt z.position) (ok_is (record { items = items ++ more; position = between }) t e) tt

    top_form_good : (n : LineNo) (form : Form) (items : List ProgramItem) (t : State) → top_form n form items ≡ Ok t → GoodAt t.position
    top_form_good n f.function_decorator items t e = subst (λ (z : State). GoodAt z.position) (ok_is (record { items = items; position = function_marked n }) t e) tt
    top_form_good n f.struct_decorator items t e = subst (λ (z : State). GoodAt z.position) (ok_is (record { items = items; position = class_marked n }) t e) tt
    top_form_good n form items t e = adds_good (top_line_of n form) n items t e

    at_top_good : (x : Line) (items : List ProgramItem) (t : State) → at_top items x ≡ Ok t → GoodAt t.position
    at_top_good x items t e =
        elim (chosen _ _ _ _ e) [
          | yes h go ↦ top_form_good x.number x.form items t go
          | no h go ↦ absurd (err_ok (nesting x.number) t go)
        ]

    def_with_good : (h : Head) (o : Option Statement) (items : List ProgramItem) (t : State) → def_with h o items ≡ Ok t → GoodAt t.position
    def_with_good h None items t e = absurd (err_ok (nesting h.line) t e)
    def_with_good h (Some y) items t e = subst (λ (z : State). GoodAt z.position) (ok_is (record { items = items ++ function_of h (y ∷ []) ∷ []; position = between }) t e) tt

    def_behind_good : (h : Head) (behind : MaybeForm) (items : List ProgramItem) (t : State) → def_behind h behind items ≡ Ok t → GoodAt t.position
    def_behind_good h no_form items t e = subst (λ (z : State). GoodAt z.position) (ok_is (record { items = items; position = in_function h (record { wants = Some body_opening; frames = [] }) }) t e) first_fits
    def_behind_good h (some_form form) items t e = def_with_good h (simple_of false h.line form) items t e

    def_line_good : (k n : LineNo) (form : Form) (items : List ProgramItem) (t : State) → def_line k n form items ≡ Ok t → GoodAt t.position
    def_line_good k n (f.def_header name params ty behind) items t e = def_behind_good (head k n name params ty) behind items t e
    def_line_good k n form items t e = absurd (err_ok (nesting n) t e)

    class_line_good : (k n : LineNo) (form : Form) (items : List ProgramItem) (t : State) → class_line k n form items ≡ Ok t → GoodAt t.position
    class_line_good k n (f.class_header name) items t e = subst (λ (z : State). GoodAt z.position) (ok_is (record { items = items; position = class_begun k n name }) t e) tt
    class_line_good k n form items t e = absurd (err_ok (nesting n) t e)

    fields_good : (o : Option (List FieldDefinition)) (m k n : LineNo) (name : List ℕ) (i : ℕ) (ds : List FieldDefinition) (items : List ProgramItem) (t : State) → 0 < i → adds_fields o m k n name i ds items ≡ Ok t → GoodAt t.position
    fields_good None m k n name i ds items t lt e = absurd (err_ok (nesting m) t e)
    fields_good (Some es) m k n name i ds items t lt e = subst (λ (z : State). GoodAt z.position) (ok_is (record { items = items; position = in_class k n name i (ds ++ es) }) t e) lt

    behind_good : (h : Head) (x : Line) (w : Option Opening) (xs : List Frame) (items : List ProgramItem) (t : State) → behind_function h items x w xs ≡ Ok t → GoodAt t.position
    behind_good h x (Some o) xs items t e = absurd (err_ok (nesting x.number) t e)
    behind_good h x None [] items t e = absurd (err_ok (nesting x.number) t e)
    behind_good h x None (y ∷ ys) items t e = at_top_good x (items ++ function_of h (closed y ys) ∷ []) t e

    inside_good : (h : Head) (items : List ProgramItem) (o : Result Blocks Fault) (t : State) → ((c : Blocks) → o ≡ Ok c → IsGood fits c) → in_blocks h items o ≡ Ok t → GoodAt t.position
    inside_good h items (Err d) t good e = absurd (err_ok d t e)
    inside_good h items (Ok c) t good e = subst (λ (z : State). GoodAt z.position) (ok_is (record { items = items; position = in_function h c }) t e) (good c refl)

    step_at_good : (x : Line) (items : List ProgramItem) (p : Position) (t : State) → GoodAt p → step_at fits x items p ≡ Ok t → GoodAt t.position
    step_at_good x items between t good e = at_top_good x items t e
    step_at_good x items (function_marked k) t good e =
        elim (chosen _ _ _ _ e) [ yes h go ↦ def_line_good k x.number x.form items t go | no h go ↦ absurd (err_ok (nesting x.number) t go) ]
    step_at_good x items (class_marked k) t good e =
        elim (chosen _ _ _ _ e) [ yes h go ↦ class_line_good k x.number x.form items t go | no h go ↦ absurd (err_ok (nesting x.number) t go) ]
    step_at_good x items (class_begun k n name) t good e =
        elim (chosen _ _ _ _ e) [ yes h go ↦ fields_good (class_line_of x.number x.form) x.number k n name x.indent [] items t (ltb-true 0 x.indent h) go | no h go ↦ absurd (err_ok (nesting x.number) t go) ]
    step_at_good x items (in_class k n name i ds) t good e =
        elim (chosen _ _ _ _ e) [ yes h go ↦ fields_good (class_line_of x.number x.form) x.number k n name i ds items t good go | no h go ↦ at_top_good x (items ++ struct_of k n name ds ∷ []) t go ]
    step_at_good x items (in_function h b) t good e =
        elim (chosen _ _ _ _ e) [ yes z go ↦ behind_good h x b.wants b.frames items t go | no z go ↦ inside_good h items (step_by fits x b.wants b.frames) t (λ c is. step_by_good fits x b.wants b.frames c good is) go ]

    pub step_good : (x : Line) (s t : State) → GoodAt s.position → step fits s x ≡ Ok t → GoodAt t.position
    unfolding step
    step_good x s t good e = step_at_good x s.items s.position t good e
