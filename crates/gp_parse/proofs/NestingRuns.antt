-- Whole runs: the lines that are read as a program are its lines, and the other way round.
use Rattle.std.proofs.Common.{◌≡◌, ℕ, Bool, true, false, List, [], ◌∷◌, ◌++◌, Option, Some, None, Result, Ok, Err, refl, sym, ap, subst, ◌∙◌, arith, ◌⊎◌, inl, inr}
use Rattle.std.proofs.lemmas.List.{append-nil}
use Rattle.gp_base.specs.declared.name.LineNo.{LineNo}
use Rattle.gp_tree.specs.Form.{some_form}
use Rattle.gp_tree.specs.Form as f
use Rattle.gp_tree.specs.Program.{FieldDefinition, ProgramItem}
use Rattle.gp_tree.specs.Statement.{Statement}
use Rattle.gp_tree.specs.Statement as s
use Rattle.gp_parse.specs.Nesting as g
use Rattle.gp_parse.specs.Nesting.{Line, line, Head, function_of, struct_of, AreFields, IsClassBlock, IsItem, Nests}
use Rattle.gp_parse.specs.FirstFault.{Fault, nesting, IsPrefix}
use Rattle.gp_parse.specs.code.NestingMachine.{Opening, Frame, closed, Position, between, function_marked, class_marked, class_begun, in_class, in_function, State, step, ends_function, ends_at, goes_to, run, read, start}
use Rattle.gp_parse.proofs.NestingRest.{After, ok, ok_is, err_ok}
use Rattle.gp_parse.proofs.NestingBlocks as blocks
use Rattle.gp_parse.proofs.NestingTop.{AfterAt, AfterState, GoodAt, head, step_sound, step_good}
use Rattle.gp_parse.proofs.NestingTopComplete.{step_complete}

pub goes_ok : {A B : Type 0} (r : Result A Fault) (k : A → Result B Fault) (y : B) → goes_to r k ≡ Ok y → (x : A) × (r ≡ Ok x) × (k x ≡ Ok y)
goes_ok (Ok x) k y e = (x, refl, e)
goes_ok (Err d) k y e = absurd cc

no_front : (a b : List Line) → [] ≡ a ++ b → a ≡ []
no_front [] b e = refl
no_front (x ∷ a) b e = absurd cc

no_back : (a b : List Line) → [] ≡ a ++ b → b ≡ []
no_back [] b e = sym e
no_back (x ∷ a) b e = absurd cc

abbrev line_0 : LineNo
line_0 = record { 0 = 0 }

-- a `pass` line
abbrev pass_at : ℕ → Line
pass_at i = line line_0 i f.pass

module _ (fits : ℕ → Bool) where
  -- ---- the end

  nests_nothing : {a : List Line} {all : List ProgramItem} → Nests fits a all → a ≡ [] → all ≡ []
  nests_nothing g.no_more e = refl
  nests_nothing (g.and_more a b items others is rest) e = absurd (item_not is (none a b e))
    where
      none : (a b : List Line) → a ++ b ≡ [] → a ≡ []
      none a b e = no_front a b (sym e)

      item_not : {a : List Line} {items : List ProgramItem} → IsItem fits a items → a ≡ [] → ⊥
      item_not (g.alone n form its is) e = let no : line n 0 form ∷ [] ≡ [] = e in cc
      item_not (g.function k n name params ty behind a xs block) e = let no : line k 0 f.function_decorator ∷ line n 0 (f.def_header name params ty behind) ∷ a ≡ [] = e in cc
      item_not (g.class k n name a ds block) e = let no : line k 0 f.struct_decorator ∷ line n 0 (f.class_header name) ∷ a ≡ [] = e in cc

  other_lines : (x y : Line) (a b : List Line) → x ∷ a ≡ y ∷ b → a ≡ b
  other_lines x y a b e = cc

  first_line : (x y : Line) (a b : List Line) → x ∷ a ≡ y ∷ b → x ≡ y
  first_line x y a b e = cc

  top_not : (form : Rattle.gp_tree.specs.Form.Form) {n : LineNo} {d : Rattle.gp_tree.specs.Form.Form} {its : List ProgramItem} → g.IsTopLine n d its → d ≡ form → (form ≡ f.function_decorator) ⊎ (form ≡ f.struct_decorator) → ⊥
  top_not form (g.import_names n name names) e h = elim h [ inl p ↦ cc | inr p ↦ cc ]
  top_not form (g.docstring n) e h = elim h [ inl p ↦ cc | inr p ↦ cc ]
  top_not form (g.pass n) e h = elim h [ inl p ↦ cc | inr p ↦ cc ]
  top_not form (g.module_call n name) e h = elim h [ inl p ↦ cc | inr p ↦ cc ]

  -- a decorator alone is no item
  mark_not : {b : List Line} {its : List ProgramItem} (k : LineNo) (d : Rattle.gp_tree.specs.Form.Form) (a : List Line) → (d ≡ f.function_decorator) ⊎ (d ≡ f.struct_decorator) → IsItem fits b its → b ≡ line k 0 d ∷ a → a ≡ [] → ⊥
  mark_not k d a h (g.alone n form its is) e none = top_not d is (ap (λ (z : Line). z.form) (first_line _ _ _ _ e)) h
  mark_not k d a h (g.function m n name params ty behind lines xs block) e none = let no : line n 0 (f.def_header name params ty behind) ∷ lines ≡ [] = other_lines _ _ _ _ e ∙ none in cc
  mark_not k d a h (g.class m n name lines ds block) e none = let no : line n 0 (f.class_header name) ∷ lines ≡ [] = other_lines _ _ _ _ e ∙ none in cc

  class_not : {a : List Line} {ds : List FieldDefinition} → IsClassBlock a ds → a ≡ [] → ⊥
  class_not (g.deeper x a ds lt fields) e = let no : x ∷ a ≡ [] = e in cc

  fields_nothing : {i : ℕ} {a : List Line} {ds : List FieldDefinition} → AreFields i a ds → a ≡ [] → ds ≡ []
  fields_nothing (g.no_more i) e = refl
  fields_nothing (g.and_more i n form a ds es is fields) e = absurd (let no : line n i form ∷ a ≡ [] = e in cc)

  function_end : (h : Head) (items all others : List ProgramItem) (block : List Statement) (last : LineNo) (w : Option Opening) (xs : List Frame)
      → After fits w xs [] block → all ≡ items ++ (function_of h block ∷ others) → others ≡ [] → ends_function h items last w xs ≡ Ok all
  function_end h items all others block last (Some o) xs r whole none = absurd (blocks.wants_more fits o xs block r)
  function_end h items all others block last None [] r whole none = absurd r
  function_end h items all others block last None (y ∷ ys) r whole none =
      ap (λ (z : List ProgramItem). ok z) (sym (whole ∙ ap (λ (z : List Statement). items ++ (function_of h z ∷ others)) (blocks.closed_is fits y ys block r) ∙ ap (λ (z : List ProgramItem). items ++ (function_of h (closed y ys) ∷ z)) none))

  pub end_complete : (items all : List ProgramItem) (last : LineNo) (p : Position) → AfterState fits (record { items = items; position = p }) [] all → ends_at items last p ≡ Ok all
  end_complete items all last between r = ap (λ (z : List ProgramItem). ok z) (sym (r.whole ∙ ap (λ (z : List ProgramItem). items ++ z) (nests_nothing r.after refl) ∙ append-nil items))
  end_complete items all last (function_marked k) r = let b = r.after in absurd (mark_not k f.function_decorator b.first (inl refl) b.left refl (no_front b.first b.second b.parts))
  end_complete items all last (class_marked k) r = let b = r.after in absurd (mark_not k f.struct_decorator b.first (inr refl) b.left refl (no_front b.first b.second b.parts))
  end_complete items all last (class_begun k n name) r = let b = r.after in absurd (class_not b.left (no_front b.first b.second b.parts))
  end_complete items all last (in_class k n name i ds) r =
      let b = r.after in
      let none : b.inner ≡ [] = fields_nothing b.left (no_front b.first b.second b.parts) in
      let over : b.others ≡ [] = nests_nothing b.rest (no_back b.first b.second b.parts) in
      ap (λ (z : List ProgramItem). ok z)
      (sym (r.whole ∙ ap (λ (z : List ProgramItem). items ++ z) (b.whole ∙ ap (λ (z : List FieldDefinition). struct_of k n name (ds ++ z) ∷ b.others) none ∙ ap (λ (z : List ProgramItem). struct_of k n name (ds ++ []) ∷ z) over ∙ ap (λ (z : List FieldDefinition). struct_of k n name z ∷ []) (append-nil ds))))
  end_complete items all last (in_function h b) r =
      let a = r.after in
      function_end h items all a.others a.inner last b.wants b.frames (subst (λ (z : List Line). After fits b.wants b.frames z a.inner) (no_front a.first a.second a.parts) a.left)
      (r.whole ∙ ap (λ (z : List ProgramItem). items ++ z) a.whole) (nests_nothing a.rest (no_back a.first a.second a.parts))

  function_over : (h : Head) (items all : List ProgramItem) (last : LineNo) (w : Option Opening) (xs : List Frame) → ends_function h items last w xs ≡ Ok all → AfterState fits (record { items = items; position = in_function h (record { wants = w; frames = xs }) }) [] all
  function_over h items all last (Some o) xs e = absurd (err_ok (nesting last) all e)
  function_over h items all last None [] e = absurd (err_ok (nesting last) all e)
  function_over h items all last None (y ∷ ys) e = record {
    items = function_of h (closed y ys) ∷ [];
    whole = sym (ok_is (items ++ function_of h (closed y ys) ∷ []) all e);
    after = record { first = []; second = []; inner = closed y ys; others = []; parts = refl; left = blocks.closes fits y ys; rest = g.no_more; whole = refl };
  }

  pub end_sound : (items all : List ProgramItem) (last : LineNo) (p : Position) → ends_at items last p ≡ Ok all → AfterState fits (record { items = items; position = p }) [] all
  end_sound items all last between e = record { items = []; whole = sym (ok_is items all e) ∙ sym (append-nil items); after = g.no_more }
  end_sound items all last (function_marked k) e = absurd (err_ok (nesting last) all e)
  end_sound items all last (class_marked k) e = absurd (err_ok (nesting last) all e)
  end_sound items all last (class_begun k n name) e = absurd (err_ok (nesting last) all e)
  end_sound items all last (in_class k n name i ds) e = record {
    items = struct_of k n name ds ∷ [];
    whole = sym (ok_is (items ++ struct_of k n name ds ∷ []) all e);
    after = record { first = []; second = []; inner = []; others = []; parts = refl; left = g.no_more i; rest = g.no_more; whole = ap (λ (z : List FieldDefinition). struct_of k n name z ∷ []) (sym (append-nil ds)) };
  }
  end_sound items all last (in_function h b) e = function_over h items all last b.wants b.frames e

  module _ (first_fits : fits 1 ≡ true) where
    class_pass : IsClassBlock (pass_at 1 ∷ []) []
    class_pass = g.deeper (pass_at 1) [] [] (omega arith) (g.and_more 1 line_0 f.pass [] [] [] (g.pass line_0) (g.no_more 1))

    -- every position can end, at most two lines later
    ends : (p : Position) → GoodAt fits p → (q : List Line) × (more : List ProgramItem) × AfterAt fits p q more
    ends between good = ([], [], g.no_more)
    ends (function_marked k) good =
        let x : Line = line line_0 0 (f.def_header [] [] None (some_form f.pass)) in
        let its : List ProgramItem = function_of (head k line_0 [] [] None) (s.pass line_0 ∷ []) ∷ [] in (
          x ∷ [],
          its,
          record { first = x ∷ []; second = []; inner = its; others = []; parts = refl; left = g.function k line_0 [] [] None (some_form f.pass) [] (s.pass line_0 ∷ []) (g.on_the_line 0 1 false line_0 f.pass (s.pass line_0) first_fits (g.pass false line_0)); rest = g.no_more; whole = refl },
        )
    ends (class_marked k) good =
        let x : Line = line line_0 0 (f.class_header []) in
        let its : List ProgramItem = struct_of k line_0 [] [] ∷ [] in (
          x ∷ pass_at 1 ∷ [],
          its,
          record { first = x ∷ pass_at 1 ∷ []; second = []; inner = its; others = []; parts = refl; left = g.class k line_0 [] (pass_at 1 ∷ []) [] class_pass; rest = g.no_more; whole = refl },
        )
    ends (class_begun k n name) good = (
      pass_at 1 ∷ [],
      struct_of k n name [] ∷ [],
      record { first = pass_at 1 ∷ []; second = []; inner = []; others = []; parts = refl; left = class_pass; rest = g.no_more; whole = refl },
    )
    ends (in_class k n name i ds) good = (
      [],
      struct_of k n name ds ∷ [],
      record { first = []; second = []; inner = []; others = []; parts = refl; left = g.no_more i; rest = g.no_more; whole = ap (λ (z : List FieldDefinition). struct_of k n name z ∷ []) (sym (append-nil ds)) },
    )
    ends (in_function h b) good =
        let e = blocks.ends fits line_0 b.wants b.frames good in (
          e.0,
          function_of h e.1 ∷ [],
          record { first = e.0; second = []; inner = e.1; others = []; parts = sym (append-nil e.0); left = e.2; rest = g.no_more; whole = refl },
        )

    -- ---- runs

    pub run_sound : (p q : List Line) (s t : State) (all : List ProgramItem) → GoodAt fits s.position → run fits s p ≡ Ok t → AfterState fits t q all → AfterState fits s (p ++ q) all
    unfolding run
    run_sound [] q s t all good e r = subst (λ (z : State). AfterState fits z q all) (sym (ok_is s t e)) r
    run_sound (x ∷ p) q s t all good e r =
        let h = goes_ok (step fits s x) (λ u. run fits u p) t e in
        step_sound fits first_fits x s h.0 (p ++ q) all good h.1 (run_sound p q h.0 t all (step_good fits first_fits x s h.0 good h.1) h.2 r)

    pub run_good : (p : List Line) (s t : State) → GoodAt fits s.position → run fits s p ≡ Ok t → GoodAt fits t.position
    unfolding run
    run_good [] s t good e = subst (λ (z : State). GoodAt fits z.position) (ok_is s t e) good
    run_good (x ∷ p) s t good e = let h = goes_ok (step fits s x) (λ u. run fits u p) t e in run_good p h.0 t (step_good fits first_fits x s h.0 good h.1) h.2

    pub run_complete : (p q : List Line) (s : State) (all : List ProgramItem) → GoodAt fits s.position → AfterState fits s (p ++ q) all → (t : State) × (run fits s p ≡ Ok t) × AfterState fits t q all
    unfolding run
    run_complete [] q s all good r = (s, refl, r)
    run_complete (x ∷ p) q s all good r =
        let h = step_complete fits x s (p ++ q) all good r in
        let more = run_complete p q h.0 all (step_good fits first_fits x s h.0 good h.1) h.2 in (
          more.0,
          ap (λ (o : Result State Fault). goes_to o (λ u. run fits u p)) h.1 ∙ more.1,
          more.2,
        )

    at_start : (q : List Line) (all : List ProgramItem) → Nests fits q all → AfterState fits start q all
    at_start q all h = record { items = all; whole = refl; after = h }

    from_start : (q : List Line) (all : List ProgramItem) → AfterState fits start q all → Nests fits q all
    from_start q all r = subst (λ (z : List ProgramItem). Nests fits q z) (sym r.whole) r.after

    pub prefix_runs : (p : List Line) → IsPrefix fits p → (t : State) × (run fits start p ≡ Ok t)
    prefix_runs p h = let r = run_complete p h.more start h.items tt (at_start (p ++ h.more) h.items h.nests) in (r.0, r.1)

    pub runs_prefix : (p : List Line) (t : State) → run fits start p ≡ Ok t → IsPrefix fits p
    runs_prefix p t e =
        let r = ends t.position (run_good p start t tt e) in
        record { more = r.0; items = t.items ++ r.1; nests = from_start (p ++ r.0) (t.items ++ r.1) (run_sound p r.0 start t (t.items ++ r.1) tt e (record { items = r.1; whole = refl; after = r.2 })) }

    -- ---- all lines

    read_sound : (xs : List Line) (s : State) (last : LineNo) (all : List ProgramItem) → GoodAt fits s.position → read fits s last xs ≡ Ok all → AfterState fits s xs all
    unfolding read
    read_sound [] s last all good e = end_sound s.items all last s.position e
    read_sound (x ∷ xs) s last all good e =
        let h = goes_ok (step fits s x) (λ t. read fits t x.number xs) all e in
        step_sound fits first_fits x s h.0 xs all good h.1 (read_sound xs h.0 x.number all (step_good fits first_fits x s h.0 good h.1) h.2)

    read_complete : (xs : List Line) (s : State) (last : LineNo) (all : List ProgramItem) → GoodAt fits s.position → AfterState fits s xs all → read fits s last xs ≡ Ok all
    unfolding read
    read_complete [] s last all good r = end_complete s.items all last s.position r
    read_complete (x ∷ xs) s last all good r =
        let h = step_complete fits x s xs all good r in
        ap (λ (o : Result State Fault). goes_to o (λ t. read fits t x.number xs)) h.1 ∙ read_complete xs h.0 x.number all (step_good fits first_fits x s h.0 good h.1) h.2

    -- the lines that are read as a program are its lines
    pub nests_of_read : (xs : List Line) (last : LineNo) (all : List ProgramItem) → read fits start last xs ≡ Ok all → Nests fits xs all
    nests_of_read xs last all e = from_start xs all (read_sound xs start last all tt e)

    pub read_of_nests : (xs : List Line) (last : LineNo) (all : List ProgramItem) → Nests fits xs all → read fits start last xs ≡ Ok all
    read_of_nests xs last all h = read_complete xs start last all tt (at_start xs all h)
