-- The first fault is the one at which the reading stops.
use Rattle.std.proofs.Common.{◌≡◌, ℕ, Bool, true, false, cond, eqb, ltb, List, [], ◌∷◌, ◌++◌, Option, Some, None, Result, Ok, Err, refl, sym, ap, subst, ◌∙◌, append_assoc}
use Rattle.std.proofs.lemmas.List.{append-nil}
use Rattle.gp_base.specs.declared.name.LineNo.{LineNo}
use Rattle.gp_tree.specs.Form.{Form, MaybeForm, no_form, some_form}
use Rattle.gp_tree.specs.Form as f
use Rattle.gp_tree.specs.Program.{FieldDefinition, ProgramItem}
use Rattle.gp_tree.specs.Statement.{Statement}
use Rattle.gp_parse.specs.Nesting.{Line, Head, function_of, struct_of, Nests}
use Rattle.gp_parse.specs.FirstFault as ff
use Rattle.gp_parse.specs.FirstFault.{Fault, nesting, too_deep, IsPrefix, within, any_level, FirstFault}
use Rattle.gp_parse.specs.code.NestingMachine.{simple_of, class_line_of, top_line_of, Opening, Branch, Frame, Blocks, settle, add, put, placed, closed, opens_with, opens, opens_other, adds, goes_on, at_frames, opened, step_by, Position, between, function_marked, class_marked, class_begun, in_class, in_function, State, adds_items, top_form, at_top, body_opening, def_with, def_behind, def_line, class_line, adds_fields, in_blocks, behind_function, step_at, step, ends_function, ends_at, goes_to, run, read, start}
use Rattle.gp_parse.proofs.NestingRest.{ok, err, ok_is, err_ok}
use Rattle.gp_parse.proofs.NestingTop.{head}
use Rattle.gp_parse.proofs.NestingRuns.{goes_ok, prefix_runs, runs_prefix, read_of_nests, nests_of_read}

-- what a step with the limit and one without it give at line n
pub data Freed {A : Type 0} (n : LineNo) (bound free : Result A Fault) : Type 0 where
  both_go : (t : A) → bound ≡ Ok t → free ≡ Ok t → Freed n bound free
  both_stop : bound ≡ Err (nesting n) → free ≡ Err (nesting n) → Freed n bound free
  one_stops : (t : A) → bound ≡ Err (too_deep n) → free ≡ Ok t → Freed n bound free

module _ (fits : ℕ → Bool) where
  fits_by : (b : Bool) (n : LineNo) (t : Blocks) → Freed n (cond b (ok t) (err (too_deep n))) (ok t)
  fits_by true n t = both_go t refl refl
  fits_by false n t = one_stops t refl refl

  opens_with_freed : (o : Opening) (n : LineNo) (r : Option Statement) (x : Frame) (xs : List Frame) → Freed n (opens_with fits o n r x xs) (opens_with any_level o n r x xs)
  opens_with_freed o n None x xs = both_stop refl refl
  opens_with_freed o n (Some y) x xs = fits_by (fits o.level) n (record { wants = None; frames = put o (y ∷ []) x ∷ xs })

  opens_freed : (o : Opening) (n : LineNo) (behind : MaybeForm) (x : Frame) (xs : List Frame) → Freed n (opens fits o n behind x xs) (opens any_level o n behind x xs)
  opens_freed o n no_form x xs = fits_by (fits o.level) n (record { wants = Some o; frames = x ∷ xs })
  opens_freed o n (some_form form) x xs = opens_with_freed o n (simple_of o.in_loop n form) x xs

  other_freed : (o : Opening) (n : LineNo) (behind : MaybeForm) (x : Frame) (xs : List Frame) (c : List Branch) → Freed n (opens_other fits o n behind x xs c) (opens_other any_level o n behind x xs c)
  other_freed o n behind x xs [] = both_stop refl refl
  other_freed o n behind x xs (b ∷ c) = opens_freed o n behind x xs

  adds_freed : (n : LineNo) (r : Option Statement) (x : Frame) (xs : List Frame) → Freed n (adds r n x xs) (adds r n x xs)
  adds_freed n None x xs = both_stop refl refl
  adds_freed n (Some y) x xs = both_go (record { wants = None; frames = add y (settle x) ∷ xs }) refl refl

  goes_on_freed : (n : LineNo) (form : Form) (x : Frame) (xs : List Frame) → Freed n (goes_on fits n form x xs) (goes_on any_level n form x xs)
  goes_on_freed n (f.while_header test behind) x xs = opens_freed _ n behind (settle x) xs
  goes_on_freed n (f.for_header name count behind) x xs = opens_freed _ n behind (settle x) xs
  goes_on_freed n (f.if_header test behind) x xs = opens_freed _ n behind (settle x) xs
  goes_on_freed n (f.elif_header test behind) x xs = other_freed _ n behind x xs x.chain
  goes_on_freed n (f.else_header behind) x xs = other_freed _ n behind x xs x.chain
  goes_on_freed n form x xs = adds_freed n (simple_of x.opening.in_loop n form) x xs

  frames_freed : (n : LineNo) (form : Form) (xs : List Frame) → Freed n (at_frames fits n form xs) (at_frames any_level n form xs)
  frames_freed n form [] = both_stop refl refl
  frames_freed n form (x ∷ xs) = goes_on_freed n form x xs

  cond_freed : {A : Type 0} (b : Bool) (n : LineNo) (x y : Result A Fault) → Freed n x y → Freed n (cond b x (err (nesting n))) (cond b y (err (nesting n)))
  cond_freed true n x y h = h
  cond_freed false n x y h = both_stop refl refl

  step_by_freed : (x : Line) (w : Option Opening) (xs : List Frame) → Freed x.number (step_by fits x w xs) (step_by any_level x w xs)
  step_by_freed x None xs = frames_freed x.number x.form (placed x.indent xs)
  step_by_freed x (Some o) xs = cond_freed (ltb o.indent x.indent) x.number _ _ (goes_on_freed x.number x.form (opened o x.indent) xs)

  items_freed : (n : LineNo) (r : Option (List ProgramItem)) (items : List ProgramItem) → Freed n (adds_items r n items) (adds_items r n items)
  items_freed n None items = both_stop refl refl
  items_freed n (Some more) items = both_go (record { items = items ++ more; position = between }) refl refl

  top_form_freed : (n : LineNo) (form : Form) (items : List ProgramItem) → Freed n (top_form n form items) (top_form n form items)
  top_form_freed n f.function_decorator items = both_go (record { items = items; position = function_marked n }) refl refl
  top_form_freed n f.struct_decorator items = both_go (record { items = items; position = class_marked n }) refl refl
  top_form_freed n form items = items_freed n (top_line_of n form) items

  top_freed : (x : Line) (items : List ProgramItem) → Freed x.number (at_top items x) (at_top items x)
  top_freed x items = cond_freed (eqb x.indent 0) x.number _ _ (top_form_freed x.number x.form items)

  def_with_freed : (h : Head) (r : Option Statement) (items : List ProgramItem) → Freed h.line (def_with h r items) (def_with h r items)
  def_with_freed h None items = both_stop refl refl
  def_with_freed h (Some y) items = both_go (record { items = items ++ function_of h (y ∷ []) ∷ []; position = between }) refl refl

  def_behind_freed : (h : Head) (behind : MaybeForm) (items : List ProgramItem) → Freed h.line (def_behind h behind items) (def_behind h behind items)
  def_behind_freed h no_form items = both_go (record { items = items; position = in_function h (record { wants = Some body_opening; frames = [] }) }) refl refl
  def_behind_freed h (some_form form) items = def_with_freed h (simple_of false h.line form) items

  def_line_freed : (k n : LineNo) (form : Form) (items : List ProgramItem) → Freed n (def_line k n form items) (def_line k n form items)
  def_line_freed k n (f.def_header name params ty behind) items = def_behind_freed (head k n name params ty) behind items
  def_line_freed k n form items = both_stop refl refl

  class_line_freed : (k n : LineNo) (form : Form) (items : List ProgramItem) → Freed n (class_line k n form items) (class_line k n form items)
  class_line_freed k n (f.class_header name) items = both_go (record { items = items; position = class_begun k n name }) refl refl
  class_line_freed k n form items = both_stop refl refl

  fields_freed : (m k n : LineNo) (name : List ℕ) (i : ℕ) (ds : List FieldDefinition) (r : Option (List FieldDefinition)) (items : List ProgramItem) → Freed m (adds_fields r m k n name i ds items) (adds_fields r m k n name i ds items)
  fields_freed m k n name i ds None items = both_stop refl refl
  fields_freed m k n name i ds (Some es) items = both_go (record { items = items; position = in_class k n name i (ds ++ es) }) refl refl

  either_freed : {A : Type 0} (b : Bool) (n : LineNo) (x y z w : Result A Fault) → Freed n x z → Freed n y w → Freed n (cond b x y) (cond b z w)
  either_freed true n x y z w h k = h
  either_freed false n x y z w h k = k

  behind_freed : (h : Head) (x : Line) (w : Option Opening) (xs : List Frame) (items : List ProgramItem) → Freed x.number (behind_function h items x w xs) (behind_function h items x w xs)
  behind_freed h x (Some o) xs items = both_stop refl refl
  behind_freed h x None [] items = both_stop refl refl
  behind_freed h x None (y ∷ ys) items = top_freed x (items ++ function_of h (closed y ys) ∷ [])

  inside_freed : (h : Head) (n : LineNo) (items : List ProgramItem) (r z : Result Blocks Fault) → Freed n r z → Freed n (in_blocks h items r) (in_blocks h items z)
  inside_freed h n items r z (both_go t p q) = both_go (record { items = items; position = in_function h t }) (ap (in_blocks h items) p) (ap (in_blocks h items) q)
  inside_freed h n items r z (both_stop p q) = both_stop (ap (in_blocks h items) p) (ap (in_blocks h items) q)
  inside_freed h n items r z (one_stops t p q) = one_stops (record { items = items; position = in_function h t }) (ap (in_blocks h items) p) (ap (in_blocks h items) q)

  step_at_freed : (x : Line) (items : List ProgramItem) (p : Position) → Freed x.number (step_at fits x items p) (step_at any_level x items p)
  step_at_freed x items between = top_freed x items
  step_at_freed x items (function_marked k) = cond_freed (eqb x.indent 0) x.number _ _ (def_line_freed k x.number x.form items)
  step_at_freed x items (class_marked k) = cond_freed (eqb x.indent 0) x.number _ _ (class_line_freed k x.number x.form items)
  step_at_freed x items (class_begun k n name) = cond_freed (ltb 0 x.indent) x.number _ _ (fields_freed x.number k n name x.indent [] (class_line_of x.number x.form) items)
  step_at_freed x items (in_class k n name i ds) = either_freed (eqb x.indent i) x.number _ _ _ _ (fields_freed x.number k n name i ds (class_line_of x.number x.form) items) (top_freed x (items ++ struct_of k n name ds ∷ []))
  step_at_freed x items (in_function h b) = either_freed (eqb x.indent 0) x.number _ _ _ _ (behind_freed h x b.wants b.frames items) (inside_freed h x.number items _ _ (step_by_freed x b.wants b.frames))

  step_freed : (x : Line) (s : State) → Freed x.number (step fits s x) (step any_level s x)
  unfolding step
  step_freed x s = step_at_freed x s.items s.position

  free_of : {A : Type 0} {n : LineNo} {bound free : Result A Fault} → Freed n bound free → (t : A) → bound ≡ Ok t → free ≡ Ok t
  free_of {n = n} (both_go u a b) t e = b ∙ ap (λ z. ok z) (ok_is u t (sym a ∙ e))
  free_of {n = n} (both_stop a b) t e = absurd (err_ok (nesting n) t (sym a ∙ e))
  free_of {n = n} (one_stops u a b) t e = absurd (err_ok (too_deep n) t (sym a ∙ e))

  run_free : (p : List Line) (s t : State) → run fits s p ≡ Ok t → run any_level s p ≡ Ok t
  unfolding run
  run_free [] s t e = e
  run_free (x ∷ p) s t e =
      let h = goes_ok (step fits s x) (λ u. run fits u p) t e in
      ap (λ (o : Result State Fault). goes_to o (λ v. run any_level v p)) (free_of (step_freed x s) h.0 h.1) ∙ run_free p h.0 t h.2

  -- one line more
  run_more : (p : List Line) (x : Line) (s t : State) → run fits s p ≡ Ok t → run fits s (p ++ x ∷ []) ≡ goes_to (step fits t x) (λ u. ok u)
  unfolding run
  run_more [] x s t e = ap (λ (z : State). goes_to (step fits z x) (λ u. ok u)) (ok_is s t e)
  run_more (y ∷ p) x s t e =
      let h = goes_ok (step fits s y) (λ u. run fits u p) t e in
      ap (λ (o : Result State Fault). goes_to o (λ u. run fits u (p ++ x ∷ []))) h.1 ∙ run_more p x h.0 t h.2

  run_one : (p : List Line) (x : Line) (s t u : State) → run fits s p ≡ Ok t → step fits t x ≡ Ok u → run fits s (p ++ x ∷ []) ≡ Ok u
  run_one p x s t u e h = run_more p x s t e ∙ ap (λ (o : Result State Fault). goes_to o (λ v. ok v)) h

  -- reading goes through the lines that are run
  read_on : (p q : List Line) (s t : State) (last : LineNo) → run fits s p ≡ Ok t → (m : LineNo) × (read fits s last (p ++ q) ≡ read fits t m q)
  unfolding run read
  read_on [] q s t last e = (last, ap (λ (z : State). read fits z last q) (ok_is s t e))
  read_on (x ∷ p) q s t last e =
      let h = goes_ok (step fits s x) (λ u. run fits u p) t e in
      let more = read_on p q h.0 t x.number h.2 in
      (more.0, ap (λ (o : Result State Fault). goes_to o (λ u. read fits u x.number (p ++ q))) h.1 ∙ more.1)

  read_stops : (p q : List Line) (x : Line) (s t : State) (last : LineNo) (d : Fault) → run fits s p ≡ Ok t → step fits t x ≡ Err d → read fits s last (p ++ x ∷ q) ≡ Err d
  unfolding read
  read_stops p q x s t last d e h = (read_on p (x ∷ q) s t last e).1 ∙ ap (λ (o : Result State Fault). goes_to o (λ u. read fits u x.number q)) h

  read_last : (p : List Line) (x : Line) (s t u : State) (last : LineNo) → run fits s p ≡ Ok t → step fits t x ≡ Ok u → read fits s last (p ++ x ∷ []) ≡ ends_at u.items x.number u.position
  unfolding read
  read_last p x s t u last e h = (read_on p (x ∷ []) s t last e).1 ∙ ap (λ (o : Result State Fault). goes_to o (λ v. read fits v x.number [])) h

  module _ (first_fits : fits 1 ≡ true) where
    run_stop : (p : List Line) (x : Line) (t : State) (d : Fault) → run fits start p ≡ Ok t → step fits t x ≡ Err d → IsPrefix fits (p ++ x ∷ []) → ⊥
    run_stop p x t d e h pre =
        let r = prefix_runs fits first_fits (p ++ x ∷ []) pre in
        let stops : run fits start (p ++ x ∷ []) ≡ Err d = run_more p x start t e ∙ ap (λ (o : Result State Fault). goes_to o (λ v. ok v)) h in
        absurd (err_ok d r.0 (sym stops ∙ r.1))

    one_prefix : (p : List Line) (x : Line) (t u : State) → run fits start p ≡ Ok t → step fits t x ≡ Ok u → IsPrefix fits (p ++ x ∷ [])
    one_prefix p x t u e h = runs_prefix fits first_fits (p ++ x ∷ []) u (run_one p x start t u e h)

-- ---- the fault of a program's lines that is read

fault_is : {A : Type 0} (d e : Fault) → err {A = A} d ≡ Err e → d ≡ e
fault_is d e h = cc

other_fault : (n m : LineNo) → nesting n ≡ too_deep m → ⊥
other_fault n m e = cc

ends_fault : (items : List ProgramItem) (last : LineNo) (p : Position) (d : Fault) → ends_at items last p ≡ Err d → d ≡ nesting last
ends_fault items last between d e = absurd (err_ok d items (sym e))
ends_fault items last (function_marked k) d e = sym (fault_is (nesting last) d e)
ends_fault items last (class_marked k) d e = sym (fault_is (nesting last) d e)
ends_fault items last (class_begun k n name) d e = sym (fault_is (nesting last) d e)
ends_fault items last (in_class k n name i ds) d e = absurd (err_ok d (items ++ struct_of k n name ds ∷ []) (sym e))
ends_fault items last (in_function h b) d e = by b.wants b.frames e
  where
    by : (w : Option Opening) (xs : List Frame) → ends_function h items last w xs ≡ Err d → d ≡ nesting last
    by (Some o) xs e = sym (fault_is (nesting last) d e)
    by None [] e = sym (fault_is (nesting last) d e)
    by None (y ∷ ys) e = absurd (err_ok d (items ++ function_of h (closed y ys) ∷ []) (sym e))

module _ (limit : ℕ) (first_fits : within limit 1 ≡ true) where
  -- ---- the reading stops at the first fault

  stopped : (p xs : List Line) (x : Line) (s : State) (d : Fault) → run (within limit) start p ≡ Ok s → step (within limit) s x ≡ Err d → FirstFault limit (p ++ x ∷ xs) d
  stopped p xs x s d e h =
      elim (step_freed (within limit) x s) [
        | both_go t a b ↦ absurd (err_ok d t (sym h ∙ a))
        | both_stop a b ↦
            subst (λ (z : Fault). FirstFault limit (p ++ x ∷ xs) z) (fault_is (nesting x.number) d (sym a ∙ h))
            (ff.misplaced p xs x (runs_prefix (within limit) first_fits p s e) (run_stop (within limit) first_fits p x s d e h) (run_stop any_level refl p x s (nesting x.number) (run_free (within limit) p start s e) b))
        | one_stops t a b ↦
            subst (λ (z : Fault). FirstFault limit (p ++ x ∷ xs) z) (fault_is (too_deep x.number) d (sym a ∙ h))
            (ff.above_limit p xs x (runs_prefix (within limit) first_fits p s e) (run_stop (within limit) first_fits p x s d e h) (one_prefix any_level refl p x s t (run_free (within limit) p start s e) b))
      ]

  -- the last line of those read, where they may not end
  abbrev IsLast : List Line → LineNo → State → Type 0
  IsLast p last s = ((all : List ProgramItem) → ends_at s.items last s.position ≡ Ok all → ⊥) → (front : List Line) × (x : Line) × (p ≡ front ++ x ∷ []) × (last ≡ x.number)

  -- whether the lines may end doesn't hang on the last line's number
  function_same : (h : Head) (items all : List ProgramItem) (m last : LineNo) (w : Option Opening) (xs : List Frame) → ends_function h items m w xs ≡ Ok all → ends_function h items last w xs ≡ Ok all
  function_same h items all m last (Some o) xs e = absurd (err_ok (nesting m) all e)
  function_same h items all m last None [] e = absurd (err_ok (nesting m) all e)
  function_same h items all m last None (y ∷ ys) e = e

  ends_same : (items all : List ProgramItem) (m last : LineNo) (p : Position) → ends_at items m p ≡ Ok all → ends_at items last p ≡ Ok all
  ends_same items all m last between e = e
  ends_same items all m last (function_marked k) e = absurd (err_ok (nesting m) all e)
  ends_same items all m last (class_marked k) e = absurd (err_ok (nesting m) all e)
  ends_same items all m last (class_begun k n name) e = absurd (err_ok (nesting m) all e)
  ends_same items all m last (in_class k n name i ds) e = e
  ends_same items all m last (in_function h b) e = function_same h items all m last b.wants b.frames e

  not_read : (p : List Line) (last : LineNo) (s : State) (d : Fault) → run (within limit) start p ≡ Ok s → ends_at s.items last s.position ≡ Err d → (items : List ProgramItem) → Nests (within limit) p items → ⊥
  unfolding read
  not_read p last s d e h items n =
      let r = read_on (within limit) p [] start s last e in
      let good : read (within limit) start last (p ++ []) ≡ Ok items = ap (read (within limit) start last) (append-nil p) ∙ read_of_nests (within limit) first_fits p last items n in
      err_ok d items (sym h ∙ ends_same s.items items r.0 last s.position (sym r.1 ∙ good))

  over : (p : List Line) (last : LineNo) (s : State) (d : Fault) → run (within limit) start p ≡ Ok s → IsLast p last s → ends_at s.items last s.position ≡ Err d → FirstFault limit (p ++ []) d
  over p last s d e is_last h =
      let l = is_last (λ all k. err_ok d all (sym h ∙ k)) in
      let same : d ≡ nesting last = ends_fault s.items last s.position d h in
      let here : FirstFault limit (l.0 ++ l.1 ∷ []) (nesting l.1.number) =
      ff.unfinished l.0 l.1 (subst (λ (z : List Line). IsPrefix (within limit) z) l.2 (runs_prefix (within limit) first_fits p s e))
      (λ items n. not_read p last s d e h items (subst (λ (z : List Line). Nests (within limit) z items) (sym l.2) n)) in
      subst (λ (z : Fault). FirstFault limit (p ++ []) z) (sym (same ∙ ap (λ (z : LineNo). nesting z) l.3)) (subst (λ (z : List Line). FirstFault limit z (nesting l.1.number)) (sym (append-nil p ∙ l.2)) here)

  read_fault_by : (xs p : List Line) (last : LineNo) (s : State) (d : Fault) → run (within limit) start p ≡ Ok s → IsLast p last s → read (within limit) s last xs ≡ Err d → FirstFault limit (p ++ xs) d
  unfolding read
  read_fault_by [] p last s d e is_last h = over p last s d e is_last h
  read_fault_by (x ∷ xs) p last s d e is_last h =
      by (step (within limit) s x) refl h
      (λ t k. read_fault_by xs (p ++ x ∷ []) x.number t d (run_one (within limit) p x start s t e k) (λ none. (p, x, refl, refl)))
    where
      by : (o : Result State Fault) → step (within limit) s x ≡ o → goes_to o (λ t. read (within limit) t x.number xs) ≡ Err d
          → ((t : State) → step (within limit) s x ≡ Ok t → read (within limit) t x.number xs ≡ Err d → FirstFault limit ((p ++ x ∷ []) ++ xs) d) → FirstFault limit (p ++ x ∷ xs) d
      by (Ok t) k h more = subst (λ (z : List Line). FirstFault limit z d) (append_assoc p (x ∷ []) xs) (more t k h)
      by (Err c) k h more = stopped p xs x s d e (k ∙ ap (λ (z : Fault). err z) (fault_is c d h))

  started : run (within limit) start [] ≡ Ok start
  unfolding run
  started = refl

  -- where the reading stops, the lines have that first fault
  pub fault_of_read : (xs : List Line) (last : LineNo) (d : Fault) → read (within limit) start last xs ≡ Err d → FirstFault limit xs d
  fault_of_read xs last d h = read_fault_by xs [] last start d started (λ none. absurd (none [] refl)) h

  -- ---- at the first fault the reading stops

  stops_deep : (p q : List Line) (x : Line) (last : LineNo) (s : State) → run (within limit) start p ≡ Ok s → (IsPrefix (within limit) (p ++ x ∷ []) → ⊥) → IsPrefix any_level (p ++ x ∷ []) → read (within limit) start last (p ++ x ∷ q) ≡ Err (too_deep x.number)
  stops_deep p q x last s e stop free =
      elim (step_freed (within limit) x s) [
        | both_go t a b ↦ absurd (stop (one_prefix (within limit) first_fits p x s t e a))
        | both_stop a b ↦ absurd (run_stop any_level refl p x s (nesting x.number) (run_free (within limit) p start s e) b free)
        | one_stops t a b ↦ read_stops (within limit) p q x start s last (too_deep x.number) e a
      ]

  stops_nesting : (p q : List Line) (x : Line) (last : LineNo) (s : State) → run (within limit) start p ≡ Ok s → (IsPrefix (within limit) (p ++ x ∷ []) → ⊥) → (IsPrefix any_level (p ++ x ∷ []) → ⊥) → read (within limit) start last (p ++ x ∷ q) ≡ Err (nesting x.number)
  stops_nesting p q x last s e stop free =
      elim (step_freed (within limit) x s) [
        | both_go t a b ↦ absurd (stop (one_prefix (within limit) first_fits p x s t e a))
        | both_stop a b ↦ read_stops (within limit) p q x start s last (nesting x.number) e a
        | one_stops t a b ↦ absurd (free (one_prefix any_level refl p x s t (run_free (within limit) p start s e) b))
      ]

  -- one line behind those that are run, which is run too
  record LastStep (p : List Line) (x : Line) (last : LineNo) : Type 0 where
    state : State
    reads : read (within limit) start last (p ++ x ∷ []) ≡ ends_at state.items x.number state.position

  front_runs : (p : List Line) (x : Line) → IsPrefix (within limit) (p ++ x ∷ []) → IsPrefix (within limit) p
  front_runs p x h = record { more = x ∷ h.more; items = h.items; nests = subst (λ (z : List Line). Nests (within limit) z h.items) (append_assoc p (x ∷ []) h.more) h.nests }

  last_step : (p : List Line) (x : Line) (last : LineNo) → IsPrefix (within limit) (p ++ x ∷ []) → LastStep p x last
  last_step p x last h = by (prefix_runs (within limit) first_fits p (front_runs p x h))
    where
      by : ((s : State) × (run (within limit) start p ≡ Ok s)) → LastStep p x last
      by s = at_step (step (within limit) s.0 x) refl
        where
          at_step : (o : Result State Fault) → step (within limit) s.0 x ≡ o → LastStep p x last
          at_step (Ok u) k = record { state = u; reads = read_last (within limit) p x start s.0 u last s.1 k }
          at_step (Err d) k = absurd (run_stop (within limit) first_fits p x s.0 d s.1 k h)

  stops_last : (p : List Line) (x : Line) (last : LineNo) → IsPrefix (within limit) (p ++ x ∷ []) → ((items : List ProgramItem) → Nests (within limit) (p ++ x ∷ []) items → ⊥) → read (within limit) start last (p ++ x ∷ []) ≡ Err (nesting x.number)
  stops_last p x last h none = let l = last_step p x last h in by l.state.items l.state.position l.reads
    where
      by : (items : List ProgramItem) (q : Position) → read (within limit) start last (p ++ x ∷ []) ≡ ends_at items x.number q → read (within limit) start last (p ++ x ∷ []) ≡ Err (nesting x.number)
      by items q e = at_end (ends_at items x.number q) refl
        where
          at_end : (o : Result (List ProgramItem) Fault) → ends_at items x.number q ≡ o → read (within limit) start last (p ++ x ∷ []) ≡ Err (nesting x.number)
          at_end (Ok all) k = absurd (none all (nests_of_read (within limit) first_fits (p ++ x ∷ []) last all (e ∙ k)))
          at_end (Err d) k = e ∙ k ∙ ap (λ (z : Fault). err z) (ends_fault items x.number q d k)

  pub read_of_fault : {xs : List Line} {d : Fault} (last : LineNo) → FirstFault limit xs d → read (within limit) start last xs ≡ Err d
  read_of_fault last (ff.above_limit p q x pre stop free) = let s = prefix_runs (within limit) first_fits p pre in stops_deep p q x last s.0 s.1 stop free
  read_of_fault last (ff.misplaced p q x pre stop free) = let s = prefix_runs (within limit) first_fits p pre in stops_nesting p q x last s.0 s.1 stop free
  read_of_fault last (ff.unfinished p x pre none) = stops_last p x last pre none

  -- ---- one program or one first fault, and never both

  pub one_program : (xs : List Line) (a b : List ProgramItem) → Nests (within limit) xs a → Nests (within limit) xs b → a ≡ b
  one_program xs a b h k =
      let n : LineNo = record { 0 = 0 } in
      ok_is a b (sym (read_of_nests (within limit) first_fits xs n a h) ∙ read_of_nests (within limit) first_fits xs n b k)

  pub one_fault : (xs : List Line) (d e : Fault) → FirstFault limit xs d → FirstFault limit xs e → d ≡ e
  one_fault xs d e h k =
      let n : LineNo = record { 0 = 0 } in
      fault_is d e (sym (read_of_fault n h) ∙ read_of_fault n k)

  pub never_both : (xs : List Line) (a : List ProgramItem) (d : Fault) → Nests (within limit) xs a → FirstFault limit xs d → ⊥
  never_both xs a d h k =
      let n : LineNo = record { 0 = 0 } in
      err_ok d a (sym (read_of_fault n k) ∙ read_of_nests (within limit) first_fits xs n a h)
