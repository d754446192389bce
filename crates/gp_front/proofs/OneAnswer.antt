-- Each phase has one answer, and with the phases a text.
use Rattle.std.proofs.Common.{◌≡◌, ◌≢◌, ◌∙◌, ℕ, List, [], ◌∷◌, ◌++◌, Option, Some, None, Result, Ok, Err, ◌⊎◌, inl, inr, refl, sym, ap, subst}
use Rattle.gp_base.specs.declared.name.LineNo.{LineNo}
use Rattle.gp_lex.specs.declared.fault.LexFault.{LexFault}
use Rattle.gp_lex.specs.declared.fault.LexFault.TheVariants as lex
use Rattle.gp_lex.specs.declared.line.LogicalLine.{LogicalLine}
use Rattle.gp_lex.specs.Lines.{HasLines, HasFault, IsLexed, LinesOrFault}
use Rattle.gp_form.specs.LineSize.{IsTooBig}
use Rattle.gp_form.specs.Forms.{SpellsForm}
use Rattle.gp_tree.specs.declared.program.Item.{Item}
use Rattle.gp_tree.specs.Form.{Form}
use Rattle.gp_tree.specs.Program.{ProgramItem, program_items}
use Rattle.gp_parse.specs.declared.parse_fault.ParseFault.{ParseFault}
use Rattle.gp_parse.specs.declared.parse_fault.ParseFault.TheVariants as parse
use Rattle.gp_parse.specs.FirstFault.{Fault, nesting, too_deep}
use Rattle.gp_parse.specs.Nesting.{Line}
use Rattle.gp_parse.specs.Nested.{IsProgramOf, IsFaultOf}
use Rattle.gp_parse.specs.Programs.{IsFormLine, AreFormLines, HaveForms, IsRefused, IsTooBigAt, IsNoLineAt, IsProgram}
use Rattle.gp_scope.specs.declared.fault.ScopeFault.{ScopeFault}
use Rattle.gp_scope.specs.declared.fault.ScopeFault.TheVariants as scope
use Rattle.gp_scope.specs.declared.scope.Scope.{Scope}
use Rattle.gp_scope.specs.Checks.{Found}
use Rattle.gp_scope.specs.FirstFault.{IsFirstFault}
use Rattle.gp_scope.specs.Known.{known_of}
use Rattle.gp_scope.specs.ScopeView.{IsScopeOf}
use Rattle.gp_typing.specs.declared.fault.TypeFault.{TypeFault}
use Rattle.gp_typing.specs.declared.fault.TypeFault.TheVariants as type
use Rattle.gp_typing.specs.Functions.{program_typing}
use Rattle.gp_typing.specs.Typed.{TypedFunction}
use Rattle.gp_typing.specs.TypedView.{typed_view}
use Rattle.gp_front.specs.declared.checked.CheckedText.{CheckedText}
use Rattle.gp_front.specs.declared.fault.TextFault.{TextFault}
use Rattle.gp_front.specs.declared.fault.TextFault.TheVariants as fault
use Rattle.gp_front.specs.Checked.{IsRead, IsTextOf, IsChecked}
use Rattle.gp_front.specs.OneAnswer.{IsOfText, SayTheSame, HasProgram, HasFirstFault, TextsHaveOneAnswer}
use Rattle.gp_front.specs.TextAnswers.{Nest, Reads, IsProgramText, HasNameFault, IsFaultyText}
use Rattle.gp_scope.proofs.NamesLaws.{one_found, names_have_one_answer}
use Rattle.gp_front.proofs.LexFaults.{not_memory}
use Rattle.gp_front.proofs.LineAnswers.{program_or_fault}
use Rattle.gp_front.proofs.TypeFaults.{type_faults}

-- ---- lines

lex_fault : (text : List ℕ) (f : LexFault) → f ≢ lex.Memory → IsLexed text (Err f) → HasFault text f
lex_fault text (lex.NotUtf8 n) o h = h
lex_fault text (lex.TabIndent n) o h = h
lex_fault text (lex.BadChar n) o h = h
lex_fault text (lex.Unclosed n) o h = h
lex_fault text (lex.BadNumber n) o h = h
lex_fault text (lex.NotNfkc n) o h = h
lex_fault text lex.Memory o h = absurd (o refl)

-- ---- nesting: the first line without a form

abbrev NoForm : LogicalLine → Type 0
NoForm x = (y : Line) → IsFormLine x y → ⊥

abbrev head_is : {a b : LogicalLine} {as_ bs : List LogicalLine} → a ∷ as_ ≡ b ∷ bs → a ≡ b
head_is {a} e = ap (λ xs. first_or a xs) e where
  first_or : LogicalLine → List LogicalLine → LogicalLine
  first_or d [] = d
  first_or d (x ∷ xs) = x

tail_is : {a b : LogicalLine} {as_ bs : List LogicalLine} → a ∷ as_ ≡ b ∷ bs → as_ ≡ bs
tail_is e = ap rest e where
  rest : List LogicalLine → List LogicalLine
  rest [] = []
  rest (x ∷ xs) = xs

-- lines that have forms, and a line behind them that has none
first_is : (front front' : List LogicalLine) (x x' : LogicalLine) (back back' : List LogicalLine) (ys ys' : List Line)
    → front ++ x ∷ back ≡ front' ++ x' ∷ back' → AreFormLines front ys → AreFormLines front' ys' → NoForm x → NoForm x' → x ≡ x'
first_is [] [] x x' back back' ys ys' e f f' n n' = head_is e
first_is [] (w ∷ front') x x' back back' ys (y ∷ ys') e f f' n n' = absurd (subst NoForm (head_is e) n y f'.0)
first_is [] (w ∷ front') x x' back back' ys [] e f f' n n' = absurd f'
first_is (w ∷ front) [] x x' back back' (y ∷ ys) ys' e f f' n n' = absurd (subst NoForm (sym (head_is e)) n' y f.0)
first_is (w ∷ front) [] x x' back back' [] ys' e f f' n n' = absurd f
first_is (w ∷ front) (w' ∷ front') x x' back back' (y ∷ ys) (y' ∷ ys') e f f' n n' = first_is front front' x x' back back' ys ys' (tail_is e) f.1 f'.1 n n'
first_is (w ∷ front) (w' ∷ front') x x' back back' [] ys' e f f' n n' = absurd f
first_is (w ∷ front) (w' ∷ front') x x' back back' (y ∷ ys) [] e f f' n n' = absurd f'

-- a line among lines that have forms has one
has_form : (front : List LogicalLine) (x : LogicalLine) (back : List LogicalLine) (ys : List Line) → AreFormLines (front ++ x ∷ back) ys → NoForm x → ⊥
has_form [] x back (y ∷ ys) f n = n y f.0
has_form [] x back [] f n = f
has_form (w ∷ front) x back (y ∷ ys) f n = has_form front x back ys f.1 n
has_form (w ∷ front) x back [] f n = f

-- The first line without a form.
record First (xs : List LogicalLine) (x : LogicalLine) : Type 0 where
  refused : IsRefused xs x
  none : NoForm x

one_first : (xs : List LogicalLine) (x z : LogicalLine) → First xs x → First xs z → x ≡ z
one_first xs x z f g =
    first_is f.refused.front g.refused.front x z f.refused.back g.refused.back f.refused.lines g.refused.lines (sym f.refused.parts ∙ g.refused.parts) f.refused.forms g.refused.forms f.none g.none

no_forms : (xs : List LogicalLine) (x : LogicalLine) (ys : List Line) → First xs x → HaveForms xs ys → ⊥
no_forms xs x ys f h =
    has_form f.refused.front x f.refused.back ys (subst (λ zs. AreFormLines zs ys) f.refused.parts h.forms) f.none

big_first : (xs : List LogicalLine) (n : LineNo) (h : IsTooBigAt xs n) → First xs h.line
big_first xs n h = record { refused = h.first; none = λ y l. l.small h.big }

odd_first : (xs : List LogicalLine) (n : LineNo) (h : IsNoLineAt xs n) → First xs h.line
odd_first xs n h = record { refused = h.first; none = λ y l. h.spells y.form l.spells }

-- ---- nesting

same_forms : (xs : List LogicalLine) (ys zs : List Line) → HaveForms xs ys → HaveForms xs zs → zs ≡ ys
same_forms xs ys zs h k = h.only zs k.forms

one_program_read : (xs : List LogicalLine) (items others : List ProgramItem) → Nest xs (Ok items) → Nest xs (Ok others) → others ≡ items
one_program_read xs items others p q =
    let e : q.0 ≡ p.0 = same_forms xs p.0 q.0 p.1 q.1 in
    let h : IsProgramOf p.0 others = subst (λ ys. IsProgramOf ys others) e q.2 in
    p.2.only others h.nests

faults_same : (xs : List LogicalLine) (d e : Fault) → ((ys : List Line) × HaveForms xs ys × IsFaultOf ys d) → ((ys : List Line) × HaveForms xs ys × IsFaultOf ys e) → d ≡ e
faults_same xs d e p q =
    let s : q.0 ≡ p.0 = same_forms xs p.0 q.0 p.1 q.1 in
    let h : IsFaultOf p.0 e = subst (λ ys. IsFaultOf ys e) s q.2 in
    sym (p.2.only e h.first)

abbrev line_of_fault : Fault → LineNo
line_of_fault (nesting n) = n
line_of_fault (too_deep n) = n

big_and_odd : (xs : List LogicalLine) (n m : LineNo) → IsTooBigAt xs n → IsNoLineAt xs m → ⊥
big_and_odd xs n m h k = k.small (subst (λ x. IsTooBig x.tokens) (one_first xs h.line k.line (big_first xs n h) (odd_first xs m k)) h.big)

one_parse_fault : (xs : List LogicalLine) (f g : ParseFault) → f ≢ parse.Memory → g ≢ parse.Memory → IsProgram xs (Err f) → IsProgram xs (Err g) → f ≡ g
one_parse_fault xs parse.Memory g o u p q = absurd (o refl)
one_parse_fault xs f parse.Memory o u p q = absurd (u refl)
one_parse_fault xs (parse.TooBig n) (parse.TooBig m) o u p q =
    ap parse.TooBig (p.number ∙ ap (λ x. x.number) (one_first xs p.line q.line (big_first xs n p) (big_first xs m q)) ∙ sym q.number)
one_parse_fault xs (parse.TooBig n) (parse.NotALine m) o u p q = absurd (big_and_odd xs n m p q)
one_parse_fault xs (parse.TooBig n) (parse.Nesting m) o u p q = absurd (no_forms xs p.line q.0 (big_first xs n p) q.1)
one_parse_fault xs (parse.TooBig n) (parse.TooDeep m) o u p q = absurd (no_forms xs p.line q.0 (big_first xs n p) q.1)
one_parse_fault xs (parse.NotALine n) (parse.TooBig m) o u p q = absurd (big_and_odd xs m n q p)
one_parse_fault xs (parse.NotALine n) (parse.NotALine m) o u p q =
    ap parse.NotALine (p.number ∙ ap (λ x. x.number) (one_first xs p.line q.line (odd_first xs n p) (odd_first xs m q)) ∙ sym q.number)
one_parse_fault xs (parse.NotALine n) (parse.Nesting m) o u p q = absurd (no_forms xs p.line q.0 (odd_first xs n p) q.1)
one_parse_fault xs (parse.NotALine n) (parse.TooDeep m) o u p q = absurd (no_forms xs p.line q.0 (odd_first xs n p) q.1)
one_parse_fault xs (parse.Nesting n) (parse.TooBig m) o u p q = absurd (no_forms xs q.line p.0 (big_first xs m q) p.1)
one_parse_fault xs (parse.Nesting n) (parse.NotALine m) o u p q = absurd (no_forms xs q.line p.0 (odd_first xs m q) p.1)
one_parse_fault xs (parse.Nesting n) (parse.Nesting m) o u p q = ap (λ d. parse.Nesting (line_of_fault d)) (faults_same xs (nesting n) (nesting m) p q)
one_parse_fault xs (parse.Nesting n) (parse.TooDeep m) o u p q = absurd (let e = faults_same xs (nesting n) (too_deep m) p q in cc)
one_parse_fault xs (parse.TooDeep n) (parse.TooBig m) o u p q = absurd (no_forms xs q.line p.0 (big_first xs m q) p.1)
one_parse_fault xs (parse.TooDeep n) (parse.NotALine m) o u p q = absurd (no_forms xs q.line p.0 (odd_first xs m q) p.1)
one_parse_fault xs (parse.TooDeep n) (parse.Nesting m) o u p q = absurd (let e = faults_same xs (too_deep n) (nesting m) p q in cc)
one_parse_fault xs (parse.TooDeep n) (parse.TooDeep m) o u p q = ap (λ d. parse.TooDeep (line_of_fault d)) (faults_same xs (too_deep n) (too_deep m) p q)

never_both_read : (xs : List LogicalLine) (items : List ProgramItem) (f : ParseFault) → f ≢ parse.Memory → Nest xs (Ok items) → IsProgram xs (Err f) → ⊥
never_both_read xs items parse.Memory o p q = o refl
never_both_read xs items (parse.TooBig n) o p q = no_forms xs q.line p.0 (big_first xs n q) p.1
never_both_read xs items (parse.NotALine n) o p q = no_forms xs q.line p.0 (odd_first xs n q) p.1
never_both_read xs items (parse.Nesting n) o p q = q.2.no_program items (subst (λ ys. IsProgramOf ys items) (same_forms xs q.0 p.0 q.1 p.1) p.2).nests
never_both_read xs items (parse.TooDeep n) o p q = q.2.no_program items (subst (λ ys. IsProgramOf ys items) (same_forms xs q.0 p.0 q.1 p.1) p.2).nests

-- ---- what is answered, as plain data

told_read : (text : List ℕ) (items : List Item) → IsRead text (Ok items) → Reads text (Ok (program_items items))
told_read text items r = record { lines = r.lines; lexed = r.lexed; nested = r.nested }

told_program : (text : List ℕ) (a : CheckedText) → IsTextOf text a → IsProgramText text (program_items a.program) (typed_view a.typed)
told_program text a h = record { read = told_read text a.program h.typed.read; named = h.typed.collected.0; typed = h.typed.typed }

told_fault : (text : List ℕ) (f : TextFault) → IsOfText f → IsChecked text (Err f) → IsFaultyText text f
told_fault text (fault.Lex f) o h = lex_fault text f o h
told_fault text (fault.Parse f) o h = record { lines = h.lines; lexed = h.lexed; nested = h.nested }
told_fault text (fault.Scope f) o h = record { items = program_items h.program; read = told_read text h.program h.read; named = h.collected o }
told_fault text (fault.Type f) o h =
    record { items = program_items h.program; read = told_read text h.program h.typed.read; named = h.typed.collected.0; typed = h.typed.typed o }

-- ---- texts

abbrev functions_of : Result (List TypedFunction) TypeFault → List TypedFunction
functions_of (Ok fs) = fs
functions_of (Err f) = []

abbrev fault_in : TypeFault → Result (List TypedFunction) TypeFault → TextFault
fault_in d (Ok fs) = fault.Type d
fault_in d (Err f) = fault.Type f

abbrev scope_fault_of : ScopeFault → Found → ScopeFault
scope_fault_of d None = d
scope_fault_of d (Some f) = f

module _ (law : LinesOrFault) (text : List ℕ) where
  lines_of : {a b : Result (List ProgramItem) ParseFault} (r : Reads text a) (s : Reads text b) → Nest r.lines b
  lines_of {a} {b} r s = subst (λ ls. Nest ls b) (law.one_list text s.lines r.lines s.lexed r.lexed) s.nested

  programs_same : (items others : List ProgramItem) → Reads text (Ok items) → Reads text (Ok others) → items ≡ others
  programs_same items others r s = one_program_read r.lines others items (lines_of r s) r.nested

  not_lexed : (f : LexFault) (a : Result (List ProgramItem) ParseFault) → HasFault text f → Reads text a → ⊥
  not_lexed f a h r = law.never_both text r.lines f r.lexed h

  not_read : (f : ParseFault) (items : List ProgramItem) → f ≢ parse.Memory → Reads text (Err f) → Reads text (Ok items) → ⊥
  not_read f items o h r = never_both_read r.lines items f o r.nested (lines_of r h)

  found_in : (items others : List ProgramItem) (n : Found) → Reads text (Ok items) → Reads text (Ok others) → IsFirstFault others n → IsFirstFault items n
  found_in items others n r s h = subst (λ p. IsFirstFault p n) (programs_same others items s r) h

  not_named : (f : ScopeFault) (items : List ProgramItem) → HasNameFault text f → Reads text (Ok items) → IsFirstFault items None → ⊥
  not_named f items h r n =
      let e = one_found items None (Some f) n (found_in items h.items (Some f) r h.read h.named) in cc

  typings_same : (items others : List ProgramItem) → Reads text (Ok items) → Reads text (Ok others) → program_typing (known_of items) items ≡ program_typing (known_of others) others
  typings_same items others r s = ap (λ p. program_typing (known_of p) p) (programs_same items others r s)

  same_text : (items others : List ProgramItem) (fs gs : List TypedFunction) → IsProgramText text items fs → IsProgramText text others gs → (items ≡ others) × (fs ≡ gs)
  same_text items others fs gs p q = (
    programs_same items others p.read q.read,
    ap functions_of (sym p.typed ∙ typings_same items others p.read q.read ∙ q.typed),
  )

  not_both : (items : List ProgramItem) (fs : List TypedFunction) (f : TextFault) → IsOfText f → IsProgramText text items fs → IsFaultyText text f → ⊥
  not_both items fs (fault.Lex f) o p q = not_lexed f (Ok items) q p.read
  not_both items fs (fault.Parse f) o p q = not_read f items o q p.read
  not_both items fs (fault.Scope f) o p q = not_named f items q p.read p.named
  not_both items fs (fault.Type f) o p q = let e = sym p.typed ∙ typings_same items q.items p.read q.read ∙ q.typed in cc

  same_fault : (f g : TextFault) → IsOfText f → IsOfText g → IsFaultyText text f → IsFaultyText text g → f ≡ g
  same_fault (fault.Lex f) (fault.Lex g) o u p q = ap fault.Lex (law.one_fault text f g p q)
  same_fault (fault.Lex f) (fault.Parse g) o u p q = absurd (not_lexed f (Err g) p q)
  same_fault (fault.Lex f) (fault.Scope g) o u p q = absurd (not_lexed f (Ok q.items) p q.read)
  same_fault (fault.Lex f) (fault.Type g) o u p q = absurd (not_lexed f (Ok q.items) p q.read)
  same_fault (fault.Parse f) (fault.Lex g) o u p q = absurd (not_lexed g (Err f) q p)
  same_fault (fault.Parse f) (fault.Parse g) o u p q = ap fault.Parse (one_parse_fault p.lines f g o u p.nested (lines_of p q))
  same_fault (fault.Parse f) (fault.Scope g) o u p q = absurd (not_read f q.items o p q.read)
  same_fault (fault.Parse f) (fault.Type g) o u p q = absurd (not_read f q.items o p q.read)
  same_fault (fault.Scope f) (fault.Lex g) o u p q = absurd (not_lexed g (Ok p.items) q p.read)
  same_fault (fault.Scope f) (fault.Parse g) o u p q = absurd (not_read g p.items u q p.read)
  same_fault (fault.Scope f) (fault.Scope g) o u p q =
      ap (λ x. fault.Scope (scope_fault_of f x)) (one_found p.items (Some f) (Some g) p.named (found_in p.items q.items (Some g) p.read q.read q.named))
  same_fault (fault.Scope f) (fault.Type g) o u p q = absurd (not_named f q.items p q.read q.named)
  same_fault (fault.Type f) (fault.Lex g) o u p q = absurd (not_lexed g (Ok p.items) q p.read)
  same_fault (fault.Type f) (fault.Parse g) o u p q = absurd (not_read g p.items u q p.read)
  same_fault (fault.Type f) (fault.Scope g) o u p q = absurd (not_named g p.items q p.read p.named)
  same_fault (fault.Type f) (fault.Type g) o u p q = ap (fault_in f) (sym p.typed ∙ typings_same p.items q.items p.read q.read ∙ q.typed)

  -- ---- scopes

  scopes_same : (program : List ProgramItem) (s t : Scope) → IsScopeOf program s → IsScopeOf program t → SayTheSame s t
  scopes_same program s t p q = record {
    imports = λ name. p.imports_are name ∙ sym (q.imports_are name);
    structs = λ name. p.structs_are name ∙ sym (q.structs_are name);
    signatures = λ name. p.signatures_are name ∙ sym (q.signatures_are name);
    annotated = λ line. p.annotated_are line ∙ sym (q.annotated_are line);
    functions = p.functions_are ∙ sym q.functions_are;
  }

  one_program_of : (a b : CheckedText) → IsTextOf text a → IsTextOf text b
      → (program_items a.program ≡ program_items b.program) × (typed_view a.typed ≡ typed_view b.typed) × SayTheSame a.scope b.scope
  one_program_of a b p q =
      let e = same_text (program_items a.program) (program_items b.program) (typed_view a.typed) (typed_view b.typed) (told_program text a p) (told_program text b q) in
      let here : IsScopeOf (program_items b.program) a.scope = subst (λ x. IsScopeOf x a.scope) e.0 p.typed.collected.1 in
      (e.0, e.1, scopes_same (program_items b.program) a.scope b.scope here q.typed.collected.1)

  one_fault_of : (f g : TextFault) → IsOfText f → IsOfText g → IsChecked text (Err f) → IsChecked text (Err g) → f ≡ g
  one_fault_of f g o u p q = same_fault f g o u (told_fault text f o p) (told_fault text g u q)

  never_both_of : (a : CheckedText) (f : TextFault) → IsOfText f → IsTextOf text a → IsChecked text (Err f) → ⊥
  never_both_of a f o p q = not_both (program_items a.program) (typed_view a.typed) f o (told_program text a p) (told_fault text f o q)

  -- ---- one answer at least

  has_program : (items : List ProgramItem) (fs : List TypedFunction) → IsProgramText text items fs → HasProgram text
  has_program items fs p = record {
    items = items;
    functions = fs;
    is = p;
    answered = λ a h. same_text (program_items a.program) items (typed_view a.typed) fs (told_program text a h) p;
    faultless = λ f o h. not_both items fs f o p (told_fault text f o h);
  }

  has_fault : (f : TextFault) → IsOfText f → IsFaultyText text f → HasFirstFault text
  has_fault f o p = record {
    first = f;
    of_text = o;
    is = p;
    answered = λ g u h. same_fault g f u o (told_fault text g u h) p;
    no_program = λ a h. not_both (program_items a.program) (typed_view a.typed) f o (told_program text a h) p;
  }

  with_types : (items : List ProgramItem) → Reads text (Ok items) → IsFirstFault items None → (r : Result (List TypedFunction) TypeFault) → program_typing (known_of items) items ≡ r
      → HasProgram text ⊎ HasFirstFault text
  with_types items r n (Ok fs) e = inl (has_program items fs (record { read = r; named = n; typed = e }))
  with_types items r n (Err f) e = inr (has_fault (fault.Type f) (type_faults (known_of items) items f e) (record { items = items; read = r; named = n; typed = e }))

  with_names : (items : List ProgramItem) → Reads text (Ok items) → (n : Found) → IsFirstFault items n → n ≢ Some scope.Memory → HasProgram text ⊎ HasFirstFault text
  with_names items r None h o = with_types items r h (program_typing (known_of items) items) refl
  with_names items r (Some f) h o = inr (has_fault (fault.Scope f) (λ e. o (ap (λ x. Some x) e)) (record { items = items; read = r; named = h }))

  with_lines : (ls : List LogicalLine) → HasLines text ls → ((items : List ProgramItem) × Nest ls (Ok items)) ⊎ ((f : ParseFault) × (f ≢ parse.Memory) × IsProgram ls (Err f))
      → HasProgram text ⊎ HasFirstFault text
  with_lines ls h (inl p) =
      let n = names_have_one_answer.always_one p.0 in
      with_names p.0 (record { lines = ls; lexed = h; nested = p.1 }) n.0 n.1 n.2
  with_lines ls h (inr q) = inr (has_fault (fault.Parse q.0) q.1 (record { lines = ls; lexed = h; nested = q.2 }))

  always_one_of : HasProgram text ⊎ HasFirstFault text
  always_one_of = go (law.always_one text) where
    go : ((ls : List LogicalLine) × HasLines text ls) ⊎ ((f : LexFault) × HasFault text f) → HasProgram text ⊎ HasFirstFault text
    go (inl p) = with_lines p.0 p.1 (program_or_fault p.0)
    go (inr q) = inr (has_fault (fault.Lex q.0) (not_memory q.1) q.1)

pub texts_have_one_answer : LinesOrFault → TextsHaveOneAnswer
texts_have_one_answer law = record {
  one_program = one_program_of law;
  one_fault = one_fault_of law;
  never_both = never_both_of law;
  always_one = always_one_of law;
}
