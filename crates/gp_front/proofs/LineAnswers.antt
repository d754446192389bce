-- Every list of lines nests to a program or has a first fault.
use Rattle.std.proofs.Common.{◌≡◌, ◌≢◌, ◌∙◌, ◌⊎◌, inl, inr, ℕ, List, [], ◌∷◌, ◌++◌, Ok, Err, refl, sym, ap}
use Rattle.gp_base.specs.declared.name.LineNo.{LineNo}
use Rattle.gp_lex.specs.declared.line.LogicalLine.{LogicalLine}
use Rattle.gp_tree.specs.Form.{Form}
use Rattle.gp_tree.specs.Program.{ProgramItem}
use Rattle.gp_form.specs.Forms.{SpellsForm}
use Rattle.gp_form.specs.LineSize.{IsTooBig}
use Rattle.gp_form.proofs.FormComplete.{one_form}
use Rattle.gp_form.proofs.FormLaws.{has_form_or_none}
use Rattle.gp_parse.specs.declared.parse_fault.ParseFault.{ParseFault}
use Rattle.gp_parse.specs.declared.parse_fault.ParseFault.TheVariants as parse
use Rattle.gp_parse.specs.FirstFault.{Fault, nesting, too_deep, within, FirstFault}
use Rattle.gp_parse.specs.Nested.{IsProgramOf, IsFaultOf}
use Rattle.gp_parse.specs.Nesting.{Line, Nests, line}
use Rattle.gp_parse.specs.Programs.{IsFormLine, AreFormLines, HaveForms, IsRefused, IsTooBigAt, IsNoLineAt, IsProgram}
use Rattle.gp_parse.proofs.NestingLaws.{has_one_program, has_one_fault, has_program_or_fault, never_both_holds}
use Rattle.gp_parse.proofs.NestingPromises.{program_placed, annotated_rising}
use Rattle.gp_parse.proofs.ProgramForms as forms
use Rattle.gp_front.specs.TextAnswers.{Nest}

-- ---- one line: its form, or why it has none

abbrev FormOrNone : LogicalLine → Type 0
FormOrNone x = ((y : Line) × IsFormLine x y) ⊎ (IsTooBig x.tokens ⊎ ((IsTooBig x.tokens → ⊥) × ((v : Form) → SpellsForm x.tokens v → ⊥)))

form_or_none : (x : LogicalLine) → FormOrNone x
form_or_none x = by_size (has_form_or_none.big_or_small x.tokens)
  where
    by_form : (IsTooBig x.tokens → ⊥) → ((v : Form) × SpellsForm x.tokens v) ⊎ ((v : Form) → SpellsForm x.tokens v → ⊥) → FormOrNone x
    by_form small (inl p) = inl (line x.number x.indent p.0, record { number = refl; indent = refl; small = small; spells = p.1 })
    by_form small (inr none) = inr (inr (small, none))

    by_size : IsTooBig x.tokens ⊎ (IsTooBig x.tokens → ⊥) → FormOrNone x
    by_size (inl big) = inr (inl big)
    by_size (inr small) = by_form small (has_form_or_none.form_or_none x.tokens)

same_line : (n m : LineNo) (i j : ℕ) (a b : Form) → n ≡ m → i ≡ j → a ≡ b → line n i a ≡ line m j b
same_line n m i j a b p q r = ap (λ (z : LineNo). line z i a) p ∙ ap (λ (z : ℕ). line m z a) q ∙ ap (λ (z : Form). line m j z) r

one_line : (x : LogicalLine) (y z : Line) → IsFormLine x y → IsFormLine x z → z ≡ y
one_line x y z h k =
    same_line z.number y.number z.indent y.indent z.form y.form (k.number ∙ sym h.number) (k.indent ∙ sym h.indent) (one_form x.tokens z.form y.form k.spells h.spells)

-- ---- lines

abbrev Refused : List LogicalLine → Type 0
Refused xs = (n : LineNo) × (IsTooBigAt xs n ⊎ IsNoLineAt xs n)

more_forms : (x : LogicalLine) (xs : List LogicalLine) (y : Line) (ys : List Line) → IsFormLine x y → HaveForms xs ys → HaveForms (x ∷ xs) (y ∷ ys)
more_forms x xs y ys h k = record { forms = (h, k.forms); only = only }
  where
    only : (zs : List Line) → AreFormLines (x ∷ xs) zs → zs ≡ y ∷ ys
    only [] f = absurd f
    only (z ∷ zs) f = ap (λ (w : Line). w ∷ zs) (one_line x y z h f.0) ∙ ap (λ (ws : List Line). y ∷ ws) (k.only zs f.1)

first_refused : (x : LogicalLine) (xs : List LogicalLine) → IsRefused (x ∷ xs) x
first_refused x xs = record { front = []; back = xs; parts = refl; lines = []; forms = tt }

later_refused : (x : LogicalLine) (xs : List LogicalLine) (y : Line) (z : LogicalLine) → IsFormLine x y → IsRefused xs z → IsRefused (x ∷ xs) z
later_refused x xs y z h r = record {
  front = x ∷ r.front;
  back = r.back;
  parts = ap (λ (w : List LogicalLine). x ∷ w) r.parts;
  lines = y ∷ r.lines;
  forms = (h, r.forms);
}

later : (x : LogicalLine) (xs : List LogicalLine) (y : Line) → IsFormLine x y → Refused xs → Refused (x ∷ xs)
later x xs y h r = (r.0, go r.1)
  where
    go : {n : LineNo} → IsTooBigAt xs n ⊎ IsNoLineAt xs n → IsTooBigAt (x ∷ xs) n ⊎ IsNoLineAt (x ∷ xs) n
    go (inl big) = inl (record { line = big.line; first = later_refused x xs y big.line h big.first; big = big.big; number = big.number })
    go (inr odd) = inr (record { line = odd.line; first = later_refused x xs y odd.line h odd.first; small = odd.small; spells = odd.spells; number = odd.number })

forms_or_refused : (xs : List LogicalLine) → ((ys : List Line) × HaveForms xs ys) ⊎ Refused xs
forms_or_refused [] = inl ([], forms.no_forms)
forms_or_refused (x ∷ xs) = go (form_or_none x) (forms_or_refused xs)
  where
    go : FormOrNone x → ((ys : List Line) × HaveForms xs ys) ⊎ Refused xs → ((ys : List Line) × HaveForms (x ∷ xs) ys) ⊎ Refused (x ∷ xs)
    go (inl p) (inl q) = inl (p.0 ∷ q.0, more_forms x xs p.0 q.0 p.1 q.1)
    go (inl p) (inr r) = inr (later x xs p.0 p.1 r)
    go (inr (inl big)) rest = inr (x.number, inl (record { line = x; first = first_refused x xs; big = big; number = refl }))
    go (inr (inr none)) rest = inr (x.number, inr (record { line = x; first = first_refused x xs; small = none.0; spells = none.1; number = refl }))

-- ---- nesting

program_of : (ys : List Line) (items : List ProgramItem) → Nests (within 50) ys items → IsProgramOf ys items
program_of ys items h = record {
  nests = h;
  only = λ others k. has_one_program ys others items k h;
  faultless = λ d k. never_both_holds ys items d h k;
  placed = program_placed h;
  rising = annotated_rising h;
}

fault_of : (ys : List Line) (d : Fault) → FirstFault 50 ys d → IsFaultOf ys d
fault_of ys d h = record {
  first = h;
  only = λ other k. has_one_fault ys other d k h;
  no_program = λ items k. never_both_holds ys items d k h;
}

abbrev ProgramOrFault : List LogicalLine → Type 0
ProgramOrFault xs = ((items : List ProgramItem) × Nest xs (Ok items)) ⊎ ((f : ParseFault) × (f ≢ parse.Memory) × IsProgram xs (Err f))

pub program_or_fault : (xs : List LogicalLine) → ProgramOrFault xs
program_or_fault xs = by_forms (forms_or_refused xs)
  where
    faulty : (ys : List Line) → HaveForms xs ys → (d : Fault) → FirstFault 50 ys d → ProgramOrFault xs
    faulty ys h (nesting n) k = inr (parse.Nesting n, (λ e. cc), (ys, h, fault_of ys (nesting n) k))
    faulty ys h (too_deep n) k = inr (parse.TooDeep n, (λ e. cc), (ys, h, fault_of ys (too_deep n) k))

    nested : (ys : List Line) → HaveForms xs ys → ((items : List ProgramItem) × Nests (within 50) ys items) ⊎ ((d : Fault) × FirstFault 50 ys d) → ProgramOrFault xs
    nested ys h (inl p) = inl (p.0, (ys, h, program_of ys p.0 p.1))
    nested ys h (inr q) = faulty ys h q.0 q.1

    refused : (n : LineNo) → IsTooBigAt xs n ⊎ IsNoLineAt xs n → ProgramOrFault xs
    refused n (inl big) = inr (parse.TooBig n, (λ e. cc), big)
    refused n (inr odd) = inr (parse.NotALine n, (λ e. cc), odd)

    by_forms : ((ys : List Line) × HaveForms xs ys) ⊎ Refused xs → ProgramOrFault xs
    by_forms (inl p) = nested p.0 p.1 (has_program_or_fault p.0)
    by_forms (inr r) = refused r.0 r.1
