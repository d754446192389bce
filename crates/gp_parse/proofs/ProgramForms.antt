-- The forms of lines, one line after the other.
use Rattle.std.proofs.Common.{◌≡◌, ℕ, zero, suc, ◌+◌, ◌<◌, List, [], ◌∷◌, ◌++◌, take, drop, get_or, length, Err, refl, sym, ap, subst, ◌∙◌, arith}
use Rattle.std.proofs.Math.Seq.{take-suc}
use Rattle.gp_base.specs.declared.name.LineNo.{LineNo}
use Rattle.gp_lex.specs.declared.line.LogicalLine.{LogicalLine}
use Rattle.gp_tree.specs.Form.{Form}
use Rattle.gp_parse.specs.declared.parse_fault.ParseFault.{ParseFault}
use Rattle.gp_parse.specs.declared.parse_fault.ParseFault.TheVariants as fault
use Rattle.gp_form.specs.Forms.{SpellsForm}
use Rattle.gp_parse.specs.Nesting.{Line, line}
use Rattle.gp_parse.specs.Programs.{IsFormLine, AreFormLines, HaveForms, IsRefused}
use Rattle.gp_parse.specs.code.FoundForms.{FindsForms, AnswersForm}

pub no_forms : HaveForms [] []
no_forms = record { forms = tt; only = only }
  where
    only : (zs : List Line) → AreFormLines [] zs → zs ≡ []
    only [] h = refl
    only (z ∷ zs) h = absurd h

forms_behind : (xs : List LogicalLine) (ys : List Line) (x : LogicalLine) (y : Line) → AreFormLines xs ys → IsFormLine x y → AreFormLines (xs ++ x ∷ []) (ys ++ y ∷ [])
forms_behind [] [] x y h k = (k, tt)
forms_behind [] (z ∷ zs) x y h k = absurd h
forms_behind (w ∷ ws) [] x y h k = absurd h
forms_behind (w ∷ ws) (z ∷ zs) x y h k = (h.0, forms_behind ws zs x y h.1 k)

same_line : (n m : LineNo) (i j : ℕ) (a b : Form) → n ≡ m → i ≡ j → a ≡ b → line n i a ≡ line m j b
same_line n m i j a b p q r = ap (λ (z : LineNo). line z i a) p ∙ ap (λ (z : ℕ). line m z a) q ∙ ap (λ (z : Form). line m j z) r

line_is : (x : LogicalLine) (y z : Line) → IsFormLine x y → ((form : Form) → SpellsForm x.tokens form → form ≡ y.form) → IsFormLine x z → z ≡ y
line_is x y z h only k = same_line z.number y.number z.indent y.indent z.form y.form (k.number ∙ sym h.number) (k.indent ∙ sym h.indent) (only z.form k.spells)

record Split (xs : List LogicalLine) (x : LogicalLine) (zs : List Line) : Type 0 where
  front : List Line
  last : Line
  parts : zs ≡ front ++ last ∷ []
  forms : AreFormLines xs front
  is : IsFormLine x last

split_last : (xs : List LogicalLine) (x : LogicalLine) (zs : List Line) → AreFormLines (xs ++ x ∷ []) zs → Split xs x zs
split_last [] x [] h = absurd h
split_last [] x (z ∷ []) h = record { front = []; last = z; parts = refl; forms = tt; is = h.0 }
split_last [] x (z ∷ v ∷ vs) h = absurd h.1
split_last (w ∷ ws) x [] h = absurd h
split_last (w ∷ ws) x (z ∷ zs) h =
    let s = split_last ws x zs h.1 in
    record { front = z ∷ s.front; last = s.last; parts = ap (λ (u : List Line). z ∷ u) s.parts; forms = (h.0, s.forms); is = s.is }

only_behind : (xs : List LogicalLine) (ys : List Line) (x : LogicalLine) (y : Line) → ((zs : List Line) → AreFormLines xs zs → zs ≡ ys) → ((z : Line) → IsFormLine x z → z ≡ y) → (zs : List Line) → AreFormLines (xs ++ x ∷ []) zs → zs ≡ ys ++ y ∷ []
only_behind xs ys x y all one zs h =
    let s = split_last xs x zs h in
    s.parts ∙ ap (λ (u : List Line). u ++ s.last ∷ []) (all s.front s.forms) ∙ ap (λ (u : Line). ys ++ u ∷ []) (one s.last s.is)

pub one_more : (xs : List LogicalLine) (ys : List Line) (x : LogicalLine) (y : Line) → HaveForms xs ys → IsFormLine x y → ((form : Form) → SpellsForm x.tokens form → form ≡ y.form) → HaveForms (xs ++ x ∷ []) (ys ++ y ∷ [])
one_more xs ys x y h k only = record { forms = forms_behind xs ys x y h.forms k; only = only_behind xs ys x y h.only (λ z m. line_is x y z k only m) }

-- ---- a loop over the lines

pub one_turn : (xs : List LogicalLine) (i : ℕ) (d : LogicalLine) (ys : List Line) (y : Line) → i < length xs → d ≡ get_or xs i d → HaveForms (take i xs) ys → IsFormLine d y × ((form : Form) → SpellsForm d.tokens form → form ≡ y.form) → HaveForms (take (i + 1) xs) (ys ++ y ∷ [])
one_turn xs i d ys y lt same h a =
    let e : take (suc i) xs ≡ take i xs ++ get_or xs i d ∷ [] = take-suc xs i d lt in
    let k : suc i ≡ i + 1 = omega arith in
    let more : HaveForms (take i xs ++ d ∷ []) (ys ++ y ∷ []) = one_more (take i xs) ys d y h a.0 a.1 in
    subst (λ (z : List LogicalLine). HaveForms z (ys ++ y ∷ [])) (ap (λ (z : LogicalLine). take i xs ++ z ∷ []) same ∙ sym e ∙ ap (λ (n : ℕ). take n xs) k) more

refused : (xs : List LogicalLine) (i : ℕ) (d : LogicalLine) (ys : List Line) → i < length xs → d ≡ get_or xs i d → HaveForms (take i xs) ys → IsRefused xs d
refused xs i d ys lt same h = record {
  front = take i xs;
  back = drop (suc i) xs;
  parts = parted xs i lt ∙ ap (λ (z : LogicalLine). take i xs ++ z ∷ drop (suc i) xs) (sym same);
  lines = ys;
  forms = h.forms;
}
  where
    parted : (xs : List LogicalLine) (i : ℕ) → i < length xs → xs ≡ take i xs ++ get_or xs i d ∷ drop (suc i) xs
    parted [] i lt = absurd (omega arith)
    parted (x ∷ xs) zero lt = refl
    parted (x ∷ xs) (suc i) lt = ap (λ (z : List LogicalLine). x ∷ z) (parted xs i (omega arith))

-- the line at which the loop stops
pub stops : (xs : List LogicalLine) (i : ℕ) (d : LogicalLine) (ys : List Line) (e : ParseFault) → i < length xs → d ≡ get_or xs i d → HaveForms (take i xs) ys → AnswersForm d (Err e) → FindsForms xs (Err e)
stops xs i d ys (fault.TooBig n) lt same h a = record { line = d; first = refused xs i d ys lt same h; big = a.0; number = a.1 }
stops xs i d ys (fault.NotALine n) lt same h a = record { line = d; first = refused xs i d ys lt same h; small = a.0; spells = a.1; number = a.2 }
stops xs i d ys fault.Memory lt same h a = tt
stops xs i d ys (fault.Nesting n) lt same h a = a
stops xs i d ys (fault.TooDeep n) lt same h a = a
