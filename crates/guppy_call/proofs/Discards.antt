-- The first line that gives the qubit up.
use Rattle.std.proofs.Common.{◌≡◌, ℕ, suc, ◌+◌, List, [], ◌∷◌, ◌++◌, length, Some, None, refl, sym, ap, ◌∙◌, arith, length-append}
use Rattle.std.specs.List.{position_from, position}
use Rattle.std.proofs.lemmas.Iterator.Adapters.{position_from-zero}
use Rattle.gp_lower.specs.declared.thin_text.ThinLine.{ThinLine}
use Rattle.gp_lower.specs.declared.thin_text.ThinLine.TheVariants as line
use Rattle.hg_graph.specs.Thin.{ThinGate, H, X}
use Rattle.gp_lower.specs.Thin.{gate_lines, complete_lines, AreComplete}
use Rattle.guppy_call.specs.Compile.{is_discard, spent_lines}

none_from : (gates : List ThinGate) (i : ℕ) → position_from is_discard i (gate_lines gates) ≡ None
none_from [] i = refl
none_from (H ∷ gates) i = none_from gates (i + 1)
none_from (X ∷ gates) i = none_from gates (i + 1)

-- gates give the qubit up nowhere
pub position-gate_lines : (lines : List ThinLine) (gates : List ThinGate) → lines ≡ gate_lines gates → position is_discard lines ≡ None
position-gate_lines lines gates e = rw e (position_from-zero is_discard (gate_lines gates) ∙ none_from gates 0)

some_from : (gates : List ThinGate) (more : List ThinLine) (i : ℕ) → position_from is_discard i (gate_lines gates ++ line.Discard ∷ more) ≡ Some (i + length gates)
some_from [] more i = ap Some (omega arith)
some_from (H ∷ gates) more i = some_from gates more (i + 1) ∙ ap Some (omega arith)
some_from (X ∷ gates) more i = some_from gates more (i + 1) ∙ ap Some (omega arith)

-- a discard after gates is at their number
pub position-discard : (lines : List ThinLine) (gates : List ThinGate) (more : List ThinLine) → lines ≡ gate_lines gates ++ line.Discard ∷ more → position is_discard lines ≡ Some (length gates)
position-discard lines gates more e = rw e (position_from-zero is_discard (gate_lines gates ++ line.Discard ∷ more) ∙ some_from gates more 0 ∙ ap Some (omega arith))

-- the gates before the first discard, and what follows it
record Split (lines : List ThinLine) (i k : ℕ) : Type 0 where
  gates : List ThinGate
  more : List ThinLine
  spelled : lines ≡ gate_lines gates ++ line.Discard ∷ more
  place : k ≡ i + length gates

after_gate : (gate : ThinGate) (first : ThinLine) (lines : List ThinLine) (i k : ℕ) → gate_lines (gate ∷ []) ≡ first ∷ [] → Split lines (i + 1) k → Split (first ∷ lines) i k
after_gate gate first lines i k e s = record {
  gates = gate ∷ s.gates;
  more = s.more;
  spelled = ap (λ ls. first ∷ ls) s.spelled ∙ ap (λ front. front ++ (gate_lines s.gates ++ line.Discard ∷ s.more)) (sym e);
  place = let p = s.place in omega arith;
}

split : (lines : List ThinLine) (i k : ℕ) → position_from is_discard i lines ≡ Some k → Split lines i k
split [] i k e = absurd cc
split (line.H ∷ lines) i k e = after_gate H line.H lines i k refl (split lines (i + 1) k e)
split (line.X ∷ lines) i k e = after_gate X line.X lines i k refl (split lines (i + 1) k e)
split (line.Discard ∷ lines) i k e = let same : i ≡ k = cc in record { gates = []; more = lines; spelled = refl; place = omega arith }

no_more : (more : List ThinLine) → length more ≡ 0 → more ≡ []
no_more [] e = refl
no_more (x ∷ more) e = absurd (omega arith)

length-gate_lines : (gates : List ThinGate) → length (gate_lines gates) ≡ length gates
length-gate_lines [] = refl
length-gate_lines (gate ∷ gates) = omega (arith, length-gate_lines gates)

-- lines of which the first discard is the last line are complete
pub last_is_discard : (lines : List ThinLine) (k : ℕ) → position is_discard lines ≡ Some k → k + 1 ≡ length lines → AreComplete lines
last_is_discard lines k e all =
    let s = split lines 0 k (sym (position_from-zero is_discard lines) ∙ e) in
    let p = s.place in
    let whole : length lines ≡ length (gate_lines s.gates) + suc (length s.more) = ap length s.spelled ∙ length-append (gate_lines s.gates) (line.Discard ∷ s.more) in
    let none : length s.more ≡ 0 = omega (arith, length-gate_lines s.gates) in
    (s.gates, s.spelled ∙ ap (λ more. gate_lines s.gates ++ line.Discard ∷ more) (no_more s.more none))

-- the length of lines that go on after they gave the qubit up, and of those that don't
pub length-spent_lines : (lines : List ThinLine) (gates : List ThinGate) (next : ThinLine) (more : List ThinLine) → lines ≡ spent_lines gates next more → length lines ≡ length gates + 2 + length more
length-spent_lines lines gates next more e = ap length e ∙ length-append (gate_lines gates) (line.Discard ∷ next ∷ more) ∙ omega (arith, length-gate_lines gates)

pub length-complete_lines : (lines : List ThinLine) (gates : List ThinGate) → lines ≡ complete_lines gates → length lines ≡ length gates + 1
length-complete_lines lines gates e = ap length e ∙ length-append (gate_lines gates) (line.Discard ∷ []) ∙ omega (arith, length-gate_lines gates)
