-- How functions are found, begin and end.
use Rattle.std.proofs.Common.{◌≡◌, ℕ, zero, suc, ◌<◌, ◌≤◌, ◌+◌, add-one, Bool, true, false, if◌then◌else◌, bytes_eq, List, [], ◌∷◌, ◌++◌, Option, Some, None, option_map, option_and_then, get_or, drop, length, map, refl, ap, sym, ◌∙◌, arith}
use Rattle.gp_locals.specs.Environment.{Names}
use Rattle.gp_scope.specs.Definitions.{function_named}
use Rattle.gp_tree.specs.Program.{FunctionDefinition, program_items, function_definition}
use Rattle.gp_tree.specs.declared.program.Item.{Item}
use Rattle.gp_tree.specs.declared.program.Item.TheVariants as item
use Rattle.gp_types.specs.Signature.{Parameter, parameter_view, parameter_names, is_borrowed_mode}
use Rattle.gp_types.specs.declared.signature.SigParam.{SigParam}
use Rattle.gp_evaluator.specs.Evaluation.{final_of}
use Rattle.gp_meaning.specs.Meaning.{finals_of, with_final}
use Rattle.gp_meaning.specs.State.{Variables, variable, set, set_each}
use Rattle.gp_meaning.specs.Value.{Value}

-- ---- functions of a program

abbrev pub first_function : Option FunctionDefinition → Option FunctionDefinition → Option FunctionDefinition
first_function None other = other
first_function (Some f) other = Some f

named_first : (y : Item) (ys : List Item) (name : List ℕ)
    → function_named (program_items (y ∷ ys)) name ≡ first_function (function_named (program_items (y ∷ [])) name) (function_named (program_items ys) name)
named_first (item.Import i) ys name = refl
named_first (item.Struct s) ys name = refl
named_first (item.Function f) ys name = by_test (bytes_eq name f.name) where
  by_test : (b : Bool)
      → (if b then Some (function_definition f) else function_named (program_items ys) name)
      ≡ first_function (if b then Some (function_definition f) else None) (function_named (program_items ys) name)
  by_test true = refl
  by_test false = refl

named_step : (items : List Item) (i : ℕ) (x : Item) (name : List ℕ) → i < length items → x ≡ get_or items i x
    → function_named (program_items (drop i items)) name ≡ first_function (function_named (program_items (x ∷ [])) name) (function_named (program_items (drop (suc i) items)) name)
named_step [] i x name h is = absurd (omega (arith, h))
named_step (y ∷ ys) zero x name h is = named_first y ys name ∙ ap (λ (z : Item). first_function (function_named (program_items (z ∷ [])) name) (function_named (program_items ys) name)) (sym is)
named_step (y ∷ ys) (suc i) x name h is = named_step ys i x name (omega (arith, h)) is

pub named_here : (items : List Item) (i : ℕ) (x : Item) (name : List ℕ) (f : FunctionDefinition) → i < length items → x ≡ get_or items i x → Some f ≡ function_named (program_items (x ∷ [])) name
    → function_named (program_items (drop i items)) name ≡ Some f
named_here items i x name f h is e =
    named_step items i x name h is ∙ ap (λ (o : Option FunctionDefinition). first_function o (function_named (program_items (drop (suc i) items)) name)) (sym e)

pub named_later : (items : List Item) (i : ℕ) (x : Item) (name : List ℕ) → i < length items → x ≡ get_or items i x → None ≡ function_named (program_items (x ∷ [])) name
    → function_named (program_items (drop i items)) name ≡ function_named (program_items (drop (i + 1) items)) name
named_later items i x name h is e =
    named_step items i x name h is ∙ ap (λ (o : Option FunctionDefinition). first_function o (function_named (program_items (drop (suc i) items)) name)) (sym e)
    ∙ ap (λ (k : ℕ). function_named (program_items (drop k items)) name) (sym (add-one i))

pub named_nowhere : (items : List Item) (i : ℕ) (name : List ℕ) → length items ≤ i → function_named (program_items (drop i items)) name ≡ None
named_nowhere [] zero name h = refl
named_nowhere [] (suc i) name h = refl
named_nowhere (y ∷ ys) zero name h = absurd (omega (arith, h))
named_nowhere (y ∷ ys) (suc i) name h = named_nowhere ys i name (omega (arith, h))

-- ---- parameters

set_step : (names : Names) (s : Variables) (ps : List Parameter) (vs : List Value) (i : ℕ) (p : Parameter) (v : Value) → i < length ps → i < length vs → p ≡ get_or ps i p → v ≡ get_or vs i v
    → set_each names s (parameter_names (drop i ps)) (drop i vs) ≡ set_each names (set names s p.name v) (parameter_names (drop (suc i) ps)) (drop (suc i) vs)
set_step names s [] vs i p v h g is at = absurd (omega (arith, h))
set_step names s (q ∷ ps) [] i p v h g is at = absurd (omega (arith, g))
set_step names s (q ∷ ps) (u ∷ vs) zero p v h g is at =
    ap (λ (x : Parameter). set_each names (set names s x.name u) (parameter_names ps) vs) (sym is) ∙ ap (λ (x : Value). set_each names (set names s p.name x) (parameter_names ps) vs) (sym at)
set_step names s (q ∷ ps) (u ∷ vs) (suc i) p v h g is at = set_step names s ps vs i p v (omega (arith, h)) (omega (arith, g)) is at

pub set_more : (names : Names) (s t : Variables) (ps : List Parameter) (vs : List Value) (i : ℕ) (p : Parameter) (v : Value) → i < length ps → i < length vs → p ≡ get_or ps i p → v ≡ get_or vs i v
    → t ≡ set names s p.name v → set_each names t (parameter_names (drop (i + 1) ps)) (drop (i + 1) vs) ≡ set_each names s (parameter_names (drop i ps)) (drop i vs)
set_more names s t ps vs i p v h g is at e =
    ap (λ (k : ℕ). set_each names t (parameter_names (drop k ps)) (drop k vs)) (add-one i)
    ∙ ap (λ (z : Variables). set_each names z (parameter_names (drop (suc i) ps)) (drop (suc i) vs)) e ∙ sym (set_step names s ps vs i p v h g is at)

pub set_out : (names : Names) (s : Variables) (ps : List Parameter) (vs : List Value) (i : ℕ) → length vs ≤ i → set_each names s (parameter_names (drop i ps)) (drop i vs) ≡ s
set_out names s ps vs i h = none (parameter_names (drop i ps)) vs i h where
  none : (ns : List (List ℕ)) (vs : List Value) (i : ℕ) → length vs ≤ i → set_each names s ns (drop i vs) ≡ s
  none [] [] zero h = refl
  none [] [] (suc i) h = refl
  none (n ∷ ns) [] zero h = refl
  none (n ∷ ns) [] (suc i) h = refl
  none ns (v ∷ vs) zero h = absurd (omega (arith, h))
  none ns (v ∷ vs) (suc i) h = none ns vs i (omega (arith, h))

pub set_end : (names : Names) (s : Variables) (ps : List Parameter) (vs : List Value) (i : ℕ) → length ps ≤ i → set_each names s (parameter_names (drop i ps)) (drop i vs) ≡ s
set_end names s ps vs i h = ap (λ (qs : List Parameter). set_each names s (parameter_names qs) (drop i vs)) (nothing ps i h) where
  nothing : (ps : List Parameter) (i : ℕ) → length ps ≤ i → drop i ps ≡ []
  nothing [] zero h = refl
  nothing [] (suc i) h = refl
  nothing (p ∷ ps) zero h = absurd (omega (arith, h))
  nothing (p ∷ ps) (suc i) h = nothing ps i (omega (arith, h))

-- ---- final values

finals_first : (names : Names) (p : Parameter) (ps : List Parameter) (vs : Variables)
    → finals_of names (p ∷ ps) vs ≡ option_and_then (λ f. option_map (λ fs. f ∷ fs) (finals_of names ps vs)) (final_of names p vs)
finals_first names p ps vs = by_mode (is_borrowed_mode p.mode) (variable names vs p.name) (finals_of names ps vs) where
  by_mode : (b : Bool) (v : Option Value) (o : Option (List (Option Value)))
      → (if b then with_final v o else option_map (λ finals. None ∷ finals) o)
      ≡ option_and_then (λ f. option_map (λ fs. f ∷ fs) o) (if b then option_map (λ v. Some v) v else Some None)
  by_mode false v o = refl
  by_mode true None None = refl
  by_mode true None (Some fs) = refl
  by_mode true (Some v) None = refl
  by_mode true (Some v) (Some fs) = refl

finals_step : (names : Names) (ps : List SigParam) (vs : Variables) (i : ℕ) (p : SigParam) → i < length ps → p ≡ get_or ps i p
    → finals_of names (map parameter_view (drop i ps)) vs
    ≡ option_and_then (λ f. option_map (λ fs. f ∷ fs) (finals_of names (map parameter_view (drop (suc i) ps)) vs)) (final_of names (parameter_view p) vs)
finals_step names [] vs i p h is = absurd (omega (arith, h))
finals_step names (q ∷ ps) vs zero p h is =
    finals_first names (parameter_view q) (map parameter_view ps) vs
    ∙ ap (λ (x : SigParam). option_and_then (λ f. option_map (λ fs. f ∷ fs) (finals_of names (map parameter_view ps) vs)) (final_of names (parameter_view x) vs)) (sym is)
finals_step names (q ∷ ps) vs (suc i) p h is = finals_step names ps vs i p (omega (arith, h)) is

module _ (names : Names) (ps : List SigParam) (vs : Variables) (whole : Option (List (Option Value))) (made : List (Option Value)) (i : ℕ)
    (before : whole ≡ option_map (λ fs. made ++ fs) (finals_of names (map parameter_view (drop i ps)) vs)) where
  pub finals_none : (p : SigParam) → i < length ps → p ≡ get_or ps i p → final_of names (parameter_view p) vs ≡ None → whole ≡ None
  finals_none p h is e =
      before
      ∙ ap (option_map (λ fs. made ++ fs)) (finals_step names ps vs i p h is ∙ ap (option_and_then (λ f. option_map (λ fs. f ∷ fs) (finals_of names (map parameter_view (drop (suc i) ps)) vs))) e)

  pub finals_more : (p : SigParam) (f : Option Value) (more : List (Option Value)) → i < length ps → p ≡ get_or ps i p → final_of names (parameter_view p) vs ≡ Some f → more ≡ made ++ f ∷ []
      → whole ≡ option_map (λ fs. more ++ fs) (finals_of names (map parameter_view (drop (i + 1) ps)) vs)
  finals_more p f more h is e m =
      before
      ∙ ap (option_map (λ fs. made ++ fs)) (finals_step names ps vs i p h is ∙ ap (option_and_then (λ f. option_map (λ fs. f ∷ fs) (finals_of names (map parameter_view (drop (suc i) ps)) vs))) e)
      ∙ joined (finals_of names (map parameter_view (drop (suc i) ps)) vs)
      ∙ ap (λ (k : ℕ). option_map (λ fs. (made ++ f ∷ []) ++ fs) (finals_of names (map parameter_view (drop k ps)) vs)) (sym (add-one i))
      ∙ ap (λ (m : List (Option Value)). option_map (λ fs. m ++ fs) (finals_of names (map parameter_view (drop (i + 1) ps)) vs)) (sym m)
    where
      behind : (xs fs : List (Option Value)) → xs ++ f ∷ fs ≡ (xs ++ f ∷ []) ++ fs
      behind [] fs = refl
      behind (x ∷ xs) fs = ap (λ ys. x ∷ ys) (behind xs fs)

      joined : (o : Option (List (Option Value))) → option_map (λ fs. made ++ fs) (option_map (λ fs. f ∷ fs) o) ≡ option_map (λ fs. (made ++ f ∷ []) ++ fs) o
      joined None = refl
      joined (Some fs) = ap (λ (xs : List (Option Value)). Some xs) (behind made fs)

  pub finals_end : length ps ≤ i → whole ≡ Some made
  finals_end h = before ∙ ap (option_map (λ fs. made ++ fs)) (none ps i h) ∙ ap (λ (xs : List (Option Value)). Some xs) (right made)
    where
      right : (xs : List (Option Value)) → xs ++ [] ≡ xs
      right [] = refl
      right (x ∷ xs) = ap (λ ys. x ∷ ys) (right xs)

      none : (ps : List SigParam) (i : ℕ) → length ps ≤ i → finals_of names (map parameter_view (drop i ps)) vs ≡ Some []
      none [] zero h = refl
      none [] (suc i) h = refl
      none (p ∷ ps) zero h = absurd (omega (arith, h))
      none (p ∷ ps) (suc i) h = none ps i (omega (arith, h))

pub finals_begin : (o : Option (List (Option Value))) → o ≡ option_map (λ fs. [] ++ fs) o
finals_begin None = refl
finals_begin (Some fs) = refl
