-- Looking for an op by its name.
use Rattle.std.proofs.Common.{◌≡◌, ◌↔◌, ◌∙◌, ℕ, Bool, true, false, List, [], ◌∷◌, Option, Some, None, refl, sym, ap, subst, cond}
use Rattle.std.specs.Option.{option_map}
use Rattle.std.proofs.lemmas.Slice.Eq.{bytes_eq-Decides}
use Rattle.std.specs.List.{find}
use Rattle.std.specs.Str.{bytes_eq}
use Rattle.hg_ops.specs.declared.ext_op.ExtOp.{ExtOp}
use Rattle.hg_ops.specs.declared.ext_op.ExtOp.TheVariants.{Alloc, Free, MeasureFree, Measure, Reset, H, X, Y, Z, S, Sdg, T, Tdg, Cx, Cy, Cz, Toffoli, Rx, Ry, Rz, ResultInt, ResultBool, Add, Sub, Mul, FloorDiv, Mod, Neg, IntEq, IntNe, Lt, Le, Gt, Ge, Not, BoolEq, BoolNe, Unpack}
use Rattle.hg_ops.specs.Names.{ext_op_name, OpNamesAreDistinct}

-- the ops, first those that are no gate
abbrev pub ext_ops : List ExtOp
ext_ops = Alloc ∷ Free ∷ MeasureFree ∷ Measure ∷ Reset ∷ ResultInt ∷ ResultBool ∷ Add ∷ Sub ∷ Mul ∷ FloorDiv ∷ Mod ∷ Neg ∷ IntEq ∷ IntNe ∷ Lt ∷ Le ∷ Gt ∷ Ge ∷ Not ∷ BoolEq ∷ BoolNe ∷ Unpack
    ∷ H ∷ X ∷ Y ∷ Z ∷ S ∷ Sdg ∷ T ∷ Tdg ∷ Cx ∷ Cy ∷ Cz ∷ Toffoli ∷ Rx ∷ Ry ∷ Rz ∷ []

abbrev pub has_name : List ℕ → ExtOp → Bool
has_name name op = bytes_eq (ext_op_name op) name

-- the op of a name
unfoldable pub named : List ℕ → Option ExtOp
named name = find (has_name name) ext_ops

pub named-ext_op_name : (op : ExtOp) → named (ext_op_name op) ≡ Some op
unfolding named
named-ext_op_name Alloc = refl
named-ext_op_name Free = refl
named-ext_op_name MeasureFree = refl
named-ext_op_name Measure = refl
named-ext_op_name Reset = refl
named-ext_op_name H = refl
named-ext_op_name X = refl
named-ext_op_name Y = refl
named-ext_op_name Z = refl
named-ext_op_name S = refl
named-ext_op_name Sdg = refl
named-ext_op_name T = refl
named-ext_op_name Tdg = refl
named-ext_op_name Cx = refl
named-ext_op_name Cy = refl
named-ext_op_name Cz = refl
named-ext_op_name Toffoli = refl
named-ext_op_name Rx = refl
named-ext_op_name Ry = refl
named-ext_op_name Rz = refl
named-ext_op_name ResultInt = refl
named-ext_op_name ResultBool = refl
named-ext_op_name Add = refl
named-ext_op_name Sub = refl
named-ext_op_name Mul = refl
named-ext_op_name FloorDiv = refl
named-ext_op_name Mod = refl
named-ext_op_name Neg = refl
named-ext_op_name IntEq = refl
named-ext_op_name IntNe = refl
named-ext_op_name Lt = refl
named-ext_op_name Le = refl
named-ext_op_name Gt = refl
named-ext_op_name Ge = refl
named-ext_op_name Not = refl
named-ext_op_name BoolEq = refl
named-ext_op_name BoolNe = refl
named-ext_op_name Unpack = refl

pub op_names_are_distinct_lem : OpNamesAreDistinct
op_names_are_distinct_lem a b e =
    let found : Some a ≡ Some b = sym (named-ext_op_name a) ∙ ap named e ∙ named-ext_op_name b in cc

-- what is found passes the test
find-passes : {X : Type 0} (p : X → Bool) (xs : List X) (x : X) → find p xs ≡ Some x → p x ≡ true
find-passes p [] x e = cc
find-passes p (y ∷ ys) x e = here (p y) refl e (find-passes p ys x)
  where
    here : (b : Bool) → p y ≡ b → cond b (Some y) (find p ys) ≡ Some x → (find p ys ≡ Some x → p x ≡ true) → p x ≡ true
    here true is f later = let same : y ≡ x = cc in subst (λ z. p z ≡ true) same is
    here false is f later = later f

itself : (r : Option ExtOp) → option_map (λ x. x) r ≡ r
itself None = refl
itself (Some op) = refl

-- what was found by a name is exactly the op of this name
pub named-exact : (r : Option ExtOp) (name : List ℕ) → option_map (λ x. x) r ≡ find (has_name name) ext_ops
    → (op : ExtOp) → (r ≡ Some op) ↔ (ext_op_name op ≡ name)
unfolding named
named-exact r name found op =
    let is : r ≡ named name = sym (itself r) ∙ found in
    (λ e. (bytes_eq-Decides (ext_op_name op) name).0 (find-passes (has_name name) ext_ops op (sym is ∙ e)), λ e. is ∙ sym (ap named e) ∙ named-ext_op_name op)
