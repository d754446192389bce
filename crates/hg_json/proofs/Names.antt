-- Ops of extensions by their names.
use Rattle.std.proofs.Common.{◌≡◌, ◌↔◌, ◌∙◌, ℕ, Bool, true, false, List, [], ◌∷◌, Option, Some, None, refl, sym, ap, subst, cond}
use Rattle.std.proofs.lemmas.Slice.Eq.{bytes_eq-Decides}
use Rattle.std.specs.List.{find}
use Rattle.std.specs.Str.{bytes_eq}
use Rattle.hg_ops.specs.Names.{ext_op_name}
use Rattle.hg_ops.specs.declared.ext_op.ExtOp.{ExtOp}
use Rattle.hg_ops.specs.declared.ext_op.ExtOp.TheVariants as ext
use Rattle.hg_json.specs.ExtNames.{ext_ops, ext_op_named}
use Rattle.hg_json.specs.code.Found.{Finds}

pub named-ext_op_name : (op : ExtOp) → ext_op_named (ext_op_name op) ≡ Some op
unfolding ext_op_named
named-ext_op_name ext.Alloc = refl
named-ext_op_name ext.Free = refl
named-ext_op_name ext.MeasureFree = refl
named-ext_op_name ext.Measure = refl
named-ext_op_name ext.Reset = refl
named-ext_op_name ext.H = refl
named-ext_op_name ext.X = refl
named-ext_op_name ext.Y = refl
named-ext_op_name ext.Z = refl
named-ext_op_name ext.S = refl
named-ext_op_name ext.Sdg = refl
named-ext_op_name ext.T = refl
named-ext_op_name ext.Tdg = refl
named-ext_op_name ext.Cx = refl
named-ext_op_name ext.Cy = refl
named-ext_op_name ext.Cz = refl
named-ext_op_name ext.Toffoli = refl
named-ext_op_name ext.Rx = refl
named-ext_op_name ext.Ry = refl
named-ext_op_name ext.Rz = refl
named-ext_op_name ext.Add = refl
named-ext_op_name ext.Sub = refl
named-ext_op_name ext.Mul = refl
named-ext_op_name ext.FloorDiv = refl
named-ext_op_name ext.Mod = refl
named-ext_op_name ext.Neg = refl
named-ext_op_name ext.IntEq = refl
named-ext_op_name ext.IntNe = refl
named-ext_op_name ext.Lt = refl
named-ext_op_name ext.Le = refl
named-ext_op_name ext.Gt = refl
named-ext_op_name ext.Ge = refl
named-ext_op_name ext.Not = refl
named-ext_op_name ext.BoolEq = refl
named-ext_op_name ext.BoolNe = refl
named-ext_op_name ext.ResultInt = refl
named-ext_op_name ext.ResultBool = refl
named-ext_op_name ext.Unpack = refl

-- what is found passes the test
find_passes : {X : Type 0} (p : X → Bool) (xs : List X) (x : X) → find p xs ≡ Some x → p x ≡ true
find_passes p [] x e = cc
find_passes p (y ∷ ys) x e = here (p y) refl e (find_passes p ys x)
  where
    here : (b : Bool) → p y ≡ b → cond b (Some y) (find p ys) ≡ Some x → (find p ys ≡ Some x → p x ≡ true) → p x ≡ true
    here true is f later = let same : y ≡ x = cc in subst (λ z. p z ≡ true) same is
    here false is f later = later f

named_so : (name : List ℕ) (op : ExtOp) → ext_op_named name ≡ Some op → ext_op_name op ≡ name
unfolding ext_op_named
named_so name op e = (bytes_eq-Decides (ext_op_name op) name).0 (find_passes (λ o. bytes_eq (ext_op_name o) name) ext_ops op e)

none_named : (name : List ℕ) (found : Option ExtOp) → ext_op_named name ≡ found → ((op : ExtOp) → ext_op_name op ≡ name → ⊥) → found ≡ None
none_named name None e none = refl
none_named name (Some op) e none = absurd (none op (named_so name op e))

-- an answer that is each op exactly where it has the name
pub found_by_name : (name : List ℕ) (r : Option ExtOp) → ((op : ExtOp) → (r ≡ Some op) ↔ (ext_op_name op ≡ name)) → Finds (λ op. op) r (ext_op_named name)
found_by_name name None exact = none_named name (ext_op_named name) refl (λ op e. let some = (exact op).1 e in cc)
found_by_name name (Some op) exact = ap ext_op_named (sym ((exact op).0 refl)) ∙ named-ext_op_name op
