-- Types as data by which the check tells values apart.
use Rattle.std.specs.Prelude.{◌≡◌, ℕ, List, [], ◌∷◌, Option}
use Rattle.std.specs.Coded.{Coded, coded_list, coded_option}
use base.Stored.{Gv, gnil, gnum, gcons}
use Rattle.std.proofs.Common.{refl, ap}
use Rattle.gp_locals.specs.Environment.{NameType}
use Rattle.gp_types.specs.declared.mode.Mode.{Mode}
use Rattle.gp_types.specs.declared.mode.Mode.TheVariants.{Borrowed, Owned, Copied}
use Rattle.gp_types.specs.Types.{Ty, Int, Bool, Qubit, Tuple, Struct, Function, Tys, none, more, Fields, end, field, FunParams, no_params, param, Answer, no_answer, answers}

abbrev pub text_code : List ℕ → Gv
text_code [] = gnil
text_code (c ∷ cs) = gcons (gnum c) (text_code cs)

abbrev pub mode_code : Mode → Gv
mode_code Borrowed = gnum 0
mode_code Owned = gnum 1
mode_code Copied = gnum 2

abbrev mutual
  pub type_code : Ty → Gv
  type_code Int = gnum 0
  type_code Bool = gnum 1
  type_code Qubit = gnum 2
  type_code (Tuple items) = gcons gnil (types_code items)
  type_code (Struct name fields) = gcons (gnum 0) (gcons (text_code name) (fields_code fields))
  type_code (Function ps r) = gcons (gnum 1) (gcons (params_code ps) (answer_code r))

  pub types_code : Tys → Gv
  types_code none = gnil
  types_code (more ty tys) = gcons (type_code ty) (types_code tys)

  pub fields_code : Fields → Gv
  fields_code end = gnil
  fields_code (field name ty fields) = gcons (text_code name) (gcons (type_code ty) (fields_code fields))

  pub params_code : FunParams → Gv
  params_code no_params = gnil
  params_code (param ty mode ps) = gcons (mode_code mode) (gcons (type_code ty) (params_code ps))

  pub answer_code : Answer → Gv
  answer_code no_answer = gnil
  answer_code (answers ty) = gcons gnil (type_code ty)

abbrev head : Gv → Gv
head (gcons a b) = a
head _ = gnil

abbrev tail : Gv → Gv
tail (gcons a b) = b
tail _ = gnil

abbrev number : Gv → ℕ
number (gnum n) = n
number _ = 0

pub text_code-inj : (a b : List ℕ) → text_code a ≡ text_code b → a ≡ b
text_code-inj [] [] e = refl
text_code-inj [] (c ∷ cs) e = cc
text_code-inj (c ∷ cs) [] e = cc
text_code-inj (a ∷ as_) (b ∷ bs) e = λ i. ap (λ g. number (head g)) e i ∷ text_code-inj as_ bs (ap tail e) i

pub mode_code-inj : (a b : Mode) → mode_code a ≡ mode_code b → a ≡ b
mode_code-inj Borrowed Borrowed e = refl
mode_code-inj Borrowed Owned e = cc
mode_code-inj Borrowed Copied e = cc
mode_code-inj Owned Borrowed e = cc
mode_code-inj Owned Owned e = refl
mode_code-inj Owned Copied e = cc
mode_code-inj Copied Borrowed e = cc
mode_code-inj Copied Owned e = cc
mode_code-inj Copied Copied e = refl

mutual
  pub type_code-inj : (a b : Ty) → type_code a ≡ type_code b → a ≡ b
  type_code-inj Int Int e = refl
  type_code-inj Int Bool e = cc
  type_code-inj Int Qubit e = cc
  type_code-inj Int (Tuple items) e = cc
  type_code-inj Int (Struct name fields) e = cc
  type_code-inj Int (Function ps r) e = cc
  type_code-inj Bool Int e = cc
  type_code-inj Bool Bool e = refl
  type_code-inj Bool Qubit e = cc
  type_code-inj Bool (Tuple items) e = cc
  type_code-inj Bool (Struct name fields) e = cc
  type_code-inj Bool (Function ps r) e = cc
  type_code-inj Qubit Int e = cc
  type_code-inj Qubit Bool e = cc
  type_code-inj Qubit Qubit e = refl
  type_code-inj Qubit (Tuple items) e = cc
  type_code-inj Qubit (Struct name fields) e = cc
  type_code-inj Qubit (Function ps r) e = cc
  type_code-inj (Tuple items) Int e = cc
  type_code-inj (Tuple items) Bool e = cc
  type_code-inj (Tuple items) Qubit e = cc
  type_code-inj (Tuple a) (Tuple b) e = ap Tuple (types_code-inj a b (ap tail e))
  type_code-inj (Tuple items) (Struct name fields) e = cc
  type_code-inj (Tuple items) (Function ps r) e = cc
  type_code-inj (Struct name fields) Int e = cc
  type_code-inj (Struct name fields) Bool e = cc
  type_code-inj (Struct name fields) Qubit e = cc
  type_code-inj (Struct name fields) (Tuple items) e = cc
  type_code-inj (Struct a as_) (Struct b bs) e =
      λ i. Struct (text_code-inj a b (ap (λ g. head (tail g)) e) i) (fields_code-inj as_ bs (ap (λ g. tail (tail g)) e) i)
  type_code-inj (Struct name fields) (Function ps r) e = cc
  type_code-inj (Function ps r) Int e = cc
  type_code-inj (Function ps r) Bool e = cc
  type_code-inj (Function ps r) Qubit e = cc
  type_code-inj (Function ps r) (Tuple items) e = cc
  type_code-inj (Function ps r) (Struct name fields) e = cc
  type_code-inj (Function ps r) (Function qs u) e =
      λ i. Function (params_code-inj ps qs (ap (λ g. head (tail g)) e) i) (answer_code-inj r u (ap (λ g. tail (tail g)) e) i)

  pub types_code-inj : (a b : Tys) → types_code a ≡ types_code b → a ≡ b
  types_code-inj none none e = refl
  types_code-inj none (more ty tys) e = cc
  types_code-inj (more ty tys) none e = cc
  types_code-inj (more a as_) (more b bs) e = λ i. more (type_code-inj a b (ap head e) i) (types_code-inj as_ bs (ap tail e) i)

  pub fields_code-inj : (a b : Fields) → fields_code a ≡ fields_code b → a ≡ b
  fields_code-inj end end e = refl
  fields_code-inj end (field name ty fields) e = cc
  fields_code-inj (field name ty fields) end e = cc
  fields_code-inj (field a ta fa) (field b tb fb) e =
      λ i. field (text_code-inj a b (ap head e) i) (type_code-inj ta tb (ap (λ g. head (tail g)) e) i) (fields_code-inj fa fb (ap (λ g. tail (tail g)) e) i)

  pub params_code-inj : (a b : FunParams) → params_code a ≡ params_code b → a ≡ b
  params_code-inj no_params no_params e = refl
  params_code-inj no_params (param ty mode ps) e = cc
  params_code-inj (param ty mode ps) no_params e = cc
  params_code-inj (param ta ma pa) (param tb mb pb) e =
      λ i. param (type_code-inj ta tb (ap (λ g. head (tail g)) e) i) (mode_code-inj ma mb (ap head e) i) (params_code-inj pa pb (ap (λ g. tail (tail g)) e) i)

  pub answer_code-inj : (a b : Answer) → answer_code a ≡ answer_code b → a ≡ b
  answer_code-inj no_answer no_answer e = refl
  answer_code-inj no_answer (answers ty) e = cc
  answer_code-inj (answers ty) no_answer e = cc
  answer_code-inj (answers a) (answers b) e = ap answers (type_code-inj a b (ap tail e))

abbrev pub coded_type : Coded Ty
coded_type = record { code = type_code; inj = type_code-inj }

-- the types of the names of a function, where they are usable
abbrev pub coded_types : Coded (List (Option Ty))
coded_types = coded_list (coded_option coded_type)

abbrev pub name_code : NameType → Gv
name_code n = gcons (text_code n.name) (type_code n.ty)

pub name_code-inj : (a b : NameType) → name_code a ≡ name_code b → a ≡ b
name_code-inj a b e = λ i. record { name = text_code-inj a.name b.name (ap head e) i; ty = type_code-inj a.ty b.ty (ap tail e) i }

-- usable names with their types
abbrev pub coded_name_types : Coded (List NameType)
coded_name_types = coded_list (record { code = name_code; inj = name_code-inj })
