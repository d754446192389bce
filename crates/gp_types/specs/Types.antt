-- Types of the source language, as plain data.
use Rattle.std.specs.Prelude.{ℕ, List, [], ◌∷◌, Option, Some, None}
use Rattle.gp_types.specs.declared.mode.Mode.{Mode}

mutual
  pub data Ty : Type 0 where
    Int : Ty
    Bool : Ty
    Qubit : Ty
    Tuple : (items : Tys) → Ty
    Struct : (name : List ℕ) (fields : Fields) → Ty
    Function : (params : FunParams) (answer : Answer) → Ty

  pub data Tys : Type 0 where
    none : Tys
    more : Ty → Tys → Tys

  -- the fields of a struct, in the order in which it declares them
  pub data Fields : Type 0 where
    end : Fields
    field : (name : List ℕ) (ty : Ty) → Fields → Fields

  -- the parameters of a function type, in order
  pub data FunParams : Type 0 where
    no_params : FunParams
    param : (ty : Ty) (mode : Mode) → FunParams → FunParams

  -- what functions of a type answer: nothing, or values of a type
  pub data Answer : Type 0 where
    no_answer : Answer
    answers : Ty → Answer

-- a field by itself
pub record Field : Type 0 where
  pub name : List ℕ
  pub ty : Ty

-- a parameter of a function type by itself
pub record FunParam : Type 0 where
  pub ty : Ty
  pub mode : Mode

abbrev pub tys_of : List Ty → Tys
tys_of [] = none
tys_of (t ∷ ts) = more t (tys_of ts)

abbrev pub fields_of : List Field → Fields
fields_of [] = end
fields_of (f ∷ fs) = field f.name f.ty (fields_of fs)

abbrev pub params_of : List FunParam → FunParams
params_of [] = no_params
params_of (p ∷ ps) = param p.ty p.mode (params_of ps)

abbrev pub answer_of : Option Ty → Answer
answer_of None = no_answer
answer_of (Some t) = answers t

-- the type of what is answered, where something is
abbrev pub answered : Answer → Option Ty
answered no_answer = None
answered (answers t) = Some t
