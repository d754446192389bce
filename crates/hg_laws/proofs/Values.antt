-- Values, their types, and the qubits in them.
use Rattle.std.proofs.Common.{◌≡◌, ◌⊎◌, inl, inr, ℕ, zero, suc, ◌+◌, Bool, true, false, ◌||◌, List, [], ◌∷◌, ◌++◌, length, Option, Some, None, refl, sym, ap, ap₂, ◌∙◌, subst, arith}
use Rattle.std.specs.Prelude.{slice_get}
use Rattle.hg_ops.specs.GraphType as type
use Rattle.hg_ops.specs.GraphType.{GraphType, Row, Rows, no_types, next, no_rows, next_row, types, row_of, rows_of, sum_type, is_linear, row_linear, rows_linear}
use Rattle.hg_ops.specs.Op.{Types}
use Rattle.gp_base.specs.Membership.{In}
use Rattle.hg_graph.specs.Value.{Value, Int, Qubit, Variant, Function, Values, no_values, value, values, packed, Functions, row_at, HasType, HasRow, HaveTypes, uses, uses_packed, uses_all}
use Rattle.hg_laws.proofs.Lists.{ports, ports-suc, ports-zero}

pub or_false : (a b : Bool) → (a || b) ≡ false → (a ≡ false) × (b ≡ false)
or_false false b e = (refl, e)
or_false true b e = absurd cc

pub types-row_of : (ts : Types) → types (row_of ts) ≡ ts
types-row_of [] = refl
types-row_of (t ∷ ts) = ap (λ l. t ∷ l) (types-row_of ts)

-- row k of a Sum of listed rows
pub row_at_list : (rows : List Types) (k : ℕ) (ts : Types) → slice_get rows k ≡ Some ts → row_at (rows_of rows) k ≡ Some (row_of ts)
row_at_list [] k ts e = absurd cc
row_at_list (r ∷ rows) zero ts e = ap Some (ap row_of (is r ts e))
  where
    is : (a b : Types) → Some a ≡ Some b → a ≡ b
    is a b q = cc
row_at_list (r ∷ rows) (suc k) ts e = row_at_list rows k ts e

pub list_at_row : (rows : List Types) (k : ℕ) (r : Row) → row_at (rows_of rows) k ≡ Some r → slice_get rows k ≡ Some (types r)
list_at_row [] k r e = absurd cc
list_at_row (ts ∷ rows) zero r e = ap Some (sym (types-row_of ts) ∙ ap types (is (row_of ts) r e))
  where
    is : (a b : Row) → Some a ≡ Some b → a ≡ b
    is a b q = cc
list_at_row (ts ∷ rows) (suc k) r e = list_at_row rows k r e

option_cases : {A : Type 0} (o : Option A) → (o ≡ None) ⊎ ((a : A) × (o ≡ Some a))
option_cases None = inl refl
option_cases (Some a) = inr (a, refl)

module _ (F : Functions) where
  pub has_at : (vs : List Value) (ts : Types) → HaveTypes F vs ts → (p : ℕ) (t : GraphType) → slice_get ts p ≡ Some t → (v : Value) × (slice_get vs p ≡ Some v) × HasType F v t
  has_at [] [] h p t e = absurd cc
  has_at [] (u ∷ ts) h p t e = absurd h
  has_at (v ∷ vs) [] h p t e = absurd h
  has_at (v ∷ vs) (u ∷ ts) h zero t e = (v, refl, subst (HasType F v) (some_is u t e) h.0)
    where
      some_is : (a b : GraphType) → Some a ≡ Some b → a ≡ b
      some_is a b q = cc
  has_at (v ∷ vs) (u ∷ ts) h (suc p) t e = has_at vs ts h.1 p t e

  pub have_length : (vs : List Value) (ts : Types) → HaveTypes F vs ts → length vs ≡ length ts
  have_length [] [] h = refl
  have_length [] (t ∷ ts) h = absurd h
  have_length (v ∷ vs) [] h = absurd h
  have_length (v ∷ vs) (t ∷ ts) h = ap suc (have_length vs ts h.1)

  pub have-append : (us vs : List Value) (ts ss : Types) → HaveTypes F us ts → HaveTypes F vs ss → HaveTypes F (us ++ vs) (ts ++ ss)
  have-append [] vs [] ss a b = b
  have-append [] vs (t ∷ ts) ss a b = absurd a
  have-append (u ∷ us) vs [] ss a b = absurd a
  have-append (u ∷ us) vs (t ∷ ts) ss a b = (a.0, have-append us vs ts ss a.1 b)

  pub row_have : (vs : Values) (r : Row) → HasRow F vs (Some r) → HaveTypes F (values vs) (types r)
  row_have no_values no_types h = tt
  row_have no_values (next t r) h = absurd h
  row_have (value v vs) no_types h = absurd h
  row_have (value v vs) (next t r) h = (h.0, row_have vs r h.1)

  pub have_row : (vs : List Value) (ts : Types) → HaveTypes F vs ts → HasRow F (packed vs) (Some (row_of ts))
  have_row [] [] h = tt
  have_row [] (t ∷ ts) h = absurd h
  have_row (v ∷ vs) [] h = absurd h
  have_row (v ∷ vs) (t ∷ ts) h = (h.0, have_row vs ts h.1)

  pub no_row : (vs : Values) → HasRow F vs None → ⊥
  no_row no_values h = h
  no_row (value v vs) h = h

  -- a variant of a Sum has its row
  pub variant_row : (rows : List Types) (k : ℕ) (us : Values) → HasRow F us (row_at (rows_of rows) k) → (ts : Types) × (slice_get rows k ≡ Some ts) × HaveTypes F (values us) ts
  variant_row rows k us h = go (row_at (rows_of rows) k) refl h
    where
      go : (o : Option Row) → row_at (rows_of rows) k ≡ o → HasRow F us o → (ts : Types) × (slice_get rows k ≡ Some ts) × HaveTypes F (values us) ts
      go None e x = absurd (no_row us x)
      go (Some r) e x = (types r, list_at_row rows k r e, row_have us r x)

  -- a variant with the values of its row
  pub row_variant : (rows : List Types) (k : ℕ) (vs : List Value) (ts : Types) → slice_get rows k ≡ Some ts → HaveTypes F vs ts → HasType F (Variant k (packed vs)) (sum_type rows)
  row_variant rows k vs ts e h = subst (HasRow F (packed vs)) (sym (row_at_list rows k ts e)) (have_row vs ts h)

pub uses-packed : (q : ℕ) (vs : List Value) → uses_packed q (packed vs) ≡ uses_all q vs
uses-packed q [] = refl
uses-packed q (v ∷ vs) = ap (λ n. uses q v + n) (uses-packed q vs)

pub uses-values : (q : ℕ) (vs : Values) → uses_all q (values vs) ≡ uses_packed q vs
uses-values q no_values = refl
uses-values q (value v vs) = ap (λ n. uses q v + n) (uses-values q vs)

pub uses-append : (q : ℕ) (us vs : List Value) → uses_all q (us ++ vs) ≡ uses_all q us + uses_all q vs
uses-append q [] vs = omega arith
uses-append q (u ∷ us) vs = let r = uses-append q us vs in omega arith

rows_false : (rs : Rows) (k : ℕ) (r : Row) → row_at rs k ≡ Some r → rows_linear rs ≡ false → row_linear r ≡ false
rows_false no_rows k r e l = absurd cc
rows_false (next_row s rs) zero r e l = ap row_linear (sym (is s r e)) ∙ (or_false (row_linear s) (rows_linear rs) l).0
  where
    is : (a b : Row) → Some a ≡ Some b → a ≡ b
    is a b q = cc
rows_false (next_row s rs) (suc k) r e l = rows_false rs k r e (or_false (row_linear s) (rows_linear rs) l).1

module _ (F : Functions) where
  mutual
    -- a value of a copyable type has no qubit
    pub copyable_uses : (q : ℕ) (v : Value) (t : GraphType) → HasType F v t → is_linear t ≡ false → uses q v ≡ 0
    copyable_uses q (Int n) t h l = refl
    copyable_uses q (Qubit p) type.Int h l = absurd h
    copyable_uses q (Qubit p) type.Qubit h l = absurd cc
    copyable_uses q (Qubit p) (type.Sum rs) h l = absurd h
    copyable_uses q (Qubit p) (type.Function i o) h l = absurd h
    copyable_uses q (Function name) t h l = refl
    copyable_uses q (Variant k vs) (type.Function i o) h l = absurd h
    copyable_uses q (Variant k vs) type.Int h l = absurd h
    copyable_uses q (Variant k vs) type.Qubit h l = absurd h
    copyable_uses q (Variant k vs) (type.Sum rs) h l =
        elim (option_cases (row_at rs k)) [
          | inl e ↦ absurd (no_row F vs (subst (HasRow F vs) e h))
          | inr r ↦ copyable_packed q vs r.0 (subst (HasRow F vs) r.1 h) (rows_false rs k r.0 r.1 l)
        ]

    copyable_packed : (q : ℕ) (vs : Values) (r : Row) → HasRow F vs (Some r) → row_linear r ≡ false → uses_packed q vs ≡ 0
    copyable_packed q no_values r h l = refl
    copyable_packed q (value v vs) no_types h l = absurd h
    copyable_packed q (value v vs) (next t r) h l =
        let both = or_false (is_linear t) (row_linear r) l in
        let a = copyable_uses q v t h.0 both.0 in
        let b = copyable_packed q vs r h.1 both.1 in
        omega arith

  -- a list of copyable values has none
  pub no_qubits : (q : ℕ) (vs : List Value) (ts : Types) → HaveTypes F vs ts → ((t : GraphType) → In t ts → is_linear t ≡ false) → uses_all q vs ≡ 0
  no_qubits q [] ts h l = refl
  no_qubits q (v ∷ vs) [] h l = absurd h
  no_qubits q (v ∷ vs) (t ∷ ts) h l =
      let x = copyable_uses q v t h.0 (l t (inl refl)) in
      let y = no_qubits q vs ts h.1 (λ u i. l u (inr i)) in
      omega arith

abbrev pub uses_option : ℕ → Option Value → ℕ
uses_option q None = 0
uses_option q (Some v) = uses q v

-- the qubits in a list, port by port
ports_from : (q : ℕ) (us : List Value) (a : ℕ) (f : ℕ → ℕ) → ((j : ℕ) → f (a + j) ≡ uses_option q (slice_get us j)) → ports f a (length us) ≡ uses_all q us
ports_from q [] a f e = ports-zero f a
ports_from q (u ∷ us) a f e =
    let z : a ≡ a + 0 = omega arith in
    let s : (j : ℕ) → suc a + j ≡ a + suc j = λ j. omega arith in
    ports-suc f a (length us) ∙ ap₂ ◌+◌ (ap f z ∙ e 0) (ports_from q us (suc a) f (λ j. ap f (s j) ∙ e (suc j)))

pub uses_ports : (q : ℕ) (vs : List Value) → ports (λ j. uses_option q (slice_get vs j)) 0 (length vs) ≡ uses_all q vs
uses_ports q vs = ports_from q vs 0 (λ j. uses_option q (slice_get vs j)) (λ j. let e : 0 + j ≡ j = omega arith in ap (λ m. uses_option q (slice_get vs m)) e)
