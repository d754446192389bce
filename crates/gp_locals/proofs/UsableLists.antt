-- What lists of usable names say of their environments.
use Rattle.std.proofs.Common.{◌≡◌, ℕ, zero, suc, ◌+◌, ◌-◌, ◌<◌, ◌≤◌, Bool, true, false, ◌&&◌, cond, List, [], ◌∷◌, ◌++◌, length, drop, map, filter, get_or, refl, sym, ap, ◌∙◌, subst, Option, Some, None, Result, Ok, Err, not, min, ◌^◌, arith, append-nil, append_assoc, inl, inr}
use Rattle.std.proofs.lemmas.Bool.{false≢true, cases_lt, lt-leb, le-leb, lt-ltb, le-ltb, eq-eqb, ne_eqb}
use Rattle.std.specs.Prelude.{slice_set, slice_get, ltb, leb, eqb, OnOk, OnErr}
use Rattle.std.proofs.lemmas.List.{map-set}
use Rattle.std.specs.List.{list_all, insert}
use Rattle.gp_types.specs.Types.{Ty}
use Rattle.gp_types.specs.Same.{same_type}
use Rattle.gp_types.specs.Size.{size}
use Rattle.gp_locals.specs.Environment.{Names, Environment, NameType, nothing_usable, common, join, is_kept, keeps, total_size, usable}
use Rattle.gp_locals.specs.code.Usable.{UsableName, at_position, usable_from, spread, IsListed, type_among, count_below, stands_at, put_among, is_kept_among, sizes, with_name_at, by_names}

plus_zero : (k : ℕ) → k + 0 ≡ k
plus_zero k = omega arith

zero_plus : (i : ℕ) → i ≡ 0 + i
zero_plus i = omega arith

plus_suc : (k i : ℕ) → k + suc i ≡ suc k + i
plus_suc k i = omega arith

-- ---- positions

-- no position is below k
abbrev From : ℕ → List UsableName → Type 0
From k [] = Unit {0}
From k (u ∷ us) = (k ≤ u.position) × From k us

from_less : (j k : ℕ) (us : List UsableName) → j ≤ k → From k us → From j us
from_less j k [] h f = tt
from_less j k (u ∷ us) h f = let p : k ≤ u.position = f.0 in (omega arith, from_less j k us h f.1)

from_usable : (k : ℕ) (e : Environment) → From k (usable_from k e)
from_usable k [] = tt
from_usable k (None ∷ e) = from_less k (suc k) (usable_from (suc k) e) (omega arith) (from_usable (suc k) e)
from_usable k (Some ty ∷ e) = (omega arith, from_less k (suc k) (usable_from (suc k) e) (omega arith) (from_usable (suc k) e))

-- ---- the environment of a list

spread_none : (k n : ℕ) (us : List UsableName) → From (suc k) us → spread k (suc n) us ≡ None ∷ spread (suc k) n us
spread_none k n [] f = refl
spread_none k n (u ∷ us) f = let p : suc k ≤ u.position = f.0 in rw (lt-ltb k u.position (omega arith)) refl

spread_usable : (k : ℕ) (e : Environment) → spread k (length e) (usable_from k e) ≡ e
spread_usable k [] = refl
spread_usable k (None ∷ e) =
    spread_none k (length e) (usable_from (suc k) e) (from_usable (suc k) e) ∙ ap (λ (x : Environment). None ∷ x) (spread_usable (suc k) e)
spread_usable k (Some ty ∷ e) = rw (le-ltb k k (omega arith)) (ap (λ (x : Environment). Some ty ∷ x) (spread_usable (suc k) e))

length_spread : (k n : ℕ) (us : List UsableName) → length (spread k n us) ≡ n
length_spread k zero us = refl
length_spread k (suc n) [] = ap suc (length_spread (suc k) n [])
length_spread k (suc n) (u ∷ us) = go (ltb k u.position) (length_spread (suc k) n (u ∷ us)) (length_spread (suc k) n us) where
  go : (b : Bool) → length (spread (suc k) n (u ∷ us)) ≡ n → length (spread (suc k) n us) ≡ n
      → length (cond b (None ∷ spread (suc k) n (u ∷ us)) (Some u.ty ∷ spread (suc k) n us)) ≡ suc n
  go true h l = ap suc h
  go false h l = ap suc l

-- a list is that of an environment
pub record Lists (n : ℕ) (us : List UsableName) (e : Environment) : Type 0 where
  pub as_many : length e ≡ n
  pub are : us ≡ usable_from 0 e

pub lists : (n : ℕ) (us : List UsableName) (e : Environment) → spread 0 n us ≡ e → IsListed n us → Lists n us e
lists n us e v i = record {
  as_many = ap length (sym v) ∙ length_spread 0 n us;
  are = sym i ∙ ap (usable_from 0) v;
}

pub view_of : (n : ℕ) (us : List UsableName) (e : Environment) → Lists n us e → spread 0 n us ≡ e
view_of n us e l = ap (λ (m : ℕ). spread 0 m us) (sym l.as_many) ∙ ap (spread 0 (length e)) l.are ∙ spread_usable 0 e

pub is_listed : (n : ℕ) (us : List UsableName) (e : Environment) → Lists n us e → IsListed n us
is_listed n us e l = ap (usable_from 0) (view_of n us e l) ∙ sym l.are

-- ---- nothing usable

usable_nothing : (k : ℕ) (names : Names) → usable_from k (nothing_usable names) ≡ []
usable_nothing k [] = refl
usable_nothing k (name ∷ names) = usable_nothing (suc k) names

length_nothing : (names : Names) → length (nothing_usable names) ≡ length names
length_nothing [] = refl
length_nothing (name ∷ names) = ap suc (length_nothing names)

pub lists_new : (xs names : Names) (us : List UsableName) → xs ≡ names → us ≡ []
    → Lists (length xs) us (nothing_usable names)
lists_new xs names us h e = record {
  as_many = length_nothing names ∙ ap length (sym h);
  are = e ∙ sym (usable_nothing 0 names);
}

-- ---- the type of a name

type_below : (p k : ℕ) (us : List UsableName) → p < k → From k us → type_among p us ≡ None
type_below p k [] h f = refl
type_below p k (u ∷ us) h f =
    let q : k ≤ u.position = f.0 in rw (ne_eqb u.position p (λ e. absurd (omega arith))) (type_below p k us h f.1)

type_from : (k i : ℕ) (e : Environment) → type_among (k + i) (usable_from k e) ≡ get_or e i None
type_from k i [] = refl
type_from k zero (None ∷ e) = type_below (k + 0) (suc k) (usable_from (suc k) e) (omega arith) (from_usable (suc k) e)
type_from k zero (Some ty ∷ e) = rw (eq-eqb k (k + 0) (omega arith)) refl
type_from k (suc i) (None ∷ e) = ap (λ p. type_among p (usable_from (suc k) e)) (omega arith) ∙ type_from (suc k) i e
type_from k (suc i) (Some ty ∷ e) =
    rw (ne_eqb k (k + suc i) (λ e. absurd (omega arith))) (ap (λ p. type_among p (usable_from (suc k) e)) (omega arith) ∙ type_from (suc k) i e)

pub type_is : (n i : ℕ) (us : List UsableName) (e : Environment) → Lists n us e → type_among i us ≡ get_or e i None
type_is n i us e l = ap (type_among i) l.are ∙ ap (λ p. type_among p (usable_from 0 e)) (zero_plus i) ∙ type_from 0 i e

-- ---- a name gets a type

put_above : (k : ℕ) (ty : Ty) (us : List UsableName) → From (suc k) us → put_among k ty us ≡ record { position = k; ty = ty } ∷ us
put_above k ty [] f = refl
put_above k ty (u ∷ us) f =
    let p : suc k ≤ u.position = f.0 in rw (le-ltb u.position k (omega arith), ne_eqb u.position k (λ e. absurd (omega arith))) refl

put_from : (k i : ℕ) (ty : Ty) (e : Environment) → i < length e → put_among (k + i) ty (usable_from k e) ≡ usable_from k (slice_set e i (Some ty))
put_from k i ty [] h = absurd (omega (arith, h))
put_from k zero ty (None ∷ e) h =
    ap (λ p. put_among p ty (usable_from (suc k) e)) (plus_zero k) ∙ put_above k ty (usable_from (suc k) e) (from_usable (suc k) e)
put_from k zero ty (Some t ∷ e) h =
    ap (λ p. put_among p ty (usable_from k (Some t ∷ e))) (plus_zero k) ∙ rw (le-ltb k k (omega arith), eq-eqb k k refl) refl
put_from k (suc i) ty (None ∷ e) h = ap (λ p. put_among p ty (usable_from (suc k) e)) (plus_suc k i) ∙ put_from (suc k) i ty e (omega (arith, h))
put_from k (suc i) ty (Some t ∷ e) h =
    rw (lt-ltb k (k + suc i) (omega arith))
    (ap (λ (us : List UsableName). record { position = k; ty = t } ∷ us) (ap (λ p. put_among p ty (usable_from (suc k) e)) (plus_suc k i) ∙ put_from (suc k) i ty e (omega (arith, h))))

length_put : (i : ℕ) (ty : Ty) (e : Environment) → length (slice_set e i (Some ty)) ≡ length e
length_put i ty [] = refl
length_put zero ty (t ∷ e) = refl
length_put (suc i) ty (t ∷ e) = ap suc (length_put i ty e)

pub lists_put : (n i : ℕ) (ty : Ty) (us : List UsableName) (e : Environment) → Lists n us e → i < n → Lists n (put_among i ty us) (slice_set e i (Some ty))
lists_put n i ty us e l h = record {
  as_many = length_put i ty e ∙ l.as_many;
  are = ap (put_among i ty) l.are ∙ ap (λ p. put_among p ty (usable_from 0 e)) (zero_plus i) ∙ put_from 0 i ty e (subst (λ m. i < m) (sym l.as_many) h);
}

pub put_outside : (n i : ℕ) (ty : Ty) (us : List UsableName) (e : Environment) → Lists n us e → n ≤ i → slice_set e i (Some ty) ≡ e
put_outside n i ty us e l h = go e i (subst (λ m. m ≤ i) (sym l.as_many) h) where
  go : (e : Environment) (i : ℕ) → length e ≤ i → slice_set e i (Some ty) ≡ e
  go [] i h = refl
  go (t ∷ e) zero h = absurd (omega (arith, h))
  go (t ∷ e) (suc i) h = ap (λ (x : Environment). t ∷ x) (go e i (omega (arith, h)))

-- a name that has this type already
pub put_given : (n i : ℕ) (ty : Ty) (us : List UsableName) (e : Environment) → Lists n us e → i < n → put_among i ty us ≡ us
    → slice_set e i (Some ty) ≡ e
put_given n i ty us e l h same =
    sym (view_of n (put_among i ty us) (slice_set e i (Some ty)) (lists_put n i ty us e l h)) ∙ ap (spread 0 n) same ∙ view_of n us e l

-- ---- the same types on another path

keeps_step : (ty : Option Ty) (e o : Environment) (k : ℕ) → keeps (ty ∷ e) (drop k o) ≡ (is_kept ty (get_or o k None) && keeps e (drop (suc k) o))
keeps_step ty e [] zero = refl
keeps_step ty e (x ∷ o) zero = refl
keeps_step ty e [] (suc k) = refl
keeps_step ty e (x ∷ o) (suc k) = keeps_step ty e o k

join_step : (ty : Option Ty) (e o : Environment) (k : ℕ) → join (ty ∷ e) (drop k o) ≡ common ty (get_or o k None) ∷ join e (drop (suc k) o)
join_step None e [] zero = refl
join_step (Some ty) e [] zero = refl
join_step ty e (x ∷ o) zero = refl
join_step None e [] (suc k) = refl
join_step (Some ty) e [] (suc k) = refl
join_step ty e (x ∷ o) (suc k) = join_step ty e o k

module _ (n : ℕ) (vs : List UsableName) (o : Environment) (others : Lists n vs o) where
  kept_is : (u : UsableName) → is_kept_among vs u ≡ is_kept (Some u.ty) (get_or o u.position None)
  kept_is u = ap (is_kept (Some u.ty)) (type_is n u.position vs o others)

  keeps_from : (k : ℕ) (e : Environment) → list_all (is_kept_among vs) (usable_from k e) ≡ keeps e (drop k o)
  keeps_from k [] = refl
  keeps_from k (None ∷ e) = keeps_from (suc k) e ∙ sym (keeps_step None e o k)
  keeps_from k (Some ty ∷ e) =
      rw (kept_is (record { position = k; ty = ty }), keeps_from (suc k) e) (sym (keeps_step (Some ty) e o k))

  pub keeps_is : (m : ℕ) (us : List UsableName) (e : Environment) → Lists m us e → list_all (is_kept_among vs) us ≡ keeps e o
  keeps_is m us e l = ap (list_all (is_kept_among vs)) l.are ∙ keeps_from 0 e

  join_from : (k : ℕ) (e : Environment) → filter (is_kept_among vs) (usable_from k e) ≡ usable_from k (join e (drop k o))
  join_from k [] = refl
  join_from k (None ∷ e) = join_from (suc k) e ∙ ap (usable_from k) (sym (join_step None e o k))
  join_from k (Some ty ∷ e) =
      ap (λ (b : Bool). cond b (record { position = k; ty = ty } ∷ filter (is_kept_among vs) (usable_from (suc k) e)) (filter (is_kept_among vs) (usable_from (suc k) e))) (kept_is (record { position = k; ty = ty }))
      ∙ go (join_from (suc k) e) (get_or o k None)
      ∙ ap (usable_from k) (sym (join_step (Some ty) e o k))
    where
      go : filter (is_kept_among vs) (usable_from (suc k) e) ≡ usable_from (suc k) (join e (drop (suc k) o)) → (x : Option Ty)
          → cond (is_kept (Some ty) x) (record { position = k; ty = ty } ∷ filter (is_kept_among vs) (usable_from (suc k) e)) (filter (is_kept_among vs) (usable_from (suc k) e))
          ≡ usable_from k (common (Some ty) x ∷ join e (drop (suc k) o))
      go h None = h
      go h (Some other) = same (same_type ty other) where
        same : (b : Bool)
            → cond b (record { position = k; ty = ty } ∷ filter (is_kept_among vs) (usable_from (suc k) e)) (filter (is_kept_among vs) (usable_from (suc k) e))
            ≡ usable_from k (cond b (Some ty) None ∷ join e (drop (suc k) o))
        same true = ap (λ (us : List UsableName). record { position = k; ty = ty } ∷ us) h
        same false = h

  pub lists_join : (m : ℕ) (us : List UsableName) (e : Environment) → Lists m us e → Lists m (filter (is_kept_among vs) us) (join e o)
  lists_join m us e l = record {
    as_many = go e o ∙ l.as_many;
    are = ap (filter (is_kept_among vs)) l.are ∙ join_from 0 e;
  } where
    go : (e o : Environment) → length (join e o) ≡ length e
    go [] o = refl
    go (t ∷ e) [] = ap suc (go e [])
    go (t ∷ e) (x ∷ o) = ap suc (go e o)

-- ---- sizes

sizes_from : (k : ℕ) (e : Environment) → sizes (usable_from k e) ≡ total_size e
sizes_from k [] = refl
sizes_from k (None ∷ e) = let h = sizes_from (suc k) e in omega arith
sizes_from k (Some ty ∷ e) = ap (λ (n : ℕ). size ty + n) (sizes_from (suc k) e)

pub sizes_are : (n : ℕ) (us : List UsableName) (e : Environment) → Lists n us e → sizes us ≡ total_size e
sizes_are n us e l = ap sizes l.are ∙ sizes_from 0 e

-- ---- names

unusable_step : (e : Environment) (names : Names) (k : ℕ) → usable (drop k names) (None ∷ e) ≡ usable (drop (suc k) names) e
unusable_step e [] zero = refl
unusable_step e (name ∷ names) zero = refl
unusable_step e [] (suc k) = refl
unusable_step e (name ∷ names) (suc k) = unusable_step e names k

usable_step : (ty : Ty) (e : Environment) (names : Names) (k : ℕ)
    → usable (drop k names) (Some ty ∷ e) ≡ with_name_at (slice_get names k) ty (usable (drop (suc k) names) e)
usable_step ty e [] zero = refl
usable_step ty e (name ∷ names) zero = refl
usable_step ty e [] (suc k) = refl
usable_step ty e (name ∷ names) (suc k) = usable_step ty e names k

names_from : (names : Names) (k : ℕ) (e : Environment) → by_names names (usable_from k e) ≡ usable (drop k names) e
names_from names k [] = sym (nothing (drop k names)) where
  nothing : (names : Names) → usable names [] ≡ []
  nothing [] = refl
  nothing (name ∷ names) = refl
names_from names k (None ∷ e) = names_from names (suc k) e ∙ sym (unusable_step e names k)
names_from names k (Some ty ∷ e) = ap (with_name_at (slice_get names k) ty) (names_from names (suc k) e) ∙ sym (usable_step ty e names k)

pub names_are : (names : Names) (n : ℕ) (us : List UsableName) (e : Environment) → Lists n us e → by_names names us ≡ usable names e
names_are names n us e l = ap (by_names names) l.are ∙ names_from names 0 e

-- ---- where a name is put

pub count_within : (p : ℕ) (us : List UsableName) → count_below p us ≤ length us
count_within p [] = omega arith
count_within p (u ∷ us) = go (ltb u.position p) (count_within p us) where
  go : (b : Bool) → count_below p us ≤ length us → cond b (suc (count_below p us)) 0 ≤ suc (length us)
  go true h = omega (arith, h)
  go false h = omega arith

pub stands_within : (p i : ℕ) (us : List UsableName) → stands_at p (slice_get us i) ≡ true → i < length us
stands_within p i [] h = absurd (false≢true h)
stands_within p zero (u ∷ us) h = omega arith
stands_within p (suc i) (u ∷ us) h = let l = stands_within p i us h in omega arith

-- the name is there, and gets another type
pub put_there : (p : ℕ) (ty : Ty) (us : List UsableName) → stands_at p (slice_get us (count_below p us)) ≡ true
    → put_among p ty us ≡ slice_set us (count_below p us) (record { position = p; ty = ty })
put_there p ty [] h = absurd (false≢true h)
put_there p ty (u ∷ us) h = go (put_there p ty us) (ltb u.position p) h where
  go : (stands_at p (slice_get us (count_below p us)) ≡ true → put_among p ty us ≡ slice_set us (count_below p us) (record { position = p; ty = ty })) → (b : Bool)
      → stands_at p (slice_get (u ∷ us) (cond b (suc (count_below p us)) 0)) ≡ true
      → cond b (u ∷ put_among p ty us) (cond (eqb u.position p) (record { position = p; ty = ty } ∷ us) (record { position = p; ty = ty } ∷ u ∷ us))
      ≡ slice_set (u ∷ us) (cond b (suc (count_below p us)) 0) (record { position = p; ty = ty })
  go r true h = ap (λ (us : List UsableName). u ∷ us) (r h)
  go r false h = rw h refl

-- the name isn't there
pub put_new : (p : ℕ) (ty : Ty) (us : List UsableName) → stands_at p (slice_get us (count_below p us)) ≡ false
    → put_among p ty us ≡ insert us (count_below p us) (record { position = p; ty = ty })
put_new p ty [] h = refl
put_new p ty (u ∷ us) h = go (put_new p ty us) (ltb u.position p) h where
  go : (stands_at p (slice_get us (count_below p us)) ≡ false → put_among p ty us ≡ insert us (count_below p us) (record { position = p; ty = ty })) → (b : Bool)
      → stands_at p (slice_get (u ∷ us) (cond b (suc (count_below p us)) 0)) ≡ false
      → cond b (u ∷ put_among p ty us) (cond (eqb u.position p) (record { position = p; ty = ty } ∷ us) (record { position = p; ty = ty } ∷ u ∷ us))
      ≡ insert (u ∷ us) (cond b (suc (count_below p us)) 0) (record { position = p; ty = ty })
  go r true h = ap (λ (us : List UsableName). u ∷ us) (r h)
  go r false h = rw h refl

-- the name is there with this type, so that nothing changes
abbrev which : UsableName → Option UsableName → UsableName
which u None = u
which u (Some v) = v

pub put_same : (p : ℕ) (ty : Ty) (us : List UsableName) → slice_get us (count_below p us) ≡ Some (at_position p ty) → put_among p ty us ≡ us
put_same p ty [] h = cc
put_same p ty (u ∷ us) h = go (put_same p ty us) (ltb u.position p) h where
  go : (slice_get us (count_below p us) ≡ Some (at_position p ty) → put_among p ty us ≡ us) → (b : Bool)
      → slice_get (u ∷ us) (cond b (suc (count_below p us)) 0) ≡ Some (at_position p ty)
      → cond b (u ∷ put_among p ty us) (cond (eqb u.position p) (record { position = p; ty = ty } ∷ us) (record { position = p; ty = ty } ∷ u ∷ us)) ≡ u ∷ us
  go r true h = ap (λ (us : List UsableName). u ∷ us) (r h)
  go r false h =
      let it : u ≡ at_position p ty = ap (which u) h in
      rw (eq-eqb u.position p (ap (λ (v : UsableName). v.position) it)) (ap (λ (v : UsableName). v ∷ us) (sym it))

-- the same of lists in memory
module _ {X : Type 0} (view : X → UsableName) (xs : List X) (new : X) where
  pub set_view : (i : ℕ) → map view (slice_set xs i new) ≡ slice_set (map view xs) i (view new)
  set_view i = map-set view xs i new

  pub insert_view : (i : ℕ) → map view (insert xs i new) ≡ insert (map view xs) i (view new)
  insert_view i = go xs i where
    go : (xs : List X) (i : ℕ) → map view (insert xs i new) ≡ insert (map view xs) i (view new)
    go xs zero = refl
    go [] (suc i) = refl
    go (x ∷ xs) (suc i) = ap (λ (us : List UsableName). view x ∷ us) (go xs i)

pub with_name_append : (before : List NameType) (name : Option (List ℕ)) (ty : Ty) (rest : List NameType)
    → before ++ with_name_at name ty rest ≡ (before ++ with_name_at name ty []) ++ rest
with_name_append before None ty rest = ap (λ (xs : List NameType). xs ++ rest) (sym (append-nil before))
with_name_append before (Some name) ty rest = sym (append_assoc before (record { name = name; ty = ty } ∷ []) rest)

-- ---- whole environments in memory

pub same_list : (n : ℕ) (us vs : List UsableName) (e : Environment) → vs ≡ us → Lists n us e → Lists n vs e
same_list n us vs e h l = record { as_many = l.as_many; are = h ∙ l.are }

pub within_is : (r s t : ℕ) → r ≡ min s (2 ^ 64 - 1) → s ≡ t → leb r 128 ≡ not (ltb 128 t)
within_is r s t h k = elim (cases_lt 128 t) [
  | inl l ↦ lt-leb r 128 (omega (arith, h)) ∙ ap not (sym (lt-ltb 128 t l))
  | inr l ↦ le-leb r 128 (omega (arith, h)) ∙ ap not (sym (le-ltb 128 t l))
]

-- a name gets a type in memory, or nothing changes
module _ {X E : Type 0} (view : X → UsableName) (r : Result (Unit {0}) E) (n i : ℕ) (ty : Ty) (xs ys : List X) (e : Environment) (l : Lists n (map view xs) e) (h : i < n)
    (put : OnOk r (map view ys ≡ put_among i ty (map view xs))) where
  abbrev typed : Environment
  typed = slice_set e i (Some ty)

  typed_list : map view ys ≡ put_among i ty (map view xs) → Lists n (map view ys) typed
  typed_list p = same_list n (put_among i ty (map view xs)) (map view ys) typed p (lists_put n i ty (map view xs) e l h)

  pub put_listed : OnErr r (ys ≡ xs) → IsListed n (map view ys)
  put_listed unchanged = go r put unchanged where
    go : (r : Result (Unit {0}) E) → OnOk r (map view ys ≡ put_among i ty (map view xs)) → OnErr r (ys ≡ xs) → IsListed n (map view ys)
    go (Ok x) p u = is_listed n (map view ys) typed (typed_list p)
    go (Err x) p u = is_listed n (map view ys) e (same_list n (map view xs) (map view ys) e (ap (map view) u) l)

  pub put_viewed : OnOk r (spread 0 n (map view ys) ≡ typed)
  put_viewed = go r put where
    go : (r : Result (Unit {0}) E) → OnOk r (map view ys ≡ put_among i ty (map view xs)) → OnOk r (spread 0 n (map view ys) ≡ typed)
    go (Ok x) p = view_of n (map view ys) typed (typed_list p)
    go (Err x) p = tt
