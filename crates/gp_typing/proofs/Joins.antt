-- How paths join: in any grouping.
use Rattle.std.proofs.Common.{◌≡◌, ℕ, Bool, true, false, ◌&&◌, cond, List, [], ◌∷◌, Option, Some, None, refl, sym, ap, ◌∙◌, bytes_eq}
use Rattle.std.proofs.lemmas.Bool.{false≢true}
use Rattle.std.proofs.lemmas.Slice.Eq.{bytes_eq-Decides}
use Rattle.gp_types.specs.Types as types
use Rattle.gp_types.specs.declared.mode.Mode.{Mode}
use Rattle.gp_types.specs.declared.mode.Mode.TheVariants.{Borrowed, Owned, Copied}
use Rattle.gp_types.specs.Types.{Ty, Tys, FunParams, Answer}
use Rattle.gp_types.specs.Same.{same_mode, same_type, same_types, same_params, same_answers}
use Rattle.gp_locals.specs.Environment.{Environment, common, join, join_reached}
use Rattle.gp_typing.specs.Statements.{Ends, after, goes_on}

bytes_eq-along : (n o p : List ℕ) → bytes_eq n o ≡ true → bytes_eq n p ≡ bytes_eq o p
bytes_eq-along n o p h = ap (λ (x : List ℕ). bytes_eq x p) ((bytes_eq-Decides n o).0 h)

both_true : (a b : Bool) → (a && b) ≡ true → (a ≡ true) × (b ≡ true)
both_true true b h = (refl, h)
both_true false b h = absurd (false≢true h)

mode-along : (m n o : Mode) → same_mode m n ≡ true → same_mode m o ≡ same_mode n o
mode-along Borrowed Borrowed o h = refl
mode-along Owned Owned o h = refl
mode-along Copied Copied o h = refl
mode-along _ _ o h = absurd (false≢true h)

-- equal types are equal to the same types
mutual
  same-along : (t u v : Ty) → same_type t u ≡ true → same_type t v ≡ same_type u v
  same-along types.Int types.Int v h = refl
  same-along types.Bool types.Bool v h = refl
  same-along types.Qubit types.Qubit v h = refl
  same-along (types.Tuple items) (types.Tuple others) (types.Tuple thirds) h = sames-along items others thirds h
  same-along (types.Tuple items) (types.Tuple others) types.Int h = refl
  same-along (types.Tuple items) (types.Tuple others) types.Bool h = refl
  same-along (types.Tuple items) (types.Tuple others) types.Qubit h = refl
  same-along (types.Tuple items) (types.Tuple others) (types.Struct name fields) h = refl
  same-along (types.Tuple items) (types.Tuple others) (types.Function ps r) h = refl
  same-along (types.Struct n fs) (types.Struct o gs) (types.Struct p hs) h = bytes_eq-along n o p h
  same-along (types.Struct n fs) (types.Struct o gs) types.Int h = refl
  same-along (types.Struct n fs) (types.Struct o gs) types.Bool h = refl
  same-along (types.Struct n fs) (types.Struct o gs) types.Qubit h = refl
  same-along (types.Struct n fs) (types.Struct o gs) (types.Tuple thirds) h = refl
  same-along (types.Struct n fs) (types.Struct o gs) (types.Function ps r) h = refl
  same-along (types.Function ps r) (types.Function qs s) types.Int h = refl
  same-along (types.Function ps r) (types.Function qs s) types.Bool h = refl
  same-along (types.Function ps r) (types.Function qs s) types.Qubit h = refl
  same-along (types.Function ps r) (types.Function qs s) (types.Tuple thirds) h = refl
  same-along (types.Function ps r) (types.Function qs s) (types.Struct name fields) h = refl
  same-along (types.Function ps r) (types.Function qs s) (types.Function us w) h =
      let p = both_true (same_params ps qs) (same_answers r s) h in
      ap (λ (b : Bool). b && same_answers r w) (params-along ps qs us p.0) ∙ ap (λ (b : Bool). same_params qs us && b) (answers-along r s w p.1)
  same-along _ _ v h = absurd (false≢true h)

  sames-along : (ts us vs : Tys) → same_types ts us ≡ true → same_types ts vs ≡ same_types us vs
  sames-along types.none types.none vs h = refl
  sames-along (types.more t ts) (types.more u us) types.none h = refl
  sames-along (types.more t ts) (types.more u us) (types.more v vs) h =
      let p = both_true (same_type t u) (same_types ts us) h in
      ap (λ (b : Bool). b && same_types ts vs) (same-along t u v p.0) ∙ ap (λ (b : Bool). same_type u v && b) (sames-along ts us vs p.1)
  sames-along _ _ vs h = absurd (false≢true h)

  params-along : (ps qs us : FunParams) → same_params ps qs ≡ true → same_params ps us ≡ same_params qs us
  params-along types.no_params types.no_params us h = refl
  params-along (types.param t m ps) (types.param u n qs) types.no_params h = refl
  params-along (types.param t m ps) (types.param u n qs) (types.param v o us) h =
      let p = both_true (same_mode m n && same_type t u) (same_params ps qs) h in
      let q = both_true (same_mode m n) (same_type t u) p.0 in
      ap (λ (b : Bool). (b && same_type t v) && same_params ps us) (mode-along m n o q.0)
      ∙ ap (λ (b : Bool). (same_mode n o && b) && same_params ps us) (same-along t u v q.1)
      ∙ ap (λ (b : Bool). (same_mode n o && same_type u v) && b) (params-along ps qs us p.1)
  params-along _ _ us h = absurd (false≢true h)

  answers-along : (r s w : Answer) → same_answers r s ≡ true → same_answers r w ≡ same_answers s w
  answers-along types.no_answer types.no_answer w h = refl
  answers-along (types.answers t) (types.answers u) types.no_answer h = refl
  answers-along (types.answers t) (types.answers u) (types.answers v) h = same-along t u v h
  answers-along _ _ w h = absurd (false≢true h)

common-none : (a : Option Ty) → common a None ≡ None
common-none None = refl
common-none (Some t) = refl

common-assoc : (a b c : Option Ty) → common (common a b) c ≡ common a (common b c)
common-assoc None b c = refl
common-assoc (Some t) None c = refl
common-assoc (Some t) (Some u) None = common-none (common (Some t) (Some u))
common-assoc (Some t) (Some u) (Some v) = go (same_type t u) (same_type u v) refl refl where
  go : (p q : Bool) → same_type t u ≡ p → same_type u v ≡ q → common (cond p (Some t) None) (Some v) ≡ common (Some t) (cond q (Some u) None)
  go false false h k = refl
  go false true h k = rw h
  go true false h k = rw (same-along t u v h ∙ k)
  go true true h k = rw (same-along t u v h ∙ k, h)

join-assoc : (a b c : Environment) → join (join a b) c ≡ join a (join b c)
join-assoc [] b c = refl
join-assoc (t ∷ a) [] [] = ap (λ (e : Environment). None ∷ e) (join-assoc a [] [])
join-assoc (t ∷ a) [] (v ∷ c) = ap (λ (e : Environment). None ∷ e) (join-assoc a [] c)
join-assoc (t ∷ a) (u ∷ b) [] =
    ap (λ (e : Environment). None ∷ e) (join-assoc a b []) ∙ ap (λ (x : Option Ty). x ∷ join a (join b [])) (sym (common-none t))
join-assoc (t ∷ a) (u ∷ b) (v ∷ c) =
    ap (λ (e : Environment). common (common t u) v ∷ e) (join-assoc a b c) ∙ ap (λ (x : Option Ty). x ∷ join a (join b c)) (common-assoc t u v)

join_reached-assoc : (a b c : Option Environment) → join_reached (join_reached a b) c ≡ join_reached a (join_reached b c)
join_reached-assoc None b c = refl
join_reached-assoc (Some a) None c = refl
join_reached-assoc (Some a) (Some b) None = refl
join_reached-assoc (Some a) (Some b) (Some c) = ap (λ (e : Environment). Some e) (join-assoc a b c)

join_reached-none : (a : Option Environment) → join_reached a None ≡ a
join_reached-none None = refl
join_reached-none (Some a) = refl

pub after-assoc : (a b c : Ends) → after (after a b) c ≡ after a (after b c)
after-assoc a b c = rw (join_reached-assoc a.breaks b.breaks c.breaks, join_reached-assoc a.continues b.continues c.continues)

pub after-goes_on : (a : Ends) → after a (goes_on a.next) ≡ a
after-goes_on a = rw (join_reached-none a.breaks, join_reached-none a.continues)
