-- Places of firings.
use Rattle.std.proofs.Common.{◌≡◌, ℕ, zero, suc, ◌<◌, Bool, true, false, cond, List, [], ◌∷◌, ◌++◌, length, map, Option, Some, None, refl, sym, ap, ◌∙◌, subst, arith}
use Rattle.std.specs.Prelude.{reverse, slice_get, ◌==◌}
use Rattle.std.proofs.lemmas.List.{reverse-append, map-append, length-append}
use Rattle.std.specs.Ordering.{nat_cmp}
use Rattle.std.specs.BTreeMap.{BTreeMap, get, Updates, is_at}
use Rattle.hg_graph.specs.Run.{outs_at}
use Rattle.hg_run.specs.declared.firings.Fired.{Fired as DeclaredFired}
use Rattle.hg_run.specs.code.FiringsView.{fired_view, fired_list, outs_in, outs_there, IsWithin, ArePlaces}

pub fired_more : (fired : List DeclaredFired) (f : DeclaredFired) → fired_list (fired ++ f ∷ []) ≡ fired_view f ∷ fired_list fired
fired_more fired f = ap reverse (map-append fired_view fired (f ∷ [])) ∙ reverse-append (map fired_view fired) (fired_view f ∷ [])

get_last : (fired : List DeclaredFired) (f : DeclaredFired) → slice_get (fired ++ f ∷ []) (length fired) ≡ Some f
get_last [] f = refl
get_last (x ∷ fired) f = get_last fired f

get_before : (fired : List DeclaredFired) (f : DeclaredFired) (k : ℕ) → k < length fired → slice_get (fired ++ f ∷ []) k ≡ slice_get fired k
get_before [] f k h = absurd (omega (arith, h))
get_before (x ∷ fired) f zero h = refl
get_before (x ∷ fired) f (suc k) h = get_before fired f k (omega (arith, h))

pub is_at_eq : (n q : ℕ) → is_at (nat_cmp n) q ≡ (n == q)
is_at_eq n q = grind arith

-- one more
pub placed_more : (fired new : List DeclaredFired) (places after : BTreeMap ℕ ℕ) (f : DeclaredFired) (place : ℕ) → place ≡ length fired → new ≡ fired ++ f ∷ [] → Updates nat_cmp places after f.node.0 (Some place)
    → ArePlaces fired places → ArePlaces new after
placed_more fired new places after f place p e up are = subst (λ new. ArePlaces new after) (sym e) (record {
  within = λ n. subst (IsWithin (length (fired ++ f ∷ []))) (sym (up.0 n)) (within n (is_at (nat_cmp f.node.0) n));
  outs = λ n. ap (λ fs. outs_at fs n) (fired_more fired f) ∙ (outs n (is_at (nat_cmp f.node.0) n) (is_at_eq f.node.0 n) ∙ ap (outs_there (fired ++ f ∷ [])) (sym (up.0 n)));
})
  where
    more : (n : ℕ) (o : Option ℕ) → IsWithin (length fired) o → IsWithin (length (fired ++ f ∷ [])) o
    more n None w = tt
    more n (Some k) w = omega (arith, w, length-append fired (f ∷ []))

    within : (n : ℕ) (t : Bool) → IsWithin (length (fired ++ f ∷ [])) (cond t (Some place) (get nat_cmp places n))
    within n true = omega (arith, p, length-append fired (f ∷ []))
    within n false = more n (get nat_cmp places n) (are.within n)

    there : (o : Option ℕ) → IsWithin (length fired) o → outs_there fired o ≡ outs_there (fired ++ f ∷ []) o
    there None w = refl
    there (Some k) w = ap outs_in (sym (get_before fired f k w))

    outs : (n : ℕ) (t : Bool) → t ≡ (f.node.0 == n) → outs_at (fired_view f ∷ fired_list fired) n ≡ outs_there (fired ++ f ∷ []) (cond t (Some place) (get nat_cmp places n))
    outs n true e = ap (λ t. cond t (Some f.outs) (outs_at (fired_list fired) n)) (sym e) ∙ ap outs_in (sym (ap (slice_get (fired ++ f ∷ [])) p ∙ get_last fired f))
    outs n false e = ap (λ t. cond t (Some f.outs) (outs_at (fired_list fired) n)) (sym e) ∙ (are.outs n ∙ there (get nat_cmp places n) (are.within n))
