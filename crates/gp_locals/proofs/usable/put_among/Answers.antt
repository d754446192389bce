use Rattle.std.proofs.Common.{◌≡◌, ◌∙◌, ap, sym, true, false, map}
use Rattle.std.specs.Prelude.{slice_get, slice_set}
use Rattle.std.specs.List.{insert}
use Rattle.gp_types.specs.View.{ty_view}
use Rattle.gp_locals.specs.code.Usable.{count_below, stands_at}
use Rattle.gp_locals.specs.code.UsableView.{usable_view}
use Rattle.gp_locals.proofs.UsableLists.{put_there, put_new, set_view, insert_view}
use Rattle.gp_locals.proofs.usable.put_among.Goals as goal

pub returns-then-stands_at-clause-put : goal.returns-then-stands_at-clause-put
returns-then-stands_at-clause-put c =
    set_view usable_view c.args.usable.now.items (record { position = c.args.position; ty = c.args.ty }) c.count_below-at.result
    ∙ ap (λ i. slice_set (map usable_view c.args.usable.now.items) i (record { position = c.args.position; ty = ty_view c.args.ty })) at
    ∙ sym (put_there c.args.position (ty_view c.args.ty) (map usable_view c.args.usable.now.items) there)
  where
    at : c.count_below-at.result ≡ count_below c.args.position (map usable_view c.args.usable.now.items)
    at = c.count_below-at.ensures.exact ∙ ap (λ xs. count_below c.args.position (map usable_view xs)) c.deref.ensures.value

    there : stands_at c.args.position (slice_get (map usable_view c.args.usable.now.items) (count_below c.args.position (map usable_view c.args.usable.now.items))) ≡ true
    there =
        ap (λ i. stands_at c.args.position (slice_get (map usable_view c.args.usable.now.items) i)) (sym at)
        ∙ ap (λ xs. stands_at c.args.position (slice_get (map usable_view xs) c.count_below-at.result)) (sym c.deref-2.ensures.value)
        ∙ sym c.stands_at.ensures ∙ c.if-stands_at.true

pub returns-in_ok-insert-clause-put : goal.returns-in_ok-insert-clause-put
returns-in_ok-insert-clause-put c =
    ap (map usable_view) c.in_ok-insert.ensures.items
    ∙ insert_view usable_view c.args.usable.now.items (record { position = c.args.position; ty = c.args.ty }) c.count_below-at.result
    ∙ ap (λ i. insert (map usable_view c.args.usable.now.items) i (record { position = c.args.position; ty = ty_view c.args.ty })) at
    ∙ sym (put_new c.args.position (ty_view c.args.ty) (map usable_view c.args.usable.now.items) there)
  where
    at : c.count_below-at.result ≡ count_below c.args.position (map usable_view c.args.usable.now.items)
    at = c.count_below-at.ensures.exact ∙ ap (λ xs. count_below c.args.position (map usable_view xs)) c.deref.ensures.value

    there : stands_at c.args.position (slice_get (map usable_view c.args.usable.now.items) (count_below c.args.position (map usable_view c.args.usable.now.items))) ≡ false
    there =
        ap (λ i. stands_at c.args.position (slice_get (map usable_view c.args.usable.now.items) i)) (sym at)
        ∙ ap (λ xs. stands_at c.args.position (slice_get (map usable_view xs) c.count_below-at.result)) (sym c.deref-2.ensures.value)
        ∙ sym c.stands_at.ensures ∙ c.if-stands_at.false
