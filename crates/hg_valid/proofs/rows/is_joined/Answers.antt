use Rattle.std.proofs.Common.{◌≡◌, ◌++◌, ◌∙◌, length, map, refl, sym, ap, ap₂}
use Rattle.hg_ops.specs.TypeView.{type_view}
use Rattle.hg_valid.proofs.Joined.{joined, front_of, back_of, take_rest}
use Rattle.hg_valid.proofs.rows.is_joined.Goals as goal

pub returns-then-same_types : goal.returns-then-same_types
returns-then-same_types c =
    let ts = c.as_slice-types.result.now in
    let fs = c.as_slice-front.result.now in
    let bs = c.as_slice.result.now in
    let rest = take_rest ts (length fs) in
    let parts : c.args.front.now ++ c.args.back.now ≡ map type_view fs ++ map type_view bs = ap₂ (λ x y. x ++ y) (sym c.as_slice-front.ensures) (sym c.as_slice.ensures) in (
      λ t.
          sym c.as_slice-types.ensures
          ∙ joined type_view ts fs bs c.if-types-front.false (c.if-same_types.ensures.0 refl) (ap (map type_view) (sym rest) ∙ c.same_types-then-same_types.ensures.0 t)
          ∙ sym parts,
      λ e. c.same_types-then-same_types.ensures.1 (ap (map type_view) rest ∙ back_of type_view ts fs bs (c.as_slice-types.ensures ∙ e ∙ parts)),
    )

pub returns-else-same_types : goal.returns-else-same_types
returns-else-same_types c =
    let ts = c.as_slice-types.result.now in
    let fs = c.as_slice-front.result.now in (
      λ t. absurd cc,
      λ e. let h = c.if-same_types.ensures.1 (front_of type_view ts fs c.args.back.now (c.as_slice-types.ensures ∙ e ∙ ap (λ x. x ++ c.args.back.now) (sym c.as_slice-front.ensures))) in absurd cc,
    )
