use Rattle.std.proofs.Common.{map, arith, sym, ap, ◌∙◌, ◌++◌, Some}
use Rattle.std.proofs.lemmas.List.{map-append}
use Rattle.hg_steps.specs.Machine.{Chosen, variant_of}
use Rattle.hg_graph.specs.Value.{Value}
use Rattle.std.specs.Prelude.{Option, List}
use Rattle.hg_run.specs.code.ValueView.{value_view}
use Rattle.hg_run.proofs.Scans.{variant_first}
use Rattle.hg_run.proofs.value.Values.choose.Goals as goal

pub returns-in-Variant : goal.returns-in-Variant
returns-in-Variant c =
    let chosen : List Value → Option Chosen = λ us. Some (record { tag = c.in-Variant.tag; values = us }) in
    sym (ap variant_of (sym c.self.view_is)
    ∙ (variant_first c.self.inside.values.items _ c.remove.result c.in-Variant.tag c.in-Variant.values (λ none. c.if-len-eq0.false (omega arith)) c.remove.ensures.value c.in-Variant.is c.remove.ensures.items
    ∙ ap chosen (sym (ap (map value_view) c.in_ok-append-in-Variant.ensures.items ∙ (map-append value_view c.values.inside.values.items c.remove.new.self.items ∙ ap (λ row. row ++ map value_view c.remove.new.self.items) c.values.view_is)))))
