-- Values in memory, one level seen.
use Rattle.std.proofs.Common.{◌≡◌, ℕ, List, map, ap, sym, ◌∙◌}
use Rattle.std.specs.declared.alloc.Global.{Global}
use Rattle.std.specs.declared.vec.Vec.{Vec}
use Rattle.gp_evaluator.specs.declared.value.Value as declared
use Rattle.gp_evaluator.specs.declared.value.FieldValue as declared_field
use Rattle.gp_evaluator.specs.declared.value.Value.TheFolds.{fold-roll-Value, fold_out-FieldValue}
use Rattle.gp_evaluator.specs.declared.value.Value.TheOpen.{Value-F}
use Rattle.gp_evaluator.specs.declared.value.Value.TheVariants as variants
use Rattle.gp_meaning.specs.Value.{Value, FieldValue, tuple, structure, function, values_of, fields_of}
use Rattle.gp_evaluator.specs.View.{value_view, field_view, value_step, field_step}

pub tuple_view : (vs : Vec declared.Value Global) → value_view (variants.Tuple vs) ≡ tuple (values_of (map value_view vs.items))
tuple_view vs = ap value_view (sym (variants.rolls-Tuple vs)) ∙ fold-roll-Value Value FieldValue value_step field_step (Value-F.Tuple vs)

pub struct_view : (fs : Vec declared_field.FieldValue Global) → value_view (variants.Struct fs) ≡ structure (fields_of (map field_view fs.items))
struct_view fs = ap value_view (sym (variants.rolls-Struct fs)) ∙ fold-roll-Value Value FieldValue value_step field_step (Value-F.Struct fs)

pub field_view_is : (f : declared_field.FieldValue) → field_view f ≡ record { name = f.name; value = value_view f.value }
field_view_is f = fold_out-FieldValue Value FieldValue value_step field_step f

pub function_view : (name : List ℕ) → value_view (variants.Function name) ≡ function name
function_view name = ap value_view (sym (variants.rolls-Function name)) ∙ fold-roll-Value Value FieldValue value_step field_step (Value-F.Function name)
