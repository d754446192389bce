-- What ports carry that isn't a value.
use Rattle.std.specs.Prelude.{◌≡◌, Option, Some}
use Rattle.hg_ops.specs.Op.{PortKind, ControlPort, FunctionPort, ConstantPort}
use Rattle.hg_valid.specs.declared.links.OtherKind.{OtherKind}
use Rattle.hg_valid.specs.declared.links.OtherKind.TheVariants.{Control, Function, Constant}

abbrev pub other_view : OtherKind → PortKind
other_view Control = ControlPort
other_view Function = FunctionPort
other_view Constant = ConstantPort

-- there are two ports, of one kind
pub record SameKind (one other : Option PortKind) : Type 0 where
  pub kind : PortKind
  pub first : one ≡ Some kind
  pub second : other ≡ Some kind
