-- Values whose whole numbers have 64 bits with a sign, and that runs keep them so.
use Rattle.std.specs.Prelude.{◌≡◌, ℕ, ℤ, List, [], ◌∷◌, FitsSigned}
use Rattle.std.specs.Int.{w64}
use Rattle.gp_base.specs.Run.{Out, Returned, Stopped}
use Rattle.gp_base.specs.World.{World}
use Rattle.hg_ops.specs.Op.{Const}
use Rattle.hg_graph.specs.Graph.{Graph, op_at}
use Rattle.hg_graph.specs.Run.{graph_run}
use Rattle.hg_graph.specs.Value.{Value, Int, Qubit, Variant, Function, Values, no_values, value}

abbrev mutual
  -- each whole number in the value has 64 bits
  pub Fits : Value → Type 0
  Fits (Int n) = FitsSigned w64 n
  Fits (Qubit q) = Unit {0}
  Fits (Variant k vs) = PackedFit vs
  Fits (Function name) = Unit {0}

  pub PackedFit : Values → Type 0
  PackedFit no_values = Unit {0}
  PackedFit (value v vs) = Fits v × PackedFit vs

abbrev pub AllFit : List Value → Type 0
AllFit [] = Unit {0}
AllFit (v ∷ vs) = Fits v × AllFit vs

-- so have the values that a run returns, where it returns
abbrev pub ReturnsFitting : Out World (List Value) → Type 0
ReturnsFitting (Returned vs w) = AllFit vs
ReturnsFitting (Stopped e w) = Unit {0}

-- each constant of the graph has 64 bits
abbrev pub ConstantsFit : Graph → Type 0
ConstantsFit g = (n : ℕ) (constant : ℤ) → op_at g n ≡ Const constant → FitsSigned w64 constant

-- From constants and arguments of 64 bits a run returns numbers of 64 bits, of whatever graph.
abbrev pub NumbersFit : Type 0
NumbersFit =
    (g : Graph) → ConstantsFit g → (f : ℕ) (arguments : List Value) → AllFit arguments → (w : World) (picks : List ℕ)
    → ReturnsFitting (graph_run g f arguments w picks)
