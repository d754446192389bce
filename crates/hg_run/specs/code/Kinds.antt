-- What contracts see of the kinds of ops on numbers.
use Rattle.hg_ops.specs.Op as op
use Rattle.hg_ops.specs.Op.{Arithmetic, Division, Comparison}
use Rattle.hg_run.specs.declared.arithmetic.Calculation.{Calculation}
use Rattle.hg_run.specs.declared.arithmetic.Calculation.TheVariants as calculation
use Rattle.hg_run.specs.declared.arithmetic.Division.{Division as DeclaredDivision}
use Rattle.hg_run.specs.declared.arithmetic.Division.TheVariants as division
use Rattle.hg_run.specs.declared.arithmetic.Comparison.{Comparison as DeclaredComparison}
use Rattle.hg_run.specs.declared.arithmetic.Comparison.TheVariants as comparison

abbrev pub calculation_view : Calculation → Arithmetic
calculation_view calculation.Add = op.Add
calculation_view calculation.Sub = op.Sub
calculation_view calculation.Mul = op.Mul

abbrev pub division_view : DeclaredDivision → Division
division_view division.FloorDiv = op.FloorDiv
division_view division.Mod = op.Mod

abbrev pub comparison_view : DeclaredComparison → Comparison
comparison_view comparison.Eq = op.Eq
comparison_view comparison.Ne = op.Ne
comparison_view comparison.Lt = op.Lt
comparison_view comparison.Le = op.Le
comparison_view comparison.Gt = op.Gt
comparison_view comparison.Ge = op.Ge
