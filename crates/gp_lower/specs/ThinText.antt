-- Thin texts: a fixed head, and then a line for each thing that is done with the qubit `q`.
use Rattle.std.specs.Prelude.{◌≡◌, ℕ, List, ◌++◌, flat_map, codes}
use Rattle.gp_lower.specs.declared.thin_text.ThinLine.{ThinLine}
use Rattle.gp_lower.specs.declared.thin_text.ThinLine.TheVariants.{H, X, Discard}

-- the text of a line, with its line feed
abbrev pub line_text : ThinLine → List ℕ
line_text H = codes "    h(q)\n"
line_text X = codes "    x(q)\n"
line_text Discard = codes "    discard(q)\n"

-- the texts of the lines, joined
abbrev pub lines_text : List ThinLine → List ℕ
lines_text lines = flat_map line_text lines

-- the six lines that a thin text begins with
unfoldable pub thin_head : List ℕ
thin_head =
    codes "from guppylang import guppy\n" ++ codes "from guppylang.std.builtins import owned, result\n"
    ++ codes "from guppylang.std.quantum import qubit, h, x, z, cx, rz, measure, project_z, discard, reset\n"
    ++ codes "@guppy\n" ++ codes "def main() -> None:\n" ++ codes "    q = qubit()\n"

-- the text with these lines after its head
abbrev pub thin_text : List ThinLine → List ℕ
thin_text lines = thin_head ++ lines_text lines

-- a text is thin in at most one way
abbrev pub OneReading : Type 0
OneReading = (a b : List ThinLine) → thin_text a ≡ thin_text b → a ≡ b
