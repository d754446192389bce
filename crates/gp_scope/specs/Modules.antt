-- Which names may be imported from which module.
use Rattle.std.specs.Prelude.{ℕ, List, Bool, false, not, ◌||◌, ◌&&◌, codes, bytes_eq, is_some, if◌then◌else◌}
use Rattle.gp_types.specs.Builtins.{builtin_named}

abbrev pub offers : (module_name name : List ℕ) → Bool
offers module_name name =
    if bytes_eq module_name (codes "guppylang") then bytes_eq name (codes "guppy")
    else if bytes_eq module_name (codes "guppylang.decorator") then bytes_eq name (codes "guppy")
    else if bytes_eq module_name (codes "guppylang.std.builtins") then bytes_eq name (codes "owned") || bytes_eq name (codes "result")
    else if bytes_eq module_name (codes "guppylang.std.platform") then bytes_eq name (codes "result")
    else if bytes_eq module_name (codes "guppylang.std.lang") then bytes_eq name (codes "owned")
    -- `qubit` and the other built-in functions, but for `result`
    else if bytes_eq module_name (codes "guppylang.std.quantum") then is_some (builtin_named name) && not (bytes_eq name (codes "result"))
    else if bytes_eq module_name (codes "collections.abc") then bytes_eq name (codes "Callable")
    else if bytes_eq module_name (codes "typing") then bytes_eq name (codes "Callable")
    else if bytes_eq module_name (codes "__future__") then bytes_eq name (codes "annotations")
    else false
