-- What contracts see of a variant and of a function taken apart.
use Rattle.hg_run.specs.declared.value.Chosen.{Chosen as Declared}
use Rattle.hg_run.specs.declared.value.Called.{Called as DeclaredCalled}
use Rattle.hg_steps.specs.Machine.{Chosen, Called}

abbrev pub chosen_view : Declared → Chosen
chosen_view c = record { tag = c.tag; values = c.values }

abbrev pub called_view : DeclaredCalled → Called
called_view c = record { name = c.name; values = c.values }
