-- What contracts see of an entry.
use Rattle.hg_run.specs.declared.entry.Entry.{Entry as Declared}
use Rattle.hg_run.specs.declared.entry.Entry.TheVariants as entry
use Rattle.hg_run.specs.Entries.{Entry, Missing, NotClosed, Closed}

abbrev pub entry_view : Declared → Entry
entry_view entry.Missing = Missing
entry_view entry.NotClosed = NotClosed
entry_view (entry.Closed n) = Closed n.0
