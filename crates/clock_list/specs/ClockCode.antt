-- The clock list's entries in code.
-- Interface: clock_of, clocks_of.
-- Assumes nothing.
use Rattle.std.specs.Prelude.{List, map}
use Rattle.lasso.specs.ClockEntries.{ClockEntry}
use Rattle.clock_list.specs.declared.Clock.{Clock}

abbrev pub clock_of : ClockEntry → Clock
clock_of e = record { label = e.label; period = e.period; word = e.word; ones = e.ones }

abbrev pub clocks_of : List ClockEntry → List Clock
clocks_of es = map clock_of es
