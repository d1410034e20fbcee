-- `name_is_new` meets its contract. The loop's invariant: no row before `earlier` has the row's name.
-- Assumes nothing.
use Rattle.netlist.specs.FileFormat.{netlist_of}
use Rattle.name_marks.proofs.EarlierLaws.{NewBelow}
use Rattle.name_marks.proofs.name_is_new.Given as goal

abbrev pub invariant-loop-earlier : goal.invariant-loop-earlier
invariant-loop-earlier l = NewBelow (netlist_of l.file) l.row l.earlier
