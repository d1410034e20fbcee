-- `pack_next` meets its contract. The loop's invariant: what the first j listed literals show is put.
-- Assumes nothing.
use Rattle.memory.specs.Fields.{IsBytes}
use Rattle.fold_memory.specs.WorkMap.{state_offset}
use Rattle.ternary_step.specs.StateMap.{Packed, shown_codes}
use Rattle.ternary_step.proofs.StepLaws.{StateKept}
use Rattle.ternary_step.proofs.pack_next.Given as goal

abbrev pub invariant-loop-j : goal.invariant-loop-j
invariant-loop-j l = record {
  bytes : IsBytes l.work;
  kept : StateKept l.m l.initial.work l.work;
  packed : Packed l.work (state_offset l.m) (shown_codes l.initial.work l.j);
}
