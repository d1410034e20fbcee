-- `sort::sort` leaves what Sort's definition says, by its plan.
-- Assumes nothing.
use native.Mathlib.Omega.{arith}
use borrow.Author.Rules.{rules}
use Rattle.memory.specs.Fields.{IsBytes}
use Rattle.sort.proofs.OutcomeLaws.{plan-sortable, plan-room, plan-work, stopped_by, sorted-by}
use Rattle.sort.proofs.sort.Goals as goal

pub sort_rows-answer-requires : goal.sort_rows-answer-requires
sort_rows-answer-requires c = search (plan-sortable, plan-room, plan-work, rules)

pub returns-in-Err : goal.returns-in-Err
returns-in-Err c = search (stopped_by, rules)

pub returns-in-Ok : goal.returns-in-Ok
returns-in-Ok c =
    let bytes : IsBytes c.args.file.now = λ x. omega (arith, c.shared_slice_known-1.given x) in
    search (sorted-by, bytes)
