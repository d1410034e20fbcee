use native.Mathlib.Omega.{arith}
use Rattle.clock_words.proofs.EntryLaws.{entries-start, entry_more}
use borrow.Author.Rules.{rules}
use Rattle.clock_words.proofs.entries.put_entries.Goals as goal

pub loop-i-init : goal.loop-i-init
loop-i-init c = search (entries-start, rules)

pub loop-i-preserved : goal.loop-i-preserved
loop-i-preserved c = entry_more c.requires.ready (omega arith) c.requires.fold_work_bytes_in_bounds.0 c.requires.fold_work_bytes_in_bounds.1 c.loop-i.invariant (λ x. omega (arith, c.shared_slice_known-1.given x)) (λ x. omega (arith, c.slice_known-1.given x)) c.entry_row-e.new.work c.entry_row-e.result c.entry_row-e.ensures.0 c.entry_row-e.ensures.1
