-- `advance` meets its contract: step m - 1 is worked out from state m - 1, and what the listed literals show is state m.
-- Assumes nothing.
use Rattle.ternary_step.proofs.NextLaws.{pack-asks, advance-kept, advance-done}
use borrow.Author.Rules.{rules}
use Rattle.ternary_step.proofs.advance.Goals as goal

pub pack_next-requires : goal.pack_next-requires
pack_next-requires c = search pack-asks

pub returns : goal.returns
returns c = search (advance-kept, advance-done, rules)
