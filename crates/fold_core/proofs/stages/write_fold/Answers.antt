-- `write_fold` meets its contract: the unrolled rows can be compacted, the kept rows fit the result, and the file is theirs.
-- Assumes nothing.
use native.Mathlib.Omega.{arith}
use borrow.Author.Rules.{rules}
use Rattle.fold_core.proofs.StageLaws.{made-few, file-fits, fold-written}
use Rattle.fold_core.proofs.stages.write_fold.Goals as goal

pub compact_rows-kept-requires-clause-rows_le_most_folded_rows : goal.compact_rows-kept-requires-clause-rows_le_most_folded_rows
compact_rows-kept-requires-clause-rows_le_most_folded_rows c =
    let q = c.requires in
    let u = c.unroll-made in
    made-few q.ready.0 q.ready.1 q.ready.2 q.ready.3 c.args.work.now u.new.res u.ensures.by_index

pub write_file-requires : goal.write_file-requires
write_file-requires c =
    let q = c.requires in
    let u = c.unroll-made in
    let k = c.compact_rows-kept in
    let f = file-fits q.ready.0 q.ready.1 q.ready.2 q.ready.3 c.args.work.now u.new.res u.ensures.by_index (λ x. omega (arith, c.type_inv.file x)) k.new.res k.ensures.value (search rules) in
    (omega (arith, f.0), omega (arith, f.1))

pub returns : goal.returns
returns c =
    let q = c.requires in
    let u = c.unroll-made in
    let k = c.compact_rows-kept in
    fold-written q.ready.0 q.ready.1 q.ready.2 q.ready.3 c.args.work.now u.new.res u.ensures.by_index (λ x. omega (arith, c.type_inv.file x)) k.new.res k.ensures.value
    u.new.work (search rules) c.write_file.ensures u.ensures.kept_outside k.ensures.kept_outside
