-- `write_sorted` meets its contract: the rows are numbered, placed and sealed.
-- Assumes nothing.
use borrow.Author.Rules.{rules}
use Rattle.row_sorter.proofs.SortedLaws.{file-written}
use Rattle.row_sorter.proofs.write_sorted.Goals as goal

pub returns-clause-res_after : goal.returns-clause-res_after
returns-clause-res_after c = file-written _ _ _ c.place_rows.new.res _ c.write_file.ensures (search rules) (search rules) (search rules) (search rules)
