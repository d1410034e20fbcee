-- `analyse` meets its contract: what each stage hands on is what the next asks.
-- Assumes nothing.
use Rattle.lasso_finder.proofs.AnalysisLaws.{analysed-never, stem-is, cycle-is, lassoed, phases-from, phases-to, entries-registers, analysed-found}
use borrow.Author.Rules.{rules}
use Rattle.lasso_finder.proofs.analyse.Goals as goal

pub find_periods-requires : goal.find_periods-requires
find_periods-requires c = record { ready = c.requires.ready; stem_value = (stem-is c.find_lasso.ensures c.in_ok-lasso.was c.requires.wish_le_most_phases.1, (cycle-is c.find_lasso.ensures c.in_ok-lasso.was c.requires.wish_le_most_phases.1, lassoed c.find_lasso.ensures c.in_ok-lasso.was c.requires.wish_le_most_phases.1)) }

pub find_known-requires : goal.find_known-requires
find_known-requires c = record { ready = c.requires.ready; le_phases = (phases-from c.find_lasso.ensures c.in_ok-lasso.was c.requires.wish_le_most_phases.1 c.requires.ready.file.count c.find_periods.ensures.0 c.find_periods.ensures.1 c.phase_count-phases.ensures c.requires.wish_le_most_phases.0, (phases-to c.find_lasso.ensures c.in_ok-lasso.was c.requires.wish_le_most_phases.1 c.requires.ready.file.count c.find_periods.ensures.0 c.find_periods.ensures.1 c.phase_count-phases.ensures c.requires.wish_le_most_phases.0, c.find_periods.ensures.1)) }

pub put_entries-used-requires : goal.put_entries-used-requires
put_entries-used-requires c = record { ready = c.requires.ready; fold_work_bytes_in_bounds = (search rules, entries-registers c.find_lasso.ensures c.in_ok-lasso.was c.requires.wish_le_most_phases.1 c.requires.ready.file.count c.find_periods.ensures.0 c.find_periods.ensures.1 c.phase_count-phases.ensures c.requires.wish_le_most_phases.0 c.find_known.ensures.0 c.find_known.ensures.1) }

pub returns-in_err-lasso : goal.returns-in_err-lasso
returns-in_err-lasso c = search (analysed-never, rules)

pub returns : goal.returns
returns c = analysed-found c.find_lasso.ensures c.in_ok-lasso.was c.requires.wish_le_most_phases.1 c.requires.ready.file.count c.find_periods.ensures.0 c.find_periods.ensures.1 c.phase_count-phases.ensures c.requires.wish_le_most_phases.0 c.find_known.ensures.0 c.find_known.ensures.1 c.put_entries-used.ensures
