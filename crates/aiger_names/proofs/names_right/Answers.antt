use mathlib.Core.Bool.{false≢true}
use borrow.Author.Rules.{rules}
use Rattle.aiger_names.proofs.TakeLaws.{taken-less, taking-first, taking-next, found-fits, names-all, pairs-all}
use Rattle.aiger_names.proofs.names_right.Goals as goal

pub returns-in_default : goal.returns-in_default
returns-in_default c = record { value = rw c.in_default.ensures.taken_is; pairs_stand = λ e. absurd (false≢true e); work_len_unchanged = search rules }

pub loop-place-init : goal.loop-place-init
loop-place-init c = (search taking-first, search rules)

pub returns-in_default-take_window : goal.returns-in_default-take_window
returns-in_default-take_window c = record { value = rw c.in_default-take_window.ensures.taken_is; pairs_stand = λ e. absurd (false≢true e); work_len_unchanged = search rules }

pub overflow_add-found : goal.overflow_add-found
overflow_add-found c = record { fits = search (found-fits, rules) }

pub loop-place-smaller : goal.loop-place-smaller
loop-place-smaller c = search taken-less

pub loop-place-preserved : goal.loop-place-preserved
loop-place-preserved c = (search taking-next, search rules)

pub returns : goal.returns
returns c = record { value = search names-all; pairs_stand = search pairs-all; work_len_unchanged = search rules }
