use borrow.Author.Rules.{rules}
use Rattle.aiger_names.proofs.LineRowLaws.{line-some}
use Rattle.aiger_names.proofs.TakeLaws.{filling-few, filling-start, filling-room, filling-more, filling-same, filling-twice, filled-full, filled-ended}
use Rattle.aiger_names.proofs.fill_tree.Goals as goal
use Rattle.aiger_names.proofs.fill_tree.Goals.{then-defines+else-not-add_entry, else-defines}

pub loop-line-init : goal.loop-line-init
loop-line-init c = search filling-start

pub overflow_add-result : goal.overflow_add-result
overflow_add-result c = search filling-few

pub returns-then-count-capacity : goal.returns-then-count-capacity
returns-then-count-capacity c = record { filled_is = search filled-full; work_len_unchanged = search rules }

pub unwrap-l-requires : goal.unwrap-l-requires
unwrap-l-requires c = search line-some

pub add_entry-requires : goal.add_entry-requires
add_entry-requires c = search (filling-room, rules)

pub returns-then-not-add_entry : goal.returns-then-not-add_entry
returns-then-not-add_entry c = record { filled_is = search filling-twice; work_len_unchanged = search rules }

pub loop-line-preserved : goal.loop-line-preserved
loop-line-preserved c = elim c.if-defines.branch [ then-defines+else-not-add_entry w ↦ search filling-more | else-defines w ↦ search filling-same ]

pub overflow_add-result-2 : goal.overflow_add-result-2
overflow_add-result-2 c = search filling-few

pub returns : goal.returns
returns c = record { filled_is = search filled-ended; work_len_unchanged = search rules }
