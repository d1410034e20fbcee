use borrow.Author.Rules.{rules}
use Rattle.std.proofs.lemmas.Result.{err_from_is_err_and}
use Rattle.aiger_names.proofs.LineRowLaws.{line-some}
use Rattle.aiger_names.proofs.LookLaws.{look-start, look-room, look-ready, look-inside, look-few, look_twice, look-next, look-done}
use Rattle.aiger_names.proofs.look_up.Goals as goal

pub loop-line-init : goal.loop-line-init
loop-line-init c = search look-start

pub unwrap-l-requires : goal.unwrap-l-requires
unwrap-l-requires c = search line-some

pub look_up_line-requires : goal.look_up_line-requires
look_up_line-requires c = record { window_ready = (search look-ready, (search rules, search rules)); names_room = (search look-room, search look-inside) }

pub returns-in_err-more-clause-looked_is : goal.returns-in_err-more-clause-looked_is
returns-in_err-more-clause-looked_is c =
    let p = err_from_is_err_and c.from_residual.result c.from_residual.ensures.1 in
    rw p.1 (look_twice _ _ _ _ _ _ _ c.requires.counted.0 _ _ _ _ c.loop-line.invariant c.requires.window_stands _ _ _ _ _ c.line_count-lines.ensures c.loop-line-test.true c.read_line.ensures.result_value c.unwrap-l.ensures c.read_line.ensures.padded c.look_up_line.ensures.line_looked_is _ c.in_err-more.was)

pub overflow_add-found : goal.overflow_add-found
overflow_add-found c = record { fits = search (look-few, c.in_ok-more.was) }

pub loop-line-preserved : goal.loop-line-preserved
loop-line-preserved c = search (look-next, c.in_ok-more.was)

pub returns : goal.returns
returns c = record { looked_is = search look-done; work_len_unchanged = search rules }
