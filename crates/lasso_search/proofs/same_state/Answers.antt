use borrow.Author.Rules.{rules}
use Rattle.memory.proofs.ListLaws.{all_below-more}
use Rattle.lasso_search.proofs.WordLaws.{states-differ, words-agree, states-agree}
use Rattle.lasso_search.proofs.same_state.Goals as goal

pub returns-then-x-y : goal.returns-then-x-y
returns-then-x-y c = search states-differ

pub loop-k-preserved : goal.loop-k-preserved
loop-k-preserved c = search (all_below-more, words-agree, rules)

pub returns : goal.returns
returns c = search (states-agree, rules)
