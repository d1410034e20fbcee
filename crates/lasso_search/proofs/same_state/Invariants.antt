-- `same_state` meets its contract. The loop's invariant: the first k words are the same.
-- Assumes nothing.
use Rattle.std.proofs.Common.{◌≡◌, true}
use Rattle.memory.specs.Lists.{all_below}
use Rattle.lasso_search.specs.SearchStage.{same_word}
use Rattle.lasso_search.proofs.same_state.Given as goal

abbrev pub invariant-loop-k : goal.invariant-loop-k
invariant-loop-k l = all_below l.k (same_word l.work l.a l.b) ≡ true
