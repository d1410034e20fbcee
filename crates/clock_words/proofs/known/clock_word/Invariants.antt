-- `clock_word` meets its contract. The loop's invariant: `word` is the word of the first k phases.
-- Assumes nothing.
use Rattle.std.proofs.Common.{◌≡◌}
use Rattle.lasso.specs.ClockEntries.{clock_word}
use Rattle.clock_words.specs.KnownStage.{phase_value}
use Rattle.clock_words.proofs.known.clock_word.Given as goal

abbrev pub invariant-loop-k : goal.invariant-loop-k
invariant-loop-k l = l.word ≡ clock_word (phase_value l.work l.j l.period) l.k
