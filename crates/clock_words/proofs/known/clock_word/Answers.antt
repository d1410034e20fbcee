use borrow.Author.Rules.{rules}
use Rattle.clock_words.proofs.KnownLaws.{word_none, word_small, word_next, word_fits}
use Rattle.clock_words.proofs.known.clock_word.Goals as goal

pub loop-k-init : goal.loop-k-init
loop-k-init c = search (word_none, rules)

pub overflow_add-word : goal.overflow_add-word
overflow_add-word c = search word_fits

pub loop-k-preserved : goal.loop-k-preserved
loop-k-preserved c = search (word_next, rules)

pub overflow_cast-result : goal.overflow_cast-result
overflow_cast-result c = search word_small
