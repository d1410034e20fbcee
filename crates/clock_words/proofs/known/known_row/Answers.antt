-- `known_row` meets its contract: the bytes that it puts are the definition's.
-- Assumes nothing.
use mathlib.Core.Path.{refl, sym, ap, ◌∙◌}
use lib.Seq.{sets}
use Rattle.ternary_step.proofs.StepLaws.{row_within, number_fits, number-next}
use Rattle.fold_memory.specs.WorkMap.{known_offset}
use Rattle.clock_words.proofs.KnownLaws.{byte-used, word-asks, known-used, known-unused, known_more}
use Rattle.clock_words.proofs.known.known_row.Goals as goal

pub count_register-next-requires : goal.count_register-next-requires
count_register-next-requires c = search number_fits

pub clock_word-word-requires : goal.clock_word-word-requires
clock_word-word-requires c = word-asks c.requires.le_phases.1.1.part (row_within c.requires.at_row) c.requires.le_phases.0 c.requires.le_phases.1.0 (sym (byte-used c.requires.le_phases.1.1.part (row_within c.requires.at_row) c.requires.le_phases.0 c.requires.le_phases.1.0) ∙ sym c.is_used.ensures ∙ c.if-is_used.true) c.requires.at_row.ready.rows.registers c.requires.at_row.number refl

pub returns-then-is_used : goal.returns-then-is_used
returns-then-is_used c = (number-next c.requires.at_row c.read_row-fields.result c.read_row-fields.ensures.0 c.count_register-next.result c.count_register-next.ensures, known_more c.requires.at_row c.requires.le_phases.1.1 c.put_known.new.work (c.put_known.ensures ∙ ap (sets c.args.work.now (known_offset c.args.row)) (known-used c.requires.le_phases.1.1.part (row_within c.requires.at_row) c.requires.le_phases.0 c.requires.le_phases.1.0 (sym (byte-used c.requires.le_phases.1.1.part (row_within c.requires.at_row) c.requires.le_phases.0 c.requires.le_phases.1.0) ∙ sym c.is_used.ensures ∙ c.if-is_used.true) c.requires.at_row.ready.rows.registers c.requires.at_row.number refl c.clock_word-word.result c.clock_word-word.ensures)))

pub returns : goal.returns
returns c = (number-next c.requires.at_row c.read_row-fields.result c.read_row-fields.ensures.0 c.count_register-next.result c.count_register-next.ensures, known_more c.requires.at_row c.requires.le_phases.1.1 c.put_known-2.new.work (c.put_known-2.ensures ∙ ap (sets c.args.work.now (known_offset c.args.row)) (known-unused c.requires.le_phases.1.1.part (row_within c.requires.at_row) c.requires.le_phases.0 c.requires.le_phases.1.0 (sym (byte-used c.requires.le_phases.1.1.part (row_within c.requires.at_row) c.requires.le_phases.0 c.requires.le_phases.1.0) ∙ sym c.is_used.ensures ∙ c.if-is_used.false))))
