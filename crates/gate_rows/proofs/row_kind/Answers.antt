-- `row_kind` meets its contract: a file's byte, or a test of the row's number.
-- Assumes nothing.
use Rattle.gate_rows.proofs.SourceLaws.{kind-inside, file-kind, pairs-few}
use Rattle.gate_rows.proofs.OperandLaws.{pair-kind-is}
use Rattle.gate_rows.proofs.row_kind.Goals as goal

pub bounds-source-offset : goal.bounds-source-offset
bounds-source-offset c = search kind-inside

pub pair_kind-requires : goal.pair_kind-requires
pair_kind-requires c = search pairs-few

pub returns-in-File : goal.returns-in-File
returns-in-File c = search file-kind

pub returns-in-Pairs : goal.returns-in-Pairs
returns-in-Pairs c = search pair-kind-is
