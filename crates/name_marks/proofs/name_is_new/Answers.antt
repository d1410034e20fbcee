-- Where an earlier row has the row's name, it is not new.
use Rattle.name_marks.proofs.EarlierLaws.{name-found}
use Rattle.name_marks.proofs.name_is_new.Goals as goal

pub returns-then-same_name : goal.returns-then-same_name
returns-then-same_name c = search name-found
