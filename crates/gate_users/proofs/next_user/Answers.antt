use borrow.Author.Rules.{rules}
use Rattle.gate_users.proofs.ListedLaws.{user-has}
use Rattle.gate_users.proofs.next_user.Goals as goal

pub returns : goal.returns
returns c = search (user-has, rules)
