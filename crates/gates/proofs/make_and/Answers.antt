-- `make_and` gives the image of the AND rule, way by way.
-- Assumes nothing.
-- Three ways lead to false.
use Rattle.gates.proofs.RuleWays.{and-first-false, and-second-false, and-complements, and-first-true, and-second-true, and-equal, and-new}
use Rattle.gates.proofs.make_and.Goals as goal
use Rattle.gates.proofs.make_and.Goals.{then-a-eq0-via-then-a-eq0, then-a-eq0-via-else-a-eq0+then-b-eq0, then-a-eq0-via-else-a-eq0+else-b-eq0+then-a-complement}

pub returns-then-a-eq0 : goal.returns-then-a-eq0
returns-then-a-eq0 c =
    elim c.then-a-eq0.branch [
      | then-a-eq0-via-then-a-eq0 w ↦ search and-first-false
      | then-a-eq0-via-else-a-eq0+then-b-eq0 w ↦ search and-second-false
      | then-a-eq0-via-else-a-eq0+else-b-eq0+then-a-complement w ↦ search and-complements
    ]

pub returns-then-a-eq1 : goal.returns-then-a-eq1
returns-then-a-eq1 c = search and-first-true

pub returns-then-b-eq1 : goal.returns-then-b-eq1
returns-then-b-eq1 c = search and-second-true

pub returns-then-a-b : goal.returns-then-a-b
returns-then-a-b c = search and-equal

pub returns : goal.returns
returns c = search and-new
