-- `make_xor` gives the image of the XOR rule, way by way.
-- Assumes nothing.
use Rattle.gates.proofs.RuleWays.{xor-equal, xor-complements, xor-first-false, xor-second-false, xor-first-true, xor-second-true, xor-new}
use Rattle.gates.proofs.make_xor.Goals as goal

pub returns-then-a-b : goal.returns-then-a-b
returns-then-a-b c = search xor-equal

pub returns-then-a-complement : goal.returns-then-a-complement
returns-then-a-complement c = search xor-complements

pub returns-then-a-eq0 : goal.returns-then-a-eq0
returns-then-a-eq0 c = search xor-first-false

pub returns-then-b-eq0 : goal.returns-then-b-eq0
returns-then-b-eq0 c = search xor-second-false

pub returns-then-a-eq1 : goal.returns-then-a-eq1
returns-then-a-eq1 c = search xor-first-true

pub returns-then-b-eq1 : goal.returns-then-b-eq1
returns-then-b-eq1 c = search xor-second-true

pub returns : goal.returns
returns c = search xor-new
