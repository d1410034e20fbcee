-- `make_mux` gives the image of the MUX rule, way by way.
-- Assumes nothing.
use Rattle.gates.proofs.RuleWays.{mux-low, mux-high, mux-equal, mux-new, mux-swapped}
use Rattle.gates.proofs.make_mux.Goals as goal

pub returns-then-a-eq0 : goal.returns-then-a-eq0
returns-then-a-eq0 c = search mux-low

pub returns-then-a-eq1 : goal.returns-then-a-eq1
returns-then-a-eq1 c = search mux-high

pub returns-then-b-c : goal.returns-then-b-c
returns-then-b-c c = search mux-equal

pub returns-then-a-eq0-2 : goal.returns-then-a-eq0-2
returns-then-a-eq0-2 c = search mux-new

pub returns : goal.returns
returns c = search mux-swapped
