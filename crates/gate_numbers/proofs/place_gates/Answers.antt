use native.Mathlib.Omega.{arith}
use mathlib.Core.Path.{◌≡◌, ◌∙◌}
use borrow.Author.Rules.{rules}
use Rattle.gate_numbers.proofs.RoundLaws.{rounds-none, full-count, full-placed, none-count, none-placed, round-gate, round-next}
use Rattle.gate_numbers.proofs.place_gates.Goals as goal

pub loop-next-init : goal.loop-next-init
loop-next-init c = search (rounds-none, rules)

pub returns-then-row-rows : goal.returns-then-row-rows
returns-then-row-rows c = record { passed = search rules; count = search none-count; placed = search none-placed }

pub place_gate-low-requires-clause-source : goal.place_gate-low-requires-clause-source
place_gate-low-requires-clause-source c = (search rules, search round-gate)

pub loop-next-preserved : goal.loop-next-preserved
loop-next-preserved c = search (round-next, rules)

pub returns : goal.returns
returns c =
    let last : c.args.rows ≡ c.loop-next.next = omega (arith, c.loop-next.invariant.upto) in
    record {
      passed = search rules;
      count = last ∙ full-count _ _ _ c.requires.source.0 _ _ _ _ c.loop-next.invariant c.loop-next-test.false c.requires.source.1;
      placed = search full-placed;
    }
