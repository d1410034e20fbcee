use Rattle.std.proofs.Common.{◌≡◌, ◌*◌, ◌/◌, ℕ, ap, ◌∙◌, arith}
use borrow.Author.Rules.{rules}
use Rattle.netlist.specs.Rows.{is_input}
use Rattle.netlist.specs.FileFormat.{netlist_of}
use Rattle.netlist.specs.RunLayout.{place_among}
use Rattle.simulate.proofs.WalkLaws.{ready-all, blocks-none, block-rows, rest-rows, blocks-halves, blocks-all}
use Rattle.simulate.proofs.evaluate.Goals as goal

pub loop-block-init : goal.loop-block-init
loop-block-init c = search blocks-none

pub evaluate_rows-used-requires : goal.evaluate_rows-used-requires
evaluate_rows-used-requires c = search (ready-all, block-rows, blocks-halves, rules)

pub evaluate_rows-requires : goal.evaluate_rows-requires
evaluate_rows-requires c =
    let e : c.loop-block.block ≡ c.args.rows / 63 = omega arith in
    let U = c.loop-block.invariant in
    record {
      ready = (ready-all c.requires.0, rest-rows c.requires.0);
      inputs_fit = (c.requires.1.0, U.used-is ∙ ap (λ (k : ℕ). place_among is_input (netlist_of c.args.file.now) (63 * k)) e);
      two_halves = blocks-halves c.requires.0 c.requires.1.1 U;
    }

pub returns : goal.returns
returns c = blocks-all c.requires.0 c.requires.1.1 c.loop-block.invariant (omega arith) (omega arith) c.evaluate_rows.ensures.1
