use native.Mathlib.Omega.{arith}
use Rattle.ternary_step.proofs.NextLaws.{next-put-asks, next-packed}
use Rattle.ternary_step.proofs.pack_next.Goals as goal

pub put_code-requires : goal.put_code-requires
put_code-requires c = let p = next-put-asks c.requires c.loop-j-test.true c.loop-j.invariant.kept c.field_at-next.ensures.0 c.literal_value-code.ensures c.loop-j.invariant.packed c.state_offset-base.ensures c.loop-j.invariant.bytes in record { j_lt_most_original_registers = p.0; code_bound = p.1 }

pub loop-j-preserved : goal.loop-j-preserved
loop-j-preserved c =
    let p = next-packed c.requires c.loop-j-test.true c.loop-j.invariant.kept c.field_at-next.ensures.0 c.literal_value-code.ensures c.loop-j.invariant.packed c.state_offset-base.ensures c.loop-j.invariant.bytes c.put_code.ensures in
    record { bytes = λ x. omega (arith, c.type_inv.work x); kept = p.0; packed = p.1 }
