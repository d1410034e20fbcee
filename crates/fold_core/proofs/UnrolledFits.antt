-- The unrolled netlist of a file's rows can be compacted: its literals, labels and phases have 16 bits.
-- Assumes nothing.
use Prim.Native.Nat.{ℕ, suc, ◌-◌, ◌<◌, ◌≤◌, ◌^◌}
use mathlib.Core.Path.{◌≡◌, refl, ap, subst}
use mathlib.Core.Bool.{Bool, true, false}
use mathlib.Core.List.{List, map}
use native.Mathlib.Omega.{arith}
use lib.ListN.{length, length-map, get_or-map}
use Rattle.memory.specs.Lists.{join_below}
use Rattle.ternary.specs.Ternary.{Ternary}
use Rattle.netlist.specs.Limits.{most_rows, most_phases}
use Rattle.netlist.specs.Rows.{Row, constant, row_at, label_of, phase_of, has_name}
use Rattle.netlist.proofs.RowLaws.{each_append, unnamed}
use Rattle.netlist.specs.WellFormed.{EachRow, FoldableRows}
use Rattle.netlist.proofs.FileLaws.{row_fits}
use Rattle.abstraction.specs.Unrolling.{patch_next, unroll_phases, phase_outputs, unrolled_netlist}
use Rattle.abstraction.proofs.UnrolledRun.{length_whole}
use Rattle.abstraction.proofs.Provenance.{Sourced, phase-before, unroll-named, outputs-named}
use Rattle.abstraction.proofs.FoldedRun.{patch-alike, whole-fanin, whole, made, ordered, whole-next}
use Rattle.compaction.specs.Compactable.{Compactable}
use Rattle.unrolling.proofs.UnrollFacts.{netlist-few}

-- Label and phase are in range.
abbrev NameFits : Row → Type 0
NameFits r = (label_of r < 2 ^ 16) × (phase_of r < most_phases)

module _ (clock : ℕ → ℕ → Ternary) (rows : List Row) (labels : EachRow (λ r. label_of r < 2 ^ 16) rows) (N : ℕ) (few : N ≤ most_phases) where
  -- A named row has the label of a row of the original and a phase below N, and the others have neither.
  sourced-fits : (r : Row) → Sourced rows N 0 r → NameFits r
  sourced-fits r s = go (has_name r) refl
    where
      go : (t : Bool) → has_name r ≡ t → NameFits r
      go true e = let o = s e in (omega (arith, o.label, labels o.row o.within), omega (arith, phase-before o.earlier))
      go false e = let n = unnamed r e in (omega (arith, ap (λ (x : ℕ × ℕ). x.0) n), omega (arith, ap (λ (x : ℕ × ℕ). x.1) n))

  names-fit : EachRow NameFits (unrolled_netlist clock rows N)
  unfolding unrolled_netlist
  names-fit =
      let q = unroll_phases clock rows N in
      each_append NameFits (map (patch_next q.images) q.made) (join_below N (phase_outputs clock rows))
      (λ i h.
      let f = sourced-fits (row_at q.made i) ((unroll-named rows clock N).sourced i (omega (arith, h, length-map q.made (patch_next q.images)))) in
      let a = (patch-alike q.images (row_at q.made i)).name in
      rw (get_or-map (patch_next q.images) q.made i constant) (omega (arith, a.label, f.0), omega (arith, a.phase, f.1)))
      (λ i h. sourced-fits (row_at (join_below N (phase_outputs clock rows)) i) ((outputs-named rows clock N).sourced i h))

module _ (clock : ℕ → ℕ → Ternary) (rows : List Row) (labels : EachRow (λ r. label_of r < 2 ^ 16) rows) where
  -- Of one phase or more.
  whole-compactable : (M : ℕ) → suc M ≤ most_phases → FoldableRows rows → Compactable (whole clock rows M)
  whole-compactable M few ok =
      let n : length (whole clock rows M) ≤ most_rows = omega (arith, netlist-few clock rows ok (suc M) few) in
      let m : length (made clock rows M) ≤ length (whole clock rows M) = length_whole clock rows (suc M) in
      record {
        fits = λ j h.
            let f = names-fit clock rows labels (suc M) few j h in
            row_fits j (length (made clock rows M)) (omega arith) (omega arith) (row_at (whole clock rows M) j) (ordered clock rows M j h) (whole-next clock rows M j h) f.0 f.1;
        inside = whole-fanin clock rows M;
      }

  pub unrolled-compactable : (N : ℕ) → N ≤ most_phases → FoldableRows rows → 1 ≤ N → Compactable (unrolled_netlist clock rows N)
  unrolled-compactable N few ok some =
      let e : suc (N - 1) ≡ N = omega arith in
      subst (λ (n : ℕ). Compactable (unrolled_netlist clock rows n)) e (whole-compactable (N - 1) (omega arith) ok)
