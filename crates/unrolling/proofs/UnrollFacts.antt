-- What the code's unrolling leans on in the model's: phase 0 asks for no earlier image; only what is known of the rows in the phases made counts; how many rows there are at most; where the new registers stand, and what their next values name.
-- Assumes nothing.
use Prim.Native.Nat.{ℕ, zero, suc, ◌+◌, ◌*◌, ◌-◌, ◌<◌, ◌≤◌}
use mathlib.Core.Path.{◌≡◌, refl, sym, ap, ◌∙◌, subst}
use mathlib.Core.Bool.{true}
use mathlib.Core.List.{List, [], ◌∷◌, ◌++◌, map}
use native.Mathlib.Omega.{arith}
use native.Mathlib.Nat.{mul-le-mul, le_refl}
use lib.ListN.{length, get_or, length-append, length-map, get_or-append}
use lib.Seq.{get_or_at}
use Rattle.memory.specs.Lists.{join_below}
use Rattle.memory.proofs.TestLaws.{last_or}
use Rattle.memory.proofs.ListLaws.{join-cong}
use Rattle.ternary.specs.Ternary.{Ternary, lo, hi, X}
use Rattle.netlist.specs.Limits.{most_folded_rows, most_phases, most_original_rows}
use Rattle.netlist.specs.Rows.{Row, constant, input, register, and_gate, xor_gate, mux_gate, output, row_at, kind_of, phase_of, has_name, is_register}
use Rattle.netlist.proofs.RowLaws.{each_append, each-one}
use Rattle.netlist.specs.WellFormed.{EachRow, NextBelow, FoldableRows}
use Rattle.abstraction.specs.GateMaking.{Image, Unrolling}
use Rattle.abstraction.specs.Unrolling.{register_image, row_image, image_at, patch_next, phase_output, unroll_phase, unroll_phases, phase_outputs, unrolled_netlist}
use Rattle.abstraction.proofs.BuilderLaws.{ImageOver, Added, none, one, add-rows, added-length}
use Rattle.abstraction.proofs.UnrollLaws.{unroll-keeps}
use Rattle.abstraction.proofs.SizeBound.{makes, gives, total, total-one, whole-bound}

-- ---- phase 0

register-first : (v : Ternary) (previous previous' : List ℕ) (r n l : ℕ) → register_image v 0 previous r n l ≡ register_image v 0 previous' r n l
register-first lo previous previous' r n l = refl
register-first hi previous previous' r n l = refl
register-first X previous previous' r n l = refl

pub image-first : (v : Ternary) (previous previous' images : List ℕ) (r : Row) → row_image v 0 previous images r ≡ row_image v 0 previous' images r
image-first v previous previous' images constant = refl
image-first v previous previous' images (input _ _) = refl
image-first v previous previous' images (register r n l) = register-first v previous previous' r n l
image-first v previous previous' images (and_gate _ _) = refl
image-first v previous previous' images (xor_gate _ _) = refl
image-first v previous previous' images (mux_gate _ _ _) = refl
image-first v previous previous' images (output _ _ _) = refl

-- ---- what is known of the rows

-- Two clocks that agree on the rows in the phases that are made.
module _ (clock clock' : ℕ → ℕ → Ternary) (rows : List Row) where
  phase-clock : (k : ℕ) (base : List Row) (previous : List ℕ) (n : ℕ) → ((i : ℕ) → i < n → clock i k ≡ clock' i k) → unroll_phase clock rows k base previous n ≡ unroll_phase clock' rows k base previous n
  unfolding unroll_phase
  phase-clock k base previous zero h = refl
  phase-clock k base previous (suc n) h = rw (h n (omega arith), phase-clock k base previous n (λ i l. h i (omega arith)))

  phases-clock : (N : ℕ) → ((i k : ℕ) → i < length rows → k < N → clock i k ≡ clock' i k) → unroll_phases clock rows N ≡ unroll_phases clock' rows N
  unfolding unroll_phases
  phases-clock zero h = refl
  phases-clock (suc N) h =
      let q = unroll_phases clock rows N in
      phase-clock N q.made q.images (length rows) (λ i l. h i N l (omega arith))
      ∙ ap (λ (z : Unrolling). unroll_phase clock' rows N z.made z.images (length rows)) (phases-clock N (λ i k l b. h i k l (omega arith)))

  pub netlist-clock : (N : ℕ) → ((i k : ℕ) → i < length rows → k < N → clock i k ≡ clock' i k) → unrolled_netlist clock rows N ≡ unrolled_netlist clock' rows N
  unfolding unrolled_netlist phase_outputs
  netlist-clock N h =
      ap (λ (z : Unrolling). map (patch_next z.images) z.made ++ join_below N (phase_outputs clock rows)) (phases-clock N h)
      ∙ ap (λ (z : List Row). map (patch_next (unroll_phases clock' rows N).images) (unroll_phases clock' rows N).made ++ z)
      (join-cong N (phase_outputs clock rows) (phase_outputs clock' rows)
      (λ k l. ap (λ (z : Unrolling). join_below (length rows) (λ i. phase_output k (get_or z.images i 0) (row_at rows i))) (phases-clock (suc k) (λ i j b d. h i j b (omega arith)))))

-- ---- how many rows

module _ (clock : ℕ → ℕ → Ternary) (rows : List Row) where
  phase-adds : (k : ℕ) (base : List Row) (previous : List ℕ) (n : ℕ) → length (unroll_phase clock rows k base previous n).made ≤ length base + n
  unfolding unroll_phase
  phase-adds k base previous zero = omega arith
  phase-adds k base previous (suc n) =
      let q = unroll_phase clock rows k base previous n in
      omega (arith, phase-adds k base previous n, (added-length (add-rows q (image_at clock rows k previous q n))).1)

  module _ (A : FoldableRows rows) where
    some-row : 0 < length rows
    some-row = omega (arith, A.checked.has-output.4)

    netlist-length : (N : ℕ) → length (unrolled_netlist clock rows N) ≤ 1 + N * (length rows - 1)
    netlist-length N =
        let s = some-row in
        let n : suc (length rows - 1) ≡ length rows = omega arith in
        let t = subst (λ (z : ℕ). total rows makes z + total rows gives z ≤ length rows - 1) n (total-one rows A.checked.constant-first (length rows - 1)) in
        omega (arith, whole-bound rows clock N, mul-le-mul (le_refl N) t)

    pub netlist-few : (N : ℕ) → N ≤ most_phases → length (unrolled_netlist clock rows N) < most_folded_rows
    netlist-few N h =
        let l : length rows - 1 ≤ most_original_rows - 1 = omega (arith, A.small) in
        omega (arith, netlist-length N, mul-le-mul h l)

    made-length : (k : ℕ) → length (unroll_phases clock rows k).made ≤ length (unrolled_netlist clock rows k)
    unfolding unrolled_netlist
    made-length k =
        let q = unroll_phases clock rows k in
        omega (arith, length-append (map (patch_next q.images) q.made) (join_below k (phase_outputs clock rows)), length-map q.made (patch_next q.images))

    -- Before row i of phase k.
    pub made-few : (k i : ℕ) → k < most_phases → i < length rows → length (unroll_phase clock rows k (unroll_phases clock rows k).made (unroll_phases clock rows k).images i).made < most_folded_rows
    made-few k i h b =
        let q = unroll_phases clock rows k in
        let l : length rows - 1 ≤ most_original_rows - 1 = omega (arith, A.small) in
        let p : k ≤ most_phases - 1 = omega arith in
        omega (arith, phase-adds k q.made q.images i, made-length k, netlist-length k, mul-le-mul p l, A.small)

-- ---- the new registers

-- A row of kind 2 is a register.
pub as-register : (P : Row → Type 0) (r : Row) → kind_of r ≡ 2 → ((s a l : ℕ) → P (register s a l)) → P r
as-register P constant e f = absurd (omega arith)
as-register P (input _ _) e f = absurd (omega arith)
as-register P (register s a l) e f = f s a l
as-register P (and_gate _ _) e f = absurd (omega arith)
as-register P (xor_gate _ _) e f = absurd (omega arith)
as-register P (mux_gate _ _ _) e f = absurd (omega arith)
as-register P (output _ _ _) e f = absurd (omega arith)

-- A new register is the original's row, and it is made in phase 0.
next-new : (m : ℕ) (s r : Row) → (is_register r ≡ true → r ≡ s) → NextBelow m s → NextBelow m r
next-new m s constant e h = tt
next-new m s (input _ _) e h = tt
next-new m s (register x n l) e h = subst (NextBelow m) (sym (e refl)) h
next-new m s (and_gate _ _) e h = tt
next-new m s (xor_gate _ _) e h = tt
next-new m s (mux_gate _ _ _) e h = tt
next-new m s (output _ _ _) e h = tt

first-phase : (k : ℕ) (r : Row) → (has_name r ≡ true → phase_of r ≡ k) → kind_of r ≡ 2 → k ≡ 0
first-phase k r f e = as-register (λ (z : Row). (has_name z ≡ true → phase_of z ≡ k) → k ≡ 0) r e (λ s a l g. sym (g refl)) f

-- Before row n of phase k: a register's next value names an original row, and no register stands behind as many rows as the original has.
pub record NewRegisters (rows : List Row) (k n : ℕ) (made : List Row) : Type 0 where
  pub nexts : EachRow (NextBelow (length rows)) made
  pub late : (j : ℕ) → j < length made → length rows ≤ j → kind_of (row_at made j) ≡ 2 → ⊥
  pub few : k ≡ 0 → length made ≤ 1 + (n - 1)

module _ (rows : List Row) (A : FoldableRows rows) where
  registers-step : (k n : ℕ) {made : List Row} {i : Image} {made' : List Row} → n < length rows → Added made i made' → ImageOver (length made) k (row_at rows n) i → NewRegisters rows k n made → NewRegisters rows k (suc n) made'
  registers-step k n h none o w = record { nexts = w.nexts; late = w.late; few = λ e. omega (arith, w.few e) }
  registers-step k zero {made} h (one {r} {b}) o w = absurd (omega (arith, o.0.solid, o.0.kind, ap kind_of A.checked.constant-first))
  registers-step k (suc n) {made} h (one {r} {b}) o w = record {
    nexts = each_append (NextBelow (length rows)) made (r ∷ []) w.nexts (each-one (NextBelow (length rows)) r (next-new (length rows) (row_at rows (suc n)) r o.0.same (A.checked.nexts (suc n) h)));
    late = λ j l d e.
        last_or j (length made) (omega (arith, length-append made (r ∷ [])))
        (λ q. w.late j q d (rw (get_or-append made (r ∷ []) constant j q) at e))
        (λ q.
        let z : kind_of r ≡ 2 = rw (q, get_or_at made r [] constant (length made) refl) at e in
        let y = w.few (first-phase k r o.0.phase z) in
        omega arith);
    few = λ e. omega (arith, w.few e, length-append made (r ∷ []));
  }

  pub new-registers : (clock : ℕ → ℕ → Ternary) (k : ℕ) → NewRegisters rows k 0 (unroll_phases clock rows k).made
  new-registers clock =
      unroll-keeps clock rows (NewRegisters rows) (λ k n made i made' b a o w. registers-step k n b a o w)
      (record { nexts = each-one (NextBelow (length rows)) constant tt; late = λ j l d e. absurd (omega (arith, A.checked.has-output.4)); few = λ e. omega arith })
      (λ k made w. record { nexts = w.nexts; late = w.late; few = λ e. absurd (omega arith) })
