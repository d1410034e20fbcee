-- The walk's steps as the code takes them: by the slots that it reads and sets.
-- Assumes nothing.
use Prim.Native.Nat.{ℕ, ◌+◌, ◌-◌, ◌*◌, ◌<◌, ◌≤◌, ◌^◌}
use mathlib.Core.Path.{◌≡◌, refl, sym, ap, ◌∙◌}
use mathlib.Core.List.{List}
use native.Mathlib.Omega.{arith}
use native.Mathlib.Numerals.{add-one}
use lib.ListN.{length}
use lib.Seq.{length-sets}
use Rattle.memory.specs.Fields.{u16_bytes}
use Rattle.memory.specs.Lists.{Among}
use Rattle.memory.specs.Slots.{slot_at, set_slot}
use Rattle.memory.proofs.SlotLaws.{slot-other}
use Rattle.netlist.specs.Rows.{Row, row_at}
use Rattle.ordering.specs.GateOrder.{operands_of, Grounded}
use Rattle.gate_rows.specs.Sources.{source_rows, Source}
use Rattle.gate_rows.specs.declared.Layout.{Layout}
use Rattle.gate_rows.proofs.RowLaws.{row_inside}
use Rattle.gate_loops.specs.Walk.{settled_slot, Unsettled, WalkReady, Walked}
use Rattle.gate_loops.proofs.RowLaws.{first-no-gate}
use Rattle.gate_loops.proofs.WalkLaws.{unsettled, falls-opened, falls-settled, open_of, Walking, HasSlots, walk_start, row_open, walk-push, walk-pop, walk_end, ungrounded}

set-length : (w w' : List ℕ) (j v : ℕ) → w' ≡ set_slot w j v → length w' ≡ length w
set-length w w' j v e = ap length e ∙ length-sets w (2 * j) (u16_bytes v)

-- The walk from `root` stands at `row` of the source's n rows; w₀ has the slots as they were when it started.
pub record Standing (layout : Layout) (f w₀ w : List ℕ) (n root row : ℕ) : Type 0 where
  pub ready : Source layout f n
  pub started : root < n
  pub inside : row < n
  pub room : 2 * n ≤ length w
  pub long : length w ≡ length w₀
  pub walking : Walking (source_rows layout f) w₀ w root row

module _ (layout : Layout) (f : List ℕ) (n : ℕ) (Q : Source layout f n) where
  slots-of : (w : List ℕ) → 2 * n ≤ length w → HasSlots (source_rows layout f) w
  slots-of w h = record { checked = Q.rows; few = omega (arith, Q.count, Q.few); room = omega (arith, Q.count) }

  pub walk-starts : (root : ℕ) (w w' : List ℕ) → root < n → 2 * n ≤ length w → WalkReady (source_rows layout f) w root → w' ≡ set_slot w root 1 → Standing layout f w' w' n root root
  walk-starts root w w' l room R e = record {
    ready = Q;
    started = l;
    inside = l;
    room = omega (arith, set-length w w' root 1 e);
    long = refl;
    walking = rw e (walk_start (source_rows layout f) w (slots-of w room) root (row_inside layout f n Q root l) R.settled R.closed R.unseen);
  }

module _ (layout : Layout) (f w₀ w : List ℕ) (n root row : ℕ) (S : Standing layout f w₀ w n root row) where
  abbrev rows : List Row
  rows = source_rows layout f

  abbrev W : Walking rows w₀ w root row
  W = S.walking

  T : HasSlots rows w
  T = slots-of layout f n S.ready w S.room

  open-slot : (0 < slot_at w row) × (slot_at w row < settled_slot)
  open-slot = row_open rows w T w₀ root row W

  module _ (next : ℕ) (N : Unsettled rows w row next) where
    next-in : next < n
    next-in = omega (arith, N.inside, S.ready.count)

    pub next-room : 2 * next + 2 ≤ length w
    next-room = omega (arith, next-in, S.room)

    -- ---- the row waits for none

    module _ (none : next ≡ 0) (s : ℕ) (e : s ≡ slot_at w row) (w' : List ℕ) (q : w' ≡ set_slot w row settled_slot) where
      all : (j : ℕ) → Among j (operands_of (row_at rows row)) → slot_at w j ≡ settled_slot
      all = N.none none (W.settled.sources 0 (omega (arith, N.inside)) (first-no-gate rows S.ready.rows))

      pub walk_ends : (v : List ℕ) → WalkReady rows v root → w₀ ≡ set_slot v root 1 → s ≡ 1 → Walked rows v w' root
      walk_ends v R k z =
          let E = walk_end rows w T w₀ root row W all (row_inside layout f n S.ready root S.started) (sym e ∙ z) in
          rw q (record {
            settled = E.settled;
            closed = E.closed;
            reached = E.reached;
            kept = λ x h d. E.kept x h (rw k (slot-other v root 1 x (λ p. let r : slot_at v root ≡ settled_slot = ap (slot_at v) (sym p) ∙ d in omega (arith, r, R.unseen)) ∙ d));
          })

      module _ (more : ¬ (s ≡ 1)) where
        popped : (s - 1 < length rows) × Walking rows w₀ (set_slot w row settled_slot) root (s - 1)
        popped = walk-pop rows w T w₀ root row W all (s - 1) (omega (arith, open-slot.0)) (omega (arith, open-slot.0))

        pub walk-goes-back : Standing layout f w₀ w' n root (s - 1)
        walk-goes-back =
            let l = set-length w w' row settled_slot q in
            record { ready = S.ready; started = S.started; inside = omega (arith, popped.0, S.ready.count); room = omega (arith, l, S.room); long = l ∙ S.long; walking = rw q popped.1 }

        pub back-less : unsettled w' n < unsettled w n
        back-less = rw q (falls-settled w row settled_slot (omega (arith, S.room, S.inside)) (omega arith) n S.inside open-slot.0 open-slot.1 refl)

    -- ---- it waits for `next`

    module _ (some : ¬ (next ≡ 0)) (s : ℕ) where
      pub walk-meets-loop : s ≡ slot_at w next → ¬ (s ≡ 0) → s < 2 ^ 16 → ¬ Grounded rows root
      walk-meets-loop e d l G =
          let o = open_of (slot_at w next) (omega arith) (omega (arith, (N.some some).1)) in
          let r = open_of (slot_at w root) (omega (arith, W.start)) (omega (arith, W.start)) in
          ungrounded rows w T w₀ root row W next (N.some some).0 ((W.open-rows next).0 (N.inside, o)) root G ((W.open-rows root).0 (row_inside layout f n S.ready root S.started, r))

      module _ (unseen : s ≡ 0) (e : s ≡ slot_at w next) (w' : List ℕ) (q : w' ≡ set_slot w next (row + 1)) where
        pub walk-goes-on : Standing layout f w₀ w' n root next
        walk-goes-on =
            let l = set-length w w' next (row + 1) q in
            record {
              ready = S.ready;
              started = S.started;
              inside = next-in;
              room = omega (arith, l, S.room);
              long = l ∙ S.long;
              walking = rw (q, add-one) (walk-push rows w T w₀ root row W next N.inside (N.some some).0 (sym e ∙ unseen));
            }

        pub next-less : unsettled w' n < unsettled w n
        next-less = rw q (falls-opened w next (row + 1) next-room (omega (arith, S.ready.few, S.inside)) n next-in (sym e ∙ unseen) (omega arith) (omega (arith, S.ready.few, S.inside)))
