-- The lowest ready row, sought group by group; a row that becomes ready, and one that is placed.
-- Assumes nothing.
use Prim.Native.Nat.{ℕ, ◌+◌, ◌-◌, ◌*◌, ◌<◌, ◌≤◌, ◌/◌, ◌^◌}
use mathlib.Core.Path.{◌≡◌, refl, sym, ap, ◌∙◌}
use mathlib.Core.Bool.{Bool}
use mathlib.Core.List.{List}
use native.Mathlib.Omega.{arith}
use native.Mathlib.Decide.{dec_lt}
use lib.ListN.{set, length-set}
use lib.Seq.{get_or-set_other}
use lib.Dec.{eqb}
use borrow.Author.Tests.{eqb-true, eqb-false, eq-eqb, ne_eqb}
use Rattle.memory.specs.Fields.{byte_at, u16_bytes}
use Rattle.memory.specs.Frames.{KeptOutside}
use Rattle.memory.specs.Slots.{slot_at, set_slot}
use Rattle.memory.proofs.ListLaws.{first-is, first-least, first_found, first-none}
use Rattle.memory.proofs.FrameLaws.{kept_set, kept_sets, u16-kept}
use Rattle.memory.proofs.SlotLaws.{slot_same, slot-other}
use Rattle.ready_gates.specs.ReadySlots.{ready_slot, first_ready_from, first_ready, group_end, ReadyMarked, SlotsKept}

abbrev is_ready : List ℕ → ℕ → Bool
is_ready w x = eqb (slot_at w x) ready_slot

-- No row from i to j - 1 is ready.
abbrev pub NoneReady : List ℕ → ℕ → ℕ → Type 0
NoneReady w i j = (x : ℕ) → i ≤ x → x < j → slot_at w x ≡ ready_slot → ⊥

-- ---- the first ready row of some

module _ (w : List ℕ) (i j : ℕ) where
  pub none_more : (k s : ℕ) → NoneReady w i k → s ≡ slot_at w k → (s ≡ ready_slot → ⊥) → NoneReady w i (k + 1)
  none_more k s h e n x a b q = elim (dec_lt x k) [
    | yes l ↦ h x a l q
    | no l ↦ (let p : x ≡ k = omega arith in n (e ∙ ap (slot_at w) (sym p) ∙ q))
  ]

  pub first-at : (k s : ℕ) → i ≤ k → k < j → NoneReady w i k → s ≡ slot_at w k → s ≡ ready_slot → k ≡ first_ready_from w i j
  first-at k s a b h e q =
      sym
      (first_found i (j - i) (is_ready w) k a (omega arith)
      (λ x c d. ne_eqb (slot_at w x) ready_slot (h x c d))
      (eq-eqb (slot_at w k) ready_slot (sym e ∙ q)))

  pub first_past : (k : ℕ) → i ≤ j → j ≤ k → NoneReady w i k → j ≡ first_ready_from w i j
  first_past k a b h =
      let e = first-none i (j - i) (is_ready w) (λ x c d. ne_eqb (slot_at w x) ready_slot (h x c (omega arith))) in
      omega (arith, e)

-- ---- the slots stay

pub slots_same : (n : ℕ) (w : List ℕ) → SlotsKept n w w
slots_same n w = record { long = refl; slots = λ i h. refl }

-- The mark of group g is set.
mark-set-kept : (n : ℕ) (w : List ℕ) (g v : ℕ) → SlotsKept n w (set w (2 * n + g) v)
mark-set-kept n w g v =
    let m = 2 * n + g in
    record {
      long = length-set w m v;
      slots = λ i l. u16-kept (kept_set m (m + 1) m v w (omega arith) (omega arith)) (2 * i) (λ x a b c d. omega arith);
    }

pub mark-kept : (n : ℕ) (w₀ w : List ℕ) (g v : ℕ) → SlotsKept n w₀ w → SlotsKept n w₀ (set w (2 * n + g) v)
mark-kept n w₀ w g v K =
    let L = mark-set-kept n w g v in
    record { long = L.long ∙ K.long; slots = λ i l. L.slots i l ∙ K.slots i l }

module _ (n : ℕ) (w : List ℕ) (low : ℕ) (R : ReadyMarked n w low) where
  -- ---- what is known of ready rows

  marked_from : (k : ℕ) → ((i : ℕ) → i < n → slot_at w i ≡ ready_slot → k ≤ i) → ReadyMarked n w k
  marked_from k h = record { room = R.room; marked = R.marked; above = h }

  -- No row is below the first ready one.
  pub marked-first : (j : ℕ) → first_ready n w ≡ j → ReadyMarked n w j
  marked-first j q = marked_from j (λ i l e. omega (arith, q, first-least 0 (n - 0) (is_ready w) i (omega arith) (eq-eqb (slot_at w i) ready_slot e)))

  -- ---- the lowest, group by group

  -- The first ready row from `low` on is the lowest.
  module _ (w₀ : List ℕ) (K : SlotsKept n w₀ w) where
    none_before : (e r : ℕ) → r ≡ first_ready_from w low e → r ≤ n → NoneReady w₀ 0 r
    none_before e r q h x a b s =
        let was : slot_at w x ≡ ready_slot = K.slots x (omega arith) ∙ s in
        eqb-false (slot_at w x) ready_slot ((first-is low (e - low) (is_ready w)).before x (R.above x (omega arith) was) (omega arith)) was

    pub lowest-found : (g e r : ℕ) → e ≡ group_end n g → r ≡ first_ready_from w low e → r < e → r ≡ first_ready n w₀
    lowest-found g e r p q h =
        let F = first-is low (e - low) (is_ready w) in
        let is : slot_at w r ≡ ready_slot = eqb-true (slot_at w r) ready_slot (rw (← q) at (F.holds (omega (arith, F.from)))) in
        first-at w₀ 0 n r (slot_at w r) (omega arith) (omega arith) (none_before e r q (omega arith)) (K.slots r (omega arith)) is

    -- All groups are passed.
    pub lowest-none : n ≤ low → n ≡ first_ready n w₀
    lowest-none h = first_past w₀ 0 n n (omega arith) (omega arith) (λ x a b s. omega (arith, R.above x b (K.slots x b ∙ s)))

  -- Group g has no ready row.
  pub group-passed : (g e r : ℕ) → e ≡ group_end n g → r ≡ first_ready_from w low e → e ≤ r → ReadyMarked n w (64 * (g + 1))
  group-passed g e r p q h = marked_from (64 * (g + 1)) (λ i l s.
      elim (dec_lt i e) [
        | yes k ↦ absurd (eqb-false (slot_at w i) ready_slot ((first-is low (e - low) (is_ready w)).before i (R.above i l s) (omega arith)) s)
        | no k ↦ omega arith
      ])

-- A group that has no mark is passed.
pub group-unmarked : (n : ℕ) (w : List ℕ) (g : ℕ) → ReadyMarked n w (64 * g) → byte_at w (2 * n + g) ≡ 0 → ReadyMarked n w (64 * (g + 1))
group-unmarked n w g R z = marked_from n w (64 * g) R (64 * (g + 1)) (λ i l s.
    elim (dec_lt i (64 * (g + 1))) [
      | yes k ↦ (let d : i / 64 ≡ g = omega (arith, R.above i l s) in absurd (omega (arith, R.marked i l s, ap (λ (x : ℕ). byte_at w (2 * n + x)) d)))
      | no k ↦ omega arith
    ])

-- The mark of a group that is passed is cleared.
pub mark-cleared : (n : ℕ) (w : List ℕ) (g : ℕ) → ReadyMarked n w (64 * (g + 1)) → ReadyMarked n (set w (2 * n + g) 0) (64 * (g + 1))
mark-cleared n w g R =
    let K = mark-set-kept n w g 0 in
    record {
      room = omega (arith, K.long, R.room);
      marked = λ i l s.
          let u = sym (K.slots i l) ∙ s in
          let a = R.above i l u in
          rw (get_or-set_other w (2 * n + g) (2 * n + i / 64) 0 0 (λ (e : 2 * n + i / 64 ≡ 2 * n + g). omega arith)) (R.marked i l u);
      above = λ i l s. R.above i l (sym (K.slots i l) ∙ s);
    }

-- ---- a slot is set

-- The slot of row j becomes v. The other slots stay, by `slot-other`.
module _ (n : ℕ) (w : List ℕ) (low j v : ℕ) (R : ReadyMarked n w low) (h : j < n) (k : v < 2 ^ 16) where
  set-frame : KeptOutside (2 * j) (2 * j + 2) w (set_slot w j v)
  set-frame = kept_sets (2 * j) (2 * j + 2) (u16_bytes v) w (2 * j) (omega arith) (omega arith)

  pub set_same : slot_at (set_slot w j v) j ≡ v
  set_same = slot_same w j v (omega (arith, R.room)) k

  set-marks : (g : ℕ) → byte_at (set_slot w j v) (2 * n + g) ≡ byte_at w (2 * n + g)
  set-marks g = set-frame.after (2 * n + g) (omega arith)

  -- A row whose slot is not ready is placed.
  module _ (d : ¬ (v ≡ ready_slot)) where
    was-ready : (i : ℕ) → slot_at (set_slot w j v) i ≡ ready_slot → slot_at w i ≡ ready_slot
    was-ready i s = sym (slot-other w j v i (λ (e : i ≡ j). d (sym set_same ∙ ap (slot_at (set_slot w j v)) (sym e) ∙ s))) ∙ s

    pub marked-placed : ReadyMarked n (set_slot w j v) low
    marked-placed = record {
      room = omega (arith, set-frame.long, R.room);
      marked = λ i l s. rw (set-marks (i / 64)) (R.marked i l (was-ready i s));
      above = λ i l s. R.above i l (was-ready i s);
    }
