-- Slots set and read again, and cleared.
-- Assumes nothing.
use Prim.Native.Nat.{ℕ, ◌+◌, ◌*◌, ◌<◌, ◌≤◌, ◌^◌}
use mathlib.Core.Path.{◌≡◌}
use mathlib.Core.Logic.{◌≢◌}
use mathlib.Core.List.{List}
use native.Mathlib.Omega.{arith}
use lib.ListN.{length, replicate}
use Rattle.memory.specs.Fields.{u16_bytes}
use Rattle.memory.specs.Slots.{slot_at, set_slot}
use Rattle.memory.proofs.FieldLaws.{zeros-at}
use Rattle.memory.proofs.FrameLaws.{u16-kept, kept_sets, u16-back}

module _ (w : List ℕ) (j v : ℕ) where
  pub slot_same : 2 * j + 2 ≤ length w → v < 2 ^ 16 → slot_at (set_slot w j v) j ≡ v
  slot_same h k = u16-back w (2 * j) v k h

  pub slot-other : (x : ℕ) → x ≢ j → slot_at (set_slot w j v) x ≡ slot_at w x
  slot-other x d = u16-kept (kept_sets (2 * j) (2 * j + 2) (u16_bytes v) w (2 * j) (omega arith) (omega arith)) (2 * x) (λ y a b c e. d (omega arith))

pub slots-cleared : (w : List ℕ) (n : ℕ) → w ≡ replicate n 0 → (j : ℕ) → slot_at w j ≡ 0
slots-cleared w n e j = rw (e, zeros-at n (2 * j), zeros-at n (2 * j + 1))
