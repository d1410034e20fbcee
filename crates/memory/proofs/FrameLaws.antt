-- Bytes that stay while a part of the run is written, and a run of bytes put at an offset and read again.
-- Assumes nothing.
use Prim.Native.Nat.{ℕ, zero, suc, ◌+◌, ◌<◌, ◌≤◌, ◌^◌}
use mathlib.Core.Path.{◌≡◌, refl, sym, ap, ◌∙◌}
use mathlib.Core.List.{List, [], ◌∷◌}
use native.Mathlib.Omega.{arith}
use native.Mathlib.Decide.{dec_lt}
use native.Mathlib.Nat.{add-zero}
use lib.ListN.{length, set, length-set}
use lib.Seq.{sets, get_or-set_same, get_or-set_other}
use Rattle.memory.specs.Fields.{byte_at, u16_at, u16_bytes}
use Rattle.memory.proofs.FieldLaws.{u16-read}
use Rattle.memory.specs.Frames.{KeptOutside}

-- ---- bytes that stay

pub kept-none : (lo hi : ℕ) (w : List ℕ) → KeptOutside lo hi w w
kept-none lo hi w = record { long = refl; before = λ x h. refl; after = λ x h. refl }

pub kept_set : (lo hi p v : ℕ) (w : List ℕ) → lo ≤ p → p < hi → KeptOutside lo hi w (set w p v)
kept_set lo hi p v w a b = record {
  long = length-set w p v;
  before = λ x h. get_or-set_other w p x v 0 (λ (e : x ≡ p). omega arith);
  after = λ x h. get_or-set_other w p x v 0 (λ (e : x ≡ p). omega arith);
}

pub kept_at : {lo hi : ℕ} {w w' : List ℕ} → KeptOutside lo hi w w' → (x : ℕ) → (lo ≤ x → x < hi → ⊥) → byte_at w' x ≡ byte_at w x
kept_at {lo} {hi} K x n = elim (dec_lt x lo) [
  | yes h ↦ K.before x h
  | no h ↦ elim (dec_lt x hi) [ yes k ↦ absurd (n (omega arith) k) | no k ↦ K.after x (omega arith) ]
]

pub u16-kept : {lo hi : ℕ} {w w' : List ℕ} → KeptOutside lo hi w w' → (p : ℕ) → ((x : ℕ) → p ≤ x → x < p + 2 → lo ≤ x → x < hi → ⊥) → u16_at w' p ≡ u16_at w p
u16-kept K p n = rw (kept_at K p (n p (omega arith) (omega arith)), kept_at K (p + 1) (n (p + 1) (omega arith) (omega arith))) refl

pub kept-wider : (lo hi : ℕ) {a b : ℕ} {w w' : List ℕ} → KeptOutside a b w w' → lo ≤ a → b ≤ hi → KeptOutside lo hi w w'
kept-wider lo hi K a b = record { long = K.long; before = λ x h. K.before x (omega arith); after = λ x h. K.after x (omega arith) }

-- Two parts, one after the other, within a third.
pub kept-join : (lo hi : ℕ) {a b c d : ℕ} (w w' w'' : List ℕ) → KeptOutside a b w w' → KeptOutside c d w' w'' → lo ≤ a → lo ≤ c → b ≤ hi → d ≤ hi → KeptOutside lo hi w w''
kept-join lo hi w w' w'' K L a b c d = record {
  long = L.long ∙ K.long;
  before = λ x h. L.before x (omega arith) ∙ K.before x (omega arith);
  after = λ x h. L.after x (omega arith) ∙ K.after x (omega arith);
}

-- ---- a run of bytes put at an offset

pub kept_sets : (lo hi : ℕ) (vs l : List ℕ) (i : ℕ) → lo ≤ i → i + length vs ≤ hi → KeptOutside lo hi l (sets l i vs)
kept_sets lo hi [] l i a b = kept-none lo hi l
kept_sets lo hi (v ∷ vs) l i a b =
    kept-join lo hi l (set l i v) (sets (set l i v) (suc i) vs) (kept_set lo hi i v l a (omega arith)) (kept_sets lo hi vs (set l i v) (suc i) (omega arith) (omega arith)) (omega arith) (omega arith) (omega arith) (omega arith)

pub sets-at : (vs l : List ℕ) (i d : ℕ) → d < length vs → i + length vs ≤ length l → byte_at (sets l i vs) (i + d) ≡ byte_at vs d
sets-at [] l i d h k = absurd (omega arith)
sets-at (v ∷ vs) l i zero h k =
    (kept_sets (suc i) (suc i + length vs) vs (set l i v) (suc i) (omega arith) (omega arith)).before (i + 0) (omega arith)
    ∙ ap (byte_at (set l i v)) (add-zero i) ∙ get_or-set_same l i v 0 (omega arith)
sets-at (v ∷ vs) l i (suc d) h k =
    let e : i + suc d ≡ suc i + d = omega arith in
    let n = (kept_set i (suc i) i v l (omega arith) (omega arith)).long in
    ap (byte_at (sets (set l i v) (suc i) vs)) e ∙ sets-at vs (set l i v) (suc i) d (omega arith) (omega arith)

pub u16-back : (w : List ℕ) (p v : ℕ) → v < 2 ^ 16 → p + 2 ≤ length w → u16_at (sets w p (u16_bytes v)) p ≡ v
u16-back w p v h room =
    u16-read (sets w p (u16_bytes v)) p v h
    (ap (byte_at (sets w p (u16_bytes v))) (sym (add-zero p)) ∙ sets-at (u16_bytes v) w p 0 (omega arith) room)
    (sets-at (u16_bytes v) w p 1 (omega arith) room)
