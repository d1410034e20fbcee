-- What is answered by a row's kind.
-- Assumes nothing.
use Prim.Native.Nat.{ℕ, zero, suc, ◌≤◌}
use mathlib.Core.Path.{◌≡◌, refl}
use native.Mathlib.Omega.{arith}
use borrow.Author.Tests.{le-leb, lt-leb}
use Rattle.blockfile.specs.RowCode.{if_known}

pub kind-known : {A : Type 0} (k : ℕ) (x none : A) → k ≤ 6 → if_known k x none ≡ x
kind-known k x none h = rw (le-leb k 6 h)

-- None of the kinds 0 to 6, as a match says it.
pub kind-unknown : {A : Type 0} (k : ℕ) (x none : A) → (k ≡ 0 → ⊥) → (k ≡ 1 → ⊥) → (k ≡ 2 → ⊥) → (k ≡ 3 → ⊥) → (k ≡ 4 → ⊥) → (k ≡ 5 → ⊥) → (k ≡ 6 → ⊥) → none ≡ if_known k x none
kind-unknown zero x none n0 n1 n2 n3 n4 n5 n6 = absurd (n0 refl)
kind-unknown (suc zero) x none n0 n1 n2 n3 n4 n5 n6 = absurd (n1 refl)
kind-unknown (suc (suc zero)) x none n0 n1 n2 n3 n4 n5 n6 = absurd (n2 refl)
kind-unknown (suc (suc (suc zero))) x none n0 n1 n2 n3 n4 n5 n6 = absurd (n3 refl)
kind-unknown (suc (suc (suc (suc zero)))) x none n0 n1 n2 n3 n4 n5 n6 = absurd (n4 refl)
kind-unknown (suc (suc (suc (suc (suc zero))))) x none n0 n1 n2 n3 n4 n5 n6 = absurd (n5 refl)
kind-unknown (suc (suc (suc (suc (suc (suc zero)))))) x none n0 n1 n2 n3 n4 n5 n6 = absurd (n6 refl)
kind-unknown (suc (suc (suc (suc (suc (suc (suc k))))))) x none n0 n1 n2 n3 n4 n5 n6 = rw (lt-leb (suc (suc (suc (suc (suc (suc (suc k))))))) 6 (omega arith))
