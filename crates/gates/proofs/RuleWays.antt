-- The rules for AND, XOR and MUX by the ways through the code: a law for each way, its premises the outcomes of the tests on it.
-- Assumes nothing.
use Prim.Native.Nat.{ℕ, ◌+◌, ◌*◌, ◌/◌, ◌%◌}
use mathlib.Core.Path.{◌≡◌, sym, ap, ◌∙◌}
use mathlib.Core.Bool.{true, false}
use native.Mathlib.Omega.{arith}
use lib.Dec.{eqb}
use borrow.Author.Tests.{eq-eqb, ne_eqb}
use Rattle.netlist.specs.Rows.{mux_gate}
use Rattle.abstraction.specs.GateMaking.{complement, new_row, make_and, make_xor, make_mux}
use Rattle.gates.specs.declared.MadeImage.{MadeImage}
use Rattle.gates.specs.declared.MadeImage.TheVariants.{Existing}
use Rattle.gates.specs.ImageCode.{image_code, pair_code}

-- ---- AND

module _ (a b : ℕ) where
  pub and-first-false : a ≡ 0 → Existing 0 ≡ image_code (make_and a b)
  unfolding make_and
  and-first-false e = simp (eq-eqb a 0 e)

  module _ (n1 : a ≡ 0 → ⊥) where
    pub and-second-false : eqb b 0 ≡ true → Existing 0 ≡ image_code (make_and a b)
    unfolding make_and
    and-second-false e = simp (ne_eqb a 0 n1, e)

    module _ (n2 : eqb b 0 ≡ false) (o : ℕ) (q : o ≡ complement b) where
      pub and-complements : eqb a o ≡ true → Existing 0 ≡ image_code (make_and a b)
      unfolding make_and
      and-complements e = simp (ne_eqb a 0 n1, n2, ap (eqb a) (sym q) ∙ e)

      module _ (n3 : eqb a o ≡ false) where
        apart : eqb a (complement b) ≡ false
        apart = ap (eqb a) (sym q) ∙ n3

        pub and-first-true : a ≡ 1 → Existing b ≡ image_code (make_and a b)
        unfolding make_and
        and-first-true e = simp (ne_eqb a 0 n1, n2, apart, eq-eqb a 1 e)

        module _ (n4 : a ≡ 1 → ⊥) where
          pub and-second-true : b ≡ 1 → Existing a ≡ image_code (make_and a b)
          unfolding make_and
          and-second-true e = simp (ne_eqb a 0 n1, n2, apart, ne_eqb a 1 n4, eq-eqb b 1 e)

          module _ (n5 : b ≡ 1 → ⊥) where
            pub and-equal : a ≡ b → Existing a ≡ image_code (make_and a b)
            unfolding make_and
            and-equal e = simp (ne_eqb a 0 n1, n2, apart, ne_eqb a 1 n4, ne_eqb b 1 n5, eq-eqb a b e)

            pub and-new : (r : MadeImage) → (a ≡ b → ⊥) → r ≡ pair_code 3 a b 0 → r ≡ image_code (make_and a b)
            unfolding make_and
            and-new r n6 e = simp (e, ne_eqb a 0 n1, n2, apart, ne_eqb a 1 n4, ne_eqb b 1 n5, ne_eqb a b n6)

-- ---- XOR

module _ (a b : ℕ) where
  pub xor-equal : a ≡ b → Existing 0 ≡ image_code (make_xor a b)
  unfolding make_xor
  xor-equal e = simp (eq-eqb a b e)

  module _ (n1 : a ≡ b → ⊥) (o : ℕ) (q : o ≡ complement b) where
    pub xor-complements : a ≡ o → Existing 1 ≡ image_code (make_xor a b)
    unfolding make_xor
    xor-complements e = simp (ne_eqb a b n1, eq-eqb a (complement b) (e ∙ q))

    module _ (n2 : a ≡ o → ⊥) where
      no-complements : eqb a (complement b) ≡ false
      no-complements = ne_eqb a (complement b) (λ e. n2 (e ∙ sym q))

      pub xor-first-false : a ≡ 0 → Existing b ≡ image_code (make_xor a b)
      unfolding make_xor
      xor-first-false e = simp (ne_eqb a b n1, no-complements, eq-eqb a 0 e)

      module _ (n3 : a ≡ 0 → ⊥) where
        pub xor-second-false : b ≡ 0 → Existing a ≡ image_code (make_xor a b)
        unfolding make_xor
        xor-second-false e = simp (ne_eqb a b n1, no-complements, ne_eqb a 0 n3, eq-eqb b 0 e)

        module _ (n4 : b ≡ 0 → ⊥) where
          pub xor-first-true : (p : ℕ) → a ≡ 1 → p ≡ complement b → Existing p ≡ image_code (make_xor a b)
          unfolding make_xor
          xor-first-true p e f = simp (f, ne_eqb a b n1, no-complements, ne_eqb a 0 n3, ne_eqb b 0 n4, eq-eqb a 1 e)

          module _ (n5 : a ≡ 1 → ⊥) where
            pub xor-second-true : (p : ℕ) → b ≡ 1 → p ≡ complement a → Existing p ≡ image_code (make_xor a b)
            unfolding make_xor
            xor-second-true p e f = simp (f, ne_eqb a b n1, no-complements, ne_eqb a 0 n3, ne_eqb b 0 n4, ne_eqb a 1 n5, eq-eqb b 1 e)

            pub xor-new : (r : MadeImage) → (b ≡ 1 → ⊥) → r ≡ pair_code 4 (2 * (a / 2)) (2 * (b / 2)) ((a % 2 + b % 2) % 2) → r ≡ image_code (make_xor a b)
            unfolding make_xor
            xor-new r n6 e =
                let h : (a % 2 + b % 2) % 2 ≡ (a + b) % 2 = omega arith in
                simp (e, h, ne_eqb a b n1, no-complements, ne_eqb a 0 n3, ne_eqb b 0 n4, ne_eqb a 1 n5, ne_eqb b 1 n6)

-- ---- MUX

module _ (a b c : ℕ) where
  pub mux-low : a ≡ 0 → Existing c ≡ image_code (make_mux a b c)
  unfolding make_mux
  mux-low e = simp (eq-eqb a 0 e)

  module _ (n1 : a ≡ 0 → ⊥) where
    pub mux-high : a ≡ 1 → Existing b ≡ image_code (make_mux a b c)
    unfolding make_mux
    mux-high e = simp (ne_eqb a 0 n1, eq-eqb a 1 e)

    module _ (n2 : a ≡ 1 → ⊥) where
      pub mux-equal : b ≡ c → Existing b ≡ image_code (make_mux a b c)
      unfolding make_mux
      mux-equal e = simp (ne_eqb a 0 n1, ne_eqb a 1 n2, eq-eqb b c e)

      module _ (n3 : b ≡ c → ⊥) where
        pub mux-new : (r : MadeImage) → a % 2 ≡ 0 → r ≡ image_code (new_row (mux_gate a b c) 0) → r ≡ image_code (make_mux a b c)
        unfolding make_mux
        mux-new r e f = simp (f, ne_eqb a 0 n1, ne_eqb a 1 n2, ne_eqb b c n3, eq-eqb (a % 2) 0 e)

        pub mux-swapped : (o : ℕ) (r : MadeImage) → (a % 2 ≡ 0 → ⊥) → o ≡ complement a → r ≡ image_code (new_row (mux_gate o c b) 0) → r ≡ image_code (make_mux a b c)
        unfolding make_mux
        mux-swapped o r n4 e f = simp (f, e, ne_eqb a 0 n1, ne_eqb a 1 n2, ne_eqb b c n3, ne_eqb (a % 2) 0 n4)
