-- A text read byte by byte: what one byte more means for a number, for a field and for an opening.
-- Assumes nothing.
use Prim.Native.Nat.{ℕ, ◌+◌, ◌-◌, ◌*◌, ◌<◌, ◌≤◌}
use mathlib.Core.Path.{◌≡◌, refl, ap, ◌∙◌, sym}
use mathlib.Core.Bool.{Bool, true, false, not, cond}
use mathlib.Core.List.{List, ◌∷◌}
use mathlib.Core.Option.{Option, none, some, none-ne-some}
use native.Mathlib.Omega.{arith}
use native.Mathlib.Numerals.{add-one}
use borrow.Author.Tests.{le-leb, lt-leb, not-true, not-false, ne_eqb}
use lib.Dec.{eqb}
use lib.ListN.{length, drop, get_or, drop_of_length-le}
use lib.Seq.{drop-cons}
use Rattle.aiger.specs.AigerText.{largest_number}
use Rattle.aiger.specs.AigerReading.{Reading, ◌>>=◌, done, nothing, byte, is_digit, more_digits, number}
use Rattle.std.specs.Prelude.{Some, None}
use Rattle.std.specs.Prelude as code
use Rattle.aiger_lines.specs.Lines.{number_read, field}

-- ---- a reading after another

-- f after what was read, if anything was.
abbrev after : {A B : Type 0} → (A → Reading B) → Option (A × List ℕ) → Option (B × List ℕ)
after f o = elim o [ none ↦ none | some q ↦ f q.0 q.1 ]

-- The first is there, and the second after it.
pub record Both {A B : Type 0} (m : Option (A × List ℕ)) (f : A → Reading B) (r : B × List ℕ) : Type 0 where
  pub value : A
  pub between : List ℕ
  pub first : m ≡ some (value, between)
  pub second : f value between ≡ some r

pub both-there : {A B : Type 0} (m : Option (A × List ℕ)) (f : A → Reading B) (r : B × List ℕ) → after f m ≡ some r → Both m f r
both-there none f r e = absurd (none-ne-some r e)
both-there (some q) f r e = record { value = q.0; between = q.1; first = refl; second = e }

module _ {A B : Type 0} (m : Reading A) (f : A → Reading B) (t : List ℕ) where
  pub after_none : m t ≡ none → (m >>= f) t ≡ none
  after_none e = ap (after f) e

  pub after-some : (x : A) (u : List ℕ) → m t ≡ some (x, u) → (m >>= f) t ≡ f x u
  after-some x u e = ap (after f) e

  pub after_same : (g : A → Reading B) → ((x : A) (u : List ℕ) → f x u ≡ g x u) → (m >>= f) t ≡ (m >>= g) t
  after_same g e = of (m t)
    where
      of : (o : Option (A × List ℕ)) → after f o ≡ after g o
      of none = refl
      of (some q) = e q.0 q.1

pub after-after : {A B C : Type 0} (m : Reading A) (g : A → Reading B) (f : B → Reading C) (t : List ℕ) → ((m >>= g) >>= f) t ≡ (m >>= λ x. g x >>= f) t
after-after {A} m g f t = of (m t)
  where
    of : (o : Option (A × List ℕ)) → after f (after g o) ≡ after (λ x. g x >>= f) o
    of none = refl
    of (some q) = refl

pub after-done : {A : Type 0} (m : Reading A) (t : List ℕ) → m t ≡ (m >>= done) t
after-done {A} m t = of (m t)
  where
    of : (o : Option (A × List ℕ)) → o ≡ after done o
    of none = refl
    of (some q) = refl

-- ---- digits: the number so far is `value`, and they go on at i

module _ (text : List ℕ) (first at value i : ℕ) (so_far : more_digits first (drop at text) ≡ more_digits value (drop i text)) where
  pub digits-end : length text ≤ i → some (value, drop i text) ≡ more_digits first (drop at text)
  unfolding more_digits
  digits-end h = sym (so_far ∙ rw (drop_of_length-le text h) refl)

  pub digits-stop : i < length text → (b : Bool) → b ≡ is_digit (get_or text i 0) → not b ≡ true → some (value, drop i text) ≡ more_digits first (drop at text)
  unfolding more_digits
  digits-stop h b e n = sym (so_far ∙ rw (drop-cons text i 0 h, sym e ∙ not-true b n) refl)

  pub digits-large : i < length text → (b : Bool) → b ≡ is_digit (get_or text i 0) → not b ≡ false → (longer : ℕ) → longer ≡ 10 * value + (get_or text i 0 - 48) → largest_number < longer → none ≡ more_digits first (drop at text)
  unfolding more_digits
  digits-large h b e n longer w l = sym (so_far ∙ rw (drop-cons text i 0 h, sym e ∙ not-false b n, lt-leb (10 * value + (get_or text i 0 - 48)) largest_number (omega arith)) refl)

  pub digits_more : i < length text → (b : Bool) → b ≡ is_digit (get_or text i 0) → not b ≡ false → (longer : ℕ) → longer ≡ 10 * value + (get_or text i 0 - 48) → longer ≤ largest_number → more_digits first (drop at text) ≡ more_digits longer (drop (i + 1) text)
  unfolding more_digits
  digits_more h b e n longer w l = so_far ∙ rw (drop-cons text i 0 h, sym e ∙ not-false b n, le-leb (10 * value + (get_or text i 0 - 48)) largest_number (omega arith), add-one, w) refl

-- ---- a number

module _ (text : List ℕ) (at : ℕ) where
  pub number_short : at ≡ length text → none ≡ number (drop at text)
  unfolding number
  number_short e = rw (drop_of_length-le text {i = at} (omega arith)) refl

  module _ (inside : at ≤ length text) (more : at ≡ length text → ⊥) where
    begins : drop at text ≡ get_or text at 0 ∷ drop (at + 1) text
    begins = rw add-one (drop-cons text at 0 (omega arith))

    pub number-zero : get_or text at 0 ≡ 48 → some (0, drop (at + 1) text) ≡ number (drop at text)
    unfolding number
    number-zero e = rw (begins, e)

    module _ (n : get_or text at 0 ≡ 48 → ⊥) (b : Bool) (e : b ≡ is_digit (get_or text at 0)) where
      pub number-other : not b ≡ true → none ≡ number (drop at text)
      unfolding number
      number-other t = rw (begins, ne_eqb (get_or text at 0) 48 n, sym e ∙ not-true b t)

      pub number_more : not b ≡ false → (first : ℕ) → first ≡ get_or text at 0 - 48 → (r : Option (ℕ × List ℕ)) → r ≡ more_digits first (drop (at + 1) text) → r ≡ number (drop at text)
      unfolding number
      number_more t first d r q = rw (begins, ne_eqb (get_or text at 0) 48 n, sym e ∙ not-false b t, sym d) q

-- ---- a field: a number that was read, v with its end at e, and the byte after it

-- What follows the number n.
abbrev pub byte_of : ℕ → Reading (ℕ × Bool)
byte_of n = byte >>= λ b. cond (eqb b 10) (done (n, true)) (cond (eqb b 32) (done (n, false)) nothing)

module _ (text : List ℕ) (at : ℕ) (r : code.Option (ℕ × ℕ)) (read : number_read text r ≡ number (drop at text)) where
  pub field-none : r ≡ None → none ≡ field (drop at text)
  field-none s = sym (after_none number byte_of (drop at text) (sym (rw s at read)))

  module _ (v e : ℕ) (s : r ≡ Some (v, e)) where
    given : field (drop at text) ≡ byte_of v (drop e text)
    given = after-some number byte_of (drop at text) v (drop e text) (sym (rw s at read))

    pub field_end : length text ≤ e → none ≡ field (drop at text)
    field_end l = sym (given ∙ rw (drop_of_length-le text {i = e} l))

    pub field-last : e < length text → get_or text e 0 ≡ 10 → some ((v, true), drop (e + 1) text) ≡ field (drop at text)
    field-last l b = sym (given ∙ rw (drop-cons text e 0 l, b, add-one))

    pub field_next : e < length text → (get_or text e 0 ≡ 10 → ⊥) → get_or text e 0 ≡ 32 → some ((v, false), drop (e + 1) text) ≡ field (drop at text)
    field_next l n b = sym (given ∙ rw (drop-cons text e 0 l, b, add-one))

    pub field-other : e < length text → (get_or text e 0 ≡ 10 → ⊥) → (get_or text e 0 ≡ 32 → ⊥) → none ≡ field (drop at text)
    field-other l n b = sym (given ∙ rw (drop-cons text e 0 l, ne_eqb (get_or text e 0) 10 n, ne_eqb (get_or text e 0) 32 b))
