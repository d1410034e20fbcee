-- The laws of the block check: the head, one more byte after the rows, and the number of each answer.
-- Assumes nothing.
use Rattle.std.proofs.Common.{◌≡◌, ℕ, suc, ◌+◌, ◌-◌, ◌*◌, ◌%◌, ◌^◌, ◌<◌, ◌≤◌, Bool, true, false, not, ◌&&◌, eqb, leb, List, length, take, drop, get_or, get_or-take, get_or-drop, length-take, length-drop, refl, sym, ap, ◌∙◌, add-one, arith, eq-eqb, ne_eqb, true≢false, eqb-true, leb-true}
use Rattle.std.specs.Prelude.{◌↔◌, All, IsTrue}
use Rattle.std.proofs.lemmas.List.{get_or_default}
use borrow.Author.Tests.{not-true, not-false}
use Rattle.memory.specs.Fields.{byte_at}
use Rattle.memory.proofs.TestLaws.{cond-case, and-true, fails}
use Rattle.memory.proofs.ListLaws.{all_below-at, all_below-of}
use Rattle.netlist.specs.FileFormat.{last_mark, low_byte, high_byte, word_sum, right_sum}
use Rattle.questions.specs.Questions.{sum_right, head_right, count_right, unused_right, block_questions}

-- ---- the head

module _ (k B : ℕ) where
  pub mark-last : B + 1 ≡ k → 2 ≡ last_mark k B
  mark-last e = rw (← add-one B, eq-eqb (B + 1) k e)

  pub mark-other : (B + 1 ≡ k → ⊥) → 1 ≡ last_mark k B
  mark-other d = rw (← add-one B, ne_eqb (B + 1) k d)

  module _ (b : List ℕ) where
    -- Bytes 0, 1 and 3.
    pub head-tested : (m l h : ℕ) (t u : Bool) → m ≡ last_mark k B → l ≡ byte_at b 1 → h ≡ byte_at b 3 → t ≡ eqb (byte_at b 0) m && eqb l (low_byte B) → u ≡ t && eqb h (high_byte B) → u ≡ head_right k B b
    head-tested m l h t u em el eh et eu = rw (eu, et, el, eh, em)

    pub count-of-last : (t : Bool) → B + 1 ≡ k → t ≡ leb 1 (byte_at b 2) && leb (byte_at b 2) 63 → t ≡ count_right k B b
    count-of-last t e h = rw (← add-one B, eq-eqb (B + 1) k e) h

    pub count-of-other : (B + 1 ≡ k → ⊥) → eqb (byte_at b 2) 63 ≡ count_right k B b
    count-of-other d = rw (← add-one B, ne_eqb (B + 1) k d)

-- ---- the bytes after the last row

-- Byte i of them is zero.
abbrev unused_zero : List ℕ → ℕ → Bool
unused_zero b i = eqb (byte_at b (4 + 8 * byte_at b 2 + i)) 0

-- What a test of all of them, as a part of the block, says.
module _ (b : List ℕ) (n : ℕ) (size : length b ≡ 512) (said : n ≡ byte_at b 2) (few : n ≤ 63) where
  abbrev unused_part : List ℕ
  unused_part = take (508 - (4 + 8 * n)) (drop (4 + 8 * n) b)

  part-long : length unused_part ≡ 504 - 8 * n
  part-long = simp (length-take, length-drop) (omega arith)

  part-byte : (i d : ℕ) → i < 504 - 8 * n → get_or unused_part i d ≡ byte_at b (4 + 8 * n + i)
  part-byte i d h = get_or_default unused_part i d 0 (omega (arith, part-long)) ∙ get_or-take (508 - (4 + 8 * n)) (drop (4 + 8 * n) b) i 0 (omega arith) ∙ get_or-drop (4 + 8 * n) b i 0

  all-zero : All (λ byte. byte ≡ 0) unused_part → unused_right b ≡ true
  all-zero a = all_below-of (504 - 8 * byte_at b 2) (unused_zero b) (λ i h. eq-eqb (byte_at b (4 + 8 * byte_at b 2 + i)) 0 (rw (← said) (sym (part-byte i 0 (omega arith)) ∙ a i 0 (omega (arith, part-long)))))

  zero-all : unused_right b ≡ true → All (λ byte. byte ≡ 0) unused_part
  zero-all e = λ i d h. part-byte i d (omega (arith, part-long)) ∙ rw said (eqb-true (byte_at b (4 + 8 * byte_at b 2 + i)) 0 (all_below-at (504 - 8 * byte_at b 2) (unused_zero b) e i (omega (arith, part-long))))

  pub unused-tested : (r : Bool) → IsTrue r ↔ All (λ byte. byte ≡ 0) unused_part → r ≡ unused_right b
  unused-tested true t = sym (all-zero (t.0 refl))
  unused-tested false t = sym (fails (unused_right b) (λ e. true≢false (sym (t.1 (zero-all e)))))

-- ---- the answers

module _ (k B : ℕ) (b : List ℕ) where
  -- A right row count is at most 63.
  pub count_most : (t : Bool) → t ≡ count_right k B b → not t ≡ false → byte_at b 2 ≤ 63
  count_most t e h =
      let n = byte_at b 2 in
      cond-case (λ (r : Bool). r ≡ true → n ≤ 63) (eqb (suc B) k) (leb 1 n && leb n 63) (eqb n 63)
      (λ _ q. leb-true n 63 (and-true (leb 1 n) (leb n 63) q).1)
      (λ _ q. omega (arith, eqb-true n 63 q))
      (sym e ∙ not-false t h)

  pub no-sum : (n : ℕ) → n ≡ word_sum b 128 % 2 ^ 32 → not (eqb n right_sum) ≡ true → 2 ≡ block_questions k B b
  unfolding block_questions
  no-sum n e t = rw (← e, not-true (eqb n right_sum) t)

  module _ (n : ℕ) (sum : n ≡ word_sum b 128 % 2 ^ 32) (sum-yes : not (eqb n right_sum) ≡ false) where
    sum-right : sum_right b ≡ true
    sum-right = ap (λ (m : ℕ). eqb m right_sum) (sym sum) ∙ not-false (eqb n right_sum) sum-yes

    pub no_header : (h : Bool) → h ≡ head_right k B b → not h ≡ true → 3 ≡ block_questions k B b
    unfolding block_questions
    no_header h e t = rw (sum-right, ← e, not-true h t)

    module _ (h : Bool) (header : h ≡ head_right k B b) (header-yes : not h ≡ false) where
      pub no-count : (c : Bool) → c ≡ count_right k B b → not c ≡ true → 4 ≡ block_questions k B b
      unfolding block_questions
      no-count c e t = rw (sum-right, ← header, not-false h header-yes, ← e, not-true c t)

      module _ (c : Bool) (count : c ≡ count_right k B b) (count_yes : not c ≡ false) where
        pub no-unused : (u : Bool) → u ≡ unused_right b → not u ≡ true → 5 ≡ block_questions k B b
        unfolding block_questions
        no-unused u e t = rw (sum-right, ← header, not-false h header-yes, ← count, not-false c count_yes, ← e, not-true u t)

        pub all_right : (u : Bool) → u ≡ unused_right b → not u ≡ false → 0 ≡ block_questions k B b
        unfolding block_questions
        all_right u e t = rw (sum-right, ← header, not-false h header-yes, ← count, not-false c count_yes, ← e, not-false u t)
