-- The search for the lasso, state by state.
-- Assumes nothing.
use Prim.Native.Nat.{ℕ, suc, ◌+◌, ◌-◌, ◌*◌, ◌<◌, ◌≤◌, ◌/◌}
use mathlib.Core.Path.{◌≡◌, refl, sym, ap, ◌∙◌, subst}
use mathlib.Core.Bool.{Bool, true, false}
use mathlib.Core.List.{List}
use mathlib.Core.Option.{none, some, some-injective}
use native.Mathlib.Omega.{arith}
use borrow.Author.Tests.{lt-ltb, le-ltb, le-leb, lt-leb}
use lib.Dec.{ltb}
use lib.ListN.{length}
use Rattle.memory.specs.Lists.{all_below, count_if}
use Rattle.memory.specs.Fields.{IsBytes}
use Rattle.memory.specs.Frames.{KeptOutside}
use Rattle.memory.proofs.TestLaws.{last_or}
use Rattle.memory.proofs.ListLaws.{first-none, first_found}
use Rattle.memory.proofs.FrameLaws.{kept-none, kept-join}
use Rattle.netlist.specs.Limits.{last_state}
use Rattle.netlist.specs.Rows.{Row, is_register}
use Rattle.netlist.specs.FileFormat.{netlist_of}
use Rattle.netlist.specs.WellFormed.{FoldableRows}
use Rattle.lasso.specs.LassoSearch.{is_repeat, earlier_equal, first_repeat, Lasso, find_lasso}
use Rattle.blockfile.specs.Ready.{Ready}
use Rattle.ternary_step.specs.StateMap.{ClearedWork, Stored, Started, Searched}
use Rattle.ternary_step.proofs.StepLaws.{StartKept}
use Rattle.fold_memory.specs.WorkMap.{value_offset, state_offset}
use Rattle.lasso_search.specs.SearchStage.{same_word, repeat_of, LassoDone}
use Rattle.std.specs.Prelude.{Some, None}
use Rattle.lasso_search.proofs.WordLaws.{same-states}

module _ (rows : List Row) where
  -- None of states 0 to k - 1 equals state m; and none of states 1 to m - 1 equals an earlier one.
  abbrev pub Unlike : ℕ → ℕ → Type 0
  Unlike m k = (n : ℕ) → n < k → is_repeat rows m n ≡ false

  abbrev pub NoRepeat : ℕ → Type 0
  NoRepeat m = (j : ℕ) → 1 ≤ j → j < m → ltb (earlier_equal rows j) j ≡ false

  pub unlike-more : (m k : ℕ) → Unlike m k → is_repeat rows m k ≡ false → Unlike m (k + 1)
  unlike-more m k h e n l = last_or n k (omega arith) (λ b. h n b) (λ q. rw q e)

  pub no-repeat-more : (m : ℕ) → NoRepeat m → Unlike m m → NoRepeat (m + 1)
  unfolding earlier_equal
  no-repeat-more m h u j a l =
      last_or j m (omega arith) (λ b. h j a b)
      (λ q. rw q (ap (λ (n : ℕ). ltb n m) (first-none 0 m (is_repeat rows m) (λ n _ b. u n (omega arith))) ∙ le-ltb (0 + m) m (omega arith)))

  pub lasso-is-none : NoRepeat (suc last_state) → find_lasso rows ≡ none
  unfolding find_lasso first_repeat
  lasso-is-none h =
      let e : first_repeat rows ≡ 1 + last_state = first-none 1 last_state (λ m. ltb (earlier_equal rows m) m) (λ j a b. h j a (omega arith)) in
      rw (lt-leb (first_repeat rows) last_state (omega arith)) refl

  pub lasso-is-some : (m k : ℕ) → 1 ≤ m → m ≤ last_state → k < m → NoRepeat m → Unlike m k → is_repeat rows m k ≡ true → find_lasso rows ≡ some (record { stem = k; cycle = m - k })
  unfolding find_lasso first_repeat earlier_equal
  lasso-is-some m k a b l h u e =
      let n : earlier_equal rows m ≡ k = first_found 0 m (is_repeat rows m) k (omega arith) (omega arith) (λ j _ q. u j q) e in
      let r : first_repeat rows ≡ m = first_found 1 last_state (λ j. ltb (earlier_equal rows j) j) m a (omega arith) h (ap (λ (x : ℕ). ltb x m) n ∙ lt-ltb k m l) in
      rw (r, n, le-leb m last_state b) refl

-- ---- the memory while it goes on

-- Only the values, the list and the states change.
abbrev SearchKept : List ℕ → List ℕ → Type 0
SearchKept w w' = KeptOutside (value_offset 0) (state_offset (suc last_state)) w w'

-- States 0 to m - 1 all differ, and stand in the memory. w₀ is the memory when only state 0 did.
pub record Sought (rows : List Row) (w₀ w : List ℕ) (m : ℕ) : Type 0 where
  pub from : 1 ≤ m
  pub to : m ≤ suc last_state
  pub room : state_offset (suc last_state) ≤ length w
  pub searched : Searched rows w m
  pub no-repeat : NoRepeat rows m
  pub kept : SearchKept w₀ w

module _ {rows : List Row} {n : ℕ} {w w₁ : List ℕ} (ready : ClearedWork w) (count : n ≡ length rows) (K : StartKept w w₁) where
  pub sought-start : Started rows w₁ n → Sought rows w₁ w₁ 1
  sought-start P =
      let P' = subst (Started rows w₁) count P in
      let r = ready.room in
      let l = K.long in record {
        from = omega arith;
        to = omega arith;
        room = omega arith;
        searched = record {
          coded = P.coded;
          room = omega arith;
          stored = λ t h. (let e : 0 ≡ t = omega arith in subst (Stored rows w₁) e P'.part);
          clear = P.clear;
          nexts = P'.nexts;
        };
        no-repeat = λ j a b. absurd (omega arith);
        kept = kept-none (value_offset 0) (state_offset (suc last_state)) w₁;
      }

  module _ {w₂ : List ℕ} {m : ℕ} (S : Sought rows w₁ w₂ m) where
    all-kept : SearchKept w w₂
    all-kept = kept-join (value_offset 0) (state_offset (suc last_state)) w w₁ w₂ K S.kept (omega arith) (omega arith) (omega arith) (omega arith)

    pub advance-room : m ≤ last_state → state_offset (m + 1) ≤ length w₂
    advance-room h = let r = S.room in omega arith

    pub sought-never : last_state < m → LassoDone rows w w₂ None
    sought-never h =
        let t = S.to in
        let e : m ≡ suc last_state = omega arith in
        let q = lasso-is-none rows (subst (NoRepeat rows) e S.no-repeat) in
        record {
          answer = sym (ap repeat_of q);
          states = λ z f. absurd (let b : ◌≡◌ {A = ℕ} 0 1 = cc in omega arith);
          kept = all-kept;
        }

    module _ {w₃ : List ℕ} (small : m ≤ last_state) (L : KeptOutside (value_offset 0) (state_offset (m + 1)) w₂ w₃) (D : Searched rows w₃ (m + 1)) where
      pub sought-next : Unlike rows m m → Sought rows w₁ w₃ (m + 1)
      sought-next u = let r = S.room in let l = L.long in record {
        from = omega arith;
        to = omega arith;
        room = omega arith;
        searched = D;
        no-repeat = no-repeat-more rows m S.no-repeat u;
        kept = kept-join (value_offset 0) (state_offset (suc last_state)) w₁ w₂ w₃ S.kept L (omega arith) (omega arith) (omega arith) (omega arith);
      }

      pub sought-found : (k : ℕ) → k < m → Unlike rows m k → is_repeat rows m k ≡ true → LassoDone rows w w₃ (Some (record { stem = k; cycle = m - k }))
      sought-found k l u e =
          let q = lasso-is-some rows m k S.from small l S.no-repeat u e in
          record {
            answer = sym (ap repeat_of q);
            states = λ z f t h.
                let c : z ≡ record { stem = k; cycle = m - k } = some-injective _ _ (sym f ∙ q) in
                let b : z.stem + z.cycle ≡ m = ap (λ (y : Lasso). y.stem + y.cycle) c ∙ omega arith in
                D.stored t (omega arith);
            kept = kept-join (value_offset 0) (state_offset (suc last_state)) w w₂ w₃ all-kept L (omega arith) (omega arith) (omega arith) (omega arith);
          }

-- ---- the comparison of states k and m

module _ {f : List ℕ} {n : ℕ} (R : Ready FoldableRows f n) {w : List ℕ} {m k words registers old new : ℕ} (small : m ≤ last_state) (less : k < m) (D : Searched (netlist_of f) w (m + 1)) (count : registers ≡ count_if is_register (netlist_of f)) (size : words ≡ (registers + 31) / 32) (at_old : old ≡ state_offset k) (at_new : new ≡ state_offset m) where
  pub same-asks : (old + 8 * words ≤ length w) × (new + 8 * words ≤ length w)
  same-asks =
      let few = R.rows.registers in
      let room = D.room in
      (omega arith, omega arith)

  pub repeat-is : IsBytes w → (r : Bool) → r ≡ all_below words (same_word w old new) → r ≡ is_repeat (netlist_of f) m k
  repeat-is bytes r e =
      e ∙ rw (at_old, at_new)
      (same-states (netlist_of f) w bytes R.rows.registers k m words (D.stored k (omega arith)) (D.stored m (omega arith)) (size ∙ ap (λ (x : ℕ). (x + 31) / 32) count))
