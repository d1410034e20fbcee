-- The cone of influence and the renumbering: the scope paper, "The fold".
-- Interface: cone_of_influence, compact; Reached says the cone in the paper's words.
-- Assumes nothing.
use Rattle.std.specs.Prelude.{ℕ, zero, suc, ◌+◌, ◌*◌, ◌<◌, ◌/◌, ◌%◌, ◌≡◌, Bool, true, false, cond, ◌||◌, List, [], ◌∷◌, map, length, get_or, set, eqb}
use Rattle.memory.specs.Lists.{join_below, Among}
use Rattle.netlist.specs.Rows.{Row, row_at, kind_of, is_output, map_literals, fanin_nodes}

-- The constant, row 0, and the outputs.
abbrev pub is_cone_root : Row → Bool
is_cone_root r = eqb (kind_of r) 0 || is_output r

abbrev pub is_marked : List Bool → ℕ → Bool
is_marked m j = get_or m j false

abbrev pub mark_all : List Bool → List ℕ → List Bool
mark_all m [] = m
mark_all m (j ∷ js) = mark_all (set m j true) js

abbrev pub equal_marks : List Bool → List Bool → Bool
equal_marks [] [] = true
equal_marks [] (b ∷ bs) = false
equal_marks (a ∷ as') [] = false
equal_marks (true ∷ as') (true ∷ bs) = equal_marks as' bs
equal_marks (true ∷ as') (false ∷ bs) = false
equal_marks (false ∷ as') (true ∷ bs) = false
equal_marks (false ∷ as') (false ∷ bs) = equal_marks as' bs

module _ (rows : List Row) where
  -- From row n - 1 down to row 0, a marked row marks the nodes that it names.
  unfoldable pub mark_sweep : ℕ → List Bool → List Bool
  mark_sweep zero m = m
  mark_sweep (suc n) m = mark_sweep n (cond (is_marked m n) (mark_all m (fanin_nodes (row_at rows n))) m)

  -- Sweeps until one changes nothing, at most n of them.
  unfoldable pub mark_fixpoint : ℕ → List Bool → List Bool
  mark_fixpoint zero m = m
  mark_fixpoint (suc n) m = let m' = mark_sweep (length rows) m in elim (equal_marks m m') [ true ↦ m | false ↦ mark_fixpoint n m' ]

  unfoldable pub cone_of_influence : List Bool
  cone_of_influence = mark_fixpoint (length rows) (map is_cone_root rows)

-- How many of the first j are marked: the new number of row j.
unfoldable pub new_index : List Bool → ℕ → ℕ
new_index m zero = zero
new_index m (suc j) = cond (is_marked m j) (suc (new_index m j)) (new_index m j)

abbrev pub renumber_literal : List Bool → ℕ → ℕ
renumber_literal m l = 2 * new_index m (l / 2) + l % 2

-- The marked ones of the first n rows, renumbered, in their order.
unfoldable pub compact_up_to : List Row → List Bool → ℕ → List Row
compact_up_to rows m n = join_below n (λ i. cond (is_marked m i) (map_literals (renumber_literal m) (row_at rows i) ∷ []) [])

unfoldable pub compact : List Row → List Row
compact rows = compact_up_to rows (cone_of_influence rows) (length rows)

-- ---- in the paper's words

-- What the outputs, and row 0, reach through operands and next values.
pub data Reached (rows : List Row) : ℕ → Type 0 where
  row_zero : 0 < length rows → Reached rows 0
  shown : (j : ℕ) → j < length rows → is_output (row_at rows j) ≡ true → Reached rows j
  named : (j i : ℕ) → Reached rows j → Among i (fanin_nodes (row_at rows j)) → Reached rows i
