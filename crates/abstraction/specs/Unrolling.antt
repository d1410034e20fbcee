-- The unrolling into N phases, before the cone of influence is taken: the scope paper, "The fold".
-- While phases are made a new register's row has the old next-value literal; `patch_next` puts the last phase's image in its place.
-- An output is given an image too, that of its literal, so every row has one.
-- Interface: unrolled_netlist.
-- Assumes nothing.
use Rattle.std.specs.Prelude.{ℕ, zero, suc, ◌/◌, ◌%◌, List, [], ◌∷◌, ◌++◌, map, length, get_or}
use Rattle.memory.specs.Lists.{join_below}
use Rattle.ternary.specs.Ternary.{Ternary, lo, hi, X}
use Rattle.netlist.specs.Rows.{Row, constant, input, register, and_gate, xor_gate, mux_gate, output, row_at, on_register, on_output}
use Rattle.abstraction.specs.GateMaking.{complement, Image, existing, new_row, make_and, make_xor, make_mux, Unrolling, add_image}

-- l, complemented if the number is not 0.
abbrev pub complement_by : ℕ → ℕ → ℕ
complement_by zero l = l
complement_by (suc k) l = complement l

-- The image of the literal l by the images of the rows.
abbrev pub image_literal : List ℕ → ℕ → ℕ
image_literal images l = complement_by (l % 2) (get_or images (l / 2) 0)

-- A register's image in phase k: by its generator's value v, if one is used; else a new register in phase 0, and later the previous phase's image of its next value.
abbrev pub register_image : Ternary → ℕ → List ℕ → ℕ → ℕ → ℕ → Image
register_image lo k previous r n l = existing 0
register_image hi k previous r n l = existing 1
register_image X zero previous r n l = new_row (register r n l) 0
register_image X (suc k) previous r n l = existing (image_literal previous n)

-- A row's image in phase k: v what is known of it there, `previous` the images in the previous phase, `images` those in this phase of the rows before it.
abbrev pub row_image : Ternary → ℕ → List ℕ → List ℕ → Row → Image
row_image v k previous images constant = existing 0
row_image v k previous images (input l p) = new_row (input l k) 0
row_image v k previous images (register r n l) = register_image v k previous r n l
row_image v k previous images (and_gate a b) = make_and (image_literal images a) (image_literal images b)
row_image v k previous images (xor_gate a b) = make_xor (image_literal images a) (image_literal images b)
row_image v k previous images (mux_gate a b c) = make_mux (image_literal images a) (image_literal images b) (image_literal images c)
row_image v k previous images (output a l p) = existing (image_literal images a)

-- A new register's next value is the image of the old one.
abbrev pub patch_next : List ℕ → Row → Row
patch_next images r = on_register r (λ s n l. register s (image_literal images n) l) r

-- The output of phase k for the row r, m its image there; none for a node.
abbrev pub phase_output : ℕ → ℕ → Row → List Row
phase_output k m = on_output [] (λ a l p. output m l k ∷ [])

module _ (clock : ℕ → ℕ → Ternary) (rows : List Row) where
  -- What phase k adds for row n to the unrolling q.
  abbrev pub image_at : ℕ → List ℕ → Unrolling → ℕ → Image
  image_at k previous q n = row_image (clock n k) k previous q.images (row_at rows n)

  -- Phase k, for the first n rows: `base` the rows made in earlier phases.
  unfoldable pub unroll_phase : ℕ → List Row → List ℕ → ℕ → Unrolling
  unroll_phase k base previous zero = record { made = base; images = [] }
  unroll_phase k base previous (suc n) = let q = unroll_phase k base previous n in add_image q (image_at k previous q n)

  -- Phases 0 to k - 1: the rows made, and the images in phase k - 1.
  unfoldable pub unroll_phases : ℕ → Unrolling
  unroll_phases zero = record { made = constant ∷ []; images = [] }
  unroll_phases (suc k) = let q = unroll_phases k in unroll_phase k q.made q.images (length rows)

  -- The outputs of phase k, in row order.
  unfoldable pub phase_outputs : ℕ → List Row
  phase_outputs k = let images = (unroll_phases (suc k)).images in join_below (length rows) (λ i. phase_output k (get_or images i 0) (row_at rows i))

  -- The netlist of N phases: the nodes made, and the outputs phase by phase.
  unfoldable pub unrolled_netlist : ℕ → List Row
  unrolled_netlist N = let q = unroll_phases N in map (patch_next q.images) q.made ++ join_below N phase_outputs
