-- The phases: an image is stored, row by row and phase by phase, and the rows made and the images stand as the model's unrolling has them.
-- Assumes nothing.
use Prim.Native.Nat.{ℕ, zero, suc, ◌+◌, ◌*◌, ◌-◌, ◌<◌, ◌≤◌}
use mathlib.Core.Path.{◌≡◌, refl, sym, ap, ◌∙◌, subst, fun_ext}
use mathlib.Core.List.{List, [], ◌∷◌, ◌++◌}
use native.Mathlib.Omega.{arith}
use native.Mathlib.Numerals.{add-one}
use lib.ListN.{length, length-append}
use lib.Seq.{sets}
use Rattle.memory.specs.Fields.{u16_bytes}
use Rattle.memory.specs.Frames.{KeptOutside}
use Rattle.memory.proofs.TestLaws.{last_or}
use Rattle.memory.proofs.FrameLaws.{kept-none, kept-wider, kept-join, kept_sets}
use Rattle.ternary.specs.Ternary.{Ternary}
use Rattle.netlist.specs.Limits.{most_folded_rows, most_phases, most_original_rows}
use Rattle.netlist.specs.Rows.{Row, constant, encode_row, row_at}
use Rattle.netlist.specs.FileFormat.{row_offset, read_fields, field_bytes, netlist_of}
use Rattle.netlist.specs.WellFormed.{FoldableRows}
use Rattle.abstraction.specs.GateMaking.{Image, existing, new_row, Unrolling, add_image}
use Rattle.abstraction.specs.Unrolling.{row_image, image_at, unroll_phase, unroll_phases}
use Rattle.blockfile.specs.RowCode.{if_known}
use Rattle.blockfile.specs.RowsStand.{RowsStand}
use Rattle.blockfile.proofs.RowCodeLaws.{kind-known}
use Rattle.blockfile.proofs.StandLaws.{row_room, stand-more}
use Rattle.blockfile.proofs.AppendLaws.{append-one}
use Rattle.blockfile.specs.Ready.{Ready}
use Rattle.gates.specs.declared.MadeImage.{MadeImage}
use Rattle.gates.specs.declared.MadeImage.TheVariants.{Existing}
use Rattle.gates.specs.ImageCode.{image_code}
use Rattle.fold_memory.specs.WorkMap.{known_offset, known_in}
use Rattle.row_images.specs.ImageMap.{image_offset, images_in, no_literal, RowToFold}
use Rattle.unrolling.specs.UnrollMap.{Room, images_end, literal_made, ImageStored, Stored, unrolled_to, UnderWay}
use Rattle.row_images.proofs.ImageLaws.{images-kept, images-more}
use Rattle.unrolling.proofs.UnrollFacts.{image-first, made-few}

-- ---- one image

-- Of `work` only the literal's bytes change.
literal-frame : (image : MadeImage) (m offset r : ℕ) (result work result' work' : List ℕ) → ImageStored image m offset result work result' work' r → KeptOutside offset (offset + 2) work work'
literal-frame image m offset r result work result' work' I =
    rw I.literal (kept_sets offset (offset + 2) (u16_bytes (literal_made m image)) work offset (omega arith) (omega arith))

-- The model adds the image, too.
stored_more : (q : Unrolling) (y : Image) (k i m r : ℕ) (result work result' work' : List ℕ) → Room result work → k < most_phases → i < most_original_rows → m < most_folded_rows → ImageStored (image_code y) m (image_offset k i) result work result' work' r
    → Stored q k i result work m → Stored (add_image q y) k (suc i) result' work' r
unfolding add_image
stored_more q (existing l) k i m r result work result' work' R kb ib mb I P = record {
  stands = subst (RowsStand q.made) (sym I.rows) P.stands;
  counted = omega (arith, I.count, P.counted);
  images = images-more work work' k i l I.literal I.small (omega (arith, R.work-room)) ∙ ap (λ (z : List ℕ). z ++ (l ∷ [])) P.images;
}
stored_more q (new_row f b) k i m r result work result' work' R kb ib mb I P =
    let v : 2 * m + b ≡ 2 * length q.made + b = omega (arith, P.counted) in
    record {
      stands = subst (RowsStand (q.made ++ (f ∷ []))) (sym I.rows) (stand-more q.made result m f P.counted (omega (arith, row_room m mb, R.result-room)) P.stands);
      counted = omega (arith, I.count, P.counted, length-append q.made (f ∷ []));
      images = images-more work work' k i (2 * m + b) I.literal I.small (omega (arith, R.work-room)) ∙ ap (λ (z : List ℕ). z ++ ((2 * m + b) ∷ [])) P.images
          ∙ ap (λ (z : ℕ). q.images ++ (z ∷ [])) v;
    }

-- What is known of the rows stands behind the images.
pub known_same : (w w' : List ℕ) → KeptOutside 0 images_end w w' → known_in w' ≡ known_in w
known_same w w' K = fun_ext (λ i. fun_ext (λ k.
    let a = K.after (known_offset i) (omega arith) in
    let b = K.after (known_offset i + 1) (omega arith) in
    rw (a, b)))

-- ---- one row

module _ (clock : ℕ → ℕ → Ternary) (rows : List Row) (k i : ℕ) (result work : List ℕ) (m : ℕ) (U : UnderWay clock rows k i result work m) where
  previous-is : (v : Ternary) (images : List ℕ) (r : Row) → row_image v k (images_in work (k - 1) (length rows)) images r ≡ row_image v k (unroll_phases clock rows k).images images r
  previous-is v images r = by-phase k U.earlier
    where
      by-phase : (k : ℕ) → ((j : ℕ) → j < k → images_in work j (length rows) ≡ (unroll_phases clock rows (suc j)).images) → row_image v k (images_in work (k - 1) (length rows)) images r ≡ row_image v k (unroll_phases clock rows k).images images r
      by-phase zero f = image-first v (images_in work (0 - 1) (length rows)) (unroll_phases clock rows 0).images images r
      by-phase (suc j) f =
          let e : suc j - 1 ≡ j = omega arith in
          ap (λ (z : List ℕ). row_image v (suc j) z images r) (ap (λ (z : ℕ). images_in work z (length rows)) e ∙ f j (omega arith))

  -- The image that the code works out is the model's.
  image-is : row_image (clock i k) k (images_in work (k - 1) (length rows)) (images_in work k i) (row_at rows i) ≡ image_at clock rows k (unroll_phases clock rows k).images (unrolled_to clock rows k i) i
  image-is = previous-is (clock i k) (images_in work k i) (row_at rows i) ∙ ap (λ (z : List ℕ). row_image (clock i k) k (unroll_phases clock rows k).images z (row_at rows i)) U.stored.images

  row-again : (image : MadeImage) (result' work' : List ℕ) (r : ℕ) → image ≡ image_code (row_image (clock i k) k (images_in work (k - 1) (length rows)) (images_in work k i) (row_at rows i))
      → Room result work → k < most_phases → i < length rows → length rows ≤ most_original_rows → m < most_folded_rows → ImageStored image m (image_offset k i) result work result' work' r
      → UnderWay clock rows k (suc i) result' work' r
  unfolding unroll_phase
  row-again image result' work' r e R kb ib few mb I =
      let y = image_at clock rows k (unroll_phases clock rows k).images (unrolled_to clock rows k i) i in
      let J = subst (λ (z : MadeImage). ImageStored z m (image_offset k i) result work result' work' r) (e ∙ ap image_code image-is) I in
      record {
        stored = stored_more (unrolled_to clock rows k i) y k i m r result work result' work' R kb (omega arith) mb J U.stored;
        earlier = λ j l. images-kept work work' (image_offset k i) j (length rows) (literal-frame image m (image_offset k i) r result work result' work' I).before (omega arith) ∙ U.earlier j l;
      }

-- Of a row of an accepted file the image can be made.
pub row-ready : (f : List ℕ) (i : ℕ) → Ready FoldableRows f (length (netlist_of f)) → i < length (netlist_of f) → RowToFold f i
row-ready f i O h = record { file = O.file; small = O.rows.small; within = h; next = O.rows.checked.nexts i h; operands = O.rows.checked.operands i h }

module _ (f : List ℕ) (k i m : ℕ) (result work : List ℕ) (O : Ready FoldableRows f (length (netlist_of f))) (ib : i < length (netlist_of f)) (kb : k < most_phases) (U : UnderWay (known_in work) (netlist_of f) k i result work m) where
  pub row_small : i < most_original_rows
  row_small = omega (arith, O.rows.small)

  pub row_fits : m < most_folded_rows
  row_fits = omega (arith, U.stored.counted, made-few (known_in work) (netlist_of f) O.rows k i kb ib)

  module _ (image : MadeImage) (result' work' : List ℕ) (r : ℕ) (I : ImageStored image m (image_offset k i) result work result' work' r) where
    pub row_done : Room result work → image ≡ if_known (read_fields f i).kind (image_code (row_image (known_in work i k) k (images_in work (k - 1) (length (netlist_of f))) (images_in work k i) (row_at (netlist_of f) i))) (Existing no_literal)
        → UnderWay (known_in work) (netlist_of f) k (suc i) result' work' r
    row_done R e =
        let y = row_image (known_in work i k) k (images_in work (k - 1) (length (netlist_of f))) (images_in work k i) (row_at (netlist_of f) i) in
        let q : image ≡ image_code y = e ∙ kind-known (read_fields f i).kind (image_code y) (Existing no_literal) (O.known i ib) in
        row-again (known_in work) (netlist_of f) k i result work m U image result' work' r q R kb ib O.rows.small row_fits I

    pub row_kept : KeptOutside 0 images_end work work'
    row_kept = let s = row_small in kept-wider 0 images_end (literal-frame image m (image_offset k i) r result work result' work' I) (omega arith) (omega arith)

-- ---- the loops

-- In a loop over rows or phases that began with result₀ and work₀: before row i of phase k.
pub record Going (f : List ℕ) (result₀ work₀ : List ℕ) (k i : ℕ) (result work : List ℕ) (m : ℕ) : Type 0 where
  pub same-result : length result ≡ length result₀
  pub kept : KeptOutside 0 images_end work₀ work
  pub under : UnderWay (known_in work₀) (netlist_of f) k i result work m

pub going_start : (f : List ℕ) (k i : ℕ) (result work : List ℕ) (m : ℕ) → UnderWay (known_in work) (netlist_of f) k i result work m → Going f result work k i result work m
going_start f k i result work m U = record { same-result = refl; kept = kept-none 0 images_end work; under = U }

module _ (f : List ℕ) (result₀ work₀ : List ℕ) (k i : ℕ) (result work : List ℕ) (m : ℕ) (G : Going f result₀ work₀ k i result work m) where
  pub going-under : UnderWay (known_in work) (netlist_of f) k i result work m
  going-under = subst (λ (z : ℕ → ℕ → Ternary). UnderWay z (netlist_of f) k i result work m) (sym (known_same work₀ work G.kept)) G.under

  module _ (result' work' : List ℕ) (m' : ℕ) (a : length result' ≡ length result) where
    going_on : (k' i' : ℕ) → UnderWay (known_in work) (netlist_of f) k' i' result' work' m' × KeptOutside 0 images_end work work' → Going f result₀ work₀ k' i' result' work' m'
    going_on k' i' u = record {
      same-result = a ∙ G.same-result;
      kept = kept-join 0 images_end work₀ work work' G.kept u.1 (omega arith) (omega arith) (omega arith) (omega arith);
      under = subst (λ (z : ℕ → ℕ → Ternary). UnderWay z (netlist_of f) k' i' result' work' m') (known_same work₀ work G.kept) u.0;
    }

    -- One row more, and one phase more.
    pub going-row : UnderWay (known_in work) (netlist_of f) k (suc i) result' work' m' × KeptOutside 0 images_end work work' → Going f result₀ work₀ k (i + 1) result' work' m'
    going-row u = rw (add-one i) (going_on k (suc i) u)

    pub going-phase : UnderWay (known_in work) (netlist_of f) (suc k) i result' work' m' × KeptOutside 0 images_end work work' → Going f result₀ work₀ (k + 1) i result' work' m'
    going-phase u = rw (add-one k) (going_on (suc k) i u)

-- The last row of a phase is done: the next phase begins.
phase-end : (clock : ℕ → ℕ → Ternary) (rows : List Row) (k : ℕ) (result work : List ℕ) (m : ℕ) → UnderWay clock rows k (length rows) result work m → UnderWay clock rows (suc k) 0 result work m
unfolding unroll_phase unroll_phases images_in
phase-end clock rows k result work m U = record {
  stored = record { stands = U.stored.stands; counted = U.stored.counted; images = refl };
  earlier = λ j l. last_or j k l (λ b. U.earlier j b) (λ b. rw b U.stored.images);
}

module _ (f : List ℕ) (result₀ work₀ result work : List ℕ) (k m : ℕ) where
  pub phase-done : (i rows : ℕ) → Going f result₀ work₀ k i result work m → rows ≡ length (netlist_of f) → i ≤ rows → rows ≤ i → UnderWay (known_in work₀) (netlist_of f) (suc k) 0 result work m
  phase-done i rows G e a b =
      let q : i ≡ length (netlist_of f) = omega arith in
      phase-end (known_in work₀) (netlist_of f) k result work m (subst (λ (z : ℕ). UnderWay (known_in work₀) (netlist_of f) k z result work m) q G.under)

  pub phases-done : (phases : ℕ) → Going f result₀ work₀ k 0 result work m → k ≤ phases → phases ≤ k → UnderWay (known_in work₀) (netlist_of f) phases 0 result work m
  phases-done phases G a b = let q : k ≡ phases = omega arith in subst (λ (z : ℕ). UnderWay (known_in work₀) (netlist_of f) z 0 result work m) q G.under

-- Row 0 is written: phase 0 begins.
pub phases-start : (clock : ℕ → ℕ → Ternary) (rows : List Row) (result result' work : List ℕ) (m : ℕ) → Room result work → (result' ≡ sets result (row_offset 0) (field_bytes (encode_row constant))) × (m ≡ 0 + 1) → UnderWay clock rows 0 0 result' work m
unfolding unroll_phase unroll_phases images_in
phases-start clock rows result result' work m R t = record {
  stored = record {
    stands = (append-one constant (encode_row constant) result result' 0 m refl (omega (arith, R.result-room)) t).stands [] refl (λ i d l b. absurd (omega arith));
    counted = t.1;
    images = refl;
  };
  earlier = λ j l. absurd (omega arith);
}
