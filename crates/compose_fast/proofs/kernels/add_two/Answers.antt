use Rattle.std.proofs.Common.{◌≡◌, ◌+◌, ◌<◌, ℕ, List, [], ◌∷◌, ap, sym, subst, add-zero, ◌∙◌, refl, take, drop, get_or, arith, bit_and, bit_or, length}
use Rattle.std.specs.Prelude.{slice_index}
use Rattle.std.specs.Simd.Lanes.{zip2}
use Rattle.std.proofs.lemmas.Simd.{length-chunk, get_or-chunk, length-zip2, get_or-zip2}
use Rattle.calculus_table.specs.Composition.{if_has}
use Rattle.compose_fast.proofs.LaneLemmas.{HasLanes-two}
use Rattle.compose_fast.proofs.kernels.add_two.Goals as goal

module _ (all rows : List ℕ) (i x y : ℕ) (three : length all ≡ 2) (inside : length (take 2 (drop i rows)) ≡ 2) where
  lane : (k z : ℕ) → k < 2 → get_or {A = ℕ} (x ∷ y ∷ []) k 0 ≡ z → get_or (zip2 bit_or all (zip2 bit_and (take 2 (drop i rows)) (x ∷ y ∷ []))) k 0 ≡ bit_or (get_or all k 0) (bit_and (get_or rows (i + k) 0) z)
  lane k z l e =
      let two : length {A = ℕ} (x ∷ y ∷ []) ≡ 2 = refl in
      let met : length (zip2 bit_and (take 2 (drop i rows)) (x ∷ y ∷ [])) ≡ 2 = length-zip2 bit_and (take 2 (drop i rows)) (x ∷ y ∷ []) inside ∙ inside in
      get_or-zip2 bit_or all (zip2 bit_and (take 2 (drop i rows)) (x ∷ y ∷ [])) k 0 0 0 (omega arith) (omega arith)
      ∙ ap (bit_or (get_or all k 0)) (get_or-zip2 bit_and (take 2 (drop i rows)) (x ∷ y ∷ []) k 0 0 0 (omega arith) (omega arith)
      ∙ ap (λ w. bit_and w (get_or {A = ℕ} (x ∷ y ∷ []) k 0)) (get_or-chunk i 2 rows k 0 l) ∙ ap (bit_and (get_or rows (i + k) 0)) e)

pub returns : goal.returns
returns c =
    let rows = c.args.rows.now in
    let i = c.args.i in
    let all = c.args.all in
    let x = c.chosen.result in
    let y = c.chosen-2.result in
    let long = length-chunk i 2 rows c.requires.inside in
    let met : length (zip2 bit_and (take 2 (drop i rows)) (x ∷ y ∷ [])) ≡ 2 = length-zip2 bit_and (take 2 (drop i rows)) (x ∷ y ∷ []) long ∙ long in
    HasLanes-two _ (λ k. bit_or (slice_index all k) (if_has c.args.mask (i + k) (slice_index rows (i + k))))
    (length-zip2 bit_or all (zip2 bit_and (take 2 (drop i rows)) (x ∷ y ∷ [])) (c.fits-all.0 ∙ sym met) ∙ c.fits-all.0)
    (lane all rows i x y c.fits-all.0 long 0 x (omega arith) refl ∙ ap (bit_or (get_or all 0 0)) (subst (λ j. bit_and (get_or rows j 0) x ≡ if_has c.args.mask j (slice_index rows j)) (sym (add-zero i)) (c.chosen.ensures (get_or rows i 0) (c.type_inv.rows i).fits)))
    (lane all rows i x y c.fits-all.0 long 1 y (omega arith) refl ∙ ap (bit_or (get_or all 1 0)) (c.chosen-2.ensures (get_or rows (i + 1) 0) (c.type_inv.rows (i + 1)).fits))
