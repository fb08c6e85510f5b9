-- The leaves of a square, and of a block whose quarters are tallied one after another.
use Rattle.std.proofs.Common.{◌≡◌, ℕ, ◌+◌, ◌<◌, ◌≤◌, List, length, get_or, set, ⊎_elim, sym, ◌∙◌, ap, subst, arith}
use Rattle.std.proofs.lemmas.Bool.{cases_lt}
use Rattle.std.proofs.lemmas.List.{get_or_default, get_or-set_same, get_or-set_other, length-set}
use Rattle.quilt_types.specs.declared.plane.Block.{Block}
use Rattle.quilt_types.specs.Plane.{whole, quarters_of, IsBlock}
use Rattle.quilt_types.specs.Layers.{Grid}
use Rattle.quilt_blocks.specs.Cutting.{leaves_by_code}
use Rattle.quilt_blocks.proofs.Adding.{IsPart, part_at}
use Rattle.quilt_tally.specs.declared.tally.Tally.{Tally}
use Rattle.quilt_tally.specs.declared.tally.Tally.TheVariants.{Many}
use Rattle.quilt_tally.specs.Tallies.{size_of, HasLeaves, HasPast, IsTally, AreTallies}
use Rattle.quilt_tally.proofs.Joining.{part_over, list_leaves, tally_leaves}

abbrev pub nowhere : Block
nowhere = record { x = 0; y = 0; side = 0 }

abbrev pub nothing : Tally
nothing = Many 0

-- these are the quarters of a block that is wider than a pixel, and the first of the tallies, so many, are those of the first quarters
pub record AreTallied (n : ℕ) (g : Grid) (b : Block) (qs : List Block) (i : ℕ) (ts : List Tally) : Type 0 where
  pub few : n ≤ 12
  pub block : IsBlock n b
  pub wide : 1 < b.side
  pub quarters : qs ≡ quarters_of b
  pub long : length ts ≡ 4
  pub each : (j : ℕ) → j < i → IsTally n g (get_or qs j nowhere) (get_or ts j nothing)

module _ {n : ℕ} {g : Grid} {b : Block} {qs : List Block} {i : ℕ} {ts : List Tally} (done : AreTallied n g b qs i ts) where
  -- the next quarter
  pub quarter_at : i < 4 → IsPart n b i (get_or qs i nowhere)
  quarter_at lt = part_at n b qs i nowhere done.few done.block done.wide done.quarters lt

  -- where it has more leaves than the most
  pub quarter_over : (most : ℕ) → i < 4 → ((k : ℕ) → HasLeaves n g (get_or qs i nowhere) k → most < k) → (k : ℕ) → HasLeaves n g b k → most < k
  quarter_over most lt =
      let q = get_or qs i nowhere in
      let there : get_or (quarters_of b) i q ≡ q = ap (λ (l : List Block). get_or l i q) (sym done.quarters)
      ∙ get_or_default qs i q nowhere (subst (λ (l : List Block). i < length l) (sym done.quarters) lt) in
      part_over n g b q most done.block done.wide (i, lt, there)

  -- where it is tallied
  pub tallied_more : (t : Tally) → i < 4 → IsTally n g (get_or qs i nowhere) t → AreTallied n g b qs (i + 1) (set ts i t)
  tallied_more t lt here =
      let long = done.long in
      record {
        few = done.few;
        block = done.block;
        wide = done.wide;
        quarters = done.quarters;
        long = length-set ts i t ∙ long;
        each = λ j le.
            ⊎_elim (λ less. subst (IsTally n g (get_or qs j nowhere)) (sym (get_or-set_other ts i j t nothing (λ e. omega arith))) (done.each j less))
            (λ from.
            let same : i ≡ j = omega arith in
            subst (λ (k : ℕ). IsTally n g (get_or qs k nowhere) (get_or (set ts i t) k nothing)) same
            (subst (IsTally n g (get_or qs i nowhere)) (sym (get_or-set_same ts i t nothing (omega arith))) here))
            (cases_lt j i);
      }

  tally_at : (j : ℕ) (d : Tally) → j < i → j < 4 → IsTally n g (get_or (quarters_of b) j nowhere) (get_or ts j d)
  tally_at j d less lt =
      let long = done.long in
      subst (IsTally n g (get_or (quarters_of b) j nowhere)) (get_or_default ts j nothing d (omega arith))
      (subst (λ (l : List Block). IsTally n g (get_or l j nowhere) (get_or ts j nothing)) done.quarters (done.each j less))

  -- all four are
  pub tallied_all : (d : Tally) → 4 ≤ i → AreTallies n g b (get_or ts 0 d) (get_or ts 1 d) (get_or ts 2 d) (get_or ts 3 d)
  tallied_all d all = record {
    upper_left = tally_at 0 d (omega arith) (omega arith);
    upper_right = tally_at 1 d (omega arith) (omega arith);
    lower_left = tally_at 2 d (omega arith) (omega arith);
    lower_right = tally_at 3 d (omega arith) (omega arith);
  }

pub whole_leaves : (n : ℕ) (g : Grid) (b : Block) (t : Tally) → b ≡ whole n → IsTally n g b t → size_of t ≡ length (leaves_by_code n g)
whole_leaves n g b t is h = tally_leaves n g t (subst (λ (q : Block). IsTally n g q t) is h)

pub whole_over : (n : ℕ) (g : Grid) (b : Block) (most : ℕ) → b ≡ whole n → ((k : ℕ) → HasLeaves n g b k → most < k) → most < length (leaves_by_code n g)
whole_over n g b most is over =
    over (length (leaves_by_code n g)) (subst (λ (q : Block). HasLeaves n g q (length (leaves_by_code n g))) (sym is) (list_leaves n g))

-- where a quarter has too many leaves, or the square itself, its list has
pub past_list : (n : ℕ) (g : Grid) (b : Block) (most : ℕ) → b ≡ whole n → HasPast n g b most → most < length (leaves_by_code n g)
past_list n g b most is past = whole_over n g b most is past.over
