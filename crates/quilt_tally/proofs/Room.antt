-- Quarters of a block that are tallied one after another, each within the room that those before it leave.
use Rattle.std.proofs.Common.{◌≡◌, ℕ, zero, suc, ◌+◌, ◌-◌, ◌^◌, ◌<◌, ◌≤◌, false, cond, List, [], ◌∷◌, length, flat_map, get_or, set, add-one, refl, sym, ◌∙◌, ap, ap₂, arith}
use Rattle.std.proofs.lemmas.Bool.{true≢false, false_from_ne_true}
use Rattle.std.proofs.lemmas.List.{get_or-set_same, get_or-set_other}
use Rattle.quilt_types.specs.declared.plane.Block.{Block}
use Rattle.quilt_types.specs.Plane.{corner, quarters_of}
use Rattle.quilt_types.specs.Layers.{Grid, colour_at}
use Rattle.quilt_types.specs.Quadtrees.{is_uniform}
use Rattle.quilt_types.proofs.CodeLaws.{pow_same}
use Rattle.quilt_loc.proofs.Quartered.{halved}
use Rattle.quilt_blocks.specs.Cutting.{cut}
use Rattle.quilt_blocks.proofs.Adding.{IsPart, part_at}
use Rattle.quilt_blocks.proofs.Colours.{HasColour-from_uniform, uniform-from_HasColour, HasColour-within}
use Rattle.quilt_tally.specs.declared.tally.Tally.{Tally}
use Rattle.quilt_tally.specs.Tallies.{size_of, HasLeaves, HasPast, IsTally}
use Rattle.quilt_tally.proofs.Joining.{cuts_of, four_lengths}
use Rattle.quilt_tally.proofs.Quarters.{AreTallied, nowhere, nothing, quarter_at, tallied_more}

-- how many leaves the first of the tallies, so many, have together
abbrev pub sizes_before : ℕ → List Tally → ℕ
sizes_before zero ts = 0
sizes_before (suc i) ts = sizes_before i ts + size_of (get_or ts i nothing)

-- a later tally changes nothing before it
sizes_kept : (k i : ℕ) (ts : List Tally) (t : Tally) → k ≤ i → sizes_before k (set ts i t) ≡ sizes_before k ts
sizes_kept zero i ts t le = refl
sizes_kept (suc k) i ts t le =
    let same = ap size_of (get_or-set_other ts i k t nothing (λ e. omega arith)) in
    let before = sizes_kept k i ts t (omega arith) in
    omega arith

sizes_more : (i : ℕ) (ts : List Tally) (t : Tally) → i < length ts → sizes_before (i + 1) (set ts i t) ≡ sizes_before i ts + size_of t
sizes_more i ts t lt =
    let one = ap (λ k. sizes_before k (set ts i t)) (add-one i) in
    let same = ap size_of (get_or-set_same ts i t nothing lt) in
    let before = sizes_kept i i ts t (omega arith) in
    one ∙ ap₂ (λ a b. a + b) before same

-- the quarters so far are tallied, and there may be this room beside their leaves
pub record IsJoining (n : ℕ) (g : Grid) (b : Block) (i : ℕ) (ts : List Tally) (room most : ℕ) : Type 0 where
  pub tallied : AreTallied n g b (quarters_of b) i ts
  pub beside : most ≤ room + sizes_before i ts

-- the sum of four numbers of leaves, of which the first, so many, are known, and the next is greater than the room
sum_past : (l : ℕ → ℕ) (i : ℕ) (ts : List Tally) (room most : ℕ) → i < 4 → most ≤ room + sizes_before i ts
    → ((j : ℕ) → j < i → l j ≡ size_of (get_or ts j nothing)) → room < l i → most < l 0 + l 1 + l 2 + l 3
sum_past l zero ts room most lt beside same over = omega arith
sum_past l (suc zero) ts room most lt beside same over = let a = same 0 (omega arith) in omega arith
sum_past l (suc (suc zero)) ts room most lt beside same over =
    let a = same 0 (omega arith) in
    let b = same 1 (omega arith) in
    omega arith
sum_past l (suc (suc (suc zero))) ts room most lt beside same over =
    let a = same 0 (omega arith) in
    let b = same 1 (omega arith) in
    let c = same 2 (omega arith) in
    omega arith
sum_past l (suc (suc (suc (suc i)))) ts room most lt beside same over = absurd (omega arith)

-- the leaves of a block of two colours are those of its quarters
quarter_cuts : (n : ℕ) (g : Grid) (b : Block) (k : ℕ) → is_uniform n g b ≡ false
    → length (cut (is_uniform n g) (suc k) b)
    ≡ length (cut (is_uniform n g) k (get_or (quarters_of b) 0 nowhere)) + length (cut (is_uniform n g) k (get_or (quarters_of b) 1 nowhere))
    + length (cut (is_uniform n g) k (get_or (quarters_of b) 2 nowhere)) + length (cut (is_uniform n g) k (get_or (quarters_of b) 3 nowhere))
quarter_cuts n g b k mixed =
    let f = cut (is_uniform n g) k in
    ap (λ t. length (cond t (b ∷ []) (flat_map f (quarters_of b)))) mixed
    ∙ four_lengths (f (get_or (quarters_of b) 0 nowhere)) (f (get_or (quarters_of b) 1 nowhere)) (f (get_or (quarters_of b) 2 nowhere))
    (f (get_or (quarters_of b) 3 nowhere))

module _ {n : ℕ} {g : Grid} {b : Block} {i : ℕ} {ts : List Tally} {room most : ℕ} (now : IsJoining n g b i ts room most) where
  -- the next quarter
  pub next_at : i < 4 → IsPart n b i (get_or (quarters_of b) i nowhere)
  next_at lt = quarter_at now.tallied lt

  -- where it is tallied
  pub joining_more : (t : Tally) (left : ℕ) → i < 4 → left ≡ room - size_of t → IsTally n g (get_or (quarters_of b) i nowhere) t
      → IsJoining n g b (i + 1) (set ts i t) left most
  joining_more t left lt is here =
      let long = now.tallied.long in
      let more = sizes_more i ts t (omega arith) in
      let beside = now.beside in
      record { tallied = tallied_more now.tallied t lt here; beside = omega arith }

  -- where it has more leaves than there is room, the block has two colours
  past_mixed : i < 4 → HasPast n g (get_or (quarters_of b) i nowhere) room → is_uniform n g b ≡ false
  past_mixed lt past =
      let q = get_or (quarters_of b) i nowhere in
      let part = next_at lt in
      false_from_ne_true (is_uniform n g b) (λ u.
      true≢false (sym (uniform-from_HasColour n g q (colour_at n g (corner b)) part.block
      (HasColour-within n g q b (colour_at n g (corner b)) part.within (HasColour-from_uniform n g b u))) ∙ past.mixed))

  -- and more leaves than the most
  pub joining_past : i < 4 → HasPast n g (get_or (quarters_of b) i nowhere) room → HasPast n g b most
  joining_past lt past =
      let done = now.tallied in
      let v = halved n b done.block done.wide in
      let mixed = past_mixed lt past in
      let q = get_or (quarters_of b) i nowhere in
      let part = next_at lt in
      let half = part.half in
      let whole = v.2 in
      let halves = v.3 in
      let size : q.side ≡ 2 ^ v.0 = omega arith in
      let leaves : HasLeaves n g q (length (cut (is_uniform n g) v.0 q)) = record {
        cut_into = λ j s. ap (λ l. length (cut (is_uniform n g) l q)) (pow_same j v.0 (sym s ∙ size));
      } in
      let sum = sum_past (λ j. length (cut (is_uniform n g) v.0 (get_or (quarters_of b) j nowhere))) i ts room most lt now.beside
      (λ j less.
      let p = quarter_at_first j less in
      let h = p.half in
      cuts_of n g (get_or (quarters_of b) j nowhere) (get_or ts j nothing) v.0 p.block (omega arith) (done.each j less))
      (past.over (length (cut (is_uniform n g) v.0 q)) leaves) in
      record {
        mixed = mixed;
        over = λ k has.
            let all = has.cut_into (suc v.0) v.2 in
            let cuts = quarter_cuts n g b v.0 mixed in
            omega arith;
      }
    where
      quarter_at_first : (j : ℕ) → j < i → IsPart n b j (get_or (quarters_of b) j nowhere)
      quarter_at_first j less = part_at n b (quarters_of b) j nowhere now.tallied.few now.tallied.block now.tallied.wide refl (omega arith)
