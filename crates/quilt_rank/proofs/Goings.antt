-- What the loop of the search keeps, where the layer shows its lines and where it does not.
use Rattle.std.proofs.Common.{◌≡◌, ℕ, ◌+◌, ◌*◌, ◌<◌, ◌≤◌, true, false, List, [], ◌∷◌, Option, map, length, All, Contains, refl, sym, subst, arith, le-leb}
use Rattle.std.proofs.Common.{IsPermutation}
use Rattle.quilt_types.specs.declared.plane.Pixel.{Pixel}
use Rattle.quilt_types.specs.declared.plane.Block.{Block}
use Rattle.quilt_types.specs.Plane.{quarters_of, whole, IsBlock}
use Rattle.quilt_types.specs.Segments.{block_distance}
use Rattle.quilt_types.specs.Ranking.{ranked}
use Rattle.quilt_types.specs.Quadtrees.{reach, is_reached}
use Rattle.quilt_world.specs.Tale.{Goes}
use Rattle.quilt_loc.proofs.Nesting.{side_pos}
use Rattle.quilt_loc.proofs.Quartered.{IsBlock-whole, quarters_are}
use Rattle.quilt_near.specs.Lines.{Lines, IsLines}
use Rattle.quilt_near.specs.Choices.{placed_at}
use Rattle.quilt_near.specs.Budgets.{is_close}
use Rattle.quilt_near.specs.Parts.{IsPart, PartFits, pages_for}
use Rattle.quilt_near.specs.declared.part.Part.{Part}
use Rattle.quilt_near.specs.declared.part.Part.TheVariants.{Split, Leaf}
use Rattle.quilt_near.proofs.Owing.{owed, owed_first, owed_leaf, owed_split, left, left_leaf, left_split}
use Rattle.quilt_near.proofs.Waiting.{all_first, all_rest, all_split, came_out}
use Rattle.quilt_near.proofs.Telling.{tells_same, tells_then, tells_weaker}
use Rattle.quilt_rank.specs.Ranks.{last_far, is_past_ranks}
use Rattle.quilt_rank.specs.Opened.{AfterRanking, IsBlockRanked}
use Rattle.quilt_rank.proofs.Orders.{Rank}
use Rattle.quilt_rank.proofs.Fronts.{Front, start, leaf_step, split_step, at_end, at_stop}
use Rattle.quilt_rank.proofs.Closes.{close}

abbrev pub block_of : ℕ × Block → Block
block_of e = e.1

-- The loop has come so far: with the reads before it and now, the blocks that wait, and the first ones so far.
pub record Going (n : ℕ) (p : Pixel) (k : ℕ) (shown : Lines → Type 0) (before now : Option ℕ) (queue : List (ℕ × Block)) (rs : List Rank) : Type 0 where
  pub valid : (e : ℕ × Block) → Contains queue e → IsBlock n e.1
  pub front : (l : Lines) → shown l → Front n p k l queue rs
  pub paid : (l : Lines) → shown l → length (ranked l.segs p k) ≡ k
      → Goes (λ old new. new + owed block_of n (is_close p (last_far (ranked l.segs p k))) l queue ≤ old
      + reach n l.segs l.cover (is_close p (last_far (ranked l.segs p k)))) before now

module _ (n : ℕ) (p : Pixel) (k : ℕ) (some : 1 ≤ k) (shown : Lines → Type 0) (lines : (l : Lines) → shown l → IsLines n l) (before : Option ℕ) where
  pub going_start : (queue : List (ℕ × Block)) → IsPermutation (placed_at p (whole n) ∷ []) queue → Going n p k shown before before queue []
  going_start queue h = record {
    valid = all_first (λ z. IsBlock n z.1) (placed_at p (whole n)) queue h (IsBlock-whole n);
    front = λ l s. start n p k l (lines l s) queue h;
    paid = λ l s long.
        let test = is_close p (last_far (ranked l.segs p k)) in
        tells_same (λ old new. new + owed block_of n test l queue ≤ old + reach n l.segs l.cover test)
        (λ x. let o = owed_first block_of n test l (placed_at p (whole n)) queue refl h in omega arith) before;
  }

  -- a block came out, is to be opened, and was opened
  module _ (mid : Option ℕ) (queue rest : List (ℕ × Block)) (rs : List Rank) (e : ℕ × Block) (g : Going n p k shown before mid queue rs)
      (h : IsPermutation queue (e ∷ rest)) where
    pub first_valid : IsBlock n e.1
    first_valid = g.valid e (came_out queue rest e h)

    pub first_reached : (l : Lines) → shown l → is_reached l.cover e.1 ≡ true
    first_reached l s = ((g.front l s).waits e (came_out queue rest e h)).reached

    close_to : (l : Lines) (s : shown l) → All (λ z. e.0 ≤ z.0) rest → is_past_ranks k rs e.0 ≡ false → length (ranked l.segs p k) ≡ k
        → is_close p (last_far (ranked l.segs p k)) e.1 ≡ true
    close_to l s least past long =
        let far = last_far (ranked l.segs p k) in
        let c = close n p k l (lines l s) queue rest rs e (g.front l s) h least (ranked l.segs p k) some refl long past in
        let w = (g.front l s).waits e (came_out queue rest e h) in
        le-leb (block_distance p e.1 * far.den) far.num (subst (λ t. t * far.den ≤ far.num) w.distance c)

    by_part : (now : Option ℕ) (new : List (ℕ × Block)) (then : List Rank) → All (λ z. e.0 ≤ z.0) rest → is_past_ranks k rs e.0 ≡ false → (part : Part)
        → ((l : Lines) → shown l → IsPart l e.1 part) → PartFits n e.1 part → AfterRanking p k e.1 part rest new rs then
        → Goes (λ x y. y ≤ x + pages_for part) mid now → Going n p k shown before now new then
    by_part now new then least past (Leaf list) found of after reads =
        subst (λ (t : List (ℕ × Block)). Going n p k shown before now t then) (sym after.0) (subst (Going n p k shown before now rest) (sym after.1) (record {
          valid = all_rest (λ z. IsBlock n z.1) queue rest e h g.valid;
          front = λ l s. leaf_step n p k l (lines l s) queue rest rs e list (g.front l s) h (found l s).1;
          paid = λ l s long.
              let test = is_close p (last_far (ranked l.segs p k)) in
              let less =
              owed_leaf block_of n test l queue rest e h first_valid (first_reached l s) (close_to l s least past long) list (found l s).0 (found l s).1 in
              tells_then (λ x y. y + owed block_of n test l queue ≤ x + reach n l.segs l.cover test) (λ x y. y ≤ x + (12 + 6 * length list))
              (λ x y. y + owed block_of n test l rest ≤ x + reach n l.segs l.cover test)
              (λ x y z a b. omega arith) before mid now (g.paid l s long) reads;
        }))
    by_part now new then least past Split found wide after reads =
        subst (Going n p k shown before now new) (sym after.1) (record {
          valid = all_split (λ z. IsBlock n z.1) p queue rest new e h after.0 g.valid (λ b c. (quarters_are n e.1 b first_valid wide c).block);
          front = λ l s. split_step n p k l (lines l s) queue rest new rs e (g.front l s) h wide (found l s) after.0;
          paid = λ l s long.
              let test = is_close p (last_far (ranked l.segs p k)) in
              let less = owed_split block_of n test l queue rest e h first_valid (first_reached l s) (close_to l s least past long)
              (map (placed_at p) (quarters_of e.1)) new wide (found l s) refl after.0 in
              tells_then (λ x y. y + owed block_of n test l queue ≤ x + reach n l.segs l.cover test) (λ x y. y ≤ x + 12)
              (λ x y. y + owed block_of n test l new ≤ x + reach n l.segs l.cover test)
              (λ x y z a b. omega arith) before mid now (g.paid l s long) reads;
        })

    left_by_part : (new : List (ℕ × Block)) (then : List Rank) (part : Part) → PartFits n e.1 part → AfterRanking p k e.1 part rest new rs then
        → left block_of new < left block_of queue
    left_by_part new then (Leaf list) of after =
        subst (λ (t : List (ℕ × Block)). left block_of t < left block_of queue) (sym after.0) (left_leaf block_of queue rest e h (side_pos n e.1 first_valid))
    left_by_part new then Split wide after = left_split block_of queue rest new (map (placed_at p) (quarters_of e.1)) e h wide refl after.0

    pub going_on : (now : Option ℕ) (new : List (ℕ × Block)) (then : List Rank) (shown' : Lines → Type 0) → ((l : Lines) → shown l → shown' l)
        → All (λ z. e.0 ≤ z.0) rest → is_past_ranks k rs e.0 ≡ false → IsBlockRanked n p k e.1 shown' rest new rs then mid now → Going n p k shown before now new then
    going_on now new then shown' still least past o = by_part now new then least past o.part (λ l s. o.found l (still l s)) o.found_of o.after o.reads

    pub less_left : (now : Option ℕ) (new : List (ℕ × Block)) (then : List Rank) (shown' : Lines → Type 0) → IsBlockRanked n p k e.1 shown' rest new rs
        then mid now → left block_of new < left block_of queue
    less_left now new then shown' o = left_by_part new then o.part o.found_of o.after

  pub going_end : (now : Option ℕ) (queue : List (ℕ × Block)) (rs : List Rank) → Going n p k shown before now queue rs → queue ≡ [] → (l : Lines)
      → shown l → rs ≡ ranked l.segs p k
  going_end now queue rs g e l s = at_end n p k l (lines l s) rs (subst (λ (t : List (ℕ × Block)). Front n p k l t rs) e (g.front l s))

  pub going_stop : (now : Option ℕ) (queue rest : List (ℕ × Block)) (rs : List Rank) (e : ℕ × Block) → Going n p k shown before now queue rs
      → IsPermutation queue (e ∷ rest) → All (λ z. e.0 ≤ z.0) rest
      → is_past_ranks k rs e.0 ≡ true → (l : Lines) → shown l → rs ≡ ranked l.segs p k
  going_stop now queue rest rs e g h least past l s = at_stop n p k l (lines l s) queue rest rs e some (g.front l s) h least past

  pub going_reads : (now : Option ℕ) (queue : List (ℕ × Block)) (rs : List Rank) → Going n p k shown before now queue rs → (l : Lines) → shown l
      → rs ≡ ranked l.segs p k → length rs ≡ k
      → Goes (λ old new. new ≤ old + reach n l.segs l.cover (is_close p (last_far rs))) before now
  going_reads now queue rs g l s is long =
      let answer = ranked l.segs p k in
      let test = is_close p (last_far answer) in
      let paid = g.paid l s (subst (λ (t : List Rank). length t ≡ k) is long) in
      subst (λ (t : List Rank). Goes (λ old new. new ≤ old + reach n l.segs l.cover (is_close p (last_far t))) before now) (sym is)
      (tells_weaker (λ x y. y + owed block_of n test l queue ≤ x + reach n l.segs l.cover test) (λ x y. y ≤ x + reach n l.segs l.cover test)
      (λ x y a. omega arith) before now paid)
