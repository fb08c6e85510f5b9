-- The records that are pushed for the points of a block.
use Rattle.std.proofs.Common.{◌≡◌, ℕ, zero, suc, ◌+◌, ◌<◌, ◌≤◌, ◌^◌, Bool, true, false, cond, nat_le, List, [], ◌∷◌, ◌++◌, map, length, take, get_or, filter}
use Rattle.std.proofs.Common.{flat_map, refl, sym, ◌∙◌, ap, ap₂, ⊎_elim, arith, append_assoc, pow_pos, pow-suc, ◌⊎◌, leb-true, le-leb}
use Rattle.std.proofs.lemmas.Bool.{cases_Bool, cond-true, cond-false}
use Rattle.std.proofs.lemmas.List.{map-append, length-map, take_all, append-nil, get_or_default}
use Rattle.std.proofs.lemmas.Grind.{flat_map-append}
use Rattle.quilt_types.specs.declared.plane.Pixel.{Pixel}
use Rattle.quilt_types.specs.declared.plane.Block.{Block}
use Rattle.quilt_types.specs.declared.plane.Point.{Point}
use Rattle.quilt_types.specs.Plane.{in_block, quarters_of, IsBlock}
use Rattle.quilt_loc.proofs.Quartered.{quarters_are}
use Rattle.quilt_types.specs.Facts.{Fact, HoldsPoint, HoldsNoPoint, or_none}
use Rattle.quilt_record.specs.declared.record.Record.{Record}
use Rattle.quilt_point_laws.specs.Spreading.{held_facts, spread}
use Rattle.quilt_points.specs.Layers.{point_entry, point_entries, block_record}
use Rattle.quilt_edits.proofs.Lists.{take_next}

-- ---- points one by one
module _ (n capacity number : ℕ) (b : Block) where
  -- the records of the points
  abbrev pub point_rows : List Point → List Record
  point_rows ps = map (block_record n capacity number) (map (λ e. HoldsPoint b e.0 e.1) (point_entries ps))

  rows-append : (ps qs : List Point) → point_rows (ps ++ qs) ≡ point_rows ps ++ point_rows qs
  rows-append ps qs =
      let fact : Pixel × ℕ → Fact = λ e. HoldsPoint b e.0 e.1 in
      ap (λ es. map (block_record n capacity number) (map fact es)) (map-append point_entry ps qs)
      ∙ ap (map (block_record n capacity number)) (map-append fact (point_entries ps) (point_entries qs))
      ∙ map-append (block_record n capacity number) (map fact (point_entries ps)) (map fact (point_entries qs))

  pub rows_next : (first old new : List Record) (ps : List Point) (i : ℕ) (d : Point) (r : Record) → old ≡ first ++ point_rows (take i ps)
      → new ≡ old ++ r ∷ [] → i < length ps
      → r ≡ block_record n capacity number (HoldsPoint b (get_or ps i d).at (get_or ps i d).label) → new ≡ first ++ point_rows (take (i + 1) ps)
  rows_next first old new ps i d r has is lt row =
      is ∙ ap₂ (λ (l : List Record) (z : Record). l ++ z ∷ []) has row
      ∙ append_assoc first (point_rows (take i ps)) (point_rows (get_or ps i d ∷ []))
      ∙ ap (λ (l : List Record). first ++ l) (sym (rows-append (take i ps) (get_or ps i d ∷ [])))
      ∙ ap (λ (l : List Point). first ++ point_rows l) (sym (take_next ps i d lt))

  pub rows_all : (first all : List Record) (ps : List Point) (i : ℕ) → all ≡ first ++ point_rows (take i ps) → length ps ≤ i → all ≡ first ++ point_rows ps
  rows_all first all ps i has le = has ∙ ap (λ (l : List Point). first ++ point_rows l) (take_all i ps le)

  or_none_some : (none : Fact) (fs : List Fact) → 0 < length fs → or_none none fs ≡ fs
  or_none_some none [] lt = absurd (omega arith)
  or_none_some none (f ∷ fs) lt = refl

  -- the facts of a block with points are those of the points
  pub some_held : (ps : List Point) → 0 < length ps → point_rows ps ≡ map (block_record n capacity number) (held_facts b (point_entries ps))
  some_held ps lt =
      let fact : Pixel × ℕ → Fact = λ e. HoldsPoint b e.0 e.1 in
      let a = length-map (point_entries ps) fact in
      let c = length-map ps point_entry in
      ap (map (block_record n capacity number)) (sym (or_none_some (HoldsNoPoint b) (map fact (point_entries ps)) (omega arith)))

  pub none_held : (ps : List Point) → length ps ≡ 0
      → map (block_record n capacity number) (held_facts b (point_entries ps)) ≡ block_record n capacity number (HoldsNoPoint b) ∷ []
  none_held [] e = refl
  none_held (p ∷ ps) e = absurd (omega arith)

-- ---- points in a block
filter_kept : (b : Block) (p : Point) (ps : List Point) (rest : List (Pixel × ℕ)) (t : Bool) → point_entries ps ≡ rest
    → point_entries (cond t (p ∷ ps) ps) ≡ cond t (point_entry p ∷ rest) rest
filter_kept b p ps rest true e = ap (λ l. point_entry p ∷ l) e
filter_kept b p ps rest false e = e

pub entries-filter : (b : Block) (ps : List Point) → point_entries (filter (λ p. in_block b p.at) ps) ≡ filter (λ e. in_block b e.0) (point_entries ps)
entries-filter b [] = refl
entries-filter b (p ∷ ps) = filter_kept b p (filter (λ (q : Point). in_block b q.at) ps) (filter (λ (e : Pixel × ℕ). in_block b e.0) (point_entries ps))
    (in_block b p.at) (entries-filter b ps)

-- ---- the blocks into which they are spread
module _ (n capacity number : ℕ) (points : List Point) where
  abbrev part : ℕ → Block → List Fact
  part k r = spread capacity k r (filter (λ e. in_block r e.0) (point_entries points))

  -- the records of the first quarters
  abbrev pub IsSpread : Block → List Block → List Record → List Record → Type 0
  IsSpread b qs first now = (k : ℕ) → b.side ≡ 2 ^ suc k → now ≡ first ++ map (block_record n capacity number) (flat_map (part k) qs)

  pub spread_next : (b : Block) (qs : List Block) (i : ℕ) (d : Block) (here : List Point) (first old new : List Record) → i < length qs
      → here ≡ filter (λ p. in_block (get_or qs i d) p.at) points → ((k : ℕ) → b.side ≡ 2 ^ suc k → (get_or qs i d).side ≡ 2 ^ k)
      → ((k : ℕ) → (get_or qs i d).side ≡ 2 ^ k → new ≡ old ++ map (block_record n capacity number) (spread capacity k (get_or qs i d) (point_entries here)))
      → IsSpread b (take i qs) first old → IsSpread b (take (i + 1) qs) first new
  spread_next b qs i d here first old new lt is half step has k s =
      let q = get_or qs i d in
      let row = map (block_record n capacity number) in
      step k (half k s)
      ∙ ap₂ (λ (l : List Record) (m : List Fact). l ++ row m) (has k s) (ap (spread capacity k q) (ap point_entries is ∙ entries-filter q points))
      ∙ append_assoc first (row (flat_map (part k) (take i qs))) (row (part k q))
      ∙ ap (λ (l : List Record). first ++ l) (sym (map-append (block_record n capacity number) (flat_map (part k) (take i qs)) (part k q)))
      ∙ ap (λ (l : List Fact). first ++ row (flat_map (part k) (take i qs) ++ l)) (sym (append-nil (part k q)))
      ∙ ap (λ (l : List Fact). first ++ row l) (sym (flat_map-append (part k) (take i qs) (q ∷ [])))
      ∙ ap (λ (l : List Block). first ++ row (flat_map (part k) l)) (sym (take_next qs i d lt))

  pub spread_all : (b : Block) (qs : List Block) (i : ℕ) (first all : List Record) → qs ≡ quarters_of b → length qs ≤ i → capacity < length points → 1 < b.side
      → IsSpread b (take i qs) first all → (k : ℕ) → b.side ≡ 2 ^ k
      → all ≡ first ++ map (block_record n capacity number) (spread capacity k b (point_entries points))
  spread_all b qs i first all are le many wide has zero s = absurd (omega arith)
  spread_all b qs i first all are le many wide has (suc k) s =
      let row = map (block_record n capacity number) in
      let long = length-map points point_entry in
      has k s ∙ ap (λ (l : List Block). first ++ row (flat_map (part k) l)) (take_all i qs le ∙ are)
      ∙ ap (λ (l : List Fact). first ++ row l)
      (sym (cond-false (nat_le (length (point_entries points)) capacity) (held_facts b (point_entries points)) (flat_map (part k) (quarters_of b))
      (too_many (omega arith))))
    where
      too_many : capacity < length (point_entries points) → nat_le (length (point_entries points)) capacity ≡ false
      too_many lt = ⊎_elim (λ t. let few = leb-true (length (point_entries points)) capacity t in absurd (omega arith)) (λ f. f)
          (cases_Bool (nat_le (length (point_entries points)) capacity))

  -- a block that is not cut
  pub spread_few : (b : Block) (first all : List Record) → all ≡ first ++ map (block_record n capacity number) (held_facts b (point_entries points))
      → (length points ≤ capacity) ⊎ (b.side ≤ 1)
      → (k : ℕ) → b.side ≡ 2 ^ k → all ≡ first ++ map (block_record n capacity number) (spread capacity k b (point_entries points))
  spread_few b first all has why zero s = has
  spread_few b first all has why (suc k) s =
      let row = map (block_record n capacity number) in
      let long = length-map points point_entry in
      let p = pow-suc 2 k in
      let pos = pow_pos k in
      let few : length points ≤ capacity = ⊎_elim (λ h. h) (λ h. absurd (omega arith)) why in
      has ∙ ap (λ (l : List Fact). first ++ row l)
      (sym (cond-true (nat_le (length (point_entries points)) capacity) (held_facts b (point_entries points)) (flat_map (part k) (quarters_of b))
      (le-leb (length (point_entries points)) capacity (omega arith))))

-- the side of a quarter
pub part_half : (n : ℕ) (b : Block) (qs : List Block) (i : ℕ) (d : Block) → IsBlock n b → 1 < b.side → qs ≡ quarters_of b → i < 4 → (k : ℕ)
    → b.side ≡ 2 ^ suc k → (get_or qs i d).side ≡ 2 ^ k
part_half n b qs i d hb wide are lt k s =
    let q = get_or (quarters_of b) i d in
    let same : get_or qs i d ≡ q = ap (λ (l : List Block). get_or l i d) are in
    let r = quarters_are n b q hb wide (i, lt, get_or_default (quarters_of b) i q d lt) in
    let half = r.half in
    let p = pow-suc 2 k in
    ap (λ (z : Block). z.side) same ∙ (let e : q.side ≡ 2 ^ k = omega arith in e)
