-- The leaves of a list by their places: where each begins, and which one holds a pixel.
use Rattle.std.proofs.Common.{◌≡◌, ℕ, suc, ◌+◌, ◌<◌, ◌≤◌, List, [], ◌∷◌, ◌++◌, length, get_or, take, set, length-append, sym, ◌∙◌, ap, subst, ⊎_elim, arith}
use Rattle.std.proofs.Common.{Contains}
use Rattle.std.proofs.lemmas.Bool.{cases_lt}
use Rattle.std.proofs.lemmas.List.{length-map, get_or-map, map-append, take-map, take_at}
use Rattle.std.proofs.lemmas.List.Elements.{Contains-get_or}
use Rattle.quilt_types.specs.declared.plane.Pixel.{Pixel}
use Rattle.quilt_types.specs.declared.plane.Block.{Block}
use Rattle.quilt_types.specs.Plane.{side, Holds, IsBlock}
use Rattle.quilt_loc.specs.Codes.{code_at, code_from, code_to}
use Rattle.quilt_loc.proofs.Blocks.{side_most}
use Rattle.quilt_loc.proofs.Intervals.{held_code}
use Rattle.quilt_blocks.specs.declared.leaf.Leaf.{Leaf}
use Rattle.quilt_blocks.specs.Cutting.{leaf_pair}
use Rattle.quilt_blocks.specs.Walk.{pixel_count}
use Rattle.quilt_blocks.specs.Listing.{IsListed, Follows, EndsInQuarters, leaf_pairs}
use Rattle.quilt_blocks.proofs.Chains.{size_of-nil, Follows-member, Follows-next, Follows-last, Follows-place}
use Rattle.quilt_blocks.proofs.Listed.{listed_run}
use Rattle.quilt_blocks.proofs.Merging.{siblings, merged_is}
use Rattle.quilt_blocks.proofs.Painting.{code_in}

-- the leaf at a place, as the definitions have it
pub pair_at : (items : List Leaf) (i : ℕ) (d : Leaf) → i < length items → get_or (leaf_pairs items) i (leaf_pair d) ≡ leaf_pair (get_or items i d)
pair_at items i d lt = get_or-map leaf_pair items i d (leaf_pair d) lt

pub member_at : (items : List Leaf) (i : ℕ) (d : Leaf) → i < length items → Contains (leaf_pairs items) (leaf_pair (get_or items i d))
member_at items i d lt =
    let l = length-map items leaf_pair in
    subst (Contains (leaf_pairs items)) (pair_at items i d lt) (Contains-get_or (leaf_pairs items) i (leaf_pair d) (omega arith))

pub followed_block : (n : ℕ) (items : List Leaf) (i : ℕ) (d : Leaf) → Follows n 0 (leaf_pairs items) → i < length items → IsBlock n (get_or items i d).block
followed_block n items i d h lt = (Follows-member n 0 (leaf_pairs items) (leaf_pair (get_or items i d)) h (member_at items i d lt)).block

-- the last four leaves made one
pub merged_items : (n : ℕ) (items : List Leaf) (w : Leaf) (k : ℕ) → k + 4 ≡ length items → (q : EndsInQuarters n (leaf_pairs items) (leaf_pair w))
    → leaf_pairs (set (take (k + 1) items) k w) ≡ q.front ++ leaf_pair w ∷ []
merged_items n items w k e q =
    let l = length-map items leaf_pair in
    let long : length (leaf_pairs items) ≡ length q.front + 4 = ap length q.split ∙ length-append q.front (siblings (leaf_pair w)) in
    ap leaf_pairs (merged_is items k w e) ∙ map-append leaf_pair (take k items) (w ∷ [])
    ∙ ap (λ l. l ++ leaf_pair w ∷ []) (sym (take-map leaf_pair k items) ∙ ap (take k) q.split ∙ take_at q.front (siblings (leaf_pair w)) k (omega arith))

module _ (n : ℕ) (items : List Leaf) (h : IsListed n (leaf_pairs items)) where
  pub block_at_place : (i : ℕ) (d : Leaf) → i < length items → IsBlock n (get_or items i d).block
  block_at_place i d lt = followed_block n items i d (listed_run n (leaf_pairs items) h).follows lt

  pub first_code : (d : Leaf) → 0 < length items → code_from (get_or items 0 d).block ≡ 0
  first_code d lt =
      let l = length-map items leaf_pair in
      let z = size_of-nil in
      sym (ap (λ (e : Block × ℕ). code_from e.0) (pair_at items 0 d lt))
      ∙ Follows-place n 0 (leaf_pairs items) 0 (leaf_pair d) (listed_run n (leaf_pairs items) h).follows (omega arith)
      ∙ (let e : 0 + pixel_count [] ≡ 0 = omega arith in e)

  -- the last leaf that begins at the code of a pixel or before holds it
  pub held_at : (p : Pixel) (low high : ℕ) (d : Leaf) → p.x < side n → p.y < side n → low < high → high ≤ low + 1 → high ≤ length items
      → code_from (get_or items low d).block ≤ code_at p → (high < length items → code_at p < code_from (get_or items high d).block)
      → Holds (get_or items low d).block p
  held_at p low high d hx hy lt one inside from to =
      let l = length-map items leaf_pair in
      let run = listed_run n (leaf_pairs items) h in
      let s = run.size in
      let m = side_most n h.most in
      let hb = block_at_place low d (omega arith) in
      let ix = hb.in_x in
      let iy = hb.in_y in
      let here = ap (λ (e : Block × ℕ). code_to e.0) (pair_at items low d (omega arith)) in
      let next : high ≡ suc low = omega arith in
      let end : code_at p < code_to (get_or items low d).block =
      ⊎_elim
      (λ more.
      let step = Follows-next n 0 (leaf_pairs items) low (leaf_pair d) run.follows (omega arith) in
      let there = ap (λ (e : Block × ℕ). code_from e.0) (pair_at items (suc low) d (omega arith)) in
      let same = ap (λ i. code_from (get_or items i d).block) next in
      let t = to more in
      omega arith)
      (λ none.
      let step = Follows-last n 0 (leaf_pairs items) low (leaf_pair d) run.follows (omega arith) in
      let c = code_in n p h.most hx hy in
      omega arith) (cases_lt high (length items)) in
      held_code n (get_or items low d).block p hb h.most (omega arith) (omega arith) (omega arith) (omega arith) from end
