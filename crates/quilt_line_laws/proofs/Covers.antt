-- Covers of the square by blocks, and that cutting blocks into quarters leaves a cover.
use Rattle.std.proofs.Common.{◌≡◌, ℕ, ◌^◌, ◌<◌, ◌≤◌, Bool, true, false, cond, ◌&&◌, List, [], ◌∷◌, flat_map, count_by, eqb, nat_lt, refl, sym, ◌∙◌, subst}
use Rattle.std.proofs.Common.{arith, Contains, ⊎_elim, eqb-true, eq-eqb, ltb-true, pow-suc}
use Rattle.std.proofs.lemmas.Bool.{and_parts}
use Rattle.quilt_types.specs.declared.plane.Pixel.{Pixel}
use Rattle.quilt_types.specs.declared.plane.Block.{Block}
use Rattle.quilt_types.specs.declared.plane.Seg.{Seg}
use Rattle.quilt_types.specs.Plane.{pixels, blocks, in_block, quarters_of, Holds, IsBlock, Within}
use Rattle.quilt_types.specs.Layers.{BlockSet, SegMap, is_cover}
use Rattle.quilt_types.specs.Segments.{square, meets}
use Rattle.quilt_types.specs.Quadtrees.{is_split, segs_meeting, after_add}
use Rattle.quilt_types.specs.Sets as sets
use Rattle.quilt_loc.proofs.Members.{Contains-nil, Contains-here, Contains-cons_cases, Contains-flat_map, Contains-flat_map_from, list_all-at, list_all-from}
use Rattle.quilt_loc.proofs.Once.{once_some, once_same}
use Rattle.quilt_loc.proofs.Rows.{Contains-pixels, Contains-pixels_from}
use Rattle.quilt_loc.proofs.Blocks.{Holds-from, in_block-true, IsBlock-from}
use Rattle.quilt_loc.proofs.Nesting.{around, Within-holds, nested, same_block_from}
use Rattle.quilt_loc.proofs.Quartered.{quarters_are, is_quarter}
use Rattle.quilt_loc.proofs.Around.{IsBlock-around, Holds-around}
use Rattle.quilt_loc.proofs.PlaneOrders.{block_total}
use Rattle.quilt_spell.proofs.facts.FactKeys.{block_same}
use Rattle.quilt_line_laws.proofs.SetLaws.{items-from_list, keys_once}

-- exactly one block of the set holds each pixel, in words
pub record IsCover (n : ℕ) (cover : BlockSet) : Type 0 where
  pub holder : (p : Pixel) → p.x < 2 ^ n → p.y < 2 ^ n → (b : Block) × Contains (sets.items cover) b × Holds b p
  pub one : (p : Pixel) → p.x < 2 ^ n → p.y < 2 ^ n → (a b : Block) → Contains (sets.items cover) a → Holds a p
      → Contains (sets.items cover) b → Holds b p → a ≡ b

abbrev holds_one : BlockSet → Pixel → Bool
holds_one cover p = eqb (count_by (λ b. in_block b p) (sets.items cover)) 1

pub IsCover-from : (n : ℕ) (cover : BlockSet) → is_cover n cover ≡ true → IsCover n cover
IsCover-from n cover h =
    let at = λ (p : Pixel) (hx : p.x < 2 ^ n) (hy : p.y < 2 ^ n). eqb-true (count_by (λ b. in_block b p) (sets.items cover)) 1
    (list_all-at (holds_one cover) (pixels n) p h (Contains-pixels n p hx hy)) in
    record {
      holder = λ p hx hy. let r = once_some (λ b. in_block b p) (sets.items cover) (at p hx hy) in (r.0, r.1, Holds-from r.0 p r.2);
      one = λ p hx hy a b ca ha cb hb. once_same (λ b. in_block b p) (sets.items cover) a b (at p hx hy) ca (in_block-true a p ha) cb (in_block-true b p hb);
    }

pub is_cover-true : (n : ℕ) (cover : BlockSet) → IsCover n cover → is_cover n cover ≡ true
is_cover-true n cover h =
    list_all-from (holds_one cover) (pixels n) (λ p c.
    let i = Contains-pixels_from n p c in
    let r = h.holder p i.0 i.1 in
    eq-eqb (count_by (λ b. in_block b p) (sets.items cover)) 1 (keys_once block_total block_same (λ b. in_block b p) cover r.0 r.1 (in_block-true r.0 p r.2)
    (λ a b ca ta cb tb. h.one p i.0 i.1 a b ca (Holds-from a p ta) cb (Holds-from b p tb))))

-- each block is cut into its quarters, or stays
module _ (n : ℕ) (cut : Block → Bool) (cover : BlockSet) (blocks_only : (b : Block) → Contains (sets.items cover) b → IsBlock n b)
    (wide : (b : Block) → cut b ≡ true → 1 < b.side) where
  abbrev pieces : Block → List Block
  pieces b = cond (cut b) (quarters_of b) (b ∷ [])

  cut_piece : (b q : Block) → IsBlock n b → 1 < b.side → Contains (quarters_of b) q
      → IsBlock n q × Within q b × ((r : Block) (p : Pixel) → Contains (quarters_of b) r → Holds q p → Holds r p → q ≡ r)
  cut_piece b q hb w c =
      let i = quarters_are n b q hb w c in
      let half = i.half in
      (i.block, i.within, λ r p d hq hr. let j = quarters_are n b r hb w d in let other = j.half in same_block_from n q r p i.block j.block (omega arith) hq hr)

  single : (b q : Block) → Contains (b ∷ []) q → b ≡ q
  single b q c = ⊎_elim (λ e. e) (λ d. absurd (Contains-nil q d)) (Contains-cons_cases b [] q c)

  piece : (b q : Block) → IsBlock n b → (t : Bool) → cut b ≡ t → Contains (cond t (quarters_of b) (b ∷ [])) q
      → IsBlock n q × Within q b × ((r : Block) (p : Pixel) → Contains (cond t (quarters_of b) (b ∷ [])) r → Holds q p → Holds r p → q ≡ r)
  piece b q hb true e c = cut_piece b q hb (wide b e) c
  piece b q hb false e c =
      let is = single b q c in (
        subst (IsBlock n) is hb,
        subst (λ (z : Block). Within z b) is (record { left = omega arith; right = omega arith; top = omega arith; bottom = omega arith }),
        λ r p d hq hr. sym is ∙ single b r d,
      )

  -- a pixel of the block lies in a piece
  in_piece : (b : Block) (p : Pixel) → IsBlock n b → p.x < 2 ^ n → p.y < 2 ^ n → Holds b p → (t : Bool) → cut b ≡ t
      → (q : Block) × Contains (cond t (quarters_of b) (b ∷ [])) q × Holds q p
  in_piece b p hb hx hy h true e = at hb.level hb.low hb.size
    where
      at : (l : ℕ) → l ≤ n → b.side ≡ 2 ^ l → (q : Block) × Contains (quarters_of b) q × Holds q p
      at ℕ.zero le s = let w = wide b e in absurd (omega arith)
      at (ℕ.suc k) le s =
          let r = around (2 ^ k) p in
          let hr = IsBlock-around n k p (omega arith) hx hy in
          let on = Holds-around k p in
          let p2 = pow-suc 2 k in
          (r, is_quarter n b r hb hr (omega arith) (nested n r b p hr hb (omega arith) on h), on)
  in_piece b p hb hx hy h false e = (b, Contains-here b [], h)

  pub cut_cover : IsCover n cover → IsCover n (sets.from_list (flat_map pieces (sets.items cover)))
  cut_cover h =
      let all = flat_map pieces (sets.items cover) in
      let members = items-from_list block_total block_same all in
      record {
        holder = λ p hx hy.
            let r = h.holder p hx hy in
            let q = in_piece r.0 p (blocks_only r.0 r.1) hx hy r.2 (cut r.0) refl in
            (q.0, (members q.0).1 (Contains-flat_map pieces (sets.items cover) r.0 q.0 r.1 q.1), q.2);
        one = λ p hx hy a b ca ha cb hb.
            let ra = Contains-flat_map_from pieces (sets.items cover) a ((members a).0 ca) in
            let rb = Contains-flat_map_from pieces (sets.items cover) b ((members b).0 cb) in
            let pa = piece ra.0 a (blocks_only ra.0 ra.1) (cut ra.0) refl ra.2 in
            let pb = piece rb.0 b (blocks_only rb.0 rb.1) (cut rb.0) refl rb.2 in
            let same : rb.0 ≡ ra.0 = h.one p hx hy rb.0 ra.0 rb.1 (Within-holds b rb.0 p pb.1 hb) ra.1 (Within-holds a ra.0 p pa.1 ha) in
            pa.2 b p (subst (λ (z : Block). Contains (pieces z) b) same rb.2) ha hb;
      }

-- after a segment came the blocks are a cover still
pub after_add-cover : (n t : ℕ) (segs : SegMap) (cover : BlockSet) (s : Seg) → ((b : Block) → Contains (sets.items cover) b → Contains (blocks n) b)
    → is_cover n cover ≡ true → is_cover n (after_add t segs cover s) ≡ true
unfolding after_add
after_add-cover n t segs cover s only h =
    is_cover-true n (after_add t segs cover s) (cut_cover n (is_split t segs s) cover (λ b c. IsBlock-from n b (only b c))
    (λ b e. ltb-true 1 b.side
    (and_parts (meets s (square b)) (nat_lt 1 b.side) (and_parts (meets s (square b) && nat_lt 1 b.side) (nat_lt t (segs_meeting segs b)) e).0).1)
    (IsCover-from n cover h))
