-- The blocks of the square: which they are, which pixels they hold, and how they nest.
use Rattle.std.proofs.Common.{◌≡◌, ℕ, ◌+◌, ◌-◌, ◌%◌, ◌<◌, ◌≤◌, Bool, true, ◌&&◌, nat_le, nat_lt, eqb, map, filter, sym, ap, subst, arith, Contains, eqb-true}
use Rattle.std.proofs.Common.{eq-eqb, leb-true, ltb-true, le-leb, lt-ltb}
use Rattle.std.proofs.Math.Nat.{pow-le-pow_right}
use Rattle.std.proofs.lemmas.Bool.{and_parts, and_from}
use Rattle.quilt_types.specs.declared.plane.Pixel.{Pixel}
use Rattle.quilt_types.specs.declared.plane.Block.{Block}
use Rattle.quilt_types.specs.Plane.{side, below, pixels, blocks_at, blocks, in_block, pixels_of, Holds, IsBlock}
use Rattle.quilt_types.proofs.Members.{Contains-map, Contains-map_from, Contains-flat_map, Contains-flat_map_from, Contains-filter, Contains-filter_from}
use Rattle.quilt_loc.proofs.Rows.{Contains-below, Contains-below_from, Contains-pixels, Contains-pixels_from}

pub Holds-from : (b : Block) (p : Pixel) → in_block b p ≡ true → Holds b p
Holds-from b p h =
    let abc = and_parts (nat_le b.x p.x && nat_lt p.x (b.x + b.side) && nat_le b.y p.y) (nat_lt p.y (b.y + b.side)) h in
    let ab = and_parts (nat_le b.x p.x && nat_lt p.x (b.x + b.side)) (nat_le b.y p.y) abc.0 in
    let a = and_parts (nat_le b.x p.x) (nat_lt p.x (b.x + b.side)) ab.0 in
    record {
      left = leb-true b.x p.x a.0;
      right = ltb-true p.x (b.x + b.side) a.1;
      top = leb-true b.y p.y ab.1;
      bottom = ltb-true p.y (b.y + b.side) abc.1;
    }

pub in_block-true : (b : Block) (p : Pixel) → Holds b p → in_block b p ≡ true
in_block-true b p h =
    and_from _ _ (and_from _ _ (and_from _ _ (le-leb _ _ h.left) (lt-ltb _ _ h.right)) (le-leb _ _ h.top)) (lt-ltb _ _ h.bottom)

-- the pixels of a block
pub Contains-pixels_of : (b : Block) (p : Pixel) → Holds b p → Contains (pixels_of b) p
unfolding pixels_of
Contains-pixels_of b p h =
    let at : ℕ → ℕ → Pixel = λ dy dx. record { x = b.x + dx; y = b.y + dy } in
    let dx = p.x - b.x in
    let dy = p.y - b.y in
    let ll = h.left in
    let tt' = h.top in
    let ex : b.x + dx ≡ p.x = omega arith in
    let ey : b.y + dy ≡ p.y = omega arith in
    let e : at dy dx ≡ p = λ i. record { x = ex i; y = ey i } in
    subst (Contains (pixels_of b)) e
    (Contains-flat_map (λ dy. map (at dy) (below b.side)) (below b.side) dy (at dy dx) (Contains-below b.side dy (omega arith))
    (Contains-map (at dy) (below b.side) dx (Contains-below b.side dx (omega arith))))

pub Contains-pixels_of_from : (b : Block) (p : Pixel) → Contains (pixels_of b) p → Holds b p
unfolding pixels_of
Contains-pixels_of_from b p c =
    let at : ℕ → ℕ → Pixel = λ dy dx. record { x = b.x + dx; y = b.y + dy } in
    let row = Contains-flat_map_from (λ dy. map (at dy) (below b.side)) (below b.side) p c in
    let col = Contains-map_from (at row.0) (below b.side) p row.2 in
    let hy = Contains-below_from b.side row.0 row.1 in
    let hx = Contains-below_from b.side col.0 col.1 in
    let ex : b.x + col.0 ≡ p.x = ap (λ (q : Pixel). q.x) col.2 in
    let ey : b.y + row.0 ≡ p.y = ap (λ (q : Pixel). q.y) col.2 in
    record { left = omega arith; right = omega arith; top = omega arith; bottom = omega arith }

abbrev block_of : Pixel → ℕ → Block
block_of p s = record { x = p.x; y = p.y; side = s }

abbrev fits_at : Pixel → ℕ → Bool
fits_at p s = eqb (p.x % s) 0 && eqb (p.y % s) 0

corner_of : Block → Pixel
corner_of b = record { x = b.x; y = b.y }

pub IsBlock-from : (n : ℕ) (b : Block) → Contains (blocks n) b → IsBlock n b
unfolding blocks_at blocks
IsBlock-from n b c =
    let at = Contains-flat_map_from (blocks_at n) (pixels n) b c in
    let p = at.0 in
    let sized = Contains-map_from (block_of p) (filter (fits_at p) (map side (below (n + 1)))) b at.2 in
    let kept = Contains-filter_from (fits_at p) (map side (below (n + 1))) sized.0 sized.1 in
    let power = Contains-map_from side (below (n + 1)) sized.0 kept.0 in
    let small = Contains-below_from (n + 1) power.0 power.1 in
    let both = and_parts (eqb (p.x % sized.0) 0) (eqb (p.y % sized.0) 0) kept.1 in
    let e = sized.2 in
    let inside = Contains-pixels_from n p at.1 in
    let made : IsBlock n (block_of p sized.0) = record {
      level = power.0;
      low = omega arith;
      size = sym power.2;
      on_x = eqb-true _ _ both.0;
      on_y = eqb-true _ _ both.1;
      in_x = inside.0;
      in_y = inside.1;
    } in
    subst (IsBlock n) e made

pub Contains-blocks : (n : ℕ) (b : Block) → IsBlock n b → Contains (blocks n) b
unfolding blocks_at blocks
Contains-blocks n b h =
    let p : Pixel = record { x = b.x; y = b.y } in
    let low = h.low in
    let power : Contains (map side (below (n + 1))) b.side =
    subst (Contains (map side (below (n + 1)))) (sym h.size) (Contains-map side (below (n + 1)) h.level (Contains-below (n + 1) h.level (omega arith))) in
    let kept = Contains-filter (fits_at p) (map side (below (n + 1))) b.side power (and_from _ _ (eq-eqb _ _ h.on_x) (eq-eqb _ _ h.on_y)) in
    Contains-flat_map (blocks_at n) (pixels n) p b (Contains-pixels n p h.in_x h.in_y)
    (Contains-map (block_of p) (filter (fits_at p) (map side (below (n + 1)))) b.side kept)

-- a square of a level up to 12 is no wider than 4096
pub side_most : (n : ℕ) → n ≤ 12 → side n ≤ 4096
side_most n le = pow-le-pow_right (let p : 0 < 2 = omega arith in p) le

-- a block of a square is one of a larger square
pub IsBlock-up : (n m : ℕ) (b : Block) → n ≤ m → IsBlock n b → IsBlock m b
IsBlock-up n m b le h =
    let w : side n ≤ side m = pow-le-pow_right (let p : 0 < 2 = omega arith in p) le in
    let l = h.low in
    let x = h.in_x in
    let y = h.in_y in
    record { level = h.level; low = omega arith; size = h.size; on_x = h.on_x; on_y = h.on_y; in_x = omega arith; in_y = omega arith }
