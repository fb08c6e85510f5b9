-- Blocks that hold one point at most, and the block around a pixel.
use Rattle.std.proofs.Common.{◌≡◌, ℕ, ◌+◌, ◌<◌, ◌≤◌, Bool, true, List, [], ◌∷◌, length, Option, Some, None, sym, ◌∙◌, ap, subst, ⊎_elim, arith, Contains, filter, leb-true}
use Rattle.std.proofs.Common.{zero, suc, get_or, nat_lt, ltb-true, ◌&&◌, Result, Ok, Err, IfOk, ◌⊎◌, inl, inr}
use Rattle.std.specs.Prelude.{IfSome, All}
use Rattle.std.specs.FinMap as finmap
use Rattle.std.specs.List.{last_or}
use Rattle.std.specs.Option.{option_to_list}
use Rattle.std.proofs.lemmas.Bool.{and_parts}
use Rattle.std.proofs.lemmas.List.Sums.{length-filter}
use Rattle.std.proofs.lemmas.Option.{none-some, same_Some}
use Rattle.quilt_types.specs.declared.plane.Pixel.{Pixel}
use Rattle.quilt_types.specs.declared.plane.Block.{Block}
use Rattle.quilt_types.specs.declared.plane.Point.{Point}
use Rattle.quilt_types.specs.declared.plane.Window.{Window}
use Rattle.quilt_types.specs.declared.stop.Stop.{Stop}
use Rattle.quilt_types.specs.Plane.{side, is_pixel, in_block, IsBlock}
use Rattle.quilt_types.specs.Layers.{PointMap}
use Rattle.quilt_types.specs.Facts.{HoldsPoint, HoldsNoPoint}
use Rattle.quilt_types.specs.Quadtrees.{occupancy, holds_few, point_blocks}
use Rattle.quilt_loc.proofs.Blocks.{Holds-from}
use Rattle.quilt_loc.proofs.Members.{Contains-nil, Contains-here, Contains-there, Contains-cons_cases, Contains-filter, Contains-filter_from}
use Rattle.quilt_loc.proofs.Quartered.{Within-whole}
use Rattle.quilt_record.specs.declared.key.Key.{Key}
use Rattle.quilt_record.specs.declared.record.Record.{Record}
use Rattle.quilt_btree.specs.declared.tree.Tree.{Tree}
use Rattle.quilt_btree.specs.Lists.{is_at_most, floor_of}
use Rattle.quilt_btree.specs.Trees.{IsTree}
use Rattle.quilt_point_laws.specs.Laws.{AreIn}
use Rattle.quilt_point_laws.proofs.Counts.{few_down}
use Rattle.quilt_point_laws.proofs.Narrowing.{one_maximal}
use Rattle.quilt_points.specs.Layers.{point_entries, point_pixel_key, HasPoints}
use Rattle.quilt_btree.specs.Spots.{IsSpotIf}
use Rattle.quilt_btree.specs.declared.spot.Spot.{Spot}
use Rattle.quilt_points.specs.declared.search.Search.{Search}
use Rattle.quilt_points.specs.Reads.{IsHeld, IsBlockRead, IsBlockRow}
use Rattle.quilt_points.specs.Searches.{IsSeen, IsSearch}
use Rattle.quilt_points.specs.Windows.{meets_window}
use Rattle.quilt_points.proofs.Finds.{one_of, if_some_at}
use Rattle.quilt_points.proofs.Shapes.{block_is, block_fact_from}

-- ---- a block of one point at most
module _ (n : ℕ) (points : PointMap) (b : Block) where
  abbrev here : Pixel × ℕ → Bool
  here e = in_block b e.0

  one_are : (held : Option Point) → IsBlockRead n 1 points b held → AreIn points b (point_entries (option_to_list held))
  one_are None r =
      let w = block_fact_from n 1 points (HoldsNoPoint b) r.fact in
      let same = (w.on).0 in
      record {
        once = tt;
        members = λ e. (
          λ c. absurd (Contains-nil e c),
          λ c.
              let k = Contains-filter_from here (finmap.entries points) e c in
              absurd ((w.on).1 e.0 e.1 k.0 (ap (λ (z : Block). in_block z e.0) (sym same) ∙ k.1)),
        );
      }
  one_are (Some p) r =
      let w = block_fact_from n 1 points (HoldsPoint b p.at p.label) r.fact in
      let es = finmap.entries points in
      let entry : Pixel × ℕ = (p.at, p.label) in
      let few = leb-true (occupancy points b) 1 (block_is n 1 points b r.block).passes in
      let many = length-filter here es in
      let same = (w.on).0 in
      let there : Contains (filter here es) entry = Contains-filter here es entry (w.on).1 (ap (λ (z : Block). in_block z p.at) same ∙ (w.on).2) in
      record {
        once = (λ c. Contains-nil entry c, tt);
        members = λ e. (
          λ c.
              let is : entry ≡ e = ⊎_elim (λ z. z) (λ no. absurd (Contains-nil e no)) (Contains-cons_cases entry [] e c) in
              subst (Contains (filter here es)) is there,
          λ c.
              let is : entry ≡ e = one_of (filter here es) entry e (omega arith) there c in
              subst (Contains (entry ∷ [])) is (Contains-here entry []),
        );
      }

  -- the points of a block that was read, where a block holds one at most
  pub one_held : (capacity : ℕ) (held : Option Point) → capacity ≡ 1 → IsBlockRead n capacity points b held
      → AreIn points b (point_entries (option_to_list held))
  one_held capacity held e r = one_are held (subst (λ (z : ℕ). IsBlockRead n z points b held) e r)

-- ---- two blocks around a pixel
-- where the layer's block around a pixel is another, the block is none of the layer's
pub none_around : (n capacity : ℕ) (points : PointMap) (b c : Block) (p : Pixel) (held : Option Point) → IsBlockRead n capacity points c held
    → in_block c p ≡ true → in_block b p ≡ true → (c ≡ b → ⊥) → Contains (point_blocks n capacity points) b → ⊥
none_around n capacity points b c p held r there here other mb =
    other (one_maximal n (holds_few capacity points) (few_down n capacity points) c b p (block_is n capacity points c r.block)
    (block_is n capacity points b mb) (Holds-from c p there) (Holds-from b p here))

-- ---- the first pixel of a block and a window
-- where a block and a window meet
pub record DoMeet (w : Window) (b : Block) : Type 0 where
  pub right : w.x < b.x + b.side
  pub bottom : w.y < b.y + b.side

pub do_meet : (w : Window) (b : Block) → meets_window w b ≡ true → DoMeet w b
do_meet w b m =
    let both = and_parts (nat_lt w.x (b.x + b.side) && nat_lt b.x (w.x + w.w)) (nat_lt w.y (b.y + b.side) && nat_lt b.y (w.y + w.h)) m in
    let x = and_parts (nat_lt w.x (b.x + b.side)) (nat_lt b.x (w.x + w.w)) both.0 in
    let y = and_parts (nat_lt w.y (b.y + b.side)) (nat_lt b.y (w.y + w.h)) both.1 in
    record { right = ltb-true w.x (b.x + b.side) x.0; bottom = ltb-true w.y (b.y + b.side) y.0 }

-- where a block ends
pub record DoesFit (n : ℕ) (b : Block) : Type 0 where
  pub right : b.x + b.side ≤ side n
  pub bottom : b.y + b.side ≤ side n

pub block_fits : (n : ℕ) (b : Block) → IsBlock n b → DoesFit n b
block_fits n b h =
    let v = Within-whole n b h in
    let r : b.x + b.side ≤ 0 + side n = v.right in
    let d : b.y + b.side ≤ 0 + side n = v.bottom in
    record { right = omega arith; bottom = omega arith }

-- ---- what a search has seen
last_member : (o : Option Record) (xs : List Record) (r : Record) → last_or o xs ≡ Some r → (o ≡ Some r) ⊎ Contains xs r
last_member o [] r e = inl e
last_member o (x ∷ xs) r e =
    ⊎_elim (λ is. inr (subst (Contains (x ∷ xs)) (same_Some x r is) (Contains-here x xs))) (λ c. inr (Contains-there x xs r c))
    (last_member (Some x) xs r e)

-- a floor is one of the records
floor_there : (k : Key) (rs : List Record) (r : Record) → floor_of k rs ≡ Some r → Contains rs r
unfolding floor_of
floor_there k rs r e =
    ⊎_elim (λ none. absurd (none-some r none)) (λ c. (Contains-filter_from (is_at_most k) rs r c).0) (last_member None (filter (is_at_most k) rs) r e)

-- a block whose last record is the floor of a pixel's key
pub seen_at : (result : Result (Block × Option Point) Stop) (told : Option (List (List ℕ))) (t : Tree) (n capacity number : ℕ) (at : Pixel) (found : Option Record)
    → ((rs : List Record) → IsTree told t rs → found ≡ floor_of (point_pixel_key number at) rs)
    → IfOk result (λ v. IsBlock n v.0)
    → IfOk result (λ v. (rs : List Record) → found ≡ floor_of (point_pixel_key number at) rs → IsBlockRow n capacity number rs at v.0 v.1)
    → IfOk result (λ v. (told : Option (List (List ℕ))) (t : Tree) (points : PointMap)
    → ((rs : List Record) → IsTree told t rs → found ≡ floor_of (point_pixel_key number at) rs) → HasPoints told t number n capacity points
    → IsBlockRead n capacity points v.0 v.1)
    → IfOk result (λ v. IsSeen told t n capacity number v.0 v.1)
seen_at (Err e) told t n capacity number at found is block row read = tt
seen_at (Ok v) told t n capacity number at found is block row read = record {
  block = block;
  row = λ rs tree.
      let r = row rs (is rs tree) in
      record { held = v.1; row = r.row; there = floor_there (point_pixel_key number at) rs r.row r.is_floor; is_row = r.is_row };
  read = λ points h. read told t points is h;
}

-- ---- a block that is looked at
-- what it holds, by its record
pub single_held : (n capacity : ℕ) (points : PointMap) (b c : Block) (held : Option Point) → capacity ≡ 1 → c ≡ b → IsBlockRead n capacity points c held
    → IsHeld n capacity points b (option_to_list held)
single_held n capacity points b c held one same r =
    let read = subst (λ (z : Block). IsBlockRead n capacity points z held) same r in
    record { block = read.block; are = one_held n points b capacity held one read }

pub search_along : (old new : Option (List (List ℕ))) (t : Tree) (n capacity number : ℕ) (s : Search) → new ≡ old
    → IsSearch old t n capacity number s → IsSearch new t n capacity number s
search_along old new t n capacity number s e h = subst (λ (o : Option (List (List ℕ))). IsSearch o t n capacity number s) (sym e) h

-- the block that was found last
pub last_block : (told : Option (List (List ℕ))) (t : Tree) (n capacity number : ℕ) (last : Option (Block × Option Point)) (b : Block) (held : Option Point)
    → last ≡ Some (b, held) → IfSome last (λ v. IsSeen told t n capacity number v.0 v.1) → IsBlock n b
last_block told t n capacity number last b held e h =
    let s : IsSeen told t n capacity number b held = if_some_at last (λ (v : Block × Option Point). IsSeen told t n capacity number v.0 v.1) (b, held) e h in
    s.block

-- the point that a record says is a pixel of the square
pub all_held : (n : ℕ) (held : Option Point) → IfSome held (λ p. is_pixel n p.at ≡ true) → All (λ p. is_pixel n p.at ≡ true) (option_to_list held)
all_held n None h = λ k d lt. absurd (omega arith)
all_held n (Some p) h = one_pixel p h
  where
    one_pixel : (p : Point) → is_pixel n p.at ≡ true → (k : ℕ) (d : Point) → k < length (p ∷ []) → is_pixel n (get_or (p ∷ []) k d).at ≡ true
    one_pixel p h zero d lt = h
    one_pixel p h (suc k) d lt = absurd (omega arith)

pub spot_along : (old new : Option (List (List ℕ))) (t : Tree) (o : Option Spot) → new ≡ old → IsSpotIf old t o → IsSpotIf new t o
spot_along old new t o e h = subst (λ (told : Option (List (List ℕ))). IsSpotIf told t o) (sym e) h
