-- What a del has to read on its way up, and what it takes out: whole blocks beside the path, and their points together.
use Rattle.std.proofs.Common.{◌≡◌, ℕ, ◌^◌, ◌<◌, Bool, true, List, inl, sym, ◌∙◌, ap, arith, ⊎_elim, Contains, flat_map, pow_pos, pow-suc}
use Rattle.std.specs.FinMap as finmap
use Rattle.quilt_types.specs.declared.plane.Block.{Block}
use Rattle.quilt_types.specs.declared.plane.Pixel.{Pixel}
use Rattle.quilt_types.specs.Plane.{in_block, parent_of, quarters_of, whole, IsBlock, Holds, Within}
use Rattle.quilt_types.specs.Layers.{PointMap}
use Rattle.quilt_types.specs.Quadtrees.{holds_few}
use Rattle.quilt_loc.proofs.Members.{Contains-filter, Contains-filter_from, Contains-flat_map, Contains-flat_map_from}
use Rattle.quilt_loc.proofs.Blocks.{Holds-from, in_block-true}
use Rattle.quilt_loc.proofs.Nesting.{around, Within-holds, nested, same_block_from, side_pos, parent_within, IsBlock-parent_of, Within-parent_of}
use Rattle.quilt_loc.proofs.Around.{IsBlock-around, Holds-around}
use Rattle.quilt_spell.proofs.Lists.{Apart-flat_map}
use Rattle.quilt_loc.proofs.Quartered.{quarters_are, side_le, Within-whole, halved}
use Rattle.quilt_blocks.proofs.Maximal.{IsMaximal, GoesDown, quarter_with}
use Rattle.quilt_point_laws.proofs.Narrowing.{Narrows}
use Rattle.quilt_point_laws.proofs.Counts.{Comes, few_narrows}
use Rattle.quilt_point_laws.proofs.Cuts.{quarters_apart}
use Rattle.quilt_point_laws.specs.Laws.{AreIn}

-- b: the block around the pixel, x: one on the way up. Where the parent of x passes, its other quarters are maximal blocks of before
pub siblings : (n : ℕ) (wide thin : Block → Bool) (p : Pixel) → GoesDown n wide → GoesDown n thin → Narrows wide thin p
    → (b : Block) → IsMaximal n thin b → Holds b p → (x : Block) → IsBlock n x → Within b x → x.side < 2 ^ n → wide (parent_of x) ≡ true
    → (r : Block) → Contains (quarters_of (parent_of x)) r → (Holds r p → ⊥) → IsMaximal n thin r
siblings n wide thin p dw dt nar b gb hb x hx w lt u r mr out =
    let q = parent_of x in
    let hq = IsBlock-parent_of n x hx lt in
    let pos = side_pos n x hx in
    let wl = w.left in
    let wr = w.right in
    let qr = quarters_are n q r hq (omega arith) mr in
    let on : Holds q p = Within-holds x q p (within_up hq) (Within-holds b x p w hb) in
    let top = side_le n q hq in
    record {
      block = qr.block;
      passes = nar.same r out (dw.down r q qr.block hq qr.within u);
      last = λ _ t.
          let v = parent_within n b q p gb.block hq (omega arith) top hb on in
          let small : b.side < 2 ^ n = omega arith in
          gb.last small (dt.down (parent_of b) q (IsBlock-parent_of n b gb.block small) hq v (ap thin (sym qr.parent) ∙ t));
    }
  where
    within_up : IsBlock n (parent_of x) → Within x (parent_of x)
    within_up hq =
        let c = Within-parent_of n x hx lt in c

-- the points of four quarters are those of the block
pub AreIn-quarters : (n : ℕ) (points : PointMap) (b : Block) → IsBlock n b → 1 < b.side → (hs : Block → List (Pixel × ℕ))
    → ((r : Block) → Contains (quarters_of b) r → AreIn points r (hs r)) → AreIn points b (flat_map hs (quarters_of b))
AreIn-quarters n points b hb wide hs are =
    let es = finmap.entries points in
    let v = halved n b hb wide in
    let p2 = pow-suc 2 v.0 in
    let pos = pow_pos v.0 in
    let half = v.3 in
    let size = v.2 in
    record {
      once = Apart-flat_map hs (quarters_of b) (quarters_apart b wide (omega arith)) (λ r c. (are r c).once)
          (λ r u e c d x y.
          let q = quarters_are n b r hb wide c in
          let w = quarters_are n b u hb wide d in
          let hq = q.half in
          let hw = w.half in
          let ir = Contains-filter_from (λ (e : Pixel × ℕ). in_block r e.0) es e (((are r c).members e).0 x) in
          let iu = Contains-filter_from (λ (e : Pixel × ℕ). in_block u e.0) es e (((are u d).members e).0 y) in
          same_block_from n r u e.0 q.block w.block (omega arith) (Holds-from r e.0 ir.1) (Holds-from u e.0 iu.1));
      members = λ e. (
        λ m.
            let r = Contains-flat_map_from hs (quarters_of b) e m in
            let q = quarters_are n b r.0 hb wide r.1 in
            let i = Contains-filter_from (λ (e : Pixel × ℕ). in_block (r.0) e.0) es e (((are r.0 r.1).members e).0 r.2) in
            Contains-filter (λ (e : Pixel × ℕ). in_block b e.0) es e i.0 (in_block-true b e.0 (Within-holds r.0 b e.0 q.within (Holds-from r.0 e.0 i.1))),
        λ m.
            let i = Contains-filter_from (λ (e : Pixel × ℕ). in_block b e.0) es e m in
            let on = Holds-from b e.0 i.1 in
            let sq = Within-holds b (whole n) e.0 (Within-whole n b hb) on in
            let sr = sq.right in
            let sb = sq.bottom in
            let a = around (2 ^ 0) e.0 in
            let ha = IsBlock-around n 0 e.0 (omega arith) (omega arith) (omega arith) in
            let one = Holds-around 0 e.0 in
            let r = quarter_with n v.0 a b ha hb size (omega arith) (nested n a b e.0 ha hb (omega arith) one on) in
            Contains-flat_map hs (quarters_of b) r.0 e r.1
            (((are r.0 r.1).members e).1
            (Contains-filter (λ (e : Pixel × ℕ). in_block (r.0) e.0) es e i.0 (in_block-true r.0 e.0 (Within-holds a r.0 e.0 r.2 one)))),
      );
    }

-- a list of the points of a block that does not hold the pixel is one of either map
pub AreIn-same : (small big : PointMap) (p : Pixel) (label : ℕ) → Comes small big p label → (r : Block) → (Holds r p → ⊥) → (held : List (Pixel × ℕ))
    → AreIn big r held → AreIn small r held
AreIn-same small big p label h r out held are =
    let test : Pixel × ℕ → Bool = λ e. in_block r e.0 in
    let es = finmap.entries small in
    let gs = finmap.entries big in record {
      once = are.once;
      members = λ e. (
        λ m.
            let w = Contains-filter_from test gs e ((are.members e).0 m) in
            ⊎_elim (λ o. Contains-filter test es e o w.1)
            (λ is. absurd (out (Holds-from r p (ap (λ (z : Pixel × ℕ). in_block r z.0) (sym is) ∙ w.1)))) ((h.members e).0 w.0),
        λ m. let w = Contains-filter_from test es e m in (are.members e).1 (Contains-filter test gs e ((h.members e).1 (inl w.0)) w.1),
      );
    }

module _ (small big : PointMap) (p : Pixel) (label : ℕ) (h : Comes small big p label) (n capacity : ℕ) (c : Block)
    (gc : IsMaximal n (holds_few capacity small) c) (hc : Holds c p) where
  abbrev nar : Narrows (holds_few capacity small) (holds_few capacity big) p
  nar = few_narrows small big p label h capacity
