-- The last record at or before the key of a pixel is one of the block that holds the pixel.
use Rattle.std.proofs.Common.{◌≡◌, ℕ, ◌<◌, ◌≤◌, true, List, Option, Some, sym, ◌∙◌, ap, subst, ⊎_elim, arith, Contains, filter}
use Rattle.std.specs.Ordering.{is_le}
use Rattle.std.proofs.lemmas.Bool.{cases_lt}
use Rattle.quilt_types.specs.declared.plane.Pixel.{Pixel}
use Rattle.quilt_types.specs.declared.plane.Block.{Block}
use Rattle.quilt_types.specs.Plane.{side, corner, Holds}
use Rattle.quilt_types.specs.Layers.{PointMap}
use Rattle.quilt_types.specs.Facts.{Fact}
use Rattle.quilt_types.specs.Quadtrees.{holds_few}
use Rattle.quilt_loc.specs.Codes.{code_at, code_from, Rises}
use Rattle.quilt_loc.proofs.Members.{Contains-filter, Contains-filter_from}
use Rattle.quilt_loc.proofs.Blocks.{side_most}
use Rattle.quilt_loc.proofs.Rising.{Rises-filter}
use Rattle.quilt_loc.proofs.CodeLaws.{depth_is}
use Rattle.quilt_loc.proofs.Intervals.{code_held, held_code}
use Rattle.quilt_loc.proofs.Nesting.{Holds-corner}
use Rattle.quilt_record.specs.declared.key.Key.{Key}
use Rattle.quilt_record.specs.declared.record.Record.{Record}
use Rattle.quilt_record.specs.Records.{key_cmp}
use Rattle.quilt_blocks.proofs.Maximal.{IsMaximal, IsMaximal-from}
use Rattle.quilt_btree.specs.Lists.{is_at_most, floor_of}
use Rattle.quilt_spell.specs.Written.{by_key}
use Rattle.quilt_edits.proofs.Lasts.{last_is}
use Rattle.quilt_edits.proofs.Keys.{le_layer, le_code, less_code, less_depth}
use Rattle.quilt_spell.proofs.Holding.{HeldBy}
use Rattle.quilt_point_laws.proofs.Narrowing.{one_maximal}
use Rattle.quilt_point_laws.proofs.Counts.{few_down}
use Rattle.quilt_point_laws.proofs.OnBlocks.{OfBlock}
use Rattle.quilt_point_laws.proofs.Plans.{block_around}
use Rattle.quilt_points.specs.Layers.{point_pixel_key, block_record, SpellsPoints}
use Rattle.quilt_points.proofs.Shapes.{key_is}
use Rattle.quilt_points.proofs.Records.{fact_there, fact_at, some_on}

-- the greatest key at or before one
record IsGreatest (rs : List Record) (k : Key) (r : Record) : Type 0 where
  there : Contains rs r
  under : is_le (key_cmp r.key k) ≡ true
  above : (s : Record) → Contains rs s → is_le (key_cmp s.key k) ≡ true → is_le (by_key s r) ≡ true

floor_greatest : (rs : List Record) (k : Key) (s : Record) → Rises by_key rs → Contains rs s → is_le (key_cmp s.key k) ≡ true
    → (r : Record) × (floor_of k rs ≡ Some r) × IsGreatest rs k r
unfolding floor_of
floor_greatest rs k s up c le =
    let l = last_is (filter (is_at_most k) rs) s (Rises-filter by_key (is_at_most k) rs up) (Contains-filter (is_at_most k) rs s c le) in
    let w = Contains-filter_from (is_at_most k) rs l.0 (l.2).there in
    (l.0, l.1, record { there = w.0; under = w.1; above = λ t m u. (l.2).above t (Contains-filter (is_at_most k) rs t m u) })

-- the record of a fact on the block that holds the pixel
pub record IsAround (n capacity layer : ℕ) (points : PointMap) (p : Pixel) (found : Option Record) : Type 0 where
  pub fact : Fact
  pub of : OfBlock n capacity points fact
  pub holds : Holds (of.block) p
  pub is : found ≡ Some (block_record n capacity layer fact)

module _ (rs : List Record) (layer n capacity : ℕ) (points : PointMap) (le : n ≤ 12) (up : Rises by_key rs)
    (spells : SpellsPoints rs layer n capacity points) where
  module _ (p : Pixel) (hx : p.x < side n) (hy : p.y < side n) (k : Key) (key : k ≡ point_pixel_key layer p) where
    at_most : (f : Fact) → (w : OfBlock n capacity points f) → code_from (w.block) ≤ code_at p → is_le (key_cmp (block_record n capacity layer f).key k) ≡ true
    at_most f w from =
        let r = (block_record n capacity layer f).key in
        let is = key_is n capacity layer points w.block f w.on in
        let d = depth_is n w.block (w.maximal).block in
        let kl = ap (λ (z : Key). z.layer) key in
        let kp = ap (λ (z : Key). z.part) key in
        let kc = ap (λ (z : Key). z.code) key in
        let kd = ap (λ (z : Key). z.depth) key in
        let rl = is.layer in
        let rp = is.part in
        let rc = is.code in
        let rd = is.depth in
        ap is_le (⊎_elim (λ lt. less_code r k (omega arith) (omega arith) (omega arith))
        (λ ge. less_depth r k (omega arith) (omega arith) (omega arith) (omega arith)) (cases_lt (code_from (w.block)) (code_at p)))

    pub floor_around : IsAround n capacity layer points p (floor_of k rs)
    floor_around =
        let b = block_around n capacity points p spells.valid.least hx hy in
        let gb = block_at b in
        let s = some_on n capacity points b.block gb in
        let ws = s.1 in
        let same = s.2 in
        let r = block_record n capacity layer s.0 in
        let there = fact_there rs layer n capacity points spells s.0 ws in
        let m = side_most n le in
        let held = code_held n b.block p gb.block le b.holds in
        let low : code_from (ws.block) ≤ code_at p = subst (λ (z : Block). code_from z ≤ code_at p) (sym same) held.0 in
        let g = floor_greatest rs k r up there (at_most s.0 ws low) in
        let top = g.2 in
        let kl = ap (λ (z : Key). z.layer) key in
        let kp = ap (λ (z : Key). z.part) key in
        let kc = ap (λ (z : Key). z.code) key in
        let is = key_is n capacity layer points ws.block s.0 ws.on in
        let over = top.above r there (at_most s.0 ws low) in
        let rl = is.layer in
        let rp = is.part in
        let rc = is.code in
        let a = le_layer r.key (g.0).key over in
        let c = le_layer (g.0).key k top.under in
        let f = fact_at rs layer n capacity points spells g.0 top.there (omega arith) in
        let wf = f.1 in
        let fkey = key_is n capacity layer points wf.block f.0 wf.on in
        let back : (block_record n capacity layer f.0).key ≡ (g.0).key = ap (λ (z : Record). z.key) f.2 in
        let gl = ap (λ (z : Key). z.layer) back in
        let gp = ap (λ (z : Key). z.part) back in
        let gc = ap (λ (z : Key). z.code) back in
        let fl = fkey.layer in
        let fp = fkey.part in
        let fc = fkey.code in
        let lower = le_code r.key (g.0).key (omega arith) (omega arith) over in
        let upper = le_code (g.0).key k (omega arith) (omega arith) top.under in
        let sc = ap code_from same in
        let hw = (wf.maximal).block in
        let wx = hw.in_x in
        let wy = hw.in_y in
        let bx = gb.block.in_x in
        let by = gb.block.in_y in
        let inside = held_code n b.block (corner (wf.block)) gb.block le (omega arith) (omega arith) (omega arith) (omega arith) (omega arith) (omega arith) in
        let one : b.block ≡ wf.block = one_maximal n (holds_few capacity points) (few_down n capacity points) b.block wf.block
        (corner (wf.block)) gb wf.maximal inside (Holds-corner n wf.block hw) in
        record { fact = f.0; of = wf; holds = subst (λ (z : Block). Holds z p) one b.holds; is = g.1 ∙ ap Some (sym f.2) }
      where
        block_at : (b : HeldBy n (holds_few capacity points) p) → IsMaximal n (holds_few capacity points) b.block
        block_at b = IsMaximal-from n (holds_few capacity points) b.block b.maximal
