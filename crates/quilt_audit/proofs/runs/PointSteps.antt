-- The records of a point layer with one more.
use Rattle.std.proofs.Common.{◌≡◌, ℕ, suc, ◌+◌, ◌/◌, ◌^◌, ◌<◌, ◌≤◌, ◌⊎◌, true, List, [], ◌∷◌, ◌++◌, map, length, Option, Some, None, refl, sym, ◌∙◌, ap, subst}
use Rattle.std.proofs.Common.{inl, inr, ⊎_elim, arith, Contains, append_assoc, length-append, flat_map, filter, Less}
use Rattle.std.specs.FinMap as finmap
use Rattle.std.proofs.lemmas.Bool.{cases_Bool, both_ways}
use Rattle.std.proofs.lemmas.List.{map-append}
use Rattle.std.proofs.lemmas.List.Elements.{All-contains_itself, All-weaker, Contains-append_right, Contains-append_cases}
use Rattle.quilt_types.specs.declared.plane.Block.{Block}
use Rattle.quilt_types.specs.declared.plane.Pixel.{Pixel}
use Rattle.quilt_types.specs.declared.plane.Point.{Point}
use Rattle.quilt_types.specs.Plane.{in_block, is_pixel, pixel_cmp, quarters_of, Holds, IsBlock}
use Rattle.quilt_types.specs.Layers.{PointMap}
use Rattle.quilt_types.specs.Facts.{Fact, HoldsPoint, HoldsNoPoint}
use Rattle.quilt_types.specs.Quadtrees.{occupancy}
use Rattle.quilt_loc.specs.Codes.{Rises, code_from, code_to}
use Rattle.quilt_loc.proofs.Members.{Contains-nil, Contains-here, Contains-there, Contains-cons_cases, Contains-map}
use Rattle.quilt_loc.proofs.Blocks.{Holds-from, in_block-true}
use Rattle.quilt_loc.proofs.Nesting.{Within-holds}
use Rattle.quilt_loc.proofs.PlaneOrders.{pixel_total}
use Rattle.quilt_loc.proofs.Quartered.{quarters_are}
use Rattle.quilt_record.specs.declared.record.Record.{Record}
use Rattle.quilt_record.specs.Records.{record_of}
use Rattle.quilt_record.specs.Canonical.{FactFits, point_fact}
use Rattle.quilt_blocks.specs.Listing.{Follows}
use Rattle.quilt_blocks.specs.Walk.{pixel_count}
use Rattle.quilt_blocks.proofs.Chains.{size_of-nil}
use Rattle.quilt_spell.specs.Written.{by_key}
use Rattle.quilt_spell.proofs.facts.FactKeys.{pixel_same}
use Rattle.quilt_spell.proofs.Lists.{Apart-filter}
use Rattle.quilt_spell.proofs.Maps.{entry_from_get, get_from_entry}
use Rattle.quilt_spell.proofs.Written.{by_key_total}
use Rattle.quilt_point_laws.specs.Laws.{AreIn}
use Rattle.quilt_point_laws.proofs.Counts.{Comes, put_comes, entries_apart, occupancy-more, occupancy-same}
use Rattle.quilt_point_laws.proofs.LocalFacts.{bare_is, on_grows, on_shrinks}
use Rattle.quilt_point_laws.proofs.Merging.{AreIn-quarters}
use Rattle.quilt_point_laws.proofs.OnBlocks.{IsBare, IsOn, on_from, on_is}
use Rattle.quilt_point_laws.proofs.Plans.{AreIn-length, put_valid}
use Rattle.quilt_audit.specs.declared.tally.Tally.{Tally}
use Rattle.quilt_audit.specs.declared.points.PointRun.{PointRun}
use Rattle.quilt_audit.specs.Covers.{AreFour, no_block, no_blocks}
use Rattle.quilt_audit.specs.Points.{plain, HasFacts, ArePlaced, EndIn, AreClosed, total, blocks_behind, IsTallied, IsPointStart, IsBefore, IsLeast, recent_after, IsHeldIn}
use Rattle.quilt_audit.specs.Points.{count_of, no_tally}
use Rattle.quilt_audit.proofs.Lists.{last_cases, in_front, at_last, below_itself, rises_before}
use Rattle.quilt_audit.proofs.Covering.{covers_more, covered_more, last_apart, last_four}

-- ---- how many points
pub points_of : PointMap → List Block → ℕ
points_of points [] = 0
points_of points (b ∷ bs) = occupancy points b + points_of points bs

points_of-append : (points : PointMap) (xs ys : List Block) → points_of points (xs ++ ys) ≡ points_of points xs + points_of points ys
unfolding points_of
points_of-append points [] ys = let z : points_of points [] ≡ 0 = refl in omega arith
points_of-append points (x ∷ xs) ys = let r = points_of-append points xs ys in omega arith

-- a block has as many points as its quarters
pub four_counts : (n : ℕ) (points : PointMap) (w : Block) → IsBlock n w → 1 < w.side → occupancy points w ≡ points_of points (quarters_of w)
unfolding points_of
four_counts n points w hw wide =
    let hs : Block → List (Pixel × ℕ) = λ r. filter (λ e. in_block r e.0) (finmap.entries points) in
    let are : (r : Block) → AreIn points r (hs r) = λ r.
    record { once = Apart-filter (λ (e : Pixel × ℕ). in_block r e.0) (finmap.entries points) (entries_apart points); members = λ e. (λ c. c, λ c. c) } in
    let h = w.side / 2 in
    let at : ℕ → ℕ → Block = λ x y. record { x = x; y = y; side = h } in
    let a = at w.x w.y in
    let b = at (w.x + h) w.y in
    let c = at w.x (w.y + h) in
    let d = at (w.x + h) (w.y + h) in
    let all = AreIn-length points w (flat_map hs (quarters_of w)) (AreIn-quarters n points w hw wide hs (λ r c. are r)) in
    let la = AreIn-length points a (hs a) (are a) in
    let lb = AreIn-length points b (hs b) (are b) in
    let lc = AreIn-length points c (hs c) (are c) in
    let ld = AreIn-length points d (hs d) (are d) in
    let n0 : length (hs a ++ (hs b ++ (hs c ++ (hs d ++ [])))) ≡ length (hs a) + length (hs b ++ (hs c ++ (hs d ++ []))) =
    length-append (hs a) (hs b ++ (hs c ++ (hs d ++ []))) in
    let n1 = length-append (hs b) (hs c ++ (hs d ++ [])) in
    let n2 = length-append (hs c) (hs d ++ []) in
    let n3 = length-append (hs d) [] in
    omega arith

pub grows : (small big : PointMap) (p : Pixel) (label : ℕ) → Comes small big p label → (w : Block) → occupancy small w ≤ occupancy big w
grows small big p label h w =
    ⊎_elim (λ t. let m = occupancy-more small big p label h w t in omega arith)
    (λ f. let m = occupancy-same small big p label h w (λ on. both_ways (in_block w p) f (in_block-true w p on)) in omega arith) (cases_Bool (in_block w p))

pub none_held : (p : Pixel) → Holds no_block p → ⊥
none_held p h = let l = h.left in let r = h.right in omega arith

pub is_none : (b : Block) → Contains no_blocks b → b ≡ no_block
is_none b c =
    ⊎_elim (λ e. sym e) (λ d. ⊎_elim (λ e. sym e) (λ f. ⊎_elim (λ e. sym e) (λ g. absurd (Contains-nil b g)) (Contains-cons_cases no_block [] b f))
    (Contains-cons_cases no_block (no_block ∷ []) b d))
    (Contains-cons_cases no_block (no_block ∷ no_block ∷ []) b c)

-- ---- one point more
module _ (small big : PointMap) (p : Pixel) (label : ℕ) (h : Comes small big p label) (n capacity layer : ℕ) (rs : List Record) (bs cs : List Block)
    (b : Block) (on : in_block b p ≡ true)
    (has : HasFacts rs layer n capacity bs small) (here : Contains cs b) (kept : (d : Block) → Contains bs d → Contains cs d) (alone : (d : Block)
    → Contains cs d → Holds d p → d ≡ b)
    (was : (d : Block) → Contains cs d → Contains bs d ⊎ (b ≡ d)) (some : (d : Block) → Contains bs d → Holds d p → IsBare small d → ⊥)
    (fresh : (f : Fact) → IsOn small b f → IsOn big b f → Contains bs b) where
  abbrev new : Record
  new = record_of n capacity [] layer (HoldsPoint b p label)

  new_on : IsOn big b (HoldsPoint b p label)
  new_on = let e : Pixel × ℕ = (p, label) in (refl, (h.members e).1 (inr refl), on)

  pub put_facts : HasFacts (rs ++ record_of n capacity [] layer (HoldsPoint b p label) ∷ []) layer n capacity cs big
  put_facts = record {
    each = λ d f c m.
        let o = on_from big d f m in
        ⊎_elim
        (λ old.
        let there : Contains bs d =
        ⊎_elim (λ k. k) (λ is. subst (Contains bs) is
        (fresh f (subst (λ (z : Block). IsOn small z f) (sym is) old) (subst (λ (z : Block). IsOn big z f) (sym is) o))) (was d c) in
        in_front rs new (record_of n capacity [] layer f) (has.each d f there (on_is small d f old)))
        (λ k.
        let e : d ≡ b = alone d c k.0 in
        let g : f ≡ HoldsPoint b p label = k.1 ∙ ap (λ (z : Block). HoldsPoint z p label) e in
        subst (λ (z : Fact). Contains (rs ++ new ∷ []) (record_of n capacity [] layer z)) (sym g) (at_last rs new))
        (on_shrinks small big p label h d f o);
    only = λ r c is.
        ⊎_elim
        (λ old.
        let w = has.only r old is in
        ⊎_elim
        (λ o. (w.0, w.1, kept w.0 w.2, on_is big w.0 w.1 o, w.4))
        (λ k. absurd (some w.0 w.2 k.0 k.2))
        (on_grows small big p label h w.0 w.1 (on_from small w.0 w.1 w.3)))
        (λ same. (b, HoldsPoint b p label, here, on_is big b (HoldsPoint b p label) new_on, same))
        (last_cases rs new r c);
  }

-- ---- no point, or the first one, of the next block
some_none : (points : PointMap) (p : Pixel) → ((k : ℕ) → Contains (finmap.entries points) (p, k) → ⊥) → finmap.get points p ≡ None
some_none points p h = by_case (finmap.get points p) refl
  where
    by_case : (o : Option ℕ) → finmap.get points p ≡ o → finmap.get points p ≡ None
    by_case None e = e
    by_case (Some k) e = absurd (h k (entry_from_get pixel_cmp pixel_total pixel_same points p k e))

-- what a bare block says
bare_fact : (points : PointMap) (b : Block) (f : Fact) → IsBare points b → IsOn points b f → f ≡ HoldsNoPoint b
bare_fact points b (HoldsPoint d q k) bare o = absurd (bare q k o.1 o.2)
bare_fact points b (HoldsNoPoint d) bare o = ap HoldsNoPoint o.0
bare_fact points b f bare o = absurd o

module _ (form n : ℕ) (le : n ≤ 12) (rs : List Record) (layer capacity end : ℕ) (bs : List Block) (points : PointMap)
    (placed : ArePlaced form n rs layer capacity end bs points)
    (b : Block) (hb : IsBlock n b) (from : code_from b ≡ end) where
  follows : Follows n 0 (map plain (bs ++ b ∷ []))
  follows = let s = placed.size in covers_more n 0 bs b placed.follows hb (omega arith)

  size : pixel_count (map plain (bs ++ b ∷ [])) ≡ code_to b
  size = let s = placed.size in let m = covered_more n bs b in omega arith

  pub next_bare : IsBare points b
  next_bare q k c t =
      let w = placed.held (q, k) c in
      last_apart n bs b w.0 q le follows w.1 (Holds-from w.0 q w.2) (Holds-from b q t)

  pub placed_none : ArePlaced form n (rs ++ record_of n capacity [] layer (HoldsNoPoint b) ∷ []) layer capacity (code_to b) (bs ++ b ∷ []) points
  placed_none =
      let new = record_of n capacity [] layer (HoldsNoPoint b) in
      record {
        valid = placed.valid;
        has = record {
          each = λ d f c m.
              ⊎_elim (λ old. in_front rs new (record_of n capacity [] layer f) (placed.has.each d f old m))
              (λ is.
              let g = bare_fact points b f next_bare (subst (λ (z : Block). IsOn points z f) (sym is) (on_from points d f m)) in
              subst (λ (z : Fact). Contains (rs ++ new ∷ []) (record_of n capacity [] layer z)) (sym g) (at_last rs new))
              (last_cases bs b d c);
          only = λ r c is.
              ⊎_elim (λ old. let w = placed.has.only r old is in (w.0, w.1, in_front bs b w.0 w.2, w.3, w.4))
              (λ same. (b, HoldsNoPoint b, at_last bs b, on_is points b (HoldsNoPoint b) (refl, next_bare), same)) (last_cases rs new r c);
        };
        follows = follows;
        size = size;
        held = λ e c. let w = placed.held e c in (w.0, in_front bs b w.0 w.1, w.2);
        few = λ d c.
            ⊎_elim (λ old. placed.few d old)
            (λ is. subst (λ (z : Block). occupancy points z ≤ capacity) is (let z = bare_is points b next_bare in omega arith)) (last_cases bs b d c);
      }

  module _ (p : Pixel) (label : ℕ) (on : in_block b p ≡ true) (inside : is_pixel n p ≡ true) (small : label < 2 ^ 32) where
    pub next_comes : Comes points (finmap.insert points p label) p label
    next_comes = put_comes points p label (some_none points p (λ k c. next_bare p k c on))

    pub placed_point : ArePlaced form n (rs ++ record_of n capacity [] layer (HoldsPoint b p label) ∷ []) layer capacity (code_to b) (bs ++ b ∷ [])
        (finmap.insert points p label)
    placed_point =
        let big = finmap.insert points p label in
        let h = next_comes in
        let hold = Holds-from b p on in
        let apart = λ (d : Block) (c : Contains bs d) (k : Holds d p). last_apart n bs b d p le follows c k hold in
        record {
          valid = put_valid form n capacity points big p label h placed.valid inside small;
          has = put_facts points big p label h n capacity layer rs bs (bs ++ b ∷ []) b on placed.has (at_last bs b) (λ d c. in_front bs b d c)
              (λ d c k. ⊎_elim (λ old. absurd (apart d old k)) (λ is. sym is) (last_cases bs b d c)) (λ d c. last_cases bs b d c) (λ d c k bare. apart d c k)
              (λ f o g.
              let e = bare_fact points b f next_bare o in
              let says : IsOn big b (HoldsNoPoint b) = subst (IsOn big b) e g in
              let x : Pixel × ℕ = (p, label) in
              absurd (says.1 p label ((h.members x).1 (inr refl)) on));
          follows = follows;
          size = size;
          held = λ e c. ⊎_elim (λ old. let w = placed.held e old in (w.0, in_front bs b w.0 w.1, w.2))
              (λ is. (b, at_last bs b, ap (λ (z : Pixel × ℕ). in_block b z.0) is ∙ on)) ((h.members e).0 c);
          few = λ d c.
              ⊎_elim (λ old. let s = occupancy-same points big p label h d (apart d old) in let f = placed.few d old in omega arith)
              (λ is. subst (λ (z : Block). occupancy big z ≤ capacity) is
              (let m = occupancy-more points big p label h b on in let z = bare_is points b next_bare in let l = placed.valid.least in omega arith))
              (last_cases bs b d c);
        }

-- ---- the next block
counts_total : (points : PointMap) (ts : List Tally) → ((t : Tally) → Contains ts t → occupancy points t.block ≡ t.count)
    → points_of points (map (λ (t : Tally). t.block) ts) ≡ total ts
unfolding points_of
counts_total points [] h = refl
counts_total points (t ∷ ts) h = let a = h t (Contains-here t ts) in let r = counts_total points ts (λ u c. h u (Contains-there t ts u c)) in omega arith

module _ (n : ℕ) (points : PointMap) (three : List Tally) (b : Block) (count : ℕ) (counts : (t : Tally) → Contains three t
    → occupancy points t.block ≡ t.count) (is : occupancy points b ≡ count) where
  behind_counts : (w : Block) → AreFour n (blocks_behind three b) w → occupancy points w ≡ total three + count
  unfolding points_of
  behind_counts w f =
      let a = four_counts n points w f.block f.wide in
      let e = ap (points_of points) f.quarters in
      let s = points_of-append points (map (λ (t : Tally). t.block) three) (b ∷ []) in
      let t = counts_total points three counts in
      omega arith

  module _ (bucket least : ℕ) (h : IsLeast n bucket three b least) where
    enough_from : (w : Block) → AreFour n (blocks_behind three b) w → bucket + count < least + occupancy points w
    enough_from w f = let a = h.enough w f in let c = behind_counts w f in omega arith

    due_from : (least ≡ 0) ⊎ ((w : Block) × AreFour n (blocks_behind three b) w × (least + occupancy points w ≡ bucket + 1 + count))
    due_from = ⊎_elim (λ z. inl z) (λ d. inr (d.0, d.1, let c = behind_counts d.0 d.1 in let e = d.2 in omega arith)) h.due

-- where the counts of the last three are the same over other points
EndIn-same : (bs : List Block) (small big : PointMap) (recent : List Tally)
    → ((d : Block) → Contains bs d ⊎ (d ≡ no_block) → occupancy big d ≡ occupancy small d) → EndIn bs small recent → EndIn bs big recent
EndIn-same bs small big recent same e = record {
  three = e.three;
  front = e.front;
  split = e.split;
  counts = λ t c.
      let block : Tally → Block = λ t. t.block in
      let m = subst (λ (l : List Block). Contains l t.block) (sym e.split)
      (Contains-append_right e.front (map block recent) t.block (Contains-map block recent t c)) in
      same t.block (⊎_elim (λ k. inr (is_none t.block k)) (λ k. inl k) (Contains-append_cases no_blocks bs t.block m)) ∙ e.counts t c;
}

-- the record of what is said of a block
module _ (form n : ℕ) (le : n ≤ 12) (rs : List Record) (layer capacity end : ℕ) (recent : List Tally) (closed : AreClosed form n rs layer capacity end recent)
    (b : Block) (hb : IsBlock n b) (from : code_from b ≡ end) (next : PointRun) (ends : next.end ≡ code_to b) (three : next.recent ≡ recent) where
  module _ (big : PointMap) (h : (w : Block) → occupancy closed.points w ≤ occupancy big w) (same : (d : Block)
      → Contains closed.blocks d ⊎ (d ≡ no_block) → occupancy big d ≡ occupancy closed.points d)
      (r : Record) (count : ℕ) (opens : next.last ≡ record { block = b; count = count }) (is : occupancy big b ≡ count)
      (least : IsLeast n capacity next.recent b next.least)
      (placed : ArePlaced form n (rs ++ r ∷ []) layer capacity (code_to b) (closed.blocks ++ b ∷ []) big) where
    pub opened_with : IsTallied form n (rs ++ r ∷ []) layer capacity next
    opened_with =
        let block : next.last.block ≡ b = ap (λ (t : Tally). t.block) opens in
        let number : next.last.count ≡ count = ap (λ (t : Tally). t.count) opens in
        let end_in = EndIn-same closed.blocks closed.points big recent same closed.ends in
        let counts = λ (t : Tally) (c : Contains next.recent t). end_in.counts t (subst (λ (l : List Tally). Contains l t) three c) in
        record {
          closed = closed.blocks;
          points = big;
          placed = subst (λ (k : ℕ). ArePlaced form n (rs ++ r ∷ []) layer capacity k (closed.blocks ++ next.last.block ∷ []) big) (sym ends)
              (subst (λ (z : Block). ArePlaced form n (rs ++ r ∷ []) layer capacity (code_to b) (closed.blocks ++ z ∷ []) big) (sym block) placed);
          apart = λ w hw wide part. let a = closed.apart w hw wide part in let l = h w in omega arith;
          ends = subst (EndIn closed.blocks big) (sym three) end_in;
          count = ap (occupancy big) block ∙ is ∙ sym number;
          enough = λ w f.
              let g = subst (λ (z : Block). AreFour n (blocks_behind next.recent z) w) block f in
              let e = enough_from n big next.recent b count counts is capacity next.least least w g in
              omega arith;
          due = ⊎_elim (λ z. inl z)
              (λ d. inr (d.0, subst (λ (z : Block). AreFour n (blocks_behind next.recent z) d.0) (sym block) d.1, (let e = d.2 in omega arith)))
              (due_from n big next.recent b count counts is capacity next.least least);
        }

  pub opened : (held : Option Point) → next.last ≡ record { block = b; count = count_of held } → IsLeast n capacity next.recent b next.least
      → IsHeldIn b held → FactFits n (point_fact b held)
      → IsTallied form n (rs ++ record_of n capacity [] layer (point_fact b held) ∷ []) layer capacity next
  opened None opens least inside fits =
      let bs = closed.blocks in
      let small = closed.points in
      opened_with small (λ w. omega arith) (λ d c. refl) (record_of n capacity [] layer (HoldsNoPoint b)) 0 opens
      (bare_is small b (next_bare form n le rs layer capacity end bs small closed.placed b hb from)) least
      (placed_none form n le rs layer capacity end bs small closed.placed b hb from)
  opened (Some x) opens least inside fits =
      let bs = closed.blocks in
      let small = closed.points in
      let big = finmap.insert small x.at x.label in
      let h = next_comes form n le rs layer capacity end bs small closed.placed b hb from x.at x.label inside fits.1 fits.2 in
      let hold = Holds-from b x.at inside in
      let z = bare_is small b (next_bare form n le rs layer capacity end bs small closed.placed b hb from) in
      let m = occupancy-more small big x.at x.label h b inside in
      let f = follows form n le rs layer capacity end bs small closed.placed b hb from in
      opened_with big (grows small big x.at x.label h)
      (λ d c. occupancy-same small big x.at x.label h d
      (λ k. ⊎_elim (λ old. last_apart n bs b d x.at le f old k hold) (λ e. none_held x.at (subst (λ (z : Block). Holds z x.at) e k)) c))
      (record_of n capacity [] layer (HoldsPoint b x.at x.label)) 1 opens (omega arith) least
      (placed_point form n le rs layer capacity end bs small closed.placed b hb from x.at x.label inside fits.1 fits.2)

-- ---- one point more in the last block
module _ (form n : ℕ) (le : n ≤ 12) (rs : List Record) (layer capacity : ℕ) (run : PointRun) (t : IsTallied form n rs layer capacity run) (x : Point)
    (on : in_block run.last.block x.at ≡ true) (inside : is_pixel n x.at ≡ true) (small_label : x.label < 2 ^ 32) (some : 1 ≤ run.last.count)
    (room : run.last.count < capacity)
    (up : Rises by_key (rs ++ record_of n capacity [] layer (HoldsPoint run.last.block x.at x.label) ∷ [])) (next : PointRun)
    (is : next ≡ record run { last = record { block = run.last.block; count = run.last.count + 1 } }) where
  abbrev last : Block
  last = run.last.block

  abbrev blocks : List Block
  blocks = t.closed ++ last ∷ []

  abbrev big : PointMap
  big = finmap.insert t.points x.at x.label

  hold : Holds last x.at
  hold = Holds-from last x.at on

  in_last : (d : Block) → Contains blocks d → Holds d x.at → d ≡ last
  in_last d c k = ⊎_elim (λ old. absurd (last_apart n t.closed last d x.at le t.placed.follows old k hold)) (λ e. sym e) (last_cases t.closed last d c)

  comes : Comes t.points big x.at x.label
  comes = put_comes t.points x.at x.label (some_none t.points x.at (λ k c.
      let w = t.placed.held (x.at, k) c in
      let e = in_last w.0 w.1 (Holds-from w.0 x.at w.2) in
      let old = record_of n capacity [] layer (HoldsPoint last x.at k) in
      let new = record_of n capacity [] layer (HoldsPoint last x.at x.label) in
      let there = t.placed.has.each last (HoldsPoint last x.at k) (at_last t.closed last) (on_is t.points last (HoldsPoint last x.at k) (refl, c, on)) in
      let less : by_key old new ≡ Less = rises_before by_key rs (new ∷ []) old new up there (Contains-here new []) in
      below_itself by_key by_key_total new less))

  more_count : occupancy big last ≡ run.last.count + 1
  more_count = let m = occupancy-more t.points big x.at x.label comes last on in let c = t.count in omega arith

  four_more : (w : Block) → AreFour n (blocks_behind run.recent last) w → occupancy big w ≡ occupancy t.points w + 1
  four_more w f =
      let block : Tally → Block = λ t. t.block in
      let m : Contains (quarters_of w) last = subst (λ (l : List Block). Contains l last) (sym f.quarters) (at_last (map block run.recent) last) in
      let q = quarters_are n w last f.block f.wide m in
      occupancy-more t.points big x.at x.label comes w (in_block-true w x.at (Within-holds last w x.at q.within hold))

  made : IsTallied form n (rs ++ record_of n capacity [] layer (HoldsPoint last x.at x.label) ∷ []) layer capacity
      (record run { last = record { block = last; count = run.last.count + 1 } })
  made = record {
    closed = t.closed;
    points = big;
    placed = record {
      valid = put_valid form n capacity t.points big x.at x.label comes t.placed.valid inside small_label;
      has = put_facts t.points big x.at x.label comes n capacity layer rs blocks blocks last on t.placed.has (at_last t.closed last)
          (λ d c. c) in_last (λ d c. inl c)
          (λ d c k bare.
          let e = in_last d c k in
          let z = bare_is t.points last (subst (IsBare t.points) e bare) in
          let m = t.count in
          absurd (omega arith)) (λ f o g. at_last t.closed last);
      follows = t.placed.follows;
      size = t.placed.size;
      held = λ e c. ⊎_elim (λ old. t.placed.held e old) (λ same. (last, at_last t.closed last, ap (λ (z : Pixel × ℕ). in_block last z.0) same ∙ on))
          ((comes.members e).0 c);
      few = λ d c.
          ⊎_elim
          (λ old. let s = occupancy-same t.points big x.at x.label comes d (λ k. last_apart n t.closed last d x.at le t.placed.follows old k hold) in
          let f = t.placed.few d c in omega arith)
          (λ e. subst (λ (z : Block). occupancy big z ≤ capacity) e (let m = more_count in omega arith)) (last_cases t.closed last d c);
    };
    apart = λ w hw wide part. let a = t.apart w hw wide part in let l = grows t.points big x.at x.label comes w in omega arith;
    ends = EndIn-same t.closed t.points big run.recent
        (λ d c. occupancy-same t.points big x.at x.label comes d
        (λ k. ⊎_elim (λ old. last_apart n t.closed last d x.at le t.placed.follows old k hold)
        (λ e. none_held x.at (subst (λ (z : Block). Holds z x.at) e k)) c)) t.ends;
    count = more_count;
    enough = λ w f. let e = t.enough w f in let m = four_more w f in omega arith;
    due = ⊎_elim (λ z. inl z) (λ d. inr (d.0, d.1, let e = d.2 in let m = four_more d.0 d.1 in omega arith)) t.due;
  }

  pub more_tallied : IsTallied form n (rs ++ record_of n capacity [] layer (HoldsPoint run.last.block x.at x.label) ∷ []) layer capacity next
  more_tallied = subst (IsTallied form n (rs ++ record_of n capacity [] layer (HoldsPoint run.last.block x.at x.label) ∷ []) layer capacity) (sym is) made

-- ---- the last block is closed
shifted_blocks : (front blocks : List Block) (recent : List Tally) (t : Tally) → let block : Tally → Block = λ t. t.block in
    no_blocks ++ blocks ≡ front ++ map block recent
    → (f : List Block) × (no_blocks ++ (blocks ++ t.block ∷ []) ≡ f ++ map block (recent_after recent t))
shifted_blocks front blocks [] t e =
    (no_blocks ++ blocks, sym (append_assoc no_blocks blocks (t.block ∷ [])))
shifted_blocks front blocks (a ∷ rest) t e =
    let block : Tally → Block = λ t. t.block in (
      front ++ a.block ∷ [],
      sym (append_assoc no_blocks blocks (t.block ∷ [])) ∙ ap (λ (l : List Block). l ++ t.block ∷ []) e
          ∙ append_assoc front (a.block ∷ map block rest) (t.block ∷ []) ∙ sym (append_assoc front (a.block ∷ []) (map block rest ++ t.block ∷ []))
          ∙ ap (λ (l : List Block). (front ++ a.block ∷ []) ++ l) (sym (map-append block rest (t ∷ []))),
    )

shifted_long : (recent : List Tally) (t : Tally) → length recent ≡ 3 → length (recent_after recent t) ≡ 3
shifted_long [] t e = absurd (omega arith)
shifted_long (a ∷ rest) t e = let l = length-append rest (t ∷ []) in omega arith

shifted_from : (recent : List Tally) (t u : Tally) → Contains (recent_after recent t) u → Contains recent u ⊎ (t ≡ u)
shifted_from [] t u c = ⊎_elim (λ e. inr e) (λ d. absurd (Contains-nil u d)) (Contains-cons_cases t [] u c)
shifted_from (a ∷ rest) t u c = ⊎_elim (λ d. inl (Contains-there a rest u d)) (λ e. inr e) (last_cases rest t u c)

pub closes : (form n : ℕ) → n ≤ 12 → (rs : List Record) (layer capacity : ℕ) (run : PointRun) → IsTallied form n rs layer capacity run
    → run.least ≤ run.last.count
    → AreClosed form n rs layer capacity run.end (recent_after run.recent run.last)
closes form n le rs layer capacity run t enough =
    let block : Tally → Block = λ t. t.block in
    let f = shifted_blocks t.ends.front t.closed run.recent run.last t.ends.split in
    record {
      blocks = t.closed ++ run.last.block ∷ [];
      points = t.points;
      placed = t.placed;
      apart = λ w hw wide part.
          ⊎_elim (λ old. t.apart w hw wide old) (λ four. let e = t.enough w four in omega arith)
          (last_four n le t.closed run.last.block (map block run.recent) t.ends.front
          (long run.recent ∙ t.ends.three) t.ends.split t.placed.follows w hw wide part);
      ends = record {
        three = shifted_long run.recent run.last t.ends.three;
        front = f.0;
        split = f.1;
        counts = λ u c. ⊎_elim (λ old. t.ends.counts u old) (λ e. subst (λ (z : Tally). occupancy t.points z.block ≡ z.count) e t.count)
            (shifted_from run.recent run.last u c);
      };
    }
  where
    long : (ts : List Tally) → length (map (λ (t : Tally). t.block) ts) ≡ length ts
    long [] = refl
    long (t ∷ ts) = ap (λ k. suc k) (long ts)

-- ---- no record yet
no_entry : (e : Pixel × ℕ) → Contains (finmap.entries {X = ℕ} {R = pixel_cmp} finmap.empty) e → ⊥
no_entry e c =
    let z : None ≡ Some e.1 = sym (finmap.get-empty pixel_cmp e.0) ∙ get_from_entry pixel_cmp pixel_total pixel_same finmap.empty e c in
    cc

none_is : (run : PointRun) (capacity : ℕ) → IsPointStart capacity run → recent_after run.recent run.last ≡ no_tally ∷ no_tally ∷ no_tally ∷ []
none_is run capacity s = ap (λ (l : List Tally). recent_after l run.last) s.recent ∙ ap (λ (t : Tally). no_tally ∷ no_tally ∷ t ∷ []) s.tail

tally_none : (t : Tally) → Contains (no_tally ∷ no_tally ∷ no_tally ∷ []) t → t ≡ no_tally
tally_none t c =
    ⊎_elim (λ e. sym e) (λ d. ⊎_elim (λ e. sym e) (λ f. ⊎_elim (λ e. sym e) (λ g. absurd (Contains-nil t g)) (Contains-cons_cases no_tally [] t f))
    (Contains-cons_cases no_tally (no_tally ∷ []) t d))
    (Contains-cons_cases no_tally (no_tally ∷ no_tally ∷ []) t c)

pub begins_placed : (form n : ℕ) (rs : List Record) (layer capacity : ℕ) (run : PointRun) → IsBefore form rs layer capacity run
    → ArePlaced form n rs layer capacity 0 [] finmap.empty
begins_placed form n rs layer capacity run h =
    let points : PointMap = finmap.empty in
    let z = size_of-nil in
    record {
      valid = record {
        least = h.fits.0;
        most = h.fits.1;
        inside = All-weaker (Contains (finmap.entries points)) (λ e. is_pixel n e.0 ≡ true) (λ e c. absurd (no_entry e c)) (finmap.entries points)
            (All-contains_itself (finmap.entries points));
        labels = All-weaker (Contains (finmap.entries points)) (λ e. e.1 < 2 ^ 32) (λ e c. absurd (no_entry e c)) (finmap.entries points)
            (All-contains_itself (finmap.entries points));
      };
      has = record { each = λ b f c m. absurd (Contains-nil b c); only = λ r c is. absurd (h.none r c is) };
      follows = tt;
      size = z;
      held = λ e c. absurd (no_entry e c);
      few = λ b c. absurd (Contains-nil b c);
    }

pub begins_closed : (form n : ℕ) (rs : List Record) (layer capacity : ℕ) (run : PointRun) → IsBefore form rs layer capacity run
    → AreClosed form n rs layer capacity run.end (recent_after run.recent run.last)
begins_closed form n rs layer capacity run h =
    let points : PointMap = finmap.empty in
    let made : AreClosed form n rs layer capacity 0 (no_tally ∷ no_tally ∷ no_tally ∷ []) = record {
      blocks = [];
      points = points;
      placed = begins_placed form n rs layer capacity run h;
      apart = λ w hw wide part. let q : Block = record { x = w.x; y = w.y; side = w.side / 2 } in absurd (Contains-nil q (part q (0, omega arith, refl)));
      ends = record {
        three = refl;
        front = [];
        split = refl;
        counts =
            λ t c. subst (λ (u : Tally). occupancy points u.block ≡ u.count) (sym (tally_none t c)) (bare_is points no_block (λ q k m t'. no_entry (q, k) m));
      };
    } in
    subst (λ (k : ℕ). AreClosed form n rs layer capacity k (recent_after run.recent run.last)) (sym h.start.end)
    (subst (AreClosed form n rs layer capacity 0) (sym (none_is run capacity h.start)) made)
