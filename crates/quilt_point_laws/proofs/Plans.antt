-- A put and a del of a point layer, as what goes and comes on one block and in it.
use Rattle.std.proofs.Common.{◌≡◌, ℕ, ◌+◌, ◌^◌, ◌<◌, ◌≤◌, Bool, true, false, cond, nat_lt, List, [], ◌∷◌, map, length, Some, None, refl, sym, ◌∙◌, ap, subst}
use Rattle.std.proofs.Common.{inl, inr, arith, ⊎_elim, Contains, filter, eqb, ltb-true, lt-ltb}
use Rattle.std.specs.FinMap as finmap
use Rattle.std.proofs.lemmas.Bool.{cases_lt, both_ways}
use Rattle.std.proofs.lemmas.List.Sums.{length-filter}
use Rattle.std.proofs.lemmas.List.Elements.{All-contains, All-contains_itself, All-weaker}
use Rattle.quilt_types.specs.declared.plane.Block.{Block}
use Rattle.quilt_types.specs.declared.plane.Pixel.{Pixel}
use Rattle.quilt_types.specs.Plane.{in_block, is_pixel, Holds}
use Rattle.quilt_types.specs.Layers.{Points, PointMap, IsPointMap}
use Rattle.quilt_types.specs.Quadtrees.{occupancy, holds_few, point_blocks}
use Rattle.quilt_types.specs.Facts.{Fact, HoldsPoint, HoldsNoPoint, point_facts, facts}
use Rattle.quilt_record.specs.Records.{record_of}
use Rattle.quilt_point_laws.specs.Swapping.{Swaps}
use Rattle.quilt_point_laws.specs.Local.{full_come}
use Rattle.quilt_point_laws.specs.Climbing.{climb}
use Rattle.quilt_point_laws.specs.Spreading.{held_facts, spread}
use Rattle.quilt_point_laws.specs.Plans.{without_it, with_it}
use Rattle.quilt_point_laws.specs.Laws.{AreIn, PutLaw, DelLaw}
use Rattle.quilt_spell.specs.Apart.{Apart, SameMembers}
use Rattle.quilt_spell.specs.Changing.{LeadsTo}
use Rattle.quilt_loc.proofs.Members.{Contains-here, Contains-there, Contains-cons_cases, Contains-filter, Contains-filter_from}
use Rattle.quilt_loc.proofs.Blocks.{in_block-true}
use Rattle.quilt_loc.proofs.Nesting.{Within-holds}
use Rattle.quilt_spell.proofs.Holding.{HeldBy, held}
use Rattle.quilt_loc.proofs.Around.{IsBlock-around}
use Rattle.quilt_loc.proofs.Nesting.{around}
use Rattle.quilt_spell.proofs.Lists.{Apart-filter, same_length}
use Rattle.quilt_blocks.proofs.Maximal.{IsMaximal, IsMaximal-from}
use Rattle.quilt_point_laws.proofs.Counts.{Comes, put_comes, del_comes, entries_apart, few_pixel, few_narrows}
use Rattle.quilt_point_laws.proofs.LocalFacts.{Swaps-turned, room_swaps, full_swaps}
use Rattle.quilt_point_laws.proofs.Climbs.{climb_is}
use Rattle.quilt_point_laws.proofs.Spreads.{spread_is}
use Rattle.quilt_point_laws.proofs.Cuts.{Apart-one}
use Rattle.quilt_point_laws.proofs.Orders.{held_same, held_apart, spread_same, spread_apart}
use Rattle.quilt_point_laws.proofs.Leads.{points_lead}

pub AreIn-length : (points : PointMap) (b : Block) (held : List (Pixel × ℕ)) → AreIn points b held → length held ≡ occupancy points b
AreIn-length points b held h =
    let test : Pixel × ℕ → Bool = λ e. in_block b e.0 in
    same_length held (filter test (finmap.entries points)) h.once (Apart-filter test (finmap.entries points) (entries_apart points)) h.members
    ∙ length-filter test (finmap.entries points)

pub Swaps-same : (old new g h c d : List Fact) → Swaps old new g c → SameMembers h g → SameMembers d c → Swaps old new h d
Swaps-same old new g h c d s sg sc = record {
  goes = λ f. (λ m. (s.goes f).0 ((sg f).0 m), λ w. (sg f).1 ((s.goes f).1 w));
  comes = λ f. (λ m. (s.comes f).0 ((sc f).0 m), λ w. (sc f).1 ((s.comes f).1 w));
}

-- what goes and comes, each once
pub record Changes (old new gone come : List Fact) : Type 0 where
  pub swaps : Swaps old new gone come
  pub gone_once : Apart gone
  pub come_once : Apart come

itself : {X : Type 0} (xs : List X) → SameMembers xs xs
itself xs x = (λ c. c, λ c. c)

pub equal : {X : Type 0} (xs ys : List X) → xs ≡ ys → SameMembers xs ys
equal xs ys e x = (λ c. subst (λ (l : List _). Contains l x) e c, λ c. subst (λ (l : List _). Contains l x) (sym e) c)

pub joined : {X : Type 0} (xs ys zs : List X) → SameMembers xs ys → SameMembers ys zs → SameMembers xs zs
joined xs ys zs h k x = (λ c. (k x).0 ((h x).0 c), λ c. (h x).1 ((k x).1 c))

pub apart_by : (t : Bool) (f : Fact) → Apart (cond t (f ∷ []) [])
apart_by true f = Apart-one f
apart_by false f = tt

module _ (small big : PointMap) (p : Pixel) (label : ℕ) (h : Comes small big p label) (n capacity : ℕ) (least : 1 ≤ capacity)
    (c : Block) (gc : IsMaximal n (holds_few capacity small) c) (hc : Holds c p) (k : ℕ) (s : c.side ≡ 2 ^ k)
    (held : List (Pixel × ℕ)) (are : AreIn small c held) where
  long : length held ≡ occupancy small c
  long = AreIn-length small c held are

  with_new : AreIn big c ((p, label) ∷ held)
  with_new =
      let new : Pixel × ℕ = (p, label) in
      let es = finmap.entries small in
      let gs = finmap.entries big in
      let test : Pixel × ℕ → Bool = λ e. in_block c e.0 in
      record {
        once = (λ m. h.fresh label (Contains-filter_from test es new ((are.members new).0 m)).0, are.once);
        members = λ e. (
          λ m. ⊎_elim (λ is. subst (Contains (filter test gs)) is (Contains-filter test gs new ((h.members new).1 (inr refl)) (in_block-true c p hc)))
              (λ d. let w = Contains-filter_from test es e ((are.members e).0 d) in Contains-filter test gs e ((h.members e).1 (inl w.0)) w.1)
              (Contains-cons_cases new held e m),
          λ m.
              let w = Contains-filter_from test gs e m in
              ⊎_elim (λ o. Contains-there new held e ((are.members e).1 (Contains-filter test es e o w.1)))
              (λ is. subst (Contains (new ∷ held)) (sym is) (Contains-here new held)) ((h.members e).0 w.0),
        );
      }

  -- the points that are spread give the facts of the blocks that the block is cut into
  spread_here : SameMembers (spread capacity k c ((p, label) ∷ held)) (full_come capacity big k c)
  spread_here =
      let test : Pixel × ℕ → Bool = λ e. in_block c e.0 in
      let gs = filter test (finmap.entries big) in
      joined (spread capacity k c ((p, label) ∷ held)) (spread capacity k c gs) (full_come capacity big k c)
      (spread_same capacity k c ((p, label) ∷ held) gs with_new.once (Apart-filter test (finmap.entries big) (entries_apart big)) with_new.members)
      (equal (spread capacity k c gs) (full_come capacity big k c) (spread_is n capacity big k c gc.block s))

  changes_by : (t : Bool) → nat_lt (length held) capacity ≡ t
      → Changes (facts n (Points capacity small)) (facts n (Points capacity big))
      (cond t (cond (eqb (length held) 0) (HoldsNoPoint c ∷ []) []) (held_facts c held))
      (cond t (HoldsPoint c p label ∷ []) (spread capacity k c ((p, label) ∷ held)))
  changes_by true t =
      let lt = ltb-true (length held) capacity t in
      let same = long in
      let sw = room_swaps small big p label h n capacity c gc hc (omega arith) in
      record {
        swaps =
            subst (λ (m : ℕ). Swaps (facts n (Points capacity small)) (facts n (Points capacity big)) (cond (eqb m 0) (HoldsNoPoint c ∷ []) [])
            (HoldsPoint c p label ∷ [])) (sym long) sw;
        gone_once = apart_by (eqb (length held) 0) (HoldsNoPoint c);
        come_once = Apart-one (HoldsPoint c p label);
      }
  changes_by false f =
      let full : capacity ≤ length held =
      ⊎_elim (λ lt. absurd (both_ways (nat_lt (length held) capacity) f (lt-ltb (length held) capacity lt))) (λ ge. ge) (cases_lt (length held) capacity) in
      let test : Pixel × ℕ → Bool = λ e. in_block c e.0 in
      let es = filter test (finmap.entries small) in
      let same = long in
      let sw = full_swaps small big p label h n capacity c gc hc (omega arith) least k s in
      record {
        swaps = Swaps-same (facts n (Points capacity small)) (facts n (Points capacity big)) (point_facts small c) (held_facts c held)
            (full_come capacity big k c) (spread capacity k c ((p, label) ∷ held)) sw
            (held_same c held es are.once (Apart-filter test (finmap.entries small) (entries_apart small)) are.members) spread_here;
        gone_once = held_apart c held are.once;
        come_once = spread_apart n capacity k c gc.block s ((p, label) ∷ held) with_new.once;
      }

  -- with one point more these facts go and these come
  pub one_more : Changes (facts n (Points capacity small)) (facts n (Points capacity big)) (without_it capacity c held) (with_it capacity k c held p label)
  one_more = changes_by (nat_lt (length held) capacity) refl

  -- with one point less it is the other way
  pub one_less : Changes (facts n (Points capacity big)) (facts n (Points capacity small)) (with_it capacity k c held p label) (without_it capacity c held)
  one_less = record {
    swaps = Swaps-turned (facts n (Points capacity small)) (facts n (Points capacity big)) (without_it capacity c held)
        (with_it capacity k c held p label) one_more.swaps;
    gone_once = one_more.come_once;
    come_once = one_more.gone_once;
  }

-- ---- valid layers
pub put_valid : (form n capacity : ℕ) (small big : PointMap) (p : Pixel) (label : ℕ) → Comes small big p label → IsPointMap form n capacity small
    → is_pixel n p ≡ true → label < 2 ^ 32 → IsPointMap form n capacity big
put_valid form n capacity small big p label h v on few =
    let gs = finmap.entries big in
    let es = finmap.entries small in record {
      least = v.least;
      most = v.most;
      inside = All-weaker (Contains gs) (λ e. is_pixel n e.0 ≡ true) (λ e c.
          ⊎_elim (λ m. All-contains (λ (e : Pixel × ℕ). is_pixel n e.0 ≡ true) es e v.inside m)
          (λ is. ap (λ (z : Pixel × ℕ). is_pixel n z.0) is ∙ on) ((h.members e).0 c)) gs (All-contains_itself gs);
      labels = All-weaker (Contains gs) (λ e. e.1 < 2 ^ 32) (λ e c.
          ⊎_elim (λ m. All-contains (λ (e : Pixel × ℕ). e.1 < 2 ^ 32) es e v.labels m) (λ is. subst (λ (z : Pixel × ℕ). z.1 < 2 ^ 32) (sym is) few)
          ((h.members e).0 c)) gs (All-contains_itself gs);
    }

pub del_valid : (form n capacity : ℕ) (small big : PointMap) (p : Pixel) (label : ℕ) → Comes small big p label → IsPointMap form n capacity big
    → IsPointMap form n capacity small
del_valid form n capacity small big p label h v =
    let gs = finmap.entries big in
    let es = finmap.entries small in record {
      least = v.least;
      most = v.most;
      inside = All-weaker (Contains es) (λ e. is_pixel n e.0 ≡ true)
          (λ e c. All-contains (λ (e : Pixel × ℕ). is_pixel n e.0 ≡ true) gs e v.inside ((h.members e).1 (inl c))) es (All-contains_itself es);
      labels = All-weaker (Contains es) (λ e. e.1 < 2 ^ 32)
          (λ e c. All-contains (λ (e : Pixel × ℕ). e.1 < 2 ^ 32) gs e v.labels ((h.members e).1 (inl c))) es (All-contains_itself es);
    }

-- ---- the block to begin with
pub block_around : (n capacity : ℕ) (points : PointMap) (p : Pixel) → 1 ≤ capacity → p.x < 2 ^ n → p.y < 2 ^ n → HeldBy n (holds_few capacity points) p
block_around n capacity points p least hx hy =
    held n (holds_few capacity points) p hx hy (few_pixel n capacity points least (around (2 ^ 0) p) (IsBlock-around n 0 p (omega arith) hx hy) refl)

-- ---- the two commands
module _ (form n : ℕ) (name : List ℕ) (number capacity : ℕ) (le : n ≤ 12) (some : 1 ≤ number) (points : PointMap)
    (valid : IsPointMap form n capacity points) (p : Pixel) where
  -- c: the block around the pixel, held: its points
  pub put_leads : (label : ℕ) → finmap.get points p ≡ None → is_pixel n p ≡ true → label < 2 ^ 32
      → (c : Block) → Contains (point_blocks n capacity points) c → Holds c p → (k : ℕ) → c.side ≡ 2 ^ k → (held : List (Pixel × ℕ)) → AreIn points c held
      → LeadsTo n name number (Some (Points capacity points)) (Some (Points capacity (finmap.insert points p label)))
      (map (record_of n capacity name number) (without_it capacity c held)) (map (record_of n capacity name number) (with_it capacity k c held p label))
  unfolding point_blocks
  put_leads label none on few c mc hc k s held are =
      let after = finmap.insert points p label in
      let h = put_comes points p label none in
      let ch = one_more points after p label h n capacity valid.least c (IsMaximal-from n (holds_few capacity points) c mc) hc k s held are in
      points_lead form n name number capacity le some points after valid (put_valid form n capacity points after p label h valid on few)
      (without_it capacity c held) (with_it capacity k c held p label) ch.swaps ch.gone_once ch.come_once

  -- b: the block around the pixel, c: the last one up from it that holds few of the other points, held: those in c
  pub del_leads : (label : ℕ) → finmap.get points p ≡ Some label
      → (b : Block) → Contains (point_blocks n capacity points) b → Holds b p → (j d : ℕ) → b.side ≡ 2 ^ j → j + d ≡ n
      → let after = finmap.remove points p in let c = climb (holds_few capacity after) d b in
      (k : ℕ) → c.side ≡ 2 ^ k → (held : List (Pixel × ℕ)) → AreIn after c held
      → LeadsTo n name number (Some (Points capacity points)) (Some (Points capacity after))
      (map (record_of n capacity name number) (with_it capacity k c held p label)) (map (record_of n capacity name number) (without_it capacity c held))
  unfolding point_blocks
  del_leads label there b mb hb j d sb e k s held are =
      let after = finmap.remove points p in
      let h = del_comes points p label there in
      let gb = IsMaximal-from n (holds_few capacity points) b mb in
      let nar = few_narrows after points p label h capacity in
      let c = climb (holds_few capacity after) d b in
      let top = climb_is n (holds_few capacity after) d j b gb.block sb e (nar.less b gb.passes) in
      let ch = one_less after points p label h n capacity valid.least c top.maximal (Within-holds b c p top.within hb) k s held are in
      points_lead form n name number capacity le some points after valid (del_valid form n capacity after points p label h valid)
      (with_it capacity k c held p label) (without_it capacity c held) ch.swaps ch.gone_once ch.come_once

pub put_law : PutLaw
put_law form n name number capacity le some points valid p label none on few c mc hc k s held are =
    put_leads form n name number capacity le some points valid p label none on few c mc hc k s held are

pub del_law : DelLaw
del_law form n name number capacity le some points valid p label there b mb hb j d sb e k s held are =
    del_leads form n name number capacity le some points valid p label there b mb hb j d sb e k s held are
