-- Points that come into several blocks at once: what goes and comes in each, and in all.
use Rattle.std.proofs.Common.{◌≡◌, ℕ, ◌+◌, ◌-◌, ◌^◌, ◌≤◌, ◌⊎◌, ◌↔◌, Bool, true, false, cond, nat_le, List, [], ◌∷◌, ◌++◌, map, length, refl, sym, ◌∙◌, ap}
use Rattle.std.proofs.Common.{subst, inl, inr, arith, ⊎_elim, Contains, filter, flat_map, eqb, eqb-true, eq-eqb, le-leb, leb-true, length-append}
use Rattle.std.specs.FinMap as finmap
use Rattle.std.proofs.lemmas.Bool.{cases_Bool, both_ways}
use Rattle.std.proofs.lemmas.List.Elements.{Contains-append_left, Contains-append_right, Contains-append_cases}
use Rattle.quilt_types.specs.declared.plane.Block.{Block}
use Rattle.quilt_types.specs.declared.plane.Pixel.{Pixel}
use Rattle.quilt_types.specs.Plane.{corner, in_block, block_cmp, IsBlock, Within}
use Rattle.quilt_types.specs.Layers.{Points, PointMap}
use Rattle.quilt_types.specs.Quadtrees.{occupancy, holds_few, point_blocks}
use Rattle.quilt_types.specs.Facts.{Fact, HoldsPoint, HoldsNoPoint, point_facts, facts}
use Rattle.quilt_types.specs.Codes.{depth}
use Rattle.quilt_loc.proofs.Members.{Contains-nil, Contains-here, Contains-there, Contains-cons_cases, Contains-map, Contains-map_from, Contains-filter}
use Rattle.quilt_loc.proofs.Members.{Contains-filter_from}
use Rattle.quilt_loc.proofs.Blocks.{Holds-from}
use Rattle.quilt_loc.proofs.CodeLaws.{depth_is}
use Rattle.quilt_loc.proofs.Nesting.{Holds-corner, Within-holds}
use Rattle.quilt_loc.proofs.PlaneOrders.{block_total}
use Rattle.quilt_spell.specs.Apart.{Apart, SameMembers}
use Rattle.quilt_spell.proofs.Lists.{Apart-append, Apart-filter, Apart-map, Apart-flat_map}
use Rattle.quilt_spell.proofs.Maps.{same_or_not}
use Rattle.quilt_spell.proofs.facts.FactKeys.{block_same}
use Rattle.quilt_blocks.proofs.Maximal.{IsMaximal, IsMaximal-from}
use Rattle.quilt_point_laws.specs.Swapping.{Swaps}
use Rattle.quilt_point_laws.specs.Local.{full_come}
use Rattle.quilt_point_laws.specs.Spreading.{held_facts, spread}
use Rattle.quilt_point_laws.specs.Laws.{AreIn}
use Rattle.quilt_point_laws.specs.Growing.{Gain, gone_in, come_in, IsGain}
use Rattle.quilt_point_laws.proofs.Narrowing.{one_maximal}
use Rattle.quilt_point_laws.proofs.Counts.{entries_apart, few_down}
use Rattle.quilt_point_laws.proofs.OnBlocks.{IsBare, on_one, on_from}
use Rattle.quilt_point_laws.proofs.LocalFacts.{bare_from, bare_is}
use Rattle.quilt_point_laws.proofs.Spreads.{spread_is}
use Rattle.quilt_point_laws.proofs.Orders.{held_same, held_apart, spread_same, spread_apart}
use Rattle.quilt_point_laws.proofs.Plans.{AreIn-length, Swaps-same, Changes, equal, joined, apart_by}
use Rattle.quilt_point_laws.proofs.Scattering.{IsOld, inner_from, full_block, room_block, scatter_swaps}

-- the second map has these points besides those of the first, which has none at their pixels
pub record Gains (small big : PointMap) (news : List (Pixel × ℕ)) : Type 0 where
  pub members : (e : Pixel × ℕ) → Contains (finmap.entries big) e ↔ (Contains (finmap.entries small) e ⊎ Contains news e)
  pub fresh : (p : Pixel) (k l : ℕ) → Contains news (p, k) → Contains (finmap.entries small) (p, l) → ⊥

maximal_in : (n capacity : ℕ) (points : PointMap) (b : Block) → Contains (point_blocks n capacity points) b → IsMaximal n (holds_few capacity points) b
unfolding point_blocks
maximal_in n capacity points b m = IsMaximal-from n (holds_few capacity points) b m

-- the level of a block's side, from its depth
pub level_is : (n : ℕ) (b : Block) → IsBlock n b → b.side ≡ 2 ^ (n - depth n b)
level_is n b h =
    let d = depth_is n b h in
    let low = h.low in
    let e : n - depth n b ≡ h.level = omega arith in
    h.size ∙ ap (λ k. 2 ^ k) (sym e)

fact_alone : (b : Block) (x y : Pixel × ℕ) → HoldsPoint b x.0 x.1 ≡ HoldsPoint b y.0 y.1 → x ≡ y
fact_alone b x y e = let p : x.0 ≡ y.0 = cc in let l : x.1 ≡ y.1 = cc in λ i. (p i, l i)

cond_from : (t : Bool) (x f : Fact) → Contains (cond t (x ∷ []) []) f → (f ≡ x) × (t ≡ true)
cond_from true x f c = (⊎_elim (λ e. sym e) (λ d. absurd (Contains-nil f d)) (Contains-cons_cases x [] f c), refl)
cond_from false x f c = absurd (Contains-nil f c)

cond_is : (t : Bool) (x f : Fact) → f ≡ x → t ≡ true → Contains (cond t (x ∷ []) []) f
cond_is true x f e s = subst (Contains (x ∷ [])) (sym e) (Contains-here x [])
cond_is false x f e s = cc

-- one of them has this block, or none
among_or_not : (gs : List Gain) (c : Block) → ((g : Gain) × Contains gs g × (g.block ≡ c)) ⊎ ((g : Gain) → Contains gs g → g.block ≡ c → ⊥)
among_or_not [] c = inr (λ g m e. Contains-nil g m)
among_or_not (h ∷ gs) c =
    ⊎_elim (λ e. inl (h, Contains-here h gs, e))
    (λ d. ⊎_elim (λ w. inl (w.0, Contains-there h gs w.0 w.1, w.2))
    (λ away. inr (λ g m e. ⊎_elim (λ is. d (ap (λ (z : Gain). z.block) is ∙ e)) (λ k. away g k e) (Contains-cons_cases h gs g m)))
    (among_or_not gs c))
    (same_or_not block_cmp block_total block_same h.block c)

module _ (small big : PointMap) (news : List (Pixel × ℕ)) (h : Gains small big news) (n capacity : ℕ) (least : 1 ≤ capacity) where
  more : (e : Pixel × ℕ) → Contains (finmap.entries small) e → Contains (finmap.entries big) e
  more e c = (h.members e).1 (inl c)

  abbrev level : Block → ℕ
  level b = n - depth n b

  sized : (c : Block) → IsMaximal n (holds_few capacity small) c → c.side ≡ 2 ^ (n - depth n c)
  sized c gc = level_is n c gc.block

  abbrev inside : Block → List Fact
  inside c = full_come capacity big (n - depth n c) c

  -- ---- one block
  module _ (g : Gain) (w : IsGain n capacity small news g) where
    at : IsMaximal n (holds_few capacity small) g.block
    at = maximal_in n capacity small g.block w.block

    -- the points that it then has
    with_news : AreIn big g.block (g.news ++ g.held)
    with_news =
        let test : Pixel × ℕ → Bool = λ e. in_block g.block e.0 in
        let es = finmap.entries small in
        let gs = finmap.entries big in
        record {
          once = Apart-append g.news g.held w.once (w.held).once (λ e c d.
              h.fresh e.0 e.1 e.1 ((w.among e).0 c).0 (Contains-filter_from test es e (((w.held).members e).0 d)).0);
          members = λ e. (
            λ m. ⊎_elim
                (λ c. let a = (w.among e).0 c in Contains-filter test gs e ((h.members e).1 (inr a.0)) a.1)
                (λ d. let k = Contains-filter_from test es e (((w.held).members e).0 d) in Contains-filter test gs e (more e k.0) k.1)
                (Contains-append_cases g.news g.held e m),
            λ m.
                let k = Contains-filter_from test gs e m in
                ⊎_elim
                (λ o. Contains-append_right g.news g.held e (((w.held).members e).1 (Contains-filter test es e o k.1)))
                (λ c. Contains-append_left g.news g.held e ((w.among e).1 (c, k.1)))
                ((h.members e).0 k.0),
          );
        }

    count : length g.held + length g.news ≡ occupancy big g.block
    count =
        let l = AreIn-length big g.block (g.news ++ g.held) with_news in
        let s = length-append g.news g.held in
        omega arith

    before : length g.held ≡ occupancy small g.block
    before = AreIn-length small g.block g.held w.held

    room_gone : (f : Fact) → Contains (cond (eqb (length g.held) 0) (HoldsNoPoint g.block ∷ []) []) f ↔ ((f ≡ HoldsNoPoint g.block) × IsBare small g.block)
    room_gone f = (
      λ m.
          let k = cond_from (eqb (length g.held) 0) (HoldsNoPoint g.block) f m in
          let none = eqb-true (length g.held) 0 k.1 in
          (k.0, bare_from small g.block (sym before ∙ none)),
      λ k. cond_is (eqb (length g.held) 0) (HoldsNoPoint g.block) f k.0 (eq-eqb (length g.held) 0 (before ∙ bare_is small g.block k.1)),
    )

    room_come : (f : Fact) → Contains (map (λ e. HoldsPoint g.block e.0 e.1) g.news) f
        ↔ ((d : Pixel × ℕ) × Contains (finmap.entries big) d × (in_block g.block d.0 ≡ true) × (Contains (finmap.entries small) d → ⊥)
        × (f ≡ HoldsPoint g.block d.0 d.1))
    room_come f =
        let fact : Pixel × ℕ → Fact = λ e. HoldsPoint g.block e.0 e.1 in (
          λ m.
              let k = Contains-map_from fact g.news f m in
              let a = (w.among k.0).0 k.1 in
              (k.0, (h.members k.0).1 (inr a.0), a.1, λ o. h.fresh k.0.0 k.0.1 k.0.1 a.0 o, sym k.2),
          λ k. ⊎_elim (λ o. absurd (k.3 o))
              (λ c. subst (Contains (map fact g.news)) (sym k.4) (Contains-map fact g.news k.0 ((w.among k.0).1 (c, k.2))))
              ((h.members k.0).0 k.1),
        )

    -- the points that are spread give the facts of the blocks that the block is cut into
    spread_news : (k : ℕ) → g.block.side ≡ 2 ^ k → SameMembers (spread capacity k g.block (g.news ++ g.held)) (full_come capacity big k g.block)
    spread_news k s =
        let test : Pixel × ℕ → Bool = λ e. in_block g.block e.0 in
        let gs = filter test (finmap.entries big) in
        joined (spread capacity k g.block (g.news ++ g.held)) (spread capacity k g.block gs) (full_come capacity big k g.block)
        (spread_same capacity k g.block (g.news ++ g.held) gs with_news.once (Apart-filter test (finmap.entries big) (entries_apart big)) with_news.members)
        (equal (spread capacity k g.block gs) (full_come capacity big k g.block) (spread_is n capacity big k g.block at.block s))

    changed_by : (t : Bool) → nat_le (length g.held + length g.news) capacity ≡ t
        → Changes (point_facts small g.block) (inside g.block)
        (cond t (cond (eqb (length g.held) 0) (HoldsNoPoint g.block ∷ []) []) (held_facts g.block g.held))
        (cond t (map (λ e. HoldsPoint g.block e.0 e.1) g.news) (spread capacity (level g.block) g.block (g.news ++ g.held)))
    changed_by true t =
        let le = leb-true (length g.held + length g.news) capacity t in
        let same = count in
        let fits : holds_few capacity big g.block ≡ true = le-leb (occupancy big g.block) capacity (omega arith) in
        let one = w.some in
        let a = (w.among one.0).0 one.1 in
        record {
          swaps = room_block small big more n capacity least level sized g.block at fits
              (cond (eqb (length g.held) 0) (HoldsNoPoint g.block ∷ []) []) (map (λ e. HoldsPoint g.block e.0 e.1) g.news)
              one.0 ((h.members one.0).1 (inr a.0)) a.1 room_gone room_come;
          gone_once = apart_by (eqb (length g.held) 0) (HoldsNoPoint g.block);
          come_once = Apart-map (λ e. HoldsPoint g.block e.0 e.1) g.news (λ x y _ _ e. fact_alone g.block x y e) w.once;
        }
    changed_by false f =
        let same = count in
        let fails : holds_few capacity big g.block ≡ false =
        ⊎_elim (λ t. let le = leb-true (occupancy big g.block) capacity t in
        absurd (both_ways (nat_le (length g.held + length g.news) capacity) f (le-leb (length g.held + length g.news) capacity (omega arith))))
        (λ u. u) (cases_Bool (holds_few capacity big g.block)) in
        let test : Pixel × ℕ → Bool = λ e. in_block g.block e.0 in
        let es = filter test (finmap.entries small) in
        let s = sized g.block at in
        record {
          swaps = Swaps-same (point_facts small g.block) (inside g.block) (point_facts small g.block) (held_facts g.block g.held) (inside g.block)
              (spread capacity (level g.block) g.block (g.news ++ g.held))
              (full_block small big more n capacity least level sized g.block at fails)
              (held_same g.block g.held es (w.held).once (Apart-filter test (finmap.entries small) (entries_apart small)) (w.held).members)
              (spread_news (level g.block) s);
          gone_once = held_apart g.block g.held (w.held).once;
          come_once = spread_apart n capacity (level g.block) g.block at.block s (g.news ++ g.held) with_news.once;
        }

    one_changed : Changes (point_facts small g.block) (inside g.block) (gone_in capacity g) (come_in n capacity g)
    one_changed = changed_by (nat_le (length g.held + length g.news) capacity) refl

  -- ---- all blocks
  module _ (gs : List Gain) (are : (g : Gain) → Contains gs g → IsGain n capacity small news g) (own : (g d : Gain) → Contains gs g → Contains gs d
      → g.block ≡ d.block → g ≡ d) (once : Apart gs)
      (covered : (e : Pixel × ℕ) → Contains news e → (g : Gain) × Contains gs g × (in_block g.block e.0 ≡ true)) where
    each : (c : Block) → IsMaximal n (holds_few capacity small) c → ((g : Gain) × Contains gs g × (g.block ≡ c)) ⊎ IsOld small big more c
    each c gc =
        ⊎_elim (λ w. inl w)
        (λ away. inr (λ e m t. ⊎_elim (λ o. o)
        (λ k.
        let g = covered e k in
        absurd (away g.0 g.1 (one_maximal n (holds_few capacity small) (few_down n capacity small) (g.0).block c e.0
        (maximal_in n capacity small (g.0).block (are g.0 g.1).block) gc (Holds-from (g.0).block e.0 g.2) (Holds-from c e.0 t))))
        ((h.members e).0 m)))
        (among_or_not gs c)

    swaps_in : (g : Gain) → Contains gs g → Swaps (point_facts small g.block) (inside g.block) (gone_in capacity g) (come_in n capacity g)
    swaps_in g m = (one_changed g (are g m)).swaps

    gone_one : (a b : Gain) (f : Fact) → Contains gs a → Contains gs b → Contains (gone_in capacity a) f → Contains (gone_in capacity b) f → a ≡ b
    gone_one a b f ma mb ca cb =
        own a b ma mb (on_one small small a.block b.block f (on_from small a.block f (((swaps_in a ma).goes f).0 ca).0)
        (on_from small b.block f (((swaps_in b mb).goes f).0 cb).0))

    come_one : (a b : Gain) (f : Fact) → Contains gs a → Contains gs b → Contains (come_in n capacity a) f → Contains (come_in n capacity b) f → a ≡ b
    come_one a b f ma mb ca cb =
        let ga = maximal_in n capacity small a.block (are a ma).block in
        let gb = maximal_in n capacity small b.block (are b mb).block in
        let x = inner_from small big more n capacity least level sized a.block ga f (((swaps_in a ma).comes f).0 ca).0 in
        let y = inner_from small big more n capacity least level sized b.block gb f (((swaps_in b mb).comes f).0 cb).0 in
        let same = on_one big big (x.0).block (y.0).block f (x.0).on (y.0).on in
        let q = corner (x.0).block in
        let here = Holds-corner n (x.0).block ((x.0).maximal).block in
        own a b ma mb
        (one_maximal n (holds_few capacity small) (few_down n capacity small) a.block b.block q ga gb (Within-holds (x.0).block a.block q x.1 here)
        (Within-holds (x.0).block b.block q (subst (λ (z : Block). Within z b.block) (sym same) y.1) here))

    -- all that goes and comes, each once
    pub all_changed : Changes (facts n (Points capacity small)) (facts n (Points capacity big)) (flat_map (gone_in capacity) gs)
        (flat_map (come_in n capacity) gs)
    all_changed = record {
      swaps = scatter_swaps small big more n capacity least level sized gs (λ (g : Gain). g.block) (gone_in capacity) (come_in n capacity)
          (λ g m. maximal_in n capacity small g.block (are g m).block) each swaps_in;
      gone_once = Apart-flat_map (gone_in capacity) gs once (λ g m. (one_changed g (are g m)).gone_once) gone_one;
      come_once = Apart-flat_map (come_in n capacity) gs once (λ g m. (one_changed g (are g m)).come_once) come_one;
    }
