-- One point more: how many a block holds, and what the test of a point layer's blocks makes of it.
use Rattle.std.proofs.Common.{◌≡◌, ℕ, ◌+◌, ◌<◌, ◌≤◌, ◌⊎◌, ◌↔◌, Bool, true, false, cond, ◌∷◌, Some, None, refl, sym, ◌∙◌, ap, subst, inl, inr}
use Rattle.std.proofs.Common.{⊎_elim, arith, Contains, filter, le-leb, leb-true}
use Rattle.std.specs.FinMap as finmap
use Rattle.std.specs.Cmp.{on_total}
use Rattle.std.proofs.lemmas.Bool.{cases_Bool, both_ways}
use Rattle.std.proofs.lemmas.List.Sums.{sum_by-le-sum_by, length-filter}
use Rattle.quilt_types.specs.declared.plane.Pixel.{Pixel}
use Rattle.quilt_types.specs.declared.plane.Block.{Block}
use Rattle.quilt_types.specs.Plane.{in_block, pixel_cmp, Holds, IsBlock, Within}
use Rattle.quilt_types.specs.Layers.{PointMap}
use Rattle.quilt_types.specs.Quadtrees.{occupancy, holds_few}
use Rattle.quilt_spell.specs.Apart.{Apart}
use Rattle.quilt_loc.proofs.Members.{Contains-here, Contains-there, Contains-cons_cases, Contains-filter, Contains-filter_from}
use Rattle.quilt_loc.proofs.Blocks.{Holds-from, in_block-true}
use Rattle.quilt_loc.proofs.Nesting.{Within-holds}
use Rattle.quilt_spell.proofs.Lists.{Apart-filter, Apart-rises, same_length}
use Rattle.quilt_spell.proofs.Maps.{by_first, Rises-entries, entry_from_get, get_from_entry, get_inserted, get_others, get_removed, get_kept, same_or_not}
use Rattle.quilt_loc.proofs.PlaneOrders.{pixel_total}
use Rattle.quilt_spell.proofs.facts.FactKeys.{pixel_same, one_label}
use Rattle.quilt_blocks.proofs.Maximal.{GoesDown}
use Rattle.quilt_point_laws.proofs.Narrowing.{Narrows}
use Rattle.quilt_spell.proofs.facts.LayerAlone.{few_if_one}

-- the second map has the point besides those of the first, which has none at its pixel
pub record Comes (small big : PointMap) (p : Pixel) (label : ℕ) : Type 0 where
  pub members : (e : Pixel × ℕ) → Contains (finmap.entries big) e ↔ (Contains (finmap.entries small) e ⊎ (e ≡ (p, label)))
  pub fresh : (k : ℕ) → Contains (finmap.entries small) (p, k) → ⊥

some_same : (k l : ℕ) → Some k ≡ Some l → k ≡ l
some_same k l e = cc

none_some : (k : ℕ) → None ≡ Some k → ⊥
none_some k e = cc

-- a put at a pixel that has no point
pub put_comes : (points : PointMap) (p : Pixel) (label : ℕ) → finmap.get points p ≡ None → Comes points (finmap.insert points p label) p label
put_comes points p label none =
    let after = finmap.insert points p label in
    record {
      members = λ e. (
        λ c.
            let g = get_from_entry pixel_cmp pixel_total pixel_same after e c in
            ⊎_elim
            (λ is.
            let l : label ≡ e.1 =
            some_same label e.1 (sym (get_inserted pixel_cmp pixel_total pixel_same points p label) ∙ ap (finmap.get after) (sym is) ∙ g) in
            inr (λ i. (is i, sym l i)))
            (λ d. inl (entry_from_get pixel_cmp pixel_total pixel_same points e.0 e.1
            (sym (get_others pixel_cmp pixel_total pixel_same points p label e.0 d) ∙ g)))
            (same_or_not pixel_cmp pixel_total pixel_same e.0 p),
        λ h. ⊎_elim
            (λ c.
            let g = get_from_entry pixel_cmp pixel_total pixel_same points e c in
            let d : e.0 ≡ p → ⊥ = λ is. none_some e.1 (sym none ∙ ap (finmap.get points) (sym is) ∙ g) in
            entry_from_get pixel_cmp pixel_total pixel_same after e.0 e.1 (get_others pixel_cmp pixel_total pixel_same points p label e.0 d ∙ g))
            (λ is. subst (Contains (finmap.entries after)) (sym is)
            (entry_from_get pixel_cmp pixel_total pixel_same after p label (get_inserted pixel_cmp pixel_total pixel_same points p label))) h,
      );
      fresh = λ k c. none_some k (sym none ∙ get_from_entry pixel_cmp pixel_total pixel_same points (p, k) c);
    }

-- a del of a point
pub del_comes : (points : PointMap) (p : Pixel) (label : ℕ) → finmap.get points p ≡ Some label → Comes (finmap.remove points p) points p label
del_comes points p label some =
    let after = finmap.remove points p in
    let gone = get_removed pixel_cmp pixel_total pixel_same points p in
    record {
      members = λ e. (
        λ c.
            let g = get_from_entry pixel_cmp pixel_total pixel_same points e c in
            ⊎_elim
            (λ is.
            let l : label ≡ e.1 = some_same label e.1 (sym some ∙ ap (finmap.get points) (sym is) ∙ g) in
            inr (λ i. (is i, sym l i)))
            (λ d. inl (entry_from_get pixel_cmp pixel_total pixel_same after e.0 e.1 (get_kept pixel_cmp pixel_total pixel_same points p e.0 d ∙ g)))
            (same_or_not pixel_cmp pixel_total pixel_same e.0 p),
        λ h. ⊎_elim
            (λ c.
            let g = get_from_entry pixel_cmp pixel_total pixel_same after e c in
            let d : e.0 ≡ p → ⊥ = λ is. none_some e.1 (sym gone ∙ ap (finmap.get after) (sym is) ∙ g) in
            entry_from_get pixel_cmp pixel_total pixel_same points e.0 e.1 (sym (get_kept pixel_cmp pixel_total pixel_same points p e.0 d) ∙ g))
            (λ is. subst (Contains (finmap.entries points)) (sym is) (entry_from_get pixel_cmp pixel_total pixel_same points p label some)) h,
      );
      fresh = λ k c. none_some k (sym gone ∙ get_from_entry pixel_cmp pixel_total pixel_same after (p, k) c);
    }

pub entries_apart : (points : PointMap) → Apart (finmap.entries points)
entries_apart points = Apart-rises (by_first pixel_cmp) (on_total (λ (e : Pixel × ℕ). e.0) pixel_total) (finmap.entries points) (Rises-entries pixel_cmp points)

-- ---- how many points a block holds
one_le : (s t : Bool) → (s ≡ true → t ≡ true) → cond s 1 0 ≤ cond t 1 0
one_le true true h = omega arith
one_le true false h = let e : true ≡ false = sym (h refl) in cc
one_le false t h = omega arith

pub occupancy_le : (points : PointMap) (a b : Block) → Within a b → occupancy points a ≤ occupancy points b
occupancy_le points a b w =
    sum_by-le-sum_by (λ e. cond (in_block a e.0) 1 0) (λ e. cond (in_block b e.0) 1 0) (finmap.entries points)
    (λ e. one_le (in_block a e.0) (in_block b e.0) (λ h. in_block-true b e.0 (Within-holds a b e.0 w (Holds-from a e.0 h))))

pub few_down : (n capacity : ℕ) (points : PointMap) → GoesDown n (holds_few capacity points)
few_down n capacity points = record {
  down = λ a b ha hb w u. let l = occupancy_le points a b w in let few = leb-true (occupancy points b) capacity u in
      le-leb (occupancy points a) capacity (omega arith);
}

one_pixel : (b : Block) → b.side ≡ 1 → (p q : Pixel) → in_block b p ≡ true → in_block b q ≡ true → p ≡ q
one_pixel b s p q hp hq =
    let ip = Holds-from b p hp in
    let iq = Holds-from b q hq in
    let a1 = ip.left in let a2 = ip.right in let a3 = ip.top in let a4 = ip.bottom in
    let b1 = iq.left in let b2 = iq.right in let b3 = iq.top in let b4 = iq.bottom in
    let ex : p.x ≡ q.x = omega arith in
    let ey : p.y ≡ q.y = omega arith in
    λ i. record { x = ex i; y = ey i }

pub few_pixel : (n capacity : ℕ) (points : PointMap) → 1 ≤ capacity → (b : Block) → IsBlock n b → b.side ≡ 1 → holds_few capacity points b ≡ true
few_pixel n capacity points least b hb s =
    let test : Pixel × ℕ → Bool = λ e. in_block b e.0 in
    let es = finmap.entries points in
    let most = few_if_one (filter test es) (Apart-filter test es (entries_apart points)) (λ d e c k.
    let w = Contains-filter_from test es d c in
    let v = Contains-filter_from test es e k in
    let x = one_pixel b s d.0 e.0 w.1 v.1 in
    let y = one_label points d.0 e.0 d.1 e.1 w.0 v.0 x in
    λ i. (x i, y i)) in
    let long = length-filter test es in
    le-leb (occupancy points b) capacity (omega arith)

module _ (small big : PointMap) (p : Pixel) (label : ℕ) (h : Comes small big p label) where
  -- one more where the block holds the pixel
  pub occupancy-more : (b : Block) → in_block b p ≡ true → occupancy big b ≡ occupancy small b + 1
  occupancy-more b on =
      let test : Pixel × ℕ → Bool = λ e. in_block b e.0 in
      let s = finmap.entries small in
      let g = finmap.entries big in
      let long = same_length (filter test g) ((p, label) ∷ filter test s) (Apart-filter test g (entries_apart big))
      (λ c. h.fresh label (Contains-filter_from test s (p, label) c).0, Apart-filter test s (entries_apart small))
      (λ e. (
        λ c.
            let w = Contains-filter_from test g e c in
            ⊎_elim (λ k. Contains-there (p, label) (filter test s) e (Contains-filter test s e k w.1))
            (λ is. subst (Contains ((p, label) ∷ filter test s)) (sym is) (Contains-here (p, label) (filter test s))) ((h.members e).0 w.0),
        λ c. ⊎_elim
            (λ is. let new : Pixel × ℕ = (p, label) in subst (Contains (filter test g)) is (Contains-filter test g new ((h.members new).1 (inr refl)) on))
            (λ k. let w = Contains-filter_from test s e k in Contains-filter test g e ((h.members e).1 (inl w.0)) w.1)
            (Contains-cons_cases (p, label) (filter test s) e c),
      )) in
      let ls = length-filter test s in
      let lg = length-filter test g in
      omega arith

  -- and as many elsewhere
  pub occupancy-same : (b : Block) → (Holds b p → ⊥) → occupancy big b ≡ occupancy small b
  occupancy-same b out =
      let test : Pixel × ℕ → Bool = λ e. in_block b e.0 in
      let s = finmap.entries small in
      let g = finmap.entries big in
      let long = same_length (filter test g) (filter test s) (Apart-filter test g (entries_apart big)) (Apart-filter test s (entries_apart small))
      (λ e. (
        λ c.
            let w = Contains-filter_from test g e c in
            ⊎_elim (λ k. Contains-filter test s e k w.1)
            (λ is. absurd (out (Holds-from b p (ap (λ (z : Pixel × ℕ). in_block b z.0) (sym is) ∙ w.1)))) ((h.members e).0 w.0),
        λ c. let w = Contains-filter_from test s e c in Contains-filter test g e ((h.members e).1 (inl w.0)) w.1,
      )) in
      let ls = length-filter test s in
      let lg = length-filter test g in
      omega arith

  pub few_narrows : (capacity : ℕ) → Narrows (holds_few capacity small) (holds_few capacity big) p
  few_narrows capacity = record {
    less = λ b u.
        let few = leb-true (occupancy big b) capacity u in
        ⊎_elim (λ t. let m = occupancy-more b t in le-leb (occupancy small b) capacity (omega arith))
        (λ f. let m = occupancy-same b (λ on. both_ways (in_block b p) f (in_block-true b p on)) in
        le-leb (occupancy small b) capacity (omega arith)) (cases_Bool (in_block b p));
    same = λ b out u.
        let few = leb-true (occupancy small b) capacity u in
        let m = occupancy-same b out in
        le-leb (occupancy big b) capacity (omega arith);
  }

  -- there is room for the point, or there is none
  pub room_passes : (capacity : ℕ) (b : Block) → Holds b p → occupancy small b < capacity → holds_few capacity big b ≡ true
  room_passes capacity b on lt = let m = occupancy-more b (in_block-true b p on) in le-leb (occupancy big b) capacity (omega arith)

  pub full_fails : (capacity : ℕ) (b : Block) → Holds b p → capacity ≤ occupancy small b → holds_few capacity big b ≡ false
  full_fails capacity b on full =
      let m = occupancy-more b (in_block-true b p on) in
      ⊎_elim (λ t. let few = leb-true (occupancy big b) capacity t in absurd (omega arith)) (λ f. f) (cases_Bool (holds_few capacity big b))
