-- The maximal blocks that pass a test which each block within a passing one passes too: their laws.
use Rattle.std.proofs.Common.{◌≡◌, ℕ, zero, suc, ◌^◌, ◌<◌, ◌≤◌, Bool, true, false, cond, not, ◌||◌, ◌↔◌, List, [], ◌∷◌, flat_map, ⊎_elim, refl, sym, ◌∙◌, ap}
use Rattle.std.proofs.Common.{subst, arith, Contains, count_by, pow_pos, pow-suc, eq-eqb, eqb-true, lt-ltb, true≢false}
use Rattle.std.proofs.lemmas.Bool.{and_parts, and_from, or_cases, or_left, or_right, not-true, not_from_false, cases_Bool, cases_lt, both_ways}
use Rattle.std.proofs.lemmas.Nat.{pow_below}
use Rattle.quilt_types.specs.declared.plane.Pixel.{Pixel}
use Rattle.quilt_types.specs.declared.plane.Block.{Block}
use Rattle.quilt_types.specs.Plane.{is_pixel, blocks, in_block, parent_of, quarters_of, corner, whole, Holds, IsBlock, Within}
use Rattle.quilt_types.specs.Quadtrees.{is_whole, is_maximal, maximal_blocks}
use Rattle.quilt_blocks.specs.Cutting.{cut}
use Rattle.quilt_loc.proofs.Members.{Contains-here, Contains-nil, Contains-cons_cases, Contains-filter, Contains-filter_from, Contains-flat_map}
use Rattle.quilt_loc.proofs.Members.{Contains-flat_map_from}
use Rattle.quilt_loc.proofs.Once.{once_some, once_same}
use Rattle.quilt_loc.proofs.Around.{IsBlock-around, Holds-around}
use Rattle.quilt_loc.proofs.Blocks.{Holds-from, in_block-true, IsBlock-from, Contains-blocks}
use Rattle.quilt_loc.proofs.Nesting.{around, Within-holds, Within-trans, Holds-corner, nested, same_block_from, twice_le, parent_within, side_pos}
use Rattle.quilt_loc.proofs.Nesting.{IsBlock-parent_of, Within-parent_of}
use Rattle.quilt_loc.proofs.Quartered.{IsQuarter, quarters_are, is_quarter, side_le, IsBlock-whole, Within-whole}

-- a maximal block, in words
pub record IsMaximal (n : ℕ) (fits : Block → Bool) (b : Block) : Type 0 where
  pub block : IsBlock n b
  pub passes : fits b ≡ true
  pub last : b.side < 2 ^ n → fits (parent_of b) ≡ true → ⊥

-- the blocks within a passing one pass
pub record GoesDown (n : ℕ) (fits : Block → Bool) : Type 0 where
  pub down : (a b : Block) → IsBlock n a → IsBlock n b → Within a b → fits b ≡ true → fits a ≡ true

-- blocks of which exactly one holds each pixel, that pass, and of which no four are the quarters of a block that passes
pub record IsTiling (n : ℕ) (fits : Block → Bool) (tiles : List Block) : Type 0 where
  pub blocks_only : (b : Block) → Contains tiles b → Contains (blocks n) b
  pub passing : (b : Block) → Contains tiles b → fits b ≡ true
  pub cover : (p : Pixel) → is_pixel n p ≡ true → count_by (λ b. in_block b p) tiles ≡ 1
  pub unmerged : (b : Block) → Contains (blocks n) b → fits b ≡ true → ((q : Block) → Contains (quarters_of b) q → Contains tiles q) → ⊥

pub Within-self : (b : Block) → Within b b
Within-self b = record { left = omega arith; right = omega arith; top = omega arith; bottom = omega arith }

room : (n k : ℕ) (b : Block) → IsBlock n b → b.side ≡ 2 ^ suc k → suc k ≤ n
room n k b hb s = ⊎_elim (λ lt. let top = side_le n b hb in let w = pow_below n (suc k) lt in absurd (omega arith)) (λ e. e) (cases_lt n (suc k))

-- the quarter that holds a smaller block
pub quarter_with : (n k : ℕ) (a b : Block) → IsBlock n a → IsBlock n b → b.side ≡ 2 ^ suc k → a.side < b.side → Within a b
    → (r : Block) × Contains (quarters_of b) r × Within a r
quarter_with n k a b ha hb e lt w =
    let r = around (2 ^ k) (corner a) in
    let le = room n k b hb e in
    let hr = IsBlock-around n k (corner a) (omega arith) ha.in_x ha.in_y in
    let on = Holds-around k (corner a) in
    let ca = Holds-corner n a ha in
    let cb = Within-holds a b (corner a) w ca in
    let p2 = pow-suc 2 k in
    let twice = twice_le n a b ha hb lt in
    (r, is_quarter n b r hb hr (omega arith) (nested n r b (corner a) hr hb (omega arith) on cb), nested n a r (corner a) ha hr (omega arith) ca on)

module _ (n : ℕ) (fits : Block → Bool) where
  pub IsMaximal-from : (b : Block) → Contains (maximal_blocks n fits) b → IsMaximal n fits b
  unfolding maximal_blocks
  IsMaximal-from b c =
      let kept = Contains-filter_from (is_maximal n fits) (blocks n) b c in
      let both = and_parts (fits b) (is_whole n b || not (fits (parent_of b))) kept.1 in
      record {
        block = IsBlock-from n b kept.0;
        passes = both.0;
        last = λ lt u. ⊎_elim (λ w. let same = eqb-true b.side (2 ^ n) w in absurd (omega arith))
            (λ w. true≢false (sym u ∙ not-true (fits (parent_of b)) w)) (or_cases (is_whole n b) (not (fits (parent_of b))) both.1);
      }

  pub Contains-maximal : (b : Block) → IsMaximal n fits b → Contains (maximal_blocks n fits) b
  unfolding maximal_blocks
  Contains-maximal b l =
      let top = side_le n b l.block in
      let big : (is_whole n b || not (fits (parent_of b))) ≡ true =
      ⊎_elim
      (λ lt. or_right (is_whole n b) (not (fits (parent_of b)))
      (⊎_elim (λ t. absurd (l.last lt t)) (λ f. not_from_false (fits (parent_of b)) f) (cases_Bool (fits (parent_of b)))))
      (λ ge. or_left (is_whole n b) (not (fits (parent_of b))) (eq-eqb b.side (2 ^ n) (omega arith)))
      (cases_lt b.side (2 ^ n)) in
      Contains-filter (is_maximal n fits) (blocks n) b (Contains-blocks n b l.block) (and_from (fits b) (is_whole n b || not (fits (parent_of b))) l.passes big)

  module _ (goes : GoesDown n fits) where
    -- a passing block is the only maximal one within it
    pub alone : (a b : Block) → IsMaximal n fits a → IsBlock n b → fits b ≡ true → Within a b → a ≡ b
    alone a b ga hb u w =
        let ha = ga.block in
        let ca = Holds-corner n a ha in
        let cb = Within-holds a b (corner a) w ca in
        let top = side_le n b hb in
        let wl = w.left in
        let wr = w.right in
        ⊎_elim (λ lt.
        let v = parent_within n a b (corner a) ha hb lt top ca cb in
        let small : a.side < 2 ^ n = omega arith in
        absurd (ga.last small (goes.down (parent_of a) b (IsBlock-parent_of n a ha small) hb v u)))
        (λ ge. same_block_from n a b (corner a) ha hb (omega arith) ca cb) (cases_lt a.side b.side)

    -- ---- the recursion over quarters
    one_from : (b : Block) → IsMaximal n fits b → (e : Block) → Contains (b ∷ []) e → IsMaximal n fits e × Within e b
    one_from b gb e c =
        let is = ⊎_elim (λ q. q) (λ none. absurd (Contains-nil e none)) (Contains-cons_cases b [] e c) in
        subst (λ (z : Block). IsMaximal n fits z × Within z b) is (gb, Within-self b)

    one_is : (b : Block) → IsMaximal n fits b → (e : Block) → IsMaximal n fits e × Within e b → Contains (b ∷ []) e
    one_is b gb e l = subst (Contains (b ∷ [])) (sym (alone e b l.0 gb.block gb.passes l.1)) (Contains-here b [])

    smaller : (b : Block) → IsBlock n b → fits b ≡ false → (e : Block) → IsMaximal n fits e → Within e b → e.side < b.side
    smaller b hb f e ge' w =
        let he = ge'.block in
        let ce = Holds-corner n e he in
        let wl = w.left in
        let wr = w.right in
        ⊎_elim (λ lt. lt) (λ ge.
        let is = same_block_from n e b (corner e) he hb (omega arith) ce (Within-holds e b (corner e) w ce) in
        absurd (both_ways (fits b) f (ap fits (sym is) ∙ ge'.passes))) (cases_lt e.side b.side)

    cut_step : (k : ℕ) (b : Block) → IsBlock n b → b.side ≡ 2 ^ suc k → (b.side < 2 ^ n → fits (parent_of b) ≡ true → ⊥) → (e : Block)
        → ((r : Block) → IsBlock n r → r.side ≡ 2 ^ k → (r.side < 2 ^ n → fits (parent_of r) ≡ true → ⊥) → Contains (cut fits k r) e
        ↔ (IsMaximal n fits e × Within e r))
        → (t : Bool) → fits b ≡ t → Contains (cond t (b ∷ []) (flat_map (cut fits k) (quarters_of b))) e ↔ (IsMaximal n fits e × Within e b)
    cut_step k b hb s great e law true u =
        let gb : IsMaximal n fits b = record { block = hb; passes = u; last = great } in
        (one_from b gb e, one_is b gb e)
    cut_step k b hb s great e law false f =
        let p2 = pow-suc 2 k in
        let pos = pow_pos k in
        let wide : 1 < b.side = omega arith in
        let below =
        λ (r : Block) (q : IsQuarter n b r) (lt : r.side < 2 ^ n) (u : fits (parent_of r) ≡ true). both_ways (fits b) f (ap fits (sym q.parent) ∙ u) in
        let at = λ (r : Block) (q : IsQuarter n b r). let half = q.half in law r q.block (omega arith) (below r q) in (
          (λ c.
              let r = Contains-flat_map_from (cut fits k) (quarters_of b) e c in
              let q = quarters_are n b r.0 hb wide r.1 in
              let l = (at r.0 q).0 r.2 in
              (l.0, Within-trans e r.0 b l.1 q.within)),
          (λ l.
              let r = quarter_with n k e b (l.0).block hb s (smaller b hb f e l.0 l.1) l.1 in
              let q = quarters_are n b r.0 hb wide r.1 in
              Contains-flat_map (cut fits k) (quarters_of b) r.0 e r.1 ((at r.0 q).1 (l.0, r.2))),
        )

    module _ (pixel : (b : Block) → IsBlock n b → b.side ≡ 1 → fits b ≡ true) where
      pub cut_law : (k : ℕ) (b : Block) → IsBlock n b → b.side ≡ 2 ^ k → (b.side < 2 ^ n → fits (parent_of b) ≡ true → ⊥) → (e : Block)
          → Contains (cut fits k b) e ↔ (IsMaximal n fits e × Within e b)
      cut_law zero b hb s great e =
          let gb : IsMaximal n fits b = record { block = hb; passes = pixel b hb s; last = great } in
          (one_from b gb e, one_is b gb e)
      cut_law (suc k) b hb s great e = cut_step k b hb s great e (λ r hr sr gr. cut_law k r hr sr gr e) (fits b) refl

      pub cut_is : (b : Block) → Contains (cut fits n (whole n)) b ↔ Contains (maximal_blocks n fits) b
      cut_is b =
          let law = cut_law n (whole n) (IsBlock-whole n) refl (λ lt u. omega arith) b in
          (λ c. Contains-maximal b (law.0 c).0, λ c. let l = IsMaximal-from b c in law.1 (l, Within-whole n b l.block))

    -- ---- tilings
    module _ (tiles : List Block) (t : IsTiling n fits tiles) where
      block_is : (b : Block) → Contains tiles b → IsBlock n b
      block_is b c = IsBlock-from n b (t.blocks_only b c)

      tile_at : (p : Pixel) → p.x < 2 ^ n → p.y < 2 ^ n → (b : Block) × Contains tiles b × Holds b p
      tile_at p hx hy =
          let r = once_some (λ b. in_block b p) tiles (t.cover p (and_from _ _ (lt-ltb _ _ hx) (lt-ltb _ _ hy))) in
          (r.0, r.1, Holds-from r.0 p r.2)

      tile_same : (p : Pixel) → p.x < 2 ^ n → p.y < 2 ^ n → (a b : Block) → Contains tiles a → Holds a p → Contains tiles b → Holds b p → a ≡ b
      tile_same p hx hy a b ca ha cb hb =
          once_same (λ b. in_block b p) tiles a b (t.cover p (and_from _ _ (lt-ltb _ _ hx) (lt-ltb _ _ hy))) ca (in_block-true a p ha) cb (in_block-true b p hb)

      -- no tile that shares a pixel with q is larger
      record Tops (q : Block) : Type 0 where
        most : (e : Block) → Contains tiles e → (p : Pixel) → Holds e p → Holds q p → e.side ≤ q.side

      split : (q : Block) → IsBlock n q → fits q ≡ true → ((r : Block) → IsQuarter n q r → Tops r → Contains tiles r) → Tops q → (d : Block)
          → Contains tiles d → Holds d (corner q) → d.side < q.side → ⊥
      split q hq u part m d cd hd lt =
          let pos = side_pos n d (block_is d cd) in
          t.unmerged q (Contains-blocks n q hq) u (λ r mr.
          let qr = quarters_are n q r hq (omega arith) mr in
          let half = qr.half in
          part r qr (record {
            most = λ f cf p hf hp.
                let inside = Within-holds r q p qr.within hp in
                let small = m.most f cf p hf inside in
                ⊎_elim (λ gt.
                let twice = twice_le n r f qr.block (block_is f cf) gt in
                let same : f.side ≡ q.side = omega arith in
                let is = same_block_from n f q p (block_is f cf) hq same hf inside in
                let on : Holds f (corner q) = subst (λ (z : Block). Holds z (corner q)) (sym is) (Holds-corner n q hq) in
                let one = tile_same (corner q) hq.in_x hq.in_y f d cf on cd hd in
                let sides : f.side ≡ d.side = ap (λ (z : Block). z.side) one in
                absurd (omega arith)) (λ le. le) (cases_lt r.side f.side);
          }))

      whole_tile : (q : Block) → IsBlock n q → (d : Block) → Contains tiles d → Holds d (corner q) → d.side ≡ q.side → Contains tiles q
      whole_tile q hq d cd hd e = subst (Contains tiles) (same_block_from n d q (corner q) (block_is d cd) hq e hd (Holds-corner n q hq)) cd

      -- a passing block with no larger tile on it is a tile
      filled : (k : ℕ) (q : Block) → IsBlock n q → q.side ≡ 2 ^ k → fits q ≡ true → Tops q → Contains tiles q
      filled zero q hq e u m =
          let d = tile_at (corner q) hq.in_x hq.in_y in
          let le = m.most d.0 d.1 (corner q) d.2 (Holds-corner n q hq) in
          let pos = side_pos n d.0 (block_is d.0 d.1) in
          whole_tile q hq d.0 d.1 d.2 (omega arith)
      filled (suc k) q hq e u m =
          let d = tile_at (corner q) hq.in_x hq.in_y in
          let le = m.most d.0 d.1 (corner q) d.2 (Holds-corner n q hq) in
          let p2 = pow-suc 2 k in
          ⊎_elim
          (λ lt. absurd (split q hq u (λ r qr mr. let half = qr.half in filled k r qr.block (omega arith) (goes.down r q qr.block hq qr.within u) mr)
          m d.0 d.1 d.2 lt))
          (λ ge. whole_tile q hq d.0 d.1 d.2 (omega arith)) (cases_lt (d.0).side q.side)

      maximal-from_tile : (b : Block) → Contains tiles b → Contains (maximal_blocks n fits) b
      maximal-from_tile b c =
          let hb = block_is b c in
          Contains-maximal b (record {
            block = hb;
            passes = t.passing b c;
            last = λ lt u.
                let q = parent_of b in
                let hq = IsBlock-parent_of n b hb lt in
                let w = Within-parent_of n b hb lt in
                let on = Holds-corner n b hb in
                let pos = side_pos n b hb in
                let tq = filled hq.level q hq hq.size u (record {
                  most = λ f cf p hf hp. ⊎_elim (λ gt.
                      let v = nested n q f p hq (block_is f cf) (omega arith) hp hf in
                      let one = tile_same (corner b) hb.in_x hb.in_y f b cf (Within-holds q f (corner b) v (Within-holds b q (corner b) w on)) c on in
                      let sides : f.side ≡ b.side = ap (λ (z : Block). z.side) one in
                      absurd (omega arith)) (λ le. le) (cases_lt q.side f.side);
                }) in
                let one = tile_same (corner b) hb.in_x hb.in_y q b tq (Within-holds b q (corner b) w on) c on in
                let sides : q.side ≡ b.side = ap (λ (z : Block). z.side) one in
                omega arith;
          })

      tile-from_maximal : (b : Block) → Contains (maximal_blocks n fits) b → Contains tiles b
      tile-from_maximal b c =
          let l = IsMaximal-from b c in
          let hb = l.block in
          filled hb.level b hb hb.size l.passes (record {
            most = λ f cf p hf hp. ⊎_elim (λ gt.
                let hf' = block_is f cf in
                let top = side_le n f hf' in
                let w = parent_within n b f p hb hf' gt top hp hf in
                let lt : b.side < 2 ^ n = omega arith in
                absurd (l.last lt (goes.down (parent_of b) f (IsBlock-parent_of n b hb lt) hf' w (t.passing f cf)))) (λ le. le) (cases_lt b.side f.side);
          })

      -- a tiling that cannot be merged has exactly the maximal blocks
      pub maximal_are : (b : Block) → Contains tiles b ↔ Contains (maximal_blocks n fits) b
      maximal_are b = (maximal-from_tile b, tile-from_maximal b)
