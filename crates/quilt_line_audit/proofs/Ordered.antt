-- The blocks of a cover in the order of their codes: they are those of its set, and their pairs are what the square begins with.
use Rattle.std.proofs.Common.{◌≡◌, ◌↔◌, ℕ, ◌+◌, ◌/◌, ◌<◌, ◌≤◌, Bool, true, false, cond, List, [], ◌∷◌, ◌++◌, flat_map, get_or, refl, sym, subst, inl, inr}
use Rattle.std.proofs.Common.{⊎_elim, arith, Contains, pow-suc, pow_pos}
use Rattle.std.specs.FinMap as finmap
use Rattle.std.proofs.lemmas.Bool.{cases_lt}
use Rattle.quilt_types.specs.Sets as finset
use Rattle.quilt_types.specs.declared.plane.Block.{Block}
use Rattle.quilt_types.specs.declared.plane.Pixel.{Pixel}
use Rattle.quilt_types.specs.declared.plane.Seg.{Seg}
use Rattle.quilt_types.specs.Plane.{side, corner, quarters_of, whole, IsBlock, Holds, Within}
use Rattle.quilt_types.specs.Layers.{BlockSet}
use Rattle.quilt_loc.proofs.Members.{Contains-here}
use Rattle.quilt_loc.proofs.Nesting.{Within-holds, Holds-corner, nested, twice_le, side_pos}
use Rattle.quilt_loc.proofs.Quartered.{quarters_are, IsBlock-whole, Within-whole}
use Rattle.quilt_blocks.proofs.Maximal.{Within-self}
use Rattle.quilt_line_laws.specs.Merging.{blocks_in}
use Rattle.quilt_line_laws.proofs.Descent.{only, same_size, quarterly, one_old, off, held}
use Rattle.quilt_line_laws.proofs.Merges.{IsBlockCover}
use Rattle.quilt_line_audit.specs.declared.pair.Pair.{Pair}
use Rattle.quilt_line_audit.specs.Pairs.{pairs_on, EachInTurn, BeginsWithPairs}
use Rattle.quilt_line_audit.proofs.Begins.{quarter_side}
use Rattle.quilt_line_audit.proofs.Cuts.{AreIn, one_block, four_blocks, on_join, on_one}

-- no segment: what the laws of a set of blocks ask for says nothing of it
abbrev no_seg : Seg
no_seg = record { y2 = 0; x2 = 0; y1 = 0; x1 = 0 }

many_sides : (k : ℕ) (b : Block) → b.side ≡ side (ℕ.suc k) → 1 < b.side
many_sides k b e = let p = pow-suc 2 k in let q = pow_pos k in omega arith

-- ---- which blocks these are
module _ (n : ℕ) (cover : BlockSet) (h : IsBlockCover n cover) where
  abbrev Old : Block → Type 0
  Old q = Contains (finset.items cover) q

  -- each block of the set that has a pixel of the square lies in it
  abbrev pub IsApart : Block → Type 0
  IsApart b = (c : Block) (p : Pixel) → Old c → Holds c p → Holds b p → Within c b

  tiny : (b q : Block) → IsBlock n b → b.side ≡ side 0 → IsApart b → Contains (b ∷ []) q ↔ (Within q b × Old q)
  tiny b q hb e apart =
      let ix = hb.in_x in
      let iy = hb.in_y in
      let on = Holds-corner n b hb in
      let c = h.covers.holder (corner b) ix iy in
      let hc = h.only c.0 c.1 in
      let pos = side_pos n c.0 hc in
      let same = same_size n c.0 b hc hb (apart c.0 (corner b) c.1 c.2 on) (omega arith) in
      let here = subst Old same c.1 in (
        λ m. let is = only b q m in (subst (λ (z : Block). Within z b) is (Within-self b), subst Old is here),
        λ w.
            let hq = h.only q w.1 in
            let posq = side_pos n q hq in
            subst (Contains (b ∷ [])) (sym (same_size n q b hq hb w.0 (omega arith))) (Contains-here b []),
      )

  -- what is apart from the others in a square is so in its quarters, where it is none of the set
  quarter_apart : (k : ℕ) (b r : Block) → IsBlock n b → b.side ≡ side (ℕ.suc k) → (Old b → ⊥) → IsApart b → Contains (quarters_of b) r → IsApart r
  quarter_apart k b r hb e away apart m c p co hcp hrp =
      let q = quarters_are n b r hb (many_sides k b e) m in
      let half = q.half in
      let hc = h.only c co in
      let w = apart c p co hcp (Within-holds r b p q.within hrp) in
      let small = ⊎_elim (λ lt. twice_le n c b hc hb lt) (λ ge. absurd (away (subst Old (same_size n c b hc hb w ge) co))) (cases_lt c.side b.side) in
      nested n c r p hc q.block (omega arith) hcp hrp

  in_step : (k : ℕ) (b q : Block) → IsBlock n b → b.side ≡ side (ℕ.suc k) → IsApart b
      → ((r : Block) → IsBlock n r → r.side ≡ side k → IsApart r → Contains (blocks_in cover k r) q ↔ (Within q r × Old q))
      → (u : Bool) → finset.contains cover b ≡ u → Contains (cond {A = List Block} u (b ∷ []) (flat_map (blocks_in cover k) (quarters_of b))) q
      ↔ (Within q b × Old q)
  in_step k b q hb e apart below true u =
      let cb = held n 0 finmap.empty cover no_seg h b u in (
        λ c. subst (λ (z : Block). Within z b × Old z) (only b q c) (Within-self b, cb),
        λ w. subst (Contains (b ∷ [])) (sym (one_old n 0 finmap.empty cover no_seg h q b w.1 cb w.0)) (Contains-here b []),
      )
  in_step k b q hb e apart below false u =
      let away = λ (c : Old b). off n 0 finmap.empty cover no_seg h b b u c refl in
      quarterly n 0 finmap.empty cover no_seg h k b q (blocks_in cover k) Old hb e (λ c. h.only q c)
      (λ c same. off n 0 finmap.empty cover no_seg h b q u c same)
      (λ r c hr er _. below r hr er (quarter_apart k b r hb e away apart c))

  in_law : (k : ℕ) (b q : Block) → IsBlock n b → b.side ≡ side k → IsApart b → Contains (blocks_in cover k b) q ↔ (Within q b × Old q)
  in_law ℕ.zero b q hb e apart = tiny b q hb e apart
  in_law (ℕ.suc k) b q hb e apart = in_step k b q hb e apart (λ r hr er a. in_law k r q hr er a) (finset.contains cover b) refl

  abbrev pub ordered : List Block
  ordered = blocks_in cover n (whole n)

  pub ordered_are : (q : Block) → Contains ordered q ↔ Old q
  ordered_are q =
      let w = in_law n (whole n) q (IsBlock-whole n) refl (λ c p co _ _. Within-whole n c (h.only c co)) in
      (λ c. (w.0 c).1, λ c. w.1 (Within-whole n q (h.only q c), c))

-- ---- in which order they stand
module _ (n : ℕ) (le : n ≤ 12) (cover : BlockSet) where
  order_step : (k : ℕ) (b : Block) → IsBlock n b → b.side ≡ side (ℕ.suc k) → ((r : Block) → IsBlock n r → r.side ≡ side k → AreIn n r (blocks_in cover k r))
      → (u : Bool) → AreIn n b (cond {A = List Block} u (b ∷ []) (flat_map (blocks_in cover k) (quarters_of b)))
  order_step k b hb e below true = one_block n b hb
  order_step k b hb e below false =
      let u = b.side / 2 in
      let q = λ (x y : ℕ). let r : Block = record { x = x; y = y; side = u } in r in
      let many = many_sides k b e in
      let part = λ (i : ℕ) (lt : i < 4) (r : Block) (is : get_or (quarters_of b) i r ≡ r). below r (quarters_are n b r hb many (i, lt, is)).block
      (quarter_side k b r e (i, lt, is)) in
      four_blocks n b le hb many (q b.x b.y) (q (b.x + u) b.y) (q b.x (b.y + u)) (q (b.x + u) (b.y + u)) refl
      (blocks_in cover k (q b.x b.y)) (blocks_in cover k (q (b.x + u) b.y)) (blocks_in cover k (q b.x (b.y + u))) (blocks_in cover k (q (b.x + u) (b.y + u)))
      (part 0 (omega arith) (q b.x b.y) refl) (part 1 (omega arith) (q (b.x + u) b.y) refl) (part 2 (omega arith) (q b.x (b.y + u)) refl)
      (part 3 (omega arith) (q (b.x + u) (b.y + u)) refl)

  in_order : (k : ℕ) (b : Block) → IsBlock n b → b.side ≡ side k → AreIn n b (blocks_in cover k b)
  in_order ℕ.zero b hb e = one_block n b hb
  in_order (ℕ.suc k) b hb e = order_step k b hb e (λ r hr er. in_order k r hr er) (finset.contains cover b)

  pub ordered_in : AreIn n (whole n) (blocks_in cover n (whole n))
  ordered_in = in_order n (whole n) (IsBlock-whole n) refl

-- ---- what the pairs begin with
module _ (segs : List (ℕ × Seg)) where
  turn_from : (k : ℕ) (f : Block → List Block) → ((q : Block) (rest : List Pair) → BeginsWithPairs segs k q (flat_map (pairs_on segs) (f q) ++ rest) rest)
      → (qs : List Block) (rest : List Pair) → EachInTurn (BeginsWithPairs segs k) qs (flat_map (pairs_on segs) (flat_map f qs) ++ rest) rest
  turn_from k f here [] rest = refl
  turn_from k f here (q ∷ qs) rest =
      let behind = flat_map (pairs_on segs) (flat_map f qs) ++ rest in (
        behind,
        subst (λ (l : List Pair). BeginsWithPairs segs k q l behind) (sym (on_join segs (f q) (flat_map f qs) rest)) (here q behind),
        turn_from k f here qs rest,
      )

  begins_step : (cover : BlockSet) (k : ℕ) (b : Block) (rest : List Pair)
      → ((q : Block) (more : List Pair) → BeginsWithPairs segs k q (flat_map (pairs_on segs) (blocks_in cover k q) ++ more) more)
      → (u : Bool) → BeginsWithPairs segs (ℕ.suc k) b
      (flat_map (pairs_on segs) (cond {A = List Block} u (b ∷ []) (flat_map (blocks_in cover k) (quarters_of b))) ++ rest) rest
  begins_step cover k b rest below true = inl (on_one segs b rest)
  begins_step cover k b rest below false = inr (turn_from k (blocks_in cover k) below (quarters_of b) rest)

  pub begins_in : (cover : BlockSet) (k : ℕ) (b : Block) (rest : List Pair) → BeginsWithPairs segs k b (flat_map (pairs_on segs) (blocks_in cover k b) ++ rest) rest
  begins_in cover ℕ.zero b rest = on_one segs b rest
  begins_in cover (ℕ.suc k) b rest = begins_step cover k b rest (λ q more. begins_in cover k q more) (finset.contains cover b)
