-- The blocks that wait in the queue of a search by distance: how they come and go, and which pixels they hold.
use Rattle.std.proofs.Common.{◌≡◌, ℕ, ◌<◌, ◌≤◌, true, false, ◌⊎◌, inl, inr, ⊎_elim, List, [], ◌∷◌, ◌++◌, map, All, Contains, nat_lt, refl, sym, subst, arith}
use Rattle.std.proofs.Common.{max, ◌^◌, ltb-true, IsPermutation}
use Rattle.std.specs.FinMap as finmap
use Rattle.std.proofs.lemmas.Bool.{and_parts}
use Rattle.std.proofs.lemmas.List.Sorted.{Contains-permutation, IsPermutation-sym}
use Rattle.std.proofs.lemmas.List.Elements.{Contains-append_left, Contains-append_right, Contains-append_cases}
use Rattle.quilt_types.specs.Sets as finset
use Rattle.quilt_types.specs.declared.plane.Pixel.{Pixel}
use Rattle.quilt_types.specs.declared.plane.Block.{Block}
use Rattle.quilt_types.specs.declared.plane.Seg.{Seg}
use Rattle.quilt_types.specs.Plane.{is_pixel, quarters_of, whole, Holds, IsBlock}
use Rattle.quilt_types.specs.Layers.{is_in_square}
use Rattle.quilt_types.specs.Segments.{square_distance, block_distance}
use Rattle.quilt_types.specs.Quadtrees.{is_reached}
use Rattle.quilt_loc.proofs.Members.{Contains-nil, Contains-here, Contains-there, Contains-cons_cases, Contains-map, Contains-map_from}
use Rattle.quilt_loc.proofs.Quartered.{IsBlock-whole, Holds-whole, quarters_are}
use Rattle.quilt_near.specs.Lines.{Lines, IsLines}
use Rattle.quilt_near.specs.Nearness.{IsNearPixel}
use Rattle.quilt_near.specs.Choices.{placed_at}
use Rattle.quilt_near.proofs.Reached.{All-at, quarter_holding, reached_whole, reached_quarter}

-- a block of the square that holds blocks of the cover, with its distance
pub record Waits (n : ℕ) (p : Pixel) (l : Lines) (e : ℕ × Block) : Type 0 where
  pub block : IsBlock n e.1
  pub distance : e.0 ≡ block_distance p e.1
  pub reached : is_reached l.cover e.1 ≡ true

-- some block that waits holds the pixel
pub record IsHeld (queue : List (ℕ × Block)) (q : Pixel) : Type 0 where
  pub by : ℕ × Block
  pub listed : Contains queue by
  pub holds : Holds by.1 q

module _ {X : Type 0} (xs ys : List X) (h : IsPermutation xs ys) where
  to : (x : X) → Contains xs x → Contains ys x
  to x c = Contains-permutation xs ys x h c

  from : (x : X) → Contains ys x → Contains xs x
  from x c = Contains-permutation ys xs x (IsPermutation-sym xs ys h) c

below_side : (n : ℕ) (s : Seg) → is_in_square n s ≡ true → (max s.x1 s.x2 < 2 ^ n) × (max s.y1 s.y2 < 2 ^ n)
below_side n s h =
    let w = and_parts (is_pixel n (record { x = s.x1; y = s.y1 })) (is_pixel n (record { x = s.x2; y = s.y2 })) h in
    let a = and_parts (nat_lt s.x1 (2 ^ n)) (nat_lt s.y1 (2 ^ n)) w.0 in
    let b = and_parts (nat_lt s.x2 (2 ^ n)) (nat_lt s.y2 (2 ^ n)) w.1 in
    let x1 = ltb-true s.x1 (2 ^ n) a.0 in
    let y1 = ltb-true s.y1 (2 ^ n) a.1 in
    let x2 = ltb-true s.x2 (2 ^ n) b.0 in
    let y2 = ltb-true s.y2 (2 ^ n) b.1 in
    (omega arith, omega arith)

-- ---- what is so of the whole square is so of all that waits at first

module _ (P : ℕ × Block → Type 0) where
  -- the whole square waits alone
  pub all_first : (first : ℕ × Block) (queue : List (ℕ × Block)) → IsPermutation (first ∷ []) queue → P first → (z : ℕ × Block) → Contains queue z → P z
  all_first first queue h is z c =
      ⊎_elim (λ e. subst P e is) (λ d. absurd (Contains-nil z d)) (Contains-cons_cases first [] z (from (first ∷ []) queue h z c))

  -- a block came out
  pub all_rest : (queue rest : List (ℕ × Block)) (e : ℕ × Block) → IsPermutation queue (e ∷ rest) → ((z : ℕ × Block) → Contains queue z → P z)
      → (z : ℕ × Block) → Contains rest z → P z
  all_rest queue rest e h all z c = all z (from queue (e ∷ rest) h z (Contains-there e rest z c))

  -- its quarters came in its place
  pub all_split : (p : Pixel) (queue rest new : List (ℕ × Block)) (e : ℕ × Block) → IsPermutation queue (e ∷ rest)
      → IsPermutation (map (placed_at p) (quarters_of e.1) ++ rest) new → ((z : ℕ × Block) → Contains queue z → P z)
      → ((b : Block) → Contains (quarters_of e.1) b → P (placed_at p b)) → (z : ℕ × Block) → Contains new z → P z
  all_split p queue rest new e h h' all four z c =
      let pushed = map (placed_at p) (quarters_of e.1) in
      ⊎_elim (λ d. let m = Contains-map_from (placed_at p) (quarters_of e.1) z d in subst P m.2 (four m.0 m.1)) (λ d. all_rest queue rest e h all z d)
      (Contains-append_cases pushed rest z (from (pushed ++ rest) new h' z c))

-- the block that came out waited
pub came_out : (queue rest : List (ℕ × Block)) (e : ℕ × Block) → IsPermutation queue (e ∷ rest) → Contains queue e
came_out queue rest e h = from queue (e ∷ rest) h e (Contains-here e rest)

-- the block that comes out is no farther than any that waited
pub least_of_all : (queue rest : List (ℕ × Block)) (e : ℕ × Block) → IsPermutation queue (e ∷ rest) → All (λ z. e.0 ≤ z.0) rest → (z : ℕ × Block)
    → Contains queue z → e.0 ≤ z.0
least_of_all queue rest e h least z c =
    ⊎_elim (λ is_e. subst (λ (t : ℕ × Block). e.0 ≤ t.0) is_e (omega arith)) (λ d. All-at (λ (t : ℕ × Block). e.0 ≤ t.0) rest z least d)
    (Contains-cons_cases e rest z (to queue (e ∷ rest) h z c))

-- ---- the pixels that the waiting blocks hold

module _ (n : ℕ) (p : Pixel) (l : Lines) (is : IsLines n l) where
  -- the whole square waits alone, and holds each pixel where a segment is nearest
  pub waits_first : (queue : List (ℕ × Block)) → IsPermutation (placed_at p (whole n) ∷ []) queue → (z : ℕ × Block) → Contains queue z → Waits n p l z
  waits_first queue h =
      all_first (Waits n p l) (placed_at p (whole n)) queue h (record { block = IsBlock-whole n; distance = refl; reached = reached_whole n l is })

  pub held_first : (queue : List (ℕ × Block)) → IsPermutation (placed_at p (whole n) ∷ []) queue → (e : ℕ × Seg) → Contains (finmap.entries l.segs) e
      → (q : Pixel) → IsNearPixel p e.1 (square_distance p e.1) q → IsHeld queue q
  held_first queue h e c q near =
      let first = placed_at p (whole n) in
      let b = below_side n e.1 (All-at (λ (z : ℕ × Seg). is_in_square n z.1 ≡ true) (finmap.entries l.segs) e is.inside c) in
      let ix = near.in_x in let iy = near.in_y in
      record { by = first; listed = to (first ∷ []) queue h first (Contains-here first []); holds = Holds-whole n q (omega arith) (omega arith) }

  -- a block came out, and its quarters came in its place
  pub waits_split : (queue rest new : List (ℕ × Block)) (e : ℕ × Block) → ((z : ℕ × Block) → Contains queue z → Waits n p l z)
      → IsPermutation queue (e ∷ rest) → 1 < e.1.side → finset.contains l.cover e.1 ≡ false
      → IsPermutation (map (placed_at p) (quarters_of e.1) ++ rest) new → (z : ℕ × Block) → Contains new z → Waits n p l z
  waits_split queue rest new e waits h wide cut h' =
      let here = waits e (came_out queue rest e h) in
      all_split (Waits n p l) p queue rest new e h h' waits
      (λ b c. record {
        block = (quarters_are n e.1 b here.block wide c).block;
        distance = refl;
        reached = reached_quarter n l is e.1 b here.block wide here.reached cut c;
      })

-- a block came out: it holds the pixel, or another that waits does
pub held_rest : (queue rest : List (ℕ × Block)) (e : ℕ × Block) (q : Pixel) → IsPermutation queue (e ∷ rest) → IsHeld queue q → Holds e.1 q ⊎ IsHeld rest q
held_rest queue rest e q h held =
    ⊎_elim (λ is_e. inl (subst (λ (t : ℕ × Block). Holds t.1 q) (sym is_e) held.holds))
    (λ d. inr (record { by = held.by; listed = d; holds = held.holds }))
    (Contains-cons_cases e rest held.by (to queue (e ∷ rest) h held.by held.listed))

-- its quarters came in its place: what it held, one of them holds
pub held_split : (n : ℕ) (p : Pixel) (queue rest new : List (ℕ × Block)) (e : ℕ × Block) (q : Pixel) → IsBlock n e.1 → 1 < e.1.side
    → IsPermutation queue (e ∷ rest) → IsPermutation (map (placed_at p) (quarters_of e.1) ++ rest) new → IsHeld queue q → IsHeld new q
held_split n p queue rest new e q block wide h h' held =
    let four = map (placed_at p) (quarters_of e.1) in
    ⊎_elim
    (λ here.
    let r = quarter_holding n e.1 q block wide here in
    let b = placed_at p r.0 in
    record {
      by = b;
      listed = to (four ++ rest) new h' b (Contains-append_left four rest b (Contains-map (placed_at p) (quarters_of e.1) r.0 r.1));
      holds = r.2;
    })
    (λ on. record { by = on.by; listed = to (four ++ rest) new h' on.by (Contains-append_right four rest on.by on.listed); holds = on.holds })
    (held_rest queue rest e q h held)
