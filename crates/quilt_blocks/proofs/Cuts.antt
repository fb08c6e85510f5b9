-- What the recursion over quarters gives: blocks that follow one another, and in it exactly the leaves.
use Rattle.std.proofs.Common.{◌≡◌, ℕ, zero, suc, ◌+◌, ◌*◌, ◌/◌, ◌^◌, ◌<◌, ◌≤◌, ◌↔◌, Bool, true, false, cond, List, [], ◌∷◌, ◌++◌, map, get_or, flat_map, refl}
use Rattle.std.proofs.Common.{sym, ap, subst, arith, Contains, pow-suc, pow_pos}
use Rattle.std.specs.Cmp.{IsTotalOrder, nat_cmp_total, on_total}
use Rattle.std.proofs.lemmas.List.{map-append}
use Rattle.quilt_types.specs.declared.plane.Block.{Block}
use Rattle.quilt_types.specs.Plane.{corner, whole, quarters_of, IsBlock}
use Rattle.quilt_types.specs.Layers.{Grid, colour_at}
use Rattle.quilt_types.specs.Quadtrees.{is_uniform, coloured, leaves, maximal_blocks}
use Rattle.quilt_types.specs.Codes.{code}
use Rattle.quilt_loc.specs.Codes.{code_from, code_to, Rises}
use Rattle.quilt_loc.proofs.Members.{Contains-map_from}
use Rattle.quilt_loc.proofs.Quartered.{IsBlock-whole, quarters_are}
use Rattle.quilt_loc.proofs.Intervals.{side_squared, quarter_codes, origin_code}
use Rattle.quilt_loc.proofs.Rising.{same_rising}
use Rattle.quilt_blocks.specs.Cutting.{cut, leaves_by_code, leaf_cmp}
use Rattle.quilt_blocks.specs.Mosaic.{HasColour}
use Rattle.quilt_blocks.specs.Walk.{pixel_count}
use Rattle.quilt_blocks.specs.Listing.{Follows}
use Rattle.quilt_blocks.proofs.Colours.{HasColour-from_uniform}
use Rattle.quilt_blocks.proofs.Maximal.{IsMaximal, IsMaximal-from}
use Rattle.quilt_blocks.proofs.Leaves.{cut_leaves}
use Rattle.quilt_blocks.proofs.Chains.{size_of-nil, size_of-cons, size_of-append, Follows-append, Follows-rises}

-- coloured blocks from one code up to another
pub record Runs (n : ℕ) (first end : ℕ) (es : List (Block × ℕ)) : Type 0 where
  pub follows : Follows n first es
  pub size : first + pixel_count es ≡ end

pub Runs-append : (n a b c : ℕ) (xs ys : List (Block × ℕ)) → Runs n a b xs → Runs n b c ys → Runs n a c (xs ++ ys)
Runs-append n a b c xs ys h k =
    let s = size_of-append xs ys in
    let hs = h.size in
    let ks = k.size in
    record { follows = Follows-append n a xs ys h.follows (subst (λ (z : ℕ). Follows n z ys) (sym hs) k.follows); size = omega arith }

pub Runs-nil : (n a : ℕ) → Runs n a a []
Runs-nil n a = let z = size_of-nil in record { follows = tt; size = omega arith }

pub Runs-one : (n : ℕ) (b : Block) (c : ℕ) → IsBlock n b → Runs n (code_from b) (code_to b) ((b, c) ∷ [])
Runs-one n b c h =
    let z = size_of-nil in
    let s = size_of-cons (b, c) [] in
    record { follows = (h, refl, tt); size = omega arith }

pub Runs-at : (n a b c d : ℕ) (es : List (Block × ℕ)) → Runs n a b es → a ≡ c → b ≡ d → Runs n c d es
Runs-at n a b c d es h e f = subst (λ (z : ℕ). Runs n z d es) e (subst (λ (z : ℕ). Runs n a z es) f h)

four_maps : {X Y : Type 0} (f : X → Y) (a b c d : List X) → map f (a ++ (b ++ (c ++ (d ++ [])))) ≡ map f a ++ (map f b ++ (map f c ++ (map f d ++ [])))
four_maps f a b c d = simp map-append

module _ (n : ℕ) (g : Grid) (le : n ≤ 12) (fits : Block → Bool) where
  abbrev found : ℕ → Block → List (Block × ℕ)
  found k b = map (coloured n g) (cut fits k b)

  run_step : (k : ℕ) (b : Block) → IsBlock n b → b.side ≡ 2 ^ suc k → suc k ≤ n
      → ((r : Block) → IsBlock n r → r.side ≡ 2 ^ k → Runs n (code_from r) (code_to r) (found k r))
      → (t : Bool) → Runs n (code_from b) (code_to b) (map (coloured n g) (cond t (b ∷ []) (flat_map (cut fits k) (quarters_of b))))
  run_step k b h s room law true = Runs-one n b (colour_at n g (corner b)) h
  run_step k b h s room law false =
      let p2 = pow-suc 2 k in
      let pos = pow_pos k in
      let half : b.side / 2 ≡ 2 ^ k = omega arith in
      let q : (x y : ℕ) → Block = λ x y. record { x = x; y = y; side = b.side / 2 } in
      let codes = quarter_codes n k b h s (omega arith) in
      let c1 = codes.right in
      let c2 = codes.below in
      let c3 = codes.across in
      let c4 = codes.all in
      let u = b.side / 2 in
      let square : u * u ≡ 2 ^ k * 2 ^ k = ap (λ z. z * z) half in
      let x = b.x in
      let y = b.y in
      let part = λ (j : ℕ) (lt : j < 4) (r : Block) (e : get_or (quarters_of b) j r ≡ r).
      let c : Contains (quarters_of b) r = (j, lt, e) in let i = quarters_are n b r h (omega arith) c in let f = i.half in law r i.block (omega arith) in
      let r0 = part 0 (omega arith) (q x y) refl in
      let r1 = part 1 (omega arith) (q (x + u) y) refl in
      let r2 = part 2 (omega arith) (q x (y + u)) refl in
      let r3 = part 3 (omega arith) (q (x + u) (y + u)) refl in
      let e1 : code (x + u) y ≡ code (x + 2 ^ k) y = ap (λ z. code (x + z) y) half in
      let e2 : code x (y + u) ≡ code x (y + 2 ^ k) = ap (λ z. code x (y + z)) half in
      let e3 : code (x + u) (y + u) ≡ code (x + 2 ^ k) (y + 2 ^ k) = ap (λ z. code (x + z) (y + z)) half in
      let a0 = Runs-at n (code_from b) (code_to (q x y)) (code_from b) (code (x + u) y) (found k (q x y)) r0 refl (omega arith) in
      let a1 = Runs-at n (code (x + u) y) (code_to (q (x + u) y)) (code (x + u) y) (code x (y + u)) (found k (q (x + u) y)) r1 refl (omega arith) in
      let a2 = Runs-at n (code x (y + u)) (code_to (q x (y + u))) (code x (y + u)) (code (x + u) (y + u)) (found k (q x (y + u))) r2 refl (omega arith) in
      let a3 = Runs-at n (code (x + u) (y + u)) (code_to (q (x + u) (y + u))) (code (x + u) (y + u)) (code_to b)
      (found k (q (x + u) (y + u))) r3 refl (omega arith) in
      let last = Runs-append n (code (x + u) (y + u)) (code_to b) (code_to b) (found k (q (x + u) (y + u))) [] a3 (Runs-nil n (code_to b)) in
      let third = Runs-append n (code x (y + u)) (code (x + u) (y + u)) (code_to b) (found k (q x (y + u))) (found k (q (x + u) (y + u)) ++ []) a2 last in
      let second = Runs-append n (code (x + u) y) (code x (y + u)) (code_to b) (found k (q (x + u) y))
      (found k (q x (y + u)) ++ (found k (q (x + u) (y + u)) ++ [])) a1 third in
      let all = Runs-append n (code_from b) (code (x + u) y) (code_to b) (found k (q x y))
      (found k (q (x + u) y) ++ (found k (q x (y + u)) ++ (found k (q (x + u) (y + u)) ++ []))) a0 second in
      subst (Runs n (code_from b) (code_to b))
      (sym (four_maps (coloured n g) (cut fits k (q x y)) (cut fits k (q (x + u) y)) (cut fits k (q x (y + u))) (cut fits k (q (x + u) (y + u))))) all

  pub cut_runs : (k : ℕ) (b : Block) → IsBlock n b → b.side ≡ 2 ^ k → k ≤ n → Runs n (code_from b) (code_to b) (found k b)
  cut_runs zero b h s room = Runs-one n b (colour_at n g (corner b)) h
  cut_runs (suc k) b h s room = run_step k b h s room (λ r hr sr. cut_runs k r hr sr (omega arith)) (fits b)

module _ (n : ℕ) (g : Grid) (le : n ≤ 12) where
  pub leaves_run : Runs n 0 (4 ^ n) (leaves_by_code n g)
  unfolding leaves_by_code
  leaves_run =
      let s = side_squared n in
      let z = origin_code in
      let same : n ≤ n = omega arith in
      Runs-at n (code_from (whole n)) (code_to (whole n)) 0 (4 ^ n) (map (coloured n g) (cut (is_uniform n g) n (whole n)))
      (cut_runs n g le (is_uniform n g) n (whole n) (IsBlock-whole n) refl same) z (omega arith)

  pub leaves_rise : Rises leaf_cmp (leaves_by_code n g)
  leaves_rise = Follows-rises n 0 (leaves_by_code n g) leaves_run.follows

pub leaves_members : (n : ℕ) (g : Grid) (e : Block × ℕ) → Contains (leaves_by_code n g) e ↔ Contains (leaves n g) e
unfolding leaves_by_code
leaves_members n g e = cut_leaves n g e

pub leaf_total : IsTotalOrder leaf_cmp
leaf_total = on_total (λ (e : Block × ℕ). code_from e.0) nat_cmp_total

-- blocks one after another that have the leaves are the leaves
pub leaves_are_by_code : (n : ℕ) (g : Grid) (es : List (Block × ℕ)) → n ≤ 12 → Follows n 0 es
    → ((e : Block × ℕ) → Contains es e ↔ Contains (leaves n g) e) → es ≡ leaves_by_code n g
leaves_are_by_code n g es le h w =
    same_rising leaf_cmp leaf_total es (leaves_by_code n g) (Follows-rises n 0 es h) (leaves_rise n g le)
    (λ e. (λ c. (leaves_members n g e).1 ((w e).0 c), λ c. (w e).1 ((leaves_members n g e).0 c)))

-- a leaf: a maximal block, with its colour
pub record IsLeaf (n : ℕ) (g : Grid) (e : Block × ℕ) : Type 0 where
  pub maximal : IsMaximal n (is_uniform n g) e.0
  pub colour : HasColour n g e.0 e.1

pub leaf_is : (n : ℕ) (g : Grid) (e : Block × ℕ) → Contains (leaves n g) e → IsLeaf n g e
unfolding leaves
leaf_is n g e c =
    let r = Contains-map_from (coloured n g) (maximal_blocks n (is_uniform n g)) e c in
    let m = IsMaximal-from n (is_uniform n g) r.0 r.1 in
    let made : IsLeaf n g (coloured n g r.0) = record { maximal = m; colour = HasColour-from_uniform n g r.0 m.passes } in
    subst (IsLeaf n g) r.2 made
