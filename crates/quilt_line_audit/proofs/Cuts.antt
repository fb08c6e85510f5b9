-- The blocks that pairs are of: one behind the other over a square, and each pixel in exactly one.
use Rattle.std.proofs.Common.{◌≡◌, ℕ, ◌+◌, ◌*◌, ◌/◌, ◌^◌, ◌<◌, ◌≤◌, List, [], ◌∷◌, ◌++◌, map, flat_map, get_or, count_by, refl, sym, ◌∙◌, ap, subst, ⊎_elim}
use Rattle.std.proofs.Common.{arith, Contains, append_assoc, append-nil, pow-suc, pow_pos}
use Rattle.std.proofs.lemmas.List.{map-append}
use Rattle.std.proofs.lemmas.List.Concat.{flat_map-append}
use Rattle.quilt_types.specs.Sets as finset
use Rattle.quilt_types.specs.declared.plane.Block.{Block}
use Rattle.quilt_types.specs.declared.plane.Pixel.{Pixel}
use Rattle.quilt_types.specs.declared.plane.Seg.{Seg}
use Rattle.quilt_types.specs.Plane.{side, quarters_of, whole, in_block, IsBlock}
use Rattle.quilt_loc.specs.Codes.{code_from, code_to}
use Rattle.quilt_loc.proofs.Members.{Contains-map, Contains-map_from}
use Rattle.quilt_loc.proofs.Blocks.{Holds-from, in_block-true}
use Rattle.quilt_loc.proofs.Intervals.{side_squared, origin_code, half_codes}
use Rattle.quilt_loc.proofs.Once.{once_some, once_same}
use Rattle.quilt_loc.proofs.PlaneOrders.{block_total}
use Rattle.quilt_loc.proofs.Quartered.{quarters_are}
use Rattle.quilt_blocks.proofs.Adding.{IsPart, part_at}
use Rattle.quilt_blocks.proofs.Chains.{Follows-member, one_holds}
use Rattle.quilt_blocks.proofs.Cuts.{Runs, Runs-append, Runs-nil, Runs-one, Runs-at}
use Rattle.quilt_blocks.proofs.Painting.{code_in}
use Rattle.quilt_spell.proofs.facts.FactKeys.{block_same}
use Rattle.quilt_line_laws.proofs.Merges.{IsBlockCover}
use Rattle.quilt_line_laws.proofs.SetLaws.{items-from_list}
use Rattle.quilt_line_audit.specs.declared.pair.Pair.{Pair}
use Rattle.quilt_line_audit.specs.Pairs.{pairs_on, BeginsWithPairs}
use Rattle.quilt_line_audit.proofs.Begins.{quarter_side}

-- blocks as one after another has them
abbrev pub plain : Block → Block × ℕ
plain b = (b, 0)

-- the blocks make up the square, one behind the other
abbrev pub AreIn : ℕ → Block → List Block → Type 0
AreIn n b bs = Runs n (code_from b) (code_to b) (map plain bs)

pub one_block : (n : ℕ) (b : Block) → IsBlock n b → AreIn n b (b ∷ [])
one_block n b h = Runs-one n b 0 h

runs_join : (n a b c : ℕ) (xs ys : List Block) → Runs n a b (map plain xs) → Runs n b c (map plain ys) → Runs n a c (map plain (xs ++ ys))
runs_join n a b c xs ys h k = subst (Runs n a c) (sym (map-append plain xs ys)) (Runs-append n a b c (map plain xs) (map plain ys) h k)

pub four_blocks : (n : ℕ) (b : Block) → n ≤ 12 → IsBlock n b → 1 < b.side → (q0 q1 q2 q3 : Block) → quarters_of b ≡ q0 ∷ q1 ∷ q2 ∷ q3 ∷ []
    → (l0 l1 l2 l3 : List Block)
    → AreIn n q0 l0 → AreIn n q1 l1 → AreIn n q2 l2 → AreIn n q3 l3 → AreIn n b (l0 ++ (l1 ++ (l2 ++ (l3 ++ []))))
four_blocks n b le hb lt q0 q1 q2 q3 are l0 l1 l2 l3 h0 h1 h2 h3 =
    let a = code_from b in
    let u = b.side / 2 * (b.side / 2) in
    let qs = q0 ∷ q1 ∷ q2 ∷ q3 ∷ [] in
    let p0 : IsPart n b 0 q0 = part_at n b qs 0 q0 le hb lt (sym are) (omega arith) in
    let p1 : IsPart n b 1 q1 = part_at n b qs 1 q0 le hb lt (sym are) (omega arith) in
    let p2 : IsPart n b 2 q2 = part_at n b qs 2 q0 le hb lt (sym are) (omega arith) in
    let p3 : IsPart n b 3 q3 = part_at n b qs 3 q0 le hb lt (sym are) (omega arith) in
    let f0 = p0.from in
    let t0 = p0.to in
    let f1 = p1.from in
    let t1 = p1.to in
    let f2 = p2.from in
    let t2 = p2.to in
    let f3 = p3.from in
    let t3 = p3.to in
    let end = (half_codes n b hb le lt).all in
    let r0 = Runs-at n (code_from q0) (code_to q0) a (a + u) (map plain l0) h0 (omega arith) (omega arith) in
    let r1 = Runs-at n (code_from q1) (code_to q1) (a + u) (a + 2 * u) (map plain l1) h1 (omega arith) (omega arith) in
    let r2 = Runs-at n (code_from q2) (code_to q2) (a + 2 * u) (a + 3 * u) (map plain l2) h2 (omega arith) (omega arith) in
    let r3 = Runs-at n (code_from q3) (code_to q3) (a + 3 * u) (code_to b) (map plain l3) h3 (omega arith) (omega arith) in
    let s3 = runs_join n (a + 3 * u) (code_to b) (code_to b) l3 [] r3 (Runs-nil n (code_to b)) in
    let s2 = runs_join n (a + 2 * u) (a + 3 * u) (code_to b) l2 (l3 ++ []) r2 s3 in
    let s1 = runs_join n (a + u) (a + 2 * u) (code_to b) l1 (l2 ++ (l3 ++ [])) r1 s2 in
    runs_join n a (a + u) (code_to b) l0 (l1 ++ (l2 ++ (l3 ++ []))) r0 s1

-- ---- the blocks that pairs are of
pub record IsCutInto (n : ℕ) (segs : List (ℕ × Seg)) (b : Block) (pairs rest : List Pair) : Type 0 where
  pub blocks : List Block
  pub runs : AreIn n b blocks
  pub are : pairs ≡ flat_map (pairs_on segs) blocks ++ rest

module _ (segs : List (ℕ × Seg)) where
  abbrev all_on : List Block → List Pair
  all_on bs = flat_map (pairs_on segs) bs

  pub on_join : (xs ys : List Block) (rest : List Pair) → all_on (xs ++ ys) ++ rest ≡ all_on xs ++ (all_on ys ++ rest)
  on_join xs ys rest = ap (λ (l : List Pair). l ++ rest) (flat_map-append (pairs_on segs) xs ys) ∙ append_assoc (all_on xs) (all_on ys) rest

  behind : (xs ys : List Block) (pairs mid rest : List Pair) → pairs ≡ all_on xs ++ mid → mid ≡ all_on ys ++ rest → pairs ≡ all_on (xs ++ ys) ++ rest
  behind xs ys pairs mid rest e f = e ∙ ap (λ (l : List Pair). all_on xs ++ l) f ∙ sym (on_join xs ys rest)

  pub on_one : (b : Block) (rest : List Pair) → all_on (b ∷ []) ++ rest ≡ pairs_on segs b ++ rest
  on_one b rest = ap (λ (l : List Pair). l ++ rest) (append-nil (pairs_on segs b))

  module _ (n : ℕ) (le : n ≤ 12) where
    uncut : (b : Block) (pairs rest : List Pair) → IsBlock n b → pairs ≡ pairs_on segs b ++ rest → IsCutInto n segs b pairs rest
    uncut b pairs rest hb e = record { blocks = b ∷ []; runs = one_block n b hb; are = e ∙ sym (on_one b rest) }

    pub cut_into : (k : ℕ) (b : Block) (pairs rest : List Pair) → IsBlock n b → b.side ≡ side k → BeginsWithPairs segs k b pairs rest → IsCutInto n segs b pairs rest
    cut_into ℕ.zero b pairs rest hb e h = uncut b pairs rest hb h
    cut_into (ℕ.suc k) b pairs rest hb e h =
        ⊎_elim (λ here. uncut b pairs rest hb here)
        (λ t0.
        let t1 = t0.2 in
        let t2 = t1.2 in
        let t3 = t2.2 in
        let p = pow-suc 2 k in
        let pos = pow_pos k in
        let u = b.side / 2 in
        let q = λ (x y : ℕ). let r : Block = record { x = x; y = y; side = u } in r in
        let part = λ (i : ℕ) (lt : i < 4) (r : Block) (is : get_or (quarters_of b) i r ≡ r). quarters_are n b r hb (omega arith) (i, lt, is) in
        let half = λ (i : ℕ) (lt : i < 4) (r : Block) (is : get_or (quarters_of b) i r ≡ r). quarter_side k b r e (i, lt, is) in
        let c0 = cut_into k (q b.x b.y) pairs t0.0 (part 0 (omega arith) (q b.x b.y) refl).block (half 0 (omega arith) (q b.x b.y) refl) t0.1 in
        let c1 =
        cut_into k (q (b.x + u) b.y) t0.0 t1.0 (part 1 (omega arith) (q (b.x + u) b.y) refl).block (half 1 (omega arith) (q (b.x + u) b.y) refl) t1.1 in
        let c2 =
        cut_into k (q b.x (b.y + u)) t1.0 t2.0 (part 2 (omega arith) (q b.x (b.y + u)) refl).block (half 2 (omega arith) (q b.x (b.y + u)) refl) t2.1 in
        let c3 = cut_into k (q (b.x + u) (b.y + u)) t2.0 t3.0 (part 3 (omega arith) (q (b.x + u) (b.y + u)) refl).block
        (half 3 (omega arith) (q (b.x + u) (b.y + u)) refl) t3.1 in
        record {
          blocks = c0.blocks ++ (c1.blocks ++ (c2.blocks ++ (c3.blocks ++ [])));
          runs = four_blocks n b le hb (omega arith) (q b.x b.y) (q (b.x + u) b.y) (q b.x (b.y + u))
              (q (b.x + u) (b.y + u)) refl c0.blocks c1.blocks c2.blocks c3.blocks c0.runs c1.runs c2.runs c3.runs;
          are = behind c0.blocks (c1.blocks ++ (c2.blocks ++ (c3.blocks ++ []))) pairs t0.0 rest c0.are
              (behind c1.blocks (c2.blocks ++ (c3.blocks ++ [])) t0.0 t1.0 rest c1.are
              (behind c2.blocks (c3.blocks ++ []) t1.0 t2.0 rest c2.are
              (behind c3.blocks [] t2.0 t3.0 rest c3.are t3.2)));
        }) h

-- ---- blocks over the whole square are a cover
module _ (n : ℕ) (le : n ≤ 12) (bs : List Block) (runs : AreIn n (whole n) bs) where
  pub from_zero : Runs n 0 (4 ^ n) (map plain bs)
  from_zero = let s = side_squared n in let z = origin_code in Runs-at n (code_from (whole n)) (code_to (whole n)) 0 (4 ^ n) (map plain bs) runs z (omega arith)

  pub block_of : (b : Block) → Contains bs b → IsBlock n b
  block_of b c = (Follows-member n 0 (map plain bs) (plain b) from_zero.follows (Contains-map plain bs b c)).block

  held_once : (p : Pixel) → p.x < 2 ^ n → p.y < 2 ^ n → count_by (λ (e : Block × ℕ). in_block e.0 p) (map plain bs) ≡ 1
  held_once p hx hy =
      let i = code_in n p le hx hy in
      let s = from_zero.size in
      one_holds n le p hx hy 0 (map plain bs) from_zero.follows (omega arith) (omega arith)

  pub cover_from : IsBlockCover n (finset.from_list bs)
  cover_from =
      let members = items-from_list block_total block_same bs in
      record {
        only = λ b c. block_of b ((members b).0 c);
        covers = record {
          holder = λ p hx hy.
              let r = once_some (λ (e : Block × ℕ). in_block e.0 p) (map plain bs) (held_once p hx hy) in
              let m = Contains-map_from plain bs r.0 r.1 in
              let same = ap (λ (e : Block × ℕ). e.0) m.2 in
              (m.0, (members m.0).1 m.1, Holds-from m.0 p (ap (λ (z : Block). in_block z p) same ∙ r.2));
          one = λ p hx hy a b ca ha cb hb.
              ap (λ (e : Block × ℕ). e.0)
              (once_same (λ (e : Block × ℕ). in_block e.0 p) (map plain bs) (plain a) (plain b) (held_once p hx hy)
              (Contains-map plain bs a ((members a).0 ca)) (in_block-true a p ha)
              (Contains-map plain bs b ((members b).0 cb)) (in_block-true b p hb));
        };
      }
