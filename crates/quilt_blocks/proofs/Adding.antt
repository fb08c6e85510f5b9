-- Pixels that are put down after others: none, a block of one colour, one step after another, and all.
use Rattle.std.proofs.Common.{◌≡◌, ℕ, ◌+◌, ◌-◌, ◌*◌, ◌/◌, ◌^◌, ◌<◌, ◌≤◌, List, [], ◌++◌, length, get_or, refl, sym, ◌∙◌, ap, subst, zero, suc, ⊎_elim}
use Rattle.std.proofs.Common.{arith, replicate, get_or-append-add, length-append}
use Rattle.std.proofs.lemmas.Bool.{cases_lt}
use Rattle.std.proofs.lemmas.List.{length-replicate, get_or-replicate, get_or_append_left, get_or_default}
use Rattle.quilt_types.specs.declared.plane.Pixel.{Pixel}
use Rattle.quilt_types.specs.declared.plane.Block.{Block}
use Rattle.quilt_types.specs.Plane.{side, whole, quarters_of, Holds, IsBlock, Within}
use Rattle.quilt_loc.proofs.Quartered.{quarters_are}
use Rattle.quilt_types.specs.Algebra.{grid_of}
use Rattle.quilt_loc.specs.Codes.{code_at, code_from, code_to}
use Rattle.quilt_loc.proofs.Blocks.{side_most}
use Rattle.quilt_loc.proofs.Intervals.{held_code, half_codes, origin_code}
use Rattle.quilt_blocks.specs.Painting.{Painted, grid_by_code}
use Rattle.quilt_blocks.proofs.Painting.{Paints-all}
use Rattle.quilt_blocks.specs.Adding.{AddsColours}
use Rattle.quilt_blocks.proofs.Squares.{code_to-whole}

pub Adds-none : (n : ℕ) (f : Pixel → ℕ) (m : Painted) → AddsColours n f (length m.colours) m m
Adds-none n f m = record { level = refl; long = refl; kept = λ k lt. refl; each = λ p hx hy low high. absurd (omega arith) }

pub Adds-then : (n : ℕ) (f : Pixel → ℕ) (mid end : ℕ) (old m new : Painted) → length old.colours ≤ mid → AddsColours n f mid old m
    → AddsColours n f end m new → AddsColours n f end old new
Adds-then n f mid end old m new le a b =
    let l = a.long in
    record {
      level = b.level ∙ a.level;
      long = b.long;
      kept = λ k lt. b.kept k (omega arith) ∙ a.kept k lt;
      each = λ p hx hy low high.
          ⊎_elim
          (λ before. b.kept (code_at p) (omega arith) ∙ a.each p hx hy low before)
          (λ behind. b.each p hx hy (omega arith) high) (cases_lt (code_at p) mid);
    }

-- another function that has the same colours there
pub Adds-change : (n : ℕ) (f g : Pixel → ℕ) (end : ℕ) (old new : Painted)
    → ((p : Pixel) → p.x < side n → p.y < side n → length old.colours ≤ code_at p → code_at p < end → f p ≡ g p) → AddsColours n f end old new → AddsColours n g end old new
Adds-change n f g end old new same a =
    record { level = a.level; long = a.long; kept = a.kept; each = λ p hx hy low high. a.each p hx hy low high ∙ same p hx hy low high }

-- a block, each pixel of which has this colour
pub Adds-push : (n : ℕ) (f : Pixel → ℕ) (old new : Painted) (b : Block) (c : ℕ) → n ≤ 12 → IsBlock n b → code_from b ≡ length old.colours
    → ((p : Pixel) → Holds b p → f p ≡ c) → new ≡ record { level = old.level; colours = old.colours ++ replicate (b.side * b.side) c }
    → AddsColours n f (code_to b) old new
Adds-push n f old new b c le h at same is =
    let more = replicate (b.side * b.side) c in
    let long : length more ≡ b.side * b.side = length-replicate (b.side * b.side) c in
    let all = length-append old.colours more in
    let m = side_most n le in
    let ix = h.in_x in
    let iy = h.in_y in
    let colours : new.colours ≡ old.colours ++ more = ap (λ (z : Painted). z.colours) is in
    let size : length new.colours ≡ length (old.colours ++ more) = ap length colours in
    record {
      level = ap (λ (z : Painted). z.level) is;
      long = omega arith;
      kept = λ k lt. ap (λ l. get_or l k 0) colours ∙ get_or_append_left old.colours more 0 k lt;
      each = λ p hx hy low high.
          let held = held_code n b p h le (omega arith) (omega arith) (omega arith) (omega arith) (omega arith) (omega arith) in
          let split : code_at p ≡ length old.colours + (code_at p - length old.colours) = omega arith in
          ap (λ l. get_or l (code_at p) 0) colours
          ∙ ap (λ i. get_or (old.colours ++ more) i 0) split
          ∙ get_or-append-add old.colours more (code_at p - length old.colours) 0
          ∙ get_or-replicate (b.side * b.side) (code_at p - length old.colours) c 0 (omega arith)
          ∙ sym (same p held);
    }

-- the whole square begins where nothing is put down yet
pub whole_next : (n : ℕ) (b : Block) (m : Painted) → b ≡ whole n → m ≡ record { level = n; colours = [] } → code_from b ≡ length m.colours
whole_next n b m is start = ap code_from is ∙ origin_code ∙ sym (ap (λ (z : Painted). length z.colours) start)

-- the whole square, from nothing
pub Adds-whole : (n k : ℕ) (f : Pixel → ℕ) (b : Block) (old new : Painted) → k ≡ n → b ≡ whole k → old ≡ record { level = k; colours = [] }
    → AddsColours n f (code_to b) old new → AddsColours n f (4 ^ n) (record { level = n; colours = [] }) new
Adds-whole n k f b old new level is start a =
    let empty : old ≡ record { level = n; colours = [] } = start ∙ ap (λ (j : ℕ). let m : Painted = record { level = j; colours = [] } in m) level in
    let end : code_to b ≡ 4 ^ n = ap code_to (is ∙ ap whole level) ∙ code_to-whole n in
    subst (λ (m : Painted). AddsColours n f (4 ^ n) m new) empty (subst (λ (j : ℕ). AddsColours n f j old new) end a)

-- once all is there, the grid is that of f
pub Adds-all : (n : ℕ) (f : Pixel → ℕ) (m : Painted) → n ≤ 12 → AddsColours n f (4 ^ n) (record { level = n; colours = [] }) m → grid_by_code n m.colours ≡ grid_of n f
Adds-all n f m le a =
    let long = a.long in
    Paints-all n f m.colours le long (record { each = λ p hx hy lt. a.each p hx hy (omega arith) (omega arith) })

-- where the quarters of a block begin
quarter_from : (n : ℕ) (b : Block) (i : ℕ) (q : Block) → n ≤ 12 → IsBlock n b → 1 < b.side → i < 4 → get_or (quarters_of b) i q ≡ q
    → code_from q ≡ code_from b + i * (b.side / 2 * (b.side / 2))
quarter_from n b zero q le h wide lt is = let e = ap code_from is in omega arith
quarter_from n b (suc zero) q le h wide lt is = let e = ap code_from is in let c = half_codes n b h le wide in let r = c.right in omega arith
quarter_from n b (suc (suc zero)) q le h wide lt is = let e = ap code_from is in let c = half_codes n b h le wide in let r = c.below in omega arith
quarter_from n b (suc (suc (suc zero))) q le h wide lt is = let e = ap code_from is in let c = half_codes n b h le wide in let r = c.across in omega arith
quarter_from n b (suc (suc (suc (suc i)))) q le h wide lt is = absurd (omega arith)

-- a quarter at its place among the four
pub record IsPart (n : ℕ) (b : Block) (i : ℕ) (q : Block) : Type 0 where
  pub block : IsBlock n q
  pub within : Within q b
  pub smaller : q.side < b.side
  pub half : 2 * q.side ≡ b.side
  pub from : code_from q ≡ code_from b + i * (b.side / 2 * (b.side / 2))
  pub to : code_to q ≡ code_from b + (i + 1) * (b.side / 2 * (b.side / 2))

part_is : (n : ℕ) (b : Block) (i : ℕ) (q : Block) → n ≤ 12 → IsBlock n b → 1 < b.side → i < 4 → get_or (quarters_of b) i q ≡ q → IsPart n b i q
part_is n b i q le h wide lt is =
    let r = quarters_are n b q h wide (i, lt, is) in
    let f = r.half in
    let from = quarter_from n b i q le h wide lt is in
    let half : q.side ≡ b.side / 2 = omega arith in
    let square : q.side * q.side ≡ b.side / 2 * (b.side / 2) = ap (λ z. z * z) half in
    record { block = r.block; within = r.within; smaller = omega arith; half = f; from = from; to = omega arith }

-- the one that stands there
pub part_at : (n : ℕ) (b : Block) (qs : List Block) (i : ℕ) (d : Block) → n ≤ 12 → IsBlock n b → 1 < b.side → qs ≡ quarters_of b → i < 4
    → IsPart n b i (get_or qs i d)
part_at n b qs i d le h wide are lt =
    let q = get_or qs i d in
    let e : get_or qs i d ≡ get_or (quarters_of b) i d = ap (λ l. get_or l i d) are in
    part_is n b i q le h wide lt (get_or_default (quarters_of b) i q d lt ∙ sym e)
