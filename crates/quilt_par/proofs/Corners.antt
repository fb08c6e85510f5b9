-- Quarters of a block of a square that lies in a raster, tallied as quarters of a block of the raster.
use Rattle.std.proofs.Common.{◌≡◌, ℕ, zero, suc, ◌+◌, ◌-◌, ◌/◌, ◌<◌, ◌≤◌, List, get_or, set, refl, sym, ◌∙◌, ap, ap₂, subst, arith, Option, Some, None, IfSome}
use Rattle.quilt_types.specs.declared.plane.Pixel.{Pixel}
use Rattle.quilt_types.specs.declared.plane.Block.{Block}
use Rattle.quilt_types.specs.Plane.{quarters_of, IsBlock}
use Rattle.quilt_types.specs.Layers.{Grid}
use Rattle.quilt_tally.specs.declared.tally.Tally.{Tally}
use Rattle.quilt_tally.specs.Tallies.{size_of, HasPast, IsTally}
use Rattle.quilt_tally.proofs.Quarters.{nowhere}
use Rattle.quilt_tally.proofs.Room.{IsJoining, next_at, joining_more, joining_past}
use Rattle.quilt_par.specs.Parts.{at_corner}

-- what holds anyway holds where something is answered
pub any_some : {A P : Type 0} (o : Option A) → P → IfSome o (λ x. P)
any_some None p = tt {0}
any_some (Some x) p = p

-- what ends within a square that lies in a whole from its corner on ends within the whole
pub past_corner : (corner from length side whole : ℕ) → from + length ≤ 0 + side → corner + side ≤ whole → corner + from + length ≤ whole
past_corner corner from length side whole ends lies = omega arith

abbrev quarter : Block → ℕ → ℕ → Block
quarter b x y = record { x = x; y = y; side = b.side / 2 }

corner_quarter : (corner : Pixel) (b : Block) (i : ℕ) (d : Block) → i < 4
    → get_or (quarters_of (at_corner corner b)) i nowhere ≡ at_corner corner (get_or (quarters_of b) i d)
corner_quarter corner b zero d lt = refl
corner_quarter corner b (suc zero) d lt =
    let x : corner.x + b.x + b.side / 2 ≡ corner.x + (b.x + b.side / 2) = omega arith in
    ap (λ z. quarter b z (corner.y + b.y)) x
corner_quarter corner b (suc (suc zero)) d lt =
    let y : corner.y + b.y + b.side / 2 ≡ corner.y + (b.y + b.side / 2) = omega arith in
    ap (λ z. quarter b (corner.x + b.x) z) y
corner_quarter corner b (suc (suc (suc zero))) d lt =
    let x : corner.x + b.x + b.side / 2 ≡ corner.x + (b.x + b.side / 2) = omega arith in
    let y : corner.y + b.y + b.side / 2 ≡ corner.y + (b.y + b.side / 2) = omega arith in
    ap₂ (quarter b) x y
corner_quarter corner b (suc (suc (suc (suc i)))) d lt = absurd (omega arith)

module _ {n : ℕ} {g : Grid} (corner : Pixel) (b : Block) {i : ℕ} {ts : List Tally} {room most : ℕ} (now : IsJoining n g (at_corner corner b) i ts room most)
    (qs : List Block) (d : Block) (are : qs ≡ quarters_of b) (lt : i < 4) where
  same : get_or (quarters_of (at_corner corner b)) i nowhere ≡ at_corner corner (get_or qs i d)
  same = corner_quarter corner b i d lt ∙ ap (λ (l : List Block). at_corner corner (get_or l i d)) (sym are)

  -- the next quarter is a block of the raster
  pub quarter_block : IsBlock n (at_corner corner (get_or qs i d))
  quarter_block = subst (IsBlock n) same (next_at now lt).block

  -- where it is tallied
  pub quarter_more : (t : Tally) (left : ℕ) → left ≡ room - size_of t → IsTally n g (at_corner corner (get_or qs i d)) t
      → IsJoining n g (at_corner corner b) (i + 1) (set ts i t) left most
  quarter_more t left is here = joining_more now t left lt is (subst (λ (q : Block). IsTally n g q t) (sym same) here)

  -- where it has more leaves than there is room
  pub quarter_past : HasPast n g (at_corner corner (get_or qs i d)) room → HasPast n g (at_corner corner b) most
  quarter_past past = joining_past now lt (subst (λ (q : Block). HasPast n g q room) (sym same) past)
