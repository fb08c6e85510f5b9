-- The room of blocks and windows, and colours that are put down.
use Rattle.std.proofs.Common.{◌≡◌, ℕ, ◌+◌, ◌*◌, ◌≤◌, true, ◌&&◌, nat_le, List, ◌++◌, length, sym, ◌∙◌, ap, subst, arith, leb-true}
use Rattle.std.proofs.Common.{replicate}
use Rattle.std.proofs.lemmas.Bool.{and_parts}
use Rattle.quilt_types.specs.declared.plane.Pixel.{Pixel}
use Rattle.quilt_types.specs.declared.plane.Window.{Window}
use Rattle.quilt_types.specs.declared.plane.Block.{Block}
use Rattle.quilt_types.specs.Plane.{side, is_window, Holds, IsBlock}
use Rattle.quilt_loc.specs.Codes.{code_from}
use Rattle.quilt_loc.proofs.Blocks.{side_most}
use Rattle.quilt_loc.proofs.Quartered.{Within-whole}
use Rattle.quilt_blocks.proofs.Painting.{Paints-push}
use Rattle.quilt_region.specs.Painting.{HasColours}

pub block_room : (n : ℕ) (b : Block) → n ≤ 12 → IsBlock n b → (b.x + b.side ≤ 4096) × (b.y + b.side ≤ 4096)
block_room n b le h =
    let m = side_most n le in
    let w = Within-whole n b h in
    let r = w.right in
    let d = w.bottom in
    (omega arith, omega arith)

pub window_room : (n : ℕ) (w : Window) → n ≤ 12 → is_window n w ≡ true → (w.x + w.w ≤ 4096) × (w.y + w.h ≤ 4096)
window_room n w le t =
    let a = nat_le 1 w.w in
    let b = nat_le 1 w.h in
    let c = nat_le (w.x + w.w) (side n) in
    let d = nat_le (w.y + w.h) (side n) in
    let last = and_parts (a && b && c) d t in
    let third = and_parts (a && b) c last.0 in
    let right = leb-true (w.x + w.w) (side n) third.1 in
    let bottom = leb-true (w.y + w.h) (side n) last.1 in
    let m = side_most n le in
    (omega arith, omega arith)

-- a block of one colour, put down after others
pub HasColours-push : (n : ℕ) (f : Pixel → ℕ) (old new : List ℕ) (b : Block) (c : ℕ) → n ≤ 12 → IsBlock n b → code_from b ≡ length old
    → ((p : Pixel) → Holds b p → f p ≡ c) → new ≡ old ++ replicate (b.side * b.side) c → HasColours n f old → HasColours n f new
HasColours-push n f old new b c le h at same is has =
    subst (HasColours n f) (sym is) (record { each = (Paints-push n f old b c le h at same (record { each = has.each })).each })

pub HasColours-at : (n m : ℕ) (f : Pixel → ℕ) (colours : List ℕ) → n ≡ m → HasColours n f colours → HasColours m f colours
HasColours-at n m f colours e h = subst (λ (k : ℕ). HasColours k f colours) e h

-- and so are the colours that are added there
pub HasColours-added : (n m : ℕ) (f : Pixel → ℕ) (old new : List ℕ) → n ≡ m → (HasColours n f old → HasColours n f new) → HasColours m f old → HasColours m f new
HasColours-added n m f old new e h = subst (λ (k : ℕ). HasColours k f old → HasColours k f new) e h

pub IsBlock-at : (n m : ℕ) (b : Block) → n ≡ m → IsBlock n b → IsBlock m b
IsBlock-at n m b e h = subst (λ (k : ℕ). IsBlock k b) e h

pub is_window-at : (n m : ℕ) (w : Window) → n ≡ m → is_window n w ≡ true → is_window m w ≡ true
is_window-at n m w e h = ap (λ (k : ℕ). is_window k w) (sym e) ∙ h
