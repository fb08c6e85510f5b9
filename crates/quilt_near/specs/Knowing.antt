-- What a question knows of a layer of lines.
use Rattle.std.specs.Prelude.{◌≡◌, ℕ, ◌+◌, ◌*◌, true, Option, Some, IfSome, length}
use Rattle.std.specs.Ordering.{nat_cmp}
use Rattle.std.specs.BTreeMap.{get, btree_map_len}
use Rattle.std.specs.FinMap as finmap
use Rattle.quilt_types.specs.Sets as finset
use Rattle.quilt_types.specs.declared.plane.Seg.{Seg}
use Rattle.quilt_types.specs.Layers.{is_in_square}
use Rattle.quilt_near.specs.Lines.{Lines}
use Rattle.quilt_near.specs.declared.known.Known.{Known}
use Rattle.quilt_near.specs.declared.known.Mark.{Mark}
use Rattle.quilt_near.specs.declared.part.Part.{Part}
use Rattle.quilt_near.specs.declared.part.Part.TheVariants.{Split, Leaf}

-- the segment that is known under an id
abbrev pub known_seg : Known → ℕ → Option Seg
known_seg k id = get nat_cmp k.segs id

-- how many segments are known
abbrev pub many_known : Known → ℕ
many_known k = btree_map_len k.segs

-- The ends of each known segment are pixels of the level, and where the layer shows its lines each is that of its id, and the
-- known block is one of the set. Each place where it looked is one to look at.
pub record Knows (n : ℕ) (shown : Lines → Type 0) (marked : Mark → Type 0) (k : Known) : Type 0 where
  pub inside : (id : ℕ) (s : Seg) → known_seg k id ≡ Some s → is_in_square n s ≡ true
  pub segs : (l : Lines) → shown l → (id : ℕ) (s : Seg) → known_seg k id ≡ Some s → finmap.get l.segs id ≡ Some s
  pub block : (l : Lines) → shown l → IfSome k.block (λ b. finset.contains l.cover b ≡ true)
  pub pairs : IfSome k.pairs marked
  pub ids : IfSome k.ids marked

-- what was known stays known
abbrev pub StaysKnown : Known → Known → Type 0
StaysKnown old new = (id : ℕ) (s : Seg) → known_seg old id ≡ Some s → known_seg new id ≡ Some s

-- how many pages may be read for a block itself, beside 3 for each segment that was not known
abbrev pub block_pages : Part → ℕ
block_pages Split = 12
block_pages (Leaf list) = 12 + 3 * length list
