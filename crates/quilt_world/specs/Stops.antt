-- What a page holds by a world's tale, and what a stop may leave at each event between two tales.
use Rattle.std.specs.Prelude.{◌≡◌, ℕ, ◌≤◌, List, ◌++◌, length, take, Option}
use Rattle.quilt_world.specs.Disk.{Pages, Log, CanLeave}
use Rattle.quilt_world.specs.PageBytes.{last_bytes, fixed_bytes}
use Rattle.quilt_world.specs.Tale.{Tale, IsSameFile}

-- the page's latest bytes, synced or not; none where it is torn
abbrev pub latest : Tale → ℕ → Option (List ℕ)
latest t i = last_bytes t.start t.log i

-- the page's bytes in each image that a stop may leave
abbrev pub fixed : Tale → ℕ → Option (List ℕ)
fixed t i = fixed_bytes t.start t.log i

-- every image that a stop may leave after this log has P
abbrev pub Leaves : Pages → Log → (Pages → Type 0) → Type 0
Leaves start log P = (image : Pages) → CanLeave start log image → P image

-- The log goes on from the old one, and at each event since then every image that can be left has P.
pub record Since (old new : Tale) (P : Pages → Type 0) : Type 0 where
  pub file : IsSameFile old new
  pub input : new.input ≡ old.input
  pub added : Log
  pub log : new.log ≡ old.log ++ added
  pub each : (n : ℕ) → length old.log ≤ n → Leaves old.start (take n new.log) P

-- every image that a stop may leave now has P
abbrev pub LeavesNow : Tale → (Pages → Type 0) → Type 0
LeavesNow t P = Leaves t.start t.log P
