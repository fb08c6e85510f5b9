-- What a longer text leaves of the run of its prefix.
use Rattle.std.specs.Prelude.{◌≡◌, ℕ, ◌≤◌, List, ◌++◌, take, length}
use Rattle.quilt_types.specs.Layers.{Edition}
use Rattle.quilt_world.specs.Tale.{Begins}
use Rattle.quilt_words.specs.Items.{whole_items}
use Rattle.quilt_replies.specs.Runs.{Run, run, replies_of}

-- the run has so many replies, and the other's replies begin with them
pub record IsSettled (k : ℕ) (r longer : Run) : Type 0 where
  pub there : k ≤ length (replies_of r)
  pub front : Begins (replies_of longer) (take k (replies_of r))

-- The replies to the whole items of a text stand, whatever text follows it, from whatever edition of the level it runs, and at whatever quota.
abbrev pub SettledLaw : Type 0
SettledLaw =
    (n q : ℕ) (first : Edition) → first.level ≡ n → (text more : List ℕ)
    → IsSettled (length (whole_items n text)) (run q first text) (run q first (text ++ more))
