-- What a question of a layer costs, by the state that it is asked in.
use Rattle.std.proofs.Common.{◌≡◌, ℕ, ◌+◌, ◌≤◌, List, Option, Some, None, sym, ap, subst, arith}
use Rattle.std.specs.FinMap as finmap
use Rattle.quilt_types.specs.declared.plane.Window.{Window}
use Rattle.quilt_types.specs.Layers.{Layer, Region, Points, PointMap, Grid}
use Rattle.quilt_world.specs.Tale.{Goes}
use Rattle.quilt_replies.specs.Answers.{State, layer, capacity_in, grid_in, points_in}
use Rattle.quilt_world.proofs.ReadCounts.{reads_then}
use Rattle.quilt_map.specs.Costs.{within_pages, show_pages, cut_pages, layer_block_pages, block_pages_in}

-- the same cost, told otherwise
pub costs_as : (a b : ℕ) (before now : Option ℕ) → a ≡ b → Goes {A = ℕ} (λ old new. new ≤ old + a) before now
    → Goes {A = ℕ} (λ old new. new ≤ old + b) before now
costs_as a b before now same h = subst (λ (k : ℕ). Goes {A = ℕ} (λ old new. new ≤ old + k) before now) same h

-- one cost behind another
pub both_costs : (i j : ℕ) (a b c : Option ℕ) → Goes {A = ℕ} (λ old new. new ≤ old + i) a b → Goes {A = ℕ} (λ old new. new ≤ old + j) b c
    → Goes {A = ℕ} (λ old new. new ≤ old + (i + j)) a c
both_costs i j a b c first second = reads_then i j (i + j) a b c (omega arith) first second

-- a range of records, told as one number
pub range_costs : (m : ℕ) (before now : Option ℕ) → Goes {A = ℕ} (λ old new. new ≤ old + 6 + m) before now
    → Goes {A = ℕ} (λ old new. new ≤ old + (6 + m)) before now
range_costs m (Some a) (Some b) h = omega arith
range_costs m (Some a) None h = absurd h
range_costs m None (Some b) h = absurd h
range_costs m None None h = tt

module _ (s : State) (name : List ℕ) (n : ℕ) (before now : Option ℕ) (same : n ≡ s.last.level) where
  pub within_cost : (capacity : ℕ) (points : PointMap) (w : Window) → finmap.get s.work name ≡ Some (Points capacity points)
      → Goes {A = ℕ} (λ old new. new ≤ old + within_pages n capacity points w) before now
      → Goes {A = ℕ} (λ old new. new ≤ old + within_pages s.last.level (capacity_in (layer s name)) (points_in (layer s name)) w) before now
  within_cost capacity points w got h =
      subst (λ (o : Option Layer). Goes {A = ℕ} (λ old new. new ≤ old + within_pages s.last.level (capacity_in o) (points_in o) w) before now) (sym got)
      (costs_as _ _ before now (ap (λ (m : ℕ). within_pages m capacity points w) same) h)

  pub show_cost : (g : Grid) (side : ℕ) (w : Window) → finmap.get s.work name ≡ Some (Region g)
      → Goes {A = ℕ} (λ old new. new ≤ old + show_pages n g side w) before now
      → Goes {A = ℕ} (λ old new. new ≤ old + show_pages s.last.level (grid_in (layer s name)) side w) before now
  show_cost g side w got h =
      subst (λ (o : Option Layer). Goes {A = ℕ} (λ old new. new ≤ old + show_pages s.last.level (grid_in o) side w) before now) (sym got)
      (costs_as _ _ before now (ap (λ (m : ℕ). show_pages m g side w) same) h)

  pub cut_cost : (g : Grid) (side : ℕ) (w : Window) → finmap.get s.work name ≡ Some (Region g)
      → Goes {A = ℕ} (λ old new. new ≤ old + cut_pages s.last.level g side w) before now
      → Goes {A = ℕ} (λ old new. new ≤ old + cut_pages s.last.level (grid_in (layer s name)) side w) before now
  cut_cost g side w got h =
      subst (λ (o : Option Layer). Goes {A = ℕ} (λ old new. new ≤ old + cut_pages s.last.level (grid_in o) side w) before now) (sym got) h

  pub blocks_cost : (l : Layer) → finmap.get s.work name ≡ Some l → Goes {A = ℕ} (λ old new. new ≤ old + layer_block_pages n l) before now
      → Goes {A = ℕ} (λ old new. new ≤ old + block_pages_in s.last.level (layer s name)) before now
  blocks_cost l got h =
      subst (λ (o : Option Layer). Goes {A = ℕ} (λ old new. new ≤ old + block_pages_in s.last.level o) before now) (sym got)
      (costs_as _ _ before now (ap (λ (m : ℕ). layer_block_pages m l) same) h)
