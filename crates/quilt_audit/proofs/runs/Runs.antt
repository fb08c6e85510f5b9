-- Runs by the kind of their layer.
use Rattle.std.proofs.Common.{◌≡◌, ℕ, ◌≤◌, List, map, sym, ◌∙◌, ap, subst, Contains}
use Rattle.quilt_types.specs.declared.plane.Kind.{Kind}
use Rattle.quilt_types.specs.declared.plane.Kind.TheVariants as kinds
use Rattle.quilt_types.specs.declared.plane.Seg.{Seg}
use Rattle.quilt_loc.specs.Codes.{Rises}
use Rattle.quilt_loc.proofs.Members.{Contains-nil}
use Rattle.quilt_record.specs.declared.record.Record.{Record}
use Rattle.quilt_spell.specs.Written.{by_key}
use Rattle.quilt_line_audit.specs.declared.pair.Pair.{Pair}
use Rattle.quilt_line_audit.specs.declared.run.LineRun.{LineRun}
use Rattle.quilt_line_audit.specs.Runs.{IsLineStart, IsLineRun, pair_record, segment_record, is_of_part}
use Rattle.quilt_line_audit.proofs.Keys.{filter_none, part_false}
use Rattle.quilt_line_audit.proofs.Whole.{whole_lines, short_lines}
use Rattle.quilt_audit.specs.declared.regions.RegionRun.{RegionRun}
use Rattle.quilt_audit.specs.declared.points.PointRun.{PointRun}
use Rattle.quilt_audit.specs.declared.run.Run.{Run}
use Rattle.quilt_audit.specs.declared.run.Run.TheVariants as runs
use Rattle.quilt_line_audit.specs.Layers.{IsLayerOf, IsShort}
use Rattle.quilt_audit.specs.Regions.{IsGoing}
use Rattle.quilt_audit.specs.Points.{IsPointRun}
use Rattle.quilt_audit.specs.Runs.{IsRun, IsRunFinished}
use Rattle.quilt_audit.proofs.runs.RegionRuns.{finished_region, short_region}
use Rattle.quilt_audit.proofs.runs.PointRuns.{finished_points, short_points}

module _ (form n : ℕ) (rs : List Record) (layer : ℕ) (P : Kind → Type 0) where
  pub by_region : (run : RegionRun) → (IsGoing form n rs layer run.end run.recent → P kinds.Region) → (kind : Kind)
      → IsRun form n rs layer kind (runs.Region run) → P kind
  by_region run f kinds.Region h = f h
  by_region run f (kinds.Points bucket) h = absurd h
  by_region run f (kinds.Lines threshold) h = absurd h

  pub by_points : (run : PointRun) → (IsPointRun form n rs layer run.bucket run → P (kinds.Points run.bucket)) → (kind : Kind)
      → IsRun form n rs layer kind (runs.Points run) → P kind
  by_points run f kinds.Region h = absurd h
  by_points run f (kinds.Points bucket) h =
      subst (λ (b : ℕ). P (kinds.Points b)) h.bucket (f (subst (λ (b : ℕ). IsPointRun form n rs layer b run) (sym h.bucket) h))
  by_points run f (kinds.Lines threshold) h = absurd h

-- ---- no record yet of a line layer
pub lines_none : (n : ℕ) (rs : List Record) (layer threshold : ℕ) (run : LineRun) → 1 ≤ threshold → threshold ≤ 32 → IsLineStart run
    → ((r : Record) → Contains rs r → r.key.layer ≡ layer → ⊥)
    → IsLineRun n rs layer threshold run
lines_none n rs layer threshold run low high start none =
    let left = λ (part : ℕ). filter_none (is_of_part layer part) rs (λ r c. part_false layer part r (λ is _. none r c is)) in
    record {
      least = low;
      most = high;
      pairs = left 3 ∙ ap (map (pair_record n layer)) (sym start.pairs);
      segs = left 4 ∙ ap (map (segment_record n layer)) (sym start.segs);
      only = λ r c is. absurd (none r c is);
      blocks = λ p c. absurd (Contains-nil p (subst (λ (l : List Pair). Contains l p) start.pairs c));
      inside = λ e c. absurd (Contains-nil e (subst (λ (l : List (ℕ × Seg)). Contains l e) start.segs c));
    }

-- ---- all records of a layer
pub finished : (form n : ℕ) → 1 ≤ n → n ≤ 12 → (rs : List Record) (layer : ℕ) → 1 ≤ layer → (kind : Kind) (run : Run)
    → IsRun form n rs layer kind run → IsRunFinished n run → Rises by_key rs
    → IsLayerOf form n rs layer kind
finished form n least le rs layer some kinds.Region (runs.Region run) h f up = finished_region form n least le layer rs run.end run.recent h f
finished form n least le rs layer some (kinds.Points bucket) (runs.Points run) h f up = finished_points form n le run layer bucket some rs h f up
finished form n least le rs layer some kinds.Region (runs.Points run) h f up = absurd h
finished form n least le rs layer some (kinds.Points bucket) (runs.Region run) h f up = absurd h
finished form n least le rs layer some kinds.Region (runs.Lines run) h f up = absurd h
finished form n least le rs layer some (kinds.Points bucket) (runs.Lines run) h f up = absurd h
finished form n least le rs layer some (kinds.Lines threshold) (runs.Lines run) h f up = whole_lines form n rs layer threshold run le some h f up
finished form n least le rs layer some (kinds.Lines threshold) (runs.Region run) h f up = absurd h
finished form n least le rs layer some (kinds.Lines threshold) (runs.Points run) h f up = absurd h

pub short : (form n : ℕ) → 1 ≤ n → n ≤ 12 → (rs : List Record) (layer : ℕ) → 1 ≤ layer → (kind : Kind) (run : Run) → IsRun form n rs layer kind run
    → (IsRunFinished n run → ⊥) → IsShort form n rs layer kind
short form n least le rs layer some kinds.Region (runs.Region run) h f = short_region form n least le layer rs run.end run.recent h some f
short form n least le rs layer some (kinds.Points bucket) (runs.Points run) h f = short_points form n le run layer bucket some rs h f
short form n least le rs layer some kinds.Region (runs.Points run) h f = absurd h
short form n least le rs layer some (kinds.Points bucket) (runs.Region run) h f = absurd h
short form n least le rs layer some kinds.Region (runs.Lines run) h f = absurd h
short form n least le rs layer some (kinds.Points bucket) (runs.Lines run) h f = absurd h
short form n least le rs layer some (kinds.Lines threshold) (runs.Lines run) h f = short_lines form n rs layer threshold run le some h f
short form n least le rs layer some (kinds.Lines threshold) (runs.Region run) h f = absurd h
short form n least le rs layer some (kinds.Lines threshold) (runs.Points run) h f = absurd h
