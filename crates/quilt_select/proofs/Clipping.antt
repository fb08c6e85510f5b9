-- The parts of the segments that meet the window are those of all segments.
use Rattle.std.proofs.Common.{◌≡◌, ℕ, cond, List, [], ◌∷◌, ◌++◌, Option, Some, None, filter, refl, ◌∙◌, ap, ap₂}
use Rattle.std.specs.Prelude.{is_some}
use Rattle.quilt_types.specs.declared.plane.Seg.{Seg}
use Rattle.quilt_types.specs.declared.plane.Window.{Window}
use Rattle.quilt_types.specs.Fractions.{Fraction}
use Rattle.quilt_types.specs.Segments.{meets, clip_range}
use Rattle.quilt_select.specs.Clips.{with_range, clips_of}

by_range : (w : Window) (e : ℕ × Seg) (fs : List (ℕ × Seg)) (rest : List (ℕ × Fraction × Fraction)) (r : Option (Fraction × Fraction))
    → clip_range e.1 w ≡ r → clips_of w fs ≡ rest
    → clips_of w (cond (is_some r) (e ∷ fs) fs) ≡ with_range e.0 r ++ rest
by_range w e fs rest None is h = h
by_range w e fs rest (Some ends) is h = ap₂ ◌++◌ (ap (with_range e.0) is) h

kept_clips : (w : Window) (es : List (ℕ × Seg)) → clips_of w (filter (λ e. meets e.1 w) es) ≡ clips_of w es
kept_clips w [] = refl
kept_clips w (e ∷ es) = by_range w e (filter (λ z. meets z.1 w) es) (clips_of w es) (clip_range e.1 w) refl (kept_clips w es)

pub clipped_all : (w : Window) (es list : List (ℕ × Seg)) (clips : List (ℕ × Fraction × Fraction)) → clips ≡ clips_of w list
    → list ≡ filter (λ e. meets e.1 w) es → clips ≡ clips_of w es
clipped_all w es list clips e h = e ∙ ap (clips_of w) h ∙ kept_clips w es
