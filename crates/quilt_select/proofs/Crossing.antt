-- What a descent by one window says of the window.
use Rattle.std.proofs.Common.{◌≡◌, ℕ, ◌+◌, ◌≤◌, true, List, [], ◌∷◌, Option, filter, sym, ◌∙◌, ap, subst, arith}
use Rattle.std.specs.List.{list_any}
use Rattle.quilt_types.specs.declared.plane.Seg.{Seg}
use Rattle.quilt_types.specs.declared.plane.Window.{Window}
use Rattle.quilt_types.specs.Segments.{meets}
use Rattle.quilt_types.specs.Quadtrees.{reach}
use Rattle.quilt_world.specs.Tale.{Goes}
use Rattle.quilt_near.specs.Lines.{Lines}
use Rattle.quilt_near.proofs.Telling.{tells_weaker}
use Rattle.quilt_select.specs.Shares.{shares_pixel, holds_any, meets_any, is_touching}
use Rattle.quilt_select.proofs.Filters.{any_of_one, filter_alike, reach_more}
use Rattle.quilt_select.proofs.Sharing.{shares_touches}

pub crossed : (w : Window) (ws : List Window) (es list : List (ℕ × Seg)) → ws ≡ w ∷ [] → list ≡ filter (λ e. meets_any ws e.1) es
    → list ≡ filter (λ e. meets e.1 w) es
crossed w ws es list one e =
    e ∙ filter_alike (λ z. meets_any ws z.1) (λ z. meets z.1 w) es (λ z. ap (λ (t : List Window). list_any (meets z.1) t) one ∙ any_of_one (meets z.1) w)

pub crossed_reads : (n : ℕ) (w : Window) (ws : List Window) (l : Lines) (before now : Option ℕ) → ws ≡ w ∷ []
    → Goes (λ old new. new ≤ old + reach n l.segs l.cover (holds_any ws)) before now
    → Goes (λ old new. new ≤ old + reach n l.segs l.cover (is_touching w)) before now
crossed_reads n w ws l before now one h =
    let more = reach_more n l.segs l.cover (holds_any ws) (is_touching w)
    (λ b _ k. shares_touches b w (sym (any_of_one (shares_pixel b) w) ∙ (subst (λ (t : List Window). holds_any t b ≡ true) one k))) in
    tells_weaker (λ x y. y ≤ x + reach n l.segs l.cover (holds_any ws)) (λ x y. y ≤ x + reach n l.segs l.cover (is_touching w))
    (λ x y a. omega arith) before now h
