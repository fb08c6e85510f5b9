use Rattle.std.proofs.Common.{◌≡◌, ℕ, ◌++◌, List, length, take, drop, count_by, sym, ◌∙◌, ap, subst, vec_len}
use Rattle.std.proofs.Math.Seq.{take-append_seam}
use Rattle.quilt_types.specs.declared.plane.Pixel.{Pixel}
use Rattle.quilt_types.specs.Plane.{side}
use Rattle.quilt_poly.specs.Edges.{crosses}
use Rattle.quilt_poly.specs.Bits.{HasParities}
use Rattle.quilt_poly.proofs.fill.inside_bits.Goals as goal

pub returns-clause-odd : goal.returns-clause-odd
returns-clause-odd c =
    let new = c.mark_inside.new.words in
    let f : Pixel → ℕ = λ p. count_by (crosses p) c.args.edges.now in
    let rest = drop (length new) c.in_ok-words.words.items in
    let long : vec_len c.in_ok-words.words ≡ length new = sym c.deref_mut.ensures.len ∙ sym c.mark_inside.auto.words in
    let all : take (vec_len c.in_ok-words.words) (new ++ rest) ≡ new = ap (λ n. take n (new ++ rest)) long ∙ take-append_seam new rest in
    subst (λ (l : List ℕ). HasParities (side c.args.level) f l) (sym all) (subst (λ (s : ℕ). HasParities s f new) c.side_at-side.ensures.value c.mark_inside.ensures)
