use Rattle.std.proofs.Common.{◌≡◌, ℕ, List, map, ap, ◌∙◌}
use Rattle.std.specs.Prelude.{IfOk}
use Rattle.std.specs.declared.alloc.AllocError.{AllocError}
use Rattle.rayon.proofs.ListFacts.{AllZip-weaken}
use Rattle.rayon.proofs.ToStd.{slice-AllZip}
use Rattle.quilt_types.specs.declared.plane.Seg.{Seg}
use Rattle.quilt_join.specs.declared.rows.Row.{Row}
use Rattle.quilt_join.specs.Rows.{IsSharingRow}
use Rattle.quilt_join.specs.Pairs.{ids_sharing, pairs_with}
use Rattle.quilt_join.proofs.Gathered.{all_values, if_ok_then, if_ok_all, mapped_through}
use Rattle.quilt_join.proofs.join.pairs_for.Goals as goal

pub returns : goal.returns
returns g c b a serves are =
    let slice = ap (λ it. it.slice.now) c.map.ensures.base ∙ c.par_iter.ensures in
    let h = c.in_ok-pairs.ensures in
    let chain = rw c.map.ensures.f at h.1 in
    let row = λ (e : ℕ × Seg). pairs_with e.0 (ids_sharing e.1 b) in
    let Gives = λ (r : Row) (n : List (ℕ × ℕ)). (e : ℕ × Seg) → IsSharingRow b e r → n ≡ row e in
    if_ok_then c.in_ok-pairs.pairs _ (λ v. v.items ≡ map row a) _ (λ v m.
    m.2 ∙ mapped_through (IsSharingRow b) row a c.args.rows.now m.0 are
    (slice-AllZip chain.0 c.args.rows.now (chain.1 ∙ slice) Gives m.0
    (all_values (λ z n. Gives z.now n) AllocError chain.0 h.0 m.0
    (AllZip-weaken _ (λ z r. IfOk r (Gives z.now)) (λ z r p. if_ok_all r (λ e. IsSharingRow b e z.now) (λ n e. n ≡ row e) (λ e is. p b e serves is)) chain.0 h.0 chain.2) m.1))) h.2
