use Rattle.std.proofs.Common.{ap, ◌∙◌}
use Rattle.std.specs.Prelude.{IfOk}
use Rattle.std.specs.List.{AllZip}
use Rattle.std.specs.declared.alloc.AllocError.{AllocError}
use Rattle.rayon.proofs.ListFacts.{AllZip-weaken}
use Rattle.rayon.proofs.ToStd.{slice-AllZip}
use Rattle.quilt_join.specs.Rows.{IsSharingRow}
use Rattle.quilt_join.proofs.Gathered.{all_values, if_ok_then}
use Rattle.quilt_join.proofs.join.rows_for.Goals as goal

pub returns : goal.returns
returns g c b serves =
    let slice = ap (λ it. it.slice.now) c.map.ensures.base ∙ c.par_iter.ensures in
    let h = c.in_ok-rows.ensures in
    let chain = rw c.map.ensures.f at h.1 in
    if_ok_then c.in_ok-rows.rows _ (λ v. AllZip (IsSharingRow b) c.args.list.now v.items) _ (λ v m.
    rw m.2 (slice-AllZip chain.0 c.args.list.now (chain.1 ∙ slice) (IsSharingRow b) m.0
    (all_values (λ z r. IsSharingRow b z.now r) AllocError chain.0 h.0 m.0
    (AllZip-weaken _ (λ z r. IfOk r (IsSharingRow b z.now)) (λ z r p. p b serves) chain.0 h.0 chain.2) m.1))) h.2
