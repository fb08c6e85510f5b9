use Rattle.std.proofs.Common.{◌+◌, List, length, map, sum, eqb-true, ap, refl, sym, ◌∙◌, subst}
use Rattle.std.specs.List.{AllZip}
use Rattle.quilt_join.specs.declared.rows.Row.{Row}
use Rattle.quilt_join.specs.Rows.{IsSharingRow}
use Rattle.quilt_join.proofs.Gathered.{part_counted, part_listed, part_few, are_many, all_listed}
use Rattle.quilt_join.proofs.join.all_pairs.Goals as goal

pub returns-in-None : goal.returns-in-None
returns-in-None g c b serves =
    let part = c.split_at.result.0.now in
    let found = c.deref-in-loop-rest.result.now in
    are_many c.args.list.now b (c.loop-rest.total + sum found) _ c.in-None.ensures.many
    (part_counted b c.args.list.now c.loop-rest.rest.now part c.split_at.result.1.now c.split_at.ensures.by_index.0 c.deref.result.now found c.loop-rest.total
    (c.loop-rest.total + sum found)
    (subst (λ (rows : List Row). AllZip (IsSharingRow b) part rows) (sym c.deref.ensures.value) (c.in_ok-rows.ensures b serves))
    (c.deref-in-loop-rest.ensures.value ∙ c.in_ok-counts.ensures) refl (c.loop-rest.invariant.counted b serves))

pub pairs_for-requires-clause-few : goal.pairs_for-requires-clause-few
pairs_for-requires-clause-few g c lifetimes lives =
    part_few c.deref-in-loop-rest-2.result.now c.deref-in-loop-rest.result.now c.loop-rest.total c.in-Some.all
    (c.deref-in-loop-rest.ensures.value ∙ c.in_ok-counts.ensures
    ∙ ap (map (λ row. row.count)) (c.deref.ensures.value ∙ sym c.deref-in-loop-rest-2.ensures.value)) c.in-Some.ensures.sum c.in-Some.ensures.few

pub loop-rest-preserved : goal.loop-rest-preserved
loop-rest-preserved g c =
    let part = c.split_at.result.0.now in
    let after = c.split_at.result.1.now in
    let rest = c.loop-rest.rest.now in
    record {
      few = c.in-Some.ensures.few;
      counted = λ b serves.
          part_counted b c.args.list.now rest part after c.split_at.ensures.by_index.0 c.deref.result.now c.deref-in-loop-rest.result.now c.loop-rest.total
          c.in-Some.all
          (subst (λ (rows : List Row). AllZip (IsSharingRow b) part rows) (sym c.deref.ensures.value) (c.in_ok-rows.ensures b serves))
          (c.deref-in-loop-rest.ensures.value ∙ c.in_ok-counts.ensures) c.in-Some.ensures.sum (c.loop-rest.invariant.counted b serves);
      listed = λ b serves.
          part_listed b c.args.list.now rest part after c.split_at.ensures.by_index.0 c.loop-rest.pairs c.append_all.new.pairs
          c.deref-in-loop-rest-3.result.now
          (c.deref-in-loop-rest-3.ensures.value ∙ c.in_ok-lists.ensures b part serves
          (subst (λ (rows : List Row). AllZip (IsSharingRow b) part rows) (sym c.deref-in-loop-rest-2.ensures.value) (c.in_ok-rows.ensures b serves)))
          c.in_ok-append_all.ensures (c.loop-rest.invariant.listed b serves);
    }

pub returns : goal.returns
returns g c b serves =
    all_listed c.args.list.now b c.loop-rest.rest.now c.loop-rest.pairs c.loop-rest.total (eqb-true (length c.loop-rest.rest.now) 0 (sym c.loop-rest-test.ensures))
    c.loop-rest.invariant.few (c.loop-rest.invariant.counted b serves) (c.loop-rest.invariant.listed b serves)
