use Rattle.std.proofs.Common.{rules, ◌≡◌, [], ◌∷◌, ◌++◌, length, ◌-◌, ap, ◌∙◌}
use Rattle.std.proofs.lemmas.List.{length-map}
use Rattle.quilt_types.specs.Rings.{with_corner}
use Rattle.quilt_types.proofs.rings.RingList.push.Goals as goal
use Rattle.quilt_types.proofs.Growing.{grown, unchanged, before_last}

-- src/rings.rt:51:9
pub returns-in_err-push-clause-err : goal.returns-in_err-push-clause-err
returns-in_err-push-clause-err c =
    let same = unchanged (λ r. r.items) c.self.inside.rings.items (c.len-last.result - 1) _ c.push.new.self c.index_mut.ensures.value (search rules) in
    search rules

-- src/rings.rt:45:5
pub returns-clause-ok : goal.returns-clause-ok
returns-clause-ok c =
    let size = length-map c.self.inside.rings.items (λ r. r.items) in
    let seen = ap length c.self.view_is in
    let more = before_last _ _ _ c.len-last.result size seen c.requires.begun (c.len-last.ensures ∙ c.self.inside.rings.ok.0) in
    let added : c.push.new.self.items ≡ c.index_mut.result.now.items ++ c.args.c ∷ [] = search rules in
    grown (λ r. r.items) c.self.inside.rings.items (c.len-last.result - 1) _ c.push.new.self c.args.c more c.index_mut.ensures.value added
    ∙ ap (λ rs. with_corner rs c.args.c) c.self.view_is
