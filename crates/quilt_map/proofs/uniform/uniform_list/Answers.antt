use Rattle.std.proofs.Common.{ℕ, ◌^◌, sym, ◌∙◌, ap}
use Rattle.quilt_blocks.specs.Painting.{Painted, grid_by_code}
use Rattle.quilt_blocks.proofs.Squares.{whole_at}
use Rattle.quilt_blocks.proofs.Adding.{whole_next, Adds-all}
use Rattle.quilt_map.proofs.plans.Uniforms.{square_added}
use Rattle.quilt_map.proofs.uniform.uniform_list.Goals as goal

pub push-requires-clause-valid : goal.push-requires-clause-valid
push-requires-clause-valid c = whole_at _ _ _ (ap (λ (m : Painted). m.level) c.new-maker.ensures) c.whole_square.ensures

pub push-requires-clause-next : goal.push-requires-clause-next
push-requires-clause-next c = whole_next _ _ _ c.whole_square.ensures c.new-maker.ensures

pub finish-requires : goal.finish-requires
finish-requires c =
    let all = square_added c.args.level c.args.c.0 _ c.new-maker.result c.push.new.self c.requires.most c.whole_square.ensures c.new-maker.ensures
    c.in_ok-push.ensures.ok in
    all.long ∙ ap (λ (k : ℕ). 4 ^ k) (sym all.level)

pub returns : goal.returns
returns c =
    let n = c.args.level in
    let new = c.push.new.self in
    let most = c.requires.most in
    let all = square_added n c.args.c.0 _ c.new-maker.result new most c.whole_square.ensures c.new-maker.ensures c.in_ok-push.ensures.ok in
    let level = c.finish.ensures.level ∙ all.level in
    let grid = c.finish.ensures.value ∙ ap (λ (k : ℕ). grid_by_code k new.colours) all.level ∙ Adds-all n (λ p. c.args.c.0) new most all in
    λ i. record { level = level i; grid = grid i }
