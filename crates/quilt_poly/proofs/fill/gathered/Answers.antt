use Rattle.std.proofs.Common.{ℕ, ◌^◌, refl, sym, ◌∙◌, ap}
use Rattle.quilt_types.specs.Plane.{side}
use Rattle.quilt_blocks.specs.Painting.{grid_by_code}
use Rattle.quilt_blocks.proofs.Squares.{whole_at}
use Rattle.quilt_blocks.proofs.Adding.{whole_next, Adds-whole, Adds-all}
use Rattle.quilt_poly.specs.Bits.{colour_in}
use Rattle.quilt_poly.proofs.fill.gathered.Goals as goal

pub fill-requires-clause-valid : goal.fill-requires-clause-valid
fill-requires-clause-valid c = whole_at _ _ _ refl c.whole_square-whole.ensures

pub fill-requires-clause-next : goal.fill-requires-clause-next
fill-requires-clause-next c = whole_next _ _ _ c.whole_square-whole.ensures c.new-maker.ensures

pub finish-requires : goal.finish-requires
finish-requires c =
    let n = c.args.level in
    let f = colour_in c.args.words.now (side n) c.args.c.0 in
    let all = Adds-whole n n f c.whole_square-whole.result c.new-maker.result c.fill.new.maker
    refl c.whole_square-whole.ensures c.new-maker.ensures c.in_ok-fill.ensures in
    all.long ∙ ap (λ (k : ℕ). 4 ^ k) (sym all.level)

pub returns : goal.returns
returns c =
    let n = c.args.level in
    let f = colour_in c.args.words.now (side n) c.args.c.0 in
    let new = c.fill.new.maker in
    let all = Adds-whole n n f c.whole_square-whole.result c.new-maker.result new refl c.whole_square-whole.ensures c.new-maker.ensures c.in_ok-fill.ensures in
    let level = c.finish.ensures.level ∙ all.level in
    let grid = c.finish.ensures.value ∙ ap (λ (k : ℕ). grid_by_code k new.colours) all.level ∙ Adds-all n f new c.requires.most all in
    λ i. record { level = level i; grid = grid i }
