use Rattle.std.proofs.Common.{◌≡◌, ℕ, suc, ◌+◌, ◌-◌, ◌≤◌, ◌^◌, sym, ◌∙◌, ap, subst, arith, Option, is_some, IfSome}
use Rattle.quilt_types.specs.declared.plane.Block.{Block}
use Rattle.quilt_types.specs.Plane.{side, corner, IsBlock}
use Rattle.quilt_loc.specs.Codes.{code_to}
use Rattle.quilt_tally.specs.declared.tally.Tally.{Tally}
use Rattle.quilt_tally.specs.Tallies.{IsTally, HasPast}
use Rattle.quilt_loc.proofs.Quartered.{Within-whole}
use Rattle.quilt_blocks.specs.Painting.{Painted, grid_by_code}
use Rattle.quilt_blocks.proofs.Squares.{whole_at}
use Rattle.quilt_blocks.proofs.Adding.{whole_next}
use Rattle.quilt_blocks.specs.Adding.{AddsColours}
use Rattle.quilt_raster.specs.Bytes.{cell_colours, from_corner}
use Rattle.quilt_par.specs.Parts.{at_corner}
use Rattle.quilt_raster.proofs.Points.{all_added}
use Rattle.quilt_par.proofs.Quadrants.{half_side, corner_whole, Shows-square}
use Rattle.quilt_par.proofs.square.square_of.Goals as goal

pub add_counted-requires-clause-in_x : goal.add_counted-requires-clause-in_x
add_counted-requires-clause-in_x c =
    let n = c.args.level in
    let least = c.requires.least in
    let is : n ≡ suc (n - 1) = omega arith in
    let half = half_side n (n - 1) c.args.b.side is c.requires.half in
    let w = (Within-whole n c.args.b c.requires.valid).right in
    subst (λ (k : ℕ). c.args.b.x + side k ≤ side n) (sym (ap (λ (m : Painted). m.level) c.new-maker.ensures)) (omega arith)

pub add_counted-requires-clause-in_y : goal.add_counted-requires-clause-in_y
add_counted-requires-clause-in_y c =
    let n = c.args.level in
    let least = c.requires.least in
    let is : n ≡ suc (n - 1) = omega arith in
    let half = half_side n (n - 1) c.args.b.side is c.requires.half in
    let w = (Within-whole n c.args.b c.requires.valid).bottom in
    subst (λ (k : ℕ). c.args.b.y + side k ≤ side n) (sym (ap (λ (m : Painted). m.level) c.new-maker.ensures)) (omega arith)

pub add_counted-requires-clause-valid : goal.add_counted-requires-clause-valid
add_counted-requires-clause-valid c = whole_at _ _ _ (ap (λ (m : Painted). m.level) c.new-maker.ensures) c.whole_square-whole.ensures

pub add_counted-requires-clause-next : goal.add_counted-requires-clause-next
add_counted-requires-clause-next c = whole_next _ _ _ c.whole_square-whole.ensures c.new-maker.ensures

pub returns-in_default-clause-past : goal.returns-in_default-clause-past
returns-in_default-clause-past c = λ none.
    let n = c.args.level in
    let g = cell_colours c.args.colours.now in
    let least = c.requires.least in
    let is : n ≡ suc (n - 1) = omega arith in
    let here = corner_whole n (n - 1) c.args.b c.whole_square-whole.result is c.requires.half c.whole_square-whole.ensures in
    subst (λ (q : Block). HasPast n g q c.args.most) here
    (c.in_ok-tally.ensures.past (subst (IsBlock n) (sym here) c.requires.valid) (ap is_some c.in_default.is))

pub finish-requires : goal.finish-requires
finish-requires c =
    let n = c.args.level in
    let f = from_corner n (cell_colours c.args.colours.now) (corner c.args.b) in
    let all = all_added (n - 1) f _ c.new-maker.result c.add_counted.new.maker c.whole_square-whole.ensures c.new-maker.ensures
    (subst (λ (o : Option Tally). IfSome o (λ t. AddsColours c.new-maker.result.level f (code_to c.whole_square-whole.result) c.new-maker.result c.add_counted.new.maker)) c.in-Some.is
    c.in_ok-tally.ensures.added) in
    all.long ∙ ap (λ (k : ℕ). 4 ^ k) (sym all.level)

pub returns-clause-some : goal.returns-clause-some
returns-clause-some c =
    let n = c.args.level in
    let g = cell_colours c.args.colours.now in
    let b = c.args.b in
    let least = c.requires.least in
    let is : n ≡ suc (n - 1) = omega arith in
    let f = from_corner n g (corner b) in
    let all = all_added (n - 1) f _ c.new-maker.result c.add_counted.new.maker c.whole_square-whole.ensures c.new-maker.ensures
    (subst (λ (o : Option Tally). IfSome o (λ t. AddsColours c.new-maker.result.level f (code_to c.whole_square-whole.result) c.new-maker.result c.add_counted.new.maker)) c.in-Some.is
    c.in_ok-tally.ensures.added) in
    let level = c.finish.ensures.level ∙ all.level in
    let grid = c.finish.ensures.value ∙ ap (λ (k : ℕ). grid_by_code k c.add_counted.new.maker.colours) all.level in
    let here = corner_whole n (n - 1) b c.whole_square-whole.result is c.requires.half c.whole_square-whole.ensures in
    let tally = subst (λ (o : Option Tally). IfSome o (IsTally n g (at_corner (corner b) c.whole_square-whole.result))) c.in-Some.is
    (c.in_ok-tally.ensures.tallied (subst (IsBlock n) (sym here) c.requires.valid)) in
    record {
      shows = Shows-square n (n - 1) g b c.finish.result c.add_counted.new.maker is c.requires.high c.requires.half
          (λ i. record { level = level i; grid = grid i }) all;
      tally = subst (λ (q : Block). IsTally n g q c.in-Some.tally) here tally;
    }
