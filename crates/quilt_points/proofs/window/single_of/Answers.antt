use Rattle.std.proofs.lemmas.Bool.{both_ways}
use Rattle.quilt_points.proofs.Singles.{none_around, single_held}
use Rattle.quilt_btree.proofs.Handed.{handed_on}
use Rattle.quilt_points.proofs.window.single_of.Goals as goal

pub returns-then-not-is_same-clause-read : goal.returns-then-not-is_same-clause-read
returns-then-not-is_same-clause-read g c points h =
    none_around c.args.layer.level c.args.layer.bucket points c.args.b c.in_ok-around.around c.first_in-at.result c.in_ok-around.held
    ((c.in_ok-around.ensures.seen).read points h) c.in_ok-around.ensures.holds c.first_in-at.ensures.holds
    (λ e. both_ways c.is_same.result c.if-not-is_same.true (c.is_same.ensures.no e))

pub returns-clause-read : goal.returns-clause-read
returns-clause-read g c points h =
    single_held c.args.layer.level c.args.layer.bucket points c.args.b c.in_ok-around.around c.in_ok-around.held c.requires.bucket
    (c.is_same.ensures.yes c.if-not-is_same.false) ((c.in_ok-around.ensures.seen).read points h)

pub returns-in_err-around-clause-sound : goal.returns-in_err-around-clause-sound
returns-in_err-around-clause-sound g c = rw (handed_on c.from_residual.result c.from_residual.ensures.1) c.in_err-around.ensures.sound

pub returns-in_err-around-clause-zero : goal.returns-in_err-around-clause-zero
returns-in_err-around-clause-zero g c = rw (handed_on c.from_residual.result c.from_residual.ensures.1) c.in_err-around.ensures.zero

pub returns-in_err-around-clause-bad : goal.returns-in_err-around-clause-bad
returns-in_err-around-clause-bad g c = rw (handed_on c.from_residual.result c.from_residual.ensures.1) c.in_err-around.ensures.bad
