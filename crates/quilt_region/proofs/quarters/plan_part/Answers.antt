use Rattle.std.proofs.Common.{◌*◌, ◌++◌, List, length, ◌∙◌, ap}
use Rattle.quilt_record.specs.declared.record.Record.{Record}
use Rattle.quilt_region.specs.Windows.{leaves_within}
use Rattle.quilt_region.proofs.Counting.{reads_plain}
use Rattle.quilt_region.proofs.Results.{only_reads_no_fault}
use Rattle.quilt_btree.proofs.Handed.{handed_on}
use Rattle.quilt_btree.proofs.ways.Damage.{zero_names}
use Rattle.quilt_region.proofs.quarters.plan_part.Goals as goal

pub returns-in_err-records-clause-sound : goal.returns-in_err-records-clause-sound
returns-in_err-records-clause-sound g c =
    rw (handed_on c.from_residual.result c.from_residual.ensures.1) (λ grid h knows. c.in_err-records.ensures.sound grid h)

pub returns-in_err-edits-clause-sound : goal.returns-in_err-edits-clause-sound
returns-in_err-edits-clause-sound g c =
    rw (handed_on c.from_residual-in_err-edits.result c.from_residual-in_err-edits.ensures.1)
    (λ grid h knows. c.in_err-edits.ensures.sound grid (c.deref.ensures.value ∙ c.in_ok-records.ensures.records grid h) knows)

pub returns-clause-reads : goal.returns-clause-reads
returns-clause-reads g c grid h = reads_plain 6 (3 * length (leaves_within c.args.level grid c.args.known.now.read)) _ _ (c.in_ok-records.ensures.reads grid h)

pub returns-in_err-edits-clause-zero : goal.returns-in_err-edits-clause-zero
returns-in_err-edits-clause-zero g c =
    rw (handed_on c.from_residual-in_err-edits.result c.from_residual-in_err-edits.ensures.1) (λ rs is. c.in_err-edits.ensures.zero)

pub returns-in_err-edits-clause-bad : goal.returns-in_err-edits-clause-bad
returns-in_err-edits-clause-bad g c =
    rw (handed_on c.from_residual-in_err-edits.result c.from_residual-in_err-edits.ensures.1) (zero_names _ _ _ _ c.in_err-edits.ensures.zero)

pub returns-in_err-edits-clause-left : goal.returns-in_err-edits-clause-left
returns-in_err-edits-clause-left g c =
    only_reads_no_fault _ _ c.from_residual-in_err-edits.ensures.1 c.in_err-edits.ensures.no_fault c.in_ok-records.ensures.left

pub returns-clause-remove : goal.returns-clause-remove
returns-clause-remove g c grid h knows =
    c.in-Ok.ensures.remove ∙ ap (λ (l : List Record). c.args.remove.now.items ++ l)
    (c.in_ok-edits.ensures.plan grid (c.deref.ensures.value ∙ c.in_ok-records.ensures.records grid h) knows).remove

pub returns-clause-add : goal.returns-clause-add
returns-clause-add g c grid h knows =
    c.in-Ok.ensures.add ∙ ap (λ (l : List Record). c.args.add.now.items ++ l)
    (c.in_ok-edits.ensures.plan grid (c.deref.ensures.value ∙ c.in_ok-records.ensures.records grid h) knows).add

pub returns-in_err-records-clause-zero : goal.returns-in_err-records-clause-zero
returns-in_err-records-clause-zero g c = rw (handed_on c.from_residual.result c.from_residual.ensures.1) c.in_err-records.ensures.zero

pub returns-in_err-records-clause-bad : goal.returns-in_err-records-clause-bad
returns-in_err-records-clause-bad g c = rw (handed_on c.from_residual.result c.from_residual.ensures.1) c.in_err-records.ensures.bad
