use Rattle.std.proofs.Common.{◌+◌, ◌*◌, cond, length, ◌∙◌, arith}
use Rattle.std.proofs.lemmas.Result.{IfOk-weaker, IfErr-weaker}
use Rattle.quilt_blocks.specs.Cutting.{leaves_by_code}
use Rattle.quilt_measure.proofs.Parts.{same_leaves}
use Rattle.quilt_store.proofs.Reading.{only_reads_then}
use Rattle.quilt_world.proofs.ReadCounts.{reads_then}
use Rattle.quilt_region.proofs.Walking.{ahead_along, has_side, some_records, walk_begins, stands_along, stands_sought}
use Rattle.quilt_btree.proofs.Handed.{handed_on}
use Rattle.quilt_btree.proofs.Stops.{sound_handed}
use Rattle.quilt_btree.proofs.ways.Damage.{named_along}
use Rattle.quilt_region.proofs.walk.leaf_counts.Goals as goal

pub returns-in_err-cursor-clause-sound : goal.returns-in_err-cursor-clause-sound
returns-in_err-cursor-clause-sound g c =
    rw (handed_on c.from_residual.result c.from_residual.ensures.1) (λ grid h. c.in_err-cursor.ensures.sound h.records h.tree)

pub returns-then-tree-eq0-clause-sound : goal.returns-then-tree-eq0-clause-sound
returns-then-tree-eq0-clause-sound g c grid h page e =
    some_records (g.S.PageStore.told c.args.store.now) c.args.tree.now c.args.layer c.args.level grid c.requires.level.1 h c.if-tree-eq0.true

pub returns-clause-counts : goal.returns-clause-counts
returns-clause-counts g c =
    IfOk-weaker c.count_ahead.result _ _
    (λ counts f grid h k le.
    f grid (ahead_along (g.S.PageStore.told c.args.store.now) (g.S.PageStore.told c.seek.new.store) c.args.tree.now c.in_ok-cursor.cursor c.args.layer c.args.level
    (leaves_by_code c.args.level grid) c.in_ok-cursor.ensures.left.told
    (walk_begins _ _ _ c.args.level grid c.requires.level.1 h c.in_ok-cursor.cursor _ c.first_key.ensures (c.in_ok-cursor.ensures.sought h.records h.tree))) k le
    ∙ same_leaves c.args.level grid (λ e. cond (has_side k e) 1 0) c.requires.level.1)
    c.count_ahead.ensures.counts

pub returns-clause-sound : goal.returns-clause-sound
returns-clause-sound g c =
    IfErr-weaker c.count_ahead.result _ _
    (λ e f grid h.
    f grid (ahead_along (g.S.PageStore.told c.args.store.now) (g.S.PageStore.told c.seek.new.store) c.args.tree.now c.in_ok-cursor.cursor c.args.layer c.args.level
    (leaves_by_code c.args.level grid) c.in_ok-cursor.ensures.left.told
    (walk_begins _ _ _ c.args.level grid c.requires.level.1 h c.in_ok-cursor.cursor _ c.first_key.ensures (c.in_ok-cursor.ensures.sought h.records h.tree))))
    c.count_ahead.ensures.sound

pub returns-clause-reads : goal.returns-clause-reads
returns-clause-reads g c =
    IfOk-weaker c.count_ahead.result _ _
    (λ counts f grid h.
    reads_then 3 (3 + 3 * length (leaves_by_code c.args.level grid)) (6 + 3 * length (leaves_by_code c.args.level grid)) _ _ _ (omega arith) c.in_ok-cursor.ensures.reads
    (f grid (ahead_along (g.S.PageStore.told c.args.store.now) (g.S.PageStore.told c.seek.new.store) c.args.tree.now c.in_ok-cursor.cursor c.args.layer c.args.level
    (leaves_by_code c.args.level grid) c.in_ok-cursor.ensures.left.told
    (walk_begins _ _ _ c.args.level grid c.requires.level.1 h c.in_ok-cursor.cursor _ c.first_key.ensures (c.in_ok-cursor.ensures.sought h.records h.tree)))))
    c.count_ahead.ensures.reads

pub returns-in_err-cursor-clause-zero : goal.returns-in_err-cursor-clause-zero
returns-in_err-cursor-clause-zero g c = sound_handed c.from_residual.result c.from_residual.ensures.1 c.in_err-cursor.ensures.sound

pub returns-clause-zero : goal.returns-clause-zero
returns-clause-zero g c =
    IfErr-weaker c.count_ahead.result _ _
    (λ e zero rs is.
    zero (stands_along _ _ _ _ c.in_ok-cursor.ensures.left.told (stands_sought _ _ _ _ rs is (c.in_ok-cursor.ensures.sought rs is))))
    c.count_ahead.ensures.zero

pub returns-in_err-cursor-clause-bad : goal.returns-in_err-cursor-clause-bad
returns-in_err-cursor-clause-bad g c =
    rw (handed_on c.from_residual.result c.from_residual.ensures.1) (λ other. c.in_err-cursor.ensures.bad)

pub returns-clause-bad : goal.returns-clause-bad
returns-clause-bad g c =
    named_along c.count_ahead.result _ _ _ _ c.in_ok-cursor.ensures.left.told c.count_ahead.ensures.bad

pub returns-clause-left : goal.returns-clause-left
returns-clause-left g c = only_reads_then _ g.met.S.PageStore.goes_on _ _ _ c.in_ok-cursor.ensures.left c.count_ahead.ensures.left
