use Rattle.std.proofs.Common.{◌≡◌, true, sym, ◌∙◌, ap, subst}
use Rattle.std.specs.Ordering.{is_lt}
use Rattle.quilt_record.specs.Records.{key_cmp}
use Rattle.quilt_node.specs.Pages.{is_ascending}
use Rattle.quilt_btree.specs.Batches.{edit_keys, key_of}
use Rattle.quilt_btree.proofs.batches.Whole.{follows_all}
use Rattle.quilt_batch.proofs.merge.follows.Goals as goal

pub returns-else-n-eq0 : goal.returns-else-n-eq0
returns-else-n-eq0 c =
    rw (← c.edits-edits.ensures.edits)
    (follows_all c.edits-edits.result.now (key_of c.args.edit.now) c.key.result.now c.precedes.result c.if-n-eq0.false
    (subst (λ l. is_ascending (edit_keys l) ≡ true) (sym c.edits-edits.ensures.edits) c.edits-edits.ensures.order) c.key.ensures
    (c.precedes.ensures ∙ ap (λ k. is_lt (key_cmp c.key.result.now k)) c.key-else-n-eq0.ensures))
