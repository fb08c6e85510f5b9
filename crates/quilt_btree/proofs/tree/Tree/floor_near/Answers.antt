use Rattle.std.proofs.Common.{ℕ, List, Option, IfErr, subst, le_refl}
use Rattle.quilt_record.specs.declared.record.Record.{Record}
use Rattle.quilt_store.specs.Stops.{IsNotDamage}
use Rattle.quilt_btree.specs.Trees.{IsTree}
use Rattle.quilt_store.proofs.Reading.{only_reads_then}
use Rattle.quilt_world.proofs.ReadCounts.{reads_then}
use Rattle.quilt_btree.proofs.stores.Looks.{only_reads_handed, reads_less}
use Rattle.quilt_btree.proofs.subtrees.Whole.{no_floor}
use Rattle.quilt_btree.proofs.tree.Tree.floor_near.Goals as goal

pub returns-then-self-eq0-clause-floor : goal.returns-then-self-eq0-clause-floor
returns-then-self-eq0-clause-floor g c = λ rs is. no_floor (g.S.PageStore.told c.args.store.now) c.args.self.now rs c.args.k.now c.if-self-eq0.true is

pub returns-in-None-floor_at_finger-clause-sound : goal.returns-in-None-floor_at_finger-clause-sound
returns-in-None-floor_at_finger-clause-sound g c =
    subst (λ (o : Option (List (List ℕ))). IfErr c.floor.result (λ e. (rs : List Record) → IsTree o c.args.self.now rs → IsNotDamage e))
    c.in_ok-put_finger.ensures.left.told c.floor.ensures.sound

pub returns-in_err-put_finger-clause-left : goal.returns-in_err-put_finger-clause-left
returns-in_err-put_finger-clause-left g c = only_reads_handed _ c.from_residual.ensures.1 c.in_err-put_finger.ensures.left

pub returns-in-None-floor_at_finger-clause-left : goal.returns-in-None-floor_at_finger-clause-left
returns-in-None-floor_at_finger-clause-left g c = only_reads_then _ g.met.S.PageStore.goes_on _ _ _ c.in_ok-put_finger.ensures.left c.floor.ensures.left

pub returns-in_err-put_finger-clause-reads : goal.returns-in_err-put_finger-clause-reads
returns-in_err-put_finger-clause-reads g c = reads_less 3 6 _ _ c.in_err-put_finger.ensures.reads

pub returns-in-None-floor_at_finger-clause-reads : goal.returns-in-None-floor_at_finger-clause-reads
returns-in-None-floor_at_finger-clause-reads g c = reads_then 3 6 9 _ _ _ (le_refl 9) c.in_ok-put_finger.ensures.reads c.floor.ensures.reads
