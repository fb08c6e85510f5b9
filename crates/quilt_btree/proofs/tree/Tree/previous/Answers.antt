use Rattle.std.proofs.Common.{◌≡◌, ◌≢◌, subst, arith, le_refl}
use Rattle.quilt_btree.specs.Cursors.{IsSought}
use Rattle.quilt_store.proofs.Reading.{only_reads_then, only_reads_ok, only_reads_err}
use Rattle.quilt_world.proofs.ReadCounts.{reads_then}
use Rattle.quilt_btree.proofs.stores.Looks.{only_reads_handed, reads_less, twice_read}
use Rattle.quilt_btree.proofs.subtrees.Whole.{tree_spells}
use Rattle.quilt_btree.proofs.ranges.Rests.{along_tree}
use Rattle.quilt_btree.proofs.cursors.Lowers.{none_back, back_over}
use Rattle.quilt_btree.proofs.Handed.{handed_on}
use Rattle.quilt_btree.proofs.tree.Tree.previous.Goals as goal
use Rattle.quilt_btree.proofs.tree.Tree.previous.Goals.{else-c-gt0-via-then-c-gt0+else-c-records_in, else-c-gt0-via-else-c-gt0}

pub returns-in_err-lower_under-clause-sound : goal.returns-in_err-lower_under-clause-sound
returns-in_err-lower_under-clause-sound g c =
    rw (handed_on c.from_residual.result c.from_residual.ensures.1) (λ rs is. let ne : c.args.self.now.height ≢ 0 = let h = c.requires.some in omega arith in
    c.in_err-lower_under.ensures.sound rs (tree_spells (g.S.PageStore.told c.args.store.now) c.args.self.now rs ne is).0)

pub returns-in-None-clause-previous : goal.returns-in-None-clause-previous
returns-in-None-clause-previous g c before after is s =
    let zero : c.args.c.now.place ≡ 0 = elim c.else-c-gt0.branch [
      | else-c-gt0-via-then-c-gt0+else-c-records_in w ↦ absurd (let e = w.records_in.ensures.all in let h = w.if-c-records_in.false in
          let r = s.in_range in omega arith)
      | else-c-gt0-via-else-c-gt0 w ↦ let h = w.if-c-gt0.false in omega arith
    ] in
    let found = rw c.in-None.is at c.in_ok-lower_under.ensures.lower in
    none_back (g.S.PageStore.told c.args.store.now) c.args.self.now c.args.c.now c.rec_in-first.result before after c.requires.some zero
    c.rec_in-first.ensures.stands found is s

pub returns-in-Err-clause-sound : goal.returns-in-Err-clause-sound
returns-in-Err-clause-sound g c rs is =
    c.in-Err.ensures.sound rs
    (along_tree (g.S.PageStore.told c.args.store.now) (g.S.PageStore.told c.lower_under.new.store) c.args.self.now rs c.in_ok-lower_under.ensures.left.told is)

pub returns-in-Ok-clause-previous : goal.returns-in-Ok-clause-previous
returns-in-Ok-clause-previous g c before after is s =
    let zero : c.args.c.now.place ≡ 0 = elim c.else-c-gt0.branch [
      | else-c-gt0-via-then-c-gt0+else-c-records_in w ↦ absurd (let e = w.records_in.ensures.all in let h = w.if-c-records_in.false in
          let r = s.in_range in omega arith)
      | else-c-gt0-via-else-c-gt0 w ↦ let h = w.if-c-gt0.false in omega arith
    ] in
    let found = rw c.in-Some.is at c.in_ok-lower_under.ensures.lower in
    let same = c.in_ok-lower_under.ensures.left.told in
    back_over (g.S.PageStore.told c.args.store.now) c.args.self.now c.args.c.now c.rec_in-first.result before after c.in-Ok.found
    c.requires.some zero c.rec_in-first.ensures.stands found
    (λ rs t. subst (λ o. IsSought o c.args.self.now c.in-Ok.found c.in-Some.r.key rs) same (c.in-Ok.ensures.sought rs
    (along_tree (g.S.PageStore.told c.args.store.now) (g.S.PageStore.told c.lower_under.new.store) c.args.self.now rs same t)))
    is s

pub returns-in_err-lower_under-clause-left : goal.returns-in_err-lower_under-clause-left
returns-in_err-lower_under-clause-left g c = only_reads_handed _ c.from_residual.ensures.1 c.in_err-lower_under.ensures.left

pub returns-in-None-clause-left : goal.returns-in-None-clause-left
returns-in-None-clause-left g c = only_reads_ok _ c.in_ok-lower_under.ensures.left _

pub returns-in-Err-clause-left : goal.returns-in-Err-clause-left
returns-in-Err-clause-left g c = only_reads_err _ (only_reads_then _ g.met.S.PageStore.goes_on _ _ _ c.in_ok-lower_under.ensures.left c.in-Err.ensures.left)

pub returns-in-Ok-clause-left : goal.returns-in-Ok-clause-left
returns-in-Ok-clause-left g c = only_reads_ok _ (only_reads_then _ g.met.S.PageStore.goes_on _ _ _ c.in_ok-lower_under.ensures.left c.in-Ok.ensures.left) _

pub returns-in_err-lower_under-clause-reads : goal.returns-in_err-lower_under-clause-reads
returns-in_err-lower_under-clause-reads g c =
    reads_less 5 3 _ _ (twice_read c.args.self.now.height _ _ c.requires.rooted.height c.in_err-lower_under.ensures.reads)

pub returns-in-None-clause-reads : goal.returns-in-None-clause-reads
returns-in-None-clause-reads g c = reads_less 5 3 _ _ (twice_read c.args.self.now.height _ _ c.requires.rooted.height c.in_ok-lower_under.ensures.reads)

pub returns-in-Err-clause-reads : goal.returns-in-Err-clause-reads
returns-in-Err-clause-reads g c =
    reads_then 5 3 8 _ _ _ (le_refl 8) (twice_read c.args.self.now.height _ _ c.requires.rooted.height c.in_ok-lower_under.ensures.reads) c.in-Err.ensures.reads

pub returns-in-Ok-clause-reads : goal.returns-in-Ok-clause-reads
returns-in-Ok-clause-reads g c =
    reads_then 5 3 8 _ _ _ (le_refl 8) (twice_read c.args.self.now.height _ _ c.requires.rooted.height c.in_ok-lower_under.ensures.reads) c.in-Ok.ensures.reads
