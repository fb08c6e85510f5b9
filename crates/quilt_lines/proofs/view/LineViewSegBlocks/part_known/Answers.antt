use Rattle.std.proofs.Common.{ℕ, List, Contains, ◌∙◌, subst, arith, refl}
use Rattle.std.proofs.lemmas.Option.{MatchOption-at_none, MatchOption-at_some}
use Rattle.quilt_store.proofs.Reading.{only_reads_then, only_reads_ok}
use Rattle.quilt_near.proofs.Knowing.{knows_block}
use Rattle.quilt_lines.proofs.Listed.{same_segments, all_there, each_there, one_pixel}
use Rattle.quilt_lines.proofs.Lookups.{shows_along}
use Rattle.quilt_btree.proofs.Handed.{handed_on}
use Rattle.quilt_btree.proofs.stores.Looks.{only_reads_handed}
use Rattle.quilt_btree.proofs.Stops.{zero_handed, bad_handed}
use Rattle.quilt_lines.proofs.view.LineViewSegBlocks.part_known.Goals as goal

pub returns-in_err-ids-clause-sound : goal.returns-in_err-ids-clause-sound
returns-in_err-ids-clause-sound g c =
    rw (handed_on c.from_residual.result c.from_residual.ensures.1) (λ l h. c.in_err-ids.ensures.sound h.threshold l.segs l.cover h.has)

pub returns-then-b-lt2-clause-sound : goal.returns-then-b-lt2-clause-sound
returns-then-b-lt2-clause-sound g c l h page e =
    let small = c.if-b-lt2.true in
    one_pixel c.args.self.now.level c.args.self.now.layer h.threshold l.segs l.cover c.args.b h.has.spelled.valid c.requires.block (omega arith)
    (c.requires.reached l h)
    (MatchOption-at_none _ _ c.in_default.is (c.in_ok-ids.ensures.ids h.threshold l.segs l.cover h.has (c.requires.known.block l h)))

pub returns-in_default-clause-part : goal.returns-in_default-clause-part
returns-in_default-clause-part g c l h =
    MatchOption-at_none _ _ c.in_default.is (c.in_ok-ids.ensures.ids h.threshold l.segs l.cover h.has (c.requires.known.block l h))

pub returns-in_default-clause-known : goal.returns-in_default-clause-known
returns-in_default-clause-known g c =
    knows_block _ _ _ c.args.known.now _ refl
    (λ l h. c.in_ok-ids.ensures.known h.threshold l.segs l.cover h.has (c.requires.known.block l h))
    (c.mark_of-known.ensures (g.S.PageStore.told c.args.store.now) c.args.self.now.tree c.in_ok-ids.ensures.spot) c.requires.known.ids c.requires.known

pub returns-in_err-list-2-clause-sound : goal.returns-in_err-list-2-clause-sound
returns-in_err-list-2-clause-sound g c =
    rw (handed_on c.from_residual-in_err-list-2.result c.from_residual-in_err-list-2.ensures.1)
    (λ l h. let at = MatchOption-at_some _ _ c.in-Some.ids c.in-Some.is
    (c.in_ok-ids.ensures.ids h.threshold l.segs l.cover h.has (c.requires.known.block l h)) in
    c.in_err-list-2.ensures.sound l
    (shows_along _ _ c.args.self.now.tree c.args.self.now.layer c.args.self.now.level l c.in_ok-ids.ensures.left.told h)
    (λ id m. each_there l.segs c.args.b id (subst (λ (ids : List ℕ). Contains ids id) (c.deref-2.ensures.value ∙ at.are) m)))

pub returns-in_err-list-2-clause-zero : goal.returns-in_err-list-2-clause-zero
returns-in_err-list-2-clause-zero g c =
    zero_handed _ c.from_residual-in_err-list-2.result c.from_residual-in_err-list-2.ensures.1
    c.args.self.now.tree c.in_ok-ids.ensures.left.told c.in_err-list-2.ensures.zero

pub returns-clause-part : goal.returns-clause-part
returns-clause-part g c l h =
    let at = MatchOption-at_some _ _ c.in-Some.ids c.in-Some.is
    (c.in_ok-ids.ensures.ids h.threshold l.segs l.cover h.has (c.requires.known.block l h)) in (
      at.there,
      same_segments l.segs c.in_ok-list-2.list _ (c.in_ok-list-2.ensures.ids ∙ c.deref-2.ensures.value ∙ at.are)
          (c.in_ok-list-2.ensures.found l
          (shows_along _ _ c.args.self.now.tree c.args.self.now.layer c.args.self.now.level l c.in_ok-ids.ensures.left.told h))
          (all_there l.segs c.args.b),
    )

-- where the block at the pixel was found first
pub returns-then-is_none-clause-part : goal.returns-then-is_none-clause-part
returns-then-is_none-clause-part g c l h =
    let at = MatchOption-at_some _ _ c.in-Some.ids c.in-Some.is
    (c.in_ok-ids.ensures.ids h.threshold l.segs l.cover h.has (c.requires.known.block l h)) in (
      at.there,
      same_segments l.segs c.in_ok-list.list _ (c.in_ok-list.ensures.ids ∙ c.deref.ensures.value ∙ at.are)
          (c.in_ok-list.ensures.found l
          (shows_along _ _ c.args.self.now.tree c.args.self.now.layer c.args.self.now.level l c.in_ok-ids.ensures.left.told h))
          (all_there l.segs c.args.b),
    )

pub returns-in_err-list-clause-sound : goal.returns-in_err-list-clause-sound
returns-in_err-list-clause-sound g c =
    rw (handed_on c.from_residual-in_err-list.result c.from_residual-in_err-list.ensures.1) (λ l h.
    let at = MatchOption-at_some _ _ c.in-Some.ids c.in-Some.is
    (c.in_ok-ids.ensures.ids h.threshold l.segs l.cover h.has (c.requires.known.block l h)) in
    c.in_err-list.ensures.sound l
    (shows_along _ _ c.args.self.now.tree c.args.self.now.layer c.args.self.now.level l c.in_ok-ids.ensures.left.told h)
    (λ id m. each_there l.segs c.args.b id (subst (λ (ids : List ℕ). Contains ids id) (c.deref.ensures.value ∙ at.are) m)))

pub returns-in_err-list-clause-zero : goal.returns-in_err-list-clause-zero
returns-in_err-list-clause-zero g c =
    zero_handed _ c.from_residual-in_err-list.result c.from_residual-in_err-list.ensures.1
    c.args.self.now.tree c.in_ok-ids.ensures.left.told c.in_err-list.ensures.zero

pub returns-in_err-list-clause-bad : goal.returns-in_err-list-clause-bad
returns-in_err-list-clause-bad g c =
    bad_handed _ c.from_residual-in_err-list.result c.from_residual-in_err-list.ensures.1
    c.args.self.now.tree c.in_ok-ids.ensures.left.told c.in_err-list.ensures.bad

pub returns-in_err-list-2-clause-bad : goal.returns-in_err-list-2-clause-bad
returns-in_err-list-2-clause-bad g c =
    bad_handed _ c.from_residual-in_err-list-2.result c.from_residual-in_err-list-2.ensures.1
    c.args.self.now.tree c.in_ok-ids.ensures.left.told c.in_err-list-2.ensures.bad

pub returns-in_err-list-clause-left : goal.returns-in_err-list-clause-left
returns-in_err-list-clause-left g c =
    only_reads_handed _ c.from_residual-in_err-list.ensures.1
    (only_reads_then _ g.met.S.PageStore.goes_on _ _ _ c.in_ok-ids.ensures.left c.in_err-list.ensures.left)

pub returns-then-is_none-clause-left : goal.returns-then-is_none-clause-left
returns-then-is_none-clause-left g c = only_reads_ok _ (only_reads_then _ g.met.S.PageStore.goes_on _ _ _ c.in_ok-ids.ensures.left c.in_ok-list.ensures.left) _

pub returns-in_err-list-2-clause-left : goal.returns-in_err-list-2-clause-left
returns-in_err-list-2-clause-left g c =
    only_reads_handed _ c.from_residual-in_err-list-2.ensures.1
    (only_reads_then _ g.met.S.PageStore.goes_on _ _ _ c.in_ok-ids.ensures.left c.in_err-list-2.ensures.left)

pub returns-clause-left : goal.returns-clause-left
returns-clause-left g c = only_reads_ok _ (only_reads_then _ g.met.S.PageStore.goes_on _ _ _ c.in_ok-ids.ensures.left c.in_ok-list-2.ensures.left) _

pub returns-in_err-ids-clause-zero : goal.returns-in_err-ids-clause-zero
returns-in_err-ids-clause-zero g c = rw (handed_on c.from_residual.result c.from_residual.ensures.1) c.in_err-ids.ensures.zero

pub returns-in_err-ids-clause-bad : goal.returns-in_err-ids-clause-bad
returns-in_err-ids-clause-bad g c = rw (handed_on c.from_residual.result c.from_residual.ensures.1) c.in_err-ids.ensures.bad
