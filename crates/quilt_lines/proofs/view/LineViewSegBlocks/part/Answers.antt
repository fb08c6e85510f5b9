use Rattle.std.proofs.Common.{ℕ, ◌+◌, ◌*◌, List, Contains, length, sym, ◌∙◌, ap, subst, arith, vec_len}
use Rattle.std.proofs.lemmas.List.{length-map}
use Rattle.std.proofs.lemmas.Option.{MatchOption-at_none, MatchOption-at_some}
use Rattle.quilt_types.specs.declared.plane.Seg.{Seg}
use Rattle.quilt_store.proofs.Reading.{only_reads_then, only_reads_err, only_reads_ok}
use Rattle.quilt_lines.proofs.Listed.{same_segments, all_there, each_there, one_pixel}
use Rattle.quilt_lines.specs.Said.{SayIds, records_at}
use Rattle.quilt_lines.proofs.Lookups.{lines_along}
use Rattle.quilt_lines.proofs.Sums.{reads_sum, reads_more}
use Rattle.quilt_btree.proofs.Handed.{handed_on}
use Rattle.quilt_btree.proofs.Stops.{tree_along, zero_handed, bad_handed}
use Rattle.quilt_lines.proofs.view.LineViewSegBlocks.part.Goals as goal

pub returns-in_err-ids-clause-sound : goal.returns-in_err-ids-clause-sound
returns-in_err-ids-clause-sound g c =
    rw (handed_on c.from_residual.result c.from_residual.ensures.1) (λ l h. c.in_err-ids.ensures.sound h.threshold l.segs l.cover h.has)

pub returns-then-b-le1-clause-sound : goal.returns-then-b-le1-clause-sound
returns-then-b-le1-clause-sound g c l h page e =
    one_pixel c.args.self.now.level c.args.self.now.layer h.threshold l.segs l.cover c.args.b h.has.spelled.valid c.requires.block c.if-b-le1.true
    (c.requires.reached l h)
    (MatchOption-at_none _ _ c.in_default.is (c.in_ok-ids.ensures.ids h.threshold l.segs l.cover h.has))

pub returns-in_default-clause-part : goal.returns-in_default-clause-part
returns-in_default-clause-part g c l h = MatchOption-at_none _ _ c.in_default.is (c.in_ok-ids.ensures.ids h.threshold l.segs l.cover h.has)

pub returns-in_err-list-clause-sound : goal.returns-in_err-list-clause-sound
returns-in_err-list-clause-sound g c =
    rw (handed_on c.from_residual-in_err-list.result c.from_residual-in_err-list.ensures.1)
    (λ l h. let at = MatchOption-at_some _ _ c.in-Some.ids c.in-Some.is (c.in_ok-ids.ensures.ids h.threshold l.segs l.cover h.has) in
    c.in_err-list.ensures.sound h.threshold l.segs l.cover
    (lines_along _ _ c.args.self.now.tree c.args.self.now.layer c.args.self.now.level h.threshold l.segs l.cover c.in_ok-ids.ensures.left.told h.has)
    (λ id m. each_there l.segs c.args.b id (subst (λ (ids : List ℕ). Contains ids id) (c.deref.ensures.value ∙ at.are) m)))

pub returns-clause-part : goal.returns-clause-part
returns-clause-part g c l h =
    let at = MatchOption-at_some _ _ c.in-Some.ids c.in-Some.is (c.in_ok-ids.ensures.ids h.threshold l.segs l.cover h.has) in (
      at.there,
      same_segments l.segs c.in_ok-list.list _ (c.in_ok-list.ensures.ids ∙ c.deref.ensures.value ∙ at.are)
          (c.in_ok-list.ensures.found h.threshold l.segs l.cover
          (lines_along _ _ c.args.self.now.tree c.args.self.now.layer c.args.self.now.level h.threshold l.segs l.cover c.in_ok-ids.ensures.left.told h.has))
          (all_there l.segs c.args.b),
    )

pub returns-in_err-list-clause-left : goal.returns-in_err-list-clause-left
returns-in_err-list-clause-left g c =
    rw (handed_on c.from_residual-in_err-list.result c.from_residual-in_err-list.ensures.1)
    (only_reads_err _ (only_reads_then _ g.met.S.PageStore.goes_on _ _ _ c.in_ok-ids.ensures.left c.in_err-list.ensures.left))

pub returns-in_default-clause-said : goal.returns-in_default-clause-said
returns-in_default-clause-said g c rs is =
    MatchOption-at_none _ _ c.in_default.is (c.in_ok-ids.ensures.said rs is)

pub returns-in_default-clause-reads : goal.returns-in_default-clause-reads
returns-in_default-clause-reads g c =
    reads_more _ _ 6 12 (omega arith) (MatchOption-at_none _ _ c.in_default.is c.in_ok-ids.ensures.reads)

pub returns-in_err-list-clause-zero : goal.returns-in_err-list-clause-zero
returns-in_err-list-clause-zero g c =
    zero_handed _ c.from_residual-in_err-list.result c.from_residual-in_err-list.ensures.1
    c.args.self.now.tree c.in_ok-ids.ensures.left.told c.in_err-list.ensures.zero

pub returns-clause-said : goal.returns-clause-said
returns-clause-said g c rs is =
    let n = c.args.self.now.level in
    let layer = c.args.self.now.layer in
    let ids = MatchOption-at_some _ _ c.in-Some.ids c.in-Some.is (c.in_ok-ids.ensures.said rs is) in (
      subst (λ (l : List ℕ). SayIds n layer c.args.b (records_at n layer c.args.b rs) l) (sym (c.in_ok-list.ensures.ids ∙ c.deref.ensures.value)) ids,
      c.in_ok-list.ensures.said rs (tree_along _ _ c.args.self.now.tree rs c.in_ok-ids.ensures.left.told is),
    )

pub returns-clause-reads : goal.returns-clause-reads
returns-clause-reads g c =
    let many = ap length c.in_ok-list.ensures.ids in
    let len = c.deref.ensures.len in
    let all = length-map c.in_ok-list.list (λ (e : ℕ × Seg). e.0) in
    reads_sum _ _ _ (9 + 3 * vec_len c.in-Some.ids) (3 * length c.in_ok-list.list) (12 + 6 * length c.in_ok-list.list) (omega arith)
    (MatchOption-at_some _ _ c.in-Some.ids c.in-Some.is c.in_ok-ids.ensures.reads) c.in_ok-list.ensures.reads

pub returns-in_err-list-clause-bad : goal.returns-in_err-list-clause-bad
returns-in_err-list-clause-bad g c =
    bad_handed _ c.from_residual-in_err-list.result c.from_residual-in_err-list.ensures.1
    c.args.self.now.tree c.in_ok-ids.ensures.left.told c.in_err-list.ensures.bad

pub returns-clause-left : goal.returns-clause-left
returns-clause-left g c = only_reads_ok _ (only_reads_then _ g.met.S.PageStore.goes_on _ _ _ c.in_ok-ids.ensures.left c.in_ok-list.ensures.left) _

pub returns-in_err-ids-clause-zero : goal.returns-in_err-ids-clause-zero
returns-in_err-ids-clause-zero g c = rw (handed_on c.from_residual.result c.from_residual.ensures.1) c.in_err-ids.ensures.zero

pub returns-in_err-ids-clause-bad : goal.returns-in_err-ids-clause-bad
returns-in_err-ids-clause-bad g c = rw (handed_on c.from_residual.result c.from_residual.ensures.1) c.in_err-ids.ensures.bad
