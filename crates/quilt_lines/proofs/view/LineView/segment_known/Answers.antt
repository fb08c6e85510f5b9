use Rattle.std.proofs.Common.{◌≡◌, true, refl, sym, ◌∙◌}
use Rattle.std.proofs.lemmas.Result.{err_from_is_err_and}
use Rattle.std.proofs.lemmas.Option.{none-some}
use Rattle.quilt_types.specs.Layers.{is_in_square}
use Rattle.quilt_near.specs.declared.known.Known.{Known}
use Rattle.quilt_near.proofs.Knowing.{knows_more, knows_block}
use Rattle.quilt_lines.proofs.Lookups.{if_some_at}
use Rattle.quilt_btree.proofs.Handed.{handed_on}
use Rattle.quilt_lines.proofs.view.LineView.segment_known.Goals as goal

pub returns-in_err-s-clause-sound : goal.returns-in_err-s-clause-sound
returns-in_err-s-clause-sound g c =
    let p = err_from_is_err_and c.from_residual.result c.from_residual.ensures.1 in
    rw (p.1, p.2) (λ l h s e. c.in_err-s.ensures.sound h.threshold l.segs l.cover h.has)

pub returns-in_default-2-clause-sound : goal.returns-in_default-2-clause-sound
returns-in_default-2-clause-sound g c l h s e page p =
    none-some s (sym c.in_default-2.is ∙ c.in_ok-s.ensures.segment h.threshold l.segs l.cover h.has ∙ e)

pub returns-in-Ok-clause-found : goal.returns-in-Ok-clause-found
returns-in-Ok-clause-found g c l h = sym (c.in_ok-s.ensures.segment h.threshold l.segs l.cover h.has) ∙ c.in-Some-2.is

pub returns-in-Ok-clause-known : goal.returns-in-Ok-clause-known
returns-in-Ok-clause-known g c =
    let was = c.args.known.now in
    let old : Known = record { at = was.at; block = was.block; pairs = was.pairs; ids = c.mark_of-known.result; segs = was.segs } in
    knows_more old c.keep.new.self c.args.id c.in-Some-2.s c.in-Ok.ensures.here c.in-Ok.ensures.others _ _ _
    (knows_block _ _ _ was old refl c.requires.known.block c.requires.known.pairs
    (c.mark_of-known.ensures (g.S.PageStore.told c.args.store.now) c.args.self.now.tree c.in_ok-s.ensures.spot) c.requires.known)
    c.in-Ok.ensures.block c.in-Ok.ensures.pairs c.in-Ok.ensures.ids
    (if_some_at c.in_ok-s.field-0 (λ s. is_in_square c.args.self.now.level s ≡ true) c.in-Some-2.s c.in-Some-2.is c.in_ok-s.ensures.inside)
    (λ l h. sym (c.in_ok-s.ensures.segment h.threshold l.segs l.cover h.has) ∙ c.in-Some-2.is)

pub returns-in_err-s-clause-zero : goal.returns-in_err-s-clause-zero
returns-in_err-s-clause-zero g c = rw (handed_on c.from_residual.result c.from_residual.ensures.1) c.in_err-s.ensures.zero

pub returns-in_err-s-clause-bad : goal.returns-in_err-s-clause-bad
returns-in_err-s-clause-bad g c = rw (handed_on c.from_residual.result c.from_residual.ensures.1) c.in_err-s.ensures.bad
