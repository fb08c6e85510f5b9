use Rattle.std.proofs.Common.{◌≡◌, inl, inr, nat_eq, true, false, set, refl, sym, ◌∙◌, ap, subst, arith}
use Rattle.std.proofs.Common.{get_or-set_same}
use Rattle.std.specs.Option.{option_map}
use Rattle.quilt_pool.specs.Frames.{as_frame}
use Rattle.quilt_pool.proofs.Tables.{framed_as}
use Rattle.std.specs.Map.{set_value}
use Rattle.std.proofs.lemmas.Bool.{cases_eq, false≢true}
use Rattle.quilt_pool.specs.Entries.{is_dirty}
use Rattle.std.proofs.lemmas.Map.{keys-set_value}
use Rattle.quilt_world.proofs.Told.{goes_and}
use Rattle.quilt_journal.proofs.Calls.{goes_from}
use Rattle.quilt_pool.specs.Keeping.{IsWork}
use Rattle.quilt_pool.proofs.Looks.{marked_set}
use Rattle.quilt_pool.proofs.Saving.{goes_none, keeps_set, tries_adds, tries_tore, saved_set, if_some_kept}
use Rattle.quilt_pool.proofs.Draining.{below_clean, marked_clean, clean_here, clean_other, keeps_drained, bytes_clean}
use Rattle.quilt_pool.proofs.pool.Pool.drain_page.Goals as goal

pub write_slot-requires-clause-kept : goal.write_slot-requires-clause-kept
write_slot-requires-clause-kept g c = if_some_kept _ _ _ _ c.requires.kept

pub returns-in_default-clause-kept : goal.returns-in_default-clause-kept
returns-in_default-clause-kept g c = goes_none _ _ _ _ c.requires.kept

pub returns-then-not-is_dirty-clause-kept : goal.returns-then-not-is_dirty-clause-kept
returns-then-not-is_dirty-clause-kept g c = goes_none _ _ _ _ c.requires.kept

pub returns-in_err-write_slot-clause-marked : goal.returns-in_err-write_slot-clause-marked
returns-in_err-write_slot-clause-marked g c =
    let at = (sym c.peek.ensures ∙ ap (option_map as_frame) c.in-Some.is) in
    rw c.in_err-write_slot.ensures.unlisted
    (marked_set c.args.self.now.table.entries c.args.page (framed_as c.in-Some.bytes.now c.in-Some.is_dirty) at c.if-not-is_dirty.false c.args.journal.now.changed false)

pub returns-in_err-write_slot-clause-kept : goal.returns-in_err-write_slot-clause-kept
returns-in_err-write_slot-clause-kept g c =
    let at = (sym c.peek.ensures ∙ ap (option_map as_frame) c.in-Some.is) in
    let j = c.args.journal.now in
    let es = c.args.self.now.table.entries in
    let step = goes_and _ _ _ _ c.in_err-write_slot.ensures.given_up (goes_and _ _ _ _ c.in_err-write_slot.ensures.tore c.in_err-write_slot.ensures.crash) in
    rw c.in_err-write_slot.ensures.unlisted
    (goes_from (IsWork j.pages es j.changed) _ _ _ _ c.requires.kept step (λ o t is h.
    keeps_set j.pages es j.changed false c.args.page (framed_as c.in-Some.bytes.now c.in-Some.is_dirty) _ o t at c.if-not-is_dirty.false is h.0 (tries_tore _ o t h.1.0) h.1.1))

pub returns-clause-kept : goal.returns-clause-kept
returns-clause-kept g c =
    let at = (sym c.peek.ensures ∙ ap (option_map as_frame) c.in-Some.is) in
    let f = (framed_as c.in-Some.bytes.now c.in-Some.is_dirty) in
    let es = c.args.self.now.table.entries in
    let k = c.args.page in
    let j = c.args.journal.now in
    let step = goes_and _ _ _ _ c.in_ok-write_slot.ensures.kept (goes_and _ _ _ _ c.in_ok-write_slot.ensures.wrote c.in_ok-write_slot.ensures.crash) in
    rw (c.clean_frame.ensures.entries f at, c.in_ok-write_slot.ensures.changed)
    (goes_from (IsWork j.pages es j.changed) _ _ _ _ c.requires.kept step (λ o t is h.
    keeps_drained es k f at j.pages j.changed (set j.changed k true) o t
    (keeps_set j.pages es j.changed true k f c.in-Some.bytes.now o t at c.if-not-is_dirty.false is h.0 (tries_adds _ o t refl h.1.0) h.1.1)
    (saved_set j.pages j.changed k c.in-Some.bytes.now o t c.requires.page.1 h.0.2)))

pub returns-clause-below : goal.returns-clause-below
returns-clause-below g c =
    let at = (sym c.peek.ensures ∙ ap (option_map as_frame) c.in-Some.is) in
    rw (c.clean_frame.ensures.entries (framed_as c.in-Some.bytes.now c.in-Some.is_dirty) at)
    (below_clean c.args.self.now.table.entries c.args.page (framed_as c.in-Some.bytes.now c.in-Some.is_dirty) at c.args.journal.now.pages c.requires.below)

pub returns-clause-marked : goal.returns-clause-marked
returns-clause-marked g c =
    let at = (sym c.peek.ensures ∙ ap (option_map as_frame) c.in-Some.is) in
    let f = (framed_as c.in-Some.bytes.now c.in-Some.is_dirty) in
    let es = c.args.self.now.table.entries in
    let k = c.args.page in
    let j = c.args.journal.now in
    rw (c.clean_frame.ensures.entries f at, c.in_ok-write_slot.ensures.changed)
    (λ i. marked_clean es k f at (set j.changed k true) (get_or-set_same j.changed k true false (omega (arith, c.requires.bits, c.requires.page)))
    c.if-not-is_dirty.false i
    ∙ marked_set es k f at c.if-not-is_dirty.false j.changed true i)

pub returns-clause-drained : goal.returns-clause-drained
returns-clause-drained g c =
    let at = (sym c.peek.ensures ∙ ap (option_map as_frame) c.in-Some.is) in
    rw (c.clean_frame.ensures.entries (framed_as c.in-Some.bytes.now c.in-Some.is_dirty) at) (clean_here c.args.self.now.table.entries c.args.page (framed_as c.in-Some.bytes.now c.in-Some.is_dirty) at)

pub returns-clause-others : goal.returns-clause-others
returns-clause-others g c =
    let at = (sym c.peek.ensures ∙ ap (option_map as_frame) c.in-Some.is) in
    rw (c.clean_frame.ensures.entries (framed_as c.in-Some.bytes.now c.in-Some.is_dirty) at) (clean_other c.args.self.now.table.entries c.args.page (framed_as c.in-Some.bytes.now c.in-Some.is_dirty) at)

pub returns-clause-order : goal.returns-clause-order
returns-clause-order g c =
    let at = (sym c.peek.ensures ∙ ap (option_map as_frame) c.in-Some.is) in
    rw (c.clean_frame.ensures.entries (framed_as c.in-Some.bytes.now c.in-Some.is_dirty) at)
    (keys-set_value (nat_eq c.args.page) c.args.self.now.table.entries (record { bytes = c.in-Some.bytes.now; is_dirty = false }))

pub returns-clause-bytes : goal.returns-clause-bytes
returns-clause-bytes g c =
    let at = (sym c.peek.ensures ∙ ap (option_map as_frame) c.in-Some.is) in
    rw (c.clean_frame.ensures.entries (framed_as c.in-Some.bytes.now c.in-Some.is_dirty) at) (bytes_clean c.args.self.now.table.entries c.args.page (framed_as c.in-Some.bytes.now c.in-Some.is_dirty) at)

pub returns-clause-cap : goal.returns-clause-cap
returns-clause-cap g c =
    let at = (sym c.peek.ensures ∙ ap (option_map as_frame) c.in-Some.is) in
    rw (c.clean_frame.ensures.entries (framed_as c.in-Some.bytes.now c.in-Some.is_dirty) at) refl

pub invariant_of-self : goal.invariant_of-self
invariant_of-self g c =
    let at = (sym c.peek.ensures ∙ ap (option_map as_frame) c.in-Some.is) in
    record {
      distinct = c.clean_frame.ensures.valid.0;
      fits = c.clean_frame.ensures.valid.1;
      least = rw (c.clean_frame.ensures.entries (framed_as c.in-Some.bytes.now c.in-Some.is_dirty) at) c.args.self.now.least;
      listed = rw (c.clean_frame.ensures.entries (framed_as c.in-Some.bytes.now c.in-Some.is_dirty) at) (λ i d. elim (cases_eq i c.args.page) [
        | inl same ↦ absurd (false≢true (sym (clean_here c.args.self.now.table.entries c.args.page (framed_as c.in-Some.bytes.now c.in-Some.is_dirty) at) ∙ subst (λ p. is_dirty (set_value (nat_eq c.args.page) c.args.self.now.table.entries (record { bytes = c.in-Some.bytes.now; is_dirty = false })) p ≡ true) same d))
        | inr ne ↦ c.args.self.now.listed i (sym (clean_other c.args.self.now.table.entries c.args.page (framed_as c.in-Some.bytes.now c.in-Some.is_dirty) at i ne) ∙ d)
      ]);
    }
