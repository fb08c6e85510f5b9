use Rattle.std.proofs.Common.{◌≡◌, Some, true, false, set, refl, sym, ◌∙◌, ap, arith}
use Rattle.std.specs.Option.{option_map}
use Rattle.lru.specs.LruCache.{last_entry}
use Rattle.quilt_world.proofs.Told.{goes_and, goes_now}
use Rattle.quilt_journal.proofs.Calls.{goes_from}
use Rattle.quilt_journal.specs.Kept.{IsIdle, published, work}
use Rattle.quilt_pool.specs.Frames.{as_entry}
use Rattle.quilt_pool.specs.Keeping.{IsWork, IsSaved}
use Rattle.quilt_pool.proofs.Looks.{last_found, marked_set}
use Rattle.quilt_pool.proofs.Tables.{framed_as}
use Rattle.quilt_pool.proofs.Saving.{goes_none, keeps_set, tries_adds, tries_tore, saved_set, saved_last, listed_last, if_some, if_some_kept}
use Rattle.quilt_pool.proofs.pool.Pool.save_last.Goals as goal

pub returns-then-len-get-clause-kept : goal.returns-then-len-get-clause-kept
returns-then-len-get-clause-kept g c = goes_none _ _ _ _ c.requires.kept

pub returns-in_default-clause-kept : goal.returns-in_default-clause-kept
returns-in_default-clause-kept g c = goes_none _ _ _ _ c.requires.kept

pub returns-else-is_dirty-clause-kept : goal.returns-else-is_dirty-clause-kept
returns-else-is_dirty-clause-kept g c = goes_none _ _ _ _ c.requires.kept

-- what `peek_lru` gave is the last entry
given : {A B : Type 0} (f : A → B) (o : _) (x : A) (l : _) → option_map f o ≡ l → o ≡ Some x → l ≡ Some (f x)
given f o x l is some = sym is ∙ ap (option_map f) some

pub write_slot-requires-clause-page : goal.write_slot-requires-clause-page
write_slot-requires-clause-page g c =
    let at = last_found c.args.self.now.table.entries c.in-Some.page (framed_as c.in-Some.bytes.now c.in-Some.is_dirty) c.args.self.now.distinct
    (sym c.peek_lru.ensures ∙ ap (option_map as_entry) c.in-Some.is) in
    (c.requires.below.each c.in-Some.page (framed_as c.in-Some.bytes.now c.in-Some.is_dirty) at).1

pub write_slot-requires-clause-kept : goal.write_slot-requires-clause-kept
write_slot-requires-clause-kept g c = if_some_kept _ _ _ _ c.requires.kept

pub returns-in_err-write_slot-clause-marked : goal.returns-in_err-write_slot-clause-marked
returns-in_err-write_slot-clause-marked g c =
    let at = last_found c.args.self.now.table.entries c.in-Some.page (framed_as c.in-Some.bytes.now c.in-Some.is_dirty) c.args.self.now.distinct
    (sym c.peek_lru.ensures ∙ ap (option_map as_entry) c.in-Some.is) in
    rw c.in_err-write_slot.ensures.unlisted
    (marked_set c.args.self.now.table.entries c.in-Some.page (framed_as c.in-Some.bytes.now c.in-Some.is_dirty) at c.if-is_dirty.true c.args.journal.now.changed false)

pub returns-in_ok-write_slot-clause-marked : goal.returns-in_ok-write_slot-clause-marked
returns-in_ok-write_slot-clause-marked g c =
    let at = last_found c.args.self.now.table.entries c.in-Some.page (framed_as c.in-Some.bytes.now c.in-Some.is_dirty) c.args.self.now.distinct
    (sym c.peek_lru.ensures ∙ ap (option_map as_entry) c.in-Some.is) in
    rw c.in_ok-write_slot.ensures.changed
    (marked_set c.args.self.now.table.entries c.in-Some.page (framed_as c.in-Some.bytes.now c.in-Some.is_dirty) at c.if-is_dirty.true c.args.journal.now.changed true)

pub returns-in_err-write_slot-clause-kept : goal.returns-in_err-write_slot-clause-kept
returns-in_err-write_slot-clause-kept g c =
    let at = last_found c.args.self.now.table.entries c.in-Some.page (framed_as c.in-Some.bytes.now c.in-Some.is_dirty) c.args.self.now.distinct
    (sym c.peek_lru.ensures ∙ ap (option_map as_entry) c.in-Some.is) in
    let j = c.args.journal.now in
    let es = c.args.self.now.table.entries in
    let step = goes_and _ _ _ _ c.in_err-write_slot.ensures.given_up (goes_and _ _ _ _ c.in_err-write_slot.ensures.tore c.in_err-write_slot.ensures.crash) in
    rw c.in_err-write_slot.ensures.unlisted
    (goes_from (IsWork j.pages es j.changed) _ _ _ _ c.requires.kept step (λ o t is h.
    keeps_set j.pages es j.changed false c.in-Some.page (framed_as c.in-Some.bytes.now c.in-Some.is_dirty) _ o t at c.if-is_dirty.true is h.0 (tries_tore _ o t h.1.0) h.1.1))

pub returns-in_ok-write_slot-clause-kept : goal.returns-in_ok-write_slot-clause-kept
returns-in_ok-write_slot-clause-kept g c =
    let at = last_found c.args.self.now.table.entries c.in-Some.page (framed_as c.in-Some.bytes.now c.in-Some.is_dirty) c.args.self.now.distinct
    (sym c.peek_lru.ensures ∙ ap (option_map as_entry) c.in-Some.is) in
    let j = c.args.journal.now in
    let es = c.args.self.now.table.entries in
    let step = goes_and _ _ _ _ c.in_ok-write_slot.ensures.kept (goes_and _ _ _ _ c.in_ok-write_slot.ensures.wrote c.in_ok-write_slot.ensures.crash) in
    rw c.in_ok-write_slot.ensures.changed
    (goes_from (IsWork j.pages es j.changed) _ _ _ _ c.requires.kept step (λ o t is h.
    keeps_set j.pages es j.changed true c.in-Some.page (framed_as c.in-Some.bytes.now c.in-Some.is_dirty) c.in-Some.bytes.now o t at c.if-is_dirty.true is h.0
    (tries_adds _ o t refl h.1.0) h.1.1))

pub returns-in_ok-write_slot-clause-listed : goal.returns-in_ok-write_slot-clause-listed
returns-in_ok-write_slot-clause-listed g c =
    let last = sym c.peek_lru.ensures ∙ ap (option_map as_entry) c.in-Some.is in
    let at = last_found c.args.self.now.table.entries c.in-Some.page (framed_as c.in-Some.bytes.now c.in-Some.is_dirty) c.args.self.now.distinct last in
    let within = (c.requires.below.each c.in-Some.page (framed_as c.in-Some.bytes.now c.in-Some.is_dirty) at).1 in
    λ full page f is dirty. rw c.in_ok-write_slot.ensures.changed
    (listed_last c.args.journal.now.changed (last_entry c.args.self.now.table.entries) c.in-Some.page (framed_as c.in-Some.bytes.now c.in-Some.is_dirty) last
    (omega (arith, c.requires.bits, within)) page f is)

pub returns-in_ok-write_slot-clause-saved : goal.returns-in_ok-write_slot-clause-saved
returns-in_ok-write_slot-clause-saved g c =
    let last = sym c.peek_lru.ensures ∙ ap (option_map as_entry) c.in-Some.is in
    let at = last_found c.args.self.now.table.entries c.in-Some.page (framed_as c.in-Some.bytes.now c.in-Some.is_dirty) c.args.self.now.distinct last in
    let within = (c.requires.below.each c.in-Some.page (framed_as c.in-Some.bytes.now c.in-Some.is_dirty) at).1 in
    let j = c.args.journal.now in
    rw c.in_ok-write_slot.ensures.changed
    (goes_now (λ o t. IsIdle j.pages (set j.changed c.in-Some.page true) t × (published t j.pages ≡ published o j.pages)
    × (work t j.pages (set j.changed c.in-Some.page true) ≡ set (work o j.pages j.changed) c.in-Some.page c.in-Some.bytes.now))
    (λ new. IsSaved c.args.self.now.table (work new j.pages (set j.changed c.in-Some.page true))) _ _ c.in_ok-write_slot.ensures.kept (λ o t h.
    saved_last c.args.self.now.table (work t j.pages (set j.changed c.in-Some.page true)) c.in-Some.page (framed_as c.in-Some.bytes.now c.in-Some.is_dirty) last
    (saved_set j.pages j.changed c.in-Some.page c.in-Some.bytes.now o t within h.2)))

pub returns-else-is_dirty-clause-saved : goal.returns-else-is_dirty-clause-saved
returns-else-is_dirty-clause-saved g c =
    let last = sym c.peek_lru.ensures ∙ ap (option_map as_entry) c.in-Some.is in
    let at = last_found c.args.self.now.table.entries c.in-Some.page (framed_as c.in-Some.bytes.now c.in-Some.is_dirty) c.args.self.now.distinct last in
    let j = c.args.journal.now in
    if_some (IsWork j.pages c.args.self.now.table.entries j.changed) (λ new. IsSaved c.args.self.now.table (work new j.pages j.changed))
    _ c.requires.kept (λ t is.
    saved_last c.args.self.now.table (work t j.pages j.changed) c.in-Some.page (framed_as c.in-Some.bytes.now c.in-Some.is_dirty) last
    (is.clean.each c.in-Some.page (framed_as c.in-Some.bytes.now c.in-Some.is_dirty) at c.if-is_dirty.false))
