use Rattle.std.proofs.lemmas.Bool.{cases_Bool}
use Rattle.quilt_pool.proofs.Dirt.{dirt_promoted, dirt_after}
use Rattle.std.proofs.Common.{◌≡◌, inl, inr, true, ℕ, ◌≤◌, Option, nat_eq, Some, None, IsSome, [], false, refl, sym, ◌∙◌, subst}
use Rattle.lru.specs.LruCache.{LruCache, promoted, put_entries}
use Rattle.quilt_pool.specs.declared.frame.Frame.{Frame}
use Rattle.quilt_pool.specs.Entries.{is_dirty, frame_at, bytes_or, page_over}
use Rattle.quilt_pool.specs.Passing.{IsPassedOn}
use Rattle.quilt_pool.proofs.Looks.{promoted_at}
use Rattle.quilt_pool.proofs.Entering.{below_same, marked_same, goes_same, goes_read, goes_entered, goes_named, marked_entered, marked_named, below_put}
use Rattle.quilt_pool.proofs.Entering.{below_named}
use Rattle.quilt_pool.proofs.Touching.{promoted_touches, put_touches}
use Rattle.quilt_store.specs.Store.{Touches}
use Rattle.std.specs.Map.{keys_of}
use Rattle.std.specs.Option.{IfSome}
use Rattle.quilt_journal.specs.Kept.{work}
use Rattle.quilt_pool.proofs.Lent.{all_told, over_there, put_here, bytes_entered}
use Rattle.quilt_pool.proofs.pool.Pool.bring.Goals as goal

pub returns-then-touch_frame-clause-below : goal.returns-then-touch_frame-clause-below
returns-then-touch_frame-clause-below g c =
    let es = c.args.self.now.table.entries in
    rw (c.touch_frame.ensures.entries c.if-touch_frame.true)
    (below_same es (promoted (nat_eq c.args.page) es) (promoted_at c.args.page es) c.args.journal.now.pages c.requires.below)

pub returns-then-touch_frame-clause-marked : goal.returns-then-touch_frame-clause-marked
returns-then-touch_frame-clause-marked g c =
    let es = c.args.self.now.table.entries in
    rw (c.touch_frame.ensures.entries c.if-touch_frame.true)
    (marked_same es (promoted (nat_eq c.args.page) es) (promoted_at c.args.page es) c.args.journal.now.changed)

pub returns-then-touch_frame-clause-kept : goal.returns-then-touch_frame-clause-kept
returns-then-touch_frame-clause-kept g c =
    let es = c.args.self.now.table.entries in
    rw (c.touch_frame.ensures.entries c.if-touch_frame.true)
    (goes_same es (promoted (nat_eq c.args.page) es) (promoted_at c.args.page es) c.args.journal.now.pages c.args.journal.now.changed _ c.requires.kept)

pub returns-in_default-read_page-clause-kept : goal.returns-in_default-read_page-clause-kept
returns-in_default-read_page-clause-kept g c =
    let j = c.make_room.new.journal in
    goes_named _ _ _ _ c.touch_frame.new.table c.args.self.now.table _ _ (c.touch_frame.ensures.lost c.if-touch_frame.false).1
    (goes_read c.args.journal.now.pages c.args.page c.touch_frame.new.table c.args.journal.now.changed j.changed _ _ c.make_room.ensures.kept j.pages
    j.state _ c.make_room.ensures.journal.0 (c.make_room.ensures.journal.1 ∙ c.requires.idle) c.read_page.ensures.kept c.read_page.ensures.nothing)

pub returns-in_err-put_frame-clause-kept : goal.returns-in_err-put_frame-clause-kept
returns-in_err-put_frame-clause-kept g c =
    let j = c.make_room.new.journal in
    rw c.in_err-put_frame.ensures.same
    (goes_named _ _ _ _ c.touch_frame.new.table c.args.self.now.table _ _ (c.touch_frame.ensures.lost c.if-touch_frame.false).1
    (goes_read c.args.journal.now.pages c.args.page c.touch_frame.new.table c.args.journal.now.changed j.changed _ _ c.make_room.ensures.kept j.pages
    j.state _ c.make_room.ensures.journal.0 (c.make_room.ensures.journal.1 ∙ c.requires.idle) c.read_page.ensures.kept c.read_page.ensures.nothing))

pub returns-clause-kept : goal.returns-clause-kept
returns-clause-kept g c =
    let j = c.make_room.new.journal in
    let table = c.touch_frame.new.table in
    let same = (c.touch_frame.ensures.lost c.if-touch_frame.false).1 in
    let lost = subst (λ (x : LruCache ℕ Frame). frame_at x.entries c.args.page ≡ None) (sym same) (c.touch_frame.ensures.lost c.if-touch_frame.false).0 in
    rw c.in_ok-put_frame.ensures.entries
    (goes_named _ _ _ _ table c.args.self.now.table _ _ same
    (goes_entered c.args.journal.now.pages c.args.page table c.args.journal.now.changed j.changed _ _ c.make_room.ensures.kept j.pages j.state _
    c.make_room.ensures.journal.0 (c.make_room.ensures.journal.1 ∙ c.requires.idle) c.read_page.ensures.kept c.read_page.ensures.nothing
    c.read_page.new.into c.touch_frame.ensures.valid.2 c.touch_frame.ensures.valid.1 lost c.in-Ok.ensures.saved c.in-Ok-read_page.ensures.bytes))

pub returns-clause-below : goal.returns-clause-below
returns-clause-below g c =
    let table = c.touch_frame.new.table in
    let same = (c.touch_frame.ensures.lost c.if-touch_frame.false).1 in
    rw c.in_ok-put_frame.ensures.entries
    (below_put table c.args.page (record { bytes = c.read_page.new.into; is_dirty = false }) c.touch_frame.ensures.valid.2
    c.touch_frame.ensures.valid.1 c.args.journal.now.pages c.requires.page (below_named _ c.args.self.now.table table (sym same) c.requires.below))

pub returns-clause-marked : goal.returns-clause-marked
returns-clause-marked g c =
    let j = c.make_room.new.journal in
    let table = c.touch_frame.new.table in
    let same = (c.touch_frame.ensures.lost c.if-touch_frame.false).1 in
    let lost = subst (λ (x : LruCache ℕ Frame). frame_at x.entries c.args.page ≡ None) (sym same) (c.touch_frame.ensures.lost c.if-touch_frame.false).0 in
    rw c.in_ok-put_frame.ensures.entries
    (λ i. marked_entered table c.args.page c.read_page.new.into j.changed c.touch_frame.ensures.valid.2 c.touch_frame.ensures.valid.1 lost
    c.in-Ok.ensures.listed i
    ∙ c.make_room.ensures.marked i ∙ marked_named table c.args.self.now.table c.args.journal.now.changed i same)

there : (o : Option Frame) → IsSome o → o ≡ None → ⊥
there None h e = absurd cc
there (Some f) h e = cc

pub returns-then-touch_frame-clause-touched : goal.returns-then-touch_frame-clause-touched
returns-then-touch_frame-clause-touched g c =
    let es = c.args.self.now.table.entries in
    rw (c.touch_frame.ensures.entries c.if-touch_frame.true)
    (promoted_touches c.args.page es (there (frame_at es c.args.page) (c.touch_frame.ensures.found c.if-touch_frame.true))
    c.args.self.now.distinct)

pub returns-clause-touched : goal.returns-clause-touched
returns-clause-touched g c =
    let table = c.touch_frame.new.table in
    let same = (c.touch_frame.ensures.lost c.if-touch_frame.false).1 in
    rw c.in_ok-put_frame.ensures.entries
    (subst (λ (x : LruCache ℕ Frame). Touches c.args.page (keys_of x.entries)
    (keys_of (put_entries nat_eq table c.args.page (record { bytes = c.read_page.new.into; is_dirty = false })))) same
    (put_touches table c.args.page (record { bytes = c.read_page.new.into; is_dirty = false })
    (subst (λ (x : LruCache ℕ Frame). 8 ≤ x.cap) (sym same) c.args.self.now.least) c.touch_frame.ensures.valid.0))

pub returns-then-touch_frame-clause-there : goal.returns-then-touch_frame-clause-there
returns-then-touch_frame-clause-there g c =
    let es = c.args.self.now.table.entries in
    rw (c.touch_frame.ensures.entries c.if-touch_frame.true)
    (subst IsSome (sym (promoted_at c.args.page es c.args.page)) (c.touch_frame.ensures.found c.if-touch_frame.true))

pub returns-then-touch_frame-clause-bytes : goal.returns-then-touch_frame-clause-bytes
returns-then-touch_frame-clause-bytes g c =
    let es = c.args.self.now.table.entries in
    let j = c.args.journal.now in
    rw (c.touch_frame.ensures.entries c.if-touch_frame.true, promoted_at c.args.page es c.args.page)
    (all_told (λ old. bytes_or [] (frame_at es c.args.page) ≡ page_over es (work old j.pages j.changed) c.args.page) _
    (λ t. over_there (frame_at es c.args.page) _ (c.touch_frame.ensures.found c.if-touch_frame.true)))

pub returns-clause-there : goal.returns-clause-there
returns-clause-there g c =
    let table = c.touch_frame.new.table in
    let v : Frame = record { bytes = c.read_page.new.into; is_dirty = false } in
    rw c.in_ok-put_frame.ensures.entries
    (subst IsSome (sym (put_here table c.args.page v c.touch_frame.ensures.valid.2 c.touch_frame.ensures.valid.1)) refl)

pub returns-clause-bytes : goal.returns-clause-bytes
returns-clause-bytes g c =
    let j = c.make_room.new.journal in
    let old = c.args.journal.now in
    let table = c.touch_frame.new.table in
    let v : Frame = record { bytes = c.read_page.new.into; is_dirty = false } in
    let same = (c.touch_frame.ensures.lost c.if-touch_frame.false).1 in
    let lost = subst (λ (x : LruCache ℕ Frame). frame_at x.entries c.args.page ≡ None) (sym same) (c.touch_frame.ensures.lost c.if-touch_frame.false).0 in
    rw (c.in_ok-put_frame.ensures.entries, put_here table c.args.page v c.touch_frame.ensures.valid.2 c.touch_frame.ensures.valid.1)
    (subst (λ (x : LruCache ℕ Frame). IfSome (g.D.Disk.told c.args.disk.now) (λ a. c.read_page.new.into ≡ page_over x.entries (work a old.pages old.changed) c.args.page)) same
    (bytes_entered old.pages c.args.page table.entries old.changed j.changed _ _ c.make_room.ensures.kept j.pages c.make_room.ensures.journal.0 lost
    c.read_page.new.into c.in-Ok-read_page.ensures.bytes))

pub invariant_of-self-clause-listed : goal.invariant_of-self-clause-listed
invariant_of-self-clause-listed g c = λ i d.
    let s = c.args.self.now in
    elim (cases_Bool c.touch_frame.result) [
      | inl t ↦ s.listed i (dirt_promoted c.args.page s.table.entries i
          (subst (λ (x : LruCache ℕ Frame). is_dirty x.entries i ≡ true) (c.touch_frame.ensures.entries t) d))
      | inr n ↦ s.listed i (subst (λ (x : LruCache ℕ Frame). is_dirty x.entries i ≡ true) (c.touch_frame.ensures.lost n).1 d)
    ]

pub invariant_of-self-2-clause-listed : goal.invariant_of-self-2-clause-listed
invariant_of-self-2-clause-listed g c = λ i d.
    let t = c.touch_frame.new.table in
    c.args.self.now.listed i (subst (λ (x : LruCache ℕ Frame). is_dirty x.entries i ≡ true) (c.touch_frame.ensures.lost c.if-touch_frame.false).1
    (dirt_after c.put_frame.result t c.put_frame.new.table c.args.page c.read_page.new.into i c.touch_frame.ensures.valid.2 c.touch_frame.ensures.valid.1
    c.put_frame.ensures.entries c.put_frame.ensures.same d))

pub returns-in_err-put_frame-clause-fault : goal.returns-in_err-put_frame-clause-fault
returns-in_err-put_frame-clause-fault g c is gone =
    subst (λ (x : LruCache ℕ Frame). IsPassedOn x c.make_room.new.journal.changed) (c.touch_frame.ensures.lost c.if-touch_frame.false).1
    (c.in-Ok.ensures.listed (subst (λ (x : LruCache ℕ Frame). frame_at x.entries c.args.page ≡ None)
    (sym (c.touch_frame.ensures.lost c.if-touch_frame.false).1) gone))

pub returns-in_err-put_frame-clause-read : goal.returns-in_err-put_frame-clause-read
returns-in_err-put_frame-clause-read g c is =
    let j = c.make_room.new.journal in
    let old = c.args.journal.now in
    let table = c.touch_frame.new.table in
    let same = (c.touch_frame.ensures.lost c.if-touch_frame.false).1 in
    let lost = subst (λ (x : LruCache ℕ Frame). frame_at x.entries c.args.page ≡ None) (sym same) (c.touch_frame.ensures.lost c.if-touch_frame.false).0 in
    subst (λ (x : LruCache ℕ Frame). IfSome (g.D.Disk.told c.args.disk.now) (λ a. c.read_page.new.into ≡ page_over x.entries (work a old.pages old.changed) c.args.page)) same
    (bytes_entered old.pages c.args.page table.entries old.changed j.changed _ _ c.make_room.ensures.kept j.pages c.make_room.ensures.journal.0 lost
    c.read_page.new.into c.in-Ok-read_page.ensures.bytes)
