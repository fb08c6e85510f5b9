use Rattle.std.proofs.Common.{◌≡◌, ℕ, ◌-◌, nat_eq, ◌∷◌, None, length, take, sym, ◌∙◌, ap, subst, arith}
use Rattle.std.specs.Map.{lookup}
use Rattle.std.specs.Option.{is_some}
use Rattle.lru.specs.LruCache.{LruCache, lru_cache, promoted}
use Rattle.quilt_pool.specs.Frames.{Places, frame_in, framed, holders, IsShared}
use Rattle.quilt_pool.proofs.Looks.{promoted_none}
use Rattle.quilt_pool.proofs.Sharing.{held_below, held_once, shared_promoted, count_kept}
use Rattle.quilt_pool.proofs.Tables.{there_place, seen_written, seen_entered}
use Rattle.quilt_pool.proofs.table.put_frame.Goals as goal

pub fill_frame-requires-clause-within : goal.fill_frame-requires-clause-within
fill_frame-requires-clause-within c =
    let t = c.table.inside in
    let n = length t.frames.items in
    let i = c.table.invariant in
    let below = held_below n t.places.entries t.free.items i.0 c.args.page c.in-Some.at (sym c.front_place.ensures.value ∙ c.in-Some.is) in
    omega (arith, below)

pub fill_frame-requires-clause-room : goal.fill_frame-requires-clause-room
fill_frame-requires-clause-room c = λ end.
    let t = c.table.inside in
    let n = length t.frames.items in
    let i = c.table.invariant in
    let below = held_below n t.places.entries t.free.items i.0 c.args.page c.in-Some.at (sym c.front_place.ensures.value ∙ c.in-Some.is) in
    absurd (omega (arith, below, end))

pub invariant_of-table : goal.invariant_of-table
invariant_of-table c =
    let t = c.table.inside in
    let n = length t.frames.items in
    let i = c.table.invariant in
    let below = held_below n t.places.entries t.free.items i.0 c.args.page c.in-Some.at (sym c.front_place.ensures.value ∙ c.in-Some.is) in
    let kept = c.fill_frame.ensures.len ∙ count_kept n c.in-Some.at below in
    rw c.front_place.ensures.entries (
      subst (λ m. IsShared m (promoted (nat_eq c.args.page) t.places.entries) t.free.items) (sym kept)
          (shared_promoted n t.places.entries t.free.items i.0 c.args.page),
      c.fill_frame.ensures.lists,
      omega (arith, kept, i.2),
      omega (arith, i.3, c.fill_frame.ensures.capacity.0),
      omega (arith, i.4, c.fill_frame.ensures.capacity.1),
      i.5,
    )

pub returns-in-Some-clause-entries : goal.returns-in-Some-clause-entries
returns-in-Some-clause-entries c =
    let t = c.table.inside in
    let n = length t.frames.items in
    let i = c.table.invariant in
    let at = c.in-Some.at in
    let g = frame_in c.fill_frame.new.frames.items c.fill_frame.new.dirty.items in
    ap (λ (p : LruCache ℕ ℕ). lru_cache (framed g p.entries) p.cap) c.front_place.ensures.entries
    ∙ seen_written t.places.entries (frame_in t.frames.items t.dirty.items) t.places.cap _ c.table.view_is g at c.fill_frame.ensures.others
    (record { bytes = c.args.bytes.now; is_dirty = c.args.is_dirty }) c.fill_frame.ensures.here c.args.page
    (sym c.front_place.ensures.value ∙ c.in-Some.is) (held_once n t.places.entries t.free.items i.0 at)

pub enter_place-requires-clause-shared : goal.enter_place-requires-clause-shared
enter_place-requires-clause-shared c =
    let t = c.table.inside in
    let n = length t.frames.items in
    let i = c.table.invariant in
    let none = sym c.front_place.ensures.value ∙ c.in_default.is in
    let same = c.front_place.ensures.entries ∙ ap (λ (l : Places). lru_cache l t.places.cap) (promoted_none c.args.page t.places.entries none) in
    subst (λ m. IsShared m c.front_place.new.places.entries t.free.items) (sym (c.len-count.ensures ∙ t.frames.ok.0))
    (subst (λ (p : LruCache ℕ ℕ). IsShared n p.entries t.free.items) (sym same) i.0)

pub enter_place-requires-clause-lost : goal.enter_place-requires-clause-lost
enter_place-requires-clause-lost c =
    let t = c.table.inside in
    let n = length t.frames.items in
    let i = c.table.invariant in
    let none = sym c.front_place.ensures.value ∙ c.in_default.is in
    let same = c.front_place.ensures.entries ∙ ap (λ (l : Places). lru_cache l t.places.cap) (promoted_none c.args.page t.places.entries none) in
    subst (λ (p : LruCache ℕ ℕ). lookup (nat_eq c.args.page) p.entries ≡ None) (sym same) none

pub invariant_of-table-in_default-enter_place : goal.invariant_of-table-in_default-enter_place
invariant_of-table-in_default-enter_place c =
    let t = c.table.inside in
    let n = length t.frames.items in
    let i = c.table.invariant in
    let none = sym c.front_place.ensures.value ∙ c.in_default.is in
    let same = c.front_place.ensures.entries ∙ ap (λ (l : Places). lru_cache l t.places.cap) (promoted_none c.args.page t.places.entries none) in
    let back = c.in_default-enter_place.ensures.same in
    rw (back.0 ∙ same, back.1) (i.0, i.1, i.2, i.3, i.4, omega (arith, i.5, c.enter_place.ensures.capacity))

pub returns-in_default-enter_place-clause-same : goal.returns-in_default-enter_place-clause-same
returns-in_default-enter_place-clause-same c =
    let t = c.table.inside in
    let n = length t.frames.items in
    let i = c.table.invariant in
    let none = sym c.front_place.ensures.value ∙ c.in_default.is in
    let same = c.front_place.ensures.entries ∙ ap (λ (l : Places). lru_cache l t.places.cap) (promoted_none c.args.page t.places.entries none) in
    ap (λ (p : LruCache ℕ ℕ). lru_cache (framed (frame_in t.frames.items t.dirty.items) p.entries) p.cap)
    (c.in_default-enter_place.ensures.same.0 ∙ same) ∙ c.table.view_is

pub returns-in_default-enter_place-clause-there : goal.returns-in_default-enter_place-clause-there
returns-in_default-enter_place-clause-there c = λ there.
    let t = c.table.inside in
    let n = length t.frames.items in
    let i = c.table.invariant in
    let none = sym c.front_place.ensures.value ∙ c.in_default.is in
    let same = c.front_place.ensures.entries ∙ ap (λ (l : Places). lru_cache l t.places.cap) (promoted_none c.args.page t.places.entries none) in
    sym (ap is_some none)
    ∙ there_place t.places.entries (frame_in t.frames.items t.dirty.items) t.places.cap _ c.table.view_is c.args.page there

pub returns-clause-entries : goal.returns-clause-entries
returns-clause-entries c =
    let t = c.table.inside in
    let n = length t.frames.items in
    let i = c.table.invariant in
    let none = sym c.front_place.ensures.value ∙ c.in_default.is in
    let same = c.front_place.ensures.entries ∙ ap (λ (l : Places). lru_cache l t.places.cap) (promoted_none c.args.page t.places.entries none) in
    let at = c.in-Ok.at in
    let g = frame_in c.fill_frame-2.new.frames.items c.fill_frame-2.new.dirty.items in
    let apart = subst (λ (p : LruCache ℕ ℕ). holders at (take (p.cap - 1) p.entries) ≡ 0) same c.in-Ok.ensures.apart in
    ap (λ (p : LruCache ℕ ℕ). lru_cache (framed g p.entries) p.cap)
    (c.in-Ok.ensures.entries ∙ ap (λ (p : LruCache ℕ ℕ). lru_cache ((c.args.page, at) ∷ take (p.cap - 1) p.entries) p.cap) same)
    ∙ seen_entered t.places.entries (frame_in t.frames.items t.dirty.items) t.places.cap _ c.table.view_is g at c.fill_frame-2.ensures.others
    (record { bytes = c.args.bytes.now; is_dirty = c.args.is_dirty }) c.fill_frame-2.ensures.here c.args.page none apart
