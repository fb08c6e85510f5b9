use Rattle.std.proofs.Common.{◌≡◌, ℕ, ◌-◌, ◌<◌, List, Some, None, length, sym, ◌∙◌, ap, subst, arith}
use Rattle.lru.specs.LruCache.{lru_cache}
use Rattle.quilt_pool.specs.Frames.{Places}
use Rattle.std.specs.List.{slice_get}
use Rattle.quilt_pool.proofs.Looks.{put_lost}
use Rattle.quilt_pool.proofs.Sharing.{last_apart, last_below, shared_last, free_below, free_apart, shared_free, shared_end, last_none, shared_if, shared_if_end}
use Rattle.quilt_pool.proofs.table.enter_place.Goals as goal

pub returns-then-len-get-clause-entries : goal.returns-then-len-get-clause-entries
returns-then-len-get-clause-entries c =
    let p = c.args.places.now in
    c.in-Ok.ensures.entries ∙ ap (λ (l : Places). lru_cache l p.cap) (put_lost p c.args.page c.in-Some.last.now c.requires.lost)

pub returns-then-len-get-clause-shared : goal.returns-then-len-get-clause-shared
returns-then-len-get-clause-shared c =
    let p = c.args.places.now in
    let at = c.in-Some.last.now in
    let full = sym c.len.ensures.len ∙ c.if-len-get.true ∙ c.get.ensures.value ∙ c.cap.ensures in
    let last = sym c.in-Some.ensures in
    let below = last_below c.args.count p.entries c.args.free.now.items c.requires.shared p.cap c.requires.fits c.args.page at c.in-Some.field-0-0.now full last in
    rw (c.in-Ok.ensures.entries, put_lost p c.args.page at c.requires.lost)
    (shared_if c.args.count at _ _ below
    (shared_last c.args.count p.entries c.args.free.now.items c.requires.shared p.cap c.requires.fits c.args.page at c.in-Some.field-0-0.now full last))

pub returns-then-len-get-clause-apart : goal.returns-then-len-get-clause-apart
returns-then-len-get-clause-apart c =
    let p = c.args.places.now in
    let full = sym c.len.ensures.len ∙ c.if-len-get.true ∙ c.get.ensures.value ∙ c.cap.ensures in
    last_apart c.args.count p.entries c.args.free.now.items c.requires.shared p.cap c.requires.fits c.args.page c.in-Some.last.now
    c.in-Some.field-0-0.now full (sym c.in-Some.ensures)

pub returns-then-len-get-clause-within : goal.returns-then-len-get-clause-within
returns-then-len-get-clause-within c =
    let p = c.args.places.now in
    let full = sym c.len.ensures.len ∙ c.if-len-get.true ∙ c.get.ensures.value ∙ c.cap.ensures in
    let below = last_below c.args.count p.entries c.args.free.now.items c.requires.shared p.cap c.requires.fits c.args.page c.in-Some.last.now
    c.in-Some.field-0-0.now full (sym c.in-Some.ensures) in
    omega (arith, below)

pub returns-then-len-get-clause-room : goal.returns-then-len-get-clause-room
returns-then-len-get-clause-room c = λ same.
    let p = c.args.places.now in
    let full = sym c.len.ensures.len ∙ c.if-len-get.true ∙ c.get.ensures.value ∙ c.cap.ensures in
    let below = last_below c.args.count p.entries c.args.free.now.items c.requires.shared p.cap c.requires.fits c.args.page c.in-Some.last.now
    c.in-Some.field-0-0.now full (sym c.in-Some.ensures) in
    absurd (omega (arith, below, same))

pub returns-in-Some-last-clause-entries : goal.returns-in-Some-last-clause-entries
returns-in-Some-last-clause-entries c =
    let p = c.args.places.now in
    c.in-Ok-put.ensures.entries ∙ ap (λ (l : Places). lru_cache l p.cap) (put_lost p c.args.page c.in-Some-last.last.now c.requires.lost)

pub returns-in-Some-last-clause-shared : goal.returns-in-Some-last-clause-shared
returns-in-Some-last-clause-shared c =
    let p = c.args.places.now in
    let free = c.args.free.now in
    let at = c.in-Some-last.last.now in
    let room : length p.entries < p.cap = omega (arith, c.if-len-get.false, c.len.ensures.len, c.get.ensures.value, c.cap.ensures, c.len.ensures.valid.1) in
    let last = subst (λ (xs : List ℕ). slice_get xs (length xs - 1) ≡ Some at) c.deref.ensures.value (sym c.in-Some-last.ensures.value) in
    let below = free_below c.args.count p.entries free.items c.requires.shared p.cap c.requires.fits c.args.page at room last in
    rw (c.in-Ok-put.ensures.entries, put_lost p c.args.page at c.requires.lost, c.pop.ensures.rest, free.ok.0)
    (shared_if c.args.count at _ _ below
    (shared_free c.args.count p.entries free.items c.requires.shared p.cap c.requires.fits c.args.page at room last))

pub returns-in-Some-last-clause-apart : goal.returns-in-Some-last-clause-apart
returns-in-Some-last-clause-apart c =
    let p = c.args.places.now in
    let free = c.args.free.now in
    let at = c.in-Some-last.last.now in
    let room : length p.entries < p.cap = omega (arith, c.if-len-get.false, c.len.ensures.len, c.get.ensures.value, c.cap.ensures, c.len.ensures.valid.1) in
    let last = subst (λ (xs : List ℕ). slice_get xs (length xs - 1) ≡ Some at) c.deref.ensures.value (sym c.in-Some-last.ensures.value) in
    free_apart c.args.count p.entries free.items c.requires.shared p.cap c.requires.fits c.args.page at room last

pub returns-in-Some-last-clause-within : goal.returns-in-Some-last-clause-within
returns-in-Some-last-clause-within c =
    let p = c.args.places.now in
    let free = c.args.free.now in
    let at = c.in-Some-last.last.now in
    let room : length p.entries < p.cap = omega (arith, c.if-len-get.false, c.len.ensures.len, c.get.ensures.value, c.cap.ensures, c.len.ensures.valid.1) in
    let last = subst (λ (xs : List ℕ). slice_get xs (length xs - 1) ≡ Some at) c.deref.ensures.value (sym c.in-Some-last.ensures.value) in
    let below = free_below c.args.count p.entries free.items c.requires.shared p.cap c.requires.fits c.args.page at room last in
    omega (arith, below)

pub returns-in-Some-last-clause-room : goal.returns-in-Some-last-clause-room
returns-in-Some-last-clause-room c = λ same.
    let p = c.args.places.now in
    let free = c.args.free.now in
    let at = c.in-Some-last.last.now in
    let room : length p.entries < p.cap = omega (arith, c.if-len-get.false, c.len.ensures.len, c.get.ensures.value, c.cap.ensures, c.len.ensures.valid.1) in
    let last = subst (λ (xs : List ℕ). slice_get xs (length xs - 1) ≡ Some at) c.deref.ensures.value (sym c.in-Some-last.ensures.value) in
    let below = free_below c.args.count p.entries free.items c.requires.shared p.cap c.requires.fits c.args.page at room last in
    absurd (omega (arith, below, same))

pub returns-clause-entries : goal.returns-clause-entries
returns-clause-entries c =
    let p = c.args.places.now in
    c.in-Ok-put-2.ensures.entries ∙ ap (λ (l : Places). lru_cache l p.cap) (put_lost p c.args.page c.args.count c.requires.lost)

pub returns-clause-shared : goal.returns-clause-shared
returns-clause-shared c =
    let p = c.args.places.now in
    let free = c.args.free.now in
    let room : length p.entries < p.cap = omega (arith, c.if-len-get.false, c.len.ensures.len, c.get.ensures.value, c.cap.ensures, c.len.ensures.valid.1) in
    let none = last_none free.items
    (subst (λ (xs : List ℕ). slice_get xs (length xs - 1) ≡ None) c.deref.ensures.value (sym c.in_default-last.ensures.value)) in
    rw (c.in-Ok-put-2.ensures.entries, put_lost p c.args.page c.args.count c.requires.lost)
    (shared_if_end c.args.count _ _
    (shared_end c.args.count p.entries free.items c.requires.shared p.cap c.requires.fits c.args.page c.args.count room none))
