-- What a look-up and an entry that comes in keep.
use Rattle.std.proofs.Common.{◌≡◌, inl, inr, ℕ, ◌<◌, ◌≤◌, Bool, true, false, cond, nat_eq, List, [], Option, Some, None, length, get_or}
use Rattle.std.proofs.Common.{unwrap_or, refl, sym, ◌∙◌, ap, subst, ◌||◌}
use Rattle.std.specs.Option.{IfSome}
use Rattle.lru.specs.LruCache.{LruCache, put_entries, last_entry}
use Rattle.std.proofs.lemmas.Bool.{cases_Bool, false≢true, eqb-true, eq-eqb, ne_eqb}
use Rattle.quilt_world.specs.Disk.{Pages}
use Rattle.quilt_world.specs.Stops.{Since}
use Rattle.quilt_world.specs.Tale.{Tale, Adds, Goes}
use Rattle.quilt_world.proofs.StopLaws.{since_here, since_both, since_nothing}
use Rattle.quilt_world.proofs.Told.{goes_then, goes_and}
use Rattle.quilt_journal.specs.Changed.{is_changed}
use Rattle.quilt_journal.specs.Kept.{IsIdle, IsKept, HasHome, published, work}
use Rattle.quilt_journal.specs.declared.journal.State.{State}
use Rattle.quilt_journal.specs.declared.journal.State.TheVariants.{Idle}
use Rattle.quilt_journal.proofs.Leaving.{idle_leaves}
use Rattle.quilt_pool.specs.declared.frame.Frame.{Frame}
use Rattle.quilt_pool.specs.Entries.{Entries, frame_at, page_over, has_dirt, is_marked, IsClean, AreBelow}
use Rattle.quilt_pool.specs.Keeping.{IsWork, KeepsWork, Changes, IsSaved}
use Rattle.quilt_pool.proofs.Looks.{AtPut, put_at, over_at}
use Rattle.quilt_pool.proofs.Saving.{tries_none, tries_both, tries_adds}

-- ---- entries in another order

module _ (old new : Entries) (same : (i : ℕ) → frame_at new i ≡ frame_at old i) where
  pub below_same : (n : ℕ) → AreBelow n old → AreBelow n new
  below_same n below = record { each = λ i f is. below.each i f (sym (same i) ∙ is) }

  pub clean_same : (pages : Pages) → IsClean old pages → IsClean new pages
  clean_same pages clean = record { each = λ i f is none. clean.each i f (sym (same i) ∙ is) none }

  pub marked_same : (changed : List Bool) (i : ℕ) → is_marked new changed i ≡ is_marked old changed i
  marked_same changed i = ap (λ f. has_dirt f || is_changed changed i) (same i)

  pub keeps_same : (n : ℕ) (changed : List Bool) (t : Tale) → IsWork n old changed t → KeepsWork n old new changed changed t t
  keeps_same n changed t is = record {
    is = record { idle = is.idle; clean = clean_same (work t n changed) is.clean };
    home = refl;
    pages = λ i. over_at old new (work t n changed) i (same i);
    tries = tries_none t;
    since = since_here t (HasHome n (published t n)) (idle_leaves n changed t is.idle);
  }

  pub goes_same : (n : ℕ) (changed : List Bool) (o : Option Tale) → IfSome o (IsWork n old changed) → Goes (KeepsWork n old new changed changed) o o
  goes_same n changed None h = tt
  goes_same n changed (Some t) h = keeps_same n changed t h

-- ---- one call after another

pub keeps_then : (n : ℕ) (e1 e2 e3 : Entries) (c1 c2 c3 : List Bool) (a b d : Tale) → KeepsWork n e1 e2 c1 c2 a b
    → KeepsWork n e2 e3 c2 c3 b d → KeepsWork n e1 e3 c1 c3 a d
keeps_then n e1 e2 e3 c1 c2 c3 a b d p q = record {
  is = q.is;
  home = q.home ∙ p.home;
  pages = λ i. q.pages i ∙ p.pages i;
  tries = tries_both a b d p.tries q.tries;
  since = since_both a b d (HasHome n (published a n)) p.since (subst (λ (h : Pages). Since b d (HasHome n h)) p.home q.since);
}

pub keeps_read : (n m : ℕ) (es : Entries) (c : List Bool) (state : State) (a b : Tale) → m ≡ n → state ≡ Idle → IsWork n es c a
    → IsKept state m c b × (published b m ≡ published a m) × (work b m c ≡ work a m c) → Adds [] a b → KeepsWork n es es c c a b
keeps_read n m es c state a b same idle is read nothing =
    let kept : IsIdle n c b = subst (λ s. IsKept s n c b) idle (subst (λ k. IsKept state k c b) same read.0) in
    let home : published b n ≡ published a n = subst (λ k. published b k ≡ published a k) same read.1 in
    let works : work b n c ≡ work a n c = subst (λ k. work b k c ≡ work a k c) same read.2 in
    record {
      is = record { idle = kept; clean = subst (IsClean es) (sym works) is.clean };
      home = home;
      pages = λ i. ap (λ (pages : Pages). page_over es pages i) works;
      tries = tries_adds [] a b refl nothing;
      since = since_nothing a a b (HasHome n (published a n)) (since_here a (HasHome n (published a n)) (idle_leaves n c a is.idle)) nothing;
    }

-- ---- a page comes in

pub none_some : (f : Frame) → None ≡ Some f → ⊥
none_some f h = cc

module _ (table : LruCache ℕ Frame) (k : ℕ) (v : Frame) (some : 0 < table.cap) (fits : length table.entries ≤ table.cap) where
  new : Entries
  new = put_entries nat_eq table k v

  at : (i : ℕ) → AtPut table new k v i
  unfolding new
  at i = put_at table k v i some fits

  pub below_put : (n : ℕ) → (1 ≤ k) × (k < n) → AreBelow n table.entries → AreBelow n (put_entries nat_eq table k v)
  unfolding new
  below_put n within below = record {
    each = λ i f is. elim (at i) [
      | inl (same, here) ↦ subst (λ j. (1 ≤ j) × (j < n)) (sym same) within
      | inr (ne, inl same) ↦ below.each i f (sym same ∙ is)
      | inr (ne, inr (lost, full, (g, last, was, none))) ↦ absurd (none_some f (sym none ∙ is))
    ];
  }

  module _ (pages : Pages) (saved : frame_at table.entries k ≡ None → IsSaved table pages) where
    pub over_put : (i : ℕ) → page_over (put_entries nat_eq table k v) pages i ≡ cond (nat_eq i k) v.bytes (page_over table.entries pages i)
    unfolding new
    over_put i = elim (at i) [
      | inl (same, here) ↦ rw (eq-eqb i k same, here) refl
      | inr (ne, inl same) ↦ rw (ne_eqb i k ne) (over_at table.entries new pages i same)
      | inr (ne, inr (lost, full, (g, last, was, none))) ↦ rw (ne_eqb i k ne, none, was) (sym (saved lost full i g last))
    ]

    pub clean_put : (v.is_dirty ≡ false → v.bytes ≡ get_or pages k []) → IsClean table.entries pages → IsClean (put_entries nat_eq table k v) pages
    unfolding new
    clean_put fresh clean = record {
      each = λ i f is none. elim (at i) [
        | inl (same, here) ↦
            let frame : v ≡ f = ap (λ (o : Option Frame). unwrap_or o v) (sym here ∙ is) in
            subst (λ (x : Frame). x.bytes ≡ get_or pages i []) frame
            (fresh (ap (λ (x : Frame). x.is_dirty) frame ∙ none) ∙ ap (λ j. get_or pages j []) (sym same))
        | inr (ne, inl same) ↦ clean.each i f (sym same ∙ is) none
        | inr (ne, inr (lost, full, (g, last, was, gone))) ↦ absurd (none_some f (sym gone ∙ is))
      ];
    }

  pub marked_put : (changed : List Bool)
      → (frame_at table.entries k ≡ None → length table.entries ≡ table.cap → (p : ℕ) (f : Frame) → last_entry table.entries ≡ Some (p, f)
      → f.is_dirty ≡ true → is_changed changed p ≡ true)
      → (i : ℕ) → is_marked (put_entries nat_eq table k v) changed i ≡ cond (nat_eq i k) (v.is_dirty || is_changed changed k)
      (is_marked table.entries changed i)
  unfolding new
  marked_put changed listed i = elim (at i) [
    | inl (same, here) ↦ rw (eq-eqb i k same, here) (ap (λ j. v.is_dirty || is_changed changed j) same)
    | inr (ne, inl same) ↦ rw (ne_eqb i k ne, same) refl
    | inr (ne, inr (lost, full, (g, last, was, none))) ↦ rw (ne_eqb i k ne, none, was) (elim (cases_Bool g.is_dirty) [
      | inl dirty ↦ rw (dirty, listed lost full i g last dirty) refl
      | inr clear ↦ rw clear refl
    ])
  ]

-- ---- the page is read and comes in, or is written

read_same : (k : ℕ) (es : Entries) (pages : Pages) (x : List ℕ) → frame_at es k ≡ None → x ≡ get_or pages k [] → (i : ℕ)
    → cond (nat_eq i k) x (page_over es pages i) ≡ page_over es pages i
read_same k es pages x lost fresh i = elim (cases_Bool (nat_eq i k)) [
  | inl t ↦
      let same : i ≡ k = eqb-true i k t in
      let none : frame_at es i ≡ None = subst (λ j. frame_at es j ≡ None) (sym same) lost in
      rw (t, none) (fresh ∙ ap (λ j. get_or pages j []) (sym same))
  | inr f ↦ rw f refl
]

module _ (n : ℕ) (table : LruCache ℕ Frame) (k : ℕ) (some : 0 < table.cap) (fits : length table.entries ≤ table.cap) (c : List Bool) (t : Tale)
    (is : IsWork n table.entries c t) (saved : frame_at table.entries k ≡ None → IsSaved table (work t n c)) where
  since : Since t t (HasHome n (published t n))
  since = since_here t (HasHome n (published t n)) (idle_leaves n c t is.idle)

  pub keeps_put : (v : Frame) → frame_at table.entries k ≡ None → v.bytes ≡ get_or (work t n c) k []
      → KeepsWork n table.entries (put_entries nat_eq table k v) c c t t
  keeps_put v lost fresh = record {
    is = record { idle = is.idle; clean = clean_put table k v some fits (work t n c) saved (λ none. fresh) is.clean };
    home = refl;
    pages = λ i. over_put table k v some fits (work t n c) saved i ∙ read_same k table.entries (work t n c) v.bytes lost fresh i;
    tries = tries_none t;
    since = since;
  }

  pub changes_put : (v : Frame) → v.is_dirty ≡ true → Changes n k v.bytes table.entries (put_entries nat_eq table k v) c c t t
  changes_put v dirty = record {
    is = record { idle = is.idle; clean = clean_put table k v some fits (work t n c) saved (λ none. absurd (false≢true (sym none ∙ dirty))) is.clean };
    home = refl;
    pages = λ i. over_put table k v some fits (work t n c) saved i;
    tries = tries_none t;
    since = since;
  }

pub changes_then : (n k : ℕ) (x : List ℕ) (e1 e2 e3 : Entries) (c1 c2 c3 : List Bool) (a b d : Tale) → KeepsWork n e1 e2 c1 c2 a b
    → Changes n k x e2 e3 c2 c3 b d → Changes n k x e1 e3 c1 c3 a d
changes_then n k x e1 e2 e3 c1 c2 c3 a b d p q = record {
  is = q.is;
  home = q.home ∙ p.home;
  pages = λ i. q.pages i ∙ ap (λ y. cond (nat_eq i k) x y) (p.pages i);
  tries = tries_both a b d p.tries q.tries;
  since = since_both a b d (HasHome n (published a n)) p.since (subst (λ (h : Pages). Since b d (HasHome n h)) p.home q.since);
}

-- a step more where the disk is left alone
pub goes_more : (R S : Tale → Tale → Type 0) (P : Tale → Type 0) (o n : Option Tale) → Goes R o n → IfSome n P
    → ((t u : Tale) → R t u → P u → S t u) → Goes S o n
goes_more R S P None None r p step = tt
goes_more R S P None (Some u) r p step = absurd r
goes_more R S P (Some t) None r p step = r
goes_more R S P (Some t) (Some u) r p step = step t u r p

-- ---- the whole calls

both : (P Q : Tale → Type 0) (o : Option Tale) → IfSome o P → IfSome o Q → IfSome o (λ t. P t × Q t)
both P Q None p q = tt
both P Q (Some t) p q = (p, q)

module _ (n k : ℕ) (table : LruCache ℕ Frame) (old new : List Bool) (o m : Option Tale) (first : Goes (KeepsWork n table.entries table.entries old new) o m) where
  module _ (pages : ℕ) (state : State) (t : Option Tale) (is_pages : pages ≡ n) (is_state : state ≡ Idle)
      (read : Goes (λ a b. IsKept state pages new b × (published b pages ≡ published a pages) × (work b pages new ≡ work a pages new)) m t)
      (nothing : Goes (Adds []) m t) where
    pub goes_read : Goes (KeepsWork n table.entries table.entries old new) o t
    goes_read =
        goes_then _ _ _ _ _ _ first (goes_and _ _ _ _ read nothing) (λ a b c p h.
        keeps_then n table.entries table.entries table.entries old new new a b c p
        (keeps_read n pages table.entries new state b c is_pages is_state p.is h.0 h.1))

    pub goes_entered : (x : List ℕ) → 0 < table.cap → length table.entries ≤ table.cap → frame_at table.entries k ≡ None
        → IfSome m (λ b. frame_at table.entries k ≡ None → IsSaved table (work b n new)) → IfSome m (λ b. x ≡ get_or (work b pages new) k [])
        → Goes (KeepsWork n table.entries (put_entries nat_eq table k (record { bytes = x; is_dirty = false })) old new) o t
    goes_entered x some fits lost saved bytes =
        let v : Frame = record { bytes = x; is_dirty = false } in
        goes_then _ _ _ _ _ _ (goes_more _ (λ a b. KeepsWork n table.entries table.entries old new a b × IsSaved table (work b n new)
        × (x ≡ get_or (work b pages new) k [])) _ _ _ first
        (both (λ b. frame_at table.entries k ≡ None → IsSaved table (work b n new)) (λ b. x ≡ get_or (work b pages new) k []) m saved bytes)
        (λ a b p q. (p, q.0 lost, q.1))) (goes_and _ _ _ _ read nothing) (λ a b c p h.
        let step = keeps_read n pages table.entries new state b c is_pages is_state p.0.is h.0 h.1 in
        let same : work c n new ≡ work b n new = subst (λ j. work c j new ≡ work b j new) is_pages h.0.2 in
        let fresh : x ≡ get_or (work c n new) k [] =
        p.2 ∙ ap (λ j. get_or (work b j new) k []) is_pages ∙ sym (ap (λ (pages : Pages). get_or pages k []) same) in
        keeps_then n table.entries table.entries (put_entries nat_eq table k v) old new new a c c
        (keeps_then n table.entries table.entries table.entries old new new a b c p.0 step)
        (keeps_put n table k some fits new c step.is (λ lost. subst (IsSaved table) (sym same) p.1) v lost fresh))

  pub goes_written : (x : List ℕ) → 0 < table.cap → length table.entries ≤ table.cap
      → IfSome m (λ b. frame_at table.entries k ≡ None → IsSaved table (work b n new))
      → Goes (Changes n k x table.entries (put_entries nat_eq table k (record { bytes = x; is_dirty = true })) old new) o m
  goes_written x some fits saved =
      let v : Frame = record { bytes = x; is_dirty = true } in
      goes_more _ _ _ _ _ first saved (λ a b p q.
      changes_then n k x table.entries table.entries (put_entries nat_eq table k v) old new new a b b p (changes_put n table k some fits new b p.is q v refl))

-- the page that came in is not changed by that
pub marked_entered : (table : LruCache ℕ Frame) (k : ℕ) (x : List ℕ) (changed : List Bool) → 0 < table.cap → length table.entries ≤ table.cap
    → frame_at table.entries k ≡ None
    → (frame_at table.entries k ≡ None → length table.entries ≡ table.cap → (p : ℕ) (f : Frame) → last_entry table.entries ≡ Some (p, f)
    → f.is_dirty ≡ true → is_changed changed p ≡ true)
    → (i : ℕ) → is_marked (put_entries nat_eq table k (record { bytes = x; is_dirty = false })) changed i ≡ is_marked table.entries changed i
marked_entered table k x changed some fits lost listed i =
    marked_put table k (record { bytes = x; is_dirty = false }) some fits changed listed i
    ∙ elim (cases_Bool (nat_eq i k)) [
      | inl t ↦
          let none : frame_at table.entries i ≡ None = subst (λ j. frame_at table.entries j ≡ None) (sym (eqb-true i k t)) lost in
          rw (t, none) (ap (is_changed changed) (sym (eqb-true i k t)))
      | inr f ↦ rw f refl
    ]

-- another name for the table
pub goes_named : (n : ℕ) (old new : List Bool) (es : Entries) (a b : LruCache ℕ Frame) (o t : Option Tale) → a ≡ b
    → Goes (KeepsWork n a.entries es old new) o t → Goes (KeepsWork n b.entries es old new) o t
goes_named n old new es a b o t same goes = subst (λ (x : LruCache ℕ Frame). Goes (KeepsWork n x.entries es old new) o t) same goes

pub marked_named : (a b : LruCache ℕ Frame) (changed : List Bool) (i : ℕ) → a ≡ b → is_marked a.entries changed i ≡ is_marked b.entries changed i
marked_named a b changed i same = ap (λ (x : LruCache ℕ Frame). is_marked x.entries changed i) same

pub below_named : (n : ℕ) (a b : LruCache ℕ Frame) → a ≡ b → AreBelow n a.entries → AreBelow n b.entries
below_named n a b same below = subst (λ (x : LruCache ℕ Frame). AreBelow n x.entries) same below
