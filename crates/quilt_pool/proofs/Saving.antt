-- What writing the last entry to its slot keeps.
use Rattle.std.proofs.Common.{◌≡◌, ◌⊎◌, inl, inr, ℕ, ◌<◌, Bool, true, false, List, [], ◌∷◌, ◌++◌, Option, Some, None, length, unwrap_or, get_or, set}
use Rattle.std.proofs.Common.{refl, sym, ◌∙◌, ap, subst, arith, get_or-set_same, append_assoc}
use Rattle.std.specs.Option.{IfSome}
use Rattle.std.proofs.lemmas.List.{append-nil}
use Rattle.quilt_world.specs.Disk.{Pages, Log}
use Rattle.quilt_world.specs.Stops.{Since}
use Rattle.quilt_world.specs.Tale.{Tale, Adds, Goes}
use Rattle.quilt_world.specs.declared.event.Event.TheVariants.{Tore}
use Rattle.quilt_world.proofs.StopLaws.{same_file, since_here}
use Rattle.quilt_journal.specs.Changed.{is_changed}
use Rattle.quilt_journal.specs.Kept.{IsIdle, HasHome, published, work}
use Rattle.quilt_journal.proofs.Homes.{length-work}
use Rattle.quilt_journal.proofs.Leaving.{idle_leaves}
use Rattle.quilt_pool.specs.declared.frame.Frame.{Frame}
use Rattle.quilt_pool.specs.Entries.{Entries, frame_at, page_over, IsClean}
use Rattle.quilt_pool.specs.Keeping.{Tries, IsWork, KeepsWork, IsSaved}
use Rattle.lru.specs.LruCache.{LruCache, last_entry}
use Rattle.quilt_world.specs.Added.{is_write, Only}
use Rattle.quilt_world.proofs.AddedLaws.{only-append}
use Rattle.quilt_pool.proofs.Looks.{over_set, clean_set}

pub tries_none : (t : Tale) → Tries t t
tries_none t = record { file = record { start = refl; path = refl; was_there = refl }; input = refl; added = []; log = sym (append-nil t.log); only = refl }

pub tries_both : (a b c : Tale) → Tries a b → Tries b c → Tries a c
tries_both a b c p q = record {
  file = same_file a b c p.file q.file;
  input = q.input ∙ p.input;
  added = p.added ++ q.added;
  log = q.log ∙ ap (λ (l : Log). l ++ q.added) p.log ∙ append_assoc a.log p.added q.added;
  only = only-append is_write p.added q.added p.only q.only;
}

pub tries_adds : (events : Log) (m n : Tale) → Only is_write events → Adds events m n → Tries m n
tries_adds events m n only adds = record { file = adds.file; input = adds.input; added = events; log = adds.log; only = only }

pub tries_tore : (at : ℕ) (m n : Tale) → Adds (Tore at ∷ []) m n ⊎ Adds [] m n → Tries m n
tries_tore at m n (inl adds) = tries_adds (Tore at ∷ []) m n refl adds
tries_tore at m n (inr adds) = tries_adds [] m n refl adds

module _ (n : ℕ) (es : Entries) (changed : List Bool) where
  pub keeps_none : (t : Tale) → IsWork n es changed t → KeepsWork n es es changed changed t t
  keeps_none t is = record {
    is = is;
    home = refl;
    pages = λ i. refl;
    tries = tries_none t;
    since = since_here t (HasHome n (published t n)) (idle_leaves n changed t is.idle);
  }

  pub keeps_set : (b : Bool) (p : ℕ) (f : Frame) (x : List ℕ) (o t : Tale) → frame_at es p ≡ Some f → f.is_dirty ≡ true → IsWork n es changed o
      → IsIdle n (set changed p b) t × (published t n ≡ published o n) × (work t n (set changed p b) ≡ set (work o n changed) p x)
      → Tries o t → Since o t (HasHome n (published o n)) → KeepsWork n es es changed (set changed p b) o t
  keeps_set b p f x o t at dirty is stored tries since = record {
    is = record {
      idle = stored.0;
      clean = subst (IsClean es) (sym stored.2) (clean_set es p f at dirty (work o n changed) x is.clean);
    };
    home = stored.1;
    pages = λ i. ap (λ (pages : Pages). page_over es pages i) stored.2 ∙ over_set es p f at (work o n changed) x i;
    tries = tries;
    since = since;
  }

pub if_some_kept : (n : ℕ) (es : Entries) (changed : List Bool) (o : Option Tale) → IfSome o (IsWork n es changed) → IfSome o (IsIdle n changed)
if_some_kept n es changed None h = tt
if_some_kept n es changed (Some t) h = h.idle

-- before the first call
pub goes_none : (n : ℕ) (es : Entries) (changed : List Bool) (o : Option Tale) → IfSome o (IsWork n es changed) → Goes (KeepsWork n es es changed changed) o o
goes_none n es changed None h = tt
goes_none n es changed (Some t) h = keeps_none n es changed t h

-- the last entry's bytes stand in its slot now
pub saved_set : (n : ℕ) (changed : List Bool) (p : ℕ) (x : List ℕ) (o t : Tale) → p < n → work t n (set changed p true) ≡ set (work o n changed) p x
    → x ≡ get_or (work t n (set changed p true)) p []
saved_set n changed p x o t within is =
    sym (ap (λ (pages : Pages). get_or pages p []) is ∙ get_or-set_same (work o n changed) p x [] (omega (arith, length-work o n changed, within)))

module _ (p q : ℕ) (f h : Frame) (l : Option (ℕ × Frame)) (last : l ≡ Some (p, f)) (is : l ≡ Some (q, h)) where
  pub page_is : p ≡ q
  page_is = ap (λ (o : Option (ℕ × Frame)). (unwrap_or o (p, f)).0) (sym last ∙ is)

  pub frame_is : f ≡ h
  frame_is = ap (λ (o : Option (ℕ × Frame)). (unwrap_or o (p, f)).1) (sym last ∙ is)

pub saved_last : (table : LruCache ℕ Frame) (pages : Pages) (p : ℕ) (f : Frame) → last_entry table.entries ≡ Some (p, f)
    → f.bytes ≡ get_or pages p [] → IsSaved table pages
saved_last table pages p f last here = λ full q h is.
    sym (ap (λ (x : Frame). x.bytes) (frame_is p q f h (last_entry table.entries) last is)) ∙ here
    ∙ ap (λ i. get_or pages i []) (page_is p q f h (last_entry table.entries) last is)

pub listed_last : (changed : List Bool) (l : Option (ℕ × Frame)) (p : ℕ) (f : Frame) → l ≡ Some (p, f) → p < length changed → (q : ℕ) (h : Frame)
    → l ≡ Some (q, h) → is_changed (set changed p true) q ≡ true
listed_last changed l p f last within q h is =
    subst (λ i. is_changed (set changed p true) i ≡ true) (page_is p q f h l last is) (get_or-set_same changed p true false within)

pub if_some : (P Q : Tale → Type 0) (o : Option Tale) → IfSome o P → ((t : Tale) → P t → Q t) → IfSome o Q
if_some P Q None p so = tt
if_some P Q (Some t) p so = so t p
