-- Bytes that are taken or put keep what a book keeps, and what it tells.
use Rattle.std.proofs.Common.{Result, Ok, Err, OnErr, IfOk, ◌≡◌, ℕ, List, [], ◌∷◌, Option, Some, None, unwrap_or, map, refl, sym, ap, subst}
use Rattle.quilt_types.specs.Plane.{below}
use Rattle.quilt_world.specs.Added.{is_of_text, AddsOnly}
use Rattle.quilt_world.specs.Disk.{Pages}
use Rattle.quilt_world.specs.Doors.{TakesFrom}
use Rattle.quilt_world.specs.Tale.{Tale, Adds, Goes}
use Rattle.quilt_world.specs.declared.disk.Fault.{Fault}
use Rattle.quilt_world.specs.declared.event.Event.TheVariants.{Put}
use Rattle.quilt_world.proofs.TextLaws.{fixed_text, took_text, put_text, nothing_text}
use Rattle.quilt_world.proofs.Told.{goes_weaker}
use Rattle.quilt_journal.specs.Changed.{View}
use Rattle.quilt_journal.specs.Kept.{home_page, work}
use Rattle.quilt_journal.specs.declared.journal.State.{State}
use Rattle.quilt_journal.specs.declared.journal.State.TheVariants.{Idle, Sealed, Carried}
use Rattle.quilt_journal.proofs.TextSteps.{kept_text}
use Rattle.quilt_node.specs.declared.head.Head.{Head}
use Rattle.quilt_node.specs.Pages.{IsHeader}
use Rattle.quilt_pool.specs.Entries.{Entries, page_over, IsClean}
use Rattle.quilt_edition.specs.Keeping.{IsBook, IsKeptBy, WhileIdle, told_pages, told_in, work_pages}

-- ---- one call

pub took : (r : Result ℕ Fault) (bytes : ℕ → List ℕ) (o n : Option Tale) → IfOk r (λ k. Goes (TakesFrom (bytes k)) o n)
    → OnErr r (Goes (Adds []) o n) → Goes (AddsOnly is_of_text) o n
took (Ok k) bytes o n goes err = goes_weaker (TakesFrom (bytes k)) (AddsOnly is_of_text) o n goes (took_text (bytes k))
took (Err e) bytes o n ok goes = goes_weaker (Adds []) (AddsOnly is_of_text) o n goes nothing_text

pub put : (r : Result ℕ Fault) (bytes : ℕ → List ℕ) (o n : Option Tale) → IfOk r (λ k. Goes (Adds (Put (bytes k) ∷ [])) o n)
    → OnErr r (Goes (Adds []) o n) → Goes (AddsOnly is_of_text) o n
put (Ok k) bytes o n goes err = goes_weaker (Adds (Put (bytes k) ∷ [])) (AddsOnly is_of_text) o n goes (put_text (bytes k))
put (Err e) bytes o n ok goes = goes_weaker (Adds []) (AddsOnly is_of_text) o n goes nothing_text

-- ---- what is kept

book_text : (j : View) (es : Entries) (last : Head) (o n : Tale) → AddsOnly is_of_text o n → IsBook j es last o → IsBook j es last n
book_text j es last o n adds book =
    let kept = kept_text j.pages j.changed o n adds Idle book.work.idle in
    let header : home_page n 0 ≡ home_page o 0 = ap (λ (x : Option (List ℕ)). unwrap_or x []) (fixed_text o n 3 adds) in
    record {
      work = record { idle = kept.0; clean = subst (IsClean es) (sym kept.2) book.work.clean };
      header = subst (λ b. IsHeader j.pages b last) (sym header) book.header;
    }

while_text : (s : State) (P Q : Type 0) → (P → Q) → WhileIdle s P → WhileIdle s Q
while_text Idle P Q step kept = step kept
while_text Sealed P Q step kept = tt
while_text Carried P Q step kept = tt

pub kept_by_text : (j : View) (es : Entries) (last : Head) (o n : Option Tale) → Goes (AddsOnly is_of_text) o n → IsKeptBy j es last o → IsKeptBy j es last n
kept_by_text j es last None None goes kept = tt
kept_by_text j es last None (Some n) goes kept = absurd goes
kept_by_text j es last (Some o) None goes kept = tt
kept_by_text j es last (Some o) (Some n) goes kept = while_text j.state (IsBook j es last o) (IsBook j es last n) (book_text j es last o n goes) kept

-- ---- what is told

told_as : (s : State) (P : Type 0) (a b : Pages) → (P → b ≡ a) → WhileIdle s P → told_in s b ≡ told_in s a
told_as Idle P a b same kept = ap Some (same kept)
told_as Sealed P a b same kept = refl
told_as Carried P a b same kept = refl

pub told_text : (j : View) (es : Entries) (last : Head) (o n : Option Tale) → Goes (AddsOnly is_of_text) o n → IsKeptBy j es last o
    → told_pages j es n ≡ told_pages j es o
unfolding work_pages
told_text j es last None None goes kept = refl
told_text j es last None (Some n) goes kept = absurd goes
told_text j es last (Some o) None goes kept = absurd goes
told_text j es last (Some o) (Some n) goes kept =
    told_as j.state (IsBook j es last o) (map (page_over es (work o j.pages j.changed)) (below j.pages))
    (map (page_over es (work n j.pages j.changed)) (below j.pages))
    (λ book. ap (λ (pages : Pages). map (page_over es pages) (below j.pages)) (kept_text j.pages j.changed o n goes Idle book.work.idle).2) kept
