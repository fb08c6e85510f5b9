-- What a publish needs of a session, and what it makes of it.
use Rattle.std.specs.Prelude.{◌≡◌, ◌⊎◌, ◌*◌, ◌≤◌, Some}
use Rattle.quilt_types.specs.Facts.{quota}
use Rattle.quilt_types.specs.Layers.{Edition}
use Rattle.quilt_world.specs.Disk.{Pages}
use Rattle.quilt_world.specs.Stops.{Since}
use Rattle.quilt_world.specs.Tale.{Tale, IsConsistent}
use Rattle.quilt_world.specs.declared.disk.Disk as disk
use Rattle.quilt_edition.specs.Books as books
use Rattle.quilt_edition.specs.Stands.{Stands}
use Rattle.quilt_replies.specs.Answers.{State}
use Rattle.quilt_map.specs.Sessions.{IsSpelled, IsHeadOf, IsPublishedAs, IsAtState, told_of, free_of, changed_of, last_count}
use Rattle.quilt_map.specs.declared.session.Session.{Session}

-- at each event a stop leaves the one edition or the other
pub record LeavesEither (last e : Edition) (old new : Tale) : Type 0 where
  pub since : Since old new (λ image. Stands image last ⊎ Stands image e)

module _ {W : Type 0} {D : disk.Ghosts W} where
  -- the published pages hold the last edition, and the work under the next header is the edition
  pub record CanPublish (session : Session W D) (s : State) (e : Edition) : Type 0 where
    pub tale : Tale
    pub told : D.told session.book.world ≡ Some tale
    pub lawful : IsConsistent tale
    pub ready : books.IsReady session.book
    pub last : IsPublishedAs session.book tale session.last s.last
    pub pages : Pages
    pub pages_told : told_of session.book ≡ Some pages
    pub work : IsSpelled (Some pages) (free_of session.book) (books.pages_of session.book) (books.work_of session.book) session.catalog s.work
    pub head : IsHeadOf (books.next_of session.book) e
    pub layers : e.layers ≡ s.work
    pub quota : s.quota ≡ quota (books.pages_of session.book)
    pub few : (changed_of session.book ≤ 9 * session.changes) ⊎ (session.changes ≡ last_count)

  -- the edition is the last one now, and nothing is changed since
  pub record IsRenewed (session : Session W D) (s : State) (e : Edition) : Type 0 where
    pub at : IsAtState session (record { quota = s.quota; last = e; work = s.work })
    pub count : session.changes ≡ 0
