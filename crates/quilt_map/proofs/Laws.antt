-- The public laws of this crate, which crates above may cite.
use Rattle.std.proofs.Common.{◌≡◌, ℕ, Some, sym, ◌∙◌, subst, arith}
use Rattle.quilt_world.specs.Stops.{LeavesNow}
use Rattle.quilt_world.specs.Tale.{Tale}
use Rattle.quilt_world.specs.declared.disk.Disk as disk
use Rattle.quilt_edition.specs.Stands.{Stands}
use Rattle.quilt_world.specs.Disk.{Pages}
use Rattle.quilt_journal.specs.Kept.{HasHome, published}
use Rattle.quilt_replies.specs.Answers.{State}
use Rattle.quilt_map.specs.declared.session.Session.{Session}
use Rattle.quilt_map.proofs.answers.Orderly.{IsReadAt}
use Rattle.quilt_map.proofs.states.Keeping.{book_leaves, book_seen, book_stands}
use Rattle.quilt_map.specs.Sessions.{IsAt, session_world, format_of, level_of}

module _ {W : Type 0} {D : disk.Ghosts W} (session : Session W D) (s : State) where
  -- the world tells its tale, each image that a stop may leave stands for the last edition, and so does the file as it reads
  pub at_told : IsAt session s → (t : Tale) × (D.told (session_world session) ≡ Some t) × LeavesNow t (λ image. Stands image s.last) × Stands t.seen s.last
  unfolding IsAt session_world
  at_told h =
      let at = h.at in
      let stands = λ (image : Pages) (has : HasHome session.book.journal.pages (published at.tale session.book.journal.pages) image).
      book_stands session.book at.tale at.told at.ready session.last s.last image at.last has in (
        at.tale,
        at.told,
        λ image leaves. stands image (book_leaves session.book at.tale at.told at.ready image leaves),
        stands at.tale.seen (book_seen session.book at.tale at.told at.ready at.lawful),
      )

  -- the last edition has the session's format and level
  pub at_format : IsAt session s → s.last.format ≡ format_of session
  unfolding IsAt format_of
  at_format h = let at = h.at in at.last.head.format ∙ sym at.format

  pub at_level : IsAt session s → s.last.level ≡ level_of session
  unfolding IsAt level_of
  at_level h = let at = h.at in at.last.head.level

  -- and a format that there is
  pub at_read : IsAt session s → IsReadAt (level_of session) s.last
  unfolding IsAt level_of
  at_read h = let at = h.at in (at.last.head.level, omega (arith, at.last.head.format ∙ sym at.format, session.book.next.format.1))

  pub at_read_as : IsAt session s → (n : ℕ) → level_of session ≡ n → IsReadAt n s.last
  at_read_as h n is = subst (λ (m : ℕ). IsReadAt m s.last) is (at_read h)
