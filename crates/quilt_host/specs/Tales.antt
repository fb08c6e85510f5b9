-- What a world over a system tells is so.
use Rattle.std.specs.Option.{ForSome, option_map}
use Rattle.std.specs.Prelude.{◌≡◌, ◌≢◌, ℕ, ◌<◌, Bool, true, false, List, [], length, slice_index_or, Option, Some, None, IfSome, refl}
use Rattle.std.proofs.Common.{sym, ◌∙◌, arith}
use Rattle.std.proofs.lemmas.List.FromFn.{get_or-map-range_with_len, length-map-range_with_len}
use Rattle.quilt_world.specs.Disk.{Log}
use Rattle.quilt_world.specs.PageBytes.{last_bytes}
use Rattle.quilt_world.specs.Tale.{Tale, IsConsistent}
use Rattle.quilt_world.specs.declared.disk.Door.{Door}
use Rattle.quilt_world.specs.declared.disk.Door.TheVariants as doors
use Rattle.quilt_host.specs.Story.{Story}
use Rattle.quilt_host.specs.Acts.{log_of}
use Rattle.quilt_host.specs.Bytes.{page_at, file_pages}
use Rattle.quilt_host.specs.Worlds.{tale_of, is_open_door, IsSoundStory}

length-pages_of : (f : List ℕ) (n : ℕ) → length (file_pages f n) ≡ n
unfolding file_pages
length-pages_of f n = length-map-range_with_len (page_at f) 0 n

get-pages_of : (f : List ℕ) (n i : ℕ) → i < n → slice_index_or (file_pages f n) i [] ≡ page_at f i
unfolding file_pages
get-pages_of f n i within = get_or-map-range_with_len (page_at f) 0 n i i [] within (omega arith)

module _ (pages reads writes : ℕ) (s : Story) where
  Lawful : Log → Type 0
  Lawful log = IsConsistent (record {
    start = file_pages s.settled pages;
    log = log;
    seen = file_pages s.bytes pages;
    reads = reads;
    writes = writes;
    input = s.input;
    path = s.path;
    was_there = s.was_there;
  }) × (length (file_pages s.settled pages) ≡ pages)

  open_law : ((i : ℕ) (bytes : List ℕ) → i < pages → last_bytes (file_pages s.settled pages) (log_of s.acts) i ≡ Some bytes → page_at s.bytes i ≡ bytes)
      → Lawful (log_of s.acts)
  unfolding Lawful
  open_law each = (
    record {
      size = length-pages_of s.bytes pages ∙ sym (length-pages_of s.settled pages);
      last = λ i bytes lt is.
          let within : i < pages = omega (arith, length-pages_of s.settled pages) in
          get-pages_of s.bytes pages i within ∙ each i bytes within is;
    },
    length-pages_of s.settled pages,
  )

  shut_law : pages ≡ 0 → Lawful []
  unfolding Lawful
  shut_law none = (
    record {
      size = length-pages_of s.bytes pages ∙ sym (length-pages_of s.settled pages);
      last = λ i bytes lt is. absurd (omega (arith, length-pages_of s.settled pages));
    },
    length-pages_of s.settled pages,
  )

tale_law : (door : Door) (pages reads writes : ℕ) → (door ≢ doors.Ready → door ≢ doors.Made → pages ≡ 0) → (s : Story) → IsSoundStory door pages s
    → IsConsistent (tale_of door pages reads writes s) × (length (tale_of door pages reads writes s).start ≡ pages)
unfolding Lawful
tale_law doors.Shut pages reads writes none s sound = shut_law pages reads writes s (none (λ e. cc) (λ e. cc))
tale_law doors.Ready pages reads writes none s sound = open_law pages reads writes s (sound.reads refl)
tale_law doors.Made pages reads writes none s sound = open_law pages reads writes s (sound.reads refl)
tale_law doors.Missing pages reads writes none s sound = shut_law pages reads writes s (none (λ e. cc) (λ e. cc))
tale_law doors.Taken pages reads writes none s sound = shut_law pages reads writes s (none (λ e. cc) (λ e. cc))
tale_law doors.Failed pages reads writes none s sound = shut_law pages reads writes s (none (λ e. cc) (λ e. cc))

-- the tale of each story behind a door is consistent, and has as many pages as the world
pub tale_is_consistent : (door : Door) (pages reads writes : ℕ) → (door ≢ doors.Ready → door ≢ doors.Made → pages ≡ 0) → (told : Option Story)
    → ForSome told (IsSoundStory door pages) → IfSome (option_map (tale_of door pages reads writes) told) (λ t. IsConsistent t × (length t.start ≡ pages))
tale_is_consistent door pages reads writes none None sound = tt
tale_is_consistent door pages reads writes none (Some s) sound = tale_law door pages reads writes none s (sound s refl)
