-- Bytes that are taken or put change no page.
use Rattle.std.specs.List.{list_all}
use Rattle.std.proofs.lemmas.List.{append-nil}
use Rattle.std.proofs.Common.{◌≡◌, ℕ, cond, Bool, true, false, List, [], ◌∷◌, ◌++◌, None, get_or, refl, sym, ◌∙◌, ap}
use Rattle.std.proofs.Common.{subst, arith}
use Rattle.quilt_world.specs.Added.{is_of_text, AddsOnly}
use Rattle.quilt_world.specs.Disk.{Pages, Log, Mark, Untouched, marked, mark_from, unsynced_after, unsynced_from, is_unsynced, holds, CanLeave}
use Rattle.quilt_world.specs.Doors.{TakesFrom}
use Rattle.quilt_world.specs.PageBytes.{bytes_by, last_bytes, fixed_bytes}
use Rattle.quilt_world.specs.Stops.{latest, fixed, LeavesNow}
use Rattle.quilt_world.specs.Tale.{Tale, Adds}
use Rattle.quilt_world.specs.declared.event.Event.TheVariants.{Took, Put, Wrote, Tore, Synced}

-- ---- the log

mark_from-text : (i : ℕ) (m : Mark) (log text : Log) → list_all is_of_text text ≡ true → mark_from i m (log ++ text) ≡ mark_from i m log
mark_from-text i m [] [] only = refl
mark_from-text i m [] (Took bytes ∷ text) only = mark_from-text i m [] text only
mark_from-text i m [] (Put bytes ∷ text) only = mark_from-text i m [] text only
mark_from-text i m [] (Wrote page bytes ∷ text) only = absurd (cc)
mark_from-text i m [] (Tore page ∷ text) only = absurd (cc)
mark_from-text i m [] (Synced ∷ text) only = absurd (cc)
mark_from-text i m (e ∷ log) text only = mark_from-text i (marked i m e) log text only

unsynced_from-text : (i : ℕ) (b : Bool) (log text : Log) → list_all is_of_text text ≡ true → unsynced_from i b (log ++ text) ≡ unsynced_from i b log
unsynced_from-text i b [] [] only = refl
unsynced_from-text i b [] (Took bytes ∷ text) only = unsynced_from-text i b [] text only
unsynced_from-text i b [] (Put bytes ∷ text) only = unsynced_from-text i b [] text only
unsynced_from-text i b [] (Wrote page bytes ∷ text) only = absurd (cc)
unsynced_from-text i b [] (Tore page ∷ text) only = absurd (cc)
unsynced_from-text i b [] (Synced ∷ text) only = absurd (cc)
unsynced_from-text i b (e ∷ log) text only = unsynced_from-text i (unsynced_after i b e) log text only

last_bytes-text : (start : Pages) (log text : Log) (i : ℕ) → list_all is_of_text text ≡ true → last_bytes start (log ++ text) i ≡ last_bytes start log i
unfolding last_bytes
last_bytes-text start log text i only = ap (λ m. bytes_by m (get_or start i [])) (mark_from-text i Untouched log text only)

fixed_bytes-text : (start : Pages) (log text : Log) (i : ℕ) → list_all is_of_text text ≡ true → fixed_bytes start (log ++ text) i ≡ fixed_bytes start log i
unfolding fixed_bytes
fixed_bytes-text start log text i only =
    ap (λ u. cond u None (last_bytes start (log ++ text) i)) (unsynced_from-text i false log text only)
    ∙ ap (λ l. cond (is_unsynced i log) None l) (last_bytes-text start log text i only)

-- an image that can be left after the text could be left before it
pub text_leaves : (start : Pages) (log text : Log) (image : Pages) → list_all is_of_text text ≡ true → CanLeave start (log ++ text) image
    → CanLeave start log image
text_leaves start log text image only left = record {
  size = left.size;
  kept = λ i within synced.
      let so : is_unsynced i (log ++ text) ≡ false = unsynced_from-text i false log text only ∙ synced in
      subst (λ m. holds m (get_or start i []) (get_or image i [])) (mark_from-text i _ log text only) (left.kept i within so);
}

-- ---- a tale

pub last_text : (o n : Tale) (i : ℕ) → AddsOnly is_of_text o n → latest n i ≡ latest o i
last_text o n i adds =
    ap (λ (l : Log). last_bytes n.start l i) adds.log ∙ last_bytes-text n.start o.log adds.events i adds.only
    ∙ ap (λ (s : Pages). last_bytes s o.log i) adds.file.start

pub fixed_text : (o n : Tale) (i : ℕ) → AddsOnly is_of_text o n → fixed n i ≡ fixed o i
fixed_text o n i adds =
    ap (λ (l : Log). fixed_bytes n.start l i) adds.log ∙ fixed_bytes-text n.start o.log adds.events i adds.only
    ∙ ap (λ (s : Pages). fixed_bytes s o.log i) adds.file.start

-- what a stop leaves before the text it leaves after it
pub leaves_text : (o n : Tale) (P : Pages → Type 0) → AddsOnly is_of_text o n → LeavesNow o P → LeavesNow n P
leaves_text o n P adds leaves image can =
    let here : CanLeave o.start n.log image = subst (λ (s : Pages). CanLeave s n.log image) adds.file.start can in
    leaves image (text_leaves o.start o.log adds.events image adds.only (subst (λ (l : Log). CanLeave o.start l image) adds.log here))

-- ---- the calls

pub took_text : (bytes : List ℕ) (o n : Tale) → TakesFrom bytes o n → AddsOnly is_of_text o n
took_text [] o n takes = record { file = takes.file; events = []; log = takes.same refl ∙ sym (append-nil o.log); only = refl }
took_text (b ∷ bytes) o n takes = record { file = takes.file; events = Took (b ∷ bytes) ∷ []; log = takes.log (omega arith); only = refl }

pub put_text : (bytes : List ℕ) (o n : Tale) → Adds (Put bytes ∷ []) o n → AddsOnly is_of_text o n
put_text bytes o n adds = record { file = adds.file; events = Put bytes ∷ []; log = adds.log; only = refl }

pub nothing_text : (o n : Tale) → Adds [] o n → AddsOnly is_of_text o n
nothing_text o n adds = record { file = adds.file; events = []; log = adds.log; only = refl }
