-- What a run has done at an exit, by the steps that it took.
use Rattle.std.proofs.Common.{◌≡◌, ℕ, ◌+◌, false, ◌&&◌, Bool, true, cond, List, [], ◌∷◌, ◌++◌, length, Some, refl, sym, ◌∙◌, ap, subst, arith, append-nil}
use Rattle.std.specs.Prelude.{slice_get}
use Rattle.std.specs.List.{All}
use Rattle.std.specs.Str.{bytes_eq}
use Rattle.quilt_world.specs.Added.{Only, AddsOnly, is_of_pages}
use Rattle.quilt_world.specs.Disk.{Pages, Log}
use Rattle.quilt_world.specs.Doors.{TakesFrom}
use Rattle.quilt_world.specs.Stops.{LeavesNow}
use Rattle.quilt_world.specs.declared.event.Event.TheVariants.{Took, Put, Wrote, Tore, Synced}
use Rattle.quilt_world.proofs.AddedLaws.{adds_only_both}
use Rattle.quilt_edition.specs.Stands.{Stands}
use Rattle.quilt_words.specs.Items.{Group, items_of}
use Rattle.quilt_lang.specs.Reading.{Same}
use Rattle.quilt_replies.specs.Answers.{State}
use Rattle.quilt_world.specs.Tale.{Tale, put_bytes}
use Rattle.quilt_replies.specs.Runs.{Run, Published, told_within}
use Rattle.quilt_map.proofs.answers.Orderly.{IsReadAt}
use Rattle.quilt_map.proofs.answers.TextLaws.{run_same, publishes_same}
use Rattle.quilt_top.specs.Answering.{Steps, PartStep, changes_then, changes_all}
use Rattle.quilt_top.specs.Headline.{IsEdition, WritesFew, is_wrote}
use Rattle.quilt_top.specs.Replies.{held_at, state_then, state_after, said_for}
use Rattle.quilt_top.specs.Saying.{is_took}
use Rattle.quilt_top.specs.TextRun.{run_in, publishes_in, IsUntold, AreFine, WritesBetween, EndsBetween}
use Rattle.quilt_top.proofs.logs.Events.{pages_unput}
use Rattle.quilt_top.proofs.turns.Between.{steps_between}
use Rattle.quilt_top.proofs.turns.Fine.{steps_fine}
use Rattle.quilt_top.proofs.turns.Places.{edition_last, edition_told, whole_said}
use Rattle.quilt_top.proofs.logs.Said.{run_replies}
use Rattle.quilt_top.proofs.logs.Writes.{IsFresh, steps_writes}
use Rattle.quilt_top.proofs.logs.Written.{written}

-- ---- input that is taken

pub took_only : (bytes : List ℕ) (t u : Tale) → TakesFrom bytes t u → AddsOnly is_took t u
took_only [] t u takes = record { file = takes.file; events = []; log = takes.same refl ∙ sym (append-nil t.log); only = refl }
took_only (b ∷ bytes) t u takes = record { file = takes.file; events = Took (b ∷ bytes) ∷ []; log = takes.log (omega arith); only = refl }

pub steps_took : (gs : List Group) (s : State) (c : ℕ) (t u v : Tale) → Steps s c gs t u → AddsOnly is_took u v → Steps s c gs t v
steps_took [] s c t u v steps takes = adds_only_both is_took t u v steps takes
steps_took (g ∷ gs) s c t u v steps takes =
    (steps.0, steps.1, steps_took gs (state_then s (held_at s g)) (changes_then s (held_at s g) c) steps.0 u v steps.2 takes)

-- ---- before the first input

zero_first : (b : Bool) → (b && false && b) ≡ false
zero_first true = refl
zero_first false = refl

not_taken : (b t : Bool) → (b && false && t) ≡ false
not_taken true t = refl
not_taken false t = refl

unwritten : (put : List ℕ) (log : Log) (before : List ℕ) → Only is_of_pages log → written put false before log ≡ 0
unwritten put [] before only = refl
unwritten put (Took bytes ∷ log) before only = absurd (cc)
unwritten put (Put bytes ∷ log) before only = absurd (cc)
unwritten put (Wrote page bytes ∷ log) before only =
    omega (arith, ap (λ b. cond {A = ℕ} b 1 0) (not_taken (is_wrote (Some (Wrote page bytes))) (bytes_eq before put)), unwritten put log (before ++ []) only)
unwritten put (Tore page ∷ log) before only =
    omega (arith, ap (λ b. cond {A = ℕ} b 1 0) (not_taken (is_wrote (Some (Tore page))) (bytes_eq before put)), unwritten put log (before ++ []) only)
unwritten put (Synced ∷ log) before only =
    omega (arith, ap (λ b. cond {A = ℕ} b 1 0) (not_taken (is_wrote (Some Synced)) (bytes_eq before put)), unwritten put log (before ++ []) only)

untold_fresh : (t : Tale) → IsUntold t → IsFresh t
untold_fresh t untold = record { none = λ put long. unwritten put t.log [] untold }

-- ---- between replies

-- where the replies to the first items were put, and a stop leaves the last edition behind them
ends_in : (s : State) (gs h : List Group) (v : Tale) → put_bytes v.log ≡ said_for s gs → LeavesNow v (λ image. Stands image (state_after s gs).last)
    → EndsBetween (run_in s (gs ++ h)) v
ends_in s gs h v put leaves = record {
  whole = whole_said s gs h v.log put;
  left = λ image left. record {
    edition = (state_after s gs).last;
    is = ap (λ (p : List ℕ). slice_get (run_in s (gs ++ h)).editions (told_within (run_in s (gs ++ h)).steps p 0)) put ∙ edition_told s gs h;
    stands = leaves image left;
  };
}

-- ---- the run of the whole input

module _ (n : ℕ) (s : State) (at : IsReadAt n s.last) (input : List ℕ) (all : List Group) (same : Same n (items_of n input) all) where
  run_is : run_in s (items_of n input) ≡ run_in s all
  run_is = run_same s.quota s.last s.work n (items_of n input) all at same

  publishes_are : publishes_in s (items_of n input) ≡ publishes_in s all
  publishes_are = publishes_same s.quota s.last s.work (record { before = 0; changed = 0 }) n (items_of n input) all at same

  -- the last edition of the run is the one at its end
  pub last_is : (image : Pages) → Stands image (state_after s all).last → (k : ℕ) × (k + 1 ≡ length (run_in s (items_of n input)).editions)
      × IsEdition (run_in s (items_of n input)) k image
  last_is image stands =
      let place = edition_last s all in (
        place.0,
        place.1 ∙ sym (ap (λ (r : Run). length r.editions) run_is),
        record { edition = (state_after s all).last; is = ap (λ (r : Run). slice_get r.editions place.0) run_is ∙ place.2; stands = stands },
      )

pub exit_fine : (n : ℕ) (s : State) (at : IsReadAt n s.last) (input : List ℕ) (gs next h : List Group) (t u v : Tale)
    → Same n (items_of n input) (gs ++ (next ++ h))
    → Steps s 0 gs t u → PartStep (state_after s gs) (changes_all s 0 gs) next u v → LeavesNow t (λ image. Stands image s.last) → (E : Log)
    → v.log ≡ t.log ++ E → AreFine (run_in s (items_of n input)) t.start t.log E
exit_fine n s at input gs next h t u v same steps part leaves E is =
    subst (λ (r : Run). AreFine r t.start t.log E) (sym (run_is n s at input (gs ++ (next ++ h)) same)) (steps_fine gs next h s 0 t u v steps part leaves E is)

pub exit_between : (n : ℕ) (s : State) (at : IsReadAt n s.last) (input : List ℕ) (gs next h : List Group) (t u v : Tale)
    → Same n (items_of n input) (gs ++ (next ++ h))
    → Steps s 0 gs t u → PartStep (state_after s gs) (changes_all s 0 gs) next u v → (E : Log) → v.log ≡ t.log ++ E
    → WritesBetween (run_in s (items_of n input)) E
exit_between n s at input gs next h t u v same steps part E is =
    subst (λ (r : Run). WritesBetween r E) (sym (run_is n s at input (gs ++ (next ++ h)) same)) (steps_between gs next h s 0 t u v steps part E is)

pub exit_ends : (n : ℕ) (s : State) (at : IsReadAt n s.last) (input : List ℕ) (gs h : List Group) (v : Tale) → Same n (items_of n input) (gs ++ h)
    → put_bytes v.log ≡ said_for s gs → LeavesNow v (λ image. Stands image (state_after s gs).last) → EndsBetween (run_in s (items_of n input)) v
exit_ends n s at input gs h v same put leaves =
    subst (λ (r : Run). EndsBetween r v) (sym (run_is n s at input (gs ++ h) same)) (ends_in s gs h v put leaves)

pub exit_writes : (n : ℕ) (s : State) (at : IsReadAt n s.last) (input : List ℕ) (gs next h : List Group) (t u v : Tale)
    → Same n (items_of n input) (gs ++ (next ++ h))
    → Steps s 0 gs t u → PartStep (state_after s gs) (changes_all s 0 gs) next u v → IsUntold t
    → All (WritesFew (run_in s (items_of n input)) v.log) (publishes_in s (items_of n input))
exit_writes n s at input gs next h t u v same steps part untold =
    let all = gs ++ (next ++ h) in
    let few =
    steps_writes gs next h s 0 0 t u v (run_in s all) [] steps part (untold_fresh t untold) (omega arith) (pages_unput t.log untold) (run_replies s all) in
    subst (λ (r : Run). All (WritesFew r v.log) (publishes_in s (items_of n input))) (sym (run_is n s at input all same))
    (subst (λ (ps : List Published). All (WritesFew (run_in s all) v.log) ps) (sym (publishes_are n s at input all same)) few)
