-- The summary of a trial, by the numbers that it tells.
use Rattle.std.proofs.Common.{◌≡◌, ℕ, ◌+◌, ◌-◌, ◌==◌, ◌&&◌, Bool, true, false, cond, map, append-nil, List, [], ◌∷◌, length, Option, IfSome, subst, Some}
use Rattle.std.proofs.Common.{None, refl, sym, ◌∙◌, ap, arith}
use Rattle.std.specs.List.{count_by, list_all}
use Rattle.std.proofs.lemmas.Bool.{ne_eqb}
use Rattle.std.proofs.lemmas.List.Sums.{count_by-le-length, sum_by-cons}
use Rattle.std.specs.Prelude.{slice_get}
use Rattle.quilt_types.specs.Facts.{records}
use Rattle.quilt_types.specs.Layers.{Edition}
use Rattle.quilt_world.specs.Disk.{Pages}
use Rattle.quilt_world.specs.Stops.{LeavesNow}
use Rattle.quilt_world.specs.Tale.{Tale}
use Rattle.quilt_edition.specs.Stands.{Stands}
use Rattle.quilt_words.specs.Items.{Group, held, items_of}
use Rattle.quilt_lang.specs.Reading.{Same}
use Rattle.quilt_replies.specs.Answers.{State, Reply}
use Rattle.quilt_replies.specs.Runs.{Run, replies_of, is_done, with_first}
use Rattle.quilt_map.proofs.answers.Orderly.{IsReadAt}
use Rattle.quilt_map.proofs.answers.TextLaws.{run_same}
use Rattle.quilt_top.specs.Headline.{all_done, last_number, summary}
use Rattle.quilt_top.specs.Replies.{held_at, outcome, state_then, state_after}
use Rattle.quilt_top.specs.TextRun.{run_in}
use Rattle.quilt_top.specs.Trying.{StandsForLast, summary_of, Tried}
use Rattle.quilt_top.specs.declared.trial_run.Tally.{Tally}
use Rattle.quilt_top.proofs.turns.Exits.{last_is}
use Rattle.quilt_top.proofs.turns.Places.{edition_first}
use Rattle.quilt_top.proofs.logs.Said.{run_replies, length-replies, read_after}

-- ---- no reply is a refusal

pub none_refused : (rs : List Reply) (refused : ℕ) → count_by is_done rs + refused ≡ length rs → (refused == 0) ≡ list_all is_done rs
none_refused [] refused all = ap (λ k. k == 0) (let none : refused ≡ 0 = omega (arith, all) in none)
none_refused (q ∷ rs) refused all = by (is_done q) refl (sum_by-cons (λ (p : Reply). cond {A = ℕ} (is_done p) 1 0) q rs) (none_refused rs refused)
  where
    by : (b : Bool) → is_done q ≡ b → count_by is_done (q ∷ rs) ≡ cond {A = ℕ} (is_done q) 1 0 + count_by is_done rs
        → (count_by is_done rs + refused ≡ length rs → (refused == 0) ≡ list_all is_done rs)
        → (refused == 0) ≡ (is_done q && list_all is_done rs)
    by true is first rest =
        let one : cond {A = ℕ} (is_done q) 1 0 ≡ 1 = ap (λ b. cond {A = ℕ} b 1 0) is in
        rest (omega (arith, all, first, one)) ∙ ap (λ b. b && list_all is_done rs) (sym is)
    by false is first rest =
        let none : cond {A = ℕ} (is_done q) 1 0 ≡ 0 = ap (λ b. cond {A = ℕ} b 1 0) is in
        ne_eqb refused 0 (λ zero_. omega (arith, all, first, none, zero_, count_by-le-length is_done rs)) ∙ ap (λ b. b && list_all is_done rs) (sym is)

-- ---- the end of a run

pub work_is : (s : State) (gs : List Group) → (run_in s gs).work ≡ (state_after s gs).work
unfolding state_then
work_is s [] = refl
work_is s (g ∷ gs) = work_is (state_then s (held_at s g)) gs

number_after : (last first : Edition) (o : Option Edition) (es : List Edition) → slice_get es 0 ≡ Some first
    → last_number (with_first last o es) ≡ last_number es
number_after last first None es some = refl
number_after last first (Some e) [] some = absurd (cc)
number_after last first (Some e) (f ∷ es) some = refl

pub number_is : (s : State) (gs : List Group) → last_number (run_in s gs).editions ≡ (state_after s gs).last.number
unfolding state_then
number_is s [] = refl
number_is s (g ∷ gs) =
    let out = outcome s (held_at s g) in
    let then_ = state_then s (held_at s g) in
    number_after s.last then_.last out.published (run_in then_ gs).editions (edition_first then_.quota then_.last then_.work gs) ∙ number_is then_ gs

-- ---- the numbers

module _ (n : ℕ) (text : List ℕ) (s now : State) (at : IsReadAt n s.last) (tally : Tally) (so : Tried n text [] s now tally) where
  abbrev r : Run
  r = run_in s (items_of n text)

  all : Same n (items_of n text) so.items
  all f low = so.all f low ∙ ap (λ (l : List Group). map (held f n) l) (append-nil so.items)

  run_is : r ≡ run_in s so.items
  run_is = run_same s.quota s.last s.work n (items_of n text) so.items at all

  pub done_is : tally.done ≡ count_by is_done (replies_of r)
  done_is = so.done ∙ sym (ap (count_by is_done) (run_replies s so.items)) ∙ sym (ap (λ (x : Run). count_by is_done (replies_of x)) run_is)

  size_is : length (replies_of r) ≡ length (items_of n text)
  size_is = ap length (run_replies s (items_of n text)) ∙ length-replies s (items_of n text)

  pub work_now : r.work ≡ now.work
  work_now = ap (λ (x : Run). x.work) run_is ∙ work_is s so.items ∙ sym (ap (λ (x : State). x.work) so.state)

  pub number_now : last_number r.editions ≡ now.last.number
  number_now = ap (λ (x : Run). last_number x.editions) run_is ∙ number_is s so.items ∙ sym (ap (λ (x : State). x.last.number) so.state)

  pub level_now : now.last.level ≡ n
  level_now = ap (λ (x : State). x.last.level) so.state ∙ (read_after s n so.items at).0

  pub flag_is : tally.done + tally.refused ≡ length (items_of n text) → (tally.refused == 0) ≡ all_done r
  flag_is counted = none_refused (replies_of r) tally.refused (omega (arith, size_is, done_is, counted))

  -- what the numbers of the code spell
  pub summary_is : (count edition : ℕ) → tally.done + tally.refused ≡ length (items_of n text) → records now.last.level now.work ≡ count
      → now.last.number ≡ edition
      → summary_of tally.done tally.refused count edition ≡ summary n r
  summary_is count edition counted counts numbers =
      let done = done_is in
      let refused : tally.refused ≡ length (replies_of r) - count_by is_done (replies_of r) = omega (arith, size_is, done_is, counted) in
      let held_ : count ≡ records n r.work = sym counts ∙ ap (λ k. records k now.work) level_now ∙ ap (records n) (sym work_now) in
      let last : edition ≡ last_number r.editions = sym numbers ∙ sym number_now in
      ap (λ k. summary_of k tally.refused count edition) done ∙ ap (λ k. summary_of (count_by is_done (replies_of r)) k count edition) refused
      ∙ ap (λ k. summary_of (count_by is_done (replies_of r)) (length (replies_of r) - count_by is_done (replies_of r)) k edition) held_
      ∙ ap (λ k. summary_of (count_by is_done (replies_of r)) (length (replies_of r) - count_by is_done (replies_of r)) (records n r.work) k) last

  -- ---- an image

  pub last_of : (image : Pages) → Stands image now.last → StandsForLast r image
  last_of image stands = last_is n s at text so.items all image (subst (λ (x : State). Stands image x.last) so.state stands)

  pub last_leaves : (o : Option Tale) → IfSome o (λ t. LeavesNow t (λ image. Stands image now.last)) → IfSome o (λ t. LeavesNow t (StandsForLast r))
  last_leaves None leaves = tt
  last_leaves (Some t) leaves = λ image left. last_of image (leaves image left)

  pub last_seen : (o : Option Tale) → IfSome o (λ t. Stands t.seen now.last) → IfSome o (λ t. StandsForLast r t.seen)
  last_seen None stands = tt
  last_seen (Some t) stands = last_of t.seen stands
