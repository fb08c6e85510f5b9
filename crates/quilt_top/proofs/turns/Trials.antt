-- Turns of the loops that give and answer the items of the text of a trial.
use Rattle.std.proofs.Common.{◌≡◌, ℕ, ◌+◌, ◌<◌, ◌≤◌, ◌==◌, Bool, true, false, cond, List, [], ◌∷◌, ◌++◌, length, map, Option, Some, None, refl, sym}
use Rattle.std.proofs.Common.{◌∙◌, ap, subst, arith, length-append, append-nil, append_assoc, zero, suc, take, IfSome, MatchOption, Result}
use Rattle.std.specs.List.{count_by, slice_split}
use Rattle.std.proofs.lemmas.List.{length-map, map-append, nil_from_length}
use Rattle.std.proofs.lemmas.List.Sums.{sum_by-append}
use Rattle.std.proofs.lemmas.List.Splits.{length-slice_split}
use Rattle.quilt_world.specs.Disk.{Pages}
use Rattle.quilt_world.specs.Tale.{Tale, Goes}
use Rattle.quilt_world.proofs.AddedLaws.{adds_only_none, adds_only_both}
use Rattle.quilt_world.proofs.StopLaws.{since_here, since_both, since_weaker}
use Rattle.quilt_world.proofs.Told.{goes_then}
use Rattle.quilt_world.specs.Added.{is_of_pages}
use Rattle.quilt_edition.specs.Stands.{Stands}
use Rattle.quilt_world.specs.Stops.{LeavesNow}
use Rattle.quilt_types.specs.declared.code.Code.{Code}
use Rattle.quilt_words.specs.declared.command.Command.{Command}
use Rattle.quilt_words.specs.declared.item.Item.{Item}
use Rattle.quilt_words.specs.Items.{Group, held, items_of, lines_of, groups_from, without_empty_end, is_empty, is_silent, asked}
use Rattle.quilt_lang.specs.Reading.{Same, Gives, GivesCommand, GivesItem, HasNone}
use Rattle.quilt_trial.specs.Drawing.{IsTextLine}
use Rattle.quilt_trial.specs.Rest.{newlines}
use Rattle.quilt_replies.specs.Answers.{State, Reply}
use Rattle.quilt_replies.specs.Runs.{Run, is_done}
use Rattle.quilt_map.proofs.answers.Orderly.{IsReadAt}
use Rattle.quilt_map.proofs.answers.TextLaws.{run_same, then_same}
use Rattle.quilt_top.specs.Answering.{StandsForItem, Applies}
use Rattle.quilt_top.specs.Replies.{held_at, outcome, reply_to, state_then, state_after, replies_from}
use Rattle.quilt_top.specs.TextRun.{run_in, IsFine}
use Rattle.quilt_top.specs.Trying.{IsNextCommand, IsNextItem, StandsForOne, TriesCommands, Tried}
use Rattle.quilt_top.specs.declared.trial_run.Tally.{Tally}
use Rattle.quilt_top.proofs.turns.Fine.{fine_either}
use Rattle.quilt_top.proofs.turns.Places.{edition_first, fine_behind}
use Rattle.quilt_top.proofs.logs.Said.{state-append, replies-append}

-- ---- the items of the text

-- the items of the start are those of what is left
abbrev pub Leads : ℕ → List ℕ → List ℕ → Type 0
Leads n start left = Same n (items_of n start) (items_of n left)

module _ (n : ℕ) (start rest trial : List ℕ) (leads : Leads n start (rest ++ trial)) where
  -- where the text has ended
  pub next_last : (f : ℕ) (item : Item) (new : List ℕ) → trial ≡ [] → GivesItem true n f item rest new → IsNextItem n f item start (new ++ trial)
  next_last f item new ended given = record { group = given.group; is = given.is; rest = λ k low. leads k low ∙ given.gives.all trial ended k low }

  pub none_last : trial ≡ [] → items_of n rest ≡ [] → items_of n start ≡ []
  none_last ended none =
      let left : items_of n (rest ++ trial) ≡ [] = ap (λ (l : List ℕ). items_of n (rest ++ l)) ended ∙ ap (items_of n) (append-nil rest) ∙ none in
      let size : length (items_of n start) ≡ length (items_of n (rest ++ trial)) =
      sym (length-map (items_of n start) (held 1 n)) ∙ ap length (leads 1 (omega arith)) ∙ length-map (items_of n (rest ++ trial)) (held 1 n) in
      nil_from_length (items_of n start) (size ∙ ap length left)

  pub fed : (line behind new : List ℕ) → trial ≡ line ++ behind → Gives false n [] (rest ++ line) new → Leads n start (new ++ behind)
  fed line behind new is gives = λ k low.
      leads k low ∙ ap (λ (l : List ℕ). map (held k n) (items_of n (rest ++ l))) is
      ∙ ap (λ (l : List ℕ). map (held k n) (items_of n l)) (sym (append_assoc rest line behind)) ∙ gives.all behind tt k low

-- what is given last, where the text has ended
pub given_last : (n f : ℕ) (start rest trial ended : List ℕ) → Leads n start (rest ++ trial) → trial ≡ [] → ended ≡ []
    → (found : Option (Result Command Code)) (new : List ℕ)
    → MatchOption found ((new ≡ rest) × HasNone true n rest) (λ spelled. GivesCommand true n f spelled rest new)
    → MatchOption found (items_of n start ≡ []) (λ spelled. IsNextCommand n f spelled start (new ++ ended))
given_last n f start rest trial ended leads none now None new given = none_last n start rest trial leads none given.1
given_last n f start rest trial ended leads none now (Some spelled) new given =
    subst (λ (l : List ℕ). IsNextCommand n f spelled start (new ++ l)) (none ∙ sym now)
    (record { item = given.item; next = next_last n start rest trial leads f given.item new none given.gives; is = given.is })

pub shorter : (old line new : List ℕ) → old ≡ line ++ new → IsTextLine line → length new < length old
shorter old line new is so =
    let all = ap length is ∙ length-append line new in
    let one = ap length so.is ∙ length-append so.bytes (10 ∷ []) in omega arith

pub fewer : (n f : ℕ) (item : Item) (old new : List ℕ) → IsNextItem n f item old new → length (items_of n old) ≡ length (items_of n new) + 1
fewer n f item old new next =
    let sizes : length (items_of n old) ≡ length (next.group ∷ items_of n new) =
    sym (length-map (items_of n old) (held 1 n)) ∙ ap length (next.rest 1 (omega arith)) ∙ length-map (next.group ∷ items_of n new) (held 1 n) in
    omega (arith, sizes)

-- ---- how many items a text has

groups_few : (n k : ℕ) (ls : List (List ℕ)) → length (groups_from n k ls) ≤ length ls
groups_few n k [] = omega arith
groups_few n (suc k) (l ∷ ls) = omega (arith, groups_few n k ls)
groups_few n zero (l ∷ ls) = by (is_silent l) (groups_few n 0 ls) (groups_few n (asked n l) ls)
  where
    by : (b : Bool) → length (groups_from n 0 ls) ≤ length ls → length (groups_from n (asked n l) ls) ≤ length ls
        → length (cond b (groups_from n 0 ls) (record { line = l; more = take (asked n l) ls } ∷ groups_from n (asked n l) ls)) ≤ length (l ∷ ls)
    by true silent loud = omega (arith, silent)
    by false silent loud = omega (arith, loud)

lines_few : (ls : List (List ℕ)) → length (without_empty_end ls) ≤ length ls
lines_few [] = omega arith
lines_few (l ∷ []) = by (is_empty l)
  where
    by : (b : Bool) → length (cond {A = List (List ℕ)} b [] (l ∷ [])) ≤ 1
    by true = omega arith
    by false = omega arith
lines_few (l ∷ m ∷ ls) = omega (arith, lines_few (m ∷ ls))

pub items_few : (n : ℕ) (text : List ℕ) → length (items_of n text) ≤ newlines text + 1
unfolding items_of lines_of
items_few n text =
    let parts = slice_split (λ c. c == 10) text in
    omega (arith, groups_few n 0 (without_empty_end parts), lines_few parts, length-slice_split (λ (c : ℕ). c == 10) text)

-- ---- the commands

-- behind more items
one_behind : (s : State) (gs h : List Group) (put : List ℕ) (image : Pages) → IsFine (run_in (state_after s gs) h) put image
    → (more : List ℕ) × IsFine (run_in s (gs ++ h)) more image
one_behind s [] h put image fine = (put, fine)
one_behind s (g ∷ gs) h put image fine =
    let rest = one_behind (state_then s (held_at s g)) gs h put image fine in
    (_, fine_behind s g (gs ++ h) rest.0 image rest.1)

pub tries_none : (r : Run) (t : Tale) → LeavesNow t (StandsForOne r) → TriesCommands r t t
tries_none r t leaves = record { pages = adds_only_none is_of_pages t; stops = since_here t (StandsForOne r) leaves }

tries_both : (r : Run) (t u v : Tale) → TriesCommands r t u → TriesCommands r u v → TriesCommands r t v
tries_both r t u v a b = record { pages = adds_only_both is_of_pages t u v a.pages b.pages; stops = since_both t u v (StandsForOne r) a.stops b.stops }

-- an item that stands behind others in the run
tries_one : (s : State) (gs : List Group) (g : Group) (h : List Group) (c : ℕ) (t u : Tale)
    → Applies (state_after s gs) (held_at (state_after s gs) g) c t u → TriesCommands (run_in s (gs ++ g ∷ h)) t u
tries_one s gs g h c t u applies = record {
  pages = applies.pages;
  stops =
      since_weaker t u (StandsForItem (state_after s gs) (held_at (state_after s gs) g)) (StandsForOne (run_in s (gs ++ g ∷ h))) applies.stops (λ image stands.
      let fine = fine_either (state_after s gs) g h (outcome (state_after s gs) (held_at (state_after s gs) g)).published refl image stands in
      let so = one_behind s gs (g ∷ h) [] image fine in (so.1.place, so.1.edition));
}

-- at the first edition
pub one_first : (s : State) (gs : List Group) (image : Pages) → Stands image s.last → StandsForOne (run_in s gs) image
one_first s gs image stands = (0, record { edition = s.last; is = edition_first s.quota s.last s.work gs; stands = stands })

module _ (n : ℕ) (text : List ℕ) (s : State) (at : IsReadAt n s.last) where
  abbrev r : Run
  r = run_in s (items_of n text)

  pub first_tries : (o : Option Tale) → IfSome o (λ t. LeavesNow t (λ image. Stands image s.last)) → Goes (TriesCommands r) o o
  first_tries None leaves = tt
  first_tries (Some t) leaves = tries_none r t (λ image left. one_first s (items_of n text) image (leaves image left))

  pub first_tried : (tally : Tally) → tally.done ≡ 0 → Tried n text (items_of n text) s s tally
  first_tried tally none = record { items = []; all = λ f low. refl; state = refl; done = none }

  module _ (left : List Group) (now : State) (tally : Tally) (so : Tried n text left s now tally) (g : Group) (behind : List Group)
      (rest : Same n left (g ∷ behind)) where
    pub next_tries : (c : ℕ) (o m l : Option Tale) → Goes (TriesCommands r) o m → Goes (Applies now (held_at now g) c) m l → Goes (TriesCommands r) o l
    next_tries c o m l tries applies =
        let all : Same n (items_of n text) (so.items ++ g ∷ behind) = λ f low. so.all f low ∙ map-append (held f n) so.items left
        ∙ ap (λ l. map (held f n) so.items ++ l) (rest f low) ∙ sym (map-append (held f n) so.items (g ∷ behind)) in
        let is : r ≡ run_in s (so.items ++ g ∷ behind) = run_same s.quota s.last s.work n (items_of n text) (so.items ++ g ∷ behind) at all in
        goes_then _ _ _ o m l tries applies (λ t u v before one.
        tries_both r t u v before (subst (λ (x : Run). TriesCommands x u v) (sym is)
        (tries_one s so.items g behind c u v (subst (λ (x : State). Applies x (held_at x g) c u v) so.state one))))

    one_more : (x : State) → count_by is_done (replies_from x (g ∷ [])) ≡ cond {A = ℕ} (is_done (reply_to x (held_at x g))) 1 0
    one_more x = omega arith

    pub next_tried : (then_ : State) (more : Tally) → then_ ≡ state_then now (held_at now g)
        → more.done ≡ tally.done + cond (is_done (reply_to now (held_at now g))) 1 0 → Tried n text behind s then_ more
    next_tried then_ more is count = record {
      items = so.items ++ g ∷ [];
      all = then_same n so.items (g ∷ []) (items_of n text) left behind so.all rest;
      state = is ∙ ap (λ (x : State). state_then x (held_at x g)) so.state ∙ sym (state-append s so.items (g ∷ []));
      done = count ∙ ap (λ k. k + cond {A = ℕ} (is_done (reply_to now (held_at now g))) 1 0) so.done
          ∙ ap (λ k. count_by is_done (replies_from s so.items) + k) (sym (one_more now))
          ∙ ap (λ (x : State). count_by is_done (replies_from s so.items) + count_by is_done (replies_from x (g ∷ []))) so.state
          ∙ sym (ap (count_by is_done) (replies-append s so.items (g ∷ []))
          ∙ sum_by-append (λ (q : Reply). cond {A = ℕ} (is_done q) 1 0) (replies_from s so.items) (replies_from (state_after s so.items) (g ∷ [])));
    }
