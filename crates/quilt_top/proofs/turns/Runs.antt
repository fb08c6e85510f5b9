-- Turns of the loop that takes the input.
use Rattle.std.proofs.Common.{◌≡◌, ℕ, ◌<◌, ◌+◌, ◌≤◌, ◌^◌, arith, Bool, true, false, ◌&&◌, List, [], ◌∷◌, ◌++◌, length, map, length-append, refl, sym, ◌∙◌, ap}
use Rattle.std.proofs.Common.{subst, append_assoc, append-nil, Option, Some, None}
use Rattle.std.specs.Option.{IfSome}
use Rattle.std.specs.List.{list_all}
use Rattle.std.proofs.lemmas.List.{take_at}
use Rattle.quilt_world.specs.Disk.{Log}
use Rattle.quilt_world.specs.Tale.{Tale, Goes, Adds, Begins, put_bytes, taken_bytes}
use Rattle.quilt_world.specs.Doors.{TakesFrom}
use Rattle.quilt_world.specs.declared.event.Event.TheVariants.{Took}
use Rattle.quilt_words.specs.Items.{Group, held, items_of, whole_items}
use Rattle.quilt_lang.specs.Reading.{Same, Gives, MayFollow}
use Rattle.quilt_replies.specs.Answers.{State, Reply}
use Rattle.quilt_replies.specs.Runs.{is_done}
use Rattle.quilt_map.proofs.answers.Orderly.{IsReadAt}
use Rattle.quilt_top.specs.Answering.{Steps, PartStep, changes_all}
use Rattle.quilt_top.specs.Replies.{state_after, said_for, replies_from}
use Rattle.quilt_top.specs.Saying.{is_took, Says}
use Rattle.quilt_top.specs.TextRun.{run_in, PromptAt, IsUntold, RunsFrom, RunsWhole, Overruns, EndsBetween}
use Rattle.quilt_top.specs.Answered.{ItemsAnswered, PrefixOfAll, StopsBetween}
use Rattle.quilt_top.specs.Reading.{ReadSoFar}
use Rattle.quilt_world.specs.Added.{AtEachTook}
use Rattle.quilt_world.proofs.AddedLaws.{adds_only_none}
use Rattle.quilt_world.proofs.Told.{goes_then, goes_weaker, goes_and}
use Rattle.quilt_top.proofs.logs.Events.{put_bytes-append, taken_bytes-append, nothing_taken, pages_untaken, pages_unput}
use Rattle.quilt_top.proofs.logs.Said.{said-append, said_none, replies-append, length-replies, state-append, done-append, says_quiet, run_replies, run_output}
use Rattle.quilt_top.proofs.logs.Said.{replies_same, said_same, read_after}
use Rattle.quilt_world.specs.Stops.{LeavesNow}
use Rattle.quilt_edition.specs.Stands.{Stands}
use Rattle.quilt_top.proofs.turns.Exits.{took_only, steps_took, last_is, exit_fine, exit_between, exit_ends, exit_writes}
use Rattle.quilt_top.proofs.turns.Fine.{Grows, grows_then, steps_grow, part_grows}
use Rattle.quilt_top.proofs.turns.Turns.{changes-append, steps_then, goes_at}
use Rattle.quilt_top.proofs.logs.Prompts.{each_none, each_more, each_took}
use Rattle.quilt_map.proofs.answers.TextLaws.{gives_none, gives_then, then_same, settled_count}

-- what a text's puts do to what was taken and put
said_takes : (said : List ℕ) (u v : Tale) → Says said u v → taken_bytes v.log ≡ taken_bytes u.log
said_takes said u v says =
    ap taken_bytes says.log ∙ taken_bytes-append u.log says.events
    ∙ ap (λ (l : List ℕ). taken_bytes u.log ++ l) (nothing_taken says.events says.untaken) ∙ append-nil (taken_bytes u.log)

said_puts : (said : List ℕ) (u v : Tale) → Says said u v → put_bytes v.log ≡ put_bytes u.log ++ said
said_puts said u v says = ap put_bytes says.log ∙ put_bytes-append u.log says.events ∙ ap (λ (l : List ℕ). put_bytes u.log ++ l) says.put

said_prompt : (P : Log → Type 0) (said : List ℕ) (u v : Tale) → Says said u v → AtEachTook P u.log → AtEachTook P v.log
said_prompt P said u v says each = subst (AtEachTook P) (sym says.log) (each_more P u.log says.events each says.untaken)

-- with what holds of the last tale
goes_last : (R S T : Tale → Tale → Type 0) (Q : Tale → Type 0) (o m n : Option Tale) → Goes R o m → Goes S m n → IfSome n Q
    → ((t u v : Tale) → R t u → S u v → Q v → T t v) → Goes T o n
goes_last R S T Q None None None r s q step = tt
goes_last R S T Q None None (Some v) r s q step = s
goes_last R S T Q None (Some u) n r s q step = absurd r
goes_last R S T Q (Some t) None n r s q step = absurd r
goes_last R S T Q (Some t) (Some u) None r s q step = s
goes_last R S T Q (Some t) (Some u) (Some v) r s q step = step t u v r s q

module _ (n : ℕ) (s0 : State) (at : IsReadAt n s0.last) where
  pub reading_first : (c : ℕ) (t : Tale) → c ≡ 0 → IsUntold t → LeavesNow t (λ image. Stands image s0.last) → ReadSoFar n 0 true s0 s0 c [] t t
  reading_first c t none new leaves = record {
    untold = new;
    leaves = leaves;
    items = [];
    taken = [];
    gives = gives_none false n [];
    state = refl;
    changes = none;
    steps = adds_only_none is_took t;
    input = refl;
    takes = nothing_taken t.log (pages_untaken t.log new);
    total = refl;
    put = pages_unput t.log new ∙ sym (said_none s0);
    done = refl;
    prompt = each_none (PromptAt n s0 t.input) t.log (pages_untaken t.log new);
  }

  gives_fed : (g : List Group) (a b p : List ℕ) → Gives false n g a b → Gives false n g (a ++ p) (b ++ p)
  gives_fed g a b p so = record {
    all = λ v may. rw (append_assoc a p v, append_assoc b p v) (so.all (p ++ v) tt);
    whole = λ open_ v. rw (append_assoc a p v, append_assoc b p v) (so.whole open_ (p ++ v));
  }

  module _ (count : ℕ) (flag : Bool) (s1 : State) (c1 : ℕ) (rest : List ℕ) where
    -- what is put at this moment is prompt
    prompt_now : (t u : Tale) → (so : ReadSoFar n count flag s0 s1 c1 rest t u) → whole_items n rest ≡ [] → PromptAt n s0 t.input u.log
    unfolding said_for
    prompt_now t u so none =
        let count_ : length (whole_items n (taken_bytes u.log)) ≡ length so.items =
        ap (λ (l : List ℕ). length (whole_items n l)) so.takes ∙ settled_count n so.taken rest so.items so.gives none in
        let split : replies_from s0 (items_of n t.input) ≡ replies_from s0 so.items ++ replies_from (state_after s0 so.items) (items_of n (rest ++ u.input)) =
        ap (λ (l : List ℕ). replies_from s0 (items_of n l)) so.input ∙ replies_same s0 n _ _ at (so.gives.all u.input tt)
        ∙ replies-append s0 so.items (items_of n (rest ++ u.input)) in
        rw (
          count_,
          run_replies s0 (items_of n t.input),
          split,
          take_at (replies_from s0 so.items)
              (replies_from (state_after s0 so.items) (items_of n (rest ++ u.input))) (length so.items) (length-replies s0 so.items),
        ) so.put

    reading_took : (next : ℕ) (b : List ℕ) (t u v : Tale) → next ≡ count + length b → ReadSoFar n count flag s0 s1 c1 rest t u
        → whole_items n rest ≡ [] → 0 < length b → TakesFrom b u v → ReadSoFar n next flag s0 s1 c1 (rest ++ b) t v
    reading_took next b t u v sum so none some takes = record {
      untold = so.untold;
      leaves = so.leaves;
      items = so.items;
      taken = so.taken ++ b;
      gives = gives_fed so.items so.taken rest b so.gives;
      state = so.state;
      changes = so.changes;
      steps = steps_took so.items s0 0 t u v so.steps (took_only b u v takes);
      input = so.input ∙ ap (λ (l : List ℕ). so.taken ++ l) takes.next ∙ sym (append_assoc so.taken b v.input);
      takes = ap taken_bytes (takes.log some) ∙ taken_bytes-append u.log (Took b ∷ []) ∙ ap (λ (l : List ℕ). l ++ (b ++ [])) so.takes
          ∙ ap (λ (l : List ℕ). so.taken ++ l) (append-nil b);
      total = sum ∙ ap (λ c. c + length b) so.total ∙ sym (length-append so.taken b);
      put = ap put_bytes (takes.log some) ∙ put_bytes-append u.log (Took b ∷ []) ∙ append-nil (put_bytes u.log) ∙ so.put;
      done = so.done;
      prompt = subst (AtEachTook (PromptAt n s0 t.input)) (sym (takes.log some)) (each_took (PromptAt n s0 t.input) u.log b so.prompt (prompt_now t u so none));
    }

    reading_fed : (r1 : List ℕ) (t u : Tale) → Gives false n [] rest r1 → ReadSoFar n count flag s0 s1 c1 rest t u → ReadSoFar n count flag s0 s1 c1 r1 t u
    reading_fed r1 t u fed so = record {
      untold = so.untold;
      leaves = so.leaves;
      items = so.items;
      taken = so.taken;
      gives = let both : Gives false n (so.items ++ []) so.taken r1 = gives_then false n so.items [] so.taken rest r1 so.gives fed in
          subst (λ (g : List Group). Gives false n g so.taken r1) (append-nil so.items) both;
      state = so.state;
      changes = so.changes;
      steps = so.steps;
      input = so.input;
      takes = so.takes;
      total = so.total;
      put = so.put;
      done = so.done;
      prompt = so.prompt;
    }

    -- the steps behind those that were taken
    steps_on : (g : List Group) (t u v : Tale) (so : ReadSoFar n count flag s0 s1 c1 rest t u) → Steps s1 c1 g u v → Steps s0 0 (so.items ++ g) t v
    steps_on g t u v so steps =
        steps_then so.items g s0 0 t u v so.steps
        (subst (λ c. Steps (state_after s0 so.items) c g u v) so.changes (subst (λ (s : State). Steps s c1 g u v) so.state steps))

    -- what was put behind more items
    put_behind : (g : List Group) (t u v : Tale) → (so : ReadSoFar n count flag s0 s1 c1 rest t u) → Says (said_for s1 g) u v
        → put_bytes v.log ≡ said_for s0 (so.items ++ g)
    put_behind g t u v so says =
        said_puts (said_for s1 g) u v says ∙ ap (λ (l : List ℕ). l ++ said_for s1 g) so.put
        ∙ ap (λ (s : State). said_for s0 so.items ++ said_for s g) so.state ∙ sym (said-append s0 so.items g)

    -- more items were answered
    reading_more : (more : Bool) (s2 : State) (c2 : ℕ) (g : List Group) (r2 : List ℕ) (t u v : Tale) → ReadSoFar n count flag s0 s1 c1 rest t u
        → Gives false n g rest r2 → s2 ≡ state_after s1 g → c2 ≡ changes_all s1 c1 g
        → more ≡ (flag && list_all is_done (replies_from s1 g)) → Says (said_for s1 g) u v → Steps s1 c1 g u v → ReadSoFar n count more s0 s2 c2 r2 t v
    reading_more more s2 c2 g r2 t u v so gives is counts holds says steps = record {
      untold = so.untold;
      leaves = so.leaves;
      items = so.items ++ g;
      taken = so.taken;
      gives = gives_then false n so.items g so.taken rest r2 so.gives gives;
      state = is ∙ ap (λ (s : State). state_after s g) so.state ∙ sym (state-append s0 so.items g);
      changes = counts ∙ ap (λ (s : State). changes_all s c1 g) so.state ∙ ap (λ c. changes_all (state_after s0 so.items) c g) so.changes
          ∙ sym (changes-append s0 0 so.items g);
      steps = steps_on g t u v so steps;
      input = so.input ∙ ap (λ (l : List ℕ). so.taken ++ l) (sym says.input);
      takes = said_takes (said_for s1 g) u v says ∙ so.takes;
      total = so.total;
      put = put_behind g t u v so says;
      done = holds ∙ ap (λ (b : Bool). b && list_all is_done (replies_from s1 g)) so.done
          ∙ ap (λ (s : State). list_all is_done (replies_from s0 so.items) && list_all is_done (replies_from s g)) so.state
          ∙ sym (done-append s0 so.items g);
      prompt = said_prompt (PromptAt n s0 t.input) (said_for s1 g) u v says so.prompt;
    }

    pub reading_answered : (more : Bool) (s2 : State) (c2 : ℕ) (r2 : List ℕ) (o m k : Option Tale) → Goes (ReadSoFar n count flag s0 s1 c1 rest) o m
        → ItemsAnswered false n flag more s1 s2 c1 c2 rest r2 m k → Goes (ReadSoFar n count more s0 s2 c2 r2) o k
    reading_answered more s2 c2 r2 o m k so a = goes_then _ _ _ o m k so (goes_and _ _ m k a.said a.steps)
        (λ t u v so both. reading_more more s2 c2 a.items r2 t u v so a.gives a.state a.changes a.done both.0 both.1)

    reading_end : (t u v : Tale) → ReadSoFar n count flag s0 s1 c1 rest t u → TakesFrom [] u v → ReadSoFar n count flag s0 s1 c1 rest t v × (v.input ≡ [])
    reading_end t u v so takes =
        let ended : v.input ≡ [] = sym takes.next ∙ takes.end refl in (
          record {
            untold = so.untold;
            leaves = so.leaves;
            items = so.items;
            taken = so.taken;
            gives = so.gives;
            state = so.state;
            changes = so.changes;
            steps = steps_took so.items s0 0 t u v so.steps (took_only [] u v takes);
            input = so.input ∙ ap (λ (l : List ℕ). so.taken ++ l) takes.next;
            takes = ap taken_bytes (takes.same refl) ∙ so.takes;
            total = so.total;
            put = ap put_bytes (takes.same refl) ∙ so.put;
            done = so.done;
            prompt = subst (AtEachTook (PromptAt n s0 t.input)) (sym (takes.same refl)) so.prompt;
          },
          ended,
        )

    all_said : (t u : Tale) → (so : ReadSoFar n count flag s0 s1 c1 rest t u)
        → said_for s0 (items_of n t.input) ≡ said_for s0 so.items ++ said_for s1 (items_of n (rest ++ u.input))
    all_said t u so =
        ap (λ (l : List ℕ). said_for s0 (items_of n l)) so.input ∙ said_same s0 n _ _ at (so.gives.all u.input tt)
        ∙ said-append s0 so.items (items_of n (rest ++ u.input))
        ∙ ap (λ (s : State). said_for s0 so.items ++ said_for s (items_of n (rest ++ u.input))) (sym so.state)

    all_done : (t u : Tale) → (so : ReadSoFar n count flag s0 s1 c1 rest t u)
        → list_all is_done (replies_from s0 (items_of n t.input)) ≡ (flag && list_all is_done (replies_from s1 (items_of n (rest ++ u.input))))
    all_done t u so =
        ap (λ (l : List ℕ). list_all is_done (replies_from s0 (items_of n l))) so.input
        ∙ ap (list_all is_done) (replies_same s0 n _ _ at (so.gives.all u.input tt)) ∙ done-append s0 so.items (items_of n (rest ++ u.input))
        ∙ ap (λ (s : State). list_all is_done (replies_from s0 so.items) && list_all is_done (replies_from s (items_of n (rest ++ u.input)))) (sym so.state)
        ∙ ap (λ (b : Bool). b && list_all is_done (replies_from s1 (items_of n (rest ++ u.input)))) (sym so.done)

    -- all items are those that were answered, those of the rest, and then others
    all_items : (g h : List Group) (t u : Tale) (so : ReadSoFar n count flag s0 s1 c1 rest t u) → Same n (items_of n (rest ++ u.input)) (g ++ h)
        → Same n (items_of n t.input) ((so.items ++ g) ++ h)
    all_items g h t u so same =
        subst (λ (l : List ℕ). Same n (items_of n l) ((so.items ++ g) ++ h)) (sym so.input)
        (then_same n so.items g (items_of n (so.taken ++ u.input)) (items_of n (rest ++ u.input)) h (so.gives.all u.input tt) same)

    -- at an exit
    runs_after : (said : List ℕ) (g next h : List Group) (t u w v : Tale) → count ≤ 2 ^ 30 + 4096 → ReadSoFar n count flag s0 s1 c1 rest t u
        → Says said u v → Begins (said_for s1 (items_of n (rest ++ u.input))) said
        → Same n (items_of n (rest ++ u.input)) ((g ++ next) ++ h) → Steps s1 c1 g u w → PartStep (state_after s1 g) (changes_all s1 c1 g) next w v
        → RunsFrom n s0 t v
    runs_after said g next h t u w v few so says front same steps part =
        let items = so.items ++ g in
        let all : Same n (items_of n t.input) (items ++ (next ++ h)) =
        subst (λ (l : List Group). Same n (items_of n t.input) l) (sym (append_assoc so.items g (next ++ h)))
        (subst (λ (l : List Group). Same n (items_of n t.input) (so.items ++ l)) (append_assoc g next h)
        (subst (λ (l : List Group). Same n (items_of n t.input) l) (append_assoc so.items (g ++ next) h) (all_items (g ++ next) h t u so same))) in
        let now = steps_on g t u w so steps in
        let state : state_after s1 g ≡ state_after s0 items = ap (λ (s : State). state_after s g) so.state ∙ sym (state-append s0 so.items g) in
        let counts : changes_all s1 c1 g ≡ changes_all s0 0 items =
        ap (λ (s : State). changes_all s c1 g) so.state ∙ ap (λ c. changes_all (state_after s0 so.items) c g) so.changes
        ∙ sym (changes-append s0 0 so.items g) in
        let last : PartStep (state_after s0 items) (changes_all s0 0 items) next w v =
        subst (λ c. PartStep (state_after s0 items) c next w v) counts (subst (λ (s : State). PartStep s (changes_all s1 c1 g) next w v) state part) in
        let grows : Grows t v = grows_then t w v (steps_grow items s0 0 t w now) (part_grows next (state_after s0 items) (changes_all s0 0 items) w v last) in
        record {
          file = grows.file;
          events = grows.events;
          log = grows.log;
          input = so.input ∙ ap (λ (l : List ℕ). l ++ u.input) (sym so.takes ∙ sym (said_takes said u v says))
              ∙ ap (λ (l : List ℕ). taken_bytes v.log ++ l) (sym says.input);
          front = (
            front.0,
            run_output s0 (items_of n t.input) ∙ all_said t u so ∙ ap (λ (l : List ℕ). said_for s0 so.items ++ l) front.1
                ∙ sym (append_assoc (said_for s0 so.items) said front.0)
                ∙ ap (λ (l : List ℕ). l ++ front.0) (ap (λ (l : List ℕ). l ++ said) (sym so.put) ∙ sym (said_puts said u v says)),
          );
          prompt = said_prompt (PromptAt n s0 t.input) said u v says so.prompt;
          bounded = omega (arith, few, so.total, ap length (said_takes said u v says ∙ so.takes));
          stops = exit_fine n s0 at t.input items next h t w v all now last so.leaves grows.events grows.log;
          between = exit_between n s0 at t.input items next h t w v all now last grows.events grows.log;
          writes = exit_writes n s0 at t.input items next h t w v all now last so.untold;
        }

    runs_quietly : (t u v : Tale) → count ≤ 2 ^ 30 + 4096 → ReadSoFar n count flag s0 s1 c1 rest t u → Adds [] u v → RunsFrom n s0 t v
    runs_quietly t u v few so none =
        runs_after [] [] [] (items_of n (rest ++ u.input)) t u u v few so (says_quiet u v none) (said_for s1 (items_of n (rest ++ u.input)), refl)
        (λ f low. refl) (adds_only_none is_took u) none

    -- at an exit between calls
    pub runs_now : (t u : Tale) → count ≤ 2 ^ 30 + 4096 → ReadSoFar n count flag s0 s1 c1 rest t u → RunsFrom n s0 t u
    runs_now t u few so =
        runs_quietly t u u few so (record { file = record { start = refl; path = refl; was_there = refl }; log = sym (append-nil u.log); input = refl })

    runs_stopped : (ended : Bool) (t u v : Tale) → count ≤ 2 ^ 30 + 4096 → MayFollow ended u.input → ReadSoFar n count flag s0 s1 c1 rest t u
        → PrefixOfAll ended n s1 c1 rest u v → RunsFrom n s0 t v
    runs_stopped ended t u v few may so stopped =
        runs_after stopped.said stopped.items stopped.next (items_of n (stopped.left ++ u.input)) t u stopped.steps.middle v few so stopped.says
        (stopped.front u.input may)
        (stopped.gives.all u.input may) stopped.steps.steps stopped.steps.part

    -- between two replies
    pub ends_now : (t u : Tale) → ReadSoFar n count flag s0 s1 c1 rest t u → LeavesNow u (λ image. Stands image s1.last)
        → EndsBetween (run_in s0 (items_of n t.input)) u
    ends_now t u so leaves =
        exit_ends n s0 at t.input so.items (items_of n (rest ++ u.input)) u
        (subst (λ (l : List ℕ). Same n (items_of n l) (so.items ++ items_of n (rest ++ u.input))) (sym so.input) (so.gives.all u.input tt)) so.put
        (subst (λ (s : State). LeavesNow u (λ image. Stands image s.last)) so.state leaves)

    ends_stopped : (ended : Bool) (t u v : Tale) → MayFollow ended u.input → ReadSoFar n count flag s0 s1 c1 rest t u → StopsBetween ended n s1 rest u v
        → EndsBetween (run_in s0 (items_of n t.input)) v
    ends_stopped ended t u v may so stopped =
        let g = stopped.items in
        let state : state_after s1 g ≡ state_after s0 (so.items ++ g) = ap (λ (s : State). state_after s g) so.state ∙ sym (state-append s0 so.items g) in
        exit_ends n s0 at t.input (so.items ++ g) (items_of n (stopped.left ++ u.input)) v
        (all_items g (items_of n (stopped.left ++ u.input)) t u so (stopped.gives.all u.input may)) (put_behind g t u v so stopped.says)
        (subst (λ (s : State). LeavesNow v (λ image. Stands image s.last)) state stopped.leaves)

    pub goes_ends : (o m : Option Tale) → Goes (ReadSoFar n count flag s0 s1 c1 rest) o m → IfSome m (λ u. LeavesNow u (λ image. Stands image s1.last))
        → Goes (λ t u. EndsBetween (run_in s0 (items_of n t.input)) u) o m
    goes_ends o m so leaves = goes_at _ _ (λ u. LeavesNow u (λ image. Stands image s1.last)) o m so leaves (λ t u so left. ends_now t u so left)

    pub goes_between : (o m k : Option Tale) → Goes (ReadSoFar n count flag s0 s1 c1 rest) o m → Goes (StopsBetween false n s1 rest) m k
        → Goes (λ t u. EndsBetween (run_in s0 (items_of n t.input)) u) o k
    goes_between o m k so stopped = goes_then _ _ _ o m k so stopped (λ t u v so stopped. ends_stopped false t u v tt so stopped)

    pub goes_between_end : (o m k : Option Tale) → Goes (λ t u. ReadSoFar n count flag s0 s1 c1 rest t u × (u.input ≡ [])) o m
        → Goes (StopsBetween true n s1 rest) m k → Goes (λ t u. EndsBetween (run_in s0 (items_of n t.input)) u) o k
    goes_between_end o m k so stopped = goes_then _ _ _ o m k so stopped (λ t u v so stopped. ends_stopped true t u v so.1 so.0 stopped)

    left_items : (r2 : List ℕ) (u : Tale) (g : List Group) → u.input ≡ [] → Gives true n g rest r2 → items_of n r2 ≡ []
        → Same n (items_of n (rest ++ u.input)) g
    left_items r2 u g ended gives none = λ f low.
        ap (λ (l : List ℕ). map (held f n) (items_of n (rest ++ l))) ended ∙ gives.all [] refl f low
        ∙ ap (λ (l : List ℕ). map (held f n) (g ++ items_of n l)) (append-nil r2) ∙ ap (λ (l : List Group). map (held f n) (g ++ l)) none
        ∙ ap (map (held f n)) (append-nil g)

    read_now : (t u : Tale) → ReadSoFar n count flag s0 s1 c1 rest t u → IsReadAt n s1.last
    read_now t u so = subst (λ (s : State). IsReadAt n s.last) (sym so.state) (read_after s0 n so.items at)

    -- at the end all is put
    runs_whole : (more : Bool) (s2 : State) (r2 : List ℕ) (t u v : Tale) → (g : List Group) → count ≤ 2 ^ 30 → ReadSoFar n count flag s0 s1 c1 rest t u
        → u.input ≡ [] → Gives true n g rest r2 → items_of n r2 ≡ [] → s2 ≡ state_after s1 g
        → more ≡ (flag && list_all is_done (replies_from s1 g)) → Says (said_for s1 g) u v → Steps s1 c1 g u v
        → Stands v.seen s2.last × LeavesNow v (λ image. Stands image s2.last) → RunsFrom n s0 t v × RunsWhole n more s0 t v
    runs_whole more s2 r2 t u v g few so ended gives none is holds says steps stands =
        let left = left_items r2 u g ended gives none in
        let here = read_now t u so in
        let same : said_for s1 (items_of n (rest ++ u.input)) ≡ said_for s1 g = said_same s1 n _ _ here left in
        let both : Same n (items_of n (rest ++ u.input)) ((g ++ []) ++ []) =
        subst (λ (l : List Group). Same n (items_of n (rest ++ u.input)) l) (sym (append-nil (g ++ []) ∙ append-nil g)) left in
        let all : Same n (items_of n t.input) (so.items ++ g) =
        subst (λ (l : List Group). Same n (items_of n t.input) l) (append-nil (so.items ++ g))
        (all_items g [] t u so (subst (λ (l : List Group). Same n (items_of n (rest ++ u.input)) l) (sym (append-nil g)) left)) in
        let state : s2 ≡ state_after s0 (so.items ++ g) = is ∙ ap (λ (s : State). state_after s g) so.state ∙ sym (state-append s0 so.items g) in (
          runs_after (said_for s1 g) g [] [] t u v v (omega (arith, few)) so says ([], same ∙ sym (append-nil (said_for s1 g))) both steps
              (record { file = record { start = refl; path = refl; was_there = refl }; log = sym (append-nil v.log); input = refl }),
          record {
            whole = said_puts (said_for s1 g) u v says ∙ ap (λ (l : List ℕ). l ++ said_for s1 g) so.put
                ∙ ap (λ (l : List ℕ). said_for s0 so.items ++ l) (sym same) ∙ sym (run_output s0 (items_of n t.input) ∙ all_said t u so);
            taken = says.input ∙ ended;
            few = omega (arith, few, so.total, ap length (said_takes (said_for s1 g) u v says ∙ so.takes));
            done = holds ∙ ap (λ (h : List Reply). flag && list_all is_done h) (sym (replies_same s1 n _ _ here left))
                ∙ sym (ap (list_all is_done) (run_replies s0 (items_of n t.input)) ∙ all_done t u so);
            last = last_is n s0 at t.input (so.items ++ g) all v.seen (subst (λ (s : State). Stands v.seen s.last) state stands.0);
            ends = exit_ends n s0 at t.input (so.items ++ g) [] v
                (all_items g [] t u so (subst (λ (l : List Group). Same n (items_of n (rest ++ u.input)) l) (sym (append-nil g)) left))
                (put_behind g t u v so says)
                (subst (λ (s : State). LeavesNow v (λ image. Stands image s.last)) state stands.1);
          },
        )

    pub runs_answered : (more : Bool) (s2 : State) (c2 : ℕ) (r2 : List ℕ) (o m k : Option Tale) → count ≤ 2 ^ 30
        → Goes (λ t u. ReadSoFar n count flag s0 s1 c1 rest t u × (u.input ≡ [])) o m → ItemsAnswered true n flag more s1 s2 c1 c2 rest r2 m k → items_of n r2 ≡ []
        → IfSome k (λ v. Stands v.seen s2.last × LeavesNow v (λ image. Stands image s2.last)) → Goes (λ t v. RunsFrom n s0 t v × RunsWhole n more s0 t v) o k
    runs_answered more s2 c2 r2 o m k few so a none stands = goes_last _ _ _ _ o m k so (goes_and _ _ m k a.said a.steps) stands (λ t u v so both stands.
        runs_whole more s2 r2 t u v a.items few so.0 so.1 a.gives none a.state a.done both.0 both.1 stands)

    pub runs_quiet : (o m k : Option Tale) → count ≤ 2 ^ 30 + 4096 → Goes (ReadSoFar n count flag s0 s1 c1 rest) o m → Goes (Adds []) m k
        → Goes (RunsFrom n s0) o k
    runs_quiet o m k few so none = goes_then _ _ _ o m k so none (λ t u v so none. runs_quietly t u v few so none)

    pub goes_took : (next : ℕ) (b : List ℕ) (o m k : Option Tale) → next ≡ count + length b → Goes (ReadSoFar n count flag s0 s1 c1 rest) o m
        → whole_items n rest ≡ [] → 0 < length b → Goes (TakesFrom b) m k → Goes (ReadSoFar n next flag s0 s1 c1 (rest ++ b)) o k
    goes_took next b o m k sum so none some takes = goes_then _ _ _ o m k so takes (λ t u v so takes. reading_took next b t u v sum so none some takes)

    pub goes_fed : (r1 : List ℕ) (o m : Option Tale) → Goes (ReadSoFar n count flag s0 s1 c1 rest) o m → Gives false n [] rest r1
        → Goes (ReadSoFar n count flag s0 s1 c1 r1) o m
    goes_fed r1 o m so fed = goes_weaker _ _ o m so (λ t u so. reading_fed r1 t u fed so)

    pub goes_counted : (c : ℕ) (o m : Option Tale) → c ≡ c1 → Goes (ReadSoFar n count flag s0 s1 c1 rest) o m → Goes (ReadSoFar n count flag s0 s1 c rest) o m
    goes_counted c o m is so = subst (λ x. Goes (ReadSoFar n count flag s0 s1 x rest) o m) (sym is) so

    pub goes_runs : (o m : Option Tale) → count ≤ 2 ^ 30 + 4096 → Goes (ReadSoFar n count flag s0 s1 c1 rest) o m → Goes (RunsFrom n s0) o m
    goes_runs o m few so = goes_weaker _ _ o m so (λ t u so. runs_now t u few so)

    overruns : (next : ℕ) (b : List ℕ) (t u v : Tale) → next ≡ count + length b → 2 ^ 30 < next → ReadSoFar n count flag s0 s1 c1 rest t u
        → whole_items n rest ≡ [] → 0 < length b → TakesFrom b u v → Overruns v
    overruns next b t u v sum past so none some takes =
        let now = reading_took next b t u v sum so none some takes in
        record { past = omega (arith, past, now.total, ap length now.takes); so_far = u.log; piece = b; last = takes.log some }

    pub goes_past : (next : ℕ) (b : List ℕ) (o m k : Option Tale) → next ≡ count + length b → 2 ^ 30 < next
        → Goes (ReadSoFar n count flag s0 s1 c1 rest) o m → whole_items n rest ≡ [] → 0 < length b → Goes (TakesFrom b) m k → Goes (λ old new. Overruns new) o k
    goes_past next b o m k sum past so none some takes = goes_then _ _ _ o m k so takes (λ t u v so takes. overruns next b t u v sum past so none some takes)

    pub goes_stopped : (o m k : Option Tale) → count ≤ 2 ^ 30 + 4096 → Goes (ReadSoFar n count flag s0 s1 c1 rest) o m
        → Goes (PrefixOfAll false n s1 c1 rest) m k → Goes (RunsFrom n s0) o k
    goes_stopped o m k few so stopped = goes_then _ _ _ o m k so stopped (λ t u v so stopped. runs_stopped false t u v few tt so stopped)

    pub goes_ended : (o m k : Option Tale) → Goes (ReadSoFar n count flag s0 s1 c1 rest) o m → Goes (TakesFrom []) m k
        → Goes (λ t u. ReadSoFar n count flag s0 s1 c1 rest t u × (u.input ≡ [])) o k
    goes_ended o m k so takes = goes_then _ _ _ o m k so takes (λ t u v so takes. reading_end t u v so takes)

    pub ended_counted : (c : ℕ) (o m : Option Tale) → c ≡ c1 → Goes (λ t u. ReadSoFar n count flag s0 s1 c1 rest t u × (u.input ≡ [])) o m
        → Goes (λ t u. ReadSoFar n count flag s0 s1 c rest t u × (u.input ≡ [])) o m
    ended_counted c o m is so = subst (λ x. Goes (λ t u. ReadSoFar n count flag s0 s1 x rest t u × (u.input ≡ [])) o m) (sym is) so

    pub goes_stopped_end : (o m k : Option Tale) → count ≤ 2 ^ 30 + 4096 → Goes (λ t u. ReadSoFar n count flag s0 s1 c1 rest t u × (u.input ≡ [])) o m
        → Goes (PrefixOfAll true n s1 c1 rest) m k → Goes (RunsFrom n s0) o k
    goes_stopped_end o m k few so stopped = goes_then _ _ _ o m k so stopped (λ t u v so stopped. runs_stopped true t u v few so.1 so.0 stopped)

pub goes_left : (R S : Tale → Tale → Type 0) (o m : Option Tale) → Goes (λ t u. R t u × S t u) o m → Goes R o m
goes_left R S o m both = goes_weaker _ _ o m both (λ t u (r, s). r)

pub goes_right : (R S : Tale → Tale → Type 0) (o m : Option Tale) → Goes (λ t u. R t u × S t u) o m → Goes S o m
goes_right R S o m both = goes_weaker _ _ o m both (λ t u (r, s). s)
