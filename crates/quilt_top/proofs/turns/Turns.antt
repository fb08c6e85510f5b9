-- Turns of the loop that answers items.
use Rattle.std.proofs.Common.{◌≡◌, ℕ, Bool, true, false, ◌&&◌, List, [], ◌∷◌, ◌++◌, refl, sym, ◌∙◌, ap, append_assoc, append-nil, subst, Option, Some, None}
use Rattle.std.specs.List.{list_all}
use Rattle.std.specs.Option.{IfSome}
use Rattle.quilt_world.specs.Stops.{LeavesNow}
use Rattle.quilt_world.specs.Tale.{Tale, Goes}
use Rattle.quilt_edition.specs.Stands.{Stands}
use Rattle.quilt_words.specs.Items.{Group, items_of}
use Rattle.quilt_lang.specs.Reading.{Gives, MayFollow}
use Rattle.quilt_replies.specs.Answers.{State}
use Rattle.quilt_replies.specs.Runs.{text_of, is_done}
use Rattle.quilt_map.proofs.answers.Orderly.{IsReadAt}
use Rattle.quilt_top.specs.Answered.{ItemsAnswered, PrefixOfAll, StopsBetween}
use Rattle.quilt_top.specs.Answering.{Answers, AnswersPrefix, PutsNone, Steps, changes_then, changes_all}
use Rattle.quilt_top.specs.Replies.{held_at, reply_to, state_then, state_after, replies_from, said_for}
use Rattle.quilt_top.specs.Saying.{is_took, Says}
use Rattle.quilt_world.proofs.AddedLaws.{adds_only_none, adds_only_both}
use Rattle.quilt_world.proofs.Told.{goes_then, goes_weaker, goes_and}
use Rattle.quilt_top.proofs.turns.Applying.{answer_says, part_says}
use Rattle.quilt_top.proofs.logs.Said.{says_nothing, says_then, says_same, said-append, said_one, said_none, state-append, done-append, said_same, read_after}
use Rattle.quilt_map.proofs.answers.TextLaws.{gives_none, gives_then}

pub goes_same : (R : Tale → Tale → Type 0) (o : Option Tale) → ((t : Tale) → R t t) → Goes R o o
goes_same R None same = tt
goes_same R (Some t) same = same t

-- with what holds of the last tale
pub goes_at : (R T : Tale → Tale → Type 0) (Q : Tale → Type 0) (o m : Option Tale) → Goes R o m → IfSome m Q
    → ((t u : Tale) → R t u → Q u → T t u) → Goes T o m
goes_at R T Q None None r q step = tt
goes_at R T Q None (Some u) r q step = r
goes_at R T Q (Some t) None r q step = r
goes_at R T Q (Some t) (Some u) r q step = step t u r q

pub and_assoc : (a b c : Bool) → ((a && b) && c) ≡ (a && (b && c))
and_assoc true b c = refl
and_assoc false b c = refl

and_true : (b : Bool) → b ≡ (b && true)
and_true true = refl
and_true false = refl

-- ---- steps, one after another

pub changes-append : (s : State) (c : ℕ) (g h : List Group) → changes_all s c (g ++ h) ≡ changes_all (state_after s g) (changes_all s c g) h
changes-append s c [] h = refl
changes-append s c (i ∷ g) h = changes-append (state_then s (held_at s i)) (changes_then s (held_at s i) c) g h

took_steps : (s : State) (c : ℕ) (hs : List Group) (t u v : Tale) → Steps s c [] t u → Steps s c hs u v → Steps s c hs t v
took_steps s c [] t u v takes steps = adds_only_both is_took t u v takes steps
took_steps s c (h ∷ hs) t u v takes steps =
    (steps.0, record { first = steps.1.first; takes = adds_only_both is_took t u steps.1.first takes steps.1.takes; answers = steps.1.answers }, steps.2)

pub steps_then : (gs hs : List Group) (s : State) (c : ℕ) (t u v : Tale) → Steps s c gs t u → Steps (state_after s gs) (changes_all s c gs) hs u v
    → Steps s c (gs ++ hs) t v
steps_then [] hs s c t u v steps more = took_steps s c hs t u v steps more
steps_then (g ∷ gs) hs s c t u v steps more =
    (steps.0, steps.1, steps_then gs hs (state_then s (held_at s g)) (changes_then s (held_at s g) c) steps.0 u v steps.2 more)

pub steps_one : (s : State) (c : ℕ) (i : Group) (t u : Tale) → Answers s (held_at s i) c (text_of (reply_to s (held_at s i))) t u → Steps s c (i ∷ []) t u
steps_one s c i t u answers = (u, record { first = t; takes = adds_only_none is_took t; answers = answers }, adds_only_none is_took u)

module _ (ended : Bool) (n : ℕ) where
  module _ (so_far : Bool) (s0 : State) (c0 : ℕ) (r0 : List ℕ) (at : IsReadAt n s0.last) where
    -- what all items define begins with what the given ones do
    said_with : (g : List Group) (r1 v : List ℕ) → Gives ended n g r0 r1 → MayFollow ended v →
        said_for s0 (items_of n (r0 ++ v)) ≡ said_for s0 g ++ said_for (state_after s0 g) (items_of n (r1 ++ v))
    said_with g r1 v gives may = said_same s0 n _ _ at (gives.all v may) ∙ said-append s0 g (items_of n (r1 ++ v))

    pub answered_first : (o : Option Tale) → ItemsAnswered ended n so_far so_far s0 s0 c0 c0 r0 r0 o o
    answered_first o = record {
      items = [];
      gives = gives_none ended n r0;
      state = refl;
      changes = refl;
      said = goes_same (Says (said_for s0 [])) o (λ t. says_same [] (said_for s0 []) t t (sym (said_none s0)) (says_nothing t));
      steps = goes_same (Steps s0 c0 []) o (λ t. adds_only_none is_took t);
      done = and_true so_far;
    }

    front_here : (g : List Group) (r1 : List ℕ) (t u : Tale) → Gives ended n g r0 r1 → Says (said_for s0 g) t u → Steps s0 c0 g t u
        → PrefixOfAll ended n s0 c0 r0 t u
    front_here g r1 t u gives says steps = record {
      said = said_for s0 g;
      says = says;
      front = λ v may. (said_for (state_after s0 g) (items_of n (r1 ++ v)), said_with g r1 v gives may);
      items = g;
      next = [];
      left = r1;
      gives = subst (λ (l : List Group). Gives ended n l r0 r1) (sym (append-nil g)) gives;
      steps =
          record {
            middle = u;
            steps = steps;
            part = record { file = record { start = refl; path = refl; was_there = refl }; log = sym (append-nil u.log); input = refl };
          };
    }

    pub stopped_now : (flag : Bool) (s1 : State) (c1 : ℕ) (r1 : List ℕ) (o m : Option Tale) → ItemsAnswered ended n so_far flag s0 s1 c0 c1 r0 r1 o m
        → Goes (PrefixOfAll ended n s0 c0 r0) o m
    stopped_now flag s1 c1 r1 o m so = goes_weaker _ _ o m (goes_and _ _ o m so.said so.steps) (λ t u both. front_here so.items r1 t u so.gives both.0 both.1)

    -- between two replies
    between_here : (g : List Group) (r1 : List ℕ) (t u : Tale) → Gives ended n g r0 r1 → Says (said_for s0 g) t u
        → LeavesNow u (λ image. Stands image (state_after s0 g).last) → StopsBetween ended n s0 r0 t u
    between_here g r1 t u gives says leaves = record { items = g; left = r1; gives = gives; says = says; leaves = leaves }

    pub stopped_between : (flag : Bool) (s1 : State) (c1 : ℕ) (r1 : List ℕ) (o m : Option Tale) → ItemsAnswered ended n so_far flag s0 s1 c0 c1 r0 r1 o m
        → IfSome m (λ u. LeavesNow u (λ image. Stands image s1.last)) → Goes (StopsBetween ended n s0 r0) o m
    stopped_between flag s1 c1 r1 o m so leaves = goes_at _ _ (λ u. LeavesNow u (λ image. Stands image s1.last)) o m so.said leaves (λ t u says left.
        between_here so.items r1 t u so.gives says (subst (λ (s : State). LeavesNow u (λ image. Stands image s.last)) so.state left))

    pub stopped_after : (flag : Bool) (s1 : State) (c1 : ℕ) (r1 : List ℕ) (o m l : Option Tale) → ItemsAnswered ended n so_far flag s0 s1 c0 c1 r0 r1 o m
        → Goes (PutsNone s1) m l → Goes (StopsBetween ended n s0 r0) o l
    stopped_after flag s1 c1 r1 o m l so none = goes_then _ _ _ o m l so.said none (λ t u v says quiet.
        between_here so.items r1 t v so.gives
        (says_same (said_for s0 so.items ++ []) (said_for s0 so.items) t v (append-nil (said_for s0 so.items))
        (says_then (said_for s0 so.items) [] t u v says quiet.says))
        (subst (λ (s : State). LeavesNow v (λ image. Stands image s.last)) so.state quiet.left))

    -- a prefix of the next reply
    front_next : (g : List Group) (i : Group) (r1 r2 : List ℕ) (t u v : Tale) → Gives ended n g r0 r1 → Gives ended n (i ∷ []) r1 r2 →
        Says (said_for s0 g) t u → Steps s0 c0 g t u → AnswersPrefix (state_after s0 g) (held_at (state_after s0 g) i) (changes_all s0 c0 g) u v
        → PrefixOfAll ended n s0 c0 r0 t v
    front_next g i r1 r2 t u v gives next says steps part =
        let s1 = state_after s0 g in
        let some = part_says s1 (held_at s1 i) (changes_all s0 c0 g) u v part in
        let left = some.front.0 in
        record {
          said = said_for s0 g ++ some.said;
          says = says_then (said_for s0 g) some.said t u v says some.says;
          front = λ w may.
              let after_ = said_for (state_after s1 (i ∷ [])) (items_of n (r2 ++ w)) in (
                left ++ after_,
                said_with g r1 w gives may
                    ∙ ap (λ (l : List ℕ). said_for s0 g ++ l)
                    (said_same s1 n _ _ (read_after s0 n g at) (next.all w may) ∙ said-append s1 (i ∷ []) (items_of n (r2 ++ w))
                    ∙ ap (λ (l : List ℕ). l ++ after_) (said_one s1 i ∙ some.front.1) ∙ append_assoc some.said left after_)
                    ∙ sym (append_assoc (said_for s0 g) some.said (left ++ after_)),
              );
          items = g;
          next = i ∷ [];
          left = r2;
          gives = gives_then ended n g (i ∷ []) r0 r1 r2 gives next;
          steps = record { middle = u; steps = steps; part = part };
        }

    pub stopped_part : (flag : Bool) (s1 : State) (c1 : ℕ) (i : Group) (r1 r2 : List ℕ) (o m l : Option Tale)
        → ItemsAnswered ended n so_far flag s0 s1 c0 c1 r0 r1 o m → Gives ended n (i ∷ []) r1 r2 →
        Goes (AnswersPrefix s1 (held_at s1 i) c1) m l → Goes (PrefixOfAll ended n s0 c0 r0) o l
    stopped_part flag s1 c1 i r1 r2 o m l so next part =
        goes_then _ _ _ o m l (goes_and _ _ o m so.said so.steps) (rw (so.state, so.changes) at part) (λ t u v old new.
        front_next so.items i r1 r2 t u v so.gives next old.0 old.1 new)

    pub answered_next : (flag next_flag : Bool) (s1 s2 : State) (c1 c2 : ℕ) (i : Group) (r1 r2 : List ℕ) (o m l : Option Tale)
        → ItemsAnswered ended n so_far flag s0 s1 c0 c1 r0 r1 o m → Gives ended n (i ∷ []) r1 r2 →
        Goes (Answers s1 (held_at s1 i) c1 (text_of (reply_to s1 (held_at s1 i)))) m l → s2 ≡ state_then s1 (held_at s1 i)
        → c2 ≡ changes_then s1 (held_at s1 i) c1
        → next_flag ≡ (flag && is_done (reply_to s1 (held_at s1 i))) → ItemsAnswered ended n so_far next_flag s0 s2 c0 c2 r0 r2 o l
    answered_next flag next_flag s1 s2 c1 c2 i r1 r2 o m l so next answers is count holds =
        let last = state_after s0 so.items in
        let text = text_of (reply_to last (held_at last i)) in
        let here : Goes (Answers last (held_at last i) (changes_all s0 c0 so.items) text) m l = rw (so.state, so.changes) at answers in
        record {
          items = so.items ++ i ∷ [];
          gives = gives_then ended n so.items (i ∷ []) r0 r1 r2 so.gives next;
          state = is ∙ ap (λ (s : State). state_then s (held_at s i)) so.state ∙ sym (state-append s0 so.items (i ∷ []));
          changes = count ∙ ap (λ (s : State). changes_then s (held_at s i) c1) so.state ∙ ap (λ c. changes_then last (held_at last i) c) so.changes
              ∙ sym (changes-append s0 c0 so.items (i ∷ []));
          said = goes_then _ _ _ o m l so.said here (λ t u v says reply.
              says_same _ _ t v (ap (λ (b : List ℕ). said_for s0 so.items ++ b) (sym (said_one last i)) ∙ sym (said-append s0 so.items (i ∷ [])))
              (says_then (said_for s0 so.items) text t u v says (answer_says last (held_at last i) (changes_all s0 c0 so.items) text u v reply)));
          steps = goes_then _ _ _ o m l so.steps here
              (λ t u v steps reply. steps_then so.items (i ∷ []) s0 c0 t u v steps (steps_one last (changes_all s0 c0 so.items) i u v reply));
          done = holds
              ∙ ap (λ (s : State). flag && is_done (reply_to s (held_at s i))) so.state
              ∙ ap (λ (b : Bool). b && is_done (reply_to last (held_at last i))) so.done
              ∙ and_assoc so_far (list_all is_done (replies_from s0 so.items)) (is_done (reply_to last (held_at last i)))
              ∙ ap (λ (b : Bool). so_far && (list_all is_done (replies_from s0 so.items) && b)) (and_true (is_done (reply_to last (held_at last i))))
              ∙ ap (λ (b : Bool). so_far && b) (sym (done-append s0 so.items (i ∷ [])));
        }
