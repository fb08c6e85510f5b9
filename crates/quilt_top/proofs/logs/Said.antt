-- What is put, call after call.
use Rattle.std.proofs.Common.{◌≡◌, ℕ, ◌+◌, ◌≤◌, arith, ◌&&◌, List, [], ◌∷◌, ◌++◌, length, suc, take, drop, refl, sym, ◌∙◌, ap, subst, append_assoc, append-nil}
use Rattle.std.proofs.Common.{Option, Result, Ok, Err, OnErr, IfOk, IfErr}
use Rattle.std.specs.List.{list_all}
use Rattle.std.specs.Result.{IsErrAnd}
use Rattle.std.proofs.lemmas.List.{take-take, drop-take, take-append-drop}
use Rattle.std.proofs.lemmas.List.Folds.{list_all-append}
use Rattle.quilt_world.specs.Disk.{Log}
use Rattle.quilt_world.specs.Tale.{Tale, Adds, Goes, put_bytes, Begins}
use Rattle.quilt_world.specs.declared.event.Event.TheVariants.{Put}
use Rattle.quilt_world.specs.Added.{AddsOnly, is_of_text}
use Rattle.quilt_world.proofs.AddedLaws.{only-append, adds_only_both}
use Rattle.quilt_world.proofs.TextLaws.{put_text, nothing_text}
use Rattle.quilt_world.proofs.Told.{goes_then}
use Rattle.quilt_world.proofs.StopLaws.{same_file}
use Rattle.quilt_words.specs.declared.item.Item.{Item}
use Rattle.quilt_words.specs.Forms.{form}
use Rattle.quilt_words.specs.Items.{Group}
use Rattle.quilt_lang.specs.Reading.{Same}
use Rattle.quilt_map.proofs.answers.Orderly.{IsReadAt, read_then}
use Rattle.quilt_map.proofs.answers.TextLaws.{run_same}
use Rattle.quilt_replies.specs.Answers.{State, Reply}
use Rattle.quilt_replies.specs.Runs.{Run, replies_of, text_of, output, is_done}
use Rattle.quilt_top.specs.Replies.{held_at, reply_to, state_then, state_after, replies_from, said_for}
use Rattle.quilt_top.specs.TextRun.{run_in}
use Rattle.quilt_top.specs.Saying.{takes_none, Says, SaysPrefix}
use Rattle.quilt_top.proofs.logs.Events.{put_bytes-append}

pub says_nothing : (t : Tale) → Says [] t t
says_nothing t = record {
  file = record { start = refl; path = refl; was_there = refl };
  input = refl;
  events = [];
  log = sym (append-nil t.log);
  untaken = refl;
  put = refl;
}

pub says_then : (a b : List ℕ) (t u v : Tale) → Says a t u → Says b u v → Says (a ++ b) t v
says_then a b t u v first second = record {
  file = same_file t u v first.file second.file;
  input = second.input ∙ first.input;
  events = first.events ++ second.events;
  log = second.log ∙ ap (λ (l : Log). l ++ second.events) first.log ∙ append_assoc t.log first.events second.events;
  untaken = only-append takes_none first.events second.events first.untaken second.untaken;
  put = put_bytes-append first.events second.events ∙ ap (λ (l : List ℕ). l ++ put_bytes second.events) first.put ∙ ap (λ (l : List ℕ). a ++ l) second.put;
}

pub says_same : (a b : List ℕ) (t u : Tale) → a ≡ b → Says a t u → Says b t u
says_same a b t u same says =
    record { file = says.file; input = says.input; events = says.events; log = says.log; untaken = says.untaken; put = says.put ∙ same }

pub says_put : (bytes : List ℕ) (t u : Tale) → Adds (Put bytes ∷ []) t u → Says bytes t u
says_put bytes t u adds = record { file = adds.file; input = adds.input; events = Put bytes ∷ []; log = adds.log; untaken = refl; put = append-nil bytes }

pub says_quiet : (t u : Tale) → Adds [] t u → Says [] t u
says_quiet t u adds = record { file = adds.file; input = adds.input; events = []; log = adds.log; untaken = refl; put = refl }

pub says_front : (a b : List ℕ) (t u : Tale) → Begins b a → Says a t u → SaysPrefix b t u
says_front a b t u front says = record { said = a; front = front; says = says }

pub on_err : {A E : Type 0} (r : Result A E) (P : Type 0) → P → OnErr r P
on_err (Ok x) P p = tt
on_err (Err e) P p = p

pub on_err_all : {A E S : Type 0} (r : Result A E) (At Q : S → Type 0) → ((t : S) → At t → Q t) → OnErr r ((t : S) → At t → Q t)
on_err_all r At Q all = on_err r _ all

-- the same of each of some things of a sort
pub on_err_each : {A E S T : Type 0} (r : Result A E) (Of : T → Type 0) (At : S → Type 0) (Q : T → S → Type 0)
    → ((x : T) → Of x → (t : S) → At t → Q x t) → OnErr r ((x : T) → Of x → (t : S) → At t → Q x t)
on_err_each r Of At Q all = on_err r _ all

-- an error that was handed on
pub err_from : {A E : Type 0} (r : Result A E) (x : E) (P Q : E → Type 0) → IsErrAnd r P → ((e : E) → P e → e ≡ x) → Q x → IfErr r Q
err_from (Ok a) x P Q given is so = tt
err_from (Err e) x P Q given is so = subst Q (sym (is e given)) so

pub take_two : (d n m : ℕ) (b : List ℕ) → n ≤ m → take d b ++ take n (take m (drop d b)) ≡ take (d + n) b
take_two d n m b le =
    rw (take-take n m (drop d b) le)
    (sym (ap (λ (l : List ℕ). l ++ drop d (take (d + n) b)) (take-take d (d + n) b (omega arith))
    ∙ ap (λ (l : List ℕ). take d b ++ l) (drop-take d n b)) ∙ take-append-drop d (take (d + n) b))

-- only text is added, call after call
pub text_put : (bytes : List ℕ) (o m n : Option Tale) → Goes (AddsOnly is_of_text) o m → Goes (Adds (Put bytes ∷ [])) m n → Goes (AddsOnly is_of_text) o n
text_put bytes o m n text adds = goes_then _ _ _ o m n text adds (λ t u v a b. adds_only_both is_of_text t u v a (put_text bytes u v b))

pub text_quiet : (o m n : Option Tale) → Goes (AddsOnly is_of_text) o m → Goes (Adds []) m n → Goes (AddsOnly is_of_text) o n
text_quiet o m n text adds = goes_then _ _ _ o m n text adds (λ t u v a b. adds_only_both is_of_text t u v a (nothing_text u v b))

-- The replies to items, and then to more.
pub state-append : (s : State) (g h : List Group) → state_after s (g ++ h) ≡ state_after (state_after s g) h
state-append s [] h = refl
state-append s (i ∷ g) h = state-append (state_then s (held_at s i)) g h

pub replies-append : (s : State) (g h : List Group) → replies_from s (g ++ h) ≡ replies_from s g ++ replies_from (state_after s g) h
replies-append s [] h = refl
replies-append s (i ∷ g) h = ap (λ (l : List Reply). reply_to s (held_at s i) ∷ l) (replies-append (state_then s (held_at s i)) g h)

pub output-append : (a b : List Reply) → output (a ++ b) ≡ output a ++ output b
output-append [] b = refl
output-append (r ∷ a) b = ap (λ (l : List ℕ). text_of r ++ l) (output-append a b) ∙ sym (append_assoc (text_of r) (output a) (output b))

pub said-append : (s : State) (g h : List Group) → said_for s (g ++ h) ≡ said_for s g ++ said_for (state_after s g) h
unfolding said_for
said-append s g h = ap output (replies-append s g h) ∙ output-append (replies_from s g) (replies_from (state_after s g) h)

pub said_one : (s : State) (i : Group) → said_for s (i ∷ []) ≡ text_of (reply_to s (held_at s i))
unfolding said_for
said_one s i = append-nil (text_of (reply_to s (held_at s i)))

pub said_none : (s : State) → said_for s [] ≡ []
unfolding said_for
said_none s = refl

pub length-replies : (s : State) (g : List Group) → length (replies_from s g) ≡ length g
length-replies s [] = refl
length-replies s (i ∷ g) = ap suc (length-replies (state_then s (held_at s i)) g)

-- whether none of the replies is a refusal, by parts
pub done-append : (s : State) (g h : List Group)
    → list_all is_done (replies_from s (g ++ h)) ≡ (list_all is_done (replies_from s g) && list_all is_done (replies_from (state_after s g) h))
done-append s g h = ap (list_all is_done) (replies-append s g h) ∙ list_all-append is_done (replies_from s g) (replies_from (state_after s g) h)

pub either_way : {A E : Type 0} (r : Result A E) (P : A → Type 0) (Q X : Type 0) → IfOk r P → OnErr r Q → ((x : A) → P x → X) → (Q → X) → X
either_way (Ok x) P Q X p q f g = f x p
either_way (Err e) P Q X p q f g = g q

pub if_err_const : {A E : Type 0} (r : Result A E) (Q : E → Type 0) (P : Type 0) → P → IfErr r (λ e. Q e → P)
if_err_const (Ok x) Q P p = tt
if_err_const (Err e) Q P p = λ q. p

pub if_err_both : {A E : Type 0} (r : Result A E) (P Q : E → Type 0) → IfErr r P → IfErr r Q → IfErr r (λ e. P e × Q e)
if_err_both (Ok x) P Q p q = tt
if_err_both (Err e) P Q p q = (p, q)

pub if_ok_both : {A E : Type 0} (r : Result A E) (P Q : A → Type 0) → IfOk r P → IfOk r Q → IfOk r (λ x. P x × Q x)
if_ok_both (Ok x) P Q p q = (p, q)
if_ok_both (Err e) P Q p q = tt

-- what is said of each state that something stands for, at one of them
module _ {S : Type 0} (At : S → Type 0) (s : S) (at : At s) where
  pub ok_at : {A E : Type 0} (r : Result A E) (P : A → S → Type 0) → IfOk r (λ x. (t : S) → At t → P x t) → IfOk r (λ x. P x s)
  ok_at (Ok x) P all = all s at
  ok_at (Err e) P all = tt

  pub err_at : {A E : Type 0} (r : Result A E) (Q : S → Type 0) → OnErr r ((t : S) → At t → Q t) → OnErr r (Q s)
  err_at (Ok x) Q all = tt
  err_at (Err e) Q all = all s at

-- ---- the replies by the definition of a run

pub run_replies : (s : State) (g : List Group) → replies_of (run_in s g) ≡ replies_from s g
unfolding reply_to state_then
run_replies s [] = refl
run_replies s (i ∷ g) = ap (λ (l : List Reply). reply_to s (held_at s i) ∷ l) (run_replies (state_then s (held_at s i)) g)

pub run_output : (s : State) (g : List Group) → output (replies_of (run_in s g)) ≡ said_for s g
unfolding said_for
run_output s g = ap output (run_replies s g)

-- ---- groups of lines that hold the same items

pub replies_same : (s : State) (n : ℕ) (g h : List Group) → IsReadAt n s.last → Same n g h → replies_from s g ≡ replies_from s h
replies_same s n g h at same =
    sym (run_replies s g) ∙ ap (λ (r : Run). replies_of r) (run_same s.quota s.last s.work n g h at same) ∙ run_replies s h

pub said_same : (s : State) (n : ℕ) (g h : List Group) → IsReadAt n s.last → Same n g h → said_for s g ≡ said_for s h
unfolding said_for
said_same s n g h at same = ap output (replies_same s n g h at same)

-- no item changes the level, and none brings a format that there is not
read_next : (n : ℕ) (s : State) (i : Item) → IsReadAt n s.last → IsReadAt n (state_then s i).last
unfolding state_then
read_next n s i at = read_then n s (form s.last.format i) at

pub read_after : (s : State) (n : ℕ) (g : List Group) → IsReadAt n s.last → IsReadAt n (state_after s g).last
read_after s n [] at = at
read_after s n (i ∷ g) at = read_after (state_then s (held_at s i)) n g (read_next n s (held_at s i) at)
