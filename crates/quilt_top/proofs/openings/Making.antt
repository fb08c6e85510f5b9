-- What a stop leaves of a file that is being made, and what is put.
use Rattle.std.proofs.Common.{◌≡◌, ◌≢◌, inl, inr, ◌+◌, ◌-◌, ◌*◌, ℕ, true, List, [], ◌∷◌, ◌++◌, length, get_or, take, drop, replicate, Option}
use Rattle.std.proofs.Common.{Some, None, Result, Ok, Err, OnErr, refl, sym, ◌∙◌, ap, subst, arith, append-nil, take-append-drop}
use Rattle.std.specs.Option.{IfSome}
use Rattle.std.specs.List.{list_all}
use Rattle.std.proofs.lemmas.Bool.{cases_lt, and_parts}
use Rattle.std.proofs.lemmas.List.{take_at, take-append-le, get_or-replicate, length-replicate}
use Rattle.std.proofs.lemmas.List.Folds.{list_all-append}
use Rattle.std.proofs.Math.Seq.{take-append-add}
use Rattle.quilt_world.specs.Disk.{Pages, Log, CanLeave}
use Rattle.quilt_world.specs.PageBytes.{last_bytes, fixed_bytes}
use Rattle.quilt_world.specs.Stops.{fixed}
use Rattle.quilt_world.specs.Tale.{Tale, IsConsistent, Goes, put_bytes, taken_bytes, Begins}
use Rattle.quilt_world.specs.Doors.{MakesAt}
use Rattle.quilt_world.specs.Home.{IsMapFile}
use Rattle.quilt_world.specs.declared.event.Event.TheVariants.{Took, Put, Wrote, Tore, Synced}
use Rattle.quilt_world.specs.declared.disk.Door.{Door}
use Rattle.quilt_world.specs.declared.disk.Door.TheVariants as doors
use Rattle.quilt_world.proofs.PageLaws.{seen_left}
use Rattle.quilt_edition.specs.Stands.{Stands}
use Rattle.quilt_edition.specs.Creating.{IsBlank, IsNoneOrEmpty, Creates, IsCreated}
use Rattle.quilt_top.specs.declared.run.End.{End}
use Rattle.quilt_top.specs.declared.run.End.TheVariants as ends
use Rattle.quilt_top.specs.Saying.{Says, SaysPrefix}
use Rattle.quilt_world.specs.Added.{AddsOnly, is_of_text, is_of_pages}
use Rattle.quilt_world.proofs.TextLaws.{text_leaves}
use Rattle.quilt_top.specs.Words.{New}
use Rattle.quilt_top.specs.Headline.{IsOneOf, IsStop, fresh, new_line, MakesFile, FindsFile, KeepsPromises, WhereTold}
use Rattle.quilt_top.proofs.logs.Events.{put_bytes-append, taken_bytes-append, nothing_taken}

-- ---- events of one sort

pages_put_nothing : (log : Log) → list_all is_of_pages log ≡ true → put_bytes log ≡ []
pages_put_nothing [] only = refl
pages_put_nothing (Took bytes ∷ log) only = absurd (cc)
pages_put_nothing (Put bytes ∷ log) only = absurd (cc)
pages_put_nothing (Wrote page bytes ∷ log) only = pages_put_nothing log only
pages_put_nothing (Tore page ∷ log) only = pages_put_nothing log only
pages_put_nothing (Synced ∷ log) only = pages_put_nothing log only

pages_take_nothing : (log : Log) → list_all is_of_pages log ≡ true → taken_bytes log ≡ []
pages_take_nothing [] only = refl
pages_take_nothing (Took bytes ∷ log) only = absurd (cc)
pages_take_nothing (Put bytes ∷ log) only = absurd (cc)
pages_take_nothing (Wrote page bytes ∷ log) only = pages_take_nothing log only
pages_take_nothing (Tore page ∷ log) only = pages_take_nothing log only
pages_take_nothing (Synced ∷ log) only = pages_take_nothing log only

nil_front : (a b : List ℕ) → a ++ b ≡ [] → a ≡ []
nil_front [] b is = refl
nil_front (x ∷ a) b is = absurd (let e : ◌≡◌ {A = List ℕ} (x ∷ (a ++ b)) [] = is in cc)

-- ---- the new file

unwritten : (start : Pages) (i : ℕ) → fixed_bytes start [] i ≡ Some (get_or start i [])
unfolding fixed_bytes last_bytes
unwritten start i = refl

pub made_blank : (path : List ℕ) (pages : ℕ) (door : Door) (t u : Tale) → door ≡ doors.Made → MakesAt path pages door t u → IsBlank u
made_blank path pages door t u is makes =
    let zeros : List ℕ = replicate 4096 0 in
    let start : u.start ≡ replicate pages zeros = makes.zero is in
    let first : (i : ℕ) → fixed u i ≡ Some (get_or u.start i []) = λ i. ap (λ l. fixed_bytes u.start l i) makes.fresh.log ∙ unwritten u.start i in
    record {
      each = λ i within. first i ∙ ap (λ (p : Pages). Some (get_or p i [])) start
          ∙ ap Some (get_or-replicate pages i zeros [] (omega (arith, ap length start, length-replicate {A = List ℕ} pages zeros)));
    }

-- ---- so far

-- these bytes are put, nothing is taken, and a stop leaves nothing or the empty edition, and that edition once a byte is put
pub record IsMaking (level : ℕ) (said : List ℕ) (t v : Tale) : Type 0 where
  pub input : v.input ≡ t.input
  pub taken : taken_bytes v.log ≡ []
  pub put : put_bytes v.log ≡ said
  pub crash : (so_far : Log) (image : Pages) → IsStop v so_far image → IsNoneOrEmpty level image × (put_bytes so_far ≢ [] → Stands image (fresh level))

-- with the file's first tale
pub record HasMade (pages level : ℕ) (t v : Tale) : Type 0 where
  pub making : IsMaking level [] t v
  pub size : length v.start ≡ 3 + 2 * pages

pub created_making : (path : List ℕ) (pages level : ℕ) (door : Door) (t u v : Tale) → door ≡ doors.Made → MakesAt path (3 + 2 * pages) door t u
    → Creates level u v → HasMade pages level t v
created_making path pages level door t u v is makes creates =
    let log : v.log ≡ creates.added.events = creates.added.log ∙ ap (λ (l : Log). l ++ creates.added.events) makes.fresh.log in
    let unput : put_bytes v.log ≡ [] = ap put_bytes log ∙ pages_put_nothing creates.added.events creates.added.only in
    record {
      making = record {
        input = creates.since.input ∙ makes.fresh.input;
        taken = ap taken_bytes log ∙ pages_take_nothing creates.added.events creates.added.only;
        put = unput;
        crash = λ so_far image stop.
            let n = length so_far in
            let front : take n v.log ≡ so_far = ap (take n) stop.front.1 ∙ take_at so_far stop.front.0 n refl in
            let left : CanLeave u.start (take n v.log) image =
            subst (λ l. CanLeave u.start l image) (sym front) (subst (λ s. CanLeave s so_far image) creates.since.file.start stop.left) in
            let none : put_bytes so_far ≡ [] =
            nil_front (put_bytes so_far) (put_bytes stop.front.0) (sym (put_bytes-append so_far stop.front.0) ∙ ap put_bytes (sym stop.front.1) ∙ unput) in
            (creates.since.each n (omega (arith, ap length makes.fresh.log)) image left, λ some. absurd (some none));
      };
      size = ap length (creates.since.file.start ∙ makes.zero is) ∙ length-replicate {A = List ℕ} (3 + 2 * pages) _;
    }

-- puts behind a file that is there
said_making : (level : ℕ) (said : List ℕ) (t v w : Tale) → IsMaking level [] t v → IsCreated level v → Says said v w
    → AddsOnly is_of_text v w → IsMaking level said t w
said_making level said t v w making created says only = record {
  input = says.input ∙ making.input;
  taken = ap taken_bytes says.log ∙ taken_bytes-append v.log says.events ∙ ap (λ (l : List ℕ). l ++ taken_bytes says.events) making.taken
      ∙ nothing_taken says.events says.untaken;
  put = ap put_bytes says.log ∙ put_bytes-append v.log says.events ∙ ap (λ (l : List ℕ). l ++ put_bytes says.events) making.put ∙ says.put;
  crash = λ so_far image stop.
      let n = length so_far in
      let m = length v.log in
      let front : so_far ≡ take n (v.log ++ only.events) =
      sym (take_at so_far stop.front.0 n refl) ∙ ap (take n) (sym stop.front.1 ∙ only.log) in
      let left : CanLeave v.start so_far image = subst (λ s. CanLeave s so_far image) only.file.start stop.left in
      elim (cases_lt m n) [
        | inl past ↦
            let k = n - m in
            let events = take k only.events in
            let longer : so_far ≡ v.log ++ events =
            front ∙ ap (λ j. take j (v.log ++ only.events)) (let e : n ≡ m + k = omega arith in e) ∙ take-append-add v.log only.events k in
            let of_text : list_all is_of_text events ≡ true =
            (and_parts _ _ (sym (list_all-append is_of_text events (drop k only.events)) ∙ ap (list_all is_of_text) (take-append-drop k only.events)
            ∙ only.only)).0 in
            let there : CanLeave v.start v.log image = text_leaves v.start v.log events image of_text (subst (λ l. CanLeave v.start l image) longer left) in
            ((making.crash v.log image (record { front = ([], sym (append-nil v.log)); left = there })).0, λ some. created.left image there)
        | inr within ↦
            let shorter : so_far ≡ take n v.log = front ∙ take-append-le n v.log only.events within in
            making.crash so_far image (record {
              front = (drop n v.log, sym (take-append-drop n v.log) ∙ ap (λ (l : Log). l ++ drop n v.log) (sym shorter));
              left = left;
            })
      ];
}

-- ---- what is promised

file_stopped : (pages level : ℕ) (said : List ℕ) (rose : Type 0) (t v : Tale) → Begins (new_line pages level) said → IsMaking level said t v → rose
    → MakesFile pages level rose ends.Device t v
file_stopped pages level said rose t v begins making risen = record {
  front = (begins.0, begins.1 ∙ ap (λ (l : List ℕ). l ++ begins.0) (sym making.put));
  done = λ is. absurd (let e : ◌≡◌ {A = End} ends.Device ends.Done = is in cc);
  crash = making.crash;
  untouched = (making.input, making.taken);
  complete = λ not. absurd (not risen);
}

same_pages : (image : Pages) (pages : ℕ) (E : _) → length image ≡ 3 + 2 * pages → Stands image E → IsMapFile image pages
same_pages image pages E size stands =
    subst (IsMapFile image) (let e : stands.pages ≡ pages = omega (arith, size, stands.file.size) in e) stands.file

file_done : (pages level : ℕ) (rose : Type 0) (t v w : Tale) → HasMade pages level t v → IsCreated level v → Says (new_line pages level) v w
    → AddsOnly is_of_text v w → IsConsistent w → MakesFile pages level rose ends.Done t w
file_done pages level rose t v w has created says only consistent =
    let making = said_making level (new_line pages level) t v w has.making created says only in
    let left : CanLeave w.start w.log w.seen = seen_left w.start w.log w.seen consistent.size consistent.last in
    let there : CanLeave v.start v.log w.seen =
    text_leaves v.start v.log only.events w.seen only.only
    (subst (λ l. CanLeave v.start l w.seen) only.log (subst (λ s. CanLeave s w.log w.seen) only.file.start left)) in
    let stands : Stands w.seen (fresh level) = created.left w.seen there in
    record {
      front = ([], sym (append-nil _ ∙ making.put));
      done = λ is. (making.put, same_pages w.seen pages _ (consistent.size ∙ ap length only.file.start ∙ has.size) stands, stands);
      crash = making.crash;
      untouched = (making.input, making.taken);
      complete = λ not. inl refl;
    }

finds_made : (path : List ℕ) (pages : ℕ) (door : Door) (end : End) (t u v : Tale) → door ≡ doors.Made → MakesAt path pages door t u
    → (IsOneOf end (ends.Missing ∷ ends.Taken ∷ ends.NotMap ∷ []) → ⊥) → FindsFile path door end t v
finds_made path pages door end t u v is makes other = record {
  ready = λ e. absurd (let f : ◌≡◌ {A = Door} doors.Made doors.Ready = sym is ∙ e in cc);
  missing = λ e. absurd (let f : ◌≡◌ {A = Door} doors.Made doors.Missing = sym is ∙ e in cc);
  made = λ e. makes.ready is;
  taken = λ e. absurd (let f : ◌≡◌ {A = Door} doors.Made doors.Taken = sym is ∙ e in cc);
  nothing_done = λ one. absurd (other one);
}

not_device : IsOneOf ends.Device (ends.Missing ∷ ends.Taken ∷ ends.NotMap ∷ []) → ⊥
not_device (inl e) = cc
not_device (inr (inl e)) = cc
not_device (inr (inr (inl e))) = cc
not_device (inr (inr (inr e))) = e

not_done : IsOneOf ends.Done (ends.Missing ∷ ends.Taken ∷ ends.NotMap ∷ []) → ⊥
not_done (inl e) = cc
not_done (inr (inl e)) = cc
not_done (inr (inr (inl e))) = cc
not_done (inr (inr (inr e))) = e

-- ---- told or not

pub where_not_ok : {A E : Type 0} (r : Result A E) (P : Type 0) → OnErr r P → ((x : A) → r ≡ Ok x → ⊥) → P
where_not_ok (Ok x) P p not = absurd (not x refl)
where_not_ok (Err e) P p not = p

module _ (path : List ℕ) (pages level : ℕ) (door : Door) (is : door ≡ doors.Made) (rose : Type 0) where
  abbrev Promise : Door → End → Tale → Tale → Type 0
  Promise now end = KeepsPromises (Some (New path pages level)) rose now end

  pub create_stopped : (now : Door) → now ≡ door → rose → (o m n : Option Tale) → Goes (MakesAt path (3 + 2 * pages) door) o m
      → Goes (Creates level) m n → WhereTold (Promise now ends.Device) o n
  create_stopped now same risen None None None makes creates = tt
  create_stopped now same risen None None (Some v) makes creates = absurd creates
  create_stopped now same risen None (Some u) n makes creates = absurd makes
  create_stopped now same risen (Some t) None n makes creates = absurd makes
  create_stopped now same risen (Some t) (Some u) None makes creates = absurd creates
  create_stopped now same risen (Some t) (Some u) (Some v) makes creates =
      let has = created_making path pages level door t u v is makes creates in (
        subst (λ d. FindsFile path d ends.Device t v) (sym same) (finds_made path _ door ends.Device t u v is makes not_device),
        λ e. file_stopped pages level [] rose t v (new_line pages level, refl) has.making risen,
      )

  pub put_stopped : (now : Door) → now ≡ door → rose → (o m n p : Option Tale) → Goes (MakesAt path (3 + 2 * pages) door) o m
      → Goes (Creates level) m n → IfSome n (IsCreated level) → Goes (λ v w. SaysPrefix (new_line pages level) v w × AddsOnly is_of_text v w) n p
      → WhereTold (Promise now ends.Device) o p
  put_stopped now same risen None None None None makes creates created says = tt
  put_stopped now same risen None None None (Some w) makes creates created says = absurd says
  put_stopped now same risen None None (Some v) p makes creates created says = absurd creates
  put_stopped now same risen None (Some u) n p makes creates created says = absurd makes
  put_stopped now same risen (Some t) None n p makes creates created says = absurd makes
  put_stopped now same risen (Some t) (Some u) None p makes creates created says = absurd creates
  put_stopped now same risen (Some t) (Some u) (Some v) None makes creates created says = absurd says
  put_stopped now same risen (Some t) (Some u) (Some v) (Some w) makes creates created says =
      let has = created_making path pages level door t u v is makes creates in (
        subst (λ d. FindsFile path d ends.Device t w) (sym same) (finds_made path _ door ends.Device t u w is makes not_device),
        λ e. file_stopped pages level says.0.said rose t w says.0.front (said_making level says.0.said t v w has.making created says.0.says says.1) risen,
      )

  pub all_done : (size : ℕ) (now : Door) → now ≡ door → (o m n p : Option Tale) → Goes (MakesAt path (3 + 2 * pages) door) o m
      → Goes (Creates level) m n → IfSome n (IsCreated level) → Goes (λ v w. Says (new_line pages level) v w × AddsOnly is_of_text v w) n p
      → IfSome p (λ t. IsConsistent t × (length t.start ≡ size)) → WhereTold (Promise now ends.Done) o p
  all_done size now same None None None None makes creates created says law = tt
  all_done size now same None None None (Some w) makes creates created says law = absurd says
  all_done size now same None None (Some v) p makes creates created says law = absurd creates
  all_done size now same None (Some u) n p makes creates created says law = absurd makes
  all_done size now same (Some t) None n p makes creates created says law = absurd makes
  all_done size now same (Some t) (Some u) None p makes creates created says law = absurd creates
  all_done size now same (Some t) (Some u) (Some v) None makes creates created says law = absurd says
  all_done size now same (Some t) (Some u) (Some v) (Some w) makes creates created says law =
      let has = created_making path pages level door t u v is makes creates in (
        subst (λ d. FindsFile path d ends.Done t w) (sym same) (finds_made path _ door ends.Done t u w is makes not_done),
        λ e. file_done pages level rose t v w has created says.0 says.1 law.0,
      )
