-- The two writes of a file of the empty edition, each with its sync.
use Rattle.std.proofs.Common.{◌≡◌, ◌⊎◌, inl, inr, ◌≤◌, ◌<◌, ℕ, List, [], ◌∷◌, ◌++◌, length, Bool, true, false, ◌&&◌, Some, None, Option, Result, Ok, Err, OnOk}
use Rattle.std.proofs.Common.{OnErr, refl, sym, ◌∙◌, ap, subst, arith, append_assoc, append-nil}
use Rattle.std.specs.Option.{IfSome}
use Rattle.std.specs.List.{list_all}
use Rattle.std.proofs.lemmas.List.Folds.{list_all-append}
use Rattle.std.proofs.lemmas.Bool.{and_from}
use Rattle.quilt_world.specs.Disk.{Pages, Log, CanLeave}
use Rattle.quilt_world.specs.Home.{file_label, IsMapFile}
use Rattle.quilt_world.specs.Stops.{fixed, LeavesNow}
use Rattle.quilt_world.specs.Tale.{Tale, IsConsistent, Adds, Goes}
use Rattle.quilt_world.specs.declared.event.Event.TheVariants.{Wrote, Tore, Synced}
use Rattle.quilt_world.proofs.PageLaws.{seen_left}
use Rattle.quilt_world.proofs.StopLaws.{Touches, nothing_touches, tore_touches, wrote_touches, synced_touches, fixed_spared, fixed_synced, last_wrote}
use Rattle.quilt_world.proofs.StopLaws.{image_page, since_here, since_call}
use Rattle.quilt_world.proofs.Told.{goes_then, goes_weaker}
use Rattle.quilt_node.specs.Pages.{header_bytes}
use Rattle.quilt_edition.specs.Stands.{Stands}
use Rattle.quilt_world.specs.Added.{is_of_pages}
use Rattle.quilt_edition.specs.Creating.{HasMapSize, IsBlank, empty_head, empty_edition, AddsPageEvents, IsNoneOrEmpty, Creates, IsCreated}
use Rattle.quilt_edition.proofs.Unlabelled.{zeros, unlabelled, IsHeaded, headed_only, headed_stands}

-- ---- one call more

pages_then : (events : Log) (o m n : Tale) → AddsPageEvents o m → Adds events m n → list_all is_of_pages events ≡ true → AddsPageEvents o n
pages_then events o m n added adds only = record {
  events = added.events ++ events;
  log = adds.log ∙ ap (λ (l : Log). l ++ events) added.log ∙ append_assoc o.log added.events events;
  only = list_all-append is_of_pages added.events events ∙ and_from _ _ added.only only;
}

creates_here : (k : ℕ) (o : Tale) → LeavesNow o (IsNoneOrEmpty k) → Creates k o o
creates_here k o here = record {
  since = since_here o (IsNoneOrEmpty k) here;
  added = record { events = []; log = sym (append-nil o.log); only = refl };
}

creates_call : (k : ℕ) (events : Log) (o m n : Tale) → Creates k o m → Adds events m n → length events ≤ 1 → list_all is_of_pages events ≡ true
    → LeavesNow n (IsNoneOrEmpty k) → Creates k o n
creates_call k events o m n creates adds one only here = record {
  since = since_call events o m n (IsNoneOrEmpty k) creates.since adds one here;
  added = pages_then events o m n creates.added adds only;
}

-- the tale between two events
abbrev between : Log → Tale → Tale
between events o = record o { log = o.log ++ events }

adds_first : (events : Log) (o : Tale) → Adds events o (between events o)
adds_first events o = record { file = record { start = refl; path = refl; was_there = refl }; log = refl; input = refl }

adds_second : (first rest : Log) (o n : Tale) → Adds (first ++ rest) o n → Adds rest (between first o) n
adds_second first rest o n adds = record {
  file = record { start = adds.file.start; path = adds.file.path; was_there = adds.file.was_there };
  log = adds.log ∙ sym (append_assoc o.log first rest);
  input = adds.input;
}

-- a write of a page that failed, before or in its sync
abbrev pub Stopped : ℕ → List ℕ → Tale → Tale → Type 0
Stopped i bytes o n = Adds [] o n ⊎ Adds (Tore i ∷ []) o n ⊎ Adds (Wrote i bytes ∷ []) o n

-- ---- before the header is there

pub record IsBare (t : Tale) : Type 0 where
  pub size : 3 < length t.start
  pub label : fixed t 0 ≡ Some zeros
  pub gate : fixed t 1 ≡ Some zeros

pub blank_bare : (size : ℕ) (t : Tale) → HasMapSize size → length t.start ≡ size → IsBlank t → IsBare t
blank_bare size t has is blank =
    let many : 3 < length t.start = omega (arith, has.is, has.least) in
    record { size = many; label = blank.each 0 (omega arith); gate = blank.each 1 (omega arith) }

bare_leaves : (k : ℕ) (t : Tale) → IsBare t → LeavesNow t (IsNoneOrEmpty k)
bare_leaves k t bare image left E stands =
    absurd (unlabelled image E (image_page t image 0 zeros left (omega (arith, bare.size)) bare.label) stands)

bare_kept : (m n : Tale) → Touches 3 m n → IsBare m → IsBare n
bare_kept m n touches bare = record {
  size = omega (arith, bare.size, ap length touches.adds.file.start);
  label = fixed_spared 3 0 zeros m n touches (λ e. omega arith) bare.label;
  gate = fixed_spared 3 1 zeros m n touches (λ e. omega arith) bare.gate;
}

bare_touched : (k : ℕ) (events : Log) (o n : Tale) → IsBare o → (touches : Touches 3 o n) → Adds events o n → length events ≤ 1
    → list_all is_of_pages events ≡ true → Creates k o n
bare_touched k events o n bare touches adds one only =
    creates_call k events o o n (creates_here k o (bare_leaves k o bare)) adds one only (bare_leaves k n (bare_kept o n touches bare))

-- ---- the header is there

pub record HasHeader (k : ℕ) (t : Tale) : Type 0 where
  pub size : 3 < length t.start
  pub gate : fixed t 1 ≡ Some zeros
  pub header : fixed t 3 ≡ Some (header_bytes (empty_head k))

headed_image : (k : ℕ) (t : Tale) → HasHeader k t → (image : Pages) → CanLeave t.start t.log image → IsHeaded k image
headed_image k t has image left = record {
  gate = image_page t image 1 zeros left (omega (arith, has.size)) has.gate;
  header = image_page t image 3 _ left (omega (arith, has.size)) has.header;
}

headed_leaves : (k : ℕ) (t : Tale) → k ≤ 12 → HasHeader k t → LeavesNow t (IsNoneOrEmpty k)
headed_leaves k t low has image left = headed_only k image low (headed_image k t has image left)

headed_kept : (k : ℕ) (m n : Tale) → Touches 0 m n → HasHeader k m → HasHeader k n
headed_kept k m n touches has = record {
  size = omega (arith, has.size, ap length touches.adds.file.start);
  gate = fixed_spared 0 1 zeros m n touches (λ e. omega arith) has.gate;
  header = fixed_spared 0 3 _ m n touches (λ e. omega arith) has.header;
}

-- ---- the first write

header_stopped : (k : ℕ) (bytes : List ℕ) (o n : Tale) → IsBare o → Stopped 3 bytes o n → Creates k o n
header_stopped k bytes o n bare (inl none) = bare_touched k [] o n bare (nothing_touches 3 o n none) none (omega arith) refl
header_stopped k bytes o n bare (inr (inl tore)) = bare_touched k (Tore 3 ∷ []) o n bare (tore_touches 3 o n (inl tore)) tore (omega arith) refl
header_stopped k bytes o n bare (inr (inr wrote)) = bare_touched k (Wrote 3 bytes ∷ []) o n bare (wrote_touches 3 bytes o n wrote) wrote (omega arith) refl

-- so far nothing or the empty edition, and the header is there
pub record IsReady (k : ℕ) (o n : Tale) : Type 0 where
  pub creates : Creates k o n
  pub has : HasHeader k n

header_written : (k : ℕ) (o n : Tale) → IsBare o → Adds (Wrote 3 (header_bytes (empty_head k)) ∷ Synced ∷ []) o n → IsReady k o n
header_written k o n bare adds =
    let header = header_bytes (empty_head k) in
    let m = between (Wrote 3 header ∷ []) o in
    let wrote : Adds (Wrote 3 header ∷ []) o m = adds_first (Wrote 3 header ∷ []) o in
    let synced : Adds (Synced ∷ []) m n = adds_second (Wrote 3 header ∷ []) (Synced ∷ []) o n adds in
    let bare_m : IsBare m = bare_kept o m (wrote_touches 3 header o m wrote) bare in
    let bare_n : IsBare n = bare_kept m n (synced_touches 3 m n synced) bare_m in
    record {
      creates = creates_call k (Synced ∷ []) o m n
          (bare_touched k (Wrote 3 header ∷ []) o m bare (wrote_touches 3 header o m wrote) wrote (omega arith) refl)
          synced (omega arith) refl (bare_leaves k n bare_n);
      has = record { size = bare_n.size; gate = bare_n.gate; header = fixed_synced m n 3 header synced (last_wrote o m 3 header wrote) };
    }

-- ---- the second write

label_touched : (k : ℕ) (events : Log) (o m n : Tale) → k ≤ 12 → IsReady k o m → Touches 0 m n → Adds events m n → length events ≤ 1
    → list_all is_of_pages events ≡ true → IsReady k o n
label_touched k events o m n low ready touches adds one only =
    let has = headed_kept k m n touches ready.has in
    record { creates = creates_call k events o m n ready.creates adds one only (headed_leaves k n low has); has = has }

label_stopped : (k : ℕ) (bytes : List ℕ) (o m n : Tale) → k ≤ 12 → IsReady k o m → Stopped 0 bytes m n → Creates k o n
label_stopped k bytes o m n low ready (inl none) =
    (label_touched k [] o m n low ready (nothing_touches 0 m n none) none (omega arith) refl).creates
label_stopped k bytes o m n low ready (inr (inl tore)) =
    (label_touched k (Tore 0 ∷ []) o m n low ready (tore_touches 0 m n (inl tore)) tore (omega arith) refl).creates
label_stopped k bytes o m n low ready (inr (inr wrote)) =
    (label_touched k (Wrote 0 bytes ∷ []) o m n low ready (wrote_touches 0 bytes m n wrote) wrote (omega arith) refl).creates

-- the label is there too
pub record IsLabelled (k : ℕ) (o n : Tale) : Type 0 where
  pub ready : IsReady k o n
  pub label : fixed n 0 ≡ Some file_label

label_written : (k : ℕ) (o m n : Tale) → k ≤ 12 → IsReady k o m → Adds (Wrote 0 file_label ∷ Synced ∷ []) m n → IsLabelled k o n
label_written k o m n low ready adds =
    let l = between (Wrote 0 file_label ∷ []) m in
    let wrote : Adds (Wrote 0 file_label ∷ []) m l = adds_first (Wrote 0 file_label ∷ []) m in
    let synced : Adds (Synced ∷ []) l n = adds_second (Wrote 0 file_label ∷ []) (Synced ∷ []) m n adds in
    record {
      ready = label_touched k (Synced ∷ []) o l n low
          (label_touched k (Wrote 0 file_label ∷ []) o m l low ready (wrote_touches 0 file_label m l wrote) wrote (omega arith) refl)
          (synced_touches 0 l n synced) synced (omega arith) refl;
      label = fixed_synced l n 0 file_label synced (last_wrote m l 0 file_label wrote);
    }

created : (k size : ℕ) (o n : Tale) → HasMapSize size → (1 ≤ k) × (k ≤ 12) → IsConsistent n → length n.start ≡ size → IsLabelled k o n → IsCreated k n
created k size o n has level consistent is labelled =
    let file : (image : Pages) → CanLeave n.start n.log image → IsMapFile image has.pages = λ image left. record {
      size = left.size ∙ is ∙ has.is;
      least = has.least;
      most = has.most;
      labelled = image_page n image 0 file_label left (omega (arith, labelled.ready.has.size)) labelled.label;
    } in
    let left : LeavesNow n (λ image. Stands image (empty_edition k)) = λ image left.
    headed_stands k has.pages image level.0 level.1 (file image left) (headed_image k n labelled.ready.has image left) in
    record { left = left; read = left n.seen (seen_left n.start n.log n.seen consistent.size consistent.last) }

-- ---- told or not

pub either_way : {A E : Type 0} (r : Result A E) (P Q X : Type 0) → OnOk r P → OnErr r Q → (P → X) → (Q → X) → X
either_way (Ok x) P Q X p q f g = f p
either_way (Err e) P Q X p q f g = g q

pub on_ok : {A E : Type 0} (r : Result A E) (P Q : Type 0) → OnOk r P → (P → Q) → OnOk r Q
on_ok (Ok x) P Q p f = f p
on_ok (Err e) P Q p f = tt

module _ (k size : ℕ) (has : HasMapSize size) where
  abbrev Law : Tale → Type 0
  Law t = IsConsistent t × (length t.start ≡ size)

  pub told_header_stopped : (bytes : List ℕ) (o n : Option Tale) → IfSome o Law → IfSome o IsBlank → Goes (Stopped 3 bytes) o n → Goes (Creates k) o n
  told_header_stopped bytes None None law blank goes = tt
  told_header_stopped bytes None (Some u) law blank goes = goes
  told_header_stopped bytes (Some t) None law blank goes = goes
  told_header_stopped bytes (Some t) (Some u) law blank goes = header_stopped k bytes t u (blank_bare size t has law.1 blank) goes

  pub told_header : (o n : Option Tale) → IfSome o Law → IfSome o IsBlank
      → Goes (Adds (Wrote 3 (header_bytes (empty_head k)) ∷ Synced ∷ [])) o n → Goes (IsReady k) o n
  told_header None None law blank goes = tt
  told_header None (Some u) law blank goes = goes
  told_header (Some t) None law blank goes = goes
  told_header (Some t) (Some u) law blank goes = header_written k t u (blank_bare size t has law.1 blank) goes

  pub told_created : (o n : Option Tale) → (1 ≤ k) × (k ≤ 12) → IfSome n Law → Goes (IsLabelled k) o n → IfSome n (IsCreated k)
  told_created None None level law goes = tt
  told_created None (Some u) level law goes = absurd goes
  told_created (Some t) None level law goes = tt
  told_created (Some t) (Some u) level law goes = created k size t u has level law.0 law.1 goes

module _ (k : ℕ) (low : k ≤ 12) where
  pub told_label : (bytes : List ℕ) (o m n : Option Tale) → bytes ≡ file_label → Goes (IsReady k) o m → Goes (Adds (Wrote 0 bytes ∷ Synced ∷ [])) m n
      → Goes (IsLabelled k) o n
  told_label bytes o m n is ready goes =
      goes_then _ _ _ o m n ready goes (λ t u v ready wrote. label_written k t u v low ready (subst (λ b. Adds (Wrote 0 b ∷ Synced ∷ []) u v) is wrote))

  pub told_label_stopped : (bytes : List ℕ) (o m n : Option Tale) → Goes (IsReady k) o m → Goes (Stopped 0 bytes) m n → Goes (Creates k) o n
  told_label_stopped bytes o m n ready goes = goes_then _ _ _ o m n ready goes (λ t u v. label_stopped k bytes t u v low)

pub told_creates : (k : ℕ) (o n : Option Tale) → Goes (IsLabelled k) o n → Goes (Creates k) o n
told_creates k o n goes = goes_weaker _ _ o n goes (λ t u labelled. labelled.ready.creates)
