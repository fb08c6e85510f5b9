-- What one more call does to the pages and to the images since.
use Rattle.std.proofs.Common.{◌≡◌, ◌≢◌, ◌⊎◌, inl, inr, ℕ, ◌<◌, ◌≤◌, get_or, List, [], ◌∷◌, ◌++◌, Some, length, take, refl, sym, ◌∙◌, ap, subst, arith}
use Rattle.std.proofs.Common.{append_assoc, length-append}
use Rattle.std.proofs.lemmas.List.{take-append-le, take_all, append-nil}
use Rattle.std.proofs.lemmas.Bool.{cases_lt}
use Rattle.quilt_world.specs.Disk.{Pages, Log, CanLeave}
use Rattle.quilt_world.specs.PageBytes.{last_bytes, fixed_bytes, SparesAll}
use Rattle.quilt_world.specs.Stops.{latest, fixed, Leaves, LeavesNow, Since}
use Rattle.quilt_world.specs.Tale.{Tale, IsConsistent, IsSameFile, Adds}
use Rattle.quilt_world.specs.declared.event.Event.TheVariants.{Wrote, Tore, Synced}
use Rattle.quilt_world.proofs.PageLaws.{last-spared, last-Wrote, fixed-spared, fixed-Synced, left_page, last_from_fixed}

log_fixed : (start : Pages) (log events : Log) (i : ℕ) (b : List ℕ) → SparesAll i events → fixed_bytes start log i ≡ Some b
    → fixed_bytes start (log ++ events) i ≡ Some b
log_fixed start log [] i b spares is = ap (λ (l : Log). fixed_bytes start l i) (append-nil log) ∙ is
log_fixed start log (e ∷ events) i b spares is =
    ap (λ (l : Log). fixed_bytes start l i) (sym (append_assoc log (e ∷ []) events))
    ∙ log_fixed start (log ++ e ∷ []) events i b spares.1 (fixed-spared start log e i b spares.0 is)

log_last : (start : Pages) (log events : Log) (i : ℕ) → SparesAll i events → last_bytes start (log ++ events) i ≡ last_bytes start log i
log_last start log [] i spares = ap (λ (l : Log). last_bytes start l i) (append-nil log)
log_last start log (e ∷ events) i spares =
    ap (λ (l : Log). last_bytes start l i) (sym (append_assoc log (e ∷ []) events))
    ∙ log_last start (log ++ e ∷ []) events i spares.1
    ∙ last-spared start log e i spares.0

at_new : (P : Pages → Log → Type 0) (events : Log) (m n : Tale) → Adds events m n → P m.start (m.log ++ events) → P n.start n.log
at_new P events m n adds at = subst (λ s. P s n.log) (sym adds.file.start) (subst (λ l. P m.start l) (sym adds.log) at)

-- ---- pages

pub fixed_kept : (events : Log) (m n : Tale) (i : ℕ) (b : List ℕ) → Adds events m n → SparesAll i events → fixed m i ≡ Some b → fixed n i ≡ Some b
fixed_kept events m n i b adds spares is = at_new (λ s l. fixed_bytes s l i ≡ Some b) events m n adds (log_fixed m.start m.log events i b spares is)

pub last_kept : (events : Log) (m n : Tale) (i : ℕ) (b : List ℕ) → Adds events m n → SparesAll i events → latest m i ≡ Some b → latest n i ≡ Some b
last_kept events m n i b adds spares is = at_new (λ s l. last_bytes s l i ≡ Some b) events m n adds (log_last m.start m.log events i spares ∙ is)

pub last_wrote : (m n : Tale) (i : ℕ) (b : List ℕ) → Adds (Wrote i b ∷ []) m n → latest n i ≡ Some b
last_wrote m n i b adds = at_new (λ s l. last_bytes s l i ≡ Some b) (Wrote i b ∷ []) m n adds (last-Wrote m.start m.log i b)

pub fixed_synced : (m n : Tale) (i : ℕ) (b : List ℕ) → Adds (Synced ∷ []) m n → latest m i ≡ Some b → fixed n i ≡ Some b
fixed_synced m n i b adds is = at_new (λ s l. fixed_bytes s l i ≡ Some b) (Synced ∷ []) m n adds (fixed-Synced m.start m.log i ∙ is)

-- ---- images

pub same_file : (a b c : Tale) → IsSameFile a b → IsSameFile b c → IsSameFile a c
same_file a b c ab bc = record { start = bc.start ∙ ab.start; path = bc.path ∙ ab.path; was_there = bc.was_there ∙ ab.was_there }

pub since_here : (o : Tale) (P : Pages → Type 0) → LeavesNow o P → Since o o P
since_here o P here = record {
  file = record { start = refl; path = refl; was_there = refl };
  input = refl;
  added = [];
  log = sym (append-nil o.log);
  each = λ n long. subst (λ l. Leaves o.start l P) (sym (take_all n o.log long)) here;
}

-- one call more, of at most one event
pub since_call : (events : Log) (o m n : Tale) (P : Pages → Type 0) → Since o m P → Adds events m n → length events ≤ 1 → LeavesNow n P → Since o n P
since_call events o m n P since adds one here = record {
  file = same_file o m n since.file adds.file;
  input = adds.input ∙ since.input;
  added = since.added ++ events;
  log = adds.log ∙ ap (λ (l : Log). l ++ events) since.log ∙ append_assoc o.log since.added events;
  each = λ k long. elim (cases_lt (length m.log) k) [
    | inl past ↦
        let all : take k n.log ≡ n.log = take_all k n.log (omega (arith, ap length adds.log, length-append m.log events)) in
        subst (λ l. Leaves o.start l P) (sym all) (subst (λ s. Leaves s n.log P) (adds.file.start ∙ since.file.start) here)
    | inr within ↦
        let front : take k n.log ≡ take k m.log = ap (λ (l : Log). take k l) adds.log ∙ take-append-le k m.log events within in
        subst (λ l. Leaves o.start l P) (sym front) (since.each k long)
  ];
}

pub since_nothing : (o m n : Tale) (P : Pages → Type 0) → Since o m P → Adds [] m n → Since o n P
since_nothing o m n P since adds =
    let same : n.log ≡ m.log = adds.log ∙ append-nil m.log in
    record {
      file = same_file o m n since.file adds.file;
      input = adds.input ∙ since.input;
      added = since.added;
      log = same ∙ since.log;
      each = λ k long. subst (λ (l : Log). Leaves o.start (take k l) P) (sym same) (since.each k long);
    }

pub since_both : (a b c : Tale) (P : Pages → Type 0) → Since a b P → Since b c P → Since a c P
since_both a b c P ab bc = record {
  file = same_file a b c ab.file bc.file;
  input = bc.input ∙ ab.input;
  added = ab.added ++ bc.added;
  log = bc.log ∙ ap (λ (l : Log). l ++ bc.added) ab.log ∙ append_assoc a.log ab.added bc.added;
  each = λ k long. elim (cases_lt (length b.log) k) [
    | inl past ↦ subst (λ s. Leaves s (take k c.log) P) ab.file.start (bc.each k (omega arith))
    | inr within ↦
        let front : take k c.log ≡ take k b.log = ap (λ (l : Log). take k l) bc.log ∙ take-append-le k b.log bc.added within in
        subst (λ l. Leaves a.start l P) (sym front) (ab.each k long)
  ];
}

pub since_weaker : (a b : Tale) (P Q : Pages → Type 0) → Since a b P → ((image : Pages) → P image → Q image) → Since a b Q
since_weaker a b P Q since so = record {
  file = since.file;
  input = since.input;
  added = since.added;
  log = since.log;
  each = λ k long image left. so image (since.each k long image left);
}

-- ---- a call that writes no page but one

pub record Touches (i : ℕ) (m n : Tale) : Type 0 where
  pub events : Log
  pub adds : Adds events m n
  pub one : length events ≤ 1
  pub spares : (j : ℕ) → i ≢ j → SparesAll j events

pub wrote_touches : (i : ℕ) (b : List ℕ) (m n : Tale) → Adds (Wrote i b ∷ []) m n → Touches i m n
wrote_touches i b m n adds = record { events = Wrote i b ∷ []; adds = adds; one = omega arith; spares = λ j ne. (ne, tt) }

pub tore_touches : (i : ℕ) (m n : Tale) → Adds (Tore i ∷ []) m n ⊎ Adds [] m n → Touches i m n
tore_touches i m n (inl adds) = record { events = Tore i ∷ []; adds = adds; one = omega arith; spares = λ j ne. (ne, tt) }
tore_touches i m n (inr adds) = record { events = []; adds = adds; one = omega arith; spares = λ j ne. tt }

pub synced_touches : (i : ℕ) (m n : Tale) → Adds (Synced ∷ []) m n → Touches i m n
synced_touches i m n adds = record { events = Synced ∷ []; adds = adds; one = omega arith; spares = λ j ne. (tt, tt) }

pub nothing_touches : (i : ℕ) (m n : Tale) → Adds [] m n → Touches i m n
nothing_touches i m n adds = record { events = []; adds = adds; one = omega arith; spares = λ j ne. tt }

pub fixed_spared : (i j : ℕ) (b : List ℕ) (m n : Tale) → Touches i m n → i ≢ j → fixed m j ≡ Some b → fixed n j ≡ Some b
fixed_spared i j b m n touches ne is = fixed_kept touches.events m n j b touches.adds (touches.spares j ne) is

pub last_spared : (i j : ℕ) (b : List ℕ) (m n : Tale) → Touches i m n → i ≢ j → latest m j ≡ Some b → latest n j ≡ Some b
last_spared i j b m n touches ne is = last_kept touches.events m n j b touches.adds (touches.spares j ne) is

pub since_touch : (i : ℕ) (o m n : Tale) (P : Pages → Type 0) → Since o m P → Touches i m n → LeavesNow n P → Since o n P
since_touch i o m n P since touches here = since_call touches.events o m n P since touches.adds touches.one here

-- ---- what is in every image, and what is read

pub image_page : (t : Tale) (image : Pages) (i : ℕ) (b : List ℕ) → CanLeave t.start t.log image → i < length t.start
    → fixed t i ≡ Some b → get_or image i [] ≡ b
image_page t image i b left within is = left_page t.start t.log image i b left within is

pub seen_page : (t : Tale) (i : ℕ) (b : List ℕ) → IsConsistent t → i < length t.start → latest t i ≡ Some b → get_or t.seen i [] ≡ b
seen_page t i b so within is = so.last i b within is

pub last_from : (t : Tale) (i : ℕ) (b : List ℕ) → fixed t i ≡ Some b → latest t i ≡ Some b
last_from t i b is = last_from_fixed t.start t.log i b is
