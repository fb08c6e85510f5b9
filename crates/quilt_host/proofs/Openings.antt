-- Maps that are opened and made.
use Rattle.std.proofs.Common.{◌≡◌, ◌≢◌, ◌⊎◌, inl, inr, ℕ, ◌+◌, ◌*◌, ◌<◌, ◌≤◌, true, false, List, [], ◌∷◌, length, replicate, Option, Some, None, refl, sym, ◌∙◌, ap, subst, arith}
use Rattle.std.specs.Option.{ForSome}
use Rattle.std.specs.Prelude.{IfSome}
use Rattle.std.proofs.lemmas.Bool.{false≢true}
use Rattle.std.proofs.lemmas.List.{length-replicate}
use Rattle.std.proofs.lemmas.Option.{same_Some}
use Rattle.quilt_world.specs.Disk.{Log}
use Rattle.quilt_world.specs.Doors.{OpensAt, MakesAt}
use Rattle.quilt_world.specs.PageBytes.{last_bytes}
use Rattle.quilt_world.specs.declared.disk.Door.{Door}
use Rattle.quilt_world.specs.declared.disk.Door.TheVariants as doors
use Rattle.quilt_host.specs.declared.act.Act.TheVariants.{Linked}
use Rattle.quilt_host.specs.Story.{Story}
use Rattle.quilt_host.specs.Acts.{draft_of, closed, log_of, is_settled}
use Rattle.quilt_host.specs.Bytes.{patched, page_at, file_pages}
use Rattle.quilt_host.specs.Calls.{OpensFile, Syncs, Links}
use Rattle.quilt_host.specs.Paging.{KeepsBytes, KeepsRest, KeepsStart, WritesPage, TearsPage, WritesZeros, WritesSome, Settles, Fills, MakesMap, FailsToMake}
use Rattle.quilt_host.specs.Worlds.{is_open_door, tale_of, IsSoundStory, IsFileKept}
use Rattle.quilt_host.proofs.ByteLaws.{get-pages_of, zeros_more, pages_of-zeros}
use Rattle.quilt_host.proofs.DraftLaws.{after_opened, after_linked}
use Rattle.quilt_host.proofs.Pieces.{same_rest}

-- ---- filling a new file

pub zeros_none : (s : Story) → s.bytes ≡ [] → WritesZeros 0 s s
zeros_none s none = record { rest = same_rest s; bytes = none; owes = refl }

rest_both : (a b c : Story) → KeepsRest a b → KeepsRest b c → KeepsRest a c
rest_both a b c ab bc = record {
  words = bc.words ∙ ab.words;
  path = bc.path ∙ ab.path;
  was_there = bc.was_there ∙ ab.was_there;
  is_there = bc.is_there ∙ ab.is_there;
  settled = bc.settled ∙ ab.settled;
  input = bc.input ∙ ab.input;
  said = bc.said ∙ ab.said;
  says = bc.says ∙ ab.says;
}

start_of_rest : (a b : Story) → KeepsRest a b → KeepsStart a b
start_of_rest a b k = record { words = k.words; path = k.path; was_there = k.was_there; input = k.input; said = k.said; says = k.says }

start_both : (a b c : Story) → KeepsStart a b → KeepsStart b c → KeepsStart a c
start_both a b c ab bc = record {
  words = bc.words ∙ ab.words;
  path = bc.path ∙ ab.path;
  was_there = bc.was_there ∙ ab.was_there;
  input = bc.input ∙ ab.input;
  said = bc.said ∙ ab.said;
  says = bc.says ∙ ab.says;
}

pub zeros_next : (i : ℕ) (zeros : List ℕ) (t u v : Story) → zeros ≡ replicate 4096 0 → WritesZeros i t u → WritesPage i zeros u v → WritesZeros (i + 1) t v
zeros_next i zeros t u v are z w = record {
  rest = rest_both t u v z.rest w.rest;
  bytes =
      w.bytes
      ∙ ap (λ f. patched f (i * 4096) zeros) z.bytes
      ∙ ap (patched (replicate (i * 4096) 0) (i * 4096)) are
      ∙ zeros_more i (i + 1) refl;
  owes = w.owes ∙ z.owes;
}

pub zeros_stop : (i : ℕ) (t u v : Story) → WritesZeros i t u → TearsPage i u v ⊎ (v ≡ u) → WritesSome t v
zeros_stop i t u v z (inl w) = record { rest = rest_both t u v z.rest w.rest; owes = w.owes ∙ z.owes }
zeros_stop i t u v z (inr same) = subst (λ (x : Story). WritesSome t x) (sym same) (record { rest = z.rest; owes = z.owes })

pub some_none : (s : Story) → WritesSome s s
some_none s = record { rest = same_rest s; owes = refl }

pub settles : (t u v : Story) → Syncs t u → Links u v → Settles t v
settles t u v synced links =
    let all : links.settled ≡ u.bytes = links.all (subst (λ (x : Story). is_settled x.acts ≡ true) (sym synced) refl) in
    let bytes : u.bytes ≡ t.bytes = ap (λ (x : Story). x.bytes) synced in
    let linked : Story = record u { settled = links.settled; acts = Linked ∷ u.acts } in
    subst (λ (x : Story). Settles t x) (sym links.now)
    (record {
      same = record {
        words = ap (λ (x : Story). x.words) synced;
        path = ap (λ (x : Story). x.path) synced;
        was_there = ap (λ (x : Story). x.was_there) synced;
        input = ap (λ (x : Story). x.input) synced;
        said = ap (λ (x : Story). x.said) synced;
        says = ap (λ (x : Story). x.says) synced;
      };
      is_there = ap (λ (x : Story). x.is_there) synced;
      bytes = bytes;
      settled = all ∙ bytes;
      log = after_linked (draft_of u.acts);
    })

pub fills : (n : ℕ) (t u v : Story) → WritesZeros n t u → Settles u v → Fills n t v
fills n t u v z s = record {
  same = start_both t u v (start_of_rest t u z.rest) s.same;
  is_there = s.is_there ∙ z.rest.is_there;
  bytes = s.bytes ∙ z.bytes;
  settled = s.settled ∙ z.bytes;
  log = s.log;
}

-- ---- removing it

-- ---- making

-- ---- soundness

not_made : (door : Door) → door ≡ doors.Shut → door ≢ doors.Made
not_made door shut made = let no : doors.Shut ≡ doors.Made = sym shut ∙ made in cc

-- the file is opened
kept_opened : (path : List ℕ) (door : Door) (s u : Story) → door ≡ doors.Shut → OpensFile path s u → IsFileKept door s → IsFileKept doors.Ready u
kept_opened path door s u shut o kept = record {
  there = λ was. ap (λ (x : Story). x.is_there) o.now ∙ o.there;
  owes = λ apart. ap (λ (x : Story). x.owes) o.now ∙ kept.owes (not_made door shut);
  said = ap (λ (x : Story). x.said) o.now ∙ kept.said;
  says = ap (λ (x : Story). x.says) o.now ∙ kept.says;
}

reads_first : (pages : ℕ) (s : Story) → log_of s.acts ≡ [] → s.settled ≡ s.bytes → (i : ℕ) (bytes : List ℕ) → i < pages
    → last_bytes (file_pages s.settled pages) (log_of s.acts) i ≡ Some bytes → page_at s.bytes i ≡ bytes
unfolding last_bytes
reads_first pages s log settled i bytes within is =
    let now : last_bytes (file_pages s.settled pages) [] i ≡ Some bytes = ap (λ (l : Log). last_bytes (file_pages s.settled pages) l i) (sym log) ∙ is in
    ap (λ f. page_at f i) (sym settled) ∙ sym (get-pages_of s.settled pages i within) ∙ same_Some _ bytes now

pub sound_opened : (path : List ℕ) (door : Door) (pages n : ℕ) (s u : Story) → door ≡ doors.Shut → IsSoundStory door n s → OpensFile path s u
    → pages * 4096 ≤ length u.bytes → IsSoundStory doors.Ready pages u
sound_opened path door pages n s u shut sound o within = record {
  first = λ shut. absurd (let no : doors.Ready ≡ doors.Shut = shut in cc);
  within = within;
  reads = λ opens. reads_first pages u
      (ap (λ (x : Story). log_of x.acts) o.now ∙ after_opened (draft_of s.acts))
      (ap (λ (x : Story). x.settled) o.now ∙ sym (ap (λ (x : Story). x.bytes) o.now));
  kept = kept_opened path door s u shut o sound.kept;
}

pub sound_made : (path : List ℕ) (door : Door) (pages n : ℕ) (s u : Story) → IsSoundStory door n s → MakesMap path pages s u → IsSoundStory doors.Made pages u
sound_made path door pages n s u sound m = record {
  first = λ shut. absurd (let no : doors.Made ≡ doors.Shut = shut in cc);
  within = omega (arith, ap length m.bytes, length-replicate {A = ℕ} (pages * 4096) 0);
  reads = λ opens. reads_first pages u m.log (m.settled ∙ sym m.bytes);
  kept = record {
    there = λ was. m.there;
    owes = λ apart. absurd (apart refl);
    said = m.same.said ∙ sound.kept.said;
    says = m.same.says ∙ sound.kept.says;
  };
}

-- no page is open
sound_closed : (door : Door) (pages : ℕ) (s : Story) → pages ≡ 0 → door ≢ doors.Shut → is_open_door door ≡ false → IsFileKept door s → IsSoundStory door pages s
sound_closed door pages s none not_shut closed kept = record {
  first = λ shut. absurd (not_shut shut);
  within = omega arith;
  reads = λ opens. absurd (false≢true (sym closed ∙ opens));
  kept = kept;
}

module _ (door : Door) (pages : ℕ) (no_pages : door ≢ doors.Ready → door ≢ doors.Made → pages ≡ 0) (shut : door ≡ doors.Shut) where
  none : pages ≡ 0
  none = no_pages (λ ready. (let no : doors.Shut ≡ doors.Ready = sym shut ∙ ready in cc)) (not_made door shut)

  pub sound_missing : (s : Story) → IsSoundStory door pages s → IsSoundStory doors.Missing pages s
  sound_missing s sound = sound_closed doors.Missing pages s none (λ e. (let no : doors.Missing ≡ doors.Shut = e in cc)) refl
      (record { there = sound.kept.there; owes = λ apart. sound.kept.owes (not_made door shut); said = sound.kept.said; says = sound.kept.says })

  pub sound_taken : (s : Story) → IsSoundStory door pages s → IsSoundStory doors.Taken pages s
  sound_taken s sound = sound_closed doors.Taken pages s none (λ e. (let no : doors.Taken ≡ doors.Shut = e in cc)) refl
      (record { there = sound.kept.there; owes = λ apart. sound.kept.owes (not_made door shut); said = sound.kept.said; says = sound.kept.says })

  failed_first : (s : Story) → IsSoundStory door pages s → IsSoundStory doors.Failed pages s
  failed_first s sound = sound_closed doors.Failed pages s none (λ e. (let no : doors.Failed ≡ doors.Shut = e in cc)) refl
      (record { there = sound.kept.there; owes = λ apart. sound.kept.owes (not_made door shut); said = sound.kept.said; says = sound.kept.says })

  pub sound_not_opened : (path : List ℕ) (s u : Story) → IsSoundStory door pages s → (u ≡ s) ⊎ OpensFile path s u → IsSoundStory doors.Failed pages u
  sound_not_opened path s u sound (inl same) = subst (IsSoundStory doors.Failed pages) (sym same) (failed_first s sound)
  sound_not_opened path s u sound (inr o) =
      let kept = kept_opened path door s u shut o sound.kept in
      sound_closed doors.Failed pages u none (λ e. (let no : doors.Failed ≡ doors.Shut = e in cc)) refl (record {
        there = kept.there;
        owes = λ apart. kept.owes (λ e. (let no : doors.Ready ≡ doors.Made = e in cc));
        said = kept.said;
        says = kept.says;
      })

  pub sound_not_made : (s u : Story) → IsSoundStory door pages s → FailsToMake s u → IsSoundStory doors.Failed pages u
  sound_not_made s u sound f = sound_closed doors.Failed pages u none (λ e. (let no : doors.Failed ≡ doors.Shut = e in cc)) refl (record {
    there = λ was.
        let there : s.is_there ≡ true = sound.kept.there (sym f.same.was_there ∙ was) in
        ap (λ (x : Story). x.is_there) (f.kept there) ∙ there;
    owes = λ apart. f.cleared (sound.kept.owes (not_made door shut));
    said = f.same.said ∙ sound.kept.said;
    says = f.same.says ∙ sound.kept.says;
  })

-- ---- tales

pub opens_at : (path : List ℕ) (door : Door) (pages pages' reads writes : ℕ) (s u : Story) → door ≡ doors.Shut → IsSoundStory door pages s → OpensFile path s u
    → OpensAt path doors.Ready (tale_of door pages reads writes s) (tale_of doors.Ready pages' reads writes u)
opens_at path door pages pages' reads writes s u shut sound o = record {
  fresh = record {
    log = ap (λ (x : Story). log_of x.acts) o.now ∙ after_opened (draft_of s.acts);
    reads = refl;
    writes = refl;
    input = ap (λ (x : Story). x.input) o.now;
    path = ap (λ (x : Story). x.path) o.now;
    was_there = ap (λ (x : Story). x.was_there) o.now;
  };
  ready = λ ready. (o.named, sym (sound.first shut) ∙ o.there);
  missing = λ missing. absurd (let no : doors.Ready ≡ doors.Missing = missing in cc);
}

pub is_missing : (path : List ℕ) (door : Door) (pages pages' reads writes : ℕ) (s : Story) → door ≡ doors.Shut → IsSoundStory door pages s
    → (path ≡ s.path → s.is_there ≡ false) → OpensAt path doors.Missing (tale_of door pages reads writes s) (tale_of doors.Missing pages' reads writes s)
is_missing path door pages pages' reads writes s shut sound none = record {
  fresh = record { log = refl; reads = refl; writes = refl; input = refl; path = refl; was_there = refl };
  ready = λ ready. absurd (let no : doors.Missing ≡ doors.Ready = ready in cc);
  missing = λ missing same. sym (sound.first shut) ∙ none same;
}

pub fails_to_open : (path : List ℕ) (door : Door) (pages pages' reads writes : ℕ) (s u : Story) → (u ≡ s) ⊎ OpensFile path s u
    → OpensAt path doors.Failed (tale_of door pages reads writes s) (tale_of doors.Failed pages' reads writes u)
fails_to_open path door pages pages' reads writes s u (inl same) = record {
  fresh = record {
    log = refl;
    reads = refl;
    writes = refl;
    input = ap (λ (x : Story). x.input) same;
    path = ap (λ (x : Story). x.path) same;
    was_there = ap (λ (x : Story). x.was_there) same;
  };
  ready = λ ready. absurd (let no : doors.Failed ≡ doors.Ready = ready in cc);
  missing = λ missing. absurd (let no : doors.Failed ≡ doors.Missing = missing in cc);
}
fails_to_open path door pages pages' reads writes s u (inr o) = record {
  fresh = record {
    log = refl;
    reads = refl;
    writes = refl;
    input = ap (λ (x : Story). x.input) o.now;
    path = ap (λ (x : Story). x.path) o.now;
    was_there = ap (λ (x : Story). x.was_there) o.now;
  };
  ready = λ ready. absurd (let no : doors.Failed ≡ doors.Ready = ready in cc);
  missing = λ missing. absurd (let no : doors.Failed ≡ doors.Missing = missing in cc);
}

pub makes_at : (path : List ℕ) (door : Door) (n pages reads writes : ℕ) (s u : Story) → door ≡ doors.Shut → IsSoundStory door pages s → MakesMap path n s u
    → MakesAt path n doors.Made (tale_of door pages reads writes s) (tale_of doors.Made n reads writes u)
makes_at path door n pages reads writes s u shut sound m = record {
  fresh = record {
    log = m.log;
    reads = refl;
    writes = refl;
    input = m.same.input;
    path = m.same.path;
    was_there = m.same.was_there;
  };
  ready = λ made. (m.named, sym (sound.first shut) ∙ m.free);
  zero = λ made. ap (λ f. file_pages f n) m.settled ∙ pages_of-zeros n;
  taken = λ taken. absurd (let no : doors.Made ≡ doors.Taken = taken in cc);
}

pub is_taken : (path : List ℕ) (door : Door) (n pages pages' reads writes : ℕ) (s : Story) → door ≡ doors.Shut → IsSoundStory door pages s
    → (path ≡ s.path → s.is_there ≡ true) → MakesAt path n doors.Taken (tale_of door pages reads writes s) (tale_of doors.Taken pages' reads writes s)
is_taken path door n pages pages' reads writes s shut sound there = record {
  fresh = record { log = refl; reads = refl; writes = refl; input = refl; path = refl; was_there = refl };
  ready = λ made. absurd (let no : doors.Taken ≡ doors.Made = made in cc);
  zero = λ made. absurd (let no : doors.Taken ≡ doors.Made = made in cc);
  taken = λ taken same. sym (sound.first shut) ∙ there same;
}

-- ---- files

pub same_file : (s : Story) → KeepsBytes s s
same_file s = record { is_there = refl; bytes = refl }

-- ---- what is kept

pub if_kept : (door : Door) (pages : ℕ) (told : Option Story) → ForSome told (IsSoundStory door pages) → IfSome told (IsFileKept door)
if_kept door pages None sound = tt
if_kept door pages (Some s) sound = (sound s refl).kept
