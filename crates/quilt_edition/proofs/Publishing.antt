-- How a publish goes on, one call after another.
use Rattle.std.proofs.Common.{Result, Ok, Err, OnErr, ◌≡◌, ◌≢◌, ◌⊎◌, inl, inr, ℕ, ◌+◌, ◌-◌, suc, filter, ◌<◌, ◌≤◌, Bool, true, false, List, [], ◌∷◌, map}
use Rattle.std.proofs.Common.{length, Option, Some, None, get_or, set, replicate, refl, sym, ◌∙◌, ap, subst, arith, cond, unwrap_or, get_or-set_same, get_or-set_other, ◌||◌}
use Rattle.std.specs.Option.{IfSome}
use Rattle.std.proofs.lemmas.List.FromFn.{fill_by_all, length-map-range_with_len}
use Rattle.quilt_types.specs.Plane.{below}
use Rattle.quilt_world.specs.Disk.{Pages}
use Rattle.quilt_world.specs.Stops.{Since}
use Rattle.quilt_world.specs.Tale.{Tale, Adds, Goes}
use Rattle.quilt_world.specs.declared.event.Event.TheVariants.{Tore}
use Rattle.quilt_pool.proofs.Saving.{tries_both, tries_tore}
use Rattle.quilt_edition.specs.Keeping.{IsKeptBy, told_pages, work_pages, marked_count, KeepsPublished}
use Rattle.quilt_world.proofs.StopLaws.{since_both, since_weaker}
use Rattle.quilt_world.proofs.Told.{goes_then, goes_and, goes_weaker, goes_now}
use Rattle.quilt_journal.specs.Kept.{HasHome, IsIdle, IsSealed, IsCarried, HoldsWork, home_page, published, work}
use Rattle.quilt_journal.proofs.Homes.{length-work, published_at}
use Rattle.quilt_journal.proofs.Clearing.{idle_none}
use Rattle.quilt_journal.proofs.Leaving.{idle_leaves}
use Rattle.quilt_pool.specs.declared.frame.Frame.{Frame}
use Rattle.quilt_pool.specs.Entries.{Entries, frame_at, page_over, bytes_or, has_dirt, held_bytes, is_dirty, is_marked, IsClean, AreBelow}
use Rattle.quilt_pool.specs.Keeping.{IsWork, KeepsWork}
use Rattle.quilt_journal.specs.Changed.{View, is_changed, changed_count}
use Rattle.quilt_journal.specs.declared.journal.State.{State}
use Rattle.quilt_journal.specs.declared.journal.State.TheVariants.{Idle, Sealed, Carried}
use Rattle.quilt_journal.specs.Writing.{Writing}
use Rattle.quilt_journal.proofs.Writes.{writing_more}
use Rattle.quilt_journal.proofs.Bits.{none_changed}
use Rattle.quilt_node.specs.declared.head.Head.{Head}
use Rattle.quilt_node.specs.Pages.{IsHeader}
use Rattle.quilt_edition.proofs.Counts.{count_none, count_le}
use Rattle.quilt_edition.proofs.Giving.{kept_busy}
use Rattle.quilt_edition.proofs.Steps.{kept_moves, kept_idle, idle_kept, told_idle}
use Rattle.quilt_store.proofs.Counts.{count_behind}
use Rattle.std.specs.List.{range_with_len}
use Rattle.std.proofs.lemmas.List.Sums.{length-filter}
use Rattle.std.proofs.lemmas.Bool.{cases_Bool, cases_eq, eq-eqb, ne_eqb, or_right}
use Rattle.quilt_edition.specs.Publishing.{next_pages, Publishing, IsPublished, held_under}
use Rattle.quilt_btree.proofs.lists.Counts.{some_not_none}

-- where no page is dirty, the pages of the work are those that the pool lies over
over_clean : (es : Entries) (pages : Pages) (i : ℕ) (o : Option Frame) → frame_at es i ≡ o → has_dirt o ≡ false → IsClean es pages
    → bytes_or (get_or pages i []) o ≡ get_or pages i []
over_clean es pages i None is none clean = refl
over_clean es pages i (Some f) is none clean = clean.each i f is none

module _ (n : ℕ) (es : Entries) (c : List Bool) (header : List ℕ) where
  abbrev Alt : Tale → Pages → Type 0
  Alt o image = HasHome n (published o n) image ⊎ HasHome n (next_pages n es c header o) image

  pub over_pages : Tale → Pages
  over_pages o = map (page_over es (work o n c)) (below n)

  module _ (fs : Entries) where
    -- the gate is closed, and these are the pages of the work
    pub record AtOld (d : List Bool) (pages : Tale → Pages) (o t : Tale) : Type 0 where
      pub since : Since o t (Alt o)
      pub home : published t n ≡ published o n
      pub same : work t n d ≡ pages o
      pub idle : IsIdle n d t
      pub clean : IsClean fs (pages o)

    pub record AtNew (d : List Bool) (o t : Tale) : Type 0 where
      pub since : Since o t (Alt o)
      pub same : work t n d ≡ next_pages n es c header o
      pub clean : IsClean fs (next_pages n es c header o)

    drained : (d : List Bool) → ((i : ℕ) → is_dirty fs i ≡ false) → (o t : Tale) → KeepsWork n es fs c d o t → AtOld d over_pages o t
    unfolding over_pages
    drained d clean o t keeps =
        let same : work t n d ≡ map (page_over es (work o n c)) (below n) =
        fill_by_all (page_over es (work o n c)) (work t n d) n [] (length-work t n d) (λ i lt.
        sym (over_clean fs (work t n d) i (frame_at fs i) refl (clean i) keeps.is.clean) ∙ keeps.pages i) in
        record {
          since = since_weaker o t (HasHome n (published o n)) (Alt o) keeps.since (λ image h. inl h);
          home = keeps.home;
          same = same;
          idle = keeps.is.idle;
          clean = subst (IsClean fs) same keeps.is.clean;
        }

    -- a step that leaves the published pages
    old_since : (d : List Bool) (pages : Tale → Pages) (o t u : Tale) → AtOld d pages o t → Since t u (HasHome n (published t n)) → Since o u (Alt o)
    old_since d pages o t u at step =
        since_both o t u (Alt o) at.since
        (since_weaker t u (HasHome n (published t n)) (Alt o) step (λ image h. inl (subst (λ (p : Pages). HasHome n p image) at.home h)))

    apart : (k : ℕ) → 1 ≤ k → k ≢ 0
    apart k le e = omega (arith, le, e)

    listed : AreBelow n fs → (d e : List Bool) (o t u : Tale) → AtOld d over_pages o t → e ≡ set d 0 true → Since t u (HasHome n (published t n))
        → IsIdle n (set d 0 true) u × (published u n ≡ published t n) × (work u n (set d 0 true) ≡ set (work t n d) 0 header)
        → AtOld e (next_pages n es c header) o u
    unfolding over_pages next_pages
    listed range d e o t u at is step kept = record {
      since = old_since d over_pages o t u at step;
      home = kept.1 ∙ at.home;
      same = ap (λ x. work u n x) is ∙ kept.2 ∙ ap (λ (p : Pages). set p 0 header) at.same;
      idle = subst (λ x. IsIdle n x u) (sym is) kept.0;
      clean =
          record {
            each = λ i f there none. at.clean.each i f there none
                ∙ sym (get_or-set_other (map (page_over es (work o n c)) (below n)) 0 i header [] (apart i (range.each i f there).0));
          };
    }

    -- the gate is being opened
    opening : (d : List Bool) (o t u : Tale) → AtOld d (next_pages n es c header) o t
        → Since t u (λ image. HasHome n (published t n) image ⊎ HasHome n (work t n d) image) → Publishing n es c header o u
    opening d o t u at step = record {
      since = since_both o t u (Alt o) at.since
          (since_weaker t u (λ image. HasHome n (published t n) image ⊎ HasHome n (work t n d) image) (Alt o) step (λ image. elim [
            | inl h ↦ inl (subst (λ (p : Pages). HasHome n p image) at.home h)
            | inr h ↦ inr (subst (λ (p : Pages). HasHome n p image) at.same h)
          ]));
    }

    -- a step that leaves the work
    new_stops : (d : List Bool) (o t u : Tale) → AtNew d o t → Since t u (HasHome n (work t n d)) → Publishing n es c header o u
    new_stops d o t u at step = record {
      since = since_both o t u (Alt o) at.since
          (since_weaker t u (HasHome n (work t n d)) (Alt o) step (λ image h. inr (subst (λ (p : Pages). HasHome n p image) at.same h)));
    }

    finished : (d : List Bool) (o t u : Tale) → AtNew d o t → IsIdle n (replicate n false) u × (published u n ≡ work t n d) → IsPublished n es c header fs o u
    finished d o t u at kept =
        let home : published u n ≡ next_pages n es c header o = kept.1 ∙ at.same in
        record {
          work = record { idle = kept.0; clean = subst (IsClean fs) (sym ((idle_none n (replicate n false) u kept.0).1 ∙ home)) at.clean };
          home = home;
          left = λ image can. subst (λ (p : Pages). HasHome n p image) home (idle_leaves n (replicate n false) u kept.0 image can);
        }

    -- ---- the same, told or not, where the journal's number of pages has another name

    module _ (o t u : Option Tale) (m : ℕ) (is : m ≡ n) where
      pub goes_drained : (d : List Bool) → ((i : ℕ) → is_dirty fs i ≡ false) → Goes (KeepsWork n es fs c d) o t → Goes (AtOld d over_pages) o t
      goes_drained d clean keeps = goes_weaker (KeepsWork n es fs c d) (AtOld d over_pages) o t keeps (drained d clean)

      pub goes_old_stops : (d : List Bool) (pages : Tale → Pages) → Goes (AtOld d pages) o t
          → Goes (λ a b. Since a b (HasHome m (published a m))) t u → Goes (Publishing n es c header) o u
      goes_old_stops d pages at step =
          goes_then (AtOld d pages) (λ a b. Since a b (HasHome n (published a n))) (Publishing n es c header) o t u at
          (subst (λ k. Goes (λ a b. Since a b (HasHome k (published a k))) t u) is step) (λ x y z p q. record { since = old_since d pages x y z p q })

      pub goes_listed : AreBelow n fs → (d e : List Bool) → Goes (AtOld d over_pages) o t → e ≡ set d 0 true
          → Goes (λ a b. Since a b (HasHome m (published a m))) t u
          → Goes (λ a b. IsIdle m (set d 0 true) b × (published b m ≡ published a m) × (work b m (set d 0 true) ≡ set (work a m d) 0 header)) t u
          → Goes (AtOld e (next_pages n es c header)) o u
      goes_listed range d e at changed step kept =
          goes_then (AtOld d over_pages) (λ a b. Since a b (HasHome n (published a n))
          × (IsIdle n (set d 0 true) b × (published b n ≡ published a n) × (work b n (set d 0 true) ≡ set (work a n d) 0 header)))
          (AtOld e (next_pages n es c header)) o t u at
          (subst (λ k. Goes (λ a b. Since a b (HasHome k (published a k))
          × (IsIdle k (set d 0 true) b × (published b k ≡ published a k) × (work b k (set d 0 true) ≡ set (work a k d) 0 header))) t u) is
          (goes_and _ _ t u step kept))
          (λ x y z p q. listed range d e x y z p changed q.0 q.1)

      pub goes_opening : (d : List Bool) → Goes (AtOld d (next_pages n es c header)) o t
          → Goes (λ a b. Since a b (λ image. HasHome m (published a m) image ⊎ HasHome m (work a m d) image)) t u → Goes (Publishing n es c header) o u
      goes_opening d at step =
          goes_then (AtOld d (next_pages n es c header)) (λ a b. Since a b (λ image. HasHome n (published a n) image ⊎ HasHome n (work a n d) image))
          (Publishing n es c header) o t u at
          (subst (λ k. Goes (λ a b. Since a b (λ image. HasHome k (published a k) image ⊎ HasHome k (work a k d) image)) t u) is step) (opening d)

      pub goes_opened : (d e : List Bool) → e ≡ d → Goes (AtOld d (next_pages n es c header)) o t
          → Goes (λ a b. Since a b (λ image. HasHome m (published a m) image ⊎ HasHome m (work a m d) image)) t u
          → Goes (λ a b. IsSealed m d b × (work b m d ≡ work a m d)) t u → Goes (AtNew e) o u
      goes_opened d e changed at step kept =
          subst (λ x. Goes (AtNew x) o u) (sym changed)
          (goes_then (AtOld d (next_pages n es c header)) (λ a b. Since a b (λ image. HasHome n (published a n) image ⊎ HasHome n (work a n d) image)
          × (IsSealed n d b × (work b n d ≡ work a n d))) (AtNew d) o t u at
          (subst (λ k. Goes (λ a b. Since a b (λ image. HasHome k (published a k) image ⊎ HasHome k (work a k d) image)
          × (IsSealed k d b × (work b k d ≡ work a k d))) t u) is (goes_and _ _ t u step kept))
          (λ x y z p q. record { since = (opening d x y z p q.0).since; same = q.1.1 ∙ p.same; clean = p.clean }))

      pub goes_new_stops : (d : List Bool) → Goes (AtNew d) o t → Goes (λ a b. Since a b (HasHome m (work a m d))) t u → Goes (Publishing n es c header) o u
      goes_new_stops d at step =
          goes_then (AtNew d) (λ a b. Since a b (HasHome n (work a n d))) (Publishing n es c header) o t u at
          (subst (λ k. Goes (λ a b. Since a b (HasHome k (work a k d))) t u) is step) (new_stops d)

      pub goes_carried : (d e : List Bool) → e ≡ d → Goes (AtNew d) o t → Goes (λ a b. Since a b (HasHome m (work a m d))) t u
          → Goes (λ a b. IsCarried m d b × (work b m d ≡ work a m d)) t u → Goes (AtNew e) o u
      goes_carried d e changed at step kept =
          subst (λ x. Goes (AtNew x) o u) (sym changed)
          (goes_then (AtNew d) (λ a b. Since a b (HasHome n (work a n d)) × (IsCarried n d b × (work b n d ≡ work a n d))) (AtNew d) o t u at
          (subst (λ k. Goes (λ a b. Since a b (HasHome k (work a k d)) × (IsCarried k d b × (work b k d ≡ work a k d))) t u) is (goes_and _ _ t u step kept))
          (λ x y z p q. record { since = (new_stops d x y z p q.0).since; same = q.1.1 ∙ p.same; clean = p.clean }))

      pub goes_finished : (d : List Bool) → Goes (AtNew d) o t → Goes (λ a b. IsIdle m (replicate m false) b × (published b m ≡ work a m d)) t u
          → Goes (IsPublished n es c header fs) o u
      goes_finished d at kept =
          goes_then (AtNew d) (λ a b. IsIdle n (replicate n false) b × (published b n ≡ work a n d)) (IsPublished n es c header fs) o t u at
          (subst (λ k. Goes (λ a b. IsIdle k (replicate k false) b × (published b k ≡ work a k d)) t u) is kept) (finished d)

-- the pages that the pool holds have their bytes in the work
held_frame : (o : Option Frame) (bytes : List ℕ) → held_bytes o ≡ Some bytes → (f : Frame) × (o ≡ Some f) × (bytes ≡ f.bytes)
held_frame None bytes is = absurd cc
held_frame (Some f) bytes is = (f, refl, ap (λ (x : Option (List ℕ)). unwrap_or x []) (sym is))

held_at : (header : List ℕ) (fs : Entries) (i : ℕ) (bytes : List ℕ) → held_under header fs i ≡ Some bytes
    → ((i ≡ 0) × (bytes ≡ header)) ⊎ ((f : Frame) × (frame_at fs i ≡ Some f) × (bytes ≡ f.bytes))
held_at header fs i bytes is = elim (cases_eq i 0) [
  | inl zero_is ↦
      let here : Some header ≡ Some bytes = sym (ap (λ b. cond b (Some header) (held_bytes (frame_at fs i))) (eq-eqb i 0 zero_is)) ∙ is in
      inl (zero_is, ap (λ (x : Option (List ℕ)). unwrap_or x []) (sym here))
  | inr ne ↦
      inr (held_frame (frame_at fs i) bytes (sym (ap (λ b. cond b (Some header) (held_bytes (frame_at fs i))) (ne_eqb i 0 ne)) ∙ is))
]

pub goes_held : (n : ℕ) (es : Entries) (c : List Bool) (header : List ℕ) (fs : Entries) (m : ℕ) (d : List Bool) (o t : Option Tale) → m ≡ n → 0 < n
    → ((i : ℕ) → is_dirty fs i ≡ false) → Goes (AtNew n es c header fs d) o t → IfSome t (HoldsWork m d (held_under header fs))
unfolding next_pages
goes_held n es c header fs m d o t is some clean at =
    goes_now (AtNew n es c header fs d) (HoldsWork m d (held_under header fs)) o t at (λ x y new.
    subst (λ k. HoldsWork k d (held_under header fs) y) (sym is) (record {
      each = λ i bytes lt bit held. elim (held_at header fs i bytes held) [
        | inl (zero_is, same) ↦
            let size : 0 < length (map (page_over es (work x n c)) (below n)) =
            subst (λ k. 0 < k) (sym (length-map-range_with_len (page_over es (work x n c)) 0 n)) some in
            same
            ∙ sym (get_or-set_same (map (page_over es (work x n c)) (below n)) 0 header [] size)
            ∙ ap (λ (p : Pages). get_or p 0 []) (sym new.same)
            ∙ ap (λ k. get_or (work y n d) k []) (sym zero_is)
        | inr (f, there, same) ↦
            same ∙ new.clean.each i f there (sym (ap has_dirt there) ∙ clean i) ∙ ap (λ (p : Pages). get_or p i []) (sym new.same)
      ];
    }))

-- what the drain leaves
pub drain_stops : (n : ℕ) (es fs : Entries) (c d : List Bool) (header : List ℕ) (o t : Option Tale) → Goes (KeepsWork n es fs c d) o t
    → Goes (Publishing n es c header) o t
drain_stops n es fs c d header o t keeps = goes_weaker (KeepsWork n es fs c d) (Publishing n es c header) o t keeps
    (λ x y k. record {
      since = since_weaker x y (HasHome n (published x n))
          (λ image. HasHome n (published x n) image ⊎ HasHome n (next_pages n es c header x) image) k.since (λ image h. inl h);
    })

-- ---- where a publish stops before the gate

pub moves_drained : (n : ℕ) (es fs : Entries) (c d : List Bool) (o t : Option Tale) → Goes (KeepsWork n es fs c d) o t → Goes (KeepsPublished n fs d) o t
moves_drained n es fs c d o t keeps =
    goes_weaker (KeepsWork n es fs c d) (KeepsPublished n fs d) o t keeps (λ x y k. record { is = k.is; home = k.home; tries = k.tries; since = k.since })

clean_header : (n : ℕ) (fs : Entries) (pages : Pages) (x : List ℕ) → AreBelow n fs → IsClean fs pages → IsClean fs (set pages 0 x)
clean_header n fs pages x range clean =
    record { each = λ i f there none. clean.each i f there none ∙ sym (get_or-set_other pages 0 i x [] (λ e. some_not_none i (range.each i f there).0 e)) }

pub moves_torn : (n m : ℕ) (es fs : Entries) (c d e : List Bool) (o t u : Option Tale) → m ≡ n → e ≡ set d 0 false → AreBelow n fs
    → Goes (KeepsWork n es fs c d) o t
    → Goes (λ a b. IsIdle m (set d 0 false) b × (published b m ≡ published a m) × (work b m (set d 0 false) ≡ set (work a m d) 0 (home_page a 0))) t u
    → Goes (λ a b. Adds (Tore (3 + m + 0) ∷ []) a b ⊎ Adds [] a b) t u → Goes (λ a b. Since a b (HasHome m (published a m))) t u → Goes (KeepsPublished n fs e) o u
moves_torn n m es fs c d e o t u is changed range keeps kept tore step =
    subst (λ x. Goes (KeepsPublished n fs x) o u) (sym changed)
    (goes_then (KeepsWork n es fs c d)
    (λ a b. (IsIdle n (set d 0 false) b × (published b n ≡ published a n) × (work b n (set d 0 false) ≡ set (work a n d) 0 (home_page a 0)))
    × ((Adds (Tore (3 + n + 0) ∷ []) a b ⊎ Adds [] a b) × Since a b (HasHome n (published a n)))) (KeepsPublished n fs (set d 0 false)) o t u keeps
    (subst (λ k. Goes (λ a b. (IsIdle k (set d 0 false) b × (published b k ≡ published a k)
    × (work b k (set d 0 false) ≡ set (work a k d) 0 (home_page a 0)))
    × ((Adds (Tore (3 + k + 0) ∷ []) a b ⊎ Adds [] a b) × Since a b (HasHome k (published a k)))) t u) is
    (goes_and _ _ t u kept (goes_and _ _ t u tore step)))
    (λ x y z p q. record {
      is = record { idle = q.0.0; clean = subst (IsClean fs) (sym q.0.2) (clean_header n fs (work y n d) (home_page y 0) range p.is.clean) };
      home = q.0.1 ∙ p.home;
      tries = tries_both x y z p.tries (tries_tore (3 + n + 0) y z q.1.0);
      since = since_both x y z (HasHome n (published x n)) p.since (subst (λ (h : Pages). Since y z (HasHome n h)) p.home q.1.1);
    }))

pub on_err_of : {T E : Type 0} (r : Result T E) (P : Type 0) → P → OnErr r P
on_err_of (Ok x) P p = tt
on_err_of (Err e) P p = p

pub on_err_if : {T E : Type 0} (r : Result T E) (S Q : Type 0) → Q → OnErr r (S → Q)
on_err_if r S Q q = on_err_of r (S → Q) (λ s. q)

-- ---- what a book keeps after it

sealed_not : Sealed ≡ Idle → ⊥
sealed_not e = cc

carried_not : Carried ≡ Idle → ⊥
carried_not e = cc

by_state : (j k : View) (es fs : Entries) (last : Head) (o t : Option Tale) → j.state ≡ Idle → k.pages ≡ j.pages → IsKeptBy j es last o
    → (k.state ≡ Idle → Goes (KeepsPublished j.pages fs k.changed) o t) → (s : State) → k.state ≡ s → IsKeptBy k fs last t
by_state j k es fs last o t idle pages kept left Idle e = kept_moves j k es fs last idle pages (e ∙ sym idle) o t kept (left e)
by_state j k es fs last o t idle pages kept left Sealed e = kept_busy k k fs fs last (λ i. sealed_not (sym e ∙ i)) refl t
by_state j k es fs last o t idle pages kept left Carried e = kept_busy k k fs fs last (λ i. carried_not (sym e ∙ i)) refl t

pub kept_left : (j k : View) (es fs : Entries) (last : Head) (o t : Option Tale) → j.state ≡ Idle → k.pages ≡ j.pages → IsKeptBy j es last o
    → (k.state ≡ Idle → Goes (KeepsPublished j.pages fs k.changed) o t) → IsKeptBy k fs last t
kept_left j k es fs last o t idle pages kept left = by_state j k es fs last o t idle pages kept left k.state refl

first_page : (n : ℕ) (es : Entries) (c : List Bool) (header : List ℕ) (o : Tale) → 0 < n → get_or (next_pages n es c header o) 0 [] ≡ header
unfolding next_pages
first_page n es c header o some =
    get_or-set_same (map (page_over es (work o n c)) (below n)) 0 header [] (omega (arith, some, length-map-range_with_len (page_over es (work o n c)) 0 n))

pub kept_published : (n : ℕ) (k : View) (es fs : Entries) (c : List Bool) (header : List ℕ) (head : Head) (o t : Option Tale) → k.pages ≡ n
    → k.state ≡ Idle → k.changed ≡ replicate n false → 0 < n → IsHeader n header head
    → Goes (IsPublished n es c header fs) o t → IsKeptBy k fs head t
kept_published n k es fs c header head None None pages state changed some is goes = tt
kept_published n k es fs c header head None (Some t) pages state changed some is goes = absurd goes
kept_published n k es fs c header head (Some o) None pages state changed some is goes = tt
kept_published n k es fs c header head (Some o) (Some t) pages state changed some is goes =
    let first : home_page t 0 ≡ header = sym (published_at t n 0 some) ∙ ap (λ (p : Pages). get_or p 0 []) goes.home ∙ first_page n es c header o some in
    idle_kept k fs head (Some t) state (record {
      work = subst (λ m. IsWork m fs k.changed t) (sym pages) (subst (λ d. IsWork n fs d t) (sym changed) goes.work);
      header = subst (λ m. IsHeader m (home_page t 0) head) (sym pages) (subst (λ b. IsHeader n b head) (sym first) is);
    })

pub none_marked : (n m : ℕ) (fs : Entries) (d : List Bool) → d ≡ replicate n false → ((i : ℕ) → is_dirty fs i ≡ false) → marked_count m fs d ≡ 0
unfolding marked_count
none_marked n m fs d changed clean =
    count_none (is_marked fs d) 0 m (λ i le lt. ap (λ b. b || is_changed d i) (clean i) ∙ ap (λ x. is_changed x i) changed ∙ none_changed n i)

-- ---- what it tells after it

told_next : (n : ℕ) (es fs : Entries) (c : List Bool) (header : List ℕ) (o t : Tale) → ((i : ℕ) → is_dirty fs i ≡ false)
    → IsPublished n es c header fs o t → map (page_over fs (work t n (replicate n false))) (below n) ≡ next_pages n es c header o
told_next n es fs c header o t clean is =
    let w = work t n (replicate n false) in
    sym (fill_by_all (page_over fs w) w n [] (length-work t n (replicate n false))
    (λ i lt. sym (over_clean fs w i (frame_at fs i) refl (clean i) is.work.clean)))
    ∙ (idle_none n (replicate n false) t is.work.idle).1 ∙ is.home

told_after : (j k : View) (es fs : Entries) (header : List ℕ) (o t : Tale) → k.pages ≡ j.pages → k.changed ≡ replicate j.pages false
    → ((i : ℕ) → is_dirty fs i ≡ false) → IsPublished j.pages es j.changed header fs o t → work_pages k fs t ≡ set (work_pages j es o) 0 header
unfolding work_pages next_pages
told_after j k es fs header o t pages changed clean is =
    ap (λ n. map (page_over fs (work t n k.changed)) (below n)) pages
    ∙ ap (λ d. map (page_over fs (work t j.pages d)) (below j.pages)) changed
    ∙ told_next j.pages es fs j.changed header o t clean is

pub told_published : (j k : View) (es fs : Entries) (header : List ℕ) (o t : Option Tale) → j.state ≡ Idle → k.pages ≡ j.pages → k.state ≡ Idle
    → k.changed ≡ replicate j.pages false → ((i : ℕ) → is_dirty fs i ≡ false)
    → Goes (IsPublished j.pages es j.changed header fs) o t → Goes (λ (old new : Pages). new ≡ set old 0 header) (told_pages j es o) (told_pages k fs t)
told_published j k es fs header None None idle pages state changed clean goes = tt
told_published j k es fs header None (Some t) idle pages state changed clean goes = absurd goes
told_published j k es fs header (Some o) None idle pages state changed clean goes = absurd goes
told_published j k es fs header (Some o) (Some t) idle pages state changed clean goes =
    rw (told_idle j es o idle, told_idle k fs t state) (told_after j k es fs header o t pages changed clean goes)

-- ---- how many pages it writes

in_front : (f : ℕ → Bool) (m : ℕ) → length (filter f (range_with_len (0 + 1) m)) ≤ length (filter f (range_with_len 0 (suc m)))
in_front f m = elim (cases_Bool (f 0)) [
  | inl t ↦ rw t (omega arith)
  | inr e ↦ rw e (omega arith)
]

dirt_of_marked : (es : Entries) (c : List Bool) (i : ℕ) → is_dirty es i ≡ true → is_marked es c i ≡ true
dirt_of_marked es c i dirty = ap (λ b. b || is_changed c i) dirty

bit_of_marked : (es : Entries) (c : List Bool) (i : ℕ) → is_changed c i ≡ true → is_marked es c i ≡ true
bit_of_marked es c i bit = or_right (is_dirty es i) (is_changed c i) bit

pub dirty_most : (n : ℕ) (es : Entries) (c : List Bool) → 1 ≤ n → length (filter (is_dirty es) (range_with_len 1 (n - 1))) ≤ marked_count n es c
unfolding marked_count
dirty_most n es c some =
    let back : suc (n - 1) ≡ n = omega (arith, some) in
    let first = in_front (is_dirty es) (n - 1) in
    let then = count_le (is_dirty es) (is_marked es c) (dirt_of_marked es c) (range_with_len 0 (suc (n - 1))) in
    subst (λ k. length (filter (is_dirty es) (range_with_len 1 (n - 1))) ≤ length (filter (is_marked es c) (range_with_len 0 k))) back
    (omega (arith, first, then))

pub changed_most : (n : ℕ) (es : Entries) (c : List Bool) → length c ≡ n → changed_count c ≤ marked_count n es c
unfolding marked_count
changed_most n es c size =
    let all : length (filter (λ i. is_changed c i) (range_with_len 0 (length c))) ≡ length (filter (λ b. b) c) = count_behind [] c 0 refl in
    let same : length (filter (λ b. b) c) ≡ changed_count c = length-filter (λ b. b) c in
    let more = count_le (λ i. is_changed c i) (is_marked es c) (bit_of_marked es c) (range_with_len 0 n) in
    let here : length (filter (λ i. is_changed c i) (range_with_len 0 n)) ≡ changed_count c =
    ap (λ k. length (filter (λ i. is_changed c i) (range_with_len 0 k))) (sym size) ∙ all ∙ same in
    omega (arith, here, more)

pub goes_more_writes : (j k : ℕ) (a b : Option Tale) → j ≤ k → Goes (Writing j) a b → Goes (Writing k) a b
goes_more_writes j k a b le w = goes_weaker (Writing j) (Writing k) a b w (λ x y h. writing_more j k x y le h)

-- ---- what it tells after it went back

told_back : (j k : View) (fs : Entries) (last : Head) (t : Tale) → j.state ≡ Idle → k.pages ≡ j.pages → k.state ≡ j.state → fs ≡ []
    → IsIdle j.pages k.changed t → work t j.pages k.changed ≡ published t j.pages
    → told_pages k fs (Some t) ≡ Some (published t k.pages)
unfolding work_pages
told_back j k fs last t idle pages state empty is works =
    let w = work t j.pages k.changed in
    told_idle k fs t (state ∙ idle)
    ∙ ap (λ l. Some (map (page_over l (work t k.pages k.changed)) (below k.pages))) empty
    ∙ ap (λ n. Some (map (page_over [] (work t n k.changed)) (below n))) pages
    ∙ ap Some (sym (fill_by_all (page_over [] w) w j.pages [] (length-work t j.pages k.changed) (λ i lt. refl)) ∙ works)
    ∙ ap (λ n. Some (published t n)) (sym pages)

pub told_reverted : (j k : View) (es fs : Entries) (last : Head) (told : Option Tale) → j.state ≡ Idle → k.pages ≡ j.pages → k.state ≡ j.state
    → fs ≡ [] → IsKeptBy j es last told
    → ((t : Tale) → IsIdle j.pages j.changed t → IsIdle j.pages k.changed t × (work t j.pages k.changed ≡ published t j.pages))
    → IfSome told (λ t. told_pages k fs told ≡ Some (published t k.pages))
told_reverted j k es fs last None idle pages state empty kept cleared = tt
told_reverted j k es fs last (Some t) idle pages state empty kept cleared =
    let c = cleared t (kept_idle j es last (Some t) idle kept).work.idle in
    told_back j k fs last t idle pages state empty c.0 c.1
