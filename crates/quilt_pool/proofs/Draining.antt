-- What writing a dirty page to its slot, and keeping it clean, keeps.
use Rattle.std.proofs.Common.{◌≡◌, ◌≢◌, inl, inr, ℕ, zero, suc, ◌+◌, ◌-◌, ◌<◌, ◌≤◌, Bool, true, false, cond, nat_eq}
use Rattle.std.proofs.Common.{◌||◌, List, [], ◌∷◌, Option, Some, None, length, filter, get_or, refl, sym, ◌∙◌, ap, subst, arith, add-zero}
use Rattle.std.proofs.Common.{add-suc}
use Rattle.std.specs.Option.{IfSome}
use Rattle.std.specs.List.{range_with_len}
use Rattle.std.proofs.lemmas.Bool.{cases_eq, eqb-true, eq-eqb, ne_eqb}
use Rattle.std.specs.Cmp.{nat_eq_equiv}
use Rattle.std.specs.Map.{set_value}
use Rattle.std.specs.Option.{is_some}
use Rattle.std.proofs.lemmas.Map.{lookup-set_value}
use Rattle.quilt_world.specs.Disk.{Pages}
use Rattle.quilt_world.specs.Tale.{Tale, Goes}
use Rattle.quilt_world.proofs.StopLaws.{since_here}
use Rattle.quilt_world.proofs.Told.{goes_then}
use Rattle.quilt_journal.specs.Changed.{is_changed}
use Rattle.quilt_journal.specs.Kept.{HasHome, published, work}
use Rattle.quilt_journal.specs.Writing.{Writing}
use Rattle.quilt_journal.proofs.Leaving.{idle_leaves}
use Rattle.quilt_journal.proofs.Writes.{writing_none, writing_both, writing_more}
use Rattle.quilt_pool.specs.declared.frame.Frame.{Frame}
use Rattle.quilt_pool.specs.Entries.{Entries, frame_at, page_over, bytes_or, has_dirt, is_dirty, is_marked, IsClean, AreBelow}
use Rattle.quilt_pool.specs.Keeping.{IsWork, KeepsWork}
use Rattle.quilt_pool.proofs.Saving.{tries_none}
use Rattle.quilt_pool.proofs.Entering.{keeps_then}

pub eqb-same : (k : ℕ) (x y : ℕ) → nat_eq k x ≡ true → nat_eq k y ≡ nat_eq x y
eqb-same k x y t = ap (λ j. nat_eq j y) (eqb-true k x t)

-- the page's frame becomes clean where it stands
module _ (es : Entries) (k : ℕ) (f : Frame) (at : frame_at es k ≡ Some f) where
  cleaned : Entries
  cleaned = set_value (nat_eq k) es (record { bytes = f.bytes; is_dirty = false })

  cleaned_at : (i : ℕ) → frame_at cleaned i ≡ cond (nat_eq k i) (Some (record { bytes = f.bytes; is_dirty = false })) (frame_at es i)
  unfolding cleaned
  cleaned_at i = lookup-set_value nat_eq_equiv (nat_eq k) (eqb-same k) i (record { bytes = f.bytes; is_dirty = false }) es (ap is_some at)

  here_at : frame_at cleaned k ≡ Some (record { bytes = f.bytes; is_dirty = false })
  here_at = cleaned_at k ∙ ap (λ b. cond b (Some (record { bytes = f.bytes; is_dirty = false })) (frame_at es k)) (eq-eqb k k refl)

  other_at : (i : ℕ) → i ≢ k → frame_at cleaned i ≡ frame_at es i
  other_at i ne = cleaned_at i ∙ ap (λ b. cond b (Some (record { bytes = f.bytes; is_dirty = false })) (frame_at es i)) (ne_eqb k i (λ e. ne (sym e)))

  pub below_clean : (n : ℕ) → AreBelow n es → AreBelow n (set_value (nat_eq k) es (record { bytes = f.bytes; is_dirty = false }))
  unfolding cleaned
  below_clean n below = record {
    each = λ i g is. elim (cases_eq i k) [
      | inl same ↦ subst (λ j. (1 ≤ j) × (j < n)) (sym same) (below.each k f at)
      | inr ne ↦ below.each i g (sym (other_at i ne) ∙ is)
    ];
  }

  over_clean : (pages : Pages) (i : ℕ) → page_over cleaned pages i ≡ page_over es pages i
  over_clean pages i = elim (cases_eq i k) [
    | inl same ↦
        let new : frame_at cleaned i ≡ Some (record { bytes = f.bytes; is_dirty = false }) =
        subst (λ j. frame_at cleaned j ≡ Some (record { bytes = f.bytes; is_dirty = false })) (sym same) here_at in
        let old : frame_at es i ≡ Some f = subst (λ j. frame_at es j ≡ Some f) (sym same) at in
        ap (bytes_or (get_or pages i [])) new ∙ sym (ap (bytes_or (get_or pages i [])) old)
    | inr ne ↦ ap (bytes_or (get_or pages i [])) (other_at i ne)
  ]

  pub bytes_clean : (i : ℕ) → bytes_or [] (frame_at (set_value (nat_eq k) es (record { bytes = f.bytes; is_dirty = false })) i) ≡ bytes_or [] (frame_at es i)
  unfolding cleaned
  bytes_clean i = elim (cases_eq i k) [
    | inl same ↦
        let new : frame_at cleaned i ≡ Some (record { bytes = f.bytes; is_dirty = false }) =
        subst (λ j. frame_at cleaned j ≡ Some (record { bytes = f.bytes; is_dirty = false })) (sym same) here_at in
        let old : frame_at es i ≡ Some f = subst (λ j. frame_at es j ≡ Some f) (sym same) at in
        ap (bytes_or []) new ∙ sym (ap (bytes_or []) old)
    | inr ne ↦ ap (bytes_or []) (other_at i ne)
  ]

  is_clean : (pages : Pages) → f.bytes ≡ get_or pages k [] → IsClean es pages → IsClean cleaned pages
  is_clean pages fresh clean = record {
    each = λ i g is none. elim (cases_eq i k) [
      | inl same ↦
          let now : Some (record { bytes = f.bytes; is_dirty = false }) ≡ Some g = sym here_at ∙ subst (λ j. frame_at cleaned j ≡ Some g) same is in
          let bytes : f.bytes ≡ g.bytes = ap (bytes_or []) now in
          sym bytes ∙ fresh ∙ ap (λ j. get_or pages j []) (sym same)
      | inr ne ↦ clean.each i g (sym (other_at i ne) ∙ is) none
    ];
  }

  keeps_clean : (n : ℕ) (c : List Bool) (t : Tale) → IsWork n es c t → f.bytes ≡ get_or (work t n c) k [] → KeepsWork n es cleaned c c t t
  keeps_clean n c t is fresh = record {
    is = record { idle = is.idle; clean = is_clean (work t n c) fresh is.clean };
    home = refl;
    pages = over_clean (work t n c);
    tries = tries_none t;
    since = since_here t (HasHome n (published t n)) (idle_leaves n c t is.idle);
  }

  pub marked_clean : (c : List Bool) → is_changed c k ≡ true → f.is_dirty ≡ true → (i : ℕ)
      → is_marked (set_value (nat_eq k) es (record { bytes = f.bytes; is_dirty = false })) c i ≡ is_marked es c i
  unfolding cleaned
  marked_clean c bit dirty i = elim (cases_eq i k) [
    | inl same ↦
        let new : frame_at cleaned i ≡ Some (record { bytes = f.bytes; is_dirty = false }) =
        subst (λ j. frame_at cleaned j ≡ Some (record { bytes = f.bytes; is_dirty = false })) (sym same) here_at in
        let old : frame_at es i ≡ Some f = subst (λ j. frame_at es j ≡ Some f) (sym same) at in
        ap (λ o. has_dirt o || is_changed c i) new
        ∙ ap (is_changed c) same ∙ bit
        ∙ sym (ap (λ o. has_dirt o || is_changed c i) old ∙ ap (λ b. b || is_changed c i) dirty)
    | inr ne ↦ ap (λ o. has_dirt o || is_changed c i) (other_at i ne)
  ]

  pub clean_here : is_dirty (set_value (nat_eq k) es (record { bytes = f.bytes; is_dirty = false })) k ≡ false
  unfolding cleaned
  clean_here = ap has_dirt here_at

  pub clean_other : (i : ℕ) → i ≢ k → is_dirty (set_value (nat_eq k) es (record { bytes = f.bytes; is_dirty = false })) i ≡ is_dirty es i
  unfolding cleaned
  clean_other i ne = ap has_dirt (other_at i ne)

  pub keeps_drained : (n : ℕ) (c d : List Bool) (o t : Tale) → KeepsWork n es es c d o t → f.bytes ≡ get_or (work t n d) k []
      → KeepsWork n es (set_value (nat_eq k) es (record { bytes = f.bytes; is_dirty = false })) c d o t
  unfolding cleaned
  keeps_drained n c d o t keeps fresh = keeps_then n es es cleaned c d d o t t keeps (keeps_clean n d t keeps.is fresh)

dirt_of : (o : Option Frame) → ((f : Frame) → o ≡ Some f → ⊥) → has_dirt o ≡ false
dirt_of None never = refl
dirt_of (Some f) never = absurd (never f refl)

-- ---- no write

pub goes_no_write : (P : Tale → Type 0) (o : Option Tale) → IfSome o P → Goes (Writing 0) o o
goes_no_write P None h = tt
goes_no_write P (Some t) h = writing_none t

-- ---- how many are dirty

-- the count with one more in front
pub count_first : (b : Bool) (x : ℕ) (xs : List ℕ) → length (cond b (x ∷ xs) xs) ≡ cond {A = ℕ} b 1 0 + length xs
count_first true x xs = omega arith
count_first false x xs = omega arith

-- the count of one number more, which is the last
pub count_next : (f : ℕ → Bool) (a n : ℕ) → length (filter f (range_with_len a (suc n))) ≡ length (filter f (range_with_len a n)) + cond {A = ℕ} (f (a + n)) 1 0
count_next f a zero = count_first (f a) a [] ∙ ap (λ i. cond {A = ℕ} (f i) 1 0 + 0) (sym (add-zero a)) ∙ omega arith
count_next f a (suc n) =
    let left = count_first (f a) a (filter f (range_with_len (a + 1) (suc n))) in
    let right = count_first (f a) a (filter f (range_with_len (a + 1) n)) in
    let on = count_next f (a + 1) n in
    let same : cond {A = ℕ} (f (a + 1 + n)) 1 0 ≡ cond {A = ℕ} (f (a + suc n)) 1 0 = ap (λ i. cond {A = ℕ} (f i) 1 0) (omega arith) in
    omega (arith, left, right, on, same)

-- the count up to a page, and with it
pub count_page : (f : ℕ → Bool) (page : ℕ) → 1 ≤ page
    → length (filter f (range_with_len 1 (page + 1 - 1))) ≡ length (filter f (range_with_len 1 (page - 1))) + cond {A = ℕ} (f page) 1 0
count_page f page some =
    let back : page + 1 - 1 ≡ suc (page - 1) = omega arith in
    let here : 1 + (page - 1) ≡ page = omega arith in
    ap (λ k. length (filter f (range_with_len 1 k))) back ∙ count_next f 1 (page - 1)
    ∙ ap (λ i. length (filter f (range_with_len 1 (page - 1))) + cond {A = ℕ} (f i) 1 0) here

count_front : (f : ℕ → Bool) (a m d : ℕ) → length (filter f (range_with_len a m)) ≤ length (filter f (range_with_len a (m + d)))
count_front f a m zero = subst (λ k. length (filter f (range_with_len a m)) ≤ length (filter f (range_with_len a k))) (sym (add-zero m)) (omega arith)
count_front f a m (suc d) =
    let on = count_front f a m d in
    let step = ap (λ k. length (filter f (range_with_len a k))) (add-suc m d) ∙ count_next f a (m + d) in
    omega (arith, on, step)

pub count_upto : (f : ℕ → Bool) (a m n : ℕ) → m ≤ n → length (filter f (range_with_len a m)) ≤ length (filter f (range_with_len a n))
count_upto f a m n le =
    let d = n - m in
    let e : m + d ≡ n = omega (arith, le) in
    subst (λ k. length (filter f (range_with_len a m)) ≤ length (filter f (range_with_len a k))) e (count_front f a m d)

pub no_zero : (n : ℕ) (es : Entries) → AreBelow n es → (i : ℕ) → i < 1 → is_dirty es i ≡ false
no_zero n es below i lt = dirt_of (frame_at es i) (λ f is. absurd (omega (arith, lt, (below.each i f is).0)))

pub none_past : (n : ℕ) (es : Entries) → AreBelow n es → (i : ℕ) → n ≤ i → is_dirty es i ≡ false
none_past n es below i le = dirt_of (frame_at es i) (λ f is. absurd (omega (arith, le, (below.each i f is).1)))

pub goes_drained : (n m : ℕ) (e1 e2 e3 : Entries) (c1 c2 c3 : List Bool) (a b d : Option Tale) → m ≡ n → Goes (KeepsWork n e1 e2 c1 c2) a b
    → Goes (KeepsWork m e2 e3 c2 c3) b d → Goes (KeepsWork n e1 e3 c1 c3) a d
goes_drained n m e1 e2 e3 c1 c2 c3 a b d same p q =
    goes_then (KeepsWork n e1 e2 c1 c2) (KeepsWork n e2 e3 c2 c3) (KeepsWork n e1 e3 c1 c3) a b d p (subst (λ k. Goes (KeepsWork k e2 e3 c2 c3) b d) same q)
    (keeps_then n e1 e2 e3 c1 c2 c3)

pub goes_written_too : (j k l : ℕ) (a b d : Option Tale) → j + k ≤ l → Goes (Writing j) a b → Goes (Writing k) b d → Goes (Writing l) a d
goes_written_too j k l a b d le p q =
    goes_then (Writing j) (Writing k) (Writing l) a b d p q (λ o m t x y. writing_more (j + k) l o t le (writing_both j k o m t x y))

-- the count up to a page, where none is dirty in between
count_gap : (f : ℕ → Bool) (d from : ℕ) → 1 ≤ from → ((i : ℕ) → from ≤ i → i < from + d → f i ≡ false)
    → length (filter f (range_with_len 1 (from + d - 1))) ≡ length (filter f (range_with_len 1 (from - 1)))
count_gap f zero from some none = ap (λ k. length (filter f (range_with_len 1 (k - 1)))) (add-zero from)
count_gap f (suc d) from some none =
    let on = count_gap f d from some (λ i le lt. none i le (omega (arith, lt))) in
    let step = count_page f (from + d) (omega (arith, some)) in
    let clear : cond {A = ℕ} (f (from + d)) 1 0 ≡ 0 = ap (λ b. cond {A = ℕ} b 1 0) (none (from + d) (omega arith) (omega arith)) in
    let same : from + suc d ≡ from + d + 1 = omega arith in
    ap (λ k. length (filter f (range_with_len 1 (k - 1)))) same ∙ omega (arith, on, step, clear)

pub count_to : (f : ℕ → Bool) (from page : ℕ) → 1 ≤ from → from ≤ page → ((i : ℕ) → from ≤ i → i < page → f i ≡ false)
    → length (filter f (range_with_len 1 (page - 1))) ≡ length (filter f (range_with_len 1 (from - 1)))
count_to f from page some le none =
    let same : from + (page - from) ≡ page = omega (arith, le) in
    subst (λ k. length (filter f (range_with_len 1 (k - 1))) ≡ length (filter f (range_with_len 1 (from - 1)))) same
    (count_gap f (page - from) from some (λ i low lt. none i low (omega (arith, lt, le))))
