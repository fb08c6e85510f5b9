-- A page that is written piece behind piece.
use Rattle.std.proofs.Common.{◌≡◌, ◌⊎◌, inl, inr, ℕ, ◌+◌, ◌-◌, ◌*◌, ◌<◌, ◌≤◌, Bool, List, [], ◌∷◌, ◌++◌, length, take, drop, slice_range, refl, sym, ◌∙◌, ap, subst, arith, add-zero, le_refl}
use Rattle.std.proofs.lemmas.Bool.{cases_lt}
use Rattle.std.proofs.lemmas.List.{length-append, length-take, length-take-le, length-drop, take_rest, take-take, drop-take, drop-drop, drop_at, take-append-le, take_all}
use Rattle.std.proofs.lemmas.Slice.{take-put_mid_below}
use borrow.Rule.Slice.PartMut.{put_mid, post_of}
use Rattle.std.proofs.Math.Seq.{take-add, take-length}
use Rattle.quilt_world.specs.Disk.{Log}
use Rattle.quilt_world.specs.declared.event.Event.TheVariants as events
use Rattle.quilt_host.specs.declared.act.Act.{Act}
use Rattle.quilt_host.specs.declared.act.Act.TheVariants.{Wrote, Lost}
use Rattle.quilt_host.specs.Story.{Story}
use Rattle.quilt_host.specs.Bytes.{patched, page_at}
use Rattle.quilt_host.specs.Acts.{Draft, drafted, closed, fronted, drafted_after, draft_of, log_of}
use Rattle.quilt_host.specs.Calls.{WritesBytes, Loses}
use Rattle.quilt_host.specs.Paging.{KeepsRest, WritesPage, TearsPage}
use Rattle.quilt_host.proofs.ByteLaws.{overlaid-overlaid}
use Rattle.quilt_host.proofs.DraftLaws.{closed_some, fronted_part, fronted_whole, closed_drafted, after_first, after_next, after_lost_first, after_lost_next}

-- the front of a page, so many bytes, is written
pub record Begun (i : ℕ) (page : List ℕ) (done : ℕ) (old new : Story) : Type 0 where
  pub rest : KeepsRest old new
  pub bytes : new.bytes ≡ patched old.bytes (i * 4096) (take done page)
  pub draft : draft_of new.acts ≡ fronted i (take done page) (log_of old.acts)
  pub owes : new.owes ≡ old.owes

-- nothing is written yet, or a front
pub record Writing (i : ℕ) (page : List ℕ) (done : ℕ) (old new : Story) : Type 0 where
  pub none : done ≡ 0 → new ≡ old
  pub some : 0 < done → Begun i page done old new

pub writing_none : (i : ℕ) (page : List ℕ) (s : Story) → Writing i page 0 s s
writing_none i page s = record { none = λ zero. refl; some = λ some. absurd (omega arith) }

pub same_rest : (s : Story) → KeepsRest s s
same_rest s = record { words = refl; path = refl; was_there = refl; is_there = refl; settled = refl; input = refl; said = refl; says = refl }

-- what is left of the page, and a piece of it
pub left_of : (page : List ℕ) (done : ℕ) → slice_range page done (length page) ≡ drop done page
left_of page done = take_rest page done

pub room_of : (page : List ℕ) (done : ℕ) → length (slice_range page done (length page)) ≡ length page - done
room_of page done = ap length (left_of page done) ∙ length-drop done page

module _ (i : ℕ) (page : List ℕ) (size : length page ≡ 4096) where
  first_piece : (n : ℕ) → n ≤ 4096 → (old new : Story) → WritesBytes (i * 4096) (take n page) old new → Begun i page n old new
  first_piece n few old new w =
      let at : Story = record old { bytes = patched old.bytes (i * 4096) (take n page); acts = Wrote (i * 4096) (take n page) ∷ old.acts } in
      subst (λ (u : Story). Begun i page n old u) (sym w)
      (record {
        rest = record { words = refl; path = refl; was_there = refl; is_there = refl; settled = refl; input = refl; said = refl; says = refl };
        bytes = refl;
        draft = after_first (draft_of old.acts) i (take n page) (omega (arith, length-take n page));
        owes = refl;
      })

  next_piece : (done n : ℕ) → 0 < done → done < 4096 → done + n ≤ 4096 → (old mid new : Story) → Begun i page done old mid
      → WritesBytes (i * 4096 + done) (take n (drop done page)) mid new → Begun i page (done + n) old new
  next_piece done n some few fits old mid new b w =
      let x = take n (drop done page) in
      let joined : take done page ++ x ≡ take (done + n) page = sym (take-add done n page) in
      let len : length (take done page) ≡ done = omega (arith, length-take done page) in
      let short : length x ≤ n = omega (arith, length-take n (drop done page)) in
      subst (λ (u : Story). Begun i page (done + n) old u) (sym w)
      (record {
        rest = record {
          words = b.rest.words;
          path = b.rest.path;
          was_there = b.rest.was_there;
          is_there = b.rest.is_there;
          settled = b.rest.settled;
          input = b.rest.input;
          said = b.rest.said;
          says = b.rest.says;
        };
        bytes =
            ap (λ f. patched f (i * 4096 + done) x) b.bytes
            ∙ overlaid-overlaid old.bytes (i * 4096) (take done page) (i * 4096 + done) x (omega arith)
            ∙ ap (patched old.bytes (i * 4096)) joined;
        draft =
            ap (λ d. drafted_after d (Wrote (i * 4096 + done) x)) (b.draft ∙ fronted_part i (take done page) (log_of old.acts) (omega arith))
            ∙ after_next i done (take done page) x (log_of old.acts) len some few (omega arith)
            ∙ ap (λ l. fronted i l (log_of old.acts)) joined;
        owes = b.owes;
      })

  -- one piece more
  writing_next : (done n : ℕ) → done < 4096 → 0 < n → done + n ≤ 4096 → (old mid new : Story) → Writing i page done old mid
      → WritesBytes (i * 4096 + done) (take n (slice_range page done (length page))) mid new → Writing i page (done + n) old new
  writing_next done n few more fits old mid new w p = elim (cases_lt 0 done) [
    | inl some ↦ record {
      none = λ zero. absurd (omega arith);
      some = λ _. next_piece done n some few fits old mid new (w.some some)
          (subst (λ l. WritesBytes (i * 4096 + done) (take n l) mid new) (left_of page done) p);
    }
    | inr none ↦
        let zero : done ≡ 0 = omega arith in
        let q : WritesBytes (i * 4096 + done) (take n (drop done page)) mid new =
        subst (λ l. WritesBytes (i * 4096 + done) (take n l) mid new) (left_of page done) p in
        let r : WritesBytes (i * 4096 + 0) (take n (drop 0 page)) mid new = subst (λ d. WritesBytes (i * 4096 + d) (take n (drop d page)) mid new) zero q in
        let t : WritesBytes (i * 4096) (take n page) mid new = subst (λ a. WritesBytes a (take n page) mid new) (add-zero (i * 4096)) r in
        let u : WritesBytes (i * 4096) (take n page) old new = subst (λ (m : Story). WritesBytes (i * 4096) (take n page) m new) (w.none zero) t in
        let count : n ≡ done + n = omega arith in
        record {
          none = λ zero. absurd (omega arith);
          some = λ _. subst (λ k. Begun i page k old new) count (first_piece n (omega arith) old new u);
        }
  ]

  pub writing_more : (done n at : ℕ) → done < 4096 → 0 < n → n ≤ length (slice_range page done (length page)) → (old mid new : Story)
      → Writing i page done old mid → WritesBytes at (take n (slice_range page done (length page))) mid new → at ≡ i * 4096 + done
      → Writing i page (done + n) old new
  writing_more done n at few more within old mid new w p is =
      let count : length (slice_range page done (length page)) ≡ 4096 - done =
      ap length (left_of page done) ∙ length-drop done page ∙ ap (λ m. m - done) size in
      writing_next done n few more (omega arith) old mid new w
      (subst (λ a. WritesBytes a (take n (slice_range page done (length page))) mid new) is p)

  -- all pieces
  pub writing_all : (done : ℕ) → done ≡ 4096 → (old new : Story) → Writing i page done old new → WritesPage i page old new
  writing_all done is old new w =
      let b = w.some (omega arith) in
      let whole : take done page ≡ page = ap (λ n. take n page) (is ∙ sym size) ∙ take-length page in
      record {
        rest = b.rest;
        bytes = b.bytes ∙ ap (patched old.bytes (i * 4096)) whole;
        log =
            ap closed (b.draft ∙ ap (λ l. fronted i l (log_of old.acts)) whole ∙ fronted_whole i page (log_of old.acts) size)
            ∙ closed_drafted (log_of old.acts ++ events.Wrote i page ∷ []);
        owes = b.owes;
      }

  -- a piece that is lost
  lost_piece : (done : ℕ) → done < 4096 → (old mid new : Story) → Writing i page done old mid
      → Loses (i * 4096 + done) (length (slice_range page done (length page))) mid new → TearsPage i old new ⊎ (new ≡ old)
  lost_piece done few old mid new w p = inl (elim (cases_lt 0 done) [ inl some ↦ lost_next some | inr none ↦ lost_first (omega arith) ])
    where
      count : length (slice_range page done (length page)) ≡ 4096 - done
      count = ap length (left_of page done) ∙ length-drop done page ∙ ap (λ m. m - done) size

      lost_next : 0 < done → TearsPage i old new
      lost_next some =
          let b = w.some some in
          let len : length (take done page) ≡ done = omega (arith, length-take done page) in
          let n = length (slice_range page done (length page)) in
          subst (λ (u : Story). TearsPage i old u) (sym p.now)
          (record {
            rest = record {
              words = b.rest.words;
              path = b.rest.path;
              was_there = b.rest.was_there;
              is_there = b.rest.is_there;
              settled = b.rest.settled;
              input = b.rest.input;
              said = b.rest.said;
              says = b.rest.says;
            };
            left = take done page ++ p.left;
            few = omega (arith, length-append (take done page) p.left, p.few, count);
            bytes =
                ap (λ f. patched f (i * 4096 + done) p.left) b.bytes
                ∙ overlaid-overlaid old.bytes (i * 4096) (take done page) (i * 4096 + done) p.left (omega arith);
            log =
                ap (λ d. closed (drafted_after d (Lost (i * 4096 + done) n))) (b.draft ∙ fronted_part i (take done page) (log_of old.acts) (omega arith))
                ∙ after_lost_next i done n (take done page) (log_of old.acts) len some few (omega (arith, count)) (omega (arith, count));
            owes = b.owes;
          })

      lost_first : done ≡ 0 → TearsPage i old new
      lost_first zero =
          let n = length (slice_range page done (length page)) in
          let at : i * 4096 + done ≡ i * 4096 = omega arith in
          let start : mid ≡ old = w.none zero in
          let now : new ≡ record old { bytes = patched old.bytes (i * 4096) p.left; acts = Lost (i * 4096) n ∷ old.acts } =
          subst (λ (m : Story). new ≡ record m { bytes = patched m.bytes (i * 4096) p.left; acts = Lost (i * 4096) n ∷ m.acts }) start
          (subst (λ a. new ≡ record mid { bytes = patched mid.bytes a p.left; acts = Lost a n ∷ mid.acts }) at p.now) in
          subst (λ (u : Story). TearsPage i old u) (sym now)
          (record {
            rest = record { words = refl; path = refl; was_there = refl; is_there = refl; settled = refl; input = refl; said = refl; says = refl };
            left = p.left;
            few = omega (arith, p.few, count);
            bytes = refl;
            log = after_lost_first (draft_of old.acts) i n (omega (arith, count)) (omega (arith, count));
            owes = refl;
          })

  -- a front that stays one
  pub writing_stops : (done : ℕ) → done < 4096 → (old new : Story) → Writing i page done old new → TearsPage i old new ⊎ (new ≡ old)
  writing_stops done few old new w = elim (cases_lt 0 done) [
    | inl some ↦
        let b = w.some some in
        let len : length (take done page) ≡ done = omega (arith, length-take done page) in
        let begun : Draft = record { log = log_of old.acts; page = i; front = take done page } in
        inl (record {
          rest = b.rest;
          left = take done page;
          few = omega arith;
          bytes = b.bytes;
          log = ap closed (b.draft ∙ fronted_part i (take done page) (log_of old.acts) (omega arith)) ∙ closed_some begun (omega arith);
          owes = b.owes;
        })
    | inr none ↦ inr (w.none (omega arith))
  ]

  pub writing_lost : (done at : ℕ) → done < 4096 → (old mid new : Story) → Writing i page done old mid
      → (new ≡ mid) ⊎ Loses at (length (slice_range page done (length page))) mid new → at ≡ i * 4096 + done → TearsPage i old new ⊎ (new ≡ old)
  writing_lost done at few old mid new w (inl same) is =
      writing_stops done few old new (subst (λ (u : Story). Writing i page done old u) (sym same) w)
  writing_lost done at few old mid new w (inr p) is =
      lost_piece done few old mid new w (subst (λ a. Loses a (length (slice_range page done (length page))) mid new) is p)

-- ---- reading

page_piece : (bytes : List ℕ) (i done n : ℕ) → done + n ≤ 4096 → take n (drop done (page_at bytes i)) ≡ take n (drop (i * 4096 + done) bytes)
unfolding page_at
page_piece bytes i done n fits = piece 4096 (i * 4096) fits
  where
    piece : (size at : ℕ) → done + n ≤ size → take n (drop done (take size (drop at bytes))) ≡ take n (drop (at + done) bytes)
    piece size at fits =
        let m = size - done in
        let is : size ≡ done + m = omega arith in
        ap (λ k. take n (drop done (take k (drop at bytes)))) is
        ∙ ap (take n) (drop-take done m (drop at bytes))
        ∙ take-take n m (drop done (drop at bytes)) (omega arith)
        ∙ ap (take n) (drop-drop done at bytes)

-- one piece more is read
pub reading_more : (i done n at : ℕ) (into part bytes : List ℕ) → length into ≡ 4096 → done ≤ 4096 → n ≤ length part → length part ≡ length into - done
    → take done into ≡ take done (page_at bytes i) → take n part ≡ take n (drop at bytes) → at ≡ i * 4096 + done
    → take (done + n) (put_mid done (length into - done) into part) ≡ take (done + n) (page_at bytes i)
reading_more i done n at into part bytes size few fits room front piece is =
    let now = put_mid done (length into - done) into part in
    let behind : drop done now ≡ part ++ post_of done (length into - done) into = drop_at (take done into) (part ++ post_of done (length into - done) into) done
    (length-take-le done into (omega arith)) in
    take-add done n now
    ∙ ap (λ l. l ++ take n (drop done now)) (take-put_mid_below done (length into - done) into part done (le_refl done) (omega arith) ∙ front)
    ∙ ap (λ l. take done (page_at bytes i) ++ l)
    (ap (take n) behind ∙ take-append-le n part (post_of done (length into - done) into) fits ∙ piece
    ∙ ap (λ a. take n (drop a bytes)) is ∙ sym (page_piece bytes i done n (omega arith)))
    ∙ sym (take-add done n (page_at bytes i))

-- all pieces are read
pub read_all : (i done : ℕ) (into bytes : List ℕ) → length into ≡ 4096 → done ≡ 4096 → take done into ≡ take done (page_at bytes i) → into ≡ page_at bytes i
unfolding page_at
read_all i done into bytes size is front =
    sym (take_all done into (omega arith)) ∙ front ∙ take_all done (take 4096 (drop (i * 4096) bytes)) (omega (arith, length-take 4096 (drop (i * 4096) bytes)))

pub length-put_mid : (done : ℕ) (into part : List ℕ) (size : ℕ) → length into ≡ size → done ≤ size → length part ≡ length into - done
    → length (put_mid done (length into - done) into part) ≡ size
length-put_mid done into part size is few room = omega (
  arith,
  length-append (take done into) (part ++ post_of done (length into - done) into),
  length-append part (post_of done (length into - done) into),
  length-take done into,
  length-drop (length into - done) (drop done into),
  length-drop done into,
)

-- a read that gives nothing leaves the front
pub read_again : (done : ℕ) (into part page : List ℕ) → length into ≡ 4096 → done ≤ 4096 → take done into ≡ take done page
    → take done (put_mid done (length into - done) into part) ≡ take done page
read_again done into part page size few front =
    take-put_mid_below done (length into - done) into part done (le_refl done) (omega (arith, size)) ∙ front
