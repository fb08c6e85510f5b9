-- What the descent keeps: the segments found and the blocks that wait stand for all segments that meet a window.
use Rattle.std.proofs.Common.{◌≡◌, ℕ, ◌+◌, ◌*◌, ◌<◌, ◌≤◌, true, false, ◌⊎◌, inl, inr, ⊎_elim, List, [], ◌∷◌, ◌++◌, Option, Some, None, IfSome, fold, filter}
use Rattle.std.proofs.Common.{length, All, Contains, eqb, true≢false, zero, suc, refl, sym, subst, arith}
use Rattle.std.specs.Ordering.{nat_cmp}
use Rattle.std.specs.List.Sorted.{IsStrictlySortedBy}
use Rattle.std.specs.Map.{keys_of}
use Rattle.std.specs.FinMap as finmap
use Rattle.std.proofs.lemmas.List.Sorted.{IsPermutation-refl}
use Rattle.std.proofs.lemmas.List.Elements.{Contains-append_left, Contains-append_right, Contains-append_cases}
use Rattle.quilt_types.specs.declared.plane.Block.{Block}
use Rattle.quilt_types.specs.declared.plane.Pixel.{Pixel}
use Rattle.quilt_types.specs.declared.plane.Seg.{Seg}
use Rattle.quilt_types.specs.declared.plane.Window.{Window}
use Rattle.quilt_types.specs.Plane.{quarters_of, whole, is_window, Holds, IsBlock}
use Rattle.quilt_types.specs.Segments.{meets, square}
use Rattle.quilt_types.specs.Quadtrees.{reach, is_reached}
use Rattle.quilt_world.specs.Tale.{Goes}
use Rattle.quilt_loc.proofs.Members.{Contains-nil, Contains-here, Contains-there, Contains-cons_cases, Contains-map, Contains-map_from, Contains-filter}
use Rattle.quilt_loc.proofs.Members.{Contains-filter_from}
use Rattle.quilt_loc.proofs.Nesting.{side_pos}
use Rattle.quilt_loc.proofs.Quartered.{IsBlock-whole, Holds-whole, quarters_are}
use Rattle.quilt_near.specs.Lines.{Lines, IsLines}
use Rattle.quilt_near.specs.Parts.{IsPart, PartFits}
use Rattle.quilt_near.specs.declared.part.Part.{Part}
use Rattle.quilt_near.specs.declared.part.Part.TheVariants.{Split, Leaf}
use Rattle.quilt_near.proofs.Reached.{All-at, list_any-true, list_any-from, quarter_holding, reached_whole, reached_quarter}
use Rattle.quilt_near.proofs.Owing.{owed, owed_first, owed_left, owed_leaf, owed_split, left, left_leaf, left_split}
use Rattle.quilt_near.proofs.Telling.{tells_same, tells_then, tells_weaker}
use Rattle.quilt_select.specs.Shares.{shares_pixel, holds_any, meets_any}
use Rattle.quilt_select.specs.Descents.{Waiting, quarter_with, four, with_selected, part_pages, AfterDescent, IsBlockVisited, IsWidePart}
use Rattle.quilt_select.proofs.Touching.{IsTouched, touched}
use Rattle.quilt_select.proofs.Gathering.{gathers}
use Rattle.quilt_select.proofs.Filters.{one_each, passing}
use Rattle.quilt_select.proofs.Sharing.{IsInside, window_inside, whole_shares, pixel_shares}

abbrev Found : Type 0
Found = List (ℕ × Seg)

abbrev pub block_of : Waiting → Block
block_of e = e.0

-- some block that waits with the window holds the pixel
pub record IsHeld (stack : List Waiting) (w : Window) (q : Pixel) : Type 0 where
  pub by : Waiting
  pub listed : Contains stack by
  pub holds : Holds by.0 q
  pub with_it : Contains by.1 w

-- Each segment that meets a window is found, or each pixel where it does is held by a block that waits.
pub record Front (ws : List Window) (l : Lines) (stack : List Waiting) (found : Found) : Type 0 where
  pub reached : (e : Waiting) → Contains stack e → is_reached l.cover e.0 ≡ true
  pub real : (z : ℕ × Seg) → Contains found z → Contains (finmap.entries l.segs) z × (meets_any ws z.1 ≡ true)
  pub seen : (z : ℕ × Seg) → Contains (finmap.entries l.segs) z → (w : Window) → Contains ws w → meets z.1 w ≡ true → (q : Pixel) → IsTouched z.1 w q
      → Contains found z ⊎ IsHeld stack w q

-- The loop has come so far: with the reads before it and now, the blocks that wait, and what is found.
pub record Going (n : ℕ) (ws : List Window) (shown : Lines → Type 0) (before now : Option ℕ) (stack : List Waiting) (found : Found) : Type 0 where
  pub valid : (e : Waiting) → Contains stack e → IsBlock n e.0
  pub kept : (e : Waiting) → Contains stack e → (w : Window) → Contains e.1 w → Contains ws w × (shares_pixel e.0 w ≡ true)
  pub front : (l : Lines) → shown l → Front ws l stack found
  pub paid : (l : Lines) → shown l → Goes (λ old new. new + owed block_of n (holds_any ws) l stack ≤ old + reach n l.segs l.cover (holds_any ws)) before now

some_member : {X : Type 0} (xs : List X) → 0 < length xs → (x : X) × Contains xs x
some_member [] lt = absurd (omega arith)
some_member (x ∷ xs) lt = (x, Contains-here x xs)

pub some_length : (k : ℕ) → eqb k 0 ≡ false → 0 < k
some_length zero e = absurd (true≢false e)
some_length (suc k) e = omega arith

-- a block that is cut is no pixel
pub wide_part : (n : ℕ) (b : Block) (part : Part) → PartFits n b part → IsWidePart b part
wide_part n b Split fits = fits
wide_part n b (Leaf list) fits = tt

no_member : {X : Type 0} (xs : List X) (x : X) → length xs ≡ 0 → Contains xs x → ⊥
no_member xs x e c = let lt = c.1 in omega arith

module _ (n : ℕ) (ws : List Window) (inside : All (λ w. is_window n w ≡ true) ws) (shown : Lines → Type 0) (lines : (l : Lines) → shown l
    → IsLines n l) (before : Option ℕ) where
  window : (w : Window) → Contains ws w → IsInside n w
  window w c = window_inside n w (All-at (λ (z : Window). is_window n z ≡ true) ws w inside c)

  only : (P : Waiting → Type 0) (e : Waiting) → P (whole n, ws) → Contains ((whole n, ws) ∷ []) e → P e
  only P e h c = ⊎_elim (λ is. subst P is h) (λ d. absurd (Contains-nil e d)) (Contains-cons_cases (whole n, ws) [] e c)

  first_going : Going n ws shown before before ((whole n, ws) ∷ []) []
  first_going =
      let first : Waiting = (whole n, ws) in
      record {
        valid = λ e c. only (λ (z : Waiting). IsBlock n z.0) e (IsBlock-whole n) c;
        kept = λ e c. only (λ (z : Waiting). (w : Window) → Contains z.1 w → Contains ws w × (shares_pixel z.0 w ≡ true)) e
            (λ w d. (d, whole_shares n w (window w d))) c;
        front = λ l s. record {
          reached = λ e c. only (λ (z : Waiting). is_reached l.cover z.0 ≡ true) e (reached_whole n l (lines l s)) c;
          real = λ z c. absurd (Contains-nil z c);
          seen = λ z c w d met q t.
              let i = window w d in
              let ir = i.right in let ib = i.bottom in
              let tr = t.right in let tb = t.bottom in
              inr (record { by = first; listed = Contains-here first []; holds = Holds-whole n q (omega arith) (omega arith); with_it = d });
        };
        paid = λ l s. tells_same (λ old new. new + owed block_of n (holds_any ws) l (first ∷ []) ≤ old + reach n l.segs l.cover (holds_any ws))
            (λ x. let o = owed_first block_of n (holds_any ws) l first (first ∷ []) refl (IsPermutation-refl (first ∷ [])) in omega arith) before;
      }

  pub going_start : (stack : List Waiting) (found : Found) (b : Block) (near : List Window) (old : List Waiting) → b ≡ whole n → near ≡ ws → old ≡ []
      → stack ≡ (b, near) ∷ old → found ≡ [] → Going n ws shown before before stack found
  going_start stack found b near old eb en eo es ef =
      subst (λ (t : Found). Going n ws shown before before stack t) (sym ef)
      (subst (λ (t : List Waiting). Going n ws shown before before t []) (sym es)
      (subst (λ (c : Block). Going n ws shown before before ((c, near) ∷ old) []) (sym eb)
      (subst (λ (t : List Window). Going n ws shown before before ((whole n, t) ∷ old) []) (sym en)
      (subst (λ (t : List Waiting). Going n ws shown before before ((whole n, ws) ∷ t) []) (sym eo) first_going))))

  -- a block came out
  module _ (mid : Option ℕ) (stack : List Waiting) (e : Waiting) (rest : List Waiting) (was : Found) (given : Going n ws shown before mid stack was)
      (taken : stack ≡ e ∷ rest) where
    g : Going n ws shown before mid (e ∷ rest) was
    g = subst (λ (t : List Waiting). Going n ws shown before mid t was) taken given

    pub first_valid : IsBlock n e.0
    first_valid = g.valid e (Contains-here e rest)

    pub first_reached : (l : Lines) → shown l → is_reached l.cover e.0 ≡ true
    first_reached l s = (g.front l s).reached e (Contains-here e rest)

    passes : 0 < length e.1 → holds_any ws e.0 ≡ true
    passes some =
        let m = some_member e.1 some in
        let k = g.kept e (Contains-here e rest) m.0 m.1 in
        list_any-true (shares_pixel e.0) ws m.0 k.0 k.1

    near_any : (z : ℕ × Seg) → meets_any e.1 z.1 ≡ true → meets_any ws z.1 ≡ true
    near_any z h =
        let m = list_any-from (meets z.1) e.1 h in
        list_any-true (meets z.1) ws m.0 (g.kept e (Contains-here e rest) m.0 m.1).0 m.2

    -- and was not opened
    skipped : (now : Option ℕ) → length e.1 ≡ 0 → Goes (λ x y. y ≤ x + 0) mid now → Going n ws shown before now rest was
    skipped now none reads = record {
      valid = λ z c. g.valid z (Contains-there e rest z c);
      kept = λ z c. g.kept z (Contains-there e rest z c);
      front = λ l s.
          let f = g.front l s in
          record {
            reached = λ z c. f.reached z (Contains-there e rest z c);
            real = f.real;
            seen = λ z c w d met q t. ⊎_elim (λ k. inl k)
                (λ held. ⊎_elim
                (λ is. absurd (no_member e.1 w none (subst (λ (y : Waiting). Contains y.1 w) (sym is) held.with_it)))
                (λ k. inr (record { by = held.by; listed = k; holds = held.holds; with_it = held.with_it }))
                (Contains-cons_cases e rest held.by held.listed))
                (f.seen z c w d met q t);
          };
      paid = λ l s.
          let less = owed_left block_of n (holds_any ws) l (e ∷ rest) rest e (IsPermutation-refl (e ∷ rest)) in
          tells_then (λ x y. y + owed block_of n (holds_any ws) l (e ∷ rest) ≤ x + reach n l.segs l.cover (holds_any ws)) (λ x y. y ≤ x + 0)
          (λ x y. y + owed block_of n (holds_any ws) l rest ≤ x + reach n l.segs l.cover (holds_any ws)) (λ x y z a b. omega arith) before mid now
          (g.paid l s) reads;
    }

    -- and is one of the layer
    gathered : (now : Option ℕ) (list : Found) → 0 < length e.1 → ((l : Lines) → shown l → IsPart l e.0 (Leaf list))
        → Goes (λ x y. y ≤ x + (12 + 6 * length list)) mid now → Going n ws shown before now rest (fold (with_selected e.1) was list)
    gathered now list some found reads = record {
      valid = λ z c. g.valid z (Contains-there e rest z c);
      kept = λ z c. g.kept z (Contains-there e rest z c);
      front = λ l s.
          let f = g.front l s in
          let es = finmap.entries l.segs in
          let test = λ (z : ℕ × Seg). meets z.1 (square e.0) in
          let same = (found l s).1 in
          let of_list = λ (z : ℕ × Seg) (c : Contains list z). (Contains-filter_from test es z (subst (λ (t : Found). Contains t z) same c)).0 in
          let more = gathers e.1 es (one_each l.segs) was list of_list (λ z c. (f.real z c).0) in
          record {
            reached = λ z c. f.reached z (Contains-there e rest z c);
            real = λ z c. ⊎_elim (λ k. f.real z k) (λ k. (of_list z k.0, near_any z k.1)) (more.real z c);
            seen = λ z c w d met q t. ⊎_elim (λ k. inl (more.kept z k))
                (λ held. ⊎_elim
                (λ is.
                let at : Holds e.0 q = subst (λ (y : Waiting). Holds y.0 q) (sym is) held.holds in
                let with_it : Contains e.1 w = subst (λ (y : Waiting). Contains y.1 w) (sym is) held.with_it in
                inl (more.here z (subst (λ (u : Found). Contains u z) (sym same) (Contains-filter test es z c (t.each e.0 at)))
                (list_any-true (meets z.1) e.1 w with_it met)))
                (λ k. inr (record { by = held.by; listed = k; holds = held.holds; with_it = held.with_it }))
                (Contains-cons_cases e rest held.by held.listed))
                (f.seen z c w d met q t);
          };
      paid = λ l s.
          let less = owed_leaf block_of n (holds_any ws) l (e ∷ rest) rest e (IsPermutation-refl (e ∷ rest)) first_valid (first_reached l s)
          (passes some) list (found l s).0 (found l s).1 in
          tells_then (λ x y. y + owed block_of n (holds_any ws) l (e ∷ rest) ≤ x + reach n l.segs l.cover (holds_any ws))
          (λ x y. y ≤ x + (12 + 6 * length list))
          (λ x y. y + owed block_of n (holds_any ws) l rest ≤ x + reach n l.segs l.cover (holds_any ws)) (λ x y z a b. omega arith) before mid now
          (g.paid l s) reads;
    }

    -- and is cut further
    divided : (now : Option ℕ) → 0 < length e.1 → 1 < e.0.side → ((l : Lines) → shown l → IsPart l e.0 Split) → Goes (λ x y. y ≤ x + 12) mid now
        → Going n ws shown before now (four e.0 e.1 ++ rest) was
    divided now some wide found reads =
        let b = e.0 in
        let near = e.1 in
        let part = λ (z : Waiting) (c : Contains (four b near) z). Contains-map_from (quarter_with near) (quarters_of b) z c in
        record {
          valid = λ z c. ⊎_elim
              (λ d. let m = part z d in subst (λ (t : Waiting). IsBlock n t.0) m.2 (quarters_are n b m.0 first_valid wide m.1).block)
              (λ d. g.valid z (Contains-there e rest z d)) (Contains-append_cases (four b near) rest z c);
          kept = λ z c. ⊎_elim
              (λ d.
              let m = part z d in
              subst (λ (t : Waiting). (w : Window) → Contains t.1 w → Contains ws w × (shares_pixel t.0 w ≡ true)) m.2
              (λ w k. let r = Contains-filter_from (shares_pixel m.0) near w k in ((g.kept e (Contains-here e rest) w r.0).0, r.1)))
              (λ d. g.kept z (Contains-there e rest z d)) (Contains-append_cases (four b near) rest z c);
          front = λ l s.
              let f = g.front l s in
              record {
                reached = λ z c. ⊎_elim
                    (λ d. let m = part z d in
                    subst (λ (t : Waiting). is_reached l.cover t.0 ≡ true) m.2
                    (reached_quarter n l (lines l s) b m.0 first_valid wide (first_reached l s) (found l s) m.1))
                    (λ d. f.reached z (Contains-there e rest z d)) (Contains-append_cases (four b near) rest z c);
                real = f.real;
                seen = λ z c w d met q t. ⊎_elim (λ k. inl k)
                    (λ held. ⊎_elim
                    (λ is.
                    let at : Holds b q = subst (λ (y : Waiting). Holds y.0 q) (sym is) held.holds in
                    let with_it : Contains near w = subst (λ (y : Waiting). Contains y.1 w) (sym is) held.with_it in
                    let r = quarter_holding n b q first_valid wide at in
                    inr (record {
                      by = quarter_with near r.0;
                      listed = Contains-append_left (four b near) rest (quarter_with near r.0) (Contains-map (quarter_with near) (quarters_of b) r.0 r.1);
                      holds = r.2;
                      with_it = Contains-filter (shares_pixel r.0) near w with_it (pixel_shares z.1 r.0 w q r.2 t);
                    }))
                    (λ k. inr (record {
                      by = held.by;
                      listed = Contains-append_right (four b near) rest held.by k;
                      holds = held.holds;
                      with_it = held.with_it;
                    }))
                    (Contains-cons_cases e rest held.by held.listed))
                    (f.seen z c w d met q t);
              };
          paid = λ l s.
              let less = owed_split block_of n (holds_any ws) l (e ∷ rest) rest e (IsPermutation-refl (e ∷ rest)) first_valid (first_reached l s)
              (passes some) (four b near) (four b near ++ rest) wide (found l s) refl (IsPermutation-refl (four b near ++ rest)) in
              tells_then (λ x y. y + owed block_of n (holds_any ws) l (e ∷ rest) ≤ x + reach n l.segs l.cover (holds_any ws)) (λ x y. y ≤ x + 12)
              (λ x y. y + owed block_of n (holds_any ws) l (four b near ++ rest) ≤ x + reach n l.segs l.cover (holds_any ws))
              (λ x y z a b. omega arith) before mid now (g.paid l s) reads;
        }

    by_part : (now : Option ℕ) (new : List Waiting) (then : Found) (part : Option Part) → ((l : Lines) → shown l → IfSome part (IsPart l e.0))
        → AfterDescent e.0 e.1 part rest new was then
        → Goes (λ x y. y ≤ x + part_pages part) mid now → Going n ws shown before now new then
    by_part now new then None found after reads =
        subst (λ (t : List Waiting). Going n ws shown before now t then) (sym after.1)
        (subst (Going n ws shown before now rest) (sym after.2) (skipped now after.0 reads))
    by_part now new then (Some (Leaf list)) found after reads =
        subst (λ (t : List Waiting). Going n ws shown before now t then) (sym after.1)
        (subst (Going n ws shown before now rest) (sym after.2) (gathered now list after.0 found reads))
    by_part now new then (Some Split) found after reads =
        subst (λ (t : List Waiting). Going n ws shown before now t then) (sym after.2)
        (subst (Going n ws shown before now (four e.0 e.1 ++ rest)) (sym after.3) (divided now after.0 after.1 found reads))

    pub going_on : (now : Option ℕ) (new : List Waiting) (then : Found) (shown' : Lines → Type 0) → ((l : Lines) → shown l → shown' l)
        → IsBlockVisited e.0 e.1 shown' rest new was then mid now → Going n ws shown before now new then
    going_on now new then shown' still o = by_part now new then o.part (λ l s. o.found l (still l s)) o.after o.reads

    left_by_part : (new : List Waiting) (then : Found) (part : Option Part) → AfterDescent e.0 e.1 part rest new was then
        → left block_of new < left block_of (e ∷ rest)
    left_by_part new then None after =
        subst (λ (t : List Waiting). left block_of t < left block_of (e ∷ rest)) (sym after.1)
        (left_leaf block_of (e ∷ rest) rest e (IsPermutation-refl (e ∷ rest)) (side_pos n e.0 first_valid))
    left_by_part new then (Some (Leaf list)) after =
        subst (λ (t : List Waiting). left block_of t < left block_of (e ∷ rest)) (sym after.1)
        (left_leaf block_of (e ∷ rest) rest e (IsPermutation-refl (e ∷ rest)) (side_pos n e.0 first_valid))
    left_by_part new then (Some Split) after =
        subst (λ (t : List Waiting). left block_of t < left block_of (e ∷ rest)) (sym after.2)
        (left_split block_of (e ∷ rest) rest (four e.0 e.1 ++ rest) (four e.0 e.1) e (IsPermutation-refl (e ∷ rest)) after.1 refl
        (IsPermutation-refl (four e.0 e.1 ++ rest)))

    pub less_left : (now : Option ℕ) (new : List Waiting) (then : Found) (shown' : Lines → Type 0) → IsBlockVisited e.0 e.1 shown' rest new was
        then mid now → left block_of new < left block_of stack
    less_left now new then shown' o = subst (λ (t : List Waiting). left block_of new < left block_of t) (sym taken) (left_by_part new then o.part o.after)

  -- Nothing waits.
  at_end : (now : Option ℕ) (found : Found) → Going n ws shown before now [] found → IsStrictlySortedBy nat_cmp (keys_of found) → (l : Lines)
      → shown l → found ≡ filter (λ e. meets_any ws e.1) (finmap.entries l.segs)
  at_end now found g order l s =
      let f = g.front l s in
      let es = finmap.entries l.segs in
      let test = λ (e : ℕ × Seg). meets_any ws e.1 in
      passing l.segs test found order
      (λ z. (
        λ c. let r = f.real z c in Contains-filter test es z r.0 r.1,
        λ c.
            let r = Contains-filter_from test es z c in
            let m = list_any-from (meets z.1) ws r.1 in
            let i = window m.0 m.1 in
            let at = touched z.1 m.0 i.wide i.high m.2 in
            ⊎_elim (λ k. k) (λ held. absurd (Contains-nil held.by held.listed)) (f.seen z r.0 m.0 m.1 m.2 at.0 at.1),
      ))

  pub going_end : (now : Option ℕ) (stack : List Waiting) (found list : Found) → Going n ws shown before now stack found → stack ≡ [] → list ≡ found
      → IsStrictlySortedBy nat_cmp (keys_of found) → (l : Lines) → shown l
      → list ≡ filter (λ e. meets_any ws e.1) (finmap.entries l.segs)
  going_end now stack found list g e same order l s =
      subst (λ (t : Found). t ≡ filter (λ e. meets_any ws e.1) (finmap.entries l.segs)) (sym same)
      (at_end now found (subst (λ (t : List Waiting). Going n ws shown before now t found) e g) order l s)

  pub going_reads : (now : Option ℕ) (stack : List Waiting) (found : Found) → Going n ws shown before now stack found → (l : Lines) → shown l
      → Goes (λ old new. new ≤ old + reach n l.segs l.cover (holds_any ws)) before now
  going_reads now stack found g l s =
      tells_weaker (λ x y. y + owed block_of n (holds_any ws) l stack ≤ x + reach n l.segs l.cover (holds_any ws))
      (λ x y. y ≤ x + reach n l.segs l.cover (holds_any ws)) (λ x y a. omega arith) before now (g.paid l s)
