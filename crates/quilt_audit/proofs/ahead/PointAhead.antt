-- What has to come behind records that begin those of a point layer.
use Rattle.std.proofs.Common.{◌≡◌, ℕ, ◌+◌, ◌/◌, ◌^◌, ◌<◌, ◌≤◌, ◌⊎◌, Bool, true, List, [], ◌∷◌, ◌++◌, map, length, refl, sym, ◌∙◌, ap, subst, inl, inr, ⊎_elim}
use Rattle.std.proofs.Common.{arith, Contains, filter, leb-true, le-leb}
use Rattle.std.specs.Ordering.{is_le}
use Rattle.std.specs.FinMap as finmap
use Rattle.std.proofs.lemmas.Bool.{cases_lt}
use Rattle.std.proofs.lemmas.List.Sums.{length-filter}
use Rattle.std.proofs.lemmas.List.Elements.{All-contains, Contains-append_left, Contains-append_right, Contains-append_cases}
use Rattle.quilt_types.specs.declared.plane.Block.{Block}
use Rattle.quilt_types.specs.declared.plane.Pixel.{Pixel}
use Rattle.quilt_types.specs.Plane.{corner, whole, in_block, is_pixel, quarters_of, IsBlock}
use Rattle.quilt_types.specs.Layers.{Points, PointMap, IsPointMap}
use Rattle.quilt_types.specs.Facts.{Fact, HoldsPoint, HoldsNoPoint}
use Rattle.quilt_types.specs.Quadtrees.{coloured, occupancy, holds_few}
use Rattle.quilt_loc.specs.Codes.{Rises, code_at, code_from, code_to}
use Rattle.quilt_loc.proofs.Members.{Contains-nil, Contains-here, Contains-there, Contains-cons_cases, Contains-map_from, Contains-filter, Contains-filter_from}
use Rattle.quilt_loc.proofs.Blocks.{Holds-from, in_block-true, side_most}
use Rattle.quilt_loc.proofs.Intervals.{held_code, origin_code, side_squared}
use Rattle.quilt_loc.proofs.Nesting.{side_pos, Holds-corner}
use Rattle.quilt_loc.proofs.Quartered.{IsBlock-whole, quarters_are, side_le}
use Rattle.quilt_record.specs.declared.record.Record.{Record}
use Rattle.quilt_record.specs.Records.{record_of}
use Rattle.quilt_record.specs.Canonical.{FactFits}
use Rattle.quilt_blocks.specs.Cutting.{cut}
use Rattle.quilt_blocks.proofs.Chains.{Follows-member, member_with, member_pos}
use Rattle.quilt_blocks.proofs.Cuts.{Runs, Runs-at, cut_runs}
use Rattle.quilt_blocks.proofs.Maximal.{IsMaximal, IsMaximal-from, Contains-maximal, GoesDown, cut_is}
use Rattle.quilt_spell.specs.Written.{by_key}
use Rattle.quilt_spell.proofs.facts.Decoding.{fact_of, facts_fit}
use Rattle.quilt_spell.proofs.Lists.{Apart-filter, Apart-le}
use Rattle.quilt_spell.proofs.Written.{by_key_total}
use Rattle.quilt_edits.proofs.Keys.{le_code}
use Rattle.quilt_point_laws.proofs.Counts.{entries_apart, few_down, few_pixel}
use Rattle.quilt_point_laws.proofs.LocalFacts.{bare_from}
use Rattle.quilt_point_laws.proofs.Narrowing.{one_maximal}
use Rattle.quilt_point_laws.proofs.OnBlocks.{IsBare, IsOn, OfBlock, on_one, on_from, on_is, fact_from, fact_is}
use Rattle.quilt_audit.specs.declared.tally.Tally.{Tally}
use Rattle.quilt_audit.specs.declared.points.PointRun.{PointRun}
use Rattle.quilt_line_audit.specs.Layers.{SpellsOne}
use Rattle.quilt_audit.specs.Covers.{no_blocks}
use Rattle.quilt_audit.specs.Points.{ArePlaced, IsTallied}
use Rattle.quilt_audit.proofs.Lists.{last_cases, in_front, at_last, below_itself, rises_before, rises_behind}
use Rattle.quilt_audit.proofs.runs.Laid.{quarter_held}
use Rattle.quilt_audit.proofs.Covering.{covers_front, covered_more, block_lies, block_with, last_from}
use Rattle.quilt_audit.proofs.runs.PointSteps.{is_none}

-- ---- facts on a block
pub on_part : (n c k : ℕ) (points : PointMap) (b : Block) (f : Fact) → IsOn points b f → (record_of n c [] k f).key.part ≡ 2
on_part n c k points b (HoldsPoint d p l) o = refl
on_part n c k points b (HoldsNoPoint d) o = refl
on_part n c k points b f o = absurd o

pub on_layer : (n c k : ℕ) (points : PointMap) (b : Block) (f : Fact) → IsOn points b f → (record_of n c [] k f).key.layer ≡ k
on_layer n c k points b (HoldsPoint d p l) o = refl
on_layer n c k points b (HoldsNoPoint d) o = refl
on_layer n c k points b f o = absurd o

pub on_code : (n c k : ℕ) (points : PointMap) (b : Block) (f : Fact) → IsOn points b f → (record_of n c [] k f).key.code ≡ code_from b
on_code n c k points b (HoldsPoint d p l) o = ap (λ (z : Block). code_from z) o.0
on_code n c k points b (HoldsNoPoint d) o = ap (λ (z : Block). code_from z) o.0
on_code n c k points b f o = absurd o

on_fits : (form n c : ℕ) (points : PointMap) → IsPointMap form n c points → (b : Block) → IsBlock n b → (f : Fact) → IsOn points b f → FactFits n f
on_fits form n c points v b hb (HoldsPoint d p l) o = (
  subst (IsBlock n) (sym o.0) hb,
  All-contains (λ (e : Pixel × ℕ). is_pixel n e.0 ≡ true) (finmap.entries points) (p, l) v.inside o.1,
  All-contains (λ (e : Pixel × ℕ). e.1 < 2 ^ 32) (finmap.entries points) (p, l) v.labels o.1,
)
on_fits form n c points v b hb (HoldsNoPoint d) o = subst (IsBlock n) (sym o.0) hb
on_fits form n c points v b hb f o = absurd o

-- a block says something
pub some_on : (points : PointMap) (b : Block) → (f : Fact) × IsOn points b f
some_on points b =
    let test : Pixel × ℕ → Bool = λ e. in_block b e.0 in
    by_case (filter test (finmap.entries points)) refl
  where
    by_case : (es : List (Pixel × ℕ)) → filter (λ e. in_block b e.0) (finmap.entries points) ≡ es → (f : Fact) × IsOn points b f
    by_case [] e =
        let long = length-filter (λ (e : Pixel × ℕ). in_block b e.0) (finmap.entries points) in
        let none = ap length e in
        (HoldsNoPoint b, (refl, bare_from points b (let z : occupancy points b ≡ 0 = sym long ∙ none in z)))
    by_case (x ∷ xs) e =
        let w = Contains-filter_from (λ (e : Pixel × ℕ). in_block b e.0) (finmap.entries points) x
        (subst (λ (l : List (Pixel × ℕ)). Contains l x) (sym e) (Contains-here x xs)) in
        (HoldsPoint b x.0 x.1, (refl, w.0, w.1))

on_cases : (points : PointMap) (b : Block) (f : Fact) → IsOn points b f
    → (f ≡ HoldsNoPoint b) ⊎ ((e : Pixel × ℕ) × Contains (finmap.entries points) e × (in_block b e.0 ≡ true))
on_cases points b (HoldsPoint d p l) o = let e : Pixel × ℕ = (p, l) in inr (e, o.1, o.2)
on_cases points b (HoldsNoPoint d) o = inl (ap HoldsNoPoint o.0)
on_cases points b f o = absurd o

-- where each point of a block is one of other points too
pub counts_le : (points others : PointMap) (w : Block)
    → ((e : Pixel × ℕ) → Contains (finmap.entries points) e → in_block w e.0 ≡ true → Contains (finmap.entries others) e)
    → occupancy points w ≤ occupancy others w
counts_le points others w sub =
    let test : Pixel × ℕ → Bool = λ e. in_block w e.0 in
    let es = finmap.entries points in
    let gs = finmap.entries others in
    let le = Apart-le (filter test es) (filter test gs) (Apart-filter test es (entries_apart points))
    (λ e c. let k = Contains-filter_from test es e c in Contains-filter test gs e (sub e k.0 k.1) k.1) in
    let a = length-filter test es in
    let b = length-filter test gs in
    omega arith

-- and one of those is not
pub counts_less : (points others : PointMap) (w : Block)
    → ((e : Pixel × ℕ) → Contains (finmap.entries points) e → in_block w e.0 ≡ true → Contains (finmap.entries others) e)
    → (x : Pixel × ℕ) → Contains (finmap.entries others) x → in_block w x.0 ≡ true → (Contains (finmap.entries points) x → ⊥)
    → occupancy points w < occupancy others w
counts_less points others w sub x there on away =
    let test : Pixel × ℕ → Bool = λ e. in_block w e.0 in
    let es = finmap.entries points in
    let gs = finmap.entries others in
    let le = Apart-le (x ∷ filter test es) (filter test gs) (λ c. away (Contains-filter_from test es x c).0, Apart-filter test es (entries_apart points))
    (λ e c. ⊎_elim (λ is. subst (Contains (filter test gs)) is (Contains-filter test gs x there on))
    (λ d. let k = Contains-filter_from test es e d in Contains-filter test gs e (sub e k.0 k.1) k.1) (Contains-cons_cases x (filter test es) e c)) in
    let a = length-filter test es in
    let b = length-filter test gs in
    omega arith

module _ (form n : ℕ) (le : n ≤ 12) (capacity layer : ℕ) (some : 1 ≤ layer) (full : PointMap) (rs ahead : List Record)
    (up : Rises by_key (rs ++ ahead)) (s : SpellsOne form n (rs ++ ahead) layer (Points capacity full)) where
  abbrev rec : Fact → Record
  rec f = record_of n capacity [] layer f

  abbrev fits : Block → Bool
  fits = holds_few capacity full

  goes : GoesDown n fits
  goes = few_down n capacity full

  there : (f : Fact) → OfBlock n capacity full f → Contains (rs ++ ahead) (rec f)
  there f h = ⊎_elim (λ k. absurd (subst (IsOn full h.block) k h.on)) (λ d. d) (s.each f (fact_is n capacity full f h))

  pub from_record : (r : Record) → Contains (rs ++ ahead) r → r.key.layer ≡ layer → (f : Fact) × OfBlock n capacity full f × (rec f ≡ r)
  from_record r c is =
      let w = s.only r c is in
      ⊎_elim
      (λ k. let z : 0 ≡ layer = sym (ap (λ (f : Fact). (rec f).key.layer) k) ∙ ap (λ (q : Record). q.key.layer) w.2 ∙ is in absurd (omega arith))
      (λ o. (w.0, o, w.2)) (fact_from n capacity full w.0 w.1)

  pub of_fits : (f : Fact) → OfBlock n capacity full f → FactFits n f
  of_fits f h = facts_fit n le form (Points capacity full) s.fits f (fact_is n capacity full f h)

  pub not_both : (r : Record) → Contains rs r → Contains ahead r → ⊥
  not_both r c d = below_itself by_key by_key_total r (rises_before by_key rs ahead r r up c d)

  -- a fact that is said by a record that comes is one of the layer
  pub fact_said : (g : Fact) → FactFits n g → (rec g).key.part ≡ 2 → (rec g).key.layer ≡ layer → Contains ahead (rec g) → OfBlock n capacity full g
  fact_said g fit part is c =
      let w = from_record (rec g) (Contains-append_right rs ahead (rec g) c) is in
      let h = w.1 in
      let p = on_part n capacity layer full h.block w.0 h.on in
      let same = fact_of n le capacity capacity layer [] [] w.0 g (of_fits w.0 h) fit (let z : 1 ≤ (rec (w.0)).key.part = omega arith in z) w.2 in
      subst (OfBlock n capacity full) same h

  -- ---- the blocks of the square
  tiles_run : Runs n 0 (4 ^ n) (map (coloured n []) (cut fits n (whole n)))
  tiles_run =
      let q = side_squared n in
      let z = origin_code in
      let same : n ≤ n = omega arith in
      Runs-at n (code_from (whole n)) (code_to (whole n)) 0 (4 ^ n) (map (coloured n []) (cut fits n (whole n)))
      (cut_runs n [] le fits n (whole n) (IsBlock-whole n) refl same) z (omega arith)

  tile_is : (b : Block) → Contains (cut fits n (whole n)) b → IsMaximal n fits b
  tile_is b c = IsMaximal-from n fits b ((cut_is n fits goes (few_pixel n capacity full s.fits.least) b).0 c)

  is_tile : (b : Block) → IsMaximal n fits b → Contains (cut fits n (whole n)) b
  is_tile b g = (cut_is n fits goes (few_pixel n capacity full s.fits.least) b).1 (Contains-maximal n fits b g)

  -- the block that has a code
  tile_with : (k : ℕ) → k < 4 ^ n → (b : Block) × IsMaximal n fits b × (code_from b ≤ k) × (k < code_to b)
  tile_with k lt =
      let r = tiles_run in
      let z = r.size in
      let w = member_with n 0 (map (coloured n []) (cut fits n (whole n))) k r.follows (omega arith) (omega arith) in
      let m = Contains-map_from (coloured n []) (cut fits n (whole n)) w.0 w.1 in
      let e : m.0 ≡ w.0.0 = ap (λ (x : Block × ℕ). x.0) m.2 in
      (m.0, tile_is m.0 m.1, subst (λ (z : Block). code_from z ≤ k) (sym e) w.2, subst (λ (z : Block). k < code_to z) (sym e) w.3)

  tile_end : (b : Block) → IsMaximal n fits b → code_to b ≤ 4 ^ n
  tile_end b g =
      let r = tiles_run in
      let z = r.size in
      let c = is_tile b g in
      let x : Block × ℕ = coloured n [] b in
      let m = Follows-member n 0 (map (coloured n []) (cut fits n (whole n))) x r.follows (there_too b c) in
      let t = m.to in
      omega arith
    where
      use_map : (bs : List Block) (b : Block) → Contains bs b → Contains (map (coloured n []) bs) (coloured n [] b)
      use_map [] b c = absurd (Contains-nil b c)
      use_map (d ∷ bs) b c =
          ⊎_elim (λ is. subst (λ (z : Block). Contains (map (coloured n []) (d ∷ bs)) (coloured n [] z)) is
          (Contains-here (coloured n [] d) (map (coloured n []) bs)))
          (λ m. Contains-there (coloured n [] d) (map (coloured n []) bs) (coloured n [] b) (use_map bs b m)) (Contains-cons_cases d bs b c)

      there_too : (b : Block) → Contains (cut fits n (whole n)) b → Contains (map (coloured n []) (cut fits n (whole n))) (coloured n [] b)
      there_too b c = use_map (cut fits n (whole n)) b c

  -- ---- what is known so far
  module _ (end : ℕ) (bs : List Block) (points : PointMap) (placed : ArePlaced form n rs layer capacity end bs points) where
    block_is : (b : Block) → Contains bs b → IsBlock n b
    block_is b c = (block_lies n bs b placed.follows c).block

    pub said : (b : Block) → Contains bs b → (f : Fact) → IsOn points b f → OfBlock n capacity full f
    said b c f o =
        let m = placed.has.each b f c (on_is points b f o) in
        let w = from_record (rec f) (Contains-append_left rs ahead (rec f) m) (on_layer n capacity layer points b f o) in
        let p = on_part n capacity layer points b f o in
        let same = fact_of n le capacity capacity layer [] [] f w.0 (on_fits form n capacity points placed.valid b (block_is b c) f o)
        (of_fits w.0 w.1) (let z : 1 ≤ (rec f).key.part = omega arith in z) (sym w.2) in
        subst (OfBlock n capacity full) (sym same) w.1

    pub said_block : (b : Block) → Contains bs b → IsMaximal n fits b
    said_block b c =
        let w = some_on points b in
        let o = said b c w.0 w.1 in
        subst (IsMaximal n fits) (on_one full points o.block b w.0 o.on w.1) o.maximal

    -- what has come of a fact of the layer
    known : (f : Fact) (h : OfBlock n capacity full f) → Contains rs (rec f) → Contains bs h.block × IsOn points h.block f
    known f h c =
        let w = placed.has.only (rec f) c (on_layer n capacity layer full h.block f h.on) in
        let o = on_from points w.0 w.1 w.3 in
        let p = on_part n capacity layer points w.0 w.1 o in
        let same = fact_of n le capacity capacity layer [] [] w.1 f (on_fits form n capacity points placed.valid w.0 (block_is w.0 w.2) w.1 o)
        (of_fits f h) (let z : 1 ≤ (rec (w.1)).key.part = omega arith in z) w.4 in
        let o' = subst (IsOn points w.0) same o in
        let e = on_one points full w.0 h.block f o' h.on in
        (subst (Contains bs) e w.2, subst (λ (z : Block). IsOn points z f) e o')

    point_said : (e : Pixel × ℕ) → Contains (finmap.entries points) e → Contains (finmap.entries full) e
    point_said e c =
        let w = placed.held e c in
        let o = said w.0 w.1 (HoldsPoint w.0 e.0 e.1) (refl, c, w.2) in
        o.on.1

    -- where only records behind a code come, the blocks before it are complete
    complete : (bound : ℕ) → ((x : Record) → Contains ahead x → x.key.layer ≡ layer → bound ≤ x.key.code) → (b : Block) → Contains bs b → code_from b < bound
        → (e : Pixel × ℕ) → Contains (finmap.entries full) e → in_block b e.0 ≡ true → Contains (finmap.entries points) e
    complete bound past b c lt e m t =
        let f = HoldsPoint b e.0 e.1 in
        let h : OfBlock n capacity full f = record { block = b; maximal = said_block b c; on = (refl, m, t) } in
        ⊎_elim (λ old. (known f h old).1.1)
        (λ new. let k : bound ≤ code_from b = past (rec f) new refl in absurd (omega arith)) (Contains-append_cases rs ahead (rec f) (there f h))

    inside : (b : Block) → IsMaximal n fits b → code_from b < end → Contains bs b
    inside b g lt =
        let z = placed.size in
        let w = block_with n bs (code_from b) placed.follows (omega arith) in
        let e = w.0 in
        let ge = said_block e w.1 in
        let m = side_most n le in
        let hb = g.block in
        let he = ge.block in
        let b1 = hb.in_x in
        let b2 = hb.in_y in
        let e1 = he.in_x in
        let e2 = he.in_y in
        let low : code_from e ≤ code_at (corner b) = w.2 in
        let high : code_at (corner b) < code_to e = w.3 in
        let hold = held_code n e (corner b) he le (omega arith) (omega arith) (omega arith) (omega arith) low high in
        subst (Contains bs) (one_maximal n fits goes e b (corner b) ge g hold (Holds-corner n b hb)) w.1

    ends_within : (b : Block) → Contains bs b → code_to b ≤ end
    ends_within b c = let m = block_lies n bs b placed.follows c in let t = m.to in let z = placed.size in omega arith

    -- the block at which the next record has to be
    record NextAt : Type 0 where
      block : Block
      maximal : IsMaximal n fits block
      from : code_from block ≡ end
      fact : Fact
      on : IsOn full block fact
      comes : Contains ahead (rec fact)

    next_at : end < 4 ^ n → NextAt
    next_at lt =
        let w = tile_with end lt in
        let b = w.0 in
        let g = w.1 in
        let low = w.2 in
        let high = w.3 in
        let away : Contains bs b → ⊥ = λ c. let t = ends_within b c in absurd (omega arith) in
        let at : code_from b ≡ end =
        ⊎_elim (λ l. absurd (away (inside b g l))) (λ ge. let z : code_from b ≡ end = omega arith in z) (cases_lt (code_from b) end) in
        let f = some_on full b in
        let h : OfBlock n capacity full f.0 = record { block = b; maximal = g; on = f.1 } in
        record {
          block = b;
          maximal = g;
          from = at;
          fact = f.0;
          on = f.1;
          comes = ⊎_elim (λ old. absurd (away (known f.0 h old).0)) (λ new. new) (Contains-append_cases rs ahead (rec (f.0)) (there f.0 h));
        }

    end_most : end ≤ 4 ^ n
    end_most =
        ⊎_elim
        (λ lt.
        let z = placed.size in
        let w = block_with n bs (4 ^ n) placed.follows (omega arith) in
        let t = tile_end w.0 (said_block w.0 w.1) in
        let h = w.3 in
        absurd (omega arith)) (λ ge. ge) (cases_lt (4 ^ n) end)

    -- where no record of the layer comes, the blocks cover the square
    pub covers_all : ((x : Record) → Contains ahead x → x.key.layer ≡ layer → ⊥) → end ≡ 4 ^ n
    covers_all none =
        let most = end_most in
        ⊎_elim (λ lt. let w = next_at lt in absurd (none (rec w.fact) w.comes (on_layer n capacity layer full w.block w.fact w.on)))
        (λ ge. omega arith) (cases_lt end (4 ^ n))

    -- the next record is of a block that begins where the last one ends
    pub next_from : (r : Record) (rest : List Record) → ahead ≡ r ∷ rest → (f : Fact) (h : OfBlock n capacity full f) → rec f ≡ r
        → (Contains bs h.block → ⊥) → code_from h.block ≡ end
    next_from r rest is f h e away =
        let b = h.block in
        let top = tile_end b h.maximal in
        let pos = member_pos n b h.maximal.block in
        let code : r.key.code ≡ code_from b = ap (λ (q : Record). q.key.code) (sym e) ∙ on_code n capacity layer full b f h.on in
        let part : r.key.part ≡ 2 = ap (λ (q : Record). q.key.part) (sym e) ∙ on_part n capacity layer full b f h.on in
        let number : r.key.layer ≡ layer = ap (λ (q : Record). q.key.layer) (sym e) ∙ on_layer n capacity layer full b f h.on in
        ⊎_elim (λ lt. absurd (away (inside b h.maximal lt)))
        (λ ge. ⊎_elim
        (λ gt.
        let w = next_at (omega arith) in
        let x = rec (w.fact) in
        let xc = on_code n capacity layer full w.block w.fact w.on in
        let xp = on_part n capacity layer full w.block w.fact w.on in
        let xl = on_layer n capacity layer full w.block w.fact w.on in
        let xf = w.from in
        let order = subst (Rises by_key) is (rises_behind by_key rs ahead up) in
        ⊎_elim (λ same. let k = ap (λ (q : Record). q.key.code) same in absurd (omega arith))
        (λ d. let k = le_code r.key x.key (number ∙ sym xl) (part ∙ sym xp) (ap is_le (order.0 x d)) in absurd (omega arith))
        (Contains-cons_cases r rest x (subst (λ (l : List Record). Contains l x) is w.comes)))
        (λ le'. let z : code_from b ≡ end = omega arith in z) (cases_lt end (code_from b)))
        (cases_lt (code_from b) end)

    -- four quarters that are blocks of the layer, and all of whose points have come, hold too many for one block
    pub too_many : (bound : ℕ) → ((x : Record) → Contains ahead x → x.key.layer ≡ layer → bound ≤ x.key.code) → (w : Block) → IsBlock n w → 1 < w.side
        → ((q : Block) → Contains (quarters_of w) q → Contains bs q × (code_from q < bound)) → capacity < occupancy points w
    too_many bound past w hw wide part =
        let all = counts_le full points w (λ e c t.
        let q = quarter_held w (w.side / 2) e.0 (halves w hw wide) refl (Holds-from w e.0 t) in
        let p = part q.0 q.1 in
        complete bound past q.0 p.0 p.1 e c (in_block-true q.0 e.0 q.2)) in
        let q0 : Block = record { x = w.x; y = w.y; side = w.side / 2 } in
        let is : Contains (quarters_of w) q0 = (0, omega arith, refl) in
        let qr = quarters_are n w q0 hw wide is in
        let half = qr.half in
        let top = side_le n w hw in
        let g = said_block q0 (part q0 is).0 in
        ⊎_elim (λ few. absurd (g.last (omega arith) (ap fits qr.parent ∙ le-leb (occupancy full w) capacity (omega arith)))) (λ many. omega arith)
        (cases_lt (occupancy points w) (capacity + 1))
      where
        halves : (w : Block) → IsBlock n w → 1 < w.side → w.side ≡ w.side / 2 + w.side / 2
        halves w hw wide = let qr = quarters_are n w (record { x = w.x; y = w.y; side = w.side / 2 }) hw wide (0, omega arith, refl) in
            let half = qr.half in omega arith

  -- ---- a run that has begun
  module _ (run : PointRun) (t : IsTallied form n rs layer capacity run) where
    abbrev last : Block
    last = run.last.block

    abbrev blocks : List Block
    blocks = t.closed ++ last ∷ []

    pub last_there : Contains blocks last
    last_there = at_last t.closed last

    pub last_end : code_to last ≡ run.end
    last_end =
        let l = (last_from n t.closed last t.placed.follows).1 in
        let m = covered_more n t.closed last in
        let z = t.placed.size in
        omega arith

    pub last_max : IsMaximal n fits last
    last_max = said_block run.end blocks t.points t.placed last last_there

    begins_by : (b : Block) → Contains blocks b → code_from b ≤ code_from last
    begins_by b c =
        ⊎_elim
        (λ old.
        let l = (last_from n t.closed last t.placed.follows).1 in
        let m = block_lies n t.closed b (covers_front n 0 t.closed (last ∷ []) t.placed.follows) old in
        let e = m.to in
        omega arith)
        (λ is. let k = ap (λ (z : Block). code_from z) is in omega arith) (last_cases t.closed last b c)

    -- where only records behind the last block come, it holds enough
    pub holds_enough : ((x : Record) → Contains ahead x → x.key.layer ≡ layer → code_from last < x.key.code) → run.least ≤ run.last.count
    holds_enough past =
        let block : Tally → Block = λ u. u.block in
        ⊎_elim (λ z. omega arith)
        (λ d.
        let w = d.0 in
        let four = d.1 in
        let e = d.2 in
        let many = too_many run.end blocks t.points t.placed (code_from last + 1) (λ x c is. let k = past x c is in omega arith) w four.block four.wide
        (λ q m.
        let place = subst (λ (l : List Block). Contains l q) four.quarters m in
        let qr = quarters_are n w q four.block four.wide m in
        let pos = side_pos n q qr.block in
        let c : Contains blocks q =
        ⊎_elim
        (λ old. ⊎_elim (λ none. let z = ap (λ (b : Block). b.side) (is_none q none) in absurd (omega arith)) (λ k. in_front t.closed last q k)
        (Contains-append_cases no_blocks t.closed q
        (subst (λ (l : List Block). Contains l q) (sym t.ends.split) (Contains-append_right t.ends.front (map block run.recent) q old))))
        (λ is. subst (Contains blocks) is last_there) (last_cases (map block run.recent) last q place) in
        (c, let k = begins_by q c in omega arith)) in
        omega arith) t.due

    -- ---- a record that comes of the last block
    pub no_second : Contains ahead (rec (HoldsNoPoint last)) → ⊥
    no_second c =
        let h = fact_said (HoldsNoPoint last) (block_is run.end blocks t.points t.placed last last_there) refl refl c in
        let bare = subst (IsBare full) (sym h.on.0) h.on.1 in
        let f = some_on t.points last in
        ⊎_elim
        (λ e. not_both (rec (HoldsNoPoint last))
        (subst (λ (g : Fact). Contains rs (rec g)) e (t.placed.has.each last f.0 last_there (on_is t.points last f.0 f.1))) c)
        (λ w. bare w.0.0 w.0.1 (point_said run.end blocks t.points t.placed w.0 w.1) w.2)
        (on_cases t.points last f.0 f.1)

    module _ (p : Pixel) (label : ℕ) (fit : FactFits n (HoldsPoint last p label)) (c : Contains ahead (rec (HoldsPoint last p label))) where
      pub no_first : run.last.count ≡ 0 → ⊥
      no_first none =
          let h = fact_said (HoldsPoint last p label) fit refl refl c in
          let o = said run.end blocks t.points t.placed last last_there (HoldsNoPoint last) (refl, bare_from t.points last (t.count ∙ none)) in
          let bare = subst (IsBare full) (sym o.on.0) o.on.1 in
          bare p label h.on.1 (subst (λ (z : Block). in_block z p ≡ true) (sym h.on.0) h.on.2)

      pub no_more : capacity ≤ run.last.count → ⊥
      no_more room =
          let h = fact_said (HoldsPoint last p label) fit refl refl c in
          let on = subst (λ (z : Block). in_block z p ≡ true) (sym h.on.0) h.on.2 in
          let less = counts_less t.points full last (λ e m k. point_said run.end blocks t.points t.placed e m) (p, label) h.on.1 on
          (λ m. not_both (rec (HoldsPoint last p label))
          (t.placed.has.each last (HoldsPoint last p label) last_there (on_is t.points last (HoldsPoint last p label) (refl, m, on))) c) in
          let few = leb-true (occupancy full last) capacity last_max.passes in
          let k = t.count in
          omega arith

    -- a record that comes of another block is of a new one
    pub new_block : (f : Fact) (h : OfBlock n capacity full f) → Contains ahead (rec f) → (h.block ≡ last → ⊥) → Contains blocks h.block → ⊥
    new_block f h c other m =
        ⊎_elim
        (λ old.
        let l = (last_from n t.closed last t.placed.follows).1 in
        let b = block_lies n t.closed h.block (covers_front n 0 t.closed (last ∷ []) t.placed.follows) old in
        let e = b.to in
        let pos = member_pos n h.block h.maximal.block in
        let g = some_on t.points last in
        let less = rises_before by_key rs ahead (rec (g.0)) (rec f) up (t.placed.has.each last g.0 last_there (on_is t.points last g.0 g.1)) c in
        let gl = on_layer n capacity layer t.points last g.0 g.1 in
        let gp = on_part n capacity layer t.points last g.0 g.1 in
        let gc = on_code n capacity layer t.points last g.0 g.1 in
        let fl = on_layer n capacity layer full h.block f h.on in
        let fp = on_part n capacity layer full h.block f h.on in
        let fc = on_code n capacity layer full h.block f h.on in
        let k = le_code (rec (g.0)).key (rec f).key (gl ∙ sym fl) (gp ∙ sym fp) (ap is_le less) in
        omega arith)
        (λ is. other (sym is)) (last_cases t.closed last h.block m)
