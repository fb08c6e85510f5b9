-- The points that the records of a block say.
use Rattle.std.proofs.Common.{◌≡◌, ℕ, zero, suc, false, ◌<◌, ◌≤◌, arith, length, List, [], ◌∷◌, ◌++◌, Option, Some, None, refl, sym, ◌∙◌, ap, subst, ⊎_elim}
use Rattle.std.proofs.Common.{Contains, filter}
use Rattle.std.specs.Option.{option_to_list}
use Rattle.std.specs.Prelude.{◌==◌}
use Rattle.std.specs.FinMap as finmap
use Rattle.std.proofs.lemmas.List.Elements.{Contains-append_left, Contains-append_right, Contains-append_cases}
use Rattle.quilt_types.specs.declared.plane.Pixel.{Pixel}
use Rattle.quilt_types.specs.declared.plane.Block.{Block}
use Rattle.quilt_types.specs.declared.plane.Point.{Point}
use Rattle.quilt_types.specs.Plane.{in_block, IsBlock}
use Rattle.quilt_types.specs.Layers.{PointMap, IsPointMap}
use Rattle.quilt_types.specs.Facts.{Fact, point_facts}
use Rattle.quilt_types.specs.Quadtrees.{point_blocks}
use Rattle.quilt_loc.proofs.Members.{Contains-nil, Contains-here, Contains-cons_cases, Contains-map, Contains-map_from, Contains-filter, Contains-filter_from}
use Rattle.quilt_record.specs.declared.record.Record.{Record}
use Rattle.quilt_record.specs.Canonical.{point_fact}
use Rattle.quilt_record.proofs.Readers.{point_held}
use Rattle.quilt_spell.specs.Apart.{Apart}
use Rattle.quilt_spell.proofs.Lists.{Apart-append, Apart-map, Apart-rises}
use Rattle.quilt_spell.proofs.Written.{by_key_total}
use Rattle.quilt_spell.specs.Written.{by_key}
use Rattle.quilt_point_laws.specs.Laws.{AreIn}
use Rattle.quilt_point_laws.proofs.OnBlocks.{IsOn, on_from, on_is}
use Rattle.quilt_points.specs.Layers.{point_entry, point_entries, block_record}
use Rattle.quilt_points.specs.Reads.{AreRecordsOf, IsHeld, IsRow, AreSaid}
use Rattle.quilt_points.proofs.Shapes.{block_is, shaped_on, point_record_is}
use Rattle.quilt_points.proofs.Records.{some_on}

-- ---- record by record
module _ (n capacity number : ℕ) (b : Block) where
  -- a record says one thing
  pub row_alone : (r : Record) (one other : Option Point) → n ≤ 12 → IsRow n capacity number b one r → IsRow n capacity number b other r → one ≡ other
  row_alone r one other le h k = sym (point_held n capacity r number b one le h) ∙ point_held n capacity r number b other le k

  -- and is the only one that says it
  pub record_alone : (r s : Record) (held : Option Point) → IsRow n capacity number b held r → IsRow n capacity number b held s → r ≡ s
  record_alone r s held h k = h.written [] ∙ sym (k.written [])

  pub said_none : AreSaid n capacity number b [] []
  said_none = record { from = λ p c. absurd (Contains-nil p c); to = λ r p c w. absurd (Contains-nil r c); once = λ h. tt }

  last_apart : (seen : List Record) (r : Record) → Apart (seen ++ r ∷ []) → Apart seen × (Contains seen r → ⊥)
  last_apart [] r h = (tt, λ c. Contains-nil r c)
  last_apart (s ∷ seen) r h =
      let l = last_apart seen r h.1 in (
        (λ c. h.0 (Contains-append_left seen (r ∷ []) s c), l.0),
        λ c.
            ⊎_elim (λ e. h.0 (subst (Contains (seen ++ r ∷ [])) (sym e) (Contains-append_right seen (r ∷ []) r (Contains-here r [])))) (λ d. l.1 d)
            (Contains-cons_cases s seen r c),
      )

  one_there : {X : Type 0} (x y : X) → Contains (x ∷ []) y → x ≡ y
  one_there x y c = ⊎_elim (λ e. e) (λ d. absurd (Contains-nil y d)) (Contains-cons_cases x [] y c)

  to_list_some : (held : Option Point) (p : Point) → Contains (option_to_list held) p → held ≡ Some p
  to_list_some None p c = absurd (Contains-nil p c)
  to_list_some (Some q) p c = ap Some (one_there q p c)

  some_to_list : (held : Option Point) (p : Point) → held ≡ Some p → Contains (option_to_list held) p
  some_to_list held p e = subst (λ (o : Option Point). Contains (option_to_list o) p) (sym e) (Contains-here p [])

  list_apart : (held : Option Point) → Apart (option_to_list held)
  list_apart None = tt
  list_apart (Some q) = (λ c. Contains-nil q c, tt)

  pub said_more : (seen : List Record) (ps : List Point) (r : Record) (held : Option Point) → n ≤ 12 → AreSaid n capacity number b seen ps
      → IsRow n capacity number b held r
      → AreSaid n capacity number b (seen ++ r ∷ []) (ps ++ option_to_list held)
  said_more seen ps r held le h w = record {
    from = λ p c. ⊎_elim
        (λ d. let o = h.from p d in (o.0, Contains-append_left seen (r ∷ []) o.0 o.1, o.2))
        (λ d. (
          r,
          Contains-append_right seen (r ∷ []) r (Contains-here r []),
          subst (λ (o : Option Point). IsRow n capacity number b o r)
              (to_list_some held p d) w,
        ))
        (Contains-append_cases ps (option_to_list held) p c);
    to = λ s p c k. ⊎_elim
        (λ d. Contains-append_left ps (option_to_list held) p (h.to s p d k))
        (λ d.
        let is = one_there r s d in
        Contains-append_right ps (option_to_list held) p
        (some_to_list held p (row_alone r held (Some p) le w (subst (λ (z : Record). IsRow n capacity number b (Some p) z) (sym is) k))))
        (Contains-append_cases seen (r ∷ []) s c);
    once = λ apart.
        let l = last_apart seen r apart in
        Apart-append ps (option_to_list held) (h.once l.0) (list_apart held) (λ p c d.
        let o = h.from p c in
        let is = record_alone o.0 r (Some p) o.2 (subst (λ (z : Option Point). IsRow n capacity number b z r) (to_list_some held p d) w) in
        l.1 (subst (Contains seen) is o.1));
  }

-- ---- all records of a block
module _ (n capacity number : ℕ) (points : PointMap) (b : Block) (least : 1 ≤ number) (most : number ≤ 255)
    (valid : IsPointMap 2 n capacity points) (hb : IsBlock n b) where
  -- the row of a fact on the block
  row_is : (f : Fact) → IsOn points b f → (held : Option Point) × (f ≡ point_fact b held) × IsRow n capacity number b held (block_record n capacity number f)
  row_is f o =
      let s = shaped_on n capacity points valid b hb f o in (
        s.held,
        s.is,
        subst (λ (g : Fact). IsRow n capacity number b s.held (block_record n capacity number g)) (sym s.is)
            (point_record_is n capacity number b s.held least most s.fits),
      )

  entry_back : (p : Point) → IsOn points b (point_fact b (Some p)) → Contains (filter (λ e. in_block b e.0) (finmap.entries points)) (point_entry p)
  entry_back p o = Contains-filter (λ (e : Pixel × ℕ). in_block b e.0) (finmap.entries points) (point_entry p) o.1 o.2

  pub said_are : n ≤ 12 → (records : List Record) (ps : List Point) → Contains (point_blocks n capacity points) b
      → AreRecordsOf n capacity number points b records → AreSaid n capacity number b records ps → AreIn points b (point_entries ps)
  said_are le records ps mb rows said = record {
    once = Apart-map point_entry ps (λ p q _ _ e. let at : p.at ≡ q.at = ap (λ (z : Pixel × ℕ). z.0) e in let label : p.label ≡ q.label =
        ap (λ (z : Pixel × ℕ). z.1) e in λ i. record { at = at i; label = label i })
        (said.once (Apart-rises by_key by_key_total records rows.rises));
    members = λ e. (
      λ c.
          let p = Contains-map_from point_entry ps e c in
          let r = said.from p.0 p.1 in
          let m = ((rows.members r.0).0 r.1).1 in
          let f = Contains-map_from (block_record n capacity number) (point_facts points b) r.0 m in
          let o = on_from points b f.0 f.1 in
          let w = row_is f.0 o in
          let same = row_alone n capacity number b r.0 w.0 (Some p.0) le (subst (IsRow n capacity number b w.0) f.2 w.2) r.2 in
          let on : IsOn points b (point_fact b (Some p.0)) = subst (IsOn points b) (w.1 ∙ ap (point_fact b) same) o in
          subst (Contains (filter (λ (d : Pixel × ℕ). in_block b d.0) (finmap.entries points))) p.2 (entry_back p.0 on),
      λ c.
          let k = Contains-filter_from (λ (d : Pixel × ℕ). in_block b d.0) (finmap.entries points) e c in
          let p : Point = record { at = e.0; label = e.1 } in
          let f : Fact = point_fact b (Some p) in
          let o : IsOn points b f = (refl, k.0, k.1) in
          let w = row_is f o in
          let row : IsRow n capacity number b (Some p) (block_record n capacity number f) =
          subst (λ (z : Option Point). IsRow n capacity number b z (block_record n capacity number f)) (held_same w.0 p w.1) w.2 in
          let there = (rows.members (block_record n capacity number f)).1
          (mb, Contains-map (block_record n capacity number) (point_facts points b) f (on_is points b f o)) in
          Contains-map point_entry ps p (said.to (block_record n capacity number f) p there row),
    );
  }
    where
      held_same : (held : Option Point) (p : Point) → point_fact b (Some p) ≡ point_fact b held → held ≡ Some p
      held_same None p e = cc
      held_same (Some q) p e = let at : q.at ≡ p.at = cc in let label : q.label ≡ p.label = cc in λ i. Some (record { at = at i; label = label i })

-- each record says something of the block
pub row_there : (n capacity number : ℕ) (points : PointMap) (b : Block) → 1 ≤ number → number ≤ 255 → IsPointMap 2 n capacity points
    → (records : List Record) → AreRecordsOf n capacity number points b records
    → (r : Record) → Contains records r → (held : Option Point) × IsRow n capacity number b held r
row_there n capacity number points b least most valid records rows r c =
    let m = (rows.members r).0 c in
    let f = Contains-map_from (block_record n capacity number) (point_facts points b) r m.1 in
    let w = row_is n capacity number points b least most valid (block_is n capacity points b m.0).block f.0 (on_from points b f.0 f.1) in
    (w.0, subst (IsRow n capacity number b w.0) f.2 w.2)

-- a block of the layer has records
pub rows_some : (n capacity number : ℕ) (points : PointMap) (b : Block) (records : List Record) → AreRecordsOf n capacity number points b records
    → length records ≡ 0 → Contains (point_blocks n capacity points) b → ⊥
rows_some n capacity number points b records rows none mb =
    let s = some_on n capacity points b (block_is n capacity points b mb) in
    let w = s.1 in
    let on : IsOn points b s.0 = subst (λ (z : Block). IsOn points z s.0) s.2 w.on in
    let c = (rows.members (block_record n capacity number s.0)).1
    (mb, Contains-map (block_record n capacity number) (point_facts points b) s.0 (on_is points b s.0 on)) in
    let lt = c.1 in
    omega arith

-- what all its records say are its points
pub said_held : (n capacity number : ℕ) (points : PointMap) (b : Block) → n ≤ 12 → 1 ≤ number → number ≤ 255 → IsPointMap 2 n capacity points
    → (records : List Record) → 0 < length records → AreRecordsOf n capacity number points b records
    → (ps : List Point) → AreSaid n capacity number b records ps → IsHeld n capacity points b ps
said_held n capacity number points b le least most valid records some rows ps said =
    let one = first_one records some in
    let mb = ((rows.members one.0).0 one.1).0 in
    record { block = mb; are = said_are n capacity number points b least most valid (block_is n capacity points b mb).block le records ps mb rows said }
  where
    first_one : (xs : List Record) → 0 < length xs → (r : Record) × Contains xs r
    first_one [] lt = absurd (omega arith)
    first_one (x ∷ xs) lt = (x, Contains-here x xs)

pub nonzero : (n : ℕ) → false ≡ (n == 0) → 0 < n
nonzero zero e = cc
nonzero (suc n) e = omega arith
