-- The steps of a run of point records, and when they may be all.
use Rattle.std.proofs.Common.{◌≡◌, ℕ, ◌+◌, ◌<◌, ◌≤◌, true, List, [], ◌∷◌, ◌++◌, length, get_or, Option, Some, None, refl, sym, ◌∙◌, ap, subst, inr, ⊎_elim}
use Rattle.std.proofs.Common.{arith, Contains}
use Rattle.std.specs.FinMap as finmap
use Rattle.std.specs.Ordering.{is_le}
use Rattle.std.proofs.lemmas.Bool.{cases_lt}
use Rattle.std.proofs.lemmas.List.Elements.{Contains-append_right}
use Rattle.quilt_types.specs.declared.plane.Block.{Block}
use Rattle.quilt_types.specs.declared.plane.Point.{Point}
use Rattle.quilt_types.specs.declared.plane.Kind.TheVariants as kinds
use Rattle.quilt_types.specs.Plane.{in_block, IsBlock}
use Rattle.quilt_types.specs.Layers.{Layer, Region, Points, Lines, PointMap}
use Rattle.quilt_types.specs.Facts.{Fact, HoldsPoint, HoldsNoPoint}
use Rattle.quilt_loc.specs.Codes.{Rises, code_from}
use Rattle.quilt_loc.proofs.Members.{Contains-nil, Contains-here, Contains-cons_cases}
use Rattle.quilt_loc.proofs.Nesting.{side_pos}
use Rattle.quilt_record.specs.declared.record.Record.{Record}
use Rattle.quilt_record.specs.Records.{record_of}
use Rattle.quilt_record.specs.Canonical.{FactFits, IsRecordOf, point_fact}
use Rattle.quilt_blocks.proofs.Chains.{member_pos}
use Rattle.quilt_spell.specs.Catalogued.{kind_of}
use Rattle.quilt_spell.specs.Written.{by_key}
use Rattle.quilt_edits.proofs.Keys.{le_code}
use Rattle.quilt_point_laws.proofs.OnBlocks.{IsOn, OfBlock}
use Rattle.quilt_audit.specs.declared.tally.Tally.{Tally}
use Rattle.quilt_audit.specs.declared.points.PointRun.{PointRun}
use Rattle.quilt_line_audit.specs.Layers.{SpellsOne, IsLayerOf, RefusesRecord, IsShort}
use Rattle.quilt_audit.specs.Points.{IsTallied, IsPointRun, AreClosed, IsBlockBegun, IsFinished, IsHeldIn, IsPointStart, count_of, recent_after}
use Rattle.quilt_audit.proofs.Lists.{rises_front, rises_behind}
use Rattle.quilt_audit.proofs.runs.PointSteps.{opened, more_tallied, closes, begins_placed, begins_closed}
use Rattle.quilt_audit.proofs.ahead.PointAhead.{on_layer, on_part, on_code, from_record, of_fits}
use Rattle.quilt_audit.proofs.ahead.PointAhead.{fact_said, covers_all, next_from, last_end, last_max, holds_enough}
use Rattle.quilt_audit.proofs.ahead.PointAhead.{no_second, no_first, no_more, new_block}
use Rattle.quilt_audit.proofs.runs.PointWhole.{whole_points}

-- ---- answers that hold for one value of a test

-- ---- a list of three
pub shifted_three : (ts : List Tally) (z t : Tally) → length ts ≡ 3 → recent_after ts t ≡ get_or ts 1 z ∷ get_or ts 2 z ∷ t ∷ []
shifted_three [] z t e = absurd (omega arith)
shifted_three (a ∷ []) z t e = absurd (omega arith)
shifted_three (a ∷ b ∷ []) z t e = absurd (omega arith)
shifted_three (a ∷ b ∷ c ∷ []) z t e = refl
shifted_three (a ∷ b ∷ c ∷ d ∷ ts) z t e = absurd (omega arith)

-- ---- a layer of points
points_same : (c d : ℕ) → kinds.Points c ≡ kinds.Points d → c ≡ d
points_same c d e = cc

with_points : (form n : ℕ) (rs : List Record) (layer capacity : ℕ) (P : Type 0) → ((full : PointMap) → SpellsOne form n rs layer (Points capacity full) → P)
    → (l : Layer) → kind_of l ≡ kinds.Points capacity → SpellsOne form n rs layer l → P
with_points form n rs layer capacity P f (Region grid) e s = absurd (let z : kinds.Region ≡ kinds.Points capacity = e in cc)
with_points form n rs layer capacity P f (Points c full) e s =
    f full (subst (λ (k : ℕ). SpellsOne form n rs layer (Points k full)) (points_same c capacity e) s)
with_points form n rs layer capacity P f (Lines threshold segs cover) e s = absurd (let z : kinds.Lines threshold ≡ kinds.Points capacity = e in cc)

pub refused : (form n : ℕ) (rs : List Record) (layer capacity : ℕ) (r : Record)
    → ((rest : List Record) (full : PointMap) → Rises by_key (rs ++ r ∷ rest) → SpellsOne form n (rs ++ r ∷ rest) layer (Points capacity full) → ⊥)
    → RefusesRecord form n rs layer (kinds.Points capacity) r
refused form n rs layer capacity r f rest l e up s = with_points form n (rs ++ r ∷ rest) layer capacity ⊥ (λ full t. f rest full up t) l e s

pub point_code : (n c k : ℕ) (b : Block) (held : Option Point) → (record_of n c [] k (point_fact b held)).key.code ≡ code_from b
point_code n c k b None = refl
point_code n c k b (Some p) = refl

-- ---- a record that cannot be read
fact_read : (n c : ℕ) (points : PointMap) (b : Block) (k : ℕ) (least : 1 ≤ k) (most : k ≤ 255) (r : Record) (f : Fact) → IsOn points b f
    → FactFits n f → record_of n c [] k f ≡ r
    → (held : Option Point) × IsRecordOf n c r k (point_fact b held)
fact_read n c points b k least most r (HoldsPoint d p l) o fit e =
    let h : IsRecordOf n c r k (HoldsPoint d p l) = record { least = least; most = most; fits = fit; written = λ name. sym e } in
    (Some (record { at = p; label = l }), subst (λ (z : Block). IsRecordOf n c r k (HoldsPoint z p l)) o.0 h)
fact_read n c points b k least most r (HoldsNoPoint d) o fit e =
    let h : IsRecordOf n c r k (HoldsNoPoint d) = record { least = least; most = most; fits = fit; written = λ name. sym e } in
    (None, subst (λ (z : Block). IsRecordOf n c r k (HoldsNoPoint z)) o.0 h)
fact_read n c points b k least most r f o fit e = absurd o

pub unread_refused : (form n : ℕ) → n ≤ 12 → (rs : List Record) (capacity : ℕ) (r : Record) → 1 ≤ r.key.layer → r.key.layer ≤ 255
    → ((b : Block) (held : Option Point) → IsRecordOf n capacity r r.key.layer (point_fact b held) → ⊥)
    → RefusesRecord form n rs r.key.layer (kinds.Points capacity) r
unread_refused form n le rs capacity r least most none =
    refused form n rs r.key.layer capacity r
    (λ rest full up s.
    let w = from_record form n le capacity r.key.layer least full rs (r ∷ rest) up s r (Contains-append_right rs (r ∷ rest) r (Contains-here r rest)) refl in
    let h = w.1 in
    let d =
    fact_read n capacity full h.block r.key.layer least most r w.0 h.on (of_fits form n le capacity r.key.layer least full rs (r ∷ rest) up s w.0 h) w.2 in
    none h.block d.0 d.1)

module _ (form n : ℕ) (least : 1 ≤ n) (le : n ≤ 12) (run : PointRun) (layer : ℕ) (some : 1 ≤ layer) (rs : List Record)
    (h : IsPointRun form n rs layer run.bucket run) (b : Block) (hb : IsBlock n b) where
  abbrev said : Option Point → Record
  said held = record_of n run.bucket [] layer (point_fact b held)

  -- the layer has the fact
  there_of : (held : Option Point) → FactFits n (point_fact b held) → (rest : List Record) (full : PointMap) → Rises by_key (rs ++ said held ∷ rest)
      → SpellsOne form n (rs ++ said held ∷ rest) layer (Points run.bucket full) → OfBlock n run.bucket full (point_fact b held)
  there_of None fit rest full up s =
      fact_said form n le run.bucket layer some full rs (said None ∷ rest) up s (HoldsNoPoint b) fit refl refl (Contains-here (said None) rest)
  there_of (Some x) fit rest full up s =
      fact_said form n le run.bucket layer some full rs (said (Some x) ∷ rest) up s (HoldsPoint b x.at x.label) fit refl refl
      (Contains-here (said (Some x)) rest)

  block_of : (held : Option Point) (full : PointMap) (o : OfBlock n run.bucket full (point_fact b held)) → b ≡ o.block
  block_of None full o = o.on.0
  block_of (Some x) full o = o.on.0

  -- ---- refused
  pub outside_refused : (held : Option Point) → FactFits n (point_fact b held) → (IsHeldIn b held → ⊥)
      → RefusesRecord form n rs layer (kinds.Points run.bucket) (said held)
  outside_refused None fit out = absurd (out tt)
  outside_refused (Some x) fit out =
      refused form n rs layer run.bucket (said (Some x))
      (λ rest full up s.
      let o = there_of (Some x) fit rest full up s in
      out (subst (λ (z : Block). in_block z x.at ≡ true) (sym o.on.0) o.on.2))

  wide_none : (c : ℕ) → IsPointStart c run → b ≡ run.last.block → ⊥
  wide_none c s e =
      let z = ap (λ (d : Block). d.side) e ∙ ap (λ (t : Tally). t.block.side) s.tail in
      let p = side_pos n b hb in
      omega arith

  pub more_refused : (held : Option Point) → FactFits n (point_fact b held) → b ≡ run.last.block
      → (1 ≤ count_of held → 1 ≤ run.last.count → run.last.count < run.bucket → ⊥)
      → RefusesRecord form n rs layer (kinds.Points run.bucket) (said held)
  more_refused None fit is none =
      refused form n rs layer run.bucket (said None)
      (λ rest full up s.
      ⊎_elim (λ before. wide_none run.bucket before.start is)
      (λ t. no_second form n le run.bucket layer some full rs (said None ∷ rest) up s run t
      (subst (λ (z : Block). Contains (said None ∷ rest) (record_of n run.bucket [] layer (HoldsNoPoint z))) is (Contains-here (said None) rest)))
      (h.so_far (rises_front by_key rs (said None ∷ rest) up)))
  more_refused (Some x) fit is none =
      refused form n rs layer run.bucket (said (Some x))
      (λ rest full up s.
      ⊎_elim (λ before. wide_none run.bucket before.start is)
      (λ t.
      let c = subst (λ (z : Block). Contains (said (Some x) ∷ rest) (record_of n run.bucket [] layer (HoldsPoint z x.at x.label))) is
      (Contains-here (said (Some x)) rest) in
      let f = subst (λ (z : Block). FactFits n (HoldsPoint z x.at x.label)) is fit in
      ⊎_elim
      (λ room. ⊎_elim
      (λ one. none (let z : 1 ≤ 1 = omega arith in z) one room)
      (λ zero'. no_first form n le run.bucket layer some full rs (said (Some x) ∷ rest) up s run t x.at x.label f c
      (let z : run.last.count ≡ 0 = omega arith in z))
      (cases_lt 0 run.last.count))
      (λ over. no_more form n le run.bucket layer some full rs (said (Some x) ∷ rest) up s run t x.at x.label f c over)
      (cases_lt run.last.count run.bucket))
      (h.so_far (rises_front by_key rs (said (Some x) ∷ rest) up)))

  pub code_refused : (held : Option Point) → FactFits n (point_fact b held) → (b ≡ run.last.block → ⊥) → (code_from b ≡ run.end → ⊥)
      → RefusesRecord form n rs layer (kinds.Points run.bucket) (said held)
  code_refused held fit other differs =
      refused form n rs layer run.bucket (said held)
      (λ rest full up s.
      let o = there_of held fit rest full up s in
      let is = block_of held full o in
      ⊎_elim
      (λ before.
      let e = next_from form n le run.bucket layer some full rs (said held ∷ rest) up s 0 [] finmap.empty
      (begins_placed form n rs layer run.bucket run before) (said held) rest refl (point_fact b held) o refl
      (λ c. Contains-nil o.block c) in
      let z = before.start.end in
      let k = ap (λ (d : Block). code_from d) is in
      differs (omega arith))
      (λ t.
      let e = next_from form n le run.bucket layer some full rs (said held ∷ rest) up s run.end (t.closed ++ run.last.block ∷ []) t.points t.placed
      (said held) rest refl (point_fact b held) o refl
      (new_block form n le run.bucket layer some full rs (said held ∷ rest) up s run t (point_fact b held) o (Contains-here (said held) rest)
      (λ same. other (is ∙ same))) in
      let k = ap (λ (d : Block). code_from d) is in
      differs (omega arith))
      (h.so_far (rises_front by_key rs (said held ∷ rest) up)))

  pub enough_refused : (held : Option Point) → FactFits n (point_fact b held) → code_from b ≡ run.end → run.last.count < run.least
      → RefusesRecord form n rs layer (kinds.Points run.bucket) (said held)
  enough_refused held fit at few =
      refused form n rs layer run.bucket (said held)
      (λ rest full up s.
      let o = there_of held fit rest full up s in
      let is = block_of held full o in
      let r = said held in
      let rl = on_layer n run.bucket layer full o.block (point_fact b held) o.on in
      let rp = on_part n run.bucket layer full o.block (point_fact b held) o.on in
      let rc = on_code n run.bucket layer full o.block (point_fact b held) o.on in
      let rk = ap (λ (d : Block). code_from d) is in
      ⊎_elim
      (λ before. let z = before.start.least in omega arith)
      (λ t.
      let end = last_end form n le run.bucket layer some full rs (r ∷ rest) up s run t in
      let lp = member_pos n run.last.block (last_max form n le run.bucket layer some full rs (r ∷ rest) up s run t).block in
      let order = rises_behind by_key rs (r ∷ rest) up in
      let enough = holds_enough form n le run.bucket layer some full rs (r ∷ rest) up s run t
      (λ x c xl.
      ⊎_elim (λ same. let k = ap (λ (q : Record). q.key.code) same in omega arith)
      (λ d.
      let w = from_record form n le run.bucket layer some full rs (r ∷ rest) up s x (Contains-append_right rs (r ∷ rest) x c) xl in
      let v = w.1 in
      let xp = on_part n run.bucket layer full v.block w.0 v.on in
      let part : x.key.part ≡ 2 = sym (ap (λ (q : Record). q.key.part) w.2) ∙ xp in
      let k = le_code r.key x.key (rl ∙ sym xl) (rp ∙ sym part) (ap is_le (order.0 x d)) in
      omega arith)
      (Contains-cons_cases r rest x c)) in
      omega arith)
      (h.so_far (rises_front by_key rs (r ∷ rest) up)))

  -- ---- taken
  pub more_taken : (held : Option Point) → FactFits n (point_fact b held) → IsHeldIn b held → b ≡ run.last.block → (next : PointRun)
      → next ≡ record run { last = record { block = run.last.block; count = run.last.count + 1 } } → 1 ≤ run.last.count
      → run.last.count < run.bucket → count_of held ≡ 1
      → IsPointRun form n (rs ++ said held ∷ []) layer run.bucket next
  more_taken None fit inside is next e one room count = absurd (omega arith)
  more_taken (Some x) fit inside is next e one room count = record {
    bucket = ap (λ (z : PointRun). z.bucket) e;
    so_far = λ up. ⊎_elim (λ before. absurd (wide_none run.bucket before.start is))
        (λ t. inr (subst (λ (z : Block).
        IsTallied form n (rs ++ record_of n run.bucket [] layer (HoldsPoint z x.at x.label) ∷ []) layer run.bucket next) (sym is)
        (more_tallied form n le rs layer run.bucket run t x (subst (λ (z : Block). in_block z x.at ≡ true) is inside) fit.1 fit.2 one room
        (subst (λ (z : Block). Rises by_key (rs ++ record_of n run.bucket [] layer (HoldsPoint z x.at x.label) ∷ [])) is up) next e)))
        (h.so_far (rises_front by_key rs (said (Some x) ∷ []) up));
  }

  pub opened_taken : (held : Option Point) → FactFits n (point_fact b held) → IsHeldIn b held → code_from b ≡ run.end → run.least ≤ run.last.count
      → (next : PointRun) → IsBlockBegun n run b (count_of held) next
      → IsPointRun form n (rs ++ said held ∷ []) layer run.bucket next
  opened_taken held fit inside at enough next o = record {
    bucket = o.bucket;
    so_far = λ up.
        let closed : AreClosed form n rs layer run.bucket run.end (recent_after run.recent run.last) =
        ⊎_elim (λ before. begins_closed form n rs layer run.bucket run before) (λ t. closes form n le rs layer run.bucket run t enough)
        (h.so_far (rises_front by_key rs (said held ∷ []) up)) in
        let three : length run.recent ≡ 3 =
        ⊎_elim (λ before. ap length before.start.recent) (λ t. t.ends.three) (h.so_far (rises_front by_key rs (said held ∷ []) up)) in
        inr (opened form n le rs layer run.bucket run.end (recent_after run.recent run.last) closed b hb at next o.end
        (o.recent three) held o.tail o.least inside fit);
  }

-- ---- all records
module _ (form n : ℕ) (le : n ≤ 12) (run : PointRun) (layer capacity : ℕ) (some : 1 ≤ layer) (rs : List Record)
    (h : IsPointRun form n rs layer capacity run) where
  pub finished_points : IsFinished n run → Rises by_key rs → IsLayerOf form n rs layer (kinds.Points capacity)
  finished_points f up =
      let closed : AreClosed form n rs layer capacity run.end (recent_after run.recent run.last) =
      ⊎_elim (λ before. begins_closed form n rs layer capacity run before) (λ t. closes form n le rs layer capacity run t f.enough) (h.so_far up) in
      whole_points form n le rs layer capacity (recent_after run.recent run.last)
      (subst (λ (k : ℕ). AreClosed form n rs layer capacity k (recent_after run.recent run.last)) f.covered closed)

  pub short_points : (IsFinished n run → ⊥) → IsShort form n rs layer (kinds.Points capacity)
  short_points none rest l e past up s =
      with_points form n (rs ++ rest) layer capacity ⊥
      (λ full t.
      ⊎_elim
      (λ before.
      let c = covers_all form n le capacity layer some full rs rest up t 0 [] finmap.empty (begins_placed form n rs layer capacity run before) past in
      let z = before.start.end in
      let k = before.start.least in
      none (record { covered = z ∙ c; enough = omega arith }))
      (λ tally.
      none (record {
        covered = covers_all form n le capacity layer some full rs rest up t run.end (tally.closed ++ run.last.block ∷ []) tally.points tally.placed past;
        enough = holds_enough form n le capacity layer some full rs rest up t run tally (λ x c xl. absurd (past x c xl));
      }))
      (h.so_far (rises_front by_key rs rest up)))
      l e s
