-- A run of a line layer's records after one more, and records that no line layer has.
use Rattle.std.proofs.Common.{◌≡◌, ◌⊎◌, ℕ, ◌<◌, ◌≤◌, ◌^◌, true, List, [], ◌∷◌, ◌++◌, map, Option, Some, None, refl, sym, ◌∙◌, ap, subst, inl, inr, ⊎_elim}
use Rattle.std.proofs.Common.{arith, Contains}
use Rattle.std.proofs.lemmas.List.{map-append}
use Rattle.std.proofs.lemmas.List.Elements.{Contains-append_right}
use Rattle.quilt_types.specs.declared.plane.Block.{Block}
use Rattle.quilt_types.specs.declared.plane.Seg.{Seg}
use Rattle.quilt_types.specs.declared.plane.Kind.TheVariants as kinds
use Rattle.quilt_types.specs.Plane.{IsBlock}
use Rattle.quilt_types.specs.Layers.{is_in_square}
use Rattle.quilt_types.specs.Facts.{IsSegment}
use Rattle.quilt_loc.proofs.Members.{Contains-nil, Contains-here, Contains-cons_cases}
use Rattle.std.proofs.lemmas.List.Elements.{Contains-append_cases}
use Rattle.quilt_record.specs.declared.record.Record.{Record}
use Rattle.quilt_record.specs.Records.{record_of}
use Rattle.quilt_record.specs.Canonical.{IsRecordOf, FactFits, pair_fact}
use Rattle.quilt_line_audit.specs.declared.pair.Pair.{Pair}
use Rattle.quilt_line_audit.specs.declared.run.LineRun.{LineRun}
use Rattle.quilt_line_audit.specs.Layers.{RefusesRecord}
use Rattle.quilt_line_audit.specs.Runs.{IsLineRun, pair_record, segment_record, is_of_part}
use Rattle.quilt_line_audit.proofs.Keys.{filter_last, filter_without, part_true, part_false, pair_key, segment_is}
use Rattle.quilt_line_audit.proofs.Facts.{with_lines, record_says, small_id, inside, pair_fits}

last_cases : {X : Type 0} (xs : List X) (y x : X) → Contains (xs ++ y ∷ []) x → Contains xs x ⊎ (y ≡ x)
last_cases xs y x c =
    ⊎_elim (λ d. inl d) (λ d. ⊎_elim (λ e. inr e) (λ n. absurd (Contains-nil x n)) (Contains-cons_cases y [] x d)) (Contains-append_cases xs (y ∷ []) x c)

fact_block : (n : ℕ) (b : Block) (id : Option ℕ) → FactFits n (pair_fact b id) → IsBlock n b
fact_block n b None f = f
fact_block n b (Some id) f = f.0

-- ---- one more
module _ (n layer t : ℕ) (rs : List Record) (old new : LineRun) (r : Record) (h : IsLineRun n rs layer t old) where
  pub pair_taken : (b : Block) (id : Option ℕ) → IsRecordOf n 0 r layer (pair_fact b id)
      → new.pairs.items ≡ old.pairs.items ++ record { block = b; id = id } ∷ [] → new.segs ≡ old.segs
      → IsLineRun n (rs ++ r ∷ []) layer t new
  pair_taken b id is more same =
      let p : Pair = record { block = b; id = id } in
      let e : r ≡ pair_record n layer p = is.written [] in
      let k = pair_key n layer p in
      let l = ap (λ (q : Record). q.key.layer) e ∙ k.layer_is in
      let part = ap (λ (q : Record). q.key.part) e ∙ k.part_is in
      let rows = ap (λ z. map (segment_record n layer) z.items) (sym same) in
      record {
        least = h.least;
        most = h.most;
        pairs = filter_last (is_of_part layer 3) rs r (part_true layer 3 r l part) ∙ ap (λ xs. xs ++ r ∷ []) h.pairs
            ∙ ap (λ q. map (pair_record n layer) old.pairs.items ++ q ∷ []) e ∙ sym (map-append (pair_record n layer) old.pairs.items (p ∷ []))
            ∙ ap (map (pair_record n layer)) (sym more);
        segs = filter_without (is_of_part layer 4) rs r (part_false layer 4 r (λ _ four. omega arith)) ∙ h.segs ∙ rows;
        only = λ x c is. ⊎_elim (λ d. h.only x d is) (λ q. inl (ap (λ (z : Record). z.key.part) (sym q) ∙ part)) (last_cases rs r x c);
        blocks = λ q c.
            ⊎_elim (λ d. h.blocks q d) (λ z. subst (λ (y : Pair). IsBlock n y.block) z (fact_block n b id is.fits))
            (last_cases old.pairs.items p q (subst (λ (xs : List Pair). Contains xs q) more c));
        inside = λ d c. h.inside d (subst (λ z. Contains z.items d) same c);
      }

  pub segment_taken : (e : ℕ × Seg) → IsRecordOf n 0 r layer (IsSegment e.0 e.1) → is_in_square n e.1 ≡ true → new.pairs ≡ old.pairs
      → new.segs.items ≡ old.segs.items ++ e ∷ []
      → IsLineRun n (rs ++ r ∷ []) layer t new
  segment_taken e is in_ same more =
      let w : r ≡ segment_record n layer e = is.written [] in
      let l = ap (λ (q : Record). q.key.layer) w in
      let part : r.key.part ≡ 4 = ap (λ (q : Record). q.key.part) w in
      let rows = ap (λ z. map (pair_record n layer) z.items) (sym same) in
      record {
        least = h.least;
        most = h.most;
        pairs = filter_without (is_of_part layer 3) rs r (part_false layer 3 r (λ _ three. omega arith)) ∙ h.pairs ∙ rows;
        segs = filter_last (is_of_part layer 4) rs r (part_true layer 4 r l part) ∙ ap (λ xs. xs ++ r ∷ []) h.segs
            ∙ ap (λ q. map (segment_record n layer) old.segs.items ++ q ∷ []) w ∙ sym (map-append (segment_record n layer) old.segs.items (e ∷ []))
            ∙ ap (map (segment_record n layer)) (sym more);
        only = λ x c is. ⊎_elim (λ d. h.only x d is) (λ q. inr (ap (λ (z : Record). z.key.part) (sym q) ∙ part)) (last_cases rs r x c);
        blocks = λ q c. h.blocks q (subst (λ z. Contains z.items q) same c);
        inside = λ d c.
            ⊎_elim (λ m. h.inside d m) (λ z. subst (λ (y : ℕ × Seg). (y.0 < 2 ^ 32) × (is_in_square n y.1 ≡ true)) z (is.fits.0, in_))
            (last_cases old.segs.items e d (subst (λ (xs : List (ℕ × Seg)). Contains xs d) more c));
      }

-- ---- a record that is none of a line layer
pair_is : (n layer : ℕ) → 1 ≤ layer → layer ≤ 255 → (b : Block) (id : Option ℕ) → FactFits n (pair_fact b id)
    → IsRecordOf n 0 (record_of n 0 [] layer (pair_fact b id)) layer (pair_fact b id)
pair_is n layer some most b None f = record { least = some; most = most; fits = f; written = λ name. refl }
pair_is n layer some most b (Some id) f = record { least = some; most = most; fits = f; written = λ name. refl }

pub unread_refused : (form n : ℕ) → n ≤ 12 → (rs : List Record) (t : ℕ) (r : Record) → 1 ≤ r.key.layer → r.key.layer ≤ 255
    → ((b : Block) (id : Option ℕ) → IsRecordOf n 0 r r.key.layer (pair_fact b id) → ⊥)
    → ((id : ℕ) (s : Seg) → IsRecordOf n 0 r r.key.layer (IsSegment id s) → is_in_square n s ≡ true → ⊥)
    → RefusesRecord form n rs r.key.layer (kinds.Lines t) r
unread_refused form n le rs t r some most no_pair no_seg rest l kind up s =
    let layer = r.key.layer in
    let all = rs ++ r ∷ rest in
    with_lines form n all layer t ⊥
    (λ segs cover u.
    ⊎_elim
    (λ w.
    let in_ = inside form n layer t segs cover all some u w.0 w.1 in
    no_seg w.0.0 w.0.1 (subst (λ (z : Record). IsRecordOf n 0 z layer (IsSegment w.0.0 w.0.1)) w.2
    (segment_is n layer le some most w.0 (small_id form n layer t segs cover all some u w.0 w.1) in_)) in_)
    (λ w.
    let p = w.1 in
    no_pair p.block p.id (subst (λ (z : Record). IsRecordOf n 0 z layer (pair_fact p.block p.id)) w.4
    (pair_is n layer some most p.block p.id (pair_fits form n layer t segs cover all some u w.0 p w.2 w.3))))
    (record_says form n layer t segs cover all some u r (Contains-append_right rs (r ∷ rest) r (Contains-here r rest)) refl)) l kind s

-- ---- what a reader answers
pub nothing_read : {X : Type 0} (o : Option X) (x : X) → o ≡ None → o ≡ Some x → ⊥
nothing_read o x none is = let clash : None ≡ Some x = sym none ∙ is in cc

pub seg_read : (o : Option (ℕ × Seg)) (d e : ℕ × Seg) → o ≡ Some d → o ≡ Some e → d ≡ e
seg_read o d e is one = let same : Some d ≡ Some e = sym is ∙ one in cc
