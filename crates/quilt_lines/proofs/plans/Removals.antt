-- What becomes of the whole square when a segment goes is a plan of edits.
use Rattle.std.proofs.Common.{◌≡◌, ℕ, ◌≤◌, ◌<◌, List, [], ◌∷◌, ◌++◌, map, flat_map, length, Some, refl, sym, ◌∙◌, ap, ap₂, subst, arith}
use Rattle.std.specs.FinMap as finmap
use Rattle.std.specs.List.Sorted.{IsPermutation}
use Rattle.std.proofs.lemmas.List.{map-append, length-map}
use Rattle.std.proofs.lemmas.List.Sorted.{length_permutation}
use Rattle.quilt_types.specs.declared.plane.Block.{Block}
use Rattle.quilt_types.specs.declared.plane.Seg.{Seg}
use Rattle.quilt_types.specs.Plane.{whole}
use Rattle.quilt_types.specs.Layers.{SegMap, BlockSet, IsLineMap}
use Rattle.quilt_types.specs.Quadtrees.{after_remove}
use Rattle.quilt_types.specs.Facts.{Fact, IsSegment, IsMetBy, line_facts}
use Rattle.quilt_record.specs.declared.edits.Edits.{Edits}
use Rattle.quilt_record.specs.declared.record.Record.{Record}
use Rattle.quilt_edits.specs.Edits.{CanBeEdits}
use Rattle.quilt_line_laws.specs.Lines.{none_on}
use Rattle.quilt_line_laws.specs.Merging.{coming_in, going_in, staying_in}
use Rattle.quilt_line_laws.specs.Removing.{facts_back, facts_gone}
use Rattle.quilt_line_laws.proofs.Removing.{remove_law}
use Rattle.quilt_line_laws.proofs.FactsOnce.{remove_once_law}
use Rattle.quilt_line_laws.proofs.Counting.{fewer_law}
use Rattle.quilt_line_laws.proofs.Lawful.{removed_law}
use Rattle.quilt_lines.specs.declared.merge.Settled.{Settled}
use Rattle.quilt_lines.specs.Layers.{fact_record}
use Rattle.quilt_lines.specs.Merges.{met_by, SettlesBlock}
use Rattle.quilt_lines.specs.Plans.{IsLinePlan}
use Rattle.quilt_lines.proofs.plans.Changes as changes

met_by-map : (id : ℕ) (bs : List Block) → flat_map (met_by id) bs ≡ map (λ b. IsMetBy b id) bs
met_by-map id [] = refl
met_by-map id (b ∷ bs) = ap (λ l. IsMetBy b id ∷ l) (met_by-map id bs)

-- two lists behind a record
pub behind_one : (none first mid all xs ys gs ss : List Record) (r q : Record) → none ≡ [] → first ≡ none ++ r ∷ [] → mid ≡ first ++ xs → all ≡ mid ++ ys
    → r ≡ q → xs ≡ gs → ys ≡ ss → all ≡ q ∷ gs ++ ss
behind_one none first mid all xs ys gs ss r q e f g h is ex ey =
    h ∙ ap (λ (l : List Record). l ++ ys) (g ∙ ap (λ (l : List Record). l ++ xs) (f ∙ ap (λ (l : List Record). l ++ r ∷ []) e))
    ∙ ap (λ (z : Record). z ∷ xs ++ ys) is
    ∙ ap₂ (λ (a b : List Record). q ∷ a ++ b) ex ey

module _ (n layer t id : ℕ) (le : n ≤ 12) (least : 1 ≤ layer) (segs : SegMap) (cover : BlockSet) (s : Seg) (valid : IsLineMap n t segs cover)
    (had : finmap.get segs id ≡ Some s)
    (x : Settled) (h : SettlesBlock n layer t id segs cover s n (whole n) x) (gone back : List Record)
    (gone_is : gone ≡ fact_record n layer (IsSegment id s) ∷ x.going.items ++ x.staying.items) (back_is : back ≡ x.coming.items ++ x.emptied.items) where
  abbrev now : SegMap
  now = finmap.remove segs id

  abbrev staying : List Block
  staying = staying_in t now cover s n (whole n)

  abbrev goes : List Fact
  goes = facts_gone segs id s (going_in t now cover s n (whole n)) staying

  abbrev comes : List Fact
  comes = facts_back segs id (coming_in t now cover s n (whole n)) staying

  gone_rows : map (fact_record n layer) goes ≡ gone
  gone_rows =
      let rec = fact_record n layer in
      ap (λ l. rec (IsSegment id s) ∷ l)
      (map-append rec (flat_map (line_facts segs) (going_in t now cover s n (whole n))) (map (λ b. IsMetBy b id) staying)
      ∙ ap₂ (λ (a b : List Record). a ++ b) (sym h.going) (ap (map rec) (sym (met_by-map id staying)) ∙ sym h.staying)) ∙ sym gone_is

  back_rows : map (fact_record n layer) comes ≡ back
  back_rows =
      let rec = fact_record n layer in
      map-append rec (flat_map (line_facts now) (coming_in t now cover s n (whole n))) (flat_map (none_on now) staying)
      ∙ ap₂ (λ (a b : List Record). a ++ b) (sym h.coming) (sym h.emptied) ∙ sym back_is

  pub can : CanBeEdits gone back
  can =
      let apart = remove_once_law n t segs cover id s valid had in
      subst (λ (rs : List Record). CanBeEdits rs back) gone_rows
      (subst (CanBeEdits (map (fact_record n layer) goes)) back_rows
      (changes.can n layer t le least segs now cover (after_remove n t now cover s) valid (removed_law n t segs cover id s valid) goes comes
      (λ f. (remove_law n t segs cover id s valid had f).1) apart.1 (λ f. (remove_law n t segs cover id s valid had f).0) apart.0))

  pub plan : (edits : Edits) → IsPermutation gone edits.remove → IsPermutation back edits.add
      → IsLinePlan n layer t segs now cover (after_remove n t now cover s) edits
  plan edits pr pa =
      let apart = remove_once_law n t segs cover id s valid had in
      changes.plan n layer t le least segs now cover (after_remove n t now cover s) valid (removed_law n t segs cover id s valid) goes comes
      (λ f. (remove_law n t segs cover id s valid had f).1) apart.1 (λ f. (remove_law n t segs cover id s valid had f).0) apart.0
      edits
      (subst (λ (rs : List Record). IsPermutation rs edits.remove) (sym gone_rows) pr)
      (subst (λ (rs : List Record). IsPermutation rs edits.add) (sym back_rows) pa)

  pub fewer : (edits : Edits) → IsPermutation gone edits.remove → IsPermutation back edits.add → length edits.add < length edits.remove
  fewer edits pr pa =
      let less = fewer_law n t segs cover id s valid had in
      let a = length_permutation gone edits.remove pr in
      let b = length_permutation back edits.add pa in
      let c = ap length gone_rows in
      let d = ap length back_rows in
      let e = length-map goes (fact_record n layer) in
      let f = length-map comes (fact_record n layer) in
      omega arith
