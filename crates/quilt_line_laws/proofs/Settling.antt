-- Each step of the descent, case by case.
use Rattle.std.proofs.Common.{◌≡◌, ℕ, Bool, true, false, cond, not, ◌&&◌, ◌||◌, List, [], ◌∷◌, flat_map, refl, sym, ap, ◌∙◌, true≢false}
use Rattle.std.specs.List.{list_all}
use Rattle.std.specs.Prelude.{nat_le}
use Rattle.std.proofs.lemmas.Bool.{not_from_false, not_from_true}
use Rattle.quilt_types.specs.Sets as finset
use Rattle.quilt_types.specs.declared.plane.Block.{Block}
use Rattle.quilt_types.specs.declared.plane.Seg.{Seg}
use Rattle.quilt_types.specs.Plane.{quarters_of}
use Rattle.quilt_types.specs.Layers.{SegMap, BlockSet}
use Rattle.quilt_types.specs.Segments.{square, meets}
use Rattle.quilt_types.specs.Quadtrees.{segs_meeting}
use Rattle.quilt_line_laws.specs.Merging.{is_one, becomes_one, blocks_in, coming_in, going_in, staying_in}
use Rattle.quilt_line_laws.specs.Settling.{LeafStep, UnmetStep, MergeStep, CutStep, SettleLaw}
use Rattle.quilt_line_laws.proofs.Levels.{becomes_says}
use Rattle.quilt_line_laws.proofs.Counting.{merged_law}

-- what tests choose
module _ {X : Type 0} (x y z : X) where
  outer : (u : Bool) → u ≡ true → x ≡ cond u x y
  outer true e = refl
  outer false e = absurd (true≢false (sym e))

  other : (u : Bool) → u ≡ false → y ≡ cond u x y
  other true e = absurd (true≢false e)
  other false e = refl

  inner : (u v : Bool) → u ≡ false → v ≡ true → y ≡ cond u x (cond v y z)
  inner true v e f = absurd (true≢false e)
  inner false true e f = refl
  inner false false e f = absurd (true≢false (sym f))

  last : (u v : Bool) → u ≡ false → v ≡ false → z ≡ cond u x (cond v y z)
  last true v e f = absurd (true≢false e)
  last false true e f = absurd (true≢false f)
  last false false e f = refl

either_stops : (u m : Bool) → u ≡ true → (u || not m) ≡ true
either_stops true m e = refl
either_stops false m e = absurd (true≢false (sym e))

unmet_stops : (u m : Bool) → m ≡ false → (u || not m) ≡ true
unmet_stops true m e = refl
unmet_stops false true e = absurd (true≢false e)
unmet_stops false false e = refl

goes_on : (u m : Bool) → u ≡ false → m ≡ true → (u || not m) ≡ false
goes_on true m e f = absurd (true≢false e)
goes_on false true e f = refl
goes_on false false e f = absurd (true≢false (sym f))

or_first : (u v : Bool) → u ≡ true → true ≡ (u || v)
or_first true v e = refl
or_first false v e = absurd (true≢false (sym e))

or_neither : (u v : Bool) → u ≡ false → v ≡ false → false ≡ (u || v)
or_neither true v e f = absurd (true≢false e)
or_neither false true e f = absurd (true≢false f)
or_neither false false e f = refl

or_second : (u v : Bool) → v ≡ true → true ≡ (u || v)
or_second true v e = refl
or_second false true e = refl
or_second false false e = absurd (true≢false (sym e))

and_unmet : (m a c : Bool) → m ≡ false → (m && a && c) ≡ false
and_unmet true a c e = absurd (true≢false e)
and_unmet false a c e = refl

met_leaf : {X : Type 0} (x y : X) (u m : Bool) → u ≡ true → cond m y x ≡ cond (u && m) y x
met_leaf x y true m e = refl
met_leaf x y false m e = absurd (true≢false (sym e))

met_block : {X : Type 0} (x y z : X) (u m : Bool) → u ≡ true → cond m y x ≡ cond (not m) x (cond u y z)
met_block x y z true true e = refl
met_block x y z true false e = refl
met_block x y z false m e = absurd (true≢false (sym e))

third : {X : Type 0} (x y z w : X) (m u v : Bool) → m ≡ false → u ≡ false → v ≡ true → z ≡ cond m x (cond u y (cond v z w))
third x y z w true u v e f g = absurd (true≢false e)
third x y z w false true v e f g = absurd (true≢false f)
third x y z w false false true e f g = refl
third x y z w false false false e f g = absurd (true≢false (sym g))

fourth : {X : Type 0} (x y z w : X) (m u v : Bool) → m ≡ false → u ≡ false → v ≡ false → w ≡ cond m x (cond u y (cond v z w))
fourth x y z w true u v e f g = absurd (true≢false e)
fourth x y z w false true v e f g = absurd (true≢false f)
fourth x y z w false false true e f g = absurd (true≢false g)
fourth x y z w false false false e f g = refl

module _ (t : ℕ) (segs : SegMap) (cover : BlockSet) (s : Seg) where
  abbrev in_set : Block → Bool
  in_set b = finset.contains cover b

  abbrev met : Block → Bool
  met b = meets s (square b)

  abbrev joins : ℕ → Block → Bool
  joins k b = becomes_one t segs cover s k b

  abbrev none : List Block
  none = []

  pub leaf_step : (k : ℕ) (b : Block) → LeafStep t segs cover s k b
  leaf_step ℕ.zero b e = record { is_one = sym e; come = refl; go = refl; stay = met_leaf none (b ∷ []) (in_set b) (met b) e }
  leaf_step (ℕ.suc k) b e = record {
    is_one = or_first (in_set b) (joins k b) e;
    come = outer none (cond {A = List Block} (joins k b) (b ∷ []) (flat_map (coming_in t segs cover s k) (quarters_of b))) none
        (in_set b || not (met b)) (either_stops (in_set b) (met b) e);
    go =
        outer none (cond {A = List Block} (joins k b) (flat_map (blocks_in cover k) (quarters_of b))
        (flat_map (going_in t segs cover s k) (quarters_of b))) none (in_set b || not (met b)) (either_stops (in_set b) (met b) e);
    stay = met_block none (b ∷ []) (cond {A = List Block} (joins k b) [] (flat_map (staying_in t segs cover s k) (quarters_of b))) (in_set b) (met b) e;
  }

  pub unmet_step : (k : ℕ) (b : Block) → UnmetStep t segs cover s k b
  unmet_step ℕ.zero b e f =
      record { is_one = sym e; come = refl; go = refl; stay = other (b ∷ []) none none (in_set b && met b) (ap (λ (u : Bool). u && met b) e) }
  unmet_step (ℕ.suc k) b e f = record {
    is_one = or_neither (in_set b) (joins k b) e (and_unmet (met b) (list_all (is_one t segs cover s k) (quarters_of b)) (nat_le (segs_meeting segs b) t) f);
    come = outer none (cond {A = List Block} (joins k b) (b ∷ []) (flat_map (coming_in t segs cover s k) (quarters_of b))) none
        (in_set b || not (met b)) (unmet_stops (in_set b) (met b) f);
    go =
        outer none (cond {A = List Block} (joins k b) (flat_map (blocks_in cover k) (quarters_of b))
        (flat_map (going_in t segs cover s k) (quarters_of b))) none (in_set b || not (met b)) (unmet_stops (in_set b) (met b) f);
    stay =
        outer none (cond {A = List Block} (in_set b) (b ∷ [])
        (cond {A = List Block} (joins k b) [] (flat_map (staying_in t segs cover s k) (quarters_of b)))) none (not (met b)) (not_from_false (met b) f);
  }

  pub merge_step : (k : ℕ) (b : Block) → MergeStep t segs cover s k b
  merge_step k b e f =
      let m = (becomes_says 0 t segs cover s k b f).met in
      let on = goes_on (in_set b) (met b) e m in
      record {
        is_one = or_second (in_set b) (joins k b) f;
        come = inner none (b ∷ []) (flat_map (coming_in t segs cover s k) (quarters_of b)) (in_set b || not (met b)) (joins k b) on f;
        go = sym (merged_law t segs cover s k b f)
            ∙ inner none (flat_map (blocks_in cover k) (quarters_of b)) (flat_map (going_in t segs cover s k) (quarters_of b))
            (in_set b || not (met b)) (joins k b) on f;
        stay = third none (b ∷ []) none (flat_map (staying_in t segs cover s k) (quarters_of b)) (not (met b)) (in_set b) (joins k b) (not_from_true (met b) m) e f;
      }

  pub cut_step : (k : ℕ) (b : Block) → CutStep t segs cover s k b
  cut_step k b e m f =
      let on = goes_on (in_set b) (met b) e m in
      record {
        is_one = or_neither (in_set b) (joins k b) e f;
        come = last none (b ∷ []) (flat_map (coming_in t segs cover s k) (quarters_of b)) (in_set b || not (met b)) (joins k b) on f;
        go = last none (flat_map (blocks_in cover k) (quarters_of b)) (flat_map (going_in t segs cover s k) (quarters_of b))
            (in_set b || not (met b)) (joins k b) on f;
        stay =
            fourth none (b ∷ []) none (flat_map (staying_in t segs cover s k) (quarters_of b)) (not (met b)) (in_set b) (joins k b) (not_from_true (met b) m) e f;
      }

pub settle_law : SettleLaw
settle_law t segs cover s k b = (leaf_step t segs cover s k b, unmet_step t segs cover s k b, merge_step t segs cover s k b, cut_step t segs cover s k b)
