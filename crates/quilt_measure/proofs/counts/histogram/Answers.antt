use Rattle.std.proofs.Common.{◌≡◌, ℕ, ◌+◌, ◌<◌, ◌≤◌, ◌==◌, List, Bool, cond, eqb, eq-eqb, eqb-true, length, take, get_or, set, count_by, ⊎_elim, sym, ◌∙◌, ap}
use Rattle.std.proofs.Common.{arith}
use Rattle.std.proofs.lemmas.Bool.{cases_lt, false_from_ne_true}
use Rattle.std.proofs.lemmas.List.{take_all, get_or-set_same, get_or-set_other, length-set}
use Rattle.std.proofs.lemmas.List.Sums.{count_by-le-length, count_by_more_yes, count_by_more_no}
use Rattle.quilt_types.specs.declared.plane.Block.{Block}
use Rattle.quilt_types.specs.Plane.{side}
use Rattle.quilt_loc.proofs.CodeLaws.{pow_same}
use Rattle.quilt_blocks.specs.Cutting.{leaves_by_code, leaf_pair}
use Rattle.quilt_measure.proofs.Parts.{same_leaves, leaves_few, taken_few}
use Rattle.quilt_measure.proofs.counts.histogram.Goals as goal

pub overflow_add-counts : goal.overflow_add-counts
overflow_add-counts c =
    let n = c.args.a.now.level in
    let es = leaves_by_code n c.args.a.now.grid in
    let r = c.len-i-end.ensures.raster in
    let known = c.loop-i.invariant.known c.exponent_of.result c.exponent_of.ensures.most in
    let some = count_by-le-length (λ (e : Block × ℕ). e.0.side == side c.exponent_of.result) (take c.loop-i.i es) in
    let fewer = taken_few es c.loop-i.i in
    let few = leaves_few n c.args.a.now.grid r.most in
    omega arith

counted : (es : List (Block × ℕ)) (e : Block × ℕ) (counts : List ℕ) (i j k : ℕ) → i < length es → e ≡ get_or es i e → j < length counts → e.0.side ≡ side j
    → (old : (m : ℕ) → m ≤ 12 → get_or counts m 0 ≡ count_by (λ (d : Block × ℕ). d.0.side == side m) (take i es)) → j ≤ 12 → k ≤ 12
    → get_or (set counts j (get_or counts j 0 + 1)) k 0 ≡ count_by (λ (d : Block × ℕ). d.0.side == side k) (take (i + 1) es)
counted es e counts i j k lt is room size old lj lk =
    ⊎_elim (λ l. other (λ q. omega arith)) (λ ge. ⊎_elim (λ l. other (λ q. omega arith)) (λ le. same (omega arith)) (cases_lt j k)) (cases_lt k j)
  where
    test : ℕ → Block × ℕ → Bool
    test m d = d.0.side == side m

    here : get_or es i e ≡ e
    here = sym is

    same : k ≡ j → get_or (set counts j (get_or counts j 0 + 1)) k 0 ≡ count_by (λ (d : Block × ℕ). d.0.side == side k) (take (i + 1) es)
    same q =
        ap (λ m. get_or (set counts j (get_or counts j 0 + 1)) m 0) q ∙ get_or-set_same counts j (get_or counts j 0 + 1) 0 room ∙ ap (λ z. z + 1) (old j lj)
        ∙ sym (count_by_more_yes (λ (d : Block × ℕ). d.0.side == side j) es i e lt (eq-eqb _ _ (ap (λ (d : Block × ℕ). d.0.side) here ∙ size)))
        ∙ ap (λ m. count_by (λ (d : Block × ℕ). d.0.side == side m) (take (i + 1) es)) (sym q)

    other : (k ≡ j → ⊥) → get_or (set counts j (get_or counts j 0 + 1)) k 0 ≡ count_by (λ (d : Block × ℕ). d.0.side == side k) (take (i + 1) es)
    other q =
        get_or-set_other counts j k (get_or counts j 0 + 1) 0 q ∙ old k lk
        ∙ sym (count_by_more_no (λ (d : Block × ℕ). d.0.side == side k) es i e lt
        (false_from_ne_true _ (λ t. q (pow_same k j (sym (eqb-true _ _ t) ∙ ap (λ (d : Block × ℕ). d.0.side) here ∙ size)))))

pub loop-i-preserved : goal.loop-i-preserved
loop-i-preserved c =
    let n = c.args.a.now.level in
    let es = leaves_by_code n c.args.a.now.grid in
    let lt = c.loop-i-test.true in
    let long = c.len-i-end.ensures.value in
    let size = c.loop-i.invariant.long in
    let most = c.exponent_of.ensures.most in
    record {
      long = length-set {A = ℕ} _ _ _ ∙ size;
      known = λ k le. counted es (leaf_pair c.leaf.result) c.loop-i.counts c.loop-i.i c.exponent_of.result k (omega arith) c.leaf.ensures.value
          (omega arith) c.exponent_of.ensures.value c.loop-i.invariant.known most le;
    }

pub returns : goal.returns
returns c k le =
    let n = c.args.a.now.level in
    let g = c.args.a.now.grid in
    let r = c.len-i-end.ensures.raster in
    let long = c.len-i-end.ensures.value in
    let end = c.loop-i-test.false in
    let all : take c.loop-i.i (leaves_by_code n g) ≡ leaves_by_code n g = take_all c.loop-i.i (leaves_by_code n g) (omega arith) in
    c.loop-i.invariant.known k le ∙ ap (count_by (λ (e : Block × ℕ). e.0.side == side k)) all ∙ same_leaves n g (λ e. cond (eqb e.0.side (side k)) 1 0) r.most
