-- The points of the quarters of a block together.
use Rattle.std.proofs.Common.{◌≡◌, ℕ, zero, suc, ◌<◌, ◌^◌, ◌↔◌, Bool, true, List, [], ◌∷◌, ◌++◌, length, take, get_or, refl, sym, ◌∙◌, ap, subst, ⊎_elim, arith}
use Rattle.std.proofs.Common.{Contains, pow_pos, pow-suc}
use Rattle.std.specs.FinMap as finmap
use Rattle.std.proofs.lemmas.List.Elements.{Contains-append_left, Contains-append_right, Contains-append_cases}
use Rattle.quilt_types.specs.declared.plane.Pixel.{Pixel}
use Rattle.quilt_types.specs.declared.plane.Block.{Block}
use Rattle.quilt_types.specs.Plane.{in_block, quarters_of, whole, IsBlock}
use Rattle.quilt_types.specs.Layers.{PointMap}
use Rattle.quilt_loc.proofs.Members.{Contains-nil, Contains-here, Contains-cons_cases, Contains-filter, Contains-filter_from}
use Rattle.quilt_loc.proofs.Blocks.{Holds-from, in_block-true}
use Rattle.quilt_loc.proofs.Nesting.{around, Within-holds, nested, same_block_from, side_pos}
use Rattle.quilt_loc.proofs.Around.{IsBlock-around, Holds-around}
use Rattle.quilt_loc.proofs.Quartered.{quarters_are, Within-whole, halved}
use Rattle.quilt_blocks.proofs.Maximal.{quarter_with}
use Rattle.quilt_spell.specs.Apart.{Apart}
use Rattle.quilt_spell.proofs.Lists.{Apart-append}
use Rattle.quilt_point_laws.specs.Laws.{AreIn}
use Rattle.quilt_point_laws.proofs.Cuts.{quarters_apart}
use Rattle.quilt_points.specs.Reads.{ArePointsOf}
use Rattle.quilt_edits.proofs.Lists.{member_at, taken_there}

-- ---- which quarters come first
not_taken : {X : Type 0} (xs : List X) (i : ℕ) (d : X) → Apart xs → i < length xs → Contains (take i xs) (get_or xs i d) → ⊥
not_taken [] i d h lt c = absurd (omega arith)
not_taken (x ∷ xs) zero d h lt c = Contains-nil x c
not_taken (x ∷ xs) (suc i) d h lt c =
    ⊎_elim (λ e. h.0 (subst (Contains xs) (sym e) (member_at xs i d (omega arith)))) (λ m. not_taken xs i d h.1 (omega arith) m)
    (Contains-cons_cases x (take i xs) (get_or xs i d) c)

-- a quarter before another has none of its pixels
pub quarter_before : (n : ℕ) (b : Block) (qs : List Block) (i : ℕ) (d : Block) → IsBlock n b → 1 < b.side → qs ≡ quarters_of b → i < 4
    → (r : Block) → Contains (take i qs) r → (p : Pixel) → in_block r p ≡ true → in_block (get_or qs i d) p ≡ true → ⊥
quarter_before n b qs i d hb wide are lt r c p on here =
    let m : Contains (take i (quarters_of b)) r = subst (λ (l : List Block). Contains (take i l) r) are c in
    let q = get_or (quarters_of b) i d in
    let same : get_or qs i d ≡ q = ap (λ (l : List Block). get_or l i d) are in
    let hr = quarters_are n b r hb wide (taken_there (quarters_of b) i r m) in
    let hq = quarters_are n b q hb wide (member_at (quarters_of b) i d lt) in
    let a = hr.half in
    let z = hq.half in
    let pos = side_pos n q hq.block in
    let one =
    same_block_from n r q p hr.block hq.block (omega arith) (Holds-from r p on) (Holds-from q p (ap (λ (s : Block). in_block s p) (sym same) ∙ here)) in
    not_taken (quarters_of b) i d (quarters_apart b wide (omega arith)) lt (subst (Contains (take i (quarters_of b))) one m)

-- the points of several blocks
pub record AreOfAll (points : PointMap) (test : Pixel → Bool) (qs : List Block) (held : List (Pixel × ℕ)) : Type 0 where
  pub once : Apart held
  pub members : (e : Pixel × ℕ)
      → Contains held e ↔ (Contains (finmap.entries points) e × (test e.0 ≡ true) × ((q : Block) × Contains qs q × (in_block q e.0 ≡ true)))

module _ (points : PointMap) (test : Pixel → Bool) where
  pub all_none : AreOfAll points test [] []
  all_none = record { once = tt; members = λ e. (λ c. absurd (Contains-nil e c), λ w. let m = w.2 in absurd (Contains-nil m.0 m.1)) }

  pub all_next : (qs : List Block) (q : Block) (all here : List (Pixel × ℕ)) → AreOfAll points test qs all → ArePointsOf points test q here
      → ((r : Block) → Contains qs r → (p : Pixel) → in_block r p ≡ true → in_block q p ≡ true → ⊥) → AreOfAll points test (qs ++ q ∷ []) (all ++ here)
  all_next qs q all here h k apart = record {
    once = Apart-append all here h.once k.once (λ e c d.
        let w = (h.members e).0 c in
        let v = (k.members e).0 d in
        let r = w.2 in
        apart r.0 r.1 e.0 r.2 v.2);
    members = λ e. (
      λ c. ⊎_elim
          (λ d. let w = (h.members e).0 d in let r = w.2 in (w.0, w.1, (r.0, Contains-append_left qs (q ∷ []) r.0 r.1, r.2)))
          (λ d. let w = (k.members e).0 d in (w.0, w.1, (q, Contains-append_right qs (q ∷ []) q (Contains-here q []), w.2)))
          (Contains-append_cases all here e c),
      λ w.
          let r = w.2 in
          ⊎_elim
          (λ d. Contains-append_left all here e ((h.members e).1 (w.0, w.1, (r.0, d, r.2))))
          (λ d.
          let is : q ≡ r.0 = ⊎_elim (λ s. s) (λ none. absurd (Contains-nil r.0 none)) (Contains-cons_cases q [] r.0 d) in
          Contains-append_right all here e ((k.members e).1 (w.0, w.1, ap (λ (s : Block). in_block s e.0) is ∙ r.2)))
          (Contains-append_cases qs (q ∷ []) r.0 r.1),
    );
  }

  -- those of the four quarters are those of the block
  pub all_quarters : (n : ℕ) (b : Block) (all : List (Pixel × ℕ)) → IsBlock n b → 1 < b.side → AreOfAll points test (quarters_of b) all
      → ArePointsOf points test b all
  all_quarters n b all hb wide h = record {
    once = h.once;
    members = λ e. (
      λ c.
          let w = (h.members e).0 c in
          let r = w.2 in
          let q = quarters_are n b r.0 hb wide r.1 in
          (w.0, w.1, in_block-true b e.0 (Within-holds r.0 b e.0 q.within (Holds-from r.0 e.0 r.2))),
      λ w.
          let on = Holds-from b e.0 w.2 in
          let v = halved n b hb wide in
          let p2 = pow-suc 2 v.0 in
          let pos = pow_pos v.0 in
          let half = v.3 in
          let size = v.2 in
          let sq = Within-holds b (whole n) e.0 (Within-whole n b hb) on in
          let sr = sq.right in
          let sb = sq.bottom in
          let a = around (2 ^ 0) e.0 in
          let ha = IsBlock-around n 0 e.0 (omega arith) (omega arith) (omega arith) in
          let one = Holds-around 0 e.0 in
          let r = quarter_with n v.0 a b ha hb size (omega arith) (nested n a b e.0 ha hb (omega arith) one on) in
          (h.members e).1 (w.0, w.1, (r.0, r.1, in_block-true r.0 e.0 (Within-holds a r.0 e.0 r.2 one))),
    );
  }

-- ---- all points of a block
pub of_from : (points : PointMap) (b : Block) (held : List (Pixel × ℕ)) → AreIn points b held → ArePointsOf points (λ p. true) b held
of_from points b held h = record {
  once = h.once;
  members = λ e. (
    λ c. let w = Contains-filter_from (λ (d : Pixel × ℕ). in_block b d.0) (finmap.entries points) e ((h.members e).0 c) in (w.0, refl, w.1),
    λ w. (h.members e).1 (Contains-filter (λ (d : Pixel × ℕ). in_block b d.0) (finmap.entries points) e w.0 w.2),
  );
}

pub of_is : (points : PointMap) (b : Block) (held : List (Pixel × ℕ)) → ArePointsOf points (λ p. true) b held → AreIn points b held
of_is points b held h = record {
  once = h.once;
  members = λ e. (
    λ c. let w = (h.members e).0 c in Contains-filter (λ (d : Pixel × ℕ). in_block b d.0) (finmap.entries points) e w.0 w.2,
    λ c. let w = Contains-filter_from (λ (d : Pixel × ℕ). in_block b d.0) (finmap.entries points) e c in (h.members e).1 (w.0, refl, w.1),
  );
}
