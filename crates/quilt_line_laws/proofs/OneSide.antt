-- What merging all blocks of one side does: they do not disturb each other.
use Rattle.std.proofs.Common.{◌≡◌, ℕ, ◌<◌, ◌⊎◌, ◌↔◌, Bool, true, false, cond, ◌&&◌, List, [], ◌∷◌, fold, nat_le, refl, sym, ◌∙◌, subst, inl, inr, ⊎_elim, arith}
use Rattle.std.proofs.Common.{Contains, pow_pos, pow-suc}
use Rattle.std.specs.List.{list_all}
use Rattle.std.proofs.lemmas.Bool.{and_parts, and_from, both_ways}
use Rattle.quilt_types.specs.Sets as sets
use Rattle.quilt_types.specs.declared.plane.Block.{Block}
use Rattle.quilt_types.specs.declared.plane.Seg.{Seg}
use Rattle.quilt_types.specs.Plane.{side, quarters_of, IsBlock}
use Rattle.quilt_types.specs.Layers.{SegMap, BlockSet}
use Rattle.quilt_types.specs.Segments.{square, meets}
use Rattle.quilt_types.specs.Quadtrees.{is_merged, merge, segs_meeting}
use Rattle.quilt_spell.specs.Apart.{Apart}
use Rattle.quilt_loc.proofs.Members.{Contains-nil, Contains-here, Contains-there, Contains-cons_cases, list_all-at, list_all-from}
use Rattle.quilt_loc.proofs.Quartered.{quarters_are}
use Rattle.quilt_loc.proofs.PlaneOrders.{block_total}
use Rattle.quilt_spell.proofs.facts.FactKeys.{block_same}
use Rattle.quilt_line_laws.proofs.SetLaws.{contains_is}
use Rattle.quilt_line_laws.proofs.Merges.{joined, joined_members}

-- the test of a merge, in words
pub record Merged (t : ℕ) (segs : SegMap) (s : Seg) (now : BlockSet) (b : Block) : Type 0 where
  pub met : meets s (square b) ≡ true
  pub all : (q : Block) → Contains (quarters_of b) q → Contains (sets.items now) q
  pub few : nat_le (segs_meeting segs b) t ≡ true

module _ (t : ℕ) (segs : SegMap) (s : Seg) where
  pub merged_says : (now : BlockSet) (b : Block) → is_merged t segs now s b ≡ true → Merged t segs s now b
  merged_says now b e =
      let both = and_parts (meets s (square b) && list_all (sets.contains now) (quarters_of b)) (nat_le (segs_meeting segs b) t) e in
      let two = and_parts (meets s (square b)) (list_all (sets.contains now) (quarters_of b)) both.0 in
      record {
        met = two.0;
        all = λ q c. (contains_is block_total block_same now q).0 (list_all-at (sets.contains now) (quarters_of b) q two.1 c);
        few = both.1;
      }

  pub merged_from : (now : BlockSet) (b : Block) → Merged t segs s now b → is_merged t segs now s b ≡ true
  merged_from now b m =
      and_from (meets s (square b) && list_all (sets.contains now) (quarters_of b)) (nat_le (segs_meeting segs b) t)
      (and_from (meets s (square b)) (list_all (sets.contains now) (quarters_of b)) m.met
      (list_all-from (sets.contains now) (quarters_of b) (λ q c. (contains_is block_total block_same now q).1 (m.all q c)))) m.few

  -- the members after one merge, or none
  abbrev pub AfterOne : BlockSet → Block → Block → Type 0
  AfterOne now b q = (Merged t segs s now b × (q ≡ b)) ⊎ (Contains (sets.items now) q × (Merged t segs s now b → Contains (quarters_of b) q → ⊥))

  by_test : (now : BlockSet) (b q : Block) (u : Bool) → is_merged t segs now s b ≡ u → Contains (sets.items (cond u (joined now b) now)) q ↔ AfterOne now b q
  by_test now b q true e =
      let w = joined_members now b q in
      let yes = merged_says now b e in (
        λ c. ⊎_elim (λ is. inl (yes, is)) (λ d. inr (d.0, λ _ m. d.1 m)) (w.0 c),
        λ a. w.1 (⊎_elim (λ d. inl d.1) (λ d. inr (d.0, d.1 yes)) a),
      )
  by_test now b q false e = (
    λ c. inr (c, λ m _. both_ways (is_merged t segs now s b) e (merged_from now b m)),
    λ a. ⊎_elim (λ d. absurd (both_ways (is_merged t segs now s b) e (merged_from now b d.0))) (λ d. d.0) a,
  )

  pub merge_members : (now : BlockSet) (b q : Block) → Contains (sets.items (merge t segs s now b)) q ↔ AfterOne now b q
  unfolding joined
  merge_members now b q = by_test now b q (is_merged t segs now s b) refl

  module _ (n k : ℕ) where
    -- a block of the square of side 2 ^ (k + 1)
    pub record IsBig (b : Block) : Type 0 where
      pub block : IsBlock n b
      pub size : b.side ≡ side (ℕ.suc k)

    pub wide : (b : Block) → IsBig b → 1 < b.side
    wide b h = let e = h.size in let p = pow_pos k in let q = pow-suc 2 k in omega arith

    -- a quarter is no block of that side
    pub smaller : (b q : Block) → IsBig b → Contains (quarters_of b) q → q.side ≡ side k
    smaller b q h c =
        let i = quarters_are n b q h.block (wide b h) c in
        let half = i.half in
        let e = h.size in
        let p = pow-suc 2 k in
        omega arith

    not_big : (b q : Block) → IsBig b → IsBig q → Contains (quarters_of b) q → ⊥
    not_big b q hb hq c =
        let e = smaller b q hb c in let f = hq.size in let p = pow_pos k in let d = pow-suc 2 k in absurd (omega arith)

    -- two blocks of a side have no quarter in common
    same_parent : (a b q : Block) → IsBig a → IsBig b → Contains (quarters_of a) q → Contains (quarters_of b) q → a ≡ b
    same_parent a b q ha hb ca cb =
        sym (quarters_are n a q ha.block (wide a ha) ca).parent ∙ (quarters_are n b q hb.block (wide b hb) cb).parent

    -- merging one leaves the test of another
    test_stays : (now : BlockSet) (b c : Block) → IsBig b → IsBig c → (b ≡ c → ⊥) → Merged t segs s (merge t segs s now b) c ↔ Merged t segs s now c
    test_stays now b c hb hc differ = (
      λ m. record {
        met = m.met;
        all = λ q d.
            ⊎_elim (λ w. absurd (not_big c b hc hb (subst (Contains (quarters_of c)) w.1 d))) (λ w. w.0) ((merge_members now b q).0 (m.all q d));
        few = m.few;
      },
      λ m. record {
        met = m.met;
        all = λ q d. (merge_members now b q).1 (inr (m.all q d, λ _ e. differ (same_parent b c q hb hc e d)));
        few = m.few;
      },
    )

    -- the members after all of them
    abbrev pub AfterAll : BlockSet → List Block → Block → Type 0
    AfterAll now bs q =
        (Contains bs q × Merged t segs s now q)
        ⊎ (Contains (sets.items now) q × ((b : Block) → Contains bs b → Merged t segs s now b → Contains (quarters_of b) q → ⊥))

    pub side_members : (bs : List Block) (now : BlockSet) (q : Block) → Apart bs → ((b : Block) → Contains bs b → IsBig b)
        → Contains (sets.items (fold (merge t segs s) now bs)) q ↔ AfterAll now bs q
    side_members [] now q apart big = (
      λ c. inr (c, λ b d _ _. Contains-nil b d),
      λ a. ⊎_elim (λ w. absurd (Contains-nil q w.0)) (λ w. w.0) a,
    )
    side_members (b ∷ bs) now q apart big =
        let next = merge t segs s now b in
        let hb = big b (Contains-here b bs) in
        let more = λ (c : Block) (m : Contains bs c). big c (Contains-there b bs c m) in
        let other = λ (c : Block) (m : Contains bs c) (e : b ≡ c). apart.0 (subst (Contains bs) (sym e) m) in
        let rest = side_members bs next q apart.1 more in
        let step = merge_members now b q in
        let stays = λ (c : Block) (m : Contains bs c). test_stays now b c hb (more c m) (other c m) in (
          λ c.
              ⊎_elim
              (λ w. inl (Contains-there b bs q w.0, (stays q w.0).0 w.1))
              (λ w.
              ⊎_elim
              (λ d. inl (subst (Contains (b ∷ bs)) (sym d.1) (Contains-here b bs), subst (Merged t segs s now) (sym d.1) d.0))
              (λ d. inr (
                d.0,
                λ z m y e.
                    ⊎_elim
                    (λ is. d.1 (subst (Merged t segs s now) (sym is) y) (subst (λ (v : Block). Contains (quarters_of v) q) (sym is) e))
                    (λ r. w.1 z r ((stays z r).1 y) e)
                    (Contains-cons_cases b bs z m),
              ))
              (step.0 w.0))
              (rest.0 c),
          λ a.
              ⊎_elim
              (λ w.
              ⊎_elim
              (λ is.
              rest.1 (inr (step.1 (inl (subst (Merged t segs s now) (sym is) w.1, sym is)), λ z m _ e. not_big z q (more z m) (subst IsBig is hb) e)))
              (λ r. rest.1 (inl (r, (stays q r).1 w.1)))
              (Contains-cons_cases b bs q w.0))
              (λ w. rest.1 (inr (step.1 (inr (w.0, λ m e. w.1 b (Contains-here b bs) m e)), λ z r y e. w.1 z (Contains-there b bs z r) ((stays z r).0 y) e)))
              a,
        )
