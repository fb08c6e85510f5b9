-- The blocks after a removal, side by side from the smallest up, are those that the descent finds.
use Rattle.std.proofs.Common.{◌≡◌, ℕ, ◌+◌, ◌/◌, ◌^◌, ◌<◌, ◌≤◌, ◌⊎◌, ◌↔◌, Bool, true, ◌&&◌, List, fold, eqb, nat_le, refl, sym, ap, ◌∙◌, subst, inl, inr, ⊎_elim}
use Rattle.std.proofs.Common.{arith, Contains, pow_pos, pow-suc, eqb-true, eq-eqb}
use Rattle.std.specs.List.{list_all, range_with_len}
use Rattle.std.proofs.lemmas.Bool.{and_parts, and_from, or_cases, or_left, or_right, cases_lt}
use Rattle.std.proofs.lemmas.Nat.{pow_below}
use Rattle.quilt_types.specs.Sets as sets
use Rattle.quilt_types.specs.declared.plane.Block.{Block}
use Rattle.quilt_types.specs.declared.plane.Seg.{Seg}
use Rattle.quilt_types.specs.Plane.{side, blocks, block_cmp, corner, quarters_of, parent_of, IsBlock, Within}
use Rattle.quilt_types.specs.Layers.{SegMap, BlockSet}
use Rattle.quilt_types.specs.Segments.{square, meets}
use Rattle.quilt_types.specs.Quadtrees.{merge, segs_meeting, blocks_of_side, after_remove}
use Rattle.quilt_spell.specs.Apart.{Apart}
use Rattle.quilt_loc.proofs.Members.{Contains-filter, Contains-filter_from, list_all-at, list_all-from}
use Rattle.quilt_loc.proofs.Blocks.{IsBlock-from, Contains-blocks}
use Rattle.quilt_loc.proofs.Nesting.{Within-holds, Within-trans, Holds-corner, IsBlock-parent_of, Within-parent_of}
use Rattle.quilt_loc.proofs.Quartered.{quarters_are, is_quarter, side_le}
use Rattle.quilt_blocks.proofs.Maximal.{Within-self}
use Rattle.quilt_spell.proofs.Lists.{Apart-filter, Apart-rises}
use Rattle.quilt_loc.proofs.InOrder.{Rises-blocks}
use Rattle.quilt_loc.proofs.PlaneOrders.{block_total}
use Rattle.quilt_spell.proofs.facts.FactKeys.{block_same}
use Rattle.quilt_line_laws.proofs.SetLaws.{contains_is}
use Rattle.quilt_line_laws.proofs.Merges.{IsBlockCover}
use Rattle.quilt_line_laws.specs.Merging.{is_one, becomes_one, MergeLaw}
use Rattle.quilt_line_laws.proofs.Cutting.{one_of}
use Rattle.quilt_line_laws.proofs.OneSide.{Merged, IsBig, AfterAll, side_members, wide, smaller}

pub sides_differ : (i j : ℕ) → i < j → side i ≡ side j → ⊥
sides_differ i j lt e = let p = pow_below i j lt in absurd (omega arith)

pub same_level : (i j : ℕ) → side i ≡ side j → i ≡ j
same_level i j e =
    ⊎_elim (λ lt. absurd (sides_differ i j lt e))
    (λ ge. ⊎_elim (λ lt. absurd (sides_differ j i lt (sym e))) (λ le. omega arith) (cases_lt j i)) (cases_lt i j)

-- the first quarter of a block
pub first_quarter : Block → Block
first_quarter b = record { x = b.x; y = b.y; side = b.side / 2 }

pub is_first : (b : Block) → Contains (quarters_of b) (first_quarter b)
unfolding first_quarter
is_first b = (0, omega arith, refl)

-- what `becomes_one` says
pub record Becomes (t : ℕ) (segs : SegMap) (cover : BlockSet) (s : Seg) (k : ℕ) (b : Block) : Type 0 where
  pub met : meets s (square b) ≡ true
  pub all : (q : Block) → Contains (quarters_of b) q → is_one t segs cover s k q ≡ true
  pub few : nat_le (segs_meeting segs b) t ≡ true

module _ (n t : ℕ) (segs : SegMap) (cover : BlockSet) (s : Seg) where
  abbrev one : ℕ → Block → Bool
  one k b = is_one t segs cover s k b

  pub becomes_says : (k : ℕ) (b : Block) → becomes_one t segs cover s k b ≡ true → Becomes t segs cover s k b
  becomes_says k b e =
      let both = and_parts (meets s (square b) && list_all (is_one t segs cover s k) (quarters_of b)) (nat_le (segs_meeting segs b) t) e in
      let two = and_parts (meets s (square b)) (list_all (is_one t segs cover s k) (quarters_of b)) both.0 in
      record { met = two.0; all = λ q c. list_all-at (is_one t segs cover s k) (quarters_of b) q two.1 c; few = both.1 }

  pub becomes_from : (k : ℕ) (b : Block) → Becomes t segs cover s k b → becomes_one t segs cover s k b ≡ true
  becomes_from k b m =
      and_from (meets s (square b) && list_all (is_one t segs cover s k) (quarters_of b)) (nat_le (segs_meeting segs b) t)
      (and_from (meets s (square b)) (list_all (is_one t segs cover s k) (quarters_of b)) m.met
      (list_all-from (is_one t segs cover s k) (quarters_of b) m.all)) m.few

  pub one_cases : (k : ℕ) (b : Block) → one (ℕ.suc k) b ≡ true → Contains (sets.items cover) b ⊎ Becomes t segs cover s k b
  one_cases k b e =
      ⊎_elim (λ c. inl ((contains_is block_total block_same cover b).0 c)) (λ m. inr (becomes_says k b m))
      (or_cases (sets.contains cover b) (becomes_one t segs cover s k b) e)

  pub one_here : (k : ℕ) (b : Block) → Contains (sets.items cover) b → one k b ≡ true
  one_here ℕ.zero b c = (contains_is block_total block_same cover b).1 c
  one_here (ℕ.suc k) b c = or_left (sets.contains cover b) (becomes_one t segs cover s k b) ((contains_is block_total block_same cover b).1 c)

  pub one_becomes : (k : ℕ) (b : Block) → Becomes t segs cover s k b → one (ℕ.suc k) b ≡ true
  one_becomes k b m = or_right (sets.contains cover b) (becomes_one t segs cover s k b) (becomes_from k b m)

  -- a block that is one has a block of the set in it
  pub one_inside : (k : ℕ) (b : Block) → IsBlock n b → b.side ≡ side k → one k b ≡ true → (c : Block) × Contains (sets.items cover) c × Within c b
  one_inside ℕ.zero b hb e o = (b, (contains_is block_total block_same cover b).0 o, Within-self b)
  one_inside (ℕ.suc k) b hb e o =
      ⊎_elim
      (λ c. (b, c, Within-self b))
      (λ m.
      let big : IsBig t segs s n k b = record { block = hb; size = e } in
      let q = first_quarter b in
      let i = quarters_are n b q hb (wide t segs s n k b big) (is_first b) in
      let r = one_inside k q i.block (smaller t segs s n k b q big (is_first b)) (m.all q (is_first b)) in
      (r.0, r.1, Within-trans r.0 q b r.2 i.within))
      (one_cases k b o)

  -- what is known of the set when the sides up to 2 ^ k are done
  pub record IsDone (k : ℕ) (now : BlockSet) : Type 0 where
    pub above : (j : ℕ) (q : Block) → k < j → IsBlock n q → q.side ≡ side j → Contains (sets.items now) q ↔ Contains (sets.items cover) q
    pub at : (q : Block) → IsBlock n q → q.side ≡ side k → Contains (sets.items now) q ↔ (one k q ≡ true)
    pub below : (j : ℕ) (q : Block) → j < k → IsBlock n q → q.side ≡ side j
        → Contains (sets.items now) q ↔ ((one j q ≡ true) × (one (ℕ.suc j) (parent_of q) ≡ true → ⊥))

  done_none : IsDone 0 cover
  done_none = record {
    above = λ j q _ _ _. (λ c. c, λ c. c);
    at = λ q _ _. let w = contains_is block_total block_same cover q in (λ c. w.1 c, λ e. w.0 e);
    below = λ j q lt _ _. absurd (omega arith);
  }

  module _ (h : IsBlockCover n cover) where
    -- a block above one that is one is none of the set
    pub parent_away : (k : ℕ) (q p : Block) → IsBlock n q → q.side ≡ side k → one k q ≡ true → Within q p → q.side < p.side → Contains (sets.items cover) p → ⊥
    parent_away k q p hq e o w lt cp =
        let r = one_inside k q hq e o in
        let c = r.0 in
        let hc = h.only c r.1 in
        let i = r.2 in
        let il = i.left in
        let ir = i.right in
        let same = one_of n cover c p h r.1 cp (Within-holds c p (corner c) (Within-trans c q p i w) (Holds-corner n c hc)) in
        let es : c.side ≡ p.side = ap (λ (z : Block). z.side) same in
        absurd (omega arith)

    module _ (k : ℕ) (room : ℕ.suc k ≤ n) where
      abbrev big_ones : List Block
      big_ones = blocks_of_side n (side (ℕ.suc k))

      abbrev Big : Block → Type 0
      Big b = IsBig t segs s n k b

      big_from : (b : Block) → Contains big_ones b → Big b
      big_from b c =
          let f = Contains-filter_from (λ z. eqb z.side (side (ℕ.suc k))) (blocks n) b c in
          record { block = IsBlock-from n b f.0; size = eqb-true b.side (side (ℕ.suc k)) f.1 }

      big_has : (b : Block) → Big b → Contains big_ones b
      big_has b g = Contains-filter (λ z. eqb z.side (side (ℕ.suc k))) (blocks n) b (Contains-blocks n b g.block) (eq-eqb b.side (side (ℕ.suc k)) g.size)

      big_apart : Apart big_ones
      big_apart = Apart-filter (λ z. eqb z.side (side (ℕ.suc k))) (blocks n) (Apart-rises block_cmp block_total (blocks n) (Rises-blocks n))

      quarter_side : (b q : Block) → Big b → Contains (quarters_of b) q → q.side ≡ side k
      quarter_side b q g c = smaller t segs s n k b q g c

      -- the parent of a block of side 2 ^ k
      parent_big : (q : Block) → IsBlock n q → q.side ≡ side k → Big (parent_of q)
      parent_big q hq e =
          let lt : q.side < 2 ^ n = low in
          record { block = IsBlock-parent_of n q hq lt; size = let p = pow-suc 2 k in omega arith }
        where
          low : q.side < 2 ^ n
          low =
              let p = pow-suc 2 k in
              let pos = pow_pos k in
              ⊎_elim (λ l. let w = pow_below (ℕ.suc k) n l in omega arith)
              (λ g. let same : ℕ.suc k ≡ n = omega arith in let v : 2 ^ ℕ.suc k ≡ 2 ^ n = ap (λ z. 2 ^ z) same in omega arith) (cases_lt (ℕ.suc k) n)

      quarter_of_parent : (q : Block) → IsBlock n q → q.side ≡ side k → Contains (quarters_of (parent_of q)) q
      quarter_of_parent q hq e =
          let g = parent_big q hq e in
          let top = side_le n (parent_of q) g.block in
          let gs = g.size in
          let p = pow-suc 2 k in
          let pos = pow_pos k in
          is_quarter n (parent_of q) q g.block hq (omega arith) (Within-parent_of n q hq (omega arith))

      module _ (now : BlockSet) (d : IsDone k now) where
        abbrev next : BlockSet
        next = fold (merge t segs s) now big_ones

        all : (q : Block) → Contains (sets.items next) q ↔ AfterAll t segs s n k now big_ones q
        all q = side_members t segs s n k big_ones now q big_apart big_from

        becomes : (b : Block) → Big b → Merged t segs s now b → Becomes t segs cover s k b
        becomes b g m = record {
          met = m.met;
          all = λ q c. (d.at q (quarters_are n b q g.block (wide t segs s n k b g) c).block (quarter_side b q g c)).0 (m.all q c);
          few = m.few;
        }

        merged : (b : Block) → Big b → Becomes t segs cover s k b → Merged t segs s now b
        merged b g m = record {
          met = m.met;
          all = λ q c. (d.at q (quarters_are n b q g.block (wide t segs s n k b g) c).block (quarter_side b q g c)).1 (m.all q c);
          few = m.few;
        }

        -- a block of another side than 2 ^ k and twice that stays
        other : (j : ℕ) (q : Block) → q.side ≡ side j → (j ≡ ℕ.suc k → ⊥) → (j ≡ k → ⊥) → Contains (sets.items next) q ↔ Contains (sets.items now) q
        other j q e big small = (
          λ c. ⊎_elim (λ w. let g = big_from q w.0 in absurd (big (same_level j (ℕ.suc k) (sym e ∙ g.size)))) (λ w. w.0) ((all q).0 c),
          λ c. (all q).1 (inr (c, λ b m _ y. small (same_level j k (sym e ∙ quarter_side b q (big_from b m) y)))),
        )

        here : (q : Block) → Big q → Contains (sets.items next) q ↔ (one (ℕ.suc k) q ≡ true)
        here q g =
            let up = d.above (ℕ.suc k) q (omega arith) g.block g.size in (
              λ c. ⊎_elim (λ w. one_becomes k q (becomes q g w.1)) (λ w. one_here (ℕ.suc k) q (up.0 w.0)) ((all q).0 c),
              λ o. (all q).1 (⊎_elim
                  (λ c. inr (up.1 c, λ b m _ y. absurd (sides_differ k (ℕ.suc k) (omega arith) (sym (quarter_side b q (big_from b m) y) ∙ g.size))))
                  (λ m. inl (big_has q g, merged q g m)) (one_cases k q o)),
            )

        under : (q : Block) → IsBlock n q → q.side ≡ side k → Contains (sets.items next) q ↔ ((one k q ≡ true) × (one (ℕ.suc k) (parent_of q) ≡ true → ⊥))
        under q hq e =
            let p = parent_of q in
            let g = parent_big q hq e in
            let c4 = quarter_of_parent q hq e in
            let pos = pow_pos k in
            let i = quarters_are n p q g.block (wide t segs s n k p g) c4 in
            let half = i.half in
            let now_one = d.at q hq e in (
              λ c.
                  let w = ⊎_elim (λ v. absurd (sides_differ k (ℕ.suc k) (omega arith) (sym e ∙ (big_from q v.0).size))) (λ v. v) ((all q).0 c) in
                  let o = now_one.0 w.0 in (
                    o,
                    λ u. ⊎_elim
                        (λ cp. parent_away k q p hq e o i.within (omega arith) cp)
                        (λ m. w.1 p (big_has p g) (merged p g m) c4) (one_cases k p u),
                  ),
              λ w. (all q).1 (inr (
                now_one.1 w.0,
                λ b m y z.
                    let gb = big_from b m in
                    let same : p ≡ b = (quarters_are n b q gb.block (wide t segs s n k b gb) z).parent in
                    w.1 (one_becomes k p (subst (Becomes t segs cover s k) (sym same) (becomes b gb y))),
              )),
            )

        done_more : IsDone (ℕ.suc k) next
        done_more = record {
          above = λ j q lt hq e.
              let o = other j q e (λ x. omega arith) (λ x. omega arith) in
              let a = d.above j q (omega arith) hq e in
              (λ c. a.0 (o.0 c), λ c. o.1 (a.1 c));
          at = λ q hq e. here q (record { block = hq; size = e });
          below = λ j q lt hq e.
              ⊎_elim
              (λ l.
              let o = other j q e (λ x. omega arith) (λ x. omega arith) in
              let b = d.below j q l hq e in
              (λ c. b.0 (o.0 c), λ w. o.1 (b.1 w)))
              (λ ge.
              let same : k ≡ j = omega arith in
              subst (λ (i : ℕ). Contains (sets.items next) q ↔ ((one i q ≡ true) × (one (ℕ.suc i) (parent_of q) ≡ true → ⊥))) same
              (under q hq (e ∙ ap (λ z. 2 ^ z) (sym same))))
              (cases_lt j k);
        }

    abbrev sides : BlockSet → ℕ → BlockSet
    sides now k = fold (merge t segs s) now (blocks_of_side n (side k))

    done_all : (m k a : ℕ) (now : BlockSet) → ℕ.suc k ≡ a → k + m ≤ n → IsDone k now → IsDone (k + m) (fold sides now (range_with_len a m))
    done_all ℕ.zero k a now e le d = let same : k ≡ k + 0 = omega arith in subst (λ (z : ℕ). IsDone z now) same d
    done_all (ℕ.suc m) k a now e le d =
        let same : ℕ.suc k + m ≡ k + ℕ.suc m = omega arith in
        let one_more : IsDone (ℕ.suc k) (sides now a) = subst (λ (z : ℕ). IsDone (ℕ.suc k) (sides now z)) e (done_more k (omega arith) now d) in
        subst (λ (z : ℕ). IsDone z (fold sides (sides now a) (range_with_len (a + 1) m))) same
        (done_all m (ℕ.suc k) (a + 1) (sides now a) (omega arith) (omega arith) one_more)

    done_remove : IsDone n (after_remove n t segs cover s)
    unfolding after_remove
    done_remove =
        let same : 0 + n ≡ n = omega arith in
        subst (λ (z : ℕ). IsDone z (after_remove n t segs cover s)) same (done_all n 0 1 cover (omega arith) (omega arith) done_none)

    pub merge_law : MergeLaw n t segs cover s
    merge_law k b hb e =
        let d = done_remove in
        let top = side_le n b hb in
        ⊎_elim
        (λ lt. let w = d.below k b lt hb e in (λ c. let v = w.0 c in (v.0, λ _ u. v.1 u), λ v. w.1 (v.0, v.1 lt)))
        (λ ge.
        let le : k ≤ n = ⊎_elim (λ l. let p = pow_below n k l in absurd (omega arith)) (λ l. l) (cases_lt n k) in
        let same : k ≡ n = omega arith in
        let w = d.at b hb (e ∙ ap (λ z. 2 ^ z) same) in (
          λ c. (subst (λ (z : ℕ). one z b ≡ true) (sym same) (w.0 c), λ l _. absurd (omega arith)),
          λ v. w.1 (subst (λ (z : ℕ). one z b ≡ true) same v.0),
        ))
        (cases_lt k n)
