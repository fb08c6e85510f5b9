-- Four quarters that become one block leave a cover, and so does what follows a segment's end.
use Rattle.std.proofs.Common.{◌≡◌, ℕ, ◌^◌, ◌<◌, ◌≤◌, Bool, true, false, cond, ◌&&◌, ◌↔◌, ◌⊎◌, List, [], ◌∷◌, fold, eqb, nat_le, refl, sym, ◌∙◌, subst, arith}
use Rattle.std.proofs.Common.{Contains, ⊎_elim, inl, inr, eqb-true, pow-suc}
use Rattle.std.specs.List.{range_with_len, list_all}
use Rattle.std.proofs.lemmas.Bool.{and_parts, cases_Bool, both_ways}
use Rattle.quilt_types.specs.declared.plane.Pixel.{Pixel}
use Rattle.quilt_types.specs.declared.plane.Block.{Block}
use Rattle.quilt_types.specs.declared.plane.Seg.{Seg}
use Rattle.quilt_types.specs.Plane.{side, blocks, in_block, quarters_of, Holds, IsBlock}
use Rattle.quilt_types.specs.Layers.{BlockSet, SegMap}
use Rattle.quilt_types.specs.Segments.{square, meets}
use Rattle.quilt_types.specs.Quadtrees.{is_merged, merge, segs_meeting, blocks_of_side, after_remove}
use Rattle.quilt_types.specs.Sets as sets
use Rattle.quilt_loc.proofs.Members.{Contains-here, Contains-there, Contains-filter_from, Contains-range_from, list_all-at}
use Rattle.quilt_loc.proofs.Blocks.{Holds-from, in_block-true, IsBlock-from}
use Rattle.quilt_loc.proofs.Nesting.{Within-holds, nested, around}
use Rattle.quilt_loc.proofs.Quartered.{quarters_are, is_quarter, wide_side}
use Rattle.quilt_loc.proofs.Around.{IsBlock-around, Holds-around}
use Rattle.quilt_loc.proofs.PlaneOrders.{block_total}
use Rattle.quilt_spell.proofs.facts.FactKeys.{block_same}
use Rattle.quilt_line_laws.proofs.SetLaws.{contains_is, items-insert, items-removes}
use Rattle.quilt_line_laws.proofs.Covers.{IsCover}

-- a cover by blocks of the square
pub record IsBlockCover (n : ℕ) (cover : BlockSet) : Type 0 where
  pub only : (b : Block) → Contains (sets.items cover) b → IsBlock n b
  pub covers : IsCover n cover

pub fold_keeps : {A B : Type 0} (P : B → Type 0) (f : B → A → B) (xs : List A) → ((b : B) (x : A) → Contains xs x → P b → P (f b x))
    → (b : B) → P b → P (fold f b xs)
fold_keeps P f [] keeps b p = p
fold_keeps P f (x ∷ xs) keeps b p = fold_keeps P f xs (λ c y m q. keeps c y (Contains-there x xs y m) q) (f b x) (keeps b x (Contains-here x xs) p)

-- the quarter that holds a pixel of the block
quarter_at : (n : ℕ) (b : Block) (p : Pixel) → IsBlock n b → 1 < b.side → p.x < 2 ^ n → p.y < 2 ^ n → Holds b p
    → (q : Block) × Contains (quarters_of b) q × Holds q p
quarter_at n b p hb wide hx hy h = at hb.level hb.low hb.size
  where
    at : (l : ℕ) → l ≤ n → b.side ≡ 2 ^ l → (q : Block) × Contains (quarters_of b) q × Holds q p
    at ℕ.zero le s = absurd (omega arith)
    at (ℕ.suc k) le s =
        let r = around (2 ^ k) p in
        let hr = IsBlock-around n k p (omega arith) hx hy in
        let on = Holds-around k p in
        let p2 = pow-suc 2 k in
        (r, is_quarter n b r hb hr (omega arith) (nested n r b p hr hb (omega arith) on h), on)

unfoldable pub joined : BlockSet → Block → BlockSet
joined cover b = sets.insert (fold sets.remove cover (quarters_of b)) b

pub joined_members : (cover : BlockSet) (b q : Block) → Contains (sets.items (joined cover b)) q
    ↔ ((q ≡ b) ⊎ (Contains (sets.items cover) q × (Contains (quarters_of b) q → ⊥)))
unfolding joined
joined_members cover b q =
    let ins = items-insert block_total block_same (fold sets.remove cover (quarters_of b)) b q in
    let rem = items-removes block_total block_same (quarters_of b) cover q in
    (λ c. ⊎_elim (λ e. inl e) (λ d. inr (rem.0 d)) (ins.0 c), λ w. ins.1 (⊎_elim (λ e. inl e) (λ d. inr (rem.1 d)) w))

pub joined-cover : (n : ℕ) (cover : BlockSet) (b : Block) → IsBlock n b → 1 < b.side
    → ((q : Block) → Contains (quarters_of b) q → Contains (sets.items cover) q) → IsBlockCover n cover → IsBlockCover n (joined cover b)
joined-cover n cover b hb wide all h = record {
  only = λ q c. ⊎_elim (λ e. subst (IsBlock n) (sym e) hb) (λ d. h.only q d.0) ((joined_members cover b q).0 c);
  covers = record {
    holder = λ p hx hy. ⊎_elim
        (λ t. (b, (joined_members cover b b).1 (inl refl), Holds-from b p t))
        (λ f.
        let r = h.covers.holder p hx hy in (
          r.0,
          (joined_members cover b r.0).1
              (inr (r.1, λ m. both_ways (in_block b p) f (in_block-true b p (Within-holds r.0 b p (quarters_are n b r.0 hb wide m).within r.2)))),
          r.2,
        ))
        (cases_Bool (in_block b p));
    one = λ p hx hy u v cu hu cv hv.
        let apart = λ (w : Block) (kept : Contains (sets.items cover) w × (Contains (quarters_of b) w → ⊥)) (hw : Holds w p) (on : Holds b p).
        let q = quarter_at n b p hb wide hx hy on in
        kept.1 (subst (Contains (quarters_of b)) (h.covers.one p hx hy q.0 w (all q.0 q.1) q.2 kept.0 hw) q.1) in
        ⊎_elim
        (λ eu. ⊎_elim (λ ev. eu ∙ sym ev) (λ kv. absurd (apart v kv hv (subst (λ (z : Block). Holds z p) eu hu))) ((joined_members cover b v).0 cv))
        (λ ku. ⊎_elim (λ ev. absurd (apart u ku hu (subst (λ (z : Block). Holds z p) ev hv))) (λ kv. h.covers.one p hx hy u v ku.0 hu kv.0 hv)
        ((joined_members cover b v).0 cv))
        ((joined_members cover b u).0 cu);
  };
}

merge_by : (t : Bool) (n : ℕ) (cover : BlockSet) (b : Block) → IsBlock n b → 1 < b.side
    → (t ≡ true → (q : Block) → Contains (quarters_of b) q → Contains (sets.items cover) q) → IsBlockCover n cover
    → IsBlockCover n (cond t (joined cover b) cover)
merge_by true n cover b hb wide all h = joined-cover n cover b hb wide (all refl) h
merge_by false n cover b hb wide all h = h

pub merge-cover : (n t : ℕ) (segs : SegMap) (s : Seg) (cover : BlockSet) (b : Block) → IsBlock n b → 1 < b.side → IsBlockCover n cover
    → IsBlockCover n (merge t segs s cover b)
unfolding joined
merge-cover n t segs s cover b hb wide h =
    merge_by (is_merged t segs cover s b) n cover b hb wide
    (λ e q c.
    let both = and_parts (meets s (square b) && list_all (sets.contains cover) (quarters_of b)) (nat_le (segs_meeting segs b) t) e in
    let held = and_parts (meets s (square b)) (list_all (sets.contains cover) (quarters_of b)) both.0 in
    (contains_is block_total block_same cover q).0 (list_all-at (sets.contains cover) (quarters_of b) q held.1 c)) h

-- after a segment went the blocks are a cover still
pub after_remove-cover : (n t : ℕ) (segs : SegMap) (cover : BlockSet) (s : Seg) → IsBlockCover n cover → IsBlockCover n (after_remove n t segs cover s)
unfolding after_remove
after_remove-cover n t segs cover s h =
    fold_keeps (IsBlockCover n) (λ now k. fold (merge t segs s) now (blocks_of_side n (side k))) (range_with_len 1 n)
    (λ now k mk good. fold_keeps (IsBlockCover n) (merge t segs s) (blocks_of_side n (side k))
    (λ c b mb ok.
    let f = Contains-filter_from (λ z. eqb z.side (side k)) (blocks n) b mb in
    let e = eqb-true b.side (side k) f.1 in
    let low = (Contains-range_from 1 n k mk).0 in
    let wide : 1 < side k = wide_side k low in
    merge-cover n t segs s c b (IsBlock-from n b f.0) (omega arith) ok) now good)
    cover h
