-- Blocks of one layer that come one after another.
use Rattle.std.proofs.Common.{◌≡◌, ℕ, ◌+◌, ◌*◌, ◌/◌, ◌^◌, ◌<◌, ◌≤◌, true, List, [], ◌∷◌, ◌++◌, map, length, get_or, drop, refl, sym, ◌∙◌, ap, subst, ⊎_elim}
use Rattle.std.proofs.Common.{arith, Contains, append_assoc, eqb}
use Rattle.std.proofs.lemmas.Bool.{cases_Bool, cases_lt, cond-true, cond-false}
use Rattle.std.proofs.lemmas.List.{get_or_past}
use Rattle.quilt_types.specs.declared.plane.Pixel.{Pixel}
use Rattle.quilt_types.specs.declared.plane.Block.{Block}
use Rattle.quilt_types.specs.Plane.{side, quarters_of, Holds, IsBlock}
use Rattle.quilt_types.specs.Layers.{Grid, IsGrid, colours}
use Rattle.quilt_types.specs.Quadtrees.{leaves, is_uniform}
use Rattle.quilt_loc.specs.Codes.{code_from}
use Rattle.quilt_loc.proofs.Members.{Contains-nil, Contains-map, Contains-map_from}
use Rattle.quilt_loc.proofs.Nesting.{side_pos}
use Rattle.quilt_loc.proofs.Quartered.{quarters_are, side_le}
use Rattle.quilt_record.specs.declared.record.Record.{Record}
use Rattle.quilt_blocks.specs.declared.leaf.Leaf.{Leaf}
use Rattle.quilt_blocks.specs.Cutting.{leaves_by_code, leaf_pair}
use Rattle.quilt_blocks.specs.Mosaic.{HasColour}
use Rattle.quilt_blocks.specs.Listing.{IsUnmerged, IsMaking, EndsInQuarters, leaf_pairs}
use Rattle.quilt_blocks.proofs.Chains.{size_of-nil, size_of-cons, size_of-append}
use Rattle.quilt_blocks.proofs.Colours.{uniform-from_HasColour, colour_is}
use Rattle.quilt_blocks.proofs.Cuts.{leaves_run, leaves_members, leaf_is}
use Rattle.quilt_blocks.proofs.Merging.{IsGrowing-push, IsUnmerged-end}
use Rattle.quilt_spell.proofs.Spelling.{all_from}
use Rattle.quilt_spell.specs.OfLayer.{leaf_record}
use Rattle.quilt_audit.specs.Regions.{HasBlocks, AreLaid, nothing, no_leaves, EndsIn, AreSiblings}
use Rattle.quilt_audit.proofs.Lists.{last_cases, in_front, at_last, same_tail}

-- ---- the records of blocks
module _ (rs : List Record) (k n : ℕ) (bs : List (Block × ℕ)) (h : HasBlocks rs k n bs) where
  -- a record of another layer
  pub HasBlocks-other : (r : Record) → (r.key.layer ≡ k → ⊥) → HasBlocks (rs ++ r ∷ []) k n bs
  HasBlocks-other r apart = record {
    each = λ e c. in_front rs r (leaf_record n k e) (h.each e c);
    only = λ s c is. ⊎_elim (λ d. h.only s d is) (λ e. absurd (apart (ap (λ (z : Record). z.key.layer) e ∙ is))) (last_cases rs r s c);
  }

  -- a block more
  pub HasBlocks-more : (e : Block × ℕ) → HasBlocks (rs ++ leaf_record n k e ∷ []) k n (bs ++ e ∷ [])
  HasBlocks-more e = record {
    each = λ d c. ⊎_elim (λ m. in_front rs (leaf_record n k e) (leaf_record n k d) (h.each d m))
        (λ is. subst (λ (z : Block × ℕ). Contains (rs ++ leaf_record n k e ∷ []) (leaf_record n k z)) is (at_last rs (leaf_record n k e)))
        (last_cases bs e d c);
    only = λ s c is. ⊎_elim
        (λ m.
        let w = Contains-map_from (leaf_record n k) bs s (h.only s m is) in
        subst (Contains (map (leaf_record n k) (bs ++ e ∷ []))) w.2 (Contains-map (leaf_record n k) (bs ++ e ∷ []) w.0 (in_front bs e w.0 w.1)))
        (λ same. subst (Contains (map (leaf_record n k) (bs ++ e ∷ []))) same (Contains-map (leaf_record n k) (bs ++ e ∷ []) e (at_last bs e)))
        (last_cases rs (leaf_record n k e) s c);
  }

pub HasBlocks-none : (rs : List Record) (k n : ℕ) → ((r : Record) → Contains rs r → r.key.layer ≡ k → ⊥) → HasBlocks rs k n []
HasBlocks-none rs k n apart = record { each = λ e c. absurd (Contains-nil e c); only = λ r c is. absurd (apart r c is) }

-- ---- the last blocks
pub EndsIn-more : (bs : List (Block × ℕ)) (a b c d : Leaf) → EndsIn bs (a ∷ b ∷ c ∷ []) → EndsIn (bs ++ leaf_pair d ∷ []) (b ∷ c ∷ d ∷ [])
EndsIn-more bs a b c d h = record {
  three = refl;
  front = h.front ++ leaf_pair a ∷ [];
  split = sym (append_assoc (leaf_pairs no_leaves) bs (leaf_pair d ∷ [])) ∙ ap (λ l. l ++ leaf_pair d ∷ []) h.split
      ∙ append_assoc h.front (leaf_pairs (a ∷ b ∷ c ∷ [])) (leaf_pair d ∷ []) ∙ sym (append_assoc h.front (leaf_pair a ∷ []) (leaf_pairs (b ∷ c ∷ d ∷ [])));
}

pub EndsIn-none : EndsIn [] no_leaves
EndsIn-none = record { three = refl; front = []; split = refl }

cut_front : (bs front : List (Block × ℕ)) (w : Block × ℕ) → 1 < w.0.side → leaf_pairs no_leaves ++ bs ≡ front ++ map (λ q. (q, w.1)) (quarters_of w.0)
    → (f : List (Block × ℕ)) × (bs ≡ f ++ map (λ q. (q, w.1)) (quarters_of w.0))
cut_front bs [] w wide e = let g = ap (λ (l : List (Block × ℕ)). (get_or l 0 (leaf_pair nothing)).0.side) e in absurd (omega arith)
cut_front bs (x ∷ []) w wide e = let g = ap (λ (l : List (Block × ℕ)). (get_or l 1 (leaf_pair nothing)).0.side) e in absurd (omega arith)
cut_front bs (x ∷ y ∷ []) w wide e = let g = ap (λ (l : List (Block × ℕ)). (get_or l 2 (leaf_pair nothing)).0.side) e in absurd (omega arith)
cut_front bs (x ∷ y ∷ z ∷ f) w wide e = let r : bs ≡ f ++ map (λ q. (q, w.1)) (quarters_of w.0) = ap (λ (l : List (Block × ℕ)). drop 3 l) e in (f, r)

-- four siblings are the last four blocks
pub siblings_end : (n : ℕ) (bs : List (Block × ℕ)) (a b c d : Leaf) (w : Block × ℕ) → EndsIn bs (a ∷ b ∷ c ∷ [])
    → AreSiblings n (a ∷ b ∷ c ∷ d ∷ []) w → EndsInQuarters n (bs ++ leaf_pair d ∷ []) w
siblings_end n bs a b c d w h s =
    let all = sym (append_assoc (leaf_pairs no_leaves) bs (leaf_pair d ∷ [])) ∙ ap (λ l. l ++ leaf_pair d ∷ []) h.split
    ∙ append_assoc h.front (leaf_pairs (a ∷ b ∷ c ∷ [])) (leaf_pair d ∷ []) ∙ ap (λ l. h.front ++ l) s.quarters in
    let r = cut_front (bs ++ leaf_pair d ∷ []) h.front w s.wide all in
    record { block = s.block; wide = s.wide; front = r.0; split = r.1 }

pub end_siblings : (n : ℕ) (bs : List (Block × ℕ)) (a b c d : Leaf) (w : Block × ℕ) → EndsIn bs (a ∷ b ∷ c ∷ [])
    → EndsInQuarters n (bs ++ leaf_pair d ∷ []) w → AreSiblings n (a ∷ b ∷ c ∷ d ∷ []) w
end_siblings n bs a b c d w h q =
    let four : List (Block × ℕ) = map (λ r. (r, w.1)) (quarters_of w.0) in
    let one = sym (append_assoc (leaf_pairs no_leaves) bs (leaf_pair d ∷ [])) ∙ ap (λ l. l ++ leaf_pair d ∷ []) h.split
    ∙ append_assoc h.front (leaf_pairs (a ∷ b ∷ c ∷ [])) (leaf_pair d ∷ []) in
    let two = ap (λ l. leaf_pairs no_leaves ++ l) q.split ∙ sym (append_assoc (leaf_pairs no_leaves) q.front four) in
    record {
      block = q.block;
      wide = q.wide;
      quarters = same_tail h.front (leaf_pairs no_leaves ++ q.front) (leaf_pairs (a ∷ b ∷ c ∷ d ∷ [])) four refl (sym one ∙ two);
    }

-- ---- laid blocks
pub few_colours : (form c : ℕ) → c < colours form → c < 65536
few_colours form c lt = ⊎_elim
    (λ t. let e : colours form ≡ 256 = cond-true (eqb form 1) 256 65536 t in omega arith)
    (λ f. let e : colours form ≡ 65536 = cond-false (eqb form 1) 256 65536 f in omega arith) (cases_Bool (eqb form 1))

pub some_colour : (form : ℕ) → 0 < colours form
some_colour form = ⊎_elim
    (λ t. let e : colours form ≡ 256 = cond-true (eqb form 1) 256 65536 t in omega arith)
    (λ f. let e : colours form ≡ 65536 = cond-false (eqb form 1) 256 65536 f in omega arith) (cases_Bool (eqb form 1))

pub making : (form n end : ℕ) (bs : List (Block × ℕ)) → 1 ≤ n → n ≤ 12 → AreLaid form n end bs → IsMaking n bs
making form n end bs least most h = record {
  least = least;
  most = most;
  colours = all_from (λ (e : Block × ℕ). e.1 < 65536) bs (λ e c. few_colours form e.1 (h.colours_fit e c));
  follows = h.follows;
  unmerged = h.unmerged;
}

pub AreLaid-none : (form n : ℕ) → AreLaid form n 0 []
AreLaid-none form n = record {
  colours_fit = λ e c. absurd (Contains-nil e c);
  follows = tt;
  size = size_of-nil;
  unmerged = record {
    four = λ b c hb part. let q : Block = record { x = b.x; y = b.y; side = b.side / 2 } in Contains-nil (q, c) (part q (0, omega arith, refl));
  };
}

pub AreLaid-more : (form n end : ℕ) (bs : List (Block × ℕ)) (e : Block × ℕ) → 1 ≤ n → n ≤ 12 → AreLaid form n end bs → IsBlock n e.0
    → code_from e.0 ≡ end → e.1 < colours form
    → ((w : Block × ℕ) → EndsInQuarters n (bs ++ e ∷ []) w → ⊥) → AreLaid form n (end + e.0.side * e.0.side) (bs ++ e ∷ [])
AreLaid-more form n end bs e least most h hb at small none =
    let z = size_of-nil in
    let c = size_of-cons e [] in
    let s = size_of-append bs (e ∷ []) in
    let is = h.size in
    let grown = IsGrowing-push n bs e (making form n end bs least most h) hb (at ∙ sym h.size) (few_colours form e.1 small) in
    record {
      colours_fit = λ d m. ⊎_elim (λ k. h.colours_fit d k) (λ same. subst (λ (x : Block × ℕ). x.1 < colours form) same small) (last_cases bs e d m);
      follows = grown.follows;
      size = omega arith;
      unmerged = IsUnmerged-end n most (bs ++ e ∷ []) grown none;
    }

-- ---- the leaves of a grid are laid
leaf_colour : (form n : ℕ) (g : Grid) (e : Block × ℕ) → IsGrid form n g → Contains (leaves n g) e → e.1 < colours form
leaf_colour form n g e h c =
    let l = leaf_is n g e c in
    let is = colour_is n g e.0 e.1 l.maximal.block l.colour in
    let i = e.0.y * side n + e.0.x in
    subst (λ (x : ℕ). x < colours form) is
    (⊎_elim (λ lt. h.colours i 0 lt) (λ past. subst (λ (x : ℕ). x < colours form) (sym (get_or_past g i 0 past)) (some_colour form)) (cases_lt i (length g)))

-- the quarter that holds a pixel of a block
pub quarter_held : (b : Block) (h : ℕ) (p : Pixel) → b.side ≡ h + h → h ≡ b.side / 2 → Holds b p → (q : Block) × Contains (quarters_of b) q × Holds q p
quarter_held b h p e half held =
    let l = held.left in
    let r = held.right in
    let t = held.top in
    let d = held.bottom in
    ⊎_elim
    (λ left. ⊎_elim
    (λ top. (
      record { x = b.x; y = b.y; side = b.side / 2 },
      (0, omega arith, refl),
      record { left = omega arith; right = omega arith; top = omega arith; bottom = omega arith },
    ))
    (λ low. (
      record { x = b.x; y = b.y + b.side / 2; side = b.side / 2 },
      (2, omega arith, refl),
      record { left = omega arith; right = omega arith; top = omega arith; bottom = omega arith },
    ))
    (cases_lt p.y (b.y + h)))
    (λ right. ⊎_elim
    (λ top. (
      record { x = b.x + b.side / 2; y = b.y; side = b.side / 2 },
      (1, omega arith, refl),
      record { left = omega arith; right = omega arith; top = omega arith; bottom = omega arith },
    ))
    (λ low. (
      record { x = b.x + b.side / 2; y = b.y + b.side / 2; side = b.side / 2 },
      (3, omega arith, refl),
      record { left = omega arith; right = omega arith; top = omega arith; bottom = omega arith },
    ))
    (cases_lt p.y (b.y + h)))
    (cases_lt p.x (b.x + h))

leaves_unmerged : (n : ℕ) (g : Grid) → IsUnmerged n (leaves_by_code n g)
leaves_unmerged n g = record {
  four = λ b c hb part.
      let q0 : Block = record { x = b.x; y = b.y; side = b.side / 2 } in
      let m0 : Contains (quarters_of b) q0 = (0, omega arith, refl) in
      let leaf = λ (q : Block) (m : Contains (quarters_of b) q). leaf_is n g (q, c) ((leaves_members n g (q, c)).0 (part q m)) in
      let l0 = leaf q0 m0 in
      let p0 = side_pos n q0 l0.maximal.block in
      let wide : 1 < b.side = omega arith in
      let is = quarters_are n b q0 hb wide m0 in
      let half = is.half in
      let top = side_le n b hb in
      let all : HasColour n g b c = record {
        each = λ p held.
            let w = quarter_held b (b.side / 2) p (omega arith) refl held in
            (leaf w.0 w.1).colour.each p w.2;
      } in
      l0.maximal.last (omega arith) (subst (λ (z : Block). is_uniform n g z ≡ true) (sym is.parent) (uniform-from_HasColour n g b c hb all));
}

pub leaves_laid : (form n : ℕ) (g : Grid) → n ≤ 12 → IsGrid form n g → AreLaid form n (4 ^ n) (leaves_by_code n g)
leaves_laid form n g le h =
    let r = leaves_run n g le in
    let s = r.size in
    record {
      colours_fit = λ e c. leaf_colour form n g e h ((leaves_members n g e).0 c);
      follows = r.follows;
      size = omega arith;
      unmerged = leaves_unmerged n g;
    }
