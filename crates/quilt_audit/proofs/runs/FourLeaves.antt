-- Four leaves that are the quarters of a block.
use Rattle.std.proofs.Common.{◌≡◌, ℕ, ◌+◌, ◌/◌, ◌<◌, List, [], ◌∷◌, map, get_or, refl, sym, ◌∙◌, ap, subst, ⊎_elim, arith}
use Rattle.std.proofs.lemmas.Bool.{cases_lt}
use Rattle.quilt_types.specs.declared.plane.Block.{Block}
use Rattle.quilt_types.specs.Plane.{side, parent_of, quarters_of, IsBlock}
use Rattle.quilt_loc.proofs.Nesting.{IsBlock-parent_of, side_pos}
use Rattle.quilt_loc.proofs.Quartered.{IsQuarter, quarters_are, side_le}
use Rattle.quilt_blocks.specs.declared.leaf.Leaf.{Leaf}
use Rattle.quilt_blocks.specs.Cutting.{leaf_pair}
use Rattle.quilt_blocks.specs.Listing.{leaf_pairs}
use Rattle.quilt_audit.specs.Covers.{AreFour}
use Rattle.quilt_audit.specs.Regions.{AreSiblings}

-- the parent of a block that is not the whole square
pub record IsParent (n : ℕ) (b p : Block) : Type 0 where
  pub block : IsBlock n p
  pub wide : 1 < p.side

pub parent_is : (n : ℕ) (b p : Block) → IsBlock n b → (b.side ≡ side n → ⊥) → p ≡ parent_of b → IsParent n b p
parent_is n b p h small is =
    let top = side_le n b h in
    let pos = side_pos n b h in
    let lt : b.side < side n = ⊎_elim (λ q. q) (λ q. absurd (small (omega arith))) (cases_lt b.side (side n)) in
    let made : IsParent n b (parent_of b) = record { block = IsBlock-parent_of n b h lt; wide = omega arith } in
    subst (IsParent n b) (sym is) made

-- four tests that held
pub siblings_from : (n : ℕ) (a b c d : Leaf) (p : Block) (qs : List Block) (z : Block) → IsParent n d.block p → qs ≡ quarters_of p
    → leaf_pair a ≡ (get_or qs 0 z, d.colour.0) → leaf_pair b ≡ (get_or qs 1 z, d.colour.0) → leaf_pair c ≡ (get_or qs 2 z, d.colour.0)
    → leaf_pair d ≡ (get_or qs 3 z, d.colour.0)
    → AreSiblings n (a ∷ b ∷ c ∷ d ∷ []) (p, d.colour.0)
siblings_from n a b c d p qs z h is ea eb ec ed = record {
  block = h.block;
  wide = h.wide;
  quarters = four (at 0 (leaf_pair a) ea) (at 1 (leaf_pair b) eb) (at 2 (leaf_pair c) ec) (at 3 (leaf_pair d) ed);
}
  where
    at : (i : ℕ) (x : Block × ℕ) → x ≡ (get_or qs i z, d.colour.0) → x ≡ (get_or (quarters_of p) i z, d.colour.0)
    at i x e = e ∙ ap (λ (l : List Block). let y : Block × ℕ = (get_or l i z, d.colour.0) in y) is

    four : leaf_pair a ≡ (get_or (quarters_of p) 0 z, d.colour.0) → leaf_pair b ≡ (get_or (quarters_of p) 1 z, d.colour.0)
        → leaf_pair c ≡ (get_or (quarters_of p) 2 z, d.colour.0)
        → leaf_pair d ≡ (get_or (quarters_of p) 3 z, d.colour.0) → leaf_pairs (a ∷ b ∷ c ∷ d ∷ []) ≡ map (λ q. (q, d.colour.0)) (quarters_of p)
    four f g h' k = λ i. f i ∷ g i ∷ h' i ∷ k i ∷ []

-- what four siblings are
pub record AreThese (p : Block) (col : ℕ) (qs : List Block) (z : Block) (a b c d : Leaf) : Type 0 where
  pub first : leaf_pair a ≡ (get_or qs 0 z, col)
  pub second : leaf_pair b ≡ (get_or qs 1 z, col)
  pub third : leaf_pair c ≡ (get_or qs 2 z, col)
  pub fourth : leaf_pair d ≡ (get_or qs 3 z, col)

last_quarter : (n : ℕ) (a b c d : Leaf) (w : Block × ℕ) → AreSiblings n (a ∷ b ∷ c ∷ d ∷ []) w → IsQuarter n w.0 d.block
last_quarter n a b c d w s =
    let h = w.0.side / 2 in
    let q : Block = record { x = w.0.x + h; y = w.0.y + h; side = h } in
    let e : d.block ≡ q = ap (λ (l : List (Block × ℕ)). (get_or l 3 (leaf_pair d)).0) s.quarters in
    subst (IsQuarter n w.0) (sym e) (quarters_are n w.0 q s.block s.wide (3, omega arith, refl))

-- the third and the fourth have one colour and one side
pub siblings_alike : (n : ℕ) (a b c d : Leaf) (w : Block × ℕ) → AreSiblings n (a ∷ b ∷ c ∷ d ∷ []) w
    → (c.colour.0 ≡ d.colour.0) × (c.block.side ≡ d.block.side)
siblings_alike n a b c d w s =
    let all : List (Block × ℕ) = map (λ q. (q, w.1)) (quarters_of w.0) in
    let third : leaf_pair c ≡ get_or all 2 (leaf_pair c) = ap (λ (l : List (Block × ℕ)). get_or l 2 (leaf_pair c)) s.quarters in
    let fourth : leaf_pair d ≡ get_or all 3 (leaf_pair c) = ap (λ (l : List (Block × ℕ)). get_or l 3 (leaf_pair c)) s.quarters in (
      ap (λ (x : Block × ℕ). x.1) third ∙ sym (ap (λ (x : Block × ℕ). x.1) fourth),
      ap (λ (x : Block × ℕ). x.0.side) third ∙ sym (ap (λ (x : Block × ℕ). x.0.side) fourth),
    )

pub siblings_are : (n : ℕ) (a b c d : Leaf) (w : Block × ℕ) (p : Block) (qs : List Block) (z : Block) → AreSiblings n (a ∷ b ∷ c ∷ d ∷ []) w
    → p ≡ parent_of d.block → qs ≡ quarters_of p → AreThese p d.colour.0 qs z a b c d
siblings_are n a b c d w p qs z s is qs_are = record {
  first = at 0 (leaf_pair a) (ap (λ (l : List (Block × ℕ)). get_or l 0 (leaf_pair a)) s.quarters);
  second = at 1 (leaf_pair b) (ap (λ (l : List (Block × ℕ)). get_or l 1 (leaf_pair b)) s.quarters);
  third = at 2 (leaf_pair c) (ap (λ (l : List (Block × ℕ)). get_or l 2 (leaf_pair c)) s.quarters);
  fourth = at 3 (leaf_pair d) (ap (λ (l : List (Block × ℕ)). get_or l 3 (leaf_pair d)) s.quarters);
}
  where
    whole : w.0 ≡ p
    whole = sym (last_quarter n a b c d w s).parent ∙ sym is

    colour : w.1 ≡ d.colour.0
    colour = sym (ap (λ (l : List (Block × ℕ)). (get_or l 3 (leaf_pair d)).1) s.quarters)

    at : (i : ℕ) (x : Block × ℕ) → x ≡ (get_or (quarters_of w.0) i z, w.1) → x ≡ (get_or qs i z, d.colour.0)
    at i x e =
        e ∙ ap (λ (b : Block). let y : Block × ℕ = (get_or (quarters_of b) i z, w.1) in y) whole
        ∙ ap (λ (l : List Block). let y : Block × ℕ = (get_or l i z, w.1) in y) (sym qs_are)
        ∙ ap (λ (k : ℕ). let y : Block × ℕ = (get_or qs i z, k) in y) colour

-- four blocks of the colour 0
abbrev uncoloured : Block → Leaf
uncoloured b = record { block = b; colour = record { 0 = 0 } }

pub siblings_four : (n : ℕ) (a b c d : Block) (p q r s : Leaf) → p ≡ uncoloured a → q ≡ uncoloured b → r ≡ uncoloured c → s ≡ uncoloured d
    → (w : Block × ℕ) → AreSiblings n (p ∷ q ∷ r ∷ s ∷ []) w
    → AreFour n (a ∷ b ∷ c ∷ d ∷ []) w.0
siblings_four n a b c d p q r s ep eq er es w h = record {
  block = h.block;
  wide = h.wide;
  quarters = sym (ap (map (λ (x : Block × ℕ). x.0)) h.quarters) ∙ (λ i. (ep i).block ∷ (eq i).block ∷ (er i).block ∷ (es i).block ∷ []);
}

pub four_siblings : (n : ℕ) (a b c d : Block) (p q r s : Leaf) → p ≡ uncoloured a → q ≡ uncoloured b → r ≡ uncoloured c → s ≡ uncoloured d
    → (w : Block) → AreFour n (a ∷ b ∷ c ∷ d ∷ []) w
    → AreSiblings n (p ∷ q ∷ r ∷ s ∷ []) (w, 0)
four_siblings n a b c d p q r s ep eq er es w h = record {
  block = h.block;
  wide = h.wide;
  quarters = (λ i. leaf_pair (ep i) ∷ leaf_pair (eq i) ∷ leaf_pair (er i) ∷ leaf_pair (es i) ∷ [])
      ∙ ap (map (λ (z : Block). let x : Block × ℕ = (z, 0) in x)) (sym h.quarters);
}
