-- The steps of a run of region records, and when they may be all.
use Rattle.std.proofs.Common.{◌≡◌, ℕ, ◌-◌, ◌+◌, ◌*◌, ◌^◌, ◌<◌, ◌≤◌, List, [], ◌∷◌, ◌++◌, map, length, get_or, refl, sym, ◌∙◌, ap, subst, inl, inr, ⊎_elim}
use Rattle.std.proofs.Common.{arith, Contains, pow_pos}
use Rattle.std.proofs.lemmas.Nat.{mod_below, div_below}
use Rattle.std.proofs.lemmas.List.Elements.{All-from_get_or, Contains-append_right}
use Rattle.quilt_types.specs.declared.plane.Block.{Block}
use Rattle.quilt_types.specs.declared.plane.Colour.{Colour}
use Rattle.quilt_types.specs.declared.plane.Pixel.{Pixel}
use Rattle.quilt_types.specs.declared.plane.Kind.TheVariants as kinds
use Rattle.quilt_types.specs.Plane.{side, pixel_at, IsBlock}
use Rattle.quilt_types.specs.Layers.{Layer, Region, Points, Lines, Grid, IsGrid, colours}
use Rattle.quilt_types.specs.Facts.{Fact, IsOfKind, HasColour}
use Rattle.quilt_types.specs.Quadtrees.{leaves}
use Rattle.quilt_loc.specs.Codes.{Rises, code_at, code_from, code_to}
use Rattle.quilt_loc.proofs.Members.{Contains-here, Contains-there, Contains-cons_cases, Contains-map, Contains-map_from}
use Rattle.quilt_loc.proofs.Rows.{length-grid_of, get_or-grid_of}
use Rattle.quilt_record.specs.declared.record.Record.{Record}
use Rattle.quilt_record.specs.Records.{record_of}
use Rattle.quilt_record.specs.Canonical.{IsRecordOf}
use Rattle.quilt_blocks.specs.declared.leaf.Leaf.{Leaf}
use Rattle.quilt_blocks.specs.Cutting.{leaves_by_code, leaf_pair}
use Rattle.quilt_blocks.specs.Painting.{colours_of, grid_by_code}
use Rattle.quilt_blocks.specs.Listing.{IsListed, grid_from}
use Rattle.quilt_blocks.proofs.Chains.{length-colours_of, member_with, colour_in}
use Rattle.quilt_blocks.proofs.Cuts.{leaves_members, leaf_is}
use Rattle.quilt_blocks.proofs.Listed.{IsListed-made}
use Rattle.quilt_blocks.proofs.Painting.{code_in}
use Rattle.quilt_spell.specs.Catalogued.{kind_of}
use Rattle.quilt_spell.specs.Written.{by_key}
use Rattle.quilt_spell.specs.OfLayer.{leaf_record}
use Rattle.quilt_region.proofs.Records.{leaf_is_record}
use Rattle.quilt_line_audit.specs.Layers.{SpellsOne, IsLayerOf, RefusesRecord, IsShort}
use Rattle.quilt_audit.specs.Regions.{AreLaid, IsGoing, AreSiblings, no_leaves, EndsIn}
use Rattle.quilt_audit.proofs.runs.Laid.{making, HasBlocks-more, HasBlocks-none, EndsIn-more}
use Rattle.quilt_audit.proofs.runs.Laid.{EndsIn-none, end_siblings, siblings_end, AreLaid-none, AreLaid-more}
use Rattle.quilt_audit.proofs.ahead.RegionAhead.{leaf_at, all_laid, none_left, next_code, next_unmerged}

-- ---- a list of three
pub three_are : (xs : List Leaf) (z : Leaf) → length xs ≡ 3 → xs ≡ get_or xs 0 z ∷ get_or xs 1 z ∷ get_or xs 2 z ∷ []
three_are [] z e = absurd (omega arith)
three_are (a ∷ []) z e = absurd (omega arith)
three_are (a ∷ b ∷ []) z e = absurd (omega arith)
three_are (a ∷ b ∷ c ∷ []) z e = refl
three_are (a ∷ b ∷ c ∷ d ∷ xs) z e = absurd (omega arith)

-- ---- a region layer
with_region : (form n : ℕ) (rs : List Record) (layer : ℕ) (P : Type 0) → ((grid : Grid) → SpellsOne form n rs layer (Region grid) → P)
    → (l : Layer) → kind_of l ≡ kinds.Region → SpellsOne form n rs layer l → P
with_region form n rs layer P f (Region grid) e s = f grid s
with_region form n rs layer P f (Points capacity points) e s = absurd (let z : kinds.Points capacity ≡ kinds.Region = e in cc)
with_region form n rs layer P f (Lines threshold segs cover) e s = absurd (let z : kinds.Lines threshold ≡ kinds.Region = e in cc)

refused : (form n : ℕ) (rs : List Record) (layer : ℕ) (r : Record)
    → ((rest : List Record) (grid : Grid) → Rises by_key (rs ++ r ∷ rest) → SpellsOne form n (rs ++ r ∷ rest) layer (Region grid) → ⊥)
    → RefusesRecord form n rs layer kinds.Region r
refused form n rs layer r f rest l e up s = with_region form n (rs ++ r ∷ rest) layer ⊥ (λ grid t. f rest grid up t) l e s

-- ---- a record that cannot be read
pub unread_refused : (form n : ℕ) → n ≤ 12 → (rs : List Record) (r : Record) → 1 ≤ r.key.layer → r.key.layer ≤ 255
    → ((b : Block) (c : Colour) → (form ≡ 1 → c.0 < 256) → IsRecordOf n 0 r r.key.layer (HasColour b c.0) → ⊥) → RefusesRecord form n rs r.key.layer kinds.Region r
unread_refused form n le rs r least most none =
    refused form n rs r.key.layer r
    (λ rest grid up s.
    let w = leaf_at form n le r.key.layer least grid rs (r ∷ rest) up s r (Contains-append_right rs (r ∷ rest) r (Contains-here r rest)) refl in
    let e = w.0 in
    let laid = all_laid form n le r.key.layer least grid rs (r ∷ rest) up s in
    let c = (leaves_members n grid e).1 w.1 in
    let fit = laid.colours_fit e c in
    let block = (leaf_is n grid e w.1).maximal.block in
    let colour : Colour = record { 0 = e.1 } in
    none e.0 colour (λ one. subst (λ (z : ℕ). e.1 < colours z) one fit)
    (subst (λ (z : Record). IsRecordOf n 0 z r.key.layer (HasColour e.0 e.1)) w.2 (leaf_is_record n r.key.layer e.0 e.1 least most block)))

module _ (form n : ℕ) (least : 1 ≤ n) (le : n ≤ 12) (layer : ℕ) (some : 1 ≤ layer) (rs : List Record) (end : ℕ) (recent : List Leaf)
    (g : IsGoing form n rs layer end recent)
    (leaf z : Leaf) (block : IsBlock n leaf.block) where
  three_here : recent ≡ get_or recent 0 z ∷ get_or recent 1 z ∷ get_or recent 2 z ∷ []
  three_here = three_are recent z g.ends.three

  pub code_refused : (code_from leaf.block ≡ end → ⊥) → RefusesRecord form n rs layer kinds.Region (leaf_record n layer (leaf_pair leaf))
  code_refused differs =
      let r = leaf_record n layer (leaf_pair leaf) in
      refused form n rs layer r
      (λ rest grid up s. differs (next_code form n le layer some grid rs (r ∷ rest) up s end recent g r rest refl (leaf_pair leaf) block refl))

  pub siblings_refused : (w : Block × ℕ) → AreSiblings n (get_or recent 0 z ∷ get_or recent 1 z ∷ get_or recent 2 z ∷ leaf ∷ []) w
      → RefusesRecord form n rs layer kinds.Region (leaf_record n layer (leaf_pair leaf))
  siblings_refused w q =
      let r = leaf_record n layer (leaf_pair leaf) in
      refused form n rs layer r
      (λ rest grid up s.
      next_unmerged form n le layer some grid rs (r ∷ rest) up s end recent g r rest refl (leaf_pair leaf) block refl w
      (siblings_end n g.blocks (get_or recent 0 z) (get_or recent 1 z) (get_or recent 2 z) leaf w (subst (EndsIn g.blocks) three_here g.ends) q))

  pub leaf_taken : code_from leaf.block ≡ end → leaf.colour.0 < colours form → (next : ℕ) → next ≡ code_to leaf.block
      → ((w : Block × ℕ) → AreSiblings n (get_or recent 0 z ∷ get_or recent 1 z ∷ get_or recent 2 z ∷ leaf ∷ []) w → ⊥)
      → IsGoing form n (rs ++ leaf_record n layer (leaf_pair leaf) ∷ []) layer next (get_or recent 1 z ∷ get_or recent 2 z ∷ leaf ∷ [])
  leaf_taken at small next to apart =
      let a = get_or recent 0 z in
      let b = get_or recent 1 z in
      let c = get_or recent 2 z in
      let ends = subst (EndsIn g.blocks) three_here g.ends in
      let e : end + leaf.block.side * leaf.block.side ≡ next = omega arith in
      subst (λ (k : ℕ). IsGoing form n (rs ++ leaf_record n layer (leaf_pair leaf) ∷ []) layer k (b ∷ c ∷ leaf ∷ [])) e (record {
        blocks = g.blocks ++ leaf_pair leaf ∷ [];
        has = HasBlocks-more rs layer n g.blocks g.has (leaf_pair leaf);
        laid = AreLaid-more form n end g.blocks (leaf_pair leaf) least le g.laid block at small (λ w q. apart w (end_siblings n g.blocks a b c leaf w ends q));
        ends = EndsIn-more g.blocks a b c leaf ends;
      })

-- ---- no record yet
pub going_none : (form n : ℕ) (rs : List Record) (layer : ℕ) → ((r : Record) → Contains rs r → r.key.layer ≡ layer → ⊥) → IsGoing form n rs layer 0 no_leaves
going_none form n rs layer none = record { blocks = []; has = HasBlocks-none rs layer n none; laid = AreLaid-none form n; ends = EndsIn-none }

-- ---- the grid that blocks paint
colour_fits : (form n : ℕ) (bs : List (Block × ℕ)) → n ≤ 12 → AreLaid form n (4 ^ n) bs → (p : Pixel) → p.x < side n → p.y < side n
    → get_or (colours_of bs) (code_at p) 0 < colours form
colour_fits form n bs le h p hx hy =
    let s = h.size in
    let i = code_in n p le hx hy in
    let w = member_with n 0 bs (code_at p) h.follows (omega arith) (omega arith) in
    let z : code_at p ≡ code_at p - 0 = omega arith in
    let e : get_or (colours_of bs) (code_at p) 0 ≡ (w.0).1 = ap (λ k. get_or (colours_of bs) k 0) z ∙ colour_in n 0 bs w.0 (code_at p) h.follows w.1 w.2 w.3 in
    let b = h.colours_fit w.0 w.1 in
    omega arith

grid_fits : (form n : ℕ) (bs : List (Block × ℕ)) → n ≤ 12 → AreLaid form n (4 ^ n) bs → IsGrid form n (grid_from n bs)
unfolding grid_by_code
grid_fits form n bs le h =
    let f : Pixel → ℕ = λ p. get_or (colours_of bs) (code_at p) 0 in
    let long = length-grid_of n f in
    record {
      size = long;
      colours = All-from_get_or (λ (c : ℕ). c < colours form) (grid_from n bs) 0 (λ k lt.
          let lt' : k < side n * side n = omega arith in
          let e = get_or-grid_of n f k lt' in
          let s = colour_fits form n bs le h (pixel_at n k) (mod_below k (side n) (pow_pos n)) (div_below k (side n) (side n) (pow_pos n) lt') in
          omega arith);
    }

laid_leaves : (form n : ℕ) (bs : List (Block × ℕ)) → 1 ≤ n → n ≤ 12 → AreLaid form n (4 ^ n) bs → bs ≡ leaves_by_code n (grid_from n bs)
laid_leaves form n bs least le h =
    let s = h.size in
    let l : IsListed n bs = IsListed-made n bs (making form n (4 ^ n) bs least le h) (length-colours_of bs ∙ s) in
    l.ordered

-- ---- all records
module _ (form n : ℕ) (least : 1 ≤ n) (le : n ≤ 12) (layer : ℕ) (rs : List Record) (end : ℕ) (recent : List Leaf) (g : IsGoing form n rs layer end recent) where
  pub finished_region : end ≡ 4 ^ n → IsLayerOf form n rs layer kinds.Region
  finished_region full =
      let bs = g.blocks in
      let laid = subst (λ (k : ℕ). AreLaid form n k bs) full g.laid in
      let grid = grid_from n bs in
      let fact : Block × ℕ → Fact = λ e. HasColour e.0 e.1 in
      let same = laid_leaves form n bs least le laid in record {
        layer = Region grid;
        is = refl;
        spelled = record {
          fits = grid_fits form n bs le laid;
          each = λ f c. ⊎_elim (λ k. inl (sym k))
              (λ m.
              let d = Contains-map_from fact (leaves n grid) f m in
              let there = subst (λ (l : List (Block × ℕ)). Contains l d.0) (sym same) ((leaves_members n grid d.0).1 d.1) in
              inr (subst (λ (z : Fact). Contains rs (record_of n 0 [] layer z)) d.2 (g.has.each d.0 there)))
              (Contains-cons_cases (IsOfKind 1 0) (map fact (leaves n grid)) f c);
          only = λ r c is.
              let d = Contains-map_from (leaf_record n layer) bs r (g.has.only r c is) in
              let there = (leaves_members n grid d.0).0 (subst (λ (l : List (Block × ℕ)). Contains l d.0) same d.1) in
              (fact d.0, Contains-there (IsOfKind 1 0) (map fact (leaves n grid)) (fact d.0) (Contains-map fact (leaves n grid) d.0 there), d.2);
        };
      }

  pub short_region : 1 ≤ layer → (end ≡ 4 ^ n → ⊥) → IsShort form n rs layer kinds.Region
  short_region some none rest l e past up s =
      with_region form n (rs ++ rest) layer ⊥ (λ grid t. none (none_left form n le layer some grid rs rest up t end recent g past)) l e s
