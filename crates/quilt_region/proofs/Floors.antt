-- The record of the leaf that holds a pixel is the last at or before the pixel's key.
use Rattle.std.proofs.Common.{◌≡◌, ℕ, ◌+◌, ◌*◌, ◌<◌, ◌≤◌, true, List, [], ◌∷◌, ◌++◌, Option, Some, None, refl, sym, ◌∙◌, ap, subst, ⊎_elim, arith, Contains}
use Rattle.std.proofs.Common.{Less}
use Rattle.std.specs.List.{last_or}
use Rattle.std.specs.Ordering.{is_lt, is_le}
use Rattle.std.specs.Option.{option_or}
use Rattle.std.proofs.lemmas.Bool.{cases_lt, cases_Bool}
use Rattle.quilt_types.specs.declared.plane.Pixel.{Pixel}
use Rattle.quilt_types.specs.declared.plane.Block.{Block}
use Rattle.quilt_types.specs.declared.plane.Colour.{Colour}
use Rattle.quilt_types.specs.Plane.{side, in_block, IsBlock}
use Rattle.quilt_types.specs.Layers.{Grid, colour_at}
use Rattle.quilt_types.specs.Quadtrees.{leaves}
use Rattle.quilt_loc.specs.Codes.{code_from, code_to, Rises}
use Rattle.quilt_loc.proofs.Members.{Contains-nil, Contains-there, Contains-cons_cases, list_all-from}
use Rattle.quilt_loc.proofs.Blocks.{in_block-true}
use Rattle.quilt_loc.proofs.CodeLaws.{depth_is}
use Rattle.quilt_record.specs.declared.key.Key.{Key}
use Rattle.quilt_record.specs.declared.record.Record.{Record}
use Rattle.quilt_record.specs.Records.{key_cmp}
use Rattle.quilt_blocks.specs.declared.leaf.Leaf.{Leaf}
use Rattle.quilt_blocks.specs.Cutting.{leaves_by_code, leaf_pair}
use Rattle.quilt_blocks.specs.Listing.{Follows}
use Rattle.quilt_blocks.proofs.Chains.{member_pos, Follows-member}
use Rattle.quilt_blocks.proofs.Cuts.{leaf_is, leaves_run, leaves_members}
use Rattle.quilt_blocks.proofs.PixelLeaves.{HasLeaf, leaf_at}
use Rattle.quilt_btree.specs.declared.tree.Tree.{Tree}
use Rattle.quilt_btree.specs.Lists.{is_at_most, floor_of}
use Rattle.quilt_btree.specs.Trees.{IsTree}
use Rattle.quilt_btree.proofs.lists.Lists.{filter_cond, floor_between}
use Rattle.quilt_record.proofs.Orders.{lt_le, not_le}
use Rattle.std.specs.Cmp.{tied_itself}
use Rattle.std.proofs.lemmas.Option.{same_Some}
use Rattle.quilt_spell.specs.OfLayer.{leaf_record}
use Rattle.quilt_region.specs.Regions.{pixel_key, SpellsGrid, HasRegion}
use Rattle.quilt_spell.specs.Written.{by_key}
use Rattle.quilt_spell.proofs.Written.{by_key_total}
use Rattle.quilt_edits.proofs.Keys.{Less≢Equal, le_layer, le_code, less_code, less_depth}
use Rattle.quilt_region.proofs.Trees.{tree_rises}
use Rattle.quilt_region.proofs.Records.{spelled_leaf}

-- a rising list around one of its records
record IsSplit (r : Record) (rs : List Record) : Type 0 where
  before : List Record
  behind : List Record
  records : rs ≡ before ++ (r ∷ [] ++ behind)
  low : (x : Record) → Contains before x → by_key x r ≡ Less
  high : (y : Record) → Contains behind y → by_key r y ≡ Less
  there : (y : Record) → Contains behind y → Contains rs y

split_at : (r : Record) (rs : List Record) → Rises by_key rs → Contains rs r → IsSplit r rs
split_at r [] h c = absurd (Contains-nil r c)
split_at r (x ∷ xs) h c =
    ⊎_elim
    (λ is. record {
      before = [];
      behind = xs;
      records = ap (λ z. z ∷ xs) is;
      low = λ y m. absurd (Contains-nil y m);
      high = λ y m. subst (λ z. by_key z y ≡ Less) is (h.0 y m);
      there = λ y m. Contains-there x xs y m;
    })
    (λ d.
    let s = split_at r xs h.1 d in
    record {
      before = x ∷ s.before;
      behind = s.behind;
      records = ap (λ l. x ∷ l) s.records;
      low = λ y m. ⊎_elim (λ e. subst (λ z. by_key z r ≡ Less) e (h.0 r d)) (λ k. s.low y k) (Contains-cons_cases x s.before y m);
      high = s.high;
      there = λ y m. Contains-there x xs y (s.there y m);
    }) (Contains-cons_cases x xs r c)

one_floor : (k : Key) (r : Record) (o : Option Record) → is_le (key_cmp r.key k) ≡ true → option_or (floor_of k (r ∷ [])) o ≡ Some r
unfolding floor_of
one_floor k r o le = ap (λ l. option_or (last_or None l) o) (filter_cond (is_at_most k) r [] [] true le)

pub floor_at : (k : Key) (r : Record) (rs : List Record) → Rises by_key rs → Contains rs r → is_le (key_cmp r.key k) ≡ true
    → ((s : Record) → Contains rs s → by_key r s ≡ Less → is_lt (key_cmp k s.key) ≡ true) → floor_of k rs ≡ Some r
floor_at k r rs h c le above =
    let s = split_at r rs h c in
    floor_between k s.before (r ∷ []) s.behind rs (record {
      records = s.records;
      lower = list_all-from (λ (x : Record). is_lt (key_cmp x.key k)) s.before (λ x m. lt_le x.key r.key k (ap is_lt (s.low x m)) le);
      higher = list_all-from (λ (y : Record). is_lt (key_cmp k y.key)) s.behind (λ y m. above y (s.there y m) (s.high y m));
    }) ∙ one_floor k r (last_or None s.before) le

-- two members of a chain of blocks, the one with the code at which the other begins
pub same_member : (n at : ℕ) (es : List (Block × ℕ)) (d e : Block × ℕ) → Follows n at es → Contains es d → Contains es e
    → code_from d.0 ≤ code_from e.0 → code_from e.0 < code_to d.0 → d ≡ e
same_member n at [] d e h cd ce low high = absurd (Contains-nil d cd)
same_member n at (x ∷ xs) d e h cd ce low high =
    let from = h.1 in
    let rest = at + x.0.side * x.0.side in
    ⊎_elim
    (λ isd.
    let to = ap (λ (z : Block × ℕ). code_to z.0) isd in
    ⊎_elim (λ ise. sym isd ∙ ise)
    (λ me. let m = Follows-member n rest xs e h.2 me in let f = m.from in absurd (omega arith)) (Contains-cons_cases x xs e ce))
    (λ md.
    let m = Follows-member n rest xs d h.2 md in
    let f = m.from in
    ⊎_elim
    (λ ise.
    let start = ap (λ (z : Block × ℕ). code_from z.0) ise in
    let p = member_pos n x.0 h.0 in
    absurd (omega arith))
    (λ me. same_member n rest xs d e h.2 md me low high) (Contains-cons_cases x xs e ce))
    (Contains-cons_cases x xs d cd)

module _ (rs : List Record) (layer n : ℕ) (g : Grid) (le : n ≤ 12) (up : Rises by_key rs) (spells : SpellsGrid rs layer n g) where
  module _ (e : Block × ℕ) (member : Contains (leaves n g) e) (k : Key) (layer_is : k.layer ≡ layer) (part_is : k.part ≡ 1)
      (depth_is_most : k.depth ≡ 255) (from : code_from e.0 ≤ k.code) (to : k.code < code_to e.0) where
    block : IsBlock n e.0
    block = (leaf_is n g e member).maximal.block

    at_most : is_le (key_cmp (leaf_record n layer e).key k) ≡ true
    at_most =
        let r = (leaf_record n layer e).key in
        let d = depth_is n e.0 block in
        ap is_le (⊎_elim (λ lt. less_code r k (sym layer_is) (sym part_is) lt)
        (λ ge. less_depth r k (sym layer_is) (sym part_is) (omega arith) (omega arith)) (cases_lt (code_from e.0) k.code))

    -- no other record of the layer stands between
    none_between : (s : Record) → Contains rs s → by_key (leaf_record n layer e) s ≡ Less → is_le (key_cmp s.key k) ≡ true → ⊥
    none_between s c less under =
        let r = leaf_record n layer e in
        let low = le_layer r.key s.key (ap is_le less) in
        let high = le_layer s.key k under in
        let l = spelled_leaf rs layer n g le up spells s c (omega arith) in
        let d = l.0 in
        let here = leaf_record n layer d in
        let less_here : by_key r here ≡ Less = subst (λ (z : Record). by_key r z ≡ Less) (sym l.2) less in
        let under_here : is_le (key_cmp here.key k) ≡ true = subst (λ (z : Record). is_le (key_cmp z.key k) ≡ true) (sym l.2) under in
        let a = le_code r.key here.key refl refl (ap is_le less_here) in
        let b = le_code here.key k (sym layer_is) (sym part_is) under_here in
        let run = leaves_run n g le in
        let same = same_member n 0 (leaves_by_code n g) e d run.follows ((leaves_members n g e).1 member) ((leaves_members n g d).1 l.1) a (omega arith) in
        Less≢Equal (sym less_here ∙ ap (λ z. by_key r (leaf_record n layer z)) (sym same) ∙ tied_itself by_key_total r)

    pub floor_leaf : floor_of k rs ≡ Some (leaf_record n layer e)
    floor_leaf =
        floor_at k (leaf_record n layer e) rs up (spells.each e member) at_most
        (λ s c less. ⊎_elim (λ t. absurd (none_between s c less t)) (λ f. not_le s.key k f) (cases_Bool (is_le (key_cmp s.key k))))

-- what is found of a tree that has the layer
pub floor_found : (told : Option (List (List ℕ))) (t : Tree) (layer n : ℕ) (g : Grid) (p : Pixel) (k : Key) (found : Option Record)
    → n ≤ 12 → p.x < side n → p.y < side n → k ≡ pixel_key layer p
    → ((rs : List Record) → IsTree told t rs → found ≡ floor_of k rs) → HasRegion told t layer n g
    → (e : Block × ℕ) × HasLeaf n g p e × (found ≡ Some (leaf_record n layer e))
floor_found told t layer n g p k found le hx hy key is h =
    let a = ap (λ (z : Key). z.layer) key in
    let b = ap (λ (z : Key). z.part) key in
    let c = ap (λ (z : Key). z.code) key in
    let d = ap (λ (z : Key). z.depth) key in
    let l = leaf_at n g p le hx hy in
    let from = (l.1).from in
    let to = (l.1).to in (
      l.0,
      l.1,
      is h.records h.tree
          ∙ floor_leaf h.records layer n g le (tree_rises told t h.records h.tree) h.spelled l.0 (l.1).member k a b d (omega arith) (omega arith),
    )

-- a leaf that was read holds the pixel and has its colour
pub record IsRead (n : ℕ) (g : Grid) (p : Pixel) (read : Option Leaf) : Type 0 where
  pub leaf : Leaf
  pub is : read ≡ Some leaf
  pub member : Contains (leaves n g) (leaf_pair leaf)
  pub holds : in_block leaf.block p ≡ true
  pub colour : leaf.colour.0 ≡ colour_at n g p

pub leaf_read : (told : Option (List (List ℕ))) (t : Tree) (layer n : ℕ) (g : Grid) (p : Pixel) (k : Key) (found : Option Record)
    (r : Record) (read : Option Leaf)
    → 1 ≤ layer → n ≤ 12 → p.x < side n → p.y < side n → k ≡ pixel_key layer p
    → ((rs : List Record) → IsTree told t rs → found ≡ floor_of k rs) → found ≡ Some r
    → ((b : Block) (c : Colour) → 1 ≤ layer → IsBlock n b → r ≡ leaf_record n layer (b, c.0) → read ≡ Some (record { block = b; colour = c }))
    → HasRegion told t layer n g → IsRead n g p read
leaf_read told t layer n g p k found r read least le hx hy key is some one h =
    let f = floor_found told t layer n g p k found le hx hy key is h in
    let e = f.0 in
    let leaf = (f.1).leaf in
    let holds = (f.1).holds in
    record {
      leaf = record { block = e.0; colour = record { 0 = e.1 } };
      is = one e.0 (record { 0 = e.1 }) least leaf.maximal.block (same_Some r (leaf_record n layer e) (sym some ∙ f.2));
      member = (f.1).member;
      holds = in_block-true e.0 p holds;
      colour = sym (leaf.colour.each p holds);
    }

-- what was read is that leaf
pub read_same : (n : ℕ) (g : Grid) (p : Pixel) (read : Option Leaf) (l : Leaf) → read ≡ Some l → (i : IsRead n g p read) → i.leaf ≡ l
read_same n g p read l e i = same_Some i.leaf l (sym i.is ∙ e)
