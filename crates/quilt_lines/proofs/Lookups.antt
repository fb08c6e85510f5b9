-- What a look-up of a segment finds.
use Rattle.std.proofs.Common.{◌≡◌, ℕ, ◌≤◌, List, Option, Some, None, IfSome, true, ◌⊎◌, inl, inr, ⊎_elim, refl, sym, ◌∙◌, ap, subst}
use Rattle.std.specs.FinMap as finmap
use Rattle.std.proofs.lemmas.Option.{none-some}
use Rattle.quilt_types.specs.declared.plane.Seg.{Seg}
use Rattle.quilt_types.specs.Layers.{SegMap, BlockSet, is_in_square}
use Rattle.quilt_types.specs.Facts.{IsSegment}
use Rattle.quilt_loc.specs.Codes.{Rises}
use Rattle.quilt_loc.proofs.Members.{Contains-map_from}
use Rattle.quilt_record.specs.declared.key.Key.{Key}
use Rattle.quilt_record.specs.declared.record.Record.{Record}
use Rattle.quilt_record.specs.Canonical.{FactFits}
use Rattle.quilt_btree.specs.declared.tree.Tree.{Tree}
use Rattle.quilt_btree.specs.Trees.{IsTree}
use Rattle.quilt_btree.specs.Lists.{value_in, value_at_key}
use Rattle.quilt_spell.specs.Written.{by_key}
use Rattle.quilt_edits.proofs.Lookups.{find_at, find_away}
use Rattle.quilt_near.specs.Lines.{Lines}
use Rattle.quilt_lines.specs.Layers.{shown_facts, fact_record, SpellsLines, HasLines, ShowsLines}
use Rattle.quilt_lines.specs.Reads.{segment_key}
use Rattle.quilt_lines.proofs.Shown.{shown_says, segment_shown, segment_alike, segment_laid}
use Rattle.quilt_lines.proofs.Trees.{tree_rises}

-- ---- options
pub none_or_some : {X : Type 0} (o : Option X) → (o ≡ None) ⊎ ((x : X) × (o ≡ Some x))
none_or_some None = inl refl
none_or_some (Some x) = inr (x, refl)

pub if_some_at : {X : Type 0} (o : Option X) (P : X → Type 0) (x : X) → o ≡ Some x → IfSome o P → P x
if_some_at None P x e h = absurd (none-some x e)
if_some_at (Some y) P x e h = subst P (let same : y ≡ x = cc in same) h

-- ---- values of keys
module _ (rs : List Record) (layer n t : ℕ) (segs : SegMap) (cover : BlockSet) (up : Rises by_key rs) (spells : SpellsLines rs layer n t segs cover) where
  pub value_there : (id : ℕ) (s : Seg) → finmap.get segs id ≡ Some s → value_at_key (segment_key layer id) rs ≡ Some (fact_record n layer (IsSegment id s)).value
  unfolding value_at_key
  value_there id s h =
      ap value_in (find_at (segment_key layer id) rs (fact_record n layer (IsSegment id s)) up
      (spells.each (IsSegment id s) (segment_shown n layer t segs cover id s h)) refl)

  pub value_away : (id : ℕ) → finmap.get segs id ≡ None → value_at_key (segment_key layer id) rs ≡ None
  unfolding value_at_key
  value_away id h =
      ap value_in (find_away (segment_key layer id) rs (λ r c e.
      let m = Contains-map_from (fact_record n layer) (shown_facts segs cover) r (spells.only r c (ap (λ (k : Key). k.layer) e)) in
      let key : (fact_record n layer m.0).key ≡ segment_key layer id = ap (λ (z : Record). z.key) m.2 ∙ e in
      let back = sym key in
      let s = segment_alike n layer t segs cover id m.0 (shown_says n layer t segs cover m.0 m.1)
      (record {
        layer = ap (λ (k : Key). k.layer) back;
        part = ap (λ (k : Key). k.part) back;
        code = ap (λ (k : Key). k.code) back;
        depth = ap (λ (k : Key). k.depth) back;
      }) in
      let same : s.0.0 ≡ id = ap (λ f. (fact_record n layer f).key.item) (sym s.1) ∙ ap (λ (k : Key). k.item) key in
      none-some s.0.1 (sym h ∙ ap (finmap.get segs) (sym same) ∙ s.2)))

-- ---- what is read of it
-- the value that a look-up gave is that of the segment of the id
pub record IsFound (segs : SegMap) (id : ℕ) (said : Option (ℕ × Seg)) : Type 0 where
  pub seg : Seg
  pub got : finmap.get segs id ≡ Some seg
  pub is_said : said ≡ Some (id, seg)

module _ (told : Option (List (List ℕ))) (tree : Tree) (layer n t : ℕ) (segs : SegMap) (cover : BlockSet) (id : ℕ) (key : Key) (o : Option (List ℕ))
    (is : key ≡ segment_key layer id)
    (value : (rs : List Record) → IsTree told tree rs → o ≡ value_at_key key rs) (h : HasLines told tree layer n t segs cover) where
  value_is : o ≡ value_at_key (segment_key layer id) h.records
  value_is = value h.records h.is_tree ∙ ap (λ (k : Key). value_at_key k h.records) is

  rises : Rises by_key h.records
  rises = tree_rises told tree h.records h.is_tree

  pub none_found : o ≡ None → None ≡ finmap.get segs id
  none_found none =
      ⊎_elim (λ e. sym e)
      (λ w.
      let there = value_there h.records layer n t segs cover rises h.spelled id w.0 w.1 in
      absurd (none-some (fact_record n layer (IsSegment id w.0)).value (sym none ∙ value_is ∙ there)))
      (none_or_some (finmap.get segs id))

  pub found : (v : List ℕ) → o ≡ Some v → n ≤ 12 → (said : Option (ℕ × Seg))
      → ((i : ℕ) (s : Seg) → record { key = key; value = v } ≡ fact_record n layer (IsSegment i s) → FactFits n (IsSegment i s)
      → is_in_square n s ≡ true → said ≡ Some (i, s)) → IsFound segs id said
  found v some le said reads =
      ⊎_elim
      (λ e. absurd (none-some v (sym (value_is ∙ value_away h.records layer n t segs cover rises h.spelled id e) ∙ some)))
      (λ w.
      let there = value_there h.records layer n t segs cover rises h.spelled id w.0 w.1 in
      let both : Some v ≡ Some (fact_record n layer (IsSegment id w.0)).value = sym some ∙ value_is ∙ there in
      let same : v ≡ (fact_record n layer (IsSegment id w.0)).value = cc in
      let laid = segment_laid n layer t segs cover h.spelled.valid le id w.0 w.1 in
      record { seg = w.0; got = w.1; is_said = reads id w.0 (λ i. record { key = is i; value = same i }) laid.fits laid.inside })
      (none_or_some (finmap.get segs id))

pub lines_along : (old new : Option (List (List ℕ))) (tree : Tree) (layer n t : ℕ) (segs : SegMap) (cover : BlockSet) → new ≡ old
    → HasLines old tree layer n t segs cover → HasLines new tree layer n t segs cover
lines_along old new tree layer n t segs cover e h = subst (λ (z : Option (List (List ℕ))). HasLines z tree layer n t segs cover) (sym e) h

pub shows_along : (old new : Option (List (List ℕ))) (tree : Tree) (layer n : ℕ) (l : Lines) → new ≡ old → ShowsLines old tree layer n l
    → ShowsLines new tree layer n l
shows_along old new tree layer n l e h = subst (λ (z : Option (List (List ℕ))). ShowsLines z tree layer n l) (sym e) h
