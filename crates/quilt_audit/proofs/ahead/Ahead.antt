-- What has to come behind records that begin those of a map.
use Rattle.std.proofs.Common.{◌≡◌, ℕ, ◌<◌, ◌≤◌, true, List, [], ◌∷◌, ◌++◌, map, length, Some, refl, sym, ◌∙◌, ap, subst, inl, inr, ⊎_elim, arith, Contains, eqb}
use Rattle.std.proofs.Common.{ne_eqb, Less, pow_pos}
use Rattle.std.specs.Ordering.{is_le}
use Rattle.std.specs.Cmp.Lexicographic.{slice_cmp, nat_list_cmp_total}
use Rattle.std.specs.FinMap as finmap
use Rattle.std.specs.Ordering.{nat_cmp}
use Rattle.std.proofs.lemmas.Bool.{cond-false}
use Rattle.std.proofs.lemmas.List.Elements.{All-contains, Contains-append_left, Contains-append_cases}
use Rattle.quilt_types.specs.declared.plane.Block.{Block}
use Rattle.quilt_types.specs.declared.plane.Pixel.{Pixel}
use Rattle.quilt_types.specs.Layers.{Layer, Region, Points, Lines, Map, IsLayer, is_name}
use Rattle.quilt_types.specs.Facts.{Fact, IsOfKind, HasColour}
use Rattle.quilt_types.specs.Quadtrees.{leaves, holds_few}
use Rattle.quilt_loc.proofs.Members.{Contains-here, Contains-there, Contains-map}
use Rattle.quilt_record.specs.declared.record.Record.{Record}
use Rattle.quilt_record.specs.declared.entry.Entry.{Entry}
use Rattle.quilt_record.specs.Records.{Numbering, capacity_of, record_of}
use Rattle.quilt_record.specs.Listing.{IsEntryOf}
use Rattle.quilt_blocks.specs.Cutting.{leaves_by_code}
use Rattle.quilt_blocks.proofs.Cuts.{leaves_run, leaves_members}
use Rattle.quilt_blocks.proofs.Listed.{some_leaf}
use Rattle.quilt_blocks.proofs.Maximal.{IsMaximal-from}
use Rattle.quilt_spell.specs.Catalogued.{kind_of}
use Rattle.quilt_spell.specs.Spelled.{SpellsUnder}
use Rattle.quilt_spell.specs.Written.{by_key, number_of, number_in}
use Rattle.quilt_spell.specs.OfLayer.{kind_record}
use Rattle.quilt_spell.proofs.OfLayer.{catalog_each, catalog_only, layer_spelled, kind_only}
use Rattle.quilt_spell.proofs.Maps.{entry_from_get}
use Rattle.quilt_spell.proofs.Written.{name_same, number_fits, layer_fits, number_in_layer, layer_record_from}
use Rattle.quilt_edits.proofs.Keys.{le_layer}
use Rattle.quilt_point_laws.proofs.OnBlocks.{OfBlock, fact_is}
use Rattle.quilt_point_laws.proofs.Plans.{block_around}
use Rattle.quilt_audit.specs.declared.run.Run.{Run}
use Rattle.quilt_line_audit.specs.Layers.{SpellsOne}
use Rattle.quilt_audit.specs.Checking.{entry_record, IsSoFar}
use Rattle.quilt_line_laws.proofs.Adding.{cover_of}
use Rattle.quilt_line_audit.specs.Runs.{pair_record}
use Rattle.quilt_line_audit.proofs.Facts.{first_pair, pair_there}
use Rattle.quilt_line_audit.proofs.Keys.{pair_key}
use Rattle.quilt_audit.proofs.Lists.{rises_before}
use Rattle.quilt_audit.proofs.Catalog.{named_entry, kind_record_is, entry_is, named_entry_is, entry_alone, free_or_kind}
use Rattle.quilt_audit.proofs.ahead.PointAhead.{on_layer, some_on}

-- a record at most another
pub key_layers : (a b : Record) → by_key a b ≡ Less → a.key.layer ≤ b.key.layer
key_layers a b e = le_layer a.key b.key (ap is_le e)

-- a layer has a record besides that of the catalog
pub some_record : (form n : ℕ) → n ≤ 12 → (rs : List Record) (k : ℕ) → 1 ≤ k → (l : Layer) → SpellsOne form n rs k l
    → (r : Record) × Contains rs r × (r.key.layer ≡ k)
some_record form n le rs k some (Region grid) s = first (leaves_by_code n grid) refl (some_leaf n (leaves_by_code n grid) (leaves_run n grid le))
  where
    first : (es : List (Block × ℕ)) → es ≡ leaves_by_code n grid → 1 ≤ length es → (r : Record) × Contains rs r × (r.key.layer ≡ k)
    first [] is one = absurd (omega arith)
    first (e ∷ es) is one =
        let fact : Block × ℕ → Fact = λ x. HasColour x.0 x.1 in
        let c = (leaves_members n grid e).0 (subst (λ (l : List (Block × ℕ)). Contains l e) is (Contains-here e es)) in
        let m = Contains-there (IsOfKind 1 0) (map fact (leaves n grid)) (fact e) (Contains-map fact (leaves n grid) e c) in
        ⊎_elim (λ kind. let z : HasColour e.0 e.1 ≡ IsOfKind 1 0 = kind in cc) (λ d. (record_of n 0 [] k (fact e), d, refl)) (s.each (fact e) m)
some_record form n le rs k some (Points capacity points) s =
    let p : Pixel = record { x = 0; y = 0 } in
    let pos = pow_pos n in
    let b = block_around n capacity points p s.fits.least pos pos in
    let g = IsMaximal-from n (holds_few capacity points) b.block b.maximal in
    let f = some_on points b.block in
    let o : OfBlock n capacity points f.0 = record { block = b.block; maximal = g; on = f.1 } in
    let number = on_layer n capacity k points b.block f.0 f.1 in
    ⊎_elim
    (λ kind. let z : 0 ≡ k = sym (ap (λ (x : Fact). (record_of n capacity [] k x).key.layer) kind) ∙ number in absurd (omega arith))
    (λ d. (record_of n capacity [] k f.0, d, number)) (s.each f.0 (fact_is n capacity points f.0 o))
some_record form n le rs k some (Lines threshold segs cover) s =
    let pos = pow_pos n in
    let h = cover_of n threshold segs cover s.fits in
    let b = h.covers.holder (record { x = 0; y = 0 }) pos pos in
    let p = first_pair b.0 (finmap.entries segs) in
    (pair_record n k p.0, pair_there form n k threshold segs cover rs some s b.0 p.0 b.1 p.1, (pair_key n k p.0).layer_is)

module _ (form n : ℕ) (numbers : Numbering) (layers : Map) (rs ahead : List Record) (le : n ≤ 12) (s : SpellsUnder form n numbers (rs ++ ahead) layers) where
  -- ---- the layers of the map
  named_in : (name : List ℕ) (l : Layer) → finmap.get layers name ≡ Some l → is_name name ≡ true
  named_in name l at =
      All-contains (λ (e : List ℕ × Layer). is_name e.0 ≡ true) (finmap.entries layers) (name, l) s.map.named
      (entry_from_get (slice_cmp nat_cmp) nat_list_cmp_total name_same layers name l at)

  layer_is : (name : List ℕ) (l : Layer) → finmap.get layers name ≡ Some l → IsLayer form n l
  layer_is name l at = layer_fits form n numbers layers le s.map s.numbering name l at

  pub number_range : (name : List ℕ) (l : Layer) → finmap.get layers name ≡ Some l → (1 ≤ number_of numbers name) × (number_of numbers name ≤ 255)
  number_range name l at = number_fits layers numbers s.numbering name l at

  -- a record of the catalog is that of a layer
  pub record CatalogRecord (r : Record) : Type 0 where
    pub name : List ℕ
    pub layer : Layer
    pub at : finmap.get layers name ≡ Some layer
    pub entry : IsEntryOf form r (named_entry name (number_of numbers name) layer)

  pub catalog_record : (r : Record) → Contains (rs ++ ahead) r → r.key.layer ≡ 0 → CatalogRecord r
  catalog_record r c zero' =
      let w = catalog_only form n numbers (rs ++ ahead) layers le s r c zero' in
      let range = number_range w.0 w.1 w.2 in
      record {
        name = w.0;
        layer = w.1;
        at = w.2;
        entry = named_entry_is form n r w.0 (number_of numbers w.0) w.1 range.0 range.1 (named_in w.0 w.1 w.2) (layer_is w.0 w.1 w.2) w.3;
      }

  -- the records of each layer
  pub spelled_at : (name : List ℕ) (l : Layer) → finmap.get layers name ≡ Some l → SpellsOne form n (rs ++ ahead) (number_of numbers name) l
  spelled_at name l at =
      let k = number_of numbers name in
      let c = capacity_of l in
      let h = layer_spelled form n numbers (rs ++ ahead) layers le s name l at in
      let fits = layer_is name l at in
      let range = number_range name l at in
      record {
        fits = fits;
        each = λ f m.
            ⊎_elim (λ zero'. inl (kind_only form n l c k name f fits range.0 m zero'))
            (λ same. inr (subst (Contains (rs ++ ahead)) same (h.each f m))) (free_or_kind n c k name [] f);
        only = λ r m is.
            let number : number_in r.key ≡ k = cond-false (eqb r.key.layer 0) r.key.item r.key.layer (ne_eqb r.key.layer 0 (λ z. absurd (omega arith))) ∙ is in
            let w = layer_record_from n name k l r (h.only r m number) in
            ⊎_elim (λ zero'. let z = ap (λ (q : Record). q.key.layer) w.2 in absurd (omega arith))
            (λ same. (w.0, w.1, sym same ∙ w.2)) (free_or_kind n c k name [] w.0);
      }

  -- a record of a layer
  pub record LayerRecord (r : Record) : Type 0 where
    pub name : List ℕ
    pub layer : Layer
    pub at : finmap.get layers name ≡ Some layer
    pub number : number_of numbers name ≡ r.key.layer

  pub layer_record_of : (r : Record) → Contains (rs ++ ahead) r → 1 ≤ r.key.layer → LayerRecord r
  layer_record_of r c some =
      let w = (s.written r).0 c in
      let range = number_range w.name w.layer w.at in
      let number = number_in_layer n w.name (number_of numbers w.name) w.layer r range.0 w.written in
      record {
        name = w.name;
        layer = w.layer;
        at = w.at;
        number = sym number ∙ cond-false (eqb r.key.layer 0) r.key.item r.key.layer (ne_eqb r.key.layer 0 (λ z. absurd (omega arith)));
      }

  -- what stands behind is greater
  pub in_order : (a b : Record) → Contains rs a → Contains ahead b → by_key a b ≡ Less
  in_order a b c d = rises_before by_key rs ahead a b s.ascending c d

  -- ---- what is known so far
  module _ (es : List Entry) (last layer : ℕ) (run : Run) (f : IsSoFar form n es last layer run rs) (most : last ≤ 255) where
    -- the layer of an entry
    pub record EntryLayer (e : Entry) : Type 0 where
      pub value : Layer
      pub at : finmap.get layers e.name ≡ Some value
      pub number : number_of numbers e.name ≡ e.number
      pub kind : kind_of value ≡ e.kind

    pub entry_layer : (e : Entry) → Contains es e → EntryLayer e
    entry_layer e c =
        let w = catalog_record (entry_record n e) (Contains-append_left rs ahead (entry_record n e) (f.listed e c)) refl in
        let top = f.most e c in
        let mine = entry_is form n e (f.least e c) (omega arith) (f.named e c) (f.fitting e c) in
        let same = entry_alone form (entry_record n e) (named_entry w.name (number_of numbers w.name) w.layer) e w.entry mine in
        let name = ap (λ (x : Entry). x.name) same in
        record {
          value = w.layer;
          at = subst (λ (z : List ℕ). finmap.get layers z ≡ Some w.layer) name w.at;
          number = ap (λ (z : List ℕ). number_of numbers z) (sym name) ∙ ap (λ (x : Entry). x.number) same;
          kind = ap (λ (x : Entry). x.kind) same;
        }

    -- where no record of the catalog comes behind, each layer of the map has its entry
    pub all_listed : ((x : Record) → Contains ahead x → 1 ≤ x.key.layer) → (name : List ℕ) (l : Layer) → finmap.get layers name ≡ Some l
        → (e : Entry) × Contains es e × (e.name ≡ name) × (e.number ≡ number_of numbers name)
    all_listed past name l at =
        let k = number_of numbers name in
        let r = kind_record n name k l in
        let is = kind_record_is n name k l in
        let zero' : r.key.layer ≡ 0 = ap (λ (q : Record). q.key.layer) is in
        let c : Contains rs r = ⊎_elim (λ d. d) (λ d. let p = past r d in absurd (omega arith))
        (Contains-append_cases rs ahead r (catalog_each form n numbers (rs ++ ahead) layers le s name l at)) in
        let w = f.entries_only r c zero' in
        let e = w.0 in
        let range = number_range name l at in
        let top = f.most e w.1 in
        let here = named_entry_is form n r name k l range.0 range.1 (named_in name l at) (layer_is name l at) refl in
        let mine = subst (λ (q : Record). IsEntryOf form q e) (sym w.2) (entry_is form n e (f.least e w.1) (omega arith) (f.named e w.1) (f.fitting e w.1)) in
        let same = entry_alone form r e (named_entry name k l) mine here in
        (e, w.1, ap (λ (x : Entry). x.name) same, ap (λ (x : Entry). x.number) same)

    -- an entry whose layer comes behind has a record there
    pub behind : (e : Entry) → Contains es e → layer < e.number → (x : Record) × Contains ahead x × (x.key.layer ≡ e.number)
    behind e c lt =
        let l = entry_layer e c in
        let least = f.least e c in
        let spelled = subst (λ (k : ℕ). SpellsOne form n (rs ++ ahead) k l.value) l.number (spelled_at e.name l.value l.at) in
        let r = some_record form n le (rs ++ ahead) e.number least l.value spelled in
        let number = r.2 in
        ⊎_elim (λ d. let k = (f.layers_only r.0 d (omega arith)).0 in absurd (omega arith)) (λ d. (r.0, d, number)) (Contains-append_cases rs ahead r.0 r.1)

    -- the records of the layer that comes
    pub current_spelled : (e : Entry) → Contains es e → e.number ≡ layer → (l : EntryLayer e) → SpellsOne form n (rs ++ ahead) layer l.value
    current_spelled e c is l = subst (λ (k : ℕ). SpellsOne form n (rs ++ ahead) k l.value) (l.number ∙ is) (spelled_at e.name l.value l.at)
