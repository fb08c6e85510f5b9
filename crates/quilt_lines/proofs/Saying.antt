-- What records that were read say, one by one.
use Rattle.std.proofs.Common.{◌≡◌, ℕ, List, [], ◌∷◌, ◌++◌, map, true, All, Option, Some, None, sym, ◌∙◌, ap}
use Rattle.std.specs.List.{list_all}
use Rattle.std.proofs.lemmas.List.{map-append}
use Rattle.quilt_types.specs.declared.plane.Block.{Block}
use Rattle.quilt_types.specs.declared.plane.Seg.{Seg}
use Rattle.quilt_types.specs.Facts.{IsSegment}
use Rattle.quilt_loc.proofs.Members.{list_all-at}
use Rattle.quilt_record.specs.declared.key.Key.{Key}
use Rattle.quilt_record.specs.declared.record.Record.{Record}
use Rattle.quilt_btree.specs.declared.tree.Tree.{Tree}
use Rattle.quilt_btree.specs.Trees.{IsTree}
use Rattle.quilt_btree.specs.Lists.{value_at_key, range_of, is_from_to}
use Rattle.quilt_spell.proofs.Spelling.{all_from}
use Rattle.quilt_lines.specs.Layers.{fact_record}
use Rattle.quilt_lines.specs.Reads.{segment_key, none_of}
use Rattle.quilt_lines.specs.Said.{greatest, SaySegment, records_at, segment_records}
use Rattle.quilt_lines.proofs.Keys.{range_alike}

-- a record that says a segment under the key of an id
pub segment_at : (n layer : ℕ) (rs : List Record) (id : ℕ) (key : Key) (v : List ℕ) (o : Option (List ℕ)) (said : ℕ × Seg) → key ≡ segment_key layer id
    → o ≡ value_at_key key rs → o ≡ Some v
    → (let r : Record = record { key = key; value = v } in r ≡ fact_record n key.layer (IsSegment said.0 said.1)) → SaySegment n layer rs id said.1
segment_at n layer rs id key v o said is value some says =
    let same : v ≡ (fact_record n layer (IsSegment id said.1)).value = ap (λ (z : Record). z.value) says in
    sym (ap (λ (k : Key). value_at_key k rs) is) ∙ sym value ∙ some ∙ ap Some same

-- none says one
pub none_at : (layer : ℕ) (rs : List Record) (id : ℕ) (key : Key) (o : Option (List ℕ)) → key ≡ segment_key layer id → o ≡ value_at_key key rs → o ≡ None
    → value_at_key (segment_key layer id) rs ≡ None
none_at layer rs id key o is value none = sym (ap (λ (k : Key). value_at_key k rs) is) ∙ sym value ∙ none

-- the records of a block that were read
module _ (told : Option (List (List ℕ))) (tree : Tree) (items : List Record) (low high : Key)
    (range : (rs : List Record) → IsTree told tree rs → items ≡ range_of low high greatest rs) (rs : List Record) (is : IsTree told tree rs) where
  pub read_at : (n layer : ℕ) (b : Block) → low ≡ (none_of n layer b).key
      → high ≡ record { layer = low.layer; part = low.part; code = low.code; depth = low.depth; item = greatest } → items ≡ records_at n layer b rs
  read_at n layer b first last =
      range rs is ∙ ap (λ (k : Key). range_of k high greatest rs) first
      ∙ ap (λ (k : Key). range_of (none_of n layer b).key k greatest rs)
      (last ∙ ap (λ (k : Key). let m : Key = record { layer = k.layer; part = k.part; code = k.code; depth = k.depth; item = greatest } in m) first)

  pub read_segments : (layer : ℕ) → low ≡ segment_key layer 0 → high ≡ segment_key layer greatest → items ≡ segment_records layer rs
  read_segments layer first last =
      range rs is ∙ ap (λ (k : Key). range_of k high greatest rs) first ∙ ap (λ (k : Key). range_of (segment_key layer 0) k greatest rs) last

-- records whose keys are a segment's are of the layer
pub all_of_layer : (layer : ℕ) (low high : Key) (items : List Record) → low ≡ segment_key layer 0 → high ≡ segment_key layer greatest
    → list_all (is_from_to low high) items ≡ true → All (λ r. r.key.layer ≡ layer) items
all_of_layer layer low high items first last within =
    all_from (λ (r : Record). r.key.layer ≡ layer) items
    (λ r c.
    let t : is_from_to (segment_key layer 0) (segment_key layer greatest) r ≡ true =
    sym (ap (λ (k : Key). is_from_to (segment_key layer 0) k r) last) ∙ sym (ap (λ (k : Key). is_from_to k high r) first)
    ∙ list_all-at (is_from_to low high) items r within c in
    sym (range_alike (segment_key layer 0) r greatest t).layer)

-- one record more that says a segment
pub says_more : (n layer : ℕ) (before : List Record) (r : Record) (list : List (ℕ × Seg)) (e : ℕ × Seg) → r.key.layer ≡ layer
    → before ≡ map (λ z. fact_record n layer (IsSegment z.0 z.1)) list → r ≡ fact_record n r.key.layer (IsSegment e.0 e.1)
    → before ++ r ∷ [] ≡ map (λ z. fact_record n layer (IsSegment z.0 z.1)) (list ++ e ∷ [])
says_more n layer before r list e of is says =
    let row : ℕ × Seg → Record = λ z. fact_record n layer (IsSegment z.0 z.1) in
    let one : r ≡ row e = says ∙ ap (λ l. fact_record n l (IsSegment e.0 e.1)) of in
    ap (λ (l : List Record). l ++ r ∷ []) is ∙ ap (λ (x : Record). map row list ++ x ∷ []) one ∙ sym (map-append row list (e ∷ []))
