-- The last record at or before the greatest key of a block says whether the block is one of the layer's.
use Rattle.std.proofs.Common.{◌≡◌, ℕ, ◌≤◌, true, false, List, [], ◌∷◌, Option, Some, None}
use Rattle.std.proofs.Common.{sym, ◌∙◌, ap, subst, ◌⊎◌, inl, inr, ⊎_elim, Contains, filter, map}
use Rattle.std.specs.List.{last_or}
use Rattle.std.specs.Ordering.{is_le}
use Rattle.std.proofs.lemmas.Bool.{and_parts, and_from, cases_Bool, both_ways}
use Rattle.std.proofs.lemmas.Option.{none-some, same_Some}
use Rattle.quilt_types.specs.Sets as finset
use Rattle.quilt_types.specs.declared.plane.Block.{Block}
use Rattle.quilt_types.specs.Plane.{IsBlock}
use Rattle.quilt_types.specs.Layers.{SegMap, BlockSet}
use Rattle.quilt_types.specs.Facts.{Fact, IsMetBy, IsMetByNone, or_none}
use Rattle.quilt_loc.specs.Codes.{Rises}
use Rattle.quilt_loc.proofs.Members.{Contains-here, Contains-there, Contains-filter, Contains-filter_from, Contains-map_from}
use Rattle.quilt_loc.proofs.PlaneOrders.{block_total}
use Rattle.quilt_loc.proofs.Rising.{Rises-filter}
use Rattle.quilt_record.specs.declared.key.Key.{Key}
use Rattle.quilt_record.specs.declared.record.Record.{Record}
use Rattle.quilt_record.specs.Records.{key_cmp}
use Rattle.quilt_record.proofs.Orders.{le_le}
use Rattle.quilt_btree.specs.declared.tree.Tree.{Tree}
use Rattle.quilt_btree.specs.Lists.{is_at_most, floor_of}
use Rattle.quilt_btree.specs.Trees.{IsTree}
use Rattle.quilt_spell.specs.Written.{by_key}
use Rattle.quilt_spell.proofs.facts.FactKeys.{block_same}
use Rattle.quilt_edits.proofs.Lasts.{last_is}
use Rattle.quilt_line_laws.proofs.LineFacts.{on_block}
use Rattle.quilt_line_laws.proofs.SetLaws.{contains_is}
use Rattle.quilt_near.specs.Lines.{meeting}
use Rattle.quilt_lines.specs.Layers.{shown_facts, fact_record, SpellsLines, HasLines}
use Rattle.quilt_lines.proofs.Keys.{item_key, AreAlike, in_range, range_alike}
use Rattle.quilt_lines.proofs.Shown.{first_key, shown_says, block_shown, on_alike, alike_on}
use Rattle.quilt_lines.proofs.Trees.{tree_rises}

-- the last of a list, or the one that stands in for it
pub last_there : (o : Option Record) (xs : List Record) (r : Record) → last_or o xs ≡ Some r → Contains xs r ⊎ (o ≡ Some r)
last_there o [] r e = inr e
last_there o (x ∷ xs) r e =
    ⊎_elim (λ c. inl (Contains-there x xs r c)) (λ is. inl (subst (Contains (x ∷ xs)) (same_Some x r is) (Contains-here x xs))) (last_there (Some x) xs r e)

-- a list of facts or the one that there are none has a first
pub some_fact : (none : Fact) (fs : List Fact) → (f : Fact) × Contains (or_none none fs) f
some_fact none [] = (none, Contains-here none [])
some_fact none (f ∷ fs) = (f, Contains-here f fs)

module _ (rs : List Record) (layer n t : ℕ) (segs : SegMap) (cover : BlockSet) (up : Rises by_key rs) (spells : SpellsLines rs layer n t segs cover)
    (le : n ≤ 12) (b : Block) (hb : IsBlock n b) where
  abbrev high : Key
  high = item_key (first_key n layer b) 4294967295

  -- a block of the layer has a record there
  floor_there : finset.contains cover b ≡ true → (r : Record) × (floor_of high rs ≡ Some r) × (is_le (key_cmp (first_key n layer b) r.key) ≡ true)
  unfolding floor_of
  floor_there is =
      let m = (contains_is block_total block_same cover b).0 is in
      let f = some_fact (IsMetByNone b) (map (λ e. IsMetBy b e.0) (meeting segs b)) in
      let s = fact_record n layer f.0 in
      let k = alike_on n layer t segs cover spells.valid b f.0 (on_block segs b f.0 f.1) in
      let range = and_parts (is_le (key_cmp (first_key n layer b) s.key)) (is_le (key_cmp s.key high)) (in_range (first_key n layer b) s 4294967295 k.0 k.1) in
      let there = spells.each f.0 (block_shown n layer t segs cover b f.0 m f.1) in
      let l = last_is (filter (is_at_most high) rs) s (Rises-filter by_key (is_at_most high) rs up) (Contains-filter (is_at_most high) rs s there range.1) in
      (l.0, l.1, le_le (first_key n layer b) s.key l.0.key range.0 ((l.2).above s (Contains-filter (is_at_most high) rs s there range.1)))

  -- and where a record is there, the block is one of the layer's
  floor_from : (r : Record) → floor_of high rs ≡ Some r → is_le (key_cmp (first_key n layer b) r.key) ≡ true → finset.contains cover b ≡ true
  unfolding floor_of
  floor_from r e from =
      let c = ⊎_elim (λ d. d) (λ no. absurd (none-some r no)) (last_there None (filter (is_at_most high) rs) r e) in
      let w = Contains-filter_from (is_at_most high) rs r c in
      let a = range_alike (first_key n layer b) r 4294967295 (and_from (is_le (key_cmp (first_key n layer b) r.key)) (is_le (key_cmp r.key high)) from w.1) in
      let m = Contains-map_from (fact_record n layer) (shown_facts segs cover) r (spells.only r w.0 (sym a.layer)) in
      (contains_is block_total block_same cover b).1
      (on_alike n layer t segs cover spells.valid le b hb m.0 (shown_says n layer t segs cover m.0 m.1)
      (subst (λ (z : Record). AreAlike (first_key n layer b) z.key) (sym m.2) a)).0

  pub floor_none : floor_of high rs ≡ None → false ≡ finset.contains cover b
  floor_none e =
      ⊎_elim (λ yes. let f = floor_there yes in absurd (none-some f.0 (sym e ∙ f.1))) (λ no. sym no) (cases_Bool (finset.contains cover b))

  pub floor_some : (r : Record) → floor_of high rs ≡ Some r → is_le (key_cmp (first_key n layer b) r.key) ≡ finset.contains cover b
  floor_some r e =
      ⊎_elim (λ yes. yes ∙ sym (floor_from r e yes))
      (λ no.
      ⊎_elim
      (λ yes.
      let f = floor_there yes in
      absurd (both_ways (is_le (key_cmp (first_key n layer b) r.key)) no
      (subst (λ (z : Record). is_le (key_cmp (first_key n layer b) z.key) ≡ true) (same_Some f.0 r (sym f.1 ∙ e)) f.2)))
      (λ away. no ∙ sym away) (cases_Bool (finset.contains cover b))) (cases_Bool (is_le (key_cmp (first_key n layer b) r.key)))

-- ---- what is read of a tree that has the layer
module _ (told : Option (List (List ℕ))) (tree : Tree) (layer n t : ℕ) (segs : SegMap) (cover : BlockSet) (low high : Key) (o : Option Record)
    (floor : (rs : List Record) → IsTree told tree rs → o ≡ floor_of high rs) (h : HasLines told tree layer n t segs cover) (le : n ≤ 12) (b : Block)
    (hb : IsBlock n b) (first : low ≡ first_key n layer b) (last : high ≡ item_key low 4294967295) where
  floor_is : floor_of (item_key (first_key n layer b) 4294967295) h.records ≡ o
  floor_is = sym (floor h.records h.is_tree ∙ ap (λ (k : Key). floor_of k h.records) (last ∙ ap (λ (k : Key). item_key k 4294967295) first))

  pub read_none : o ≡ None → false ≡ finset.contains cover b
  read_none e = floor_none h.records layer n t segs cover (tree_rises told tree h.records h.is_tree) h.spelled le b hb (floor_is ∙ e)

  pub read_some : (r : Record) → o ≡ Some r → is_le (key_cmp low r.key) ≡ finset.contains cover b
  read_some r e = ap (λ (k : Key). is_le (key_cmp k r.key)) first
      ∙ floor_some h.records layer n t segs cover (tree_rises told tree h.records h.is_tree) h.spelled le b hb r (floor_is ∙ e)
