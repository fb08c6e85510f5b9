-- Every edit of a line layer gives a line layer.
use Rattle.std.proofs.Common.{◌≡◌, ◌⊎◌, ℕ, ◌^◌, ◌<◌, true, Option, is_some, inl, inr, true≢false, refl, sym, ap, ◌∙◌, subst, ⊎_elim, Contains, All}
use Rattle.std.specs.FinMap as finmap
use Rattle.std.specs.FinMap.{nat_cmp-IsAntisymmetric}
use Rattle.std.specs.Ordering.{nat_cmp}
use Rattle.std.specs.Cmp.{nat_cmp_total}
use Rattle.std.proofs.lemmas.List.Elements.{All-contains}
use Rattle.std.proofs.lemmas.Bool.{cases_eq}
use Rattle.quilt_types.specs.Sets as finset
use Rattle.quilt_types.specs.declared.plane.Block.{Block}
use Rattle.quilt_types.specs.declared.plane.Seg.{Seg}
use Rattle.quilt_types.specs.Plane.{whole, blocks, block_cmp, IsBlock}
use Rattle.quilt_types.specs.Layers.{SegMap, BlockSet, is_in_square}
use Rattle.quilt_types.specs.Quadtrees.{after_add, after_remove}
use Rattle.quilt_loc.proofs.Blocks.{Contains-blocks}
use Rattle.quilt_spell.proofs.Maps.{get_removed, get_kept, get_inserted, get_others}
use Rattle.quilt_loc.proofs.Quartered.{quarters_are, IsBlock-whole, Holds-whole}
use Rattle.quilt_loc.proofs.PlaneOrders.{block_total}
use Rattle.quilt_spell.proofs.facts.FactKeys.{block_same}
use Rattle.quilt_line_laws.proofs.SetLaws.{contains_is, items-insert}
use Rattle.quilt_line_laws.proofs.Covers.{is_cover-true, after_add-cover}
use Rattle.quilt_line_laws.proofs.Merges.{IsBlockCover, after_remove-cover}
use Rattle.quilt_line_laws.specs.Lawful.{NewLaw, AddedLaw, RemovedLaw}
use Rattle.quilt_line_laws.proofs.LineFacts.{entry, got}
use Rattle.quilt_line_laws.proofs.Cutting.{cut_says, after_from}
use Rattle.quilt_line_laws.proofs.Adding.{cover_of, same_seg_value, no_seg}
use Rattle.quilt_spell.proofs.Spelling.{all_from}

abbrev Small : ℕ × Seg → Type 0
Small e = e.0 < 2 ^ 32

abbrev Inside : ℕ → ℕ × Seg → Type 0
Inside n e = is_in_square n e.1 ≡ true

-- of an entry of a map with one more
entry_cases : (segs : SegMap) (id : ℕ) (s : Seg) (e : ℕ × Seg) → Contains (finmap.entries (finmap.insert segs id s)) e
    → ((e.0 ≡ id) × (e.1 ≡ s)) ⊎ Contains (finmap.entries segs) e
entry_cases segs id s e c =
    let now = finmap.insert segs id s in
    let g = got now e c in
    ⊎_elim
    (λ is. inl (is, same_seg_value e.1 s (sym g ∙ ap (finmap.get now) is ∙ get_inserted nat_cmp nat_cmp_total nat_cmp-IsAntisymmetric segs id s)))
    (λ d. inr (entry segs e.0 e.1 (sym (get_others nat_cmp nat_cmp_total nat_cmp-IsAntisymmetric segs id s e.0 d) ∙ g)))
    (cases_eq e.0 id)

entry_left : (segs : SegMap) (id : ℕ) (e : ℕ × Seg) → Contains (finmap.entries (finmap.remove segs id)) e → Contains (finmap.entries segs) e
entry_left segs id e c =
    let now = finmap.remove segs id in
    let g = got now e c in
    ⊎_elim
    (λ is. absurd (no_seg e.1 (sym (get_removed nat_cmp nat_cmp_total nat_cmp-IsAntisymmetric segs id) ∙ ap (finmap.get now) (sym is) ∙ g)))
    (λ d. entry segs e.0 e.1 (sym (get_kept nat_cmp nat_cmp_total nat_cmp-IsAntisymmetric segs id e.0 d) ∙ g))
    (cases_eq e.0 id)

blocks_only : (n : ℕ) (cover : BlockSet) → IsBlockCover n cover → All (Contains (blocks n)) (finset.items cover)
blocks_only n cover h = all_from (Contains (blocks n)) (finset.items cover) (λ b c. Contains-blocks n b (h.only b c))

pub added_law : AddedLaw
added_law n t segs cover id s h small inside =
    let now = finmap.insert segs id s in
    let k = cover_of n t segs cover h in
    let later = after_add t now cover s in
    let blocks_are : (b : Block) → Contains (finset.items later) b → IsBlock n b =
    λ b c. ⊎_elim (λ w. (quarters_are n w.0 b (k.only w.0 w.1) (cut_says t now s w.0 w.2).wide w.3).block) (λ w. k.only b w.0)
    (after_from n t now cover s k b c) in
    record {
      least = h.least;
      most = h.most;
      ids = all_from Small (finmap.entries now)
          (λ e c. ⊎_elim (λ w. subst (λ (z : ℕ). z < 2 ^ 32) (sym w.0) small) (λ w. All-contains Small (finmap.entries segs) e h.ids w)
          (entry_cases segs id s e c));
      inside = all_from (Inside n) (finmap.entries now)
          (λ e c. ⊎_elim (λ w. subst (λ (z : Seg). is_in_square n z ≡ true) (sym w.1) inside)
          (λ w. All-contains (Inside n) (finmap.entries segs) e h.inside w) (entry_cases segs id s e c));
      each = all_from (Contains (blocks n)) (finset.items later) (λ b c. Contains-blocks n b (blocks_are b c));
      once = after_add-cover n t now cover s (λ b c. Contains-blocks n b (k.only b c)) h.once;
    }

pub removed_law : RemovedLaw
removed_law n t segs cover id s h =
    let now = finmap.remove segs id in
    let later = after_remove-cover n t now cover s (cover_of n t segs cover h) in
    record {
      least = h.least;
      most = h.most;
      ids = all_from Small (finmap.entries now) (λ e c. All-contains Small (finmap.entries segs) e h.ids (entry_left segs id e c));
      inside = all_from (Inside n) (finmap.entries now) (λ e c. All-contains (Inside n) (finmap.entries segs) e h.inside (entry_left segs id e c));
      each = blocks_only n (after_remove n t now cover s) later;
      once = is_cover-true n (after_remove n t now cover s) later.covers;
    }

-- ---- a new layer
no_entries : (e : ℕ × Seg) → Contains (finmap.entries {R = nat_cmp} finmap.empty) e → ⊥
no_entries e c = no_seg e.1 (sym (finmap.get-empty {X = Seg} nat_cmp e.0) ∙ got finmap.empty e c)

no_items : (b : Block) → Contains (finset.items {R = block_cmp} finset.empty) b → ⊥
no_items b c =
    let t = (contains_is block_total block_same finset.empty b).1 c in
    absurd (true≢false (sym t ∙ ap (λ (o : Option (Unit {0})). is_some o) (finmap.get-empty {X = Unit {0}} block_cmp b)))

pub new_law : NewLaw
new_law n t low high =
    let one = finset.insert {R = block_cmp} finset.empty (whole n) in
    let member : (b : Block) → Contains (finset.items one) b → b ≡ whole n =
    λ b c. ⊎_elim (λ e. e) (λ d. absurd (no_items b d)) ((items-insert block_total block_same finset.empty (whole n) b).0 c) in
    let cover : IsBlockCover n one = record {
      only = λ b c. subst (IsBlock n) (sym (member b c)) (IsBlock-whole n);
      covers = record {
        holder = λ p hx hy. (whole n, (items-insert block_total block_same finset.empty (whole n) (whole n)).1 (inl refl), Holds-whole n p hx hy);
        one = λ p hx hy a b ca ha cb hb. member a ca ∙ sym (member b cb);
      };
    } in
    record {
      least = low;
      most = high;
      ids = all_from Small (finmap.entries finmap.empty) (λ e c. absurd (no_entries e c));
      inside = all_from (Inside n) (finmap.entries finmap.empty) (λ e c. absurd (no_entries e c));
      each = blocks_only n one cover;
      once = is_cover-true n one cover.covers;
    }
