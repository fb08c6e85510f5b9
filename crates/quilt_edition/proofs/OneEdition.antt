-- A file stands for one edition at most.
use Rattle.std.proofs.Common.{◌≡◌, ℕ, ◌^◌, ◌<◌, ◌≤◌, ◌⊎◌, inl, inr, ⊎_elim, zero, suc, List, [], ◌∷◌, ◌++◌, length, take, drop, refl, sym, ◌∙◌, ap, subst}
use Rattle.std.proofs.Common.{arith}
use Rattle.std.specs.Prelude.{slice_index}
use Rattle.std.specs.Int.{to_be_bytes, w32}
use Rattle.std.proofs.lemmas.List.{length-map}
use Rattle.std.proofs.lemmas.List.FromFn.{length-range_with_len}
use Rattle.quilt_types.specs.Plane.{below}
use Rattle.quilt_types.specs.Layers.{Edition}
use Rattle.quilt_record.specs.declared.record.Record.{Record}
use Rattle.quilt_record.specs.Records.{Spells}
use Rattle.quilt_node.specs.declared.head.Head.{Head}
use Rattle.quilt_node.specs.Pages.{magic, header_bytes, IsHead, IsHeader}
use Rattle.quilt_node.specs.Tree.{Whole, walk_of}
use Rattle.quilt_world.specs.Home.{page_of, home}
use Rattle.quilt_edition.specs.Stands.{HoldsEdition, Stands}
use Rattle.quilt_spell.proofs.facts.OneMap.{one_map}
use Rattle.quilt_spell.proofs.facts.Decoding.{four_bytes}

-- the numbers in the bytes, whatever stands behind them
abbrev front : Head → List ℕ → List ℕ
front h rest =
    (magic ++ to_be_bytes w32 h.format ++ to_be_bytes w32 h.edition ++ (h.level ∷ h.height ∷ 0 ∷ 0 ∷ []) ++ to_be_bytes w32 h.root
    ++ to_be_bytes w32 h.records) ++ rest

at_format : (h : Head) (z : List ℕ) → take 4 (drop 4 (front h z)) ≡ to_be_bytes w32 h.format
at_format h z = refl

at_edition : (h : Head) (z : List ℕ) → take 4 (drop 8 (front h z)) ≡ to_be_bytes w32 h.edition
at_edition h z = refl

at_level : (h : Head) (z : List ℕ) → slice_index (front h z) 12 ≡ h.level
at_level h z = refl

at_height : (h : Head) (z : List ℕ) → slice_index (front h z) 13 ≡ h.height
at_height h z = refl

at_root : (h : Head) (z : List ℕ) → take 4 (drop 16 (front h z)) ≡ to_be_bytes w32 h.root
at_root h z = refl

at_records : (h : Head) (z : List ℕ) → take 4 (drop 20 (front h z)) ≡ to_be_bytes w32 h.records
at_records h z = refl

heads_from : (g h : Head) (y z : List ℕ) → g.format < 2 ^ 32 → h.format < 2 ^ 32 → g.edition < 2 ^ 32 → h.edition < 2 ^ 32 → g.root < 2 ^ 32
    → h.root < 2 ^ 32 → g.records < 2 ^ 32 → h.records < 2 ^ 32 → front g y ≡ front h z → g ≡ h
heads_from g h y z a a' b b' c c' d d' e =
    let format = four_bytes g.format h.format a a' (sym (at_format g y) ∙ ap (λ (l : List ℕ). take 4 (drop 4 l)) e ∙ at_format h z) in
    let edition = four_bytes g.edition h.edition b b' (sym (at_edition g y) ∙ ap (λ (l : List ℕ). take 4 (drop 8 l)) e ∙ at_edition h z) in
    let level = sym (at_level g y) ∙ ap (λ (l : List ℕ). slice_index l 12) e ∙ at_level h z in
    let height = sym (at_height g y) ∙ ap (λ (l : List ℕ). slice_index l 13) e ∙ at_height h z in
    let root = four_bytes g.root h.root c c' (sym (at_root g y) ∙ ap (λ (l : List ℕ). take 4 (drop 16 l)) e ∙ at_root h z) in
    let records = four_bytes g.records h.records d d' (sym (at_records g y) ∙ ap (λ (l : List ℕ). take 4 (drop 20 l)) e ∙ at_records h z) in
    λ i. record { format = format i; edition = edition i; level = level i; height = height i; root = root i; records = records i }

root_small : (pages : ℕ) (h : Head) → pages ≤ 30000 → IsHead pages h → h.root < 2 ^ 32
root_small pages h most is = ⊎_elim (λ e. let z = (is.no_tree e).0 in omega arith) (λ e. let r = (is.tree e).1 in omega arith) (none_or_some h.height)
  where
    none_or_some : (n : ℕ) → (n ≡ 0) ⊎ (1 ≤ n)
    none_or_some zero = inl refl
    none_or_some (suc n) = inr (omega arith)

module _ (pages : ℕ) (most : pages ≤ 30000) (bytes : List ℕ) (g h : Head) where
  pub one_head : IsHeader pages bytes g → IsHeader pages bytes h → g ≡ h
  unfolding header_bytes
  one_head a b =
      let na = a.numbers in
      let nb = b.numbers in
      let af = na.format.1 in
      let bf = nb.format.1 in
      let ar = na.records in
      let br = nb.records in
      heads_from g h _ _ (omega arith) (omega arith) na.edition nb.edition (root_small pages g most na) (root_small pages h most nb) (omega arith)
      (omega arith) (sym a.written ∙ b.written)

same_walk : (rs ss : List Record) (u v : List ℕ) → Whole rs u ≡ Whole ss v → rs ≡ ss
same_walk rs ss u v e = cc

module _ (pages : List (List ℕ)) (most : length pages ≤ 30000) (d e : Edition) where
  pub one_edition : HoldsEdition pages d → HoldsEdition pages e → d ≡ e
  one_edition a b =
      let head = one_head (length pages) most (page_of pages 0) a.head b.head a.header b.header in
      let walks = sym a.tree ∙ ap (λ (h : Head). walk_of pages h.root h.height) head ∙ b.tree in
      let records = same_walk a.records b.records a.visited b.visited walks in
      let low = a.header.numbers.level.1 in
      let spelled = subst (λ (h : Head). Spells h.format h.level a.records e.layers) (sym head)
      (subst (λ (rs : List Record). Spells b.head.format b.head.level rs e.layers) (sym records) b.spelled) in
      let layers = one_map a.head.format a.head.level a.records d.layers e.layers low a.spelled spelled in
      let format = a.format ∙ ap (λ (h : Head). h.format) head ∙ sym b.format in
      let number = a.number ∙ ap (λ (h : Head). h.edition) head ∙ sym b.number in
      let level = a.level ∙ ap (λ (h : Head). h.level) head ∙ sym b.level in
      λ i. record { format = format i; number = number i; level = level i; layers = layers i }

pub home_length : (image : List (List ℕ)) (pages : ℕ) → length (home image pages) ≡ pages
unfolding home
home_length image pages = length-map (below pages) _ ∙ length-range_with_len 0 pages

-- a file stands for one edition at most
pub stands_once : (image : List (List ℕ)) (d e : Edition) → Stands image d → Stands image e → d ≡ e
stands_once image d e a b =
    let sa = a.file.size in
    let sb = b.file.size in
    let most = a.file.most in
    let long = home_length image a.pages in
    let same : b.pages ≡ a.pages = omega arith in
    one_edition (home image a.pages) (omega arith) d e a.holds (subst (λ (p : ℕ). HoldsEdition (home image p) e) same b.holds)
