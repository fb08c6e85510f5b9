-- What an image with an empty header stands for, with the label and without.
use Rattle.std.proofs.Common.{◌≡◌, ◌≤◌, ◌+◌, ℕ, List, [], get_or, replicate, false, cond, ◌&&◌, ◌==◌, refl, sym, ◌∙◌, ap, arith, lit<, lit≤}
use Rattle.std.specs.FinMap as finmap
use Rattle.std.proofs.lemmas.List.FromFn.{get_or-map-range_with_len}
use Rattle.quilt_types.specs.Layers.{Edition}
use Rattle.quilt_world.specs.Disk.{Pages}
use Rattle.quilt_world.specs.Home.{file_label, IsMapFile, is_open, is_listed, home}
use Rattle.quilt_node.specs.Pages.{header_bytes, IsHeader}
use Rattle.quilt_node.specs.Tree.{Whole, walk_of}
use Rattle.quilt_edition.specs.Stands.{Stands}
use Rattle.quilt_edition.specs.Creating.{empty_edition, empty_head, IsNoneOrEmpty}
use Rattle.quilt_edition.proofs.Empties.{no_records, spells_empty}
use Rattle.quilt_edition.proofs.Headers.{same_format, same_level, same_height, same_edition}

abbrev pub zeros : List ℕ
zeros = replicate 4096 0

first_of_label : get_or file_label 0 0 ≡ 81
unfolding file_label
first_of_label = refl

label_is_no_zeros : file_label ≡ zeros → ⊥
label_is_no_zeros is = let e : ◌≡◌ {A = ℕ} 81 0 = sym first_of_label ∙ ap (λ (l : List ℕ). get_or l 0 0) is in omega arith

-- without the label it stands for nothing
pub unlabelled : (image : Pages) (E : Edition) → get_or image 0 [] ≡ zeros → Stands image E → ⊥
unlabelled image E is stands = label_is_no_zeros (sym stands.file.labelled ∙ is)

-- the gate is shut and the header is the empty edition's
pub record IsHeaded (n : ℕ) (image : Pages) : Type 0 where
  pub gate : get_or image 1 [] ≡ zeros
  pub header : get_or image 3 [] ≡ header_bytes (empty_head n)

shut : (n : ℕ) (image : Pages) → IsHeaded n image → is_open image ≡ false
shut n image headed = ap (λ (l : List ℕ). get_or l 0 0 == 1) headed.gate

home_header : (n : ℕ) (image : Pages) (pages : ℕ) → 1 ≤ pages → IsHeaded n image → get_or (home image pages) 0 [] ≡ header_bytes (empty_head n)
unfolding home
home_header n image pages some headed =
    get_or-map-range_with_len _ 0 pages 0 0 [] (omega arith) (omega arith)
    ∙ ap (λ t. cond (t && is_listed image 0) (get_or image (3 + pages + 0) []) (get_or image (3 + 0) [])) (shut n image headed)
    ∙ headed.header

no_walk : (pages : Pages) (root : ℕ) → walk_of pages root 0 ≡ Whole [] []
unfolding walk_of
no_walk pages root = refl

-- it stands for the empty edition, if for any
pub headed_only : (n : ℕ) (image : Pages) → n ≤ 12 → IsHeaded n image → IsNoneOrEmpty n image
headed_only n image low headed E stands =
    let pages = stands.pages in
    let holds = stands.holds in
    let head = holds.head in
    let bytes : header_bytes head ≡ header_bytes (empty_head n) =
    sym holds.header.written ∙ home_header n image pages (omega (arith, stands.file.least)) headed in
    let low_format = holds.header.numbers.format.1 in
    let format : head.format ≡ 1 = same_format head (empty_head n) (omega arith) (lit< tt) bytes in
    let level : head.level ≡ n = same_level head (empty_head n) bytes in
    let height : head.height ≡ 0 = same_height head (empty_head n) bytes in
    let number : head.edition ≡ 0 = same_edition head (empty_head n) holds.header.numbers.edition (lit< tt) bytes in
    let walk : Whole [] [] ≡ Whole holds.records holds.visited =
    sym (no_walk (home image pages) head.root) ∙ ap (walk_of (home image pages) head.root) (sym height) ∙ holds.tree in
    let none : holds.records ≡ [] = cc in
    let layers : E.layers ≡ finmap.empty = no_records head.level holds.spelled.numbers E.layers (sym holds.spelled.written ∙ none) in
    λ i. record { format = (holds.format ∙ format) i; number = (holds.number ∙ number) i; level = (holds.level ∙ level) i; layers = layers i }

empty_is_header : (n pages : ℕ) (bytes : List ℕ) → 1 ≤ n → n ≤ 12 → bytes ≡ header_bytes (empty_head n) → IsHeader pages bytes (empty_head n)
empty_is_header n pages bytes some low is = record {
  numbers = record {
    format = (lit≤ tt, lit≤ tt);
    edition = lit< tt;
    level = (some, low);
    height = omega arith;
    no_tree = λ none. (refl, refl);
    tree = λ one. absurd (omega arith);
    records = omega arith;
  };
  written = is;
}

-- with the label, the empty edition
pub headed_stands : (n pages : ℕ) (image : Pages) → 1 ≤ n → n ≤ 12 → IsMapFile image pages → IsHeaded n image → Stands image (empty_edition n)
headed_stands n pages image some low file headed = record {
  pages = pages;
  file = file;
  holds = record {
    head = empty_head n;
    header = empty_is_header n _ _ some low (home_header n image pages (omega (arith, file.least)) headed);
    format = refl;
    number = refl;
    level = refl;
    records = [];
    visited = [];
    tree = no_walk (home image pages) 0;
    count = refl;
    spelled = spells_empty 1 n;
  };
}
