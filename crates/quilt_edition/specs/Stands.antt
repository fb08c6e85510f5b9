-- The edition that a file stands for.
use Rattle.std.specs.Prelude.{◌≡◌, ℕ, List, length}
use Rattle.quilt_types.specs.Layers.{Edition}
use Rattle.quilt_record.specs.declared.record.Record.{Record}
use Rattle.quilt_node.specs.declared.head.Head.{Head}
use Rattle.quilt_record.specs.Records.{Spells}
use Rattle.quilt_node.specs.Pages.{IsHeader}
use Rattle.quilt_node.specs.Tree.{Whole, walk_of}
pub use Rattle.quilt_node.specs.Tree.{page_of_walk}
use Rattle.quilt_world.specs.Home.{page_of, IsMapFile, home}

-- Home pages with a header and a tree that spells the edition's map.
pub record HoldsEdition (pages : List (List ℕ)) (edition : Edition) : Type 0 where
  pub head : Head
  pub header : IsHeader (length pages) (page_of pages 0) head
  pub format : edition.format ≡ head.format
  pub number : edition.number ≡ head.edition
  pub level : edition.level ≡ head.level
  pub records : List Record
  pub visited : List ℕ
  pub tree : walk_of pages head.root head.height ≡ Whole records visited
  pub count : length records ≡ head.records
  pub spelled : Spells head.format head.level records edition.layers

-- The page that is named where home pages hold no edition: 0 where the header is not well formed, or no page is damaged.
pub record IsDamagePage (pages : List (List ℕ)) (page : ℕ) : Type 0 where
  pub no_header : ((h : Head) → IsHeader (length pages) (page_of pages 0) h → ⊥) → page ≡ 0
  pub header : (h : Head) → IsHeader (length pages) (page_of pages 0) h → page ≡ page_of_walk (walk_of pages h.root h.height)

-- The file stands for the edition.
pub record Stands (image : List (List ℕ)) (edition : Edition) : Type 0 where
  pub pages : ℕ
  pub file : IsMapFile image pages
  pub holds : HoldsEdition (home image pages) edition
