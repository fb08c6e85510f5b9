-- Home pages whose tree spells a map hold the edition.
use Rattle.std.proofs.Common.{◌≡◌, ℕ, Bool, List, length, Some, sym, subst}
use Rattle.quilt_types.specs.Layers.{Edition}
use Rattle.quilt_world.specs.Disk.{Pages}
use Rattle.quilt_world.specs.Home.{page_of}
use Rattle.quilt_journal.specs.Kept.{HasHome}
use Rattle.quilt_record.specs.declared.entry.Entry.{Entry}
use Rattle.quilt_record.proofs.Names.{some_same}
use Rattle.quilt_node.specs.declared.head.Head.{Head}
use Rattle.quilt_node.specs.Pages.{IsHeader}
use Rattle.quilt_node.specs.Tree.{Whole, walk_of}
use Rattle.quilt_spell.proofs.Laws.{members}
use Rattle.quilt_edition.specs.Stands.{HoldsEdition, Stands}
use Rattle.quilt_edition.proofs.OneEdition.{home_length}
use Rattle.quilt_map.specs.Sessions.{IsSpelled, IsHeadOf}

module _ (pages : Pages) (free : ℕ → Bool) (n : ℕ) (h : Head) (entries : List Entry) (e : Edition) where
  pub holds : length pages ≡ n → IsHeader n (page_of pages 0) h → IsHeadOf h e → IsSpelled (Some pages) free n h entries e.layers → HoldsEdition pages e
  holds size header head spelled =
      let tree = spelled.whole.tree in
      let same : pages ≡ tree.pages = some_same pages tree.pages tree.is_told in
      let most = header.numbers.level.1 in
      record {
        head = h;
        header = subst (λ m. IsHeader m (page_of pages 0) h) (sym size) header;
        format = head.format;
        number = head.number;
        level = head.level;
        records = spelled.records;
        visited = tree.visited;
        tree = subst (λ (ps : Pages). walk_of ps h.root h.height ≡ Whole spelled.records tree.visited) (sym same) tree.walk;
        count = spelled.whole.number;
        spelled = (members h.format h.level spelled.records e.layers most).1 (spelled.numbers, spelled.spelled);
      }

-- a file with these home pages stands for the edition
pub stands_with : (n : ℕ) (pages image : Pages) (free : ℕ → Bool) (h : Head) (entries : List Entry) (e : Edition)
    → IsHeader n (page_of pages 0) h → IsHeadOf h e → IsSpelled (Some pages) free n h entries e.layers → HasHome n pages image → Stands image e
stands_with n pages image free h entries e header head spelled has =
    let size : length pages ≡ n = subst (λ (ps : Pages). length ps ≡ n) has.same (home_length image n) in
    record {
      pages = n;
      file = has.file;
      holds = subst (λ (ps : Pages). HoldsEdition ps e) (sym has.same) (holds pages free n h entries e size header head spelled);
    }
