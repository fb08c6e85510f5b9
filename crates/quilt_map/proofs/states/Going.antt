-- Calls on a book one after another.
use Rattle.std.proofs.Common.{◌≡◌, ℕ, Bool, List, Option, sym, ◌∙◌, subst}
use Rattle.quilt_world.specs.Disk.{Pages}
use Rattle.quilt_world.specs.declared.disk.Disk as disk
use Rattle.quilt_record.specs.declared.record.Record.{Record}
use Rattle.quilt_node.specs.declared.head.Head.{Head}
use Rattle.quilt_btree.specs.Edits.{IsWhole}
use Rattle.quilt_edition.specs.declared.book.Book.{Book}
use Rattle.quilt_edition.specs.Books.{GoesOn}
use Rattle.quilt_edition.specs.Laws.{later_on}
use Rattle.quilt_map.specs.Sessions.{IsLaterBook, tree_in}

module _ {W : Type 0} {D : disk.Ghosts W} where
  pub goes_of : (a b : Book W D) → IsLaterBook a b → GoesOn a b
  goes_of a b l = (l.0, l.1, l.2.0, l.3, l.4)

  pub goes_both : (a b c : Book W D) → GoesOn a b → GoesOn b c → GoesOn a c
  goes_both a b c p q =
      (q.0 ∙ p.0, q.1 ∙ p.1, q.2 ∙ p.2, q.3 ∙ p.3, later_on a.journal.pages b.journal.pages (D.told a.world) (D.told b.world) (D.told c.world) p.0 p.4 q.4)

-- a whole tree under other names for the same
pub whole_as : (told now_told : Option Pages) (free now_free : ℕ → Bool) (n m : ℕ) (h k : Head) (rs : List Record)
    → now_told ≡ told → now_free ≡ free → m ≡ n → k ≡ h → IsWhole told free n (tree_in h) rs → IsWhole now_told now_free m (tree_in k) rs
whole_as told now_told free now_free n m h k rs told_is free_is size_is head_is whole =
    subst (λ (o : Option Pages). IsWhole o now_free m (tree_in k) rs) (sym told_is)
    (subst (λ (f : ℕ → Bool). IsWhole told f m (tree_in k) rs) (sym free_is)
    (subst (λ i. IsWhole told free i (tree_in k) rs) (sym size_is)
    (subst (λ (x : Head). IsWhole told free n (tree_in x) rs) (sym head_is) whole)))
