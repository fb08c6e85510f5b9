-- The pages of the pixel that was asked for last stay among the first that are held.
use Rattle.std.proofs.lemmas.Option.{none-some}
use Rattle.std.proofs.Common.{◌≡◌, ℕ, ◌≤◌, List, Option, Some, None, sym, subst, arith}
use Rattle.quilt_types.specs.declared.plane.Pixel.{Pixel}
use Rattle.quilt_types.specs.Layers.{Map}
use Rattle.quilt_world.specs.Disk.{Pages}
use Rattle.quilt_record.specs.declared.entry.Entry.{Entry}
use Rattle.quilt_record.specs.declared.record.Record.{Record}
use Rattle.quilt_record.specs.Records.{Numbering}
use Rattle.quilt_node.specs.declared.head.Head.{Head}
use Rattle.quilt_world.specs.Tale.{Goes}
use Rattle.quilt_btree.specs.Floors.{AreAmongFirst}
use Rattle.quilt_btree.specs.Trees.{IsTree}
use Rattle.quilt_spell.specs.Catalogued.{IsCatalogOf}
use Rattle.quilt_spell.specs.Written.{number_of}
use Rattle.quilt_map.specs.Sessions.{IsHeldWarm, pages_asked, tree_in}

-- where no pixel is kept
pub cold : (entries : List Entry) (told : Option Pages) (h : Head) (held : List ℕ) → IsHeldWarm None entries told h held
cold entries told h held = record { are_first = λ w e layers numbers catalog rs tree pages is. absurd (none-some w e) }

-- by other names of the pages, the header and what is held
pub warm_as : (w : Option (List ℕ × Pixel)) (entries : List Entry) (told again : Option Pages) (h k : Head) (held now : List ℕ)
    → again ≡ told → k ≡ h → now ≡ held
    → IsHeldWarm w entries told h held → IsHeldWarm w entries again k now
warm_as w entries told again h k held now same head first warm =
    subst (λ (x : Option Pages). IsHeldWarm w entries x k now) (sym same)
    (subst (λ (x : Head). IsHeldWarm w entries told x now) (sym head) (subst (λ (x : List ℕ). IsHeldWarm w entries told h x) (sym first) warm))

module _ (entries : List Entry) (told : Option Pages) (h : Head) (held : List ℕ) (w : List ℕ × Pixel) (number : ℕ)
    (is : (layers : Map) (numbers : Numbering) → IsCatalogOf layers numbers entries → number ≡ number_of numbers w.0) where
  -- once the pixel was read
  pub warmed : ((rs : List Record) → IsTree told (tree_in h) rs → (pages : Pages) → told ≡ Some pages → AreAmongFirst (pages_asked number w.1 h pages) held)
      → IsHeldWarm (Some w) entries told h held
  warmed first = record {
    are_first = λ v e layers numbers catalog rs tree pages tells.
        let same : w ≡ v = cc in
        subst (λ (x : List ℕ × Pixel). AreAmongFirst (pages_asked (number_of numbers x.0) x.1 h pages) held) same
        (subst (λ (k : ℕ). AreAmongFirst (pages_asked k w.1 h pages) held) (is layers numbers catalog) (first rs tree pages tells));
  }

  -- and where it is asked for again
  pub held_again : (warm : Option (List ℕ × Pixel)) → IsHeldWarm warm entries told h held → warm ≡ Some w → (layers : Map) (numbers : Numbering)
      → IsCatalogOf layers numbers entries
      → (rs : List Record) → IsTree told (tree_in h) rs → (pages : Pages) → told ≡ Some pages → AreAmongFirst (pages_asked number w.1 h pages) held
  held_again warm kept e layers numbers catalog rs tree pages tells =
      subst (λ (k : ℕ). AreAmongFirst (pages_asked k w.1 h pages) held) (sym (is layers numbers catalog))
      (kept.are_first w e layers numbers catalog rs tree pages tells)

-- where nothing was read
pub reads_same : (reads : Option ℕ) → Goes (λ before now. now ≤ before) reads reads
reads_same None = tt
reads_same (Some n) = omega arith
