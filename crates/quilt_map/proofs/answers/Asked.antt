-- What a command that changes nothing finds in the work, and that it leaves the state.
use Rattle.std.proofs.Common.{◌≡◌, ℕ, ◌<◌, ◌≤◌, Bool, true, false, List, Option, Some, None, IfSome, Result, Ok, Err, refl, sym, ◌∙◌, ap, subst, arith, nat_cmp}
use Rattle.std.specs.Prelude.{IfOk, IfErr, ◌==◌, if◌then◌else◌}
use Rattle.std.specs.Cmp.Lexicographic.{slice_cmp, nat_list_cmp_total}
use Rattle.std.specs.FinMap as finmap
use Rattle.std.proofs.lemmas.List.Elements.{All-contains, All-weaker}
use Rattle.quilt_types.specs.Layers.{Layer, Region, Map, IsMap, IsLayer, Grid, IsGrid, colours}
use Rattle.quilt_world.specs.declared.disk.Disk as disk
use Rattle.quilt_record.specs.declared.record.Record.{Record}
use Rattle.quilt_record.specs.Records.{Numbering}
use Rattle.quilt_node.specs.declared.head.Head.{Head}
use Rattle.quilt_btree.specs.Trees.{IsTree}
use Rattle.quilt_spell.specs.Spelled.{SpellsUnder}
use Rattle.quilt_spell.specs.Written.{number_of}
use Rattle.quilt_spell.proofs.Maps.{entry_from_get}
use Rattle.quilt_spell.proofs.OfLayer.{region_spelled}
use Rattle.quilt_spell.proofs.Written.{name_same}
use Rattle.quilt_btree.specs.declared.tree.Tree.{Tree}
use Rattle.quilt_region.specs.Regions.{HasRegion}
use Rattle.quilt_blocks.specs.Raster.{Raster}
use Rattle.quilt_edition.specs.declared.book.Book.{Book}
use Rattle.quilt_edition.specs.Laws.{later_same, later_on}
use Rattle.quilt_map.specs.Asking.{IsStill}
use Rattle.quilt_map.specs.Sessions.{tree_in}

module _ {W : Type 0} {D : disk.Ghosts W} where
  pub still_here : (b : Book W D) → IsStill b b
  still_here b = record {
    later = (refl, refl, (refl, refl, refl), refl, later_same b.journal.pages (D.told b.world));
    told = refl;
    free = refl;
    changed = omega arith;
  }

  -- one reading behind another
  pub still_both : (a b c : Book W D) → IsStill a b → IsStill b c → IsStill a c
  still_both a b c p q = record {
    later = (
      q.later.0 ∙ p.later.0,
      q.later.1 ∙ p.later.1,
      (q.later.2.0 ∙ p.later.2.0, q.later.2.1 ∙ p.later.2.1, q.later.2.2 ∙ p.later.2.2),
      q.later.3 ∙ p.later.3,
      later_on a.journal.pages b.journal.pages (D.told a.world) (D.told b.world) (D.told c.world) p.later.0 p.later.4 q.later.4,
    );
    told = q.told ∙ p.told;
    free = q.free ∙ p.free;
    changed = (let first = p.changed in let second = q.changed in omega arith);
  }

-- the tree and the level of the same header
pub has_as : (told : Option (List (List ℕ))) (number : ℕ) (g : Grid) (h k : Head) (t : Tree) → h ≡ k → t ≡ tree_in h
    → HasRegion told (tree_in k) number k.level g → HasRegion told t number h.level g
has_as told number g h k t same tree has =
    subst (λ (x : Tree). HasRegion told x number h.level g) (sym tree) (subst (λ (x : Head). HasRegion told (tree_in x) number x.level g) (sym same) has)

pub if_err : {T E : Type 0} (P Q : E → Type 0) (r : Result T E) → ((e : E) → P e → Q e) → IfErr r P → IfErr r Q
if_err P Q (Ok x) f h = tt
if_err P Q (Err e) f h = f e h

pub if_ok : {T E : Type 0} (P Q : T → Type 0) (r : Result T E) → ((x : T) → P x → Q x) → IfOk r P → IfOk r Q
if_ok P Q (Ok x) f h = f x h
if_ok P Q (Err e) f h = tt

pub if_some : {X : Type 0} (P Q : X → Type 0) (o : Option X) → ((x : X) → P x → Q x) → IfSome o P → IfSome o Q
if_some P Q None f h = tt
if_some P Q (Some x) f h = f x h

pub raster_as : (g : Grid) (m n : ℕ) (l : Raster) → m ≡ n → l ≡ record { level = m; grid = g } → l ≡ record { level = n; grid = g }
raster_as g m n l same e = e ∙ ap (λ (k : ℕ). record { level = k; grid = g }) same

-- ---- the regions of a map whose records a tree has
within_two : (form c : ℕ) → c < colours form → c < colours 2
within_two form c h = by_format (form == 1) h
  where
    by_format : (b : Bool) → c < (if b then 256 else 65536) → c < 65536
    by_format true lt = omega arith
    by_format false lt = lt

in_two : (form n : ℕ) (g : Grid) → IsGrid form n g → IsGrid 2 n g
in_two form n g h = record { size = h.size; colours = All-weaker (λ c. c < colours form) (λ c. c < colours 2) (λ c lt. within_two form c lt) g h.colours }

pub layer_is : (form n : ℕ) (layers : Map) → IsMap form n layers → (name : List ℕ) (l : Layer) → finmap.get layers name ≡ Some l → IsLayer form n l
layer_is form n layers h name l at =
    All-contains (λ (e : List ℕ × Layer). IsLayer form n e.1) (finmap.entries layers) (name, l) h.each
    (entry_from_get (slice_cmp nat_cmp) nat_list_cmp_total name_same layers name l at)

pub region_of : (form n : ℕ) (numbers : Numbering) (rs : List Record) (layers : Map) (name : List ℕ) (g : Grid) (told : Option (List (List ℕ))) (t : Tree)
    → n ≤ 12 → SpellsUnder form n numbers rs layers → IsTree told t rs → finmap.get layers name ≡ Some (Region g)
    → HasRegion told t (number_of numbers name) n g
region_of form n numbers rs layers name g told t le s is at =
    let r = region_spelled form n numbers rs layers le s name g at in record {
      records = rs;
      tree = is;
      spelled = record { grid = in_two form n g (layer_is form n layers s.map name (Region g) at); each = r.each; only = r.only };
    }
