-- Line layers of the work: what its records say of them, and plans that put a segment in or take one out.
use Rattle.std.proofs.Common.{◌≡◌, ℕ, ◌<◌, ◌≤◌, List, length, Option, Some, IfSome, refl, sym, ◌∙◌, ap, subst, arith}
use Rattle.std.specs.FinMap as finmap
use Rattle.quilt_types.specs.declared.plane.Kind.{Kind}
use Rattle.quilt_types.specs.declared.plane.Kind.TheVariants as kinds
use Rattle.quilt_types.specs.declared.plane.Seg.{Seg}
use Rattle.quilt_types.specs.Facts.{records}
use Rattle.quilt_types.specs.Quadtrees.{after_add, after_remove}
use Rattle.quilt_types.specs.Layers.{Layer, Map, Region, Points, Lines, SegMap, BlockSet, IsLineMap}
use Rattle.quilt_world.specs.Disk.{Pages}
use Rattle.quilt_world.specs.declared.disk.Disk as disk
use Rattle.quilt_record.specs.declared.edits.Edits.{Edits}
use Rattle.quilt_record.specs.declared.entry.Entry.{Entry}
use Rattle.quilt_record.specs.Records.{Numbering}
use Rattle.quilt_node.specs.declared.head.Head.{Head}
use Rattle.quilt_btree.specs.declared.tree.Tree.{Tree}
use Rattle.quilt_edits.specs.Edits.{EditsAscend}
use Rattle.quilt_spell.specs.Catalogued.{IsCatalogOf, kind_of}
use Rattle.quilt_lines.specs.Layers.{HasLines}
use Rattle.quilt_lines.specs.Plans.{IsLinePlan}
use Rattle.quilt_edition.specs.declared.book.Book.{Book}
use Rattle.quilt_replies.specs.Answers.{State, with}
use Rattle.quilt_map.specs.Asking.{IsLayerUnder, IsStill}
use Rattle.quilt_map.specs.LineLayers.{IsLinesAt, IsLinesIn, HoldsLines, with_segment, without_segment}
use Rattle.quilt_map.specs.Planning.{IsAmendment}
use Rattle.quilt_map.specs.Sessions.{IsAtState, told_of, tree_in}
use Rattle.quilt_map.specs.declared.lines.LineLayer.{LineLayer}
use Rattle.quilt_map.specs.declared.session.Session.{Session}
use Rattle.quilt_map.proofs.plans.Amends.{amendment, mid_at, never_more}
use Rattle.quilt_map.proofs.answers.Answered.{level_is}
use Rattle.quilt_map.proofs.states.HeldLayers.{held_as, layer_there, layer_number, layer_fits}
use Rattle.quilt_map.proofs.states.Moving.{IsLawful, with_book}
use Rattle.quilt_map.proofs.plans.Planned.{some_of}

-- the layer that was found, under each numbering that the entries give
lines_in : (layers : Map) (numbers : Numbering) (es entries : List Entry) (name : List ℕ) (layer : LineLayer) → es ≡ entries
    → IsCatalogOf layers numbers entries
    → ((m : Map) (k : Numbering) → IsCatalogOf m k es → IsLinesAt m k name layer) → (segs : SegMap) × (cover : BlockSet)
    × IsLinesIn layers entries name layer segs cover
lines_in layers numbers es entries name layer same catalog found =
    let under = λ (k : Numbering) (c : IsCatalogOf layers k entries). found layers k (subst (IsCatalogOf layers k) (sym same) c) in
    let first = under numbers catalog in
    (first.segs, first.cover, record { got = first.got; numbered = λ k c. (under k c).numbered })

-- the layer that was found is one of lines
pub lines_under : (layers : Map) (numbers : Numbering) (name : List ℕ) (number : ℕ) (kind : Kind) (threshold : ℕ)
    → IsLayerUnder layers numbers name number kind → kind ≡ kinds.Lines threshold
    → IsLinesAt layers numbers name (record { number = number; threshold = threshold })
lines_under layers numbers name number kind threshold u is =
    let l = only_lines u.layer (sym is ∙ u.kinded) in
    record { segs = l.0; cover = l.1; got = u.got ∙ ap Some l.2; numbered = u.numbered }
  where
    only_lines : (l : Layer) → kinds.Lines threshold ≡ kind_of l → (segs : SegMap) × (cover : BlockSet) × (l ≡ Lines threshold segs cover)
    only_lines (Region grid) e = cc
    only_lines (Points capacity points) e = cc
    only_lines (Lines t segs cover) e = let same : threshold ≡ t = cc in (segs, cover, ap (λ (k : ℕ). Lines k segs cover) (sym same))

-- the tree and the level of the same header
pub lines_as : (told : Option Pages) (layer : LineLayer) (segs : SegMap) (cover : BlockSet) (h k : Head) (t : Tree) → h ≡ k → t ≡ tree_in h
    → HasLines told (tree_in k) layer.number k.level layer.threshold segs cover → HasLines told t layer.number h.level layer.threshold segs cover
lines_as told layer segs cover h k t same tree has = held_as told layer.number (Lines layer.threshold segs cover) h k t same tree has

-- what is said of the tree and the level of a header is said of the work
pub lines_said : {W : Type 0} {D : disk.Ghosts W} (b : Book W D) (layer : LineLayer) (h : Head) (t : Tree) → h ≡ b.work → t ≡ tree_in h
    → (P : Head → SegMap → BlockSet → Type 0)
    → ((segs : SegMap) (cover : BlockSet) → HasLines (told_of b) t layer.number h.level layer.threshold segs cover → P h segs cover)
    → (segs : SegMap) (cover : BlockSet) → HoldsLines b layer segs cover → P b.work segs cover
lines_said b layer h t same tree P said segs cover has =
    subst (λ (x : Head). P x segs cover) same (said segs cover (lines_as (told_of b) layer segs cover h b.work t same tree has))

module _ {W : Type 0} {D : disk.Ghosts W} (session : Session W D) (s : State) (at : IsAtState session s) (name : List ℕ) (layer : LineLayer) where
  -- what a line layer gives: that the work's records spell it, its number, and that it is one
  pub record IsThere (segs : SegMap) (cover : BlockSet) : Type 0 where
    pub holds : HoldsLines session.book layer segs cover
    pub least : 1 ≤ layer.number
    pub fits : IsLineMap s.last.level layer.threshold segs cover

  pub lines_there : (segs : SegMap) (cover : BlockSet) → IsLinesIn s.work session.catalog name layer segs cover → IsThere segs cover
  lines_there segs cover is =
      let here = is.numbered at.work.numbers at.work.catalog in
      let lines = Lines layer.threshold segs cover in record {
        holds = layer_there session s at name layer.number lines is.got here;
        least = layer_number session s at name layer.number lines is.got here;
        fits = layer_fits session s at name layer.number lines is.got here;
      }

  -- what a line layer that was found gives, with its segments and blocks
  pub record Found : Type 0 where
    pub segs : SegMap
    pub cover : BlockSet
    pub is : IsLinesIn s.work session.catalog name layer segs cover
    pub holds : HoldsLines session.book layer segs cover
    pub least : 1 ≤ layer.number
    pub fits : IsLineMap s.last.level layer.threshold segs cover

  pub found_lines : (entries : List Entry) → entries ≡ session.catalog
      → ((m : Map) (k : Numbering) → IsCatalogOf m k entries → IsLinesAt m k name layer) → Found
  found_lines entries same found =
      let l = lines_in s.work at.work.numbers entries session.catalog name layer same at.work.catalog found in
      let there = lines_there l.0 l.1 l.2 in
      record { segs = l.0; cover = l.1; is = l.2; holds = there.holds; least = there.least; fits = there.fits }

-- ---- plans, once the layer was read
module _ {W : Type 0} {D : disk.Ghosts W} (old : Session W D) (s : State) (at : IsAtState old s) (b : Book W D) (still : IsStill old.book b)
    (law : IsLawful (D.size b.world) (D.told b.world))
    (name : List ℕ) (layer : LineLayer) (segs : SegMap) (cover : BlockSet) (is : IsLinesIn s.work old.catalog name layer segs cover) where
  -- a line layer becomes another
  pub line_amendment : (later : SegMap) (after : ℕ → BlockSet) (edits : Edits)
      → IsLinePlan old.book.work.level layer.number layer.threshold segs later cover (after old.book.work.level) edits → EditsAscend edits
      → IsAmendment s (mid_at old s at b still law).work.numbers old.catalog name layer.number (Lines layer.threshold later (after s.last.level))
      edits.remove edits.add
  line_amendment later after edits plan order =
      let mid = with_book old b in
      let there = mid_at old s at b still law in
      let here = subst (λ (n : ℕ). IsLinePlan n layer.number layer.threshold segs later cover (after n) edits) (level_is old s at) plan in
      amendment mid s there name layer.number (Lines layer.threshold segs cover) (Lines layer.threshold later (after s.last.level)) is.got
      (is.numbered there.work.numbers there.work.catalog) refl refl here.valid edits.remove edits.add
      (record { leads = here.leads name; removed_ascend = order.remove; added_ascend = order.add })

  module _ (id : ℕ) (o : Option Edits) (edits : Edits) (is_plan : o ≡ Some edits) (order : IfSome o EditsAscend) where
    -- a plan that puts a segment in
    pub put_amendment : (seg : Seg)
        → IfSome o (λ e. (all : SegMap) (blocks : BlockSet) → HoldsLines old.book layer all blocks →
        IsLinePlan old.book.work.level layer.number layer.threshold all (finmap.insert all id seg) blocks
        (after_add layer.threshold (finmap.insert all id seg) blocks seg) e)
        → IsAmendment s (mid_at old s at b still law).work.numbers old.catalog name layer.number (with_segment layer.threshold segs cover id seg)
        edits.remove edits.add
    put_amendment seg plan =
        let later = finmap.insert segs id seg in
        let holds = (lines_there old s at name layer segs cover is).holds in
        line_amendment later (λ n. after_add layer.threshold later cover seg) edits (some_of _ o edits is_plan plan segs cover holds)
        (some_of EditsAscend o edits is_plan order)

    -- a plan that takes one out
    module _ (seg : Seg) (there : finmap.get segs id ≡ Some seg)
        (plan : IfSome o (λ e. (all : SegMap) (blocks : BlockSet) → HoldsLines old.book layer all blocks → (x : Seg) → finmap.get all id ≡ Some x →
        IsLinePlan old.book.work.level layer.number layer.threshold all (finmap.remove all id) blocks
        (after_remove old.book.work.level layer.threshold (finmap.remove all id) blocks x) e)) where
      pub taken_amendment : IsAmendment s (mid_at old s at b still law).work.numbers old.catalog name layer.number
          (without_segment s.last.level layer.threshold segs cover id seg) edits.remove edits.add
      taken_amendment =
          let later = finmap.remove segs id in
          let holds = (lines_there old s at name layer segs cover is).holds in
          line_amendment later (λ n. after_remove n layer.threshold later cover seg) edits
          (some_of _ o edits is_plan plan segs cover holds seg there) (some_of EditsAscend o edits is_plan order)

      -- a layer has fewer records without a segment
      pub taken_within : IfSome o (λ e. (all : SegMap) (blocks : BlockSet) → HoldsLines old.book layer all blocks → length e.add < length e.remove)
          → records s.last.level (with s name (without_segment s.last.level layer.threshold segs cover id seg)) ≤ s.quota
      taken_within fewer =
          let less = some_of _ o edits is_plan fewer segs cover (lines_there old s at name layer segs cover is).holds in
          never_more (with_book old b) s (mid_at old s at b still law) name layer.number
          (without_segment s.last.level layer.threshold segs cover id seg) edits.remove edits.add taken_amendment.plan (omega arith)
