-- Point layers of the work: what its records say of them, and plans that put a point in or take one out.
use Rattle.std.proofs.Common.{◌≡◌, ℕ, ◌≤◌, List, Option, Some, IfSome, refl, sym, ◌∙◌, ap, subst}
use Rattle.std.specs.FinMap as finmap
use Rattle.quilt_types.specs.declared.plane.Kind.{Kind}
use Rattle.quilt_types.specs.declared.plane.Kind.TheVariants as kinds
use Rattle.quilt_types.specs.declared.plane.Pixel.{Pixel}
use Rattle.quilt_types.specs.Facts.{records}
use Rattle.quilt_types.specs.Layers.{Layer, Map, Region, Points, Lines, PointMap, IsPointMap}
use Rattle.quilt_world.specs.declared.disk.Disk as disk
use Rattle.quilt_record.specs.declared.edits.Edits.{Edits}
use Rattle.quilt_record.specs.declared.entry.Entry.{Entry}
use Rattle.quilt_record.specs.Records.{Numbering}
use Rattle.quilt_node.specs.declared.head.Head.{Head}
use Rattle.quilt_btree.specs.declared.tree.Tree.{Tree}
use Rattle.quilt_edits.specs.Edits.{EditsAscend}
use Rattle.quilt_spell.specs.Catalogued.{IsCatalogOf, kind_of}
use Rattle.quilt_spell.specs.Written.{number_of}
use Rattle.quilt_point_laws.proofs.Fewer.{del_count_law}
use Rattle.quilt_points.specs.Layers.{HasPoints}
use Rattle.quilt_points.specs.Plans as plans
use Rattle.quilt_edition.specs.declared.book.Book.{Book}
use Rattle.quilt_replies.specs.Answers.{State, with}
use Rattle.quilt_map.specs.Asking.{IsLayerUnder, IsStill}
use Rattle.quilt_map.specs.Planning.{IsAmendment}
use Rattle.quilt_map.specs.PointLayers.{IsPointsAt, IsPointsIn, HoldsPoints}
use Rattle.quilt_map.specs.Sessions.{IsAtState, tree_in}
use Rattle.quilt_map.specs.declared.points.PointLayer.{PointLayer}
use Rattle.quilt_map.specs.declared.session.Session.{Session}
use Rattle.quilt_map.proofs.plans.Amends.{amendment, mid_at, never_more}
use Rattle.quilt_map.proofs.answers.Answered.{level_is}
use Rattle.quilt_map.proofs.states.ChangeSteps.{at_most}
use Rattle.quilt_map.proofs.states.HeldLayers.{held_as, layer_there, layer_number, layer_fits}
use Rattle.quilt_map.proofs.states.Moving.{IsLawful, with_book}
use Rattle.quilt_map.proofs.plans.Planned.{some_of}

-- the layer that was found, under each numbering that the entries give
points_in : (layers : Map) (numbers : Numbering) (es entries : List Entry) (name : List ℕ) (layer : PointLayer) → es ≡ entries
    → IsCatalogOf layers numbers entries
    → ((m : Map) (k : Numbering) → IsCatalogOf m k es → IsPointsAt m k name layer) → (points : PointMap) × IsPointsIn layers entries name layer points
points_in layers numbers es entries name layer same catalog found =
    let under = λ (k : Numbering) (c : IsCatalogOf layers k entries). found layers k (subst (IsCatalogOf layers k) (sym same) c) in
    let first = under numbers catalog in
    (first.points, record { got = first.got; numbered = λ k c. (under k c).numbered })

-- the layer that was found is one of points
pub points_under : (layers : Map) (numbers : Numbering) (name : List ℕ) (number : ℕ) (kind : Kind) (bucket : ℕ)
    → IsLayerUnder layers numbers name number kind → kind ≡ kinds.Points bucket
    → IsPointsAt layers numbers name (record { number = number; bucket = bucket })
points_under layers numbers name number kind bucket u is =
    let l = only_points u.layer (sym is ∙ u.kinded) in
    record { points = l.0; got = u.got ∙ ap Some l.1; numbered = u.numbered }
  where
    only_points : (l : Layer) → kinds.Points bucket ≡ kind_of l → (points : PointMap) × (l ≡ Points bucket points)
    only_points (Region grid) e = cc
    only_points (Points capacity points) e = let same : bucket ≡ capacity = cc in (points, ap (λ (k : ℕ). Points k points) (sym same))
    only_points (Lines threshold segs cover) e = cc

-- the tree and the level of the same header
pub points_as : (told : Option (List (List ℕ))) (number bucket : ℕ) (points : PointMap) (h k : Head) (t : Tree) → h ≡ k → t ≡ tree_in h
    → HasPoints told (tree_in k) number k.level bucket points → HasPoints told t number h.level bucket points
points_as told number bucket points h k t same tree has = held_as told number (Points bucket points) h k t same tree has

module _ {W : Type 0} {D : disk.Ghosts W} (session : Session W D) (s : State) (at : IsAtState session s) where
  module _ (name : List ℕ) (layer : PointLayer) (points : PointMap) (is : IsPointsIn s.work session.catalog name layer points) where
    here : layer.number ≡ number_of at.work.numbers name
    here = is.numbered at.work.numbers at.work.catalog

    pub points_there : HoldsPoints session.book layer points
    points_there = layer_there session s at name layer.number (Points layer.bucket points) is.got here

    pub number_there : 1 ≤ layer.number
    number_there = layer_number session s at name layer.number (Points layer.bucket points) is.got here

    points_fit : IsPointMap s.last.format s.last.level layer.bucket points
    points_fit = layer_fits session s at name layer.number (Points layer.bucket points) is.got here

    -- a point layer becomes another
    pub point_amendment : (next : PointMap) (edits : Edits) → plans.IsPointPlan s.last.level layer.number layer.bucket points next edits → EditsAscend edits
        → IsAmendment s at.work.numbers session.catalog name layer.number (Points layer.bucket next) edits.remove edits.add
    point_amendment next edits plan order =
        amendment session s at name layer.number (Points layer.bucket points) (Points layer.bucket next) is.got here refl refl
        (plan.valid s.last.format points_fit) edits.remove edits.add
        (record { leads = plan.leads name; removed_ascend = order.remove; added_ascend = order.add })

    -- a layer has no more records without a point
    pub del_within : (p : Pixel) (label : ℕ) (edits : Edits) → finmap.get points p ≡ Some label
        → plans.IsPointPlan s.last.level layer.number layer.bucket points (finmap.remove points p) edits → EditsAscend edits
        → records s.last.level (with s name (Points layer.bucket (finmap.remove points p))) ≤ s.quota
    del_within p label edits there plan order =
        never_more session s at name layer.number (Points layer.bucket (finmap.remove points p)) edits.remove edits.add
        (point_amendment (finmap.remove points p) edits plan order).plan
        (del_count_law s.last.format s.last.level name layer.number layer.bucket
        (at_most session s at) number_there points points_fit p label there edits.remove edits.add (plan.leads name))

  -- what a point layer that was found gives: its points, that the work's records spell them, and its number
  module _ (name : List ℕ) (layer : PointLayer) where
    pub record Found : Type 0 where
      pub points : PointMap
      pub is : IsPointsIn s.work session.catalog name layer points
      pub holds : HoldsPoints session.book layer points
      pub least : 1 ≤ layer.number

    pub found_points : (entries : List Entry) → entries ≡ session.catalog
        → ((m : Map) (k : Numbering) → IsCatalogOf m k entries → IsPointsAt m k name layer) → Found
    found_points entries same found =
        let l = points_in s.work at.work.numbers entries session.catalog name layer same at.work.catalog found in
        record { points = l.0; is = l.1; holds = points_there name layer l.0 l.1; least = number_there name layer l.0 l.1 }

-- ---- once the layer was read
module _ {W : Type 0} {D : disk.Ghosts W} (old : Session W D) (s : State) (at : IsAtState old s) (b : Book W D) (still : IsStill old.book b)
    (law : IsLawful (D.size b.world) (D.told b.world))
    (name : List ℕ) (layer : PointLayer) (points : PointMap) (is : IsPointsIn s.work old.catalog name layer points) where
  module _ (next : PointMap → PointMap) (o : Option Edits) (edits : Edits) (is_plan : o ≡ Some edits) (order : IfSome o EditsAscend)
      (plan : IfSome o (λ e. (all : PointMap) → HoldsPoints old.book layer all
      → plans.IsPointPlan old.book.work.level layer.number layer.bucket all (next all) e)) where
    at_level : plans.IsPointPlan s.last.level layer.number layer.bucket points (next points) edits
    at_level = subst (λ (n : ℕ). plans.IsPointPlan n layer.number layer.bucket points (next points) edits) (level_is old s at)
        (some_of _ o edits is_plan plan points (points_there old s at name layer points is))

    -- a plan that leads to other points
    pub mid_point : IsAmendment s (mid_at old s at b still law).work.numbers old.catalog name layer.number
        (Points layer.bucket (next points)) edits.remove edits.add
    mid_point = point_amendment (with_book old b) s (mid_at old s at b still law) name layer points is (next points) edits at_level
        (some_of EditsAscend o edits is_plan order)

  pub mid_within : (p : Pixel) (label : ℕ) → finmap.get points p ≡ Some label → (o : Option Edits) (edits : Edits) → o ≡ Some edits → IfSome o EditsAscend
      → IfSome o (λ e. (all : PointMap) → HoldsPoints old.book layer all
      → plans.IsPointPlan old.book.work.level layer.number layer.bucket all (finmap.remove all p) e)
      → records s.last.level (with s name (Points layer.bucket (finmap.remove points p))) ≤ s.quota
  mid_within p label there o edits is_plan order plan =
      del_within (with_book old b) s (mid_at old s at b still law) name layer points is p label edits there
      (at_level (λ all. finmap.remove all p) o edits is_plan order plan) (some_of EditsAscend o edits is_plan order)
