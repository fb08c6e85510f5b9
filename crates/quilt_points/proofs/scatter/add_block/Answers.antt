use Rattle.std.proofs.Common.{◌≡◌, ◌++◌, ◌-◌, true, List, map, take, sym, ◌∙◌, ap, subst, All, Contains}
use Rattle.std.proofs.lemmas.List.Elements.{All-contains, All-take}
use Rattle.quilt_types.specs.declared.plane.Point.{Point}
use Rattle.quilt_types.specs.Codes.{depth}
use Rattle.quilt_types.specs.Plane.{in_block, is_pixel}
use Rattle.quilt_loc.proofs.Blocks.{IsBlock-up}
use Rattle.quilt_edits.proofs.Lists.{taken_there}
use Rattle.quilt_point_laws.specs.Growing.{gone_of, come_of}
use Rattle.quilt_point_laws.proofs.Gains.{level_is}
use Rattle.quilt_points.specs.Layers.{point_entries, block_record}
use Rattle.quilt_points.proofs.plans.Puts.{free_from, taken_from}
use Rattle.quilt_points.proofs.Codings.{InOrder-take}
use Rattle.quilt_points.proofs.plans.Scatters.{pixels_up, block_order, some_taken, left_outside}
use Rattle.quilt_btree.proofs.Handed.{handed_on}
use Rattle.quilt_points.proofs.scatter.add_block.Goals as goal

pub count_in-count-requires-clause-block : goal.count_in-count-requires-clause-block
count_in-count-requires-clause-block g c = IsBlock-up c.args.layer.level 12 c.in_ok-leaf.leaf.block c.args.layer.has_level.1 c.in_ok-leaf.ensures.block

pub count_in-count-requires-clause-points : goal.count_in-count-requires-clause-points
count_in-count-requires-clause-points g c = pixels_up c.args.layer.level c.args.layer.has_level.1 c.args.news.now c.requires.pixels

pub count_in-count-requires-clause-order : goal.count_in-count-requires-clause-order
count_in-count-requires-clause-order g c =
    block_order c.args.layer.level c.args.layer.has_level.1 c.args.news.now c.requires.order c.requires.pixels c.in_ok-leaf.leaf.block
    c.in_ok-leaf.ensures.block _ c.in_ok-leaf.ensures.holds

pub add_delta-requires-clause-order : goal.add_delta-requires-clause-order
add_delta-requires-clause-order g c _ =
    InOrder-take c.in_ok-leaf.leaf.block c.count_in-count.result c.args.news.now
    (block_order c.args.layer.level c.args.layer.has_level.1 c.args.news.now c.requires.order c.requires.pixels c.in_ok-leaf.leaf.block
    c.in_ok-leaf.ensures.block _ c.in_ok-leaf.ensures.holds)

pub returns-then-has_common-clause-taken : goal.returns-then-has_common-clause-taken
returns-then-has_common-clause-taken g c _ old h =
    let w = c.has_common.ensures.yes c.if-has_common.true in (
      w.0,
      taken_there c.args.news.now c.count_in-count.result w.0 w.2,
      taken_from old c.in_ok-leaf.leaf.block c.in_ok-leaf.leaf.points.items (w.0).at (c.in_ok-leaf.ensures.read old h).are w.1
          (subst (λ (l : List Point). Contains l w.1) c.deref.ensures.value w.3) w.4,
    )

pub returns-clause-count : goal.returns-clause-count
returns-clause-count g c = (
  some_taken c.args.layer.level c.args.layer.has_level.1 c.args.news.now c.requires.order c.requires.pixels c.in_ok-leaf.leaf.block
      c.in_ok-leaf.ensures.block _ c.in_ok-leaf.ensures.holds c.count_in-count.result c.count_in-count.ensures.behind c.requires.some,
  c.count_in-count.ensures.most,
)

pub returns-clause-added : goal.returns-clause-added
returns-clause-added g c old h =
    let is = c.in_ok-leaf.ensures.read old h in
    let inside = λ (p : Point) (cp : Contains (take c.count_in-count.result c.args.news.now) p).
    All-contains (λ (q : Point). in_block c.in_ok-leaf.leaf.block q.at ≡ true) (take c.count_in-count.result c.args.news.now) p
    c.count_in-count.ensures.inside cp in
    record {
      block = c.in_ok-leaf.leaf.block;
      held = c.in_ok-leaf.leaf.points.items;
      is = is;
      inside = inside;
      outside = left_outside c.args.layer.level c.args.layer.has_level.1 c.args.news.now c.requires.order c.requires.pixels c.in_ok-leaf.leaf.block
          c.in_ok-leaf.ensures.block _ c.in_ok-leaf.ensures.holds c.count_in-count.result c.count_in-count.ensures.behind;
      free = λ p cp.
          free_from c.args.layer.level c.args.layer.bucket old c.in_ok-leaf.leaf.block c.in_ok-leaf.leaf.points.items p.at is.are (inside p cp)
          (λ q cq e. c.has_common.ensures.no c.if-has_common.false p q cp (subst (λ (l : List Point). Contains l q) (sym c.deref.ensures.value) cq) e);
      gone = c.in-Ok.ensures.without
          ∙ ap (λ (l : List Point). c.args.delta.now.without.items ++ map (block_record c.args.layer.level c.args.layer.bucket c.args.layer.number)
          (gone_of c.args.layer.bucket c.in_ok-leaf.leaf.block (point_entries l) (point_entries (take c.count_in-count.result c.args.news.now))))
          c.deref-2.ensures.value;
      come = c.in-Ok.ensures.with (c.args.layer.level - depth c.args.layer.level c.in_ok-leaf.leaf.block)
          (level_is c.args.layer.level c.in_ok-leaf.leaf.block c.in_ok-leaf.ensures.block)
          ∙ ap (λ (l : List Point). c.args.delta.now.with.items ++ map (block_record c.args.layer.level c.args.layer.bucket c.args.layer.number)
          (come_of c.args.layer.bucket (c.args.layer.level - depth c.args.layer.level c.in_ok-leaf.leaf.block) c.in_ok-leaf.leaf.block (point_entries l)
          (point_entries (take c.count_in-count.result c.args.news.now))))
          c.deref-2.ensures.value;
    }

pub add_delta-requires-clause-held : goal.add_delta-requires-clause-held
add_delta-requires-clause-held g c =
    subst (All (λ (p : Point). is_pixel c.args.layer.level p.at ≡ true)) (sym c.deref-2.ensures.value) c.in_ok-leaf.ensures.pixels

pub add_delta-requires-clause-news : goal.add_delta-requires-clause-news
add_delta-requires-clause-news g c =
    All-take (λ (p : Point). is_pixel c.args.layer.level p.at ≡ true) c.count_in-count.result c.args.news.now c.requires.pixels

pub returns-in_err-leaf-clause-sound : goal.returns-in_err-leaf-clause-sound
returns-in_err-leaf-clause-sound g c = rw (handed_on c.from_residual.result c.from_residual.ensures.1) c.in_err-leaf.ensures.sound

pub returns-in_err-leaf-clause-zero : goal.returns-in_err-leaf-clause-zero
returns-in_err-leaf-clause-zero g c = rw (handed_on c.from_residual.result c.from_residual.ensures.1) c.in_err-leaf.ensures.zero

pub returns-in_err-leaf-clause-bad : goal.returns-in_err-leaf-clause-bad
returns-in_err-leaf-clause-bad g c = rw (handed_on c.from_residual.result c.from_residual.ensures.1) c.in_err-leaf.ensures.bad
