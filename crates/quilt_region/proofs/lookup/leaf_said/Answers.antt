use Rattle.std.proofs.Common.{◌≡◌, true, false, Some, refl, sym, ◌∙◌, ap, subst, Contains}
use Rattle.std.proofs.lemmas.Option.{none-some}
use Rattle.quilt_record.specs.declared.record.Record.{Record}
use Rattle.quilt_types.specs.Plane.{in_block}
use Rattle.quilt_types.specs.Quadtrees.{leaves}
use Rattle.quilt_loc.proofs.Blocks.{IsBlock-up, Holds-from}
use Rattle.quilt_blocks.specs.Cutting.{leaf_pair}
use Rattle.quilt_blocks.specs.declared.leaf.Leaf.{Leaf}
use Rattle.quilt_region.specs.Regions.{pixel_key}
use Rattle.quilt_region.proofs.Floors.{floor_found, leaf_read, read_same}
use Rattle.quilt_region.proofs.lookup.leaf_said.Goals as goal

false_true : false ≡ true → ⊥
false_true e = cc

pub covers-requires : goal.covers-requires
covers-requires c = IsBlock-up c.args.level 12 c.in-Some-leaf_of.leaf.block c.requires.level.1 c.in-Some-leaf_of.ensures.block

pub returns-in_default-clause-sound : goal.returns-in_default-clause-sound
returns-in_default-clause-sound c told t grid is h page e =
    let f = floor_found told t c.args.layer c.args.level grid c.args.p (pixel_key c.args.layer c.args.p) c.args.found c.requires.level.1 c.requires.in_x
    c.requires.in_y refl is h in
    none-some _ (sym c.in_default.is ∙ f.2)

pub returns-in-Some-leaf_of-clause-leaf : goal.returns-in-Some-leaf_of-clause-leaf
returns-in-Some-leaf_of-clause-leaf c told t grid is h =
    let f = leaf_read told t c.args.layer c.args.level grid c.args.p (pixel_key c.args.layer c.args.p) c.args.found c.in-Some.r c.leaf_of.result
    c.requires.layer c.requires.level.1 c.requires.in_x c.requires.in_y refl is c.in-Some.is c.leaf_of.ensures.one h in
    let same = read_same c.args.level grid c.args.p c.leaf_of.result c.in-Some-leaf_of.leaf c.in-Some-leaf_of.is f in
    record {
      member = subst (λ (l : Leaf). Contains (leaves c.args.level grid) (leaf_pair l)) same f.member;
      holds = Holds-from c.in-Some-leaf_of.leaf.block c.args.p (ap (λ (l : Leaf). in_block l.block c.args.p) (sym same) ∙ f.holds);
    }

pub returns-in_default-leaf_of-clause-sound : goal.returns-in_default-leaf_of-clause-sound
returns-in_default-leaf_of-clause-sound c told t grid is h page e =
    let f = leaf_read told t c.args.layer c.args.level grid c.args.p (pixel_key c.args.layer c.args.p) c.args.found c.in-Some.r c.leaf_of.result
    c.requires.layer c.requires.level.1 c.requires.in_x c.requires.in_y refl is c.in-Some.is c.leaf_of.ensures.one h in
    false_true (c.if-covers.ensures
    ∙ ap (λ (l : Leaf). in_block l.block c.args.p) (sym (read_same c.args.level grid c.args.p c.leaf_of.result c.in-Some-leaf_of.leaf c.in-Some-leaf_of.is f)) ∙ f.holds)

pub returns-in_default-leaf_of-2-clause-sound : goal.returns-in_default-leaf_of-2-clause-sound
returns-in_default-leaf_of-2-clause-sound c told t grid is h page e =
    let f = leaf_read told t c.args.layer c.args.level grid c.args.p (pixel_key c.args.layer c.args.p) c.args.found c.in-Some.r c.leaf_of.result
    c.requires.layer c.requires.level.1 c.requires.in_x c.requires.in_y refl is c.in-Some.is c.leaf_of.ensures.one h in
    none-some _ (sym c.in_default-leaf_of.is ∙ f.is)

pub returns-in-Some-leaf_of-clause-row : goal.returns-in-Some-leaf_of-clause-row
returns-in-Some-leaf_of-clause-row c = c.in-Some.is ∙ ap (λ (r : Record). Some r) c.in-Some-leaf_of.ensures.record
