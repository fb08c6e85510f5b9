use Rattle.std.proofs.Common.{arith}
use Rattle.quilt_btree.proofs.ways.Forks.{inside, place_inside, no_page}
use Rattle.quilt_btree.proofs.search.path_in.Goals as goal

pub returns-then-child-lt1-clause-path : goal.returns-then-child-lt1-clause-path
returns-then-child-lt1-clause-path c = λ inner is.
    let place = c.place_in-place.ensures.place c.args.pages inner is in
    let p = inside c.args.pages c.args.bytes.now inner c.place_in-place.result c.child_in-child.result is
    (place_inside c.args.pages c.args.bytes.now inner c.args.k.now c.place_in-place.result is place)
    (c.child_in-child.ensures.inner c.args.pages inner is) in
    no_page c.args.pages c.child_in-child.result c.then-child-lt1.either p.least p.most

pub returns-clause-path : goal.returns-clause-path
returns-clause-path c = λ inner is.
    let place = c.place_in-place.ensures.place c.args.pages inner is in (
      c.place_in-place.ensures.number c.args.pages inner is,
      place,
      c.child_in-child.ensures.inner c.args.pages inner is
          (place_inside c.args.pages c.args.bytes.now inner c.args.k.now c.place_in-place.result is place),
    )

pub returns-clause-stands : goal.returns-clause-stands
returns-clause-stands c = record {
  place = c.place_in-place.result;
  in_range = c.place_in-place.ensures.range;
  stands = c.child_in-child.ensures.stands;
  least = let h = c.if-child-lt1.false in omega arith;
  most = let h = c.if-pages-child.false in omega arith;
}
