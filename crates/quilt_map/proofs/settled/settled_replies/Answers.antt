use Rattle.std.proofs.Common.{◌≡◌, ◌∙◌, ◌∷◌, [], ◌++◌, length, length-append, sym, ap, arith, rules}
use Rattle.quilt_map.proofs.answers.TextLaws.{whole_empty, gives_then, fewer_left, settled_count}
use Rattle.quilt_map.proofs.answers.Prefixes.{settled_text}
use Rattle.quilt_map.proofs.settled.settled_replies.Goals as goal

pub feed-requires : goal.feed-requires
feed-requires c = rw c.new-lines.ensures.empty (whole_empty _)

pub items-init : goal.items-init
items-init c = record {
  level = c.in_ok-feed.ensures.level ∙ c.new-lines.ensures.level;
  given = ([], sym (ap length c.new-items.ensures.items), rw (c.new-lines.ensures.level, c.new-lines.ensures.empty) at c.in_ok-feed.ensures.fed);
}

pub items-smaller : goal.items-smaller
items-smaller c =
    let given = rw c.in-Some.is at c.in_ok-item.ensures.given in
    rw c.in_ok-item.ensures.level (fewer_left _ _ _ _ _ given.gives)

pub items-preserved : goal.items-preserved
items-preserved c =
    let given = rw (c.in-Some.is, c.items.invariant.level) at c.in_ok-item.ensures.given in
    let so = c.items.invariant.given in
    record {
      level = c.in_ok-item.ensures.level ∙ c.items.invariant.level;
      given = (
        so.0 ++ given.group ∷ [],
        omega (
          arith,
          length-append so.0 (given.group ∷ []),
          so.1,
          ap length c.in_ok-push.ensures.items,
          length-append c.items.items.items
              (c.in-Some.item ∷ []),
        ),
        gives_then _ _ _ _ _ _ _ so.2 given.gives,
      );
    }

pub returns-clause-whole : goal.returns-clause-whole
returns-clause-whole c =
    let given = rw (c.in_default.is, c.items.invariant.level) at c.in_ok-item.ensures.given in
    let so = c.items.invariant.given in
    let size : c.len.result ≡ length c.items.items.items = search rules in
    size ∙ sym so.1 ∙ sym (settled_count c.args.level c.args.text.now c.items.lines.rest so.0 so.2 given.1)

pub returns-clause-front : goal.returns-clause-front
returns-clause-front c = λ q first at more.
    rw (returns-clause-whole c) (settled_text c.args.level q first at c.args.text.now more)
