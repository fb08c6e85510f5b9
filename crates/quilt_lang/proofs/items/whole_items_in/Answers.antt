use Rattle.std.proofs.Common.{ℕ, [], ◌≡◌, ◌==◌, false}
use Rattle.std.proofs.lemmas.List.Elements.{All-nil}
use Rattle.quilt_lang.proofs.LineLaws.{whole_part}
use Rattle.quilt_lang.proofs.Takes.{so_far_first, so_far_next, whole_of_it, front_of_it}
use Rattle.quilt_lang.proofs.items.whole_items_in.Goals as goal

pub feed-requires : goal.feed-requires
feed-requires c = rw c.new-lines.ensures.empty (whole_part _ [] (All-nil (λ (x : ℕ). (x == 10) ≡ false)))

pub returns-clause-whole : goal.returns-clause-whole
returns-clause-whole c = λ low.
    let none = whole_part c.args.level [] (All-nil (λ (x : ℕ). (x == 10) ≡ false)) in
    let first = so_far_first c.args.level c.args.format c.new-lines.result none c.new-lines.ensures.level c.new-lines.ensures.empty in
    let took = rw c.new-items.ensures.items at c.in_ok-take_items.ensures in
    whole_of_it c.args.level c.args.format _ _ _ low
    (so_far_next c.args.level c.args.format c.new-lines.result c.feed.new.self _ [] _
    [] c.args.text.now first c.in_ok-feed.ensures.level c.in_ok-feed.ensures.fed took)

pub returns-clause-front : goal.returns-clause-front
returns-clause-front c = λ low more.
    let none = whole_part c.args.level [] (All-nil (λ (x : ℕ). (x == 10) ≡ false)) in
    let first = so_far_first c.args.level c.args.format c.new-lines.result none c.new-lines.ensures.level c.new-lines.ensures.empty in
    let took = rw c.new-items.ensures.items at c.in_ok-take_items.ensures in
    front_of_it c.args.level c.args.format _ _ _ more low
    (so_far_next c.args.level c.args.format c.new-lines.result c.feed.new.self _ [] _
    [] c.args.text.now first c.in_ok-feed.ensures.level c.in_ok-feed.ensures.fed took)
