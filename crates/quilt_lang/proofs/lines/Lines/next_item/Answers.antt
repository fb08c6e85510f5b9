use Rattle.std.proofs.Common.{◌≡◌, ◌∙◌, ◌-◌, ap, List, ℕ, take, drop, length}
use Rattle.quilt_lang.specs.Reading.{Unread}
use Rattle.quilt_words.proofs.Slices.{behind}
use Rattle.quilt_lang.proofs.Pieces.{given}
use Rattle.quilt_lang.proofs.lines.Lines.next_item.Goals as goal

pub returns-in_ok-item-in-There-clause-given : goal.returns-in_ok-item-in-There-clause-given
returns-in_ok-item-in-There-clause-given c =
    let bytes : List ℕ = c.self.inside.bytes.items in
    let from = c.self.inside.from in
    let level : c.self.inside.level ≡ c.args.self.now.level = ap (λ (s : Unread). s.level) c.self.view_is in
    let now : List ℕ = c.deref.result.now in
    let same : take (length now - from) (drop from now) ≡ c.args.self.now.rest =
    rw c.deref.ensures.value (behind from bytes ∙ ap (λ (s : Unread). s.rest) c.self.view_is) in
    given c.args.ended c.args.self.now.level c.args.format c.in_ok-item-in-There.item c.args.self.now.rest (drop c.in_ok-item-in-There.len c.args.self.now.rest) _
    (rw (same, level) at c.in_ok-item-in-There.ensures.gives) c.pass.ensures.passed
