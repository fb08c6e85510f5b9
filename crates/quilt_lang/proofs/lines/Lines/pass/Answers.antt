use Rattle.std.proofs.Common.{◌≡◌, ◌+◌, ◌-◌, ap, List, ℕ, take, drop, length}
use Rattle.quilt_lang.specs.Reading.{Unread}
use Rattle.quilt_words.proofs.Slices.{behind}
use Rattle.quilt_lang.proofs.Pieces.{passed}
use Rattle.quilt_lang.proofs.lines.Lines.pass.Goals as goal

pub returns-clause-passed : goal.returns-clause-passed
returns-clause-passed c =
    let bytes : List ℕ = c.self.inside.bytes.items in
    let from = c.self.inside.from in
    let m = c.args.len in
    let rest : drop from bytes ≡ c.args.self.now.rest = ap (λ (s : Unread). s.rest) c.self.view_is in
    let now : List ℕ = c.deref.result.now in
    let back : take (length now - (from + m)) (drop (from + m) now) ≡ drop (from + m) bytes = rw c.deref.ensures.value (behind (from + m) bytes) in
    let kept = ap (λ (s : Unread). s.rest) c.let_go.ensures in
    rw kept
    (passed c.args.self.now.rest bytes (take (length now - (from + m)) (drop (from + m) now)) from m c.silent_front-silent.result.0 rest back
    c.silent_front-silent.ensures.gives)
