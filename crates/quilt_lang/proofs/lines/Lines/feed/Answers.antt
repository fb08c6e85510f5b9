use Rattle.std.proofs.Common.{◌≡◌, ap, arith, false, List, ℕ, [], ◌++◌, drop, subst}
use Rattle.quilt_lang.specs.declared.progress.Progress.TheVariants as progresses
use Rattle.quilt_lang.specs.Reading.{Gives, Unread}
use Rattle.quilt_lang.specs.Progress.{KeepsUnfinished, IsProgress}
use Rattle.quilt_lang.specs.Shortening.{IsTextPart, KeepsShort, bounds_of}
use Rattle.quilt_words.proofs.Slices.{behind}
use Rattle.quilt_lang.proofs.Enough.{kept_loud}
use Rattle.quilt_lang.proofs.Feeding.{begun_short, fed_part, part_short}
use Rattle.quilt_lang.proofs.Long.{fed_on}
use Rattle.quilt_lang.proofs.lines.Lines.feed.Goals as goal

pub invariant_of-self-in-Waiting : goal.invariant_of-self-in-Waiting
invariant_of-self-in-Waiting c =
    let old : List ℕ = drop c.self.inside.from c.self.inside.bytes.items in
    let kept : KeepsUnfinished c.self.inside.level old c.in_ok-progress.progress =
    rw (c.deref.ensures.value, behind c.self.inside.from c.self.inside.bytes.items) at c.in_ok-progress.ensures in
    let put = c.in_ok-put_piece.ensures.put in
    let joined : List ℕ = c.put_piece.new.bytes.items in
    let so : IsProgress c.self.inside.level c.in_ok-progress.progress joined = rw put.1 (kept.behind put.0) in
    (omega arith, kept_loud c.self.inside.level c.in-Waiting.field-0 joined (rw c.in-Waiting.is at so), so)

pub returns-in-Waiting-clause-fed : goal.returns-in-Waiting-clause-fed
returns-in-Waiting-clause-fed c =
    let bytes : List ℕ = c.self.inside.bytes.items in
    let from = c.self.inside.from in
    let old : List ℕ = drop from bytes in
    let joined : List ℕ = c.put_piece.new.bytes.items in
    let rest : old ≡ c.args.self.now.rest = ap (λ (s : Unread). s.rest) c.self.view_is in
    let level : c.self.inside.level ≡ c.args.self.now.level = ap (λ (s : Unread). s.level) c.self.view_is in
    let kept : KeepsUnfinished c.args.self.now.level old c.in_ok-progress.progress = subst (λ (n : ℕ). KeepsUnfinished n old c.in_ok-progress.progress) level
    (rw (c.deref.ensures.value, behind from bytes) at c.in_ok-progress.ensures) in
    let put = c.in_ok-put_piece.ensures.put in
    let part : IsTextPart (bounds_of c.args.self.now.level c.in_ok-progress.progress) c.args.piece.now put.0 =
    subst (λ (n : ℕ). IsTextPart (bounds_of n c.in_ok-progress.progress) c.args.piece.now put.0) level put.2 in
    subst (λ (l : List ℕ). Gives false c.args.self.now.level [] (l ++ c.args.piece.now) joined) rest
    (fed_part c.args.self.now.level c.in_ok-progress.progress old c.args.piece.now put.0 joined kept put.1 part)

pub returns-in-Waiting-clause-lines : goal.returns-in-Waiting-clause-lines
returns-in-Waiting-clause-lines c =
    let bytes : List ℕ = c.self.inside.bytes.items in
    let from = c.self.inside.from in
    let old : List ℕ = drop from bytes in
    let joined : List ℕ = c.put_piece.new.bytes.items in
    let rest : old ≡ c.args.self.now.rest = ap (λ (s : Unread). s.rest) c.self.view_is in
    let level : c.self.inside.level ≡ c.args.self.now.level = ap (λ (s : Unread). s.level) c.self.view_is in
    let kept : KeepsUnfinished c.args.self.now.level old c.in_ok-progress.progress = subst (λ (n : ℕ). KeepsUnfinished n old c.in_ok-progress.progress) level
    (rw (c.deref.ensures.value, behind from bytes) at c.in_ok-progress.ensures) in
    let put = c.in_ok-put_piece.ensures.put in
    let part : IsTextPart (bounds_of c.args.self.now.level c.in_ok-progress.progress) c.args.piece.now put.0 =
    subst (λ (n : ℕ). IsTextPart (bounds_of n c.in_ok-progress.progress) c.args.piece.now put.0) level put.2 in
    subst (λ (l : List ℕ). KeepsShort c.args.self.now.level l joined) rest
    (part_short c.args.self.now.level c.in_ok-progress.progress old c.args.piece.now put.0 joined kept put.1 part)

pub returns-in-Begun-clause-lines : goal.returns-in-Begun-clause-lines
returns-in-Begun-clause-lines c =
    let bytes : List ℕ = c.self.inside.bytes.items in
    let from = c.self.inside.from in
    let old : List ℕ = drop from bytes in
    let rest : old ≡ c.args.self.now.rest = ap (λ (s : Unread). s.rest) c.self.view_is in
    let level : c.self.inside.level ≡ c.args.self.now.level = ap (λ (s : Unread). s.level) c.self.view_is in
    let kept : KeepsUnfinished c.args.self.now.level old c.in_ok-progress.progress = subst (λ (n : ℕ). KeepsUnfinished n old c.in_ok-progress.progress) level
    (rw (c.deref.ensures.value, behind from bytes) at c.in_ok-progress.ensures) in
    let begun : KeepsUnfinished c.args.self.now.level old (progresses.Begun c.in-Begun.scanned) = rw c.in-Begun.is at kept in
    let new : List ℕ = drop c.silent_front-from.result.0 c.put_piece.new.bytes.items in
    subst (λ (l : List ℕ). KeepsShort c.args.self.now.level l new) rest (begun_short c.args.self.now.level c.in-Begun.scanned old new begun)

pub returns-in-Begun-clause-fed : goal.returns-in-Begun-clause-fed
returns-in-Begun-clause-fed c =
    let bytes : List ℕ = c.self.inside.bytes.items in
    let from = c.self.inside.from in
    let old : List ℕ = drop from bytes in
    let joined : List ℕ = c.put_piece.new.bytes.items in
    let rest : old ≡ c.args.self.now.rest = ap (λ (s : Unread). s.rest) c.self.view_is in
    let level : c.self.inside.level ≡ c.args.self.now.level = ap (λ (s : Unread). s.level) c.self.view_is in
    let kept : KeepsUnfinished c.args.self.now.level old c.in_ok-progress.progress = subst (λ (n : ℕ). KeepsUnfinished n old c.in_ok-progress.progress) level
    (rw (c.deref.ensures.value, behind from bytes) at c.in_ok-progress.ensures) in
    let put = c.in_ok-put_piece.ensures.put in
    let part : IsTextPart (bounds_of c.args.self.now.level c.in_ok-progress.progress) c.args.piece.now put.0 =
    subst (λ (n : ℕ). IsTextPart (bounds_of n c.in_ok-progress.progress) c.args.piece.now put.0) level put.2 in
    fed_on c.args.self.now old joined c.args.piece.now _ rest
    (fed_part c.args.self.now.level c.in_ok-progress.progress old c.args.piece.now put.0 joined kept put.1 part)
    (rw c.deref-in-Begun.ensures.value at c.silent_front-from.ensures.gives)
