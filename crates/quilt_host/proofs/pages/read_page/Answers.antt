use Rattle.std.specs.Prelude.{IfSome}
use Rattle.std.proofs.Common.{◌≡◌, ◌+◌, ◌-◌, length, take, drop, ap, sym, ◌∙◌, subst, arith, rules}
use Rattle.std.proofs.lemmas.List.{places}
use borrow.Rule.Slice.PartMut.{put_mid}
use Rattle.quilt_host.specs.Bytes.{page_at}
use Rattle.quilt_host.proofs.Pieces.{room_of, read_again, reading_more, read_all, length-put_mid}
use Rattle.quilt_host.proofs.StoryLaws.{if_some_both, if_some_moved}
use Rattle.quilt_host.proofs.pages.read_page.Goals as goal
use Rattle.quilt_host.proofs.pages.read_page.Goals.{in-Ok, in-Err-Interrupted}

pub pieces-preserved : goal.pieces-preserved
pieces-preserved g c =
    let inv = c.pieces.invariant in
    let room : length c.read_at.new.into ≡ length c.pieces.into - c.pieces.done = search (rules, places) in
    let size : length (put_mid c.pieces.done (length c.pieces.into - c.pieces.done) c.pieces.into c.read_at.new.into) ≡ 4096 =
    length-put_mid c.pieces.done c.pieces.into c.read_at.new.into 4096 inv.size inv.few room in
    elim c.match-read_at.branch [
      | in-Ok w ↦ rw w.done-is (record {
        size = size;
        few = omega (arith, w.in-Ok.ensures.count, room_of c.pieces.into c.pieces.done);
        same = c.read_at.ensures.nothing ∙ inv.same;
        front = if_some_both _ _ _ _ inv.front (if_some_moved _ _ _ inv.same w.in-Ok.ensures.bytes) (λ s front piece.
            reading_more c.args.i c.pieces.done w.in-Ok.n _ c.pieces.into c.read_at.new.into s.bytes inv.size inv.few (omega (arith, w.in-Ok.ensures.count, room_of c.pieces.into c.pieces.done))
            room front piece (omega (arith, c.from-start.ensures)));
      })
      | in-Err-Interrupted w ↦ rw w.done-is (record {
        size = size;
        few = inv.few;
        same = c.read_at.ensures.nothing ∙ inv.same;
        front = if_some_both _ _ _ _ inv.front inv.front (λ s front again.
            read_again c.pieces.done c.pieces.into c.read_at.new.into (page_at s.bytes c.args.i) inv.size inv.few front);
      })
    ]

pub returns-then-done-into-clause-bytes : goal.returns-then-done-into-clause-bytes
returns-then-done-into-clause-bytes g c =
    let inv = c.pieces.invariant in
    if_some_both _ _ _ _ inv.front inv.front (λ s front again. read_all c.args.i c.pieces.done c.pieces.into s.bytes inv.size (omega arith) front)
