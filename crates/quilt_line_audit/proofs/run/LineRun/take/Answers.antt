use Rattle.std.proofs.Common.{◌≡◌, true, false, refl, sym, ◌∙◌, ap}
use Rattle.quilt_types.specs.Layers.{is_in_square}
use Rattle.quilt_line_audit.proofs.Steps.{pair_taken, segment_taken, unread_refused, nothing_read, seg_read}
use Rattle.quilt_line_audit.proofs.run.LineRun.take.Goals as goal

pub returns-in-Some-clause-taken : goal.returns-in-Some-clause-taken
returns-in-Some-clause-taken c rs t h =
    pair_taken c.args.level c.args.r.now.key.layer t rs c.args.self.now
    (record { alloc = c.args.self.now.alloc; pairs = c.push.new.self; segs = c.args.self.now.segs }) c.args.r.now h
    c.in-Some.block c.in-Some.id c.in-Some.ensures.some c.in_ok-push.ensures.items refl

pub returns-in_default-read_segment-clause-refused : goal.returns-in_default-read_segment-clause-refused
returns-in_default-read_segment-clause-refused c form t rs =
    let le = c.requires.level.1 in
    unread_refused form c.args.level le rs t c.args.r.now c.requires.layer.0 c.requires.layer.1
    (λ b id w. nothing_read c.read_pair.result (b, id) c.in_default.is (c.read_pair.ensures.one c.args.r.now.key.layer b id w))
    (λ id s w in_. nothing_read c.read_segment.result (id, s) c.in_default-read_segment.is
    (c.read_segment.ensures.one c.args.level c.args.r.now.key.layer id s w))

pub returns-then-not-is_in_square-clause-refused : goal.returns-then-not-is_in_square-clause-refused
returns-then-not-is_in_square-clause-refused c form t rs =
    let le = c.requires.level.1 in
    unread_refused form c.args.level le rs t c.args.r.now c.requires.layer.0 c.requires.layer.1
    (λ b id w. nothing_read c.read_pair.result (b, id) c.in_default.is (c.read_pair.ensures.one c.args.r.now.key.layer b id w))
    (λ id s w in_.
    let same = seg_read c.read_segment.result (c.in-Some-read_segment.id, c.in-Some-read_segment.s) (id, s) c.in-Some-read_segment.is
    (c.read_segment.ensures.one c.args.level c.args.r.now.key.layer id s w) in
    let out : is_in_square c.args.level c.in-Some-read_segment.s ≡ false = sym c.is_in_square.ensures ∙ c.if-not-is_in_square.true in
    let clash : true ≡ false = sym in_ ∙ ap (λ (z : _). is_in_square c.args.level z.1) (sym same) ∙ out in
    cc)

pub returns-clause-taken : goal.returns-clause-taken
returns-clause-taken c rs t h =
    segment_taken c.args.level c.args.r.now.key.layer t rs c.args.self.now
    (record { alloc = c.args.self.now.alloc; pairs = c.args.self.now.pairs; segs = c.push-2.new.self }) c.args.r.now h
    (c.in-Some-read_segment.id, c.in-Some-read_segment.s) (c.in-Some-read_segment.ensures.some c.args.level)
    (sym c.is_in_square.ensures ∙ c.if-not-is_in_square.false) refl c.in_ok-push-2.ensures.items
