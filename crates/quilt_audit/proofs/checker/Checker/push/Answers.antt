use Rattle.quilt_audit.proofs.Taking.{push_sound, push_refused}
use Rattle.quilt_audit.proofs.checker.Checker.push.Goals as goal

pub returns : goal.returns
returns c =
    let s = c.args.self.now in
    let t = c.take.new.self in
    let e = c.take.ensures in
    let r = c.args.r.now in
    let ok = c.in_ok-self.field-0 in
    record {
      level = e.level;
      format = e.format;
      fed = λ total before fed. record {
        sound = push_sound total before r s fed c.if-not-self.false c.if-self-eq0.false t.level t.format ok e.level e.format t.due t.catalog t.last
            t.layer t.run e.due c.in_ok-self.ensures.yes;
        unsound = push_refused total before r s fed c.if-not-self.false c.if-self-eq0.false t.level t.format ok e.level e.format c.in_ok-self.ensures.no;
      };
    }
