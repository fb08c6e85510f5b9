use Rattle.quilt_near.proofs.Distances.{given, sum_given, difference_given, first_case, last_case, middle_case}
use Rattle.quilt_near.proofs.distance.square_distance.Goals as goal

pub returns-then-along-le0 : goal.returns-then-along-le0
returns-then-along-le0 c =
    let bx = given _ _ c.way-bx.ensures.value c.way-bx.ensures.small in
    let by = given _ _ c.way-by.ensures.value c.way-by.ensures.small in
    let px = given _ _ c.way-px.ensures.value c.way-px.ensures.small in
    let py = given _ _ c.way-py.ensures.value c.way-py.ensures.small in
    first_case c.args.p c.args.s c.dot-along.result _ _
    (sum_given _ c.way-px.result c.way-bx.result c.way-py.result c.way-by.result _ _ _ _ c.dot-along.ensures.value px bx py by) c.dot-along.ensures.small
    c.if-along-le0.true c.square_length.ensures.value c.of.ensures

pub returns-then-length-along : goal.returns-then-length-along
returns-then-length-along c =
    let bx = given _ _ c.way-bx.ensures.value c.way-bx.ensures.small in
    let by = given _ _ c.way-by.ensures.value c.way-by.ensures.small in
    let px = given _ _ c.way-px.ensures.value c.way-px.ensures.small in
    let py = given _ _ c.way-py.ensures.value c.way-py.ensures.small in
    last_case c.args.p c.args.s c.dot-along.result _ c.square_length-length.result _
    (sum_given _ c.way-px.result c.way-bx.result c.way-py.result c.way-by.result _ _ _ _ c.dot-along.ensures.value px bx py by) c.dot-along.ensures.small
    c.square_length-length.ensures.value c.square_length-length.ensures.small c.if-along-le0.false c.if-length-along.true
    c.square_length-then-length-along.ensures.value c.of-then-length-along.ensures

pub returns-else-length-along : goal.returns-else-length-along
returns-else-length-along c =
    let bx = given _ _ c.way-bx.ensures.value c.way-bx.ensures.small in
    let by = given _ _ c.way-by.ensures.value c.way-by.ensures.small in
    let px = given _ _ c.way-px.ensures.value c.way-px.ensures.small in
    let py = given _ _ c.way-py.ensures.value c.way-py.ensures.small in
    middle_case c.args.p c.args.s c.dot-along.result c.cross-aside.result c.square_length-length.result _
    (sum_given _ c.way-px.result c.way-bx.result c.way-py.result c.way-by.result _ _ _ _ c.dot-along.ensures.value px bx py by) c.dot-along.ensures.small
    c.square_length-length.ensures.value c.square_length-length.ensures.small c.if-along-le0.false c.if-length-along.false
    (difference_given _ c.way-bx.result c.way-py.result c.way-by.result c.way-px.result _ _ _ _ c.cross-aside.ensures.value bx py by px)
    c.of-else-length-along.ensures
