use Rattle.quilt_point_laws.proofs.Beginnings as beginnings
use Rattle.quilt_point_laws.proofs.Fewer as fewer
use Rattle.quilt_point_laws.proofs.Plans as plans
use Rattle.quilt_point_laws.proofs.point_laws.Goals as goal

pub returns-clause-put : goal.returns-clause-put
returns-clause-put c = plans.put_law

pub returns-clause-del : goal.returns-clause-del
returns-clause-del c = plans.del_law

pub returns-clause-fewer : goal.returns-clause-fewer
returns-clause-fewer c = fewer.del_count_law

pub returns-clause-begin : goal.returns-clause-begin
returns-clause-begin c = beginnings.begin_law
