use Rattle.quilt_line_audit.proofs.Whole.{whole_lines, short_lines}
use Rattle.quilt_line_audit.proofs.law.line_run_law.Goals as goal

pub returns-clause-whole : goal.returns-clause-whole
returns-clause-whole c form n rs layer t run le some h lined up = whole_lines form n rs layer t run le some h lined up

pub returns-clause-short : goal.returns-clause-short
returns-clause-short c form n rs layer t run le some h none = short_lines form n rs layer t run le some h none
