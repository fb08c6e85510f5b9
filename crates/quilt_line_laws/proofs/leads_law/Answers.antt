use Rattle.quilt_line_laws.proofs.Leads.{add_leads, remove_leads}
use Rattle.quilt_line_laws.proofs.leads_law.Goals as goal

pub returns : goal.returns
returns c = record { add = add_leads; remove = remove_leads }
