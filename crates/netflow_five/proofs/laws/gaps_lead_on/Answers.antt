use Rattle.netflow_five.proofs.LostSums.{gap_leads_on}
use Rattle.netflow_five.proofs.laws.gaps_lead_on.Goals as goal

pub returns : goal.returns
returns c = gap_leads_on
