use Rattle.heap_laws.proofs.Slots.Counted.{header_leads}
use Rattle.heap_laws.proofs.words.headers_lead.Goals as goal

pub returns : goal.returns
returns c = header_leads
