use Rattle.rail.proofs.Hangs.{law_at}
use Rattle.rail.proofs.rail.Rail.audit.Goals as goal

pub returns-clause-law : goal.returns-clause-law
returns-clause-law g c = λ number size cs e. law_at g.K.Kind g.met.K.Kind.meaning number size cs _ e
