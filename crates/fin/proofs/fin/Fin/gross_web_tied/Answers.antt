-- `gross_web_tied`: as the sheet writes the product.
use Rattle.components.proofs.Parts.{across}
use Rattle.components.specs.Tabled.{fu}
use Rattle.fin.proofs.fin.Fin.gross_web_tied.Goals as goal

pub returns : goal.returns
returns c = let j = c.args.self.now.joint in cc (across j.parts.tw j.demands.db (fu j.steels.web) 10)
