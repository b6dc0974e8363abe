-- `net_section`: as the sheet writes the product.
use Rattle.components.proofs.Parts.{times_across}
use Rattle.components.specs.Tabled.{fu}
use Rattle.fin.specs.FinModes.{net_of}
use Rattle.fin.proofs.fin.Fin.net_section.Goals as goal

pub returns : goal.returns
returns c = let j = c.args.self.now.joint in cc (times_across 2 j.parts.tp (net_of j) (fu j.steels.plate) 25)
