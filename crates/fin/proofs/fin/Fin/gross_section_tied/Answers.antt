-- `gross_section_tied`: as the sheet writes the product.
use Rattle.components.proofs.Parts.{across}
use Rattle.components.specs.Tabled.{fu}
use Rattle.fin.specs.FinModes.{depth_of}
use Rattle.fin.proofs.fin.Fin.gross_section_tied.Goals as goal

pub returns : goal.returns
returns c = let j = c.args.self.now.joint in cc (across j.parts.tp (depth_of j) (fu j.steels.plate) 10)
