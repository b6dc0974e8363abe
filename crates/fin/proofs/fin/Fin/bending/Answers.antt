-- `bending`: as the sheet writes the product.
use Rattle.std.proofs.Common.{◌*◌}
use Rattle.components.proofs.Parts.{bent}
use Rattle.fin.specs.FinModes.{depth_of}
use Rattle.fin.proofs.fin.Fin.bending.Goals as goal

pub returns : goal.returns
returns c = let j = c.args.self.now.joint in cc (bent j.parts.tp (depth_of j) j.steels.plate (60 * j.layout.z))
