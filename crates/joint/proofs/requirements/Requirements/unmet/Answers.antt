-- `unmet`: the bits are those of the requirements that fail.
use Rattle.std.proofs.Common.{◌≡◌, ap, ◌∙◌}
use lib.Bits.{bit_or}
use lib.Count.{ones}
use Rattle.joint.proofs.BitSet.{set_of, set_sum, set_count}
use Rattle.joint.proofs.requirements.Requirements.unmet.Goals as goal

pub returns : goal.returns
returns c =
    let q = c.args.self in
    let is : bit_or (bit_or (bit_or (bit_or c.power_of.result c.power_of-2.result) c.power_of-3.result) c.power_of-4.result) (bit_or (bit_or c.power_of-5.result c.power_of-6.result) c.power_of-7.result)
    ≡ set_of q.fits_web q.turns q.ductile q.welded q.bolts_spared q.carries_shear q.carries_tie = cc in
    record {
      value = is ∙ set_sum q.fits_web q.turns q.ductile q.welded q.bolts_spared q.carries_shear q.carries_tie;
      counts = ap ones is ∙ set_count q.fits_web q.turns q.ductile q.welded q.bolts_spared q.carries_shear q.carries_tie;
    }
