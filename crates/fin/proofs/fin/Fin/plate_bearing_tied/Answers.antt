-- `plate_bearing_tied`: the numbers of a fin plate are workable, so that there always is a total.
use Rattle.std.proofs.Common.{ℕ, ◌∙◌, ap₂, rules}
use Rattle.components.specs.Bears.{on_part}
use Rattle.components.proofs.BearParts.{ultimate_known}
use Rattle.fin.specs.FinModes.{on_plate, plate_k_across, plate_α_across}
use Rattle.fin.proofs.Bears.{plate_limits_across}
use Rattle.fin.specs.Ranges.{ranges}
use Rattle.fin.proofs.fin.Fin.plate_bearing_tied.Goals as goal

pub unwrap-requires : goal.unwrap-requires
unwrap-requires c =
    let j = c.args.self.now.joint in
    let b = c.bolts_on.ensures ∙ ap₂ (λ (t f : ℕ). on_part j.bolts j.bolts.rows t f) c.plate.ensures.thickness c.plate.ensures.steel in
    let known = ultimate_known (on_plate j) (plate_k_across j) (plate_α_across j) b c.plate_factors_across-factors.ensures.k c.plate_factors_across-factors.ensures.alpha (plate_limits_across j (ranges j c.args.self.now.ok)) in
    let t = c.ultimate-total.ensures ∙ known in
    search rules
