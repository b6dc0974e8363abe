-- `plate_in_bearing`: the numbers of a header plate are workable, so that there always is a total.
use Rattle.std.proofs.Common.{ℕ, ap, ◌∙◌, ap₂, rules}
use Rattle.resistance.specs.Fractions.{smaller}
use Rattle.components.specs.Bears.{k, u, w, on_part}
use Rattle.components.proofs.BearParts.{total_known}
use Rattle.header.specs.HeaderModes.{bolts_of}
use Rattle.header.proofs.Bears.{plate_limits}
use Rattle.header.specs.Ranges.{ranges}
use Rattle.header.proofs.header.Header.plate_in_bearing.Goals as goal

pub unwrap-requires : goal.unwrap-requires
unwrap-requires c =
    let j = c.args.self.now.joint in
    let d = c.hole-d0.ensures.value in
    let x = c.edge_factor.ensures ∙ ap (λ (n : ℕ). k n j.layout.e2) d in
    let α = c.lesser.ensures ∙ ap₂ smaller (c.end_factor.ensures ∙ ap (λ (n : ℕ). u n j.layout.e1) d) (c.pitch_factor.ensures ∙ ap (λ (n : ℕ). w n j.layout.p1) d) in
    let b = c.bolts_on.ensures ∙ ap₂ (λ (t f : ℕ). on_part j.bolts (bolts_of j) t f) c.plate.ensures.thickness c.plate.ensures.steel in
    let known = total_known _ _ _ b x α (plate_limits j (ranges j c.args.self.now.ok)) in
    let t = c.total-total.ensures ∙ known in
    search rules
