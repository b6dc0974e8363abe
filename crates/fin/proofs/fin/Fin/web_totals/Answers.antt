-- `web_totals`: the numbers of a fin plate are workable, so that there always are totals.
use Rattle.std.proofs.Common.{ℕ, ◌∙◌, ap₂, rules}
use Rattle.components.specs.Bears.{on_part}
use Rattle.components.proofs.BearParts.{total_known}
use Rattle.fin.specs.FinModes.{on_web, web_k, web_α, web_k_across, web_α_across}
use Rattle.fin.proofs.Bears.{web_limits, web_limits_across}
use Rattle.fin.specs.Ranges.{ranges}
use Rattle.fin.proofs.fin.Fin.web_totals.Goals as goal

pub unwrap-down-requires : goal.unwrap-down-requires
unwrap-down-requires c =
    let j = c.args.self.now.joint in
    let b = c.bolts_on-bolts.ensures ∙ ap₂ (λ (t f : ℕ). on_part j.bolts j.bolts.rows t f) c.web.ensures.thickness c.web.ensures.steel in
    let known = total_known (on_web j) (web_k j) (web_α j) b c.web_factors.ensures.k c.web_factors.ensures.alpha (web_limits j (ranges j c.args.self.now.ok)) in
    let t = c.total.ensures ∙ known in
    search rules

pub unwrap-across-requires : goal.unwrap-across-requires
unwrap-across-requires c =
    let j = c.args.self.now.joint in
    let b = c.bolts_on-bolts.ensures ∙ ap₂ (λ (t f : ℕ). on_part j.bolts j.bolts.rows t f) c.web.ensures.thickness c.web.ensures.steel in
    let known = total_known (on_web j) (web_k_across j) (web_α_across j) b c.web_factors_across.ensures.k c.web_factors_across.ensures.alpha (web_limits_across j (ranges j c.args.self.now.ok)) in
    let t = c.total-2.ensures ∙ known in
    search rules
