-- The numbers of an admitted fin plate in bearing lie within the limits of a bearing total.
use Rattle.std.proofs.Common.{ℕ, arith}
use Rattle.components.specs.Bears.{k, k', u, w}
use Rattle.components.specs.Tabled.{hole_of}
use Rattle.components.proofs.BearParts.{Limits, limits_from, k_small, k'_small, u_small, w_small, smaller_small}
use Rattle.fin.specs.FinModes.{on_plate, on_web, plate_k, plate_α, plate_k_across, plate_α_across, web_k, web_α, web_k_across, web_α_across}
use Rattle.fin.specs.declared.fin_joint.FinJoint.{FinJoint}
use Rattle.fin.specs.Ranges.{Admitted}

module _ (j : FinJoint) (a : Admitted j) where
  abbrev d₀ : ℕ
  d₀ = hole_of j.bolts.bolt

  pub plate_limits : Limits (on_plate j) (plate_k j) (plate_α j)
  plate_limits = limits_from (on_plate j) (plate_k j) (plate_α j) (omega arith) a.bolt.high (omega arith)
      (k_small d₀ j.layout.e2 a.bolt.bound (omega arith))
      (smaller_small (u d₀ j.layout.e1) (w d₀ j.layout.p1) (u_small d₀ j.layout.e1 a.bolt.bound (omega arith)) (w_small d₀ j.layout.p1 a.bolt.bound a.p1_high))

  pub plate_limits_across : Limits (on_plate j) (plate_k_across j) (plate_α_across j)
  plate_limits_across = limits_from (on_plate j) (plate_k_across j) (plate_α_across j) (omega arith) a.bolt.high (omega arith)
      (smaller_small (k d₀ j.layout.e1) (k' d₀ j.layout.p1) (k_small d₀ j.layout.e1 a.bolt.bound (omega arith)) (k'_small d₀ j.layout.p1 a.bolt.bound a.p1_high))
      (u_small d₀ j.layout.e2 a.bolt.bound (omega arith))

  pub web_limits : Limits (on_web j) (web_k j) (web_α j)
  web_limits = limits_from (on_web j) (web_k j) (web_α j) (omega arith) a.bolt.high (omega arith)
      (k_small d₀ j.parts.e2b a.bolt.bound (omega arith)) (w_small d₀ j.layout.p1 a.bolt.bound a.p1_high)

  pub web_limits_across : Limits (on_web j) (web_k_across j) (web_α_across j)
  web_limits_across = limits_from (on_web j) (web_k_across j) (web_α_across j) (omega arith) a.bolt.high (omega arith)
      (k'_small d₀ j.layout.p1 a.bolt.bound a.p1_high) (u_small d₀ j.parts.e2b a.bolt.bound (omega arith))
