-- The numbers of an admitted header plate in bearing lie within the limits of a bearing total.
use Rattle.std.proofs.Common.{ℕ, eqb, arith}
use Rattle.std.proofs.lemmas.Bool.{cond_both}
use Rattle.resistance.specs.Fractions.{smaller}
use Rattle.components.specs.Bears.{k, u, w, most}
use Rattle.components.specs.Tabled.{hole_of}
use Rattle.components.proofs.BearParts.{Limits, Small, limits_from, k_small, u_small, w_small, most_small, smaller_small}
use Rattle.header.specs.HeaderModes.{on_plate, on_support, support_edge}
use Rattle.header.specs.declared.header_joint.HeaderJoint.{HeaderJoint}
use Rattle.header.specs.Ranges.{Admitted}

module _ (j : HeaderJoint) (a : Admitted j) where
  abbrev d₀ : ℕ
  d₀ = hole_of j.bolts.bolt

  pub plate_limits : Limits (on_plate j) (k d₀ j.layout.e2) (smaller (u d₀ j.layout.e1) (w d₀ j.layout.p1))
  plate_limits = limits_from (on_plate j) (k d₀ j.layout.e2) (smaller (u d₀ j.layout.e1) (w d₀ j.layout.p1)) (omega arith) a.bolt.high (omega arith)
      (k_small d₀ j.layout.e2 a.bolt.bound (omega arith))
      (smaller_small (u d₀ j.layout.e1) (w d₀ j.layout.p1) (u_small d₀ j.layout.e1 a.bolt.bound (omega arith)) (w_small d₀ j.layout.p1 a.bolt.bound a.p1_high))

  pub support_limits : Limits (on_support j) (support_edge j) (w d₀ j.layout.p1)
  support_limits = limits_from (on_support j) (support_edge j) (w d₀ j.layout.p1) (omega arith) a.bolt.high a.ts_high
      (cond_both (eqb j.parts.es 0) most (k d₀ j.parts.es) Small (λ _. most_small) (λ _. k_small d₀ j.parts.es a.bolt.bound (omega arith)))
      (w_small d₀ j.layout.p1 a.bolt.bound a.p1_high)
