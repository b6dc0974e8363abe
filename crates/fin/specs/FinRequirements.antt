-- The requirements of a fin plate: what must hold for each to be met.
use Rattle.std.specs.Prelude.{ℕ, ◌+◌, ◌*◌, min, Bool, ◌||◌, Some, None, Option, nat_le, nat_lt}
use Rattle.resistance.specs.Exact.{sq}
use Rattle.resistance.specs.Expressions.{printed}
use Rattle.resistance.specs.Fractions.{at_most}
use Rattle.components.specs.Welds.{full_strength}
use Rattle.joint.specs.Unmet.{unmet_of}
use Rattle.joint.specs.declared.requirements.Requirements.{Requirements}
use Rattle.fin.specs.FinModes.{depth_of, bolt_total, plate_across, web_across, bolt_group, plate_bearing, web_bearing}
use Rattle.fin.specs.declared.fin.Fin.{Fin}
use Rattle.fin.specs.declared.fin_joint.FinJoint.{FinJoint}

-- the printed figure of a mode, and 0 where it does not bind
abbrev pub or_nought : Option ℕ → ℕ
or_nought None = 0
or_nought (Some v) = v

module _ (j : FinJoint) where
  -- 1: hp ≤ db
  abbrev pub fits_web : Bool
  fits_web = nat_le (depth_of j) j.demands.db

  -- 2: (2000000·e2b + (hp + 2·he)·phi)² < 4·z²·(10¹² + phi²)
  abbrev pub turns_freely : Bool
  turns_freely =
      nat_lt (sq (2000000 * j.parts.e2b + (depth_of j + 2 * j.demands.he) * j.demands.phi)) (4 * sq j.layout.z * (1000000000000 + sq j.demands.phi))

  -- 4: in plate or web the exact total across is at most that of the bolts, so that bearing yields before the bolts fail
  abbrev pub ductile_joint : Bool
  ductile_joint = at_most (plate_across j) (bolt_total j) || at_most (web_across j) (bolt_total j)

  -- 16: figure 1 exceeds the smaller of figures 2 and 8
  abbrev pub bolts_spared : Bool
  bolts_spared = nat_lt (min (printed (plate_bearing j)) (printed (web_bearing j))) (printed (bolt_group j))

  -- 8: the weld is as strong as the plate; 32: v ≤ governing shear; 64: n ≤ governing tying
  abbrev pub requirements_of : (shear tying : ℕ) → Requirements
  requirements_of shear tying = record {
    fits_web = fits_web;
    turns = turns_freely;
    ductile = ductile_joint;
    welded = full_strength j.parts.a j.parts.tp j.steels.plate;
    bolts_spared = bolts_spared;
    carries_shear = nat_le j.demands.v shear;
    carries_tie = nat_le j.demands.n tying;
  }

-- the unmet number, given the governing figures
abbrev pub fin_unmet : Fin → ℕ → ℕ → ℕ
fin_unmet f shear tying = unmet_of (requirements_of f.joint shear tying)
