-- The requirements of a header plate: what must hold for each to be met.
use Rattle.std.specs.Prelude.{ℕ, ◌*◌, Bool, true, ◌&&◌, ◌||◌, nat_le, nat_lt}
use Rattle.components.specs.Tabled.{fub}
use Rattle.components.specs.Welds.{full_strength}
use Rattle.joint.specs.Unmet.{unmet_of}
use Rattle.joint.specs.declared.requirements.Requirements.{Requirements}
use Rattle.header.specs.HeaderModes.{depth_of}
use Rattle.header.specs.declared.header.Header.{Header}
use Rattle.header.specs.declared.header_joint.HeaderJoint.{HeaderJoint}

module _ (j : HeaderJoint) where
  -- 1: hp ≤ db
  abbrev pub fits_web : Bool
  fits_web = nat_le (depth_of j) j.demands.db

  -- 2: 100000·tp > he·phi
  abbrev pub turns_freely : Bool
  turns_freely = nat_lt (j.demands.he * j.demands.phi) (100000 * j.parts.tp)

  -- a part of thickness t and steel fy yields before the bolts fail: 10000·d²·fub ≥ 784·t²·fy
  abbrev pub yields_first : (t fy : ℕ) → Bool
  yields_first t fy = nat_le (784 * t * t * fy) (10000 * j.bolts.bolt * j.bolts.bolt * fub j.bolts.grade)

  -- 4: the plate does, or a supporting flange
  abbrev pub ductile_joint : Bool
  ductile_joint = yields_first j.parts.tp j.steels.plate || (nat_lt 0 j.parts.es && yields_first j.parts.ts j.steels.supp)

  -- 8: the weld is as strong as the beam web; 16 and 64 are never failed; 32: v ≤ governing shear
  abbrev pub requirements_of : (governing : ℕ) → Requirements
  requirements_of governing = record {
    fits_web = fits_web;
    turns = turns_freely;
    ductile = ductile_joint;
    welded = full_strength j.parts.a j.parts.tw j.steels.web;
    bolts_spared = true;
    carries_shear = nat_le j.demands.v governing;
    carries_tie = true;
  }

-- the unmet number, given the governing figures; a header plate has no tying load
abbrev pub header_unmet : Header → ℕ → ℕ → ℕ
header_unmet h shear tying = unmet_of (requirements_of h.joint shear)
