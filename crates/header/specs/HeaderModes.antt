-- The eight shear modes of a header plate, as expressions. It has no tying modes.
use Rattle.std.specs.Prelude.{ℕ, ◌-◌, ◌*◌, Bool, true, false, cond, List, [], ◌∷◌, Some, None, Option, ◌==◌, nat_lt}
use Rattle.resistance.specs.Fractions.{◌÷◌, smaller}
use Rattle.resistance.specs.declared.expression.Expression.{Expression}
use Rattle.resistance.specs.declared.expression.Expression.TheVariants.{Whole, Root, Sum}
use Rattle.resistance.specs.declared.ratio.Ratio.{Ratio}
use Rattle.components.specs.Bears.{k, u, w, most, bear_of, on_part}
use Rattle.components.specs.Columns.{depth_by, net_by, torn_by}
use Rattle.components.specs.Tabled.{fu, fub, hole_of, area_of, shear_of}
use Rattle.components.specs.declared.bearing.Bearing.{Bearing}
use Rattle.joint.specs.Modes.{mode_in}
use Rattle.header.specs.declared.header.Header.{Header}
use Rattle.header.specs.declared.header_joint.HeaderJoint.{HeaderJoint}

module _ (j : HeaderJoint) where
  -- the hole of the bolts
  abbrev d₀ : ℕ
  d₀ = hole_of j.bolts.bolt

  -- m: all bolts, in two columns
  abbrev pub bolts_of : ℕ
  bolts_of = 2 * j.bolts.rows

  -- hp: the depth of the plate
  abbrev pub depth_of : ℕ
  depth_of = depth_by j.bolts.rows j.layout.e1 j.layout.p1

  -- net: what the holes leave of the depth
  abbrev pub net_of : ℕ
  net_of = net_by j.bolts.rows d₀ j.layout.e1 j.layout.p1

  -- G: the net length that the two torn blocks are sheared on
  abbrev pub torn_of : ℕ
  torn_of = torn_by j.bolts.rows d₀ j.layout.e1 j.layout.p1

  -- the plate is shallow for its gauge, so that it bends
  abbrev pub shallow : Bool
  shallow = nat_lt (25 * depth_of) (34 * j.layout.p2)

  -- the sides of a torn block that carry tension: both, and half as much where the plate bends
  abbrev pub sides_of : ℕ
  sides_of = cond shallow 1 2

  -- the bolts on the plate, and on the support
  abbrev pub on_plate : Bearing
  on_plate = on_part j.bolts bolts_of j.parts.tp j.steels.plate

  abbrev pub on_support : Bearing
  on_support = on_part j.bolts bolts_of j.parts.ts j.steels.supp

  -- k of the support: a supporting web has no edge
  abbrev pub support_edge : Ratio
  support_edge = cond (j.parts.es == 0) most (k d₀ j.parts.es)

  -- 1, bolts in shear: [8·m·s·fub·A/125]
  abbrev pub bolt_shear : Expression
  bolt_shear = Whole ((8 * bolts_of * shear_of j.bolts.grade j.bolts.plane * fub j.bolts.grade * area_of j.bolts.bolt j.bolts.plane) ÷ 125)

  -- 2, plate in bearing: [Bear(k(e2), min(u(e1), w(p1)))]
  abbrev pub plate_bearing : Expression
  plate_bearing = Whole (bear_of on_plate (k d₀ j.layout.e2) (smaller (u d₀ j.layout.e1) (w d₀ j.layout.p1)))

  -- 3, support in bearing: [Bear(k(es), w(p1))]
  abbrev pub support_bearing : Expression
  support_bearing = Whole (bear_of on_support support_edge (w d₀ j.layout.p1))

  -- 4, gross section of the plate in shear: R([20·hp·tp·fy/127])
  abbrev pub gross_plate : Expression
  gross_plate = Root ((20 * depth_of * j.parts.tp * j.steels.plate) ÷ 127)

  -- 5, net section of the plate in shear: R([4·tp·net·fu/25])
  abbrev pub net_plate : Expression
  net_plate = Root ((4 * j.parts.tp * net_of * fu j.steels.plate) ÷ 25)

  -- 6, block tearing of the plate: [2·tp·(2·e2 − d₀)·fu/25] + R([tp·fy·G/10]), the first term halved where the plate bends
  abbrev pub block_tearing : Expression
  block_tearing =
      Sum ((sides_of * j.parts.tp * (2 * j.layout.e2 - d₀) * fu j.steels.plate) ÷ 25) ((j.parts.tp * j.steels.plate * torn_of) ÷ 10)

  -- 7, plate in bending: [tp·hp²·fy/(3·(10·p2 − tw))]
  abbrev pub plate_bending : Expression
  plate_bending = Whole ((j.parts.tp * depth_of * depth_of * j.steels.plate) ÷ (3 * (10 * j.layout.p2 - j.parts.tw)))

  -- 8, beam web in shear: R([hp·tw·fy/10])
  abbrev pub beam_web : Expression
  beam_web = Root ((depth_of * j.parts.tw * j.steels.web) ÷ 10)

-- the modes from 1 on, nothing where a mode does not bind
unfoldable pub shear_modes : HeaderJoint → List (Option Expression)
shear_modes j =
    Some (bolt_shear j) ∷ Some (plate_bearing j) ∷ Some (support_bearing j) ∷ Some (gross_plate j) ∷ Some (net_plate j) ∷ Some (block_tearing j)
    ∷ cond (shallow j) (Some (plate_bending j)) None ∷ Some (beam_web j) ∷ []

-- every mode binds, but bending only where the plate is shallow: exactly if 25·hp < 34·p2
unfoldable pub shear_binds : HeaderJoint → List Bool
shear_binds j = true ∷ true ∷ true ∷ true ∷ true ∷ true ∷ shallow j ∷ true ∷ []

abbrev pub header_mode : Header → ℕ → Option Expression
header_mode h i = mode_in None (shear_modes h.joint) [] i

abbrev pub header_binds : Header → ℕ → Bool
header_binds h i = mode_in false (shear_binds h.joint) [] i
