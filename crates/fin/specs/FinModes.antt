-- The modes of a fin plate, as expressions: eleven of shear, seven of tying.
use Rattle.std.specs.Prelude.{ℕ, ◌+◌, ◌-◌, ◌*◌, Bool, true, false, cond, List, [], ◌∷◌, Some, None, Option, nat_lt}
use Rattle.resistance.specs.Fractions.{◌÷◌, smaller}
use Rattle.resistance.specs.declared.expression.Expression.{Expression}
use Rattle.resistance.specs.declared.expression.Expression.TheVariants.{Whole, Root, Sum, Group}
use Rattle.resistance.specs.declared.group.BoltGroup.{BoltGroup}
use Rattle.resistance.specs.declared.ratio.Ratio.{Ratio}
use Rattle.components.specs.Bears.{k, k', u, w, bear_of, on_part, ultimate, shear_total}
use Rattle.components.specs.Columns.{depth_by, net_by, torn_by}
use Rattle.components.specs.Tabled.{fu, fub, hole_of, area_of, shear_of}
use Rattle.components.specs.declared.bearing.Bearing.{Bearing}
use Rattle.joint.specs.Modes.{mode_in}
use Rattle.fin.specs.declared.fin.Fin.{Fin}
use Rattle.fin.specs.declared.fin_joint.FinJoint.{FinJoint}

module _ (j : FinJoint) where
  -- the hole of the bolts, which stand in one column
  abbrev d₀ : ℕ
  d₀ = hole_of j.bolts.bolt

  -- hp: the depth of the plate
  abbrev pub depth_of : ℕ
  depth_of = depth_by j.bolts.rows j.layout.e1 j.layout.p1

  -- net: what the holes leave of the depth
  abbrev pub net_of : ℕ
  net_of = net_by j.bolts.rows d₀ j.layout.e1 j.layout.p1

  -- G: twice the net length that the torn block of the plate is sheared on
  abbrev pub torn_of : ℕ
  torn_of = torn_by j.bolts.rows d₀ j.layout.e1 j.layout.p1

  -- the same of the torn block of the beam web
  abbrev pub web_torn_of : ℕ
  web_torn_of = 2 * j.parts.e1b + 2 * (j.bolts.rows - 1) * j.layout.p1 - (2 * j.bolts.rows - 1) * d₀

  -- L, the length by which the bolts of a column resist turning
  abbrev pub length_of : ℕ
  length_of = (j.bolts.rows + 1) * j.layout.p1

  -- the plate is shallow for its lever arm, so that it bends
  abbrev pub shallow : Bool
  shallow = nat_lt (100 * depth_of) (273 * j.layout.z)

  -- the bolts on the plate, and on the beam web
  abbrev pub on_plate : Bearing
  on_plate = on_part j.bolts j.bolts.rows j.parts.tp j.steels.plate

  abbrev pub on_web : Bearing
  on_web = on_part j.bolts j.bolts.rows j.parts.tw j.steels.web

  -- T: all bolts in shear
  abbrev pub bolt_total : Ratio
  bolt_total = shear_total j.bolts.rows j.bolts.bolt j.bolts.grade j.bolts.plane

  -- the plate's factors: of a load down the column, then of one across it
  abbrev pub plate_k : Ratio
  plate_k = k d₀ j.layout.e2

  abbrev pub plate_α : Ratio
  plate_α = smaller (u d₀ j.layout.e1) (w d₀ j.layout.p1)

  abbrev pub plate_k_across : Ratio
  plate_k_across = smaller (k d₀ j.layout.e1) (k' d₀ j.layout.p1)

  abbrev pub plate_α_across : Ratio
  plate_α_across = u d₀ j.layout.e2

  -- the web's factors
  abbrev pub web_k : Ratio
  web_k = k d₀ j.parts.e2b

  abbrev pub web_α : Ratio
  web_α = w d₀ j.layout.p1

  abbrev pub web_k_across : Ratio
  web_k_across = k' d₀ j.layout.p1

  abbrev pub web_α_across : Ratio
  web_α_across = u d₀ j.parts.e2b

  -- P and Q of the plate, and of the web
  abbrev pub plate_down : Ratio
  plate_down = bear_of on_plate plate_k plate_α

  abbrev pub plate_across : Ratio
  plate_across = bear_of on_plate plate_k_across plate_α_across

  abbrev pub web_down : Ratio
  web_down = bear_of on_web web_k web_α

  abbrev pub web_across : Ratio
  web_across = bear_of on_web web_k_across web_α_across

  -- Group(P, Q): P·L/√(L² + (6·z·P/Q)²), printed with a scale of 100000
  abbrev pub group_by : Ratio → Ratio → BoltGroup
  group_by P Q = record { vertical = P; horizontal = Q; scale = 100000; shear = length_of; down = length_of; across = 6 * j.layout.z }

  -- 1, bolts in shear: Group(T, T)
  abbrev pub bolt_group : Expression
  bolt_group = Group (group_by bolt_total bolt_total)

  -- 2, plate in bearing: Group(P, Q)
  abbrev pub plate_bearing : Expression
  plate_bearing = Group (group_by plate_down plate_across)

  -- 3, gross section of the plate in shear: R([10·hp·tp·fy/127])
  abbrev pub gross_plate : Expression
  gross_plate = Root ((10 * depth_of * j.parts.tp * j.steels.plate) ÷ 127)

  -- 4, net section of the plate in shear: R([2·tp·net·fu/25])
  abbrev pub net_plate : Expression
  net_plate = Root ((2 * j.parts.tp * net_of * fu j.steels.plate) ÷ 25)

  -- 5, block tearing of the plate: [tp·(2·e2 − d₀)·fu/50] + R([tp·fy·G/20])
  abbrev pub plate_tearing : Expression
  plate_tearing = Sum ((j.parts.tp * (2 * j.layout.e2 - d₀) * fu j.steels.plate) ÷ 50) ((j.parts.tp * j.steels.plate * torn_of) ÷ 20)

  -- 6, plate in bending: [tp·hp²·fy/(60·z)]
  abbrev pub plate_bending : Expression
  plate_bending = Whole ((j.parts.tp * depth_of * depth_of * j.steels.plate) ÷ (60 * j.layout.z))

  -- 8, beam web in bearing: Group(P, Q)
  abbrev pub web_bearing : Expression
  web_bearing = Group (group_by web_down web_across)

  -- 9, gross section of the beam web in shear: R(av·fy)
  abbrev pub gross_web : Expression
  gross_web = Root ((j.parts.av * j.steels.web) ÷ 1)

  -- 10, net section of the beam web in shear: R([2·(10·av − rows·d₀·tw)·fu/25])
  abbrev pub net_web : Expression
  net_web = Root ((2 * (10 * j.parts.av - j.bolts.rows * d₀ * j.parts.tw) * fu j.steels.web) ÷ 25)

  -- 11, block tearing of the beam web: [tw·(2·e2b − d₀)·fu/50] + R([tw·fy·(2·e1b + 2·(rows − 1)·p1 − (2·rows − 1)·d₀)/20])
  abbrev pub web_tearing : Expression
  web_tearing = Sum ((j.parts.tw * (2 * j.parts.e2b - d₀) * fu j.steels.web) ÷ 50) ((j.parts.tw * j.steels.web * web_torn_of) ÷ 20)

  -- Tying modes carry no partial factor. 21, bolts in shear: [m·s·fub·A/10]
  abbrev pub bolt_tying : Expression
  bolt_tying = Whole ((j.bolts.rows * shear_of j.bolts.grade j.bolts.plane * fub j.bolts.grade * area_of j.bolts.bolt j.bolts.plane) ÷ 10)

  -- 22, plate in bearing: 5/4 of Q, dropped once
  abbrev pub plate_bearing_tying : Expression
  plate_bearing_tying = Whole (ultimate plate_across)

  -- 23, gross section of the plate in tension: [tp·hp·fu/10]
  abbrev pub gross_plate_tying : Expression
  gross_plate_tying = Whole ((j.parts.tp * depth_of * fu j.steels.plate) ÷ 10)

  -- 24, net section of the plate in tension: [9·tp·net·fu/100]
  abbrev pub net_plate_tying : Expression
  net_plate_tying = Whole ((9 * j.parts.tp * net_of * fu j.steels.plate) ÷ 100)

  -- 25, beam web in bearing: 5/4 of Q, dropped once
  abbrev pub web_bearing_tying : Expression
  web_bearing_tying = Whole (ultimate web_across)

  -- 26, gross section of the beam web in tension: [tw·db·fu/10]
  abbrev pub gross_web_tying : Expression
  gross_web_tying = Whole ((j.parts.tw * j.demands.db * fu j.steels.web) ÷ 10)

  -- 27, net section of the beam web in tension: [9·tw·(db − rows·d₀)·fu/100]
  abbrev pub net_web_tying : Expression
  net_web_tying = Whole ((9 * j.parts.tw * (j.demands.db - j.bolts.rows * d₀) * fu j.steels.web) ÷ 100)

-- the shear modes from 1 on; 7, buckling of a long fin plate, never binds, since a plate too thin for its lever arm is not admitted
unfoldable pub shear_modes : FinJoint → List (Option Expression)
shear_modes j =
    Some (bolt_group j) ∷ Some (plate_bearing j) ∷ Some (gross_plate j) ∷ Some (net_plate j) ∷ Some (plate_tearing j) ∷ cond (shallow j) (Some (plate_bending j)) None ∷ None
    ∷ Some (web_bearing j) ∷ Some (gross_web j) ∷ Some (net_web j) ∷ Some (web_tearing j) ∷ []

-- the tying modes from 21 on
unfoldable pub tying_modes : FinJoint → List (Option Expression)
tying_modes j =
    Some (bolt_tying j) ∷ Some (plate_bearing_tying j) ∷ Some (gross_plate_tying j) ∷ Some (net_plate_tying j) ∷ Some (web_bearing_tying j) ∷ Some (gross_web_tying j) ∷ Some (net_web_tying j) ∷ []

-- 6 binds exactly if 100·hp < 273·z, and 7 never
unfoldable pub shear_binds : FinJoint → List Bool
shear_binds j = true ∷ true ∷ true ∷ true ∷ true ∷ shallow j ∷ false ∷ true ∷ true ∷ true ∷ true ∷ []

unfoldable pub tying_binds : List Bool
tying_binds = true ∷ true ∷ true ∷ true ∷ true ∷ true ∷ true ∷ []

abbrev pub fin_mode : Fin → ℕ → Option Expression
fin_mode f i = mode_in None (shear_modes f.joint) (tying_modes f.joint) i

abbrev pub fin_binds : Fin → ℕ → Bool
fin_binds f i = mode_in false (shear_binds f.joint) tying_binds i
