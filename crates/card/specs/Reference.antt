-- The reference cards of both kinds, and the modes whose figures are quoted of them.
use Rattle.std.specs.Prelude.{List, [], ◌∷◌}
use Rattle.fin.specs.FinModes as F
use Rattle.fin.specs.declared.fin_joint.FinJoint.{FinJoint}
use Rattle.header.specs.HeaderModes as H
use Rattle.header.specs.declared.header_joint.HeaderJoint.{HeaderJoint}
use Rattle.resistance.specs.declared.expression.Expression.{Expression}

abbrev pub reference_header : HeaderJoint
reference_header = record {
  steels = record { plate = 275; web = 275; supp = 275 };
  bolts = record { bolt = 20; grade = 88; plane = 1; rows = 3 };
  layout = record { e1 = 40; p1 = 70; e2 = 30; p2 = 90 };
  parts = record { tp = 80; tw = 71; ts = 140; es = 50; a = 40 };
  demands = record { he = 0; db = 300; phi = 20000; v = 0 };
}

abbrev pub reference_fin : FinJoint
reference_fin = record {
  steels = record { plate = 275; web = 275 };
  bolts = record { bolt = 20; grade = 88; plane = 1; rows = 3 };
  layout = record { e1 = 40; p1 = 70; e2 = 50; z = 60 };
  parts = record { tp = 100; tw = 60; e1b = 80; e2b = 50; av = 2500; a = 48 };
  demands = record { he = 40; db = 280; phi = 22000; v = 120000; n = 75000 };
}

-- modes 1, 2, 4, 5, 8, 11, 22 and 25 of the fin card, then 1, 2, 3, 4, 6 and 8 of the header card
abbrev pub reference_modes : List Expression
reference_modes =
    F.bolt_group reference_fin ∷ F.plate_bearing reference_fin ∷ F.net_plate reference_fin ∷ F.plate_tearing reference_fin ∷ F.web_bearing reference_fin ∷ F.web_tearing reference_fin
    ∷ F.plate_bearing_tying reference_fin ∷ F.web_bearing_tying reference_fin
    ∷ H.bolt_shear reference_header ∷ H.plate_bearing reference_header ∷ H.support_bearing reference_header ∷ H.gross_plate reference_header
    ∷ H.block_tearing reference_header ∷ H.beam_web reference_header ∷ []
