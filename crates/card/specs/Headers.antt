-- The lines of a header plate's card.
use Rattle.std.specs.Prelude.{ℕ, List, [], ◌∷◌, codes, slice_index}
use Rattle.card.specs.declared.kind.CardKind.{Ghosts}
use Rattle.header.specs.declared.header_joint.HeaderJoint.{HeaderJoint}

-- the keys, from line 2 on
abbrev pub header_keys : List (List ℕ)
header_keys =
    codes "plate" ∷ codes "web" ∷ codes "supp" ∷ codes "bolt" ∷ codes "grade" ∷ codes "plane" ∷ codes "rows" ∷ codes "e1" ∷ codes "p1" ∷ codes "e2" ∷ codes "p2" ∷ codes "tp" ∷ codes "tw" ∷ codes "ts" ∷ codes "es" ∷ codes "a" ∷ codes "he" ∷ codes "db" ∷ codes "phi" ∷ codes "v" ∷ []

-- the values on those lines
abbrev pub header_fields : HeaderJoint → List ℕ
header_fields j =
    j.steels.plate ∷ j.steels.web ∷ j.steels.supp ∷ j.bolts.bolt ∷ j.bolts.grade ∷ j.bolts.plane ∷ j.bolts.rows ∷ j.layout.e1 ∷ j.layout.p1 ∷ j.layout.e2 ∷ j.layout.p2 ∷ j.parts.tp ∷ j.parts.tw ∷ j.parts.ts ∷ j.parts.es ∷ j.parts.a ∷ j.demands.he ∷ j.demands.db ∷ j.demands.phi ∷ j.demands.v ∷ []

-- the joint that has these values
abbrev pub header_of : List ℕ → HeaderJoint
header_of x = record {
  steels = record { plate = slice_index x 0; web = slice_index x 1; supp = slice_index x 2 };
  bolts = record { bolt = slice_index x 3; grade = slice_index x 4; plane = slice_index x 5; rows = slice_index x 6 };
  layout = record { e1 = slice_index x 7; p1 = slice_index x 8; e2 = slice_index x 9; p2 = slice_index x 10 };
  parts = record { tp = slice_index x 11; tw = slice_index x 12; ts = slice_index x 13; es = slice_index x 14; a = slice_index x 15 };
  demands = record { he = slice_index x 16; db = slice_index x 17; phi = slice_index x 18; v = slice_index x 19 };
}

-- joint=H, and these lines
abbrev pub header_card : Ghosts HeaderJoint 20
header_card = record { initial = 72; keys = header_keys; fields = header_fields }
