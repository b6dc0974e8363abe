-- The lines of a fin plate's card.
use Rattle.std.specs.Prelude.{ℕ, List, [], ◌∷◌, codes, slice_index}
use Rattle.card.specs.declared.kind.CardKind.{Ghosts}
use Rattle.fin.specs.declared.fin_joint.FinJoint.{FinJoint}

-- the keys, from line 2 on
abbrev pub fin_keys : List (List ℕ)
fin_keys = codes "plate" ∷ codes "web" ∷ codes "bolt" ∷ codes "grade" ∷ codes "plane" ∷ codes "rows" ∷ codes "e1" ∷ codes "p1" ∷ codes "e2" ∷ codes "z" ∷ codes "tp" ∷ codes "tw" ∷ codes "e1b" ∷ codes "e2b" ∷ codes "av" ∷ codes "a" ∷ codes "he" ∷ codes "db" ∷ codes "phi" ∷ codes "v" ∷ codes "n" ∷ []

-- the values on those lines
abbrev pub fin_fields : FinJoint → List ℕ
fin_fields j =
    j.steels.plate ∷ j.steels.web ∷ j.bolts.bolt ∷ j.bolts.grade ∷ j.bolts.plane ∷ j.bolts.rows ∷ j.layout.e1 ∷ j.layout.p1 ∷ j.layout.e2 ∷ j.layout.z ∷ j.parts.tp ∷ j.parts.tw ∷ j.parts.e1b ∷ j.parts.e2b ∷ j.parts.av ∷ j.parts.a ∷ j.demands.he ∷ j.demands.db ∷ j.demands.phi ∷ j.demands.v ∷ j.demands.n ∷ []

-- the joint that has these values
abbrev pub fin_of : List ℕ → FinJoint
fin_of x = record {
  steels = record { plate = slice_index x 0; web = slice_index x 1 };
  bolts = record { bolt = slice_index x 2; grade = slice_index x 3; plane = slice_index x 4; rows = slice_index x 5 };
  layout = record { e1 = slice_index x 6; p1 = slice_index x 7; e2 = slice_index x 8; z = slice_index x 9 };
  parts = record { tp = slice_index x 10; tw = slice_index x 11; e1b = slice_index x 12; e2b = slice_index x 13; av = slice_index x 14; a = slice_index x 15 };
  demands = record { he = slice_index x 16; db = slice_index x 17; phi = slice_index x 18; v = slice_index x 19; n = slice_index x 20 };
}

-- joint=F, and these lines
abbrev pub fin_card : Ghosts FinJoint 21
fin_card = record { initial = 70; keys = fin_keys; fields = fin_fields }
