-- The joint, or the first fault, from line 1 and the lines behind it; and so the only reading.
use Rattle.std.proofs.Common.{ℕ, ◌+◌, Ok, ap, subst, inl, inr}
use Rattle.std.proofs.lemmas.Result.{err_from_is_err_and}
use Rattle.card.specs.Kinds.{NotKind, Behind, TookJoint}
use Rattle.card.proofs.Joints.{joint_took, joint_refused, kind_accepted, behind_accepted, took_same}
use Rattle.card.proofs.Laws.{cleans}
use Rattle.card.proofs.joint_card.read_joint.Goals as goal

pub returns-in_err-start : goal.returns-in_err-start
returns-in_err-start g c =
    let p = err_from_is_err_and c.from_residual.result c.from_residual.ensures.1 in
    let k = g.met.J.CardKind in
    let bad : NotKind g.J.CardKind.initial c.args.text.now p.0 = subst (λ (l : ℕ). NotKind l c.args.text.now p.0) c.letter.ensures (rw p.2 c.in_err-start.ensures) in
    record { reads = rw p.1 (inl bad); unique = λ j rest low e. absurd (kind_accepted _ _ _ _ k.plain e bad) }

pub returns-in_err-values : goal.returns-in_err-values
returns-in_err-values g c =
    let p = err_from_is_err_and c.from_residual-in_err-values.result c.from_residual-in_err-values.ensures.1 in
    let k = g.met.J.CardKind in
    let bad : Behind g.J.CardKind c.args.text.now p.0 =
    joint_refused _ _ _ _ c.letter.ensures c.in_ok-start.ensures _ c.key_table.ensures.table _ (rw p.2 c.in_err-values.ensures) in
    record { reads = rw p.1 (inr bad); unique = λ j rest low e. absurd (behind_accepted _ k.counted j _ _ _ (cleans _ k.clean) low e bad) }

pub returns : goal.returns
returns g c =
    let k = g.met.J.CardKind in
    let joint = c.of_values.result in
    let made : TookJoint g.J.CardKind joint c.args.text.now (c.in_ok-start.start + c.in_ok-values.taken) =
    joint_took _ _ _ _ c.letter.ensures c.in_ok-start.ensures _ c.key_table.ensures.table _ _ _ c.in_ok-values.ensures c.of_values.ensures in
    record {
      reads = made;
      unique = λ j rest low e.
          let same = took_same _ k.counted _ j _ _ _ made low e in
          let one = k.only joint j same.0 in
          let bytes = same.1 in
          ap Ok (λ i. (one i, bytes i));
    }
