-- Each kind is tried in turn: the texts of two kinds begin apart, and only a line 1 of no kind is refused by both.
use Rattle.std.proofs.Common.{◌≡◌, ℕ, ◌⊎◌, List, ◌++◌, get_or, drop, Ok, Err, Result, sym, refl, ap, ◌∙◌, inl, inr, arith, rules}
use Rattle.std.proofs.lemmas.List.{take-append-drop}
use Rattle.std.proofs.lemmas.Result.{err_from_is_err_and}
use Rattle.header.specs.declared.header_joint.HeaderJoint.{HeaderJoint}
use Rattle.fin.specs.declared.fin_joint.FinJoint.{FinJoint}
use Rattle.card.specs.declared.fault.TextFault.{TextFault}
use Rattle.card.specs.declared.fault.TextFault.TheVariants.{NoLineFeed, NotJoint, NotKey, NotNumber}
use Rattle.card.specs.declared.card.Card.{Card}
use Rattle.card.specs.declared.card.Card.TheVariants.{Header, Fin}
use Rattle.card.specs.Kinds.{kind_line, TookJoint, NotKind, Behind, UniqueJoint}
use Rattle.card.specs.Headers.{header_card}
use Rattle.card.specs.Fins.{fin_card}
use Rattle.card.specs.Cards.{Unique}
use Rattle.card.proofs.Joints.{kind_accepted}
use Rattle.card.proofs.card.read_card.Goals as goal

apart : (x y : List ℕ) → kind_line 72 ++ x ≡ kind_line 70 ++ y → ⊥
apart x y e = let seen : ◌≡◌ {A = ℕ} 72 70 = ap (λ (l : List ℕ). get_or l 6 0) e in omega arith

-- a fault of line 1 other than its kind is the same for every kind
both_kinds : (text : List ℕ) (f : TextFault) → (f ≡ NotJoint → ⊥) → NotKind 72 text f → NotKind 70 text f
both_kinds text (NoLineFeed at) ne h = h
both_kinds text NotJoint ne h = absurd (ne refl)
both_kinds text (NotKey at) ne h = h
both_kinds text (NotNumber at) ne h = h

abbrev as_header : Result (HeaderJoint × ℕ) TextFault → Result (Card × ℕ) TextFault
as_header (Ok p) = Ok (Header p.0, p.1)
as_header (Err f) = Err f

abbrev as_fin : Result (FinJoint × ℕ) TextFault → Result (Card × ℕ) TextFault
as_fin (Ok p) = Ok (Fin p.0, p.1)
as_fin (Err f) = Err f

module _ (text : List ℕ) where
  header_unique : (j : HeaderJoint) (n : ℕ) → TookJoint header_card j text n → UniqueJoint header_card text (Ok (j, n)) → Unique text (Ok (Header j, n))
  header_unique j n t u (Header i) rest low e = ap as_header (u i rest low e)
  header_unique j n t u (Fin i) rest low e =
      let cut = sym (take-append-drop n text) ∙ ap (λ (x : List ℕ). x ++ drop n text) t.taken in
      absurd (apart _ _ (sym cut ∙ e))

  refused_unique : (f : TextFault) → (f ≡ NotJoint → ⊥) → NotKind 72 text f ⊎ Behind header_card text f → UniqueJoint header_card text (Err f) → Unique text (Err f)
  refused_unique f ne h u (Header i) rest low e = ap as_header (u i rest low e)
  refused_unique f ne (inl bad) u (Fin i) rest low e = absurd (kind_accepted 70 text _ f (λ q. omega arith) e (both_kinds text f ne bad))
  refused_unique f ne (inr bad) u (Fin i) rest low e = absurd (apart _ _ (sym bad.split ∙ e))

  fin_unique : (f : TextFault) (r : Result (FinJoint × ℕ) TextFault) → UniqueJoint header_card text (Err f) → UniqueJoint fin_card text r → Unique text (as_fin r)
  fin_unique f r u w (Header i) rest low e = let no-card = u i rest low e in let z : ◌≡◌ {A = ℕ} 0 1 = cc in absurd (omega arith)
  fin_unique f r u w (Fin i) rest low e = ap as_fin (w i rest low e)

pub returns-in-Ok-clause-unique : goal.returns-in-Ok-clause-unique
returns-in-Ok-clause-unique c = let h = c.in-Ok.ensures in header_unique _ _ _ h.reads h.unique

pub returns-in_ok-joint-in-Err-clause-unique : goal.returns-in_ok-joint-in-Err-clause-unique
returns-in_ok-joint-in-Err-clause-unique c =
    let k = c.in_ok-joint-in-Err.ensures in
    fin_unique _ _ (Ok (c.in_ok-joint-in-Err.joint, c.in_ok-joint-in-Err.taken)) c.in-Err.ensures.unique k.unique

pub returns-in_err-joint-in-Err-clause-unique : goal.returns-in_err-joint-in-Err-clause-unique
returns-in_err-joint-in-Err-clause-unique c =
    let p = err_from_is_err_and c.from_residual.result c.from_residual.ensures.1 in
    let k = c.in_err-joint-in-Err.ensures in
    rw (p.1, p.2) (fin_unique _ _ (Err c.in_err-joint-in-Err.field-0.0) c.in-Err.ensures.unique k.unique)

pub returns-in-Err-2-clause-unique : goal.returns-in-Err-2-clause-unique
returns-in-Err-2-clause-unique c =
    let h = c.in-Err.ensures in
    refused_unique _ _ (search rules) h.reads h.unique
