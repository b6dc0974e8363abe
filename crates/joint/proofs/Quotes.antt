-- From a kind's meaning: what the governing figures of its joints are worth.
use Rattle.std.proofs.Common.{◌≡◌, ℕ, true, false, Some, None, Option, refl, ⊎_elim, arith}
use Rattle.std.proofs.lemmas.Bool.{cases_Bool}
use Rattle.joint.specs.Govern.{Governs, Found}
use Rattle.joint.specs.Meaning.{Meaning}
use Rattle.joint.specs.Sheets.{Quotable, QuotableIf, Quoted, or_nobody, sheet_of}
use Rattle.joint.specs.declared.kind.Kind.{Ghosts}
use Rattle.joint.specs.declared.sheet.Governing.{Governing}
use Rattle.joint.proofs.Lowest.{none_some, found}

module _ {J R : Type 0} (k : Ghosts J R) (m : Meaning k.FIELDS k.SHEAR_MODES k.TYING_MODES k.admission k.joint k.binding k.printed k.at) (j : J) where
  -- a mode with a figure binds, and one without does not
  binds_if : (i v : ℕ) → k.printed j i ≡ Some v → k.binding j i ≡ true
  binds_if i v e = ⊎_elim (λ h. h) (λ h. absurd (none_some (m.silent j i h) e)) (cases_Bool (k.binding j i))

  unbound_if : (i : ℕ) → k.printed j i ≡ None → k.binding j i ≡ false
  unbound_if i e = ⊎_elim (λ h. let v = m.figured j i h in absurd (none_some e v.1)) (λ h. h) (cases_Bool (k.binding j i))

  -- mode 1 binds, so that some shear mode governs
  pub shear_named : (o : Option Governing) → Found (k.printed j) 1 k.SHEAR_MODES o → (r : Governing) × (o ≡ Some r) × Governs (k.printed j) 1 k.SHEAR_MODES r
  shear_named (Some r) g = (r, refl, g)
  shear_named None s =
      let v = m.figured j 1 (m.first j) in
      let some = m.some_shear in
      absurd (none_some (s 1 (omega arith) (omega arith)) v.1)

  pub quotable : (first n : ℕ) (r : Governing) → Governs (k.printed j) first n r → Quotable k j first n r
  quotable first n r g = record {
    binds = binds_if r.mode r.figure g.named;
    below = λ i lo hi b. let v = m.figured j i b in m.down j i r.figure v.0 b (g.least i v.0 lo hi v.1) (m.safe j i v.0 v.1);
    near = m.close j r.mode r.figure g.named;
  }

  pub worth : (first n : ℕ) (o : Option Governing) → Found (k.printed j) first n o → QuotableIf k j first n o
  worth first n (Some r) g = quotable first n r g
  worth first n None s = λ i lo hi. unbound_if i (s i lo hi)

  named_or : (o : Option Governing) → Found (k.printed j) 1 k.SHEAR_MODES o → Governs (k.printed j) 1 k.SHEAR_MODES (or_nobody o)
  named_or o h = let g = shear_named o h in rw g.1 (g.2)

  -- so the governing figures of the joint's own sheet may be quoted
  pub sheet_quoted : Quoted k j (sheet_of k j)
  sheet_quoted = record {
    shear = quotable 1 k.SHEAR_MODES _ (named_or _ (found (k.printed j) 1 (omega arith) k.SHEAR_MODES));
    tying = worth 21 k.TYING_MODES _ (found (k.printed j) 21 (omega arith) k.TYING_MODES);
  }
