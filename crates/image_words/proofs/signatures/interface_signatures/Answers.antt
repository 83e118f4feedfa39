use Rattle.std.proofs.Common.{ℕ, List, inl, inr, sym, ap, ◌∙◌, subst, arith}
use Rattle.std.proofs.lemmas.Bool.{cases_eq, both_ways}
use Rattle.class_lookup.specs.Hierarchy.{is_interface}
use Rattle.image_words.specs.Signatures.{symbols_at, IsNumbered}
use Rattle.image_words.proofs.SignatureLemmas.{symbols_within, numbered_kept}
use Rattle.image_words.proofs.signatures.interface_signatures.Goals as goal
use Rattle.image_words.proofs.signatures.interface_signatures.Goals.{then-is_interface+in_ok-add_signatures, else-is_interface}

pub loop-class-init : goal.loop-class-init
loop-class-init c = λ m k lt i h. absurd (omega (arith, lt))

pub loop-class-preserved : goal.loop-class-preserved
loop-class-preserved c = λ m k lt i h.
    let cs = c.args.classes.now in
    let class = c.loop-class.class in
    let old = c.loop-class.signatures in
    elim c.if-is_interface.branch [
      | then-is_interface+in_ok-add_signatures w ↦
          let new = w.add_signatures.new.signatures in
          subst (λ (xs : List (ℕ × ℕ)). IsNumbered xs k) (sym w.signatures-is)
          (elim (cases_eq m.0 class) [
            | inl e ↦ w.in_ok-add_signatures.ensures.there m.1 k (ap (λ n. symbols_at cs (n, m.1)) (sym e) ∙ h)
            | inr f ↦ numbered_kept old new k w.in_ok-add_signatures.ensures.kept (c.loop-class.invariant m k (omega (arith, lt, f)) i h)
          ])
      | else-is_interface w ↦
          subst (λ (xs : List (ℕ × ℕ)). IsNumbered xs k) (sym w.signatures-is)
          (elim (cases_eq m.0 class) [
            | inl e ↦ absurd (both_ways (is_interface cs class) (sym c.is_interface.ensures ∙ w.if-is_interface.false) (ap (is_interface cs) (sym e) ∙ i))
            | inr f ↦ c.loop-class.invariant m k (omega (arith, lt, f)) i h
          ])
    ]

pub returns : goal.returns
returns c = record {
  each = λ m k i h.
      let within = symbols_within c.args.classes.now m k h in
      let lt = within.0 in
      let test = c.loop-class-test.false in
      let count = c.class_count-class-end.ensures in
      c.loop-class.invariant m k (omega (arith, lt, test, count)) i h;
}
