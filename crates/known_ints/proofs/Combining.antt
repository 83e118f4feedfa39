-- What is computed of two ints that are found.
use Rattle.std.proofs.Common.{◌≡◌, ℕ, ℤ, List, Option, Some, None, sym, ap, ◌∙◌, subst}
use Rattle.std.specs.Prelude.{◌↔◌}
use Rattle.lists.proofs.Lemmas.{none≢some, some_same}
use Rattle.loop_rules.specs.declared.further.table.KnownInt.{KnownInt}
use Rattle.known_ints.specs.declared.rows.Arithmetic.{Arithmetic}
use Rattle.known_ints.specs.Arithmetic.{IsComputed}
use Rattle.loop_rules.specs.Further.Found.{known_at}
use Rattle.known_ints.specs.Knowing.{IsComputedBy, IsGiven}

-- the same at equal ints
pub exact_at : (a : Arithmetic) (o : Option ℤ) (y x v w : ℤ) → y ≡ v → x ≡ w → ((c : ℤ) → (o ≡ Some c) ↔ IsComputed a y x c) → (c : ℤ) → (o ≡ Some c) ↔ IsComputed a v w c
exact_at a o y x v w e f exact =
    let second = subst (λ (z : ℤ). (c : ℤ) → (o ≡ Some c) ↔ IsComputed a z x c) e exact in
    subst (λ (z : ℤ). (c : ℤ) → (o ≡ Some c) ↔ IsComputed a v z c) f second

module _ (ints : List (Option KnownInt)) (a : Arithmetic) (p : ℕ) (u l : KnownInt) (upper : known_at ints p ≡ Some u) (lower : known_at ints u.from ≡ Some l)
    (o : Option ℤ) (exact : (c : ℤ) → (o ≡ Some c) ↔ IsComputed a u.value l.value c) where
  computed_by : (from : ℕ) (c : ℤ) → IsComputedBy ints a p from c → (l.from ≡ from) × IsComputed a u.value l.value c
  computed_by from c h =
      let second : u ≡ record { from = h.second; value = h.y } = some_same u (record { from = h.second; value = h.y }) (sym upper ∙ h.upper) in
      let first : l ≡ record { from = from; value = h.x } =
      some_same l (record { from = from; value = h.x }) (sym lower ∙ ap (λ (k : KnownInt). known_at ints k.from) second ∙ h.lower)
      in (
        ap (λ (k : KnownInt). k.from) first,
        subst (λ (k : KnownInt). IsComputed a k.value l.value c) (sym second) (subst (λ (k : KnownInt). IsComputed a h.y k.value c) (sym first) h.computed),
      )

  pub none_computed : o ≡ None → IsGiven (IsComputedBy ints a p) None
  none_computed none x = ((λ e. absurd (none≢some x e)), (λ h. absurd (none≢some x.value (sym none ∙ (exact x.value).1 (computed_by x.from x.value h).1))))

  pub some_computed : (v w : ℤ) → o ≡ Some v → w ≡ v → IsGiven (IsComputedBy ints a p) (Some (record { from = l.from; value = w }))
  some_computed v w some same x = (is, only)
    where
      made : KnownInt
      made = record { from = l.from; value = w }

      is : Some made ≡ Some x → IsComputedBy ints a p x.from x.value
      is e =
          let at : made ≡ x = some_same made x e in
          subst (λ (k : KnownInt). IsComputedBy ints a p k.from k.value) at
          (record { second = u.from; x = l.value; y = u.value; upper = upper; lower = lower; computed = subst (IsComputed a u.value l.value) (sym same) ((exact v).0 some) })

      only : IsComputedBy ints a p x.from x.value → Some made ≡ Some x
      only h =
          let c = computed_by x.from x.value h in
          let value : v ≡ x.value = some_same v x.value (sym some ∙ (exact x.value).1 c.1) in
          ap (λ (f : ℕ). Some (record { from = f; value = w })) c.0 ∙ ap (λ (z : ℤ). Some (record { from = x.from; value = z })) (same ∙ value)
