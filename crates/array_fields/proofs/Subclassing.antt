-- Classes that have a subclass in common.
use Rattle.std.proofs.Common.{◌≡◌, ◌↔◌, ℕ, zero, suc, ◌+◌, ◌<◌, ◌≤◌, Bool, true, false, eqb, ◌||◌, List, [], ◌∷◌, ◌++◌, length, inl, inr, Option, Some, None, refl, sym, ap, ◌∙◌, subst, arith}
use Rattle.std.specs.Prelude.{slice_get, nat_lt, if◌then◌else◌}
use Rattle.std.specs.Option.{option_map_or, option_to_list}
use Rattle.std.specs.List.{filter_map, flat_map}
use Rattle.std.proofs.lemmas.Bool.{false≢true, or_cases, or_left, or_right, eqb-true, cases_lt}
use Rattle.std.proofs.lemmas.Bool.Decides.{nat_tests}
use Rattle.std.proofs.lemmas.Option.{slice_get_past, slice_get_within}
use Rattle.std.proofs.Math.ListN.{get_or-eq_default}
use Rattle.lists.specs.Lists.{onto}
use Rattle.lists.specs.Numbers.{reached, is_among}
use Rattle.lists.proofs.Lemmas.{none≢some, some_same, onto_some, index_found}
use Rattle.class_pool.specs.declared.class.ClassFile.{ClassFile}
use Rattle.class_lookup.specs.Parts.{same_text, name_of, superclass_name, superinterface_names}
use Rattle.class_lookup.specs.Hierarchy.{find_class, superclass, superinterfaces, direct_supertypes, supertypes, extends}
use Rattle.class_lookup.specs.Laws.{HierarchyLaw, IsDirectlyAbove}
use Rattle.bytecode_model.specs.Program.{Program, object_class}
use Rattle.program_tables.specs.Resolved.{resolved}
use Rattle.program_tables.specs.Resolving.{IsResolved}
use Rattle.program_laws.proofs.Facts.{map_or_some}
use Rattle.program_laws.proofs.Hierarchies.{either, superinterface_is}
use Rattle.array_fields.specs.declared.rows.Field.{Field}
use Rattle.array_fields.specs.declared.rows.Field.TheVariants.{Static, Instance}
use Rattle.array_fields.specs.declared.puts.Put.{Put}
use Rattle.array_fields.specs.Contents.{flag_at}
use Rattle.array_fields.specs.First.{AreSharing, HasMarked}
use Rattle.array_fields.specs.Puts.{flagged_index, field_target}
use Rattle.array_fields.specs.Lengths.{MayPut}
use Rattle.array_fields.proofs.Starting.{core_count}

-- ---- which numbers are classes

module _ (law : HierarchyLaw) (cs : List ClassFile) (r : IsResolved cs) where
  superclass_within : (x y : ℕ) → superclass cs x ≡ Some y → y < length cs
  superclass_within x y h =
      let k = onto_some (slice_get cs x) (λ k. find_class cs (superclass_name k)) y h in
      let f = index_found (λ c. same_text (name_of c) (superclass_name k.0)) cs y k.2 in
      slice_get_within cs y f.0 f.1

  superinterface_within : (x y : ℕ) → is_among (superinterfaces cs x) y ≡ true → y < length cs
  superinterface_within x y h =
      let k = map_or_some _ (slice_get cs y) (superinterface_is cs r x y h) in
      slice_get_within cs y k.0 k.1

  above_within : (x y : ℕ) → IsDirectlyAbove cs x y → y < length cs
  above_within x y above =
      elim (((law cs r.acyclic).directly x y).0 above) [
        | inl among ↦ superinterface_within x y among
        | inr is ↦ superclass_within x y is
      ]

  -- what a class extends is a class
  extended_within : (c d : ℕ) → c < length cs → extends cs c d ≡ true → d < length cs
  extended_within c d lt h =
      elim ((law cs r.acyclic).least c d h) [
        | inl same ↦ subst (λ (k : ℕ). k < length cs) same lt
        | inr step ↦
            let test = (law cs r.acyclic).kept (λ x. nat_lt x (length cs)) (λ x y t above. let lt = above_within x y above in grind (arith, nat_tests)) c d (let t : nat_lt c (length cs) ≡ true = grind (arith, nat_tests) in t) h in
            grind (arith, nat_tests)
      ]

  -- what is no class is itself alone
  none_above : (c : ℕ) → length cs ≤ c → direct_supertypes cs c ≡ []
  none_above c past =
      ap (λ (o : Option ClassFile). option_map_or (λ k. filter_map (find_class cs) (superinterface_names k)) o [] ++ option_to_list (onto o (λ k. find_class cs (superclass_name k)))) (slice_get_past cs c past)

  alone : (c : ℕ) → length cs ≤ c → (n : ℕ) → (d : ℕ) → is_among (reached (direct_supertypes cs) n c) d ≡ true → c ≡ d
  alone c past zero d h = absurd (false≢true h)
  alone c past (suc n) d h =
      let at : is_among (c ∷ flat_map (reached (direct_supertypes cs) n) (direct_supertypes cs c)) d ≡ (eqb c d || false) = ap (λ (xs : List ℕ). is_among (c ∷ flat_map (reached (direct_supertypes cs) n) xs) d) (none_above c past) in
      elim (or_cases (eqb c d) false (sym at ∙ h)) [ inl same ↦ eqb-true c d same | inr bad ↦ absurd (false≢true bad) ]

  past_alone : (c d : ℕ) → length cs ≤ c → extends cs c d ≡ true → c ≡ d
  unfolding supertypes
  past_alone c d past h = alone c past (length cs) d h

  -- a class that has one below it that isn't Object, and one that has that above it
  class_within : (class owner : ℕ) → owner < length cs → ¬ (owner ≡ object_class) → (resolved cs).extends class owner ≡ true → class < length cs
  class_within class owner lt other h =
      elim (cases_lt class (length cs)) [
        | inl within ↦ within
        | inr past ↦
            elim (either cs class owner h) [
              | inl is ↦ absurd (other is)
              | inr is ↦ let same = past_alone class owner past is in absurd (omega arith)
            ]
      ]

  other_within : (class other : ℕ) → class < length cs → (resolved cs).extends class other ≡ true → other < length cs
  other_within class other lt h =
      elim (either cs class other h) [
        | inl is ↦ let many = core_count cs r in omega arith
        | inr is ↦ extended_within class other lt is
      ]

  -- ---- puts through classes that are flagged

  module _ (owner : ℕ) (inside : owner < length cs) (proper : ¬ (owner ≡ object_class)) (flags : List Bool) (sharing : AreSharing (resolved cs) (length cs) owner flags) where
    may_by : (index : ℕ) (f : Field) (x : Put) → x.field ≡ f → flagged_index flags f ≡ Some index → MayPut (resolved cs) owner index x
    may_by index (Static f) x is h = absurd (none≢some index h)
    may_by index (Instance other k) x is h = by (flag_at flags other) refl h
      where
        by : (b : Bool) → flag_at flags other ≡ b → (if b then Some k else None) ≡ Some index → MayPut (resolved cs) owner index x
        by true e h =
            let s = (sharing.1 other).0 e in
            record { other = other; class = s.1; field = is ∙ ap (λ (z : ℕ). Instance other z) (some_same k index h); of_owner = s.3; of_other = s.4 }
        by false e h = absurd (none≢some index h)

    pub may_put : (index : ℕ) (x : Put) → (field_target flags x ≡ Some index) ↔ MayPut (resolved cs) owner index x
    may_put index x = (
      λ h. may_by index x.field x refl h,
      λ m.
          let class = class_within m.class owner inside proper m.of_owner in
          let flag = (sharing.1 m.other).1 (other_within m.class m.other class m.of_other, m.class, class, m.of_owner, m.of_other) in
          ap (flagged_index flags) m.field ∙ ap (λ (b : Bool). if b then Some index else None) flag,
    )

-- ---- as the classes are gone through

-- of the classes below a number, those that have one of them in common with the class
abbrev pub AreSharingBelow : Program → (count lower class : ℕ) → (flags : List Bool) → Type 0
AreSharingBelow P n k owner flags =
    (length flags ≡ n) × ((other : ℕ) → (flag_at flags other ≡ true) ↔ ((other < n) × (class : ℕ) × (class < k) × (P.extends class owner ≡ true) × (P.extends class other ≡ true)))

module _ (P : Program) (n owner : ℕ) where
  past_unset : (flags : List Bool) (other : ℕ) → flag_at flags other ≡ true → other < length flags
  past_unset flags other h =
      elim (cases_lt other (length flags)) [
        | inl lt ↦ lt
        | inr ge ↦ absurd (false≢true (sym (get_or-eq_default flags false ge) ∙ h))
      ]

  pub sharing_more : (k : ℕ) (old new : List Bool) → P.extends k owner ≡ true → AreSharingBelow P n k owner old → HasMarked P k old new → AreSharingBelow P n (k + 1) owner new
  sharing_more k old new is h more = (
    more.0 ∙ h.0,
    λ other. (
      λ flag.
          let long = h.0 in
          let same = more.0 in
          let lt = past_unset new other flag in
          let within : other < n = omega arith in
          elim (or_cases (flag_at old other) (P.extends k other) (sym (more.1 other (omega arith)) ∙ flag)) [
            | inl before ↦ let s = (h.1 other).0 before in let less = s.2 in (within, s.1, omega arith, s.3, s.4)
            | inr now ↦ (within, k, omega arith, is, now)
          ],
      λ s.
          let long = h.0 in
          let within = s.0 in
          let less = s.2 in
          more.1 other (omega arith)
          ∙ elim (cases_lt s.1 k) [
            | inl lower ↦ or_left (flag_at old other) (P.extends k other) ((h.1 other).1 (s.0, s.1, lower, s.3, s.4))
            | inr ge ↦
                let at : s.1 ≡ k = omega arith in
                or_right (flag_at old other) (P.extends k other) (ap (λ (c : ℕ). P.extends c other) (sym at) ∙ s.4)
          ],
    ),
  )

  pub sharing_same : (k : ℕ) (flags : List Bool) → P.extends k owner ≡ false → AreSharingBelow P n k owner flags → AreSharingBelow P n (k + 1) owner flags
  sharing_same k flags not h = (
    h.0,
    λ other. (
      λ flag. let s = (h.1 other).0 flag in let less = s.2 in (s.0, s.1, omega arith, s.3, s.4),
      λ s.
          let less = s.2 in
          elim (cases_lt s.1 k) [
            | inl lower ↦ (h.1 other).1 (s.0, s.1, lower, s.3, s.4)
            | inr ge ↦
                let at : s.1 ≡ k = omega arith in
                absurd (false≢true (sym not ∙ ap (λ (c : ℕ). P.extends c owner) (sym at) ∙ s.3))
          ],
    ),
  )

-- ---- as the flags of what a class extends are set

-- the flags below a number are those after the class, the others those before
abbrev pub HasMarkedBelow : Program → (class count : ℕ) → (old new : List Bool) → Type 0
HasMarkedBelow P c k old new =
    (length new ≡ length old)
    × ((other : ℕ) → other < k → other < length old → flag_at new other ≡ (flag_at old other || P.extends c other))
    × ((other : ℕ) → k ≤ other → flag_at new other ≡ flag_at old other)
