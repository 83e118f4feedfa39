-- Methods that may run while a method with code does have code.
use Rattle.std.proofs.Common.{◌≡◌, ℕ, Bool, true, false, List, [], ◌∷◌, Contains, Option, Some, None, refl, sym, ap, ◌∙◌, subst, inl, inr, IsSomeAnd, IsSome}
use Rattle.std.specs.Prelude.{IfSome, slice_get, ◌&&◌, if◌then◌else◌}
use Rattle.std.specs.Option.{option_map_or}
use Rattle.std.specs.List.{filter_map, cons_option}
use Rattle.lists.proofs.Lemmas.{onto_some, some_is, holds_at}
use Rattle.lists.specs.Members.{cons_cases, nil_contains}
use Rattle.lists.specs.Tests.{and_left, and_right}
use Rattle.opcodes.specs.Start.{IsStart}
use Rattle.bytecode_model.specs.Lists.{onto}
use Rattle.bytecode_model.specs.Program.{Program, Method, Body, body_of}
use Rattle.bytecode_model.specs.Rows as rows
use Rattle.bytecode_model.specs.Rows.{Row}
use Rattle.bytecode_model.specs.Steps.{row_in}
use Rattle.bytecode_typing.specs.Tests.{Holds}
use Rattle.bytecode_typing.specs.Lawful.{Lawful, IsThere, IsResolvedRow, IsStaticCall, IsSpecialCall, IsVirtualCall, IsInterfaceCall, IsSelected}
use Rattle.method_flow.specs.Calls.{classes_of, selected_in, selected_for, targets_of_row, IsTarget, IsStartOf}
use Rattle.method_flow.specs.Regions.{IsWithin}
use Rattle.method_flow.specs.Regions.IsWithin.{itself, calls}
use Rattle.bound_rules.specs.Laws.{MethodsHaveCode}

holds_of : (b : Bool) → b ≡ true → Holds b
holds_of true e = tt
holds_of false e = absurd (cc)

-- what is left of a list comes of one of its items
comes_of : {X Y : Type 0} (f : X → Option Y) (xs : List X) (y : Y) → Contains (filter_map f xs) y → (x : X) × (f x ≡ Some y)
comes_of f [] y has = absurd (nil_contains y has)
comes_of {X} {Y} f (x ∷ xs) y has = by (f x) refl (λ more. comes_of f xs y more) has
  where
    by : (o : Option Y) → f x ≡ o → (Contains (filter_map f xs) y → (z : X) × (f z ≡ Some y)) → Contains (cons_option o (filter_map f xs)) y → (z : X) × (f z ≡ Some y)
    by None is further has' = further has'
    by (Some z) is further has' = elim (cons_cases z y (filter_map f xs) has') [ inl same ↦ (x, is ∙ ap (λ (w : Y). Some w) same) | inr more ↦ further more ]

module _ (P : Program) (lawful : Lawful P) where
  coded_at : (t : ℕ) (k : Method) → slice_get P.methods t ≡ Some k → IsThere k.body → IsSome (body_of P t)
  coded_at t k at there =
      let b = some_is k.body (λ x. Unit {0}) there in
      let is : body_of P t ≡ Some b.0 = ap (λ (o : Option Method). onto o (λ j. j.body)) at ∙ b.1 in
      subst (λ (o : Option Body). IsSome o) (sym is) refl

  -- a method that is fixed by an instruction
  fixed : (c t : ℕ) → Contains (c ∷ []) t → IsSome (body_of P c) → IsSome (body_of P t)
  fixed c t has coded = elim (cons_cases c t [] has) [ inl same ↦ subst (λ (x : ℕ). IsSome (body_of P x)) same coded | inr none ↦ absurd (nil_contains t none) ]

  selected_coded : (c t class : ℕ) (k : Method) → slice_get P.methods c ≡ Some k → k.has_this ≡ true → k.is_init ≡ false → selected_in P c k.owner class ≡ Some t → IsSome (body_of P t)
  selected_coded c t class k at instance other is = by (P.is_concrete class && P.extends class k.owner) refl is
    where
      by : (b : Bool) → (P.is_concrete class && P.extends class k.owner) ≡ b → ◌≡◌ {A = Option ℕ} (if b then P.select class c else None) (Some t) → IsSome (body_of P t)
      by false test is' = absurd (cc)
      by true test is' =
          let concrete = and_left (P.is_concrete class) (P.extends class k.owner) test in
          let below = holds_of (P.extends class k.owner) (and_right (P.is_concrete class) (P.extends class k.owner) test) in
          let selects = lawful.selects class c k at instance other concrete below in
          let found = holds_at (P.select class c) t (λ x. IsSomeAnd (slice_get P.methods x) (IsSelected P class k)) is' selects in
          let j = some_is (slice_get P.methods t) (IsSelected P class k) found in
          coded_at t j.0 j.1 j.2.code

  -- one that is selected for an instance method
  selected : (c t : ℕ) (k : Method) → slice_get P.methods c ≡ Some k → k.has_this ≡ true → k.is_init ≡ false → Contains (selected_for P c) t → IsSome (body_of P t)
  selected c t k at instance other has =
      let has' : Contains (filter_map (selected_in P c k.owner) (classes_of P)) t = subst (λ (o : Option Method). Contains (option_map_or (λ j. filter_map (selected_in P c j.owner) (classes_of P)) o []) t) at has in
      let r = comes_of (selected_in P c k.owner) (classes_of P) t has' in
      selected_coded c t r.0 k at instance other r.1

  target_coded : (m : Method) (r : Row) (t : ℕ) → IsResolvedRow P m r → Contains (targets_of_row P r) t → IsSome (body_of P t)
  target_coded m (rows.CallStatic c) t resolved has = let k = some_is (slice_get P.methods c) IsStaticCall resolved in fixed c t has (coded_at c k.0 k.1 k.2.code)
  target_coded m (rows.CallSpecial named c) t resolved has = let k = some_is (slice_get P.methods c) (IsSpecialCall P m named) resolved in fixed c t has (coded_at c k.0 k.1 k.2.code)
  target_coded m (rows.CallVirtual named c) t resolved has = let k = some_is (slice_get P.methods c) (IsVirtualCall P named) resolved in selected c t k.0 k.1 k.2.instance k.2.other has
  target_coded m (rows.CallInterface named c) t resolved has = let k = some_is (slice_get P.methods c) IsInterfaceCall resolved in selected c t k.0 k.1 k.2.instance k.2.other has
  target_coded m r t resolved has = absurd (nil_contains t has)

  called_coded : (m p t : ℕ) → IsSome (body_of P m) → IsStartOf P m p → IsTarget P m p t → IsSome (body_of P t)
  called_coded m p t coded start has =
      let b = body_at (body_of P m) refl coded in
      let k = onto_some (slice_get P.methods m) (λ j. j.body) b.0 b.1 in
      let start' = holds_at (body_of P m) b.0 (λ c. IsStart c.code p) b.1 start in
      by k.0 (row_in P m p) (lawful.rows m k.0 b.0 k.1 k.2 p start') has
    where
      body_at : (o : Option Body) → body_of P m ≡ o → IsSome o → (b : Body) × (body_of P m ≡ Some b)
      body_at None is some = absurd (let bad : false ≡ true = some in cc)
      body_at (Some b) is some = (b, is)

      by : (k : Method) (o : Option (ℕ × Row)) → IfSome o (λ x. IsResolvedRow P k x.1) → Contains (option_map_or (λ x. targets_of_row P x.1) o []) t → IsSome (body_of P t)
      by k None resolved has' = absurd (nil_contains t has')
      by k (Some x) resolved has' = target_coded k x.1 t resolved has'

  within_coded : {m x : ℕ} → IsWithin P m x → IsSome (body_of P m) → IsSome (body_of P x)
  within_coded itself coded = coded
  within_coded (calls {m} {t} {x} p start call target more) coded = within_coded more (called_coded m p t coded start target)

pub methods_have_code : MethodsHaveCode
methods_have_code P lawful m x coded within = within_coded P lawful within coded
