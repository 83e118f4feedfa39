-- Local variables of two frames side by side.
use Rattle.std.proofs.Common.{◌≡◌, ℕ, zero, suc, ◌<◌, ◌≤◌, Bool, true, false, ◌&&◌, List, [], ◌∷◌, length, Option, Some, None, refl, sym, ap, ap₂, ◌∙◌, inl, inr}
use Rattle.std.specs.Prelude.{slice_get, IfSome}
use Rattle.std.specs.Option.{option_map}
use Rattle.std.proofs.lemmas.Bool.{cases_lt}
use Rattle.lists.proofs.Lemmas.{none≢some, some_same}
use Rattle.persistent_lists.specs.Tables as tables
use Rattle.persistent_lists.specs.Tables.{ListTable}
use Rattle.persistent_lists.specs.Answers.{difference, ArePassed}
use Rattle.persistent_lists.specs.declared.trees.Difference.{Difference}
use Rattle.class_pool.specs.declared.class.ClassFile.{ClassFile}
use Rattle.program_tables.specs.Resolved.{resolved}
use Rattle.bytecode_model.specs.Program.{Program}
use Rattle.bytecode_typing.specs.Tests.{all_two}
use Rattle.bytecode_typing.specs.Types as typing
use Rattle.bytecode_typing.specs.Assignable.{is_assignable}
use Rattle.verifier_types.specs.declared.types.VarType.{VarType}
use Rattle.verifier_types.specs.Seen.{type_seen}
use Rattle.verifier_types.specs.Locals.{types_at}
use Rattle.verifier_types.specs.Numbered.{type_numbered, lists_numbered, AreNumbered}
use Rattle.verifier_types.specs.Compared.{stands, is_assignable_at, AreAssignable}
use Rattle.verifier_types.proofs.NumberLemmas.{item_seen, type_there}
use Rattle.verifier_types.proofs.PositionLemmas.{list_fits, item_fits}
use Rattle.verifier_types.proofs.SelfLemmas.{stand_self}

-- lists that are alike at each index
pub alike_lists : {A : Type 0} (xs ys : List A) → ((i : ℕ) → slice_get xs i ≡ slice_get ys i) → xs ≡ ys
alike_lists [] [] h = refl
alike_lists [] (y ∷ ys) h = absurd (none≢some y (h 0))
alike_lists (x ∷ xs) [] h = absurd (none≢some x (sym (h 0)))
alike_lists (x ∷ xs) (y ∷ ys) h = ap₂ (λ a b. a ∷ b) (some_same x y (h 0)) (alike_lists xs ys (λ i. h (suc i)))

pub all_stand : (P : Program) (ts us : List typing.VarType) → ((k : ℕ) → true ≡ stands P (slice_get ts k) (slice_get us k)) → true ≡ all_two (is_assignable P) ts us
all_stand P [] [] h = refl
all_stand P [] (u ∷ us) h = absurd (let e : true ≡ false = h 0 in cc)
all_stand P (t ∷ ts) [] h = absurd (let e : true ≡ false = h 0 in cc)
all_stand P (t ∷ ts) (u ∷ us) h = ap₂ (λ a b. a && b) (h 0) (all_stand P ts us (λ k. h (suc k)))

and_false : (b : Bool) → false ≡ (b && false)
and_false true = refl
and_false false = refl

pub not_all : (P : Program) (ts us : List typing.VarType) (k : ℕ) → false ≡ stands P (slice_get ts k) (slice_get us k) → false ≡ all_two (is_assignable P) ts us
not_all P [] [] k h = absurd (let e : false ≡ true = h in cc)
not_all P [] (u ∷ us) k h = refl
not_all P (t ∷ ts) [] k h = refl
not_all P (t ∷ ts) (u ∷ us) zero h = ap (λ b. b && all_two (is_assignable P) ts us) h
not_all P (t ∷ ts) (u ∷ us) (suc k) h = and_false (is_assignable P t u) ∙ ap (λ b. is_assignable P t u && b) (not_all P ts us k h)

-- all below a number of them stand, and none is there from it on
pub stand_below : (P : Program) (ts us : List typing.VarType) (n : ℕ) → ((k : ℕ) → k < n → true ≡ stands P (slice_get ts k) (slice_get us k)) → ((k : ℕ) → n ≤ k → slice_get ts k ≡ None)
    → ((k : ℕ) → n ≤ k → slice_get us k ≡ None) → true ≡ all_two (is_assignable P) ts us
stand_below P ts us n h f g = all_stand P ts us (λ k. elim (cases_lt k n) [
  | inl lt ↦ h k lt
  | inr le ↦ ap₂ (λ t u. stands P t u) (sym (f k le)) (sym (g k le))
])

-- ---- where lists of numbers differ

module _ (cs : List ClassFile) (some : 0 < length cs) (answers : Difference → Bool → Type 0) (types : List VarType) (t : ListTable) (a b : ℕ) (are : AreNumbered types t)
    (call : (d : Difference) (r : Bool) → answers d r → AreAssignable (resolved cs) types d r) where
  at : (n i x : ℕ) → slice_get (tables.list_at t n) i ≡ Some x → slice_get (types_at (lists_numbered types t.lists) n) i ≡ Some (type_seen (type_numbered types x))
  at n i x e = item_seen types t n i ∙ ap (option_map (λ m. type_seen (type_numbered types m))) e

  typed : (n i x : ℕ) → slice_get (tables.list_at t n) i ≡ Some x → slice_get types x ≡ Some (type_numbered types x)
  typed n i x e = type_there types x (item_fits types (tables.list_at t n) i x (list_fits types t.lists n are.3) e)

  there : (r : Bool) (i x y : ℕ) → slice_get (tables.list_at t a) i ≡ Some x → slice_get (tables.list_at t b) i ≡ Some y → answers (difference x y) r
      → r ≡ stands (resolved cs) (slice_get (types_at (lists_numbered types t.lists) a) i) (slice_get (types_at (lists_numbered types t.lists) b) i)
  there r i x y e f h =
      call (difference x y) r h
      ∙ (ap₂ (λ t u. is_assignable_at (resolved cs) t u) (typed a i x e) (typed b i y f) ∙ ap₂ (λ t u. stands (resolved cs) t u) (sym (at a i x e)) (sym (at b i y f)))

  alike : (i : ℕ) → slice_get (tables.list_at t a) i ≡ slice_get (tables.list_at t b) i → true ≡ stands (resolved cs) (slice_get (types_at (lists_numbered types t.lists) a) i) (slice_get (types_at (lists_numbered types t.lists) b) i)
  alike i e =
      let same : slice_get (types_at (lists_numbered types t.lists) a) i ≡ slice_get (types_at (lists_numbered types t.lists) b) i =
      item_seen types t a i ∙ (ap (option_map (λ m. type_seen (type_numbered types m))) e ∙ sym (item_seen types t b i)) in
      stand_self cs some (slice_get (types_at (lists_numbered types t.lists) a) i) ∙ ap (stands (resolved cs) (slice_get (types_at (lists_numbered types t.lists) a) i)) same

  passed : (r : Bool) → ArePassed answers (tables.list_at t a) (tables.list_at t b) r → r ≡ all_two (is_assignable (resolved cs)) (types_at (lists_numbered types t.lists) a) (types_at (lists_numbered types t.lists) b)
  passed true h = all_stand (resolved cs) _ _ (λ k. elim (h.found k) [
    | inl e ↦ alike k e
    | inr w ↦ there true k w.0 w.1 w.2 w.3 w.4
  ])
  passed false h = let w = h.found in not_all (resolved cs) _ _ w.0 (there false w.0 w.1 w.2 w.3 w.4 w.5)

  pub all_passed : (o : Option Bool) → IfSome o (λ r. ArePassed answers (tables.list_at t a) (tables.list_at t b) r)
      → IfSome o (λ r. r ≡ all_two (is_assignable (resolved cs)) (types_at (lists_numbered types t.lists) a) (types_at (lists_numbered types t.lists) b))
  all_passed None h = tt
  all_passed (Some r) h = passed r h
