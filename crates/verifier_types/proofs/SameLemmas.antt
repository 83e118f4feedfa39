-- Lists of types are told by the numbers of these.
use Rattle.std.proofs.Common.{◌≡◌, ℕ, ◌<◌, Bool, true, false, List, length, Option, Some, None, refl, sym, ap, ◌∙◌, arith}
use Rattle.std.specs.Prelude.{slice_get, IsTrue, is_none, ◌↔◌}
use Rattle.std.specs.Option.{option_map}
use Rattle.std.specs.List.{IsDistinct}
use Rattle.std.specs.Bool.{Decides}
use Rattle.lists.proofs.Lemmas.{none≢some, some_same}
use Rattle.persistent_lists.specs.Tables as tables
use Rattle.persistent_lists.specs.Tables.{ListTable}
use Rattle.verifier_types.specs.declared.types.VarType.{VarType}
use Rattle.verifier_types.specs.Seen.{type_seen}
use Rattle.verifier_types.specs.Locals.{types_at}
use Rattle.verifier_types.specs.Numbered.{type_numbered, lists_numbered, AreNumbered}
use Rattle.verifier_types.proofs.NumberLemmas.{item_seen, types_numbered, seen_of}
use Rattle.verifier_types.proofs.SeenLemmas.{seen_as}
use Rattle.verifier_types.proofs.ComparedLemmas.{alike_lists}
use Rattle.verifier_types.proofs.PositionLemmas.{only_number, list_fits, item_fits}

module _ (eq : VarType → VarType → Bool) (decides : (x y : VarType) → Decides (eq x y) (x ≡ y)) (types : List VarType) (t : ListTable) (a b : ℕ) (are : AreNumbered types t) (apart : IsDistinct eq types) where
  -- numbers of one type
  one_number : (n m : ℕ) → n < length types → m < length types → type_seen (type_numbered types n) ≡ type_seen (type_numbered types m) → n ≡ m
  one_number n m lt less e =
      let only = only_number eq decides types (type_numbered types n) apart in
      some_same n m (sym (only n lt refl) ∙ only m less (sym (seen_as (type_numbered types n) (type_numbered types m) e)))

  alike_at : (i : ℕ) (o p : Option ℕ) → slice_get (tables.list_at t a) i ≡ o → slice_get (tables.list_at t b) i ≡ p
      → option_map (λ n. type_seen (type_numbered types n)) o ≡ option_map (λ n. type_seen (type_numbered types n)) p → o ≡ p
  alike_at i None None f g e = refl
  alike_at i None (Some m) f g e = absurd (none≢some (type_seen (type_numbered types m)) e)
  alike_at i (Some n) None f g e = absurd (none≢some (type_seen (type_numbered types n)) (sym e))
  alike_at i (Some n) (Some m) f g e =
      ap Some
      (one_number n m (item_fits types (tables.list_at t a) i n (list_fits types t.lists a are.3) f) (item_fits types (tables.list_at t b) i m (list_fits types t.lists b are.3) g)
      (some_same (type_seen (type_numbered types n)) (type_seen (type_numbered types m)) e))

  same_numbers : (i : ℕ) → types_at (lists_numbered types t.lists) a ≡ types_at (lists_numbered types t.lists) b → slice_get (tables.list_at t a) i ≡ slice_get (tables.list_at t b) i
  same_numbers i e = alike_at i (slice_get (tables.list_at t a) i) (slice_get (tables.list_at t b) i) refl refl (sym (item_seen types t a i) ∙ (ap (λ l. slice_get l i) e ∙ item_seen types t b i))

  -- whether two lists are the same
  pub same_seen : (o : Option ℕ) (r : Bool) → r ≡ is_none o → tables.IsDifference (tables.list_at t a) (tables.list_at t b) 0 o
      → IsTrue r ↔ (types_at (lists_numbered types t.lists) a ≡ types_at (lists_numbered types t.lists) b)
  same_seen None r e d =
      let same : tables.list_at t a ≡ tables.list_at t b = alike_lists (tables.list_at t a) (tables.list_at t b) (λ i. d i (omega arith)) in
      ((λ h. types_numbered types t a ∙ (ap (seen_of types) same ∙ sym (types_numbered types t b))), (λ h. e))
  same_seen (Some k) r e d = ((λ h. absurd (let f : true ≡ false = sym h ∙ e in cc)), (λ h. absurd (d.1 (same_numbers k h))))
