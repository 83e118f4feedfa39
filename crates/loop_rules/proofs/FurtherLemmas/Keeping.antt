-- What lines push where less is known of fields they push where more is known.
use Rattle.std.proofs.Common.{◌≡◌, ℕ, ℤ, Option, Some, None, refl, ◌∙◌}
use Rattle.bytecode_model.specs.Program.{Program}
use Rattle.loop_rules.specs.Further.Known.{Known, Pushes, PushesArray, Stores, StoresArray}
use Rattle.loop_rules.specs.Further.Known.Pushes.{constant, field, local, length, computed}
use Rattle.loop_rules.specs.Further.Known.PushesArray.{numbers, references, of_static, of_instance, of_local, element}
use Rattle.loop_rules.specs.Further.Known.Stores.{stores}
use Rattle.loop_rules.specs.Further.Known.StoresArray.{keeps}
use Rattle.loop_rules.specs.Further.Found.{only_constants}
use Rattle.loop_rules.specs.Further.Fields.{PutsArray}
use Rattle.loop_rules.specs.Further.Arrays.{GivesArray, PutsKeepArrays}

none : (o : Option ℕ) (n : ℕ) → o ≡ None → ¬ (o ≡ Some n)
none o n e f = cc

module _ (P : Program) (constants : (field : ℕ) → Option ℤ) (known : Known) (same : (f : ℕ) → known.constants f ≡ constants f) (m : ℕ) where
  abbrev less : Known
  less = only_constants constants

  mutual
    pushes : {from to : ℕ} {c : ℤ} → Pushes P less m from to c → Pushes P known m from to c
    pushes (constant line) = constant line
    pushes (field {f} line is never) = field line (same f ∙ is) never
    pushes (local line writes) = local line (λ w last. stored (writes w last))
    pushes (length array line unnamed) = length (array_of array) line unnamed
    pushes (computed lower upper line second_unnamed unnamed is) = computed (pushes lower) (pushes upper) line second_unnamed unnamed is

    array_of : {from to n : ℕ} → PushesArray P less m from to n → PushesArray P known m from to n
    array_of (numbers length' line unnamed) = numbers (pushes length') line unnamed
    array_of (references length' line unnamed) = references (pushes length') line unnamed
    array_of (of_static {f} {n} line is) = absurd (none (less.statics f) n refl is)
    array_of (of_instance {owner} {index} {n} load line unnamed is) = absurd (none (less.fields owner index) n refl is)
    array_of (of_local line writes) = of_local line (λ w last. array_stored (writes w last))
    array_of (element array copies at of line copy_unnamed index_unnamed value_unnamed unnamed) =
        element (array_of array) copies at of line copy_unnamed index_unnamed value_unnamed unnamed

    stored : {k : ℕ} {w : Option ℕ} {c : ℤ} → Stores P less m k w c → Stores P known m k w c
    stored (stores pushed line unnamed) = stores (pushes pushed) line unnamed

    array_stored : {k n : ℕ} {w : Option ℕ} → StoresArray P less m k w n → StoresArray P known m k w n
    array_stored (keeps pushed line unnamed) = keeps (array_of pushed) line unnamed

puts_array : (P : Program) (constants : (field : ℕ) → Option ℤ) (known : Known) → ((f : ℕ) → known.constants f ≡ constants f) → (m p n : ℕ)
    → GivesArray P (only_constants constants) m p n → PutsArray P known m p n
puts_array P constants known same m p n gives = (gives.1, array_of P constants known same m gives.2, gives.0.unnamed)

pub puts_keep_arrays : PutsKeepArrays
puts_keep_arrays P constants known is = record {
  statics = λ f n m p next known_is line.
      puts_array P constants known is.constants_are m p n (((is.statics_are f n).0 known_is).puts.each m p (next, line));
  references = λ owner index n known_is. ((is.fields_are owner index n).0 known_is).reference;
  fields = λ named owner other index class n m p next known_is line of_owner of_other.
      puts_array P constants known is.constants_are m p n
      (((is.fields_are owner index n).0 known_is).puts.each m p
      (record { next = next; named = named; other = other; class = class; line = line; of_owner = of_owner; of_other = of_other }));
}
