-- A program that passes no limit is within the limits.
use Rattle.std.proofs.Common.{◌≡◌, ℕ, ◌≤◌, Bool, true, false, List, [], ◌∷◌, length, Option, Some, None, refl, sym}
use Rattle.std.specs.Prelude.{nat_le, if◌then◌else◌}
use Rattle.std.proofs.lemmas.Bool.{leb-true}
use Rattle.lists.specs.Lists.{first_some}
use Rattle.lists.proofs.Lemmas.{none≢some}
use Rattle.class_pool.specs.declared.class.ClassFile.{ClassFile}
use Rattle.program_tables.specs.Numbers.{types_of}
use Rattle.image_words.specs.Slots.{interface_methods}
use Rattle.image_words.specs.Regions.{image_words_of}
use Rattle.image_words.specs.Limits.{coded_methods, most_types, most_interface_methods, most_methods, most_words, IsWithinLimits}
use Rattle.image_builder.specs.Passed.{CountPastLimit, passed}
use Rattle.image_builder.specs.declared.fault.Counted.{Counted}
use Rattle.image_builder.specs.declared.fault.Counted.TheVariants.{Types, InterfaceMethods, Methods, Words}
use Rattle.image_layout.specs.Layout.{first_passed}

first_none : {A : Type 0} (o : Option A) (os : List (Option A)) → first_some (o ∷ os) ≡ None → (o ≡ None) × (first_some os ≡ None)
first_none None os h = (refl, h)
first_none (Some x) os h = absurd (none≢some x (sym h))

chosen : (what : Counted) (count limit : ℕ) (b : Bool) → nat_le count limit ≡ b → ◌≡◌ {A = Option CountPastLimit} (if b then None else Some (what, count, limit)) None → count ≤ limit
chosen what count limit true e h = leb-true count limit e
chosen what count limit false e h = absurd (none≢some (what, count, limit) (sym h))

within : (what : Counted) (count limit : ℕ) → passed what count limit ≡ None → count ≤ limit
within what count limit h = chosen what count limit (nat_le count limit) refl h

pub within_limits : (cs : List ClassFile) → first_passed cs ≡ None → IsWithinLimits cs
within_limits cs h =
    let words = passed Words (length (image_words_of cs)) most_words in
    let methods = passed Methods (coded_methods cs) most_methods in
    let interfaces = passed InterfaceMethods (length (interface_methods cs)) most_interface_methods in
    let a = first_none (passed Types (length (types_of cs)) most_types) (interfaces ∷ methods ∷ words ∷ []) h in
    let b = first_none interfaces (methods ∷ words ∷ []) a.1 in
    let c = first_none methods (words ∷ []) b.1 in
    let d = first_none words [] c.1 in
    record {
      types = within Types (length (types_of cs)) most_types a.0;
      interface_methods = within InterfaceMethods (length (interface_methods cs)) most_interface_methods b.0;
      methods = within Methods (coded_methods cs) most_methods c.0;
      words = within Words (length (image_words_of cs)) most_words d.0;
    }
