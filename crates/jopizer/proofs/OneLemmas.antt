-- The file of an image is that of one linked program; and what the limits of an image are.
use Rattle.std.proofs.Common.{◌≡◌, ℕ, ◌≤◌, Bool, true, false, List, [], ◌∷◌, length, Option, Some, None, refl, sym, ap, ap₂, ◌∙◌, subst, arith}
use Rattle.std.specs.Prelude.{nat_le, if◌then◌else◌}
use Rattle.image_file.specs.Linked.{LinkedContent, OneImage}
use Rattle.class_pool.specs.declared.class.ClassFile.{ClassFile}
use Rattle.class_rules.specs.Grammar.{IsClassOf}
use Rattle.image_builder.specs.Laid.{Laid}
use Rattle.image_builder.specs.Passed.{CountPastLimit, passed}
use Rattle.image_builder.specs.declared.fault.Counted.{Counted}
use Rattle.image_builder.specs.declared.fault.Counted.TheVariants.{Types, InterfaceMethods, Methods, Words}
use Rattle.image_words.specs.Limits.{IsWithinLimits, coded_methods, most_types, most_interface_methods, most_methods, most_words}
use Rattle.image_words.specs.Slots.{interface_methods}
use Rattle.image_words.specs.Regions.{image_words_of}
use Rattle.image_layout.specs.Layout.{IsLaidOut, first_passed}
use Rattle.program_tables.specs.Numbers.{types_of}
use Rattle.lists.specs.Lists.{first_some}
use Rattle.program_resolution.specs.Linked.{linked_classes}
use Rattle.program_resolution.specs.Resolving.{AreClassesOf, IsProgramOf}
use Rattle.jopizer.specs.Linked.{Parts, image_of}
use Rattle.jopizer.specs.Laws.{OneLinked}

abbrev pub OneClass : Type 0
OneClass = (bytes : List ℕ) (c d : ClassFile) → IsClassOf bytes c → IsClassOf bytes d → c ≡ d

pub same_classes : OneClass → (files : List (List ℕ)) (ks ls : List ClassFile) → AreClassesOf files ks → AreClassesOf files ls → ks ≡ ls
same_classes law [] [] [] g h = refl
same_classes law [] [] (l ∷ ls) g h = absurd h
same_classes law [] (k ∷ ks) ls g h = absurd g
same_classes law (f ∷ files) [] ls g h = absurd g
same_classes law (f ∷ files) (k ∷ ks) [] g h = absurd h
same_classes law (f ∷ files) (k ∷ ks) (l ∷ ls) g h = ap₂ (λ (x : ClassFile) (xs : List ClassFile). x ∷ xs) (law f k l g.0 h.0) (same_classes law files ks ls g.1 h.1)

pub same_program : OneClass → (files : List (List ℕ)) (main : List ℕ) (cs ds : List ClassFile) → IsProgramOf files main cs → IsProgramOf files main ds → cs ≡ ds
same_program law files main cs ds g h =
    g.program ∙ (ap (λ (ks : List ClassFile). linked_classes ks main) (same_classes law files g.classes h.classes g.read h.read) ∙ sym h.program)

module _ (a b : Laid) where
  same_laid : a.words ≡ b.words → a.methods ≡ b.methods → a.types ≡ b.types → a.pools ≡ b.pools → a.fields ≡ b.fields → a.strings ≡ b.strings → a ≡ b
  same_laid words methods types pools fields strings =
      ap (λ (x : List ℕ). let l : Laid = record { words = x; methods = a.methods; types = a.types; pools = a.pools; fields = a.fields; strings = a.strings } in l) words
      ∙ (ap (λ (x : List ℕ). let l : Laid = record { words = b.words; methods = x; types = a.types; pools = a.pools; fields = a.fields; strings = a.strings } in l) methods
      ∙ (ap (λ (x : List ℕ). let l : Laid = record { words = b.words; methods = b.methods; types = x; pools = a.pools; fields = a.fields; strings = a.strings } in l) types
      ∙ (ap (λ (x : List ℕ). let l : Laid = record { words = b.words; methods = b.methods; types = b.types; pools = x; fields = a.fields; strings = a.strings } in l) pools
      ∙ (ap (λ (x : List ℕ). let l : Laid = record { words = b.words; methods = b.methods; types = b.types; pools = b.pools; fields = x; strings = a.strings } in l) fields
      ∙ ap (λ (x : List ℕ). let l : Laid = record { words = b.words; methods = b.methods; types = b.types; pools = b.pools; fields = b.fields; strings = x } in l) strings))))

both_laid : (cs : List ClassFile) (a b : Laid) → IsLaidOut cs a → IsLaidOut cs b → a ≡ b
both_laid cs a b g h = same_laid a b (g.words ∙ sym h.words) (g.methods ∙ sym h.methods) (g.types ∙ sym h.types) (g.pools ∙ sym h.pools) (g.fields ∙ sym h.fields) (g.strings ∙ sym h.strings)

same_parts : (a b : Parts) → a.classes ≡ b.classes → a.laid ≡ b.laid → a.files ≡ b.files → a.main ≡ b.main → a ≡ b
same_parts a b classes laid files main =
    ap (λ (x : List ClassFile). let l : Parts = record { classes = x; laid = a.laid; files = a.files; main = a.main } in l) classes
    ∙ (ap (λ (x : Laid). let l : Parts = record { classes = b.classes; laid = x; files = a.files; main = a.main } in l) laid
    ∙ (ap (λ (x : List (List ℕ)). let l : Parts = record { classes = b.classes; laid = b.laid; files = x; main = a.main } in l) files
    ∙ ap (λ (x : List ℕ). let l : Parts = record { classes = b.classes; laid = b.laid; files = b.files; main = x } in l) main))

pub one_linked : OneClass → OneImage → OneLinked
one_linked law images bytes a b ga gb ia ib =
    let image : image_of a ≡ image_of b = images bytes (image_of a) (image_of b) ia ib in
    let files : a.files ≡ b.files = ap (λ (i : LinkedContent). i.files) image in
    let main : a.main ≡ b.main = ap (λ (i : LinkedContent). i.main) image in
    let moved : IsProgramOf b.files b.main a.classes = subst (λ (f : List (List ℕ)). IsProgramOf f b.main a.classes) files (subst (λ (m : List ℕ). IsProgramOf a.files m a.classes) main ga.linked.program) in
    let classes = same_program law b.files b.main a.classes b.classes moved gb.linked.program in
    same_parts a b classes (both_laid b.classes a.laid b.laid (subst (λ (cs : List ClassFile). IsLaidOut cs a.laid) classes ga.laid) gb.laid) files main

-- ---- limits

within_case : (what : Counted) (count limit : ℕ) (b : Bool) → nat_le count limit ≡ b → ◌≡◌ {A = Option CountPastLimit} (if b then None else Some (what, count, limit)) None → count ≤ limit
within_case what count limit true e h = grind arith
within_case what count limit false e h = absurd (let f : ◌≡◌ {A = Option CountPastLimit} (Some (what, count, limit)) None = h in cc)

within_one : (what : Counted) (count limit : ℕ) → passed what count limit ≡ None → count ≤ limit
within_one what count limit h = within_case what count limit (nat_le count limit) refl h

first_is_none : (o : Option CountPastLimit) (os : List (Option CountPastLimit)) → first_some (o ∷ os) ≡ None → (o ≡ None) × (first_some os ≡ None)
first_is_none None os h = (refl, h)
first_is_none (Some p) os h = absurd (let f : Some p ≡ None = h in cc)

pub is_within : (cs : List ClassFile) → first_passed cs ≡ None → IsWithinLimits cs
is_within cs h =
    let a = first_is_none (passed Types (length (types_of cs)) most_types) _ h in
    let b = first_is_none (passed InterfaceMethods (length (interface_methods cs)) most_interface_methods) _ a.1 in
    let c = first_is_none (passed Methods (coded_methods cs) most_methods) _ b.1 in
    let d = first_is_none (passed Words (length (image_words_of cs)) most_words) [] c.1 in
    record {
      types = within_one Types (length (types_of cs)) most_types a.0;
      interface_methods = within_one InterfaceMethods (length (interface_methods cs)) most_interface_methods b.0;
      methods = within_one Methods (coded_methods cs) most_methods c.0;
      words = within_one Words (length (image_words_of cs)) most_words d.0;
    }
