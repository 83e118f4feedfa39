-- The main class's name is that of a class file, and so it isn't long.
use Rattle.std.proofs.Common.{◌≡◌, ℕ, ◌<◌, ◌^◌, Bool, true, false, List, [], ◌∷◌, ◌++◌, length, Option, Some, refl, sym, subst, cond}
use Rattle.std.specs.Prelude.{if◌then◌else◌}
use Rattle.std.specs.Option.{option_map_or}
use Rattle.std.specs.List.{flat_map, AllByRecursion}
use Rattle.std.specs.Cmp.Lexicographic as texts
use Rattle.program_resolution.proofs.RefusalLemmas.{are_classes}
use Rattle.program_laws.proofs.Selections.{right_nil}
use Rattle.class_pool.specs.Utf8.{utf8_bytes}
use Rattle.class_pool.specs.declared.class.ClassFile.{ClassFile}
use Rattle.class_rules.specs.Grammar.{IsClass}
use Rattle.class_lookup.specs.Parts.{same_text, name_of}
use Rattle.program_resolution.specs.declared.refusal.ProgramRefusal.TheVariants as resolving
use Rattle.program_resolution.specs.Linked.{linked_classes, main_class, declares_main}
use Rattle.program_resolution.specs.Refusals.{passes, causes_in, too_many, without_main, refusals}
use Rattle.program_resolution.specs.Resolving.{IsProgramOf}
use Rattle.program_resolution.proofs.NameLemmas.{is_called}

has_main : (b : Bool) → (if b then [] else resolving.NoMain ∷ []) ≡ [] → b ≡ true
has_main true h = refl
has_main false h = absurd (let f : (resolving.NoMain ∷ []) ≡ [] = h in cc)

abbrev IsShort : List ℕ → Type 0
IsShort main = length main < 2 ^ 16

abbrev spells : List ℕ → ClassFile → Bool
spells main k = same_text (utf8_bytes (name_of k)) main

-- a class file that the bytes name
named_short : (main : List ℕ) (k : ClassFile) → IsClass k → spells main k ≡ true → IsShort main
named_short main k is h = subst IsShort (texts.same_text (utf8_bytes (name_of k)) main (sym h)) (is_called k is).1.1

first_short : (main : List ℕ) (k : ClassFile) (b : Bool) (later : Option ClassFile) → IsClass k → spells main k ≡ b → option_map_or declares_main (cond b (Some k) later) false ≡ true
    → (option_map_or declares_main later false ≡ true → IsShort main) → IsShort main
first_short main k true later is e h f = named_short main k is e
first_short main k false later is e h f = f h

among_short : (ks : List ClassFile) (main : List ℕ) → AllByRecursion IsClass ks → option_map_or declares_main (main_class ks main) false ≡ true → IsShort main
among_short [] main all h = absurd (let e : false ≡ true = h in cc)
among_short (k ∷ ks) main all h = first_short main k (spells main k) (main_class ks main) all.0 refl h (among_short ks main all.1)

without_none : (ks : List ClassFile) (main : List ℕ) → refusals ks main ≡ [] → without_main ks main ≡ []
unfolding refusals
without_none ks main h =
    right_nil (too_many ks) (without_main ks main) (right_nil (flat_map (λ pass. causes_in (linked_classes ks main) pass ks) passes) (too_many ks ++ without_main ks main) h)

pub main_is_short : (files : List (List ℕ)) (main : List ℕ) (cs : List ClassFile) → IsProgramOf files main cs → length main < 2 ^ 16
main_is_short files main cs h =
    among_short h.classes main (are_classes files h.classes h.read) (has_main (option_map_or declares_main (main_class h.classes main) false) (without_none h.classes main h.none))
