-- Texts by their place in a list of texts.
use Rattle.std.specs.Prelude.{◌≡◌, ℕ, zero, suc, ◌&&◌, ◌==◌, List, [], Option, Some, Vec, option_map, slice_get, slice_index_or, unwrap_or}
use Rattle.std.specs.List.{AllZip}
use Rattle.std.specs.Map.{lookup}
use Rattle.std.specs.Ordering.{nat_cmp}
use Rattle.std.specs.Cmp.Lexicographic.{slice_cmp}
use Rattle.std.specs.BTreeMap.{BTreeMap, get_by}
use Rattle.std.specs.declared.alloc.Global.{Global}
use Rattle.class_pool.specs.declared.entry.Entry.{Entry}
use Rattle.class_pool.specs.declared.class.Member.{Member}
use Rattle.class_pool.specs.declared.class.ClassFile.{ClassFile}
use Rattle.class_pool.specs.Grammar.{utf8_of}
use Rattle.lists.specs.Lists.{onto, index_of}
use Rattle.class_lookup.specs.Parts.{Signature, signature_of, same_signature, same_text}
use Rattle.class_lookup.specs.Lookup.{Place}

-- the place of a text among them
abbrev pub number_in : (texts : List (List ℕ)) → (text : List ℕ) → Option ℕ
number_in texts text = index_of (same_text text) texts

-- each has the number of its place
abbrev pub AreNumbered : (texts : List (List ℕ)) → Type 0
AreNumbered texts = (n : ℕ) (text : List ℕ) → slice_get texts n ≡ Some text → number_in texts text ≡ Some n

-- the number that a map has for a text
abbrev pub number_of : (numbers : BTreeMap (Vec ℕ Global) ℕ) → (text : List ℕ) → Option ℕ
number_of numbers text = get_by (λ k. slice_cmp nat_cmp text k.items) numbers

-- the map has for each text its place among them, and nothing for a text that isn't there
abbrev pub HasNumbers : (texts : List (List ℕ)) → (numbers : BTreeMap (Vec ℕ Global) ℕ) → Type 0
HasNumbers texts numbers = (text : List ℕ) → number_of numbers text ≡ number_in texts text

-- the text that an entry is, or the empty one
abbrev pub entry_text : Entry → List ℕ
entry_text e = unwrap_or (utf8_of (Some e)) []

-- a number for the text of each entry
abbrev pub HaveNumbers : (texts : List (List ℕ)) → List Entry → List ℕ → Type 0
HaveNumbers texts entries numbers = AllZip (λ e n. number_in texts (entry_text e) ≡ Some n) entries numbers

-- the number for an index, from those by place; 0 for an index that none has
abbrev pub number_at : List ℕ → (index : ℕ) → ℕ
number_at numbers zero = 0
number_at numbers (suc place) = slice_index_or numbers place 0

-- the numbers of a name and of a descriptor
abbrev pub numbers_in : (texts : List (List ℕ)) → Signature → Option (ℕ × ℕ)
numbers_in texts s = onto (number_in texts s.name) (λ a. onto (number_in texts s.descriptor) (λ b. Some (a, b)))

-- the place that the entries have for these numbers
abbrev pub found_at : (numbers : ℕ × ℕ) → List ((ℕ × ℕ) × ℕ) → Option ℕ
found_at k es = lookup (λ l. k.0 == l.0 && k.1 == l.1) es

-- the entries give the first of these members of the class with each name and descriptor
abbrev pub IsIndexed : (texts : List (List ℕ)) → ClassFile → List Member → List ((ℕ × ℕ) × ℕ) → Type 0
IsIndexed texts c ms es = (s : Signature) (k : ℕ × ℕ) → numbers_in texts s ≡ Some k → found_at k es ≡ index_of (λ m. same_signature (signature_of c m) s) ms

-- the member of a class with these numbers
abbrev pub place_in : List (List ((ℕ × ℕ) × ℕ)) → (numbers : ℕ × ℕ) → (class : ℕ) → Option Place
place_in table numbers c = option_map (λ i. (c, i)) (found_at numbers (slice_index_or table c []))
