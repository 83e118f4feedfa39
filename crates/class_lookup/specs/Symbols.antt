-- Texts by number: each text that the pools of the classes have, and the empty one, has a symbol.
use Rattle.std.specs.Prelude.{ℕ, List, [], ◌∷◌, Option, Some}
use Rattle.std.specs.List.{filter_map, flat_map}
use Rattle.class_pool.specs.declared.entry.Entry.{Entry}
use Rattle.class_pool.specs.declared.class.ClassFile.{ClassFile}
use Rattle.class_pool.specs.Grammar.{utf8_of}
use Rattle.lists.specs.Lists.{index_of}
use Rattle.class_lookup.specs.Parts.{same_text}
use Rattle.class_lookup.specs.Lists.{distinct}

-- the texts of a pool, in order (4.4.7)
abbrev pub pool_texts : List Entry → List (List ℕ)
pool_texts pool = filter_map (λ e. utf8_of (Some e)) pool

-- the texts of all classes, each once: the empty one, and then the others in the order of first mention
unfoldable pub texts : List ClassFile → List (List ℕ)
texts cs = distinct same_text ([] ∷ flat_map (λ c. pool_texts c.pool) cs)

-- the number of a text that the classes have
unfoldable pub symbol : List ClassFile → (text : List ℕ) → Option ℕ
symbol cs text = index_of (same_text text) (texts cs)
