-- What follows of names that are written.
use Rattle.std.specs.Prelude.{◌≡◌, ◌≢◌, ℕ, List, [], IsSome, IsTrue}
use Rattle.class_pool.specs.declared.class.ClassFile.{ClassFile}
use Rattle.bytecode_model.specs.Program.{body_of}
use Rattle.program_tables.specs.Resolved.{resolved}
use Rattle.program_tables.specs.Resolving.{IsResolved}
use Rattle.name_laws.specs.Written.{written, written_name, is_word, name_in}

-- Two names that are written alike are one.
abbrev pub WrittenAlikeAreOne : Type 0
WrittenAlikeAreOne = (a b : List ℕ) → written a ≡ written b → a ≡ b

-- What is written of a name is a word.
abbrev pub WrittenAreWords : Type 0
WrittenAreWords = (name : List ℕ) → name ≢ [] → IsTrue (is_word (written name))

-- The name is read that is written, and a text of which a name is read is written of it.
pub record WrittenAreRead : Type 0 where
  pub read : (name : List ℕ) → name_in (written name) ≡ name
  pub written_so : (text : List ℕ) → name_in text ≢ [] → written (name_in text) ≡ text

-- A method with code has a name that is written as a word, and in resolved classes two methods of one such word are one.
pub record WrittenNamesAreOne : Type 0 where
  pub words : (cs : List ClassFile) (m : ℕ) → IsSome (body_of (resolved cs) m) → IsTrue (is_word (written_name cs m))
  pub one : (cs : List ClassFile) → IsResolved cs → (m n : ℕ) → IsSome (body_of (resolved cs) m) → IsSome (body_of (resolved cs) n)
      → written_name cs m ≡ written_name cs n → m ≡ n
