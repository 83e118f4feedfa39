-- How the lines of headers are read as a text of bounds.
use Rattle.std.specs.Prelude.{◌≡◌, ℕ, ◌^◌, ◌<◌, List, Contains, Option, Some, IsTrue, option_map, flat_map}
use Rattle.std.specs.List.{filter_map, AllByRecursion}
use Rattle.ascii_text.specs.Line.{lines_of}
use Rattle.bound_texts.specs.Loops.Bounds.{LoopBound}
use Rattle.bound_texts.specs.Loops.Grammar.{Give}
use Rattle.bound_texts.specs.Sources.Notes.{Note}
use Rattle.name_laws.specs.Written.{is_word}
use Rattle.source_headers.specs.Headers.{Header, number_written, header_lines}

-- the bound that is written for a header of the method of this name
abbrev pub bound_written : List Note → (name : List ℕ) → Header → Option LoopBound
bound_written notes name h = option_map (λ n. record { name = name; pc = h.place; bound = n }) (number_written notes name h)

-- its numbers have 32 bits, and its file's name holds no line feed
pub record IsInRange (notes : List Note) (name : List ℕ) (h : Header) : Type 0 where
  pub place : h.place < 2 ^ 32
  pub source : (s : List ℕ × ℕ) → h.source ≡ Some s → (¬ Contains s.0 10) × (s.1 < 2 ^ 32)
  pub number : (n : ℕ) → number_written notes name h ≡ Some n → n < 2 ^ 32

-- the lines of the headers of a method whose name is a word give just the numbers that are written, in their order
abbrev pub HeadersAreRead : Type 0
HeadersAreRead =
    (notes : List Note) (name : List ℕ) (hs : List Header) → IsTrue (is_word name) → AllByRecursion (IsInRange notes name) hs
    → Give (lines_of (flat_map (header_lines notes name) hs)) (filter_map (bound_written notes name) hs)
