-- What working out a netlist's words in 64 bits takes, and what a clock's edge does to a block RAM by the words on its ports.
use Rattle.std.specs.Prelude.{ℕ, ◌+◌, ◌*◌, ◌^◌, ◌<◌, ◌≤◌, ⊤, ◌==◌, ◌&&◌, if◌then◌else◌, List, [], ◌∷◌, map, slice_set, slice_index_or}
use Rattle.netlist.specs.declared.net.Expression.{Expression}
use Rattle.netlist.specs.declared.net.Expression.TheVariants.{Not, Binary, Part, Join, Choose, Table}
use Rattle.netlist.specs.declared.parts.BlockRam.{BlockRam}
use Rattle.netlist.specs.declared.ram.PortWords.{PortWords}
use Rattle.netlist.specs.Meaning.{Circuit, Words, RamState, word_on}

-- What an expression is worked out of has at most 64 bits, and so has what comes of it.
abbrev pub FitsWord : Words → Expression → Type 0
FitsWord ws (Not x) = x.width ≤ 64
FitsWord ws (Binary operator x y) = x.width ≤ 64
FitsWord ws (Part x low width) = width ≤ 64
FitsWord ws (Join x y) = (y.width ≤ 64) × (word_on ws x * 2 ^ y.width + word_on ws y < 2 ^ 64)
FitsWord ws (Choose c x y) = ⊤
FitsWord ws (Table x width rows) = ⊤

-- the words at a clock, where the wires so far have these
abbrev pub words_with : (inputs : List ℕ) → Circuit → (wires : List ℕ) → Words
words_with inputs c wires = record {
  inputs = inputs;
  registers = c.registers;
  read_outs = map (λ (m : RamState). m.read_out) c.memories;
  wires = wires;
}

-- the words on the ports of a block RAM
abbrev pub ports_of : Words → BlockRam → PortWords
ports_of ws m = record {
  writes = word_on ws m.write.when;
  place = word_on ws m.write.place;
  word = word_on ws m.write.word;
  reads = word_on ws m.read.when;
  read_place = word_on ws m.read.place;
}

-- the word that a block RAM reads
abbrev pub word_given : PortWords → (unknown : ℕ) → (words : List ℕ) → ℕ
word_given ports unknown words =
    if ports.writes == 1 && ports.place == ports.read_place then unknown else slice_index_or words ports.read_place unknown

-- a block RAM behind an edge
abbrev pub after_edge : PortWords → (unknown : ℕ) → RamState → RamState
after_edge ports unknown old = record {
  words = if ports.writes == 1 then slice_set old.words ports.place ports.word else old.words;
  read_out = if ports.reads == 1 then word_given ports unknown old.words else old.read_out;
}

-- block RAMs behind an edge, each by its ports and the word that it gives where its place doesn't tell
abbrev pub all_after : List PortWords → (unknown : List ℕ) → List RamState → List RamState
all_after (ports ∷ others) (word ∷ words) (ram ∷ rams) = after_edge ports word ram ∷ all_after others words rams
all_after ports words rams = []
