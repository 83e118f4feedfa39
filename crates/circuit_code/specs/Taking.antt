-- What is said of the nets that depend on the byte that a microinstruction takes.
use Rattle.std.specs.Prelude.{◌≡◌, ℕ, ◌^◌, Bool, ◌==◌, ◌&&◌, ◌||◌, true, false, nat_lt, if◌then◌else◌, List}
use Rattle.std.specs.List.{list_any}
use Rattle.netlist.specs.Meaning.{Words, word_on}
use Rattle.netlist.specs.declared.net.Net.{Net}
use Rattle.circuit_core.specs.declared.cycle.Cycle.{Cycle}
use Rattle.base.specs.Signed.{signed_lt, is_negative, holds}
use Rattle.circuit_cycles.specs.Words.{jbg, jbr}
use Rattle.circuit_cycles.specs.Core.{Core, byte, does}
use Rattle.circuit_core.specs.Standing.{Stands}

-- Where this net has the byte, that one has this word of the core for which the nets of a cycle stand.
abbrev pub Takes : Cycle → (byte_net net : Net) → (ℕ → Core → ℕ) → Words → Type 0
Takes nets byte_net net word ws = (n : ℕ) (core : Core) → Stands n ws nets core → word_on ws byte_net ≡ byte core → word_on ws net ≡ word n core

-- x where the opcode is one of these, else y
abbrev pub by_opcode : (codes : List ℕ) (opcode x y : ℕ) → ℕ
by_opcode codes opcode x y = if list_any (λ code. opcode == code) codes then x else y

-- Whether the branch that an opcode is goes to its target: one on A alone, or `rest`; one on B and A, or none (`holds` of both is all of them).
abbrev pub holds_on_a : (opcode a : ℕ) (rest : Bool) → Bool
holds_on_a opcode a rest =
    if opcode == 153 || opcode == 198 then a == 0
    else if opcode == 154 || opcode == 199 then nat_lt 0 a
    else if opcode == 155 then is_negative a
    else if opcode == 156 then nat_lt a (2 ^ 31)
    else if opcode == 157 then nat_lt 0 a && nat_lt a (2 ^ 31)
    else if opcode == 158 then a == 0 || is_negative a
    else rest

abbrev pub holds_on_both : (opcode b a : ℕ) → Bool
holds_on_both opcode b a =
    if opcode == 159 || opcode == 165 then b == a
    else if opcode == 160 || opcode == 166 then nat_lt b a || nat_lt a b
    else if opcode == 161 then signed_lt b a
    else if opcode == 162 then (if signed_lt b a then false else true)
    else if opcode == 163 then signed_lt a b
    else if opcode == 164 then (if signed_lt a b then false else true)
    else false

-- a branch of a bytecode goes to its target
abbrev pub branches : Core → Bool
branches c = does jbg c || does jbr c && holds c.opcode c.b c.a
