-- What was read of a line means.
use Rattle.std.specs.Prelude.{ℕ, ◌<◌, map}
use Rattle.microcode.specs.declared.isa.Body.{Body}
use Rattle.microcode.specs.declared.isa.Body.TheVariants.{Plain, Stm, Ldm, Ldi}
use Rattle.microcode_asm.specs.declared.statement.Access.{Access}
use Rattle.microcode_asm.specs.declared.statement.Access.TheVariants.{Store, Load, Push}
use Rattle.microcode_asm.specs.declared.statement.Statement.{Statement as Read}
use Rattle.microcode_asm.specs.declared.statement.Statement.TheVariants.{Nothing, Word, Branch, Entry, Raise, Constant, Turns}
use Rattle.microcode_asm.specs.declared.line.Line.{Line as ReadLine}
use Rattle.microcode_asm.specs.Statements.{Statement, nothing, word, branch, entry, raise, constant, turns, Line}

abbrev pub body_of : Access → ℕ → Body
body_of Store place = Stm place
body_of Load place = Ldm place
body_of Push number = Ldi number

abbrev pub meaning_of : Read → Statement
meaning_of Nothing = nothing
meaning_of (Word bits) = word bits
meaning_of (Branch how label) = branch how label.now
meaning_of (Entry op) = entry op
meaning_of Raise = raise
meaning_of (Constant number value) = constant number value
meaning_of (Turns t) = turns t

-- the number of a constant is below 32
abbrev pub IsInRange : Read → Type 0
IsInRange (Constant number value) = number < 32
IsInRange other = Unit {0}

-- a body that may have flags, its number in its range
abbrev pub TakesFlags : Body → Type 0
TakesFlags (Plain code) = code < 48
TakesFlags (Stm place) = place < 32
TakesFlags (Ldm place) = place < 32
TakesFlags (Ldi number) = number < 32
TakesFlags other = ⊥

abbrev pub line_meaning : ReadLine → Line
line_meaning line = record { labels = map (λ name. name.now) line.labels.items; statement = meaning_of line.statement }
