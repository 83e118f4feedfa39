-- Statements about logic, one after another: what crates above compose what they say of theirs from.
use Rattle.std.proofs.Common.{◌≡◌, subst}
use Rattle.netlist.specs.Meaning.{Words}
use Rattle.circuit_build.specs.Wiring.{Wiring, IsSettled, Gives}

-- nothing was added
pub kept : {a b : Wiring} {P : Words → Type 0} → b ≡ a → ((ws : Words) → P ws) → Gives a b P
kept {a} {b} {P} same holds = record { settled = λ ws h. subst (λ l. IsSettled l ws) same h; fact = λ ws h. holds ws }

-- one step, and then another one
pub next : {a b c : Wiring} {P Q : Words → Type 0} → Gives a b P → Gives b c Q → Gives a c (λ ws. P ws × Q ws)
next f g = record {
  settled = λ ws h. f.settled ws (g.settled ws h);
  fact = λ ws h. (f.fact ws (g.settled ws h), g.fact ws h);
}

-- what follows from what was said
pub so : {a b : Wiring} {P Q : Words → Type 0} → Gives a b P → ((ws : Words) → P ws → Q ws) → Gives a b Q
so f follows = record { settled = f.settled; fact = λ ws h. follows ws (f.fact ws h) }
