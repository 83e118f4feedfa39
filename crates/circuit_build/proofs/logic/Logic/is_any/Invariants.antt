use Rattle.std.proofs.Common.{◌≡◌, ◌<◌, ◌^◌, false, take}
use Rattle.std.specs.Prelude.{◌==◌}
use Rattle.std.specs.List.{All, list_any}
use Rattle.netlist.specs.Meaning.{bit_of, word_on}
use Rattle.netlist.specs.WellFormed.{IsNet, Widths}
use Rattle.circuit_build.specs.Laws.{Grows, IsLogic, widths_with}
use Rattle.circuit_build.specs.Wiring.{Gives}
use Rattle.circuit_build.proofs.logic.Logic.is_any.Given as goal

abbrev pub invariant-loop-word : goal.invariant-loop-word
invariant-loop-word l = record {
  width : l.any.width ≡ 1;
  grows :
      (parts : Widths) → l.self.lacks ≡ false → IsLogic parts l.fn.self → IsNet (widths_with parts l.fn.self) l.fn.x → All (λ word. word < 2 ^ l.fn.x.width) l.fn.words
      → Grows parts l.fn.self l.self l.any;
  gives : Gives l.fn.self l.self (λ ws. word_on ws l.any ≡ bit_of (list_any (λ word. word_on ws l.fn.x == word) (take l.word-index l.words)));
}
