use Rattle.std.proofs.Common.{refl, ap, List, ℕ}
use Rattle.std.specs.Prelude.{slice_get}
use Rattle.jop_cli.specs.Calls.{call_of}
use Rattle.test_commands.proofs.checked.come.Goals as goal

pub returns : goal.returns
returns c = record {
  call = call_of _ _ _ _ _ _ _ _ c.jop.ensures.answered;
  words_are = refl;
  told = λ k. ap (λ (f : List (List ℕ)). slice_get f k) c.new-files.ensures;
  outcome_is = refl;
}
