use Rattle.std.proofs.Common.{ap, inr, refl, ⊎_elim}
use Rattle.std.proofs.lemmas.Bool.{false≢true}
use Rattle.outside.specs.Memory.{entry_told}
use Rattle.outside.proofs.Listed.{Counted-listed, HasCause-listed, counted-no_bytes, HasCause-no_bytes, with_bytes, without_bytes}
use Rattle.outside.proofs.memory.files.MemFiles.start_call.Goals as goal

pub returns-in_err-count_call-clause-cause : goal.returns-in_err-count_call-clause-cause
returns-in_err-count_call-clause-cause c = rw (← c.self.view_is) (HasCause-listed _ _ _ _ _ (rw (← c.self.view_is) at c.requires) c.in_err-count_call.ensures.failed)

pub returns-then-is_none-clause-cause : goal.returns-then-is_none-clause-cause
returns-then-is_none-clause-cause c = rw (← c.self.view_is) (HasCause-no_bytes _ _ _ _ (without_bytes c.self.inside.entries.items c.args.word c.index.result.now (rw (← c.self.view_is) at c.requires) c.index.ensures c.if-is_none.ensures))

pub returns-then-is_none-clause-fails : goal.returns-then-is_none-clause-fails
returns-then-is_none-clause-fails c = rw (← c.self.view_is) (λ _. inr (ap entry_told (without_bytes c.self.inside.entries.items c.args.word c.index.result.now (rw (← c.self.view_is) at c.requires) c.index.ensures c.if-is_none.ensures)), λ _. refl)

pub returns-clause-fails : goal.returns-clause-fails
returns-clause-fails c = rw (← c.self.view_is) (
  λ wrong. absurd (false≢true wrong),
  λ fails. absurd (⊎_elim
      (λ listed. false≢true (c.in_ok-count_call.ensures.listed.1 listed))
      (λ none. with_bytes c.self.inside.entries.items c.args.word c.index.result.now (rw (← c.self.view_is) at c.requires) c.index.ensures c.if-is_none.ensures none)
      fails),
)

pub returns-in_err-count_call-clause-faults : goal.returns-in_err-count_call-clause-faults
returns-in_err-count_call-clause-faults c = rw (← c.self.view_is) (Counted-listed _ _ _ _ _ (rw (← c.self.view_is) at c.requires) c.from_residual.ensures.0 c.in_err-count_call.ensures.failed c.in_err-count_call.ensures.few)

pub returns-then-is_none-clause-faults : goal.returns-then-is_none-clause-faults
returns-then-is_none-clause-faults c = rw (← c.self.view_is) (counted-no_bytes _ _ _ (without_bytes c.self.inside.entries.items c.args.word c.index.result.now (rw (← c.self.view_is) at c.requires) c.index.ensures c.if-is_none.ensures))
