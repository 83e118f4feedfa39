-- The line of `work`, on a call on which nothing fails.
use Rattle.std.proofs.Common.{◌≡◌, ℕ, refl, sym, ◌∙◌, ap, subst, ◌⊎◌, inl, inr, ⊎_elim}
use Rattle.outside.specs.Outside.{Grew}
use Rattle.command_line.specs.declared.command.Command.TheVariants.{Work}
use Rattle.endings.specs.declared.outcome.Ending.{Ending}
use Rattle.endings.specs.declared.outcome.Ending.TheVariants as endings
use Rattle.endings.specs.declared.outcome.Outcome.TheVariants as outcomes
use Rattle.endings.specs.Line.{line_of}
use Rattle.endings.specs.World.{IsQuiet}
use Rattle.run_commands.specs.Working.{PutsWholeLine, NotWorked, OnlyOut}
use Rattle.jop_cli.specs.Answer.{outcome_of}
use Rattle.jop_cli.specs.Calls.{Call}
use Rattle.jop_cli.specs.promises.Work.{IsWorkedBy, Hinders, puts, says, lacks, WorkingIsComplete, WorkLinesAreTrue}
use Rattle.jop_cli.proofs.Wholly.{IsWholly, wholly, wholly_written, executed}
use Rattle.jop_cli.proofs.Wholly as whole

in_the_way : (n : ℕ) (ending : Ending) → NotWorked n ending → (ending ≡ endings.NoMemory) ⊎ Hinders n ending
in_the_way n endings.NoMemory h = inl refl
in_the_way n ending h = inr h

not_written : (n : ℕ) (ending : Ending) → NotWorked n ending → outcome_of ending ≡ outcomes.Written → ⊥
not_written n endings.Written h e = ⊎_elim (λ link. link) (λ later. ⊎_elim (λ s. s.stops) (λ f. f.forbids) later) h
not_written n (endings.Linked sizes) h e = ⊎_elim (λ link. link) (λ later. ⊎_elim (λ s. s.stops) (λ f. f.forbids) later) h
not_written n ending h e = absurd (cc)

quiet : (c : Call) → c.new.out ≡ c.old.out → c.new.out_faults ≡ c.old.out_faults → OnlyOut c.old c.new → IsQuiet c.old c.new
quiet c out faults rest = record { input = rest.input; out = out; out_faults = faults; watch = rest.watch }

written : (c : Call) (n : ℕ) (ending : Ending) → IsWholly c ending → ending ≡ endings.Written → PutsWholeLine n c.old.out c.new.out c.old.out_faults c.new.out_faults → IsWorkedBy c n
written c n ending w is did =
    let L : Ending → Type 0 = λ e. Grew c.err_old c.err_new (line_of c.words e) in
    record { outcome = w.outcome ∙ ap outcome_of is; line = did.line; is = did.is; puts = record { out = did.put; err = subst L is w.line } }

pub complete : WorkingIsComplete
complete c n command none =
    let w = wholly c none in
    let works = executed c (Work n) command in
    ⊎_elim
    (λ h. puts (written c n c.answered.ending w h.0 h.1))
    (λ rest. ⊎_elim
    (λ h. absurd (none.out h.1.rose))
    (λ h.
    let nothing = quiet c h.1 h.2 works.1 in
    ⊎_elim
    (λ is. lacks (whole.lacks c c.answered.ending w is nothing))
    (λ hinders. says c.answered.ending hinders (record { outcome = w.outcome; line = w.line; quiet = nothing }))
    (in_the_way n c.answered.ending h.0))
    rest)
    works.0

pub are_true : WorkLinesAreTrue
are_true c n command is =
    let w = wholly_written c is in
    let outcome : outcome_of c.answered.ending ≡ outcomes.Written = sym w.outcome ∙ is in
    let works = executed c (Work n) command in
    ⊎_elim
    (λ h. written c n c.answered.ending w h.0 h.1)
    (λ rest. ⊎_elim
    (λ h. let clash : outcomes.WriteFault ≡ outcomes.Written = ap outcome_of (sym h.0) ∙ outcome in absurd (cc))
    (λ h. absurd (not_written n c.answered.ending h.0 outcome))
    rest)
    works.0
