-- Plans take no input, and what their endings are.
use Rattle.std.proofs.Common.{ℕ, List, Option, sym, subst, ⊎_elim}
use Rattle.class_pool.specs.declared.class.ClassFile.{ClassFile}
use Rattle.slot_table.specs.declared.slot.Slot.{Slot}
use Rattle.slot_table.specs.declared.table.TableFault.{TableFault}
use Rattle.slot_table.specs.declared.table.TableFault.TheVariants as tables
use Rattle.command_line.specs.declared.command.Settings.{Settings}
use Rattle.slot_plans.specs.declared.plan.NotPlanned.{NotPlanned}
use Rattle.slot_plans.specs.declared.plan.NotPlanned.TheVariants as plans
use Rattle.endings.specs.declared.outcome.Answer.{Answer}
use Rattle.endings.specs.declared.outcome.Answer.TheVariants.{Text, Ends}
use Rattle.endings.specs.declared.outcome.Ending.{Ending}
use Rattle.endings.specs.declared.outcome.Ending.TheVariants as endings
use Rattle.endings.specs.World.{World}
use Rattle.endings.specs.Leaving.{FailsRisen}
use Rattle.endings.specs.Putting.{PutsAnswer}
use Rattle.endings.specs.Linking.{LinkFault}
use Rattle.endings.specs.Executive.{table_ending, EndsUnready}
use Rattle.slot_plans.specs.Planning.{plan_ending, AnswersPlan, Plans, PlansFiles}
use Rattle.jop_cli.proofs.Refusing.{IsRefusing, refusing_by, fault_refuses}
use Rattle.jop_cli.proofs.Executing.{risen_but}

table_refuses : (fault : TableFault) → IsRefusing (table_ending fault)
table_refuses (tables.Line line) = tt
table_refuses (tables.Count count) = tt
table_refuses tables.NoMemory = tt

link_refuses : (files : List (List ℕ)) (main : List ℕ) (e : Ending) → LinkFault files main e → IsRefusing e
link_refuses files main (endings.NotLinked refusal name) fault = tt
link_refuses files main endings.NoMemory fault = tt
link_refuses files main e fault = absurd fault

pub unready_refuses : (table_text : List ℕ) (rounds : ℕ) (files : List (List ℕ)) (e : Ending) → EndsUnready table_text rounds files e → IsRefusing e
unready_refuses table_text rounds files e ends =
    ⊎_elim (λ u. refusing_by e (table_ending u.fault) u.says (table_refuses u.fault)) (λ u. link_refuses _ _ e u.fault) ends

plan_refuses : (s : Settings) (cause : NotPlanned) → IsRefusing (plan_ending s cause)
plan_refuses s (plans.NoAnalysis fault) = fault_refuses s fault
plan_refuses s (plans.Refused cause subject) = tt
plan_refuses s plans.NoMemory = tt

answer_refuses : (cs : List ClassFile) (s : Settings) (slots : List Slot) (bounds_text : List ℕ) (e : Ending) → AnswersPlan cs s slots bounds_text (Ends e) → IsRefusing e
answer_refuses cs s slots bounds_text e ends = refusing_by e (plan_ending s ends.cause) ends.says (plan_refuses s ends.cause)

pub plans_refuse : (s : Settings) (rounds : ℕ) (operands : List (List ℕ)) (e : Ending) → Plans s rounds operands (Ends e) → IsRefusing e
plans_refuse s rounds operands e plan = ⊎_elim (λ u. unready_refuses _ rounds _ e u) (λ l. answer_refuses l.linked.classes s l.slots _ e l.answers) plan

puts_no_input : (s : Settings) (rounds : ℕ) (operands : List (List ℕ)) (answer : Answer) (old new : Option (List ℕ)) (before now : ℕ) → Plans s rounds operands answer → PutsAnswer answer old new before now endings.InputFault → ⊥
puts_no_input s rounds operands (Text text) old new before now plan puts = ⊎_elim (λ whole. let says = whole.0 in absurd (cc)) (λ part. let says = part.0 in absurd (cc)) puts
puts_no_input s rounds operands (Ends says) old new before now plan puts = subst IsRefusing (sym puts.0) (plans_refuse s rounds operands says plan)

plans_no_input : (s : Settings) (rounds table : ℕ) (old new : World) → PlansFiles s rounds table old new endings.InputFault → ⊥
plans_no_input s rounds table old new does =
    ⊎_elim (λ fault. fault.0) (λ r. puts_no_input s rounds r.operands r.answer old.out new.out old.out_faults new.out_faults r.plans r.puts) does

pub plans_risen : (s : Settings) (rounds table : ℕ) (old new : World) (e : Ending) (before now : ℕ) → PlansFiles s rounds table old new e → FailsRisen e before now
plans_risen s rounds table old new e before now does = risen_but e before now (λ is. plans_no_input s rounds table old new (subst (PlansFiles s rounds table old new) is does))
