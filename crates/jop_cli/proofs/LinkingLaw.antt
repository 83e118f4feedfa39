-- Files that nothing refuses are linked, and what refuses them is answered.
use Rattle.std.proofs.Common.{◌≡◌, ◌≢◌, ℕ, List, refl, subst, ◌⊎◌, inl, inr, ⊎_elim}
use Rattle.command_line.specs.declared.command.Command.TheVariants.{Link as LinkTo}
use Rattle.answer_lines.specs.declared.line.Sizes.{Sizes}
use Rattle.jopizer.specs.declared.refusal.LinkRefusal.{LinkRefusal}
use Rattle.jopizer.specs.declared.refusal.LinkRefusal.TheVariants as links
use Rattle.jopizer.specs.Linked.{AreLinked}
use Rattle.jopizer.specs.Refused.{IsLinkRefusal}
use Rattle.jopizer.specs.Laws.{LinkedFilesAreNotRefused, RefusalsAreOne}
use Rattle.endings.specs.declared.outcome.Ending.{Ending}
use Rattle.endings.specs.declared.outcome.Ending.TheVariants as endings
use Rattle.endings.specs.Line.{text_of_word}
use Rattle.endings.specs.World.{IsUntaken}
use Rattle.endings.specs.Linking.{class_name, RefusesFiles, HasName, AreLinkedTo, PutsLinked, LinksRead, LinksFiles}
use Rattle.jop_cli.specs.Calls.{Call, NothingFailed, LacksMemory, OperandsAreTold}
use Rattle.jop_cli.specs.promises.Link.{IsLinkedBy, LinkingIsComplete, LinkRefusalsAreAnswered, LinkRefusalsAreOne}
use Rattle.jop_cli.specs.promises.Answers.{AnswersEnding, AnswersRefusal}
use Rattle.jop_cli.proofs.Wholly.{IsWholly, wholly, executed, lacks, same_files, files_read}

module _ (c : Call) (files : List (List ℕ)) (main : List ℕ) (n : NothingFailed c) (none : (refusal : LinkRefusal) → ¬ RefusesFiles files main refusal) where
  puts : (ending : Ending) → IsWholly c ending → IsUntaken c.old c.new → c.new.watch ≡ c.old.watch → PutsLinked files main c.old.out c.new.out c.old.out_faults c.new.out_faults ending → IsLinkedBy c files main ⊎ LacksMemory c
  puts (endings.Linked sizes) w untaken watch h = inl (record { outcome = w.outcome; bytes = h.bytes; sizes = sizes; linked = h.linked; puts = record { out = h.put; err = w.line } })
  puts endings.WriteFault w untaken watch h = absurd (n.out h.rose)
  puts endings.NoMemory w untaken watch h = inr (record { outcome = w.outcome; quiet = record { input = untaken; out = h.1; out_faults = h.2; watch = watch } })
  puts (endings.NotLinked refusal name) w untaken watch h = absurd (none refusal h.0.0)
  puts ending w untaken watch h = absurd h.0

linked_read : (c : Call) (word : List ℕ) (first : ℕ) (files : List (List ℕ)) → OperandsAreTold c first files → NothingFailed c → ((refusal : LinkRefusal) → ¬ RefusesFiles files (class_name word) refusal) → (ending : Ending) → IsWholly c ending
    → LinksRead word first c.old c.new ending → IsLinkedBy c files (class_name word) ⊎ LacksMemory c
linked_read c word first files told n none ending w h =
    let same : h.files ≡ files = same_files c first files h.files told h.reads.are in
    puts c files (class_name word) n none ending w h.input h.watch (subst (λ (fs : List (List ℕ)). PutsLinked fs (class_name word) c.old.out c.new.out c.old.out_faults c.new.out_faults ending) same h.put)

pub linking_is_complete : LinkingIsComplete
linking_is_complete c main first files command told n none =
    let w : IsWholly c c.answered.ending = wholly c n in
    let did : LinksFiles (text_of_word c.words main) first c.old c.new c.answered.ending = executed c (LinkTo main first) command in
    ⊎_elim
    (λ fault. inr (lacks c c.answered.ending w (files_read c first files told n c.answered.ending fault.0) fault.1))
    (λ read. linked_read c (text_of_word c.words main) first files told n none c.answered.ending w read)
    did

-- ---- what is refused

-- memory apart
pub refuses : (files : List (List ℕ)) (main : List ℕ) (r : LinkRefusal) → RefusesFiles files main r → IsLinkRefusal files main r × (r ≢ links.NoMemory)
refuses files main (links.Resolving r) h = (h, λ e. absurd (cc))
refuses files main (links.NotVerified file method pc rule) h = (h, λ e. absurd (cc))
refuses files main (links.TooLarge what count limit) h = (h, λ e. absurd (cc))
refuses files main (links.FileTooLarge count limit) h = (h, λ e. absurd (cc))
refuses files main links.NoMemory h = absurd h

module _ (not_refused : LinkedFilesAreNotRefused) (one : RefusalsAreOne) (files : List (List ℕ)) (main : List ℕ) (refusal : LinkRefusal) (is : RefusesFiles files main refusal) where
  not_linked : (bytes : List ℕ) (sizes : Sizes) → AreLinkedTo files main bytes sizes → ⊥
  not_linked bytes sizes h =
      let l = h.linked in
      let of_files = subst (λ (fs : List (List ℕ)). AreLinked fs l.main l.classes) h.its_files h.is_linked.linked in
      let linked = subst (λ (name : List ℕ). AreLinked files name l.classes) h.its_main of_files in
      let r = refuses files main refusal is in
      r.1 (not_refused files main l.classes refusal linked r.0)

  same_refusal : (other : LinkRefusal) → RefusesFiles files main other → other ≡ refusal
  same_refusal other h =
      let r = refuses files main refusal is in
      let o = refuses files main other h in
      one files main other refusal o.1 r.1 o.0 r.0

  module _ (c : Call) (n : NothingFailed c) where
    answers : (ending : Ending) → IsWholly c ending → IsUntaken c.old c.new → c.new.watch ≡ c.old.watch → PutsLinked files main c.old.out c.new.out c.old.out_faults c.new.out_faults ending → AnswersRefusal c files refusal ⊎ LacksMemory c
    answers (endings.Linked sizes) w untaken watch h = absurd (not_linked h.bytes sizes h.linked)
    answers endings.WriteFault w untaken watch h = absurd (n.out h.rose)
    answers endings.NoMemory w untaken watch h = inr (record { outcome = w.outcome; quiet = record { input = untaken; out = h.1; out_faults = h.2; watch = watch } })
    answers (endings.NotLinked other name) w untaken watch h =
        let same = same_refusal other h.0.0 in
        let says : AnswersEnding c (endings.NotLinked other name) = record { outcome = w.outcome; line = w.line; quiet = record { input = untaken; out = h.1; out_faults = h.2; watch = watch } } in
        inl (record {
          name = name;
          names = subst (λ (r : LinkRefusal). HasName files r name.items) same h.0.1;
          answers = subst (λ (r : LinkRefusal). AnswersEnding c (endings.NotLinked r name)) same says;
        })
    answers ending w untaken watch h = absurd h.0

    refused_read : (word : List ℕ) (first : ℕ) → class_name word ≡ main → OperandsAreTold c first files → (ending : Ending) → IsWholly c ending → LinksRead word first c.old c.new ending → AnswersRefusal c files refusal ⊎ LacksMemory c
    refused_read word first named told ending w h =
        let same : h.files ≡ files = same_files c first files h.files told h.reads.are in
        let put = subst (λ (fs : List (List ℕ)). PutsLinked fs (class_name word) c.old.out c.new.out c.old.out_faults c.new.out_faults ending) same h.put in
        answers ending w h.input h.watch (subst (λ (m : List ℕ). PutsLinked files m c.old.out c.new.out c.old.out_faults c.new.out_faults ending) named put)

pub refusals_are_one : LinkedFilesAreNotRefused → RefusalsAreOne → LinkRefusalsAreOne
refusals_are_one not_refused one files main refusal is = (not_linked not_refused one files main refusal is, same_refusal not_refused one files main refusal is)

pub refusals_are_answered : LinkedFilesAreNotRefused → RefusalsAreOne → LinkRefusalsAreAnswered
refusals_are_answered not_refused one c main first files refusal command told n is =
    let word = text_of_word c.words main in
    let w : IsWholly c c.answered.ending = wholly c n in
    let did : LinksFiles word first c.old c.new c.answered.ending = executed c (LinkTo main first) command in
    ⊎_elim
    (λ fault. inr (lacks c c.answered.ending w (files_read c first files told n c.answered.ending fault.0) fault.1))
    (λ read. refused_read not_refused one files (class_name word) refusal is c n word first refl told c.answered.ending w read)
    did
