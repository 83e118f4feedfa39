-- The run of an image is that of its program.
use Rattle.std.proofs.Common.{◌≡◌, ℕ, ◌≤◌, ◌<◌, true, false, List, [], length, Option, Some, None, Err, refl, sym, ◌∙◌, ap, subst, arith, ◌⊎◌, inl, inr, ⊎_elim}
use Rattle.std.specs.Prelude.{IfSome, IsSomeAnd}
use Rattle.image_file.specs.Bare.{BareContent, IsBareFile}
use Rattle.image_file.specs.Linked as file
use Rattle.outside.specs.Outside.{Rose}
use Rattle.device_traits.specs.declared.fault.DeviceFault.{DeviceFault}
use Rattle.jop_core.specs.Reset.{bare_reset, linked_reset}
use Rattle.boundary.specs.Setting.{bare_setting}
use Rattle.bytecode_model.specs.Program.{Body, body_of}
use Rattle.program_tables.specs.Resolved.{resolved}
use Rattle.jopizer.specs.Methods.Fitting.{code_blocks}
use Rattle.command_line.specs.declared.command.Settings.{Settings}
use Rattle.command_line.specs.declared.command.Command.TheVariants.{Run, Trace}
use Rattle.jopizer.specs.declared.refusal.LinkRefusal.{LinkRefusal}
use Rattle.jopizer.specs.declared.refusal.LinkRefusal.TheVariants as links
use Rattle.jopizer.specs.declared.fault.ImageFault.TheVariants as faults
use Rattle.jopizer.specs.Linked.{Parts, IsLinked, image_of}
use Rattle.jopizer.specs.Images.{IsWrongIn}
use Rattle.jopizer.specs.Laws.{OneLinked, LinkedImagesAreRead}
use Rattle.endings.specs.declared.outcome.Refusal.TheVariants as refusals
use Rattle.endings.specs.declared.outcome.Ending.{Ending}
use Rattle.endings.specs.declared.outcome.Ending.TheVariants as endings
use Rattle.endings.specs.declared.show.Show.{Show}
use Rattle.endings.specs.declared.show.Show.TheVariants as shows
use Rattle.endings.specs.Show.{bare_shown, linked_shown}
use Rattle.endings.specs.Phase.{is_linked}
use Rattle.endings.specs.World.{IsUntaken}
use Rattle.endings.specs.Linking.{RefusesFiles}
use Rattle.run_devices.specs.Lent.{Lent}
use Rattle.run_commands.specs.Run.{HasRisen}
use Rattle.endings.specs.Fitting.{CodesFit}
use Rattle.endings.specs.Opening.{BytesFault}
use Rattle.run_commands.specs.LinkedFile.{EndsAs, RunsLinkedBytes}
use Rattle.endings.specs.Settings.{linked_setting}
use Rattle.run_commands.specs.BareFile as bare
use Rattle.endings.specs.Opening.{ImageFault}
use Rattle.endings.specs.Fitting.{blocks_of_code}
use Rattle.run_commands.specs.BareFile.{RunsBareBytes}
use Rattle.jop_cli.specs.Answer.{RunsFile, lent_of, lent_without_input}
use Rattle.jop_cli.specs.Calls.{Call, NothingFailed, LacksMemory}
use Rattle.jop_cli.specs.Courses.{RanLinked, RanBare}
use Rattle.jop_cli.specs.promises.Run.{HoldsLinked, HoldsBare, RunsAreTheBytecodes, TracesAreTheRuns, BareRunsAreTheBytecodes, BareTracesAreTheRuns}
use Rattle.jop_cli.specs.promises.Images.{OneBareImage}
use Rattle.run_commands.proofs.Followed.{unrisen}
use Rattle.jop_cli.proofs.Wholly.{IsWholly, wholly, executed, lacks, quiet_of, quiet_without, same_bytes, file_read}
use Rattle.jop_cli.proofs.Coming.{ended, uncaught, spent}

-- ---- the bytes of a linked image

pub begins_linked : (bytes : List ℕ) (image : file.LinkedContent) → file.IsLinkedFile bytes image → is_linked bytes ≡ true
begins_linked bytes image is = ap is_linked is.spelling

pub begins_bare : (bytes : List ℕ) (image : BareContent) → IsBareFile bytes image → is_linked bytes ≡ false
begins_bare bytes image is = ap is_linked is.spelling

pub wrong_in : (image : file.LinkedContent) (refusal : LinkRefusal) → RefusesFiles image.files image.main refusal → IsWrongIn image (faults.Link refusal)
wrong_in image (links.Resolving refusal) h = h
wrong_in image (links.NotVerified f method pc rule) h = h
wrong_in image (links.TooLarge what count limit) h = h
wrong_in image (links.FileTooLarge count limit) h = h
wrong_in image links.NoMemory h = absurd h

pub is_read : LinkedImagesAreRead → (bytes : List ℕ) (l : Parts) → IsLinked l → file.IsLinkedFile bytes (image_of l) → (ending : Ending) → BytesFault bytes ending → ending ≡ endings.NoMemory
is_read law bytes l linked is (endings.Refused refusals.BadImage) h = absurd (h (image_of l) is)
is_read law bytes l linked is (endings.Refused (refusals.Differs word kept other)) h =
    let e : faults.Differs word kept other ≡ faults.NoMemory = law bytes l (faults.Differs word kept other) linked is h in
    absurd (cc)
is_read law bytes l linked is (endings.NotLinked refusal name) h =
    let e : faults.Link refusal ≡ faults.NoMemory = law bytes l (faults.Link refusal) linked is (h.0, h.1, wrong_in h.0 refusal h.2) in
    absurd (cc)
is_read law bytes l linked is endings.NoMemory h = refl
is_read law bytes l linked is ending h = absurd h

-- ---- the run of what was linked

-- no call on a device failed
unfailed : (old new : Lent) (fault : DeviceFault) → (Rose old.read_faults new.read_faults → ⊥) → (Rose old.write_faults new.write_faults → ⊥) → HasRisen (Err fault) old new → ⊥
unfailed old new fault reads writes risen = unrisen (Err fault) old new reads writes risen fault refl

pub not_more : (o : Option Body) (blocks block_words count : ℕ) → IsSomeAnd o (λ b. count ≡ code_blocks block_words b) → IfSome o (λ b. code_blocks block_words b ≤ blocks) → blocks < count → ⊥
not_more None blocks block_words count is fits more = absurd is
not_more (Some b) blocks block_words count is fits more = omega (arith, is, fits, more)

module _ (c : Call) (settings : Settings) (show : Show) (n : NothingFailed c) (l : Parts) (codes : CodesFit settings l) (memory : length l.laid.words ≤ settings.memory) where
  linked_ends : (ending : Ending) → IsWholly c ending → EndsAs settings show l (lent_of c.old) (lent_of c.new) ending → RanLinked c settings show l ⊎ LacksMemory c
  linked_ends (endings.TooLong method name blocks limit) w h = absurd (not_more (body_of (resolved l.classes) method) settings.blocks settings.block_words blocks h.0.0.code (codes method) h.0.0.more)
  linked_ends (endings.Refused (refusals.MemoryTooSmall words given)) w h = absurd (omega (arith, memory, h.0.0.count, h.0.0.more))
  linked_ends (endings.Ended counts) w h =
      inl (record { config = h.config; has = h.has; ran = ended c l.classes (linked_setting l.classes settings.stack h.config.memory) (linked_reset settings.stack l.laid.words h.config) settings.cycles (lent_of c.old) (lent_of c.new) (linked_shown l.classes show) counts h.ran w })
  linked_ends (endings.Uncaught class name counts) w (h, names) =
      inl (record { config = h.config; has = h.has; ran = uncaught c l.classes (linked_setting l.classes settings.stack h.config.memory) (linked_reset settings.stack l.laid.words h.config) settings.cycles (lent_of c.old) (lent_of c.new) (linked_shown l.classes show) class name counts names h.ran w })
  linked_ends (endings.Spent counts) w h =
      inl (record { config = h.config; has = h.has; ran = spent c l.classes (linked_setting l.classes settings.stack h.config.memory) (linked_reset settings.stack l.laid.words h.config) settings.cycles (lent_of c.old) (lent_of c.new) (linked_shown l.classes show) counts h.ran w })
  linked_ends endings.InputFault w h = absurd (unfailed (lent_of c.old) (lent_of c.new) h.fault n.input n.out h.ran.ran.rose)
  linked_ends endings.WriteFault w h = absurd (unfailed (lent_of c.old) (lent_of c.new) h.fault n.input n.out h.ran.ran.rose)
  linked_ends endings.NoMemory w h = inr (record { outcome = w.outcome; quiet = quiet_of c.old c.new h })
  linked_ends ending w h = absurd h

linked_bytes : OneLinked → LinkedImagesAreRead → (c : Call) (settings : Settings) (show : Show) (word : ℕ) (l : Parts) → (holds : HoldsLinked c settings word l) → NothingFailed c → (ending : Ending) → IsWholly c ending
    → RunsLinkedBytes settings show holds.bytes (lent_of c.old) (lent_of c.new) ending → RanLinked c settings show l ⊎ LacksMemory c
linked_bytes one law c settings show word l holds n ending w h =
    ⊎_elim
    (λ fault. inr (lacks c ending w (is_read law holds.bytes l holds.is_linked holds.is_file ending fault.0) (quiet_of c.old c.new fault.1)))
    (λ r.
    let same : r.linked ≡ l = one holds.bytes r.linked l r.is_linked holds.is_linked r.is_file holds.is_file in
    linked_ends c settings show n l holds.codes holds.memory ending w (subst (λ (p : Parts). EndsAs settings show p (lent_of c.old) (lent_of c.new) ending) same r.ends_as))
    h

linked_file : OneLinked → LinkedImagesAreRead → (c : Call) (settings : Settings) (show : Show) (word : ℕ) (l : Parts) → HoldsLinked c settings word l → NothingFailed c → (ending : Ending) → IsWholly c ending
    → RunsFile settings show word c.old c.new ending → RanLinked c settings show l ⊎ LacksMemory c
linked_file one law c settings show word l holds n ending w h =
    ⊎_elim
    (λ fault. inr (lacks c ending w (file_read c word holds.bytes holds.told n ending fault.0) fault.1))
    (λ read. ⊎_elim
    (λ r.
    let same : r.bytes ≡ holds.bytes = same_bytes c word holds.bytes r.bytes holds.told r.reads in
    let clash : false ≡ true = sym r.bare ∙ (ap is_linked same ∙ begins_linked holds.bytes (image_of l) holds.is_file) in
    absurd (cc))
    (λ r.
    let same : r.bytes ≡ holds.bytes = same_bytes c word holds.bytes r.bytes holds.told r.reads.reads in
    linked_bytes one law c settings show word l holds n ending w (subst (λ (bytes : List ℕ). RunsLinkedBytes settings show bytes (lent_of c.old) (lent_of c.new) ending) same r.runs))
    read)
    h

pub runs_are_the_bytecodes : OneLinked → LinkedImagesAreRead → RunsAreTheBytecodes
runs_are_the_bytecodes one law c settings word l command holds n =
    linked_file one law c settings shows.Output word l holds n c.answered.ending (wholly c n) (executed c (Run settings word) command)

pub traces_are_the_runs : OneLinked → LinkedImagesAreRead → TracesAreTheRuns
traces_are_the_runs one law c settings micro word l command holds n =
    linked_file one law c settings (shows.Trace micro) word l holds n c.answered.ending (wholly c n) (executed c (Trace settings micro word) command)

-- ---- a bare image

pub image_read : (bytes : List ℕ) (image : BareContent) → IsBareFile bytes image → (ending : Ending) → ImageFault bytes ending → ending ≡ endings.NoMemory
image_read bytes image is (endings.Refused refusals.BadImage) h = absurd (h image is)
image_read bytes image is endings.NoMemory h = refl
image_read bytes image is ending h = absurd h

module _ (c : Call) (settings : Settings) (show : Show) (n : NothingFailed c) (image : BareContent) (code : blocks_of_code settings image ≤ settings.blocks) (untaken : IsUntaken c.old c.new) where
  bare_ran : (ending : Ending) → IsWholly c ending → bare.RanImageWith settings show image (lent_without_input c.old) (lent_without_input c.new) ending → RanBare c settings show image ⊎ LacksMemory c
  bare_ran (endings.Ended counts) w h =
      inl (record {
        config = h.config;
        has = h.has;
        ran = ended c [] (bare_setting image settings.stack h.config.memory) (bare_reset settings.stack image h.config) settings.cycles (lent_without_input c.old) (lent_without_input c.new) (bare_shown show) counts h.ran w;
        input = untaken;
      })
  bare_ran (endings.Spent counts) w h =
      inl (record {
        config = h.config;
        has = h.has;
        ran = spent c [] (bare_setting image settings.stack h.config.memory) (bare_reset settings.stack image h.config) settings.cycles (lent_without_input c.old) (lent_without_input c.new) (bare_shown show) counts h.ran w;
        input = untaken;
      })
  bare_ran endings.WriteFault w h = absurd (unfailed (lent_without_input c.old) (lent_without_input c.new) h.ran.fault (λ rose. omega (arith, rose)) n.out h.ran.ran.rose)
  bare_ran endings.NoMemory w h = inr (record { outcome = w.outcome; quiet = quiet_without c.old c.new untaken h.ran })
  bare_ran ending w h = absurd h.ran

  bare_ends : (ending : Ending) → IsWholly c ending → bare.IsCodeTooLong settings image (lent_without_input c.old) (lent_without_input c.new) ending ⊎ bare.RanImageWith settings show image (lent_without_input c.old) (lent_without_input c.new) ending
      → RanBare c settings show image ⊎ LacksMemory c
  bare_ends ending w (inl long) = absurd (omega (arith, code, long.blocks))
  bare_ends ending w (inr ran) = bare_ran ending w ran

bare_bytes : OneBareImage → (c : Call) (settings : Settings) (show : Show) (word : ℕ) (image : BareContent) → (holds : HoldsBare c settings word image) → NothingFailed c → IsUntaken c.old c.new → (ending : Ending) → IsWholly c ending
    → RunsBareBytes settings show holds.bytes (lent_without_input c.old) (lent_without_input c.new) ending → RanBare c settings show image ⊎ LacksMemory c
bare_bytes one c settings show word image holds n untaken ending w h =
    ⊎_elim
    (λ fault. inr (lacks c ending w (image_read holds.bytes image holds.is_file ending fault.0) (quiet_without c.old c.new untaken fault.1)))
    (λ r.
    let same : r.image ≡ image = one holds.bytes r.image image r.bare holds.is_file in
    bare_ends c settings show n image holds.code untaken ending w
    (subst (λ (i : BareContent). bare.IsCodeTooLong settings i (lent_without_input c.old) (lent_without_input c.new) ending ⊎ bare.RanImageWith settings show i (lent_without_input c.old) (lent_without_input c.new) ending) same r.ran))
    h

bare_file : OneBareImage → (c : Call) (settings : Settings) (show : Show) (word : ℕ) (image : BareContent) → HoldsBare c settings word image → NothingFailed c → (ending : Ending) → IsWholly c ending
    → RunsFile settings show word c.old c.new ending → RanBare c settings show image ⊎ LacksMemory c
bare_file one c settings show word image holds n ending w h =
    ⊎_elim
    (λ fault. inr (lacks c ending w (file_read c word holds.bytes holds.told n ending fault.0) fault.1))
    (λ read. ⊎_elim
    (λ r.
    let same : r.bytes ≡ holds.bytes = same_bytes c word holds.bytes r.bytes holds.told r.reads in
    bare_bytes one c settings show word image holds n r.input ending w (subst (λ (bytes : List ℕ). RunsBareBytes settings show bytes (lent_without_input c.old) (lent_without_input c.new) ending) same r.runs))
    (λ r.
    let same : r.bytes ≡ holds.bytes = same_bytes c word holds.bytes r.bytes holds.told r.reads.reads in
    let clash : true ≡ false = sym r.reads.linked ∙ (ap is_linked same ∙ begins_bare holds.bytes image holds.is_file) in
    absurd (cc))
    read)
    h

pub bare_runs_are_the_bytecodes : OneBareImage → BareRunsAreTheBytecodes
bare_runs_are_the_bytecodes one c settings word image command holds n =
    bare_file one c settings shows.Output word image holds n c.answered.ending (wholly c n) (executed c (Run settings word) command)

pub bare_traces_are_the_runs : OneBareImage → BareTracesAreTheRuns
bare_traces_are_the_runs one c settings micro word image command holds n =
    bare_file one c settings (shows.Trace micro) word image holds n c.answered.ending (wholly c n) (executed c (Trace settings micro word) command)
