-- What refuses a text is one, and is answered.
use Rattle.std.proofs.Common.{◌≡◌, ◌⊎◌, ℕ, ◌+◌, true, false, List, [], ◌∷◌, ◌++◌, Contains, Some, None, refl, sym, ◌∙◌, ap, subst, inl, inr, ⊎_elim}
use Rattle.std.specs.Prelude.{◌≢◌, Vec, Ok}
use Rattle.std.specs.declared.alloc.Global.{Global}
use Rattle.lists.proofs.Lemmas.{none≢some, some_same}
use Rattle.lists.specs.Members.{heads, tails, at_head, in_tail}
use Rattle.class_pool.specs.declared.class.ClassFile.{ClassFile}
use Rattle.name_laws.specs.Written.{written_name}
use Rattle.program_tables.specs.Resolved.{resolved}
use Rattle.bytecode_model.specs.Program.{body_of}
use Rattle.outside.specs.Outside.{Grew}
use Rattle.bound_texts.specs.Loops.Bounds.{LoopBound}
use Rattle.bound_texts.specs.Loops.Grammar.{IsRead}
use Rattle.bound_texts.specs.Loops.Laws.{ReadIsNotRefused, ReadLengthsAreNotRefused}
use Rattle.bound_texts.specs.declared.loops.BoundsFault.TheVariants as texts
use Rattle.bound_texts.specs.Sources.Notes.{Note}
use Rattle.bound_texts.specs.Sources.Grammar.{AreNotesRead}
use Rattle.bound_texts.specs.Sources.Laws.{NotesGiveOne, ReadNotesAreNotRefused}
use Rattle.bound_texts.specs.declared.sources.SourceFault.TheVariants as sources
use Rattle.text_laws.specs.Faults.{BoundsFaultsAreOne, LengthFaultsAreOne, NoteFaultsAreOne}
use Rattle.answer_lines.specs.declared.analysis.AnalysisFault.{AnalysisFault}
use Rattle.answer_lines.specs.declared.analysis.AnalysisFault.TheVariants as analysis
use Rattle.answer_lines.specs.BoundsFaults.{IsBoundsFault}
use Rattle.analysis_commands.specs.Analysis.{IsAnalysisFault}
use Rattle.analysis_commands.specs.declared.check.CheckRefusal.{CheckRefusal}
use Rattle.analysis_commands.specs.declared.check.CheckRefusal.TheVariants as check
use Rattle.analysis_commands.specs.Checking.{IsCheckRefusal}
use Rattle.analysis_commands.specs.declared.bound.NotBounded.{NotBounded}
use Rattle.analysis_commands.specs.declared.bound.NotBounded.TheVariants as bound
use Rattle.analysis_commands.specs.Bounding.{IsNotBounded}
use Rattle.analysis_commands.specs.declared.memory.MemoryRefusal.{MemoryRefusal}
use Rattle.analysis_commands.specs.declared.memory.MemoryRefusal.TheVariants as needs
use Rattle.analysis_commands.specs.declared.memory.Given.{Given}
use Rattle.analysis_commands.specs.Memory.{IsGivenBy, IsBadText, IsMemoryRefusal}
use Rattle.source_headers.specs.declared.fault.HeaderFault.{HeaderFault}
use Rattle.source_headers.specs.declared.fault.HeaderFault.TheVariants as headers
use Rattle.source_headers.specs.Files.{IsHeaderFile, IsHeaderFault, IsLinesFault}
use Rattle.source_headers.specs.Straying.{IsStray, IsFirstStray, subject_text}
use Rattle.answer_lines.specs.declared.unanswered.Cause.TheVariants.{NoLoop}
use Rattle.jopizer.specs.Linked.{Parts}
use Rattle.jopizer.specs.Laws.{OneLinked, LinkedImagesAreRead}
use Rattle.command_line.specs.declared.command.Settings.{Settings}
use Rattle.endings.specs.declared.outcome.Ending.{Ending}
use Rattle.endings.specs.declared.outcome.Ending.TheVariants as endings
use Rattle.endings.specs.declared.outcome.Answer.TheVariants.{Text, Ends}
use Rattle.endings.specs.Line.{line_of, text_of_word}
use Rattle.endings.specs.World.{IsQuiet}
use Rattle.endings.specs.Fitting.{CodesFit}
use Rattle.endings.specs.AnalysisFaults.{fault_ending}
use Rattle.ask_commands.specs.declared.asking.Question.{Question}
use Rattle.ask_commands.specs.declared.asking.Question.TheVariants as questions
use Rattle.ask_commands.specs.declared.asking.Asked.{Asked}
use Rattle.ask_commands.specs.Asking.{IsAnswer}
use Rattle.ask_commands.specs.AllBounds.{SaysBounds, EndsUnanalysed}
use Rattle.ask_commands.specs.Bounding.{cause_ending, Bounds, EndsNotBounded}
use Rattle.ask_commands.specs.Checking.{refusal_ending, Checks}
use Rattle.ask_commands.specs.Headers.{header_ending}
use Rattle.ask_commands.specs.Needs.{memory_ending}
use Rattle.ask_commands.specs.Reporting.{SaysReport}
use Rattle.jop_cli.specs.Answer.{outcome_of}
use Rattle.jop_cli.specs.Calls.{Call, NothingFailed, LacksMemory}
use Rattle.jop_cli.specs.promises.Answers.{AnswersEnding}
use Rattle.jop_cli.specs.promises.Refusals.{cache_asked}
use Rattle.jop_cli.specs.promises.Texts.{AsksLinked, AnswersStray, BadBoundsAreRefused, BadSizesAreRefused, BadLinesAreRefused, StrayLinesAreRefused}
use Rattle.jop_cli.proofs.Wholly.{IsWholly, wholly, executed, lacks}
use Rattle.jop_cli.proofs.RunningLaw.{not_more}
use Rattle.jop_cli.proofs.AnsweringLaw.{asks}
use Rattle.jop_cli.proofs.AskingLaw.{Comes, comes}
use Rattle.jop_cli.proofs.AskingLaw as asked

-- ---- faults that aren't want of memory

line_stands : (n : ℕ) → texts.Line n ≢ texts.NoMemory
line_stands n e = absurd (cc)

twice_stands : (n : ℕ) → texts.Twice n ≢ texts.NoMemory
twice_stands n e = absurd (cc)

note_stands : (n : ℕ) → sources.Line n ≢ sources.NoMemory
note_stands n e = absurd (cc)

noted_stands : (n : ℕ) → sources.Twice n ≢ sources.NoMemory
noted_stands n e = absurd (cc)

-- the ending is this one, or there was no memory
abbrev IsToldBy : (told ending : Ending) → Type 0
IsToldBy told ending = (ending ≡ told) ⊎ (ending ≡ endings.NoMemory)

-- ---- bounds

module _ (one : BoundsFaultsAreOne) (not_refused : ReadIsNotRefused) (l : Parts) (s : Settings) (codes : CodesFit s l) (files : List (List ℕ)) (fault : AnalysisFault)
    (refused : IsBoundsFault (text_of_word files 1) fault) (stands : fault ≢ analysis.NoMemory) where
  no_bounds : (f : AnalysisFault) (bs : List LoopBound) → IsBoundsFault (text_of_word files 1) f → f ≢ analysis.NoMemory → IsRead (text_of_word files 1) bs → ⊥
  no_bounds (analysis.MethodTooLong m name blocks) bs h u read = h
  no_bounds (analysis.BadBounds line) bs h u read = line_stands line (not_refused (text_of_word files 1) bs (texts.Line line) read h)
  no_bounds (analysis.TwiceBound line) bs h u read = twice_stands line (not_refused (text_of_word files 1) bs (texts.Twice line) read h)
  no_bounds analysis.NoMemory bs h u read = u refl

  not_read : (bs : List LoopBound) → IsRead (text_of_word files 1) bs → ⊥
  not_read bs read = no_bounds fault bs refused stands read

  same_fault : (a b : AnalysisFault) → IsAnalysisFault l.classes s (text_of_word files 1) a → IsBoundsFault (text_of_word files 1) b → a ≢ analysis.NoMemory
      → b ≢ analysis.NoMemory → a ≡ b
  same_fault (analysis.MethodTooLong m name blocks) b h k u v =
      absurd (not_more (body_of (resolved l.classes) m) s.blocks s.block_words blocks h.0.code (codes m) h.0.more)
  same_fault (analysis.BadBounds n) (analysis.MethodTooLong m name blocks) h k u v = absurd k
  same_fault (analysis.BadBounds n) (analysis.BadBounds m) h k u v =
      let e : texts.Line n ≡ texts.Line m = one (text_of_word files 1) (texts.Line n) (texts.Line m) (line_stands n) (line_stands m) h.1 k in
      let same : n ≡ m = cc e in
      ap analysis.BadBounds same
  same_fault (analysis.BadBounds n) (analysis.TwiceBound m) h k u v =
      let e : texts.Line n ≡ texts.Twice m = one (text_of_word files 1) (texts.Line n) (texts.Twice m) (line_stands n) (twice_stands m) h.1 k in
      absurd (cc)
  same_fault (analysis.BadBounds n) analysis.NoMemory h k u v = absurd (v refl)
  same_fault (analysis.TwiceBound n) (analysis.MethodTooLong m name blocks) h k u v = absurd k
  same_fault (analysis.TwiceBound n) (analysis.BadBounds m) h k u v =
      let e : texts.Twice n ≡ texts.Line m = one (text_of_word files 1) (texts.Twice n) (texts.Line m) (twice_stands n) (line_stands m) h.1 k in
      absurd (cc)
  same_fault (analysis.TwiceBound n) (analysis.TwiceBound m) h k u v =
      let e : texts.Twice n ≡ texts.Twice m = one (text_of_word files 1) (texts.Twice n) (texts.Twice m) (twice_stands n) (twice_stands m) h.1 k in
      let same : n ≡ m = cc e in
      ap analysis.TwiceBound same
  same_fault (analysis.TwiceBound n) analysis.NoMemory h k u v = absurd (v refl)
  same_fault analysis.NoMemory b h k u v = absurd (u refl)

  module _ (ending : Ending) where
    abbrev IsTold : Type 0
    IsTold = IsToldBy (fault_ending s fault) ending

    fault_told : (other : AnalysisFault) → IsAnalysisFault l.classes s (text_of_word files 1) other → ending ≡ fault_ending s other → IsTold
    fault_told (analysis.MethodTooLong m name blocks) h says =
        absurd (not_more (body_of (resolved l.classes) m) s.blocks s.block_words blocks h.0.code (codes m) h.0.more)
    fault_told (analysis.BadBounds n) h says =
        inl (says ∙ ap (fault_ending s) (same_fault (analysis.BadBounds n) fault h refused (λ e. absurd (cc)) stands))
    fault_told (analysis.TwiceBound n) h says =
        inl (says ∙ ap (fault_ending s) (same_fault (analysis.TwiceBound n) fault h refused (λ e. absurd (cc)) stands))
    fault_told analysis.NoMemory h says = inr says

    refusal_told : (cert_text : List ℕ) (refusal : CheckRefusal) → IsCheckRefusal l.classes s (text_of_word files 1) cert_text refusal → ending ≡ refusal_ending s refusal
        → IsTold
    refusal_told cert_text (check.NoAnalysis other) h says = fault_told other h says
    refusal_told cert_text (check.BadCert line) h says = absurd (not_read h.1.bounds h.1.bounds_read)
    refusal_told cert_text (check.Fails f name) h says = absurd (not_read h.0.bounds h.0.reads.bounds_read)
    refusal_told cert_text check.NoMemory h says = inr says

    check_told : (cert_text : List ℕ) → Checks l.classes s (text_of_word files 1) cert_text ending → IsTold
    check_told cert_text checks =
        ⊎_elim (λ h. absurd (not_read h.shows.meets.bounds h.shows.meets.reads.bounds_read)) (λ r. refusal_told cert_text r.refusal r.cause r.says) checks

    cause_told : (name : List ℕ) (cause : NotBounded) → IsNotBounded l.classes s (text_of_word files 1) name cause → ending ≡ cause_ending s cause → IsTold
    cause_told name (bound.NoAnalysis other) h says = fault_told other h says
    cause_told name (bound.Forbidden cause subject) h says = absurd (not_read h.bounds h.bounds_read)
    cause_told name bound.NoMemory h says = inr says

    unbounded_told : (name : List ℕ) → EndsNotBounded l.classes s (text_of_word files 1) name ending → IsTold
    unbounded_told name e = cause_told name e.cause e.is e.says

  -- no text answers
  no_text : (words : List (List ℕ)) (question : Question) (text : Vec ℕ Global) → cache_asked question ≡ Some s → IsAnswer words question l files (Text text) → ⊥
  no_text words (questions.Check x) text is answer = answer
  no_text words (questions.Bound x method) text is answer = not_read answer.is.bounds answer.is.bounds_read
  no_text words (questions.Bounds x) text is answer = not_read answer.bounds answer.read
  no_text words (questions.Shapes x method) text is answer = none≢some s is
  no_text words (questions.Report x method) text is answer = not_read answer.bounds answer.read
  no_text words (questions.Loops further) text is answer = none≢some s is
  no_text words questions.Headers text is answer = none≢some s is
  no_text words questions.Memory text is answer = none≢some s is
  no_text words (questions.Rtl x) text is answer = none≢some s is

  -- the line says the fault
  line_told : (words : List (List ℕ)) (question : Question) (ending : Ending) → cache_asked question ≡ Some s → IsAnswer words question l files (Ends ending)
      → IsToldBy (fault_ending s fault) ending
  line_told words (questions.Check x) ending is answer =
      check_told ending (text_of_word files 2)
      (subst (λ (y : Settings). Checks l.classes y (text_of_word files 1) (text_of_word files 2) ending) (some_same x s is) answer)
  line_told words (questions.Bound x method) ending is answer =
      unbounded_told ending (text_of_word words method)
      (subst (λ (y : Settings). EndsNotBounded l.classes y (text_of_word files 1) (text_of_word words method) ending) (some_same x s is) answer)
  line_told words (questions.Bounds x) ending is answer =
      let e : EndsUnanalysed l.classes s (text_of_word files 1) ending =
      subst (λ (y : Settings). EndsUnanalysed l.classes y (text_of_word files 1) ending) (some_same x s is) answer in
      fault_told ending e.fault e.is e.says
  line_told words (questions.Shapes x method) ending is answer = absurd (none≢some s is)
  line_told words (questions.Report x method) ending is answer =
      unbounded_told ending (text_of_word words method)
      (subst (λ (y : Settings). EndsNotBounded l.classes y (text_of_word files 1) (text_of_word words method) ending) (some_same x s is) answer)
  line_told words (questions.Loops further) ending is answer = absurd (none≢some s is)
  line_told words questions.Headers ending is answer = absurd (none≢some s is)
  line_told words questions.Memory ending is answer = absurd (none≢some s is)
  line_told words (questions.Rtl x) ending is answer = absurd (none≢some s is)

-- ---- bounds and lengths

module _ (one : BoundsFaultsAreOne) (lengths_one : LengthFaultsAreOne) (not_refused : ReadIsNotRefused) (not_refused' : ReadLengthsAreNotRefused)
    (bounds_text sizes_text : List ℕ) where
  abbrev IsBad : MemoryRefusal → Type 0
  IsBad r = IsBadText bounds_text sizes_text r

  bounds_line : (n : ℕ) (bs : List LoopBound) → IsBad (needs.BadBounds n) → IsRead bounds_text bs → ⊥
  bounds_line n bs h read = line_stands n (not_refused bounds_text bs (texts.Line n) read h)

  bounds_twice : (n : ℕ) (bs : List LoopBound) → IsBad (needs.TwiceBound n) → IsRead bounds_text bs → ⊥
  bounds_twice n bs h read = twice_stands n (not_refused bounds_text bs (texts.Twice n) read h)

  same_bad : (a b : MemoryRefusal) → IsBad a → IsBad b → a ≢ needs.NoMemory → b ≢ needs.NoMemory → a ≡ b
  same_bad (needs.BadBounds n) (needs.BadBounds m) h k u v =
      let e : texts.Line n ≡ texts.Line m = one bounds_text (texts.Line n) (texts.Line m) (line_stands n) (line_stands m) h k in
      let same : n ≡ m = cc e in
      ap needs.BadBounds same
  same_bad (needs.BadBounds n) (needs.TwiceBound m) h k u v =
      let e : texts.Line n ≡ texts.Twice m = one bounds_text (texts.Line n) (texts.Twice m) (line_stands n) (twice_stands m) h k in
      absurd (cc)
  same_bad (needs.BadBounds n) (needs.BadSizes m) h k u v = absurd (bounds_line n k.0.0 h k.0.1)
  same_bad (needs.BadBounds n) (needs.TwiceSize m) h k u v = absurd (bounds_line n k.0.0 h k.0.1)
  same_bad (needs.TwiceBound n) (needs.BadBounds m) h k u v =
      let e : texts.Twice n ≡ texts.Line m = one bounds_text (texts.Twice n) (texts.Line m) (twice_stands n) (line_stands m) h k in
      absurd (cc)
  same_bad (needs.TwiceBound n) (needs.TwiceBound m) h k u v =
      let e : texts.Twice n ≡ texts.Twice m = one bounds_text (texts.Twice n) (texts.Twice m) (twice_stands n) (twice_stands m) h k in
      let same : n ≡ m = cc e in
      ap needs.TwiceBound same
  same_bad (needs.TwiceBound n) (needs.BadSizes m) h k u v = absurd (bounds_twice n k.0.0 h k.0.1)
  same_bad (needs.TwiceBound n) (needs.TwiceSize m) h k u v = absurd (bounds_twice n k.0.0 h k.0.1)
  same_bad (needs.BadSizes n) (needs.BadBounds m) h k u v = absurd (bounds_line m h.0.0 k h.0.1)
  same_bad (needs.BadSizes n) (needs.TwiceBound m) h k u v = absurd (bounds_twice m h.0.0 k h.0.1)
  same_bad (needs.BadSizes n) (needs.BadSizes m) h k u v =
      let e : texts.Line n ≡ texts.Line m = lengths_one sizes_text (texts.Line n) (texts.Line m) (line_stands n) (line_stands m) h.1 k.1 in
      let same : n ≡ m = cc e in
      ap needs.BadSizes same
  same_bad (needs.BadSizes n) (needs.TwiceSize m) h k u v =
      let e : texts.Line n ≡ texts.Twice m = lengths_one sizes_text (texts.Line n) (texts.Twice m) (line_stands n) (twice_stands m) h.1 k.1 in
      absurd (cc)
  same_bad (needs.TwiceSize n) (needs.BadBounds m) h k u v = absurd (bounds_line m h.0.0 k h.0.1)
  same_bad (needs.TwiceSize n) (needs.TwiceBound m) h k u v = absurd (bounds_twice m h.0.0 k h.0.1)
  same_bad (needs.TwiceSize n) (needs.BadSizes m) h k u v =
      let e : texts.Twice n ≡ texts.Line m = lengths_one sizes_text (texts.Twice n) (texts.Line m) (twice_stands n) (line_stands m) h.1 k.1 in
      absurd (cc)
  same_bad (needs.TwiceSize n) (needs.TwiceSize m) h k u v =
      let e : texts.Twice n ≡ texts.Twice m = lengths_one sizes_text (texts.Twice n) (texts.Twice m) (twice_stands n) (twice_stands m) h.1 k.1 in
      let same : n ≡ m = cc e in
      ap needs.TwiceSize same
  same_bad (needs.NoNeed cause subject) b h k u v = absurd h
  same_bad needs.NoMemory b h k u v = absurd (u refl)
  same_bad a (needs.NoNeed cause subject) h k u v = absurd k
  same_bad a needs.NoMemory h k u v = absurd (v refl)

  none_given : (r : MemoryRefusal) (g : Given) → IsBad r → r ≢ needs.NoMemory → IsGivenBy bounds_text sizes_text g → ⊥
  none_given (needs.BadBounds n) g h u is = bounds_line n g.bounds h is.bounds
  none_given (needs.TwiceBound n) g h u is = bounds_twice n g.bounds h is.bounds
  none_given (needs.BadSizes n) g h u is = line_stands n (not_refused' sizes_text g.lengths (texts.Line n) is.lengths h.1)
  none_given (needs.TwiceSize n) g h u is = twice_stands n (not_refused' sizes_text g.lengths (texts.Twice n) is.lengths h.1)
  none_given (needs.NoNeed cause subject) g h u is = h
  none_given needs.NoMemory g h u is = u refl

  module _ (l : Parts) (refusal : MemoryRefusal) (bad : IsBad refusal) (stands : refusal ≢ needs.NoMemory) (ending : Ending) where
    need_told : (other : MemoryRefusal) → IsMemoryRefusal l.classes bounds_text sizes_text other → ending ≡ memory_ending other → IsToldBy (memory_ending refusal) ending
    need_told (needs.BadBounds n) h says = inl (says ∙ ap memory_ending (same_bad (needs.BadBounds n) refusal h bad (λ e. absurd (cc)) stands))
    need_told (needs.TwiceBound n) h says = inl (says ∙ ap memory_ending (same_bad (needs.TwiceBound n) refusal h bad (λ e. absurd (cc)) stands))
    need_told (needs.BadSizes n) h says = inl (says ∙ ap memory_ending (same_bad (needs.BadSizes n) refusal h bad (λ e. absurd (cc)) stands))
    need_told (needs.TwiceSize n) h says = inl (says ∙ ap memory_ending (same_bad (needs.TwiceSize n) refusal h bad (λ e. absurd (cc)) stands))
    need_told (needs.NoNeed cause subject) h says = absurd (none_given refusal h.given bad stands h.is_given)
    need_told needs.NoMemory h says = inr says

-- ---- lines of sources

module _ (one : NoteFaultsAreOne) (not_refused : ReadNotesAreNotRefused) (lines : List ℕ) where
  same_lines : (a b : HeaderFault) → IsLinesFault lines a → IsLinesFault lines b → a ≢ headers.NoMemory → b ≢ headers.NoMemory → a ≡ b
  same_lines (headers.BadLine n) (headers.BadLine m) h k u v =
      let e : sources.Line n ≡ sources.Line m = one lines (sources.Line n) (sources.Line m) (note_stands n) (note_stands m) h k in
      let same : n ≡ m = cc e in
      ap headers.BadLine same
  same_lines (headers.BadLine n) (headers.TwiceLine m) h k u v =
      let e : sources.Line n ≡ sources.Twice m = one lines (sources.Line n) (sources.Twice m) (note_stands n) (noted_stands m) h k in
      absurd (cc)
  same_lines (headers.TwiceLine n) (headers.BadLine m) h k u v =
      let e : sources.Twice n ≡ sources.Line m = one lines (sources.Twice n) (sources.Line m) (noted_stands n) (note_stands m) h k in
      absurd (cc)
  same_lines (headers.TwiceLine n) (headers.TwiceLine m) h k u v =
      let e : sources.Twice n ≡ sources.Twice m = one lines (sources.Twice n) (sources.Twice m) (noted_stands n) (noted_stands m) h k in
      let same : n ≡ m = cc e in
      ap headers.TwiceLine same
  same_lines (headers.Stray subject) b h k u v = absurd h
  same_lines headers.NoMemory b h k u v = absurd (u refl)
  same_lines a (headers.Stray subject) h k u v = absurd k
  same_lines a headers.NoMemory h k u v = absurd (v refl)

  no_notes : (f : HeaderFault) (notes : List Note) → IsLinesFault lines f → f ≢ headers.NoMemory → AreNotesRead lines notes → ⊥
  no_notes (headers.BadLine n) notes h u read = note_stands n (not_refused lines notes (sources.Line n) read h)
  no_notes (headers.TwiceLine n) notes h u read = noted_stands n (not_refused lines notes (sources.Twice n) read h)
  no_notes (headers.Stray subject) notes h u read = h
  no_notes headers.NoMemory notes h u read = u refl

  module _ (l : Parts) (fault : HeaderFault) (refused : IsLinesFault lines fault) (stands : fault ≢ headers.NoMemory) (ending : Ending) where
    header_told : (other : HeaderFault) → IsHeaderFault l.classes lines other → ending ≡ header_ending other → IsToldBy (header_ending fault) ending
    header_told (headers.BadLine n) h says = inl (says ∙ ap header_ending (same_lines (headers.BadLine n) fault h refused (λ e. absurd (cc)) stands))
    header_told (headers.TwiceLine n) h says = inl (says ∙ ap header_ending (same_lines (headers.TwiceLine n) fault h refused (λ e. absurd (cc)) stands))
    header_told (headers.Stray subject) h says = absurd (no_notes fault h.0 refused stands h.1)
    header_told headers.NoMemory h says = inr says

-- ---- what strays

one_stray : (K : Note → Type 0) (b : List Note) (n : Note) (a b' : List Note) (n' : Note) (a' : List Note) → b ++ n ∷ a ≡ b' ++ n' ∷ a'
    → ((x : Note) → Contains b x → ¬ K x) → K n → ((x : Note) → Contains b' x → ¬ K x) → K n' → n ≡ n'
one_stray K [] n a [] n' a' e first is first' is' = heads n n' a a' e
one_stray K [] n a (x ∷ b') n' a' e first is first' is' = absurd (first' x (at_head x b') (subst K (heads n x a (b' ++ n' ∷ a') e) is))
one_stray K (x ∷ b) n a [] n' a' e first is first' is' = absurd (first x (at_head x b) (subst K (sym (heads x n' (b ++ n ∷ a) a' e)) is'))
one_stray K (x ∷ b) n a (y ∷ b') n' a' e first is first' is' =
    one_stray K b n a b' n' a' (tails x y (b ++ n ∷ a) (b' ++ n' ∷ a') e) (λ z c. first z (in_tail x z b c)) is (λ z c. first' z (in_tail y z b' c)) is'

among : (b : List Note) (n : Note) (a : List Note) → Contains (b ++ n ∷ a) n
among [] n a = at_head n a
among (x ∷ b) n a = in_tail x n (b ++ n ∷ a) (among b n a)

module _ (gives : NotesGiveOne) (not_refused : ReadNotesAreNotRefused) (cs : List ClassFile) (lines : List ℕ) (notes : List Note) (subject : List ℕ)
    (read : AreNotesRead lines notes) (stray : IsFirstStray cs (written_name cs) notes subject) where
  abbrev Strays : Note → Type 0
  Strays n = IsStray cs (written_name cs) n.subject

  no_file : (text : List ℕ) → IsHeaderFile cs lines text → ⊥
  no_file text h =
      let same : notes ≡ h.notes = gives lines notes h.notes read h.read in
      let there : Contains h.notes stray.note =
      subst (λ (ns : List Note). Contains ns stray.note) (sym stray.parts ∙ same) (among stray.before stray.note stray.after) in
      h.used stray.note there stray.stray

  same_subject : (other : List ℕ) (found : List Note) → AreNotesRead lines found → IsFirstStray cs (written_name cs) found other → other ≡ subject
  same_subject other found is f =
      let same : found ≡ notes = gives lines found notes is read in
      let note : f.note ≡ stray.note =
      one_stray Strays f.before f.note f.after stray.before stray.note stray.after (sym f.parts ∙ (same ∙ stray.parts)) f.first f.stray stray.first stray.stray in
      f.text_is ∙ (ap (λ (n : Note). subject_text n.subject) note ∙ sym stray.text_is)

-- ---- what is answered

ending_answers : (c : Call) (ending told : Ending) → IsWholly c ending → IsQuiet c.old c.new → ending ≡ told → AnswersEnding c told
ending_answers c ending told w quiet e = record {
  outcome = w.outcome ∙ ap outcome_of e;
  line = subst (λ (x : List ℕ). Grew c.err_old c.err_new x) (ap (line_of c.words) e) w.line;
  quiet = quiet;
}

told_answers : (c : Call) (ending told : Ending) → IsWholly c ending → IsQuiet c.old c.new → IsToldBy told ending → AnswersEnding c told ⊎ LacksMemory c
told_answers c ending told w quiet by =
    ⊎_elim
    (λ e. inl (ending_answers c ending told w quiet e))
    (λ e. inr (lacks c ending w e quiet))
    by

-- what comes of a question to which no text is right, and each line tells this ending
comes_told : (c : Call) (a : Asked) (l : Parts) (files : List (List ℕ)) (told : Ending) → ((text : Vec ℕ Global) → IsAnswer c.words a.question l files (Text text) → ⊥)
    → ((ending : Ending) → IsAnswer c.words a.question l files (Ends ending) → IsToldBy told ending) → (ending : Ending) → IsWholly c ending → Comes c a l files ending
    → AnswersEnding c told ⊎ LacksMemory c
comes_told c a l files told no_text lines ending w (asked.puts text is written put sound) = absurd (no_text text is)
comes_told c a l files told no_text lines ending w (asked.says is quiet sound) = told_answers c ending told w quiet (lines ending is)
comes_told c a l files told no_text lines ending w (asked.lacking is quiet) = inr (lacks c ending w is quiet)

question_comes : OneLinked → LinkedImagesAreRead → (c : Call) (a : Asked) (l : Parts) (files : List (List ℕ)) → AsksLinked c a l files → NothingFailed c
    → Comes c a l files c.answered.ending
question_comes linked_one images c a l files h n =
    let many : a.image + a.operands ≡ c.old.words = ap (λ (k : ℕ). a.image + k) (sym h.long) ∙ h.told.many in
    comes linked_one images c n a l files many h.told h.is_linked h.is_file c.answered.ending
    (asks c.words h.command a c.old c.new c.answered.ending h.does (executed c h.command h.said))

pub bad_bounds_are_refused : OneLinked → LinkedImagesAreRead → BoundsFaultsAreOne → ReadIsNotRefused → BadBoundsAreRefused
bad_bounds_are_refused linked_one images one not_refused c a l files s fault h asks_it codes refused stands n =
    comes_told c a l files (fault_ending s fault)
    (λ text is. no_text one not_refused l s codes files fault refused stands c.words a.question text asks_it is)
    (λ ending is. line_told one not_refused l s codes files fault refused stands c.words a.question ending asks_it is)
    c.answered.ending (wholly c n) (question_comes linked_one images c a l files h n)

pub bad_sizes_are_refused : OneLinked → LinkedImagesAreRead → BoundsFaultsAreOne → LengthFaultsAreOne → ReadIsNotRefused → ReadLengthsAreNotRefused → BadSizesAreRefused
bad_sizes_are_refused linked_one images one lengths_one not_refused not_refused' c a l files refusal h asks_it bad stands n =
    let bounds_text = text_of_word files 1 in
    let sizes_text = text_of_word files 2 in
    comes_told c a l files (memory_ending refusal)
    (λ text is.
    let answer = subst (λ (q : Question). IsAnswer c.words q l files (Text text)) asks_it is in
    none_given one lengths_one not_refused not_refused' bounds_text sizes_text refusal answer.is.given bad stands answer.is.is_given)
    (λ ending is.
    let answer = subst (λ (q : Question). IsAnswer c.words q l files (Ends ending)) asks_it is in
    need_told one lengths_one not_refused not_refused' bounds_text sizes_text l refusal bad stands ending answer.refusal answer.is answer.says)
    c.answered.ending (wholly c n) (question_comes linked_one images c a l files h n)

pub bad_lines_are_refused : OneLinked → LinkedImagesAreRead → NoteFaultsAreOne → ReadNotesAreNotRefused → BadLinesAreRefused
bad_lines_are_refused linked_one images one not_refused c a l files fault h asks_it refused stands n =
    let lines = text_of_word files 1 in
    comes_told c a l files (header_ending fault)
    (λ text is.
    let answer = subst (λ (q : Question). IsAnswer c.words q l files (Text text)) asks_it is in
    no_notes one not_refused lines fault answer.notes refused stands answer.read)
    (λ ending is.
    let answer = subst (λ (q : Question). IsAnswer c.words q l files (Ends ending)) asks_it is in
    header_told one not_refused lines l fault refused stands ending answer.fault answer.is answer.says)
    c.answered.ending (wholly c n) (question_comes linked_one images c a l files h n)

-- the line names what strays
stray_comes : NotesGiveOne → ReadNotesAreNotRefused → (c : Call) (a : Asked) (l : Parts) (files : List (List ℕ)) (notes : List Note) (subject : List ℕ)
    → a.question ≡ questions.Headers → AreNotesRead (text_of_word files 1) notes → IsFirstStray l.classes (written_name l.classes) notes subject → (ending : Ending)
    → IsWholly c ending → Comes c a l files ending → AnswersStray c subject ⊎ LacksMemory c
stray_comes gives not_refused c a l files notes subject asks_it read stray ending w (asked.puts text is written put sound) =
    let answer = subst (λ (q : Question). IsAnswer c.words q l files (Text text)) asks_it is in
    absurd (no_file gives not_refused l.classes (text_of_word files 1) notes subject read stray text.items answer)
stray_comes gives not_refused c a l files notes subject asks_it read stray ending w (asked.says is quiet sound) =
    let answer = subst (λ (q : Question). IsAnswer c.words q l files (Ends ending)) asks_it is in
    by answer.fault answer.is answer.says
  where
    by : (fault : HeaderFault) → IsHeaderFault l.classes (text_of_word files 1) fault → ending ≡ header_ending fault → AnswersStray c subject ⊎ LacksMemory c
    by (headers.BadLine n) h says = absurd (note_stands n (not_refused (text_of_word files 1) notes (sources.Line n) read h))
    by (headers.TwiceLine n) h says = absurd (noted_stands n (not_refused (text_of_word files 1) notes (sources.Twice n) read h))
    by (headers.Stray named) h says =
        inl
        (record {
          named = named;
          names = same_subject gives not_refused l.classes (text_of_word files 1) notes subject read stray named.items h.0 h.1 h.2;
          answers = ending_answers c ending (endings.NotAnswered NoLoop named) w quiet says;
        })
    by headers.NoMemory h says = inr (lacks c ending w says quiet)
stray_comes gives not_refused c a l files notes subject asks_it read stray ending w (asked.lacking is quiet) = inr (lacks c ending w is quiet)

pub stray_lines_are_refused : OneLinked → LinkedImagesAreRead → NotesGiveOne → ReadNotesAreNotRefused → StrayLinesAreRefused
stray_lines_are_refused linked_one images gives not_refused c a l files notes subject h asks_it read stray n =
    stray_comes gives not_refused c a l files notes subject asks_it read stray c.answered.ending (wholly c n) (question_comes linked_one images c a l files h n)
