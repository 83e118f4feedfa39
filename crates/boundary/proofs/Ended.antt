-- How the program ended over which a machine has halted.
use Rattle.std.proofs.Common.{◌≡◌, ◌≢◌, ℕ, ◌+◌, ◌-◌, ◌<◌, ◌≤◌, true, List, ◌∷◌, length, Option, Some, None, refl, sym, ◌∙◌, ap, subst, arith, add-zero, ⊎_elim}
use Rattle.std.specs.Prelude.{slice_get, slice_index}
use Rattle.image_file.specs.Bare.{BareContent}
use Rattle.machine_memory.specs.Timing.Port.{padded}
use Rattle.jop_core.specs.declared.halt.Halt.{Halt}
use Rattle.jop_core.specs.declared.halt.Halt.TheVariants as halts
use Rattle.jop_core.specs.declared.places.TheConstants.{RAISED}
use Rattle.jop_core.specs.State as machine
use Rattle.jop_core.specs.Reset.{uncaught_of}
use Rattle.bytecode_model.specs.declared.Ending.{Ending}
use Rattle.bytecode_model.specs.declared.Ending.TheVariants.{Running, Raising, Ended, Uncaught}
use Rattle.bytecode_model.specs.Types.{OfClass}
use Rattle.bytecode_model.specs.State.{State}
use Rattle.bytecode_model.specs.Program.{Program, kind_of}
use Rattle.bytecode_model.specs.Effects.{component_of}
use Rattle.bytecode_typing.specs.Laws.{FittingStatesAreWellFormed}
use Rattle.image_facts.specs.Within.{LieAt}
use Rattle.image_facts.specs.Words.{object_image}
use Rattle.image_facts.specs.Places.{object_place, words_with}
use Rattle.image_facts.specs.Says.{SaysLinked, SaysAll, SaysType, instance_words, counted_type}
use Rattle.image_facts.specs.Laws.{WordsAreRead, ListsGoOn, ObjectsLie}
use Rattle.machine_stands.specs.Bare as bare
use Rattle.machine_stands.specs.Fixed.{FixedWordsAreRead}
use Rattle.machine_stands.specs.StandsFor.{IsAtUncaught}
use Rattle.boundary.specs.declared.answer.Boundary.TheVariants as answers
use Rattle.boundary.specs.Answers.{answer_of, answer_at_end}
use Rattle.boundary.specs.Setting.{Setting, limits, IsSetting, Stands}
use Rattle.boundary.specs.Session.{HasEnded, EndsWith}
use Rattle.boundary.proofs.Stages.{some_is, if_at, at_mode}

pub record EndLaws : Type 0 where
  pub well : FittingStatesAreWellFormed
  pub fixed : FixedWordsAreRead
  pub objects : ObjectsLie
  pub ahead : ListsGoOn
  pub read : WordsAreRead

lie_padded : ListsGoOn → (size : ℕ) (whole : List ℕ) (place : ℕ) (words : List ℕ) → LieAt whole place words → LieAt (padded whole size) place words
lie_padded ahead size whole place words l =
    let d = ahead whole whole _ place words words (record { before = l.before; after = l.after; split = l.split; changed = l.split; place_is = l.place_is }) in
    record { before = d.before; after = d.after; split = d.split; place_is = d.place_is }

-- a type of a class is one of a linked program
linked_by : (g : Setting) (t c : ℕ) → IsSetting g → slice_get g.program.types t ≡ Some (OfClass c) → g.program.linked ≡ true
linked_by g t c is class = ⊎_elim (λ linked. linked) (λ (image, grammar, same). absurd (none image (ap (λ (P : Program). slice_get P.types t) (sym same) ∙ class))) is.origin
  where
    none : (image : BareContent) → slice_get (bare.program_of image).types t ≡ Some (OfClass c) → ⊥
    none image h = cc

halted_over : (m : machine.MachineState) (number : ℕ) → m.halt ≡ halts.Uncaught → slice_index m.port.words (slice_index m.port.words (slice_index m.stack RAISED)) ≡ number → uncaught_of m ≡ Some number
halted_over m number halted is =
    ap (λ (h : Halt). elim h [ halts.Uncaught ↦ Some (slice_index m.port.words (slice_index m.port.words (slice_index m.stack RAISED))) | _ ↦ None ]) halted ∙ ap Some is

halted_at_end : (m : machine.MachineState) → m.halt ≡ halts.Ended → uncaught_of m ≡ None
halted_at_end m halted =
    ap (λ (h : Halt). elim h [ halts.Uncaught ↦ Some (slice_index m.port.words (slice_index m.port.words (slice_index m.stack RAISED))) | _ ↦ None ]) halted

-- the number of the type of the object that wasn't caught
number_is : EndLaws → (g : Setting) (m : machine.MachineState) (s : State) (c : ℕ) → IsSetting g → Stands g m s → s.mode ≡ Uncaught c → uncaught_of m ≡ Some (8 + c)
number_is laws g m s c is stage mode =
    let P = g.program in
    let pl = g.places in
    let st = stage.stands in
    let well = laws.well P g.types (limits g) is.typed s stage.fits in
    let at : IsAtUncaught P pl m s c = at_mode P pl m s st.top st.body (Uncaught c) mode st.at in
    let (o, there, class) = some_is (slice_get s.objects at.object) (λ o. kind_of P o ≡ Some (OfClass c)) at.class in
    let says : SaysLinked P pl = subst (λ b. SaysAll b P pl) (linked_by g o.kind c is class) is.says.all in
    let place = object_place P pl s.objects in
    let words = object_image P pl.type place o in
    let lies = lie_padded laws.ahead g.memory (words_with P pl s.statics s.objects) (place at.object) words (laws.objects P pl s.statics s.objects at.object o well.statics there) in
    let some : 0 < length words = omega arith in
    let type_is : slice_index m.port.words (place at.object) ≡ pl.type o.kind =
    ap (λ (ws : List ℕ). slice_index ws (place at.object)) st.memory ∙ ap (λ (k : ℕ). slice_index (padded (words_with P pl s.statics s.objects) g.memory) k) (sym (add-zero (place at.object)))
    ∙ laws.read (padded (words_with P pl s.statics s.objects) g.memory) (place at.object) words 0 lies some in
    let said : SaysType P pl o.kind (OfClass c) = if_at (slice_get P.types o.kind) (OfClass c) (SaysType P pl o.kind) class (says.types o.kind) in
    let record_words : List ℕ = o.kind ∷ instance_words P (OfClass c) ∷ counted_type P (component_of (Some (OfClass c))) ∷ pl.method_table o.kind ∷ pl.interface_table o.kind ∷ said.supertypes in
    let first = laws.fixed P pl g.chip g.memory m s (pl.type o.kind) record_words 0 st well said.words (omega arith) in
    let number : slice_index m.port.words (pl.type o.kind) ≡ o.kind = ap (λ (k : ℕ). slice_index m.port.words k) (sym (add-zero (pl.type o.kind))) ∙ first.1 in
    halted_over m (8 + c) at.halted (ap (λ (k : ℕ). slice_index m.port.words (slice_index m.port.words k)) at.raised ∙ ap (λ (k : ℕ). slice_index m.port.words k) type_is ∙ number ∙ says.class_numbers o.kind c class)

-- a machine that has halted stands for no going state
pub data End (g : Setting) (m : machine.MachineState) (s : State) : Type 0 where
  Returned : s.mode ≡ Ended → uncaught_of m ≡ None → End g m s
  Thrown : (class : ℕ) → s.mode ≡ Uncaught class → uncaught_of m ≡ Some (8 + class) → End g m s

pub end_of : EndLaws → (g : Setting) (m : machine.MachineState) (s : State) → IsSetting g → Stands g m s → m.halt ≢ halts.Running → End g m s
end_of laws g m s is stage halted = by_mode s.mode refl
  where
    by_mode : (mode : Ending) → s.mode ≡ mode → End g m s
    by_mode Running e = let st = stage.stands in absurd (halted (at_mode g.program g.places m s st.top st.body Running e st.at).running)
    by_mode (Raising p) e = let st = stage.stands in absurd (halted (at_mode g.program g.places m s st.top st.body (Raising p) e st.at).running)
    by_mode Ended e = let st = stage.stands in Returned e (halted_at_end m (at_mode g.program g.places m s st.top st.body Ended e st.at))
    by_mode (Uncaught c) e = Thrown c e (number_is laws g m s c is stage e)

-- the machine says that the program returned
pub ends_returned : EndLaws → (m : machine.MachineState) → HasEnded m → None ≡ uncaught_of m → EndsWith m None
ends_returned laws m ended none g s is stage = by_end (end_of laws g m s is stage ended.halted)
  where
    by_end : End g m s → answer_of s.mode ≡ answer_at_end None
    by_end (Returned mode number) = ap answer_of mode
    by_end (Thrown c mode number) = let clash : ◌≡◌ {A = Option ℕ} None (Some (8 + c)) = none ∙ number in absurd (cc)

-- or gives the number of a type
pub ends_uncaught : EndLaws → (m : machine.MachineState) (number : ℕ) → HasEnded m → Some number ≡ uncaught_of m → EndsWith m (Some (number - 8))
ends_uncaught laws m number ended some g s is stage = by_end (end_of laws g m s is stage ended.halted)
  where
    same : (a b : ℕ) → ◌≡◌ {A = Option ℕ} (Some a) (Some b) → a ≡ b
    same a b h = cc

    by_end : End g m s → answer_of s.mode ≡ answer_at_end (Some (number - 8))
    by_end (Returned mode none) = let clash : ◌≡◌ {A = Option ℕ} (Some number) None = some ∙ none in absurd (cc)
    by_end (Thrown c mode is_number) = let is : c ≡ number - 8 = omega (arith, same number (8 + c) (some ∙ is_number)) in ap answer_of mode ∙ ap (λ (k : ℕ). answers.Uncaught k) is

pub number_large : EndLaws → (m : machine.MachineState) (number : ℕ) → HasEnded m → Some number ≡ uncaught_of m → 8 ≤ number
number_large laws m number ended some = by_end (end_of laws ended.setting m ended.state ended.is_setting ended.stands ended.halted)
  where
    same : (a b : ℕ) → ◌≡◌ {A = Option ℕ} (Some a) (Some b) → a ≡ b
    same a b h = cc

    by_end : End ended.setting m ended.state → 8 ≤ number
    by_end (Returned mode none) = let clash : ◌≡◌ {A = Option ℕ} (Some number) None = some ∙ none in absurd (cc)
    by_end (Thrown c mode is_number) = omega (arith, same number (8 + c) (some ∙ is_number))
