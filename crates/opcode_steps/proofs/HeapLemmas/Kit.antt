-- Words that lie in the memory, and items of lists.
use Rattle.std.proofs.Common.{ℕ, ◌+◌, ◌-◌, ◌<◌, List, ◌∷◌, length, sym, subst, arith, add-zero}
use Rattle.std.specs.Prelude.{slice_index}
use Rattle.machine_stands.proofs.Fixed.{within_lie}
use Rattle.machine_stands.proofs.Memory.{lie_padded}
use Rattle.jop_core.specs.State as machine
use Rattle.bytecode_model.specs.State.{State}
use Rattle.bytecode_model.specs.Program.{Program}
use Rattle.image_facts.specs.Within.{LieAt}
use Rattle.image_facts.specs.Places.{Places, words_with}
use Rattle.image_facts.specs.Laws.{WordsAreRead, ListsGoOn}
use Rattle.machine_stands.specs.StandsFor.{StandsFor}
use Rattle.opcode_steps.specs.Heap.Reading.{Reads}

-- ---- words of the memory

-- one of the words that lie among those of the image
pub word_at : WordsAreRead → ListsGoOn → (P : Program) (pl : Places) (n size : ℕ) (m : machine.MachineState) (s : State) (place : ℕ) (words : List ℕ) (k : ℕ) → StandsFor P pl n size m s
    → LieAt (words_with P pl s.statics s.objects) place words → k < length words → Reads size m (place + k) (slice_index words k)
word_at read ahead P pl n size m s place words k st l less =
    let lie : LieAt m.port.words place words = subst (λ (ws : List ℕ). LieAt ws place words) (sym st.memory) (lie_padded size (words_with P pl s.statics s.objects) place words ahead l) in
    record { within = omega (arith, within_lie m.port.words place words k lie less, st.sizes.memory); word_is = read m.port.words place words k lie less }

-- so the first one
pub first_at : WordsAreRead → ListsGoOn → (P : Program) (pl : Places) (n size : ℕ) (m : machine.MachineState) (s : State) (place word : ℕ) (words : List ℕ) → StandsFor P pl n size m s
    → LieAt (words_with P pl s.statics s.objects) place (word ∷ words) → Reads size m place word
first_at read ahead P pl n size m s place word words st l =
    let some : 0 < length (word ∷ words) = omega arith in
    let r = word_at read ahead P pl n size m s place (word ∷ words) 0 st l some in
    subst (λ (k : ℕ). Reads size m k word) (add-zero place) r
