-- Block RAMs behind a clock's edge, one after another.
use Rattle.std.proofs.Common.{◌≡◌, ℕ, zero, suc, ◌+◌, ◌^◌, ◌<◌, List, [], ◌∷◌, ◌++◌, map, length, take, refl, sym, ap, ◌∙◌, arith}
use Rattle.std.specs.Prelude.{slice_index_or, slice_set}
use Rattle.std.specs.List.{zip}
use Rattle.std.proofs.lemmas.List.{map_more, length-map}
use Rattle.std.proofs.lemmas.Slice.Zip.{get_or-zip, AllZip-long}
use Rattle.std.proofs.Math.Seq.{take-length}
use Rattle.netlist.specs.declared.parts.BlockRam.{BlockRam}
use Rattle.netlist.specs.declared.parts.Netlist.{Netlist}
use Rattle.netlist.specs.declared.ram.PortWords.{PortWords}
use Rattle.netlist.specs.Meaning.{AClock, Circuit, Words, RamState, clocked, clocked_ram, first_ram, word_on, words_of}
use Rattle.netlist.specs.Evaluation.{ports_of, after_edge, all_after}
use Rattle.netlist.specs.WellFormed.{Fit, IsRam, IsStateOf}

-- the first k behind the edge, the others before it
pub some_after : ℕ → List PortWords → List ℕ → List RamState → List RamState
some_after zero ports words rams = rams
some_after (suc k) (p ∷ ports) (u ∷ words) (c ∷ rams) = after_edge p u c ∷ some_after k ports words rams
some_after (suc k) [] words rams = rams
some_after (suc k) (p ∷ ports) [] rams = rams
some_after (suc k) (p ∷ ports) (u ∷ words) [] = []

pub none_after : (ports : List PortWords) (words : List ℕ) (rams : List RamState) → some_after 0 ports words rams ≡ rams
unfolding some_after
none_after ports words rams = refl

pub as_many_after : (k : ℕ) (ports : List PortWords) (words : List ℕ) (rams : List RamState) → length (some_after k ports words rams) ≡ length rams
unfolding some_after
as_many_after zero ports words rams = refl
as_many_after (suc k) [] words rams = refl
as_many_after (suc k) (p ∷ ports) [] rams = refl
as_many_after (suc k) (p ∷ ports) (u ∷ words) [] = refl
as_many_after (suc k) (p ∷ ports) (u ∷ words) (c ∷ rams) = ap suc (as_many_after k ports words rams)

-- one more
step_after : (k : ℕ) (ports : List PortWords) (words : List ℕ) (rams : List RamState) (p : PortWords) (u : ℕ) (c : RamState)
    → k < length ports → k < length words → k < length rams
    → slice_set (some_after k ports words rams) k
    (after_edge (slice_index_or ports k p) (slice_index_or words k u) (slice_index_or (some_after k ports words rams) k c))
    ≡ some_after (suc k) ports words rams
unfolding some_after
step_after k [] words rams p u c hp hw hr = absurd (omega (arith, hp))
step_after k (q ∷ ports) [] rams p u c hp hw hr = absurd (omega (arith, hw))
step_after k (q ∷ ports) (v ∷ words) [] p u c hp hw hr = absurd (omega (arith, hr))
step_after zero (q ∷ ports) (v ∷ words) (d ∷ rams) p u c hp hw hr = refl
step_after (suc k) (q ∷ ports) (v ∷ words) (d ∷ rams) p u c hp hw hr =
    ap (λ l. after_edge q v d ∷ l) (step_after k ports words rams p u c (omega (arith, hp)) (omega (arith, hw)) (omega (arith, hr)))

pub one_more_after : (k : ℕ) (ports : List PortWords) (words : List ℕ) (rams now : List RamState) (p : PortWords) (c new : RamState)
    → length ports ≡ length rams → length words ≡ length rams → k < length rams → now ≡ some_after k ports words rams
    → new ≡ after_edge (slice_index_or ports k p) (slice_index_or words k 0) (slice_index_or now k c)
    → slice_set now k new ≡ some_after (k + 1) ports words rams
one_more_after k ports words rams now p c new many_ports many_words lt so_far edge =
    let up : suc k ≡ k + 1 = omega arith in
    ap (slice_set now k) edge
    ∙ ap (λ l. slice_set l k (after_edge (slice_index_or ports k p) (slice_index_or words k 0) (slice_index_or l k c))) so_far
    ∙ step_after k ports words rams p 0 c (omega (arith, many_ports, lt)) (omega (arith, many_words, lt)) lt
    ∙ ap (λ m. some_after m ports words rams) up

-- all of them
pub whole_after : (ports : List PortWords) (words : List ℕ) (rams : List RamState) → length ports ≡ length rams → length words ≡ length rams
    → some_after (length rams) ports words rams ≡ all_after ports words rams
unfolding some_after
whole_after [] [] [] hp hw = refl
whole_after (p ∷ ports) words [] hp hw = absurd (omega (arith, hp))
whole_after [] (u ∷ words) [] hp hw = absurd (omega (arith, hw))
whole_after [] words (c ∷ rams) hp hw = absurd (omega (arith, hp))
whole_after (p ∷ ports) [] (c ∷ rams) hp hw = absurd (omega (arith, hw))
whole_after (p ∷ ports) (u ∷ words) (c ∷ rams) hp hw =
    ap (λ l. after_edge p u c ∷ l) (whole_after ports words rams (omega (arith, hp)) (omega (arith, hw)))

pub all_as_many : (ports : List PortWords) (words : List ℕ) (rams : List RamState) → length ports ≡ length rams → length words ≡ length rams
    → length (all_after ports words rams) ≡ length rams
all_as_many ports words rams hp hw = ap (λ l. length l) (sym (whole_after ports words rams hp hw)) ∙ as_many_after (length rams) ports words rams

-- by the words on their ports, as a clock has it
pub clocked_after : (ws : Words) (ms : List BlockRam) (words : List ℕ) (rams : List RamState) → length words ≡ length rams
    → all_after (map (ports_of ws) ms) words rams ≡ map (clocked_ram ws) (zip ms (zip rams words))
clocked_after ws [] words rams many = refl
clocked_after ws (m ∷ ms) [] [] many = refl
clocked_after ws (m ∷ ms) [] (c ∷ rams) many = absurd (omega (arith, many))
clocked_after ws (m ∷ ms) (u ∷ words) [] many = absurd (omega (arith, many))
clocked_after ws (m ∷ ms) (u ∷ words) (c ∷ rams) many =
    ap (λ l. clocked_ram ws (m, (c, u)) ∷ l) (clocked_after ws ms words rams (omega (arith, many)))

-- ---- the start

pub zip_long : {A B : Type 0} (xs : List A) (ys : List B) → length ys ≡ length xs → length (zip xs ys) ≡ length xs
zip_long [] ys many = refl
zip_long (x ∷ xs) [] many = absurd (omega (arith, many))
zip_long (x ∷ xs) (y ∷ ys) many = ap suc (zip_long xs ys (omega (arith, many)))

-- one more block RAM at the start
pub first_more : (ms : List BlockRam) (words : List ℕ) (k : ℕ) (m : BlockRam) (rams next : List RamState) (ram : RamState) → length words ≡ length ms
    → k < length ms → m ≡ slice_index_or ms k m → rams ≡ map first_ram (take k (zip ms words)) → ram ≡ first_ram (m, slice_index_or words k 0)
    → next ≡ rams ++ ram ∷ [] → next ≡ map first_ram (take (k + 1) (zip ms words))
first_more ms words k m rams next ram many lt is so_far made put =
    let long : length (zip ms words) ≡ length ms = zip_long ms words many in
    let within : k < length (zip ms words) = omega (arith, long, lt) in
    let pair : slice_index_or (zip ms words) k (m, 0) ≡ (m, slice_index_or words k 0) =
    get_or-zip ms words k (m, 0) lt (omega (arith, many, lt)) ∙ ap (λ x. (x, slice_index_or words k 0)) (sym is) in
    let more : map first_ram (take (k + 1) (zip ms words)) ≡ map first_ram (take k (zip ms words)) ++ first_ram (m, slice_index_or words k 0) ∷ [] =
    map_more first_ram (zip ms words) k (m, 0) within ∙ ap (λ p. map first_ram (take k (zip ms words)) ++ first_ram p ∷ []) pair in
    put ∙ ap (λ l. l ++ ram ∷ []) so_far ∙ ap (λ x. map first_ram (take k (zip ms words)) ++ x ∷ []) made ∙ sym more

pub all_first : (ms : List BlockRam) (words : List ℕ) (k : ℕ) (rams : List RamState) → length words ≡ length ms → k ≡ length ms
    → rams ≡ map first_ram (take k (zip ms words)) → rams ≡ map first_ram (zip ms words)
all_first ms words k rams many whole so_far =
    so_far ∙ ap (λ i. map first_ram (take i (zip ms words))) (whole ∙ sym (zip_long ms words many)) ∙ ap (map first_ram) (take-length (zip ms words))

-- ---- a clock

pub clock_is : (n : Netlist) (clock : AClock) (c : Circuit) (registers : List ℕ) (ports : List PortWords) (rams : List RamState)
    → length clock.unknown ≡ length c.memories → registers ≡ map (λ r. word_on (words_of n clock.inputs c) r.next) n.registers
    → ports ≡ map (ports_of (words_of n clock.inputs c)) n.memories → rams ≡ all_after ports clock.unknown c.memories
    → record { registers = registers; memories = rams } ≡ clocked n clock c
clock_is n clock c registers ports rams many same_registers same_ports same_rams =
    let ws = words_of n clock.inputs c in
    let memories : rams ≡ map (clocked_ram ws) (zip n.memories (zip c.memories clock.unknown)) =
    same_rams ∙ ap (λ p. all_after p clock.unknown c.memories) same_ports ∙ clocked_after ws n.memories clock.unknown c.memories many in
    let With : List ℕ → List RamState → Circuit = λ r m. record { registers = r; memories = m } in
    ap (λ r. With r rams) same_registers ∙ ap (With (map (λ r. word_on ws r.next) n.registers)) memories

pub as_many_rams : (n : Netlist) (c : Circuit) → IsStateOf n c → length c.memories ≡ length n.memories
as_many_rams n c s = AllZip-long IsRam n.memories c.memories s.memories

pub as_many_unknown : (n : Netlist) (unknown : List ℕ) → Fit (map (λ m. m.write.word.width) n.memories) unknown → length unknown ≡ length n.memories
as_many_unknown n unknown f =
    AllZip-long (λ width word. word < 2 ^ width) (map (λ m. m.write.word.width) n.memories) unknown f ∙ length-map n.memories (λ m. m.write.word.width)
