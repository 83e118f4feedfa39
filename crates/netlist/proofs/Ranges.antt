-- The words of a well-formed netlist are within their widths.
use Rattle.std.proofs.Common.{◌≡◌, ℕ, zero, suc, ◌+◌, ◌-◌, ◌*◌, ◌/◌, ◌^◌, ◌<◌, ◌≤◌, Bool, true, false, List, [], ◌∷◌, ◌++◌, map, length, replicate, refl, sym, ◌∙◌, subst, arith, Some}
use Rattle.std.specs.Prelude.{slice_get, slice_index, slice_index_or, slice_set, nat_lt, ◌==◌, if◌then◌else◌}
use Rattle.std.specs.List.{All, AllZip, zip}
use Rattle.std.specs.Int.Bits.{and_lt}
use Rattle.std.proofs.lemmas.Nat.{or_lt, xor_lt, pow_pos, pow-add}
use Rattle.std.proofs.lemmas.List.{length-set, length-append, length-replicate, append-nil, append_assoc}
use Rattle.std.proofs.lemmas.List.Elements.{All-tail, All-set, All-append, All-replicate, AllZip-push}
use Rattle.std.proofs.Math.Seq.{take-length}
use Rattle.std.proofs.Math.Nat.{mod-lt, div-le_self, mul-le-mul_right}
use Rattle.lists.proofs.Lemmas.{some_same}
use Rattle.netlist.specs.declared.net.BinaryOperator.{BinaryOperator}
use Rattle.netlist.specs.declared.net.BinaryOperator.TheVariants.{And, Or, Xor, Add, Sub, Mul, Equal, Less, Left, Right}
use Rattle.netlist.specs.declared.net.Driver.{Driver}
use Rattle.netlist.specs.declared.net.Driver.TheVariants.{Constant, Input, Register, ReadOut, Wire}
use Rattle.netlist.specs.declared.net.Net.{Net}
use Rattle.netlist.specs.declared.net.Expression.{Expression}
use Rattle.netlist.specs.declared.net.Expression.TheVariants.{Not, Binary, Part, Join, Choose, Table}
use Rattle.netlist.specs.declared.parts.BlockRam.{BlockRam}
use Rattle.netlist.specs.declared.parts.Register as register
use Rattle.netlist.specs.declared.parts.OutputPort.{OutputPort}
use Rattle.netlist.specs.declared.parts.Netlist.{Netlist}
use Rattle.netlist.specs.Meaning.{Words, RamState, Circuit, AClock, driven, word_on, bit_of, computed, result_of, with_wires, words_of, is_written, word_read, clocked_ram, clocked, put_out, first_ram, started, run}
use Rattle.netlist.specs.Evaluation.{words_with}
use Rattle.netlist.specs.WellFormed.{Widths, width_computed, width_of, widths_before, widths_in, Drives, IsNet, WidthsAgree, IsExpression, AreWires, IsBlockRam, IsNetlist, Fit, IsRam, IsStateOf, IsClockOf}
use Rattle.netlist.specs.Laws.{WordsStayInRange}

-- ---- nets

pub record AreWithin (ws : Widths) (xs : Words) : Type 0 where
  pub inputs : Fit ws.inputs xs.inputs
  pub registers : Fit ws.registers xs.registers
  pub read_outs : Fit ws.read_outs xs.read_outs
  pub wires : Fit ws.wires xs.wires

fit_at : (widths words : List ℕ) (k w : ℕ) → Fit widths words → slice_get widths k ≡ Some w → slice_index words k < 2 ^ w
fit_at [] words k w f e = cc
fit_at (a ∷ ws) [] k w f e = absurd f
fit_at (a ∷ ws) (x ∷ xs) zero w f e = subst (λ n. x < 2 ^ n) (some_same a w e) f.0
fit_at (a ∷ ws) (x ∷ xs) (suc k) w f e = fit_at ws xs k w f.1 e

driven_within : (ws : Widths) (xs : Words) (d : Driver) (w : ℕ) → AreWithin ws xs → Drives ws d w → driven xs d < 2 ^ w
driven_within ws xs (Constant x) w a h = h
driven_within ws xs (Input k) w a h = fit_at ws.inputs xs.inputs k w a.inputs h
driven_within ws xs (Register k) w a h = fit_at ws.registers xs.registers k w a.registers h
driven_within ws xs (ReadOut k) w a h = fit_at ws.read_outs xs.read_outs k w a.read_outs h
driven_within ws xs (Wire k) w a h = fit_at ws.wires xs.wires k w a.wires h

pub net_within : (ws : Widths) (xs : Words) (net : Net) → AreWithin ws xs → IsNet ws net → word_on xs net < 2 ^ net.width
net_within ws xs net a h = driven_within ws xs net.driver net.width a h.driver

-- ---- expressions

bit_within : (b : Bool) → bit_of b < 2 ^ 1
bit_within true = omega arith
bit_within false = omega arith

left_part : (x y n : ℕ) → x < n → x / y < n
left_part x y n h = let le = div-le_self x y in omega arith

pub computed_within : (o : BinaryOperator) (w v x y : ℕ) → x < 2 ^ w → y < 2 ^ v → WidthsAgree o w v → computed o w x y < 2 ^ width_computed o w
computed_within And w v x y hx hy e = and_lt w x y hx (subst (λ n. y < 2 ^ n) (sym e) hy)
computed_within Or w v x y hx hy e = or_lt w x y hx (subst (λ n. y < 2 ^ n) (sym e) hy)
computed_within Xor w v x y hx hy e = xor_lt w x y hx (subst (λ n. y < 2 ^ n) (sym e) hy)
computed_within Add w v x y hx hy e = mod-lt (x + y) (pow_pos w)
computed_within Sub w v x y hx hy e = mod-lt (x + (2 ^ w - y)) (pow_pos w)
computed_within Mul w v x y hx hy e = mod-lt (x * y) (pow_pos w)
computed_within Equal w v x y hx hy e = bit_within (x == y)
computed_within Less w v x y hx hy e = bit_within (nat_lt x y)
computed_within Left w v x y hx hy e = mod-lt (x * 2 ^ y) (pow_pos w)
computed_within Right w v x y hx hy e = left_part x (2 ^ y) (2 ^ w) hx

joined : (x y m n : ℕ) → x < m → y < n → x * n + y < m * n
joined x y m n hx hy = let le : (x + 1) * n ≤ m * n = mul-le-mul_right n (omega arith) in omega arith

chosen : (b : Bool) (x y n : ℕ) → x < n → y < n → (if b then x else y) < n
chosen true x y n hx hy = hx
chosen false x y n hx hy = hy

row_within : (rows : List ℕ) (k n m : ℕ) → k < n → length rows ≡ n → All (λ row. row < m) rows → slice_index rows k < m
row_within rows k n m h e all = all k 0 (subst (λ j. k < j) (sym e) h)

pub result_within : (ws : Widths) (xs : Words) (e : Expression) → AreWithin ws xs → IsExpression ws e → result_of xs e < 2 ^ width_of e
result_within ws xs (Not x) a h = let some = pow_pos x.width in omega arith
result_within ws xs (Binary o x y) a h =
    computed_within o x.width y.width (word_on xs x) (word_on xs y) (net_within ws xs x a h.0) (net_within ws xs y a h.1) h.2
result_within ws xs (Part x low width) a h = mod-lt (word_on xs x / 2 ^ low) (pow_pos width)
result_within ws xs (Join x y) a h =
    subst (λ n. word_on xs x * 2 ^ y.width + word_on xs y < n) (sym (pow-add 2 x.width y.width))
    (joined (word_on xs x) (word_on xs y) (2 ^ x.width) (2 ^ y.width) (net_within ws xs x a h.0) (net_within ws xs y a h.1))
result_within ws xs (Choose c x y) a h =
    chosen (word_on xs c == 1) (word_on xs x) (word_on xs y) (2 ^ x.width) (net_within ws xs x a h.1)
    (subst (λ n. word_on xs y < 2 ^ n) (sym h.3) (net_within ws xs y a h.2))
result_within ws xs (Table x width rows) a h =
    row_within rows (word_on xs x) (2 ^ x.width) (2 ^ width) (net_within ws xs x a h.0) h.3 h.4

-- ---- wires

pub wires_within : (ws : Widths) (xs : Words) (es : List Expression) → AreWithin ws xs → AreWires ws es
    → AreWithin (record ws { wires = ws.wires ++ map width_of es }) (with_wires xs es)
wires_within ws xs [] a h = let same : ws.wires ≡ ws.wires ++ [] = sym (append-nil ws.wires) in subst (λ l. AreWithin (record ws { wires = l }) xs) same a
wires_within ws xs (e ∷ es) a h =
    let further : AreWithin (record ws { wires = ws.wires ++ width_of e ∷ [] }) (record xs { wires = xs.wires ++ result_of xs e ∷ [] }) = record {
      inputs = a.inputs;
      registers = a.registers;
      read_outs = a.read_outs;
      wires = AllZip-push (λ width word. word < 2 ^ width) ws.wires xs.wires (width_of e) (result_of xs e) a.wires (result_within ws xs e a h.0);
    } in
    let same : (ws.wires ++ width_of e ∷ []) ++ map width_of es ≡ ws.wires ++ map width_of (e ∷ es) = append_assoc ws.wires (width_of e ∷ []) (map width_of es) in
    subst (λ l. AreWithin (record ws { wires = l }) (with_wires (record xs { wires = xs.wires ++ result_of xs e ∷ [] }) es)) same
    (wires_within (record ws { wires = ws.wires ++ width_of e ∷ [] }) (record xs { wires = xs.wires ++ result_of xs e ∷ [] }) es further h.1)

-- ---- all words of a clock

read_outs_within : (ms : List BlockRam) (cs : List RamState) → AllZip IsRam ms cs
    → Fit (map (λ m. m.write.word.width) ms) (map (λ (c : RamState). c.read_out) cs)
read_outs_within [] [] a = tt
read_outs_within [] (c ∷ cs) a = absurd a
read_outs_within (m ∷ ms) [] a = absurd a
read_outs_within (m ∷ ms) (c ∷ cs) a = (a.0.read_out, read_outs_within ms cs a.1)

pub begun_within : (n : Netlist) (inputs : List ℕ) (c : Circuit) → Fit (map (λ port. port.width) n.inputs) inputs → IsStateOf n c
    → AreWithin (widths_before 0 n) (words_with inputs c [])
begun_within n inputs c f s = record {
  inputs = f;
  registers = s.registers;
  read_outs = read_outs_within n.memories c.memories s.memories;
  wires = tt;
}

pub words_within : (n : Netlist) (inputs : List ℕ) (c : Circuit) → IsNetlist n → Fit (map (λ port. port.width) n.inputs) inputs → IsStateOf n c
    → AreWithin (widths_in n) (words_of n inputs c)
words_within n inputs c h f s =
    subst (λ (l : List Expression). AreWithin (record (widths_before 0 n) { wires = map width_of l }) (words_of n inputs c)) (sym (take-length n.wires))
    (wires_within (widths_before 0 n) (words_with inputs c []) n.wires (begun_within n inputs c f s) h.wires)

-- ---- a clock's edge

maps_fit : {A : Type 0} (f g : A → ℕ) (xs : List A) → All (λ x. g x < 2 ^ f x) xs → Fit (map f xs) (map g xs)
maps_fit f g [] a = tt
maps_fit f g (x ∷ xs) a = (a 0 x (omega arith), maps_fit f g xs (All-tail (λ y. g y < 2 ^ f y) x xs a))

written_within : (ws : Widths) (xs : Words) (m : BlockRam) (words : List ℕ) (b : Bool) → AreWithin ws xs → IsBlockRam ws m
    → All (λ word. word < 2 ^ m.write.word.width) words
    → All (λ word. word < 2 ^ m.write.word.width) (if b then slice_set words (word_on xs m.write.place) (word_on xs m.write.word) else words)
written_within ws xs m words true a h all =
    All-set (λ word. word < 2 ^ m.write.word.width) words (word_on xs m.write.place) (word_on xs m.write.word) (net_within ws xs m.write.word a h.word) all
written_within ws xs m words false a h all = all

as_many : (words : List ℕ) (place word : ℕ) (b : Bool) → length (if b then slice_set words place word else words) ≡ length words
as_many words place word true = length-set words place word
as_many words place word false = refl

at_or : (words : List ℕ) (k d n : ℕ) → All (λ word. word < n) words → d < n → slice_index_or words k d < n
at_or [] k d n all h = h
at_or (x ∷ xs) zero d n all h = all 0 0 (omega arith)
at_or (x ∷ xs) (suc k) d n all h = at_or xs k d n (All-tail (λ word. word < n) x xs all) h

ram_within : (ws : Widths) (xs : Words) (m : BlockRam) (c : RamState) (unknown : ℕ) → AreWithin ws xs → IsBlockRam ws m → IsRam m c
    → unknown < 2 ^ m.write.word.width → IsRam m (clocked_ram xs (m, (c, unknown)))
ram_within ws xs m c unknown a h r u = record {
  many = as_many c.words (word_on xs m.write.place) (word_on xs m.write.word) (word_on xs m.write.when == 1) ∙ r.many;
  words = written_within ws xs m c.words (word_on xs m.write.when == 1) a h r.words;
  read_out =
      chosen (word_on xs m.read.when == 1) (word_read xs m c.words (word_on xs m.read.place) unknown) c.read_out (2 ^ m.write.word.width)
      (chosen (is_written xs m (word_on xs m.read.place)) unknown (slice_index_or c.words (word_on xs m.read.place) unknown) (2 ^ m.write.word.width) u
      (at_or c.words (word_on xs m.read.place) unknown (2 ^ m.write.word.width) r.words u)) r.read_out;
}

rams_within : (ws : Widths) (xs : Words) (ms : List BlockRam) (cs : List RamState) (us : List ℕ) → AreWithin ws xs → All (IsBlockRam ws) ms
    → AllZip IsRam ms cs → Fit (map (λ m. m.write.word.width) ms) us → AllZip IsRam ms (map (clocked_ram xs) (zip ms (zip cs us)))
rams_within ws xs [] cs us a h r f = tt
rams_within ws xs (m ∷ ms) [] us a h r f = absurd r
rams_within ws xs (m ∷ ms) (c ∷ cs) [] a h r f = absurd f
rams_within ws xs (m ∷ ms) (c ∷ cs) (u ∷ us) a h r f =
    (ram_within ws xs m c u a (h 0 m (omega arith)) r.0 f.0, rams_within ws xs ms cs us a (All-tail (IsBlockRam ws) m ms h) r.1 f.1)

pub clock_within : (n : Netlist) → IsNetlist n → (clock : AClock) (c : Circuit) → IsClockOf n clock → IsStateOf n c → IsStateOf n (clocked n clock c)
clock_within n h clock c k s =
    let a = words_within n clock.inputs c h k.inputs s in
    let xs = words_of n clock.inputs c in
    record {
      registers =
          maps_fit (λ (r : register.Register). r.next.width) (λ r. word_on xs r.next) n.registers
          (λ j d lt. net_within (widths_in n) xs (slice_index_or n.registers j d).next a (h.registers j d lt).0);
      memories = rams_within (widths_in n) xs n.memories c.memories clock.unknown a h.memories s.memories k.unknown;
    }

out_within : (n : Netlist) → IsNetlist n → (clock : AClock) (c : Circuit) → IsClockOf n clock → IsStateOf n c
    → Fit (map (λ port. port.net.width) n.outputs) (put_out n clock.inputs c)
out_within n h clock c k s =
    let a = words_within n clock.inputs c h k.inputs s in
    let xs = words_of n clock.inputs c in
    maps_fit (λ (p : OutputPort). p.net.width) (λ p. word_on xs p.net) n.outputs
    (λ j d lt. net_within (widths_in n) xs (slice_index_or n.outputs j d).net a (h.outputs j d lt))

-- ---- the start, and clock after clock

first_many : (first : List ℕ) (words : ℕ) → length first ≤ words → length (first ++ replicate (words - length first) 0) ≡ words
first_many first words le =
    let rest : List ℕ = replicate (words - length first) 0 in
    let zeros : length rest ≡ words - length first = length-replicate (words - length first) 0 in
    let whole : length (first ++ rest) ≡ length first + length rest = length-append first rest in
    whole ∙ (let sum : length first + length rest ≡ words = omega (arith, zeros, le) in sum)

first_within : (ws : Widths) (m : BlockRam) (unknown : ℕ) → IsBlockRam ws m → unknown < 2 ^ m.write.word.width → IsRam m (first_ram (m, unknown))
first_within ws m unknown h u = record {
  many = first_many m.first m.words h.first.0;
  words =
      All-append (λ word. word < 2 ^ m.write.word.width) m.first (replicate (m.words - length m.first) 0) h.first.1
      (All-replicate (λ word. word < 2 ^ m.write.word.width) (m.words - length m.first) 0 (pow_pos m.write.word.width));
  read_out = u;
}

firsts_within : (ws : Widths) (ms : List BlockRam) (us : List ℕ) → All (IsBlockRam ws) ms → Fit (map (λ m. m.write.word.width) ms) us
    → AllZip IsRam ms (map first_ram (zip ms us))
firsts_within ws [] us h f = tt
firsts_within ws (m ∷ ms) [] h f = absurd f
firsts_within ws (m ∷ ms) (u ∷ us) h f =
    (first_within ws m u (h 0 m (omega arith)) f.0, firsts_within ws ms us (All-tail (IsBlockRam ws) m ms h) f.1)

pub started_within : (n : Netlist) → IsNetlist n → (unknown : List ℕ) → Fit (map (λ m. m.write.word.width) n.memories) unknown → IsStateOf n (started n unknown)
started_within n h unknown f = record {
  registers =
      maps_fit (λ (r : register.Register). r.next.width) (λ r. r.first) n.registers (λ j d lt. (h.registers j d lt).1);
  memories = firsts_within (widths_in n) n.memories unknown h.memories f;
}

run_within : (n : Netlist) → IsNetlist n → (clocks : List AClock) (c : Circuit) → All (IsClockOf n) clocks → IsStateOf n c → IsStateOf n (run n clocks c)
run_within n h [] c all s = s
run_within n h (clock ∷ clocks) c all s =
    run_within n h clocks (clocked n clock c) (All-tail (IsClockOf n) clock clocks all) (clock_within n h clock c (all 0 clock (omega arith)) s)

pub words_fit : WordsStayInRange
words_fit n h = record { start = started_within n h; clock = clock_within n h; out = out_within n h; clocks = run_within n h }
