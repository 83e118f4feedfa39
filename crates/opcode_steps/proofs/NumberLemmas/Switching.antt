-- The switches: which offset the sketch reads is that of the key's case (JVM Specification SE 8, 6.5.tableswitch and lookupswitch).
use Rattle.std.proofs.Common.{◌≡◌, ℕ, zero, suc, ◌+◌, ◌-◌, ◌*◌, ◌/◌, ◌%◌, ◌^◌, ◌<◌, ◌≤◌, Bool, true, false, cond, ◌==◌, ◌||◌, List, [], ◌∷◌, ◌++◌, Option, Some, None, length, map, reverse, refl, sym, ◌∙◌, ap, subst, arith}
use Rattle.std.specs.Prelude.{ℤ, pos, negsuc, ◌+ℤ◌, int_lt}
use Rattle.std.specs.List.{range_with_len}
use Rattle.std.specs.Int.{w32, cast_signed}
use Rattle.std.specs.Int.RustNames.{FitsSigned}
use Rattle.std.proofs.Math.Nat.{mod-eq_of_lt}
use Rattle.std.proofs.lemmas.Bool.Decides.{nat_tests}
use Rattle.lists.proofs.Lemmas.{some_same}
use Rattle.microcode.specs.declared.addresses.TheConstants.{LOOKUP_HIT}
use Rattle.opcodes.specs.declared.instruction.Instr.{Instr}
use Rattle.opcodes.specs.declared.instruction.Case.{Case}
use Rattle.opcodes.specs.Bytes.{u1, u4, s4}
use Rattle.opcodes.specs.Row as opcodes
use Rattle.opcodes.specs.Instruction.{default_place, table_switch_at, lookup_switch_at, values_between, pair_count}
use Rattle.opcodes.specs.Target.{cases_of}
use Rattle.jop_core.specs.Operations.{signed_lt}
use Rattle.jop_core.specs.State as machine
use Rattle.micro_sketch.specs.Sketch.{Sketch, abyte}
use Rattle.micro_sketch.specs.Opcodes.{OfSwitch, IsReady}
use Rattle.micro_sketch.specs.Operand.{past, four_byte_operand}
use Rattle.micro_sketch.specs.SwitchOps as words
use Rattle.micro_sketch.specs.SwitchOps.{SwitchOp, Tableswitch, Lookupswitch, switch_code, switch_ready, switch_effect, operands, default_offset, least, greatest, table_offset, chosen_offset, jumps_by, pairs, offset_among, CanSearch}
use Rattle.bytecode_model.specs.declared.Value.{Value}
use Rattle.bytecode_model.specs.Types.{IntType}
use Rattle.bytecode_model.specs.Lists.{onto, natural}
use Rattle.bytecode_model.specs.State.{State}
use Rattle.bytecode_model.specs.Program.{Program}
use Rattle.bytecode_model.specs.Rows as rows
use Rattle.bytecode_model.specs.Rows.{Row}
use Rattle.bytecode_model.specs.Table.{row_of}
use Rattle.bytecode_model.specs.Numbers.{is_equal}
use Rattle.bytecode_model.specs.Effects.{Effect, effect, on_numbers, at_offset, offset_of_key}
use Rattle.image_facts.specs.Places.{Places}
use Rattle.image_facts.specs.Words.{int_word}
use Rattle.machine_stands.specs.StandsFor.{StandsFor, limits_of}
use Rattle.machine_stands.specs.Comes.{params, ComesTo}
use Rattle.machine_stands.specs.Seen.{seen}
use Rattle.opcode_steps.proofs.NumberLemmas.Longs.{ints_compare}
use Rattle.opcode_steps.proofs.NumberLemmas.Tests.{if_icmpeq}
use Rattle.opcode_steps.proofs.NumberLemmas.Landing.{far_place}
use Rattle.opcode_steps.proofs.NumberLemmas.Cases.{counted, counted_found, counted_missed, lies, lies_not, word_distance, word_of_read, read_fits}
use Rattle.opcode_steps.proofs.NumberLemmas.Scenes.{Laws, Line, Scene, scene, comes}
use Rattle.opcode_steps.proofs.NumberLemmas.Computing.{takes, shown_words}
use Rattle.opcode_steps.proofs.NumberLemmas.Results.{top_is}
use Rattle.opcode_steps.proofs.NumberLemmas.Jumping.{landed, four_bytes, jpc_is}

turned : (a b : ℕ) → (a == b) ≡ (b == a)
turned a b = grind (arith, nat_tests)

neither : (a b : Bool) → (a || b) ≡ false → (a ≡ false) × (b ≡ false)
neither true b e = absurd (cc)
neither false b e = (refl, e)

-- the word and the number are those at a place of the code
pub record ReadAt (code : List ℕ) (word : ℕ) (number : ℤ) : Type 0 where
  pub place : ℕ
  pub word_is : word ≡ u4 code place
  pub number_is : number ≡ s4 code place

module _ (laws : Laws) (P : Program) (pl : Places) (n size : ℕ) (m : machine.MachineState) (answer : Option ℕ) (s s' : State) (st : StandsFor P pl n size m s) (i : Instr) (r : Row) (x : Sketch)
    (at : Scene P pl n size m answer s s' st i r x) where
  -- four bytes of the code
  word_read : (j : ℕ) → j + 4 ≤ length st.body.code → four_byte_operand (words.placed j x) ≡ u4 st.body.code j
  word_read j inside =
      let code = st.body.code in
      let short = at.shows.code in
      let byte : (k place : ℕ) → k ≡ place → place < length code → abyte (record x { jpc = k }) ≡ u1 code place = λ k place e within. ap (λ (q : ℕ). abyte (record x { jpc = q })) e ∙ at.shows.byte_at place within in
      let b0 : abyte (words.placed j x) ≡ u1 code j = byte j j refl (omega arith) in
      let b1 : abyte (past 1 (words.placed j x)) ≡ u1 code (j + 1) = byte ((j + 1) % 2 ^ 16) (j + 1) (omega arith) (omega arith) in
      let b2 : abyte (past 2 (words.placed j x)) ≡ u1 code (j + 2) = byte (((j + 1) % 2 ^ 16 + 1) % 2 ^ 16) (j + 2) (omega arith) (omega arith) in
      let b3 : abyte (past 3 (words.placed j x)) ≡ u1 code (j + 2 + 1) = byte ((((j + 1) % 2 ^ 16 + 1) % 2 ^ 16 + 1) % 2 ^ 16) (j + 2 + 1) (omega arith) (omega arith) in
      omega (arith, b0, b1, b2, b3)

  four_past : (j : ℕ) → j + 4 < 2 ^ 16 → past 4 (words.placed j x) ≡ words.placed (j + 4) x
  four_past j small =
      let e : ((((j + 1) % 2 ^ 16 + 1) % 2 ^ 16 + 1) % 2 ^ 16 + 1) % 2 ^ 16 ≡ j + 4 = omega arith in
      ap (λ (q : ℕ). words.placed q x) e

  operands_are : 1 ≤ i.length → default_place st.top.pc < 2 ^ 16 → operands x ≡ words.placed (default_place st.top.pc) x
  operands_are some small =
      let begin = jpc_is P pl n size m answer s s' st i r x at some in
      let e : (x.jpc + 3) / 4 * 4 % 2 ^ 16 ≡ default_place st.top.pc = omega (arith, begin) in
      ap (λ (q : ℕ). words.placed q x) e

  -- a switch takes the offset that is read for the key
  switches : (op : SwitchOp) (default : ℤ) (cases : List Case) (offset : ℕ) → m.opcode ≡ switch_code op → 1 ≤ i.length → r ≡ rows.Switch default cases
      → IsReady (OfSwitch op) x → switch_effect op x ≡ jumps_by offset x
      → ((key : ℤ) → FitsSigned w32 key → x.top ≡ int_word key → ReadAt st.body.code offset (offset_of_key default cases key)) → ComesTo P pl n size m s s'
  switches op default cases offset opcode some is ready makes reads =
      let next = st.top.pc + i.length in
      let go : ℤ → List Value → Effect = λ key rest. at_offset st.top (offset_of_key default cases key) rest in
      let row : effect P (limits_of P pl n size) s st.top next r ≡ on_numbers ℤ (IntType ∷ []) (λ key. key) st.top.operands go = ap (λ (q : Row). effect P (limits_of P pl n size) s st.top next q) is in
      let k = takes laws P pl n size m answer s s' st i r x at ℤ (IntType ∷ []) (λ key. key) go row in
      let key = k.numbers.0 in
      let tail = k.others ++ reverse st.words.saved in
      let (e, f) = top_is x.top (int_word key) (x.next ∷ x.under) tail (shown_words laws P pl n size m answer s s' st i r x at (IntType ∷ []) k.numbers k.others k.are) in
      let read = reads key k.fit.0 e in
      let l = landed P pl n size m answer s s' st i r x at (offset_of_key default cases key) k.rest (row ∙ k.effect go) in
      let v = u4 st.body.code read.place in
      let there : pos st.top.pc +ℤ cast_signed w32 v ≡ pos l.place = ap (λ (z : ℤ). pos st.top.pc +ℤ z) (sym read.number_is) ∙ l.is in
      comes laws P pl n size m answer s s' st i r x at (OfSwitch op) l.place k.rest (x.next ∷ x.under) ((x.jpc + (2 ^ 16 - 1) + offset) % 2 ^ 16) k.others opcode ready refl makes l.goes k.stay f
      (ap (λ (q : ℕ). (x.jpc + (2 ^ 16 - 1) + q) % 2 ^ 16) read.word_is ∙ ap (λ (q : ℕ). (q + (2 ^ 16 - 1) + v) % 2 ^ 16) (jpc_is P pl n size m answer s s' st i r x at some)
      ∙ far_place st.top.pc v l.place (four_bytes st.body.code at.code.bytes read.place) l.inside there)

  -- ---- tableswitch

  abbrev pub table_count : ℕ
  table_count = values_between (s4 st.body.code (default_place st.top.pc + 4)) (s4 st.body.code (default_place st.top.pc + 8))

  -- where its operands begin, and what stands there
  record Table : Type 0 where
    begins : operands x ≡ words.placed (default_place st.top.pc) x
    default_is : default_offset x ≡ u4 st.body.code (default_place st.top.pc)
    least_is : least x ≡ u4 st.body.code (default_place st.top.pc + 4)
    greatest_is : greatest x ≡ u4 st.body.code (default_place st.top.pc + 8)
    first_is : past 12 (operands x) ≡ words.placed (default_place st.top.pc + 12) x

  table : 1 ≤ i.length → default_place st.top.pc + 12 + 4 * table_count ≤ length st.body.code → Table
  table some inside =
      let place = default_place st.top.pc in
      let short = at.shows.code in
      let begins = operands_are some (omega arith) in
      let at4 : past 4 (operands x) ≡ words.placed (place + 4) x = ap (λ (z : Sketch). past 4 z) begins ∙ four_past place (omega arith) in
      let e8 : place + 4 + 4 ≡ place + 8 = omega arith in
      let at8 : past 8 (operands x) ≡ words.placed (place + 8) x = ap (λ (z : Sketch). past 4 z) at4 ∙ four_past (place + 4) (omega arith) ∙ ap (λ (q : ℕ). words.placed q x) e8 in
      let e12 : place + 8 + 4 ≡ place + 12 = omega arith in
      record {
        begins = begins;
        default_is = ap (λ (z : Sketch). four_byte_operand z) begins ∙ word_read place (omega arith);
        least_is = ap (λ (z : Sketch). four_byte_operand z) at4 ∙ word_read (place + 4) (omega arith);
        greatest_is = ap (λ (z : Sketch). four_byte_operand z) at8 ∙ word_read (place + 8) (omega arith);
        first_is = ap (λ (z : Sketch). past 4 z) at8 ∙ four_past (place + 8) (omega arith) ∙ ap (λ (q : ℕ). words.placed q x) e12;
      }

  table_reads : 1 ≤ i.length → default_place st.top.pc + 12 + 4 * table_count ≤ length st.body.code → (key : ℤ) → FitsSigned w32 key → x.top ≡ int_word key
      → ReadAt st.body.code (chosen_offset x x.top)
      (offset_of_key (s4 st.body.code (default_place st.top.pc))
      (counted (s4 st.body.code (default_place st.top.pc + 4)) (λ k. s4 st.body.code (default_place st.top.pc + 12 + 4 * k)) (s4 st.body.code (default_place st.top.pc)) key 0 table_count) key)
  table_reads some inside key fits top =
      let code = st.body.code in
      let place = default_place st.top.pc in
      let t = table some inside in
      let low = s4 code (place + 4) in
      let high = s4 code (place + 8) in
      let low_small : u4 code (place + 4) < 2 ^ 32 = four_bytes code at.code.bytes (place + 4) in
      let high_small : u4 code (place + 8) < 2 ^ 32 = four_bytes code at.code.bytes (place + 8) in
      let low_fits : FitsSigned w32 low = read_fits (u4 code (place + 4)) low_small in
      let high_fits : FitsSigned w32 high = read_fits (u4 code (place + 8)) high_small in
      let low_is : least x ≡ int_word low = t.least_is ∙ sym (word_of_read (u4 code (place + 4)) low_small) in
      let high_is : greatest x ≡ int_word high = t.greatest_is ∙ sym (word_of_read (u4 code (place + 8)) high_small) in
      let below : signed_lt x.top (least x) ≡ int_lt key low = ap (λ (q : ℕ). signed_lt q (least x)) top ∙ ap (λ (q : ℕ). signed_lt (int_word key) q) low_is ∙ ints_compare key low fits low_fits in
      let above : signed_lt (greatest x) x.top ≡ int_lt high key = ap (λ (q : ℕ). signed_lt (greatest x) q) top ∙ ap (λ (q : ℕ). signed_lt q (int_word key)) high_is ∙ ints_compare high key high_fits fits in
      let test : (signed_lt x.top (least x) || signed_lt (greatest x) x.top) ≡ (int_lt key low || int_lt high key) =
      ap (λ (b : Bool). b || signed_lt (greatest x) x.top) below ∙ ap (λ (b : Bool). int_lt key low || b) above in
      let R : ℕ → Type 0 = λ v. ReadAt code v (offset_of_key (s4 code place) (counted low (λ k. s4 code (place + 12 + 4 * k)) (s4 code place) key 0 table_count) key) in
      subst R (sym (ap (λ (b : Bool). cond b (default_offset x) (table_offset x x.top)) test)) (by t low_is (int_lt key low || int_lt high key) refl)
    where
      by : Table → least x ≡ int_word (s4 st.body.code (default_place st.top.pc + 4)) → (b : Bool)
          → (int_lt key (s4 st.body.code (default_place st.top.pc + 4)) || int_lt (s4 st.body.code (default_place st.top.pc + 8)) key) ≡ b
          → ReadAt st.body.code (cond b (default_offset x) (table_offset x x.top))
          (offset_of_key (s4 st.body.code (default_place st.top.pc))
          (counted (s4 st.body.code (default_place st.top.pc + 4)) (λ k. s4 st.body.code (default_place st.top.pc + 12 + 4 * k)) (s4 st.body.code (default_place st.top.pc)) key 0 table_count) key)
      by t low_is true out =
          let code = st.body.code in
          let place = default_place st.top.pc in
          record {
            place = place;
            word_is = t.default_is;
            number_is = counted_missed (s4 code (place + 4)) (λ k. s4 code (place + 12 + 4 * k)) (s4 code place) key 0 table_count
                (λ k from to. lies_not (s4 code (place + 4)) (s4 code (place + 8)) key k out (omega arith));
          }
      by t low_is false out =
          let code = st.body.code in
          let place = default_place st.top.pc in
          let both = neither (int_lt key (s4 code (place + 4))) (int_lt (s4 code (place + 8)) key) out in
          let l = lies (s4 code (place + 4)) (s4 code (place + 8)) key both.0 both.1 in
          let k = l.place in
          let few = l.inside in
          let short = at.shows.code in
          let low_fits = read_fits (u4 code (place + 4)) (four_bytes code at.code.bytes (place + 4)) in
          let distance : (x.top + (2 ^ 32 - least x)) % 2 ^ 32 ≡ k =
          ap (λ (q : ℕ). (q + (2 ^ 32 - least x)) % 2 ^ 32) top ∙ ap (λ (q : ℕ). (int_word key + (2 ^ 32 - q)) % 2 ^ 32) low_is ∙ word_distance (s4 code (place + 4)) key k low_fits fits (omega arith) l.is in
          let there : ((past 12 (operands x)).jpc + 4 * ((x.top + (2 ^ 32 - least x)) % 2 ^ 32)) % 2 ^ 16 ≡ place + 12 + 4 * k =
          ap (λ (z : Sketch). (z.jpc + 4 * ((x.top + (2 ^ 32 - least x)) % 2 ^ 32)) % 2 ^ 16) t.first_is ∙ ap (λ (q : ℕ). (place + 12 + 4 * q) % 2 ^ 16) distance ∙ mod-eq_of_lt (omega arith) in
          record {
            place = place + 12 + 4 * k;
            word_is = ap (λ (q : ℕ). four_byte_operand (words.placed q x)) there ∙ word_read (place + 12 + 4 * k) (omega arith);
            number_is = counted_found (s4 code (place + 4)) (λ k. s4 code (place + 12 + 4 * k)) (s4 code place) key 0 table_count k (omega arith) (omega arith) l.is;
          }

  -- ---- lookupswitch

  -- pair k
  abbrev pub pair_at : ℕ → Case
  pair_at k = record { key = s4 st.body.code (default_place st.top.pc + 8 + 8 * k); offset = s4 st.body.code (default_place st.top.pc + 8 + 8 * k + 4) }

  abbrev pub pairs_from : (first count : ℕ) → List Case
  pairs_from first count = map pair_at (range_with_len first count)

  same_key : (j : ℕ) (key : ℤ) → j + 4 ≤ length st.body.code → FitsSigned w32 key → (four_byte_operand (words.placed j x) == int_word key) ≡ is_equal (s4 st.body.code j) key
  same_key j key inside fits =
      let code = st.body.code in
      let small : u4 code j < 2 ^ 32 = four_bytes code at.code.bytes j in
      ap (λ (q : ℕ). q == int_word key) (word_read j inside ∙ sym (word_of_read (u4 code j) small)) ∙ turned (int_word (s4 code j)) (int_word key) ∙ if_icmpeq key (s4 code j) fits (read_fits (u4 code j) small)

  pairs_read : (key : ℤ) (other : ℕ) (default : ℤ) (p : ℕ) → FitsSigned w32 key → other ≡ u4 st.body.code p → default ≡ s4 st.body.code p → (count first : ℕ)
      → default_place st.top.pc + 8 + 8 * first + 8 * count ≤ length st.body.code
      → ReadAt st.body.code (offset_among count (words.placed (default_place st.top.pc + 8 + 8 * first) x) (int_word key) other) (offset_of_key default (pairs_from first count) key)
  pairs_read key other default p fits word_is number_is zero first inside = record { place = p; word_is = word_is; number_is = number_is }
  pairs_read key other default p fits word_is number_is (suc count) first inside =
      let j = default_place st.top.pc + 8 + 8 * first in
      let short = at.shows.code in
      let code = st.body.code in
      let e8 : j + 4 + 4 ≡ default_place st.top.pc + 8 + 8 * (first + 1) = omega arith in
      let behind : past 8 (words.placed j x) ≡ words.placed (default_place st.top.pc + 8 + 8 * (first + 1)) x =
      ap (λ (z : Sketch). past 4 z) (four_past j (omega arith)) ∙ four_past (j + 4) (omega arith) ∙ ap (λ (q : ℕ). words.placed q x) e8 in
      let R : ℕ → ℤ → Type 0 = λ v z. ReadAt code v z in
      let later = subst (λ (z : Sketch). R (offset_among count z (int_word key) other) (offset_of_key default (pairs_from (first + 1) count) key)) (sym behind)
      (pairs_read key other default p fits word_is number_is count (first + 1) (omega arith)) in
      let here : ReadAt code (four_byte_operand (past 4 (words.placed j x))) (s4 code (j + 4)) = record {
        place = j + 4;
        word_is = ap (λ (z : Sketch). four_byte_operand z) (four_past j (omega arith)) ∙ word_read (j + 4) (omega arith);
        number_is = refl;
      } in
      let test = same_key j key (omega arith) fits in
      subst (λ (b : Bool). R (cond b (four_byte_operand (past 4 (words.placed j x))) (offset_among count (past 8 (words.placed j x)) (int_word key) other))
      (cond (is_equal (s4 code j) key) (s4 code (j + 4)) (offset_of_key default (pairs_from (first + 1) count) key))) (sym test)
      (choose code (is_equal (s4 code j) key) (four_byte_operand (past 4 (words.placed j x))) (offset_among count (past 8 (words.placed j x)) (int_word key) other) (s4 code (j + 4))
      (offset_of_key default (pairs_from (first + 1) count) key) here later)
    where
      choose : (code : List ℕ) (b : Bool) (v w : ℕ) (y z : ℤ) → ReadAt code v y → ReadAt code w z → ReadAt code (cond b v w) (cond b y z)
      choose code true v w y z here later = here
      choose code false v w y z here later = later

  -- where its pairs begin, and what stands there
  record Lookup (count : ℕ) : Type 0 where
    default_is : default_offset x ≡ u4 st.body.code (default_place st.top.pc)
    count_is : pairs x ≡ count
    first_is : past 8 (operands x) ≡ words.placed (default_place st.top.pc + 8 + 8 * 0) x

  lookup : (count : ℕ) → 1 ≤ i.length → default_place st.top.pc + 8 + 8 * count ≤ length st.body.code → s4 st.body.code (default_place st.top.pc + 4) ≡ pos count → Lookup count
  lookup count some inside number =
      let place = default_place st.top.pc in
      let short = at.shows.code in
      let code = st.body.code in
      let begins = operands_are some (omega arith) in
      let at4 : past 4 (operands x) ≡ words.placed (place + 4) x = ap (λ (z : Sketch). past 4 z) begins ∙ four_past place (omega arith) in
      let e8 : place + 4 + 4 ≡ place + 8 + 8 * 0 = omega arith in
      record {
        default_is = ap (λ (z : Sketch). four_byte_operand z) begins ∙ word_read place (omega arith);
        count_is = ap (λ (z : Sketch). four_byte_operand z) at4 ∙ word_read (place + 4) (omega arith) ∙ sym (word_of_read (u4 code (place + 4)) (four_bytes code at.code.bytes (place + 4))) ∙ ap int_word number;
        first_is = ap (λ (z : Sketch). past 4 z) at4 ∙ four_past (place + 4) (omega arith) ∙ ap (λ (q : ℕ). words.placed q x) e8;
      }

  lookup_reads : (count : ℕ) → 1 ≤ i.length → default_place st.top.pc + 8 + 8 * count ≤ length st.body.code → s4 st.body.code (default_place st.top.pc + 4) ≡ pos count
      → (key : ℤ) → FitsSigned w32 key → x.top ≡ int_word key
      → ReadAt st.body.code (offset_among (pairs x) (past 8 (operands x)) x.top (default_offset x)) (offset_of_key (s4 st.body.code (default_place st.top.pc)) (pairs_from 0 count) key)
  lookup_reads count some inside number key fits top =
      let l = lookup count some inside number in
      let place = default_place st.top.pc in
      let code = st.body.code in
      let other = default_offset x in
      let read = pairs_read key other (s4 code place) place fits l.default_is refl count 0 (omega arith) in
      let R : ℕ → Type 0 = λ v. ReadAt code v (offset_of_key (s4 code place) (pairs_from 0 count) key) in
      subst R (sym (ap (λ (q : ℕ). offset_among q (past 8 (operands x)) x.top other) l.count_is ∙ ap (λ (z : Sketch). offset_among count z x.top other) l.first_is
      ∙ ap (λ (q : ℕ). offset_among count (words.placed (place + 8 + 8 * 0) x) q other) top)) read

  -- ---- both of them as steps

  pub switches_by_table : m.opcode ≡ 170 → i.length ≡ default_place st.top.pc + 12 + 4 * table_count - st.top.pc
      → r ≡ rows.Switch (s4 st.body.code (default_place st.top.pc))
      (map (λ k. record { key = s4 st.body.code (default_place st.top.pc + 4) +ℤ pos k; offset = s4 st.body.code (default_place st.top.pc + 12 + 4 * k) }) (range_with_len 0 table_count))
      → ComesTo P pl n size m s s'
  switches_by_table opcode long is =
      let within = at.instruction.within in
      let inside : default_place st.top.pc + 12 + 4 * table_count ≤ length st.body.code = omega arith in
      let some : 1 ≤ i.length = omega arith in
      let begin = jpc_is P pl n size m answer s s' st i r x at some in
      let short = at.shows.code in
      switches Tableswitch (s4 st.body.code (default_place st.top.pc)) _ (chosen_offset x x.top) opcode some is (omega (arith, begin)) refl (λ key fits top. table_reads some inside key fits top)

  pub switches_by_lookup : (count : ℕ) → m.opcode ≡ 171 → i.length ≡ default_place st.top.pc + 8 + 8 * count - st.top.pc → s4 st.body.code (default_place st.top.pc + 4) ≡ pos count → i.count ≡ count
      → r ≡ rows.Switch (s4 st.body.code (default_place st.top.pc)) (pairs_from 0 count) → ComesTo P pl n size m s s'
  switches_by_lookup count opcode long number counts is =
      let within = at.instruction.within in
      let inside : default_place st.top.pc + 8 + 8 * count ≤ length st.body.code = omega arith in
      let some : 1 ≤ i.length = omega arith in
      let begin = jpc_is P pl n size m answer s s' st i r x at some in
      let short = at.shows.code in
      let l = lookup count some inside number in
      let allowed : x.left (LOOKUP_HIT - 1) ≡ i.count = ap (λ (f : ℕ → ℕ). f (LOOKUP_HIT - 1)) at.left in
      let ready : CanSearch x = record { inside = omega (arith, begin); turns = omega (arith, l.count_is, allowed, counts) } in
      switches Lookupswitch (s4 st.body.code (default_place st.top.pc)) (pairs_from 0 count) (offset_among (pairs x) (past 8 (operands x)) x.top (default_offset x)) opcode some is ready refl
      (λ key fits top. lookup_reads count some inside number key fits top)

pub tableswitch : Laws → Line 170
unfolding opcodes.row_of row_of
tableswitch laws P pl n size m answer s s' h mode opcode bare =
    let st = h.stands in
    let i = record (table_switch_at st.body.code st.top.pc) { op = 170 } in
    let read = laws.tables P pl n size m answer s s' h mode opcode in
    let at = scene laws P pl n size m answer s s' h i read.0 mode read.1 in
    switches_by_table laws P pl n size m answer s s' st i read.0 (seen (params m i.count 0) (None ∷ []) m st.words st.below) at opcode refl (some_same read.0 _ (sym read.1.is_row))

natural_found : (z : ℤ) (q : Row) (r : Row) → onto (natural z) (λ count. Some q) ≡ Some r → (count : ℕ) × (z ≡ pos count) × (r ≡ q)
natural_found (pos count) q r e = (count, refl, let same : r ≡ q = cc in same)
natural_found (negsuc k) q r e = absurd (cc)

pub lookupswitch : Laws → Line 171
unfolding opcodes.row_of row_of
lookupswitch laws P pl n size m answer s s' h mode opcode bare =
    let st = h.stands in
    let code = st.body.code in
    let place = default_place st.top.pc in
    let i = record (lookup_switch_at code st.top.pc) { op = 171 } in
    let read = laws.lookups P pl n size m answer s s' h mode opcode in
    let at = scene laws P pl n size m answer s s' h i read.0 mode read.1 in
    let found = natural_found (s4 code (place + 4)) (rows.Switch (s4 code place) (cases_of code i)) read.0 read.1.is_row in
    let counts : pair_count (s4 code (place + 4)) ≡ found.0 = ap pair_count found.1 in
    switches_by_lookup laws P pl n size m answer s s' st i read.0 (seen (params m i.count 0) (None ∷ []) m st.words st.below) at found.0 opcode
    (ap (λ (q : ℕ). place + 8 + 8 * q - st.top.pc) counts) found.1 counts
    (found.2 ∙ ap (λ (q : ℕ). rows.Switch (s4 code place) (pairs_from laws P pl n size m answer s s' st i read.0 (seen (params m i.count 0) (None ∷ []) m st.words st.below) at 0 q)) counts)
