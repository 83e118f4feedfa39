-- The parts of the microcode of calls by a receiver, by computing on the sketch.
use Rattle.std.proofs.Common.{◌≡◌, ℕ, suc, ◌+◌, ◌*◌, ◌/◌, ◌%◌, ◌^◌, ◌==◌, ◌&&◌, Bool, true, false, List, [], ◌∷◌, bit_and, refl}
use Rattle.std.specs.Prelude.{slice_index}
use Rattle.microcode.specs.declared.TheConstants.{RAISE}
use Rattle.microcode.specs.declared.addresses.TheConstants.{INVOKEVIRTUAL, INVOKESPECIAL, INVOKEINTERFACE, INVOKE}
use Rattle.micro_sketch.specs.Sketch.{Sketch, exec, abyte, same_bool}
use Rattle.micro_sketch.specs.Operand.{past}
use Rattle.call_steps.specs.Tables.{TableCall, Invokevirtual, Invokespecial, Invokeinterface}
use Rattle.call_steps.proofs.Parts.{Low, at}
use Rattle.call_steps.proofs.InvokeRaises.{raw_object}
use Rattle.call_steps.proofs.CallRows.{begun, raw_index, raw_entry, raw_method, raw_arguments, raw_sp}

-- ---- to the load of the receiver

abbrev pub address : TableCall → ℕ
address Invokevirtual = INVOKEVIRTUAL
address Invokespecial = INVOKESPECIAL
address Invokeinterface = INVOKEINTERFACE

-- the address of its word ldmi
abbrev pub load_address : TableCall → ℕ
load_address Invokevirtual = INVOKEVIRTUAL + 29
load_address Invokespecial = INVOKESPECIAL + 32
load_address Invokeinterface = INVOKEINTERFACE + 29

abbrev pub starting : TableCall → Sketch → Low → (t u j1 j2 j3 : ℕ) → (us js : List ℕ) → Sketch
starting op f v t u j1 j2 j3 us js = at (address op) (begun f) v t u us (j1 ∷ j2 ∷ j3 ∷ js)

-- what was read: the operand, the words at the scratch places 0, 1 and 2, the SP below the arguments, the last word read, and the place of the receiver
pub record Read : Type 0 where
  pub index : ℕ
  pub zero : ℕ
  pub one : ℕ
  pub two : ℕ
  pub sp : ℕ
  pub value : ℕ
  pub place : ℕ

abbrev pub low_read : Low → Read → Low
low_read v r = record v { s0 = r.zero; s1 = r.one; s2 = r.two; s6 = r.sp }

abbrev pub f_read : Sketch → Read → Sketch
f_read f r = record (begun f) { operand = r.index; jpc = (past 2 f).jpc; value = r.value; ar = r.place }

abbrev pub at_load : TableCall → Sketch → Low → (t u k : ℕ) → (us js : List ℕ) → Read → Sketch
at_load op f v t u k us js r = at (load_address op) (f_read f r) (low_read v r) t u us (u ∷ t ∷ k ∷ js)

-- as it computes

abbrev pub raw_second : Sketch → Low → ℕ
raw_second f v = slice_index f.memory ((raw_entry f v + 1) % 2 ^ 32)

abbrev pub raw_taken : TableCall → Sketch → Low → ℕ
raw_taken Invokevirtual f v = raw_second f v / 2 ^ 24
raw_taken Invokespecial f v = raw_arguments f (raw_method f v)
raw_taken Invokeinterface f v = raw_second f v / 2 ^ 24

-- the words that such a row keeps: the method's place, and the second word of the entry

abbrev pub zero_word : TableCall → Low → (first : ℕ) → ℕ
zero_word Invokevirtual v first = v.s0
zero_word Invokespecial v first = first
zero_word Invokeinterface v first = v.s0

abbrev pub two_word : TableCall → Low → (second : ℕ) → ℕ
two_word Invokevirtual v second = second
two_word Invokespecial v second = v.s2
two_word Invokeinterface v second = second

abbrev pub value_word : TableCall → Sketch → (first second : ℕ) → ℕ
value_word Invokevirtual f first second = second
value_word Invokespecial f first second = slice_index f.memory ((first + 1) % 2 ^ 32)
value_word Invokeinterface f first second = second

abbrev pub read_of : TableCall → Sketch → Low → (index first second taken sp place : ℕ) → Read
read_of op f v index first second taken sp place =
    record { index = index; zero = zero_word op v first; one = taken; two = two_word op v second; sp = sp; value = value_word op f first second; place = place }

abbrev pub raw_read : TableCall → Sketch → Low → (under : List ℕ) → Read
raw_read op f v us = read_of op f v (raw_index f) (raw_method f v) (raw_second f v) (raw_taken op f v) (raw_sp f us (raw_taken op f v)) ((raw_sp f us (raw_taken op f v) + 3) % 2 ^ 32)

abbrev pub words_before : TableCall → ℕ
words_before Invokevirtual = 28
words_before Invokespecial = 31
words_before Invokeinterface = 28

pub loads : (op : TableCall) (f : Sketch) (v : Low) (t u j1 j2 j3 : ℕ) (us js : List ℕ) → exec (suc (words_before op)) [] (starting op f v t u j1 j2 j3 us js) ≡ at_load op f v t u j3 us js (raw_read op f v us)
loads Invokevirtual f v t u j1 j2 j3 us js = refl
loads Invokespecial f v t u j1 j2 j3 us js = refl
loads Invokeinterface f v t u j1 j2 j3 us js = refl

-- ---- with the receiver

abbrev pub loaded_address : TableCall → ℕ
loaded_address Invokevirtual = INVOKEVIRTUAL + 30
loaded_address Invokespecial = INVOKESPECIAL + 33
loaded_address Invokeinterface = INVOKEINTERFACE + 30

-- f with the receiver on its stack
abbrev pub with_receiver : TableCall → Sketch → Low → (w t u k : ℕ) → (us js : List ℕ) → Sketch
with_receiver op f v w t u k us js = at (loaded_address op) f v w t (u ∷ us) (t ∷ k ∷ js)

-- at the raise routine
abbrev pub at_raise : Sketch → Low → (object t u : ℕ) → (us above : List ℕ) → (ok : Bool) → Sketch
at_raise f v object t u us above ok = record (at RAISE (record f { value = object }) (record v { raised = object }) t u us above) { fine = ok; done = true }

-- null raises
pub nulls : (op : TableCall) (f : Sketch) (v : Low) (w t u k : ℕ) (us js : List ℕ) → let x = with_receiver op f v w t u k us js in
    exec 11 (true ∷ []) x ≡ at_raise f (record v { s3 = w }) (raw_object f v 6) t u us (exec 11 (true ∷ []) x).above (same_bool true (w == 0) && true)
nulls Invokevirtual f v w t u k us js = refl
nulls Invokespecial f v w t u k us js = refl
nulls Invokeinterface f v w t u k us js = refl

-- ---- to the common part of the calls

-- the words of a table, as they are read

abbrev pub raw_table : Sketch → (k receiver : ℕ) → ℕ
raw_table f k w = slice_index f.memory ((slice_index f.memory w + k) % 2 ^ 32)

abbrev pub raw_word : Sketch → (second k receiver : ℕ) → ℕ
raw_word f second k w = slice_index f.memory ((raw_table f k w + bit_and second 16777215) % 2 ^ 32)

-- the method that is called
abbrev pub raw_called : TableCall → Sketch → Low → (receiver : ℕ) → ℕ
raw_called Invokevirtual f v w = raw_word f v.s2 3 w
raw_called Invokespecial f v w = v.s0
raw_called Invokeinterface f v w = raw_word f v.s2 4 w

-- f then, with that method

abbrev pub raw_operand : Sketch → ℕ
raw_operand f = ((f.operand * 2 ^ 8 + abyte f) % 2 ^ 32 * 2 ^ 8 + abyte (past 1 f)) % 2 ^ 32

abbrev pub value_called : TableCall → Sketch → (method : ℕ) → ℕ
value_called Invokevirtual f m = m
value_called Invokespecial f m = f.value
value_called Invokeinterface f m = m

abbrev pub operand_called : TableCall → Sketch → ℕ
operand_called Invokevirtual f = f.operand
operand_called Invokespecial f = f.operand
operand_called Invokeinterface f = raw_operand f

abbrev pub jpc_called : TableCall → Sketch → ℕ
jpc_called Invokevirtual f = f.jpc
jpc_called Invokespecial f = f.jpc
jpc_called Invokeinterface f = (past 2 f).jpc

abbrev pub f_called : TableCall → Sketch → (method : ℕ) → Sketch
f_called op f m = record f { value = value_called op f m; operand = operand_called op f; jpc = jpc_called op f }

-- a word past the stack
abbrev pub past_word : TableCall → Sketch → (k receiver : ℕ) → ℕ
past_word Invokevirtual f k w = raw_table f 3 w
past_word Invokespecial f k w = k
past_word Invokeinterface f k w = raw_table f 4 w

abbrev pub found_test : TableCall → (method receiver : ℕ) → Bool
found_test Invokevirtual m w = same_bool false (w == 0) && true
found_test Invokespecial m w = same_bool false (w == 0) && true
found_test Invokeinterface m w = same_bool false (m == 0) && (same_bool false (w == 0) && true)

abbrev pub at_call : TableCall → Sketch → Low → (w t u k : ℕ) → (us js : List ℕ) → (method : ℕ) → (ok : Bool) → Sketch
at_call op f v w t u k us js m ok = record (at INVOKE (f_called op f m) (record v { s3 = w; s0 = m }) t u us (u ∷ t ∷ past_word op f k w ∷ js)) { fine = ok }

abbrev pub words_between : TableCall → ℕ
words_between Invokevirtual = 20
words_between Invokespecial = 3
words_between Invokeinterface = 24

abbrev pub guesses_between : TableCall → List Bool
guesses_between Invokevirtual = false ∷ []
guesses_between Invokespecial = false ∷ []
guesses_between Invokeinterface = false ∷ false ∷ []

pub finds : (op : TableCall) (f : Sketch) (v : Low) (w t u k : ℕ) (us js : List ℕ) → exec (suc (words_between op)) (guesses_between op) (with_receiver op f v w t u k us js)
    ≡ at_call op f v w t u k us js (raw_called op f v w) (found_test op (raw_called op f v w) w)
finds Invokevirtual f v w t u k us js = refl
finds Invokespecial f v w t u k us js = refl
finds Invokeinterface f v w t u k us js = refl

-- no method is there
pub changes : (f : Sketch) (v : Low) (w t u k : ℕ) (us js : List ℕ) → let x = with_receiver Invokeinterface f v w t u k us js in let m = raw_word f v.s2 4 w in
    exec 30 (false ∷ true ∷ []) x
    ≡ at_raise f (record v { s3 = w; s0 = m }) (raw_object f v 4) t u us (exec 30 (false ∷ true ∷ []) x).above (same_bool true (m == 0) && (same_bool false (w == 0) && true))
changes f v w t u k us js = refl
