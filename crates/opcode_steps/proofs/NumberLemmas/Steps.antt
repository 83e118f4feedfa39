-- All opcodes of the family.
use Rattle.std.proofs.Common.{◌≡◌, ℕ, ◌<◌, ◌^◌, Bool, true, false, ◌==◌, ◌||◌, List, [], ◌∷◌, map, refl, sym, ◌∙◌, ap, subst, arith, eqb-true, get_or}
use Rattle.std.specs.List.{list_any, range_with_len}
use Rattle.std.proofs.lemmas.Bool.{false≢true}
use Rattle.std.proofs.lemmas.List.FromFn.{get_or-map-range_with_len}
use Rattle.opcodes.specs.Row as opcodes
use Rattle.bytecode_model.specs.Program.{body_of}
use Rattle.machine_stands.specs.Simulates.{Simulates}
use Rattle.opcode_steps.specs.Numbers.Laws.{computes_numbers}
use Rattle.opcode_steps.proofs.NumberLemmas.Arithmetic as arithmetic
use Rattle.opcode_steps.proofs.NumberLemmas.Dividing as dividing
use Rattle.opcode_steps.proofs.NumberLemmas.Conditions as conditions
use Rattle.opcode_steps.proofs.NumberLemmas.References as references
use Rattle.opcode_steps.proofs.NumberLemmas.Branching as branching
use Rattle.opcode_steps.proofs.NumberLemmas.Switching as switching
use Rattle.opcode_steps.proofs.NumberLemmas.Scenes.{Laws, Line, code_of_body}

-- their numbers, and a line for each
members : List ℕ
members =
    96 ∷ 97 ∷ 100 ∷ 101 ∷ 104 ∷ 108 ∷ 112 ∷ 116 ∷ 117 ∷ 120 ∷ 121 ∷ 122 ∷ 123 ∷ 124 ∷ 125 ∷ 126 ∷ 127 ∷ 128 ∷ 129 ∷ 130 ∷ 131 ∷ 133 ∷ 136 ∷ 145 ∷ 146 ∷ 147 ∷ 148 ∷ 153 ∷ 154 ∷ 155 ∷ 156 ∷
    157 ∷ 158 ∷ 159 ∷ 160 ∷ 161 ∷ 162 ∷ 163 ∷ 164 ∷ 165 ∷ 166 ∷ 167 ∷ 170 ∷ 171 ∷ 198 ∷ 199 ∷ 200 ∷ []

infixr 30 ◌&◌
data Lines : List ℕ → Type 0 where
  none : Lines []
  ◌&◌ : {op : ℕ} {ops : List ℕ} → Line op → Lines ops → Lines (op ∷ ops)

all_lines : Laws → Lines members
unfolding members
all_lines laws =
    arithmetic.iadd laws & arithmetic.ladd laws & arithmetic.isub laws & arithmetic.lsub laws & arithmetic.imul laws & dividing.idiv laws & dividing.irem laws &
    arithmetic.ineg laws & arithmetic.lneg laws & arithmetic.ishl laws & arithmetic.lshl laws & arithmetic.ishr laws & arithmetic.lshr laws & arithmetic.iushr laws &
    arithmetic.lushr laws & arithmetic.iand laws & arithmetic.land laws & arithmetic.ior laws & arithmetic.lor laws & arithmetic.ixor laws & arithmetic.lxor laws &
    arithmetic.i2l laws & arithmetic.l2i laws & arithmetic.i2b laws & arithmetic.i2c laws & arithmetic.i2s laws & arithmetic.lcmp laws & conditions.ifeq laws &
    conditions.ifne laws & conditions.iflt laws & conditions.ifge laws & conditions.ifgt laws & conditions.ifle laws & conditions.if_icmpeq laws & conditions.if_icmpne laws &
    conditions.if_icmplt laws & conditions.if_icmpge laws & conditions.if_icmpgt laws & conditions.if_icmple laws & references.if_acmpeq laws & references.if_acmpne laws &
    branching.goto laws & switching.tableswitch laws & switching.lookupswitch laws & references.ifnull laws & references.ifnonnull laws & branching.goto_w laws & none

-- one that is listed has its line
listed : (ops : List ℕ) (op : ℕ) → Lines ops → list_any (λ c. c == op) ops ≡ true → Line op
listed ops op none e = absurd (false≢true e)
listed ops op (◌&◌ {op = c} {ops = rest} line lines) e = by c line (list_any (λ d. d == op) rest) (c == op) refl e (λ h. listed rest op lines h)
  where
    by : (c : ℕ) → Line c → (more b : Bool) → (c == op) ≡ b → (b || more) ≡ true → (more ≡ true → Line op) → Line op
    by c line more true same h later = let L : ℕ → Type 0 = λ k. Line k in subst L (eqb-true c op same) line
    by c line more false other h later = later h

-- the family has just these
is_member : ℕ → Bool
is_member op = list_any (λ c. c == op) members

all_members : map computes_numbers (range_with_len 0 256) ≡ map is_member (range_with_len 0 256)
unfolding is_member members opcodes.row_of
all_members = refl

member_is : (op : ℕ) → op < 2 ^ 8 → computes_numbers op ≡ is_member op
member_is op small =
    sym (get_or-map-range_with_len computes_numbers 0 256 op op false small (omega arith)) ∙ ap (λ (bs : List Bool). get_or bs op false) all_members
    ∙ get_or-map-range_with_len is_member 0 256 op op false small (omega arith)

pub numbers_are_computed : Laws → Simulates computes_numbers
unfolding is_member members
numbers_are_computed laws P pl n size m answer s s' h mode member bare =
    let st = h.stands in
    let row = laws.any P pl n size m answer s s' h mode in
    let code = code_of_body st.body (body_of P st.top.method) st.is_body (h.says.codes st.top.method) in
    let small : m.opcode < 2 ^ 8 = omega (arith, row.is.opcode, code.bytes st.top.pc) in
    listed members m.opcode (all_lines laws) (sym (member_is m.opcode small) ∙ member) P pl n size m answer s s' h mode refl bare
