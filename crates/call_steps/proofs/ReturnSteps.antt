-- A return, from the step to where the machine stands for the next state.
use Rattle.std.proofs.Common.{◌≡◌, ℕ, true, false, ℤ, List, [], ◌∷◌, ◌++◌, Option, Some, None, refl, sym, ap, ◌∙◌, subst}
use Rattle.std.proofs.lemmas.Option.{none-some}
use Rattle.machine_stands.proofs.Defined.{only_if_defined}
use Rattle.lists.proofs.Lemmas.{some_same}
use Rattle.lists.specs.Members.{heads}
use Rattle.opcodes.specs.Form.{one, Absent}
use Rattle.opcodes.specs.Row as opcodes
use Rattle.opcodes.specs.Reading.{plain_instr}
use Rattle.micro_sketch.specs.Sketch.{Sketch}
use Rattle.micro_sketch.specs.Row.{words_of}
use Rattle.bytecode_model.specs.declared.Value.{Value}
use Rattle.bytecode_model.specs.declared.Value.TheVariants.{Int, Long, Ref, Null, Unset}
use Rattle.bytecode_model.specs.Types.{IntType, LongType, Numbers, References, Moved, is_moved, is_long}
use Rattle.bytecode_model.specs.Rows as rows
use Rattle.bytecode_model.specs.Rows.{Row}
use Rattle.bytecode_model.specs.State.{Frame, State}
use Rattle.bytecode_model.specs.Program.{Program, Limits, Operand}
use Rattle.bytecode_model.specs.Table.{row_of}
use Rattle.bytecode_model.specs.Effects.{Effect, Leave, only_if, on_top}
use Rattle.bytecode_model.specs.Steps.{applied, left, with_result}
use Rattle.image_facts.specs.Words.{high_word, low_word}
use Rattle.machine_stands.specs.Frames.{AreOperands}
use Rattle.machine_stands.specs.Reading.{operands_of}
use Rattle.call_steps.specs.Returns.{ReturnOp, Return, Ireturn, Areturn, Lreturn, return_code, result}
use Rattle.call_steps.proofs.Scenes.{StateLaws}

-- ---- the instruction

pub form_read : (op : ReturnOp) → operands_of (opcodes.row_of (return_code op)).form ≡ Some (one Absent)
unfolding opcodes.row_of
form_read Return = refl
form_read Ireturn = refl
form_read Areturn = refl
form_read Lreturn = refl

-- the type of what it returns
abbrev pub returned : ReturnOp → Option Moved
returned Return = None
returned Ireturn = Some (Numbers IntType)
returned Areturn = Some References
returned Lreturn = Some (Numbers LongType)

pub is_return : (op : ReturnOp) (code : List ℕ) (pc : ℕ) (o : Operand) (r : Row) → row_of code (plain_instr (return_code op) code pc (one Absent)) o ≡ Some r → r ≡ rows.Return (returned op)
unfolding row_of
is_return Return code pc o r h = sym (some_same (rows.Return (returned Return)) r h)
is_return Ireturn code pc o r h = sym (some_same (rows.Return (returned Ireturn)) r h)
is_return Areturn code pc o r h = sym (some_same (rows.Return (returned Areturn)) r h)
is_return Lreturn code pc o r h = sym (some_same (rows.Return (returned Lreturn)) r h)

-- ---- the result

on_top_defined : (P : Program) (limits : Limits) (answer : Option ℕ) (s : State) (f : Frame) (callers : List Frame) (s' : State) (ops : List Value) (go : Value → List Value → Effect)
    → applied P limits answer s f callers (on_top ops go) ≡ Some s' → (v : Value) × (rest : List Value) × (ops ≡ v ∷ rest) × (applied P limits answer s f callers (go v rest) ≡ Some s')
on_top_defined P limits answer s f callers s' [] go h = absurd (none-some s' h)
on_top_defined P limits answer s f callers s' (v ∷ rest) go h = (v, rest, refl, h)

int_is_short : (v : Value) → is_moved (Numbers IntType) v ≡ true → is_long v ≡ false
int_is_short (Int n) h = refl
int_is_short (Long n) h = absurd (cc)
int_is_short (Ref p) h = refl
int_is_short Null h = refl
int_is_short Unset h = refl

reference_is_short : (v : Value) → is_moved References v ≡ true → is_long v ≡ false
reference_is_short (Int n) h = refl
reference_is_short (Long n) h = absurd (cc)
reference_is_short (Ref p) h = refl
reference_is_short Null h = refl
reference_is_short Unset h = refl

long_is : (v : Value) → is_moved (Numbers LongType) v ≡ true → (n : ℤ) × (v ≡ Long n)
long_is (Int n) h = absurd (cc)
long_is (Long n) h = (n, refl)
long_is (Ref p) h = absurd (cc)
long_is Null h = absurd (cc)
long_is Unset h = absurd (cc)

-- the words of the result are on top of the operands' words, and so of the caller's then
pub record Given (place : ℕ → ℕ) (op : ReturnOp) (x : Sketch) (operands : List ℕ) (value : Option Value) : Type 0 where
  pub words : List ℕ
  pub others : List ℕ
  pub split : operands ≡ words ++ others
  pub on_stack : result op x ≡ words
  pub given : (ops : List Value) (ws : List ℕ) → AreOperands place ops ws → AreOperands place (with_result value ops) (words ++ ws)

seconds : (a b c d : ℕ) (xs ys : List ℕ) → a ∷ b ∷ xs ≡ c ∷ d ∷ ys → b ≡ d
seconds a b c d xs ys e = cc

one_given : StateLaws → (place : ℕ → ℕ) (v : Value) (rest : List Value) (operands saved : List ℕ) (op : ReturnOp) (x : Sketch) → is_long v ≡ false → AreOperands place (v ∷ rest) operands → words_of x ≡ operands ++ saved → result op x ≡ x.top ∷ []
    → Given place op x operands (Some v)
one_given laws place v rest operands saved op x short are shown is =
    let top = laws.one place v rest operands short are in
    let same : x.top ≡ top.word = heads x.top top.word (x.next ∷ x.under) (top.others ++ saved) (shown ∙ ap (λ (ws : List ℕ). ws ++ saved) top.split) in
    record {
      words = top.word ∷ [];
      others = top.others;
      split = top.split;
      on_stack = is ∙ ap (λ (w : ℕ). w ∷ []) same;
      given = λ ops ws h. laws.pushed place v ops top.word ws short top.is h;
    }

long_given : StateLaws → (place : ℕ → ℕ) (v : Value) (rest : List Value) (operands saved : List ℕ) (x : Sketch) → is_moved (Numbers LongType) v ≡ true → AreOperands place (v ∷ rest) operands → words_of x ≡ operands ++ saved
    → Given place Lreturn x operands (Some v)
long_given laws place v rest operands saved x long are shown =
    let n = long_is v long in
    let top = laws.two place n.0 rest operands (subst (λ (u : Value). AreOperands place (u ∷ rest) operands) n.1 are) in
    let both = shown ∙ ap (λ (ws : List ℕ). ws ++ saved) top.split in
    let low = heads x.top (low_word n.0) (x.next ∷ x.under) (high_word n.0 ∷ (top.others ++ saved)) both in
    let high = seconds x.top x.next (low_word n.0) (high_word n.0) x.under (top.others ++ saved) both in
    record {
      words = low_word n.0 ∷ high_word n.0 ∷ [];
      others = top.others;
      split = top.split;
      on_stack = λ i. low i ∷ high i ∷ [];
      given = λ ops ws h. subst (λ (u : Value). AreOperands place (u ∷ ops) (low_word n.0 ∷ high_word n.0 ∷ ws)) (sym n.1) (refl, refl, h);
    }

-- what the step leaves with
pub record Leaves (P : Program) (limits : Limits) (answer : Option ℕ) (s : State) (f : Frame) (callers : List Frame) (s' : State) (place : ℕ → ℕ) (op : ReturnOp) (x : Sketch) (operands : List ℕ) : Type 0 where
  pub value : Option Value
  pub given : Given place op x operands value
  pub step : left P s f value callers ≡ Some s'
  pub none : value ≡ None → op ≡ Return

-- the effect of the row, by what it returns
abbrev pub leaving : Option Moved → List Value → Effect
leaving None ops = Leave None
leaving (Some sort) ops = on_top ops (λ v rest. only_if (is_moved sort v) (Leave (Some v)))

pub leaves : StateLaws → (P : Program) (limits : Limits) (answer : Option ℕ) (s : State) (f : Frame) (callers : List Frame) (s' : State) (place : ℕ → ℕ) (op : ReturnOp) (x : Sketch) (operands saved : List ℕ)
    → AreOperands place f.operands operands → words_of x ≡ operands ++ saved → applied P limits answer s f callers (leaving (returned op) f.operands) ≡ Some s' → Leaves P limits answer s f callers s' place op x operands
leaves laws P limits answer s f callers s' place Return x operands saved are shown h =
    record { value = None; given = record { words = []; others = operands; split = refl; on_stack = refl; given = λ ops ws g. g }; step = h; none = λ e. refl }
leaves laws P limits answer s f callers s' place Ireturn x operands saved are shown h =
    let t = on_top_defined P limits answer s f callers s' f.operands (λ v rest. only_if (is_moved (Numbers IntType) v) (Leave (Some v))) h in
    let g = only_if_defined P limits answer s f callers s' (is_moved (Numbers IntType) t.0) (Leave (Some t.0)) t.3 in
    record { value = Some t.0; given = one_given laws place t.0 t.1 operands saved Ireturn x (int_is_short t.0 g.0) (subst (λ (vs : List Value). AreOperands place vs operands) t.2 are) shown refl; step = g.1; none = λ e. absurd (none-some t.0 (sym e)) }
leaves laws P limits answer s f callers s' place Areturn x operands saved are shown h =
    let t = on_top_defined P limits answer s f callers s' f.operands (λ v rest. only_if (is_moved References v) (Leave (Some v))) h in
    let g = only_if_defined P limits answer s f callers s' (is_moved References t.0) (Leave (Some t.0)) t.3 in
    record { value = Some t.0; given = one_given laws place t.0 t.1 operands saved Areturn x (reference_is_short t.0 g.0) (subst (λ (vs : List Value). AreOperands place vs operands) t.2 are) shown refl; step = g.1; none = λ e. absurd (none-some t.0 (sym e)) }
leaves laws P limits answer s f callers s' place Lreturn x operands saved are shown h =
    let t = on_top_defined P limits answer s f callers s' f.operands (λ v rest. only_if (is_moved (Numbers LongType) v) (Leave (Some v))) h in
    let g = only_if_defined P limits answer s f callers s' (is_moved (Numbers LongType) t.0) (Leave (Some t.0)) t.3 in
    record { value = Some t.0; given = long_given laws place t.0 t.1 operands saved x g.0 (subst (λ (vs : List Value). AreOperands place vs operands) t.2 are) shown; step = g.1; none = λ e. absurd (none-some t.0 (sym e)) }
