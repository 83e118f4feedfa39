-- The instructions of a code follow one another.
use Rattle.std.proofs.Common.{◌≡◌, ℕ, zero, suc, ◌+◌, ◌<◌, ◌≤◌, List, [], ◌∷◌, length, refl, sym, ◌∙◌, ap, subst, arith, Option, Some, None, Result, Ok, Err, ◌⊎◌, inl, inr, Contains}
use Rattle.std.specs.Prelude.{◌↔◌, option_map}
use Rattle.std.specs.Result.{result_ok}
use Rattle.std.proofs.lemmas.Bool.{cases_lt, cond_below, cond_above}
use Rattle.opcodes.specs.declared.instruction.Instr.{Instr}
use Rattle.opcodes.specs.declared.instruction.DecodeFault.{DecodeFault}
use Rattle.opcodes.specs.Instruction.{decoded}
use Rattle.opcodes.specs.Target.{WholeIsWithin}
use Rattle.opcodes.specs.Start.{place_behind, next_start, starts_from, starts_of, IsStart, IsByteOf}

-- ---- lists

either : {X : Type 0} (y x : X) (xs : List X) → Contains (y ∷ xs) x → (y ≡ x) ⊎ Contains xs x
either y x xs (zero, h, e) = inl e
either y x xs (suc k, h, e) = inr (k, omega arith, e)

nowhere : {X : Type 0} (x : X) → Contains [] x → ⊥
nowhere x (k, h, e) = omega arith

module _ (within : (code : List ℕ) (pc : ℕ) → WholeIsWithin code pc) (code : List ℕ) where
  -- a whole instruction, and where the next one begins
  record LeadsTo (pc next : ℕ) : Type 0 where
    instr : Instr
    whole : decoded code pc ≡ Ok instr
    behind : next ≡ pc + instr.length
    later : pc < next

  leads_to : (pc : ℕ) (r : Result Instr DecodeFault) → decoded code pc ≡ r → (next : ℕ) → place_behind code pc r ≡ Some next → LeadsTo pc next
  leads_to pc (Err fault) whole next e = absurd (cc)
  leads_to pc (Ok instr) whole next e = elim (cases_lt (pc + instr.length) (length code)) [
    | inl h ↦
        let some : Some (pc + instr.length) ≡ Some next = cond_below (pc + instr.length) (length code) (Some (pc + instr.length)) None h ∙ e in
        let same : pc + instr.length ≡ next = cc in
        let more = (within code pc instr whole).not_empty in
        record { instr = instr; whole = whole; behind = sym same; later = omega arith }
    | inr h ↦
        let none : None ≡ Some next = cond_above (pc + instr.length) (length code) (Some (pc + instr.length)) None None h refl ∙ e in
        absurd (cc)
  ]

  no_more : (most : ℕ) → starts_from most code None ≡ []
  no_more zero = refl
  no_more (suc most) = refl

  -- a start behind the first is one from the next start on
  onward : (most pc at : ℕ) → Contains (starts_from (suc most) code (Some pc)) at
      → (pc ≡ at) ⊎ ((next : ℕ) × LeadsTo pc next × (next_start code pc ≡ Some next) × Contains (starts_from most code (Some next)) at)
  onward most pc at w = elim (either pc at (starts_from most code (next_start code pc)) w) [
    | inl same ↦ inl same
    | inr later ↦ inr (further (next_start code pc) refl later)
  ]
    where
      further : (o : Option ℕ) → next_start code pc ≡ o → Contains (starts_from most code o) at → (next : ℕ) × LeadsTo pc next × (next_start code pc ≡ Some next) × Contains (starts_from most code (Some next)) at
      further None e later = absurd (nowhere at (subst (λ (xs : List ℕ). Contains xs at) (no_more most) later))
      further (Some next) e later = (next, leads_to pc (decoded code pc) refl next e, e, later)

  from_first : (most pc at : ℕ) → Contains (starts_from most code (Some pc)) at → pc ≤ at
  from_first zero pc at w = absurd (nowhere at w)
  from_first (suc most) pc at w = elim (onward most pc at w) [
    | inl same ↦ omega (arith, same)
    | inr (next, step, e, later) ↦ omega (arith, step.later, from_first most next at later)
  ]

  -- a start before another one begins a whole instruction that ends before that
  IsBefore : (at other : ℕ) → Type 0
  IsBefore at other = (instr : Instr) × (decoded code at ≡ Ok instr) × (at + instr.length ≤ other)

  before_from : (most pc at other : ℕ) → Contains (starts_from most code (Some pc)) at → Contains (starts_from most code (Some pc)) other → at < other → IsBefore at other
  unfolding IsBefore
  before_from zero pc at other w v below = absurd (nowhere at w)
  before_from (suc most) pc at other w v below = elim (onward most pc other v) [
    | inl same ↦ absurd (omega (arith, same, from_first (suc most) pc at w))
    | inr (next, step, f, later) ↦ elim (onward most pc at w) [
      | inl same ↦ (step.instr, subst (λ (z : ℕ). decoded code z ≡ Ok step.instr) same step.whole, omega (arith, same, step.behind, from_first most next other later))
      | inr (second, further, g, later_too) ↦
          let equal : second ≡ next = cc in
          before_from most next at other (subst (λ (z : ℕ). Contains (starts_from most code (Some z)) at) equal later_too) later below
    ]
  ]

  before : (at other : ℕ) → IsStart code at → IsStart code other → at < other → IsBefore at other
  unfolding starts_of
  before at other w v below = elim (cases_lt 0 (length code)) [
    | inl h ↦ before_from (length code) 0 at other (on h at w) (on h other v) below
    | inr h ↦ absurd (nowhere at (subst (λ (xs : List ℕ). Contains xs at) (off h) w))
  ]
    where
      on : 0 < length code → (x : ℕ) → Contains (starts_of code) x → Contains (starts_from (length code) code (Some 0)) x
      on h x w = subst (λ (o : Option ℕ). Contains (starts_from (length code) code o) x) (sym (cond_below 0 (length code) (Some 0) None h)) w

      off : length code ≤ 0 → starts_of code ≡ []
      off h = ap (starts_from (length code) code) (sym (cond_above 0 (length code) (Some 0) None None h refl)) ∙ no_more (length code)

  -- ---- what a walk over the starts finds

  same_length : (a b : Instr) → ◌≡◌ {A = Result Instr DecodeFault} (Ok a) (Ok b) → a.length ≡ b.length
  same_length a b e = let same : a ≡ b = cc in ap (λ (i : Instr). i.length) same

  -- a place behind the instruction at a start is not a byte of this or an earlier one
  pub further_on : (place at : ℕ) (instr : Instr) → IsStart code at → decoded code at ≡ Ok instr → at + instr.length ≤ place → (pc : ℕ) → IsByteOf code place pc → at ≤ pc → at + instr.length ≤ pc
  unfolding IsBefore
  further_on place at instr start whole past pc byte from = elim (cases_lt at pc) [
    | inl lt ↦
        let (i, is, ends) = before at pc start byte.start lt in
        let e : ◌≡◌ {A = Result Instr DecodeFault} (Ok i) (Ok instr) = sym is ∙ whole in
        omega (arith, ends, same_length i instr e)
    | inr ge ↦
        let same : at ≡ pc = omega arith in
        let e : ◌≡◌ {A = Result Instr DecodeFault} (Ok byte.instr) (Ok instr) = sym byte.whole ∙ ap (decoded code) (sym same) ∙ whole in
        absurd (omega (arith, same_length byte.instr instr e, byte.to, past, same))
  ]

  -- it is a byte of just the instruction at the start that has it
  pub only_there : (place at pc : ℕ) (instr : Instr) → IsStart code at → decoded code at ≡ Ok instr → at ≤ place → place < at + instr.length → IsByteOf code place pc → at ≤ pc → at ≡ pc
  unfolding IsBefore
  only_there place at pc instr start whole low high byte from = elim (cases_lt at pc) [
    | inl lt ↦
        let (i, is, ends) = before at pc start byte.start lt in
        let e : ◌≡◌ {A = Result Instr DecodeFault} (Ok i) (Ok instr) = sym is ∙ whole in
        absurd (omega (arith, ends, same_length i instr e, byte.from))
    | inr ge ↦ omega arith
  ]

  -- behind a start from which the code isn't a whole instruction there is no other
  pub nothing_on : (place at pc : ℕ) (fault : DecodeFault) → IsStart code at → decoded code at ≡ Err fault → IsByteOf code place pc → at ≤ pc → ⊥
  unfolding IsBefore
  nothing_on place at pc fault start whole byte from = elim (cases_lt at pc) [
    | inl lt ↦
        let (i, is, ends) = before at pc start byte.start lt in
        let e : ◌≡◌ {A = Result Instr DecodeFault} (Ok i) (Err fault) = sym is ∙ whole in
        cc
    | inr ge ↦
        let same : at ≡ pc = omega arith in
        let e : ◌≡◌ {A = Result Instr DecodeFault} (Ok byte.instr) (Err fault) = sym byte.whole ∙ ap (decoded code) (sym same) ∙ whole in
        cc
  ]

  -- ---- the same of what is answered

  abbrev pub bytes_at : ℕ → Option ℕ
  bytes_at at = option_map (λ (i : Instr). i.length) (result_ok (decoded code at))

  pub whole_at : (at bytes : ℕ) → Some bytes ≡ bytes_at at → (i : Instr) × (decoded code at ≡ Ok i) × (bytes ≡ i.length)
  whole_at at bytes e = cases (decoded code at) refl e
    where
      cases : (r : Result Instr DecodeFault) → decoded code at ≡ r → ◌≡◌ {A = Option ℕ} (Some bytes) (option_map (λ (i : Instr). i.length) (result_ok r)) → (i : Instr) × (decoded code at ≡ Ok i) × (bytes ≡ i.length)
      cases (Ok i) is e = (i, is, cc)
      cases (Err f) is e = absurd (cc)

  pub fault_at : (at : ℕ) → None ≡ bytes_at at → (f : DecodeFault) × (decoded code at ≡ Err f)
  fault_at at e = cases (decoded code at) refl e
    where
      cases : (r : Result Instr DecodeFault) → decoded code at ≡ r → ◌≡◌ {A = Option ℕ} None (option_map (λ (i : Instr). i.length) (result_ok r)) → (f : DecodeFault) × (decoded code at ≡ Err f)
      cases (Ok i) is e = absurd (cc)
      cases (Err f) is e = (f, is)

  abbrev pub Answers : (place : ℕ) → Option ℕ → Type 0
  Answers place r = (pc : ℕ) → (r ≡ Some pc) ↔ IsByteOf code place pc

  -- no instruction has the byte
  pub answers_none : (place : ℕ) → ((pc : ℕ) → IsByteOf code place pc → ⊥) → Answers place None
  answers_none place none = λ pc. (λ e. absurd (cc), λ byte. absurd (none pc byte))

  pub answers_start : (place at bytes : ℕ) → IsStart code at → at ≤ place → Some bytes ≡ bytes_at at → place < at + bytes → ((pc : ℕ) → IsByteOf code place pc → at ≤ pc) → Answers place (Some at)
  answers_start place at bytes start low e high later = λ pc.
      let (i, whole, length) = whole_at at bytes e in (
        λ is. let same : at ≡ pc = cc in subst (IsByteOf code place) same (record { instr = i; start = start; whole = whole; from = low; to = omega (arith, high, length) }),
        λ byte. ap Some (only_there place at pc i start whole low (omega (arith, high, length)) byte (later pc byte)),
      )

  pub more_later : (place at bytes : ℕ) → IsStart code at → Some bytes ≡ bytes_at at → at + bytes ≤ place → ((pc : ℕ) → IsByteOf code place pc → at ≤ pc) → (pc : ℕ) → IsByteOf code place pc → at + bytes ≤ pc
  more_later place at bytes start e past later pc byte =
      let (i, whole, length) = whole_at at bytes e in
      omega (arith, length, further_on place at i start whole (omega (arith, past, length)) pc byte (later pc byte))

  pub within_at : (at bytes : ℕ) → Some bytes ≡ bytes_at at → (0 < bytes) × (at + bytes ≤ length code)
  within_at at bytes e =
      let (i, whole, length) = whole_at at bytes e in
      (omega (arith, length, (within code at i whole).not_empty), omega (arith, length, (within code at i whole).ends))
