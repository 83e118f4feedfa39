-- What the verifier gives of exception tables: their ranges lie between instructions, and the types that they catch have numbers.
use Rattle.std.proofs.Common.{◌≡◌, ℕ, ◌+◌, ◌<◌, ◌≤◌, Bool, true, false, not, ◌&&◌, ◌||◌, ◌==◌, List, [], ◌∷◌, length, map, inl, inr, Option, Some, None, refl, sym, ◌∙◌, subst, arith}
use Rattle.std.specs.Prelude.{nat_lt, if◌then◌else◌, Result, Ok, Err, IsOk}
use Rattle.std.specs.List.{filter, AllByRecursion}
use Rattle.std.specs.Option.{option_map}
use Rattle.std.proofs.lemmas.Bool.{cases_lt, eqb-true, false≢true}
use Rattle.opcodes.specs.declared.instruction.Instr.{Instr}
use Rattle.opcodes.specs.declared.instruction.DecodeFault.{DecodeFault}
use Rattle.opcodes.specs.Instruction.{decoded}
use Rattle.opcodes.specs.Target.{WholeIsWithin}
use Rattle.opcodes.specs.Start.{IsStart, starts_of, first_bad, AreStarts, IsFirstBad, IsPartition}
use Rattle.lists.proofs.Lemmas.{none≢some}
use Rattle.frame_types.specs.Types.{is_start}
use Rattle.frame_types.proofs.SearchLemmas.{among_contains}
use Rattle.image_facts.specs.Says.{IsBetween}
use Rattle.bytecode_verifier.specs.Failure.{lesser, least, is_bad_entry, table_failure, opcode_failure, Table, Opcode, Failure}

abbrev pub Entry : Type 0
Entry = ℕ × ℕ × ℕ × ℕ

-- ---- entries that are in their form

some_least : (n : ℕ) (o : Option ℕ) → lesser (Some n) o ≡ None → ⊥
some_least n None h = none≢some n (sym h)
some_least n (Some m) h = absurd cc

none_least : (ns : List ℕ) → least ns ≡ None → ns ≡ []
none_least [] h = refl
none_least (n ∷ ns) h = absurd (some_least n (least ns) h)

none_mapped : (o : Option ℕ) → option_map (λ pc. let f : Failure = (pc, Table) in f) o ≡ None → o ≡ None
none_mapped None h = refl
none_mapped (Some pc) h = absurd cc

one_fine : (bad : Entry → Bool) (x : Entry) (rest : List Entry) (b : Bool) → bad x ≡ b → map (λ h. h.0) (if b then x ∷ rest else rest) ≡ [] → (bad x ≡ false) × (map (λ h. h.0) rest ≡ [])
one_fine bad x rest true e h = absurd cc
one_fine bad x rest false e h = (e, h)

all_fine : (bad : Entry → Bool) (xs : List Entry) → map (λ h. h.0) (filter bad xs) ≡ [] → AllByRecursion (λ x. bad x ≡ false) xs
all_fine bad [] h = tt
all_fine bad (x ∷ xs) h = let one = one_fine bad x (filter bad xs) (bad x) refl h in (one.0, all_fine bad xs one.1)

pub in_form : (code : List ℕ) (xs : List Entry) → table_failure code xs ≡ None → AllByRecursion (λ x. is_bad_entry code x ≡ false) xs
in_form code xs h = all_fine (is_bad_entry code) xs (none_least (map (λ h. h.0) (filter (is_bad_entry code) xs)) (none_mapped (least (map (λ h. h.0) (filter (is_bad_entry code) xs))) h))

-- the range isn't empty, and both of its ends lie where an instruction begins, or the code ends
pub record IsInForm (code : List ℕ) (x : Entry) : Type 0 where
  pub some : nat_lt x.0 x.1 ≡ true
  pub start : is_start code x.0 ≡ true
  pub end : (is_start code x.1 || x.1 == length code) ≡ true

both_true : (a b : Bool) → not (a && b) ≡ false → (a ≡ true) × (b ≡ true)
both_true true true h = (refl, refl)
both_true true false h = absurd cc
both_true false b h = absurd cc

two_true : (a b : Bool) → (a && b) ≡ true → (a ≡ true) × (b ≡ true)
two_true true b h = (refl, h)
two_true false b h = absurd cc

pub is_in_form : (code : List ℕ) (x : Entry) → is_bad_entry code x ≡ false → IsInForm code x
is_in_form code x h =
    let a = both_true (nat_lt x.0 x.1) (is_start code x.0 && ((is_start code x.1 || x.1 == length code) && is_start code x.2)) h in
    let b = two_true (is_start code x.0) ((is_start code x.1 || x.1 == length code) && is_start code x.2) a.1 in
    let c = two_true (is_start code x.1 || x.1 == length code) (is_start code x.2) b.1 in
    record { some = a.0; start = b.0; end = c.0 }

-- ---- between instructions

pub record CodeLaws : Type 0 where
  pub starts : (code : List ℕ) → AreStarts code
  pub bad : (code : List ℕ) → IsFirstBad code
  pub parts : (code : List ℕ) → IsPartition code
  pub within : (code : List ℕ) (pc : ℕ) → WholeIsWithin code pc

whole_case : (code : List ℕ) (pc : ℕ) (r : Result Instr DecodeFault) → decoded code pc ≡ r → ((IsOk (decoded code pc) → ⊥) → ⊥) → (i : Instr) × (decoded code pc ≡ Ok i)
whole_case code pc (Ok i) e h = (i, e)
whole_case code pc (Err f) e h = absurd (h (λ ok. false≢true (subst (λ (r : Result Instr DecodeFault). IsOk r) e ok)))

start_whole : CodeLaws → (code : List ℕ) → first_bad code ≡ None → (pc : ℕ) → IsStart code pc → (i : Instr) × (decoded code pc ≡ Ok i)
start_whole laws code none pc start =
    whole_case code pc (decoded code pc) refl (λ not. none≢some pc (sym none ∙ (laws.bad code pc).1 (start, not)))

start_between : CodeLaws → (code : List ℕ) → first_bad code ≡ None → (place : ℕ) → IsStart code place → IsBetween code place
start_between laws code none place start pc i at is =
    elim (cases_lt pc place) [
      | inl before ↦
          elim (cases_lt place (pc + i.length)) [
            | inl inside ↦
                let here = start_whole laws code none place start in
                let long = (laws.within code place here.0 here.1).not_empty in
                let owner = laws.parts code none place ((laws.starts code).within_code place start) in
                let mine = owner.2 pc (record { instr = i; start = at; whole = is; from = (let le : pc ≤ place = omega arith in le); to = inside }) in
                let itself = owner.2 place (record { instr = here.0; start = start; whole = here.1; from = (let le : place ≤ place = omega arith in le); to = (let lt : place < place + here.0.length = omega arith in lt) }) in
                absurd (omega arith)
            | inr le ↦ inr le
          ]
      | inr le ↦ inl le
    ]

end_between : CodeLaws → (code : List ℕ) (place : ℕ) → place ≡ length code → IsBetween code place
end_between laws code place e pc i at is = let ends = (laws.within code pc i is).ends in inr (let le : pc + i.length ≤ place = omega arith in le)

either_between : CodeLaws → (code : List ℕ) → first_bad code ≡ None → (place : ℕ) (b : Bool) → is_start code place ≡ b → (b || place == length code) ≡ true → IsBetween code place
either_between laws code none place true e h = start_between laws code none place (among_contains (starts_of code) place e)
either_between laws code none place false e h = end_between laws code place (eqb-true place (length code) h)

pub range_between : CodeLaws → (code : List ℕ) → first_bad code ≡ None → (x : Entry) → IsInForm code x → IsBetween code x.0 × IsBetween code x.1
range_between laws code none x is =
    (start_between laws code none x.0 (among_contains (starts_of code) x.0 is.start), either_between laws code none x.1 (is_start code x.1) refl is.end)

none_bad : (o : Option ℕ) → option_map (λ pc. let f : Failure = (pc, Opcode) in f) o ≡ None → o ≡ None
none_bad None h = refl
none_bad (Some pc) h = absurd cc

pub all_whole : (code : List ℕ) → opcode_failure code ≡ None → first_bad code ≡ None
all_whole code h = none_bad (first_bad code) h
