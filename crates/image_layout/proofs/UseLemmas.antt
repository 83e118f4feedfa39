-- One instruction more that uses entries of a pool.
use Rattle.std.proofs.Common.{◌≡◌, ℕ, zero, suc, ◌<◌, ◌≤◌, Bool, true, false, not, ◌&&◌, eqb, inl, inr, List, [], ◌∷◌, ◌++◌, Option, Some, None, Result, Ok, Err, ◌+◌, map, take, length, length-append, get_or, set, length-set, append-nil, refl, sym, ap, ap₂, ◌∙◌, subst, arith}
use Rattle.std.specs.Prelude.{slice_get, is_some, if◌then◌else◌}
use Rattle.lists.proofs.Lemmas.{none≢some, some_same}
use Rattle.program_tables.specs.Tables.{HasFileLimits}
use Rattle.std.specs.Option.{option_map, option_or}
use Rattle.std.specs.List.{filter, filter_map, find, range_with_len, AllByRecursion}
use Rattle.std.proofs.lemmas.Bool.{false≢true, cases_Bool, eqb-true, eqb-false}
use Rattle.std.proofs.lemmas.List.{get_or-set_same, get_or-set_other}
use Rattle.std.proofs.lemmas.List.FromFn.{fill_by_all, length-map-range_with_len, get_or-map-range_with_len}
use Rattle.std.proofs.lemmas.List.Elements.{filter-append}
use Rattle.class_pool.specs.declared.class.ClassFile.{ClassFile}
use Rattle.opcodes.specs.declared.instruction.Instr.{Instr}
use Rattle.opcodes.specs.declared.instruction.DecodeFault.{DecodeFault}
use Rattle.opcodes.specs.Instruction.{decoded}
use Rattle.bytecode_model.specs.Program.{as_instr}
use Rattle.program_tables.specs.Instructions.{Placed, placed_at, index_of_entry, named_in}
use Rattle.program_tables.specs.Naming.{NamesNothingAt}
use Rattle.program_tables.specs.Operands.{operand_in}
use Rattle.image_words.specs.Layout.{outline_of}
use Rattle.image_words.specs.Pools.{operand_place}
use Rattle.image_layout.specs.declared.uses.Use.{Use}
use Rattle.image_layout.specs.Uses.{instr_of, is_fixed, names_index, use_by, use_of, again, fixed_place}
use Rattle.image_layout.proofs.EntryLemmas.{instructions_more}

find_case : {A : Type 0} (t : A → Bool) (y x : A) (ys : List A) (b : Bool) → find t (ys ++ x ∷ []) ≡ option_or (find t ys) (if t x then Some x else None)
    → (if b then Some y else find t (ys ++ x ∷ [])) ≡ option_or (if b then Some y else find t ys) (if t x then Some x else None)
find_case t y x ys true h = refl
find_case t y x ys false h = h

find_push : {A : Type 0} (t : A → Bool) (ys : List A) (x : A) → find t (ys ++ x ∷ []) ≡ option_or (find t ys) (if t x then Some x else None)
find_push t [] x = refl
find_push t (y ∷ ys) x = find_case t y x ys (t y) (find_push t ys x)

mapped : {A B : Type 0} (f : A → B) (o : Option A) (x : A) (b : Bool) → option_map f (option_or o (if b then Some x else None)) ≡ option_or (option_map f o) (if b then Some (f x) else None)
mapped f None x true = refl
mapped f None x false = refl
mapped f (Some y) x b = refl

pushed_some : {A : Type 0} (ys : List A) (x : A) → not (eqb (length (ys ++ x ∷ [])) 0) ≡ true
pushed_some ys x = elim (cases_Bool (eqb (length (ys ++ x ∷ [])) 0)) [
  | inl t ↦ let long = length-append ys (x ∷ []) in let none = eqb-true (length (ys ++ x ∷ [])) 0 t in absurd (omega (arith, long, none))
  | inr f ↦ ap not f
]

by_push : (cs : List ClassFile) (c : ℕ) (k : ClassFile) (ys : List Instr) (x : Instr) → use_by cs c k (ys ++ x ∷ []) ≡ again (use_by cs c k ys) (fixed_place cs c k x)
by_push cs c k ys x =
    let place : Instr → ℕ = λ x. operand_place (outline_of cs) (operand_in cs c k x) in
    let made : Bool → Option ℕ → Use = λ n t. record { named = n; taken = t } in
    ap₂ made (pushed_some ys x) (ap (option_map place) (find_push is_fixed ys x) ∙ mapped place (find is_fixed ys) x (is_fixed x))

named_case : (cs : List ClassFile) (c : ℕ) (k : ClassFile) (ys : List Instr) (x : Instr) (b : Bool) → use_by cs c k (ys ++ (if b then x ∷ [] else [])) ≡ (if b then again (use_by cs c k ys) (fixed_place cs c k x) else use_by cs c k ys)
named_case cs c k ys x true = by_push cs c k ys x
named_case cs c k ys x false = ap (use_by cs c k) (append-nil ys)

pub use_more : (cs : List ClassFile) (c : ℕ) (k : ClassFile) (xs : List Instr) (x : Instr) (i : ℕ)
    → use_of cs c k (xs ++ x ∷ []) i ≡ (if names_index k i x then again (use_of cs c k xs i) (fixed_place cs c k x) else use_of cs c k xs i)
use_more cs c k xs x i =
    ap (use_by cs c k) (filter-append (names_index k i) xs (x ∷ []))
    ∙ named_case cs c k (filter (names_index k i) xs) x (names_index k i x)

not_named : (b : Bool) (a d : Use) → b ≡ false → (if b then a else d) ≡ d
not_named true a d h = absurd (false≢true (sym h))
not_named false a d h = refl

is_named : (b : Bool) (a d : Use) → b ≡ true → (if b then a else d) ≡ a
is_named true a d h = refl
is_named false a d h = absurd (false≢true h)

-- it names an entry within the pool
pub use_noted : (cs : List ClassFile) (c : ℕ) (k : ClassFile) (xs : List Instr) (x : Instr) (many : ℕ) (old : List Use) (d v : Use) → old ≡ map (use_of cs c k xs) (range_with_len 0 many)
    → is_some (named_in k x) ≡ true → index_of_entry x < length old → d ≡ get_or old (index_of_entry x) d → v ≡ again d (fixed_place cs c k x)
    → set old (index_of_entry x) v ≡ map (use_of cs c k (xs ++ x ∷ [])) (range_with_len 0 many)
use_noted cs c k xs x many old d v h n lt is e =
    let f = use_of cs c k xs in
    let at = index_of_entry x in
    let long = ap length h ∙ length-map-range_with_len f 0 many in
    let kept = length-set old at v in
    let within : at < many = omega (arith, lt, long) in
    let before : d ≡ f at = is ∙ (ap (λ us. get_or us at d) h ∙ get_or-map-range_with_len f 0 many at at d within (omega arith)) in
    fill_by_all (use_of cs c k (xs ++ x ∷ [])) (set old at v) many d (omega (arith, kept, long)) (λ i less.
    elim (cases_Bool (eqb at i)) [
      | inl t ↦
          let same = eqb-true at i t in
          let names : names_index k i x ≡ true = ap₂ (λ (a : Bool) (b : Bool). a && b) t n in
          subst (λ (j : ℕ). get_or (set old at v) j d ≡ use_of cs c k (xs ++ x ∷ []) i) same (get_or-set_same old at v d lt
          ∙ (e ∙ (ap (λ (u : Use). again u (fixed_place cs c k x)) (before ∙ ap f same) ∙ sym (use_more cs c k xs x i ∙ is_named (names_index k i x) (again (f i) (fixed_place cs c k x)) (f i) names))))
      | inr o ↦
          let apart = eqb-false at i o in
          let names : names_index k i x ≡ false = ap (λ (a : Bool). a && is_some (named_in k x)) o in
          get_or-set_other old at i v d (λ g. apart (sym g))
          ∙ (ap (λ us. get_or us i d) h
          ∙ (get_or-map-range_with_len f 0 many i i d less (omega arith) ∙ sym (use_more cs c k xs x i ∙ not_named (names_index k i x) (again (f i) (fixed_place cs c k x)) (f i) names)))
    ])

-- it names none of these entries
pub use_passed : (cs : List ClassFile) (c : ℕ) (k : ClassFile) (xs : List Instr) (x : Instr) (many : ℕ) (old : List Use) → old ≡ map (use_of cs c k xs) (range_with_len 0 many)
    → ((i : ℕ) → i < many → names_index k i x ≡ false) → old ≡ map (use_of cs c k (xs ++ x ∷ [])) (range_with_len 0 many)
use_passed cs c k xs x many old h none =
    let f = use_of cs c k xs in
    let nothing : Use = record { named = false; taken = None } in
    let long = ap length h ∙ length-map-range_with_len f 0 many in
    fill_by_all (use_of cs c k (xs ++ x ∷ [])) old many nothing long (λ i less.
    ap (λ us. get_or us i nothing) h
    ∙ (get_or-map-range_with_len f 0 many i i nothing less (omega arith) ∙ sym (use_more cs c k xs x i ∙ not_named (names_index k i x) (again (f i) (fixed_place cs c k x)) (f i) (none i less))))

pub unnamed : (k : ClassFile) (x : Instr) (i : ℕ) → is_some (named_in k x) ≡ false → names_index k i x ≡ false
unnamed k x i h = ap (λ (b : Bool). eqb (index_of_entry x) i && b) h ∙ and_false (eqb (index_of_entry x) i)
  where
    and_false : (b : Bool) → (b && false) ≡ false
    and_false true = refl
    and_false false = refl

pub past_named : (k : ClassFile) (x : Instr) (many i : ℕ) → many ≤ index_of_entry x → i < many → names_index k i x ≡ false
past_named k x many i past less =
    elim (cases_Bool (eqb (index_of_entry x) i)) [
      | inl t ↦ let same = eqb-true (index_of_entry x) i t in absurd (omega (arith, same, past, less))
      | inr o ↦ ap (λ (a : Bool). a && is_some (named_in k x)) o
    ]

-- ---- places of a code

-- the instructions before a place, and the one there
abbrev pub before_place : List Instr → (code pcs : List ℕ) → (i : ℕ) → List Instr
before_place before code pcs i = before ++ map instr_of (filter_map (placed_at code) (take i pcs))

pub place_noted : (before : List Instr) (code pcs : List ℕ) (i pc : ℕ) (x : Instr) → slice_get pcs i ≡ Some pc → decoded code pc ≡ Ok x
    → before_place before code pcs i ++ x ∷ [] ≡ before_place before code pcs (i + 1)
place_noted before code pcs i pc x at is =
    let placed : Placed = record { pc = pc; instr = x } in
    let old = before_place before code pcs i in
    instructions_more code pcs i pc (Some placed) before old (old ++ x ∷ []) at (ap (λ r. option_map (λ i. let p : Placed = record { pc = pc; instr = i } in p) (as_instr r)) is) refl refl

-- an instruction that names nothing, or none
pub place_passed : (cs : List ClassFile) (c : ℕ) (k : ClassFile) (before : List Instr) (code pcs : List ℕ) (i pc many : ℕ) (old : List Use) → slice_get pcs i ≡ Some pc → NamesNothingAt code pc
    → old ≡ map (use_of cs c k (before_place before code pcs i)) (range_with_len 0 many) → old ≡ map (use_of cs c k (before_place before code pcs (i + 1))) (range_with_len 0 many)
place_passed cs c k before code pcs i pc many old at none h = by (decoded code pc) refl
  where
    by : (r : Result Instr DecodeFault) → decoded code pc ≡ r → old ≡ map (use_of cs c k (before_place before code pcs (i + 1))) (range_with_len 0 many)
    by (Ok x) e =
        let xs = before_place before code pcs i in
        let nothing : is_some (named_in k x) ≡ false = ap is_some (none x e k) in
        use_passed cs c k xs x many old h (λ j less. unnamed k x j nothing)
        ∙ ap (λ (is : List Instr). map (use_of cs c k is) (range_with_len 0 many)) (place_noted before code pcs i pc x at e)
    by (Err fault) e =
        let xs = before_place before code pcs i in
        let same = instructions_more code pcs i pc None before xs xs at (ap (λ r. option_map (λ i. let p : Placed = record { pc = pc; instr = i } in p) (as_instr r)) e) refl (sym (append-nil xs)) in
        h ∙ ap (λ (is : List Instr). map (use_of cs c k is) (range_with_len 0 many)) same

-- ---- classes within bounds

pub bounded : (cs : List ClassFile) (n : ℕ) (k : ClassFile) → AllByRecursion HasFileLimits cs → slice_get cs n ≡ Some k → HasFileLimits k
bounded [] n k h e = absurd (none≢some k e)
bounded (c ∷ cs) zero k h e = subst HasFileLimits (some_same c k e) h.0
bounded (c ∷ cs) (suc n) k h e = bounded cs n k h.1 e
