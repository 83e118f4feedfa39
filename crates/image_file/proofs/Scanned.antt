-- The scan of code is the grammar of code.
use Rattle.std.proofs.Common.{◌≡◌, ℕ, zero, suc, ◌+◌, ◌-◌, ◌<◌, ◌≤◌, ◌==◌, ◌&&◌, ⊎_elim, ◌⊎◌, inl, inr, List, [], ◌∷◌, ◌++◌, length, take, drop, Bool, true, false, cond, nat_le, Some, None, refl, sym, ◌∙◌, ap, subst, arith, append_assoc, eqb-true, leb-true, le-leb}
use Rattle.std.proofs.lemmas.List.{take_all}
use Rattle.std.proofs.lemmas.Bool.{and_parts}
use Rattle.std.specs.declared.option.Option.{Option}
use Rattle.image_file.specs.declared.bare.shape.Shape.{Shape}
use Rattle.image_file.specs.Shapes.{shape_of}
use Rattle.image_file.specs.Bare.{Instruction, KeepLimits, spelled, return_code}
use Rattle.image_file.specs.Scan.{scan, shape_fits, depth_after, bytes_behind}

-- a byte behind an opcode
pub scan-behind : (max_locals max_stack depth behind : ℕ) (bytes : List ℕ) → 0 < behind → 1 ≤ length bytes
    → scan max_locals max_stack depth behind bytes ≡ scan max_locals max_stack depth (behind - 1) (take (length bytes - 1) (drop 1 bytes))
scan-behind l r d behind [] some more = absurd (omega (arith, more))
scan-behind l r d zero (byte ∷ rest) some more = absurd (omega (arith, some))
scan-behind l r d (suc k) (byte ∷ rest) some more =
    let one : k ≡ suc k - 1 = omega arith in
    let all : rest ≡ take (suc (length rest) - 1) rest = sym (take_all (suc (length rest) - 1) rest (omega arith)) in
    ap (λ m. scan l r d m rest) one ∙ ap (λ (xs : List ℕ). scan l r d (suc k - 1) xs) all

-- so many bytes, then instructions and the return, which keep to the limits
pub record Pending (max_locals max_stack depth behind : ℕ) (bytes : List ℕ) : Type 0 where
  pub operands : List ℕ
  pub instructions : List Instruction
  pub count : length operands ≡ behind
  pub spelling : bytes ≡ operands ++ (spelled instructions ++ return_code ∷ [])
  pub within : KeepLimits max_locals max_stack depth instructions

empty : (xs : List ℕ) → length xs ≡ 0 → xs ≡ []
empty [] e = refl
empty (x ∷ xs) e = absurd (omega (arith, e))

-- what a test of a shape says
pub record Known (max_locals max_stack depth : ℕ) (found : Option Shape) : Type 0 where
  pub shape : Shape
  pub is : found ≡ Some shape
  pub locals : shape.locals ≤ max_locals
  pub pops : shape.pops ≤ depth
  pub pushes : depth - shape.pops + shape.pushes ≤ max_stack

known : (max_locals max_stack depth : ℕ) (found : Option Shape) → shape_fits max_locals max_stack depth found ≡ true → Known max_locals max_stack depth found
known l r d None fits = absurd (let e : false ≡ true = fits in cc)
known l r d (Some s) fits =
    let outer = and_parts (nat_le s.locals l && nat_le s.pops d) (nat_le (d - s.pops + s.pushes) r) fits in
    let inner = and_parts (nat_le s.locals l) (nat_le s.pops d) outer.0 in
    record { shape = s; is = refl; locals = leb-true _ _ inner.0; pops = leb-true _ _ inner.1; pushes = leb-true _ _ outer.1 }

entered : (l r d op : ℕ) (rest : List ℕ) → (k : Known l r d (shape_of op)) → Pending l r (depth_after d (shape_of op)) (bytes_behind (shape_of op)) rest → Pending l r d 0 (op ∷ rest)
entered l r d op rest k p =
    let D : Option Shape → Type 0 = λ found. Pending l r (depth_after d found) (bytes_behind found) rest in
    let q : Pending l r (d - k.shape.pops + k.shape.pushes) k.shape.bytes rest = subst D k.is p in
    record {
      operands = [];
      instructions = record { opcode = op; operands = q.operands } ∷ q.instructions;
      count = refl;
      spelling = ap (λ (t : List ℕ). op ∷ t) (q.spelling ∙ sym (append_assoc q.operands (spelled q.instructions) (return_code ∷ [])));
      within = (k.shape, record { known = k.is; bytes = q.count; locals = k.locals; pops = k.pops; pushes = k.pushes }, q.within);
    }

if_cases : (b x y : Bool) → cond b x y ≡ true → ((b ≡ true) × (x ≡ true)) ⊎ ((b ≡ false) × (y ≡ true))
if_cases true x y e = inl (refl, e)
if_cases false x y e = inr (refl, e)

-- code that the scan accepts is of the grammar
pub scan-sound : (max_locals max_stack depth behind : ℕ) (bytes : List ℕ) → scan max_locals max_stack depth behind bytes ≡ true → Pending max_locals max_stack depth behind bytes
scan-sound l r d zero [] e = absurd (let no : false ≡ true = e in cc)
scan-sound l r d (suc k) [] e = absurd (let no : false ≡ true = e in cc)
scan-sound l r d (suc k) (byte ∷ rest) e =
    let p = scan-sound l r d k rest e in
    record { operands = byte ∷ p.operands; instructions = p.instructions; count = ap suc p.count; spelling = ap (λ (t : List ℕ). byte ∷ t) p.spelling; within = p.within }
scan-sound l r d zero (op ∷ rest) e =
    ⊎_elim
    (λ last. record {
      operands = [];
      instructions = [];
      count = refl;
      spelling = ap (λ (x : ℕ). x ∷ rest) (eqb-true op return_code last.0) ∙ ap (λ (t : List ℕ). return_code ∷ t) (empty rest (eqb-true (length rest) 0 last.1));
      within = tt;
    })
    (λ more.
    let parts = and_parts (shape_fits l r d (shape_of op)) (scan l r (depth_after d (shape_of op)) (bytes_behind (shape_of op)) rest) more.1 in
    entered l r d op rest (known l r d (shape_of op) parts.0) (scan-sound l r (depth_after d (shape_of op)) (bytes_behind (shape_of op)) rest parts.1))
    (if_cases (op == return_code) (length rest == 0) (shape_fits l r d (shape_of op) && scan l r (depth_after d (shape_of op)) (bytes_behind (shape_of op)) rest) e)

scan-skip : (l r d : ℕ) (xs ys : List ℕ) → scan l r d (length xs) (xs ++ ys) ≡ scan l r d 0 ys
scan-skip l r d [] ys = refl
scan-skip l r d (x ∷ xs) ys = scan-skip l r d xs ys

fits_true : (l r d : ℕ) (s : Shape) → s.locals ≤ l → s.pops ≤ d → d - s.pops + s.pushes ≤ r → shape_fits l r d (Some s) ≡ true
fits_true l r d s locals pops pushes = rw (le-leb s.locals l locals, le-leb s.pops d pops, le-leb (d - s.pops + s.pushes) r pushes) refl

two : (b : Bool) → (b ≡ true) ⊎ (b ≡ false)
two true = inl refl
two false = inr refl

-- no instruction before the end is a return
not_return : (op : ℕ) (s : Shape) → shape_of op ≡ Some s → (op == return_code) ≡ false
not_return op s is =
    ⊎_elim
    (λ (yes : (op == return_code) ≡ true).
    let same : op ≡ return_code = eqb-true op return_code yes in
    let none : None ≡ Some s = sym (ap shape_of same) ∙ is in
    absurd (cc))
    (λ no. no)
    (two (op == return_code))

-- code of the grammar is accepted by the scan
pub scan-complete : (max_locals max_stack depth : ℕ) (is : List Instruction) → KeepLimits max_locals max_stack depth is → scan max_locals max_stack depth 0 (spelled is ++ return_code ∷ []) ≡ true
scan-complete l r d [] within = refl
scan-complete l r d (i ∷ is) within =
    let s : Shape = within.0 in
    let fits = within.1 in
    let rest : List ℕ = spelled is ++ return_code ∷ [] in
    let F : Option Shape → Type 0 = λ found. (shape_fits l r d found && scan l r (depth_after d found) (bytes_behind found) (i.operands ++ rest)) ≡ true in
    let skipped : scan l r (d - s.pops + s.pushes) s.bytes (i.operands ++ rest) ≡ true =
    ap (λ k. scan l r (d - s.pops + s.pushes) k (i.operands ++ rest)) (sym fits.bytes) ∙ scan-skip l r (d - s.pops + s.pushes) i.operands rest ∙ scan-complete l r (d - s.pops + s.pushes) is within.2 in
    let some : (shape_fits l r d (Some s) && scan l r (d - s.pops + s.pushes) s.bytes (i.operands ++ rest)) ≡ true = rw (fits_true l r d s fits.locals fits.pops fits.pushes) skipped in
    let here : (shape_fits l r d (shape_of i.opcode) && scan l r (depth_after d (shape_of i.opcode)) (bytes_behind (shape_of i.opcode)) (i.operands ++ rest)) ≡ true = subst F (sym fits.known) some in
    let C : Bool → Type 0 = λ b. cond b (length (i.operands ++ rest) == 0) (shape_fits l r d (shape_of i.opcode) && scan l r (depth_after d (shape_of i.opcode)) (bytes_behind (shape_of i.opcode)) (i.operands ++ rest)) ≡ true in
    let S : List ℕ → Type 0 = λ t. scan l r d 0 (i.opcode ∷ t) ≡ true in
    subst S (sym (append_assoc i.operands (spelled is) (return_code ∷ []))) (subst C (sym (not_return i.opcode s fits.known)) here)
