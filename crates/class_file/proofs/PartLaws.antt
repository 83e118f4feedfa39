-- A part that is read is spelled so, and a part that is spelled so is read: handlers, named bytes and code.
use Rattle.std.proofs.Common.{◌≡◌, ℕ, zero, suc, ◌==◌, Bool, true, false, cond, List, [], ◌∷◌, ◌++◌, length, Option, Some, None, refl, sym, ap, subst, ◌∙◌, append_assoc, arith}
use Rattle.std.specs.List.{flat_map, AllByRecursion}
use Rattle.std.proofs.lemmas.Bool.{eqb-true}
use Rattle.std.proofs.lemmas.List.{nil_from_length}
use Rattle.std.proofs.lemmas.List.Concat.{flat_map-cons}
use Rattle.class_pool.specs.Spelling.{u2, u4}
use Rattle.base.specs.Reading.{◌>>=◌}
use Rattle.class_pool.specs.Reading.{number_in, front_in}
use Rattle.class_pool.specs.NumberLaws.{IsBytes, bind_some, same_some, Takes, Takes-then, wide_2, wide_4, number_takes, number_again, front_takes, front_again}
use Rattle.class_pool.specs.declared.class.Code.{Code as CodeParts}
use Rattle.class_pool.specs.ClassSpelling.{HandlerParts, NamedParts, counted, handler_bytes, framed, named_bytes, code_bytes}
use Rattle.class_pool.specs.Structure.{AreCounted, IsHandler, IsNamedInRange, HasCodeRange}
use Rattle.base.specs.Reading.{whole}
use Rattle.class_file.specs.InsideReading.{many_in, counted_in, handler_in, named_in, code_in}

-- a part that is read is spelled so
abbrev pub IsTaken : {X : Type 0} → (X → List ℕ) → (X → Type 0) → (List ℕ → Option (X × List ℕ)) → Type 0
IsTaken {X} spelled fits read = (bytes : List ℕ) (x : X) (rest : List ℕ) → IsBytes bytes → read bytes ≡ Some (x, rest) → Takes bytes (spelled x) rest × fits x

-- a part that is spelled is read
abbrev pub IsAgain : {X : Type 0} → (X → List ℕ) → (X → Type 0) → (List ℕ → Option (X × List ℕ)) → Type 0
IsAgain {X} spelled fits read = (x : X) (rest : List ℕ) → fits x → read (spelled x ++ rest) ≡ Some (x, rest)

-- a step of reading whose part is there
pub step : {X Y : Type 0} (read : List ℕ → Option (X × List ℕ)) (f : X × List ℕ → Option Y) (bytes : List ℕ) (x : X × List ℕ) → read bytes ≡ Some x → (read bytes >>= f) ≡ f x
step read f bytes x e = ap (λ r. r >>= f) e

-- ---- lists

many_take : {X : Type 0} (spelled : X → List ℕ) (fits : X → Type 0) (read : List ℕ → Option (X × List ℕ)) → IsTaken spelled fits read
    → (n : ℕ) (bytes : List ℕ) (found : List X × List ℕ) → IsBytes bytes → many_in read n bytes ≡ Some found → Takes bytes (flat_map spelled found.0) found.1 × (length found.0 ≡ n) × AllByRecursion fits found.0
unfolding many_in
many_take {X} spelled fits read takes zero bytes found small e =
    let P : List X × List ℕ → Type 0 = λ f. Takes bytes (flat_map spelled f.0) f.1 × (length f.0 ≡ zero) × AllByRecursion fits f.0 in
    subst P (same_some ([], bytes) found e) (record { parts = refl; rest_fits = small }, refl, tt)
many_take {X} spelled fits read takes (suc n) bytes found small e =
    let a = bind_some (read bytes) (λ first. many_in read n first.1 >>= λ others. Some (first.0 ∷ others.0, others.1)) found e in
    let b = bind_some (many_in read n a.0.1) (λ others. Some (a.0.0 ∷ others.0, others.1)) found a.2 in
    let first = takes bytes a.0.0 a.0.1 small a.1 in
    let others = many_take spelled fits read takes n a.0.1 b.0 first.0.rest_fits b.1 in
    let both = Takes-then bytes (spelled a.0.0) a.0.1 (flat_map spelled b.0.0) b.0.1 first.0 others.0 in
    let P : List X × List ℕ → Type 0 = λ f. Takes bytes (flat_map spelled f.0) f.1 × (length f.0 ≡ suc n) × AllByRecursion fits f.0 in
    subst P (same_some (a.0.0 ∷ b.0.0, b.0.1) found b.2) (rw flat_map-cons both, ap suc others.1, (first.1, others.2))

many_again : {X : Type 0} (spelled : X → List ℕ) (fits : X → Type 0) (read : List ℕ → Option (X × List ℕ)) → IsAgain spelled fits read
    → (xs : List X) (rest : List ℕ) → AllByRecursion fits xs → many_in read (length xs) (flat_map spelled xs ++ rest) ≡ Some (xs, rest)
unfolding many_in
many_again spelled fits read again [] rest h = refl
many_again {X} spelled fits read again (x ∷ xs) rest h =
    let text : flat_map spelled (x ∷ xs) ++ rest ≡ spelled x ++ (flat_map spelled xs ++ rest) = ap (λ (t : List ℕ). t ++ rest) (flat_map-cons spelled x xs) ∙ append_assoc (spelled x) (flat_map spelled xs) rest in
    ap (many_in read (suc (length xs))) text
    ∙ step read (λ f. many_in read (length xs) f.1 >>= λ others. Some (f.0 ∷ others.0, others.1)) (spelled x ++ (flat_map spelled xs ++ rest)) (x, flat_map spelled xs ++ rest) (again x (flat_map spelled xs ++ rest) h.0)
    ∙ step (many_in read (length xs)) (λ others. Some (x ∷ others.0, others.1)) (flat_map spelled xs ++ rest) (xs, rest) (many_again spelled fits read again xs rest h.1)

pub counted_takes : {X : Type 0} (spelled : X → List ℕ) (fits : X → Type 0) (read : List ℕ → Option (X × List ℕ)) → IsTaken spelled fits read
    → (bytes : List ℕ) (xs : List X) (rest : List ℕ) → IsBytes bytes → counted_in read bytes ≡ Some (xs, rest) → Takes bytes (counted spelled xs) rest × AreCounted fits xs
unfolding counted_in
counted_takes {X} spelled fits read takes bytes xs rest small e =
    let a = bind_some (number_in 2 bytes) (λ n. many_in read n.0 n.1) (xs, rest) e in
    let first = number_takes 2 wide_2 bytes a.0.0 a.0.1 small a.1 in
    let others = many_take spelled fits read takes a.0.0 a.0.1 (xs, rest) first.0.rest_fits a.2 in
    let both = Takes-then bytes (u2 a.0.0) a.0.1 (flat_map spelled xs) rest first.0 others.0 in
    (subst (λ (k : ℕ). Takes bytes (u2 k ++ flat_map spelled xs) rest) (sym others.1) both, (omega (arith, first.1, others.1), others.2))

pub counted_again : {X : Type 0} (spelled : X → List ℕ) (fits : X → Type 0) (read : List ℕ → Option (X × List ℕ)) → IsAgain spelled fits read
    → (xs : List X) (rest : List ℕ) → AreCounted fits xs → counted_in read (counted spelled xs ++ rest) ≡ Some (xs, rest)
unfolding counted_in
counted_again spelled fits read again xs rest h =
    let text : List ℕ = flat_map spelled xs in
    ap (λ (b : List ℕ). number_in 2 b >>= λ n. many_in read n.0 n.1) (append_assoc (u2 (length xs)) text rest)
    ∙ step (number_in 2) (λ n. many_in read n.0 n.1) (u2 (length xs) ++ (text ++ rest)) (length xs, text ++ rest) (number_again 2 wide_2 (length xs) (text ++ rest) h.0)
    ∙ many_again spelled fits read again xs rest h.1

-- ---- handlers

pub handler_takes : IsTaken handler_bytes IsHandler handler_in
unfolding handler_in
handler_takes bytes h rest small e =
    let a = bind_some (number_in 2 bytes) (λ s. number_in 2 s.1 >>= λ n. number_in 2 n.1 >>= λ r. number_in 2 r.1 >>= λ k. Some ((s.0, n.0, r.0, k.0), k.1)) (h, rest) e in
    let b = bind_some (number_in 2 a.0.1) (λ n. number_in 2 n.1 >>= λ r. number_in 2 r.1 >>= λ k. Some ((a.0.0, n.0, r.0, k.0), k.1)) (h, rest) a.2 in
    let d = bind_some (number_in 2 b.0.1) (λ r. number_in 2 r.1 >>= λ k. Some ((a.0.0, b.0.0, r.0, k.0), k.1)) (h, rest) b.2 in
    let f = bind_some (number_in 2 d.0.1) (λ k. Some ((a.0.0, b.0.0, d.0.0, k.0), k.1)) (h, rest) d.2 in
    let t0 = number_takes 2 wide_2 bytes a.0.0 a.0.1 small a.1 in
    let t1 = number_takes 2 wide_2 a.0.1 b.0.0 b.0.1 t0.0.rest_fits b.1 in
    let t2 = number_takes 2 wide_2 b.0.1 d.0.0 d.0.1 t1.0.rest_fits d.1 in
    let t3 = number_takes 2 wide_2 d.0.1 f.0.0 f.0.1 t2.0.rest_fits f.1 in
    let e23 = Takes-then b.0.1 (u2 d.0.0) d.0.1 (u2 f.0.0) f.0.1 t2.0 t3.0 in
    let e13 = Takes-then a.0.1 (u2 b.0.0) b.0.1 (u2 d.0.0 ++ u2 f.0.0) f.0.1 t1.0 e23 in
    let e03 = Takes-then bytes (u2 a.0.0) a.0.1 (u2 b.0.0 ++ (u2 d.0.0 ++ u2 f.0.0)) f.0.1 t0.0 e13 in
    let made : HandlerParts × List ℕ = ((a.0.0, b.0.0, d.0.0, f.0.0), f.0.1) in
    let P : HandlerParts × List ℕ → Type 0 = λ p. Takes bytes (handler_bytes p.0) p.1 × IsHandler p.0 in
    subst P (same_some made (h, rest) f.2) (e03, (t0.1, t1.1, t2.1, t3.1))

pub handler_again : IsAgain handler_bytes IsHandler handler_in
unfolding handler_in
handler_again h rest fits =
    step (number_in 2) (λ s. number_in 2 s.1 >>= λ n. number_in 2 n.1 >>= λ r. number_in 2 r.1 >>= λ k. Some ((s.0, n.0, r.0, k.0), k.1)) (u2 h.0 ++ (u2 h.1 ++ (u2 h.2 ++ (u2 h.3 ++ rest)))) (h.0, u2 h.1 ++ (u2 h.2 ++ (u2 h.3 ++ rest))) (number_again 2 wide_2 h.0 (u2 h.1 ++ (u2 h.2 ++ (u2 h.3 ++ rest))) fits.0)
    ∙ step (number_in 2) (λ n. number_in 2 n.1 >>= λ r. number_in 2 r.1 >>= λ k. Some ((h.0, n.0, r.0, k.0), k.1)) (u2 h.1 ++ (u2 h.2 ++ (u2 h.3 ++ rest))) (h.1, u2 h.2 ++ (u2 h.3 ++ rest)) (number_again 2 wide_2 h.1 (u2 h.2 ++ (u2 h.3 ++ rest)) fits.1)
    ∙ step (number_in 2) (λ r. number_in 2 r.1 >>= λ k. Some ((h.0, h.1, r.0, k.0), k.1)) (u2 h.2 ++ (u2 h.3 ++ rest)) (h.2, u2 h.3 ++ rest) (number_again 2 wide_2 h.2 (u2 h.3 ++ rest) fits.2)
    ∙ step (number_in 2) (λ k. Some ((h.0, h.1, h.2, k.0), k.1)) (u2 h.3 ++ rest) (h.3, rest) (number_again 2 wide_2 h.3 rest fits.3)

-- ---- a name, a length and so many bytes

-- what a named part took, its bytes among it
pub named_frame : (bytes : List ℕ) (a : NamedParts) (rest : List ℕ) → IsBytes bytes → named_in bytes ≡ Some (a, rest) → Takes bytes (named_bytes a) rest × IsNamedInRange a × IsBytes a.1
unfolding named_in
named_frame bytes named rest small e =
    let a = bind_some (number_in 2 bytes) (λ name. number_in 4 name.1 >>= λ n. front_in n.0 n.1 >>= λ content. Some ((name.0, content.0), content.1)) (named, rest) e in
    let b = bind_some (number_in 4 a.0.1) (λ n. front_in n.0 n.1 >>= λ content. Some ((a.0.0, content.0), content.1)) (named, rest) a.2 in
    let d = bind_some (front_in b.0.0 b.0.1) (λ content. Some ((a.0.0, content.0), content.1)) (named, rest) b.2 in
    let t0 = number_takes 2 wide_2 bytes a.0.0 a.0.1 small a.1 in
    let t1 = number_takes 4 wide_4 a.0.1 b.0.0 b.0.1 t0.0.rest_fits b.1 in
    let t2 = front_takes b.0.0 b.0.1 d.0.0 d.0.1 t1.0.rest_fits d.1 in
    let e12 = Takes-then a.0.1 (u4 b.0.0) b.0.1 d.0.0 d.0.1 t1.0 t2.0 in
    let e02 = Takes-then bytes (u2 a.0.0) a.0.1 (u4 b.0.0 ++ d.0.0) d.0.1 t0.0 e12 in
    let same : Takes bytes (framed a.0.0 d.0.0) d.0.1 = subst (λ (k : ℕ). Takes bytes (u2 a.0.0 ++ (u4 k ++ d.0.0)) d.0.1) (sym t2.1) e02 in
    let made : NamedParts × List ℕ = ((a.0.0, d.0.0), d.0.1) in
    let P : NamedParts × List ℕ → Type 0 = λ p. Takes bytes (named_bytes p.0) p.1 × IsNamedInRange p.0 × IsBytes p.0.1 in
    subst P (same_some made (named, rest) d.2) (same, (t0.1, omega (arith, t1.1, t2.1)), t2.2)

pub named_takes : IsTaken named_bytes IsNamedInRange named_in
named_takes bytes a rest small e = let f = named_frame bytes a rest small e in (f.0, f.1)

pub named_again : IsAgain named_bytes IsNamedInRange named_in
unfolding named_in
named_again a rest fits =
    let text : List ℕ = a.1 in
    let after : List ℕ = u4 (length text) ++ (text ++ rest) in
    ap (λ (b : List ℕ). number_in 2 b >>= λ name. number_in 4 name.1 >>= λ n. front_in n.0 n.1 >>= λ content. Some ((name.0, content.0), content.1)) (append_assoc (u2 a.0) (u4 (length text) ++ text) rest ∙ ap (λ (b : List ℕ). u2 a.0 ++ b) (append_assoc (u4 (length text)) text rest))
    ∙ step (number_in 2) (λ name. number_in 4 name.1 >>= λ n. front_in n.0 n.1 >>= λ content. Some ((name.0, content.0), content.1)) (u2 a.0 ++ after) (a.0, after) (number_again 2 wide_2 a.0 after fits.0)
    ∙ step (number_in 4) (λ n. front_in n.0 n.1 >>= λ content. Some ((a.0, content.0), content.1)) after (length text, text ++ rest) (number_again 4 wide_4 (length text) (text ++ rest) fits.1)
    ∙ step (front_in (length text)) (λ content. Some ((a.0, content.0), content.1)) (text ++ rest) (text, rest) (front_again text rest)

-- ---- code

pub code_takes : IsTaken code_bytes HasCodeRange code_in
unfolding code_in
code_takes bytes code rest small e =
    let last = λ (s l : ℕ) (t : List ℕ) (h : List HandlerParts) (k : List NamedParts × List ℕ). let c : CodeParts = record { max_stack = s; max_locals = l; code = t; handlers = h; attributes = k.0 } in let p : CodeParts × List ℕ = (c, k.1) in Some p in
    let a = bind_some (number_in 2 bytes) (λ s. number_in 2 s.1 >>= λ l. number_in 4 l.1 >>= λ n. front_in n.0 n.1 >>= λ t. counted_in handler_in t.1 >>= λ h. counted_in named_in h.1 >>= last s.0 l.0 t.0 h.0) (code, rest) e in
    let b = bind_some (number_in 2 a.0.1) (λ l. number_in 4 l.1 >>= λ n. front_in n.0 n.1 >>= λ t. counted_in handler_in t.1 >>= λ h. counted_in named_in h.1 >>= last a.0.0 l.0 t.0 h.0) (code, rest) a.2 in
    let d = bind_some (number_in 4 b.0.1) (λ n. front_in n.0 n.1 >>= λ t. counted_in handler_in t.1 >>= λ h. counted_in named_in h.1 >>= last a.0.0 b.0.0 t.0 h.0) (code, rest) b.2 in
    let f = bind_some (front_in d.0.0 d.0.1) (λ t. counted_in handler_in t.1 >>= λ h. counted_in named_in h.1 >>= last a.0.0 b.0.0 t.0 h.0) (code, rest) d.2 in
    let g = bind_some (counted_in handler_in f.0.1) (λ h. counted_in named_in h.1 >>= last a.0.0 b.0.0 f.0.0 h.0) (code, rest) f.2 in
    let k = bind_some (counted_in named_in g.0.1) (last a.0.0 b.0.0 f.0.0 g.0.0) (code, rest) g.2 in
    let t0 = number_takes 2 wide_2 bytes a.0.0 a.0.1 small a.1 in
    let t1 = number_takes 2 wide_2 a.0.1 b.0.0 b.0.1 t0.0.rest_fits b.1 in
    let t2 = number_takes 4 wide_4 b.0.1 d.0.0 d.0.1 t1.0.rest_fits d.1 in
    let t3 = front_takes d.0.0 d.0.1 f.0.0 f.0.1 t2.0.rest_fits f.1 in
    let t4 = counted_takes handler_bytes IsHandler handler_in handler_takes f.0.1 g.0.0 g.0.1 t3.0.rest_fits g.1 in
    let t5 = counted_takes named_bytes IsNamedInRange named_in named_takes g.0.1 k.0.0 k.0.1 t4.0.rest_fits k.1 in
    let e45 = Takes-then f.0.1 (counted handler_bytes g.0.0) g.0.1 (counted named_bytes k.0.0) k.0.1 t4.0 t5.0 in
    let e35 = Takes-then d.0.1 f.0.0 f.0.1 (counted handler_bytes g.0.0 ++ counted named_bytes k.0.0) k.0.1 t3.0 e45 in
    let e25 = Takes-then b.0.1 (u4 d.0.0) d.0.1 (f.0.0 ++ (counted handler_bytes g.0.0 ++ counted named_bytes k.0.0)) k.0.1 t2.0 e35 in
    let e15 = Takes-then a.0.1 (u2 b.0.0) b.0.1 (u4 d.0.0 ++ (f.0.0 ++ (counted handler_bytes g.0.0 ++ counted named_bytes k.0.0))) k.0.1 t1.0 e25 in
    let e05 = Takes-then bytes (u2 a.0.0) a.0.1 (u2 b.0.0 ++ (u4 d.0.0 ++ (f.0.0 ++ (counted handler_bytes g.0.0 ++ counted named_bytes k.0.0)))) k.0.1 t0.0 e15 in
    let made : CodeParts × List ℕ = (record { max_stack = a.0.0; max_locals = b.0.0; code = f.0.0; handlers = g.0.0; attributes = k.0.0 }, k.0.1) in
    let same : Takes bytes (code_bytes made.0) made.1 = subst (λ (n : ℕ). Takes bytes (u2 a.0.0 ++ (u2 b.0.0 ++ (u4 n ++ (f.0.0 ++ (counted handler_bytes g.0.0 ++ counted named_bytes k.0.0))))) k.0.1) (sym t3.1) e05 in
    let P : CodeParts × List ℕ → Type 0 = λ p. Takes bytes (code_bytes p.0) p.1 × HasCodeRange p.0 in
    subst P (same_some made (code, rest) k.2) (same, record { max_stack = t0.1; max_locals = t1.1; length = omega (arith, t2.1, t3.1); handlers = t4.1; attributes = t5.1 })

pub code_again : IsAgain code_bytes HasCodeRange code_in
unfolding code_in
code_again c rest fits =
    let last = λ (s l : ℕ) (t : List ℕ) (h : List HandlerParts) (k : List NamedParts × List ℕ). let x : CodeParts = record { max_stack = s; max_locals = l; code = t; handlers = h; attributes = k.0 } in let p : CodeParts × List ℕ = (x, k.1) in Some p in
    let r5 : List ℕ = counted named_bytes c.attributes ++ rest in
    let r4 : List ℕ = counted handler_bytes c.handlers ++ r5 in
    let r3 : List ℕ = c.code ++ r4 in
    let r2 : List ℕ = u4 (length c.code) ++ r3 in
    let r1 : List ℕ = u2 c.max_locals ++ r2 in
    let tail : List ℕ = counted handler_bytes c.handlers ++ counted named_bytes c.attributes in
    let inner : (c.code ++ tail) ++ rest ≡ r3 = append_assoc c.code tail rest ∙ ap (λ (b : List ℕ). c.code ++ b) (append_assoc (counted handler_bytes c.handlers) (counted named_bytes c.attributes) rest) in
    let text : code_bytes c ++ rest ≡ u2 c.max_stack ++ r1 = ap (λ (b : List ℕ). u2 c.max_stack ++ (u2 c.max_locals ++ (u4 (length c.code) ++ b))) inner in
    ap code_in text
    ∙ step (number_in 2) (λ s. number_in 2 s.1 >>= λ l. number_in 4 l.1 >>= λ n. front_in n.0 n.1 >>= λ t. counted_in handler_in t.1 >>= λ h. counted_in named_in h.1 >>= last s.0 l.0 t.0 h.0) (u2 c.max_stack ++ r1) (c.max_stack, r1) (number_again 2 wide_2 c.max_stack r1 fits.max_stack)
    ∙ step (number_in 2) (λ l. number_in 4 l.1 >>= λ n. front_in n.0 n.1 >>= λ t. counted_in handler_in t.1 >>= λ h. counted_in named_in h.1 >>= last c.max_stack l.0 t.0 h.0) r1 (c.max_locals, r2) (number_again 2 wide_2 c.max_locals r2 fits.max_locals)
    ∙ step (number_in 4) (λ n. front_in n.0 n.1 >>= λ t. counted_in handler_in t.1 >>= λ h. counted_in named_in h.1 >>= last c.max_stack c.max_locals t.0 h.0) r2 (length c.code, r3) (number_again 4 wide_4 (length c.code) r3 fits.length)
    ∙ step (front_in (length c.code)) (λ t. counted_in handler_in t.1 >>= λ h. counted_in named_in h.1 >>= last c.max_stack c.max_locals t.0 h.0) r3 (c.code, r4) (front_again c.code r4)
    ∙ step (counted_in handler_in) (λ h. counted_in named_in h.1 >>= last c.max_stack c.max_locals c.code h.0) r4 (c.handlers, r5) (counted_again handler_bytes IsHandler handler_in handler_again c.handlers r5 fits.handlers)
    ∙ step (counted_in named_in) (last c.max_stack c.max_locals c.code c.handlers) r5 (c.attributes, rest) (counted_again named_bytes IsNamedInRange named_in named_again c.attributes rest fits.attributes)

-- all of the bytes were read
pub whole_is : {X : Type 0} (found : X × List ℕ) (x : X) → whole found ≡ Some x → (found.0 ≡ x) × (found.1 ≡ [])
whole_is {X} found x e = chosen (length found.1 == 0) refl e
  where
    chosen : (b : Bool) → (length found.1 == 0) ≡ b → cond b (Some found.0) None ≡ Some x → (found.0 ≡ x) × (found.1 ≡ [])
    chosen true is f = (same_some found.0 x f, nil_from_length found.1 (eqb-true _ _ is))
    chosen false is f = absurd (let n : None ≡ Some x = f in cc)
