-- What is read of a StackMapTable is spelled so, and what is spelled so is read: its types.
use Rattle.std.proofs.Common.{◌≡◌, ℕ, zero, suc, ◌+◌, ◌*◌, Bool, true, false, List, [], ◌∷◌, ◌++◌, length, Option, Some, None, refl, sym, ap, ◌∙◌, subst, append_assoc, arith}
use Rattle.std.specs.Prelude.{nat_lt, if◌then◌else◌, ◌==◌}
use Rattle.std.proofs.lemmas.Bool.{eqb-true}
use Rattle.class_file.proofs.PartLaws.{step}
use Rattle.lists.proofs.Lemmas.{none≢some, some_same}
use Rattle.base.specs.Reading.{◌>>=◌}
use Rattle.class_pool.specs.declared.entry.Entry.{Entry}
use Rattle.class_pool.specs.Grammar.{entry_at, class_name_of, text_at}
use Rattle.class_pool.specs.Reading.{number_in}
use Rattle.class_pool.specs.NumberLaws.{bind_some}
use Rattle.class_file.specs.InsideReading.{many_in, counted_in}
use Rattle.frame_types.specs.declared.types.VarType.{VarType}
use Rattle.frame_types.specs.declared.types.VarType.TheVariants.{Top, Integer, Null, UninitializedThis, Object, Uninitialized, Long}
use Rattle.frame_types.specs.Table.{object_in, uninitialized_in, tagged_in, type_in}
use Rattle.frame_types.specs.Spelling.{Joined, IsByte, IsTwo, IsClassNamed, IsType, AreTypes, AreCounted}

-- bytes of this sort stand before the rest
abbrev pub Front : (List ℕ → Type 0) → (bytes rest : List ℕ) → Type 0
Front P bytes rest = (front : List ℕ) × (bytes ≡ front ++ rest) × P front

pub joins : (P Q : List ℕ → Type 0) (bytes mid rest : List ℕ) → Front P bytes mid → Front Q mid rest → Front (Joined P Q) bytes rest
joins P Q bytes mid rest h g =
    (h.0 ++ g.0, h.1 ∙ (ap (λ (l : List ℕ). h.0 ++ l) g.1 ∙ sym (append_assoc h.0 g.0 rest)), (h.0, g.0, refl, h.2, g.2))

-- what stands first is the byte
pub begins : (P : List ℕ → Type 0) (tag n : ℕ) (bytes rest : List ℕ) → tag ≡ n → Front P bytes rest → Front (Joined (IsByte n) P) (tag ∷ bytes) rest
begins P tag n bytes rest e h = joins (IsByte n) P (tag ∷ bytes) bytes rest (tag ∷ [], refl, ap (λ (k : ℕ). k ∷ []) e) h

-- what is read stands so before the rest, and what stands so before a rest is read
abbrev pub Reads : {X : Type 0} → (List ℕ → Option (X × List ℕ)) → (X → List ℕ → Type 0) → Type 0
Reads {X} read S = (bytes : List ℕ) (x : X) (rest : List ℕ) → read bytes ≡ Some (x, rest) → Front (S x) bytes rest

abbrev pub Again : {X : Type 0} → (List ℕ → Option (X × List ℕ)) → (X → List ℕ → Type 0) → Type 0
Again {X} read S = (front : List ℕ) (x : X) (rest : List ℕ) → S x front → read (front ++ rest) ≡ Some (x, rest)

-- the same of what is read, as a pair
abbrev pub At : {X : Type 0} → (X → List ℕ → Type 0) → List ℕ → X × List ℕ → Type 0
At S bytes x = Front (S x.0) bytes x.1

-- ---- numbers

two_in : (a b : ℕ) (rest : List ℕ) → number_in 2 (a ∷ b ∷ rest) ≡ Some (a * 256 + b, rest)
two_in a b rest =
    let long : nat_lt (length (a ∷ b ∷ rest)) 2 ≡ false = grind arith in
    let sum : a * 256 + (b * 1 + 0) ≡ a * 256 + b = omega arith in
    ap (λ (t : Bool). let o : Option (ℕ × List ℕ) = if t then None else Some (a * 256 + (b * 1 + 0), rest) in o) long ∙ ap (λ (n : ℕ). Some (n, rest)) sum

pub two_reads : Reads (number_in 2) IsTwo
two_reads [] n rest e = absurd (none≢some (n, rest) e)
two_reads (a ∷ []) n rest e = absurd (none≢some (n, rest) e)
two_reads (a ∷ b ∷ bytes) n rest e =
    subst (At IsTwo (a ∷ b ∷ bytes)) (some_same (a * 256 + b, bytes) (n, rest) (sym (two_in a b bytes) ∙ e)) (a ∷ b ∷ [], refl, (a, b, refl, refl))

pub two_again : Again (number_in 2) IsTwo
two_again front n rest h =
    ap (λ (l : List ℕ). number_in 2 (l ++ rest)) h.2 ∙ (two_in h.0 h.1 rest ∙ ap (λ (k : ℕ). Some (k, rest)) h.3)

-- ---- types

alone : (pool : List Entry) (u t : VarType) (n tag : ℕ) (bytes rest : List ℕ) → ((l : List ℕ) → l ≡ n ∷ [] → IsType pool u l) → tag ≡ n → ◌≡◌ {A = Option (VarType × List ℕ)} (Some (u, bytes)) (Some (t, rest)) → Front (IsType pool t) (tag ∷ bytes) rest
alone pool u t n tag bytes rest is e h = subst (At (IsType pool) (tag ∷ bytes)) (some_same (u, bytes) (t, rest) h) (tag ∷ [], refl, is (tag ∷ []) (ap (λ (k : ℕ). k ∷ []) e))

object_reads : (pool : List Entry) (tag : ℕ) (bytes rest : List ℕ) (t : VarType) → tag ≡ 7 → object_in pool bytes ≡ Some (t, rest) → Front (IsType pool t) (tag ∷ bytes) rest
unfolding object_in
object_reads pool tag bytes rest t e h =
    let a = bind_some (number_in 2 bytes) (λ index. class_name_of (entry_at pool index.0) >>= λ name. Some (Object (text_at pool name), index.1)) (t, rest) h in
    let b = bind_some (class_name_of (entry_at pool a.0.0)) (λ name. Some (Object (text_at pool name), a.0.1)) (t, rest) a.2 in
    let index = two_reads bytes a.0.0 a.0.1 a.1 in
    let named : Front (IsClassNamed pool (text_at pool b.0)) bytes a.0.1 = (index.0, index.1, (a.0.0, b.0, index.2, b.1, refl)) in
    subst (At (IsType pool) (tag ∷ bytes)) (some_same (Object (text_at pool b.0), a.0.1) (t, rest) b.2) (begins (IsClassNamed pool (text_at pool b.0)) tag 7 bytes a.0.1 e named)

new_reads : (pool : List Entry) (tag : ℕ) (bytes rest : List ℕ) (t : VarType) → tag ≡ 8 → uninitialized_in bytes ≡ Some (t, rest) → Front (IsType pool t) (tag ∷ bytes) rest
unfolding uninitialized_in
new_reads pool tag bytes rest t e h =
    let a = bind_some (number_in 2 bytes) (λ place. Some (Uninitialized place.0, place.1)) (t, rest) h in
    subst (At (IsType pool) (tag ∷ bytes)) (some_same (Uninitialized a.0.0, a.0.1) (t, rest) a.2) (begins (IsTwo a.0.0) tag 8 bytes a.0.1 e (two_reads bytes a.0.0 a.0.1 a.1))

module _ (pool : List Entry) (tag : ℕ) (bytes rest : List ℕ) (t : VarType) where
  abbrev F : Type 0
  F = Front (IsType pool t) (tag ∷ bytes) rest

  abbrev O : Type 0
  O = Option (VarType × List ℕ)

  abbrev o8 : Bool → O
  o8 b = if b then uninitialized_in bytes else None

  abbrev o7 : Bool → O
  o7 b = if b then object_in pool bytes else o8 (tag == 8)

  abbrev o6 : Bool → O
  o6 b = if b then Some (UninitializedThis, bytes) else o7 (tag == 7)

  abbrev o5 : Bool → O
  o5 b = if b then Some (Null, bytes) else o6 (tag == 6)

  abbrev o4 : Bool → O
  o4 b = if b then Some (Long, bytes) else o5 (tag == 5)

  abbrev o1 : Bool → O
  o1 b = if b then Some (Integer, bytes) else o4 (tag == 4)

  abbrev o0 : Bool → O
  o0 b = if b then Some (Top, bytes) else o1 (tag == 1)

  t8 : (b : Bool) → (tag == 8) ≡ b → o8 b ≡ Some (t, rest) → F
  t8 true e h = new_reads pool tag bytes rest t (eqb-true tag 8 e) h
  t8 false e h = absurd (none≢some (t, rest) h)

  t7 : (b : Bool) → (tag == 7) ≡ b → o7 b ≡ Some (t, rest) → F
  t7 true e h = object_reads pool tag bytes rest t (eqb-true tag 7 e) h
  t7 false e h = t8 (tag == 8) refl h

  t6 : (b : Bool) → (tag == 6) ≡ b → o6 b ≡ Some (t, rest) → F
  t6 true e h = alone pool UninitializedThis t 6 tag bytes rest (λ l d. d) (eqb-true tag 6 e) h
  t6 false e h = t7 (tag == 7) refl h

  t5 : (b : Bool) → (tag == 5) ≡ b → o5 b ≡ Some (t, rest) → F
  t5 true e h = alone pool Null t 5 tag bytes rest (λ l d. d) (eqb-true tag 5 e) h
  t5 false e h = t6 (tag == 6) refl h

  t4 : (b : Bool) → (tag == 4) ≡ b → o4 b ≡ Some (t, rest) → F
  t4 true e h = alone pool Long t 4 tag bytes rest (λ l d. d) (eqb-true tag 4 e) h
  t4 false e h = t5 (tag == 5) refl h

  t1 : (b : Bool) → (tag == 1) ≡ b → o1 b ≡ Some (t, rest) → F
  t1 true e h = alone pool Integer t 1 tag bytes rest (λ l d. d) (eqb-true tag 1 e) h
  t1 false e h = t4 (tag == 4) refl h

  t0 : (b : Bool) → (tag == 0) ≡ b → o0 b ≡ Some (t, rest) → F
  t0 true e h = alone pool Top t 0 tag bytes rest (λ l d. d) (eqb-true tag 0 e) h
  t0 false e h = t1 (tag == 1) refl h

  tagged : tagged_in pool tag bytes ≡ Some (t, rest) → F
  unfolding tagged_in
  tagged h = t0 (tag == 0) refl h

pub type_reads : (pool : List Entry) → Reads (type_in pool) (IsType pool)
unfolding type_in
type_reads pool [] t rest e = absurd (none≢some (t, rest) e)
type_reads pool (tag ∷ bytes) t rest e = tagged pool tag bytes rest t e

-- the other way

apart : (tag : ℕ) (front byte others rest : List ℕ) → front ≡ byte ++ others → byte ≡ tag ∷ [] → front ++ rest ≡ tag ∷ (others ++ rest)
apart tag front byte others rest e f = ap (λ (l : List ℕ). l ++ rest) (e ∙ ap (λ (l : List ℕ). l ++ others) f)

object_again : (pool : List Entry) (name front rest : List ℕ) → IsClassNamed pool name front → object_in pool (front ++ rest) ≡ Some (Object name, rest)
unfolding object_in
object_again pool name front rest h =
    step (number_in 2) (λ index. class_name_of (entry_at pool index.0) >>= λ name. Some (Object (text_at pool name), index.1)) (front ++ rest) (h.0, rest) (two_again front h.0 rest h.2)
    ∙ (ap (λ o. o >>= λ name. Some (Object (text_at pool name), rest)) h.3 ∙ ap (λ (n : List ℕ). Some (Object n, rest)) h.4)

new_again : (place : ℕ) (front rest : List ℕ) → IsTwo place front → uninitialized_in (front ++ rest) ≡ Some (Uninitialized place, rest)
unfolding uninitialized_in
new_again place front rest h = step (number_in 2) (λ place. Some (Uninitialized place.0, place.1)) (front ++ rest) (place, rest) (two_again front place rest h)

pub type_again : (pool : List Entry) → Again (type_in pool) (IsType pool)
unfolding type_in tagged_in
type_again pool front Top rest h = ap (λ (l : List ℕ). type_in pool (l ++ rest)) h
type_again pool front Integer rest h = ap (λ (l : List ℕ). type_in pool (l ++ rest)) h
type_again pool front Null rest h = ap (λ (l : List ℕ). type_in pool (l ++ rest)) h
type_again pool front UninitializedThis rest h = ap (λ (l : List ℕ). type_in pool (l ++ rest)) h
type_again pool front Long rest h = ap (λ (l : List ℕ). type_in pool (l ++ rest)) h
type_again pool front (Object name) rest h = ap (type_in pool) (apart 7 front h.0 h.1 rest h.2 h.3) ∙ object_again pool name h.1 rest h.4
type_again pool front (Uninitialized place) rest h = ap (type_in pool) (apart 8 front h.0 h.1 rest h.2 h.3) ∙ new_again place h.1 rest h.4

-- ---- lists of types

pub types_read : (pool : List Entry) (n : ℕ) (bytes : List ℕ) (ts : List VarType) (rest : List ℕ) → many_in (type_in pool) n bytes ≡ Some (ts, rest) → (n ≡ length ts) × Front (AreTypes pool ts) bytes rest
unfolding many_in
types_read pool zero bytes ts rest e =
    let P : List VarType × List ℕ → Type 0 = λ x. (0 ≡ length x.0) × Front (AreTypes pool x.0) bytes x.1 in
    subst P (some_same ([], bytes) (ts, rest) e) (refl, ([], refl, refl))
types_read pool (suc n) bytes ts rest e =
    let a = bind_some (type_in pool bytes) (λ first. many_in (type_in pool) n first.1 >>= λ others. Some (first.0 ∷ others.0, others.1)) (ts, rest) e in
    let b = bind_some (many_in (type_in pool) n a.0.1) (λ others. Some (a.0.0 ∷ others.0, others.1)) (ts, rest) a.2 in
    let first = type_reads pool bytes a.0.0 a.0.1 a.1 in
    let others = types_read pool n a.0.1 b.0.0 b.0.1 b.1 in
    let P : List VarType × List ℕ → Type 0 = λ x. (suc n ≡ length x.0) × Front (AreTypes pool x.0) bytes x.1 in
    subst P (some_same (a.0.0 ∷ b.0.0, b.0.1) (ts, rest) b.2) (ap suc others.0, joins (IsType pool a.0.0) (AreTypes pool b.0.0) bytes a.0.1 b.0.1 first others.1)

pub types_again : (pool : List Entry) (front : List ℕ) (ts : List VarType) (rest : List ℕ) → AreTypes pool ts front → many_in (type_in pool) (length ts) (front ++ rest) ≡ Some (ts, rest)
unfolding many_in
types_again pool front [] rest h = ap (λ (l : List ℕ). Some ([], l ++ rest)) h
types_again pool front (t ∷ ts) rest h =
    ap (many_in (type_in pool) (suc (length ts))) (ap (λ (l : List ℕ). l ++ rest) h.2 ∙ append_assoc h.0 h.1 rest)
    ∙ (step (type_in pool) (λ first. many_in (type_in pool) (length ts) first.1 >>= λ others. Some (first.0 ∷ others.0, others.1)) (h.0 ++ (h.1 ++ rest)) (t, h.1 ++ rest) (type_again pool h.0 t (h.1 ++ rest) h.3)
    ∙ step (many_in (type_in pool) (length ts)) (λ others. Some (t ∷ others.0, others.1)) (h.1 ++ rest) (ts, rest) (types_again pool h.1 ts rest h.4))

pub counted_reads : (pool : List Entry) → Reads (counted_in (type_in pool)) (AreCounted pool)
unfolding counted_in
counted_reads pool bytes ts rest e =
    let a = bind_some (number_in 2 bytes) (λ n. many_in (type_in pool) n.0 n.1) (ts, rest) e in
    let types = types_read pool a.0.0 a.0.1 ts rest a.2 in
    let count = subst (λ (n : ℕ). Front (IsTwo n) bytes a.0.1) types.0 (two_reads bytes a.0.0 a.0.1 a.1) in
    joins (IsTwo (length ts)) (AreTypes pool ts) bytes a.0.1 rest count types.1

pub counted_again : (pool : List Entry) → Again (counted_in (type_in pool)) (AreCounted pool)
unfolding counted_in
counted_again pool front ts rest h =
    ap (λ (l : List ℕ). number_in 2 l >>= λ n. many_in (type_in pool) n.0 n.1) (ap (λ (l : List ℕ). l ++ rest) h.2 ∙ append_assoc h.0 h.1 rest)
    ∙ (step (number_in 2) (λ n. many_in (type_in pool) n.0 n.1) (h.0 ++ (h.1 ++ rest)) (length ts, h.1 ++ rest) (two_again h.0 (length ts) (h.1 ++ rest) h.3) ∙ types_again pool h.1 ts rest h.4)
