-- The raise routine goes through the entries of the exception table, by induction over these.
use Rattle.std.proofs.Common.{◌≡◌, ℕ, zero, suc, ◌+◌, ◌-◌, ◌*◌, ◌/◌, ◌%◌, ◌^◌, ◌<◌, ◌≤◌, ◌==◌, ◌&&◌, ◌||◌, Bool, true, false, nat_lt, nat_le, if◌then◌else◌, List, [], ◌∷◌, Option, Some, None, length, bit_and, refl, sym, ap, ◌∙◌, subst, arith, lt-ltb, ltb-true, eqb-true}
use Rattle.std.specs.Prelude.{slice_index}
use Rattle.std.proofs.Math.Nat.{mod-eq_of_lt}
use Rattle.std.proofs.lemmas.Nat.{and_mask}
use Rattle.std.proofs.lemmas.Bool.Decides.{nat_tests}
use Rattle.microcode.specs.declared.addresses.TheConstants.{HANDLER_FOUND, DROP_FRAME, END}
use Rattle.jop_core.specs.Operations.{number_of, signed_lt}
use Rattle.micro_sketch.specs.Sketch.{Sketch, same_bool}
use Rattle.micro_sketch.specs.Stands.{Env, Shaped, Reaches}
use Rattle.call_steps.specs.Parts.{PartLaws, Low, at, computed, followed_by}
use Rattle.call_steps.specs.Raise.{Entry, is_supertype, catches, target_for, IsEntry, AreEntries}
use Rattle.call_steps.proofs.RaiseRows.{turning, range_at, type_at, starts, ended, number_at, word_at, bit_at, some_left, onward, turned, next, none_left, begins_later, ends_before, covered, found, catches_any, catches_it, catches_other}

-- ---- where the entries lead

-- to an address, with what of the scratch words has changed
pub record Looked (n : ℕ) (x : Sketch) (e : Env) (mpc : ℕ) (f : Sketch) (v : Low) (t u : ℕ) (us : List ℕ) (type : ℕ) : Type 0 where
  pub count : ℕ
  pub place : ℕ
  pub range : ℕ
  pub number : ℕ
  pub value : ℕ
  pub left : ℕ → ℕ
  pub a : ℕ
  pub b : ℕ
  pub c : ℕ
  pub js : List ℕ
  pub reaches : Reaches n x (at mpc (record f { value = value; left = left }) (record v { s10 = type; s11 = count; s12 = place; s13 = range; s14 = number }) t u us (a ∷ b ∷ c ∷ js)) e
  pub kept : left (END - 1) ≡ f.left (END - 1)

-- the entry whose handler is entered lies at the place that is kept
pub record LookedAt (n : ℕ) (x : Sketch) (e : Env) (f : Sketch) (v : Low) (t u : ℕ) (us : List ℕ) (type target : ℕ) : Type 0 where
  pub looked : Looked n x e HANDLER_FOUND f v t u us type
  pub target_is : slice_index f.memory (looked.place + 1) ≡ target
  pub small : looked.place + 1 < 2 ^ 32

abbrev pub Ends : (n : ℕ) (x : Sketch) (e : Env) (f : Sketch) (v : Low) (t u : ℕ) (us : List ℕ) (type : ℕ) → Option ℕ → Type 0
Ends n x e f v t u us type None = Looked n x e DROP_FRAME f v t u us type
Ends n x e f v t u us type (Some target) = LookedAt n x e f v t u us type target

-- what follows a turn
abbrev after_turn : Sketch → (value : ℕ) → Sketch
after_turn f value = onward f value

looked_on : PartLaws → (n : ℕ) (x y : Sketch) (e : Env) (mpc : ℕ) (f : Sketch) (v : Low) (value range number t u : ℕ) (us : List ℕ) (type : ℕ) → (r : Reaches n x y e) → y.done ≡ false
    → Looked n y r.env mpc (after_turn f value) (record v { s13 = range; s14 = number }) t u us type → Looked n x e mpc f v t u us type
looked_on laws n x y e mpc f v value range number t u us type r going l = record {
  count = l.count;
  place = l.place;
  range = l.range;
  number = l.number;
  value = l.value;
  left = l.left;
  a = l.a;
  b = l.b;
  c = l.c;
  js = l.js;
  reaches = followed_by laws n x y _ e r l.reaches going;
  kept = l.kept;
}

ends_on : PartLaws → (n : ℕ) (x y : Sketch) (e : Env) (f : Sketch) (v : Low) (value range number t u : ℕ) (us : List ℕ) (type : ℕ) (o : Option ℕ) → (r : Reaches n x y e) → y.done ≡ false
    → Ends n y r.env (after_turn f value) (record v { s13 = range; s14 = number }) t u us type o → Ends n x e f v t u us type o
unfolding looked_on
ends_on laws n x y e f v value range number t u us type None r going l = looked_on laws n x y e DROP_FRAME f v value range number t u us type r going l
ends_on laws n x y e f v value range number t u us type (Some target) r going l =
    record { looked = looked_on laws n x y e HANDLER_FOUND f v value range number t u us type r going l.looked; target_is = l.target_is; small = l.small }

-- ---- the tests

less_same : (a b k : ℕ) → nat_lt (a + k) (b + k) ≡ nat_lt a b
less_same a b k = by (nat_lt a b) refl
  where
    by : (c : Bool) → nat_lt a b ≡ c → nat_lt (a + k) (b + k) ≡ c
    by true e = lt-ltb (a + k) (b + k) (omega (arith, ltb-true a b e))
    by false e = grind (arith, nat_tests, e)

-- of numbers that are not negative
signed_is : (a b : ℕ) → a < 2 ^ 31 → b < 2 ^ 31 → signed_lt a b ≡ nat_lt a b
signed_is a b h k =
    let left : (a + 2 ^ 31) % 2 ^ 32 ≡ a + 2 ^ 31 = mod-eq_of_lt {n = a + 2 ^ 31} {m = 2 ^ 32} (omega arith) in
    let right : (b + 2 ^ 31) % 2 ^ 32 ≡ b + 2 ^ 31 = mod-eq_of_lt {n = b + 2 ^ 31} {m = 2 ^ 32} (omega arith) in
    ap (λ (i : ℕ). nat_lt i ((b + 2 ^ 31) % 2 ^ 32)) left ∙ ap (λ (i : ℕ). nat_lt (a + 2 ^ 31) i) right ∙ less_same a b (2 ^ 31)

starts_is : (f : Sketch) (type place : ℕ) (en : Entry) → IsEntry f.memory type place en → f.jpc < 2 ^ 16 → starts f place ≡ number_of (nat_lt (en.range / 2 ^ 16) f.jpc)
starts_is f type place en h j =
    let small = h.small in
    ap (λ (r : ℕ). number_of (signed_lt (r / 2 ^ 16) f.jpc)) h.range ∙ ap (λ (b : Bool). number_of b) (signed_is (en.range / 2 ^ 16) f.jpc (omega arith) (omega arith))

ended_is : (f : Sketch) (type place : ℕ) (en : Entry) → IsEntry f.memory type place en → f.jpc < 2 ^ 16 → ended f place ≡ number_of (nat_lt (en.range % 2 ^ 16) f.jpc)
ended_is f type place en h j =
    ap (λ (r : ℕ). number_of (signed_lt (bit_and r 65535) f.jpc)) h.range ∙ ap (λ (r : ℕ). number_of (signed_lt r f.jpc)) (and_mask en.range 16)
    ∙ ap (λ (b : Bool). number_of b) (signed_is (en.range % 2 ^ 16) f.jpc (omega arith) (omega arith))

type_is : (f : Sketch) (type place : ℕ) (en : Entry) → IsEntry f.memory type place en → place + 2 < 2 ^ 32 → type_at f place ≡ en.type
type_is f type place en h small = ap (λ (k : ℕ). slice_index f.memory k) (mod-eq_of_lt {n = place + 2} {m = 2 ^ 32} small) ∙ h.type_is

less_one : (k : ℕ) → 0 < k → k < 2 ^ 32 → (k + (2 ^ 32 - 1)) % 2 ^ 32 ≡ k - 1
less_one k some small = omega arith

bit_is : (f : Sketch) (type place : ℕ) (en : Entry) → IsEntry f.memory type place en → place + 2 < 2 ^ 32 → 0 < en.type → nat_lt 0 (bit_at f type place) ≡ is_supertype f.memory type (en.type - 1)
bit_is f type place en h small some =
    let number : number_at f place ≡ en.type - 1 = ap (λ (k : ℕ). (k + (2 ^ 32 - 1)) % 2 ^ 32) (type_is f type place en h small) ∙ less_one en.type some h.number in
    let bit = h.bit some in
    let at : ((type + 5) % 2 ^ 32 + (en.type - 1) / 32) % 2 ^ 32 ≡ type + 5 + (en.type - 1) / 32 =
    ap (λ (k : ℕ). (k + (en.type - 1) / 32) % 2 ^ 32) (mod-eq_of_lt {n = type + 5} {m = 2 ^ 32} (omega arith)) ∙ mod-eq_of_lt {n = type + 5 + (en.type - 1) / 32} {m = 2 ^ 32} bit in
    ap (λ (k : ℕ). nat_lt 0 (bit_and (word_at f type k / 2 ^ (k % 32)) 1)) number
    ∙ ap (λ (k : ℕ). nat_lt 0 (bit_and (slice_index f.memory k / 2 ^ ((en.type - 1) % 32)) 1)) at
    ∙ ap (λ (k : ℕ). nat_lt 0 k) (and_mask (slice_index f.memory (type + 5 + (en.type - 1) / 32) / 2 ^ ((en.type - 1) % 32)) 1)

-- ---- one turn

not_zero : (k : ℕ) → (suc k == 0) ≡ false
not_zero k = by (suc k == 0) refl
  where
    by : (b : Bool) → (suc k == 0) ≡ b → b ≡ false
    by true e = absurd (omega (arith, eqb-true (suc k) 0 e))
    by false e = refl

some_is : (k : ℕ) → some_left (suc k) ≡ true
some_is k = ap (λ (b : Bool). same_bool false b && true) (not_zero k)

counted : (k : ℕ) → suc k < 2 ^ 32 → (suc k + (2 ^ 32 - 1)) % 2 ^ 32 ≡ k
counted k h = omega (arith, h)

both : (a b : Bool) → a ≡ true → b ≡ true → (a && b) ≡ true
both true b e f = f
both false b e f = cc

-- a number is at most another where this isn't less
not_less : (j e : ℕ) → nat_le j e ≡ true → nat_lt e j ≡ false
not_less j e h = grind (arith, nat_tests, h)

is_less : (j e : ℕ) → nat_le j e ≡ false → nat_lt e j ≡ true
is_less j e h = grind (arith, nat_tests, h)

above_zero : (k : ℕ) → (k == 0) ≡ false → 0 < k
above_zero k h = grind (arith, nat_tests, h)

is_zero : (k : ℕ) → (k == 0) ≡ true → k ≡ 0
is_zero k h = eqb-true k 0 h

module _ (laws : PartLaws) (n : ℕ) (en : Entry) (es : List Entry) (f : Sketch) (v : Low) (t u a b c : ℕ) (us js : List ℕ) (type place : ℕ) (e : Env) (are : AreEntries f.memory type place (en ∷ es)) (small : place + 3 * suc (length es) < 2 ^ 32) (jpc : f.jpc < 2 ^ 16)
    (turns : suc (length es) ≤ f.left (HANDLER_FOUND - 1)) (h : Shaped n (turning f v t u a b c us js type (suc (length es)) place)) (port : e.port ≡ 0) where
  -- where the entries behind it lead
  abbrev pub Again : Type 0
  Again = (value range number k : ℕ) → let y = turning (onward f value) (record v { s13 = range; s14 = number }) t u u t k us js type (length es) (place + 3) in
      (q : Reaches n (turning f v t u a b c us js type (suc (length es)) place) y e) → Ends n y q.env (onward f value) (record v { s13 = range; s14 = number }) t u us type (target_for f.memory type f.jpc es)

  abbrev x : Sketch
  x = turning f v t u a b c us js type (suc (length es)) place

  abbrev goal : Option ℕ → Type 0
  goal o = Ends n x e f v t u us type o

  abbrev later : Option ℕ
  later = target_for f.memory type f.jpc es

  abbrev pick : Bool → Option ℕ
  pick c = if c then Some en.target else later

  is : IsEntry f.memory type place en
  is = are.0

  few : place + 2 < 2 ^ 32
  few = omega (arith, small)

  last : suc (length es) < 2 ^ 32
  last = omega (arith, small)

  turn : turned f ≡ true
  turn = lt-ltb 0 (f.left (HANDLER_FOUND - 1)) (omega (arith, turns))

  -- the next entry, of which so much is known
  abbrev to_next : (value range number k : ℕ) → Sketch
  to_next value range number k = next f (record v { s13 = range; s14 = number }) t u k us js type (suc (length es)) place value true

  goes_on : Again → (value range number k : ℕ) → Reaches n x (to_next value range number k) e → goal later
  goes_on again value range number k r =
      let v2 : Low = record v { s13 = range; s14 = number } in
      let at_next : ℕ → ℕ → Sketch = λ i j. turning (onward f value) v2 t u u t k us js type i j in
      let same : at_next ((suc (length es) + (2 ^ 32 - 1)) % 2 ^ 32) ((place + 3) % 2 ^ 32) ≡ at_next (length es) (place + 3) =
      λ z. at_next (counted (length es) last z) (mod-eq_of_lt {n = place + 3} {m = 2 ^ 32} (omega (arith, small)) z) in
      let q = subst (λ (s : Sketch). Reaches n x s e) same r in
      ends_on laws n x (at_next (length es) (place + 3)) e f v value range number t u us type later q refl (again value range number k q)

  -- it isn't the one
  misses : catches f.memory type f.jpc en ≡ false → goal later → goal (pick (catches f.memory type f.jpc en))
  misses isnt g = subst goal (sym (ap pick isnt)) g

  -- it is
  hits : catches f.memory type f.jpc en ≡ true → goal (Some en.target) → goal (pick (catches f.memory type f.jpc en))
  hits so g = subst goal (sym (ap pick so)) g

  start_no : Again → nat_lt (en.range / 2 ^ 16) f.jpc ≡ false → goal later
  start_no again isnt =
      let zero_is : starts f place ≡ 0 = starts_is f type place en is jpc ∙ ap (λ (b : Bool). number_of b) isnt in
      let fine = both (turned f) (same_bool true (starts f place == 0) && some_left (suc (length es))) turn
      (both (same_bool true (starts f place == 0)) (some_left (suc (length es))) (ap (λ (k : ℕ). same_bool true (k == 0)) zero_is) (some_is (length es))) in
      goes_on again (range_at f place) (range_at f place) v.s14 c
      (computed laws n 21 (false ∷ true ∷ []) x (next f (record v { s13 = range_at f place }) t u c us js type (suc (length es)) place (range_at f place) true) e h port
      (begins_later f v t u a b c us js type (suc (length es)) place ∙ ap (λ (ok : Bool). next f (record v { s13 = range_at f place }) t u c us js type (suc (length es)) place (range_at f place) ok) fine) refl)

  started : nat_lt (en.range / 2 ^ 16) f.jpc ≡ true → (same_bool false (starts f place == 0) && some_left (suc (length es))) ≡ true
  started so = both (same_bool false (starts f place == 0)) (some_left (suc (length es))) (ap (λ (k : ℕ). same_bool false (k == 0)) (starts_is f type place en is jpc ∙ ap (λ (b : Bool). number_of b) so)) (some_is (length es))

  end_no : Again → nat_lt (en.range / 2 ^ 16) f.jpc ≡ true → nat_le f.jpc (en.range % 2 ^ 16) ≡ false → goal later
  end_no again so isnt =
      let one_is : ended f place ≡ 1 = ended_is f type place en is jpc ∙ ap (λ (b : Bool). number_of b) (is_less f.jpc (en.range % 2 ^ 16) isnt) in
      let inner = same_bool false (starts f place == 0) && some_left (suc (length es)) in
      let fine = both (turned f) (same_bool true (nat_lt 0 (ended f place)) && inner) turn (both (same_bool true (nat_lt 0 (ended f place))) inner (ap (λ (k : ℕ). same_bool true (nat_lt 0 k)) one_is) (started so)) in
      goes_on again (range_at f place) (range_at f place) v.s14 c
      (computed laws n 27 (false ∷ false ∷ true ∷ []) x (next f (record v { s13 = range_at f place }) t u c us js type (suc (length es)) place (range_at f place) true) e h port
      (ends_before f v t u a b c us js type (suc (length es)) place ∙ ap (λ (ok : Bool). next f (record v { s13 = range_at f place }) t u c us js type (suc (length es)) place (range_at f place) ok) fine) refl)

  covers : nat_lt (en.range / 2 ^ 16) f.jpc ≡ true → nat_le f.jpc (en.range % 2 ^ 16) ≡ true → covered f (suc (length es)) place ≡ true
  covers so over =
      let none : ended f place ≡ 0 = ended_is f type place en is jpc ∙ ap (λ (b : Bool). number_of b) (not_less f.jpc (en.range % 2 ^ 16) over) in
      both (same_bool false (nat_lt 0 (ended f place))) (same_bool false (starts f place == 0) && some_left (suc (length es))) (ap (λ (k : ℕ). same_bool false (nat_lt 0 k)) none) (started so)

  any_type : (en.type == 0) ≡ true → covered f (suc (length es)) place ≡ true → goal (Some en.target)
  any_type zero_type over =
      let none : type_at f place ≡ 0 = type_is f type place en is few ∙ is_zero en.type zero_type in
      let fine = both (same_bool true (type_at f place == 0)) (covered f (suc (length es)) place) (ap (λ (k : ℕ). same_bool true (k == 0)) none) over in
      let to : Bool → Sketch = λ ok. found f v t u c us js type (suc (length es)) place (range_at f place) (type_at f place) (type_at f place) ok in
      record {
        looked = record {
          count = suc (length es);
          place = place;
          range = range_at f place;
          number = type_at f place;
          value = type_at f place;
          left = f.left;
          a = u;
          b = t;
          c = c;
          js = js;
          reaches = computed laws n 27 (false ∷ false ∷ false ∷ true ∷ []) x (to true) e h port (catches_any f v t u a b c us js type (suc (length es)) place ∙ ap to fine) refl;
          kept = refl;
        };
        target_is = is.target;
        small = omega (arith, small);
      }

  some_type : (en.type == 0) ≡ false → same_bool false (type_at f place == 0) ≡ true
  some_type isnt = ap (λ (k : ℕ). same_bool false (k == 0)) (type_is f type place en is few) ∙ ap (λ (b : Bool). same_bool false b) isnt

  its_type : (en.type == 0) ≡ false → is_supertype f.memory type (en.type - 1) ≡ true → covered f (suc (length es)) place ≡ true → goal (Some en.target)
  its_type isnt so over =
      let bit = bit_is f type place en is few (above_zero en.type isnt) ∙ so in
      let inner = same_bool false (type_at f place == 0) && covered f (suc (length es)) place in
      let fine = both (same_bool true (nat_lt 0 (bit_at f type place))) inner (ap (λ (b : Bool). same_bool true b) bit) (both (same_bool false (type_at f place == 0)) (covered f (suc (length es)) place) (some_type isnt) over) in
      let value = word_at f type (number_at f place) in
      let to : Bool → Sketch = λ ok. found f v t u ((type + 5) % 2 ^ 32) us js type (suc (length es)) place (range_at f place) (number_at f place) value ok in
      record {
        looked = record {
          count = suc (length es);
          place = place;
          range = range_at f place;
          number = number_at f place;
          value = value;
          left = f.left;
          a = u;
          b = t;
          c = (type + 5) % 2 ^ 32;
          js = js;
          reaches = computed laws n 46 (false ∷ false ∷ false ∷ false ∷ true ∷ []) x (to true) e h port (catches_it f v t u a b c us js type (suc (length es)) place ∙ ap to fine) refl;
          kept = refl;
        };
        target_is = is.target;
        small = omega (arith, small);
      }

  other_type : Again → (en.type == 0) ≡ false → is_supertype f.memory type (en.type - 1) ≡ false → covered f (suc (length es)) place ≡ true → goal later
  other_type again isnt other over =
      let bit = bit_is f type place en is few (above_zero en.type isnt) ∙ other in
      let inner = same_bool false (type_at f place == 0) && covered f (suc (length es)) place in
      let fine = both (turned f) (same_bool false (nat_lt 0 (bit_at f type place)) && inner) turn
      (both (same_bool false (nat_lt 0 (bit_at f type place))) inner (ap (λ (b : Bool). same_bool false b) bit) (both (same_bool false (type_at f place == 0)) (covered f (suc (length es)) place) (some_type isnt) over)) in
      let value = word_at f type (number_at f place) in
      let to : Bool → Sketch = λ ok. next f (record v { s13 = range_at f place; s14 = number_at f place }) t u ((type + 5) % 2 ^ 32) us js type (suc (length es)) place value ok in
      goes_on again value (range_at f place) (number_at f place) ((type + 5) % 2 ^ 32)
      (computed laws n 55 (false ∷ false ∷ false ∷ false ∷ false ∷ []) x (to true) e h port (catches_other f v t u a b c us js type (suc (length es)) place ∙ ap to fine) refl)

  -- what the entry does, test by test
  abbrev result : (one two three four : Bool) → Bool
  result one two three four = one && (two && (three || four))

  by_bit : Again → (start : nat_lt (en.range / 2 ^ 16) f.jpc ≡ true) (end : nat_le f.jpc (en.range % 2 ^ 16) ≡ true) (isnt : (en.type == 0) ≡ false) (b : Bool) → is_supertype f.memory type (en.type - 1) ≡ b
      → goal (pick (catches f.memory type f.jpc en))
  by_bit again start end isnt true bit = hits (λ z. result (start z) (end z) (isnt z) (bit z)) (its_type isnt bit (covers start end))
  by_bit again start end isnt false bit = misses (λ z. result (start z) (end z) (isnt z) (bit z)) (other_type again isnt bit (covers start end))

  by_type : Again → (start : nat_lt (en.range / 2 ^ 16) f.jpc ≡ true) (end : nat_le f.jpc (en.range % 2 ^ 16) ≡ true) (b : Bool) → (en.type == 0) ≡ b → goal (pick (catches f.memory type f.jpc en))
  by_type again start end true any = hits (λ z. result (start z) (end z) (any z) (is_supertype f.memory type (en.type - 1))) (any_type any (covers start end))
  by_type again start end false isnt = by_bit again start end isnt (is_supertype f.memory type (en.type - 1)) refl

  by_end : Again → (start : nat_lt (en.range / 2 ^ 16) f.jpc ≡ true) (b : Bool) → nat_le f.jpc (en.range % 2 ^ 16) ≡ b → goal (pick (catches f.memory type f.jpc en))
  by_end again start true end = by_type again start end (en.type == 0) refl
  by_end again start false end = misses (λ z. result (start z) (end z) (en.type == 0) (is_supertype f.memory type (en.type - 1))) (end_no again start end)

  pub by_start : Again → (b : Bool) → nat_lt (en.range / 2 ^ 16) f.jpc ≡ b → goal (pick (catches f.memory type f.jpc en))
  by_start again true start = by_end again start (nat_le f.jpc (en.range % 2 ^ 16)) refl
  by_start again false start = misses (λ z. result (start z) (nat_le f.jpc (en.range % 2 ^ 16)) (en.type == 0) (is_supertype f.memory type (en.type - 1))) (start_no again start)

-- ---- all entries

pub go_through : PartLaws → (n : ℕ) (es : List Entry) (f : Sketch) (v : Low) (t u a b c : ℕ) (us js : List ℕ) (type place : ℕ) (e : Env) → AreEntries f.memory type place es → place + 3 * length es < 2 ^ 32 → f.jpc < 2 ^ 16
    → length es ≤ f.left (HANDLER_FOUND - 1) → let x = turning f v t u a b c us js type (length es) place in Shaped n x → e.port ≡ 0 → Ends n x e f v t u us type (target_for f.memory type f.jpc es)
go_through laws n [] f v t u a b c us js type place e are small jpc turns h port =
    let x = turning f v t u a b c us js type 0 place in
    record {
      count = 0;
      place = place;
      range = v.s13;
      number = v.s14;
      value = f.value;
      left = f.left;
      a = u;
      b = b;
      c = c;
      js = js;
      reaches = computed laws n 1 (true ∷ []) x _ e h port (none_left f v t u a b c us js type 0 place) refl;
      kept = refl;
    }
go_through laws n (en ∷ es) f v t u a b c us js type place e are small jpc turns h port =
    by_start laws n en es f v t u a b c us js type place e are small jpc turns h port
    (λ value range number k q. go_through laws n es (onward f value) (record v { s13 = range; s14 = number }) t u u t k us js type (place + 3) q.env are.1 (omega (arith, small)) jpc (omega (arith, turns)) q.shape q.port)
    (nat_lt (en.range / 2 ^ 16) f.jpc) refl
