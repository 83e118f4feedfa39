-- The row of lookupswitch, by induction over its pairs.
use Rattle.std.proofs.Common.{◌≡◌, ℕ, zero, suc, ◌+◌, ◌-◌, ◌%◌, ◌^◌, ◌<◌, ◌≤◌, ◌==◌, ◌&&◌, Bool, true, false, nat_lt, if◌then◌else◌, List, [], ◌∷◌, drop, bit_xor, refl, sym, ap, ◌∙◌, arith, lt-ltb, eqb-true, eq-eqb}
use Rattle.std.specs.Int.Bits.{xor_self, xor_assoc, xor_zero_l, xor_zero_r}
use Rattle.microcode.specs.declared.addresses.TheConstants.{LOOKUP_TURN, LOOKUP_HIT}
use Rattle.micro_flow.specs.Walk.{used}
use Rattle.jop_core.specs.declared.halt.Halt.TheVariants.{Running}
use Rattle.micro_sketch.specs.Sketch.{Sketch, exec, same_bool}
use Rattle.micro_sketch.specs.Row.{Effect}
use Rattle.micro_sketch.specs.Rows.{Outcome, makes, entered, outcome_of, outcome, head_of, tail_of}
use Rattle.micro_sketch.specs.Operand.{past, four_byte_operand}
use Rattle.micro_sketch.specs.SwitchOps.{placed, operands, default_offset, pairs, offset_among, jumps_by, lookupswitch_effect, CanSearch}
use Rattle.micro_sketch.proofs.PlainRows.Shaping.{Row}
use Rattle.micro_sketch.proofs.PlainRows.Switches.{four_more, four_more_is, raw_operands, operands_are, effect_is}

-- f on the way through the pairs: at j is the next one, o is the operand register, and so many pairs are left
abbrev turning : (f : Sketch) (t u : ℕ) (s : List ℕ) (a b : ℕ) (js : List ℕ) (place other key count : ℕ) (low : List ℕ) (j o : ℕ) (left : ℕ → ℕ) (fine : Bool) → Sketch
turning f t u s a b js place other key count low j o left fine = record f {
  mpc = LOOKUP_TURN;
  top = t;
  next = u;
  under = s;
  above = a ∷ b ∷ js;
  low = place ∷ other ∷ key ∷ count ∷ low;
  jpc = j;
  operand = o;
  opcode = 171;
  left = left;
  busy = false;
  halt = Running;
  loads = 0;
  words = 0;
  output = [];
  fine = fine;
  done = false;
}

abbrev less_one : ℕ → ℕ
less_one count = (count + (2 ^ 32 - 1)) % 2 ^ 32

-- where the row goes on from
abbrev finished : (f : Sketch) (t u : ℕ) (s low : List ℕ) (place offset : ℕ) → Outcome
finished f t u s low place offset = outcome true (record (jumps_by offset f) { words = t ∷ u ∷ s; low = drop 20 low; jpc = (place + offset) % 2 ^ 32 % 2 ^ 16 }) f

abbrev the_pair : Sketch → (j : ℕ) → Sketch
the_pair f j = placed j f

-- a pair whose key is another
abbrev after_miss : (n : ℕ) → ℕ
after_miss n = suc (suc (suc (suc (suc (suc (suc (suc (suc (suc (suc (suc (suc (suc (suc (suc (suc (suc (suc (n)))))))))))))))))))

miss : (n : ℕ) (hs : List Bool) (f : Sketch) (t u : ℕ) (s : List ℕ) (a b : ℕ) (js : List ℕ) (place other key count : ℕ) (low : List ℕ) (j o : ℕ) (left : ℕ → ℕ)
    → exec (after_miss n) (false ∷ false ∷ hs) (turning f t u s a b js place other key count low j o left true)
    ≡ exec n hs (turning f t u s u t js place other key (less_one count) low (past 8 (the_pair f j)).jpc (four_more (four_more o (the_pair f j)) (past 4 (the_pair f j))) (used (LOOKUP_HIT - 1) left)
    (nat_lt 0 (left (LOOKUP_HIT - 1)) && (same_bool false (bit_xor (four_more o (the_pair f j)) key == 0) && (same_bool false (count == 0) && true))))
miss n hs f t u s a b js place other key count low j o left = refl

-- the pair whose key it is
hit : (f : Sketch) (t u : ℕ) (s : List ℕ) (a b : ℕ) (js : List ℕ) (place other key count : ℕ) (low : List ℕ) (j o : ℕ) (left : ℕ → ℕ)
    → outcome_of (exec 20 (false ∷ true ∷ []) (turning f t u s a b js place other key count low j o left true))
    ≡ record (finished f t u s low place (four_more (four_more o (the_pair f j)) (past 4 (the_pair f j)))) { fine = same_bool true (bit_xor (four_more o (the_pair f j)) key == 0) && (same_bool false (count == 0) && true) }
hit f t u s a b js place other key count low j o left = refl

-- no pair is left
none_left : (f : Sketch) (t u : ℕ) (s : List ℕ) (a b : ℕ) (js : List ℕ) (place other key count : ℕ) (low : List ℕ) (j o : ℕ) (left : ℕ → ℕ)
    → outcome_of (exec 6 (true ∷ []) (turning f t u s a b js place other key count low j o left true)) ≡ record (finished f t u s low place other) { fine = same_bool true (count == 0) && true }
none_left f t u s a b js place other key count low j o left = refl

-- two words have no bit apart exactly where they are the same
xor_none : (a b : ℕ) → bit_xor a b ≡ 0 → a ≡ b
xor_none a b none = sym (xor_zero_r a) ∙ ap (bit_xor a) (sym (xor_self b)) ∙ sym (xor_assoc a b b) ∙ ap (λ i. bit_xor i b) none ∙ xor_zero_l b

same_test : (a b : ℕ) → (bit_xor a b == 0) ≡ (a == b)
same_test a b = by (bit_xor a b == 0) (a == b) refl refl
  where
    by : (p q : Bool) → (bit_xor a b == 0) ≡ p → (a == b) ≡ q → p ≡ q
    by true true e f = refl
    by true false e f = let same : (a == b) ≡ true = eq-eqb a b (xor_none a b (eqb-true (bit_xor a b) 0 e)) in let clash : true ≡ false = sym same ∙ f in cc
    by false true e f =
        let none : bit_xor a b ≡ 0 = ap (λ i. bit_xor i b) (eqb-true a b f) ∙ xor_self b in
        let zeros : (bit_xor a b == 0) ≡ true = eq-eqb (bit_xor a b) 0 none in
        let clash : true ≡ false = sym zeros ∙ e in
        cc
    by false false e f = refl

not_zero : (k : ℕ) → (suc k == 0) ≡ false
not_zero k = by (suc k == 0) refl
  where
    by : (b : Bool) → (suc k == 0) ≡ b → b ≡ false
    by true e = absurd (omega (arith, eqb-true (suc k) 0 e))
    by false e = refl

counted : (k : ℕ) → suc k < 2 ^ 32 → less_one (suc k) ≡ k
counted k h = omega (arith, h)

-- some words from a sketch on come to an outcome
record Ends (x : Sketch) (o : Outcome) : Type 0 where
  words : ℕ
  guesses : List Bool
  is : outcome_of (exec (suc words) guesses x) ≡ o

abbrev before_last : (n : ℕ) → ℕ
before_last n = suc (suc (suc (suc (suc (suc (suc (suc (suc (suc (suc (suc (suc (suc (suc (suc (suc (suc (n))))))))))))))))))

both : (a b : Bool) → a ≡ true → b ≡ true → (a && b) ≡ true
both true b e f = f
both false b e f = cc

search : (count : ℕ) (f : Sketch) (t u : ℕ) (s : List ℕ) (a b : ℕ) (js : List ℕ) (place other key : ℕ) (low : List ℕ) (j o : ℕ) (left : ℕ → ℕ) → count ≤ left (LOOKUP_HIT - 1) → count < 2 ^ 32
    → Ends (turning f t u s a b js place other key count low j o left true) (finished f t u s low place (offset_among count (the_pair f j) key other))
search zero f t u s a b js place other key low j o left turns small = record { words = 5; guesses = true ∷ []; is = none_left f t u s a b js place other key 0 low j o left }
search (suc count) f t u s a b js place other key low j o left turns small =
    by (four_byte_operand y == key) refl (λ no_match. search count f t u s u t js place other key low (past 8 y).jpc (four_more m (past 4 y)) (used (LOOKUP_HIT - 1) left) (omega (arith, turns)) (omega (arith, small)))
  where
    y : Sketch
    y = the_pair f j

    m : ℕ
    m = four_more o y

    test : (bit_xor m key == 0) ≡ (four_byte_operand y == key)
    test = same_test m key ∙ ap (λ i. i == key) (four_more_is o y)

    goal : ℕ → Outcome
    goal offset = finished f t u s low place offset

    chosen : Bool → ℕ
    chosen c = if c then four_byte_operand (past 4 y) else offset_among count (past 8 y) key other

    by : (c : Bool) → (four_byte_operand y == key) ≡ c
        → ((four_byte_operand y == key) ≡ false → Ends (turning f t u s u t js place other key count low (past 8 y).jpc (four_more m (past 4 y)) (used (LOOKUP_HIT - 1) left) true) (goal (offset_among count (past 8 y) key other)))
        → Ends (turning f t u s a b js place other key (suc count) low j o left true) (goal (chosen (four_byte_operand y == key)))
    by true e rest = record {
      words = 19;
      guesses = false ∷ true ∷ [];
      is = hit f t u s a b js place other key (suc count) low j o left
          ∙ ap (λ (c : Bool). record (goal (four_more m (past 4 y))) { fine = c }) (both (same_bool true (bit_xor m key == 0)) (same_bool false (suc count == 0) && true) (test ∙ e) (ap (λ (c : Bool). same_bool false c && true) (not_zero count)))
          ∙ ap goal (four_more_is m (past 4 y) ∙ ap chosen (sym e));
    }
    by false e rest =
        let r = rest e in
        let some : nat_lt 0 (left (LOOKUP_HIT - 1)) ≡ true = lt-ltb 0 (left (LOOKUP_HIT - 1)) (omega (arith, turns)) in
        let fine = both (nat_lt 0 (left (LOOKUP_HIT - 1))) (same_bool false (bit_xor m key == 0) && (same_bool false (suc count == 0) && true)) some
        (both (same_bool false (bit_xor m key == 0)) (same_bool false (suc count == 0) && true) (ap (λ (c : Bool). same_bool false c) (test ∙ e)) (ap (λ (c : Bool). same_bool false c && true) (not_zero count))) in
        let next = λ (k : ℕ) (c : Bool). outcome_of (exec (suc r.words) r.guesses (turning f t u s u t js place other key k low (past 8 y).jpc (four_more m (past 4 y)) (used (LOOKUP_HIT - 1) left) c)) in
        record {
          words = before_last (suc r.words);
          guesses = false ∷ false ∷ r.guesses;
          is = ap outcome_of (miss (suc r.words) r.guesses f t u s a b js place other key (suc count) low j o left)
              ∙ ap (next (less_one (suc count))) fine ∙ ap (λ k. next k true) (counted count small) ∙ r.is ∙ ap goal (ap chosen (sym e));
        }

-- from the entry to the first pair
abbrev to_pairs : (n : ℕ) → ℕ
to_pairs n = suc (suc (suc (suc (suc (suc (suc (suc (suc (suc (suc (suc (suc (suc (suc (suc (suc (suc (suc (suc (suc (suc (suc (suc (suc (n)))))))))))))))))))))))))

abbrev before_pairs : (n : ℕ) → ℕ
before_pairs n = suc (suc (suc (suc (suc (suc (suc (suc (suc (suc (suc (suc (suc (suc (suc (suc (suc (suc (suc (suc (suc (suc (suc (suc (n))))))))))))))))))))))))

abbrev at_pairs : Sketch → Sketch
at_pairs z =
    let r = raw_operands z in
    let count = four_more (four_more 0 r) (past 4 r) in
    turning z z.next (head_of z.under) (tail_of z.under) (head_of z.under) z.next (tail_of z.above) ((z.jpc + (2 ^ 32 - 1)) % 2 ^ 32) (four_more 0 r) z.top count (drop 4 z.low) (past 8 r).jpc count z.left true

opens : (n : ℕ) (hs : List Bool) (x : Sketch) → let z = entered 171 x in exec (to_pairs n) hs z ≡ exec n hs (at_pairs z)
opens n hs x = refl

pub lookupswitch : (x : Sketch) → CanSearch (entered 171 x) → Row 171 lookupswitch_effect x
lookupswitch x can =
    let z = entered 171 x in
    let r = raw_operands z in
    let same : r ≡ operands z = operands_are z can.inside in
    let count = four_more (four_more 0 r) (past 4 r) in
    let count_is : count ≡ pairs z = four_more_is (four_more 0 r) (past 4 r) ∙ ap (λ (y : Sketch). four_byte_operand (past 4 y)) same in
    let turns = can.turns in
    let place = (z.jpc + (2 ^ 32 - 1)) % 2 ^ 32 in
    let e = search count z z.next (head_of z.under) (tail_of z.under) (head_of z.under) z.next (tail_of z.above) place (four_more 0 r) z.top (drop 4 z.low) (past 8 r).jpc count z.left (omega (arith, count_is, turns)) (omega arith) in
    let offset = offset_among count (past 8 r) z.top (four_more 0 r) in
    let offset_is : offset ≡ offset_among (pairs z) (past 8 (operands z)) z.top (default_offset z) =
    ap (λ k. offset_among k (past 8 r) z.top (four_more 0 r)) count_is
    ∙ ap (λ i. offset_among (pairs z) (past 8 r) z.top i) (four_more_is 0 r)
    ∙ ap (λ (y : Sketch). offset_among (pairs z) (past 8 y) z.top (four_byte_operand y)) same in
    makes (before_pairs (suc e.words)) e.guesses (lookupswitch_effect z) z true
    (ap outcome_of (opens (suc e.words) e.guesses x) ∙ e.is ∙ ap (λ (g : Effect). outcome true g z) (effect_is z offset (offset_among (pairs z) (past 8 (operands z)) z.top (default_offset z)) offset_is)) refl
