-- The code of the class's methods: its length, what it mentions, and that it is bytes.
use Rattle.std.proofs.Common.{◌≡◌, ℕ, zero, suc, ◌+◌, ◌-◌, ◌*◌, ◌/◌, ◌%◌, ◌^◌, ◌<◌, ◌≤◌, ◌==◌, Bool, true, false, List, [], ◌∷◌, ◌++◌, length, Some, None, refl, arith, lit<, lit≤}
use Rattle.std.specs.Prelude.{codes, filter, if◌then◌else◌}
use Rattle.std.specs.List.{flat_map, AllByRecursion, range_with_len}
use Rattle.std.proofs.Math.Nat.{mod-lt}
use Rattle.std.proofs.lemmas.List.FromFn.{length-range_with_len}
use Rattle.class_pool.specs.Spelling.{u2}
use Rattle.class_making.specs.declared.plan.Piece.{Piece}
use Rattle.class_making.specs.declared.plan.Piece.TheVariants.{Byte}
use Rattle.class_making.specs.Plans.{piece_mentions}
use Rattle.class_making.specs.Right.{IsRightMention, code_length, IsRightPiece, IsRightCodePlan}
use Rattle.core_classes.proofs.RightLemmas.{Types, int, pool_text, takes_int_types, is_method, method_right}
use Rattle.work_gen.specs.Work.{class_name, adder_name, adder_descriptor, bytes_in, call_of, turns_of, loop_bytes, adder_pieces, adder_code, is_called, called, main_end, main_pieces}
use Rattle.work_gen.proofs.Names.{is_name, fits}

abbrev pub adder_types : Types (codes "(I)I")
adder_types = (record { parameters = int ∷ []; result = Some int }, (record { parameters = ((lit< tt, tt), tt); result = (lit< tt, tt); words = lit≤ tt }, refl), lit≤ tt)

-- ---- bytes, before other pieces

bytes_mention : (bytes : List ℕ) (rest : List Piece) → flat_map piece_mentions (bytes_in bytes ++ rest) ≡ flat_map piece_mentions rest
bytes_mention [] rest = refl
bytes_mention (byte ∷ bytes) rest = bytes_mention bytes rest

bytes_length : (bytes : List ℕ) (rest : List Piece) → code_length (bytes_in bytes ++ rest) ≡ length bytes + code_length rest
bytes_length [] rest = omega arith
bytes_length (byte ∷ bytes) rest = omega (arith, bytes_length bytes rest)

bytes_are_pieces : (bytes : List ℕ) (rest : List Piece) → AllByRecursion (λ byte. byte < 2 ^ 8) bytes → AllByRecursion IsRightPiece rest → AllByRecursion IsRightPiece (bytes_in bytes ++ rest)
bytes_are_pieces [] rest h r = r
bytes_are_pieces (byte ∷ bytes) rest h r = (h.0, bytes_are_pieces bytes rest h.1 r)

-- ---- calls, before other pieces

abbrev IsFew : ℕ → Type 0
IsFew k = k ≤ 1000

calls_mention : (ks : List ℕ) (rest : List Piece) → AllByRecursion IsFew ks → AllByRecursion IsRightMention (flat_map piece_mentions rest) → AllByRecursion IsRightMention (flat_map piece_mentions (flat_map call_of ks ++ rest))
calls_mention [] rest h r = r
calls_mention (k ∷ ks) rest h r =
    (method_right class_name (adder_name k) adder_descriptor refl (pool_text class_name refl) (is_name k h.0) (pool_text (adder_name k) (fits k h.0)) (is_method adder_descriptor adder_types) (pool_text adder_descriptor refl), calls_mention ks rest h.1 r)

calls_count : (ks : List ℕ) (rest : List Piece) → length (flat_map piece_mentions (flat_map call_of ks ++ rest)) ≡ length ks + length (flat_map piece_mentions rest)
calls_count [] rest = omega arith
calls_count (k ∷ ks) rest = omega (arith, calls_count ks rest)

calls_length : (ks : List ℕ) (rest : List Piece) → code_length (flat_map call_of ks ++ rest) ≡ 3 * length ks + code_length rest
calls_length [] rest = omega arith
calls_length (k ∷ ks) rest = omega (arith, calls_length ks rest)

calls_are_pieces : (ks : List ℕ) (rest : List Piece) → AllByRecursion IsRightPiece rest → AllByRecursion IsRightPiece (flat_map call_of ks ++ rest)
calls_are_pieces [] rest r = r
calls_are_pieces (k ∷ ks) rest r = (lit< tt, (tt, calls_are_pieces ks rest r))

-- ---- an adder: the call before is none or one

abbrev before : Bool → ℕ → List Piece
before b k = (if b then [] else call_of (k - 1)) ++ Byte 0xAC ∷ []

before_mentions : (b : Bool) (k : ℕ) → k ≤ 1000 → AllByRecursion IsRightMention (flat_map piece_mentions (before b k))
before_mentions true k few = tt
before_mentions false k few =
    let less : k - 1 ≤ 1000 = omega arith in calls_mention ((k - 1) ∷ []) (Byte 0xAC ∷ []) (less, tt) tt

before_count : (b : Bool) (k : ℕ) → length (flat_map piece_mentions (before b k)) ≤ 1
before_count true k = lit≤ tt
before_count false k = lit≤ tt

before_length : (b : Bool) (k : ℕ) → code_length (before b k) ≤ 4
before_length true k = lit≤ tt
before_length false k = lit≤ tt

before_pieces : (b : Bool) (k : ℕ) → AllByRecursion IsRightPiece (before b k)
before_pieces true k = (lit< tt, tt)
before_pieces false k = (lit< tt, (tt, (lit< tt, tt)))

pub adder_mentions : (k : ℕ) → k ≤ 1000 → AllByRecursion IsRightMention (flat_map piece_mentions (adder_pieces k))
adder_mentions k few = before_mentions (k % 10 == 1) k few

pub adder_count : (k : ℕ) → length (flat_map piece_mentions (adder_pieces k)) ≤ 1
adder_count k = before_count (k % 10 == 1) k

loop_right : (turns : ℕ) → turns < 2 ^ 8 → AllByRecursion (λ byte. byte < 2 ^ 8) (loop_bytes turns)
loop_right turns h = (
  lit< tt,
  (lit< tt, (lit< tt, (lit< tt, (h, (lit< tt, (lit< tt, (lit< tt, (lit< tt, (lit< tt, (lit< tt, (lit< tt, (lit< tt, (lit< tt, (lit< tt, (lit< tt, (lit< tt, (lit< tt, (lit< tt, tt)))))))))))))))))),
)

turns_fit : (k : ℕ) → turns_of k < 2 ^ 8
turns_fit k =
    let small : k % 8 < 8 = mod-lt k (lit< tt) in omega (arith, small)

pub adder_code_right : (k : ℕ) → IsRightCodePlan (adder_code k)
unfolding adder_code
adder_code_right k =
    let size : code_length (adder_pieces k) ≡ 19 + code_length (before (k % 10 == 1) k) = bytes_length (loop_bytes (turns_of k)) (before (k % 10 == 1) k) in
    let few : code_length (before (k % 10 == 1) k) ≤ 4 = before_length (k % 10 == 1) k in
    let large : 65536 < 2 ^ 32 = lit< tt in
    record {
      max_stack = lit< tt;
      max_locals = lit< tt;
      not_empty = omega (arith, size);
      not_long = omega (arith, size, few);
      pieces = bytes_are_pieces (loop_bytes (turns_of k)) (before (k % 10 == 1) k) (loop_right (turns_of k) (turns_fit k)) (before_pieces (k % 10 == 1) k);
      stack_map = omega (arith, size, few, large);
    }

-- ---- main

filter_all : (P : ℕ → Type 0) (p : ℕ → Bool) (xs : List ℕ) → AllByRecursion P xs → AllByRecursion P (filter p xs)
filter_all P p [] h = tt
filter_all P p (x ∷ xs) h = by_test (p x) (filter_all P p xs h.1)
  where
    by_test : (b : Bool) → AllByRecursion P (filter p xs) → AllByRecursion P (if b then x ∷ filter p xs else filter p xs)
    by_test true r = (h.0, r)
    by_test false r = r

filter_count : (p : ℕ → Bool) (xs : List ℕ) → length (filter p xs) ≤ length xs
filter_count p [] = lit≤ tt
filter_count p (x ∷ xs) = by_test (p x) (filter_count p xs)
  where
    by_test : (b : Bool) → length (filter p xs) ≤ length xs → length (if b then x ∷ filter p xs else filter p xs) ≤ suc (length xs)
    by_test true r = omega (arith, r)
    by_test false r = omega (arith, r)

pub range_all : (P : ℕ → Type 0) (a n : ℕ) → ((k : ℕ) → a ≤ k → k < a + n → P k) → AllByRecursion P (range_with_len a n)
range_all P a zero h = tt
range_all P a (suc n) h =
    let low : a ≤ a = omega arith in
    let high : a < a + suc n = omega arith in
    (h a low high, range_all P (a + 1) n (λ k l u. let lower : a ≤ k = omega arith in let upper : k < a + suc n = omega arith in h k lower upper))

called_few : (n : ℕ) → n ≤ 1000 → AllByRecursion IsFew (called n)
called_few n few = filter_all IsFew (is_called n) (range_with_len 1 n) (range_all IsFew 1 n (λ k l u. omega arith))

called_count : (n : ℕ) → length (called n) ≤ n
called_count n = omega (arith, filter_count (is_called n) (range_with_len 1 n), length-range_with_len 1 n)

end_mentions : AllByRecursion IsRightMention (flat_map piece_mentions main_end)
end_mentions =
    (method_right (codes "jop/Io") (codes "write") (codes "(I)V") refl (pool_text (codes "jop/Io") refl) refl (pool_text (codes "write") refl) (is_method (codes "(I)V") takes_int_types) (pool_text (codes "(I)V") refl), tt)

pub main_mentions : (n : ℕ) → n ≤ 1000 → AllByRecursion IsRightMention (flat_map piece_mentions (main_pieces n))
unfolding main_pieces
main_mentions n few = calls_mention (called n) main_end (called_few n few) end_mentions

pub main_count : (n : ℕ) → length (flat_map piece_mentions (main_pieces n)) ≤ n + 1
unfolding main_pieces
main_count n = omega (arith, calls_count (called n) main_end, called_count n)

u2_right : (n : ℕ) → AllByRecursion (λ byte. byte < 2 ^ 8) (0x11 ∷ u2 n)
u2_right n = (lit< tt, (mod-lt (n / 2 ^ 8) (lit< tt), (mod-lt n (lit< tt), tt)))

pub main_code_right : (n : ℕ) → n ≤ 1000 → IsRightCodePlan (record { max_stack = 1; max_locals = 1; pieces = main_pieces n; stack_map = None })
unfolding main_pieces
main_code_right n few =
    let rest : List Piece = flat_map call_of (called n) ++ main_end in
    let size : code_length (bytes_in (0x11 ∷ u2 n) ++ rest) ≡ 3 + code_length rest = bytes_length (0x11 ∷ u2 n) rest in
    let of_calls : code_length rest ≡ 3 * length (called n) + 4 = calls_length (called n) main_end in
    let count : length (called n) ≤ n = called_count n in
    record {
      max_stack = lit< tt;
      max_locals = lit< tt;
      not_empty = omega (arith, size);
      not_long = omega (arith, size, of_calls, count, few);
      pieces = bytes_are_pieces (0x11 ∷ u2 n) rest (u2_right n) (calls_are_pieces (called n) main_end (lit< tt, (tt, (lit< tt, tt))));
      stack_map = tt;
    }
