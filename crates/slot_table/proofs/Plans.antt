-- The plan of the executive is right, and its code calls the slots.
use Rattle.std.proofs.Common.{◌≡◌, ℕ, zero, suc, ◌+◌, ◌-◌, ◌*◌, ◌/◌, ◌%◌, ◌^◌, ◌<◌, ◌≤◌, nat_lt, ◌&&◌, Bool, true, false, cond, List, [], ◌∷◌, ◌++◌, length, map, take, drop, None, refl, sym, ap, ◌∙◌, subst, arith, lit<, lit≤, inl, inr, append_assoc, append-nil}
use Rattle.std.specs.Prelude.{codes, slice_get, Some}
use Rattle.std.specs.List.{list_all, flat_map, AllByRecursion}
use Rattle.std.proofs.Math.Nat.{mod-lt}
use Rattle.std.proofs.lemmas.Bool.{ltb-true}
use Rattle.std.proofs.lemmas.List.{length-append, length-map}
use Rattle.lists.proofs.Lemmas.{none≢some, some_same}
use Rattle.lists.specs.Tests.{and_left, and_right}
use Rattle.class_pool.specs.Utf8.{utf8_bytes, AreUnits}
use Rattle.class_pool.specs.Spelling.{u2}
use Rattle.descriptors.specs.declared.descriptor.Element.TheVariants as elements
use Rattle.descriptors.specs.declared.descriptor.FieldType.{FieldType}
use Rattle.descriptors.specs.declared.descriptor.MethodType.{MethodType}
use Rattle.descriptors.specs.Names.{is_instance_initializer}
use Rattle.descriptors.specs.Descriptors.{IsMethodDescriptor, argument_words}
use Rattle.class_rules.specs.Rules.{IsMethod, IsClassName}
use Rattle.class_making.specs.declared.item.Item.{Item}
use Rattle.class_making.specs.declared.item.Item.TheVariants.{Text, Class}
use Rattle.class_making.specs.declared.plan.Piece.{Piece}
use Rattle.class_making.specs.Plans.{piece_mentions, piece_bytes, method_mentions, plan_mentions, items_of, method_in, class_of}
use Rattle.class_making.specs.Right.{IsPoolText, IsRightMention, code_length, IsRightPiece, IsRightCodePlan, IsRightMethodPlan, IsRightPlan}
use Rattle.class_making.specs.Laws.{PlansAreClasses, ClassesSayPlans, PlansHaveBytes, ItemsAreFew}
use Rattle.slot_table.specs.declared.slot.Slot.{Slot}
use Rattle.slot_table.specs.Slots.{IsRightSlot, AreRightSlots, IsTable}
use Rattle.slot_table.specs.Executive.{call_place, front_bytes, back_bytes, bytes_in, method_of, call_of, main_pieces, frames_bytes, main_code, main_method, executive_plan, executive_of}
use Rattle.slot_table.specs.Laws.{ExecutiveIsAClass, call_bytes, ExecutiveCallsSlots}

-- ---- texts

abbrev are_small : List ℕ → Bool
are_small units = list_all (λ unit. nat_lt unit 65536) units

abbrev fits_pool : List ℕ → Bool
fits_pool units = are_small units && nat_lt (length (utf8_bytes units)) 65536

units_fit : (units : List ℕ) → are_small units ≡ true → AreUnits units
units_fit [] h = tt
units_fit (unit ∷ units) h =
    let here : unit < 65536 = ltb-true unit 65536 (and_left (nat_lt unit 65536) (are_small units) h) in
    (omega arith, units_fit units (and_right (nat_lt unit 65536) (are_small units) h))

pool_text : (units : List ℕ) → fits_pool units ≡ true → IsPoolText units
pool_text units h =
    let size : length (utf8_bytes units) < 65536 = ltb-true (length (utf8_bytes units)) 65536 (and_right (are_small units) (nat_lt (length (utf8_bytes units)) 65536) h) in
    (units_fit units (and_left (are_small units) (nat_lt (length (utf8_bytes units)) 65536) h), omega arith)

-- ---- descriptors

-- a descriptor with its types
abbrev Types : List ℕ → Type 0
Types units = (m : MethodType) × IsMethodDescriptor units m × (argument_words m.parameters ≤ 254)

abbrev nothing_types : Types (codes "()V")
nothing_types = (record { parameters = []; result = None }, (record { parameters = tt; result = tt; words = lit≤ tt }, refl), lit≤ tt)

abbrev strings : FieldType
strings = record { dimensions = 1; element = elements.Class (codes "java/lang/String") }

abbrev main_types : Types (codes "([Ljava/lang/String;)V")
main_types = (record { parameters = strings ∷ []; result = None }, (record { parameters = ((lit< tt, refl), tt); result = tt; words = lit≤ tt }, refl), lit≤ tt)

-- ---- the pieces of main

-- what main mentions, behind bytes and calls
bytes_mention : (bytes : List ℕ) (rest : List Piece) → flat_map piece_mentions (bytes_in bytes ++ rest) ≡ flat_map piece_mentions rest
bytes_mention [] rest = refl
bytes_mention (byte ∷ bytes) rest = bytes_mention bytes rest

only_bytes : (bytes : List ℕ) → flat_map piece_mentions (bytes_in bytes) ≡ []
only_bytes [] = refl
only_bytes (byte ∷ bytes) = only_bytes bytes

calls_mention : (slots : List Slot) (rest : List Piece) → flat_map piece_mentions (flat_map call_of slots ++ rest) ≡ map method_of slots ++ flat_map piece_mentions rest
calls_mention [] rest = refl
calls_mention (s ∷ slots) rest = ap (λ (xs : List Item). method_of s ∷ xs) (calls_mention slots rest)

-- the pieces, one part behind another
split : (slots : List Slot) (rounds : ℕ) → main_pieces slots rounds ≡ bytes_in (front_bytes rounds (length slots)) ++ (flat_map call_of slots ++ bytes_in (back_bytes (length slots)))
split slots rounds = append_assoc (bytes_in (front_bytes rounds (length slots))) (flat_map call_of slots) (bytes_in (back_bytes (length slots)))

main_mentions : (slots : List Slot) (rounds : ℕ) → flat_map piece_mentions (main_pieces slots rounds) ≡ map method_of slots
main_mentions slots rounds =
    let n : ℕ = length slots in
    ap (flat_map piece_mentions) (split slots rounds)
    ∙ bytes_mention (front_bytes rounds n) (flat_map call_of slots ++ bytes_in (back_bytes n))
    ∙ calls_mention slots (bytes_in (back_bytes n))
    ∙ ap (λ (xs : List Item). map method_of slots ++ xs) (only_bytes (back_bytes n))
    ∙ append-nil (map method_of slots)

bytes_length : (bytes : List ℕ) (rest : List Piece) → code_length (bytes_in bytes ++ rest) ≡ length bytes + code_length rest
bytes_length [] rest = omega arith
bytes_length (byte ∷ bytes) rest = omega (arith, bytes_length bytes rest)

only_length : (bytes : List ℕ) → code_length (bytes_in bytes) ≡ length bytes
only_length [] = refl
only_length (byte ∷ bytes) = omega (arith, only_length bytes)

calls_length : (slots : List Slot) (rest : List Piece) → code_length (flat_map call_of slots ++ rest) ≡ 3 * length slots + code_length rest
calls_length [] rest = omega arith
calls_length (s ∷ slots) rest = omega (arith, calls_length slots rest)

main_length : (slots : List Slot) (rounds : ℕ) → code_length (main_pieces slots rounds) ≡ 16 + 3 * length slots
main_length slots rounds =
    let n : ℕ = length slots in
    let all = ap code_length (split slots rounds) in
    let front : code_length (bytes_in (front_bytes rounds n) ++ (flat_map call_of slots ++ bytes_in (back_bytes n))) ≡ 9 + code_length (flat_map call_of slots ++ bytes_in (back_bytes n)) =
    bytes_length (front_bytes rounds n) (flat_map call_of slots ++ bytes_in (back_bytes n)) in
    let calls = calls_length slots (bytes_in (back_bytes n)) in
    let back : code_length (bytes_in (back_bytes n)) ≡ 7 = only_length (back_bytes n) in
    omega (arith, all, front, calls, back)

abbrev IsByte : ℕ → Type 0
IsByte byte = byte < 2 ^ 8

bytes_right : (bytes : List ℕ) (rest : List Piece) → AllByRecursion IsByte bytes → AllByRecursion IsRightPiece rest → AllByRecursion IsRightPiece (bytes_in bytes ++ rest)
bytes_right [] rest h r = r
bytes_right (byte ∷ bytes) rest h r = (h.0, bytes_right bytes rest h.1 r)

only_right : (bytes : List ℕ) → AllByRecursion IsByte bytes → AllByRecursion IsRightPiece (bytes_in bytes)
only_right [] h = tt
only_right (byte ∷ bytes) h = (h.0, only_right bytes h.1)

calls_right : (slots : List Slot) (rest : List Piece) → AllByRecursion IsRightPiece rest → AllByRecursion IsRightPiece (flat_map call_of slots ++ rest)
calls_right [] rest r = r
calls_right (s ∷ slots) rest r = (lit< tt, (tt, calls_right slots rest r))

high_right : (n : ℕ) → n / 2 ^ 8 % 2 ^ 8 < 2 ^ 8
high_right n = mod-lt (n / 2 ^ 8) (lit< tt)

low_right : (n : ℕ) → n % 2 ^ 8 < 2 ^ 8
low_right n = mod-lt n (lit< tt)

front_right : (rounds n : ℕ) → AllByRecursion IsByte (front_bytes rounds n)
front_right rounds n = (lit< tt, (lit< tt, (lit< tt, (lit< tt, (high_right rounds, (low_right rounds, (lit< tt, (high_right (9 + 3 * n), (low_right (9 + 3 * n), tt)))))))))

back_right : (n : ℕ) → AllByRecursion IsByte (back_bytes n)
back_right n = (lit< tt, (lit< tt, (lit< tt, (lit< tt, (high_right (2 ^ 16 - (10 + 3 * n)), (low_right (2 ^ 16 - (10 + 3 * n)), (lit< tt, tt)))))))

pieces_right : (slots : List Slot) (rounds : ℕ) → AllByRecursion IsRightPiece (main_pieces slots rounds)
pieces_right slots rounds =
    let n : ℕ = length slots in
    subst (AllByRecursion IsRightPiece) (sym (split slots rounds))
    (bytes_right (front_bytes rounds n) (flat_map call_of slots ++ bytes_in (back_bytes n)) (front_right rounds n) (calls_right slots (bytes_in (back_bytes n)) (only_right (back_bytes n) (back_right n))))

frame_case : (delta : ℕ) (short : Bool) → length (cond short (delta ∷ []) (0xFB ∷ u2 delta)) ≤ 3
frame_case delta true = lit≤ tt
frame_case delta false = lit≤ tt

frames_short : (n : ℕ) → length (frames_bytes n) ≤ 9
frames_short n = let short = frame_case (12 + 3 * n) (nat_lt (12 + 3 * n) 64) in omega (arith, short)

code_right : (slots : List Slot) (rounds : ℕ) → length slots ≤ 64 → IsRightCodePlan (main_code slots rounds)
code_right slots rounds few =
    let size = main_length slots rounds in
    let frames = frames_short (length slots) in
    let large : 65536 < 2 ^ 32 = lit< tt in
    record {
      max_stack = lit< tt;
      max_locals = lit< tt;
      not_empty = omega (arith, size);
      not_long = omega (arith, size, few);
      pieces = pieces_right slots rounds;
      stack_map = omega (arith, size, few, frames, large);
    }

-- ---- the plan

call_right : (s : Slot) → IsRightSlot s → IsRightMention (method_of s)
call_right s h =
    let types : IsMethod (codes "()V") = (nothing_types.0, nothing_types.1) in
    (types, (inl h.class, (h.class_fits, (inr (types, h.method), (h.method_fits, (pool_text (codes "()V") refl, tt))))))

calls_mentioned : (slots : List Slot) → AreRightSlots slots → AllByRecursion IsRightMention (map method_of slots)
calls_mentioned [] h = tt
calls_mentioned (s ∷ slots) h = (call_right s h.0, calls_mentioned slots h.1)

joined : (xs ys : List Item) → AllByRecursion IsRightMention xs → AllByRecursion IsRightMention ys → AllByRecursion IsRightMention (xs ++ ys)
joined [] ys p q = q
joined (x ∷ xs) ys p q = (p.0, joined xs ys p.1 q)

text_right : (units : List ℕ) → IsPoolText units → IsRightMention (Text units)
text_right units fits = (fits, tt)

main_mentioned : (slots : List Slot) (rounds : ℕ) → AreRightSlots slots → AllByRecursion IsRightMention (method_mentions (main_method slots rounds))
main_mentioned slots rounds h = (
  text_right (codes "main") (pool_text (codes "main") refl),
  (
    text_right (codes "([Ljava/lang/String;)V") (pool_text (codes "([Ljava/lang/String;)V") refl),
    (
      text_right (codes "Code") (pool_text (codes "Code") refl),
      joined (flat_map piece_mentions (main_pieces slots rounds)) (Text (codes "StackMapTable") ∷ []) (subst (AllByRecursion IsRightMention) (sym (main_mentions slots rounds)) (calls_mentioned slots h))
          (text_right (codes "StackMapTable") (pool_text (codes "StackMapTable") refl), tt),
    ),
  ),
)

main_right : (slots : List Slot) (rounds : ℕ) → length slots ≤ 64 → IsRightMethodPlan 0x0021 (main_method slots rounds)
main_right slots rounds few = record {
  flags = lit< tt;
  name = (refl, refl);
  descriptor = (main_types.0, main_types.1, (λ _. lit≤ tt, λ _. lit≤ tt));
  access = record { public_private = λ h. h.1 refl; public_protected = λ h. h.1 refl; private_protected = λ h. h.0 refl };
  plain = λ h. absurd (h refl);
  initializer = λ e. absurd (let f : false ≡ true = ap is_instance_initializer e in cc);
  code = (λ h. h refl, λ h. h refl, code_right slots rounds few);
}

mention_count : (slots : List Slot) (rounds : ℕ) → length (plan_mentions (executive_plan slots rounds)) ≡ suc (suc (suc (suc (suc (suc (length slots))))))
unfolding executive_plan
mention_count slots rounds =
    let calls : List Item = flat_map piece_mentions (main_pieces slots rounds) in
    let last : List Item = Text (codes "StackMapTable") ∷ [] in
    let count : length calls ≡ length slots = ap length (main_mentions slots rounds) ∙ length-map slots method_of in
    let both : length (calls ++ last) ≡ length calls + 1 = length-append calls last in
    let next : length calls + 1 ≡ suc (length slots) = omega (arith, count) in
    let method : length (method_mentions (main_method slots rounds)) ≡ suc (suc (suc (length (calls ++ last)))) = refl in
    let all : length (method_mentions (main_method slots rounds) ++ []) ≡ length (method_mentions (main_method slots rounds)) = ap length (append-nil (method_mentions (main_method slots rounds))) in
    ap (λ (n : ℕ). suc (suc n)) (all ∙ method ∙ ap (λ (n : ℕ). suc (suc (suc n))) (both ∙ next))

pub plan_room : ItemsAreFew → (slots : List Slot) (rounds : ℕ) → length slots ≤ 64 → length (items_of (executive_plan slots rounds)) ≤ 65534
plan_room items slots rounds few = omega (arith, items (executive_plan slots rounds), mention_count slots rounds, few)

class_right : (name : List ℕ) → IsClassName name → IsPoolText name → IsRightMention (Class name)
class_right name is fits = (inl is, (fits, tt))

plan_right : ItemsAreFew → (slots : List Slot) (rounds : ℕ) → IsTable slots → IsRightPlan (executive_plan slots rounds)
unfolding executive_plan
plan_right items slots rounds h = record {
  mentions = (
    class_right (codes "Cyclic") refl (pool_text (codes "Cyclic") refl),
    (class_right (codes "java/lang/Object") refl (pool_text (codes "java/lang/Object") refl), joined (method_mentions (main_method slots rounds)) [] (main_mentioned slots rounds h.right) tt),
  );
  room = plan_room items slots rounds h.few;
  oldest = lit≤ tt;
  newest = lit≤ tt;
  flags = lit< tt;
  of_interface = λ set. absurd (set refl);
  name = refl;
  superclass = (refl, tt);
  interfaces = tt;
  few_interfaces = lit< tt;
  fields = tt;
  few_fields = lit< tt;
  distinct_fields = tt;
  methods = (main_right slots rounds h.few, tt);
  few_methods = lit< tt;
  distinct_methods = (tt, tt);
}

pub is_class : ItemsAreFew → PlansAreClasses → PlansHaveBytes → ClassesSayPlans → ExecutiveIsAClass
unfolding executive_of
is_class items are have say slots rounds h =
    let right = plan_right items slots rounds h in
    (are (executive_plan slots rounds) right, have (executive_plan slots rounds) right, say (executive_plan slots rounds) right.room)

-- ---- the code

spelled_bytes : (items : List Item) (bytes : List ℕ) (rest : List Piece) → flat_map (piece_bytes items) (bytes_in bytes ++ rest) ≡ bytes ++ flat_map (piece_bytes items) rest
spelled_bytes items [] rest = refl
spelled_bytes items (byte ∷ bytes) rest = ap (λ (xs : List ℕ). byte ∷ xs) (spelled_bytes items bytes rest)

only_spelled : (items : List Item) (bytes : List ℕ) → flat_map (piece_bytes items) (bytes_in bytes) ≡ bytes
only_spelled items [] = refl
only_spelled items (byte ∷ bytes) = ap (λ (xs : List ℕ). byte ∷ xs) (only_spelled items bytes)

abbrev items_in : List Slot → ℕ → List Item
items_in slots rounds = items_of (executive_plan slots rounds)

spelled_calls : (table : List Slot) (rounds : ℕ) (slots : List Slot) (rest : List Piece)
    → flat_map (piece_bytes (items_in table rounds)) (flat_map call_of slots ++ rest) ≡ flat_map (call_bytes table rounds) slots ++ flat_map (piece_bytes (items_in table rounds)) rest
spelled_calls table rounds [] rest = refl
spelled_calls table rounds (s ∷ slots) rest = ap (λ (xs : List ℕ). call_bytes table rounds s ++ xs) (spelled_calls table rounds slots rest)

code_is : (slots : List Slot) (rounds : ℕ)
    → flat_map (piece_bytes (items_in slots rounds)) (main_pieces slots rounds) ≡ front_bytes rounds (length slots) ++ flat_map (call_bytes slots rounds) slots ++ back_bytes (length slots)
code_is slots rounds =
    let n : ℕ = length slots in
    let items : List Item = items_in slots rounds in
    ap (flat_map (piece_bytes items)) (split slots rounds)
    ∙ spelled_bytes items (front_bytes rounds n) (flat_map call_of slots ++ bytes_in (back_bytes n))
    ∙ ap (λ (xs : List ℕ). front_bytes rounds n ++ xs) (spelled_calls slots rounds slots (bytes_in (back_bytes n)) ∙ ap (λ (xs : List ℕ). flat_map (call_bytes slots rounds) slots ++ xs) (only_spelled items (back_bytes n)))
    ∙ sym (append_assoc (front_bytes rounds n) (flat_map (call_bytes slots rounds) slots) (back_bytes n))

-- the call of each slot stands behind those of the slots before it
calls_at : (table : List Slot) (rounds : ℕ) (slots : List Slot) (k : ℕ) (s : Slot) (rest : List ℕ) → slice_get slots k ≡ Some s
    → take 3 (drop (3 * k) (flat_map (call_bytes table rounds) slots ++ rest)) ≡ call_bytes table rounds s
calls_at table rounds [] k s rest there = absurd (none≢some s there)
calls_at table rounds (x ∷ slots) zero s rest there = ap (call_bytes table rounds) (some_same x s there)
calls_at table rounds (x ∷ slots) (suc k) s rest there =
    let behind : 3 * suc k ≡ suc (suc (suc (3 * k))) = omega arith in
    ap (λ (n : ℕ). take 3 (drop n (call_bytes table rounds x ++ flat_map (call_bytes table rounds) slots ++ rest))) behind
    ∙ ap (λ (xs : List ℕ). take 3 (drop (suc (suc (suc (3 * k)))) xs)) (append_assoc (call_bytes table rounds x) (flat_map (call_bytes table rounds) slots) rest)
    ∙ calls_at table rounds slots k s rest there

placed : (slots : List Slot) (rounds k : ℕ) (s : Slot) → slice_get slots k ≡ Some s
    → take 3 (drop (call_place k) (front_bytes rounds (length slots) ++ flat_map (call_bytes slots rounds) slots ++ back_bytes (length slots))) ≡ call_bytes slots rounds s
placed slots rounds k s there =
    let front : List ℕ = front_bytes rounds (length slots) in
    let calls : List ℕ = flat_map (call_bytes slots rounds) slots in
    let back : List ℕ = back_bytes (length slots) in
    let behind : call_place k ≡ suc (suc (suc (suc (suc (suc (suc (suc (suc (3 * k))))))))) = omega arith in
    ap (λ (xs : List ℕ). take 3 (drop (call_place k) xs)) (append_assoc front calls back) ∙ ap (λ (n : ℕ). take 3 (drop n (front ++ (calls ++ back)))) behind ∙ calls_at slots rounds slots k s back there

methods_are : (slots : List Slot) (rounds : ℕ) → (executive_of slots rounds).methods ≡ method_in (items_in slots rounds) (main_method slots rounds) ∷ []
unfolding executive_of executive_plan class_of
methods_are slots rounds = refl

pub calls_slots : ExecutiveCallsSlots
calls_slots slots rounds =
    (method_in (items_in slots rounds) (main_method slots rounds), methods_are slots rounds, record { code = code_is slots rounds; calls = λ k s there. ap (λ (xs : List ℕ). take 3 (drop (call_place k) xs)) (code_is slots rounds) ∙ placed slots rounds k s there; max_stack = refl; max_locals = refl; handlers = refl })
