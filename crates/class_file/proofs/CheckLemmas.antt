-- The lengths of what is written.
use Rattle.std.proofs.Common.{◌≡◌, ℕ, suc, ◌+◌, ◌*◌, ◌^◌, ◌<◌, ◌≤◌, List, [], ◌∷◌, ◌++◌, length, get_or, drop, refl, sym, ap, subst, ◌∙◌, add-one, drop-cons, length-append, nat_le, le-leb, arith}
use Rattle.std.specs.Prelude.{IsTrue, ◌↔◌}
use Rattle.std.proofs.lemmas.Bool.{leb-true}
use Rattle.std.specs.List.{AllByRecursion, flat_map}
use Rattle.std.proofs.lemmas.List.{drop_all}
use Rattle.std.proofs.lemmas.List.Concat.{flat_map-cons}
use Rattle.class_pool.specs.ClassSpelling.{HandlerParts, NamedParts, counted, named_bytes, handler_bytes, code_bytes}
use Rattle.class_pool.specs.declared.class.Code.{Code as CodeParts}
use Rattle.class_pool.specs.Structure.{IsHalf, IsHandler, IsNamedInRange, AreCounted, HasCodeRange}

-- so many bytes were counted, and those of the attributes from a place on are to come
pub record IsCounted (all : List NamedParts) (i total : ℕ) : Type 0 where
  pub sum : total + length (flat_map named_bytes (drop i all)) ≡ length (flat_map named_bytes all)
  pub few : total ≤ i * (2 ^ 33)
  pub rest : AllByRecursion IsNamedInRange (drop i all)

named_long : (a : NamedParts) → length (named_bytes a) ≡ 6 + length a.1
named_long a = omega arith

pub counts_on : (all : List NamedParts) (i total : ℕ) (a : NamedParts) (n : ℕ) → i < length all → a ≡ get_or all i a → n ≡ length a.1 → IsCounted all i total → IsCounted all (i + 1) (total + (6 + n))
counts_on all i total a n lt is same so_far =
    let at : drop i all ≡ a ∷ drop (i + 1) all = drop-cons all i a lt ∙ ap (λ (x : NamedParts). x ∷ drop (suc i) all) (sym is) ∙ ap (λ (k : ℕ). a ∷ drop k all) (sym (add-one i)) in
    let here : flat_map named_bytes (drop i all) ≡ named_bytes a ++ flat_map named_bytes (drop (i + 1) all) = ap (flat_map named_bytes) at ∙ flat_map-cons named_bytes a (drop (i + 1) all) in
    let both : AllByRecursion IsNamedInRange (a ∷ drop (i + 1) all) = subst (AllByRecursion IsNamedInRange) at so_far.rest in
    let long = named_long a in
    record {
      sum = omega (arith, so_far.sum, ap (λ (b : List ℕ). length b) here, length-append (named_bytes a) (flat_map named_bytes (drop (i + 1) all)));
      few = let fits = both.0.1 in omega (arith, so_far.few);
      rest = both.1;
    }

pub step_fits : (all : List NamedParts) (i total : ℕ) (a : NamedParts) (n : ℕ) → i < length all → length all < 2 ^ 16 → a ≡ get_or all i a → n ≡ length a.1 → IsCounted all i total → total + (6 + n) < 2 ^ 64
step_fits all i total a n lt short is same so_far =
    let more = counts_on all i total a n lt is same so_far in
    let few = more.few in
    omega arith

pub counted_all : (all : List NamedParts) (i total : ℕ) → length all ≤ i → IsCounted all i total → total ≡ length (flat_map named_bytes all)
counted_all all i total le so_far =
    let none : length (flat_map named_bytes (drop i all)) ≡ 0 = ap (λ (xs : List NamedParts). length (flat_map named_bytes xs)) (drop_all i all le) in
    omega (arith, so_far.sum)

handlers_long : (hs : List HandlerParts) → length (flat_map handler_bytes hs) ≡ 8 * length hs
handlers_long [] = refl
handlers_long (h ∷ hs) = ap (λ (b : List ℕ). length b) (flat_map-cons handler_bytes h hs) ∙ omega (arith, length-append (handler_bytes h) (flat_map handler_bytes hs), handlers_long hs)

code_long : (c : CodeParts) → length (code_bytes c) ≡ 12 + length c.code + 8 * length c.handlers + length (flat_map named_bytes c.attributes)
code_long c =
    omega (
      arith,
      handlers_long c.handlers,
      length-append c.code (counted handler_bytes c.handlers ++ counted named_bytes c.attributes),
      length-append (counted handler_bytes c.handlers) (counted named_bytes c.attributes),
    )

named_few : (all : List NamedParts) → AllByRecursion IsNamedInRange all → length (flat_map named_bytes all) ≤ length all * 2 ^ 33
named_few [] h = omega arith
named_few (a ∷ all) h =
    let more = named_few all h.1 in
    let long = named_long a in
    let fits = h.0.1 in
    omega (arith, ap (λ (b : List ℕ). length b) (flat_map-cons named_bytes a all), length-append (named_bytes a) (flat_map named_bytes all))

code_fits : (c : CodeParts) (named : ℕ) → length c.code ≤ 4294967295 → AreCounted IsHandler c.handlers → AreCounted IsNamedInRange c.attributes → named ≡ length (flat_map named_bytes c.attributes)
    → 12 + length c.code + 8 * length c.handlers + named < 2 ^ 64
code_fits c named short handlers attributes is =
    let few = named_few c.attributes attributes.1 in
    let a = attributes.0 in
    let h = handlers.0 in
    omega arith

code_decided : (c : CodeParts) (named : ℕ) → IsHalf c.max_stack → IsHalf c.max_locals → length c.code ≤ 4294967295 → AreCounted IsHandler c.handlers → AreCounted IsNamedInRange c.attributes → named ≡ length (flat_map named_bytes c.attributes)
    → IsTrue (nat_le (12 + length c.code + 8 * length c.handlers + named) 4294967295) ↔ (HasCodeRange c × (length (code_bytes c) < 2 ^ 32))
code_decided c named stack locals short handlers attributes is =
    let long = code_long c in (
      (λ t. let le = leb-true (12 + length c.code + 8 * length c.handlers + named) 4294967295 t in
          (record { max_stack = stack; max_locals = locals; length = omega arith; handlers = handlers; attributes = attributes }, omega arith)),
      (λ h. let lt = h.1 in le-leb (12 + length c.code + 8 * length c.handlers + named) 4294967295 (omega arith)),
    )

-- the same where the parts go by other names
pub parts_fit : (c : CodeParts) (code : List ℕ) (hs : List HandlerParts) (all : List NamedParts) (named : ℕ) → code ≡ c.code → hs ≡ c.handlers → all ≡ c.attributes
    → length code ≤ 4294967295 → AreCounted IsHandler hs → AreCounted IsNamedInRange all → named ≡ length (flat_map named_bytes all) → 12 + length code + 8 * length hs + named < 2 ^ 64
parts_fit c code hs all named e f g short handlers attributes is =
    rw (e, f) (code_fits c named (subst (λ (b : List ℕ). length b ≤ 4294967295) e short) (subst (AreCounted IsHandler) f handlers) (subst (AreCounted IsNamedInRange) g attributes) (is ∙ ap (λ (xs : List NamedParts). length (flat_map named_bytes xs)) g))

pub parts_decided : (c : CodeParts) (code : List ℕ) (hs : List HandlerParts) (all : List NamedParts) (named : ℕ) → code ≡ c.code → hs ≡ c.handlers → all ≡ c.attributes
    → IsHalf c.max_stack → IsHalf c.max_locals
    → length code ≤ 4294967295 → AreCounted IsHandler hs → AreCounted IsNamedInRange all → named ≡ length (flat_map named_bytes all)
    → IsTrue (nat_le (12 + length code + 8 * length hs + named) 4294967295) ↔ (HasCodeRange c × (length (code_bytes c) < 2 ^ 32))
parts_decided c code hs all named e f g stack locals short handlers attributes is =
    rw (e, f) (code_decided c named stack locals (subst (λ (b : List ℕ). length b ≤ 4294967295) e short) (subst (AreCounted IsHandler) f handlers) (subst (AreCounted IsNamedInRange) g attributes) (is ∙ ap (λ (xs : List NamedParts). length (flat_map named_bytes xs)) g))
