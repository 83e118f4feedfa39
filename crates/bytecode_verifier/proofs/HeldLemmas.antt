-- Handlers that were asked at an earlier place.
use Rattle.std.proofs.Common.{◌≡◌, ℕ, ◌+◌, ◌<◌, ◌≤◌, Bool, true, false, ◌&&◌, List, [], length, map, get_or, Option, Some, None, refl, sym, ap, ap₂, ◌∙◌, arith}
use Rattle.std.specs.Prelude.{if◌then◌else◌, nat_le, nat_lt}
use Rattle.std.specs.Borrow.{Bor}
use Rattle.std.specs.Option.{option_map, option_copied}
use Rattle.std.specs.List.{list_all, AllWithin}
use Rattle.std.specs.List.Sorted.{IsPermutation}
use Rattle.std.proofs.lemmas.List.{get_or_default}
use Rattle.std.proofs.lemmas.Bool.{le-leb, lt-ltb, ltb-true, ltb-false}
use Rattle.std.proofs.lemmas.List.Folds.{list_all-map, list_all_at}
use Rattle.std.proofs.lemmas.List.Sums.{AllPass-from_list_all, list_all-from_AllPass}
use Rattle.std.proofs.lemmas.List.Sorted.{All-permutation, IsPermutation-map, IsPermutation-sym}
use Rattle.bytecode_model.specs.Program as model
use Rattle.bytecode_model.specs.Program.{Program}
use Rattle.bytecode_typing.specs.Types.{VarType, TypeFrame}
use Rattle.bytecode_typing.specs.Walk.{covers, is_handled, handlers_hold}
use Rattle.program_tables.specs.declared.operand.Handler.{Handler}
use Rattle.program_tables.specs.Meanings.{handler_seen}
use Rattle.verifier_types.specs.Frame.{frame_seen, frame_at_seen}
use Rattle.bytecode_verifier.specs.declared.place.Step.TheVariants.{Goes}
use Rattle.verifier_types.specs.declared.frame.TypeFrame as code
use Rattle.bytecode_verifier.specs.Handled.{takes, WasAsked, IsHeld, HaveSameLocals, HoldAlike}
use Rattle.bytecode_verifier.specs.Place.{IsHeldBehind}
use Rattle.bytecode_verifier.proofs.PlaceLemmas.{same_handlers}

-- ---- in another order

both_ways : (a b : Bool) → (a ≡ true → b ≡ true) → (b ≡ true → a ≡ true) → a ≡ b
both_ways true b h k = sym (h refl)
both_ways false true h k = k refl
both_ways false false h k = refl

permuted : {A : Type 0} (test : A → Bool) (xs ys : List A) → IsPermutation xs ys → list_all test xs ≡ list_all test ys
permuted test xs ys p =
    both_ways (list_all test xs) (list_all test ys)
    (λ h. list_all-from_AllPass test ys (All-permutation (λ x. test x ≡ true) xs ys p (AllPass-from_list_all test xs h)))
    (λ h. list_all-from_AllPass test xs (All-permutation (λ x. test x ≡ true) ys xs (IsPermutation-sym xs ys p) (AllPass-from_list_all test ys h)))

pub permuted_alike : (xs ys : List Handler) → IsPermutation xs ys → HoldAlike (map handler_seen ys) (map handler_seen xs)
permuted_alike xs ys p = λ P frames place f. sym (permuted (takes P frames place f) (map handler_seen xs) (map handler_seen ys) (IsPermutation-map handler_seen xs ys p))

-- ---- from an earlier place on

when : (b x : Bool) → (b ≡ true → x ≡ true) → (if b then x else true) ≡ true
when true x h = h refl
when false x h = refl

of_covered : (b x : Bool) → b ≡ true → (if b then x else true) ≡ true → x ≡ true
of_covered true x e h = h
of_covered false x e h = cc

first_of : (a b : Bool) → (a && b) ≡ true → a ≡ true
first_of true b e = refl
first_of false b e = cc

last_of : (a b : Bool) → (a && b) ≡ true → b ≡ true
last_of true b e = e
last_of false b e = cc

both_of : (a b : Bool) → a ≡ true → b ≡ true → (a && b) ≡ true
both_of a b e h = ap₂ (λ x y. x && y) e h

covered_before : (h : model.Handler) (before place : ℕ) → h.start ≤ before → before ≤ place → covers place h ≡ true → covers before h ≡ true
covered_before h before place s e c =
    let below : place < h.end = ltb-true place h.end (last_of (nat_le h.start place) (nat_lt place h.end) c) in
    both_of (nat_le h.start before) (nat_lt before h.end) (le-leb h.start before s) (lt-ltb before h.end (omega (arith, e, below)))

still_takes : (P : Program) (frames : ℕ → Option TypeFrame) (f : TypeFrame) (h : model.Handler) (before place : ℕ) → h.start ≤ before → before ≤ place → takes P frames before f h ≡ true → takes P frames place f h ≡ true
still_takes P frames f h before place s e t =
    when (covers place h) (is_handled P frames f h) (λ c. of_covered (covers before h) (is_handled P frames f h) (covered_before h before place s e c) t)

pub asked_before : (P : Program) (frames : ℕ → Option TypeFrame) (asked : Option ℕ) (place : ℕ) (f : TypeFrame) (hs : List Handler) (n : ℕ) → n ≤ length hs → AllWithin (λ h. WasAsked asked place h.start) hs 0 n → IsHeld P frames asked (Some f) (map handler_seen hs)
    → AllWithin (λ h. takes P frames place f (handler_seen h) ≡ true) hs 0 n
asked_before P frames None place f hs n fits earlier held = λ k d low high. absurd (earlier k d low high)
asked_before P frames (Some before) place f hs n fits earlier held = λ k d low high.
    let w = earlier k d low high in
    still_takes P frames f (handler_seen (get_or hs k d)) before place w.0 w.1
    (AllPass-from_list_all (λ h. takes P frames before f (handler_seen h)) hs (sym (list_all-map (takes P frames before f) handler_seen hs) ∙ held) k d (omega (arith, high, fits)))

-- ---- all of them

not_begun : (P : Program) (frames : ℕ → Option TypeFrame) (f : TypeFrame) (h : model.Handler) (place : ℕ) → nat_le h.start place ≡ false → takes P frames place f h ≡ true
not_begun P frames f h place e = ap (λ b. if b && nat_lt place h.end then is_handled P frames f h else true) e

pub one_more : (P : Program) (frames : ℕ → Option TypeFrame) (place : ℕ) (f : TypeFrame) (hs : List Handler) (i : ℕ) (d : Handler) → i < length hs → AllWithin (λ h. takes P frames place f (handler_seen h) ≡ true) hs 0 i
    → takes P frames place f (handler_seen (get_or hs i d)) ≡ true → AllWithin (λ h. takes P frames place f (handler_seen h) ≡ true) hs 0 (i + 1)
one_more P frames place f hs i d inside taken e = λ k x low high. one k x high (nat_lt k i) refl
  where
    one : (k : ℕ) (x : Handler) → k < i + 1 → (b : Bool) → nat_lt k i ≡ b → takes P frames place f (handler_seen (get_or hs k x)) ≡ true
    one k x high true t = taken k x (omega arith) (ltb-true k i t)
    one k x high false t =
        let same : k ≡ i = (let above = ltb-false k i t in omega (arith, above, high)) in
        ap (λ n. takes P frames place f (handler_seen (get_or hs n x))) same ∙ (ap (λ h. takes P frames place f (handler_seen h)) (get_or_default hs i x d inside) ∙ e)

pub all_asked : (P : Program) (frames : ℕ → Option TypeFrame) (place : ℕ) (f : TypeFrame) (hs : List Handler) (i end : ℕ) → end ≤ i
    → AllWithin (λ h. nat_le h.start place ≡ false) hs end (length hs) → AllWithin (λ h. takes P frames place f (handler_seen h) ≡ true) hs 0 i
    → handlers_hold P frames place f (map handler_seen hs) ≡ true
all_asked P frames place f hs i end past later taken =
    list_all-map (takes P frames place f) handler_seen hs
    ∙ list_all-from_AllPass (λ h. takes P frames place f (handler_seen h)) hs (λ k d inside. one k d inside (nat_lt k i) refl)
  where
    one : (k : ℕ) (d : Handler) → k < length hs → (b : Bool) → nat_lt k i ≡ b → takes P frames place f (handler_seen (get_or hs k d)) ≡ true
    one k d inside true e = taken k d (omega arith) (ltb-true k i e)
    one k d inside false e = not_begun P frames f (handler_seen (get_or hs k d)) place (later k d (let above = ltb-false k i e in omega (arith, above, past)) inside)

pub one_refuses : (P : Program) (frames : ℕ → Option TypeFrame) (place : ℕ) (f : TypeFrame) (hs : List Handler) (i : ℕ) (d : Handler) → i < length hs → takes P frames place f (handler_seen (get_or hs i d)) ≡ false
    → handlers_hold P frames place f (map handler_seen hs) ≡ false
one_refuses P frames place f hs i d inside e = list_all-map (takes P frames place f) handler_seen hs ∙ list_all_at (λ h. takes P frames place f (handler_seen h)) hs i d inside e

-- ---- frames between which a handler sees no difference

pub same_held : (P : Program) (frames : ℕ → Option TypeFrame) (place : ℕ) (f g : TypeFrame) (hs : List model.Handler) → HaveSameLocals f g → handlers_hold P frames place f hs ≡ handlers_hold P frames place g hs
same_held P frames place f g hs e = ap₂ (λ ls flag. handlers_hold P frames place (record { locals = ls; stack = []; flag = flag }) hs) e.0 e.1

pub held_here : (P Q : Program) (maps other : ℕ → Option TypeFrame) (asked : Option ℕ) (f : TypeFrame) (hs others : List model.Handler) → HoldAlike hs others → ((p : ℕ) → maps p ≡ other p) → Q ≡ P
    → IsHeld P maps asked (Some f) hs → IsHeld Q other asked (Some f) others
held_here P Q maps other None f hs others alike same e h = tt
held_here P Q maps other (Some place) f hs others alike same e h =
    ap (λ (R : Program). handlers_hold R other place f others) e ∙ (sym (same_handlers P maps other place f others same) ∙ (sym (alike P maps place f) ∙ h))

-- ---- the frame that falls in, by reference

pub referred_seen : (ls : List (List VarType)) (o : Option (Bor code.TypeFrame)) (x : Option code.TypeFrame) → option_copied o ≡ x → frame_at_seen ls o ≡ option_map (frame_seen ls) x
referred_seen ls None x e = ap (option_map (frame_seen ls)) e
referred_seen ls (Some g) x e = ap (option_map (frame_seen ls)) e

-- ---- what is told of the next instruction

pub held_when : (ls : List (List VarType)) (P : Program) (frames : ℕ → Option TypeFrame) (place : ℕ) (frame : Option code.TypeFrame) (hs : List model.Handler) (kept : Bool) → (kept ≡ true → IsHeld P frames (Some place) (option_map (frame_seen ls) frame) hs) → IsHeldBehind ls P frames place (Goes frame kept) hs
held_when ls P frames place frame hs true h = h refl
held_when ls P frames place frame hs false h = tt
