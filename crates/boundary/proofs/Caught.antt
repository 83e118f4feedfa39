-- What the handlers of a typed method catch: objects of classes.
use Rattle.std.proofs.Common.{◌≡◌, ℕ, zero, suc, ◌<◌, Bool, true, false, ◌||◌, eqb, if◌then◌else◌, List, [], ◌∷◌, Option, Some, refl, sym, ◌∙◌, ap, subst, arith}
use Rattle.std.specs.Prelude.{slice_get, nat_le, nat_lt}
use Rattle.std.specs.List.{list_all}
use Rattle.std.proofs.lemmas.Bool.{false≢true, and_parts, and_from, le-leb, lt-ltb}
use Rattle.lists.specs.Numbers.{is_among}
use Rattle.lists.proofs.Lemmas.{none≢some, some_same}
use Rattle.bytecode_model.specs.Types.{Kind, OfClass, OfNumbers, OfReferences}
use Rattle.bytecode_model.specs.Program.{Program, Method, Body, Handler}
use Rattle.bytecode_typing.specs.Tests.{Holds}
use Rattle.bytecode_typing.specs.Types.{TypeFrame, ReferenceTo}
use Rattle.bytecode_typing.specs.Walk.{covers, is_handled, is_throwable, caught_kind, handlers_hold}
use Rattle.bytecode_typing.specs.Assignable.{flows_to}
use Rattle.bytecode_typing.specs.Typings.{IsTypingOf, frame_among}

-- ---- a typing has a frame at each start

abbrev IsFramed : List (ℕ × TypeFrame) → ℕ → Type 0
IsFramed xs pc = (f : TypeFrame) × (frame_among xs pc ≡ Some f)

framed_case : (x : ℕ × TypeFrame) (xs : List (ℕ × TypeFrame)) (p pc : ℕ) (pcs : List ℕ) (y : Bool) → x.0 ≡ p → eqb x.0 pc ≡ y → (eqb p pc || is_among pcs pc) ≡ true → (is_among pcs pc ≡ true → IsFramed xs pc)
    → (f : TypeFrame) × ((if y then Some x.1 else frame_among xs pc) ≡ Some f)
framed_case x xs p pc pcs true e t h later = (x.1, refl)
framed_case x xs p pc pcs false e t h later =
    let other : eqb p pc ≡ false = ap (λ (q : ℕ). eqb q pc) (sym e) ∙ t in
    later (ap (λ (b : Bool). b || is_among pcs pc) (sym other) ∙ h)

pub framed : (P : Program) (n : ℕ) (m : Method) (b : Body) (maps : ℕ → Option TypeFrame) (pcs : List ℕ) (falling : Option TypeFrame) (xs : List (ℕ × TypeFrame)) (behind : Option TypeFrame)
    → IsTypingOf P n m b maps pcs falling xs behind → (pc : ℕ) → is_among pcs pc ≡ true → IsFramed xs pc
framed P n m b maps [] falling xs behind h pc there = absurd (false≢true there)
framed P n m b maps (p ∷ pcs) falling [] behind h pc there = absurd h
framed P n m b maps (p ∷ pcs) falling (x ∷ xs) behind h pc there =
    framed_case x xs p pc pcs (eqb x.0 pc) h.0 refl there (framed P n m b maps pcs h.1.0 xs behind h.1.2 pc)

-- ---- what a handler catches where it covers a place with a frame

holds_true : (b : Bool) → Holds b → b ≡ true
holds_true true h = refl
holds_true false h = absurd h

all_get : {A : Type 0} (test : A → Bool) (xs : List A) (i : ℕ) (x : A) → list_all test xs ≡ true → slice_get xs i ≡ Some x → test x ≡ true
all_get test [] i x h at = absurd (none≢some x at)
all_get test (y ∷ ys) zero x h at = subst (λ z. test z ≡ true) (some_same y x at) (and_parts (test y) (list_all test ys) h).0
all_get test (y ∷ ys) (suc i) x h at = all_get test ys i x (and_parts (test y) (list_all test ys) h).1 at

covered : (b c : Bool) → b ≡ true → (if b then c else true) ≡ true → c ≡ true
covered true c e h = h
covered false c e h = absurd (false≢true e)

pub is_class : (P : Program) (k : Kind) → is_throwable P (Some k) ≡ true → (c : ℕ) × (k ≡ OfClass c)
is_class P (OfClass c) h = (c, refl)
is_class P (OfNumbers a) h = absurd (false≢true h)
is_class P (OfReferences k) h = absurd (false≢true h)

pub throwable : (P : Program) (frames : ℕ → Option TypeFrame) (f : TypeFrame) (hs : List Handler) (i : ℕ) (h : Handler) → slice_get hs i ≡ Some h → h.start < h.end → Holds (handlers_hold P frames h.start f hs)
    → is_throwable P h.caught ≡ true
throwable P frames f hs i h at some holds =
    let here = all_get (λ (g : Handler). if covers h.start g then is_handled P frames f g else true) hs i h (holds_true (handlers_hold P frames h.start f hs) holds) at in
    let covers_it : covers h.start h ≡ true = and_from (nat_le h.start h.start) (nat_lt h.start h.end) (le-leb h.start h.start (omega arith)) (lt-ltb h.start h.end some) in
    (and_parts (is_throwable P h.caught) (flows_to P (record f { stack = ReferenceTo (caught_kind h.caught) ∷ [] }) (frames h.target)) (covered (covers h.start h) (is_handled P frames f h) covers_it here)).0
