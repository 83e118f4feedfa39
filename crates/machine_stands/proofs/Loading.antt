-- The cache after a look-up.
use Rattle.std.proofs.Common.{◌≡◌, ℕ, zero, suc, ◌+◌, ◌-◌, ◌<◌, ◌≤◌, Bool, true, false, ◌==◌, if◌then◌else◌, List, [], ◌∷◌, Option, Some, None, length, refl, sym, ◌∙◌, ap, subst, arith}
use Rattle.std.specs.Prelude.{All, IsTrue, IfSome, IsSomeAnd, nat_le, nat_lt, is_some}
use Rattle.std.proofs.Math.Nat.{mod-lt}
use Rattle.std.proofs.lemmas.Bool.{and_parts}
use Rattle.std.proofs.lemmas.Bool.Decides.{nat_tests}
use Rattle.base.specs.Packed.{words_for, words_of_bytes, PackedHasWords}
use Rattle.method_cache.specs.Contents.{Entry, Cache, AreApart, HaveWords, blocks_for, blocks_of, total_blocks, fitting, find_words, is_cached, can_load, loaded}
use Rattle.bytecode_model.specs.Program.{Program, Body, body_of}
use Rattle.image_facts.specs.Places.{Places}
use Rattle.machine_stands.specs.StandsFor.{IsCopy}
use Rattle.machine_stands.proofs.Standing.{HasCache}

-- ---- the methods that fit

taken_if : (Q : List Entry → Type 0) (b : Bool) (e : Entry) (es : List Entry) → Q [] → (b ≡ true → Q (e ∷ es)) → Q (if b then e ∷ es else [])
taken_if Q true e es none some = some refl
taken_if Q false e es none some = none

fitting_fits : (w room : ℕ) (es : List Entry) → total_blocks w (fitting w room es) ≤ room
fitting_fits w room [] = omega arith
fitting_fits w room (e ∷ es) =
    taken_if (λ xs. total_blocks w xs ≤ room) (nat_le (blocks_of w e) room) e (fitting w (room - blocks_of w e) es) (omega arith)
    (λ h. let rest = fitting_fits w (room - blocks_of w e) es in grind (arith, nat_tests, h, rest))

passed : (b : Bool) (ws : List ℕ) (o p : Option (List ℕ)) → (o ≡ None → p ≡ None) → (if b then Some ws else o) ≡ None → (if b then Some ws else p) ≡ None
passed true ws o p rest h = h
passed false ws o p rest h = rest h

not_among : (w room m : ℕ) (es : List Entry) → find_words m es ≡ None → find_words m (fitting w room es) ≡ None
not_among w room m [] h = refl
not_among w room m (e ∷ es) h =
    taken_if (λ xs. find_words m xs ≡ None) (nat_le (blocks_of w e) room) e (fitting w (room - blocks_of w e) es) refl
    (λ fits. passed (e.method == m) e.words (find_words m es) (find_words m (fitting w (room - blocks_of w e) es)) (not_among w (room - blocks_of w e) m es) h)

still_apart : (w room : ℕ) (es : List Entry) → AreApart es → AreApart (fitting w room es)
still_apart w room [] h = tt
still_apart w room (e ∷ es) h =
    taken_if AreApart (nat_le (blocks_of w e) room) e (fitting w (room - blocks_of w e) es) tt
    (λ fits. (not_among w (room - blocks_of w e) e.method es h.0, still_apart w (room - blocks_of w e) es h.1))

still_words : (w room : ℕ) (es : List Entry) → HaveWords es → HaveWords (fitting w room es)
still_words w room [] h = tt
still_words w room (e ∷ es) h = taken_if HaveWords (nat_le (blocks_of w e) room) e (fitting w (room - blocks_of w e) es) tt (λ fits. (h.0, still_words w (room - blocks_of w e) es h.1))

none_all : (Q : Entry → Type 0) → All Q []
none_all Q k d h = absurd (omega (arith, h))

more_all : (Q : Entry → Type 0) (e : Entry) (es : List Entry) → Q e → All Q es → All Q (e ∷ es)
more_all Q e es q h zero d l = q
more_all Q e es q h (suc k) d l = h k d (omega (arith, l))

still_all : (Q : Entry → Type 0) (w room : ℕ) (es : List Entry) → All Q es → All Q (fitting w room es)
still_all Q w room [] h = h
still_all Q w room (e ∷ es) h =
    taken_if (All Q) (nat_le (blocks_of w e) room) e (fitting w (room - blocks_of w e) es) (none_all Q)
    (λ fits. more_all Q e (fitting w (room - blocks_of w e) es) (h 0 e (omega arith)) (still_all Q w (room - blocks_of w e) es (λ k d l. h (suc k) d (omega (arith, l)))))

-- ---- a method is loaded

absent : (o : Option (List ℕ)) → is_some o ≡ false → o ≡ None
absent None h = refl
absent (Some ws) h = absurd (cc)

same_method : (k : ℕ) → k == k ≡ true
same_method k = grind (arith, nat_tests)

pub load : PackedHasWords → (P : Program) (pl : Places) (size : ℕ) (c : Cache) (k : ℕ) (b : Body) → HasCache P pl size c → body_of P k ≡ Some b → is_cached (pl.method k) c ≡ false
    → HasCache P pl size (loaded (pl.method k) (words_of_bytes b.code) c) × (is_cached (pl.method k) (loaded (pl.method k) (words_of_bytes b.code) c) ≡ true)
load packed P pl size c k b h body out =
    let ws = words_of_bytes b.code in
    let m = pl.method k in
    let e : Entry = record { method = m; words = ws } in
    let can : IsTrue (can_load (words_for (length b.code)) c) = subst (λ o. IfSome o (λ (u : Body). IsTrue (can_load (words_for (length u.code)) c))) body (h.0.methods k) in
    let parts = and_parts (nat_lt 0 (words_for (length b.code))) _ can in
    let some : 0 < length ws = grind (arith, nat_tests, parts.0, packed b.code) in
    let fits : nat_le (blocks_of c.block_words e) c.blocks ≡ true = ap (λ (n : ℕ). nat_le (blocks_for c.block_words n) c.blocks) (packed b.code) ∙ parts.1 in
    let rest = fitting c.block_words (c.blocks - blocks_of c.block_words e) c.contents in
    let first : fitting c.block_words c.blocks (e ∷ c.contents) ≡ e ∷ rest = ap (λ (t : Bool). if t then e ∷ rest else []) fits in
    let copy : IsCopy P pl e = record { method = k; place = refl; words = subst (λ o. IsSomeAnd o (λ (u : Body). ws ≡ words_of_bytes u.code)) (sym body) refl } in (
      (
        record { image = h.0.image; methods = h.0.methods },
        record {
          fits = fitting_fits c.block_words c.blocks (e ∷ c.contents);
          apart = still_apart c.block_words c.blocks (e ∷ c.contents) (absent (find_words m c.contents) out, h.1.apart);
          have_words = still_words c.block_words c.blocks (e ∷ c.contents) (some, h.1.have_words);
          next = mod-lt (c.next + blocks_for c.block_words (length ws)) (omega (arith, h.1.next));
        },
        still_all (IsCopy P pl) c.block_words c.blocks (e ∷ c.contents) (more_all (IsCopy P pl) e c.contents copy h.2),
      ),
      ap (λ (es : List Entry). is_some (find_words m es)) first ∙ ap (λ (t : Bool). is_some (if t then Some ws else find_words m rest)) (same_method m),
    )
