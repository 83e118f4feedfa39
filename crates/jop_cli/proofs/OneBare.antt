-- Bytes are those of one bare image.
use Rattle.std.proofs.Common.{◌≡◌, ℕ, ◌/◌, ◌%◌, ◌^◌, List, drop, get_or, sym, ◌∙◌, ap, arith}
use Rattle.image_file.specs.Bare.{BareContent, bare_bytes}
use Rattle.jop_cli.specs.promises.Images.{OneBareImage}

-- a number has its high byte and its low one
same_number : (m n : ℕ) → m / 2 ^ 8 ≡ n / 2 ^ 8 → m % 2 ^ 8 ≡ n % 2 ^ 8 → m ≡ n
same_number m n high low = omega (arith, high, low)

same_image : (a b : BareContent) → a.max_locals ≡ b.max_locals → a.max_stack ≡ b.max_stack → a.code ≡ b.code → a ≡ b
same_image a b locals stack code =
    ap (λ (x : ℕ). let i : BareContent = record { max_locals = x; max_stack = a.max_stack; code = a.code } in i) locals
    ∙ (ap (λ (x : ℕ). let i : BareContent = record { max_locals = b.max_locals; max_stack = x; code = a.code } in i) stack
    ∙ ap (λ (x : List ℕ). let i : BareContent = record { max_locals = b.max_locals; max_stack = b.max_stack; code = x } in i) code)

pub one_bare_image : OneBareImage
one_bare_image bytes a b ga gb =
    let e : bare_bytes a ≡ bare_bytes b = sym ga.spelling ∙ gb.spelling in
    let byte : (k : ℕ) → get_or (bare_bytes a) k 0 ≡ get_or (bare_bytes b) k 0 = λ k. ap (λ (xs : List ℕ). get_or xs k 0) e in
    let code : a.code ≡ b.code = ap (λ (xs : List ℕ). drop 14 xs) e in
    same_image a b (same_number a.max_locals b.max_locals (byte 6) (byte 7)) (same_number a.max_stack b.max_stack (byte 8) (byte 9)) code
